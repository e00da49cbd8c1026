-- Lists as far as they were read, and that they are lists of the grammar once their last thing was read.
use Rattle.std.proofs.Common.{◌≡◌, sym, ap, subst, refl, suc, ◌≤◌, Bool, true, false, List, [], ◌∷◌, ◌++◌, inl, inr, true≢false}
use Rattle.std.specs.Prelude.{◌&&◌, nat_le}
use Rattle.std.proofs.lemmas.Bool.{le-leb}
use Rattle.es_model.specs.declared.names.Identifier.{Identifier}
use Rattle.es_model.specs.declared.names.Pair.{Pair}
use Rattle.es_model.specs.Tree as t
use Rattle.es_model.specs.Tree.{Tree, Text}
use Rattle.es_model.specs.Levels.{level, defaults, Holder, InObject, InClass}
use Rattle.es_model.specs.Readings.{Tokens, Reading, nothing, never, ◌▸◌, the, name}
use Rattle.es_model.specs.Spelling.{Spells, separated, joined, sequence, pieces, piece, object_members, class_members, Semicolons, no_more, one_more, are_elements, names, pairs, Initialised}
use Rattle.parser_forms.specs.Kept.{followed}

-- A list with one more thing at its end.

pub data Grown {A : Type 1} : List {1} A → A → List {1} A → Type 1 where
  only : {last : A} → Grown [] last (last ∷ [])
  later : {one last : A} {list longer : List {1} A} → Grown list last longer → Grown (one ∷ list) last (one ∷ longer)

pub grown : {s : t.Sort} (list : Tree (t.list s)) (last : Tree s) → Grown (Spells list) (Spells last) (Spells (followed list last))
unfolding Spells
grown t.none last = only
grown (t.more one rest) last = later (grown rest last)

-- the readings one after the other, with a comma behind each
abbrev pub commaed : List {1} Reading → Reading
commaed [] = nothing
commaed (one ∷ rest) = one ▸ the "," ▸ commaed rest

pub commaed_more : {list longer : List {1} Reading} {last : Reading} → Grown list last longer → (from mid next to : Tokens) →
    commaed list from mid → last mid next → the "," next to → commaed longer from to
commaed_more {last = last} only from mid next to e l c = (next, subst (λ u. last u next) (sym e) l, (to, c, refl))
commaed_more (later g) from mid next to (a, o, (b, k, r)) l c = (a, o, (b, k, commaed_more g b mid next to r l c))

pub commaed_last : {list longer : List {1} Reading} {last : Reading} → Grown list last longer → (from mid to : Tokens) → commaed list from mid → last mid to → separated longer from to
commaed_last {last = last} only from mid to e l = (to, subst (λ u. last u to) (sym e) l, inl refl)
commaed_last {last = last} (later only) from mid to (a, o, (b, k, r)) l = (a, o, (b, k, commaed_last {last = last} only b mid to r l))
commaed_last {last = last} (later (later {one = two} g)) from mid to (a, o, (b, k, r)) l = (a, o, (b, k, commaed_last {last = last} (later {one = two} g) b mid to r l))

pub commaed_all : (list : List {1} Reading) (from to : Tokens) → commaed list from to → separated list from to
commaed_all [] from to e = e
commaed_all (one ∷ []) from to (a, o, (b, k, r)) = (a, o, inr (subst (λ u. the "," a u) r k))
commaed_all (one ∷ (two ∷ rest)) from to (a, o, (b, k, r)) = (a, o, (b, k, commaed_all (two ∷ rest) b to r))

pub joined_last : {list longer : List {1} Reading} {last : Reading} → Grown list last longer → (from mid to : Tokens) → commaed list from mid → last mid to → joined longer from to
joined_last {last = last} only from mid to e l = subst (λ u. last u to) (sym e) l
joined_last {last = last} (later only) from mid to (a, o, (b, k, r)) l = (a, o, (b, k, joined_last {last = last} only b mid to r l))
joined_last {last = last} (later (later {one = two} g)) from mid to (a, o, (b, k, r)) l = (a, o, (b, k, joined_last {last = last} (later {one = two} g) b mid to r l))

pub sequence_more : {list longer : List {1} Reading} {last : Reading} → Grown list last longer → (from mid to : Tokens) → sequence list from mid → last mid to → sequence longer from to
sequence_more {last = last} only from mid to e l = (to, subst (λ u. last u to) (sym e) l, refl)
sequence_more (later g) from mid to (a, o, r) l = (a, o, sequence_more g a mid to r l)

-- Templates: the pieces up to the one before a value.

abbrev pub pieced : Bool → List Text → List {1} Reading → Reading
pieced start [] values = never
pieced start (text ∷ []) [] = piece text start false
pieced start (text ∷ (other ∷ texts)) [] = never
pieced start (text ∷ texts) (value ∷ values) = piece text start false ▸ value ▸ pieced false texts values

pub pieced_more : (start : Bool) (texts : List Text) {list longer : List {1} Reading} {last : Reading} → Grown list last longer → (from mid next to : Tokens) (text : Text) →
    pieced start texts list from mid → last mid next → piece text false false next to → pieced start (texts ++ text ∷ []) longer from to
pieced_more start [] only from mid next to end h l c = absurd h
pieced_more start (text ∷ []) only from mid next to end h l c = (mid, h, (next, l, c))
pieced_more start (text ∷ (other ∷ texts)) only from mid next to end h l c = absurd h
pieced_more start [] (later g) from mid next to end h l c = absurd h
pieced_more start (text ∷ texts) (later g) from mid next to end (a, o, (b, v, r)) l c = (a, o, (b, v, pieced_more false texts g b mid next to end r l c))

pub pieces_last : (start : Bool) (texts : List Text) {list longer : List {1} Reading} {last : Reading} → Grown list last longer → (from mid next to : Tokens) (text : Text) →
    pieced start texts list from mid → last mid next → piece text false true next to → pieces start (texts ++ text ∷ []) longer from to
pieces_last start [] only from mid next to end h l c = absurd h
pieces_last start (text ∷ []) only from mid next to end h l c = (mid, h, (next, l, c))
pieces_last start (text ∷ (other ∷ texts)) only from mid next to end h l c = absurd h
pieces_last start [] (later g) from mid next to end h l c = absurd h
pieces_last start (text ∷ texts) (later g) from mid next to end (a, o, (b, v, r)) l c = (a, o, (b, v, pieces_last false texts g b mid next to end r l c))

-- Members of an object literal: with a comma behind each, and with commas between alone.

abbrev pub commaed_members : List {1} (Holder → Reading) → Reading
commaed_members [] = nothing
commaed_members (one ∷ rest) = one InObject ▸ the "," ▸ commaed_members rest

abbrev pub joined_members : List {1} (Holder → Reading) → Reading
joined_members [] = never
joined_members (one ∷ []) = one InObject
joined_members (one ∷ (two ∷ rest)) = one InObject ▸ the "," ▸ joined_members (two ∷ rest)

pub members_last : {list longer : List {1} (Holder → Reading)} {last : Holder → Reading} → Grown list last longer → (from mid to : Tokens) →
    commaed_members list from mid → last InObject mid to → joined_members longer from to
members_last {last = last} only from mid to e l = subst (λ u. last InObject u to) (sym e) l
members_last {last = last} (later only) from mid to (a, o, (b, k, r)) l = (a, o, (b, k, members_last {last = last} only b mid to r l))
members_last {last = last} (later (later {one = two} g)) from mid to (a, o, (b, k, r)) l = (a, o, (b, k, members_last {last = last} (later {one = two} g) b mid to r l))

pub members_comma : (list : List {1} (Holder → Reading)) (from mid to : Tokens) → joined_members list from mid → the "," mid to → commaed_members list from to
members_comma [] from mid to h c = absurd h
members_comma (one ∷ []) from mid to h c = (mid, h, (to, c, refl))
members_comma (one ∷ (two ∷ rest)) from mid to (a, o, (b, k, r)) c = (a, o, (b, k, members_comma (two ∷ rest) b mid to r c))

pub members_joined : (list : List {1} (Holder → Reading)) (from to : Tokens) → joined_members list from to → object_members list from to
members_joined [] from to h = absurd h
members_joined (one ∷ []) from to h = (to, h, inl refl)
members_joined (one ∷ (two ∷ rest)) from to (a, o, (b, k, r)) = (a, o, (b, k, members_joined (two ∷ rest) b to r))

pub members_commaed : (list : List {1} (Holder → Reading)) (from to : Tokens) → commaed_members list from to → object_members list from to
members_commaed [] from to e = e
members_commaed (one ∷ []) from to (a, o, (b, k, r)) = (a, o, inr (subst (λ u. the "," a u) r k))
members_commaed (one ∷ (two ∷ rest)) from to (a, o, (b, k, r)) = (a, o, (b, k, members_commaed (two ∷ rest) b to r))

-- Members of a class.

semicolons_more : {from mid to : Tokens} → Semicolons from mid → the ";" mid to → Semicolons from to
semicolons_more {to = to} no_more c = one_more {mid = to} c no_more
semicolons_more (one_more {mid = next} k r) c = one_more {mid = next} k (semicolons_more r c)

pub class_semicolon : (derived : Bool) (list : List {1} (Holder → Reading)) (from mid to : Tokens) → class_members derived list from mid → the ";" mid to → class_members derived list from to
class_semicolon derived [] from mid to h c = semicolons_more h c
class_semicolon derived (one ∷ rest) from mid to (a, k, (b, o, r)) c = (a, k, (b, o, class_semicolon derived rest b mid to r c))

pub class_more : (derived : Bool) {list longer : List {1} (Holder → Reading)} {last : Holder → Reading} → Grown list last longer → (from mid to : Tokens) →
    class_members derived list from mid → last (InClass derived) mid to → class_members derived longer from to
class_more derived only from mid to h l = (mid, h, (to, l, no_more))
class_more derived (later g) from mid to (a, k, (b, o, r)) l = (a, k, (b, o, class_more derived g b mid to r l))

-- Names and pairs of names, with a comma behind each, and with commas between alone.

abbrev pub each_commaed : {A : Type 0} → (A → Reading) → List A → Reading
each_commaed each [] = nothing
each_commaed each (one ∷ rest) = each one ▸ the "," ▸ each_commaed each rest

abbrev pub each_joined : {A : Type 0} → (A → Reading) → List A → Reading
each_joined each [] = never
each_joined each (one ∷ []) = each one
each_joined each (one ∷ (two ∷ rest)) = each one ▸ the "," ▸ each_joined each (two ∷ rest)

pub each_last : {A : Type 0} (each : A → Reading) (list : List A) (last : A) (from mid to : Tokens) → each_commaed each list from mid → each last mid to → each_joined each (list ++ last ∷ []) from to
each_last each [] last from mid to e l = subst (λ u. each last u to) (sym e) l
each_last each (one ∷ []) last from mid to (a, o, (b, k, r)) l = (a, o, (b, k, each_last each [] last b mid to r l))
each_last each (one ∷ (two ∷ rest)) last from mid to (a, o, (b, k, r)) l = (a, o, (b, k, each_last each (two ∷ rest) last b mid to r l))

pub each_comma : {A : Type 0} (each : A → Reading) (list : List A) (from mid to : Tokens) → each_joined each list from mid → the "," mid to → each_commaed each list from to
each_comma each [] from mid to h c = absurd h
each_comma each (one ∷ []) from mid to h c = (mid, h, (to, c, refl))
each_comma each (one ∷ (two ∷ rest)) from mid to (a, o, (b, k, r)) c = (a, o, (b, k, each_comma each (two ∷ rest) b mid to r c))

-- where each may be read as something else
pub commaed_as : {A : Type 0} (each other : A → Reading) → ((one : A) (from to : Tokens) → each one from to → other one from to) → (list : List A) (from to : Tokens) →
    each_commaed each list from to → each_commaed other list from to
commaed_as each other change [] from to e = e
commaed_as each other change (one ∷ rest) from to (a, o, (b, k, r)) = (a, change one from a o, (b, k, commaed_as each other change rest b to r))

pub joined_as : {A : Type 0} (each other : A → Reading) → ((one : A) (from to : Tokens) → each one from to → other one from to) → (list : List A) (from to : Tokens) →
    each_joined each list from to → each_joined other list from to
joined_as each other change [] from to h = absurd h
joined_as each other change (one ∷ []) from to h = change one from to h
joined_as each other change (one ∷ (two ∷ rest)) from to (a, o, (b, k, r)) = (a, change one from a o, (b, k, joined_as each other change (two ∷ rest) b to r))

pub names_joined : (list : List Identifier) (from to : Tokens) → each_joined name list from to → names list from to
names_joined [] from to h = absurd h
names_joined (one ∷ []) from to h = (to, h, inl refl)
names_joined (one ∷ (two ∷ rest)) from to (a, o, (b, k, r)) = (a, o, (b, k, names_joined (two ∷ rest) b to r))

pub names_commaed : (list : List Identifier) (from to : Tokens) → each_commaed name list from to → names list from to
names_commaed [] from to e = e
names_commaed (one ∷ []) from to (a, o, (b, k, r)) = (a, o, inr (subst (λ u. the "," a u) r k))
names_commaed (one ∷ (two ∷ rest)) from to (a, o, (b, k, r)) = (a, o, (b, k, names_commaed (two ∷ rest) b to r))

-- names in a row with commas between, and one more comma
pub names_comma : (list : List Identifier) (from mid to : Tokens) → each_joined name list from mid → the "," mid to → names list from to
names_comma list from mid to h c = names_commaed list from to (each_comma name list from mid to h c)

pub pairs_joined : (each : Pair → Reading) (list : List Pair) (from to : Tokens) → each_joined each list from to → pairs each list from to
pairs_joined each [] from to h = absurd h
pairs_joined each (one ∷ []) from to h = (to, h, inl refl)
pairs_joined each (one ∷ (two ∷ rest)) from to (a, o, (b, k, r)) = (a, o, (b, k, pairs_joined each (two ∷ rest) b to r))

pub pairs_commaed : (each : Pair → Reading) (list : List Pair) (from to : Tokens) → each_commaed each list from to → pairs each list from to
pairs_commaed each [] from to e = e
pairs_commaed each (one ∷ []) from to (a, o, (b, k, r)) = (a, o, inr (subst (λ u. the "," a u) r k))
pairs_commaed each (one ∷ (two ∷ rest)) from to (a, o, (b, k, r)) = (a, o, (b, k, pairs_commaed each (two ∷ rest) b to r))

-- What else the grammar asks of lists.

pub elements_more : (list : Tree (t.list t.expression)) (last : Tree t.expression) → are_elements list ≡ true → 2 ≤ level last → are_elements (followed list last) ≡ true
elements_more t.none last e h = ap (λ b. b && true) (le-leb 2 (level last) h)
elements_more (t.more one rest) last e h = both (nat_le 2 (level one)) (are_elements rest) e (λ r. elements_more rest last r h)
  where
    both : (a b : Bool) {c : Bool} → (a && b) ≡ true → (b ≡ true → c ≡ true) → (a && c) ≡ true
    both true b e f = f e
    both false b e f = absurd (true≢false (sym e))

pub initialised_more : (constant : Bool) (list : Tree (t.list t.declarator)) (own : Identifier) (value : Tree t.expression) →
    Initialised constant list → Initialised constant (followed list (t.DeclaratorOf own (t.present value)))
initialised_more false list own value h = tt
initialised_more true t.none own value h = refl
initialised_more true (t.more (t.DeclaratorOf other t.absent) rest) own value h = absurd (true≢false (sym h))
initialised_more true (t.more (t.DeclaratorOf other (t.present one)) rest) own value h = initialised_more true rest own value h

pub defaults_default : (cases : Tree (t.list t.case)) (body : Tree (t.list t.statement)) → defaults (followed cases (t.CaseOf t.absent body)) ≡ suc (defaults cases)
defaults_default t.none body = refl
defaults_default (t.more (t.CaseOf t.absent other) rest) body = ap suc (defaults_default rest body)
defaults_default (t.more (t.CaseOf (t.present test) other) rest) body = defaults_default rest body

pub defaults_case : (cases : Tree (t.list t.case)) (test : Tree t.expression) (body : Tree (t.list t.statement)) → defaults (followed cases (t.CaseOf (t.present test) body)) ≡ defaults cases
defaults_case t.none test body = refl
defaults_case (t.more (t.CaseOf t.absent other) rest) test body = ap suc (defaults_case rest test body)
defaults_case (t.more (t.CaseOf (t.present one) other) rest) test body = defaults_case rest test body
