-- Each mention has one place, at which what it means is held; no place holds two bindings; and each
-- number below the count of functions is that of one function.
use Rattle.std.proofs.Common.{◌≡◌, ℕ, zero, suc, ◌+◌, ◌<◌, ◌≤◌, ◌⊎◌, Bool, true, false, not, ◌&&◌, ◌||◌, ◌==◌, List, [], ◌∷◌, ◌++◌, length, take, drop, slice_get, Option, Some, None, Ok, refl, ap, sym, ◌∙◌, subst, inl, inr, take-append-drop, arith}
use Rattle.std.proofs.lemmas.Bool.{eqb-true}
use Rattle.es_model.specs.declared.place.Place.{Place}
use Rattle.es_model.specs.declared.place.Place.TheVariants.{Local, Boxed, Outer, Import, Global, Unbound}
use Rattle.es_model.specs.Tree as t
use Rattle.es_model.specs.Tree.{Tree, Text}
use Rattle.es_model.specs.Tokens.{same_text, place_from, tokens_of}
use Rattle.es_model.specs.Readings.{Tokens}
use Rattle.es_model.specs.Spelling.{spells}
use Rattle.es_model.specs.Functions.{FunctionForm, functions, function_count, function_at}
use Rattle.es_model.specs.SyntaxLaws.{FunctionsAscendFrom, InOuterList, InOwnPlaces, HoldsBindingAt, IsGlobalAt, HeldAt, IsWithin}
use Rattle.es_model.specs.Scopes.{Enclosing, Binding, top_bindings}
use Rattle.es_model.specs.FreeNames.{Mentioned, Binds, Refers, Free, Temporary, Mention, mentions, role_number, same_binding, is_top, stands_in, meant, outside, not_among, distinct_after, free, captured, outer_list, Held, HoldsBinding, HoldsTemporary, same_round, held_by, held_from, parameter_count, this_captured, this_cell_of, places, index_of, place_of_binding, place_of_temporary, global_names, global_place, own_place, bound_place, mentioned_place, place_of_mention}
use Rattle.es_model.proofs.Places.{StandsFrom, stands}
use Rattle.es_model.proofs.ModuleLaws.{functions_ascend}
use Rattle.es_model.proofs.TokenLaws.{places_ascend}
use Rattle.es_model.proofs.Mentions.{Among, among_front, among_rest, among_either, Descends, OuterOf, Known, at_top, bound, this_of, KnownWhat, mentions_sound}

got : {A : Type 0} → (list : List A) (i : ℕ) → i < length list → (one : A) × (slice_get list i ≡ Some one)
got [] i lt = absurd (omega arith)
got (one ∷ rest) zero lt = (one, refl)
got (one ∷ rest) (suc i) lt = got rest i (omega arith)

past : {A : Type 0} → (list : List A) (i : ℕ) (one : A) → slice_get list i ≡ Some one → i < length list
past [] i one e = absurd (cc e)
past (one ∷ rest) zero other e = omega arith
past (one ∷ rest) (suc i) other e = omega (arith, past rest i other e)

-- Tests.

same_number : (n : ℕ) → (n == n) ≡ true
same_number n = grind arith

itself : (binding : Binding) → same_binding binding binding ≡ true
itself binding = grind (arith, same_number (role_number binding.role), same_number binding.at, same_number (length binding.lies))

round_itself : (round : List Enclosing) → same_round round round ≡ true
round_itself [] = refl
round_itself (one ∷ rest) = grind (arith, same_number one.at, same_number (length rest))

no_longer : (round outer : List Enclosing) → OuterOf round outer → length outer ≤ length round
no_longer [] outer h = omega (arith, ap length h)
no_longer (one ∷ rest) outer (inl e) = omega (arith, ap length e)
no_longer (one ∷ rest) outer (inr h) = omega (arith, no_longer rest outer h)

-- the functions round a place that begin below it don't begin there
elsewhere : (at : ℕ) (high : ℕ) (round : List Enclosing) → high ≤ at → Descends high round → stands_in at round ≡ false
elsewhere at high [] le h = refl
elsewhere at high (one ∷ rest) le h = either (one.at == at) refl (elsewhere at one.at rest (omega (arith, le, h.0)) h.1)
  where
    either : (b : Bool) → (one.at == at) ≡ b → stands_in at rest ≡ false → (b || stands_in at rest) ≡ false
    either true e f = absurd (omega (arith, eqb-true one.at at e, le, h.0))
    either false e f = f

outer_elsewhere : (at high : ℕ) (round outer : List Enclosing) → high ≤ at → Descends high round → OuterOf round outer → stands_in at outer ≡ false
outer_elsewhere at high [] outer le h e = subst (λ l. stands_in at l ≡ false) e refl
outer_elsewhere at high (one ∷ rest) outer le h (inl e) = subst (λ l. stands_in at l ≡ false) e (elsewhere at high (one ∷ rest) le h)
outer_elsewhere at high (one ∷ rest) outer le h (inr k) = outer_elsewhere at one.at rest outer (omega (arith, le, h.0)) h.1 k

-- Where lists have what is looked for.

index_finds : (binding : Binding) (list : List Binding) (one : Binding) → Among list one → same_binding binding one ≡ true → (other : Binding) × (slice_get list (index_of binding list) ≡ Some other) × (same_binding binding other ≡ true)
index_finds binding [] one h same = absurd h
index_finds binding (other ∷ rest) one h same = by (same_binding binding other) refl h (λ k. index_finds binding rest one k same)
  where
    by : (b : Bool) → same_binding binding other ≡ b → (other ≡ one) ⊎ Among rest one → (Among rest one → (found : Binding) × (slice_get rest (index_of binding rest) ≡ Some found) × (same_binding binding found ≡ true))
        → (found : Binding) × (slice_get (other ∷ rest) (elim b [ true ↦ 0 | false ↦ suc (index_of binding rest) ]) ≡ Some found) × (same_binding binding found ≡ true)
    by true e k more = (other, refl, e)
    by false e (inl f) more = absurd (cc (sym e ∙ ap (same_binding binding) f ∙ same))
    by false e (inr k) more = more k

binding_finds : (binding : Binding) (list : List Held) → Among list (HoldsBinding binding) → (other : Binding) × (slice_get list (place_of_binding binding list) ≡ Some (HoldsBinding other)) × (same_binding binding other ≡ true)
binding_finds binding [] h = absurd h
binding_finds binding (HoldsBinding other ∷ rest) h = by (same_binding binding other) refl h (binding_finds binding rest)
  where
    holds_same : HoldsBinding other ≡ HoldsBinding binding → other ≡ binding
    holds_same e = cc e

    by : (b : Bool) → same_binding binding other ≡ b → (HoldsBinding other ≡ HoldsBinding binding) ⊎ Among rest (HoldsBinding binding) → (Among rest (HoldsBinding binding) → (found : Binding) × (slice_get rest (place_of_binding binding rest) ≡ Some (HoldsBinding found)) × (same_binding binding found ≡ true))
        → (found : Binding) × (slice_get (HoldsBinding other ∷ rest) (elim b [ true ↦ 0 | false ↦ suc (place_of_binding binding rest) ]) ≡ Some (HoldsBinding found)) × (same_binding binding found ≡ true)
    by true e k more = (other, refl, e)
    by false e (inl f) more = absurd (cc (sym e ∙ ap (same_binding binding) (holds_same f) ∙ itself binding))
    by false e (inr k) more = more k
binding_finds binding (HoldsTemporary number ∷ rest) (inl e) = absurd (cc e)
binding_finds binding (HoldsTemporary number ∷ rest) (inr h) = binding_finds binding rest h

temporary_finds : (number : ℕ) (list : List Held) → Among list (HoldsTemporary number) → slice_get list (place_of_temporary number list) ≡ Some (HoldsTemporary number)
temporary_finds number [] h = absurd h
temporary_finds number (HoldsBinding other ∷ rest) (inl e) = absurd (cc e)
temporary_finds number (HoldsBinding other ∷ rest) (inr h) = temporary_finds number rest h
temporary_finds number (HoldsTemporary other ∷ rest) h = by (number == other) refl h (temporary_finds number rest)
  where
    number_same : HoldsTemporary other ≡ HoldsTemporary number → other ≡ number
    number_same e = cc e

    by : (b : Bool) → (number == other) ≡ b → (HoldsTemporary other ≡ HoldsTemporary number) ⊎ Among rest (HoldsTemporary number) → (Among rest (HoldsTemporary number) → slice_get rest (place_of_temporary number rest) ≡ Some (HoldsTemporary number))
        → slice_get (HoldsTemporary other ∷ rest) (elim b [ true ↦ 0 | false ↦ suc (place_of_temporary number rest) ]) ≡ Some (HoldsTemporary number)
    by true e k more = ap (λ n. Some (HoldsTemporary n)) (sym (eqb-true number other e))
    by false e (inl f) more = absurd (cc (sym e ∙ ap (λ n. number == n) (number_same f) ∙ same_number number))
    by false e (inr k) more = more k

-- What a function holds, and its free names.

abbrev one_more : Bool → List Held → List Held → List Held
one_more same held rest = elim same [ true ↦ held ++ rest | false ↦ rest ]

kept : (same : Bool) (held rest : List Held) (what : Held) → Among rest what → Among (one_more same held rest) what
kept true held rest what h = among_rest held rest what h
kept false held rest what h = h

holds_binding : (number : ℕ) (round inner : List Enclosing) (list : List Mention) (binding : Binding) → is_top binding ≡ false → same_round round inner ≡ true → Among list (record { round = inner; what = Binds binding }) → Among (held_from number round list) (HoldsBinding binding)
holds_binding number round inner [] binding top same h = absurd h
holds_binding number round inner (one ∷ rest) binding top same (inr h) = kept (same_round round one.round) (held_by number one.what) (held_from (suc number) round rest) (HoldsBinding binding) (holds_binding (suc number) round inner rest binding top same h)
holds_binding number round inner (one ∷ rest) binding top same (inl e) =
    subst (λ x. Among (one_more (same_round round x.round) (held_by number x.what) (held_from (suc number) round rest)) (HoldsBinding binding)) (sym e)
    (subst (λ b. Among (one_more b (held_by number (Binds binding)) (held_from (suc number) round rest)) (HoldsBinding binding)) (sym same)
    (subst (λ b. Among (elim b [ true ↦ [] | false ↦ HoldsBinding binding ∷ [] ] ++ held_from (suc number) round rest) (HoldsBinding binding)) (sym top) (inl refl)))

holds_temporary : (number : ℕ) (round : List Enclosing) (list : List Mention) (i : ℕ) → slice_get list i ≡ Some (record { round = round; what = Temporary }) → (n : ℕ) → number + i ≡ n → Among (held_from number round list) (HoldsTemporary n)
holds_temporary number round [] i e n f = absurd (cc e)
holds_temporary number round (one ∷ rest) (suc i) e n f = kept (same_round round one.round) (held_by number one.what) (held_from (suc number) round rest) (HoldsTemporary n) (holds_temporary (suc number) round rest i e n (omega (arith, f)))
holds_temporary number round (one ∷ rest) zero e n f =
    subst (λ x. Among (one_more (same_round round x.round) (held_by number x.what) (held_from (suc number) round rest)) (HoldsTemporary n)) (sym (mention_is e))
    (subst (λ b. Among (one_more b (HoldsTemporary number ∷ []) (held_from (suc number) round rest)) (HoldsTemporary n)) (sym (round_itself round)) (inl (ap HoldsTemporary (omega (arith, f)))))
  where
    mention_is : Some one ≡ Some (record { round = round; what = Temporary }) → one ≡ record { round = round; what = Temporary }
    mention_is e = cc e

among_places : (items : Tree (t.list t.item)) (round : List Enclosing) (what : Held) → Among (held_from 0 round (mentions items)) what → Among (places items round) what
unfolding places
among_places items round what h =
    let held = held_from 0 round (mentions items) in
    let count = parameter_count items round in
    let cell = this_cell_of (this_captured items round) round in
    elim (among_either (take count held) (drop count held) what (subst (λ l. Among l what) (sym (take-append-drop count held)) h)) [
      | inl k ↦ among_front (take count held) (cell ++ drop count held) what k
      | inr k ↦ among_rest (take count held) (cell ++ drop count held) what (among_rest cell (drop count held) what k)
    ]

is_outside : (at : ℕ) (list : List Mention) (one : Mention) (binding : Binding) → meant one.what ≡ Some binding → stands_in at one.round ≡ true → stands_in at binding.lies ≡ false → Among list one → Among (outside at list) binding
is_outside at [] one binding e inner outer h = absurd h
is_outside at (other ∷ rest) one binding e inner outer h = by h (is_outside at rest one binding e inner outer)
  where
    more_outside : (o : Option Binding) (round : List Enclosing) → Among (outside at rest) binding → Among (elim o [ Some b ↦ elim (stands_in at round && not (stands_in at b.lies)) [ true ↦ b ∷ outside at rest | false ↦ outside at rest ] | None ↦ outside at rest ]) binding
    more_outside None round k = k
    more_outside (Some b) round k = elim (stands_in at round && not (stands_in at b.lies)) as (λ c. Among (elim c [ true ↦ b ∷ outside at rest | false ↦ outside at rest ]) binding) [ true ↦ inr k | false ↦ k ]

    this_one : Among (elim (meant one.what) [ Some b ↦ elim (stands_in at one.round && not (stands_in at b.lies)) [ true ↦ b ∷ outside at rest | false ↦ outside at rest ] | None ↦ outside at rest ]) binding
    this_one =
        subst (λ o. Among (elim o [ Some b ↦ elim (stands_in at one.round && not (stands_in at b.lies)) [ true ↦ b ∷ outside at rest | false ↦ outside at rest ] | None ↦ outside at rest ]) binding) (sym e)
        (subst (λ c. Among (elim (c && not (stands_in at binding.lies)) [ true ↦ binding ∷ outside at rest | false ↦ outside at rest ]) binding) (sym inner)
        (subst (λ c. Among (elim (true && not c) [ true ↦ binding ∷ outside at rest | false ↦ outside at rest ]) binding) (sym outer) (inl refl)))

    by : (other ≡ one) ⊎ Among rest one → (Among rest one → Among (outside at rest) binding) → Among (outside at (other ∷ rest)) binding
    by (inl same) more = subst (λ x. Among (outside at (x ∷ rest)) binding) (sym same) this_one
    by (inr k) more = more_outside (meant other.what) other.round (more k)

-- each binding of a list is, by place, among those that came before or among the distinct ones
abbrev SameAmong : Binding → List Binding → Type 0
SameAmong binding list = (other : Binding) × Among list other × (same_binding binding other ≡ true)

came_before : (binding : Binding) (list : List Binding) → not_among binding list ≡ false → SameAmong binding list
came_before binding [] e = absurd (cc e)
came_before binding (one ∷ rest) e = by (same_binding binding one) refl e (came_before binding rest)
  where
    by : (b : Bool) → same_binding binding one ≡ b → (not b && not_among binding rest) ≡ false → (not_among binding rest ≡ false → SameAmong binding rest) → SameAmong binding (one ∷ rest)
    by true same e more = (one, inl refl, same)
    by false same e more = let h = more e in (h.0, inr h.1, h.2)

distinct_has : (before list : List Binding) (binding : Binding) → Among list binding → SameAmong binding before ⊎ SameAmong binding (distinct_after before list)
distinct_has before [] binding h = absurd h
distinct_has before (one ∷ rest) binding h = by (not_among one before) refl h (distinct_has (one ∷ before) rest binding) (distinct_has before rest binding)
  where
    by : (b : Bool) → not_among one before ≡ b → (one ≡ binding) ⊎ Among rest binding
        → (Among rest binding → SameAmong binding (one ∷ before) ⊎ SameAmong binding (distinct_after (one ∷ before) rest))
        → (Among rest binding → SameAmong binding before ⊎ SameAmong binding (distinct_after before rest))
        → SameAmong binding before ⊎ SameAmong binding (elim b [ true ↦ one ∷ distinct_after (one ∷ before) rest | false ↦ distinct_after before rest ])
    by true e (inl same) taken left = inr (one, inl refl, subst (λ b. same_binding b one ≡ true) same (itself one))
    by true e (inr k) taken left = elim (taken k) [
      | inl g ↦ elim g.1 [
        | inl same ↦ inr (one, inl refl, subst (λ b. same_binding binding b ≡ true) (sym same) g.2)
        | inr among ↦ inl (g.0, among, g.2)
      ]
      | inr g ↦ inr (g.0, inr g.1, g.2)
    ]
    by false e (inl same) taken left = inl (subst (λ b. SameAmong b before) same (came_before one before e))
    by false e (inr k) taken left = left k

in_free : (items : Tree (t.list t.item)) (one : Mention) (at : ℕ) (binding : Binding) → meant one.what ≡ Some binding → stands_in at one.round ≡ true → stands_in at binding.lies ≡ false → Among (mentions items) one → SameAmong binding (free items at)
unfolding free
in_free items one at binding e inner outer h = elim (distinct_has [] (outside at (mentions items)) binding (is_outside at (mentions items) one binding e inner outer h)) [
  | inl g ↦ absurd g.1
  | inr g ↦ g
]

-- The laws.

-- the entry of the outer list that a binding has which lies further out
in_outer_list : (items : Tree (t.list t.item)) (round : List Enclosing) (binding : Binding) → SameAmong binding (outer_list items round) → InOuterList items round binding (index_of binding (outer_list items round))
in_outer_list items round binding h = index_finds binding (outer_list items round) h.0 h.1 h.2

stands_first : (one : Enclosing) (rest : List Enclosing) → stands_in one.at (one ∷ rest) ≡ true
stands_first one rest = ap (λ b. b || stands_in one.at rest) (same_number one.at)

-- a binding that lies further out than the function round its mention
further_out : (items : Tree (t.list t.item)) (what : Mentioned) (binding : Binding) (one : Enclosing) (rest : List Enclosing) → meant what ≡ Some binding → Among (mentions items) (record { round = one ∷ rest; what = what }) → stands_in one.at binding.lies ≡ false → SameAmong binding (outer_list items (one ∷ rest))
further_out items what binding one rest e among outer = in_free items (record { round = one ∷ rest; what = what }) one.at binding e (stands_first one rest) outer among

top_outer : (items : Tree (t.list t.item)) (round : List Enclosing) (what : Mentioned) (binding : Binding) → meant what ≡ Some binding → Among (mentions items) (record { round = round; what = what }) → binding.lies ≡ [] → Among (top_bindings items) binding → SameAmong binding (outer_list items round)
top_outer items [] what binding e among lies top = (binding, top, itself binding)
top_outer items (one ∷ rest) what binding e among lies top = further_out items what binding one rest e among (subst (λ l. stands_in one.at l ≡ false) (sym lies) refl)

-- functions that stand round a place, but the innermost, are these or the outer ones of these
abbrev OuterOfRest : List Enclosing → List Enclosing → Type 0
OuterOfRest [] outer = ⊥
OuterOfRest (one ∷ rest) outer = OuterOf rest outer

rest_outer : (items : Tree (t.list t.item)) (high : ℕ) (round : List Enclosing) (what : Mentioned) (binding : Binding) → meant what ≡ Some binding → Among (mentions items) (record { round = round; what = what }) → Descends high round → OuterOfRest round binding.lies → SameAmong binding (outer_list items round)
rest_outer items high [] what binding e among descends h = absurd h
rest_outer items high (one ∷ rest) what binding e among descends h = further_out items what binding one rest e among (outer_elsewhere one.at one.at rest binding.lies (omega arith) descends.1 h)

rest_not_same : (round outer : List Enclosing) → OuterOfRest round outer → same_round round outer ≡ false
rest_not_same [] outer h = absurd h
rest_not_same (one ∷ rest) [] h = refl
rest_not_same (one ∷ rest) (other ∷ others) h = by (length rest == length others) refl
  where
    both_false : (b : Bool) → (b && false) ≡ false
    both_false true = refl
    both_false false = refl

    by : (b : Bool) → (length rest == length others) ≡ b → ((one.at == other.at) && b) ≡ false
    by true e = absurd (omega (arith, eqb-true (length rest) (length others) e, no_longer rest (other ∷ others) h))
    by false e = both_false (one.at == other.at)

not_same_rest : (round outer : List Enclosing) → OuterOf round outer → same_round round outer ≡ false → OuterOfRest round outer
not_same_rest [] outer e f = absurd (cc (sym f ∙ ap (same_round []) (sym e)))
not_same_rest (one ∷ rest) outer (inl e) f = absurd (cc (sym f ∙ ap (same_round (one ∷ rest)) (sym e) ∙ round_itself (one ∷ rest)))
not_same_rest (one ∷ rest) outer (inr h) f = h

differs : (top same : Bool) → top ≡ false → (top || not same) ≡ true → same ≡ false
differs true same e f = absurd (cc e)
differs false true e f = absurd (cc f)
differs false false e f = refl

agrees : (top same : Bool) → top ≡ false → (top || not same) ≡ false → same ≡ true
agrees true same e f = absurd (cc e)
agrees false true e f = refl
agrees false false e f = absurd (cc f)

no_import : (one other : Bool) → (one || other) ≡ false → other ≡ true → ⊥
no_import true other e f = cc e
no_import false other e f = cc (sym e ∙ f)

placed : (items : Tree (t.list t.item)) (round : List Enclosing) (binding : Binding) (imported outer : Bool) (in_list in_places : ℕ)
    → ((imported ≡ true) ⊎ (outer ≡ true) → InOuterList items round binding in_list) → (outer ≡ false → InOwnPlaces items round binding in_places)
    → HoldsBindingAt items round binding (elim imported [ true ↦ Import in_list | false ↦ elim outer [ true ↦ Outer in_list | false ↦ own_place (captured items binding) in_places ] ])
placed items round binding true outer in_list in_places listed own = listed (inl refl)
placed items round binding false true in_list in_places listed own = listed (inr refl)
placed items round binding false false in_list in_places listed own = by (captured items binding) refl
  where
    by : (b : Bool) → captured items binding ≡ b → HoldsBindingAt items round binding (own_place b in_places)
    by true e = (own refl, e)
    by false e = (own refl, e)

binding_held : (items : Tree (t.list t.item)) (high : ℕ) (round : List Enclosing) (what : Mentioned) (binding : Binding) → meant what ≡ Some binding → Among (mentions items) (record { round = round; what = what }) → Descends high round → Known (mentions items) (top_bindings items) round binding → HoldsBindingAt items round binding (bound_place items round binding)
binding_held items high round what binding e among descends known =
    placed items round binding (role_number binding.role == 1) (is_top binding || not (same_round round binding.lies)) (index_of binding (outer_list items round)) (place_of_binding binding (places items round))
    (λ k. in_outer_list items round binding (listed known k)) (own known)
  where
    listed : Known (mentions items) (top_bindings items) round binding → ((role_number binding.role == 1) ≡ true) ⊎ ((is_top binding || not (same_round round binding.lies)) ≡ true) → SameAmong binding (outer_list items round)
    listed (at_top top lies in_tops) k = top_outer items round what binding e among lies in_tops
    listed (bound top outer declared) (inl k) = absurd (no_import (role_number binding.role == 0) (role_number binding.role == 1) top k)
    listed (bound top outer declared) (inr k) = rest_outer items high round what binding e among descends (not_same_rest round binding.lies outer (differs (is_top binding) (same_round round binding.lies) top k))
    listed (this_of top one rest f outer) k = rest_outer items high round what binding e among descends (subst (λ l. OuterOfRest l binding.lies) (sym f) outer)

    own : Known (mentions items) (top_bindings items) round binding → (is_top binding || not (same_round round binding.lies)) ≡ false → InOwnPlaces items round binding (place_of_binding binding (places items round))
    own (at_top top lies in_tops) k = absurd (cc (sym k ∙ ap (λ b. b || not (same_round round binding.lies)) top))
    own (bound top outer declared) k = binding_finds binding (places items round) (among_places items round (HoldsBinding binding) (holds_binding 0 round binding.lies (mentions items) binding top (agrees (is_top binding) (same_round round binding.lies) top k) declared))
    own (this_of top one rest f outer) k = absurd (cc (sym (agrees (is_top binding) (same_round round binding.lies) top k) ∙ rest_not_same round binding.lies (subst (λ l. OuterOfRest l binding.lies) (sym f) outer)))

same_text_itself : (text : Text) → same_text text text ≡ true
same_text_itself [] = refl
same_text_itself (c ∷ text) = grind (arith, same_number c, same_text_itself text)

not_placed : (n : ℕ) (rows : List Text) (text : Text) → place_from n rows text ≡ None → (row : ℕ) → slice_get rows row ≡ Some text → ⊥
not_placed n [] text e row f = cc f
not_placed n (one ∷ rows) text e row f = by (same_text one text) refl e row f (not_placed (suc n) rows text)
  where
    text_is : Some one ≡ Some text → one ≡ text
    text_is e = cc e

    by : (b : Bool) → same_text one text ≡ b → elim b as (λ c. Option ℕ) [ true ↦ Some n | false ↦ place_from (suc n) rows text ] ≡ None → (row : ℕ) → slice_get (one ∷ rows) row ≡ Some text → (place_from (suc n) rows text ≡ None → (row : ℕ) → slice_get rows row ≡ Some text → ⊥) → ⊥
    by true same e row f more = cc e
    by false same e zero f more = cc (sym same ∙ ap (λ x. same_text x text) (text_is f) ∙ same_text_itself text)
    by false same e (suc row) f more = more e row f

global_held : (name : Text) → IsGlobalAt name (global_place (place_from 0 global_names name))
global_held name = by (place_from 0 global_names name) refl (stands 0 global_names name)
  where
    by : (o : Option ℕ) → place_from 0 global_names name ≡ o → StandsFrom 0 global_names name o → IsGlobalAt name (global_place o)
    by None e h = not_placed 0 global_names name e
    by (Some row) e h = subst (λ n. slice_get global_names n ≡ Some name) (omega (arith, h.1)) h.2

among_got : {A : Type 0} → (list : List A) (i : ℕ) (one : A) → slice_get list i ≡ Some one → Among list one
among_got [] i one e = absurd (cc e)
among_got (other ∷ rest) zero one e = inl (cc e)
among_got (other ∷ rest) (suc i) one e = inr (among_got rest i one e)

held : (items : Tree (t.list t.item)) (number high : ℕ) (round : List Enclosing) (what : Mentioned) → slice_get (mentions items) number ≡ Some (record { round = round; what = what }) → Descends high round → KnownWhat (mentions items) (top_bindings items) round what → HeldAt items number round what (mentioned_place items number round what)
held items number high round (Binds binding) e descends known = binding_held items high round (Binds binding) binding refl (among_got (mentions items) number _ e) descends known
held items number high round (Refers binding) e descends known = binding_held items high round (Refers binding) binding refl (among_got (mentions items) number _ e) descends known
held items number high round (Free name) e descends known = global_held name
held items number high round Temporary e descends known = temporary_finds number (places items round) (among_places items round (HoldsTemporary number) (holds_temporary 0 round (mentions items) number e number (omega arith)))

pub mention_has_place : (items : Tree (t.list t.item)) (number : ℕ) → number < length (mentions items) → (place : Place) × (place_of_mention items number ≡ Some place)
unfolding place_of_mention
mention_has_place items number lt =
    let h = got (mentions items) number lt in
    (mentioned_place items number h.0.round h.0.what, ap (λ o. elim o [ Some one ↦ Some (mentioned_place items number one.round one.what) | None ↦ None ]) h.1)

-- where the places of a module's functions ascend, each mention has a place, and what it means is held there
pub mention_is_held : (items : Tree (t.list t.item)) → FunctionsAscendFrom 0 (functions items) → (number : ℕ) → number < length (mentions items) → (one : Mention) × (place : Place) × (slice_get (mentions items) number ≡ Some one) × (place_of_mention items number ≡ Some place) × HeldAt items number one.round one.what place
unfolding place_of_mention
mention_is_held items ascend number lt =
    let h = got (mentions items) number lt in
    let sound = mentions_sound items ascend h.0 (among_got (mentions items) number h.0 h.1) in
    (h.0, mentioned_place items number h.0.round h.0.what, h.1, ap (λ o. elim o [ Some one ↦ Some (mentioned_place items number one.round one.what) | None ↦ None ]) h.1, held items number sound.high h.0.round h.0.what h.1 sound.descends sound.known)

-- the same of a text's module
pub mention_is_held_in_text : (bytes : List ℕ) (items : Tree (t.list t.item)) (tokens : Tokens) → tokens_of bytes ≡ Ok tokens → spells items tokens → (number : ℕ) → number < length (mentions items) → (one : Mention) × (place : Place) × (slice_get (mentions items) number ≡ Some one) × (place_of_mention items number ≡ Some place) × HeldAt items number one.round one.what place
mention_is_held_in_text bytes items tokens accepted h = mention_is_held items (functions_ascend items tokens h (places_ascend bytes tokens accepted))

binding_within : (items : Tree (t.list t.item)) (round : List Enclosing) (binding : Binding) (place : Place) → HoldsBindingAt items round binding place → IsWithin items round place
binding_within items round binding (Local place) h = past (places items round) place (HoldsBinding h.0.0) h.0.1
binding_within items round binding (Boxed place) h = past (places items round) place (HoldsBinding h.0.0) h.0.1
binding_within items round binding (Outer place) h = past (outer_list items round) place h.0 h.1
binding_within items round binding (Import place) h = past (outer_list items round) place h.0 h.1
binding_within items round binding (Global row) h = absurd h
binding_within items round binding Unbound h = absurd h

-- and so the place is one of its list
pub held_is_within : (items : Tree (t.list t.item)) (number : ℕ) (round : List Enclosing) (what : Mentioned) (place : Place) → HeldAt items number round what place → IsWithin items round place
held_is_within items number round (Binds binding) place h = binding_within items round binding place h
held_is_within items number round (Refers binding) place h = binding_within items round binding place h
held_is_within items number round (Free name) (Global row) h = past global_names row name h
held_is_within items number round (Free name) Unbound h = tt
held_is_within items number round (Free name) _ h = absurd h
held_is_within items number round Temporary (Local place) h = past (places items round) place (HoldsTemporary number) h
held_is_within items number round Temporary _ h = absurd h

same_as_another : (one other third : Binding) → same_binding one third ≡ true → same_binding other third ≡ true → same_binding one other ≡ true
same_as_another one other third e f = grind arith

same_held : (one other third fourth : Binding) → third ≡ fourth → same_binding one third ≡ true → same_binding other fourth ≡ true → same_binding one other ≡ true
same_held one other third fourth e f g = same_as_another one other third f (subst (λ b. same_binding other b ≡ true) (sym e) g)

in_one_place : (items : Tree (t.list t.item)) (round : List Enclosing) (one other : Binding) (place : ℕ) → InOwnPlaces items round one place → InOwnPlaces items round other place → same_binding one other ≡ true
in_one_place items round one other place h g = same_held one other h.0 g.0 (binding_is (sym h.1 ∙ g.1)) h.2 g.2
  where
    binding_is : {a b : Binding} → Some (HoldsBinding a) ≡ Some (HoldsBinding b) → a ≡ b
    binding_is e = cc e

in_one_entry : (items : Tree (t.list t.item)) (round : List Enclosing) (one other : Binding) (place : ℕ) → InOuterList items round one place → InOuterList items round other place → same_binding one other ≡ true
in_one_entry items round one other place h g = same_held one other h.0 g.0 (binding_is (sym h.1 ∙ g.1)) h.2 g.2
  where
    binding_is : {a b : Binding} → Some a ≡ Some b → a ≡ b
    binding_is e = cc e

-- no place within some functions holds two bindings
pub one_binding_at : (items : Tree (t.list t.item)) (round : List Enclosing) (one other : Binding) (place : Place) → HoldsBindingAt items round one place → HoldsBindingAt items round other place → same_binding one other ≡ true
one_binding_at items round one other (Local place) h g = in_one_place items round one other place h.0 g.0
one_binding_at items round one other (Boxed place) h g = in_one_place items round one other place h.0 g.0
one_binding_at items round one other (Outer place) h g = in_one_entry items round one other place h g
one_binding_at items round one other (Import place) h g = in_one_entry items round one other place h g
one_binding_at items round one other (Global row) h g = absurd h
one_binding_at items round one other Unbound h g = absurd h

-- the numbers of the functions but the body are those from 1 to below the count, one each
pub number_has_function : (items : Tree (t.list t.item)) (number : ℕ) → suc number < function_count items → (form : FunctionForm) × (function_at items (suc number) ≡ Some form)
number_has_function items number lt = got (functions items) number (omega arith)

pub function_has_number : (items : Tree (t.list t.item)) (number : ℕ) (form : FunctionForm) → function_at items (suc number) ≡ Some form → suc number < function_count items
function_has_number items number form e = omega (arith, past (functions items) number form e)
