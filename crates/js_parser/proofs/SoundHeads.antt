-- The names that an expression is, as an arrow's head.
use Rattle.std.proofs.Common.{◌≡◌, ◌∙◌, sym, ap, subst, refl, Bool, true, false, List, [], ◌∷◌, Option, Some, None, inl, inr, true≢false, arith}
use Rattle.es_model.specs.declared.names.Identifier.{Identifier}
use Rattle.es_model.specs.Tree as t
use Rattle.es_model.specs.Tree.{Tree}
use Rattle.es_model.specs.Readings.{Tokens, ◌▸◌, the, name, here}
use Rattle.es_model.specs.Spelling.{Spells, names, arrow_names}
use Rattle.parser_forms.specs.declared.parts.Part.{Part}
use Rattle.parser_forms.specs.declared.parts.Heading.{Heading}
use Rattle.parser_forms.specs.declared.parts.Heading.TheVariants as h
use Rattle.parser_forms.specs.Parts.{listed_names, enclosed}
use Rattle.parser_forms.specs.Asks.{head_of, list_of}
use Rattle.js_parser.specs.Summary.{heading}
use Rattle.js_parser.proofs.SoundLists.{each_joined, each_last, each_comma, names_joined}
use Rattle.js_parser.proofs.SoundStates.{Read}

some_is : {one other : List Identifier} → Some one ≡ Some other → one ≡ other
some_is {one} e = ap from e
  where
    from : Option (List Identifier) → List Identifier
    from (Some list) = list
    from None = one

none_is : {list : List Identifier} → None ≡ Some list → ⊥
none_is e = grind arith

-- Which headings have which names.

is_name : Heading → Bool
is_name (h.Name one) = true
is_name _ = false

listed_is_no_name : (a b : Heading) → is_name (listed_names a b) ≡ false
unfolding is_name
listed_is_no_name (h.Name one) (h.Name two) = refl
listed_is_no_name (h.Names list) (h.Name last) = refl
listed_is_no_name _ _ = refl

enclosed_is_no_name : (a : Heading) → is_name (enclosed a) ≡ false
unfolding is_name
enclosed_is_no_name (h.Name one) = refl
enclosed_is_no_name (h.Names list) = refl
enclosed_is_no_name _ = refl

enclosed_lists_none : (a : Heading) → list_of (enclosed a) ≡ None
enclosed_lists_none (h.Name one) = refl
enclosed_lists_none (h.Names list) = refl
enclosed_lists_none _ = refl

enclosed_head : (a : Heading) → head_of (enclosed a) ≡ list_of a
enclosed_head (h.Name one) = refl
enclosed_head (h.Names list) = refl
enclosed_head _ = refl

listed_is_no_head : (a b : Heading) → head_of (listed_names a b) ≡ None
listed_is_no_head (h.Name one) (h.Name two) = refl
listed_is_no_head (h.Names list) (h.Name last) = refl
listed_is_no_head _ _ = refl

-- an expression that has a name's heading is the name
is_the_name : (e : Tree t.expression) (one : Identifier) → heading e ≡ h.Name one → e ≡ t.Name one
unfolding is_name
is_the_name (t.Name other) one q = ap (λ a. t.Name (from a)) q
  where
    from : Heading → Identifier
    from (h.Name named) = named
    from _ = one
is_the_name (t.Comma left right) one q = absurd (true≢false (sym (ap is_name q) ∙ listed_is_no_name (heading left) (heading right)))
is_the_name (t.Paren of) one q = absurd (true≢false (sym (ap is_name q) ∙ enclosed_is_no_name (heading of)))
is_the_name _ one q = absurd (true≢false (sym (ap is_name q)))

-- Names with commas between.

comma_names : (right : Tree t.expression) (list : List Identifier) (from a b to : Tokens) (one two : Heading) → heading right ≡ two → list_of (listed_names one two) ≡ Some list →
    ((names : List Identifier) → list_of one ≡ Some names → each_joined name names from a) → the "," a b → Spells right b to → each_joined name list from to
unfolding Spells
comma_names right list from a b to (h.Name x) (h.Name y) e q left c r =
    subst (λ u. each_joined name u from to) (some_is q)
    (each_last name (x ∷ []) y from b to (each_comma name (x ∷ []) from a b (left (x ∷ []) refl) c) (subst (λ u. Spells {s = t.expression} u b to) (is_the_name right y e) r))
comma_names right list from a b to (h.Names xs) (h.Name y) e q left c r =
    subst (λ u. each_joined name u from to) (some_is q)
    (each_last name xs y from b to (each_comma name xs from a b (left xs refl) c) (subst (λ u. Spells {s = t.expression} u b to) (is_the_name right y e) r))
comma_names right list from a b to _ _ e q left c r = absurd (none_is q)

listed_are : (e : Tree t.expression) (list : List Identifier) (from to : Tokens) → list_of (heading e) ≡ Some list → Spells e from to → each_joined name list from to
unfolding Spells
listed_are (t.Name one) list from to q r = subst (λ u. each_joined name u from to) (some_is q) r
listed_are (t.Comma left right) list from to q (a, l, (b, c, (level, r))) =
    comma_names right list from a b to (heading left) (heading right) refl q (λ names h. listed_are left names from a h l) c r
listed_are (t.Paren of) list from to q r = absurd (none_is (sym (enclosed_lists_none (heading of)) ∙ q))
listed_are _ list from to q r = absurd (none_is q)

-- Heads.

pub enclosed_names : (list : List Identifier) (from to : Tokens) → (the "(" ▸ names list ▸ the ")") from to → arrow_names list from to
enclosed_names [] from to r = r
enclosed_names (one ∷ []) from to r = inl r
enclosed_names (one ∷ (two ∷ rest)) from to r = r

head_is : (e : Tree t.expression) (list : List Identifier) (from to : Tokens) → head_of (heading e) ≡ Some list → Spells e from to → arrow_names list from to
unfolding Spells
head_is (t.Name one) list from to q r = subst (λ u. arrow_names u from to) (some_is q) (inr r)
head_is (t.Comma left right) list from to q r = absurd (none_is (sym (listed_is_no_head (heading left) (heading right)) ∙ q))
head_is (t.Paren of) list from to q (a, o, (b, r, c)) =
    enclosed_names list from to (a, o, (b, names_joined list a b (listed_are of list a b (sym (enclosed_head (heading of)) ∙ q) r), c))
head_is _ list from to q r = absurd (none_is q)

-- the same of a part that was read
pub read_head : (part : Part) (list : List Identifier) (from to : Tokens) → Read part from to → head_of part.heading ≡ Some list → here part.at (arrow_names list) from to
read_head part list from to (e, q, w, r) h = (w, head_is e list from to (subst (λ u. head_of u.heading ≡ Some list) (sym q) h) r)

pub read_listed : (part : Part) (list : List Identifier) (from to : Tokens) → Read part from to → list_of part.heading ≡ Some list → each_joined name list from to
read_listed part list from to (e, q, w, r) h = listed_are e list from to (subst (λ u. list_of u.heading ≡ Some list) (sym q) h) r
