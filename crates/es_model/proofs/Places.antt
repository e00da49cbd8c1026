-- A list of texts and a table of the same texts in ascending order: the place of a text in the list, by its
-- row in the table.
use Rattle.std.proofs.Common.{◌≡◌, ℕ, zero, suc, ◌+◌, ◌<◌, Bool, true, false, ◌==◌, List, [], ◌∷◌, length, map, Option, Some, None, slice_get, get_or, refl, zero-add, sym, ◌∙◌, ap, arith}
use Rattle.std.specs.Cmp.{first_so, second_so}
use Rattle.std.specs.Option.{option_map}
use Rattle.std.proofs.lemmas.Bool.{eqb-true}
use Rattle.std.proofs.lemmas.Option.{slice_get-map, slice_get-get_or, slice_get_within}
use Rattle.js_value.specs.Case.{are_keys, texts}
use Rattle.js_value.proofs.Tables.{keys_when_ascii, texts-ascii}
use Rattle.es_model.specs.Tokens.{same_text, place_from, keywords, signs}
use Rattle.es_model.specs.SignTable.{ascending_signs}

pub same_text-true : (a b : List ℕ) → same_text a b ≡ true → a ≡ b
same_text-true [] [] h = refl
same_text-true [] (d ∷ b) h = cc
same_text-true (c ∷ a) [] h = cc
same_text-true (c ∷ a) (d ∷ b) h =
    let first = eqb-true c d (first_so (c == d) _ h) in
    let rest = same_text-true a b (second_so (c == d) _ h) in
    cc

-- what stands at a place that was found, counted from `n`
abbrev pub StandsFrom : ℕ → List (List ℕ) → List ℕ → Option ℕ → Type 0
StandsFrom n list text None = Unit {0}
StandsFrom n list text (Some place) = (i : ℕ) × (place ≡ n + i) × (slice_get list i ≡ Some text)

pub stands : (n : ℕ) (list : List (List ℕ)) (text : List ℕ) → StandsFrom n list text (place_from n list text)
stands n [] text = tt
stands n (row ∷ list) text = here (same_text row text) refl (stands (suc n) list text)
  where
    further : (o : Option ℕ) → StandsFrom (suc n) list text o → StandsFrom n (row ∷ list) text o
    further None h = tt
    further (Some place) h = (suc h.0, omega (arith, h.1), h.2)

    here : (same : Bool) → same_text row text ≡ same → StandsFrom (suc n) list text (place_from (suc n) list text) → StandsFrom n (row ∷ list) text (elim same [ true ↦ Some n | false ↦ place_from (suc n) list text ])
    here true e rest = (0, omega arith, ap (λ t. Some t) (same_text-true row text e))
    here false e rest = further (place_from (suc n) list text) rest

-- what two lists of options have at one row
at_row : {A B : Type 0} (f : A → Option B) (xs : List A) (ys : List B) (row : ℕ) (x : A) → map f xs ≡ map (λ y. Some y) ys → slice_get xs row ≡ Some x → option_map (λ y. Some y) (slice_get ys row) ≡ Some (f x)
at_row f xs ys row x same h =
    sym (slice_get-map (λ y. Some y) ys row) ∙ sym (ap (λ l. slice_get l row) same) ∙ slice_get-map f xs row ∙ ap (option_map f) h

inner : {B : Type 0} (o : Option B) (p : Option B) → option_map (λ y. Some y) o ≡ Some p → o ≡ p
inner None p h = cc
inner (Some y) p h = cc

-- `places` are the places of the table's rows
pub place_of_row : (list table : List (List ℕ)) (places : List ℕ) (text : List ℕ) (row place : ℕ) → map (place_from 0 list) table ≡ map (λ p. Some p) places → slice_get table row ≡ Some text → slice_get places row ≡ Some place → place_from 0 list text ≡ Some place
place_of_row list table places text row place placed h e =
    sym (inner (slice_get places row) (place_from 0 list text) (at_row (place_from 0 list) table places row text placed h)) ∙ e

-- `rows` are the rows of the list's places
pub row_of_place : (list table : List (List ℕ)) (rows : List ℕ) (place row : ℕ) → map (slice_get table) rows ≡ map (λ t. Some t) list → slice_get rows place ≡ Some row → slice_get list place ≡ slice_get table row
row_of_place list table rows place row rowed h = inner (slice_get list place) (slice_get table row) (at_row (slice_get table) rows list place row rowed h)

-- a text that has no row has no place
pub no_place : (list table : List (List ℕ)) (rows : List ℕ) (text : List ℕ) → map (slice_get table) rows ≡ map (λ t. Some t) list → ((row : ℕ) → slice_get table row ≡ Some text → ⊥) → place_from 0 list text ≡ None
no_place list table rows text rowed never = by (place_from 0 list text) (stands 0 list text)
  where
    through : (i : ℕ) (o : Option ℕ) → slice_get rows i ≡ o → slice_get list i ≡ Some text → ⊥
    through i None e h =
        let other = slice_get-map (slice_get table) rows i ∙ ap (option_map (slice_get table)) e in
        let own = slice_get-map (λ t. Some t) list i ∙ ap (option_map (λ t. Some t)) h in
        let same = ap (λ l. slice_get l i) rowed in
        cc
    through i (Some row) e h = never row (sym (row_of_place list table rows i row rowed e) ∙ h)

    by : (o : Option ℕ) → StandsFrom 0 list text o → o ≡ None
    by None h = refl
    by (Some place) h = absurd (through h.0 (slice_get rows h.0) refl h.2)

-- The two lists.

-- the places of a list, from `n`
abbrev pub places_from : ℕ → List (List ℕ) → List ℕ
places_from n [] = []
places_from n (text ∷ list) = n ∷ places_from (suc n) list

place_in : (n : ℕ) (list : List (List ℕ)) (row : ℕ) → row < length list → slice_get (places_from n list) row ≡ Some (n + row)
place_in n [] row h = absurd (omega arith)
place_in n (text ∷ list) zero h = let e : n ≡ n + 0 = omega arith in ap (λ k. Some k) e
place_in n (text ∷ list) (suc row) h = let e : suc n + row ≡ n + suc row = omega arith in place_in (suc n) list row (omega arith) ∙ ap (λ k. Some k) e

pub place_at : (list : List (List ℕ)) (row : ℕ) → row < length list → slice_get (places_from 0 list) row ≡ Some row
place_at list row h = place_in 0 list row h ∙ ap (λ k. Some k) (zero-add row)

pub keywords-keys : are_keys keywords ≡ true
keywords-keys = keys_when_ascii keywords refl refl

pub keywords-texts : texts keywords ≡ keywords
keywords-texts = texts-ascii keywords refl

pub keywords-placed : map (place_from 0 keywords) keywords ≡ map (λ p. Some p) (places_from 0 keywords)
keywords-placed = refl

pub keywords-rowed : map (slice_get keywords) (places_from 0 keywords) ≡ map (λ t. Some t) keywords
keywords-rowed = refl

abbrev pub sign_places : List ℕ
sign_places = 31 ∷ 14 ∷ 16 ∷ 21 ∷ 43 ∷ 28 ∷ 33 ∷ 48 ∷ 2 ∷ 3 ∷ 19 ∷ 22 ∷ 44 ∷ 41 ∷ 17 ∷ 23 ∷ 39 ∷ 7 ∷ 18 ∷ 24 ∷ 40 ∷ 8 ∷ 20 ∷ 42 ∷ 37 ∷ 6 ∷ 9 ∷ 25 ∷ 45 ∷ 11 ∷ 38 ∷ 13 ∷ 15 ∷ 51 ∷ 10 ∷ 12 ∷ 26 ∷ 46 ∷ 27 ∷ 47 ∷ 36 ∷ 35 ∷ 4 ∷ 5 ∷ 30 ∷ 50 ∷ 0 ∷ 29 ∷ 49 ∷ 34 ∷ 1 ∷ 32 ∷ []

abbrev pub sign_rows : List ℕ
sign_rows = 46 ∷ 50 ∷ 8 ∷ 9 ∷ 42 ∷ 43 ∷ 25 ∷ 17 ∷ 21 ∷ 26 ∷ 34 ∷ 29 ∷ 35 ∷ 31 ∷ 1 ∷ 32 ∷ 2 ∷ 14 ∷ 18 ∷ 10 ∷ 22 ∷ 3 ∷ 11 ∷ 15 ∷ 19 ∷ 27 ∷ 36 ∷ 38 ∷ 5 ∷ 47 ∷ 44 ∷ 0 ∷ 51 ∷ 6 ∷ 49 ∷ 41 ∷ 40 ∷ 24 ∷ 30 ∷ 16 ∷ 20 ∷ 13 ∷ 23 ∷ 4 ∷ 12 ∷ 28 ∷ 37 ∷ 39 ∷ 7 ∷ 48 ∷ 45 ∷ 33 ∷ []

pub signs-keys : are_keys ascending_signs ≡ true
signs-keys = keys_when_ascii ascending_signs refl refl

pub signs-texts : texts ascending_signs ≡ ascending_signs
signs-texts = texts-ascii ascending_signs refl

pub signs-placed : map (place_from 0 signs) ascending_signs ≡ map (λ p. Some p) sign_places
signs-placed = refl

pub signs-rowed : map (slice_get ascending_signs) sign_rows ≡ map (λ t. Some t) signs
signs-rowed = refl

-- the texts of a table that holds these keys
pub texts_held : (keys : List (List ℕ)) → texts keys ≡ keys → (table : List (List ℕ)) → table ≡ keys → (row : ℕ) → slice_get (texts table) row ≡ slice_get keys row
texts_held keys h table e row = ap (λ t. slice_get (texts t) row) e ∙ ap (λ t. slice_get t row) h

-- the row of a sign, given its place

sign_row : (place : ℕ) → place < 52 → slice_get signs place ≡ slice_get ascending_signs (get_or sign_rows place 0)
sign_row place h = row_of_place signs ascending_signs sign_rows place (get_or sign_rows place 0) signs-rowed (slice_get-get_or sign_rows place 0 h)

pub sign_row-within : (place row : ℕ) → place < 52 → row ≡ get_or sign_rows place 0 → row < 52
sign_row-within place row h e =
    slice_get_within ascending_signs row (get_or signs place []) (ap (slice_get ascending_signs) e ∙ sym (sign_row place h) ∙ slice_get-get_or signs place [] h)

pub sign_at : (place row : ℕ) (table : List (List ℕ)) (text : List ℕ) → place < 52 → row ≡ get_or sign_rows place 0 → table ≡ ascending_signs → slice_get table row ≡ Some text → slice_get signs place ≡ Some text
sign_at place row table text h e same there =
    sign_row place h ∙ ap (slice_get ascending_signs) (sym e) ∙ ap (λ t. slice_get t row) (sym same) ∙ there

-- what a table of these keys found
pub found_in : (keys : List (List ℕ)) → texts keys ≡ keys → (table : List (List ℕ)) → table ≡ keys → (row : ℕ) (text : List ℕ) → slice_get (texts table) row ≡ Some text → slice_get keys row ≡ Some text
found_in keys h table e row text there = sym (texts_held keys h table e row) ∙ there
