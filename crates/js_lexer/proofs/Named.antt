-- Names and keywords, by their units.
use Rattle.std.proofs.Common.{◌≡◌, ℕ, suc, ◌+◌, ◌-◌, ◌/◌, ◌%◌, ◌<◌, ◌≤◌, ◌==◌, Bool, true, false, ◌&&◌, nat_lt, List, [], ◌∷◌, length, take_while, Option, Some, None, Ok, refl, sym, ◌∙◌, ap, arith, ⊎_elim}
use Rattle.std.specs.List.{flat_map, list_all}
use Rattle.std.proofs.lemmas.Bool.{cases_lt}
use Rattle.std.proofs.lemmas.Bool.Decides.{nat_tests}
use Rattle.js_value.specs.Text.{utf16}
use Rattle.es_model.specs.declared.token.TokenKind.TheVariants as k
use Rattle.es_model.specs.Tokens as s
use Rattle.es_model.specs.Tokens.{same_text, place_from, keywords, keyword_of, name_element, is_name_part}
use Rattle.js_lexer.specs.declared.elements.Found.TheVariants.{Token}
use Rattle.js_lexer.specs.Left.{Left}
use Rattle.js_lexer.specs.Reads.{found, word_of, behind}

abbrev is_ascii : List ℕ → Bool
is_ascii row = list_all (λ c. nat_lt c 128) row

and_true : (a b : Bool) → (a && b) ≡ true → (a ≡ true) × (b ≡ true)
and_true true b h = (refl, h)
and_true false b h = absurd (cc h)

-- an ASCII text is the text of characters exactly where it is their units
same_units : (row characters : List ℕ) → is_ascii row ≡ true → same_text row (flat_map utf16 characters) ≡ same_text row characters
same_units [] [] h = refl
same_units [] (c ∷ cs) h =
    ⊎_elim
    (λ (small : c < 0x10000). let test : nat_lt c 0x10000 ≡ true = grind (arith, nat_tests) in rw test refl)
    (λ (large : 0x10000 ≤ c). let test : nat_lt c 0x10000 ≡ false = grind (arith, nat_tests) in rw test refl)
    (cases_lt c 0x10000)
same_units (r ∷ row) [] h = refl
same_units (r ∷ row) (c ∷ cs) h =
    let both = and_true (nat_lt r 128) (is_ascii row) h in
    let low : r < 128 = grind (arith, nat_tests) in
    ⊎_elim
    (λ (small : c < 0x10000). let test : nat_lt c 0x10000 ≡ true = grind (arith, nat_tests) in rw test (ap (λ b. (r == c) && b) (same_units row cs both.1)))
    (λ (large : 0x10000 ≤ c).
    let test : nat_lt c 0x10000 ≡ false = grind (arith, nat_tests) in
    let one : (r == 0xD800 + (c - 0x10000) / 0x400) ≡ false = grind (arith, nat_tests) in
    let other : (r == c) ≡ false = grind (arith, nat_tests) in
    rw test (ap (λ b. b && same_text row ((0xDC00 + (c - 0x10000) % 0x400) ∷ flat_map utf16 cs)) one ∙ sym (ap (λ b. b && same_text row cs) other)))
    (cases_lt c 0x10000)

place_units : (n : ℕ) (rows : List (List ℕ)) (characters : List ℕ) → list_all is_ascii rows ≡ true → place_from n rows (flat_map utf16 characters) ≡ place_from n rows characters
place_units n [] characters h = refl
place_units n (row ∷ rows) characters h =
    let both = and_true (is_ascii row) (list_all is_ascii rows) h in
    ap (λ b. elim b as (λ _. Option ℕ) [ true ↦ Some n | false ↦ place_from (suc n) rows (flat_map utf16 characters) ]) (same_units row characters both.0)
    ∙ ap (λ later. elim (same_text row characters) as (λ _. Option ℕ) [ true ↦ Some n | false ↦ later ]) (place_units (suc n) rows characters both.1)

keywords_ascii : list_all is_ascii keywords ≡ true
keywords_ascii = refl

-- the token of a name's units
pub name_found : (c : ℕ) (left : Left) (text : List ℕ) → flat_map utf16 (c ∷ take_while is_name_part left.text) ≡ text → found (name_element c left.text) left ≡ Ok (Token (word_of text), behind is_name_part left)
name_found c left text is = by_place (keyword_of (c ∷ take_while is_name_part left.text)) (sym (place_units 0 keywords (c ∷ take_while is_name_part left.text) keywords_ascii) ∙ ap keyword_of is)
  where
    by_place : (o : Option ℕ) → o ≡ keyword_of text → found (elim o [ Some n ↦ s.Word (k.Keyword n) (length (take_while is_name_part left.text)) | None ↦ s.Word (k.Name (flat_map utf16 (c ∷ take_while is_name_part left.text))) (length (take_while is_name_part left.text)) ]) left ≡ Ok (Token (word_of text), behind is_name_part left)
    by_place None e = ap (λ t. Ok (Token (k.Name t), behind is_name_part left)) is ∙ ap (λ o. Ok (Token (elim o [ Some n ↦ k.Keyword n | None ↦ k.Name text ]), behind is_name_part left)) e
    by_place (Some n) e = ap (λ o. Ok (Token (elim o [ Some n ↦ k.Keyword n | None ↦ k.Name text ]), behind is_name_part left)) e
