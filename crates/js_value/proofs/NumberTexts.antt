-- The functions between numbers and texts compute the relations that the program is proved against.
use Rattle.std.proofs.Common.{◌≡◌, ℕ, ◌≤◌, Bool, true, false, cond, ◌&&◌, List, ℤ, pos, negsuc, nat_lt, bytes_eq, arith, refl, sym, ap, ◌∙◌, Option, Some, None}
use Rattle.std.specs.Fmt.{digits}
use Rattle.std.proofs.lemmas.Bool.Decides.{nat_tests}
use Rattle.std.proofs.lemmas.Slice.Eq.{bytes_eq-Decides}
use Rattle.js_value.specs.Number.{IsNumber}
use Rattle.js_value.specs.Numeral.{number_text, IsNumberOf, IsIndexOf}
use Rattle.js_value.specs.Literal.{digits_number}
use Rattle.js_value.specs.NumberText.{text_of_number, number_of_text, index_of_text, index_in_range}
use Rattle.js_value.proofs.Digits.{signed_decimal_text}
use Rattle.js_value.proofs.Spelled.{read_is_spelled, spelled_is_read}
use Rattle.js_value.proofs.Indices.{index_digits}

-- ---- a number's text

pub text_of_number-is : (z : ℤ) → IsNumber z → text_of_number z ≡ number_text 10 z
unfolding digits
text_of_number-is (pos n) h = signed_decimal_text (pos n) h
text_of_number-is (negsuc n) h = signed_decimal_text (negsuc n) h

-- ---- the number of a text

pub number_of_text_spells : (us : List ℕ) (n : ℤ) → number_of_text us ≡ Some n → IsNumberOf us n
number_of_text_spells us n e = read_is_spelled us n e

pub number_of_spelled : (us : List ℕ) (n : ℤ) → IsNumberOf us n → number_of_text us ≡ Some n
number_of_spelled us n h = spelled_is_read us n h

-- ---- the index of a text

small : (i : ℕ) → i ≤ 4294967294 → IsNumber (pos i)
small i l = record { bound = omega arith }

below_limit : (n i : ℕ) → nat_lt n 4294967295 ≡ true → n ≡ i → i ≤ 4294967294
below_limit n i q e = grind (arith, nat_tests)

in_range_is : (us : List ℕ) (o : Option ℕ) (i : ℕ) → index_in_range us o ≡ Some i → IsIndexOf us i
in_range_is us None i e = absurd (cc)
in_range_is us (Some n) i e = by_tests (nat_lt n 4294967295) (bytes_eq (text_of_number (pos n)) us) refl refl e
  where
    by_tests : (a b : Bool) → nat_lt n 4294967295 ≡ a → bytes_eq (text_of_number (pos n)) us ≡ b → cond (a && b) (Some n) None ≡ Some i → IsIndexOf us i
    by_tests true true q r f =
        let same : n ≡ i = cc in
        let bound : i ≤ 4294967294 = below_limit n i q same in
        let text : text_of_number (pos n) ≡ us = (bytes_eq-Decides (text_of_number (pos n)) us).0 r in
        record { canonical = sym text ∙ ap (λ k. text_of_number (pos k)) same ∙ text_of_number-is (pos i) (small i bound); bound = bound }
    by_tests true false q r f = absurd (cc)
    by_tests false b q r f = absurd (cc)

pub index_of_text_is : (us : List ℕ) (i : ℕ) → index_of_text us ≡ Some i → IsIndexOf us i
index_of_text_is us i e = in_range_is us (digits_number 10 us) i e

within : (i : ℕ) → i ≤ 4294967294 → nat_lt i 4294967295 ≡ true
within i l = grind (arith, nat_tests)

pub index_of_canonical : (us : List ℕ) (i : ℕ) → IsIndexOf us i → index_of_text us ≡ Some i
index_of_canonical us i h = ap (index_in_range us) (index_digits us i h) ∙ by_tests (nat_lt i 4294967295) (bytes_eq (text_of_number (pos i)) us) (within i h.bound) text
  where
    text : bytes_eq (text_of_number (pos i)) us ≡ true
    text = (bytes_eq-Decides (text_of_number (pos i)) us).1 (text_of_number-is (pos i) (small i h.bound) ∙ sym h.canonical)

    by_tests : (a b : Bool) → a ≡ true → b ≡ true → cond (a && b) (Some i) None ≡ Some i
    by_tests true true q r = refl
    by_tests false b q r = absurd (cc)
    by_tests true false q r = absurd (cc)
