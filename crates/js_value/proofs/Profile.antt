-- Texts that are Strings, and texts' numbers.
use Rattle.std.proofs.Common.{◌≡◌, ℕ, zero, suc, ◌+◌, ◌/◌, ◌%◌, ◌<◌, ◌≤◌, Bool, true, false, cond, ◌&&◌, ◌==◌, nat_lt, nat_le, [], ◌∷◌, length, ℤ, pos, negsuc, Some, IfSome, slice_get, arith}
use Rattle.std.specs.Fmt.{digits_onto, digit_glyph}
use Rattle.std.proofs.lemmas.Bool.Decides.{nat_tests}
use Rattle.js_value.specs.Number.{IsNumber, greatest}
use Rattle.js_value.specs.NumberText.{text_of_number, number_of_text}
use Rattle.js_value.specs.Value.{Text}
use Rattle.js_value.specs.Order.{AreUnits, IsString}
use Rattle.js_value.proofs.Ascii.{and_left, and_right}
use Rattle.js_value.proofs.Indices.{num_is_number}
use Rattle.js_value.proofs.NumberTexts.{number_of_text_spells}

-- ---- a text is a String where a test finds it so

abbrev pub are_units : Text → Bool
are_units [] = true
are_units (u ∷ us) = nat_lt u 65536 && are_units us

abbrev pub is_string : Text → Bool
is_string t = are_units t && nat_le (length t) greatest

units_tested : (t : Text) → are_units t ≡ true → AreUnits t
units_tested [] e = tt
units_tested (u ∷ us) e = (small u (and_left (nat_lt u 65536) (are_units us) e), units_tested us (and_right (nat_lt u 65536) (are_units us) e))
  where
    small : (n : ℕ) → nat_lt n 65536 ≡ true → n < 65536
    small n q = grind (arith, nat_tests)

pub string_tested : (t : Text) → is_string t ≡ true → IsString t
string_tested t e = record {
  units = units_tested t (and_left (are_units t) (nat_le (length t) greatest) e);
  bound = short (length t) (and_right (are_units t) (nat_le (length t) greatest) e);
}
  where
    short : (n : ℕ) → nat_le n greatest ≡ true → n ≤ greatest
    short n q = grind (arith, nat_tests)

-- ---- a number's text

glyph_is_unit : (d : ℕ) → d < 10 → digit_glyph false d < 65536
glyph_is_unit d l = by_test (nat_lt d 10)
  where
    by_test : (b : Bool) → cond b (48 + d) (87 + d) < 65536
    by_test true = omega arith
    by_test false = omega arith

digits_units : (k n : ℕ) (us : Text) → AreUnits us → AreUnits (digits_onto k 10 false n us)
digits_units zero n us h = h
digits_units (suc k) n us h = let more : AreUnits (digit_glyph false (n % 10) ∷ us) = (glyph_is_unit (n % 10) (omega arith), h) in by_test (n / 10 == 0) more (digits_units k (n / 10) (digit_glyph false (n % 10) ∷ us) more)
  where
    by_test : (b : Bool) → AreUnits (digit_glyph false (n % 10) ∷ us) → AreUnits (digits_onto k 10 false (n / 10) (digit_glyph false (n % 10) ∷ us)) → AreUnits (cond b (digit_glyph false (n % 10) ∷ us) (digits_onto k 10 false (n / 10) (digit_glyph false (n % 10) ∷ us)))
    by_test true more rest = more
    by_test false more rest = rest

digits_bound : (k n : ℕ) (us : Text) → length (digits_onto k 10 false n us) ≤ k + length us
digits_bound zero n us = omega arith
digits_bound (suc k) n us = by_test (n / 10 == 0) (digits_bound k (n / 10) (digit_glyph false (n % 10) ∷ us))
  where
    by_test : (b : Bool) → length (digits_onto k 10 false (n / 10) (digit_glyph false (n % 10) ∷ us)) ≤ k + suc (length us)
        → length (cond b (digit_glyph false (n % 10) ∷ us) (digits_onto k 10 false (n / 10) (digit_glyph false (n % 10) ∷ us))) ≤ suc k + length us
    by_test true l = omega arith
    by_test false l = omega arith

pub text_of_number_is_string : (z : ℤ) → IsString (text_of_number z)
text_of_number_is_string (pos n) = record { units = digits_units 64 n [] tt; bound = let l = digits_bound 64 n [] in omega arith }
text_of_number_is_string (negsuc n) = record { units = (omega arith, digits_units 64 (suc n) [] tt); bound = let l = digits_bound 64 (suc n) [] in omega arith }

-- ---- a text's number, and its units

pub number_of_text_is_number : (t : Text) (n : ℤ) → number_of_text t ≡ Some n → IsNumber n
number_of_text_is_number t n e = let spelled = number_of_text_spells t n e in num_is_number spelled.value n spelled.is

pub unit_of_text : (t : Text) (i : ℕ) → AreUnits t → IfSome (slice_get t i) (λ u. u < 65536)
unit_of_text [] i h = tt
unit_of_text (u ∷ us) zero h = h.0
unit_of_text (u ∷ us) (suc i) h = unit_of_text us i h.1
