-- Numbers in range, and array indices.
use Rattle.std.proofs.Common.{◌≡◌, ℕ, zero, suc, ◌/◌, ◌%◌, ◌<◌, ◌≤◌, Bool, true, false, not, ◌&&◌, nat_eq, nat_lt, nat_le, cond, List, length, get_or, Some, None, ℤ, pos, unsigned_abs, FitsSigned, w64, refl, sym, ◌∙◌, ap, arith}
use Rattle.std.specs.Fmt.{decimal}
use Rattle.std.specs.Str.Parse.{AllDigits, digits_value}
use Rattle.std.proofs.lemmas.Fmt.{decimal_is_IsNumeral, decimal-digits_value, first_decimal, decimal_digit}
use Rattle.std.proofs.lemmas.Str.Parse.{IsNumeralModel, numerals_by_value, tells_digits}
use Rattle.std.proofs.lemmas.Int.{fits_signed_from_abs}
use Rattle.std.proofs.lemmas.Bool.{leb-true}
use Rattle.js_value.specs.Number.{greatest, Exact, num, signed, IsNumber}
use Rattle.js_value.specs.Numeral.{IsIndexOf, number_text}
use Rattle.js_value.specs.Literal.{digits_number}
use Rattle.js_value.proofs.Ascii.{and_left, and_right}
use Rattle.js_value.proofs.Reading.{number_told, number_some}
use Rattle.js_value.proofs.Digits.{signed_decimal_text}

abs_signed : (s : Bool) (q : ℕ) → unsigned_abs (signed s q) ≡ q
abs_signed false q = refl
abs_signed true zero = refl
abs_signed true (suc q) = refl

some_told : (b : Bool) (x n : ℤ) → cond b (Some x) None ≡ Some n → (b ≡ true) × (x ≡ n)
some_told true x n h = (refl, cc)
some_told false x n h = cc

-- what the operators give is a Number
pub num_is_number : (exact : Exact) (n : ℤ) → num exact ≡ Some n → IsNumber n
num_is_number exact n h =
    let told = some_told (nat_lt 0 exact.denominator && (nat_eq (exact.numerator % exact.denominator) 0) && nat_le (exact.numerator / exact.denominator) greatest && not (exact.negative && (nat_eq exact.numerator 0))) (signed exact.negative (exact.numerator / exact.denominator)) n h in
    let test : nat_le (exact.numerator / exact.denominator) greatest ≡ true =
    and_right (nat_lt 0 exact.denominator && (nat_eq (exact.numerator % exact.denominator) 0)) (nat_le (exact.numerator / exact.denominator) greatest) (and_left (nat_lt 0 exact.denominator && (nat_eq (exact.numerator % exact.denominator) 0) && nat_le (exact.numerator / exact.denominator) greatest) (not (exact.negative && (nat_eq exact.numerator 0))) told.0) in
    let small : exact.numerator / exact.denominator ≤ greatest = small_from (exact.numerator / exact.denominator) test in
    record { bound = rw (sym told.1) (rw (abs_signed exact.negative (exact.numerator / exact.denominator)) small) }
  where
    small_from : (q : ℕ) → nat_le q greatest ≡ true → q ≤ greatest
    small_from q test = leb-true q greatest test

pub number_fits : (n : ℤ) → IsNumber n → FitsSigned w64 n
number_fits n h = fits_signed_from_abs w64 n (omega (arith, h.bound))

-- Array indices.

index_text : (n : ℕ) → n ≤ 4294967294 → decimal n ≡ number_text 10 (pos n)
index_text n h = signed_decimal_text (pos n) (record { bound = omega arith })

pub index_read : (text : List ℕ) (n : ℕ) → digits_number 10 text ≡ Some n → n ≤ 4294967294 → (get_or text 0 0 ≡ 0x30 → length text ≡ 1) → IsIndexOf text n
index_read text n h small lead =
    let told = number_told 10 text n h in
    let value : digits_value 10 text ≡ n = told.1 in
    let back : decimal (digits_value 10 text) ≡ text = decimal-digits_value own text told.0.1 told.0.0 lead (rw value (omega arith)) in
    record { canonical = sym back ∙ ap decimal value ∙ index_text n small; bound = small }
  where
    own : IsNumeralModel (AllDigits 10) (digits_value 10)
    own = numerals_by_value (AllDigits 10) tells_digits

pub index_digits : (text : List ℕ) (n : ℕ) → IsIndexOf text n → digits_number 10 text ≡ Some n
index_digits text n f =
    let same : text ≡ decimal n = f.canonical ∙ sym (index_text n f.bound) in
    let numeral = decimal_is_IsNumeral n (omega (arith, f.bound)) in
    let value : digits_value 10 (decimal n) ≡ n = numeral.1 in
    ap (digits_number 10) same ∙ number_some 10 (decimal n) numeral.0 (rw value (omega (arith, f.bound))) ∙ ap (λ m. Some m) value

pub index_lead : (text : List ℕ) (n : ℕ) → IsIndexOf text n → get_or text 0 0 ≡ 0x30 → length text ≡ 1
index_lead text zero f lead = ap length (f.canonical ∙ sym (index_text 0 f.bound) ∙ decimal_digit 0 (omega arith))
index_lead text (suc n) f lead =
    let same : text ≡ decimal (suc n) = f.canonical ∙ sym (index_text (suc n) f.bound) in
    let above : 0x30 < get_or (decimal (suc n)) 0 0 = first_decimal (suc n) (omega arith) (omega (arith, f.bound)) in
    absurd (omega (arith, ap (λ t. get_or t 0 0) same))
