-- Literals: what is read is what is spelled.
use Rattle.std.proofs.Common.{◌≡◌, ℕ, zero, suc, ◌<◌, ◌≤◌, Bool, true, false, ◌&&◌, ◌||◌, nat_eq, nat_le, cond, List, [], ◌∷◌, drop, Option, Some, None, ℤ, pos, neg_ℤ, refl, sym, ◌∙◌, ap, arith, ◌⊎◌, inl, inr, ⊎_elim}
use Rattle.std.specs.Char.{digit_value}
use Rattle.std.specs.Str.Parse.{IsNumeral, AllDigits, digits_value}
use Rattle.std.proofs.lemmas.List.Elements.{All-cons, All-nil}
use Rattle.std.proofs.lemmas.Bool.{cases_lt, cond-false, false≢true, or_cases}
use Rattle.std.proofs.lemmas.Bool.Decides.{nat_tests, eqb_tells}
use Rattle.js_value.specs.Number.{greatest, Exact, fraction, whole, num}
use Rattle.js_value.specs.Numeral.{Spells, empty, decimal, positive, negative, hexadecimal, octal, binary, IsNumberOf, is_white_space, IsLetter}
use Rattle.js_value.specs.Literal.{trim_start, trim_end, digits_number, letter_radix, radix_of, unsigned_number, literal_number}
use Rattle.js_value.specs.Literal as step
use Rattle.js_value.proofs.Powers.{num-large, num-small}
use Rattle.js_value.proofs.Reading.{number_told, number_some}
use Rattle.js_value.proofs.Trimming.{IsSolid, IsNoSpace, IsAround, around, trimmed}
use Rattle.js_value.proofs.Sequences.{and_false}

-- Numbers from magnitudes.

positive_num : (m : ℕ) (n : ℤ) → num (fraction false m 1) ≡ Some n → (m ≤ greatest) × (pos m ≡ n)
positive_num m n h =
    ⊎_elim
    (λ (large : greatest < m). let none : num (fraction false m 1) ≡ None = num-large false m large in cc)
    (λ (small : m ≤ greatest). let some : num (fraction false m 1) ≡ Some (pos m) = num-small false m small (λ e. absurd (false≢true e)) in (small, cc))
    (cases_lt greatest m)

negative_num : (m : ℕ) (n : ℤ) → num (fraction true m 1) ≡ Some n → (m ≤ greatest) × ((0 < m) × (neg_ℤ (pos m) ≡ n))
negative_num zero n h = cc
negative_num (suc m) n h =
    ⊎_elim
    (λ (large : greatest < suc m). let none : num (fraction true (suc m) 1) ≡ None = num-large true (suc m) large in cc)
    (λ (small : suc m ≤ greatest). let some : num (fraction true (suc m) 1) ≡ Some (neg_ℤ (pos (suc m))) = num-small true (suc m) small (λ e. omega arith) in (small, (omega arith, cc)))
    (cases_lt greatest (suc m))

positive_told : (o : Option ℕ) (n : ℤ) → step.positive o ≡ Some n → (m : ℕ) × ((o ≡ Some m) × (pos m ≡ n))
positive_told None n h = cc
positive_told (Some m) n h = (m, (refl, cc))

negative_told : (o : Option ℕ) (n : ℤ) → step.negative o ≡ Some n → (m : ℕ) × ((o ≡ Some m) × ((0 < m) × (neg_ℤ (pos m) ≡ n)))
negative_told None n h = cc
negative_told (Some zero) n h = cc
negative_told (Some (suc m)) n h =
    let some : nat_eq (suc m) 0 ≡ false = grind (arith, nat_tests) in
    let told : Some (neg_ℤ (pos (suc m))) ≡ Some n = sym (cond-false (nat_eq (suc m) 0) None (Some (neg_ℤ (pos (suc m)))) some) ∙ h in
    (suc m, (refl, (omega arith, cc)))

-- What is read is spelled.

abbrev pub IsSpelled : List ℕ → ℤ → Type 0
IsSpelled text n = (value : Exact) × (Spells text value × (num value ≡ Some n))

-- the value of digits, as a positive Number
digits_spelled : (radix : ℕ) (digits : List ℕ) (n : ℤ) → step.positive (digits_number radix digits) ≡ Some n → IsNumeral radix digits × (num (fraction false (digits_value radix digits) 1) ≡ Some n)
digits_spelled radix digits n h =
    let told = positive_told (digits_number radix digits) n h in
    let number = number_told radix digits told.0 told.1.0 in
    let value : digits_value radix digits ≡ told.0 = number.1 in
    (number.0, rw value (num-small false told.0 number.2 (λ e. absurd (false≢true e)) ∙ ap (λ z. Some z) told.1.1))

minus_spelled : (digits : List ℕ) (n : ℤ) → step.negative (digits_number 10 digits) ≡ Some n → IsNumeral 10 digits × (num (fraction true (digits_value 10 digits) 1) ≡ Some n)
minus_spelled digits n h =
    let told = negative_told (digits_number 10 digits) n h in
    let number = number_told 10 digits told.0 told.1.0 in
    let value : digits_value 10 digits ≡ told.0 = number.1 in
    (number.0, rw value (num-small true told.0 number.2 (λ e. told.1.1.0) ∙ ap (λ z. Some z) told.1.1.1))

decimal_spelled : (text : List ℕ) (n : ℤ) → step.positive (digits_number 10 text) ≡ Some n → IsSpelled text n
decimal_spelled text n h =
    let s = digits_spelled 10 text n h in (fraction false (digits_value 10 text) 1, (decimal s.0 refl, s.1))

same_unit : (a b : ℕ) → nat_eq a b ≡ true → a ≡ b
same_unit a b h = grind (arith, nat_tests)

is_letter : (lower upper unit : ℕ) → (nat_eq unit lower || nat_eq unit upper) ≡ true → IsLetter lower upper unit
is_letter lower upper unit h =
    ⊎_elim
    (λ (l : nat_eq unit lower ≡ true). inl (same_unit unit lower l))
    (λ (u : nat_eq unit upper ≡ true). inr (same_unit unit upper u))
    (or_cases (nat_eq unit lower) (nat_eq unit upper) h)

letter_case : (x o b : Bool) (letter : ℕ) (digits : List ℕ) (n : ℤ) → (x ≡ true → IsLetter 0x78 0x58 letter) → (o ≡ true → IsLetter 0x6F 0x4F letter) → (b ≡ true → IsLetter 0x62 0x42 letter) → step.positive (cond (nat_eq (cond x 16 (cond o 8 (cond b 2 10))) 10) (digits_number 10 (0x30 ∷ letter ∷ digits)) (digits_number (cond x 16 (cond o 8 (cond b 2 10))) digits)) ≡ Some n → IsSpelled (0x30 ∷ letter ∷ digits) n
letter_case true o b letter digits n is_x is_o is_b h =
    let s = digits_spelled 16 digits n h in (fraction false (digits_value 16 digits) 1, (hexadecimal letter digits (is_x refl) refl s.0 refl, s.1))
letter_case false true b letter digits n is_x is_o is_b h =
    let s = digits_spelled 8 digits n h in (fraction false (digits_value 8 digits) 1, (octal letter digits (is_o refl) refl s.0 refl, s.1))
letter_case false false true letter digits n is_x is_o is_b h =
    let s = digits_spelled 2 digits n h in (fraction false (digits_value 2 digits) 1, (binary letter digits (is_b refl) refl s.0 refl, s.1))
letter_case false false false letter digits n is_x is_o is_b h = decimal_spelled (0x30 ∷ letter ∷ digits) n h

letter_spelled : (letter : ℕ) (digits : List ℕ) (n : ℤ) → unsigned_number (0x30 ∷ letter ∷ digits) ≡ Some n → IsSpelled (0x30 ∷ letter ∷ digits) n
letter_spelled letter digits n h =
    letter_case (nat_eq letter 0x78 || nat_eq letter 0x58) (nat_eq letter 0x6F || nat_eq letter 0x4F) (nat_eq letter 0x62 || nat_eq letter 0x42) letter digits n (is_letter 0x78 0x58 letter) (is_letter 0x6F 0x4F letter) (is_letter 0x62 0x42 letter) h

zero_case : (z : Bool) (first letter : ℕ) (digits : List ℕ) (n : ℤ) → (z ≡ true → first ≡ 0x30) → nat_eq first 0x30 ≡ z → unsigned_number (first ∷ letter ∷ digits) ≡ Some n → IsSpelled (first ∷ letter ∷ digits) n
zero_case true first letter digits n is_zero e h =
    let same : first ≡ 0x30 = is_zero refl in
    let there : unsigned_number (0x30 ∷ letter ∷ digits) ≡ Some n = ap (λ u. unsigned_number (u ∷ letter ∷ digits)) (sym same) ∙ h in
    rw same (letter_spelled letter digits n there)
zero_case false first letter digits n is_zero e h =
    let ten : radix_of (first ∷ letter ∷ digits) ≡ 10 = cond-false (nat_eq first 0x30) (letter_radix letter) 10 e in
    decimal_spelled (first ∷ letter ∷ digits) n (sym (ap (λ r. step.positive (cond (nat_eq r 10) (digits_number 10 (first ∷ letter ∷ digits)) (digits_number r digits))) ten) ∙ h)

unsigned_spelled : (text : List ℕ) (n : ℤ) → unsigned_number text ≡ Some n → IsSpelled text n
unsigned_spelled [] n h = decimal_spelled [] n h
unsigned_spelled (first ∷ []) n h = decimal_spelled (first ∷ []) n h
unsigned_spelled (first ∷ letter ∷ digits) n h =
    zero_case (nat_eq first 0x30) first letter digits n (same_unit first 0x30) refl h

sign_case : (p m : Bool) (first : ℕ) (digits : List ℕ) (n : ℤ) → (p ≡ true → first ≡ 0x2B) → (m ≡ true → first ≡ 0x2D) → cond p (step.positive (digits_number 10 digits)) (cond m (step.negative (digits_number 10 digits)) (unsigned_number (first ∷ digits))) ≡ Some n → IsSpelled (first ∷ digits) n
sign_case true m first digits n is_plus is_minus h =
    let s = digits_spelled 10 digits n h in (fraction false (digits_value 10 digits) 1, (positive digits (ap (λ u. u ∷ digits) (is_plus refl)) s.0 refl, s.1))
sign_case false true first digits n is_plus is_minus h =
    let s = minus_spelled digits n h in (fraction true (digits_value 10 digits) 1, (negative digits (ap (λ u. u ∷ digits) (is_minus refl)) s.0 refl, s.1))
sign_case false false first digits n is_plus is_minus h = unsigned_spelled (first ∷ digits) n h

literal_spelled : (text : List ℕ) (n : ℤ) → literal_number text ≡ Some n → IsSpelled text n
unfolding literal_number
literal_spelled [] n h = (whole (pos 0), (empty refl refl, h))
literal_spelled (first ∷ digits) n h =
    sign_case (nat_eq first 0x2B) (nat_eq first 0x2D) first digits n (same_unit first 0x2B) (same_unit first 0x2D) h

-- What is spelled is read.

digits_read : (radix : ℕ) (digits : List ℕ) (n : ℤ) → IsNumeral radix digits → num (fraction false (digits_value radix digits) 1) ≡ Some n → step.positive (digits_number radix digits) ≡ Some n
digits_read radix digits n numeral h =
    let t = positive_num (digits_value radix digits) n h in
    ap step.positive (number_some radix digits numeral t.0) ∙ ap (λ z. Some z) t.1

minus_read : (digits : List ℕ) (n : ℤ) → IsNumeral 10 digits → num (fraction true (digits_value 10 digits) 1) ≡ Some n → step.negative (digits_number 10 digits) ≡ Some n
minus_read digits n numeral h =
    let t = negative_num (digits_value 10 digits) n h in
    let some : nat_eq (digits_value 10 digits) 0 ≡ false = (let l : 0 < digits_value 10 digits = t.1.0 in grind (arith, nat_tests)) in
    ap step.negative (number_some 10 digits numeral t.0)
    ∙ cond-false (nat_eq (digits_value 10 digits) 0) None (Some (neg_ℤ (pos (digits_value 10 digits)))) some
    ∙ ap (λ z. Some z) t.1.1

empty_read : (n : ℤ) → num (whole (pos 0)) ≡ Some n → literal_number [] ≡ Some n
unfolding literal_number
empty_read n h = h

plus_literal : (digits : List ℕ) → literal_number (0x2B ∷ digits) ≡ step.positive (digits_number 10 digits)
unfolding literal_number
plus_literal digits = refl

minus_literal : (digits : List ℕ) → literal_number (0x2D ∷ digits) ≡ step.negative (digits_number 10 digits)
unfolding literal_number
minus_literal digits = refl

hexadecimal_literal : (letter : ℕ) (digits : List ℕ) → IsLetter 0x78 0x58 letter → literal_number (0x30 ∷ letter ∷ digits) ≡ step.positive (digits_number 16 digits)
unfolding literal_number
hexadecimal_literal letter digits (inl e) = rw e refl
hexadecimal_literal letter digits (inr e) = rw e refl

octal_literal : (letter : ℕ) (digits : List ℕ) → IsLetter 0x6F 0x4F letter → literal_number (0x30 ∷ letter ∷ digits) ≡ step.positive (digits_number 8 digits)
unfolding literal_number
octal_literal letter digits (inl e) = rw e refl
octal_literal letter digits (inr e) = rw e refl

binary_literal : (letter : ℕ) (digits : List ℕ) → IsLetter 0x62 0x42 letter → literal_number (0x30 ∷ letter ∷ digits) ≡ step.positive (digits_number 2 digits)
unfolding literal_number
binary_literal letter digits (inl e) = rw e refl
binary_literal letter digits (inr e) = rw e refl

-- a decimal digit is no sign and no letter
other_unit : (unit other : ℕ) → digit_value unit < 10 → 10 ≤ digit_value other → nat_eq unit other ≡ false
other_unit unit other small large =
    elim (eqb_tells unit other) [
      | inl same ↦ absurd (let l : digit_value other < 10 = rw (same.1) at small in omega arith)
      | inr differs ↦ differs.0
    ]

no_letter : (letter : ℕ) → digit_value letter < 10 → letter_radix letter ≡ 10
no_letter letter small =
    let a : nat_eq letter 0x78 ≡ false = other_unit letter 0x78 small (omega arith) in
    let b : nat_eq letter 0x58 ≡ false = other_unit letter 0x58 small (omega arith) in
    let c : nat_eq letter 0x6F ≡ false = other_unit letter 0x6F small (omega arith) in
    let d : nat_eq letter 0x4F ≡ false = other_unit letter 0x4F small (omega arith) in
    let e : nat_eq letter 0x62 ≡ false = other_unit letter 0x62 small (omega arith) in
    let f : nat_eq letter 0x42 ≡ false = other_unit letter 0x42 small (omega arith) in
    rw (a, b, c, d, e, f) refl

either_ten : (b : Bool) (n : ℕ) → n ≡ 10 → cond b n 10 ≡ 10
either_ten true n e = e
either_ten false n e = refl

radix_decimal : (text : List ℕ) → AllDigits 10 text → radix_of text ≡ 10
radix_decimal [] h = refl
radix_decimal (first ∷ []) h = refl
radix_decimal (first ∷ letter ∷ digits) h = either_ten (nat_eq first 0x30) (letter_radix letter) (no_letter letter h.1.0)

decimal_read : (text : List ℕ) (n : ℤ) → IsNumeral 10 text → num (fraction false (digits_value 10 text) 1) ≡ Some n → literal_number text ≡ Some n
unfolding literal_number
decimal_read [] n numeral h = absurd (let l : 0 < 0 = numeral.0 in omega arith)
decimal_read (first ∷ digits) n numeral h =
    let small : digit_value first < 10 = numeral.1.0 in
    let plus : nat_eq first 0x2B ≡ false = other_unit first 0x2B small (omega arith) in
    let minus : nat_eq first 0x2D ≡ false = other_unit first 0x2D small (omega arith) in
    cond-false (nat_eq first 0x2B) (step.positive (digits_number 10 digits)) (cond (nat_eq first 0x2D) (step.negative (digits_number 10 digits)) (unsigned_number (first ∷ digits))) plus
    ∙ cond-false (nat_eq first 0x2D) (step.negative (digits_number 10 digits)) (unsigned_number (first ∷ digits)) minus
    ∙ ap (λ r. step.positive (cond (nat_eq r 10) (digits_number 10 (first ∷ digits)) (digits_number r (drop 2 (first ∷ digits))))) (radix_decimal (first ∷ digits) numeral.1)
    ∙ digits_read 10 (first ∷ digits) n numeral h

spelled_read : (text : List ℕ) (value : Exact) (n : ℤ) → Spells text value → num value ≡ Some n → literal_number text ≡ Some n
spelled_read text value n (empty e f) h = ap literal_number e ∙ empty_read n (sym (ap num f) ∙ h)
spelled_read text value n (decimal numeral f) h = decimal_read text n numeral (sym (ap num f) ∙ h)
spelled_read text value n (positive digits e numeral f) h =
    ap literal_number e ∙ plus_literal digits ∙ digits_read 10 digits n numeral (sym (ap num f) ∙ h)
spelled_read text value n (negative digits e numeral f) h =
    ap literal_number e ∙ minus_literal digits ∙ minus_read digits n numeral (sym (ap num f) ∙ h)
spelled_read text value n (hexadecimal letter digits l e numeral f) h =
    ap literal_number e ∙ hexadecimal_literal letter digits l ∙ digits_read 16 digits n numeral (sym (ap num f) ∙ h)
spelled_read text value n (octal letter digits l e numeral f) h =
    ap literal_number e ∙ octal_literal letter digits l ∙ digits_read 8 digits n numeral (sym (ap num f) ∙ h)
spelled_read text value n (binary letter digits l e numeral f) h =
    ap literal_number e ∙ binary_literal letter digits l ∙ digits_read 2 digits n numeral (sym (ap num f) ∙ h)

-- No literal has white space in it.

outside : (low high unit : ℕ) → (unit < low) ⊎ (high < unit) → (nat_le low unit && nat_le unit high) ≡ false
outside low high unit (inl below) =
    let t : nat_le low unit ≡ false = grind (arith, nat_tests) in ap (λ b. b && nat_le unit high) t
outside low high unit (inr above) =
    let t : nat_le unit high ≡ false = grind (arith, nat_tests) in ap (λ b. nat_le low unit && b) t ∙ and_false (nat_le low unit)

digit_range : (unit : ℕ) → digit_value unit < 36 → (0x30 ≤ unit) × (unit < 0x7B)
digit_range unit h = grind (arith, nat_tests)

solid_unit : (unit : ℕ) → digit_value unit < 36 → is_white_space unit ≡ false
unfolding is_white_space
solid_unit unit h =
    let range : (0x30 ≤ unit) × (unit < 0x7B) = digit_range unit h in
    rw (outside 0x09 0x0D unit (inr (omega (arith, range.0))), outside 0x20 0x20 unit (inr (omega (arith, range.0))), outside 0xA0 0xA0 unit (inl (omega (arith, range.1))), outside 0x1680 0x1680 unit (inl (omega (arith, range.1))), outside 0x2000 0x200A unit (inl (omega (arith, range.1))), outside 0x2028 0x2029 unit (inl (omega (arith, range.1))), outside 0x202F 0x202F unit (inl (omega (arith, range.1))), outside 0x205F 0x205F unit (inl (omega (arith, range.1))), outside 0x3000 0x3000 unit (inl (omega (arith, range.1))), outside 0xFEFF 0xFEFF unit (inl (omega (arith, range.1)))) refl

digits_solid : (radix : ℕ) (digits : List ℕ) → radix ≤ 36 → AllDigits radix digits → IsSolid digits
digits_solid radix [] h all = All-nil IsNoSpace
digits_solid radix (d ∷ digits) h all =
    let small : digit_value d < 36 = (let l : digit_value d < radix = all.0 in omega arith) in
    All-cons IsNoSpace d digits (solid_unit d small) (digits_solid radix digits h all.1)

sign_solid : (sign : ℕ) (digits : List ℕ) → is_white_space sign ≡ false → AllDigits 10 digits → IsSolid (sign ∷ digits)
sign_solid sign digits h all = All-cons IsNoSpace sign digits h (digits_solid 10 digits (omega arith) all)

plus_solid : is_white_space 0x2B ≡ false
unfolding is_white_space
plus_solid = refl

minus_solid : is_white_space 0x2D ≡ false
unfolding is_white_space
minus_solid = refl

letter_digit : (lower upper letter : ℕ) → digit_value lower < 36 → digit_value upper < 36 → IsLetter lower upper letter → digit_value letter < 36
letter_digit lower upper letter l u (inl e) = rw e l
letter_digit lower upper letter l u (inr e) = rw e u

prefix_solid : (lower upper letter radix : ℕ) (digits : List ℕ) → digit_value lower < 36 → digit_value upper < 36 → IsLetter lower upper letter → radix ≤ 36 → AllDigits radix digits → IsSolid (0x30 ∷ letter ∷ digits)
prefix_solid lower upper letter radix digits l u is h all =
    All-cons IsNoSpace 0x30 (letter ∷ digits) (solid_unit 0x30 (omega arith)) (All-cons IsNoSpace letter digits (solid_unit letter (letter_digit lower upper letter l u is)) (digits_solid radix digits h all))

spelled_solid : (text : List ℕ) (value : Exact) → Spells text value → IsSolid text
spelled_solid text value (empty e f) = rw e (All-nil IsNoSpace)
spelled_solid text value (decimal numeral f) = digits_solid 10 text (omega arith) numeral.1
spelled_solid text value (positive digits e numeral f) = rw e (sign_solid 0x2B digits plus_solid numeral.1)
spelled_solid text value (negative digits e numeral f) = rw e (sign_solid 0x2D digits minus_solid numeral.1)
spelled_solid text value (hexadecimal letter digits l e numeral f) =
    rw e (prefix_solid 0x78 0x58 letter 16 digits (omega arith) (omega arith) l (omega arith) numeral.1)
spelled_solid text value (octal letter digits l e numeral f) =
    rw e (prefix_solid 0x6F 0x4F letter 8 digits (omega arith) (omega arith) l (omega arith) numeral.1)
spelled_solid text value (binary letter digits l e numeral f) =
    rw e (prefix_solid 0x62 0x42 letter 2 digits (omega arith) (omega arith) l (omega arith) numeral.1)

-- Both ways.

pub read_is_spelled : (text : List ℕ) (n : ℤ) → literal_number (trim_end (trim_start text)) ≡ Some n → IsNumberOf text n
read_is_spelled text n h =
    let round : IsAround text (trim_end (trim_start text)) = around text in
    let spelled : IsSpelled (trim_end (trim_start text)) n = literal_spelled (trim_end (trim_start text)) n h in
    record {
      before = round.before;
      literal = trim_end (trim_start text);
      after = round.after;
      value = spelled.0;
      parts = round.parts;
      blank_before = round.blank_before;
      blank_after = round.blank_after;
      spelled = spelled.1.0;
      is = spelled.1.1;
    }

pub spelled_is_read : (text : List ℕ) (n : ℤ) → IsNumberOf text n → literal_number (trim_end (trim_start text)) ≡ Some n
spelled_is_read text n f =
    ap literal_number (ap (λ t. trim_end (trim_start t)) f.parts ∙ trimmed f.before f.literal f.after f.blank_before (spelled_solid f.literal f.value f.spelled) f.blank_after)
    ∙ spelled_read f.literal f.value n f.spelled f.is
