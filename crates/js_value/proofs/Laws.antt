-- Laws of Numbers, for readers and callers.
use Rattle.std.proofs.Common.{◌≡◌, ℕ, zero, suc, ◌-◌, ◌*◌, ◌%◌, ◌^◌, ◌<◌, ◌≤◌, Bool, true, false, not, ◌&&◌, nat_eq, nat_lt, List, [], ◌∷◌, map, Some, ℤ, pos, negsuc, neg_ℤ, ◌*ℤ◌, ◌-ℤ◌, unsigned_abs, FitsSigned, w32, refl, sym, ◌∙◌, ap, arith, ⊎_elim}
use Rattle.std.specs.Prelude.{int_rem}
use Rattle.std.specs.Fmt.{decimal}
use Rattle.std.specs.Char.{digit_value, digit_char}
use Rattle.std.specs.Int.Digits.{digits_of, number_from_digits, AllBelowBase}
use Rattle.std.specs.Str.Parse.{digits_value}
use Rattle.std.proofs.lemmas.Fmt.{decimal_is_IsNumeral}
use Rattle.std.proofs.lemmas.Int.Digits.{digits_value_is, number_digits_of, all_below_base_digits_of}
use Rattle.std.proofs.lemmas.List.{append-nil}
use Rattle.std.proofs.lemmas.List.Elements.{All-nil}
use Rattle.std.proofs.lemmas.Int.{ints}
use Rattle.std.proofs.lemmas.Bool.{cases_lt, false≢true}
use Rattle.std.proofs.lemmas.Bool.Decides.{nat_tests}
use Rattle.std.proofs.Math.Nat.{pow-zero, pow-succ'}
use Rattle.js_value.specs.Number.{greatest, IsNumber, num, fraction, signed, is_below_zero, is_odd}
use Rattle.js_value.specs.Word.{to_uint32, to_int32, signed_word}
use Rattle.js_value.specs.Numeral.{number_text, digit_text, IsNumberOf, is_white_space}
use Rattle.js_value.specs.Numeral as numeral
use Rattle.js_value.proofs.Powers.{num-small}
use Rattle.js_value.proofs.Digits.{signed_decimal_text, digit_text-some}
use Rattle.js_value.proofs.Spelled.{spelled_is_read}

-- Text and number.

abbrev IsSpace : ℕ → Type 0
IsSpace unit = is_white_space unit ≡ true

decimal_number : (n : ℕ) → n ≤ greatest → IsNumberOf (decimal n) (pos n)
decimal_number n h =
    let told = decimal_is_IsNumeral n (omega arith) in
    let value : digits_value 10 (decimal n) ≡ n = told.1 in
    record {
      before = [];
      literal = decimal n;
      after = [];
      value = fraction false (digits_value 10 (decimal n)) 1;
      parts = sym (append-nil (decimal n));
      blank_before = All-nil IsSpace;
      blank_after = All-nil IsSpace;
      spelled = numeral.decimal told.0 refl;
      is = ap (λ m. num (fraction false m 1)) value ∙ num-small false n h (λ e. absurd (false≢true e));
    }

minus_number : (n : ℕ) → suc n ≤ greatest → IsNumberOf (0x2D ∷ decimal (suc n)) (negsuc n)
minus_number n h =
    let told = decimal_is_IsNumeral (suc n) (omega arith) in
    let value : digits_value 10 (decimal (suc n)) ≡ suc n = told.1 in
    record {
      before = [];
      literal = 0x2D ∷ decimal (suc n);
      after = [];
      value = fraction true (digits_value 10 (decimal (suc n))) 1;
      parts = sym (append-nil (0x2D ∷ decimal (suc n)));
      blank_before = All-nil IsSpace;
      blank_after = All-nil IsSpace;
      spelled = numeral.negative (decimal (suc n)) refl told.0 refl;
      is = ap (λ m. num (fraction true m 1)) value ∙ num-small true (suc n) h (λ e. omega arith);
    }

-- a Number's decimal text is read back as the Number
pub text_reads_back : (z : ℤ) → IsNumber z → IsNumberOf (number_text 10 z) z
text_reads_back (pos n) h = rw (← signed_decimal_text (pos n) h) (decimal_number n h.bound)
text_reads_back (negsuc n) h = rw (← signed_decimal_text (negsuc n) h) (minus_number n h.bound)

-- a text spells one Number at most
pub one_number : (text : List ℕ) (m n : ℤ) → IsNumberOf text m → IsNumberOf text n → m ≡ n
one_number text m n f g = let e : Some m ≡ Some n = sym (spelled_is_read text m f) ∙ spelled_is_read text n g in cc

-- so the number that is read from a Number's text writes that text, and different Numbers have different texts
pub text_writes_back : (z n : ℤ) → IsNumber z → IsNumberOf (number_text 10 z) n → number_text 10 n ≡ number_text 10 z
text_writes_back z n h f = ap (number_text 10) (one_number (number_text 10 z) n z f (text_reads_back z h))

pub number_text-injective : (y z : ℤ) → IsNumber y → IsNumber z → number_text 10 y ≡ number_text 10 z → y ≡ z
number_text-injective y z h k e =
    one_number (number_text 10 z) y z (rw e at (text_reads_back y h)) (text_reads_back z k)

-- Digits of any radix have the value that they were made of.

digit_back : (d : ℕ) → d < 36 → digit_value (digit_char d) ≡ d
digit_back d h = grind (arith, nat_tests)

digits_back : (radix : ℕ) (ds : List ℕ) → radix ≤ 36 → AllBelowBase radix ds → map digit_value (map digit_char ds) ≡ ds
digits_back radix [] h all = refl
digits_back radix (d ∷ ds) h all =
    let small : d < 36 = (let l : d < radix = all.0 in omega arith) in
    rw (digit_back d small, digits_back radix ds h all.1) refl

pub digit_text-value : (radix n : ℕ) → 2 ≤ radix → radix ≤ 36 → 0 < n → digits_value radix (digit_text radix n) ≡ n
digit_text-value radix n low high some =
    ap (digits_value radix) (digit_text-some radix n some)
    ∙ digits_value_is radix (map digit_char (digits_of radix n))
    ∙ ap (number_from_digits radix) (digits_back radix (digits_of radix n) high (all_below_base_digits_of radix n low))
    ∙ number_digits_of radix n low

-- Words.

residue-small : (z : ℤ) → to_uint32 z < 2 ^ 32
residue-small (pos n) = omega arith
residue-small (negsuc n) = omega arith

word_fits : (r : ℕ) → r < 2 ^ 32 → FitsSigned w32 (signed_word r)
word_fits r h =
    ⊎_elim
    (λ (low : r < 2 ^ 31). let t : nat_lt r (2 ^ 31) ≡ true = grind (arith, nat_tests) in rw t (omega (arith, ints)))
    (λ (high : 2 ^ 31 ≤ r). let t : nat_lt r (2 ^ 31) ≡ false = grind (arith, nat_tests) in rw t (omega (arith, ints)))
    (cases_lt r (2 ^ 31))

-- the word of a whole number lies from -2 ^ 31 to 2 ^ 31 - 1
pub to_int32-fits : (z : ℤ) → FitsSigned w32 (to_int32 z)
to_int32-fits z = word_fits (to_uint32 z) (residue-small z)

word_residue : (r : ℕ) → r < 2 ^ 32 → to_uint32 (signed_word r) ≡ r
word_residue r h =
    ⊎_elim
    (λ (low : r < 2 ^ 31). let t : nat_lt r (2 ^ 31) ≡ true = grind (arith, nat_tests) in rw t (omega arith))
    (λ (high : 2 ^ 31 ≤ r).
    let t : nat_lt r (2 ^ 31) ≡ false = grind (arith, nat_tests) in
    let below : pos r -ℤ pos (2 ^ 32) ≡ negsuc (2 ^ 32 - 1 - r) = omega (arith, ints) in
    rw (t, below) (omega arith))
    (cases_lt r (2 ^ 31))

-- and has its residue
pub to_int32-residue : (z : ℤ) → to_uint32 (to_int32 z) ≡ to_uint32 z
to_int32-residue z = word_residue (to_uint32 z) (residue-small z)

-- The remainder has the sign of the dividend, and the remainder of the magnitudes.

pub rem_signed : (a b : ℤ) → int_rem a b ≡ signed (is_below_zero a) (unsigned_abs a % unsigned_abs b)
rem_signed (pos a) b = refl
rem_signed (negsuc a) b = refl

-- A power is repeated multiplication.

abbrev pub times : ℤ → ℕ → ℤ
times a zero = pos 1
times a (suc n) = a *ℤ times a n

odd_next : (n : ℕ) → nat_eq (suc n % 2) 1 ≡ not (nat_eq (n % 2) 1)
odd_next n =
    ⊎_elim
    (λ (even : n % 2 < 1).
    let e : n % 2 ≡ 0 = omega arith in let f : suc n % 2 ≡ 1 = omega arith in rw (e, f) refl)
    (λ (odd : 1 ≤ n % 2).
    let e : n % 2 ≡ 1 = omega arith in let f : suc n % 2 ≡ 0 = omega arith in rw (e, f) refl)
    (cases_lt (n % 2) 1)

times_minus : (m x : ℕ) → negsuc m *ℤ neg_ℤ (pos x) ≡ pos (suc m * x)
times_minus m zero = let z : suc m * 0 ≡ 0 = omega arith in rw z refl
times_minus m (suc x) = refl

next_sign : (odd : Bool) (m x : ℕ) → negsuc m *ℤ signed odd x ≡ signed (not odd) (suc m * x)
next_sign false m x = refl
next_sign true m x = times_minus m x

pub power-times : (a : ℤ) (n : ℕ) → signed (is_below_zero a && is_odd (pos n)) (unsigned_abs a ^ n) ≡ times a n
power-times (pos m) zero = ap pos (pow-zero m)
power-times (pos m) (suc n) = ap pos (pow-succ' m n) ∙ ap (λ z. pos m *ℤ z) (power-times (pos m) n)
power-times (negsuc m) zero = ap pos (pow-zero (suc m))
power-times (negsuc m) (suc n) =
    ap (λ b. signed b (suc m ^ suc n)) (odd_next n)
    ∙ ap (signed (not (nat_eq (n % 2) 1))) (pow-succ' (suc m) n)
    ∙ sym (next_sign (nat_eq (n % 2) 1) m (suc m ^ n))
    ∙ ap (λ z. negsuc m *ℤ z) (power-times (negsuc m) n)
