-- Digits as texts.
use Rattle.std.proofs.Common.{◌≡◌, ℕ, zero, suc, ◌+◌, ◌/◌, ◌%◌, ◌^◌, ◌<◌, ◌≤◌, true, false, nat_eq, nat_lt, List, [], ◌∷◌, ◌++◌, length, map, take, drop, set, reverse, ℤ, pos, negsuc, unsigned_abs, refl, sym, ◌∙◌, ap, arith, append_assoc, length-append}
use Rattle.std.specs.Prelude.{int_le}
use Rattle.std.specs.Fmt.{decimal, signed_decimal}
use Rattle.std.specs.Char.{digit_char}
use Rattle.std.specs.Int.Digits.{digits_of, AllBelowBase}
use Rattle.std.proofs.lemmas.Fmt.{decimal_digit, decimal-digits_of}
use Rattle.std.proofs.lemmas.Int.Digits.{digits_of_step, length-digits_of_step, length-digits_of-le, all_below_base_digits_of}
use Rattle.std.proofs.lemmas.Bool.{cond-false, false≢true}
use Rattle.std.proofs.lemmas.Bool.Decides.{nat_tests}
use Rattle.std.proofs.lemmas.List.{map-append, length-map, take_more_set, drop-set-lt, reverse-append, append-nil, drop-drop, length-take-le, length-set, length-reverse}
use Rattle.std.proofs.Math.Nat.{pow-le-pow_left}
use Rattle.js_value.specs.Number.{IsNumber, greatest}
use Rattle.js_value.specs.Numeral.{digit_text, number_text}

decimal_chars : (ds : List ℕ) → AllBelowBase 10 ds → map (λ d. 48 + d) ds ≡ map digit_char ds
decimal_chars [] h = refl
decimal_chars (d ∷ ds) h =
    let small : nat_lt d 10 ≡ true = (let l : d < 10 = h.0 in grind (arith, nat_tests)) in
    rw (small, decimal_chars ds h.1) refl

pub digit_text-some : (radix n : ℕ) → 0 < n → digit_text radix n ≡ map digit_char (digits_of radix n)
digit_text-some radix n some =
    let test : nat_eq n 0 ≡ false = grind (arith, nat_tests) in
    cond-false (nat_eq n 0) (0x30 ∷ []) (map digit_char (digits_of radix n)) test

-- what decimal digits are
decimal_text : (n : ℕ) → n < 2 ^ 64 → decimal n ≡ digit_text 10 n
decimal_text zero h = decimal_digit 0 (omega arith)
decimal_text (suc n) h =
    decimal-digits_of (suc n) (omega arith) h
    ∙ decimal_chars (digits_of 10 (suc n)) (all_below_base_digits_of 10 (suc n) (omega arith))
    ∙ sym (digit_text-some 10 (suc n) (omega arith))

pub signed_decimal_text : (z : ℤ) → IsNumber z → signed_decimal z ≡ number_text 10 z
unfolding number_text
signed_decimal_text (pos n) h = decimal_text n (omega (arith, h.bound))
signed_decimal_text (negsuc n) h = ap (λ s. 0x2D ∷ s) (decimal_text (suc n) (omega (arith, h.bound)))

-- Digits written the lowest first.

-- the digits of `left` are still to be written behind the first `length` units
pub record IsReversing (radix n left : ℕ) (start into : List ℕ) (count : ℕ) : Type 0 where
  pub digits : map digit_char (digits_of radix left) ++ reverse (take count into) ≡ map digit_char (digits_of radix n)
  pub behind : drop count into ≡ drop count start
  pub long : length into ≡ 56

-- a Number has at most 53 digits
few_digits : (radix n : ℕ) → 2 ≤ radix → n ≤ greatest → length (digits_of radix n) ≤ 53
few_digits radix n low small =
    let power : 2 ^ 53 ≤ radix ^ 53 = pow-le-pow_left low 53 in
    length-digits_of-le radix 53 n low (omega arith)

-- how many digits are written and to be written
pub count_digits : (radix n left : ℕ) (start into : List ℕ) (count : ℕ) → 2 ≤ radix → n ≤ greatest → IsReversing radix n left start into count → count ≤ 56 → length (digits_of radix left) + count ≤ 53
count_digits radix n left start into count low small so_far within =
    omega (
      arith,
      few_digits radix n low small,
      ap length so_far.digits,
      length-append (map digit_char (digits_of radix left)) (reverse (take count into)),
      length-map (digits_of radix left) digit_char,
      length-map (digits_of radix n) digit_char,
      length-reverse (take count into),
      length-take-le count into (omega (arith, so_far.long)),
    )

pub begun : (radix n : ℕ) (start : List ℕ) → length start ≡ 56 → IsReversing radix n n start start 0
begun radix n start long = record {
  digits = append-nil (map digit_char (digits_of radix n));
  behind = refl;
  long = long;
}

-- one more digit
pub next : (radix n left : ℕ) (start into : List ℕ) (count : ℕ) → 2 ≤ radix → 0 < left → count < 56 → IsReversing radix n left start into count → IsReversing radix n (left / radix) start (set into count (digit_char (left % radix))) (count + 1)
next radix n left start into count low some within so_far =
    let here : count < length into = omega (arith, so_far.long) in
    let digit : ℕ = digit_char (left % radix) in
    let reversed : reverse (take (count + 1) (set into count digit)) ≡ digit ∷ reverse (take count into) =
    ap reverse (take_more_set into count digit here) ∙ reverse-append (take count into) (digit ∷ []) in
    let split : map digit_char (digits_of radix left) ≡ map digit_char (digits_of radix (left / radix)) ++ digit ∷ [] =
    ap (map digit_char) (digits_of_step radix left low some) ∙ map-append digit_char (digits_of radix (left / radix)) (left % radix ∷ []) in
    record {
      digits = rw reversed (sym (append_assoc (map digit_char (digits_of radix (left / radix))) (digit ∷ []) (reverse (take count into))) ∙ ap (λ s. s ++ reverse (take count into)) (sym split) ∙ so_far.digits);
      behind = drop-set-lt (count + 1) into count digit (omega arith) ∙ sym (drop-drop 1 count into) ∙ ap (drop 1) so_far.behind ∙ drop-drop 1 count start;
      long = length-set into count digit ∙ so_far.long;
    }

-- at the end
pub ended : (radix n : ℕ) (start into : List ℕ) (count : ℕ) → 0 < n → IsReversing radix n 0 start into count → reverse (take count into) ≡ digit_text radix n
ended radix n start into count some so_far = so_far.digits ∙ sym (digit_text-some radix n some)

-- zero has one digit
pub zero_reversed : (radix n : ℕ) (into : List ℕ) → length into ≡ 56 → n ≡ 0 → reverse (take 1 (set into 0 0x30)) ≡ digit_text radix n
zero_reversed radix n into long e = rw e (ap reverse (take_more_set into 0 0x30 (omega arith)))

-- one more unit at the end comes first in reverse
pub reversed_push : (into : List ℕ) (count unit : ℕ) → count < length into → reverse (take (count + 1) (set into count unit)) ≡ unit ∷ reverse (take count into)
reversed_push into count unit here =
    ap reverse (take_more_set into count unit here) ∙ reverse-append (take count into) (unit ∷ [])

pub behind_push : (start into : List ℕ) (count unit : ℕ) → drop count into ≡ drop count start → drop (count + 1) (set into count unit) ≡ drop (count + 1) start
behind_push start into count unit behind =
    drop-set-lt (count + 1) into count unit (omega arith) ∙ sym (drop-drop 1 count into) ∙ ap (drop 1) behind ∙ drop-drop 1 count start

pub negative_text : (radix : ℕ) (n : ℤ) (into : List ℕ) (count : ℕ) → count < length into → int_le (pos 0) n ≡ false → reverse (take count into) ≡ digit_text radix (unsigned_abs n) → reverse (take (count + 1) (set into count 0x2D)) ≡ number_text radix n
unfolding number_text
negative_text radix (pos n) into count here below digits = absurd (grind (arith, nat_tests))
negative_text radix (negsuc n) into count here below digits = reversed_push into count 0x2D here ∙ ap (λ s. 0x2D ∷ s) digits

pub positive_text : (radix : ℕ) (n : ℤ) → int_le (pos 0) n ≡ true → digit_text radix (unsigned_abs n) ≡ number_text radix n
unfolding number_text
positive_text radix (pos n) above = refl
positive_text radix (negsuc n) above = absurd (false≢true above)

pub some_digits : (radix n : ℕ) → 2 ≤ radix → 0 < n → 0 < length (digits_of radix n)
some_digits radix n low some = omega (arith, length-digits_of_step radix n low some)
