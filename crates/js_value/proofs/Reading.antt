-- Reading digits.
use Rattle.std.proofs.Common.{◌≡◌, ℕ, zero, suc, ◌+◌, ◌*◌, ◌<◌, ◌≤◌, Bool, true, false, ◌&&◌, nat_lt, nat_le, cond, List, [], ◌∷◌, ◌++◌, length, take, drop, get_or, Some, None, refl, sym, ◌∙◌, ap, arith}
use Rattle.std.specs.Char.{digit_value}
use Rattle.std.specs.Str.Parse.{AllDigits, IsNumeral, digits_value, digits_value_after}
use Rattle.std.proofs.lemmas.Bool.{cond-true, cond-false}
use Rattle.std.proofs.lemmas.Bool.Decides.{nat_tests}
use Rattle.std.proofs.lemmas.List.{take-append-drop}
use Rattle.std.proofs.Math.Nat.{le-mul_of_pos_right}
use Rattle.js_value.specs.Number.{greatest}
use Rattle.js_value.specs.Literal.{are_digits, digits_number}
use Rattle.js_value.proofs.Sequences.{and_false}
use Rattle.js_value.proofs.Ascii.{and_left, and_right}

pub are_digits_from : (radix : ℕ) (ds : List ℕ) → AllDigits radix ds → are_digits radix ds ≡ true
are_digits_from radix [] h = refl
are_digits_from radix (d ∷ ds) h =
    let first : nat_lt (digit_value d) radix ≡ true = (let l : digit_value d < radix = h.0 in grind (arith, nat_tests)) in
    ap (λ b. b && are_digits radix ds) first ∙ are_digits_from radix ds h.1

pub all_digits_from : (radix : ℕ) (ds : List ℕ) → are_digits radix ds ≡ true → AllDigits radix ds
all_digits_from radix [] h = tt
all_digits_from radix (d ∷ ds) h =
    let first : nat_lt (digit_value d) radix ≡ true = and_left (nat_lt (digit_value d) radix) (are_digits radix ds) h in
    ((let l : digit_value d < radix = grind (arith, nat_tests) in l), all_digits_from radix ds (and_right (nat_lt (digit_value d) radix) (are_digits radix ds) h))

-- what follows only makes the number larger
after_larger : (radix n : ℕ) (ds : List ℕ) → 0 < radix → n ≤ digits_value_after radix n ds
after_larger radix n [] h = omega arith
after_larger radix n (d ∷ ds) h =
    let more : n ≤ n * radix = le-mul_of_pos_right n h in
    let rest : n * radix + digit_value d ≤ digits_value_after radix (n * radix + digit_value d) ds = after_larger radix (n * radix + digit_value d) ds h in
    omega arith

after_append : (radix n : ℕ) (xs ys : List ℕ) → digits_value_after radix n (xs ++ ys) ≡ digits_value_after radix (digits_value_after radix n xs) ys
after_append radix n [] ys = refl
after_append radix n (x ∷ xs) ys = after_append radix (n * radix + digit_value x) xs ys

pub larger : (radix : ℕ) (ds : List ℕ) (i : ℕ) → 0 < radix → digits_value radix (take i ds) ≤ digits_value radix ds
larger radix ds i h =
    let whole : digits_value radix ds ≡ digits_value_after radix (digits_value radix (take i ds)) (drop i ds) =
    ap (digits_value radix) (sym (take-append-drop i ds)) ∙ after_append radix 0 (take i ds) (drop i ds) in
    rw whole (after_larger radix (digits_value radix (take i ds)) (drop i ds) h)

-- The answers.

pub number_none_empty : (radix : ℕ) (ds : List ℕ) → length ds ≡ 0 → digits_number radix ds ≡ None
unfolding digits_number
number_none_empty radix [] h = refl
number_none_empty radix (d ∷ ds) h = absurd (omega arith)

other_digit : (radix : ℕ) (ds : List ℕ) (i : ℕ) → i < length ds → radix ≤ digit_value (get_or ds i 0) → are_digits radix ds ≡ false
other_digit radix [] i h large = absurd (omega arith)
other_digit radix (d ∷ ds) zero h large =
    let first : nat_lt (digit_value d) radix ≡ false = grind (arith, nat_tests) in ap (λ b. b && are_digits radix ds) first
other_digit radix (d ∷ ds) (suc i) h large =
    ap (λ b. nat_lt (digit_value d) radix && b) (other_digit radix ds i (omega arith) large) ∙ and_false (nat_lt (digit_value d) radix)

middle_false : (a b c : Bool) → b ≡ false → (a && b && c) ≡ false
middle_false true b c h = ap (λ v. v && c) h
middle_false false b c h = refl

pub number_none_other : (radix : ℕ) (ds : List ℕ) (i : ℕ) → i < length ds → radix ≤ digit_value (get_or ds i 0) → digits_number radix ds ≡ None
unfolding digits_number
number_none_other radix ds i h large =
    cond-false (nat_lt 0 (length ds) && are_digits radix ds && nat_le (digits_value radix ds) greatest) (Some (digits_value radix ds)) None
    (middle_false (nat_lt 0 (length ds)) (are_digits radix ds) (nat_le (digits_value radix ds) greatest) (other_digit radix ds i h large))

pub number_none_large : (radix : ℕ) (ds : List ℕ) (i : ℕ) → 0 < radix → greatest < digits_value radix (take i ds) → digits_number radix ds ≡ None
unfolding digits_number
number_none_large radix ds i h large =
    let past : greatest < digits_value radix ds = (let l : digits_value radix (take i ds) ≤ digits_value radix ds = larger radix ds i h in omega arith) in
    let test : nat_le (digits_value radix ds) greatest ≡ false = grind (arith, nat_tests) in
    cond-false (nat_lt 0 (length ds) && are_digits radix ds && nat_le (digits_value radix ds) greatest) (Some (digits_value radix ds)) None
    (ap (λ v. nat_lt 0 (length ds) && are_digits radix ds && v) test ∙ and_false (nat_lt 0 (length ds) && are_digits radix ds))

pub number_some : (radix : ℕ) (ds : List ℕ) → IsNumeral radix ds → digits_value radix ds ≤ greatest → digits_number radix ds ≡ Some (digits_value radix ds)
unfolding digits_number
number_some radix ds h small =
    let some : nat_lt 0 (length ds) ≡ true = (let l : 0 < length ds = h.0 in grind (arith, nat_tests)) in
    let test : nat_le (digits_value radix ds) greatest ≡ true = grind (arith, nat_tests) in
    cond-true (nat_lt 0 (length ds) && are_digits radix ds && nat_le (digits_value radix ds) greatest) (Some (digits_value radix ds)) None
    (ap (λ v. v && are_digits radix ds && nat_le (digits_value radix ds) greatest) some ∙ ap (λ v. v && nat_le (digits_value radix ds) greatest) (are_digits_from radix ds h.1) ∙ test)

-- what an answer tells
three_true : (a b c : Bool) (n m : ℕ) → cond (a && b && c) (Some n) None ≡ Some m → (a ≡ true) × (b ≡ true) × (c ≡ true) × (n ≡ m)
three_true true true true n m h = (refl, refl, refl, cc)
three_true true true false n m h = cc
three_true true false c n m h = cc
three_true false b c n m h = cc

pub number_told : (radix : ℕ) (ds : List ℕ) (n : ℕ) → digits_number radix ds ≡ Some n → IsNumeral radix ds × (digits_value radix ds ≡ n) × (n ≤ greatest)
unfolding digits_number
number_told radix ds n e =
    let told = three_true (nat_lt 0 (length ds)) (are_digits radix ds) (nat_le (digits_value radix ds) greatest) (digits_value radix ds) n e in
    let some : 0 < length ds = (let t : nat_lt 0 (length ds) ≡ true = told.0 in grind (arith, nat_tests)) in
    let small : digits_value radix ds ≤ greatest = (let t : nat_le (digits_value radix ds) greatest ≡ true = told.2 in grind (arith, nat_tests)) in
    let same : digits_value radix ds ≡ n = told.3 in
    ((some, all_digits_from radix ds told.1), same, omega arith)
