-- The functions of Number and of Math are the same but for the numbers of things: what they give are Numbers and Strings.
use Rattle.std.proofs.Common.{◌≡◌, ℕ, zero, suc, ◌+◌, ◌-◌, ◌*◌, ◌%◌, ◌^◌, ◌<◌, ◌≤◌, Bool, true, false, cond, ◌&&◌, ◌||◌, ◌==◌, if◌then◌else◌, nat_lt, nat_le, List, [], ◌∷◌, map, ℤ, pos, negsuc, neg_ℤ, ◌-ℤ◌, int_lt, Option, Some, None, IfSome, refl, subst, arith, lit≤}
use Rattle.std.specs.Int.Count.{count_leading_zeros}
use Rattle.std.specs.Int.Digits.{digits_of, AllBelowBase}
use Rattle.std.specs.Char.{digit_char}
use Rattle.std.proofs.lemmas.Int.{ints}
use Rattle.std.proofs.lemmas.Nat.{leading_le}
use Rattle.std.proofs.lemmas.Int.Digits.{all_below_base_digits_of}
use Rattle.std.proofs.lemmas.Bool.Decides.{nat_tests}
use Rattle.js_value.specs.Number.{IsNumber, greatest}
use Rattle.js_value.specs.Word.{to_uint32, to_int32, signed_word}
use Rattle.js_value.specs.Literal.{digits_number, negative, trim_start}
use Rattle.js_value.specs.Numeral.{digit_text, number_text}
use Rattle.js_value.specs.Value.{Value}
use Rattle.js_value.specs.Order.{AreUnits}
use Rattle.js_value.proofs.Ascii.{and_left, and_right}
use Rattle.js_value.proofs.Reading.{number_told}
use Rattle.es_ops.specs.Messages.{NumberOutOfRange, InvalidArgument, WrongReceiver}
use Rattle.es_ops.specs.Act.{Give}
use Rattle.es_ops.specs.Errors.{raise, make_text}
use Rattle.es_ops.specs.Related.{Naming, BothList, BothEmpty, BothCons, BothValue, BothUndefined, BothNull, BothBoolean, BothNumber, BothString, BothObject, Related, BothGive}
use Rattle.es_ops.proofs.ReadsRelated.{raise_related, made_text_related, number_expected_related, text_expected_related, number_or_raise_related}
use Rattle.es_rows.specs.Number.{number, is_number, is_integer, is_safe_number, is_safe_integer, SignedText, signed_text, has_prefix, leading_digits, with_sign, parsed, without_prefix, parsed_by_radix, parse_int, text_in_radix, to_string, number_row}
use Rattle.es_rows.specs.Math.{abs, clz32, imul, greater, lesser, chosen_from, chosen, max, min, sign_of, sign, math_row}
use Rattle.es_rows.proofs.ArgumentsRelated.{first_related, second_related, position_or_related, BuiltInRelated, BothEnd, BothRow, call_row_related}

-- ---- Number

number_related : {R : Naming} → BuiltInRelated R number number
unfolding number
number_related a x vs ws p BothEmpty = BothGive (BothNumber (record { bound = lit≤ tt }))
number_related a x vs ws p (BothCons b bs) = number_expected_related _ _ _ _ b (λ n i. BothGive (BothNumber i))

is_number_same : {R : Naming} {v w : Value} → BothValue R v w → is_number v ≡ is_number w
is_number_same BothUndefined = refl
is_number_same BothNull = refl
is_number_same BothBoolean = refl
is_number_same (BothNumber i) = refl
is_number_same (BothString i) = refl
is_number_same (BothObject r) = refl

is_integer_related : {R : Naming} → BuiltInRelated R is_integer is_integer
unfolding is_integer
is_integer_related a x vs ws p q = rw (is_number_same (first_related q)) (BothGive BothBoolean)

is_safe_same : {R : Naming} {v w : Value} → BothValue R v w → is_safe_number v ≡ is_safe_number w
is_safe_same BothUndefined = refl
is_safe_same BothNull = refl
is_safe_same BothBoolean = refl
is_safe_same (BothNumber i) = refl
is_safe_same (BothString i) = refl
is_safe_same (BothObject r) = refl

is_safe_integer_related : {R : Naming} → BuiltInRelated R is_safe_integer is_safe_integer
unfolding is_safe_integer
is_safe_integer_related a x vs ws p q = rw (is_safe_same (first_related q)) (BothGive BothBoolean)

-- ---- parseInt

minus_is_number : (m : ℕ) → m ≤ greatest → IsNumber (neg_ℤ (pos m))
minus_is_number zero h = record { bound = h }
minus_is_number (suc m) h = record { bound = h }

negative_is_number : (m : ℕ) → m ≤ greatest → IfSome (negative (Some m)) IsNumber
negative_is_number m h = by_test (m == 0)
  where
    by_test : (b : Bool) → IfSome (if b then None else Some (neg_ℤ (pos m))) IsNumber
    by_test true = tt
    by_test false = minus_is_number m h

signed_is_number : (b : Bool) (m : Option ℕ) → IfSome m (λ n. n ≤ greatest) → IfSome (with_sign b m) IsNumber
signed_is_number true None h = tt
signed_is_number true (Some m) h = negative_is_number m h
signed_is_number false None h = tt
signed_is_number false (Some m) h = record { bound = h }

digits_in_range : (radix : ℕ) (digits : List ℕ) → (m : Option ℕ) → digits_number radix digits ≡ m → IfSome m (λ n. n ≤ greatest)
digits_in_range radix digits None e = tt
digits_in_range radix digits (Some n) e = (number_told radix digits n e).2

parsed_is_number : (radix : ℕ) (t : SignedText) → IfSome (parsed radix t) IsNumber
parsed_is_number radix t = signed_is_number t.negative (digits_number radix (leading_digits radix t.text)) (digits_in_range radix (leading_digits radix t.text) _ refl)

either_is_number : (b : Bool) (m n : Option ℤ) → IfSome m IsNumber → IfSome n IsNumber → IfSome (cond b m n) IsNumber
either_is_number true m n h g = h
either_is_number false m n h g = g

by_radix_is_number : (radix : ℤ) (t : SignedText) → IfSome (parsed_by_radix radix t) IsNumber
by_radix_is_number (negsuc n) t = tt
by_radix_is_number (pos radix) t =
    either_is_number (((radix == 0) || (radix == 16)) && has_prefix t.text) _ _ (parsed_is_number 16 (without_prefix t))
    (either_is_number (radix == 0) _ _ (parsed_is_number 10 t)
    (either_is_number (nat_le 2 radix && nat_le radix 36) _ None (parsed_is_number radix t) tt))

of_option : (m : Option ℤ) → IfSome m IsNumber → (x : ℤ) → m ≡ Some x → IsNumber x
of_option m h x e = subst (λ o. IfSome o IsNumber) e h

parse_int_related : {R : Naming} → BuiltInRelated R parse_int parse_int
unfolding parse_int
parse_int_related a x vs ws p q =
    text_expected_related _ _ _ _ (first_related q) (λ t i.
    position_or_related (pos 0) _ _ _ _ (record { bound = lit≤ tt }) (second_related q) (λ radix j.
    number_or_raise_related (parsed_by_radix (to_int32 radix) (signed_text (trim_start t))) _ _ (of_option _ (by_radix_is_number (to_int32 radix) (signed_text (trim_start t)))) (λ n k. BothGive (BothNumber k))))

-- ---- Number.prototype.toString

digit_is_unit : (d : ℕ) → d < 36 → digit_char d < 65536
digit_is_unit d h = by_test (nat_lt d 10)
  where
    by_test : (b : Bool) → cond b (48 + d) (87 + d) < 65536
    by_test true = omega arith
    by_test false = omega arith

digits_are_units : (radix : ℕ) (ds : List ℕ) → radix ≤ 36 → AllBelowBase radix ds → AreUnits (map digit_char ds)
digits_are_units radix [] h all = tt
digits_are_units radix (d ∷ ds) h all = let l : d < radix = all.0 in (digit_is_unit d (omega arith), digits_are_units radix ds h all.1)

digit_text_units : (radix n : ℕ) → 2 ≤ radix → radix ≤ 36 → AreUnits (digit_text radix n)
digit_text_units radix n low high = by_test (n == 0)
  where
    by_test : (b : Bool) → AreUnits (if b then 0x30 ∷ [] else map digit_char (digits_of radix n))
    by_test true = (lit≤ tt, tt)
    by_test false = digits_are_units radix (digits_of radix n) high (all_below_base_digits_of radix n low)

number_text_units : (radix : ℕ) (n : ℤ) → 2 ≤ radix → radix ≤ 36 → AreUnits (number_text radix n)
unfolding number_text
number_text_units radix (pos n) low high = digit_text_units radix n low high
number_text_units radix (negsuc n) low high = (lit≤ tt, digit_text_units radix (suc n) low high)

text_in_radix_related : {R : Naming} (n radix : ℤ) → Related R (text_in_radix n radix) (text_in_radix n radix)
text_in_radix_related n (negsuc m) = raise_related InvalidArgument
text_in_radix_related {R} n (pos radix) = by_test (nat_le 2 radix && nat_le radix 36) refl
  where
    low : nat_le 2 radix ≡ true → 2 ≤ radix
    low e = grind (arith, nat_tests)

    high : nat_le radix 36 ≡ true → radix ≤ 36
    high e = grind (arith, nat_tests)

    by_test : (b : Bool) → (nat_le 2 radix && nat_le radix 36) ≡ b → Related R (cond b (make_text (number_text radix n) Give) (raise InvalidArgument)) (cond b (make_text (number_text radix n) Give) (raise InvalidArgument))
    by_test true e = made_text_related (number_text radix n) _ _ (number_text_units radix n (low (and_left (nat_le 2 radix) (nat_le radix 36) e)) (high (and_right (nat_le 2 radix) (nat_le radix 36) e))) (λ v w b. BothGive b)
    by_test false e = raise_related InvalidArgument

to_string_related : {R : Naming} → BuiltInRelated R to_string to_string
unfolding to_string
to_string_related a x vs ws (BothNumber {n = n} i) q = position_or_related (pos 10) _ _ _ _ (record { bound = lit≤ tt }) (first_related q) (λ radix j. text_in_radix_related n radix)
to_string_related a x vs ws BothUndefined q = raise_related WrongReceiver
to_string_related a x vs ws BothNull q = raise_related WrongReceiver
to_string_related a x vs ws BothBoolean q = raise_related WrongReceiver
to_string_related a x vs ws (BothString i) q = raise_related WrongReceiver
to_string_related a x vs ws (BothObject r) q = raise_related WrongReceiver

pub number_row_related : {R : Naming} (n f g : ℕ) (s t : Option Value) → BuiltInRelated R (number_row n f s) (number_row n g t)
unfolding number_row
number_row_related n f g s t = call_row_related (BothRow number_related (BothRow is_integer_related (BothRow is_safe_integer_related (BothRow parse_int_related (BothRow to_string_related BothEnd))))) n

-- ---- Math

abs_related : {R : Naming} → BuiltInRelated R abs abs
unfolding abs
abs_related a x vs ws p q = number_expected_related _ _ _ _ (first_related q) (λ n i. BothGive (BothNumber (record { bound = i.bound })))

leading_is_number : (n : ℕ) → IsNumber (pos (count_leading_zeros 32 n))
leading_is_number n = let l = leading_le 32 n in record { bound = omega arith }

clz32_related : {R : Naming} → BuiltInRelated R clz32 clz32
unfolding clz32
clz32_related a x vs ws p q = number_expected_related _ _ _ _ (first_related q) (λ n i. BothGive (BothNumber (leading_is_number (to_uint32 n))))

word_is_number : (r : ℕ) → r < 2 ^ 32 → IsNumber (signed_word r)
word_is_number r h = by_test (nat_lt r (2 ^ 31)) refl
  where
    by_test : (b : Bool) → nat_lt r (2 ^ 31) ≡ b → IsNumber (if b then pos r else pos r -ℤ pos (2 ^ 32))
    by_test true e = record { bound = omega arith }
    by_test false e =
        let below : pos r -ℤ pos (2 ^ 32) ≡ negsuc (2 ^ 32 - 1 - r) = omega (arith, ints) in
        rw below (record { bound = omega arith })

imul_related : {R : Naming} → BuiltInRelated R imul imul
unfolding imul
imul_related a x vs ws p q =
    number_expected_related _ _ _ _ (first_related q) (λ m i.
    number_expected_related _ _ _ _ (second_related q) (λ n j.
    BothGive (BothNumber (word_is_number (to_uint32 m * to_uint32 n % 2 ^ 32) (omega arith)))))

either_number : (b : Bool) (m n : ℤ) → IsNumber m → IsNumber n → IsNumber (cond b m n)
either_number true m n h g = h
either_number false m n h g = g

greater_is_number : (m n : ℤ) → IsNumber m → IsNumber n → IsNumber (greater m n)
greater_is_number m n h g = either_number (int_lt m n) n m g h

lesser_is_number : (m n : ℤ) → IsNumber m → IsNumber n → IsNumber (lesser m n)
lesser_is_number m n h g = either_number (int_lt n m) n m g h

chosen_from_related : {R : Naming} (choose : ℤ → ℤ → ℤ) → ((m n : ℤ) → IsNumber m → IsNumber n → IsNumber (choose m n)) → (before : ℤ) {vs ws : List Value} → IsNumber before → BothList (BothValue R) vs ws → Related R (chosen_from choose before vs) (chosen_from choose before ws)
chosen_from_related choose c before i BothEmpty = BothGive (BothNumber i)
chosen_from_related choose c before i (BothCons b bs) = number_expected_related _ _ _ _ b (λ n j. chosen_from_related choose c (choose before n) (c before n i j) bs)

chosen_related : {R : Naming} (choose : ℤ → ℤ → ℤ) → ((m n : ℤ) → IsNumber m → IsNumber n → IsNumber (choose m n)) → {vs ws : List Value} → BothList (BothValue R) vs ws → Related R (chosen choose vs) (chosen choose ws)
chosen_related choose c BothEmpty = raise_related NumberOutOfRange
chosen_related choose c (BothCons b bs) = number_expected_related _ _ _ _ b (λ n j. chosen_from_related choose c n j bs)

max_related : {R : Naming} → BuiltInRelated R max max
unfolding max
max_related a x vs ws p q = chosen_related greater greater_is_number q

min_related : {R : Naming} → BuiltInRelated R min min
unfolding min
min_related a x vs ws p q = chosen_related lesser lesser_is_number q

sign_is_number : (n : ℤ) → IsNumber (sign_of n)
sign_is_number (pos zero) = record { bound = lit≤ tt }
sign_is_number (pos (suc n)) = record { bound = lit≤ tt }
sign_is_number (negsuc n) = record { bound = lit≤ tt }

sign_related : {R : Naming} → BuiltInRelated R sign sign
unfolding sign
sign_related a x vs ws p q = number_expected_related _ _ _ _ (first_related q) (λ n i. BothGive (BothNumber (sign_is_number n)))

pub math_row_related : {R : Naming} (n f g : ℕ) (s t : Option Value) → BuiltInRelated R (math_row n f s) (math_row n g t)
unfolding math_row
math_row_related n f g s t = call_row_related (BothRow abs_related (BothRow clz32_related (BothRow imul_related (BothRow max_related (BothRow min_related (BothRow sign_related BothEnd)))))) n
