-- Numbers, and the exact results of the operators on them (ECMA-262, 6.1.6.1).
use Rattle.std.specs.Prelude.{ℕ, suc, ◌*◌, ◌/◌, ◌%◌, ◌^◌, ◌≤◌, Bool, true, false, not, ◌&&◌, ◌==◌, if◌then◌else◌, nat_lt, nat_le, ℤ, pos, negsuc, neg_ℤ, ◌+ℤ◌, ◌-ℤ◌, unsigned_abs, Option, Some, None}

-- the greatest Number, 9007199254740991
abbrev pub greatest : ℕ
greatest = 9007199254740991

-- a Number is a whole number from -9007199254740991 to 9007199254740991
pub record IsNumber (z : ℤ) : Type 0 where
  pub bound : unsigned_abs z ≤ greatest

abbrev pub is_below_zero : ℤ → Bool
is_below_zero (pos n) = false
is_below_zero (negsuc n) = true

-- the whole number of this sign and magnitude
abbrev pub signed : Bool → ℕ → ℤ
signed false magnitude = pos magnitude
signed true magnitude = neg_ℤ (pos magnitude)

-- An exact result: a fraction by its sign and magnitude, so that negative zero is told from zero.
-- The denominator is 0 where ECMA-262 gives NaN or an infinity.
pub record Exact : Type 0 where
  pub negative : Bool
  pub numerator : ℕ
  pub denominator : ℕ

-- the Number of an exact result: there is one where it is whole, within the range, and not negative zero
abbrev pub num : Exact → Option ℤ
num exact =
    if nat_lt 0 exact.denominator
    && (exact.numerator % exact.denominator == 0)
    && nat_le (exact.numerator / exact.denominator) greatest
    && not (exact.negative && (exact.numerator == 0))
    then Some (signed exact.negative (exact.numerator / exact.denominator))
    else None

abbrev pub fraction : Bool → ℕ → ℕ → Exact
fraction negative numerator denominator =
    record { negative = negative; numerator = numerator; denominator = denominator }

-- a whole number; zero is positive
abbrev pub whole : ℤ → Exact
whole z = fraction (is_below_zero z) (unsigned_abs z) 1

-- one of the two is below zero, and not both
abbrev pub differ : Bool → Bool → Bool
differ false b = b
differ true b = not b

-- the operators' results for Numbers

-- 6.1.6.1.1 Number::unaryMinus
abbrev pub negation : ℤ → Exact
negation a = fraction (not (is_below_zero a)) (unsigned_abs a) 1

-- 6.1.6.1.7 Number::add
abbrev pub sum : ℤ → ℤ → Exact
sum a b = whole (a +ℤ b)

-- 6.1.6.1.8 Number::subtract
abbrev pub difference : ℤ → ℤ → Exact
difference a b = whole (a -ℤ b)

-- 6.1.6.1.4 Number::multiply
abbrev pub product : ℤ → ℤ → Exact
product a b =
    fraction (differ (is_below_zero a) (is_below_zero b)) (unsigned_abs a * unsigned_abs b) 1

-- 6.1.6.1.5 Number::divide
abbrev pub quotient : ℤ → ℤ → Exact
quotient a b = fraction (differ (is_below_zero a) (is_below_zero b)) (unsigned_abs a) (unsigned_abs b)

-- 6.1.6.1.6 Number::remainder: it has the sign of the dividend
abbrev pub remainder : ℤ → ℤ → Exact
remainder a b =
    fraction (is_below_zero a) (unsigned_abs a % unsigned_abs b) (if unsigned_abs b == 0 then 0 else 1)

abbrev pub is_odd : ℤ → Bool
is_odd z = unsigned_abs z % 2 == 1

-- 6.1.6.1.3 Number::exponentiate: a power, or one divided by it
abbrev pub power : ℤ → ℤ → Exact
power a (pos n) = fraction (is_below_zero a && is_odd (pos n)) (unsigned_abs a ^ n) 1
power a (negsuc n) = fraction (is_below_zero a && is_odd (negsuc n)) 1 (unsigned_abs a ^ suc n)
