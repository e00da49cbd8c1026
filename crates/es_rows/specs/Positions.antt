-- Positions and counts among the arguments. A Number of the profile is whole, so that ToIntegerOrInfinity (ECMA-262 7.1.5)
-- gives the Number itself.
use Rattle.std.specs.Prelude.{ℕ, suc, ◌-◌, min, ℤ, pos, negsuc}
use Rattle.js_value.specs.Value.{Value}
use Rattle.es_ops.specs.Act.{Act}
use Rattle.es_rows.specs.Arguments.{position_or}

-- cut to 0 or more
abbrev pub at_least_zero : ℤ → ℕ
at_least_zero (pos n) = n
at_least_zero (negsuc n) = 0

-- a position clamped between 0 and the length
abbrev pub clamped : ℤ → (size : ℕ) → ℕ
clamped n size = min (at_least_zero n) size

-- a position that counts from the end where it is negative, clamped between 0 and the length
abbrev pub relative : ℤ → (size : ℕ) → ℕ
relative (pos n) size = min n size
relative (negsuc n) size = size - suc n

unfoldable pub clamped_position : (default : ℕ) → Value → (size : ℕ) → (ℕ → Act) → Act
clamped_position default v size k = position_or (pos default) v (λ n. k (clamped n size))

unfoldable pub relative_position : (default : ℕ) → Value → (size : ℕ) → (ℕ → Act) → Act
relative_position default v size k = position_or (pos default) v (λ n. k (relative n size))

-- a count, as ToLength (7.1.20) takes it; own: undefined is 0
unfoldable pub count_expected : Value → (ℕ → Act) → Act
count_expected v k = position_or (pos 0) v (λ n. k (at_least_zero n))
