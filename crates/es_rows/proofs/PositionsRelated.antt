-- Positions and counts are the same on both sides, and within their bounds.
use Rattle.std.proofs.Common.{ℕ, ◌≤◌, ℤ, pos, negsuc, arith, lit≤}
use Rattle.js_value.specs.Number.{IsNumber, greatest}
use Rattle.js_value.specs.Value.{Value}
use Rattle.es_ops.specs.Act.{Act}
use Rattle.es_ops.specs.Related.{Naming, BothValue, Related}
use Rattle.es_rows.specs.Positions.{at_least_zero, clamped, relative, clamped_position, relative_position, count_expected}
use Rattle.es_rows.proofs.ArgumentsRelated.{position_or_related}

pub natural : (n : ℕ) → n ≤ greatest → IsNumber (pos n)
natural n h = record { bound = h }

pub at_least_zero_bound : (z : ℤ) → IsNumber z → at_least_zero z ≤ greatest
at_least_zero_bound (pos n) h = h.bound
at_least_zero_bound (negsuc n) h = lit≤ tt

clamped_bound : (z : ℤ) (size : ℕ) → clamped z size ≤ size
clamped_bound z size = omega arith

relative_bound : (z : ℤ) (size : ℕ) → relative z size ≤ size
relative_bound (pos n) size = omega arith
relative_bound (negsuc n) size = omega arith

pub clamped_position_related : {R : Naming} (default : ℕ) (v w : Value) (size : ℕ) (k l : ℕ → Act) → default ≤ greatest → BothValue R v w → ((n : ℕ) → n ≤ size → Related R (k n) (l n)) → Related R (clamped_position default v size k) (clamped_position default w size l)
unfolding clamped_position
clamped_position_related default v w size k l i b h = position_or_related (pos default) v w _ _ (natural default i) b (λ z j. h (clamped z size) (clamped_bound z size))

pub relative_position_related : {R : Naming} (default : ℕ) (v w : Value) (size : ℕ) (k l : ℕ → Act) → default ≤ greatest → BothValue R v w → ((n : ℕ) → n ≤ size → Related R (k n) (l n)) → Related R (relative_position default v size k) (relative_position default w size l)
unfolding relative_position
relative_position_related default v w size k l i b h = position_or_related (pos default) v w _ _ (natural default i) b (λ z j. h (relative z size) (relative_bound z size))

pub count_expected_related : {R : Naming} (v w : Value) (k l : ℕ → Act) → BothValue R v w → ((n : ℕ) → n ≤ greatest → Related R (k n) (l n)) → Related R (count_expected v k) (count_expected w l)
unfolding count_expected
count_expected_related v w k l b h = position_or_related (pos 0) v w _ _ (natural 0 (lit≤ tt)) b (λ z j. h (at_least_zero z) (at_least_zero_bound z j))
