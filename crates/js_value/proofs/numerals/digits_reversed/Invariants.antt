use Rattle.std.proofs.Common.{◌≤◌}
use Rattle.js_value.proofs.Digits.{IsReversing}
use Rattle.js_value.proofs.numerals.digits_reversed.Given as goal

abbrev pub invariant-loop-left : goal.invariant-loop-left
invariant-loop-left l = IsReversing l.radix l.n l.left l.initial.into l.into l.length × (l.length ≤ 53)

abbrev pub decreases-loop-left : goal.decreases-loop-left
decreases-loop-left l = l.left
