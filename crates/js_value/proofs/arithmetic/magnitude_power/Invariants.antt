use Rattle.js_value.proofs.Powers.{IsPart}
use Rattle.js_value.proofs.arithmetic.magnitude_power.Given as goal

abbrev pub invariant-loop-left : goal.invariant-loop-left
invariant-loop-left l = IsPart l.base l.exponent l.power l.square l.left

abbrev pub decreases-loop-left : goal.decreases-loop-left
decreases-loop-left l = l.left
