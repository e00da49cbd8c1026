use Rattle.std.proofs.Common.{◌≡◌, ◌≤◌, ◌-◌, length, drop}
use Rattle.js_value.specs.Literal.{trim_start}
use Rattle.js_value.proofs.literals.trim_start.Given as goal

abbrev pub invariant-loop-start : goal.invariant-loop-start
invariant-loop-start l = (l.start ≤ length l.text) × (trim_start (drop l.start l.text) ≡ trim_start l.text)

abbrev pub decreases-loop-start : goal.decreases-loop-start
decreases-loop-start l = length l.text - l.start
