use Rattle.std.proofs.Common.{◌≡◌, ◌++◌, length}
use Rattle.js_value.specs.Text.{units}
use Rattle.js_value.proofs.text.Units.from_utf8.Given as goal

abbrev pub invariant-loop-rest : goal.invariant-loop-rest
invariant-loop-rest l = l.text ++ units l.rest ≡ units l.bytes

abbrev pub decreases-loop-rest : goal.decreases-loop-rest
decreases-loop-rest l = length l.rest
