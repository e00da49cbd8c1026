use Rattle.std.proofs.Common.{length}
use Rattle.js_value.proofs.Filling.{IsFilling}
use Rattle.js_value.proofs.text.utf16.fill.Given as goal

abbrev pub invariant-loop-rest : goal.invariant-loop-rest
invariant-loop-rest l = IsFilling l.text l.initial.into l.into l.rest l.written l.taken

abbrev pub decreases-loop-rest : goal.decreases-loop-rest
decreases-loop-rest l = length l.rest
