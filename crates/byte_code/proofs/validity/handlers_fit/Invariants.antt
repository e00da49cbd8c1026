use Rattle.std.proofs.Common.{◌<◌, ℕ}
use Rattle.byte_code.specs.Checking.{HandlerFits}
use Rattle.byte_code.proofs.validity.handlers_fit.Given as goal

abbrev pub invariant-loop-place : goal.invariant-loop-place
invariant-loop-place l = (k : ℕ) → k < l.place → HandlerFits l.heights l.size l.handlers k
