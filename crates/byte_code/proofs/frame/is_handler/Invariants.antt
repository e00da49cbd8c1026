use Rattle.std.proofs.Common.{◌≡◌, ◌<◌, ℕ}
use Rattle.byte_code.specs.ValidCode.{handler_target}
use Rattle.byte_code.proofs.frame.is_handler.Given as goal

abbrev pub invariant-loop-place : goal.invariant-loop-place
invariant-loop-place l = (k : ℕ) → k < l.place → handler_target l.handlers k ≡ l.at → ⊥
