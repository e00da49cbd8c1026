use Rattle.std.proofs.Common.{◌≡◌, ◌<◌, ◌≤◌, ℕ, None}
use Rattle.byte_code.specs.Checking.{known}
use Rattle.byte_code.proofs.validity.are_free.Given as goal

abbrev pub invariant-loop-place : goal.invariant-loop-place
invariant-loop-place l = (q : ℕ) → l.from ≤ q → q < l.place → known l.heights q ≡ None
