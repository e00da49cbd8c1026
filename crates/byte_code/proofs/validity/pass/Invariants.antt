use Rattle.std.proofs.Common.{length, ◌-◌, ◌≤◌}
use Rattle.byte_code.specs.Checking.{Pass}
use Rattle.byte_code.specs.Frames.{bounds_of}
use Rattle.byte_code.proofs.validity.pass.Given as goal

abbrev pub invariant-loop-front : goal.invariant-loop-front
invariant-loop-front l = record {
  inside : l.front.at ≤ length l.code;
  kept : Pass l.code (bounds_of l.fn.frame) l.heights l.front.at l.front.before;
}

abbrev pub decreases-loop-front : goal.decreases-loop-front
decreases-loop-front l = length l.code - l.front.at
