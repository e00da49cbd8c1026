use Rattle.std.proofs.Common.{length, ◌-◌, ◌≤◌}
use Rattle.byte_code.proofs.Renames.{Progress}
use Rattle.byte_code.proofs.renaming.rename.Given as goal

abbrev pub invariant-loop-at : goal.invariant-loop-at
invariant-loop-at l = record {
  inside : l.at ≤ length l.initial.code;
  progress : Progress l.initial.code l.map l.code l.at;
}

abbrev pub decreases-loop-at : goal.decreases-loop-at
decreases-loop-at l = length l.initial.code - l.at
