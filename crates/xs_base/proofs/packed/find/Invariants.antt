use Rattle.xs_base.proofs.Packing.{Scanned}
use Rattle.xs_base.proofs.packed.find.Given as goal

abbrev pub invariant-loop-at : goal.invariant-loop-at
invariant-loop-at l = Scanned l.extents l.bytes l.name l.at l.start
