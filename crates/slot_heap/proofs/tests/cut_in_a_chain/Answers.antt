use Rattle.std.proofs.Common.{sym}
use Rattle.slot_heap.proofs.Uses.{cut_fits}
use Rattle.slot_heap.proofs.tests.cut_in_a_chain.Goals as goal

pub cut-requires-clause-of_it : goal.cut-requires-clause-of_it
cut-requires-clause-of_it g c =
    cut_fits _ _ 0 _ _ c.first-head.ensures.stands (sym (c.in-Some.ensures.along _ 0 c.first-head.ensures.stands))
