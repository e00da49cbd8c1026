use Rattle.std.proofs.Common.{ap, arith}
use Rattle.slot_heap.specs.Held.{Held}
use Rattle.slot_heap.proofs.Grown.{span_length}
use Rattle.slot_heap.proofs.heap.Heap.unit.Goals as goal

pub unit-requires-clause-below : goal.unit-requires-clause-below
unit-requires-clause-below c =
    let e = span_length _ _ c.args.text _ (ap (λ (h : Held). h.words) c.self.view_is) c.span.ensures.span c.span.ensures.within in
    let b = c.requires.below in
    omega arith
