use Rattle.std.proofs.Common.{ap}
use Rattle.slot_heap.specs.Held.{Held}
use Rattle.slot_heap.proofs.Grown.{span_length}
use Rattle.slot_heap.proofs.heap.Heap.length.Goals as goal

pub returns : goal.returns
returns c = span_length _ _ c.args.text _ (ap (λ (h : Held). h.words) c.self.view_is) c.span.ensures.span c.span.ensures.within
