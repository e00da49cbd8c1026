use Rattle.std.proofs.Common.{ap, arith}
use Rattle.slot_heap.specs.Held.{Held}
use Rattle.slot_heap.proofs.Grown.{span_length}
use Rattle.slot_heap.proofs.heap.Heap.push_text.Goals as goal

pub push_text-requires-clause-within : goal.push_text-requires-clause-within
push_text-requires-clause-within c =
    let e = span_length _ _ c.args.text _ (ap (λ (h : Held). h.words) c.self.view_is) c.span.ensures.span c.span.ensures.within in
    let b = c.requires.within in
    omega arith
