use Rattle.std.proofs.Common.{arith}
use Rattle.slot_heap.specs.Shown.{Kept}
use Rattle.slot_heap.proofs.Makes.{sound_none}
use Rattle.slot_heap.proofs.slots.Slots.reserve.Goals as goal

pub invariant_of-result : goal.invariant_of-result
invariant_of-result c =
    let e = c.in_ok-ram.ensures.len in
    let f = c.in_ok-ram.ensures.exact in
    let g = c.in_ok-begins.ensures.len in
    let d = c.in_ok-begins.ensures.exact in
    let kept : Kept _ _ _ _ _ = record { chained = rw (c.in_ok-ram.ensures.items, c.in_ok-begins.ensures.items) (sound_none c.args.reserved); within = omega arith; reserved = omega arith; marked = omega arith; mark_room = omega arith; word = omega arith } in
    kept
