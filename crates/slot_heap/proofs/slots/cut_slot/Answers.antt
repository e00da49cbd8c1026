use Rattle.std.proofs.Common.{arith, length, ◌<◌}
use Rattle.slot_heap.proofs.Rewritten.{put_past_is, next_is}
use Rattle.slot_heap.proofs.slots.cut_slot.Goals as goal

pub returns-clause-items : goal.returns-clause-items
returns-clause-items c =
    let l : c.args.place < length c.args.ram.now.items = omega (arith, c.args.ram.now.ok.0) in
    let n = next_is _ _ _ l c.index.ensures in
    let some = c.requires.some in
    let next = c.requires.next in
    put_past_is _ _ _ _ _ l c.index.ensures (omega (arith, c.args.ram.now.ok.0)) c.index-2.ensures c.index_mut.ensures.value
