use Rattle.std.proofs.Common.{arith}
use Rattle.slot_heap.proofs.Rewritten.{put_behind_is}
use Rattle.slot_heap.proofs.slots.link_slots.Goals as goal

pub returns-clause-items : goal.returns-clause-items
returns-clause-items c =
    put_behind_is _ _ _ _ _ _ _ (omega (arith, c.args.ram.now.ok.0)) c.index.ensures c.push_reserved.ensures.items c.index_mut.ensures.value
