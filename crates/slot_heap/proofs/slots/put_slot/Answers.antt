use Rattle.std.proofs.Common.{arith}
use Rattle.slot_heap.proofs.Rewritten.{put_over_is}
use Rattle.slot_heap.proofs.slots.put_slot.Goals as goal

pub returns-clause-items : goal.returns-clause-items
returns-clause-items c = put_over_is _ _ _ _ _ _ (omega (arith, c.args.ram.now.ok.0)) c.index-old.ensures c.keep.ensures
