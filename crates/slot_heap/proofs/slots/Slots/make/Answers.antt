use Rattle.std.proofs.Common.{◌∙◌}
use Rattle.slot_heap.specs.Shown.{Stands}
use Rattle.slot_heap.proofs.Makes.{filling_more}
use Rattle.slot_heap.proofs.slots.Slots.make.Goals as goal

pub loop-i-preserved : goal.loop-i-preserved
loop-i-preserved c =
    let inv = c.loop-i.invariant in
    let f = inv.filling in
    let s : Stands _ _ _ _ = record { thing = f.made.owned; place = f.at_last } in
    let more = filling_more _ _ _ _ _ _ _ _ inv.sound f (c.link-last.ensures.added _ s) in
    record {
      filling = rw c.link-last.ensures.at more;
      sound = inv.sound;
      same_reserved = c.link-last.ensures.reserved ∙ inv.same_reserved;
      room = inv.room;
    }
