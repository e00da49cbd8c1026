use Rattle.std.proofs.Common.{sym}
use Rattle.slot_heap.proofs.Grown.{kept_pushed}
use Rattle.slot_heap.proofs.texts.Texts.push.Goals as goal

pub invariant_of-self : goal.invariant_of-self
invariant_of-self c =
    let is_open = rw (sym c.self.view_is) at c.requires.open in
    let room = rw (sym c.self.view_is) at c.requires.room in
    kept_pushed _ _ _ _ _ _ _ _ _ _ _ _ c.self.invariant c.push_reserved.ensures.items c.push_reserved.ensures.capacity is_open room
