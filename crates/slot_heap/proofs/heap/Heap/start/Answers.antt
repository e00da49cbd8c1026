use Rattle.slot_heap.proofs.Sounds.{started_sound}
use Rattle.slot_heap.proofs.heap.Heap.start.Goals as goal

pub returns-clause-sound : goal.returns-clause-sound
returns-clause-sound c = rw (c.parts-slots.ensures.slots, c.parts-slots.ensures.texts, c.parts-slots.ensures.jobs, c.parts-slots.ensures.room) (started_sound _ _)
