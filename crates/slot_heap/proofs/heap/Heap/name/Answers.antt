use Rattle.slot_heap.proofs.Sounds.{new_name_sound}
use Rattle.slot_heap.proofs.heap.Heap.name.Goals as goal

pub returns-clause-sound : goal.returns-clause-sound
returns-clause-sound c = new_name_sound _ _ _ _ _ c.self.view_is c.add_name.ensures.names c.span-span.ensures.within
