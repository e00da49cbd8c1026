use Rattle.slot_heap.proofs.Sounds.{job_taken_sound}
use Rattle.slot_heap.proofs.heap.Heap.next_job.Goals as goal

pub returns-clause-sound : goal.returns-clause-sound
returns-clause-sound c = job_taken_sound _ _ _ _ c.self.view_is c.pop.ensures.taken
