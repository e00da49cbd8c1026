use Rattle.std.proofs.Common.{arith}
use Rattle.slot_heap.proofs.Sounds.{new_job_sound}
use Rattle.slot_heap.proofs.heap.Heap.queue.Goals as goal

pub push-requires : goal.push-requires
push-requires c =
    let i = c.self.invariant in
    let j = i.jobs in
    let r = i.job_room in
    let l = i.limit in
    omega arith

pub returns-clause-sound : goal.returns-clause-sound
returns-clause-sound c = new_job_sound _ _ _ _ _ c.self.view_is c.push.ensures
