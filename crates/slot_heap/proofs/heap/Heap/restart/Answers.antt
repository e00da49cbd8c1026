use Rattle.std.proofs.Common.{ap}
use Rattle.slot_heap.specs.Held.{Held, no_room}
use Rattle.slot_heap.proofs.Sounds.{sound_restarted}
use Rattle.slot_heap.proofs.heap.Heap.restart.Goals as goal

pub returns-clause-sound : goal.returns-clause-sound
returns-clause-sound c = sound_restarted _ _ _ (ap (λ (h : Held). record h { used = no_room; limit = c.args.room }) c.self.view_is)
