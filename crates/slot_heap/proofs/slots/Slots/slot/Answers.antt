use Rattle.slot_heap.proofs.Written.{cell_read}
use Rattle.slot_heap.proofs.slots.Slots.slot.Goals as goal

pub returns-clause-cell : goal.returns-clause-cell
returns-clause-cell c = λ r k s. cell_read _ _ _ _ _ _ _ _ c.chained.ensures.chained c.self.view_is s c.index.ensures
