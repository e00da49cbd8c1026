use Rattle.std.proofs.Common.{arith}
use Rattle.slot_heap.proofs.Addresses.{prototypes, functions}
use Rattle.slot_heap.proofs.heap.Heap.realm.Goals as goal

pub returns-in-2-to-12 : goal.returns-in-2-to-12
returns-in-2-to-12 c = prototypes _ (omega arith) (omega arith)

pub returns-in-13-to-101 : goal.returns-in-13-to-101
returns-in-13-to-101 c = functions _ (omega arith) (omega arith)
