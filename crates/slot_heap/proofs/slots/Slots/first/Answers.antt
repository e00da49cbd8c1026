use Rattle.std.proofs.Common.{arith}
use Rattle.slot_heap.proofs.Written.{first_stands, stands_at}
use Rattle.slot_heap.proofs.slots.Slots.first.Goals as goal

pub returns-clause-stands : goal.returns-clause-stands
returns-clause-stands c = first_stands _ _ c.chained.ensures.chained c.requires.thing

pub returns-clause-within : goal.returns-clause-within
returns-clause-within c =
    let w = stands_at _ _ _ _ c.chained.ensures.chained (first_stands _ _ c.chained.ensures.chained c.requires.thing) in
    let e = w.address_is in
    let l = w.within in
    (omega arith, omega arith)
