use Rattle.std.proofs.Common.{ap, sym, ◌∙◌, arith}
use Rattle.slot_heap.specs.declared.slot.Slot.{Slot}
use Rattle.slot_heap.specs.Chains.{address}
use Rattle.slot_heap.proofs.Written.{stands_at, address_of, within_next}
use Rattle.slot_heap.proofs.slots.Slots.next.Goals as goal

pub returns-then-next-eq0-clause-next : goal.returns-then-next-eq0-clause-next
returns-then-next-eq0-clause-next c =
    ap address (sym c.if-next-eq0.true ∙ ap (λ (x : Slot). x.next) c.slot-next.ensures.slot)

pub returns-else-next-eq0-clause-next : goal.returns-else-next-eq0-clause-next
returns-else-next-eq0-clause-next c =
    sym (address_of _ c.if-next-eq0.false) ∙ ap address (ap (λ (x : Slot). x.next) c.slot-next.ensures.slot)

pub returns-then-next-eq0-clause-along : goal.returns-then-next-eq0-clause-along
returns-then-next-eq0-clause-along c = λ r k s.
    let f = sym (ap (λ (x : Slot). x.next) c.slot-next.ensures.slot) ∙ c.if-next-eq0.true in
    sym ((stands_at _ _ _ _ c.chained.ensures.chained s).next ∙ ap address f)

pub returns-else-next-eq0-clause-along : goal.returns-else-next-eq0-clause-along
returns-else-next-eq0-clause-along c = λ r k s.
    let f = ap (λ (x : Slot). x.next) c.slot-next.ensures.slot in
    sym ((stands_at _ _ _ _ c.chained.ensures.chained s).next ∙ ap address (sym f) ∙ address_of _ c.if-next-eq0.false)

pub returns-else-next-eq0-clause-nearer : goal.returns-else-next-eq0-clause-nearer
returns-else-next-eq0-clause-nearer c = λ r k s.
    let f = ap (λ (x : Slot). x.next) c.slot-next.ensures.slot in
    rw f (stands_at _ _ _ _ c.chained.ensures.chained s).nearer

pub returns-else-next-eq0-clause-within : goal.returns-else-next-eq0-clause-within
returns-else-next-eq0-clause-within c =
    let f = ap (λ (x : Slot). x.next) c.slot-next.ensures.slot in
    let l = within_next _ _ _ c.chained.ensures.chained f in
    let d = c.if-next-eq0.false in
    (omega arith, l)
