use Rattle.std.proofs.Common.{ap, sym, refl, subst, arith, length, ◌-◌}
use Rattle.slot_heap.specs.Shown.{Low}
use Rattle.slot_heap.specs.Steps.{Removed}
use Rattle.slot_heap.specs.Writes.{put_past}
use Rattle.slot_heap.proofs.Written.{Sound, stands_at, written, kept_after}
use Rattle.slot_heap.proofs.Rewritten.{removed, after_some, more_after}
use Rattle.slot_heap.proofs.slots.Slots.cut.Goals as goal

pub overflow_sub-after : goal.overflow_sub-after
overflow_sub-after c = (stands_at _ _ _ _ c.chained.ensures.chained c.requires.of_it.1).above

pub cut_slot-requires-clause-within : goal.cut_slot-requires-clause-within
cut_slot-requires-clause-within c =
    let w = stands_at _ _ _ _ c.chained.ensures.chained c.requires.of_it.1 in
    let e = w.address_is in
    let l = w.within in
    let n = ap (λ (h : Low). length h.ram) c.self.view_is in
    omega (arith, c.self.inside.ram.ok.0)

pub cut_slot-requires-clause-some : goal.cut_slot-requires-clause-some
cut_slot-requires-clause-some c =
    let v = ap (λ (h : Low). h.ram) c.self.view_is in
    rw v (after_some _ _ _ _ c.chained.ensures.chained c.requires.of_it.1 c.requires.of_it.2).0

pub cut_slot-requires-clause-next : goal.cut_slot-requires-clause-next
cut_slot-requires-clause-next c =
    let v = ap (λ (h : Low). h.ram) c.self.view_is in
    let n = ap length v in
    let l = rw (sym v) at (after_some _ _ _ _ c.chained.ensures.chained c.requires.of_it.1 c.requires.of_it.2).1 in
    omega (arith, c.self.inside.ram.ok.0)

pub invariant_of-self : goal.invariant_of-self
invariant_of-self c =
    let v = c.self.view_is in
    let w = written (λ s. put_past s (c.args.after.0 - 1)) _ _ _ _ _ v c.cut_slot.ensures.items in
    let o = removed _ _ _ _ c.chained.ensures.chained c.requires.of_it.1 c.requires.of_it.2 in
    let k = c.self.invariant.within in
    let n = c.cut_slot.ensures.len in
    kept_after _ _ _ _ _ _ _ _ _ _ c.self.invariant (subst Sound (sym w) o.0) refl (omega arith) c.cut_slot.ensures.capacity (let m = c.self.invariant.marked in omega arith) refl

pub returns-clause-removed : goal.returns-clause-removed
returns-clause-removed c = λ k s.
    let v = c.self.view_is in
    let w = written (λ s. put_past s (c.args.after.0 - 1)) _ _ _ _ _ v c.cut_slot.ensures.items in
    let l = more_after _ _ _ _ _ c.chained.ensures.chained c.requires.of_it.1 s c.requires.of_it.2 in
    subst (λ h. Removed c.args.self.now c.args.r.0 k h) (sym w) (removed _ _ _ _ c.chained.ensures.chained s l).1
