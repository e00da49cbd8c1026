use Rattle.std.proofs.Common.{ap, sym, refl, subst, arith, length, ◌-◌, ◌<◌}
use Rattle.slot_heap.specs.Shown.{Low}
use Rattle.slot_heap.specs.Steps.{Replaced}
use Rattle.slot_heap.specs.Writes.{put_over}
use Rattle.slot_heap.proofs.Marks.{mark_read}
use Rattle.slot_heap.proofs.Written.{Sound, stands_at, written, kept_after}
use Rattle.slot_heap.proofs.Rewritten.{replaced}
use Rattle.slot_heap.proofs.slots.Slots.put.Goals as goal

pub overflow_sub-place : goal.overflow_sub-place
overflow_sub-place c = (stands_at _ _ _ _ c.chained.ensures.chained c.requires.of_it.3).above

pub put_slot-requires : goal.put_slot-requires
put_slot-requires c =
    let w = stands_at _ _ _ _ c.chained.ensures.chained c.requires.of_it.3 in
    let e = w.address_is in
    let l = w.within in
    let n = ap (λ (h : Low). length h.ram) c.self.view_is in
    omega (arith, c.self.inside.ram.ok.0)

pub index-is_head-requires : goal.index-is_head-requires
index-is_head-requires c =
    let w = stands_at _ _ _ _ c.chained.ensures.chained c.requires.of_it.3 in
    let e = w.address_is in
    let l = w.within in
    let n = ap (λ (h : Low). length h.ram) c.self.view_is in
    let m = c.self.invariant.marked in
    omega (arith, c.self.inside.ram.ok.0)

pub invariant_of-self : goal.invariant_of-self
invariant_of-self c =
    let v = c.self.view_is in
    let a = (stands_at _ _ _ _ c.chained.ensures.chained c.requires.of_it.3) in
    let e = a.address_is in
    let l = a.within in
    let n = ap (λ (h : Low). length h.ram) v in
    let m = c.self.invariant.marked in
    let i : c.args.at.0 - 1 < length c.self.inside.begins.items = omega (arith, c.self.inside.ram.ok.0, c.self.inside.begins.ok.0) in
    let mark = mark_read _ _ _ _ _ _ v i c.index-is_head.ensures in
    let w = written (λ s. put_over s (c.args.at.0 - 1) c.index-is_head.result.now c.args.slot) _ _ _ _ _ v c.put_slot.ensures.items in
    let o = replaced _ _ _ _ _ c.args.slot c.chained.ensures.chained c.requires.of_it.3 mark in
    let k = c.self.invariant.within in
    let n = c.put_slot.ensures.len in
    kept_after _ _ _ _ _ _ _ _ _ _ c.self.invariant (subst Sound (sym w) o.0) refl (omega arith) c.put_slot.ensures.capacity (omega arith) refl

pub returns-clause-replaced : goal.returns-clause-replaced
returns-clause-replaced c = λ r k s.
    let v = c.self.view_is in
    let a = (stands_at _ _ _ _ c.chained.ensures.chained c.requires.of_it.3) in
    let e = a.address_is in
    let l = a.within in
    let n = ap (λ (h : Low). length h.ram) v in
    let m = c.self.invariant.marked in
    let i : c.args.at.0 - 1 < length c.self.inside.begins.items = omega (arith, c.self.inside.ram.ok.0, c.self.inside.begins.ok.0) in
    let mark = mark_read _ _ _ _ _ _ v i c.index-is_head.ensures in
    let w = written (λ s. put_over s (c.args.at.0 - 1) c.index-is_head.result.now c.args.slot) _ _ _ _ _ v c.put_slot.ensures.items in
    subst (λ h. Replaced c.args.self.now r k c.args.slot h) (sym w) (replaced _ _ _ _ _ c.args.slot c.chained.ensures.chained s mark).1
