use Rattle.std.proofs.Common.{ap, sym, refl, ◌∙◌, subst, arith, false, length, ◌≡◌, ◌+◌, ◌-◌}
use Rattle.slot_heap.specs.Shown.{Low}
use Rattle.slot_heap.specs.Steps.{Added}
use Rattle.slot_heap.specs.Writes.{put_behind}
use Rattle.slot_heap.proofs.Written.{Sound, stands_at, added, written_more, kept_after}
use Rattle.slot_heap.proofs.slots.Slots.link.Goals as goal

pub overflow_sub-after : goal.overflow_sub-after
overflow_sub-after c = (stands_at _ _ _ _ c.chained.ensures.chained c.requires.of_it.1).above

pub link_slots-requires-clause-within : goal.link_slots-requires-clause-within
link_slots-requires-clause-within c =
    let w = stands_at _ _ _ _ c.chained.ensures.chained c.requires.of_it.1 in
    let e = w.address_is in
    let l = w.within in
    let n = ap (λ (h : Low). length h.ram) c.self.view_is in
    omega (arith, c.self.inside.ram.ok.0)

pub invariant_of-self : goal.invariant_of-self
invariant_of-self c =
    let v = c.self.view_is in
    let n = ap (λ (h : Low). length h.ram) v in
    let at : c.len.result + 1 ≡ length c.self.inside.ram.items + 1 = omega (arith, c.self.inside.ram.ok.0) in
    let w = written_more (λ s. put_behind s (c.args.after.0 - 1) c.args.slot (length s + 1)) false _ _ _ _ _ _ v (c.link_slots.ensures.items ∙ ap (λ m. put_behind c.self.inside.ram.items (c.args.after.0 - 1) c.args.slot m) at) c.push_reserved.ensures.items in
    let o = added _ _ _ _ c.args.slot c.chained.ensures.chained c.requires.of_it.1 c.chained.ensures.marked in
    let room = c.requires.room in
    let r = ap (λ (h : Low). h.reserved) v in
    kept_after _ _ _ _ _ _ _ _ _ _ c.self.invariant (subst Sound (sym w) o.0) (refl) (omega (arith, c.self.inside.ram.ok.0)) c.link_slots.ensures.capacity (let m = c.self.invariant.marked in let n = c.push_reserved.ensures.len in let q = c.link_slots.ensures.len in omega arith) c.push_reserved.ensures.capacity

pub returns-clause-added : goal.returns-clause-added
returns-clause-added c = λ k s.
    let v = c.self.view_is in
    let at : c.len.result + 1 ≡ length c.self.inside.ram.items + 1 = omega (arith, c.self.inside.ram.ok.0) in
    let w = written_more (λ s. put_behind s (c.args.after.0 - 1) c.args.slot (length s + 1)) false _ _ _ _ _ _ v (c.link_slots.ensures.items ∙ ap (λ m. put_behind c.self.inside.ram.items (c.args.after.0 - 1) c.args.slot m) at) c.push_reserved.ensures.items in
    subst (λ h. Added c.args.self.now c.args.r.0 k c.args.slot h) (sym w) (added _ _ _ _ c.args.slot c.chained.ensures.chained s c.chained.ensures.marked).1
