use Rattle.std.proofs.Common.{ap, refl, arith, true, length, ◌+◌, ◌++◌, ◌∷◌, []}
use Rattle.slot_heap.specs.Shown.{Low}
use Rattle.slot_heap.proofs.Written.{written_more, kept_after}
use Rattle.slot_heap.proofs.Makes.{begun_head}
use Rattle.slot_heap.proofs.slots.Slots.begin.Goals as goal

pub invariant_of-self : goal.invariant_of-self
invariant_of-self c =
    let v = c.self.view_is in
    let w = written_more (λ s. s ++ c.head.result ∷ []) true _ _ _ _ _ _ v c.push_reserved.ensures.items c.push_reserved-2.ensures.items in
    let n = ap (λ (h : Low). length h.ram) v in
    let o = begun_head _ _ (length c.args.self.now.ram + 1) _ _ _ c.chained.ensures.chained c.chained.ensures.marked c.head.ensures w refl in
    let room = c.requires.room in
    let r = ap (λ (h : Low). h.reserved) v in
    let k = c.push_reserved.ensures.len in
    kept_after _ _ _ _ _ _ _ _ _ _ c.self.invariant o.0 refl (omega (arith, c.self.inside.ram.ok.0)) c.push_reserved.ensures.capacity (let m = c.self.invariant.marked in let n = c.push_reserved-2.ensures.len in omega arith) c.push_reserved-2.ensures.capacity

pub returns-clause-made : goal.returns-clause-made
returns-clause-made c =
    let v = c.self.view_is in
    let w = written_more (λ s. s ++ c.head.result ∷ []) true _ _ _ _ _ _ v c.push_reserved.ensures.items c.push_reserved-2.ensures.items in
    let n = ap (λ (h : Low). length h.ram) v in
    (begun_head _ _ _ _ _ _ c.chained.ensures.chained c.chained.ensures.marked c.head.ensures w (omega (arith, c.self.inside.ram.ok.0))).1

pub returns-clause-stands : goal.returns-clause-stands
returns-clause-stands c =
    let v = c.self.view_is in
    let w = written_more (λ s. s ++ c.head.result ∷ []) true _ _ _ _ _ _ v c.push_reserved.ensures.items c.push_reserved-2.ensures.items in
    let n = ap (λ (h : Low). length h.ram) v in
    (begun_head _ _ _ _ _ _ c.chained.ensures.chained c.chained.ensures.marked c.head.ensures w (omega (arith, c.self.inside.ram.ok.0))).2

pub returns-clause-alone : goal.returns-clause-alone
returns-clause-alone c =
    let v = c.self.view_is in
    let w = written_more (λ s. s ++ c.head.result ∷ []) true _ _ _ _ _ _ v c.push_reserved.ensures.items c.push_reserved-2.ensures.items in
    let n = ap (λ (h : Low). length h.ram) v in
    (begun_head _ _ _ _ _ _ c.chained.ensures.chained c.chained.ensures.marked c.head.ensures w (omega (arith, c.self.inside.ram.ok.0))).3
