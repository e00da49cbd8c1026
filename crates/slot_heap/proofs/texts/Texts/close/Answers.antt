use Rattle.std.proofs.Common.{ap, ◌∙◌, arith, length}
use Rattle.slot_heap.specs.Texts.{Words, opened}
use Rattle.slot_heap.proofs.Grown.{whole}
use Rattle.slot_heap.proofs.texts.Texts.close.Goals as goal

pub returns-clause-made : goal.returns-clause-made
returns-clause-made c =
    let v = c.self.view_is in
    let n = ap (λ (w : Words). length w.units) v in
    let e = ap (λ (w : Words). w.end) v in
    let k = c.requires.full in
    let b = c.self.invariant.begun in
    whole _ _ _ (omega arith) (omega arith) ∙ ap opened v
