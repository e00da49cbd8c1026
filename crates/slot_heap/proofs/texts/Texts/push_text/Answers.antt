use Rattle.std.proofs.Common.{ap, sym, ◌∙◌, arith, length, length-append, ◌++◌, ◌∷◌, []}
use Rattle.slot_heap.specs.Texts.{Words}
use Rattle.slot_heap.proofs.Grown.{pushed_more}
use Rattle.slot_heap.proofs.texts.Texts.push_text.Goals as goal

pub loop-at-preserved : goal.loop-at-preserved
loop-at-preserved c =
    let inv = c.loop-at.invariant in
    let u = c.unit-unit.result in
    let pushed = ap (λ (w : Words). w.units) c.push.ensures in
    let n = ap length pushed ∙ length-append c.loop-at.self.units (u ∷ []) in
    let m = inv.count in
    record {
      units = pushed_more _ _ _ _ _ _ _ c.requires.stands (omega arith) inv.units c.unit-unit.ensures pushed;
      count = omega arith;
      rest = c.push.ensures ∙ ap (λ (w : Words). record w { units = c.loop-at.self.units ++ u ∷ [] }) inv.rest ∙ ap (λ us. record c.args.self.now { units = us }) (sym pushed);
      stands = inv.stands;
      within = inv.within;
      room = inv.room;
      is_open = inv.is_open;
    }
