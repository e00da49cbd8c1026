use Rattle.std.proofs.Common.{ap, ◌∙◌, get_or, ◌+◌}
use Rattle.slot_heap.specs.Texts.{Words}
use Rattle.slot_heap.proofs.Grown.{unit_at}
use Rattle.slot_heap.proofs.texts.Texts.unit.Goals as goal

pub returns : goal.returns
returns c =
    let v = ap (λ (w : Words). get_or w.units (c.args.span.0 + c.args.at) c.index.result.now) c.self.view_is in
    unit_at _ _ _ _ c.requires.stands c.requires.below (c.index.ensures ∙ v)
