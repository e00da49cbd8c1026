use Rattle.std.proofs.Common.{◌∙◌, Some, ap, sym}
use Rattle.xs_base.specs.Held.{held}
use Rattle.xs_base.proofs.Packing.{content_at, held_at}
use Rattle.xs_base.proofs.file_table.FileTable.get.Goals as goal

pub returns : goal.returns
returns c =
    let place = rw (c.deref.ensures.value, c.deref-2.ensures.value) at c.in_ok-place.ensures in
    let shown = rw (c.split_at.ensures.front, c.deref-3.ensures.value) at c.split_at-2.ensures.back in
    ap Some (shown ∙ content_at _ _ _ _ place) ∙ sym (held_at _ _ _ _ place) ∙ ap (λ table. held table.contents c.args.name.now) c.self.view_is
