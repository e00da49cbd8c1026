use Rattle.std.proofs.Common.{◌∙◌, ap, sym, refl, arith}
use Rattle.std.specs.Str.{bytes_eq}
use Rattle.xs_base.proofs.Packing.{Scanned-next, Scanned-place, Scanned-none}
use Rattle.xs_base.proofs.packed.find.Goals as goal

pub returns-then-eq : goal.returns-then-eq
returns-then-eq c =
    let found = rw c.split_at.ensures.back at c.split_at-in-loop-at.ensures.front in
    Scanned-place _ _ _ _ _ _ _ c.requires c.loop-at.invariant (omega arith) refl (sym (ap (λ bytes. bytes_eq bytes c.args.name.now) found) ∙ sym c.eq.ensures ∙ c.if-eq.true)

pub loop-at-preserved : goal.loop-at-preserved
loop-at-preserved c =
    let found = rw c.split_at.ensures.back at c.split_at-in-loop-at.ensures.front in
    Scanned-next _ _ _ _ _ _ _ c.requires c.loop-at.invariant (omega arith) refl (sym (ap (λ bytes. bytes_eq bytes c.args.name.now) found) ∙ sym c.eq.ensures ∙ c.if-eq.false)

pub returns : goal.returns
returns c = Scanned-none _ _ _ _ _ c.requires c.loop-at.invariant (omega arith)
