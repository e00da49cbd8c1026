use Rattle.std.proofs.Common.{◌∙◌}
use Rattle.std.proofs.lemmas.Result.{err_from_is_err_and}
use Rattle.xs_base.proofs.Writes.{Sent-more}
use Rattle.xs_cli.proofs.line.print_line.Goals as goal

pub returns-in_err-units-clause-bytes : goal.returns-in_err-units-clause-bytes
returns-in_err-units-clause-bytes g c =
    let p = err_from_is_err_and c.from_residual.result c.from_residual.ensures.1 in
    let h = c.in_err-units.ensures.front in
    rw p.1 (h.0, Sent-more _ _ _ _ _ _ _ c.loop-units.invariant.0 h.1.whole h.1.received)

pub loop-units-preserved : goal.loop-units-preserved
loop-units-preserved g c =
    let h = rw c.in-Some.is at c.in_ok-units.ensures.front in
    (rw c.split_at.ensures.back (Sent-more _ _ _ _ _ _ _ c.loop-units.invariant.0 h.1 h.2), c.in_ok-units.ensures.cause.kept ∙ c.loop-units.invariant.1)
