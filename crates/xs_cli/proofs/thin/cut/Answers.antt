use Rattle.std.proofs.Common.{sym}
use Rattle.xs_cli.proofs.Cuts.{cut_some, cut_none, drop_one}
use Rattle.xs_cli.proofs.thin.cut.Goals as goal

pub returns-in_err-quote-clause-cases : goal.returns-in_err-quote-clause-cases
returns-in_err-quote-clause-cases c = rw c.from_residual.ensures (cut_none _ (sym (c.in_err-quote.ensures)))

pub returns-clause-cases : goal.returns-clause-cases
returns-clause-cases c = rw (c.split_at.ensures.front, c.split_at-2.ensures.back, c.split_at.ensures.back, drop_one) (cut_some _ _ (sym (c.in_ok-quote.ensures))).0
