use Rattle.xs_cli.proofs.Ended.{answered, usage_exactly, cut_short, line_told}
use Rattle.xs_cli.proofs.top.xs.Goals as goal

pub returns-clause-answered : goal.returns-clause-answered
returns-clause-answered g c = rw c.status.ensures (answered _ _ _ _ c.eval-end.ensures.ended)

pub returns-clause-usage : goal.returns-clause-usage
returns-clause-usage g c = rw c.status.ensures (usage_exactly _ _ _ _ c.eval-end.ensures.ended)

pub returns-clause-cut_short : goal.returns-clause-cut_short
returns-clause-cut_short g c = rw c.status.ensures (cut_short _ _ _ _ c.eval-end.ensures.ended)

pub returns-clause-ends : goal.returns-clause-ends
returns-clause-ends g c = (c.eval-end.result, c.status.ensures, c.eval-end.ensures.ended, line_told _ _ _ _ _ _ c.tell.ensures.bytes c.tell.ensures.cause)
