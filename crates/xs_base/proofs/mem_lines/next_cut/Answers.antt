use Rattle.xs_base.proofs.LineCuts.{next_line-found, next_line-missed, IsLine-found, IsLine-missed}
use Rattle.xs_base.proofs.mem_lines.next_cut.Goals as goal

pub returns-in-Some-clause-line : goal.returns-in-Some-clause-line
returns-in-Some-clause-line c = next_line-found _ _ _ _ c.requires c.split_at.ensures.front c.min.ensures c.in-Some.ensures.place

pub returns-in-Some-clause-shape : goal.returns-in-Some-clause-shape
returns-in-Some-clause-shape c = IsLine-found _ _ _ _ c.split_at.ensures.front c.min.ensures c.in-Some.ensures.place

pub returns-in-None-clause-line : goal.returns-in-None-clause-line
returns-in-None-clause-line c = next_line-missed _ _ _ _ c.requires c.split_at.ensures.front c.min.ensures c.in-None.ensures.place c.split_at.ensures.front_len

pub returns-in-None-clause-shape : goal.returns-in-None-clause-shape
returns-in-None-clause-shape c = IsLine-missed _ _ _ _ c.split_at.ensures.front c.min.ensures c.in-None.ensures.place c.split_at.ensures.front_len
