use Rattle.std.proofs.Common.{◌-◌, length}
use Rattle.std.specs.Io.KnownBytes.{Keeps, prepend_known}
use Rattle.xs_base.specs.Line.{IsLine}
use Rattle.xs_base.proofs.real_lines.fill.Given as goal

abbrev pub invariant-loop-from : goal.invariant-loop-from
invariant-loop-from g l = record {
  kept : Keeps (prepend_known l.initial.line (g.R.Read.remaining l.initial.from)) (prepend_known l.line (g.R.Read.remaining l.from));
  shape : IsLine l.line;
}

abbrev pub decreases-loop-from : goal.decreases-loop-from
decreases-loop-from g l = 65535 - length l.line
