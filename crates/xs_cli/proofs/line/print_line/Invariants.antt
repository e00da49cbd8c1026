use Rattle.std.proofs.Common.{◌≡◌, length}
use Rattle.xs_base.specs.Outside.{Sent}
use Rattle.xs_cli.specs.Line.{line_bytes}
use Rattle.xs_cli.proofs.line.print_line.Given as goal

abbrev pub invariant-loop-units : goal.invariant-loop-units
invariant-loop-units g l = Sent (g.O.Sink.written l.initial.out) (g.O.Sink.written l.out) (line_bytes l.text) (line_bytes l.rest) × (g.O.Sink.faults l.out ≡ g.O.Sink.faults l.initial.out)

abbrev pub decreases-loop-units : goal.decreases-loop-units
decreases-loop-units g l = length l.rest
