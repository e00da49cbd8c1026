use Rattle.std.proofs.Common.{◌≡◌, ◌-◌, List, [], Some, length}
use Rattle.byte_code.specs.declared.instruction.Op.{Op}
use Rattle.es_ops.specs.State.{TraceEvent}
use Rattle.xs_cli.specs.Code.{spelled, AreInstructions}
use Rattle.xs_cli.specs.Machine.{runs}
use Rattle.xs_cli.proofs.Running.{IsRunning}
use Rattle.xs_cli.proofs.machine.run.Given as goal

abbrev pub invariant-loop-op : goal.invariant-loop-op
invariant-loop-op g l =
    ((ops : List Op) → AreInstructions ops → l.code ≡ spelled ops → (events : List TraceEvent) → runs l.names ops [] ≡ Some events → IsRunning l.names l.code l.at l.stack (g.O.Sink.written l.initial.out) (g.O.Sink.written l.out) events)
    × (g.O.Sink.faults l.out ≡ g.O.Sink.faults l.initial.out)

abbrev pub decreases-loop-op : goal.decreases-loop-op
decreases-loop-op g l = length l.code - l.at
