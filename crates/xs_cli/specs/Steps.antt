-- What a call of the machine leaves, by what the definition of its instructions says.
use Rattle.std.specs.Prelude.{◌≡◌, ℕ, List, Option, Result, Ok, Err}
use Rattle.std.specs.Io.KnownBytes.{Appends, Keeps}
use Rattle.xs_base.specs.Outside.{Rose, SentInPart}
use Rattle.es_ops.specs.Host.{written}
use Rattle.xs_cli.specs.Machine.{Stepped, Goes, Returned, Stuck}
use Rattle.xs_cli.specs.declared.machine.stack.Value.{Value}
use Rattle.xs_cli.specs.declared.machine.Flow.{Flow}
use Rattle.xs_cli.specs.declared.machine.Flow.TheVariants as flow
use Rattle.xs_cli.specs.declared.machine.Fault.{Fault}
use Rattle.xs_cli.specs.declared.machine.Fault.TheVariants as fault

-- One instruction: the stack after it, and what was written. A write may fail on the way.
abbrev pub DoesStep : Stepped → List Value → Option (List ℕ) → Option (List ℕ) → Result Flow Fault → Type 0
DoesStep (Goes stack events) after old new (Ok flow.Goes) = (after ≡ stack) × Appends old new (written events)
DoesStep (Goes stack events) after old new (Err fault.Write) = SentInPart old new (written events)
DoesStep Returned after old new (Ok flow.Returns) = Keeps old new
DoesStep Stuck after old new (Err fault.Stuck) = Keeps old new
DoesStep _ after old new _ = ⊥

-- A whole run that writes these bytes.
abbrev pub DoesRun : List ℕ → Option (List ℕ) → Option (List ℕ) → Result (Unit {0}) Fault → Type 0
DoesRun bytes old new (Ok done) = Appends old new bytes
DoesRun bytes old new (Err fault.Write) = SentInPart old new bytes
DoesRun bytes old new (Err fault.Stuck) = ⊥

-- The sink's count of faults rose where a write failed, and nowhere else.
abbrev pub IsCounted : {A : Type 0} → ℕ → ℕ → Result A Fault → Type 0
IsCounted before now (Ok done) = now ≡ before
IsCounted before now (Err fault.Write) = Rose before now
IsCounted before now (Err fault.Stuck) = now ≡ before
