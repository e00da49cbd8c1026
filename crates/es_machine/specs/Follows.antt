-- That a machine comes from one configuration to another, and that it follows a way of calling.
use Rattle.std.specs.Prelude.{◌≡◌, ◌≤◌, ℕ, List, Option}
use Rattle.byte_code.specs.declared.records.Modules.{Modules}
use Rattle.js_value.specs.Value.{Value}
use Rattle.es_ops.specs.State.{State}
use Rattle.es_ops.specs.Act.{Act, Completion, NormalCompletion, ThrowCompletion, Calls, Ran, Ends, Halts}
use Rattle.es_machine.specs.Frames.{Below, Config, Performing, Returning, Throwing, Finished}
use Rattle.es_machine.specs.ByteMachine.{BuiltIns, called, steps}

module _ (table : Modules) (rows : BuiltIns) where
  -- in some number of steps
  abbrev pub Comes : Config → Config → Type 0
  Comes c d = (n : ℕ) × (steps table rows n c ≡ d)

  -- what a run comes to, with no more units than these left, is what the machine gives to those below
  abbrev pub EndsWith : ℕ → List Below → Config → Ran → Type 0
  EndsWith b below c (Ends (NormalCompletion v) s) = (s.meter ≤ b) × Comes c (Returning v below s)
  EndsWith b below c (Ends (ThrowCompletion v) s) = (s.meter ≤ b) × Comes c (Throwing v below s)
  EndsWith b below c (Halts stop s) = Comes c (Finished (Halts stop s))

  -- what a call comes to is what the act goes on with
  abbrev pub GoesOn : ℕ → (Completion → Act) → List Below → Config → Ran → Type 0
  GoesOn b k below c (Ends completion s) = (s.meter ≤ b) × Comes c (Performing (k completion) below s)
  GoesOn b k below c (Halts stop s) = Comes c (Finished (Halts stop s))

  -- the machine's calls are these, with no more units than b
  abbrev pub CallsFollow : ℕ → Calls → Type 0
  CallsFollow b calls = (f this : Value) (arguments : List Value) (target : Option Value) (k : Completion → Act) (below : List Below) (s : State) → s.meter ≤ b → GoesOn b k below (called table rows f this arguments target k below s) (calls f this arguments target s)
