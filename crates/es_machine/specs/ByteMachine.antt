-- The byte machine: frames of script functions and suspended acts, over the one state of a run.
use Rattle.std.specs.Prelude.{ℕ, zero, suc, List, [], ◌∷◌, Option, Some, None}
use Rattle.js_value.specs.Value.{Value, Undefined, Object}
use Rattle.js_value.specs.Store.{Class, ScriptFunction, BuiltInFunction, ResolveFunction, RejectFunction}
use Rattle.es_ops.specs.Intrinsics.{ObjectPrototype}
use Rattle.es_ops.specs.State.{World, State}
use Rattle.es_ops.specs.Messages.{NotAFunction}
use Rattle.es_ops.specs.Ledger.{Event, Happens, Stops, Budget, OutOf}
use Rattle.es_ops.specs.Events as event
use Rattle.es_ops.specs.Events.{TheClass, reply}
use Rattle.es_ops.specs.Act.{Act, Give, Throw, Halt, Turn, Ask, Do, Call, Try, Completion, NormalCompletion, ThrowCompletion, Calls, Ran, Ends, Halts, run, spent, returned, with_world}
use Rattle.es_ops.specs.Errors.{raise}
use Rattle.es_ops.specs.Calling.{may_be_called, may_be_entered, entered, super_call, create_from_constructor}
use Rattle.byte_code.specs.declared.records.FunctionCode.{FunctionCode}
use Rattle.byte_code.specs.declared.records.Modules.{Modules}
use Rattle.es_machine.specs.Tables.{FunctionKind, Derived, DefaultDerived, function_in, kind_of, handler_at}
use Rattle.es_machine.specs.Decoding.{Fetched, fetch}
use Rattle.es_machine.specs.Frames.{Frame, Below, Instructed, Constructing, Waiting, Config, Running, Performing, Returning, Throwing, Finished, Stuck, places_at_call}
use Rattle.es_machine.specs.Instructions.{execute, received}

-- the steps of each built-in function, by its row
abbrev pub BuiltIns : Type 0
BuiltIns = (row function : ℕ) → (target : Option Value) → (this : Value) → (arguments : List Value) → Act

-- ---- acts

abbrev pub happens : {A : Type 0} → Event World A → State → (A → State → Config) → Config
happens (Happens a w) s k = k a (with_world s w)
happens (Stops full) s k = Finished (Halts (OutOf full) s)

abbrev pub turned : (meter : ℕ) → State → (State → Config) → Config
turned zero s k = Finished (Halts Budget s)
turned (suc n) s k = k (record s { meter = n })

-- what a call throws goes out of the act
abbrev pub passing : (Value → Act) → Completion → Act
passing k (NormalCompletion v) = k v
passing k (ThrowCompletion v) = Throw v

-- The tests of a function make no calls.
abbrev pub no_calls : Calls
no_calls f this arguments target s = Ends (NormalCompletion Undefined) s

-- what comes before a function's body, in the order of the rules of calling
abbrev pub before_body : Value → (target : Option Value) → State → Ran
before_body f target s =
    returned (run no_calls (may_be_called f target) s) (λ _ s.
    spent s.meter s (λ s. entered s (run no_calls (may_be_entered f target))))

-- ---- the machine

module _ (table : Modules) (rows : BuiltIns) where
  -- a function's body by its kind; a base constructor's object is made first
  abbrev pub begin_kind : FunctionKind → Frame → (target : Option Value) → (this : Value) → (arguments : List Value) → List Below → State → Config
  begin_kind DefaultDerived f target this arguments below s = Performing (super_call f.function target arguments Give) below s
  begin_kind Derived f target this arguments below s = Running f below s
  begin_kind kind f (Some target) this arguments below s = Performing (create_from_constructor target ObjectPrototype (λ o. Give (Object o))) (Constructing f ∷ below) s
  begin_kind kind f None this arguments below s = Running (record f { this = Some this }) below s

  abbrev pub frame_of : (function module_number : ℕ) → (home : Option ℕ) → (captured : List ℕ) → (target : Option Value) → (arguments : List Value) → FunctionCode → Frame
  frame_of function module_number home captured target arguments code = record {
    module_number = module_number;
    code = code;
    function = function;
    home = home;
    outer = captured;
    target = target;
    this = None;
    places = places_at_call code.parameters arguments;
    at = 0;
    stack = [];
  }

  -- Own: a function whose code isn't there is no function.
  abbrev pub begin_code : Option FunctionCode → (FunctionCode → Frame) → (target : Option Value) → (this : Value) → (arguments : List Value) → List Below → State → Config
  begin_code None frame target this arguments below s = Performing (raise NotAFunction) below s
  begin_code (Some code) frame target this arguments below s = begin_kind (kind_of code) (frame code) target this arguments below s

  abbrev pub begin_class : Class → (function : ℕ) → (target : Option Value) → (this : Value) → (arguments : List Value) → List Below → State → Config
  begin_class (ScriptFunction module_number function_number home captured) function target this arguments below s =
      begin_code (function_in table module_number function_number) (frame_of function module_number home captured target arguments) target this arguments below s
  begin_class (BuiltInFunction row) function target this arguments below s = Performing (rows row function target this arguments) below s
  begin_class (ResolveFunction promise mark) function target this arguments below s = Performing (rows 49 function target this arguments) below s
  begin_class (RejectFunction promise mark) function target this arguments below s = Performing (rows 50 function target this arguments) below s
  begin_class c function target this arguments below s = Performing (raise NotAFunction) below s

  abbrev pub begin : Value → (target : Option Value) → (this : Value) → (arguments : List Value) → List Below → State → Config
  begin (Object n) target this arguments below s = begin_class (reply (TheClass n) s.world) n target this arguments below s
  begin f target this arguments below s = Performing (raise NotAFunction) below s

  abbrev pub begin_after : Ran → Value → (target : Option Value) → (this : Value) → (arguments : List Value) → List Below → Config
  begin_after (Ends (NormalCompletion _) s) f target this arguments below = begin f target this arguments below s
  begin_after (Ends (ThrowCompletion v) s) f target this arguments below = Throwing v below s
  begin_after (Halts stop s) f target this arguments below = Finished (Halts stop s)

  abbrev pub called : (f this : Value) → (arguments : List Value) → (target : Option Value) → (Completion → Act) → List Below → State → Config
  called f this arguments target k below s = begin_after (before_body f target s) f target this arguments (Waiting s.depth k ∷ below)

  abbrev pub perform : Act → List Below → State → Config
  perform (Give v) below s = Returning v below s
  perform (Throw v) below s = Throwing v below s
  perform (Halt stop) below s = Finished (Halts stop s)
  perform (Turn p) below s = turned s.meter s (Performing p below)
  perform (Ask q k) below s = Performing (k (reply q s.world)) below s
  perform (Do d k) below s = happens (event.perform d s.world) s (λ a. Performing (k a) below)
  perform (Call f this arguments target k) below s = called f this arguments target (passing k) below s
  perform (Try f this arguments target k) below s = called f this arguments target k below s

  -- a frame goes on behind its instruction with the instruction's value
  abbrev pub received_by : Option Fetched → Value → Frame → List Below → State → Config
  received_by None v f below s = Stuck
  received_by (Some i) v f below s = Running (record (received i.op v s.world f) { at = i.next }) below s

  abbrev pub with_depth : ℕ → State → State
  with_depth depth s = record s { depth = depth }

  abbrev pub return_to : List Below → Value → State → Config
  return_to [] v s = Finished (Ends (NormalCompletion v) s)
  return_to (Instructed f ∷ below) v s = received_by (fetch f.code.code f.at) v f below s
  return_to (Constructing f ∷ below) v s = Running (record f { this = Some v }) below s
  return_to (Waiting depth k ∷ below) v s = Performing (k (NormalCompletion v)) below (with_depth depth s)

  -- a handler finds the thrown value alone on the stack
  abbrev pub caught_by : Option ℕ → Value → Frame → List Below → State → Config
  caught_by None v f below s = Throwing v below s
  caught_by (Some to) v f below s = Running (record f { at = to; stack = v ∷ [] }) below s

  abbrev pub throw_to : List Below → Value → State → Config
  throw_to [] v s = Finished (Ends (ThrowCompletion v) s)
  throw_to (Instructed f ∷ below) v s = caught_by (handler_at f.code.handlers f.at) v f below s
  throw_to (Constructing f ∷ below) v s = Throwing v below s
  throw_to (Waiting depth k ∷ below) v s = Performing (k (ThrowCompletion v)) below (with_depth depth s)

  abbrev pub execute_at : Option Fetched → Frame → List Below → State → Config
  execute_at None f below s = Stuck
  execute_at (Some i) f below s = execute table f i.next below s i.op f.stack

  unfoldable pub step : Config → Config
  step (Running f below s) = execute_at (fetch f.code.code f.at) f below s
  step (Performing act below s) = perform act below s
  step (Returning v below s) = return_to below v s
  step (Throwing v below s) = throw_to below v s
  step (Finished ran) = Finished ran
  step Stuck = Stuck

  -- at most so many steps
  unfoldable pub steps : ℕ → Config → Config
  steps zero c = c
  steps (suc n) (Finished ran) = Finished ran
  steps (suc n) Stuck = Stuck
  steps (suc n) c = steps n (step c)
