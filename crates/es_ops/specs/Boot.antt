-- Booting a set of modules: the set-up of a plan, the bodies, the jobs, and what is told of a run (ECMA-262 16.2.1.5 and
-- 9.5; own). It is stated for every engine, that is for every way of running bodies and calls.
use Rattle.std.specs.Prelude.{ℕ, zero, suc, Bool, true, false, not, List, [], ◌∷◌, ◌++◌, map, codes, Option, Some, None, get_or, set}
use Rattle.js_value.specs.NumberText.{text_of_number}
use Rattle.js_value.specs.Value.{Value, Undefined, Null, Boolean, Number, String, Object, Text, Named}
use Rattle.js_value.specs.Store.{Store, Property, Content, Data, Class, Promise, Rejected, ACell, object_in, cell_in}
use Rattle.js_value.specs.Job.{Job}
use Rattle.js_value.specs.declared.counts.Full.{Full}
use Rattle.js_value.specs.declared.counts.Full.TheVariants.{Slots, Units, Names}
use Rattle.es_ops.specs.State.{World, State, Limits, ModuleState, NotEvaluated, SetUp, Evaluated, Preloaded, TraceEvent, nothing, room_of, costs_at_start}
use Rattle.es_ops.specs.InternalMethods.{find_property}
use Rattle.es_ops.specs.Ledger.{Stop, Budget, Depth, OutOf, NoHost}
use Rattle.es_ops.specs.Intrinsics.{PrintCell, ReadCell}
use Rattle.es_ops.specs.Events.{Make, perform, TheIntrinsic, reply}
use Rattle.es_ops.specs.Act.{Calls, Completion, NormalCompletion, ThrowCompletion, Ran, Ends, Halts, run, happened, returned}
use Rattle.es_ops.specs.Jobs.{run_first_job}
use Rattle.es_ops.specs.Host.{written, line_events}
use Rattle.es_ops.specs.ModuleGraph.{ModuleRecord, ModuleImport, ModuleExport, LocalExport, IndirectExport, Planned, Plan, Faulty, GraphFault, Print, Read, Resolution, OfHost, ExportOf, NotExported, Circular, plan, module_at, resolve_export}

-- ---- engines

-- What runs modules: their records; for each its top-level bindings in order, true for a const one; how its top-level
-- functions are made once all cells stand; its body; and how functions are called.
pub record Engine : Type 0 where
  pub modules : List ModuleRecord
  pub declared : (number : ℕ) → List Bool
  pub make_functions : (number : ℕ) → State → Ran
  pub body : (number : ℕ) → State → Ran
  pub calls : Calls

-- ---- the states of modules

abbrev pub state_of_module : World → (number : ℕ) → ModuleState
state_of_module w n = get_or w.modules n NotEvaluated

abbrev pub with_module_state : (number : ℕ) → ModuleState → State → State
with_module_state n m s = record s { world = record s.world { modules = set s.world.modules n m } }

abbrev pub is_evaluated : ModuleState → Bool
is_evaluated NotEvaluated = false
is_evaluated (SetUp cells) = false
is_evaluated _ = true

-- a module's own bindings among its exports, in their order
abbrev pub local_bindings : List ModuleExport → List ℕ
local_bindings [] = []
local_bindings (LocalExport name binding ∷ rest) = binding ∷ local_bindings rest
local_bindings (IndirectExport name request asked ∷ rest) = local_bindings rest

abbrev pub bindings_of : Option ModuleRecord → List ℕ
bindings_of None = []
bindings_of (Some m) = local_bindings m.exports

abbrev pub local_bindings_of : List ModuleRecord → (number : ℕ) → List ℕ
local_bindings_of ms n = bindings_of (module_at ms n)

-- the cell of an export, by its place among the module's own
abbrev pub export_cell_in : List ℕ → ModuleState → (place : ℕ) → ℕ
export_cell_in bindings (SetUp cells) place = get_or cells (get_or bindings place 0) 0
export_cell_in bindings (Evaluated exports) place = get_or exports place 0
export_cell_in bindings (Preloaded exports) place = get_or exports place 0
export_cell_in bindings NotEvaluated place = 0

-- the cell of a binding that is imported; what resolves to nothing was refused by the plan
abbrev pub cell_of_resolution : List ModuleRecord → World → Resolution → ℕ
cell_of_resolution ms w (OfHost Print) = reply (TheIntrinsic PrintCell) w
cell_of_resolution ms w (OfHost Read) = reply (TheIntrinsic ReadCell) w
cell_of_resolution ms w (ExportOf n place) = export_cell_in (local_bindings_of ms n) (state_of_module w n) place
cell_of_resolution ms w other = 0

abbrev pub imported_cells : List ModuleRecord → World → List ModuleImport → List ℕ
imported_cells ms w imports = map (λ i. cell_of_resolution ms w (resolve_export ms i.request i.name)) imports

-- A module whose body ran keeps the cells of its exports alone.
abbrev pub evaluated_state : List ℕ → ModuleState → ModuleState
evaluated_state bindings (SetUp cells) = Evaluated (map (λ b. get_or cells b 0) bindings)
evaluated_state bindings m = m

abbrev pub evaluated : Engine → (number : ℕ) → State → State
evaluated e n s = with_module_state n (evaluated_state (local_bindings_of e.modules n) (state_of_module s.world n)) s

abbrev pub preloaded_state : ModuleState → ModuleState
preloaded_state (Evaluated exports) = Preloaded exports
preloaded_state m = m

-- the records as a world's states have them: a module is new until it is evaluated
abbrev pub seen_from : ℕ → World → List ModuleRecord → List ModuleRecord
seen_from n w [] = []
seen_from n w (m ∷ ms) = record m { is_new = not (is_evaluated (state_of_module w n)) } ∷ seen_from (suc n) w ms

-- ---- set-up: all cells of the plan's modules, then all functions (own order)

abbrev pub with_cells : List Bool → (made : List ℕ) → State → (List ℕ → State → Ran) → Ran
with_cells [] made s k = k made s
with_cells (const ∷ rest) made s k =
    happened (perform (Make (ACell (record { value = None; const = const }))) s.world) s (λ n t. with_cells rest (made ++ n ∷ []) t k)

abbrev pub all_cells : Engine → (order : List ℕ) → State → (State → Ran) → Ran
all_cells e [] s k = k s
all_cells e (n ∷ ns) s k = with_cells (e.declared n) [] s (λ cells t. all_cells e ns (with_module_state n (SetUp cells) t) k)

abbrev pub all_functions : Engine → (order : List ℕ) → State → Ran
all_functions e [] s = Ends (NormalCompletion Undefined) s
all_functions e (n ∷ ns) s = returned (e.make_functions n s) (λ v t. all_functions e ns t)

unfoldable pub set_up : Engine → (order : List ℕ) → State → Ran
set_up e order s = all_cells e order s (all_functions e order)

-- ---- bodies, one after another

abbrev pub all_bodies : Engine → (order : List ℕ) → State → Ran
all_bodies e [] s = Ends (NormalCompletion Undefined) s
all_bodies e (n ∷ ns) s = returned (e.body n s) (λ v t. all_bodies e ns (evaluated e n t))

unfoldable pub evaluate : Engine → (order : List ℕ) → State → Ran
evaluate e order s = returned (set_up e order s) (λ v t. all_bodies e order t)

-- ---- the text of a value in the line of an end, for which no script runs

-- the first property of that name along the prototype chain, where it is a data property that holds a string
abbrev pub string_or : Text → Content → Text
string_or absent (Data (String t) writable) = t
string_or absent content = absent

abbrev pub held_text : Option Property → (absent : Text) → Text
held_text None absent = absent
held_text (Some p) absent = string_or absent p.content

abbrev pub joined : (name message : Text) → Text
joined name [] = name
joined name (unit ∷ units) = name ++ codes ": " ++ unit ∷ units

abbrev pub text_of_boolean : Bool → Text
text_of_boolean true = codes "true"
text_of_boolean false = codes "false"

abbrev pub told_text : Store → Value → Text
told_text s Undefined = codes "undefined"
told_text s Null = codes "null"
told_text s (Boolean b) = text_of_boolean b
told_text s (Number n) = text_of_number n
told_text s (String t) = t
told_text s (Object n) =
    joined (held_text (find_property s (Named (codes "name")) n) (codes "object")) (held_text (find_property s (Named (codes "message")) n) [])

-- ---- preloads

-- why a set is refused; a preload is named by the list of the manifest
pub data Refusal : Type 0 where
  OfGraph : GraphFault → Refusal
  PreloadThrew : (preload text : Text) → Refusal
  PreloadHostCall : (preload : Text) → Refusal
  PreloadStopped : (preload : Text) → Stop → Refusal
  PreloadJobLeft : Refusal
  PreloadRejectionLeft : Refusal

pub data Preloading : Type 0 where
  Ready : State → Preloading
  Refused : Refusal → Preloading

abbrev pub preload_ended : (preload : Text) → Ran → (State → Preloading) → Preloading
preload_ended preload (Ends (NormalCompletion v) s) next = next s
preload_ended preload (Ends (ThrowCompletion v) s) next = Refused (PreloadThrew preload (told_text s.world.heap.store v))
preload_ended preload (Halts NoHost s) next = Refused (PreloadHostCall preload)
preload_ended preload (Halts stop s) next = Refused (PreloadStopped preload stop)

abbrev pub preload_planned : Engine → (preload : Text) → Planned → State → (State → Preloading) → Preloading
preload_planned e preload (Faulty fault) s next = Refused (OfGraph fault)
preload_planned e preload (Plan order) s next = preload_ended preload (evaluate e order s) next

abbrev pub all_preloads : Engine → List Text → State → Preloading
all_preloads e [] s = Ready s
all_preloads e (preload ∷ rest) s = preload_planned e preload (plan (seen_from 0 s.world e.modules) preload) s (all_preloads e rest)

abbrev pub kept : State → State
kept s = record s { world = record s.world { modules = map preloaded_state s.world.modules } }

-- nothing may wait behind the last preload
abbrev pub with_nothing_left : List Job → (rejections : List ℕ) → State → Preloading
with_nothing_left (job ∷ jobs) rejections s = Refused PreloadJobLeft
with_nothing_left [] (n ∷ ns) s = Refused PreloadRejectionLeft
with_nothing_left [] [] s = Ready (kept s)

abbrev pub all_evaluated : Preloading → Preloading
all_evaluated (Refused refusal) = Refused refusal
all_evaluated (Ready s) = with_nothing_left s.world.heap.jobs s.world.rejections s

-- the preloads in their order, with no host and one meter for all, and nothing left behind them
unfoldable pub preloaded : Engine → (preloads : List Text) → State → Preloading
preloaded e preloads s = all_evaluated (all_preloads e preloads s)

-- ---- main and its jobs

pub data Outcome : Type 0 where
  Finished : State → Outcome  -- the body ran, and so did the jobs so far
  Threw : Value → State → Outcome
  Stopped : Stop → State → Outcome

abbrev pub outcome : Ran → Outcome
outcome (Ends (NormalCompletion v) s) = Finished s
outcome (Ends (ThrowCompletion v) s) = Threw v s
outcome (Halts stop s) = Stopped stop s

pub data Started : Type 0 where
  Starts : Outcome → Started
  NoPlan : GraphFault → Started

abbrev pub started_by : Engine → Planned → State → Started
started_by e (Faulty fault) s = NoPlan fault
started_by e (Plan order) s = Starts (outcome (evaluate e order s))

-- a main that is evaluated has nothing to do
unfoldable pub started : Engine → (main : Text) → State → Started
started e main s = started_by e (plan (seen_from 0 s.world e.modules) main) s

-- Each job takes a unit of the meter, so that no more than these and one come.
abbrev pub after_job : Ran → (State → Outcome) → Outcome
after_job (Ends c s) next = next s
after_job (Halts stop s) next = Stopped stop s

abbrev pub first_job_then : List Job → Calls → State → (State → Outcome) → Outcome
first_job_then [] calls s next = Finished s
first_job_then (job ∷ jobs) calls s next = after_job (run calls run_first_job s) next

abbrev pub jobs_within : (most : ℕ) → Engine → State → Outcome
jobs_within zero e s = Finished s
jobs_within (suc most) e s = first_job_then s.world.heap.jobs e.calls s (jobs_within most e)

abbrev pub gone_from : Engine → (most : ℕ) → Outcome → Outcome
gone_from e most (Finished s) = jobs_within most e s
gone_from e most o = o

-- all jobs that come, or the first k of them
unfoldable pub gone : Engine → (k : Option ℕ) → Outcome → Outcome
gone e (Some k) o = gone_from e k o
gone e None (Finished s) = jobs_within (suc s.meter) e s
gone e None o = o

-- ---- what is told

pub record Told : Type 0 where
  pub status : ℕ
  pub bytes : List ℕ

abbrev pub name_of_full : Full → Text
name_of_full Slots = codes "slots"
name_of_full Units = codes "units"
name_of_full Names = codes "names"

-- Main has a host.
abbrev pub name_of_stop : Stop → Text
name_of_stop Budget = codes "budget"
name_of_stop Depth = codes "depth"
name_of_stop (OutOf full) = name_of_full full
name_of_stop NoHost = codes "host"

abbrev pub lines : List Text → List TraceEvent
lines [] = []
lines (text ∷ texts) = line_events text ++ lines texts

abbrev pub with_lines : (status : ℕ) → State → List Text → Told
with_lines status s texts = record { status = status; bytes = written (s.world.trace ++ lines texts) }

abbrev pub reason_of : Class → Value
reason_of (Promise (Rejected v) reactions) = v
reason_of c = Undefined

abbrev pub rejection_lines : Store → List ℕ → List Text
rejection_lines s ns = map (λ n. codes "rejected: " ++ told_text s (reason_of (object_in s n).class)) ns

-- the value of main's default export, where it is a binding that has one
abbrev pub resolved_value : List ModuleRecord → World → Resolution → Option Value
resolved_value ms w NotExported = None
resolved_value ms w Circular = None
resolved_value ms w r = (cell_in w.heap.store (cell_of_resolution ms w r)).value

abbrev pub default_export : Engine → (main : Text) → State → Option Value
default_export e main s = resolved_value e.modules s.world (resolve_export e.modules main (codes "default"))

-- told where it is a primitive other than undefined
abbrev pub result_lines : Store → Option Value → List Text
result_lines s None = []
result_lines s (Some Undefined) = []
result_lines s (Some (Object n)) = []
result_lines s (Some v) = (codes "result: " ++ told_text s v) ∷ []

abbrev pub told_at_end : State → (result : Option Value) → (rejections : List ℕ) → Told
told_at_end s result [] = with_lines 0 s (result_lines s.world.heap.store result)
told_at_end s result (n ∷ ns) = with_lines 1 s (rejection_lines s.world.heap.store (n ∷ ns))

unfoldable pub told : Engine → (main : Text) → Outcome → Told
told e main (Stopped stop s) = with_lines 5 s ((codes "stopped: " ++ name_of_stop stop) ∷ [])
told e main (Threw v s) = with_lines 1 s ((codes "uncaught: " ++ told_text s.world.heap.store v) ∷ [])
told e main (Finished s) = told_at_end s (default_export e main s) s.world.rejections

-- ---- preloads, main and its jobs

-- Main starts with no counts. The limit of names is less those that are known, the preloads' new ones among them.
abbrev pub for_main : Limits → (input : List ℕ) → State → State
for_main limits input s = record s {
  meter = limits.budget;
  world = record s.world {
    input = Some input;
    heap = record s.world.heap { ledger = record { used = nothing; room = room_of limits s.world.heap.names; first_costs = costs_at_start limits.first_writes s.world.heap.store } };
  };
}

pub data Ending : Type 0 where
  Tells : Told → Ending
  Refuses : Refusal → Ending

abbrev pub ending : Engine → (main : Text) → Started → Ending
ending e main (Starts outcome) = Tells (told e main (gone e None outcome))
ending e main (NoPlan fault) = Refuses (OfGraph fault)

-- main and its jobs from a state, such as the one that an image holds
unfoldable pub ran : Engine → (main : Text) → State → Ending
ran e main s = ending e main (started e main s)

abbrev pub main_after : Engine → (main : Text) → (State → State) → Preloading → Ending
main_after e main prepared (Ready s) = ran e main (prepared s)
main_after e main prepared (Refused refusal) = Refuses refusal

-- from the state of a start on, whose limits are those of the preloads
unfoldable pub boot : Engine → (preloads : List Text) → (start : State) → (main : Text) → (input : List ℕ) → Limits → Ending
boot e preloads start main input limits = main_after e main (for_main limits input) (preloaded e preloads start)
