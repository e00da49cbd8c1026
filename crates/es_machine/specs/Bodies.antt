-- Modules by the byte machine: their bodies, the set-up of their functions, and calls from outside; the engine of a boot.
use Rattle.std.specs.Prelude.{ℕ, Bool, true, List, [], ◌∷◌, ◌++◌, map, get_or, slice_get, Option, Some, None}
use Rattle.byte_code.specs.declared.records.FunctionCode.{FunctionCode}
use Rattle.byte_code.specs.declared.records.ModuleCode.{ModuleCode}
use Rattle.byte_code.specs.declared.records.Modules.{Modules}
use Rattle.byte_code.specs.declared.records.CodeHoist.{CodeHoist}
use Rattle.byte_code.specs.declared.records.CodeImport.{CodeImport}
use Rattle.byte_code.specs.declared.records.CodeExport.{CodeExport}
use Rattle.byte_code.specs.declared.records.CodeExport.TheVariants.{Local, From}
use Rattle.js_value.specs.Value.{Undefined, Object}
use Rattle.es_ops.specs.State.{State, World, cells_of}
use Rattle.es_ops.specs.Ledger.{Budget}
use Rattle.es_ops.specs.Act.{Act, Give, Call, NormalCompletion, Calls, Ran, Ends, Halts, returned, run}
use Rattle.es_ops.specs.Bindings.{initialize_cell}
use Rattle.es_ops.specs.Making.{make_function}
use Rattle.es_ops.specs.Jobs.{run_first_job}
use Rattle.es_ops.specs.ModuleGraph.{ModuleRecord, ModuleImport, ModuleExport, LocalExport, IndirectExport}
use Rattle.es_ops.specs.Boot.{Engine, state_of_module, imported_cells}
use Rattle.es_machine.specs.Tables.{name_in}
use Rattle.es_machine.specs.Frames.{Frame, Config, Running, Performing, Finished}
use Rattle.es_machine.specs.Instructions.{with_function}
use Rattle.es_machine.specs.ByteMachine.{BuiltIns, no_calls, steps}

-- ---- modules as their graph sees them; a world's states say which are new

abbrev pub import_of : Modules → CodeImport → ModuleImport
import_of table i = let record { «module» = source; name = name } = i in record { request = name_in table source; name = name_in table name }

abbrev pub export_of : Modules → CodeExport → ModuleExport
export_of table (Local name at) = LocalExport (name_in table name) at
export_of table (From name source asked) = IndirectExport (name_in table name) (name_in table source) (name_in table asked)

abbrev pub record_of : Modules → ModuleCode → ModuleRecord
record_of table m = record {
  name = name_in table m.name;
  is_new = true;
  requests = map (name_in table) m.requests;
  imports = map (import_of table) m.imports;
  exports = map (export_of table) m.exports;
}

abbrev pub records_of : Modules → List ModuleRecord
records_of table = map (record_of table) table.modules

-- ---- the cells of a body: those of its top-level bindings, then those of its imports

abbrev pub outer_cells : Modules → World → ℕ → ModuleCode → List ℕ
outer_cells table w n m = cells_of (state_of_module w n) ++ imported_cells (records_of table) w (map (import_of table) m.imports)

-- ---- bodies (ECMA-262 16.2.1.6.5, ExecuteModule)

abbrev pub no_code : FunctionCode
no_code = record { name = 0; kind = 5; parameters = 0; locals = 0; operands = 0; captures = []; handlers = []; code = [] }

abbrev pub body_frame : Modules → World → ℕ → ModuleCode → Frame
body_frame table w n m = record {
  module_number = n;
  code = get_or m.functions 0 no_code;
  function = 0;
  home = None;
  outer = outer_cells table w n m;
  target = None;
  this = Some Undefined;
  places = [];
  at = 0;
  stack = [];
}

-- ---- top-level functions (16.2.1.6.4, InitializeEnvironment, step 24): each is made and put into its binding's cell

abbrev pub hoist : Modules → Frame → CodeHoist → Act
hoist table f h = with_function table f h.function (λ kind code cells. make_function code cells (λ g. initialize_cell (get_or f.outer h.at 0) (Object g) (Give Undefined)))

abbrev pub hoist_all : Modules → Frame → List CodeHoist → State → Ran
hoist_all table f [] s = Ends (NormalCompletion Undefined) s
hoist_all table f (h ∷ hoists) s = returned (run no_calls (hoist table f h) s) (λ v. hoist_all table f hoists)

-- ---- an engine

abbrev pub with_module : Modules → ℕ → (otherwise : State → Ran) → (ModuleCode → State → Ran) → State → Ran
with_module table n otherwise f s = elim (slice_get table.modules n) [ None ↦ otherwise s | Some m ↦ f m s ]

abbrev pub declared_by : Option ModuleCode → List Bool
declared_by None = []
declared_by (Some m) = m.declared

-- nothing to do
abbrev pub nothing_done : State → Ran
nothing_done s = Ends (NormalCompletion Undefined) s

abbrev pub make_functions : Modules → ℕ → State → Ran
make_functions table n = with_module table n nothing_done (λ m s. hoist_all table (body_frame table s.world n m) m.hoisted s)

-- Own: what isn't done after the steps that are given has done nothing and stops. With enough steps valid code never comes to it.
abbrev pub outcome : State → Config → Ran
outcome before (Finished ran) = ran
outcome before config = Halts Budget before

module _ (table : Modules) (rows : BuiltIns) (most : ℕ) where
  abbrev pub outcome_of : State → Config → Ran
  outcome_of s config = outcome s (steps table rows most config)

  unfoldable pub body : ℕ → State → Ran
  body n = with_module table n nothing_done (λ m s. outcome_of s (Running (body_frame table s.world n m) [] s))

  -- a call from outside, by the rules of calling
  unfoldable pub calls : Calls
  calls f this arguments target s = outcome_of s (Performing (Call f this arguments target Give) [] s)

  -- the first job of the queue; the calls that it makes stand at depth 1
  unfoldable pub job : State → Ran
  job s = outcome_of s (Performing run_first_job [] s)

  -- with at most so many steps for each body and each call from outside
  abbrev pub engine : Engine
  engine = record {
    modules = records_of table;
    declared = λ n. declared_by (slice_get table.modules n);
    make_functions = make_functions table;
    body = body;
    calls = calls;
  }
