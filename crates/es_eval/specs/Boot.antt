-- Modules by evaluation: their bodies, the set-up of their functions, and calls from outside; the engine of a boot, and a boot
-- from the realm on (ECMA-262 16.2.1.6.4, 16.2.1.6.5, 9.3).
use Rattle.std.specs.Prelude.{ℕ, Bool, List, [], ◌∷◌, codes, ◌++◌, map, slice_get, Option, Some, None}
use Rattle.js_value.specs.Value.{Value, Undefined, Text}
use Rattle.es_model.specs.Tree as t
use Rattle.es_model.specs.Tree.{Tree}
use Rattle.es_model.specs.Scopes.{default_names}
use Rattle.es_model.specs.declared.names.Identifier.{Identifier}
use Rattle.es_ops.specs.State.{State, World, Limits, cells_of}
use Rattle.es_ops.specs.Act.{Give, Call, NormalCompletion, Ran, Ends, run}
use Rattle.es_ops.specs.ModuleGraph.{ModuleRecord}
use Rattle.es_ops.specs.Boot.{Engine, state_of_module, Ending, imported_cells, boot as boot_by}
use Rattle.es_rows.specs.Start.{start}
use Rattle.es_eval.specs.ModuleTables.{FunctionRow, ModuleTable, sorts}
use Rattle.es_eval.specs.Completions.{Here, Doing, ◌>>=◌, ◌>>◌, done, body_value, as_ran}
use Rattle.es_eval.specs.Environments.{Environment, outer_names, initialise_name, hoisted_by}
use Rattle.es_eval.specs.Operands.{new_function}
use Rattle.es_eval.specs.Evaluation.{calls, meaning, evaluator, here, environment_of, bind_kept_this}

-- ---- the cells of a body: those of its top-level bindings, then those of its imports

abbrev pub graphs : List ModuleTable → List ModuleRecord
graphs tables = map (λ m. m.graph) tables

abbrev pub top_cells : List ModuleTable → World → (number : ℕ) → ModuleTable → List ℕ
top_cells tables w n m = cells_of (state_of_module w n) ++ imported_cells (graphs tables) w m.graph.imports

abbrev pub top_environment : List ModuleTable → World → (number : ℕ) → ModuleTable → FunctionRow → Environment
top_environment tables w n m row = environment_of m n row 0 None (outer_names m.tops (top_cells tables w n m)) None

-- ---- top-level functions: each is made and put into its binding's cell

pub record TopFunction : Type 0 where
  pub name : Identifier
  pub function : Tree t.function
  pub given : Text  -- its name where it has none of its own

abbrev pub top_function : Text → Tree t.function → Identifier → TopFunction
top_function given function name = record { name = name; function = function; given = given }

abbrev pub top_functions_by : Tree t.item → List TopFunction
top_functions_by (t.ExportDeclaration statement) = map (λ h. top_function [] h.function h.name) (hoisted_by statement)
top_functions_by (t.ExportDefault at (t.DefaultFunction function) semi) = map (top_function (codes "default") function) (default_names at (t.DefaultFunction function))
top_functions_by (t.Plain statement) = map (λ h. top_function [] h.function h.name) (hoisted_by statement)
top_functions_by _ = []

abbrev pub top_functions : Tree (t.list t.item) → List TopFunction
top_functions t.none = []
top_functions (t.more item items) = top_functions_by item ++ top_functions items

abbrev pub put_top_functions : List TopFunction → Environment → Doing (Unit {0})
put_top_functions [] env = done
put_top_functions (one ∷ rest) env = new_function one.function one.given None env >>= (λ f. initialise_name env one.name.name f) >> put_top_functions rest env

-- ---- an engine

abbrev pub nothing_done : State → Ran
nothing_done s = Ends (NormalCompletion Undefined) s

abbrev pub with_row : Option FunctionRow → (FunctionRow → State → Ran) → State → Ran
with_row None f s = nothing_done s
with_row (Some row) f s = f row s

abbrev pub with_table : Option ModuleTable → (ModuleTable → FunctionRow → State → Ran) → State → Ran
with_table None f s = nothing_done s
with_table (Some m) f s = with_row (slice_get m.rows 0) (f m) s

abbrev pub constants_of : Option ModuleTable → List Bool
constants_of None = []
constants_of (Some m) = m.constants

module _ (tables : List ModuleTable) where
  abbrev pub make_functions_of : (number : ℕ) → ModuleTable → FunctionRow → State → Ran
  make_functions_of n m row s = as_ran (body_value (put_top_functions (top_functions m.items) (top_environment tables s.world n m row) (here row s)))

  -- A body's `this` is undefined (9.1.1.5.4).
  abbrev pub start_of_body : FunctionRow → State → Here
  start_of_body row s = record (here row s) { this = Some Undefined }

  abbrev pub body_of : (number : ℕ) → ModuleTable → FunctionRow → State → Ran
  body_of n m row s =
      as_ran (body_value ((bind_kept_this (evaluator tables s.meter) row.keeps_this (top_environment tables s.world n m row) >>= meaning (evaluator tables s.meter) m.items) (start_of_body row s)))

  unfoldable pub outer_calls : (f this : Value) → (arguments : List Value) → (target : Option Value) → State → Ran
  outer_calls f this arguments target s = run (calls (evaluator tables s.meter)) (Call f this arguments target Give) s

  abbrev pub engine : Engine
  engine = record {
    modules = graphs tables;
    declared = λ n. constants_of (slice_get tables n);
    make_functions = λ n s. with_table (slice_get tables n) (make_functions_of n) s;
    body = λ n s. with_table (slice_get tables n) (body_of n) s;
    calls = outer_calls;
  }

-- ---- a boot from the realm on; `names` are the texts that are names from the start

unfoldable pub boot : List ModuleTable → (names : List Text) → (preloads : List Text) → (of_preloads : Limits) → (main : Text) → (input : List ℕ) → Limits → Ending
boot tables names preloads of_preloads main input limits = boot_by (engine tables) preloads (start (sorts tables) names of_preloads) main input limits
