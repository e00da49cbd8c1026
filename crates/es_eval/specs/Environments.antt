-- Environments (ECMA-262 9.1): where the value of each name stands. A captured binding's cell is a thing of the store; any
-- other binding stands in the cells of its own body, beside the store (own).
use Rattle.std.specs.Prelude.{ℕ, Bool, true, false, cond, List, [], ◌∷◌, ◌++◌, map, get_or, set, Option, Some, None}
use Rattle.js_value.specs.Value.{Value, Undefined, same_text}
use Rattle.js_value.specs.Store.{ACell, cell_in}
use Rattle.es_model.specs.declared.names.Identifier.{Identifier}
use Rattle.es_model.specs.Tree as t
use Rattle.es_model.specs.Tree.{Tree, Text}
use Rattle.es_model.specs.Scopes.{Binding, Role, Imported, Inner}
use Rattle.es_model.specs.FreeNames.{place_of_binding}
use Rattle.es_ops.specs.Messages.{Message, NotDefined, NotInitialised, AssignmentToConstant}
use Rattle.es_ops.specs.Events.{Make}
use Rattle.es_ops.specs.State.{State}
use Rattle.es_ops.specs.Act.{Give, NormalCompletion, Ran, Ends}
use Rattle.es_ops.specs.Errors.{raise}
use Rattle.es_ops.specs.Bindings.{initialize_cell, read_cell, write_cell}
use Rattle.es_rows.specs.Realm.{global_names}
use Rattle.es_eval.specs.ModuleTables.{FunctionRow, ModuleTable, is_among}
use Rattle.es_eval.specs.Completions.{Normal, Doing, follow, ◌>>=◌, ◌>>◌, pure, done, acts, does}

-- ---- places

pub data Place : Type 0 where
  Own : (const : Bool) → (place : ℕ) → Place  -- among the body's own cells
  Kept : (cell : ℕ) → Place  -- a cell of the store
  Taken : (cell : ℕ) → Place  -- an import: a cell of the store that another module initialises
  Missing : Place

pub record Bound : Type 0 where
  pub name : Text
  pub place : Place

-- The environment of a form: its names, innermost first, and what is the same in all of a body: the module and its number,
-- the function's row and its object, its home object, and its new target.
pub record Environment : Type 0 where
  pub names : List Bound
  pub table : ModuleTable
  pub module_number : ℕ
  pub row : FunctionRow
  pub function : ℕ
  pub home : Option ℕ
  pub target : Option Value

abbrev pub place_in : List Bound → Text → Place
place_in [] name = Missing
place_in (one ∷ rest) name = cond (same_text name one.name) one.place (place_in rest name)

abbrev pub place_of_name : Environment → Text → Place
place_of_name env name = place_in env.names name

abbrev pub with_name : Text → Place → Environment → Environment
with_name name place env = record env { names = record { name = name; place = place } ∷ env.names }

-- `this` stands among the names without a text
abbrev pub this_name : Text
this_name = []

-- ---- what needs no call

abbrev pub no_calls : (function this : Value) → (arguments : List Value) → (target : Option Value) → State → Ran
no_calls f this arguments target s = Ends (NormalCompletion Undefined) s

abbrev pub raises : Message → Doing Value
raises message = acts no_calls (raise message)

-- ---- reads (GetBindingValue, 9.1.1.1.6)

abbrev pub initialised : Option Value → Doing Value
initialised (Some v) = pure v
initialised None = raises NotInitialised

-- a name that no binding has is a global one, or isn't defined
abbrev pub global_value : List (Text × Value) → Text → Doing Value
global_value [] name = raises NotDefined
global_value (one ∷ rest) name = cond (same_text name one.0) (pure one.1) (global_value rest name)

abbrev pub read_place : Place → Text → Doing Value
read_place (Own const place) name = λ h. initialised (get_or h.cells place None) h
read_place (Kept cell) name = acts no_calls (read_cell cell Give)
read_place (Taken cell) name = acts no_calls (read_cell cell Give)
read_place Missing name = global_value global_names name

abbrev pub read_name : Environment → Text → Doing Value
read_name env name = read_place (place_of_name env name) name

abbrev pub is_global : List (Text × Value) → Text → Bool
is_global [] name = false
is_global (one ∷ rest) name = cond (same_text name one.0) true (is_global rest name)

-- a name that `typeof` finds nothing for (13.5.3.1, step 2.a)
abbrev pub is_missing : Place → Text → Bool
is_missing Missing name = cond (is_global global_names name) false true
is_missing place name = false

-- ---- initialisation (InitializeBinding, 9.1.1.1.4)

abbrev pub set_own : (place : ℕ) → Option Value → Doing (Unit {0})
set_own place v = λ h. Normal tt (record h { cells = set h.cells place v })

abbrev pub nothing_given : Doing Value → Doing (Unit {0})
nothing_given p = p >> done

abbrev pub initialise_place : Place → Value → Doing (Unit {0})
initialise_place (Own const place) v = set_own place (Some v)
initialise_place (Kept cell) v = nothing_given (acts no_calls (initialize_cell cell v (Give Undefined)))
initialise_place (Taken cell) v = done
initialise_place Missing v = done

abbrev pub initialise_name : Environment → Text → Value → Doing (Unit {0})
initialise_name env name v = initialise_place (place_of_name env name) v

-- ---- writes (SetMutableBinding, 9.1.1.1.5): an import is never assigned to

abbrev pub written_own : Bool → ℕ → Value → Doing (Unit {0})
written_own true place v = nothing_given (raises AssignmentToConstant)
written_own false place v = set_own place (Some v)

abbrev pub write_place : Place → Value → Doing (Unit {0})
write_place (Own const place) v = λ h. follow (initialised (get_or h.cells place None) h) (λ old. written_own const place v)
write_place (Kept cell) v = nothing_given (acts no_calls (write_cell cell v (Give Undefined)))
write_place (Taken cell) v = nothing_given (raises AssignmentToConstant)
write_place Missing v = nothing_given (raises NotDefined)

abbrev pub write_name : Environment → Text → Value → Doing (Unit {0})
write_name env name v = write_place (place_of_name env name) v

-- ---- new bindings (CreateMutableBinding, CreateImmutableBinding): without a value

abbrev pub binding_of : Environment → Role → Identifier → Binding
binding_of env role name = record { name = name.name; at = name.at; role = role; lies = env.row.round }

abbrev pub make_cell : Bool → Doing ℕ
make_cell const = does (Make (ACell (record { value = None; const = const })))

abbrev pub own_place : Environment → Binding → ℕ
own_place env binding = place_of_binding binding env.row.held

abbrev pub bind_captured : (captured const : Bool) → Binding → Environment → Doing Environment
bind_captured true const binding env = make_cell const >>= (λ cell. pure (with_name binding.name (Kept cell) env))
bind_captured false const binding env =
    let place = own_place env binding in
    set_own place None >> pure (with_name binding.name (Own const place) env)

abbrev pub bind : Environment → (const : Bool) → Binding → Doing Environment
bind env const binding = bind_captured (is_among binding env.table.captured) const binding env

abbrev pub bind_name : Role → (const : Bool) → Identifier → Environment → Doing Environment
bind_name role const name env = bind env const (binding_of env role name)

-- ---- what stands at the entry of a list of statements: each let, const and class in the text's order, then each function,
-- then the functions themselves (14.2.3; own order)

pub record Declaration : Type 0 where
  pub const : Bool
  pub name : Identifier

pub record Hoisted : Type 0 where
  pub name : Identifier
  pub function : Tree t.function

abbrev pub lexical : Bool → Tree (t.list t.declarator) → List Declaration
lexical const t.none = []
lexical const (t.more (t.DeclaratorOf name value) rest) = record { const = const; name = name } ∷ lexical const rest

abbrev pub lexical_by : Tree t.statement → List Declaration
lexical_by (t.Declare const declarators semi) = lexical const declarators
lexical_by (t.ClassStatement (t.ClassOf at (Some name) parent members)) = record { const = false; name = name } ∷ []
lexical_by _ = []

abbrev pub lexical_in : Tree (t.list t.statement) → List Declaration
lexical_in t.none = []
lexical_in (t.more one rest) = lexical_by one ++ lexical_in rest

abbrev pub hoisted_by : Tree t.statement → List Hoisted
hoisted_by (t.FunctionStatement (t.FunctionOf at (Some name) kind parameters body)) =
    record { name = name; function = t.FunctionOf at (Some name) kind parameters body } ∷ []
hoisted_by _ = []

abbrev pub hoisted_in : Tree (t.list t.statement) → List Hoisted
hoisted_in t.none = []
hoisted_in (t.more one rest) = hoisted_by one ++ hoisted_in rest

abbrev pub lexical_in_cases : Tree (t.list t.case) → List Declaration
lexical_in_cases t.none = []
lexical_in_cases (t.more (t.CaseOf test body) rest) = lexical_in body ++ lexical_in_cases rest

abbrev pub hoisted_in_cases : Tree (t.list t.case) → List Hoisted
hoisted_in_cases t.none = []
hoisted_in_cases (t.more (t.CaseOf test body) rest) = hoisted_in body ++ hoisted_in_cases rest

abbrev pub bind_all : List Declaration → Environment → Doing Environment
bind_all [] env = pure env
bind_all (one ∷ rest) env = bind_name Inner one.const one.name env >>= bind_all rest

abbrev pub bind_functions : List Hoisted → Environment → Doing Environment
bind_functions [] env = pure env
bind_functions (one ∷ rest) env = bind_name Inner false one.name env >>= bind_functions rest

-- ---- fresh copies of a loop's bindings (CreatePerIterationEnvironment, 14.7.4.4): of those that are captured

abbrev pub copied_cell : ℕ → Doing ℕ
copied_cell cell = λ h. does (Make (ACell (cell_in h.state.world.heap.store cell))) h

abbrev pub replaced : Text → Place → List Bound → List Bound
replaced name place [] = []
replaced name place (one ∷ rest) = cond (same_text name one.name) (record one { place = place } ∷ rest) (one ∷ replaced name place rest)

abbrev pub with_place : Text → Place → Environment → Environment
with_place name place env = record env { names = replaced name place env.names }

abbrev pub copy_place : Text → Place → Environment → Doing Environment
copy_place name (Kept cell) env = copied_cell cell >>= (λ copy. pure (with_place name (Kept copy) env))
copy_place name place env = pure env

abbrev pub copy_all : List Text → Environment → Doing Environment
copy_all [] env = pure env
copy_all (name ∷ names) env = copy_place name (place_of_name env name) env >>= copy_all names

-- ---- the names of a function's body: its free ones, by the cells that it holds

abbrev pub outer_place : Bool → ℕ → Place
outer_place true cell = Taken cell
outer_place false cell = Kept cell

abbrev pub is_imported : Binding → Bool
is_imported binding = is_role (binding.role)
  where
    is_role : Role → Bool
    is_role Imported = true
    is_role _ = false

abbrev pub outer_names : List Binding → (cells : List ℕ) → List Bound
outer_names [] cells = []
outer_names (binding ∷ bindings) [] = record { name = binding.name; place = Missing } ∷ outer_names bindings []
outer_names (binding ∷ bindings) (cell ∷ cells) =
    record { name = binding.name; place = outer_place (is_imported binding) cell } ∷ outer_names bindings cells

-- the cells that a function takes when it is made: those of its free names
abbrev pub cell_of_place : Place → ℕ
cell_of_place (Own const place) = 0
cell_of_place (Kept cell) = cell
cell_of_place (Taken cell) = cell
cell_of_place Missing = 0

abbrev pub captured_cells : Environment → List Binding → List ℕ
captured_cells env free = map (λ binding. cell_of_place (place_of_name env binding.name)) free
