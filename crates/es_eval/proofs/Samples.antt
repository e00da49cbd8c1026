-- A small world for the rows, and ways to look at what an evaluation came to.
use Rattle.std.proofs.Common.{ℕ, true, false, List, [], ◌∷◌, Option, Some, None, pos, codes}
use Rattle.js_value.specs.Value.{Value, Number, String, Object, Text, same_text}
use Rattle.js_value.specs.Store.{Thing, AnObject, ACell, Ordinary, Property, Content, Data, Store, found, object_in, cell_in, mark_in, own_property, with_property, without_property, is_frozen}
use Rattle.js_value.specs.declared.counts.Room.{Room}
use Rattle.js_value.specs.Literal.{literal_number, digits_number}
use Rattle.js_value.specs.Numeral.{is_white_space}
use Rattle.es_model.specs.declared.names.Identifier.{Identifier}
use Rattle.es_model.specs.declared.kinds.Semi.TheVariants as semi
use Rattle.es_model.specs.Tree as t
use Rattle.es_model.specs.Tree.{Tree}
use Rattle.es_model.specs.Scopes.{gather}
use Rattle.es_model.specs.Functions.{functions, writes_constructor}
use Rattle.es_model.specs.FreeNames.{mentions, free, captured, places}
use Rattle.es_ops.specs.State.{State, NotEvaluated, nothing}
use Rattle.es_ops.specs.Ledger.{Stop, written}
use Rattle.es_ops.specs.Act.{Ran, Ends, Halts, NormalCompletion, ThrowCompletion, run}
use Rattle.es_ops.specs.Bindings.{initialize_cell, read_cell, write_cell, copy_cell, make_cell}
use Rattle.es_ops.specs.Boot.{Started, Starts, NoPlan, Outcome, Finished, set_up, evaluate, started, gone, default_export}
use Rattle.es_ops.specs.Calling.{is_constructor, may_be_called, may_be_entered, by_rules, construct, super_call, create_from_constructor, base_result, derived_result}
use Rattle.es_ops.specs.Conversions.{to_primitive, to_number, to_string, to_property_key, number_expected, text_expected, key_expected, loosely_equal_within, is_loosely_equal}
use Rattle.es_ops.specs.Errors.{make_error, raise, make_text, message_name}
use Rattle.es_ops.specs.Events.{reply, perform}
use Rattle.es_ops.specs.InternalMethods.{validate_and_apply_property_descriptor, define_own_property, delete_own_property, prevent_extensions, freeze, longest, property_from, find_property, on_chain, set_prototype_of, set_step, apply_method}
use Rattle.es_ops.specs.Jobs.{run_first_job, run_job}
use Rattle.es_ops.specs.Making.{make_method, make_function, make_class, make_derived_class, make_object, make_array, append, define_member, name_function}
use Rattle.es_ops.specs.Operators.{binary, unary, add, apply_numeric, compare, type_of, has_property_in, instance_of, to_text, join}
use Rattle.es_ops.specs.PropertyReads.{is_callable, property_value, get, has_property, get_v}
use Rattle.es_ops.specs.PropertyWrites.{define_own_property as define_with_length, define_property_or_throw, create_data_property, create_data_property_or_throw, ordinary_set, set_v, set_or_throw, put_value, delete_property_or_throw, delete_v}
use Rattle.es_ops.specs.References.{require_object_coercible, get_by_value, put_by_value, delete_by_value, key_by_value, ordinary_get, super_get, super_set}
use Rattle.es_eval.specs.ModuleTables.{ModuleTable, FunctionRow, module_table, sorts}
use Rattle.es_eval.specs.Completions.{Here, as_ran, body_value}
use Rattle.es_eval.specs.Environments.{Environment, Place, Own, Kept, Taken, Bound}
use Rattle.es_eval.specs.Evaluation.{meaning, turns, bodies, evaluator}
use Rattle.es_eval.specs.Boot.{engine, outer_calls}

-- ---- trees

abbrev pub named : ℕ → Text → Identifier
named at name = record { at = at; name = name }

-- a mention of a name; its place tells nothing
abbrev pub name : Text → Tree t.expression
name text = t.Name (named 0 text)

abbrev pub whole : ℕ → Tree t.expression
whole n = t.Number (pos n)

abbrev pub two : {s : t.Sort} → Tree s → Tree s → Tree (t.list s)
two first second = t.more first (t.more second t.none)

abbrev pub one : {s : t.Sort} → Tree s → Tree (t.list s)
one first = t.more first t.none

abbrev pub statement : Tree t.expression → Tree t.statement
statement form = t.Value form semi.Written

-- ---- the world: thirteen prototypes of the realm without properties, at 0 to 12, and then these things

abbrev pub plain : Value → Property
plain v = record { content = Data v true; enumerable = true; configurable = true }

abbrev pub ordinary : Option ℕ → List (Text × Property) → Thing
ordinary prototype named = AnObject (record { class = Ordinary; prototype = prototype; extensible = true; indexed = []; named = named })

abbrev pub blank : Thing
blank = ordinary None []

abbrev pub number : ℕ → Value
number n = Number (pos n)

-- 13 has the property a; 14 inherits from it; 15 is a const cell that holds 6, and 16 a cell without a value
abbrev pub store : Store
store =
    blank ∷ blank ∷ blank ∷ blank ∷ blank ∷ blank ∷ blank ∷ blank ∷ blank ∷ blank ∷ blank ∷ blank ∷ blank ∷
    ordinary None ((codes "a", plain (number 1)) ∷ []) ∷ ordinary (Some 13) [] ∷ ACell (record { value = Some (number 6); const = true }) ∷
    ACell (record { value = None; const = false }) ∷ []

abbrev pub ample : Room
ample = record { slots = 1000; units = 1000; names = 1000 }

abbrev pub state_of : List ModuleTable → (meter : ℕ) → State
state_of tables meter = record {
  world = record {
    heap = record {
      store = store;
      realm = 0 ∷ 1 ∷ 2 ∷ 3 ∷ 4 ∷ 5 ∷ 6 ∷ 7 ∷ 8 ∷ 9 ∷ 10 ∷ 11 ∷ 12 ∷ 13 ∷ [];
      names = codes "length" ∷ codes "name" ∷ codes "prototype" ∷ codes "constructor" ∷ codes "message" ∷ codes "a" ∷ codes "b" ∷ [];
      ledger = record { used = nothing; room = ample; first_costs = [] };
      jobs = [];
    };
    rejections = [];
    modules = NotEvaluated ∷ [];
    functions = sorts tables;
    trace = [];
    input = None;
  };
  meter = meter;
  depth = 0;
}

-- ---- what an evaluation came to: an error by its message

pub data Came : Type 0 where
  Gave : Value → Came
  Threw : Value → Came
  ThrewError : Text → Came
  Halted : Stop → Came

abbrev pub by_value : Value → (otherwise : Value) → Came
by_value (String text) otherwise = ThrewError text
by_value v otherwise = Threw otherwise

abbrev pub by_content : Content → Value → Came
by_content (Data message writable) v = by_value message v
by_content content v = Threw v

abbrev pub by_message : Option Property → Value → Came
by_message None v = Threw v
by_message (Some p) v = by_content p.content v

abbrev pub threw : Value → Store → Came
threw (Object n) s = by_message (found (same_text message_name) (object_in s n).named) (Object n)
threw v s = Threw v

abbrev pub came : Ran → Came
came (Ends (NormalCompletion v) s) = Gave v
came (Ends (ThrowCompletion v) s) = threw v s.world.heap.store
came (Halts stop s) = Halted stop

-- ---- forms in a body that has these bindings: x holds 5, c is const and holds 7, u has no value, o is 13 and p is 14; k is
-- kept in the cell 15, n in 16, and i is an import of the cell 15

abbrev pub bound : Text → Place → Bound
bound name place = record { name = name; place = place }

abbrev pub bindings : List Bound
bindings =
    bound (codes "x") (Own false 0) ∷ bound (codes "c") (Own true 1) ∷ bound (codes "u") (Own false 2) ∷ bound (codes "o") (Own true 3) ∷
    bound (codes "p") (Own true 4) ∷ bound (codes "k") (Kept 15) ∷ bound (codes "n") (Kept 16) ∷ bound (codes "i") (Taken 15) ∷ []

abbrev pub body_row : FunctionRow
body_row = record { form = None; number = 0; round = []; free = []; held = []; keeps_this = false }

abbrev pub empty_table : ModuleTable
empty_table = module_table (codes "m") t.none

abbrev pub environment : Environment
environment = record { names = bindings; table = empty_table; module_number = 0; row = body_row; function = 0; home = Some 14; target = None }

abbrev pub here_with : ℕ → Here
here_with meter = record {
  this = Some (Object 13);
  cells = Some (number 5) ∷ Some (number 7) ∷ None ∷ Some (Object 13) ∷ Some (Object 14) ∷ [];
  state = state_of (empty_table ∷ []) meter;
}

-- an expression
abbrev pub gives : Tree t.expression → Came
gives form = came (as_ran (meaning (evaluator (empty_table ∷ []) 20) form [] environment (here_with 20)))

-- statements, and what they return; with a meter
abbrev pub returns_within : ℕ → List (Tree t.statement) → Came
returns_within meter statements = came (as_ran (body_value (meaning (evaluator (empty_table ∷ []) meter) (t.listed statements) environment (here_with meter))))

abbrev pub returns : List (Tree t.statement) → Came
returns statements = returns_within 20 statements

-- ---- a module by itself: main's default export once no job is left

abbrev pub export_by : List ModuleTable → Outcome → Option Value
export_by tables (Finished s) = default_export (engine tables) (codes "m") s
export_by tables _ = None

abbrev pub export_of : List ModuleTable → Started → Option Value
export_of tables (Starts outcome) = export_by tables (gone (engine tables) None outcome)
export_of tables (NoPlan fault) = None

abbrev pub exported_by : List ModuleTable → Option Value
exported_by tables = export_of tables (started (engine tables) (codes "m") (state_of tables 50))

abbrev pub exports : List (Tree t.item) → Option Value
exports items = exported_by (module_table (codes "m") (t.listed items) ∷ [])

-- rows that name this compute through all definitions
unfoldable pub computing : Unit {0}
unfolding meaning turns bodies evaluator outer_calls module_table gather functions writes_constructor mentions free captured places started set_up evaluate gone binary unary add apply_numeric compare type_of has_property_in instance_of to_text join is_constructor may_be_called may_be_entered by_rules construct super_call create_from_constructor base_result derived_result require_object_coercible get_by_value put_by_value delete_by_value key_by_value ordinary_get super_get super_set make_method make_function make_class make_derived_class make_object make_array append define_member name_function initialize_cell read_cell write_cell copy_cell make_cell literal_number digits_number is_white_space object_in cell_in mark_in own_property with_property without_property is_frozen run to_primitive to_number to_string to_property_key number_expected text_expected key_expected loosely_equal_within is_loosely_equal make_error raise make_text reply perform validate_and_apply_property_descriptor define_own_property delete_own_property prevent_extensions freeze longest property_from find_property on_chain set_prototype_of set_step apply_method run_job run_first_job written is_callable property_value get has_property get_v define_with_length define_property_or_throw create_data_property create_data_property_or_throw ordinary_set set_v set_or_throw put_value delete_property_or_throw delete_v
computing = tt
