-- A small world for the rows, and ways to look at what a run came to.
use Rattle.std.proofs.Common.{ℕ, Bool, true, cond, List, [], ◌∷◌, Option, Some, None, slice_get, pos, codes, ◌==◌}
use Rattle.js_value.specs.Value.{Value, Undefined, Number, String, Object, Text}
use Rattle.js_value.specs.Store.{Thing, AnObject, ObjectRecord, Class, Ordinary, Array, BuiltInFunction, Property, Data, Accessor, Store}
use Rattle.js_value.specs.declared.counts.Room.{Room}
use Rattle.es_ops.specs.State.{World, State, nothing}
use Rattle.es_ops.specs.Ledger.{Stop}
use Rattle.es_ops.specs.Act.{Act, Ran, Ends, Halts, Calls, NormalCompletion, ThrowCompletion}
use Rattle.js_value.specs.Store.{object_in, cell_in, mark_in, own_property, with_property, without_property, is_frozen}
use Rattle.es_ops.specs.Act.{run}
use Rattle.es_ops.specs.Conversions.{to_primitive, to_number, to_string, to_property_key, number_expected, text_expected, key_expected, loosely_equal_within, is_loosely_equal}
use Rattle.es_ops.specs.Errors.{make_error, raise, make_text}
use Rattle.es_ops.specs.Events.{reply, perform}
use Rattle.es_ops.specs.InternalMethods.{validate_and_apply_property_descriptor, define_own_property, delete_own_property, prevent_extensions, freeze, longest, property_from, find_property, on_chain, set_prototype_of, set_step, apply_method}
use Rattle.es_ops.specs.Jobs.{fulfil_promise, reject_promise, resolve_promise, create_resolving_functions, call_resolve_function, call_reject_function, make_promise, perform_promise_then, promise_then, run_job, run_first_job}
use Rattle.es_ops.specs.Ledger.{written}
use Rattle.es_ops.specs.PropertyReads.{is_callable, property_value, get, has_property, get_v}
use Rattle.es_ops.specs.PropertyWrites.{define_own_property as define_with_length, define_property_or_throw, create_data_property, create_data_property_or_throw, ordinary_set, set_v, set_or_throw, put_value, delete_property_or_throw, delete_v}
use Rattle.es_ops.specs.Bindings.{initialize_cell, read_cell, write_cell, copy_cell, make_cell}
use Rattle.es_ops.specs.References.{require_object_coercible, get_by_value, put_by_value, delete_by_value, key_by_value, ordinary_get, super_get, super_set}
use Rattle.es_ops.specs.Operators.{binary, unary, add, apply_numeric, compare, type_of, has_property_in, instance_of, to_text, join}
use Rattle.es_ops.specs.Calling.{is_constructor, may_be_called, may_be_entered, by_rules, construct, super_call, create_from_constructor, base_result, derived_result}
use Rattle.es_ops.specs.Making.{make_method, make_function, make_class, make_derived_class, make_object, make_array, append, define_member, name_function}
use Rattle.es_ops.specs.HostCalls.{print, read}
use Rattle.js_value.specs.Literal.{literal_number, digits_number}
use Rattle.js_value.specs.Numeral.{is_white_space}

abbrev pub plain : Value → Property
plain v = record { content = Data v true; enumerable = true; configurable = true }

abbrev pub getter : Value → Property
getter f = record { content = Accessor f Undefined; enumerable = true; configurable = true }

abbrev pub setter : Value → Property
setter f = record { content = Accessor Undefined f; enumerable = true; configurable = true }

abbrev pub ordinary : Option ℕ → List (Text × Property) → ObjectRecord
ordinary prototype named = record { class = Ordinary; prototype = prototype; extensible = true; indexed = []; named = named }

abbrev pub array_of : List (ℕ × Property) → (length : ℕ) → (writable : Bool) → ObjectRecord
array_of indexed n writable = record { class = Array n writable; prototype = None; extensible = true; indexed = indexed; named = [] }

abbrev pub function : ℕ → ObjectRecord
function row = record { class = BuiltInFunction row; prototype = None; extensible = true; indexed = []; named = [] }

-- thirteen prototypes of the realm without properties, at 0 to 12, and then these things
abbrev pub blank : Thing
blank = AnObject (ordinary None [])

abbrev pub realm_of : List Thing → Store
realm_of things = blank ∷ blank ∷ blank ∷ blank ∷ blank ∷ blank ∷ blank ∷ blank ∷ blank ∷ blank ∷ blank ∷ blank ∷ blank ∷ things

abbrev pub places : List ℕ
places = 0 ∷ 1 ∷ 2 ∷ 3 ∷ 4 ∷ 5 ∷ 6 ∷ 7 ∷ 8 ∷ 9 ∷ 10 ∷ 11 ∷ 12 ∷ []

abbrev pub ample : Room
ample = record { slots = 1000; units = 1000; names = 1000 }

abbrev pub world_with : Room → List Thing → List ℕ → World
world_with room things first_costs = record {
  heap = record {
    store = realm_of things;
    realm = places;
    names = codes "length" ∷ codes "a" ∷ codes "b" ∷ codes "then" ∷ [];
    ledger = record { used = nothing; room = room; first_costs = first_costs };
    jobs = [];
  };
  rejections = [];
  modules = [];
  functions = [];
  trace = [];
  input = None;
}

abbrev pub world_of : List Thing → World
world_of things = world_with ample things []

abbrev pub with_store : World → Store → World
with_store w s = record w { heap = record w.heap { store = s } }

abbrev pub state_in : World → State
state_in w = record { world = w; meter = 100; depth = 0 }

-- the built-in functions of these rows: 1 gives its receiver, 2 throws 9, 3 gives 7, any other the text "1"
abbrev pub row_result : ℕ → (receiver : Value) → State → Ran
row_result row receiver s = cond (row == 1) (Ends (NormalCompletion receiver) s)
    (cond (row == 2) (Ends (ThrowCompletion (Number (pos 9))) s)
    (cond (row == 3) (Ends (NormalCompletion (Number (pos 7))) s) (Ends (NormalCompletion (String (codes "1"))) s)))

abbrev pub class_result : Class → (receiver : Value) → State → Ran
class_result (BuiltInFunction row) receiver s = row_result row receiver s
class_result c receiver s = Ends (NormalCompletion Undefined) s

abbrev pub thing_result : Option Thing → (receiver : Value) → State → Ran
thing_result (Some (AnObject o)) receiver s = class_result o.class receiver s
thing_result t receiver s = Ends (NormalCompletion Undefined) s

abbrev pub calls : Calls
calls (Object f) receiver arguments target s = thing_result (slice_get s.world.heap.store f) receiver s
calls f receiver arguments target s = Ends (NormalCompletion Undefined) s

abbrev pub runs : Act → List Thing → Ran
runs p things = run calls p (state_in (world_of things))

-- what a run came to
pub data Came : Type 0 where
  Gave : Value → Came
  Threw : Value → Came
  Stopped : Stop → Came

abbrev pub came : Ran → Came
came (Ends (NormalCompletion v) s) = Gave v
came (Ends (ThrowCompletion v) s) = Threw v
came (Halts stop s) = Stopped stop

abbrev pub world_after : Ran → World
world_after (Ends c s) = s.world
world_after (Halts stop s) = s.world

abbrev pub thing_after : Ran → ℕ → Option Thing
thing_after r n = slice_get (world_after r).heap.store n

abbrev pub used_after : Ran → Room
used_after r = (world_after r).heap.ledger.used

-- rows that name this compute through all definitions
unfoldable pub computing : Unit {0}
unfolding binary unary add apply_numeric compare type_of has_property_in instance_of to_text join is_constructor may_be_called may_be_entered by_rules construct super_call create_from_constructor base_result derived_result require_object_coercible get_by_value put_by_value delete_by_value key_by_value ordinary_get super_get super_set make_method make_function make_class make_derived_class make_object make_array append define_member name_function print read initialize_cell read_cell write_cell copy_cell make_cell literal_number digits_number is_white_space object_in cell_in mark_in own_property with_property without_property is_frozen run to_primitive to_number to_string to_property_key number_expected text_expected key_expected loosely_equal_within is_loosely_equal make_error raise make_text reply perform validate_and_apply_property_descriptor define_own_property delete_own_property prevent_extensions freeze longest property_from find_property on_chain set_prototype_of set_step apply_method fulfil_promise reject_promise resolve_promise create_resolving_functions call_resolve_function call_reject_function make_promise perform_promise_then promise_then run_job run_first_job written is_callable property_value get has_property get_v define_with_length define_property_or_throw create_data_property create_data_property_or_throw ordinary_set set_v set_or_throw put_value delete_property_or_throw delete_v
computing = tt
