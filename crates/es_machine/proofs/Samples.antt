-- A small table and a small world for the rows, and ways to look at what a run came to.
use Rattle.std.proofs.Common.{ℕ, Bool, true, false, cond, List, [], ◌∷◌, ◌++◌, Option, Some, None, pos, codes, ◌==◌, flat_map}
use Rattle.byte_code.specs.declared.instruction.Op.{Op}
use Rattle.byte_code.specs.declared.instruction.Op.TheVariants.{Return}
use Rattle.byte_code.specs.declared.records.FunctionCode.{FunctionCode}
use Rattle.byte_code.specs.declared.records.CodeCapture.{CodeCapture}
use Rattle.byte_code.specs.declared.records.Modules.{Modules}
use Rattle.byte_code.specs.Instructions.{spelling}
use Rattle.js_value.specs.Value.{Value, Number, String, Object, Text, same_text}
use Rattle.js_value.specs.Store.{Thing, AnObject, ACell, Class, Ordinary, Array, BuiltInFunction, Property, Content, Data, Store, found, object_in, cell_in, mark_in, own_property, with_property, without_property, is_frozen}
use Rattle.js_value.specs.declared.counts.Room.{Room}
use Rattle.js_value.specs.Literal.{literal_number, digits_number}
use Rattle.js_value.specs.Numeral.{is_white_space}
use Rattle.es_ops.specs.State.{State, nothing}
use Rattle.es_ops.specs.Ledger.{Stop, written}
use Rattle.es_ops.specs.Act.{Give, Throw, Ran, Ends, Halts, NormalCompletion, ThrowCompletion, run}
use Rattle.es_ops.specs.Bindings.{initialize_cell, read_cell, write_cell, copy_cell, make_cell}
use Rattle.es_ops.specs.Calling.{is_constructor, may_be_called, may_be_entered, construct, super_call, create_from_constructor, base_result, derived_result}
use Rattle.es_ops.specs.Conversions.{to_primitive, to_number, to_string, to_property_key, number_expected, text_expected, key_expected, loosely_equal_within, is_loosely_equal}
use Rattle.es_ops.specs.Errors.{make_error, raise, make_text, message_name}
use Rattle.es_ops.specs.Events.{reply, perform}
use Rattle.es_ops.specs.InternalMethods.{validate_and_apply_property_descriptor, define_own_property, delete_own_property, prevent_extensions, freeze, longest, property_from, find_property, on_chain, set_prototype_of, set_step, apply_method}
use Rattle.es_ops.specs.Jobs.{run_first_job, run_job}
use Rattle.es_ops.specs.Making.{make_method, make_function, make_class, make_derived_class, make_object, make_array, append, define_member, name_function}
use Rattle.es_ops.specs.Operate.{operate}
use Rattle.es_ops.specs.Operators.{binary, unary, add, apply_numeric, compare, type_of, has_property_in, instance_of, to_text, join}
use Rattle.es_ops.specs.PropertyReads.{is_callable, property_value, get, has_property, get_v}
use Rattle.es_ops.specs.PropertyWrites.{define_own_property as define_with_length, define_property_or_throw, create_data_property, create_data_property_or_throw, ordinary_set, set_v, set_or_throw, put_value, delete_property_or_throw, delete_v}
use Rattle.es_ops.specs.References.{require_object_coercible, get_by_value, put_by_value, delete_by_value, key_by_value, ordinary_get, super_get, super_set}
use Rattle.es_machine.specs.Tables.{sorts_in}
use Rattle.es_machine.specs.Decoding.{fetch}
use Rattle.es_machine.specs.Frames.{Holds, Pointer, Frame, Running}
use Rattle.es_machine.specs.Instructions.{execute}
use Rattle.es_machine.specs.ByteMachine.{BuiltIns, step, steps}
use Rattle.es_machine.specs.Bodies.{outcome}

-- ---- the table: one module

abbrev pub assembled : List Op → List ℕ
assembled ops = flat_map spelling ops

abbrev pub code_with : (kind : ℕ) → (parameters : ℕ) → List CodeCapture → List Op → FunctionCode
code_with kind parameters captures ops = record { name = 3; kind = kind; parameters = parameters; locals = 9; operands = 9; captures = captures; handlers = []; code = assembled ops }

abbrev pub from_place : ℕ → CodeCapture
from_place x = record { outer = false; at = x }

abbrev pub from_outer : ℕ → CodeCapture
from_outer q = record { outer = true; at = q }

-- names: 1 is a, 2 is b, 3 the empty text, 4 is name
abbrev pub table_of : List FunctionCode → Modules
table_of functions = record {
  names = codes "a" ∷ codes "b" ∷ [] ∷ codes "name" ∷ [];
  modules = record { name = 1; state = 0; requests = []; imports = []; exports = []; declared = []; hoisted = []; functions = functions; names = [] } ∷ [];
}

-- ---- the world: thirteen prototypes of the realm without properties, at 0 to 12, and then these things

abbrev pub plain : Value → Property
plain v = record { content = Data v true; enumerable = true; configurable = true }

abbrev pub ordinary : Option ℕ → List (Text × Property) → Thing
ordinary prototype named = AnObject (record { class = Ordinary; prototype = prototype; extensible = true; indexed = []; named = named })

abbrev pub with_class : Class → Option ℕ → List (Text × Property) → Thing
with_class class prototype named = AnObject (record { class = class; prototype = prototype; extensible = true; indexed = []; named = named })

abbrev pub cell : Bool → Option Value → Thing
cell const value = ACell (record { value = value; const = const })

abbrev pub blank : Thing
blank = ordinary None []

abbrev pub realm_of : List Thing → Store
realm_of things = blank ∷ blank ∷ blank ∷ blank ∷ blank ∷ blank ∷ blank ∷ blank ∷ blank ∷ blank ∷ blank ∷ blank ∷ blank ∷ things

abbrev pub number : ℕ → Value
number n = Number (pos n)

-- 13 has the property a; 14 inherits from it; 15 gives its receiver, 16 throws 9; 17 is an array; cells: 18 holds 5, 19 and
-- 20 are const, 20 holds 6; 21 inherits nothing
abbrev pub first_things : List Thing
first_things =
    ordinary None ((codes "a", plain (number 1)) ∷ []) ∷ ordinary (Some 13) [] ∷ with_class (BuiltInFunction 1) None [] ∷ with_class (BuiltInFunction 2) None [] ∷
    with_class (Array 0 true) None [] ∷ cell false (Some (number 5)) ∷ cell true None ∷ cell true (Some (number 6)) ∷ blank ∷ []

abbrev pub ample : Room
ample = record { slots = 1000; units = 1000; names = 1000 }

abbrev pub state_with : Modules → List Thing → State
state_with table things = record {
  world = record {
    heap = record {
      store = realm_of (first_things ++ things);
      realm = 0 ∷ 1 ∷ 2 ∷ 3 ∷ 4 ∷ 5 ∷ 6 ∷ 7 ∷ 8 ∷ 9 ∷ 10 ∷ 11 ∷ 12 ∷ 13 ∷ [];
      names = codes "length" ∷ codes "name" ∷ codes "prototype" ∷ codes "constructor" ∷ codes "message" ∷ codes "a" ∷ codes "b" ∷ [];
      ledger = record { used = nothing; room = ample; first_costs = [] };
      jobs = [];
    };
    rejections = [];
    modules = [];
    functions = sorts_in table;
    trace = [];
    input = None;
  };
  meter = 20;
  depth = 0;
}

-- the built-in functions of these rows: 1 gives its receiver, any other throws 9
abbrev pub rows : BuiltIns
rows row function target this arguments = cond (row == 1) (Give this) (Throw (number 9))

-- places: 0 to 4 hold things 13 to 17, 5 points to the cell 18, 6 to 19, 7 to 20, 8 is uninitialised
abbrev pub frame_of : FunctionCode → Frame
frame_of code = record {
  module_number = 0;
  code = code;
  function = 21;
  home = Some 14;
  outer = 18 ∷ 19 ∷ 20 ∷ [];
  target = None;
  this = Some (Object 13);
  places = Holds (Object 13) ∷ Holds (Object 14) ∷ Holds (Object 15) ∷ Holds (Object 16) ∷ Holds (Object 17) ∷ Pointer 18 ∷ Pointer 19 ∷ Pointer 20 ∷ [];
  at = 0;
  stack = [];
}

-- ---- what a run came to: an error by its message

pub data Came : Type 0 where
  Gave : Value → Came
  Threw : Value → Came
  ThrewError : Text → Came
  Halted : Stop → Came

abbrev pub by_value : Value → (otherwise : Value) → Came
by_value (String text) otherwise = ThrewError text
by_value v otherwise = Threw otherwise

abbrev pub by_content : Content → Value → Came
by_content (Data message writable) v = by_value message v
by_content content v = Threw v

abbrev pub by_message : Option Property → Value → Came
by_message None v = Threw v
by_message (Some p) v = by_content p.content v

abbrev pub threw : Value → Store → Came
threw (Object n) s = by_message (found (same_text message_name) (object_in s n).named) (Object n)
threw v s = Threw v

abbrev pub came : Ran → Came
came (Ends (NormalCompletion v) s) = Gave v
came (Ends (ThrowCompletion v) s) = threw v s.world.heap.store
came (Halts stop s) = Halted stop

abbrev pub run_frame : List FunctionCode → List Thing → Frame → Ran
run_frame functions things f = let s = state_with (table_of functions) things in outcome s (steps (table_of functions) rows 200 (Running f [] s))

-- instructions in a plain function, and then a return
abbrev pub gives : List Op → Came
gives ops = came (run_frame [] [] (frame_of (code_with 0 0 [] (ops ++ Return ∷ []))))

-- rows that name this compute through all definitions
unfoldable pub computing : Unit {0}
unfolding fetch execute step steps operate binary unary add apply_numeric compare type_of has_property_in instance_of to_text join is_constructor may_be_called may_be_entered construct super_call create_from_constructor base_result derived_result require_object_coercible get_by_value put_by_value delete_by_value key_by_value ordinary_get super_get super_set make_method make_function make_class make_derived_class make_object make_array append define_member name_function initialize_cell read_cell write_cell copy_cell make_cell literal_number digits_number is_white_space object_in cell_in mark_in own_property with_property without_property is_frozen run to_primitive to_number to_string to_property_key number_expected text_expected key_expected loosely_equal_within is_loosely_equal make_error raise make_text reply perform validate_and_apply_property_descriptor define_own_property delete_own_property prevent_extensions freeze longest property_from find_property on_chain set_prototype_of set_step apply_method run_job run_first_job written is_callable property_value get has_property get_v define_with_length define_property_or_throw create_data_property create_data_property_or_throw ordinary_set set_v set_or_throw put_value delete_property_or_throw delete_v
computing = tt
