-- Making functions, methods, classes, arrays and objects, and giving functions their names (ECMA-262 10.2, 13.2, 15).
use Rattle.std.specs.Prelude.{ℕ, Bool, true, false, cond, nat_lt, List, [], ◌∷◌, ◌++◌, pos, Option, Some, None, codes}
use Rattle.js_value.specs.Value.{Value, Undefined, Number, String, Object, Text, Key, Index, Named}
use Rattle.js_value.specs.Number.{IsNumber}
use Rattle.js_value.specs.Order.{IsString}
use Rattle.js_value.specs.Store.{Content, Data, Property, Class, Array, ScriptFunction, ObjectRecord, AnObject, length_name}
use Rattle.es_ops.specs.Intrinsics.{ObjectPrototype, FunctionPrototype, ArrayPrototype}
use Rattle.es_ops.specs.InternalMethods.{PropertyDescriptor, no_fields, value_descriptor, DefineOwnProperty}
use Rattle.es_ops.specs.Messages.{InvalidArrayLength, NotAFunction, NotAConstructor, NotAnObject, PrimitiveExpected}
use Rattle.es_ops.specs.Events.{TheClass, TheOwnProperty, TheIntrinsic, Make, Apply, Attach, prototype_name}
use Rattle.es_ops.specs.Act.{Act, Ask, Do}
use Rattle.es_ops.specs.Errors.{raise, make_text, hidden}
use Rattle.es_ops.specs.Jobs.{fixed_data}
use Rattle.es_ops.specs.PropertyReads.{is_callable, get}
use Rattle.es_ops.specs.PropertyWrites.{create_data_property_or_throw, define_property_or_throw}
use Rattle.es_ops.specs.Conversions.{to_number, key_of_primitive, text_of_primitive}
use Rattle.es_ops.specs.Calling.{is_constructor, ordinary_object}

-- ---- functions

-- what a function's code says of it: its numbers, the name that is written, and how many parameters come before one is left out
pub record FunctionCode : Type 0 where
  pub module_number : ℕ
  pub function_number : ℕ
  pub name : Text
  pub parameters : ℕ

-- what it is named by is a String, and the count is a Number
pub record IsFunctionCode (code : FunctionCode) : Type 0 where
  pub name : IsString code.name
  pub parameters : IsNumber (pos code.parameters)

abbrev pub name_name : Text
name_name = codes "name"

-- `length` and `name` (10.2.9, 10.2.10)
abbrev pub first_properties : FunctionCode → List (Text × Property)
first_properties code = (length_name, fixed_data (Number (pos code.parameters))) ∷ (name_name, fixed_data (String code.name)) ∷ []

-- OrdinaryFunctionCreate (10.2.3)
abbrev pub function_record : FunctionCode → (home : Option ℕ) → (captured : List ℕ) → (prototype : ℕ) → List (Text × Property) → ObjectRecord
function_record code home captured prototype more = record {
  class = ScriptFunction code.module_number code.function_number home captured;
  prototype = Some prototype;
  extensible = true;
  indexed = [];
  named = first_properties code ++ more;
}

-- an arrow (15.3.4), which has no home object, and a method or accessor (15.4.4), whose home object is the object of its literal or class
unfoldable pub make_method : FunctionCode → (home : Option ℕ) → (captured : List ℕ) → (ℕ → Act) → Act
make_method code home captured k = Ask (TheIntrinsic FunctionPrototype) (λ p. Do (Make (AnObject (function_record code home captured p []))) k)

-- MakeConstructor (10.2.5): the property `prototype`, whose value stands once the prototype object is made
abbrev pub prototype_entry : (writable : Bool) → Text × Property
prototype_entry writable = (prototype_name, record { content = Data Undefined writable; enumerable = false; configurable = false })

-- the prototype object, with `constructor`
abbrev pub constructor_name : Text
constructor_name = codes "constructor"

abbrev pub prototype_object : (function : ℕ) → (prototype : Option ℕ) → ObjectRecord
prototype_object f prototype = record (ordinary_object prototype) { named = (constructor_name, hidden (Object f)) ∷ [] }

-- a function that is made, then its prototype object, each an event of its own
abbrev pub make_constructor : ObjectRecord → (prototype : Option ℕ) → (is_class : Bool) → ((function prototype : ℕ) → Act) → Act
make_constructor function prototype is_class k =
    Do (Make (AnObject function)) (λ f.
    Do (Make (AnObject (prototype_object f prototype))) (λ p.
    Do (Attach f p is_class) (λ _. k f p)))

-- a plain function (15.2.4)
unfoldable pub make_function : FunctionCode → (captured : List ℕ) → (ℕ → Act) → Act
make_function code captured k =
    Ask (TheIntrinsic FunctionPrototype) (λ p.
    Ask (TheIntrinsic ObjectPrototype) (λ o.
    make_constructor (function_record code None captured p (prototype_entry true ∷ [])) (Some o) false (λ f prototype. k f)))

-- ---- classes (15.7.14): the constructor, then its prototype object, which is the constructor's home object

abbrev pub make_class_of : FunctionCode → (captured : List ℕ) → (parent : ℕ) → (prototype : Option ℕ) → ((constructor prototype : ℕ) → Act) → Act
make_class_of code captured parent prototype k = make_constructor (function_record code None captured parent (prototype_entry false ∷ [])) prototype true k

unfoldable pub make_class : FunctionCode → (captured : List ℕ) → ((constructor prototype : ℕ) → Act) → Act
make_class code captured k = Ask (TheIntrinsic FunctionPrototype) (λ p. Ask (TheIntrinsic ObjectPrototype) (λ o. make_class_of code captured p (Some o) k))

-- step 8.g; own: null is no prototype
abbrev pub extend : FunctionCode → (captured : List ℕ) → (parent prototype : Value) → ((constructor prototype : ℕ) → Act) → Act
extend code captured (Object parent) (Object p) k = make_class_of code captured parent (Some p) k
extend code captured parent prototype k = raise NotAnObject

abbrev pub extend_constructor : FunctionCode → (captured : List ℕ) → (parent : Value) → ((constructor prototype : ℕ) → Act) → Act
extend_constructor code captured (Object parent) k = get parent (Named prototype_name) (λ p. extend code captured (Object parent) p k)
extend_constructor code captured v k = raise NotAConstructor

unfoldable pub make_derived_class : FunctionCode → (captured : List ℕ) → (parent : Value) → ((constructor prototype : ℕ) → Act) → Act
make_derived_class code captured parent k = is_constructor parent (λ constructor. cond constructor (extend_constructor code captured parent k) (raise NotAConstructor))

-- ---- objects and arrays (13.2.4, 13.2.5)

unfoldable pub make_object : (ℕ → Act) → Act
make_object k = Ask (TheIntrinsic ObjectPrototype) (λ p. Do (Make (AnObject (ordinary_object (Some p)))) k)

-- ArrayCreate (10.4.2.2) of length 0
abbrev pub empty_array : (prototype : ℕ) → ObjectRecord
empty_array p = record (ordinary_object (Some p)) { class = Array 0 true }

unfoldable pub make_array : (ℕ → Act) → Act
make_array k = Ask (TheIntrinsic ArrayPrototype) (λ p. Do (Make (AnObject (empty_array p))) k)

-- one more element. Own: only an array takes one, and not past its greatest index.
abbrev pub append_to : Class → ℕ → Value → Act → Act
append_to (Array length writable) n v k = cond (nat_lt length 4294967295) (create_data_property_or_throw n (Index length) v k) (raise InvalidArrayLength)
append_to c n v k = raise NotAnObject

unfoldable pub append : (array v : Value) → Act → Act
append (Object n) v k = Ask (TheClass n) (λ c. append_to c n v k)
append array v k = raise NotAnObject

-- ---- members (13.2.5.5, 15.4.5)

pub data MemberSort : Type 0 where
  DataMember : MemberSort
  GetterMember : MemberSort
  SetterMember : MemberSort

abbrev pub member_descriptor : MemberSort → (enumerable : Bool) → Value → PropertyDescriptor
member_descriptor DataMember enumerable v = record { value = Some v; writable = Some true; get = None; set = None; enumerable = Some enumerable; configurable = Some true }
member_descriptor GetterMember enumerable f = record no_fields { get = Some f; enumerable = Some enumerable; configurable = Some true }
member_descriptor SetterMember enumerable f = record no_fields { set = Some f; enumerable = Some enumerable; configurable = Some true }

-- a getter or setter is a function
abbrev pub member_function : MemberSort → Value → Act → Act
member_function DataMember v k = k
member_function sort v k = is_callable v (λ callable. cond callable k (raise NotAFunction))

abbrev pub define_on : ℕ → (sort : MemberSort) → (enumerable : Bool) → Key → Value → Act → Act
define_on n sort enumerable key v k = member_function sort v (define_property_or_throw to_number n key (member_descriptor sort enumerable v) k)

-- The key is a primitive. Own, for what no literal comes to: the object is tested, then the key, then the function.
unfoldable pub define_member : (sort : MemberSort) → (enumerable : Bool) → (object key v : Value) → Act → Act
define_member sort enumerable (Object n) (Object m) v k = raise PrimitiveExpected
define_member sort enumerable (Object n) key v k = define_on n sort enumerable (key_of_primitive key) v k
define_member sort enumerable object key v k = raise NotAnObject

-- ---- SetFunctionName (10.2.9) by a key that is computed

-- a text that is handed on costs nothing, and one that is made of a number or behind a prefix is a made text
abbrev pub name_of_key : MemberSort → (key : Value) → (Value → Act) → Act
name_of_key DataMember (Number n) k = make_text (text_of_primitive (Number n)) k
name_of_key DataMember key k = k (String (text_of_primitive key))
name_of_key GetterMember key k = make_text (codes "get " ++ text_of_primitive key) k
name_of_key SetterMember key k = make_text (codes "set " ++ text_of_primitive key) k

abbrev pub has_empty_name : Content → Bool
has_empty_name (Data (String []) writable) = true
has_empty_name c = false

abbrev pub name_by : Option Property → ℕ → MemberSort → (key : Value) → Act → Act
name_by None f sort key k = k
name_by (Some p) f sort key k = cond (has_empty_name p.content) (cond p.configurable (name_of_key sort key (λ name. Do (Apply f (DefineOwnProperty (Named name_name) (value_descriptor name))) (λ _. k))) k) k

abbrev pub name_callable : ℕ → MemberSort → (key : Value) → Act → Act
name_callable f sort (Object m) k = raise PrimitiveExpected
name_callable f sort key k = Ask (TheOwnProperty (Named name_name) f) (λ p. name_by p f sort key k)

-- what is no function, or has a name, stays as it is
unfoldable pub name_function : MemberSort → (key f : Value) → Act → Act
name_function sort key (Object f) k = is_callable (Object f) (λ callable. cond callable (name_callable f sort key k) k)
name_function sort key f k = k
