-- The internal methods of ordinary objects (ECMA-262 10.1) and arrays (10.4.2) that call no function. Each one answers
-- true or false and may write its own object; [[Get]] and [[Set]] come as far as the call of a getter or setter.
use Rattle.std.specs.Prelude.{ℕ, zero, suc, Bool, true, false, cond, not, ◌&&◌, ◌||◌, List, [], ◌∷◌, pos, nat_lt, nat_le, ◌==◌, Option, Some, None, is_some, unwrap_or, option_map}
use Rattle.std.specs.Option.{option_map_or}
use Rattle.js_value.specs.Value.{Value, Undefined, Number, Object, same_text, Key, Index, Named, is_index, text_of_key}
use Rattle.js_value.specs.Store.{Store, Content, Data, Accessor, Property, Class, Array, ObjectRecord, object_in, own_property, with_property, without_property, length_name}
use Rattle.es_ops.specs.Equality.{same_value, same_bool}

-- ---- property descriptors (6.2.6)

pub record PropertyDescriptor : Type 0 where
  pub value : Option Value
  pub writable : Option Bool
  pub get : Option Value
  pub set : Option Value
  pub enumerable : Option Bool
  pub configurable : Option Bool

abbrev pub no_fields : PropertyDescriptor
no_fields = record { value = None; writable = None; get = None; set = None; enumerable = None; configurable = None }

-- { [[Value]]: v }
abbrev pub value_descriptor : Value → PropertyDescriptor
value_descriptor v = record no_fields { value = Some v }

-- the descriptor of CreateDataProperty (7.3.5)
abbrev pub data_descriptor : Value → PropertyDescriptor
data_descriptor v = record { value = Some v; writable = Some true; get = None; set = None; enumerable = Some true; configurable = Some true }

-- IsAccessorDescriptor (6.2.6.1), IsDataDescriptor (6.2.6.2), IsGenericDescriptor (6.2.6.3)
abbrev pub is_accessor_descriptor : PropertyDescriptor → Bool
is_accessor_descriptor d = is_some d.get || is_some d.set

abbrev pub is_data_descriptor : PropertyDescriptor → Bool
is_data_descriptor d = is_some d.value || is_some d.writable

abbrev pub is_generic_descriptor : PropertyDescriptor → Bool
is_generic_descriptor d = not (is_accessor_descriptor d) && not (is_data_descriptor d)

abbrev pub has_fields : PropertyDescriptor → Bool
has_fields d = not (is_generic_descriptor d) || is_some d.enumerable || is_some d.configurable

abbrev pub is_accessor : Content → Bool
is_accessor (Accessor get set) = true
is_accessor (Data value writable) = false

-- ---- what a method answers, and the object that it leaves where it writes

pub record Outcome : Type 0 where
  pub answer : Bool
  pub written : Option ObjectRecord

abbrev pub refused : Outcome
refused = record { answer = false; written = None }

abbrev pub unchanged : Outcome
unchanged = record { answer = true; written = None }

abbrev pub wrote : ObjectRecord → Outcome
wrote o = record { answer = true; written = Some o }

-- ---- ValidateAndApplyPropertyDescriptor (10.1.6.3)

-- a field is there, and says otherwise
abbrev pub differs : Option Bool → Bool → Bool
differs None b = false
differs (Some a) b = not (same_bool a b)

abbrev pub differs_value : Option Value → Value → Bool
differs_value None v = false
differs_value (Some w) v = not (same_value w v)

-- steps 5.d and 5.e
abbrev pub forbidden_content : Content → PropertyDescriptor → Bool
forbidden_content (Accessor get set) d = differs_value d.get get || differs_value d.set set
forbidden_content (Data value true) d = false
forbidden_content (Data value false) d = differs d.writable false || differs_value d.value value

-- step 5: what a property that isn't configurable doesn't let a descriptor do
abbrev pub forbidden : Property → PropertyDescriptor → Bool
forbidden current d =
    differs d.configurable false  -- 5.a
    || differs d.enumerable current.enumerable  -- 5.b
    || (not (is_generic_descriptor d) && not (same_bool (is_accessor_descriptor d) (is_accessor current.content)))  -- 5.c
    || forbidden_content current.content d

-- steps 2.c and 2.d: absent fields are false or undefined
abbrev pub new_content : PropertyDescriptor → Content
new_content d = cond (is_accessor_descriptor d)
    (Accessor (unwrap_or d.get Undefined) (unwrap_or d.set Undefined))
    (Data (unwrap_or d.value Undefined) (unwrap_or d.writable false))

abbrev pub new_property : PropertyDescriptor → Property
new_property d = record { content = new_content d; enumerable = unwrap_or d.enumerable false; configurable = unwrap_or d.configurable false }

-- step 6: a property that turns from data to accessor (6.a) or back (6.b) begins anew, else each field is set (6.c)
abbrev pub applied_content : Content → PropertyDescriptor → Content
applied_content (Data value writable) d = cond (is_accessor_descriptor d) (new_content d) (Data (unwrap_or d.value value) (unwrap_or d.writable writable))
applied_content (Accessor get set) d = cond (is_data_descriptor d) (new_content d) (Accessor (unwrap_or d.get get) (unwrap_or d.set set))

abbrev pub applied : Property → PropertyDescriptor → Property
applied current d = record { content = applied_content current.content d; enumerable = unwrap_or d.enumerable current.enumerable; configurable = unwrap_or d.configurable current.configurable }

unfoldable pub validate_and_apply_property_descriptor : ObjectRecord → Key → PropertyDescriptor → Option Property → Outcome
validate_and_apply_property_descriptor o key d None = cond o.extensible (wrote (with_property o key (new_property d))) refused  -- 2
validate_and_apply_property_descriptor o key d (Some current) = cond (has_fields d)
    (cond (not current.configurable && forbidden current d) refused (wrote (with_property o key (applied current d))))  -- 5 to 7
    unchanged  -- 4

-- OrdinaryDefineOwnProperty (10.1.6.1)
abbrev pub ordinary_define_own_property : ObjectRecord → Key → PropertyDescriptor → Outcome
ordinary_define_own_property o key d = validate_and_apply_property_descriptor o key d (own_property o key)

-- ---- arrays (10.4.2)

-- a Number that an array's `length` can be
abbrev pub length_of_value : Value → Option ℕ
length_of_value (Number (pos n)) = cond (nat_lt n 4294967296) (Some n) None
length_of_value _ = None

-- ArraySetLength, step 17: elements are deleted from the highest index down to `new`, as far as they are configurable.
-- This is the length that comes of it.
abbrev pub lowest_length : ℕ → List (ℕ × Property) → ℕ
lowest_length new [] = new
lowest_length new (e ∷ es) = lowest_length (cond (not e.1.configurable && nat_le new e.0) (suc e.0) new) es

abbrev pub elements_below : ℕ → List (ℕ × Property) → List (ℕ × Property)
elements_below n [] = []
elements_below n (e ∷ es) = cond (nat_lt e.0 n) (e ∷ elements_below n es) (elements_below n es)

-- steps 15 to 19, where the ordinary define was accepted; own rule: where nothing changed, nothing is written
abbrev pub lowered : ObjectRecord → (old new reached : ℕ) → (writable : Bool) → Outcome
lowered o old new reached writable = record {
  answer = reached == new;
  written = cond (reached == old && writable) None (Some (record o { class = Array reached writable; indexed = elements_below reached o.indexed }));
}

abbrev pub set_length_to : ObjectRecord → (old : ℕ) → (writable : Bool) → PropertyDescriptor → (new : ℕ) → Outcome
set_length_to o old writable d new =
    cond (nat_le old new) (ordinary_define_own_property o (Named length_name) d)  -- 11
    (cond (writable && (ordinary_define_own_property o (Named length_name) d).answer)  -- 12, 15, 16
    (lowered o old new (lowest_length new o.indexed) (unwrap_or d.writable true))  -- 17 to 19
    refused)

-- ArraySetLength (10.4.2.4). Own rule: its caller has converted the value; another than a length is refused.
abbrev pub length_set_by : ObjectRecord → (old : ℕ) → (writable : Bool) → PropertyDescriptor → Option Value → Outcome
length_set_by o old writable d None = ordinary_define_own_property o (Named length_name) d  -- 1
length_set_by o old writable d (Some v) = option_map_or (set_length_to o old writable d) (length_of_value v) refused

abbrev pub array_set_length : ObjectRecord → (old : ℕ) → (writable : Bool) → PropertyDescriptor → Outcome
array_set_length o old writable d = length_set_by o old writable d d.value

-- step 2.j: a new index at or past the length raises it
abbrev pub raised : ℕ → Class → ObjectRecord → ObjectRecord
raised i (Array n writable) o = cond (nat_lt i n) o (record o { class = Array (suc i) writable })
raised i _ o = o

abbrev pub array_define_index : ObjectRecord → (length : ℕ) → (writable : Bool) → ℕ → PropertyDescriptor → Outcome
array_define_index o length writable i d = cond (nat_le length i && not writable) refused  -- 2.g
    (record { answer = defined.answer; written = option_map (raised i o.class) defined.written })
  where
    defined : Outcome
    defined = ordinary_define_own_property o (Index i) d

-- the array's [[DefineOwnProperty]] (10.4.2.1)
abbrev pub array_define_own_property : ObjectRecord → (length : ℕ) → (writable : Bool) → Key → PropertyDescriptor → Outcome
array_define_own_property o length writable (Index i) d = array_define_index o length writable i d
array_define_own_property o length writable key d = cond (same_text (text_of_key key) length_name)
    (array_set_length o length writable d)
    (ordinary_define_own_property o key d)

-- ---- [[DefineOwnProperty]]

abbrev pub define_by_class : Class → ObjectRecord → Key → PropertyDescriptor → Outcome
define_by_class (Array length writable) o key d = array_define_own_property o length writable key d
define_by_class _ o key d = ordinary_define_own_property o key d

-- own rules: no accessor has an index for its key, and a descriptor with fields of both kinds is refused
abbrev pub is_refused : Key → PropertyDescriptor → Bool
is_refused key d = is_accessor_descriptor d && (is_index key || is_data_descriptor d)

unfoldable pub define_own_property : ObjectRecord → Key → PropertyDescriptor → Outcome
define_own_property o key d = cond (is_refused key d) refused (define_by_class o.class o key d)

-- ---- [[Delete]]: OrdinaryDelete (10.1.10.1)

abbrev pub ordinary_delete : ObjectRecord → Key → Option Property → Outcome
ordinary_delete o key None = unchanged
ordinary_delete o key (Some p) = cond p.configurable (wrote (without_property o key)) refused

unfoldable pub delete_own_property : ObjectRecord → Key → Outcome
delete_own_property o key = ordinary_delete o key (own_property o key)

-- ---- [[PreventExtensions]]: OrdinaryPreventExtensions (10.1.4.1)

unfoldable pub prevent_extensions : ObjectRecord → Outcome
prevent_extensions o = wrote (record o { extensible = false })

-- ---- SetIntegrityLevel with level frozen (7.3.15): each own property is defined { [[Configurable]]: false }, a data
-- property { [[Configurable]]: false, [[Writable]]: false }, which no property refuses

abbrev pub fixed_content : Content → Content
fixed_content (Data value writable) = Data value false
fixed_content (Accessor get set) = Accessor get set

abbrev pub fixed_property : Property → Property
fixed_property p = record { content = fixed_content p.content; enumerable = p.enumerable; configurable = false }

abbrev pub all_fixed : {K : Type 0} → List (K × Property) → List (K × Property)
all_fixed [] = []
all_fixed (e ∷ es) = (e.0, fixed_property e.1) ∷ all_fixed es

abbrev pub fixed_class : Class → Class
fixed_class (Array length writable) = Array length false
fixed_class c = c

unfoldable pub freeze : ObjectRecord → Outcome
freeze o = wrote (record { class = fixed_class o.class; prototype = o.prototype; extensible = false; indexed = all_fixed o.indexed; named = all_fixed o.named })

-- ---- along the prototype chain

-- more than the things of any store
unfoldable pub longest : ℕ
longest = 4294967296

abbrev pub or_later : Option Property → Option Property → Option Property
or_later (Some p) later = Some p
or_later None later = later

-- The property of a key on an object or along its prototype chain: steps 1 and 2 of OrdinaryGet (10.1.8.1), step 1 of
-- OrdinarySetWithOwnDescriptor (10.1.9.2), and all of OrdinaryHasProperty (10.1.7.1).
unfoldable pub property_from : (fuel : ℕ) → Store → Key → Option ℕ → Option Property
property_from zero s key n = None
property_from (suc fuel) s key None = None
property_from (suc fuel) s key (Some n) = or_later (own_property (object_in s n) key) (property_from fuel s key (object_in s n).prototype)

unfoldable pub find_property : Store → Key → ℕ → Option Property
find_property s key n = property_from longest s key (Some n)

-- [[HasProperty]]
abbrev pub has_property : Store → Key → ℕ → Bool
has_property s key n = is_some (find_property s key n)

-- An object is on the chain that begins there. A chain that is longer than any store's counts as one that comes back.
unfoldable pub on_chain : (fuel : ℕ) → Store → ℕ → Option ℕ → Bool
on_chain fuel s n None = false
on_chain zero s n (Some p) = true
on_chain (suc fuel) s n (Some p) = (p == n) || on_chain fuel s n (object_in s p).prototype

-- ---- [[SetPrototypeOf]]: OrdinarySetPrototypeOf (10.1.2.1)

abbrev pub same_prototype : Option ℕ → Option ℕ → Bool
same_prototype None None = true
same_prototype (Some p) (Some q) = p == q
same_prototype _ _ = false

unfoldable pub set_prototype_of : Store → ℕ → Option ℕ → ObjectRecord → Outcome
set_prototype_of s n v o =
    cond (same_prototype v o.prototype) unchanged  -- 1, 2
    (cond (not o.extensible || on_chain longest s n v) refused  -- 3 to 7
    (wrote (record o { prototype = v })))  -- 8, 9

-- ---- [[Set]]: OrdinarySetWithOwnDescriptor (10.1.9.2), as far as it calls nothing

pub data SetStep : Type 0 where
  RefusesSet : SetStep
  CallsSetter : Value → SetStep
  DefinesOn : (receiver : ℕ) → PropertyDescriptor → SetStep

-- steps 2.c to 2.e, by the property that the receiver has
abbrev pub set_own_content : ℕ → Content → Value → SetStep
set_own_content receiver (Accessor get set) v = RefusesSet  -- 2.d.i
set_own_content receiver (Data old writable) v = cond writable (DefinesOn receiver (value_descriptor v)) RefusesSet  -- 2.d.ii to 2.d.iv

abbrev pub set_own : ℕ → Option Property → Value → SetStep
set_own receiver None v = DefinesOn receiver (data_descriptor v)  -- 2.e
set_own receiver (Some p) v = set_own_content receiver p.content v

abbrev pub set_data : Store → Key → Value → (receiver : Value) → SetStep
set_data s key v (Object r) = set_own r (own_property (object_in s r) key) v
set_data s key v _ = RefusesSet  -- 2.b

abbrev pub set_by_setter : Value → SetStep
set_by_setter Undefined = RefusesSet  -- 5
set_by_setter f = CallsSetter f  -- 6

abbrev pub set_content : Store → Key → Value → (receiver : Value) → Content → SetStep
set_content s key v receiver (Data old writable) = cond writable (set_data s key v receiver) RefusesSet  -- 2.a
set_content s key v receiver (Accessor get set) = set_by_setter set  -- 3 to 7

-- by the property that was found along the chain
unfoldable pub set_step : Store → Key → Value → (receiver : Value) → Option Property → SetStep
set_step s key v receiver None = set_data s key v receiver  -- 1.c
set_step s key v receiver (Some p) = set_content s key v receiver p.content

-- ---- all that writes an object, and what it answers and leaves

pub data Method : Type 0 where
  DefineOwnProperty : Key → PropertyDescriptor → Method
  Delete : Key → Method
  PreventExtensions : Method
  SetPrototypeOf : Option ℕ → Method
  Freeze : Method

unfoldable pub apply_method : Method → Store → ℕ → ObjectRecord → Outcome
apply_method (DefineOwnProperty key d) s n o = define_own_property o key d
apply_method (Delete key) s n o = delete_own_property o key
apply_method PreventExtensions s n o = prevent_extensions o
apply_method (SetPrototypeOf v) s n o = set_prototype_of s n v o
apply_method Freeze s n o = freeze o
