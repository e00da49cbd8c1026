-- Writing, defining and deleting properties.
use Rattle.std.specs.Prelude.{ℕ, Bool, true, false, cond, not, ◌&&◌, [], ◌∷◌, ℤ, pos, negsuc, nat_lt, Option, Some, None}
use Rattle.js_value.specs.Value.{Value, Undefined, Null, Boolean, Number, String, Object, Text, Key, is_index, text_of_key}
use Rattle.js_value.specs.Store.{Property, is_length_of}
use Rattle.es_ops.specs.InternalMethods.{PropertyDescriptor, data_descriptor, is_accessor_descriptor, is_data_descriptor, DefineOwnProperty, Delete, SetStep, RefusesSet, CallsSetter, DefinesOn}
use Rattle.es_ops.specs.Messages.{InvalidArrayLength, NoProperties, NotWritable, NotDefinable, NotDeletable, AccessorOnIndex}
use Rattle.es_ops.specs.Intrinsics.{Intrinsic, StringPrototype, NumberPrototype, BooleanPrototype}
use Rattle.es_ops.specs.Events.{TheClass, TheProperty, TheSetStep, TheIntrinsic, Apply}
use Rattle.es_ops.specs.Act.{Act, Ask, Do, Call}
use Rattle.es_ops.specs.Errors.{raise}
use Rattle.es_ops.specs.PropertyReads.{StringProperty, Inherits, string_property}
use Rattle.es_ops.specs.Conversions.{to_number, number_expected}

-- How a value for an array's `length` becomes a number: operators convert it (to_number), and built-ins take no
-- object (number_expected). Own rule: it is converted once.
abbrev pub NumberConversion : Type 0
NumberConversion = Value → (ℤ → Act) → Act

-- ---- [[DefineOwnProperty]] with the conversion of an array's length (ECMA-262 10.4.2.4, steps 3 to 5)

abbrev pub length_or_raise : ℤ → (Value → Act) → Act
length_or_raise (pos n) k = cond (nat_lt n 4294967296) (k (Number (pos n))) (raise InvalidArrayLength)
length_or_raise (negsuc n) k = raise InvalidArrayLength

abbrev pub with_length_value : NumberConversion → PropertyDescriptor → Option Value → (PropertyDescriptor → Act) → Act
with_length_value convert d None k = k d
with_length_value convert d (Some v) k = convert v (λ n. length_or_raise n (λ length. k (record d { value = Some length })))

unfoldable pub define_own_property : NumberConversion → ℕ → Key → PropertyDescriptor → (Bool → Act) → Act
define_own_property convert n key d k = Ask (TheClass n) (λ class.
    cond (not (is_index key) && is_length_of class (text_of_key key))
    (with_length_value convert d d.value (λ d. Do (Apply n (DefineOwnProperty key d)) k))
    (Do (Apply n (DefineOwnProperty key d)) k))

-- DefinePropertyOrThrow (7.3.8). Own rule: an accessor on an index is an error of its own, after those of the descriptor.
abbrev pub is_accessor_on_index : Key → PropertyDescriptor → Bool
is_accessor_on_index key d = is_index key && is_accessor_descriptor d && not (is_data_descriptor d)

abbrev pub accepted_or : Act → Act → Bool → Act
accepted_or failure k true = k
accepted_or failure k false = failure

unfoldable pub define_property_or_throw : NumberConversion → ℕ → Key → PropertyDescriptor → Act → Act
define_property_or_throw convert n key d k =
    cond (is_accessor_on_index key d) (raise AccessorOnIndex)
    (define_own_property convert n key d (accepted_or (raise NotDefinable) k))

-- CreateDataProperty (7.3.5), CreateDataPropertyOrThrow (7.3.6)
unfoldable pub create_data_property : ℕ → Key → Value → (Bool → Act) → Act
create_data_property n key v k = define_own_property number_expected n key (data_descriptor v) k

unfoldable pub create_data_property_or_throw : ℕ → Key → Value → Act → Act
create_data_property_or_throw n key v k = create_data_property n key v (accepted_or (raise NotDefinable) k)

-- ---- [[Set]] (10.1.9)

abbrev pub take_set_step : NumberConversion → Key → Value → (receiver : Value) → SetStep → (Bool → Act) → Act
take_set_step convert key v receiver RefusesSet k = k false
take_set_step convert key v receiver (CallsSetter f) k = Call f receiver (v ∷ []) None (λ result. k true)
take_set_step convert key v receiver (DefinesOn r d) k = define_own_property convert r key d k

-- by the property that was found along the chain
abbrev pub set_found : NumberConversion → Key → Value → (receiver : Value) → Option Property → (Bool → Act) → Act
set_found convert key v receiver found k = Ask (TheSetStep key v receiver found) (λ step. take_set_step convert key v receiver step k)

unfoldable pub ordinary_set : NumberConversion → ℕ → Key → Value → (receiver : Value) → (Bool → Act) → Act
ordinary_set convert n key v receiver k = Ask (TheProperty key n) (λ found. set_found convert key v receiver found k)

abbrev pub set_inherited : NumberConversion → Intrinsic → Key → Value → (receiver : Value) → (Bool → Act) → Act
set_inherited convert intrinsic key v receiver k = Ask (TheIntrinsic intrinsic) (λ p. ordinary_set convert p key v receiver k)

-- a string's units and `length` are not writable (10.4.3)
abbrev pub set_on_string : StringProperty → NumberConversion → Text → Key → Value → (Bool → Act) → Act
set_on_string Inherits convert t key v k = set_inherited convert StringPrototype key v (String t) k
set_on_string _ convert t key v k = k false

-- what an assignment to a property of a value comes to: ToObject (7.1.18), then [[Set]] with the value as the receiver
unfoldable pub set_v : NumberConversion → Value → Key → Value → (Bool → Act) → Act
set_v convert (Object n) key v k = ordinary_set convert n key v (Object n) k
set_v convert (String t) key v k = set_on_string (string_property t key) convert t key v k
set_v convert (Number x) key v k = set_inherited convert NumberPrototype key v (Number x) k
set_v convert (Boolean b) key v k = set_inherited convert BooleanPrototype key v (Boolean b) k
set_v convert _ key v k = raise NoProperties

-- Set with Throw (7.3.4)
unfoldable pub set_or_throw : NumberConversion → ℕ → Key → Value → Act → Act
set_or_throw convert n key v k = ordinary_set convert n key v (Object n) (accepted_or (raise NotWritable) k)

-- PutValue (6.2.5.6) on a property reference
unfoldable pub put_value : Value → Key → Value → Act → Act
put_value base key v k = set_v to_number base key v (accepted_or (raise NotWritable) k)

-- ---- DeletePropertyOrThrow (7.3.9), and the delete operator on a value's property (13.5.1.2)

unfoldable pub delete_property_or_throw : ℕ → Key → Act → Act
delete_property_or_throw n key k = Do (Apply n (Delete key)) (accepted_or (raise NotDeletable) k)

abbrev pub delete_on_string : StringProperty → Act → Act
delete_on_string Inherits k = k
delete_on_string _ k = raise NotDeletable

unfoldable pub delete_v : Value → Key → Act → Act
delete_v (Object n) key k = delete_property_or_throw n key k
delete_v (String t) key k = delete_on_string (string_property t key) k
delete_v Undefined key k = raise NoProperties
delete_v Null key k = raise NoProperties
delete_v _ key k = k
