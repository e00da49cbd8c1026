-- Type conversion (ECMA-262 7.1), and the equality that converts (7.2.14).
use Rattle.std.specs.Prelude.{ℕ, zero, suc, Bool, true, false, cond, [], ℤ, pos, Option, Some, None, codes}
use Rattle.js_value.specs.Value.{Value, Undefined, Null, Boolean, Number, String, Object, is_object, Text, Key, Named, key_of_text, key_of_number}
use Rattle.js_value.specs.NumberText.{number_of_text, text_of_number}
use Rattle.es_ops.specs.Equality.{is_strictly_equal}
use Rattle.es_ops.specs.Messages.{NumberOutOfRange, NoPrimitiveValue, PrimitiveExpected}
use Rattle.es_ops.specs.Act.{Act, Call}
use Rattle.es_ops.specs.Errors.{raise}
use Rattle.es_ops.specs.PropertyReads.{get, is_callable}

-- ToBoolean (7.1.2)
abbrev pub to_boolean : Value → Bool
to_boolean Undefined = false
to_boolean Null = false
to_boolean (Boolean b) = b
to_boolean (Number (pos zero)) = false
to_boolean (Number n) = true
to_boolean (String []) = false
to_boolean (String t) = true
to_boolean (Object n) = true

-- ---- ToPrimitive (7.1.1)

pub data Hint : Type 0 where
  DefaultHint : Hint
  NumberHint : Hint
  StringHint : Hint

abbrev pub value_of_name : Text
value_of_name = codes "valueOf"

abbrev pub to_string_name : Text
to_string_name = codes "toString"

-- OrdinaryToPrimitive (7.1.1.1), step 3 for one name: where the method isn't callable or gives an object, the next one is tried
abbrev pub primitive_by : ℕ → Text → (next : Act) → (Value → Act) → Act
primitive_by n name next k =
    get n (Named name) (λ method.
    is_callable method (λ callable.
    cond callable (Call method (Object n) [] None (λ result. cond (is_object result) next (k result))) next))

abbrev pub ordinary_to_primitive : ℕ → Hint → (Value → Act) → Act
ordinary_to_primitive n StringHint k = primitive_by n to_string_name (primitive_by n value_of_name (raise NoPrimitiveValue) k) k
ordinary_to_primitive n _ k = primitive_by n value_of_name (primitive_by n to_string_name (raise NoPrimitiveValue) k) k

unfoldable pub to_primitive : Hint → Value → (Value → Act) → Act
to_primitive hint (Object n) k = ordinary_to_primitive n hint k
to_primitive hint v k = k v

-- ---- ToNumber (7.1.4)

-- of a primitive, none where the value is no number of the profile
abbrev pub number_of_primitive : Value → Option ℤ
number_of_primitive Null = Some (pos 0)
number_of_primitive (Boolean true) = Some (pos 1)
number_of_primitive (Boolean false) = Some (pos 0)
number_of_primitive (Number n) = Some n
number_of_primitive (String t) = number_of_text t
number_of_primitive _ = None

abbrev pub number_or_raise : Option ℤ → (ℤ → Act) → Act
number_or_raise (Some n) k = k n
number_or_raise None k = raise NumberOutOfRange

unfoldable pub to_number : Value → (ℤ → Act) → Act
to_number v k = to_primitive NumberHint v (λ p. number_or_raise (number_of_primitive p) k)

-- ---- ToString (7.1.17)

-- of a primitive
abbrev pub text_of_primitive : Value → Text
text_of_primitive Undefined = codes "undefined"
text_of_primitive Null = codes "null"
text_of_primitive (Boolean true) = codes "true"
text_of_primitive (Boolean false) = codes "false"
text_of_primitive (Number n) = text_of_number n
text_of_primitive (String t) = t
text_of_primitive (Object n) = []

unfoldable pub to_string : Value → (Text → Act) → Act
to_string v k = to_primitive StringHint v (λ p. k (text_of_primitive p))

-- ---- ToPropertyKey (7.1.19)

abbrev pub key_of_primitive : Value → Key
key_of_primitive (Number n) = key_of_number n
key_of_primitive v = key_of_text (text_of_primitive v)

unfoldable pub to_property_key : Value → (Key → Act) → Act
to_property_key v k = to_primitive StringHint v (λ p. k (key_of_primitive p))

-- ---- what built-ins take for a primitive (own): they convert no object

abbrev pub primitive_expected : Value → (Value → Act) → Act
primitive_expected (Object n) k = raise PrimitiveExpected
primitive_expected v k = k v

unfoldable pub number_expected : Value → (ℤ → Act) → Act
number_expected v k = primitive_expected v (λ p. number_or_raise (number_of_primitive p) k)

unfoldable pub text_expected : Value → (Text → Act) → Act
text_expected v k = primitive_expected v (λ p. k (text_of_primitive p))

unfoldable pub key_expected : Value → (Key → Act) → Act
key_expected v k = primitive_expected v (λ p. k (key_of_primitive p))

-- ---- IsLooselyEqual (7.2.14)

-- What its steps do with two values: give an answer, or turn one of them into a number or a primitive and begin again.
pub data Comparison : Type 0 where
  Equals : Bool → Comparison
  NumberLeft : Comparison
  NumberRight : Comparison
  PrimitiveLeft : Comparison
  PrimitiveRight : Comparison

abbrev pub comparison : (x y : Value) → Comparison
comparison Null Undefined = Equals true  -- 2
comparison Undefined Null = Equals true  -- 3
comparison (Number a) (String t) = NumberRight  -- 5
comparison (String t) (Number b) = NumberLeft  -- 6
comparison (Boolean a) (Boolean b) = Equals (is_strictly_equal (Boolean a) (Boolean b))  -- 1
comparison (Boolean a) y = NumberLeft  -- 9
comparison x (Boolean b) = NumberRight  -- 10
comparison (Number a) (Object n) = PrimitiveRight  -- 11
comparison (String t) (Object n) = PrimitiveRight  -- 11
comparison (Object n) (Number b) = PrimitiveLeft  -- 12
comparison (Object n) (String t) = PrimitiveLeft  -- 12
comparison x y = Equals (is_strictly_equal x y)  -- 1, 14

abbrev pub next_comparison : Comparison → ((x y : Value) → (Bool → Act) → Act) → (x y : Value) → (Bool → Act) → Act
next_comparison (Equals b) again x y k = k b
next_comparison NumberLeft again x y k = to_number x (λ n. again (Number n) y k)
next_comparison NumberRight again x y k = to_number y (λ n. again x (Number n) k)
next_comparison PrimitiveLeft again x y k = to_primitive DefaultHint x (λ p. again p y k)
next_comparison PrimitiveRight again x y k = to_primitive DefaultHint y (λ p. again x p k)

-- Each turn leaves fewer of Boolean, Object and String among the two, so that four turns suffice.
unfoldable pub loosely_equal_within : (turns : ℕ) → (x y : Value) → (Bool → Act) → Act
loosely_equal_within zero x y k = k (is_strictly_equal x y)
loosely_equal_within (suc turns) x y k = next_comparison (comparison x y) (loosely_equal_within turns) x y k

unfoldable pub is_loosely_equal : (x y : Value) → (Bool → Act) → Act
is_loosely_equal x y k = loosely_equal_within 4 x y k
