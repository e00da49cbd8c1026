-- The operators on values (ECMA-262 13.4 to 13.15), their operands evaluated.
use Rattle.std.specs.Prelude.{ℕ, Bool, true, false, cond, not, List, [], ◌∷◌, ◌++◌, ℤ, pos, ◌-ℤ◌, int_lt, bit_and, bit_or, bit_xor, codes}
use Rattle.js_value.specs.Number.{Exact, num, whole, sum, difference, product, quotient, remainder, power, negation}
use Rattle.js_value.specs.Word.{to_uint32, to_int32, signed_word, left_shift, signed_right_shift, unsigned_right_shift}
use Rattle.js_value.specs.Case.{comes_before}
use Rattle.js_value.specs.Value.{Value, Undefined, Null, Boolean, Number, String, Object, Text, key_of_text}
use Rattle.es_ops.specs.Messages.{NotAFunction, NotAnObject, PrimitiveExpected}
use Rattle.es_ops.specs.Events.{IsOnChain}
use Rattle.es_ops.specs.Act.{Act, Ask}
use Rattle.es_ops.specs.Errors.{raise, make_text}
use Rattle.es_ops.specs.Equality.{is_strictly_equal}
use Rattle.es_ops.specs.PropertyReads.{is_callable, get, has_property}
use Rattle.es_ops.specs.Conversions.{DefaultHint, NumberHint, StringHint, to_boolean, to_primitive, to_number, text_of_primitive, number_of_primitive, number_or_raise, to_property_key, is_loosely_equal}

-- ---- operators with a numeric result (6.1.6.1)

pub data NumericOperator : Type 0 where
  Subtract : NumericOperator
  Multiply : NumericOperator
  Divide : NumericOperator
  Remainder : NumericOperator
  Power : NumericOperator
  BitAnd : NumericOperator
  BitOr : NumericOperator
  BitXor : NumericOperator
  ShiftLeft : NumericOperator
  ShiftRight : NumericOperator
  ShiftRightUnsigned : NumericOperator

-- NumberBitwiseOp (6.1.6.1.17)
abbrev pub bitwise : (ℕ → ℕ → ℕ) → ℤ → ℤ → ℤ
bitwise op a b = signed_word (op (to_uint32 a) (to_uint32 b))

-- Number::bitwiseNOT (6.1.6.1.2)
abbrev pub bitwise_not : ℤ → ℤ
bitwise_not a = pos 0 -ℤ to_int32 a -ℤ pos 1

abbrev pub numeric_result : NumericOperator → ℤ → ℤ → Exact
numeric_result Subtract a b = difference a b
numeric_result Multiply a b = product a b
numeric_result Divide a b = quotient a b
numeric_result Remainder a b = remainder a b
numeric_result Power a b = power a b
numeric_result BitAnd a b = whole (bitwise bit_and a b)
numeric_result BitOr a b = whole (bitwise bit_or a b)
numeric_result BitXor a b = whole (bitwise bit_xor a b)
numeric_result ShiftLeft a b = whole (left_shift a b)
numeric_result ShiftRight a b = whole (signed_right_shift a b)
numeric_result ShiftRightUnsigned a b = whole (unsigned_right_shift a b)

-- the Number of an exact result, or the error of one that is no Number of the profile
abbrev pub give_number : Exact → (Value → Act) → Act
give_number exact k = number_or_raise (num exact) (λ n. k (Number n))

-- ApplyStringOrNumericBinaryOperator (13.15.3), step 3 on
unfoldable pub apply_numeric : NumericOperator → (a b : Value) → (Value → Act) → Act
apply_numeric op a b k = to_number a (λ x. to_number b (λ y. give_number (numeric_result op x y) k))

-- ---- addition (13.15.3, steps 1 and 2)

abbrev pub is_string : Value → Bool
is_string (String t) = true
is_string v = false

abbrev pub concatenate : (a b : Value) → (Value → Act) → Act
concatenate a b k = make_text (text_of_primitive a ++ text_of_primitive b) k

-- of two primitives
abbrev pub sum_of_primitives : (a b : Value) → (Value → Act) → Act
sum_of_primitives a b k = number_or_raise (number_of_primitive a) (λ x. number_or_raise (number_of_primitive b) (λ y. give_number (sum x y) k))

unfoldable pub add : (a b : Value) → (Value → Act) → Act
add a b k =
    to_primitive DefaultHint a (λ p.
    to_primitive DefaultHint b (λ q.
    cond (is_string p) (concatenate p q k) (cond (is_string q) (concatenate p q k) (sum_of_primitives p q k))))

-- ---- IsLessThan (7.2.12): one order of the profile's primitives, by which the four relational operators are said (13.10.1)

pub data RelationalOperator : Type 0 where
  Less : RelationalOperator
  Greater : RelationalOperator
  LessOrEqual : RelationalOperator
  GreaterOrEqual : RelationalOperator

-- `less a b` says that a is less than b
abbrev pub relation_holds : {A : Type 0} → (less : A → A → Bool) → RelationalOperator → A → A → Bool
relation_holds less Less a b = less a b
relation_holds less Greater a b = less b a
relation_holds less LessOrEqual a b = not (less b a)
relation_holds less GreaterOrEqual a b = not (less a b)

abbrev pub compare_numbers : RelationalOperator → (p q : Value) → (Bool → Act) → Act
compare_numbers op p q k = number_or_raise (number_of_primitive p) (λ x. number_or_raise (number_of_primitive q) (λ y. k (relation_holds int_lt op x y)))

abbrev pub compare_primitives : RelationalOperator → (p q : Value) → (Bool → Act) → Act
compare_primitives op (String s) (String t) k = k (relation_holds comes_before op s t)
compare_primitives op p q k = compare_numbers op p q k

unfoldable pub compare : RelationalOperator → (a b : Value) → (Bool → Act) → Act
compare op a b k = to_primitive NumberHint a (λ p. to_primitive NumberHint b (λ q. compare_primitives op p q k))

-- ---- all binary operators

pub data BinaryOperator : Type 0 where
  Add : BinaryOperator
  Numeric : NumericOperator → BinaryOperator
  Relational : RelationalOperator → BinaryOperator
  Equal : BinaryOperator
  NotEqual : BinaryOperator
  StrictEqual : BinaryOperator
  StrictNotEqual : BinaryOperator

unfoldable pub binary : BinaryOperator → (a b : Value) → (Value → Act) → Act
binary Add a b k = add a b k
binary (Numeric op) a b k = apply_numeric op a b k
binary (Relational op) a b k = compare op a b (λ holds. k (Boolean holds))
binary Equal a b k = is_loosely_equal a b (λ same. k (Boolean same))
binary NotEqual a b k = is_loosely_equal a b (λ same. k (Boolean (not same)))
binary StrictEqual a b k = k (Boolean (is_strictly_equal a b))
binary StrictNotEqual a b k = k (Boolean (not (is_strictly_equal a b)))

-- ---- unary operators (13.5)

pub data UnaryOperator : Type 0 where
  Not : UnaryOperator
  Negate : UnaryOperator
  Plus : UnaryOperator
  BitNot : UnaryOperator

unfoldable pub unary : UnaryOperator → Value → (Value → Act) → Act
unary Not a k = k (Boolean (not (to_boolean a)))
unary Negate a k = to_number a (λ x. give_number (negation x) k)
unary Plus a k = to_number a (λ x. k (Number x))
unary BitNot a k = to_number a (λ x. give_number (whole (bitwise_not x)) k)

-- ---- typeof (13.5.3)

abbrev pub type_of_object : (callable : Bool) → Text
type_of_object true = codes "function"
type_of_object false = codes "object"

abbrev pub type_of_primitive : Value → Text
type_of_primitive Undefined = codes "undefined"
type_of_primitive Null = codes "object"
type_of_primitive (Boolean b) = codes "boolean"
type_of_primitive (Number n) = codes "number"
type_of_primitive (String t) = codes "string"
type_of_primitive (Object n) = codes "object"

unfoldable pub type_of : Value → (Value → Act) → Act
type_of (Object n) k = is_callable (Object n) (λ callable. k (String (type_of_object callable)))
type_of v k = k (String (type_of_primitive v))

-- ---- `in` (13.10.1): the object is tested before the key is converted (own)

unfoldable pub has_property_in : (key object : Value) → (Value → Act) → Act
has_property_in key (Object n) k = to_property_key key (λ name. has_property n name (λ has. k (Boolean has)))
has_property_in key v k = raise NotAnObject

-- ---- InstanceofOperator (13.10.2) and OrdinaryHasInstance (7.3.21)

abbrev pub has_instance : Value → (prototype : Value) → (Value → Act) → Act
has_instance (Object n) (Object p) k = Ask (IsOnChain p n) (λ is. k (Boolean is))  -- 6
has_instance v prototype k = raise NotAnObject  -- 5

abbrev pub ordinary_has_instance : Value → (function : Value) → (Value → Act) → Act
ordinary_has_instance (Object n) (Object f) k = get f (key_of_text (codes "prototype")) (λ p. has_instance (Object n) p k)  -- 4
ordinary_has_instance v function k = k (Boolean false)  -- 3

unfoldable pub instance_of : (value function : Value) → (Value → Act) → Act
instance_of v f k = is_callable f (λ callable. cond callable (ordinary_has_instance v f k) (raise NotAFunction))

-- ---- template literals (13.2.8.5): each value is made a primitive, and then all parts one text. Own: an object is none.

unfoldable pub to_text : Value → (Value → Act) → Act
to_text v k = to_primitive StringHint v k

abbrev pub join_parts : List Value → (before : Text) → (Value → Act) → Act
join_parts [] before k = make_text before k
join_parts (Object n ∷ vs) before k = raise PrimitiveExpected
join_parts (v ∷ vs) before k = join_parts vs (before ++ text_of_primitive v) k

unfoldable pub join : List Value → (Value → Act) → Act
join vs k = join_parts vs [] k
