-- The operators are the same but for the numbers of things.
use Rattle.std.proofs.Common.{◌≡◌, ℕ, Bool, true, false, List, [], ◌++◌, refl, codes}
use Rattle.js_value.specs.Number.{whole, sum, negation, Exact, num}
use Rattle.js_value.specs.Value.{Value, String, Object, Text, key_of_text}
use Rattle.js_value.specs.Order.{AreUnits}
use Rattle.js_value.proofs.Profile.{string_tested, text_of_number_is_string}
use Rattle.js_value.proofs.Indices.{num_is_number}
use Rattle.es_ops.specs.Messages.{NotAFunction, NotAnObject, PrimitiveExpected}
use Rattle.es_ops.specs.Act.{Act}
use Rattle.es_ops.specs.Errors.{make_text}
use Rattle.es_ops.specs.Conversions.{text_of_primitive, to_boolean}
use Rattle.es_ops.specs.Operators.{bitwise_not, NumericOperator, numeric_result, give_number, apply_numeric, is_string, concatenate, sum_of_primitives, add, RelationalOperator, compare_numbers, compare_primitives, compare, BinaryOperator, Add, Numeric, Relational, Equal, NotEqual, StrictEqual, StrictNotEqual, binary, UnaryOperator, Not, Negate, Plus, BitNot, unary, type_of_object, type_of, has_property_in, has_instance, ordinary_has_instance, instance_of, to_text, join_parts, join}
use Rattle.es_ops.specs.Related.{Naming, BothList, BothEmpty, BothCons, BothValue, BothUndefined, BothNull, BothBoolean, BothNumber, BothString, BothObject, Related, Then, IsOneToOne}
use Rattle.es_ops.proofs.Acting.{ask_chain}
use Rattle.es_ops.proofs.Parts.{cond_related}
use Rattle.es_ops.proofs.ReadsRelated.{raise_related, made_text_related, units_joined, is_callable_related, get_related, has_property_related, to_primitive_related, to_number_related, to_property_key_related, with_number, number_or_raise_related, with_text}
use Rattle.es_ops.proofs.WritesRelated.{same_value_related, loosely_equal_related}

-- ---- numbers

give_number_related : {R : Naming} (e : Exact) (k l : Value → Act) → Then R (BothValue R) k l → Related R (give_number e k) (give_number e l)
give_number_related e k l h = number_or_raise_related (num e) _ _ (num_is_number e) (λ x i. h _ _ (BothNumber i))

pub apply_numeric_related : {R : Naming} (op : NumericOperator) (a b x y : Value) (k l : Value → Act) → BothValue R a x → BothValue R b y → Then R (BothValue R) k l → Related R (apply_numeric op a b k) (apply_numeric op x y l)
unfolding apply_numeric
apply_numeric_related op a b x y k l p q h = to_number_related _ _ _ _ p (λ m i. to_number_related _ _ _ _ q (λ n j. give_number_related (numeric_result op m n) k l h))

-- ---- addition

string_same : {R : Naming} {a x : Value} → BothValue R a x → is_string a ≡ is_string x
string_same BothUndefined = refl
string_same BothNull = refl
string_same BothBoolean = refl
string_same (BothNumber i) = refl
string_same (BothString i) = refl
string_same (BothObject r) = refl

concatenate_related : {R : Naming} (a b x y : Value) (k l : Value → Act) → BothValue R a x → BothValue R b y → Then R (BothValue R) k l → Related R (concatenate a b k) (concatenate x y l)
concatenate_related a b x y k l p q h =
    with_text a x (λ s. make_text (s ++ text_of_primitive b) k) (λ s. make_text (s ++ text_of_primitive y) l) p (λ s i.
    with_text b y (λ t. make_text (s ++ t) k) (λ t. make_text (s ++ t) l) q (λ t j.
    made_text_related (s ++ t) k l (units_joined s t i.units j.units) h))

sum_related : {R : Naming} (a b x y : Value) (k l : Value → Act) → BothValue R a x → BothValue R b y → Then R (BothValue R) k l → Related R (sum_of_primitives a b k) (sum_of_primitives x y l)
sum_related a b x y k l p q h = with_number a x _ _ p (λ m i. with_number b y _ _ q (λ n j. give_number_related (sum m n) k l h))

pub add_related : {R : Naming} (a b x y : Value) (k l : Value → Act) → BothValue R a x → BothValue R b y → Then R (BothValue R) k l → Related R (add a b k) (add x y l)
unfolding add
add_related a b x y k l p q h =
    to_primitive_related _ _ _ _ _ p (λ u v i. to_primitive_related _ _ _ _ _ q (λ w z j.
    rw (string_same i, string_same j) (cond_related (is_string v) _ _ _ _ (concatenate_related u w v z k l i j h) (cond_related (is_string z) _ _ _ _ (concatenate_related u w v z k l i j h) (sum_related u w v z k l i j h)))))

-- ---- comparison

compare_numbers_related : {R : Naming} (op : RelationalOperator) (a b x y : Value) (k l : Bool → Act) → BothValue R a x → BothValue R b y → ((c : Bool) → Related R (k c) (l c)) → Related R (compare_numbers op a b k) (compare_numbers op x y l)
compare_numbers_related op a b x y k l p q h = with_number a x _ _ p (λ m i. with_number b y _ _ q (λ n j. h _))

compare_primitives_related : {R : Naming} (op : RelationalOperator) (a b x y : Value) (k l : Bool → Act) → BothValue R a x → BothValue R b y → ((c : Bool) → Related R (k c) (l c)) → Related R (compare_primitives op a b k) (compare_primitives op x y l)
compare_primitives_related op a b x y k l (BothString i) (BothString j) h = h _
compare_primitives_related op a b x y k l (BothString i) BothUndefined h = compare_numbers_related op _ _ _ _ k l (BothString i) BothUndefined h
compare_primitives_related op a b x y k l (BothString i) BothNull h = compare_numbers_related op _ _ _ _ k l (BothString i) BothNull h
compare_primitives_related op a b x y k l (BothString i) BothBoolean h = compare_numbers_related op _ _ _ _ k l (BothString i) BothBoolean h
compare_primitives_related op a b x y k l (BothString i) (BothNumber j) h = compare_numbers_related op _ _ _ _ k l (BothString i) (BothNumber j) h
compare_primitives_related op a b x y k l (BothString i) (BothObject r) h = compare_numbers_related op _ _ _ _ k l (BothString i) (BothObject r) h
compare_primitives_related op a b x y k l BothUndefined q h = compare_numbers_related op _ _ _ _ k l BothUndefined q h
compare_primitives_related op a b x y k l BothNull q h = compare_numbers_related op _ _ _ _ k l BothNull q h
compare_primitives_related op a b x y k l BothBoolean q h = compare_numbers_related op _ _ _ _ k l BothBoolean q h
compare_primitives_related op a b x y k l (BothNumber i) q h = compare_numbers_related op _ _ _ _ k l (BothNumber i) q h
compare_primitives_related op a b x y k l (BothObject r) q h = compare_numbers_related op _ _ _ _ k l (BothObject r) q h

pub compare_related : {R : Naming} (op : RelationalOperator) (a b x y : Value) (k l : Bool → Act) → BothValue R a x → BothValue R b y → ((c : Bool) → Related R (k c) (l c)) → Related R (compare op a b k) (compare op x y l)
unfolding compare
compare_related op a b x y k l p q h = to_primitive_related _ _ _ _ _ p (λ u v i. to_primitive_related _ _ _ _ _ q (λ w z j. compare_primitives_related op u w v z k l i j h))

-- ---- all binary and unary operators

pub binary_related : {R : Naming} → IsOneToOne R → (op : BinaryOperator) (a b x y : Value) (k l : Value → Act) → BothValue R a x → BothValue R b y → Then R (BothValue R) k l → Related R (binary op a b k) (binary op x y l)
unfolding binary
binary_related o Add a b x y k l p q h = add_related a b x y k l p q h
binary_related o (Numeric op) a b x y k l p q h = apply_numeric_related op a b x y k l p q h
binary_related o (Relational op) a b x y k l p q h = compare_related op a b x y _ _ p q (λ c. h _ _ BothBoolean)
binary_related o Equal a b x y k l p q h = loosely_equal_related o _ _ _ _ _ _ p q (λ c. h _ _ BothBoolean)
binary_related o NotEqual a b x y k l p q h = loosely_equal_related o _ _ _ _ _ _ p q (λ c. h _ _ BothBoolean)
binary_related o StrictEqual a b x y k l p q h = rw (same_value_related o p q) (h _ _ BothBoolean)
binary_related o StrictNotEqual a b x y k l p q h = rw (same_value_related o p q) (h _ _ BothBoolean)

boolean_same : {R : Naming} {a x : Value} → BothValue R a x → to_boolean a ≡ to_boolean x
boolean_same BothUndefined = refl
boolean_same BothNull = refl
boolean_same BothBoolean = refl
boolean_same (BothNumber i) = refl
boolean_same (BothString i) = refl
boolean_same (BothObject r) = refl

pub unary_related : {R : Naming} (op : UnaryOperator) (a x : Value) (k l : Value → Act) → BothValue R a x → Then R (BothValue R) k l → Related R (unary op a k) (unary op x l)
unfolding unary
unary_related Not a x k l p h = rw (boolean_same p) (h _ _ BothBoolean)
unary_related Negate a x k l p h = to_number_related _ _ _ _ p (λ m i. give_number_related (negation m) k l h)
unary_related Plus a x k l p h = to_number_related _ _ _ _ p (λ m i. h _ _ (BothNumber i))
unary_related BitNot a x k l p h = to_number_related _ _ _ _ p (λ m i. give_number_related (whole (bitwise_not m)) k l h)

-- ---- typeof, in, instanceof

pub type_of_related : {R : Naming} (a x : Value) (k l : Value → Act) → BothValue R a x → Then R (BothValue R) k l → Related R (type_of a k) (type_of x l)
unfolding type_of
type_of_related {R} a x k l (BothObject r) h = is_callable_related _ _ (BothObject r) (λ b. by_test b)
  where
    by_test : (b : Bool) → Related R (k (String (type_of_object b))) (l (String (type_of_object b)))
    by_test true = h _ _ (BothString (string_tested (codes "function") refl))
    by_test false = h _ _ (BothString (string_tested (codes "object") refl))
type_of_related a x k l BothUndefined h = h _ _ (BothString (string_tested (codes "undefined") refl))
type_of_related a x k l BothNull h = h _ _ (BothString (string_tested (codes "object") refl))
type_of_related a x k l BothBoolean h = h _ _ (BothString (string_tested (codes "boolean") refl))
type_of_related a x k l (BothNumber i) h = h _ _ (BothString (string_tested (codes "number") refl))
type_of_related a x k l (BothString i) h = h _ _ (BothString (string_tested (codes "string") refl))

pub has_property_in_related : {R : Naming} (a b x y : Value) (k l : Value → Act) → BothValue R a x → BothValue R b y → Then R (BothValue R) k l → Related R (has_property_in a b k) (has_property_in x y l)
unfolding has_property_in
has_property_in_related a b x y k l p (BothObject r) h = to_property_key_related _ _ _ _ p (λ key i. has_property_related _ _ key _ _ r (λ c. h _ _ BothBoolean))
has_property_in_related a b x y k l p BothUndefined h = raise_related NotAnObject
has_property_in_related a b x y k l p BothNull h = raise_related NotAnObject
has_property_in_related a b x y k l p BothBoolean h = raise_related NotAnObject
has_property_in_related a b x y k l p (BothNumber i) h = raise_related NotAnObject
has_property_in_related a b x y k l p (BothString i) h = raise_related NotAnObject

has_instance_related : {R : Naming} (m n : ℕ) (b y : Value) (k l : Value → Act) → R m n → BothValue R b y → Then R (BothValue R) k l → Related R (has_instance (Object m) b k) (has_instance (Object n) y l)
has_instance_related m n b y k l r (BothObject s) h = ask_chain s r (λ c. h _ _ BothBoolean)
has_instance_related m n b y k l r BothUndefined h = raise_related NotAnObject
has_instance_related m n b y k l r BothNull h = raise_related NotAnObject
has_instance_related m n b y k l r BothBoolean h = raise_related NotAnObject
has_instance_related m n b y k l r (BothNumber i) h = raise_related NotAnObject
has_instance_related m n b y k l r (BothString i) h = raise_related NotAnObject

ordinary_instance_related : {R : Naming} (a b x y : Value) (k l : Value → Act) → BothValue R a x → BothValue R b y → Then R (BothValue R) k l → Related R (ordinary_has_instance a b k) (ordinary_has_instance x y l)
ordinary_instance_related a b x y k l (BothObject r) (BothObject s) h = get_related _ _ (key_of_text (codes "prototype")) _ _ s (λ u v i. has_instance_related _ _ u v k l r i h)
ordinary_instance_related a b x y k l (BothObject r) BothUndefined h = h _ _ BothBoolean
ordinary_instance_related a b x y k l (BothObject r) BothNull h = h _ _ BothBoolean
ordinary_instance_related a b x y k l (BothObject r) BothBoolean h = h _ _ BothBoolean
ordinary_instance_related a b x y k l (BothObject r) (BothNumber i) h = h _ _ BothBoolean
ordinary_instance_related a b x y k l (BothObject r) (BothString i) h = h _ _ BothBoolean
ordinary_instance_related a b x y k l BothUndefined q h = h _ _ BothBoolean
ordinary_instance_related a b x y k l BothNull q h = h _ _ BothBoolean
ordinary_instance_related a b x y k l BothBoolean q h = h _ _ BothBoolean
ordinary_instance_related a b x y k l (BothNumber i) q h = h _ _ BothBoolean
ordinary_instance_related a b x y k l (BothString i) q h = h _ _ BothBoolean

pub instance_of_related : {R : Naming} (a b x y : Value) (k l : Value → Act) → BothValue R a x → BothValue R b y → Then R (BothValue R) k l → Related R (instance_of a b k) (instance_of x y l)
unfolding instance_of
instance_of_related a b x y k l p q h = is_callable_related _ _ q (λ c. cond_related c _ _ _ _ (ordinary_instance_related a b x y k l p q h) (raise_related NotAFunction))

-- ---- templates

pub to_text_related : {R : Naming} (a x : Value) (k l : Value → Act) → BothValue R a x → Then R (BothValue R) k l → Related R (to_text a k) (to_text x l)
unfolding to_text
to_text_related a x k l p h = to_primitive_related _ _ _ _ _ p h

parts_related : {R : Naming} {vs ws : List Value} → BothList (BothValue R) vs ws → (before : Text) (k l : Value → Act) → AreUnits before → Then R (BothValue R) k l → Related R (join_parts vs before k) (join_parts ws before l)
parts_related BothEmpty before k l u h = made_text_related before k l u h
parts_related (BothCons (BothObject r) vs) before k l u h = raise_related PrimitiveExpected
parts_related (BothCons BothUndefined vs) before k l u h = parts_related vs _ k l (units_joined before _ u (string_tested (codes "undefined") refl).units) h
parts_related (BothCons BothNull vs) before k l u h = parts_related vs _ k l (units_joined before _ u (string_tested (codes "null") refl).units) h
parts_related (BothCons (BothBoolean {b = true}) vs) before k l u h = parts_related vs _ k l (units_joined before _ u (string_tested (codes "true") refl).units) h
parts_related (BothCons (BothBoolean {b = false}) vs) before k l u h = parts_related vs _ k l (units_joined before _ u (string_tested (codes "false") refl).units) h
parts_related (BothCons (BothNumber {n = n} i) vs) before k l u h = parts_related vs _ k l (units_joined before _ u (text_of_number_is_string n).units) h
parts_related (BothCons (BothString i) vs) before k l u h = parts_related vs _ k l (units_joined before _ u i.units) h

pub join_related : {R : Naming} (vs ws : List Value) (k l : Value → Act) → BothList (BothValue R) vs ws → Then R (BothValue R) k l → Related R (join vs k) (join ws l)
unfolding join
join_related vs ws k l p h = parts_related p [] k l tt h
