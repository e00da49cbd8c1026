-- The equalities that call nothing (ECMA-262 7.2). A number of the profile is no NaN and no negative zero, so
-- SameValue, SameValueZero and IsStrictlyEqual have one result.
use Rattle.std.specs.Prelude.{Bool, true, false, not, ◌==◌}
use Rattle.std.specs.Ordering.{int_eq}
use Rattle.js_value.specs.Value.{Value, Undefined, Null, Boolean, Number, String, Object, same_text}

abbrev pub same_bool : Bool → Bool → Bool
same_bool true b = b
same_bool false b = not b

-- SameValue (7.2.10)
abbrev pub same_value : Value → Value → Bool
same_value Undefined Undefined = true
same_value Null Null = true
same_value (Boolean a) (Boolean b) = same_bool a b
same_value (Number a) (Number b) = int_eq a b
same_value (String a) (String b) = same_text a b
same_value (Object a) (Object b) = a == b
same_value _ _ = false

-- SameValueZero (7.2.11)
abbrev pub same_value_zero : Value → Value → Bool
same_value_zero x y = same_value x y

-- IsStrictlyEqual (7.2.15)
abbrev pub is_strictly_equal : Value → Value → Bool
is_strictly_equal x y = same_value x y
