-- Operators on small values.
use Rattle.std.proofs.Common.{◌≡◌, ℕ, true, false, List, [], ◌∷◌, map, refl, Option, Some, None, pos, negsuc, codes}
use Rattle.js_value.specs.Value.{Value, Undefined, Null, Boolean, Number, String, Object}
use Rattle.js_value.specs.Store.{Thing, AnObject}
use Rattle.es_ops.specs.State.{some_units}
use Rattle.es_ops.specs.Messages.{Message, NumberOutOfRange, NotAnObject, NotAFunction, PrimitiveExpected, text_of_message}
use Rattle.es_ops.specs.Errors.{error_record}
use Rattle.es_ops.specs.Act.{Act, Give}
use Rattle.es_ops.specs.Operators.{BinaryOperator, Add, Numeric, Relational, Equal, NotEqual, StrictEqual, StrictNotEqual, binary, Subtract, Multiply, Divide, Remainder, Power, BitAnd, BitOr, BitXor, ShiftLeft, ShiftRight, ShiftRightUnsigned, Less, Greater, LessOrEqual, GreaterOrEqual, Not, Negate, Plus, BitNot, unary, type_of, has_property_in, instance_of, to_text, join}
use Rattle.es_ops.proofs.Samples.{plain, ordinary, function, runs, came, Came, Gave, thing_after, used_after, computing}

-- 13 has a method `valueOf` that gives 7 and `toString` that gives "1"; 14 and 15 are functions; 16 inherits from 13; 17 has it as `prototype`
things : List Thing
things = AnObject (ordinary None ((codes "valueOf", plain (Object 14)) ∷ (codes "toString", plain (Object 15)) ∷ [])) ∷ AnObject (function 3) ∷ AnObject (function 4) ∷ AnObject (ordinary (Some 13) []) ∷ AnObject (record (function 1) { named = (codes "prototype", plain (Object 13)) ∷ [] }) ∷ []

number : ℕ → Value
number n = Number (pos n)

result : BinaryOperator → (a b : Value) → Came
result op a b = came (runs (binary op a b Give) things)

-- what was thrown is made at 18
thrown : Act → Option Thing
thrown p = thing_after (runs p things) 18

error_of : ℕ → Message → Option Thing
error_of p m = Some (AnObject (error_record p (text_of_message m)))

sums : result Add (number 1) (number 2) ∷ result Add (String (codes "a")) (number 1) ∷ result Add Null (String (codes "b")) ∷ result Add (Boolean true) Null ∷ result Add (Object 13) (number 1) ∷ result Add (Object 13) (String (codes "x")) ∷ []
    ≡ Gave (number 3) ∷ Gave (String (codes "a1")) ∷ Gave (String (codes "nullb")) ∷ Gave (number 1) ∷ Gave (number 8) ∷ Gave (String (codes "7x")) ∷ []
unfolding computing things number result
sums = refl

-- a sum with a string is a made text
sums_cost : map (λ p. used_after (runs p things)) (binary Add (String (codes "ab")) (String (codes "c")) Give ∷ binary Add (number 1) (number 2) Give ∷ []) ≡ some_units 3 ∷ some_units 0 ∷ []
unfolding computing things number
sums_cost = refl

numeric_results : map (λ op. result (Numeric op) (number 7) (number 2)) (Subtract ∷ Multiply ∷ Remainder ∷ Power ∷ BitAnd ∷ BitOr ∷ BitXor ∷ ShiftLeft ∷ ShiftRight ∷ ShiftRightUnsigned ∷ [])
    ≡ map (λ n. Gave (number n)) (5 ∷ 14 ∷ 1 ∷ 49 ∷ 2 ∷ 7 ∷ 5 ∷ 28 ∷ 1 ∷ 1 ∷ [])
unfolding computing things number result
numeric_results = refl

below_zero : result (Numeric BitAnd) (Number (negsuc 0)) (number 6) ∷ result (Numeric BitXor) (Number (negsuc 0)) (number 1) ∷ result (Numeric ShiftRight) (Number (negsuc 7)) (number 1) ∷ result (Numeric ShiftRightUnsigned) (Number (negsuc 0)) (number 28) ∷ result (Numeric Remainder) (Number (negsuc 6)) (number 4) ∷ result (Numeric Divide) (Number (negsuc 7)) (number 2) ∷ []
    ≡ Gave (number 6) ∷ Gave (Number (negsuc 1)) ∷ Gave (Number (negsuc 3)) ∷ Gave (number 15) ∷ Gave (Number (negsuc 2)) ∷ Gave (Number (negsuc 3)) ∷ []
unfolding computing things number result
below_zero = refl

outside_the_profile : map thrown (binary (Numeric Divide) (number 7) (number 2) Give ∷ binary (Numeric Divide) (number 1) (number 0) Give ∷ binary (Numeric Multiply) (number 0) (Number (negsuc 0)) Give ∷ binary (Numeric Remainder) (Number (negsuc 3)) (number 2) Give ∷ binary Add (number 9007199254740991) (number 1) Give ∷ unary Negate (number 0) Give ∷ unary Plus Undefined Give ∷ [])
    ≡ map (λ n. error_of n NumberOutOfRange) (3 ∷ 3 ∷ 3 ∷ 3 ∷ 3 ∷ 3 ∷ 3 ∷ [])
unfolding computing things number thrown error_of
outside_the_profile = refl

relations : map (λ op. result (Relational op) (number 1) (number 2)) (Less ∷ Greater ∷ LessOrEqual ∷ GreaterOrEqual ∷ []) ∷ map (λ op. result (Relational op) (String (codes "b")) (String (codes "ab"))) (Less ∷ Greater ∷ LessOrEqual ∷ GreaterOrEqual ∷ []) ∷ map (λ op. result (Relational op) (Object 13) (String (codes "7"))) (Less ∷ Greater ∷ LessOrEqual ∷ GreaterOrEqual ∷ []) ∷ []
    ≡ map (λ b. Gave (Boolean b)) (true ∷ false ∷ true ∷ false ∷ []) ∷ map (λ b. Gave (Boolean b)) (false ∷ true ∷ false ∷ true ∷ []) ∷ map (λ b. Gave (Boolean b)) (false ∷ false ∷ true ∷ true ∷ []) ∷ []
unfolding computing things number result
relations = refl

equalities : map (λ op. result op (String (codes "7")) (number 7)) (Equal ∷ NotEqual ∷ StrictEqual ∷ StrictNotEqual ∷ []) ≡ map (λ b. Gave (Boolean b)) (true ∷ false ∷ false ∷ true ∷ [])
unfolding computing things number result
equalities = refl

single : map (λ p. came (runs p things)) (unary Not (String []) Give ∷ unary Negate (number 3) Give ∷ unary Plus (String (codes "0x10")) Give ∷ unary BitNot (number 5) Give ∷ unary BitNot (Number (negsuc 0)) Give ∷ unary Negate (Object 13) Give ∷ [])
    ≡ Gave (Boolean true) ∷ Gave (Number (negsuc 2)) ∷ Gave (number 16) ∷ Gave (Number (negsuc 5)) ∷ Gave (number 0) ∷ Gave (Number (negsuc 6)) ∷ []
unfolding computing things number
single = refl

types : map (λ v. came (runs (type_of v Give) things)) (Undefined ∷ Null ∷ Boolean true ∷ number 1 ∷ String [] ∷ Object 13 ∷ Object 14 ∷ [])
    ≡ map (λ t. Gave (String t)) (codes "undefined" ∷ codes "object" ∷ codes "boolean" ∷ codes "number" ∷ codes "string" ∷ codes "object" ∷ codes "function" ∷ [])
unfolding computing things number
types = refl

memberships : map (λ p. came (runs p things)) (has_property_in (String (codes "valueOf")) (Object 16) Give ∷ has_property_in (number 0) (Object 16) Give ∷ instance_of (Object 16) (Object 17) Give ∷ instance_of (Object 13) (Object 17) Give ∷ instance_of (number 1) (Object 14) Give ∷ [])
    ≡ map (λ b. Gave (Boolean b)) (true ∷ false ∷ true ∷ false ∷ false ∷ [])
unfolding computing things number
memberships = refl

-- the object is tested before the key, the function before the value, and `prototype` only for an object
refused_memberships : map thrown (has_property_in (Object 13) (number 1) Give ∷ instance_of (number 1) (Object 13) Give ∷ instance_of (Object 13) (Object 14) Give ∷ []) ≡ error_of 6 NotAnObject ∷ error_of 6 NotAFunction ∷ error_of 6 NotAnObject ∷ []
unfolding computing things number thrown error_of
refused_memberships = refl

-- `a${o}b`
templates : map (λ p. came (runs p things)) (to_text (Object 13) Give ∷ join (String (codes "a") ∷ number 7 ∷ String (codes "b") ∷ []) Give ∷ join (Undefined ∷ Null ∷ Boolean false ∷ []) Give ∷ [])
    ≡ map (λ t. Gave (String t)) (codes "1" ∷ codes "a7b" ∷ codes "undefinednullfalse" ∷ [])
unfolding computing things number
templates = refl

template_costs : used_after (runs (join (String (codes "a") ∷ number 7 ∷ String (codes "b") ∷ []) Give) things) ≡ some_units 3
unfolding computing things number
template_costs = refl

joined_object : thrown (join (Object 13 ∷ []) Give) ≡ error_of 6 PrimitiveExpected
unfolding computing things thrown error_of
joined_object = refl
