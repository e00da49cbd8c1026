-- Conversions that call methods, and equality across types.
use Rattle.std.proofs.Common.{◌≡◌, ℕ, true, false, List, [], ◌∷◌, map, refl, Some, None, pos, negsuc, codes}
use Rattle.js_value.specs.Value.{Value, Undefined, Null, Boolean, Number, String, Object}
use Rattle.js_value.specs.Store.{Thing, AnObject}
use Rattle.es_ops.specs.Messages.{NumberOutOfRange, NoPrimitiveValue, PrimitiveExpected, text_of_message}
use Rattle.es_ops.specs.Errors.{error_record}
use Rattle.es_ops.specs.Act.{Give}
use Rattle.es_ops.specs.Equality.{same_value}
use Rattle.es_ops.specs.Conversions.{Hint, DefaultHint, NumberHint, StringHint, to_boolean, to_primitive, to_number, to_string, number_expected, is_loosely_equal}
use Rattle.es_ops.proofs.Samples.{plain, ordinary, function, runs, came, Came, Gave, Threw, thing_after, computing}

-- Object 13 has methods; 14 gives its receiver, 15 throws 9, 16 gives 7, 17 gives "1", 18 is no function
methods : (value_of to_string : ℕ) → List Thing
methods v t =
    AnObject (ordinary None ((codes "valueOf", plain (Object v)) ∷ (codes "toString", plain (Object t)) ∷ []))
    ∷ AnObject (function 1) ∷ AnObject (function 2) ∷ AnObject (function 3) ∷ AnObject (function 4) ∷ AnObject (ordinary None []) ∷ []

primitive : Hint → (value_of to_string : ℕ) → Came
primitive hint v t = came (runs (to_primitive hint (Object 13) Give) (methods v t))

-- valueOf first, or toString first
orders : primitive DefaultHint 16 17 ∷ primitive NumberHint 16 17 ∷ primitive StringHint 16 17 ∷ []
    ≡ Gave (Number (pos 7)) ∷ Gave (Number (pos 7)) ∷ Gave (String (codes "1")) ∷ []
unfolding computing methods primitive
orders = refl

-- a valueOf that throws, gives an object, is no function
value_ofs : primitive NumberHint 15 17 ∷ primitive NumberHint 14 17 ∷ primitive NumberHint 18 17 ∷ []
    ≡ Threw (Number (pos 9)) ∷ Gave (String (codes "1")) ∷ Gave (String (codes "1")) ∷ []
unfolding computing methods primitive
value_ofs = refl

-- neither gives a primitive
none_given : primitive NumberHint 14 18 ∷ primitive StringHint 18 14 ∷ [] ≡ Threw (Object 19) ∷ Threw (Object 19) ∷ []
unfolding computing methods primitive
none_given = refl

no_primitive : thing_after (runs (to_primitive NumberHint (Object 13) Give) (methods 14 18)) 19 ≡ Some (AnObject (error_record 6 (text_of_message NoPrimitiveValue)))
unfolding computing methods
no_primitive = refl

booleans : map to_boolean (Undefined ∷ Null ∷ Boolean true ∷ Number (pos 0) ∷ Number (negsuc 0) ∷ String [] ∷ String (codes "0") ∷ Object 3 ∷ [])
    ≡ false ∷ false ∷ true ∷ false ∷ true ∷ false ∷ true ∷ true ∷ []
booleans = refl

number : Value → Came
number v = came (runs (to_number v (λ n. Give (Number n))) (methods 16 17))

numbers : map number (Null ∷ Boolean true ∷ String (codes " 12 ") ∷ String [] ∷ Object 13 ∷ Undefined ∷ String (codes "1e3") ∷ [])
    ≡ Gave (Number (pos 0)) ∷ Gave (Number (pos 1)) ∷ Gave (Number (pos 12)) ∷ Gave (Number (pos 0)) ∷ Gave (Number (pos 7)) ∷ Threw (Object 19) ∷ Threw (Object 19) ∷ []
unfolding computing methods number
numbers = refl

out_of_range : thing_after (runs (to_number Undefined (λ n. Give (Number n))) []) 13 ≡ Some (AnObject (error_record 3 (text_of_message NumberOutOfRange)))
unfolding computing
out_of_range = refl

text : Value → Came
text v = came (runs (to_string v (λ t. Give (String t))) (methods 16 17))

texts : map text (Undefined ∷ Null ∷ Boolean false ∷ Number (negsuc 11) ∷ Object 13 ∷ [])
    ≡ Gave (String (codes "undefined")) ∷ Gave (String (codes "null")) ∷ Gave (String (codes "false")) ∷ Gave (String (codes "-12")) ∷ Gave (String (codes "1")) ∷ []
unfolding computing methods text
texts = refl

-- a built-in takes no object
expected : thing_after (runs (number_expected (Object 13) (λ n. Give (Number n))) (methods 16 17)) 19 ≡ Some (AnObject (error_record 6 (text_of_message PrimitiveExpected)))
unfolding computing methods
expected = refl

-- ---- equality

same : map (same_value (Number (pos 1))) (Number (pos 1) ∷ Number (pos 2) ∷ String (codes "1") ∷ Boolean true ∷ []) ≡ true ∷ false ∷ false ∷ false ∷ []
same = refl

equal : (x y : Value) → Came
equal x y = came (runs (is_loosely_equal x y (λ b. Give (Boolean b))) (methods 16 17))

-- undefined and null are equal to each other alone
nothings : equal Null Undefined ∷ equal Undefined Undefined ∷ equal Null (Number (pos 0)) ∷ equal Undefined (Boolean false) ∷ equal Null (Object 13) ∷ []
    ≡ Gave (Boolean true) ∷ Gave (Boolean true) ∷ Gave (Boolean false) ∷ Gave (Boolean false) ∷ Gave (Boolean false) ∷ []
unfolding computing methods equal
nothings = refl

-- a string against a number becomes one, which may be none of the profile
across : equal (Number (pos 12)) (String (codes "12")) ∷ equal (String (codes "0x10")) (Number (pos 16)) ∷ equal (String (codes "x")) (Number (pos 1)) ∷ equal (Boolean true) (String (codes "y")) ∷ equal (String (codes "x")) (String (codes "x")) ∷ []
    ≡ Gave (Boolean true) ∷ Gave (Boolean true) ∷ Threw (Object 19) ∷ Threw (Object 19) ∷ Gave (Boolean true) ∷ []
unfolding computing methods equal
across = refl

across_thrown : thing_after (runs (is_loosely_equal (String (codes "x")) (Number (pos 1)) (λ b. Give (Boolean b))) []) 13 ≡ Some (AnObject (error_record 3 (text_of_message NumberOutOfRange)))
unfolding computing
across_thrown = refl

-- booleans become numbers, objects primitives
converted : equal (Boolean true) (Number (pos 1)) ∷ equal (Boolean true) (Boolean false) ∷ equal (Object 13) (Number (pos 7)) ∷ equal (String (codes "7")) (Object 13) ∷ equal (Object 13) (Object 13) ∷ equal (Object 13) (Object 14) ∷ equal (Boolean true) (Object 13) ∷ []
    ≡ Gave (Boolean true) ∷ Gave (Boolean false) ∷ Gave (Boolean true) ∷ Gave (Boolean true) ∷ Gave (Boolean true) ∷ Gave (Boolean false) ∷ Gave (Boolean false) ∷ []
unfolding computing methods equal
converted = refl

-- the longest way: a boolean, then the object's primitive, a text, then a number
four_turns : came (runs (is_loosely_equal (Boolean true) (Object 13) (λ b. Give (Boolean b))) (methods 17 18)) ≡ Gave (Boolean true)
unfolding computing methods
four_turns = refl
