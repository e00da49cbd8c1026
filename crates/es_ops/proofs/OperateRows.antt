-- Operations on values.
use Rattle.std.proofs.Common.{◌≡◌, List, [], ◌∷◌, true, refl, Some, None, pos, codes}
use Rattle.js_value.specs.Value.{Value, Null, Boolean, Number, String, Object}
use Rattle.js_value.specs.Store.{Thing, AnObject}
use Rattle.es_ops.specs.Making.{DataMember}
use Rattle.es_ops.specs.Operators.{Add}
use Rattle.es_ops.specs.Operate.{ValueOperation, ApplyBinary, TakeType, TestIn, ConvertKey, GetProperty, PutProperty, DeleteProperty, MakeObject, AppendElement, DefineMember, NameFunction, JoinTexts, CallFunction, Construct, operate}
use Rattle.es_ops.proofs.Samples.{plain, ordinary, array_of, function, runs, came, Came, Gave, thing_after, computing}

-- 13 is an object, 14 a function that gives its receiver, 15 one that gives 7, 16 an array
things : List Thing
things = AnObject (ordinary None ((codes "a", plain Null) ∷ [])) ∷ AnObject (function 1) ∷ AnObject (function 3) ∷ AnObject (array_of [] 0 true) ∷ []

gives : ValueOperation → List Value → Came
gives o vs = came (runs (operate o vs) things)

one : Value
one = Number (pos 1)

operations : gives (ApplyBinary Add) (one ∷ one ∷ []) ∷ gives TakeType (Object 14 ∷ []) ∷ gives TestIn (String (codes "a") ∷ Object 13 ∷ []) ∷ gives ConvertKey (Object 13 ∷ one ∷ []) ∷ gives GetProperty (Object 13 ∷ String (codes "a") ∷ []) ∷ gives PutProperty (Object 13 ∷ String (codes "a") ∷ one ∷ []) ∷ gives DeleteProperty (Object 13 ∷ String (codes "a") ∷ []) ∷ gives MakeObject [] ∷ gives AppendElement (Object 16 ∷ one ∷ []) ∷ gives (DefineMember DataMember true) (Object 13 ∷ one ∷ Null ∷ []) ∷ gives (NameFunction DataMember) (one ∷ Object 14 ∷ []) ∷ gives JoinTexts (one ∷ Null ∷ []) ∷ gives CallFunction (one ∷ Object 14 ∷ Null ∷ []) ∷ gives Construct (Object 15 ∷ []) ∷ []
    ≡ Gave (Number (pos 2)) ∷ Gave (String (codes "function")) ∷ Gave (Boolean true) ∷ Gave one ∷ Gave Null ∷ Gave one ∷ Gave (Boolean true) ∷ Gave (Object 17) ∷ Gave (Object 16) ∷ Gave (Object 13) ∷ Gave (Object 14) ∷ Gave (String (codes "1null")) ∷ Gave one ∷ Gave (Number (pos 7)) ∷ []
unfolding computing operate things gives one
operations = refl

written : thing_after (runs (operate PutProperty (Object 13 ∷ String (codes "a") ∷ one ∷ [])) things) 13 ≡ Some (AnObject (ordinary None ((codes "a", plain one) ∷ [])))
unfolding computing operate things one
written = refl
