-- What is made of functions, classes, objects and arrays, and what it costs.
use Rattle.std.proofs.Common.{◌≡◌, ℕ, Bool, true, false, List, [], ◌∷◌, map, refl, Option, Some, None, pos, negsuc, codes}
use Rattle.js_value.specs.Value.{Value, Null, Number, String, Object, Text}
use Rattle.js_value.specs.Store.{Thing, AnObject, ACell, ScriptFunction, Property, Data, Accessor}
use Rattle.js_value.specs.declared.counts.Room.{Room}
use Rattle.es_ops.specs.State.{some_slots, nothing}
use Rattle.es_ops.specs.Messages.{Message, InvalidArrayLength, NotAFunction, NotAConstructor, NotAnObject, PrimitiveExpected, NotDefinable, AccessorOnIndex, text_of_message}
use Rattle.es_ops.specs.Errors.{error_record}
use Rattle.es_ops.specs.Act.{Act, Give}
use Rattle.es_ops.specs.Making.{FunctionCode, make_method, make_function, make_class, make_derived_class, make_object, make_array, append, DataMember, GetterMember, SetterMember, define_member, name_function}
use Rattle.es_ops.proofs.Samples.{plain, ordinary, array_of, function, runs, thing_after, used_after, computing}

code : FunctionCode
code = record { module_number = 2; function_number = 5; name = codes "f"; parameters = 3 }

shown : Value → Property
shown v = record { content = Data v false; enumerable = false; configurable = true }

hidden_data : Value → Property
hidden_data v = record { content = Data v true; enumerable = false; configurable = true }

prototype_is : Value → Bool → Text × Property
prototype_is v writable = (codes "prototype", record { content = Data v writable; enumerable = false; configurable = false })

function_of : (prototype : ℕ) → (home : Option ℕ) → (captured : List ℕ) → List (Text × Property) → Thing
function_of prototype home captured more = AnObject (record { class = ScriptFunction 2 5 home captured; prototype = Some prototype; extensible = true; indexed = []; named = (codes "length", shown (Number (pos 3))) ∷ (codes "name", shown (String (codes "f"))) ∷ more })

prototype_of : (prototype function : ℕ) → Thing
prototype_of prototype f = AnObject (ordinary (Some prototype) ((codes "constructor", hidden_data (Object f)) ∷ []))

-- 13 is a cell, 14 an object, 15 an array, 16 a function with an empty name, 17 a constructor whose `prototype` is 14, 18 one without
things : List Thing
things = ACell (record { value = None; const = false }) ∷ AnObject (ordinary None []) ∷ AnObject (array_of [] 0 true) ∷ AnObject (record (function 1) { named = (codes "name", shown (String [])) ∷ [] }) ∷ AnObject (record (function 25) { named = (codes "prototype", plain (Object 14)) ∷ [] }) ∷ AnObject (function 25) ∷ AnObject (array_of [] 4294967295 true) ∷ []

made : Act → ℕ → Option Thing
made p n = thing_after (runs p things) n

costs : Act → Room
costs p = used_after (runs p things)

done : Act
done = Give Null

error_of : Message → Option Thing
error_of m = Some (AnObject (error_record 6 (text_of_message m)))

arrow : made (make_method code None (13 ∷ []) (λ f. done)) 20 ∷ made (make_method code (Some 14) [] (λ f. done)) 20 ∷ [] ≡ Some (function_of 1 None (13 ∷ []) []) ∷ Some (function_of 1 (Some 14) [] []) ∷ []
unfolding computing code shown things made done function_of
arrow = refl

plain_function : made (make_function code (13 ∷ []) (λ f. done)) 20 ∷ made (make_function code (13 ∷ []) (λ f. done)) 21 ∷ [] ≡ Some (function_of 1 None (13 ∷ []) (prototype_is (Object 21) true ∷ [])) ∷ Some (prototype_of 0 20) ∷ []
unfolding computing code shown hidden_data prototype_is prototype_of things made done function_of
plain_function = refl

class_alone : made (make_class code [] (λ c p. done)) 20 ∷ made (make_class code [] (λ c p. done)) 21 ∷ [] ≡ Some (function_of 1 (Some 21) [] (prototype_is (Object 21) false ∷ [])) ∷ Some (prototype_of 0 20) ∷ []
unfolding computing code shown hidden_data prototype_is prototype_of things made done function_of
class_alone = refl

class_with_parent : made (make_derived_class code [] (Object 17) (λ c p. done)) 20 ∷ made (make_derived_class code [] (Object 17) (λ c p. done)) 21 ∷ [] ≡ Some (function_of 17 (Some 21) [] (prototype_is (Object 21) false ∷ [])) ∷ Some (prototype_of 14 20) ∷ []
unfolding computing code shown hidden_data prototype_is prototype_of things made done function_of
class_with_parent = refl

refused_parents : map (λ v. made (make_derived_class code [] v (λ c p. done)) 20) (Object 14 ∷ Null ∷ Object 18 ∷ []) ≡ error_of NotAConstructor ∷ error_of NotAConstructor ∷ error_of NotAnObject ∷ []
unfolding computing code things made done error_of
refused_parents = refl

-- a method 2 and its two properties; a plain function 2 and three, with a captured cell one more, then its prototype object 2
costs_of_functions : map costs (make_method code None [] (λ f. done) ∷ make_function code (13 ∷ []) (λ f. done) ∷ make_class code [] (λ c p. done) ∷ make_object (λ o. done) ∷ make_array (λ a. done) ∷ []) ≡ map some_slots (4 ∷ 8 ∷ 7 ∷ 1 ∷ 2 ∷ [])
unfolding computing code things costs done
costs_of_functions = refl

objects : made (make_object (λ o. done)) 20 ∷ made (make_array (λ a. append (Object a) Null (append (Object a) (Number (pos 7)) done))) 20 ∷ [] ≡ Some (AnObject (ordinary (Some 0) [])) ∷ Some (AnObject (record (array_of ((0, plain Null) ∷ (1, plain (Number (pos 7))) ∷ []) 2 true) { prototype = Some 12 })) ∷ []
unfolding computing things made done
objects = refl

refused_appends : made (append (Object 14) Null done) 20 ∷ made (append (Object 19) Null done) 20 ∷ [] ≡ error_of NotAnObject ∷ Some (AnObject (error_record 3 (text_of_message InvalidArrayLength))) ∷ []
unfolding computing things made done error_of
refused_appends = refl

-- at the greatest index
last : List Thing
last = AnObject (array_of [] 4294967294 true) ∷ []

last_append : thing_after (runs (append (Object 13) Null done) last) 13 ≡ Some (AnObject (array_of ((4294967294, plain Null) ∷ []) 4294967295 true))
unfolding computing last done
last_append = refl

members : made (define_member DataMember true (Object 14) (String (codes "a")) Null done) 14 ∷ made (define_member DataMember false (Object 14) (Number (pos 3)) Null done) 14 ∷ made (define_member GetterMember true (Object 14) (String (codes "a")) (Object 16) (define_member SetterMember true (Object 14) (String (codes "a")) (Object 17) done)) 14 ∷ []
    ≡ Some (AnObject (ordinary None ((codes "a", plain Null) ∷ []))) ∷ Some (AnObject (record (ordinary None []) { indexed = (3, hidden_data Null) ∷ [] })) ∷ Some (AnObject (ordinary None ((codes "a", record { content = Accessor (Object 16) (Object 17); enumerable = true; configurable = true }) ∷ []))) ∷ []
unfolding computing things made done hidden_data
members = refl

-- the object, the key, the function, the index
refused_members : map (λ p. made p 20) (define_member GetterMember true Null (Object 14) Null done ∷ define_member GetterMember true (Object 14) (Object 14) Null done ∷ define_member GetterMember true (Object 14) (Number (pos 0)) Null done ∷ define_member SetterMember false (Object 14) (Number (pos 0)) (Object 16) done ∷ [])
    ≡ error_of NotAnObject ∷ error_of PrimitiveExpected ∷ error_of NotAFunction ∷ error_of AccessorOnIndex ∷ []
unfolding computing things made done error_of
refused_members = refl

-- an array's length is converted (10.4.2.4), and then it is refused, since it isn't configurable
converted : List Thing
converted = AnObject (array_of [] 5 true) ∷ AnObject (ordinary None ((codes "valueOf", plain (Object 15)) ∷ [])) ∷ AnObject (function 3) ∷ []

length_member : thing_after (runs (define_member DataMember false (Object 13) (String (codes "length")) (Object 14) done) converted) 16 ≡ error_of NotDefinable
unfolding computing converted done error_of
length_member = refl

named_as : Text → Option Thing
named_as t = Some (AnObject (record (function 1) { named = (codes "name", shown (String t)) ∷ [] }))

names : map (λ p. made p 16) (name_function DataMember (String (codes "k")) (Object 16) done ∷ name_function DataMember (Number (negsuc 4)) (Object 16) done ∷ name_function GetterMember (String (codes "k")) (Object 16) done ∷ name_function SetterMember Null (Object 16) done ∷ []) ≡ map named_as (codes "k" ∷ codes "-5" ∷ codes "get k" ∷ codes "set null" ∷ [])
unfolding computing things made done shown named_as
names = refl

-- a text that is handed on costs nothing
costs_of_names : map costs (name_function DataMember (String (codes "k")) (Object 16) done ∷ name_function DataMember (Number (negsuc 4)) (Object 16) done ∷ name_function GetterMember (String (codes "k")) (Object 16) done ∷ name_function DataMember (String (codes "k")) (Object 17) done ∷ name_function DataMember (String (codes "k")) (Object 14) done ∷ [])
    ≡ nothing ∷ record { slots = 0; units = 2; names = 0 } ∷ record { slots = 0; units = 5; names = 0 } ∷ nothing ∷ nothing ∷ []
unfolding computing things shown costs done
costs_of_names = refl

refused_names : made (name_function DataMember (Object 14) (Object 17) done) 20 ≡ error_of PrimitiveExpected
unfolding computing things made done error_of
refused_names = refl
