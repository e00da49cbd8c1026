-- What only code that no compiler wrote meets (own), once each.
use Rattle.std.proofs.Common.{◌≡◌, ℕ, List, [], ◌∷◌, ◌++◌, true, false, refl, None, codes}
use Rattle.byte_code.specs.declared.instruction.Op.{Op}
use Rattle.byte_code.specs.declared.instruction.Op.TheVariants as i
use Rattle.js_value.specs.Value.{Undefined, Boolean, String, Object}
use Rattle.js_value.specs.Store.{Thing, AnObject, Array, BuiltInFunction, Data}
use Rattle.es_machine.proofs.Samples.{code_with, from_place, frame_of, run_frame, with_class, plain, Came, Gave, ThrewError, came, gives, computing}

-- a place that is uninitialised, and one that holds a cell
no_value : gives (i.LocalGet 8 ∷ []) ∷ gives (i.LocalGet 5 ∷ []) ∷ gives (i.LocalCheck 5 ∷ i.True ∷ []) ∷ []
    ≡ Gave Undefined ∷ Gave Undefined ∷ Gave (Boolean true) ∷ []
unfolding computing
no_value = refl

no_cell : gives (i.BoxGet 0 ∷ []) ∷ gives (i.Null ∷ i.BoxInit 0 ∷ i.True ∷ []) ∷ gives (i.Null ∷ i.BoxPut 8 ∷ i.True ∷ []) ∷ gives (i.BoxCopy 8 ∷ i.True ∷ []) ∷ []
    ≡ ThrewError (codes "not initialised") ∷ ThrewError (codes "not initialised") ∷ ThrewError (codes "not initialised") ∷ ThrewError (codes "not initialised") ∷ []
unfolding computing
no_cell = refl

-- cells 20 and place 7's are const and hold a value
initialised_twice : gives (i.Null ∷ i.BoxInit 7 ∷ i.True ∷ []) ∷ gives (i.Null ∷ i.OuterInit 2 ∷ i.True ∷ []) ∷ []
    ≡ ThrewError (codes "assignment to a constant") ∷ ThrewError (codes "assignment to a constant") ∷ []
unfolding computing
initialised_twice = refl

-- a function that captures place 0, which holds no cell
no_capture : came (run_frame (code_with 5 0 [] [] ∷ code_with 0 0 (from_place 0 ∷ []) [] ∷ []) [] (frame_of (code_with 0 0 [] (i.Function 1 ∷ i.Return ∷ []))))
    ≡ ThrewError (codes "not initialised")
unfolding computing
no_capture = refl

-- a frame whose function has no home object
homeless : List Op → Came
homeless ops = came (run_frame [] [] (record (frame_of (code_with 0 0 [] (ops ++ i.Return ∷ []))) { home = None }))

no_home : homeless (i.LocalGet 0 ∷ i.SuperGet 1 ∷ []) ∷ homeless (i.LocalGet 0 ∷ i.LocalGet 1 ∷ i.SuperGetKey ∷ []) ∷ homeless (i.LocalGet 0 ∷ i.Null ∷ i.SuperSet 1 ∷ []) ∷ homeless (i.LocalGet 0 ∷ i.LocalGet 1 ∷ i.Null ∷ i.SuperSetKey ∷ []) ∷ []
    ≡ ThrewError (codes "no properties of undefined or null") ∷ ThrewError (codes "no properties of undefined or null") ∷ ThrewError (codes "no properties of undefined or null") ∷ ThrewError (codes "no properties of undefined or null") ∷ []
unfolding computing homeless
no_home = refl

-- a derived constructor whose `this` isn't bound yet
derived : List Op → Came
derived ops = came (run_frame [] [] (record (frame_of (code_with 4 0 [] (ops ++ i.Return ∷ []))) { this = None }))

construction : gives (i.SuperCall 0 ∷ []) ∷ gives (i.LocalGet 0 ∷ i.BindThis ∷ []) ∷ gives (i.Null ∷ i.BindThis ∷ []) ∷ derived (i.Null ∷ i.BindThis ∷ []) ∷ derived (i.LocalGet 1 ∷ i.BindThis ∷ i.Pop ∷ i.This ∷ []) ∷ derived (i.LocalGet 1 ∷ i.BindThis ∷ i.BindThis ∷ []) ∷ []
    ≡ ThrewError (codes "constructor called without new") ∷ ThrewError (codes "super called twice") ∷ ThrewError (codes "super called twice") ∷ ThrewError (codes "not an object") ∷ Gave (Object 14) ∷ ThrewError (codes "super called twice") ∷ []
unfolding computing derived
construction = refl

members : gives (i.LocalGet 0 ∷ i.Null ∷ i.Append ∷ []) ∷ gives (i.Null ∷ i.Text 1 ∷ i.Null ∷ i.Define 0 ∷ []) ∷ gives (i.LocalGet 0 ∷ i.Text 1 ∷ i.Null ∷ i.Define 2 ∷ []) ∷ gives (i.LocalGet 0 ∷ i.LocalGet 1 ∷ i.Null ∷ i.Define 0 ∷ []) ∷ gives (i.LocalGet 0 ∷ i.LocalGet 1 ∷ i.Join 2 ∷ []) ∷ []
    ≡ ThrewError (codes "not an object") ∷ ThrewError (codes "not an object") ∷ ThrewError (codes "not a function") ∷ ThrewError (codes "primitive expected") ∷ ThrewError (codes "primitive expected") ∷ []
unfolding computing
members = refl

-- arrays: 22 has the greatest length, 23 a length that isn't writable, 24 isn't extensible
arrays : List Thing
arrays = with_class (Array 4294967295 true) None [] ∷ with_class (Array 0 false) None [] ∷ AnObject (record { class = Array 0 true; prototype = None; extensible = false; indexed = []; named = [] }) ∷ []

appended : (array : ℕ) → Came
appended array = came (run_frame [] arrays (record (frame_of (code_with 0 0 [] (i.Null ∷ i.Append ∷ i.Return ∷ []))) { stack = Object array ∷ [] }))

no_room : appended 22 ∷ appended 23 ∷ appended 24 ∷ []
    ≡ ThrewError (codes "invalid array length") ∷ ThrewError (codes "property cannot be defined") ∷ ThrewError (codes "property cannot be defined") ∷ []
unfolding computing appended arrays
no_room = refl

-- 22 is a function whose own `name` is empty and not configurable, 23 one with a name
named : List Thing
named = with_class (BuiltInFunction 1) None ((codes "name", record { content = Data (String []) false; enumerable = false; configurable = false }) ∷ []) ∷ with_class (BuiltInFunction 1) None ((codes "name", plain (String (codes "b"))) ∷ []) ∷ []

name_after : (function : ℕ) → Came
name_after function = came (run_frame [] named (record (frame_of (code_with 0 0 [] (i.NameIt 0 ∷ i.Get 4 ∷ i.Return ∷ []))) { stack = Object function ∷ String (codes "a") ∷ [] }))

kept_names : name_after 22 ∷ name_after 23 ∷ [] ≡ Gave (String []) ∷ Gave (String (codes "b")) ∷ []
unfolding computing name_after named
kept_names = refl

-- what is no function keeps its name, and a function's key may not be an object
naming : gives (i.Text 1 ∷ i.LocalGet 0 ∷ i.NameIt 0 ∷ i.Pop ∷ []) ∷ gives (i.Text 1 ∷ i.LocalGet 0 ∷ i.NameIt 0 ∷ []) ∷ gives (i.LocalGet 0 ∷ i.LocalGet 2 ∷ i.NameIt 0 ∷ []) ∷ []
    ≡ Gave (String (codes "a")) ∷ Gave (Object 13) ∷ ThrewError (codes "primitive expected") ∷ []
unfolding computing
naming = refl
