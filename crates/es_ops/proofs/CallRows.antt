-- The rules of calling, and constructions, on small worlds.
use Rattle.std.proofs.Common.{◌≡◌, ℕ, true, false, List, [], ◌∷◌, map, refl, Option, Some, None, pos, codes}
use Rattle.js_value.specs.Value.{Value, Undefined, Null, Boolean, Number, Object}
use Rattle.js_value.specs.Store.{Thing, AnObject, ScriptFunction, ObjectRecord}
use Rattle.es_ops.specs.Intrinsics.{ErrorPrototype}
use Rattle.es_ops.specs.State.{State, OnlyCalled, CalledAndConstructed, OnlyConstructed}
use Rattle.es_ops.specs.Ledger.{Budget, Depth}
use Rattle.es_ops.specs.Messages.{Message, NotInitialised, NotAFunction, NotAConstructor, CalledWithoutNew, ReturnedPrimitive, text_of_message}
use Rattle.es_ops.specs.Errors.{error_record}
use Rattle.es_ops.specs.Act.{Act, Give, run, Ran, Calls, Ends, Halts, NormalCompletion}
use Rattle.es_ops.specs.Calling.{is_constructor, by_rules, super_call, create_from_constructor, ordinary_object, base_result, derived_result}
use Rattle.es_ops.proofs.Samples.{plain, ordinary, function, world_of, came, Came, Gave, Stopped, thing_after, computing}

script : ℕ → ObjectRecord
script n = record (ordinary (Some 1) []) { class = ScriptFunction 0 n None [] }

-- 13, 14 and 15 are an arrow, a plain function and a class; 16 is a plain object; 17 is Error, 18 is `print`; 19 inherits from 15
things : List Thing
things = AnObject (script 0) ∷ AnObject (record (script 1) { named = (codes "prototype", plain (Object 16)) ∷ [] }) ∷ AnObject (script 2) ∷ AnObject (ordinary None []) ∷ AnObject (function 25) ∷ AnObject (function 51) ∷ AnObject (ordinary (Some 15) []) ∷ []

state : (meter depth : ℕ) → State
state meter depth = record { world = record (world_of things) { functions = (OnlyCalled ∷ CalledAndConstructed ∷ OnlyConstructed ∷ []) ∷ [] }; meter = meter; depth = depth }

-- a body gives the depth that it runs at
bodies : Calls
bodies f this arguments target s = Ends (NormalCompletion (Number (pos s.depth))) s

called : (f : Value) → (target : Option Value) → (meter depth : ℕ) → Ran
called f target meter depth = by_rules bodies f Undefined [] target (state meter depth)

meter_after : Ran → ℕ
meter_after (Ends c s) = s.meter
meter_after (Halts stop s) = s.meter

depth_after : Ran → ℕ
depth_after (Ends c s) = s.depth
depth_after (Halts stop s) = s.depth

thrown : Ran → Option Thing
thrown r = thing_after r 20

error_of : ℕ → Message → Option Thing
error_of p m = Some (AnObject (error_record p (text_of_message m)))

-- IsConstructor
constructs : Value → Came
constructs v = came (run bodies (is_constructor v (λ b. Give (Boolean b))) (state 5 0))

constructors : map constructs (Object 13 ∷ Object 14 ∷ Object 15 ∷ Object 16 ∷ Object 17 ∷ Object 18 ∷ Null ∷ []) ≡ map (λ b. Gave (Boolean b)) (false ∷ true ∷ true ∷ false ∷ true ∷ false ∷ false ∷ [])
unfolding computing script things state bodies constructs
constructors = refl

-- a call runs its body one deeper, and leaves the depth and a unit less
calls_enter : came (called (Object 13) None 5 7) ∷ came (called (Object 14) (Some (Object 14)) 5 0) ∷ came (called (Object 15) (Some (Object 15)) 1 127) ∷ [] ≡ Gave (Number (pos 8)) ∷ Gave (Number (pos 1)) ∷ Gave (Number (pos 128)) ∷ []
unfolding computing script things state bodies called
calls_enter = refl

calls_leave : meter_after (called (Object 13) None 5 7) ∷ depth_after (called (Object 13) None 5 7) ∷ [] ≡ 4 ∷ 7 ∷ []
unfolding computing script things state bodies called meter_after depth_after
calls_leave = refl

-- the unit comes before the depth, and both before the error of a class
calls_stop : map came (called (Object 13) None 0 128 ∷ called (Object 13) None 1 128 ∷ called (Object 15) None 0 0 ∷ called (Object 15) None 1 128 ∷ []) ≡ Stopped Budget ∷ Stopped Depth ∷ Stopped Budget ∷ Stopped Depth ∷ []
unfolding computing script things state bodies called
calls_stop = refl

stopped_meter : meter_after (called (Object 13) None 1 128) ≡ 0
unfolding computing script things state bodies called meter_after
stopped_meter = refl

class_without_new : thrown (called (Object 15) None 5 3) ≡ error_of 6 CalledWithoutNew
unfolding computing script things state bodies called thrown error_of
class_without_new = refl

class_without_new_counts : meter_after (called (Object 15) None 5 3) ∷ depth_after (called (Object 15) None 5 3) ∷ [] ≡ 4 ∷ 3 ∷ []
unfolding computing script things state bodies called meter_after depth_after
class_without_new_counts = refl

-- what is no function or constructor takes no unit
refused : thrown (called (Object 16) None 0 128) ∷ thrown (called Null None 5 0) ∷ thrown (called (Object 13) (Some (Object 13)) 0 128) ∷ [] ≡ error_of 6 NotAFunction ∷ error_of 6 NotAFunction ∷ error_of 6 NotAConstructor ∷ []
unfolding computing script things state bodies called thrown error_of
refused = refl

refused_meter : meter_after (called (Object 16) None 5 0) ≡ 5
unfolding computing script things state bodies called meter_after
refused_meter = refl

-- `super(..)` without a new target, and with one: the parent is the active function's prototype
supers : Act → Ran
supers p = run (by_rules bodies) p (state 5 0)

super_calls : thrown (supers (super_call 19 None [] Give)) ∷ thrown (supers (super_call 13 (Some (Object 14)) [] Give)) ∷ [] ≡ error_of 6 CalledWithoutNew ∷ error_of 6 NotAConstructor ∷ []
unfolding computing script things state bodies supers thrown error_of
super_calls = refl

super_called : came (supers (super_call 19 (Some (Object 14)) [] Give)) ≡ Gave (Number (pos 1))
unfolding computing script things state bodies supers
super_called = refl

-- the object of a construction inherits from the new target's `prototype`, or from the intrinsic one
created : thing_after (supers (create_from_constructor (Object 14) ErrorPrototype (λ n. Give Null))) 20 ∷ thing_after (supers (create_from_constructor (Object 15) ErrorPrototype (λ n. Give Null))) 20 ∷ [] ≡ Some (AnObject (ordinary_object (Some 16))) ∷ Some (AnObject (ordinary_object (Some 2))) ∷ []
unfolding computing script things state bodies supers
created = refl

-- what a constructor's body returned
results : map (λ p. came (supers p)) (base_result (Object 16) (Object 13) Give ∷ base_result (Object 16) (Number (pos 1)) Give ∷ derived_result (Some (Object 16)) Undefined Give ∷ derived_result None (Object 13) Give ∷ []) ≡ Gave (Object 13) ∷ Gave (Object 16) ∷ Gave (Object 16) ∷ Gave (Object 13) ∷ []
unfolding computing script things state bodies supers
results = refl

refused_results : map (λ p. thrown (supers p)) (derived_result None Undefined Give ∷ derived_result (Some (Object 16)) Null Give ∷ []) ≡ error_of 4 NotInitialised ∷ error_of 6 ReturnedPrimitive ∷ []
unfolding computing script things state bodies supers thrown error_of
refused_results = refl
