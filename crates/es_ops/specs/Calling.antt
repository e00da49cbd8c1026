-- The rules of calling, which hold for every way of running bodies: what may be called and constructed, and in which order
-- the unit of the meter, the depth and the errors come (ECMA-262 7.2.4, 7.3.13, 7.3.14, 10.2.1, 10.2.2; own order).
use Rattle.std.specs.Prelude.{ℕ, suc, Bool, true, false, cond, nat_eq, nat_lt, List, [], ◌∷◌, Option, Some, None, codes}
use Rattle.std.specs.List.{list_any}
use Rattle.js_value.specs.Value.{Value, Undefined, Null, Object, key_of_text}
use Rattle.js_value.specs.Store.{AnObject, ObjectRecord, Ordinary, Class, ScriptFunction, BuiltInFunction}
use Rattle.es_ops.specs.Intrinsics.{Intrinsic}
use Rattle.es_ops.specs.State.{State, FunctionSort, OnlyCalled, CalledAndConstructed, OnlyConstructed}
use Rattle.es_ops.specs.Ledger.{Depth}
use Rattle.es_ops.specs.Messages.{NotInitialised, NotAFunction, NotAConstructor, CalledWithoutNew, ReturnedPrimitive}
use Rattle.es_ops.specs.Events.{TheClass, ThePrototype, TheSort, TheIntrinsic, Make}
use Rattle.es_ops.specs.Act.{Act, Give, Ask, Do, Call, Calls, Ran, Ends, Halts, run, spent, returned}
use Rattle.es_ops.specs.Errors.{raise}
use Rattle.es_ops.specs.PropertyReads.{is_callable, get}

-- ---- IsConstructor (7.2.4)

abbrev pub has_construct : FunctionSort → Bool
has_construct OnlyCalled = false
has_construct CalledAndConstructed = true
has_construct OnlyConstructed = true

-- the rows of the built-in constructors: Object, Function, the five of errors, Promise, Array
abbrev pub constructor_rows : List ℕ
constructor_rows = 1 ∷ 21 ∷ 25 ∷ 26 ∷ 27 ∷ 28 ∷ 29 ∷ 44 ∷ 70 ∷ []

abbrev pub is_constructor_class : Class → (Bool → Act) → Act
is_constructor_class (ScriptFunction module_number function_number home captured) k = Ask (TheSort module_number function_number) (λ sort. k (has_construct sort))
is_constructor_class (BuiltInFunction row) k = k (list_any (nat_eq row) constructor_rows)
is_constructor_class c k = k false

unfoldable pub is_constructor : Value → (Bool → Act) → Act
is_constructor (Object n) k = Ask (TheClass n) (λ c. is_constructor_class c k)
is_constructor v k = k false

-- ---- what comes before a function's body

-- Call (7.3.13), step 2, and the test of `new` (13.3.5.1.1, step 6): they take no unit
unfoldable pub may_be_called : Value → (target : Option Value) → Act
may_be_called f None = is_callable f (λ callable. cond callable (Give Undefined) (raise NotAFunction))
may_be_called f (Some target) = is_constructor f (λ constructor. cond constructor (Give Undefined) (raise NotAConstructor))

-- [[Call]] (10.2.1), step 2: a class without `new`
abbrev pub called_as : FunctionSort → Act
called_as OnlyConstructed = raise CalledWithoutNew
called_as sort = Give Undefined

abbrev pub class_called : Class → Act
class_called (ScriptFunction module_number function_number home captured) = Ask (TheSort module_number function_number) called_as
class_called c = Give Undefined

unfoldable pub may_be_entered : Value → (target : Option Value) → Act
may_be_entered (Object n) None = Ask (TheClass n) class_called
may_be_entered f target = Give Undefined

-- at most so many calls are open
abbrev pub most_depth : ℕ
most_depth = 128

abbrev pub entered : State → (State → Ran) → Ran
entered s f = cond (nat_lt s.depth most_depth) (f (record s { depth = suc s.depth })) (Halts Depth s)

abbrev pub left : (depth : ℕ) → Ran → Ran
left depth (Ends c s) = Ends c (record s { depth = depth })
left depth (Halts stop s) = Halts stop s

abbrev pub body_of : (bodies : Calls) → Calls
body_of bodies f this arguments target s = returned (run bodies (may_be_entered f target) s) (λ _ s. bodies f this arguments target s)

-- A way of calling by these rules: the test of the function, the unit, the depth, the test of a class, the body.
unfoldable pub by_rules : (bodies : Calls) → Calls
by_rules bodies f this arguments target s =
    returned (run bodies (may_be_called f target) s) (λ _ s.
    spent s.meter s (λ s. left s.depth (entered s (body_of bodies f this arguments target))))

-- ---- Construct (7.3.14), and `super(..)` (13.3.7.1)

unfoldable pub construct : (f : Value) → (arguments : List Value) → (target : Value) → (Value → Act) → Act
construct f arguments target k = Call f Undefined arguments (Some target) k

abbrev pub or_null : Option ℕ → Value
or_null None = Null
or_null (Some n) = Object n

-- GetSuperConstructor, the active function's prototype. Own: without a new target it throws.
unfoldable pub super_call : (active : ℕ) → (target : Option Value) → (arguments : List Value) → (Value → Act) → Act
super_call active None arguments k = raise CalledWithoutNew
super_call active (Some target) arguments k = Ask (ThePrototype active) (λ parent. construct (or_null parent) arguments target k)

-- ---- the object of a construction

-- GetPrototypeFromConstructor (10.1.14)
abbrev pub prototype_or : Value → Intrinsic → (ℕ → Act) → Act
prototype_or (Object p) intrinsic k = k p
prototype_or v intrinsic k = Ask (TheIntrinsic intrinsic) k

abbrev pub prototype_from : (target : Value) → Intrinsic → (ℕ → Act) → Act
prototype_from (Object n) intrinsic k = get n (key_of_text (codes "prototype")) (λ p. prototype_or p intrinsic k)
prototype_from v intrinsic k = Ask (TheIntrinsic intrinsic) k

-- OrdinaryCreateFromConstructor (10.1.13)
abbrev pub ordinary_object : (prototype : Option ℕ) → ObjectRecord
ordinary_object prototype = record { class = Ordinary; prototype = prototype; extensible = true; indexed = []; named = [] }

unfoldable pub create_from_constructor : (target : Value) → Intrinsic → (ℕ → Act) → Act
create_from_constructor target intrinsic k = prototype_from target intrinsic (λ p. Do (Make (AnObject (ordinary_object (Some p)))) k)

-- [[Construct]] (10.2.2), steps 10 to 14: what a base constructor and a derived one return for what their body returned
unfoldable pub base_result : (this returned : Value) → (Value → Act) → Act
base_result this (Object n) k = k (Object n)
base_result this v k = k this

abbrev pub this_or_raise : Option Value → (Value → Act) → Act
this_or_raise None k = raise NotInitialised
this_or_raise (Some this) k = k this

unfoldable pub derived_result : (this : Option Value) → (returned : Value) → (Value → Act) → Act
derived_result this (Object n) k = k (Object n)
derived_result this Undefined k = this_or_raise this k
derived_result this v k = raise ReturnedPrimitive
