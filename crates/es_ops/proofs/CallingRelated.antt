-- What comes before a call and after a construction is the same but for the numbers of things.
use Rattle.std.proofs.Common.{ℕ, Bool, false, List, refl, Option, Some, codes}
use Rattle.js_value.specs.Value.{Value, key_of_text}
use Rattle.js_value.specs.Store.{Class, AnObject}
use Rattle.js_value.specs.Order.{IsOrderly}
use Rattle.es_ops.specs.Intrinsics.{Intrinsic}
use Rattle.es_ops.specs.State.{FunctionSort, OnlyCalled, CalledAndConstructed, OnlyConstructed}
use Rattle.es_ops.specs.Messages.{NotInitialised, NotAFunction, NotAConstructor, CalledWithoutNew, ReturnedPrimitive}
use Rattle.es_ops.specs.Events.{Make}
use Rattle.es_ops.specs.Act.{Act, Do}
use Rattle.es_ops.specs.Calling.{has_construct, is_constructor_class, is_constructor, may_be_called, called_as, class_called, may_be_entered, construct, or_null, super_call, prototype_or, prototype_from, ordinary_object, create_from_constructor, base_result, derived_result}
use Rattle.es_ops.specs.Related.{Naming, BothOption, BothNone, BothSome, BothList, BothEmpty, BothValue, BothUndefined, BothNull, BothBoolean, BothNumber, BothString, BothObject, BothClass, BothOrdinary, BothArray, BothScript, BothBuiltIn, BothResolve, BothReject, BothError, BothPromise, BothAnObject, Related, BothGive, BothCall, Then}
use Rattle.es_ops.proofs.Acting.{ask_class, ask_prototype, ask_sort, ask_intrinsic, do_make}
use Rattle.es_ops.proofs.Parts.{cond_related}
use Rattle.es_ops.proofs.ReadsRelated.{raise_related, is_callable_related, get_related}

-- ---- IsConstructor

constructor_class_related : {R : Naming} {c d : Class} (k l : Bool → Act) → BothClass R c d → ((b : Bool) → Related R (k b) (l b)) → Related R (is_constructor_class c k) (is_constructor_class d l)
constructor_class_related k l BothOrdinary h = h false
constructor_class_related k l BothArray h = h false
constructor_class_related k l (BothScript r cs) h = ask_sort (λ sort. h (has_construct sort))
constructor_class_related k l BothBuiltIn h = h _
constructor_class_related k l (BothResolve p m) h = h false
constructor_class_related k l (BothReject p m) h = h false
constructor_class_related k l BothError h = h false
constructor_class_related k l (BothPromise s rs) h = h false

pub is_constructor_related : {R : Naming} {a x : Value} (k l : Bool → Act) → BothValue R a x → ((b : Bool) → Related R (k b) (l b)) → Related R (is_constructor a k) (is_constructor x l)
unfolding is_constructor
is_constructor_related k l (BothObject r) h = ask_class r (λ c d e. constructor_class_related k l e h)
is_constructor_related k l BothUndefined h = h false
is_constructor_related k l BothNull h = h false
is_constructor_related k l BothBoolean h = h false
is_constructor_related k l (BothNumber i) h = h false
is_constructor_related k l (BothString i) h = h false

-- ---- what comes before a body

pub may_be_called_related : {R : Naming} (a x : Value) (s t : Option Value) → BothValue R a x → BothOption (BothValue R) s t → Related R (may_be_called a s) (may_be_called x t)
unfolding may_be_called
may_be_called_related a x s t p BothNone = is_callable_related _ _ p (λ b. cond_related b _ _ _ _ (BothGive BothUndefined) (raise_related NotAFunction))
may_be_called_related a x s t p (BothSome q) = is_constructor_related _ _ p (λ b. cond_related b _ _ _ _ (BothGive BothUndefined) (raise_related NotAConstructor))

called_as_related : {R : Naming} (sort : FunctionSort) → Related R (called_as sort) (called_as sort)
called_as_related OnlyCalled = BothGive BothUndefined
called_as_related CalledAndConstructed = BothGive BothUndefined
called_as_related OnlyConstructed = raise_related CalledWithoutNew

class_called_related : {R : Naming} {c d : Class} → BothClass R c d → Related R (class_called c) (class_called d)
class_called_related BothOrdinary = BothGive BothUndefined
class_called_related BothArray = BothGive BothUndefined
class_called_related (BothScript r cs) = ask_sort called_as_related
class_called_related BothBuiltIn = BothGive BothUndefined
class_called_related (BothResolve p m) = BothGive BothUndefined
class_called_related (BothReject p m) = BothGive BothUndefined
class_called_related BothError = BothGive BothUndefined
class_called_related (BothPromise s rs) = BothGive BothUndefined

pub may_be_entered_related : {R : Naming} (a x : Value) (s t : Option Value) → BothValue R a x → BothOption (BothValue R) s t → Related R (may_be_entered a s) (may_be_entered x t)
unfolding may_be_entered
may_be_entered_related a x s t (BothObject r) BothNone = ask_class r (λ c d e. class_called_related e)
may_be_entered_related a x s t (BothObject r) (BothSome q) = BothGive BothUndefined
may_be_entered_related a x s t BothUndefined q = BothGive BothUndefined
may_be_entered_related a x s t BothNull q = BothGive BothUndefined
may_be_entered_related a x s t BothBoolean q = BothGive BothUndefined
may_be_entered_related a x s t (BothNumber i) q = BothGive BothUndefined
may_be_entered_related a x s t (BothString i) q = BothGive BothUndefined

-- ---- constructions

pub construct_related : {R : Naming} (f g : Value) (vs ws : List Value) (s t : Value) (k l : Value → Act) → BothValue R f g → BothList (BothValue R) vs ws → BothValue R s t → Then R (BothValue R) k l → Related R (construct f vs s k) (construct g ws t l)
unfolding construct
construct_related f g vs ws s t k l p q r h = BothCall p BothUndefined q (BothSome r) h

or_null_related : {R : Naming} {p q : Option ℕ} → BothOption R p q → BothValue R (or_null p) (or_null q)
or_null_related BothNone = BothNull
or_null_related (BothSome r) = BothObject r

pub super_call_related : {R : Naming} (m n : ℕ) (s t : Option Value) (vs ws : List Value) (k l : Value → Act) → R m n → BothOption (BothValue R) s t → BothList (BothValue R) vs ws → Then R (BothValue R) k l → Related R (super_call m s vs k) (super_call n t ws l)
unfolding super_call
super_call_related m n s t vs ws k l r BothNone q h = raise_related CalledWithoutNew
super_call_related m n s t vs ws k l r (BothSome p) q h = ask_prototype r (λ u v e. construct_related _ _ vs ws _ _ k l (or_null_related e) q p h)

prototype_or_related : {R : Naming} {a x : Value} (i : Intrinsic) (k l : ℕ → Act) → BothValue R a x → Then R R k l → Related R (prototype_or a i k) (prototype_or x i l)
prototype_or_related i k l (BothObject r) h = h _ _ r
prototype_or_related i k l BothUndefined h = ask_intrinsic h
prototype_or_related i k l BothNull h = ask_intrinsic h
prototype_or_related i k l BothBoolean h = ask_intrinsic h
prototype_or_related i k l (BothNumber n) h = ask_intrinsic h
prototype_or_related i k l (BothString n) h = ask_intrinsic h

pub prototype_from_related : {R : Naming} {a x : Value} (i : Intrinsic) (k l : ℕ → Act) → BothValue R a x → Then R R k l → Related R (prototype_from a i k) (prototype_from x i l)
prototype_from_related i k l (BothObject r) h = get_related _ _ (key_of_text (codes "prototype")) _ _ r (λ u v e. prototype_or_related i k l e h)
prototype_from_related i k l BothUndefined h = ask_intrinsic h
prototype_from_related i k l BothNull h = ask_intrinsic h
prototype_from_related i k l BothBoolean h = ask_intrinsic h
prototype_from_related i k l (BothNumber n) h = ask_intrinsic h
prototype_from_related i k l (BothString n) h = ask_intrinsic h

ordinary_orderly : (p : Option ℕ) → IsOrderly (ordinary_object p)
ordinary_orderly p = record { indices = tt; range = tt; length = tt; names = tt; distinct = tt; no_length = tt }

pub do_make_ordinary : {R : Naming} (p q : Option ℕ) (k l : ℕ → Act) → BothOption R p q → Then R R k l → Related R (Do (Make (AnObject (ordinary_object p))) k) (Do (Make (AnObject (ordinary_object q))) l)
do_make_ordinary p q k l r h = do_make (BothAnObject (record { class = BothOrdinary; prototype = r; extensible = refl; indexed = BothEmpty; named = BothEmpty })) (ordinary_orderly p) h

pub create_from_related : {R : Naming} (a x : Value) (i : Intrinsic) (k l : ℕ → Act) → BothValue R a x → Then R R k l → Related R (create_from_constructor a i k) (create_from_constructor x i l)
unfolding create_from_constructor
create_from_related a x i k l p h = prototype_from_related i _ _ p (λ u v r. do_make_ordinary (Some u) (Some v) k l (BothSome r) h)

pub base_result_related : {R : Naming} (a b x y : Value) (k l : Value → Act) → BothValue R a x → BothValue R b y → Then R (BothValue R) k l → Related R (base_result a b k) (base_result x y l)
unfolding base_result
base_result_related a b x y k l p (BothObject r) h = h _ _ (BothObject r)
base_result_related a b x y k l p BothUndefined h = h _ _ p
base_result_related a b x y k l p BothNull h = h _ _ p
base_result_related a b x y k l p BothBoolean h = h _ _ p
base_result_related a b x y k l p (BothNumber i) h = h _ _ p
base_result_related a b x y k l p (BothString i) h = h _ _ p

pub derived_result_related : {R : Naming} (s t : Option Value) (b y : Value) (k l : Value → Act) → BothOption (BothValue R) s t → BothValue R b y → Then R (BothValue R) k l → Related R (derived_result s b k) (derived_result t y l)
unfolding derived_result
derived_result_related s t b y k l p (BothObject r) h = h _ _ (BothObject r)
derived_result_related s t b y k l BothNone BothUndefined h = raise_related NotInitialised
derived_result_related s t b y k l (BothSome p) BothUndefined h = h _ _ p
derived_result_related s t b y k l p BothNull h = raise_related ReturnedPrimitive
derived_result_related s t b y k l p BothBoolean h = raise_related ReturnedPrimitive
derived_result_related s t b y k l p (BothNumber i) h = raise_related ReturnedPrimitive
derived_result_related s t b y k l p (BothString i) h = raise_related ReturnedPrimitive
