-- Making functions, classes, objects and arrays is the same but for the numbers of things.
use Rattle.std.proofs.Common.{arith, nat_lt, ◌≡◌, ℕ, ◌<◌, Bool, true, false, cond, List, [], ◌∷◌, ◌++◌, refl, Option, Some, None, codes, lit≤}
use Rattle.js_value.specs.Value.{Value, Object, Text, Key, Index, Named}
use Rattle.js_value.specs.Store.{Content, Property, Class, ObjectRecord, length_name}
use Rattle.js_value.specs.Literal.{digits_number}
use Rattle.js_value.specs.Order.{AreUnits, IsName, IsKey, IsOrderly}
use Rattle.js_value.proofs.Profile.{string_tested, text_of_number_is_string}
use Rattle.es_ops.specs.Messages.{InvalidArrayLength, NotAFunction, NotAConstructor, NotAnObject, PrimitiveExpected}
use Rattle.es_ops.specs.InternalMethods.{value_descriptor}
use Rattle.es_ops.specs.Events.{prototype_name}
use Rattle.es_ops.specs.Act.{Act}
use Rattle.es_ops.specs.Errors.{raise, make_text}
use Rattle.es_ops.specs.PropertyWrites.{create_data_property_or_throw}
use Rattle.std.proofs.lemmas.Bool.Decides.{nat_tests}
use Rattle.es_ops.specs.Conversions.{text_of_primitive}
use Rattle.es_ops.specs.Making.{FunctionCode, IsFunctionCode, name_name, function_record, make_method, prototype_entry, constructor_name, prototype_object, make_constructor, make_function, make_class_of, make_class, extend, extend_constructor, make_derived_class, make_object, empty_array, make_array, append_to, append, MemberSort, DataMember, GetterMember, SetterMember, member_descriptor, member_function, define_on, define_member, name_of_key, has_empty_name, name_by, name_callable, name_function}
use Rattle.es_ops.specs.Related.{Naming, BothOption, BothNone, BothSome, BothList, BothEmpty, BothCons, BothValue, BothUndefined, BothNull, BothBoolean, BothNumber, BothString, BothObject, BothContent, BothData, BothAccessor, BothProperty, BothEntry, BothClass, BothOrdinary, BothArray, BothScript, BothBuiltIn, BothResolve, BothReject, BothError, BothPromise, BothRecord, BothAnObject, BothDescriptor, Related, BothDo, Then}
use Rattle.es_ops.proofs.Acting.{ask_class, ask_own_property, ask_intrinsic, do_make, do_apply}
use Rattle.es_ops.proofs.Parts.{cond_related}
use Rattle.es_ops.proofs.ReadsRelated.{raise_related, made_text_related, units_joined, is_callable_related, get_related, to_number_related, with_key, with_text}
use Rattle.es_ops.proofs.WritesRelated.{create_or_throw_related, define_or_throw_related}
use Rattle.es_ops.proofs.CallingRelated.{is_constructor_related, do_make_ordinary}

-- ---- names

length_is : IsName length_name
unfolding digits_number
length_is = record { text = string_tested length_name refl; no_index = refl }

name_is : IsName name_name
unfolding digits_number
name_is = record { text = string_tested name_name refl; no_index = refl }

prototype_is : IsName prototype_name
unfolding digits_number
prototype_is = record { text = string_tested prototype_name refl; no_index = refl }

constructor_is : IsName constructor_name
unfolding digits_number
constructor_is = record { text = string_tested constructor_name refl; no_index = refl }

-- ---- functions

method_orderly : (code : FunctionCode) (home : Option ℕ) (captured : List ℕ) (p : ℕ) → IsOrderly (function_record code home captured p [])
method_orderly code home captured p = record { indices = tt; range = tt; length = tt; names = (length_is, (name_is, tt)); distinct = (refl, (refl, tt)); no_length = tt }

constructor_orderly : (code : FunctionCode) (captured : List ℕ) (p : ℕ) (writable : Bool) → IsOrderly (function_record code None captured p (prototype_entry writable ∷ []))
constructor_orderly code captured p writable = record { indices = tt; range = tt; length = tt; names = (length_is, (name_is, (prototype_is, tt))); distinct = (refl, (refl, (refl, tt))); no_length = tt }

function_both : {R : Naming} (code : FunctionCode) {h i : Option ℕ} {cs ds : List ℕ} {p q : ℕ} {es fs : List (Text × Property)} → IsFunctionCode code → BothOption R h i → BothList R cs ds → R p q → BothList (BothEntry R) es fs → BothRecord R (function_record code h cs p es) (function_record code i ds q fs)
function_both code w h c r es = record {
  class = BothScript h c;
  prototype = BothSome r;
  extensible = refl;
  indexed = BothEmpty;
  named = BothCons (record { key = refl; property = record { content = BothData (BothNumber w.parameters); enumerable = refl; configurable = refl } }) (BothCons (record { key = refl; property = record { content = BothData (BothString w.name); enumerable = refl; configurable = refl } }) es);
}

entry_both : {R : Naming} (writable : Bool) → BothEntry R (prototype_entry writable) (prototype_entry writable)
entry_both writable = record { key = refl; property = record { content = BothData BothUndefined; enumerable = refl; configurable = refl } }

pub make_method_related : {R : Naming} (code : FunctionCode) (h i : Option ℕ) (cs ds : List ℕ) (k l : ℕ → Act) → IsFunctionCode code → BothOption R h i → BothList R cs ds → Then R R k l → Related R (make_method code h cs k) (make_method code i ds l)
unfolding make_method
make_method_related code h i cs ds k l w o c n = ask_intrinsic (λ p q r. do_make (BothAnObject (function_both code w o c r BothEmpty)) (method_orderly code h cs p) n)

prototype_orderly : (f : ℕ) (p : Option ℕ) → IsOrderly (prototype_object f p)
prototype_orderly f p = record { indices = tt; range = tt; length = tt; names = (constructor_is, tt); distinct = (refl, tt); no_length = tt }

prototype_both : {R : Naming} {f g : ℕ} {p q : Option ℕ} → R f g → BothOption R p q → BothRecord R (prototype_object f p) (prototype_object g q)
prototype_both r o = record { class = BothOrdinary; prototype = o; extensible = refl; indexed = BothEmpty; named = BothCons (record { key = refl; property = record { content = BothData (BothObject r); enumerable = refl; configurable = refl } }) BothEmpty }

constructor_related : {R : Naming} (o u : ObjectRecord) (p q : Option ℕ) (is_class : Bool) (k l : (function prototype : ℕ) → Act) → IsOrderly o → BothRecord R o u → BothOption R p q → ((a b x y : ℕ) → R a x → R b y → Related R (k a b) (l x y)) → Related R (make_constructor o p is_class k) (make_constructor u q is_class l)
constructor_related o u p q is_class k l i b r n =
    do_make (BothAnObject b) i (λ f g s.
    do_make (BothAnObject (prototype_both s r)) (prototype_orderly f p) (λ c d t.
    BothDo (s, t, refl) (λ x y e. n f c g d s t)))

pub make_function_related : {R : Naming} (code : FunctionCode) (cs ds : List ℕ) (k l : ℕ → Act) → IsFunctionCode code → BothList R cs ds → Then R R k l → Related R (make_function code cs k) (make_function code ds l)
unfolding make_function
make_function_related code cs ds k l w c n =
    ask_intrinsic (λ p q r. ask_intrinsic (λ a b s.
    constructor_related _ _ (Some a) (Some b) false _ _ (constructor_orderly code cs p true) (function_both code w BothNone c r (BothCons (entry_both true) BothEmpty)) (BothSome s) (λ f x g y t u. n f g t)))

-- ---- classes

class_related : {R : Naming} (code : FunctionCode) (cs ds : List ℕ) (m n : ℕ) (p q : Option ℕ) (k l : (constructor prototype : ℕ) → Act) → IsFunctionCode code → BothList R cs ds → R m n → BothOption R p q → ((a b x y : ℕ) → R a x → R b y → Related R (k a b) (l x y)) → Related R (make_class_of code cs m p k) (make_class_of code ds n q l)
class_related code cs ds m n p q k l w c r o h = constructor_related _ _ p q true k l (constructor_orderly code cs m false) (function_both code w BothNone c r (BothCons (entry_both false) BothEmpty)) o h

pub make_class_related : {R : Naming} (code : FunctionCode) (cs ds : List ℕ) (k l : (constructor prototype : ℕ) → Act) → IsFunctionCode code → BothList R cs ds → ((a b x y : ℕ) → R a x → R b y → Related R (k a b) (l x y)) → Related R (make_class code cs k) (make_class code ds l)
unfolding make_class
make_class_related code cs ds k l w c h = ask_intrinsic (λ p q r. ask_intrinsic (λ a b s. class_related code cs ds p q (Some a) (Some b) k l w c r (BothSome s) h))

extend_related : {R : Naming} (code : FunctionCode) (cs ds : List ℕ) (m n : ℕ) (b y : Value) (k l : (constructor prototype : ℕ) → Act) → IsFunctionCode code → BothList R cs ds → R m n → BothValue R b y → ((a b x y : ℕ) → R a x → R b y → Related R (k a b) (l x y)) → Related R (extend code cs (Object m) b k) (extend code ds (Object n) y l)
extend_related code cs ds m n b y k l w c r (BothObject s) h = class_related code cs ds m n (Some _) (Some _) k l w c r (BothSome s) h
extend_related code cs ds m n b y k l w c r BothUndefined h = raise_related NotAnObject
extend_related code cs ds m n b y k l w c r BothNull h = raise_related NotAnObject
extend_related code cs ds m n b y k l w c r BothBoolean h = raise_related NotAnObject
extend_related code cs ds m n b y k l w c r (BothNumber i) h = raise_related NotAnObject
extend_related code cs ds m n b y k l w c r (BothString i) h = raise_related NotAnObject

extend_constructor_related : {R : Naming} (code : FunctionCode) (cs ds : List ℕ) (a x : Value) (k l : (constructor prototype : ℕ) → Act) → IsFunctionCode code → BothList R cs ds → BothValue R a x → ((a b x y : ℕ) → R a x → R b y → Related R (k a b) (l x y)) → Related R (extend_constructor code cs a k) (extend_constructor code ds x l)
extend_constructor_related code cs ds a x k l w c (BothObject {m = m} {n = n} r) h = get_related m n (Named prototype_name) _ _ r (λ u v e. extend_related code cs ds m n u v k l w c r e h)
extend_constructor_related code cs ds a x k l w c BothUndefined h = raise_related NotAConstructor
extend_constructor_related code cs ds a x k l w c BothNull h = raise_related NotAConstructor
extend_constructor_related code cs ds a x k l w c BothBoolean h = raise_related NotAConstructor
extend_constructor_related code cs ds a x k l w c (BothNumber i) h = raise_related NotAConstructor
extend_constructor_related code cs ds a x k l w c (BothString i) h = raise_related NotAConstructor

pub make_derived_related : {R : Naming} (code : FunctionCode) (cs ds : List ℕ) (a x : Value) (k l : (constructor prototype : ℕ) → Act) → IsFunctionCode code → BothList R cs ds → BothValue R a x → ((a b x y : ℕ) → R a x → R b y → Related R (k a b) (l x y)) → Related R (make_derived_class code cs a k) (make_derived_class code ds x l)
unfolding make_derived_class
make_derived_related code cs ds a x k l w c p h = is_constructor_related _ _ p (λ b. cond_related b _ _ _ _ (extend_constructor_related code cs ds a x k l w c p h) (raise_related NotAConstructor))

-- ---- objects and arrays

pub make_object_related : {R : Naming} (k l : ℕ → Act) → Then R R k l → Related R (make_object k) (make_object l)
unfolding make_object
make_object_related k l h = ask_intrinsic (λ p q r. do_make_ordinary (Some p) (Some q) k l (BothSome r) h)

array_orderly : (p : ℕ) → IsOrderly (empty_array p)
array_orderly p = record { indices = tt; range = tt; length = (lit≤ tt, tt); names = tt; distinct = tt; no_length = refl }

pub make_array_related : {R : Naming} (k l : ℕ → Act) → Then R R k l → Related R (make_array k) (make_array l)
unfolding make_array
make_array_related k l h = ask_intrinsic (λ p q r. do_make (BothAnObject (record { class = BothArray; prototype = BothSome r; extensible = refl; indexed = BothEmpty; named = BothEmpty })) (array_orderly p) h)

append_to_related : {R : Naming} {c d : Class} (m n : ℕ) (v w : Value) (k l : Act) → BothClass R c d → R m n → BothValue R v w → Related R k l → Related R (append_to c m v k) (append_to d n w l)
append_to_related {R} m n v w k l (BothArray {n = size}) r b h = by_test (nat_lt size 4294967295) refl
  where
    below : nat_lt size 4294967295 ≡ true → size < 4294967295
    below e = grind (arith, nat_tests)

    by_test : (t : Bool) → nat_lt size 4294967295 ≡ t → Related R (cond t (create_data_property_or_throw m (Index size) v k) (raise InvalidArrayLength)) (cond t (create_data_property_or_throw n (Index size) w l) (raise InvalidArrayLength))
    by_test true e = create_or_throw_related m n (Index size) v w k l r (below e) b h
    by_test false e = raise_related InvalidArrayLength
append_to_related m n v w k l BothOrdinary r b h = raise_related NotAnObject
append_to_related m n v w k l (BothScript x y) r b h = raise_related NotAnObject
append_to_related m n v w k l BothBuiltIn r b h = raise_related NotAnObject
append_to_related m n v w k l (BothResolve x y) r b h = raise_related NotAnObject
append_to_related m n v w k l (BothReject x y) r b h = raise_related NotAnObject
append_to_related m n v w k l BothError r b h = raise_related NotAnObject
append_to_related m n v w k l (BothPromise x y) r b h = raise_related NotAnObject

pub append_related : {R : Naming} (a b x y : Value) (k l : Act) → BothValue R a x → BothValue R b y → Related R k l → Related R (append a b k) (append x y l)
unfolding append
append_related a b x y k l (BothObject r) q h = ask_class r (λ c d e. append_to_related _ _ _ _ k l e r q h)
append_related a b x y k l BothUndefined q h = raise_related NotAnObject
append_related a b x y k l BothNull q h = raise_related NotAnObject
append_related a b x y k l BothBoolean q h = raise_related NotAnObject
append_related a b x y k l (BothNumber i) q h = raise_related NotAnObject
append_related a b x y k l (BothString i) q h = raise_related NotAnObject

-- ---- members

descriptor_both : {R : Naming} (sort : MemberSort) (enumerable : Bool) {v w : Value} → BothValue R v w → BothDescriptor R (member_descriptor sort enumerable v) (member_descriptor sort enumerable w)
descriptor_both DataMember e h = record { value = BothSome h; writable = refl; get = BothNone; set = BothNone; enumerable = refl; configurable = refl }
descriptor_both GetterMember e h = record { value = BothNone; writable = refl; get = BothSome h; set = BothNone; enumerable = refl; configurable = refl }
descriptor_both SetterMember e h = record { value = BothNone; writable = refl; get = BothNone; set = BothSome h; enumerable = refl; configurable = refl }

member_function_related : {R : Naming} (sort : MemberSort) {v w : Value} (k l : Act) → BothValue R v w → Related R k l → Related R (member_function sort v k) (member_function sort w l)
member_function_related DataMember k l b h = h
member_function_related GetterMember k l b h = is_callable_related _ _ b (λ c. cond_related c _ _ _ _ h (raise_related NotAFunction))
member_function_related SetterMember k l b h = is_callable_related _ _ b (λ c. cond_related c _ _ _ _ h (raise_related NotAFunction))

define_on_related : {R : Naming} (m n : ℕ) (sort : MemberSort) (enumerable : Bool) (key : Key) (v w : Value) (k l : Act) → R m n → IsKey key → BothValue R v w → Related R k l → Related R (define_on m sort enumerable key v k) (define_on n sort enumerable key w l)
define_on_related m n sort enumerable key v w k l r i b h = member_function_related sort _ _ b (define_or_throw_related _ to_number_related m n key _ _ k l r i (descriptor_both sort enumerable b) h)

pub define_member_related : {R : Naming} (sort : MemberSort) (enumerable : Bool) (o u a x v w : Value) (k l : Act) → BothValue R o u → BothValue R a x → BothValue R v w → Related R k l → Related R (define_member sort enumerable o a v k) (define_member sort enumerable u x w l)
unfolding define_member
define_member_related sort e o u a x v w k l (BothObject r) (BothObject s) b h = raise_related PrimitiveExpected
define_member_related sort e o u a x v w k l (BothObject {m = m} {n = n} r) BothUndefined b h = with_key _ _ (λ key. define_on m sort e key v k) (λ key. define_on n sort e key w l) BothUndefined (λ key i. define_on_related m n sort e key v w k l r i b h)
define_member_related sort e o u a x v w k l (BothObject {m = m} {n = n} r) BothNull b h = with_key _ _ (λ key. define_on m sort e key v k) (λ key. define_on n sort e key w l) BothNull (λ key i. define_on_related m n sort e key v w k l r i b h)
define_member_related sort e o u a x v w k l (BothObject {m = m} {n = n} r) (BothBoolean {b = t}) b h = with_key _ _ (λ key. define_on m sort e key v k) (λ key. define_on n sort e key w l) (BothBoolean {b = t}) (λ key i. define_on_related m n sort e key v w k l r i b h)
define_member_related sort e o u a x v w k l (BothObject {m = m} {n = n} r) (BothNumber j) b h = with_key _ _ (λ key. define_on m sort e key v k) (λ key. define_on n sort e key w l) (BothNumber j) (λ key i. define_on_related m n sort e key v w k l r i b h)
define_member_related sort e o u a x v w k l (BothObject {m = m} {n = n} r) (BothString j) b h = with_key _ _ (λ key. define_on m sort e key v k) (λ key. define_on n sort e key w l) (BothString j) (λ key i. define_on_related m n sort e key v w k l r i b h)
define_member_related sort e o u a x v w k l BothUndefined q b h = raise_related NotAnObject
define_member_related sort e o u a x v w k l BothNull q b h = raise_related NotAnObject
define_member_related sort e o u a x v w k l BothBoolean q b h = raise_related NotAnObject
define_member_related sort e o u a x v w k l (BothNumber i) q b h = raise_related NotAnObject
define_member_related sort e o u a x v w k l (BothString i) q b h = raise_related NotAnObject

-- ---- names of functions

prefixed : {R : Naming} (front : Text) (a x : Value) (k l : Value → Act) → AreUnits front → BothValue R a x → Then R (BothValue R) k l → Related R (make_text (front ++ text_of_primitive a) k) (make_text (front ++ text_of_primitive x) l)
prefixed front a x k l u p h = with_text a x (λ t. make_text (front ++ t) k) (λ t. make_text (front ++ t) l) p (λ t i. made_text_related (front ++ t) k l (units_joined front t u i.units) h)

name_of_key_related : {R : Naming} (sort : MemberSort) (a x : Value) (k l : Value → Act) → BothValue R a x → Then R (BothValue R) k l → Related R (name_of_key sort a k) (name_of_key sort x l)
name_of_key_related DataMember a x k l (BothNumber {n = n} i) h = made_text_related _ k l (text_of_number_is_string n).units h
name_of_key_related DataMember a x k l BothUndefined h = h _ _ (BothString (string_tested (codes "undefined") refl))
name_of_key_related DataMember a x k l BothNull h = h _ _ (BothString (string_tested (codes "null") refl))
name_of_key_related DataMember a x k l (BothBoolean {b = true}) h = h _ _ (BothString (string_tested (codes "true") refl))
name_of_key_related DataMember a x k l (BothBoolean {b = false}) h = h _ _ (BothString (string_tested (codes "false") refl))
name_of_key_related DataMember a x k l (BothString i) h = h _ _ (BothString i)
name_of_key_related DataMember a x k l (BothObject r) h = h _ _ (BothString (string_tested [] refl))
name_of_key_related GetterMember a x k l p h = prefixed (codes "get ") a x k l (string_tested (codes "get ") refl).units p h
name_of_key_related SetterMember a x k l p h = prefixed (codes "set ") a x k l (string_tested (codes "set ") refl).units p h

empty_same : {R : Naming} {c d : Content} → BothContent R c d → has_empty_name c ≡ has_empty_name d
empty_same (BothAccessor g s) = refl
empty_same (BothData BothUndefined) = refl
empty_same (BothData BothNull) = refl
empty_same (BothData BothBoolean) = refl
empty_same (BothData (BothNumber i)) = refl
empty_same (BothData (BothString i)) = refl
empty_same (BothData (BothObject r)) = refl

name_by_related : {R : Naming} {p q : Option Property} (m n : ℕ) (sort : MemberSort) (a x : Value) (k l : Act) → BothOption (BothProperty R) p q → R m n → BothValue R a x → Related R k l → Related R (name_by p m sort a k) (name_by q n sort x l)
name_by_related m n sort a x k l BothNone r b h = h
name_by_related m n sort a x k l (BothSome {x = u} {y = v} p) r b h =
    rw (empty_same p.content, p.configurable) (cond_related (has_empty_name v.content) _ _ _ _ (cond_related v.configurable _ _ _ _ (name_of_key_related sort a x _ _ b (λ s t e. do_apply r (refl, name_is, value_both e) (λ c. h))) h) h)
  where
    value_both : {R : Naming} {s t : Value} → BothValue R s t → BothDescriptor R (value_descriptor s) (value_descriptor t)
    value_both e = record { value = BothSome e; writable = refl; get = BothNone; set = BothNone; enumerable = refl; configurable = refl }

name_callable_related : {R : Naming} (m n : ℕ) (sort : MemberSort) (a x : Value) (k l : Act) → R m n → BothValue R a x → Related R k l → Related R (name_callable m sort a k) (name_callable n sort x l)
name_callable_related m n sort a x k l r (BothObject s) h = raise_related PrimitiveExpected
name_callable_related m n sort a x k l r BothUndefined h = ask_own_property r (λ p q e. name_by_related m n sort _ _ k l e r BothUndefined h)
name_callable_related m n sort a x k l r BothNull h = ask_own_property r (λ p q e. name_by_related m n sort _ _ k l e r BothNull h)
name_callable_related m n sort a x k l r (BothBoolean {b = t}) h = ask_own_property r (λ p q e. name_by_related m n sort _ _ k l e r (BothBoolean {b = t}) h)
name_callable_related m n sort a x k l r (BothNumber i) h = ask_own_property r (λ p q e. name_by_related m n sort _ _ k l e r (BothNumber i) h)
name_callable_related m n sort a x k l r (BothString i) h = ask_own_property r (λ p q e. name_by_related m n sort _ _ k l e r (BothString i) h)

pub name_function_related : {R : Naming} (sort : MemberSort) (a f x g : Value) (k l : Act) → BothValue R a x → BothValue R f g → Related R k l → Related R (name_function sort a f k) (name_function sort x g l)
unfolding name_function
name_function_related sort a f x g k l p (BothObject {m = m} {n = n} r) h = is_callable_related _ _ (BothObject r) (λ b. cond_related b _ _ _ _ (name_callable_related m n sort a x k l r p h) h)
name_function_related sort a f x g k l p BothUndefined h = h
name_function_related sort a f x g k l p BothNull h = h
name_function_related sort a f x g k l p BothBoolean h = h
name_function_related sort a f x g k l p (BothNumber i) h = h
name_function_related sort a f x g k l p (BothString i) h = h
