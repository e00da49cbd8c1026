-- Errors, reads and conversions are the same but for the numbers of things.
use Rattle.std.proofs.Common.{arith, length, ◌≤◌, ◌++◌, nat_lt, ◌≡◌, ℕ, ◌<◌, Bool, true, false, cond, [], ◌∷◌, ℤ, pos, refl, Option, Some, None, IfSome, is_some, codes, slice_get, lit≤}
use Rattle.std.proofs.lemmas.Bool.Decides.{nat_tests}
use Rattle.js_value.specs.Number.{IsNumber}
use Rattle.js_value.specs.NumberText.{number_of_text}
use Rattle.js_value.specs.Value.{String, Value, Undefined, Null, Boolean, Object, is_object, Text, same_text, Key, Index, Named, Numeral, text_of_key, key_of_text}
use Rattle.js_value.specs.Store.{Content, Property, Class, callable_class, length_name}
use Rattle.js_value.specs.Order.{AreUnits, IsString, IsKey, IsOrderly}
use Rattle.js_value.specs.Literal.{digits_number}
use Rattle.js_value.proofs.Keys.{key_of_text_is_key, key_of_number_is_key}
use Rattle.js_value.proofs.Profile.{is_string, string_tested, text_of_number_is_string, number_of_text_is_number, unit_of_text}
use Rattle.es_ops.specs.Messages.{Message, NumberOutOfRange, StringTooLong, InvalidArrayLength, InvalidArgument, NotDefined, NotInitialised, EmptyArray, SuperCalledTwice, AssignmentToConstant, NotAFunction, NotAConstructor, CalledWithoutNew, NoProperties, NotWritable, NotDefinable, NotDeletable, NotAnObject, NoPrimitiveValue, PrimitiveExpected, AccessorOnIndex, PrototypeNotSettable, ResolvedWithItself, WrongReceiver, ReturnedPrimitive, text_of_message}
use Rattle.es_ops.specs.Intrinsics.{Intrinsic, StringPrototype, NumberPrototype, BooleanPrototype}
use Rattle.es_ops.specs.Events.{MakeText}
use Rattle.es_ops.specs.Act.{Act, Do}
use Rattle.es_ops.specs.Errors.{make_error, raise, make_text, message_name, error_record, longest_text}
use Rattle.es_ops.specs.PropertyReads.{is_callable, call_getter, content_value, property_value, get, has_property, inherited, StringProperty, AUnit, Length, Inherits, string_unit, string_property, string_value, get_v}
use Rattle.es_ops.specs.Conversions.{Hint, DefaultHint, NumberHint, StringHint, primitive_by, to_primitive, number_of_primitive, number_or_raise, to_number, text_of_primitive, to_string, key_of_primitive, to_property_key, primitive_expected, number_expected, text_expected, key_expected}
use Rattle.es_ops.specs.Related.{Naming, BothOption, BothNone, BothSome, BothEmpty, BothCons, BothValue, BothUndefined, BothNull, BothBoolean, BothNumber, BothString, BothObject, BothContent, BothData, BothAccessor, BothProperty, BothClass, BothOrdinary, BothArray, BothScript, BothBuiltIn, BothResolve, BothReject, BothError, BothPromise, BothAnObject, Related, BothAsk, BothDo, BothCall, Then, ThenSame}
use Rattle.es_ops.proofs.Acting.{acting, ask_class, do_text}
use Rattle.es_ops.proofs.Parts.{cond_related}

callable_same : {R : Naming} {c d : Class} → BothClass R c d → callable_class c ≡ callable_class d
callable_same BothOrdinary = refl
callable_same BothArray = refl
callable_same (BothScript h cs) = refl
callable_same BothBuiltIn = refl
callable_same (BothResolve p m) = refl
callable_same (BothReject p m) = refl
callable_same BothError = refl
callable_same (BothPromise s rs) = refl

pub is_callable_related : {R : Naming} {v w : Value} (k l : Bool → Act) → BothValue R v w → ((b : Bool) → Related R (k b) (l b)) → Related R (is_callable v k) (is_callable w l)
unfolding is_callable
is_callable_related k l (BothObject n) h = ask_class n (λ c d e. rw (callable_same e) (h (callable_class d)))
is_callable_related k l BothUndefined h = search (acting)
is_callable_related k l BothNull h = search (acting)
is_callable_related k l BothBoolean h = search (acting)
is_callable_related k l (BothNumber n) h = search (acting)
is_callable_related k l (BothString n) h = search (acting)

getter_related : {R : Naming} {f g t u : Value} (k l : Value → Act) → BothValue R f g → BothValue R t u → Then R (BothValue R) k l → Related R (call_getter f t k) (call_getter g u l)
getter_related k l BothUndefined r h = search (acting)
getter_related k l BothNull r h = search (acting, BothNull)
getter_related k l BothBoolean r h = search (acting, BothBoolean)
getter_related k l (BothNumber n) r h = search (acting, BothNumber)
getter_related k l (BothString n) r h = search (acting, BothString)
getter_related k l (BothObject n) r h = search (acting)

content_related : {R : Naming} {c d : Content} {t u : Value} (k l : Value → Act) → BothContent R c d → BothValue R t u → Then R (BothValue R) k l → Related R (content_value c t k) (content_value d u l)
content_related k l (BothData v) r h = search (acting)
content_related k l (BothAccessor g s) r h = search (acting, getter_related)

pub property_value_related : {R : Naming} {p q : Option Property} {t u : Value} (k l : Value → Act) → BothOption (BothProperty R) p q → BothValue R t u → Then R (BothValue R) k l → Related R (property_value p t k) (property_value q u l)
unfolding property_value
property_value_related k l BothNone r h = search (acting)
property_value_related k l (BothSome p) r h = search (acting, content_related)

pub get_related : {R : Naming} (m n : ℕ) (key : Key) (k l : Value → Act) → R m n → Then R (BothValue R) k l → Related R (get m key k) (get n key l)
unfolding get
get_related m n key k l r h = search (acting, property_value_related, refl)

pub has_property_related : {R : Naming} (m n : ℕ) (key : Key) (k l : Bool → Act) → R m n → ((b : Bool) → Related R (k b) (l b)) → Related R (has_property m key k) (has_property n key l)
unfolding has_property
has_property_related {R} m n key k l r h = BothAsk (refl, r) (λ p q e. by_found p q e)
  where
    by_found : (p q : Option Property) → BothOption (BothProperty R) p q → Related R (k (is_some p)) (l (is_some q))
    by_found p q BothNone = h false
    by_found p q (BothSome e) = h true

-- ---- errors and made texts

error_orderly : (prototype : ℕ) (text : Text) → IsOrderly (error_record prototype text)
unfolding digits_number
error_orderly prototype text = record { indices = tt; range = tt; length = tt; names = (record { text = string_tested message_name refl; no_index = refl }, tt); distinct = (refl, tt); no_length = tt }

message_is_string : (e : Message) → IsString (text_of_message e)
message_is_string e = string_tested (text_of_message e) (tested e)
  where
    tested : (e : Message) → is_string (text_of_message e) ≡ true
    tested NumberOutOfRange = refl
    tested StringTooLong = refl
    tested InvalidArrayLength = refl
    tested InvalidArgument = refl
    tested NotDefined = refl
    tested NotInitialised = refl
    tested EmptyArray = refl
    tested SuperCalledTwice = refl
    tested AssignmentToConstant = refl
    tested NotAFunction = refl
    tested NotAConstructor = refl
    tested CalledWithoutNew = refl
    tested NoProperties = refl
    tested NotWritable = refl
    tested NotDefinable = refl
    tested NotDeletable = refl
    tested NotAnObject = refl
    tested NoPrimitiveValue = refl
    tested PrimitiveExpected = refl
    tested AccessorOnIndex = refl
    tested PrototypeNotSettable = refl
    tested ResolvedWithItself = refl
    tested WrongReceiver = refl
    tested ReturnedPrimitive = refl

pub make_error_related : {R : Naming} (e : Message) (k l : ℕ → Act) → Then R R k l → Related R (make_error e k) (make_error e l)
unfolding make_error
make_error_related e k l h = BothAsk refl (λ p q r. BothDo (BothAnObject (record { class = BothError; prototype = BothSome r; extensible = refl; indexed = BothEmpty; named = BothCons (record { key = refl; property = record { content = BothData (BothString (message_is_string e)); enumerable = refl; configurable = refl } }) BothEmpty }), error_orderly p (text_of_message e)) h)

pub raise_related : {R : Naming} (e : Message) → Related R (raise e) (raise e)
unfolding raise
raise_related e = search (acting, make_error_related)

-- a made text has few units
pub made_text_related : {R : Naming} (t : Text) (k l : Value → Act) → AreUnits t → Then R (BothValue R) k l → Related R (make_text t k) (make_text t l)
unfolding make_text
made_text_related {R} t k l x h = by_length (nat_lt longest_text (length t)) refl
  where
    short : nat_lt longest_text (length t) ≡ false → length t ≤ longest_text
    short e = grind (arith, nat_tests)

    by_length : (b : Bool) → nat_lt longest_text (length t) ≡ b → Related R (cond b (raise StringTooLong) (Do (MakeText (length t)) (λ _. k (String t)))) (cond b (raise StringTooLong) (Do (MakeText (length t)) (λ _. l (String t))))
    by_length true e = raise_related StringTooLong
    by_length false e = do_text (h _ _ (BothString (record { units = x; bound = omega (arith, short e) })))

pub make_text_related : {R : Naming} (t : Text) (k l : Value → Act) → IsString t → Then R (BothValue R) k l → Related R (make_text t k) (make_text t l)
make_text_related t k l x h = made_text_related t k l x.units h

pub units_joined : (s t : Text) → AreUnits s → AreUnits t → AreUnits (s ++ t)
units_joined [] t h g = g
units_joined (u ∷ s) t h g = (h.0, units_joined s t h.1 g)

-- ---- GetV

inherited_related : {R : Naming} (i : Intrinsic) {t u : Value} (key : Key) (k l : Value → Act) → BothValue R t u → Then R (BothValue R) k l → Related R (inherited i t key k) (inherited i u key l)
inherited_related i key k l r h = search (acting, property_value_related, refl)

-- a unit that is read from a text has 16 bits
IsUnit : StringProperty → Type 0
IsUnit (AUnit u) = u < 65536
IsUnit p = Unit {0}

property_is_unit : (t : Text) (key : Key) → IsString t → IsUnit (string_property t key)
unfolding IsUnit
property_is_unit t (Index i) x = at (slice_get t i) (unit_of_text t i x.units)
  where
    at : (o : Option ℕ) → IfSome o (λ u. u < 65536) → IsUnit (string_unit o)
    at None h = tt
    at (Some u) h = h
property_is_unit t (Named name) x = by_test (same_text (text_of_key (Named name)) length_name)
  where
    by_test : (b : Bool) → IsUnit (cond b Length Inherits)
    by_test true = tt
    by_test false = tt
property_is_unit t (Numeral z) x = by_test (same_text (text_of_key (Numeral z)) length_name)
  where
    by_test : (b : Bool) → IsUnit (cond b Length Inherits)
    by_test true = tt
    by_test false = tt

string_value_related : {R : Naming} (t : Text) (p : StringProperty) (key : Key) (k l : Value → Act) → IsString t → IsUnit p → Then R (BothValue R) k l → Related R (string_value t p key k) (string_value t p key l)
unfolding IsUnit
string_value_related t (AUnit u) key k l x i h = make_text_related (u ∷ []) k l (record { units = (i, tt); bound = lit≤ tt }) h
string_value_related t Length key k l x i h = search (acting, BothNumber)
string_value_related t Inherits key k l x i h = inherited_related StringPrototype key k l (BothString x) h

pub get_v_related : {R : Naming} (v w : Value) (key : Key) (k l : Value → Act) → BothValue R v w → Then R (BothValue R) k l → Related R (get_v v key k) (get_v w key l)
unfolding get_v
get_v_related v w key k l (BothObject {m = m} {n = n} r) h = search (acting, get_related)
get_v_related v w key k l (BothString {t = t} x) h = string_value_related t (string_property t key) key k l x (property_is_unit t key x) h
get_v_related v w key k l (BothNumber x) h = inherited_related NumberPrototype key k l (BothNumber x) h
get_v_related v w key k l BothBoolean h = inherited_related BooleanPrototype key k l BothBoolean h
get_v_related v w key k l BothUndefined h = search (acting, raise_related)
get_v_related v w key k l BothNull h = search (acting, raise_related)

-- ---- conversions

primitive_by_related : {R : Naming} (m n : ℕ) (name : Text) (next other : Act) (k l : Value → Act) → R m n → Related R next other → Then R (BothValue R) k l → Related R (primitive_by m name next k) (primitive_by n name other l)
primitive_by_related {R} m n name next other k l r a h =
    get_related m n (Named name) _ _ r (λ f g e. is_callable_related _ _ e (λ b. cond_related b _ _ _ _ (BothCall e (BothObject r) BothEmpty BothNone (λ v w c. by_result v w c)) a))
  where
    by_result : (v w : Value) → BothValue R v w → Related R (cond (is_object v) next (k v)) (cond (is_object w) other (l w))
    by_result v w (BothObject e) = a
    by_result v w BothUndefined = h _ _ BothUndefined
    by_result v w BothNull = h _ _ BothNull
    by_result v w BothBoolean = h _ _ BothBoolean
    by_result v w (BothNumber e) = h _ _ (BothNumber e)
    by_result v w (BothString e) = h _ _ (BothString e)

pub to_primitive_related : {R : Naming} (hint : Hint) (v w : Value) (k l : Value → Act) → BothValue R v w → Then R (BothValue R) k l → Related R (to_primitive hint v k) (to_primitive hint w l)
unfolding to_primitive
to_primitive_related StringHint v w k l (BothObject r) h = search (acting, primitive_by_related, raise_related)
to_primitive_related NumberHint v w k l (BothObject r) h = search (acting, primitive_by_related, raise_related)
to_primitive_related DefaultHint v w k l (BothObject r) h = search (acting, primitive_by_related, raise_related)
to_primitive_related hint v w k l BothUndefined h = search (acting)
to_primitive_related hint v w k l BothNull h = search (acting, BothNull)
to_primitive_related hint v w k l BothBoolean h = search (acting, BothBoolean)
to_primitive_related hint v w k l (BothNumber e) h = search (acting, BothNumber)
to_primitive_related hint v w k l (BothString e) h = search (acting, BothString)

pub number_or_raise_related : {R : Naming} (n : Option ℤ) (k l : ℤ → Act) → ((x : ℤ) → n ≡ Some x → IsNumber x) → ThenSame R IsNumber k l → Related R (number_or_raise n k) (number_or_raise n l)
number_or_raise_related None k l b h = search (acting, raise_related)
number_or_raise_related (Some n) k l b h = search (acting, refl)

pub with_number : {R : Naming} (v w : Value) (k l : ℤ → Act) → BothValue R v w → ThenSame R IsNumber k l → Related R (number_or_raise (number_of_primitive v) k) (number_or_raise (number_of_primitive w) l)
with_number v w k l (BothObject r) h = raise_related NumberOutOfRange
with_number v w k l BothUndefined h = raise_related NumberOutOfRange
with_number v w k l BothNull h = h (pos 0) (record { bound = lit≤ tt })
with_number v w k l (BothBoolean {b = true}) h = h (pos 1) (record { bound = lit≤ tt })
with_number v w k l (BothBoolean {b = false}) h = h (pos 0) (record { bound = lit≤ tt })
with_number v w k l (BothNumber e) h = h _ e
with_number v w k l (BothString {t = t} e) h = number_or_raise_related (number_of_text t) k l (number_of_text_is_number t) h

pub with_text : {R : Naming} (v w : Value) (k l : Text → Act) → BothValue R v w → ThenSame R IsString k l → Related R (k (text_of_primitive v)) (l (text_of_primitive w))
with_text v w k l (BothObject r) h = h [] (string_tested [] refl)
with_text v w k l BothUndefined h = h _ (string_tested (codes "undefined") refl)
with_text v w k l BothNull h = h _ (string_tested (codes "null") refl)
with_text v w k l (BothBoolean {b = true}) h = h _ (string_tested (codes "true") refl)
with_text v w k l (BothBoolean {b = false}) h = h _ (string_tested (codes "false") refl)
with_text v w k l (BothNumber {n = n} e) h = h _ (text_of_number_is_string n)
with_text v w k l (BothString e) h = h _ e

pub with_key : {R : Naming} (v w : Value) (k l : Key → Act) → BothValue R v w → ThenSame R IsKey k l → Related R (k (key_of_primitive v)) (l (key_of_primitive w))
with_key v w k l (BothObject r) h = with_text (Object _) (Object _) (λ t. k (key_of_text t)) (λ t. l (key_of_text t)) (BothObject r) (λ t e. h _ (key_of_text_is_key t e))
with_key v w k l BothUndefined h = with_text Undefined Undefined (λ t. k (key_of_text t)) (λ t. l (key_of_text t)) BothUndefined (λ t e. h _ (key_of_text_is_key t e))
with_key v w k l BothNull h = with_text Null Null (λ t. k (key_of_text t)) (λ t. l (key_of_text t)) BothNull (λ t e. h _ (key_of_text_is_key t e))
with_key v w k l (BothBoolean {b = b}) h = with_text (Boolean b) (Boolean b) (λ t. k (key_of_text t)) (λ t. l (key_of_text t)) BothBoolean (λ t e. h _ (key_of_text_is_key t e))
with_key v w k l (BothNumber {n = n} e) h = h _ (key_of_number_is_key n e)
with_key v w k l (BothString {t = t} e) h = h _ (key_of_text_is_key t e)

pub to_number_related : {R : Naming} (v w : Value) (k l : ℤ → Act) → BothValue R v w → ThenSame R IsNumber k l → Related R (to_number v k) (to_number w l)
unfolding to_number
to_number_related v w k l b h = search (acting, to_primitive_related, with_number)

pub to_string_related : {R : Naming} (v w : Value) (k l : Text → Act) → BothValue R v w → ThenSame R IsString k l → Related R (to_string v k) (to_string w l)
unfolding to_string
to_string_related v w k l b h = to_primitive_related StringHint v w _ _ b (λ p q c. with_text p q k l c h)

pub to_property_key_related : {R : Naming} (v w : Value) (k l : Key → Act) → BothValue R v w → ThenSame R IsKey k l → Related R (to_property_key v k) (to_property_key w l)
unfolding to_property_key
to_property_key_related v w k l b h = to_primitive_related StringHint v w _ _ b (λ p q c. with_key p q k l c h)

-- ---- what built-ins take for a primitive

primitive_expected_related : {R : Naming} (v w : Value) (k l : Value → Act) → BothValue R v w → Then R (BothValue R) k l → Related R (primitive_expected v k) (primitive_expected w l)
primitive_expected_related v w k l (BothObject r) h = search (acting, raise_related)
primitive_expected_related v w k l BothUndefined h = search (acting)
primitive_expected_related v w k l BothNull h = search (acting, BothNull)
primitive_expected_related v w k l BothBoolean h = search (acting, BothBoolean)
primitive_expected_related v w k l (BothNumber e) h = search (acting, BothNumber)
primitive_expected_related v w k l (BothString e) h = search (acting, BothString)

pub number_expected_related : {R : Naming} (v w : Value) (k l : ℤ → Act) → BothValue R v w → ThenSame R IsNumber k l → Related R (number_expected v k) (number_expected w l)
unfolding number_expected
number_expected_related v w k l b h = search (acting, primitive_expected_related, with_number)

pub text_expected_related : {R : Naming} (v w : Value) (k l : Text → Act) → BothValue R v w → ThenSame R IsString k l → Related R (text_expected v k) (text_expected w l)
unfolding text_expected
text_expected_related v w k l b h = primitive_expected_related v w _ _ b (λ p q c. with_text p q k l c h)

pub key_expected_related : {R : Naming} (v w : Value) (k l : Key → Act) → BothValue R v w → ThenSame R IsKey k l → Related R (key_expected v k) (key_expected w l)
unfolding key_expected
key_expected_related v w k l b h = primitive_expected_related v w _ _ b (λ p q c. with_key p q k l c h)
