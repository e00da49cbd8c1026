-- Reading properties, and testing for them and for callable values.
use Rattle.std.specs.Prelude.{ℕ, Bool, false, cond, [], ◌∷◌, length, pos, Option, Some, None, is_some, slice_get}
use Rattle.js_value.specs.Value.{Value, Undefined, Boolean, Number, String, Object, Text, same_text, Key, Index, text_of_key}
use Rattle.js_value.specs.Store.{Content, Data, Accessor, Property, callable_class, length_name}
use Rattle.es_ops.specs.Messages.{NoProperties}
use Rattle.es_ops.specs.Intrinsics.{Intrinsic, StringPrototype, NumberPrototype, BooleanPrototype}
use Rattle.es_ops.specs.Events.{TheClass, TheProperty, TheIntrinsic}
use Rattle.es_ops.specs.Act.{Act, Ask, Call}
use Rattle.es_ops.specs.Errors.{raise, make_text}

-- IsCallable (ECMA-262 7.2.3)
unfoldable pub is_callable : Value → (Bool → Act) → Act
is_callable (Object n) k = Ask (TheClass n) (λ c. k (callable_class c))
is_callable _ k = k false

-- [[Get]]: OrdinaryGet (10.1.8.1) from step 2.b on, by the property that was found
abbrev pub call_getter : Value → (receiver : Value) → (Value → Act) → Act
call_getter Undefined receiver k = k Undefined  -- 6
call_getter get receiver k = Call get receiver [] None k  -- 7

abbrev pub content_value : Content → (receiver : Value) → (Value → Act) → Act
content_value (Data v writable) receiver k = k v  -- 3
content_value (Accessor get set) receiver k = call_getter get receiver k  -- 4 to 7

unfoldable pub property_value : Option Property → (receiver : Value) → (Value → Act) → Act
property_value None receiver k = k Undefined  -- 2.b
property_value (Some p) receiver k = content_value p.content receiver k

-- Get (7.3.2)
unfoldable pub get : ℕ → Key → (Value → Act) → Act
get n key k = Ask (TheProperty key n) (λ p. property_value p (Object n) k)

-- HasProperty (7.3.11)
unfoldable pub has_property : ℕ → Key → (Bool → Act) → Act
has_property n key k = Ask (TheProperty key n) (λ p. k (is_some p))

-- what a primitive inherits from a prototype
abbrev pub inherited : Intrinsic → (receiver : Value) → Key → (Value → Act) → Act
inherited intrinsic receiver key k = Ask (TheIntrinsic intrinsic) (λ p. Ask (TheProperty key p) (λ q. property_value q receiver k))

-- StringGetOwnProperty (10.4.3.5): the units by their index, and `length`
pub data StringProperty : Type 0 where
  AUnit : ℕ → StringProperty
  Length : StringProperty
  Inherits : StringProperty

abbrev pub string_unit : Option ℕ → StringProperty
string_unit (Some u) = AUnit u
string_unit None = Inherits

abbrev pub string_property : Text → Key → StringProperty
string_property t (Index i) = string_unit (slice_get t i)
string_property t key = cond (same_text (text_of_key key) length_name) Length Inherits

abbrev pub string_value : Text → StringProperty → Key → (Value → Act) → Act
string_value t (AUnit u) key k = make_text (u ∷ []) k
string_value t Length key k = k (Number (pos (length t)))
string_value t Inherits key k = inherited StringPrototype (String t) key k

-- GetV (7.3.3)
unfoldable pub get_v : Value → Key → (Value → Act) → Act
get_v (Object n) key k = get n key k
get_v (String t) key k = string_value t (string_property t key) key k
get_v (Number x) key k = inherited NumberPrototype (Number x) key k
get_v (Boolean b) key k = inherited BooleanPrototype (Boolean b) key k
get_v _ key k = raise NoProperties
