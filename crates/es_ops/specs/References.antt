-- Property references by values: the base is tested, then the key is converted, then the property is read, written or
-- deleted (own order; ECMA-262 6.2.5, 13.3.3, 13.3.7).
use Rattle.std.specs.Prelude.{ℕ, Option, Some, None}
use Rattle.js_value.specs.Value.{Value, Undefined, Null, Key}
use Rattle.es_ops.specs.Messages.{NoProperties, NotWritable}
use Rattle.es_ops.specs.Events.{TheProperty, ThePrototype}
use Rattle.es_ops.specs.Act.{Act, Ask}
use Rattle.es_ops.specs.Errors.{raise}
use Rattle.es_ops.specs.PropertyReads.{property_value, get_v}
use Rattle.es_ops.specs.PropertyWrites.{accepted_or, ordinary_set, put_value, delete_v}
use Rattle.es_ops.specs.Conversions.{StringHint, to_primitive, to_number, to_property_key}

-- RequireObjectCoercible (7.2.1)
unfoldable pub require_object_coercible : Value → Act → Act
require_object_coercible Undefined k = raise NoProperties
require_object_coercible Null k = raise NoProperties
require_object_coercible v k = k

unfoldable pub get_by_value : (base key : Value) → (Value → Act) → Act
get_by_value base key k = require_object_coercible base (to_property_key key (λ name. get_v base name k))

unfoldable pub put_by_value : (base key v : Value) → Act → Act
put_by_value base key v k = require_object_coercible base (to_property_key key (λ name. put_value base name v k))

unfoldable pub delete_by_value : (base key : Value) → Act → Act
delete_by_value base key k = require_object_coercible base (to_property_key key (λ name. delete_v base name k))

-- a key that is used more than once: the primitive that it is converted to, which later conversions leave as it is
unfoldable pub key_by_value : (base key : Value) → (Value → Act) → Act
key_by_value base key k = require_object_coercible base (to_primitive StringHint key k)

-- ---- `super` (13.3.7)

-- OrdinaryGet (10.1.8.1)
unfoldable pub ordinary_get : ℕ → Key → (receiver : Value) → (Value → Act) → Act
ordinary_get n key receiver k = Ask (TheProperty key n) (λ p. property_value p receiver k)

-- GetSuperBase (9.1.1.3.5) of a function's home object; a base that is none is tested before the key (own)
abbrev pub base_or_raise : Option ℕ → (ℕ → Act) → Act
base_or_raise None k = raise NoProperties
base_or_raise (Some p) k = k p

abbrev pub super_base : (home : Option ℕ) → (ℕ → Act) → Act
super_base None k = raise NoProperties
super_base (Some home) k = Ask (ThePrototype home) (λ p. base_or_raise p k)

unfoldable pub super_get : (home : Option ℕ) → (receiver key : Value) → (Value → Act) → Act
super_get home receiver key k = super_base home (λ p. to_property_key key (λ name. ordinary_get p name receiver k))

unfoldable pub super_set : (home : Option ℕ) → (receiver key v : Value) → Act → Act
super_set home receiver key v k =
    super_base home (λ p. to_property_key key (λ name. ordinary_set to_number p name v receiver (accepted_or (raise NotWritable) k)))
