-- Property references by values are the same but for the numbers of things.
use Rattle.std.proofs.Common.{ℕ, Option}
use Rattle.js_value.specs.Value.{Value, Key}
use Rattle.es_ops.specs.Messages.{NoProperties, NotWritable}
use Rattle.es_ops.specs.Act.{Act}
use Rattle.es_ops.specs.References.{require_object_coercible, get_by_value, put_by_value, delete_by_value, key_by_value, ordinary_get, base_or_raise, super_base, super_get, super_set}
use Rattle.es_ops.specs.Related.{Naming, BothOption, BothNone, BothSome, BothValue, BothUndefined, BothNull, BothBoolean, BothNumber, BothString, BothObject, Related, Then}
use Rattle.es_ops.proofs.Acting.{ask_prototype, ask_property}
use Rattle.es_ops.proofs.ReadsRelated.{raise_related, property_value_related, get_v_related, to_primitive_related, to_number_related, to_property_key_related}
use Rattle.es_ops.proofs.WritesRelated.{accepted_related, ordinary_set_related, put_value_related, delete_v_related}

pub require_related : {R : Naming} (a x : Value) (k l : Act) → BothValue R a x → Related R k l → Related R (require_object_coercible a k) (require_object_coercible x l)
unfolding require_object_coercible
require_related a x k l BothUndefined h = raise_related NoProperties
require_related a x k l BothNull h = raise_related NoProperties
require_related a x k l BothBoolean h = h
require_related a x k l (BothNumber i) h = h
require_related a x k l (BothString i) h = h
require_related a x k l (BothObject r) h = h

pub get_by_value_related : {R : Naming} (a b x y : Value) (k l : Value → Act) → BothValue R a x → BothValue R b y → Then R (BothValue R) k l → Related R (get_by_value a b k) (get_by_value x y l)
unfolding get_by_value
get_by_value_related a b x y k l p q h = require_related a x _ _ p (to_property_key_related _ _ _ _ q (λ key i. get_v_related _ _ key k l p h))

pub put_by_value_related : {R : Naming} (a b v x y w : Value) (k l : Act) → BothValue R a x → BothValue R b y → BothValue R v w → Related R k l → Related R (put_by_value a b v k) (put_by_value x y w l)
unfolding put_by_value
put_by_value_related a b v x y w k l p q r h = require_related a x _ _ p (to_property_key_related _ _ _ _ q (λ key i. put_value_related _ _ key _ _ k l p i r h))

pub delete_by_value_related : {R : Naming} (a b x y : Value) (k l : Act) → BothValue R a x → BothValue R b y → Related R k l → Related R (delete_by_value a b k) (delete_by_value x y l)
unfolding delete_by_value
delete_by_value_related a b x y k l p q h = require_related a x _ _ p (to_property_key_related _ _ _ _ q (λ key i. delete_v_related _ _ key k l p h))

pub key_by_value_related : {R : Naming} (a b x y : Value) (k l : Value → Act) → BothValue R a x → BothValue R b y → Then R (BothValue R) k l → Related R (key_by_value a b k) (key_by_value x y l)
unfolding key_by_value
key_by_value_related a b x y k l p q h = require_related a x _ _ p (to_primitive_related _ _ _ _ _ q h)

pub ordinary_get_related : {R : Naming} (m n : ℕ) (key : Key) (a x : Value) (k l : Value → Act) → R m n → BothValue R a x → Then R (BothValue R) k l → Related R (ordinary_get m key a k) (ordinary_get n key x l)
unfolding ordinary_get
ordinary_get_related m n key a x k l r p h = ask_property r (λ u v e. property_value_related k l e p h)

base_related : {R : Naming} {p q : Option ℕ} (k l : ℕ → Act) → BothOption R p q → Then R R k l → Related R (base_or_raise p k) (base_or_raise q l)
base_related k l BothNone h = raise_related NoProperties
base_related k l (BothSome r) h = h _ _ r

super_base_related : {R : Naming} {p q : Option ℕ} (k l : ℕ → Act) → BothOption R p q → Then R R k l → Related R (super_base p k) (super_base q l)
super_base_related k l BothNone h = raise_related NoProperties
super_base_related k l (BothSome r) h = ask_prototype r (λ u v e. base_related k l e h)

pub super_get_related : {R : Naming} (m n : Option ℕ) (a b x y : Value) (k l : Value → Act) → BothOption R m n → BothValue R a x → BothValue R b y → Then R (BothValue R) k l → Related R (super_get m a b k) (super_get n x y l)
unfolding super_get
super_get_related m n a b x y k l r p q h = super_base_related _ _ r (λ u v s. to_property_key_related _ _ _ _ q (λ key i. ordinary_get_related u v key a x k l s p h))

pub super_set_related : {R : Naming} (m n : Option ℕ) (a b v x y w : Value) (k l : Act) → BothOption R m n → BothValue R a x → BothValue R b y → BothValue R v w → Related R k l → Related R (super_set m a b v k) (super_set n x y w l)
unfolding super_set
super_set_related m n a b v x y w k l r p q i h = super_base_related _ _ r (λ u z s. to_property_key_related _ _ _ _ q (λ key j. ordinary_set_related _ to_number_related u z key _ _ _ _ _ _ s j i p (λ c. accepted_related _ _ _ _ c (raise_related NotWritable) h)))
