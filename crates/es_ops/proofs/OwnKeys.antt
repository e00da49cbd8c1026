-- The own keys of an orderly object are keys.
use Rattle.std.proofs.Common.{ℕ, zero, suc, List, [], ◌∷◌, ◌++◌, map, refl, IfSome, slice_get}
use Rattle.js_value.specs.Value.{Text, Key, Index, Named}
use Rattle.js_value.specs.Store.{Class, Ordinary, Array, ScriptFunction, BuiltInFunction, ResolveFunction, RejectFunction, Error, Promise, ObjectRecord, Property, length_name, length_entry, strings, own_keys}
use Rattle.js_value.specs.Literal.{digits_number}
use Rattle.js_value.specs.Order.{IsName, IsKey, IsOrderly, AllBelow, AreNames}
use Rattle.js_value.proofs.Profile.{string_tested}

abbrev AreKeys : List Key → Type 0
AreKeys [] = Unit {0}
AreKeys (key ∷ keys) = IsKey key × AreKeys keys

indices_are : {X : Type 0} (es : List (ℕ × X)) → AllBelow 4294967295 es → AreKeys (map (λ e. Index e.0) es)
indices_are [] h = tt
indices_are (e ∷ es) h = (h.0, indices_are es h.1)

names_are : {X : Type 0} (es : List (Text × X)) → AreNames es → AreKeys (map (λ e. Named e.0) es)
names_are [] h = tt
names_are (e ∷ es) h = (h.0, names_are es h.1)

length_is_name : IsName length_name
unfolding digits_number
length_is_name = record { text = string_tested length_name refl; no_index = refl }

strings_are : (c : Class) (es : List (Text × Property)) → AreNames es → AreNames (length_entry c ++ es)
strings_are (Array n w) es h = (length_is_name, h)
strings_are Ordinary es h = h
strings_are (ScriptFunction x y home captured) es h = h
strings_are (BuiltInFunction row) es h = h
strings_are (ResolveFunction p m) es h = h
strings_are (RejectFunction p m) es h = h
strings_are Error es h = h
strings_are (Promise s rs) es h = h

joined_are : (xs ys : List Key) → AreKeys xs → AreKeys ys → AreKeys (xs ++ ys)
joined_are [] ys h g = g
joined_are (x ∷ xs) ys h g = (h.0, joined_are xs ys h.1 g)

one_is : (xs : List Key) (place : ℕ) → AreKeys xs → IfSome (slice_get xs place) IsKey
one_is [] place h = tt
one_is (x ∷ xs) zero h = h.0
one_is (x ∷ xs) (suc place) h = one_is xs place h.1

pub own_key_is_key : (o : ObjectRecord) (place : ℕ) → IsOrderly o → IfSome (slice_get (own_keys o) place) IsKey
own_key_is_key o place h = one_is (own_keys o) place (joined_are (map (λ e. Index e.0) o.indexed) (map (λ e. Named e.0) (strings o)) (indices_are o.indexed h.range) (names_are (strings o) (strings_are o.class o.named h.names)))
