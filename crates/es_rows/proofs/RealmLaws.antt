-- The realm is well-formed: its things are tested one by one, and each test tells what it says.
use Rattle.std.proofs.Common.{◌≡◌, ℕ, zero, suc, ◌<◌, Bool, true, false, ◌&&◌, nat_lt, nat_le, List, [], ◌∷◌, length, unsigned_abs, Option, Some, None, slice_get, refl, sym, arith, true≢false}
use Rattle.std.specs.List.{list_all}
use Rattle.std.proofs.lemmas.Bool.Decides.{nat_tests}
use Rattle.js_value.specs.Number.{greatest}
use Rattle.js_value.specs.NumberText.{index_of_text}
use Rattle.js_value.specs.Literal.{digits_number}
use Rattle.js_value.specs.Value.{Value, Undefined, Null, Boolean, Number, String, Object, Text, same_text}
use Rattle.js_value.specs.Store.{Store, Content, Data, Accessor, Property, Class, Ordinary, Array, ScriptFunction, BuiltInFunction, ResolveFunction, RejectFunction, Error, Promise, ObjectRecord, Thing, found, no_object, as_object, as_cell, object_in, cell_in, length_name}
use Rattle.js_value.specs.Order.{Distinct, AreNames, FitsLength, NoLength, IsOrderly}
use Rattle.js_value.specs.WellFormed.{IsValueBelow, IfValueBelow, IfNumberBelow, AreNumbersBelow, IsContentBelow, ArePropertiesBelow, IsClassBelow, IsObjectBelow, ChainEnds, Ended, Next, IsWellFormed}
use Rattle.js_value.proofs.Ascii.{and_left, and_right}
use Rattle.js_value.proofs.Profile.{is_string, string_tested}
use Rattle.es_rows.specs.Realm.{realm_store, realm_places}

-- ---- tests, and what they tell

below_tested : (m n : ℕ) → nat_lt m n ≡ true → m < n
below_tested m n e = grind (arith, nat_tests)

abbrev is_none : {A : Type 0} → Option A → Bool
is_none None = true
is_none (Some a) = false

none_tested : {A : Type 0} (o : Option A) → is_none o ≡ true → o ≡ None
none_tested None e = refl
none_tested (Some a) e = absurd (true≢false (sym e))

abbrev is_value_below : ℕ → Value → Bool
is_value_below m (Number n) = nat_le (unsigned_abs n) greatest
is_value_below m (String t) = is_string t
is_value_below m (Object n) = nat_lt n m
is_value_below m v = true

value_tested : (m : ℕ) (v : Value) → is_value_below m v ≡ true → IsValueBelow m v
value_tested m Undefined e = tt
value_tested m Null e = tt
value_tested m (Boolean b) e = tt
value_tested m (Number n) e = record { bound = grind (arith, nat_tests) }
value_tested m (String t) e = string_tested t e
value_tested m (Object n) e = below_tested n m e

abbrev is_content_below : ℕ → Content → Bool
is_content_below m (Data v writable) = is_value_below m v
is_content_below m (Accessor get set) = is_value_below m get && is_value_below m set

content_tested : (m : ℕ) (c : Content) → is_content_below m c ≡ true → IsContentBelow m c
content_tested m (Data v writable) e = value_tested m v e
content_tested m (Accessor get set) e = (value_tested m get (and_left (is_value_below m get) (is_value_below m set) e), value_tested m set (and_right (is_value_below m get) (is_value_below m set) e))

abbrev are_properties_below : ℕ → List (Text × Property) → Bool
are_properties_below m [] = true
are_properties_below m (e ∷ es) = is_content_below m e.1.content && are_properties_below m es

properties_tested : (m : ℕ) (es : List (Text × Property)) → are_properties_below m es ≡ true → ArePropertiesBelow m es
properties_tested m [] h = tt
properties_tested m (e ∷ es) h = (content_tested m e.1.content (and_left (is_content_below m e.1.content) (are_properties_below m es) h), properties_tested m es (and_right (is_content_below m e.1.content) (are_properties_below m es) h))

abbrev is_name : Text → Bool
is_name t = is_string t && is_none (index_of_text t)

abbrev are_names : List (Text × Property) → Bool
are_names [] = true
are_names (e ∷ es) = is_name e.0 && are_names es

names_tested : (es : List (Text × Property)) → are_names es ≡ true → AreNames es
names_tested [] h = tt
names_tested (e ∷ es) h =
    let named = and_left (is_name e.0) (are_names es) h in
    (record { text = string_tested e.0 (and_left (is_string e.0) (is_none (index_of_text e.0)) named); no_index = none_tested _ (and_right (is_string e.0) (is_none (index_of_text e.0)) named) }, names_tested es (and_right (is_name e.0) (are_names es) h))

abbrev are_distinct : List (Text × Property) → Bool
are_distinct [] = true
are_distinct (e ∷ es) = is_none (found (same_text e.0) es) && are_distinct es

distinct_tested : (es : List (Text × Property)) → are_distinct es ≡ true → Distinct es
distinct_tested [] h = tt
distinct_tested (e ∷ es) h = (none_tested _ (and_left (is_none (found (same_text e.0) es)) (are_distinct es) h), distinct_tested es (and_right (is_none (found (same_text e.0) es)) (are_distinct es) h))

-- the classes of the realm's objects, which have no indices
abbrev is_plain : Class → List (Text × Property) → Bool
is_plain Ordinary es = true
is_plain (BuiltInFunction row) es = true
is_plain (Array n writable) es = nat_lt n 4294967296 && is_none (found (same_text length_name) es)
is_plain c es = false

abbrev is_number_below : ℕ → Option ℕ → Bool
is_number_below m None = true
is_number_below m (Some n) = nat_lt n m

number_tested : (m : ℕ) (n : Option ℕ) → is_number_below m n ≡ true → IfNumberBelow m n
number_tested m None e = tt
number_tested m (Some n) e = below_tested n m e

-- chains of at most so many objects
abbrev chain_ends : (fuel : ℕ) → Store → Option ℕ → Bool
chain_ends fuel s None = true
chain_ends zero s (Some n) = false
chain_ends (suc fuel) s (Some n) = chain_ends fuel s (object_in s n).prototype

chain_tested : (fuel : ℕ) (s : Store) (n : Option ℕ) → chain_ends fuel s n ≡ true → ChainEnds s n
chain_tested fuel s None e = Ended
chain_tested zero s (Some n) e = absurd (true≢false (sym e))
chain_tested (suc fuel) s (Some n) e = Next n (chain_tested fuel s (object_in s n).prototype e)

-- an object of the realm, all of which it asks of one
abbrev names_well : ObjectRecord → Bool
names_well o = are_names o.named && are_distinct o.named

abbrev parts_well : ℕ → ObjectRecord → Bool
parts_well m o = are_properties_below m o.named && is_number_below m o.prototype

abbrev is_well : ℕ → Class → (indexed : List (ℕ × Property)) → ObjectRecord → Bool
is_well m class [] o = is_plain class o.named && (names_well o && parts_well m o)
is_well m class (e ∷ es) o = false

abbrev is_object_well : ℕ → ObjectRecord → Bool
is_object_well m o = is_well m o.class o.indexed o

length_fits : (c : Class) (es : List (Text × Property)) → is_plain c es ≡ true → FitsLength {X = Property} c []
length_fits Ordinary es e = tt
length_fits (BuiltInFunction row) es e = tt
length_fits (Array n writable) es e = (below_tested n 4294967296 (and_left (nat_lt n 4294967296) (is_none (found (same_text length_name) es)) e), tt)
length_fits (ScriptFunction m f h cs) es e = tt
length_fits (ResolveFunction p m) es e = tt
length_fits (RejectFunction p m) es e = tt
length_fits Error es e = tt
length_fits (Promise s rs) es e = tt

no_length_named : (c : Class) (es : List (Text × Property)) → is_plain c es ≡ true → NoLength c es
no_length_named Ordinary es e = tt
no_length_named (BuiltInFunction row) es e = tt
no_length_named (Array n writable) es e = none_tested _ (and_right (nat_lt n 4294967296) (is_none (found (same_text length_name) es)) e)
no_length_named (ScriptFunction m f h cs) es e = tt
no_length_named (ResolveFunction p m) es e = tt
no_length_named (RejectFunction p m) es e = tt
no_length_named Error es e = tt
no_length_named (Promise s rs) es e = tt

class_below : (m : ℕ) (c : Class) (es : List (Text × Property)) → is_plain c es ≡ true → IsClassBelow m c
class_below m Ordinary es e = tt
class_below m (BuiltInFunction row) es e = tt
class_below m (Array n writable) es e = tt
class_below m (ScriptFunction x f h cs) es e = absurd (true≢false (sym e))
class_below m (ResolveFunction p x) es e = absurd (true≢false (sym e))
class_below m (RejectFunction p x) es e = absurd (true≢false (sym e))
class_below m Error es e = tt
class_below m (Promise s rs) es e = absurd (true≢false (sym e))

orderly_tested : (m : ℕ) (c : Class) (p : Option ℕ) (extensible : Bool) (indexed : List (ℕ × Property)) (named : List (Text × Property)) → is_object_well m (record { class = c; prototype = p; extensible = extensible; indexed = indexed; named = named }) ≡ true → IsOrderly (record { class = c; prototype = p; extensible = extensible; indexed = indexed; named = named })
orderly_tested m c p extensible [] es h =
    let plain = and_left (is_plain c es) _ h in
    let named = and_left (are_names es && are_distinct es) _ (and_right (is_plain c es) _ h) in
    record { indices = tt; range = tt; length = length_fits c es plain; names = names_tested es (and_left (are_names es) (are_distinct es) named); distinct = distinct_tested es (and_right (are_names es) (are_distinct es) named); no_length = no_length_named c es plain }
orderly_tested m c p extensible (i ∷ is) es h = absurd (true≢false (sym h))

record_tested : (m : ℕ) (c : Class) (p : Option ℕ) (extensible : Bool) (indexed : List (ℕ × Property)) (named : List (Text × Property)) → is_object_well m (record { class = c; prototype = p; extensible = extensible; indexed = indexed; named = named }) ≡ true → IsObjectBelow m (record { class = c; prototype = p; extensible = extensible; indexed = indexed; named = named })
record_tested m c p extensible [] es h =
    let plain = and_left (is_plain c es) _ h in
    let parts = and_right (are_names es && are_distinct es) _ (and_right (is_plain c es) _ h) in
    record { class = class_below m c es plain; prototype = number_tested m p (and_right (are_properties_below m es) (is_number_below m p) parts); indexed = tt; named = properties_tested m es (and_left (are_properties_below m es) (is_number_below m p) parts) }
record_tested m c p extensible (i ∷ is) es h = absurd (true≢false (sym h))

-- ---- the things of a store, one by one

abbrev passes : (ObjectRecord → Bool) → Thing → Bool
passes test t = test (as_object (Some t))

each_object : (test : ObjectRecord → Bool) (ts : List Thing) (n : ℕ) → test no_object ≡ true → list_all (passes test) ts ≡ true → test (as_object (slice_get ts n)) ≡ true
each_object test [] n none h = none
each_object test (t ∷ ts) zero none h = and_left (passes test t) (list_all (passes test) ts) h
each_object test (t ∷ ts) (suc n) none h = each_object test ts n none (and_right (passes test t) (list_all (passes test) ts) h)

abbrev if_value_below : ℕ → Option Value → Bool
if_value_below m None = true
if_value_below m (Some v) = is_value_below m v

if_value_tested : (m : ℕ) (v : Option Value) → if_value_below m v ≡ true → IfValueBelow m v
if_value_tested m None e = tt
if_value_tested m (Some v) e = value_tested m v e

abbrev cell_passes : ℕ → Thing → Bool
cell_passes m t = if_value_below m (as_cell (Some t)).value

each_cell : (m : ℕ) (ts : List Thing) (n : ℕ) → list_all (cell_passes m) ts ≡ true → if_value_below m (as_cell (slice_get ts n)).value ≡ true
each_cell m [] n h = refl
each_cell m (t ∷ ts) zero h = and_left (cell_passes m t) (list_all (cell_passes m) ts) h
each_cell m (t ∷ ts) (suc n) h = each_cell m ts n (and_right (cell_passes m t) (list_all (cell_passes m) ts) h)

-- ---- the realm

realm_length : length realm_store ≡ 104
unfolding realm_store
realm_length = refl

objects_well : list_all (passes (is_object_well 104)) realm_store ≡ true
unfolding realm_store digits_number
objects_well = refl

cells_well : list_all (cell_passes 104) realm_store ≡ true
unfolding realm_store digits_number
cells_well = refl

chains_end : list_all (passes (λ o. chain_ends 3 realm_store o.prototype)) realm_store ≡ true
unfolding realm_store object_in
chains_end = refl

pub realm_well_formed : IsWellFormed realm_store
unfolding object_in cell_in
realm_well_formed = record {
  orderly = λ n. orderly_tested 104 _ _ _ _ _ (each_object (is_object_well 104) realm_store n refl objects_well);
  objects = λ n. rw realm_length (record_tested 104 _ _ _ _ _ (each_object (is_object_well 104) realm_store n refl objects_well));
  cells = λ n. rw realm_length (if_value_tested 104 _ (each_cell 104 realm_store n cells_well));
  chains = λ n. Next n (chain_tested 3 realm_store _ (each_object (λ o. chain_ends 3 realm_store o.prototype) realm_store n refl chains_end));
}

-- each place of the realm holds a thing
abbrev are_numbers_below : ℕ → List ℕ → Bool
are_numbers_below m ns = list_all (λ n. nat_lt n m) ns

numbers_tested : (m : ℕ) (ns : List ℕ) → are_numbers_below m ns ≡ true → AreNumbersBelow m ns
numbers_tested m [] h = tt
numbers_tested m (n ∷ ns) h = (below_tested n m (and_left (nat_lt n m) (are_numbers_below m ns) h), numbers_tested m ns (and_right (nat_lt n m) (are_numbers_below m ns) h))

places_well : are_numbers_below 104 realm_places ≡ true
unfolding realm_places
places_well = refl

pub realm_places_below : AreNumbersBelow (length realm_store) realm_places
realm_places_below = rw realm_length (numbers_tested 104 realm_places places_well)
