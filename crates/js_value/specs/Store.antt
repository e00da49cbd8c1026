-- The store: a list of things, each named by its place in it.
use Rattle.std.specs.Prelude.{ℕ, ◌+◌, ◌*◌, Bool, true, false, cond, not, ◌&&◌, List, [], ◌∷◌, ◌++◌, map, length, pos, nat_lt, nat_eq, ◌==◌, Option, Some, None, slice_get, set, codes}
use Rattle.js_value.specs.Value.{Value, Undefined, Number, Text, same_text, Key, Index, Named, Numeral}
use Rattle.js_value.specs.NumberText.{text_of_number}

-- ---- properties (ECMA-262 6.1.7.1)

-- a getter or setter that is absent is Undefined
pub data Content : Type 0 where
  Data : (value : Value) → (writable : Bool) → Content
  Accessor : (get set : Value) → Content

pub record Property : Type 0 where
  pub content : Content
  pub enumerable : Bool
  pub configurable : Bool

-- ---- promises (ECMA-262 27.2.6)

pub data PromiseState : Type 0 where
  Pending : PromiseState
  Fulfilled : Value → PromiseState
  Rejected : Value → PromiseState

-- one call of `then`: the promise that it made, and its handlers, Undefined where they aren't callable
pub record Reaction : Type 0 where
  pub derived : ℕ
  pub on_fulfilled : Value
  pub on_rejected : Value

-- ---- objects

-- An object's class with its internal slots. An array's `length` is held here, as its value and [[Writable]].
pub data Class : Type 0 where
  Ordinary : Class
  Array : (length : ℕ) → (writable : Bool) → Class
  ScriptFunction : (module_number function_number : ℕ) → (home : Option ℕ) → (captured : List ℕ) → Class
  BuiltInFunction : (row : ℕ) → Class
  ResolveFunction : (promise mark : ℕ) → Class
  RejectFunction : (promise mark : ℕ) → Class
  Error : Class
  Promise : PromiseState → List Reaction → Class

pub record ObjectRecord : Type 0 where
  pub class : Class
  pub prototype : Option ℕ
  pub extensible : Bool
  pub indexed : List (ℕ × Property)  -- array indices, ascending
  pub named : List (Text × Property)  -- other strings, in order of creation; an array's `length` isn't among them

-- ---- things

-- the cell of a captured binding; none: it is uninitialised
pub record CellRecord : Type 0 where
  pub value : Option Value
  pub const : Bool

-- A mark is shared by a promise's two resolving functions and is set when one of them was called (27.2.1.3).
pub data Thing : Type 0 where
  AnObject : ObjectRecord → Thing
  ACell : CellRecord → Thing
  AMark : (is_set : Bool) → Thing

abbrev pub Store : Type 0
Store = List Thing

-- ---- the things of a store

-- what stands in for an object, cell or mark that isn't there: nothing of it can change
abbrev pub no_object : ObjectRecord
no_object = record { class = Ordinary; prototype = None; extensible = false; indexed = []; named = [] }

abbrev pub no_cell : CellRecord
no_cell = record { value = Some Undefined; const = true }

abbrev pub as_object : Option Thing → ObjectRecord
as_object (Some (AnObject o)) = o
as_object _ = no_object

abbrev pub as_cell : Option Thing → CellRecord
as_cell (Some (ACell c)) = c
as_cell _ = no_cell

abbrev pub as_mark : Option Thing → Bool
as_mark (Some (AMark b)) = b
as_mark _ = true

unfoldable pub object_in : Store → ℕ → ObjectRecord
object_in s n = as_object (slice_get s n)

unfoldable pub cell_in : Store → ℕ → CellRecord
cell_in s n = as_cell (slice_get s n)

unfoldable pub mark_in : Store → ℕ → Bool
mark_in s n = as_mark (slice_get s n)

-- ---- entries of a property list

-- the first entry whose key passes
abbrev pub found : {K X : Type 0} → (K → Bool) → List (K × X) → Option X
found is [] = None
found is (e ∷ es) = cond (is e.0) (Some e.1) (found is es)

-- without that entry
abbrev pub removed : {K X : Type 0} → (K → Bool) → List (K × X) → List (K × X)
removed is [] = []
removed is (e ∷ es) = cond (is e.0) es (e ∷ removed is es)

-- with the value of a name: in its place, or at the end
abbrev pub put_name : {X : Type 0} → Text → X → List (Text × X) → List (Text × X)
put_name t x [] = (t, x) ∷ []
put_name t x (e ∷ es) = cond (same_text t e.0) ((t, x) ∷ es) (e ∷ put_name t x es)

-- with the value of an index: in its place in ascending order
abbrev pub put_index : {X : Type 0} → ℕ → X → List (ℕ × X) → List (ℕ × X)
put_index i x [] = (i, x) ∷ []
put_index i x (e ∷ es) = cond (nat_lt i e.0) ((i, x) ∷ e ∷ es) (cond (i == e.0) ((i, x) ∷ es) (e ∷ put_index i x es))

-- ---- own properties

abbrev pub length_name : Text
length_name = codes "length"

-- An array's `length` (10.4.2) isn't enumerable or configurable, and comes first of its strings.
abbrev pub length_property : ℕ → Bool → Property
length_property n writable = record { content = Data (Number (pos n)) writable; enumerable = false; configurable = false }

abbrev pub length_entry : Class → List (Text × Property)
length_entry (Array n writable) = (length_name, length_property n writable) ∷ []
length_entry _ = []

abbrev pub strings : ObjectRecord → List (Text × Property)
strings o = length_entry o.class ++ o.named

unfoldable pub own_property : ObjectRecord → Key → Option Property
own_property o (Index i) = found (nat_eq i) o.indexed
own_property o (Named t) = found (same_text t) (strings o)
own_property o (Numeral n) = found (same_text (text_of_number n)) (strings o)

-- OrdinaryOwnPropertyKeys (10.1.11.1)
abbrev pub own_keys : ObjectRecord → List Key
own_keys o = map (λ e. Index e.0) o.indexed ++ map (λ e. Named e.0) (strings o)

abbrev pub is_length_of : Class → Text → Bool
is_length_of (Array n writable) t = same_text t length_name
is_length_of _ t = false

abbrev pub with_length : ObjectRecord → Content → ObjectRecord
with_length o (Data (Number (pos n)) writable) = record o { class = Array n writable }
with_length o _ = o

abbrev pub with_string : ObjectRecord → Text → Property → ObjectRecord
with_string o t p = cond (is_length_of o.class t) (with_length o p.content) (record o { named = put_name t p o.named })

-- the object with a property of a key, a new one or in the place of the one that it has
unfoldable pub with_property : ObjectRecord → Key → Property → ObjectRecord
with_property o (Index i) p = record o { indexed = put_index i p o.indexed }
with_property o (Named t) p = with_string o t p
with_property o (Numeral n) p = with_string o (text_of_number n) p

-- the object without the property of a key
unfoldable pub without_property : ObjectRecord → Key → ObjectRecord
without_property o (Index i) = record o { indexed = removed (nat_eq i) o.indexed }
without_property o (Named t) = record o { named = removed (same_text t) o.named }
without_property o (Numeral n) = record o { named = removed (same_text (text_of_number n)) o.named }

-- ---- classes

abbrev pub callable_class : Class → Bool
callable_class (ScriptFunction module_number function_number home captured) = true
callable_class (BuiltInFunction row) = true
callable_class (ResolveFunction promise mark) = true
callable_class (RejectFunction promise mark) = true
callable_class _ = false

abbrev pub is_array : Class → Bool
is_array (Array n writable) = true
is_array _ = false

abbrev pub is_pending : Class → Bool
is_pending (Promise Pending reactions) = true
is_pending _ = false

-- ---- sizes, in slots

-- An array has its length; a script function its code and its captured cells; a built-in function its row, and a
-- resolving function its promise and mark too; a promise its state, and three slots for each reaction.
abbrev pub internals : Class → ℕ
internals Ordinary = 0
internals (Array n writable) = 1
internals (ScriptFunction module_number function_number home captured) = 1 + length captured
internals (BuiltInFunction row) = 1
internals (ResolveFunction promise mark) = 3
internals (RejectFunction promise mark) = 3
internals Error = 0
internals (Promise state reactions) = 1 + 3 * length reactions

abbrev pub object_size : ObjectRecord → ℕ
object_size o = 1 + internals o.class + length o.indexed + length o.named

abbrev pub size : Thing → ℕ
size (AnObject o) = object_size o
size (ACell c) = 1
size (AMark b) = 1

-- ---- frozen things: nothing of them can change any more

abbrev pub is_fixed_content : Content → Bool
is_fixed_content (Data value writable) = not writable
is_fixed_content (Accessor get set) = true

abbrev pub is_fixed : Property → Bool
is_fixed p = not p.configurable && is_fixed_content p.content

abbrev pub are_fixed : {K : Type 0} → List (K × Property) → Bool
are_fixed [] = true
are_fixed (e ∷ es) = is_fixed e.1 && are_fixed es

-- TestIntegrityLevel with level frozen (7.3.16)
unfoldable pub is_frozen : ObjectRecord → Bool
is_frozen o = not o.extensible && are_fixed o.indexed && are_fixed (strings o)

abbrev pub is_initialised : Option Value → Bool
is_initialised (Some v) = true
is_initialised None = false

-- own rule: a pending promise can still change, a const cell once it is initialised and a mark that is set can't
abbrev pub frozen : Thing → Bool
frozen (AnObject o) = is_frozen o && not (is_pending o.class)
frozen (ACell c) = c.const && is_initialised c.value
frozen (AMark is_set) = is_set
