-- What cells and values say in the words of the store: a thing's address is read as its number, which is its place in the
-- order of creation, and names and texts as their units.
use Rattle.std.specs.Prelude.{ℕ, ◌/◌, ◌%◌, ◌==◌, Bool, true, cond, List, [], ◌∷◌, get_or, Option, Some, None}
use Prim.Native.Nat.{zero, suc}
use Rattle.slot_heap.specs.declared.slot.Slot.{Slot}
use Rattle.slot_heap.specs.declared.slot.Value.{Value as Low_Value}
use Rattle.slot_heap.specs.declared.slot.Value.TheVariants as low
use Rattle.slot_heap.specs.Slot.{blank, four_bytes, is_object_kind, value_in}
use Rattle.slot_heap.specs.Texts.{text_of}
use Rattle.js_value.specs.Value.{Value, Undefined, Null, Boolean, Number, String, Object}
use Rattle.js_value.specs.Store.{Content, Data, Accessor, Property, PromiseState, Pending, Fulfilled, Rejected, Reaction, Class, Ordinary, Array, ScriptFunction, BuiltInFunction, ResolveFunction, RejectFunction, Error, Promise, ObjectRecord, Thing, AnObject, ACell, AMark}

-- the units, the names, and the addresses of all things in the order of creation
pub record Reading : Type 0 where
  pub units : List ℕ
  pub names : List (ℕ × ℕ)
  pub heads : List ℕ

abbrev pub place_in : ℕ → List ℕ → ℕ
place_in at [] = 0
place_in at (x ∷ xs) = cond (x == at) 0 (suc (place_in at xs))

-- the number of the thing at an address; none for 0
abbrev pub number_in : Reading → ℕ → Option ℕ
number_in r zero = None
number_in r (suc a) = Some (place_in (suc a) r.heads)

abbrev pub word_in : Reading → ℕ → List ℕ
word_in r n = text_of r.units (get_or r.names n (0, 0))

abbrev pub object_or : Value → Option ℕ → Value
object_or v None = v
object_or v (Some n) = Object n

-- the value of the definitions that a value of the heap is
unfoldable pub value_of : Reading → Low_Value → Value
value_of r low.Undefined = Undefined
value_of r low.Null = Null
value_of r (low.Bool b) = Boolean b
value_of r (low.Number n) = Number n
value_of r (low.Name n) = String (word_in r n)
value_of r (low.Text at count) = String (text_of r.units (at, count))
value_of r (low.Thing a) = object_or Null (number_in r a.0)

abbrev pub bit : ℕ → ℕ → Bool
bit flags part = flags / part % 2 == 1

-- the four bytes of a slot's value before and after its middle
abbrev pub upper : Slot → ℕ
upper c = c.value / four_bytes

abbrev pub lower : Slot → ℕ
lower c = c.value % four_bytes

-- ---- properties

abbrev pub is_data : Slot → Bool
is_data c = c.kind == 16

abbrev pub is_accessor : Slot → Bool
is_accessor c = c.kind == 17

abbrev pub is_indexed : Slot → Bool
is_indexed c = c.kind == 18

abbrev pub content_in : Reading → Slot → Content
content_in r c =
    cond (is_accessor c) (Accessor (object_or Undefined (number_in r (lower c))) (object_or Undefined (number_in r c.last))) (Data (value_of r (value_in c)) (bit c.flags 1))

unfoldable pub property_in : Reading → Slot → Property
property_in r c = record { content = content_in r c; enumerable = bit c.flags 2; configurable = bit c.flags 4 }

abbrev pub put_if : {X : Type 0} → Bool → X → List X → List X
put_if b x xs = cond b (x ∷ xs) xs

abbrev pub named_in : Reading → List Slot → List (List ℕ × Property)
named_in r [] = []
named_in r (c ∷ cs) = put_if (cond (is_data c) true (is_accessor c)) (word_in r c.key, property_in r c) (named_in r cs)

abbrev pub indexed_in : Reading → List Slot → List (ℕ × Property)
indexed_in r [] = []
indexed_in r (c ∷ cs) = put_if (is_indexed c) (c.last, property_in r c) (indexed_in r cs)

-- ---- internals

-- the number of the thing that a value is, 0 where it is none
abbrev pub or_zero : Option ℕ → ℕ
or_zero None = 0
or_zero (Some n) = n

abbrev pub number_by : Reading → Low_Value → ℕ
number_by r (low.Thing a) = or_zero (number_in r a.0)
number_by r _ = 0

abbrev pub captured_in : Reading → List Slot → List ℕ
captured_in r [] = []
captured_in r (c ∷ cs) = put_if (c.kind == 34) (number_by r (value_in c)) (captured_in r cs)

abbrev pub parts_in : List Slot → List Slot
parts_in [] = []
parts_in (c ∷ cs) = put_if (c.kind == 37) c (parts_in cs)

abbrev pub reaction_in : Reading → Slot → Slot → Slot → Reaction
reaction_in r a b c = record { derived = number_by r (value_in a); on_fulfilled = value_of r (value_in b); on_rejected = value_of r (value_in c) }

-- the parts of a promise stand in threes
abbrev pub reactions_in : Reading → List Slot → List Reaction
reactions_in r [] = []
reactions_in r (a ∷ []) = []
reactions_in r (a ∷ b ∷ []) = []
reactions_in r (a ∷ b ∷ c ∷ cs) = reaction_in r a b c ∷ reactions_in r cs

abbrev pub state_in : Reading → Slot → PromiseState
state_in r c = cond (bit c.flags 1) (Fulfilled (value_of r (value_in c))) (cond (bit c.flags 2) (Rejected (value_of r (value_in c))) Pending)

-- a built-in function by its row: rows 49 and 50 are a promise's resolving functions
abbrev pub built_in : (row promise mark : ℕ) → Class
built_in row promise mark =
    cond (row == 49) (ResolveFunction promise mark) (cond (row == 50) (RejectFunction promise mark) (BuiltInFunction row))

-- a function's home object; a slot that isn't filled has none
abbrev pub home_in : Reading → Slot → Option ℕ
home_in r c = cond (c.kind == 33) (number_in r c.last) None

abbrev pub code_in : Slot → Option ℕ → List ℕ → Class
code_in c home captured = ScriptFunction (upper c) (lower c) home captured

abbrev pub length_in : Slot → Class
length_in c = Array c.value (bit c.flags 1)

-- the class of an object, by the kind of its head, its first internal, its captured cells and its parts
abbrev pub class_by : Reading → ℕ → Slot → List ℕ → List Slot → Class
class_by r kind c captured parts =
    cond (kind == 2) (length_in c) (cond (kind == 3) (code_in c (home_in r c) captured) (cond (kind == 4) (built_in (lower c) (number_by r (value_in (get_or parts 0 blank))) (number_by r (value_in (get_or parts 1 blank)))) (cond (kind == 5) Error (cond (kind == 6) (Promise (state_in r c) (reactions_in r parts)) Ordinary))))

unfoldable pub class_in : Reading → ℕ → List Slot → Class
class_in r kind cs = class_by r kind (get_or cs 0 blank) (captured_in r cs) (parts_in cs)

-- ---- things

abbrev pub object_record : Reading → Slot → List Slot → ObjectRecord
object_record r h cs = record {
  class = class_in r h.kind cs;
  prototype = number_in r (upper h);
  extensible = bit h.flags 1;
  indexed = indexed_in r cs;
  named = named_in r cs;
}

abbrev pub initialised : Reading → Slot → Option Value
initialised r h = cond (bit h.flags 2) (Some (value_of r (value_in h))) None

-- the thing that cells spell, the head first
unfoldable pub thing_of : Reading → List Slot → Thing
thing_of r [] = AMark true
thing_of r (h ∷ cs) =
    cond (is_object_kind h.kind) (AnObject (object_record r h cs)) (cond (h.kind == 7) (ACell (record { value = initialised r h; const = bit h.flags 1 })) (AMark (bit h.flags 1)))
