-- All that cells and jobs speak of stands in the heap.
use Rattle.std.specs.Prelude.{◌≡◌, ℕ, ◌<◌, ◌==◌, ◌++◌, Bool, true, cond, IsTrue, List, length}
use Prim.Native.Nat.{zero, suc}
use Rattle.std.specs.List.{All}
use Rattle.slot_heap.specs.declared.slot.Slot.{Slot}
use Rattle.slot_heap.specs.declared.slot.Job.{Job}
use Rattle.slot_heap.specs.declared.slot.Value.{Value}
use Rattle.slot_heap.specs.declared.slot.Value.TheVariants.{Number, Name, Text, Thing}
use Rattle.js_value.specs.Number.{IsNumber}
use Rattle.slot_heap.specs.Slot.{is_object_kind, tag_of, value_in}
use Rattle.slot_heap.specs.Shown.{is_thing, cells}
use Rattle.slot_heap.specs.Texts.{Within}
use Rattle.slot_heap.specs.Held.{Held}
use Rattle.slot_heap.specs.Reading.{upper, lower, is_data, is_accessor}

-- a thing stands at an address, or it is 0
abbrev pub RefStands : Held → ℕ → Type 0
RefStands h zero = Unit {0}
RefStands h (suc i) = IsTrue (is_thing h.slots (suc i))

-- what a value speaks of stands, and a Number is one of the language
abbrev pub ValueStands : Held → Value → Type 0
ValueStands h (Number n) = IsNumber n
ValueStands h (Name n) = n < length h.words.names
ValueStands h (Text at count) = Within h.words.units (at, count)
ValueStands h (Thing a) = RefStands h a.0
ValueStands h _ = Unit {0}

-- kinds whose key is a name, and kinds whose last field is a thing: an accessor's setter, a function's home object
abbrev pub has_name : Slot → Bool
has_name c = cond (is_data c) true (is_accessor c)

abbrev pub has_last : Slot → Bool
has_last c = cond (is_accessor c) true (c.kind == 33)

pub record CellStands (h : Held) (c : Slot) : Type 0 where
  pub prototype : IsTrue (is_object_kind c.kind) → RefStands h (upper c)
  pub tag : IsTrue (is_object_kind c.kind) → tag_of c ≡ 0
  pub key : IsTrue (has_name c) → c.key < length h.words.names
  pub getter : IsTrue (is_accessor c) → RefStands h (lower c)
  pub last : IsTrue (has_last c) → RefStands h c.last
  pub value : ValueStands h (value_in c)

pub record Standing (h : Held) : Type 0 where
  pub named : All (Within h.words.units) h.words.names
  pub cells : (r : ℕ) → IsTrue (is_thing h.slots r) → All (CellStands h) (cells h.slots r)
  pub jobs : All (λ (j : Job). All (ValueStands h) j.values) h.jobs.waiting

-- what stood goes on standing
pub record Stays (h h' : Held) : Type 0 where
  pub things : (q : ℕ) → IsTrue (is_thing h.slots q) → IsTrue (is_thing h'.slots q)
  pub units : (more : List ℕ) × (h'.words.units ≡ h.words.units ++ more)
  pub names : (more : List (ℕ × ℕ)) × (h'.words.names ≡ h.words.names ++ more)
