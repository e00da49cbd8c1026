-- Sound heaps: what the operations on properties, the built-ins, the walk and the machine ask for, and leave.
use Rattle.std.specs.Prelude.{◌≡◌, ◌⊎◌, ℕ, ◌<◌, ◌==◌, ◌||◌, ◌&&◌, Bool, false, IsTrue, List, [], ◌∷◌, ◌++◌, get_or}
use Prim.Native.Nat.{zero, suc}
use Rattle.std.specs.List.{All}
use Rattle.slot_heap.specs.declared.slot.Slot.{Slot}
use Rattle.slot_heap.specs.declared.slot.Job.{Job}
use Rattle.slot_heap.specs.declared.slot.Value.{Value}
use Rattle.slot_heap.specs.declared.slot.Value.TheVariants.{Undefined, Number, Thing}
use Rattle.slot_heap.specs.Slot.{blank, is_object_kind, tag_of, value_in}
use Rattle.slot_heap.specs.Shown.{Low, is_thing, cells}
use Rattle.slot_heap.specs.Held.{Held}
use Rattle.slot_heap.specs.Reading.{bit, upper, lower}
use Rattle.slot_heap.specs.Flat.{flat}
use Rattle.slot_heap.specs.Standing.{Standing}
use Rattle.js_value.specs.Number.{IsNumber}
use Rattle.js_value.specs.WellFormed.{IsWellFormed}

-- ---- what an address or a value may be

-- a thing of one of these kinds stands at an address
pub record IsOfKind (h : Low) (kinds : ℕ → Bool) (a : ℕ) : Type 0 where
  pub thing : IsTrue (is_thing h a)
  pub kind : IsTrue (kinds (get_or (cells h a) 0 blank).kind)

abbrev pub is_function_kind : ℕ → Bool
is_function_kind k = (k == 3) || (k == 4)

abbrev pub is_promise_kind : ℕ → Bool
is_promise_kind k = k == 6

abbrev pub is_cell_kind : ℕ → Bool
is_cell_kind k = k == 7

abbrev pub is_mark_kind : ℕ → Bool
is_mark_kind k = k == 8

-- an address that may be 0
abbrev pub OrNone : (ℕ → Type 0) → ℕ → Type 0
OrNone p zero = Unit {0}
OrNone p (suc a) = p (suc a)

-- of the things only objects are language values
abbrev pub IsLanguageValue : Low → Value → Type 0
IsLanguageValue h (Thing a) = IsOfKind h is_object_kind a.0
IsLanguageValue h (Number n) = IsNumber n
IsLanguageValue h _ = Unit {0}

abbrev pub Refers : Low → (ℕ → Bool) → Value → Type 0
Refers h kinds (Thing a) = IsOfKind h kinds a.0
Refers h kinds _ = ⊥

-- a handler of a promise is a function or undefined
abbrev pub IsHandler : Low → Value → Type 0
IsHandler h (Thing a) = IsOfKind h is_function_kind a.0
IsHandler h Undefined = Unit {0}
IsHandler h _ = ⊥

-- ---- properties

pub record IsDataSlot (h : Low) (c : Slot) : Type 0 where
  pub kind : c.kind ≡ 16
  pub tag : tag_of c < 8
  pub value : IsLanguageValue h (value_in c)

pub record IsAccessorSlot (h : Low) (c : Slot) : Type 0 where
  pub kind : c.kind ≡ 17
  pub tag : tag_of c ≡ 8
  pub getter : OrNone (IsOfKind h is_function_kind) (lower c)
  pub setter : OrNone (IsOfKind h is_function_kind) c.last

pub record IsIndexedSlot (h : Low) (c : Slot) : Type 0 where
  pub kind : c.kind ≡ 18
  pub tag : tag_of c < 8
  pub value : IsLanguageValue h (value_in c)

-- ---- internals

pub record IsLengthSlot (c : Slot) : Type 0 where
  pub kind : c.kind ≡ 32
  pub tag : tag_of c ≡ 4

pub record IsCodeSlot (h : Low) (c : Slot) : Type 0 where
  pub kind : c.kind ≡ 33
  pub tag : tag_of c ≡ 0
  pub home : OrNone (IsOfKind h is_object_kind) c.last

pub record IsCapturedSlot (h : Low) (c : Slot) : Type 0 where
  pub kind : c.kind ≡ 34
  pub tag : tag_of c ≡ 7
  pub cell : Refers h is_cell_kind (value_in c)

-- a built-in function's row, from 1 to 92
pub record IsRowSlot (c : Slot) : Type 0 where
  pub kind : c.kind ≡ 35
  pub tag : tag_of c ≡ 0
  pub row : (0 < lower c) × (lower c < 93)

-- a promise that is pending holds undefined
pub record IsStateSlot (h : Low) (c : Slot) : Type 0 where
  pub kind : c.kind ≡ 36
  pub tag : tag_of c < 8
  pub one : bit c.flags 1 && bit c.flags 2 ≡ false
  pub pending : bit c.flags 1 || bit c.flags 2 ≡ false → tag_of c ≡ 0
  pub value : IsLanguageValue h (value_in c)

pub record IsPart (p : Value → Type 0) (c : Slot) : Type 0 where
  pub kind : c.kind ≡ 37
  pub tag : tag_of c < 8
  pub value : p (value_in c)

-- a promise's reactions: each a derived promise and two handlers
pub data AreReactions (h : Low) : List Slot → Type 0 where
  NoReaction : AreReactions h []
  Reaction : (a b c : Slot) (cs : List Slot) → IsPart (Refers h is_promise_kind) a → IsPart (IsHandler h) b → IsPart (IsHandler h) c → AreReactions h cs → AreReactions h (a ∷ b ∷ c ∷ cs)

-- rows 49 and 50 are a promise's resolving functions
abbrev pub is_resolving : Slot → Bool
is_resolving c = (lower c == 49) || (lower c == 50)

-- the internals of an object, by the kind of its head
pub data AreInternals (h : Low) : (kind : ℕ) → List Slot → Type 0 where
  OfObject : AreInternals h 1 []
  OfArray : (c : Slot) → IsLengthSlot c → AreInternals h 2 (c ∷ [])
  OfScript : (c : Slot) (cs : List Slot) → IsCodeSlot h c → All (IsCapturedSlot h) cs → AreInternals h 3 (c ∷ cs)
  OfBuiltin : (c : Slot) → IsRowSlot c → is_resolving c ≡ false → AreInternals h 4 (c ∷ [])
  OfResolving : (c a b : Slot) → IsRowSlot c → IsTrue (is_resolving c) → IsPart (Refers h is_promise_kind) a → IsPart (Refers h is_mark_kind) b → AreInternals h 4 (c ∷ a ∷ b ∷ [])
  OfError : AreInternals h 5 []
  OfPromise : (c : Slot) (cs : List Slot) → IsStateSlot h c → AreReactions h cs → AreInternals h 6 (c ∷ cs)

-- ---- things

pub record IsObjectHead (h : Low) (c : Slot) : Type 0 where
  pub tag : tag_of c ≡ 0
  pub prototype : OrNone (IsOfKind h is_object_kind) (upper c)

-- a cell that isn't initialised holds undefined
pub record IsCellHead (h : Low) (c : Slot) : Type 0 where
  pub kind : c.kind ≡ 7
  pub tag : tag_of c < 8
  pub value : IsLanguageValue h (value_in c)
  pub blank : bit c.flags 2 ≡ false → tag_of c ≡ 0

pub record IsMarkHead (c : Slot) : Type 0 where
  pub kind : c.kind ≡ 8
  pub tag : tag_of c ≡ 0

-- the cells of a thing: the head, then of an object its internals, its indices and its strings
pub data IsShaped (h : Low) : List Slot → Type 0 where
  AnObject : (head : Slot) (internals indices strings : List Slot) → IsObjectHead h head → AreInternals h head.kind internals → All (IsIndexedSlot h) indices → All (λ c. IsDataSlot h c ⊎ IsAccessorSlot h c) strings → IsShaped h (head ∷ internals ++ indices ++ strings)
  ACell : (head : Slot) → IsCellHead h head → IsShaped h (head ∷ [])
  AMark : (head : Slot) → IsMarkHead head → IsShaped h (head ∷ [])

-- ---- jobs

-- a handler, the derived promise and the argument
abbrev pub IsReactionJob : Low → List Value → Type 0
IsReactionJob h (handler ∷ derived ∷ argument ∷ []) = IsHandler h handler × Refers h is_promise_kind derived × IsLanguageValue h argument
IsReactionJob h _ = ⊥

-- the promise, the thenable and its `then`
abbrev pub IsThenableJob : Low → List Value → Type 0
IsThenableJob h (promise ∷ thenable ∷ then ∷ []) = Refers h is_promise_kind promise × Refers h is_object_kind thenable × Refers h is_function_kind then
IsThenableJob h _ = ⊥

abbrev pub IsJob : Low → Job → Type 0
IsJob h j = ((j.kind < 2) × IsReactionJob h j.values) ⊎ ((j.kind ≡ 2) × IsThenableJob h j.values)

-- ---- heaps

-- All that is spoken of stands, in fields of its kind; own keys are distinct and in order, indices are below an array's
-- length, every chain of prototypes ends, and no text is open.
pub record Sound (h : Held) : Type 0 where
  pub standing : Standing h
  pub things : (r : ℕ) → IsTrue (is_thing h.slots r) → IsShaped h.slots (cells h.slots r)
  pub store : IsWellFormed (flat h)
  pub jobs : All (IsJob h.slots) h.jobs.waiting
  pub closed : h.words.is_open ≡ false
