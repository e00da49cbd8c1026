-- What a heap holds, and its counts.
use Rattle.std.specs.Prelude.{◌≡◌, ◌⊎◌, ◌==◌, ℕ, ◌+◌, ◌-◌, ◌*◌, ◌/◌, ◌≤◌, ◌<◌, ◌^◌, false, cond, nat_lt, List, [], ◌∷◌, ◌++◌, length, Option, Some, None}
use Prim.Native.Nat.{zero, suc}
use Rattle.slot_heap.specs.declared.slot.Slot.{Slot}
use Rattle.js_value.specs.declared.counts.Room.{Room}
use Rattle.js_value.specs.declared.counts.Full.{Full}
use Rattle.js_value.specs.declared.counts.Full.TheVariants as full
use Rattle.slot_heap.specs.Queue.{Queue}
use Rattle.slot_heap.specs.Shown.{Low, low}
use Rattle.slot_heap.specs.Texts.{NoName, word_of, Words, words}

-- what a ROM lends
pub record Lent : Type 0 where
  pub slots : List Slot
  pub units : List ℕ
  pub names : List (ℕ × ℕ)
  pub aliases : ℕ

abbrev pub no_rom : Lent
no_rom = record { slots = []; units = []; names = []; aliases = 0 }

pub record Held : Type 0 where
  pub rom : Lent
  pub slots : Low
  pub words : Words
  pub jobs : Queue
  pub used : Room
  pub limit : Room

abbrev pub held : Lent → Low → Words → Queue → Room → Room → Held
held rom slots words jobs used limit = record { rom = rom; slots = slots; words = words; jobs = jobs; used = used; limit = limit }

-- room that was reserved, with entries of an alias table and names that a search can go through
pub record Reserved : Type 0 where
  pub room : Room
  pub aliases : ℕ
  pub names : ℕ

-- ---- counts

abbrev pub no_room : Room
no_room = record { slots = 0; units = 0; names = 0 }

abbrev pub slots_more : Room → ℕ → Room
slots_more u n = record u { slots = u.slots + n }

abbrev pub units_more : Room → ℕ → Room
units_more u n = record u { units = u.units + n }

abbrev pub names_more : Room → ℕ → Room
names_more u n = record u { names = u.names + n }

-- the limit that what is used and asked together would pass, the first in the order units, names, slots
abbrev pub full_of : (used limit asked : Room) → Option Full
full_of used limit asked =
    cond (nat_lt limit.units (used.units + asked.units)) (Some full.Units) (cond (nat_lt limit.names (used.names + asked.names)) (Some full.Names) (cond (nat_lt limit.slots (used.slots + asked.slots)) (Some full.Slots) None))

-- what was reserved and holds nothing yet
abbrev pub spare : Held → Room
spare h = record {
  slots = h.slots.reserved - length h.slots.ram;
  units = h.words.reserved_units - h.words.end;
  names = h.words.reserved_names - length h.words.names;
}

-- one room has space for another
pub record Holds (room asked : Room) : Type 0 where
  pub slots : asked.slots ≤ room.slots
  pub units : asked.units ≤ room.units
  pub names : asked.names ≤ room.names

-- a heap that was started on a reserve: nothing of it is used
abbrev pub started : Lent → Room → Held
started rom room =
    held rom (low [] [] room.slots) (words [] [] false 0 0 room.units room.names) (record { waiting = []; reserved = room.slots / 4 }) no_room room

-- What the counts keep: none is past its limit, what is left below each limit is there, and each waiting job was counted as
-- four slots.
pub record Counted (h : Held) : Type 0 where
  pub used : Holds h.limit h.used
  pub limit : h.limit.slots ≤ h.slots.reserved
  pub slots : length h.slots.ram + h.limit.slots ≤ h.slots.reserved + h.used.slots
  pub units : h.words.end + h.limit.units ≤ h.words.reserved_units + h.used.units
  pub names : length h.words.names + h.limit.names ≤ h.words.reserved_names + h.used.names
  pub jobs : 4 * length h.jobs.waiting ≤ h.used.slots
  pub job_room : h.slots.reserved < 4 * h.jobs.reserved + 4
  pub few_names : h.words.reserved_names < 2 ^ 16
  pub words : (h.slots.reserved < 2 ^ 32) × (h.words.reserved_units < 2 ^ 32)

-- ---- names

-- the text p of these units is the name n: it was one, or it became one
abbrev pub NamedAs : Held → ℕ × ℕ → List ℕ → ℕ → Held → Type 0
NamedAs h p text n h' =
    ((n < length h.words.names) × (word_of h.words n ≡ text) × (h' ≡ h)) ⊎ (NoName h.words text × (n ≡ length h.words.names) × (h' ≡ record h { words = record h.words { names = h.words.names ++ p ∷ [] }; used = names_more h.used 1 }))

-- ---- the realm

-- The slots of the realm's things, in their order, before their properties: the second and the thirteenth have one internal,
-- as have the 89 functions that follow; then two cells.
abbrev pub realm_size : ℕ → ℕ
realm_size n = cond (n == 1) 2 (cond (n == 12) 2 (cond (nat_lt 12 n) (cond (nat_lt n 102) 2 1) 1))

-- where such a thing is made in a heap without a ROM
abbrev pub realm_address : ℕ → ℕ
realm_address zero = 1
realm_address (suc n) = realm_address n + realm_size n

-- the address of the realm's thing at a place
abbrev pub realm_of : Held → ℕ → ℕ
realm_of h at = realm_address at
