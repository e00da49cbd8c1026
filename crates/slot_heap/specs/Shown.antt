-- What the slots of a heap show: the things, by their addresses. A heap without a ROM has each thing where it was made.
use Rattle.std.specs.Prelude.{◌≡◌, ℕ, ◌+◌, ◌≤◌, ◌<◌, ◌^◌, ◌&&◌, Bool, false, nat_lt, IsTrue, List, [], map, length, get_or, slice_get, Some}
use Prim.Native.Nat.{zero, suc}
use Rattle.slot_heap.specs.declared.slot.Slot.{Slot}
use Rattle.slot_heap.specs.Chains.{chain, cells_at, shown_in, Chained}

-- the slots, of each whether a thing begins there, and how many there is room for
pub record Low : Type 0 where
  pub ram : List Slot
  pub begins : List Bool
  pub reserved : ℕ

abbrev pub low : List Slot → List Bool → ℕ → Low
low ram begins reserved = record { ram = ram; begins = begins; reserved = reserved }

-- the slots by their addresses
abbrev pub all : Low → List Slot
all h = h.ram

-- the address of the slot that is made next
abbrev pub next_address : Low → ℕ
next_address h = length (all h) + 1

-- a thing has its first slot at place i
unfoldable pub thing : Low → ℕ → Bool
thing h i = nat_lt i (length (all h)) && get_or h.begins i false

-- the address at which its chain begins
unfoldable pub home : Low → ℕ → ℕ
home h i = suc i

-- a thing stands at an address
abbrev pub is_thing : Low → ℕ → Bool
is_thing h zero = false
is_thing h (suc i) = thing h i

-- the addresses of a thing's slots, and what stands in them
abbrev pub places : Low → ℕ → List ℕ
places h zero = []
places h (suc i) = map (λ k. suc k) (chain (all h) (home h i))

abbrev pub cells : Low → ℕ → List Slot
cells h zero = []
cells h (suc i) = cells_at (all h) (home h i)

-- all things, each as its cells, by their addresses
unfoldable pub shown : Low → List (ℕ × List Slot)
shown h = shown_in (thing h) (home h) (all h)

-- the thing may be written: it was made in RAM
abbrev pub Owned : Low → ℕ → Type 0
Owned h r = IsTrue (is_thing h r)

-- the slots that a copy would take now
abbrev pub copy_cost : Low → ℕ → ℕ
copy_cost h r = 0

-- the k-th slot of the thing at r, its head being the 0th, stands at an address
pub record Stands (h : Low) (r k at : ℕ) : Type 0 where
  pub thing : IsTrue (is_thing h r)
  pub place : slice_get (places h r) k ≡ Some at

-- how many slots there are from an address on
unfoldable pub left : Low → ℕ → ℕ
left h at = length (chain (all h) at)

-- what the slots keep
pub record Kept (h : Low) (count capacity marks mark_capacity : ℕ) : Type 0 where
  pub chained : Chained (thing h) (home h) (all h)
  pub within : count ≤ h.reserved
  pub reserved : h.reserved ≤ capacity
  pub marked : marks ≡ count
  pub mark_room : h.reserved ≤ mark_capacity
  pub word : h.reserved < 2 ^ 32
