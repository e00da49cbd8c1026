-- Slots in chains: what a list of slots shows, for things t whose chains begin at their homes.
use Rattle.std.specs.Prelude.{◌≡◌, ℕ, ◌≤◌, ◌<◌, ◌==◌, Bool, cond, IsTrue, List, [], ◌∷◌, ◌++◌, map, length, get_or, Option, Some, None}
use Prim.Native.Nat.{zero, suc}
use Rattle.slot_heap.specs.declared.slot.Slot.{Slot}
use Rattle.slot_heap.specs.Slot.{blank}
use Rattle.slot_heap.specs.Walk.{walk, IsWalk, Has}

-- ---- one chain

-- the address of the slot after place i
unfoldable pub step_of : List Slot → ℕ → ℕ
step_of s i = (get_or s i blank).next

-- The places of the chain that begins at an address. A chain has no more slots than there are.
unfoldable pub chain : List Slot → ℕ → List ℕ
chain s at = walk (step_of s) (length s) at

-- a slot apart from where its chain goes on
unfoldable pub cell : Slot → Slot
cell slot = record slot { next = 0 }

-- the cells from an address on
unfoldable pub cells_at : List Slot → ℕ → List Slot
cells_at s at = map (λ i. cell (get_or s i blank)) (chain s at)

-- an address, where it is one
abbrev pub address : ℕ → Option ℕ
address zero = None
address (suc i) = Some (suc i)

-- ---- tables by address

abbrev pub entry : {X : Type 0} → ℕ → Option X → List (ℕ × X)
entry at None = []
entry at (Some x) = (at, x) ∷ []

-- what stands at the places below n, each by its address
abbrev pub table : {X : Type 0} → (ℕ → Option X) → ℕ → List (ℕ × X)
table f zero = []
table f (suc n) = table f n ++ entry (suc n) (f n)

-- the table with x at an address that it has
abbrev pub update : {X : Type 0} → ℕ → X → List (ℕ × X) → List (ℕ × X)
update at x ps = map (λ p. cond (p.0 == at) (p.0, x) p) ps

abbrev pub find : {X : Type 0} → ℕ → List (ℕ × X) → Option X
find at [] = None
find at (p ∷ ps) = cond (p.0 == at) (Some p.1) (find at ps)

-- ---- things

unfoldable pub thing_in : (ℕ → Bool) → (ℕ → ℕ) → List Slot → ℕ → Option (List Slot)
thing_in t home s i = cond (t i) (Some (cells_at s (home i))) None

-- all things, each as its cells, by their addresses
unfoldable pub shown_in : (ℕ → Bool) → (ℕ → ℕ) → List Slot → List (ℕ × List Slot)
shown_in t home s = table (thing_in t home s) (length s)

-- the chains end, stay within the slots, and share none
pub record Chained (t : ℕ → Bool) (home : ℕ → ℕ) (s : List Slot) : Type 0 where
  pub in_range : (i : ℕ) → step_of s i ≤ length s
  pub within : (i : ℕ) → IsTrue (t i) → (home i ≤ length s) × (i < length s)
  pub ends : (i : ℕ) → IsTrue (t i) → IsWalk (step_of s) (home i) (chain s (home i))
  pub apart : (i j k : ℕ) → IsTrue (t i) → IsTrue (t j) → Has (chain s (home i)) k → Has (chain s (home j)) k → i ≡ j
