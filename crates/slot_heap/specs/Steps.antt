-- What each change of the slots does to what they show.
use Rattle.std.specs.Prelude.{◌≡◌, ◌≢◌, ◌==◌, ℕ, ◌+◌, IsTrue, List, [], ◌∷◌, ◌++◌, length, replicate, set, get_or}
use Prim.Native.Nat.{suc}
use Rattle.std.specs.List.{insert, remove}
use Rattle.slot_heap.specs.declared.slot.Slot.{Slot}
use Rattle.slot_heap.specs.declared.slot.Kind.{Kind}
use Rattle.slot_heap.specs.Slot.{blank, head_slot, stored}
use Rattle.slot_heap.specs.Chains.{cell, update}
use Rattle.slot_heap.specs.Shown.{Low, all, next_address, is_thing, places, cells, shown, Owned}

-- all things but the one at r are as before
pub record OthersStay (h : Low) (r : ℕ) (h' : Low) : Type 0 where
  pub heads : (q : ℕ) → is_thing h' q ≡ is_thing h q
  pub apart : (q : ℕ) → IsTrue (is_thing h q) → q ≢ r → (places h' q ≡ places h q) × (cells h' q ≡ cells h q)
  pub owned : (q : ℕ) → Owned h q → Owned h' q

-- c stands in the thing at r, behind its k-th slot
pub record Added (h : Low) (r k : ℕ) (c : Slot) (h' : Low) : Type 0 where
  pub grown : length (all h') ≡ length (all h) + 1
  pub things : shown h' ≡ update r (insert (cells h r) (suc k) (cell c)) (shown h)
  pub placed : places h' r ≡ insert (places h r) (suc k) (next_address h)
  pub celled : cells h' r ≡ insert (cells h r) (suc k) (cell c)
  pub others : OthersStay h r h'

-- the k-th cell of the thing at r is c's; the head is the 0th
pub record Replaced (h : Low) (r k : ℕ) (c : Slot) (h' : Low) : Type 0 where
  pub same_length : length (all h') ≡ length (all h)
  pub things : shown h' ≡ update r (set (cells h r) k (cell (stored (k == 0) (get_or (cells h r) k blank) c))) (shown h)
  pub placed : places h' r ≡ places h r
  pub celled : cells h' r ≡ set (cells h r) k (cell (stored (k == 0) (get_or (cells h r) k blank) c))
  pub others : OthersStay h r h'

-- the slot after the k-th of the thing at r is gone from it
pub record Removed (h : Low) (r k : ℕ) (h' : Low) : Type 0 where
  pub same_length : length (all h') ≡ length (all h)
  pub things : shown h' ≡ update r (remove (cells h r) (suc k)) (shown h)
  pub placed : places h' r ≡ remove (places h r) (suc k)
  pub celled : cells h' r ≡ remove (cells h r) (suc k)
  pub others : OthersStay h r h'

-- a thing of these cells was made at r, behind all others
pub record Made (h : Low) (r : ℕ) (cs : List Slot) (h' : Low) : Type 0 where
  pub at : r ≡ next_address h
  pub grown : length (all h') ≡ length (all h) + length cs
  pub things : shown h' ≡ shown h ++ (r, cs) ∷ []
  pub celled : cells h' r ≡ cs
  pub owned : Owned h' r
  pub heads : (q : ℕ) → q ≢ r → is_thing h' q ≡ is_thing h q
  pub apart : (q : ℕ) → IsTrue (is_thing h q) → (places h' q ≡ places h q) × (cells h' q ≡ cells h q)
  pub still_owned : (q : ℕ) → Owned h q → Owned h' q

-- the cells of a thing that is made: a head, and n blank internals
abbrev pub new_cells : Kind → ℕ → ℕ → List Slot
new_cells kind prototype n = head_slot kind prototype ∷ replicate n blank
