-- What the three writes of a slot do to the list of slots.
use Rattle.std.specs.Prelude.{ℕ, ◌-◌, Bool, List, [], ◌∷◌, ◌++◌, set, get_or}
use Rattle.slot_heap.specs.declared.slot.Slot.{Slot}
use Rattle.slot_heap.specs.Slot.{blank, stored}
use Rattle.slot_heap.specs.Shown.{Low}

abbrev pub with_ram : Low → List Slot → Low
with_ram h s = record h { ram = s }

-- one slot more, at which a thing begins or not
abbrev pub with_more : Low → List Slot → Bool → Low
with_more h s is_head = record h { ram = s; begins = h.begins ++ is_head ∷ [] }

-- c stands at an address behind the slot at place a
unfoldable pub put_behind : List Slot → ℕ → Slot → ℕ → List Slot
put_behind s a c at = set (s ++ record c { next = (get_or s a blank).next } ∷ []) a (record (get_or s a blank) { next = at })

-- the slot at place a is c's
unfoldable pub put_over : List Slot → ℕ → Bool → Slot → List Slot
put_over s a is_head c = set s a (record (stored is_head (get_or s a blank) c) { next = (get_or s a blank).next })

-- the slot after the one at place a is left out
unfoldable pub put_past : List Slot → ℕ → List Slot
put_past s a = set s a (record (get_or s a blank) { next = (get_or s ((get_or s a blank).next - 1) blank).next })
