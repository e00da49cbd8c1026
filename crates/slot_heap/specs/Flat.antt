-- The store that a heap shows.
use Rattle.std.specs.Prelude.{◌≡◌, ℕ, List, ◌++◌, map}
use Rattle.slot_heap.specs.declared.slot.Slot.{Slot}
use Rattle.slot_heap.specs.Shown.{shown}
use Rattle.slot_heap.specs.Held.{Held}
use Rattle.slot_heap.specs.Reading.{Reading, place_in, thing_of}
use Rattle.js_value.specs.Store.{Store}

abbrev pub heads_of : List (ℕ × List Slot) → List ℕ
heads_of ps = map (λ p. p.0) ps

unfoldable pub reading : Held → Reading
reading h = record { units = h.words.units; names = h.words.names; heads = heads_of (shown h.slots) }

-- the number of the thing at an address
unfoldable pub number_of : Held → ℕ → ℕ
number_of h a = place_in a (reading h).heads

-- the store: all things in the order of creation
unfoldable pub flat : Held → Store
flat h = map (λ p. thing_of (reading h) p.1) (shown h.slots)

-- nothing that is read has changed its place
pub record Grows (r r' : Reading) : Type 0 where
  pub units : (more : List ℕ) × (r'.units ≡ r.units ++ more)
  pub names : (more : List (ℕ × ℕ)) × (r'.names ≡ r.names ++ more)
  pub heads : (more : List ℕ) × (r'.heads ≡ r.heads ++ more)
