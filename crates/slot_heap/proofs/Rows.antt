-- The definitions on small heaps, by computing.
use Rattle.std.proofs.Common.{◌≡◌, ℕ, true, false, [], ◌∷◌, refl, Some, None, negsuc}
use Rattle.slot_heap.specs.declared.slot.Slot.{Slot}
use Rattle.js_value.specs.declared.counts.Room.{Room}
use Rattle.js_value.specs.declared.counts.Full.TheVariants as full
use Rattle.slot_heap.specs.declared.slot.Kind.TheVariants.{Object, Cell}
use Rattle.slot_heap.specs.declared.slot.Value.TheVariants.{Number}
use Rattle.slot_heap.specs.Slot.{head_slot, stored, value_in, with_value}
use Rattle.slot_heap.specs.Walk.{walk}
use Rattle.slot_heap.specs.Chains.{cell, cells_at, chain, shown_in, step_of, thing_in}
use Rattle.slot_heap.specs.Shown.{Low, low, home, places, shown, thing}
use Rattle.slot_heap.specs.Held.{full_of, realm_address}
use Rattle.slot_heap.specs.Reading.{Reading, class_in, property_in, thing_of, value_of}
use Rattle.slot_heap.specs.Texts.{text_of}
use Rattle.js_value.specs.Value.{Number as ANumber}
use Rattle.js_value.specs.Store.{Data, Ordinary, AnObject, ACell}

-- an object whose one property stands behind another thing
abbrev property : Slot
property = with_value (record { next = 0; key = 0; kind = 16; flags = 7; value = 0; last = 0 }) (Number (negsuc 4))

abbrev first_head : Slot
first_head = record (head_slot Object 0) { next = 3 }

abbrev small : Low
small = low (first_head ∷ head_slot Cell 0 ∷ property ∷ []) (true ∷ true ∷ false ∷ []) 8

two_things : shown small ≡ (1, head_slot Object 0 ∷ property ∷ []) ∷ (2, head_slot Cell 0 ∷ []) ∷ []
unfolding shown shown_in thing thing_in home cells_at cell chain step_of walk
two_things = refl

where_they_stand : places small 1 ≡ 1 ∷ 3 ∷ []
unfolding home chain step_of walk
where_they_stand = refl

-- they are read as an object with the property `a`, and a cell that isn't initialised
abbrev names : Reading
names = record { units = 97 ∷ 98 ∷ []; names = (0, 1) ∷ []; heads = 1 ∷ 2 ∷ [] }

an_object : thing_of names (head_slot Object 0 ∷ property ∷ []) ≡ AnObject (record { class = Ordinary; prototype = None; extensible = true; indexed = []; named = (97 ∷ [], record { content = Data (ANumber (negsuc 4)) true; enumerable = true; configurable = true }) ∷ [] })
unfolding thing_of class_in property_in value_of value_in text_of
an_object = refl

a_cell : thing_of names (head_slot Cell 0 ∷ []) ≡ ACell (record { value = None; const = false })
unfolding thing_of
a_cell = refl

-- the first limit that would be passed is told
abbrev room : ℕ → ℕ → ℕ → Room
room slots units names = record { slots = slots; units = units; names = names }

units_first : full_of (room 1 1 1) (room 1 1 1) (room 1 1 1) ≡ Some full.Units
units_first = refl

names_next : full_of (room 1 1 1) (room 1 1 1) (room 1 0 1) ≡ Some full.Names
names_next = refl

to_the_brim : full_of (room 1 1 0) (room 3 1 2) (room 2 0 2) ≡ None
to_the_brim = refl

-- of an object's head the size and the alias number stay
head_kept : stored true (record { next = 0; key = 0; kind = 1; flags = 1; value = 8589934597; last = 7 }) (record { next = 0; key = 0; kind = 1; flags = 0; value = 12884901888; last = 0 }) ≡ record { next = 0; key = 0; kind = 1; flags = 0; value = 12884901893; last = 7 }
head_kept = refl

realm_places : (realm_address 0 ≡ 1) × (realm_address 2 ≡ 4) × (realm_address 13 ≡ 16) × (realm_address 103 ≡ 195)
realm_places = (refl, refl, refl, refl)
