-- A slot that was given a value holds it.
use Rattle.std.proofs.Common.{◌≡◌, ℕ, ◌+◌, ◌*◌, ◌/◌, ◌%◌, ◌<◌, true, false, refl, ap, ap₂, arith, w64, SFits}
use Rattle.std.proofs.lemmas.Int.{to_z-of_z}
use Rattle.slot_heap.specs.declared.slot.Slot.{Slot}
use Rattle.slot_heap.specs.declared.slot.Value.{Value}
use Rattle.slot_heap.specs.declared.slot.Value.TheVariants.{Undefined, Null, Bool as OfBool, Number, Name, Text, Thing}
use Rattle.slot_heap.specs.Slot.{value_in, with_value, two_bytes, four_bytes}

-- what the types of a value's fields hold
abbrev pub FitsSlot : Value → Type 0
FitsSlot (Number n) = SFits w64 n
FitsSlot (Name n) = n < two_bytes
FitsSlot (Text at count) = (at < four_bytes) × (count < four_bytes)
FitsSlot (Thing r) = r.0 < four_bytes
FitsSlot _ = Unit {0}

tag_is : (t f : ℕ) → (8 * t + f % 8) / 8 ≡ t
tag_is t f = omega arith

pub value_with : (c : Slot) (v : Value) → FitsSlot v → value_in (with_value c v) ≡ v
unfolding value_in
value_with c Undefined f = rw (tag_is 0 c.flags) refl
value_with c Null f = rw (tag_is 1 c.flags) refl
value_with c (OfBool false) f = rw (tag_is 2 c.flags) refl
value_with c (OfBool true) f = rw (tag_is 3 c.flags) refl
value_with c (Number n) f = rw (tag_is 4 c.flags) (ap Number (to_z-of_z w64 n f))
value_with c (Name n) f = rw (tag_is 5 c.flags) (ap Name (omega arith))
value_with c (Text at count) f = rw (tag_is 6 c.flags) (ap₂ Text (omega (arith, f.0, f.1)) (omega (arith, f.0, f.1)))
value_with c (Thing r) f = rw (tag_is 7 c.flags) (ap (λ (n : ℕ). Thing (record { 0 = n })) (omega arith))
