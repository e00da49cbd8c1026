use Rattle.std.proofs.Common.{refl, ap, arith, w64, ◌≡◌, ◌/◌}
use Rattle.std.proofs.lemmas.Int.{of_z-to_z}
use Rattle.std.specs.Int.{cast_signed}
use Rattle.slot_heap.specs.declared.slot.Value.TheVariants.{Number}
use Rattle.slot_heap.specs.Slot.{value_in}
use Rattle.slot_heap.proofs.slot.Slot.value.Goals as goal

pub returns-in-0 : goal.returns-in-0
unfolding value_in
returns-in-0 c = rw c.in-0.is refl

pub returns-in-1 : goal.returns-in-1
unfolding value_in
returns-in-1 c = rw c.in-1.is refl

pub returns-in-2 : goal.returns-in-2
unfolding value_in
returns-in-2 c = rw c.in-2.is refl

pub returns-in-3 : goal.returns-in-3
unfolding value_in
returns-in-3 c = rw c.in-3.is refl

pub returns-in-4 : goal.returns-in-4
unfolding value_in
returns-in-4 c = rw (c.in-4.is, c.cast_signed.ensures) (ap (λ n. Number (cast_signed w64 n)) (of_z-to_z w64 c.args.self.value (omega arith)))

pub returns-in-5 : goal.returns-in-5
unfolding value_in
returns-in-5 c = rw c.in-5.is refl

pub returns-in-6 : goal.returns-in-6
unfolding value_in
returns-in-6 c = rw c.in-6.is refl

pub returns-in_default : goal.returns-in_default
unfolding value_in
returns-in_default c = let seven : c.args.self.flags / 8 ≡ 7 = omega arith in rw seven refl
