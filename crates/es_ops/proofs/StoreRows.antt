-- What happens at the limits and at the edges of arrays.
use Rattle.std.proofs.Common.{◌≡◌, true, false, [], ◌∷◌, refl, Some, None, pos, codes}
use Rattle.js_value.specs.Value.{Undefined, Number, Object, Index, Named}
use Rattle.js_value.specs.Store.{ObjectRecord, Property, Data}
use Rattle.js_value.specs.declared.counts.Room.{Room}
use Rattle.es_ops.specs.State.{some_slots}
use Rattle.js_value.specs.declared.counts.Full.TheVariants.{Slots, Units}
use Rattle.es_ops.specs.Ledger.{OutOf}
use Rattle.es_ops.specs.InternalMethods.{no_fields, value_descriptor, refused, unchanged, wrote, define_own_property, delete_own_property}
use Rattle.es_ops.specs.Events.{Make, MakeText}
use Rattle.es_ops.specs.Act.{Act, Give, Do, run}
use Rattle.es_ops.proofs.Samples.{plain, ordinary, array_of, blank, ample, world_with, state_in, calls, came, Stopped, used_after, computing}

-- two objects in a room of one slot
two_objects : Act
two_objects = Do (Make blank) (λ a. Do (Make blank) (λ b. Give Undefined))

one_slot : Room
one_slot = record ample { slots = 1 }

second_object_stops : came (run calls two_objects (state_in (world_with one_slot [] []))) ≡ Stopped (OutOf Slots)
unfolding computing two_objects one_slot
second_object_stops = refl

one_slot_used : used_after (run calls two_objects (state_in (world_with one_slot [] []))) ≡ some_slots 1
unfolding computing two_objects one_slot
one_slot_used = refl

-- a text of three units in a room of two
text_stops : came (run calls (Do (MakeText 3) (λ t. Give Undefined)) (state_in (world_with (record ample { units = 2 }) [] []))) ≡ Stopped (OutOf Units)
unfolding computing
text_stops = refl

-- an array of three elements, the middle one not configurable
stuck : Property
stuck = record { content = Data Undefined true; enumerable = true; configurable = false }

three : ObjectRecord
three = array_of ((0, plain Undefined) ∷ (1, stuck) ∷ (2, plain Undefined) ∷ []) 3 true

-- its `length` is set to 0: it stops behind the middle one
lowered_past_stuck : define_own_property three (Named (codes "length")) (value_descriptor (Number (pos 0)))
    ≡ record { answer = false; written = Some (array_of ((0, plain Undefined) ∷ (1, stuck) ∷ []) 2 true) }
unfolding computing three stuck
lowered_past_stuck = refl

-- from there nothing changes any more, and nothing is written, but where `writable` goes
two : ObjectRecord
two = array_of ((0, plain Undefined) ∷ (1, stuck) ∷ []) 2 true

lowered_again : define_own_property two (Named (codes "length")) (value_descriptor (Number (pos 0))) ≡ refused
unfolding computing two stuck
lowered_again = refl

lowered_and_fixed : define_own_property two (Named (codes "length")) (record (value_descriptor (Number (pos 0))) { writable = Some false })
    ≡ record { answer = false; written = Some (array_of ((0, plain Undefined) ∷ (1, stuck) ∷ []) 2 false) }
unfolding computing two stuck
lowered_and_fixed = refl

-- a new element raises the length, unless that isn't writable
element_raises : define_own_property (array_of [] 1 true) (Index 4) (value_descriptor (Number (pos 7)))
    ≡ wrote (array_of ((4, record { content = Data (Number (pos 7)) false; enumerable = false; configurable = false }) ∷ []) 5 true)
unfolding computing
element_raises = refl

element_refused : define_own_property (array_of [] 1 false) (Index 4) (value_descriptor (Number (pos 7))) ≡ refused
unfolding computing
element_refused = refl

-- no accessor has an index
getter_at_index : define_own_property (ordinary None []) (Index 0) (record no_fields { get = Some (Object 3) }) ≡ refused
unfolding computing
getter_at_index = refl

-- a key that isn't there is deleted, and nothing changes
delete_absent : delete_own_property three (Named (codes "b")) ≡ unchanged
unfolding computing three
delete_absent = refl

delete_stuck : delete_own_property three (Index 1) ≡ refused
unfolding computing three stuck
delete_stuck = refl

delete_length : delete_own_property three (Named (codes "length")) ≡ refused
unfolding computing three
delete_length = refl
