-- What writes of preloaded things cost: marks, frozen things, a number as a key; and what `resume` starts with.
use Rattle.std.proofs.Common.{◌≡◌, ℕ, true, false, List, [], ◌∷◌, map, refl, None, pos, codes}
use Rattle.js_value.specs.Value.{Value, Undefined, Null, Number, Object, Numeral}
use Rattle.js_value.specs.Store.{Thing, AnObject, Property, Data, ObjectRecord}
use Rattle.js_value.specs.Job.{FulfilJob}
use Rattle.es_ops.specs.State.{nothing, some_slots, costs_at_start, counts_at_resume}
use Rattle.js_value.specs.declared.counts.Full.TheVariants.{Slots, Units, Names}
use Rattle.es_ops.specs.Ledger.{OutOf}
use Rattle.es_ops.specs.InternalMethods.{Freeze, PreventExtensions, SetPrototypeOf}
use Rattle.es_ops.specs.Events.{Apply}
use Rattle.es_ops.specs.Act.{Act, Give, Do, run, Ran}
use Rattle.es_ops.specs.PropertyWrites.{put_value}
use Rattle.es_ops.proofs.Samples.{plain, ordinary, array_of, realm_of, ample, world_with, state_in, calls, came, Gave, Stopped, used_after, computing}

-- a run over preloaded things whose first writes count, with so many slots
over : List Thing → (slots : ℕ) → Act → Ran
over things slots p = run calls p (state_in (world_with (record ample { slots = slots }) things (costs_at_start true (realm_of things))))

-- an object of one property
preloaded : List Thing
preloaded = AnObject (ordinary None ((codes "a", plain (Number (pos 1))) ∷ [])) ∷ []

fixed : Value → Property
fixed v = record { content = Data v false; enumerable = true; configurable = false }

two_fixed : ObjectRecord
two_fixed = record (array_of ((0, fixed (Number (pos 1))) ∷ (1, fixed (Number (pos 2))) ∷ []) 2 false) { extensible = false }

-- a frozen thing has no write, whatever it accepts
frozen_again : used_after (over (AnObject two_fixed ∷ []) 0 (Do (Apply 13 Freeze) (λ b. Do (Apply 13 PreventExtensions) (λ c. Give Null)))) ≡ nothing
unfolding computing over two_fixed fixed
frozen_again = refl

-- preventing extensions is a write, also where there are none; a prototype set to the same one is none
marks : used_after (over preloaded 9 (Do (Apply 13 PreventExtensions) (λ b. Give Null))) ∷ used_after (over preloaded 9 (Do (Apply 13 (SetPrototypeOf None)) (λ b. Give Null))) ∷ []
    ≡ some_slots 2 ∷ nothing ∷ []
unfolding computing over preloaded
marks = refl

-- a number's text that becomes a name costs its units, once
numeral : Act
numeral = put_value (Object 13) (Numeral (pos 4294967295)) Null (put_value (Object 13) (Numeral (pos 4294967295)) Null (Give Null))

numeral_cost : used_after (over preloaded 9 numeral) ≡ record { slots = 3; units = 10; names = 1 }
unfolding computing over preloaded numeral
numeral_cost = refl

-- limits are tested in the order units, names, slots; the copy fits in two slots, with the new property in three
within : (slots units names : ℕ) → Ran
within slots units names = run calls (put_value (Object 13) (Numeral (pos 4294967295)) Null (Give Null)) (state_in (world_with (record { slots = slots; units = units; names = names }) preloaded (costs_at_start true (realm_of preloaded))))

limits : map came (within 0 9 0 ∷ within 0 10 0 ∷ within 1 10 1 ∷ within 2 10 1 ∷ within 3 10 1 ∷ [])
    ≡ Stopped (OutOf Units) ∷ Stopped (OutOf Names) ∷ Stopped (OutOf Slots) ∷ Stopped (OutOf Slots) ∷ Gave Null ∷ []
unfolding computing preloaded within
limits = refl

-- an event that stops counts nothing
stopped_used : map used_after (within 0 9 0 ∷ within 0 10 0 ∷ within 2 10 1 ∷ []) ≡ nothing ∷ nothing ∷ nothing ∷ []
unfolding computing preloaded within
stopped_used = refl

-- resume starts with what the snapshot holds
resumed : counts_at_resume 7 5 (codes "ab" ∷ codes "c" ∷ []) (FulfilJob Undefined 0 Undefined ∷ []) ≡ record { slots = 11; units = 8; names = 2 }
resumed = refl
