-- Getters and setters along the prototype chain, and properties of primitives.
use Rattle.std.proofs.Common.{◌≡◌, ℕ, true, false, List, [], ◌∷◌, refl, Some, None, pos, codes}
use Rattle.js_value.specs.Value.{Undefined, Null, Number, String, Object, Key, Index, Named}
use Rattle.js_value.specs.Store.{Thing, AnObject, Property, Data}
use Rattle.es_ops.specs.State.{some_slots, some_units}
use Rattle.es_ops.specs.Messages.{NotWritable, InvalidArrayLength, text_of_message}
use Rattle.es_ops.specs.Errors.{error_record}
use Rattle.es_ops.specs.Act.{Give}
use Rattle.es_ops.specs.PropertyReads.{get, get_v}
use Rattle.es_ops.specs.PropertyWrites.{put_value, delete_v}
use Rattle.es_ops.proofs.Samples.{plain, getter, setter, ordinary, array_of, function, runs, came, Gave, Threw, thing_after, used_after, computing}

a : Key
a = Named (codes "a")

-- 13 inherits from 14, which inherits from 15; 16 gives the receiver
chain : (nearest farthest : List (List ℕ × Property)) → List Thing
chain nearest farthest = AnObject (ordinary (Some 14) []) ∷ AnObject (ordinary (Some 15) nearest) ∷ AnObject (ordinary None farthest) ∷ AnObject (function 1) ∷ []

-- a getter is called with the object that was asked
inherited_getter : came (runs (get 13 a Give) (chain [] ((codes "a", getter (Object 16)) ∷ []))) ≡ Gave (Object 13)
unfolding computing a chain
inherited_getter = refl

absent : came (runs (get 13 a Give) (chain [] [])) ≡ Gave Undefined
unfolding computing a chain
absent = refl

-- a setter on the chain is called, and the object gets no property
inherited_setter : came (runs (put_value (Object 13) a (Number (pos 5)) (Give Null)) (chain [] ((codes "a", setter (Object 16)) ∷ []))) ≡ Gave Null
unfolding computing a chain
inherited_setter = refl

setter_leaves : thing_after (runs (put_value (Object 13) a (Number (pos 5)) (Give Null)) (chain [] ((codes "a", setter (Object 16)) ∷ []))) 13 ≡ Some (AnObject (ordinary (Some 14) []))
unfolding computing a chain
setter_leaves = refl

-- a property on the chain that isn't writable refuses; its error is a new thing of two slots
read_only : Property
read_only = record { content = Data Undefined false; enumerable = true; configurable = true }

inherited_read_only : came (runs (put_value (Object 13) a (Number (pos 5)) (Give Null)) (chain ((codes "a", read_only) ∷ []) [])) ≡ Threw (Object 17)
unfolding computing a chain read_only
inherited_read_only = refl

not_writable : thing_after (runs (put_value (Object 13) a (Number (pos 5)) (Give Null)) (chain ((codes "a", read_only) ∷ []) [])) 17 ≡ Some (AnObject (error_record 6 (text_of_message NotWritable)))
unfolding computing a chain read_only
not_writable = refl

-- else the property is made on the receiver
made_on_receiver : thing_after (runs (put_value (Object 13) a (Number (pos 5)) (Give Null)) (chain [] [])) 13 ≡ Some (AnObject (ordinary (Some 14) ((codes "a", plain (Number (pos 5))) ∷ [])))
unfolding computing a chain
made_on_receiver = refl

-- a write to a primitive: its own properties refuse, others refuse but for a setter
string_writes : came (runs (put_value (String (codes "xy")) (Index 1) Null (Give Null)) []) ∷ came (runs (put_value (String (codes "xy")) (Named (codes "length")) Null (Give Null)) []) ∷ came (runs (put_value (String (codes "xy")) (Index 2) Null (Give Null)) []) ∷ came (runs (put_value (Number (pos 1)) a Null (Give Null)) []) ∷ came (runs (put_value Undefined a Null (Give Null)) []) ∷ []
    ≡ Threw (Object 13) ∷ Threw (Object 13) ∷ Threw (Object 13) ∷ Threw (Object 13) ∷ Threw (Object 13) ∷ []
unfolding computing a
string_writes = refl

-- a string's units and `length`
string_reads : came (runs (get_v (String (codes "xy")) (Index 1) Give) []) ∷ came (runs (get_v (String (codes "xy")) (Named (codes "length")) Give) []) ∷ came (runs (get_v (String (codes "xy")) (Index 2) Give) []) ∷ came (runs (get_v Null a Give) []) ∷ []
    ≡ Gave (String (codes "y")) ∷ Gave (Number (pos 2)) ∷ Gave Undefined ∷ Threw (Object 13) ∷ []
unfolding computing a
string_reads = refl

-- a character read by index is a made text
unit_cost : used_after (runs (get_v (String (codes "xy")) (Index 1) Give) []) ≡ some_units 1
unfolding computing
unit_cost = refl

-- a value for an array's `length` is converted once
length_write : thing_after (runs (put_value (Object 13) (Named (codes "length")) (String (codes "2")) (Give Null)) (AnObject (array_of [] 5 true) ∷ [])) 13 ≡ Some (AnObject (array_of [] 2 true))
unfolding computing
length_write = refl

length_out_of_range : thing_after (runs (put_value (Object 13) (Named (codes "length")) (Number (pos 4294967296)) (Give Null)) (AnObject (array_of [] 5 true) ∷ [])) 14 ≡ Some (AnObject (error_record 3 (text_of_message InvalidArrayLength)))
unfolding computing
length_out_of_range = refl

-- a new element costs one slot, and a new string key a name where it is none
element_cost : used_after (runs (put_value (Object 13) (Index 9) Null (Give Null)) (AnObject (array_of [] 5 true) ∷ [])) ≡ some_slots 1
unfolding computing
element_cost = refl

name_cost : used_after (runs (put_value (Object 13) a Null (put_value (Object 13) (Named (codes "zz")) Null (put_value (Object 13) (Named (codes "zz")) Null (Give Null)))) (chain [] [])) ≡ record { slots = 2; units = 0; names = 1 }
unfolding computing a chain
name_cost = refl

deletes : came (runs (delete_v (String (codes "abc")) (Named (codes "length")) (Give Null)) []) ∷ came (runs (delete_v (String (codes "abc")) (Index 0) (Give Null)) []) ∷ came (runs (delete_v (Number (pos 1)) a (Give Null)) []) ∷ []
    ≡ Threw (Object 13) ∷ Threw (Object 13) ∷ Gave Null ∷ []
unfolding computing a
deletes = refl
