-- The edges of operations: what writes cost, keys, lengths of arrays, promises, cells, prototypes, frozen things.
use Rattle.std.proofs.Common.{◌≡◌, ℕ, Bool, true, false, List, [], ◌∷◌, map, refl, Option, Some, None, pos, negsuc, codes, set}
use Rattle.js_value.specs.Value.{Value, Undefined, Null, Boolean, Number, String, Object, Key, Index, Named, Numeral, key_of_text, key_of_number}
use Rattle.js_value.specs.Store.{Thing, AnObject, ACell, AMark, ObjectRecord, Class, ResolveFunction, RejectFunction, Error, Array, Property, Data, Promise, PromiseState, Pending, Fulfilled, Rejected, Reaction, ScriptFunction, own_keys, with_property, without_property, is_frozen}
use Rattle.js_value.specs.NumberText.{text_of_number, number_of_text}
use Rattle.js_value.specs.Job.{Job, FulfilJob, RejectJob, ThenableJob}
use Rattle.js_value.specs.declared.counts.Room.{Room}
use Rattle.es_ops.specs.State.{World, nothing, some_slots, costs_at_start}
use Rattle.js_value.specs.declared.counts.Full.TheVariants.{Slots}
use Rattle.es_ops.specs.Ledger.{OutOf, Budget}
use Rattle.es_ops.specs.Messages.{Message, NumberOutOfRange, InvalidArrayLength, NotInitialised, AssignmentToConstant, NotWritable, NotDefinable, NotDeletable, PrimitiveExpected, AccessorOnIndex, ResolvedWithItself, NoProperties, text_of_message}
use Rattle.es_ops.specs.InternalMethods.{Freeze, PreventExtensions, SetPrototypeOf, DefineOwnProperty, PropertyDescriptor, no_fields, value_descriptor, data_descriptor, refused, unchanged, wrote, define_own_property}
use Rattle.es_ops.specs.Errors.{error_record}
use Rattle.es_ops.specs.Events.{Apply, Make, Attach}
use Rattle.es_ops.specs.Act.{Act, Give, Do, run, Ran, Calls, NormalCompletion, Ends}
use Rattle.es_ops.specs.Bindings.{make_cell, initialize_cell, read_cell, write_cell, copy_cell}
use Rattle.es_ops.specs.Conversions.{to_number, to_string, to_property_key, number_expected, key_expected, is_loosely_equal}
use Rattle.es_ops.specs.PropertyReads.{get, get_v, has_property}
use Rattle.es_ops.specs.PropertyWrites.{put_value, set_or_throw, create_data_property_or_throw, define_property_or_throw, delete_v, ordinary_set}
use Rattle.es_ops.specs.Jobs.{call_resolve_function, call_reject_function, fulfil_promise, reject_promise, promise_then, run_first_job, run_job, create_resolving_functions, resolve_promise}
use Rattle.es_ops.proofs.Samples.{plain, getter, setter, ordinary, array_of, function, blank, realm_of, ample, world_with, world_of, with_store, state_in, calls, runs, came, Came, Gave, Threw, Stopped, world_after, thing_after, used_after, computing}

rom : List Thing → (slots : ℕ) → Act → Ran
rom things slots p = run calls p (state_in (world_with (record ample { slots = slots }) things (costs_at_start true (realm_of things))))

cost : List Thing → Act → Room
cost things p = used_after (rom things 900 p)

a : Key
a = Named (codes "a")

len : Key
len = Named (codes "length")

n1 : Value
n1 = Number (pos 1)

fixed : Value → Property
fixed v = record { content = Data v false; enumerable = true; configurable = false }

stuck : Value → Property
stuck v = record { content = Data v true; enumerable = true; configurable = false }

error_of : ℕ → Message → Thing
error_of p m = AnObject (error_record p (text_of_message m))

done : Act
done = Give Null

-- 13 inherits a from 14: only the receiver is copied (size 1), plus one slot
inheriting : List Thing
inheriting = AnObject (ordinary (Some 14) []) ∷ AnObject (ordinary None ((codes "a", plain n1) ∷ (codes "b", plain n1) ∷ [])) ∷ []

receiver_alone_is_copied : cost inheriting (put_value (Object 13) a n1 done) ≡ some_slots 2
unfolding computing rom cost a n1 done inheriting
receiver_alone_is_copied = refl

-- an array of two elements: 1 + 1 + 2, then 1 for the new one; afterwards 1 each
pair : List Thing
pair = AnObject (array_of ((0, plain n1) ∷ (1, plain n1) ∷ []) 2 true) ∷ []

costs_of_array_writes : map (cost pair) (put_value (Object 13) (Index 2) n1 done ∷ put_value (Object 13) (Index 2) n1 (put_value (Object 13) (Index 5) n1 (put_value (Object 13) (Index 0) n1 done)) ∷ put_value (Object 13) len (Number (pos 0)) done ∷ put_value (Object 13) (Index 0) n1 done ∷ delete_v (Object 13) (Index 0) done ∷ delete_v (Object 13) (Index 7) done ∷ Do (Apply 13 Freeze) (λ b. done) ∷ Do (Apply 13 (SetPrototypeOf (Some 3))) (λ b. done) ∷ Do (Apply 13 (DefineOwnProperty (Index 0) no_fields)) (λ b. done) ∷ Do (Apply 13 (DefineOwnProperty (Index 0) (value_descriptor n1))) (λ b. done) ∷ Do (Apply 13 (DefineOwnProperty (Index 2) no_fields)) (λ b. done) ∷ [])
    ≡ some_slots 5 ∷ some_slots 6 ∷ some_slots 4 ∷ some_slots 4 ∷ some_slots 4 ∷ nothing ∷ some_slots 4 ∷ some_slots 4 ∷ nothing ∷ some_slots 4 ∷ some_slots 5 ∷ []
unfolding computing rom cost len n1 done pair
costs_of_array_writes = refl

-- a refused write costs its error alone
unwritable : List Thing
unwritable = AnObject (ordinary None ((codes "a", fixed n1) ∷ [])) ∷ []

costs_of_refused_writes : map (cost unwritable) (put_value (Object 13) a n1 done ∷ delete_v (Object 13) a done ∷ Do (Apply 13 (DefineOwnProperty a (value_descriptor Null))) (λ b. done) ∷ Do (Apply 13 (DefineOwnProperty a (value_descriptor n1))) (λ b. done) ∷ [])
    ≡ some_slots 2 ∷ some_slots 2 ∷ nothing ∷ some_slots 2 ∷ []
unfolding computing rom cost a n1 done fixed unwritable
costs_of_refused_writes = refl

-- a setter is no write
with_setter : List Thing
with_setter = AnObject (ordinary None ((codes "a", setter (Object 14)) ∷ [])) ∷ AnObject (function 1) ∷ []

setter_is_no_write : cost with_setter (put_value (Object 13) a n1 done) ≡ nothing
unfolding computing rom cost a n1 done with_setter
setter_is_no_write = refl

-- lowering that stops on its way: the copy (1 + 1 + 3) and the error; at the old length none
holding : List Thing
holding = AnObject (array_of ((0, plain n1) ∷ (1, stuck n1) ∷ (2, plain n1) ∷ []) 3 true) ∷ AnObject (array_of ((0, plain n1) ∷ (1, stuck n1) ∷ []) 2 true) ∷ []

costs_of_lowered_lengths : map (cost holding) (put_value (Object 13) len (Number (pos 0)) done ∷ put_value (Object 14) len (Number (pos 0)) done ∷ Do (Apply 14 (DefineOwnProperty len (record (value_descriptor (Number (pos 0))) { writable = Some false }))) (λ b. done) ∷ [])
    ≡ some_slots 7 ∷ some_slots 2 ∷ some_slots 4 ∷ []
unfolding computing rom cost len n1 done stuck holding
costs_of_lowered_lengths = refl

error_of_lowered_length : thing_after (rom holding 900 (put_value (Object 13) len (Number (pos 0)) done)) 15 ≡ Some (error_of 6 NotWritable)
unfolding computing rom len n1 done stuck holding error_of
error_of_lowered_length = refl

-- promises of the ROM
promise : PromiseState → List Reaction → Thing
promise state reactions = AnObject (record { class = Promise state reactions; prototype = Some 10; extensible = true; indexed = []; named = [] })

reaction : ℕ → Reaction
reaction d = record { derived = d; on_fulfilled = Object 16; on_rejected = Undefined }

promises : List Thing
promises = promise Pending (reaction 14 ∷ reaction 14 ∷ []) ∷ promise Pending [] ∷ AMark false ∷ AnObject (function 3) ∷ promise (Fulfilled n1) [] ∷ promise (Rejected n1) [] ∷ []

-- copy 2 + 6, two jobs; derived promise 2, copy 2, reaction 3; derived 2 and a job 4
costs_of_promises : map (cost promises) (fulfil_promise 13 Null done ∷ reject_promise 13 Null done ∷ promise_then 14 (Object 16) Null (λ d. done) ∷ promise_then 17 (Object 16) Null (λ d. done) ∷ call_resolve_function 14 15 Null ∷ call_reject_function 14 15 Null ∷ fulfil_promise 17 Null done ∷ [])
    ≡ some_slots 16 ∷ some_slots 16 ∷ some_slots 7 ∷ some_slots 6 ∷ some_slots 3 ∷ some_slots 3 ∷ nothing ∷ []
unfolding computing rom cost n1 done promise reaction promises
costs_of_promises = refl

-- names
naming : List Thing
naming = AnObject (ordinary None []) ∷ AnObject (ordinary None []) ∷ []

flat_cost : Act → Room
flat_cost p = used_after (runs p naming)

costs_of_names : map flat_cost (put_value (Object 13) (Named (codes "zz")) n1 (put_value (Object 14) (Named (codes "zz")) n1 done) ∷ put_value (Object 13) (key_of_number (negsuc 0)) n1 done ∷ put_value (Object 13) (key_of_text (codes "-1")) n1 (put_value (Object 14) (key_of_number (negsuc 0)) n1 done) ∷ put_value (Object 13) (key_of_text (codes "4294967295")) n1 done ∷ put_value (Object 13) (key_of_number (pos 4294967294)) n1 done ∷ put_value (Object 13) (key_of_text (codes "4294967294")) n1 done ∷ put_value (Object 13) (key_of_text (codes "01")) n1 done ∷ put_value (Object 13) a n1 done ∷ [])
    ≡ record { slots = 2; units = 0; names = 1 } ∷ record { slots = 1; units = 2; names = 1 } ∷ record { slots = 2; units = 0; names = 1 } ∷ record { slots = 1; units = 0; names = 1 } ∷ some_slots 1 ∷ some_slots 1 ∷ record { slots = 1; units = 0; names = 1 } ∷ some_slots 1 ∷ []
unfolding computing a n1 done naming flat_cost
costs_of_names = refl

names_in_order : (world_after (runs (put_value (Object 13) (Named (codes "zz")) n1 (put_value (Object 13) (key_of_number (negsuc 4)) n1 done)) naming)).heap.names ≡ codes "length" ∷ codes "a" ∷ codes "b" ∷ codes "then" ∷ codes "zz" ∷ codes "-5" ∷ []
unfolding computing n1 done naming
names_in_order = refl

-- the greatest index
greatest_index : thing_after (runs (put_value (Object 13) (Index 4294967294) n1 done) (AnObject (array_of [] 0 true) ∷ [])) 13 ≡ Some (AnObject (array_of ((4294967294, plain n1) ∷ []) 4294967295 true))
unfolding computing n1 done
greatest_index = refl

-- an accessor on an index; on a frozen object too
getter_of : PropertyDescriptor
getter_of = record no_fields { get = Some (Object 13) }

accessors_on_indices : thing_after (runs (define_property_or_throw number_expected 13 (Index 0) getter_of done) naming) 15 ∷ thing_after (runs (define_property_or_throw number_expected 13 (Index 0) (record getter_of { value = Some n1 }) done) naming) 15 ∷ thing_after (runs (define_property_or_throw number_expected 13 a (record getter_of { value = Some n1 }) done) naming) 15 ∷ []
    ≡ Some (error_of 6 AccessorOnIndex) ∷ Some (error_of 6 NotDefinable) ∷ Some (error_of 6 NotDefinable) ∷ []
unfolding computing a n1 done naming getter_of error_of
accessors_on_indices = refl

-- an array's length: what converts and what throws
lengths : List Thing
lengths = AnObject (array_of [] 5 true) ∷ AnObject (ordinary None ((codes "valueOf", plain (Object 15)) ∷ [])) ∷ AnObject (function 3) ∷ []

after_length : Value → Option Thing
after_length v = thing_after (runs (put_value (Object 13) len v done) lengths) 13

lengths_converted : map after_length (Null ∷ Boolean true ∷ String (codes " 0x10 ") ∷ String [] ∷ Object 14 ∷ [])
    ≡ Some (AnObject (array_of [] 0 true)) ∷ Some (AnObject (array_of [] 1 true)) ∷ Some (AnObject (array_of [] 16 true)) ∷ Some (AnObject (array_of [] 0 true)) ∷ Some (AnObject (array_of [] 7 true)) ∷ []
unfolding computing len n1 done lengths after_length
lengths_converted = refl

thrown_by_length : Value → Option Thing
thrown_by_length v = thing_after (runs (put_value (Object 13) len v done) lengths) 16

lengths_refused : map thrown_by_length (Undefined ∷ String (codes "1e1") ∷ Number (negsuc 0) ∷ Number (pos 4294967296) ∷ [])
    ≡ Some (error_of 3 NumberOutOfRange) ∷ Some (error_of 3 NumberOutOfRange) ∷ Some (error_of 3 InvalidArrayLength) ∷ Some (error_of 3 InvalidArrayLength) ∷ []
unfolding computing len done lengths thrown_by_length error_of
lengths_refused = refl

lengths_by_built_ins : thing_after (runs (set_or_throw number_expected 13 len (Object 14) done) lengths) 16 ∷ thing_after (runs (create_data_property_or_throw 13 len n1 done) lengths) 16 ∷ []
    ≡ Some (error_of 6 PrimitiveExpected) ∷ Some (error_of 6 NotDefinable) ∷ []
unfolding computing len n1 done lengths error_of
lengths_by_built_ins = refl

-- the greatest length, and an object where a built-in takes a length
greatest_length : after_length (Number (pos 4294967295)) ≡ Some (AnObject (array_of [] 4294967295 true))
unfolding computing len n1 done lengths after_length
greatest_length = refl

object_as_a_length : thing_after (runs (create_data_property_or_throw 13 len (Object 14) done) lengths) 16 ≡ Some (error_of 6 PrimitiveExpected)
unfolding computing len n1 done lengths error_of
object_as_a_length = refl

-- an array as a prototype: its length is found, and the receiver gets its own, unconverted
array_proto : Bool → List Thing
array_proto writable = AnObject (ordinary (Some 14) []) ∷ AnObject (array_of [] 5 writable) ∷ []

length_of_a_prototype : thing_after (runs (put_value (Object 13) len (String (codes "x")) done) (array_proto true)) 13 ∷ thing_after (runs (put_value (Object 13) len n1 done) (array_proto false)) 15 ∷ []
    ≡ Some (AnObject (ordinary (Some 14) ((codes "length", plain (String (codes "x"))) ∷ []))) ∷ Some (error_of 6 NotWritable) ∷ []
unfolding computing len n1 done array_proto error_of
length_of_a_prototype = refl

-- super.length = "3" with an array as receiver: it is converted
length_through_super : thing_after (runs (ordinary_set to_number 13 len (String (codes "3")) (Object 14) (λ b. Give (Boolean b))) (AnObject (ordinary None []) ∷ AnObject (array_of [] 5 true) ∷ [])) 14 ≡ Some (AnObject (array_of [] 3 true))
unfolding computing len
length_through_super = refl

-- ---- keys and order
three_keys : ObjectRecord
three_keys = with_property (without_property (with_property (with_property (with_property (with_property (array_of [] 9 true) (Named (codes "b")) (plain n1)) a (plain n1)) (Index 7) (plain n1)) (Index 3) (plain n1)) (Named (codes "b"))) (Named (codes "b")) (plain Null)

own_keys_in_order : own_keys three_keys ≡ Index 3 ∷ Index 7 ∷ len ∷ a ∷ Named (codes "b") ∷ []
unfolding computing a len n1 three_keys
own_keys_in_order = refl

-- a property that changes keeps its place
ab : ObjectRecord
ab = ordinary None ((codes "a", getter (Object 3)) ∷ (codes "b", plain n1) ∷ [])

changed_property_keeps_its_place : define_own_property ab a (value_descriptor n1) ≡ wrote (ordinary None ((codes "a", record { content = Data n1 false; enumerable = true; configurable = true }) ∷ (codes "b", plain n1) ∷ []))
unfolding computing a n1 ab
changed_property_keeps_its_place = refl

shown_key : Key → Act
shown_key (Index i) = Give (Number (pos i))
shown_key (Named t) = Give (String t)
shown_key (Numeral n) = Give (Boolean true)

key_shown : Value → Came
key_shown v = came (runs (to_property_key v shown_key) (AnObject (ordinary None ((codes "toString", plain (Object 14)) ∷ [])) ∷ AnObject (function 3) ∷ []))

keys_of_values : map key_shown (n1 ∷ String (codes "1") ∷ String (codes "01") ∷ Number (negsuc 0) ∷ Null ∷ Undefined ∷ Boolean false ∷ Object 13 ∷ String (codes "4294967295") ∷ Number (pos 4294967295) ∷ String (codes "4294967294") ∷ String [] ∷ String (codes "-0") ∷ [])
    ≡ Gave n1 ∷ Gave n1 ∷ Gave (String (codes "01")) ∷ Gave (Boolean true) ∷ Gave (String (codes "null")) ∷ Gave (String (codes "undefined")) ∷ Gave (String (codes "false")) ∷ Gave (Number (pos 7)) ∷ Gave (String (codes "4294967295")) ∷ Gave (Boolean true) ∷ Gave (Number (pos 4294967294)) ∷ Gave (String []) ∷ Gave (String (codes "-0")) ∷ []
unfolding computing n1 shown_key key_shown
keys_of_values = refl

numbers_of_texts : map number_of_text ([] ∷ (65279 ∷ 9 ∷ 49 ∷ 50 ∷ 10 ∷ 8233 ∷ []) ∷ codes "+0" ∷ codes "-0" ∷ codes "-7" ∷ codes "0X1F" ∷ codes "0b102" ∷ codes "0o17" ∷ codes "-0x1" ∷ codes "+0x1" ∷ codes "1e3" ∷ codes "1.0" ∷ codes "Infinity" ∷ codes "9007199254740991" ∷ codes "9007199254740992" ∷ codes "-9007199254740991" ∷ codes "00012" ∷ codes "0x" ∷ codes "-" ∷ codes "1 2" ∷ codes "1_0" ∷ codes "0x20000000000000" ∷ codes "0x1fffffffffffff" ∷ [])
    ≡ Some (pos 0) ∷ Some (pos 12) ∷ Some (pos 0) ∷ None ∷ Some (negsuc 6) ∷ Some (pos 31) ∷ None ∷ Some (pos 15) ∷ None ∷ None ∷ None ∷ None ∷ None ∷ Some (pos 9007199254740991) ∷ None ∷ Some (negsuc 9007199254740990) ∷ Some (pos 12) ∷ None ∷ None ∷ None ∷ None ∷ None ∷ Some (pos 9007199254740991) ∷ []
unfolding computing
numbers_of_texts = refl

equal : (x y : Value) → Came
equal x y = came (runs (is_loosely_equal x y (λ b. Give (Boolean b))) (AnObject (ordinary None ((codes "valueOf", plain (Object 14)) ∷ [])) ∷ AnObject (function 3) ∷ []))

loose_equalities : equal (String (codes "7")) (Object 13) ∷ equal (String (codes "a")) (Boolean true) ∷ equal (Boolean false) (String []) ∷ equal (Boolean false) Null ∷ equal (String (codes "8")) (Object 13) ∷ equal (Object 13) (Boolean true) ∷ equal Undefined (String (codes "x")) ∷ []
    ≡ Gave (Boolean true) ∷ Threw (Object 15) ∷ Gave (Boolean true) ∷ Gave (Boolean false) ∷ Gave (Boolean false) ∷ Gave (Boolean false) ∷ Gave (Boolean false) ∷ []
unfolding computing equal
loose_equalities = refl

-- ---- promises

-- 13, 14 pending, 15 a mark, 16 `then` throws by a getter, 17 throws, 18 no `then`, 19 a `then` that isn't callable, 20 gives its receiver
ps : List Thing
ps = promise Pending [] ∷ promise Pending [] ∷ AMark false ∷ AnObject (ordinary None ((codes "then", getter (Object 17)) ∷ [])) ∷ AnObject (function 2) ∷ AnObject (ordinary None []) ∷ AnObject (ordinary None ((codes "then", plain n1) ∷ [])) ∷ AnObject (function 1) ∷ []

after : Act → World
after p = world_after (runs p ps)

resolutions_by_then : thing_after (runs (call_resolve_function 13 15 (Object 16)) ps) 13 ∷ thing_after (runs (call_resolve_function 13 15 (Object 18)) ps) 13 ∷ thing_after (runs (call_resolve_function 13 15 (Object 19)) ps) 13 ∷ []
    ≡ Some (promise (Rejected (Number (pos 9))) []) ∷ Some (promise (Fulfilled (Object 18)) []) ∷ Some (promise (Fulfilled (Object 19)) []) ∷ []
unfolding computing n1 promise ps
resolutions_by_then = refl

rejections_in_order : (after (call_resolve_function 13 15 (Object 16))).rejections ∷ (after (reject_promise 14 Null (reject_promise 13 Null done))).rejections ∷ (after (reject_promise 14 Null (reject_promise 13 Null (promise_then 14 Null Null (λ d. done))))).rejections ∷ [] ≡ (13 ∷ []) ∷ (14 ∷ 13 ∷ []) ∷ (13 ∷ []) ∷ []
unfolding computing n1 done promise ps after
rejections_in_order = refl

-- promises and a queue of jobs
waiting : List Job → World
waiting jobs = record (world_of ps) { heap = record (world_of ps).heap { jobs = jobs } }

-- no unit for a job
no_unit : Ran
no_unit = run calls run_first_job (record (state_in (waiting (FulfilJob Undefined 13 Null ∷ []))) { meter = 0 })

job_without_a_unit : came no_unit ≡ Stopped Budget
unfolding computing promise n1 ps waiting no_unit
job_without_a_unit = refl

job_stays_without_a_unit : (world_after no_unit).heap.jobs ≡ FulfilJob Undefined 13 Null ∷ []
unfolding computing promise n1 ps waiting no_unit
job_stays_without_a_unit = refl

-- a thenable's job: mark 21, functions 22 and 23; where `then` throws, the mark is set
thenable : ℕ → Ran
thenable f = runs (run_job (ThenableJob 13 (Object 18) (Object f))) ps

thenable_that_throws : thing_after (thenable 17) 13 ∷ thing_after (thenable 17) 21 ∷ thing_after (thenable 20) 13 ∷ thing_after (thenable 20) 21 ∷ []
    ≡ Some (promise (Rejected (Number (pos 9))) []) ∷ Some (AMark true) ∷ Some (promise Pending []) ∷ Some (AMark false) ∷ []
unfolding computing promise n1 ps thenable
thenable_that_throws = refl

costs_of_thenable_jobs : used_after (thenable 17) ∷ used_after (thenable 20) ∷ [] ≡ some_slots 13 ∷ some_slots 13 ∷ []
unfolding computing promise n1 ps thenable
costs_of_thenable_jobs = refl

-- handlers: one that throws; none, with the derived promise itself; a reason passed on
handlers : thing_after (runs (run_job (FulfilJob (Object 17) 13 Null)) ps) 13 ∷ thing_after (runs (run_job (FulfilJob Undefined 13 (Object 13))) ps) 21 ∷ thing_after (runs (run_job (RejectJob Undefined 13 n1)) ps) 13 ∷ thing_after (runs (run_job (RejectJob (Object 20) 13 n1)) ps) 13 ∷ []
    ≡ Some (promise (Rejected (Number (pos 9))) []) ∷ Some (error_of 6 ResolvedWithItself) ∷ Some (promise (Rejected n1) []) ∷ Some (promise (Fulfilled Undefined) []) ∷ []
unfolding computing promise n1 ps error_of
handlers = refl

-- ---- cells

cells : List Thing
cells = ACell (record { value = None; const = true }) ∷ ACell (record { value = Some n1; const = true }) ∷ ACell (record { value = Some n1; const = false }) ∷ []

cells_read_and_written : thing_after (runs (write_cell 13 Null done) cells) 16 ∷ thing_after (runs (write_cell 14 Null done) cells) 16 ∷ thing_after (runs (read_cell 13 Give) cells) 16 ∷ thing_after (runs (copy_cell 14 (λ c. done)) cells) 16 ∷ thing_after (runs (write_cell 15 Null done) cells) 15 ∷ []
    ≡ Some (error_of 4 NotInitialised) ∷ Some (error_of 6 AssignmentToConstant) ∷ Some (error_of 4 NotInitialised) ∷ Some (ACell (record { value = Some n1; const = true })) ∷ Some (ACell (record { value = Some Null; const = false })) ∷ []
unfolding computing n1 done cells error_of write_cell read_cell copy_cell
cells_read_and_written = refl

costs_of_cells : map (cost cells) (initialize_cell 13 Null done ∷ write_cell 15 Null (write_cell 15 n1 done) ∷ write_cell 14 Null done ∷ read_cell 15 Give ∷ copy_cell 15 (λ c. done) ∷ make_cell true (λ c. initialize_cell c Null done) ∷ [])
    ≡ some_slots 1 ∷ some_slots 1 ∷ some_slots 2 ∷ nothing ∷ some_slots 1 ∷ some_slots 1 ∷ []
unfolding computing n1 done cells rom cost write_cell read_cell copy_cell make_cell initialize_cell
costs_of_cells = refl

-- ---- prototypes

line : List Thing
line = AnObject (ordinary (Some 14) []) ∷ AnObject (ordinary (Some 15) []) ∷ AnObject (array_of [] 4 true) ∷ AnObject (record (ordinary None []) { extensible = false }) ∷ []

set_proto : ℕ → Option ℕ → Came
set_proto n p = came (runs (Do (Apply n (SetPrototypeOf p)) (λ b. Give (Boolean b))) line)

prototypes_set : set_proto 15 (Some 13) ∷ set_proto 13 (Some 13) ∷ set_proto 13 None ∷ set_proto 13 (Some 15) ∷ set_proto 16 None ∷ set_proto 16 (Some 13) ∷ []
    ≡ Gave (Boolean false) ∷ Gave (Boolean false) ∷ Gave (Boolean true) ∷ Gave (Boolean true) ∷ Gave (Boolean true) ∷ Gave (Boolean false) ∷ []
unfolding computing line set_proto
prototypes_set = refl

found_along_a_chain : came (runs (has_property 13 len (λ b. Give (Boolean b))) line) ∷ came (runs (get 13 len Give) line) ∷ came (runs (has_property 13 a (λ b. Give (Boolean b))) line) ∷ []
    ≡ Gave (Boolean true) ∷ Gave (Number (pos 4)) ∷ Gave (Boolean false) ∷ []
unfolding computing line len a
found_along_a_chain = refl

-- a property of a primitive's prototype: the receiver is the primitive
fs : List Thing
fs = AnObject (function 1) ∷ []

primitive : ℕ → Act → Came
primitive place p = came (run calls p (state_in (with_store (world_of fs) (set (realm_of fs) place (AnObject (ordinary None ((codes "a", getter (Object 13)) ∷ (codes "b", setter (Object 13)) ∷ [])))))))

primitives_as_receivers : primitive 11 (get_v (String (codes "xy")) a Give) ∷ primitive 8 (get_v n1 a Give) ∷ primitive 7 (get_v (Boolean true) a Give) ∷ primitive 11 (put_value (String (codes "xy")) (Named (codes "b")) n1 done) ∷ primitive 11 (put_value (String (codes "xy")) a n1 done) ∷ primitive 0 (get_v n1 a Give) ∷ []
    ≡ Gave (String (codes "xy")) ∷ Gave n1 ∷ Gave (Boolean true) ∷ Gave Null ∷ Threw (Object 14) ∷ Gave Undefined ∷ []
unfolding computing a n1 done fs primitive
primitives_as_receivers = refl

bases_without_properties : thing_after (runs (delete_v Null a done) []) 13 ∷ thing_after (runs (get_v Undefined a Give) []) 13 ∷ thing_after (runs (put_value Null a n1 done) []) 13 ∷ thing_after (runs (put_value n1 a n1 done) []) 13 ∷ thing_after (runs (delete_v (String (codes "a")) (Index 0) done) []) 13 ∷ []
    ≡ Some (error_of 6 NoProperties) ∷ Some (error_of 6 NoProperties) ∷ Some (error_of 6 NoProperties) ∷ Some (error_of 6 NotWritable) ∷ Some (error_of 6 NotDeletable) ∷ []
unfolding computing a n1 done error_of
bases_without_properties = refl

-- ---- arrays' length again

shut : ObjectRecord
shut = array_of ((0, plain n1) ∷ []) 2 false

defines_of_a_fixed_length : map (define_own_property shut len) (value_descriptor (Number (pos 2)) ∷ record (value_descriptor (Number (pos 2))) { writable = Some true } ∷ value_descriptor (Number (pos 3)) ∷ value_descriptor (Number (pos 1)) ∷ record no_fields { writable = Some false } ∷ record no_fields { configurable = Some true } ∷ record no_fields { enumerable = Some false } ∷ record no_fields { get = Some Undefined } ∷ no_fields ∷ [])
    ≡ wrote shut ∷ refused ∷ refused ∷ refused ∷ wrote shut ∷ refused ∷ wrote shut ∷ refused ∷ unchanged ∷ []
unfolding computing len n1 shut
defines_of_a_fixed_length = refl

defines_past_a_fixed_length : define_own_property shut (Index 1) (data_descriptor n1) ∷ define_own_property shut (Index 2) (data_descriptor n1) ∷ define_own_property shut (Numeral (pos 4294967295)) (data_descriptor n1) ∷ []
    ≡ wrote (array_of ((0, plain n1) ∷ (1, plain n1) ∷ []) 2 false) ∷ refused ∷ wrote (record shut { named = (codes "4294967295", plain n1) ∷ [] }) ∷ []
unfolding computing n1 shut
defines_past_a_fixed_length = refl

opened : ObjectRecord
opened = array_of ((0, plain n1) ∷ (1, stuck n1) ∷ (3, plain n1) ∷ (5, stuck n1) ∷ (8, plain n1) ∷ []) 9 true

lengths_lowered : define_own_property opened len (record (value_descriptor (Number (pos 2))) { writable = Some false; enumerable = Some false }) ∷ define_own_property opened len (record (value_descriptor (Number (pos 2))) { enumerable = Some true }) ∷ define_own_property opened len (value_descriptor (Number (pos 6))) ∷ define_own_property opened len (value_descriptor (Number (pos 4294967295))) ∷ []
    ≡ record { answer = false; written = Some (record opened { class = Array 6 false; indexed = (0, plain n1) ∷ (1, stuck n1) ∷ (3, plain n1) ∷ (5, stuck n1) ∷ [] }) } ∷ refused ∷ wrote (record opened { class = Array 6 true; indexed = (0, plain n1) ∷ (1, stuck n1) ∷ (3, plain n1) ∷ (5, stuck n1) ∷ [] }) ∷ wrote (record opened { class = Array 4294967295 true }) ∷ []
unfolding computing len n1 stuck opened
lengths_lowered = refl

-- ---- marks of extension and frozen things

marks : List Thing
marks = AnObject (record (ordinary None ((codes "a", plain n1) ∷ [])) { extensible = false }) ∷ promise Pending [] ∷ AnObject (record (ordinary None ((codes "a", fixed n1) ∷ [])) { extensible = false }) ∷ []

costs_of_frozen_things : map (cost marks) (Do (Apply 13 PreventExtensions) (λ b. done) ∷ Do (Apply 14 Freeze) (λ b. Do (Apply 14 Freeze) (λ c. fulfil_promise 14 Null done)) ∷ Do (Apply 15 Freeze) (λ b. done) ∷ Do (Apply 15 (DefineOwnProperty a (value_descriptor n1))) (λ b. done) ∷ Do (Apply 13 (SetPrototypeOf None)) (λ b. done) ∷ put_value (Object 13) (Named (codes "zz")) n1 done ∷ [])
    ≡ some_slots 2 ∷ some_slots 2 ∷ nothing ∷ nothing ∷ nothing ∷ some_slots 2 ∷ []
unfolding computing a n1 done fixed promise marks rom cost
costs_of_frozen_things = refl

frozen_objects : map is_frozen (record (ordinary None ((codes "a", record (getter n1) { configurable = false }) ∷ [])) { extensible = false } ∷ record (ordinary None ((codes "a", getter n1) ∷ [])) { extensible = false } ∷ record (ordinary None ((codes "a", stuck n1) ∷ [])) { extensible = false } ∷ record (array_of [] 0 true) { extensible = false } ∷ record (array_of [] 0 false) { extensible = false } ∷ [])
    ≡ true ∷ false ∷ false ∷ false ∷ true ∷ []
unfolding computing n1 stuck
frozen_objects = refl

texts_of_numbers : text_of_number (negsuc 9007199254740990) ∷ text_of_number (pos 0) ∷ text_of_number (pos 9007199254740991) ∷ [] ≡ codes "-9007199254740991" ∷ codes "0" ∷ codes "9007199254740991" ∷ []
texts_of_numbers = refl

-- a setter alone reads as undefined; a getter alone refuses a write
accessors_of_one_half : came (runs (get 13 a Give) with_setter) ∷ came (runs (put_value (Object 13) a n1 done) (AnObject (ordinary None ((codes "a", getter (Object 14)) ∷ [])) ∷ AnObject (function 1) ∷ [])) ∷ [] ≡ Gave Undefined ∷ Threw (Object 15) ∷ []
unfolding computing a n1 done with_setter
accessors_of_one_half = refl

-- a receiver's own accessor or unwritable property refuses what a prototype's data property lets through
super_set : Property → Came
super_set p = came (runs (ordinary_set to_number 13 a n1 (Object 14) (λ b. Give (Boolean b))) (AnObject (ordinary None ((codes "a", plain n1) ∷ [])) ∷ AnObject (ordinary None ((codes "a", p) ∷ [])) ∷ AnObject (function 1) ∷ []))

receivers_own_property : map super_set (setter (Object 15) ∷ fixed n1 ∷ plain Null ∷ stuck Null ∷ []) ∷ [] ≡ (Gave (Boolean false) ∷ Gave (Boolean false) ∷ Gave (Boolean true) ∷ Gave (Boolean true) ∷ []) ∷ []
unfolding computing a n1 fixed stuck super_set
receivers_own_property = refl

-- a write through `super` keeps the property's attributes
attributes_stay_through_super : thing_after (runs (ordinary_set to_number 13 a n1 (Object 14) (λ b. Give (Boolean b))) (AnObject (ordinary None []) ∷ AnObject (ordinary None ((codes "a", record { content = Data Null true; enumerable = false; configurable = false }) ∷ [])) ∷ [])) 14
    ≡ Some (AnObject (ordinary None ((codes "a", record { content = Data n1 true; enumerable = false; configurable = false }) ∷ [])))
unfolding computing a n1
attributes_stay_through_super = refl

-- the queue is first in, first out; four slots each
queue_in_order : (after (fulfil_promise 13 Null (promise_then 13 (Object 20) Null (λ d. promise_then 13 (Object 17) Null (λ e. done))))).heap.jobs ≡ FulfilJob (Object 20) 21 Null ∷ FulfilJob (Object 17) 22 Null ∷ []
unfolding computing promise n1 done ps after
queue_in_order = refl

-- a promise that is resolved with a promise with a `then`: two jobs later; here its own `then` is callable
thenable_of_a_promise : (after (resolve_promise 13 (Object 16) done)).heap.jobs ≡ []
unfolding computing promise n1 done ps after
thenable_of_a_promise = refl

-- a new name isn't added by what stops or is refused
closed : List Thing
closed = AnObject (record (ordinary None []) { extensible = false }) ∷ []

refused_name : (world_after (runs (put_value (Object 13) (Named (codes "zz")) n1 done) closed)).heap.names ≡ codes "length" ∷ codes "a" ∷ codes "b" ∷ codes "then" ∷ []
unfolding computing n1 done closed
refused_name = refl

-- a define of an accessor: name and slot
costs_of_an_accessor : flat_cost (define_property_or_throw number_expected 13 (Named (codes "q")) getter_of done) ≡ record { slots = 1; units = 0; names = 1 }
unfolding computing naming flat_cost getter_of done
costs_of_an_accessor = refl

-- an object's class and prototype stay when it is frozen; an accessor keeps its functions
frozen_accessor : thing_after (runs (Do (Apply 13 Freeze) (λ b. done)) (AnObject (ordinary (Some 0) ((codes "a", getter (Object 3)) ∷ (codes "b", plain n1) ∷ [])) ∷ [])) 13
    ≡ Some (AnObject (record (ordinary (Some 0) ((codes "a", record (getter (Object 3)) { configurable = false }) ∷ (codes "b", fixed n1) ∷ [])) { extensible = false }))
unfolding computing n1 fixed done
frozen_accessor = refl

-- the string's own keys
own_keys_of_strings : came (runs (get_v (String (codes "xy")) (Numeral (negsuc 0)) Give) []) ∷ came (runs (get_v (String []) len Give) []) ∷ came (runs (get_v (String (codes "xy")) (key_of_text (codes "01")) Give) []) ∷ [] ≡ Gave Undefined ∷ Gave (Number (pos 0)) ∷ Gave Undefined ∷ []
unfolding computing len
own_keys_of_strings = refl

-- what counts at the limits: a promise's fulfilment is one event, each job another
stops_between_events : map came (rom promises 8 (fulfil_promise 13 Null done) ∷ rom promises 7 (fulfil_promise 13 Null done) ∷ rom promises 12 (fulfil_promise 13 Null done) ∷ rom promises 16 (fulfil_promise 13 Null done) ∷ []) ≡ Stopped (OutOf Slots) ∷ Stopped (OutOf Slots) ∷ Stopped (OutOf Slots) ∷ Gave Null ∷ []
unfolding computing rom promise n1 done reaction promises
stops_between_events = refl

counts_at_stops : map used_after (rom promises 8 (fulfil_promise 13 Null done) ∷ rom promises 7 (fulfil_promise 13 Null done) ∷ rom promises 12 (fulfil_promise 13 Null done) ∷ []) ≡ some_slots 8 ∷ nothing ∷ some_slots 12 ∷ []
unfolding computing rom promise n1 done reaction promises
counts_at_stops = refl

counts_of_then_at_stops : map used_after (rom promises 2 (promise_then 14 Null Null (λ d. done)) ∷ rom promises 1 (promise_then 14 Null Null (λ d. done)) ∷ rom promises 6 (promise_then 14 Null Null (λ d. done)) ∷ []) ≡ some_slots 2 ∷ nothing ∷ some_slots 2 ∷ []
unfolding computing rom promise n1 done reaction promises
counts_of_then_at_stops = refl

-- a promise with a reaction is no rejection; its job has the reaction's second handler
both : List Thing
both = promise Pending (record { derived = 14; on_fulfilled = Object 15; on_rejected = Object 16 } ∷ []) ∷ promise Pending [] ∷ AnObject (function 1) ∷ AnObject (function 3) ∷ AnObject (ordinary None ((codes "then", plain (Object 15)) ∷ [])) ∷ AnObject (ordinary None ((codes "toString", plain (Object 17)) ∷ (codes "valueOf", plain (Object 16)) ∷ [])) ∷ AnObject (ordinary None ((codes "toString", plain (Object 16)) ∷ (codes "valueOf", plain (Object 20)) ∷ [])) ∷ AnObject (function 4) ∷ []

job_of_a_rejection : (world_after (runs (reject_promise 13 n1 done) both)).heap.jobs ≡ RejectJob (Object 16) 14 n1 ∷ []
unfolding computing promise n1 done both
job_of_a_rejection = refl

no_rejection_with_a_reaction : (world_after (runs (reject_promise 13 n1 done) both)).rejections ≡ []
unfolding computing promise n1 done both
no_rejection_with_a_reaction = refl

-- a handler that returns a thenable: a job more
thenable_calls : Calls
thenable_calls f this vs target s = Ends (NormalCompletion (Object 17)) s

handler_that_gives_a_thenable : (world_after (run thenable_calls (run_job (FulfilJob (Object 15) 14 Null)) (state_in (world_of both)))).heap.jobs ≡ ThenableJob 14 (Object 17) (Object 15) ∷ []
unfolding computing promise n1 both thenable_calls
handler_that_gives_a_thenable = refl

-- hint string: toString first, then valueOf; 18's toString isn't callable, 19's gives 7
hint_string : came (runs (to_string (Object 18) (λ t. Give (String t))) both) ∷ came (runs (to_string (Object 19) (λ t. Give (String t))) both) ∷ came (runs (to_property_key (Object 19) shown_key) both) ∷ came (runs (to_number (Object 19) (λ n. Give (Number n))) both) ∷ []
    ≡ Gave (String (codes "7")) ∷ Gave (String (codes "7")) ∷ Gave (Number (pos 7)) ∷ Gave (Number (pos 1)) ∷ []
unfolding computing promise n1 both shown_key
hint_string = refl

-- what built-ins take: no object
objects_refused_by_built_ins : thing_after (runs (key_expected (Object 18) shown_key) both) 21 ∷ thing_after (runs (number_expected (Object 18) (λ n. done)) both) 21 ∷ thing_after (runs (set_or_throw number_expected 13 (Named (codes "b")) (Object 18) done) both) 21 ∷ []
    ≡ Some (error_of 6 PrimitiveExpected) ∷ Some (error_of 6 PrimitiveExpected) ∷ None ∷ []
unfolding computing promise n1 done both shown_key error_of
objects_refused_by_built_ins = refl

-- the resolving functions themselves
resolving : Class → Thing
resolving c = AnObject (record { class = c; prototype = Some 1; extensible = true; indexed = []; named = (codes "length", record { content = Data (Number (pos 1)) false; enumerable = false; configurable = true }) ∷ (codes "name", record { content = Data (String []) false; enumerable = false; configurable = true }) ∷ [] })

resolving_functions : map (thing_after (runs (create_resolving_functions 13 (λ m f g. done)) both)) (21 ∷ 22 ∷ 23 ∷ []) ≡ Some (AMark false) ∷ Some (resolving (ResolveFunction 13 21)) ∷ Some (resolving (RejectFunction 13 21)) ∷ []
unfolding computing promise n1 done both resolving
resolving_functions = refl

derived_promise : thing_after (runs (promise_then 13 Null Null (λ d. done)) both) 21 ≡ Some (promise Pending [])
unfolding computing promise n1 done both
derived_promise = refl

-- an error's record
record_of_an_error : thing_after (runs (get_v Null a Give) []) 13 ≡ Some (AnObject (record { class = Error; prototype = Some 6; extensible = true; indexed = []; named = (codes "message", record { content = Data (String (codes "no properties of undefined or null")) true; enumerable = false; configurable = true }) ∷ [] }))
unfolding computing a
record_of_an_error = refl

-- a const cell that is initialised can't be initialised again
const_cell_initialised_once : came (runs (initialize_cell 14 Null done) cells) ≡ Threw (Object 16)
unfolding computing initialize_cell n1 done cells
const_cell_initialised_once = refl

constructor_of : Option ℕ → Value → ObjectRecord
constructor_of home p = record { class = ScriptFunction 0 1 home []; prototype = Some 1; extensible = true; indexed = []; named = (codes "prototype", record { content = Data p false; enumerable = false; configurable = false }) ∷ [] }

attaching : Bool → Act
attaching is_home = Do (Make (AnObject (constructor_of None Undefined))) (λ f. Do (Make blank) (λ p. Do (Attach f p is_home) (λ _. Give Null)))

-- a class's constructor has its prototype object as its home object, and a plain function has none
home_objects : thing_after (runs (attaching true) []) 13 ∷ thing_after (runs (attaching false) []) 13 ∷ [] ≡ Some (AnObject (constructor_of (Some 14) (Object 14))) ∷ Some (AnObject (constructor_of None (Object 14))) ∷ []
unfolding computing constructor_of attaching
home_objects = refl

-- a rejection is taken back before the job is queued, also where the job stops the run
late : Ran
late = run calls (promise_then 18 Null Null (λ d. done)) (state_in (record (world_with (record ample { slots = 5 }) promises []) { rejections = 13 ∷ 18 ∷ [] }))

late_job_stops : came late ≡ Stopped (OutOf Slots)
unfolding computing promise reaction n1 done promises late
late_job_stops = refl

late_job_takes_the_rejection_back : (world_after late).rejections ≡ 13 ∷ []
unfolding computing promise reaction n1 done promises late
late_job_takes_the_rejection_back = refl

-- the first of two jobs runs, and the other stays
two_jobs : Ran
two_jobs = run calls run_first_job (state_in (waiting (FulfilJob Undefined 13 n1 ∷ FulfilJob Undefined 14 Null ∷ [])))

first_job_leaves_the_queue : (world_after two_jobs).heap.jobs ≡ FulfilJob Undefined 14 Null ∷ []
unfolding computing promise n1 ps waiting two_jobs
first_job_leaves_the_queue = refl

first_job_runs : thing_after two_jobs 13 ≡ Some (promise (Fulfilled n1) [])
unfolding computing promise n1 ps waiting two_jobs
first_job_runs = refl
