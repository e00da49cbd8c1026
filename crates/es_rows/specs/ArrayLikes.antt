-- What the rows of Array share: receivers, lengths, indices and index loops (ECMA-262 7.3, 23.1.3), each with what comes after it.
use Rattle.std.specs.Prelude.{ℕ, zero, suc, ◌+◌, Bool, true, false, cond, List, [], ◌∷◌, pos, nat_le, nat_lt, Some}
use Rattle.js_value.specs.Number.{greatest}
use Rattle.js_value.specs.Value.{Value, Number, Object, Key, Named, key_of_number}
use Rattle.js_value.specs.Store.{Array, is_array, ObjectRecord, AnObject, length_name}
use Rattle.es_ops.specs.Intrinsics.{ArrayPrototype}
use Rattle.es_ops.specs.Messages.{Message, NumberOutOfRange, InvalidArrayLength, NotWritable, NotDefinable, NotDeletable}
use Rattle.es_ops.specs.InternalMethods.{Delete}
use Rattle.es_ops.specs.Events.{TheClass, TheIntrinsic, Make, Apply}
use Rattle.es_ops.specs.Act.{Act, Turn, Ask, Do}
use Rattle.es_ops.specs.Errors.{raise}
use Rattle.es_ops.specs.PropertyReads.{get, has_property}
use Rattle.es_ops.specs.PropertyWrites.{create_data_property, ordinary_set}
use Rattle.es_ops.specs.Conversions.{number_expected}
use Rattle.es_ops.specs.Calling.{ordinary_object}
use Rattle.es_rows.specs.Arguments.{object_expected}
use Rattle.es_rows.specs.Positions.{at_least_zero}

-- what comes after a step that gives nothing
abbrev pub Next : Type 0
Next = Unit {0} → Act

-- ---- receivers and lengths

-- LengthOfArrayLike (7.3.18); own: an object is no length, and undefined is none either
unfoldable pub length_of_array_like : ℕ → (ℕ → Act) → Act
length_of_array_like o k = get o (Named length_name) (λ v. number_expected v (λ n. k (at_least_zero n)))

-- the receiver and its length, with which the methods of Array.prototype begin
abbrev pub array_like : Value → ((object size : ℕ) → Act) → Act
array_like this k = object_expected this (λ o. length_of_array_like o (k o))

-- own, where a length would be past 2 ^ 53 - 1
unfoldable pub length_in_range : (size : ℕ) → Next → Act
length_in_range size next = cond (nat_le size greatest) (next tt) (raise NumberOutOfRange)

-- ---- indices

-- what is refused throws
abbrev pub accepted_or_raise : Message → Next → Bool → Act
accepted_or_raise refusal next true = next tt
accepted_or_raise refusal next false = raise refusal

abbrev pub index : ℕ → Key
index n = key_of_number (pos n)

-- Get (7.3.2) of an index; an absent one reads as undefined
abbrev pub get_index : (object at : ℕ) → (Value → Act) → Act
get_index o at k = get o (index at) k

-- HasProperty (7.3.11), and Get where the index is there
abbrev pub if_present : (object at : ℕ) → (present : Value → Act) → (absent : Next) → Act
if_present o at present absent = has_property o (index at) (λ has. cond has (get_index o at present) (absent tt))

-- Set (7.3.4) with Throw; a built-in takes no object for an array's length (own)
abbrev pub set_index : (object at : ℕ) → Value → Next → Act
set_index o at v next = ordinary_set number_expected o (index at) v (Object o) (accepted_or_raise NotWritable next)

abbrev pub set_length : (object size : ℕ) → Next → Act
set_length o size next = ordinary_set number_expected o (Named length_name) (Number (pos size)) (Object o) (accepted_or_raise NotWritable next)

-- DeletePropertyOrThrow (7.3.9)
abbrev pub delete_index : (object at : ℕ) → Next → Act
delete_index o at next = Do (Apply o (Delete (index at))) (accepted_or_raise NotDeletable next)

-- CreateDataPropertyOrThrow (7.3.6)
abbrev pub create_index : (array at : ℕ) → Value → Next → Act
create_index a at v next = create_data_property a (index at) v (accepted_or_raise NotDefinable next)

-- the value of one index is set at another, which is deleted where the first one is absent
abbrev pub move_index : (object from to : ℕ) → Next → Act
move_index o from to next = if_present o from (λ v. set_index o to v next) (λ _. delete_index o to next)

-- ---- index loops

-- a turn for each of `count` indices from `at` on
abbrev pub each : (body : ℕ → Next → Act) → (end : Next) → (count at : ℕ) → Unit {0} → Act
each body end zero at _ = end tt
each body end (suc count) at _ = Turn (body at (each body end count (suc at)))

-- the same with a state, which each turn gives to the next one
abbrev pub each_with : {S : Type 0} → (body : ℕ → S → (S → Act) → Act) → (end : S → Act) → (count at : ℕ) → S → Act
each_with body end zero at x = end x
each_with body end (suc count) at x = Turn (body at x (each_with body end count (suc at)))

-- a turn for each index; one that is absent is skipped
abbrev pub each_present : (object : ℕ) → (body : ℕ → Value → Next → Act) → (end : Next) → (count at : ℕ) → Unit {0} → Act
each_present o body end count at _ = each (λ i next. if_present o i (λ v. body i v next) next) end count at tt

abbrev pub each_present_with : {S : Type 0} → (object : ℕ) → (body : ℕ → Value → S → (S → Act) → Act) → (end : S → Act) → (count at : ℕ) → S → Act
each_present_with o body end count at x = each_with (λ i y next. if_present o i (λ v. body i v y next) (λ _. next y)) end count at x

-- a turn for each of `count` indices downwards, the last one being `at`
abbrev pub each_down : (body : ℕ → Next → Act) → (end : Next) → (count at : ℕ) → Unit {0} → Act
each_down body end zero at _ = end tt
each_down body end (suc count) at _ = Turn (body (at + count) (each_down body end count at))

-- a turn for each item, which is set at the next index
abbrev pub set_items : (object at : ℕ) → List Value → Next → Unit {0} → Act
set_items o at [] next _ = next tt
set_items o at (v ∷ vs) next _ = Turn (set_index o at v (set_items o (suc at) vs next))

-- ---- arrays

-- ArrayCreate (10.4.2.2)
abbrev pub array_record : (size prototype : ℕ) → ObjectRecord
array_record size prototype = record (ordinary_object (Some prototype)) { class = Array size true }

unfoldable pub array_create : (size prototype : ℕ) → (ℕ → Act) → Act
array_create size prototype k = cond (nat_lt size 4294967296) (Do (Make (AnObject (array_record size prototype))) k) (raise InvalidArrayLength)

-- ArraySpeciesCreate (10.4.2.3); own: a plain array, whatever the receiver is
abbrev pub result_array : (size : ℕ) → (ℕ → Act) → Act
result_array size k = Ask (TheIntrinsic ArrayPrototype) (λ prototype. array_create size prototype k)

-- IsArray (7.2.2)
unfoldable pub is_array_value : Value → (Bool → Act) → Act
is_array_value (Object n) k = Ask (TheClass n) (λ class. k (is_array class))
is_array_value v k = k false
