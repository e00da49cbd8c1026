-- Slots and what stands in them (own rule).
use Rattle.std.specs.Prelude.{ℕ, ◌+◌, ◌*◌, ◌/◌, ◌%◌, ◌==◌, ◌&&◌, Bool, true, false, cond, nat_le}
use Rattle.std.specs.Int.{w64, cast_signed, cast_unsigned}
use Rattle.slot_heap.specs.declared.slot.Slot.{Slot}
use Rattle.slot_heap.specs.declared.slot.Kind.{Kind}
use Rattle.slot_heap.specs.declared.slot.Kind.TheVariants.{Object, Array, Script, Builtin, Error, Promise, Cell, Mark}
use Rattle.slot_heap.specs.declared.slot.Value.{Value}
use Rattle.slot_heap.specs.declared.slot.Value.TheVariants.{Undefined, Null, Bool as OfBool, Number, Name, Text, Thing}

-- a slot with nothing in it
abbrev pub blank : Slot
blank = record { next = 0; key = 0; kind = 0; flags = 0; value = 0; last = 0 }

-- ---- kinds

abbrev pub byte_of : Kind → ℕ
byte_of Object = 1
byte_of Array = 2
byte_of Script = 3
byte_of Builtin = 4
byte_of Error = 5
byte_of Promise = 6
byte_of Cell = 7
byte_of Mark = 8

-- the kinds of an object's head
abbrev pub is_object_kind : ℕ → Bool
is_object_kind k = nat_le 1 k && nat_le k 6

-- ---- values

abbrev pub two_bytes : ℕ
two_bytes = 65536

abbrev pub four_bytes : ℕ
four_bytes = 4294967296

abbrev pub tag_of : Slot → ℕ
tag_of c = c.flags / 8

abbrev pub value_by : (tag word : ℕ) → Value
value_by tag word =
    cond (tag == 0) Undefined (cond (tag == 1) Null (cond (tag == 2) (OfBool false) (cond (tag == 3) (OfBool true) (cond (tag == 4) (Number (cast_signed w64 word)) (cond (tag == 5) (Name (word % two_bytes)) (cond (tag == 6) (Text (word / four_bytes) (word % four_bytes)) (Thing (record { 0 = word % four_bytes }))))))))

-- the value that a slot holds
unfoldable pub value_in : Slot → Value
value_in c = value_by (tag_of c) c.value

abbrev pub tag_of_value : Value → ℕ
tag_of_value Undefined = 0
tag_of_value Null = 1
tag_of_value (OfBool false) = 2
tag_of_value (OfBool true) = 3
tag_of_value (Number n) = 4
tag_of_value (Name n) = 5
tag_of_value (Text at count) = 6
tag_of_value (Thing r) = 7

abbrev pub word_of_value : Value → ℕ
word_of_value (Number n) = cast_unsigned w64 n
word_of_value (Name n) = n
word_of_value (Text at count) = at * four_bytes + count
word_of_value (Thing r) = r.0
word_of_value _ = 0

-- the slot with another value and its tag
abbrev pub with_value : Slot → Value → Slot
with_value c v = record c { flags = 8 * tag_of_value v + c.flags % 8; value = word_of_value v }

-- ---- heads

-- the head of a thing that is made
abbrev pub head_slot : Kind → ℕ → Slot
head_slot kind prototype = record {
  next = 0;
  key = 0;
  kind = byte_of kind;
  flags = cond (is_object_kind (byte_of kind)) 1 0;
  value = prototype * four_bytes;
  last = 0;
}

-- What stands where a slot is put in the place of an old one, which may be a thing's head. Of a head the alias number stays,
-- and of an object's head the size.
abbrev pub stored : (is_head : Bool) → (old c : Slot) → Slot
stored is_head old c = record c {
  value = cond (is_head && is_object_kind old.kind) (c.value / four_bytes * four_bytes + old.value % four_bytes) c.value;
  last = cond is_head old.last c.last;
}
