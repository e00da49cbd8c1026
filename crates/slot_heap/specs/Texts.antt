-- Texts in one list of units that only grows, and names, which are some of them.
use Rattle.std.specs.Prelude.{◌≡◌, ◌≢◌, ℕ, ◌+◌, ◌≤◌, ◌<◌, ◌^◌, Bool, false, List, take, drop, length, get_or}
use Rattle.std.specs.List.{All}
use Rattle.slot_heap.specs.declared.slot.Value.{Value}
use Rattle.slot_heap.specs.declared.slot.Value.TheVariants.{Name, Text}

-- A name and a text are the place of their first unit and their length. The open text begins at `start`; the units up to
-- `end` stand or are promised to it.
pub record Words : Type 0 where
  pub units : List ℕ
  pub names : List (ℕ × ℕ)
  pub is_open : Bool
  pub start : ℕ
  pub end : ℕ
  pub reserved_units : ℕ
  pub reserved_names : ℕ

abbrev pub words : List ℕ → List (ℕ × ℕ) → Bool → ℕ → ℕ → ℕ → ℕ → Words
words units names is_open start end reserved_units reserved_names = record {
  units = units;
  names = names;
  is_open = is_open;
  start = start;
  end = end;
  reserved_units = reserved_units;
  reserved_names = reserved_names;
}

-- the units at a place, so many
unfoldable pub text_of : List ℕ → ℕ × ℕ → List ℕ
text_of units p = take p.1 (drop p.0 units)

abbrev pub Within : List ℕ → ℕ × ℕ → Type 0
Within units p = p.0 + p.1 ≤ length units

-- the text of a name
abbrev pub word_of : Words → ℕ → List ℕ
word_of w n = text_of w.units (get_or w.names n (0, 0))

-- a text that is no name's
abbrev pub NoName : Words → List ℕ → Type 0
NoName w text = (n : ℕ) → n < length w.names → word_of w n ≢ text

-- a value is a string that stands
abbrev pub IsText : Words → Value → Type 0
IsText w (Name n) = n < length w.names
IsText w (Text at count) = Within w.units (at, count)
IsText w _ = ⊥

-- where a string stands, and its units
abbrev pub span_of : Words → Value → ℕ × ℕ
span_of w (Name n) = get_or w.names n (0, 0)
span_of w (Text at count) = (at, count)
span_of w _ = (0, 0)

abbrev pub text_in : Words → Value → List ℕ
text_in w v = text_of w.units (span_of w v)

-- the units of the open text so far
abbrev pub opened : Words → List ℕ
opened w = drop w.start w.units

-- What the texts keep: names are texts that stand, no two the same, and units are promised to the open text alone.
pub record TextsKept (w : Words) (unit_capacity name_capacity : ℕ) : Type 0 where
  pub named : All (Within w.units) w.names
  pub apart : (n m : ℕ) → n < length w.names → m < length w.names → word_of w n ≡ word_of w m → n ≡ m
  pub begun : w.start ≤ length w.units
  pub promised : length w.units ≤ w.end
  pub closed : w.is_open ≡ false → length w.units ≡ w.end
  pub unit_room : (w.end ≤ w.reserved_units) × (w.reserved_units ≤ unit_capacity) × (w.reserved_units < 2 ^ 32)
  pub name_room : (length w.names ≤ w.reserved_names) × (w.reserved_names ≤ name_capacity) × (w.reserved_names < 2 ^ 32)
  pub few_names : length w.names < 2 ^ 16
