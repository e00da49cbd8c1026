-- Another numbering of names.
use Rattle.std.specs.Prelude.{◌≤◌, ℕ, ◌-◌, List, length, slice_index}
use Rattle.byte_code.specs.declared.instruction.Op.{Op}
use Rattle.byte_code.specs.declared.instruction.Op.TheVariants.{Text, Get, Set, Delete, SuperGet, SuperSet}
use Rattle.byte_code.specs.ValidCode.{Bounds, IsValid}

-- the new number of the name n, names being numbered from 1
abbrev pub new_name : List ℕ → ℕ → ℕ
new_name map n = slice_index map (n - 1)

-- the instruction with its name's new number
abbrev pub renamed : List ℕ → Op → Op
renamed map (Text n) = Text (new_name map n)
renamed map (Get n) = Get (new_name map n)
renamed map (Set n) = Set (new_name map n)
renamed map (Delete n) = Delete (new_name map n)
renamed map (SuperGet n) = SuperGet (new_name map n)
renamed map (SuperSet n) = SuperSet (new_name map n)
renamed map op = op

-- the code is valid in some frame, whose names the map covers
pub record IsCovered (code map : List ℕ) : Type 0 where
  pub bounds : Bounds
  pub valid : IsValid code bounds
  pub names : bounds.names ≤ length map

-- the map takes the first n names to numbers from 1 to m
abbrev pub MapsInto : List ℕ → ℕ → ℕ → Type 0
MapsInto map n m = (i : ℕ) → 1 ≤ i → i ≤ n → (1 ≤ new_name map i) × (new_name map i ≤ m)

abbrev pub with_names : Bounds → ℕ → Bounds
with_names b n = record b { names = n }
