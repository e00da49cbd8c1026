-- The order of own keys, and the store's other invariants.
use Rattle.std.specs.Prelude.{◌≡◌, ℕ, ◌<◌, ◌≤◌, List, [], ◌∷◌, length, None}
use Rattle.js_value.specs.Number.{greatest}
use Rattle.js_value.specs.NumberText.{text_of_number, index_of_text}
use Rattle.js_value.specs.Value.{Text, same_text, Key, Index, Named, Numeral}
use Rattle.js_value.specs.Store.{Class, Array, ObjectRecord, found, length_name}

-- ---- Strings (ECMA-262 6.1.4): at most 2 ^ 53 - 1 units of 16 bits

abbrev pub AreUnits : Text → Type 0
AreUnits [] = Unit {0}
AreUnits (u ∷ us) = (u < 65536) × AreUnits us

pub record IsString (t : Text) : Type 0 where
  pub units : AreUnits t
  pub bound : length t ≤ greatest

-- ---- keys

-- a String that is no array index
pub record IsName (t : Text) : Type 0 where
  pub text : IsString t
  pub no_index : index_of_text t ≡ None

-- array indices end below 2 ^ 32 - 1, and no other key is an index's text
abbrev pub IsKey : Key → Type 0
IsKey (Index i) = i < 4294967295
IsKey (Named t) = IsName t
IsKey (Numeral n) = IsName (text_of_number n)

-- ---- entries by index

abbrev pub AllAbove : {X : Type 0} → ℕ → List (ℕ × X) → Type 0
AllAbove i [] = Unit {0}
AllAbove i (e ∷ es) = (i < e.0) × AllAbove i es

abbrev pub AllBelow : {X : Type 0} → ℕ → List (ℕ × X) → Type 0
AllBelow n [] = Unit {0}
AllBelow n (e ∷ es) = (e.0 < n) × AllBelow n es

abbrev pub Ascending : {X : Type 0} → List (ℕ × X) → Type 0
Ascending [] = Unit {0}
Ascending (e ∷ es) = AllAbove e.0 es × Ascending es

-- ---- entries by name

abbrev pub Distinct : {X : Type 0} → List (Text × X) → Type 0
Distinct [] = Unit {0}
Distinct (e ∷ es) = (found (same_text e.0) es ≡ None) × Distinct es

abbrev pub AreNames : {X : Type 0} → List (Text × X) → Type 0
AreNames [] = Unit {0}
AreNames (e ∷ es) = IsName e.0 × AreNames es

-- ---- objects

-- an array's indices are below its length, which has 32 bits, and `length` isn't among its names
abbrev pub FitsLength : {X : Type 0} → Class → List (ℕ × X) → Type 0
FitsLength (Array n writable) es = (n < 4294967296) × AllBelow n es
FitsLength _ es = Unit {0}

abbrev pub NoLength : {X : Type 0} → Class → List (Text × X) → Type 0
NoLength (Array n writable) es = found (same_text length_name) es ≡ None
NoLength _ es = Unit {0}

-- own keys are distinct and in order
pub record IsOrderly (o : ObjectRecord) : Type 0 where
  pub indices : Ascending o.indexed
  pub range : AllBelow 4294967295 o.indexed
  pub length : FitsLength o.class o.indexed
  pub names : AreNames o.named
  pub distinct : Distinct o.named
  pub no_length : NoLength o.class o.named
