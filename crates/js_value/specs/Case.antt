-- Tables of texts that are searched by halves (own rule).
use Rattle.std.specs.Prelude.{◌≡◌, ℕ, Bool, true, ◌&&◌, List, [], ◌∷◌, ◌++◌, map}
use Rattle.std.specs.Ordering.{nat_cmp, is_lt}
use Rattle.std.specs.declared.cmp.Ordering.{Ordering}
use Rattle.std.specs.Cmp.Lexicographic.{slice_cmp}
use Rattle.js_value.specs.Text.{units}

-- One text comes before another by the first unit in which they differ. A front of a text comes before it.
abbrev pub comes_before : List ℕ → List ℕ → Bool
comes_before a b = is_lt (slice_cmp nat_cmp a b)

-- each text that begins with `front` stands to `text` in this order
abbrev pub IsDecided : List ℕ → List ℕ → Ordering → Type 0
IsDecided front text order = (rest : List ℕ) → slice_cmp nat_cmp (front ++ rest) text ≡ order

-- each text comes before the next one
abbrev pub are_ascending : List (List ℕ) → Bool
are_ascending [] = true
are_ascending (a ∷ []) = true
are_ascending (a ∷ b ∷ rest) = comes_before a b && are_ascending (b ∷ rest)

-- the texts of keys, each in UTF-8
abbrev pub texts : List (List ℕ) → List (List ℕ)
texts keys = map units keys

-- what the keys of a table are
abbrev pub are_keys : List (List ℕ) → Bool
are_keys keys = are_ascending (texts keys)
