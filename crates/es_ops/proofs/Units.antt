-- What is read from UTF-8 is a list of units of 16 bits.
use Rattle.std.proofs.Common.{◌≡◌, ℕ, ◌+◌, ◌-◌, ◌/◌, ◌%◌, ◌<◌, Bool, true, false, List, [], ◌∷◌, nat_lt, refl, arith, if◌then◌else◌}
use Rattle.std.specs.List.{flat_map}
use Rattle.std.proofs.lemmas.Bool.Decides.{nat_tests}
use Rattle.js_value.specs.Text.{scalar_value, utf16, units, parts, sequence_length}
use Rattle.js_value.specs.Order.{AreUnits}
use Rattle.es_ops.proofs.ReadsRelated.{units_joined}

code_units : (code : ℕ) → code < 2097152 → AreUnits (utf16 code)
code_units code h = by_test (nat_lt code 65536) refl
  where
    by_test : (b : Bool) → nat_lt code 65536 ≡ b → AreUnits (if b then code ∷ [] else (0xD800 + (code - 0x10000) / 0x400) ∷ (0xDC00 + (code - 0x10000) % 0x400) ∷ [])
    by_test true e = (grind (arith, nat_tests), tt)
    by_test false e = (omega (arith, h), (omega (arith, h), tt))

scalar_bound : (bytes : List ℕ) → scalar_value bytes < 2097152
scalar_bound [] = omega arith
scalar_bound (a ∷ []) = by_test (nat_lt a 128) refl
  where
    by_test : (b : Bool) → nat_lt a 128 ≡ b → (if b then a else 65533) < 2097152
    by_test true e = grind (arith, nat_tests)
    by_test false e = omega arith
scalar_bound (a ∷ b ∷ []) = omega arith
scalar_bound (a ∷ b ∷ c ∷ []) = omega arith
scalar_bound (a ∷ b ∷ c ∷ d ∷ []) = omega arith
scalar_bound (a ∷ b ∷ c ∷ d ∷ e ∷ more) = omega arith

sequences_are : (ps : List (List ℕ)) → AreUnits (flat_map (λ sequence. utf16 (scalar_value sequence)) ps)
sequences_are [] = tt
sequences_are (p ∷ ps) = units_joined (utf16 (scalar_value p)) (flat_map (λ sequence. utf16 (scalar_value sequence)) ps) (code_units (scalar_value p) (scalar_bound p)) (sequences_are ps)

pub units_are : (bytes : List ℕ) → AreUnits (units bytes)
unfolding units
units_are bytes = sequences_are (parts sequence_length bytes)
