-- Values that no well-formed store of thirteen things holds, and the last ones that it may hold.
use Rattle.std.proofs.Common.{[], ◌∷◌, pos, negsuc, arith, lit≤, codes}
use Rattle.js_value.specs.Literal.{digits_number}
use Rattle.js_value.specs.Value.{Number, String, Object, Named, Index}
use Rattle.js_value.specs.Order.{IsKey}
use Rattle.js_value.specs.WellFormed.{IsValueBelow}

-- ---- Numbers

greatest_number : IsValueBelow 13 (Number (pos 9007199254740991))
greatest_number = record { bound = lit≤ tt }

too_large : IsValueBelow 13 (Number (pos 9007199254740992)) → ⊥
too_large h = let b = h.bound in omega arith

too_small : IsValueBelow 13 (Number (negsuc 9007199254740991)) → ⊥
too_small h = let b = h.bound in omega arith

-- ---- Strings

last_unit : IsValueBelow 13 (String (65535 ∷ []))
last_unit = record { units = (lit≤ tt, tt); bound = lit≤ tt }

no_unit : IsValueBelow 13 (String (65536 ∷ [])) → ⊥
no_unit h = let b = h.units.0 in omega arith

-- ---- things

last_thing : IsValueBelow 13 (Object 12)
last_thing = lit≤ tt

not_there : IsValueBelow 13 (Object 13) → ⊥
not_there h = omega arith

-- ---- keys

no_index : IsKey (Index 4294967295) → ⊥
no_index h = omega arith

index_as_name : IsKey (Named (codes "7")) → ⊥
unfolding digits_number
index_as_name h = let e = h.no_index in absurd (cc)
