-- What the keys of a table are, by computing.
use Rattle.std.proofs.Common.{◌≡◌, true, false, [], ◌∷◌, refl, codes}
use Rattle.js_value.specs.Case.{are_keys}
use Rattle.js_value.specs.Text.{sequence_length, units}

-- a front of a text comes before it, and capitals come before small letters
ascending : are_keys (codes "Do" ∷ codes "do" ∷ codes "double" ∷ codes "in" ∷ []) ≡ true
unfolding units sequence_length
ascending = refl

empty_text : are_keys ([] ∷ codes "a" ∷ []) ≡ true
unfolding units sequence_length
empty_text = refl

twice : are_keys (codes "do" ∷ codes "do" ∷ []) ≡ false
unfolding units sequence_length
twice = refl

front_last : are_keys (codes "double" ∷ codes "do" ∷ []) ≡ false
unfolding units sequence_length
front_last = refl

-- U+00E9 in UTF-8
not_ascii : are_keys (codes "e" ∷ (0xC3 ∷ 0xA9 ∷ []) ∷ []) ≡ true
unfolding units sequence_length
not_ascii = refl

-- By units U+10000, whose first unit is 0xD800, comes before U+FFFF; by bytes it comes after it.
by_units : are_keys ((0xF0 ∷ 0x90 ∷ 0x80 ∷ 0x80 ∷ []) ∷ (0xEF ∷ 0xBF ∷ 0xBF ∷ []) ∷ []) ≡ true
unfolding units sequence_length
by_units = refl
