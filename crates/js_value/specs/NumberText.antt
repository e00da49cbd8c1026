-- Numbers as texts, and texts as numbers, as functions: the relations of Numeral are what they compute.
use Rattle.std.specs.Prelude.{ℕ, suc, false, cond, ◌&&◌, List, [], ◌∷◌, ℤ, pos, negsuc, nat_lt, Option, Some, None, bytes_eq}
use Rattle.std.specs.Fmt.{digits_onto}
use Rattle.js_value.specs.Literal.{trim_start, trim_end, literal_number, digits_number}

-- Number::toString with radix 10 (ECMA-262 6.1.6.1.20), by at most 64 digits
abbrev pub text_of_number : ℤ → List ℕ
text_of_number (pos n) = digits_onto 64 10 false n []
text_of_number (negsuc n) = 0x2D ∷ digits_onto 64 10 false (suc n) []

-- StringToNumber (7.1.4.1.1), none where the value is outside the profile
abbrev pub number_of_text : List ℕ → Option ℤ
number_of_text us = literal_number (trim_end (trim_start us))

-- the array index that a text is: a canonical numeric string of a number from 0 to 2 ^ 32 - 2 (6.1.7)
abbrev pub index_in_range : List ℕ → Option ℕ → Option ℕ
index_in_range us None = None
index_in_range us (Some n) = cond (nat_lt n 4294967295 && bytes_eq (text_of_number (pos n)) us) (Some n) None

abbrev pub index_of_text : List ℕ → Option ℕ
index_of_text us = index_in_range us (digits_number 10 us)
