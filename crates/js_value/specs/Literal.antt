-- What the private steps of reading a number give.
use Rattle.std.specs.Prelude.{ℕ, Bool, true, false, ◌&&◌, ◌||◌, ◌==◌, if◌then◌else◌, nat_lt, nat_le, List, [], ◌∷◌, length, drop, ℤ, pos, neg_ℤ, Option, Some, None}
use Rattle.std.specs.List.{list_all}
use Rattle.std.specs.Char.{digit_value}
use Rattle.std.specs.Str.Parse.{digits_value}
use Rattle.js_value.specs.Number.{greatest}
use Rattle.js_value.specs.Numeral.{is_white_space}

-- the text without white space at its start
abbrev pub trim_start : List ℕ → List ℕ
trim_start [] = []
trim_start (unit ∷ text) = if is_white_space unit then trim_start text else unit ∷ text

abbrev pub is_empty : List ℕ → Bool
is_empty [] = true
is_empty (unit ∷ text) = false

-- the text without white space at its end
abbrev pub trim_end : List ℕ → List ℕ
trim_end [] = []
trim_end (unit ∷ text) = if is_white_space unit && is_empty (trim_end text) then [] else unit ∷ trim_end text

abbrev pub are_digits : ℕ → List ℕ → Bool
are_digits radix digits = list_all (λ unit. nat_lt (digit_value unit) radix) digits

-- the magnitude that one digit or more write, where it is in the range of Numbers
unfoldable pub digits_number : ℕ → List ℕ → Option ℕ
digits_number radix digits =
    if nat_lt 0 (length digits) && are_digits radix digits && nat_le (digits_value radix digits) greatest
    then Some (digits_value radix digits)
    else None

-- the radix of the letter after a zero, which is 10 without one
abbrev pub letter_radix : ℕ → ℕ
letter_radix letter =
    if letter == 0x78 || (letter == 0x58) then 16
    else if letter == 0x6F || (letter == 0x4F) then 8
    else if letter == 0x62 || (letter == 0x42) then 2
    else 10

abbrev pub radix_of : List ℕ → ℕ
radix_of [] = 10
radix_of (first ∷ []) = 10
radix_of (first ∷ letter ∷ digits) = if first == 0x30 then letter_radix letter else 10

abbrev pub positive : Option ℕ → Option ℤ
positive None = None
positive (Some magnitude) = Some (pos magnitude)

-- zero after a sign is negative zero
abbrev pub negative : Option ℕ → Option ℤ
negative None = None
negative (Some magnitude) = if magnitude == 0 then None else Some (neg_ℤ (pos magnitude))

abbrev pub unsigned_number : List ℕ → Option ℤ
unsigned_number text =
    positive (if radix_of text == 10 then digits_number 10 text else digits_number (radix_of text) (drop 2 text))

unfoldable pub literal_number : List ℕ → Option ℤ
literal_number [] = Some (pos 0)
literal_number (first ∷ digits) =
    if first == 0x2B then positive (digits_number 10 digits)
    else if first == 0x2D then negative (digits_number 10 digits)
    else unsigned_number (first ∷ digits)
