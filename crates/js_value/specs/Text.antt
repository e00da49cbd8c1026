-- Texts are lists of 16-bit units (ECMA-262, 6.1.4). This page reads them from UTF-8 and writes them as UTF-8.
use Rattle.std.specs.Prelude.{◌≡◌, All, ℕ, suc, zero, ◌+◌, ◌-◌, ◌*◌, ◌/◌, ◌%◌, Bool, true, false, ◌&&◌, ◌||◌, if◌then◌else◌, nat_lt, nat_le, List, [], ◌∷◌, ◌++◌, length, take, Option, Some, None}
use Rattle.std.specs.List.{flat_map}
use Rattle.js_value.specs.declared.text.utf8.ByteRange.{ByteRange}

-- A list is cut into parts: the next part has `size rest` elements, where `rest` is what is not yet cut.
-- These are the parts after the first `passed` elements.
abbrev pub parts_after : (List ℕ → ℕ) → ℕ → List ℕ → List (List ℕ)
parts_after size passed [] = []
parts_after size (suc passed) (first ∷ rest) = parts_after size passed rest
parts_after size zero (first ∷ rest) =
    take (size (first ∷ rest)) (first ∷ rest) ∷ parts_after size (size (first ∷ rest) - 1) rest

abbrev pub parts : (List ℕ → ℕ) → List ℕ → List (List ℕ)
parts size list = parts_after size 0 list

-- From UTF-8.

abbrev pub from_to : ℕ → ℕ → ByteRange
from_to low high = record { low = low; high = high }

abbrev pub tail : ByteRange
tail = from_to 0x80 0xBF

-- Unicode 15, table 3-7, the well-formed UTF-8 byte sequences: the range of the first byte, with the ranges
-- of the bytes after it.
abbrev pub sequences : List (ByteRange × List ByteRange)
sequences =
    (from_to 0x00 0x7F, []) ∷
    (from_to 0xC2 0xDF, tail ∷ []) ∷
    (from_to 0xE0 0xE0, from_to 0xA0 0xBF ∷ tail ∷ []) ∷
    (from_to 0xE1 0xEC, tail ∷ tail ∷ []) ∷
    (from_to 0xED 0xED, from_to 0x80 0x9F ∷ tail ∷ []) ∷
    (from_to 0xEE 0xEF, tail ∷ tail ∷ []) ∷
    (from_to 0xF0 0xF0, from_to 0x90 0xBF ∷ tail ∷ tail ∷ []) ∷
    (from_to 0xF1 0xF3, tail ∷ tail ∷ tail ∷ []) ∷
    (from_to 0xF4 0xF4, from_to 0x80 0x8F ∷ tail ∷ tail ∷ []) ∷
    []

abbrev pub contains_byte : ByteRange → ℕ → Bool
contains_byte range byte = nat_le range.low byte && nat_le byte range.high

-- the ranges of the bytes after a first byte, where the table has it
abbrev pub following_in : List (ByteRange × List ByteRange) → ℕ → Option (List ByteRange)
following_in [] first = None
following_in (row ∷ rows) first = if contains_byte row.0 first then Some row.1 else following_in rows first

-- a list begins with a byte of each range
abbrev pub begins_with : List ByteRange → List ℕ → Bool
begins_with [] bytes = true
begins_with (range ∷ ranges) [] = false
begins_with (range ∷ ranges) (byte ∷ bytes) = contains_byte range byte && begins_with ranges bytes

abbrev pub length_with : Option (List ByteRange) → List ℕ → ℕ
length_with None rest = 1
length_with (Some ranges) rest = if begins_with ranges rest then suc (length ranges) else 1

-- how many bytes are read together: those of the well-formed sequence that begins here, else one
unfoldable pub sequence_length : List ℕ → ℕ
sequence_length [] = 1
sequence_length (first ∷ rest) = length_with (following_in sequences first) rest

-- the scalar value of a well-formed sequence: the low bits of the first byte, then 6 bits of each byte after it.
-- A single byte from 0x80 on is no sequence, and reads as U+FFFD.
abbrev pub scalar_value : List ℕ → ℕ
scalar_value (a ∷ []) = if nat_lt a 0x80 then a else 0xFFFD
scalar_value (a ∷ b ∷ []) = a % 32 * 64 + b % 64
scalar_value (a ∷ b ∷ c ∷ []) = (a % 16 * 64 + b % 64) * 64 + c % 64
scalar_value (a ∷ b ∷ c ∷ d ∷ []) = ((a % 8 * 64 + b % 64) * 64 + c % 64) * 64 + d % 64
scalar_value _ = 0xFFFD

-- ECMA-262, 11.1.1 UTF16EncodeCodePoint
abbrev pub utf16 : ℕ → List ℕ
utf16 code =
    if nat_lt code 0x10000
    then code ∷ []
    else (0xD800 + (code - 0x10000) / 0x400) ∷ (0xDC00 + (code - 0x10000) % 0x400) ∷ []

-- the units of what is read from UTF-8
unfoldable pub units : List ℕ → List ℕ
units bytes = flat_map (λ sequence. utf16 (scalar_value sequence)) (parts sequence_length bytes)

-- To UTF-8.

abbrev pub is_leading_surrogate : ℕ → Bool
is_leading_surrogate unit = nat_le 0xD800 unit && nat_le unit 0xDBFF

abbrev pub is_trailing_surrogate : ℕ → Bool
is_trailing_surrogate unit = nat_le 0xDC00 unit && nat_le unit 0xDFFF

-- the character at the front of a text: a surrogate pair or a single unit
unfoldable pub character_length : List ℕ → ℕ
character_length [] = 1
character_length (a ∷ []) = 1
character_length (a ∷ b ∷ rest) = if is_leading_surrogate a && is_trailing_surrogate b then 2 else 1

-- a text as its characters, each a list of units
abbrev pub characters : List ℕ → List (List ℕ)
characters text = parts character_length text

-- ECMA-262, 11.1.3 UTF16SurrogatePairToCodePoint. A lone surrogate, and what is no character, counts as U+FFFD.
abbrev pub code_point : List ℕ → ℕ
code_point (a ∷ []) = if is_leading_surrogate a || is_trailing_surrogate a then 0xFFFD else a
code_point (a ∷ b ∷ []) =
    if is_leading_surrogate a && is_trailing_surrogate b
    then (a - 0xD800) * 0x400 + (b - 0xDC00) + 0x10000
    else 0xFFFD
code_point _ = 0xFFFD

abbrev pub is_lone_surrogate : List ℕ → Bool
is_lone_surrogate (a ∷ []) = is_leading_surrogate a || is_trailing_surrogate a
is_lone_surrogate _ = false

-- ECMA-262, 7.2.9 IsStringWellFormedUnicode: a text has no lone surrogate
abbrev pub IsWellFormed : List ℕ → Type 0
IsWellFormed text = All (λ character. is_lone_surrogate character ≡ false) (characters text)

-- a scalar value in UTF-8: its parts of 6 bits, lowest last, under the marks of table 3-6 of Unicode 15
unfoldable pub encoded : ℕ → List ℕ
encoded code =
    if nat_lt code 0x80 then code ∷ []
    else if nat_lt code 0x800 then (0xC0 + code / 64) ∷ (0x80 + code % 64) ∷ []
    else if nat_lt code 0x10000
    then (0xE0 + code / 4096) ∷ (0x80 + code / 64 % 64) ∷ (0x80 + code % 64) ∷ []
    else
    (0xF0 + code / 262144) ∷ (0x80 + code / 4096 % 64) ∷ (0x80 + code / 64 % 64) ∷ (0x80 + code % 64) ∷ []

abbrev pub character_utf8 : List ℕ → List ℕ
character_utf8 character = encoded (code_point character)

-- a text in UTF-8, a lone surrogate as U+FFFD
unfoldable pub utf8 : List ℕ → List ℕ
utf8 text = flat_map character_utf8 (characters text)

-- the longest front of a list of characters that has at most `room` bytes in UTF-8, as units
abbrev pub front : ℕ → List (List ℕ) → List ℕ
front room [] = []
front room (character ∷ rest) =
    if nat_le (length (character_utf8 character)) room
    then character ++ front (room - length (character_utf8 character)) rest
    else []

-- the longest front of whole characters of a text that has at most 64 bytes in UTF-8
unfoldable pub piece : List ℕ → List ℕ
piece text = front 64 (characters text)
