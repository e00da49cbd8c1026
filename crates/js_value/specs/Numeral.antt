-- Numbers as texts (ECMA-262, 6.1.6.1.20) and texts as Numbers (7.1.4.1).
use Rattle.std.specs.Prelude.{◌≡◌, ℕ, suc, ◌≤◌, Bool, true, false, ◌&&◌, ◌==◌, if◌then◌else◌, nat_le, List, [], ◌∷◌, ◌++◌, map, All, ℤ, pos, negsuc, ◌⊎◌, Some}
use Rattle.std.specs.List.{list_any}
use Rattle.std.specs.Char.{digit_char}
use Rattle.std.specs.Int.Digits.{digits_of}
use Rattle.std.specs.Str.Parse.{IsNumeral, digits_value}
use Rattle.js_value.specs.Number.{Exact, fraction, whole, num}

-- the digits of a magnitude, the highest first, in lower case; zero has one
abbrev pub digit_text : ℕ → ℕ → List ℕ
digit_text radix n = if n == 0 then 0x30 ∷ [] else map digit_char (digits_of radix n)

-- 6.1.6.1.20 Number::toString
unfoldable pub number_text : ℕ → ℤ → List ℕ
number_text radix (pos n) = digit_text radix n
number_text radix (negsuc n) = 0x2D ∷ digit_text radix (suc n)

-- 12.2 White Space and 12.3 Line Terminators, by ranges
abbrev pub white_space : List (ℕ × ℕ)
white_space =
    (0x09, 0x0D) ∷ (0x20, 0x20) ∷ (0xA0, 0xA0) ∷ (0x1680, 0x1680) ∷ (0x2000, 0x200A) ∷
    (0x2028, 0x2029) ∷ (0x202F, 0x202F) ∷ (0x205F, 0x205F) ∷ (0x3000, 0x3000) ∷ (0xFEFF, 0xFEFF) ∷ []

unfoldable pub is_white_space : ℕ → Bool
is_white_space unit = list_any (λ range. nat_le range.0 unit && nat_le unit range.1) white_space

-- only white space
abbrev pub IsBlank : List ℕ → Type 0
IsBlank text = All (λ unit. is_white_space unit ≡ true) text

-- the letter of either case
abbrev pub IsLetter : ℕ → ℕ → ℕ → Type 0
IsLetter lower upper unit = (unit ≡ lower) ⊎ (unit ≡ upper)

-- 7.1.4.1 StrNumericLiteral with its value. Own: no fraction, no exponent and no Infinity.
-- Its forms: no text at all; decimal digits; these after `+` or `-`; digits after `0x`, `0o` or `0b`.
pub data Spells (text : List ℕ) (value : Exact) : Type 0 where
  empty : text ≡ [] → value ≡ whole (pos 0) → Spells text value
  decimal : IsNumeral 10 text → value ≡ fraction false (digits_value 10 text) 1 → Spells text value
  positive : (digits : List ℕ) → text ≡ 0x2B ∷ digits → IsNumeral 10 digits → value ≡ fraction false (digits_value 10 digits) 1 → Spells text value
  negative : (digits : List ℕ) → text ≡ 0x2D ∷ digits → IsNumeral 10 digits → value ≡ fraction true (digits_value 10 digits) 1 → Spells text value
  hexadecimal : (letter : ℕ) (digits : List ℕ) → IsLetter 0x78 0x58 letter → text ≡ 0x30 ∷ letter ∷ digits → IsNumeral 16 digits → value ≡ fraction false (digits_value 16 digits) 1 → Spells text value
  octal : (letter : ℕ) (digits : List ℕ) → IsLetter 0x6F 0x4F letter → text ≡ 0x30 ∷ letter ∷ digits → IsNumeral 8 digits → value ≡ fraction false (digits_value 8 digits) 1 → Spells text value
  binary : (letter : ℕ) (digits : List ℕ) → IsLetter 0x62 0x42 letter → text ≡ 0x30 ∷ letter ∷ digits → IsNumeral 2 digits → value ≡ fraction false (digits_value 2 digits) 1 → Spells text value

-- 7.1.4.1 StringNumericLiteral: a literal with white space round it, whose value is a Number
pub record IsNumberOf (text : List ℕ) (number : ℤ) : Type 0 where
  pub before : List ℕ
  pub literal : List ℕ
  pub after : List ℕ
  pub value : Exact
  pub parts : text ≡ before ++ literal ++ after
  pub blank_before : IsBlank before
  pub blank_after : IsBlank after
  pub spelled : Spells literal value
  pub is : num value ≡ Some number

-- a canonical numeric string of 0 to 4294967294 (6.1.7)
pub record IsIndexOf (text : List ℕ) (index : ℕ) : Type 0 where
  pub canonical : text ≡ number_text 10 (pos index)
  pub bound : index ≤ 4294967294
