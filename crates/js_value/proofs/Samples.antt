-- Worked rows: what the definitions of texts give, by computing.
use Rattle.std.proofs.Common.{◌≡◌, [], ◌∷◌, refl}
use Rattle.std.specs.Prelude.{Some, None, pos, negsuc}
use Rattle.js_value.specs.Number.{num, sum, quotient, remainder, product, negation, power}
use Rattle.js_value.specs.Word.{to_int32, to_uint32, left_shift, signed_right_shift, unsigned_right_shift, word_product}
use Rattle.js_value.specs.Numeral.{number_text}
use Rattle.js_value.specs.Text.{units, utf8, sequence_length, character_length, encoded}

-- é
e_acute : units (0xC3 ∷ 0xA9 ∷ []) ≡ 0xE9 ∷ []
unfolding units sequence_length
e_acute = refl

e_acute_back : utf8 (0xE9 ∷ []) ≡ 0xC3 ∷ 0xA9 ∷ []
unfolding utf8 character_length encoded
e_acute_back = refl

-- €
euro : units (0xE2 ∷ 0x82 ∷ 0xAC ∷ []) ≡ 0x20AC ∷ []
unfolding units sequence_length
euro = refl

euro_back : utf8 (0x20AC ∷ []) ≡ 0xE2 ∷ 0x82 ∷ 0xAC ∷ []
unfolding utf8 character_length encoded
euro_back = refl

-- U+10FFFF
last : units (0xF4 ∷ 0x8F ∷ 0xBF ∷ 0xBF ∷ []) ≡ 0xDBFF ∷ 0xDFFF ∷ []
unfolding units sequence_length
last = refl

last_back : utf8 (0xDBFF ∷ 0xDFFF ∷ []) ≡ 0xF4 ∷ 0x8F ∷ 0xBF ∷ 0xBF ∷ []
unfolding utf8 character_length encoded
last_back = refl

-- lone surrogates: a leading one before `a`, a trailing one before a leading one
lone : utf8 (0xD800 ∷ 0x61 ∷ 0xDC00 ∷ 0xD801 ∷ []) ≡ 0xEF ∷ 0xBF ∷ 0xBD ∷ 0x61 ∷ 0xEF ∷ 0xBF ∷ 0xBD ∷ 0xEF ∷ 0xBF ∷ 0xBD ∷ []
unfolding utf8 character_length encoded
lone = refl

-- overlong forms
overlong_two : units (0xC0 ∷ 0x80 ∷ []) ≡ 0xFFFD ∷ 0xFFFD ∷ []
unfolding units sequence_length
overlong_two = refl

overlong_three : units (0xE0 ∷ 0x9F ∷ 0xBF ∷ []) ≡ 0xFFFD ∷ 0xFFFD ∷ 0xFFFD ∷ []
unfolding units sequence_length
overlong_three = refl

overlong_four : units (0xF0 ∷ 0x8F ∷ 0xBF ∷ 0xBF ∷ []) ≡ 0xFFFD ∷ 0xFFFD ∷ 0xFFFD ∷ 0xFFFD ∷ []
unfolding units sequence_length
overlong_four = refl

-- a surrogate's form is not well formed
surrogate : units (0xED ∷ 0xA0 ∷ 0x80 ∷ []) ≡ 0xFFFD ∷ 0xFFFD ∷ 0xFFFD ∷ []
unfolding units sequence_length
surrogate = refl

-- past U+10FFFF
past : units (0xF4 ∷ 0x90 ∷ 0x80 ∷ 0x80 ∷ []) ≡ 0xFFFD ∷ 0xFFFD ∷ 0xFFFD ∷ 0xFFFD ∷ []
unfolding units sequence_length
past = refl

-- a sequence cut off: each of its bytes is one U+FFFD, and what comes after it is read
cut_off : units (0xE2 ∷ 0x82 ∷ 0x41 ∷ 0xF1 ∷ 0x80 ∷ 0x80 ∷ []) ≡ 0xFFFD ∷ 0xFFFD ∷ 0x41 ∷ 0xFFFD ∷ 0xFFFD ∷ 0xFFFD ∷ []
unfolding units sequence_length
cut_off = refl

-- Numbers

add_past : num (sum (pos 9007199254740991) (pos 1)) ≡ None
add_past = refl

half : num (quotient (pos 7) (pos 2)) ≡ None
half = refl

by_zero : num (quotient (pos 1) (pos 0)) ≡ None
by_zero = refl

negative_remainder : num (remainder (negsuc 3) (pos 2)) ≡ None
negative_remainder = refl

remainder_sign : num (remainder (negsuc 6) (pos 4)) ≡ Some (negsuc 2)
remainder_sign = refl

negative_zero_product : num (product (pos 0) (negsuc 0)) ≡ None
negative_zero_product = refl

negative_zero : num (negation (pos 0)) ≡ None
negative_zero = refl

power_past : num (power (pos 2) (pos 60)) ≡ None
power_past = refl

power_largest : num (power (negsuc 1) (pos 52)) ≡ Some (pos 4503599627370496)
power_largest = refl

inverse_half : num (power (pos 2) (negsuc 0)) ≡ None
inverse_half = refl

inverse_one : num (power (pos 1) (negsuc 0)) ≡ Some (pos 1)
inverse_one = refl

inverse_minus_one : num (power (negsuc 0) (negsuc 2)) ≡ Some (negsuc 0)
inverse_minus_one = refl

zero_power : num (power (pos 0) (pos 0)) ≡ Some (pos 1)
zero_power = refl

inverse_zero : num (power (pos 0) (negsuc 0)) ≡ None
inverse_zero = refl

-- words

highest_word : to_int32 (pos 2147483648) ≡ negsuc 2147483647
highest_word = refl

lowest_word : to_uint32 (negsuc 0) ≡ 4294967295
lowest_word = refl

shifted_out : left_shift (pos 1) (pos 31) ≡ negsuc 2147483647
shifted_out = refl

whole_turn : left_shift (pos 1) (pos 32) ≡ pos 1
whole_turn = refl

sign_copied : signed_right_shift (negsuc 4) (pos 1) ≡ negsuc 2
sign_copied = refl

sign_not_copied : unsigned_right_shift (negsuc 0) (pos 28) ≡ pos 15
sign_not_copied = refl

word_square : word_product (pos 4294967295) (pos 5) ≡ negsuc 4
word_square = refl

-- texts of numbers

minus_ten : number_text 10 (negsuc 9) ≡ 0x2D ∷ 0x31 ∷ 0x30 ∷ []
unfolding number_text
minus_ten = refl

hexadecimal_text : number_text 16 (pos 255) ≡ 0x66 ∷ 0x66 ∷ []
unfolding number_text
hexadecimal_text = refl

zero_text : number_text 2 (pos 0) ≡ 0x30 ∷ []
unfolding number_text
zero_text = refl
