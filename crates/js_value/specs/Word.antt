-- Words of 32 bits, as the bitwise operators take them (ECMA-262, 7.1.6, 7.1.7 and 6.1.6.1.9 to 6.1.6.1.11).
use Rattle.std.specs.Prelude.{ℕ, ◌-◌, ◌*◌, ◌/◌, ◌%◌, ◌^◌, if◌then◌else◌, nat_lt, ℤ, pos, negsuc, ◌-ℤ◌, ◌*ℤ◌}
use Rattle.std.specs.Int.{leading_zeros, w32}

-- the residue of a whole number, from 0 to one less than the modulus
abbrev pub residue : ℤ → ℕ → ℕ
residue (pos n) modulus = n % modulus
residue (negsuc n) modulus = modulus - 1 - n % modulus

-- 7.1.7 ToUint32 of a whole number
abbrev pub to_uint32 : ℤ → ℕ
to_uint32 z = residue z (2 ^ 32)

-- the whole number that a word stands for, its highest bit being the sign
abbrev pub signed_word : ℕ → ℤ
signed_word word = if nat_lt word (2 ^ 31) then pos word else pos word -ℤ pos (2 ^ 32)

-- 7.1.6 ToInt32 of a whole number
abbrev pub to_int32 : ℤ → ℤ
to_int32 z = signed_word (to_uint32 z)

-- shift counts are taken modulo 32
abbrev pub shift_count : ℤ → ℕ
shift_count b = to_uint32 b % 32

-- 6.1.6.1.9 Number::leftShift
abbrev pub left_shift : ℤ → ℤ → ℤ
left_shift a b = to_int32 (to_int32 a *ℤ pos (2 ^ shift_count b))

-- a whole number divided by a magnitude, rounded down
abbrev pub floor_quotient : ℤ → ℕ → ℤ
floor_quotient (pos n) m = pos (n / m)
floor_quotient (negsuc n) m = negsuc (n / m)

-- 6.1.6.1.10 Number::signedRightShift
abbrev pub signed_right_shift : ℤ → ℤ → ℤ
signed_right_shift a b = floor_quotient (to_int32 a) (2 ^ shift_count b)

-- 6.1.6.1.11 Number::unsignedRightShift
abbrev pub unsigned_right_shift : ℤ → ℤ → ℤ
unsigned_right_shift a b = pos (to_uint32 a / 2 ^ shift_count b)

-- 21.3.2.19 Math.imul
abbrev pub word_product : ℤ → ℤ → ℤ
word_product a b = signed_word (to_uint32 a * to_uint32 b % 2 ^ 32)

-- 21.3.2.11 Math.clz32
abbrev pub leading_zero_bits : ℤ → ℤ
leading_zero_bits a = pos (leading_zeros w32 (to_uint32 a))
