-- What stands after an instruction's number. Numbers of several bytes have the highest byte first.
use Rattle.std.specs.Prelude.{◌≡◌, ◌<◌, ℕ, ◌^◌, FitsSigned, List, [], ◌∷◌, slice_index}
use Rattle.std.specs.Int.{w8, w32, w64, cast_unsigned, cast_signed}
use Rattle.byteorder.specs.Endian.{big_bytes, big_number}
use Rattle.byte_code.specs.declared.operand.Operand.{Operand}
use Rattle.byte_code.specs.declared.operand.Operand.TheVariants.{Nothing, Int8, Int32, Int64, Name, Place, Outer, Jump, Function, Count, Global, BinaryRow, UnaryRow, Message, DefineMode, NameMode}
use Rattle.byte_code.specs.declared.operand.Following.{Following}

-- the bytes of a number that names a name, and of a code offset
abbrev pub name_bytes : ℕ → List ℕ
name_bytes n = big_bytes 2 n

abbrev pub jump_bytes : ℕ → List ℕ
jump_bytes n = big_bytes 2 n

-- the bytes of an operand
abbrev pub operand_bytes : Operand → List ℕ
operand_bytes Nothing = []
operand_bytes (Int8 n) = cast_unsigned w8 n ∷ []
operand_bytes (Int32 n) = big_bytes 4 (cast_unsigned w32 n)
operand_bytes (Int64 n) = big_bytes 8 (cast_unsigned w64 n)
operand_bytes (Name n) = name_bytes n
operand_bytes (Jump n) = jump_bytes n
operand_bytes (Place n) = big_bytes 2 n
operand_bytes (Outer n) = big_bytes 2 n
operand_bytes (Function n) = big_bytes 2 n
operand_bytes (Count n) = n ∷ []
operand_bytes (Global n) = n ∷ []
operand_bytes (BinaryRow n) = n ∷ []
operand_bytes (UnaryRow n) = n ∷ []
operand_bytes (Message n) = n ∷ []
operand_bytes (DefineMode n) = n ∷ []
operand_bytes (NameMode n) = n ∷ []

-- a signed number has the shortest of its three spellings
abbrev pub IsShortest : Operand → Type 0
IsShortest (Int32 n) = ¬ FitsSigned w8 n
IsShortest (Int64 n) = ¬ FitsSigned w32 n
IsShortest _ = Unit {0}

-- the number fits its bytes
abbrev pub FitsBytes : Operand → Type 0
FitsBytes Nothing = Unit {0}
FitsBytes (Int8 n) = FitsSigned w8 n
FitsBytes (Int32 n) = FitsSigned w32 n
FitsBytes (Int64 n) = FitsSigned w64 n
FitsBytes (Name n) = n < 2 ^ 16
FitsBytes (Jump n) = n < 2 ^ 16
FitsBytes (Place n) = n < 2 ^ 16
FitsBytes (Outer n) = n < 2 ^ 16
FitsBytes (Function n) = n < 2 ^ 16
FitsBytes (Count n) = n < 2 ^ 8
FitsBytes (Global n) = n < 2 ^ 8
FitsBytes (BinaryRow n) = n < 2 ^ 8
FitsBytes (UnaryRow n) = n < 2 ^ 8
FitsBytes (Message n) = n < 2 ^ 8
FitsBytes (DefineMode n) = n < 2 ^ 8
FitsBytes (NameMode n) = n < 2 ^ 8

-- f holds what the bytes are at each width, a byte that isn't there being 0
pub record IsFollowing (bytes : List ℕ) (f : Following) : Type 0 where
  pub byte : f.byte ≡ slice_index bytes 0
  pub pair : f.pair ≡ big_number 2 bytes
  pub name : f.name ≡ big_number 2 bytes
  pub jump : f.jump ≡ big_number 2 bytes
  pub int8 : f.int8 ≡ cast_signed w8 (slice_index bytes 0)
  pub int32 : f.int32 ≡ cast_signed w32 (big_number 4 bytes)
  pub int64 : f.int64 ≡ cast_signed w64 (big_number 8 bytes)

-- the operand is the one of its kind that f holds
abbrev pub IsRead : Following → Operand → Type 0
IsRead f Nothing = Unit {0}
IsRead f (Int8 n) = n ≡ f.int8
IsRead f (Int32 n) = n ≡ f.int32
IsRead f (Int64 n) = n ≡ f.int64
IsRead f (Name n) = n ≡ f.name
IsRead f (Jump n) = n ≡ f.jump
IsRead f (Place n) = n ≡ f.pair
IsRead f (Outer n) = n ≡ f.pair
IsRead f (Function n) = n ≡ f.pair
IsRead f (Count n) = n ≡ f.byte
IsRead f (Global n) = n ≡ f.byte
IsRead f (BinaryRow n) = n ≡ f.byte
IsRead f (UnaryRow n) = n ≡ f.byte
IsRead f (Message n) = n ≡ f.byte
IsRead f (DefineMode n) = n ≡ f.byte
IsRead f (NameMode n) = n ≡ f.byte
