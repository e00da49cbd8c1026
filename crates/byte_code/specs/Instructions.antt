-- The instructions, as a table: the number of each and what stands after it.
use Rattle.std.specs.Prelude.{◌≡◌, ℕ, List, ◌∷◌, ◌++◌}
use Rattle.byte_code.specs.declared.operand.Operand.{Operand}
use Rattle.byte_code.specs.declared.operand.Operand.TheVariants as operand
use Rattle.byte_code.specs.declared.instruction.Op.{Op}
use Rattle.byte_code.specs.declared.instruction.Op.TheVariants.{Undefined, Null, True, False, Int, Mid, Long, Text, This, Pop, Dup, Dup2, Swap, Rot3, Rot4, LocalGet, LocalPut, LocalCheck, LocalClear, BoxLet, BoxConst, BoxGet, BoxInit, BoxPut, BoxCopy, OuterGet, OuterInit, OuterPut, Global, Get, GetKey, Set, SetKey, Delete, DeleteKey, SuperGet, SuperGetKey, SuperSet, SuperSetKey, In, InstanceOf, Binary, Unary, Typeof, ToText, Join, ToKey, Jump, JumpIf, JumpUnless, JumpValue, Turn, Call, New, SuperCall, BindThis, Return, Throw, ThrowMessage, Function, Method, Class, ClassExtends, Object, Array, Append, Define, NameIt}
use Rattle.byte_code.specs.Operands.{operand_bytes, IsShortest as IsShortestOperand, FitsBytes}

abbrev pub parts : Op → ℕ × Operand
parts Undefined = (0x00, operand.Nothing)
parts Null = (0x01, operand.Nothing)
parts True = (0x02, operand.Nothing)
parts False = (0x03, operand.Nothing)
parts (Int number) = (0x04, operand.Int8 number)
parts (Mid number) = (0x05, operand.Int32 number)
parts (Long number) = (0x06, operand.Int64 number)
parts (Text name) = (0x07, operand.Name name)
parts This = (0x08, operand.Nothing)
parts Pop = (0x09, operand.Nothing)
parts Dup = (0x0A, operand.Nothing)
parts Dup2 = (0x0B, operand.Nothing)
parts Swap = (0x0C, operand.Nothing)
parts Rot3 = (0x0D, operand.Nothing)
parts Rot4 = (0x0E, operand.Nothing)
parts (LocalGet place) = (0x0F, operand.Place place)
parts (LocalPut place) = (0x10, operand.Place place)
parts (LocalCheck place) = (0x11, operand.Place place)
parts (LocalClear place) = (0x12, operand.Place place)
parts (BoxLet place) = (0x13, operand.Place place)
parts (BoxConst place) = (0x14, operand.Place place)
parts (BoxGet place) = (0x15, operand.Place place)
parts (BoxInit place) = (0x16, operand.Place place)
parts (BoxPut place) = (0x17, operand.Place place)
parts (BoxCopy place) = (0x18, operand.Place place)
parts (OuterGet outer) = (0x19, operand.Outer outer)
parts (OuterInit outer) = (0x1A, operand.Outer outer)
parts (OuterPut outer) = (0x1B, operand.Outer outer)
parts (Global row) = (0x1C, operand.Global row)
parts (Get name) = (0x1D, operand.Name name)
parts GetKey = (0x1E, operand.Nothing)
parts (Set name) = (0x1F, operand.Name name)
parts SetKey = (0x20, operand.Nothing)
parts (Delete name) = (0x21, operand.Name name)
parts DeleteKey = (0x22, operand.Nothing)
parts (SuperGet name) = (0x23, operand.Name name)
parts SuperGetKey = (0x24, operand.Nothing)
parts (SuperSet name) = (0x25, operand.Name name)
parts SuperSetKey = (0x26, operand.Nothing)
parts In = (0x27, operand.Nothing)
parts InstanceOf = (0x28, operand.Nothing)
parts (Binary row) = (0x29, operand.BinaryRow row)
parts (Unary row) = (0x2A, operand.UnaryRow row)
parts Typeof = (0x2B, operand.Nothing)
parts ToText = (0x2C, operand.Nothing)
parts (Join count) = (0x2D, operand.Count count)
parts ToKey = (0x2E, operand.Nothing)
parts (Jump target) = (0x2F, operand.Jump target)
parts (JumpIf target) = (0x30, operand.Jump target)
parts (JumpUnless target) = (0x31, operand.Jump target)
parts (JumpValue target) = (0x32, operand.Jump target)
parts Turn = (0x33, operand.Nothing)
parts (Call count) = (0x34, operand.Count count)
parts (New count) = (0x35, operand.Count count)
parts (SuperCall count) = (0x36, operand.Count count)
parts BindThis = (0x37, operand.Nothing)
parts Return = (0x38, operand.Nothing)
parts Throw = (0x39, operand.Nothing)
parts (ThrowMessage message) = (0x3A, operand.Message message)
parts (Function function) = (0x3B, operand.Function function)
parts (Method function) = (0x3C, operand.Function function)
parts (Class function) = (0x3D, operand.Function function)
parts (ClassExtends function) = (0x3E, operand.Function function)
parts Object = (0x3F, operand.Nothing)
parts Array = (0x40, operand.Nothing)
parts Append = (0x41, operand.Nothing)
parts (Define mode) = (0x42, operand.DefineMode mode)
parts (NameIt mode) = (0x43, operand.NameMode mode)

-- the bytes of an instruction: its number, then its operand
abbrev pub spelling : Op → List ℕ
spelling op = (parts op).0 ∷ operand_bytes (parts op).1

-- a number on the way to the stack has the shortest of the three spellings: `mid` only where one byte
-- doesn't hold it, `long` only where four don't
abbrev pub IsShortest : Op → Type 0
IsShortest op = IsShortestOperand (parts op).1

-- what has a spelling: the operand fits its bytes, and a number is spelled the shortest way
pub record IsInstruction (op : Op) : Type 0 where
  pub fits : FitsBytes (parts op).1
  pub shortest : IsShortest op

-- the bytes begin with the instruction's spelling
pub record Begins (bytes : List ℕ) (op : Op) : Type 0 where
  pub rest : List ℕ
  pub split : bytes ≡ spelling op ++ rest
