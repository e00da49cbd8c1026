-- Instructions read from a code's bytes: the table of instructions by their numbers.
use Rattle.std.specs.Prelude.{ℕ, ◌+◌, List, [], ◌∷◌, length, drop, slice_get, slice_index, Option, Some, None}
use Rattle.std.specs.Int.{w8, w32, w64, cast_signed}
use Rattle.byteorder.specs.Endian.{big_number}
use Rattle.byte_code.specs.declared.instruction.Op.{Op}
use Rattle.byte_code.specs.declared.instruction.Op.TheVariants.{Undefined, Null, True, False, Int, Mid, Long, Text, This, Pop, Dup, Dup2, Swap, Rot3, Rot4, LocalGet, LocalPut, LocalCheck, LocalClear, BoxLet, BoxConst, BoxGet, BoxInit, BoxPut, BoxCopy, OuterGet, OuterInit, OuterPut, Global, Get, GetKey, Set, SetKey, Delete, DeleteKey, SuperGet, SuperGetKey, SuperSet, SuperSetKey, In, InstanceOf, Binary, Unary, Typeof, ToText, Join, ToKey, Jump, JumpIf, JumpUnless, JumpValue, Turn, Call, New, SuperCall, BindThis, Return, Throw, ThrowMessage, Function, Method, Class, ClassExtends, Object, Array, Append, Define, NameIt}
use Rattle.byte_code.specs.Instructions.{spelling}

-- the number that stands first, in one byte or in two
abbrev pub byte : List ℕ → ℕ
byte bytes = slice_index bytes 0

abbrev pub pair : List ℕ → ℕ
pair bytes = big_number 2 bytes

-- each instruction by what stands after its number
abbrev pub readers : List (List ℕ → Op)
readers =
    (λ b. Undefined) ∷ (λ b. Null) ∷ (λ b. True) ∷ (λ b. False) ∷
    (λ b. Int (cast_signed w8 (byte b))) ∷ (λ b. Mid (cast_signed w32 (big_number 4 b))) ∷ (λ b. Long (cast_signed w64 (big_number 8 b))) ∷
    (λ b. Text (pair b)) ∷ (λ b. This) ∷
    (λ b. Pop) ∷ (λ b. Dup) ∷ (λ b. Dup2) ∷ (λ b. Swap) ∷ (λ b. Rot3) ∷ (λ b. Rot4) ∷
    (λ b. LocalGet (pair b)) ∷ (λ b. LocalPut (pair b)) ∷ (λ b. LocalCheck (pair b)) ∷ (λ b. LocalClear (pair b)) ∷
    (λ b. BoxLet (pair b)) ∷ (λ b. BoxConst (pair b)) ∷
    (λ b. BoxGet (pair b)) ∷ (λ b. BoxInit (pair b)) ∷ (λ b. BoxPut (pair b)) ∷ (λ b. BoxCopy (pair b)) ∷
    (λ b. OuterGet (pair b)) ∷ (λ b. OuterInit (pair b)) ∷ (λ b. OuterPut (pair b)) ∷
    (λ b. Global (byte b)) ∷
    (λ b. Get (pair b)) ∷ (λ b. GetKey) ∷ (λ b. Set (pair b)) ∷ (λ b. SetKey) ∷ (λ b. Delete (pair b)) ∷ (λ b. DeleteKey) ∷
    (λ b. SuperGet (pair b)) ∷ (λ b. SuperGetKey) ∷ (λ b. SuperSet (pair b)) ∷ (λ b. SuperSetKey) ∷
    (λ b. In) ∷ (λ b. InstanceOf) ∷ (λ b. Binary (byte b)) ∷ (λ b. Unary (byte b)) ∷ (λ b. Typeof) ∷
    (λ b. ToText) ∷ (λ b. Join (byte b)) ∷ (λ b. ToKey) ∷
    (λ b. Jump (pair b)) ∷ (λ b. JumpIf (pair b)) ∷ (λ b. JumpUnless (pair b)) ∷ (λ b. JumpValue (pair b)) ∷ (λ b. Turn) ∷
    (λ b. Call (byte b)) ∷ (λ b. New (byte b)) ∷ (λ b. SuperCall (byte b)) ∷ (λ b. BindThis) ∷ (λ b. Return) ∷ (λ b. Throw) ∷
    (λ b. ThrowMessage (byte b)) ∷
    (λ b. Function (pair b)) ∷ (λ b. Method (pair b)) ∷ (λ b. Class (pair b)) ∷ (λ b. ClassExtends (pair b)) ∷
    (λ b. Object) ∷ (λ b. Array) ∷ (λ b. Append) ∷ (λ b. Define (byte b)) ∷ (λ b. NameIt (byte b)) ∷ []

-- an instruction, and the offset of the one after it
pub record Fetched : Type 0 where
  pub op : Op
  pub next : ℕ

abbrev pub fetched : Op → ℕ → Fetched
fetched op at = record { op = op; next = at + length (spelling op) }

abbrev pub read_by : Option (List ℕ → Op) → List ℕ → ℕ → Option Fetched
read_by None bytes at = None
read_by (Some reader) bytes at = Some (fetched (reader bytes) at)

abbrev pub decoded : List ℕ → ℕ → Option Fetched
decoded [] at = None
decoded (number ∷ bytes) at = read_by (slice_get readers number) bytes at

-- the instruction at an offset of a code
unfoldable pub fetch : List ℕ → ℕ → Option Fetched
fetch code at = decoded (drop at code) at
