-- What is fetched is what was spelled.
use Rattle.std.proofs.Common.{◌≡◌, ℕ, List, ◌++◌, Some, slice_index, refl, sym, ap, ◌∙◌}
use Rattle.std.specs.Int.{w8, w32, w64, cast_signed}
use Rattle.byteorder.specs.Endian.{big_number}
use Rattle.byte_code.specs.declared.operand.Following.{Following}
use Rattle.byte_code.specs.declared.instruction.Op.{Op}
use Rattle.byte_code.specs.declared.instruction.Op.TheVariants as i
use Rattle.byte_code.specs.Operands.{IsRead, IsFollowing, operand_bytes}
use Rattle.byte_code.specs.Instructions.{parts, spelling, IsInstruction}
use Rattle.byte_code.specs.ValidCode.{At}
use Rattle.byte_code.proofs.Reading.{read-bytes}
use Rattle.es_machine.specs.Decoding.{fetched, decoded, fetch}

-- what the bytes are at each width
read_of : List ℕ → Following
read_of bytes = record {
  byte = slice_index bytes 0;
  pair = big_number 2 bytes;
  name = big_number 2 bytes;
  jump = big_number 2 bytes;
  int8 = cast_signed w8 (slice_index bytes 0);
  int32 = cast_signed w32 (big_number 4 bytes);
  int64 = cast_signed w64 (big_number 8 bytes);
}

read_of-follows : (bytes : List ℕ) → IsFollowing bytes (read_of bytes)
unfolding read_of
read_of-follows bytes = record { byte = refl; pair = refl; name = refl; jump = refl; int8 = refl; int32 = refl; int64 = refl }

-- an instruction's operand is the one that its bytes hold
operand_read : (op : Op) (x : List ℕ) → IsInstruction op → IsRead (read_of (operand_bytes (parts op).1 ++ x)) (parts op).1
operand_read op x is = read-bytes (operand_bytes (parts op).1 ++ x) x (read_of (operand_bytes (parts op).1 ++ x)) (parts op).1 is.fits refl (read_of-follows (operand_bytes (parts op).1 ++ x))

pub spelled_decoded : (op : Op) (x : List ℕ) (at : ℕ) → IsInstruction op → decoded (spelling op ++ x) at ≡ Some (fetched op at)
unfolding read_of
spelled_decoded i.Undefined x at is = refl
spelled_decoded i.Null x at is = refl
spelled_decoded i.True x at is = refl
spelled_decoded i.False x at is = refl
spelled_decoded (i.Int n) x at is = ap (λ m. Some (fetched (i.Int m) at)) (sym (operand_read (i.Int n) x is))
spelled_decoded (i.Mid n) x at is = ap (λ m. Some (fetched (i.Mid m) at)) (sym (operand_read (i.Mid n) x is))
spelled_decoded (i.Long n) x at is = ap (λ m. Some (fetched (i.Long m) at)) (sym (operand_read (i.Long n) x is))
spelled_decoded (i.Text n) x at is = ap (λ m. Some (fetched (i.Text m) at)) (sym (operand_read (i.Text n) x is))
spelled_decoded i.This x at is = refl
spelled_decoded i.Pop x at is = refl
spelled_decoded i.Dup x at is = refl
spelled_decoded i.Dup2 x at is = refl
spelled_decoded i.Swap x at is = refl
spelled_decoded i.Rot3 x at is = refl
spelled_decoded i.Rot4 x at is = refl
spelled_decoded (i.LocalGet n) x at is = ap (λ m. Some (fetched (i.LocalGet m) at)) (sym (operand_read (i.LocalGet n) x is))
spelled_decoded (i.LocalPut n) x at is = ap (λ m. Some (fetched (i.LocalPut m) at)) (sym (operand_read (i.LocalPut n) x is))
spelled_decoded (i.LocalCheck n) x at is = ap (λ m. Some (fetched (i.LocalCheck m) at)) (sym (operand_read (i.LocalCheck n) x is))
spelled_decoded (i.LocalClear n) x at is = ap (λ m. Some (fetched (i.LocalClear m) at)) (sym (operand_read (i.LocalClear n) x is))
spelled_decoded (i.BoxLet n) x at is = ap (λ m. Some (fetched (i.BoxLet m) at)) (sym (operand_read (i.BoxLet n) x is))
spelled_decoded (i.BoxConst n) x at is = ap (λ m. Some (fetched (i.BoxConst m) at)) (sym (operand_read (i.BoxConst n) x is))
spelled_decoded (i.BoxGet n) x at is = ap (λ m. Some (fetched (i.BoxGet m) at)) (sym (operand_read (i.BoxGet n) x is))
spelled_decoded (i.BoxInit n) x at is = ap (λ m. Some (fetched (i.BoxInit m) at)) (sym (operand_read (i.BoxInit n) x is))
spelled_decoded (i.BoxPut n) x at is = ap (λ m. Some (fetched (i.BoxPut m) at)) (sym (operand_read (i.BoxPut n) x is))
spelled_decoded (i.BoxCopy n) x at is = ap (λ m. Some (fetched (i.BoxCopy m) at)) (sym (operand_read (i.BoxCopy n) x is))
spelled_decoded (i.OuterGet n) x at is = ap (λ m. Some (fetched (i.OuterGet m) at)) (sym (operand_read (i.OuterGet n) x is))
spelled_decoded (i.OuterInit n) x at is = ap (λ m. Some (fetched (i.OuterInit m) at)) (sym (operand_read (i.OuterInit n) x is))
spelled_decoded (i.OuterPut n) x at is = ap (λ m. Some (fetched (i.OuterPut m) at)) (sym (operand_read (i.OuterPut n) x is))
spelled_decoded (i.Global n) x at is = ap (λ m. Some (fetched (i.Global m) at)) (sym (operand_read (i.Global n) x is))
spelled_decoded (i.Get n) x at is = ap (λ m. Some (fetched (i.Get m) at)) (sym (operand_read (i.Get n) x is))
spelled_decoded i.GetKey x at is = refl
spelled_decoded (i.Set n) x at is = ap (λ m. Some (fetched (i.Set m) at)) (sym (operand_read (i.Set n) x is))
spelled_decoded i.SetKey x at is = refl
spelled_decoded (i.Delete n) x at is = ap (λ m. Some (fetched (i.Delete m) at)) (sym (operand_read (i.Delete n) x is))
spelled_decoded i.DeleteKey x at is = refl
spelled_decoded (i.SuperGet n) x at is = ap (λ m. Some (fetched (i.SuperGet m) at)) (sym (operand_read (i.SuperGet n) x is))
spelled_decoded i.SuperGetKey x at is = refl
spelled_decoded (i.SuperSet n) x at is = ap (λ m. Some (fetched (i.SuperSet m) at)) (sym (operand_read (i.SuperSet n) x is))
spelled_decoded i.SuperSetKey x at is = refl
spelled_decoded i.In x at is = refl
spelled_decoded i.InstanceOf x at is = refl
spelled_decoded (i.Binary n) x at is = ap (λ m. Some (fetched (i.Binary m) at)) (sym (operand_read (i.Binary n) x is))
spelled_decoded (i.Unary n) x at is = ap (λ m. Some (fetched (i.Unary m) at)) (sym (operand_read (i.Unary n) x is))
spelled_decoded i.Typeof x at is = refl
spelled_decoded i.ToText x at is = refl
spelled_decoded (i.Join n) x at is = ap (λ m. Some (fetched (i.Join m) at)) (sym (operand_read (i.Join n) x is))
spelled_decoded i.ToKey x at is = refl
spelled_decoded (i.Jump n) x at is = ap (λ m. Some (fetched (i.Jump m) at)) (sym (operand_read (i.Jump n) x is))
spelled_decoded (i.JumpIf n) x at is = ap (λ m. Some (fetched (i.JumpIf m) at)) (sym (operand_read (i.JumpIf n) x is))
spelled_decoded (i.JumpUnless n) x at is = ap (λ m. Some (fetched (i.JumpUnless m) at)) (sym (operand_read (i.JumpUnless n) x is))
spelled_decoded (i.JumpValue n) x at is = ap (λ m. Some (fetched (i.JumpValue m) at)) (sym (operand_read (i.JumpValue n) x is))
spelled_decoded i.Turn x at is = refl
spelled_decoded (i.Call n) x at is = ap (λ m. Some (fetched (i.Call m) at)) (sym (operand_read (i.Call n) x is))
spelled_decoded (i.New n) x at is = ap (λ m. Some (fetched (i.New m) at)) (sym (operand_read (i.New n) x is))
spelled_decoded (i.SuperCall n) x at is = ap (λ m. Some (fetched (i.SuperCall m) at)) (sym (operand_read (i.SuperCall n) x is))
spelled_decoded i.BindThis x at is = refl
spelled_decoded i.Return x at is = refl
spelled_decoded i.Throw x at is = refl
spelled_decoded (i.ThrowMessage n) x at is = ap (λ m. Some (fetched (i.ThrowMessage m) at)) (sym (operand_read (i.ThrowMessage n) x is))
spelled_decoded (i.Function n) x at is = ap (λ m. Some (fetched (i.Function m) at)) (sym (operand_read (i.Function n) x is))
spelled_decoded (i.Method n) x at is = ap (λ m. Some (fetched (i.Method m) at)) (sym (operand_read (i.Method n) x is))
spelled_decoded (i.Class n) x at is = ap (λ m. Some (fetched (i.Class m) at)) (sym (operand_read (i.Class n) x is))
spelled_decoded (i.ClassExtends n) x at is = ap (λ m. Some (fetched (i.ClassExtends m) at)) (sym (operand_read (i.ClassExtends n) x is))
spelled_decoded i.Object x at is = refl
spelled_decoded i.Array x at is = refl
spelled_decoded i.Append x at is = refl
spelled_decoded (i.Define n) x at is = ap (λ m. Some (fetched (i.Define m) at)) (sym (operand_read (i.Define n) x is))
spelled_decoded (i.NameIt n) x at is = ap (λ m. Some (fetched (i.NameIt m) at)) (sym (operand_read (i.NameIt n) x is))

-- an instruction that stands at an offset is fetched there
pub at_fetched : (code : List ℕ) (p : ℕ) (op : Op) → At code p op → fetch code p ≡ Some (fetched op p)
unfolding fetch
at_fetched code p op a = ap (λ bytes. decoded bytes p) a.begins.split ∙ spelled_decoded op a.begins.rest p a.instruction
