-- Laws of the spellings: none is a proper front of another.
use Rattle.std.proofs.Common.{◌≡◌, ℕ, List, ◌++◌, slice_index, refl, sym, ap, ◌∙◌}
use Rattle.std.proofs.lemmas.List.{append_cancel_left}
use Rattle.std.specs.Int.{w8, w32, w64, cast_signed}
use Rattle.byteorder.specs.Endian.{big_number}
use Rattle.byte_code.specs.declared.operand.Following.{Following}
use Rattle.byte_code.specs.declared.instruction.Op.{Op}
use Rattle.byte_code.specs.Operands.{IsRead, IsFollowing, operand_bytes}
use Rattle.byte_code.specs.Instructions.{parts, spelling, IsInstruction}
use Rattle.byte_code.proofs.Reading.{read-bytes}
use Rattle.byte_code.proofs.Rows.{same_op}

-- what the bytes are at each width
read_of : List ℕ → Following
read_of bytes = record {
  byte = slice_index bytes 0;
  pair = big_number 2 bytes;
  name = big_number 2 bytes;
  jump = big_number 2 bytes;
  int8 = cast_signed w8 (slice_index bytes 0);
  int32 = cast_signed w32 (big_number 4 bytes);
  int64 = cast_signed w64 (big_number 8 bytes);
}

read_of-follows : (bytes : List ℕ) → IsFollowing bytes (read_of bytes)
unfolding read_of
read_of-follows bytes = record { byte = refl; pair = refl; name = refl; jump = refl; int8 = refl; int32 = refl; int64 = refl }

-- Bytes begin with one instruction at most.
pub one_spelling : (a b : Op) (x y : List ℕ) → IsInstruction a → IsInstruction b → spelling a ++ x ≡ spelling b ++ y → (a ≡ b) × (x ≡ y)
one_spelling a b x y i j e =
    let number : (parts a).0 ≡ (parts b).0 = cc in
    let tail : operand_bytes (parts a).1 ++ x ≡ operand_bytes (parts b).1 ++ y = cc in
    let f : Following = read_of (operand_bytes (parts a).1 ++ x) in
    let follows : IsFollowing (operand_bytes (parts a).1 ++ x) f = read_of-follows (operand_bytes (parts a).1 ++ x) in
    let p : IsRead f (parts a).1 = read-bytes (operand_bytes (parts a).1 ++ x) x f (parts a).1 i.fits refl follows in
    let q : IsRead f (parts b).1 = read-bytes (operand_bytes (parts a).1 ++ x) y f (parts b).1 j.fits tail follows in
    let same : a ≡ b = same_op f a b number p q in
    (same, append_cancel_left (operand_bytes (parts b).1) x y (ap (λ o. operand_bytes (parts o).1 ++ x) (sym same) ∙ tail))
