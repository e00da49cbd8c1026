-- The instruction at a place of a code: the one that the code's bytes are read as.
use Rattle.std.proofs.Common.{◌≡◌, ℕ, ◌<◌, ◌≤◌, ◌+◌, List, ◌∷◌, ◌++◌, length, drop, take, get_or, sym, ap, subst, ◌∙◌, arith, length-append, length-drop}
use Rattle.std.proofs.lemmas.List.{get_or-drop, drop_more, take-append-drop}
use Rattle.byte_code.specs.declared.operand.Following.{Following}
use Rattle.byte_code.specs.declared.instruction.Op.{Op}
use Rattle.byte_code.specs.Operands.{IsRead, IsFollowing, operand_bytes}
use Rattle.byte_code.specs.Instructions.{parts, spelling, IsShortest, IsInstruction, Begins}
use Rattle.byte_code.proofs.Reading.{IsBytes, bytes-read, fits-read, read-bytes}
use Rattle.byte_code.proofs.Rows.{same_op, parts-below}

-- the instruction has the number at the place, and its operand is what follows
pub record StandsAt (code : List ℕ) (at : ℕ) (f : Following) (op : Op) : Type 0 where
  pub number : (parts op).0 ≡ get_or code at 0
  pub operand : IsRead f (parts op).1

drop_bytes : (n : ℕ) (xs : List ℕ) → IsBytes xs → IsBytes (drop n xs)
drop_bytes n xs b i = subst (λ v. v < 256) (sym (get_or-drop n xs i 0)) (b (n + i))

-- The bytes after a place of the code, and what they are at each width.
pub record IsReading (code : List ℕ) (at : ℕ) (rest : List ℕ) (f : Following) : Type 0 where
  pub within : at < length code
  pub after : rest ≡ drop (at + 1) code
  pub follows : IsFollowing rest f

-- what was read begins there
pub begins : (code : List ℕ) (at : ℕ) (rest : List ℕ) (f : Following) (op : Op) → IsBytes code → IsReading code at rest f → StandsAt code at f op → length (spelling op) ≤ length rest + 1 → IsShortest op → IsInstruction op × Begins (drop at code) op
begins code at rest f op b r s long short =
    let bytes : IsBytes rest = subst IsBytes (sym r.after) (drop_bytes (at + 1) code b) in
    let e : operand_bytes (parts op).1 ≡ take (length (operand_bytes (parts op).1)) rest = bytes-read rest f (parts op).1 bytes r.follows s.operand (omega arith) in
    let k : ℕ = length (operand_bytes (parts op).1) in (
      record { fits = fits-read rest f (parts op).1 bytes r.follows s.operand; shortest = short },
      record {
        rest = drop k rest;
        split =
            drop_more code at 0 r.within
            ∙ ap (λ xs. get_or code at 0 ∷ xs) (sym r.after)
            ∙ ap (λ n. n ∷ rest) (sym s.number)
            ∙ ap (λ xs. (parts op).0 ∷ xs) (sym (take-append-drop k rest) ∙ ap (λ xs. xs ++ drop k rest) (sym e));
      },
    )

-- what begins there is what was read, whole
pub only : (code : List ℕ) (at : ℕ) (rest : List ℕ) (f : Following) (a op : Op) → IsReading code at rest f → StandsAt code at f a → IsInstruction op → Begins (drop at code) op → (a ≡ op) × (length (spelling op) ≤ length rest + 1)
only code at rest f a op r s i b =
    let e : get_or code at 0 ∷ drop (at + 1) code ≡ (parts op).0 ∷ (operand_bytes (parts op).1 ++ b.rest) = sym (drop_more code at 0 r.within) ∙ b.split in
    let tail : drop (at + 1) code ≡ operand_bytes (parts op).1 ++ b.rest = cc in
    let number : get_or code at 0 ≡ (parts op).0 = cc in
    let operand : IsRead f (parts op).1 = read-bytes rest b.rest f (parts op).1 i.fits (r.after ∙ tail) r.follows in (
      same_op f a op (s.number ∙ number) s.operand operand,
      omega (arith, length-append (operand_bytes (parts op).1) b.rest, ap length tail, ap length r.after),
    )

-- nothing begins behind the end of the code, nor with a number past the last
pub none_outside : (code : List ℕ) (at : ℕ) (op : Op) → length code ≤ at → Begins (drop at code) op → ⊥
none_outside code at op h b =
    let e : length (drop at code) ≡ length (spelling op ++ b.rest) = ap length b.split in
    omega (arith, length-drop at code, e, length-append (spelling op) b.rest)

pub none_past : (code : List ℕ) (at : ℕ) (op : Op) → at < length code → 68 ≤ get_or code at 0 → Begins (drop at code) op → ⊥
none_past code at op within h b =
    let e : get_or code at 0 ∷ drop (at + 1) code ≡ (parts op).0 ∷ (operand_bytes (parts op).1 ++ b.rest) = sym (drop_more code at 0 within) ∙ b.split in
    let number : get_or code at 0 ≡ (parts op).0 = cc in
    omega (arith, parts-below op)
