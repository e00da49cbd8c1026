-- The first piece of a line, as it stands in a buffer.
use Rattle.std.proofs.Common.{Option, subst, ◌≡◌, ◌≤◌, ◌<◌, ◌∙◌, ◌++◌, ◌+◌, ℕ, zero, suc, List, [], ◌∷◌, length, take, drop, slice_set, refl, ap, sym, arith, append_assoc}
use Rattle.js_value.specs.Text.{piece, utf8}
use Rattle.js_value.proofs.Pieces.{utf8-piece, piece-prefix, utf8-none, piece-some, length-piece}
use Rattle.std.specs.Io.KnownBytes.{Appends}
use Rattle.xs_base.specs.Outside.{SentInPart}
use Rattle.xs_base.proofs.Writes.{SentInPart-longer}
use Rattle.es_model.specs.Tree.{Text}
use Rattle.es_ops.proofs.Lines.{written-line}
use Rattle.xs_cli.specs.Line.{line_bytes, WritesPiece}

-- the line is its first piece, and then the line of the rest
pub front_part : (text : Text) → line_bytes text ≡ utf8 (piece text) ++ line_bytes (drop (length (piece text)) text)
front_part text =
    written-line text
    ∙ ap (λ bytes. bytes ++ 10 ∷ []) (utf8-piece text)
    ∙ append_assoc (utf8 (piece text)) (utf8 (drop (length (piece text)) text)) (10 ∷ [])
    ∙ ap (λ bytes. utf8 (piece text) ++ bytes) (sym (written-line (drop (length (piece text)) text)))

take_whole : (n : ℕ) (text : List ℕ) → length text ≤ n → take n text ≡ text
take_whole zero [] h = refl
take_whole zero (unit ∷ units) h = absurd (omega arith)
take_whole (suc n) [] h = refl
take_whole (suc n) (unit ∷ units) h = ap (λ rest. unit ∷ rest) (take_whole n units (omega arith))

-- where the piece is the whole text, the line ends with it
pub whole_line : (text : Text) → length text ≤ length (piece text) → line_bytes text ≡ utf8 (piece text) ++ 10 ∷ []
whole_line text h = written-line text ∙ ap (λ units. utf8 units ++ 10 ∷ []) (sym (piece-prefix text ∙ take_whole (length (piece text)) text h))

-- what stands in front of a buffer
pub front_of : (bytes rest : List ℕ) (n : ℕ) → n ≡ length bytes → take n (bytes ++ rest) ≡ bytes
front_of [] rest zero e = refl
front_of [] rest (suc n) e = absurd (omega arith)
front_of (byte ∷ bytes) rest zero e = absurd (omega arith)
front_of (byte ∷ bytes) rest (suc n) e = ap (λ front. byte ∷ front) (front_of bytes rest n (omega arith))

-- and with one byte more behind it
pub front_and : (bytes rest : List ℕ) (n last : ℕ) → n ≡ length bytes → n < length (bytes ++ rest) → take (suc n) (slice_set (bytes ++ rest) n last) ≡ bytes ++ last ∷ []
front_and [] [] zero last e h = absurd (omega arith)
front_and [] (r ∷ rest) zero last e h = refl
front_and [] rest (suc n) last e h = absurd (omega arith)
front_and (byte ∷ bytes) rest zero last e h = absurd (omega arith)
front_and (byte ∷ bytes) rest (suc n) last e h = ap (λ front. byte ∷ front) (front_and bytes rest n last (omega arith) (omega arith))

pub buffered : (text : Text) (into rest : List ℕ) (n : ℕ) → into ≡ utf8 (piece text) ++ rest → n ≡ length (utf8 (piece text)) → take n into ≡ utf8 (piece text)
buffered text into rest n e m = ap (take n) e ∙ front_of (utf8 (piece text)) rest n m

pub buffered_end : (text : Text) (into rest : List ℕ) (n : ℕ) → into ≡ utf8 (piece text) ++ rest → n ≡ length (utf8 (piece text)) → n < length into → take (n + 1) (slice_set into n 10) ≡ utf8 (piece text) ++ 10 ∷ []
buffered_end text into rest n e m h =
    let more : n + 1 ≡ suc n = omega arith in
    rw more (ap (λ bytes. take (suc n) (slice_set bytes n 10)) e ∙ front_and (utf8 (piece text)) rest n 10 m (omega (arith, ap length e)))

pub fault_in_front : (old new : Option (List ℕ)) (text : Text) (bytes : List ℕ) → bytes ≡ utf8 (piece text) → SentInPart old new bytes → SentInPart old new (line_bytes text)
fault_in_front old new text bytes e h =
    subst (SentInPart old new) (sym (front_part text)) (SentInPart-longer old new (utf8 (piece text)) _ (subst (SentInPart old new) e h))

pub one_piece : (old new : Option (List ℕ)) (text : Text) (bytes : List ℕ) (units : ℕ) → bytes ≡ utf8 (piece text) → units ≡ length (piece text) → 0 < length text → Appends old new bytes → WritesPiece old new text units
one_piece old new text bytes units e n some a = (
  utf8 (piece text),
  front_part text ∙ ap (λ k. utf8 (piece text) ++ line_bytes (drop k text)) (sym n),
  subst (Appends old new) e a,
  omega (arith, piece-some text some),
  omega (arith, length-piece text),
)

pub some_text : (text : Text) → length (utf8 (piece text)) ≡ 64 → 0 < length text
unfolding piece
some_text [] h = absurd (omega (arith, ap length utf8-none))
some_text (unit ∷ units) h = omega arith
