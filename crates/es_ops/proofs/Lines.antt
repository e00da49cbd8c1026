-- The pieces of a line, joined, are the line.
use Rattle.std.proofs.Common.{◌≡◌, ◌≤◌, ◌<◌, ◌∙◌, ◌++◌, ℕ, zero, suc, List, [], ◌∷◌, length, drop, map, refl, ap, sym, arith, length-drop, lit<, append_assoc}
use Rattle.js_value.specs.Text.{piece, utf8}
use Rattle.js_value.proofs.Pieces.{utf8-piece, utf8-none, piece-some}
use Rattle.js_value.proofs.Ascii.{utf8-append, utf8-ascii_cons}
use Rattle.js_value.specs.Value.{Text}
use Rattle.es_ops.specs.State.{TraceEvent, Wrote, Took}
use Rattle.es_ops.specs.Host.{cut, write, written, line_events, line_feed}

joined : (n : ℕ) (text : Text) → length text ≤ n → written (map write (cut n text)) ≡ utf8 text
unfolding cut
joined zero [] h = sym utf8-none
joined zero (unit ∷ units) h = absurd (omega arith)
joined (suc n) [] h = sym utf8-none
joined (suc n) (unit ∷ units) h =
    let some : 0 < length (piece (unit ∷ units)) = piece-some (unit ∷ units) (omega arith) in
    let few : length (drop (length (piece (unit ∷ units))) (unit ∷ units)) ≤ n = omega (arith, length-drop (length (piece (unit ∷ units))) (unit ∷ units)) in
    ap (λ later. utf8 (piece (unit ∷ units)) ++ later) (joined n (drop (length (piece (unit ∷ units))) (unit ∷ units)) few) ∙ sym (utf8-piece (unit ∷ units))

-- the bytes of a line
pub written-line : (text : Text) → written (line_events text) ≡ utf8 text ++ line_feed ∷ []
written-line text =
    joined (length (text ++ line_feed ∷ [])) (text ++ line_feed ∷ []) (omega arith)
    ∙ utf8-append text line_feed [] (lit< tt)
    ∙ ap (λ end. utf8 text ++ end) (utf8-ascii_cons line_feed [] (lit< tt) ∙ ap (λ end. line_feed ∷ end) utf8-none)

-- what two traces, one after the other, have written
pub written-append : (before later : List TraceEvent) → written (before ++ later) ≡ written before ++ written later
written-append [] later = refl
written-append (Wrote bytes ∷ before) later = ap (λ rest. bytes ++ rest) (written-append before later) ∙ sym (append_assoc bytes (written before) (written later))
written-append (Took line ∷ before) later = written-append before later
