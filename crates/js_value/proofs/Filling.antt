-- Writing a piece into a buffer of 64 bytes, a character at a time.
use Rattle.std.proofs.Common.{◌≡◌, ℕ, ◌+◌, ◌-◌, ◌<◌, ◌≤◌, List, [], ◌++◌, length, take, drop, refl, sym, ◌∙◌, ap, arith, append_assoc, length-append}
use Rattle.std.proofs.lemmas.List.{length-take-le, take-append-drop, take_at, drop_at, drop-drop, append-nil}
use Rattle.js_value.specs.Text.{characters, character_length, character_utf8, front, piece, utf8}
use Rattle.js_value.proofs.Pieces.{head, rest, front-takes, utf8-head, utf8-none}

-- `taken` units of a text are written as the first `written` bytes, `left` are the others, and the bytes behind are
-- those that stood there at the start
pub record IsFilling (text start into left : List ℕ) (written taken : ℕ) : Type 0 where
  pub room : written ≤ 64
  pub long : length into ≡ 64
  pub within : taken + length left ≡ length text
  pub units : taken + length (front (64 - written) (characters left)) ≡ length (piece text)
  pub bytes : take written into ++ utf8 (front (64 - written) (characters left)) ≡ utf8 (piece text)
  pub behind : drop written into ≡ drop written start

pub begun : (text start : List ℕ) → length start ≡ 64 → IsFilling text start start text 0 0
unfolding piece
begun text start long = record {
  room = omega arith;
  long = long;
  within = omega arith;
  units = omega arith;
  bytes = refl;
  behind = refl;
}

-- one more character
pub next : (text start into left new : List ℕ) (written taken : ℕ) → IsFilling text start into left written taken → 0 < length left → written + length (character_utf8 (head left)) ≤ 64 → new ≡ take written into ++ character_utf8 (head left) ++ drop (written + length (character_utf8 (head left))) into → length new ≡ 64 → IsFilling text start new (rest left) (written + length (character_utf8 (head left))) (taken + length (head left))
next text start into left new written taken so_far some fits e long =
    let size : ℕ = length (character_utf8 (head left)) in
    let less : 64 - (written + size) ≡ 64 - written - size = omega arith in
    let first : front (64 - written) (characters left) ≡ head left ++ front (64 - (written + size)) (characters (rest left)) =
    rw less (front-takes (64 - written) left some (omega arith)) in
    let ends : length (take written into ++ character_utf8 (head left)) ≡ written + size =
    length-append (take written into) (character_utf8 (head left)) ∙ ap (λ n. n + size) (length-take-le written into (omega (arith, so_far.room, so_far.long))) in
    let begins : take (written + size) new ≡ take written into ++ character_utf8 (head left) =
    ap (take (written + size)) e ∙ take_at (take written into ++ character_utf8 (head left)) (drop (written + size) into) (written + size) ends in
    let same : drop (written + size) new ≡ drop (written + size) into =
    ap (drop (written + size)) e ∙ drop_at (take written into ++ character_utf8 (head left)) (drop (written + size) into) (written + size) ends in
    let whole : length (head left) + length (rest left) ≡ length left =
    sym (length-append (head left) (rest left)) ∙ ap length (take-append-drop (character_length left) left) in
    record {
      room = fits;
      long = long;
      within = omega (arith, whole, so_far.within);
      units = omega (arith, so_far.units, ap length first, length-append (head left) (front (64 - (written + size)) (characters (rest left))));
      bytes = rw (begins, append_assoc, ← utf8-head left (64 - (written + size)) some, ← first) so_far.bytes;
      behind = same ∙ sym (drop-drop size written into) ∙ ap (drop size) so_far.behind ∙ drop-drop size written start;
    }

-- the same, where the character, its bytes and what is left are given by equations
pub next_of : (text start into left new character bytes after : List ℕ) (written taken : ℕ) → IsFilling text start into left written taken → 0 < length left → character ≡ head left → after ≡ rest left → bytes ≡ character_utf8 (head left) → length bytes ≤ 64 - written → new ≡ take written into ++ bytes ++ drop (written + length bytes) into → length new ≡ 64 → IsFilling text start new after (written + length bytes) (taken + length character)
next_of text start into left new character bytes after written taken so_far some e₁ e₂ e₃ fits e long =
    let room : written + length bytes ≤ 64 = omega (arith, so_far.room) in
    let room' : written + length (character_utf8 (head left)) ≤ 64 = rw e₃ at room in
    let e' : new ≡ take written into ++ character_utf8 (head left) ++ drop (written + length (character_utf8 (head left))) into = rw e₃ at e in
    rw (e₁, e₂, e₃) (next text start into left new written taken so_far some room' e' long)

-- at the end the piece is written
pub written_all : (text start into left : List ℕ) (written taken : ℕ) → IsFilling text start into left written taken → front (64 - written) (characters left) ≡ [] → (written ≡ length (utf8 (piece text))) × (taken ≡ length (piece text)) × (into ≡ utf8 (piece text) ++ drop written start)
written_all text start into left written taken all none =
    let front : take written into ≡ utf8 (piece text) =
    sym (append-nil (take written into)) ∙ ap (λ s. take written into ++ s) (sym (ap utf8 none ∙ utf8-none)) ∙ all.bytes in (
      sym (length-take-le written into (omega (arith, all.room, all.long))) ∙ ap length front,
      omega (arith, all.units, ap length none),
      sym (take-append-drop written into) ∙ ap (λ s. s ++ drop written into) front ∙ ap (λ s. utf8 (piece text) ++ s) all.behind,
    )
