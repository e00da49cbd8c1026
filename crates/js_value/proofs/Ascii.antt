-- Texts of ASCII codes, which read and write as themselves.
use Rattle.std.proofs.Common.{◌≡◌, ℕ, suc, ◌<◌, ◌≤◌, Bool, true, false, ◌&&◌, ◌||◌, cond, nat_le, nat_lt, List, [], ◌∷◌, ◌++◌, length, take, drop, Option, Some, refl, sym, ◌∙◌, ap, arith, append_assoc, length-append}
use Rattle.std.specs.List.{All, list_all}
use Rattle.std.proofs.lemmas.List.{take-append-le, drop-append-le, append-nil}
use Rattle.std.proofs.lemmas.List.Elements.{All-head, All-tail}
use Rattle.std.proofs.lemmas.Bool.{true≢false}
use Rattle.std.proofs.lemmas.Bool.Decides.{nat_tests}
use Rattle.js_value.specs.declared.text.utf8.ByteRange.{ByteRange}
use Rattle.js_value.specs.Text.{sequences, following_in, begins_with, contains_byte, length_with, sequence_length, utf16, units, character_length, encoded, utf8, character_utf8, is_leading_surrogate, is_trailing_surrogate}
use Rattle.js_value.proofs.Parts.{by_parts}
use Rattle.js_value.proofs.Sequences.{units-split, sequence_length-some, sequence_length-within, and_false}
use Rattle.js_value.proofs.Pieces.{rest, utf8-split, utf8-none, character_length-some, character_length-within}

-- an ASCII code is a sequence of its own, whatever comes after it
sequence_length-ascii : (x : ℕ) (after : List ℕ) → x < 128 → sequence_length (x ∷ after) ≡ 1
unfolding sequence_length
sequence_length-ascii x after h =
    let low : nat_le 0 x ≡ true = grind (arith, nat_tests) in
    let high : nat_le x 0x7F ≡ true = grind (arith, nat_tests) in
    ap (λ b. length_with (cond b (Some []) (following_in (drop 1 sequences) x)) after) (ap (λ v. v && nat_le x 0x7F) low ∙ high)

-- a unit that is a code point alone
pub utf16-single : (x : ℕ) → x < 0x10000 → utf16 x ≡ x ∷ []
utf16-single x h = let small : nat_lt x 0x10000 ≡ true = grind (arith, nat_tests) in rw small refl

pub encoded-ascii : (x : ℕ) → x < 128 → encoded x ≡ x ∷ []
unfolding encoded
encoded-ascii x h = let low : nat_lt x 0x80 ≡ true = grind (arith, nat_tests) in rw low refl

pub units-ascii_cons : (x : ℕ) (after : List ℕ) → x < 128 → units (x ∷ after) ≡ x ∷ units after
units-ascii_cons x after h =
    let low : nat_lt x 0x80 ≡ true = grind (arith, nat_tests) in
    units-split (x ∷ after) 1 (omega arith) (sequence_length-ascii x after h)
    ∙ ap (λ v. utf16 v ++ units after) (ap (λ b. cond b x 0xFFFD) low)
    ∙ ap (λ s. s ++ units after) (utf16-single x (omega arith))

not_leading : (x : ℕ) → x < 128 → is_leading_surrogate x ≡ false
not_leading x h =
    let low : nat_le 0xD800 x ≡ false = grind (arith, nat_tests) in
    ap (λ v. v && nat_le x 0xDBFF) low

not_trailing : (x : ℕ) → x < 128 → is_trailing_surrogate x ≡ false
not_trailing x h =
    let low : nat_le 0xDC00 x ≡ false = grind (arith, nat_tests) in
    ap (λ v. v && nat_le x 0xDFFF) low

character_length-ascii : (x : ℕ) (after : List ℕ) → x < 128 → character_length (x ∷ after) ≡ 1
unfolding character_length
character_length-ascii x [] h = refl
character_length-ascii x (y ∷ after) h = ap (λ v. cond (v && is_trailing_surrogate y) 2 1) (not_leading x h)

character_utf8-ascii : (x : ℕ) → x < 128 → character_utf8 (x ∷ []) ≡ x ∷ []
character_utf8-ascii x h =
    ap encoded (ap (λ v. cond (v || is_trailing_surrogate x) 0xFFFD x) (not_leading x h) ∙ ap (λ v. cond v 0xFFFD x) (not_trailing x h))
    ∙ encoded-ascii x h

pub utf8-ascii_cons : (x : ℕ) (after : List ℕ) → x < 128 → utf8 (x ∷ after) ≡ x ∷ utf8 after
utf8-ascii_cons x after h =
    utf8-split (x ∷ after) (omega arith)
    ∙ ap (λ n. character_utf8 (take n (x ∷ after)) ++ utf8 (drop n (x ∷ after))) (character_length-ascii x after h)
    ∙ ap (λ s. s ++ utf8 after) (character_utf8-ascii x h)

-- in front of other bytes
pub units-append_ascii : (ascii bytes : List ℕ) → All (λ x. x < 128) ascii → units (ascii ++ bytes) ≡ ascii ++ units bytes
units-append_ascii [] bytes h = refl
units-append_ascii (x ∷ ascii) bytes h =
    units-ascii_cons x (ascii ++ bytes) (All-head (λ x. x < 128) x ascii h) ∙ ap (λ s. x ∷ s) (units-append_ascii ascii bytes (All-tail (λ x. x < 128) x ascii h))

pub utf8-append_ascii : (ascii text : List ℕ) → All (λ x. x < 128) ascii → utf8 (ascii ++ text) ≡ ascii ++ utf8 text
utf8-append_ascii [] text h = refl
utf8-append_ascii (x ∷ ascii) text h =
    utf8-ascii_cons x (ascii ++ text) (All-head (λ x. x < 128) x ascii h) ∙ ap (λ s. x ∷ s) (utf8-append_ascii ascii text (All-tail (λ x. x < 128) x ascii h))

pub units-none : units [] ≡ []
unfolding units
units-none = refl

-- alone
pub units-ascii : (ascii : List ℕ) → All (λ x. x < 128) ascii → units ascii ≡ ascii
units-ascii ascii h =
    ap units (sym (append-nil ascii)) ∙ units-append_ascii ascii [] h ∙ ap (λ s. ascii ++ s) units-none ∙ append-nil ascii

pub utf8-ascii : (ascii : List ℕ) → All (λ x. x < 128) ascii → utf8 ascii ≡ ascii
utf8-ascii ascii h =
    ap utf8 (sym (append-nil ascii)) ∙ utf8-append_ascii ascii [] h ∙ ap (λ s. ascii ++ s) utf8-none ∙ append-nil ascii

-- behind other bytes: an ASCII code goes on no sequence

abbrev are_high : List ByteRange → Bool
are_high ranges = list_all (λ range. nat_le 128 range.low) ranges

begins_with-append : (ranges : List ByteRange) (bytes : List ℕ) (x : ℕ) (after : List ℕ) → x < 128 → are_high ranges ≡ true → begins_with ranges (bytes ++ x ∷ after) ≡ begins_with ranges bytes
begins_with-append [] bytes x after h high = refl
begins_with-append (range ∷ ranges) [] x after h high =
    let above : nat_le 128 range.low ≡ true = grind (arith, nat_tests) in
    let low : nat_le range.low x ≡ false = grind (arith, nat_tests) in
    ap (λ v. (v && nat_le x range.high) && begins_with ranges after) low
begins_with-append (range ∷ ranges) (byte ∷ bytes) x after h high =
    let others : are_high ranges ≡ true = grind (arith, nat_tests) in
    ap (λ v. contains_byte range byte && v) (begins_with-append ranges bytes x after h others)

pub and_left : (a b : Bool) → (a && b) ≡ true → a ≡ true
and_left true b h = refl
and_left false b h = h

pub and_right : (a b : Bool) → (a && b) ≡ true → b ≡ true
and_right true b h = h
and_right false b h = absurd (true≢false (sym h))

following-append_row : (found : Bool) (ranges : List ByteRange) (others : Option (List ByteRange)) (bytes : List ℕ) (x : ℕ) (after : List ℕ) → x < 128 → are_high ranges ≡ true → length_with others (bytes ++ x ∷ after) ≡ length_with others bytes → length_with (cond found (Some ranges) others) (bytes ++ x ∷ after) ≡ length_with (cond found (Some ranges) others) bytes
following-append_row true ranges others bytes x after h high same =
    ap (λ v. cond v (suc (length ranges)) 1) (begins_with-append ranges bytes x after h high)
following-append_row false ranges others bytes x after h high same = same

following-append : (rows : List (ByteRange × List ByteRange)) (first : ℕ) (bytes : List ℕ) (x : ℕ) (after : List ℕ) → x < 128 → list_all (λ row. are_high row.1) rows ≡ true → length_with (following_in rows first) (bytes ++ x ∷ after) ≡ length_with (following_in rows first) bytes
following-append [] first bytes x after h high = refl
following-append (row ∷ rows) first bytes x after h high =
    following-append_row (contains_byte row.0 first) row.1 (following_in rows first) bytes x after h (and_left (are_high row.1) _ high) (following-append rows first bytes x after h (and_right (are_high row.1) _ high))

sequence_length-append : (bytes : List ℕ) (x : ℕ) (after : List ℕ) → 0 < length bytes → x < 128 → sequence_length (bytes ++ x ∷ after) ≡ sequence_length bytes
unfolding sequence_length
sequence_length-append [] x after some h = absurd (omega arith)
sequence_length-append (first ∷ bytes) x after some h = following-append sequences first bytes x after h refl

units-append_step : (x : ℕ) (after : List ℕ) → x < 128 → (bytes : List ℕ) → 0 < length bytes → units (drop (sequence_length bytes) bytes ++ x ∷ after) ≡ units (drop (sequence_length bytes) bytes) ++ units (x ∷ after) → units (bytes ++ x ∷ after) ≡ units bytes ++ units (x ∷ after)
units-append_step x after h bytes some shorter =
    let n : ℕ = sequence_length bytes in
    let within : n ≤ length bytes = sequence_length-within bytes some in
    let longer : 0 < length (bytes ++ x ∷ after) = omega (arith, length-append bytes (x ∷ after)) in
    units-split (bytes ++ x ∷ after) n longer (sequence_length-append bytes x after some h)
    ∙ rw (take-append-le n bytes (x ∷ after) within, drop-append-le n bytes (x ∷ after) within, shorter, units-split bytes n some refl, append_assoc) refl

-- an ASCII code and what comes after it are read by themselves
pub units-append : (bytes : List ℕ) (x : ℕ) (after : List ℕ) → x < 128 → units (bytes ++ x ∷ after) ≡ units bytes ++ units (x ∷ after)
units-append bytes x after h =
    by_parts sequence_length
    (λ s. units (s ++ x ∷ after) ≡ units s ++ units (x ∷ after))
    (rw units-none refl)
    (units-append_step x after h)
    sequence_length-some
    bytes

character_length-append : (text : List ℕ) (x : ℕ) (after : List ℕ) → 0 < length text → x < 128 → character_length (text ++ x ∷ after) ≡ character_length text
unfolding character_length
character_length-append [] x after some h = absurd (omega arith)
character_length-append (a ∷ []) x after some h =
    ap (λ v. cond (is_leading_surrogate a && v) 2 1) (not_trailing x h) ∙ ap (λ v. cond v 2 1) (and_false (is_leading_surrogate a))
character_length-append (a ∷ b ∷ text) x after some h = refl

utf8-append_step : (x : ℕ) (after : List ℕ) → x < 128 → (text : List ℕ) → 0 < length text → utf8 (rest text ++ x ∷ after) ≡ utf8 (rest text) ++ utf8 (x ∷ after) → utf8 (text ++ x ∷ after) ≡ utf8 text ++ utf8 (x ∷ after)
utf8-append_step x after h text some shorter =
    let n : ℕ = character_length text in
    let within : n ≤ length text = character_length-within text some in
    let longer : 0 < length (text ++ x ∷ after) = omega (arith, length-append text (x ∷ after)) in
    utf8-split (text ++ x ∷ after) longer
    ∙ rw (character_length-append text x after some h, take-append-le n text (x ∷ after) within, drop-append-le n text (x ∷ after) within, shorter, utf8-split text some, append_assoc) refl

-- an ASCII code and what comes after it are written by themselves
pub utf8-append : (text : List ℕ) (x : ℕ) (after : List ℕ) → x < 128 → utf8 (text ++ x ∷ after) ≡ utf8 text ++ utf8 (x ∷ after)
utf8-append text x after h =
    by_parts character_length
    (λ t. utf8 (t ++ x ∷ after) ≡ utf8 t ++ utf8 (x ∷ after))
    (rw utf8-none refl)
    (utf8-append_step x after h)
    character_length-some
    text
