-- Characters of UTF-8: the sequences of a text and the bytes that encode their characters.
use Rattle.std.proofs.Common.{◌≡◌, ℕ, zero, suc, ◌+◌, ◌*◌, ◌%◌, ◌<◌, ◌≤◌, ◌⊎◌, inl, inr, Bool, true, false, ◌&&◌, cond, nat_le, nat_lt, List, [], ◌∷◌, length, take, drop, Option, Some, None, refl, sym, ◌∙◌, ap, arith, map, get_or}
use Rattle.std.proofs.lemmas.List.{length-take-le}
use Rattle.std.proofs.lemmas.Bool.Decides.{nat_tests}
use Rattle.std.specs.Char.{InScalarRange}
use Rattle.js_value.specs.declared.text.utf8.ByteRange.{ByteRange}
use Rattle.js_value.specs.Text.{parts, sequences, following_in, begins_with, contains_byte, length_with, from_to, tail, sequence_length, scalar_value, encoded}
use Rattle.js_value.proofs.Parts.{parts-split}
use Rattle.js_value.proofs.Sequences.{sequence_length-some}
use Rattle.es_model.specs.Tokens.{characters_of, width, is_bad, first_bad}
use Rattle.js_lexer.specs.Left.{IsUtf8}

-- The width of a character.

pub width-1 : (c : ℕ) → c < 0x80 → width c ≡ 1
unfolding encoded
width-1 c h = let low : nat_lt c 0x80 ≡ true = grind (arith, nat_tests) in rw low refl

width-2 : (c : ℕ) → 0x80 ≤ c → c < 0x800 → width c ≡ 2
unfolding encoded
width-2 c l h =
    let a : nat_lt c 0x80 ≡ false = grind (arith, nat_tests) in
    let b : nat_lt c 0x800 ≡ true = grind (arith, nat_tests) in
    rw (a, b) refl

width-3 : (c : ℕ) → 0x800 ≤ c → c < 0x10000 → width c ≡ 3
unfolding encoded
width-3 c l h =
    let a : nat_lt c 0x80 ≡ false = grind (arith, nat_tests) in
    let b : nat_lt c 0x800 ≡ false = grind (arith, nat_tests) in
    let d : nat_lt c 0x10000 ≡ true = grind (arith, nat_tests) in
    rw (a, b, d) refl

width-4 : (c : ℕ) → 0x10000 ≤ c → width c ≡ 4
unfolding encoded
width-4 c l =
    let a : nat_lt c 0x80 ≡ false = grind (arith, nat_tests) in
    let b : nat_lt c 0x800 ≡ false = grind (arith, nat_tests) in
    let d : nat_lt c 0x10000 ≡ false = grind (arith, nat_tests) in
    rw (a, b, d) refl

-- What a sequence says of its character.
pub record IsCharacterOf (c size : ℕ) : Type 0 where
  pub scalar : InScalarRange c
  pub width : width c ≡ size

abbrev Fine : ℕ → List ℕ → Type 0
Fine size bytes = IsCharacterOf (scalar_value (take size bytes)) size

in_range : (low high x : ℕ) → (nat_le low x && nat_le x high) ≡ true → (low ≤ x) × (x ≤ high)
in_range low high x h = (grind (arith, nat_tests), grind (arith, nat_tests))

and_left : (a b : Bool) → (a && b) ≡ true → a ≡ true
and_left true b h = refl
and_left false b h = absurd (cc h)

and_right : (a b : Bool) → (a && b) ≡ true → b ≡ true
and_right true b h = h
and_right false b h = absurd (cc h)

two : (a : ℕ) (rest : List ℕ) → 0xC2 ≤ a → a ≤ 0xDF → begins_with (record { low = 0x80; high = 0xBF } ∷ []) rest ≡ true → Fine 2 (a ∷ rest)
two a [] l h b = absurd (cc b)
two a (x ∷ rest) l h b =
    let r = in_range 0x80 0xBF x (and_left _ _ b) in
    record { scalar = inl (omega arith); width = width-2 _ (omega arith) (omega arith) }

three : (a low high : ℕ) (rest : List ℕ) → 0xE0 ≤ a → a ≤ 0xEF → 0x80 ≤ low → high ≤ 0xBF → (0x800 ≤ a % 16 * 4096 + low % 64 * 64) → ((x : ℕ) → low ≤ x → x ≤ high → (a % 16 * 4096 + x % 64 * 64 + 63 < 0xD800) ⊎ (0xE000 ≤ a % 16 * 4096 + x % 64 * 64)) → begins_with (record { low = low; high = high } ∷ record { low = 0x80; high = 0xBF } ∷ []) rest ≡ true → Fine 3 (a ∷ rest)
three a low high [] l h m n s o b = absurd (cc b)
three a low high (x ∷ []) l h m n s o b = let none : false ≡ true = and_right _ _ b in absurd (cc none)
three a low high (x ∷ y ∷ rest) l h m n s o b =
    let r = in_range low high x (and_left _ _ b) in
    let q = in_range 0x80 0xBF y (and_left _ _ (and_right _ _ b)) in
    record {
      scalar = elim (o x r.0 r.1) [ inl below ↦ inl (omega arith) | inr above ↦ inr (omega arith, omega arith) ];
      width = width-3 _ (omega arith) (omega arith);
    }

four : (a low high : ℕ) (rest : List ℕ) → 0xF0 ≤ a → a ≤ 0xF4 → 0x80 ≤ low → high ≤ 0xBF → (0x10000 ≤ a % 8 * 262144 + low % 64 * 4096) → ((x : ℕ) → low ≤ x → x ≤ high → a % 8 * 262144 + x % 64 * 4096 + 4095 ≤ 0x10FFFF) → begins_with (record { low = low; high = high } ∷ record { low = 0x80; high = 0xBF } ∷ record { low = 0x80; high = 0xBF } ∷ []) rest ≡ true → Fine 4 (a ∷ rest)
four a low high [] l h m n s o b = absurd (cc b)
four a low high (x ∷ []) l h m n s o b = let none : false ≡ true = and_right _ _ b in absurd (cc none)
four a low high (x ∷ y ∷ []) l h m n s o b = let left = and_right _ _ b in let more : (contains_byte (record { low = 0x80; high = 0xBF }) y && false) ≡ true = left in let none : false ≡ true = and_right _ _ more in absurd (cc none)
four a low high (x ∷ y ∷ z ∷ rest) l h m n s o b =
    let r = in_range low high x (and_left _ _ b) in
    let q = in_range 0x80 0xBF y (and_left _ _ (and_right _ _ b)) in
    let p = in_range 0x80 0xBF z (and_left _ _ (and_right _ _ (and_right _ _ b))) in
    let most = o x r.0 r.1 in
    record { scalar = inr (omega arith, omega arith); width = width-4 _ (omega arith) }

-- The sequence that stands first in a text.

abbrev Stands : ℕ → List ℕ → ℕ → Type 0
Stands a rest size = is_bad (take size (a ∷ rest)) ≡ false → Fine size (a ∷ rest)

single : (a : ℕ) (rest : List ℕ) → Stands a rest 1
single a rest h =
    let low : a < 0x80 = grind (arith, nat_tests) in
    let test : nat_lt a 0x80 ≡ true = grind (arith, nat_tests) in
    let is : scalar_value (a ∷ []) ≡ a = ap (λ b. cond b a 0xFFFD) test in
    record { scalar = inl (rw is (omega arith)); width = rw is (width-1 a low) }

in_row : (a : ℕ) (rest : List ℕ) (ranges : List ByteRange) → (begins_with ranges rest ≡ true → Fine (suc (length ranges)) (a ∷ rest)) → Stands a rest (length_with (Some ranges) rest)
in_row a rest ranges whole = by_test (begins_with ranges rest) (λ b h. whole b) (λ b. single a rest)
  where
    by_test : (b : Bool) → (b ≡ true → Stands a rest (suc (length ranges))) → (b ≡ false → Stands a rest 1) → Stands a rest (cond b (suc (length ranges)) 1)
    by_test true one other = one refl
    by_test false one other = other refl

-- the rows from the one for the first bytes from `low` to `high` on
row : (low high a : ℕ) (rest : List ℕ) (ranges : List ByteRange) (rows : List (ByteRange × List ByteRange)) → (low ≤ a → a ≤ high → begins_with ranges rest ≡ true → Fine (suc (length ranges)) (a ∷ rest)) → Stands a rest (length_with (following_in rows a) rest) → Stands a rest (length_with (following_in ((from_to low high, ranges) ∷ rows) a) rest)
row low high a rest ranges rows whole later = by_test (nat_le low a && nat_le a high) refl
  where
    by_test : (t : Bool) → (nat_le low a && nat_le a high) ≡ t → Stands a rest (length_with (cond t (Some ranges) (following_in rows a)) rest)
    by_test true is = let r : (low ≤ a) × (a ≤ high) = in_range low high a is in in_row a rest ranges (whole r.0 r.1)
    by_test false is = later

row-8 : (a : ℕ) (rest : List ℕ) → Stands a rest (length_with (following_in (drop 8 sequences) a) rest)
row-8 a rest = row 0xF4 0xF4 a rest (from_to 0x80 0x8F ∷ tail ∷ tail ∷ []) (drop 9 sequences) (λ l h. four a 0x80 0x8F rest (omega arith) (omega arith) (omega arith) (omega arith) (omega arith) (λ x m n. omega arith)) (single a rest)

row-7 : (a : ℕ) (rest : List ℕ) → Stands a rest (length_with (following_in (drop 7 sequences) a) rest)
row-7 a rest = row 0xF1 0xF3 a rest (tail ∷ tail ∷ tail ∷ []) (drop 8 sequences) (λ l h. four a 0x80 0xBF rest (omega arith) (omega arith) (omega arith) (omega arith) (omega arith) (λ x m n. omega arith)) (row-8 a rest)

row-6 : (a : ℕ) (rest : List ℕ) → Stands a rest (length_with (following_in (drop 6 sequences) a) rest)
row-6 a rest = row 0xF0 0xF0 a rest (from_to 0x90 0xBF ∷ tail ∷ tail ∷ []) (drop 7 sequences) (λ l h. four a 0x90 0xBF rest (omega arith) (omega arith) (omega arith) (omega arith) (omega arith) (λ x m n. omega arith)) (row-7 a rest)

row-5 : (a : ℕ) (rest : List ℕ) → Stands a rest (length_with (following_in (drop 5 sequences) a) rest)
row-5 a rest = row 0xEE 0xEF a rest (tail ∷ tail ∷ []) (drop 6 sequences) (λ l h. three a 0x80 0xBF rest (omega arith) (omega arith) (omega arith) (omega arith) (omega arith) (λ x m n. inr (omega arith))) (row-6 a rest)

row-4 : (a : ℕ) (rest : List ℕ) → Stands a rest (length_with (following_in (drop 4 sequences) a) rest)
row-4 a rest = row 0xED 0xED a rest (from_to 0x80 0x9F ∷ tail ∷ []) (drop 5 sequences) (λ l h. three a 0x80 0x9F rest (omega arith) (omega arith) (omega arith) (omega arith) (omega arith) (λ x m n. inl (omega arith))) (row-5 a rest)

row-3 : (a : ℕ) (rest : List ℕ) → Stands a rest (length_with (following_in (drop 3 sequences) a) rest)
row-3 a rest = row 0xE1 0xEC a rest (tail ∷ tail ∷ []) (drop 4 sequences) (λ l h. three a 0x80 0xBF rest (omega arith) (omega arith) (omega arith) (omega arith) (omega arith) (λ x m n. inl (omega arith))) (row-4 a rest)

row-2 : (a : ℕ) (rest : List ℕ) → Stands a rest (length_with (following_in (drop 2 sequences) a) rest)
row-2 a rest = row 0xE0 0xE0 a rest (from_to 0xA0 0xBF ∷ tail ∷ []) (drop 3 sequences) (λ l h. three a 0xA0 0xBF rest (omega arith) (omega arith) (omega arith) (omega arith) (omega arith) (λ x m n. inl (omega arith))) (row-3 a rest)

row-1 : (a : ℕ) (rest : List ℕ) → Stands a rest (length_with (following_in (drop 1 sequences) a) rest)
row-1 a rest = row 0xC2 0xDF a rest (tail ∷ []) (drop 2 sequences) (λ l h. two a rest l h) (row-2 a rest)

pub sequence_character : (bytes : List ℕ) → 0 < length bytes → is_bad (take (sequence_length bytes) bytes) ≡ false → Fine (sequence_length bytes) bytes
unfolding sequence_length
sequence_character [] some h = absurd (omega arith)
sequence_character (a ∷ rest) some h = ascii (nat_le 0 a && nat_le a 0x7F) h
  where
    ascii : (t : Bool) → Stands a rest (length_with (cond t (Some []) (following_in (drop 1 sequences) a)) rest)
    ascii true = single a rest
    ascii false = row-1 a rest

-- A text, its first character taken off.

sequence_length-ascii : (x : ℕ) (after : List ℕ) → x < 128 → sequence_length (x ∷ after) ≡ 1
unfolding sequence_length
sequence_length-ascii x after h =
    let low : nat_le 0 x ≡ true = grind (arith, nat_tests) in
    let high : nat_le x 0x7F ≡ true = grind (arith, nat_tests) in
    ap (λ b. length_with (cond b (Some []) (following_in (drop 1 sequences) x)) after) (ap (λ v. v && nat_le x 0x7F) low ∙ high)

ascii_parts : (bytes : List ℕ) → 0 < length bytes → get_or bytes 0 0 < 0x80 → parts sequence_length bytes ≡ (get_or bytes 0 0 ∷ []) ∷ parts sequence_length (drop 1 bytes)
ascii_parts [] some h = absurd (omega arith)
ascii_parts (a ∷ rest) some h = parts-split sequence_length (a ∷ rest) 1 (omega arith) (omega arith) (sequence_length-ascii a rest h)

sequence_parts : (bytes : List ℕ) → 0 < length bytes → parts sequence_length bytes ≡ take (sequence_length bytes) bytes ∷ parts sequence_length (drop (sequence_length bytes) bytes)
sequence_parts bytes some = parts-split sequence_length bytes (sequence_length bytes) some (sequence_length-some bytes) refl

none_anywhere : (at other : ℕ) (parted : List (List ℕ)) → first_bad at parted ≡ None → first_bad other parted ≡ None
none_anywhere at other [] h = refl
none_anywhere at other (part ∷ parted) h = by_test (is_bad part) (none_anywhere (at + length part) (other + length part) parted) h
  where
    by_test : (b : Bool) → (first_bad (at + length part) parted ≡ None → first_bad (other + length part) parted ≡ None) → elim b as (λ _. Option ℕ) [ true ↦ Some at | false ↦ first_bad (at + length part) parted ] ≡ None → elim b as (λ _. Option ℕ) [ true ↦ Some other | false ↦ first_bad (other + length part) parted ] ≡ None
    by_test true later e = absurd (cc e)
    by_test false later e = later e

good_first : (part : List ℕ) (parted : List (List ℕ)) → first_bad 0 (part ∷ parted) ≡ None → (is_bad part ≡ false) × (first_bad 0 parted ≡ None)
good_first part parted h = by_test (is_bad part) refl h
  where
    by_test : (b : Bool) → is_bad part ≡ b → elim b as (λ _. Option ℕ) [ true ↦ Some 0 | false ↦ first_bad (0 + length part) parted ] ≡ None → (is_bad part ≡ false) × (first_bad 0 parted ≡ None)
    by_test true is e = absurd (cc e)
    by_test false is e = (is, none_anywhere (0 + length part) 0 parted e)

pub ascii_characters : (bytes : List ℕ) → 0 < length bytes → get_or bytes 0 0 < 0x80 → characters_of bytes ≡ get_or bytes 0 0 ∷ characters_of (drop 1 bytes)
ascii_characters bytes some h =
    let test : nat_lt (get_or bytes 0 0) 0x80 ≡ true = grind (arith, nat_tests) in
    ap (map scalar_value) (ascii_parts bytes some h)
    ∙ ap (λ b. cond b (get_or bytes 0 0) 0xFFFD ∷ characters_of (drop 1 bytes)) test

pub ascii_rest : (bytes : List ℕ) → 0 < length bytes → get_or bytes 0 0 < 0x80 → IsUtf8 bytes → IsUtf8 (drop 1 bytes)
ascii_rest bytes some h all = (good_first (get_or bytes 0 0 ∷ []) (parts sequence_length (drop 1 bytes)) (sym (ap (first_bad 0) (ascii_parts bytes some h)) ∙ all)).1

pub sequence_characters : (bytes : List ℕ) → 0 < length bytes → characters_of bytes ≡ scalar_value (take (sequence_length bytes) bytes) ∷ characters_of (drop (sequence_length bytes) bytes)
sequence_characters bytes some = ap (map scalar_value) (sequence_parts bytes some)

pub sequence_rest : (bytes : List ℕ) → 0 < length bytes → IsUtf8 bytes → IsUtf8 (drop (sequence_length bytes) bytes)
sequence_rest bytes some all = (good_first (take (sequence_length bytes) bytes) (parts sequence_length (drop (sequence_length bytes) bytes)) (sym (ap (first_bad 0) (sequence_parts bytes some)) ∙ all)).1

pub sequence_fine : (bytes : List ℕ) → 0 < length bytes → IsUtf8 bytes → IsCharacterOf (scalar_value (take (sequence_length bytes) bytes)) (sequence_length bytes)
sequence_fine bytes some all =
    sequence_character bytes some (good_first (take (sequence_length bytes) bytes) (parts sequence_length (drop (sequence_length bytes) bytes)) (sym (ap (first_bad 0) (sequence_parts bytes some)) ∙ all)).0

-- The first byte that belongs to no sequence.

pub first_bad-ascii : (at : ℕ) (bytes : List ℕ) → 0 < length bytes → get_or bytes 0 0 < 0x80 → first_bad at (parts sequence_length bytes) ≡ first_bad (at + 1) (parts sequence_length (drop 1 bytes))
first_bad-ascii at bytes some h =
    let test : nat_le 0x80 (get_or bytes 0 0) ≡ false = grind (arith, nat_tests) in
    ap (first_bad at) (ascii_parts bytes some h)
    ∙ ap (λ b. elim b as (λ _. Option ℕ) [ true ↦ Some at | false ↦ first_bad (at + 1) (parts sequence_length (drop 1 bytes)) ]) test

pub first_bad-here : (at : ℕ) (bytes : List ℕ) → 0 < length bytes → 0x80 ≤ get_or bytes 0 0 → sequence_length bytes ≡ 1 → first_bad at (parts sequence_length bytes) ≡ Some at
first_bad-here at [] some h one = absurd (omega arith)
first_bad-here at (a ∷ rest) some h one =
    let test : nat_le 0x80 a ≡ true = grind (arith, nat_tests) in
    ap (first_bad at) (parts-split sequence_length (a ∷ rest) 1 (omega arith) (omega arith) one)
    ∙ ap (λ b. elim b as (λ _. Option ℕ) [ true ↦ Some at | false ↦ first_bad (at + 1) (parts sequence_length rest) ]) test

longer_is_good : (n : ℕ) (bytes : List ℕ) → 1 < n → n ≤ length bytes → is_bad (take n bytes) ≡ false
longer_is_good n [] l h = absurd (omega arith)
longer_is_good n (a ∷ []) l h = absurd (omega arith)
longer_is_good zero (a ∷ b ∷ rest) l h = absurd (omega arith)
longer_is_good (suc zero) (a ∷ b ∷ rest) l h = absurd (omega arith)
longer_is_good (suc (suc n)) (a ∷ b ∷ rest) l h = refl

pub first_bad-sequence : (at n : ℕ) (bytes : List ℕ) → sequence_length bytes ≡ n → 1 < n → n ≤ length bytes → first_bad at (parts sequence_length bytes) ≡ first_bad (at + n) (parts sequence_length (drop n bytes))
first_bad-sequence at n bytes is l h =
    ap (first_bad at) (parts-split sequence_length bytes n (omega arith) (omega arith) is)
    ∙ ap (λ b. elim b as (λ _. Option ℕ) [ true ↦ Some at | false ↦ first_bad (at + length (take n bytes)) (parts sequence_length (drop n bytes)) ]) (longer_is_good n bytes l h)
    ∙ ap (λ m. first_bad (at + m) (parts sequence_length (drop n bytes))) (length-take-le n bytes h)
