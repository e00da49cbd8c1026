-- What is written is read back.
use Rattle.std.proofs.Common.{◌≡◌, ℕ, ◌+◌, ◌-◌, ◌*◌, ◌/◌, ◌%◌, ◌<◌, ◌≤◌, Bool, true, false, ◌&&◌, ◌||◌, cond, nat_le, nat_lt, List, [], ◌∷◌, ◌++◌, length, take, drop, Some, refl, sym, ◌∙◌, ap, arith, ⊎_elim}
use Rattle.std.specs.List.{All}
use Rattle.std.proofs.lemmas.List.{take-append-drop}
use Rattle.std.proofs.lemmas.List.Elements.{All-head, All-tail, All-same, All-drop}
use Rattle.std.proofs.lemmas.Bool.{cases_lt, cond-true, cond-false}
use Rattle.std.proofs.lemmas.Bool.Decides.{nat_tests}
use Rattle.js_value.specs.declared.text.utf8.ByteRange.{ByteRange}
use Rattle.js_value.specs.Text.{sequences, from_to, tail, following_in, contains_byte, sequence_length, utf16, units, character_length, characters, code_point, encoded, utf8, character_utf8, is_leading_surrogate, is_trailing_surrogate, is_lone_surrogate, IsWellFormed}
use Rattle.js_value.proofs.Parts.{by_parts}
use Rattle.js_value.proofs.Sequences.{units-split, and_false}
use Rattle.js_value.proofs.Ascii.{units-ascii_cons, utf16-single, encoded-ascii, units-none}
use Rattle.js_value.proofs.Pieces.{head, rest, utf8-split, utf8-none, character_length-some, characters-split}

-- The rows of the table.

contains : (low high x : ℕ) → low ≤ x → x ≤ high → contains_byte (from_to low high) x ≡ true
contains low high x above below =
    let first : nat_le low x ≡ true = grind (arith, nat_tests) in
    let second : nat_le x high ≡ true = grind (arith, nat_tests) in
    ap (λ v. v && nat_le x high) first ∙ second

skip : (low high : ℕ) (ranges : List ByteRange) (rows : List (ByteRange × List ByteRange)) (x : ℕ) → high < x → following_in ((from_to low high, ranges) ∷ rows) x ≡ following_in rows x
skip low high ranges rows x past =
    let second : nat_le x high ≡ false = grind (arith, nat_tests) in
    let out : contains_byte (from_to low high) x ≡ false = ap (λ v. nat_le low x && v) second ∙ and_false (nat_le low x) in
    cond-false (contains_byte (from_to low high) x) (Some ranges) (following_in rows x) out

found : (low high : ℕ) (ranges : List ByteRange) (rows : List (ByteRange × List ByteRange)) (x : ℕ) → low ≤ x → x ≤ high → following_in ((from_to low high, ranges) ∷ rows) x ≡ Some ranges
found low high ranges rows x above below =
    cond-true (contains_byte (from_to low high) x) (Some ranges) (following_in rows x) (contains low high x above below)

past_7F : (x : ℕ) → 0x7F < x → following_in sequences x ≡ following_in (drop 1 sequences) x
past_7F x h = skip 0x00 0x7F [] (drop 1 sequences) x h

past_DF : (x : ℕ) → 0xDF < x → following_in sequences x ≡ following_in (drop 2 sequences) x
past_DF x h = past_7F x (omega arith) ∙ skip 0xC2 0xDF (tail ∷ []) (drop 2 sequences) x h

past_E0 : (x : ℕ) → 0xE0 < x → following_in sequences x ≡ following_in (drop 3 sequences) x
past_E0 x h = past_DF x (omega arith) ∙ skip 0xE0 0xE0 (from_to 0xA0 0xBF ∷ tail ∷ []) (drop 3 sequences) x h

past_EC : (x : ℕ) → 0xEC < x → following_in sequences x ≡ following_in (drop 4 sequences) x
past_EC x h = past_E0 x (omega arith) ∙ skip 0xE1 0xEC (tail ∷ tail ∷ []) (drop 4 sequences) x h

past_ED : (x : ℕ) → 0xED < x → following_in sequences x ≡ following_in (drop 5 sequences) x
past_ED x h = past_EC x (omega arith) ∙ skip 0xED 0xED (from_to 0x80 0x9F ∷ tail ∷ []) (drop 5 sequences) x h

past_EF : (x : ℕ) → 0xEF < x → following_in sequences x ≡ following_in (drop 6 sequences) x
past_EF x h = past_ED x (omega arith) ∙ skip 0xEE 0xEF (tail ∷ tail ∷ []) (drop 6 sequences) x h

past_F0 : (x : ℕ) → 0xF0 < x → following_in sequences x ≡ following_in (drop 7 sequences) x
past_F0 x h = past_EF x (omega arith) ∙ skip 0xF0 0xF0 (from_to 0x90 0xBF ∷ tail ∷ tail ∷ []) (drop 7 sequences) x h

past_F3 : (x : ℕ) → 0xF3 < x → following_in sequences x ≡ following_in (drop 8 sequences) x
past_F3 x h = past_F0 x (omega arith) ∙ skip 0xF1 0xF3 (tail ∷ tail ∷ tail ∷ []) (drop 8 sequences) x h

-- The length of a sequence, by the ranges of its row.

two_long : (ranges : ByteRange) (x y : ℕ) (after : List ℕ) → following_in sequences x ≡ Some (ranges ∷ []) → contains_byte ranges y ≡ true → sequence_length (x ∷ y ∷ after) ≡ 2
unfolding sequence_length
two_long r x y after row second = rw (row, second) refl

three_long : (r : ByteRange) (x y z : ℕ) (after : List ℕ) → following_in sequences x ≡ Some (r ∷ tail ∷ []) → contains_byte r y ≡ true → contains_byte tail z ≡ true → sequence_length (x ∷ y ∷ z ∷ after) ≡ 3
unfolding sequence_length
three_long r x y z after row second third = rw (row, second, third) refl

four_long : (r : ByteRange) (x y z w : ℕ) (after : List ℕ) → following_in sequences x ≡ Some (r ∷ tail ∷ tail ∷ []) → contains_byte r y ≡ true → contains_byte tail z ≡ true → contains_byte tail w ≡ true → sequence_length (x ∷ y ∷ z ∷ w ∷ after) ≡ 4
unfolding sequence_length
four_long r x y z w after row second third fourth = rw (row, second, third, fourth) refl

-- the row of a first byte, by the low bits of the first two bytes
three_row : (p q : ℕ) → p < 16 → q < 64 → (p ≡ 0 → 0x20 ≤ q) → (p ≡ 13 → q < 0x20) → (r : ByteRange) × ((following_in sequences (0xE0 + p) ≡ Some (r ∷ tail ∷ [])) × (contains_byte r (0x80 + q) ≡ true))
three_row p q low small first surrogates =
    ⊎_elim
    (λ (h : p < 1). (from_to 0xA0 0xBF, (past_DF (0xE0 + p) (omega arith) ∙ found 0xE0 0xE0 (from_to 0xA0 0xBF ∷ tail ∷ []) (drop 3 sequences) (0xE0 + p) (omega arith) (omega arith), contains 0xA0 0xBF (0x80 + q) (let f : 0x20 ≤ q = first (omega arith) in omega arith) (omega arith))))
    (λ (h : 1 ≤ p). ⊎_elim
    (λ (g : p < 13). (tail, (past_E0 (0xE0 + p) (omega arith) ∙ found 0xE1 0xEC (tail ∷ tail ∷ []) (drop 4 sequences) (0xE0 + p) (omega arith) (omega arith), contains 0x80 0xBF (0x80 + q) (omega arith) (omega arith))))
    (λ (g : 13 ≤ p). ⊎_elim
    (λ (f : p < 14). (from_to 0x80 0x9F, (past_EC (0xE0 + p) (omega arith) ∙ found 0xED 0xED (from_to 0x80 0x9F ∷ tail ∷ []) (drop 5 sequences) (0xE0 + p) (omega arith) (omega arith), contains 0x80 0x9F (0x80 + q) (omega arith) (let s : q < 0x20 = surrogates (omega arith) in omega arith))))
    (λ (f : 14 ≤ p). (tail, (past_ED (0xE0 + p) (omega arith) ∙ found 0xEE 0xEF (tail ∷ tail ∷ []) (drop 6 sequences) (0xE0 + p) (omega arith) (omega arith), contains 0x80 0xBF (0x80 + q) (omega arith) (omega arith))))
    (cases_lt p 14))
    (cases_lt p 13))
    (cases_lt p 1)

four_row : (p q : ℕ) → p < 5 → q < 64 → (p ≡ 0 → 0x10 ≤ q) → (p ≡ 4 → q < 0x10) → (r : ByteRange) × ((following_in sequences (0xF0 + p) ≡ Some (r ∷ tail ∷ tail ∷ [])) × (contains_byte r (0x80 + q) ≡ true))
four_row p q low small first last =
    ⊎_elim
    (λ (h : p < 1). (from_to 0x90 0xBF, (past_EF (0xF0 + p) (omega arith) ∙ found 0xF0 0xF0 (from_to 0x90 0xBF ∷ tail ∷ tail ∷ []) (drop 7 sequences) (0xF0 + p) (omega arith) (omega arith), contains 0x90 0xBF (0x80 + q) (let f : 0x10 ≤ q = first (omega arith) in omega arith) (omega arith))))
    (λ (h : 1 ≤ p). ⊎_elim
    (λ (g : p < 4). (tail, (past_F0 (0xF0 + p) (omega arith) ∙ found 0xF1 0xF3 (tail ∷ tail ∷ tail ∷ []) (drop 8 sequences) (0xF0 + p) (omega arith) (omega arith), contains 0x80 0xBF (0x80 + q) (omega arith) (omega arith))))
    (λ (g : 4 ≤ p). (from_to 0x80 0x8F, (past_F3 (0xF0 + p) (omega arith) ∙ found 0xF4 0xF4 (from_to 0x80 0x8F ∷ tail ∷ tail ∷ []) (drop 9 sequences) (0xF0 + p) (omega arith) (omega arith), contains 0x80 0x8F (0x80 + q) (omega arith) (let f : q < 0x10 = last (omega arith) in omega arith))))
    (cases_lt p 4))
    (cases_lt p 1)

-- The forms of a code point, by its size.

encoded-two : (v : ℕ) → 0x80 ≤ v → v < 0x800 → encoded v ≡ (0xC0 + v / 64) ∷ (0x80 + v % 64) ∷ []
unfolding encoded
encoded-two v low high =
    let a : nat_lt v 0x80 ≡ false = grind (arith, nat_tests) in
    let b : nat_lt v 0x800 ≡ true = grind (arith, nat_tests) in rw (a, b) refl

encoded-three : (v : ℕ) → 0x800 ≤ v → v < 0x10000 → encoded v ≡ (0xE0 + v / 4096) ∷ (0x80 + v / 64 % 64) ∷ (0x80 + v % 64) ∷ []
unfolding encoded
encoded-three v low high =
    let a : nat_lt v 0x80 ≡ false = grind (arith, nat_tests) in
    let b : nat_lt v 0x800 ≡ false = grind (arith, nat_tests) in
    let c : nat_lt v 0x10000 ≡ true = grind (arith, nat_tests) in rw (a, b, c) refl

encoded-four : (v : ℕ) → 0x10000 ≤ v → encoded v ≡ (0xF0 + v / 262144) ∷ (0x80 + v / 4096 % 64) ∷ (0x80 + v / 64 % 64) ∷ (0x80 + v % 64) ∷ []
unfolding encoded
encoded-four v low =
    let a : nat_lt v 0x80 ≡ false = grind (arith, nat_tests) in
    let b : nat_lt v 0x800 ≡ false = grind (arith, nat_tests) in
    let c : nat_lt v 0x10000 ≡ false = grind (arith, nat_tests) in rw (a, b, c) refl

reads-two : (v : ℕ) (after : List ℕ) → 0x80 ≤ v → v < 0x800 → units (encoded v ++ after) ≡ utf16 v ++ units after
reads-two v after low high =
    let x : ℕ = 0xC0 + v / 64 in
    let y : ℕ = 0x80 + v % 64 in
    let row : following_in sequences x ≡ Some (tail ∷ []) = past_7F x (omega arith) ∙ found 0xC2 0xDF (tail ∷ []) (drop 2 sequences) x (omega arith) (omega arith) in
    let value : x % 32 * 64 + y % 64 ≡ v = omega arith in
    rw (encoded-two v low high) (units-split (x ∷ y ∷ after) 2 (omega arith) (two_long tail x y after row (contains 0x80 0xBF y (omega arith) (omega arith))) ∙ ap (λ c. utf16 c ++ units after) value)

three_value : (v : ℕ) → v < 0x10000 → ((0xE0 + v / 4096) % 16 * 64 + (0x80 + v / 64 % 64) % 64) * 64 + (0x80 + v % 64) % 64 ≡ v
three_value v high = omega arith

-- no surrogate in the row of 0xED
three_scalar : (v : ℕ) → (0xD800 ≤ v → 0xDFFF < v) → v / 4096 ≡ 13 → v / 64 % 64 < 0x20
three_scalar v scalar h =
    ⊎_elim
    (λ (below : v < 0xD800). omega arith)
    (λ (above : 0xD800 ≤ v). let past : 0xDFFF < v = scalar above in omega arith)
    (cases_lt v 0xD800)

reads-three : (v : ℕ) (after : List ℕ) → 0x800 ≤ v → v < 0x10000 → (0xD800 ≤ v → 0xDFFF < v) → units (encoded v ++ after) ≡ utf16 v ++ units after
reads-three v after low high scalar =
    let row : (r : ByteRange) × ((following_in sequences (0xE0 + v / 4096) ≡ Some (r ∷ tail ∷ [])) × (contains_byte r (0x80 + v / 64 % 64) ≡ true)) =
    three_row (v / 4096) (v / 64 % 64) (omega arith) (omega arith) (λ h. omega arith) (three_scalar v scalar) in
    rw (encoded-three v low high)
    (units-split _ 3 (omega arith) (three_long row.0 (0xE0 + v / 4096) (0x80 + v / 64 % 64) (0x80 + v % 64) after row.1.0 row.1.1 (contains 0x80 0xBF (0x80 + v % 64) (omega arith) (omega arith))) ∙ ap (λ c. utf16 c ++ units after) (three_value v high))

four_value : (v : ℕ) → v < 0x110000 → (((0xF0 + v / 262144) % 8 * 64 + (0x80 + v / 4096 % 64) % 64) * 64 + (0x80 + v / 64 % 64) % 64) * 64 + (0x80 + v % 64) % 64 ≡ v
four_value v high = omega arith

reads-four : (v : ℕ) (after : List ℕ) → 0x10000 ≤ v → v < 0x110000 → units (encoded v ++ after) ≡ utf16 v ++ units after
reads-four v after low high =
    let row : (r : ByteRange) × ((following_in sequences (0xF0 + v / 262144) ≡ Some (r ∷ tail ∷ tail ∷ [])) × (contains_byte r (0x80 + v / 4096 % 64) ≡ true)) =
    four_row (v / 262144) (v / 4096 % 64) (omega arith) (omega arith) (λ h. omega arith) (λ h. omega arith) in
    rw (encoded-four v low)
    (units-split _ 4 (omega arith) (four_long row.0 (0xF0 + v / 262144) (0x80 + v / 4096 % 64) (0x80 + v / 64 % 64) (0x80 + v % 64) after row.1.0 row.1.1 (contains 0x80 0xBF (0x80 + v / 64 % 64) (omega arith) (omega arith)) (contains 0x80 0xBF (0x80 + v % 64) (omega arith) (omega arith))) ∙ ap (λ c. utf16 c ++ units after) (four_value v high))

-- a scalar value is read back, whatever comes after it
pub units-encoded : (v : ℕ) (after : List ℕ) → v < 0x110000 → (0xD800 ≤ v → 0xDFFF < v) → units (encoded v ++ after) ≡ utf16 v ++ units after
units-encoded v after high scalar =
    ⊎_elim
    (λ (h : v < 0x80). rw (encoded-ascii v h, utf16-single v (omega arith)) (units-ascii_cons v after h))
    (λ (h : 0x80 ≤ v). ⊎_elim
    (λ (g : v < 0x800). reads-two v after h g)
    (λ (g : 0x800 ≤ v). ⊎_elim
    (λ (f : v < 0x10000). reads-three v after g f scalar)
    (λ (f : 0x10000 ≤ v). reads-four v after f high)
    (cases_lt v 0x10000))
    (cases_lt v 0x800))
    (cases_lt v 0x80)

-- Characters.

-- what a character is: a unit, or a leading and a trailing surrogate
one_unit : (a : ℕ) (after : List ℕ) → a < 0x10000 → is_lone_surrogate (a ∷ []) ≡ false → units (character_utf8 (a ∷ []) ++ after) ≡ a ∷ units after
one_unit a after fits whole =
    let same : code_point (a ∷ []) ≡ a = cond-false (is_leading_surrogate a || is_trailing_surrogate a) 0xFFFD a whole in
    let scalar : 0xD800 ≤ a → 0xDFFF < a = λ low. grind (arith, nat_tests) in
    rw same (units-encoded a after (omega arith) scalar ∙ ap (λ s. s ++ units after) (utf16-single a fits))

pair_value : (a b : ℕ) → 0xD800 ≤ a → a ≤ 0xDBFF → 0xDC00 ≤ b → b ≤ 0xDFFF → utf16 ((a - 0xD800) * 0x400 + (b - 0xDC00) + 0x10000) ≡ a ∷ b ∷ []
pair_value a b a_low a_high b_low b_high =
    let v : ℕ = (a - 0xD800) * 0x400 + (b - 0xDC00) + 0x10000 in
    let test : nat_lt v 0x10000 ≡ false = grind (arith, nat_tests) in
    let first : 0xD800 + (v - 0x10000) / 0x400 ≡ a = omega arith in
    let second : 0xDC00 + (v - 0x10000) % 0x400 ≡ b = omega arith in
    rw (test, first, second) refl

two_units : (a b : ℕ) (after : List ℕ) → (is_leading_surrogate a && is_trailing_surrogate b) ≡ true → units (character_utf8 (a ∷ b ∷ []) ++ after) ≡ a ∷ b ∷ units after
two_units a b after pair =
    let a_low : 0xD800 ≤ a = grind (arith, nat_tests) in
    let a_high : a ≤ 0xDBFF = grind (arith, nat_tests) in
    let b_low : 0xDC00 ≤ b = grind (arith, nat_tests) in
    let b_high : b ≤ 0xDFFF = grind (arith, nat_tests) in
    let v : ℕ = (a - 0xD800) * 0x400 + (b - 0xDC00) + 0x10000 in
    let same : code_point (a ∷ b ∷ []) ≡ v = cond-true (is_leading_surrogate a && is_trailing_surrogate b) v 0xFFFD pair in
    let scalar : 0xD800 ≤ v → 0xDFFF < v = λ low. omega arith in
    rw same (units-encoded v after (omega arith) scalar ∙ ap (λ s. s ++ units after) (pair_value a b a_low a_high b_low b_high))

-- a character of two or one, by the test for a pair
either_back : (pair : Bool) (a b : ℕ) (text after : List ℕ) → (is_leading_surrogate a && is_trailing_surrogate b) ≡ pair → a < 0x10000 → is_lone_surrogate (take (cond pair 2 1) (a ∷ b ∷ text)) ≡ false → units (character_utf8 (take (cond pair 2 1) (a ∷ b ∷ text)) ++ after) ≡ take (cond pair 2 1) (a ∷ b ∷ text) ++ units after
either_back true a b text after e fits whole = two_units a b after e
either_back false a b text after e fits whole = one_unit a after fits whole

head_back : (text after : List ℕ) → 0 < length text → All (λ u. u < 0x10000) text → is_lone_surrogate (head text) ≡ false → units (character_utf8 (head text) ++ after) ≡ head text ++ units after
unfolding character_length
head_back [] after some fits whole = absurd (omega arith)
head_back (a ∷ []) after some fits whole = one_unit a after (All-head (λ u. u < 0x10000) a [] fits) whole
head_back (a ∷ b ∷ text) after some fits whole =
    either_back (is_leading_surrogate a && is_trailing_surrogate b) a b text after refl (All-head (λ u. u < 0x10000) a (b ∷ text) fits) whole

back_step : (text : List ℕ) → 0 < length text → (IsWellFormed (rest text) → All (λ u. u < 0x10000) (rest text) → units (utf8 (rest text)) ≡ rest text) → IsWellFormed text → All (λ u. u < 0x10000) text → units (utf8 text) ≡ text
back_step text some shorter whole fits =
    let all : All (λ character. is_lone_surrogate character ≡ false) (head text ∷ characters (rest text)) =
    All-same (λ character. is_lone_surrogate character ≡ false) (head text ∷ characters (rest text)) (characters text) (sym (characters-split text some)) whole in
    ap units (utf8-split text some)
    ∙ head_back text (utf8 (rest text)) some fits (All-head (λ character. is_lone_surrogate character ≡ false) (head text) (characters (rest text)) all)
    ∙ ap (λ s. head text ++ s) (shorter (All-tail (λ character. is_lone_surrogate character ≡ false) (head text) (characters (rest text)) all) (All-drop (λ u. u < 0x10000) (character_length text) text fits))
    ∙ take-append-drop (character_length text) text

-- a text without lone surrogates is read back as it was written
pub units-utf8 : (text : List ℕ) → All (λ unit. unit < 0x10000) text → IsWellFormed text → units (utf8 text) ≡ text
units-utf8 text fits whole =
    by_parts character_length
    (λ t. IsWellFormed t → All (λ u. u < 0x10000) t → units (utf8 t) ≡ t)
    (λ w f. ap units utf8-none ∙ units-none)
    back_step
    character_length-some
    text
    whole
    fits
