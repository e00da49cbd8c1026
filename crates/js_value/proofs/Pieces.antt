-- Writing a text as UTF-8 a piece at a time.
use Rattle.std.proofs.Common.{◌≡◌, ℕ, suc, zero, ◌+◌, ◌-◌, ◌/◌, ◌%◌, ◌<◌, ◌≤◌, Bool, true, false, ◌&&◌, cond, nat_le, nat_lt, List, [], ◌∷◌, ◌++◌, length, take, drop, refl, sym, ◌∙◌, ap, arith, ⊎_elim, append_assoc, length-append}
use Rattle.std.proofs.lemmas.List.{length-take, length-take-le, take_at, drop_at, drop-drop}
use Rattle.std.proofs.lemmas.Bool.Decides.{nat_tests}
use Rattle.std.proofs.lemmas.Bool.{cases_lt}
use Rattle.std.proofs.Math.Seq.{take-add}
use Rattle.std.specs.List.{flat_map}
use Rattle.js_value.specs.Text.{characters, character_length, character_utf8, is_leading_surrogate, is_trailing_surrogate, encoded, code_point, front, piece, utf8}
use Rattle.js_value.proofs.Parts.{parts-split, by_parts}

-- the character at the front of a text, and what is left after it
abbrev pub head : List ℕ → List ℕ
head text = take (character_length text) text

abbrev pub rest : List ℕ → List ℕ
rest text = drop (character_length text) text

two_or_one : (b : Bool) → (0 < cond b 2 1) × (cond b 2 1 ≤ 2)
two_or_one b = elim b as (λ v. (0 < cond v 2 1) × (cond v 2 1 ≤ 2)) [ true ↦ (omega arith, omega arith) | false ↦ (omega arith, omega arith) ]

-- a character has at least a unit
pub character_length-some : (text : List ℕ) → 0 < character_length text
unfolding character_length
character_length-some [] = omega arith
character_length-some (a ∷ []) = omega arith
character_length-some (a ∷ b ∷ text) = (two_or_one (is_leading_surrogate a && is_trailing_surrogate b)).0

-- a character ends within its text
pub character_length-within : (text : List ℕ) → 0 < length text → character_length text ≤ length text
unfolding character_length
character_length-within [] some = absurd (omega arith)
character_length-within (a ∷ []) some = omega arith
character_length-within (a ∷ b ∷ text) some =
    omega (arith, (two_or_one (is_leading_surrogate a && is_trailing_surrogate b)).1)

-- what comes after it does not change a character
pub character_length-take : (text : List ℕ) (n : ℕ) → 0 < length text → character_length text ≤ n → character_length (take n text) ≡ character_length text
unfolding character_length
character_length-take [] n some h = absurd (omega arith)
character_length-take (a ∷ []) zero some h = absurd (omega arith)
character_length-take (a ∷ []) (suc zero) some h = refl
character_length-take (a ∷ []) (suc (suc n)) some h = refl
character_length-take (a ∷ b ∷ text) zero some h =
    absurd (omega (arith, (two_or_one (is_leading_surrogate a && is_trailing_surrogate b)).0))
character_length-take (a ∷ b ∷ text) (suc zero) some h =
    omega (arith, (two_or_one (is_leading_surrogate a && is_trailing_surrogate b)).0)
character_length-take (a ∷ b ∷ text) (suc (suc n)) some h = refl

-- the characters of a text are the first, and those of the rest
pub characters-split : (text : List ℕ) → 0 < length text → characters text ≡ head text ∷ characters (rest text)
characters-split text some =
    parts-split character_length text (character_length text) some (character_length-some text) refl

pub utf8-split : (text : List ℕ) → 0 < length text → utf8 text ≡ character_utf8 (head text) ++ utf8 (rest text)
unfolding utf8
utf8-split text some = ap (flat_map character_utf8) (characters-split text some)

-- the front takes the first character where there is room, else nothing
pub front-takes : (room : ℕ) (text : List ℕ) → 0 < length text → length (character_utf8 (head text)) ≤ room → front room (characters text) ≡ head text ++ front (room - length (character_utf8 (head text))) (characters (rest text))
front-takes room text some fits =
    let test : nat_le (length (character_utf8 (head text))) room ≡ true = grind (arith, nat_tests)
    in ap (front room) (characters-split text some) ∙ ap (λ b. cond b (head text ++ front (room - length (character_utf8 (head text))) (characters (rest text))) []) test

pub front-stops : (room : ℕ) (text : List ℕ) → 0 < length text → room < length (character_utf8 (head text)) → front room (characters text) ≡ []
front-stops room text some full =
    let test : nat_le (length (character_utf8 (head text))) room ≡ false = grind (arith, nat_tests)
    in ap (front room) (characters-split text some) ∙ ap (λ b. cond b (head text ++ front (room - length (character_utf8 (head text))) (characters (rest text))) []) test

pub length-head : (text : List ℕ) → 0 < length text → length (head text) ≡ character_length text
length-head text some = length-take-le (character_length text) text (character_length-within text some)

front-prefix_step : (text : List ℕ) → 0 < length text → ((room : ℕ) → front room (characters (rest text)) ≡ take (length (front room (characters (rest text)))) (rest text)) → (room : ℕ) → front room (characters text) ≡ take (length (front room (characters text))) text
front-prefix_step text some shorter room =
    ⊎_elim
    (λ (full : room < length (character_utf8 (head text))). rw (front-stops room text some full) refl)
    (λ (fits : length (character_utf8 (head text)) ≤ room).
    let after : List ℕ = front (room - length (character_utf8 (head text))) (characters (rest text)) in
    let longer : length (head text ++ after) ≡ character_length text + length after = length-append (head text) after ∙ ap (λ n. n + length after) (length-head text some) in
    rw (front-takes room text some fits, longer) (ap (λ s. head text ++ s) (shorter (room - length (character_utf8 (head text)))) ∙ sym (take-add (character_length text) (length after) text)))
    (cases_lt room (length (character_utf8 (head text))))

-- a front of whole characters is a front of the text
pub front-prefix : (text : List ℕ) (room : ℕ) → front room (characters text) ≡ take (length (front room (characters text))) text
front-prefix text =
    by_parts character_length
    (λ t. (room : ℕ) → front room (characters t) ≡ take (length (front room (characters t))) t)
    (λ room. refl)
    front-prefix_step
    character_length-some
    text

-- the first character and a front of what is left, in UTF-8
pub utf8-head : (text : List ℕ) (room : ℕ) → 0 < length text → utf8 (head text ++ front room (characters (rest text))) ≡ character_utf8 (head text) ++ utf8 (front room (characters (rest text)))
utf8-head text room some =
    let after : List ℕ = front room (characters (rest text)) in
    let joined : take (character_length text + length after) text ≡ head text ++ after = take-add (character_length text) (length after) text ∙ ap (λ s. head text ++ s) (sym (front-prefix (rest text) room)) in
    let same : character_length (head text ++ after) ≡ character_length text = ap character_length (sym joined) ∙ character_length-take text (character_length text + length after) some (omega arith) in
    let filled : 0 < length (head text ++ after) = omega (arith, length-append (head text) after, length-head text some, character_length-some text) in
    rw (utf8-split (head text ++ after) filled, same, take_at (head text) after (character_length text) (length-head text some), drop_at (head text) after (character_length text) (length-head text some)) refl

pub utf8-none : utf8 [] ≡ []
unfolding utf8
utf8-none = refl

utf8-front_step : (text : List ℕ) → 0 < length text → ((room : ℕ) → utf8 (rest text) ≡ utf8 (front room (characters (rest text))) ++ utf8 (drop (length (front room (characters (rest text)))) (rest text))) → (room : ℕ) → utf8 text ≡ utf8 (front room (characters text)) ++ utf8 (drop (length (front room (characters text))) text)
utf8-front_step text some shorter room =
    ⊎_elim
    (λ (full : room < length (character_utf8 (head text))). rw (front-stops room text some full, utf8-none) refl)
    (λ (fits : length (character_utf8 (head text)) ≤ room).
    let left : ℕ = room - length (character_utf8 (head text)) in
    let after : List ℕ = front left (characters (rest text)) in
    let longer : length (head text ++ after) ≡ character_length text + length after = length-append (head text) after ∙ ap (λ n. n + length after) (length-head text some) in
    rw (front-takes room text some fits, utf8-head text left some, longer, append_assoc, ← drop-drop (length after) (character_length text) text)
    (utf8-split text some ∙ ap (λ s. character_utf8 (head text) ++ s) (shorter left)))
    (cases_lt room (length (character_utf8 (head text))))

-- a text in UTF-8 is a front of whole characters, then the rest
utf8-front : (text : List ℕ) (room : ℕ) → utf8 text ≡ utf8 (front room (characters text)) ++ utf8 (drop (length (front room (characters text))) text)
utf8-front text =
    by_parts character_length
    (λ t. (room : ℕ) → utf8 t ≡ utf8 (front room (characters t)) ++ utf8 (drop (length (front room (characters t))) t))
    (λ room. rw utf8-none refl)
    utf8-front_step
    character_length-some
    text

length-utf8-front_step : (text : List ℕ) → 0 < length text → ((room : ℕ) → length (utf8 (front room (characters (rest text)))) ≤ room) → (room : ℕ) → length (utf8 (front room (characters text))) ≤ room
length-utf8-front_step text some shorter room =
    ⊎_elim
    (λ (full : room < length (character_utf8 (head text))). rw (front-stops room text some full, utf8-none) (omega arith))
    (λ (fits : length (character_utf8 (head text)) ≤ room).
    let left : ℕ = room - length (character_utf8 (head text)) in
    rw (front-takes room text some fits, utf8-head text left some, length-append (character_utf8 (head text)) (utf8 (front left (characters (rest text)))))
    (omega (arith, shorter left)))
    (cases_lt room (length (character_utf8 (head text))))

length-utf8-front : (text : List ℕ) (room : ℕ) → length (utf8 (front room (characters text))) ≤ room
length-utf8-front text =
    by_parts character_length
    (λ t. (room : ℕ) → length (utf8 (front room (characters t))) ≤ room)
    (λ room. rw utf8-none (omega arith))
    length-utf8-front_step
    character_length-some
    text

few_either : (b : Bool) (xs ys : List ℕ) → length xs ≤ 4 → length ys ≤ 4 → length (cond b xs ys) ≤ 4
few_either true xs ys p q = p
few_either false xs ys p q = q

-- a code point has at most four bytes
pub length-encoded : (code : ℕ) → length (encoded code) ≤ 4
unfolding encoded
length-encoded code =
    few_either (nat_lt code 0x80) (code ∷ []) (cond (nat_lt code 0x800) (two code) (cond (nat_lt code 0x10000) (three code) (four code))) (omega arith)
    (few_either (nat_lt code 0x800) (two code) (cond (nat_lt code 0x10000) (three code) (four code)) (omega arith)
    (few_either (nat_lt code 0x10000) (three code) (four code) (omega arith) (omega arith)))
  where
    two : ℕ → List ℕ
    two code = (0xC0 + code / 64) ∷ (0x80 + code % 64) ∷ []

    three : ℕ → List ℕ
    three code = (0xE0 + code / 4096) ∷ (0x80 + code / 64 % 64) ∷ (0x80 + code % 64) ∷ []

    four : ℕ → List ℕ
    four code = (0xF0 + code / 262144) ∷ (0x80 + code / 4096 % 64) ∷ (0x80 + code / 64 % 64) ∷ (0x80 + code % 64) ∷ []

-- The laws of pieces.

-- a text in UTF-8 is its piece, then the rest
pub utf8-piece : (text : List ℕ) → utf8 text ≡ utf8 (piece text) ++ utf8 (drop (length (piece text)) text)
unfolding piece
utf8-piece text = utf8-front text 64

-- a piece is the front of its text
pub piece-prefix : (text : List ℕ) → piece text ≡ take (length (piece text)) text
unfolding piece
piece-prefix text = front-prefix text 64

pub length-piece : (text : List ℕ) → length (piece text) ≤ length text
length-piece text =
    omega (arith, ap length (piece-prefix text) ∙ length-take (length (piece text)) text)

pub length-utf8-piece : (text : List ℕ) → length (utf8 (piece text)) ≤ 64
unfolding piece
length-utf8-piece text = length-utf8-front text 64

-- a piece of a text that is not empty has at least one character
pub piece-some : (text : List ℕ) → 0 < length text → 0 < length (piece text)
unfolding piece
piece-some text some =
    let fits : length (character_utf8 (head text)) ≤ 64 = omega (arith, length-encoded (code_point (head text))) in
    let parts : piece_length ≡ length (head text) + length after =
    ap length (front-takes 64 text some fits) ∙ length-append (head text) after
    in omega (arith, parts, length-head text some, character_length-some text)
  where
    after : List ℕ
    after = front (64 - length (character_utf8 (head text))) (characters (rest text))

    piece_length : ℕ
    piece_length = length (front 64 (characters text))

-- no longer front of whole characters has at most that many bytes
front-longest : (room : ℕ) (taken left : List (List ℕ)) → length (flat_map character_utf8 taken) ≤ room → length (flat_map (λ character. character) taken) ≤ length (front room (taken ++ left))
front-longest room [] left fits = omega arith
front-longest room (character ∷ taken) left fits =
    let size : ℕ = length (character_utf8 character) in
    let both : length (flat_map character_utf8 (character ∷ taken)) ≡ size + length (flat_map character_utf8 taken) = length-append (character_utf8 character) (flat_map character_utf8 taken) in
    let test : nat_le size room ≡ true = grind (arith, nat_tests) in
    let shorter : length (flat_map (λ character. character) taken) ≤ length (front (room - size) (taken ++ left)) = front-longest (room - size) taken left (omega arith) in
    rw (test, length-append character (flat_map (λ character. character) taken), length-append character (front (room - size) (taken ++ left))) (omega arith)

-- a piece is the longest
pub piece-longest : (text : List ℕ) (taken left : List (List ℕ)) → characters text ≡ taken ++ left → length (flat_map character_utf8 taken) ≤ 64 → length (flat_map (λ character. character) taken) ≤ length (piece text)
unfolding piece
piece-longest text taken left cut fits = rw cut (front-longest 64 taken left fits)
