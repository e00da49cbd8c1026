-- Escapes by their first character.
use Rattle.std.proofs.Common.{◌≡◌, ◌≢◌, ℕ, zero, suc, ◌+◌, ◌*◌, ◌<◌, ◌≤◌, ◌==◌, ◌⊎◌, inl, inr, Bool, true, false, ◌&&◌, not, nat_le, nat_lt, List, [], ◌∷◌, length, take, drop, take_while, Option, Some, None, option_map, refl, sym, ◌∙◌, ap, subst, arith}
use Rattle.std.proofs.lemmas.List.{length-drop}
use Rattle.std.proofs.lemmas.Bool.Decides.{nat_tests}
use Rattle.js_value.specs.Text.{utf16}
use Rattle.es_model.specs.Tokens as s
use Rattle.es_model.specs.Tokens.{width}
use Rattle.js_lexer.specs.Left.{Left, skip, skipped, first_of}
use Rattle.js_lexer.specs.Reads.{escape, hexadecimal, code_point, unicode, plain, capped, behind}
use Rattle.js_lexer.proofs.Lefts.{skip-skip}

pub single : (c : ℕ) → c < 0x10000 → utf16 c ≡ c ∷ []
single c h = let test : nat_lt c 0x10000 ≡ true = grind (arith, nat_tests) in rw test refl

abbrev landed : ℕ → List ℕ → Option (List ℕ × ℕ) → Option (List ℕ × Left)
landed at text found = elim found [ Some (units, count) ↦ Some (units, skipped count at text) | None ↦ None ]

abbrev other_escape : ℕ → List ℕ → Option (List ℕ × ℕ)
other_escape c cs = elim (s.named_by c) [ Some d ↦ Some (d ∷ [], 1) | None ↦ s.plain_escape c cs ]

abbrev no_x : Bool → ℕ → List ℕ → Option (List ℕ × ℕ)
no_x test c cs = elim test [ true ↦ s.unicode_escape cs | false ↦ other_escape c cs ]

abbrev escape_by : Bool → ℕ → List ℕ → Option (List ℕ × ℕ)
escape_by test c cs = elim test [ true ↦ s.hexadecimal_escape 2 cs | false ↦ no_x (c == 117) c cs ]

pub escape-end : (left : Left) → None ≡ first_of left.text → escape left ≡ None
escape-end left h = by_text left.at left.text h
  where
    by_text : (at : ℕ) (text : List ℕ) → None ≡ first_of text → escape (record { at = at; text = text }) ≡ None
    by_text at [] h = refl
    by_text at (d ∷ cs) h = absurd (cc h)

-- a claim about what is left, by its first character
by_first : (P : Left → Left → Type 0) (c : ℕ) → ((at : ℕ) (cs : List ℕ) → P (record { at = at; text = c ∷ cs }) (record { at = at + width c; text = cs })) → (left : Left) → Some c ≡ first_of left.text → P left (skip 1 left)
by_first P c each left h = by_text left.at left.text h
  where
    by_text : (at : ℕ) (text : List ℕ) → Some c ≡ first_of text → P (record { at = at; text = text }) (skipped 1 at text)
    by_text at [] h = absurd (cc h)
    by_text at (d ∷ cs) h =
        let same : c ≡ d = cc h in
        let Q : ℕ → Type 0 = λ v. P (record { at = at; text = v ∷ cs }) (record { at = at + width v; text = cs }) in
        subst Q same (each at cs)

pub escape-x : (left : Left) (c : ℕ) → Some c ≡ first_of left.text → c ≡ 120 → escape left ≡ option_map (λ f. (f.0 ∷ [], f.1)) (hexadecimal 2 (skip 1 left))
escape-x left c h is = by_first (λ old new. escape old ≡ option_map (λ f. (f.0 ∷ [], f.1)) (hexadecimal 2 new)) c each left h
  where
    by_digits : (b : Bool) (at : ℕ) (cs : List ℕ) → landed at (c ∷ cs) (elim b [ true ↦ Some (s.number_after 0 16 (take 2 cs) ∷ [], suc 2) | false ↦ None ]) ≡ option_map (λ f. (f.0 ∷ [], f.1)) (elim b as (λ _. Option (ℕ × Left)) [ true ↦ Some (s.number_after 0 16 (take 2 cs), skipped 2 (at + width c) cs) | false ↦ None ])
    by_digits true at cs = refl
    by_digits false at cs = refl

    each : (at : ℕ) (cs : List ℕ) → escape (record { at = at; text = c ∷ cs }) ≡ option_map (λ f. (f.0 ∷ [], f.1)) (hexadecimal 2 (record { at = at + width c; text = cs }))
    each at cs =
        let test : (c == 120) ≡ true = grind (arith, nat_tests) in
        ap (λ b. landed at (c ∷ cs) (escape_by b c cs)) test ∙ by_digits (s.hexadecimal 2 cs) at cs

-- the value of two hexadecimal digits and of two more
hex_two : Bool → Bool → ℕ → Left → Option (ℕ × Left)
hex_two x y value left = elim (x && (y && true)) [ true ↦ Some (value, left) | false ↦ None ]

abbrev joined : ℕ → ℕ × Left → ℕ × Left
joined high found = (high * 256 + found.0, found.1)

pub hexadecimal-none : (left : Left) → hexadecimal 2 left ≡ None → hexadecimal 4 left ≡ None
hexadecimal-none left h = by_text left.at left.text h
  where
    by_tests : (x y z w : Bool) (v v' : ℕ) (l l' : Left) → elim (x && (y && true)) as (λ _. Option (ℕ × Left)) [ true ↦ Some (v, l) | false ↦ None ] ≡ None → elim (x && (y && (z && (w && true)))) as (λ _. Option (ℕ × Left)) [ true ↦ Some (v', l') | false ↦ None ] ≡ None
    by_tests true true z w v v' l l' e = absurd (cc e)
    by_tests true false z w v v' l l' e = refl
    by_tests false y z w v v' l l' e = refl

    by_text : (at : ℕ) (text : List ℕ) → hexadecimal 2 (record { at = at; text = text }) ≡ None → hexadecimal 4 (record { at = at; text = text }) ≡ None
    by_text at [] e = refl
    by_text at (a ∷ []) e = refl
    by_text at (a ∷ b ∷ []) e = refl
    by_text at (a ∷ b ∷ c ∷ []) e = refl
    by_text at (a ∷ b ∷ c ∷ d ∷ cs) e = by_tests (s.is_digit_of 16 a) (s.is_digit_of 16 b) (s.is_digit_of 16 c) (s.is_digit_of 16 d) _ _ _ _ e

found_same : (a b : ℕ × Left) → Some a ≡ Some b → a ≡ b
found_same a b e = cc e

landed_same : (a b : List ℕ × Left) → Some a ≡ Some b → a ≡ b
landed_same a b e = cc e

by_four : (x y z w : Bool) (high more value : ℕ) (left : Left) → x ≡ true → y ≡ true → value ≡ high * 256 + more → elim (x && (y && (z && (w && true)))) as (λ _. Option (ℕ × Left)) [ true ↦ Some (value, left) | false ↦ None ] ≡ option_map (joined high) (elim (z && (w && true)) as (λ _. Option (ℕ × Left)) [ true ↦ Some (more, left) | false ↦ None ])
by_four true true true true high more value left a b is = ap (λ v. Some (v, left)) is
by_four true true true false high more value left a b is = refl
by_four true true false w high more value left a b is = refl
by_four true false z w high more value left a b is = absurd (cc b)
by_four false y z w high more value left a b is = absurd (cc a)

behind_two : (at a b : ℕ) (text : List ℕ) → s.is_digit_of 16 a ≡ true → s.is_digit_of 16 b ≡ true → hexadecimal 4 (record { at = at; text = a ∷ b ∷ text }) ≡ option_map (joined (s.number_after 0 16 (a ∷ b ∷ []))) (hexadecimal 2 (record { at = at + width a + width b; text = text }))
behind_two at a b [] x y = refl
behind_two at a b (c ∷ []) x y = refl
behind_two at a b (c ∷ d ∷ cs) x y =
    by_four (s.is_digit_of 16 a) (s.is_digit_of 16 b) (s.is_digit_of 16 c) (s.is_digit_of 16 d)
    (s.number_after 0 16 (a ∷ b ∷ [])) (s.number_after 0 16 (c ∷ d ∷ [])) (s.number_after 0 16 (a ∷ b ∷ c ∷ d ∷ []))
    (record { at = at + width a + width b + width c + width d; text = cs }) x y
    (value (s.digit_value a) (s.digit_value b) (s.digit_value c) (s.digit_value d))
  where
    value : (a b c d : ℕ) → (((0 * 16 + a) * 16 + b) * 16 + c) * 16 + d ≡ ((0 * 16 + a) * 16 + b) * 256 + ((0 * 16 + c) * 16 + d)
    value a b c d = omega arith

pub hexadecimal-joined : (left mid : Left) (high : ℕ) → hexadecimal 2 left ≡ Some (high, mid) → hexadecimal 4 left ≡ option_map (joined high) (hexadecimal 2 mid)
hexadecimal-joined left mid high h = by_text left.at left.text h
  where
    by_tests : (x y : Bool) (at a b : ℕ) (text : List ℕ) → s.is_digit_of 16 a ≡ x → s.is_digit_of 16 b ≡ y → elim (x && (y && true)) as (λ _. Option (ℕ × Left)) [ true ↦ Some (s.number_after 0 16 (a ∷ b ∷ []), record { at = at + width a + width b; text = text }) | false ↦ None ] ≡ Some (high, mid) → hexadecimal 4 (record { at = at; text = a ∷ b ∷ text }) ≡ option_map (joined high) (hexadecimal 2 mid)
    by_tests true true at a b text x y e =
        let P : ℕ × Left → Type 0 = λ p. hexadecimal 4 (record { at = at; text = a ∷ b ∷ text }) ≡ option_map (joined p.0) (hexadecimal 2 p.1) in
        subst P (found_same (s.number_after 0 16 (a ∷ b ∷ []), record { at = at + width a + width b; text = text }) (high, mid) e) (behind_two at a b text x y)
    by_tests true false at a b text x y e = absurd (cc e)
    by_tests false y at a b text x z e = absurd (cc e)

    by_text : (at : ℕ) (text : List ℕ) → hexadecimal 2 (record { at = at; text = text }) ≡ Some (high, mid) → hexadecimal 4 (record { at = at; text = text }) ≡ option_map (joined high) (hexadecimal 2 mid)
    by_text at [] e = absurd (cc e)
    by_text at (a ∷ []) e = absurd (cc e)
    by_text at (a ∷ b ∷ text) e = by_tests (s.is_digit_of 16 a) (s.is_digit_of 16 b) at a b text refl refl e

-- a code point in braces

pub skip-text : (n : ℕ) (left : Left) → (skip n left).text ≡ drop n left.text
skip-text n left = by_text n left.at left.text
  where
    by_text : (n at : ℕ) (text : List ℕ) → (skipped n at text).text ≡ drop n text
    by_text zero at text = refl
    by_text (suc n) at [] = refl
    by_text (suc n) at (c ∷ cs) = by_text n (at + width c) cs

abbrev pub digits_of : Left → List ℕ
digits_of left = take_while (s.is_digit_of 16) left.text

abbrev braced : Bool → Left → Option (ℕ × Left)
braced test left = elim test [ true ↦ Some (s.number_after 0 16 (digits_of left), skip (length (digits_of left) + 1) left) | false ↦ None ]

abbrev test_of : Left → Bool
test_of left = not (length (digits_of left) == 0) && nat_le (s.number_after 0 16 (digits_of left)) 0x10FFFF && s.first_is (λ c. c == 125) (drop (length (digits_of left)) left.text)

pub code_point-is : (left new : Left) (value : ℕ) → 0 < length (digits_of left) → value ≡ capped (s.number_after 0 16 (digits_of left)) → new ≡ behind (s.is_digit_of 16) left → value ≤ 0x10FFFF → true ≡ s.first_is (λ c. c == 125) new.text → code_point left ≡ Some (value, skip 1 new)
code_point-is left new value some cut rest small closes =
    let number : s.number_after 0 16 (digits_of left) ≡ value = omega arith in
    let nonempty : (length (digits_of left) == 0) ≡ false = grind (arith, nat_tests) in
    let within : nat_le (s.number_after 0 16 (digits_of left)) 0x10FFFF ≡ true = grind (arith, nat_tests) in
    let closed : s.first_is (λ c. c == 125) (drop (length (digits_of left)) left.text) ≡ true = ap (s.first_is (λ c. c == 125)) (sym (skip-text (length (digits_of left)) left) ∙ ap (λ l. l.text) (sym rest)) ∙ sym closes in
    ap (λ t. braced (not t && nat_le (s.number_after 0 16 (digits_of left)) 0x10FFFF && s.first_is (λ c. c == 125) (drop (length (digits_of left)) left.text)) left) nonempty
    ∙ ap (λ t. braced (t && s.first_is (λ c. c == 125) (drop (length (digits_of left)) left.text)) left) within
    ∙ ap (λ t. braced t left) closed
    ∙ ap (λ v. Some (v, skip (length (digits_of left) + 1) left)) number
    ∙ ap (λ l. Some (value, l)) (sym (skip-skip (length (digits_of left)) 1 left) ∙ ap (skip 1) (sym rest))

test_false : (a b c : Bool) (left : Left) → (a ≡ false) ⊎ (b ≡ false) ⊎ (c ≡ false) → braced (a && b && c) left ≡ None
test_false true true true left (inl e) = absurd (cc e)
test_false true true true left (inr (inl e)) = absurd (cc e)
test_false true true true left (inr (inr e)) = absurd (cc e)
test_false true true false left e = refl
test_false true false c left e = refl
test_false false b c left e = refl

pub code_point-empty : (left : Left) → length (digits_of left) ≡ 0 → code_point left ≡ None
code_point-empty left none =
    let empty : (length (digits_of left) == 0) ≡ true = grind (arith, nat_tests) in
    test_false (not (length (digits_of left) == 0)) (nat_le (s.number_after 0 16 (digits_of left)) 0x10FFFF) (s.first_is (λ c. c == 125) (drop (length (digits_of left)) left.text)) left (inl (ap not empty))

pub code_point-large : (left : Left) (value : ℕ) → value ≡ capped (s.number_after 0 16 (digits_of left)) → 0x10FFFF < value → code_point left ≡ None
code_point-large left value cut large =
    let beyond : nat_le (s.number_after 0 16 (digits_of left)) 0x10FFFF ≡ false = grind (arith, nat_tests) in
    test_false (not (length (digits_of left) == 0)) (nat_le (s.number_after 0 16 (digits_of left)) 0x10FFFF) (s.first_is (λ c. c == 125) (drop (length (digits_of left)) left.text)) left (inr (inl beyond))

pub code_point-open : (left new : Left) → new ≡ behind (s.is_digit_of 16) left → false ≡ s.first_is (λ c. c == 125) new.text → code_point left ≡ None
code_point-open left new rest h =
    let opened : s.first_is (λ c. c == 125) (drop (length (digits_of left)) left.text) ≡ false = ap (s.first_is (λ c. c == 125)) (sym (skip-text (length (digits_of left)) left) ∙ ap (λ l. l.text) (sym rest)) ∙ sym h in
    test_false (not (length (digits_of left) == 0)) (nat_le (s.number_after 0 16 (digits_of left)) 0x10FFFF) (s.first_is (λ c. c == 125) (drop (length (digits_of left)) left.text)) left (inr (inr opened))

-- `\u`, by its first character

pub unicode-braces : (left new : Left) → true ≡ s.first_is (λ c. c == 123) left.text → new ≡ skip 1 left → unicode left ≡ code_point new
unicode-braces left new h n = ap (λ b. elim b as (λ _. Option (ℕ × Left)) [ true ↦ code_point (skip 1 left) | false ↦ hexadecimal 4 left ]) (sym h) ∙ ap code_point (sym n)

pub unicode-digits : (left : Left) → false ≡ s.first_is (λ c. c == 123) left.text → unicode left ≡ hexadecimal 4 left
unicode-digits left h = ap (λ b. elim b as (λ _. Option (ℕ × Left)) [ true ↦ code_point (skip 1 left) | false ↦ hexadecimal 4 left ]) (sym h)

-- the whole, by its first character

four_small : (at : ℕ) (text : List ℕ) (value : ℕ) (rest : Left) → hexadecimal 4 (record { at = at; text = text }) ≡ Some (value, rest) → value < 0x10000
four_small at [] value rest h = absurd (cc h)
four_small at (a ∷ []) value rest h = absurd (cc h)
four_small at (a ∷ b ∷ []) value rest h = absurd (cc h)
four_small at (a ∷ b ∷ c ∷ []) value rest h = absurd (cc h)
four_small at (a ∷ b ∷ c ∷ d ∷ cs) value rest h = by_tests (s.is_digit_of 16 a) (s.is_digit_of 16 b) (s.is_digit_of 16 c) (s.is_digit_of 16 d) refl refl refl refl h
  where
    small : (x y z w : ℕ) → x < 16 → y < 16 → z < 16 → w < 16 → (((0 * 16 + x) * 16 + y) * 16 + z) * 16 + w < 0x10000
    small x y z w a b c d = omega arith

    below : (v : ℕ) → nat_lt v 16 ≡ true → v < 16
    below v e = grind (arith, nat_tests)

    digit : (x : ℕ) → s.is_digit_of 16 x ≡ true → s.digit_value x < 16
    digit x e = below (s.digit_value x) e

    by_tests : (x y z w : Bool) → s.is_digit_of 16 a ≡ x → s.is_digit_of 16 b ≡ y → s.is_digit_of 16 c ≡ z → s.is_digit_of 16 d ≡ w → elim (x && (y && (z && (w && true)))) as (λ _. Option (ℕ × Left)) [ true ↦ Some (s.number_after 0 16 (a ∷ b ∷ c ∷ d ∷ []), skipped 4 at (a ∷ b ∷ c ∷ d ∷ cs)) | false ↦ None ] ≡ Some (value, rest) → value < 0x10000
    by_tests true true true true x y z w e =
        let is : s.number_after 0 16 (a ∷ b ∷ c ∷ d ∷ []) ≡ value = ap (λ p. p.0) (found_same (s.number_after 0 16 (a ∷ b ∷ c ∷ d ∷ []), skipped 4 at (a ∷ b ∷ c ∷ d ∷ cs)) (value, rest) e) in
        let P : ℕ → Type 0 = λ v. v < 0x10000 in
        subst P is (small (s.digit_value a) (s.digit_value b) (s.digit_value c) (s.digit_value d) (digit a x) (digit b y) (digit c z) (digit d w))
    by_tests true true true false x y z w e = absurd (cc e)
    by_tests true true false w x y z v e = absurd (cc e)
    by_tests true false z w x y v u e = absurd (cc e)
    by_tests false y z w x v u t e = absurd (cc e)

abbrev spelled : ℕ × Left → List ℕ × Left
spelled found = (utf16 found.0, found.1)

pub escape-u : (left : Left) (c : ℕ) → Some c ≡ first_of left.text → c ≡ 117 → escape left ≡ option_map spelled (unicode (skip 1 left))
escape-u left c h is = by_first (λ old new. escape old ≡ option_map spelled (unicode new)) c each left h
  where
    digits : (at : ℕ) (cs : List ℕ) (b : Bool) → s.hexadecimal 4 cs ≡ b → landed at (c ∷ cs) (elim b [ true ↦ Some (s.number_after 0 16 (take 4 cs) ∷ [], suc 4) | false ↦ None ]) ≡ option_map spelled (elim b as (λ _. Option (ℕ × Left)) [ true ↦ Some (s.number_after 0 16 (take 4 cs), skipped 4 (at + width c) cs) | false ↦ None ])
    digits at cs true e =
        let hex : hexadecimal 4 (record { at = at + width c; text = cs }) ≡ Some (s.number_after 0 16 (take 4 cs), skipped 4 (at + width c) cs) = ap (λ b. elim b as (λ _. Option (ℕ × Left)) [ true ↦ Some (s.number_after 0 16 (take 4 cs), skipped 4 (at + width c) cs) | false ↦ None ]) e in
        ap (λ l. Some (l, skipped 4 (at + width c) cs)) (sym (single (s.number_after 0 16 (take 4 cs)) (four_small (at + width c) cs (s.number_after 0 16 (take 4 cs)) (skipped 4 (at + width c) cs) hex)))
    digits at cs false e = refl

    past : (at n x : ℕ) (cs : List ℕ) → skipped (n + 3) at (c ∷ x ∷ cs) ≡ skipped (n + 1) (at + width c + width x) cs
    past at n x cs = let e : n + 3 ≡ suc (suc (n + 1)) = omega arith in ap (λ m. skipped m at (c ∷ x ∷ cs)) e

    inside : (at x : ℕ) (cs : List ℕ) (t : Bool) → landed at (c ∷ x ∷ cs) (elim t [ true ↦ Some (utf16 (s.number_after 0 16 (take_while (s.is_digit_of 16) cs)), length (take_while (s.is_digit_of 16) cs) + 3) | false ↦ None ]) ≡ option_map spelled (braced t (record { at = at + width c + width x; text = cs }))
    inside at x cs true = ap (λ l. Some (utf16 (s.number_after 0 16 (take_while (s.is_digit_of 16) cs)), l)) (past at (length (take_while (s.is_digit_of 16) cs)) x cs)
    inside at x cs false = refl

    braces : (at : ℕ) (cs : List ℕ) (b : Bool) → s.first_is (λ d. d == 123) cs ≡ b → landed at (c ∷ cs) (elim b [ true ↦ s.code_point_escape (s.behind cs) | false ↦ s.hexadecimal_escape 4 cs ]) ≡ option_map spelled (elim b as (λ _. Option (ℕ × Left)) [ true ↦ code_point (skipped 1 (at + width c) cs) | false ↦ hexadecimal 4 (record { at = at + width c; text = cs }) ])
    braces at cs false e = digits at cs (s.hexadecimal 4 cs) refl
    braces at [] true e = absurd (cc e)
    braces at (x ∷ cs) true e = inside at x cs (test_of (record { at = at + width c + width x; text = cs }))

    each : (at : ℕ) (cs : List ℕ) → escape (record { at = at; text = c ∷ cs }) ≡ option_map spelled (unicode (record { at = at + width c; text = cs }))
    each at cs =
        let no : (c == 120) ≡ false = grind (arith, nat_tests) in
        let yes : (c == 117) ≡ true = grind (arith, nat_tests) in
        ap (λ b. landed at (c ∷ cs) (escape_by b c cs)) no ∙ ap (λ b. landed at (c ∷ cs) (no_x b c cs)) yes
        ∙ braces at cs (s.first_is (λ d. d == 123) cs) refl

pub escape-named : (left : Left) (c named : ℕ) → Some c ≡ first_of left.text → c ≢ 120 → c ≢ 117 → Some named ≡ s.named_by c → escape left ≡ Some (named ∷ [], skip 1 left)
escape-named left c named h x u is = by_first (λ old new. escape old ≡ Some (named ∷ [], new)) c each left h
  where
    each : (at : ℕ) (cs : List ℕ) → escape (record { at = at; text = c ∷ cs }) ≡ Some (named ∷ [], record { at = at + width c; text = cs })
    each at cs =
        let no : (c == 120) ≡ false = grind (arith, nat_tests) in
        let nor : (c == 117) ≡ false = grind (arith, nat_tests) in
        ap (λ b. landed at (c ∷ cs) (escape_by b c cs)) no ∙ ap (λ b. landed at (c ∷ cs) (no_x b c cs)) nor
        ∙ ap (λ o. landed at (c ∷ cs) (elim o as (λ _. Option (List ℕ × ℕ)) [ Some d ↦ Some (d ∷ [], 1) | None ↦ s.plain_escape c cs ])) (sym is)

pub escape-plain : (left : Left) (c : ℕ) → Some c ≡ first_of left.text → c ≢ 120 → c ≢ 117 → None ≡ s.named_by c → escape left ≡ plain c (skip 1 left)
escape-plain left c h x u is = by_first (λ old new. escape old ≡ plain c new) c each left h
  where
    feed : (b breaks : Bool) (at : ℕ) (cs : List ℕ) → ((b ≡ true) → ((c == 13) && s.first_is (λ d. d == 10) cs) ≡ true) → landed at (c ∷ cs) (elim b as (λ _. Option (List ℕ × ℕ)) [ true ↦ Some ([], 2) | false ↦ elim breaks [ true ↦ Some ([], 1) | false ↦ Some (utf16 c, 1) ] ]) ≡ elim b as (λ _. Option (List ℕ × Left)) [ true ↦ Some ([], skipped 1 (at + width c) cs) | false ↦ elim breaks [ true ↦ Some ([], record { at = at + width c; text = cs }) | false ↦ Some (utf16 c, record { at = at + width c; text = cs }) ] ]
    feed true breaks at cs e = refl
    feed false true at cs e = refl
    feed false false at cs e = refl

    zeroed : (b : Bool) (at : ℕ) (cs : List ℕ) → landed at (c ∷ cs) (elim b as (λ _. Option (List ℕ × ℕ)) [ true ↦ Some (0 ∷ [], 1) | false ↦ None ]) ≡ elim b as (λ _. Option (List ℕ × Left)) [ true ↦ Some (0 ∷ [], record { at = at + width c; text = cs }) | false ↦ None ]
    zeroed true at cs = refl
    zeroed false at cs = refl

    by_digit : (b : Bool) (at : ℕ) (cs : List ℕ) → landed at (c ∷ cs) (elim b as (λ _. Option (List ℕ × ℕ)) [ true ↦ elim ((c == 48) && not (s.first_is s.is_digit cs)) [ true ↦ Some (0 ∷ [], 1) | false ↦ None ] | false ↦ elim ((c == 13) && s.first_is (λ d. d == 10) cs) [ true ↦ Some ([], 2) | false ↦ elim (s.is_line_break c) [ true ↦ Some ([], 1) | false ↦ Some (utf16 c, 1) ] ] ]) ≡ elim b as (λ _. Option (List ℕ × Left)) [ true ↦ elim ((c == 48) && not (s.first_is s.is_digit cs)) [ true ↦ Some (0 ∷ [], record { at = at + width c; text = cs }) | false ↦ None ] | false ↦ elim ((c == 13) && s.first_is (λ d. d == 10) cs) [ true ↦ Some ([], skipped 1 (at + width c) cs) | false ↦ elim (s.is_line_break c) [ true ↦ Some ([], record { at = at + width c; text = cs }) | false ↦ Some (utf16 c, record { at = at + width c; text = cs }) ] ] ]
    by_digit true at cs = zeroed ((c == 48) && not (s.first_is s.is_digit cs)) at cs
    by_digit false at cs = feed ((c == 13) && s.first_is (λ d. d == 10) cs) (s.is_line_break c) at cs (λ e. e)

    each : (at : ℕ) (cs : List ℕ) → escape (record { at = at; text = c ∷ cs }) ≡ plain c (record { at = at + width c; text = cs })
    each at cs =
        let no : (c == 120) ≡ false = grind (arith, nat_tests) in
        let nor : (c == 117) ≡ false = grind (arith, nat_tests) in
        ap (λ b. landed at (c ∷ cs) (escape_by b c cs)) no ∙ ap (λ b. landed at (c ∷ cs) (no_x b c cs)) nor
        ∙ ap (λ o. landed at (c ∷ cs) (elim o as (λ _. Option (List ℕ × ℕ)) [ Some d ↦ Some (d ∷ [], 1) | None ↦ s.plain_escape c cs ])) (sym is)
        ∙ by_digit (s.is_digit c) at cs

-- an escape lengthens nothing
pub escape-shorter : (left new : Left) (units : List ℕ) → escape left ≡ Some (units, new) → length new.text ≤ length left.text
escape-shorter left new units h = by_found (s.escape left.text) h
  where
    by_found : (found : Option (List ℕ × ℕ)) → elim found as (λ _. Option (List ℕ × Left)) [ Some (u, count) ↦ Some (u, skip count left) | None ↦ None ] ≡ Some (units, new) → length new.text ≤ length left.text
    by_found None e = absurd (cc e)
    by_found (Some (u, count)) e =
        let is : skip count left ≡ new = ap (λ p. p.1) (landed_same (u, skip count left) (units, new) e) in
        let size : length new.text ≡ length (drop count left.text) = ap (λ l. length l.text) (sym is) ∙ ap length (skip-text count left) in
        omega (arith, size, length-drop count left.text)
