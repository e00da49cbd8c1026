-- An input that gives any lines one after another.
use Rattle.std.proofs.Common.{◌≡◌, ◌≢◌, ◌≤◌, ◌<◌, ◌+◌, ◌++◌, ◌∙◌, ℕ, Bool, true, false, nat_lt, cond, if◌then◌else◌, All, List, [], ◌∷◌, length, take, drop, Option, Some, None, slice_index_or, ap, ap₂, refl, sym, length-append, append_assoc, arith}
use Rattle.std.specs.List.{position, position_or_len}
use Rattle.std.proofs.lemmas.Bool.Decides.{nat_tests}
use Rattle.std.proofs.lemmas.List.{take_all, drop_all, take_at, drop_at, length-take, get_or-take, get_or_append_left, get_or_at}
use Rattle.std.proofs.lemmas.List.Elements.{All-head, All-tail}
use Rattle.std.proofs.lemmas.List.Sums.{position_or_len_is}
use Rattle.xs_base.specs.Line.{next_line, cut_at, is_line_feed, most, spelled, input_of, IsLine, TakesLines}
use Rattle.xs_base.proofs.LineCuts.{next_line-nonempty}

no_feed : (b : ℕ) → b ≢ 10 → is_line_feed b ≡ false
no_feed b h = grind (arith, nat_tests)

-- a place that is told, or none
found_by : (b : Bool) (n : ℕ) (p : Option ℕ) → p ≡ cond b (Some n) None → b ≡ true → p ≡ Some n
found_by true n p e h = e
found_by false n p e h = absurd (cc)

missed_by : (b : Bool) (n : ℕ) (p : Option ℕ) → p ≡ cond b (Some n) None → b ≡ false → p ≡ None
missed_by true n p e h = absurd (cc)
missed_by false n p e h = e

less_true : (a b : ℕ) → a < b → nat_lt a b ≡ true
less_true a b h = grind (arith, nat_tests)

less_false : (a b : ℕ) → b ≤ a → nat_lt a b ≡ false
less_false a b h = grind (arith, nat_tests)

-- ---- a short line, with its line feed

feed_place : (m : ℕ) (line t : List ℕ) → IsLine line → length line < m → position is_line_feed (take m (line ++ 10 ∷ t)) ≡ Some (length line)
feed_place m line t shape short =
    let long : length line < length (take m (line ++ 10 ∷ t)) = omega (arith, length-take m (line ++ 10 ∷ t), length-append line (10 ∷ t)) in
    let place : position_or_len is_line_feed (take m (line ++ 10 ∷ t)) ≡ length line = position_or_len_is is_line_feed (take m (line ++ 10 ∷ t)) (length line) 0 (omega arith)
    (λ k h. no_feed (slice_index_or (take m (line ++ 10 ∷ t)) k 0) (λ is. shape.unbroken k 0 h (sym (get_or-take m (line ++ 10 ∷ t) k 0 (omega arith) ∙ get_or_append_left line (10 ∷ t) 0 k h) ∙ is)))
    (λ h. ap is_line_feed (get_or-take m (line ++ 10 ∷ t) (length line) 0 short ∙ get_or_at line 10 t 0 (length line) refl)) in
    found_by (nat_lt (position_or_len is_line_feed (take m (line ++ 10 ∷ t))) (length (take m (line ++ 10 ∷ t)))) (length line) _ (ap (λ n. cond (nat_lt (position_or_len is_line_feed (take m (line ++ 10 ∷ t))) (length (take m (line ++ 10 ∷ t)))) (Some n) None) place) (less_true _ _ (omega (arith, place)))

pub next_line-short : (line t : List ℕ) → IsLine line → length line < most → next_line ((line ++ 10 ∷ []) ++ t) ≡ Some (line, t)
next_line-short line t shape short =
    let same : (line ++ 10 ∷ []) ++ t ≡ line ++ 10 ∷ t = append_assoc line (10 ∷ []) t in
    let first : take (length line) ((line ++ 10 ∷ []) ++ t) ≡ line = ap (take (length line)) same ∙ take_at line (10 ∷ t) (length line) refl in
    let rest : drop (length line + 1) ((line ++ 10 ∷ []) ++ t) ≡ t = drop_at (line ++ 10 ∷ []) t (length line + 1) (length-append line (10 ∷ [])) in
    next_line-nonempty ((line ++ 10 ∷ []) ++ t) (omega (arith, length-append (line ++ 10 ∷ []) t, length-append line (10 ∷ [])))
    ∙ ap (λ place. Some (cut_at place ((line ++ 10 ∷ []) ++ t))) (ap (λ bytes. position is_line_feed (take most bytes)) same ∙ feed_place most line t shape short)
    ∙ ap₂ (λ (a b : List ℕ). Some (a, b)) first rest

-- ---- a line that is as long as one may be

no_place : (line : List ℕ) → IsLine line → position is_line_feed line ≡ None
no_place line shape =
    let place : position_or_len is_line_feed line ≡ length line = position_or_len_is is_line_feed line (length line) 0 (omega arith) (λ k h. no_feed (slice_index_or line k 0) (shape.unbroken k 0 h)) (λ h. absurd (omega arith)) in
    missed_by (nat_lt (position_or_len is_line_feed line) (length line)) (position_or_len is_line_feed line) _ refl (less_false _ _ (omega (arith, place)))

pub next_line-long : (line t : List ℕ) → IsLine line → length line ≡ most → next_line (line ++ t) ≡ Some (line, t)
next_line-long line t shape long =
    next_line-nonempty (line ++ t) (omega (arith, length-append line t))
    ∙ ap (λ place. Some (cut_at place (line ++ t))) (ap (position is_line_feed) (take_at line t most long) ∙ no_place line shape)
    ∙ ap₂ (λ (a b : List ℕ). Some (a, b)) (take_at line t most long) (drop_at line t most long)

-- ---- the last bytes, without a line feed

pub next_line-last : (line : List ℕ) → IsLine line → 0 < length line → next_line line ≡ Some (line, [])
next_line-last line shape some =
    let all : take most line ≡ line = take_all most line shape.short in
    next_line-nonempty line some
    ∙ ap (λ place. Some (cut_at place line)) (ap (position is_line_feed) all ∙ no_place line shape)
    ∙ ap₂ (λ (a b : List ℕ). Some (a, b)) all (drop_all most line shape.short)

spelled_by : (b : Bool) (line t : List ℕ) → IsLine line → nat_lt (length line) most ≡ b → next_line ((if b then line ++ 10 ∷ [] else line) ++ t) ≡ Some (line, t)
spelled_by true line t shape h = next_line-short line t shape (grind (arith, nat_tests))
spelled_by false line t shape h = let long : most ≤ length line = grind (arith, nat_tests) in next_line-long line t shape (omega (arith, shape.short))

-- what stands first is given first
pub next_line-spelled : (line t : List ℕ) → IsLine line → next_line (spelled line ++ t) ≡ Some (line, t)
next_line-spelled line t shape = spelled_by (nat_lt (length line) most) line t shape refl

-- every list of lines is what some input gives, whatever comes behind
pub TakesLines-input_of : (lines : List (List ℕ)) (rest : List ℕ) → All IsLine lines → TakesLines (input_of lines rest) rest lines
TakesLines-input_of [] rest h = refl
TakesLines-input_of (line ∷ lines) rest h = (input_of lines rest, next_line-spelled line (input_of lines rest) (All-head IsLine line lines h), TakesLines-input_of lines rest (All-tail IsLine line lines h))
