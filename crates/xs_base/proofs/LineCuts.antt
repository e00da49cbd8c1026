-- The cut of a line.
use Rattle.std.proofs.Common.{◌≡◌, ◌≢◌, ◌≤◌, ◌<◌, ◌+◌, ◌∙◌, ℕ, Bool, true, false, nat_lt, All, List, [], ◌∷◌, length, min, take, drop, Option, Some, None, MatchOption, cond, slice_index_or, ap, ap₂, refl, sym, subst, arith}
use Rattle.std.specs.List.{position, position_or_len}
use Rattle.std.proofs.lemmas.Bool.Decides.{nat_tests}
use Rattle.std.proofs.lemmas.List.{take_min, drop_min, take-take, length-take, get_or-take}
use Rattle.std.proofs.lemmas.List.Sums.{fails_before_first}
use Rattle.xs_base.specs.Line.{next_line, cut_at, is_line_feed, most, IsLine}

pub next_line-nonempty : (bytes : List ℕ) → 0 < length bytes → next_line bytes ≡ Some (cut_at (position is_line_feed (take most bytes)) bytes)
next_line-nonempty [] h = absurd (omega arith)
next_line-nonempty (b ∷ bytes) h = refl

-- the code looks in a window that is no longer than the bytes
window-most : (bytes window : List ℕ) (m : ℕ) → window ≡ take m bytes → m ≡ min most (length bytes) → window ≡ take most bytes
window-most bytes window m w e = w ∙ ap (λ k. take k bytes) e ∙ take_min most bytes

next_line-at : (bytes window : List ℕ) (m : ℕ) (found : Option ℕ) → 0 < length bytes → window ≡ take m bytes → m ≡ min most (length bytes) → found ≡ position is_line_feed window → next_line bytes ≡ Some (cut_at found bytes)
next_line-at bytes window m found h w e p = next_line-nonempty bytes h ∙ ap (λ o. Some (cut_at o bytes)) (ap (position is_line_feed) (sym (window-most bytes window m w e)) ∙ sym p)

pub next_line-found : (bytes window : List ℕ) (m end : ℕ) → 0 < length bytes → window ≡ take m bytes → m ≡ min most (length bytes) → Some end ≡ position is_line_feed window → next_line bytes ≡ Some (take end bytes, drop (end + 1) bytes)
next_line-found bytes window m end h w e p = next_line-at bytes window m (Some end) h w e p

pub next_line-missed : (bytes window : List ℕ) (m n : ℕ) → 0 < length bytes → window ≡ take m bytes → m ≡ min most (length bytes) → None ≡ position is_line_feed window → n ≡ m → next_line bytes ≡ Some (take n bytes, drop n bytes)
next_line-missed bytes window m n h w e p q = next_line-at bytes window m None h w e p ∙ sym (ap (λ k. Some (take k bytes, drop k bytes)) (q ∙ e) ∙ ap₂ (λ a b. Some (a, b)) (take_min most bytes) (drop_min most bytes))

-- ---- the shape of what is cut

place_by : (b : Bool) (place size : ℕ) (found : Option ℕ) → nat_lt place size ≡ b → found ≡ cond b (Some place) None → MatchOption found (size ≤ place) (λ i. (i ≡ place) × (i < size))
place_by true place size None h e = absurd (cc)
place_by true place size (Some i) h e = let same : i ≡ place = cc in (same, subst (λ n. n < size) (sym same) (grind (arith, nat_tests)))
place_by false place size None h e = grind (arith, nat_tests)
place_by false place size (Some i) h e = absurd (cc)

place_of : (xs : List ℕ) (found : Option ℕ) → found ≡ position is_line_feed xs → MatchOption found (length xs ≤ position_or_len is_line_feed xs) (λ i. (i ≡ position_or_len is_line_feed xs) × (i < length xs))
place_of xs found e = place_by (nat_lt (position_or_len is_line_feed xs) (length xs)) (position_or_len is_line_feed xs) (length xs) found refl e

-- no line feed lies before the first one
unbroken_front : (window : List ℕ) (n : ℕ) → n ≤ position_or_len is_line_feed window → All (λ b. b ≢ 10) (take n window)
unbroken_front window n h = λ k d within is.
    let before : k < n = omega (arith, length-take n window) in
    let fails : is_line_feed (slice_index_or window k d) ≡ false = fails_before_first is_line_feed window k d (omega arith) in
    let here : slice_index_or window k d ≡ 10 = sym (get_or-take n window k d before) ∙ is in
    let bad : true ≡ false = subst (λ b. is_line_feed b ≡ false) here fails in cc

IsLine-front : (bytes : List ℕ) (n : ℕ) → n ≤ most → n ≤ position_or_len is_line_feed (take most bytes) → IsLine (take n bytes)
IsLine-front bytes n short h = record {
  short = omega (arith, length-take n bytes);
  unbroken = subst (All (λ b. b ≢ 10)) (take-take n most bytes short) (unbroken_front (take most bytes) n h);
}

pub IsLine-found : (bytes window : List ℕ) (m end : ℕ) → window ≡ take m bytes → m ≡ min most (length bytes) → Some end ≡ position is_line_feed window → IsLine (take end bytes)
IsLine-found bytes window m end w e p =
    let whole : window ≡ take most bytes = window-most bytes window m w e in
    let at : (end ≡ position_or_len is_line_feed (take most bytes)) × (end < length (take most bytes)) = place_of (take most bytes) (Some end) (p ∙ ap (position is_line_feed) whole) in
    IsLine-front bytes end (omega (arith, length-take most bytes)) (omega arith)

pub IsLine-missed : (bytes window : List ℕ) (m n : ℕ) → window ≡ take m bytes → m ≡ min most (length bytes) → None ≡ position is_line_feed window → n ≡ m → IsLine (take n bytes)
IsLine-missed bytes window m n w e p q =
    let whole : window ≡ take most bytes = window-most bytes window m w e in
    let past : length (take most bytes) ≤ position_or_len is_line_feed (take most bytes) = place_of (take most bytes) None (p ∙ ap (position is_line_feed) whole) in
    IsLine-front bytes n (omega arith) (omega (arith, length-take most bytes))
