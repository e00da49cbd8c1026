-- A text cut at its first quote.
use Rattle.std.proofs.Common.{◌≡◌, ◌∙◌, ◌<◌, ◌≤◌, ℕ, zero, suc, Bool, true, false, cond, nat_lt, List, [], ◌∷◌, length, take, drop, Some, None, refl, ap, subst, arith}
use Rattle.std.proofs.lemmas.List.Recursion.{is_position_or_len}
use Rattle.std.specs.List.{position, position_or_len}
use borrow.Author.Tests.{ltb-true, ltb-false}
use Rattle.xs_cli.specs.Thin.{parts, cut_by, joined, is_quote}

-- the place of the first quote, or the length
pub at : List ℕ → ℕ
at [] = 0
at (x ∷ xs) = cond (is_quote x) 0 (suc (at xs))

at_is : (s : List ℕ) → at s ≡ position_or_len is_quote s
unfolding at
at_is s = is_position_or_len at is_quote refl (λ x xs. ap (cond (is_quote x) 0) (omega arith)) s

abbrev Found : List ℕ → ℕ → Type 0
Found s i = parts s ≡ take i s ∷ parts (drop (suc i) s)

found_by : (b : Bool) (x : ℕ) (xs : List ℕ) → (at xs < length xs → Found xs (at xs)) → cond b 0 (suc (at xs)) < length (x ∷ xs) → cut_by b x (parts xs) ≡ take (cond b 0 (suc (at xs))) (x ∷ xs) ∷ parts (drop (suc (cond b 0 (suc (at xs)))) (x ∷ xs))
found_by true x xs later h = refl
found_by false x xs later h = ap (joined x) (later (omega arith))

found : (s : List ℕ) → at s < length s → Found s (at s)
unfolding at parts
found [] h = absurd (omega arith)
found (x ∷ xs) h = found_by (is_quote x) x xs (found xs) h

whole_by : (b : Bool) (x : ℕ) (xs : List ℕ) → (length xs ≤ at xs → parts xs ≡ xs ∷ []) → length (x ∷ xs) ≤ cond b 0 (suc (at xs)) → cut_by b x (parts xs) ≡ (x ∷ xs) ∷ []
whole_by true x xs later h = absurd (omega arith)
whole_by false x xs later h = ap (joined x) (later (omega arith))

whole : (s : List ℕ) → length s ≤ at s → parts s ≡ s ∷ []
unfolding at parts
whole [] h = refl
whole (x ∷ xs) h = whole_by (is_quote x) x xs (whole xs) h

-- ---- from the words of a search

abbrev pub IsCut : List ℕ → ℕ → Type 0
IsCut s i = (parts s ≡ take i s ∷ parts (drop (suc i) s)) × (i < length s)

some_by : (s : List ℕ) (b : Bool) (i : ℕ) → nat_lt (position_or_len is_quote s) (length s) ≡ b → cond b (Some (position_or_len is_quote s)) None ≡ Some i → IsCut s i
some_by s true i t e =
    let same : position_or_len is_quote s ≡ i = cc in
    let before : at s < length s = rw (at_is s) (ltb-true _ _ t) in
    subst (IsCut s) (at_is s ∙ same) (found s before, before)
some_by s false i t e = absurd (cc)

pub cut_some : (s : List ℕ) (i : ℕ) → position is_quote s ≡ Some i → IsCut s i
cut_some s i e = some_by s (nat_lt (position_or_len is_quote s) (length s)) i refl e

none_by : (s : List ℕ) (b : Bool) → nat_lt (position_or_len is_quote s) (length s) ≡ b → cond b (Some (position_or_len is_quote s)) None ≡ None → parts s ≡ s ∷ []
none_by s true t e = absurd (cc)
none_by s false t e = whole s (rw (at_is s) (ltb-false _ _ t))

pub cut_none : (s : List ℕ) → position is_quote s ≡ None → parts s ≡ s ∷ []
cut_none s e = none_by s (nat_lt (position_or_len is_quote s) (length s)) refl e

pub drop_one : (s : List ℕ) (i : ℕ) → drop 1 (drop i s) ≡ drop (suc i) s
drop_one s zero = refl
drop_one [] (suc i) = refl
drop_one (x ∷ s) (suc i) = drop_one s i
