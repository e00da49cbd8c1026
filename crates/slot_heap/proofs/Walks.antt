-- Walks that end, and how they change with the step.
use Rattle.std.proofs.Common.{◌≡◌, ℕ, suc, zero, ◌<◌, ◌≤◌, ◌≢◌, ◌⊎◌, inl, inr, List, [], ◌∷◌, length, refl, ap, sym, ◌∙◌, subst, arith, Some, map}
use Rattle.std.specs.List.{slice_get, insert, remove}
use Rattle.slot_heap.specs.Walk.{walk, IsWalk, Has}
use Rattle.slot_heap.specs.Chains.{address}

pub same_walk : (step : ℕ → ℕ) (at : ℕ) (xs ys : List ℕ) → IsWalk step at xs → IsWalk step at ys → xs ≡ ys
same_walk step at [] [] v w = refl
same_walk step at [] (y ∷ ys) v w = absurd (omega arith)
same_walk step at (x ∷ xs) [] v w = absurd (omega arith)
same_walk step at (x ∷ xs) (y ∷ ys) v w =
    let e : x ≡ y = omega arith in
    let v' : IsWalk step (step y) xs = subst (λ i. IsWalk step (step i) xs) e v.1 in
    rw e (ap (λ t. y ∷ t) (same_walk step (step y) xs ys v' w.1))

pub length-walk : (step : ℕ → ℕ) (fuel at : ℕ) → length (walk step fuel at) ≤ fuel
unfolding walk
length-walk step zero at = omega arith
length-walk step (suc fuel) zero = omega arith
length-walk step (suc fuel) (suc i) = omega (arith, length-walk step fuel (step i))

-- the walk with enough fuel is the whole walk
pub walk_is : (step : ℕ → ℕ) (fuel at : ℕ) (xs : List ℕ) → IsWalk step at xs → length xs ≤ fuel → walk step fuel at ≡ xs
unfolding walk
walk_is step zero at [] w b = refl
walk_is step (suc fuel) at [] w b = rw w refl
walk_is step zero at (i ∷ is) w b = absurd (omega arith)
walk_is step (suc fuel) at (i ∷ is) w b = rw w.0 (ap (λ t. i ∷ t) (walk_is step fuel (step i) is w.1 (omega arith)))

-- a step that is the same at the places of a walk has the same walk
pub walk_frame : (step step' : ℕ → ℕ) (at : ℕ) (xs : List ℕ) → ((k : ℕ) → Has xs k → step' k ≡ step k) → IsWalk step at xs → IsWalk step' at xs
walk_frame step step' at [] h w = w
walk_frame step step' at (i ∷ is) h w =
    (w.0, rw (h i (inl refl)) (walk_frame step step' (step i) is (λ k p. h k (inr p)) w.1))

-- the rest of a walk from one of its places
pub walk_rest : (step : ℕ → ℕ) (at : ℕ) (xs : List ℕ) (k : ℕ) → IsWalk step at xs → Has xs k → (ys : List ℕ) × IsWalk step (suc k) (k ∷ ys) × (length ys < length xs)
walk_rest step at [] k w h = absurd h
walk_rest step at (i ∷ is) k w (inl e) = (is, (refl, rw (sym e) w.1), omega arith)
walk_rest step at (i ∷ is) k w (inr h) = let r = walk_rest step (step i) is k w.1 h in (r.0, r.1, omega arith)

-- no place comes twice
pub not_again : (step : ℕ → ℕ) (at i : ℕ) (is : List ℕ) → IsWalk step at (i ∷ is) → Has is i → ⊥
not_again step at i is w h =
    let r = walk_rest step (step i) is i w.1 h in
    let e = same_walk step (suc i) (i ∷ is) (i ∷ r.0) (refl, w.1) r.1 in
    let n = ap length e in
    omega arith

pub has_get : (xs : List ℕ) (k a : ℕ) → slice_get xs k ≡ Some a → Has xs a
has_get [] k a e = absurd (cc)
has_get (x ∷ xs) zero a e = inl (cc)
has_get (x ∷ xs) (suc k) a e = inr (has_get xs k a e)

-- a new place after the k-th
pub walk_insert : (step step' : ℕ → ℕ) (at : ℕ) (xs : List ℕ) (k a new : ℕ) → slice_get xs k ≡ Some a → step' a ≡ suc new → step' new ≡ step a → ((j : ℕ) → Has xs j → j ≢ a → step' j ≡ step j) → IsWalk step at xs → IsWalk step' at (insert xs (suc k) new)
walk_insert step step' at [] k a new g e f h w = absurd (cc)
walk_insert step step' at (x ∷ xs) zero a new g e f h w =
    let x_a : x ≡ a = cc in
    let rest = walk_frame step step' (step x) xs (λ j p. h j (inr p) (λ q. not_again step at x xs w (rw (x_a ∙ sym q) p))) w.1 in
    (w.0, (rw x_a e, rw (f, sym x_a) rest))
walk_insert step step' at (x ∷ xs) (suc k) a new g e f h w =
    let away : x ≢ a = λ q. not_again step at x xs w (rw q (has_get xs k a g)) in
    (w.0, rw (h x (inl refl) away) (walk_insert step step' (step x) xs k a new g e f (λ j p. h j (inr p)) w.1))

pub has_insert : (xs : List ℕ) (i y j : ℕ) → Has (insert xs i y) j → (y ≡ j) ⊎ Has xs j
has_insert [] zero y j h = h
has_insert [] (suc i) y j h = h
has_insert (x ∷ xs) zero y j h = h
has_insert (x ∷ xs) (suc i) y j (inl e) = inr (inl e)
has_insert (x ∷ xs) (suc i) y j (inr h) = elim (has_insert xs i y j h) [ inl e ↦ inl e | inr p ↦ inr (inr p) ]

-- the places of a walk are below a bound of the step
pub walk_below : (step : ℕ → ℕ) (n : ℕ) → ((i : ℕ) → step i ≤ n) → (fuel at k : ℕ) → at ≤ n → Has (walk step fuel at) k → k < n
unfolding walk
walk_below step n b zero at k l h = absurd h
walk_below step n b (suc fuel) zero k l h = absurd h
walk_below step n b (suc fuel) (suc i) k l (inl e) = omega arith
walk_below step n b (suc fuel) (suc i) k l (inr h) = walk_below step n b fuel (step i) k (b i) h

-- the place after the k-th
pub walk_next : (step : ℕ → ℕ) (at : ℕ) (xs : List ℕ) (k a : ℕ) → IsWalk step at xs → slice_get xs k ≡ Some a → slice_get (map (λ i. suc i) xs) (suc k) ≡ address (step a)
walk_next step at [] k a w g = absurd (cc)
walk_next step at (x ∷ []) zero a w g = let e : x ≡ a = cc in rw (sym e, w.1) refl
walk_next step at (x ∷ y ∷ ys) zero a w g = let e : x ≡ a = cc in rw (sym e, w.1.0) refl
walk_next step at (x ∷ xs) (suc k) a w g = walk_next step (step x) xs k a w.1 g

-- the place after the k-th is left out
pub walk_remove : (step step' : ℕ → ℕ) (at : ℕ) (xs : List ℕ) (k a b : ℕ) → slice_get xs k ≡ Some a → step a ≡ suc b → step' a ≡ step b → ((j : ℕ) → Has xs j → j ≢ a → step' j ≡ step j) → IsWalk step at xs → IsWalk step' at (remove xs (suc k))
walk_remove step step' at [] k a b g e f h w = absurd (cc)
walk_remove step step' at (x ∷ []) zero a b g e f h w = let q : x ≡ a = cc in absurd (let z : step a ≡ 0 = rw q at w.1 in omega arith)
walk_remove step step' at (x ∷ y ∷ ys) zero a b g e f h w =
    let x_a : x ≡ a = cc in
    let first : step x ≡ suc y = w.1.0 in
    let y_b : y ≡ b = let z = ap step x_a in omega arith in
    let rest = walk_frame step step' (step y) ys (λ j p. h j (inr (inr p)) (λ q. not_again step at x (y ∷ ys) w (rw (x_a ∙ sym q) (inr p)))) w.1.1 in
    (w.0, rw (x_a, f, sym y_b) rest)
walk_remove step step' at (x ∷ xs) (suc k) a b g e f h w =
    let away : x ≢ a = λ q. not_again step at x xs w (rw q (has_get xs k a g)) in
    (w.0, rw (h x (inl refl) away) (walk_remove step step' (step x) xs k a b g e f (λ j p. h j (inr p)) w.1))

pub has_remove : (xs : List ℕ) (i j : ℕ) → Has (remove xs i) j → Has xs j
has_remove [] zero j h = h
has_remove [] (suc i) j h = h
has_remove (x ∷ xs) zero j h = inr h
has_remove (x ∷ xs) (suc i) j (inl e) = inl e
has_remove (x ∷ xs) (suc i) j (inr h) = inr (has_remove xs i j h)
