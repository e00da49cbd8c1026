-- Cutting a list into parts.
use Rattle.std.proofs.Common.{◌≡◌, ℕ, suc, zero, ◌-◌, ◌<◌, ◌≤◌, List, [], ◌∷◌, length, take, drop, refl, ap, arith, length-drop}
use Rattle.js_value.specs.Text.{parts, parts_after}

-- the parts after the first elements are the parts of what is left
pub parts_after-drop : (size : List ℕ → ℕ) (passed : ℕ) (list : List ℕ) → parts_after size passed list ≡ parts size (drop passed list)
parts_after-drop size zero list = refl
parts_after-drop size (suc passed) [] = refl
parts_after-drop size (suc passed) (first ∷ rest) = parts_after-drop size passed rest

-- the first part, and the parts of the rest
pub parts-split : (size : List ℕ → ℕ) (list : List ℕ) (n : ℕ) → 0 < length list → 0 < n → size list ≡ n → parts size list ≡ take n list ∷ parts size (drop n list)
parts-split size [] n some positive e = absurd (omega arith)
parts-split size (first ∷ rest) zero some positive e = absurd (omega arith)
parts-split size (first ∷ rest) (suc n) some positive e =
    rw e (let d : suc n - 1 ≡ n = omega arith in rw d (ap (λ p. take (suc n) (first ∷ rest) ∷ p) (parts_after-drop size n rest)))

-- what holds of the empty list, and of each list where it holds of what is left after its first part, holds of all
pub by_parts_within : (size : List ℕ → ℕ) (P : List ℕ → Type 0) → P [] → ((list : List ℕ) → 0 < length list → P (drop (size list) list) → P list) → ((list : List ℕ) → 0 < size list) → (bound : ℕ) (list : List ℕ) → length list ≤ bound → P list
by_parts_within size P none step positive zero [] h = none
by_parts_within size P none step positive zero (x ∷ xs) h = absurd (omega arith)
by_parts_within size P none step positive (suc bound) [] h = none
by_parts_within size P none step positive (suc bound) (x ∷ xs) h =
    let left : length (drop (size (x ∷ xs)) (x ∷ xs)) ≤ bound = omega (arith, length-drop (size (x ∷ xs)) (x ∷ xs), positive (x ∷ xs))
    in step (x ∷ xs) (omega arith) (by_parts_within size P none step positive bound (drop (size (x ∷ xs)) (x ∷ xs)) left)

pub by_parts : (size : List ℕ → ℕ) (P : List ℕ → Type 0) → P [] → ((list : List ℕ) → 0 < length list → P (drop (size list) list) → P list) → ((list : List ℕ) → 0 < size list) → (list : List ℕ) → P list
by_parts size P none step positive list = by_parts_within size P none step positive (length list) list (omega arith)
