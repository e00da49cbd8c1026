-- Chains and lists of places.
use Rattle.std.proofs.Common.{◌≡◌, ℕ, suc, zero, ◌<◌, ◌≤◌, inl, inr, List, [], ◌∷◌, length, get_or, take, drop, map, refl, ap, ap₂, ◌∙◌, arith, Some, length-append}
use Rattle.std.specs.List.{slice_get, insert, remove}
use Rattle.std.proofs.lemmas.List.{map-append, take-map, drop-map, take-append-drop}
use Rattle.slot_heap.specs.declared.slot.Slot.{Slot}
use Rattle.slot_heap.specs.Walk.{IsWalk, Has}
use Rattle.slot_heap.specs.Chains.{step_of, chain}
use Rattle.slot_heap.proofs.Walks.{length-walk, walk_is}

pub map_has : {X : Type 0} (f g : ℕ → X) (xs : List ℕ) → ((k : ℕ) → Has xs k → f k ≡ g k) → map f xs ≡ map g xs
map_has f g [] h = refl
map_has f g (x ∷ xs) h = ap₂ ◌∷◌ (h x (inl refl)) (map_has f g xs (λ k p. h k (inr p)))

pub map_insert : {X : Type 0} (f : ℕ → X) (xs : List ℕ) (i y : ℕ) → map f (insert xs i y) ≡ insert (map f xs) i (f y)
map_insert f xs i y = simp (map-append, take-map, drop-map)

pub map_remove : {X : Type 0} (f : ℕ → X) (xs : List ℕ) (i : ℕ) → map f (remove xs i) ≡ remove (map f xs) i
map_remove f xs i = simp (map-append, take-map, drop-map)

pub length_insert_any : {X : Type 0} (xs : List X) (i : ℕ) (y : X) → length (insert xs i y) ≡ suc (length xs)
length_insert_any xs i y =
    let e = ap length (take-append-drop i xs) in
    let f = length-append (take i xs) (drop i xs) in
    length-append (take i xs) (y ∷ drop i xs) ∙ omega arith

pub length_remove : {X : Type 0} (xs : List X) (i : ℕ) → length (remove xs i) ≤ length xs
length_remove [] zero = omega arith
length_remove [] (suc i) = omega arith
length_remove (x ∷ xs) zero = omega arith
length_remove (x ∷ xs) (suc i) = let l = length_remove xs i in omega arith

pub length_chain : (s : List Slot) (at : ℕ) → length (chain s at) ≤ length s
unfolding chain
length_chain s at = length-walk (step_of s) (length s) at

-- the chain from an address, where these places are a walk there
pub chain_is : (s : List Slot) (at : ℕ) (xs : List ℕ) → IsWalk (step_of s) at xs → length xs ≤ length s → chain s at ≡ xs
unfolding chain
chain_is s at xs w l = walk_is (step_of s) (length s) at xs w l

-- the k-th address is one above the k-th place
pub place_of : (xs : List ℕ) (k at : ℕ) → slice_get (map (λ i. suc i) xs) k ≡ Some at → (a : ℕ) × (at ≡ suc a) × (slice_get xs k ≡ Some a)
place_of [] k at e = absurd (cc)
place_of (x ∷ xs) zero at e = (x, cc, refl)
place_of (x ∷ xs) (suc k) at e = place_of xs k at e

pub slice_get_within : {X : Type 0} (xs : List X) (k : ℕ) → k < length xs → (x : X) × (slice_get xs k ≡ Some x)
slice_get_within [] k l = absurd (omega arith)
slice_get_within (x ∷ xs) zero l = (x, refl)
slice_get_within (x ∷ xs) (suc k) l = slice_get_within xs k (omega arith)

pub get_or_some : {X : Type 0} (xs : List X) (k : ℕ) (d x : X) → slice_get xs k ≡ Some x → get_or xs k d ≡ x
get_or_some [] k d x e = absurd (cc)
get_or_some (y ∷ ys) zero d x e = cc
get_or_some (y ∷ ys) (suc k) d x e = get_or_some ys k d x e
