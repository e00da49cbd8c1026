-- Prototype chains end, and stay so.
use Rattle.std.proofs.Common.{◌≡◌, ◌≢◌, ℕ, zero, suc, ◌<◌, Bool, true, false, ◌||◌, [], ◌∷◌, ◌++◌, length, set, ◌==◌, arith, refl, sym, ap, ◌∙◌, subst, Option, Some, None, slice_get, eq-eqb, inl, inr, ◌⊎◌}
use Rattle.std.proofs.lemmas.Bool.{cases_eq}
use Rattle.js_value.specs.Store.{Store, Thing, object_in, as_object}
use Rattle.js_value.specs.WellFormed.{ChainEnds, Ended, Next, IfNumberBelow}
use Rattle.es_ops.specs.InternalMethods.{on_chain, longest}

-- ---- what stands at a place

-- a property of what stands at a place is kept by a write of a thing that has it
pub set_keeps : (P : Option Thing → Type 0) (s : Store) (n k : ℕ) (t : Thing) → P (Some t) → P (slice_get s k) → P (slice_get (set s n t) k)
set_keeps P [] n k t new old = old
set_keeps P (x ∷ s) zero zero t new old = new
set_keeps P (x ∷ s) zero (suc k) t new old = old
set_keeps P (x ∷ s) (suc n) zero t new old = old
set_keeps P (x ∷ s) (suc n) (suc k) t new old = set_keeps P s n k t new old

-- and by the addition of one that has it
pub append_keeps : (P : Option Thing → Type 0) (s : Store) (k : ℕ) (t : Thing) → P (Some t) → P None → P (slice_get s k) → P (slice_get (s ++ t ∷ []) k)
append_keeps P [] zero t new none old = new
append_keeps P [] (suc k) t new none old = none
append_keeps P (x ∷ s) zero t new none old = old
append_keeps P (x ∷ s) (suc k) t new none old = append_keeps P s k t new none old

-- ---- chains over stores with the same prototypes

pub same_chain : (s u : Store) → ((n : ℕ) → (object_in u n).prototype ≡ (object_in s n).prototype) → (p : Option ℕ) → ChainEnds s p → ChainEnds u p
same_chain s u same p Ended = Ended
same_chain s u same p (Next n c) = Next n (subst (ChainEnds u) (sym (same n)) (same_chain s u same (object_in s n).prototype c))

-- ---- a write that keeps the object's prototype

HasPrototype : Option ℕ → Option Thing → Type 0
HasPrototype p t = (as_object t).prototype ≡ p

set_prototype_stays : (s : Store) (n k : ℕ) (t : Thing) → (as_object (Some t)).prototype ≡ (as_object (slice_get s n)).prototype → (as_object (slice_get (set s n t) k)).prototype ≡ (as_object (slice_get s k)).prototype
set_prototype_stays [] n k t e = refl
set_prototype_stays (x ∷ s) zero zero t e = e
set_prototype_stays (x ∷ s) zero (suc k) t e = refl
set_prototype_stays (x ∷ s) (suc n) zero t e = refl
set_prototype_stays (x ∷ s) (suc n) (suc k) t e = set_prototype_stays s n k t e

pub set_chain : (s : Store) (n : ℕ) (t : Thing) → (as_object (Some t)).prototype ≡ (object_in s n).prototype → (p : Option ℕ) → ChainEnds s p → ChainEnds (set s n t) p
unfolding object_in
set_chain s n t e p c = same_chain s (set s n t) (λ k. set_prototype_stays s n k t e) p c

-- ---- a new thing

append_same : (s : Store) (k : ℕ) (t : Thing) → k < length s → slice_get (s ++ t ∷ []) k ≡ slice_get s k
append_same [] k t l = absurd (omega arith)
append_same (x ∷ s) zero t l = refl
append_same (x ∷ s) (suc k) t l = append_same s k t (omega arith)

append_old : (s : Store) (t : Thing) → ((n : ℕ) → IfNumberBelow (length s) (object_in s n).prototype) → (p : Option ℕ) → IfNumberBelow (length s) p → ChainEnds s p → ChainEnds (s ++ t ∷ []) p
unfolding object_in
append_old s t closed p b Ended = Ended
append_old s t closed p b (Next n c) =
    Next n (subst (λ x. ChainEnds (s ++ t ∷ []) (as_object x).prototype) (sym (append_same s n t b)) (append_old s t closed (object_in s n).prototype (closed n) c))

pub append_new : (s : Store) (t : Thing) → slice_get (s ++ t ∷ []) (length s) ≡ Some t
append_new [] t = refl
append_new (x ∷ s) t = append_new s t

append_past : (s : Store) (t : Thing) (k : ℕ) → length s < k → slice_get (s ++ t ∷ []) k ≡ None
append_past [] t zero l = absurd (omega arith)
append_past [] t (suc k) l = refl
append_past (x ∷ s) t zero l = absurd (omega arith)
append_past (x ∷ s) t (suc k) l = append_past s t k (omega arith)

pub append_chain : (s : Store) (t : Thing) → ((n : ℕ) → IfNumberBelow (length s) (object_in s n).prototype) → ((n : ℕ) → ChainEnds s (Some n)) → IfNumberBelow (length s) (as_object (Some t)).prototype → (n : ℕ) → ChainEnds (s ++ t ∷ []) (Some n)
unfolding object_in
append_chain s t closed chains b n = Next n (by_place (compared n (length s)))
  where
    old_or_none : (p : Option ℕ) → IfNumberBelow (length s) p → ChainEnds s p
    old_or_none None c = Ended
    old_or_none (Some q) c = chains q

    compared : (a c : ℕ) → (a < c) ⊎ ((a ≡ c) ⊎ (c < a))
    compared a c = grind arith

    by_place : ((n < length s) ⊎ ((n ≡ length s) ⊎ (length s < n))) → ChainEnds (s ++ t ∷ []) (as_object (slice_get (s ++ t ∷ []) n)).prototype
    by_place (inl l) = subst (λ x. ChainEnds (s ++ t ∷ []) (as_object x).prototype) (sym (append_same s n t l)) (append_old s t closed (object_in s n).prototype (closed n) (old_or_none (object_in s n).prototype (closed n)))
    by_place (inr (inl e)) = subst (λ x. ChainEnds (s ++ t ∷ []) (as_object x).prototype) (sym (ap (slice_get (s ++ t ∷ [])) e ∙ append_new s t)) (append_old s t closed (as_object (Some t)).prototype b (old_or_none (as_object (Some t)).prototype b))
    by_place (inr (inr l)) = subst (λ x. ChainEnds (s ++ t ∷ []) (as_object x).prototype) (sym (append_past s t n l)) Ended

-- ---- a prototype that is set

set_here : (P : Option Thing → Type 0) (s : Store) (n : ℕ) (t : Thing) → P (Some t) → P None → P (slice_get (set s n t) n)
set_here P [] n t new none = none
set_here P (x ∷ s) zero t new none = new
set_here P (x ∷ s) (suc n) t new none = set_here P s n t new none

get-set_other : (s : Store) (i j : ℕ) (t : Thing) → i ≢ j → slice_get (set s i t) j ≡ slice_get s j
get-set_other [] i j t d = refl
get-set_other (z ∷ s) zero zero t d = absurd (d refl)
get-set_other (z ∷ s) zero (suc j) t d = refl
get-set_other (z ∷ s) (suc i) zero t d = refl
get-set_other (z ∷ s) (suc i) (suc j) t d = get-set_other s i j t (λ e. d (ap (λ n. suc n) e))

none_of : (a b : Bool) → (a || b) ≡ false → (a ≡ false) × (b ≡ false)
none_of false false e = (refl, refl)
none_of true b e = absurd (cc)
none_of false true e = absurd (cc)

apart : (p n : ℕ) → (p == n) ≡ false → n ≢ p
apart p n d = λ e. let t : (p == n) ≡ true = eq-eqb p n (sym e) in absurd (cc)

-- the chain that doesn't come back ends in the store after, too
turned_chain : (fuel : ℕ) (s : Store) (n : ℕ) (t : Thing) (v : Option ℕ) → on_chain fuel s n v ≡ false → ChainEnds (set s n t) v
unfolding on_chain object_in
turned_chain fuel s n t None e = Ended
turned_chain zero s n t (Some p) e = absurd (cc)
turned_chain (suc fuel) s n t (Some p) e =
    let both : ((p == n) ≡ false) × (on_chain fuel s n (object_in s p).prototype ≡ false) = none_of (p == n) (on_chain fuel s n (object_in s p).prototype) e in
    Next p (subst (λ x. ChainEnds (set s n t) (as_object x).prototype) (sym (get-set_other s n p t (apart p n both.0))) (turned_chain fuel s n t (object_in s p).prototype both.1))

pub prototype_chain : (s : Store) (n : ℕ) (t : Thing) → on_chain longest s n (as_object (Some t)).prototype ≡ false → (p : Option ℕ) → ChainEnds s p → ChainEnds (set s n t) p
unfolding object_in
prototype_chain s n t e p Ended = Ended
prototype_chain s n t e p (Next k c) = Next k (elim (cases_eq n k) [
  | inl q ↦ subst (λ j. ChainEnds (set s n t) (as_object (slice_get (set s n t) j)).prototype) q
      (set_here (λ x. ChainEnds (set s n t) (as_object x).prototype) s n t (turned_chain longest s n t (as_object (Some t)).prototype e) Ended)
  | inr d ↦ subst (λ x. ChainEnds (set s n t) (as_object x).prototype) (sym (get-set_other s n k t d)) (prototype_chain s n t e (object_in s k).prototype c)
])

-- a thing without a prototype ends each chain that comes to it
pub cut_chain : (s : Store) (n : ℕ) (t : Thing) → (as_object (Some t)).prototype ≡ None → (p : Option ℕ) → ChainEnds s p → ChainEnds (set s n t) p
unfolding on_chain
cut_chain s n t e p c = prototype_chain s n t (ap (on_chain longest s n) e) p c
