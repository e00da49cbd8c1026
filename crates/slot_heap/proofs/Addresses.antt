-- Where the realm's things are made.
use Rattle.std.proofs.Common.{◌≡◌, ℕ, zero, suc, ◌+◌, ◌-◌, ◌*◌, ◌<◌, ◌≤◌, inl, inr, Bool, true, false, refl, sym, subst, arith}
use Rattle.std.specs.Prelude.{◌==◌, ◌&&◌}
use Rattle.std.proofs.lemmas.Bool.{cases_eq, eqb-true}
use Rattle.slot_heap.specs.Held.{realm_address}

abbrev all_below : (ℕ → Bool) → ℕ → Bool
all_below p zero = true
all_below p (suc n) = p n && all_below p n

both : (a b : Bool) → (a && b) ≡ true → (a ≡ true) × (b ≡ true)
both true true e = (refl, refl)
both true false e = absurd (cc)
both false b e = absurd (cc)

below : (p : ℕ → Bool) (n i : ℕ) → all_below p n ≡ true → i < n → p i ≡ true
below p zero i e l = absurd (omega arith)
below p (suc n) i e l = let q = both (p n) (all_below p n) e in elim (cases_eq i n) [
  | inl f ↦ subst (λ m. p m ≡ true) (sym f) q.0
  | inr d ↦ below p n i q.1 (omega arith)
]

pub prototypes : (at : ℕ) → 2 ≤ at → at < 13 → at + 2 ≡ realm_address at
prototypes at l m =
    let e : 2 + (at - 2) ≡ at = omega arith in
    subst (λ n. n + 2 ≡ realm_address n) e (eqb-true _ _ (below (λ i. 2 + i + 2 == realm_address (2 + i)) 11 (at - 2) refl (omega arith)))

pub functions : (at : ℕ) → 13 ≤ at → at < 102 → 2 * at - 10 ≡ realm_address at
functions at l m =
    let e : 13 + (at - 13) ≡ at = omega arith in
    subst (λ n. 2 * n - 10 ≡ realm_address n) e (eqb-true _ _ (below (λ i. 2 * (13 + i) - 10 == realm_address (13 + i)) 89 (at - 13) refl (omega arith)))
