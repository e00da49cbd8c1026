-- Tables by address.
use Rattle.std.proofs.Common.{◌≡◌, ℕ, suc, zero, ◌<◌, ◌≤◌, ◌≢◌, inl, inr, ◌++◌, refl, ap, ap₂, sym, ◌∙◌, arith, Option, Some, None}
use Rattle.std.proofs.lemmas.Bool.{cases_eq, eq-eqb, ne_eqb}
use Rattle.std.proofs.lemmas.List.{map-append}
use Rattle.slot_heap.specs.Chains.{entry, table, update}

pub table_same : {X : Type 0} (f g : ℕ → Option X) (n : ℕ) → ((i : ℕ) → i < n → g i ≡ f i) → table g n ≡ table f n
table_same f g zero h = refl
table_same f g (suc n) h =
    rw (h n (omega arith)) (ap (λ t. t ++ entry (suc n) (f n)) (table_same f g n (λ i l. h i (omega arith))))

-- the entry of one place is replaced
update_entry_same : {X : Type 0} (n : ℕ) (x' : X) (o : Option X) (x : X) → o ≡ Some x → update (suc n) x' (entry (suc n) o) ≡ entry (suc n) (Some x')
update_entry_same n x' None x e = absurd (cc)
update_entry_same n x' (Some y) x e = rw (eq-eqb (suc n) (suc n) refl) refl

update_entry_other : {X : Type 0} (n i : ℕ) (x' : X) (o : Option X) → (n ≡ i → ⊥) → update (suc i) x' (entry (suc n) o) ≡ entry (suc n) o
update_entry_other n i x' None d = refl
update_entry_other n i x' (Some y) d = rw (ne_eqb (suc n) (suc i) (λ e. d (omega arith))) refl

pub update_past : {X : Type 0} (f : ℕ → Option X) (n i : ℕ) (x' : X) → n ≤ i → update (suc i) x' (table f n) ≡ table f n
update_past f zero i x' l = refl
update_past f (suc n) i x' l =
    map-append _ (table f n) (entry (suc n) (f n)) ∙ ap₂ ◌++◌ (update_past f n i x' (omega arith)) (update_entry_other n i x' (f n) (omega arith))

pub table_update : {X : Type 0} (f g : ℕ → Option X) (n i : ℕ) (x x' : X) → i < n → f i ≡ Some x → g i ≡ Some x' → ((j : ℕ) → j < n → j ≢ i → g j ≡ f j) → table g n ≡ update (suc i) x' (table f n)
table_update f g zero i x x' l e e' h = absurd (omega arith)
table_update f g (suc n) i x x' l e e' h = elim (cases_eq n i) [
  | inl q ↦
      let same : table g n ≡ table f n = table_same f g n (λ j l'. h j (omega arith) (omega arith)) in
      let past : update (suc i) x' (table f n) ≡ table f n = update_past f n i x' (omega arith) in
      let last : update (suc i) x' (entry (suc n) (f n)) ≡ entry (suc n) (Some x') = rw (sym q) (update_entry_same n x' (f n) x (rw q e)) in
      let g_n : g n ≡ Some x' = rw q e' in
      rw (g_n, same) (sym (map-append _ (table f n) (entry (suc n) (f n)) ∙ ap₂ ◌++◌ past last))
  | inr d ↦
      let rest : table g n ≡ update (suc i) x' (table f n) = table_update f g n i x x' (omega arith) e e' (λ j l' q. h j (omega arith) q) in
      let last : update (suc i) x' (entry (suc n) (f n)) ≡ entry (suc n) (f n) = update_entry_other n i x' (f n) d in
      rw (h n (omega arith) d, rest) (sym (map-append _ (table f n) (entry (suc n) (f n)) ∙ ap (λ t. update (suc i) x' (table f n) ++ t) last))
]
