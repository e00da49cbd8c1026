-- A thing of one slot is made behind all others.
use Rattle.std.proofs.Common.{◌≡◌, ℕ, suc, ◌<◌, ◌≢◌, ◌⊎◌, inl, inr, Bool, true, false, cond, List, [], ◌∷◌, ◌++◌, length, get_or, refl, ap, sym, ◌∙◌, arith, Some, None}
use Rattle.std.specs.Prelude.{IsTrue}
use Rattle.std.proofs.lemmas.Bool.{cases_eq, cases_lt}
use Rattle.std.proofs.lemmas.List.{get_or_past, get_or_push, get_or_append_left, length_push}
use Rattle.slot_heap.specs.declared.slot.Slot.{Slot}
use Rattle.slot_heap.specs.Slot.{blank}
use Rattle.slot_heap.specs.Walk.{IsWalk, Has}
use Rattle.slot_heap.specs.Chains.{step_of, chain, cell, Chained, cells_at, thing_in, shown_in}
use Rattle.slot_heap.proofs.Walks.{walk_frame}
use Rattle.slot_heap.proofs.Tables.{table_same}
use Rattle.slot_heap.proofs.Chains.{map_has, length_chain, chain_is}
use Rattle.slot_heap.proofs.Linked.{chain_below}

-- the new thing's head stands at place `length s`
pub record Begins (t t' : ℕ → Bool) (home home' : ℕ → ℕ) (s : List Slot) : Type 0 where
  pub new_thing : IsTrue (t' (length s))
  pub new_home : home' (length s) ≡ suc (length s)
  pub same_thing : (j : ℕ) → j ≢ length s → t' j ≡ t j
  pub same_home : (j : ℕ) → j ≢ length s → home' j ≡ home j

module _ (t t' : ℕ → Bool) (home home' : ℕ → ℕ) (s : List Slot) (h : Slot) (sound : Chained t home s) (ends_here : h.next ≡ 0) (begins : Begins t t' home home' s) where
  abbrev pub grown_by : List Slot
  grown_by = s ++ h ∷ []

  pub len : length grown_by ≡ suc (length s)
  len = length_push s h ∙ omega arith

  below : (j : ℕ) → j < length s → get_or grown_by j blank ≡ get_or s j blank
  below j l = get_or_append_left s (h ∷ []) blank j l

  new : get_or grown_by (length s) blank ≡ h
  new = get_or_push s h blank (length s) refl

  other : (j : ℕ) → j ≢ length s → get_or grown_by j blank ≡ get_or s j blank
  other j d = elim (cases_lt j (length s)) [
    | inl l ↦ below j l
    | inr l ↦ get_or_past grown_by j blank (let e = len in omega arith) ∙ sym (get_or_past s j blank l)
  ]

  step_other : (j : ℕ) → j ≢ length s → step_of grown_by j ≡ step_of s j
  unfolding step_of
  step_other j d = ap (λ (x : Slot). x.next) (other j d)

  step_new : step_of grown_by (length s) ≡ 0
  unfolding step_of
  step_new = ap (λ (x : Slot). x.next) new ∙ ends_here

  -- an old thing
  old : (j : ℕ) → IsTrue (t j) → (j ≢ length s) × (home' j ≡ home j)
  old j u = let w = (sound.within j u).1 in (omega arith, begins.same_home j (omega arith))

  walked_new : IsWalk (step_of grown_by) (suc (length s)) (length s ∷ [])
  walked_new = (refl, step_new)

  walked_old : (j : ℕ) → IsTrue (t j) → IsWalk (step_of grown_by) (home j) (chain s (home j))
  walked_old j u = walk_frame (step_of s) (step_of grown_by) (home j) (chain s (home j)) (λ m p. step_other m (let l = chain_below t home s sound j m u p in omega arith)) (sound.ends j u)

  pub chain_new : chain grown_by (home' (length s)) ≡ length s ∷ []
  chain_new = rw begins.new_home (chain_is grown_by _ _ walked_new (let e = len in omega arith))

  pub chain_old : (j : ℕ) → IsTrue (t j) → chain grown_by (home' j) ≡ chain s (home j)
  chain_old j u = rw (old j u).1 (chain_is grown_by _ _ (walked_old j u) (let e = len in let b = length_chain s (home j) in omega arith))

  pub cells_new : cells_at grown_by (home' (length s)) ≡ cell h ∷ []
  unfolding cells_at
  cells_new = rw (chain_new, new) refl

  pub cells_old : (j : ℕ) → IsTrue (t j) → cells_at grown_by (home' j) ≡ cells_at s (home j)
  unfolding cells_at
  cells_old j u = rw (chain_old j u) (map_has (λ m. cell (get_or grown_by m blank)) (λ m. cell (get_or s m blank)) (chain s (home j)) (λ m p. ap cell (below m (chain_below t home s sound j m u p))))

  thing_old : (j : ℕ) → j < length s → thing_in t' home' grown_by j ≡ thing_in t home s j
  unfolding thing_in
  thing_old j l = rw (begins.same_thing j (omega arith)) (on_thing (t j) refl)
    where
      on_thing : (b : Bool) → t j ≡ b → cond b (Some (cells_at grown_by (home' j))) None ≡ cond b (Some (cells_at s (home j))) None
      on_thing true u = ap Some (cells_old j u)
      on_thing false u = refl

  pub shown_begun : shown_in t' home' grown_by ≡ shown_in t home s ++ (suc (length s), cell h ∷ []) ∷ []
  unfolding shown_in thing_in
  shown_begun =
      let old_ones = table_same (thing_in t home s) (thing_in t' home' grown_by) (length s) thing_old in
      let here : thing_in t' home' grown_by (length s) ≡ Some (cell h ∷ []) = rw (begins.new_thing, cells_new) refl in
      rw (len, here, old_ones) refl

  kept : (j : ℕ) → IsTrue (t' j) → (j ≡ length s) ⊎ IsTrue (t j)
  kept j u = elim (cases_eq j (length s)) [ inl e ↦ inl e | inr d ↦ inr (sym (begins.same_thing j d) ∙ u) ]

  in_new : (n : ℕ) → Has (chain grown_by (home' (length s))) n → n ≡ length s
  in_new n p = elim (rw chain_new at p) [ inl e ↦ sym e | inr q ↦ absurd q ]

  in_old : (j n : ℕ) → IsTrue (t j) → Has (chain grown_by (home' j)) n → n < length s
  in_old j n u p = chain_below t home s sound j n u (rw (chain_old j u) at p)

  apart_begun : (j m n : ℕ) → (j ≡ length s) ⊎ IsTrue (t j) → (m ≡ length s) ⊎ IsTrue (t m) → Has (chain grown_by (home' j)) n → Has (chain grown_by (home' m)) n → j ≡ m
  apart_begun j m n (inl e) (inl f) p q = e ∙ sym f
  apart_begun j m n (inl e) (inr u) p q = let x = in_new n (rw e at p) in let y = in_old m n u q in absurd (omega arith)
  apart_begun j m n (inr u) (inl f) p q = let x = in_new n (rw f at q) in let y = in_old j n u p in absurd (omega arith)
  apart_begun j m n (inr u) (inr v) p q = sound.apart j m n u v (rw (chain_old j u) at p) (rw (chain_old m v) at q)

  pub chained_begun : Chained t' home' grown_by
  chained_begun = record {
    in_range = λ j. elim (cases_eq j (length s)) [
      | inl e ↦ let f = step_new in rw e (omega arith)
      | inr d ↦ let f = step_other j d in let r = sound.in_range j in let g = len in omega arith
    ];
    within = λ j u. elim (kept j u) [
      | inl e ↦ let g = len in let n = begins.new_home in rw e (omega arith, omega arith)
      | inr v ↦ let g = len in let w = sound.within j v in let o = (old j v).1 in (omega arith, omega arith)
    ];
    ends = λ j u. elim (kept j u) [
      | inl e ↦ rw (e, chain_new, begins.new_home) walked_new
      | inr v ↦ rw (chain_old j v, (old j v).1) (walked_old j v)
    ];
    apart = λ j m n u v p q. apart_begun j m n (kept j u) (kept m v) p q;
  }
