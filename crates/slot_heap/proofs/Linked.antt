-- How chains change with the slots, where things and homes stay.
use Rattle.std.proofs.Common.{◌≡◌, ℕ, suc, ◌<◌, ◌≢◌, ◌⊎◌, inl, inr, Bool, true, false, cond, List, length, get_or, map, refl, ap, sym, ◌∙◌, arith, Some, None}
use Rattle.std.specs.List.{slice_get, insert}
use Rattle.std.specs.Prelude.{IsTrue}
use Rattle.std.proofs.lemmas.Bool.{cases_eq}
use Rattle.std.proofs.lemmas.List.{append-nil}
use Rattle.slot_heap.specs.declared.slot.Slot.{Slot}
use Rattle.slot_heap.specs.Slot.{blank}
use Rattle.slot_heap.specs.Walk.{IsWalk, Has}
use Rattle.slot_heap.specs.Chains.{step_of, chain, cell, update}
use Rattle.slot_heap.proofs.Walks.{walk_frame, has_get, walk_insert, has_insert, walk_below}
use Rattle.slot_heap.proofs.Tables.{table_same, table_update}
use Rattle.slot_heap.proofs.Chains.{map_has, map_insert, length_insert_any, length_chain, chain_is}
use Rattle.slot_heap.specs.Chains.{Chained, cells_at, thing_in, shown_in}

pub chain_below : (t : ℕ → Bool) (home : ℕ → ℕ) (s : List Slot) → Chained t home s → (i k : ℕ) → IsTrue (t i) → Has (chain s (home i)) k → k < length s
unfolding chain
chain_below t home s o i k h p = walk_below (step_of s) (length s) o.in_range (length s) (home i) k (o.within i h).0 p

-- the same things at the same homes
pub chained_same : (t t' : ℕ → Bool) (home home' : ℕ → ℕ) (s : List Slot) → ((i : ℕ) → t' i ≡ t i) → ((i : ℕ) → IsTrue (t i) → home' i ≡ home i) → Chained t home s → Chained t' home' s
chained_same t t' home home' s et eh o = record {
  in_range = o.in_range;
  within = λ i h. let h' = sym (et i) ∙ h in rw (eh i h') (o.within i h');
  ends = λ i h. let h' = sym (et i) ∙ h in rw (eh i h') (o.ends i h');
  apart = λ i j k h g p q. let h' = sym (et i) ∙ h in let g' = sym (et j) ∙ g in o.apart i j k h' g' (rw (eh i h') at p) (rw (eh j g') at q);
}

thing_same : (t t' : ℕ → Bool) (home home' : ℕ → ℕ) (s : List Slot) (i : ℕ) → t' i ≡ t i → (IsTrue (t i) → home' i ≡ home i) → thing_in t' home' s i ≡ thing_in t home s i
unfolding thing_in
thing_same t t' home home' s i e f = rw e (on (t i) refl)
  where
    on : (b : Bool) → t i ≡ b → cond b (Some (cells_at s (home' i))) None ≡ cond b (Some (cells_at s (home i))) None
    on true h = ap (λ m. Some (cells_at s m)) (f h)
    on false h = refl

pub shown_same : (t t' : ℕ → Bool) (home home' : ℕ → ℕ) (s : List Slot) → ((i : ℕ) → t' i ≡ t i) → ((i : ℕ) → IsTrue (t i) → home' i ≡ home i) → shown_in t' home' s ≡ shown_in t home s
unfolding shown_in
shown_same t t' home home' s et eh = table_same _ _ (length s) (λ i l. thing_same t t' home home' s i (et i) (eh i))

-- a slot was put behind place a
pub record Links (s s' : List Slot) (a : ℕ) (c : Slot) : Type 0 where
  pub grown : length s' ≡ suc (length s)
  pub to_new : step_of s' a ≡ suc (length s)
  pub from_new : step_of s' (length s) ≡ step_of s a
  pub others : (j : ℕ) → j ≢ length s → j ≢ a → step_of s' j ≡ step_of s j
  pub same_cell : (j : ℕ) → j < length s → cell (get_or s' j blank) ≡ cell (get_or s j blank)
  pub new_cell : cell (get_or s' (length s) blank) ≡ cell c

module _ (t : ℕ → Bool) (home : ℕ → ℕ) (s s' : List Slot) (sound : Chained t home s) (i k a : ℕ) (c : Slot) (head : IsTrue (t i)) (at_k : slice_get (chain s (home i)) k ≡ Some a) (links : Links s s' a c) where
  in_chain : Has (chain s (home i)) a
  in_chain = has_get (chain s (home i)) k a at_k

  a_below : a < length s
  a_below = chain_below t home s sound i a head in_chain

  -- the walk of the thing, and of another
  walked : IsWalk (step_of s') (home i) (insert (chain s (home i)) (suc k) (length s))
  walked =
      walk_insert (step_of s) (step_of s') (home i) (chain s (home i)) k a (length s) at_k links.to_new links.from_new (λ j p d. links.others j (let l = chain_below t home s sound i j head p in omega arith) d) (sound.ends i head)

  walked_other : (j : ℕ) → IsTrue (t j) → j ≢ i → IsWalk (step_of s') (home j) (chain s (home j))
  walked_other j h d =
      walk_frame (step_of s) (step_of s') (home j) (chain s (home j)) (λ m p. links.others m (let l = chain_below t home s sound j m h p in omega arith) (λ e. d (sound.apart j i a h head (rw e at p) in_chain))) (sound.ends j h)

  pub chain_linked : chain s' (home i) ≡ insert (chain s (home i)) (suc k) (length s)
  chain_linked = chain_is s' (home i) _ walked (let b = length_chain s (home i) in let g = links.grown in let e = length_insert_any (chain s (home i)) (suc k) (length s) in omega arith)

  pub chain_other : (j : ℕ) → IsTrue (t j) → j ≢ i → chain s' (home j) ≡ chain s (home j)
  chain_other j h d = chain_is s' (home j) _ (walked_other j h d) (let b = length_chain s (home j) in let g = links.grown in omega arith)

  -- of a chain afterwards, a place is the new one, in the chain of i, or an old one
  old_or_new : (j n : ℕ) → IsTrue (t j) → Has (chain s' (home j)) n → ((length s ≡ n) × (j ≡ i)) ⊎ Has (chain s (home j)) n
  old_or_new j n h p = elim (cases_eq j i) [
    | inl e ↦ elim (has_insert (chain s (home i)) (suc k) (length s) n (rw (e, chain_linked) at p)) [
      | inl q ↦ inl (q, e)
      | inr q ↦ inr (rw e q)
    ]
    | inr d ↦ inr (rw (chain_other j h d) at p)
  ]

  apart_linked : (j m n : ℕ) → IsTrue (t j) → IsTrue (t m) → Has (chain s' (home j)) n → Has (chain s' (home m)) n → j ≡ m
  apart_linked j m n h h' p p' = elim (old_or_new j n h p) [
    | inl x ↦ elim (old_or_new m n h' p') [
      | inl y ↦ x.1 ∙ sym y.1
      | inr y ↦ let b = chain_below t home s sound m n h' y in let e = x.0 in absurd (omega arith)
    ]
    | inr x ↦ elim (old_or_new m n h' p') [
      | inl y ↦ let b = chain_below t home s sound j n h x in let e = y.0 in absurd (omega arith)
      | inr y ↦ sound.apart j m n h h' x y
    ]
  ]

  pub chained_linked : Chained t home s'
  chained_linked = record {
    in_range = λ j. elim (cases_eq j (length s)) [
      | inl e ↦ let g = links.grown in let f = links.from_new in let r = sound.in_range a in rw e (omega arith)
      | inr d ↦ elim (cases_eq j a) [
        | inl e ↦ let g = links.grown in let f = links.to_new in rw e (omega arith)
        | inr d' ↦ let g = links.grown in let f = links.others j d d' in let r = sound.in_range j in omega arith
      ]
    ];
    within = λ j h. let g = links.grown in let w = sound.within j h in (omega arith, omega arith);
    ends = λ j h. elim (cases_eq j i) [
      | inl e ↦ rw (e, chain_linked) walked
      | inr d ↦ rw (chain_other j h d) (walked_other j h d)
    ];
    apart = λ j m n h h' p p'. apart_linked j m n h h' p p';
  }

  pub cells_linked : cells_at s' (home i) ≡ insert (cells_at s (home i)) (suc k) (cell c)
  unfolding cells_at
  cells_linked =
      let f' : ℕ → Slot = λ m. cell (get_or s' m blank) in
      let f : ℕ → Slot = λ m. cell (get_or s m blank) in
      let old : map f' (chain s (home i)) ≡ map f (chain s (home i)) = map_has f' f (chain s (home i)) (λ m p. links.same_cell m (chain_below t home s sound i m head p)) in
      rw (chain_linked, map_insert, old, links.new_cell) refl

  pub cells_other : (j : ℕ) → IsTrue (t j) → j ≢ i → cells_at s' (home j) ≡ cells_at s (home j)
  unfolding cells_at
  cells_other j h d =
      let f' : ℕ → Slot = λ m. cell (get_or s' m blank) in
      let f : ℕ → Slot = λ m. cell (get_or s m blank) in
      rw (chain_other j h d) (map_has f' f (chain s (home j)) (λ m p. links.same_cell m (chain_below t home s sound j m h p)))

  thing_other : (j : ℕ) → j ≢ i → thing_in t home s' j ≡ thing_in t home s j
  unfolding thing_in
  thing_other j d' = on_thing (t j) refl
    where
      on_thing : (b : Bool) → t j ≡ b → cond b (Some (cells_at s' (home j))) None ≡ cond b (Some (cells_at s (home j))) None
      on_thing true h = ap Some (cells_other j h d')
      on_thing false h = refl

  pub shown_linked : t (length s) ≡ false → shown_in t home s' ≡ update (suc i) (insert (cells_at s (home i)) (suc k) (cell c)) (shown_in t home s)
  unfolding shown_in thing_in
  shown_linked none =
      let below = (sound.within i head).1 in
      let here : thing_in t home s i ≡ Some (cells_at s (home i)) = rw head refl in
      let there : thing_in t home s' i ≡ Some (insert (cells_at s (home i)) (suc k) (cell c)) = rw (head, cells_linked) refl in
      let empty : thing_in t home s' (length s) ≡ None = rw none refl in
      let old = table_update (thing_in t home s) (thing_in t home s') (length s) i _ _ below here there (λ j l d. thing_other j d) in
      rw (links.grown, empty, old) (append-nil _)
