-- A slot is left out of its chain, or gets another cell, where things and homes stay.
use Rattle.std.proofs.Common.{◌≡◌, ℕ, suc, zero, ◌≢◌, inl, inr, Bool, true, false, cond, List, [], ◌∷◌, length, get_or, set, map, refl, ap, ap₂, sym, ◌∙◌, arith, Some, None}
use Rattle.std.specs.List.{slice_get, remove}
use Rattle.std.specs.Prelude.{IsTrue}
use Rattle.std.proofs.lemmas.Bool.{cases_eq}
use Rattle.slot_heap.specs.declared.slot.Slot.{Slot}
use Rattle.slot_heap.specs.Slot.{blank}
use Rattle.slot_heap.specs.Walk.{IsWalk, Has}
use Rattle.slot_heap.specs.Chains.{step_of, chain, cell, update, Chained, cells_at, thing_in, shown_in}
use Rattle.slot_heap.proofs.Walks.{walk_frame, not_again, has_get, walk_remove, has_remove}
use Rattle.slot_heap.proofs.Tables.{table_update}
use Rattle.slot_heap.proofs.Chains.{map_has, map_remove, length_remove, length_chain, chain_is}

-- the slot after place a, at place b, was left out
pub record Cuts (s s' : List Slot) (a b : ℕ) : Type 0 where
  pub same_length : length s' ≡ length s
  pub after : step_of s a ≡ suc b
  pub over : step_of s' a ≡ step_of s b
  pub others : (j : ℕ) → j ≢ a → step_of s' j ≡ step_of s j
  pub same_cell : (j : ℕ) → cell (get_or s' j blank) ≡ cell (get_or s j blank)

module _ (t : ℕ → Bool) (home : ℕ → ℕ) (s s' : List Slot) (sound : Chained t home s) (i k a b : ℕ) (head : IsTrue (t i)) (at_k : slice_get (chain s (home i)) k ≡ Some a) (cuts : Cuts s s' a b) where
  in_chain : Has (chain s (home i)) a
  in_chain = has_get (chain s (home i)) k a at_k

  walked : IsWalk (step_of s') (home i) (remove (chain s (home i)) (suc k))
  walked = walk_remove (step_of s) (step_of s') (home i) (chain s (home i)) k a b at_k cuts.after cuts.over (λ j p d. cuts.others j d) (sound.ends i head)

  walked_other : (j : ℕ) → IsTrue (t j) → j ≢ i → IsWalk (step_of s') (home j) (chain s (home j))
  walked_other j h d =
      walk_frame (step_of s) (step_of s') (home j) (chain s (home j)) (λ m p. cuts.others m (λ e. d (sound.apart j i a h head (rw e at p) in_chain))) (sound.ends j h)

  pub chain_cut : chain s' (home i) ≡ remove (chain s (home i)) (suc k)
  chain_cut = chain_is s' (home i) _ walked (let l = length_chain s (home i) in let g = cuts.same_length in let m = length_remove (chain s (home i)) (suc k) in omega arith)

  pub chain_cut_other : (j : ℕ) → IsTrue (t j) → j ≢ i → chain s' (home j) ≡ chain s (home j)
  chain_cut_other j h d = chain_is s' (home j) _ (walked_other j h d) (let l = length_chain s (home j) in let g = cuts.same_length in omega arith)

  part : (j n : ℕ) → IsTrue (t j) → Has (chain s' (home j)) n → Has (chain s (home j)) n
  part j n h p = elim (cases_eq j i) [
    | inl e ↦ rw e (has_remove (chain s (home i)) (suc k) n (rw (e, chain_cut) at p))
    | inr d ↦ rw (chain_cut_other j h d) at p
  ]

  pub chained_cut : Chained t home s'
  chained_cut = record {
    in_range = λ j. elim (cases_eq j a) [
      | inl e ↦ let g = cuts.same_length in let f = cuts.over in let r = sound.in_range b in rw e (omega arith)
      | inr d ↦ let g = cuts.same_length in let f = cuts.others j d in let r = sound.in_range j in omega arith
    ];
    within = λ j h. let g = cuts.same_length in let w = sound.within j h in (omega arith, omega arith);
    ends = λ j h. elim (cases_eq j i) [
      | inl e ↦ rw (e, chain_cut) walked
      | inr d ↦ rw (chain_cut_other j h d) (walked_other j h d)
    ];
    apart = λ j m n h h' p p'. sound.apart j m n h h' (part j n h p) (part m n h' p');
  }

  same_cells : (xs : List ℕ) → map (λ m. cell (get_or s' m blank)) xs ≡ map (λ m. cell (get_or s m blank)) xs
  same_cells xs = map_has (λ m. cell (get_or s' m blank)) (λ m. cell (get_or s m blank)) xs (λ m p. cuts.same_cell m)

  pub cells_cut : cells_at s' (home i) ≡ remove (cells_at s (home i)) (suc k)
  unfolding cells_at
  cells_cut = rw (chain_cut, same_cells, map_remove) refl

  pub cells_cut_other : (j : ℕ) → IsTrue (t j) → j ≢ i → cells_at s' (home j) ≡ cells_at s (home j)
  unfolding cells_at
  cells_cut_other j h d = same_cells (chain s' (home j)) ∙ ap (map (λ m. cell (get_or s m blank))) (chain_cut_other j h d)

  thing_other : (j : ℕ) → j ≢ i → thing_in t home s' j ≡ thing_in t home s j
  unfolding thing_in
  thing_other j d = on_thing (t j) refl
    where
      on_thing : (b : Bool) → t j ≡ b → cond b (Some (cells_at s' (home j))) None ≡ cond b (Some (cells_at s (home j))) None
      on_thing true h = ap Some (cells_cut_other j h d)
      on_thing false h = refl

  pub shown_cut : shown_in t home s' ≡ update (suc i) (remove (cells_at s (home i)) (suc k)) (shown_in t home s)
  unfolding shown_in thing_in
  shown_cut =
      let here : thing_in t home s i ≡ Some (cells_at s (home i)) = rw head refl in
      let there : thing_in t home s' i ≡ Some (remove (cells_at s (home i)) (suc k)) = rw (head, cells_cut) refl in
      rw cuts.same_length (table_update (thing_in t home s) (thing_in t home s') (length s) i _ _ (sound.within i head).1 here there (λ j l d. thing_other j d))

-- the slot at place a got the cell c
pub record Puts (s s' : List Slot) (a : ℕ) (c : Slot) : Type 0 where
  pub same_length : length s' ≡ length s
  pub same_step : (j : ℕ) → step_of s' j ≡ step_of s j
  pub same_cell : (j : ℕ) → j ≢ a → cell (get_or s' j blank) ≡ cell (get_or s j blank)
  pub new_cell : cell (get_or s' a blank) ≡ cell c

-- one place of a walk is mapped anew
map_set_at : {X : Type 0} (f g : ℕ → X) (step : ℕ → ℕ) (at : ℕ) (xs : List ℕ) (k a : ℕ) → IsWalk step at xs → slice_get xs k ≡ Some a → ((j : ℕ) → j ≢ a → g j ≡ f j) → map g xs ≡ set (map f xs) k (g a)
map_set_at f g step at [] k a w e h = absurd (cc)
map_set_at f g step at (x ∷ xs) zero a w e h = let q : x ≡ a = cc in ap₂ ◌∷◌ (ap g q) (map_has g f xs (λ j p. h j (λ z. not_again step at x xs w (rw (q ∙ sym z) p))))
map_set_at f g step at (x ∷ xs) (suc k) a w e h =
    ap₂ ◌∷◌ (h x (λ z. not_again step at x xs w (rw z (has_get xs k a e)))) (map_set_at f g step (step x) xs k a w.1 e h)

module _ (t : ℕ → Bool) (home : ℕ → ℕ) (s s' : List Slot) (sound : Chained t home s) (i k a : ℕ) (c : Slot) (head : IsTrue (t i)) (at_k : slice_get (chain s (home i)) k ≡ Some a) (puts : Puts s s' a c) where
  pub chain_put : (j : ℕ) → IsTrue (t j) → chain s' (home j) ≡ chain s (home j)
  chain_put j h =
      chain_is s' (home j) _ (walk_frame (step_of s) (step_of s') (home j) (chain s (home j)) (λ m p. puts.same_step m) (sound.ends j h)) (let l = length_chain s (home j) in let g = puts.same_length in omega arith)

  pub chained_put : Chained t home s'
  chained_put = record {
    in_range = λ j. let g = puts.same_length in let f = puts.same_step j in let r = sound.in_range j in omega arith;
    within = λ j h. let g = puts.same_length in let w = sound.within j h in (omega arith, omega arith);
    ends = λ j h. rw (chain_put j h) (walk_frame (step_of s) (step_of s') (home j) (chain s (home j)) (λ m p. puts.same_step m) (sound.ends j h));
    apart = λ j m n h h' p p'. sound.apart j m n h h' (rw (chain_put j h) at p) (rw (chain_put m h') at p');
  }

  pub cells_put : cells_at s' (home i) ≡ set (cells_at s (home i)) k (cell c)
  unfolding cells_at
  cells_put =
      rw (chain_put i head) (map_set_at (λ m. cell (get_or s m blank)) (λ m. cell (get_or s' m blank)) (step_of s) (home i) (chain s (home i)) k a (sound.ends i head) at_k puts.same_cell ∙ ap (λ x. set (map (λ m. cell (get_or s m blank)) (chain s (home i))) k x) puts.new_cell)

  pub cells_put_other : (j : ℕ) → IsTrue (t j) → j ≢ i → cells_at s' (home j) ≡ cells_at s (home j)
  unfolding cells_at
  cells_put_other j h d =
      ap (map (λ m. cell (get_or s' m blank))) (chain_put j h) ∙ map_has (λ m. cell (get_or s' m blank)) (λ m. cell (get_or s m blank)) (chain s (home j)) (λ m p. puts.same_cell m (λ e. d (sound.apart j i a h head (rw e at p) (has_get _ k a at_k))))

  thing_put : (j : ℕ) → j ≢ i → thing_in t home s' j ≡ thing_in t home s j
  unfolding thing_in
  thing_put j d = on_thing (t j) refl
    where
      on_thing : (b : Bool) → t j ≡ b → cond b (Some (cells_at s' (home j))) None ≡ cond b (Some (cells_at s (home j))) None
      on_thing true h = ap Some (cells_put_other j h d)
      on_thing false h = refl

  pub shown_put : shown_in t home s' ≡ update (suc i) (set (cells_at s (home i)) k (cell c)) (shown_in t home s)
  unfolding shown_in thing_in
  shown_put =
      let here : thing_in t home s i ≡ Some (cells_at s (home i)) = rw head refl in
      let there : thing_in t home s' i ≡ Some (set (cells_at s (home i)) k (cell c)) = rw (head, cells_put) refl in
      rw puts.same_length (table_update (thing_in t home s) (thing_in t home s') (length s) i _ _ (sound.within i head).1 here there (λ j l d. thing_put j d))
