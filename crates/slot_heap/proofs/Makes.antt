-- The heap after a thing is made.
use Rattle.std.proofs.Common.{◌≡◌, ℕ, suc, zero, ◌+◌, ◌≢◌, true, false, List, [], ◌∷◌, ◌++◌, length, replicate, map, refl, ap, ap₂, sym, ◌∙◌, arith, Some}
use Rattle.std.specs.List.{slice_get, insert}
use Rattle.std.specs.Prelude.{IsTrue}
use Rattle.std.proofs.lemmas.Bool.{eq-eqb}
use Rattle.std.proofs.lemmas.List.{map-append, length_push, length-replicate}
use Rattle.std.proofs.lemmas.List.Edits.{length-insert}
use Rattle.slot_heap.specs.declared.slot.Slot.{Slot}
use Rattle.slot_heap.specs.declared.slot.Kind.{Kind}
use Rattle.slot_heap.specs.Slot.{blank, head_slot}
use Rattle.slot_heap.specs.Chains.{step_of, cell, update, thing_in, shown_in}
use Rattle.slot_heap.specs.Shown.{Low, low, all, next_address, thing, home, is_thing, places, cells, shown, Owned, Stands}
use Rattle.slot_heap.specs.Steps.{Added, Made, new_cells}
use Rattle.slot_heap.specs.Writes.{with_more}
use Rattle.slot_heap.proofs.Tables.{update_past}
use Rattle.slot_heap.proofs.Marks.{Marked, no_thing_past, thing_at_more, thing_more}
use Rattle.slot_heap.proofs.Begun.{Begins, chain_new, chain_old, cells_new, cells_old, shown_begun, chained_begun}
use Rattle.slot_heap.proofs.Written.{Sound}

-- no slots
pub sound_none : (reserved : ℕ) → Sound (low [] [] reserved)
unfolding step_of
sound_none reserved = record { in_range = λ i. omega arith; within = λ i t. absurd (none i t); ends = λ i t. absurd (none i t); apart = λ i j k t. absurd (none i t) }
  where
    none : (i : ℕ) → IsTrue (thing (low [] [] reserved) i) → ⊥
    none i t = let e = no_thing_past (low [] [] reserved) i (omega arith) in let f : true ≡ false = sym t ∙ e in absurd (cc)

-- ---- a head

module _ (h : Low) (sound : Sound h) (c : Slot) (ends_here : c.next ≡ 0) (marked : Marked h) where
  abbrev h' : Low
  h' = with_more h (h.ram ++ c ∷ []) true

  head_other : (j : ℕ) → j ≢ length h.ram → thing h' j ≡ thing h j
  head_other j d = thing_more h (all h') true marked (length_push h.ram c ∙ omega arith) j d

  head_new : thing h' (length h.ram) ≡ true
  head_new = thing_at_more h (all h') true marked (length_push h.ram c ∙ omega arith)

  begins : Begins (thing h) (thing h') (home h) (home h') (all h)
  unfolding home
  begins = record { new_thing = head_new; new_home = refl; same_thing = head_other; same_home = λ j d. refl }

  pub sound_begun : Sound h'
  sound_begun = chained_begun (thing h) (thing h') (home h) (home h') (all h) c sound ends_here begins

  abbrev r : ℕ
  r = suc (length h.ram)

  heads : (q : ℕ) → q ≢ r → is_thing h' q ≡ is_thing h q
  heads zero d = refl
  heads (suc j) d = head_other j (λ e. d (ap suc e))

  old : (q : ℕ) → IsTrue (is_thing h q) → (places h' q ≡ places h q) × (cells h' q ≡ cells h q)
  old zero t = absurd (cc)
  old (suc j) t =
      (ap (map (λ i. suc i)) (chain_old (thing h) (thing h') (home h) (home h') (all h) c sound ends_here begins j t), cells_old (thing h) (thing h') (home h) (home h') (all h) c sound ends_here begins j t)

  still : (q : ℕ) → Owned h q → Owned h' q
  still zero o = o
  still (suc j) o = let w = (sound.within j o).1 in heads (suc j) (omega arith) ∙ o

  pub stands_new : Stands h' r 0 r
  stands_new = record {
    thing = head_new;
    place = ap (λ xs. slice_get (map (λ i. suc i) xs) 0) (chain_new (thing h) (thing h') (home h) (home h') (all h) c sound ends_here begins);
  }

  pub alone : length (places h' r) ≡ 1
  alone = ap (λ xs. length (map (λ i. suc i) xs)) (chain_new (thing h) (thing h') (home h) (home h') (all h) c sound ends_here begins)

  pub begun : Made h r (cell c ∷ []) h'
  unfolding shown
  begun = record {
    at = omega arith;
    grown = length_push h.ram c;
    things = shown_begun (thing h) (thing h') (home h) (home h') (all h) c sound ends_here begins;
    celled = cells_new (thing h) (thing h') (home h) (home h') (all h) c sound ends_here begins;
    owned = head_new;
    heads = heads;
    apart = old;
    still_owned = still;
  }

-- the head that the code writes
pub begun_head : (h h' : Low) (r : ℕ) (kind : Kind) (prototype : ℕ) (c : Slot) → Sound h → Marked h → c ≡ head_slot kind prototype → h' ≡ with_more h (h.ram ++ c ∷ []) true → r ≡ length h.ram + 1 → Sound h' × Made h r (new_cells kind prototype 0) h' × Stands h' r 0 r × (length (places h' r) ≡ 1)
unfolding cell
begun_head h h' r kind prototype c sound marked e w at =
    let at' : r ≡ suc (length h.ram) = omega arith in
    rw (w, at', e) (sound_begun h sound (head_slot kind prototype) refl marked, begun h sound (head_slot kind prototype) refl marked, stands_new h sound (head_slot kind prototype) refl marked, alone h sound (head_slot kind prototype) refl marked)

-- ---- its internals

slice_get_insert : {X : Type 0} (xs : List X) (i : ℕ) (y : X) → length xs ≡ i → slice_get (insert xs i y) i ≡ Some y
slice_get_insert [] zero y e = refl
slice_get_insert [] (suc i) y e = absurd (omega arith)
slice_get_insert (x ∷ xs) zero y e = absurd (omega arith)
slice_get_insert (x ∷ xs) (suc i) y e = slice_get_insert xs i y (omega arith)

insert_replicate : {X : Type 0} (i : ℕ) (y : X) → insert (replicate i y) i y ≡ replicate (suc i) y
insert_replicate zero y = refl
insert_replicate (suc i) y = ap (λ t. y ∷ t) (insert_replicate i y)

update_new : (h : Low) (r : ℕ) (x y : List Slot) → r ≡ next_address h → update r y (shown h ++ (r, x) ∷ []) ≡ shown h ++ (r, y) ∷ []
unfolding shown shown_in
update_new h r x y e =
    let e' : r ≡ suc (length (all h)) = omega arith in
    let past : update r y (shown h) ≡ shown h = rw e' (update_past (thing_in (thing h) (home h) (all h)) (length (all h)) (length (all h)) y (omega arith)) in
    let last : update r y ((r, x) ∷ []) ≡ (r, y) ∷ [] = rw (eq-eqb r r refl) refl in
    map-append _ (shown h) ((r, x) ∷ []) ∙ ap₂ ◌++◌ past last

-- while internals are added: i of them stand, the last slot at an address
pub record Filling (h : Low) (r : ℕ) (kind : Kind) (prototype i last : ℕ) (h' : Low) : Type 0 where
  pub made : Made h r (new_cells kind prototype i) h'
  pub at_last : slice_get (places h' r) i ≡ Some last
  pub many : length (places h' r) ≡ i + 1

pub filling_none : (h : Low) (r : ℕ) (kind : Kind) (prototype last : ℕ) (g : Low) → Made h r (new_cells kind prototype 0) g → Stands g r 0 last → length (places g r) ≡ 1 → Filling h r kind prototype 0 last g
filling_none h r kind prototype last g m s n = record { made = m; at_last = s.place; many = n }

grown_cells : (kind : Kind) (prototype i : ℕ) → insert (new_cells kind prototype i) (suc i) blank ≡ new_cells kind prototype (suc i)
grown_cells kind prototype i = ap (λ t. head_slot kind prototype ∷ t) (insert_replicate i blank)

pub filling_more : (h : Low) (r : ℕ) (kind : Kind) (prototype i last : ℕ) (h' h'' : Low) → Sound h → Filling h r kind prototype i last h' → Added h' r i blank h'' → Filling h r kind prototype (i + 1) (next_address h') h''
unfolding cell
filling_more h r kind prototype i last h' h'' sound f a =
    let m = f.made in
    let ins : insert (cells h' r) (suc i) (cell blank) ≡ new_cells kind prototype (suc i) = ap (λ t. insert t (suc i) blank) m.celled ∙ grown_cells kind prototype i in
    let count = f.many in
    let i' : i + 1 ≡ suc i = omega arith in
    rw i' (record {
      made = record {
        at = m.at;
        grown =
            let g = a.grown in
            let g' = m.grown in
            let n : length (replicate (suc i) blank) ≡ suc i = length-replicate (suc i) blank in
            let n' : length (replicate i blank) ≡ i = length-replicate i blank in
            omega arith;
        things = a.things ∙ ap₂ (λ x t. update r x t) ins m.things ∙ update_new h r _ _ m.at;
        celled = a.celled ∙ ins;
        owned = a.others.owned r m.owned;
        heads = λ q d. a.others.heads q ∙ m.heads q d;
        apart = λ q t. let d = not_new h r q sound m.at t in let p = m.apart q t in let o = a.others.apart q (m.heads q d ∙ t) d in (o.0 ∙ p.0, o.1 ∙ p.1);
        still_owned = λ q o. a.others.owned q (m.still_owned q o);
      };
      at_last = rw a.placed (slice_get_insert (places h' r) (suc i) (next_address h') (omega arith));
      many = rw a.placed (length-insert (places h' r) (suc i) (next_address h') (omega arith) ∙ omega arith);
    })
  where
    not_new : (h : Low) (r q : ℕ) → Sound h → r ≡ next_address h → IsTrue (is_thing h q) → q ≢ r
    not_new h r zero sound e t = absurd (cc)
    not_new h r (suc j) sound e t = let w = (sound.within j t).1 in omega arith
