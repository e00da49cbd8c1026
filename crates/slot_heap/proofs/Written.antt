-- The three writes, and the heap after each.
use Rattle.std.proofs.Common.{◌≡◌, ℕ, suc, zero, ◌+◌, ◌-◌, ◌<◌, ◌≤◌, ◌≢◌, inl, inr, Bool, false, List, [], ◌∷◌, ◌++◌, length, get_or, map, refl, ap, ap₂, sym, ◌∙◌, arith, Some, length-set}
use Rattle.std.specs.List.{slice_get, insert}
use Rattle.std.specs.Prelude.{IsTrue, option_map}
use Rattle.std.proofs.lemmas.Bool.{cases_eq, cases_lt}
use Rattle.std.proofs.lemmas.List.{get_or_past, get_or_push, get_or_append_left, get_or-set_same, get_or-set_other, get_or_default, length_push}
use Rattle.std.proofs.lemmas.Option.{slice_get-map}
use Rattle.slot_heap.specs.declared.slot.Slot.{Slot}
use Rattle.slot_heap.specs.Slot.{blank}
use Rattle.slot_heap.specs.Chains.{step_of, chain, cell, address, Chained, cells_at}
use Rattle.slot_heap.specs.Shown.{Low, low, all, thing, home, is_thing, places, cells, shown, Stands, left, Kept}
use Rattle.slot_heap.specs.Steps.{Added}
use Rattle.slot_heap.specs.Walk.{IsWalk}
use Rattle.slot_heap.specs.Writes.{with_ram, with_more, put_behind}
use Rattle.slot_heap.proofs.Walks.{has_get, walk_next, walk_rest}
use Rattle.slot_heap.proofs.Chains.{map_insert, length_chain, chain_is, place_of}
use Rattle.slot_heap.proofs.Marks.{Marked, no_thing_past, thing_at_more, thing_more}
use Rattle.slot_heap.proofs.Linked.{Links, chain_below, chained_same, shown_same, chain_linked, chain_other, chained_linked, cells_linked, cells_other, shown_linked}

abbrev pub Sound : Low → Type 0
Sound h = Chained (thing h) (home h) (all h)

-- ---- where slots stand

-- what follows for an address at which a thing's slot stands
pub record At (h : Low) (r k at : ℕ) : Type 0 where
  pub place : ℕ
  pub address_is : at ≡ suc place
  pub above : 0 < at
  pub within : place < length (all h)
  pub next : slice_get (places h r) (suc k) ≡ address (get_or (all h) (at - 1) blank).next
  pub cell_is : slice_get (cells h r) k ≡ Some (cell (get_or (all h) (at - 1) blank))
  pub nearer : left h (get_or (all h) (at - 1) blank).next < left h at

pub stands_at : (h : Low) (r k at : ℕ) → Sound h → Stands h r k at → At h r k at
unfolding left step_of cells_at
stands_at h zero k at sound s = absurd (let t = s.thing in cc)
stands_at h (suc i) k at sound s =
    let p = place_of (chain (all h) (home h i)) k at s.place in
    let f : at ≡ suc p.0 = p.1 in
    let e : at - 1 ≡ p.0 = omega arith in
    let g = has_get _ k p.0 p.2 in
    let b = chain_below (thing h) (home h) (all h) sound i p.0 s.thing g in
    let rest = walk_rest (step_of (all h)) (home h i) (chain (all h) (home h i)) p.0 (sound.ends i s.thing) g in
    let count = length_chain (all h) (home h i) in
    let here = chain_is (all h) (suc p.0) (p.0 ∷ rest.0) rest.1 (omega arith) in
    let there = chain_is (all h) (step_of (all h) p.0) rest.0 rest.1.1 (omega arith) in
    let there' : left h (get_or (all h) (at - 1) blank).next ≡ length rest.0 = ap (λ m. length (chain (all h) (get_or (all h) m blank).next)) e ∙ ap length there in
    let here' : left h at ≡ suc (length rest.0) = ap (λ m. length (chain (all h) m)) f ∙ ap length here in
    let cell' : ℕ → Slot = λ m. cell (get_or (all h) m blank) in
    record {
      place = p.0;
      address_is = f;
      above = omega arith;
      within = b;
      next = walk_next (step_of (all h)) (home h i) (chain (all h) (home h i)) k p.0 (sound.ends i s.thing) p.2 ∙ ap (λ m. address (get_or (all h) m blank).next) (sym e);
      cell_is = slice_get-map cell' (chain (all h) (home h i)) k ∙ ap (option_map cell') p.2 ∙ ap (λ m. Some (cell' m)) (sym e);
      nearer = omega arith;
    }

pub address_of : (n : ℕ) → (n ≡ 0 → ⊥) → address n ≡ Some n
address_of zero d = absurd (d refl)
address_of (suc i) d = refl

pub first_stands : (h : Low) (r : ℕ) → Sound h → IsTrue (is_thing h r) → Stands h r 0 r
unfolding home
first_stands h zero sound t = absurd (cc)
first_stands h (suc i) sound t = record { thing = t; place = first (chain (all h) (suc i)) (sound.ends i t) }
  where
    first : (xs : List ℕ) → IsWalk (step_of (all h)) (suc i) xs → slice_get (map (λ k. suc k) xs) 0 ≡ Some (suc i)
    first [] w = absurd (omega arith)
    first (x ∷ xs) w = ap Some (sym w.0)

-- ---- a slot more

module _ (s : List Slot) (a : ℕ) (c : Slot) (below : a < length s) where
  abbrev s' : List Slot
  s' = put_behind s a c (length s + 1)

  here : get_or s' a blank ≡ record (get_or s a blank) { next = length s + 1 }
  unfolding put_behind
  here = get_or-set_same _ a _ blank (let e = length_push s (record c { next = (get_or s a blank).next }) in omega arith)

  there : get_or s' (length s) blank ≡ record c { next = (get_or s a blank).next }
  unfolding put_behind
  there = get_or-set_other _ a (length s) _ blank (omega arith) ∙ get_or_push s _ blank (length s) refl

  grown : length s' ≡ suc (length s)
  unfolding put_behind
  grown = length-set _ a _ ∙ length_push s _ ∙ omega arith

  pub between : (j : ℕ) → j < length s → j ≢ a → get_or s' j blank ≡ get_or s j blank
  unfolding put_behind
  between j l d = get_or-set_other _ a j _ blank d ∙ get_or_append_left s _ blank j l

  past : (j : ℕ) → j ≢ length s → j ≢ a → get_or s' j blank ≡ get_or s j blank
  past j d d' = elim (cases_lt j (length s)) [
    | inl l ↦ between j l d'
    | inr l ↦ get_or_past s' j blank (let f = grown in omega arith) ∙ sym (get_or_past s j blank l)
  ]

  pub links : Links s s' a c
  unfolding step_of cell
  links = record {
    grown = grown;
    to_new = ap (λ (x : Slot). x.next) here ∙ omega arith;
    from_new = ap (λ (x : Slot). x.next) there;
    others = λ j d d'. ap (λ (x : Slot). x.next) (past j d d');
    same_cell = λ j l. elim (cases_eq j a) [ inl e ↦ rw e (ap cell here) | inr d ↦ ap cell (between j l d) ];
    new_cell = ap cell there;
  }

module _ (h : Low) (sound : Sound h) (i k a : ℕ) (c : Slot) (t : IsTrue (thing h i)) (at_k : slice_get (chain (all h) (home h i)) k ≡ Some a) (marked : Marked h) where
  abbrev h' : Low
  h' = with_more h (put_behind h.ram a c (length h.ram + 1)) false

  below : a < length (all h)
  below = chain_below (thing h) (home h) (all h) sound i a t (has_get _ k a at_k)

  linked : Links (all h) (all h') a c
  linked = links h.ram a c below

  none : thing h (length (all h)) ≡ false
  none = no_thing_past h (length (all h)) (omega arith)

  things : (j : ℕ) → thing h' j ≡ thing h j
  things j = elim (cases_eq j (length h.ram)) [
    | inl e ↦ rw e (thing_at_more h (all h') false marked linked.grown ∙ sym none)
    | inr d ↦ thing_more h (all h') false marked linked.grown j d
  ]

  homes : (j : ℕ) → home h' j ≡ home h j
  unfolding home
  homes j = refl

  pub sound_added : Sound h'
  sound_added =
      chained_same (thing h) (thing h') (home h) (home h') (all h') things (λ j u. homes j) (chained_linked (thing h) (home h) (all h) (all h') sound i k a c t at_k linked)

  others : (q : ℕ) → IsTrue (is_thing h q) → q ≢ suc i → (places h' q ≡ places h q) × (cells h' q ≡ cells h q)
  unfolding home
  others zero u d = absurd (cc)
  others (suc j) u d =
      let d' : j ≢ i = λ e. d (ap suc e) in
      (ap (map (λ k. suc k)) (chain_other (thing h) (home h) (all h) (all h') sound i k a c t at_k linked j u d'), cells_other (thing h) (home h) (all h) (all h') sound i k a c t at_k linked j u d')

  pub kept : (q : ℕ) → is_thing h' q ≡ is_thing h q
  kept zero = refl
  kept (suc j) = things j

  pub added_at : Added h (suc i) k c h'
  unfolding home shown
  added_at = record {
    grown = let g = linked.grown in omega arith;
    things = shown_same (thing h) (thing h') (home h) (home h') (all h') things (λ j u. homes j) ∙ shown_linked (thing h) (home h) (all h) (all h') sound i k a c t at_k linked none;
    placed =
        let e : suc (length (all h)) ≡ length (all h) + 1 = omega arith in
        ap (map (λ k. suc k)) (chain_linked (thing h) (home h) (all h) (all h') sound i k a c t at_k linked) ∙ map_insert (λ k. suc k) (chain (all h) (home h i)) (suc k) (length (all h)) ∙ ap (λ q. insert (places h (suc i)) (suc k) q) e;
    celled = cells_linked (thing h) (home h) (all h) (all h') sound i k a c t at_k linked;
    others = record { heads = kept; apart = others; owned = λ q o. kept q ∙ o };
  }

pub added : (h : Low) (r k at : ℕ) (c : Slot) → Sound h → Stands h r k at → Marked h → Sound (with_more h (put_behind h.ram (at - 1) c (length h.ram + 1)) false) × Added h r k c (with_more h (put_behind h.ram (at - 1) c (length h.ram + 1)) false)
added h zero k at c sound s marked = absurd (let t = s.thing in cc)
added h (suc i) k at c sound s marked =
    let p = place_of (chain (all h) (home h i)) k at s.place in
    let f : at ≡ suc p.0 = p.1 in
    let e : at - 1 ≡ p.0 = omega arith in
    (rw e (sound_added h sound i k p.0 c s.thing p.2 marked), rw e (added_at h sound i k p.0 c s.thing p.2 marked))

-- ---- what the code writes

pub written : (f : List Slot → List Slot) (h : Low) (s t : List Slot) (b : List Bool) (reserved : ℕ) → low s b reserved ≡ h → t ≡ f s → low t b reserved ≡ with_ram h (f h.ram)
written f h s t b reserved v e = ap (λ u. low u b reserved) e ∙ ap (λ (g : Low). with_ram g (f g.ram)) v

pub written_more : (f : List Slot → List Slot) (is_head : Bool) (h : Low) (s t : List Slot) (b d : List Bool) (reserved : ℕ) → low s b reserved ≡ h → t ≡ f s → d ≡ b ++ is_head ∷ [] → low t d reserved ≡ with_more h (f h.ram) is_head
written_more f is_head h s t b d reserved v e g = ap₂ (λ u w. low u w reserved) e g ∙ ap (λ (g : Low). with_more g (f g.ram) is_head) v

pub kept_after : (h h' : Low) (count capacity marks mark_capacity count' capacity' marks' mark_capacity' : ℕ) → Kept h count capacity marks mark_capacity → Sound h' → h'.reserved ≡ h.reserved → count' ≤ h.reserved → capacity' ≡ capacity → marks' ≡ count' → mark_capacity' ≡ mark_capacity → Kept h' count' capacity' marks' mark_capacity'
kept_after h h' count capacity marks mark_capacity count' capacity' marks' mark_capacity' k sound e l c m d =
    let r = k.reserved in
    let q = k.mark_room in
    let w = k.word in
    record { chained = sound; within = omega arith; reserved = omega arith; marked = m; mark_room = omega arith; word = omega arith }

range_at : (h : Low) (j : ℕ) → step_of (all h) j ≤ length (all h) → (get_or (all h) j blank).next ≤ length (all h)
unfolding step_of
range_at h j l = l

-- the address after another is a slot's
pub within_next : (h : Low) (at n : ℕ) → Sound h → n ≡ (get_or (all h) (at - 1) blank).next → n ≤ length (all h)
within_next h at n sound e = let l = range_at h (at - 1) (sound.in_range (at - 1)) in omega arith

-- what the code reads
pub cell_read : (h : Low) (s : List Slot) (b : List Bool) (reserved r k at : ℕ) (x : Slot) → Sound h → low s b reserved ≡ h → Stands h r k at → x ≡ get_or s (at - 1) x → slice_get (cells h r) k ≡ Some (cell x)
cell_read h s b reserved r k at x sound v t e =
    let w = stands_at h r k at sound t in
    let a = w.address_is in
    let l = w.within in
    let n = ap (λ (g : Low). length g.ram) v in
    let f : x ≡ get_or (all h) (at - 1) blank = e ∙ get_or_default s (at - 1) x blank (omega arith) ∙ ap (λ (g : Low). get_or g.ram (at - 1) blank) v in
    w.cell_is ∙ ap (λ y. Some (cell y)) (sym f)
