-- The heap after a slot is put in the place of another, or left out.
use Rattle.std.proofs.Common.{◌≡◌, ℕ, suc, zero, ◌-◌, ◌<◌, ◌≤◌, ◌≢◌, inl, inr, Bool, false, List, [], ◌∷◌, ◌++◌, length, get_or, set, map, refl, ap, sym, ◌∙◌, arith, Some, length-set}
use Rattle.std.specs.List.{slice_get}
use Rattle.std.specs.Prelude.{IsTrue, ◌==◌}
use Rattle.std.proofs.lemmas.Bool.{cases_eq}
use Rattle.std.proofs.lemmas.List.{get_or-set_same, get_or-set_other, get_or_default, get_or_append_left, length_push}
use Rattle.slot_heap.specs.declared.slot.Slot.{Slot}
use Rattle.slot_heap.specs.Slot.{blank, stored}
use Rattle.slot_heap.specs.Chains.{step_of, chain, cell, address, update}
use Rattle.slot_heap.specs.Shown.{Low, all, thing, home, is_thing, places, cells, shown, Stands}
use Rattle.slot_heap.specs.Steps.{Replaced, Removed}
use Rattle.slot_heap.specs.Writes.{with_ram, put_behind, put_over, put_past}
use Rattle.slot_heap.proofs.Walks.{has_get}
use Rattle.slot_heap.proofs.Marks.{thing_over, begins_here}
use Rattle.slot_heap.proofs.Chains.{map_remove, place_of, slice_get_within, get_or_some}
use Rattle.slot_heap.proofs.Linked.{chain_below, chained_same, shown_same}
use Rattle.slot_heap.proofs.Edited.{Cuts, Puts, chain_cut, chain_cut_other, chained_cut, cells_cut, cells_cut_other, shown_cut, chain_put, chained_put, cells_put, cells_put_other, shown_put}
use Rattle.slot_heap.proofs.Written.{Sound, stands_at}

-- ---- put

abbrev pub kept_slot : Bool → Slot → Slot → Slot
kept_slot b old c = record (stored b old c) { next = old.next }

puts_is : (s : List Slot) (a : ℕ) (b : Bool) (c : Slot) → a < length s → Puts s (put_over s a b c) a (stored b (get_or s a blank) c)
unfolding step_of cell put_over
puts_is s a b c l =
    let x = kept_slot b (get_or s a blank) c in
    let here : get_or (set s a x) a blank ≡ x = get_or-set_same s a x blank l in
    let there : (j : ℕ) → j ≢ a → get_or (set s a x) j blank ≡ get_or s j blank = λ j d. get_or-set_other s a j x blank d in
    record {
      same_length = length-set s a x;
      same_step = λ j. elim (cases_eq j a) [
        | inl e ↦ rw e (ap (λ (y : Slot). y.next) here)
        | inr d ↦ ap (λ (y : Slot). y.next) (there j d)
      ];
      same_cell = λ j d. ap cell (there j d);
      new_cell = ap cell here;
    }

module _ (h : Low) (sound : Sound h) (i k a : ℕ) (c : Slot) (t : IsTrue (thing h i)) (at_k : slice_get (chain (all h) (home h i)) k ≡ Some a) (old_is : get_or (cells h (suc i)) k blank ≡ cell (get_or (all h) a blank)) where
  abbrev h' : Low
  h' = with_ram h (put_over h.ram a (k == 0) c)

  below : a < length (all h)
  below = chain_below (thing h) (home h) (all h) sound i a t (has_get _ k a at_k)

  abbrev x : Slot
  x = stored (k == 0) (get_or (all h) a blank) c

  puts : Puts (all h) (all h') a x
  puts = puts_is h.ram a (k == 0) c below

  things : (j : ℕ) → thing h' j ≡ thing h j
  things j = thing_over h (all h') puts.same_length j

  homes : (j : ℕ) → home h' j ≡ home h j
  unfolding home
  homes j = refl

  pub sound_replaced : Sound h'
  sound_replaced =
      chained_same (thing h) (thing h') (home h) (home h') (all h') things (λ j u. homes j) (chained_put (thing h) (home h) (all h) (all h') sound i k a x t at_k puts)

  same_x : cell x ≡ cell (stored (k == 0) (get_or (cells h (suc i)) k blank) c)
  unfolding cell
  same_x = ap (λ o. cell (stored (k == 0) o c)) (sym old_is)

  kept : (q : ℕ) → is_thing h' q ≡ is_thing h q
  kept zero = refl
  kept (suc j) = things j

  others : (q : ℕ) → IsTrue (is_thing h q) → q ≢ suc i → (places h' q ≡ places h q) × (cells h' q ≡ cells h q)
  unfolding home
  others zero u d = absurd (cc)
  others (suc j) u d =
      let d' : j ≢ i = λ e. d (ap suc e) in
      (ap (map (λ k. suc k)) (chain_put (thing h) (home h) (all h) (all h') sound i k a x t at_k puts j u), cells_put_other (thing h) (home h) (all h) (all h') sound i k a x t at_k puts j u d')

  pub replaced_at : Replaced h (suc i) k c h'
  unfolding home shown
  replaced_at = record {
    same_length = puts.same_length;
    things = shown_same (thing h) (thing h') (home h) (home h') (all h') things (λ j u. homes j) ∙ shown_put (thing h) (home h) (all h) (all h') sound i k a x t at_k puts ∙ ap (λ y. update (suc i) (set (cells h (suc i)) k y) (shown h)) same_x;
    placed = ap (map (λ k. suc k)) (chain_put (thing h) (home h) (all h) (all h') sound i k a x t at_k puts i t);
    celled = cells_put (thing h) (home h) (all h) (all h') sound i k a x t at_k puts ∙ ap (λ y. set (cells h (suc i)) k y) same_x;
    others = record { heads = kept; apart = others; owned = λ q o. kept q ∙ o };
  }

pub replaced : (h : Low) (r k at : ℕ) (b : Bool) (c : Slot) → Sound h → Stands h r k at → b ≡ get_or h.begins (at - 1) false → Sound (with_ram h (put_over h.ram (at - 1) b c)) × Replaced h r k c (with_ram h (put_over h.ram (at - 1) b c))
replaced h zero k at b c sound s mark = absurd (let t = s.thing in cc)
replaced h (suc i) k at b c sound s mark =
    let p = place_of (chain (all h) (home h i)) k at s.place in
    let f : at ≡ suc p.0 = p.1 in
    let e : at - 1 ≡ p.0 = omega arith in
    let w = stands_at h (suc i) k at sound s in
    let old_is = get_or_some (cells h (suc i)) k blank _ w.cell_is ∙ ap (λ m. cell (get_or (all h) m blank)) e in
    let below = chain_below (thing h) (home h) (all h) sound i p.0 s.thing (has_get _ k p.0 p.2) in
    let b_is : b ≡ (k == 0) = mark ∙ ap (λ m. get_or h.begins m false) e ∙ begins_here h i k p.0 sound s.thing below p.2 in
    (rw (e, b_is) (sound_replaced h sound i k p.0 c s.thing p.2 old_is), rw (e, b_is) (replaced_at h sound i k p.0 c s.thing p.2 old_is))

-- ---- cut

cuts_is : (s : List Slot) (a b : ℕ) → a < length s → step_of s a ≡ suc b → Cuts s (put_past s a) a b
unfolding step_of cell put_past
cuts_is s a b l e =
    let n : (get_or s a blank).next - 1 ≡ b = omega arith in
    let x = record (get_or s a blank) { next = (get_or s ((get_or s a blank).next - 1) blank).next } in
    let here : get_or (set s a x) a blank ≡ x = get_or-set_same s a x blank l in
    let there : (j : ℕ) → j ≢ a → get_or (set s a x) j blank ≡ get_or s j blank = λ j d. get_or-set_other s a j x blank d in
    record {
      same_length = length-set s a x;
      after = e;
      over = ap (λ (y : Slot). y.next) here ∙ ap (λ m. (get_or s m blank).next) n;
      others = λ j d. ap (λ (y : Slot). y.next) (there j d);
      same_cell = λ j. elim (cases_eq j a) [ inl q ↦ rw q (ap cell here) | inr d ↦ ap cell (there j d) ];
    }

module _ (h : Low) (sound : Sound h) (i k a b : ℕ) (t : IsTrue (thing h i)) (at_k : slice_get (chain (all h) (home h i)) k ≡ Some a) (after : step_of (all h) a ≡ suc b) where
  abbrev c' : Low
  c' = with_ram h (put_past h.ram a)

  cut_below : a < length (all h)
  cut_below = chain_below (thing h) (home h) (all h) sound i a t (has_get _ k a at_k)

  cuts : Cuts (all h) (all c') a b
  cuts = cuts_is h.ram a b cut_below after

  cut_things : (j : ℕ) → thing c' j ≡ thing h j
  cut_things j = thing_over h (all c') cuts.same_length j

  cut_homes : (j : ℕ) → home c' j ≡ home h j
  unfolding home
  cut_homes j = refl

  pub sound_removed : Sound c'
  sound_removed =
      chained_same (thing h) (thing c') (home h) (home c') (all c') cut_things (λ j u. cut_homes j) (chained_cut (thing h) (home h) (all h) (all c') sound i k a b t at_k cuts)

  cut_kept : (q : ℕ) → is_thing c' q ≡ is_thing h q
  cut_kept zero = refl
  cut_kept (suc j) = cut_things j

  cut_others : (q : ℕ) → IsTrue (is_thing h q) → q ≢ suc i → (places c' q ≡ places h q) × (cells c' q ≡ cells h q)
  unfolding home
  cut_others zero u d = absurd (cc)
  cut_others (suc j) u d =
      let d' : j ≢ i = λ e. d (ap suc e) in
      (ap (map (λ k. suc k)) (chain_cut_other (thing h) (home h) (all h) (all c') sound i k a b t at_k cuts j u d'), cells_cut_other (thing h) (home h) (all h) (all c') sound i k a b t at_k cuts j u d')

  pub removed_at : Removed h (suc i) k c'
  unfolding home shown
  removed_at = record {
    same_length = cuts.same_length;
    things = shown_same (thing h) (thing c') (home h) (home c') (all c') cut_things (λ j u. cut_homes j) ∙ shown_cut (thing h) (home h) (all h) (all c') sound i k a b t at_k cuts;
    placed = ap (map (λ k. suc k)) (chain_cut (thing h) (home h) (all h) (all c') sound i k a b t at_k cuts) ∙ map_remove (λ k. suc k) (chain (all h) (home h i)) (suc k);
    celled = cells_cut (thing h) (home h) (all h) (all c') sound i k a b t at_k cuts;
    others = record { heads = cut_kept; apart = cut_others; owned = λ q o. cut_kept q ∙ o };
  }

range : (h : Low) (j : ℕ) → step_of (all h) j ≤ length (all h) → (get_or (all h) j blank).next ≤ length (all h)
unfolding step_of
range h j l = l

-- what follows a slot that isn't the last
pub after_some : (h : Low) (r k at : ℕ) → Sound h → Stands h r k at → suc k < length (places h r) → (0 < (get_or (all h) (at - 1) blank).next) × ((get_or (all h) (at - 1) blank).next ≤ length (all h))
after_some h r k at sound s l =
    from (get_or (all h) (at - 1) blank).next (slice_get_within (places h r) (suc k) l) (stands_at h r k at sound s).next (range h (at - 1) (sound.in_range (at - 1)))
  where
    from : (n : ℕ) → ((x : ℕ) × (slice_get (places h r) (suc k) ≡ Some x)) → slice_get (places h r) (suc k) ≡ address n → n ≤ length (all h) → (0 < n) × (n ≤ length (all h))
    from zero x e b = absurd (let z = x.1 in cc)
    from (suc n) x e b = (omega arith, b)

step_here : (s : List Slot) (m a b : ℕ) → m ≡ a → (get_or s m blank).next ≡ suc b → step_of s a ≡ suc b
unfolding step_of
step_here s m a b q e = ap (λ j. (get_or s j blank).next) (sym q) ∙ e

pub removed : (h : Low) (r k at : ℕ) → Sound h → Stands h r k at → suc k < length (places h r) → Sound (with_ram h (put_past h.ram (at - 1))) × Removed h r k (with_ram h (put_past h.ram (at - 1)))
removed h zero k at sound s l = absurd (let t = s.thing in cc)
removed h (suc i) k at sound s l =
    let p = place_of (chain (all h) (home h i)) k at s.place in
    let f : at ≡ suc p.0 = p.1 in
    let e : at - 1 ≡ p.0 = omega arith in
    let n = after_some h (suc i) k at sound s l in
    let m = n.0 in
    let b = (get_or (all h) (at - 1) blank).next - 1 in
    let after = step_here (all h) (at - 1) p.0 b e (omega arith) in
    (rw e (sound_removed h sound i k p.0 b s.thing p.2 after), rw e (removed_at h sound i k p.0 b s.thing p.2 after))

-- ---- what the code writes

pub put_behind_is : (s ys : List Slot) (k n : ℕ) (c x y : Slot) → k < length s → x ≡ get_or s k x → ys ≡ s ++ record c { next = x.next } ∷ [] → y ≡ get_or ys k y → set ys k (record y { next = n }) ≡ put_behind s k c n
unfolding put_behind
put_behind_is s ys k n c x y l ex eys ey =
    let fx : x ≡ get_or s k blank = ex ∙ get_or_default s k x blank l in
    let ly : k < length ys = let e = ap length eys ∙ length_push s (record c { next = x.next }) in omega arith in
    let fy : y ≡ get_or s k blank = ey ∙ get_or_default ys k y blank ly ∙ ap (λ t. get_or t k blank) eys ∙ get_or_append_left s _ blank k l in
    rw (eys, fy, fx) refl

pub put_over_is : (s : List Slot) (a : ℕ) (b : Bool) (c x z : Slot) → a < length s → x ≡ get_or s a x → z ≡ kept_slot b x c → set s a z ≡ put_over s a b c
unfolding put_over
put_over_is s a b c x z l e g = let f = e ∙ get_or_default s a x blank l in rw (g, f) refl

pub put_past_is : (s : List Slot) (a : ℕ) (x y z : Slot) → a < length s → x ≡ get_or s a x → x.next - 1 < length s → y ≡ get_or s (x.next - 1) y → z ≡ get_or s a z → set s a (record z { next = y.next }) ≡ put_past s a
unfolding put_past
put_past_is s a x y z l e m f g =
    let e' = e ∙ get_or_default s a x blank l in
    let f' : y ≡ get_or s ((get_or s a blank).next - 1) blank = f ∙ get_or_default s (x.next - 1) y blank m ∙ ap (λ (q : Slot). get_or s (q.next - 1) blank) e' in
    let g' = g ∙ get_or_default s a z blank l in
    rw (g', f') refl

pub next_is : (s : List Slot) (a : ℕ) (x : Slot) → a < length s → x ≡ get_or s a x → x.next ≡ (get_or s a blank).next
next_is s a x l e = ap (λ (q : Slot). q.next) (e ∙ get_or_default s a x blank l)

-- one address is one place of a thing
pub more_after : (h : Low) (r k j at : ℕ) → Sound h → Stands h r k at → Stands h r j at → suc k < length (places h r) → suc j < length (places h r)
more_after h r k j at sound s t l =
    some_within (places h r) (suc j) _ ((stands_at h r j at sound t).next ∙ sym (stands_at h r k at sound s).next ∙ (slice_get_within (places h r) (suc k) l).1)
  where
    some_within : (xs : List ℕ) (k x : ℕ) → slice_get xs k ≡ Some x → k < length xs
    some_within [] k x e = absurd (cc)
    some_within (y ∷ ys) zero x e = omega arith
    some_within (y ∷ ys) (suc k) x e = let l = some_within ys k x e in omega arith
