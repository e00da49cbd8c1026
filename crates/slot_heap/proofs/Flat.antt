-- The store of a heap, and how it changes with the slots.
use Rattle.std.proofs.Common.{◌≡◌, ℕ, suc, zero, inl, inr, cond, List, length, map, set, refl, ap, ap₂, sym, ◌∙◌, Some, None}
use Rattle.std.specs.List.{slice_get}
use Rattle.std.specs.Prelude.{IsTrue}
use Rattle.std.proofs.lemmas.Bool.{cases_lt}
use Rattle.slot_heap.specs.declared.slot.Slot.{Slot}
use Rattle.slot_heap.specs.Walk.{Has}
use Rattle.slot_heap.specs.Chains.{find, update, thing_in, shown_in}
use Rattle.slot_heap.specs.Shown.{Low, all, thing, home, is_thing, cells, shown}
use Rattle.slot_heap.specs.Steps.{Added, Replaced, Removed}
use Rattle.slot_heap.specs.Held.{Held}
use Rattle.slot_heap.specs.Reading.{Reading, place_in, thing_of}
use Rattle.slot_heap.specs.Flat.{heads_of, reading, number_of, flat}
use Rattle.slot_heap.proofs.Marks.{no_thing_past}
use Rattle.slot_heap.proofs.Ranks.{keys, Apart, table_apart, get_ranked, update_ranked, keys_update, find_past, find_table, find_zero, has_key}

-- what stands at an address
pub find_shown : (h : Low) (a : ℕ) → find a (shown h) ≡ cond (is_thing h a) (Some (cells h a)) None
unfolding shown shown_in thing_in
find_shown h zero = find_zero (thing_in (thing h) (home h) (all h)) (length (all h))
find_shown h (suc i) = elim (cases_lt i (length (all h))) [
  | inl l ↦ find_table (thing_in (thing h) (home h) (all h)) (length (all h)) i l
  | inr l ↦ find_past (thing_in (thing h) (home h) (all h)) (length (all h)) i l ∙ rw (no_thing_past h i l) refl
]

pub shown_has : (h : Low) (a : ℕ) → IsTrue (is_thing h a) → find a (shown h) ≡ Some (cells h a)
shown_has h a t = find_shown h a ∙ rw t refl

pub shown_apart : (h : Low) → Apart (keys (shown h))
unfolding shown shown_in
shown_apart h = table_apart (thing_in (thing h) (home h) (all h)) (length (all h))

pub has_head : (h : Held) (a : ℕ) → IsTrue (is_thing h.slots a) → Has (reading h).heads a
unfolding reading
has_head h a t = has_key (shown h.slots) a _ (shown_has h.slots a t)

-- a thing's place in the store, and what stands there
pub flat_at : (h : Held) (a : ℕ) → IsTrue (is_thing h.slots a) → slice_get (flat h) (number_of h a) ≡ Some (thing_of (reading h) (cells h.slots a))
unfolding flat number_of reading
flat_at h a t = get_ranked (thing_of (reading h)) (shown h.slots) a (cells h.slots a) (shown_has h.slots a t)

-- ---- changes of one thing

-- the same words
abbrev pub SameWords : Held → Held → Type 0
SameWords h h' = (h'.words.units ≡ h.words.units) × (h'.words.names ≡ h.words.names)

same_reading : (h h' : Held) → SameWords h h' → (reading h').heads ≡ (reading h).heads → reading h' ≡ reading h
unfolding reading
same_reading h h' w e =
    rw (w.0, w.1) (ap (λ (hs : List ℕ). let r : Reading = record { units = h.words.units; names = h.words.names; heads = hs } in r) e)

pub heads_are : (h : Held) → (reading h).heads ≡ keys (shown h.slots)
unfolding reading
heads_are h = refl

heads_edit : (h h' : Held) (a : ℕ) (cs : List Slot) → shown h'.slots ≡ update a cs (shown h.slots) → (reading h').heads ≡ (reading h).heads
unfolding reading
heads_edit h h' a cs e = ap heads_of e ∙ keys_update (shown h.slots) a cs

store_edit : (h h' : Held) (a : ℕ) (cs : List Slot) → reading h' ≡ reading h → IsTrue (is_thing h.slots a) → shown h'.slots ≡ update a cs (shown h.slots) → flat h' ≡ set (flat h) (number_of h a) (thing_of (reading h) cs)
unfolding flat number_of
store_edit h h' a cs r t e =
    ap₂ (λ q ps. map (λ p. thing_of q p.1) ps) r e ∙ numbered h a cs (update_ranked (thing_of (reading h)) (shown h.slots) a (cells h.slots a) cs (shown_apart h.slots) (shown_has h.slots a t))
  where
    numbered : (h : Held) (a : ℕ) (cs : List Slot) → map (λ p. thing_of (reading h) p.1) (update a cs (shown h.slots)) ≡ set (map (λ p. thing_of (reading h) p.1) (shown h.slots)) (place_in a (keys (shown h.slots))) (thing_of (reading h) cs) → map (λ p. thing_of (reading h) p.1) (update a cs (shown h.slots)) ≡ set (map (λ p. thing_of (reading h) p.1) (shown h.slots)) (place_in a (reading h).heads) (thing_of (reading h) cs)
    numbered h a cs e = e ∙ ap (λ ks. set (map (λ p. thing_of (reading h) p.1) (shown h.slots)) (place_in a ks) (thing_of (reading h) cs)) (sym (heads_are h))

-- the cells of a thing change: all is read as before, and the store changes in that place alone
pub edited : (h h' : Held) (a : ℕ) (cs : List Slot) → SameWords h h' → IsTrue (is_thing h.slots a) → shown h'.slots ≡ update a cs (shown h.slots) → (reading h' ≡ reading h) × (flat h' ≡ set (flat h) (number_of h a) (thing_of (reading h) cs))
edited h h' a cs w t e =
    let same = same_reading h h' w (heads_edit h h' a cs e) in
    (same, store_edit h h' a cs same t e)

pub flat_added : (h h' : Held) (r k : ℕ) (c : Slot) → SameWords h h' → IsTrue (is_thing h.slots r) → Added h.slots r k c h'.slots → (reading h' ≡ reading h) × (flat h' ≡ set (flat h) (number_of h r) (thing_of (reading h) (cells h'.slots r)))
flat_added h h' r k c w t a = edited h h' r _ w t (a.things ∙ ap (λ cs. update r cs (shown h.slots)) (sym a.celled))

pub flat_replaced : (h h' : Held) (r k : ℕ) (c : Slot) → SameWords h h' → IsTrue (is_thing h.slots r) → Replaced h.slots r k c h'.slots → (reading h' ≡ reading h) × (flat h' ≡ set (flat h) (number_of h r) (thing_of (reading h) (cells h'.slots r)))
flat_replaced h h' r k c w t a = edited h h' r _ w t (a.things ∙ ap (λ cs. update r cs (shown h.slots)) (sym a.celled))

pub flat_removed : (h h' : Held) (r k : ℕ) → SameWords h h' → IsTrue (is_thing h.slots r) → Removed h.slots r k h'.slots → (reading h' ≡ reading h) × (flat h' ≡ set (flat h) (number_of h r) (thing_of (reading h) (cells h'.slots r)))
flat_removed h h' r k w t a = edited h h' r _ w t (a.things ∙ ap (λ cs. update r cs (shown h.slots)) (sym a.celled))
