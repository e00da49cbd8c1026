-- Where things begin.
use Rattle.std.proofs.Common.{◌≡◌, ◌≢◌, ℕ, suc, zero, ◌<◌, ◌≤◌, inl, inr, Bool, true, false, List, [], ◌∷◌, length, get_or, refl, ap, sym, ◌∙◌, arith, Some}
use Rattle.std.specs.List.{slice_get}
use Rattle.std.specs.Prelude.{IsTrue, ◌==◌, ◌&&◌, nat_lt}
use Rattle.std.proofs.lemmas.Bool.{cases_lt, lt-ltb, le-ltb, ne_eqb}
use Rattle.std.proofs.lemmas.List.{get_or_append_left, get_or_push, get_or_default}
use Rattle.slot_heap.specs.declared.slot.Slot.{Slot}
use Rattle.slot_heap.specs.Walk.{IsWalk}
use Rattle.slot_heap.specs.Chains.{step_of, chain, Chained}
use Rattle.slot_heap.specs.Shown.{Low, low, all, thing, home}
use Rattle.slot_heap.specs.Writes.{with_ram, with_more}
use Rattle.slot_heap.proofs.Walks.{not_again, has_get}

-- as many marks as slots
abbrev pub Marked : Low → Type 0
Marked h = length h.begins ≡ length h.ram

pub no_thing_past : (h : Low) (i : ℕ) → length (all h) ≤ i → thing h i ≡ false
unfolding thing
no_thing_past h i l = ap (λ b. b && get_or h.begins i false) (le-ltb i (length h.ram) l)

-- slots are written over
pub thing_over : (h : Low) (s : List Slot) → length s ≡ length h.ram → (j : ℕ) → thing (with_ram h s) j ≡ thing h j
unfolding thing
thing_over h s e j = ap (λ n. nat_lt j n && get_or h.begins j false) e

-- a slot more
pub thing_at_more : (h : Low) (s : List Slot) (b : Bool) → Marked h → length s ≡ suc (length h.ram) → thing (with_more h s b) (length h.ram) ≡ b
unfolding thing
thing_at_more h s b m e =
    ap (λ c. c && get_or (with_more h s b).begins (length h.ram) false) (lt-ltb (length h.ram) (length s) (omega arith)) ∙ get_or_push h.begins b false (length h.ram) m

pub thing_more : (h : Low) (s : List Slot) (b : Bool) → Marked h → length s ≡ suc (length h.ram) → (j : ℕ) → j ≢ length h.ram → thing (with_more h s b) j ≡ thing h j
unfolding thing
thing_more h s b m e j d = elim (cases_lt j (length h.ram)) [
  | inl l ↦ rw (lt-ltb j (length h.ram) l, lt-ltb j (length s) (omega arith)) (get_or_append_left h.begins (b ∷ []) false j (omega arith))
  | inr l ↦ rw (le-ltb j (length h.ram) l, le-ltb j (length s) (omega arith)) refl
]

-- ---- a thing's head is the one of its slots at which a thing begins

begin_of : (h : Low) (i : ℕ) → IsTrue (thing h i) → get_or h.begins i false ≡ true
unfolding thing
begin_of h i t = second (nat_lt i (length h.ram)) (get_or h.begins i false) t
  where
    second : (a b : Bool) → (a && b) ≡ true → b ≡ true
    second true b e = e
    second false b e = absurd (cc)

thing_of_begin : (h : Low) (i : ℕ) → i < length (all h) → get_or h.begins i false ≡ true → IsTrue (thing h i)
unfolding thing
thing_of_begin h i l e = rw (lt-ltb i (length h.ram) l, e) refl

-- a walk from the address of a place begins there
walk_head : (step : ℕ → ℕ) (i : ℕ) (xs : List ℕ) → IsWalk step (suc i) xs → slice_get xs 0 ≡ Some i
walk_head step i [] w = absurd (omega arith)
walk_head step i (x ∷ xs) w = let e : x ≡ i = let q = w.0 in omega arith in ap Some e

-- and never comes back
walk_later : (step : ℕ → ℕ) (i k : ℕ) (xs : List ℕ) → IsWalk step (suc i) xs → slice_get xs (suc k) ≡ Some i → ⊥
walk_later step i k [] w e = absurd (cc)
walk_later step i k (x ∷ xs) w e =
    let f : x ≡ i = let q = w.0 in omega arith in
    not_again step (suc i) x xs w (rw f (has_get xs k i e))

pub begins_here : (h : Low) (i k a : ℕ) → Chained (thing h) (home h) (all h) → IsTrue (thing h i) → a < length (all h) → slice_get (chain (all h) (home h i)) k ≡ Some a → get_or h.begins a false ≡ (k == 0)
unfolding home
begins_here h i zero a o t l e =
    let f : a ≡ i = some_is (sym e ∙ walk_head (step_of (all h)) i (chain (all h) (suc i)) (o.ends i t)) in
    rw f (begin_of h i t)
  where
    some_is : {x y : ℕ} → Some x ≡ Some y → x ≡ y
    some_is q = cc
begins_here h i (suc k) a o t l e = by (get_or h.begins a false) refl ∙ sym (ne_eqb (suc k) 0 (λ q. absurd (omega arith)))
  where
    by : (b : Bool) → get_or h.begins a false ≡ b → b ≡ false
    by false q = refl
    by true q =
        let u = thing_of_begin h a l q in
        let p = has_get (chain (all h) (suc a)) 0 a (walk_head (step_of (all h)) a (chain (all h) (suc a)) (o.ends a u)) in
        let f : a ≡ i = o.apart a i a u t p (has_get (chain (all h) (suc i)) (suc k) a e) in
        absurd (walk_later (step_of (all h)) i k (chain (all h) (suc i)) (o.ends i t) (rw f at e))

-- the mark that the code reads
pub mark_read : (h : Low) (s : List Slot) (b : List Bool) (reserved i : ℕ) (m : Bool) → low s b reserved ≡ h → i < length b → m ≡ get_or b i m → m ≡ get_or h.begins i false
mark_read h s b reserved i m v l e = e ∙ get_or_default b i m false l ∙ ap (λ (g : Low). get_or g.begins i false) v
