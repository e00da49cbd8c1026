-- What callers of the heap use of its steps.
use Rattle.std.proofs.Common.{◌≡◌, ◌≢◌, ℕ, suc, zero, ◌<◌, ◌≤◌, List, [], ◌∷◌, length, refl, ap, sym, ◌∙◌, arith, Some}
use Rattle.std.specs.List.{slice_get, insert}
use Rattle.std.proofs.lemmas.List.{length-map}
use Rattle.slot_heap.specs.declared.slot.Slot.{Slot}
use Rattle.js_value.specs.declared.counts.Room.{Room}
use Rattle.slot_heap.specs.Held.{Held, Holds, spare}
use Rattle.slot_heap.specs.Chains.{cells_at}
use Rattle.slot_heap.specs.Shown.{Low, next_address, places, cells, Stands}
use Rattle.slot_heap.proofs.Flat.{SameWords}
use Rattle.slot_heap.specs.Steps.{OthersStay, Added, Replaced, Made}

-- as many cells as places
pub same_count : (h : Low) (r : ℕ) → length (cells h r) ≡ length (places h r)
unfolding cells_at
same_count h zero = refl
same_count h (suc i) = length-map _ _ ∙ sym (length-map _ _)

within : (xs : List ℕ) (k x : ℕ) → slice_get xs k ≡ Some x → k < length xs
within [] k x e = absurd (cc)
within (y ∷ ys) zero x e = omega arith
within (y ∷ ys) (suc k) x e = let l = within ys k x e in omega arith

get_insert_same : (xs : List ℕ) (i y : ℕ) → i ≤ length xs → slice_get (insert xs i y) i ≡ Some y
get_insert_same [] zero y l = refl
get_insert_same [] (suc i) y l = absurd (omega arith)
get_insert_same (x ∷ xs) zero y l = refl
get_insert_same (x ∷ xs) (suc i) y l = get_insert_same xs i y (omega arith)

get_insert_before : (xs : List ℕ) (i j y : ℕ) → j < i → i ≤ length xs → slice_get (insert xs i y) j ≡ slice_get xs j
get_insert_before [] i j y l m = absurd (omega arith)
get_insert_before (x ∷ xs) zero j y l m = absurd (omega arith)
get_insert_before (x ∷ xs) (suc i) zero y l m = refl
get_insert_before (x ∷ xs) (suc i) (suc j) y l m = get_insert_before xs i j y (omega arith) (omega arith)

-- the new slot stands behind the k-th
pub stands_new_slot : (h : Low) (r k after : ℕ) (c : Slot) (h' : Low) → Stands h r k after → Added h r k c h' → Stands h' r (suc k) (next_address h)
stands_new_slot h r k after c h' s a =
    let l = within (places h r) k after s.place in
    record {
      thing = a.others.heads r ∙ s.thing;
      place = rw a.placed (get_insert_same (places h r) (suc k) (next_address h) (omega arith));
    }

-- those before it stand where they stood
pub stands_before : (h : Low) (r k after j at : ℕ) (c : Slot) (h' : Low) → Stands h r k after → Added h r k c h' → j ≤ k → Stands h r j at → Stands h' r j at
stands_before h r k after j at c h' s a l t =
    let m = within (places h r) k after s.place in
    record {
      thing = a.others.heads r ∙ t.thing;
      place = rw a.placed (get_insert_before (places h r) (suc k) j (next_address h) (omega arith) (omega arith) ∙ t.place);
    }

-- after `put` all stand where they stood
pub stands_put : (h : Low) (r k j at : ℕ) (c : Slot) (h' : Low) → Replaced h r k c h' → Stands h r j at → Stands h' r j at
stands_put h r k j at c h' a t = record { thing = a.others.heads r ∙ t.thing; place = rw a.placed t.place }

-- slots of other things stand where they stood
pub stands_elsewhere : (h : Low) (r q k at : ℕ) (h' : Low) → OthersStay h r h' → q ≢ r → Stands h q k at → Stands h' q k at
stands_elsewhere h r q k at h' o d t = record { thing = o.heads q ∙ t.thing; place = rw (o.apart q t.thing d).0 t.place }

-- a thing that stood goes on standing where it stood when one is made
pub stands_made : (h : Low) (r q k at : ℕ) (cs : List Slot) (h' : Low) → Made h r cs h' → q ≢ r → Stands h q k at → Stands h' q k at
stands_made h r q k at cs h' m d t = record { thing = m.heads q d ∙ t.thing; place = rw (m.apart q t.thing).0 t.place }

-- a thing has a head
some_head : (cs : List Slot) → 0 < length cs → (c : Slot) × (rest : List Slot) × (cs ≡ c ∷ rest)
some_head [] l = absurd (omega arith)
some_head (c ∷ cs) l = (c, cs, refl)

pub head_cells : (h : Low) (r at : ℕ) → Stands h r 0 at → (c : Slot) × (rest : List Slot) × (cells h r ≡ c ∷ rest)
head_cells h r at s = some_head (cells h r) (let n = same_count h r in let l = within (places h r) 0 at s.place in omega arith)

-- edits of slots leave units and names
pub words_stay : (h h' : Held) → h' ≡ record h { slots = h'.slots } → SameWords h h'
words_stay h h' e = (ap (λ (g : Held). g.words.units) e, ap (λ (g : Held). g.words.names) e)

pub words_stay_used : (h h' : Held) (used : Room) → h' ≡ record h { slots = h'.slots; used = used } → SameWords h h'
words_stay_used h h' used e = (ap (λ (g : Held). g.words.units) e, ap (λ (g : Held). g.words.names) e)

-- ---- what calls ask

-- one slot stands behind another: it may be cut
pub cut_fits : (h : Low) (r k at n : ℕ) → Stands h r k at → slice_get (places h r) (suc k) ≡ Some n → (k : ℕ) × Stands h r k at × (suc k < length (places h r))
cut_fits h r k at n s e = (k, s, within (places h r) (suc k) n e)

pub holds_spare : (h : Held) (room : Room) → room ≡ spare h → Holds (spare h) room
holds_spare h room e = rw e (let all : Holds (spare h) (spare h) = record { slots = omega arith; units = omega arith; names = omega arith } in all)
