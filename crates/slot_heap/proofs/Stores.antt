-- What each edit does to the store: one equation for each kind of edit, in the words of the store.
use Rattle.std.proofs.Common.{◌≡◌, ℕ, suc, zero, ◌<◌, ◌≤◌, false, List, [], ◌∷◌, length, get_or, set, refl, ap, sym, ◌∙◌, arith, Some}
use Rattle.std.specs.List.{slice_get, insert, remove}
use Rattle.std.specs.Prelude.{IsTrue}
use Rattle.std.proofs.lemmas.Bool.{ne_eqb}
use Rattle.slot_heap.specs.declared.slot.Slot.{Slot}
use Rattle.slot_heap.specs.Slot.{blank, is_object_kind, value_in, stored}
use Rattle.slot_heap.specs.Chains.{cell}
use Rattle.slot_heap.specs.Shown.{is_thing, cells, places, Stands}
use Rattle.slot_heap.specs.Steps.{Added, Replaced, Removed}
use Rattle.slot_heap.specs.Held.{Held}
use Rattle.slot_heap.specs.Reading.{Reading, is_indexed, property_in, class_in, object_record, thing_of}
use Rattle.slot_heap.specs.Flat.{reading, number_of, flat}
use Rattle.slot_heap.specs.Standing.{has_name}
use Rattle.slot_heap.proofs.Flat.{SameWords, flat_at, flat_added, flat_replaced, flat_removed}
use Rattle.slot_heap.proofs.Uses.{same_count}
use Rattle.slot_heap.proofs.Parts.{count, named_entry, indexed_entry}
use Rattle.slot_heap.proofs.Records.{Behind, named_added, indexed_added, named_put, indexed_put, internal_put, internal_added, internal_cut, named_cut, indexed_cut}
use Rattle.js_value.specs.Store.{Store, Property, Class, ObjectRecord, AnObject, object_in}

-- the store with another record of an object
abbrev pub with_object : Store → ℕ → (ObjectRecord → ObjectRecord) → Store
with_object s n change = set s n (AnObject (change (object_in s n)))

-- ---- changes of a record

abbrev pub add_named : ℕ → List ℕ × Property → ObjectRecord → ObjectRecord
add_named i e o = record o { named = insert o.named i e }

abbrev pub put_named : ℕ → List ℕ × Property → ObjectRecord → ObjectRecord
put_named i e o = record o { named = set o.named i e }

abbrev pub cut_named : ℕ → ObjectRecord → ObjectRecord
cut_named i o = record o { named = remove o.named i }

abbrev pub add_indexed : ℕ → ℕ × Property → ObjectRecord → ObjectRecord
add_indexed i e o = record o { indexed = insert o.indexed i e }

abbrev pub put_indexed : ℕ → ℕ × Property → ObjectRecord → ObjectRecord
put_indexed i e o = record o { indexed = set o.indexed i e }

abbrev pub cut_indexed : ℕ → ObjectRecord → ObjectRecord
cut_indexed i o = record o { indexed = remove o.indexed i }

abbrev pub with_class : Class → ObjectRecord → ObjectRecord
with_class c o = record o { class = c }

-- an object stands at an address, with these cells
pub record IsObject (h : Held) (r : ℕ) (head : Slot) (cs : List Slot) : Type 0 where
  pub thing : IsTrue (is_thing h.slots r)
  pub cells_are : cells h.slots r ≡ head ∷ cs
  pub object : IsTrue (is_object_kind head.kind)

pub thing_is : (r : Reading) (head : Slot) (cs : List Slot) → IsTrue (is_object_kind head.kind) → thing_of r (head ∷ cs) ≡ AnObject (object_record r head cs)
unfolding thing_of
thing_is r head cs o = rw o refl

-- the record of an object in the store
pub object_at : (h : Held) (r : ℕ) (head : Slot) (cs : List Slot) → IsObject h r head cs → object_in (flat h) (number_of h r) ≡ object_record (reading h) head cs
unfolding object_in
object_at h r head cs o =
    let here : slice_get (flat h) (number_of h r) ≡ Some (AnObject (object_record (reading h) head cs)) = flat_at h r o.thing ∙ ap Some (ap (thing_of (reading h)) o.cells_are ∙ thing_is (reading h) head cs o.object) in
    rw here refl

-- a cell is its slot but for where the chain goes on
named_cell : (r : Reading) (c : Slot) → named_entry r (cell c) ≡ named_entry r c
unfolding cell property_in value_in
named_cell r c = refl

indexed_cell : (r : Reading) (c : Slot) → indexed_entry r (cell c) ≡ indexed_entry r c
unfolding cell property_in value_in
indexed_cell r c = refl

kind_of_cell : (c : Slot) → (cell c).kind ≡ c.kind
unfolding cell
kind_of_cell c = refl

name_of_cell : (c : Slot) → has_name (cell c) ≡ has_name c
unfolding cell
name_of_cell c = refl

index_of_cell : (c : Slot) → is_indexed (cell c) ≡ is_indexed c
unfolding cell
index_of_cell c = refl

within_cells : (h : Held) (r k at : ℕ) (head : Slot) (cs : List Slot) → IsObject h r head cs → Stands h.slots r k at → k ≤ length cs
within_cells h r k at head cs o s =
    let n = same_count h.slots r in
    let m = ap length o.cells_are in
    let l = below (places h.slots r) k at s.place in
    omega arith
  where
    below : (xs : List ℕ) (k x : ℕ) → slice_get xs k ≡ Some x → k < length xs
    below [] k x e = absurd (cc)
    below (y ∷ ys) zero x e = omega arith
    below (y ∷ ys) (suc k) x e = let l = below ys k x e in omega arith

-- the object's place has the thing that the new cells spell
placed : (h h' : Held) (r : ℕ) (head head' : Slot) (cs ds : List Slot) (change : ObjectRecord → ObjectRecord) → IsObject h r head cs → flat h' ≡ set (flat h) (number_of h r) (thing_of (reading h) (cells h'.slots r)) → cells h'.slots r ≡ head' ∷ ds → IsTrue (is_object_kind head'.kind) → object_record (reading h) head' ds ≡ change (object_record (reading h) head cs) → flat h' ≡ with_object (flat h) (number_of h r) change
placed h h' r head head' cs ds change o e f k g =
    e ∙ ap (set (flat h) (number_of h r)) (ap (thing_of (reading h)) f ∙ thing_is (reading h) head' ds k ∙ ap AnObject (g ∙ ap change (sym (object_at h r head cs o))))

-- ---- a property is added, replaced, cut

module _ (h h' : Held) (r k at : ℕ) (c head : Slot) (cs : List Slot) (w : SameWords h h') (o : IsObject h r head cs) where
  added_cells : Added h.slots r k c h'.slots → cells h'.slots r ≡ head ∷ insert cs k (cell c)
  added_cells a = a.celled ∙ ap (λ xs. insert xs (suc k) (cell c)) o.cells_are

  pub property_added : Stands h.slots r k at → Behind head.kind k → IsTrue (has_name c) → Added h.slots r k c h'.slots → flat h' ≡ with_object (flat h) (number_of h r) (add_named (count has_name k cs) (named_entry (reading h) c))
  property_added s b n a =
      placed h h' r head head cs (insert cs k (cell c)) (add_named (count has_name k cs) (named_entry (reading h) c)) o (flat_added h h' r k c w o.thing a).1 (added_cells a) o.object (named_added (reading h) head (cell c) cs k b (within_cells h r k at head cs o s) (name_of_cell c ∙ n) ∙ ap (λ q. add_named (count has_name k cs) q (object_record (reading h) head cs)) (named_cell (reading h) c))

  pub index_added : Stands h.slots r k at → Behind head.kind k → IsTrue (is_indexed c) → Added h.slots r k c h'.slots → flat h' ≡ with_object (flat h) (number_of h r) (add_indexed (count is_indexed k cs) (indexed_entry (reading h) c))
  index_added s b n a =
      placed h h' r head head cs (insert cs k (cell c)) (add_indexed (count is_indexed k cs) (indexed_entry (reading h) c)) o (flat_added h h' r k c w o.thing a).1 (added_cells a) o.object (indexed_added (reading h) head (cell c) cs k b (within_cells h r k at head cs o s) (index_of_cell c ∙ n) ∙ ap (λ q. add_indexed (count is_indexed k cs) q (object_record (reading h) head cs)) (indexed_cell (reading h) c))

  -- an internal slot more, as a part of a promise
  pub class_added : has_name c ≡ false → is_indexed c ≡ false → Added h.slots r k c h'.slots → flat h' ≡ with_object (flat h) (number_of h r) (with_class (class_in (reading h) head.kind (insert cs k (cell c))))
  class_added n x a =
      placed h h' r head head cs (insert cs k (cell c)) (with_class (class_in (reading h) head.kind (insert cs k (cell c)))) o (flat_added h h' r k c w o.thing a).1 (added_cells a) o.object (internal_added (reading h) head (cell c) cs k (name_of_cell c ∙ n) (index_of_cell c ∙ x))

-- the slot of place k behind the head
module _ (h h' : Held) (r k : ℕ) (c d head : Slot) (cs : List Slot) (w : SameWords h h') (o : IsObject h r head cs) (at_k : slice_get cs k ≡ Some d) where
  put_cells : Replaced h.slots r (suc k) c h'.slots → cells h'.slots r ≡ head ∷ set cs k (cell c)
  put_cells a =
      a.celled ∙ ap (λ b. set (cells h.slots r) (suc k) (cell (stored b (get_or (cells h.slots r) (suc k) blank) c))) (ne_eqb (suc k) 0 (λ q. absurd (omega arith))) ∙ ap (λ xs. set xs (suc k) (cell c)) o.cells_are

  pub property_put : Behind head.kind k → IsTrue (has_name d) → IsTrue (has_name c) → Replaced h.slots r (suc k) c h'.slots → flat h' ≡ with_object (flat h) (number_of h r) (put_named (count has_name k cs) (named_entry (reading h) c))
  property_put b m n a =
      placed h h' r head head cs (set cs k (cell c)) (put_named (count has_name k cs) (named_entry (reading h) c)) o (flat_replaced h h' r (suc k) c w o.thing a).1 (put_cells a) o.object (named_put (reading h) head d (cell c) cs k b at_k m (name_of_cell c ∙ n) ∙ ap (λ q. put_named (count has_name k cs) q (object_record (reading h) head cs)) (named_cell (reading h) c))

  pub index_put : Behind head.kind k → IsTrue (is_indexed d) → IsTrue (is_indexed c) → Replaced h.slots r (suc k) c h'.slots → flat h' ≡ with_object (flat h) (number_of h r) (put_indexed (count is_indexed k cs) (indexed_entry (reading h) c))
  index_put b m n a =
      placed h h' r head head cs (set cs k (cell c)) (put_indexed (count is_indexed k cs) (indexed_entry (reading h) c)) o (flat_replaced h h' r (suc k) c w o.thing a).1 (put_cells a) o.object (indexed_put (reading h) head d (cell c) cs k b at_k m (index_of_cell c ∙ n) ∙ ap (λ q. put_indexed (count is_indexed k cs) q (object_record (reading h) head cs)) (indexed_cell (reading h) c))

  -- an internal slot, as an array's length or a promise's state
  pub class_put : has_name d ≡ false → is_indexed d ≡ false → has_name c ≡ false → is_indexed c ≡ false → Replaced h.slots r (suc k) c h'.slots → flat h' ≡ with_object (flat h) (number_of h r) (with_class (class_in (reading h) head.kind (set cs k (cell c))))
  class_put nd xd nc xc a =
      placed h h' r head head cs (set cs k (cell c)) (with_class (class_in (reading h) head.kind (set cs k (cell c)))) o (flat_replaced h h' r (suc k) c w o.thing a).1 (put_cells a) o.object (internal_put (reading h) head d (cell c) cs k at_k nd xd (name_of_cell c ∙ nc) (index_of_cell c ∙ xc))

module _ (h h' : Held) (r k : ℕ) (d head : Slot) (cs : List Slot) (w : SameWords h h') (o : IsObject h r head cs) (at_k : slice_get cs k ≡ Some d) where
  cut_cells : Removed h.slots r k h'.slots → cells h'.slots r ≡ head ∷ remove cs k
  cut_cells a = a.celled ∙ ap (λ xs. remove xs (suc k)) o.cells_are

  pub property_cut : Behind head.kind k → IsTrue (has_name d) → Removed h.slots r k h'.slots → flat h' ≡ with_object (flat h) (number_of h r) (cut_named (count has_name k cs))
  property_cut b m a =
      placed h h' r head head cs (remove cs k) (cut_named (count has_name k cs)) o (flat_removed h h' r k w o.thing a).1 (cut_cells a) o.object (named_cut (reading h) head d cs k b at_k m)

  pub index_cut : Behind head.kind k → IsTrue (is_indexed d) → Removed h.slots r k h'.slots → flat h' ≡ with_object (flat h) (number_of h r) (cut_indexed (count is_indexed k cs))
  index_cut b m a =
      placed h h' r head head cs (remove cs k) (cut_indexed (count is_indexed k cs)) o (flat_removed h h' r k w o.thing a).1 (cut_cells a) o.object (indexed_cut (reading h) head d cs k b at_k m)

  pub class_cut : has_name d ≡ false → is_indexed d ≡ false → Removed h.slots r k h'.slots → flat h' ≡ with_object (flat h) (number_of h r) (with_class (class_in (reading h) head.kind (remove cs k)))
  class_cut n x a =
      placed h h' r head head cs (remove cs k) (with_class (class_in (reading h) head.kind (remove cs k))) o (flat_removed h h' r k w o.thing a).1 (cut_cells a) o.object (internal_cut (reading h) head d cs k at_k n x)
