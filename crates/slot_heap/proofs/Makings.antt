-- What the other calls do to the store: heads are replaced, things are made, texts, names and jobs are added.
use Rattle.std.proofs.Common.{◌≡◌, ℕ, suc, zero, ◌+◌, ◌*◌, ◌/◌, ◌%◌, inl, inr, Bool, true, false, cond, List, [], ◌∷◌, ◌++◌, get_or, replicate, set, refl, ap, ap₂, sym, ◌∙◌, arith, Option, Some, None}
use Rattle.std.specs.List.{slice_get}
use Rattle.std.specs.Prelude.{IsTrue, ◌==◌}
use Rattle.std.proofs.lemmas.List.{append-nil}
use Rattle.slot_heap.specs.declared.slot.Slot.{Slot}
use Rattle.slot_heap.specs.declared.slot.Kind.{Kind}
use Rattle.slot_heap.specs.declared.slot.Kind.TheVariants as kind
use Rattle.slot_heap.specs.declared.slot.Job.{Job}
use Rattle.js_value.specs.declared.counts.Room.{Room}
use Rattle.slot_heap.specs.Slot.{blank, byte_of, four_bytes, head_slot, is_object_kind, value_in, stored}
use Rattle.slot_heap.specs.Chains.{cell}
use Rattle.slot_heap.specs.Shown.{is_thing, cells}
use Rattle.slot_heap.specs.Steps.{Replaced, Made, new_cells}
use Rattle.slot_heap.specs.Held.{Held, NamedAs, no_room, slots_more, units_more}
use Rattle.slot_heap.specs.Reading.{Reading, number_in, bit, upper, is_indexed, class_by, class_in, object_record, initialised, thing_of}
use Rattle.slot_heap.specs.Flat.{reading, number_of, flat}
use Rattle.slot_heap.specs.Standing.{has_name, RefStands, Standing}
use Rattle.slot_heap.proofs.Flat.{SameWords, flat_at, flat_replaced}
use Rattle.slot_heap.proofs.Growth.{number_grows}
use Rattle.slot_heap.proofs.Things.{grows_words, flat_words, grows_made, flat_made}
use Rattle.slot_heap.proofs.Parts.{part_none, is_captured, is_part, named_is, indexed_is, captured_is, parts_are}
use Rattle.slot_heap.proofs.Records.{head_put}
use Rattle.slot_heap.proofs.Stores.{with_object, IsObject, thing_is, object_at}
use Rattle.js_value.specs.Store.{Class, Ordinary, Array, ScriptFunction, BuiltInFunction, Error, Promise, Pending, ObjectRecord, CellRecord, AnObject, ACell, AMark, object_in, cell_in, mark_in}

-- ---- a head is replaced

abbrev pub with_head : Option ℕ → Bool → ObjectRecord → ObjectRecord
with_head prototype extensible o = record o { prototype = prototype; extensible = extensible }

head_cells : (h h' : Held) (r : ℕ) (c head : Slot) (cs : List Slot) → cells h.slots r ≡ head ∷ cs → Replaced h.slots r 0 c h'.slots → cells h'.slots r ≡ cell (stored true head c) ∷ cs
head_cells h h' r c head cs e a = a.celled ∙ ap (λ xs. set xs 0 (cell (stored true (get_or xs 0 blank) c))) e

-- an object's prototype and its mark of being extensible
pub head_replaced : (h h' : Held) (r : ℕ) (c head : Slot) (cs : List Slot) → SameWords h h' → IsObject h r head cs → c.kind ≡ head.kind → Replaced h.slots r 0 c h'.slots → flat h' ≡ with_object (flat h) (number_of h r) (with_head (number_in (reading h) (upper c)) (bit c.flags 1))
unfolding thing_of cell
head_replaced h h' r c head cs w o e a =
    let k : is_object_kind c.kind ≡ true = ap is_object_kind e ∙ o.object in
    let new : thing_of (reading h) (cells h'.slots r) ≡ AnObject (with_head (number_in (reading h) (upper c)) (bit c.flags 1) (object_in (flat h) (number_of h r))) =
    ap (thing_of (reading h)) (head_cells h h' r c head cs o.cells_are a) ∙ rw k (ap AnObject (head_put (reading h) head c cs o.object e ∙ ap (with_head (number_in (reading h) (upper c)) (bit c.flags 1)) (sym (object_at h r head cs o)))) in
    (flat_replaced h h' r 0 c w o.thing a).1 ∙ ap (set (flat h) (number_of h r)) new

-- a cell of a captured binding, and a mark, have a head alone
pub record IsHead (h : Held) (r kind : ℕ) (head : Slot) (cs : List Slot) : Type 0 where
  pub thing : IsTrue (is_thing h.slots r)
  pub cells_are : cells h.slots r ≡ head ∷ cs
  pub kind_is : head.kind ≡ kind

abbrev pub cell_by : Reading → Slot → CellRecord
cell_by r c = record { value = initialised r c; const = bit c.flags 1 }

cell_is : (r : Reading) (c : Slot) (cs : List Slot) → c.kind ≡ 7 → thing_of r (c ∷ cs) ≡ ACell (cell_by r c)
unfolding thing_of
cell_is r c cs e = ap (λ k. cond (is_object_kind k) (AnObject (object_record r c cs)) (cond (k == 7) (ACell (cell_by r c)) (AMark (bit c.flags 1)))) e

mark_is : (r : Reading) (c : Slot) (cs : List Slot) → c.kind ≡ 8 → thing_of r (c ∷ cs) ≡ AMark (bit c.flags 1)
unfolding thing_of
mark_is r c cs e = ap (λ k. cond (is_object_kind k) (AnObject (object_record r c cs)) (cond (k == 7) (ACell (cell_by r c)) (AMark (bit c.flags 1)))) e

pub cell_at : (h : Held) (r : ℕ) (head : Slot) (cs : List Slot) → IsHead h r 7 head cs → cell_in (flat h) (number_of h r) ≡ cell_by (reading h) head
unfolding cell_in
cell_at h r head cs o =
    let here : slice_get (flat h) (number_of h r) ≡ Some (ACell (cell_by (reading h) head)) = flat_at h r o.thing ∙ ap Some (ap (thing_of (reading h)) o.cells_are ∙ cell_is (reading h) head cs o.kind_is) in
    rw here refl

pub mark_at : (h : Held) (r : ℕ) (head : Slot) (cs : List Slot) → IsHead h r 8 head cs → mark_in (flat h) (number_of h r) ≡ bit head.flags 1
unfolding mark_in
mark_at h r head cs o =
    let here : slice_get (flat h) (number_of h r) ≡ Some (AMark (bit head.flags 1)) = flat_at h r o.thing ∙ ap Some (ap (thing_of (reading h)) o.cells_are ∙ mark_is (reading h) head cs o.kind_is) in
    rw here refl

same_cell : (r : Reading) (head c : Slot) → head.kind ≡ 7 → cell_by r (cell (stored true head c)) ≡ cell_by r c
unfolding cell value_in
same_cell r head c e = ap (λ k. let b = is_object_kind k in cell_by r (record c { value = cond b (c.value / four_bytes * four_bytes + head.value % four_bytes) c.value })) e

pub cell_replaced : (h h' : Held) (r : ℕ) (c head : Slot) (cs : List Slot) → SameWords h h' → IsHead h r 7 head cs → c.kind ≡ 7 → Replaced h.slots r 0 c h'.slots → flat h' ≡ set (flat h) (number_of h r) (ACell (cell_by (reading h) c))
unfolding cell
cell_replaced h h' r c head cs w o e a =
    (flat_replaced h h' r 0 c w o.thing a).1 ∙ ap (set (flat h) (number_of h r)) (ap (thing_of (reading h)) (head_cells h h' r c head cs o.cells_are a) ∙ cell_is (reading h) (cell (stored true head c)) cs e ∙ ap ACell (same_cell (reading h) head c o.kind_is))

pub mark_replaced : (h h' : Held) (r : ℕ) (c head : Slot) (cs : List Slot) → SameWords h h' → IsHead h r 8 head cs → c.kind ≡ 8 → Replaced h.slots r 0 c h'.slots → flat h' ≡ set (flat h) (number_of h r) (AMark (bit c.flags 1))
unfolding cell
mark_replaced h h' r c head cs w o e a =
    (flat_replaced h h' r 0 c w o.thing a).1 ∙ ap (set (flat h) (number_of h r)) (ap (thing_of (reading h)) (head_cells h h' r c head cs o.cells_are a) ∙ mark_is (reading h) (cell (stored true head c)) cs e)

-- ---- a thing is made

-- the class of an object before its internals are filled
abbrev pub new_class : Kind → Class
new_class kind.Array = Array 0 false
new_class kind.Script = ScriptFunction 0 0 None []
new_class kind.Builtin = BuiltInFunction 0
new_class kind.Error = Error
new_class kind.Promise = Promise Pending []
new_class _ = Ordinary

abbrev pub new_object : Class → Option ℕ → ObjectRecord
new_object class prototype = record { class = class; prototype = prototype; extensible = true; indexed = []; named = [] }

blanks : (r : Reading) (k n : ℕ) → class_in r k (replicate n blank) ≡ class_by r k blank [] []
unfolding class_in
blanks r k n =
    ap₂ (λ xs ps. class_by r k (get_or (replicate n blank) 0 blank) xs ps) (captured_is r (replicate n blank) ∙ part_none is_captured _ n blank refl) (parts_are (replicate n blank) ∙ part_none is_part _ n blank refl) ∙ ap (λ c. class_by r k c [] []) (first n)
  where
    first : (n : ℕ) → get_or (replicate n blank) 0 blank ≡ blank
    first zero = refl
    first (suc n) = refl

upper_head : (k : Kind) (p : ℕ) → upper (head_slot k p) ≡ p
upper_head k p = omega arith

new_record : (r : Reading) (k : Kind) (p n : ℕ) → IsTrue (is_object_kind (byte_of k)) → object_record r (head_slot k p) (replicate n blank) ≡ new_object (class_by r (byte_of k) blank [] []) (number_in r p)
new_record r k p n o =
    let i = indexed_is r (replicate n blank) ∙ part_none is_indexed _ n blank refl in
    let m = named_is r (replicate n blank) ∙ part_none has_name _ n blank refl in
    rw (blanks r (byte_of k) n, upper_head k p, i, m, o) refl

new_thing : (r : Reading) (k : Kind) (p n : ℕ) → IsTrue (is_object_kind (byte_of k)) → class_by r (byte_of k) blank [] [] ≡ new_class k → thing_of r (new_cells k p n) ≡ AnObject (new_object (new_class k) (number_in r p))
new_thing r k p n o e = thing_is r (head_slot k p) (replicate n blank) o ∙ ap AnObject (new_record r k p n o ∙ ap (λ c. new_object c (number_in r p)) e)

pub thing_made : (r : Reading) (k : Kind) (p n : ℕ) → IsTrue (is_object_kind (byte_of k)) → thing_of r (new_cells k p n) ≡ AnObject (new_object (new_class k) (number_in r p))
unfolding value_in
thing_made r kind.Object p n o = new_thing r kind.Object p n refl refl
thing_made r kind.Array p n o = new_thing r kind.Array p n refl refl
thing_made r kind.Script p n o = new_thing r kind.Script p n refl refl
thing_made r kind.Builtin p n o = new_thing r kind.Builtin p n refl refl
thing_made r kind.Error p n o = new_thing r kind.Error p n refl refl
thing_made r kind.Promise p n o = new_thing r kind.Promise p n refl refl
thing_made r kind.Cell p n o = absurd (cc)
thing_made r kind.Mark p n o = absurd (cc)

-- an object more, behind all others
pub object_made : (h h' : Held) (r : ℕ) (k : Kind) (prototype n : ℕ) → Standing h → SameWords h h' → RefStands h prototype → IsTrue (is_object_kind (byte_of k)) → Made h.slots r (new_cells k prototype n) h'.slots → flat h' ≡ flat h ++ AnObject (new_object (new_class k) (number_in (reading h) prototype)) ∷ []
object_made h h' r k prototype n s w p o m =
    let g = grows_made h h' r _ w m in
    flat_made h h' r _ s w m ∙ ap (λ t. flat h ++ t ∷ []) (thing_made (reading h') k prototype n o ∙ ap (λ q. AnObject (new_object (new_class k) q)) (number_grows h (reading h') g s.named prototype p))

-- a cell that isn't initialised, a mark that isn't set
pub cell_made : (h h' : Held) (r prototype : ℕ) → Standing h → SameWords h h' → Made h.slots r (new_cells kind.Cell prototype 0) h'.slots → flat h' ≡ flat h ++ ACell (record { value = None; const = false }) ∷ []
unfolding thing_of
cell_made h h' r prototype s w m = flat_made h h' r _ s w m

pub mark_made : (h h' : Held) (r prototype : ℕ) → Standing h → SameWords h h' → Made h.slots r (new_cells kind.Mark prototype 0) h'.slots → flat h' ≡ flat h ++ AMark false ∷ []
unfolding thing_of
mark_made h h' r prototype s w m = flat_made h h' r _ s w m

-- ---- texts, names and jobs: the store stays

pub flat_same : (h h' : Held) → SameWords h h' → h'.slots ≡ h.slots → (reading h' ≡ reading h) × (flat h' ≡ flat h)
unfolding reading flat
flat_same h h' w e = (rw (w.0, w.1, e) refl, rw (w.0, w.1, e) refl)

pub flat_opened : (h h' : Held) (count : ℕ) → h' ≡ record h { words = record h.words { is_open = true; start = h.words.end; end = h.words.end + count }; used = units_more h.used count } → flat h' ≡ flat h
flat_opened h h' count e = (flat_same h h' (ap (λ g. g.words.units) e, ap (λ g. g.words.names) e) (ap (λ g. g.slots) e)).1

pub flat_closed : (h h' : Held) → h' ≡ record h { words = record h.words { is_open = false } } → flat h' ≡ flat h
flat_closed h h' e = (flat_same h h' (ap (λ g. g.words.units) e, ap (λ g. g.words.names) e) (ap (λ g. g.slots) e)).1

pub flat_queued : (h h' : Held) (job : Job) → h' ≡ record h { jobs = record h.jobs { waiting = h.jobs.waiting ++ job ∷ [] }; used = slots_more h.used 4 } → flat h' ≡ flat h
flat_queued h h' job e = (flat_same h h' (ap (λ g. g.words.units) e, ap (λ g. g.words.names) e) (ap (λ g. g.slots) e)).1

pub flat_taken : (h h' : Held) (jobs : List Job) → h' ≡ record h { jobs = record h.jobs { waiting = jobs } } → flat h' ≡ flat h
flat_taken h h' jobs e = (flat_same h h' (ap (λ g. g.words.units) e, ap (λ g. g.words.names) e) (ap (λ g. g.slots) e)).1

pub flat_restarted : (h h' : Held) (room : Room) → h' ≡ record h { used = no_room; limit = room } → flat h' ≡ flat h
flat_restarted h h' room e = (flat_same h h' (ap (λ g. g.words.units) e, ap (λ g. g.words.names) e) (ap (λ g. g.slots) e)).1

-- units of a text are added
pub flat_pushed : (h h' : Held) (us : List ℕ) → Standing h → h' ≡ record h { words = record h.words { units = h.words.units ++ us } } → flat h' ≡ flat h
flat_pushed h h' us s e =
    let g = grows_words h h' (us, ap (λ g. g.words.units) e) ([], ap (λ g. g.words.names) e ∙ sym (append-nil _)) (ap (λ g. g.slots) e) in
    flat_words h h' s g (ap (λ g. g.slots) e)

-- a text becomes a name, or was one
pub flat_named : (h h' : Held) (p : ℕ × ℕ) (text : List ℕ) (n : ℕ) → Standing h → NamedAs h p text n h' → flat h' ≡ flat h
flat_named h h' p text n s (inl a) = ap flat a.2
flat_named h h' p text n s (inr a) =
    let e = a.2 in
    let g = grows_words h h' ([], ap (λ g. g.words.units) e ∙ sym (append-nil _)) (p ∷ [], ap (λ g. g.words.names) e) (ap (λ g. g.slots) e) in
    flat_words h h' s g (ap (λ g. g.slots) e)
