-- All that is spoken of goes on standing.
use Rattle.std.proofs.Common.{◌≡◌, ◌≢◌, ℕ, suc, zero, ◌+◌, ◌*◌, ◌/◌, ◌%◌, ◌<◌, inl, inr, Bool, true, false, cond, List, [], ◌∷◌, ◌++◌, length, get_or, refl, sym, ◌∙◌, subst, arith, length-append}
use Rattle.std.specs.List.{All}
use Rattle.std.specs.Prelude.{IsTrue, ◌==◌}
use Rattle.std.proofs.lemmas.Bool.{cases_eq, eqb-true}
use Rattle.std.proofs.lemmas.List.{append-nil}
use Rattle.std.proofs.lemmas.List.Elements.{All-tail, All-cons, All-append, All-take, All-drop, All-set, All-weaker, All-push}
use Rattle.slot_heap.specs.declared.slot.Slot.{Slot}
use Rattle.slot_heap.specs.declared.slot.Job.{Job}
use Rattle.slot_heap.specs.declared.slot.Value.{Value}
use Rattle.slot_heap.specs.declared.slot.Value.TheVariants.{Undefined, Null, Bool as OfBool, Number, Name, Text, Thing}
use Rattle.slot_heap.specs.Slot.{blank, four_bytes, tag_of, value_by, value_in, is_object_kind, stored}
use Rattle.slot_heap.specs.Chains.{cell}
use Rattle.slot_heap.specs.Shown.{is_thing, cells}
use Rattle.slot_heap.specs.Steps.{Added, Replaced, Removed, Made, OthersStay}
use Rattle.slot_heap.specs.Texts.{Within}
use Rattle.slot_heap.specs.Held.{Held}
use Rattle.slot_heap.specs.Reading.{upper, lower, is_accessor}
use Rattle.slot_heap.specs.Standing.{RefStands, ValueStands, has_last, CellStands, Standing, Stays}
use Rattle.slot_heap.proofs.Flat.{SameWords}
use Rattle.slot_heap.proofs.Grown.{within_grown}

-- ---- under growth

module _ (h h' : Held) (g : Stays h h') where
  ref_stays : (a : ℕ) → RefStands h a → RefStands h' a
  ref_stays zero s = tt
  ref_stays (suc i) s = g.things (suc i) s

  name_stays : (n : ℕ) → n < length h.words.names → n < length h'.words.names
  name_stays n l = rw g.names.1 (let k = length-append h.words.names g.names.0 in omega arith)

  within_stays : (p : ℕ × ℕ) → Within h.words.units p → Within h'.words.units p
  within_stays p w = rw g.units.1 (within_grown h.words.units g.units.0 p w)

  pub value_stays : (v : Value) → ValueStands h v → ValueStands h' v
  value_stays Undefined s = tt
  value_stays Null s = tt
  value_stays (OfBool b) s = tt
  value_stays (Number n) s = s
  value_stays (Name n) s = name_stays n s
  value_stays (Text at count) s = within_stays (at, count) s
  value_stays (Thing a) s = ref_stays a.0 s

  pub cell_stays : (c : Slot) → CellStands h c → CellStands h' c
  cell_stays c s = record {
    prototype = λ e. ref_stays (upper c) (s.prototype e);
    tag = s.tag;
    key = λ e. name_stays c.key (s.key e);
    getter = λ e. ref_stays (lower c) (s.getter e);
    last = λ e. ref_stays c.last (s.last e);
    value = value_stays (value_in c) s.value;
  }

  cells_stay : (cs : List Slot) → All (CellStands h) cs → All (CellStands h') cs
  cells_stay cs a = All-weaker (CellStands h) (CellStands h') cell_stays cs a

  jobs_stay : (js : List Job) → All (λ (j : Job). All (ValueStands h) j.values) js → All (λ (j : Job). All (ValueStands h') j.values) js
  jobs_stay js a = All-weaker (λ (j : Job). All (ValueStands h) j.values) (λ (j : Job). All (ValueStands h') j.values) (λ j s. All-weaker (ValueStands h) (ValueStands h') value_stays j.values s) js a

  -- all but the thing at r are as before
  pub standing_after : (r : ℕ) → Standing h → All (Within h'.words.units) h'.words.names → h'.jobs.waiting ≡ h.jobs.waiting → ((q : ℕ) → IsTrue (is_thing h'.slots q) → q ≢ r → IsTrue (is_thing h.slots q) × (cells h'.slots q ≡ cells h.slots q)) → (IsTrue (is_thing h'.slots r) → All (CellStands h') (cells h'.slots r)) → Standing h'
  standing_after r s named js others here = record {
    named = named;
    cells = λ q t. elim (cases_eq q r) [
      | inl e ↦ rw e (here (rw e at t))
      | inr d ↦ let o = others q t d in rw o.1 (cells_stay (cells h.slots q) (s.cells q o.0))
    ];
    jobs = rw js (jobs_stay h.jobs.waiting s.jobs);
  }

  -- the same slots
  pub standing_words : Standing h → All (Within h'.words.units) h'.words.names → h'.slots ≡ h.slots → h'.jobs.waiting ≡ h.jobs.waiting → Standing h'
  standing_words s named e js = record {
    named = named;
    cells = λ q t. let t' : IsTrue (is_thing h.slots q) = subst (λ l. IsTrue (is_thing l q)) e t in subst (λ l. All (CellStands h') (cells l q)) (sym e) (cells_stay (cells h.slots q) (s.cells q t'));
    jobs = rw js (jobs_stay h.jobs.waiting s.jobs);
  }

-- ---- edits of a thing

same_words : (h h' : Held) → SameWords h h' → ((more : List ℕ) × (h'.words.units ≡ h.words.units ++ more)) × ((more : List (ℕ × ℕ)) × (h'.words.names ≡ h.words.names ++ more))
same_words h h' w = (([], w.0 ∙ sym (append-nil _)), ([], w.1 ∙ sym (append-nil _)))

stays_edit : (h h' : Held) (r : ℕ) → SameWords h h' → OthersStay h.slots r h'.slots → Stays h h'
stays_edit h h' r w o = let s = same_words h h' w in record { things = λ q t. o.heads q ∙ t; units = s.0; names = s.1 }

named_same : (h h' : Held) → SameWords h h' → All (Within h.words.units) h.words.names → All (Within h'.words.units) h'.words.names
named_same h h' w a = rw (w.0, w.1) a

edit_stands : (h h' : Held) (r : ℕ) (cs : List Slot) → SameWords h h' → OthersStay h.slots r h'.slots → h'.jobs.waiting ≡ h.jobs.waiting → cells h'.slots r ≡ cs → Standing h → All (CellStands h) cs → Standing h'
edit_stands h h' r cs w o js e s a =
    let g = stays_edit h h' r w o in
    standing_after h h' g r s (named_same h h' w s.named) js (λ q t d. let t' = sym (o.heads q) ∙ t in (t', (o.apart q t' d).1)) (λ t. rw e (All-weaker (CellStands h) (CellStands h') (cell_stays h h' g) cs a))

pub cell_stands : (h : Held) (c : Slot) → CellStands h c → CellStands h (cell c)
unfolding cell value_in
cell_stands h c s = record { prototype = s.prototype; tag = s.tag; key = s.key; getter = s.getter; last = s.last; value = s.value }

pub standing_added : (h h' : Held) (r k : ℕ) (c : Slot) → SameWords h h' → h'.jobs.waiting ≡ h.jobs.waiting → IsTrue (is_thing h.slots r) → Standing h → CellStands h c → Added h.slots r k c h'.slots → Standing h'
standing_added h h' r k c w js t s d a =
    let all = s.cells r t in
    edit_stands h h' r _ w a.others js a.celled s (All-append (CellStands h) _ _ (All-take (CellStands h) (suc k) _ all) (All-cons (CellStands h) _ _ (cell_stands h c d) (All-drop (CellStands h) (suc k) _ all)))

pub standing_removed : (h h' : Held) (r k : ℕ) → SameWords h h' → h'.jobs.waiting ≡ h.jobs.waiting → IsTrue (is_thing h.slots r) → Standing h → Removed h.slots r k h'.slots → Standing h'
standing_removed h h' r k w js t s a =
    let all = s.cells r t in
    edit_stands h h' r _ w a.others js a.celled s (All-append (CellStands h) _ _ (All-take (CellStands h) (suc k) _ all) (All-drop (CellStands h) (suc (suc k)) _ all))

-- what is put over a head is a head, and over an object's head an object's
pub record KeepsKind (old c : Slot) : Type 0 where
  pub no_last : has_last c ≡ false
  pub object : is_object_kind c.kind ≡ is_object_kind old.kind

-- of the slot that is put, what it speaks of stands; what stays of an old head is a size and an alias number
stored_stands : (h : Held) (is_head : Bool) (old c : Slot) → (IsTrue is_head → KeepsKind old c) → CellStands h c → CellStands h (stored is_head old c)
unfolding value_in
stored_stands h false old c k s = s
stored_stands h true old c k s = record {
  prototype = λ q. subst (RefStands h) (sym (same_upper (is_object_kind old.kind) c.value old.value)) (s.prototype q);
  tag = s.tag;
  key = s.key;
  getter = λ q. absurd (let e = accessor_last (is_accessor c) (c.kind == 33) q in let f = (k refl).no_last in let g : true ≡ false = sym e ∙ f in cc);
  last = λ q. absurd (let f = (k refl).no_last in let g : true ≡ false = sym q ∙ f in cc);
  value = value_of_it (is_object_kind old.kind) (k refl).object;
}
  where
    same_upper : (b : Bool) (v o : ℕ) → cond b (v / four_bytes * four_bytes + o % four_bytes) v / four_bytes ≡ v / four_bytes
    same_upper true v o = omega arith
    same_upper false v o = refl

    accessor_last : (a b : Bool) → a ≡ true → cond a true b ≡ true
    accessor_last true b e = refl
    accessor_last false b e = absurd (cc)

    value_of_it : (b : Bool) → is_object_kind c.kind ≡ b → ValueStands h (value_by (tag_of c) (cond b (c.value / four_bytes * four_bytes + old.value % four_bytes) c.value))
    value_of_it true f = subst (λ t. ValueStands h (value_by t (c.value / four_bytes * four_bytes + old.value % four_bytes))) (sym (s.tag f)) tt
    value_of_it false f = s.value

pub standing_replaced : (h h' : Held) (r k : ℕ) (c : Slot) → SameWords h h' → h'.jobs.waiting ≡ h.jobs.waiting → IsTrue (is_thing h.slots r) → (k ≡ 0 → KeepsKind (get_or (cells h.slots r) k blank) c) → Standing h → CellStands h c → Replaced h.slots r k c h'.slots → Standing h'
standing_replaced h h' r k c w js t e s d a =
    edit_stands h h' r _ w a.others js a.celled s (All-set (CellStands h) _ k _ (cell_stands h _ (stored_stands h (k == 0) (get_or (cells h.slots r) k blank) c (λ q. e (eqb-true k 0 q)) d)) (s.cells r t))

-- ---- a thing is made

pub standing_made : (h h' : Held) (r : ℕ) (cs : List Slot) → SameWords h h' → h'.jobs.waiting ≡ h.jobs.waiting → Standing h → All (CellStands h') cs → ((q : ℕ) → IsTrue (is_thing h.slots q) → q ≢ r) → Made h.slots r cs h'.slots → Standing h'
standing_made h h' r cs w js s a new m =
    let sw = same_words h h' w in
    let g : Stays h h' = record { things = λ q t. m.heads q (new q t) ∙ t; units = sw.0; names = sw.1 } in
    standing_after h h' g r s (named_same h h' w s.named) js (λ q t d. let t' = sym (m.heads q d) ∙ t in (t', (m.apart q t').1)) (λ t. rw m.celled a)

-- ---- jobs

pub standing_queued : (h h' : Held) (j : Job) → SameWords h h' → h'.slots ≡ h.slots → h'.jobs.waiting ≡ h.jobs.waiting ++ j ∷ [] → Standing h → All (ValueStands h) j.values → Standing h'
standing_queued h h' j w e q s a =
    let sw = same_words h h' w in
    let g : Stays h h' = record { things = λ p t. subst (λ l. IsTrue (is_thing l p)) (sym e) t; units = sw.0; names = sw.1 } in
    record {
      named = named_same h h' w s.named;
      cells = λ p t. let t' : IsTrue (is_thing h.slots p) = subst (λ l. IsTrue (is_thing l p)) e t in subst (λ l. All (CellStands h') (cells l p)) (sym e) (cells_stay h h' g (cells h.slots p) (s.cells p t'));
      jobs = rw q (jobs_stay h h' g (h.jobs.waiting ++ j ∷ []) (All-push (λ (i : Job). All (ValueStands h) i.values) h.jobs.waiting j s.jobs a));
    }

pub standing_taken : (h h' : Held) (j : Job) → SameWords h h' → h'.slots ≡ h.slots → h.jobs.waiting ≡ j ∷ h'.jobs.waiting → Standing h → Standing h'
standing_taken h h' j w e q s =
    let sw = same_words h h' w in
    let g : Stays h h' = record { things = λ p t. subst (λ l. IsTrue (is_thing l p)) (sym e) t; units = sw.0; names = sw.1 } in
    record {
      named = named_same h h' w s.named;
      cells = λ p t. let t' : IsTrue (is_thing h.slots p) = subst (λ l. IsTrue (is_thing l p)) e t in subst (λ l. All (CellStands h') (cells l p)) (sym e) (cells_stay h h' g (cells h.slots p) (s.cells p t'));
      jobs = jobs_stay h h' g h'.jobs.waiting (All-tail (λ (i : Job). All (ValueStands h) i.values) j h'.jobs.waiting (rw q at s.jobs));
    }
