-- Every deed that holds only values of the profile and of things that stand keeps the world well-formed.
use Rattle.std.proofs.Common.{◌≡◌, ℕ, ◌+◌, ◌<◌, ◌≤◌, Bool, true, false, cond, not, ◌||◌, List, [], ◌∷◌, ◌++◌, length, set, filter, ◌==◌, arith, refl, sym, ap, ◌∙◌, subst, Option, Some, None, IfSome, slice_get, length-set, length-append}
use Rattle.js_value.specs.Value.{Text, Named}
use Rattle.js_value.specs.Store.{Store, Thing, AnObject, ACell, AMark, ObjectRecord, Property, Content, Data, Accessor, Class, Ordinary, Array, ScriptFunction, BuiltInFunction, ResolveFunction, RejectFunction, Error, Promise, PromiseState, Pending, Fulfilled, Rejected, Reaction, object_in, cell_in, mark_in, as_object, as_cell, no_object, own_property, is_length_of, frozen, size}
use Rattle.js_value.specs.Literal.{digits_number}
use Rattle.js_value.specs.Order.{FitsLength, NoLength, IsName, IsOrderly}
use Rattle.js_value.specs.WellFormed.{IfValueBelow, AreNumbersBelow, IsContentBelow, IsStateBelow, IsReactionBelow, AreReactionsBelow, IsClassBelow, IsObjectBelow, IsThingBelow, IsThingOrderly, ChainEnds, Ended, Next, IsWellFormed}
use Rattle.js_value.proofs.Below.{value_more, object_more, if_value_more, numbers_more}
use Rattle.js_value.proofs.Profile.{string_tested}
use Rattle.js_value.specs.Job.{Job, FulfilJob, RejectJob, ThenableJob}
use Rattle.js_value.specs.declared.counts.Room.{Room}
use Rattle.es_ops.specs.State.{Heap, World, Ledger, plus, nothing, some_slots, some_units, ModuleState, cells_of}
use Rattle.js_value.specs.declared.counts.Full.{Full}
use Rattle.es_ops.specs.Ledger.{Event, Happens, Stops, charged, charged_unless, passed, written, with_thing, first_cost, with_name, name_added, name_cost, growth}
use Rattle.es_ops.specs.InternalMethods.{Method, DefineOwnProperty, Delete, PreventExtensions, SetPrototypeOf, Freeze, apply_method, set_prototype_of, same_prototype, on_chain, longest, refused, unchanged, wrote, prevent_extensions, freeze}
use Rattle.es_ops.specs.Events.{Deed, perform, Make, Apply, Attach, SetCell, SetMark, Settle, TakeReaction, AddReaction, Enqueue, Dequeue, AddRejection, RemoveRejection, MakeText, Write, Take, make, apply, attach, set_cell, set_mark, settle, take_reaction, add_reaction, enqueue, dequeue, apply_outcome, settle_class, take_reaction_class, react_class, dequeue_from, attached, at_home, with_home, with_prototype, pointing_to, prototype_name, with_rest}
use Rattle.es_ops.specs.Laws.{IfHappens, Grows, IsMethodBelow, IsDeedBelow, IsJobBelow, AreJobsBelow, AreModulesBelow, IsAnswerBelow, IsReactionAnswerBelow, IsJobAnswerBelow, IsHeapWellFormed, IsWorldWellFormed}
use Rattle.es_ops.proofs.Growth.{perform_grows}
use Rattle.es_ops.proofs.Chains.{set_keeps, append_keeps, set_chain, append_chain, prototype_chain, cut_chain}
use Rattle.es_ops.proofs.Prototypes.{define_prototype, delete_prototype, with_property_prototype}
use Rattle.es_ops.proofs.Closed.{method_below, own_property_below, with_property_below}
use Rattle.es_ops.proofs.Orderly.{HasKey, method_orderly, with_property_orderly}

-- ---- stores

no_object_orderly : IsOrderly no_object
no_object_orderly = record { indices = tt; range = tt; length = tt; names = tt; distinct = tt; no_length = tt }

no_object_below : (m : ℕ) → IsObjectBelow m no_object
no_object_below m = record { class = tt; prototype = tt; indexed = tt; named = tt }

orderly_of : (t : Thing) → IsThingOrderly t → IsOrderly (as_object (Some t))
orderly_of (AnObject o) h = h
orderly_of (ACell c) h = no_object_orderly
orderly_of (AMark b) h = no_object_orderly

object_below_of : (m : ℕ) (t : Thing) → IsThingBelow m t → IsObjectBelow m (as_object (Some t))
object_below_of m (AnObject o) h = h
object_below_of m (ACell c) h = no_object_below m
object_below_of m (AMark b) h = no_object_below m

cell_below_of : (m : ℕ) (t : Thing) → IsThingBelow m t → IfValueBelow m (as_cell (Some t)).value
cell_below_of m (AnObject o) h = tt
cell_below_of m (ACell c) h = h
cell_below_of m (AMark b) h = tt

pub empty_well : IsWellFormed []
unfolding object_in cell_in
empty_well = record { orderly = λ n. no_object_orderly; objects = λ n. no_object_below 0; cells = λ n. tt; chains = λ n. Next n Ended }

set_well : (s : Store) (n : ℕ) (t : Thing) → IsWellFormed s → IsThingOrderly t → IsThingBelow (length s) t → ((p : Option ℕ) → ChainEnds s p → ChainEnds (set s n t) p) → IsWellFormed (set s n t)
unfolding object_in cell_in
set_well s n t h o b chain = record {
  orderly = λ k. set_keeps (λ x. IsOrderly (as_object x)) s n k t (orderly_of t o) (h.orderly k);
  objects = λ k. subst (λ m. IsObjectBelow m (as_object (slice_get (set s n t) k))) (sym (length-set s n t)) (set_keeps (λ x. IsObjectBelow (length s) (as_object x)) s n k t (object_below_of (length s) t b) (h.objects k));
  cells = λ k. subst (λ m. IfValueBelow m (as_cell (slice_get (set s n t) k)).value) (sym (length-set s n t)) (set_keeps (λ x. IfValueBelow (length s) (as_cell x).value) s n k t (cell_below_of (length s) t b) (h.cells k));
  chains = λ k. chain (Some k) (h.chains k);
}

pub append_well : (s : Store) (t : Thing) → IsWellFormed s → IsThingOrderly t → IsThingBelow (length s) t → IsWellFormed (s ++ t ∷ [])
unfolding object_in cell_in
append_well s t h o b =
    let long : length (s ++ t ∷ []) ≡ length s + 1 = length-append s (t ∷ []) in
    let le : length s ≤ length (s ++ t ∷ []) = omega (arith, long) in
    record {
      orderly = λ k. append_keeps (λ x. IsOrderly (as_object x)) s k t (orderly_of t o) no_object_orderly (h.orderly k);
      objects = λ k. append_keeps (λ x. IsObjectBelow (length (s ++ t ∷ [])) (as_object x)) s k t (object_more (length s) (length (s ++ t ∷ [])) le (as_object (Some t)) (object_below_of (length s) t b)) (no_object_below (length (s ++ t ∷ []))) (object_more (length s) (length (s ++ t ∷ [])) le (object_in s k) (h.objects k));
      cells = λ k. append_keeps (λ x. IfValueBelow (length (s ++ t ∷ [])) (as_cell x).value) s k t (if_value_more (length s) (length (s ++ t ∷ [])) le (as_cell (Some t)).value (cell_below_of (length s) t b)) tt (if_value_more (length s) (length (s ++ t ∷ [])) le (cell_in s k).value (h.cells k));
      chains = append_chain s t (λ n. (h.objects n).prototype) h.chains (object_below_of (length s) t b).prototype;
    }

-- ---- heaps

jobs_more : (m k : ℕ) → m ≤ k → (jobs : List Job) → AreJobsBelow m jobs → AreJobsBelow k jobs
jobs_more m k le [] h = tt
jobs_more m k le (job ∷ jobs) h = (one job h.0, jobs_more m k le jobs h.1)
  where
    one : (j : Job) → IsJobBelow m j → IsJobBelow k j
    one (FulfilJob a d v) b = (value_more m k le a b.0, omega (arith, b.1), value_more m k le v b.2)
    one (RejectJob a d v) b = (value_more m k le a b.0, omega (arith, b.1), value_more m k le v b.2)
    one (ThenableJob p t f) b = (omega (arith, b.0), value_more m k le t b.1, value_more m k le f b.2)

modules_more : (m k : ℕ) → m ≤ k → (ms : List ModuleState) → AreModulesBelow m ms → AreModulesBelow k ms
modules_more m k le [] h = tt
modules_more m k le (s ∷ ms) h = (numbers_more m k le (cells_of s) h.0, modules_more m k le ms h.1)

ledger_well : (w : Heap) (l : Ledger) → IsHeapWellFormed w → IsHeapWellFormed (record w { ledger = l })
ledger_well w l h = record { store = h.store; jobs = h.jobs; realm = h.realm; not_empty = h.not_empty }

name_well : (w : Heap) (name : Option Text) → IsHeapWellFormed w → IsHeapWellFormed (with_name name w)
name_well w None h = h
name_well w (Some t) h = record { store = h.store; jobs = h.jobs; realm = h.realm; not_empty = h.not_empty }

-- a heap with another store of no fewer things
store_well : (w : Heap) (s : Store) → length w.store ≤ length s → IsHeapWellFormed w → IsWellFormed s → IsHeapWellFormed (record w { store = s })
store_well w s le h g = record {
  store = g;
  jobs = jobs_more (length w.store) (length s) le w.jobs h.jobs;
  realm = numbers_more (length w.store) (length s) le w.realm h.realm;
  not_empty = let e = h.not_empty in omega arith;
}

set_le : (s : Store) (n : ℕ) (t : Thing) → length s ≤ length (set s n t)
set_le s n t = let e = length-set s n t in omega arith

-- ---- events

pub charged_well : {A : Type 0} (P : A → Heap → Type 0) (price : Room) (a : A) (v : Heap) → ((l : Ledger) → P a (record v { ledger = l })) → IfHappens (charged price a v) P
charged_well P price a v h = by_stop (passed (plus v.ledger.used price) v.ledger.room)
  where
    by_stop : (o : Option Full) → IfHappens (charged_unless o a (record v { ledger = record v.ledger { used = plus v.ledger.used price } })) P
    by_stop None = h (record v.ledger { used = plus v.ledger.used price })
    by_stop (Some full) = tt

pub written_well : {A : Type 0} (P : A → Heap → Type 0) (v : Heap) (n : ℕ) (before after : Thing) (p : Room) (a : A) → P a v → ((l : Ledger) → P a (record v { store = set v.store n after; ledger = l })) → IfHappens (written v n before after p a) P
unfolding written
written_well P v n before after p a same h = by_test (frozen before)
  where
    by_test : (b : Bool) → IfHappens (cond b (Happens a v) (charged (plus (first_cost v n) p) a (with_thing v n after))) P
    by_test true = same
    by_test false = charged_well P (plus (first_cost v n) p) a (with_thing v n after) h

-- ---- methods

chain_of : (s : Store) (n : ℕ) (after : Option ObjectRecord) → IfSome after (λ o. o.prototype ≡ (object_in s n).prototype) → IfSome after (λ o. (p : Option ℕ) → ChainEnds s p → ChainEnds (set s n (AnObject o)) p)
chain_of s n None e = tt
chain_of s n (Some o) e = set_chain s n (AnObject o) e

method_chain : (m : Method) (s : Store) (n : ℕ) → IfSome (apply_method m s n (object_in s n)).written (λ o. (p : Option ℕ) → ChainEnds s p → ChainEnds (set s n (AnObject o)) p)
unfolding apply_method set_prototype_of prevent_extensions freeze
method_chain (DefineOwnProperty key d) s n = chain_of s n _ (define_prototype (object_in s n) key d)
method_chain (Delete key) s n = chain_of s n _ (delete_prototype (object_in s n) key)
method_chain PreventExtensions s n = set_chain s n _ refl
method_chain Freeze s n = set_chain s n _ refl
method_chain (SetPrototypeOf v) s n = by_same (same_prototype v (object_in s n).prototype)
  where
    after : ObjectRecord
    after = record (object_in s n) { prototype = v }

    Keeps : ObjectRecord → Type 0
    Keeps o = (p : Option ℕ) → ChainEnds s p → ChainEnds (set s n (AnObject o)) p

    by_chain : (a b : Bool) → on_chain longest s n v ≡ b → IfSome (cond (a || b) refused (wrote after)).written Keeps
    by_chain true b e = tt
    by_chain false true e = tt
    by_chain false false e = prototype_chain s n (AnObject after) e

    by_same : (b : Bool) → IfSome (cond b unchanged (cond (not (object_in s n).extensible || on_chain longest s n v) refused (wrote after))).written Keeps
    by_same true = tt
    by_same false = by_chain (not (object_in s n).extensible) (on_chain longest s n v) refl

has_key : (k : ℕ) (m : Method) → IsMethodBelow k m → HasKey m
has_key k (DefineOwnProperty key d) b = b.0
has_key k (Delete key) b = tt
has_key k PreventExtensions b = tt
has_key k (SetPrototypeOf v) b = tt
has_key k Freeze b = tt

apply_well : (w : Heap) (n : ℕ) (m : Method) (before : ObjectRecord) (answer : Bool) (after : Option ObjectRecord) → IsHeapWellFormed w → IfSome after IsOrderly → IfSome after (IsObjectBelow (length w.store)) → IfSome after (λ o. (p : Option ℕ) → ChainEnds w.store p → ChainEnds (set w.store n (AnObject o)) p)
    → IfHappens (apply_outcome w n m before answer after) (λ a v. IsHeapWellFormed v × (Unit {0}))
apply_well w n m before answer None h o b c = (h, tt)
apply_well w n m before answer (Some after) h o b c =
    let name : Option Text = name_added w m before after in
    let store : IsWellFormed (set w.store n (AnObject after)) = set_well w.store n (AnObject after) h.store o b c in
    written_well (λ a v. IsHeapWellFormed v × (Unit {0})) (with_name name w) n (AnObject before) (AnObject after) (plus (growth before after) (name_cost m name)) answer
    (name_well w name h, tt) (λ l. (by_name name l store, tt))
  where
    by_name : (name : Option Text) (l : Ledger) → IsWellFormed (set w.store n (AnObject after)) → IsHeapWellFormed (record (with_name name w) { store = set (with_name name w).store n (AnObject after); ledger = l })
    by_name None l g = ledger_well (record w { store = set w.store n (AnObject after) }) l (store_well w (set w.store n (AnObject after)) (set_le w.store n (AnObject after)) h g)
    by_name (Some t) l g = ledger_well (record w { store = set w.store n (AnObject after); names = w.names ++ t ∷ [] }) l (name_well (record w { store = set w.store n (AnObject after) }) (Some t) (store_well w (set w.store n (AnObject after)) (set_le w.store n (AnObject after)) h g))

-- ---- promises

promise_orderly : (o : ObjectRecord) (state : PromiseState) (reactions : List Reaction) → IsOrderly o → IsOrderly (record o { class = Promise state reactions })
promise_orderly o state reactions h = record { indices = h.indices; range = h.range; length = tt; names = h.names; distinct = h.distinct; no_length = tt }

promise_below : (m : ℕ) (o : ObjectRecord) (state : PromiseState) (reactions : List Reaction) → IsStateBelow m state → AreReactionsBelow m reactions → IsObjectBelow m o → IsObjectBelow m (record o { class = Promise state reactions })
promise_below m o state reactions s r h = record { class = (s, r); prototype = h.prototype; indexed = h.indexed; named = h.named }

promise_set : (w : Heap) (n : ℕ) (state : PromiseState) (reactions : List Reaction) → IsHeapWellFormed w → IsStateBelow (length w.store) state → AreReactionsBelow (length w.store) reactions → (l : Ledger)
    → IsHeapWellFormed (record w { store = set w.store n (AnObject (record (object_in w.store n) { class = Promise state reactions })); ledger = l })
promise_set w n state reactions h s r l =
    let o : ObjectRecord = object_in w.store n in
    let t : Thing = AnObject (record o { class = Promise state reactions }) in
    ledger_well (record w { store = set w.store n t }) l
    (store_well w (set w.store n t) (set_le w.store n t) h
    (set_well w.store n t h.store (promise_orderly o state reactions (h.store.orderly n)) (promise_below (length w.store) o state reactions s r (h.store.objects n)) (set_chain w.store n t refl)))

settle_well : (w : Heap) (n : ℕ) (state : PromiseState) (c : Class) → IsHeapWellFormed w → IsStateBelow (length w.store) state → IsClassBelow (length w.store) c → IfHappens (settle_class w n state (object_in w.store n) c) (λ a v. IsHeapWellFormed v × (Unit {0}))
settle_well w n state (Promise Pending reactions) h s b =
    let t : Thing = AnObject (record (object_in w.store n) { class = Promise state reactions }) in
    written_well (λ a v. IsHeapWellFormed v × (Unit {0})) w n (AnObject (object_in w.store n)) t nothing (Some (length reactions)) (h, tt)
    (λ l. (promise_set w n state reactions h s b.1 l, tt))
settle_well w n state (Promise (Fulfilled v) reactions) h s b = (h, tt)
settle_well w n state (Promise (Rejected v) reactions) h s b = (h, tt)
settle_well w n state Ordinary h s b = (h, tt)
settle_well w n state (Array k e) h s b = (h, tt)
settle_well w n state (ScriptFunction m f g cs) h s b = (h, tt)
settle_well w n state (BuiltInFunction row) h s b = (h, tt)
settle_well w n state (ResolveFunction p m) h s b = (h, tt)
settle_well w n state (RejectFunction p m) h s b = (h, tt)
settle_well w n state Error h s b = (h, tt)

take_well : (w : Heap) (n : ℕ) (c : Class) → IsHeapWellFormed w → IsClassBelow (length w.store) c → IfHappens (take_reaction_class w n (object_in w.store n) c) (λ a v. IsHeapWellFormed v × IsReactionAnswerBelow (length v.store) a)
take_well w n (Promise state (r ∷ rs)) h b =
    let t : Thing = AnObject (record (object_in w.store n) { class = Promise state rs }) in
    (promise_set w n state rs h b.0 b.1.1 w.ledger, subst (λ m. IsReactionBelow m r) (sym (length-set w.store n t)) b.1.0)
take_well w n (Promise state []) h b = (h, tt)
take_well w n Ordinary h b = (h, tt)
take_well w n (Array k e) h b = (h, tt)
take_well w n (ScriptFunction m f g cs) h b = (h, tt)
take_well w n (BuiltInFunction row) h b = (h, tt)
take_well w n (ResolveFunction p m) h b = (h, tt)
take_well w n (RejectFunction p m) h b = (h, tt)
take_well w n Error h b = (h, tt)

reactions_append : (m : ℕ) (rs : List Reaction) (r : Reaction) → AreReactionsBelow m rs → IsReactionBelow m r → AreReactionsBelow m (rs ++ r ∷ [])
reactions_append m [] r h b = (b, tt)
reactions_append m (q ∷ rs) r h b = (h.0, reactions_append m rs r h.1 b)

react_well : (w : Heap) (n : ℕ) (r : Reaction) (c : Class) → IsHeapWellFormed w → IsReactionBelow (length w.store) r → IsClassBelow (length w.store) c → IfHappens (react_class w n r (object_in w.store n) c) (λ a v. IsHeapWellFormed v × (Unit {0}))
react_well w n r (Promise Pending reactions) h q b =
    let o : ObjectRecord = object_in w.store n in
    let after : ObjectRecord = record o { class = Promise Pending (reactions ++ r ∷ []) } in
    written_well (λ a v. IsHeapWellFormed v × (Unit {0})) w n (AnObject o) (AnObject after) (growth o after) tt (h, tt)
    (λ l. (promise_set w n Pending (reactions ++ r ∷ []) h tt (reactions_append (length w.store) reactions r b.1 q) l, tt))
react_well w n r (Promise (Fulfilled v) reactions) h q b = (h, tt)
react_well w n r (Promise (Rejected v) reactions) h q b = (h, tt)
react_well w n r Ordinary h q b = (h, tt)
react_well w n r (Array k e) h q b = (h, tt)
react_well w n r (ScriptFunction m f g cs) h q b = (h, tt)
react_well w n r (BuiltInFunction row) h q b = (h, tt)
react_well w n r (ResolveFunction p m) h q b = (h, tt)
react_well w n r (RejectFunction p m) h q b = (h, tt)
react_well w n r Error h q b = (h, tt)

-- ---- cells and marks

other_set : (w : Heap) (n : ℕ) (t : Thing) → IsHeapWellFormed w → IsThingOrderly t → IsThingBelow (length w.store) t → (as_object (Some t)).prototype ≡ None → (l : Ledger) → IsHeapWellFormed (record w { store = set w.store n t; ledger = l })
other_set w n t h o b e l =
    ledger_well (record w { store = set w.store n t }) l (store_well w (set w.store n t) (set_le w.store n t) h (set_well w.store n t h.store o b (cut_chain w.store n t e)))

other_well : (w : Heap) (n : ℕ) (before after : Thing) (p : Room) → IsHeapWellFormed w → IsThingOrderly after → IsThingBelow (length w.store) after → (as_object (Some after)).prototype ≡ None → IfHappens {A = Unit {0}} (written w n before after p tt) (λ a v. IsHeapWellFormed v × (Unit {0}))
other_well w n before after p h o b e = written_well {A = Unit {0}} (λ a v. IsHeapWellFormed v × (Unit {0})) w n before after p tt (h, tt) (λ l. (other_set w n after h o b e l, tt))

-- ---- a function's `prototype`

no_length : (c : Class) → is_length_of c prototype_name ≡ false
no_length (Array n w) = refl
no_length c = refl

pointing_below : (m p : ℕ) (c : Content) → p < m → IsContentBelow m c → IsContentBelow m (pointing_to p c)
pointing_below m p (Data v w) l h = l
pointing_below m p (Accessor g s) l h = h

prototype_name_is : IsName prototype_name
unfolding digits_number
prototype_name_is = record { text = string_tested prototype_name refl; no_index = refl }

with_prototype_orderly : (p : ℕ) (o : ObjectRecord) (q : Option Property) → IsOrderly o → IsOrderly (with_prototype p o q)
with_prototype_orderly p o None h = h
with_prototype_orderly p o (Some q) h = with_property_orderly o prototype_name (record q { content = pointing_to p q.content }) prototype_name_is (no_length o.class) h

with_prototype_below : (m p : ℕ) (o : ObjectRecord) (q : Option Property) → p < m → IfSome q (λ r. IsContentBelow m r.content) → IsObjectBelow m o → IsObjectBelow m (with_prototype p o q)
with_prototype_below m p o None l c h = h
with_prototype_below m p o (Some q) l c h = with_property_below m o (Named prototype_name) (record q { content = pointing_to p q.content }) (pointing_below m p q.content l c) h

with_prototype_same : (p : ℕ) (o : ObjectRecord) (q : Option Property) → (with_prototype p o q).prototype ≡ o.prototype
with_prototype_same p o None = refl
with_prototype_same p o (Some q) = with_property_prototype o (Named prototype_name) (record q { content = pointing_to p q.content })

at_home_below : (m p : ℕ) (a : Bool) (c : Class) → p < m → IsClassBelow m c → IsClassBelow m (at_home p a c)
at_home_below m p true (ScriptFunction x y home captured) l h = (l, h.1)
at_home_below m p true Ordinary l h = h
at_home_below m p true (Array n w) l h = h
at_home_below m p true (BuiltInFunction row) l h = h
at_home_below m p true (ResolveFunction q k) l h = h
at_home_below m p true (RejectFunction q k) l h = h
at_home_below m p true Error l h = h
at_home_below m p true (Promise s rs) l h = h
at_home_below m p false c l h = h

home_below : (m p : ℕ) (a : Bool) (o : ObjectRecord) → p < m → IsObjectBelow m o → IsObjectBelow m (with_home p a o)
home_below m p a o l h = record { class = at_home_below m p a o.class l h.class; prototype = h.prototype; indexed = h.indexed; named = h.named }

at_home_orderly : (p : ℕ) (a : Bool) (o : ObjectRecord) → IsOrderly o → IsOrderly (with_home p a o)
at_home_orderly p a o h = record { indices = h.indices; range = h.range; length = fits a o.class h.length; names = h.names; distinct = h.distinct; no_length = no a o.class h.no_length }
  where
    fits : (a : Bool) (c : Class) → FitsLength c o.indexed → FitsLength (at_home p a c) o.indexed
    fits true (ScriptFunction x y home captured) f = tt
    fits true Ordinary f = f
    fits true (Array n w) f = f
    fits true (BuiltInFunction row) f = f
    fits true (ResolveFunction q k) f = f
    fits true (RejectFunction q k) f = f
    fits true Error f = f
    fits true (Promise s rs) f = f
    fits false c f = f

    no : (a : Bool) (c : Class) → NoLength c o.named → NoLength (at_home p a c) o.named
    no true (ScriptFunction x y home captured) f = tt
    no true Ordinary f = f
    no true (Array n w) f = f
    no true (BuiltInFunction row) f = f
    no true (ResolveFunction q k) f = f
    no true (RejectFunction q k) f = f
    no true Error f = f
    no true (Promise s rs) f = f
    no false c f = f

attach_well : (w : Heap) (f p : ℕ) (a : Bool) (t : Option Thing) → slice_get w.store f ≡ t → p < length w.store → IsHeapWellFormed w → IsHeapWellFormed (record w { store = attached p a t w.store f })
unfolding object_in
attach_well w f p a (Some (AnObject o)) e l h =
    let here : object_in w.store f ≡ o = ap as_object e in
    let q : Option Property = own_property o (Named prototype_name) in
    let orderly : IsOrderly o = subst IsOrderly here (h.store.orderly f) in
    let below : IsObjectBelow (length w.store) o = subst (IsObjectBelow (length w.store)) here (h.store.objects f) in
    let made : ObjectRecord = with_prototype p o q in
    let after : Thing = AnObject (with_home p a made) in
    store_well w (set w.store f after) (set_le w.store f after) h
    (set_well w.store f after h.store (at_home_orderly p a made (with_prototype_orderly p o q orderly))
    (home_below (length w.store) p a made l (with_prototype_below (length w.store) p o q l (own_property_below (length w.store) o (Named prototype_name) orderly below) below))
    (set_chain w.store f after (with_prototype_same p o q ∙ ap (λ (x : ObjectRecord). x.prototype) (sym here))))
attach_well w f p a (Some (ACell c)) e l h = h
attach_well w f p a (Some (AMark b)) e l h = h
attach_well w f p a None e l h = h

-- ---- jobs

jobs_append : (m : ℕ) (jobs : List Job) (job : Job) → AreJobsBelow m jobs → IsJobBelow m job → AreJobsBelow m (jobs ++ job ∷ [])
jobs_append m [] job h b = (b, tt)
jobs_append m (j ∷ jobs) job h b = (h.0, jobs_append m jobs job h.1 b)

numbers_append : (m : ℕ) (ns : List ℕ) (n : ℕ) → AreNumbersBelow m ns → n < m → AreNumbersBelow m (ns ++ n ∷ [])
numbers_append m [] n h b = (b, tt)
numbers_append m (k ∷ ns) n h b = (h.0, numbers_append m ns n h.1 b)

numbers_filter : (m : ℕ) (test : ℕ → Bool) (ns : List ℕ) → AreNumbersBelow m ns → AreNumbersBelow m (filter test ns)
numbers_filter m test [] h = tt
numbers_filter m test (n ∷ ns) h = by_test (test n) (numbers_filter m test ns h.1)
  where
    by_test : (b : Bool) → AreNumbersBelow m (filter test ns) → AreNumbersBelow m (cond b (n ∷ filter test ns) (filter test ns))
    by_test true rest = (h.0, rest)
    by_test false rest = rest

jobs_well : (w : Heap) (jobs : List Job) (l : Ledger) → IsHeapWellFormed w → AreJobsBelow (length w.store) jobs → IsHeapWellFormed (record w { jobs = jobs; ledger = l })
jobs_well w jobs l h b = record { store = h.store; jobs = b; realm = h.realm; not_empty = h.not_empty }

dequeue_well : (w : Heap) (jobs : List Job) → IsHeapWellFormed w → AreJobsBelow (length w.store) jobs → IfHappens (dequeue_from jobs w) (λ a v. IsHeapWellFormed v × IsJobAnswerBelow (length v.store) a)
dequeue_well w [] h b = (h, tt)
dequeue_well w (job ∷ jobs) h b = (jobs_well w jobs w.ledger h b.1, b.0)

make_well : (h : Heap) (t : Thing) → IsHeapWellFormed h → IsThingBelow (length h.store) t → IsThingOrderly t → IfHappens (make t h) (λ a g. IsHeapWellFormed g × (a < length g.store))
make_well h t w b o =
    let s : Store = h.store ++ t ∷ [] in
    let long : length s ≡ length h.store + 1 = length-append h.store (t ∷ []) in
    charged_well (λ a g. IsHeapWellFormed g × (a < length g.store)) (some_slots (size t)) (length h.store) (record h { store = s })
    (λ l. (ledger_well (record h { store = s }) l (store_well h s (omega (arith, long)) w (append_well h.store t w.store o b)), omega (arith, long)))

-- ---- worlds

-- what a world holds beside its heap stands in a heap of no fewer things
lifted_well : {A : Type 0} (B : ℕ → A → Type 0) (w : World) (e : Event Heap A) → IsWorldWellFormed w → IfHappens (with_rest w e) (λ a v. Grows w.heap v.heap) → IfHappens e (λ a h. IsHeapWellFormed h × B (length h.store) a)
    → IfHappens (with_rest w e) (λ a v. IsWorldWellFormed v × B (length v.heap.store) a)
lifted_well B w (Stops full) well grows h = tt
lifted_well B w (Happens a g) well grows h = (
  record {
    heap = h.0;
    rejections = numbers_more (length w.heap.store) (length g.store) grows.things w.rejections well.rejections;
    modules = modules_more (length w.heap.store) (length g.store) grows.things w.modules well.modules;
  },
  h.1,
)

rejections_well : (w : World) (ns : List ℕ) → IsWorldWellFormed w → AreNumbersBelow (length w.heap.store) ns → IsWorldWellFormed (record w { rejections = ns })
rejections_well w ns h b = record { heap = h.heap; rejections = b; modules = h.modules }

-- ---- all deeds

pub perform_well : (d : Deed) (w : World) → IsWorldWellFormed w → IsDeedBelow (length w.heap.store) d → IfHappens (perform d w) (λ a v. IsWorldWellFormed v × IsAnswerBelow (length v.heap.store) d a)
unfolding perform
perform_well (Make t) w h b = lifted_well (λ n a. a < n) w (make t w.heap) h (perform_grows (Make t) w) (make_well w.heap t h.heap b.0 b.1)
perform_well (Apply n m) w h b =
    let before : ObjectRecord = object_in w.heap.store n in
    lifted_well (λ n a. Unit {0}) w (apply n m w.heap) h (perform_grows (Apply n m) w)
    (apply_well w.heap n m before (apply_method m w.heap.store n before).answer (apply_method m w.heap.store n before).written h.heap
    (method_orderly m w.heap.store n before (has_key (length w.heap.store) m b) (h.heap.store.orderly n))
    (method_below (length w.heap.store) m w.heap.store n before b (h.heap.store.orderly n) (h.heap.store.objects n))
    (method_chain m w.heap.store n))
perform_well (Attach f p a) w h b = lifted_well (λ n a. Unit {0}) w (attach f p a w.heap) h (perform_grows (Attach f p a) w) (attach_well w.heap f p a (slice_get w.heap.store f) refl b h.heap, tt)
perform_well (SetCell n v) w h b = lifted_well (λ n a. Unit {0}) w (set_cell n v w.heap) h (perform_grows (SetCell n v) w) (other_well w.heap n (ACell (cell_in w.heap.store n)) (ACell (record { value = Some v; const = (cell_in w.heap.store n).const })) nothing h.heap tt b refl)
perform_well (SetMark n) w h b = lifted_well (λ n a. Unit {0}) w (set_mark n w.heap) h (perform_grows (SetMark n) w) (other_well w.heap n (AMark (mark_in w.heap.store n)) (AMark true) nothing h.heap tt tt refl)
perform_well (Settle n state) w h b = lifted_well (λ n a. Unit {0}) w (settle n state w.heap) h (perform_grows (Settle n state) w) (settle_well w.heap n state (object_in w.heap.store n).class h.heap b (h.heap.store.objects n).class)
perform_well (TakeReaction n) w h b = lifted_well IsReactionAnswerBelow w (take_reaction n w.heap) h (perform_grows (TakeReaction n) w) (take_well w.heap n (object_in w.heap.store n).class h.heap (h.heap.store.objects n).class)
perform_well (AddReaction n r) w h b = lifted_well (λ n a. Unit {0}) w (add_reaction n r w.heap) h (perform_grows (AddReaction n r) w) (react_well w.heap n r (object_in w.heap.store n).class h.heap b (h.heap.store.objects n).class)
perform_well (Enqueue job) w h b =
    lifted_well (λ n a. Unit {0}) w (enqueue job w.heap) h (perform_grows (Enqueue job) w)
    (charged_well (λ a v. IsHeapWellFormed v × (Unit {0})) (some_slots 4) tt (record w.heap { jobs = w.heap.jobs ++ job ∷ [] }) (λ l. (jobs_well w.heap (w.heap.jobs ++ job ∷ []) l h.heap (jobs_append (length w.heap.store) w.heap.jobs job h.heap.jobs b), tt)))
perform_well Dequeue w h b = lifted_well IsJobAnswerBelow w (dequeue w.heap) h (perform_grows Dequeue w) (dequeue_well w.heap w.heap.jobs h.heap h.heap.jobs)
perform_well (AddRejection n) w h b = (rejections_well w (w.rejections ++ n ∷ []) h (numbers_append (length w.heap.store) w.rejections n h.rejections b), tt)
perform_well (RemoveRejection n) w h b = (rejections_well w (filter (λ m. not (m == n)) w.rejections) h (numbers_filter (length w.heap.store) (λ m. not (m == n)) w.rejections h.rejections), tt)
perform_well (MakeText units) w h b = lifted_well (λ n a. Unit {0}) w (charged (some_units units) tt w.heap) h (perform_grows (MakeText units) w) (charged_well (λ a v. IsHeapWellFormed v × (Unit {0})) (some_units units) tt w.heap (λ l. (ledger_well w.heap l h.heap, tt)))
perform_well (Write bytes) w h b = (record { heap = h.heap; rejections = h.rejections; modules = h.modules }, tt)
perform_well (Take line left) w h b = (record { heap = h.heap; rejections = h.rejections; modules = h.modules }, tt)
