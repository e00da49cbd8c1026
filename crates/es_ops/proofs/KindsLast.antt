-- No event, and so no run, changes what a thing is.
use Rattle.std.proofs.Common.{◌≡◌, ℕ, zero, suc, ◌<◌, Bool, true, false, cond, not, ◌||◌, List, [], ◌∷◌, ◌++◌, length, set, arith, refl, sym, ap, ◌∙◌, subst, Option, Some, None, IfSome, slice_get, option_map}
use Rattle.js_value.specs.Value.{Value, Named}
use Rattle.js_value.specs.Store.{Store, Thing, AnObject, ACell, AMark, ObjectRecord, Property, Class, Ordinary, Array, ScriptFunction, BuiltInFunction, ResolveFunction, RejectFunction, Error, Promise, PromiseState, Pending, Fulfilled, Rejected, Reaction, is_array, object_in, cell_in, mark_in, as_object, as_cell, as_mark, own_property, is_frozen, frozen, size}
use Rattle.js_value.specs.Job.{Job}
use Rattle.js_value.specs.declared.counts.Room.{Room}
use Rattle.js_value.specs.declared.counts.Full.{Full}
use Rattle.es_ops.specs.State.{Heap, World, State, plus, nothing, some_slots, some_units}
use Rattle.es_ops.specs.InternalMethods.{Method, DefineOwnProperty, Delete, PreventExtensions, SetPrototypeOf, Freeze, apply_method, prevent_extensions, freeze, set_prototype_of, same_prototype, on_chain, longest, fixed_class, refused, unchanged, wrote, Outcome}
use Rattle.es_ops.specs.Ledger.{Event, Happens, Stops, charged, charged_unless, passed, written, with_thing, first_cost, with_name, name_added, name_cost, growth}
use Rattle.es_ops.specs.Events.{Deed, perform, Make, Apply, Attach, SetCell, SetMark, Settle, TakeReaction, AddReaction, Enqueue, Dequeue, AddRejection, RemoveRejection, MakeText, Write, Take, make, apply, set_cell, set_mark, settle, take_reaction, add_reaction, enqueue, dequeue, dequeue_from, apply_outcome, settle_class, take_reaction_class, react_class, attached, at_home, with_home, with_prototype, pointing_to, prototype_name}
use Rattle.es_ops.specs.Act.{Act, Calls, run}
use Rattle.es_ops.specs.Laws.{Grows, IfHappens, state_of}
use Rattle.es_ops.specs.Kinds.{lasting, Kind, ObjectKind, kind_of, kind_at}
use Rattle.es_ops.proofs.OnHeap.{lifted}
use Rattle.es_ops.proofs.Growth.{perform_grows}
use Rattle.es_ops.proofs.Others.{get-append}
use Rattle.es_ops.proofs.PropertiesKeep.{property_keeps, defined_keeps, deleted_keeps}
use Rattle.es_ops.proofs.RunsKeep.{CallsKeep, run_keeps}

-- ---- stores

-- what is put where nothing or something stands is of its kind
abbrev SameKind : Thing → Option Thing → Type 0
SameKind after None = Unit {0}
SameKind after (Some t) = kind_of after ≡ kind_of t

set_kind : (s : Store) (n k : ℕ) (after : Thing) → SameKind after (slice_get s n) → kind_at (set s n after) k ≡ kind_at s k
set_kind [] n k after h = refl
set_kind (x ∷ s) zero zero after h = ap Some h
set_kind (x ∷ s) zero (suc k) after h = refl
set_kind (x ∷ s) (suc n) zero after h = refl
set_kind (x ∷ s) (suc n) (suc k) after h = set_kind s n k after h

object_same : (t : Option Thing) (after : ObjectRecord) → lasting after.class ≡ lasting (as_object t).class → frozen (AnObject (as_object t)) ≡ false → SameKind (AnObject after) t
unfolding is_frozen
object_same None after e f = tt
object_same (Some (AnObject o)) after e f = ap (λ c. ObjectKind c) e
object_same (Some (ACell c)) after e f = absurd (cc)
object_same (Some (AMark b)) after e f = absurd (cc)

cell_same : (t : Option Thing) (v : Value) → frozen (ACell (as_cell t)) ≡ false → SameKind (ACell (record { value = Some v; const = (as_cell t).const })) t
cell_same None v f = tt
cell_same (Some (AnObject o)) v f = absurd (cc)
cell_same (Some (ACell c)) v f = refl
cell_same (Some (AMark b)) v f = absurd (cc)

mark_same : (t : Option Thing) → frozen (AMark (as_mark t)) ≡ false → SameKind (AMark true) t
mark_same None f = tt
mark_same (Some (AnObject o)) f = absurd (cc)
mark_same (Some (ACell c)) f = absurd (cc)
mark_same (Some (AMark b)) f = refl

promise_same : (t : Option Thing) (s r : PromiseState) (ss rs : List Reaction) → (as_object t).class ≡ Promise s ss → SameKind (AnObject (record (as_object t) { class = Promise r rs })) t
promise_same None s r ss rs e = tt
promise_same (Some (AnObject o)) s r ss rs e = ap (λ c. ObjectKind (lasting c)) (sym e)
promise_same (Some (ACell c)) s r ss rs e = absurd (cc)
promise_same (Some (AMark b)) s r ss rs e = absurd (cc)

-- ---- what methods keep of a class

abbrev Has : Class → ObjectRecord → Type 0
Has c o = lasting o.class ≡ c

array_lasts : (c k : Class) → is_array k ≡ true → lasting k ≡ c → Array 0 true ≡ c
array_lasts c (Array n w) e h = h
array_lasts c Ordinary e h = absurd (cc)
array_lasts c (ScriptFunction m f home captured) e h = absurd (cc)
array_lasts c (BuiltInFunction row) e h = absurd (cc)
array_lasts c (ResolveFunction p m) e h = absurd (cc)
array_lasts c (RejectFunction p m) e h = absurd (cc)
array_lasts c Error e h = absurd (cc)
array_lasts c (Promise s rs) e h = absurd (cc)

fixed_lasts : (c : Class) → lasting (fixed_class c) ≡ lasting c
fixed_lasts (Array n w) = refl
fixed_lasts Ordinary = refl
fixed_lasts (ScriptFunction m f home captured) = refl
fixed_lasts (BuiltInFunction row) = refl
fixed_lasts (ResolveFunction p m) = refl
fixed_lasts (RejectFunction p m) = refl
fixed_lasts Error = refl
fixed_lasts (Promise s rs) = refl

cond_keeps : (b : Bool) (x y : Outcome) (c : Class) → IfSome x.written (Has c) → IfSome y.written (Has c) → IfSome (cond b x y).written (Has c)
cond_keeps true x y c p q = p
cond_keeps false x y c p q = q

method_class : (m : Method) (s : Store) (n : ℕ) (o : ObjectRecord) → IfSome (apply_method m s n o).written (Has (lasting o.class))
unfolding apply_method prevent_extensions freeze set_prototype_of
method_class (DefineOwnProperty key d) s n o = defined_keeps (Has (lasting o.class)) (Array 0 true ≡ lasting o.class) (λ x a h. array_lasts (lasting o.class) x.class a h) (λ x es h. h) (λ x es h. h) (λ x n w a h. a) o key d refl
method_class (Delete key) s n o = deleted_keeps (Has (lasting o.class)) (Array 0 true ≡ lasting o.class) (λ x a h. array_lasts (lasting o.class) x.class a h) (λ x es h. h) (λ x es h. h) (λ x n w a h. a) o key refl
method_class PreventExtensions s n o = refl
method_class (SetPrototypeOf v) s n o =
    cond_keeps (same_prototype v o.prototype) unchanged _ (lasting o.class) tt
    (cond_keeps (not o.extensible || on_chain longest s n v) refused (wrote (record o { prototype = v })) (lasting o.class) tt refl)
method_class Freeze s n o = fixed_lasts o.class

home_lasts : (p : ℕ) (a : Bool) (c : Class) → lasting (at_home p a c) ≡ lasting c
home_lasts p true (ScriptFunction m f home captured) = refl
home_lasts p true (Array n w) = refl
home_lasts p true Ordinary = refl
home_lasts p true (BuiltInFunction row) = refl
home_lasts p true (ResolveFunction q m) = refl
home_lasts p true (RejectFunction q m) = refl
home_lasts p true Error = refl
home_lasts p true (Promise s rs) = refl
home_lasts p false c = refl

with_prototype_lasts : (p : ℕ) (o : ObjectRecord) (q : Option Property) → lasting (with_prototype p o q).class ≡ lasting o.class
with_prototype_lasts p o None = refl
with_prototype_lasts p o (Some q) = property_keeps (Has (lasting o.class)) (Array 0 true ≡ lasting o.class) (λ x a h. array_lasts (lasting o.class) x.class a h) (λ x es h. h) (λ x es h. h) (λ x n w a h. a) o (Named prototype_name) (record q { content = pointing_to p q.content }) refl

attached_kind : (p : ℕ) (a : Bool) (t : Option Thing) (s : Store) (f k : ℕ) → slice_get s f ≡ t → kind_at (attached p a t s f) k ≡ kind_at s k
attached_kind p a None s f k e = refl
attached_kind p a (Some (ACell c)) s f k e = refl
attached_kind p a (Some (AMark b)) s f k e = refl
attached_kind p a (Some (AnObject o)) s f k e =
    let made : ObjectRecord = with_prototype p o (own_property o (Named prototype_name)) in
    set_kind s f k (AnObject (with_home p a made)) (subst (SameKind (AnObject (with_home p a made))) (sym e) (ap (λ c. ObjectKind c) (home_lasts p a made.class ∙ with_prototype_lasts p o (own_property o (Named prototype_name)))))

-- ---- events of the heap

module _ (k : ℕ) (x : Option Kind) where
  Stays : {A : Type 0} → Event Heap A → Type 0
  Stays e = IfHappens e (λ a h. kind_at h.store k ≡ x)

  charged_stays : {A : Type 0} (price : Room) (a : A) (h : Heap) → kind_at h.store k ≡ x → Stays (charged price a h)
  unfolding Stays
  charged_stays price a h e = by_stop (passed (plus h.ledger.used price) h.ledger.room)
    where
      by_stop : (o : Option Full) → IfHappens (charged_unless o a (record h { ledger = record h.ledger { used = plus h.ledger.used price } })) (λ b g. kind_at g.store k ≡ x)
      by_stop None = e
      by_stop (Some full) = tt

  written_stays : {A : Type 0} (h : Heap) (n : ℕ) (before after : Thing) (p : Room) (a : A) → (frozen before ≡ false → SameKind after (slice_get h.store n)) → kind_at h.store k ≡ x → Stays (written h n before after p a)
  unfolding written Stays
  written_stays h n before after p a same e = by_bool (frozen before) refl
    where
      by_bool : (b : Bool) → frozen before ≡ b → IfHappens (cond b (Happens a h) (charged (plus (first_cost h n) p) a (with_thing h n after))) (λ b g. kind_at g.store k ≡ x)
      by_bool true f = e
      by_bool false f = charged_stays (plus (first_cost h n) p) a (with_thing h n after) (set_kind h.store n k after (same f) ∙ e)

  apply_stays : (h : Heap) (n : ℕ) (m : Method) (answer : Bool) (after : Option ObjectRecord) → IfSome after (Has (lasting (object_in h.store n).class)) → kind_at h.store k ≡ x → Stays (apply_outcome h n m (object_in h.store n) answer after)
  unfolding Stays object_in
  apply_stays h n m answer None c e = e
  apply_stays h n m answer (Some after) c e = by_name (name_added h m (object_in h.store n) after)
    where
      by_name : (name : Option (List ℕ)) → IfHappens (written (with_name name h) n (AnObject (object_in h.store n)) (AnObject after) (plus (growth (object_in h.store n) after) (name_cost m (name_added h m (object_in h.store n) after))) answer) (λ b g. kind_at g.store k ≡ x)
      by_name None = written_stays h n (AnObject (object_in h.store n)) (AnObject after) _ answer (object_same (slice_get h.store n) after c) e
      by_name (Some t) = written_stays (with_name (Some t) h) n (AnObject (object_in h.store n)) (AnObject after) _ answer (object_same (slice_get h.store n) after c) e

  settle_stays : (h : Heap) (n : ℕ) (state : PromiseState) (c : Class) → (object_in h.store n).class ≡ c → kind_at h.store k ≡ x → Stays (settle_class h n state (object_in h.store n) c)
  unfolding Stays object_in
  settle_stays h n state (Promise Pending rs) q e = written_stays h n _ _ _ _ (λ f. promise_same (slice_get h.store n) Pending state rs rs q) e
  settle_stays h n state (Promise (Fulfilled v) rs) q e = e
  settle_stays h n state (Promise (Rejected v) rs) q e = e
  settle_stays h n state Ordinary q e = e
  settle_stays h n state (Array l b) q e = e
  settle_stays h n state (ScriptFunction m f home captured) q e = e
  settle_stays h n state (BuiltInFunction row) q e = e
  settle_stays h n state (ResolveFunction p m) q e = e
  settle_stays h n state (RejectFunction p m) q e = e
  settle_stays h n state Error q e = e

  take_stays : (h : Heap) (n : ℕ) (c : Class) → (object_in h.store n).class ≡ c → kind_at h.store k ≡ x → Stays (take_reaction_class h n (object_in h.store n) c)
  unfolding Stays object_in
  take_stays h n (Promise state (r ∷ rs)) q e = set_kind h.store n k _ (promise_same (slice_get h.store n) state state (r ∷ rs) rs q) ∙ e
  take_stays h n (Promise state []) q e = e
  take_stays h n Ordinary q e = e
  take_stays h n (Array l b) q e = e
  take_stays h n (ScriptFunction m f home captured) q e = e
  take_stays h n (BuiltInFunction row) q e = e
  take_stays h n (ResolveFunction p m) q e = e
  take_stays h n (RejectFunction p m) q e = e
  take_stays h n Error q e = e

  react_stays : (h : Heap) (n : ℕ) (r : Reaction) (c : Class) → (object_in h.store n).class ≡ c → kind_at h.store k ≡ x → Stays (react_class h n r (object_in h.store n) c)
  unfolding Stays object_in
  react_stays h n r (Promise Pending rs) q e = written_stays h n _ _ _ _ (λ f. promise_same (slice_get h.store n) Pending Pending rs (rs ++ r ∷ []) q) e
  react_stays h n r (Promise (Fulfilled v) rs) q e = e
  react_stays h n r (Promise (Rejected v) rs) q e = e
  react_stays h n r Ordinary q e = e
  react_stays h n r (Array l b) q e = e
  react_stays h n r (ScriptFunction m f home captured) q e = e
  react_stays h n r (BuiltInFunction row) q e = e
  react_stays h n r (ResolveFunction p m) q e = e
  react_stays h n r (RejectFunction p m) q e = e
  react_stays h n r Error q e = e

  dequeue_stays : (jobs : List Job) (h : Heap) → kind_at h.store k ≡ x → Stays (dequeue_from jobs h)
  unfolding Stays
  dequeue_stays [] h e = e
  dequeue_stays (j ∷ jobs) h e = e

-- ---- deeds and runs

abbrev Stay : ℕ → Option Kind → World → Type 0
Stay k x w = kind_at w.heap.store k ≡ x

pub perform_kinds : (d : Deed) (w : World) (k : ℕ) → k < length w.heap.store → IfHappens (perform d w) (λ a v. kind_at v.heap.store k ≡ kind_at w.heap.store k)
unfolding perform Stays cell_in mark_in
perform_kinds (Make t) w k l = lifted (λ a. Stay k (kind_at w.heap.store k)) w (make t w.heap) (charged_stays k _ (some_slots (size t)) (length w.heap.store) (record w.heap { store = w.heap.store ++ t ∷ [] }) (ap (option_map kind_of) (get-append w.heap.store (t ∷ []) k l)))
perform_kinds (Apply n m) w k l =
    let o : ObjectRecord = object_in w.heap.store n in
    lifted (λ a. Stay k (kind_at w.heap.store k)) w (apply n m w.heap) (apply_stays k _ w.heap n m (apply_method m w.heap.store n o).answer (apply_method m w.heap.store n o).written (method_class m w.heap.store n o) refl)
perform_kinds (Attach f p a) w k l = attached_kind p a (slice_get w.heap.store f) w.heap.store f k refl
perform_kinds (SetCell n v) w k l = lifted (λ a. Stay k (kind_at w.heap.store k)) w (set_cell n v w.heap) (written_stays k _ w.heap n _ _ nothing tt (cell_same (slice_get w.heap.store n) v) refl)
perform_kinds (SetMark n) w k l = lifted (λ a. Stay k (kind_at w.heap.store k)) w (set_mark n w.heap) (written_stays k _ w.heap n _ _ nothing tt (mark_same (slice_get w.heap.store n)) refl)
perform_kinds (Settle n state) w k l = lifted (λ a. Stay k (kind_at w.heap.store k)) w (settle n state w.heap) (settle_stays k _ w.heap n state (object_in w.heap.store n).class refl refl)
perform_kinds (TakeReaction n) w k l = lifted (λ a. Stay k (kind_at w.heap.store k)) w (take_reaction n w.heap) (take_stays k _ w.heap n (object_in w.heap.store n).class refl refl)
perform_kinds (AddReaction n r) w k l = lifted (λ a. Stay k (kind_at w.heap.store k)) w (add_reaction n r w.heap) (react_stays k _ w.heap n r (object_in w.heap.store n).class refl refl)
perform_kinds (Enqueue job) w k l = lifted (λ a. Stay k (kind_at w.heap.store k)) w (enqueue job w.heap) (charged_stays k _ (some_slots 4) tt (record w.heap { jobs = w.heap.jobs ++ job ∷ [] }) refl)
perform_kinds Dequeue w k l = lifted (λ a. Stay k (kind_at w.heap.store k)) w (dequeue w.heap) (dequeue_stays k _ w.heap.jobs w.heap refl)
perform_kinds (AddRejection n) w k l = refl
perform_kinds (RemoveRejection n) w k l = refl
perform_kinds (MakeText units) w k l = lifted (λ a. Stay k (kind_at w.heap.store k)) w (charged (some_units units) tt w.heap) (charged_stays k _ (some_units units) tt w.heap refl)
perform_kinds (Write bytes) w k l = refl
perform_kinds (Take line left) w k l = refl

-- the thing at k stands and is of this kind
abbrev pub Is : ℕ → Option Kind → World → Type 0
Is k x w = (k < length w.heap.store) × (kind_at w.heap.store k ≡ x)

deed_keeps : (k : ℕ) (x : Option Kind) (d : Deed) (w : World) → Is k x w → IfHappens (perform d w) (λ a v. Is k x v)
deed_keeps k x d w h = by_event (perform d w) (perform_grows d w) (perform_kinds d w k h.0)
  where
    by_event : {A : Type 0} (e : Event World A) → IfHappens e (λ a v. Grows w.heap v.heap) → IfHappens e (λ a v. kind_at v.heap.store k ≡ kind_at w.heap.store k) → IfHappens e (λ a v. Is k x v)
    by_event (Happens a v) g s = (let y = g.things in let z = h.0 in omega (arith, y, z), s ∙ h.1)
    by_event (Stops full) g s = tt

pub run_kinds : (k : ℕ) (x : Option Kind) (c : Calls) → CallsKeep (Is k x) c → (p : Act) (s : State) → Is k x s.world → Is k x (state_of (run c p s)).world
run_kinds k x c keep p s h = run_keeps (Is k x) (deed_keeps k x) c keep p s h
