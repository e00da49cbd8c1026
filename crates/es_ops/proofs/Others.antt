-- A deed leaves all other things as they were.
use Rattle.std.proofs.Common.{◌≡◌, ◌≢◌, ℕ, zero, suc, ◌<◌, Bool, true, false, cond, List, [], ◌∷◌, ◌++◌, length, set, arith, refl, ap, ◌∙◌, Option, Some, None, slice_get, ◌==◌, eq-eqb}
use Rattle.js_value.specs.Value.{Text}
use Rattle.js_value.specs.Store.{Store, Thing, AnObject, ACell, AMark, ObjectRecord, Class, Promise, PromiseState, Pending, Fulfilled, Rejected, Ordinary, Array, ScriptFunction, BuiltInFunction, ResolveFunction, RejectFunction, Error, Reaction, frozen, size, object_in, cell_in, mark_in}
use Rattle.js_value.specs.Job.{Job}
use Rattle.js_value.specs.declared.counts.Room.{Room}
use Rattle.es_ops.specs.State.{Heap, World, plus, nothing, some_slots, some_units}
use Rattle.js_value.specs.declared.counts.Full.{Full}
use Rattle.es_ops.specs.Ledger.{Event, Happens, charged, charged_unless, passed, written, with_thing, first_cost, with_name, name_added, name_cost, growth}
use Rattle.es_ops.specs.InternalMethods.{Method, apply_method}
use Rattle.es_ops.specs.Events.{Deed, perform, Make, Apply, Attach, SetCell, SetMark, Settle, TakeReaction, AddReaction, Enqueue, Dequeue, AddRejection, RemoveRejection, MakeText, Write, Take, make, apply, attach, set_cell, set_mark, settle, take_reaction, add_reaction, enqueue, dequeue, apply_outcome, settle_class, take_reaction_class, react_class, dequeue_from, attached}
use Rattle.es_ops.specs.Laws.{IfHappens, changes}
use Rattle.es_ops.proofs.OnHeap.{lifted}

pub get-set_other : {X : Type 0} (xs : List X) (i j : ℕ) (x : X) → i ≢ j → slice_get (set xs i x) j ≡ slice_get xs j
get-set_other [] i j x d = refl
get-set_other (z ∷ xs) zero zero x d = absurd (d refl)
get-set_other (z ∷ xs) zero (suc j) x d = refl
get-set_other (z ∷ xs) (suc i) zero x d = refl
get-set_other (z ∷ xs) (suc i) (suc j) x d = get-set_other xs i j x (λ e. d (ap (λ n. suc n) e))

pub different : (i j : ℕ) → (i == j) ≡ false → i ≢ j
different i j d = λ e. let t : (i == j) ≡ true = eq-eqb i j e in absurd (cc)

pub get-append : {X : Type 0} (xs ys : List X) (i : ℕ) → i < length xs → slice_get (xs ++ ys) i ≡ slice_get xs i
get-append [] ys i l = absurd (omega arith)
get-append (x ∷ xs) ys zero l = refl
get-append (x ∷ xs) ys (suc i) l = get-append xs ys i (omega arith)

module _ (k : ℕ) (x : Option Thing) where
  -- the thing at k is x
  Stays : {A : Type 0} → Event Heap A → Type 0
  Stays e = IfHappens e (λ a v. slice_get v.store k ≡ x)

  charged_stays : {A : Type 0} (price : Room) (a : A) (v : Heap) → slice_get v.store k ≡ x → Stays (charged price a v)
  unfolding Stays
  charged_stays price a v e = by_stop (passed (plus v.ledger.used price) v.ledger.room)
    where
      by_stop : (o : Option Full) → IfHappens (charged_unless o a (record v { ledger = record v.ledger { used = plus v.ledger.used price } })) (λ b u. slice_get u.store k ≡ x)
      by_stop None = e
      by_stop (Some full) = tt

  written_stays : {A : Type 0} (v : Heap) (n : ℕ) (before after : Thing) (p : Room) (a : A) → (n == k) ≡ false → slice_get v.store k ≡ x → Stays (written v n before after p a)
  unfolding written Stays
  written_stays v n before after p a d e = by_bool (frozen before)
    where
      by_bool : (b : Bool) → IfHappens (cond b (Happens a v) (charged (plus (first_cost v n) p) a (with_thing v n after))) (λ b u. slice_get u.store k ≡ x)
      by_bool true = e
      by_bool false = charged_stays (plus (first_cost v n) p) a (with_thing v n after) (get-set_other v.store n k after (different n k d) ∙ e)

  name_stays : (w : Heap) (name : Option Text) → slice_get w.store k ≡ x → slice_get (with_name name w).store k ≡ x
  name_stays w None e = e
  name_stays w (Some t) e = e

  apply_stays : (w : Heap) (n : ℕ) (m : Method) (before : ObjectRecord) (answer : Bool) (after : Option ObjectRecord) → (n == k) ≡ false → slice_get w.store k ≡ x → Stays (apply_outcome w n m before answer after)
  unfolding Stays
  apply_stays w n m before answer None d e = e
  apply_stays w n m before answer (Some after) d e =
      let name : Option Text = name_added w m before after in
      written_stays (with_name name w) n (AnObject before) (AnObject after) (plus (growth before after) (name_cost m name)) answer d (name_stays w name e)

  settle_stays : (w : Heap) (n : ℕ) (state : PromiseState) (o : ObjectRecord) (c : Class) → (n == k) ≡ false → slice_get w.store k ≡ x → Stays (settle_class w n state o c)
  unfolding Stays
  settle_stays w n state o (Promise Pending reactions) d e = written_stays w n (AnObject o) (AnObject (record o { class = Promise state reactions })) nothing (Some (length reactions)) d e
  settle_stays w n state o (Promise (Fulfilled v) reactions) d e = e
  settle_stays w n state o (Promise (Rejected v) reactions) d e = e
  settle_stays w n state o Ordinary d e = e
  settle_stays w n state o (Array l b) d e = e
  settle_stays w n state o (ScriptFunction m f h cs) d e = e
  settle_stays w n state o (BuiltInFunction row) d e = e
  settle_stays w n state o (ResolveFunction p m) d e = e
  settle_stays w n state o (RejectFunction p m) d e = e
  settle_stays w n state o Error d e = e

  take_stays : (w : Heap) (n : ℕ) (o : ObjectRecord) (c : Class) → (n == k) ≡ false → slice_get w.store k ≡ x → Stays (take_reaction_class w n o c)
  unfolding Stays
  take_stays w n o (Promise state (r ∷ rs)) d e = get-set_other w.store n k _ (different n k d) ∙ e
  take_stays w n o (Promise state []) d e = e
  take_stays w n o Ordinary d e = e
  take_stays w n o (Array l b) d e = e
  take_stays w n o (ScriptFunction m f g cs) d e = e
  take_stays w n o (BuiltInFunction row) d e = e
  take_stays w n o (ResolveFunction p m) d e = e
  take_stays w n o (RejectFunction p m) d e = e
  take_stays w n o Error d e = e

  react_stays : (w : Heap) (n : ℕ) (r : Reaction) (o : ObjectRecord) (c : Class) → (n == k) ≡ false → slice_get w.store k ≡ x → Stays (react_class w n r o c)
  unfolding Stays
  react_stays w n r o (Promise Pending reactions) d e =
      let after : ObjectRecord = record o { class = Promise Pending (reactions ++ r ∷ []) } in
      written_stays w n (AnObject o) (AnObject after) (growth o after) tt d e
  react_stays w n r o (Promise (Fulfilled v) reactions) d e = e
  react_stays w n r o (Promise (Rejected v) reactions) d e = e
  react_stays w n r o Ordinary d e = e
  react_stays w n r o (Array l b) d e = e
  react_stays w n r o (ScriptFunction m f h cs) d e = e
  react_stays w n r o (BuiltInFunction row) d e = e
  react_stays w n r o (ResolveFunction p m) d e = e
  react_stays w n r o (RejectFunction p m) d e = e
  react_stays w n r o Error d e = e

  dequeue_stays : (jobs : List Job) (w : Heap) → slice_get w.store k ≡ x → Stays (dequeue_from jobs w)
  unfolding Stays
  dequeue_stays [] w e = e
  dequeue_stays (j ∷ jobs) w e = e

  attached_stays : (p : ℕ) (a : Bool) (t : Option Thing) (s : Store) (f : ℕ) → (f == k) ≡ false → slice_get s k ≡ x → slice_get (attached p a t s f) k ≡ x
  attached_stays p a (Some (AnObject o)) s f d e = get-set_other s f k _ (different f k d) ∙ e
  attached_stays p a (Some (ACell c)) s f d e = e
  attached_stays p a (Some (AMark b)) s f d e = e
  attached_stays p a None s f d e = e

pub others_stay : (d : Deed) (w : World) (k : ℕ) → k < length w.heap.store → changes d k ≡ false → IfHappens (perform d w) (λ a v. slice_get v.heap.store k ≡ slice_get w.heap.store k)
unfolding perform Stays
others_stay (Make t) w k l e = lifted (λ a v. slice_get v.heap.store k ≡ slice_get w.heap.store k) w (make t w.heap) (charged_stays k (slice_get w.heap.store k) (some_slots (size t)) (length w.heap.store) (record w.heap { store = w.heap.store ++ t ∷ [] }) (get-append w.heap.store (t ∷ []) k l))
others_stay (Apply n m) w k l e =
    lifted (λ a v. slice_get v.heap.store k ≡ slice_get w.heap.store k) w (apply n m w.heap)
    (let before : ObjectRecord = object_in w.heap.store n in
    apply_stays k (slice_get w.heap.store k) w.heap n m before (apply_method m w.heap.store n before).answer (apply_method m w.heap.store n before).written e refl)
others_stay (Attach f p a) w k l e = lifted (λ a v. slice_get v.heap.store k ≡ slice_get w.heap.store k) w (attach f p a w.heap) (attached_stays k (slice_get w.heap.store k) p a (slice_get w.heap.store f) w.heap.store f e refl)
others_stay (SetCell n v) w k l e = lifted (λ a v. slice_get v.heap.store k ≡ slice_get w.heap.store k) w (set_cell n v w.heap) (written_stays k (slice_get w.heap.store k) w.heap n (ACell (cell_in w.heap.store n)) (ACell (record { value = Some v; const = (cell_in w.heap.store n).const })) nothing tt e refl)
others_stay (SetMark n) w k l e = lifted (λ a v. slice_get v.heap.store k ≡ slice_get w.heap.store k) w (set_mark n w.heap) (written_stays k (slice_get w.heap.store k) w.heap n (AMark (mark_in w.heap.store n)) (AMark true) nothing tt e refl)
others_stay (Settle n state) w k l e = lifted (λ a v. slice_get v.heap.store k ≡ slice_get w.heap.store k) w (settle n state w.heap) (settle_stays k (slice_get w.heap.store k) w.heap n state (object_in w.heap.store n) (object_in w.heap.store n).class e refl)
others_stay (TakeReaction n) w k l e = lifted (λ a v. slice_get v.heap.store k ≡ slice_get w.heap.store k) w (take_reaction n w.heap) (take_stays k (slice_get w.heap.store k) w.heap n (object_in w.heap.store n) (object_in w.heap.store n).class e refl)
others_stay (AddReaction n r) w k l e = lifted (λ a v. slice_get v.heap.store k ≡ slice_get w.heap.store k) w (add_reaction n r w.heap) (react_stays k (slice_get w.heap.store k) w.heap n r (object_in w.heap.store n) (object_in w.heap.store n).class e refl)
others_stay (Enqueue job) w k l e = lifted (λ a v. slice_get v.heap.store k ≡ slice_get w.heap.store k) w (enqueue job w.heap) (charged_stays k (slice_get w.heap.store k) (some_slots 4) tt (record w.heap { jobs = w.heap.jobs ++ job ∷ [] }) refl)
others_stay Dequeue w k l e = lifted (λ a v. slice_get v.heap.store k ≡ slice_get w.heap.store k) w (dequeue w.heap) (dequeue_stays k (slice_get w.heap.store k) w.heap.jobs w.heap refl)
others_stay (AddRejection n) w k l e = refl
others_stay (RemoveRejection n) w k l e = refl
others_stay (MakeText units) w k l e = lifted (λ a v. slice_get v.heap.store k ≡ slice_get w.heap.store k) w (charged (some_units units) tt w.heap) (charged_stays k (slice_get w.heap.store k) (some_units units) tt w.heap refl)
others_stay (Write bytes) w k l e = refl
others_stay (Take line left) w k l e = refl
