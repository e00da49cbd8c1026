-- Where a deed holds things of the right kinds, a world whose fields speak of such stays one, and so do its answers.
use Rattle.std.proofs.Common.{◌≡◌, ℕ, zero, suc, ◌<◌, Bool, true, false, cond, not, List, [], ◌∷◌, ◌++◌, length, set, filter, ◌==◌, arith, refl, sym, ap, ◌∙◌, subst, Option, Some, None, IfSome, slice_get, get_or}
use Rattle.js_value.specs.Value.{Value, Undefined, Null, Boolean, Number, String, Object, Text, Key, Named}
use Rattle.js_value.specs.Store.{Store, Thing, AnObject, ACell, AMark, ObjectRecord, Property, Content, Data, Accessor, Class, Ordinary, Array, ScriptFunction, BuiltInFunction, ResolveFunction, RejectFunction, Error, Promise, PromiseState, Pending, Fulfilled, Rejected, Reaction, object_in, cell_in, mark_in, as_object, as_cell, own_property, frozen, size}
use Rattle.js_value.specs.Job.{Job, FulfilJob, RejectJob, ThenableJob}
use Rattle.js_value.specs.declared.counts.Room.{Room}
use Rattle.js_value.specs.declared.counts.Full.{Full}
use Rattle.es_ops.specs.Intrinsics.{Intrinsic, place_of}
use Rattle.es_ops.specs.State.{Heap, World, Ledger, ModuleState, cells_of, plus, nothing, some_slots, some_units}
use Rattle.es_ops.specs.Ledger.{Event, Happens, Stops, charged, written, with_name, name_added, name_cost, growth}
use Rattle.es_ops.specs.InternalMethods.{Method, apply_method}
use Rattle.es_ops.specs.Events.{Deed, Answer, perform, Make, Apply, Attach, SetCell, SetMark, Settle, TakeReaction, AddReaction, Enqueue, Dequeue, AddRejection, RemoveRejection, MakeText, Write, Take, make, apply, attach, set_cell, set_mark, settle, take_reaction, add_reaction, enqueue, dequeue, apply_outcome, settle_class, take_reaction_class, react_class, dequeue_from, attached, at_home, with_home, with_prototype, pointing_to, prototype_name, with_rest}
use Rattle.es_ops.specs.Laws.{IfHappens}
use Rattle.es_ops.specs.Kinds.{Kind, kind_of, kind_at}
use Rattle.es_ops.specs.Kinded.{Kinds, IsObject, IfValueKinded, IsContentKinded, IfContentKinded, IsStateKinded, IsReactionKinded, AreReactionsKinded, AreAll, IsPromise, IsClassKinded, IsObjectKinded, IsThingKinded, IsJobKinded, AreJobsKinded, IsHeapKinded, IsWorldKinded, IsDeedKinded, IsReactionAnswerKinded, IsJobAnswerKinded}
use Rattle.es_ops.proofs.Chains.{set_keeps, append_keeps}
use Rattle.es_ops.proofs.WellFormedStores.{charged_well, written_well}
use Rattle.es_ops.proofs.KindedObjects.{own_property_kinded, with_property_kinded, method_kinded}

module _ (kinds : Kinds) where
  -- ---- what stands at a place

  abbrev IfThing : Option Thing → Type 0
  IfThing t = IfSome t (IsThingKinded kinds)

  pub object_kinded : (t : Option Thing) → IfThing t → IsObjectKinded kinds (as_object t)
  object_kinded (Some (AnObject o)) h = h
  object_kinded (Some (ACell c)) h = record { class = tt; prototype = tt; indexed = tt; named = tt }
  object_kinded (Some (AMark b)) h = record { class = tt; prototype = tt; indexed = tt; named = tt }
  object_kinded None h = record { class = tt; prototype = tt; indexed = tt; named = tt }

  pub cell_kinded : (t : Option Thing) → IfThing t → IfValueKinded kinds (as_cell t).value
  cell_kinded (Some (ACell c)) h = h
  cell_kinded (Some (AnObject o)) h = tt
  cell_kinded (Some (AMark b)) h = tt
  cell_kinded None h = tt

  pub object_in_kinded : (h : Heap) (n : ℕ) → IsHeapKinded kinds h → IsObjectKinded kinds (object_in h.store n)
  unfolding object_in
  object_in_kinded h n k = object_kinded (slice_get h.store n) (k.things n)

  pub cell_in_kinded : (h : Heap) (n : ℕ) → IsHeapKinded kinds h → IfValueKinded kinds (cell_in h.store n).value
  unfolding cell_in
  cell_in_kinded h n k = cell_kinded (slice_get h.store n) (k.things n)

  -- ---- heaps

  set_kinded : (h : Heap) (n : ℕ) (t : Thing) (l : Ledger) → IsHeapKinded kinds h → IsThingKinded kinds t → IsHeapKinded kinds (record h { store = set h.store n t; ledger = l })
  set_kinded h n t l k b = record { things = λ i. set_keeps IfThing h.store n i t b (k.things i); jobs = k.jobs; realm = k.realm }

  ledger_kinded : (h : Heap) (l : Ledger) → IsHeapKinded kinds h → IsHeapKinded kinds (record h { ledger = l })
  ledger_kinded h l k = record { things = k.things; jobs = k.jobs; realm = k.realm }

  name_kinded : (name : Option Text) (h : Heap) → IsHeapKinded kinds h → IsHeapKinded kinds (with_name name h)
  name_kinded None h k = k
  name_kinded (Some t) h k = record { things = k.things; jobs = k.jobs; realm = k.realm }

  jobs_kinded : (h : Heap) (jobs : List Job) (l : Ledger) → IsHeapKinded kinds h → AreJobsKinded kinds jobs → IsHeapKinded kinds (record h { jobs = jobs; ledger = l })
  jobs_kinded h jobs l k b = record { things = k.things; jobs = b; realm = k.realm }

  -- ---- events of the heap

  abbrev Leaves : {A : Type 0} → Event Heap A → Type 0
  Leaves e = IfHappens e (λ a h. IsHeapKinded kinds h)

  make_kinded : (t : Thing) (h : Heap) → IsHeapKinded kinds h → IsThingKinded kinds t → Leaves (make t h)
  make_kinded t h k b = charged_well (λ a g. IsHeapKinded kinds g) (some_slots (size t)) (length h.store) (record h { store = h.store ++ t ∷ [] })
      (λ l. record { things = λ i. append_keeps IfThing h.store i t b tt (k.things i); jobs = k.jobs; realm = k.realm })

  written_kinded : {A : Type 0} (h : Heap) (n : ℕ) (before after : Thing) (p : Room) (a : A) → IsHeapKinded kinds h → IsThingKinded kinds after → Leaves (written h n before after p a)
  written_kinded h n before after p a k b = written_well (λ a g. IsHeapKinded kinds g) h n before after p a k (λ l. set_kinded h n after l k b)

  apply_kinded : (h : Heap) (n : ℕ) (m : Method) (before : ObjectRecord) (answer : Bool) (after : Option ObjectRecord) → IsHeapKinded kinds h → IfSome after (IsObjectKinded kinds) → Leaves (apply_outcome h n m before answer after)
  apply_kinded h n m before answer None k b = k
  apply_kinded h n m before answer (Some after) k b =
      let name : Option Text = name_added h m before after in
      written_kinded (with_name name h) n (AnObject before) (AnObject after) (plus (growth before after) (name_cost m name)) answer (name_kinded name h k) b

  -- ---- promises

  promise_kinded : (o : ObjectRecord) (state : PromiseState) (rs : List Reaction) → IsStateKinded kinds state → AreReactionsKinded kinds rs → IsObjectKinded kinds o → IsObjectKinded kinds (record o { class = Promise state rs })
  promise_kinded o state rs s r h = record { class = (s, r); prototype = h.prototype; indexed = h.indexed; named = h.named }

  settle_kinded : (h : Heap) (n : ℕ) (state : PromiseState) (o : ObjectRecord) (c : Class) → IsHeapKinded kinds h → IsStateKinded kinds state → IsObjectKinded kinds o → IsClassKinded kinds c → Leaves (settle_class h n state o c)
  settle_kinded h n state o (Promise Pending rs) k s b q = written_kinded h n (AnObject o) (AnObject (record o { class = Promise state rs })) nothing (Some (length rs)) k (promise_kinded o state rs s q.1 b)
  settle_kinded h n state o (Promise (Fulfilled v) rs) k s b q = k
  settle_kinded h n state o (Promise (Rejected v) rs) k s b q = k
  settle_kinded h n state o Ordinary k s b q = k
  settle_kinded h n state o (Array l w) k s b q = k
  settle_kinded h n state o (ScriptFunction m f home captured) k s b q = k
  settle_kinded h n state o (BuiltInFunction row) k s b q = k
  settle_kinded h n state o (ResolveFunction p m) k s b q = k
  settle_kinded h n state o (RejectFunction p m) k s b q = k
  settle_kinded h n state o Error k s b q = k

  abbrev Took : Event Heap (Option Reaction) → Type 0
  Took e = IfHappens e (λ a h. IsHeapKinded kinds h × IsReactionAnswerKinded kinds a)

  take_kinded : (h : Heap) (n : ℕ) (o : ObjectRecord) (c : Class) → IsHeapKinded kinds h → IsObjectKinded kinds o → IsClassKinded kinds c → Took (take_reaction_class h n o c)
  take_kinded h n o (Promise state (r ∷ rs)) k b q = (set_kinded h n (AnObject (record o { class = Promise state rs })) h.ledger k (promise_kinded o state rs q.0 q.1.1 b), q.1.0)
  take_kinded h n o (Promise state []) k b q = (k, tt)
  take_kinded h n o Ordinary k b q = (k, tt)
  take_kinded h n o (Array l w) k b q = (k, tt)
  take_kinded h n o (ScriptFunction m f home captured) k b q = (k, tt)
  take_kinded h n o (BuiltInFunction row) k b q = (k, tt)
  take_kinded h n o (ResolveFunction p m) k b q = (k, tt)
  take_kinded h n o (RejectFunction p m) k b q = (k, tt)
  take_kinded h n o Error k b q = (k, tt)

  reactions_append : (rs : List Reaction) (r : Reaction) → AreReactionsKinded kinds rs → IsReactionKinded kinds r → AreReactionsKinded kinds (rs ++ r ∷ [])
  reactions_append [] r h b = (b, tt)
  reactions_append (q ∷ rs) r h b = (h.0, reactions_append rs r h.1 b)

  react_kinded : (h : Heap) (n : ℕ) (r : Reaction) (o : ObjectRecord) (c : Class) → IsHeapKinded kinds h → IsReactionKinded kinds r → IsObjectKinded kinds o → IsClassKinded kinds c → Leaves (react_class h n r o c)
  react_kinded h n r o (Promise Pending rs) k s b q =
      let after : ObjectRecord = record o { class = Promise Pending (rs ++ r ∷ []) } in
      written_kinded h n (AnObject o) (AnObject after) (growth o after) tt k (promise_kinded o Pending (rs ++ r ∷ []) tt (reactions_append rs r q.1 s) b)
  react_kinded h n r o (Promise (Fulfilled v) rs) k s b q = k
  react_kinded h n r o (Promise (Rejected v) rs) k s b q = k
  react_kinded h n r o Ordinary k s b q = k
  react_kinded h n r o (Array l w) k s b q = k
  react_kinded h n r o (ScriptFunction m f home captured) k s b q = k
  react_kinded h n r o (BuiltInFunction row) k s b q = k
  react_kinded h n r o (ResolveFunction p m) k s b q = k
  react_kinded h n r o (RejectFunction p m) k s b q = k
  react_kinded h n r o Error k s b q = k

  -- ---- a function's `prototype`

  pointing_kinded : (p : ℕ) (c : Content) → IsObject (kinds p) → IsContentKinded kinds c → IsContentKinded kinds (pointing_to p c)
  pointing_kinded p (Data v w) l h = l
  pointing_kinded p (Accessor g s) l h = h

  with_prototype_kinded : (p : ℕ) (o : ObjectRecord) (q : Option Property) → IsObject (kinds p) → IfContentKinded kinds q → IsObjectKinded kinds o → IsObjectKinded kinds (with_prototype p o q)
  with_prototype_kinded p o None l c h = h
  with_prototype_kinded p o (Some q) l c h = with_property_kinded kinds o (Named prototype_name) (record q { content = pointing_to p q.content }) (pointing_kinded p q.content l c) h

  at_home_kinded : (p : ℕ) (a : Bool) (c : Class) → IsObject (kinds p) → IsClassKinded kinds c → IsClassKinded kinds (at_home p a c)
  at_home_kinded p true (ScriptFunction x y home captured) l h = (l, h.1)
  at_home_kinded p true Ordinary l h = h
  at_home_kinded p true (Array n w) l h = h
  at_home_kinded p true (BuiltInFunction row) l h = h
  at_home_kinded p true (ResolveFunction q k) l h = h
  at_home_kinded p true (RejectFunction q k) l h = h
  at_home_kinded p true Error l h = h
  at_home_kinded p true (Promise s rs) l h = h
  at_home_kinded p false c l h = h

  with_home_kinded : (p : ℕ) (a : Bool) (o : ObjectRecord) → IsObject (kinds p) → IsObjectKinded kinds o → IsObjectKinded kinds (with_home p a o)
  with_home_kinded p a o l h = record { class = at_home_kinded p a o.class l h.class; prototype = h.prototype; indexed = h.indexed; named = h.named }

  attach_kinded : (h : Heap) (f p : ℕ) (a : Bool) (t : Option Thing) → IfThing t → IsObject (kinds p) → IsHeapKinded kinds h → IsHeapKinded kinds (record h { store = attached p a t h.store f })
  attach_kinded h f p a (Some (AnObject o)) b l k =
      let q : Option Property = own_property o (Named prototype_name) in
      set_kinded h f (AnObject (with_home p a (with_prototype p o q))) h.ledger k (with_home_kinded p a (with_prototype p o q) l (with_prototype_kinded p o q l (own_property_kinded kinds o (Named prototype_name) b) b))
  attach_kinded h f p a (Some (ACell c)) b l k = k
  attach_kinded h f p a (Some (AMark m)) b l k = k
  attach_kinded h f p a None b l k = k

  -- ---- jobs and rejections

  jobs_append : (jobs : List Job) (job : Job) → AreJobsKinded kinds jobs → IsJobKinded kinds job → AreJobsKinded kinds (jobs ++ job ∷ [])
  jobs_append [] job h b = (b, tt)
  jobs_append (j ∷ jobs) job h b = (h.0, jobs_append jobs job h.1 b)

  dequeue_kinded : (h : Heap) (jobs : List Job) → IsHeapKinded kinds h → AreJobsKinded kinds jobs → IfHappens (dequeue_from jobs h) (λ a g. IsHeapKinded kinds g × IsJobAnswerKinded kinds a)
  dequeue_kinded h [] k b = (k, tt)
  dequeue_kinded h (job ∷ jobs) k b = (jobs_kinded h jobs h.ledger k b.1, b.0)

  numbers_append : (ns : List ℕ) (n : ℕ) → AreAll IsPromise kinds ns → IsPromise (kinds n) → AreAll IsPromise kinds (ns ++ n ∷ [])
  numbers_append [] n h b = (b, tt)
  numbers_append (m ∷ ns) n h b = (h.0, numbers_append ns n h.1 b)

  numbers_filter : (test : ℕ → Bool) (ns : List ℕ) → AreAll IsPromise kinds ns → AreAll IsPromise kinds (filter test ns)
  numbers_filter test [] h = tt
  numbers_filter test (n ∷ ns) h = by_test (test n) (numbers_filter test ns h.1)
    where
      by_test : (b : Bool) → AreAll IsPromise kinds (filter test ns) → AreAll IsPromise kinds (cond b (n ∷ filter test ns) (filter test ns))
      by_test true rest = (h.0, rest)
      by_test false rest = rest

  -- ---- deeds, by the kinds of things before

  lifted_kinded : {A : Type 0} (B : A → Type 0) (w : World) (e : Event Heap A) → IsWorldKinded kinds w → IfHappens e (λ a h. IsHeapKinded kinds h × B a) → IfHappens (with_rest w e) (λ a v. IsWorldKinded kinds v × B a)
  lifted_kinded B w (Happens a h) k p = (record { heap = p.0; rejections = k.rejections; modules = k.modules }, p.1)
  lifted_kinded B w (Stops full) k p = tt

  -- what a deed answers that stood before it
  abbrev pub IsOldAnswer : (d : Deed) → Answer d → Type 0
  IsOldAnswer (TakeReaction n) r = IsReactionAnswerKinded kinds r
  IsOldAnswer Dequeue job = IsJobAnswerKinded kinds job
  IsOldAnswer _ a = Unit {0}

  plain : {A : Type 0} (w : World) (e : Event Heap A) → IsWorldKinded kinds w → Leaves e → IfHappens (with_rest w e) (λ a v. IsWorldKinded kinds v × (Unit {0}))
  plain w (Happens a h) k p = (record { heap = p; rejections = k.rejections; modules = k.modules }, tt)
  plain w (Stops full) k p = tt

  pub deed_kinded : (d : Deed) (w : World) → IsWorldKinded kinds w → IsDeedKinded kinds d → IfHappens (perform d w) (λ a v. IsWorldKinded kinds v × IsOldAnswer d a)
  unfolding perform
  deed_kinded (Make t) w k b = plain w (make t w.heap) k (make_kinded t w.heap k.heap b)
  deed_kinded (Apply n m) w k b =
      let o : ObjectRecord = object_in w.heap.store n in
      plain w (apply n m w.heap) k (apply_kinded w.heap n m o (apply_method m w.heap.store n o).answer (apply_method m w.heap.store n o).written k.heap (method_kinded kinds m w.heap.store n o b (object_in_kinded w.heap n k.heap)))
  deed_kinded (Attach f p a) w k b = plain w (attach f p a w.heap) k (attach_kinded w.heap f p a (slice_get w.heap.store f) (k.heap.things f) b k.heap)
  deed_kinded (SetCell n v) w k b = plain w (set_cell n v w.heap) k (written_kinded w.heap n (ACell (cell_in w.heap.store n)) (ACell (record { value = Some v; const = (cell_in w.heap.store n).const })) nothing tt k.heap b)
  deed_kinded (SetMark n) w k b = plain w (set_mark n w.heap) k (written_kinded w.heap n (AMark (mark_in w.heap.store n)) (AMark true) nothing tt k.heap tt)
  deed_kinded (Settle n state) w k b =
      let o : ObjectRecord = object_in w.heap.store n in
      let h : IsObjectKinded kinds o = object_in_kinded w.heap n k.heap in
      plain w (settle n state w.heap) k (settle_kinded w.heap n state o o.class k.heap b h h.class)
  deed_kinded (TakeReaction n) w k b =
      let o : ObjectRecord = object_in w.heap.store n in
      let h : IsObjectKinded kinds o = object_in_kinded w.heap n k.heap in
      lifted_kinded (IsReactionAnswerKinded kinds) w (take_reaction n w.heap) k (take_kinded w.heap n o o.class k.heap h h.class)
  deed_kinded (AddReaction n r) w k b =
      let o : ObjectRecord = object_in w.heap.store n in
      let h : IsObjectKinded kinds o = object_in_kinded w.heap n k.heap in
      plain w (add_reaction n r w.heap) k (react_kinded w.heap n r o o.class k.heap b h h.class)
  deed_kinded (Enqueue job) w k b =
      plain w (enqueue job w.heap) k
      (charged_well (λ a h. IsHeapKinded kinds h) (some_slots 4) tt (record w.heap { jobs = w.heap.jobs ++ job ∷ [] }) (λ l. jobs_kinded w.heap (w.heap.jobs ++ job ∷ []) l k.heap (jobs_append w.heap.jobs job k.heap.jobs b)))
  deed_kinded Dequeue w k b = lifted_kinded (IsJobAnswerKinded kinds) w (dequeue w.heap) k (dequeue_kinded w.heap w.heap.jobs k.heap k.heap.jobs)
  deed_kinded (AddRejection n) w k b = (record { heap = k.heap; rejections = numbers_append w.rejections n k.rejections b; modules = k.modules }, tt)
  deed_kinded (RemoveRejection n) w k b = (record { heap = k.heap; rejections = numbers_filter (λ m. not (m == n)) w.rejections k.rejections; modules = k.modules }, tt)
  deed_kinded (MakeText units) w k b = plain w (charged (some_units units) tt w.heap) k (charged_well (λ a h. IsHeapKinded kinds h) (some_units units) tt w.heap (λ l. ledger_kinded w.heap l k.heap))
  deed_kinded (Write bytes) w k b = (record { heap = k.heap; rejections = k.rejections; modules = k.modules }, tt)
  deed_kinded (Take line left) w k b = (record { heap = k.heap; rejections = k.rejections; modules = k.modules }, tt)
