-- A kinded world stays kinded under each deed that holds things of the right kinds, and answers what is kinded.
use Rattle.std.proofs.Common.{◌≡◌, ℕ, zero, suc, ◌<◌, List, [], ◌∷◌, ◌++◌, length, arith, refl, sym, ap, ◌∙◌, subst, Option, Some, None, IfSome, option_map, slice_get, get_or}
use Rattle.js_value.specs.Value.{Value, Undefined, Null, Boolean, Number, String, Object}
use Rattle.js_value.specs.Store.{Store, Thing, AnObject, ACell, AMark, ObjectRecord, Property, Content, Data, Accessor, Class, Ordinary, Array, ScriptFunction, BuiltInFunction, ResolveFunction, RejectFunction, Error, Promise, PromiseState, Pending, Fulfilled, Rejected, Reaction, size}
use Rattle.js_value.specs.Job.{Job, FulfilJob, RejectJob, ThenableJob}
use Rattle.es_ops.specs.Intrinsics.{Intrinsic, PrintCell, ReadCell, place_of}
use Rattle.es_ops.specs.State.{Heap, World, ModuleState, cells_of, some_slots}
use Rattle.es_ops.specs.Ledger.{Event, Happens, Stops}
use Rattle.es_ops.specs.Events.{Deed, Answer, perform, Make, Apply, Attach, SetCell, SetMark, Settle, TakeReaction, AddReaction, Enqueue, Dequeue, AddRejection, RemoveRejection, MakeText, Write, Take, make}
use Rattle.es_ops.specs.Laws.{IfHappens}
use Rattle.es_ops.specs.Kinds.{Kind, kind_of, kind_at}
use Rattle.es_ops.specs.Kinded.{Kinds, Lasts, IsObject, IsFunction, IsPromise, IsCell, IsMark, IsValueKinded, IsFunctionKinded, IfValueKinded, IfObject, IsContentKinded, ArePropertiesKinded, IsStateKinded, IsReactionKinded, AreReactionsKinded, AreAll, IsClassKinded, IsObjectKinded, IsThingKinded, IsJobKinded, AreJobsKinded, IsIntrinsicKinded, IsHeapKinded, AreModulesKinded, IsWorldKinded, IsKinded, IsDeedKinded, IsReactionAnswerKinded, IsJobAnswerKinded, IsAnswerKinded}
use Rattle.es_ops.proofs.OnHeap.{lifted}
use Rattle.es_ops.proofs.Chains.{append_new}
use Rattle.es_ops.proofs.WellFormedStores.{charged_well}
use Rattle.es_ops.proofs.KindsLast.{perform_kinds}
use Rattle.es_ops.proofs.KindedDeeds.{deed_kinded, IsOldAnswer}

-- what is made is of its kind
abbrev IsMade : Kinds → (d : Deed) → Answer d → Type 0
IsMade kinds (Make t) n = kinds n ≡ Some (kind_of t)
IsMade kinds _ a = Unit {0}

-- ---- what is kinded stays so while kinds last

module _ (kinds later : Kinds) (lasts : Lasts kinds later) where
  kind_more : (P : Option Kind → Type 0) → (P None → ⊥) → (n : ℕ) → P (kinds n) → P (later n)
  kind_more P none n h = by_kind (kinds n) refl h
    where
      by_kind : (k : Option Kind) → kinds n ≡ k → P k → P (later n)
      by_kind None e p = absurd (none p)
      by_kind (Some k) e p = subst P (sym (lasts n k e)) p

  pub object_more : (n : ℕ) → IsObject (kinds n) → IsObject (later n)
  object_more = kind_more IsObject (λ h. h)

  pub promise_more : (n : ℕ) → IsPromise (kinds n) → IsPromise (later n)
  promise_more = kind_more IsPromise (λ h. h)

  cell_more : (n : ℕ) → IsCell (kinds n) → IsCell (later n)
  cell_more = kind_more IsCell (λ h. h)

  mark_more : (n : ℕ) → IsMark (kinds n) → IsMark (later n)
  mark_more = kind_more IsMark (λ h. h)

  pub value_more : (v : Value) → IsValueKinded kinds v → IsValueKinded later v
  value_more (Object n) h = object_more n h
  value_more Undefined h = tt
  value_more Null h = tt
  value_more (Boolean b) h = tt
  value_more (Number n) h = tt
  value_more (String t) h = tt

  pub function_more : (v : Value) → IsFunctionKinded kinds v → IsFunctionKinded later v
  function_more (Object n) h = kind_more IsFunction (λ p. p) n h
  function_more Undefined h = tt
  function_more Null h = h
  function_more (Boolean b) h = h
  function_more (Number n) h = h
  function_more (String t) h = h

  if_value_more : (v : Option Value) → IfValueKinded kinds v → IfValueKinded later v
  if_value_more None h = tt
  if_value_more (Some v) h = value_more v h

  if_object_more : (n : Option ℕ) → IfObject kinds n → IfObject later n
  if_object_more None h = tt
  if_object_more (Some n) h = object_more n h

  all_more : (P : Option Kind → Type 0) → ((n : ℕ) → P (kinds n) → P (later n)) → (ns : List ℕ) → AreAll P kinds ns → AreAll P later ns
  all_more P one [] h = tt
  all_more P one (n ∷ ns) h = (one n h.0, all_more P one ns h.1)

  content_more : (c : Content) → IsContentKinded kinds c → IsContentKinded later c
  content_more (Data v w) h = value_more v h
  content_more (Accessor g s) h = (function_more g h.0, function_more s h.1)

  properties_more : {K : Type 0} (es : List (K × Property)) → ArePropertiesKinded kinds es → ArePropertiesKinded later es
  properties_more [] h = tt
  properties_more (e ∷ es) h = (content_more e.1.content h.0, properties_more es h.1)

  state_more : (s : PromiseState) → IsStateKinded kinds s → IsStateKinded later s
  state_more Pending h = tt
  state_more (Fulfilled v) h = value_more v h
  state_more (Rejected v) h = value_more v h

  reaction_more : (r : Reaction) → IsReactionKinded kinds r → IsReactionKinded later r
  reaction_more r h = record { derived = promise_more r.derived h.derived; on_fulfilled = function_more r.on_fulfilled h.on_fulfilled; on_rejected = function_more r.on_rejected h.on_rejected }

  reactions_more : (rs : List Reaction) → AreReactionsKinded kinds rs → AreReactionsKinded later rs
  reactions_more [] h = tt
  reactions_more (r ∷ rs) h = (reaction_more r h.0, reactions_more rs h.1)

  class_more : (c : Class) → IsClassKinded kinds c → IsClassKinded later c
  class_more (ScriptFunction m f home captured) h = (if_object_more home h.0, all_more IsCell cell_more captured h.1)
  class_more (ResolveFunction p m) h = (promise_more p h.0, mark_more m h.1)
  class_more (RejectFunction p m) h = (promise_more p h.0, mark_more m h.1)
  class_more (Promise s rs) h = (state_more s h.0, reactions_more rs h.1)
  class_more Ordinary h = tt
  class_more (Array n w) h = tt
  class_more (BuiltInFunction row) h = tt
  class_more Error h = tt

  pub thing_more : (t : Thing) → IsThingKinded kinds t → IsThingKinded later t
  thing_more (AnObject o) h = record { class = class_more o.class h.class; prototype = if_object_more o.prototype h.prototype; indexed = properties_more o.indexed h.indexed; named = properties_more o.named h.named }
  thing_more (ACell c) h = if_value_more c.value h
  thing_more (AMark b) h = tt

  if_thing_more : (t : Option Thing) → IfSome t (IsThingKinded kinds) → IfSome t (IsThingKinded later)
  if_thing_more None h = tt
  if_thing_more (Some t) h = thing_more t h

  job_more : (j : Job) → IsJobKinded kinds j → IsJobKinded later j
  job_more (FulfilJob f d v) h = (function_more f h.0, promise_more d h.1, value_more v h.2)
  job_more (RejectJob f d v) h = (function_more f h.0, promise_more d h.1, value_more v h.2)
  job_more (ThenableJob p t f) h = (promise_more p h.0, value_more t h.1, function_more f h.2)

  jobs_more : (jobs : List Job) → AreJobsKinded kinds jobs → AreJobsKinded later jobs
  jobs_more [] h = tt
  jobs_more (j ∷ jobs) h = (job_more j h.0, jobs_more jobs h.1)

  intrinsic_more : (i : Intrinsic) (n : ℕ) → IsIntrinsicKinded i (kinds n) → IsIntrinsicKinded i (later n)
  intrinsic_more PrintCell n h = cell_more n h
  intrinsic_more ReadCell n h = cell_more n h
  intrinsic_more i n h = object_more n h

  modules_more : (ms : List ModuleState) → AreModulesKinded kinds ms → AreModulesKinded later ms
  modules_more [] h = tt
  modules_more (m ∷ ms) h = (all_more IsCell cell_more (cells_of m) h.0, modules_more ms h.1)

  pub world_more : (w : World) → IsWorldKinded kinds w → IsWorldKinded later w
  world_more w h = record {
    heap = record {
      things = λ n. if_thing_more (slice_get w.heap.store n) (h.heap.things n);
      jobs = jobs_more w.heap.jobs h.heap.jobs;
      realm = λ i. intrinsic_more i (get_or w.heap.realm (place_of i) 0) (h.heap.realm i);
    };
    rejections = all_more IsPromise promise_more w.rejections h.rejections;
    modules = modules_more w.modules h.modules;
  }

  reaction_answer_more : (r : Option Reaction) → IsReactionAnswerKinded kinds r → IsReactionAnswerKinded later r
  reaction_answer_more None h = tt
  reaction_answer_more (Some r) h = reaction_more r h

  job_answer_more : (j : Option Job) → IsJobAnswerKinded kinds j → IsJobAnswerKinded later j
  job_answer_more None h = tt
  job_answer_more (Some j) h = job_more j h

  answer_more : (d : Deed) (a : Answer d) → IsOldAnswer kinds d a → IsMade later d a → IsAnswerKinded later d a
  answer_more (Make t) a h m = m
  answer_more (TakeReaction n) a h m = reaction_answer_more a h
  answer_more Dequeue a h m = job_answer_more a h
  answer_more (Apply n method) a h m = tt
  answer_more (Attach f p is_home) a h m = tt
  answer_more (SetCell n v) a h m = tt
  answer_more (SetMark n) a h m = tt
  answer_more (Settle n state) a h m = tt
  answer_more (AddReaction n r) a h m = tt
  answer_more (Enqueue job) a h m = tt
  answer_more (AddRejection n) a h m = tt
  answer_more (RemoveRejection n) a h m = tt
  answer_more (MakeText units) a h m = tt
  answer_more (Write bytes) a h m = tt
  answer_more (Take line left) a h m = tt

-- ---- kinds last under each deed

kind_below : (s : Store) (n : ℕ) (k : Kind) → kind_at s n ≡ Some k → n < length s
kind_below [] n k e = absurd (cc)
kind_below (x ∷ s) zero k e = omega arith
kind_below (x ∷ s) (suc n) k e = let h = kind_below s n k e in omega (arith, h)

abbrev KindsOf : World → Kinds
KindsOf w = kind_at w.heap.store

pub perform_lasts : (d : Deed) (w : World) → IfHappens (perform d w) (λ a v. Lasts (KindsOf w) (KindsOf v))
perform_lasts d w = by_event (perform d w) (perform_kinds d w)
  where
    by_event : {A : Type 0} (e : Event World A) → ((k : ℕ) → k < length w.heap.store → IfHappens e (λ a v. kind_at v.heap.store k ≡ kind_at w.heap.store k)) → IfHappens e (λ a v. Lasts (KindsOf w) (KindsOf v))
    by_event (Happens a v) h = λ n k q. h n (kind_below w.heap.store n k q) ∙ q
    by_event (Stops full) h = tt

-- ---- what is made

any : {A : Type 0} (e : Event World A) → IfHappens e (λ a v. Unit {0})
any (Happens a v) = tt
any (Stops full) = tt

perform_made : (d : Deed) (w : World) → IfHappens (perform d w) (λ a v. IsMade (KindsOf v) d a)
unfolding perform
perform_made (Make t) w =
    lifted (λ a v. kind_at v.heap.store a ≡ Some (kind_of t)) w (make t w.heap)
    (charged_well (λ a h. kind_at h.store a ≡ Some (kind_of t)) (some_slots (size t)) (length w.heap.store) (record w.heap { store = w.heap.store ++ t ∷ [] }) (λ l. ap (option_map kind_of) (append_new w.heap.store t)))
perform_made (TakeReaction n) w = any (perform (TakeReaction n) w)
perform_made Dequeue w = any (perform Dequeue w)
perform_made (Apply n m) w = any (perform (Apply n m) w)
perform_made (Attach f p a) w = any (perform (Attach f p a) w)
perform_made (SetCell n v) w = any (perform (SetCell n v) w)
perform_made (SetMark n) w = any (perform (SetMark n) w)
perform_made (Settle n state) w = any (perform (Settle n state) w)
perform_made (AddReaction n r) w = any (perform (AddReaction n r) w)
perform_made (Enqueue job) w = any (perform (Enqueue job) w)
perform_made (AddRejection n) w = tt
perform_made (RemoveRejection n) w = tt
perform_made (MakeText units) w = any (perform (MakeText units) w)
perform_made (Write bytes) w = tt
perform_made (Take line left) w = tt

-- ---- all deeds

pub perform_kinded : (d : Deed) (w : World) → IsKinded w → IsDeedKinded (kind_at w.heap.store) d → IfHappens (perform d w) (λ a v. IsKinded v × IsAnswerKinded (kind_at v.heap.store) d a)
perform_kinded d w h b = by_event (perform d w) (deed_kinded (KindsOf w) d w h b) (perform_lasts d w) (perform_made d w)
  where
    by_event : (e : Event World (Answer d)) → IfHappens e (λ a v. IsWorldKinded (KindsOf w) v × IsOldAnswer (KindsOf w) d a) → IfHappens e (λ a v. Lasts (KindsOf w) (KindsOf v)) → IfHappens e (λ a v. IsMade (KindsOf v) d a)
        → IfHappens e (λ a v. IsKinded v × IsAnswerKinded (kind_at v.heap.store) d a)
    by_event (Happens a v) k l m = (world_more (KindsOf w) (KindsOf v) l v k.0, answer_more (KindsOf w) (KindsOf v) l d a k.1 m)
    by_event (Stops full) k l m = tt
