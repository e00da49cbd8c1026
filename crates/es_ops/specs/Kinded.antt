-- Each field speaks of a thing of the kind that it needs (own): a value, a prototype and a home of an object, a captured
-- number of a cell, a derived number of a promise; a getter, a setter and a handler are undefined or functions.
use Rattle.std.specs.Prelude.{◌≡◌, ℕ, true, List, [], ◌∷◌, Option, Some, None, IfSome, get_or, slice_get}
use Rattle.js_value.specs.Value.{Value, Undefined, Object}
use Rattle.js_value.specs.Store.{Content, Data, Accessor, Property, PromiseState, Pending, Fulfilled, Rejected, Reaction, Class, ScriptFunction, ResolveFunction, RejectFunction, Promise, callable_class, ObjectRecord, Thing, AnObject, ACell, AMark}
use Rattle.js_value.specs.Job.{Job, FulfilJob, RejectJob, ThenableJob}
use Rattle.es_ops.specs.Intrinsics.{Intrinsic, PrintCell, ReadCell, place_of}
use Rattle.es_ops.specs.State.{ModuleState, cells_of, Heap, World}
use Rattle.es_ops.specs.InternalMethods.{PropertyDescriptor, Method, DefineOwnProperty, SetPrototypeOf, SetStep, RefusesSet, CallsSetter, DefinesOn}
use Rattle.es_ops.specs.Events.{Question, Reply, TheClass, ThePrototype, TheOwnProperty, TheCell, TheProperty, TheSetStep, TheIntrinsic, Deed, Answer, Make, Apply, Attach, SetCell, Settle, TakeReaction, AddReaction, Enqueue, Dequeue, AddRejection}
use Rattle.es_ops.specs.Kinds.{Kind, ObjectKind, CellKind, MarkKind, kind_of, kind_at}

-- the kind of the thing at each place
abbrev pub Kinds : Type 0
Kinds = ℕ → Option Kind

-- later, each thing that stood is of the kind that it was
abbrev pub Lasts : (kinds later : Kinds) → Type 0
Lasts kinds later = (n : ℕ) (k : Kind) → kinds n ≡ Some k → later n ≡ Some k

-- ---- kinds

abbrev pub IsObject : Option Kind → Type 0
IsObject (Some (ObjectKind c)) = Unit {0}
IsObject _ = ⊥

abbrev pub IsFunction : Option Kind → Type 0
IsFunction (Some (ObjectKind c)) = callable_class c ≡ true
IsFunction _ = ⊥

abbrev pub IsPromise : Option Kind → Type 0
IsPromise (Some (ObjectKind (Promise state reactions))) = Unit {0}
IsPromise _ = ⊥

abbrev pub IsCell : Option Kind → Type 0
IsCell (Some (CellKind const)) = Unit {0}
IsCell _ = ⊥

abbrev pub IsMark : Option Kind → Type 0
IsMark (Some MarkKind) = Unit {0}
IsMark _ = ⊥

-- ---- values, and what holds them

abbrev pub IsValueKinded : Kinds → Value → Type 0
IsValueKinded kinds (Object n) = IsObject (kinds n)
IsValueKinded kinds _ = Unit {0}

-- undefined or a function
abbrev pub IsFunctionKinded : Kinds → Value → Type 0
IsFunctionKinded kinds (Object n) = IsFunction (kinds n)
IsFunctionKinded kinds Undefined = Unit {0}
IsFunctionKinded kinds _ = ⊥

abbrev pub IsContentKinded : Kinds → Content → Type 0
IsContentKinded kinds (Data value writable) = IsValueKinded kinds value
IsContentKinded kinds (Accessor get set) = IsFunctionKinded kinds get × IsFunctionKinded kinds set

abbrev pub ArePropertiesKinded : {K : Type 0} → Kinds → List (K × Property) → Type 0
ArePropertiesKinded kinds [] = Unit {0}
ArePropertiesKinded kinds (e ∷ es) = IsContentKinded kinds e.1.content × ArePropertiesKinded kinds es

abbrev pub IsStateKinded : Kinds → PromiseState → Type 0
IsStateKinded kinds Pending = Unit {0}
IsStateKinded kinds (Fulfilled v) = IsValueKinded kinds v
IsStateKinded kinds (Rejected v) = IsValueKinded kinds v

pub record IsReactionKinded (kinds : Kinds) (r : Reaction) : Type 0 where
  pub derived : IsPromise (kinds r.derived)
  pub on_fulfilled : IsFunctionKinded kinds r.on_fulfilled
  pub on_rejected : IsFunctionKinded kinds r.on_rejected

abbrev pub AreReactionsKinded : Kinds → List Reaction → Type 0
AreReactionsKinded kinds [] = Unit {0}
AreReactionsKinded kinds (r ∷ rs) = IsReactionKinded kinds r × AreReactionsKinded kinds rs

abbrev pub AreAll : (Option Kind → Type 0) → Kinds → List ℕ → Type 0
AreAll P kinds [] = Unit {0}
AreAll P kinds (n ∷ ns) = P (kinds n) × AreAll P kinds ns

abbrev pub IfObject : Kinds → Option ℕ → Type 0
IfObject kinds None = Unit {0}
IfObject kinds (Some n) = IsObject (kinds n)

abbrev pub IsClassKinded : Kinds → Class → Type 0
IsClassKinded kinds (ScriptFunction module_number function_number home captured) = IfObject kinds home × AreAll IsCell kinds captured
IsClassKinded kinds (ResolveFunction promise mark) = IsPromise (kinds promise) × IsMark (kinds mark)
IsClassKinded kinds (RejectFunction promise mark) = IsPromise (kinds promise) × IsMark (kinds mark)
IsClassKinded kinds (Promise state reactions) = IsStateKinded kinds state × AreReactionsKinded kinds reactions
IsClassKinded kinds _ = Unit {0}

pub record IsObjectKinded (kinds : Kinds) (o : ObjectRecord) : Type 0 where
  pub class : IsClassKinded kinds o.class
  pub prototype : IfObject kinds o.prototype
  pub indexed : ArePropertiesKinded kinds o.indexed
  pub named : ArePropertiesKinded kinds o.named

abbrev pub IfValueKinded : Kinds → Option Value → Type 0
IfValueKinded kinds None = Unit {0}
IfValueKinded kinds (Some v) = IsValueKinded kinds v

abbrev pub IfFunctionKinded : Kinds → Option Value → Type 0
IfFunctionKinded kinds None = Unit {0}
IfFunctionKinded kinds (Some v) = IsFunctionKinded kinds v

abbrev pub IsThingKinded : Kinds → Thing → Type 0
IsThingKinded kinds (AnObject o) = IsObjectKinded kinds o
IsThingKinded kinds (ACell c) = IfValueKinded kinds c.value
IsThingKinded kinds (AMark is_set) = Unit {0}

-- ---- jobs

abbrev pub IsJobKinded : Kinds → Job → Type 0
IsJobKinded kinds (FulfilJob handler derived argument) = IsFunctionKinded kinds handler × IsPromise (kinds derived) × IsValueKinded kinds argument
IsJobKinded kinds (RejectJob handler derived argument) = IsFunctionKinded kinds handler × IsPromise (kinds derived) × IsValueKinded kinds argument
IsJobKinded kinds (ThenableJob promise thenable next) = IsPromise (kinds promise) × IsValueKinded kinds thenable × IsFunctionKinded kinds next

abbrev pub AreJobsKinded : Kinds → List Job → Type 0
AreJobsKinded kinds [] = Unit {0}
AreJobsKinded kinds (job ∷ jobs) = IsJobKinded kinds job × AreJobsKinded kinds jobs

-- ---- worlds

-- the functions of the module `host` stand in cells, every other place of the realm is an object's
abbrev pub IsIntrinsicKinded : Intrinsic → Option Kind → Type 0
IsIntrinsicKinded PrintCell k = IsCell k
IsIntrinsicKinded ReadCell k = IsCell k
IsIntrinsicKinded _ k = IsObject k

pub record IsHeapKinded (kinds : Kinds) (h : Heap) : Type 0 where
  pub things : (n : ℕ) → IfSome (slice_get h.store n) (IsThingKinded kinds)
  pub jobs : AreJobsKinded kinds h.jobs
  pub realm : (i : Intrinsic) → IsIntrinsicKinded i (kinds (get_or h.realm (place_of i) 0))

abbrev pub AreModulesKinded : Kinds → List ModuleState → Type 0
AreModulesKinded kinds [] = Unit {0}
AreModulesKinded kinds (m ∷ ms) = AreAll IsCell kinds (cells_of m) × AreModulesKinded kinds ms

pub record IsWorldKinded (kinds : Kinds) (w : World) : Type 0 where
  pub heap : IsHeapKinded kinds w.heap
  pub rejections : AreAll IsPromise kinds w.rejections
  pub modules : AreModulesKinded kinds w.modules

-- by the kinds of its own things
abbrev pub IsKinded : World → Type 0
IsKinded w = IsWorldKinded (kind_at w.heap.store) w

-- ---- deeds

pub record IsDescriptorKinded (kinds : Kinds) (d : PropertyDescriptor) : Type 0 where
  pub value : IfValueKinded kinds d.value
  pub get : IfFunctionKinded kinds d.get
  pub set : IfFunctionKinded kinds d.set

abbrev pub IsMethodKinded : Kinds → Method → Type 0
IsMethodKinded kinds (DefineOwnProperty key d) = IsDescriptorKinded kinds d
IsMethodKinded kinds (SetPrototypeOf p) = IfObject kinds p
IsMethodKinded kinds _ = Unit {0}

-- what a deed owes; the thing that it changes is of the kind that it changes, or it changes nothing
abbrev pub IsDeedKinded : Kinds → Deed → Type 0
IsDeedKinded kinds (Make t) = IsThingKinded kinds t
IsDeedKinded kinds (Apply n method) = IsMethodKinded kinds method
IsDeedKinded kinds (Attach f p is_home) = IsObject (kinds p)
IsDeedKinded kinds (SetCell n v) = IsValueKinded kinds v
IsDeedKinded kinds (Settle n state) = IsStateKinded kinds state
IsDeedKinded kinds (AddReaction n r) = IsReactionKinded kinds r
IsDeedKinded kinds (Enqueue job) = IsJobKinded kinds job
IsDeedKinded kinds (AddRejection n) = IsPromise (kinds n)
IsDeedKinded kinds _ = Unit {0}

abbrev pub IsReactionAnswerKinded : Kinds → Option Reaction → Type 0
IsReactionAnswerKinded kinds None = Unit {0}
IsReactionAnswerKinded kinds (Some r) = IsReactionKinded kinds r

abbrev pub IsJobAnswerKinded : Kinds → Option Job → Type 0
IsJobAnswerKinded kinds None = Unit {0}
IsJobAnswerKinded kinds (Some job) = IsJobKinded kinds job

-- what it answers
abbrev pub IsAnswerKinded : Kinds → (d : Deed) → Answer d → Type 0
IsAnswerKinded kinds (Make t) n = kinds n ≡ Some (kind_of t)
IsAnswerKinded kinds (TakeReaction n) r = IsReactionAnswerKinded kinds r
IsAnswerKinded kinds Dequeue job = IsJobAnswerKinded kinds job
IsAnswerKinded kinds _ a = Unit {0}

-- ---- questions

abbrev pub IfContentKinded : Kinds → Option Property → Type 0
IfContentKinded kinds None = Unit {0}
IfContentKinded kinds (Some p) = IsContentKinded kinds p.content

abbrev pub IsQuestionKinded : Kinds → Question → Type 0
IsQuestionKinded kinds (TheSetStep key v receiver found) = IsValueKinded kinds v × IsValueKinded kinds receiver × IfContentKinded kinds found
IsQuestionKinded kinds _ = Unit {0}

abbrev pub IsStepKinded : Kinds → SetStep → Type 0
IsStepKinded kinds RefusesSet = Unit {0}
IsStepKinded kinds (CallsSetter f) = IsFunctionKinded kinds f
IsStepKinded kinds (DefinesOn receiver d) = IsObject (kinds receiver) × IsDescriptorKinded kinds d

abbrev pub IsReplyKinded : Kinds → (q : Question) → Reply q → Type 0
IsReplyKinded kinds (TheClass n) c = IsClassKinded kinds c
IsReplyKinded kinds (ThePrototype n) p = IfObject kinds p
IsReplyKinded kinds (TheOwnProperty key n) p = IfContentKinded kinds p
IsReplyKinded kinds (TheCell n) c = IfValueKinded kinds c.value
IsReplyKinded kinds (TheProperty key n) p = IfContentKinded kinds p
IsReplyKinded kinds (TheSetStep key v receiver found) step = IsStepKinded kinds step
IsReplyKinded kinds (TheIntrinsic i) n = IsIntrinsicKinded i (kinds n)
IsReplyKinded kinds _ r = Unit {0}
