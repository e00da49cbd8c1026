-- What the laws of acts are stated in.
use Rattle.std.specs.Prelude.{◌≡◌, ℕ, suc, ◌≤◌, ◌<◌, Bool, false, ◌==◌, List, [], ◌∷◌, ◌++◌, length, IfSome, Option, Some, None}
use Rattle.std.specs.List.{list_any}
use Rattle.js_value.specs.Value.{Value, Text, same_text}
use Rattle.js_value.specs.Store.{Reaction}
use Rattle.js_value.specs.Order.{IsKey}
use Rattle.js_value.specs.WellFormed.{IsValueBelow, IfValueBelow, IfNumberBelow, AreNumbersBelow, AreValuesBelow, IsContentBelow, IsStateBelow, IsReactionBelow, IsClassBelow, IsThingBelow, IsThingOrderly, IsWellFormed}
use Rattle.js_value.specs.Job.{Job, FulfilJob, RejectJob, ThenableJob}
use Rattle.es_ops.specs.State.{Ledger, Heap, World, State, ModuleState, cells_of}
use Rattle.es_ops.specs.Ledger.{Event, Happens, Stops, OutOf}
use Rattle.es_ops.specs.InternalMethods.{PropertyDescriptor, Method, DefineOwnProperty, SetPrototypeOf, SetStep, RefusesSet, CallsSetter, DefinesOn}
use Rattle.es_ops.specs.Events.{Question, Reply, TheClass, ThePrototype, IsExtensible, TheOwnProperty, TheOwnKey, IsOnChain, TheSort, TheCell, TheMark, TheProperty, TheSetStep, TheIntrinsic, TheInput, Deed, Answer, Make, Apply, Attach, SetCell, SetMark, Settle, TakeReaction, AddReaction, Enqueue, Dequeue, AddRejection}
use Rattle.es_ops.specs.Act.{Act, Give, Throw, Halt, Turn, Ask, Do, Call, Try, Completion, NormalCompletion, ThrowCompletion, Ran, Ends, Halts, Calls, with_world}

-- ---- two ways of calling that agree

-- what two states may differ in is no part of the world and no unit of the meter
pub record IsHidden (R : State → State → Type 0) : Type 0 where
  pub worlds : (s t : State) → R s t → t.world ≡ s.world
  pub meters : (s t : State) → R s t → t.meter ≡ s.meter
  pub changes : (s t : State) (w : World) → R s t → R (with_world s w) (with_world t w)
  pub spends : (s t : State) (n : ℕ) → s.meter ≡ suc n → R s t → R (record s { meter = n }) (record t { meter = n })

abbrev pub EndAlike : (State → State → Type 0) → Ran → Ran → Type 0
EndAlike R (Ends c s) (Ends d t) = (c ≡ d) × R s t
EndAlike R (Halts x s) (Halts y t) = (x ≡ y) × R s t
EndAlike R _ _ = ⊥

abbrev pub CallAlike : (State → State → Type 0) → Calls → Calls → Type 0
CallAlike R c d = (f this : Value) (arguments : List Value) (target : Option Value) (s t : State) → R s t → EndAlike R (c f this arguments target s) (d f this arguments target t)

-- ---- what no event makes less

abbrev pub AreDistinct : List Text → Type 0
AreDistinct [] = Unit {0}
AreDistinct (t ∷ ts) = (list_any (same_text t) ts ≡ false) × AreDistinct ts

pub record Grows (g h : Heap) : Type 0 where
  pub things : length g.store ≤ length h.store
  pub slots : g.ledger.used.slots ≤ h.ledger.used.slots
  pub units : g.ledger.used.units ≤ h.ledger.used.units
  pub names_used : g.ledger.used.names ≤ h.ledger.used.names
  pub names : (more : List Text) × (h.names ≡ g.names ++ more)
  pub distinct : AreDistinct g.names → AreDistinct h.names
  pub room : h.ledger.room ≡ g.ledger.room
  pub realm : h.realm ≡ g.realm

abbrev pub IfHappens : {W A : Type 0} → Event W A → (A → W → Type 0) → Type 0
IfHappens (Happens a w) P = P a w
IfHappens (Stops full) P = Unit {0}

abbrev pub state_of : Ran → State
state_of (Ends c s) = s
state_of (Halts stop s) = s

-- ---- two ledgers

-- the same but for the ledger
abbrev pub under : Heap → Ledger → Heap
under h l = record h { ledger = l }

abbrev pub IsAlike : World → World → Type 0
IsAlike w v = v ≡ record w { heap = under w.heap v.heap.ledger }

pub record IsAlikeState (s t : State) : Type 0 where
  pub worlds : IsAlike s.world t.world
  pub meter : t.meter ≡ s.meter
  pub depth : t.depth ≡ s.depth

-- where neither is stopped by a limit of its ledger, both end alike
abbrev pub EndAlikeUnlessFull : Ran → Ran → Type 0
EndAlikeUnlessFull (Halts (OutOf full) s) y = Unit {0}
EndAlikeUnlessFull x (Halts (OutOf full) t) = Unit {0}
EndAlikeUnlessFull (Ends c s) (Ends d t) = (c ≡ d) × IsAlikeState s t
EndAlikeUnlessFull (Halts x s) (Halts y t) = (x ≡ y) × IsAlikeState s t
EndAlikeUnlessFull _ _ = ⊥

-- ---- which thing a deed may change

abbrev pub changes : Deed → ℕ → Bool
changes (Apply n m) k = n == k
changes (Attach f p is_home) k = f == k
changes (SetCell n v) k = n == k
changes (SetMark n) k = n == k
changes (Settle n state) k = n == k
changes (TakeReaction n) k = n == k
changes (AddReaction n r) k = n == k
changes _ k = false

-- ---- what holds only values of the profile and of things below m

pub record IsDescriptorBelow (m : ℕ) (d : PropertyDescriptor) : Type 0 where
  pub value : IfValueBelow m d.value
  pub get : IfValueBelow m d.get
  pub set : IfValueBelow m d.set

-- a method's key is a key, too
abbrev pub IsMethodBelow : ℕ → Method → Type 0
IsMethodBelow m (DefineOwnProperty key d) = IsKey key × IsDescriptorBelow m d
IsMethodBelow m (SetPrototypeOf v) = IfNumberBelow m v
IsMethodBelow m _ = Unit {0}

abbrev pub IsJobBelow : ℕ → Job → Type 0
IsJobBelow m (FulfilJob handler derived argument) = IsValueBelow m handler × (derived < m) × IsValueBelow m argument
IsJobBelow m (RejectJob handler derived argument) = IsValueBelow m handler × (derived < m) × IsValueBelow m argument
IsJobBelow m (ThenableJob promise thenable next) = (promise < m) × IsValueBelow m thenable × IsValueBelow m next

abbrev pub AreJobsBelow : ℕ → List Job → Type 0
AreJobsBelow m [] = Unit {0}
AreJobsBelow m (job ∷ jobs) = IsJobBelow m job × AreJobsBelow m jobs

-- the cells of modules' top-level bindings
abbrev pub AreModulesBelow : ℕ → List ModuleState → Type 0
AreModulesBelow m [] = Unit {0}
AreModulesBelow m (s ∷ ss) = AreNumbersBelow m (cells_of s) × AreModulesBelow m ss

-- a thing that is made is in order itself
abbrev pub IsDeedBelow : ℕ → Deed → Type 0
IsDeedBelow m (Make t) = IsThingBelow m t × IsThingOrderly t
IsDeedBelow m (Apply n method) = IsMethodBelow m method
IsDeedBelow m (Attach f p is_home) = p < m
IsDeedBelow m (SetCell n v) = IsValueBelow m v
IsDeedBelow m (Settle n state) = IsStateBelow m state
IsDeedBelow m (AddReaction n r) = IsReactionBelow m r
IsDeedBelow m (Enqueue job) = IsJobBelow m job
IsDeedBelow m (AddRejection n) = n < m
IsDeedBelow m _ = Unit {0}

abbrev pub IsStepBelow : ℕ → SetStep → Type 0
IsStepBelow m RefusesSet = Unit {0}
IsStepBelow m (CallsSetter f) = IsValueBelow m f
IsStepBelow m (DefinesOn r d) = (r < m) × IsDescriptorBelow m d

-- what a question answers
abbrev pub IsReplyBelow : ℕ → (q : Question) → Reply q → Type 0
IsReplyBelow m (TheClass n) c = IsClassBelow m c
IsReplyBelow m (ThePrototype n) p = IfNumberBelow m p
IsReplyBelow m (IsExtensible n) b = Unit {0}
IsReplyBelow m (TheOwnProperty key n) p = IfSome p (λ q. IsContentBelow m q.content)
IsReplyBelow m (TheOwnKey place n) key = IfSome key IsKey
IsReplyBelow m (IsOnChain p n) b = Unit {0}
IsReplyBelow m (TheCell n) c = IfValueBelow m c.value
IsReplyBelow m (TheMark n) b = Unit {0}
IsReplyBelow m (TheProperty key n) p = IfSome p (λ q. IsContentBelow m q.content)
IsReplyBelow m (TheSetStep key v receiver found) step = IsStepBelow m step
IsReplyBelow m (TheIntrinsic i) n = n < m
IsReplyBelow m (TheSort module_number function_number) sort = Unit {0}
IsReplyBelow m TheInput input = Unit {0}

abbrev pub IsQuestionBelow : ℕ → Question → Type 0
IsQuestionBelow m (TheSetStep key v receiver found) = IsValueBelow m v × IsValueBelow m receiver × IfSome found (λ q. IsContentBelow m q.content)
IsQuestionBelow m _ = Unit {0}

abbrev pub IsJobAnswerBelow : ℕ → Option Job → Type 0
IsJobAnswerBelow m None = Unit {0}
IsJobAnswerBelow m (Some job) = IsJobBelow m job

abbrev pub IsReactionAnswerBelow : ℕ → Option Reaction → Type 0
IsReactionAnswerBelow m None = Unit {0}
IsReactionAnswerBelow m (Some r) = IsReactionBelow m r

-- what a deed answers
abbrev pub IsAnswerBelow : ℕ → (d : Deed) → Answer d → Type 0
IsAnswerBelow m (Make t) n = n < m
IsAnswerBelow m (TakeReaction n) reaction = IsReactionAnswerBelow m reaction
IsAnswerBelow m Dequeue job = IsJobAnswerBelow m job
IsAnswerBelow m _ a = Unit {0}

abbrev pub IsCompletionBelow : ℕ → Completion → Type 0
IsCompletionBelow m (NormalCompletion v) = IsValueBelow m v
IsCompletionBelow m (ThrowCompletion v) = IsValueBelow m v

-- An act holds only values of the profile and of things below m, and what it goes on with such of things that stand by
-- then.
abbrev pub IsActBelow : ℕ → Act → Type 0
IsActBelow m (Give v) = IsValueBelow m v
IsActBelow m (Throw v) = IsValueBelow m v
IsActBelow m (Halt stop) = Unit {0}
IsActBelow m (Turn p) = IsActBelow m p
IsActBelow m (Ask q k) = IsQuestionBelow m q × ((n : ℕ) → m ≤ n → (r : Reply q) → IsReplyBelow n q r → IsActBelow n (k r))
IsActBelow m (Do d k) = IsDeedBelow m d × ((n : ℕ) → m ≤ n → (a : Answer d) → IsAnswerBelow n d a → IsActBelow n (k a))
IsActBelow m (Call f this vs target k) = IsValueBelow m f × IsValueBelow m this × AreValuesBelow m vs × IfValueBelow m target × ((n : ℕ) → m ≤ n → (v : Value) → IsValueBelow n v → IsActBelow n (k v))
IsActBelow m (Try f this vs target k) = IsValueBelow m f × IsValueBelow m this × AreValuesBelow m vs × IfValueBelow m target × ((n : ℕ) → m ≤ n → (c : Completion) → IsCompletionBelow n c → IsActBelow n (k c))

-- ---- well-formed worlds: a well-formed store, and all that the world speaks of stands in it

pub record IsHeapWellFormed (h : Heap) : Type 0 where
  pub store : IsWellFormed h.store
  pub jobs : AreJobsBelow (length h.store) h.jobs
  pub realm : AreNumbersBelow (length h.store) h.realm
  pub not_empty : 0 < length h.store

pub record IsWorldWellFormed (w : World) : Type 0 where
  pub heap : IsHeapWellFormed w.heap
  pub rejections : AreNumbersBelow (length w.heap.store) w.rejections
  pub modules : AreModulesBelow (length w.heap.store) w.modules

-- ---- runs

-- a run leaves a well-formed world of no fewer things, and ends with what stands there
abbrev pub IsRanWellFormed : ℕ → Ran → Type 0
IsRanWellFormed m (Ends c s) = IsWorldWellFormed s.world × (m ≤ length s.world.heap.store) × IsCompletionBelow (length s.world.heap.store) c
IsRanWellFormed m (Halts stop s) = IsWorldWellFormed s.world

-- a way of calling does so where the function and its arguments stand
abbrev pub CallsWell : Calls → Type 0
CallsWell calls = (f this : Value) (arguments : List Value) (target : Option Value) (s : State) → IsWorldWellFormed s.world
    → IsValueBelow (length s.world.heap.store) f → IsValueBelow (length s.world.heap.store) this → AreValuesBelow (length s.world.heap.store) arguments → IfValueBelow (length s.world.heap.store) target
    → IsRanWellFormed (length s.world.heap.store) (calls f this arguments target s)

-- ---- limits

pub record IsWithinRoom (l : Ledger) : Type 0 where
  pub slots : l.used.slots ≤ l.room.slots
  pub units : l.used.units ≤ l.room.units
  pub names : l.used.names ≤ l.room.names
