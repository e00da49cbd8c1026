-- What is related stays so where more numbers are.
use Rattle.std.proofs.Common.{ℕ, List, Option}
use Rattle.js_value.specs.Value.{Value}
use Rattle.js_value.specs.Store.{Content, Property, PromiseState, Reaction, Class, Thing}
use Rattle.js_value.specs.Job.{Job}
use Rattle.es_ops.specs.State.{ModuleState}
use Rattle.es_ops.specs.InternalMethods.{SetStep}
use Rattle.es_ops.specs.Act.{Completion}
use Rattle.es_ops.specs.Events.{Question, Reply, TheClass, ThePrototype, IsExtensible, TheOwnProperty, TheOwnKey, IsOnChain, TheSort, TheCell, TheMark, TheProperty, TheSetStep, TheIntrinsic, TheInput, Deed, Answer, Make, Apply, Settle, TakeReaction, Dequeue}
use Rattle.es_ops.specs.Related.{Naming, BothOption, BothNone, BothSome, BothList, BothEmpty, BothCons, BothValue, BothUndefined, BothNull, BothBoolean, BothNumber, BothString, BothObject, BothContent, BothData, BothAccessor, BothProperty, BothEntry, BothState, BothPending, BothFulfilled, BothRejected, BothReaction, BothClass, BothOrdinary, BothArray, BothScript, BothBuiltIn, BothResolve, BothReject, BothError, BothPromise, BothThing, BothAnObject, BothACell, BothAMark, BothJob, BothFulfilJob, BothRejectJob, BothThenableJob, BothSetStep, BothRefuses, BothCalls, BothDefines, BothReply, BothAnswer, BothCompletion, BothNormal, BothThrow}
use Rattle.es_ops.specs.Renaming.{BothModule, BothNotEvaluated, BothSetUp, BothEvaluated, BothPreloaded}

pub option_more : {A : Type 0} (B C : A → A → Type 0) → ((x y : A) → B x y → C x y) → {x y : Option A} → BothOption B x y → BothOption C x y
option_more B C up BothNone = BothNone
option_more B C up (BothSome h) = BothSome (up _ _ h)

pub list_more : {A : Type 0} (B C : A → A → Type 0) → ((x y : A) → B x y → C x y) → {xs ys : List A} → BothList B xs ys → BothList C xs ys
list_more B C up BothEmpty = BothEmpty
list_more B C up (BothCons h hs) = BothCons (up _ _ h) (list_more B C up hs)

module _ (R S : Naming) (up : (m n : ℕ) → R m n → S m n) where
  pub value_more : (v w : Value) → BothValue R v w → BothValue S v w
  value_more v w BothUndefined = BothUndefined
  value_more v w BothNull = BothNull
  value_more v w BothBoolean = BothBoolean
  value_more v w (BothNumber h) = BothNumber h
  value_more v w (BothString h) = BothString h
  value_more v w (BothObject h) = BothObject (up _ _ h)

  content_more : (c d : Content) → BothContent R c d → BothContent S c d
  content_more c d (BothData h) = BothData (value_more _ _ h)
  content_more c d (BothAccessor g s) = BothAccessor (value_more _ _ g) (value_more _ _ s)

  property_more : (p q : Property) → BothProperty R p q → BothProperty S p q
  property_more p q h = record { content = content_more _ _ h.content; enumerable = h.enumerable; configurable = h.configurable }

  entry_more : {K : Type 0} (d e : K × Property) → BothEntry R d e → BothEntry S d e
  entry_more d e h = record { key = h.key; property = property_more _ _ h.property }

  state_more : (s t : PromiseState) → BothState R s t → BothState S s t
  state_more s t BothPending = BothPending
  state_more s t (BothFulfilled h) = BothFulfilled (value_more _ _ h)
  state_more s t (BothRejected h) = BothRejected (value_more _ _ h)

  reaction_more : (r s : Reaction) → BothReaction R r s → BothReaction S r s
  reaction_more r s h = record { derived = up _ _ h.derived; on_fulfilled = value_more _ _ h.on_fulfilled; on_rejected = value_more _ _ h.on_rejected }

  class_more : (c d : Class) → BothClass R c d → BothClass S c d
  class_more c d BothOrdinary = BothOrdinary
  class_more c d BothArray = BothArray
  class_more c d (BothScript h cs) = BothScript (option_more R S up h) (list_more R S up cs)
  class_more c d BothBuiltIn = BothBuiltIn
  class_more c d (BothResolve p m) = BothResolve (up _ _ p) (up _ _ m)
  class_more c d (BothReject p m) = BothReject (up _ _ p) (up _ _ m)
  class_more c d BothError = BothError
  class_more c d (BothPromise s rs) = BothPromise (state_more _ _ s) (list_more (BothReaction R) (BothReaction S) reaction_more rs)

  pub thing_more : (t u : Thing) → BothThing R t u → BothThing S t u
  thing_more t u (BothAnObject h) = BothAnObject (record { class = class_more _ _ h.class; prototype = option_more R S up h.prototype; extensible = h.extensible; indexed = list_more (BothEntry R) (BothEntry S) entry_more h.indexed; named = list_more (BothEntry R) (BothEntry S) entry_more h.named })
  thing_more t u (BothACell h) = BothACell (record { value = option_more (BothValue R) (BothValue S) value_more h.value; const = h.const })
  thing_more t u BothAMark = BothAMark

  pub job_more : (i j : Job) → BothJob R i j → BothJob S i j
  job_more i j (BothFulfilJob f d v) = BothFulfilJob (value_more _ _ f) (up _ _ d) (value_more _ _ v)
  job_more i j (BothRejectJob f d v) = BothRejectJob (value_more _ _ f) (up _ _ d) (value_more _ _ v)
  job_more i j (BothThenableJob p t f) = BothThenableJob (up _ _ p) (value_more _ _ t) (value_more _ _ f)

  pub module_more : (m n : ModuleState) → BothModule R m n → BothModule S m n
  module_more m n BothNotEvaluated = BothNotEvaluated
  module_more m n (BothSetUp h) = BothSetUp (list_more R S up h)
  module_more m n (BothEvaluated h) = BothEvaluated (list_more R S up h)
  module_more m n (BothPreloaded h) = BothPreloaded (list_more R S up h)

  step_more : (s t : SetStep) → BothSetStep R s t → BothSetStep S s t
  step_more s t BothRefuses = BothRefuses
  step_more s t (BothCalls f) = BothCalls (value_more _ _ f)
  step_more s t (BothDefines r d) = BothDefines (up _ _ r) (record { value = option_more (BothValue R) (BothValue S) value_more d.value; writable = d.writable; get = option_more (BothValue R) (BothValue S) value_more d.get; set = option_more (BothValue R) (BothValue S) value_more d.set; enumerable = d.enumerable; configurable = d.configurable })

  pub reply_more : (q p : Question) (r : Reply q) (s : Reply p) → BothReply R q p r s → BothReply S q p r s
  reply_more (TheClass m) (TheClass n) c d h = class_more _ _ h
  reply_more (ThePrototype m) (ThePrototype n) p q h = option_more R S up h
  reply_more (IsExtensible m) (IsExtensible n) a b h = h
  reply_more (TheOwnProperty key m) (TheOwnProperty other n) p q h = option_more (BothProperty R) (BothProperty S) property_more h
  reply_more (TheOwnKey at m) (TheOwnKey place n) i j h = h
  reply_more (IsOnChain p m) (IsOnChain q n) a b h = h
  reply_more (TheCell m) (TheCell n) c d h = record { value = option_more (BothValue R) (BothValue S) value_more h.value; const = h.const }
  reply_more (TheMark m) (TheMark n) b c h = h
  reply_more (TheProperty key m) (TheProperty other n) p q h = option_more (BothProperty R) (BothProperty S) property_more h
  reply_more (TheSetStep key v t p) (TheSetStep other w u q) r s h = step_more _ _ h
  reply_more (TheIntrinsic i) (TheIntrinsic j) m n h = up _ _ h
  reply_more (TheSort x f) (TheSort y g) a b h = h
  reply_more TheInput TheInput i j h = h
  reply_more _ _ r s h = absurd h

  pub answer_more : (d e : Deed) (a : Answer d) (b : Answer e) → BothAnswer R d e a b → BothAnswer S d e a b
  answer_more (Make t) (Make u) m n h = up _ _ h
  answer_more (Apply m f) (Apply n g) a b h = h
  answer_more (Settle m s) (Settle n t) a b h = h
  answer_more (TakeReaction m) (TakeReaction n) a b h = option_more (BothReaction R) (BothReaction S) reaction_more h
  answer_more Dequeue Dequeue i j h = option_more (BothJob R) (BothJob S) job_more h
  answer_more _ _ a b h = tt

  pub completion_more : (c d : Completion) → BothCompletion R c d → BothCompletion S c d
  completion_more c d (BothNormal h) = BothNormal (value_more _ _ h)
  completion_more c d (BothThrow h) = BothThrow (value_more _ _ h)
