-- What is related to itself over the things below m holds only values of the profile and of things below m, and the other
-- way round.
use Rattle.std.proofs.Common.{ℕ, ◌<◌, ◌≤◌, List, [], ◌∷◌, arith, refl, Option, Some, None, IfSome}
use Rattle.js_value.specs.Value.{Value, Undefined, Null, Boolean, Number, String, Object}
use Rattle.js_value.specs.Store.{Content, Data, Accessor, Property, PromiseState, Pending, Fulfilled, Rejected, Reaction, Class, Ordinary, Array, ScriptFunction, BuiltInFunction, ResolveFunction, RejectFunction, Error, Promise, ObjectRecord, Thing}
use Rattle.js_value.specs.WellFormed.{IsValueBelow, IfValueBelow, IfNumberBelow, AreNumbersBelow, AreValuesBelow, IsContentBelow, ArePropertiesBelow, IsStateBelow, IsReactionBelow, AreReactionsBelow, IsClassBelow, IsObjectBelow, IsThingBelow}
use Rattle.js_value.specs.Job.{Job, FulfilJob, RejectJob, ThenableJob}
use Rattle.es_ops.specs.InternalMethods.{PropertyDescriptor, Method, DefineOwnProperty, Delete, PreventExtensions, SetPrototypeOf, Freeze, SetStep, RefusesSet, CallsSetter, DefinesOn}
use Rattle.es_ops.specs.Events.{Question, Reply, TheClass, ThePrototype, IsExtensible, TheOwnProperty, TheOwnKey, IsOnChain, TheSort, TheCell, TheMark, TheProperty, TheSetStep, TheIntrinsic, TheInput, Deed, Answer, Make, Apply, Attach, SetCell, SetMark, Settle, TakeReaction, AddReaction, Enqueue, Dequeue, AddRejection, RemoveRejection, MakeText, Write, Take}
use Rattle.es_ops.specs.Act.{Completion, NormalCompletion, ThrowCompletion}
use Rattle.es_ops.specs.Laws.{IsDescriptorBelow, IsMethodBelow, IsJobBelow, IsDeedBelow, IsStepBelow, IsReplyBelow, IsQuestionBelow, IsAnswerBelow, IsCompletionBelow}
use Rattle.es_ops.specs.Related.{Naming, BothOption, BothNone, BothSome, BothList, BothEmpty, BothCons, BothValue, BothUndefined, BothNull, BothBoolean, BothNumber, BothString, BothObject, BothContent, BothData, BothAccessor, BothProperty, BothEntry, BothState, BothPending, BothFulfilled, BothRejected, BothReaction, BothClass, BothOrdinary, BothArray, BothScript, BothBuiltIn, BothResolve, BothReject, BothError, BothPromise, BothRecord, BothThing, BothAnObject, BothACell, BothAMark, BothJob, BothFulfilJob, BothRejectJob, BothThenableJob, BothCompletion, BothNormal, BothThrow, BothDescriptor, BothMethod, BothSetStep, BothRefuses, BothCalls, BothDefines, BothQuestion, BothReply, BothDeed, BothAnswer}
use Rattle.es_ops.specs.Standing.{Below}

-- ---- what is related over the things below m holds only things below m

module _ (R : Naming) (m : ℕ) (left : (a b : ℕ) → R a b → a < m) where
  pub value_left : (v w : Value) → BothValue R v w → IsValueBelow m v
  value_left v w BothUndefined = tt
  value_left v w BothNull = tt
  value_left v w BothBoolean = tt
  value_left v w (BothNumber h) = h
  value_left v w (BothString h) = h
  value_left v w (BothObject h) = left _ _ h

  pub if_value_left : (v w : Option Value) → BothOption (BothValue R) v w → IfValueBelow m v
  if_value_left v w BothNone = tt
  if_value_left v w (BothSome h) = value_left _ _ h

  if_number_left : (v w : Option ℕ) → BothOption R v w → IfNumberBelow m v
  if_number_left v w BothNone = tt
  if_number_left v w (BothSome h) = left _ _ h

  pub values_left : (vs ws : List Value) → BothList (BothValue R) vs ws → AreValuesBelow m vs
  values_left vs ws BothEmpty = tt
  values_left vs ws (BothCons h hs) = (value_left _ _ h, values_left _ _ hs)

  numbers_left : (vs ws : List ℕ) → BothList R vs ws → AreNumbersBelow m vs
  numbers_left vs ws BothEmpty = tt
  numbers_left vs ws (BothCons h hs) = (left _ _ h, numbers_left _ _ hs)

  content_left : (c d : Content) → BothContent R c d → IsContentBelow m c
  content_left c d (BothData h) = value_left _ _ h
  content_left c d (BothAccessor g s) = (value_left _ _ g, value_left _ _ s)

  pub if_property_left : (p q : Option Property) → BothOption (BothProperty R) p q → IfSome p (λ x. IsContentBelow m x.content)
  if_property_left p q BothNone = tt
  if_property_left p q (BothSome h) = content_left _ _ h.content

  entries_left : {K : Type 0} (es ds : List (K × Property)) → BothList (BothEntry R) es ds → ArePropertiesBelow m es
  entries_left es ds BothEmpty = tt
  entries_left es ds (BothCons h hs) = (content_left _ _ h.property.content, entries_left _ _ hs)

  state_left : (s t : PromiseState) → BothState R s t → IsStateBelow m s
  state_left s t BothPending = tt
  state_left s t (BothFulfilled h) = value_left _ _ h
  state_left s t (BothRejected h) = value_left _ _ h

  reaction_left : (r s : Reaction) → BothReaction R r s → IsReactionBelow m r
  reaction_left r s h = record { derived = left _ _ h.derived; on_fulfilled = value_left _ _ h.on_fulfilled; on_rejected = value_left _ _ h.on_rejected }

  reactions_left : (rs ss : List Reaction) → BothList (BothReaction R) rs ss → AreReactionsBelow m rs
  reactions_left rs ss BothEmpty = tt
  reactions_left rs ss (BothCons h hs) = (reaction_left _ _ h, reactions_left _ _ hs)

  class_left : (c d : Class) → BothClass R c d → IsClassBelow m c
  class_left c d BothOrdinary = tt
  class_left c d BothArray = tt
  class_left c d (BothScript h cs) = (if_number_left _ _ h, numbers_left _ _ cs)
  class_left c d BothBuiltIn = tt
  class_left c d (BothResolve p n) = (left _ _ p, left _ _ n)
  class_left c d (BothReject p n) = (left _ _ p, left _ _ n)
  class_left c d BothError = tt
  class_left c d (BothPromise s rs) = (state_left _ _ s, reactions_left _ _ rs)

  pub record_left : (o p : ObjectRecord) → BothRecord R o p → IsObjectBelow m o
  record_left o p h = record { class = class_left _ _ h.class; prototype = if_number_left _ _ h.prototype; indexed = entries_left _ _ h.indexed; named = entries_left _ _ h.named }

  thing_left : (t u : Thing) → BothThing R t u → IsThingBelow m t
  thing_left t u (BothAnObject h) = record_left _ _ h
  thing_left t u (BothACell h) = if_value_left _ _ h.value
  thing_left t u BothAMark = tt

  job_left : (i j : Job) → BothJob R i j → IsJobBelow m i
  job_left i j (BothFulfilJob f d v) = (value_left _ _ f, left _ _ d, value_left _ _ v)
  job_left i j (BothRejectJob f d v) = (value_left _ _ f, left _ _ d, value_left _ _ v)
  job_left i j (BothThenableJob p t f) = (left _ _ p, value_left _ _ t, value_left _ _ f)

  method_left : (f g : Method) → BothMethod R f g → IsMethodBelow m f
  method_left (DefineOwnProperty key d) (DefineOwnProperty other e) h = (h.1, record { value = if_value_left _ _ h.2.value; get = if_value_left _ _ h.2.get; set = if_value_left _ _ h.2.set })
  method_left (Delete key) (Delete other) h = tt
  method_left PreventExtensions PreventExtensions h = tt
  method_left (SetPrototypeOf p) (SetPrototypeOf q) h = if_number_left _ _ h
  method_left Freeze Freeze h = tt
  method_left _ _ h = absurd h

  pub question_left : (q p : Question) → BothQuestion R q p → IsQuestionBelow m q
  question_left (TheSetStep key v receiver p) (TheSetStep other w taker q) h = (value_left _ _ h.1, value_left _ _ h.2, if_property_left _ _ h.3)
  question_left (TheClass n) (TheClass k) h = tt
  question_left (ThePrototype n) (ThePrototype k) h = tt
  question_left (IsExtensible n) (IsExtensible k) h = tt
  question_left (TheOwnProperty key n) (TheOwnProperty other k) h = tt
  question_left (TheOwnKey at n) (TheOwnKey place k) h = tt
  question_left (IsOnChain p n) (IsOnChain q k) h = tt
  question_left (TheCell n) (TheCell k) h = tt
  question_left (TheMark n) (TheMark k) h = tt
  question_left (TheProperty key n) (TheProperty other k) h = tt
  question_left (TheIntrinsic i) (TheIntrinsic j) h = tt
  question_left (TheSort x f) (TheSort y g) h = tt
  question_left TheInput TheInput h = tt
  question_left _ _ h = absurd h

  pub deed_left : (d e : Deed) → BothDeed R d e → IsDeedBelow m d
  deed_left (Make t) (Make u) h = (thing_left _ _ h.0, h.1)
  deed_left (Apply n f) (Apply k g) h = method_left f g h.1
  deed_left (Attach f p a) (Attach g q b) h = left _ _ h.1
  deed_left (SetCell n v) (SetCell k w) h = value_left _ _ h.1
  deed_left (SetMark n) (SetMark k) h = tt
  deed_left (Settle n s) (Settle k t) h = state_left _ _ h.1
  deed_left (TakeReaction n) (TakeReaction k) h = tt
  deed_left (AddReaction n r) (AddReaction k s) h = reaction_left _ _ h.1
  deed_left (Enqueue j) (Enqueue i) h = job_left _ _ h
  deed_left Dequeue Dequeue h = tt
  deed_left (AddRejection n) (AddRejection k) h = left _ _ h
  deed_left (RemoveRejection n) (RemoveRejection k) h = tt
  deed_left (MakeText n) (MakeText k) h = tt
  deed_left (Write bytes) (Write others) h = tt
  deed_left (Take line rest) (Take other more) h = tt
  deed_left _ _ h = absurd h

-- ---- what holds only things below n is related to itself over the things below any m past it

module _ (n m : ℕ) (le : n ≤ m) where
  thing_both : (k : ℕ) → k < n → Below m k k
  thing_both k h = (refl, omega (arith, le))

  pub value_both : (v : Value) → IsValueBelow n v → BothValue (Below m) v v
  value_both Undefined h = BothUndefined
  value_both Null h = BothNull
  value_both (Boolean b) h = BothBoolean
  value_both (Number x) h = BothNumber h
  value_both (String t) h = BothString h
  value_both (Object k) h = BothObject (thing_both k h)

  pub if_value_both : (v : Option Value) → IfValueBelow n v → BothOption (BothValue (Below m)) v v
  if_value_both None h = BothNone
  if_value_both (Some v) h = BothSome (value_both v h)

  if_number_both : (v : Option ℕ) → IfNumberBelow n v → BothOption (Below m) v v
  if_number_both None h = BothNone
  if_number_both (Some k) h = BothSome (thing_both k h)

  numbers_both : (ks : List ℕ) → AreNumbersBelow n ks → BothList (Below m) ks ks
  numbers_both [] h = BothEmpty
  numbers_both (k ∷ ks) h = BothCons (thing_both k h.0) (numbers_both ks h.1)

  content_both : (c : Content) → IsContentBelow n c → BothContent (Below m) c c
  content_both (Data v w) h = BothData (value_both v h)
  content_both (Accessor g s) h = BothAccessor (value_both g h.0) (value_both s h.1)

  pub property_both : (p : Property) → IsContentBelow n p.content → BothProperty (Below m) p p
  property_both p h = record { content = content_both p.content h; enumerable = refl; configurable = refl }

  entries_both : {K : Type 0} (es : List (K × Property)) → ArePropertiesBelow n es → BothList (BothEntry (Below m)) es es
  entries_both [] h = BothEmpty
  entries_both (e ∷ es) h = BothCons (record { key = refl; property = property_both e.1 h.0 }) (entries_both es h.1)

  state_both : (s : PromiseState) → IsStateBelow n s → BothState (Below m) s s
  state_both Pending h = BothPending
  state_both (Fulfilled v) h = BothFulfilled (value_both v h)
  state_both (Rejected v) h = BothRejected (value_both v h)

  reaction_both : (r : Reaction) → IsReactionBelow n r → BothReaction (Below m) r r
  reaction_both r h = record { derived = thing_both r.derived h.derived; on_fulfilled = value_both r.on_fulfilled h.on_fulfilled; on_rejected = value_both r.on_rejected h.on_rejected }

  reactions_both : (rs : List Reaction) → AreReactionsBelow n rs → BothList (BothReaction (Below m)) rs rs
  reactions_both [] h = BothEmpty
  reactions_both (r ∷ rs) h = BothCons (reaction_both r h.0) (reactions_both rs h.1)

  class_both : (c : Class) → IsClassBelow n c → BothClass (Below m) c c
  class_both Ordinary h = BothOrdinary
  class_both (Array k b) h = BothArray
  class_both (ScriptFunction x y home cs) h = BothScript (if_number_both home h.0) (numbers_both cs h.1)
  class_both (BuiltInFunction row) h = BothBuiltIn
  class_both (ResolveFunction p k) h = BothResolve (thing_both p h.0) (thing_both k h.1)
  class_both (RejectFunction p k) h = BothReject (thing_both p h.0) (thing_both k h.1)
  class_both Error h = BothError
  class_both (Promise s rs) h = BothPromise (state_both s h.0) (reactions_both rs h.1)

  pub record_both : (o : ObjectRecord) → IsObjectBelow n o → BothRecord (Below m) o o
  record_both o h = record { class = class_both o.class h.class; prototype = if_number_both o.prototype h.prototype; extensible = refl; indexed = entries_both o.indexed h.indexed; named = entries_both o.named h.named }

  job_both : (j : Job) → IsJobBelow n j → BothJob (Below m) j j
  job_both (FulfilJob f d v) h = BothFulfilJob (value_both f h.0) (thing_both d h.1) (value_both v h.2)
  job_both (RejectJob f d v) h = BothRejectJob (value_both f h.0) (thing_both d h.1) (value_both v h.2)
  job_both (ThenableJob p t f) h = BothThenableJob (thing_both p h.0) (value_both t h.1) (value_both f h.2)

  pub descriptor_both : (d : PropertyDescriptor) → IsDescriptorBelow n d → BothDescriptor (Below m) d d
  descriptor_both d h = record { value = if_value_both d.value h.value; writable = refl; get = if_value_both d.get h.get; set = if_value_both d.set h.set; enumerable = refl; configurable = refl }

  step_both : (s : SetStep) → IsStepBelow n s → BothSetStep (Below m) s s
  step_both RefusesSet h = BothRefuses
  step_both (CallsSetter f) h = BothCalls (value_both f h)
  step_both (DefinesOn k d) h = BothDefines (thing_both k h.0) (record { value = if_value_both d.value h.1.value; writable = refl; get = if_value_both d.get h.1.get; set = if_value_both d.set h.1.set; enumerable = refl; configurable = refl })

  pub reply_both : (q : Question) (r : Reply q) → IsReplyBelow n q r → BothReply (Below m) q q r r
  reply_both (TheClass k) c h = class_both c h
  reply_both (ThePrototype k) p h = if_number_both p h
  reply_both (IsExtensible k) b h = refl
  reply_both (TheOwnProperty key k) None h = BothNone
  reply_both (TheOwnProperty key k) (Some p) h = BothSome (property_both p h)
  reply_both (TheOwnKey place k) key h = (refl, h)
  reply_both (IsOnChain p k) b h = refl
  reply_both (TheCell k) c h = record { value = if_value_both c.value h; const = refl }
  reply_both (TheMark k) b h = refl
  reply_both (TheProperty key k) None h = BothNone
  reply_both (TheProperty key k) (Some p) h = BothSome (property_both p h)
  reply_both (TheSetStep key v receiver p) s h = step_both s h
  reply_both (TheIntrinsic i) k h = thing_both k h
  reply_both (TheSort x f) sort h = refl
  reply_both TheInput i h = refl

  pub answer_both : (d : Deed) (a : Answer d) → IsAnswerBelow n d a → BothAnswer (Below m) d d a a
  answer_both (Make t) k h = thing_both k h
  answer_both (Apply k f) b h = refl
  answer_both (Settle k s) n h = refl
  answer_both (TakeReaction k) None h = BothNone
  answer_both (TakeReaction k) (Some r) h = BothSome (reaction_both r h)
  answer_both Dequeue None h = BothNone
  answer_both Dequeue (Some j) h = BothSome (job_both j h)
  answer_both (Attach f p b) a h = tt
  answer_both (SetCell k v) a h = tt
  answer_both (SetMark k) a h = tt
  answer_both (AddReaction k r) a h = tt
  answer_both (Enqueue j) a h = tt
  answer_both (AddRejection k) a h = tt
  answer_both (RemoveRejection k) a h = tt
  answer_both (MakeText k) a h = tt
  answer_both (Write bytes) a h = tt
  answer_both (Take line left) a h = tt

  pub completion_both : (c : Completion) → IsCompletionBelow n c → BothCompletion (Below m) c c
  completion_both (NormalCompletion v) h = BothNormal (value_both v h)
  completion_both (ThrowCompletion v) h = BothThrow (value_both v h)
