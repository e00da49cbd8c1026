-- Two acts that are the same but for the numbers of things, where R says which numbers name the same thing.
use Rattle.std.specs.Prelude.{◌≡◌, ℕ, Bool, ℤ, List, [], ◌∷◌, Option, Some, None, IfSome}
use Rattle.js_value.specs.Number.{IsNumber}
use Rattle.js_value.specs.Value.{Value, Undefined, Null, Boolean, Number, String, Object, Text}
use Rattle.js_value.specs.Store.{Content, Data, Accessor, Property, PromiseState, Pending, Fulfilled, Rejected, Reaction, Class, Ordinary, Array, ScriptFunction, BuiltInFunction, ResolveFunction, RejectFunction, Error, Promise, ObjectRecord, CellRecord, Thing, AnObject, ACell, AMark}
use Rattle.js_value.specs.Order.{IsString, IsKey}
use Rattle.js_value.specs.WellFormed.{IsThingOrderly}
use Rattle.js_value.specs.Job.{Job, FulfilJob, RejectJob, ThenableJob}
use Rattle.es_ops.specs.InternalMethods.{PropertyDescriptor, Method, DefineOwnProperty, Delete, PreventExtensions, SetPrototypeOf, Freeze, SetStep, RefusesSet, CallsSetter, DefinesOn}
use Rattle.es_ops.specs.Events.{Question, Reply, TheClass, ThePrototype, IsExtensible, TheOwnProperty, TheOwnKey, IsOnChain, TheSort, TheCell, TheMark, TheProperty, TheSetStep, TheIntrinsic, TheInput, Deed, Answer, Make, Apply, Attach, SetCell, SetMark, Settle, TakeReaction, AddReaction, Enqueue, Dequeue, AddRejection, RemoveRejection, MakeText, Write, Take}
use Rattle.es_ops.specs.Ledger.{Stop}
use Rattle.es_ops.specs.Act.{Act, Give, Throw, Halt, Turn, Ask, Do, Call, Try, Completion, NormalCompletion, ThrowCompletion}

abbrev pub Naming : Type 1
Naming = ℕ → ℕ → Type 0

-- ---- options and lists

pub data BothOption {A : Type 0} (B : A → A → Type 0) : Option A → Option A → Type 0 where
  BothNone : BothOption B None None
  BothSome : {x y : A} → B x y → BothOption B (Some x) (Some y)

pub data BothList {A : Type 0} (B : A → A → Type 0) : List A → List A → Type 0 where
  BothEmpty : BothList B [] []
  BothCons : {x y : A} {xs ys : List A} → B x y → BothList B xs ys → BothList B (x ∷ xs) (y ∷ ys)

-- ---- values, and what holds them

pub data BothValue (R : Naming) : Value → Value → Type 0 where
  BothUndefined : BothValue R Undefined Undefined
  BothNull : BothValue R Null Null
  BothBoolean : {b : Bool} → BothValue R (Boolean b) (Boolean b)
  BothNumber : {n : ℤ} → IsNumber n → BothValue R (Number n) (Number n)
  BothString : {t : Text} → IsString t → BothValue R (String t) (String t)
  BothObject : {m n : ℕ} → R m n → BothValue R (Object m) (Object n)

pub data BothContent (R : Naming) : Content → Content → Type 0 where
  BothData : {v w : Value} {b : Bool} → BothValue R v w → BothContent R (Data v b) (Data w b)
  BothAccessor : {f g s t : Value} → BothValue R f g → BothValue R s t → BothContent R (Accessor f s) (Accessor g t)

pub record BothProperty (R : Naming) (p q : Property) : Type 0 where
  pub content : BothContent R p.content q.content
  pub enumerable : p.enumerable ≡ q.enumerable
  pub configurable : p.configurable ≡ q.configurable

pub record BothEntry {K : Type 0} (R : Naming) (d e : K × Property) : Type 0 where
  pub key : d.0 ≡ e.0
  pub property : BothProperty R d.1 e.1

pub data BothState (R : Naming) : PromiseState → PromiseState → Type 0 where
  BothPending : BothState R Pending Pending
  BothFulfilled : {v w : Value} → BothValue R v w → BothState R (Fulfilled v) (Fulfilled w)
  BothRejected : {v w : Value} → BothValue R v w → BothState R (Rejected v) (Rejected w)

pub record BothReaction (R : Naming) (r s : Reaction) : Type 0 where
  pub derived : R r.derived s.derived
  pub on_fulfilled : BothValue R r.on_fulfilled s.on_fulfilled
  pub on_rejected : BothValue R r.on_rejected s.on_rejected

pub data BothClass (R : Naming) : Class → Class → Type 0 where
  BothOrdinary : BothClass R Ordinary Ordinary
  BothArray : {n : ℕ} {b : Bool} → BothClass R (Array n b) (Array n b)
  BothScript : {m f : ℕ} {h i : Option ℕ} {cs ds : List ℕ} → BothOption R h i → BothList R cs ds → BothClass R (ScriptFunction m f h cs) (ScriptFunction m f i ds)
  BothBuiltIn : {row : ℕ} → BothClass R (BuiltInFunction row) (BuiltInFunction row)
  BothResolve : {p q m n : ℕ} → R p q → R m n → BothClass R (ResolveFunction p m) (ResolveFunction q n)
  BothReject : {p q m n : ℕ} → R p q → R m n → BothClass R (RejectFunction p m) (RejectFunction q n)
  BothError : BothClass R Error Error
  BothPromise : {s t : PromiseState} {rs qs : List Reaction} → BothState R s t → BothList (BothReaction R) rs qs → BothClass R (Promise s rs) (Promise t qs)

pub record BothRecord (R : Naming) (o p : ObjectRecord) : Type 0 where
  pub class : BothClass R o.class p.class
  pub prototype : BothOption R o.prototype p.prototype
  pub extensible : o.extensible ≡ p.extensible
  pub indexed : BothList (BothEntry R) o.indexed p.indexed
  pub named : BothList (BothEntry R) o.named p.named

pub record BothCellRecord (R : Naming) (c d : CellRecord) : Type 0 where
  pub value : BothOption (BothValue R) c.value d.value
  pub const : c.const ≡ d.const

pub data BothThing (R : Naming) : Thing → Thing → Type 0 where
  BothAnObject : {o p : ObjectRecord} → BothRecord R o p → BothThing R (AnObject o) (AnObject p)
  BothACell : {c d : CellRecord} → BothCellRecord R c d → BothThing R (ACell c) (ACell d)
  BothAMark : {b : Bool} → BothThing R (AMark b) (AMark b)

pub data BothJob (R : Naming) : Job → Job → Type 0 where
  BothFulfilJob : {f g : Value} {d e : ℕ} {v w : Value} → BothValue R f g → R d e → BothValue R v w → BothJob R (FulfilJob f d v) (FulfilJob g e w)
  BothRejectJob : {f g : Value} {d e : ℕ} {v w : Value} → BothValue R f g → R d e → BothValue R v w → BothJob R (RejectJob f d v) (RejectJob g e w)
  BothThenableJob : {p q : ℕ} {t u f g : Value} → R p q → BothValue R t u → BothValue R f g → BothJob R (ThenableJob p t f) (ThenableJob q u g)

pub data BothCompletion (R : Naming) : Completion → Completion → Type 0 where
  BothNormal : {v w : Value} → BothValue R v w → BothCompletion R (NormalCompletion v) (NormalCompletion w)
  BothThrow : {v w : Value} → BothValue R v w → BothCompletion R (ThrowCompletion v) (ThrowCompletion w)

-- ---- questions and deeds

pub record BothDescriptor (R : Naming) (d e : PropertyDescriptor) : Type 0 where
  pub value : BothOption (BothValue R) d.value e.value
  pub writable : d.writable ≡ e.writable
  pub get : BothOption (BothValue R) d.get e.get
  pub set : BothOption (BothValue R) d.set e.set
  pub enumerable : d.enumerable ≡ e.enumerable
  pub configurable : d.configurable ≡ e.configurable

abbrev pub BothMethod : Naming → Method → Method → Type 0
BothMethod R (DefineOwnProperty key d) (DefineOwnProperty other e) = (key ≡ other) × IsKey key × BothDescriptor R d e
BothMethod R (Delete key) (Delete other) = key ≡ other
BothMethod R PreventExtensions PreventExtensions = Unit {0}
BothMethod R (SetPrototypeOf p) (SetPrototypeOf q) = BothOption R p q
BothMethod R Freeze Freeze = Unit {0}
BothMethod R _ _ = ⊥

pub data BothSetStep (R : Naming) : SetStep → SetStep → Type 0 where
  BothRefuses : BothSetStep R RefusesSet RefusesSet
  BothCalls : {f g : Value} → BothValue R f g → BothSetStep R (CallsSetter f) (CallsSetter g)
  BothDefines : {m n : ℕ} {d e : PropertyDescriptor} → R m n → BothDescriptor R d e → BothSetStep R (DefinesOn m d) (DefinesOn n e)

abbrev pub BothQuestion : Naming → Question → Question → Type 0
BothQuestion R (TheClass m) (TheClass n) = R m n
BothQuestion R (ThePrototype m) (ThePrototype n) = R m n
BothQuestion R (IsExtensible m) (IsExtensible n) = R m n
BothQuestion R (TheOwnProperty key m) (TheOwnProperty other n) = (key ≡ other) × R m n
BothQuestion R (TheOwnKey at m) (TheOwnKey place n) = (at ≡ place) × R m n
BothQuestion R (IsOnChain p m) (IsOnChain q n) = R p q × R m n
BothQuestion R (TheCell m) (TheCell n) = R m n
BothQuestion R (TheMark m) (TheMark n) = R m n
BothQuestion R (TheProperty key m) (TheProperty other n) = (key ≡ other) × R m n
BothQuestion R (TheSetStep key v receiver p) (TheSetStep other w taker q) = (key ≡ other) × BothValue R v w × BothValue R receiver taker × BothOption (BothProperty R) p q
BothQuestion R (TheIntrinsic i) (TheIntrinsic j) = i ≡ j
BothQuestion R (TheSort x f) (TheSort y g) = (x ≡ y) × (f ≡ g)
BothQuestion R TheInput TheInput = Unit {0}
BothQuestion R _ _ = ⊥

abbrev pub BothReply : Naming → (q p : Question) → Reply q → Reply p → Type 0
BothReply R (TheClass m) (TheClass n) c d = BothClass R c d
BothReply R (ThePrototype m) (ThePrototype n) p q = BothOption R p q
BothReply R (IsExtensible m) (IsExtensible n) a b = a ≡ b
BothReply R (TheOwnProperty key m) (TheOwnProperty other n) p q = BothOption (BothProperty R) p q
BothReply R (TheOwnKey at m) (TheOwnKey place n) i j = (i ≡ j) × IfSome i IsKey
BothReply R (IsOnChain p m) (IsOnChain q n) a b = a ≡ b
BothReply R (TheCell m) (TheCell n) c d = BothCellRecord R c d
BothReply R (TheMark m) (TheMark n) b c = b ≡ c
BothReply R (TheProperty key m) (TheProperty other n) p q = BothOption (BothProperty R) p q
BothReply R (TheSetStep key v receiver p) (TheSetStep other w taker q) s t = BothSetStep R s t
BothReply R (TheIntrinsic i) (TheIntrinsic j) m n = R m n
BothReply R (TheSort x f) (TheSort y g) a b = a ≡ b
BothReply R TheInput TheInput i j = i ≡ j
BothReply R _ _ r s = ⊥

abbrev pub BothDeed : Naming → Deed → Deed → Type 0
BothDeed R (Make t) (Make u) = BothThing R t u × IsThingOrderly t
BothDeed R (Apply m f) (Apply n g) = R m n × BothMethod R f g
BothDeed R (Attach f p a) (Attach g q b) = R f g × R p q × (a ≡ b)
BothDeed R (SetCell m v) (SetCell n w) = R m n × BothValue R v w
BothDeed R (SetMark m) (SetMark n) = R m n
BothDeed R (Settle m s) (Settle n t) = R m n × BothState R s t
BothDeed R (TakeReaction m) (TakeReaction n) = R m n
BothDeed R (AddReaction m r) (AddReaction n s) = R m n × BothReaction R r s
BothDeed R (Enqueue i) (Enqueue j) = BothJob R i j
BothDeed R Dequeue Dequeue = Unit {0}
BothDeed R (AddRejection m) (AddRejection n) = R m n
BothDeed R (RemoveRejection m) (RemoveRejection n) = R m n
BothDeed R (MakeText m) (MakeText n) = m ≡ n
BothDeed R (Write bytes) (Write others) = bytes ≡ others
BothDeed R (Take line left) (Take other rest) = (line ≡ other) × (left ≡ rest)
BothDeed R _ _ = ⊥

-- what two deeds answer; where they answer no more than that they were done, nothing is to be said
abbrev pub BothAnswer : Naming → (d e : Deed) → Answer d → Answer e → Type 0
BothAnswer R (Make t) (Make u) m n = R m n
BothAnswer R (Apply m f) (Apply n g) a b = a ≡ b
BothAnswer R (Settle m s) (Settle n t) a b = a ≡ b
BothAnswer R (TakeReaction m) (TakeReaction n) a b = BothOption (BothReaction R) a b
BothAnswer R Dequeue Dequeue i j = BothOption (BothJob R) i j
BothAnswer R _ _ a b = Unit {0}

-- ---- acts

pub data Related (R : Naming) : Act → Act → Type 0 where
  BothGive : {v w : Value} → BothValue R v w → Related R (Give v) (Give w)
  BothThrown : {v w : Value} → BothValue R v w → Related R (Throw v) (Throw w)
  BothHalt : {stop : Stop} → Related R (Halt stop) (Halt stop)
  BothTurn : {a b : Act} → Related R a b → Related R (Turn a) (Turn b)
  BothAsk : {q p : Question} {k : Reply q → Act} {l : Reply p → Act} → BothQuestion R q p → ((r : Reply q) (s : Reply p) → BothReply R q p r s → Related R (k r) (l s)) → Related R (Ask q k) (Ask p l)
  BothDo : {d e : Deed} {k : Answer d → Act} {l : Answer e → Act} → BothDeed R d e → ((a : Answer d) (b : Answer e) → BothAnswer R d e a b → Related R (k a) (l b)) → Related R (Do d k) (Do e l)
  BothCall : {f g t u : Value} {vs ws : List Value} {x y : Option Value} {k l : Value → Act} → BothValue R f g → BothValue R t u → BothList (BothValue R) vs ws → BothOption (BothValue R) x y → ((v w : Value) → BothValue R v w → Related R (k v) (l w)) → Related R (Call f t vs x k) (Call g u ws y l)
  BothTry : {f g t u : Value} {vs ws : List Value} {x y : Option Value} {k l : Completion → Act} → BothValue R f g → BothValue R t u → BothList (BothValue R) vs ws → BothOption (BothValue R) x y → ((c d : Completion) → BothCompletion R c d → Related R (k c) (l d)) → Related R (Try f t vs x k) (Try g u ws y l)

-- what comes after
abbrev pub Then : {A : Type 0} → Naming → (A → A → Type 0) → (A → Act) → (A → Act) → Type 0
Then {A} R B k l = (x y : A) → B x y → Related R (k x) (l y)

abbrev pub ThenSame : {A : Type 0} → Naming → (A → Type 0) → (A → Act) → (A → Act) → Type 0
ThenSame {A} R B k l = (x : A) → B x → Related R (k x) (l x)

-- R tells things apart on either side
pub record IsOneToOne (R : Naming) : Type 0 where
  pub forth : (m n o : ℕ) → R m n → R m o → n ≡ o
  pub back : (m n o : ℕ) → R m o → R n o → m ≡ n
