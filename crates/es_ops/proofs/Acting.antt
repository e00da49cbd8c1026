-- A line for each question and deed, in a form that search can read: what both sides share is one variable.
use Rattle.std.proofs.Common.{◌≡◌, ℕ, Bool, refl, sym, IfSome, Option}
use Rattle.js_value.specs.Value.{Value, Key}
use Rattle.js_value.specs.Store.{Class, CellRecord, Property, PromiseState, Reaction, Thing}
use Rattle.js_value.specs.WellFormed.{IsThingOrderly}
use Rattle.js_value.specs.Order.{IsKey}
use Rattle.js_value.specs.Job.{Job}
use Rattle.es_ops.specs.Intrinsics.{Intrinsic}
use Rattle.es_ops.specs.State.{FunctionSort}
use Rattle.es_ops.specs.InternalMethods.{Method, SetStep}
use Rattle.es_ops.specs.Events.{TheClass, ThePrototype, IsExtensible, TheOwnProperty, TheOwnKey, IsOnChain, TheSort, TheCell, TheMark, TheProperty, TheSetStep, TheIntrinsic, Make, Apply, SetCell, SetMark, Settle, TakeReaction, AddReaction, Enqueue, AddRejection, RemoveRejection, MakeText}
use Rattle.es_ops.specs.Act.{Act, Ask, Do}
use Rattle.es_ops.specs.Related.{Naming, BothOption, BothNone, BothSome, BothList, BothEmpty, BothCons, BothValue, BothUndefined, BothObject, BothProperty, BothState, BothFulfilled, BothRejected, BothReaction, BothClass, BothRecord, BothThing, BothACell, BothAMark, BothJob, BothFulfilJob, BothRejectJob, BothThenableJob, BothMethod, BothSetStep, BothNormal, BothThrow, Related, BothGive, BothThrown, BothTurn, BothAsk, BothDo, BothCall, BothTry, Then}
use Rattle.es_ops.proofs.Parts.{bind_related, completed_related, cond_related}

pub ask_class : {R : Naming} {m n : ℕ} {k l : Class → Act} → R m n → ((c d : Class) → BothClass R c d → Related R (k c) (l d)) → Related R (Ask (TheClass m) k) (Ask (TheClass n) l)
ask_class r h = BothAsk r h

pub ask_prototype : {R : Naming} {m n : ℕ} {k l : Option ℕ → Act} → R m n → ((p q : Option ℕ) → BothOption R p q → Related R (k p) (l q)) → Related R (Ask (ThePrototype m) k) (Ask (ThePrototype n) l)
ask_prototype r h = BothAsk r h

pub ask_extensible : {R : Naming} {m n : ℕ} {k l : Bool → Act} → R m n → ((b : Bool) → Related R (k b) (l b)) → Related R (Ask (IsExtensible m) k) (Ask (IsExtensible n) l)
ask_extensible r h = BothAsk r (λ x y e. rw e (h y))

pub ask_own_property : {R : Naming} {m n : ℕ} {key : Key} {k l : Option Property → Act} → R m n → ((p q : Option Property) → BothOption (BothProperty R) p q → Related R (k p) (l q)) → Related R (Ask (TheOwnProperty key m) k) (Ask (TheOwnProperty key n) l)
ask_own_property r h = BothAsk (refl, r) h

pub ask_own_key : {R : Naming} {m n place : ℕ} {k l : Option Key → Act} → R m n → ((key : Option Key) → IfSome key IsKey → Related R (k key) (l key)) → Related R (Ask (TheOwnKey place m) k) (Ask (TheOwnKey place n) l)
ask_own_key {R} {l = l} r h = BothAsk (refl, r) (λ x y e. rw (sym e.0) (h x e.1))

pub ask_chain : {R : Naming} {m n p q : ℕ} {k l : Bool → Act} → R p q → R m n → ((b : Bool) → Related R (k b) (l b)) → Related R (Ask (IsOnChain p m) k) (Ask (IsOnChain q n) l)
ask_chain s r h = BothAsk (s, r) (λ x y e. rw e (h y))

pub ask_sort : {R : Naming} {m f : ℕ} {k l : FunctionSort → Act} → ((sort : FunctionSort) → Related R (k sort) (l sort)) → Related R (Ask (TheSort m f) k) (Ask (TheSort m f) l)
ask_sort h = BothAsk (refl, refl) (λ x y e. rw e (h y))

pub ask_cell : {R : Naming} {c d : ℕ} {k l : CellRecord → Act} → R c d → ((v w : Option Value) (const : Bool) → BothOption (BothValue R) v w → Related R (k (record { value = v; const = const })) (l (record { value = w; const = const }))) → Related R (Ask (TheCell c) k) (Ask (TheCell d) l)
ask_cell {R} {k = k} {l = l} r h = BothAsk r (λ x y e. at x.value y.value x.const y.const e.value e.const)
  where
    at : (v w : Option Value) (a b : Bool) → BothOption (BothValue R) v w → a ≡ b → Related R (k (record { value = v; const = a })) (l (record { value = w; const = b }))
    at v w a b e f = rw f (h v w b e)

pub ask_mark : {R : Naming} {m n : ℕ} {k l : Bool → Act} → R m n → ((b : Bool) → Related R (k b) (l b)) → Related R (Ask (TheMark m) k) (Ask (TheMark n) l)
ask_mark r h = BothAsk r (λ x y e. rw e (h y))

pub ask_property : {R : Naming} {m n : ℕ} {key : Key} {k l : Option Property → Act} → R m n → ((p q : Option Property) → BothOption (BothProperty R) p q → Related R (k p) (l q)) → Related R (Ask (TheProperty key m) k) (Ask (TheProperty key n) l)
ask_property r h = BothAsk (refl, r) h

pub ask_step : {R : Naming} {key : Key} {v w t u : Value} {p q : Option Property} {k l : SetStep → Act} → BothValue R v w → BothValue R t u → BothOption (BothProperty R) p q → ((s z : SetStep) → BothSetStep R s z → Related R (k s) (l z)) → Related R (Ask (TheSetStep key v t p) k) (Ask (TheSetStep key w u q) l)
ask_step v t p h = BothAsk (refl, v, t, p) h

pub ask_intrinsic : {R : Naming} {i : Intrinsic} {k l : ℕ → Act} → Then R R k l → Related R (Ask (TheIntrinsic i) k) (Ask (TheIntrinsic i) l)
ask_intrinsic h = BothAsk refl h

pub do_make : {R : Naming} {t u : Thing} {k l : ℕ → Act} → BothThing R t u → IsThingOrderly t → Then R R k l → Related R (Do (Make t) k) (Do (Make u) l)
do_make h o f = BothDo (h, o) f

pub do_apply : {R : Naming} {m n : ℕ} {f g : Method} {k l : Bool → Act} → R m n → BothMethod R f g → ((b : Bool) → Related R (k b) (l b)) → Related R (Do (Apply m f) k) (Do (Apply n g) l)
do_apply r h f = BothDo (r, h) (λ x y e. rw e (f y))

pub do_cell : {R : Naming} {m n : ℕ} {v w : Value} {k l : Unit {0} → Act} → R m n → BothValue R v w → Related R (k tt) (l tt) → Related R (Do (SetCell m v) k) (Do (SetCell n w) l)
do_cell r h f = BothDo (r, h) (λ a b e. f)

pub do_mark : {R : Naming} {m n : ℕ} {k l : Unit {0} → Act} → R m n → Related R (k tt) (l tt) → Related R (Do (SetMark m) k) (Do (SetMark n) l)
do_mark r f = BothDo r (λ a b e. f)

pub do_settle : {R : Naming} {m n : ℕ} {s t : PromiseState} {k l : Option ℕ → Act} → R m n → BothState R s t → ((x : Option ℕ) → Related R (k x) (l x)) → Related R (Do (Settle m s) k) (Do (Settle n t) l)
do_settle r h f = BothDo (r, h) (λ x y e. rw e (f y))

pub do_take : {R : Naming} {m n : ℕ} {k l : Option Reaction → Act} → R m n → ((x y : Option Reaction) → BothOption (BothReaction R) x y → Related R (k x) (l y)) → Related R (Do (TakeReaction m) k) (Do (TakeReaction n) l)
do_take r f = BothDo r f

pub do_enqueue : {R : Naming} {i j : Job} {k l : Unit {0} → Act} → BothJob R i j → Related R (k tt) (l tt) → Related R (Do (Enqueue i) k) (Do (Enqueue j) l)
do_enqueue h f = BothDo h (λ a b e. f)

pub do_react : {R : Naming} {m n d e : ℕ} {f g x y : Value} {k l : Unit {0} → Act} → R m n → R d e → BothValue R f g → BothValue R x y → Related R (k tt) (l tt) → Related R (Do (AddReaction m (record { derived = d; on_fulfilled = f; on_rejected = x })) k) (Do (AddReaction n (record { derived = e; on_fulfilled = g; on_rejected = y })) l)
do_react r d f x h = BothDo (r, record { derived = d; on_fulfilled = f; on_rejected = x }) (λ a b e. h)

pub do_reject : {R : Naming} {m n : ℕ} {k l : Unit {0} → Act} → R m n → Related R (k tt) (l tt) → Related R (Do (AddRejection m) k) (Do (AddRejection n) l)
do_reject r f = BothDo r (λ a b e. f)

pub do_unreject : {R : Naming} {m n : ℕ} {k l : Unit {0} → Act} → R m n → Related R (k tt) (l tt) → Related R (Do (RemoveRejection m) k) (Do (RemoveRejection n) l)
do_unreject r f = BothDo r (λ a b e. f)

pub do_text : {R : Naming} {n : ℕ} {k l : Unit {0} → Act} → Related R (k tt) (l tt) → Related R (Do (MakeText n) k) (Do (MakeText n) l)
do_text f = BothDo refl (λ a b e. f)

pub ruleset acting = (ask_class, ask_prototype, ask_extensible, ask_own_property, ask_own_key, ask_chain, ask_sort, ask_cell, ask_mark, ask_property, ask_step, ask_intrinsic, do_make, do_apply, do_cell, do_mark, do_settle, do_take, do_enqueue, do_react, do_reject, do_unreject, do_text, cond_related, completed_related, BothGive, BothThrown, BothTurn, BothCall, BothTry, BothUndefined, BothObject, BothNone, BothSome, BothEmpty, BothCons, BothFulfilled, BothRejected, BothFulfilJob, BothRejectJob, BothThenableJob, BothACell, BothAMark, BothNormal, BothThrow)
