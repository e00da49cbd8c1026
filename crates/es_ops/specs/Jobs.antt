-- Promises and their jobs (ECMA-262 27.2).
use Rattle.std.specs.Prelude.{ℕ, zero, suc, true, false, cond, [], ◌∷◌, pos, Option, Some, None, codes}
use Rattle.js_value.specs.Value.{Value, Undefined, Number, String, Object, Named}
use Rattle.js_value.specs.Store.{AnObject, AMark, ObjectRecord, Class, ResolveFunction, RejectFunction, Promise, Pending, Fulfilled, Rejected, Reaction, Property, Data, length_name}
use Rattle.es_ops.specs.Equality.{same_value}
use Rattle.js_value.specs.Job.{Job, FulfilJob, RejectJob, ThenableJob}
use Rattle.es_ops.specs.Messages.{ResolvedWithItself}
use Rattle.es_ops.specs.Intrinsics.{FunctionPrototype, PromisePrototype}
use Rattle.es_ops.specs.Events.{TakeReaction, TheClass, TheMark, TheIntrinsic, Make, SetMark, Settle, AddReaction, Enqueue, Dequeue, AddRejection, RemoveRejection}
use Rattle.es_ops.specs.Act.{Act, Give, Turn, Ask, Do, Try, Completion, NormalCompletion, ThrowCompletion, completed}
use Rattle.es_ops.specs.Errors.{make_error}
use Rattle.es_ops.specs.PropertyReads.{get, is_callable}

-- ---- settling

-- TriggerPromiseReactions (27.2.1.8), of a promise that was fulfilled or rejected
abbrev pub enqueue_fulfil_job : Option Reaction → Value → Act → Act
enqueue_fulfil_job None v k = k
enqueue_fulfil_job (Some r) v k = Do (Enqueue (FulfilJob r.on_fulfilled r.derived v)) (λ _. k)

abbrev pub enqueue_fulfil_jobs : (reactions : ℕ) → (promise : ℕ) → Value → Act → Act
enqueue_fulfil_jobs zero p v k = k
enqueue_fulfil_jobs (suc n) p v k = Do (TakeReaction p) (λ r. enqueue_fulfil_job r v (enqueue_fulfil_jobs n p v k))

abbrev pub enqueue_reject_job : Option Reaction → Value → Act → Act
enqueue_reject_job None reason k = k
enqueue_reject_job (Some r) reason k = Do (Enqueue (RejectJob r.on_rejected r.derived reason)) (λ _. k)

abbrev pub enqueue_reject_jobs : (reactions : ℕ) → (promise : ℕ) → Value → Act → Act
enqueue_reject_jobs zero p reason k = k
enqueue_reject_jobs (suc n) p reason k = Do (TakeReaction p) (λ r. enqueue_reject_job r reason (enqueue_reject_jobs n p reason k))

-- FulfillPromise (27.2.1.4). Own rule: a promise that isn't pending stays as it is.
abbrev pub fulfilled : ℕ → Option ℕ → Value → Act → Act
fulfilled p None v k = k
fulfilled p (Some reactions) v k = enqueue_fulfil_jobs reactions p v k

unfoldable pub fulfil_promise : ℕ → Value → Act → Act
fulfil_promise p v k = Do (Settle p (Fulfilled v)) (λ reactions. fulfilled p reactions v k)

-- RejectPromise (27.2.1.7): with no reaction the promise joins the rejections (27.2.1.9)
abbrev pub rejected : ℕ → Option ℕ → Value → Act → Act
rejected p None reason k = k
rejected p (Some zero) reason k = Do (AddRejection p) (λ _. k)
rejected p (Some (suc n)) reason k = enqueue_reject_jobs (suc n) p reason k

unfoldable pub reject_promise : ℕ → (reason : Value) → Act → Act
reject_promise p reason k = Do (Settle p (Rejected reason)) (λ reactions. rejected p reactions reason k)

-- ---- resolving

-- steps 8 to 15 of a resolve function (27.2.1.3.2), by what reading `then` came to
abbrev pub resolve_with_then : ℕ → (resolution : Value) → Completion → Act → Act
resolve_with_then p resolution (ThrowCompletion e) k = reject_promise p e k  -- 10
resolve_with_then p resolution (NormalCompletion next) k =
    is_callable next (λ callable.
    cond callable (Do (Enqueue (ThenableJob p resolution next)) (λ _. k))  -- 13 to 15
    (fulfil_promise p resolution k))  -- 12

abbrev pub resolve_by_value : ℕ → (resolution : Value) → Act → Act
resolve_by_value p (Object n) k = completed (get n (Named (codes "then")) Give) (λ c. resolve_with_then p (Object n) c k)  -- 9
resolve_by_value p v k = fulfil_promise p v k  -- 8

-- steps 7 to 15
unfoldable pub resolve_promise : ℕ → (resolution : Value) → Act → Act
resolve_promise p resolution k = cond (same_value resolution (Object p))
    (make_error ResolvedWithItself (λ e. reject_promise p (Object e) k))  -- 7
    (resolve_by_value p resolution k)

-- ---- resolving functions (27.2.1.3)

abbrev pub fixed_data : Value → Property
fixed_data v = record { content = Data v false; enumerable = false; configurable = true }

abbrev pub resolving_function : Class → (prototype : ℕ) → ObjectRecord
resolving_function class prototype = record {
  class = class;
  prototype = Some prototype;
  extensible = true;
  indexed = [];
  named = (length_name, fixed_data (Number (pos 1))) ∷ (codes "name", fixed_data (String [])) ∷ [];
}

-- CreateResolvingFunctions: their mark, the resolve function, the reject function
unfoldable pub create_resolving_functions : ℕ → ((mark resolve reject : ℕ) → Act) → Act
create_resolving_functions p k =
    Do (Make (AMark false)) (λ mark.
    Ask (TheIntrinsic FunctionPrototype) (λ prototype.
    Do (Make (AnObject (resolving_function (ResolveFunction p mark) prototype))) (λ resolve.
    Do (Make (AnObject (resolving_function (RejectFunction p mark) prototype))) (λ reject. k mark resolve reject))))

-- a call of one of them has an effect where none was called before
abbrev pub first_call : (mark : ℕ) → (effect otherwise : Act) → Act
first_call mark effect otherwise = Ask (TheMark mark) (λ is_set. cond is_set otherwise (Do (SetMark mark) (λ _. effect)))

-- Promise Resolve Functions (27.2.1.3.2) and Promise Reject Functions (27.2.1.3.1)
unfoldable pub call_resolve_function : (promise mark : ℕ) → (resolution : Value) → Act
call_resolve_function p mark resolution = first_call mark (resolve_promise p resolution (Give Undefined)) (Give Undefined)

unfoldable pub call_reject_function : (promise mark : ℕ) → (reason : Value) → Act
call_reject_function p mark reason = first_call mark (reject_promise p reason (Give Undefined)) (Give Undefined)

-- ---- then

-- a new promise (27.2.3.1, steps 3 to 7)
abbrev pub promise_record : (prototype : ℕ) → ObjectRecord
promise_record prototype = record { class = Promise Pending []; prototype = Some prototype; extensible = true; indexed = []; named = [] }

unfoldable pub make_promise : (ℕ → Act) → Act
make_promise k = Ask (TheIntrinsic PromisePrototype) (λ prototype. Do (Make (AnObject (promise_record prototype))) k)

-- a handler that isn't callable is taken as undefined (27.2.5.4.1, steps 3 and 5)
abbrev pub handler_of : Value → (Value → Act) → Act
handler_of v k = is_callable v (λ callable. cond callable (k v) (k Undefined))

-- steps 9 to 11, by the promise's state
abbrev pub then_by_class : ℕ → Class → (on_fulfilled on_rejected : Value) → (derived : ℕ) → Act → Act
then_by_class p (Promise Pending reactions) f r derived k = Do (AddReaction p (record { derived = derived; on_fulfilled = f; on_rejected = r })) (λ _. k)
then_by_class p (Promise (Fulfilled v) reactions) f r derived k = Do (Enqueue (FulfilJob f derived v)) (λ _. k)
then_by_class p (Promise (Rejected reason) reactions) f r derived k = Do (RemoveRejection p) (λ _. Do (Enqueue (RejectJob r derived reason)) (λ _. k))
then_by_class p class f r derived k = k

-- PerformPromiseThen (27.2.5.4.1)
unfoldable pub perform_promise_then : ℕ → (on_fulfilled on_rejected : Value) → (derived : ℕ) → Act → Act
perform_promise_then p on_fulfilled on_rejected derived k =
    handler_of on_fulfilled (λ f. handler_of on_rejected (λ r. Ask (TheClass p) (λ class. then_by_class p class f r derived k)))

-- Promise.prototype.then (27.2.5.4) on a promise. Own rule: it makes a plain promise, and reads no constructor.
unfoldable pub promise_then : ℕ → (on_fulfilled on_rejected : Value) → (ℕ → Act) → Act
promise_then p on_fulfilled on_rejected k = make_promise (λ derived. perform_promise_then p on_fulfilled on_rejected derived (k derived))

-- ---- jobs

-- what a handler's call came to settles the derived promise, directly (own)
abbrev pub settle_derived : ℕ → Completion → Act
settle_derived derived (NormalCompletion v) = resolve_promise derived v (Give Undefined)
settle_derived derived (ThrowCompletion e) = reject_promise derived e (Give Undefined)

-- a handler that is undefined passes the value or the reason on (27.2.2.1, steps 1.d and 1.e)
abbrev pub handled : (handler : Value) → (derived : ℕ) → (argument : Value) → Completion → Act
handled Undefined derived argument otherwise = settle_derived derived otherwise
handled handler derived argument otherwise = Try handler Undefined (argument ∷ []) None (settle_derived derived)

-- Where `then` throws, the rejection is done directly (own): the mark is tested and set.
abbrev pub thenable_called : (promise mark : ℕ) → Completion → Act
thenable_called p mark (NormalCompletion v) = Give Undefined
thenable_called p mark (ThrowCompletion e) = call_reject_function p mark e

unfoldable pub run_job : Job → Act
run_job (FulfilJob handler derived v) = handled handler derived v (NormalCompletion v)
run_job (RejectJob handler derived reason) = handled handler derived reason (ThrowCompletion reason)
run_job (ThenableJob p thenable next) = create_resolving_functions p (λ mark resolve reject.
    Try next thenable (Object resolve ∷ Object reject ∷ []) None (thenable_called p mark))

abbrev pub run_dequeued : Option Job → Act
run_dequeued None = Give Undefined
run_dequeued (Some job) = run_job job

-- the first job of the queue, which it leaves; it takes a unit of the meter
unfoldable pub run_first_job : Act
run_first_job = Turn (Do Dequeue run_dequeued)
