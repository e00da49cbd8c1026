-- Promise operations and jobs are the same but for the numbers of things.
use Rattle.std.proofs.Common.{◌≡◌, ℕ, zero, suc, Bool, [], refl, Option, Some, None, codes, lit≤}
use Rattle.js_value.specs.Value.{Value, Object}
use Rattle.js_value.specs.Store.{length_name, Reaction, Class, Array, ResolveFunction, RejectFunction}
use Rattle.js_value.specs.Literal.{digits_number}
use Rattle.js_value.specs.Order.{IsOrderly}
use Rattle.js_value.proofs.Profile.{string_tested}
use Rattle.es_ops.specs.Equality.{same_value}
use Rattle.es_ops.specs.Messages.{ResolvedWithItself}
use Rattle.js_value.specs.Job.{Job}
use Rattle.es_ops.specs.Act.{Act, Completion}
use Rattle.es_ops.specs.Jobs.{enqueue_fulfil_job, enqueue_reject_job, enqueue_fulfil_jobs, enqueue_reject_jobs, fulfilled, fulfil_promise, rejected, reject_promise, resolve_with_then, resolve_by_value, resolve_promise, resolving_function, create_resolving_functions, first_call, call_resolve_function, call_reject_function, make_promise, handler_of, then_by_class, perform_promise_then, promise_then, settle_derived, handled, thenable_called, run_job, run_dequeued, run_first_job}
use Rattle.es_ops.specs.Related.{Naming, BothOption, BothNone, BothSome, BothEmpty, BothCons, BothValue, BothUndefined, BothNull, BothBoolean, BothNumber, BothString, BothObject, BothData, BothPending, BothFulfilled, BothRejected, BothReaction, BothClass, BothOrdinary, BothArray, BothScript, BothBuiltIn, BothResolve, BothReject, BothError, BothPromise, BothRecord, BothAnObject, BothAMark, BothJob, BothFulfilJob, BothRejectJob, BothThenableJob, BothCompletion, BothNormal, BothThrow, Related, BothGive, BothTurn, BothAsk, BothDo, Then, IsOneToOne}
use Rattle.es_ops.proofs.Acting.{acting, ask_class, do_enqueue, do_take}
use Rattle.es_ops.proofs.Parts.{cond_related}
use Rattle.es_ops.proofs.ReadsRelated.{make_error_related, is_callable_related, get_related}
use Rattle.es_ops.proofs.WritesRelated.{same_value_related}

-- ---- settling

fulfil_job_related : {R : Naming} {r q : Option Reaction} {v w : Value} {k l : Act} → BothOption (BothReaction R) r q → BothValue R v w → Related R k l → Related R (enqueue_fulfil_job r v k) (enqueue_fulfil_job q w l)
fulfil_job_related BothNone b h = h
fulfil_job_related (BothSome r) b h = do_enqueue (BothFulfilJob r.on_fulfilled r.derived b) h

fulfil_jobs_related : {R : Naming} (n p q : ℕ) {v w : Value} {k l : Act} → R p q → BothValue R v w → Related R k l → Related R (enqueue_fulfil_jobs n p v k) (enqueue_fulfil_jobs n q w l)
fulfil_jobs_related zero p q r b h = h
fulfil_jobs_related (suc n) p q r b h = do_take r (λ x y e. fulfil_job_related e b (fulfil_jobs_related n p q r b h))

reject_job_related : {R : Naming} {r q : Option Reaction} {v w : Value} {k l : Act} → BothOption (BothReaction R) r q → BothValue R v w → Related R k l → Related R (enqueue_reject_job r v k) (enqueue_reject_job q w l)
reject_job_related BothNone b h = h
reject_job_related (BothSome r) b h = do_enqueue (BothRejectJob r.on_rejected r.derived b) h

reject_jobs_related : {R : Naming} (n p q : ℕ) {v w : Value} {k l : Act} → R p q → BothValue R v w → Related R k l → Related R (enqueue_reject_jobs n p v k) (enqueue_reject_jobs n q w l)
reject_jobs_related zero p q r b h = h
reject_jobs_related (suc n) p q r b h = do_take r (λ x y e. reject_job_related e b (reject_jobs_related n p q r b h))

pub fulfilled_related : {R : Naming} (p q : ℕ) (n : Option ℕ) {v w : Value} {k l : Act} → R p q → BothValue R v w → Related R k l → Related R (fulfilled p n v k) (fulfilled q n w l)
fulfilled_related p q None r b h = h
fulfilled_related p q (Some n) r b h = fulfil_jobs_related n p q r b h

pub fulfil_related : {R : Naming} (p q : ℕ) (v w : Value) (k l : Act) → R p q → BothValue R v w → Related R k l → Related R (fulfil_promise p v k) (fulfil_promise q w l)
unfolding fulfil_promise
fulfil_related p q v w k l r b h = search (acting, fulfilled_related)

rejected_related : {R : Naming} (p q : ℕ) (n : Option ℕ) {v w : Value} {k l : Act} → R p q → BothValue R v w → Related R k l → Related R (rejected p n v k) (rejected q n w l)
rejected_related p q None r b h = h
rejected_related p q (Some zero) r b h = search (acting)
rejected_related p q (Some (suc n)) r b h = reject_jobs_related (suc n) p q r b h

pub reject_related : {R : Naming} (p q : ℕ) (v w : Value) (k l : Act) → R p q → BothValue R v w → Related R k l → Related R (reject_promise p v k) (reject_promise q w l)
unfolding reject_promise
reject_related p q v w k l r b h = search (acting, rejected_related)

-- ---- resolving

pub with_then_related : {R : Naming} (p q : ℕ) {v w : Value} {c d : Completion} {k l : Act} → R p q → BothValue R v w → BothCompletion R c d → Related R k l → Related R (resolve_with_then p v c k) (resolve_with_then q w d l)
with_then_related p q r b (BothThrow e) h = search (acting, reject_related)
with_then_related p q r b (BothNormal f) h = search (acting, fulfil_related, is_callable_related)

by_value_related : {R : Naming} (p q : ℕ) {v w : Value} {k l : Act} → R p q → BothValue R v w → Related R k l → Related R (resolve_by_value p v k) (resolve_by_value q w l)
by_value_related p q r (BothObject s) h = search (acting, get_related, with_then_related)
by_value_related p q r BothUndefined h = search (acting, fulfil_related)
by_value_related p q r BothNull h = search (acting, fulfil_related, BothNull)
by_value_related p q r BothBoolean h = search (acting, fulfil_related, BothBoolean)
by_value_related p q r (BothNumber b) h = search (acting, fulfil_related, BothNumber)
by_value_related p q r (BothString b) h = search (acting, fulfil_related, BothString)

pub resolve_related : {R : Naming} → IsOneToOne R → (p q : ℕ) (v w : Value) (k l : Act) → R p q → BothValue R v w → Related R k l → Related R (resolve_promise p v k) (resolve_promise q w l)
unfolding resolve_promise
resolve_related o p q v w k l r b h = rw (same_value_related o b (BothObject r)) (cond_related (same_value w (Object q)) _ _ _ _ (make_error_related ResolvedWithItself _ _ (λ x y e. reject_related _ _ _ _ _ _ r (BothObject e) h)) (by_value_related _ _ r b h))

-- ---- resolving functions

function_orderly : (c : Class) (prototype : ℕ) → ((n : ℕ) (w : Bool) → c ≡ Array n w → ⊥) → IsOrderly (resolving_function c prototype)
unfolding digits_number
function_orderly (Array n w) prototype never = absurd (never n w refl)
function_orderly c prototype never = record { indices = tt; range = tt; length = tt; names = (record { text = string_tested length_name refl; no_index = refl }, (record { text = string_tested (codes "name") refl; no_index = refl }, tt)); distinct = (refl, (refl, tt)); no_length = tt }

function_both : {R : Naming} {c d : Class} {p q : ℕ} → BothClass R c d → R p q → BothRecord R (resolving_function c p) (resolving_function d q)
function_both c r = record { class = c; prototype = BothSome r; extensible = refl; indexed = BothEmpty; named = BothCons (record { key = refl; property = record { content = BothData (BothNumber (record { bound = lit≤ tt })); enumerable = refl; configurable = refl } }) (BothCons (record { key = refl; property = record { content = BothData (BothString (string_tested [] refl)); enumerable = refl; configurable = refl } }) BothEmpty) }

pub create_functions_related : {R : Naming} (p q : ℕ) (k l : (mark resolve reject : ℕ) → Act) → R p q → ((a b c x y z : ℕ) → R a x → R b y → R c z → Related R (k a b c) (l x y z)) → Related R (create_resolving_functions p k) (create_resolving_functions q l)
unfolding create_resolving_functions
create_functions_related p q k l r h =
    BothDo (BothAMark, tt) (λ a x e. BothAsk refl (λ i j s.
    BothDo (BothAnObject (function_both (BothResolve r e) s), function_orderly (ResolveFunction p a) i (λ n w x. cc)) (λ b y f.
    BothDo (BothAnObject (function_both (BothReject r e) s), function_orderly (RejectFunction p a) i (λ n w x. cc)) (λ c z g. h a b c x y z e f g))))

pub first_call_related : {R : Naming} (m n : ℕ) (a b c d : Act) → R m n → Related R a b → Related R c d → Related R (first_call m a c) (first_call n b d)
first_call_related m n a b c d r e o = search (acting)

pub call_resolve_related : {R : Naming} → IsOneToOne R → (p q m n : ℕ) (v w : Value) → R p q → R m n → BothValue R v w → Related R (call_resolve_function p m v) (call_resolve_function q n w)
unfolding call_resolve_function
call_resolve_related o p q m n v w r s b = search (acting, first_call_related, resolve_related)

pub call_reject_related : {R : Naming} (p q m n : ℕ) (v w : Value) → R p q → R m n → BothValue R v w → Related R (call_reject_function p m v) (call_reject_function q n w)
unfolding call_reject_function
call_reject_related p q m n v w r s b = search (acting, first_call_related, reject_related)

-- ---- then

pub make_promise_related : {R : Naming} (k l : ℕ → Act) → Then R R k l → Related R (make_promise k) (make_promise l)
unfolding make_promise
make_promise_related k l h = BothAsk refl (λ p q r. BothDo (BothAnObject (record { class = BothPromise BothPending BothEmpty; prototype = BothSome r; extensible = refl; indexed = BothEmpty; named = BothEmpty }), record { indices = tt; range = tt; length = tt; names = tt; distinct = tt; no_length = tt }) h)

handler_related : {R : Naming} {v w : Value} (k l : Value → Act) → BothValue R v w → Then R (BothValue R) k l → Related R (handler_of v k) (handler_of w l)
handler_related k l b h = search (acting, is_callable_related)

by_class_related : {R : Naming} (p q : ℕ) {c d : Class} {f g r s : Value} {m n : ℕ} {k l : Act} → R p q → BothClass R c d → BothValue R f g → BothValue R r s → R m n → Related R k l → Related R (then_by_class p c f r m k) (then_by_class q d g s n l)
by_class_related p q i (BothPromise BothPending rs) f r m h = search (acting)
by_class_related p q i (BothPromise (BothFulfilled v) rs) f r m h = search (acting)
by_class_related p q i (BothPromise (BothRejected v) rs) f r m h = search (acting)
by_class_related p q i BothOrdinary f r m h = search (acting)
by_class_related p q i BothArray f r m h = search (acting)
by_class_related p q i (BothScript x y) f r m h = search (acting)
by_class_related p q i BothBuiltIn f r m h = search (acting)
by_class_related p q i (BothResolve x y) f r m h = search (acting)
by_class_related p q i (BothReject x y) f r m h = search (acting)
by_class_related p q i BothError f r m h = search (acting)

pub perform_then_related : {R : Naming} (p q : ℕ) (f g r s : Value) (m n : ℕ) (k l : Act) → R p q → BothValue R f g → BothValue R r s → R m n → Related R k l → Related R (perform_promise_then p f r m k) (perform_promise_then q g s n l)
unfolding perform_promise_then
perform_then_related p q f g r s m n k l i a b d h = handler_related _ _ a (λ x y e. handler_related _ _ b (λ z w u. ask_class i (λ c o t. by_class_related _ _ i t e u d h)))

pub promise_then_related : {R : Naming} (p q : ℕ) (f g r s : Value) (k l : ℕ → Act) → R p q → BothValue R f g → BothValue R r s → Then R R k l → Related R (promise_then p f r k) (promise_then q g s l)
unfolding promise_then
promise_then_related p q f g r s k l i a b h = search (acting, make_promise_related, perform_then_related)

-- ---- jobs

derived_related : {R : Naming} → IsOneToOne R → {m n : ℕ} {c d : Completion} → R m n → BothCompletion R c d → Related R (settle_derived m c) (settle_derived n d)
derived_related o r (BothNormal b) = search (acting, resolve_related)
derived_related o r (BothThrow b) = search (acting, reject_related)

pub handled_related : {R : Naming} → IsOneToOne R → {f g : Value} {m n : ℕ} {v w : Value} {c d : Completion} → BothValue R f g → R m n → BothValue R v w → BothCompletion R c d → Related R (handled f m v c) (handled g n w d)
handled_related o BothUndefined r b e = search (acting, derived_related)
handled_related o BothNull r b e = search (acting, derived_related, BothNull)
handled_related o BothBoolean r b e = search (acting, derived_related, BothBoolean)
handled_related o (BothNumber a) r b e = search (acting, derived_related, BothNumber)
handled_related o (BothString a) r b e = search (acting, derived_related, BothString)
handled_related o (BothObject a) r b e = search (acting, derived_related)

thenable_related : {R : Naming} (p q m n : ℕ) {c d : Completion} → R p q → R m n → BothCompletion R c d → Related R (thenable_called p m c) (thenable_called q n d)
thenable_related p q m n r s (BothNormal b) = search (acting)
thenable_related p q m n r s (BothThrow b) = search (acting, call_reject_related)

pub run_job_related : {R : Naming} → IsOneToOne R → (i j : Job) → BothJob R i j → Related R (run_job i) (run_job j)
unfolding run_job
run_job_related o i j (BothFulfilJob f d v) = search (acting, handled_related)
run_job_related o i j (BothRejectJob f d v) = search (acting, handled_related)
run_job_related o i j (BothThenableJob p t f) = search (acting, create_functions_related, thenable_related)

pub run_first_job_related : {R : Naming} → IsOneToOne R → Related R run_first_job run_first_job
unfolding run_first_job
run_first_job_related {R} o = BothTurn (BothDo tt (λ i j e. dequeued i j e))
  where
    dequeued : (i j : Option Job) → BothOption (BothJob R) i j → Related R (run_dequeued i) (run_dequeued j)
    dequeued i j BothNone = BothGive BothUndefined
    dequeued i j (BothSome e) = run_job_related o _ _ e
