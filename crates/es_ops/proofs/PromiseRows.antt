-- Promises: resolving with a thenable, with itself, twice; reactions; rejections.
use Rattle.std.proofs.Common.{◌≡◌, ℕ, true, false, List, [], ◌∷◌, refl, Some, None, pos, codes}
use Rattle.js_value.specs.Value.{Undefined, Null, Number, Object}
use Rattle.js_value.specs.Store.{Thing, AnObject, AMark, Promise, PromiseState, Pending, Fulfilled, Rejected, Reaction}
use Rattle.js_value.specs.Job.{FulfilJob, RejectJob, ThenableJob}
use Rattle.es_ops.specs.State.{World, some_slots}
use Rattle.es_ops.specs.Messages.{ResolvedWithItself, text_of_message}
use Rattle.es_ops.specs.Errors.{error_record}
use Rattle.es_ops.specs.Act.{Act, Give, ◌>>=◌, run, Ran}
use Rattle.es_ops.specs.Jobs.{call_resolve_function, call_reject_function, fulfil_promise, reject_promise, promise_then, run_first_job, create_resolving_functions}
use Rattle.es_ops.proofs.Samples.{plain, ordinary, function, runs, world_after, thing_after, computing}

-- 13 is a pending promise, 14 its mark, 15 an object whose `then` is the function 16, 17 a pending promise with a reaction
promise : PromiseState → List Reaction → Thing
promise state reactions = AnObject (record { class = Promise state reactions; prototype = Some 10; extensible = true; indexed = []; named = [] })

reaction : Reaction
reaction = record { derived = 13; on_fulfilled = Object 16; on_rejected = Undefined }

things : List Thing
things = promise Pending [] ∷ AMark false ∷ AnObject (ordinary None ((codes "then", plain (Object 16)) ∷ [])) ∷ AnObject (function 2) ∷ promise Pending (reaction ∷ []) ∷ []

after : Act → World
after p = world_after (runs p things)

-- with a thenable: a job is queued, for four slots, and the promise is still pending
thenable_jobs : (after (call_resolve_function 13 14 (Object 15))).heap.jobs ≡ ThenableJob 13 (Object 15) (Object 16) ∷ []
unfolding computing promise reaction things after
thenable_jobs = refl

thenable_used : (after (call_resolve_function 13 14 (Object 15))).heap.ledger.used ≡ some_slots 4
unfolding computing promise reaction things after
thenable_used = refl

-- its job calls `then`, which throws 9: the promise is rejected and is among the rejections
thenable_run : Act
thenable_run = call_resolve_function 13 14 (Object 15) >>= (λ v. run_first_job)

thenable_rejects : thing_after (runs thenable_run things) 13 ≡ Some (promise (Rejected (Number (pos 9))) [])
unfolding computing promise reaction things thenable_run
thenable_rejects = refl

thenable_rejected : (after thenable_run).rejections ≡ 13 ∷ []
unfolding computing promise reaction things after thenable_run
thenable_rejected = refl

-- the job took a unit of the meter
thenable_meter : Ran → ℕ
thenable_meter (Rattle.es_ops.specs.Act.Ends c s) = s.meter
thenable_meter (Rattle.es_ops.specs.Act.Halts stop s) = s.meter

thenable_units : thenable_meter (runs thenable_run things) ≡ 99
unfolding computing promise reaction things thenable_run thenable_meter
thenable_units = refl

-- with itself: it is rejected with a TypeError
itself : thing_after (runs (call_resolve_function 13 14 (Object 13)) things) 13 ≡ Some (promise (Rejected (Object 18)) [])
unfolding computing promise reaction things
itself = refl

itself_error : thing_after (runs (call_resolve_function 13 14 (Object 13)) things) 18 ≡ Some (AnObject (error_record 6 (text_of_message ResolvedWithItself)))
unfolding computing promise reaction things
itself_error = refl

-- twice: the second call has no effect
twice : Act
twice = call_resolve_function 13 14 (Number (pos 1)) >>= (λ v. call_reject_function 13 14 (Number (pos 2)))

first_counts : thing_after (runs twice things) 13 ≡ Some (promise (Fulfilled (Number (pos 1))) [])
unfolding computing promise reaction things twice
first_counts = refl

-- nor has it one while the promise waits for a thenable: their shared mark is set
waiting : Act
waiting = call_resolve_function 13 14 (Object 15) >>= (λ v. call_reject_function 13 14 (Number (pos 2)) >>= (λ w. call_resolve_function 13 14 (Number (pos 3))))

waiting_things : thing_after (runs waiting things) 13 ∷ thing_after (runs waiting things) 14 ∷ [] ≡ Some (promise Pending []) ∷ Some (AMark true) ∷ []
unfolding computing promise reaction things waiting
waiting_things = refl

waiting_jobs : (after waiting).heap.jobs ≡ ThenableJob 13 (Object 15) (Object 16) ∷ []
unfolding computing promise reaction things after waiting
waiting_jobs = refl

waiting_used : (after waiting).heap.ledger.used ≡ some_slots 4
unfolding computing promise reaction things after waiting
waiting_used = refl

-- settling a promise that isn't pending changes nothing and counts nothing
settled_again : Act
settled_again = fulfil_promise 17 Null (Give Null) >>= (λ v. reject_promise 17 Undefined (Give Null))

settled_once : (after settled_again).heap.jobs ≡ FulfilJob (Object 16) 13 Null ∷ []
unfolding computing promise reaction things after settled_again
settled_once = refl

settled_used : (after settled_again).heap.ledger.used ≡ some_slots 4
unfolding computing promise reaction things after settled_again
settled_used = refl

settled_rejections : (after settled_again).rejections ≡ []
unfolding computing promise reaction things after settled_again
settled_rejections = refl

-- `then` on a rejected promise takes it from the rejections and queues its job
handled_late : Act
handled_late = reject_promise 13 (Number (pos 5)) (promise_then 13 Undefined (Number (pos 1)) (λ derived. Give (Object derived)))

handled_rejections : (after handled_late).rejections ≡ []
unfolding computing promise reaction things after handled_late
handled_rejections = refl

-- a handler that isn't callable is taken as undefined, and passes the reason on
handled_jobs : (after handled_late).heap.jobs ≡ RejectJob Undefined 18 (Number (pos 5)) ∷ []
unfolding computing promise reaction things after handled_late
handled_jobs = refl

passed_on : thing_after (runs (handled_late >>= (λ v. run_first_job)) things) 18 ≡ Some (promise (Rejected (Number (pos 5))) [])
unfolding computing promise reaction things handled_late
passed_on = refl

-- a reaction's derived promise is two slots, a reaction three
then_used : (after (promise_then 13 (Object 16) Undefined (λ derived. Give (Object derived)))).heap.ledger.used ≡ some_slots 5
unfolding computing promise reaction things after
then_used = refl

-- a mark and two functions with two properties each
functions_used : (after (create_resolving_functions 13 (λ mark resolve reject. Give Null))).heap.ledger.used ≡ some_slots 13
unfolding computing promise reaction things after
functions_used = refl
