-- What a queued job and one that is taken are in the words of the definitions; rows of each kind.
use Rattle.std.proofs.Common.{◌≡◌, ℕ, List, [], ◌∷◌, ◌++◌, map, refl, ap, pos}
use Rattle.js_value.specs.Value.{Undefined, Null, Number}
use Rattle.js_value.specs.Job.{FulfilJob, RejectJob, ThenableJob}
use Rattle.js_value.specs.declared.counts.Room.{Room}
use Rattle.slot_heap.specs.declared.slot.Job.{Job}
use Rattle.slot_heap.specs.declared.slot.Value.TheVariants as low
use Rattle.slot_heap.specs.Held.{Held}
use Rattle.slot_heap.specs.Reading.{Reading, value_of}
use Rattle.slot_heap.specs.Flat.{reading}
use Rattle.slot_heap.specs.Waiting.{job_of, jobs_of}

map_behind : {A B : Type 0} (f : A → B) (xs : List A) (x : A) → map f (xs ++ x ∷ []) ≡ map f xs ++ f x ∷ []
map_behind f [] x = refl
map_behind f (y ∷ xs) x = ap (λ l. f y ∷ l) (map_behind f xs x)

-- a queued job is the last
pub jobs_queued : (h : Held) (job : Job) (used : Room) → jobs_of (record h { jobs = record h.jobs { waiting = h.jobs.waiting ++ job ∷ [] }; used = used }) ≡ jobs_of h ++ job_of (reading h) job ∷ []
unfolding jobs_of reading
jobs_queued h job used = map_behind (job_of (reading h)) h.jobs.waiting job

-- the job that is taken was the first
pub jobs_taken : (h : Held) (job : Job) (rest : List Job) → h.jobs.waiting ≡ job ∷ rest → jobs_of h ≡ job_of (reading h) job ∷ jobs_of (record h { jobs = record h.jobs { waiting = rest } })
unfolding jobs_of reading
jobs_taken h job rest e = ap (λ jobs. map (job_of (reading h)) jobs) e

-- ---- rows: one of each kind

sample : Reading
sample = record { units = []; names = []; heads = [] }

of_kind : ℕ → Job
of_kind kind = record { kind = kind; values = low.Undefined ∷ low.Null ∷ low.Number (pos 7) ∷ [] }

kinds_of_jobs : map (λ kind. job_of sample (of_kind kind)) (0 ∷ 1 ∷ 2 ∷ []) ≡ FulfilJob Undefined 0 (Number (pos 7)) ∷ RejectJob Undefined 0 (Number (pos 7)) ∷ ThenableJob 0 Null (Number (pos 7)) ∷ []
unfolding sample of_kind value_of
kinds_of_jobs = refl
