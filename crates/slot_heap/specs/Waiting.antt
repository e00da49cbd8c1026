-- The waiting jobs in the words of the definitions.
use Rattle.std.specs.Prelude.{ℕ, ◌==◌, cond, List, get_or, map}
use Rattle.slot_heap.specs.declared.slot.Job.{Job as Low_Job}
use Rattle.slot_heap.specs.declared.slot.Value.{Value as Low_Value}
use Rattle.slot_heap.specs.declared.slot.Value.TheVariants as low
use Rattle.slot_heap.specs.Held.{Held}
use Rattle.slot_heap.specs.Reading.{Reading, value_of, number_by}
use Rattle.slot_heap.specs.Flat.{reading}
use Rattle.js_value.specs.Job.{Job, FulfilJob, RejectJob, ThenableJob}

-- by the kind and the three values
abbrev pub job_by : Reading → (kind : ℕ) → (first second third : Low_Value) → Job
job_by r kind first second third =
    cond (kind == 0) (FulfilJob (value_of r first) (number_by r second) (value_of r third))
    (cond (kind == 1) (RejectJob (value_of r first) (number_by r second) (value_of r third))
    (ThenableJob (number_by r first) (value_of r second) (value_of r third)))

abbrev pub job_of : Reading → Low_Job → Job
job_of r job = job_by r job.kind (get_or job.values 0 low.Undefined) (get_or job.values 1 low.Undefined) (get_or job.values 2 low.Undefined)

-- the oldest first
unfoldable pub jobs_of : Held → List Job
jobs_of h = map (job_of (reading h)) h.jobs.waiting
