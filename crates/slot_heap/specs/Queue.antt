-- The jobs that wait.
use Rattle.std.specs.Prelude.{ℕ, List}
use Rattle.slot_heap.specs.declared.slot.Job.{Job}

-- the oldest first, and how many there is room for
pub record Queue : Type 0 where
  pub waiting : List Job
  pub reserved : ℕ
