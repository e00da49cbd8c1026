-- Which calls of an object in memory fail, and what stands of a write. Calls are counted from 1.
use Rattle.std.specs.Prelude.{◌==◌, ◌+◌, ◌-◌, ◌^◌, ℕ, Bool, if◌then◌else◌, min, List, find, Option}
use Rattle.xs_base.specs.declared.fails.Fail.{Fail}

-- One more, or the last value of a `u64`, at which a count stands still.
abbrev pub counted : ℕ → ℕ
counted count = min (count + 1) (2 ^ 64 - 1)

-- One more where there was a fault.
abbrev pub counted_if : Bool → ℕ → ℕ
counted_if fault count = if fault then counted count else count

-- The first entry for a call, where it is listed.
abbrev pub failing : List Fail → ℕ → Option Fail
failing fails call = find (λ fail. fail.call == call) fails
