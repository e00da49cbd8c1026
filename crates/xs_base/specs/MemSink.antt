-- A sink in memory, and what a write makes of it.
use Rattle.std.specs.Prelude.{◌+◌, ◌++◌, ◌||◌, ℕ, Bool, nat_lt, if◌then◌else◌, is_some, List, [], length, take, Option, Some, None}
use Rattle.xs_base.specs.declared.fails.Fail.{Fail}
use Rattle.xs_base.specs.Failing.{counted, counted_if, failing}

-- The bytes received, how many it has room for, the calls that fail, and the counts of calls and of faults.
pub record SinkInMemory : Type 0 where
  pub written : List ℕ
  pub room : ℕ
  pub fails : List Fail
  pub calls : ℕ
  pub faults : ℕ

-- A write would pass the room.
abbrev pub passes_room : SinkInMemory → List ℕ → Bool
passes_room sink bytes = nat_lt sink.room (length sink.written + length bytes)

-- The entry for the next call, where it is listed.
abbrev pub next_fail : SinkInMemory → Option Fail
next_fail sink = failing sink.fails (counted sink.calls)

-- A write fails exactly where it would pass the room or is listed.
abbrev pub is_refused : SinkInMemory → List ℕ → Bool
is_refused sink bytes = passes_room sink bytes || is_some (next_fail sink)

-- What stands of a write that is listed or isn't.
abbrev pub standing : Option Fail → List ℕ → List ℕ
standing None bytes = bytes
standing (Some fail) bytes = front_of fail.stands bytes
  where
    front_of : Option ℕ → List ℕ → List ℕ
    front_of None all = []
    front_of (Some count) all = take count all

-- What is received of a write: nothing of one that would pass the room, also where it is listed.
abbrev pub received : SinkInMemory → List ℕ → List ℕ
received sink bytes = if passes_room sink bytes then [] else standing (next_fail sink) bytes

abbrev pub after_write : SinkInMemory → List ℕ → SinkInMemory
after_write sink bytes = record sink {
  written = sink.written ++ received sink bytes;
  calls = counted sink.calls;
  faults = counted_if (is_refused sink bytes) sink.faults;
}
