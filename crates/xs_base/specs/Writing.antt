-- A sink over a writer of std.
use Rattle.std.specs.Prelude.{ℕ, List, Option}

-- The bytes that the writer holds, where it tells them, and the count of faults.
pub record SinkOverWriter : Type 0 where
  pub written : Option (List ℕ)
  pub faults : ℕ
