-- An input in memory, and what a read makes of it.
use Rattle.std.specs.Prelude.{ℕ, Bool, if◌then◌else◌, is_some, List, [], Option, Some, None}
use Rattle.xs_base.specs.declared.fails.Fail.{Fail}
use Rattle.xs_base.specs.Failing.{counted, counted_if, failing}
use Rattle.xs_base.specs.Line.{next_line}

-- The bytes that are left, the calls that fail, and the counts of calls and of faults.
pub record LinesInMemory : Type 0 where
  pub left : List ℕ
  pub fails : List Fail
  pub calls : ℕ
  pub faults : ℕ

-- A read fails exactly where it is listed.
abbrev pub is_refused : LinesInMemory → Bool
is_refused lines = is_some (failing lines.fails (counted lines.calls))

-- What is left after a line, where there is one.
abbrev pub left_after : Option (List ℕ × List ℕ) → List ℕ
left_after None = []
left_after (Some cut) = cut.1

abbrev pub after_line : LinesInMemory → LinesInMemory
after_line lines = record lines {
  left = if is_refused lines then lines.left else left_after (next_line lines.left);
  calls = counted lines.calls;
  faults = counted_if (is_refused lines) lines.faults;
}
