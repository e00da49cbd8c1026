-- Worked rows: what the definitions give for values that were found by hand.
use Rattle.std.proofs.Common.{◌≡◌, ◌∙◌, ◌+◌, ℕ, true, false, List, [], ◌∷◌, Option, Some, None, lit≤, refl, ap, arith}
use Rattle.std.specs.Ordering.{nat_cmp}
use Rattle.std.specs.Cmp.Lexicographic.{slice_cmp}
use Rattle.std.specs.FinMap as map
use Rattle.xs_base.specs.declared.fails.Fail.{Fail}
use Rattle.xs_base.specs.declared.files.FileFault.TheVariants.{Absent, Failed}
use Rattle.xs_base.specs.Outside.{Rose}
use Rattle.xs_base.specs.Failing.{counted, failing}
use Rattle.xs_base.specs.Line.{next_line}
use Rattle.xs_base.specs.Held.{Contents, held}
use Rattle.xs_base.specs.Table.{total}
use Rattle.xs_base.specs.MemSink as sink
use Rattle.xs_base.specs.MemLines as lines
use Rattle.xs_base.specs.MemFiles as files
use Rattle.xs_base.proofs.Totals.{total-insert_new, total-insert_old}

-- ---- counts

rose : Rose 4 5
rose = lit≤ tt

rose_last : Rose 18446744073709551615 18446744073709551615
rose_last = lit≤ tt

counted_last : counted 18446744073709551615 ≡ 18446744073709551615
counted_last = refl

-- ---- lines

no_line : next_line [] ≡ None
no_line = refl

empty_line : next_line (10 ∷ 97 ∷ []) ≡ Some ([], 97 ∷ [])
empty_line = refl

one_line : next_line (97 ∷ 98 ∷ 10 ∷ 99 ∷ []) ≡ Some (97 ∷ 98 ∷ [], 99 ∷ [])
one_line = refl

last_line : next_line (97 ∷ 98 ∷ []) ≡ Some (97 ∷ 98 ∷ [], [])
last_line = refl

-- a carriage return is part of the line
return_kept : next_line (97 ∷ 13 ∷ 10 ∷ []) ≡ Some (97 ∷ 13 ∷ [], [])
return_kept = refl

-- ---- listed calls

abbrev fail : ℕ → Option ℕ → Fail
fail call stands = record { call = call; stands = stands }

-- of two entries the first counts
first_entry : failing (fail 2 (Some 1) ∷ fail 3 None ∷ fail 2 None ∷ []) 2 ≡ Some (fail 2 (Some 1))
first_entry = refl

not_listed : failing (fail 2 None ∷ []) 1 ≡ None
not_listed = refl

-- ---- a sink

abbrev some_sink : List Fail → ℕ → sink.SinkInMemory
some_sink fails calls = record { written = 1 ∷ 2 ∷ []; room = 5; fails = fails; calls = calls; faults = 0 }

sink_takes : sink.after_write (some_sink [] 0) (7 ∷ 8 ∷ 9 ∷ []) ≡ record { written = 1 ∷ 2 ∷ 7 ∷ 8 ∷ 9 ∷ []; room = 5; fails = []; calls = 1; faults = 0 }
sink_takes = refl

-- one byte past the room, at a listed call
sink_full : sink.after_write (some_sink (fail 1 (Some 2) ∷ []) 0) (6 ∷ 7 ∷ 8 ∷ 9 ∷ []) ≡ record { written = 1 ∷ 2 ∷ []; room = 5; fails = fail 1 (Some 2) ∷ []; calls = 1; faults = 1 }
sink_full = refl

sink_in_part : sink.after_write (some_sink (fail 4 (Some 2) ∷ []) 3) (7 ∷ 8 ∷ 9 ∷ []) ≡ record { written = 1 ∷ 2 ∷ 7 ∷ 8 ∷ []; room = 5; fails = fail 4 (Some 2) ∷ []; calls = 4; faults = 1 }
sink_in_part = refl

-- all of the bytes, where there are fewer
sink_in_whole : sink.received (some_sink (fail 1 (Some 9) ∷ []) 0) (7 ∷ 8 ∷ []) ≡ 7 ∷ 8 ∷ []
sink_in_whole = refl

sink_takes_none : sink.received (some_sink (fail 1 None ∷ []) 0) (7 ∷ 8 ∷ []) ≡ []
sink_takes_none = refl

-- ---- an input

abbrev some_input : List Fail → ℕ → lines.LinesInMemory
some_input fails calls = record { left = 97 ∷ 10 ∷ 98 ∷ []; fails = fails; calls = calls; faults = 0 }

input_gives : lines.after_line (some_input [] 0) ≡ record { left = 98 ∷ []; fails = []; calls = 1; faults = 0 }
input_gives = refl

input_fails : lines.after_line (some_input (fail 2 None ∷ []) 1) ≡ record { left = 97 ∷ 10 ∷ 98 ∷ []; fails = fail 2 None ∷ []; calls = 2; faults = 1 }
input_fails = refl

-- ---- files

file_absent : files.fault_at None true ≡ Some Absent
file_absent = refl

file_listed : files.fault_at (Some (1 ∷ [])) true ≡ Some Failed
file_listed = refl

file_read : files.fault_at (Some (1 ∷ [])) false ≡ None
file_read = refl

stands_old : files.standing (Some (fail 1 None)) (1 ∷ 2 ∷ []) ≡ None
stands_old = refl

stands_part : files.standing (Some (fail 1 (Some 1))) (1 ∷ 2 ∷ []) ≡ Some (1 ∷ [])
stands_part = refl

stands_none : files.standing (Some (fail 1 (Some 0))) (1 ∷ 2 ∷ []) ≡ Some []
stands_none = refl

abbrev no_files : Contents
no_files = map.empty

nothing_held : (name : List ℕ) → held no_files name ≡ None
nothing_held name = map.get-empty (slice_cmp nat_cmp) name

-- a name and its content are counted together, and once
one_file : (n : ℕ) → total no_files ≡ n → total (map.insert no_files (97 ∷ []) (1 ∷ 2 ∷ [])) ≡ n + 3
one_file n e = total-insert_new no_files (97 ∷ []) (1 ∷ 2 ∷ []) (nothing_held (97 ∷ [])) ∙ ap (λ m. m + 3) e

other_content : (contents : Contents) → held contents (97 ∷ []) ≡ Some (1 ∷ 2 ∷ []) → total (map.insert contents (97 ∷ []) (1 ∷ 2 ∷ 3 ∷ [])) ≡ total contents + 1
other_content contents e = omega (arith, total-insert_old contents (97 ∷ []) (1 ∷ 2 ∷ 3 ∷ []) (1 ∷ 2 ∷ []) e)
