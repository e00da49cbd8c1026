-- Files in memory, and what the calls make of them.
use Rattle.std.specs.Prelude.{◌||◌, ℕ, Bool, not, nat_lt, if◌then◌else◌, is_some, is_none, List, length, take, Option, Some, None}
use Rattle.std.specs.Option.{option_map}
use Rattle.std.specs.FinMap as map
use Rattle.xs_base.specs.declared.fails.Fail.{Fail}
use Rattle.xs_base.specs.declared.files.FileFault.{FileFault}
use Rattle.xs_base.specs.declared.files.FileFault.TheVariants.{Absent, Failed}
use Rattle.xs_base.specs.Failing.{counted, counted_if, failing}
use Rattle.xs_base.specs.Held.{held}
use Rattle.xs_base.specs.Table.{Table, fits}

-- The table of files, the calls that fail, and the counts of calls, of faults and of names that held nothing.
pub record FilesInMemory : Type 0 where
  pub table : Table
  pub fails : List Fail
  pub calls : ℕ
  pub faults : ℕ
  pub missed : ℕ

-- The entry for the next call, where it is listed.
abbrev pub next_fail : FilesInMemory → Option Fail
next_fail files = failing files.fails (counted files.calls)

-- Why a read answers neither the content nor want of memory: the name holds nothing, or the call is listed
-- or the content is too long.
abbrev pub fault_at : Option (List ℕ) → Bool → Option FileFault
fault_at None listed = Some Absent
fault_at (Some bytes) listed = if listed || nat_lt 268435456 (length bytes) then Some Failed else None

abbrev pub read_fault : FilesInMemory → List ℕ → Option FileFault
read_fault files name = fault_at (held files.table.contents name) (is_some (next_fail files))

abbrev pub after_read : FilesInMemory → List ℕ → FilesInMemory
after_read files name = record files {
  calls = counted files.calls;
  faults = counted_if (is_some (read_fault files name)) files.faults;
  missed = counted_if (is_none (held files.table.contents name)) files.missed;
}

-- What comes under the name by a write that is listed or isn't, where anything does.
abbrev pub standing : Option Fail → List ℕ → Option (List ℕ)
standing None bytes = Some bytes
standing (Some fail) bytes = option_map (λ count. take count bytes) fail.stands

-- A write fails exactly where it would pass a limit or is listed.
abbrev pub is_refused : FilesInMemory → List ℕ → List ℕ → Bool
is_refused files name bytes = not (fits files.table name bytes) || is_some (next_fail files)

abbrev pub with_content : Table → List ℕ → Option (List ℕ) → Table
with_content table name None = table
with_content table name (Some bytes) = record table { contents = map.insert table.contents name bytes }

-- What the names hold after a write: as before it where a limit would be passed, also where it is listed.
abbrev pub table_after : FilesInMemory → List ℕ → List ℕ → Table
table_after files name bytes = if fits files.table name bytes then with_content files.table name (standing (next_fail files) bytes) else files.table

abbrev pub after_write : FilesInMemory → List ℕ → List ℕ → FilesInMemory
after_write files name bytes = record files {
  table = table_after files name bytes;
  calls = counted files.calls;
  faults = counted_if (is_refused files name bytes) files.faults;
}

-- What the names hold after a file is placed, where it fits.
abbrev pub after_put : FilesInMemory → List ℕ → List ℕ → FilesInMemory
after_put files name bytes = record files { table = if fits files.table name bytes then with_content files.table name (Some bytes) else files.table }
