-- Files of a runtime: their answers and the counts that are kept of them.
use Rattle.std.specs.Prelude.{ℕ, List, length, nat_le, if◌then◌else◌, Result, Ok, Err}
use Rattle.xs_base.specs.declared.files.FileFault.{FileFault}
use Rattle.xs_base.specs.declared.files.FileFault.TheVariants.{Absent, Failed, Memory}
use Rattle.xs_base.specs.Failing.{counted}

-- What holds the files, how often a call failed or found nothing, and how often a name held nothing.
pub record FilesOf (D : Type 0) : Type 0 where
  pub disk : D
  pub faults : ℕ
  pub missed : ℕ

-- The answer to a read, by what was read: a file that is too long is a fault.
abbrev pub answer_of : Result (List ℕ) FileFault → Result (List ℕ) FileFault
answer_of (Ok bytes) = if nat_le (length bytes) 268435456 then Ok bytes else Err Failed
answer_of (Err fault) = Err fault

abbrev pub counts_after_fault : {D : Type 0} → FilesOf D → FileFault → FilesOf D
counts_after_fault files Absent = record files { faults = counted files.faults; missed = counted files.missed }
counts_after_fault files Failed = record files { faults = counted files.faults }
counts_after_fault files Memory = files

abbrev pub counts_after : {D T : Type 0} → FilesOf D → Result T FileFault → FilesOf D
counts_after files (Ok value) = files
counts_after files (Err fault) = counts_after_fault files fault
