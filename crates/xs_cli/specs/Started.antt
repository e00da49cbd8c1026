-- What the program makes of the words that it is started with.
use Rattle.std.specs.Prelude.{◌≡◌, ◌⊎◌, ℕ, List, [], drop, Option, Result, Ok, Err, String, codes}
use Rattle.std.specs.declared.alloc.Global.{Global}
use Rattle.std.specs.declared.vec.IntoIter.{IntoIter}
use Rattle.std.specs.Vec.Iter.{into_iter_items}
use Rattle.std.specs.Io.KnownBytes.{Keeps}
use Rattle.xs_cli.specs.Answer.{Word}
use Rattle.xs_cli.specs.Ends.{Outside, Ended, IsCalm, LineTold, line_of, status_of, words_of}
use Rattle.xs_cli.specs.declared.top.End.{End}

-- The words behind the program's name. Where one is no text there are none: it is in no command.
abbrev pub words_given : {E : Type 0} → Result (IntoIter (String Global) Global) E → List Word
words_given (Ok words) = drop 1 (words_of (into_iter_items words))
words_given (Err fault) = []

-- The sink of the one line: what it received, and its count of faults.
pub record Told : Type 0 where
  pub written : Option (List ℕ)
  pub faults : ℕ

abbrev pub IsTold : Told → Told → List ℕ → Type 0
IsTold before after line = LineTold before.written after.written before.faults after.faults line

-- A call of the program came to an end of these words, or memory for the words was wanting.
abbrev pub Starts : List Word → Outside → Outside → Told → Told → ℕ → Type 0
Starts words before after err_before err_after status =
    ((end : End) × (status ≡ status_of end) × Ended words before after end × IsTold err_before err_after (line_of words end))
    ⊎ ((status ≡ 7) × Keeps before.written after.written × IsCalm before after × IsTold err_before err_after (codes "no memory\n"))
