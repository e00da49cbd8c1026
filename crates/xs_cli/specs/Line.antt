-- One piece of a line after the other.
use Rattle.std.specs.Prelude.{◌≡◌, ◌<◌, ◌≤◌, ◌++◌, ℕ, List, length, drop, Option, Some, None, Result, Ok, Err}
use Rattle.std.specs.Io.KnownBytes.{Appends}
use Rattle.xs_base.specs.Outside.{SentInPart}
use Rattle.es_model.specs.Tree.{Text}
use Rattle.es_ops.specs.Host.{written, line_events}

abbrev pub line_bytes : Text → List ℕ
line_bytes text = written (line_events text)

-- A piece of some units was written, whose bytes begin the line.
abbrev pub WritesPiece : Option (List ℕ) → Option (List ℕ) → Text → ℕ → Type 0
WritesPiece old new text units =
    (part : List ℕ) × (line_bytes text ≡ part ++ line_bytes (drop units text)) × Appends old new part × (0 < units) × (units ≤ length text)

-- The first piece of a text's line was written, or the line to its end.
abbrev pub WritesFront : {E : Type 0} → Option (List ℕ) → Option (List ℕ) → Text → Result (Option ℕ) E → Type 0
WritesFront old new text (Ok None) = Appends old new (line_bytes text)
WritesFront old new text (Ok (Some units)) = WritesPiece old new text units
WritesFront old new text (Err e) = SentInPart old new (line_bytes text)
