-- What a module that prints texts leaves.
use Rattle.std.specs.Prelude.{◌≡◌, ◌++◌, ℕ, List, [], ◌∷◌, Option}
use Rattle.std.specs.Io.KnownBytes.{Appends, Keeps}
use Rattle.xs_base.specs.Outside.{Rose, SentInPart}
use Rattle.es_model.specs.Tree.{Text}
use Rattle.es_ops.specs.State.{TraceEvent}
use Rattle.es_ops.specs.Host.{written, line_events}
use Rattle.xs_cli.specs.declared.top.End.{End}
use Rattle.xs_cli.specs.declared.top.End.TheVariants as end

-- the events of printing these texts in turn
unfoldable pub events_of : List Text → List TraceEvent
events_of [] = []
events_of (text ∷ texts) = line_events text ++ events_of texts

abbrev pub PrintsTexts : List Text → Option (List ℕ) → Option (List ℕ) → ℕ → ℕ → End → Type 0
PrintsTexts texts old new before now end.Done = Appends old new (written (events_of texts)) × (now ≡ before)
PrintsTexts texts old new before now end.WriteFailed = SentInPart old new (written (events_of texts)) × Rose before now
PrintsTexts texts old new before now end.Memory = Keeps old new × (now ≡ before)
PrintsTexts texts old new before now _ = ⊥
