-- What comes of putting a statement into the innermost form.
use Rattle.std.specs.Prelude.{◌≡◌, List}
use Rattle.es_model.specs.Tree as t
use Rattle.parser_forms.specs.Kept.{Sorted}
use Rattle.parser_forms.specs.Pieces.{Pieces, first, rest, statement_in}
use Rattle.js_parser.specs.State.{Frames, State}
use Rattle.js_parser.specs.Held.{frames}
use Rattle.js_parser.specs.Shows.{Shows}
use Rattle.js_parser.specs.declared.frame.Frame as the_frame
use Rattle.js_parser.specs.declared.puts.Placed.{Placed}
use Rattle.js_parser.specs.declared.puts.Placed.TheVariants as placed

-- the code stands in the state, or the form is now complete, which `again` puts into the forms round it
abbrev pub Places : State → (Frames → Sorted t.statement → State) → Placed → List the_frame.Frame → List the_frame.Frame → Pieces → Type 0
Places st again (placed.Stands now) before forms pieces = Shows st now forms pieces
Places st again placed.Complete before forms pieces = (forms ≡ before) × (st ≡ again (frames before (rest pieces)) (statement_in (first pieces)))
