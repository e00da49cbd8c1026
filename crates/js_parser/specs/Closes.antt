-- How the code has the end of a form: it is a part that is read in its turn, or a state.
use Rattle.std.specs.Prelude.{◌≡◌, List}
use Rattle.es_model.specs.declared.token.Token.{Token}
use Rattle.parser_forms.specs.declared.parts.Part.{Part}
use Rattle.parser_forms.specs.Pieces.{Pieces, first, rest, part_in}
use Rattle.js_parser.specs.Frame.{Frame}
use Rattle.js_parser.specs.State.{Frames, State}
use Rattle.js_parser.specs.Settle.{closed, settle}
use Rattle.js_parser.specs.Held.{frames}
use Rattle.js_parser.specs.Shows.{Shows}
use Rattle.js_parser.specs.declared.frame.Frame as the_frame
use Rattle.js_parser.specs.declared.expression_ends.Closed.{Closed}
use Rattle.js_parser.specs.declared.expression_ends.Closed.TheVariants as ends

-- a part ends a form that was innermost
abbrev pub after : Frame → Frames → Part → Token → State
after frame left part token = closed frame (λ next. settle left next token) left part token

-- the form is gone, and the part is read in the forms that stood under it
abbrev pub Closes : State → Token → List the_frame.Frame → Closed → List the_frame.Frame → Pieces → Type 0
Closes st token before ends.Read forms pieces = (forms ≡ before) × (st ≡ settle (frames before (rest pieces)) (part_in (first pieces)) token)
Closes st token before (ends.Done now) forms pieces = Shows st now forms pieces
