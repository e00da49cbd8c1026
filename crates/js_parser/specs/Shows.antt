-- How the code has a state: what is due, the open forms on its stack and their pieces on the store, which are left as they
-- are by a failure.
use Rattle.std.specs.Prelude.{◌≡◌, List}
use Rattle.parser_forms.specs.Pieces.{Pieces}
use Rattle.js_parser.specs.declared.frame.Control as the_control
use Rattle.js_parser.specs.declared.frame.Control.TheVariants as cc
use Rattle.js_parser.specs.declared.frame.Frame as the_frame
use Rattle.js_parser.specs.Control as c
use Rattle.js_parser.specs.State.{State, state}
use Rattle.js_parser.specs.Held.{control, under_control, frames}

-- of a state that failed, only that it failed
abbrev pub Shows : State → the_control.Control → List the_frame.Frame → Pieces → Type 0
Shows (state c.Fail left) now forms pieces = now ≡ cc.Fail
Shows (state due left) now forms pieces = (control now pieces ≡ due) × (frames forms (under_control now pieces) ≡ left)
