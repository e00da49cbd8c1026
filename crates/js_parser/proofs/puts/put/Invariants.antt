-- What `put` has come to: a form that is complete is put into the forms that are left.
use Rattle.std.proofs.Common.{◌≡◌, length}
use Rattle.parser_forms.specs.Pieces.{first, rest, statement_in}
use Rattle.js_parser.specs.Ends as e
use Rattle.js_parser.specs.Held as h
use Rattle.js_parser.proofs.puts.put.Given as goal

abbrev pub invariant-loop-frame : goal.invariant-loop-frame
invariant-loop-frame l = e.put (h.frames l.fn.stack (rest l.fn.pieces)) (statement_in (first l.fn.pieces)) ≡ e.put (h.frames l.stack (rest l.pieces)) (statement_in (first l.pieces))

abbrev pub decreases-loop-frame : goal.decreases-loop-frame
decreases-loop-frame l = length l.stack
