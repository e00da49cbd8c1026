-- What `close` has come to: a form that is complete is put into the forms that are left.
use Rattle.std.proofs.Common.{◌≡◌, length}
use Rattle.parser_forms.specs.Pieces.{first, rest, statement_in}
use Rattle.js_parser.specs.Begins as b
use Rattle.js_parser.specs.Held as h
use Rattle.js_parser.proofs.closes.close.Given as goal

abbrev pub invariant-loop-frame : goal.invariant-loop-frame
invariant-loop-frame l = b.close (h.frames l.fn.stack (rest l.fn.pieces)) (statement_in (first l.fn.pieces)) l.token ≡ b.close (h.frames l.stack (rest l.pieces)) (statement_in (first l.pieces)) l.token

abbrev pub decreases-loop-frame : goal.decreases-loop-frame
decreases-loop-frame l = length l.stack
