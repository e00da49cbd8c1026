use Rattle.std.proofs.Common.{◌≡◌, length}
use Rattle.js_lexer.specs.Reads.{piece}
use Rattle.js_lexer.proofs.Quoted.{put_piece}
use Rattle.js_lexer.proofs.quotes.take_piece.Given as goal

abbrev pub invariant-loop-c : goal.invariant-loop-c
invariant-loop-c l = piece l.begun l.fn.left ≡ put_piece l.text (piece l.begun l.left)

abbrev pub decreases-loop-c : goal.decreases-loop-c
decreases-loop-c l = length l.left.text
