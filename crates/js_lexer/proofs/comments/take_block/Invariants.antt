use Rattle.std.proofs.Common.{◌≡◌, option_map, length}
use Rattle.js_lexer.specs.Reads.{comment}
use Rattle.js_lexer.proofs.Blocks.{lined}
use Rattle.js_lexer.proofs.comments.take_block.Given as goal

abbrev pub invariant-loop-c : goal.invariant-loop-c
invariant-loop-c l = comment l.fn.left ≡ option_map (lined l.line) (comment l.left)

abbrev pub decreases-loop-c : goal.decreases-loop-c
decreases-loop-c l = length l.left.text
