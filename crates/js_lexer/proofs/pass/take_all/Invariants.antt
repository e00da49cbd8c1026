use Rattle.std.proofs.Common.{◌≡◌, [], false, length}
use Rattle.js_lexer.proofs.Passing.{joined, tokens_left}
use Rattle.js_lexer.proofs.pass.take_all.Given as goal

abbrev pub invariant-loop-first : goal.invariant-loop-first
invariant-loop-first l = tokens_left false [] l.fn.text ≡ joined l.tokens (tokens_left l.line_before l.braces l.left)

abbrev pub decreases-loop-first : goal.decreases-loop-first
decreases-loop-first l = length l.left.text
