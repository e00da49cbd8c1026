use Rattle.std.proofs.Common.{◌≡◌, length}
use Rattle.js_lexer.specs.Reads.{string}
use Rattle.js_lexer.proofs.Quoted.{put}
use Rattle.js_lexer.proofs.quotes.take_string.Given as goal

abbrev pub invariant-loop-c : goal.invariant-loop-c
invariant-loop-c l = string l.quote l.begun l.fn.left ≡ put l.text (string l.quote l.begun l.left)

abbrev pub decreases-loop-c : goal.decreases-loop-c
decreases-loop-c l = length l.left.text
