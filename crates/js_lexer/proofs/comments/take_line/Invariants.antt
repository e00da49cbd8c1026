use Rattle.std.proofs.Common.{◌≡◌, not, length}
use Rattle.es_model.specs.Tokens.{is_line_break}
use Rattle.js_lexer.specs.Reads.{behind}
use Rattle.js_lexer.proofs.comments.take_line.Given as goal

abbrev pub invariant-loop-c : goal.invariant-loop-c
invariant-loop-c l = behind (λ c. not (is_line_break c)) l.fn.left ≡ behind (λ c. not (is_line_break c)) l.left

abbrev pub decreases-loop-c : goal.decreases-loop-c
decreases-loop-c l = length l.left.text
