use Rattle.std.proofs.Common.{◌≡◌, ◌≤◌, take_while, length}
use Rattle.es_model.specs.Tokens.{number_after, is_digit_of}
use Rattle.js_lexer.specs.Reads.{behind, capped}
use Rattle.js_lexer.proofs.numbers.digits.Given as goal

abbrev pub invariant-loop-c : goal.invariant-loop-c
invariant-loop-c l = record {
  left : behind (is_digit_of l.base) l.fn.left ≡ behind (is_digit_of l.base) l.left;
  value : capped (number_after l.before l.base (take_while (is_digit_of l.base) l.fn.left.text)) ≡ capped (number_after l.value l.base (take_while (is_digit_of l.base) l.left.text));
  bound : l.value ≤ 9007199254740992;
}

abbrev pub decreases-loop-c : goal.decreases-loop-c
decreases-loop-c l = length l.left.text
