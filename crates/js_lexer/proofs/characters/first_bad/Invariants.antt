use Rattle.std.proofs.Common.{◌≡◌, ◌+◌, length}
use Rattle.js_value.specs.Text.{parts, sequence_length}
use Rattle.es_model.specs.Tokens.{first_bad}
use Rattle.js_lexer.proofs.characters.first_bad.Given as goal

abbrev pub invariant-loop-rest : goal.invariant-loop-rest
invariant-loop-rest l = record {
  places : l.at + length l.rest ≡ length l.fn.text;
  same : first_bad 0 (parts sequence_length l.fn.text) ≡ first_bad l.at (parts sequence_length l.rest);
}

abbrev pub decreases-loop-rest : goal.decreases-loop-rest
decreases-loop-rest l = length l.rest
