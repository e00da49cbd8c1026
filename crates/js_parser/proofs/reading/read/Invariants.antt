use Rattle.std.proofs.Common.{◌≡◌, drop}
use Rattle.js_parser.specs.Held.{held}
use Rattle.js_parser.specs.Machine.{answer, answer_from}
use Rattle.js_parser.proofs.reading.read.Given as goal

-- what the tokens that are left answer is what all of them do
abbrev pub invariant-loop-token : goal.invariant-loop-token
invariant-loop-token l = record {
  same : answer l.tokens ≡ answer_from l.place (held l.control l.stack l.pieces) (drop l.token-index l.tokens);
  place : l.place ≡ l.token-index;
}
