use Rattle.std.proofs.Common.{◌≡◌, ◌∷◌, ◌≤◌, ◌-◌, Some, take, length}
use Rattle.es_model.specs.Tokens.{place_from, signs}
use Rattle.js_lexer.specs.Left.{skip}
use Rattle.js_lexer.proofs.words.longest_sign.Given as goal

abbrev pub invariant-loop-length : goal.invariant-loop-length
invariant-loop-length l = record {
  some : 1 ≤ l.length;
  short : l.length ≤ 4;
  room : length l.units ≡ 4;
  within : l.length ≤ length (l.fn.first ∷ l.fn.left.text);
  front : take l.length l.units ≡ take l.length (l.fn.first ∷ l.fn.left.text);
  sign : place_from 0 signs (take l.length (l.fn.first ∷ l.fn.left.text)) ≡ Some l.longest;
  rest : l.left ≡ skip (l.length - 1) l.fn.left;
}

abbrev pub decreases-loop-length : goal.decreases-loop-length
decreases-loop-length l = 4 - l.length
