use Rattle.std.proofs.Common.{◌≡◌, ◌∷◌, ◌++◌, take_while, length}
use Rattle.std.specs.List.{flat_map}
use Rattle.js_value.specs.Text.{utf16}
use Rattle.es_model.specs.Tokens.{is_name_part}
use Rattle.js_lexer.specs.Reads.{behind}
use Rattle.js_lexer.proofs.words.take_name.Given as goal

abbrev pub invariant-loop-c : goal.invariant-loop-c
invariant-loop-c l = record {
  rest : behind is_name_part l.fn.left ≡ behind is_name_part l.left;
  text : flat_map utf16 (l.fn.first ∷ take_while is_name_part l.fn.left.text) ≡ l.text ++ flat_map utf16 (take_while is_name_part l.left.text);
}

abbrev pub decreases-loop-c : goal.decreases-loop-c
decreases-loop-c l = length l.left.text
