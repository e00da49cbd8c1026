use Rattle.std.proofs.Common.{◌∙◌, take_while, sym, ap}
use Rattle.es_model.specs.Tokens.{number_after, is_digit_of}
use Rattle.js_lexer.specs.Left.{skip}
use Rattle.js_lexer.specs.Reads.{capped}
use Rattle.js_lexer.proofs.Digits.{literal_digits}
use Rattle.js_lexer.proofs.numbers.literal.Goals as goal

pub returns-then-first-ne48-clause-value : goal.returns-then-first-ne48-clause-value
returns-then-first-ne48-clause-value c =
    c.digits.ensures.value
    ∙ ap (λ n. capped (number_after n 10 (take_while (is_digit_of 10) c.args.left.now.text))) (c.from.ensures ∙ c.digit_value.ensures.value)
    ∙ ap (λ p. capped p.0) (sym (literal_digits c.args.first c.args.left.now.text c.if-first-ne48.true))

pub returns-then-first-ne48-clause-left : goal.returns-then-first-ne48-clause-left
returns-then-first-ne48-clause-left c =
    c.digits.ensures.left ∙ ap (λ p. skip p.1 c.args.left.now) (sym (literal_digits c.args.first c.args.left.now.text c.if-first-ne48.true))
