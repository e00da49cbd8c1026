use Rattle.std.proofs.Common.{◌∙◌, Ok, w64, sym, ap, arith}
use Rattle.std.proofs.lemmas.Int.{to_z_pos}
use Rattle.es_model.specs.declared.token.TokenKind.TheVariants.{Number}
use Rattle.js_lexer.specs.declared.elements.Found.TheVariants.{Token}
use Rattle.js_lexer.proofs.Digits.{number_followed, number_large, number_read}
use Rattle.js_lexer.proofs.numbers.take_number.Goals as goal

pub returns-then-is_followed-clause-element : goal.returns-then-is_followed-clause-element
returns-then-is_followed-clause-element c = λ _. number_followed c.args.at c.args.first c.args.left.now c.literal-value.new.left c.literal-value.ensures.left c.if-is_followed.ensures

pub returns-then-value-ge-TOO_LARGE-clause-element : goal.returns-then-value-ge-TOO_LARGE-clause-element
returns-then-value-ge-TOO_LARGE-clause-element c = λ _. number_large c.args.at c.args.first c.literal-value.result c.args.left.now c.literal-value.new.left c.literal-value.ensures.left c.if-is_followed.ensures c.literal-value.ensures.value c.if-value-ge-TOO_LARGE.true

pub returns-clause-element : goal.returns-clause-element
returns-clause-element c =
    number_read c.args.at c.args.first c.literal-value.result c.args.left.now c.literal-value.new.left c.literal-value.ensures.left c.if-is_followed.ensures c.literal-value.ensures.value c.if-value-ge-TOO_LARGE.false
    ∙ ap (λ n. Ok (Token (Number n), c.literal-value.new.left)) (sym (to_z_pos w64 c.literal-value.result (omega arith)))
