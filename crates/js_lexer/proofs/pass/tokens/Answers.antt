use Rattle.std.proofs.Common.{◌∙◌, [], false, sym, ap}
use Rattle.es_model.specs.Tokens.{tokens_of}
use Rattle.js_lexer.proofs.Answering.{answers_err}
use Rattle.js_lexer.proofs.Passing.{tokens_left, tokens-bad, tokens-good}
use Rattle.js_lexer.proofs.pass.tokens.Goals as goal

pub returns-in-Some : goal.returns-in-Some
returns-in-Some c = λ _. tokens-bad c.args.text.now c.in-Some.at c.in-Some.ensures.place

pub returns-in_err-take_all : goal.returns-in_err-take_all
returns-in_err-take_all c =
    answers_err (tokens_of c.args.text.now) c.from_residual.result c.in_err-take_all.field-0.0 c.from_residual.ensures.1
    (λ no. tokens-good c.args.text.now c.in_default.ensures.place ∙ ap (tokens_left false []) (sym c.new.ensures) ∙ c.in_err-take_all.ensures no)

pub returns : goal.returns
returns c = tokens-good c.args.text.now c.in_default.ensures.place ∙ ap (tokens_left false []) (sym c.new.ensures) ∙ c.in_ok-take_all.ensures
