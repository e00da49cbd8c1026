use Rattle.std.proofs.Common.{◌∙◌, ◌+◌, ap, arith, rules}
use Rattle.es_model.specs.Tokens.{quoted_element}
use Rattle.js_lexer.specs.Reads.{found}
use Rattle.js_lexer.proofs.Utf8.{width-1}
use Rattle.js_lexer.proofs.Answering.{reads_err}
use Rattle.js_lexer.proofs.Standing.{reads_same, is_string, is_bad_string, is_template, is_sign}
use Rattle.js_lexer.proofs.elements.take_quoted.Goals as goal

pub returns-in_err-text-in-34 : goal.returns-in_err-text-in-34
returns-in_err-text-in-34 c =
    reads_err (found (quoted_element c.args.braces.now c.args.at c.args.first c.args.left.now.text) c.args.left.now) c.from_residual.result c.take_string.new.left c.in_err-text-in-34.field-0.0 c.from_residual.ensures.1
    (λ no. is_bad_string c.args.braces.now c.args.at c.args.first c.args.left.now c.in_err-text-in-34.field-0.0 c.in-34.is c.requires (c.in_err-text-in-34.ensures no))

pub take_closing-requires : goal.take_closing-requires
take_closing-requires c = c.requires ∙ ap (λ w. c.args.at + w) (width-1 c.args.first (omega (arith, c.in-125.is)))

pub returns-in_ok-text-in-34 : goal.returns-in_ok-text-in-34
returns-in_ok-text-in-34 c = is_string c.args.braces.now c.args.at c.args.first c.args.left.now c.take_string.new.left c.in_ok-text-in-34.text c.in-34.is c.requires c.in_ok-text-in-34.ensures

pub returns-in-96 : goal.returns-in-96
returns-in-96 c =
    reads_same (quoted_element c.args.braces.now c.args.at c.args.first c.args.left.now.text) _ c.args.left.now c.take_template.result c.take_template.new.left
    (is_template c.args.braces.now c.args.at c.args.first c.args.left.now c.in-96.is c.requires) c.take_template.ensures

pub returns-in_default : goal.returns-in_default
returns-in_default c =
    reads_same (quoted_element c.args.braces.now c.args.at c.args.first c.args.left.now.text) _ c.args.left.now c.take_sign.result c.take_sign.new.left
    (is_sign c.args.braces.now c.args.at c.args.first c.args.left.now.text (first_of (search rules, omega arith, grind arith)) (first_of (search rules, omega arith, grind arith)) (first_of (search rules, omega arith, grind arith)) (first_of (search rules, omega arith, grind arith)))
    c.take_sign.ensures.element
