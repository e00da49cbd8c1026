use Rattle.std.proofs.Common.{◌≡◌, ◌<◌, ◌∙◌, true, length, Some, sym, ap, arith}
use Rattle.std.proofs.lemmas.Bool.Decides.{nat_tests}
use Rattle.es_model.specs.Tokens.{digit_value, is_digit_of}
use Rattle.js_lexer.proofs.Lefts.{goes_on}
use Rattle.js_lexer.proofs.Escaped.{digits_of, code_point-is, code_point-large, code_point-open}
use Rattle.js_lexer.proofs.escapes.code_point.Goals as goal
use Rattle.js_lexer.proofs.escapes.code_point.Goals.{then-value-gt1114111-via-then-value-gt1114111, then-value-gt1114111-via-else-value-gt1114111+then-not-is_at}

pub returns-then-value-gt1114111-clause-value : goal.returns-then-value-gt1114111-clause-value
returns-then-value-gt1114111-clause-value c =
    elim c.then-value-gt1114111.branch [
      | then-value-gt1114111-via-then-value-gt1114111 w ↦ code_point-large c.args.left.now c.digits-value.result c.digits-value.ensures.value w.if-value-gt1114111.true
      | then-value-gt1114111-via-else-value-gt1114111+then-not-is_at w ↦ code_point-open c.args.left.now c.digits-value.new.left c.digits-value.ensures.left w.if-not-is_at.ensures
    ]

pub returns-clause-value : goal.returns-clause-value
returns-clause-value c =
    let small : digit_value c.in_ok-first.field-0 < 16 = omega (arith, c.digit_value.ensures.value) in
    let passes : is_digit_of 16 c.in_ok-first.field-0 ≡ true = grind (arith, nat_tests) in
    let more = goes_on (is_digit_of 16) c.args.left.now c.in_ok-first.field-0 c.in_ok-first.ensures passes in
    let some : 0 < length (digits_of c.args.left.now) = omega (arith, ap length more.taken) in
    code_point-is c.args.left.now c.digits-value.new.left c.digits-value.result some c.digits-value.ensures.value c.digits-value.ensures.left c.if-value-gt1114111.false c.if-not-is_at.ensures
    ∙ ap (λ l. Some (c.digits-value.result, l)) (sym c.next.ensures.left)
