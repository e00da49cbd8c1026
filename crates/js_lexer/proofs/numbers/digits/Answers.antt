use Rattle.std.proofs.Common.{◌≡◌, ◌<◌, ◌+◌, ◌*◌, ◌∙◌, ◌∷◌, true, take_while, sym, ap, arith}
use Rattle.std.proofs.lemmas.Bool.Decides.{nat_tests}
use Rattle.es_model.specs.Tokens.{digit_value, is_digit_of}
use Rattle.js_lexer.specs.Reads.{behind, capped}
use Rattle.js_lexer.proofs.Lefts.{goes_on}
use Rattle.js_lexer.proofs.Digits.{one_more}
use Rattle.js_lexer.proofs.numbers.digits.Goals as goal

pub loop-c-preserved : goal.loop-c-preserved
loop-c-preserved c =
    let small : digit_value c.in-Some.c < c.args.base = omega (arith, c.digit_value-digit.ensures.value) in
    let passes : is_digit_of c.args.base c.in-Some.c ≡ true = grind (arith, nat_tests) in
    let more = goes_on (is_digit_of c.args.base) c.loop-c.left c.in-Some.c c.in-Some.ensures passes in
    let cut : c.min-value.result ≡ capped (c.loop-c.value * c.args.base + digit_value c.in-Some.c) = grind (arith, c.min-value.ensures, c.digit_value-digit.ensures.value) in
    record {
      left = c.loop-c.invariant.left ∙ more.rest ∙ ap (behind (is_digit_of c.args.base)) (sym c.next.ensures.left);
      value =
          c.loop-c.invariant.value
          ∙ one_more c.args.base c.loop-c.value c.in-Some.c c.min-value.result _ _ c.requires.some
          (more.taken ∙ ap (λ l. c.in-Some.c ∷ take_while (is_digit_of c.args.base) l.text) (sym c.next.ensures.left)) cut;
      bound = omega (arith, cut);
    }
