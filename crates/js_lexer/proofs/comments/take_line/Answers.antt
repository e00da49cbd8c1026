use Rattle.std.proofs.Common.{◌∙◌, not, sym, ap}
use Rattle.es_model.specs.Tokens.{is_line_break}
use Rattle.js_lexer.specs.Reads.{behind}
use Rattle.js_lexer.proofs.Lefts.{goes_on}
use Rattle.js_lexer.proofs.comments.take_line.Goals as goal

pub loop-c-preserved : goal.loop-c-preserved
loop-c-preserved c =
    c.loop-c.invariant
    ∙ (goes_on (λ d. not (is_line_break d)) c.loop-c.left c.in-Some.c c.in-Some.ensures (ap not (sym c.if-is_line_break.ensures))).rest
    ∙ ap (behind (λ d. not (is_line_break d))) (sym c.next.ensures.left)
