use Rattle.std.proofs.Common.{◌≡◌, ◌∙◌, ◌||◌, false, option_map, sym, ap}
use Rattle.es_model.specs.Tokens.{is_line_break}
use Rattle.js_lexer.specs.Reads.{comment}
use Rattle.js_lexer.proofs.Blocks.{lined, ends_here, not_at, not_star, goes_on}
use Rattle.js_lexer.proofs.comments.take_block.Goals as goal
use Rattle.js_lexer.proofs.comments.take_block.Goals.{else-c-eq42-via-then-c-eq42+else-is_at, else-c-eq42-via-else-c-eq42}

pub loop-c-preserved-then-line : goal.loop-c-preserved-then-line
loop-c-preserved-then-line c =
    let more : ends_here c.in-Some.c c.next.new.self ≡ false = elim c.else-c-eq42.branch [ else-c-eq42-via-then-c-eq42+else-is_at w ↦ not_at c.in-Some.c c.next.new.self w.if-is_at.ensures | else-c-eq42-via-else-c-eq42 w ↦ not_star c.in-Some.c c.next.new.self w.if-c-eq42.false ] in
    goes_on _ c.loop-c.line c.loop-c.left c.next.new.self c.in-Some.c c.loop-c.invariant c.in-Some.ensures.first c.next.ensures.left more
    ∙ ap (λ b. option_map (lined b) (comment c.next.new.self)) (ap (λ b. b || is_line_break c.in-Some.c) c.if-line.true ∙ sym c.if-line.true)

pub loop-c-preserved : goal.loop-c-preserved
loop-c-preserved c =
    let more : ends_here c.in-Some.c c.next.new.self ≡ false = elim c.else-c-eq42.branch [ else-c-eq42-via-then-c-eq42+else-is_at w ↦ not_at c.in-Some.c c.next.new.self w.if-is_at.ensures | else-c-eq42-via-else-c-eq42 w ↦ not_star c.in-Some.c c.next.new.self w.if-c-eq42.false ] in
    goes_on _ c.loop-c.line c.loop-c.left c.next.new.self c.in-Some.c c.loop-c.invariant c.in-Some.ensures.first c.next.ensures.left more
    ∙ ap (λ b. option_map (lined b) (comment c.next.new.self)) (ap (λ b. b || is_line_break c.in-Some.c) c.if-line.false ∙ sym c.is_line_break-line.ensures)
