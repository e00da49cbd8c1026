use Rattle.std.proofs.Common.{◌≡◌, ◌∙◌, ◌∷◌, [], length, false, Err, sym, ap, arith, rules}
use Rattle.es_model.specs.declared.faults.LexFault.TheVariants.{BadEscape}
use Rattle.js_lexer.proofs.Answering.{reads_err}
use Rattle.js_value.specs.Text.{utf16}
use Rattle.js_lexer.specs.Left.{skip}
use Rattle.js_lexer.specs.Reads.{piece, escape, fed}
use Rattle.js_lexer.proofs.Lefts.{shorter}
use Rattle.js_lexer.proofs.Escaped.{escape-shorter}
use Rattle.js_lexer.proofs.Quoted.{put_piece, put_piece-put, piece-returns, piece-stands, piece-escapes, piece-bad, substitutes, not_open, no_dollar}
use Rattle.js_lexer.proofs.quotes.take_piece.Goals as goal
use Rattle.js_lexer.proofs.quotes.take_piece.Goals.{else-c-eq36-via-then-c-eq36+else-is_at, else-c-eq36-via-else-c-eq36}

pub loop-c-preserved-in-Continue-1 : goal.loop-c-preserved-in-Continue-1
loop-c-preserved-in-Continue-1 c =
    c.loop-c.invariant
    ∙ ap (put_piece c.loop-c.text) (piece-returns c.args.begun c.loop-c.left c.in-Some.c c.in-Some.ensures.first c.in-13.is ∙ ap (λ l. put_piece (10 ∷ []) (piece c.args.begun l)) (sym (c.take_feed.ensures ∙ ap fed c.next.ensures.left)))
    ∙ put_piece-put c.loop-c.text (10 ∷ []) (piece c.args.begun c.take_feed.new.left)
    ∙ ap (λ t. put_piece t (piece c.args.begun c.take_feed.new.left)) (sym c.in_ok-push_character-in-13.ensures)

pub loop-c-smaller-in-Continue-branch-2 : goal.loop-c-smaller-in-Continue-branch-2
loop-c-smaller-in-Continue-branch-2 c =
    let e = c.in_ok-push_escape-in-92.ensures in
    let rest = escape-shorter c.next.new.self c.push_escape.new.left e.0 e.1 in
    omega (arith, rest, shorter c.loop-c.left c.in-Some.c c.in-Some.ensures.first, ap (λ l. length l.text) c.next.ensures.left)

pub loop-c-preserved-in-Continue-branch-2 : goal.loop-c-preserved-in-Continue-branch-2
loop-c-preserved-in-Continue-branch-2 c =
    let e = c.in_ok-push_escape-in-92.ensures in
    c.loop-c.invariant
    ∙ ap (put_piece c.loop-c.text) (piece-escapes c.args.begun c.loop-c.left c.in-Some.c e.0 c.push_escape.new.left c.in-Some.ensures.first c.in-92.is (ap escape (sym c.next.ensures.left) ∙ e.1))
    ∙ put_piece-put c.loop-c.text e.0 (piece c.args.begun c.push_escape.new.left)
    ∙ ap (λ t. put_piece t (piece c.args.begun c.push_escape.new.left)) (sym e.2)

pub returns-in_err-push_escape-in-92 : goal.returns-in_err-push_escape-in-92
returns-in_err-push_escape-in-92 c =
    reads_err (piece c.args.begun c.args.left.now) c.from_residual-in_err-push_escape-in-92.result c.push_escape.new.left c.in_err-push_escape-in-92.field-0.0 c.from_residual-in_err-push_escape-in-92.ensures.1 (λ no.
    let e = c.in_err-push_escape-in-92.ensures no in
    c.loop-c.invariant
    ∙ ap (put_piece c.loop-c.text) (piece-bad c.args.begun c.loop-c.left c.in-Some.c c.in-Some.ensures.first c.in-92.is (ap escape (sym c.next.ensures.left) ∙ e.0))
    ∙ ap (λ at. Err (BadEscape at)) (sym c.place-at.ensures)
    ∙ ap (λ f. Err f) (sym e.1))

pub loop-c-preserved : goal.loop-c-preserved
loop-c-preserved c =
    let plain : substitutes c.in-Some.c (skip 1 c.loop-c.left) ≡ false =
    elim c.else-c-eq36.branch [
      | else-c-eq36-via-then-c-eq36+else-is_at w ↦ not_open c.in-Some.c c.loop-c.left c.next.new.self c.next.ensures.left w.if-is_at.ensures
      | else-c-eq36-via-else-c-eq36 w ↦ no_dollar c.in-Some.c (skip 1 c.loop-c.left) w.if-c-eq36.false
    ] in
    c.loop-c.invariant
    ∙ ap (put_piece c.loop-c.text) (piece-stands c.args.begun c.loop-c.left c.in-Some.c c.in-Some.ensures.first c.if-c-eq96.false plain (first_of (search rules, omega arith, grind arith)) (first_of (search rules, omega arith, grind arith)) ∙ ap (λ l. put_piece (utf16 c.in-Some.c) (piece c.args.begun l)) (sym c.next.ensures.left))
    ∙ put_piece-put c.loop-c.text (utf16 c.in-Some.c) (piece c.args.begun c.next.new.self)
    ∙ ap (λ t. put_piece t (piece c.args.begun c.next.new.self)) (sym c.in_ok-push_character-in_default-c.ensures)
