use Rattle.std.proofs.Common.{◌∙◌, length, Err, sym, ap, arith}
use Rattle.es_model.specs.declared.faults.LexFault.TheVariants.{BadEscape}
use Rattle.js_lexer.proofs.Answering.{reads_err}
use Rattle.js_lexer.specs.Reads.{string, escape}
use Rattle.js_lexer.proofs.Lefts.{shorter}
use Rattle.js_lexer.proofs.Escaped.{escape-shorter}
use Rattle.js_lexer.proofs.Quoted.{put, put-put, string-escapes, string-bad}
use Rattle.js_lexer.proofs.quotes.take_string.Goals as goal

pub loop-c-smaller-in-Continue-1 : goal.loop-c-smaller-in-Continue-1
loop-c-smaller-in-Continue-1 c =
    let e = c.in_ok-push_escape-in-92.ensures in
    let rest = escape-shorter c.next.new.self c.push_escape.new.left e.0 e.1 in
    omega (arith, rest, shorter c.loop-c.left c.in-Some.c c.in-Some.ensures.first, ap (λ l. length l.text) c.next.ensures.left)

pub loop-c-preserved-in-Continue-1 : goal.loop-c-preserved-in-Continue-1
loop-c-preserved-in-Continue-1 c =
    let e = c.in_ok-push_escape-in-92.ensures in
    c.loop-c.invariant
    ∙ ap (put c.loop-c.text) (string-escapes c.args.quote c.args.begun c.loop-c.left c.in-Some.c e.0 c.push_escape.new.left c.in-Some.ensures.first c.if-c-quote.false c.in-92.is (ap escape (sym c.next.ensures.left) ∙ e.1))
    ∙ put-put c.loop-c.text e.0 (string c.args.quote c.args.begun c.push_escape.new.left)
    ∙ ap (λ t. put t (string c.args.quote c.args.begun c.push_escape.new.left)) (sym e.2)

pub returns-in_err-push_escape-in-92 : goal.returns-in_err-push_escape-in-92
returns-in_err-push_escape-in-92 c =
    reads_err (string c.args.quote c.args.begun c.args.left.now) c.from_residual.result c.push_escape.new.left c.in_err-push_escape-in-92.field-0.0 c.from_residual.ensures.1 (λ no.
    let e = c.in_err-push_escape-in-92.ensures no in
    c.loop-c.invariant
    ∙ ap (put c.loop-c.text) (string-bad c.args.quote c.args.begun c.loop-c.left c.in-Some.c c.in-Some.ensures.first c.if-c-quote.false c.in-92.is (ap escape (sym c.next.ensures.left) ∙ e.0))
    ∙ ap (λ at. Err (BadEscape at)) (sym c.place-at.ensures)
    ∙ ap (λ f. Err f) (sym e.1))
