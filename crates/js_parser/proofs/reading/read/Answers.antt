use Rattle.std.proofs.Common.{◌∙◌, ap, sym, ◌+◌, ◌∷◌, drop}
use Rattle.std.proofs.lemmas.Bool.{iff_false}
use Rattle.std.proofs.lemmas.List.{drop_more}
use Rattle.js_parser.specs.Held.{held}
use Rattle.js_parser.specs.Machine.{answer_from}
use Rattle.js_parser.proofs.HeldLaws.{goes_on}
use Rattle.js_parser.proofs.reading.read.Goals as goal

-- the token that was read is the first of those that were left
pub loop-token-preserved : goal.loop-token-preserved
loop-token-preserved c =
    let tokens = c.args.tokens.now in
    let i = c.loop-token.token-index in
    let l = c.loop-token in
    let st = held l.control l.stack l.pieces in
    record {
      same = l.invariant.same
          ∙ ap (answer_from l.place st) (drop_more tokens i c.token-item.result c.loop-token-test.true)
          ∙ ap (λ token. answer_from l.place st (token ∷ drop (i + 1) tokens)) (sym c.token-item.is)
          ∙ goes_on l.place st c.token-item.result (drop (i + 1) tokens) c.in_ok-control.control c.step.new.stack c.step.new.pieces (iff_false c.has_failed.ensures c.if-has_failed.false) c.in_ok-control.ensures;
      place = ap (λ n. n + 1) l.invariant.place;
    }
