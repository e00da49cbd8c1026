use Rattle.std.proofs.Common.{◌<◌, ◌∙◌, length, subst, sym, arith}
use Rattle.std.proofs.lemmas.Result.{err_from_is_err_and}
use Rattle.std.specs.Io.KnownBytes.{Appends}
use Rattle.xs_base.specs.Outside.{SentInPart}
use Rattle.js_value.proofs.Pieces.{length-utf8-piece}
use Rattle.xs_cli.proofs.Fronts.{whole_line, buffered, buffered_end, fault_in_front, one_piece, some_text}
use Rattle.xs_cli.proofs.line.write_front.Goals as goal
use Rattle.xs_cli.proofs.line.write_front.Goals.{then-units-text-via-then-units-text, then-units-text-via-else-units-text+then-bytes-eq64}

pub returns-in_err-write-clause-front : goal.returns-in_err-write-clause-front
returns-in_err-write-clause-front g c =
    let p = err_from_is_err_and c.from_residual.result c.from_residual.ensures.1 in
    rw p.1 (fault_in_front _ _ c.args.text.now _ (buffered c.args.text.now c.utf8_piece-bytes.new.into _ c.utf8_piece-bytes.result.0 c.utf8_piece-bytes.ensures.bytes c.utf8_piece-bytes.ensures.written) c.in_err-write.ensures.bytes)

pub returns-then-units-text-clause-front : goal.returns-then-units-text-clause-front
returns-then-units-text-clause-front g c =
    let some : 0 < length c.args.text.now = elim c.then-units-text.branch [ then-units-text-via-then-units-text w ↦ omega (arith, w.if-units-text.true) | then-units-text-via-else-units-text+then-bytes-eq64 w ↦ some_text c.args.text.now (sym c.utf8_piece-bytes.ensures.written ∙ w.if-bytes-eq64.true) ] in
    one_piece _ _ c.args.text.now _ c.utf8_piece-bytes.result.1 (buffered c.args.text.now c.utf8_piece-bytes.new.into _ c.utf8_piece-bytes.result.0 c.utf8_piece-bytes.ensures.bytes c.utf8_piece-bytes.ensures.written) c.utf8_piece-bytes.ensures.taken some c.in_ok-write.ensures.bytes

pub returns-in_err-write-2-clause-front : goal.returns-in_err-write-2-clause-front
returns-in_err-write-2-clause-front g c =
    let p = err_from_is_err_and c.from_residual-in_err-write-2.result c.from_residual-in_err-write-2.ensures.1 in
    rw p.1 (subst (SentInPart _ _) (buffered_end c.args.text.now c.utf8_piece-bytes.new.into _ c.utf8_piece-bytes.result.0 c.utf8_piece-bytes.ensures.bytes c.utf8_piece-bytes.ensures.written (omega (arith, c.utf8_piece-bytes.array_long, length-utf8-piece c.args.text.now)) ∙ sym (whole_line c.args.text.now (omega (arith, c.if-units-text.false, c.utf8_piece-bytes.ensures.taken)))) c.in_err-write-2.ensures.bytes)

pub returns-clause-front : goal.returns-clause-front
returns-clause-front g c =
    subst (Appends _ _) (buffered_end c.args.text.now c.utf8_piece-bytes.new.into _ c.utf8_piece-bytes.result.0 c.utf8_piece-bytes.ensures.bytes c.utf8_piece-bytes.ensures.written (omega (arith, c.utf8_piece-bytes.array_long, length-utf8-piece c.args.text.now)) ∙ sym (whole_line c.args.text.now (omega (arith, c.if-units-text.false, c.utf8_piece-bytes.ensures.taken)))) c.in_ok-write-2.ensures.bytes
