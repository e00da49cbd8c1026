use Rattle.std.proofs.Common.{◌≡◌, ◌<◌, ◌==◌, [], ◌∷◌, length, ap, ◌∙◌, subst, arith}
use Rattle.std.proofs.lemmas.Bool.Decides.{nat_tests}
use Rattle.std.specs.Io.KnownBytes.{Consumes}
use Rattle.xs_base.specs.Line.{most}
use Rattle.xs_base.proofs.ByteReads.{FillsLine-end, FillsLine-short, FillsLine-long}
use Rattle.xs_base.proofs.real_lines.fill.Goals as goal

pub returns-in-None-clause-line : goal.returns-in-None-clause-line
returns-in-None-clause-line g c =
    let ended = rw c.in-None.is at c.in_ok-next_byte.ensures in
    FillsLine-end _ _ _ _ c.is_empty.result (c.is_empty.ensures ∙ ap (λ bytes. length bytes == 0) c.bytes.ensures.bytes) c.loop-from.invariant.kept c.loop-from.invariant.shape ended.0 ended.1

pub returns-in-Some-eq10-clause-line : goal.returns-in-Some-eq10-clause-line
returns-in-Some-eq10-clause-line g c =
    let short : length c.loop-from.line < most = grind (arith, nat_tests) in
    FillsLine-short _ _ _ _ c.loop-from.invariant.kept c.loop-from.invariant.shape short
    (subst (λ byte. Consumes (g.R.Read.remaining c.loop-from.from) (g.R.Read.remaining c.next_byte.new.from) (byte ∷ [])) c.in-Some-eq10.field-0-test (rw c.in-Some-eq10.is at c.in_ok-next_byte.ensures))

pub returns-clause-line : goal.returns-clause-line
returns-clause-line g c =
    let long : length c.loop-from.line ≡ most = grind (arith, nat_tests) in
    FillsLine-long _ _ _ c.loop-from.invariant.kept c.loop-from.invariant.shape long
