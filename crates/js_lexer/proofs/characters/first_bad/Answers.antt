use Rattle.std.proofs.Common.{◌<◌, ◌∙◌, length, sym, arith}
use Rattle.std.proofs.lemmas.List.{take_rest, length-drop}
use Rattle.js_lexer.proofs.Utf8.{first_bad-ascii, first_bad-sequence, first_bad-here}
use Rattle.js_lexer.proofs.characters.first_bad.Goals as goal

pub loop-rest-preserved-then-byte-lt128 : goal.loop-rest-preserved-then-byte-lt128
loop-rest-preserved-then-byte-lt128 c =
    let some : 0 < length c.loop-rest.rest.now = omega arith in
    rw (take_rest c.loop-rest.rest.now 1) (record {
      places = omega (arith, length-drop 1 c.loop-rest.rest.now);
      same = c.loop-rest.invariant.same ∙ first_bad-ascii c.loop-rest.at c.loop-rest.rest.now some c.if-byte-lt128.true;
    })

pub loop-rest-preserved : goal.loop-rest-preserved
loop-rest-preserved c =
    let n = c.sequence_length-length.result in
    let more : 1 < c.sequence_length-length.result = omega arith in
    rw (take_rest c.loop-rest.rest.now c.sequence_length-length.result) (record {
      places = omega (arith, length-drop c.sequence_length-length.result c.loop-rest.rest.now);
      same = c.loop-rest.invariant.same ∙ first_bad-sequence c.loop-rest.at c.sequence_length-length.result c.loop-rest.rest.now (sym c.sequence_length-length.ensures.length) more c.sequence_length-length.ensures.within;
    })

pub returns-then-length-eq1-clause-place : goal.returns-then-length-eq1-clause-place
returns-then-length-eq1-clause-place c =
    let some : 0 < length c.loop-rest.rest.now = omega arith in
    sym (c.loop-rest.invariant.same ∙ first_bad-here c.loop-rest.at c.loop-rest.rest.now some c.if-byte-lt128.false (sym c.sequence_length-length.ensures.length ∙ c.if-length-eq1.true))
