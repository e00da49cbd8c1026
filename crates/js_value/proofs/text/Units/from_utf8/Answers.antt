use Rattle.std.proofs.Common.{◌≡◌, ◌<◌, length, sym, ◌∙◌, arith, append_assoc}
use Rattle.std.proofs.lemmas.List.{append-nil, nil_from_length}
use Rattle.std.proofs.lemmas.Bool.Decides.{nat_tests}
use Rattle.js_value.specs.Text.{units}
use Rattle.js_value.proofs.Sequences.{units-split}
use Rattle.js_value.proofs.text.Units.from_utf8.Goals as goal

pub loop-rest-preserved : goal.loop-rest-preserved
loop-rest-preserved c =
    let some : 0 < length c.loop-rest.rest.now = omega (arith, c.sequence_length.ensures.some, c.sequence_length.ensures.within) in
    rw (c.in_ok-push_code_point.ensures.ok, c.scalar_value.ensures.value, c.split_at.ensures.front, c.split_at.ensures.back, append_assoc, ← units-split c.loop-rest.rest.now c.sequence_length.result some (sym c.sequence_length.ensures.length)) c.loop-rest.invariant

pub returns : goal.returns
unfolding units
returns c =
    let none : length c.loop-rest.rest.now ≡ 0 = grind (arith, nat_tests) in
    sym (append-nil c.loop-rest.text) ∙ (rw (nil_from_length c.loop-rest.rest.now none) at c.loop-rest.invariant)
