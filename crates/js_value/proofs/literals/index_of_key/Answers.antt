use Rattle.std.proofs.Common.{◌≡◌, ◌<◌, Some, length, get_or, sym, ◌∙◌, arith}
use Rattle.js_value.proofs.Reading.{number_told}
use Rattle.js_value.proofs.Indices.{index_read, index_digits, index_lead}
use Rattle.js_value.proofs.literals.index_of_key.Goals as goal
use Rattle.js_value.proofs.literals.index_of_key.Goals.{else-units-gt1-via-then-units-gt1+else-units-eq-ZERO, else-units-gt1-via-else-units-gt1}

pub returns-then-units-eq-ZERO-clause-each : goal.returns-then-units-eq-ZERO-clause-each
returns-then-units-eq-ZERO-clause-each c = λ n f.
    (let one : length c.args.units.now ≡ 1 = index_lead c.args.units.now n f c.if-units-eq-ZERO.true in
    absurd (omega (arith, one, c.if-units-gt1.true)))

pub returns-in-Some-clause-index : goal.returns-in-Some-clause-index
returns-in-Some-clause-index c =
    let some : 0 < length c.args.units.now = (number_told 10 c.args.units.now c.in-Some.index (sym c.in-Some.ensures.value)).0.0 in
    let lead : get_or c.args.units.now 0 0 ≡ 0x30 → length c.args.units.now ≡ 1 = λ zero.
    elim c.else-units-gt1.branch [
      | else-units-gt1-via-then-units-gt1+else-units-eq-ZERO w ↦ absurd (w.if-units-eq-ZERO.false zero)
      | else-units-gt1-via-else-units-gt1 w ↦ omega (arith, w.if-units-gt1.false, some)
    ] in
    index_read c.args.units.now c.in-Some.index (sym c.in-Some.ensures.value) c.if-index-le-LAST_INDEX.true lead

pub returns-in-Some-clause-each : goal.returns-in-Some-clause-each
returns-in-Some-clause-each c = λ n f. c.in-Some.ensures.value ∙ index_digits c.args.units.now n f

pub returns-in_default-clause-each : goal.returns-in_default-clause-each
returns-in_default-clause-each c = λ n f.
    (let same : Some c.in-Some.index ≡ Some n = c.in-Some.ensures.value ∙ index_digits c.args.units.now n f in
    let index : c.in-Some.index ≡ n = cc in
    absurd (omega (arith, f.bound, index, c.if-index-le-LAST_INDEX.false)))

pub returns-in_default-2-clause-each : goal.returns-in_default-2-clause-each
returns-in_default-2-clause-each c = λ n f. c.in_default.ensures.value ∙ index_digits c.args.units.now n f
