use Rattle.std.proofs.Common.{◌≡◌, ◌+◌, ◌*◌, ◌<◌, ◌≤◌, take, length, get_or, sym, arith}
use Rattle.std.specs.Char.{digit_value}
use Rattle.std.specs.Str.Parse.{AllDigits, digits_value}
use Rattle.std.proofs.lemmas.Int.Digits.{digits_more, digits_value_more}
use Rattle.std.proofs.lemmas.List.{take_all}
use Rattle.std.proofs.lemmas.Bool.Decides.{nat_tests}
use Rattle.js_value.specs.Number.{greatest}
use Rattle.js_value.proofs.Reading.{number_none_empty, number_none_other, number_none_large, number_some}
use Rattle.js_value.proofs.literals.digits_number.Goals as goal

pub returns-then-is_empty-clause-value : goal.returns-then-is_empty-clause-value
returns-then-is_empty-clause-value c =
    let none : length c.args.digits.now ≡ 0 = grind (arith, nat_tests) in
    sym (number_none_empty c.args.radix c.args.digits.now none)

pub returns-then-digit-base-clause-value : goal.returns-then-digit-base-clause-value
returns-then-digit-base-clause-value c =
    let other : c.args.radix ≤ digit_value (get_or c.args.digits.now c.loop-unit.unit-index 0) = rw (← c.from-base.ensures, ← c.digit_value-digit.ensures) c.if-digit-base.true in
    sym (number_none_other c.args.radix c.args.digits.now c.loop-unit.unit-index c.loop-unit-test.true other)

pub returns-then-value-gt-GREATEST-clause-value : goal.returns-then-value-gt-GREATEST-clause-value
returns-then-value-gt-GREATEST-clause-value c =
    let more : digits_value c.from-base.result (take (c.loop-unit.unit-index + 1) c.args.digits.now) ≡ c.loop-unit.value * c.from-base.result + c.digit_value-digit.result =
    rw (c.loop-unit.invariant.1, c.digit_value-digit.ensures) (digits_value_more c.from-base.result c.args.digits.now c.loop-unit.unit-index c.loop-unit-test.true) in
    let large : greatest < digits_value c.from-base.result (take (c.loop-unit.unit-index + 1) c.args.digits.now) = rw more c.if-value-gt-GREATEST.true in
    let some : 0 < c.args.radix = omega (arith, c.requires.low) in
    sym (number_none_large c.args.radix c.args.digits.now (c.loop-unit.unit-index + 1) some (rw c.from-base.ensures at large))

pub loop-unit-preserved : goal.loop-unit-preserved
loop-unit-preserved c =
    let small : digit_value (get_or c.args.digits.now c.loop-unit.unit-index 0) < c.from-base.result = rw (← c.digit_value-digit.ensures) c.if-digit-base.false in (
      digits_more c.from-base.result c.args.digits.now c.loop-unit.unit-index c.loop-unit-test.true c.loop-unit.invariant.0 small,
      sym (rw (c.loop-unit.invariant.1, c.digit_value-digit.ensures) (digits_value_more c.from-base.result c.args.digits.now c.loop-unit.unit-index c.loop-unit-test.true)),
      c.if-value-gt-GREATEST.false,
    )

pub returns-clause-value : goal.returns-clause-value
returns-clause-value c =
    let all : take c.loop-unit.unit-index c.args.digits.now ≡ c.args.digits.now = take_all c.loop-unit.unit-index c.args.digits.now c.loop-unit-test.false in
    let digits : AllDigits c.args.radix c.args.digits.now = rw (all, c.from-base.ensures) at c.loop-unit.invariant.0 in
    let value : c.loop-unit.value ≡ digits_value c.args.radix c.args.digits.now = rw (all, c.from-base.ensures) at c.loop-unit.invariant.1 in
    let some : 0 < length c.args.digits.now = grind (arith, nat_tests) in
    let small : digits_value c.args.radix c.args.digits.now ≤ greatest = rw (← value) c.loop-unit.invariant.2 in
    rw value (sym (number_some c.args.radix c.args.digits.now (some, digits) small))
