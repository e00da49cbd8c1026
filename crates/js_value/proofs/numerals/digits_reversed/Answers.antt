use Rattle.std.proofs.Common.{◌+◌, ◌≤◌, ◌<◌, length, arith}
use Rattle.std.specs.Int.Digits.{digits_of}
use Rattle.js_value.proofs.Digits.{next, count_digits, zero_reversed, some_digits}
use Rattle.js_value.proofs.numerals.digits_reversed.Goals as goal

pub returns-then-n-eq0-clause-digits : goal.returns-then-n-eq0-clause-digits
returns-then-n-eq0-clause-digits c = zero_reversed c.args.radix c.args.n c.args.into.now c.told-into c.if-n-eq0.true

pub loop-left-preserved : goal.loop-left-preserved
loop-left-preserved c =
    let all : length (digits_of c.args.radix c.loop-left.left) + c.loop-left.length ≤ 53 = count_digits _ _ _ _ _ _ c.requires.low c.requires.number c.loop-left.invariant.0 (omega arith) in
    let some : 0 < length (digits_of c.args.radix c.loop-left.left) = some_digits c.args.radix c.loop-left.left c.requires.low c.loop-left-test.true in
    (rw c.digit_char.ensures (next _ _ _ _ _ _ c.requires.low c.loop-left-test.true (omega arith) c.loop-left.invariant.0), omega arith)
