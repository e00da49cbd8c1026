use Rattle.std.proofs.Common.{◌≡◌, ◌<◌, length, take, reverse, unsigned_abs, w64, arith}
use Rattle.std.proofs.lemmas.Int.{to_z-of_z}
use Rattle.js_value.specs.Numeral.{digit_text}
use Rattle.js_value.proofs.Digits.{positive_text, negative_text}
use Rattle.js_value.proofs.numerals.number_reversed.Goals as goal

pub returns-then-n-ge0-clause-text : goal.returns-then-n-ge0-clause-text
returns-then-n-ge0-clause-text c =
    let n_is = to_z-of_z w64 c.args.n c.ranges.n in
    rw (c.digits_reversed-length.ensures.digits, c.from.ensures, c.unsigned_abs.ensures.value, n_is) (positive_text c.args.radix c.args.n (rw n_is at c.if-n-ge0.true))

pub returns-clause-text : goal.returns-clause-text
returns-clause-text c =
    let n_is = to_z-of_z w64 c.args.n c.ranges.n in
    let here : c.digits_reversed-length.result < length c.digits_reversed-length.new.into = omega (arith, c.digits_reversed-length.array_long, c.digits_reversed-length.ensures.bound) in
    let digits : reverse (take c.digits_reversed-length.result c.digits_reversed-length.new.into) ≡ digit_text c.args.radix (unsigned_abs c.args.n) =
    rw (c.from.ensures, c.unsigned_abs.ensures.value, n_is) at c.digits_reversed-length.ensures.digits in
    negative_text c.args.radix c.args.n c.digits_reversed-length.new.into c.digits_reversed-length.result here (rw n_is at c.if-n-ge0.false) digits
