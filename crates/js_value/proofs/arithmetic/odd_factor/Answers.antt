use Rattle.std.proofs.Common.{sym}
use Rattle.js_value.proofs.Powers.{pow-one}
use Rattle.js_value.proofs.arithmetic.odd_factor.Goals as goal

pub returns-then-exponent-eq1 : goal.returns-then-exponent-eq1
returns-then-exponent-eq1 c = rw c.if-exponent-eq1.true (sym (pow-one c.args.base))
