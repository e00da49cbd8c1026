use Rattle.std.proofs.Common.{◌≡◌, ◌<◌, ◌≤◌, ◌*◌, ◌%◌, ◌^◌, ◌∙◌, ap}
use Rattle.std.proofs.lemmas.Result.{err_from_is_err_and}
use Rattle.js_value.specs.Number.{greatest}
use Rattle.js_value.proofs.Powers.{product_some, product_none, is_none, next, power_large, square_large}
use Rattle.js_value.proofs.arithmetic.magnitude_power.Goals as goal

pub returns-in_err-power : goal.returns-in_err-power
returns-in_err-power c =
    let p = err_from_is_err_and c.from_residual.result c.from_residual.ensures.1 in
    let large : greatest < c.loop-left.power * c.odd_factor.result = product_none (c.loop-left.power * c.odd_factor.result) c.in_err-power.ensures in
    let large' : greatest < c.loop-left.power * c.loop-left.square ^ (c.loop-left.left % 2) = rw c.odd_factor.ensures at large in
    rw p.1 (is_none (c.args.base ^ c.args.exponent) (power_large _ _ _ _ _ c.loop-left.invariant large'))

pub returns-in_err-square : goal.returns-in_err-square
returns-in_err-square c =
    let p = err_from_is_err_and c.from_residual-in_err-square.result c.from_residual-in_err-square.ensures.1 in
    let so_far = product_some (c.loop-left.power * c.odd_factor.result) c.in_ok-power.power c.in_ok-power.ensures in
    let e : c.in_ok-power.power ≡ c.loop-left.power * c.loop-left.square ^ (c.loop-left.left % 2) = so_far.0 ∙ ap (λ f. c.loop-left.power * f) c.odd_factor.ensures in
    let large : greatest < c.loop-left.square * c.loop-left.square = product_none (c.loop-left.square * c.loop-left.square) c.in_err-square.ensures in
    rw p.1 (is_none (c.args.base ^ c.args.exponent) (square_large _ _ _ _ _ _ c.loop-left.invariant c.loop-left-test.true e large))

pub loop-left-preserved : goal.loop-left-preserved
loop-left-preserved c =
    let so_far = product_some (c.loop-left.power * c.odd_factor.result) c.in_ok-power.power c.in_ok-power.ensures in
    let e : c.in_ok-power.power ≡ c.loop-left.power * c.loop-left.square ^ (c.loop-left.left % 2) = so_far.0 ∙ ap (λ f. c.loop-left.power * f) c.odd_factor.ensures in
    let small : c.in_ok-power.power ≤ greatest = rw so_far.0 so_far.1 in
    next _ _ _ _ _ _ _ c.loop-left.invariant e small (product_some (c.loop-left.square * c.loop-left.square) c.in_ok-square.square c.in_ok-square.ensures).0
