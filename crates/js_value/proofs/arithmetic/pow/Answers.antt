use Rattle.std.proofs.Common.{◌≡◌, ◌<◌, ◌≤◌, ◌^◌, true, unsigned_abs, FitsSigned, w64, sym, ◌∙◌, inl, inr}
use Rattle.std.proofs.lemmas.Result.{err_from_is_err_and}
use Rattle.std.proofs.lemmas.Int.{to_z-of_z}
use Rattle.js_value.specs.Number.{greatest, is_below_zero}
use Rattle.js_value.proofs.Powers.{product_some, product_none, power_past, power_fraction, power_whole, below_zero, not_below_zero}
use Rattle.js_value.proofs.arithmetic.pow.Goals as goal

pub returns-in_err-magnitude : goal.returns-in_err-magnitude
returns-in_err-magnitude c =
    let p = err_from_is_err_and c.from_residual.result c.from_residual.ensures.1 in
    let a_is = to_z-of_z w64 c.args.a c.ranges.a in
    let b_is = to_z-of_z w64 c.args.b c.ranges.b in
    let large = product_none (c.unsigned_abs.result ^ c.unsigned_abs-2.result) c.in_err-magnitude.ensures in
    let large' : greatest < unsigned_abs c.args.a ^ unsigned_abs c.args.b = rw (c.unsigned_abs.ensures.value, c.unsigned_abs-2.ensures.value, a_is, b_is) at large in
    rw p.1 (power_past c.args.a c.args.b large')

pub returns-then-magnitude-ne1 : goal.returns-then-magnitude-ne1
returns-then-magnitude-ne1 c =
    let a_is = to_z-of_z w64 c.args.a c.ranges.a in
    let b_is = to_z-of_z w64 c.args.b c.ranges.b in
    let told = product_some (c.unsigned_abs.result ^ c.unsigned_abs-2.result) c.in_ok-magnitude.magnitude c.in_ok-magnitude.ensures in
    let same : c.in_ok-magnitude.magnitude ≡ unsigned_abs c.args.a ^ unsigned_abs c.args.b = rw (c.unsigned_abs.ensures.value, c.unsigned_abs-2.ensures.value, a_is, b_is) at told.0 in
    power_fraction c.args.a c.args.b (below_zero c.args.b (rw b_is at c.if-b-lt0.true)) (λ h. c.if-magnitude-ne1.true (same ∙ h))

pub returns : goal.returns
returns c =
    let a_is = to_z-of_z w64 c.args.a c.ranges.a in
    let b_is = to_z-of_z w64 c.args.b c.ranges.b in
    let fits : FitsSigned w64 c.with_sign.result = record { sfits = c.with_sign.type_inv } in
    let told = product_some (c.unsigned_abs.result ^ c.unsigned_abs-2.result) c.in_ok-magnitude.magnitude c.in_ok-magnitude.ensures in
    let same : c.in_ok-magnitude.magnitude ≡ unsigned_abs c.args.a ^ unsigned_abs c.args.b = rw (c.unsigned_abs.ensures.value, c.unsigned_abs-2.ensures.value, a_is, b_is) at told.0 in
    let small : unsigned_abs c.args.a ^ unsigned_abs c.args.b ≤ greatest = rw (c.unsigned_abs.ensures.value, c.unsigned_abs-2.ensures.value, a_is, b_is) at told.1 in
    let one : is_below_zero c.args.b ≡ true → unsigned_abs c.args.a ^ unsigned_abs c.args.b ≡ 1 =
    λ below. elim c.else-b-lt0.either [ inl one ↦ sym same ∙ one.1 | inr above ↦ not_below_zero c.args.b (rw b_is at above) below ] in
    rw (to_z-of_z w64 c.with_sign.result fits, c.with_sign.ensures, c.has_negative_power.ensures, a_is, b_is, same) (power_whole c.args.a c.args.b small one)
