use Rattle.std.proofs.Common.{◌≡◌, ◌*ℤ◌, ◌^◌, pos, ◌∙◌, ap, refl, FitsSigned, w32, w64, of_z, to_z}
use Rattle.std.proofs.lemmas.Int.{to_z-of_z}
use Rattle.js_value.specs.Word.{to_int32, shift_count}
use Rattle.js_value.proofs.Shifts.{product_fits}
use Rattle.js_value.proofs.words.shl.Goals as goal

pub returns : goal.returns
returns c =
    let word : FitsSigned w32 c.to_int32.result = record { sfits = c.to_int32.type_inv } in
    let first : c.from.result ≡ c.to_int32.result = c.from.ensures ∙ to_z-of_z w32 c.to_int32.result word in
    let first_fits : FitsSigned w64 c.from.result = record { sfits = c.from.type_inv } in
    let second_fits : FitsSigned w64 c.from-2.result = record { sfits = c.from-2.type_inv } in
    let product : c.from.result *ℤ c.from-2.result ≡ to_int32 c.args.a *ℤ pos (2 ^ shift_count c.args.b) =
    rw (first, c.to_int32.ensures, to_z-of_z w64 c.args.a c.ranges.a, c.from-2.ensures, c.power_of_two.ensures.value, c.shift_count.ensures.count, to_z-of_z w64 c.args.b c.ranges.b) refl in
    let fits : FitsSigned w64 (c.from.result *ℤ c.from-2.result) = rw (first, c.from-2.ensures) (product_fits c.to_int32.result c.power_of_two.result word c.power_of_two.ensures.bound) in
    to_z-of_z w64 c.from-3.result (record { sfits = c.from-3.type_inv })
    ∙ c.from-3.ensures
    ∙ to_z-of_z w32 c.to_int32-2.result (record { sfits = c.to_int32-2.type_inv })
    ∙ c.to_int32-2.ensures
    ∙ ap (λ z. to_int32 (to_z w64 (of_z w64 z))) (ap (λ x. x *ℤ to_z w64 (of_z w64 c.from-2.result)) (to_z-of_z w64 c.from.result first_fits) ∙ ap (λ y. c.from.result *ℤ y) (to_z-of_z w64 c.from-2.result second_fits))
    ∙ ap to_int32 (to_z-of_z w64 (c.from.result *ℤ c.from-2.result) fits ∙ product)
