use Rattle.std.proofs.Common.{◌≡◌, ◌∷◌, false, nat_lt, arith}
use Rattle.std.proofs.lemmas.Bool.Decides.{nat_tests}
use Rattle.js_value.proofs.case.cut_code_point.Goals as goal

pub returns-in-Err-clause-err : goal.returns-in-Err-clause-err
returns-in-Err-clause-err c =
    let high : nat_lt c.args.code_point 0x10000 ≡ false = grind (arith, nat_tests) in
    rw high (λ rest. c.in-Err.ensures.err (_ ∷ rest))
