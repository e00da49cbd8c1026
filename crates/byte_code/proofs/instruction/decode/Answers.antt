-- Where the function gives up, what begins there would be what was read, and would have passed.
use Rattle.std.proofs.Common.{◌≡◌, ◌≤◌, ◌+◌, length, refl, sym, ap, subst, arith, ◌∙◌}
use Rattle.byte_code.specs.Instructions.{spelling, IsShortest, IsInstruction, Begins}
use Rattle.byte_code.proofs.Decoding.{StandsAt, IsReading, begins, only}
use Rattle.byte_code.proofs.instruction.decode.Goals as goal
use Rattle.byte_code.proofs.instruction.decode.Goals.{then-count-rest-via-then-count-rest, then-count-rest-via-else-count-rest+then-not-is_shortest}

pub returns-then-count-rest-clause-none : goal.returns-then-count-rest-clause-none
returns-then-count-rest-clause-none c op i b =
    let reading : IsReading c.args.code.now c.args.at c.split_at.result.1.now c.read_following.result =
    record { within = c.in_ok-number.ensures.lookup.3.0; after = c.split_at.ensures.back; follows = c.read_following.ensures } in
    let mine : StandsAt c.args.code.now c.args.at c.read_following.result c.in_ok-op.op =
    record { number = c.in_ok-op.ensures.some.0 ∙ c.in_ok-number.ensures.lookup.3.1 0; operand = c.in_ok-op.ensures.some.1 } in
    let same : (c.in_ok-op.op ≡ op) × (length (spelling op) ≤ length c.split_at.result.1.now + 1) = only _ _ _ _ _ op reading mine i b in
    let lengths : length (spelling c.in_ok-op.op) ≡ length (spelling op) = ap (λ o. length (spelling o)) same.0 in
    elim c.then-count-rest.branch [
      | then-count-rest-via-then-count-rest w ↦ absurd (omega arith)
      | then-count-rest-via-else-count-rest+then-not-is_shortest w ↦
          let short : IsShortest c.in_ok-op.op = subst IsShortest (sym same.0) i.shortest in
          cc (w.is_shortest.ensures.1 short)
    ]

pub returns-then-count-rest-clause-spelled : goal.returns-then-count-rest-clause-spelled
returns-then-count-rest-clause-spelled c op i b = absurd (returns-then-count-rest-clause-none c op i b)

pub returns-clause-found : goal.returns-clause-found
returns-clause-found c =
    let reading : IsReading c.args.code.now c.args.at c.split_at.result.1.now c.read_following.result =
    record { within = c.in_ok-number.ensures.lookup.3.0; after = c.split_at.ensures.back; follows = c.read_following.ensures } in
    let mine : StandsAt c.args.code.now c.args.at c.read_following.result c.in_ok-op.op =
    record { number = c.in_ok-op.ensures.some.0 ∙ c.in_ok-number.ensures.lookup.3.1 0; operand = c.in_ok-op.ensures.some.1 } in
    let found : IsInstruction c.in_ok-op.op × Begins _ c.in_ok-op.op =
    begins _ _ _ _ _ (λ i. (c.type_inv.code i).fits) reading mine (omega arith) (c.if-not-is_shortest.ensures.0 refl) in
    (found.0, found.1, c.length-count.ensures)

pub returns-clause-spelled : goal.returns-clause-spelled
returns-clause-spelled c op i b =
    let reading : IsReading c.args.code.now c.args.at c.split_at.result.1.now c.read_following.result =
    record { within = c.in_ok-number.ensures.lookup.3.0; after = c.split_at.ensures.back; follows = c.read_following.ensures } in
    let mine : StandsAt c.args.code.now c.args.at c.read_following.result c.in_ok-op.op =
    record { number = c.in_ok-op.ensures.some.0 ∙ c.in_ok-number.ensures.lookup.3.1 0; operand = c.in_ok-op.ensures.some.1 } in
    let same : (c.in_ok-op.op ≡ op) × (length (spelling op) ≤ length c.split_at.result.1.now + 1) = only _ _ _ _ _ op reading mine i b in
    let lengths : length (spelling c.in_ok-op.op) ≡ length (spelling op) = ap (λ o. length (spelling o)) same.0 in
    let e : c.in_ok-op.op ≡ op = same.0 in
    cc c.length-count.ensures
