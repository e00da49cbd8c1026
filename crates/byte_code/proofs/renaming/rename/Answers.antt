use Rattle.std.proofs.Common.{◌≡◌, ◌≤◌, ◌+◌, length, sym, ap, subst, ◌∙◌, arith}
use Rattle.byte_code.specs.declared.operand.Operand.TheVariants as operand
use Rattle.byte_code.specs.Operands.{operand_bytes}
use Rattle.byte_code.specs.Instructions.{parts}
use Rattle.byte_code.specs.ValidCode.{At, IsInBounds, end_of}
use Rattle.byte_code.proofs.Starts.{ends_inside}
use Rattle.byte_code.proofs.Renames.{Progress, at_first, here_at, none_here, after_name, after_other}
use Rattle.byte_code.proofs.Renamed.{valid_new, ends}
use Rattle.byte_code.proofs.renaming.rename.Goals as goal
use Rattle.byte_code.proofs.renaming.rename.Goals.{in-Name, in_default-operand}

pub loop-at-init : goal.loop-at-init
loop-at-init c = record { inside = omega arith; progress = at_first c.args.code.now c.args.map.now }

pub unreachable-requires : goal.unreachable-requires
unreachable-requires c = none_here c.args.code.now c.args.map.now c.loop-at.code c.loop-at.at c.loop-at.invariant.progress c.requires.valid.instructions c.loop-at-test.true c.in_default.ensures.none

pub overflow_sub-name : goal.overflow_sub-name
overflow_sub-name c =
    let here : At c.args.code.now c.loop-at.at c.in-Some.op = here_at c.args.code.now c.args.map.now c.loop-at.code c.loop-at.at c.in-Some.op c.loop-at.invariant.progress c.in-Some.ensures.found.0 c.in-Some.ensures.found.1 in
    let named : IsInBounds c.requires.bounds (operand.Name c.in-Name.name) = subst (IsInBounds c.requires.bounds) (sym c.in-Name.ensures) (c.requires.valid.operands c.loop-at.at c.in-Some.op here) in
    named.0

pub bounds-map-name : goal.bounds-map-name
bounds-map-name c =
    let here : At c.args.code.now c.loop-at.at c.in-Some.op = here_at c.args.code.now c.args.map.now c.loop-at.code c.loop-at.at c.in-Some.op c.loop-at.invariant.progress c.in-Some.ensures.found.0 c.in-Some.ensures.found.1 in
    let named : IsInBounds c.requires.bounds (operand.Name c.in-Name.name) = subst (IsInBounds c.requires.bounds) (sym c.in-Name.ensures) (c.requires.valid.operands c.loop-at.at c.in-Some.op here) in
    omega (arith, named.0, named.1, c.requires.names)

pub write_name-requires : goal.write_name-requires
write_name-requires c =
    let inside : end_of c.loop-at.at c.in-Some.op ≤ length c.loop-at.code = ends_inside c.loop-at.code c.loop-at.at c.in-Some.op c.in-Some.ensures.found.1 in
    let three : length (operand_bytes (parts c.in-Some.op).1) ≡ 2 = ap (λ o. length (operand_bytes o)) (sym c.in-Name.ensures) in
    omega arith

pub loop-at-preserved : goal.loop-at-preserved
loop-at-preserved c =
    let p : Progress c.args.code.now c.args.map.now c.loop-at.code c.loop-at.at = c.loop-at.invariant.progress in
    let here : At c.args.code.now c.loop-at.at c.in-Some.op = here_at c.args.code.now c.args.map.now c.loop-at.code c.loop-at.at c.in-Some.op p c.in-Some.ensures.found.0 c.in-Some.ensures.found.1 in
    let inside : end_of c.loop-at.at c.in-Some.op ≤ length c.args.code.now = ends_inside c.args.code.now c.loop-at.at c.in-Some.op here.begins in
    let after : Progress c.args.code.now c.args.map.now c.match-operand.code (end_of c.loop-at.at c.in-Some.op) = elim c.match-operand.branch [
      | in-Name w ↦ after_name c.args.code.now c.args.map.now c.loop-at.code c.match-operand.code c.loop-at.at c.in-Some.op w.in-Name.name p here c.in-Some.ensures.found.1 c.loop-at-test.true (sym w.in-Name.ensures) (w.code-is ∙ w.write_name.ensures)
      | in_default-operand w ↦
          let same : Progress c.args.code.now c.args.map.now c.loop-at.code (end_of c.loop-at.at c.in-Some.op) =
          after_other c.args.code.now c.args.map.now c.loop-at.code c.loop-at.at c.in-Some.op p here c.in-Some.ensures.found.1 (λ n e. w.in_default-operand.not-Name n (c.operand.ensures ∙ e)) in
          subst (λ x. Progress c.args.code.now c.args.map.now x (end_of c.loop-at.at c.in-Some.op)) (sym w.code-is) same
    ] in
    record {
      inside = omega (arith, c.in-Some.ensures.found.2);
      progress = subst (λ n. Progress c.args.code.now c.args.map.now c.match-operand.code (c.loop-at.at + n)) (sym c.in-Some.ensures.found.2) after;
    }

pub returns-clause-renamed : goal.returns-clause-renamed
returns-clause-renamed c = (ends c.args.code.now c.args.map.now c.loop-at.code c.loop-at.at (omega (arith, c.loop-at.auto.code)) (λ i. (c.type_inv.map i).fits) c.loop-at.invariant.progress).there

pub returns-clause-valid : goal.returns-clause-valid
returns-clause-valid c = valid_new c.args.code.now c.args.map.now c.loop-at.code (ends c.args.code.now c.args.map.now c.loop-at.code c.loop-at.at (omega (arith, c.loop-at.auto.code)) (λ i. (c.type_inv.map i).fits) c.loop-at.invariant.progress)
