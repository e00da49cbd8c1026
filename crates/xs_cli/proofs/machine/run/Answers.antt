use Rattle.std.proofs.Common.{◌∙◌, [], ap}
use Rattle.std.proofs.lemmas.Result.{err_from_is_err_and}
use Rattle.xs_cli.specs.Machine.{runs}
use Rattle.xs_cli.proofs.Running.{steps_on, ends_all, fails_in, never_stuck}
use Rattle.xs_cli.proofs.machine.run.Goals as goal

pub returns-in_err-step-clause-run : goal.returns-in_err-step-clause-run
returns-in_err-step-clause-run g c =
    let p = err_from_is_err_and c.from_residual.result c.from_residual.ensures.1 in
    rw (p.1, p.2) (λ ops good e events r. fails_in _ _ _ _ c.step.new.stack _ _ _ events c.in-Some.op c.in-Some.bytes c.in_err-step.field-0.0 (c.loop-op.invariant.0 ops good (c.as_slice-code.ensures ∙ e) events (ap (λ n. runs n ops []) c.as_slice-names.ensures ∙ r)) c.in-Some.ensures.spelled c.in_err-step.ensures.step)

pub loop-op-preserved : goal.loop-op-preserved
loop-op-preserved g c =
    let did = rw c.in-Goes.is at c.in_ok-step.ensures.step in
    (λ ops good e events r. steps_on _ _ _ _ c.step.new.stack _ _ _ events c.in-Some.op c.in-Some.bytes (c.loop-op.invariant.0 ops good e events r) c.in-Some.ensures.spelled did, c.in_ok-step.ensures.cause ∙ c.loop-op.invariant.1)

pub returns-in-Returns-clause-run : goal.returns-in-Returns-clause-run
returns-in-Returns-clause-run g c =
    let did = rw c.in-Returns.is at c.in_ok-step.ensures.step in
    λ ops good e events r. ends_all _ _ _ _ c.step.new.stack _ _ _ events c.in-Some.op c.in-Some.bytes (c.loop-op.invariant.0 ops good (c.as_slice-code.ensures ∙ e) events (ap (λ n. runs n ops []) c.as_slice-names.ensures ∙ r)) c.in-Some.ensures.spelled did

pub returns-clause-run : goal.returns-clause-run
returns-clause-run g c = λ ops good e events r. never_stuck _ _ _ _ _ _ events (c.loop-op.invariant.0 ops good (c.as_slice-code.ensures ∙ e) events (ap (λ n. runs n ops []) c.as_slice-names.ensures ∙ r)) c.in_default.ensures.none
