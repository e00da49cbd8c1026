use Rattle.xs_cli.proofs.machine.step.Goals as goal

pub returns-in-Undefined-clause-cause : goal.returns-in-Undefined-clause-cause
returns-in-Undefined-clause-cause g c = c.push.ensures.cause (g.O.Sink.faults c.args.out.now)

pub returns-in-Text-clause-cause : goal.returns-in-Text-clause-cause
returns-in-Text-clause-cause g c = c.push-in-Text.ensures.cause (g.O.Sink.faults c.args.out.now)

pub returns-in-Pop-clause-cause : goal.returns-in-Pop-clause-cause
returns-in-Pop-clause-cause g c = c.pop.ensures.cause (g.O.Sink.faults c.args.out.now)

pub returns-in-OuterGet-eq0-clause-cause : goal.returns-in-OuterGet-eq0-clause-cause
returns-in-OuterGet-eq0-clause-cause g c = c.push-in-OuterGet-eq0.ensures.cause (g.O.Sink.faults c.args.out.now)

pub returns-in-Return-clause-cause : goal.returns-in-Return-clause-cause
returns-in-Return-clause-cause g c = c.finish.ensures.cause (g.O.Sink.faults c.args.out.now)
