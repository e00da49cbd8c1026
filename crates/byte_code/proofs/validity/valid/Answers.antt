use Rattle.byte_code.specs.Frames.{bounds_of}
use Rattle.byte_code.proofs.Passing.{fresh}
use Rattle.byte_code.proofs.Sound.{is_valid, handlers_fit}
use Rattle.byte_code.proofs.validity.valid.Goals as goal

pub pass-requires-clause-fresh : goal.pass-requires-clause-fresh
pass-requires-clause-fresh c = fresh 65535

pub returns-then-pass : goal.returns-then-pass
returns-then-pass c = (
  λ h. is_valid c.args.code.now (bounds_of c.args.frame) c.pass.new.heights (record { pass = c.if-pass.ensures.passed; handlers = c.handlers_fit.ensures.0 h }),
  λ v. c.handlers_fit.ensures.1 (handlers_fit c.args.code.now (bounds_of c.args.frame) c.pass.new.heights c.if-pass.ensures.passed v),
)
