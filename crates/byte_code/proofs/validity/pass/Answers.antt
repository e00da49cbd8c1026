use Rattle.std.proofs.Common.{arith}
use Rattle.byte_code.specs.Frames.{bounds_of}
use Rattle.byte_code.proofs.Passing.{begins, ends}
use Rattle.byte_code.proofs.validity.pass.Goals as goal

pub loop-front-init : goal.loop-front-init
loop-front-init c = record { inside = omega arith; kept = begins c.args.code.now (bounds_of c.args.frame) c.args.heights.now c.requires.room c.requires.fresh }

pub returns-clause-refused : goal.returns-clause-refused
returns-clause-refused c = ends c.args.code.now (bounds_of c.args.frame) c.loop-front.heights c.loop-front.front.at c.loop-front.front.before c.is_none.result (omega arith) c.loop-front.invariant.kept c.is_none.ensures
