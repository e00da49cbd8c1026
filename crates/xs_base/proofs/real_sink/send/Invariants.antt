use Rattle.xs_base.specs.Outside.{Sent}
use Rattle.xs_base.proofs.real_sink.send.Given as goal

abbrev pub invariant-loop : goal.invariant-loop
invariant-loop g l = Sent (g.W.Write.contents l.fn.to) (g.W.Write.contents l.to) l.bytes l.rest
