use Rattle.std.proofs.Common.{ap, ◌∙◌, sym, subst}
use Rattle.xs_base.specs.Outside.{Sent}
use Rattle.xs_base.proofs.Writes.{Sent-kept, Sent-piece}
use Rattle.xs_base.proofs.real_sink.send.Goals.{in-Ok, in-Err}
use Rattle.xs_base.proofs.real_sink.send.Goals as goal

pub loop-preserved : goal.loop-preserved
loop-preserved g c = elim c.match-write.branch [
  | in-Ok w ↦ subst (Sent (g.W.Write.contents c.args.to.now) (g.W.Write.contents c.write.new.self) c.args.bytes.now) (sym (ap (λ r. r.now) w.rest-is ∙ w.split_at.ensures.back)) (Sent-piece _ _ _ _ _ w.in-Ok.taken c.loop.invariant w.in-Ok.ensures.bytes)
  | in-Err w ↦ subst (Sent (g.W.Write.contents c.args.to.now) (g.W.Write.contents c.write.new.self) c.args.bytes.now) (sym (ap (λ r. r.now) w.rest-is)) (Sent-kept _ _ _ _ _ c.loop.invariant w.in-Err.ensures.bytes)
]
