use Rattle.std.proofs.Common.{◌≡◌, ◌++◌, rules, length, drop, Some, ap, subst}
use Rattle.xs_base.specs.Outside.{Sent}
use Rattle.xs_base.proofs.Writes.{Sent-none}
use Rattle.xs_base.proofs.mem_sink.MemSinkSink.write.Goals as goal

pub returns-then-self-len-clause-bytes : goal.returns-then-self-len-clause-bytes
returns-then-self-len-clause-bytes c =
    let same : c.self.inside.bytes.items ≡ c.args.self.now.written = ap (λ sink. sink.written) c.self.view_is in
    (c.args.bytes.now, subst (λ written. Sent (Some written) (Some c.self.inside.bytes.items) c.args.bytes.now c.args.bytes.now) same (Sent-none _ _))

pub returns-clause-bytes : goal.returns-clause-bytes
returns-clause-bytes c =
    let received : c.extend_from_slice.new.self.items ≡ c.args.self.now.written ++ c.standing_part.result.now = search rules in
    (drop (length c.standing_part.result.now) c.args.bytes.now, record { front = c.standing_part.result.now; whole = c.standing_part.ensures.front; received = received })
