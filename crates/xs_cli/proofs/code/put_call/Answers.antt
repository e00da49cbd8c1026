use Rattle.std.proofs.Common.{append_assoc}
use Rattle.xs_cli.specs.Code.{spelled}
use Rattle.xs_cli.proofs.code.put_call.Goals as goal

pub returns : goal.returns
unfolding spelled
returns c = rw (c.in_ok-encode-5.ensures.ok, c.in_ok-encode-4.ensures.ok, c.in_ok-encode-3.ensures.ok, c.in_ok-encode-2.ensures.ok, c.in_ok-encode.ensures.ok) (simp append_assoc)
