use Rattle.std.proofs.Common.{arith}
use Rattle.xs_cli.proofs.Codes.{code_more, code_end}
use Rattle.xs_cli.proofs.code.code.Goals as goal

pub loop-text-preserved : goal.loop-text-preserved
loop-text-preserved c = code_more c.args.names.now c.args.texts.now c.loop-text.text-index c.loop-text.code c.put_call.new.code c.text-item.result c.loop-text.invariant (omega arith) c.text-item.is (rw (c.name_number-number.ensures, c.as_slice.ensures) at c.in_ok-put_call.ensures)

pub returns : goal.returns
returns c = code_end c.args.names.now c.args.texts.now c.loop-text.text-index c.loop-text.code c.encode.new.into c.encode-2.new.into c.loop-text.invariant (omega arith) c.in_ok-encode.ensures.ok c.in_ok-encode-2.ensures.ok
