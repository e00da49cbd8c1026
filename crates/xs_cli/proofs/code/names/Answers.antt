use Rattle.std.proofs.Common.{arith}
use Rattle.xs_cli.proofs.Names.{names_more, names_end}
use Rattle.xs_cli.proofs.code.names.Goals as goal

pub loop-text-preserved : goal.loop-text-preserved
loop-text-preserved c = names_more c.args.texts.now c.loop-text.names c.add_name.new.names c.loop-text.text-index c.text-item.result c.loop-text.invariant (omega arith) c.text-item.is (rw c.as_slice.ensures at c.in_ok-add_name.ensures)

pub returns : goal.returns
returns c = names_end c.args.texts.now c.loop-text.names c.loop-text.text-index c.loop-text.invariant (omega arith)
