use Rattle.std.proofs.Common.{arith}
use Rattle.xs_cli.proofs.Names.{length-names_of}
use Rattle.xs_cli.proofs.code.compile.Goals as goal

pub code-requires : goal.code-requires
code-requires c = let h = length-names_of c.args.texts.now in rw c.as_slice-2.ensures (rw c.in_ok-names.ensures (rw c.as_slice.ensures (omega (arith, h))))
