use Rattle.std.proofs.Common.{◌≡◌, length}
use Rattle.xs_cli.specs.Thin.{unblanked}
use Rattle.xs_cli.proofs.thin.unblanked.Given as goal

abbrev pub invariant-loop-rest : goal.invariant-loop-rest
invariant-loop-rest l = unblanked l.fn.text ≡ unblanked l.rest

abbrev pub decreases-loop-rest : goal.decreases-loop-rest
decreases-loop-rest l = length l.rest
