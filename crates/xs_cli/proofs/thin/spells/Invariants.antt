use Rattle.std.proofs.Common.{◌≡◌, drop}
use Rattle.xs_cli.specs.Thin.{spells}
use Rattle.xs_cli.proofs.thin.spells.Given as goal

abbrev pub invariant-loop-token : goal.invariant-loop-token
invariant-loop-token l = spells l.tokens l.fn.part ≡ spells (drop l.token-index l.tokens) l.rest
