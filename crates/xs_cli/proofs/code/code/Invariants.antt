use Rattle.std.proofs.Common.{◌≡◌, ◌++◌, drop}
use Rattle.xs_cli.specs.Code.{body, spelled}
use Rattle.xs_cli.proofs.code.code.Given as goal

abbrev pub invariant-loop-text : goal.invariant-loop-text
invariant-loop-text l = spelled (body l.names l.texts) ≡ l.code ++ spelled (body l.names (drop l.text-index l.texts))
