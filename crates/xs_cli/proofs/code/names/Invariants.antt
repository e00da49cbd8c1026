use Rattle.std.proofs.Common.{◌≡◌, drop}
use Rattle.xs_cli.specs.Code.{with_names, names_of}
use Rattle.xs_cli.proofs.code.names.Given as goal

abbrev pub invariant-loop-text : goal.invariant-loop-text
invariant-loop-text l = names_of l.texts ≡ with_names l.names (drop l.text-index l.texts)
