use Rattle.std.proofs.Common.{◌≡◌, ◌++◌, length, option_map, false}
use Rattle.xs_cli.specs.Thin.{strings, parts}
use Rattle.xs_cli.specs.Before.{is_call}
use Rattle.xs_cli.proofs.thin.printed.Given as goal

abbrev pub invariant-loop-texts : goal.invariant-loop-texts
invariant-loop-texts l = strings false (parts l.fn.text) ≡ option_map (λ later. l.texts ++ later) (strings (is_call l.before) (parts l.rest))

abbrev pub decreases-loop-texts : goal.decreases-loop-texts
decreases-loop-texts l = length l.rest
