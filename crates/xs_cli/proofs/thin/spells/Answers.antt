use Rattle.std.proofs.Common.{◌≤◌, ◌∙◌, length, sym, arith}
use Rattle.std.proofs.lemmas.List.{at_drop_all}
use Rattle.xs_cli.specs.Thin.{spells}
use Rattle.xs_cli.proofs.thin.spells.Goals as goal

pub returns : goal.returns
unfolding spells
returns c = let h : length c.args.tokens.now ≤ c.loop-token.token-index = omega arith in c.are_blank.ensures ∙ sym (c.loop-token.invariant ∙ at_drop_all (λ t. spells t c.loop-token.rest.now) c.args.tokens.now c.loop-token.token-index h)
