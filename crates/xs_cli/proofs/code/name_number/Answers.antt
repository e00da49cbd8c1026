use Rattle.std.proofs.Common.{◌∙◌, ◌+◌, ap, length, unwrap_or}
use Rattle.xs_cli.proofs.Names.{place_or_length}
use Rattle.xs_cli.proofs.code.name_number.Goals as goal

pub returns : goal.returns
returns c = ap (λ n. n + 1) (c.unwrap_or-place.ensures ∙ ap (λ o. unwrap_or o (length c.args.names.now)) c.place.ensures ∙ place_or_length c.args.names.now c.args.text.now)
