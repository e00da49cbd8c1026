use Rattle.std.proofs.Common.{◌∙◌, ◌++◌, ◌∷◌, [], ap, sym}
use Rattle.xs_cli.proofs.Names.{with_name_old, with_name_new}
use Rattle.xs_cli.proofs.code.add_name.Goals as goal

pub returns-then-is_some : goal.returns-then-is_some
returns-then-is_some c = sym (with_name_old c.args.names.now c.args.text.now (rw (c.place.ensures, c.as_slice.ensures) at (sym c.if-is_some.ensures)))

pub returns : goal.returns
returns c =
    c.in_ok-push.ensures.ok
    ∙ ap (λ t. c.args.names.now ++ t ∷ []) c.in_ok-from_units.ensures
    ∙ sym (with_name_new c.args.names.now c.args.text.now (rw (c.place.ensures, c.as_slice.ensures) at (sym c.if-is_some.ensures)))
