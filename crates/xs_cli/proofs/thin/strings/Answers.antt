use Rattle.xs_cli.proofs.Reading.{no_import, refused}
use Rattle.xs_cli.proofs.thin.strings.Goals as goal

pub returns-in_default-cut-clause-refused : goal.returns-in_default-cut-clause-refused
returns-in_default-cut-clause-refused c = λ e. refused _ (no_import _ _ _ c.in-Some.ensures.cases c.in_default-cut.ensures.cases)
