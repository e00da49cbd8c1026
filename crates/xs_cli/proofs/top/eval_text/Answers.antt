use Rattle.xs_cli.proofs.Ended.{few_texts, ends_printed}
use Rattle.xs_cli.proofs.top.eval_text.Goals as goal

pub print_texts-requires : goal.print_texts-requires
print_texts-requires g c = few_texts c.args.text.now c.in-Ok.texts c.in-Ok.ensures.ok

pub returns-in-Ok : goal.returns-in-Ok
returns-in-Ok g c = ends_printed c.print_texts.result c.args.text.now c.in-Ok.texts _ _ _ _ c.in-Ok.ensures.ok c.print_texts.ensures
