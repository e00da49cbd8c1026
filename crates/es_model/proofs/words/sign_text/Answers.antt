use Rattle.std.proofs.Common.{◌∙◌, ap, get_or, lit<}
use Rattle.es_model.proofs.Places.{sign_row-within, sign_at, sign_rows}
use Rattle.es_model.proofs.words.sign_text.Goals as goal

pub key-requires : goal.key-requires
key-requires c = (lit< tt, sign_row-within c.args.place c.from-row.result c.requires (c.from-row.ensures ∙ ap (λ k. get_or sign_rows k 0) c.from.ensures))

pub returns : goal.returns
returns c = sign_at c.args.place c.from-row.result c.sign_table.result c.key.result.now c.requires (c.from-row.ensures ∙ ap (λ k. get_or sign_rows k 0) c.from.ensures) c.sign_table.ensures c.key.ensures
