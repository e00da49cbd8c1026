use Rattle.std.proofs.Common.{lit<}
use Rattle.es_model.proofs.Places.{keywords-keys}
use Rattle.es_model.proofs.words.keyword_table.Goals as goal

pub new-requires : goal.new-requires
new-requires c = (lit< tt, (lit< tt, keywords-keys))
