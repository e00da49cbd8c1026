use Rattle.std.proofs.Common.{lit<}
use Rattle.es_model.proofs.Places.{signs-keys}
use Rattle.es_model.proofs.words.sign_table.Goals as goal

pub new-requires : goal.new-requires
new-requires c = (lit< tt, (lit< tt, signs-keys))
