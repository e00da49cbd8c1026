use Rattle.std.proofs.Common.{sym, arith}
use Rattle.std.proofs.lemmas.Option.{slice_get_past}
use Rattle.es_model.specs.Tokens.{keywords}
use Rattle.js_parser.proofs.texts.keyword_name.Goals as goal

pub returns-else-place-lt46 : goal.returns-else-place-lt46
returns-else-place-lt46 c = sym (slice_get_past keywords c.args.place (omega (arith, c.if-place-lt46.false)))
