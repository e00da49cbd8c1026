use Rattle.std.proofs.Common.{sym, arith}
use Rattle.std.proofs.lemmas.List.{get_or_past}
use Rattle.js_parser.specs.Words.{keyword_words}
use Rattle.js_parser.specs.declared.words.Word.TheVariants as w
use Rattle.js_parser.proofs.words.keyword_at.Goals as goal

pub returns-in_default : goal.returns-in_default
returns-in_default c = sym (get_or_past keyword_words c.args.place w.Unknown (omega (arith, c.in_default)))
