use Rattle.std.proofs.Common.{ap, ◌∙◌}
use Rattle.js_parser.specs.Machine.{answer}
use Rattle.js_parser.specs.Parsed.{result_of}
use Rattle.js_parser.proofs.Promised.{promised}
use Rattle.js_parser.proofs.reading.module.Goals as goal

pub returns : goal.returns
returns c = promised c.args.tokens.now c.read-module.result c.requires.ends (λ free. c.read-module.ensures free ∙ ap (λ tokens. result_of (answer tokens)) c.as_slice.ensures)
