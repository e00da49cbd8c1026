use Rattle.std.proofs.Common.{sym}
use Rattle.js_value.proofs.Sequences.{begins_with-short}
use Rattle.js_value.proofs.text.utf8.begins_with.Goals as goal

pub returns-then-bytes-ranges : goal.returns-then-bytes-ranges
returns-then-bytes-ranges c = sym (begins_with-short _ _ c.if-bytes-ranges.true)
