-- That `is_text` ends.
use Rattle.std.proofs.Common.{length}
use Rattle.parser_forms.proofs.texts.+is_text.Given as goal

abbrev pub decreases-is_text : goal.decreases-is_text
decreases-is_text l = length l.units.now
