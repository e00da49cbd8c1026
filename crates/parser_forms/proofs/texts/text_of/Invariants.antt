use Rattle.std.proofs.Common.{◌≡◌, take}
use Rattle.parser_forms.proofs.texts.text_of.Given as goal

-- the characters so far
abbrev pub invariant-loop-byte : goal.invariant-loop-byte
invariant-loop-byte l = l.text ≡ take l.byte-index l.characters
