use Rattle.std.proofs.Common.{◌≡◌, length}
use Rattle.parser_forms.specs.Pieces.{first, rest, part_in}
use Rattle.js_parser.specs.Held.{frames}
use Rattle.js_parser.specs.Settle.{settle}
use Rattle.js_parser.proofs.settle.settle.Given as goal

-- what is left to settle makes the same
abbrev pub invariant-loop-stack : goal.invariant-loop-stack
invariant-loop-stack l =
    settle (frames l.fn.stack (rest l.fn.pieces)) (part_in (first l.fn.pieces)) l.token ≡ settle (frames l.stack (rest l.pieces)) (part_in (first l.pieces)) l.token

abbrev pub decreases-loop-stack : goal.decreases-loop-stack
decreases-loop-stack l = length l.stack
