use Rattle.std.proofs.Common.{◌≡◌, length}
use Rattle.std.specs.Cmp.Lexicographic.{slice_cmp}
use Rattle.std.specs.Ordering.{nat_cmp}
use Rattle.js_value.specs.Text.{units}
use Rattle.js_value.proofs.case.order.Given as goal

abbrev pub invariant-loop-key_left : goal.invariant-loop-key_left
invariant-loop-key_left l = slice_cmp nat_cmp (units l.key_left) l.text_left ≡ slice_cmp nat_cmp (units l.key) l.text

abbrev pub decreases-loop-key_left : goal.decreases-loop-key_left
decreases-loop-key_left l = length l.key_left
