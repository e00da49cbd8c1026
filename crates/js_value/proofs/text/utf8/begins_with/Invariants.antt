use Rattle.std.proofs.Common.{◌≡◌, ◌≤◌, length, drop}
use Rattle.js_value.specs.Text.{begins_with}
use Rattle.js_value.proofs.text.utf8.begins_with.Given as goal

abbrev pub invariant-loop-place : goal.invariant-loop-place
invariant-loop-place l =
    (length l.ranges ≤ length l.bytes)
    × (begins_with (drop l.place l.ranges) (drop l.place l.bytes) ≡ begins_with l.ranges l.bytes)
