use Rattle.std.proofs.Common.{◌≡◌, ◌++◌, length, take, drop}
use Rattle.js_value.proofs.numerals.copy.Given as goal

abbrev pub invariant-loop-place : goal.invariant-loop-place
invariant-loop-place l =
    (length l.into ≡ 24) × (l.into ≡ take l.place l.text ++ drop l.place l.initial.into)
