use Rattle.std.proofs.Common.{◌≡◌, ◌≤◌, take}
use Rattle.std.specs.Str.Parse.{AllDigits, digits_value}
use Rattle.js_value.specs.Number.{greatest}
use Rattle.js_value.proofs.literals.digits_number.Given as goal

abbrev pub invariant-loop-unit : goal.invariant-loop-unit
invariant-loop-unit l =
    AllDigits l.base (take l.unit-index l.digits)
    × (l.value ≡ digits_value l.base (take l.unit-index l.digits))
    × (l.value ≤ greatest)
