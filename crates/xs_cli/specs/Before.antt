-- What stands before a string of a thin text, and what comes next.
use Rattle.std.specs.Prelude.{◌≡◌, ◌<◌, ℕ, Bool, true, false, List, [], ◌∷◌, length, Some, None, option_map}
use Rattle.js_value.specs.Text.{units}
use Rattle.xs_cli.specs.Thin.{parts, strings}
use Rattle.xs_cli.specs.declared.thin.Before.{Before}
use Rattle.xs_cli.specs.declared.thin.Before.TheVariants as before
use Rattle.xs_cli.specs.declared.thin.Next.{Next}
use Rattle.xs_cli.specs.declared.thin.Next.TheVariants as next

abbrev pub is_call : Before → Bool
is_call before.Import = false
is_call before.Call = true

-- what the strings of a text are, by what comes next in it
abbrev pub IsNext : Bool → List ℕ → Next → Type 0
IsNext called text (next.Call argument later) =
    (strings called (parts text) ≡ option_map (λ texts. units argument.now ∷ texts) (strings true (parts later.now))) × (length later.now < length text)
IsNext called text next.End = strings called (parts text) ≡ Some []
IsNext called text next.NotThin = strings called (parts text) ≡ None
