-- What arguments are handed to. `at` is the place of the word `new` or `super`.
use Rattle.std.specs.Prelude.{ℕ}
use Rattle.parser_forms.specs.declared.parts.Part.{Part}

pub data Callee : Type 0 where
  Call : Part → Callee
  New : ℕ → Part → Callee
  Super : ℕ → Callee
