-- What is due in an expression.
use Rattle.std.specs.Prelude.{ℕ, List}
use Rattle.parser_forms.specs.declared.parts.Part.{Part}
use Rattle.es_model.specs.declared.names.Identifier.{Identifier}

pub data ExpressionDue : Type 0 where
  -- Behind `.`: a name or a keyword.
  Property : Part → ExpressionDue
  -- Behind `super`.
  Super : ℕ → ExpressionDue
  -- Behind `super.`.
  SuperProperty : ℕ → ExpressionDue
  -- Behind a head that is no expression, which is `()` or has a comma at its end: `=>`.
  Arrow : ℕ → List Identifier → ExpressionDue
  -- Behind `=>`.
  ArrowBody : ℕ → List Identifier → ExpressionDue
