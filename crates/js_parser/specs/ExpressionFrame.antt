-- An expression that is open.
use Rattle.std.specs.Prelude.{ℕ, Bool, List, Option}
use Rattle.es_model.specs.Tree.{Text}
use Rattle.es_model.specs.Tree as t
use Rattle.parser_forms.specs.Kept.{Sorted}
use Rattle.parser_forms.specs.declared.parts.Part.{Part}
use Rattle.es_model.specs.declared.names.Identifier.{Identifier}
use Rattle.es_model.specs.declared.kinds.BinaryOperator.{BinaryOperator}
use Rattle.parser_forms.specs.declared.kinds.Infix as between
use Rattle.parser_forms.specs.declared.kinds.Prefix as before
use Rattle.js_parser.specs.Callee.{Callee}

pub data ExpressionFrame : Type 0 where
  Paren : ℕ → ExpressionFrame
  Infix : between.Infix → Part → ExpressionFrame
  Prefix : before.Prefix → ℕ → ExpressionFrame
  Update : ℕ → Bool → ExpressionFrame
  New : ℕ → ExpressionFrame
  -- Between `?` and `:`.
  Yes : Part → ExpressionFrame
  -- Behind the `:` of a conditional.
  No : Part → Part → ExpressionFrame
  Assign : Part → Option BinaryOperator → ExpressionFrame
  Arrow : ℕ → List Identifier → ExpressionFrame
  Arguments : Callee → Sorted (t.list t.expression) → ExpressionFrame
  Array : ℕ → Sorted (t.list t.expression) → ExpressionFrame
  Index : Part → ExpressionFrame
  SuperIndex : ℕ → ExpressionFrame
  Template : ℕ → List Text → Sorted (t.list t.expression) → ExpressionFrame
