-- What a list of statements in braces, or behind the `:` of a case, belongs to.
use Rattle.std.specs.Prelude.{ℕ, List, Option}
use Rattle.es_model.specs.Tree as t
use Rattle.parser_forms.specs.Kept.{Sorted}
use Rattle.es_model.specs.declared.names.Identifier.{Identifier}
use Rattle.js_parser.specs.Signature.{Signature}

pub data ListRole : Type 0 where
  Block : ListRole
  Try : ListRole
  Catch : Sorted (t.list t.statement) → Option Identifier → ListRole
  Finally : Sorted (t.list t.statement) → Option Identifier → Option (Sorted (t.list t.statement)) → ListRole
  Function : Signature → List Identifier → ListRole
  Arrow : ℕ → List Identifier → ListRole
  Case : Option (Sorted t.expression) → ListRole
