-- A class up to its members.
use Rattle.std.specs.Prelude.{ℕ, Option}
use Rattle.es_model.specs.Tree as t
use Rattle.parser_forms.specs.Kept.{Sorted}
use Rattle.es_model.specs.declared.names.Identifier.{Identifier}
use Rattle.js_parser.specs.declared.frame.Role.{Role}

pub record ClassStart : Type 0 where
  pub at : ℕ
  pub name : Option Identifier
  pub role : Role
  pub parent : Option (Sorted t.expression)
