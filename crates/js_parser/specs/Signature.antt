-- A function with no arrow, up to its parameters.
use Rattle.std.specs.Prelude.{ℕ, Option}
use Rattle.es_model.specs.declared.names.Identifier.{Identifier}
use Rattle.js_parser.specs.declared.frame.Role.{Role}
use Rattle.js_parser.specs.MemberStart.{MemberStart}

pub data Signature : Type 0 where
  Function : ℕ → Option Identifier → Role → Signature
  Method : MemberStart → Signature
