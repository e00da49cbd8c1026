-- A member, a class or an object literal that is open.
use Rattle.std.specs.Prelude.{ℕ, Bool, Option}
use Rattle.es_model.specs.Tree as t
use Rattle.parser_forms.specs.Kept.{Sorted}
use Rattle.es_model.specs.declared.names.Identifier.{Identifier}
use Rattle.es_model.specs.declared.kinds.MemberKind.{MemberKind}
use Rattle.js_parser.specs.declared.frame.Role.{Role}
use Rattle.js_parser.specs.MemberStart.{MemberStart}
use Rattle.js_parser.specs.ClassStart.{ClassStart}

pub data MemberFrame : Type 0 where
  Object : ℕ → Sorted (t.list t.member) → MemberFrame
  Class : ClassStart → Sorted (t.list t.member) → MemberFrame
  -- Behind `extends`.
  Parent : ℕ → Option Identifier → Role → MemberFrame
  -- A computed key.
  Key : ℕ → Bool → MemberKind → MemberFrame
  -- Behind the `:` of a member.
  Value : MemberStart → MemberFrame
