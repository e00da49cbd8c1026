-- What is due in a function, a class or an object literal.
use Rattle.std.specs.Prelude.{ℕ, Bool, List, Option}
use Rattle.es_model.specs.declared.names.Identifier.{Identifier}
use Rattle.es_model.specs.declared.kinds.MemberKind.{MemberKind}
use Rattle.js_parser.specs.declared.frame.Role.{Role}
use Rattle.js_parser.specs.MemberStart.{MemberStart}
use Rattle.js_parser.specs.Signature.{Signature}

pub data MemberDue : Type 0 where
  -- A member or the end.
  Member : MemberDue
  -- Behind a member of an object literal: `,` or `}`.
  Next : MemberDue
  -- Behind `static`, which begins at a place.
  Fixed : ℕ → MemberDue
  -- Behind the name `get` or `set`.
  Accessor : ℕ → Bool → MemberKind → Identifier → MemberDue
  -- Behind a key; `short` is the name that it is, where it may stand alone.
  Key : MemberStart → Option Identifier → MemberDue
  -- Behind `function`.
  FunctionName : ℕ → Role → MemberDue
  -- The `(` of the parameters.
  Parameters : Signature → MemberDue
  -- A parameter or `)`.
  Parameter : Signature → List Identifier → MemberDue
  -- Behind a parameter.
  ParameterNext : Signature → List Identifier → MemberDue
  -- The `{` of the body.
  Body : Signature → List Identifier → MemberDue
  -- Behind `class`.
  ClassName : ℕ → Role → MemberDue
  -- Behind a class's name.
  ClassNext : ℕ → Option Identifier → Role → MemberDue
