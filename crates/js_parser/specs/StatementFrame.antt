-- A statement that is open.
use Rattle.std.specs.Prelude.{ℕ, Bool, Option}
use Rattle.es_model.specs.Tree as t
use Rattle.parser_forms.specs.Kept.{Sorted}
use Rattle.es_model.specs.declared.names.Identifier.{Identifier}
use Rattle.js_parser.specs.declared.frame.DeclareRole.{DeclareRole}
use Rattle.js_parser.specs.declared.frame.Opening.{Opening}
use Rattle.js_parser.specs.ListRole.{ListRole}

pub data StatementFrame : Type 0 where
  List : ListRole → Sorted (t.list t.statement) → StatementFrame
  -- An expression as a statement.
  Value : StatementFrame
  -- Behind the `=` of a declared name.
  Initialiser : Bool → Sorted (t.list t.declarator) → DeclareRole → Identifier → StatementFrame
  -- The condition of an `if` or a `while`, or the value of a switch.
  Test : Opening → StatementFrame
  -- The condition of a `do..while` loop.
  DoTest : Sorted t.statement → StatementFrame
  -- The value before the first `;` of a `for`.
  ForValue : StatementFrame
  -- The test of a `for`.
  ForTest : Sorted t.head → StatementFrame
  -- The step of a `for`.
  ForStep : Sorted t.head → Option (Sorted t.expression) → StatementFrame
  Return : ℕ → StatementFrame
  Throw : StatementFrame
  -- The test of a case.
  CaseTest : StatementFrame
  -- The first statement of an `if`.
  Yes : Sorted t.expression → StatementFrame
  -- The statement behind `else`.
  No : Sorted t.expression → Sorted t.statement → StatementFrame
  While : Sorted t.expression → StatementFrame
  For : Sorted t.head → Option (Sorted t.expression) → Option (Sorted t.expression) → StatementFrame
  Do : StatementFrame
  Switch : Sorted t.expression → Sorted (t.list t.case) → Bool → StatementFrame
