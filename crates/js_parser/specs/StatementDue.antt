-- What is due in a statement.
use Rattle.std.specs.Prelude.{ℕ, Bool, Option}
use Rattle.es_model.specs.Tree as t
use Rattle.parser_forms.specs.Kept.{Sorted}
use Rattle.es_model.specs.declared.names.Identifier.{Identifier}
use Rattle.js_parser.specs.declared.frame.DeclareRole.{DeclareRole}
use Rattle.js_parser.specs.declared.frame.Opening.{Opening}
use Rattle.js_parser.specs.declared.frame.Jump as one
use Rattle.js_parser.specs.ListRole.{ListRole}

pub data StatementDue : Type 0 where
  -- The `(` before a condition.
  Open : Opening → StatementDue
  -- The `{` before a list of statements.
  Brace : ListRole → StatementDue
  -- The `{` of a switch.
  SwitchBrace : Sorted t.expression → StatementDue
  -- A case or the end of a switch.
  Case : StatementDue
  -- The `:` behind `default`.
  CaseColon : StatementDue
  -- The `(` of a `for`.
  ForOpen : StatementDue
  -- Behind the `(` of a `for`.
  ForHead : StatementDue
  -- Behind the first `;` of a `for`.
  ForTest : Sorted t.head → StatementDue
  -- Behind the second `;` of a `for`.
  ForStep : Sorted t.head → Option (Sorted t.expression) → StatementDue
  -- A declared name.
  Name : Bool → Sorted (t.list t.declarator) → DeclareRole → StatementDue
  -- Behind a declared name.
  NameNext : Bool → Sorted (t.list t.declarator) → DeclareRole → Identifier → StatementDue
  -- Behind the first statement of an `if`.
  Else : Sorted t.expression → Sorted t.statement → StatementDue
  -- Behind the statement of a `do`: `while`.
  DoWhile : Sorted t.statement → StatementDue
  -- The `(` behind that.
  DoOpen : Sorted t.statement → StatementDue
  -- Behind the `)` of a `do..while` loop.
  DoEnd : Sorted t.statement → Sorted t.expression → StatementDue
  -- Behind `break` or `continue`.
  Jump : one.Jump → ℕ → StatementDue
  -- Behind `return`.
  Return : ℕ → StatementDue
  -- Behind `throw`.
  Throw : StatementDue
  -- Behind the block of a `try`.
  Guard : Sorted (t.list t.statement) → StatementDue
  -- Behind `catch`.
  Catch : Sorted (t.list t.statement) → StatementDue
  -- Behind `catch (`.
  CatchName : Sorted (t.list t.statement) → StatementDue
  -- Behind the name of a `catch`.
  CatchClose : Sorted (t.list t.statement) → Identifier → StatementDue
  -- Behind the block of a `catch`.
  Finally : Sorted (t.list t.statement) → Option Identifier → Sorted (t.list t.statement) → StatementDue
