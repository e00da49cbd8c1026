-- Where the reading of a text stands.
use Rattle.es_model.specs.Tree as t
use Rattle.parser_forms.specs.Kept.{Sorted}
use Rattle.parser_forms.specs.declared.parts.Part.{Part}
use Rattle.js_parser.specs.ExpressionDue.{ExpressionDue}
use Rattle.js_parser.specs.MemberDue.{MemberDue}
use Rattle.js_parser.specs.StatementDue.{StatementDue}
use Rattle.js_parser.specs.ItemDue.{ItemDue}

pub data Control : Type 0 where
  -- No module begins with the tokens that were read.
  Fail : Control
  -- An operand is due.
  Operand : Control
  -- An operand was read.
  Read : Part → Control
  -- A statement is due, or the end of a list of statements.
  Statement : Control
  Expression : ExpressionDue → Control
  Member : MemberDue → Control
  StatementPart : StatementDue → Control
  Item : ItemDue → Control
  -- The whole module was read.
  Done : Sorted (t.list t.item) → Control
