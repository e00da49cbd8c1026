-- A form that is open: its beginning was read, and its end wasn't.
use Rattle.js_parser.specs.ExpressionFrame.{ExpressionFrame}
use Rattle.js_parser.specs.MemberFrame.{MemberFrame}
use Rattle.js_parser.specs.StatementFrame.{StatementFrame}
use Rattle.js_parser.specs.ItemFrame.{ItemFrame}

pub data Frame : Type 0 where
  Expression : ExpressionFrame → Frame
  Member : MemberFrame → Frame
  Statement : StatementFrame → Frame
  Item : ItemFrame → Frame
