-- Where the reading of tokens stands: what is due or was read, and the open forms, the innermost first.
use Rattle.std.specs.Prelude.{List, []}
use Rattle.es_model.specs.declared.token.Token.{Token}
use Rattle.parser_forms.specs.declared.parts.Part.{Part}
use Rattle.js_parser.specs.Frame.{Frame}
use Rattle.js_parser.specs.Control.{Control}
use Rattle.js_parser.specs.Control as c
use Rattle.js_parser.specs.ExpressionDue.{ExpressionDue}
use Rattle.js_parser.specs.MemberDue.{MemberDue}
use Rattle.js_parser.specs.StatementDue.{StatementDue}
use Rattle.js_parser.specs.ItemDue.{ItemDue}
use Rattle.js_parser.specs.declared.words.Word.{Word}
use Rattle.js_parser.specs.Words.{word_of}

abbrev pub Frames : Type 0
Frames = List Frame

pub data State : Type 0 where
  state : Control → Frames → State

abbrev pub fail : State
fail = state c.Fail []

abbrev pub operand_due : Frames → State
operand_due frames = state c.Operand frames

abbrev pub read : Part → Frames → State
read part frames = state (c.Read part) frames

abbrev pub statement_due : Frames → State
statement_due frames = state c.Statement frames

abbrev pub expression_part : ExpressionDue → Frames → State
expression_part due frames = state (c.Expression due) frames

abbrev pub member_part : MemberDue → Frames → State
member_part due frames = state (c.Member due) frames

abbrev pub statement_part : StatementDue → Frames → State
statement_part due frames = state (c.StatementPart due) frames

abbrev pub item_part : ItemDue → Frames → State
item_part due frames = state (c.Item due) frames

abbrev pub the_word : Token → Word
the_word token = word_of token.kind
