-- The tokens with which an operand or a statement begins, and those that may stand in its place.
use Rattle.std.specs.Prelude.{ℕ, Bool, true, false, List, [], ◌∷◌, Option, Some, None, nat_le, if◌then◌else◌}
use Rattle.es_model.specs.declared.names.Identifier.{Identifier}
use Rattle.es_model.specs.declared.token.Token.{Token}
use Rattle.es_model.specs.declared.token.TokenKind.{TokenKind}
use Rattle.es_model.specs.declared.token.TokenKind.TheVariants as k
use Rattle.es_model.specs.Tree as t
use Rattle.js_parser.specs.declared.words.Word.{Word}
use Rattle.js_parser.specs.declared.words.Word.TheVariants as w
use Rattle.js_parser.specs.Frame as f
use Rattle.parser_forms.specs.declared.kinds.Infix.TheVariants as i
use Rattle.parser_forms.specs.declared.kinds.Prefix.{Prefix}
use Rattle.js_parser.specs.ExpressionFrame as x
use Rattle.js_parser.specs.MemberFrame as m
use Rattle.js_parser.specs.StatementFrame as s
use Rattle.js_parser.specs.ItemFrame as n
use Rattle.js_parser.specs.ListRole as l
use Rattle.js_parser.specs.declared.frame.Role.TheVariants as role
use Rattle.js_parser.specs.declared.frame.Opening.TheVariants as o
use Rattle.js_parser.specs.declared.frame.Jump.TheVariants as j
use Rattle.js_parser.specs.declared.frame.DeclareRole.TheVariants as d
use Rattle.js_parser.specs.ExpressionDue as xd
use Rattle.js_parser.specs.MemberDue as md
use Rattle.js_parser.specs.StatementDue as sd
use Rattle.js_parser.specs.ItemDue as nd
use Rattle.js_parser.specs.Words.{keyword_word, sign_word}
use Rattle.parser_forms.specs.Kept.{Sorted, none, and_then}
use Rattle.parser_forms.specs.Parts as p
use Rattle.js_parser.specs.Tables.{prefix_of, slot}
use Rattle.parser_forms.specs.Asks.{list_of}
use Rattle.js_parser.specs.State.{Frames, State, fail, operand_due, read, statement_due, expression_part, member_part, statement_part, item_part, the_word}
use Rattle.js_parser.specs.Ends.{put, braces_end, next_case, module_end, called}

-- Operands.

-- what is no expression stands as an arrow's head, where an arrow may stand
abbrev pub head_where : Frames → ℕ → Option (List Identifier) → State
head_where frames at (Some names) = if nat_le (slot frames) 2 then expression_part (xd.Arrow at names) frames else fail
head_where frames at None = fail

-- a `)` in place of an operand: behind `(`, or behind a comma
abbrev pub close_paren : Frames → State
close_paren (f.Expression (x.Paren at) ∷ frames) = head_where frames at (Some [])
close_paren (f.Expression (x.Infix i.Comma left) ∷ f.Expression (x.Paren at) ∷ frames) = head_where frames at (list_of left.heading)
close_paren (f.Expression (x.Arguments of arguments) ∷ frames) = read (called of arguments) frames
close_paren _ = fail

-- a `]` in place of an operand
abbrev pub close_bracket : Frames → State
close_bracket (f.Expression (x.Array at items) ∷ frames) = read (p.array at items) frames
close_bracket _ = fail

-- `!`, `typeof` and their like, and `++` and `--`, where an operand may be so loose
abbrev pub prefixed : Frames → Option Prefix → ℕ → State
prefixed frames (Some operator) at = if nat_le (slot frames) 15 then operand_due (f.Expression (x.Prefix operator at) ∷ frames) else fail
prefixed frames None at = fail

abbrev pub updated : Frames → Bool → ℕ → State
updated frames up at = if nat_le (slot frames) 16 then operand_due (f.Expression (x.Update at up) ∷ frames) else fail

abbrev pub operand_word : Frames → Word → ℕ → State
operand_word frames w.This at = read (p.leaf t.This at) frames
operand_word frames w.Null at = read (p.leaf t.Null at) frames
operand_word frames w.True at = read (p.leaf t.True at) frames
operand_word frames w.False at = read (p.leaf t.False at) frames
operand_word frames w.Super at = expression_part (xd.Super at) frames
operand_word frames w.New at = operand_due (f.Expression (x.New at) ∷ frames)
operand_word frames w.Function at = member_part (md.FunctionName at role.Expression) frames
operand_word frames w.Class at = member_part (md.ClassName at role.Expression) frames
operand_word frames w.LeftParen at = operand_due (f.Expression (x.Paren at) ∷ frames)
operand_word frames w.LeftBracket at = operand_due (f.Expression (x.Array at none) ∷ frames)
operand_word frames w.LeftBrace at = member_part md.Member (f.Member (m.Object at none) ∷ frames)
operand_word frames w.PlusPlus at = updated frames true at
operand_word frames w.MinusMinus at = updated frames false at
operand_word frames w.RightParen at = close_paren frames
operand_word frames w.RightBracket at = close_bracket frames
operand_word frames word at = prefixed frames (prefix_of word) at

abbrev pub operand_kind : Frames → TokenKind → ℕ → State
operand_kind frames (k.Name text) at = read (p.name (record { at = at; name = text })) frames
operand_kind frames (k.Number number) at = read (p.leaf (t.Number number) at) frames
operand_kind frames (k.String text) at = read (p.leaf (t.String text) at) frames
operand_kind frames (k.Template true true text) at = read (p.template at (text ∷ []) none) frames
operand_kind frames (k.Template true false text) at = operand_due (f.Expression (x.Template at (text ∷ []) none) ∷ frames)
operand_kind frames (k.Template false last text) at = fail
operand_kind frames (k.Keyword place) at = operand_word frames (keyword_word place) at
operand_kind frames (k.Sign place) at = operand_word frames (sign_word place) at
operand_kind frames k.End at = fail

abbrev pub operand : Frames → Token → State
operand frames token = operand_kind frames token.kind token.at

-- Statements.

-- a list of statements, where declarations may stand, and the module, where items may
abbrev pub in_list : Frames → Bool
in_list (f.Statement (s.List role list) ∷ frames) = true
in_list (f.Item (n.Module items) ∷ frames) = true
in_list _ = false

abbrev pub in_module : Frames → Bool
in_module (f.Item (n.Module items) ∷ frames) = true
in_module _ = false

-- `let`, `const`, `function` and `class` at the beginning of a declaration
abbrev pub declaration : Frames → Word → ℕ → State
declaration frames w.Let at = statement_part (sd.Name false none d.Statement) frames
declaration frames w.Const at = statement_part (sd.Name true none d.Statement) frames
declaration frames w.Function at = member_part (md.FunctionName at role.Statement) frames
declaration frames w.Class at = member_part (md.ClassName at role.Statement) frames
declaration frames _ at = fail

abbrev pub declared : Frames → Word → ℕ → State
declared frames word at = if in_list frames then declaration frames word at else fail

abbrev pub item : Frames → Word → State
item frames w.Import = item_part nd.Import frames
item frames w.Export = item_part nd.Export frames
item frames _ = fail

abbrev pub statement_word : Frames → Word → Token → State
statement_word frames w.LeftBrace token = statement_due (f.Statement (s.List l.Block none) ∷ frames)
statement_word frames w.RightBrace token = braces_end frames
statement_word frames w.Semicolon token = put frames (p.bare t.Empty)
statement_word frames w.End token = module_end frames
statement_word frames w.Let token = declared frames w.Let token.at
statement_word frames w.Const token = declared frames w.Const token.at
statement_word frames w.Function token = declared frames w.Function token.at
statement_word frames w.Class token = declared frames w.Class token.at
statement_word frames w.If token = statement_part (sd.Open o.If) frames
statement_word frames w.While token = statement_part (sd.Open o.While) frames
statement_word frames w.Switch token = statement_part (sd.Open o.Switch) frames
statement_word frames w.For token = statement_part sd.ForOpen frames
statement_word frames w.Do token = statement_due (f.Statement s.Do ∷ frames)
statement_word frames w.Break token = statement_part (sd.Jump j.Break token.at) frames
statement_word frames w.Continue token = statement_part (sd.Jump j.Continue token.at) frames
statement_word frames w.Return token = statement_part (sd.Return token.at) frames
statement_word frames w.Throw token = statement_part sd.Throw frames
statement_word frames w.Try token = statement_part (sd.Brace l.Try) frames
statement_word frames w.Case token = next_case frames w.Case
statement_word frames w.Default token = next_case frames w.Default
statement_word frames w.Import token = if in_module frames then item frames w.Import else fail
statement_word frames w.Export token = if in_module frames then item frames w.Export else fail
statement_word frames word token = operand (f.Statement s.Value ∷ frames) token

abbrev pub begin : Frames → Token → State
begin frames token = statement_word frames (the_word token) token

-- A statement is complete, and a token behind it was read already: it is put down, and so are the
-- statements that it completes; the token is then read.

abbrev pub close_item : Frames → Sorted t.item → Token → State
close_item (f.Item (n.Module items) ∷ frames) one token = begin (f.Item (n.Module (and_then items one)) ∷ frames) token
close_item _ one token = fail

abbrev pub else_or : State → State → Word → State
else_or first second w.Else = first
else_or first second _ = second

abbrev pub while_or_fail : State → Word → State
while_or_fail first w.While = first
while_or_fail first _ = fail

abbrev pub close : Frames → Sorted t.statement → Token → State
close (f.Statement (s.List role list) ∷ frames) line token = begin (f.Statement (s.List role (and_then list line)) ∷ frames) token
close (f.Statement (s.Yes test) ∷ frames) line token =
    else_or (statement_due (f.Statement (s.No test line) ∷ frames)) (close frames (p.choice test line None) token) (the_word token)
close (f.Statement (s.No test first) ∷ frames) line token = close frames (p.choice test first (Some line)) token
close (f.Statement (s.While test) ∷ frames) line token = close frames (p.while_loop test line) token
close (f.Statement (s.For head test step) ∷ frames) line token = close frames (p.for_loop head test step line) token
close (f.Statement s.Do ∷ frames) line token = while_or_fail (statement_part (sd.DoOpen line) frames) (the_word token)
close (f.Item (n.Module items) ∷ frames) line token = close_item (f.Item (n.Module items) ∷ frames) (p.plain_item line) token
close (f.Item n.Export ∷ frames) line token = close_item frames (p.exported_item line) token
close _ line token = fail
