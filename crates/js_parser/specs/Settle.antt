-- What a token makes of an expression that was read: it goes on with it, or ends the forms that wait for it.
use Rattle.std.specs.Prelude.{ℕ, Bool, true, false, List, [], ◌∷◌, ◌++◌, Option, Some, None, nat_le, if◌then◌else◌}
use Rattle.es_model.specs.declared.kinds.BinaryOperator.{BinaryOperator}
use Rattle.es_model.specs.declared.kinds.Semi.{Semi}
use Rattle.es_model.specs.declared.kinds.Semi.TheVariants as semi
use Rattle.es_model.specs.declared.names.Identifier.{Identifier}
use Rattle.es_model.specs.declared.token.Token.{Token}
use Rattle.es_model.specs.declared.token.TokenKind.{TokenKind}
use Rattle.es_model.specs.declared.token.TokenKind.TheVariants as k
use Rattle.es_model.specs.Tree as t
use Rattle.es_model.specs.Tree.{Text}
use Rattle.js_parser.specs.declared.words.Word.{Word}
use Rattle.js_parser.specs.declared.words.Word.TheVariants as w
use Rattle.parser_forms.specs.declared.parts.Part.{Part}
use Rattle.js_parser.specs.Frame.{Frame}
use Rattle.js_parser.specs.Frame as f
use Rattle.parser_forms.specs.declared.kinds.Infix.{Infix}
use Rattle.js_parser.specs.Callee.{Callee}
use Rattle.js_parser.specs.Callee as callee
use Rattle.js_parser.specs.ExpressionFrame as x
use Rattle.js_parser.specs.MemberFrame as m
use Rattle.js_parser.specs.StatementFrame as s
use Rattle.js_parser.specs.ItemFrame as n
use Rattle.js_parser.specs.ListRole as l
use Rattle.js_parser.specs.declared.frame.Opening.{Opening}
use Rattle.js_parser.specs.declared.frame.Opening.TheVariants as o
use Rattle.js_parser.specs.declared.frame.DeclareRole.{DeclareRole}
use Rattle.js_parser.specs.declared.frame.DeclareRole.TheVariants as d
use Rattle.js_parser.specs.ExpressionDue as xd
use Rattle.js_parser.specs.MemberDue as md
use Rattle.js_parser.specs.StatementDue as sd
use Rattle.parser_forms.specs.Kept.{Sorted, none, and_then}
use Rattle.parser_forms.specs.Parts as p
use Rattle.js_parser.specs.Tables.{infix_of, assignment_of, goes_on_in, may_miss}
use Rattle.parser_forms.specs.Asks.{is_left_of, is_base, is_new_callee, head_of}
use Rattle.js_parser.specs.State.{Frames, State, fail, operand_due, read, statement_due, expression_part, member_part, statement_part, the_word}
use Rattle.js_parser.specs.Ends.{put, put_item, called}
use Rattle.js_parser.specs.Begins.{close, close_item}

-- A statement with a semicolon that may be missing.

abbrev pub statement_end : Frames → (Semi → Sorted t.statement) → Bool → Token → Word → State
statement_end frames line may token w.Semicolon = put frames (line semi.Written)
statement_end frames line may token _ = if may then close frames (line semi.Missing) token else fail

abbrev pub item_end : Frames → (Semi → Sorted t.item) → Bool → Token → Word → State
item_end frames one may token w.Semicolon = put_item frames (one semi.Written)
item_end frames one may token _ = if may then close_item frames (one semi.Missing) token else fail

abbrev pub may : Token → Bool
may token = may_miss (the_word token) token.line_before

-- a state, where the word is the one that is due
abbrev pub at_semicolon : State → Word → State
at_semicolon st w.Semicolon = st
at_semicolon st _ = fail

-- Declared names end with a semicolon, in a `for` with one that is written.
abbrev pub names_end : Frames → Bool → Sorted (t.list t.declarator) → DeclareRole → Token → State
names_end frames constant names d.Statement token = statement_end frames (p.declare constant names) (may token) token (the_word token)
names_end frames constant names d.For token = at_semicolon (statement_part (sd.ForTest (p.head_declare constant names)) frames) (the_word token)

-- A token goes on with an expression.

abbrev pub arrow_where : Frames → ℕ → Option (List Identifier) → State
arrow_where frames at (Some names) = expression_part (xd.ArrowBody at names) frames
arrow_where frames at None = fail

abbrev pub taken_as : Part → Frames → Word → State
taken_as part frames w.Arrow = arrow_where frames part.at (head_of part.heading)
taken_as part frames w.Question = if nat_le 4 part.level then operand_due (f.Expression (x.Yes part) ∷ frames) else fail
taken_as part frames w.PlusPlus = if part.is_target then read (p.update_behind true part) frames else fail
taken_as part frames w.MinusMinus = if part.is_target then read (p.update_behind false part) frames else fail
taken_as part frames w.Point = if is_base part then expression_part (xd.Property part) frames else fail
taken_as part frames w.LeftBracket = if is_base part then operand_due (f.Expression (x.Index part) ∷ frames) else fail
taken_as part frames w.LeftParen = if is_base part then operand_due (f.Expression (x.Arguments (callee.Call part) none) ∷ frames) else fail
taken_as part frames _ = fail

abbrev pub taken_by : Part → Frames → Option Infix → Option (Option BinaryOperator) → Word → State
taken_by part frames (Some operator) assignment word = if is_left_of operator part then operand_due (f.Expression (x.Infix operator part) ∷ frames) else fail
taken_by part frames None (Some operator) word = if part.is_target then operand_due (f.Expression (x.Assign part operator) ∷ frames) else fail
taken_by part frames None None word = taken_as part frames word

abbrev pub taken : Part → Frames → Token → State
taken part frames token = taken_by part frames (infix_of (the_word token)) (assignment_of (the_word token)) (the_word token)

-- A token ends a form that waits for the expression.

abbrev pub arguments_end : Frames → Callee → Sorted (t.list t.expression) → Word → State
arguments_end frames of arguments w.RightParen = read (called of arguments) frames
arguments_end frames of arguments w.Comma = operand_due (f.Expression (x.Arguments of arguments) ∷ frames)
arguments_end frames of arguments _ = fail

abbrev pub items_end : Frames → ℕ → Sorted (t.list t.expression) → Word → State
items_end frames at items w.RightBracket = read (p.array at items) frames
items_end frames at items w.Comma = operand_due (f.Expression (x.Array at items) ∷ frames)
items_end frames at items _ = fail

abbrev pub template_end : Frames → ℕ → List Text → Sorted (t.list t.expression) → TokenKind → State
template_end frames at texts values (k.Template false true text) = read (p.template at (texts ++ text ∷ []) values) frames
template_end frames at texts values (k.Template false false text) = operand_due (f.Expression (x.Template at (texts ++ text ∷ []) values) ∷ frames)
template_end frames at texts values _ = fail

-- a state, where the word is the one that is due
abbrev pub at_paren : State → Word → State
at_paren st w.RightParen = st
at_paren st _ = fail

abbrev pub at_bracket : State → Word → State
at_bracket st w.RightBracket = st
at_bracket st _ = fail

abbrev pub at_colon : State → Word → State
at_colon st w.Colon = st
at_colon st _ = fail

abbrev pub at_brace : State → Word → State
at_brace st w.LeftBrace = st
at_brace st _ = fail

-- behind the value of a member of an object literal
abbrev pub object_next : Frames → Sorted t.member → Word → State
object_next (f.Member (m.Object at members) ∷ frames) one w.Comma = member_part md.Member (f.Member (m.Object at (and_then members one)) ∷ frames)
object_next (f.Member (m.Object at members) ∷ frames) one w.RightBrace = read (p.object at (and_then members one)) frames
object_next _ one _ = fail

abbrev pub test_end : Frames → Opening → Part → State
test_end frames o.If part = statement_due (f.Statement (s.Yes part.of) ∷ frames)
test_end frames o.While part = statement_due (f.Statement (s.While part.of) ∷ frames)
test_end frames o.Switch part = statement_part (sd.SwitchBrace part.of) frames

abbrev pub initialiser_end : Frames → Bool → Sorted (t.list t.declarator) → DeclareRole → Token → Word → State
initialiser_end frames constant names use_of token w.Comma = statement_part (sd.Name constant names use_of) frames
initialiser_end frames constant names use_of token _ = names_end frames constant names use_of token

abbrev pub ended : Frame → Frames → Part → Token → State
ended (f.Expression (x.Paren at)) frames part token = at_paren (read (p.paren at part) frames) (the_word token)
ended (f.Expression (x.Yes test)) frames part token = at_colon (operand_due (f.Expression (x.No test part) ∷ frames)) (the_word token)
ended (f.Expression (x.Arguments of arguments)) frames part token = arguments_end frames of (and_then arguments part.of) (the_word token)
ended (f.Expression (x.Array at items)) frames part token = items_end frames at (and_then items part.of) (the_word token)
ended (f.Expression (x.Index of)) frames part token = at_bracket (read (p.index of part) frames) (the_word token)
ended (f.Expression (x.SuperIndex at)) frames part token = at_bracket (read (p.super_index at part) frames) (the_word token)
ended (f.Expression (x.Template at texts values)) frames part token = template_end frames at texts (and_then values part.of) token.kind
ended (f.Member (m.Key at fixed kind)) frames part token =
    at_bracket (member_part (md.Key (record { at = at; fixed = fixed; kind = kind; key = p.computed_key part }) None) frames) (the_word token)
ended (f.Member (m.Value start)) frames part token = object_next frames (p.value_member start.at start.key part) (the_word token)
ended (f.Member (m.Parent at own stands)) frames part token =
    at_brace (member_part md.Member (f.Member (m.Class (record { at = at; name = own; role = stands; parent = Some part.of }) none) ∷ frames)) (the_word token)
ended (f.Statement s.Value) frames part token = statement_end frames (p.value part.of) (may token) token (the_word token)
ended (f.Statement (s.Initialiser constant names use_of own)) frames part token =
    initialiser_end frames constant (and_then names (p.declarator own (Some part.of))) use_of token (the_word token)
ended (f.Statement (s.Test opening)) frames part token = at_paren (test_end frames opening part) (the_word token)
ended (f.Statement (s.DoTest body)) frames part token = at_paren (statement_part (sd.DoEnd body part.of) frames) (the_word token)
ended (f.Statement s.ForValue) frames part token = at_semicolon (statement_part (sd.ForTest (p.head_value part.of)) frames) (the_word token)
ended (f.Statement (s.ForTest head)) frames part token = at_semicolon (statement_part (sd.ForStep head (Some part.of)) frames) (the_word token)
ended (f.Statement (s.ForStep head test)) frames part token = at_paren (statement_due (f.Statement (s.For head test (Some part.of)) ∷ frames)) (the_word token)
ended (f.Statement (s.Return at)) frames part token = statement_end frames (p.return at (Some part.of)) (may token) token (the_word token)
ended (f.Statement s.Throw) frames part token = statement_end frames (p.throw part.of) (may token) token (the_word token)
ended (f.Statement s.CaseTest) frames part token = at_colon (statement_due (f.Statement (s.List (l.Case (Some part.of)) none) ∷ frames)) (the_word token)
ended (f.Item (n.Default at)) frames part token = item_end frames (p.default_value at part.of) (may token) token (the_word token)
ended _ frames part token = fail

-- the callee of a `new` ends at its arguments, or where it has none
abbrev pub new_end : State → State → Part → Word → State
new_end arguments bare part w.LeftParen = if is_base part then arguments else fail
new_end arguments bare part _ = bare

-- A form ends, and what it makes is read in its turn: by `again`, in the forms that are left.
abbrev pub closed : Frame → (Part → State) → Frames → Part → Token → State
closed (f.Expression (x.Infix operator left)) again frames part token = again (p.operation operator left part)
closed (f.Expression (x.Prefix operator at)) again frames part token = again (p.prefix_form operator at part)
closed (f.Expression (x.Update at up)) again frames part token = if part.is_target then again (p.update_before at up part) else fail
closed (f.Expression (x.New at)) again frames part token =
    if is_new_callee part then new_end (operand_due (f.Expression (x.Arguments (callee.New at part) none) ∷ frames)) (again (p.bare_new at part)) part (the_word token) else fail
closed (f.Expression (x.No test first)) again frames part token = again (p.conditional test first part)
closed (f.Expression (x.Assign to operator)) again frames part token = again (p.assign to operator part)
closed (f.Expression (x.Arrow at parameters)) again frames part token = again (p.arrow at parameters part)
closed frame again frames part token = ended frame frames part token

-- The innermost form waits for the expression. Where the token makes something of the expression that the
-- form may hold, the expression goes on; else the form ends.
abbrev pub settle : Frames → Part → Token → State
settle [] part token = fail
settle (frame ∷ frames) part token =
    if goes_on_in frame (the_word token) token.line_before then taken part (frame ∷ frames) token else closed frame (λ next. settle frames next token) frames part token
