-- What is done where a form is complete and no token is left over: it is put into the form round it.
use Rattle.std.specs.Prelude.{ℕ, Bool, true, false, ◌||◌, List, [], ◌∷◌, Option, Some, None}
use Rattle.es_model.specs.declared.kinds.FunctionKind.{FunctionKind}
use Rattle.es_model.specs.declared.kinds.FunctionKind.TheVariants as kind
use Rattle.es_model.specs.declared.names.Identifier.{Identifier}
use Rattle.es_model.specs.Tree as t
use Rattle.js_parser.specs.declared.words.Word.{Word}
use Rattle.js_parser.specs.declared.words.Word.TheVariants as w
use Rattle.js_parser.specs.Frame as f
use Rattle.js_parser.specs.MemberFrame as m
use Rattle.js_parser.specs.StatementFrame as s
use Rattle.js_parser.specs.ItemFrame as n
use Rattle.js_parser.specs.ListRole.{ListRole}
use Rattle.js_parser.specs.ListRole as l
use Rattle.js_parser.specs.Callee.{Callee}
use Rattle.js_parser.specs.Callee as callee
use Rattle.js_parser.specs.declared.frame.Role.{Role}
use Rattle.js_parser.specs.declared.frame.Role.TheVariants as role
use Rattle.js_parser.specs.Signature.{Signature}
use Rattle.js_parser.specs.Signature as g
use Rattle.js_parser.specs.MemberStart.{MemberStart}
use Rattle.js_parser.specs.ClassStart.{ClassStart}
use Rattle.js_parser.specs.Control as c
use Rattle.js_parser.specs.MemberDue as md
use Rattle.js_parser.specs.StatementDue as sd
use Rattle.parser_forms.specs.declared.parts.Part.{Part}
use Rattle.parser_forms.specs.Kept.{Sorted, and_then}
use Rattle.parser_forms.specs.Parts as p
use Rattle.js_parser.specs.State.{Frames, State, state, fail, operand_due, read, statement_due, member_part, statement_part}

-- an item of the module
abbrev pub put_item : Frames → Sorted t.item → State
put_item (f.Item (n.Module items) ∷ frames) item = statement_due (f.Item (n.Module (and_then items item)) ∷ frames)
put_item _ item = fail

-- A statement. The statements that it completes are put down in their turn; the first statement of an
-- `if` waits for the word behind it.
abbrev pub put : Frames → Sorted t.statement → State
put (f.Statement (s.List role statements) ∷ frames) line = statement_due (f.Statement (s.List role (and_then statements line)) ∷ frames)
put (f.Statement (s.Yes test) ∷ frames) line = statement_part (sd.Else test line) frames
put (f.Statement (s.No test first) ∷ frames) line = put frames (p.choice test first (Some line))
put (f.Statement (s.While test) ∷ frames) line = put frames (p.while_loop test line)
put (f.Statement (s.For head test step) ∷ frames) line = put frames (p.for_loop head test step line)
put (f.Statement s.Do ∷ frames) line = statement_part (sd.DoWhile line) frames
put (f.Item (n.Module items) ∷ frames) line = put_item (f.Item (n.Module items) ∷ frames) (p.plain_item line)
put (f.Item n.Export ∷ frames) line = put_item frames (p.exported_item line)
put _ line = fail

-- Functions and classes.

abbrev pub is_derived : ClassStart → Bool
is_derived start = elim start.parent [ None ↦ false | Some parent ↦ true ]

abbrev pub method : MemberStart → FunctionKind → List Identifier → Sorted (t.list t.statement) → Sorted t.member
method start due parameters body = p.function_member start.at start.fixed start.kind start.key (p.function start.at None due parameters body)

abbrev pub method_end : Frames → MemberStart → List Identifier → Sorted (t.list t.statement) → State
method_end (f.Member (m.Object at members) ∷ frames) start parameters body =
    member_part md.Next (f.Member (m.Object at (and_then members (method start (p.method_kind start.kind true false false) parameters body))) ∷ frames)
method_end (f.Member (m.Class class members) ∷ frames) start parameters body =
    member_part md.Member (f.Member (m.Class class (and_then members (method start (p.method_kind start.kind start.fixed start.key.is_constructor (is_derived class)) parameters body))) ∷ frames)
method_end _ start parameters body = fail

abbrev pub function_end : Frames → Signature → List Identifier → Sorted (t.list t.statement) → State
function_end frames (g.Function at own role.Expression) parameters body = read (p.function_expression at (p.function at own kind.Plain parameters body)) frames
function_end frames (g.Function at own role.Statement) parameters body = put frames (p.function_statement (p.function at own kind.Plain parameters body))
function_end frames (g.Function at own (role.Default place)) parameters body = put_item frames (p.default_function place (p.function at own kind.Plain parameters body))
function_end frames (g.Method start) parameters body = method_end frames start parameters body

abbrev pub class_end_as : Frames → Role → ℕ → Sorted t.class → State
class_end_as frames role.Expression at class = read (p.class_expression at class) frames
class_end_as frames role.Statement at class = put frames (p.class_statement class)
class_end_as frames (role.Default place) at class = put_item frames (p.default_class place class)

abbrev pub class_end : Frames → ClassStart → Sorted (t.list t.member) → State
class_end frames start members = class_end_as frames start.role start.at (p.class start.at start.name start.parent members)

-- Lists of statements.

-- the `}` of a switch, behind its cases
abbrev pub switch_end : Frames → State
switch_end (f.Statement (s.Switch of cases has_default) ∷ frames) = put frames (p.switch of cases)
switch_end _ = fail

-- a case with no test is the default
abbrev pub is_default : Option (Sorted t.expression) → Bool
is_default None = true
is_default (Some test) = false

-- the last case of a switch, with the statements that stand in it
abbrev pub with_case : Option (Sorted t.expression) → Sorted (t.list t.statement) → Frames → Frames
with_case test body (f.Statement (s.Switch of cases has_default) ∷ frames) =
    f.Statement (s.Switch of (and_then cases (p.case test body)) (has_default || is_default test)) ∷ frames
with_case test body frames = frames

-- `case` and `default` in a switch; `default` stands in it once
abbrev pub case_start : Frames → Word → State
case_start (f.Statement (s.Switch of cases has_default) ∷ frames) w.Case = operand_due (f.Statement s.CaseTest ∷ f.Statement (s.Switch of cases has_default) ∷ frames)
case_start (f.Statement (s.Switch of cases false) ∷ frames) w.Default = statement_part sd.CaseColon (f.Statement (s.Switch of cases false) ∷ frames)
case_start _ _ = fail

abbrev pub next_case : Frames → Word → State
next_case (f.Statement (s.List (l.Case test) body) ∷ frames) word = case_start (with_case test body frames) word
next_case _ word = fail

abbrev pub list_end : ListRole → Frames → Sorted (t.list t.statement) → State
list_end l.Block frames list = put frames (p.block list)
list_end l.Try frames list = statement_part (sd.Guard list) frames
list_end (l.Catch block own) frames list = statement_part (sd.Finally block own list) frames
list_end (l.Finally block own catch) frames list = put frames (p.guarded block own catch (Some list))
list_end (l.Function signature parameters) frames list = function_end frames signature parameters list
list_end (l.Arrow at parameters) frames list = read (p.arrow_expression at (p.function at None kind.Arrow parameters list)) frames
list_end (l.Case test) frames list = switch_end (with_case test list frames)

-- a `}` where a statement may stand
abbrev pub braces_end : Frames → State
braces_end (f.Statement (s.List role list) ∷ frames) = list_end role frames list
braces_end _ = fail

-- the end of the text
abbrev pub module_end : Frames → State
module_end (f.Item (n.Module items) ∷ []) = state (c.Done items) []
module_end _ = fail

-- Arguments that are complete.
abbrev pub called : Callee → Sorted (t.list t.expression) → Part
called (callee.Call part) arguments = p.call part arguments
called (callee.New at part) arguments = p.new_call at part arguments
called (callee.Super at) arguments = p.super_call at arguments
