-- What the code holds: the open forms and what is due, without what was read of them, and this as pieces on one store. Each
-- form says here which of the last pieces are its own, and which lie under them.
use Rattle.std.specs.Prelude.{List, [], ◌∷◌, Some, None}
use Rattle.parser_forms.specs.declared.parts.KeyPart.{KeyPart}
use Rattle.parser_forms.specs.Pieces.{Pieces, first, second, third, rest, part_in, expressions_in, statement_in, statements_in, members_in, declarators_in, cases_in, items_in, head_in, key_in, name_in, names_in, text_in, texts_in, pairs_in, given_expression, given_statements, given_name}
use Rattle.js_parser.specs.declared.frame.Callee as the_callee
use Rattle.js_parser.specs.declared.frame.MemberStart as the_member_start
use Rattle.js_parser.specs.declared.frame.Signature as the_signature
use Rattle.js_parser.specs.declared.frame.ClassStart as the_class_start
use Rattle.js_parser.specs.declared.frame.ExpressionFrame as the_expression_frame
use Rattle.js_parser.specs.declared.frame.MemberFrame as the_member_frame
use Rattle.js_parser.specs.declared.frame.ListRole as the_list_role
use Rattle.js_parser.specs.declared.frame.StatementFrame as the_statement_frame
use Rattle.js_parser.specs.declared.frame.ItemFrame as the_item_frame
use Rattle.js_parser.specs.declared.frame.Frame as the_frame
use Rattle.js_parser.specs.declared.frame.ExpressionDue as the_expression_due
use Rattle.js_parser.specs.declared.frame.MemberDue as the_member_due
use Rattle.js_parser.specs.declared.frame.StatementDue as the_statement_due
use Rattle.js_parser.specs.declared.frame.ItemDue as the_item_due
use Rattle.js_parser.specs.declared.frame.Control as the_control
use Rattle.js_parser.specs.declared.frame.Callee.TheVariants as ca
use Rattle.js_parser.specs.declared.frame.Signature.TheVariants as cg
use Rattle.js_parser.specs.declared.frame.ExpressionFrame.TheVariants as cx
use Rattle.js_parser.specs.declared.frame.MemberFrame.TheVariants as cm
use Rattle.js_parser.specs.declared.frame.ListRole.TheVariants as cl
use Rattle.js_parser.specs.declared.frame.StatementFrame.TheVariants as cs
use Rattle.js_parser.specs.declared.frame.ItemFrame.TheVariants as cn
use Rattle.js_parser.specs.declared.frame.Frame.TheVariants as cf
use Rattle.js_parser.specs.declared.frame.ExpressionDue.TheVariants as cxd
use Rattle.js_parser.specs.declared.frame.MemberDue.TheVariants as cmd
use Rattle.js_parser.specs.declared.frame.StatementDue.TheVariants as csd
use Rattle.js_parser.specs.declared.frame.ItemDue.TheVariants as cnd
use Rattle.js_parser.specs.declared.frame.Control.TheVariants as cc
use Rattle.js_parser.specs.Callee.{Callee}
use Rattle.js_parser.specs.Callee as callees
use Rattle.js_parser.specs.Signature.{Signature}
use Rattle.js_parser.specs.Signature as g
use Rattle.js_parser.specs.ExpressionFrame.{ExpressionFrame}
use Rattle.js_parser.specs.ExpressionFrame as x
use Rattle.js_parser.specs.MemberFrame.{MemberFrame}
use Rattle.js_parser.specs.MemberFrame as m
use Rattle.js_parser.specs.ListRole.{ListRole}
use Rattle.js_parser.specs.ListRole as l
use Rattle.js_parser.specs.StatementFrame.{StatementFrame}
use Rattle.js_parser.specs.StatementFrame as s
use Rattle.js_parser.specs.ItemFrame.{ItemFrame}
use Rattle.js_parser.specs.ItemFrame as n
use Rattle.js_parser.specs.Frame.{Frame}
use Rattle.js_parser.specs.Frame as f
use Rattle.js_parser.specs.ExpressionDue.{ExpressionDue}
use Rattle.js_parser.specs.ExpressionDue as xd
use Rattle.js_parser.specs.MemberDue.{MemberDue}
use Rattle.js_parser.specs.MemberDue as md
use Rattle.js_parser.specs.StatementDue.{StatementDue}
use Rattle.js_parser.specs.StatementDue as sd
use Rattle.js_parser.specs.ItemDue.{ItemDue}
use Rattle.js_parser.specs.ItemDue as nd
use Rattle.js_parser.specs.Control.{Control}
use Rattle.js_parser.specs.Control as c
use Rattle.js_parser.specs.MemberStart.{MemberStart}
use Rattle.js_parser.specs.ClassStart.{ClassStart}
use Rattle.js_parser.specs.State.{Frames, State, state}

-- Parts of forms.

abbrev pub callee : the_callee.Callee → Pieces → Callee
callee ca.Call ps = callees.Call (part_in (first ps))
callee (ca.New at) ps = callees.New at (part_in (first ps))
callee (ca.Super at) ps = callees.Super at

abbrev pub under_callee : the_callee.Callee → Pieces → Pieces
under_callee ca.Call ps = rest ps
under_callee (ca.New at) ps = rest ps
under_callee (ca.Super at) ps = ps

abbrev pub member_start : the_member_start.MemberStart → KeyPart → MemberStart
member_start start key = record { at = start.at; fixed = start.fixed; kind = start.kind; key = key }

abbrev pub signature : the_signature.Signature → Pieces → Signature
signature (cg.Function at role) ps = g.Function at (given_name (first ps)) role
signature (cg.Method start) ps = g.Method (member_start start (key_in (first ps)))

abbrev pub under_signature : the_signature.Signature → Pieces → Pieces
under_signature (cg.Function at role) ps = rest ps
under_signature (cg.Method start) ps = rest ps

abbrev pub base_class : the_class_start.ClassStart → Pieces → ClassStart
base_class start ps = record { at = start.at; name = given_name (first ps); role = start.role; parent = None }

abbrev pub derived_class : the_class_start.ClassStart → Pieces → ClassStart
derived_class start ps = record { at = start.at; name = given_name (second ps); role = start.role; parent = Some (part_in (first ps)).of }

-- Open forms.

abbrev pub expression_frame : the_expression_frame.ExpressionFrame → Pieces → ExpressionFrame
expression_frame (cx.Paren at) ps = x.Paren at
expression_frame (cx.Infix operator) ps = x.Infix operator (part_in (first ps))
expression_frame (cx.Prefix operator at) ps = x.Prefix operator at
expression_frame (cx.Update at up) ps = x.Update at up
expression_frame (cx.New at) ps = x.New at
expression_frame cx.Yes ps = x.Yes (part_in (first ps))
expression_frame cx.No ps = x.No (part_in (second ps)) (part_in (first ps))
expression_frame (cx.Assign operator) ps = x.Assign (part_in (first ps)) operator
expression_frame (cx.Arrow at) ps = x.Arrow at (names_in (first ps))
expression_frame (cx.Arguments of) ps = x.Arguments (callee of (rest ps)) (expressions_in (first ps))
expression_frame (cx.Array at) ps = x.Array at (expressions_in (first ps))
expression_frame cx.Index ps = x.Index (part_in (first ps))
expression_frame (cx.SuperIndex at) ps = x.SuperIndex at
expression_frame (cx.Template at) ps = x.Template at (texts_in (first ps)) (expressions_in (second ps))

abbrev pub under_expression_frame : the_expression_frame.ExpressionFrame → Pieces → Pieces
under_expression_frame (cx.Paren at) ps = ps
under_expression_frame (cx.Infix operator) ps = rest ps
under_expression_frame (cx.Prefix operator at) ps = ps
under_expression_frame (cx.Update at up) ps = ps
under_expression_frame (cx.New at) ps = ps
under_expression_frame cx.Yes ps = rest ps
under_expression_frame cx.No ps = rest (rest ps)
under_expression_frame (cx.Assign operator) ps = rest ps
under_expression_frame (cx.Arrow at) ps = rest ps
under_expression_frame (cx.Arguments of) ps = under_callee of (rest ps)
under_expression_frame (cx.Array at) ps = rest ps
under_expression_frame cx.Index ps = rest ps
under_expression_frame (cx.SuperIndex at) ps = ps
under_expression_frame (cx.Template at) ps = rest (rest ps)

abbrev pub member_frame : the_member_frame.MemberFrame → Pieces → MemberFrame
member_frame (cm.Object at) ps = m.Object at (members_in (first ps))
member_frame (cm.Class start) ps = m.Class (base_class start (rest ps)) (members_in (first ps))
member_frame (cm.Derived start) ps = m.Class (derived_class start (rest ps)) (members_in (first ps))
member_frame (cm.Parent start) ps = m.Parent start.at (given_name (first ps)) start.role
member_frame (cm.Key at fixed kind) ps = m.Key at fixed kind
member_frame (cm.Value start) ps = m.Value (member_start start (key_in (first ps)))

abbrev pub under_member_frame : the_member_frame.MemberFrame → Pieces → Pieces
under_member_frame (cm.Object at) ps = rest ps
under_member_frame (cm.Class start) ps = rest (rest ps)
under_member_frame (cm.Derived start) ps = rest (rest (rest ps))
under_member_frame (cm.Parent start) ps = rest ps
under_member_frame (cm.Key at fixed kind) ps = ps
under_member_frame (cm.Value start) ps = rest ps

abbrev pub list_role : the_list_role.ListRole → Pieces → ListRole
list_role cl.Block ps = l.Block
list_role cl.Try ps = l.Try
list_role cl.Catch ps = l.Catch (statements_in (second ps)) (given_name (first ps))
list_role cl.Finally ps = l.Finally (statements_in (third ps)) (given_name (second ps)) (given_statements (first ps))
list_role (cl.Function of) ps = l.Function (signature of (rest ps)) (names_in (first ps))
list_role (cl.Arrow at) ps = l.Arrow at (names_in (first ps))
list_role cl.Case ps = l.Case (Some (part_in (first ps)).of)
list_role cl.Default ps = l.Case None

abbrev pub under_list_role : the_list_role.ListRole → Pieces → Pieces
under_list_role cl.Block ps = ps
under_list_role cl.Try ps = ps
under_list_role cl.Catch ps = rest (rest ps)
under_list_role cl.Finally ps = rest (rest (rest ps))
under_list_role (cl.Function of) ps = under_signature of (rest ps)
under_list_role (cl.Arrow at) ps = rest ps
under_list_role cl.Case ps = rest ps
under_list_role cl.Default ps = ps

abbrev pub statement_frame : the_statement_frame.StatementFrame → Pieces → StatementFrame
statement_frame (cs.List role) ps = s.List (list_role role (rest ps)) (statements_in (first ps))
statement_frame cs.Value ps = s.Value
statement_frame (cs.Initialiser constant role) ps = s.Initialiser constant (declarators_in (second ps)) role (name_in (first ps))
statement_frame (cs.Test opening) ps = s.Test opening
statement_frame cs.DoTest ps = s.DoTest (statement_in (first ps))
statement_frame cs.ForValue ps = s.ForValue
statement_frame cs.ForTest ps = s.ForTest (head_in (first ps))
statement_frame cs.ForStep ps = s.ForStep (head_in (second ps)) (given_expression (first ps))
statement_frame (cs.Return at) ps = s.Return at
statement_frame cs.Throw ps = s.Throw
statement_frame cs.CaseTest ps = s.CaseTest
statement_frame cs.Yes ps = s.Yes (part_in (first ps)).of
statement_frame cs.No ps = s.No (part_in (second ps)).of (statement_in (first ps))
statement_frame cs.While ps = s.While (part_in (first ps)).of
statement_frame cs.For ps = s.For (head_in (third ps)) (given_expression (second ps)) (given_expression (first ps))
statement_frame cs.Do ps = s.Do
statement_frame (cs.Switch has_default) ps = s.Switch (part_in (second ps)).of (cases_in (first ps)) has_default

abbrev pub under_statement_frame : the_statement_frame.StatementFrame → Pieces → Pieces
under_statement_frame (cs.List role) ps = under_list_role role (rest ps)
under_statement_frame cs.Value ps = ps
under_statement_frame (cs.Initialiser constant role) ps = rest (rest ps)
under_statement_frame (cs.Test opening) ps = ps
under_statement_frame cs.DoTest ps = rest ps
under_statement_frame cs.ForValue ps = ps
under_statement_frame cs.ForTest ps = rest ps
under_statement_frame cs.ForStep ps = rest (rest ps)
under_statement_frame (cs.Return at) ps = ps
under_statement_frame cs.Throw ps = ps
under_statement_frame cs.CaseTest ps = ps
under_statement_frame cs.Yes ps = rest ps
under_statement_frame cs.No ps = rest (rest ps)
under_statement_frame cs.While ps = rest ps
under_statement_frame cs.For ps = rest (rest (rest ps))
under_statement_frame cs.Do ps = ps
under_statement_frame (cs.Switch has_default) ps = rest (rest ps)

abbrev pub item_frame : the_item_frame.ItemFrame → Pieces → ItemFrame
item_frame cn.Module ps = n.Module (items_in (first ps))
item_frame cn.Export ps = n.Export
item_frame (cn.Default at) ps = n.Default at

abbrev pub under_item_frame : the_item_frame.ItemFrame → Pieces → Pieces
under_item_frame cn.Module ps = rest ps
under_item_frame cn.Export ps = ps
under_item_frame (cn.Default at) ps = ps

abbrev pub frame : the_frame.Frame → Pieces → Frame
frame (cf.Expression of) ps = f.Expression (expression_frame of ps)
frame (cf.Member of) ps = f.Member (member_frame of ps)
frame (cf.Statement of) ps = f.Statement (statement_frame of ps)
frame (cf.Item of) ps = f.Item (item_frame of ps)

abbrev pub under_frame : the_frame.Frame → Pieces → Pieces
under_frame (cf.Expression of) ps = under_expression_frame of ps
under_frame (cf.Member of) ps = under_member_frame of ps
under_frame (cf.Statement of) ps = under_statement_frame of ps
under_frame (cf.Item of) ps = under_item_frame of ps

-- the open forms, each with what was read of it
abbrev pub frames : List the_frame.Frame → Pieces → Frames
frames [] ps = []
frames (one ∷ more) ps = frame one ps ∷ frames more (under_frame one ps)

-- What is due.

abbrev pub expression_due : the_expression_due.ExpressionDue → Pieces → ExpressionDue
expression_due cxd.Property ps = xd.Property (part_in (first ps))
expression_due (cxd.Super at) ps = xd.Super at
expression_due (cxd.SuperProperty at) ps = xd.SuperProperty at
expression_due (cxd.Arrow at) ps = xd.Arrow at (names_in (first ps))
expression_due (cxd.ArrowBody at) ps = xd.ArrowBody at (names_in (first ps))

abbrev pub under_expression_due : the_expression_due.ExpressionDue → Pieces → Pieces
under_expression_due cxd.Property ps = rest ps
under_expression_due (cxd.Super at) ps = ps
under_expression_due (cxd.SuperProperty at) ps = ps
under_expression_due (cxd.Arrow at) ps = rest ps
under_expression_due (cxd.ArrowBody at) ps = rest ps

abbrev pub member_due : the_member_due.MemberDue → Pieces → MemberDue
member_due cmd.Member ps = md.Member
member_due cmd.Next ps = md.Next
member_due (cmd.Fixed at) ps = md.Fixed at
member_due (cmd.Accessor at fixed kind) ps = md.Accessor at fixed kind (name_in (first ps))
member_due (cmd.Key start) ps = md.Key (member_start start (key_in (first ps))) None
member_due (cmd.NameKey start) ps = md.Key (member_start start (key_in (second ps))) (Some (name_in (first ps)))
member_due (cmd.FunctionName at role) ps = md.FunctionName at role
member_due (cmd.Parameters of) ps = md.Parameters (signature of ps)
member_due (cmd.Parameter of) ps = md.Parameter (signature of (rest ps)) (names_in (first ps))
member_due (cmd.ParameterNext of) ps = md.ParameterNext (signature of (rest ps)) (names_in (first ps))
member_due (cmd.Body of) ps = md.Body (signature of (rest ps)) (names_in (first ps))
member_due (cmd.ClassName at role) ps = md.ClassName at role
member_due (cmd.ClassNext start) ps = md.ClassNext start.at (given_name (first ps)) start.role

abbrev pub under_member_due : the_member_due.MemberDue → Pieces → Pieces
under_member_due cmd.Member ps = ps
under_member_due cmd.Next ps = ps
under_member_due (cmd.Fixed at) ps = ps
under_member_due (cmd.Accessor at fixed kind) ps = rest ps
under_member_due (cmd.Key start) ps = rest ps
under_member_due (cmd.NameKey start) ps = rest (rest ps)
under_member_due (cmd.FunctionName at role) ps = ps
under_member_due (cmd.Parameters of) ps = under_signature of ps
under_member_due (cmd.Parameter of) ps = under_signature of (rest ps)
under_member_due (cmd.ParameterNext of) ps = under_signature of (rest ps)
under_member_due (cmd.Body of) ps = under_signature of (rest ps)
under_member_due (cmd.ClassName at role) ps = ps
under_member_due (cmd.ClassNext start) ps = rest ps

abbrev pub statement_due : the_statement_due.StatementDue → Pieces → StatementDue
statement_due (csd.Open opening) ps = sd.Open opening
statement_due (csd.Brace role) ps = sd.Brace (list_role role ps)
statement_due csd.SwitchBrace ps = sd.SwitchBrace (part_in (first ps)).of
statement_due csd.Case ps = sd.Case
statement_due csd.CaseColon ps = sd.CaseColon
statement_due csd.ForOpen ps = sd.ForOpen
statement_due csd.ForHead ps = sd.ForHead
statement_due csd.ForTest ps = sd.ForTest (head_in (first ps))
statement_due csd.ForStep ps = sd.ForStep (head_in (second ps)) (given_expression (first ps))
statement_due (csd.Name constant role) ps = sd.Name constant (declarators_in (first ps)) role
statement_due (csd.NameNext constant role) ps = sd.NameNext constant (declarators_in (second ps)) role (name_in (first ps))
statement_due csd.Else ps = sd.Else (part_in (second ps)).of (statement_in (first ps))
statement_due csd.DoWhile ps = sd.DoWhile (statement_in (first ps))
statement_due csd.DoOpen ps = sd.DoOpen (statement_in (first ps))
statement_due csd.DoEnd ps = sd.DoEnd (statement_in (second ps)) (part_in (first ps)).of
statement_due (csd.Jump jump at) ps = sd.Jump jump at
statement_due (csd.Return at) ps = sd.Return at
statement_due csd.Throw ps = sd.Throw
statement_due csd.Guard ps = sd.Guard (statements_in (first ps))
statement_due csd.Catch ps = sd.Catch (statements_in (first ps))
statement_due csd.CatchName ps = sd.CatchName (statements_in (first ps))
statement_due csd.CatchClose ps = sd.CatchClose (statements_in (second ps)) (name_in (first ps))
statement_due csd.Finally ps = sd.Finally (statements_in (third ps)) (given_name (second ps)) (statements_in (first ps))

abbrev pub under_statement_due : the_statement_due.StatementDue → Pieces → Pieces
under_statement_due (csd.Open opening) ps = ps
under_statement_due (csd.Brace role) ps = under_list_role role ps
under_statement_due csd.SwitchBrace ps = rest ps
under_statement_due csd.Case ps = ps
under_statement_due csd.CaseColon ps = ps
under_statement_due csd.ForOpen ps = ps
under_statement_due csd.ForHead ps = ps
under_statement_due csd.ForTest ps = rest ps
under_statement_due csd.ForStep ps = rest (rest ps)
under_statement_due (csd.Name constant role) ps = rest ps
under_statement_due (csd.NameNext constant role) ps = rest (rest ps)
under_statement_due csd.Else ps = rest (rest ps)
under_statement_due csd.DoWhile ps = rest ps
under_statement_due csd.DoOpen ps = rest ps
under_statement_due csd.DoEnd ps = rest (rest ps)
under_statement_due (csd.Jump jump at) ps = ps
under_statement_due (csd.Return at) ps = ps
under_statement_due csd.Throw ps = ps
under_statement_due csd.Guard ps = rest ps
under_statement_due csd.Catch ps = rest ps
under_statement_due csd.CatchName ps = rest ps
under_statement_due csd.CatchClose ps = rest (rest ps)
under_statement_due csd.Finally ps = rest (rest (rest ps))

abbrev pub item_due : the_item_due.ItemDue → Pieces → ItemDue
item_due cnd.Import ps = nd.Import
item_due cnd.ImportNext ps = nd.ImportNext (pairs_in (first ps))
item_due cnd.ImportBrace ps = nd.ImportBrace (pairs_in (first ps))
item_due (cnd.Pair role) ps = nd.Pair role (pairs_in (first ps))
item_due (cnd.PairAs role outer) ps = nd.PairAs role (pairs_in (second ps)) (name_in (first ps)) outer
item_due (cnd.PairGiven role outer) ps = nd.PairGiven role (pairs_in (second ps)) (name_in (first ps)) outer
item_due (cnd.PairNext role) ps = nd.PairNext role (pairs_in (first ps))
item_due cnd.From ps = nd.From (pairs_in (first ps))
item_due (cnd.Other role) ps = nd.Other role (pairs_in (first ps))
item_due (cnd.OtherEnd role) ps = nd.OtherEnd role (pairs_in (second ps)) (text_in (first ps))
item_due (cnd.ExportNext from) ps = nd.ExportNext from (pairs_in (first ps))
item_due cnd.Export ps = nd.Export
item_due (cnd.Default at) ps = nd.Default at

abbrev pub under_item_due : the_item_due.ItemDue → Pieces → Pieces
under_item_due cnd.Import ps = ps
under_item_due cnd.ImportNext ps = rest ps
under_item_due cnd.ImportBrace ps = rest ps
under_item_due (cnd.Pair role) ps = rest ps
under_item_due (cnd.PairAs role outer) ps = rest (rest ps)
under_item_due (cnd.PairGiven role outer) ps = rest (rest ps)
under_item_due (cnd.PairNext role) ps = rest ps
under_item_due cnd.From ps = rest ps
under_item_due (cnd.Other role) ps = rest ps
under_item_due (cnd.OtherEnd role) ps = rest (rest ps)
under_item_due (cnd.ExportNext from) ps = rest ps
under_item_due cnd.Export ps = ps
under_item_due (cnd.Default at) ps = ps

abbrev pub control : the_control.Control → Pieces → Control
control cc.Fail ps = c.Fail
control cc.Operand ps = c.Operand
control cc.Read ps = c.Read (part_in (first ps))
control cc.Statement ps = c.Statement
control (cc.Expression due) ps = c.Expression (expression_due due ps)
control (cc.Member due) ps = c.Member (member_due due ps)
control (cc.StatementPart due) ps = c.StatementPart (statement_due due ps)
control (cc.Item due) ps = c.Item (item_due due ps)
control cc.Done ps = c.Done (items_in (first ps))

abbrev pub under_control : the_control.Control → Pieces → Pieces
under_control cc.Fail ps = ps
under_control cc.Operand ps = ps
under_control cc.Read ps = rest ps
under_control cc.Statement ps = ps
under_control (cc.Expression due) ps = under_expression_due due ps
under_control (cc.Member due) ps = under_member_due due ps
under_control (cc.StatementPart due) ps = under_statement_due due ps
under_control (cc.Item due) ps = under_item_due due ps
under_control cc.Done ps = rest ps

-- where the reading stands
abbrev pub held : the_control.Control → List the_frame.Frame → Pieces → State
held due forms ps = state (control due ps) (frames forms (under_control due ps))
