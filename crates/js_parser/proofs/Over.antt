-- At the end of the text the machine is done, or it fails.
use Rattle.std.proofs.Common.{◌≡◌, sym, ap, subst, ℕ, ◌≤◌, Bool, true, false, List, [], ◌∷◌, Option, Some, None, arith}
use Rattle.std.proofs.lemmas.Bool.{leb-true}
use Rattle.es_model.specs.declared.kinds.Semi.TheVariants as semi
use Rattle.es_model.specs.declared.kinds.MemberKind.{MemberKind}
use Rattle.es_model.specs.declared.kinds.MemberKind.TheVariants as kind
use Rattle.es_model.specs.declared.names.Identifier.{Identifier}
use Rattle.es_model.specs.declared.names.Pair.{Pair}
use Rattle.es_model.specs.declared.token.Token.{Token}
use Rattle.es_model.specs.declared.token.TokenKind.TheVariants as k
use Rattle.es_model.specs.Tree as t
use Rattle.js_parser.specs.declared.words.Word.TheVariants as w
use Rattle.parser_forms.specs.declared.parts.Part.{Part}
use Rattle.js_parser.specs.Frame.{Frame}
use Rattle.js_parser.specs.Frame as f
use Rattle.js_parser.specs.ExpressionFrame as x
use Rattle.js_parser.specs.MemberFrame as m
use Rattle.js_parser.specs.StatementFrame as s
use Rattle.js_parser.specs.ItemFrame as n
use Rattle.js_parser.specs.declared.frame.Role.{Role}
use Rattle.js_parser.specs.declared.frame.Role.TheVariants as role
use Rattle.js_parser.specs.MemberStart.{MemberStart}
use Rattle.js_parser.specs.declared.frame.DeclareRole.{DeclareRole}
use Rattle.js_parser.specs.declared.frame.DeclareRole.TheVariants as d
use Rattle.js_parser.specs.declared.frame.PairRole.{PairRole}
use Rattle.js_parser.specs.declared.frame.PairRole.TheVariants as pr
use Rattle.js_parser.specs.ExpressionDue.{ExpressionDue}
use Rattle.js_parser.specs.ExpressionDue as xd
use Rattle.js_parser.specs.MemberDue.{MemberDue}
use Rattle.js_parser.specs.MemberDue as md
use Rattle.js_parser.specs.StatementDue.{StatementDue}
use Rattle.js_parser.specs.StatementDue as sd
use Rattle.js_parser.specs.ItemDue.{ItemDue}
use Rattle.js_parser.specs.ItemDue as nd
use Rattle.js_parser.specs.Control.{Control}
use Rattle.js_parser.specs.Control as c
use Rattle.parser_forms.specs.Kept.{Sorted, and_then}
use Rattle.parser_forms.specs.Parts as p
use Rattle.js_parser.specs.Tables.{goes_on_in, slot_of}
use Rattle.parser_forms.specs.Asks.{is_new_callee}
use Rattle.js_parser.specs.State.{Frames, State, state}
use Rattle.js_parser.specs.Ends.{case_start, module_end}
use Rattle.js_parser.specs.Begins.{close_item, close}
use Rattle.js_parser.specs.Settle.{names_end, object_next, ended, closed, settle}
use Rattle.js_parser.specs.MemberSteps.{object_key, key_next, member_due, member_next, function_name, class_name, expression_step, member_step}
use Rattle.js_parser.specs.StatementSteps.{jump, name_next, statement_step}
use Rattle.js_parser.specs.ItemSteps.{from_other, both_names, given_word, export_names, item_step}
use Rattle.js_parser.specs.Machine.{step_by, step}
use Rattle.js_parser.proofs.SoundEnds.{split}
use Rattle.js_parser.proofs.SoundSettle.{slot_is}

abbrev pub IsOver : State → Type 0
IsOver (state c.Fail frames) = Unit {0}
IsOver (state (c.Done items) frames) = Unit {0}
IsOver _ = ⊥

-- the end of the text, at a place
abbrev end_at : ℕ → Bool → Token
end_at at line = record { kind = k.End; at = at; line_before = line }

over_module : (frames : Frames) → IsOver (module_end frames)
over_module (f.Item (n.Module items) ∷ []) = tt
over_module _ = tt

module _ (at : ℕ) (line : Bool) where
  over_close_item : (frames : Frames) (one : Sorted t.item) → IsOver (close_item frames one (end_at at line))
  over_close_item (f.Item (n.Module items) ∷ []) one = tt
  over_close_item (f.Item (n.Module items) ∷ frame ∷ frames) one = tt
  over_close_item _ one = tt

  over_close : (frames : Frames) (one : Sorted t.statement) → IsOver (close frames one (end_at at line))
  over_close (f.Statement (s.List stands list) ∷ frames) one = tt
  over_close (f.Statement (s.Yes test) ∷ frames) one = over_close frames (p.choice test one None)
  over_close (f.Statement (s.No test first) ∷ frames) one = over_close frames (p.choice test first (Some one))
  over_close (f.Statement (s.While test) ∷ frames) one = over_close frames (p.while_loop test one)
  over_close (f.Statement (s.For head test each) ∷ frames) one = over_close frames (p.for_loop head test each one)
  over_close (f.Statement s.Do ∷ frames) one = tt
  over_close (f.Item (n.Module items) ∷ frames) one = over_close_item (f.Item (n.Module items) ∷ frames) (p.plain_item one)
  over_close (f.Item n.Export ∷ frames) one = over_close_item frames (p.exported_item one)
  over_close _ one = tt

  over_names : (frames : Frames) (constant : Bool) (names : Sorted (t.list t.declarator)) (use_of : DeclareRole) → IsOver (names_end frames constant names use_of (end_at at line))
  over_names frames constant names d.Statement = over_close frames (p.declare constant names semi.Missing)
  over_names frames constant names d.For = tt

  over_object : (frames : Frames) (one : Sorted t.member) → IsOver (object_next frames one w.End)
  over_object (f.Member (m.Object place members) ∷ frames) one = tt
  over_object _ one = tt

  over_ended : (frame : Frame) (frames : Frames) (part : Part) → IsOver (ended frame frames part (end_at at line))
  over_ended (f.Member (m.Value start)) frames part = over_object frames (p.value_member start.at start.key part)
  over_ended (f.Statement s.Value) frames part = over_close frames (p.value part.of semi.Missing)
  over_ended (f.Statement (s.Initialiser constant names use_of own)) frames part = over_names frames constant (and_then names (p.declarator own (Some part.of))) use_of
  over_ended (f.Statement (s.Return place)) frames part = over_close frames (p.return place (Some part.of) semi.Missing)
  over_ended (f.Statement s.Throw) frames part = over_close frames (p.throw part.of semi.Missing)
  over_ended (f.Item (n.Default place)) frames part = over_close_item frames (p.default_value place part.of semi.Missing)
  over_ended (f.Expression (x.Paren place)) frames part = tt
  over_ended _ frames part = tt

  over_closed : (frame : Frame) (again : Part → State) (frames : Frames) (part : Part) → ((next : Part) → IsOver (again next)) → IsOver (closed frame again frames part (end_at at line))
  over_closed (f.Expression (x.Infix operator left)) again frames part ih = ih (p.operation operator left part)
  over_closed (f.Expression (x.Prefix operator place)) again frames part ih = ih (p.prefix_form operator place part)
  over_closed (f.Expression (x.Update place up)) again frames part ih = split IsOver part.is_target _ _ (λ q. ih (p.update_before place up part)) (λ q. tt)
  over_closed (f.Expression (x.New place)) again frames part ih = split IsOver (is_new_callee part) _ _ (λ q. ih (p.bare_new place part)) (λ q. tt)
  over_closed (f.Expression (x.No test first)) again frames part ih = ih (p.conditional test first part)
  over_closed (f.Expression (x.Assign left operator)) again frames part ih = ih (p.assign left operator part)
  over_closed (f.Expression (x.Arrow place list)) again frames part ih = ih (p.arrow place list part)
  over_closed frame again frames part ih = over_ended frame frames part

  over_settle : (frames : Frames) (part : Part) → IsOver (settle frames part (end_at at line))
  over_settle [] part = tt
  over_settle (frame ∷ frames) part =
      split IsOver (goes_on_in frame w.End line) _ _
      (λ q. let least : 1 ≤ slot_of frame = slot_is frame in let most : slot_of frame ≤ 0 = leb-true _ _ q in absurd (omega arith))
      (λ q. over_closed frame (λ next. settle frames next (end_at at line)) frames part (λ next. over_settle frames next))

  over_expression : (due : ExpressionDue) (frames : Frames) → IsOver (expression_step due frames (end_at at line))
  over_expression (xd.Property part) frames = tt
  over_expression _ frames = tt

  over_member_due : (frames : Frames) → IsOver (member_due frames (end_at at line))
  over_member_due (f.Member (m.Object place members) ∷ frames) = tt
  over_member_due (f.Member (m.Class start members) ∷ frames) = tt
  over_member_due _ = tt

  over_member_next : (frames : Frames) → IsOver (member_next frames w.End)
  over_member_next (f.Member (m.Object place members) ∷ frames) = tt
  over_member_next _ = tt

  over_object_key : (frames : Frames) (start : MemberStart) (short : Option Identifier) (kinded : MemberKind) → IsOver (object_key frames start short kinded w.End)
  over_object_key frames start (Some own) kind.Method = tt
  over_object_key frames start None kind.Method = tt
  over_object_key frames start _ _ = tt

  over_key : (frames : Frames) (start : MemberStart) (short : Option Identifier) → IsOver (key_next frames start short w.End)
  over_key (f.Member (m.Object place members) ∷ frames) start short = over_object_key (f.Member (m.Object place members) ∷ frames) start short start.kind
  over_key _ start short = tt

  over_function_name : (frames : Frames) (place : ℕ) (stands : Role) → IsOver (function_name frames place stands k.End at w.End)
  over_function_name frames place role.Statement = tt
  over_function_name frames place _ = tt

  over_class_name : (frames : Frames) (place : ℕ) (stands : Role) → IsOver (class_name frames place stands k.End at w.End)
  over_class_name frames place role.Statement = tt
  over_class_name frames place _ = tt

  over_member : (due : MemberDue) (frames : Frames) → IsOver (member_step due frames (end_at at line))
  over_member md.Member frames = over_member_due frames
  over_member md.Next frames = over_member_next frames
  over_member (md.Key start short) frames = over_key frames start short
  over_member (md.FunctionName place stands) frames = over_function_name frames place stands
  over_member (md.ClassName place stands) frames = over_class_name frames place stands
  over_member _ frames = tt

  over_case : (frames : Frames) → IsOver (case_start frames w.End)
  over_case (f.Statement (s.Switch of cases true) ∷ frames) = tt
  over_case (f.Statement (s.Switch of cases false) ∷ frames) = tt
  over_case _ = tt

  over_name_next : (frames : Frames) (constant : Bool) (names : Sorted (t.list t.declarator)) (use_of : DeclareRole) (own : Identifier) → IsOver (name_next frames constant names use_of own (end_at at line) w.End)
  over_name_next frames true names use_of own = tt
  over_name_next frames false names use_of own = over_names frames false (and_then names (p.declarator own None)) use_of

  over_statement : (due : StatementDue) (frames : Frames) → IsOver (statement_step due frames (end_at at line))
  over_statement sd.Case frames = over_case frames
  over_statement (sd.NameNext constant names use_of own) frames = over_name_next frames constant names use_of own
  over_statement (sd.Else test first) frames = over_close frames (p.choice test first None)
  over_statement (sd.DoEnd body test) frames = over_close frames (p.do_loop body test semi.Missing)
  over_statement (sd.Jump which place) frames = over_close frames (jump which place semi.Missing)
  over_statement (sd.Return place) frames = over_close frames (p.return place None semi.Missing)
  over_statement sd.Throw frames = split IsOver line _ _ (λ q. tt) (λ q. tt)
  over_statement (sd.Finally block own catch) frames = over_close frames (p.guarded block own (Some catch) None)
  over_statement _ frames = tt

  over_both : (frames : Frames) (stands : PairRole) (pairs : List Pair) (taken : Identifier) (outer : Bool) → IsOver (both_names frames stands pairs taken outer w.End)
  over_both frames pr.Import pairs taken true = tt
  over_both frames pr.Import pairs taken false = tt
  over_both frames (pr.Export from) pairs taken outer = tt

  over_given : (frames : Frames) (stands : PairRole) (pairs : List Pair) (taken : Identifier) (outer : Bool) → IsOver (given_word frames stands pairs taken outer at w.End)
  over_given frames pr.Import pairs taken outer = tt
  over_given frames (pr.Export from) pairs taken outer = tt

  over_exports : (frames : Frames) (from : Bool) (pairs : List Pair) → IsOver (export_names frames from pairs (end_at at line))
  over_exports frames true pairs = tt
  over_exports frames false pairs = over_close_item frames (p.bare_item (t.ExportNames pairs semi.Missing))

  over_item : (due : ItemDue) (frames : Frames) → IsOver (item_step due frames (end_at at line))
  over_item (nd.PairAs stands pairs taken outer) frames = over_both frames stands pairs taken outer
  over_item (nd.PairGiven stands pairs taken outer) frames = over_given frames stands pairs taken outer
  over_item (nd.OtherEnd stands pairs from) frames = over_close_item frames (from_other stands pairs from semi.Missing)
  over_item (nd.ExportNext from pairs) frames = over_exports frames from pairs
  over_item _ frames = tt

  over_by : (control : Control) (frames : Frames) → IsOver (step_by control frames (end_at at line))
  over_by c.Fail frames = tt
  over_by c.Operand frames = tt
  over_by (c.Read part) frames = over_settle frames part
  over_by c.Statement frames = over_module frames
  over_by (c.Expression due) frames = over_expression due frames
  over_by (c.Member due) frames = over_member due frames
  over_by (c.StatementPart due) frames = over_statement due frames
  over_by (c.Item due) frames = over_item due frames
  over_by (c.Done items) frames = tt

  over_step : (st : State) → IsOver (step st (end_at at line))
  over_step (state control frames) = over_by control frames

pub over : (st : State) (token : Token) → token.kind ≡ k.End → IsOver (step st token)
over st token e =
    let same : token ≡ end_at token.at token.line_before = ap (λ u. record { kind = u; at = token.at; line_before = token.line_before }) e in
    subst (λ u. IsOver (step st u)) (sym same) (over_step token.at token.line_before st)
