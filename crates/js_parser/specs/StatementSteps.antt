-- What a token makes of a state in which a part of a statement is due.

use Rattle.std.specs.Prelude.{ℕ, Bool, true, false, ◌||◌, ◌∷◌, Option, Some, None, if◌then◌else◌}
use Rattle.es_model.specs.declared.kinds.Semi.{Semi}
use Rattle.es_model.specs.declared.names.Identifier.{Identifier}
use Rattle.es_model.specs.declared.token.Token.{Token}
use Rattle.es_model.specs.declared.token.TokenKind.{TokenKind}
use Rattle.es_model.specs.declared.token.TokenKind.TheVariants as k
use Rattle.es_model.specs.Tree as t
use Rattle.es_model.specs.Tree.{Text}
use Rattle.js_parser.specs.declared.words.Word.{Word}
use Rattle.js_parser.specs.declared.words.Word.TheVariants as w
use Rattle.js_parser.specs.Frame as f
use Rattle.js_parser.specs.StatementFrame as s
use Rattle.js_parser.specs.ListRole as l
use Rattle.js_parser.specs.declared.frame.DeclareRole.{DeclareRole}
use Rattle.js_parser.specs.declared.frame.DeclareRole.TheVariants as d
use Rattle.js_parser.specs.declared.frame.Jump.{Jump}
use Rattle.js_parser.specs.declared.frame.Jump.TheVariants as j
use Rattle.js_parser.specs.StatementDue.{StatementDue}
use Rattle.js_parser.specs.StatementDue as sd
use Rattle.parser_forms.specs.Kept.{Sorted, none, and_then}
use Rattle.parser_forms.specs.Parts as p
use Rattle.js_parser.specs.Tables.{may_miss_bare, is_semicolon}
use Rattle.js_parser.specs.State.{Frames, State, fail, operand_due, statement_due, statement_part, the_word}
use Rattle.js_parser.specs.Ends.{switch_end, case_start}
use Rattle.js_parser.specs.Begins.{operand, close, else_or, while_or_fail}
use Rattle.js_parser.specs.Settle.{statement_end, names_end}

-- a state, where the word is the one that is due
abbrev pub at_paren : State → Word → State
at_paren st w.LeftParen = st
at_paren st _ = fail

abbrev pub at_brace : State → Word → State
at_brace st w.LeftBrace = st
at_brace st _ = fail

abbrev pub at_colon : State → Word → State
at_colon st w.Colon = st
at_colon st _ = fail

abbrev pub at_close : State → Word → State
at_close st w.RightParen = st
at_close st _ = fail

abbrev pub ident : ℕ → Text → Identifier
ident at text = record { at = at; name = text }

-- Switches.

abbrev pub case_due : Frames → Word → State
case_due frames w.RightBrace = switch_end frames
case_due frames word = case_start frames word

-- The three parts of a `for`.

abbrev pub for_head : Frames → Token → Word → State
for_head frames token w.Semicolon = statement_part (sd.ForTest p.head_nothing) frames
for_head frames token w.Let = statement_part (sd.Name false none d.For) frames
for_head frames token w.Const = statement_part (sd.Name true none d.For) frames
for_head frames token _ = operand (f.Statement s.ForValue ∷ frames) token

abbrev pub for_test : Frames → Sorted t.head → Token → Word → State
for_test frames head token w.Semicolon = statement_part (sd.ForStep head None) frames
for_test frames head token _ = operand (f.Statement (s.ForTest head) ∷ frames) token

abbrev pub for_step : Frames → Sorted t.head → Option (Sorted t.expression) → Token → Word → State
for_step frames head test token w.RightParen = statement_due (f.Statement (s.For head test None) ∷ frames)
for_step frames head test token _ = operand (f.Statement (s.ForStep head test) ∷ frames) token

-- Declared names; `const` has an initialiser.

abbrev pub name_due : Frames → Bool → Sorted (t.list t.declarator) → DeclareRole → TokenKind → ℕ → State
name_due frames constant names stands (k.Name text) at = statement_part (sd.NameNext constant names stands (ident at text)) frames
name_due frames constant names stands _ at = fail

abbrev pub name_end : Frames → Sorted (t.list t.declarator) → DeclareRole → Token → Word → State
name_end frames names stands token w.Comma = statement_part (sd.Name false names stands) frames
name_end frames names stands token _ = names_end frames false names stands token

abbrev pub name_next : Frames → Bool → Sorted (t.list t.declarator) → DeclareRole → Identifier → Token → Word → State
name_next frames constant names stands own token w.Assign = operand_due (f.Statement (s.Initialiser constant names stands own) ∷ frames)
name_next frames false names stands own token word = name_end frames (and_then names (p.declarator own None)) stands token word
name_next frames true names stands own token _ = fail

-- Jumps, whose missing semicolon needs less.

abbrev pub jump : Jump → ℕ → Semi → Sorted t.statement
jump j.Break at mark = p.bare (t.Break at mark)
jump j.Continue at mark = p.bare (t.Continue at mark)

abbrev pub bare_may : Token → Bool
bare_may token = may_miss_bare (the_word token) token.line_before

abbrev pub return_due : Frames → ℕ → Token → State
return_due frames at token =
    if is_semicolon (the_word token) || bare_may token then statement_end frames (p.return at None) (bare_may token) token (the_word token) else operand (f.Statement (s.Return at) ∷ frames) token

abbrev pub throw_due : Frames → Token → State
throw_due frames token = if token.line_before then fail else operand (f.Statement s.Throw ∷ frames) token

-- Try.

abbrev pub guard_due : Frames → Sorted (t.list t.statement) → Word → State
guard_due frames block w.Catch = statement_part (sd.Catch block) frames
guard_due frames block w.Finally = statement_part (sd.Brace (l.Finally block None None)) frames
guard_due frames block _ = fail

abbrev pub catch_due : Frames → Sorted (t.list t.statement) → Word → State
catch_due frames block w.LeftParen = statement_part (sd.CatchName block) frames
catch_due frames block w.LeftBrace = statement_due (f.Statement (s.List (l.Catch block None) none) ∷ frames)
catch_due frames block _ = fail

abbrev pub catch_name : Frames → Sorted (t.list t.statement) → TokenKind → ℕ → State
catch_name frames block (k.Name text) at = statement_part (sd.CatchClose block (ident at text)) frames
catch_name frames block _ at = fail

abbrev pub finally_due : Frames → Sorted (t.list t.statement) → Option Identifier → Sorted (t.list t.statement) → Token → Word → State
finally_due frames block own catch token w.Finally = statement_part (sd.Brace (l.Finally block own (Some catch))) frames
finally_due frames block own catch token _ = close frames (p.guarded block own (Some catch) None) token

abbrev pub statement_step : StatementDue → Frames → Token → State
statement_step (sd.Open opening) frames token = at_paren (operand_due (f.Statement (s.Test opening) ∷ frames)) (the_word token)
statement_step (sd.Brace stands) frames token = at_brace (statement_due (f.Statement (s.List stands none) ∷ frames)) (the_word token)
statement_step (sd.SwitchBrace of) frames token = at_brace (statement_part sd.Case (f.Statement (s.Switch of none false) ∷ frames)) (the_word token)
statement_step sd.Case frames token = case_due frames (the_word token)
statement_step sd.CaseColon frames token = at_colon (statement_due (f.Statement (s.List (l.Case None) none) ∷ frames)) (the_word token)
statement_step sd.ForOpen frames token = at_paren (statement_part sd.ForHead frames) (the_word token)
statement_step sd.ForHead frames token = for_head frames token (the_word token)
statement_step (sd.ForTest head) frames token = for_test frames head token (the_word token)
statement_step (sd.ForStep head test) frames token = for_step frames head test token (the_word token)
statement_step (sd.Name constant names stands) frames token = name_due frames constant names stands token.kind token.at
statement_step (sd.NameNext constant names stands own) frames token = name_next frames constant names stands own token (the_word token)
statement_step (sd.Else test first) frames token =
    else_or (statement_due (f.Statement (s.No test first) ∷ frames)) (close frames (p.choice test first None) token) (the_word token)
statement_step (sd.DoWhile body) frames token = while_or_fail (statement_part (sd.DoOpen body) frames) (the_word token)
statement_step (sd.DoOpen body) frames token = at_paren (operand_due (f.Statement (s.DoTest body) ∷ frames)) (the_word token)
statement_step (sd.DoEnd body test) frames token = statement_end frames (p.do_loop body test) true token (the_word token)
statement_step (sd.Jump which at) frames token = statement_end frames (jump which at) (bare_may token) token (the_word token)
statement_step (sd.Return at) frames token = return_due frames at token
statement_step sd.Throw frames token = throw_due frames token
statement_step (sd.Guard block) frames token = guard_due frames block (the_word token)
statement_step (sd.Catch block) frames token = catch_due frames block (the_word token)
statement_step (sd.CatchName block) frames token = catch_name frames block token.kind token.at
statement_step (sd.CatchClose block own) frames token = at_close (statement_part (sd.Brace (l.Catch block (Some own))) frames) (the_word token)
statement_step (sd.Finally block own catch) frames token = finally_due frames block own catch token (the_word token)
