-- Where a part of a statement is due: what was taken still stands for the tokens.
use Rattle.std.proofs.Common.{◌≡◌, ◌∙◌, sym, ap, subst, refl, ℕ, Bool, true, false, ◌∷◌, Option, Some, None, arith, true≢false}
use Rattle.std.specs.Prelude.{◌&&◌, ◌||◌, not}
use Rattle.es_model.specs.declared.names.Identifier.{Identifier}
use Rattle.es_model.specs.declared.token.Token.{Token}
use Rattle.es_model.specs.declared.token.TokenKind.{TokenKind}
use Rattle.es_model.specs.declared.token.TokenKind.TheVariants as k
use Rattle.es_model.specs.Tree as t
use Rattle.es_model.specs.Readings as reading
use Rattle.es_model.specs.Readings.{Tokens, word}
use Rattle.js_parser.specs.declared.words.Word.{Word}
use Rattle.js_parser.specs.declared.words.Word.TheVariants as w
use Rattle.js_parser.specs.Frame as f
use Rattle.js_parser.specs.StatementFrame as s
use Rattle.js_parser.specs.declared.frame.DeclareRole.{DeclareRole}
use Rattle.js_parser.specs.StatementDue.{StatementDue}
use Rattle.js_parser.specs.StatementDue as sd
use Rattle.parser_forms.specs.Kept.{Sorted, and_then}
use Rattle.parser_forms.specs.Parts as p
use Rattle.js_parser.specs.Tables.{is_semicolon, ends}
use Rattle.js_parser.specs.State.{Frames, State, fail, the_word}
use Rattle.js_parser.specs.StatementSteps.{at_paren, at_brace, at_colon, at_close, case_due, for_head, for_test, for_step, name_due, name_end, name_next, jump, bare_may, return_due, guard_due, catch_due, catch_name, finally_due, statement_step}
use Rattle.js_parser.proofs.WordLaws.{Is, kind_is, may_miss_bare_is, may_miss_after_do_is}
use Rattle.js_parser.proofs.SoundStates.{Opened, Holds, DueHolds, Takes, DeclareFits, StatementDueFits, StatementTaken}
use Rattle.js_parser.proofs.SoundStatementForms.{read_no_statements, read_no_cases, read_no_names, read_head_nothing, read_left_out, read_name_comma, read_name_last, read_short_if, read_do, read_jump, read_bare_return, read_try_catch}
use Rattle.js_parser.proofs.SoundEnds.{split, in_switch, switch_end_holds, case_start_holds}
use Rattle.js_parser.proofs.SoundBegins.{else_or_by, while_by, operand_holds, close_holds}
use Rattle.js_parser.proofs.SoundSettle.{statement_end_holds, names_end_holds}

paren_by : (P : State → Type 0) (token : Token) (one : Word) (st : State) → Is one token.kind → (token.kind ≡ word "(" → P st) → P fail → P (at_paren st one)
paren_by P token w.LeftParen st e f g = f e
paren_by P token _ st e f g = g

brace_by : (P : State → Type 0) (token : Token) (one : Word) (st : State) → Is one token.kind → (token.kind ≡ word "{" → P st) → P fail → P (at_brace st one)
brace_by P token w.LeftBrace st e f g = f e
brace_by P token _ st e f g = g

colon_by : (P : State → Type 0) (token : Token) (one : Word) (st : State) → Is one token.kind → (token.kind ≡ word ":" → P st) → P fail → P (at_colon st one)
colon_by P token w.Colon st e f g = f e
colon_by P token _ st e f g = g

close_by : (P : State → Type 0) (token : Token) (one : Word) (st : State) → Is one token.kind → (token.kind ≡ word ")" → P st) → P fail → P (at_close st one)
close_by P token w.RightParen st e f g = f e
close_by P token _ st e f g = g

-- where no semicolon stands and none may be missing, the token is on the line
on_line : (semi ending line : Bool) → (semi || (ending || (line && not semi))) ≡ false → line ≡ false
on_line true ending line e = absurd (true≢false e)
on_line false true line e = absurd (true≢false e)
on_line false false true e = absurd (true≢false e)
on_line false false false e = refl

module _ (whole : Tokens) where
  case_due_holds : (frames : Frames) (token : Token) (now : Tokens) (one : Word) → Opened whole frames (token ∷ now) → Is one token.kind → Holds whole (case_due frames one) now
  case_due_holds frames token now w.RightBrace h e = switch_end_holds whole frames (token ∷ now) now (in_switch whole frames (token ∷ now) h) (e, refl)
  case_due_holds frames token now one h e = case_start_holds whole frames token now one (in_switch whole frames (token ∷ now) h) e

  -- The three parts of a `for`.

  for_head_holds : (frames : Frames) (token : Token) (from now : Tokens) (one : Word) → Opened whole frames from → Takes frames false → StatementTaken sd.ForHead from (token ∷ now) → Is one token.kind → Holds whole (for_head frames token one) now
  for_head_holds frames token from now w.Semicolon h takes taken e = (from, h, takes, (token ∷ now, (token ∷ now, taken, read_head_nothing (token ∷ now)), (e, refl)))
  for_head_holds frames token from now w.Let h takes taken e = (from, h, takes, (now, (token ∷ now, taken, (e, refl)), read_no_names false now))
  for_head_holds frames token from now w.Const h takes taken e = (from, h, takes, (now, (token ∷ now, taken, (e, refl)), read_no_names true now))
  for_head_holds frames token from now _ h takes taken e = operand_holds whole (f.Statement s.ForValue ∷ frames) token now (omega arith) (from, h, takes, taken)

  for_test_holds : (frames : Frames) (head : Sorted t.head) (token : Token) (from now : Tokens) (one : Word) → Opened whole frames from → Takes frames false → StatementTaken (sd.ForTest head) from (token ∷ now) → Is one token.kind →
      Holds whole (for_test frames head token one) now
  for_test_holds frames head token from now w.Semicolon h takes taken e = (from, h, takes, (token ∷ now, (token ∷ now, taken, read_left_out (token ∷ now)), (e, refl)))
  for_test_holds frames head token from now _ h takes taken e = operand_holds whole (f.Statement (s.ForTest head) ∷ frames) token now (omega arith) (from, h, takes, taken)

  for_step_holds : (frames : Frames) (head : Sorted t.head) (test : Option (Sorted t.expression)) (token : Token) (from now : Tokens) (one : Word) → Opened whole frames from → Takes frames false → StatementTaken (sd.ForStep head test) from (token ∷ now) →
      Is one token.kind → Holds whole (for_step frames head test token one) now
  for_step_holds frames head test token from now w.RightParen h takes taken e = ((from, h, takes, (token ∷ now, (token ∷ now, taken, read_left_out (token ∷ now)), (e, refl))), refl)
  for_step_holds frames head test token from now _ h takes taken e = operand_holds whole (f.Statement (s.ForStep head test) ∷ frames) token now (omega arith) (from, h, takes, taken)

  -- Declared names.

  name_due_holds : (frames : Frames) (constant : Bool) (names : Sorted (t.list t.declarator)) (use_of : DeclareRole) (token : Token) (from now : Tokens) (what : TokenKind) → Opened whole frames from → DeclareFits use_of frames →
      StatementTaken (sd.Name constant names use_of) from (token ∷ now) → token.kind ≡ what → Holds whole (name_due frames constant names use_of what token.at) now
  name_due_holds frames constant names use_of token from now (k.Name text) h fits taken e = (from, h, fits, (token ∷ now, taken, ((e, refl), refl)))
  name_due_holds frames constant names use_of token from now _ h fits taken e = tt

  name_end_holds : (frames : Frames) (names : Sorted (t.list t.declarator)) (use_of : DeclareRole) (own : Identifier) (token : Token) (from now : Tokens) (one : Word) → Opened whole frames from → DeclareFits use_of frames →
      StatementTaken (sd.NameNext false names use_of own) from (token ∷ now) → Is one token.kind → Holds whole (name_end frames (and_then names (p.declarator own None)) use_of token one) now
  name_end_holds frames names use_of own token from now w.Comma h fits (b, (a, before, taken), named) e = (from, h, fits, (a, before, read_name_comma own names a b (token ∷ now) now taken named (e, refl)))
  name_end_holds frames names use_of own token from now _ h fits (b, (a, before, taken), named) e =
      names_end_holds whole frames false (and_then names (p.declarator own None)) use_of token from a now fits h before (read_name_last own names a b (token ∷ now) taken named)

  name_next_holds : (frames : Frames) (constant : Bool) (names : Sorted (t.list t.declarator)) (use_of : DeclareRole) (own : Identifier) (token : Token) (from now : Tokens) (one : Word) → Opened whole frames from → DeclareFits use_of frames →
      StatementTaken (sd.NameNext constant names use_of own) from (token ∷ now) → Is one token.kind → Holds whole (name_next frames constant names use_of own token one) now
  name_next_holds frames constant names use_of own token from now w.Assign h fits taken e = ((from, h, fits, (token ∷ now, taken, (e, refl))), omega arith)
  name_next_holds frames false names use_of own token from now one h fits taken e = name_end_holds frames names use_of own token from now one h fits taken e
  name_next_holds frames true names use_of own token from now _ h fits taken e = tt

  -- Jumps and `try`.

  return_due_holds : (frames : Frames) (at : ℕ) (token : Token) (from now : Tokens) → Opened whole frames from → Takes frames false → StatementTaken (sd.Return at) from (token ∷ now) → Holds whole (return_due frames at token) now
  return_due_holds frames at token from now h takes taken =
      split (λ st. Holds whole st now) (is_semicolon (the_word token) || bare_may token) _ _
      (λ c. statement_end_holds whole false frames (p.return at None) (bare_may token) reading.may_miss_bare token from now (the_word token) (kind_is token.kind) takes h (λ e q. sym (may_miss_bare_is token) ∙ q)
      (λ mark to d. read_bare_return at mark from (token ∷ now) to taken d))
      (λ c. operand_holds whole (f.Statement (s.Return at) ∷ frames) token now (omega arith) (from, h, takes, (taken, on_line (is_semicolon (the_word token)) (ends (the_word token)) token.line_before c)))

  guard_due_holds : (frames : Frames) (block : Sorted (t.list t.statement)) (token : Token) (from now : Tokens) (one : Word) → Opened whole frames from → Takes frames false → StatementTaken (sd.Guard block) from (token ∷ now) →
      Is one token.kind → Holds whole (guard_due frames block one) now
  guard_due_holds frames block token from now w.Catch h takes taken e = (from, h, takes, (token ∷ now, taken, (e, refl)))
  guard_due_holds frames block token from now w.Finally h takes taken e = (from, h, takes, (refl, (token ∷ now, (token ∷ now, taken, refl), (e, refl))))
  guard_due_holds frames block token from now _ h takes taken e = tt

  catch_due_holds : (frames : Frames) (block : Sorted (t.list t.statement)) (token : Token) (from now : Tokens) (one : Word) → Opened whole frames from → Takes frames false → StatementTaken (sd.Catch block) from (token ∷ now) →
      Is one token.kind → Holds whole (catch_due frames block one) now
  catch_due_holds frames block token from now w.LeftParen h takes taken e = (from, h, takes, (token ∷ now, taken, (e, refl)))
  catch_due_holds frames block token from now w.LeftBrace h takes taken e = ((from, h, takes, (now, (token ∷ now, (token ∷ now, taken, refl), (e, refl)), read_no_statements now)), tt)
  catch_due_holds frames block token from now _ h takes taken e = tt

  catch_name_holds : (frames : Frames) (block : Sorted (t.list t.statement)) (token : Token) (from now : Tokens) (what : TokenKind) → Opened whole frames from → Takes frames false → StatementTaken (sd.CatchName block) from (token ∷ now) →
      token.kind ≡ what → Holds whole (catch_name frames block what token.at) now
  catch_name_holds frames block token from now (k.Name text) h takes taken e = (from, h, takes, (token ∷ now, taken, ((e, refl), refl)))
  catch_name_holds frames block token from now _ h takes taken e = tt

  finally_due_holds : (frames : Frames) (block : Sorted (t.list t.statement)) (own : Option Identifier) (catch : Sorted (t.list t.statement)) (token : Token) (from now : Tokens) (one : Word) → Opened whole frames from → Takes frames false →
      StatementTaken (sd.Finally block own catch) from (token ∷ now) → Is one token.kind → Holds whole (finally_due frames block own catch token one) now
  finally_due_holds frames block own catch token from now w.Finally h takes taken e = (from, h, takes, (refl, (token ∷ now, taken, (e, refl))))
  finally_due_holds frames block own catch token from now _ h takes taken e =
      close_holds whole false false frames (p.guarded block own (Some catch) None) token from now takes h (read_try_catch block own catch from (token ∷ now) taken) refl

  pub statement_step_holds : (due : StatementDue) (frames : Frames) (token : Token) (now : Tokens) → DueHolds whole frames (StatementDueFits due frames) (StatementTaken due) (token ∷ now) → Holds whole (statement_step due frames token) now
  statement_step_holds (sd.Open opening) frames token now (from, h, fits, taken) =
      paren_by (λ st. Holds whole st now) token (the_word token) _ (kind_is token.kind) (λ e. ((from, h, fits, (token ∷ now, taken, (e, refl))), omega arith)) tt
  statement_step_holds (sd.Brace stands) frames token now (from, h, fits, (opens, taken)) =
      brace_by (λ st. Holds whole st now) token (the_word token) _ (kind_is token.kind)
      (λ e. ((from, h, fits, (now, (token ∷ now, taken, (subst (λ u. token.kind ≡ word u) (sym opens) e, refl)), read_no_statements now)), tt)) tt
  statement_step_holds (sd.SwitchBrace of) frames token now (from, h, fits, taken) =
      brace_by (λ st. Holds whole st now) token (the_word token) _ (kind_is token.kind) (λ e. (now, (from, h, fits, (now, (token ∷ now, taken, (e, refl)), read_no_cases now)), tt, refl)) tt
  statement_step_holds sd.Case frames token now (from, h, fits, same) = case_due_holds frames token now (the_word token) (subst (λ u. Opened whole frames u) same h) (kind_is token.kind)
  statement_step_holds sd.CaseColon frames token now (from, h, fits, taken) =
      colon_by (λ st. Holds whole st now) token (the_word token) _ (kind_is token.kind) (λ e. ((from, h, fits, (now, (token ∷ now, taken, (e, refl)), read_no_statements now)), tt)) tt
  statement_step_holds sd.ForOpen frames token now (from, h, fits, taken) =
      paren_by (λ st. Holds whole st now) token (the_word token) _ (kind_is token.kind) (λ e. (from, h, fits, (token ∷ now, taken, (e, refl)))) tt
  statement_step_holds sd.ForHead frames token now (from, h, fits, taken) = for_head_holds frames token from now (the_word token) h fits taken (kind_is token.kind)
  statement_step_holds (sd.ForTest head) frames token now (from, h, fits, taken) = for_test_holds frames head token from now (the_word token) h fits taken (kind_is token.kind)
  statement_step_holds (sd.ForStep head test) frames token now (from, h, fits, taken) = for_step_holds frames head test token from now (the_word token) h fits taken (kind_is token.kind)
  statement_step_holds (sd.Name constant names use_of) frames token now (from, h, fits, taken) = name_due_holds frames constant names use_of token from now token.kind h fits taken refl
  statement_step_holds (sd.NameNext constant names use_of own) frames token now (from, h, fits, taken) = name_next_holds frames constant names use_of own token from now (the_word token) h fits taken (kind_is token.kind)
  statement_step_holds (sd.Else test first) frames token now (from, h, fits, (a, before, line)) =
      else_or_by (λ st. Holds whole st now) token (the_word token) _ _ refl (λ e. ((from, h, fits, (token ∷ now, (a, before, line), (e, refl))), refl))
      (λ q. close_holds whole false true frames (p.choice test first None) token from now fits h (read_short_if false test first from a (token ∷ now) before line) q)
  statement_step_holds (sd.DoWhile body) frames token now (from, h, fits, taken) =
      while_by (λ st. Holds whole st now) token (the_word token) _ (kind_is token.kind) (λ e. (from, h, fits, (token ∷ now, taken, (e, refl)))) tt
  statement_step_holds (sd.DoOpen body) frames token now (from, h, fits, taken) =
      paren_by (λ st. Holds whole st now) token (the_word token) _ (kind_is token.kind) (λ e. ((from, h, fits, (token ∷ now, taken, (e, refl))), omega arith)) tt
  statement_step_holds (sd.DoEnd body test) frames token now (from, h, fits, taken) =
      statement_end_holds whole false frames (p.do_loop body test) true reading.may_miss_after_do token from now (the_word token) (kind_is token.kind) fits h (λ e q. sym (may_miss_after_do_is token) ∙ ap not e)
      (λ mark to c. read_do body test mark from (token ∷ now) to taken c)
  statement_step_holds (sd.Jump which at) frames token now (from, h, fits, taken) =
      statement_end_holds whole false frames (jump which at) (bare_may token) reading.may_miss_bare token from now (the_word token) (kind_is token.kind) fits h (λ e q. sym (may_miss_bare_is token) ∙ q)
      (λ mark to c. read_jump which at mark from (token ∷ now) to taken c)
  statement_step_holds (sd.Return at) frames token now (from, h, fits, taken) = return_due_holds frames at token from now h fits taken
  statement_step_holds sd.Throw frames token now (from, h, fits, taken) =
      split (λ st. Holds whole st now) token.line_before _ _ (λ q. tt) (λ q. operand_holds whole (f.Statement s.Throw ∷ frames) token now (omega arith) (from, h, fits, (taken, q)))
  statement_step_holds (sd.Guard block) frames token now (from, h, fits, taken) = guard_due_holds frames block token from now (the_word token) h fits taken (kind_is token.kind)
  statement_step_holds (sd.Catch block) frames token now (from, h, fits, taken) = catch_due_holds frames block token from now (the_word token) h fits taken (kind_is token.kind)
  statement_step_holds (sd.CatchName block) frames token now (from, h, fits, taken) = catch_name_holds frames block token from now token.kind h fits taken refl
  statement_step_holds (sd.CatchClose block own) frames token now (from, h, fits, (c, (b, before, paren), named)) =
      close_by (λ st. Holds whole st now) token (the_word token) _ (kind_is token.kind) (λ e. (from, h, fits, (refl, (b, before, (c, paren, (token ∷ now, named, (e, refl))))))) tt
  statement_step_holds (sd.Finally block own catch) frames token now (from, h, fits, taken) = finally_due_holds frames block own catch token from now (the_word token) h fits taken (kind_is token.kind)
