-- The tokens of `try` and of `switch` are read as them.
use Rattle.std.proofs.Common.{◌≡◌, ◌∙◌, sym, ap, subst, refl, ℕ, ◌+◌, ◌≤◌, Bool, true, false, [], ◌∷◌, arith, Option, Some, None, zero-le, true≢false}
use Rattle.std.specs.Prelude.{◌||◌}
use Rattle.es_model.specs.declared.names.Identifier.{Identifier}
use Rattle.es_model.specs.Tree as t
use Rattle.es_model.specs.Tree.{Tree}
use Rattle.es_model.specs.Levels.{defaults}
use Rattle.es_model.specs.Readings.{Tokens, the, word, ◌▸◌}
use Rattle.es_model.specs.Spelling.{Spells, sequence, braces, catch_name, guard, GuardsAre}
use Rattle.js_parser.specs.declared.words.Word.{Word}
use Rattle.js_parser.specs.declared.words.Word.TheVariants as w
use Rattle.js_parser.specs.Frame as f
use Rattle.js_parser.specs.StatementFrame as s
use Rattle.js_parser.specs.ListRole as l
use Rattle.js_parser.specs.declared.frame.Opening.TheVariants as o
use Rattle.js_parser.specs.StatementDue as sd
use Rattle.parser_forms.specs.Kept.{Sorted, and_then, followed}
use Rattle.js_parser.specs.Cut.{cut}
use Rattle.js_parser.specs.State.{Frames, State, operand_due, read, statement_due, statement_part, the_word}
use Rattle.js_parser.specs.Ends.{put}
use Rattle.js_parser.specs.Begins.{close}
use Rattle.js_parser.specs.StatementSteps.{finally_due}
use Rattle.parser_forms.specs.Parts as p
use Rattle.js_parser.specs.Machine.{run, step}
use Rattle.js_parser.proofs.Laws.{cut_none, cut_and_then}
use Rattle.js_parser.proofs.CompleteBase.{takes, takes_name, follows, place, line, Reads, Each, Maybe, appended, appended_none, reach, grips_one}
use Rattle.js_parser.proofs.CompleteClaims.{Behind, is_guard, behind_at, ReadsStatement, ReadsCase, reads_braces, reads_sequence}
use Rattle.js_parser.proofs.CompleteEnds.{put_closed}
use Rattle.js_parser.proofs.CompleteStatements.{reads_condition}
use Rattle.js_parser.proofs.FormLaws.{guarded_is, case_is, switch_is}
use Rattle.js_parser.specs.Summary.{part_of, option_of}

-- Try.

reads_catch : (caught : Option Identifier) (list : Tree (t.list t.statement)) → Each ReadsStatement list → (block : Sorted (t.list t.statement)) (frames : Frames) (from to : Tokens) →
    ((the "catch" ▸ catch_name caught) ▸ braces (Spells list)) from to →
    run (statement_part (sd.Guard block) frames) from ≡ run (statement_part (sd.Finally block caught (cut list)) frames) to
unfolding word
reads_catch None list reads block frames from to d =
    takes _ from d.1.0 d.1.1 (statement_part (sd.Guard block) frames)
    ∙ ap (run (statement_part (sd.Catch block) frames)) d.1.2
    ∙ reads_braces list reads (l.Catch block None) frames (statement_part (sd.Catch block) frames) d.0 to d.2 (λ at broken. refl)
reads_catch (Some own) list reads block frames from to d =
    let c = d.1.2 in
    takes _ from d.1.0 d.1.1 (statement_part (sd.Guard block) frames)
    ∙ takes _ d.1.0 c.0 c.1 (statement_part (sd.Catch block) frames)
    ∙ takes_name own c.0 c.2.0 c.2.1 (statement_part (sd.CatchName block) frames)
    ∙ takes _ c.2.0 d.0 c.2.2 (statement_part (sd.CatchClose block own) frames)
    ∙ reads_braces list reads (l.Catch block (Some own)) frames (statement_part (sd.Brace (l.Catch block (Some own))) frames) d.0 to d.2 (λ at broken. refl)

-- behind the block of a catch, where there is no `finally`
no_finally : (block : Sorted (t.list t.statement)) (caught : Option Identifier) (catch : Sorted (t.list t.statement)) (frames : Frames) (to : Tokens) → Behind false to →
    run (statement_part (sd.Finally block caught catch) frames) to ≡ run (put frames (p.guarded block caught (Some catch) None)) to
no_finally block caught catch frames [] behind = absurd behind
no_finally block caught catch frames (token ∷ rest) behind =
    ap (λ st. run st rest) (by (the_word token) behind.0) ∙ put_closed frames (p.guarded block caught (Some catch) None) token rest
  where
    by : (word : Word) → is_guard word ≡ false → finally_due frames block caught catch token word ≡ close frames (p.guarded block caught (Some catch) None) token
    by w.Finally h = absurd (true≢false h)
    by _ h = refl

reads_guards : (block : Tree (t.list t.statement)) (caught : Option Identifier) (catch finally : Tree (t.option (t.list t.statement))) → Maybe (Each ReadsStatement) catch → Maybe (Each ReadsStatement) finally →
    (frames : Frames) (from mid to : Tokens) → GuardsAre caught catch finally → guard (the "catch" ▸ catch_name caught) (Spells catch) from mid → guard (the "finally") (Spells finally) mid to → Behind false to →
    run (statement_part (sd.Guard (cut block)) frames) from ≡ run (put frames (p.guarded (cut block) caught (option_of catch) (option_of finally))) to
unfolding Spells word
reads_guards block caught (t.present list) t.absent reads last frames from mid to h d c behind =
    reads_catch caught list reads (cut block) frames from mid d
    ∙ ap (run (statement_part (sd.Finally (cut block) caught (cut list)) frames)) c
    ∙ no_finally (cut block) caught (cut list) frames to behind
reads_guards block caught (t.present list) (t.present other) reads last frames from mid to h d c behind =
    reads_catch caught list reads (cut block) frames from mid d
    ∙ takes _ mid c.0 c.1 (statement_part (sd.Finally (cut block) caught (cut list)) frames)
    ∙ reads_braces other last (l.Finally (cut block) caught (Some (cut list))) frames (statement_part (sd.Brace (l.Finally (cut block) caught (Some (cut list)))) frames) c.0 to c.2 (λ at broken. refl)
reads_guards block None t.absent (t.present other) reads last frames from mid to h d c behind =
    ap (run (statement_part (sd.Guard (cut block)) frames)) d
    ∙ takes _ mid c.0 c.1 (statement_part (sd.Guard (cut block)) frames)
    ∙ reads_braces other last (l.Finally (cut block) None None) frames (statement_part (sd.Brace (l.Finally (cut block) None None)) frames) c.0 to c.2 (λ at broken. refl)
reads_guards block (Some own) t.absent (t.present other) reads last frames from mid to h d c behind = absurd h
reads_guards block None t.absent t.absent reads last frames from mid to h d c behind = absurd h
reads_guards block (Some own) t.absent t.absent reads last frames from mid to h d c behind = absurd h

pub reads_try : (block : Tree (t.list t.statement)) (caught : Option Identifier) (catch finally : Tree (t.option (t.list t.statement))) → Each ReadsStatement block → Maybe (Each ReadsStatement) catch → Maybe (Each ReadsStatement) finally →
    ReadsStatement (t.Try block caught catch finally)
unfolding Spells word
reads_try block caught catch finally reads reads_c reads_f from to d frames allowed behind =
    let c = d.1.2 in
    takes _ from d.1.0 d.1.1 (statement_due frames)
    ∙ reads_braces block reads l.Try frames (statement_part (sd.Brace l.Try) frames) d.1.0 c.0 c.1 (λ at broken. refl)
    ∙ reads_guards block caught catch finally reads_c reads_f frames c.0 c.2.0 to d.0 c.2.1 c.2.2 behind
    ∙ ap (λ one. run (put frames one) to) (guarded_is block caught catch finally)

-- Switch.

-- a state in which a case or the end of the switch is due: the cases that were read, and whether one of them is the default
record CaseDue (of : Sorted t.expression) (cases : Sorted (t.list t.case)) (has_default : Bool) (frames : Frames) (st : State) : Type 0 where
  on_case : (at : ℕ) (broken : Bool) → step st (record { kind = word "case"; at = at; line_before = broken }) ≡ operand_due (f.Statement s.CaseTest ∷ f.Statement (s.Switch of cases has_default) ∷ frames)
  on_default : has_default ≡ false → (at : ℕ) (broken : Bool) → step st (record { kind = word "default"; at = at; line_before = broken }) ≡ statement_part sd.CaseColon (f.Statement (s.Switch of cases false) ∷ frames)
  on_end : (at : ℕ) (broken : Bool) → step st (record { kind = word "}"; at = at; line_before = broken }) ≡ put frames (p.switch of cases)

first_due : (of : Sorted t.expression) (frames : Frames) → CaseDue of (cut t.none) false frames (statement_part sd.Case (f.Statement (s.Switch of (cut t.none) false) ∷ frames))
unfolding word
first_due of frames = record { on_case = λ at broken. refl; on_default = λ h at broken. refl; on_end = λ at broken. refl }

abbrev is_default : Tree (t.option t.expression) → Bool
is_default t.absent = true
is_default (t.present test) = false

-- behind the statements of a case
next_due : (of : Sorted t.expression) (sofar : Tree (t.list t.case)) (has_default : Bool) (test : Tree (t.option t.expression)) (body : Tree (t.list t.statement)) (frames : Frames) →
    CaseDue of (cut (followed sofar (t.CaseOf test body))) (has_default || is_default test) frames
    (statement_due (f.Statement (s.List (l.Case (option_of test)) (cut body)) ∷ f.Statement (s.Switch of (cut sofar) has_default) ∷ frames))
unfolding word
next_due of sofar has_default t.absent body frames =
    record {
      on_case = λ at broken. ap (λ cases. operand_due (f.Statement s.CaseTest ∷ f.Statement (s.Switch of cases (has_default || true)) ∷ frames)) same;
      on_default = λ h at broken. absurd (true≢false (sym (or_true has_default) ∙ h));
      on_end = λ at broken. ap (λ cases. put frames (p.switch of cases)) same;
    }
  where
    same : and_then (cut sofar) (p.case None (cut body)) ≡ cut (followed sofar (t.CaseOf t.absent body))
    same = ap (and_then (cut sofar)) (case_is t.absent body) ∙ cut_and_then sofar (t.CaseOf t.absent body)

    or_true : (x : Bool) → (x || true) ≡ true
    or_true true = refl
    or_true false = refl
next_due of sofar true (t.present test) body frames =
    record {
      on_case = λ at broken. ap (λ cases. operand_due (f.Statement s.CaseTest ∷ f.Statement (s.Switch of cases true) ∷ frames)) same;
      on_default = λ h at broken. absurd (true≢false h);
      on_end = λ at broken. ap (λ cases. put frames (p.switch of cases)) same;
    }
  where
    same : and_then (cut sofar) (p.case (Some (cut test)) (cut body)) ≡ cut (followed sofar (t.CaseOf (t.present test) body))
    same = ap (and_then (cut sofar)) (case_is (t.present test) body) ∙ cut_and_then sofar (t.CaseOf (t.present test) body)
next_due of sofar false (t.present test) body frames =
    record {
      on_case = λ at broken. ap (λ cases. operand_due (f.Statement s.CaseTest ∷ f.Statement (s.Switch of cases false) ∷ frames)) same;
      on_default = λ h at broken. ap (λ cases. statement_part sd.CaseColon (f.Statement (s.Switch of cases false) ∷ frames)) same;
      on_end = λ at broken. ap (λ cases. put frames (p.switch of cases)) same;
    }
  where
    same : and_then (cut sofar) (p.case (Some (cut test)) (cut body)) ≡ cut (followed sofar (t.CaseOf (t.present test) body))
    same = ap (and_then (cut sofar)) (case_is (t.present test) body) ∙ cut_and_then sofar (t.CaseOf (t.present test) body)

cases_behind : (list : Tree (t.list t.case)) (from mid to : Tokens) → sequence (Spells list) from mid → the "}" mid to → Behind true from
unfolding Spells word
cases_behind t.none from mid to d c = subst (Behind true) (sym d) (behind_at _ refl mid to c)
cases_behind (t.more (t.CaseOf t.absent body) rest) from mid to d c = behind_at _ refl from d.1.0 d.1.1
cases_behind (t.more (t.CaseOf (t.present test) body) rest) from mid to d c = behind_at _ refl from d.1.0 d.1.1

-- one default at most
abbrev count : Bool → ℕ
count true = 1
count false = 0

reads_cases : (list : Tree (t.list t.case)) → Each ReadsCase list → (of : Sorted t.expression) (sofar : Tree (t.list t.case)) (has_default : Bool) (frames : Frames) (st : State) → CaseDue of (cut sofar) has_default frames st →
    count has_default + defaults list ≤ 1 → (from mid to : Tokens) → sequence (Spells list) from mid → the "}" mid to →
    run st from ≡ run (put frames (p.switch of (cut (appended sofar list)))) to
unfolding Spells word
reads_cases t.none reads of sofar has_default frames st due h from mid to d c =
    ap (run st) d ∙ takes _ mid to c st ∙ ap (λ one. run one to) (due.on_end (place mid) (line mid))
reads_cases (t.more (t.CaseOf t.absent body) rest) reads of sofar true frames st due h from mid to d c = absurd (omega arith)
reads_cases (t.more (t.CaseOf t.absent body) rest) reads of sofar false frames st due h from mid to d c =
    let e = d.1 in
    let role_frames : Frames = f.Statement (s.Switch of (cut sofar) false) ∷ frames in
    takes _ from e.0 e.1 st
    ∙ ap (λ one. run one e.0) (due.on_default refl (place from) (line from))
    ∙ takes _ e.0 e.2.0 e.2.1 (statement_part sd.CaseColon role_frames)
    ∙ ap (λ list. run (statement_due (f.Statement (s.List (l.Case None) list) ∷ role_frames)) e.2.0) cut_none
    ∙ reads_sequence body reads.0.1 (l.Case None) role_frames t.none e.2.0 d.0 e.2.2 (cases_behind rest d.0 mid to d.2 c)
    ∙ ap (λ list. run (statement_due (f.Statement (s.List (l.Case None) (cut list)) ∷ role_frames)) d.0) (appended_none body)
    ∙ reads_cases rest reads.1 of (followed sofar (t.CaseOf t.absent body)) true frames (statement_due (f.Statement (s.List (l.Case None) (cut body)) ∷ role_frames)) (next_due of sofar false t.absent body frames) (omega arith) d.0 mid to d.2 c
reads_cases (t.more (t.CaseOf (t.present test) body) rest) reads of sofar has_default frames st due h from mid to d c =
    let e = d.1 in
    let role_frames : Frames = f.Statement (s.Switch of (cut sofar) has_default) ∷ frames in
    takes _ from e.0 e.1 st
    ∙ ap (λ one. run one e.0) (due.on_case (place from) (line from))
    ∙ reads.0.0 e.0 e.2.0 e.2.1 (f.Statement s.CaseTest ∷ role_frames) (grips_one test) (follows _ e.2.0 e.2.2.0 e.2.2.1 (reach test) (λ line. zero-le))
    ∙ takes _ e.2.0 e.2.2.0 e.2.2.1 (read (part_of (place e.0) test) (f.Statement s.CaseTest ∷ role_frames))
    ∙ ap (λ list. run (statement_due (f.Statement (s.List (l.Case (Some (cut test))) list) ∷ role_frames)) e.2.2.0) cut_none
    ∙ reads_sequence body reads.0.1 (l.Case (Some (cut test))) role_frames t.none e.2.2.0 d.0 e.2.2.2 (cases_behind rest d.0 mid to d.2 c)
    ∙ ap (λ list. run (statement_due (f.Statement (s.List (l.Case (Some (cut test))) (cut list)) ∷ role_frames)) d.0) (appended_none body)
    ∙ reads_cases rest reads.1 of (followed sofar (t.CaseOf (t.present test) body)) (has_default || false) frames (statement_due (f.Statement (s.List (l.Case (Some (cut test))) (cut body)) ∷ role_frames)) (next_due of sofar has_default (t.present test) body frames) (still has_default h) d.0 mid to d.2 c
  where
    still : (x : Bool) → count x + defaults (t.more (t.CaseOf (t.present test) body) rest) ≤ 1 → count (x || false) + defaults rest ≤ 1
    still true h = h
    still false h = h

pub reads_switch : (value : Tree t.expression) (cases : Tree (t.list t.case)) → Reads value → Each ReadsCase cases → ReadsStatement (t.Switch value cases)
unfolding Spells word
reads_switch value cases reads reads_c from to d frames allowed behind =
    let c = d.1.2 in
    let e = c.2.2.2 in
    takes _ from d.1.0 d.1.1 (statement_due frames)
    ∙ reads_condition o.Switch value reads frames d.1.0 c.0 c.2.0 c.2.2.0 c.1 c.2.1 c.2.2.1
    ∙ takes _ c.2.2.0 e.0 e.1 (statement_part (sd.SwitchBrace (cut value)) frames)
    ∙ ap (λ list. run (statement_part sd.Case (f.Statement (s.Switch (cut value) list false) ∷ frames)) e.0) cut_none
    ∙ reads_cases cases reads_c (cut value) t.none false frames (statement_part sd.Case (f.Statement (s.Switch (cut value) (cut t.none) false) ∷ frames)) (first_due (cut value) frames) (omega (arith, d.0)) e.0 e.2.0 to e.2.1 e.2.2
    ∙ ap (λ one. run (put frames one) to) (ap (λ list. p.switch (cut value) (cut list)) (appended_none cases) ∙ switch_is value cases)
