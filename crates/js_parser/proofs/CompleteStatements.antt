-- The tokens of statements are read as them: values, declared functions and classes, blocks, conditions, loops with one condition, and jumps.
use Rattle.std.proofs.Common.{◌≡◌, ◌∙◌, sym, ap, ap₂, refl, ℕ, Bool, true, false, [], ◌∷◌, arith, Some, None, zero-le, true≢false}
use Rattle.std.specs.Prelude.{not, ◌||◌}
use Rattle.es_model.specs.declared.kinds.Semi.{Semi}
use Rattle.es_model.specs.Tree as t
use Rattle.es_model.specs.Tree.{Tree}
use Rattle.es_model.specs.Levels.{ends_in_short_if}
use Rattle.es_model.specs.Readings as readings
use Rattle.es_model.specs.Readings.{Tokens, First, the, word}
use Rattle.es_model.specs.Spelling.{Spells}
use Rattle.js_parser.specs.declared.words.Word.{Word}
use Rattle.js_parser.specs.declared.words.Word.TheVariants as w
use Rattle.parser_forms.specs.declared.parts.Part.{Part}
use Rattle.js_parser.specs.Frame.{Frame}
use Rattle.js_parser.specs.Frame as f
use Rattle.js_parser.specs.StatementFrame as s
use Rattle.js_parser.specs.ListRole as l
use Rattle.js_parser.specs.declared.frame.Opening.{Opening}
use Rattle.js_parser.specs.declared.frame.Opening.TheVariants as o
use Rattle.js_parser.specs.declared.frame.Jump.{Jump}
use Rattle.js_parser.specs.declared.frame.Jump.TheVariants as j
use Rattle.js_parser.specs.StatementDue as sd
use Rattle.js_parser.specs.Words.{word_of}
use Rattle.parser_forms.specs.Kept.{Sorted}
use Rattle.js_parser.specs.Cut.{cut}
use Rattle.js_parser.specs.Tables.{is_semicolon, may_miss_bare}
use Rattle.js_parser.specs.State.{Frames, operand_due, read, statement_due, statement_part, the_word}
use Rattle.js_parser.specs.Ends.{put}
use Rattle.js_parser.specs.Begins.{close, else_or}
use Rattle.js_parser.specs.Settle.{test_end}
use Rattle.js_parser.specs.StatementSteps.{jump, bare_may}
use Rattle.parser_forms.specs.Parts as p
use Rattle.js_parser.specs.Machine.{run}
use Rattle.js_parser.proofs.CompleteBase.{takes, here_at, follows, follow_least, place, Reads, Each, reach, grips_one, if_true, if_false}
use Rattle.js_parser.proofs.CompleteFirst.{Starts, begins, first_expression}
use Rattle.js_parser.proofs.CompleteClaims.{Behind, is_else, is_guard, behind_any, behind_at, ReadsStatement, ReadsFunction, ReadsClass, reads_braces}
use Rattle.js_parser.proofs.CompleteEnds.{Ending, ends_with, put_closed, bare_is_none, missing_statement, semicolon_follows, value_ending, value_due}
use Rattle.js_parser.proofs.CompleteFunctions.{reads_declared_function}
use Rattle.js_parser.proofs.CompleteClasses.{reads_declared_class}
use Rattle.js_parser.proofs.WordLaws.{may_miss_bare_is, may_miss_after_do_is}
use Rattle.js_parser.proofs.FormLaws.{empty_is, break_is, continue_is, value_is, function_statement_is, class_statement_is, block_is, choice_is, while_is, do_is, return_is, throw_is}
use Rattle.js_parser.specs.Summary.{part_of}

pub reads_empty : ReadsStatement t.Empty
unfolding Spells word
reads_empty from to d frames allowed behind = takes _ from to d (statement_due frames) ∙ ap (λ one. run (put frames one) to) empty_is

pub reads_value : (value : Tree t.expression) (mark : Semi) → Reads value → ReadsStatement (t.Value value mark)
unfolding Spells
reads_value value mark reads from to d frames allowed behind =
    let part : Part = part_of (place from) value in
    value_due frames from (first_expression value from d.0 d.1.1) d.1.0
    ∙ reads from d.0 d.1.1 (f.Statement s.Value ∷ frames) (grips_one value) (follow_least 0 (reach value) d.0 zero-le (semicolon_follows mark d.0 to d.2))
    ∙ ends_with frames (p.value (cut value)) readings.may_miss (read part (f.Statement s.Value ∷ frames))
    (value_ending (f.Statement s.Value) frames part (p.value (cut value)) (omega arith) (λ again token. refl)) mark d.0 to d.2
    ∙ ap (λ one. run (put frames one) to) (value_is value mark)

pub reads_function_statement : (function : Tree t.function) → ReadsFunction function → ReadsStatement (t.FunctionStatement function)
unfolding Spells word
reads_function_statement function reads from to d frames allowed behind =
    let found = reads_declared_function function reads from to d in
    takes _ from found.0 found.1 (statement_due frames)
    ∙ ap (λ st. run st found.0) (if_true _ _ (allowed refl))
    ∙ found.2 frames
    ∙ ap (λ one. run (put frames one) to) (function_statement_is function)

pub reads_class_statement : (class : Tree t.class) → ReadsClass class → ReadsStatement (t.ClassStatement class)
unfolding Spells word
reads_class_statement class reads from to d frames allowed behind =
    let found = reads_declared_class class reads from to d in
    takes _ from found.0 found.1 (statement_due frames)
    ∙ ap (λ st. run st found.0) (if_true _ _ (allowed refl))
    ∙ found.2 frames
    ∙ ap (λ one. run (put frames one) to) (class_statement_is class)

pub reads_block : (list : Tree (t.list t.statement)) → Each ReadsStatement list → ReadsStatement (t.Block list)
unfolding Spells word
reads_block list reads from to d frames allowed behind =
    reads_braces list reads l.Block frames (statement_due frames) from to d (λ at broken. refl)
    ∙ ap (λ one. run (put frames one) to) (block_is list)

-- a condition in its parentheses
pub reads_condition : (opening : Opening) (test : Tree t.expression) → Reads test → (frames : Frames) (from mid more to : Tokens) → the "(" from mid → Spells test mid more → the ")" more to →
    run (statement_part (sd.Open opening) frames) from ≡ run (test_end frames opening (part_of (place mid) test)) to
unfolding word
reads_condition opening test reads frames from mid more to opened d closed =
    takes _ from mid opened (statement_part (sd.Open opening) frames)
    ∙ reads mid more d (f.Statement (s.Test opening) ∷ frames) (grips_one test) (follows _ more to closed (reach test) (λ line. zero-le))
    ∙ takes _ more to closed (read (part_of (place mid) test) (f.Statement (s.Test opening) ∷ frames))

-- behind the first statement of an If without an else
no_else : (test : Tree t.expression) (one : Tree t.statement) (frames : Frames) (to : Tokens) → Behind true to →
    run (statement_part (sd.Else (cut test) (cut one)) frames) to ≡ run (put frames (p.choice (cut test) (cut one) None)) to
no_else test one frames [] behind = absurd behind
no_else test one frames (token ∷ rest) behind =
    ap (λ st. run st rest) (by (the_word token) (behind.1 refl)) ∙ put_closed frames (p.choice (cut test) (cut one) None) token rest
  where
    by : (word : Word) → is_else word ≡ false →
        else_or (statement_due (f.Statement (s.No (cut test) (cut one)) ∷ frames)) (close frames (p.choice (cut test) (cut one) None) token) word ≡ close frames (p.choice (cut test) (cut one) None) token
    by w.Else h = absurd (true≢false h)
    by _ h = refl

pub reads_if : (test : Tree t.expression) (one : Tree t.statement) → Reads test → ReadsStatement one → ReadsStatement (t.If test one t.absent)
unfolding Spells word
reads_if test one reads_test reads_one from to d frames allowed behind =
    let c = d.2.2.2.2 in
    takes _ from d.0 d.1 (statement_due frames)
    ∙ reads_condition o.If test reads_test frames d.0 d.2.0 d.2.2.0 d.2.2.2.0 d.2.1 d.2.2.1 d.2.2.2.1
    ∙ reads_one d.2.2.2.0 to c.1 (f.Statement (s.Yes (cut test)) ∷ frames) (λ h. absurd (true≢false (sym h ∙ c.0))) (behind_any (ends_in_short_if one) to behind)
    ∙ no_else test one frames to behind
    ∙ ap (λ line. run (put frames line) to) (choice_is test one t.absent)

pub reads_if_else : (test : Tree t.expression) (one other : Tree t.statement) → Reads test → ReadsStatement one → ReadsStatement other → ReadsStatement (t.If test one (t.present other))
unfolding Spells word
reads_if_else test one other reads_test reads_one reads_other from to d frames allowed behind =
    let c = d.2.2.2.2 in
    takes _ from d.0 d.1 (statement_due frames)
    ∙ reads_condition o.If test reads_test frames d.0 d.2.0 d.2.2.0 d.2.2.2.0 d.2.1 d.2.2.1 d.2.2.2.1
    ∙ reads_one d.2.2.2.0 c.0 c.1.1.1 (f.Statement (s.Yes (cut test)) ∷ frames) (λ h. absurd (true≢false (sym h ∙ c.1.1.0))) (before_else c.0 c.2.0 c.2.1 c.1.0)
    ∙ takes _ c.0 c.2.0 c.2.1 (statement_part (sd.Else (cut test) (cut one)) frames)
    ∙ reads_other c.2.0 to c.2.2.1 (f.Statement (s.No (cut test) (cut one)) ∷ frames) (λ h. absurd (true≢false (sym h ∙ c.2.2.0))) behind
    ∙ ap (λ line. run (put frames line) to) (choice_is test one (t.present other))
  where
    before_else : (from to : Tokens) → the "else" from to → ends_in_short_if one ≡ false → Behind (ends_in_short_if one) from
    before_else [] to d c = d
    before_else (token ∷ rest) to d c = (ap (λ kind. is_guard (word_of kind)) d.0, λ e. absurd (true≢false (sym e ∙ c)))

pub reads_while : (test : Tree t.expression) (body : Tree t.statement) → Reads test → ReadsStatement body → ReadsStatement (t.While test body)
unfolding Spells word
reads_while test body reads_test reads_body from to d frames allowed behind =
    let c = d.2.2.2.2 in
    takes _ from d.0 d.1 (statement_due frames)
    ∙ reads_condition o.While test reads_test frames d.0 d.2.0 d.2.2.0 d.2.2.2.0 d.2.1 d.2.2.1 d.2.2.2.1
    ∙ reads_body d.2.2.2.0 to c.1 (f.Statement (s.While (cut test)) ∷ frames) (λ h. absurd (true≢false (sym h ∙ c.0))) behind
    ∙ ap (λ line. run (put frames line) to) (while_is test body)

pub none_there : (x : Bool) → not x ≡ true → x ≡ false
none_there true h = absurd (true≢false (sym h))
none_there false h = refl

pub reads_do : (body : Tree t.statement) (test : Tree t.expression) (mark : Semi) → ReadsStatement body → Reads test → ReadsStatement (t.DoWhile body test mark)
unfolding Spells word
reads_do body test mark reads_body reads_test from to d frames allowed behind =
    let c = d.2.2.2 in
    takes _ from d.0 d.1 (statement_due frames)
    ∙ reads_body d.0 d.2.0 d.2.1.1 (f.Statement s.Do ∷ frames) (λ h. absurd (true≢false (sym h ∙ d.2.1.0))) (behind_any (ends_in_short_if body) d.2.0 (behind_at _ refl d.2.0 d.2.2.0 d.2.2.1))
    ∙ takes _ d.2.0 d.2.2.0 d.2.2.1 (statement_part (sd.DoWhile (cut body)) frames)
    ∙ takes _ d.2.2.0 c.0 c.1 (statement_part (sd.DoOpen (cut body)) frames)
    ∙ reads_test c.0 c.2.0 c.2.1 (f.Statement (s.DoTest (cut body)) ∷ frames) (grips_one test) (follows _ c.2.0 c.2.2.0 c.2.2.1 (reach test) (λ line. zero-le))
    ∙ takes _ c.2.0 c.2.2.0 c.2.2.1 (read (part_of (place c.0) test) (f.Statement (s.DoTest (cut body)) ∷ frames))
    ∙ ends_with frames (p.do_loop (cut body) (cut test)) readings.may_miss_after_do (statement_part (sd.DoEnd (cut body) (cut test)) frames) ending mark c.2.2.0 to c.2.2.2
    ∙ ap (λ line. run (put frames line) to) (do_is body test mark)
  where
    ending : Ending frames (p.do_loop (cut body) (cut test)) readings.may_miss_after_do (statement_part (sd.DoEnd (cut body) (cut test)) frames)
    ending = record {
      written = λ at broken. refl;
      missing = λ token h. missing_statement frames (p.do_loop (cut body) (cut test)) token true refl (none_there (is_semicolon (the_word token)) (may_miss_after_do_is token ∙ h));
    }

-- Jumps.

jump_ending : (which : Jump) (at : ℕ) (frames : Frames) → Ending frames (jump which at) readings.may_miss_bare (statement_part (sd.Jump which at) frames)
unfolding word
jump_ending which at frames =
    record {
      written = λ place broken. refl;
      missing = λ token h.
          let m : bare_may token ≡ true = may_miss_bare_is token ∙ h in
          missing_statement frames (jump which at) token (bare_may token) m (bare_is_none (the_word token) token.line_before m);
    }

pub reads_break : (at : ℕ) (mark : Semi) → ReadsStatement (t.Break at mark)
unfolding Spells word
reads_break at mark from to d frames allowed behind =
    takes _ from d.1.0 d.1.1 (statement_due frames)
    ∙ ends_with frames (jump j.Break (place from)) readings.may_miss_bare (statement_part (sd.Jump j.Break (place from)) frames) (jump_ending j.Break (place from) frames) mark d.1.0 to d.1.2
    ∙ ap (λ line. run (put frames line) to) (ap (λ a. p.bare (t.Break a mark)) (here_at at from d.0) ∙ break_is at mark)

pub reads_continue : (at : ℕ) (mark : Semi) → ReadsStatement (t.Continue at mark)
unfolding Spells word
reads_continue at mark from to d frames allowed behind =
    takes _ from d.1.0 d.1.1 (statement_due frames)
    ∙ ends_with frames (jump j.Continue (place from)) readings.may_miss_bare (statement_part (sd.Jump j.Continue (place from)) frames) (jump_ending j.Continue (place from) frames) mark d.1.0 to d.1.2
    ∙ ap (λ line. run (put frames line) to) (ap (λ a. p.bare (t.Continue a mark)) (here_at at from d.0) ∙ continue_is at mark)

-- `return` alone
return_ending : (at : ℕ) (frames : Frames) → Ending frames (p.return at None) readings.may_miss_bare (statement_part (sd.Return at) frames)
unfolding word
return_ending at frames =
    record {
      written = λ place broken. refl;
      missing = λ token h.
          let m : bare_may token ≡ true = may_miss_bare_is token ∙ h in
          let n : is_semicolon (the_word token) ≡ false = bare_is_none (the_word token) token.line_before m in
          if_true _ _ (ap₂ (λ a b. a || b) n m) ∙ missing_statement frames (p.return at None) token (bare_may token) m n;
    }

pub reads_bare_return : (at : ℕ) (mark : Semi) → ReadsStatement (t.Return at t.absent mark)
unfolding Spells word
reads_bare_return at mark from to d frames allowed behind =
    takes _ from d.1.0 d.1.1 (statement_due frames)
    ∙ ends_with frames (p.return (place from) None) readings.may_miss_bare (statement_part (sd.Return (place from)) frames) (return_ending (place from) frames) mark d.1.0 to d.1.2
    ∙ ap (λ line. run (put frames line) to) (ap (λ a. p.return a None mark) (here_at at from d.0) ∙ return_is at t.absent mark)

-- an expression on the line of `return` or `throw`
begins_value : (word : Word) → begins word ≡ true → (is_semicolon word || may_miss_bare word false) ≡ false
begins_value w.Semicolon h = absurd (true≢false (sym h))
begins_value w.RightBrace h = absurd (true≢false (sym h))
begins_value w.End h = absurd (true≢false (sym h))
begins_value _ h = refl

return_value : (at : ℕ) (frames : Frames) (from : Tokens) → Starts begins from → First (λ token. token.line_before ≡ false) from →
    run (statement_part (sd.Return at) frames) from ≡ run (operand_due (f.Statement (s.Return at) ∷ frames)) from
return_value at frames [] h d = absurd h
return_value at frames (token ∷ rest) h d =
    ap (λ st. run st rest) (if_false _ _ (ap (λ broken. is_semicolon (the_word token) || may_miss_bare (the_word token) broken) d ∙ begins_value (the_word token) h))

pub reads_return : (at : ℕ) (value : Tree t.expression) (mark : Semi) → Reads value → ReadsStatement (t.Return at (t.present value) mark)
unfolding Spells word
reads_return at value mark reads from to d frames allowed behind =
    let c = d.1.2 in
    let part : Part = part_of (place d.1.0) value in
    let frame : Frame = f.Statement (s.Return (place from)) in
    let one : Semi → Sorted t.statement = p.return (place from) (Some (cut value)) in
    takes _ from d.1.0 d.1.1 (statement_due frames)
    ∙ return_value (place from) frames d.1.0 (first_expression value d.1.0 c.0 c.1.1) c.1.0
    ∙ reads d.1.0 c.0 c.1.1 (frame ∷ frames) (grips_one value) (follow_least 0 (reach value) c.0 zero-le (semicolon_follows mark c.0 to c.2))
    ∙ ends_with frames one readings.may_miss (read part (frame ∷ frames)) (value_ending frame frames part one (omega arith) (λ again token. refl)) mark c.0 to c.2
    ∙ ap (λ line. run (put frames line) to) (ap (λ a. p.return a (Some (cut value)) mark) (here_at at from d.0) ∙ return_is at (t.present value) mark)

throw_value : (frames : Frames) (from : Tokens) → First (λ token. token.line_before ≡ false) from →
    run (statement_part sd.Throw frames) from ≡ run (operand_due (f.Statement s.Throw ∷ frames)) from
throw_value frames [] d = absurd d
throw_value frames (token ∷ rest) d = ap (λ st. run st rest) (if_false _ _ d)

pub reads_throw : (value : Tree t.expression) (mark : Semi) → Reads value → ReadsStatement (t.Throw value mark)
unfolding Spells word
reads_throw value mark reads from to d frames allowed behind =
    let c = d.2 in
    let part : Part = part_of (place d.0) value in
    let frame : Frame = f.Statement s.Throw in
    takes _ from d.0 d.1 (statement_due frames)
    ∙ throw_value frames d.0 c.1.0
    ∙ reads d.0 c.0 c.1.1 (frame ∷ frames) (grips_one value) (follow_least 0 (reach value) c.0 zero-le (semicolon_follows mark c.0 to c.2))
    ∙ ends_with frames (p.throw (cut value)) readings.may_miss (read part (frame ∷ frames)) (value_ending frame frames part (p.throw (cut value)) (omega arith) (λ again token. refl)) mark c.0 to c.2
    ∙ ap (λ line. run (put frames line) to) (throw_is value mark)
