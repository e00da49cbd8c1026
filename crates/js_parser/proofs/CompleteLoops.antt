-- The tokens of declared names, and of `for`, are read as them.
use Rattle.std.proofs.Common.{◌≡◌, ◌∙◌, sym, ap, refl, ℕ, ◌≤◌, Bool, true, false, [], ◌∷◌, arith, Option, Some, None, zero-le, true≢false}
use Rattle.es_model.specs.declared.kinds.Semi.{Semi}
use Rattle.es_model.specs.declared.names.Identifier.{Identifier}
use Rattle.es_model.specs.declared.token.Token.{Token}
use Rattle.es_model.specs.Tree as t
use Rattle.es_model.specs.Tree.{Tree}
use Rattle.es_model.specs.Levels.{level, all_initialised}
use Rattle.es_model.specs.Readings as readings
use Rattle.es_model.specs.Readings.{Tokens, the, name, word, semicolon, nothing, ◌▸◌}
use Rattle.es_model.specs.Spelling.{Spells, joined, declaring_word, Initialised, maybe}
use Rattle.js_parser.specs.declared.words.Word.{Word}
use Rattle.js_parser.specs.declared.words.Word.TheVariants as w
use Rattle.js_parser.specs.Frame.{Frame}
use Rattle.js_parser.specs.Frame as f
use Rattle.js_parser.specs.StatementFrame as s
use Rattle.js_parser.specs.declared.frame.DeclareRole.{DeclareRole}
use Rattle.js_parser.specs.declared.frame.DeclareRole.TheVariants as declaring
use Rattle.js_parser.specs.StatementDue as sd
use Rattle.parser_forms.specs.Kept.{Sorted, none, and_then, followed}
use Rattle.js_parser.specs.Cut.{cut}
use Rattle.js_parser.specs.State.{Frames, State, operand_due, read, statement_due, statement_part, the_word}
use Rattle.js_parser.specs.Ends.{put}
use Rattle.js_parser.specs.Begins.{operand, in_list}
use Rattle.js_parser.specs.Settle.{names_end, initialiser_end, may}
use Rattle.js_parser.specs.StatementSteps.{for_head, for_test, for_step, name_next}
use Rattle.parser_forms.specs.Parts as p
use Rattle.js_parser.specs.Machine.{run, step}
use Rattle.js_parser.proofs.Laws.{cut_none, cut_and_then}
use Rattle.js_parser.proofs.CompleteBase.{takes, takes_name, follows, follow_least, place, line, needs, Follow, Reads, Each, Maybe, appended, appended_none, reach, grips, grips_one, reaches, if_true}
use Rattle.js_parser.proofs.CompleteFirst.{Starts, begins, first_expression}
use Rattle.js_parser.proofs.CompleteClaims.{ReadsStatement, ReadsDeclarator, ReadsHead}
use Rattle.js_parser.proofs.CompleteEnds.{Ending, ends_with, missing_statement, miss_is_none, miss_needs, semicolon_follows, ended_by}
use Rattle.js_parser.proofs.WordLaws.{may_miss_is}
use Rattle.js_parser.proofs.FormLaws.{declare_is, declarator_is, for_loop_is, head_nothing_is, head_value_is, head_declare_is}
use Rattle.js_parser.specs.Summary.{part_of, option_of}

-- A state behind a declared name: a comma, and then another name; or a token that makes nothing of an expression, and then the end of the names.
record NameRead (constant : Bool) (names : Sorted (t.list t.declarator)) (stands : DeclareRole) (frames : Frames) (st : State) : Type 0 where
  comma : (at : ℕ) (broken : Bool) → step st (record { kind = word ","; at = at; line_before = broken }) ≡ statement_part (sd.Name constant names stands) frames
  other : (token : Token) → needs (the_word token) token.line_before ≤ 0 → step st token ≡ names_end frames constant names stands token

-- a name without an initialiser
bare_end : (frames : Frames) (names : Sorted (t.list t.declarator)) (stands : DeclareRole) (own : Identifier) (token : Token) (word : Word) (line : Bool) → needs word line ≤ 0 →
    name_next frames false names stands own token word ≡ names_end frames false (and_then names (p.declarator own None)) stands token
bare_end frames names stands own token w.Assign line h = absurd (omega arith)
bare_end frames names stands own token w.Comma line h = absurd (omega arith)
bare_end frames names stands own token _ line h = refl

bare_read : (own : Identifier) (sofar : Tree (t.list t.declarator)) (stands : DeclareRole) (frames : Frames) →
    NameRead false (cut (followed sofar (t.DeclaratorOf own t.absent))) stands frames (statement_part (sd.NameNext false (cut sofar) stands own) frames)
unfolding word
bare_read own sofar stands frames =
    record {
      comma = λ at broken. ap (λ names. statement_part (sd.Name false names stands) frames) same;
      other = λ token h. bare_end frames (cut sofar) stands own token (the_word token) token.line_before h ∙ ap (λ names. names_end frames false names stands token) same;
    }
  where
    same : and_then (cut sofar) (p.declarator own None) ≡ cut (followed sofar (t.DeclaratorOf own t.absent))
    same = ap (and_then (cut sofar)) (declarator_is own t.absent) ∙ cut_and_then sofar (t.DeclaratorOf own t.absent)

-- one with
other_end : (frames : Frames) (constant : Bool) (names : Sorted (t.list t.declarator)) (stands : DeclareRole) (token : Token) (word : Word) (line : Bool) → needs word line ≤ 0 →
    initialiser_end frames constant names stands token word ≡ names_end frames constant names stands token
other_end frames constant names stands token w.Comma line h = absurd (omega arith)
other_end frames constant names stands token _ line h = refl

value_read : (constant : Bool) (own : Identifier) (value : Tree t.expression) (at : ℕ) (sofar : Tree (t.list t.declarator)) (stands : DeclareRole) (frames : Frames) →
    NameRead constant (cut (followed sofar (t.DeclaratorOf own (t.present value)))) stands frames (read (part_of at value) (f.Statement (s.Initialiser constant (cut sofar) stands own) ∷ frames))
unfolding word
value_read constant own value at sofar stands frames =
    record {
      comma = λ place broken. ap (λ names. statement_part (sd.Name constant names stands) frames) same;
      other = λ token h. ended_by (f.Statement (s.Initialiser constant (cut sofar) stands own)) frames (part_of at value) token h (omega arith)
          ∙ other_end frames constant (and_then (cut sofar) (p.declarator own (Some (cut value)))) stands token (the_word token) token.line_before h
          ∙ ap (λ names. names_end frames constant names stands token) same;
    }
  where
    same : and_then (cut sofar) (p.declarator own (Some (cut value))) ≡ cut (followed sofar (t.DeclaratorOf own (t.present value)))
    same = ap (and_then (cut sofar)) (declarator_is own (t.present value)) ∙ cut_and_then sofar (t.DeclaratorOf own (t.present value))

record NamesRead (from to : Tokens) (constant : Bool) (sofar whole : Tree (t.list t.declarator)) (stands : DeclareRole) (frames : Frames) : Type 0 where
  behind : State
  reading : run (statement_part (sd.Name constant (cut sofar) stands) frames) from ≡ run behind to
  goes_on : NameRead constant (cut whole) stands frames behind

reads_declarator : (one : Tree t.declarator) → ReadsDeclarator one → (constant : Bool) → (constant ≡ true → all_initialised (t.more one t.none) ≡ true) → (sofar : Tree (t.list t.declarator)) (stands : DeclareRole) (frames : Frames) (from to : Tokens) →
    Spells one from to → Follow 1 to → NamesRead from to constant sofar (followed sofar one) stands frames
unfolding Spells word
reads_declarator (t.DeclaratorOf own t.absent) reads true h sofar stands frames from to d follow = absurd (true≢false (sym (h refl)))
reads_declarator (t.DeclaratorOf own t.absent) reads false h sofar stands frames from to d follow =
    record {
      behind = statement_part (sd.NameNext false (cut sofar) stands own) frames;
      reading = takes_name own from to d (statement_part (sd.Name false (cut sofar) stands) frames);
      goes_on = bare_read own sofar stands frames;
    }
reads_declarator (t.DeclaratorOf own (t.present value)) reads constant h sofar stands frames from to d follow =
    let frame : Frame = f.Statement (s.Initialiser constant (cut sofar) stands own) in
    record {
      behind = read (part_of (place d.2.0) value) (frame ∷ frames);
      reading = takes_name own from d.0 d.1 (statement_part (sd.Name constant (cut sofar) stands) frames)
          ∙ takes _ d.0 d.2.0 d.2.1 (statement_part (sd.NameNext constant (cut sofar) stands own) frames)
          ∙ reads d.2.0 to d.2.2.1 (frame ∷ frames) (grips value 2 d.2.2.0) (follow_least 1 (reach value) to (reaches value 1 (one_of d.2.2.0) (omega arith)) follow);
      goes_on = value_read constant own value (place d.2.0) sofar stands frames;
    }
  where
    one_of : 2 ≤ level value → 1 ≤ level value
    one_of h = omega arith

-- each is initialised where the first is and the others are
first_initialised : (one : Tree t.declarator) (rest : Tree (t.list t.declarator)) → all_initialised (t.more one rest) ≡ true → all_initialised (t.more one t.none) ≡ true
first_initialised (t.DeclaratorOf own t.absent) rest h = h
first_initialised (t.DeclaratorOf own (t.present value)) rest h = refl

rest_initialised : (one : Tree t.declarator) (rest : Tree (t.list t.declarator)) → all_initialised (t.more one rest) ≡ true → all_initialised rest ≡ true
rest_initialised (t.DeclaratorOf own t.absent) rest h = absurd (true≢false (sym h))
rest_initialised (t.DeclaratorOf own (t.present value)) rest h = h

reads_declarators : (list : Tree (t.list t.declarator)) → Each ReadsDeclarator list → (constant : Bool) → (constant ≡ true → all_initialised list ≡ true) → (sofar : Tree (t.list t.declarator)) (stands : DeclareRole) (frames : Frames) (from to : Tokens) →
    joined (Spells list) from to → Follow 1 to → NamesRead from to constant sofar (appended sofar list) stands frames
unfolding Spells word
reads_declarators t.none reads constant h sofar stands frames from to d follow = absurd d
reads_declarators (t.more one t.none) reads constant h sofar stands frames from to d follow = reads_declarator one reads.0 constant h sofar stands frames from to d follow
reads_declarators (t.more one (t.more other rest)) reads constant h sofar stands frames from to d follow =
    let first = reads_declarator one reads.0 constant (λ e. first_initialised one (t.more other rest) (h e)) sofar stands frames from d.0 d.1 (follows _ d.0 d.2.0 d.2.1 1 (λ line. omega arith)) in
    let last = reads_declarators (t.more other rest) reads.1 constant (λ e. rest_initialised one (t.more other rest) (h e)) (followed sofar one) stands frames d.2.0 to d.2.2 follow in
    record {
      behind = last.behind;
      reading = first.reading ∙ takes _ d.0 d.2.0 d.2.1 first.behind ∙ ap (λ st. run st d.2.0) (first.goes_on.comma (place d.0) (line d.0)) ∙ last.reading;
      goes_on = last.goes_on;
    }

initialised : (constant : Bool) (list : Tree (t.list t.declarator)) → Initialised constant list → constant ≡ true → all_initialised list ≡ true
initialised true list h e = h
initialised false list h e = absurd (true≢false (sym e))

-- A declaration.

names_ending : (constant : Bool) (names : Sorted (t.list t.declarator)) (frames : Frames) (st : State) → NameRead constant names declaring.Statement frames st → Ending frames (p.declare constant names) readings.may_miss st
unfolding word
names_ending constant names frames st n =
    record {
      written = λ at broken. n.other (record { kind = word ";"; at = at; line_before = broken }) zero-le;
      missing = λ token h.
          let m : may token ≡ true = may_miss_is token ∙ h in
          n.other token (miss_needs (the_word token) token.line_before m) ∙ missing_statement frames (p.declare constant names) token (may token) m (miss_is_none (the_word token) token.line_before m);
    }

pub reads_declaration : (constant : Bool) (list : Tree (t.list t.declarator)) (mark : Semi) → Each ReadsDeclarator list → (frames : Frames) (from to : Tokens) →
    Initialised constant list → (joined (Spells list) ▸ semicolon readings.may_miss mark) from to →
    run (statement_part (sd.Name constant none declaring.Statement) frames) from ≡ run (put frames (cut (t.Declare constant list mark))) to
reads_declaration constant list mark reads frames from to h d =
    let names = reads_declarators list reads constant (initialised constant list h) t.none declaring.Statement frames from d.0 d.1 (follow_least 0 1 d.0 zero-le (semicolon_follows mark d.0 to d.2)) in
    ap (λ none. run (statement_part (sd.Name constant none declaring.Statement) frames) from) cut_none
    ∙ names.reading
    ∙ ends_with frames (p.declare constant (cut (appended t.none list))) readings.may_miss names.behind (names_ending constant (cut (appended t.none list)) frames names.behind names.goes_on) mark d.0 to d.2
    ∙ ap (λ one. run (put frames one) to) (ap (λ list. p.declare constant (cut list) mark) (appended_none list) ∙ declare_is constant list mark)

takes_declaring : (constant : Bool) (from to : Tokens) → declaring_word constant from to → (frames : Frames) → in_list frames ≡ true →
    run (statement_due frames) from ≡ run (statement_part (sd.Name constant none declaring.Statement) frames) to
unfolding word
takes_declaring true from to d frames h = takes _ from to d (statement_due frames) ∙ ap (λ st. run st to) (if_true _ _ h)
takes_declaring false from to d frames h = takes _ from to d (statement_due frames) ∙ ap (λ st. run st to) (if_true _ _ h)

pub reads_declare : (constant : Bool) (list : Tree (t.list t.declarator)) (mark : Semi) → Each ReadsDeclarator list → ReadsStatement (t.Declare constant list mark)
unfolding Spells
reads_declare constant list mark reads from to d frames allowed behind =
    takes_declaring constant from d.1.0 d.1.1 frames (allowed refl)
    ∙ reads_declaration constant list mark reads frames d.1.0 to d.0 d.1.2

-- The three parts of a `for`.

head_word : (frames : Frames) (token : Token) (word : Word) → begins word ≡ true → for_head frames token word ≡ operand (f.Statement s.ForValue ∷ frames) token
head_word frames token w.Semicolon h = absurd (true≢false (sym h))
head_word frames token w.Let h = absurd (true≢false (sym h))
head_word frames token w.Const h = absurd (true≢false (sym h))
head_word frames token _ h = refl

test_word : (frames : Frames) (head : Sorted t.head) (token : Token) (word : Word) → begins word ≡ true → for_test frames head token word ≡ operand (f.Statement (s.ForTest head) ∷ frames) token
test_word frames head token w.Semicolon h = absurd (true≢false (sym h))
test_word frames head token _ h = refl

step_word : (frames : Frames) (head : Sorted t.head) (test : Option (Sorted t.expression)) (token : Token) (word : Word) → begins word ≡ true →
    for_step frames head test token word ≡ operand (f.Statement (s.ForStep head test) ∷ frames) token
step_word frames head test token w.RightParen h = absurd (true≢false (sym h))
step_word frames head test token _ h = refl

-- an expression begins where it may, in open forms
begins_in : (st : State) (frames : Frames) → ((token : Token) → begins (the_word token) ≡ true → step st token ≡ operand frames token) → (from : Tokens) → Starts begins from →
    run st from ≡ run (operand_due frames) from
begins_in st frames h [] d = absurd d
begins_in st frames h (token ∷ rest) d = ap (λ one. run one rest) (h token d)

declaring_head : (constant : Bool) (from to : Tokens) → declaring_word constant from to → (frames : Frames) →
    run (statement_part sd.ForHead frames) from ≡ run (statement_part (sd.Name constant none declaring.For) frames) to
unfolding word
declaring_head true from to d frames = takes _ from to d (statement_part sd.ForHead frames)
declaring_head false from to d frames = takes _ from to d (statement_part sd.ForHead frames)

reads_head : (head : Tree t.head) → ReadsHead head → (frames : Frames) (from mid to : Tokens) → Spells head from mid → the ";" mid to →
    run (statement_part sd.ForHead frames) from ≡ run (statement_part (sd.ForTest (cut head)) frames) to
unfolding Spells word
reads_head t.HeadNothing reads frames from mid to d c =
    ap (run (statement_part sd.ForHead frames)) d
    ∙ takes _ mid to c (statement_part sd.ForHead frames)
    ∙ ap (λ head. run (statement_part (sd.ForTest head) frames) to) head_nothing_is
reads_head (t.HeadValue value) reads frames from mid to d c =
    begins_in (statement_part sd.ForHead frames) (f.Statement s.ForValue ∷ frames) (λ token h. head_word frames token (the_word token) h) from (first_expression value from mid d)
    ∙ reads from mid d (f.Statement s.ForValue ∷ frames) (grips_one value) (follows _ mid to c (reach value) (λ line. zero-le))
    ∙ takes _ mid to c (read (part_of (place from) value) (f.Statement s.ForValue ∷ frames))
    ∙ ap (λ head. run (statement_part (sd.ForTest head) frames) to) (head_value_is value)
reads_head (t.HeadDeclare constant list) reads frames from mid to d c =
    let names = reads_declarators list reads constant (initialised constant list d.0) t.none declaring.For frames d.1.0 mid d.1.2 (follows _ mid to c 1 (λ line. zero-le)) in
    declaring_head constant from d.1.0 d.1.1 frames
    ∙ ap (λ none. run (statement_part (sd.Name constant none declaring.For) frames) d.1.0) cut_none
    ∙ names.reading
    ∙ takes _ mid to c names.behind
    ∙ ap (λ st. run st to) (names.goes_on.other (record { kind = word ";"; at = place mid; line_before = line mid }) zero-le)
    ∙ ap (λ head. run (statement_part (sd.ForTest head) frames) to) (ap (λ list. p.head_declare constant (cut list)) (appended_none list) ∙ head_declare_is constant list)

reads_test : (test : Tree (t.option t.expression)) → Maybe Reads test → (head : Sorted t.head) (frames : Frames) (from mid to : Tokens) → maybe (Spells test) from mid → the ";" mid to →
    run (statement_part (sd.ForTest head) frames) from ≡ run (statement_part (sd.ForStep head (option_of test)) frames) to
unfolding Spells word
reads_test t.absent reads head frames from mid to d c = ap (run (statement_part (sd.ForTest head) frames)) d ∙ takes _ mid to c (statement_part (sd.ForTest head) frames)
reads_test (t.present value) reads head frames from mid to d c =
    begins_in (statement_part (sd.ForTest head) frames) (f.Statement (s.ForTest head) ∷ frames) (λ token h. test_word frames head token (the_word token) h) from (first_expression value from mid d)
    ∙ reads from mid d (f.Statement (s.ForTest head) ∷ frames) (grips_one value) (follows _ mid to c (reach value) (λ line. zero-le))
    ∙ takes _ mid to c (read (part_of (place from) value) (f.Statement (s.ForTest head) ∷ frames))

reads_step : (each : Tree (t.option t.expression)) → Maybe Reads each → (head : Sorted t.head) (test : Option (Sorted t.expression)) (frames : Frames) (from mid to : Tokens) → maybe (Spells each) from mid → the ")" mid to →
    run (statement_part (sd.ForStep head test) frames) from ≡ run (statement_due (f.Statement (s.For head test (option_of each)) ∷ frames)) to
unfolding Spells word
reads_step t.absent reads head test frames from mid to d c = ap (run (statement_part (sd.ForStep head test) frames)) d ∙ takes _ mid to c (statement_part (sd.ForStep head test) frames)
reads_step (t.present value) reads head test frames from mid to d c =
    begins_in (statement_part (sd.ForStep head test) frames) (f.Statement (s.ForStep head test) ∷ frames) (λ token h. step_word frames head test token (the_word token) h) from (first_expression value from mid d)
    ∙ reads from mid d (f.Statement (s.ForStep head test) ∷ frames) (grips_one value) (follows _ mid to c (reach value) (λ line. zero-le))
    ∙ takes _ mid to c (read (part_of (place from) value) (f.Statement (s.ForStep head test) ∷ frames))

pub reads_for : (head : Tree t.head) (test each : Tree (t.option t.expression)) (body : Tree t.statement) → ReadsHead head → Maybe Reads test → Maybe Reads each → ReadsStatement body → ReadsStatement (t.For head test each body)
unfolding Spells word
reads_for head test each body reads_h reads_t reads_e reads_body from to d frames allowed behind =
    let c = d.2.2 in
    let e = c.2.2.2.2 in
    takes _ from d.0 d.1 (statement_due frames)
    ∙ takes _ d.0 d.2.0 d.2.1 (statement_part sd.ForOpen frames)
    ∙ reads_head head reads_h frames d.2.0 c.0 c.2.0 c.1 c.2.1
    ∙ reads_test test reads_t (cut head) frames c.2.0 c.2.2.0 c.2.2.2.0 c.2.2.1 c.2.2.2.1
    ∙ reads_step each reads_e (cut head) (option_of test) frames c.2.2.2.0 e.0 e.2.0 e.1 e.2.1
    ∙ reads_body e.2.0 to e.2.2.1 (f.Statement (s.For (cut head) (option_of test) (option_of each)) ∷ frames) (λ h. absurd (true≢false (sym h ∙ e.2.2.0))) behind
    ∙ ap (λ one. run (put frames one) to) (for_loop_is head test each body)
