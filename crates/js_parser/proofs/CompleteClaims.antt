-- What is claimed of each sort of tree, and the tokens of statements one after the other.
use Rattle.std.proofs.Common.{◌≡◌, ◌∙◌, sym, ap, subst, refl, ℕ, Bool, true, false, [], ◌∷◌, true≢false}
use Rattle.es_model.specs.declared.token.TokenKind.{TokenKind}
use Rattle.es_model.specs.Tree as t
use Rattle.es_model.specs.Tree.{Tree}
use Rattle.es_model.specs.Levels.{is_declaration, ends_in_short_if}
use Rattle.es_model.specs.Readings.{Tokens, One, word}
use Rattle.es_model.specs.Spelling.{Spells, sequence, braces}
use Rattle.js_parser.specs.declared.words.Word.{Word}
use Rattle.js_parser.specs.declared.words.Word.TheVariants as w
use Rattle.js_parser.specs.Frame as f
use Rattle.js_parser.specs.StatementFrame as s
use Rattle.js_parser.specs.ListRole.{ListRole}
use Rattle.parser_forms.specs.Kept.{none, followed}
use Rattle.js_parser.specs.Cut.{cut}
use Rattle.js_parser.specs.Words.{word_of}
use Rattle.js_parser.specs.State.{Frames, State, statement_due, the_word}
use Rattle.js_parser.specs.Ends.{put, list_end}
use Rattle.js_parser.specs.Begins.{in_list}
use Rattle.js_parser.specs.Machine.{run, step}
use Rattle.js_parser.proofs.Laws.{cut_none, cut_and_then}
use Rattle.js_parser.proofs.CompleteBase.{takes, place, line, Reads, Each, Maybe, appended, appended_none}
use Rattle.js_parser.proofs.CompleteFirst.{Starts, starts_at, is_behind, first_statement}

-- what the next token may be behind a statement: no `finally`, and no `else` where the statement ends in an If without one
abbrev pub is_else : Word → Bool
is_else w.Else = true
is_else _ = false

abbrev pub is_guard : Word → Bool
is_guard w.Finally = true
is_guard _ = false

abbrev pub Behind : Bool → Tokens → Type 0
Behind short [] = ⊥
Behind short (token ∷ tokens) = (is_guard (the_word token) ≡ false) × (short ≡ true → is_else (the_word token) ≡ false)

pub starts_behind : (from : Tokens) → Starts is_behind from → Behind true from
starts_behind [] d = d
starts_behind (token ∷ tokens) d = (guard (the_word token) d, λ e. else (the_word token) d)
  where
    guard : (word : Word) → is_behind word ≡ true → is_guard word ≡ false
    guard w.Finally h = absurd (true≢false (sym h))
    guard _ h = refl

    else : (word : Word) → is_behind word ≡ true → is_else word ≡ false
    else w.Else h = absurd (true≢false (sym h))
    else _ h = refl

pub behind_any : (short : Bool) (to : Tokens) → Behind true to → Behind short to
behind_any short [] d = d
behind_any short (token ∷ tokens) d = (d.0, λ e. d.1 refl)

pub behind_at : (kind : TokenKind) → is_behind (word_of kind) ≡ true → (from to : Tokens) → One (λ token. token.kind ≡ kind) from to → Behind true from
behind_at kind h from to d = starts_behind from (starts_at is_behind kind h from to d)

-- Statements, and what is claimed of the parts of forms.

abbrev pub ReadsStatement : Tree t.statement → Type 0
ReadsStatement one =
    (from to : Tokens) → Spells one from to → (frames : Frames) → (is_declaration one ≡ true → in_list frames ≡ true) → Behind (ends_in_short_if one) to →
    run (statement_due frames) from ≡ run (put frames (cut one)) to

abbrev pub ReadsBody : Tree t.body → Type 0
ReadsBody (t.BodyStatements statements) = Each ReadsStatement statements
ReadsBody (t.BodyExpression value) = Reads value

abbrev pub ReadsFunction : Tree t.function → Type 0
ReadsFunction (t.FunctionOf at own kind parameters body) = ReadsBody body

abbrev pub ReadsKey : Tree t.key → Type 0
ReadsKey (t.KeyComputed value) = Reads value
ReadsKey _ = Unit {0}

abbrev pub ReadsMember : Tree t.member → Type 0
ReadsMember (t.MemberOf at fixed kind key value function) = ReadsKey key × Maybe Reads value × Maybe ReadsFunction function

abbrev pub ReadsClass : Tree t.class → Type 0
ReadsClass (t.ClassOf at own parent members) = Maybe Reads parent × Each ReadsMember members

abbrev pub ReadsDeclarator : Tree t.declarator → Type 0
ReadsDeclarator (t.DeclaratorOf own value) = Maybe Reads value

abbrev pub ReadsHead : Tree t.head → Type 0
ReadsHead t.HeadNothing = Unit {0}
ReadsHead (t.HeadValue value) = Reads value
ReadsHead (t.HeadDeclare constant names) = Each ReadsDeclarator names

abbrev pub ReadsCase : Tree t.case → Type 0
ReadsCase (t.CaseOf test body) = Maybe Reads test × Each ReadsStatement body

abbrev pub ReadsDefault : Tree t.default → Type 0
ReadsDefault (t.DefaultFunction function) = ReadsFunction function
ReadsDefault (t.DefaultClass class) = ReadsClass class
ReadsDefault (t.DefaultValue value) = Reads value

-- Statements one after the other.

sequence_behind : (list : Tree (t.list t.statement)) (from to : Tokens) → sequence (Spells list) from to → Behind true to → Behind true from
unfolding Spells
sequence_behind t.none from to d h = subst (Behind true) (sym d) h
sequence_behind (t.more one rest) from to d h = starts_behind from (first_statement one from d.0 d.1)

pub reads_sequence : (list : Tree (t.list t.statement)) → Each ReadsStatement list → (stands : ListRole) (frames : Frames) (sofar : Tree (t.list t.statement)) (from to : Tokens) →
    sequence (Spells list) from to → Behind true to →
    run (statement_due (f.Statement (s.List stands (cut sofar)) ∷ frames)) from ≡ run (statement_due (f.Statement (s.List stands (cut (appended sofar list))) ∷ frames)) to
unfolding Spells
reads_sequence t.none reads stands frames sofar from to d h = ap (run (statement_due (f.Statement (s.List stands (cut sofar)) ∷ frames))) d
reads_sequence (t.more one rest) reads stands frames sofar from to d h =
    reads.0 from d.0 d.1 (f.Statement (s.List stands (cut sofar)) ∷ frames) (λ e. refl) (behind_any (ends_in_short_if one) d.0 (sequence_behind rest d.0 to d.2 h))
    ∙ ap (λ list. run (statement_due (f.Statement (s.List stands list) ∷ frames)) d.0) (cut_and_then sofar one)
    ∙ reads_sequence rest reads.1 stands frames (followed sofar one) d.0 to d.2 h

-- a list in braces, behind its `{`
pub reads_braces : (list : Tree (t.list t.statement)) → Each ReadsStatement list → (stands : ListRole) (frames : Frames) (st : State) (from to : Tokens) → braces (Spells list) from to →
    ((at : ℕ) (line_before : Bool) → step st (record { kind = word "{"; at = at; line_before = line_before }) ≡ statement_due (f.Statement (s.List stands none) ∷ frames)) →
    run st from ≡ run (list_end stands frames (cut list)) to
unfolding word
reads_braces list reads stands frames st from to d opens =
    takes _ from d.0 d.1 st
    ∙ ap (λ one. run one d.0) (opens (place from) (line from))
    ∙ ap (λ one. run (statement_due (f.Statement (s.List stands one) ∷ frames)) d.0) cut_none
    ∙ reads_sequence list reads stands frames t.none d.0 d.2.0 d.2.1 (behind_at _ refl d.2.0 to d.2.2)
    ∙ ap (λ one. run (statement_due (f.Statement (s.List stands (cut one)) ∷ frames)) d.2.0) (appended_none list)
    ∙ takes _ d.2.0 to d.2.2 (statement_due (f.Statement (s.List stands (cut list)) ∷ frames))
