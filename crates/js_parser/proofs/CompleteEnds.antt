-- Statements end with a semicolon, or without one, and a complete statement is put down, or its next token is read at once.
use Rattle.std.proofs.Common.{◌≡◌, ◌∙◌, sym, ap, subst, refl, ℕ, ◌≤◌, Bool, true, false, [], ◌∷◌, arith, Some, zero-le, true≢false}
use Rattle.std.specs.Prelude.{nat_le, not, ◌||◌}
use Rattle.std.proofs.lemmas.Bool.{leb-true, lt-leb}
use Rattle.es_model.specs.declared.kinds.Semi.{Semi}
use Rattle.es_model.specs.declared.kinds.Semi.TheVariants as semi
use Rattle.es_model.specs.declared.token.Token.{Token}
use Rattle.es_model.specs.Tree as t
use Rattle.es_model.specs.Readings as readings
use Rattle.es_model.specs.Readings.{Tokens, First, the, any_of, word, semicolon}
use Rattle.js_parser.specs.declared.words.Word.{Word}
use Rattle.js_parser.specs.declared.words.Word.TheVariants as w
use Rattle.parser_forms.specs.declared.parts.Part.{Part}
use Rattle.js_parser.specs.Frame.{Frame}
use Rattle.js_parser.specs.Frame as f
use Rattle.js_parser.specs.StatementFrame as s
use Rattle.js_parser.specs.ItemFrame as n
use Rattle.parser_forms.specs.Kept.{Sorted}
use Rattle.js_parser.specs.Tables.{slot_of, gives, is_semicolon, may_miss, may_miss_bare}
use Rattle.js_parser.specs.State.{Frames, State, operand_due, read, statement_due, the_word}
use Rattle.js_parser.specs.Ends.{put, put_item}
use Rattle.js_parser.specs.Begins.{statement_word, operand, close, close_item}
use Rattle.js_parser.specs.Settle.{settle, closed, statement_end, item_end, may}
use Rattle.parser_forms.specs.Parts as p
use Rattle.js_parser.specs.Machine.{run, step}
use Rattle.js_parser.proofs.CompleteBase.{takes, follows, place, line, needs, Follow, if_false, gives_needs}
use Rattle.js_parser.proofs.CompleteFirst.{Starts, begins}
use Rattle.js_parser.proofs.WordLaws.{may_miss_is, begins_no_value, no_value_is}

-- To put a statement down and then to read a token is to close it with the token.

put_close_item : (frames : Frames) (one : Sorted t.item) (token : Token) → step (put_item frames one) token ≡ close_item frames one token
put_close_item [] one token = refl
put_close_item (f.Item (n.Module items) ∷ frames) one token = refl
put_close_item (_ ∷ frames) one token = refl

put_close : (frames : Frames) (one : Sorted t.statement) (token : Token) → step (put frames one) token ≡ close frames one token
put_close [] one token = refl
put_close (f.Statement (s.List role list) ∷ frames) one token = refl
put_close (f.Statement (s.Yes test) ∷ frames) one token = refl
put_close (f.Statement (s.No test first) ∷ frames) one token = put_close frames (p.choice test first (Some one)) token
put_close (f.Statement (s.While test) ∷ frames) one token = put_close frames (p.while_loop test one) token
put_close (f.Statement (s.For head test each) ∷ frames) one token = put_close frames (p.for_loop head test each one) token
put_close (f.Statement s.Do ∷ frames) one token = refl
put_close (f.Item (n.Module items) ∷ frames) one token = refl
put_close (f.Item n.Export ∷ frames) one token = put_close_item frames (p.exported_item one) token
put_close (_ ∷ frames) one token = refl

pub put_closed : (frames : Frames) (one : Sorted t.statement) (token : Token) (rest : Tokens) → run (close frames one token) rest ≡ run (put frames one) (token ∷ rest)
put_closed frames one token rest = ap (λ st. run st rest) (sym (put_close frames one token))

pub put_closed_item : (frames : Frames) (one : Sorted t.item) (token : Token) (rest : Tokens) → run (close_item frames one token) rest ≡ run (put_item frames one) (token ∷ rest)
put_closed_item frames one token rest = ap (λ st. run st rest) (sym (put_close_item frames one token))

-- A state in which a statement ends with a semicolon, which may be missing where a test of the next token allows it.
pub record Ending (frames : Frames) (one : Semi → Sorted t.statement) (allows : Token → Bool) (st : State) : Type 0 where
  pub written : (at : ℕ) (broken : Bool) → step st (record { kind = word ";"; at = at; line_before = broken }) ≡ put frames (one semi.Written)
  pub missing : (token : Token) → allows token ≡ true → step st token ≡ close frames (one semi.Missing) token

pub ends_with : (frames : Frames) (one : Semi → Sorted t.statement) (allows : Token → Bool) (st : State) → Ending frames one allows st → (mark : Semi) (from to : Tokens) → semicolon allows mark from to →
    run st from ≡ run (put frames (one mark)) to
ends_with frames one allows st ending semi.Written from to d = takes _ from to d st ∙ ap (λ one. run one to) (ending.written (place from) (line from))
ends_with frames one allows st ending semi.Missing from to d = ap (run st) d.0 ∙ by to d.1
  where
    by : (to : Tokens) → First (λ token. allows token ≡ true) to → run st to ≡ run (put frames (one semi.Missing)) to
    by [] d = absurd d
    by (token ∷ rest) d = ap (λ one. run one rest) (ending.missing token d) ∙ put_closed frames (one semi.Missing) token rest

-- the same of an item
pub record ItemEnding (frames : Frames) (one : Semi → Sorted t.item) (allows : Token → Bool) (st : State) : Type 0 where
  pub written : (at : ℕ) (broken : Bool) → step st (record { kind = word ";"; at = at; line_before = broken }) ≡ put_item frames (one semi.Written)
  pub missing : (token : Token) → allows token ≡ true → step st token ≡ close_item frames (one semi.Missing) token

pub item_ends_with : (frames : Frames) (one : Semi → Sorted t.item) (allows : Token → Bool) (st : State) → ItemEnding frames one allows st → (mark : Semi) (from to : Tokens) → semicolon allows mark from to →
    run st from ≡ run (put_item frames (one mark)) to
item_ends_with frames one allows st ending semi.Written from to d = takes _ from to d st ∙ ap (λ one. run one to) (ending.written (place from) (line from))
item_ends_with frames one allows st ending semi.Missing from to d = ap (run st) d.0 ∙ by to d.1
  where
    by : (to : Tokens) → First (λ token. allows token ≡ true) to → run st to ≡ run (put_item frames (one semi.Missing)) to
    by [] d = absurd d
    by (token ∷ rest) d = ap (λ one. run one rest) (ending.missing token d) ∙ put_closed_item frames (one semi.Missing) token rest

-- Where a semicolon may be missing there is none, and the token doesn't go on with an expression.

missing_end : (frames : Frames) (one : Semi → Sorted t.statement) (token : Token) (word : Word) → is_semicolon word ≡ false → statement_end frames one true token word ≡ close frames (one semi.Missing) token
missing_end frames one token w.Semicolon h = absurd (true≢false h)
missing_end frames one token _ h = refl

missing_item : (frames : Frames) (one : Semi → Sorted t.item) (token : Token) (word : Word) → is_semicolon word ≡ false → item_end frames one true token word ≡ close_item frames (one semi.Missing) token
missing_item frames one token w.Semicolon h = absurd (true≢false h)
missing_item frames one token _ h = refl

-- from a test of words to the end of a statement
pub missing_statement : (frames : Frames) (one : Semi → Sorted t.statement) (token : Token) (x : Bool) → x ≡ true → is_semicolon (the_word token) ≡ false →
    statement_end frames one x token (the_word token) ≡ close frames (one semi.Missing) token
missing_statement frames one token x e h = ap (λ y. statement_end frames one y token (the_word token)) e ∙ missing_end frames one token (the_word token) h

pub missing_item_end : (frames : Frames) (one : Semi → Sorted t.item) (token : Token) (x : Bool) → x ≡ true → is_semicolon (the_word token) ≡ false →
    item_end frames one x token (the_word token) ≡ close_item frames (one semi.Missing) token
missing_item_end frames one token x e h = ap (λ y. item_end frames one y token (the_word token)) e ∙ missing_item frames one token (the_word token) h

pub bare_is_none : (word : Word) (line : Bool) → may_miss_bare word line ≡ true → is_semicolon word ≡ false
bare_is_none w.Semicolon true h = absurd (true≢false (sym h))
bare_is_none w.Semicolon false h = absurd (true≢false (sym h))
bare_is_none _ line h = refl

pub miss_is_none : (word : Word) (line : Bool) → may_miss word line ≡ true → is_semicolon word ≡ false
miss_is_none w.Semicolon true h = absurd (true≢false (sym h))
miss_is_none w.Semicolon false h = absurd (true≢false (sym h))
miss_is_none _ line h = refl

check_needs : (word : Word) (line : Bool) → (not (may_miss word line) || nat_le (needs word line) 0) ≡ true
check_needs w.Arrow true = refl
check_needs w.Arrow false = refl
check_needs _ true = refl
check_needs _ false = refl

pub miss_needs : (word : Word) (line : Bool) → may_miss word line ≡ true → needs word line ≤ 0
miss_needs word line h = leb-true _ _ (subst (λ x. (not x || nat_le (needs word line) 0) ≡ true) h (check_needs word line))

pub semicolon_follows : (mark : Semi) (from to : Tokens) → semicolon readings.may_miss mark from to → Follow 0 from
unfolding word
semicolon_follows semi.Written from to d = follows _ from to d 0 (λ line. zero-le)
semicolon_follows semi.Missing from to d = subst (Follow 0) (sym d.0) (by to d.1)
  where
    by : (to : Tokens) → First (λ token. readings.may_miss token ≡ true) to → Follow 0 to
    by [] d = d
    by (token ∷ rest) d = miss_needs (the_word token) token.line_before (may_miss_is token ∙ d)

-- An expression ends a form where the token makes nothing of it.
pub ended_by : (frame : Frame) (frames : Frames) (part : Part) (token : Token) → needs (the_word token) token.line_before ≤ 0 → 1 ≤ slot_of frame →
    step (read part (frame ∷ frames)) token ≡ closed frame (λ next. settle frames next token) frames part token
ended_by frame frames part token h c =
    let low : gives (the_word token) token.line_before ≤ 0 = bound h in
    if_false _ _ (lt-leb (slot_of frame) (gives (the_word token) token.line_before) (omega arith))
  where
    bound : needs (the_word token) token.line_before ≤ 0 → gives (the_word token) token.line_before ≤ 0
    bound h = let low : gives (the_word token) token.line_before ≤ needs (the_word token) token.line_before = gives_needs (the_word token) token.line_before (omega arith) in omega arith

-- an expression at the end of a statement
pub value_ending : (frame : Frame) (frames : Frames) (part : Part) (one : Semi → Sorted t.statement) → 1 ≤ slot_of frame →
    ((again : Part → State) (token : Token) → closed frame again frames part token ≡ statement_end frames one (may token) token (the_word token)) →
    Ending frames one readings.may_miss (read part (frame ∷ frames))
unfolding word
value_ending frame frames part one c closing =
    record {
      written = λ at broken. ended_by frame frames part (record { kind = word ";"; at = at; line_before = broken }) zero-le c ∙ closing _ (record { kind = word ";"; at = at; line_before = broken });
      missing = λ token h.
          let m : may_miss (the_word token) token.line_before ≡ true = may_miss_is token ∙ h in
          ended_by frame frames part token (miss_needs (the_word token) token.line_before m) c ∙ closing _ token
          ∙ missing_statement frames one token (may token) m (miss_is_none (the_word token) token.line_before m);
    }

-- An expression begins a statement.

value_word : (frames : Frames) (token : Token) (word : Word) → begins word ≡ true → begins_no_value word ≡ false → statement_word frames word token ≡ operand (f.Statement s.Value ∷ frames) token
value_word frames token w.LeftBrace h c = absurd (true≢false c)
value_word frames token w.Function h c = absurd (true≢false c)
value_word frames token w.Class h c = absurd (true≢false c)
value_word frames token w.RightBrace h c = absurd (true≢false (sym h))
value_word frames token w.Semicolon h c = absurd (true≢false (sym h))
value_word frames token w.End h c = absurd (true≢false (sym h))
value_word frames token w.Let h c = absurd (true≢false (sym h))
value_word frames token w.Const h c = absurd (true≢false (sym h))
value_word frames token w.If h c = absurd (true≢false (sym h))
value_word frames token w.While h c = absurd (true≢false (sym h))
value_word frames token w.Switch h c = absurd (true≢false (sym h))
value_word frames token w.For h c = absurd (true≢false (sym h))
value_word frames token w.Do h c = absurd (true≢false (sym h))
value_word frames token w.Break h c = absurd (true≢false (sym h))
value_word frames token w.Continue h c = absurd (true≢false (sym h))
value_word frames token w.Return h c = absurd (true≢false (sym h))
value_word frames token w.Throw h c = absurd (true≢false (sym h))
value_word frames token w.Try h c = absurd (true≢false (sym h))
value_word frames token w.Case h c = absurd (true≢false (sym h))
value_word frames token w.Default h c = absurd (true≢false (sym h))
value_word frames token w.Import h c = absurd (true≢false (sym h))
value_word frames token w.Export h c = absurd (true≢false (sym h))
value_word frames token _ h c = refl

pub value_due : (frames : Frames) (from : Tokens) → Starts begins from → First (λ token. any_of ("{" ∷ "function" ∷ "class" ∷ []) token ≡ false) from →
    run (statement_due frames) from ≡ run (operand_due (f.Statement s.Value ∷ frames)) from
value_due frames [] d c = absurd d
value_due frames (token ∷ rest) d c = ap (λ st. run st rest) (value_word frames token (the_word token) d (no_value_is token ∙ c))
