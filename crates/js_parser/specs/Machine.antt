-- The parser as a machine that takes one token after another, and what it answers.
use Rattle.std.specs.Prelude.{ℕ, suc, [], ◌∷◌, Option, Some, None}
use Rattle.es_model.specs.declared.token.Token.{Token}
use Rattle.es_model.specs.Readings.{Tokens}
use Rattle.es_model.specs.Tree as t
use Rattle.es_model.specs.Tree.{Tree}
use Rattle.js_parser.specs.Control.{Control}
use Rattle.js_parser.specs.Control as c
use Rattle.js_parser.specs.Frame as f
use Rattle.js_parser.specs.ItemFrame as n
use Rattle.parser_forms.specs.Kept.{none}
use Rattle.js_parser.specs.State.{Frames, State, state, fail, statement_due}
use Rattle.js_parser.specs.Begins.{operand, begin}
use Rattle.js_parser.specs.Settle.{settle}
use Rattle.js_parser.specs.MemberSteps.{expression_step, member_step}
use Rattle.js_parser.specs.StatementSteps.{statement_step}
use Rattle.js_parser.specs.ItemSteps.{item_step}

-- What a token makes of a state. A state that failed, or in which the module is complete, takes none.
abbrev pub step_by : Control → Frames → Token → State
step_by c.Fail frames token = fail
step_by c.Operand frames token = operand frames token
step_by (c.Read part) frames token = settle frames part token
step_by c.Statement frames token = begin frames token
step_by (c.Expression due) frames token = expression_step due frames token
step_by (c.Member due) frames token = member_step due frames token
step_by (c.StatementPart due) frames token = statement_step due frames token
step_by (c.Item due) frames token = item_step due frames token
step_by (c.Done items) frames token = fail

abbrev pub step : State → Token → State
step (state control frames) token = step_by control frames token

abbrev pub run : State → Tokens → State
run st [] = st
run st (token ∷ tokens) = run (step st token) tokens

abbrev pub start : State
start = statement_due (f.Item (n.Module none) ∷ [])

-- What is told of a list of tokens: its tree; or that it is nested deeper than 64; or the place in the list,
-- from 0, of the first token at which the machine fails.
pub data Answer : Type 0 where
  Parsed : Tree (t.list t.item) → Answer
  TooDeep : Answer
  Syntax : ℕ → Answer

abbrev pub kept_answer : Option (Tree (t.list t.item)) → Answer
kept_answer (Some tree) = Parsed tree
kept_answer None = TooDeep

abbrev pub last_answer : ℕ → Control → Answer
last_answer place (c.Done items) = kept_answer items.tree
last_answer place _ = Syntax place

abbrev pub unless_failed : ℕ → Control → Answer → Answer
unless_failed place c.Fail other = Syntax place
unless_failed place _ other = other

abbrev pub answer_from : ℕ → State → Tokens → Answer
answer_from place (state control frames) [] = last_answer place control
answer_from place st (token ∷ tokens) =
    elim (step st token) [ state control frames ↦ unless_failed place control (answer_from (suc place) (state control frames) tokens) ]

abbrev pub answer : Tokens → Answer
answer tokens = answer_from 0 start tokens
