-- What a reading goes on with, where the code has the state that a token makes.
use Rattle.std.proofs.Common.{◌≡◌, ◌≢◌, ap, sym, ◌∙◌, ℕ, suc, ◌+◌, arith, List, ◌∷◌}
use Rattle.es_model.specs.declared.token.Token.{Token}
use Rattle.es_model.specs.Readings.{Tokens}
use Rattle.parser_forms.specs.Pieces.{Pieces}
use Rattle.js_parser.specs.Control as c
use Rattle.js_parser.specs.State.{Frames, State, state}
use Rattle.js_parser.specs.Machine.{step, answer_from, unless_failed}
use Rattle.js_parser.specs.Held.{held, control, under_control, frames}
use Rattle.js_parser.specs.Shows.{Shows}
use Rattle.js_parser.specs.declared.frame.Control as the_control
use Rattle.js_parser.specs.declared.frame.Control.TheVariants as cc
use Rattle.js_parser.specs.declared.frame.Frame as the_frame

same_state : (due : c.Control) (left : Frames) (now : the_control.Control) (forms : List the_frame.Frame) (pieces : Pieces) →
    (control now pieces ≡ due) × (frames forms (under_control now pieces) ≡ left) → state due left ≡ held now forms pieces
same_state due left now forms pieces (one, other) = sym (ap (λ u. state u (frames forms (under_control now pieces))) one ∙ ap (state due) other)

-- the code didn't fail, so it has the state
pub goes_on : (place : ℕ) (st : State) (token : Token) (tokens : Tokens) (now : the_control.Control) (forms : List the_frame.Frame) (pieces : Pieces) →
    now ≢ cc.Fail → Shows (step st token) now forms pieces → answer_from place st (token ∷ tokens) ≡ answer_from (place + 1) (held now forms pieces) tokens
goes_on place st token tokens now forms pieces ok shown = by (step st token) shown ∙ ap (λ n. answer_from n (held now forms pieces) tokens) (omega arith)
  where
    by : (next : State) → Shows next now forms pieces →
        elim next [ state due left ↦ unless_failed place due (answer_from (suc place) (state due left) tokens) ] ≡ answer_from (suc place) (held now forms pieces) tokens
    by (state c.Fail left) shows = absurd (ok shows)
    by (state c.Operand left) shows = ap (λ u. answer_from (suc place) u tokens) (same_state c.Operand left now forms pieces shows)
    by (state (c.Read part) left) shows = ap (λ u. answer_from (suc place) u tokens) (same_state (c.Read part) left now forms pieces shows)
    by (state c.Statement left) shows = ap (λ u. answer_from (suc place) u tokens) (same_state c.Statement left now forms pieces shows)
    by (state (c.Expression due) left) shows = ap (λ u. answer_from (suc place) u tokens) (same_state (c.Expression due) left now forms pieces shows)
    by (state (c.Member due) left) shows = ap (λ u. answer_from (suc place) u tokens) (same_state (c.Member due) left now forms pieces shows)
    by (state (c.StatementPart due) left) shows = ap (λ u. answer_from (suc place) u tokens) (same_state (c.StatementPart due) left now forms pieces shows)
    by (state (c.Item due) left) shows = ap (λ u. answer_from (suc place) u tokens) (same_state (c.Item due) left now forms pieces shows)
    by (state (c.Done items) left) shows = ap (λ u. answer_from (suc place) u tokens) (same_state (c.Done items) left now forms pieces shows)
