-- What the machine builds spells the tokens that it took.
use Rattle.std.proofs.Common.{◌≡◌, subst, refl, [], ◌∷◌}
use Rattle.es_model.specs.declared.token.Token.{Token}
use Rattle.es_model.specs.Tree as t
use Rattle.es_model.specs.Tree.{Tree}
use Rattle.es_model.specs.Readings.{Tokens}
use Rattle.es_model.specs.Spelling.{spells}
use Rattle.js_parser.specs.Control.{Control}
use Rattle.js_parser.specs.Control as c
use Rattle.parser_forms.specs.Kept.{Sorted}
use Rattle.js_parser.specs.Cut.{cut}
use Rattle.js_parser.specs.State.{Frames, State, state}
use Rattle.js_parser.specs.Machine.{step_by, step, run, start}
use Rattle.js_parser.proofs.SoundStates.{ControlHolds, Holds}
use Rattle.js_parser.proofs.SoundStatementForms.{read_no_items}
use Rattle.js_parser.proofs.SoundBegins.{operand_holds, begin_holds}
use Rattle.js_parser.proofs.SoundSettle.{settle_holds}
use Rattle.js_parser.proofs.SoundMembers.{expression_step_holds, member_step_holds}
use Rattle.js_parser.proofs.SoundStatements.{statement_step_holds}
use Rattle.js_parser.proofs.SoundItems.{item_step_holds}

module _ (whole : Tokens) where
  step_by_holds : (control : Control) (frames : Frames) (token : Token) (now : Tokens) → ControlHolds whole control frames (token ∷ now) → Holds whole (step_by control frames token) now
  step_by_holds c.Fail frames token now h = tt
  step_by_holds c.Operand frames token now (opened, low) = operand_holds whole frames token now low opened
  step_by_holds (c.Read part) frames token now (from, opened, least, low, taken) = settle_holds whole frames part token from now opened least low taken
  step_by_holds c.Statement frames token now (opened, takes) = begin_holds whole frames token now takes opened
  step_by_holds (c.Expression due) frames token now h = expression_step_holds whole due frames token now h
  step_by_holds (c.Member due) frames token now h = member_step_holds whole due frames token now h
  step_by_holds (c.StatementPart due) frames token now h = statement_step_holds whole due frames token now h
  step_by_holds (c.Item due) frames token now h = item_step_holds whole due frames token now h
  step_by_holds (c.Done items) frames token now h = tt

  step_holds : (st : State) (token : Token) (now : Tokens) → Holds whole st (token ∷ now) → Holds whole (step st token) now
  step_holds (state control frames) token now h = step_by_holds control frames token now h

  run_holds : (tokens : Tokens) (st : State) → Holds whole st tokens → Holds whole (run st tokens) []
  run_holds [] st h = h
  run_holds (token ∷ tokens) st h = run_holds tokens (step st token) (step_holds st token tokens h)

pub spelled : (tokens : Tokens) (kept : Sorted (t.list t.item)) (frames : Frames) → run start tokens ≡ state (c.Done kept) frames → (items : Tree (t.list t.item)) × (cut items ≡ kept) × spells items tokens
spelled tokens kept frames e =
    let (last, ends, (items, same, taken)) = subst (λ st. Holds tokens st []) e (run_holds tokens tokens start ((tokens, refl, tt, read_no_items tokens), tt)) in
    (items, same, (last, ends, taken))
