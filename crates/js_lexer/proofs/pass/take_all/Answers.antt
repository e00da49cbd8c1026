use Rattle.std.proofs.Common.{◌≡◌, ◌+◌, ◌≤◌, ◌∙◌, ◌||◌, ◌++◌, ◌∷◌, [], length, false, Ok, sym, ap, arith}
use Rattle.es_model.specs.Tokens.{element, braces_after, before, width}
use Rattle.js_lexer.specs.Reads.{found}
use Rattle.js_lexer.proofs.Lefts.{shorter}
use Rattle.js_lexer.proofs.Answering.{lists_err}
use Rattle.js_lexer.proofs.Passing.{place_after, joined, joined-nil, joined-more, tokens_left, found-shorter, gap_read, token_read, fault_read}
use Rattle.js_lexer.proofs.pass.take_all.Goals as goal
use Rattle.js_lexer.proofs.pass.take_all.Goals.{then-line_before, else-line_before}

pub loop-first-init : goal.loop-first-init
loop-first-init c = rw (c.requires, c.new-braces.ensures) (joined-nil (tokens_left false [] c.args.text))

pub take_element-requires : goal.take_element-requires
take_element-requires c =
    place_after c.loop-first.left c.next.new.self c.in-Some.first c.in-Some.ensures.first c.next.ensures.left
    ∙ ap (λ p. p + width c.in-Some.first) (sym c.place-at.ensures)

pub returns-in_err-line : goal.returns-in_err-line
returns-in_err-line c =
    lists_err (tokens_left false [] c.args.text) c.from_residual.result c.loop-first.tokens c.in_err-line.field-0.0 c.from_residual.ensures.1 (λ no.
    c.loop-first.invariant
    ∙ ap (joined c.loop-first.tokens) (fault_read c.in-Some.first c.loop-first.braces c.loop-first.line_before c.in_err-line.field-0.0 c.loop-first.left c.next.new.self c.in-Some.ensures.first c.next.ensures.left
    (ap (λ p. found (element c.loop-first.braces p c.in-Some.first c.next.new.self.text) c.next.new.self) (sym c.place-at.ensures) ∙ c.in_err-line.ensures no)))

pub loop-first-smaller-in-Gap : goal.loop-first-smaller-in-Gap
loop-first-smaller-in-Gap c =
    let short : length c.take_element.new.left.text ≤ length c.next.new.self.text = found-shorter (element c.loop-first.braces c.place-at.result c.in-Some.first c.next.new.self.text) c.next.new.self c.take_element.new.left c.in_ok-line.field-0 c.in_ok-line.ensures in
    omega (arith, short, shorter c.loop-first.left c.in-Some.first c.in-Some.ensures.first, ap (λ l. length l.text) c.next.ensures.left)

pub loop-first-preserved-in-Gap : goal.loop-first-preserved-in-Gap
loop-first-preserved-in-Gap c =
    let line : (c.loop-first.line_before || c.in-Gap.line) ≡ c.if-line_before.line_before =
    elim c.if-line_before.branch [
      | then-line_before w ↦ ap (λ b. b || c.in-Gap.line) w.if-line_before.true ∙ sym w.if-line_before.true ∙ sym w.line_before-is
      | else-line_before w ↦ ap (λ b. b || c.in-Gap.line) w.if-line_before.false ∙ sym w.line_before-is
    ] in
    c.loop-first.invariant
    ∙ ap (joined c.loop-first.tokens) (gap_read c.in-Some.first c.loop-first.braces c.loop-first.line_before c.in-Gap.line c.loop-first.left c.next.new.self c.take_element.new.left c.in-Some.ensures.first c.next.ensures.left
    (ap (λ p. found (element c.loop-first.braces p c.in-Some.first c.next.new.self.text) c.next.new.self) (sym c.place-at.ensures) ∙ c.in_ok-line.ensures ∙ ap (λ f. Ok (f, c.take_element.new.left)) c.in-Gap.is))
    ∙ ap (λ b. joined c.loop-first.tokens (tokens_left b c.loop-first.braces c.take_element.new.left)) line

pub loop-first-smaller : goal.loop-first-smaller
loop-first-smaller c =
    let short : length c.take_element.new.left.text ≤ length c.next.new.self.text = found-shorter (element c.loop-first.braces c.place-at.result c.in-Some.first c.next.new.self.text) c.next.new.self c.take_element.new.left c.in_ok-line.field-0 c.in_ok-line.ensures in
    omega (arith, short, shorter c.loop-first.left c.in-Some.first c.in-Some.ensures.first, ap (λ l. length l.text) c.next.ensures.left)

pub loop-first-preserved : goal.loop-first-preserved
loop-first-preserved c =
    c.loop-first.invariant
    ∙ ap (joined c.loop-first.tokens) (token_read c.in-Some.first c.loop-first.braces c.loop-first.line_before c.in-Token.kind c.loop-first.left c.next.new.self c.take_element.new.left c.in-Some.ensures.first c.next.ensures.left
    (ap (λ p. found (element c.loop-first.braces p c.in-Some.first c.next.new.self.text) c.next.new.self) (sym c.place-at.ensures) ∙ c.in_ok-line.ensures ∙ ap (λ f. Ok (f, c.take_element.new.left)) c.in-Token.is))
    ∙ ap (λ p. joined c.loop-first.tokens (before (record { kind = c.in-Token.kind; at = p; line_before = c.loop-first.line_before }) (tokens_left false (braces_after p c.in-Token.kind c.loop-first.braces) c.take_element.new.left))) (sym c.place-at.ensures)
    ∙ joined-more c.loop-first.tokens (record { kind = c.in-Token.kind; at = c.place-at.result; line_before = c.loop-first.line_before }) (tokens_left false (braces_after c.place-at.result c.in-Token.kind c.loop-first.braces) c.take_element.new.left)
    ∙ ap (λ b. joined (c.loop-first.tokens ++ record { kind = c.in-Token.kind; at = c.place-at.result; line_before = c.loop-first.line_before } ∷ []) (tokens_left false b c.take_element.new.left)) (sym c.in_ok-follow-in-Token.ensures)
    ∙ ap (λ t. joined t (tokens_left false c.follow.new.self c.take_element.new.left)) (sym c.in_ok-push-in-Token.ensures.ok)
