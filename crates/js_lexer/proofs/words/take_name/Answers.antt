use Rattle.std.proofs.Common.{◌∙◌, ◌++◌, Ok, take_while, sym, ap, append_assoc}
use Rattle.std.proofs.lemmas.List.{append-nil}
use Rattle.std.specs.List.{flat_map}
use Rattle.js_value.specs.Text.{utf16}
use Rattle.es_model.specs.Tokens.{is_name_part}
use Rattle.js_lexer.specs.declared.elements.Found.TheVariants.{Token}
use Rattle.js_lexer.specs.Left.{skip}
use Rattle.js_lexer.specs.Reads.{behind}
use Rattle.js_lexer.proofs.Lefts.{Stops, goes_on, stops, ends}
use Rattle.js_lexer.proofs.Named.{name_found}
use Rattle.js_lexer.proofs.words.take_name.Goals as goal
use Rattle.js_lexer.proofs.words.take_name.Goals.{in-Some+then-not-is_name_part, in_default}

pub loop-c-preserved : goal.loop-c-preserved
loop-c-preserved c =
    let more = goes_on is_name_part c.loop-c.left c.in-Some.c c.in-Some.ensures (sym c.if-not-is_name_part.ensures) in
    record {
      rest = c.loop-c.invariant.rest ∙ more.rest ∙ ap (behind is_name_part) (sym c.next.ensures.left);
      text =
          c.loop-c.invariant.text
          ∙ ap (λ l. c.loop-c.text ++ flat_map utf16 l) more.taken
          ∙ sym (append_assoc c.loop-c.text (utf16 c.in-Some.c) (flat_map utf16 (take_while is_name_part (skip 1 c.loop-c.left).text)))
          ∙ ap (λ t. t ++ flat_map utf16 (take_while is_name_part (skip 1 c.loop-c.left).text)) (sym c.in_ok-push_character-2.ensures)
          ∙ ap (λ l. c.push_character-in-Some.new.text ++ flat_map utf16 (take_while is_name_part l.text)) (sym c.next.ensures.left);
    }

pub returns : goal.returns
returns c =
    let stop : Stops is_name_part c.loop-c.left =
    elim c.match-first.branch [
      | in-Some+then-not-is_name_part w ↦ stops is_name_part c.loop-c.left w.in-Some.c w.in-Some.ensures (sym w.if-not-is_name_part.ensures)
      | in_default w ↦ ends is_name_part c.loop-c.left w.in_default.ensures
    ] in
    name_found c.args.first c.args.left.now c.loop-c.text (c.loop-c.invariant.text ∙ ap (λ l. c.loop-c.text ++ flat_map utf16 l) stop.taken ∙ append-nil c.loop-c.text)
    ∙ ap (λ t. Ok (Token t, behind is_name_part c.args.left.now)) (sym c.word.ensures)
    ∙ ap (λ l. Ok (Token c.word.result, l)) (c.loop-c.invariant.rest ∙ stop.rest)
