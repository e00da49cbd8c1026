-- The closure compares a key's text with the units.
use Rattle.std.proofs.Common.{rules, ◌≡◌, map, true, ap, sym, ◌∙◌}
use Rattle.std.specs.Cmp.Lexicographic.{slice_cmp}
use Rattle.std.specs.Ordering.{nat_cmp}
use Rattle.std.proofs.lemmas.Fn.{always_returns_same}
use Rattle.js_value.specs.Case.{are_ascending}
use Rattle.js_value.specs.Text.{units}
use Rattle.js_value.proofs.Tables.{row_from_search, texts_of}
use Rattle.js_value.proofs.case.Case.find.Goals as goal

pub returns : goal.returns
returns g c =
    let text = g.K.AsStr.text in
    let keys = c.self.inside.keys in
    let facts = c.binary_search_by.ensures in
    let searched = facts.position (λ key. slice_cmp nat_cmp (units (text key)) c.args.units.now) (always_returns_same _ _ _ (λ a r h called. search rules)) in
    let ascending : are_ascending (map (λ key. units (text key)) keys) ≡ true = ap are_ascending (sym (texts_of text keys)) ∙ c.self.invariant in
    let found = row_from_search (λ key. units (text key)) keys c.args.units.now c.binary_search_by.result ascending facts.bound searched in
    record { row = λ row. rw (c.ok.ensures.value, ← c.self.view_is, texts_of text keys) (found row) }
