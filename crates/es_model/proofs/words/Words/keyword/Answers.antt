-- The table's rows are the list's places.
use Rattle.std.proofs.Common.{◌≡◌, ◌<◌, Some, slice_get, sym, ◌∙◌, arith, refl}
use Rattle.std.proofs.lemmas.Option.{slice_get_within}
use Rattle.es_model.specs.Tokens.{keywords}
use Rattle.es_model.proofs.Places.{place_of_row, no_place, place_at, places_from, texts_held, found_in, keywords-texts, keywords-placed, keywords-rowed}
use Rattle.es_model.proofs.words.Words.keyword.Goals as goal

found : (c : goal.In-Some) → slice_get keywords c.in-Some.row ≡ Some c.args.units.now
found c = found_in keywords keywords-texts c.self.inside.keyword_table c.self.invariant.0 c.in-Some.row c.args.units.now ((c.in-Some.ensures.row c.in-Some.row).0 refl)

within : (c : goal.In-Some) → c.in-Some.row < 46
within c = slice_get_within keywords c.in-Some.row c.args.units.now (found c)

pub overflow_cast-result : goal.overflow_cast-result
overflow_cast-result c = let low = within c in record { fits = omega arith }

pub returns-in-Some : goal.returns-in-Some
returns-in-Some c =
    sym (place_of_row keywords keywords (places_from 0 keywords) c.args.units.now c.in-Some.row c.in-Some.row keywords-placed (found c) (place_at keywords c.in-Some.row (within c)))

pub returns-in-None : goal.returns-in-None
returns-in-None c =
    sym (no_place keywords keywords (places_from 0 keywords) c.args.units.now keywords-rowed (λ row h. let there = (c.in-None.ensures.row row).1 (texts_held keywords keywords-texts c.self.inside.keyword_table c.self.invariant.0 row ∙ h) in cc))
