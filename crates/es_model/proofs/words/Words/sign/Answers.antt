-- The two arrays of numbers lead from rows to places and back.
use Rattle.std.proofs.Common.{get_or, sym, ◌∙◌, refl}
use Rattle.std.proofs.lemmas.Option.{slice_get_within, slice_get-get_or}
use Rattle.es_model.specs.Tokens.{signs}
use Rattle.es_model.specs.SignTable.{ascending_signs}
use Rattle.es_model.proofs.Places.{place_of_row, no_place, texts_held, found_in, sign_places, sign_rows, signs-texts, signs-placed, signs-rowed}
use Rattle.es_model.proofs.words.Words.sign.Goals as goal

pub bounds-row : goal.bounds-row
bounds-row c =
    let found = found_in ascending_signs signs-texts c.self.inside.sign_table c.self.invariant.1 c.in-Some.row c.args.units.now ((c.in-Some.ensures.row c.in-Some.row).0 refl) in
    slice_get_within ascending_signs c.in-Some.row c.args.units.now found

pub returns-in-Some : goal.returns-in-Some
returns-in-Some c =
    let found = found_in ascending_signs signs-texts c.self.inside.sign_table c.self.invariant.1 c.in-Some.row c.args.units.now ((c.in-Some.ensures.row c.in-Some.row).0 refl) in
    let within = slice_get_within ascending_signs c.in-Some.row c.args.units.now found in
    sym (place_of_row signs ascending_signs sign_places c.args.units.now c.in-Some.row (get_or sign_places c.in-Some.row 0) signs-placed found (slice_get-get_or sign_places c.in-Some.row 0 within))

pub returns-in-None : goal.returns-in-None
returns-in-None c =
    sym (no_place signs ascending_signs sign_rows c.args.units.now signs-rowed (λ row h. let there = (c.in-None.ensures.row row).1 (texts_held ascending_signs signs-texts c.self.inside.sign_table c.self.invariant.1 row ∙ h) in cc))
