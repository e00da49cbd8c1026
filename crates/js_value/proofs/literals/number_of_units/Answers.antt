use Rattle.std.proofs.Common.{◌≡◌, Some, None, w64, sym, ◌∙◌, ap}
use Rattle.std.proofs.lemmas.Int.{to_z-of_z}
use Rattle.js_value.specs.Numeral.{IsNumberOf}
use Rattle.js_value.specs.Literal.{literal_number, trim_start, trim_end}
use Rattle.js_value.proofs.Spelled.{read_is_spelled, spelled_is_read}
use Rattle.js_value.proofs.Indices.{num_is_number, number_fits}
use Rattle.js_value.proofs.literals.number_of_units.Goals as goal

pub returns-in-Some : goal.returns-in-Some
returns-in-Some c =
    let trimmed : c.trim_end.result.now ≡ trim_end (trim_start c.args.units.now) = c.trim_end.ensures ∙ ap trim_end c.trim_start.ensures in
    let read : literal_number (trim_end (trim_start c.args.units.now)) ≡ Some c.in-Some.number = ap literal_number (sym trimmed) ∙ sym c.in-Some.ensures in
    let spelled : IsNumberOf c.args.units.now c.in-Some.number = read_is_spelled c.args.units.now c.in-Some.number read in
    let same = to_z-of_z w64 c.in-Some.number (number_fits c.in-Some.number (num_is_number spelled.value c.in-Some.number spelled.is)) in
    record {
      number = rw same spelled;
      each = λ n f. rw same (let e : Some c.in-Some.number ≡ Some n = sym read ∙ spelled_is_read c.args.units.now n f in cc);
    }

pub returns-in-None : goal.returns-in-None
returns-in-None c =
    let trimmed : c.trim_end.result.now ≡ trim_end (trim_start c.args.units.now) = c.trim_end.ensures ∙ ap trim_end c.trim_start.ensures in
    let read : literal_number (trim_end (trim_start c.args.units.now)) ≡ None = ap literal_number (sym trimmed) ∙ sym c.in-None.ensures in
    record {
      number = tt;
      each = λ n f. (let e : Some n ≡ None = sym (spelled_is_read c.args.units.now n f) ∙ read in cc);
    }
