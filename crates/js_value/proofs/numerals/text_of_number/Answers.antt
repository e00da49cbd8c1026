use Rattle.std.proofs.Common.{◌≡◌, w64, refl, ◌∙◌, ap}
use Rattle.std.specs.Fmt.{signed_decimal}
use Rattle.std.proofs.lemmas.Int.{to_z-of_z}
use Rattle.js_value.specs.Numeral.{number_text}
use Rattle.js_value.proofs.Digits.{signed_decimal_text}
use Rattle.js_value.proofs.numerals.text_of_number.Goals as goal

pub returns : goal.returns
returns c =
    let text : c.as_bytes-text.result.now ≡ number_text 10 c.args.n =
    c.as_bytes-text.ensures.value ∙ c.format.ensures.text ∙ ap signed_decimal (to_z-of_z w64 c.args.n c.ranges.n) ∙ signed_decimal_text c.args.n c.requires in
    record { length = rw text refl; text = rw (← text) c.copy.ensures }
