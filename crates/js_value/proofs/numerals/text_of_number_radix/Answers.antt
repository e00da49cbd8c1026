use Rattle.std.proofs.Common.{◌≡◌, ◌≤◌, ◌++◌, length, take, drop, reverse, w64, ◌∙◌, ap, sym, arith}
use Rattle.std.proofs.lemmas.Int.{to_z-of_z}
use Rattle.std.proofs.lemmas.List.{length-reverse, length-take-le}
use Rattle.js_value.specs.Numeral.{number_text}
use Rattle.js_value.proofs.numerals.text_of_number_radix.Goals as goal

pub returns : goal.returns
returns c =
    let within : c.number_reversed-length.result ≤ length c.number_reversed-length.new.into = omega (arith, c.number_reversed-length.array_long, c.number_reversed-length.ensures.bound) in
    let text : reverse (take c.number_reversed-length.result c.number_reversed-length.new.into) ≡ number_text c.args.radix c.args.n =
    c.number_reversed-length.ensures.text ∙ ap (number_text c.args.radix) (to_z-of_z w64 c.args.n c.ranges.n) in
    record {
      length = sym (ap length (sym text) ∙ length-reverse (take c.number_reversed-length.result c.number_reversed-length.new.into) ∙ length-take-le c.number_reversed-length.result c.number_reversed-length.new.into within);
      text = ap (λ s. s ++ drop c.number_reversed-length.result c.number_reversed-length.new.into) (c.reverse.ensures.after ∙ text) ∙ ap (λ s. number_text c.args.radix c.args.n ++ s) c.number_reversed-length.ensures.behind;
    }
