use Rattle.std.proofs.Common.{ℕ, Option, refl, ◌≡◌, ◌∙◌, drop, take, sym, ap, subst, arith}
use Rattle.std.specs.Char.{IsScalar}
use Rattle.std.specs.Option.{SomeIff}
use Rattle.js_value.specs.Text.{scalar_value, sequence_length}
use Rattle.js_lexer.specs.Left.{IsUtf8}
use Rattle.js_lexer.proofs.Utf8.{IsCharacterOf, sequence_characters, sequence_rest, sequence_fine}
use Rattle.js_lexer.proofs.characters.split_sequence.Goals as goal
use Rattle.js_lexer.proofs.characters.split_sequence.Goals.{After-scalar_value, After-unwrap}

value : (c : After-scalar_value) → c.scalar_value.result ≡ scalar_value (take (sequence_length c.args.bytes.now) c.args.bytes.now)
value c = c.scalar_value.ensures.value ∙ ap scalar_value (c.split_at.ensures.front ∙ ap (λ n. take n c.args.bytes.now) c.sequence_length.ensures.length)

fine : (c : After-scalar_value) → IsCharacterOf c.scalar_value.result (sequence_length c.args.bytes.now)
fine c = subst (λ v. IsCharacterOf v (sequence_length c.args.bytes.now)) (sym (value c)) (sequence_fine c.args.bytes.now c.requires.some c.requires.utf8)

is : (c : After-unwrap) → c.unwrap.result ≡ c.scalar_value.result
is c = let P : Option ℕ → Type 0 = λ o. SomeIff o (IsScalar c.scalar_value.result) c.scalar_value.result in (subst P c.unwrap.ensures c.from_u32.ensures.value).1

pub unwrap-requires : goal.unwrap-requires
unwrap-requires c = c.from_u32.ensures.succeeds (fine (goal.at.unwrap-requires c).After-scalar_value).scalar

pub returns-clause-text : goal.returns-clause-text
returns-clause-text c = sequence_characters c.args.bytes.now c.requires.some ∙ sym (rw (is c, value (goal.at.returns-clause-text c).After-scalar_value, c.split_at.ensures.back, c.sequence_length.ensures.length) refl)

pub returns-clause-utf8 : goal.returns-clause-utf8
returns-clause-utf8 c = subst IsUtf8 (sym (c.split_at.ensures.back ∙ ap (λ n. drop n c.args.bytes.now) c.sequence_length.ensures.length)) (sequence_rest c.args.bytes.now c.requires.some c.requires.utf8)

pub returns-clause-width : goal.returns-clause-width
returns-clause-width c = rw (is c, (fine (goal.at.returns-clause-width c).After-scalar_value).width) (omega (arith, c.sequence_length.ensures.length, c.split_at.ensures.back_len, c.split_at.ensures.front_len, c.sequence_length.ensures.within))
