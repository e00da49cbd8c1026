use Rattle.std.proofs.Common.{◌∙◌, ap, Option, Some, None, ℕ}
use Rattle.es_model.specs.declared.token.TokenKind.{TokenKind}
use Rattle.es_model.specs.declared.token.TokenKind.TheVariants as k
use Rattle.es_model.specs.Tokens.{keyword_of}
use Rattle.js_lexer.proofs.words.word.Goals as goal

pub returns-in-Some : goal.returns-in-Some
returns-in-Some c = ap (λ (o : Option ℕ). elim o as (λ _. TokenKind) [ Some n ↦ k.Keyword n | None ↦ k.Name c.args.text ]) (c.in-Some.ensures ∙ ap keyword_of c.as_slice.ensures)

pub returns-in-None : goal.returns-in-None
returns-in-None c = ap (λ (o : Option ℕ). elim o as (λ _. TokenKind) [ Some n ↦ k.Keyword n | None ↦ k.Name c.args.text ]) (c.in-None.ensures ∙ ap keyword_of c.as_slice.ensures)
