-- The tokens of a text are what a parser takes: their last is the end.
use Rattle.std.proofs.Common.{◌≡◌, ℕ, Bool, true, false, List, [], ◌∷◌, Ok, refl}
use Rattle.es_model.specs.declared.token.Token.{Token}
use Rattle.es_model.specs.declared.token.TokenKind.{TokenKind}
use Rattle.es_model.specs.declared.token.TokenKind.TheVariants as k
use Rattle.es_model.specs.Readings.{is_end, same_kind}
use Rattle.es_model.specs.Tokens.{tokens_of}
use Rattle.es_model.proofs.TokenLaws.{EndsOnce, ends_once}
use Rattle.js_parser.specs.Parsed.{EndsLast}

is_the_end : (kind : TokenKind) → same_kind kind k.End ≡ true → kind ≡ k.End
is_the_end k.End e = refl
is_the_end (k.Name _) e = absurd (cc e)
is_the_end (k.Keyword _) e = absurd (cc e)
is_the_end (k.Number _) e = absurd (cc e)
is_the_end (k.String _) e = absurd (cc e)
is_the_end (k.Template _ _ _) e = absurd (cc e)
is_the_end (k.Sign _) e = absurd (cc e)

abbrev IsEmpty : List Token → Type 0
IsEmpty tokens = tokens ≡ []

ends_last : (tokens : List Token) → EndsOnce tokens → EndsLast tokens
ends_last [] h = absurd h
ends_last (token ∷ []) h = by (is_end token) refl h
  where
    by : (b : Bool) → is_end token ≡ b → elim b as (λ c. Type 0) [ true ↦ IsEmpty [] | false ↦ EndsOnce [] ] → token.kind ≡ k.End
    by true e h = is_the_end token.kind e
    by false e h = absurd h
ends_last (token ∷ (other ∷ tokens)) h = by (is_end token) h (λ rest. ends_last (other ∷ tokens) rest)
  where
    by : (b : Bool) → elim b as (λ c. Type 0) [ true ↦ IsEmpty (other ∷ tokens) | false ↦ EndsOnce (other ∷ tokens) ] → (EndsOnce (other ∷ tokens) → EndsLast (other ∷ tokens)) → EndsLast (other ∷ tokens)
    by true h further = absurd (cc h)
    by false h further = further h

pub tokens_end : (bytes : List ℕ) (tokens : List Token) → tokens_of bytes ≡ Ok tokens → EndsLast tokens
tokens_end bytes tokens e = ends_last tokens (ends_once bytes tokens e)
