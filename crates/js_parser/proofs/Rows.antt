-- The words in which rows on tokens and trees are written.
use Rattle.std.specs.Prelude.{ℕ, true, false, List}
use Rattle.es_model.specs.declared.names.Identifier.{Identifier}
use Rattle.es_model.specs.declared.names.Pair.{Pair}
use Rattle.es_model.specs.declared.token.Token.{Token}
use Rattle.es_model.specs.declared.token.TokenKind.{TokenKind}

-- a token at a place, with no line break before it, and after one
abbrev pub token : TokenKind → ℕ → Token
token kind at = record { kind = kind; at = at; line_before = false }

abbrev pub lined : TokenKind → ℕ → Token
lined kind at = record { kind = kind; at = at; line_before = true }

abbrev pub named_at : ℕ → List ℕ → Identifier
named_at at name = record { at = at; name = name }

abbrev pub pair_of : Identifier → Identifier → Pair
pair_of taken given = record { taken = taken; given = given }
