-- The words in which the grammar is written (for the notation of ECMA-262, 5.1.5): a reading says which
-- tokens a form takes, by the tokens before it is read and those after.
use Rattle.std.specs.Prelude.{◌≡◌, ℕ, Bool, true, false, not, ◌&&◌, ◌||◌, ◌==◌, ◌⊎◌, List, [], ◌∷◌, codes, slice_get, Option, Some, None}
use Rattle.std.specs.List.{list_any}
use Prim.Native.String.{String}
use Rattle.es_model.specs.declared.kinds.Semi.{Semi}
use Rattle.es_model.specs.declared.kinds.Semi.TheVariants as semi
use Rattle.es_model.specs.declared.names.Identifier.{Identifier}
use Rattle.es_model.specs.declared.token.Token.{Token}
use Rattle.es_model.specs.declared.token.TokenKind.{TokenKind}
use Rattle.es_model.specs.declared.token.TokenKind.TheVariants as k
use Rattle.es_model.specs.Tokens.{keywords, signs, place_from, same_text}

abbrev pub Tokens : Type 0
Tokens = List Token

abbrev pub Reading : Type 1
Reading = Tokens → Tokens → Type 0

-- Putting readings together.

-- no tokens, and no reading at all
abbrev pub nothing : Reading
nothing from to = from ≡ to

abbrev pub never : Reading
never from to = ⊥

-- one after the other
infixr 20 ◌▸◌
abbrev pub ◌▸◌ : Reading → Reading → Reading
(first ▸ second) from to = (mid : Tokens) × first from mid × second mid to

-- one or the other
infixr 15 ◌∣◌
abbrev pub ◌∣◌ : Reading → Reading → Reading
(one ∣ other) from to = one from to ⊎ other from to

-- a reading, where a fact holds
abbrev pub given : Type 0 → Reading → Reading
given fact reading from to = fact × reading from to

-- One token, and tests of the next one.

abbrev pub First : (Token → Type 0) → Tokens → Type 0
First test [] = ⊥
First test (token ∷ tokens) = test token

abbrev pub One : (Token → Type 0) → Reading
One test [] to = ⊥
One test (token ∷ tokens) to = test token × (tokens ≡ to)

-- the keyword or sign of a text
abbrev kind_from : Option ℕ → Option ℕ → TokenKind
kind_from (Some n) sign = k.Keyword n
kind_from None (Some n) = k.Sign n
kind_from None None = k.End

abbrev kind_of : List ℕ → TokenKind
kind_of text = kind_from (place_from 0 keywords text) (place_from 0 signs text)

unfoldable pub word : String → TokenKind
word text = kind_of (codes text)

abbrev pub same_kind : TokenKind → TokenKind → Bool
same_kind (k.Keyword m) (k.Keyword n) = m == n
same_kind (k.Sign m) (k.Sign n) = m == n
same_kind k.End k.End = true
same_kind _ _ = false

-- a token is the keyword or the sign of a text, as a test
abbrev pub is : String → Token → Bool
is text token = same_kind token.kind (word text)

abbrev pub is_end : Token → Bool
is_end token = same_kind token.kind k.End

-- the keyword or the sign of a text
abbrev pub the : String → Reading
the text = One (λ token. token.kind ≡ word text)

-- a name that is no keyword, at its place
abbrev pub name : Identifier → Reading
name identifier = One (λ token. (token.kind ≡ k.Name identifier.name) × (token.at ≡ identifier.at))

-- a word that is a name to the tokens, as `from`
abbrev pub the_name : String → Reading
the_name text = One (λ token. token.kind ≡ k.Name (codes text))

abbrev pub maybe_name : Option Identifier → Reading
maybe_name None = nothing
maybe_name (Some identifier) = name identifier

-- a name or a keyword as a plain name, which stands after a point and as a key
abbrev pub plain_name : TokenKind → Option (List ℕ)
plain_name (k.Name text) = Some text
plain_name (k.Keyword n) = slice_get keywords n
plain_name _ = None

abbrev pub property : List ℕ → Reading
property text = One (λ token. plain_name token.kind ≡ Some text)

-- a reading that begins at a place
abbrev pub here : ℕ → Reading → Reading
here at reading from to = First (λ token. token.at ≡ at) from × reading from to

-- a reading before which no line break stands
abbrev pub same_line : Reading → Reading
same_line reading from to = First (λ token. token.line_before ≡ false) from × reading from to

-- a reading that begins with none of some words
abbrev pub any_of : List String → Token → Bool
any_of words token = list_any (λ text. is text token) words

abbrev pub not_first : List String → Reading → Reading
not_first words reading from to = First (λ token. any_of words token ≡ false) from × reading from to

-- Semicolons (own rule). Where one is missing, the next token may be one that `may` allows.

abbrev pub semicolon : (Token → Bool) → Semi → Reading
semicolon may semi.Written = the ";"
semicolon may semi.Missing = λ from to. (from ≡ to) × First (λ token. may token ≡ true) to

-- what continues a statement after a line break
abbrev pub is_template : TokenKind → Bool
is_template (k.Template first last text) = true
is_template _ = false

abbrev pub continues_statement : Token → Bool
continues_statement token = is_template token.kind || any_of ("(" ∷ "[" ∷ "." ∷ "," ∷ "?" ∷ ":" ∷ "=>" ∷ []) token || any_of ("=" ∷ "+=" ∷ "-=" ∷ "*=" ∷ "/=" ∷ "%=" ∷ "**=" ∷ "<<=" ∷ ">>=" ∷ ">>>=" ∷ "&=" ∷ "|=" ∷ "^=" ∷ []) token || any_of ("??" ∷ "||" ∷ "&&" ∷ "|" ∷ "^" ∷ "&" ∷ "==" ∷ "!=" ∷ "===" ∷ "!==" ∷ "<" ∷ ">" ∷ "<=" ∷ ">=" ∷ "in" ∷ "instanceof" ∷ "<<" ∷ ">>" ∷ ">>>" ∷ "+" ∷ "-" ∷ "*" ∷ "/" ∷ "%" ∷ "**" ∷ []) token

-- before `}` and at the end of the text
abbrev pub ends : Token → Bool
ends token = is "}" token || is_end token

-- at a line break, where the next token doesn't continue the statement
abbrev pub may_miss : Token → Bool
may_miss token = ends token || (token.line_before && not (is ";" token) && not (continues_statement token))

-- the same after the `}` of `export {..}`, where the name `from` goes on too
abbrev pub is_from : TokenKind → Bool
is_from (k.Name text) = same_text text (codes "from")
is_from _ = false

abbrev pub may_miss_after_export : Token → Bool
may_miss_after_export token = may_miss token && not (is_from token.kind)

-- after a bare `break`, `continue` or `return`: at any line break
abbrev pub may_miss_bare : Token → Bool
may_miss_bare token = ends token || (token.line_before && not (is ";" token))

-- after a `do..while` loop: anywhere
abbrev pub may_miss_after_do : Token → Bool
may_miss_after_do token = not (is ";" token)
