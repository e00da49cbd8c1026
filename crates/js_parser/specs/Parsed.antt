-- What the parser answers, by the tokens that it reads (ECMA-262, 16.2, with the language's own limit).
use Rattle.std.specs.Prelude.{◌≡◌, ℕ, suc, ◌<◌, ◌≤◌, Bool, [], ◌∷◌, length, take, map, Result, Ok, Err}
use Rattle.es_model.specs.declared.token.Token.{Token}
use Rattle.es_model.specs.declared.token.TokenKind.{TokenKind}
use Rattle.es_model.specs.declared.token.TokenKind.TheVariants as k
use Rattle.es_model.specs.Tree as t
use Rattle.es_model.specs.Tree.{Tree}
use Rattle.es_model.specs.Readings.{Tokens}
use Rattle.es_model.specs.Nesting.{nesting}
use Rattle.es_model.specs.Spelling.{spells}
use Rattle.js_parser.specs.Machine.{Answer, Parsed, TooDeep, Syntax}
use Rattle.js_parser.specs.declared.fault.ParseFault.{ParseFault}
use Rattle.js_parser.specs.declared.fault.ParseFault.TheVariants as fault

-- a token without its place
pub record Shape : Type 0 where
  pub kind : TokenKind
  pub line_before : Bool

abbrev pub shape : Token → Shape
shape token = record { kind = token.kind; line_before = token.line_before }

-- a token of a list stands at a place in it, and no module's tokens begin, by kinds and line breaks, with those
-- up to it; so no tree spells the list
abbrev pub NoneGoesOn : Tokens → ℕ → Type 0
NoneGoesOn tokens n =
    (n < length tokens) × ((others : Tokens) (tree : Tree (t.list t.item)) → map shape (take (suc n) others) ≡ map shape (take (suc n) tokens) → spells tree others → ⊥)

-- The tree is well-formed, spells the tokens and is no deeper than 64, and it is the only one; or those that spell
-- them are all deeper, and there is one; or none goes on with a token.
abbrev pub Answers : Tokens → Result (Tree (t.list t.item)) ParseFault → Type 0
Answers tokens (Ok tree) = spells tree tokens × (nesting tree ≤ 64) × ((other : Tree (t.list t.item)) → spells other tokens → other ≡ tree)
Answers tokens (Err fault.TooDeep) = (tree : Tree (t.list t.item)) × spells tree tokens × ((other : Tree (t.list t.item)) → spells other tokens → 64 < nesting other)
Answers tokens (Err (fault.Syntax n)) = NoneGoesOn tokens n
Answers tokens (Err fault.Memory) = Unit {0}

-- the last token is the end of the text
abbrev pub EndsLast : Tokens → Type 0
EndsLast [] = ⊥
EndsLast (token ∷ []) = token.kind ≡ k.End
EndsLast (token ∷ (other ∷ tokens)) = EndsLast (other ∷ tokens)

-- the machine's answer as a result
abbrev pub result_of : Answer → Result (Tree (t.list t.item)) ParseFault
result_of (Parsed whole) = Ok whole
result_of TooDeep = Err fault.TooDeep
result_of (Syntax n) = Err (fault.Syntax n)
