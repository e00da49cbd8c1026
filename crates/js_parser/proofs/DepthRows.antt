-- Nesting: up to 64 there is a tree, and beyond it none, whatever stands deeper.
use Rattle.std.proofs.Common.{◌≡◌, refl, ℕ, zero, suc, [], ◌∷◌, pos}
use Rattle.es_model.specs.declared.kinds.Semi.TheVariants as semi
use Rattle.es_model.specs.declared.token.TokenKind.TheVariants as k
use Rattle.es_model.specs.Readings.{Tokens}
use Rattle.es_model.specs.Tree as t
use Rattle.es_model.specs.Tree.{Tree}
use Rattle.js_parser.proofs.Rows.{token}
use Rattle.js_parser.specs.Machine.{answer, Parsed, TooDeep, Syntax}

-- `(`, and `)`, a number of times before other tokens
abbrev opened : ℕ → Tokens → Tokens
opened zero tokens = tokens
opened (suc n) tokens = token (k.Sign 2) 0 ∷ opened n tokens

abbrev closed : ℕ → Tokens → Tokens
closed zero tokens = tokens
closed (suc n) tokens = token (k.Sign 3) 0 ∷ closed n tokens

-- `1` in parentheses, and `;`
abbrev enclosed : ℕ → Tokens
enclosed n = opened n (token (k.Number (pos 1)) 0 ∷ closed n (token (k.Sign 6) 0 ∷ token k.End 0 ∷ []))

abbrev number_in : ℕ → Tree t.expression
number_in zero = t.Number (pos 1)
number_in (suc n) = t.Paren (number_in n)

-- the statement, 62 pairs of parentheses and the number
sixty_two : answer (enclosed 62) ≡ Parsed (t.more (t.Plain (t.Value (number_in 62) semi.Written)) t.none)
sixty_two = refl

sixty_three : answer (enclosed 63) ≡ TooDeep
sixty_three = refl

three_hundred : answer (enclosed 300) ≡ TooDeep
three_hundred = refl

-- 100 times `(` alone: the end is the first token that no module goes on with
cut_off : answer (opened 100 (token k.End 0 ∷ [])) ≡ Syntax 100
cut_off = refl

-- one `)` too many, behind a form that is nested too deep
one_too_many : answer (opened 70 (token (k.Number (pos 1)) 0 ∷ closed 71 (token k.End 0 ∷ []))) ≡ Syntax 141
one_too_many = refl
