-- Laws of the modules that tokens spell: their signs pair off in number, their End is the last and the
-- only one, the places of their functions ascend, and no two functions' numbers have one place.
use Rattle.std.proofs.Common.{◌≡◌, ℕ, zero, suc, ◌<◌, ◌≤◌, List, [], ◌∷◌, slice_get, Option, Some, None, Ok, refl, ap, sym, subst, arith}
use Rattle.es_model.specs.declared.token.TokenKind.{TokenKind}
use Rattle.es_model.specs.declared.token.TokenKind.TheVariants as k
use Rattle.es_model.specs.Tree as t
use Rattle.es_model.specs.Tree.{Tree}
use Rattle.es_model.specs.Functions.{FunctionForm, functions, function_at}
use Rattle.es_model.specs.Tokens.{tokens_of}
use Rattle.es_model.specs.Readings.{Tokens, word}
use Rattle.es_model.specs.Spelling.{Spells, spells}
use Rattle.es_model.specs.SyntaxLaws.{AscendFrom, EndsOnce, place_of_function, FunctionsAscendFrom, opens, closes, one_if, openings, closings}
use Rattle.es_model.proofs.SpellingLaws.{Within, Read, reads, sequence_reads}
use Rattle.es_model.proofs.TokenLaws.{places_ascend}

module_read : (items : Tree (t.list t.item)) (tokens : Tokens) (h : spells items tokens) → Read 0 0 0 (functions items) tokens (h.0 ∷ [])
module_read items tokens h = sequence_reads (functions items) (Spells items) (reads items) tokens (h.0 ∷ []) h.2

end_is_no_sign : (kind : TokenKind) → kind ≡ k.End → (one_if (opens kind) ≡ 0) × (one_if (closes kind) ≡ 0)
unfolding word
end_is_no_sign kind e = subst (λ kind. (one_if (opens kind) ≡ 0) × (one_if (closes kind) ≡ 0)) (sym e) (refl, refl)

-- a module's tokens have as many closing signs as opening ones
pub signs_pair_off : (items : Tree (t.list t.item)) (tokens : Tokens) → spells items tokens → openings tokens ≡ closings tokens
signs_pair_off items tokens h = let end = end_is_no_sign h.0.kind h.1 in omega (arith, (module_read items tokens h).signs, end.0, end.1)

-- a module's tokens have one End, their last
pub spelled_ends_once : (items : Tree (t.list t.item)) (tokens : Tokens) → spells items tokens → EndsOnce tokens
spelled_ends_once items tokens h = (module_read items tokens h).ends (subst (λ kind. EndsOnce (record h.0 { kind = kind } ∷ [])) (sym h.1) refl)

ascending : (low high : ℕ) (forms : List FunctionForm) → Within low high forms → FunctionsAscendFrom low forms
ascending low high [] h = tt
ascending low high (form ∷ forms) h = (h.0, ascending (suc (place_of_function form)) high forms h.1)

-- where tokens' places ascend, so do those of the functions, in the order of their numbers
pub functions_ascend : (items : Tree (t.list t.item)) (tokens : Tokens) → spells items tokens → AscendFrom 0 tokens → FunctionsAscendFrom 0 (functions items)
functions_ascend items tokens h ascend = let p = (module_read items tokens h).places 0 ascend in ascending 0 p.0 (functions items) p.2

abbrev FromPlace : ℕ → Option FunctionForm → Type 0
FromPlace low None = Unit {0}
FromPlace low (Some form) = low ≤ place_of_function form

abbrev BelowPlace : ℕ → Option FunctionForm → Type 0
BelowPlace high None = Unit {0}
BelowPlace high (Some form) = place_of_function form < high

reached : (low : ℕ) (forms : List FunctionForm) (n : ℕ) (g : FunctionForm) → FunctionsAscendFrom low forms → slice_get forms n ≡ Some g → low ≤ place_of_function g
reached low [] n g h e = absurd (cc e)
reached low (form ∷ forms) zero g h e = subst (FromPlace low) e h.0
reached low (form ∷ forms) (suc n) g h e = omega (arith, h.0, reached (suc (place_of_function form)) forms n g h.1 e)

before_others : (low : ℕ) (form : FunctionForm) (forms : List FunctionForm) (n : ℕ) (f g : FunctionForm) → FunctionsAscendFrom low (form ∷ forms) → Some form ≡ Some f → slice_get forms n ≡ Some g → place_of_function f < place_of_function g
before_others low form forms n f g h e d = subst (BelowPlace (place_of_function g)) e (omega (arith, reached (suc (place_of_function form)) forms n g h.1 d))

same_number : (low : ℕ) (forms : List FunctionForm) (m n : ℕ) (f g : FunctionForm) → FunctionsAscendFrom low forms → slice_get forms m ≡ Some f → slice_get forms n ≡ Some g → place_of_function f ≡ place_of_function g → m ≡ n
same_number low [] m n f g h e d same = absurd (cc e)
same_number low (form ∷ forms) zero zero f g h e d same = refl
same_number low (form ∷ forms) zero (suc n) f g h e d same = absurd (omega (arith, same, before_others low form forms n f g h e d))
same_number low (form ∷ forms) (suc m) zero f g h e d same = absurd (omega (arith, same, before_others low form forms m g f h d e))
same_number low (form ∷ forms) (suc m) (suc n) f g h e d same = ap suc (same_number (suc (place_of_function form)) forms m n f g h.1 e d same)

-- function numbers are distinct: no two of them have one place
pub numbers_distinct : (items : Tree (t.list t.item)) (tokens : Tokens) → spells items tokens → AscendFrom 0 tokens → (m n : ℕ) (f g : FunctionForm) → function_at items m ≡ Some f → function_at items n ≡ Some g → place_of_function f ≡ place_of_function g → m ≡ n
numbers_distinct items tokens h ascend zero n f g e d same = absurd (cc e)
numbers_distinct items tokens h ascend (suc m) zero f g e d same = absurd (cc d)
numbers_distinct items tokens h ascend (suc m) (suc n) f g e d same = ap suc (same_number 0 (functions items) m n f g (functions_ascend items tokens h ascend) e d same)

-- the same of a text's module
pub numbers_distinct_in_text : (bytes : List ℕ) (items : Tree (t.list t.item)) (tokens : Tokens) → tokens_of bytes ≡ Ok tokens → spells items tokens → (m n : ℕ) (f g : FunctionForm) → function_at items m ≡ Some f → function_at items n ≡ Some g → place_of_function f ≡ place_of_function g → m ≡ n
numbers_distinct_in_text bytes items tokens accepted h = numbers_distinct items tokens h (places_ascend bytes tokens accepted)
