-- The content of string literals and templates as the productions of the lexical grammar say it
-- (ECMA-262, 12.9.4 and 12.9.6), with the units that it stands for.
use Rattle.std.specs.Prelude.{◌≡◌, ℕ, Bool, true, false, not, ◌&&◌, ◌||◌, ◌==◌, List, [], ◌∷◌, ◌++◌, drop, Some}
use Rattle.js_value.specs.Text.{utf16}
use Rattle.es_model.specs.Tokens.{first_is, escape}

-- what stands for itself in a string: no quote of its kind, no backslash, no LF and no CR
abbrev pub is_string_character : ℕ → ℕ → Bool
is_string_character quote c = not (c == quote) && not ((c == 10) || (c == 13)) && not (c == 92)

-- Characters of a string, as many as may be: a text, the units that its characters stand for, and the text
-- behind them.
pub data StringCharacters : ℕ → List ℕ → List ℕ → List ℕ → Type 0 where
  NoCharacter : (quote : ℕ) (text : List ℕ) → StringCharacters quote text [] text
  Character : (quote c : ℕ) (text units rest : List ℕ) → is_string_character quote c ≡ true → StringCharacters quote text units rest → StringCharacters quote (c ∷ text) (utf16 c ++ units) rest
  EscapeSequence : (quote count : ℕ) (text one units rest : List ℕ) → escape text ≡ Some (one, count) → StringCharacters quote (drop count text) units rest → StringCharacters quote (92 ∷ text) (one ++ units) rest

-- what stands for itself in a template: no backquote, no `$` before `{`, no CR and no backslash
abbrev pub is_template_character : ℕ → List ℕ → Bool
is_template_character c text = not (c == 96) && not ((c == 36) && first_is (λ d. d == 123) text) && not (c == 13) && not (c == 92)

-- Characters of a template, in the same way. CR and CR LF stand for LF.
pub data TemplateCharacters : List ℕ → List ℕ → List ℕ → Type 0 where
  NoTemplateCharacter : (text : List ℕ) → TemplateCharacters text [] text
  TemplateCharacter : (c : ℕ) (text units rest : List ℕ) → is_template_character c text ≡ true → TemplateCharacters text units rest → TemplateCharacters (c ∷ text) (utf16 c ++ units) rest
  ReturnAndFeed : (text units rest : List ℕ) → TemplateCharacters text units rest → TemplateCharacters (13 ∷ 10 ∷ text) (10 ∷ units) rest
  ReturnAlone : (text units rest : List ℕ) → first_is (λ d. d == 10) text ≡ false → TemplateCharacters text units rest → TemplateCharacters (13 ∷ text) (10 ∷ units) rest
  TemplateEscape : (count : ℕ) (text one units rest : List ℕ) → escape text ≡ Some (one, count) → TemplateCharacters (drop count text) units rest → TemplateCharacters (92 ∷ text) (one ++ units) rest

-- the text that a piece of a template ends with: its backquote, or `${`
abbrev pub template_end : Bool → List ℕ → List ℕ
template_end true rest = 96 ∷ rest
template_end false rest = 36 ∷ 123 ∷ rest
