-- What is left of a text, after some of its characters.
use Rattle.std.specs.Prelude.{◌≡◌, ℕ, zero, suc, ◌+◌, List, [], ◌∷◌, Option, Some, None}
use Rattle.js_value.specs.Text.{parts, sequence_length}
use Rattle.es_model.specs.Tokens.{width, first_bad}

-- the place of the next character, and the characters
pub record Left : Type 0 where
  pub at : ℕ
  pub text : List ℕ

abbrev pub skipped : ℕ → ℕ → List ℕ → Left
skipped zero at text = record { at = at; text = text }
skipped (suc n) at [] = record { at = at; text = [] }
skipped (suc n) at (c ∷ cs) = skipped n (at + width c) cs

-- what is left after so many characters more
abbrev pub skip : ℕ → Left → Left
skip n left = skipped n left.at left.text

abbrev pub first_of : List ℕ → Option ℕ
first_of [] = None
first_of (c ∷ cs) = Some c

-- each byte belongs to a well-formed sequence
abbrev pub IsUtf8 : List ℕ → Type 0
IsUtf8 bytes = first_bad 0 (parts sequence_length bytes) ≡ None
