-- An input over a reader of std, and what its steps give.
use Rattle.std.specs.Prelude.{◌≡◌, ℕ, Bool, List, [], ◌∷◌, Option, Some, None, Result, MatchResult, IfSome}
use Rattle.std.specs.Io.KnownBytes.{Keeps, Consumes, IsAtEnd, prepend_known}
use Rattle.xs_base.specs.Line.{TakesLine}

-- The bytes that are left, where the reader tells its own: those of an unfinished line that are held back,
-- and then the reader's. The count of faults.
pub record LinesOverReader : Type 0 where
  pub left : Option (List ℕ)
  pub faults : ℕ

-- The next byte of a reader, or its end.
abbrev pub TakesByte : Option (List ℕ) → Option (List ℕ) → Option ℕ → Type 0
TakesByte old new None = Keeps old new × IsAtEnd new
TakesByte old new (Some byte) = Consumes old new (byte ∷ [])

-- A fault takes nothing.
abbrev pub GivesByte : {E : Type 0} → Option (List ℕ) → Option (List ℕ) → Result (Option ℕ) E → Type 0
GivesByte old new result = MatchResult result (λ byte. TakesByte old new byte) (λ _. Keeps old new)

-- From what was left, a line was taken, or there was none. After a fault what was left is what is held now and
-- what the reader has.
abbrev pub FillsLine : {E : Type 0} → Option (List ℕ) → Option (List ℕ) → Result Bool E → List ℕ → Type 0
FillsLine old reader result held = MatchResult result
    (λ took. IfSome old (λ bytes. (rest : List ℕ) × (reader ≡ Some rest) × TakesLine bytes rest took held))
    (λ _. Keeps old (prepend_known held reader))
