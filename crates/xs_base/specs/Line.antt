-- One line of an input, and several.
use Rattle.std.specs.Prelude.{◌≡◌, ◌≢◌, ◌==◌, ◌+◌, ◌≤◌, ℕ, Bool, true, false, All, List, [], ◌∷◌, ◌++◌, nat_lt, if◌then◌else◌, length, take, drop, Option, Some, None, Result, MatchResult, IfSome, ⊤}
use Rattle.std.specs.List.{position}
use Rattle.std.specs.Io.KnownBytes.{Keeps}

-- How many bytes a line has at most.
abbrev pub most : ℕ
most = 65535

abbrev pub is_line_feed : ℕ → Bool
is_line_feed b = b == 10

-- The line that ends before place i, whose line feed is taken too, or the first `most` bytes where no line feed is among them; and what is left.
abbrev pub cut_at : Option ℕ → List ℕ → List ℕ × List ℕ
cut_at (Some i) bytes = (take i bytes, drop (i + 1) bytes)
cut_at None bytes = (take most bytes, drop most bytes)

-- The next line and what is left after it, where any byte is left.
abbrev pub next_line : List ℕ → Option (List ℕ × List ℕ)
next_line [] = None
next_line (b ∷ bytes) = Some (cut_at (position is_line_feed (take most (b ∷ bytes))) (b ∷ bytes))

-- A line was taken, or there was none.
abbrev pub TakesLine : List ℕ → List ℕ → Bool → List ℕ → Type 0
TakesLine bytes rest true line = next_line bytes ≡ Some (line, rest)
TakesLine bytes rest false line = (bytes ≡ []) × (rest ≡ [])

-- Where the input tells: a line taken, or the end, or a fault that takes nothing.
abbrev pub GivesLine : {E : Type 0} → Option (List ℕ) → Option (List ℕ) → Result Bool E → List ℕ → Type 0
GivesLine old new result line = MatchResult result (λ took. IfSome old (λ bytes. (rest : List ℕ) × (new ≡ Some rest) × TakesLine bytes rest took line)) (λ _. Keeps old new)

-- What some input gives as a line.
pub record IsLine (line : List ℕ) : Type 0 where
  pub short : length line ≤ most
  pub unbroken : All (λ b. b ≢ 10) line

-- These lines, one after another, lie before the rest.
abbrev pub TakesLines : List ℕ → List ℕ → List (List ℕ) → Type 0
TakesLines bytes rest [] = rest ≡ bytes
TakesLines bytes rest (line ∷ lines) = (after : List ℕ) × (next_line bytes ≡ Some (line, after)) × TakesLines after rest lines

-- Where the input tells: these lines were taken, and nothing else.
abbrev pub Took : Option (List ℕ) → Option (List ℕ) → List (List ℕ) → Type 0
Took None new lines = ⊤
Took (Some bytes) new lines = (rest : List ℕ) × (new ≡ Some rest) × TakesLines bytes rest lines

-- The bytes that give a line where more may follow: behind one that is as long as a line may be stands no line feed.
abbrev pub spelled : List ℕ → List ℕ
spelled line = if nat_lt (length line) most then line ++ 10 ∷ [] else line

-- An input that gives these lines, one after another, before the rest.
abbrev pub input_of : List (List ℕ) → List ℕ → List ℕ
input_of [] rest = rest
input_of (line ∷ lines) rest = spelled line ++ input_of lines rest
