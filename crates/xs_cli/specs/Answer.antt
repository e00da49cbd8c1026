-- What the program answers, as one function of its words and of what the files hold. Own rules.
use Rattle.std.specs.Prelude.{◌&&◌, ◌==◌, ℕ, Bool, false, not, List, [], ◌∷◌, Option, Some, None, codes, if◌then◌else◌}
use Rattle.std.specs.Str.{bytes_eq}
use Rattle.xs_base.specs.Held.{Contents, held}
use Rattle.es_eval.specs.ThinBoot.{Told, told, run}
use Rattle.xs_cli.specs.Thin.{Thin, thin, tree_of}

-- ---- words

abbrev pub Word : Type 0
Word = List ℕ

-- not empty, and no dash in front
abbrev pub is_plain_word : Word → Bool
is_plain_word [] = false
is_plain_word (byte ∷ bytes) = not (byte == 0x2D)

-- the FILE of `eval FILE`, the one command; None for all other words
abbrev pub file_of : List Word → Option Word
file_of (command ∷ file ∷ []) = if bytes_eq command (codes "eval") && is_plain_word file then Some file else None
file_of words = None

-- ---- the answer

-- The status, and the bytes that `out` receives.
abbrev pub Answer : Type 0
Answer = Told

abbrev pub refusal : ℕ → Answer
refusal status = record { status = status; bytes = [] }

abbrev pub budget : ℕ
budget = 100000000

abbrev pub of_thin : Option Thin → Answer
of_thin None = refusal 3
of_thin (Some thin) = told (run budget (tree_of thin))

abbrev pub of_file : Option (List ℕ) → Answer
of_file None = refusal 6
of_file (Some text) = of_thin (thin text)

abbrev pub of_words : Option Word → Contents → Answer
of_words None contents = refusal 2
of_words (Some file) contents = of_file (held contents file)

-- what is answered where nothing of the outside fails and there is memory
abbrev pub answer : List Word → Contents → Answer
answer words contents = of_words (file_of words) contents
