-- The ends of a call of the program, each with its cause.
use Rattle.std.specs.Prelude.{◌≡◌, ◌≢◌, ◌++◌, ℕ, List, [], ◌∷◌, Option, Some, None, IfSome, map, String, string_bytes, unwrap_or, codes}
use Rattle.std.specs.declared.alloc.Global.{Global}
use Rattle.std.specs.Io.KnownBytes.{Appends, Keeps}
use Rattle.xs_base.specs.Held.{Contents, held, Gives}
use Rattle.xs_base.specs.Outside.{Rose, SentInPart}
use Rattle.xs_cli.specs.Thin.{thin}
use Rattle.xs_cli.specs.Answer.{Word, answer, of_thin, file_of}
use Rattle.xs_cli.specs.declared.top.End.{End}
use Rattle.xs_cli.specs.declared.top.End.TheVariants as end

abbrev pub words_of : List (String Global) → List Word
words_of = map string_bytes

-- What a call of the program finds, or leaves: what the files hold, what `out` has received, and the counts.
pub record Outside : Type 0 where
  pub holds : Option Contents
  pub written : Option (List ℕ)
  pub files : ℕ
  pub missed : ℕ
  pub out : ℕ

-- no fault of the files came
abbrev pub AreCalm : Outside → Outside → Type 0
AreCalm before after = (after.files ≡ before.files) × (after.missed ≡ before.missed)

-- no fault came
abbrev pub IsCalm : Outside → Outside → Type 0
IsCalm before after = AreCalm before after × (after.out ≡ before.out)

-- The file of the words gave this text, which is the one that it holds, where that is told.
abbrev pub Gave : Outside → List Word → List ℕ → Type 0
Gave before words text = (file : Word) × (file_of words ≡ Some file) × Gives before.holds file text

-- The words name a file that holds something, where that is told.
abbrev pub NamesFile : Outside → List Word → Type 0
NamesFile before words = (file : Word) × (file_of words ≡ Some file) × IfSome before.holds (λ contents. held contents file ≢ None)

-- The ends of a text, by what `out` has received and by its count.
abbrev pub EndsText : List ℕ → Option (List ℕ) → Option (List ℕ) → ℕ → ℕ → End → Type 0
EndsText text old new before now end.Done =
    ((of_thin (thin text)).status ≡ 0) × Appends old new (of_thin (thin text)).bytes × (now ≡ before)
EndsText text old new before now end.NotThin = (thin text ≡ None) × Keeps old new × (now ≡ before)
EndsText text old new before now end.WriteFailed = SentInPart old new (of_thin (thin text)).bytes × Rose before now
EndsText text old new before now end.Memory = Keeps old new × (now ≡ before)
EndsText text old new before now _ = ⊥

-- Each end, and where it comes.
abbrev pub Ends : List Word → Outside → Outside → End → Type 0
Ends words before after end.Usage = (file_of words ≡ None) × Keeps before.written after.written × IsCalm before after
Ends words before after end.Done =
    (text : List ℕ) × Gave before words text × ((of_thin (thin text)).status ≡ 0) × Appends before.written after.written (of_thin (thin text)).bytes × IsCalm before after
Ends words before after end.NotThin =
    (text : List ℕ) × Gave before words text × (thin text ≡ None) × Keeps before.written after.written × IsCalm before after
Ends words before after end.NoFile =
    (file : Word) × (file_of words ≡ Some file) × IfSome before.holds (λ contents. held contents file ≡ None) × Rose before.files after.files × Rose before.missed after.missed × (after.out ≡ before.out) × Keeps before.written after.written
Ends words before after end.FileFailed =
    NamesFile before words × Rose before.files after.files × (after.missed ≡ before.missed) × (after.out ≡ before.out) × Keeps before.written after.written
Ends words before after end.WriteFailed =
    (text : List ℕ) × Gave before words text × SentInPart before.written after.written (of_thin (thin text)).bytes × Rose before.out after.out × AreCalm before after
Ends words before after end.Memory = NamesFile before words × Keeps before.written after.written × IsCalm before after

-- the call came to this end
pub record Ended (words : List Word) (before after : Outside) (e : End) : Type 0 where
  pub cause : Ends words before after e

abbrev pub status_of : End → ℕ
status_of end.Done = 0
status_of end.Usage = 2
status_of end.NotThin = 3
status_of end.NoFile = 6
status_of end.FileFailed = 6
status_of end.WriteFailed = 6
status_of end.Memory = 7

abbrev pub name_of : List Word → Word
name_of words = unwrap_or (file_of words) []

-- the line on `err`
abbrev pub line_of : List Word → End → List ℕ
line_of words end.Done = []
line_of words end.Usage = codes "usage: xs eval, boot, link, mod, run, resume or make\n"
line_of words end.NotThin = codes "P0 main\n"
line_of words end.NoFile = codes "no file " ++ name_of words ++ 10 ∷ []
line_of words end.FileFailed = codes "file " ++ name_of words ++ 10 ∷ []
line_of words end.WriteFailed = codes "write\n"
line_of words end.Memory = codes "no memory\n"

-- The line was written, unless a fault of `err` came; then a front of it was.
pub record LineTold (old new : Option (List ℕ)) (before now : ℕ) (line : List ℕ) : Type 0 where
  pub told : (Rose before now → ⊥) → Appends old new line
  pub part : SentInPart old new line

-- The status and the bytes are the answer's, at contents that are those told, where they are.
pub record IsAnswered (words : List Word) (before after : Outside) (result : ℕ) : Type 0 where
  pub contents : Contents
  pub told : IfSome before.holds (λ c. c ≡ contents)
  pub same : result ≡ (answer words contents).status
  pub bytes : Appends before.written after.written (answer words contents).bytes

-- What `out` received is a front of the answer's bytes, at contents that are those told, where they are.
pub record IsCutShort (words : List Word) (before after : Outside) : Type 0 where
  pub contents : Contents
  pub told : IfSome before.holds (λ c. c ≡ contents)
  pub part : SentInPart before.written after.written (answer words contents).bytes
