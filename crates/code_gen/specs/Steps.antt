-- Code before its names and jumps have numbers: a list of steps, with labels; and the words in which the
-- code of a form is written down (own rules throughout).
use Rattle.std.specs.Prelude.{ℕ, suc, ◌+◌, List, [], ◌∷◌, ◌++◌, map, length, take, drop}
use Rattle.byte_code.specs.declared.instruction.Op.{Op}
use Rattle.es_model.specs.Tree.{Text}

-- a place of the code that jumps and handlers lead to, by its number in its function
abbrev pub Label : Type 0
Label = ℕ

-- An instruction; one that names a text; one that leads to a label; a label, which stands before the
-- instruction that follows; and a handler: from one label to another, a throw leads to the third.
pub data Step : Type 0 where
  Instruction : Op → Step
  Naming : (ℕ → Op) → Text → Step
  Jumping : (ℕ → Op) → Label → Step
  Mark : Label → Step
  Handler : (from to target : Label) → Step

-- how a statement is left
pub data Leaving : Type 0 where
  Breaking : Leaving
  Continuing : Leaving
  Returning : Leaving

-- An exit that leaves one or more `try` statements with `finally`: how, and the numbers that it has at
-- those of them that are further out, innermost first.
pub record Exit : Type 0 where
  pub by : Leaving
  pub numbers : List ℕ

-- What is known on the way through a function's text: how many temporaries and labels came so far, and
-- for each `try` with `finally` that stands round, innermost first, its exits so far, in the text's order.
pub record Progress : Type 0 where
  pub temporaries : ℕ
  pub labels : ℕ
  pub exits : List (List Exit)

pub record Coded : Type 0 where
  pub steps : List Step
  pub progress : Progress

-- the code of a form, by what came before it in its function
abbrev pub Coding : Type 0
Coding = Progress → Coded

-- no code
abbrev pub none : Coding
none p = record { steps = []; progress = p }

-- steps
abbrev pub step : Step → Coding
step one p = record { steps = one ∷ []; progress = p }

abbrev pub op : Op → Coding
op one = step (Instruction one)

abbrev pub named : (ℕ → Op) → Text → Coding
named instruction text = step (Naming instruction text)

abbrev pub to : (ℕ → Op) → Label → Coding
to instruction label = step (Jumping instruction label)

abbrev pub mark : Label → Coding
mark label = step (Mark label)

abbrev pub handler : (from to target : Label) → Coding
handler from to target = step (Handler from to target)

-- one code after another
abbrev put_before : List Step → Coded → Coded
put_before steps c = record { steps = steps ++ c.steps; progress = c.progress }

abbrev followed : Coded → Coding → Coded
followed c next = put_before c.steps (next c.progress)

infixr 20 ◌▸◌
abbrev pub ◌▸◌ : Coding → Coding → Coding
(first ▸ second) p = followed (first p) second

abbrev pub all : List Coding → Coding
all [] = none
all (one ∷ rest) = one ▸ all rest

abbrev pub each : {A : Type 0} → (A → Coding) → List A → Coding
each f list = all (map f list)

-- a new label
abbrev pub labelled : (Label → Coding) → Coding
labelled f p = f p.labels (record p { labels = suc p.labels })

-- a new temporary, by its number in its function
abbrev pub temporary : (ℕ → Coding) → Coding
temporary f p = f p.temporaries (record p { temporaries = suc p.temporaries })

-- Exits through `finally`. The exits of one `try` have the numbers from 2 on, in the text's order.

abbrev pub next_number : List Exit → ℕ
next_number exits = 2 + length exits

-- the exits of the outermost of some `try` statements, which one more exit leaves all
abbrev pub joined : Leaving → List (List Exit) → List (List Exit)
joined by [] = []
joined by (exits ∷ outer) = (exits ++ record { by = by; numbers = map next_number outer } ∷ []) ∷ joined by outer

-- one more exit, which leaves that many `try` statements; what follows is by its numbers
abbrev pub leaving : Leaving → ℕ → (List ℕ → Coding) → Coding
leaving by count f p =
    let left = take count p.exits in
    f (map next_number left) (record p { exits = joined by left ++ drop count p.exits })

-- a `try` with `finally`: the code of its block and its catch, and then by its exits
abbrev pub behind : Coded → (List Exit → Coding) → Coded
behind c f = elim c.progress.exits [
  | [] ↦ put_before c.steps (f [] c.progress)
  | (exits ∷ outer) ↦ put_before c.steps (f exits (record c.progress { exits = outer }))
]

abbrev pub guarded : Coding → (List Exit → Coding) → Coding
guarded inside f p = behind (inside (record p { exits = [] ∷ p.exits })) f
