-- From steps to bytes: where labels stand, the heights of the stack, the handlers, and the texts that are named.
use Rattle.std.specs.Prelude.{ℕ, ◌+◌, ◌==◌, max, cond, Bool, true, false, List, [], ◌∷◌, ◌++◌, length, Option, Some, None}
use Rattle.byteorder.specs.Endian.{big_bytes}
use Rattle.byte_code.specs.declared.instruction.Op.{Op}
use Rattle.byte_code.specs.Instructions.{spelling}
use Rattle.byte_code.specs.ValidCode.{goes_on, height_after}
use Rattle.es_model.specs.Tree.{Text}
use Rattle.code_gen.specs.Steps.{Label, Step, Instruction, Naming, Jumping, Mark, Handler}

-- ---- where labels stand

-- the bytes of a step: those of a name's number and of a jump's place are always as many
abbrev pub step_size : Step → ℕ
step_size (Instruction op) = length (spelling op)
step_size (Naming op text) = length (spelling (op 0))
step_size (Jumping op label) = length (spelling (op 0))
step_size (Mark label) = 0
step_size (Handler from end target) = 0

-- something known of a label
pub record Known : Type 0 where
  pub label : Label
  pub is : ℕ

abbrev pub places_from : ℕ → List Step → List Known
places_from at [] = []
places_from at (Mark label ∷ rest) = record { label = label; is = at } ∷ places_from at rest
places_from at (one ∷ rest) = places_from (at + step_size one) rest

abbrev pub find_label : Label → List Known → Option ℕ
find_label label [] = None
find_label label (one ∷ rest) = cond (one.label == label) (Some one.is) (find_label label rest)

abbrev or_zero : Option ℕ → ℕ
or_zero None = 0
or_zero (Some n) = n

abbrev pub place_of_label : List Known → Label → ℕ
place_of_label places label = or_zero (find_label label places)

-- ---- instructions, bytes and handlers

abbrev pub instructions_at : (numbering : Text → ℕ) → List Known → List Step → List Op
instructions_at numbering places [] = []
instructions_at numbering places (Instruction op ∷ rest) = op ∷ instructions_at numbering places rest
instructions_at numbering places (Naming op text ∷ rest) = op (numbering text) ∷ instructions_at numbering places rest
instructions_at numbering places (Jumping op label ∷ rest) = op (place_of_label places label) ∷ instructions_at numbering places rest
instructions_at numbering places (_ ∷ rest) = instructions_at numbering places rest

abbrev pub instructions : (numbering : Text → ℕ) → List Step → List Op
instructions numbering steps = instructions_at numbering (places_from 0 steps) steps

abbrev pub spelled : List Op → List ℕ
spelled [] = []
spelled (one ∷ rest) = spelling one ++ spelled rest

abbrev pub code_bytes : (numbering : Text → ℕ) → List Step → List ℕ
code_bytes numbering steps = spelled (instructions numbering steps)

-- the handlers in the order of the steps
abbrev handlers_at : List Known → List Step → List ℕ
handlers_at places [] = []
handlers_at places (Handler from end target ∷ rest) =
    big_bytes 2 (place_of_label places from) ++ (big_bytes 2 (place_of_label places end) ++ (big_bytes 2 (place_of_label places target) ++ handlers_at places rest))
handlers_at places (_ ∷ rest) = handlers_at places rest

abbrev pub handler_bytes : List Step → List ℕ
handler_bytes steps = handlers_at (places_from 0 steps) steps

-- the texts that the steps name, in order
abbrev pub texts_of : List Step → List Text
texts_of [] = []
texts_of (Naming op text ∷ rest) = text ∷ texts_of rest
texts_of (_ ∷ rest) = texts_of rest

-- ---- heights of the stack

-- The height before a step, none behind an instruction that doesn't go on; the greatest so far; and those
-- of the labels that are jumped to or handle.
pub record Heights : Type 0 where
  pub now : Option ℕ
  pub greatest : ℕ
  pub known : List Known

abbrev reached : Option ℕ → Heights → Heights
reached None h = record h { now = None }
reached (Some n) h = record h { now = Some n; greatest = max h.greatest n }

abbrev going_on : Bool → ℕ → Heights → Heights
going_on true n h = reached (Some n) h
going_on false n h = reached None h

abbrev after_instruction : Op → Heights → Heights
after_instruction op h = going_on (goes_on op) (height_after op (or_zero h.now)) h

abbrev jumped : Label → ℕ → Heights → Heights
jumped label n h = record h { known = record { label = label; is = n } ∷ h.known }

abbrev at_mark : Option ℕ → Label → Heights → Heights
at_mark None label h = reached (find_label label h.known) h
at_mark (Some n) label h = h

abbrev after_step : Step → Heights → Heights
after_step (Instruction op) h = after_instruction op h
after_step (Naming op text) h = after_instruction (op 0) h
after_step (Jumping op label) h = after_instruction (op 0) (jumped label (height_after (op 0) (or_zero h.now)) h)
after_step (Mark label) h = at_mark h.now label h
after_step (Handler from end target) h = h

abbrev heights_after : List Step → Heights → Heights
heights_after [] h = h
heights_after (one ∷ rest) h = heights_after rest (after_step one h)

-- a handler's target has height 1
abbrev targets : List Step → List Known
targets [] = []
targets (Handler from end target ∷ rest) = record { label = target; is = 1 } ∷ targets rest
targets (_ ∷ rest) = targets rest

abbrev pub greatest_height : List Step → ℕ
greatest_height steps = (heights_after steps (record { now = Some 0; greatest = 0; known = targets steps })).greatest
