-- Frames, and how a machine stands between two steps.
use Rattle.std.specs.Prelude.{ℕ, zero, suc, cond, List, [], ◌∷◌, Option, Some, None, get_or, slice_get}
use Rattle.js_value.specs.Value.{Value, Undefined}
use Rattle.es_ops.specs.State.{State}
use Rattle.es_ops.specs.Act.{Act, Completion, Ran}
use Rattle.byte_code.specs.declared.records.FunctionCode.{FunctionCode}
use Rattle.byte_code.specs.declared.records.CodeCapture.{CodeCapture}

-- ---- places

pub data Content : Type 0 where
  Uninitialised : Content
  Holds : Value → Content
  Pointer : (cell : ℕ) → Content

-- a place that was never put is uninitialised
abbrev pub Places : Type 0
Places = List Content

abbrev pub place_at : Places → ℕ → Content
place_at places x = get_or places x Uninitialised

abbrev pub with_place : Places → ℕ → Content → Places
with_place [] zero c = c ∷ []
with_place [] (suc x) c = Uninitialised ∷ with_place [] x c
with_place (p ∷ places) zero c = c ∷ places
with_place (p ∷ places) (suc x) c = p ∷ with_place places x c

-- at a call: the arguments, undefined where one is missing
abbrev pub places_at_call : (parameters : ℕ) → (arguments : List Value) → Places
places_at_call zero arguments = []
places_at_call (suc n) [] = Holds Undefined ∷ places_at_call n []
places_at_call (suc n) (v ∷ vs) = Holds v ∷ places_at_call n vs

-- ---- frames

-- One call of a script function, or a body. `function` is the number of the function object; a body, which has no new
-- target, is never asked for it.
pub record Frame : Type 0 where
  pub module_number : ℕ
  pub code : FunctionCode
  pub function : ℕ
  pub home : Option ℕ
  pub outer : List ℕ  -- the cells of the function's free names, or of a body's bindings and imports
  pub target : Option Value
  pub this : Option Value  -- none: it isn't bound yet
  pub places : Places
  pub at : ℕ
  pub stack : List Value  -- the top first

-- What waits: a frame for the value of its instruction, a frame that has not begun for the object that it constructs, and
-- an act for a call that it made at this depth.
pub data Below : Type 0 where
  Instructed : Frame → Below
  Constructing : Frame → Below
  Waiting : (depth : ℕ) → (Completion → Act) → Below

-- Valid code is never stuck.
pub data Config : Type 0 where
  Running : Frame → List Below → State → Config
  Performing : Act → List Below → State → Config
  Returning : Value → List Below → State → Config
  Throwing : Value → List Below → State → Config
  Finished : Ran → Config
  Stuck : Config

-- ---- operands

-- so many values from the top, the deepest first, and what is under them
abbrev pub taken_onto : (above : List Value) → ℕ → List Value → Option (List Value × List Value)
taken_onto above zero stack = Some (above, stack)
taken_onto above (suc n) [] = None
taken_onto above (suc n) (v ∷ stack) = taken_onto (v ∷ above) n stack

abbrev pub taken : ℕ → List Value → Option (List Value × List Value)
taken n stack = taken_onto [] n stack

-- ---- captured cells

abbrev pub cell_of : Content → Option ℕ
cell_of (Pointer c) = Some c
cell_of content = None

abbrev pub captured_cell : Frame → CodeCapture → Option ℕ
captured_cell f capture = cond capture.outer (slice_get f.outer capture.at) (cell_of (place_at f.places capture.at))

abbrev pub with_cell : Option ℕ → Option (List ℕ) → Option (List ℕ)
with_cell (Some c) (Some cells) = Some (c ∷ cells)
with_cell cell cells = None

-- the cells of a function that is made here; none where a place holds no cell
abbrev pub captured_cells : Frame → List CodeCapture → Option (List ℕ)
captured_cells f [] = Some []
captured_cells f (c ∷ cs) = with_cell (captured_cell f c) (captured_cells f cs)
