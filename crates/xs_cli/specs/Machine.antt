-- The machine that runs a thin module's code: what each of the six instructions does to the operand stack
-- (its top comes first), and what it writes. Own rules.
use Rattle.std.specs.Prelude.{ℕ, zero, suc, ◌==◌, ◌++◌, Bool, true, false, List, [], ◌∷◌, length, Option, Some, None, option_map, nat_lt, slice_get}
use Rattle.es_model.specs.Tree.{Text}
use Rattle.es_ops.specs.State.{TraceEvent}
use Rattle.es_ops.specs.Host.{line_events}
use Rattle.byte_code.specs.declared.instruction.Op.{Op}
use Rattle.byte_code.specs.declared.instruction.Op.TheVariants as op
use Rattle.xs_cli.specs.declared.machine.stack.Value.{Value}
use Rattle.xs_cli.specs.declared.machine.stack.Value.TheVariants as v

pub data Stepped : Type 0 where
  Goes : List Value → List TraceEvent → Stepped
  Returned : Stepped
  Stuck : Stepped

abbrev pub most_operands : ℕ
most_operands = 3

abbrev pub pushed_by : Bool → Value → List Value → Stepped
pushed_by true value stack = Goes (value ∷ stack) []
pushed_by false value stack = Stuck

abbrev pub pushed : Value → List Value → Stepped
pushed value stack = pushed_by (nat_lt (length stack) most_operands) value stack

abbrev pub popped : List Value → Stepped
popped [] = Stuck
popped (value ∷ stack) = Goes stack []

-- the text of a name's number
abbrev pub name_at : List Text → ℕ → Option Text
name_at names zero = None
name_at names (suc n) = slice_get names n

abbrev pub printed_by : Bool → Text → List Value → Stepped
printed_by true text stack = Goes (v.Undefined ∷ stack) (line_events text)
printed_by false text stack = Stuck

abbrev pub printed : Option Text → List Value → Stepped
printed None stack = Stuck
printed (Some text) stack = printed_by (nat_lt (length stack) most_operands) text stack

-- a call with one argument
abbrev pub called : List Text → List Value → Stepped
called names (v.Text name ∷ v.Print ∷ this ∷ stack) = printed (name_at names name) stack
called names _ = Stuck

abbrev pub called_by : Bool → List Text → List Value → Stepped
called_by true names stack = called names stack
called_by false names stack = Stuck

-- the outer list holds print alone
abbrev pub outer_by : Bool → List Value → Stepped
outer_by true stack = pushed v.Print stack
outer_by false stack = Stuck

abbrev pub returned : List Value → Stepped
returned [] = Stuck
returned (value ∷ stack) = Returned

abbrev pub step : List Text → Op → List Value → Stepped
step names op.Undefined stack = pushed v.Undefined stack
step names (op.Text name) stack = pushed (v.Text name) stack
step names op.Pop stack = popped stack
step names (op.OuterGet outer) stack = outer_by (outer == 0) stack
step names (op.Call count) stack = called_by (count == 1) names stack
step names op.Return stack = returned stack
step names _ stack = Stuck

abbrev pub after : Stepped → (List Value → Option (List TraceEvent)) → Option (List TraceEvent)
after (Goes stack events) rest = option_map (λ later. events ++ later) (rest stack)
after Returned rest = Some []
after Stuck rest = None

-- what the instructions write from this stack on, or None where they get stuck or end without a return
unfoldable pub runs : List Text → List Op → List Value → Option (List TraceEvent)
runs names [] stack = None
runs names (op ∷ ops) stack = after (step names op stack) (runs names ops)
