-- Built-in functions by their rows.
use Rattle.std.specs.Prelude.{ℕ, nat_eq, List, Option, Some, None}
use Rattle.js_value.specs.Value.{Value, Undefined}
use Rattle.js_value.specs.Store.{found}
use Rattle.es_ops.specs.Act.{Act, Give}

-- of a receiver and arguments
abbrev pub BuiltIn : Type 0
BuiltIn = (this : Value) → (arguments : List Value) → Act

-- a number that the table doesn't have gives undefined (own)
abbrev pub call_found : Option BuiltIn → (this : Value) → (arguments : List Value) → Act
call_found None this arguments = Give Undefined
call_found (Some f) this arguments = f this arguments

abbrev pub call_row : List (ℕ × BuiltIn) → (row : ℕ) → (this : Value) → (arguments : List Value) → Act
call_row table row this arguments = call_found (found (nat_eq row) table) this arguments
