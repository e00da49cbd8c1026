-- The cells of captured bindings (ECMA-262 9.1.1.1). The cells of other bindings are no part of the store.
use Rattle.std.specs.Prelude.{ℕ, Bool, cond, ◌&&◌, Option, Some, None, is_some}
use Rattle.js_value.specs.Value.{Value}
use Rattle.js_value.specs.Store.{ACell, CellRecord}
use Rattle.es_ops.specs.Messages.{NotInitialised, AssignmentToConstant}
use Rattle.es_ops.specs.Events.{TheCell, Make, SetCell}
use Rattle.es_ops.specs.Act.{Act, Ask, Do}
use Rattle.es_ops.specs.Errors.{raise}

-- CreateMutableBinding, CreateImmutableBinding (9.1.1.1.2, 9.1.1.1.3): a cell that isn't initialised
unfoldable pub make_cell : (const : Bool) → (ℕ → Act) → Act
make_cell const k = Do (Make (ACell (record { value = None; const = const }))) k

-- InitializeBinding (9.1.1.1.4). Own rule: a const binding is initialised once.
abbrev pub is_settled : CellRecord → Bool
is_settled cell = cell.const && is_some cell.value

unfoldable pub initialize_cell : ℕ → Value → Act → Act
initialize_cell c v k = Ask (TheCell c) (λ cell. cond (is_settled cell) (raise AssignmentToConstant) (Do (SetCell c v) (λ _. k)))

-- GetBindingValue (9.1.1.1.6)
abbrev pub value_or_raise : Option Value → (Value → Act) → Act
value_or_raise None k = raise NotInitialised
value_or_raise (Some v) k = k v

unfoldable pub read_cell : ℕ → (Value → Act) → Act
read_cell c k = Ask (TheCell c) (λ cell. value_or_raise cell.value k)

-- SetMutableBinding (9.1.1.1.5)
unfoldable pub write_cell : ℕ → Value → Act → Act
write_cell c v k = Ask (TheCell c) (λ cell. value_or_raise cell.value (λ old. cond cell.const (raise AssignmentToConstant) (Do (SetCell c v) (λ _. k))))

-- a fresh copy of a loop's binding (CreatePerIterationEnvironment, 14.7.4.4)
unfoldable pub copy_cell : ℕ → (ℕ → Act) → Act
copy_cell c k = Ask (TheCell c) (λ cell. Do (Make (ACell cell)) k)
