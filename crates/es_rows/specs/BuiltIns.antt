-- The built-in functions by their rows, 1 to 92: what a call of one does once the rules of calling let it in.
use Rattle.std.specs.Prelude.{ℕ, nat_lt, nat_eq, cond, List, Option}
use Rattle.js_value.specs.Value.{Value}
use Rattle.es_ops.specs.Act.{Act, Give}
use Rattle.es_ops.specs.HostCalls.{print, read}
use Rattle.es_rows.specs.Arguments.{first}
use Rattle.es_rows.specs.Object.{object_row}
use Rattle.es_rows.specs.Function.{function_row}
use Rattle.es_rows.specs.Error.{error_row}
use Rattle.es_rows.specs.Boolean.{boolean_row}
use Rattle.es_rows.specs.Number.{number_row}
use Rattle.es_rows.specs.Math.{math_row}
use Rattle.es_rows.specs.Promise.{promise_row}
use Rattle.es_rows.specs.String.{string_row}
use Rattle.es_rows.specs.Array.{array_row}

-- the functions of the module `host` (own): 51 and 52
unfoldable pub host_row : (n : ℕ) → (function : ℕ) → (target : Option Value) → (this : Value) → (arguments : List Value) → Act
host_row n function target this arguments = cond (nat_eq n 51) (print (first arguments) Give) (read Give)

-- `function` is the function that is called, and `target` the new target where it is constructed
unfoldable pub row : (n : ℕ) → (function : ℕ) → (target : Option Value) → (this : Value) → (arguments : List Value) → Act
row n function target this arguments =
    cond (nat_lt n 21) (object_row n function target this arguments)
    (cond (nat_lt n 25) (function_row n function target this arguments)
    (cond (nat_lt n 31) (error_row n function target this arguments)
    (cond (nat_lt n 33) (boolean_row n function target this arguments)
    (cond (nat_lt n 38) (number_row n function target this arguments)
    (cond (nat_lt n 44) (math_row n function target this arguments)
    (cond (nat_lt n 51) (promise_row n function target this arguments)
    (cond (nat_lt n 53) (host_row n function target this arguments)
    (cond (nat_lt n 70) (string_row n function target this arguments)
    (array_row n function target this arguments)))))))))
