-- What a built-in function takes of its arguments (ECMA-262 10.3.3): those that are absent are undefined, and numbers, texts
-- and keys come from primitives (own: es_ops' number_expected, text_expected and key_expected).
use Rattle.std.specs.Prelude.{ℕ, cond, ℤ, List, get_or}
use Rattle.js_value.specs.Value.{Value, Undefined, Object}
use Rattle.es_ops.specs.Messages.{NotAnObject, NotAFunction}
use Rattle.es_ops.specs.Act.{Act}
use Rattle.es_ops.specs.Errors.{raise}
use Rattle.es_ops.specs.PropertyReads.{is_callable}
use Rattle.es_ops.specs.Conversions.{number_expected}

abbrev pub argument : List Value → (place : ℕ) → Value
argument arguments place = get_or arguments place Undefined

abbrev pub first : List Value → Value
first arguments = argument arguments 0

abbrev pub second : List Value → Value
second arguments = argument arguments 1

abbrev pub third : List Value → Value
third arguments = argument arguments 2

-- ToIntegerOrInfinity (7.1.5) of a position: where it is undefined it is the default that the function's algorithm has
abbrev pub position_or : (default : ℤ) → Value → (ℤ → Act) → Act
position_or default Undefined k = k default
position_or default v k = number_expected v k

-- an object, or the error for a value that is none
abbrev pub object_expected : Value → (ℕ → Act) → Act
object_expected (Object n) k = k n
object_expected v k = raise NotAnObject

-- a value that is callable, or the error
abbrev pub callable_expected : Value → Act → Act
callable_expected v k = is_callable v (λ callable. cond callable k (raise NotAFunction))
