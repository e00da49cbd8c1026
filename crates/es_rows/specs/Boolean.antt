-- The Boolean function and Boolean.prototype.toString (ECMA-262 20.3): rows 31 and 32.
use Rattle.std.specs.Prelude.{ℕ, List, [], ◌∷◌, Option}
use Rattle.js_value.specs.Value.{Value, Boolean, String}
use Rattle.es_ops.specs.Messages.{WrongReceiver}
use Rattle.es_ops.specs.Act.{Act, Give}
use Rattle.es_ops.specs.Errors.{raise}
use Rattle.es_ops.specs.Conversions.{to_boolean, text_of_primitive}
use Rattle.es_rows.specs.Arguments.{first}
use Rattle.es_rows.specs.Table.{BuiltIn, call_row}

-- 31, Boolean (20.3.1.1). Own: it is no constructor.
unfoldable pub boolean : BuiltIn
boolean this arguments = Give (Boolean (to_boolean (first arguments)))

-- 32, Boolean.prototype.toString (20.3.3.2): ThisBooleanValue (20.3.3.3.1)
unfoldable pub to_string : BuiltIn
to_string (Boolean b) arguments = Give (String (text_of_primitive (Boolean b)))
to_string this arguments = raise WrongReceiver

-- ---- the rows

abbrev pub boolean_functions : List (ℕ × BuiltIn)
boolean_functions = (31, boolean) ∷ (32, to_string) ∷ []

unfoldable pub boolean_row : (n : ℕ) → (function : ℕ) → (target : Option Value) → (this : Value) → (arguments : List Value) → Act
boolean_row n function target this arguments = call_row boolean_functions n this arguments
