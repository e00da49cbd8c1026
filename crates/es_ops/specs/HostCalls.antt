-- The two functions of the module `host` (own rules).
use Rattle.std.specs.Prelude.{ℕ, zero, suc, cond, ◌==◌, List, [], ◌∷◌, ◌++◌, map, Option, Some, None}
use Rattle.js_value.specs.Text.{units, utf8}
use Rattle.js_value.specs.Value.{Value, Undefined, Null}
use Rattle.es_ops.specs.Ledger.{NoHost}
use Rattle.es_ops.specs.Events.{TheInput, Write, Take}
use Rattle.es_ops.specs.Act.{Act, Halt, Ask, Do}
use Rattle.es_ops.specs.Errors.{make_text}
use Rattle.es_ops.specs.Conversions.{text_expected}
use Rattle.es_ops.specs.Host.{pieces, line_feed}

-- a call of either where there is no host stops the run
abbrev pub with_host : Option (List ℕ) → (List ℕ → Act) → Act
with_host None k = Halt NoHost
with_host (Some input) k = k input

-- print(x) writes the text of a primitive and a line feed, piece by piece
abbrev pub write_all : List (List ℕ) → Act → Act
write_all [] k = k
write_all (bytes ∷ more) k = Do (Write bytes) (λ _. write_all more k)

unfoldable pub print : Value → (Value → Act) → Act
print v k = Ask TheInput (λ host. with_host host (λ input. text_expected v (λ t. write_all (map utf8 (pieces (t ++ line_feed ∷ []))) (k Undefined))))

-- read() gives the next line: what stands before a line feed among the next 65,535 bytes, or these bytes, or all that are left.
-- The pair has the line's bytes and those after it.
abbrev pub with_byte : ℕ → List ℕ × List ℕ → List ℕ × List ℕ
with_byte byte cut = (byte ∷ cut.0, cut.1)

abbrev pub next_line : (most : ℕ) → List ℕ → List ℕ × List ℕ
next_line zero bytes = ([], bytes)
next_line (suc most) [] = ([], [])
next_line (suc most) (byte ∷ bytes) = cond (byte == line_feed) ([], bytes) (with_byte byte (next_line most bytes))

abbrev pub longest_line : ℕ
longest_line = 65535

abbrev pub take_line : List ℕ × List ℕ → (Value → Act) → Act
take_line cut k = Do (Take (units cut.0) cut.1) (λ _. make_text (units cut.0) k)

abbrev pub read_line : List ℕ → (Value → Act) → Act
read_line [] k = k Null
read_line (byte ∷ bytes) k = take_line (next_line longest_line (byte ∷ bytes)) k

unfoldable pub read : (Value → Act) → Act
read k = Ask TheInput (λ host. with_host host (λ input. read_line input k))
