-- Throwing one of the engine's errors, and making a text.
use Rattle.std.specs.Prelude.{ℕ, true, false, cond, [], ◌∷◌, length, nat_lt, Some, codes}
use Rattle.js_value.specs.Value.{Value, Object, String, Text}
use Rattle.js_value.specs.Store.{AnObject, ObjectRecord, Error, Property, Data}
use Rattle.es_ops.specs.Messages.{Message, StringTooLong, kind_of_message, text_of_message}
use Rattle.es_ops.specs.Intrinsics.{error_prototype}
use Rattle.es_ops.specs.Events.{TheIntrinsic, Make, MakeText}
use Rattle.es_ops.specs.Act.{Act, Throw, Ask, Do}

-- ---- errors (20.5)

-- writable and configurable, and not enumerable
abbrev pub hidden : Value → Property
hidden v = record { content = Data v true; enumerable = false; configurable = true }

abbrev pub message_name : Text
message_name = codes "message"

abbrev pub error_record : (prototype : ℕ) → Text → ObjectRecord
error_record prototype text = record { class = Error; prototype = Some prototype; extensible = true; indexed = []; named = (message_name, hidden (String text)) ∷ [] }

unfoldable pub make_error : Message → (ℕ → Act) → Act
make_error m k = Ask (TheIntrinsic (error_prototype (kind_of_message m))) (λ p. Do (Make (AnObject (error_record p (text_of_message m)))) k)

unfoldable pub raise : Message → Act
raise m = make_error m (λ e. Throw (Object e))

-- ---- made texts (own)

abbrev pub longest_text : ℕ
longest_text = 1048576

unfoldable pub make_text : Text → (Value → Act) → Act
make_text t k = cond (nat_lt longest_text (length t)) (raise StringTooLong) (Do (MakeText (length t)) (λ _. k (String t)))
