-- The functions of Function, of the kinds of errors, of Boolean, and of the module `host` are the same but for the numbers of
-- things.
use Rattle.std.proofs.Common.{ℕ, zero, suc, Bool, true, false, List, [], ◌∷◌, ◌++◌, nat_lt, refl, Option, codes}
use Rattle.js_value.specs.Value.{Value, Boolean, Text, Named}
use Rattle.js_value.specs.Literal.{digits_number}
use Rattle.js_value.specs.Order.{AreUnits, IsString, IsOrderly}
use Rattle.js_value.proofs.Profile.{string_tested, text_of_number_is_string}
use Rattle.es_ops.specs.Intrinsics.{Intrinsic, ErrorPrototype, RangeErrorPrototype, ReferenceErrorPrototype, SyntaxErrorPrototype, TypeErrorPrototype}
use Rattle.es_ops.specs.Messages.{InvalidArgument, NotAConstructor, WrongReceiver}
use Rattle.es_ops.specs.Act.{Act, Give}
use Rattle.es_ops.specs.Errors.{message_name}
use Rattle.es_ops.specs.PropertyWrites.{define_property_or_throw}
use Rattle.es_ops.specs.Conversions.{number_expected, text_of_primitive}
use Rattle.es_ops.specs.Related.{Naming, BothOption, BothNone, BothSome, BothList, BothEmpty, BothCons, BothValue, BothUndefined, BothNull, BothBoolean, BothNumber, BothString, BothObject, BothError, BothAnObject, BothDescriptor, Related, BothGive, BothTurn, BothCall, Then, ThenSame}
use Rattle.es_ops.proofs.Acting.{do_make}
use Rattle.es_ops.proofs.Parts.{cond_related}
use Rattle.es_ops.proofs.ReadsRelated.{raise_related, get_related, make_text_related, made_text_related, units_joined, number_expected_related, text_expected_related}
use Rattle.es_ops.proofs.WritesRelated.{define_or_throw_related}
use Rattle.es_ops.proofs.CallingRelated.{prototype_from_related}
use Rattle.es_ops.proofs.HostRelated.{print_related, read_related}
use Rattle.es_rows.specs.Function.{function_constructor, function_prototype, call, most_arguments, list_from, list_from_array_like, list_of_arguments, apply, function_row}
use Rattle.es_rows.specs.Error.{new_target_or, bare_error, message_text, hidden_descriptor, with_message, error, text_or, error_text, to_string, error_row}
use Rattle.es_rows.specs.Boolean.{boolean, to_string as boolean_to_string, boolean_row}
use Rattle.es_rows.specs.BuiltIns.{host_row}
use Rattle.es_rows.proofs.ArgumentsRelated.{first_related, second_related, rest_related, object_expected_related, callable_expected_related, BuiltInRelated, BothEnd, BothRow, call_row_related}
use Rattle.es_rows.proofs.KeysRelated.{to_boolean_same}
use Rattle.es_rows.proofs.ArrayLikesRelated.{length_related, get_index_related}

given : {R : Naming} → Then R (BothValue R) Give Give
given v w b = BothGive b

-- ---- Function

function_constructor_related : {R : Naming} → BuiltInRelated R function_constructor function_constructor
unfolding function_constructor
function_constructor_related a x vs ws p q = raise_related NotAConstructor

function_prototype_related : {R : Naming} → BuiltInRelated R function_prototype function_prototype
unfolding function_prototype
function_prototype_related a x vs ws p q = BothGive BothUndefined

call_related : {R : Naming} → BuiltInRelated R call call
unfolding call
call_related a x vs ws p q = callable_expected_related _ _ _ _ p (BothCall p (first_related q) (rest_related q) BothNone given)

one_more : {R : Naming} {vs ws : List Value} {v w : Value} → BothList (BothValue R) vs ws → BothValue R v w → BothList (BothValue R) (vs ++ v ∷ []) (ws ++ w ∷ [])
one_more BothEmpty b = BothCons b BothEmpty
one_more (BothCons h hs) b = BothCons h (one_more hs b)

list_from_related : {R : Naming} (m n count at : ℕ) {vs ws : List Value} {k l : List Value → Act} → R m n → BothList (BothValue R) vs ws → Then R (BothList (BothValue R)) k l → Related R (list_from m count at vs k) (list_from n count at ws l)
list_from_related m n zero at r b h = h _ _ b
list_from_related m n (suc count) at r b h = BothTurn (get_index_related m n at _ _ r (λ v w e. list_from_related m n count (suc at) r (one_more b e) h))

list_from_array_like_related : {R : Naming} (m n : ℕ) (k l : List Value → Act) → R m n → Then R (BothList (BothValue R)) k l → Related R (list_from_array_like m k) (list_from_array_like n l)
list_from_array_like_related m n k l r h = length_related m n _ _ r (λ size i. cond_related (nat_lt most_arguments size) _ _ _ _ (raise_related InvalidArgument) (list_from_related m n size 0 r BothEmpty h))

list_of_arguments_related : {R : Naming} {v w : Value} (k l : List Value → Act) → BothValue R v w → Then R (BothList (BothValue R)) k l → Related R (list_of_arguments v k) (list_of_arguments w l)
list_of_arguments_related k l BothUndefined h = h _ _ BothEmpty
list_of_arguments_related k l BothNull h = h _ _ BothEmpty
list_of_arguments_related k l (BothBoolean {b = b}) h = object_expected_related _ _ _ _ (BothBoolean {b = b}) (λ m n r. list_from_array_like_related m n k l r h)
list_of_arguments_related k l (BothNumber i) h = object_expected_related _ _ _ _ (BothNumber i) (λ m n r. list_from_array_like_related m n k l r h)
list_of_arguments_related k l (BothString i) h = object_expected_related _ _ _ _ (BothString i) (λ m n r. list_from_array_like_related m n k l r h)
list_of_arguments_related k l (BothObject s) h = object_expected_related _ _ _ _ (BothObject s) (λ m n r. list_from_array_like_related m n k l r h)

apply_related : {R : Naming} → BuiltInRelated R apply apply
unfolding apply
apply_related a x vs ws p q = callable_expected_related _ _ _ _ p (list_of_arguments_related _ _ (second_related q) (λ us ts b. BothCall p (first_related q) b BothNone given))

pub function_row_related : {R : Naming} (n f g : ℕ) (s t : Option Value) → BuiltInRelated R (function_row n f s) (function_row n g t)
unfolding function_row
function_row_related n f g s t = call_row_related (BothRow function_constructor_related (BothRow function_prototype_related (BothRow call_related (BothRow apply_related BothEnd)))) n

-- ---- errors

new_target_related : {R : Naming} (f g : ℕ) {s t : Option Value} → R f g → BothOption (BothValue R) s t → BothValue R (new_target_or f s) (new_target_or g t)
new_target_related f g r BothNone = BothObject r
new_target_related f g r (BothSome b) = b

message_text_related : {R : Naming} {v w : Value} (k l : Value → Act) → BothValue R v w → Then R (BothValue R) k l → Related R (message_text v k) (message_text w l)
message_text_related k l (BothNumber {n = n} i) h = make_text_related _ _ _ (text_of_number_is_string n) h
message_text_related k l BothUndefined h = text_expected_related _ _ _ _ BothUndefined (λ t i. h _ _ (BothString i))
message_text_related k l BothNull h = text_expected_related _ _ _ _ BothNull (λ t i. h _ _ (BothString i))
message_text_related k l BothBoolean h = text_expected_related _ _ _ _ BothBoolean (λ t i. h _ _ (BothString i))
message_text_related k l (BothString s) h = text_expected_related _ _ _ _ (BothString s) (λ t i. h _ _ (BothString i))
message_text_related k l (BothObject r) h = text_expected_related _ _ _ _ (BothObject r) (λ t i. h _ _ (BothString i))

hidden_descriptor_related : {R : Naming} {v w : Value} → BothValue R v w → BothDescriptor R (hidden_descriptor v) (hidden_descriptor w)
hidden_descriptor_related b = record { value = BothSome b; writable = refl; get = BothNone; set = BothNone; enumerable = refl; configurable = refl }

defined_message : {R : Naming} (m n : ℕ) {v w : Value} {k l : Act} → R m n → BothValue R v w → Related R k l → Related R (define_property_or_throw number_expected m (Named message_name) (hidden_descriptor v) k) (define_property_or_throw number_expected n (Named message_name) (hidden_descriptor w) l)
unfolding digits_number
defined_message m n r b h = define_or_throw_related _ (λ v w k l. number_expected_related v w k l) m n (Named message_name) _ _ _ _ r (record { text = string_tested _ refl; no_index = refl }) (hidden_descriptor_related b) h

with_message_related : {R : Naming} (m n : ℕ) {v w : Value} {k l : Act} → R m n → BothValue R v w → Related R k l → Related R (with_message m v k) (with_message n w l)
with_message_related m n r BothUndefined h = h
with_message_related m n r BothNull h = message_text_related _ _ BothNull (λ v w b. defined_message m n r b h)
with_message_related m n r BothBoolean h = message_text_related _ _ BothBoolean (λ v w b. defined_message m n r b h)
with_message_related m n r (BothNumber i) h = message_text_related _ _ (BothNumber i) (λ v w b. defined_message m n r b h)
with_message_related m n r (BothString i) h = message_text_related _ _ (BothString i) (λ v w b. defined_message m n r b h)
with_message_related m n r (BothObject s) h = message_text_related _ _ (BothObject s) (λ v w b. defined_message m n r b h)

bare_error_orderly : (p : ℕ) → IsOrderly (bare_error p)
bare_error_orderly p = record { indices = tt; range = tt; length = tt; names = tt; distinct = tt; no_length = tt }

error_related : {R : Naming} (i : Intrinsic) (f g : ℕ) (s t : Option Value) → R f g → BothOption (BothValue R) s t → BuiltInRelated R (error i f s) (error i g t)
unfolding error
error_related i f g s t r e a x vs ws p q = prototype_from_related i _ _ (new_target_related f g r e) (λ m n o. do_make (BothAnObject (record { class = BothError; prototype = BothSome o; extensible = refl; indexed = BothEmpty; named = BothEmpty })) (bare_error_orderly m) (λ c d u. with_message_related c d u (first_related q) (BothGive (BothObject u))))

text_or_related : {R : Naming} (default : Text) {v w : Value} (k l : Text → Act) → IsString default → BothValue R v w → ThenSame R IsString k l → Related R (text_or default v k) (text_or default w l)
text_or_related default k l i BothUndefined h = h default i
text_or_related default k l i BothNull h = text_expected_related _ _ k l BothNull h
text_or_related default k l i BothBoolean h = text_expected_related _ _ k l BothBoolean h
text_or_related default k l i (BothNumber n) h = text_expected_related _ _ k l (BothNumber n) h
text_or_related default k l i (BothString s) h = text_expected_related _ _ k l (BothString s) h
text_or_related default k l i (BothObject r) h = text_expected_related _ _ k l (BothObject r) h

error_text_units : (name message : Text) → AreUnits name → AreUnits message → AreUnits (error_text name message)
error_text_units [] message u w = w
error_text_units (n ∷ ns) [] u w = u
error_text_units (n ∷ ns) (m ∷ ms) u w = units_joined ((n ∷ ns) ++ codes ": ") (m ∷ ms) (units_joined (n ∷ ns) (codes ": ") u (string_tested (codes ": ") refl).units) w

to_string_related : {R : Naming} → BuiltInRelated R to_string to_string
unfolding to_string
to_string_related a x vs ws p q =
    object_expected_related _ _ _ _ p (λ m n r.
    get_related m n (Named (codes "name")) _ _ r (λ c d b. text_or_related (codes "Error") _ _ (string_tested _ refl) b (λ name i.
    get_related m n (Named message_name) _ _ r (λ e f g. text_or_related [] _ _ (string_tested _ refl) g (λ message j.
    made_text_related (error_text name message) _ _ (error_text_units name message i.units j.units) given)))))

pub error_row_related : {R : Naming} (n f g : ℕ) (s t : Option Value) → R f g → BothOption (BothValue R) s t → BuiltInRelated R (error_row n f s) (error_row n g t)
unfolding error_row
error_row_related n f g s t r e = call_row_related
    (BothRow (error_related ErrorPrototype f g s t r e) (BothRow (error_related RangeErrorPrototype f g s t r e)
    (BothRow (error_related ReferenceErrorPrototype f g s t r e) (BothRow (error_related SyntaxErrorPrototype f g s t r e)
    (BothRow (error_related TypeErrorPrototype f g s t r e) (BothRow to_string_related BothEnd)))))) n

-- ---- Boolean

boolean_related : {R : Naming} → BuiltInRelated R boolean boolean
unfolding boolean
boolean_related a x vs ws p q = rw (to_boolean_same (first_related q)) (BothGive BothBoolean)

boolean_text_is_string : (b : Bool) → IsString (text_of_primitive (Boolean b))
boolean_text_is_string true = string_tested _ refl
boolean_text_is_string false = string_tested _ refl

boolean_to_string_related : {R : Naming} → BuiltInRelated R boolean_to_string boolean_to_string
unfolding boolean_to_string
boolean_to_string_related a x vs ws (BothBoolean {b = b}) q = BothGive (BothString (boolean_text_is_string b))
boolean_to_string_related a x vs ws BothUndefined q = raise_related WrongReceiver
boolean_to_string_related a x vs ws BothNull q = raise_related WrongReceiver
boolean_to_string_related a x vs ws (BothNumber i) q = raise_related WrongReceiver
boolean_to_string_related a x vs ws (BothString i) q = raise_related WrongReceiver
boolean_to_string_related a x vs ws (BothObject r) q = raise_related WrongReceiver

pub boolean_row_related : {R : Naming} (n f g : ℕ) (s t : Option Value) → BuiltInRelated R (boolean_row n f s) (boolean_row n g t)
unfolding boolean_row
boolean_row_related n f g s t = call_row_related (BothRow boolean_related (BothRow boolean_to_string_related BothEnd)) n

-- ---- the module `host`

pub host_row_related : {R : Naming} (n f g : ℕ) (s t : Option Value) → BuiltInRelated R (host_row n f s) (host_row n g t)
unfolding host_row
host_row_related n f g s t a x vs ws p q = cond_related _ _ _ _ _ (print_related _ _ Give Give (first_related q) given) (read_related Give Give given)
