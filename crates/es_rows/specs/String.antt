-- The String constructor and the methods of String.prototype (ECMA-262 22.1), rows 53 to 69.
use Rattle.std.specs.Prelude.{ℕ, ◌-◌, ◌*◌, min, max, Bool, false, cond, is_some, nat_le, nat_lt, List, [], ◌∷◌, ◌++◌, length, take, drop, ℤ, pos, negsuc, Option, Some, None, slice_get, codes}
use Rattle.js_value.specs.Value.{Value, Undefined, Null, Boolean, Number, String, Object, Text, same_text}
use Rattle.js_value.specs.Word.{residue}
use Rattle.js_value.specs.NumberText.{text_of_number}
use Rattle.js_value.specs.Literal.{trim_start, trim_end}
use Rattle.es_ops.specs.Messages.{NumberOutOfRange, StringTooLong, InvalidArgument, NoProperties, PrimitiveExpected, WrongReceiver}
use Rattle.es_ops.specs.Act.{Act, Give}
use Rattle.es_ops.specs.Errors.{raise, make_text, longest_text}
use Rattle.es_ops.specs.Conversions.{number_expected, text_expected}
use Rattle.es_ops.specs.Making.{make_array, append}
use Rattle.es_rows.specs.Arguments.{first, second, position_or}
use Rattle.es_rows.specs.Positions.{clamped_position, relative_position, count_expected}
use Rattle.es_rows.specs.Table.{BuiltIn, call_row}
use Rattle.es_rows.specs.Texts.{substring, begins_with, string_index_of, first_code_point, copies, filled, pieces_of}

-- ---- the constructor

-- 53, String (22.1.1.1). Own: a text is made of a number alone, and an object is refused.
abbrev pub string_of : Value → Act
string_of (Number n) = make_text (text_of_number n) Give
string_of v = text_expected v (λ t. Give (String t))

unfoldable pub string : Value → List Value → Act
string this [] = Give (String [])
string this (v ∷ vs) = string_of v

-- 54, String.fromCharCode (22.1.2.1)
abbrev pub append_units : List Value → (before : Text) → Act
append_units [] before = make_text before Give
append_units (v ∷ vs) before = number_expected v (λ n. append_units vs (before ++ residue n 65536 ∷ []))

unfoldable pub from_char_code : Value → List Value → Act
from_char_code this arguments = append_units arguments []

-- ---- the receiver of a method: RequireObjectCoercible (7.2.1) and ToString; own: an object is refused

unfoldable pub this_text : Value → (Text → Act) → Act
this_text Undefined k = raise NoProperties
this_text Null k = raise NoProperties
this_text v k = text_expected v k

-- ---- units

-- the index that a position is, where the text has a unit there
abbrev pub unit_at : Text → ℤ → Option ℕ
unit_at t (pos n) = slice_get t n
unit_at t (negsuc n) = None

-- 55, charAt (22.1.3.1): the empty text where there is no unit
abbrev pub text_of_unit : Option ℕ → Text
text_of_unit None = []
text_of_unit (Some u) = u ∷ []

unfoldable pub char_at : Value → List Value → Act
char_at this arguments = this_text this (λ t. position_or (pos 0) (first arguments) (λ n. make_text (text_of_unit (unit_at t n)) Give))

-- 56, charCodeAt (22.1.3.3). Own: where the standard gives NaN, it throws.
abbrev pub unit_or_raise : Option ℕ → Act
unit_or_raise None = raise NumberOutOfRange
unit_or_raise (Some u) = Give (Number (pos u))

unfoldable pub char_code_at : Value → List Value → Act
char_code_at this arguments = this_text this (λ t. position_or (pos 0) (first arguments) (λ n. unit_or_raise (unit_at t n)))

-- 57, codePointAt (22.1.3.4)
abbrev pub from_unit : Text → ℤ → Text
from_unit t (pos n) = drop n t
from_unit t (negsuc n) = []

abbrev pub number_or_undefined : Option ℕ → Value
number_or_undefined None = Undefined
number_or_undefined (Some n) = Number (pos n)

unfoldable pub code_point_at : Value → List Value → Act
code_point_at this arguments =
    this_text this (λ t. position_or (pos 0) (first arguments) (λ n. Give (number_or_undefined (first_code_point (from_unit t n)))))

-- ---- searches

-- 58, endsWith (22.1.3.7)
abbrev pub ends_with_at : (t search : Text) → (end : ℕ) → Bool
ends_with_at t search end = cond (nat_le (length search) end) (same_text (substring t (end - length search) end) search) false

unfoldable pub ends_with : Value → List Value → Act
ends_with this arguments =
    this_text this (λ t.
    text_expected (first arguments) (λ search.
    clamped_position (length t) (second arguments) (length t) (λ end. Give (Boolean (ends_with_at t search end)))))

-- the index at which the first argument stands, from the position of the second one on
abbrev pub searched : Value → List Value → (Option ℕ → Act) → Act
searched this arguments k =
    this_text this (λ t.
    text_expected (first arguments) (λ search.
    clamped_position 0 (second arguments) (length t) (λ start. k (string_index_of t search start))))

-- 59, includes (22.1.3.8)
unfoldable pub includes : Value → List Value → Act
includes this arguments = searched this arguments (λ at. Give (Boolean (is_some at)))

-- 60, indexOf (22.1.3.9)
abbrev pub index_or_minus_one : Option ℕ → Value
index_or_minus_one None = Number (negsuc 0)
index_or_minus_one (Some n) = Number (pos n)

unfoldable pub index_of : Value → List Value → Act
index_of this arguments = searched this arguments (λ at. Give (index_or_minus_one at))

-- 66, startsWith (22.1.3.24)
unfoldable pub starts_with : Value → List Value → Act
starts_with this arguments =
    this_text this (λ t.
    text_expected (first arguments) (λ search.
    clamped_position 0 (second arguments) (length t) (λ start. Give (Boolean (begins_with search (drop start t))))))

-- ---- longer texts: one that would be too long is refused before it is built

-- 61 and 62, padEnd (22.1.3.16) and padStart (22.1.3.17): StringPaddingBuiltinsImpl (22.1.3.17.1), StringPad (22.1.3.17.2)
pub data Placement : Type 0 where
  AtStart : Placement
  AtEnd : Placement

abbrev pub joined_with : Placement → (t filler : Text) → Text
joined_with AtStart t filler = filler ++ t
joined_with AtEnd t filler = t ++ filler

abbrev pub pad_with : Placement → (t : Text) → (size : ℕ) → (fill : Text) → Act
pad_with placement t size [] = make_text t Give
pad_with placement t size (u ∷ us) =
    cond (nat_lt longest_text size) (raise StringTooLong) (make_text (joined_with placement t (filled (size - length t) (u ∷ us))) Give)

-- the fill is a space where it is undefined
abbrev pub fill_expected : Value → (Text → Act) → Act
fill_expected Undefined k = k (codes " ")
fill_expected v k = text_expected v k

abbrev pub pad : Placement → Value → List Value → Act
pad placement this arguments =
    this_text this (λ t.
    count_expected (first arguments) (λ size.
    cond (nat_le size (length t)) (make_text t Give) (fill_expected (second arguments) (pad_with placement t size))))

unfoldable pub pad_end : Value → List Value → Act
pad_end this arguments = pad AtEnd this arguments

unfoldable pub pad_start : Value → List Value → Act
pad_start this arguments = pad AtStart this arguments

-- 63, repeat (22.1.3.18)
abbrev pub repeated : Text → ℤ → Act
repeated t (negsuc n) = raise InvalidArgument
repeated [] (pos n) = make_text [] Give
repeated (u ∷ us) (pos n) =
    cond (nat_lt longest_text (n * length (u ∷ us))) (raise StringTooLong) (make_text (copies n (u ∷ us)) Give)

unfoldable pub repeat : Value → List Value → Act
repeat this arguments = this_text this (λ t. position_or (pos 0) (first arguments) (repeated t))

-- ---- parts

-- 64, slice (22.1.3.22)
unfoldable pub slice : Value → List Value → Act
slice this arguments =
    this_text this (λ t.
    relative_position 0 (first arguments) (length t) (λ from.
    relative_position (length t) (second arguments) (length t) (λ to. make_text (substring t from to) Give)))

-- 67, substring (22.1.3.25): from the lesser position to the greater one
unfoldable pub substring_between : Value → List Value → Act
substring_between this arguments =
    this_text this (λ t.
    clamped_position 0 (first arguments) (length t) (λ start.
    clamped_position (length t) (second arguments) (length t) (λ end. make_text (substring t (min start end) (max start end)) Give)))

-- 65, split (22.1.3.23). Own order: the array is made first, then each piece as a text and its element.
abbrev pub append_texts : (array : ℕ) → List Text → Act
append_texts array [] = Give (Object array)
append_texts array (t ∷ ts) = make_text t (λ v. append (Object array) v (append_texts array ts))

-- step 4: ToUint32 (7.1.7)
abbrev pub limit_expected : Value → (ℕ → Act) → Act
limit_expected Undefined k = k 4294967295
limit_expected v k = number_expected v (λ n. k (residue n 4294967296))

-- steps 7 to 17
abbrev pub pieces_by : (separator : Value) → (text : Text) → Text → List Text
pieces_by Undefined text t = t ∷ []
pieces_by separator text t = pieces_of text t

-- step 6 and the limit of the others
abbrev pub split_by : (separator : Value) → (text : Text) → Text → (limit : ℕ) → Act
split_by separator text t limit = make_array (λ array. append_texts array (take limit (pieces_by separator text t)))

unfoldable pub split : Value → List Value → Act
split this arguments =
    this_text this (λ t.
    limit_expected (second arguments) (λ limit.
    text_expected (first arguments) (λ text. split_by (first arguments) text t limit)))

-- 69, trim (22.1.3.32)
unfoldable pub trim : Value → List Value → Act
trim this arguments = this_text this (λ t. make_text (trim_end (trim_start t)) Give)

-- ---- 68, toString: ThisStringValue (22.1.3.35.1). Own: undefined, null and objects are refused as the receivers of other methods are.

unfoldable pub to_string : Value → List Value → Act
to_string (String t) arguments = Give (String t)
to_string Undefined arguments = raise NoProperties
to_string Null arguments = raise NoProperties
to_string (Object n) arguments = raise PrimitiveExpected
to_string v arguments = raise WrongReceiver

-- ---- the rows

abbrev pub string_functions : List (ℕ × BuiltIn)
string_functions =
    (53, string) ∷
    (54, from_char_code) ∷
    (55, char_at) ∷
    (56, char_code_at) ∷
    (57, code_point_at) ∷
    (58, ends_with) ∷
    (59, includes) ∷
    (60, index_of) ∷
    (61, pad_end) ∷
    (62, pad_start) ∷
    (63, repeat) ∷
    (64, slice) ∷
    (65, split) ∷
    (66, starts_with) ∷
    (67, substring_between) ∷
    (68, to_string) ∷
    (69, trim) ∷
    []

unfoldable pub string_row : (n : ℕ) → (function : ℕ) → (target : Option Value) → (this : Value) → (arguments : List Value) → Act
string_row n function target this arguments = call_row string_functions n this arguments
