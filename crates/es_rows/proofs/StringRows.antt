-- The functions of String and String.prototype on small values: each once and more on a plain call, and on its refusals.
use Rattle.std.proofs.Common.{◌≡◌, ℕ, true, false, suc, List, [], ◌∷◌, length, map, replicate, refl, Option, Some, pos, negsuc, codes}
use Rattle.js_value.specs.Value.{Value, Undefined, Null, Boolean, Number, String, Object, Text}
use Rattle.js_value.specs.Store.{Thing, AnObject, Array}
use Rattle.js_value.specs.declared.counts.Room.{Room}
use Rattle.es_ops.specs.State.{some_units}
use Rattle.es_ops.specs.Messages.{Message, NumberOutOfRange, StringTooLong, InvalidArgument, NoProperties, PrimitiveExpected, WrongReceiver, text_of_message}
use Rattle.es_ops.specs.Errors.{error_record}
use Rattle.es_rows.specs.Positions.{clamped_position, relative_position, count_expected}
use Rattle.es_rows.specs.String.{string, from_char_code, this_text, char_at, char_code_at, code_point_at, ends_with, includes, index_of, starts_with, pad_end, pad_start, repeat, slice, substring_between, split, trim, to_string}
use Rattle.es_rows.proofs.Samples.{plain, an_object, called, came, Came, Gave, thing_after, used_after, computing}

-- 13 is an object; what is made stands at 14
things : List Thing
things = an_object [] ∷ []

number : ℕ → Value
number n = Number (pos n)

-- rows that name this compute through the functions of String
unfoldable strings_computing : Unit {0}
unfolding computing things number clamped_position relative_position count_expected string from_char_code this_text char_at char_code_at code_point_at ends_with includes index_of starts_with pad_end pad_start repeat slice substring_between split trim to_string
strings_computing = tt

result : ℕ → Value → List Value → Came
result row this arguments = came (called things row this arguments)

made : ℕ → Value → List Value → Option Thing
made row this arguments = thing_after (called things row this arguments) 14

used : ℕ → Value → List Value → Room
used row this arguments = used_after (called things row this arguments)

gave_text : Text → Came
gave_text t = Gave (String t)

error_of : ℕ → Message → Option Thing
error_of p m = Some (AnObject (error_record p (text_of_message m)))

range_error : Message → Option Thing
range_error m = error_of 3 m

type_error : Message → Option Thing
type_error m = error_of 6 m

of : Text → Value
of t = String t

-- ---- the constructor

strings_of_values : map (λ v. result 53 Undefined (v ∷ [])) (number 12 ∷ Number (negsuc 4) ∷ Boolean true ∷ Null ∷ Undefined ∷ of (codes "x") ∷ [])
    ≡ map gave_text (codes "12" ∷ codes "-5" ∷ codes "true" ∷ codes "null" ∷ codes "undefined" ∷ codes "x" ∷ [])
unfolding strings_computing result gave_text of
strings_of_values = refl

string_of_nothing : result 53 Undefined [] ≡ Gave (String [])
unfolding strings_computing result
string_of_nothing = refl

-- a number's text is made, and others are handed out
string_costs : map (λ v. used 53 Undefined (v ∷ [])) (number 12 ∷ of (codes "x") ∷ Boolean true ∷ []) ≡ some_units 2 ∷ some_units 0 ∷ some_units 0 ∷ []
unfolding strings_computing used of
string_costs = refl

string_of_object : made 53 Undefined (Object 13 ∷ []) ≡ type_error PrimitiveExpected
unfolding strings_computing made type_error error_of
string_of_object = refl

char_codes : result 54 Undefined (number 97 ∷ number 65634 ∷ Number (negsuc 65436) ∷ []) ∷ result 54 Undefined [] ∷ [] ≡ map gave_text (codes "abc" ∷ [] ∷ [])
unfolding strings_computing result gave_text
char_codes = refl

char_codes_refused : made 54 Undefined (Undefined ∷ []) ∷ made 54 Undefined (Object 13 ∷ []) ∷ [] ≡ range_error NumberOutOfRange ∷ type_error PrimitiveExpected ∷ []
unfolding strings_computing made type_error range_error error_of
char_codes_refused = refl

-- ---- units

abc : Value
abc = String (codes "abc")

characters : map (λ v. result 55 abc (v ∷ [])) (number 1 ∷ number 3 ∷ Number (negsuc 0) ∷ Undefined ∷ of (codes "2") ∷ []) ≡ map gave_text (codes "b" ∷ [] ∷ [] ∷ codes "a" ∷ codes "c" ∷ [])
unfolding strings_computing result gave_text abc of
characters = refl

char_codes_at : result 56 abc (number 1 ∷ []) ∷ result 56 abc [] ∷ [] ≡ Gave (number 98) ∷ Gave (number 97) ∷ []
unfolding strings_computing result abc
char_codes_at = refl

no_char_code : made 56 abc (number 3 ∷ []) ∷ made 56 abc (Number (negsuc 0) ∷ []) ∷ [] ≡ range_error NumberOutOfRange ∷ range_error NumberOutOfRange ∷ []
unfolding strings_computing made range_error error_of abc
no_char_code = refl

-- a pair of surrogates, the second of them, and a first one alone
pair : Value
pair = String (0xD83D ∷ 0xDE00 ∷ 0xD83D ∷ [])

code_points : map (λ n. result 57 pair (n ∷ [])) (number 0 ∷ number 1 ∷ number 2 ∷ number 3 ∷ Number (negsuc 0) ∷ [])
    ≡ Gave (number 128512) ∷ Gave (number 56832) ∷ Gave (number 55357) ∷ Gave Undefined ∷ Gave Undefined ∷ []
unfolding strings_computing result pair
code_points = refl

-- ---- searches

abcabc : Value
abcabc = String (codes "abcabc")

ends : map (λ vs. result 58 abcabc vs) ((of (codes "bc") ∷ []) ∷ (of (codes "bc") ∷ number 3 ∷ []) ∷ (of (codes "bc") ∷ number 4 ∷ []) ∷ (of [] ∷ []) ∷ (of (codes "xabcabc") ∷ []) ∷ [])
    ≡ map (λ b. Gave (Boolean b)) (true ∷ true ∷ false ∷ true ∷ false ∷ [])
unfolding strings_computing result abcabc of
ends = refl

included : map (λ vs. result 59 abcabc vs) ((of (codes "ca") ∷ []) ∷ (of (codes "bc") ∷ number 5 ∷ []) ∷ (of (codes "ab") ∷ Number (negsuc 6) ∷ []) ∷ [] ∷ [])
    ≡ map (λ b. Gave (Boolean b)) (true ∷ false ∷ true ∷ false ∷ [])
unfolding strings_computing result abcabc of
included = refl

indices : map (λ vs. result 60 abcabc vs) ((of (codes "bc") ∷ []) ∷ (of (codes "bc") ∷ number 2 ∷ []) ∷ (of (codes "x") ∷ []) ∷ (of [] ∷ number 9 ∷ []) ∷ [])
    ≡ map (λ n. Gave n) (number 1 ∷ number 4 ∷ Number (negsuc 0) ∷ number 6 ∷ [])
unfolding strings_computing result abcabc of
indices = refl

starts : map (λ vs. result 66 abcabc vs) ((of (codes "ab") ∷ []) ∷ (of (codes "bc") ∷ number 1 ∷ []) ∷ (of (codes "bc") ∷ []) ∷ (of [] ∷ number 9 ∷ []) ∷ [])
    ≡ map (λ b. Gave (Boolean b)) (true ∷ true ∷ false ∷ true ∷ [])
unfolding strings_computing result abcabc of
starts = refl

-- ---- longer texts

ab : Value
ab = String (codes "ab")

padded_at_end : map (λ vs. result 61 ab vs) ((number 5 ∷ []) ∷ (number 7 ∷ of (codes "xyz") ∷ []) ∷ (number 1 ∷ []) ∷ (number 5 ∷ of [] ∷ []) ∷ [] ∷ [])
    ≡ map gave_text (codes "ab   " ∷ codes "abxyzxy" ∷ codes "ab" ∷ codes "ab" ∷ codes "ab" ∷ [])
unfolding strings_computing result gave_text ab of
padded_at_end = refl

padded_at_start : map (λ vs. result 62 ab vs) ((number 5 ∷ []) ∷ (number 7 ∷ of (codes "xyz") ∷ []) ∷ []) ≡ map gave_text (codes "   ab" ∷ codes "xyzxyab" ∷ [])
unfolding strings_computing result gave_text ab of
padded_at_start = refl

repetitions : result 63 ab (number 3 ∷ []) ∷ result 63 ab [] ∷ result 63 (of []) (number 9007199254740991 ∷ []) ∷ [] ≡ map gave_text (codes "ababab" ∷ [] ∷ [] ∷ [])
unfolding strings_computing result gave_text ab of
repetitions = refl

-- the whole of a result is a made text, also where it is the receiver's
longer_costs : used 61 ab (number 5 ∷ []) ∷ used 61 ab [] ∷ used 63 ab (number 3 ∷ []) ∷ used 55 ab [] ∷ used 69 ab [] ∷ [] ≡ map some_units (5 ∷ 2 ∷ 6 ∷ 1 ∷ 2 ∷ [])
unfolding strings_computing used ab
longer_costs = refl

longer_refused : made 63 ab (Number (negsuc 0) ∷ []) ∷ made 63 ab (number 524289 ∷ []) ∷ made 61 ab (number 1048577 ∷ []) ∷ made 62 ab (number 9007199254740991 ∷ []) ∷ made 61 ab (number 5 ∷ Object 13 ∷ []) ∷ []
    ≡ range_error InvalidArgument ∷ range_error StringTooLong ∷ range_error StringTooLong ∷ range_error StringTooLong ∷ type_error PrimitiveExpected ∷ []
unfolding strings_computing made range_error type_error error_of ab
longer_refused = refl

-- ---- parts

abcde : Value
abcde = String (codes "abcde")

slices : map (λ vs. result 64 abcde vs) ((number 1 ∷ number 3 ∷ []) ∷ (Number (negsuc 1) ∷ []) ∷ (number 3 ∷ number 1 ∷ []) ∷ (Number (negsuc 8) ∷ number 2 ∷ []) ∷ (number 0 ∷ Number (negsuc 0) ∷ []) ∷ [] ∷ [])
    ≡ map gave_text (codes "bc" ∷ codes "de" ∷ [] ∷ codes "ab" ∷ codes "abcd" ∷ codes "abcde" ∷ [])
unfolding strings_computing result gave_text abcde
slices = refl

substrings : map (λ vs. result 67 abcde vs) ((number 1 ∷ number 3 ∷ []) ∷ (number 3 ∷ number 1 ∷ []) ∷ (Number (negsuc 1) ∷ []) ∷ (number 9 ∷ number 3 ∷ []) ∷ [])
    ≡ map gave_text (codes "bc" ∷ codes "bc" ∷ codes "abcde" ∷ codes "de" ∷ [])
unfolding strings_computing result gave_text abcde
substrings = refl

trimmed : result 69 (String (0x20 ∷ 0x09 ∷ 0xFEFF ∷ 0x61 ∷ 0x20 ∷ 0x62 ∷ 0x0A ∷ [])) [] ≡ gave_text (codes "a b")
unfolding strings_computing result gave_text
trimmed = refl

-- the pieces as an array's elements
elements : ℕ → List Text → List (ℕ × Value)
elements i [] = []
elements i (t ∷ ts) = (i, String t) ∷ elements (suc i) ts

pieces : Text → List Value → Option Thing
pieces t arguments = made 65 (String t) arguments

array_of_texts : List Text → Option Thing
array_of_texts ts = Some (AnObject (record { class = Array (length ts) true; prototype = Some 12; extensible = true; indexed = map (λ e. (e.0, plain e.1)) (elements 0 ts); named = [] }))

pieces_between_commas : pieces (codes "a,b,,c") (of (codes ",") ∷ []) ∷ pieces (codes "a,b,,c") (of (codes ",") ∷ number 2 ∷ []) ∷ pieces (codes "aXYbXY") (of (codes "XY") ∷ Number (negsuc 0) ∷ []) ∷ pieces [] (of (codes ",") ∷ []) ∷ []
    ≡ map array_of_texts ((codes "a" ∷ codes "b" ∷ [] ∷ codes "c" ∷ []) ∷ (codes "a" ∷ codes "b" ∷ []) ∷ (codes "a" ∷ codes "b" ∷ [] ∷ []) ∷ ([] ∷ []) ∷ [])
unfolding strings_computing made pieces elements array_of_texts of
pieces_between_commas = refl

other_pieces : pieces (codes "abc") (of [] ∷ []) ∷ pieces (codes "abc") (of [] ∷ number 2 ∷ []) ∷ pieces (codes "abc") [] ∷ pieces [] (of [] ∷ []) ∷ pieces (codes "abc") (Undefined ∷ number 0 ∷ []) ∷ pieces (codes "anullb") (Null ∷ []) ∷ []
    ≡ map array_of_texts ((codes "a" ∷ codes "b" ∷ codes "c" ∷ []) ∷ (codes "a" ∷ codes "b" ∷ []) ∷ (codes "abc" ∷ []) ∷ [] ∷ [] ∷ (codes "a" ∷ codes "b" ∷ []) ∷ [])
unfolding strings_computing made pieces elements array_of_texts of
other_pieces = refl

-- an array of two slots, and each piece its units and a slot
split_costs : used 65 (of (codes "ab,c")) (of (codes ",") ∷ []) ≡ record { slots = 4; units = 3; names = 0 }
unfolding strings_computing used of
split_costs = refl

-- ---- receivers and arguments that are refused

methods : List ℕ
methods = 55 ∷ 56 ∷ 57 ∷ 58 ∷ 59 ∷ 60 ∷ 61 ∷ 62 ∷ 63 ∷ 64 ∷ 65 ∷ 66 ∷ 67 ∷ 68 ∷ 69 ∷ []

of_undefined : map (λ row. made row Undefined []) methods ≡ replicate 15 (type_error NoProperties)
unfolding strings_computing made methods type_error error_of
of_undefined = refl

of_null : map (λ row. made row Null []) methods ≡ replicate 15 (type_error NoProperties)
unfolding strings_computing made methods type_error error_of
of_null = refl

of_object : map (λ row. made row (Object 13) []) methods ≡ replicate 15 (type_error PrimitiveExpected)
unfolding strings_computing made methods type_error error_of
of_object = refl

-- an object as the first argument
with_object : map (λ row. made row abc (Object 13 ∷ [])) (55 ∷ 56 ∷ 57 ∷ 58 ∷ 59 ∷ 60 ∷ 61 ∷ 62 ∷ 63 ∷ 64 ∷ 65 ∷ 66 ∷ 67 ∷ []) ≡ replicate 13 (type_error PrimitiveExpected)
unfolding strings_computing made type_error error_of abc
with_object = refl

-- a number as the receiver is a text
of_number : result 64 (number 12345) (number 1 ∷ number 3 ∷ []) ≡ gave_text (codes "23")
unfolding strings_computing result gave_text
of_number = refl

strings_themselves : result 68 ab [] ≡ Gave ab
unfolding strings_computing result ab
strings_themselves = refl

of_no_string : made 68 (number 1) [] ∷ made 68 (Boolean true) [] ∷ [] ≡ type_error WrongReceiver ∷ type_error WrongReceiver ∷ []
unfolding strings_computing made type_error error_of
of_no_string = refl
