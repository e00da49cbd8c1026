-- Worked rows of `tokens_of`.
use Rattle.std.specs.Prelude.{◌≡◌, ℕ, true, false, List, [], ◌∷◌, ◌++◌, codes, pos, Result, Ok, Err, refl}
use Rattle.unicode_ident.proofs.Computing.{unicode_ident}
use Rattle.js_value.specs.Text.{sequence_length, encoded}
use Rattle.es_model.specs.declared.faults.LexFault.{LexFault}
use Rattle.es_model.specs.declared.faults.LexFault.TheVariants.{NotUtf8, BadCharacter, OpenString, OpenComment, OpenTemplate, BadEscape, NumberForm, NumberTooLarge}
use Rattle.es_model.specs.declared.token.Token.{Token}
use Rattle.es_model.specs.declared.token.TokenKind.{TokenKind}
use Rattle.es_model.specs.declared.token.TokenKind.TheVariants as k
use Rattle.es_model.specs.Tokens.{tokens_of}

-- a token, with no line break before it, and after one
abbrev token : TokenKind → ℕ → Token
token kind at = record { kind = kind; at = at; line_before = false }

abbrev lined : TokenKind → ℕ → Token
lined kind at = record { kind = kind; at = at; line_before = true }

-- one token alone, in a text of so many bytes
abbrev only : TokenKind → ℕ → Result (List Token) LexFault
only kind size = Ok (token kind 0 ∷ token k.End size ∷ [])

-- a text in double quotes, and one in backquotes
abbrev quoted : List ℕ → List ℕ
quoted text = 34 ∷ text ++ 34 ∷ []

abbrev template : List ℕ → List ℕ
template text = 96 ∷ text ++ 96 ∷ []

nothing : tokens_of [] ≡ Ok (token k.End 0 ∷ [])
unfolding tokens_of encoded sequence_length unicode_ident
nothing = refl

declaration : tokens_of (codes "let a;") ≡ Ok (token (k.Keyword 25) 0 ∷ token (k.Name (codes "a")) 4 ∷ token (k.Sign 6) 5 ∷ token k.End 6 ∷ [])
unfolding tokens_of encoded sequence_length unicode_ident
declaration = refl

longest_sign : tokens_of (codes "a>>>=b") ≡ Ok (token (k.Name (codes "a")) 0 ∷ token (k.Sign 47) 1 ∷ token (k.Name (codes "b")) 5 ∷ token k.End 6 ∷ [])
unfolding tokens_of encoded sequence_length unicode_ident
longest_sign = refl

longest_name : tokens_of (codes "do doing") ≡ Ok (token (k.Keyword 10) 0 ∷ token (k.Name (codes "doing")) 3 ∷ token k.End 8 ∷ [])
unfolding tokens_of encoded sequence_length unicode_ident
longest_name = refl

name_of_signs : tokens_of (codes "$_1") ≡ only (k.Name (codes "$_1")) 3
unfolding tokens_of encoded sequence_length unicode_ident
name_of_signs = refl

name_of_letters : tokens_of (0xC3 ∷ 0xA9 ∷ 97 ∷ []) ≡ only (k.Name (0xE9 ∷ 97 ∷ [])) 3
unfolding tokens_of encoded sequence_length unicode_ident
name_of_letters = refl

line_before : tokens_of (codes "a" ++ 10 ∷ codes "++b") ≡ Ok (token (k.Name (codes "a")) 0 ∷ lined (k.Sign 23) 2 ∷ token (k.Name (codes "b")) 4 ∷ token k.End 5 ∷ [])
unfolding tokens_of encoded sequence_length unicode_ident
line_before = refl

line_first : tokens_of (13 ∷ 10 ∷ codes ";") ≡ Ok (lined (k.Sign 6) 2 ∷ token k.End 3 ∷ [])
unfolding tokens_of encoded sequence_length unicode_ident
line_first = refl

line_in_comment : tokens_of (codes "/*" ++ 10 ∷ codes "*/;//x") ≡ Ok (lined (k.Sign 6) 5 ∷ token k.End 9 ∷ [])
unfolding tokens_of encoded sequence_length unicode_ident
line_in_comment = refl

comment_then_sign : tokens_of (codes "/**/ /=") ≡ Ok (token (k.Sign 42) 5 ∷ token k.End 7 ∷ [])
unfolding tokens_of encoded sequence_length unicode_ident
comment_then_sign = refl

open_comment : tokens_of (codes ";/*/") ≡ Err (OpenComment 1)
unfolding tokens_of encoded sequence_length unicode_ident
open_comment = refl

number_zero : tokens_of (codes "0") ≡ only (k.Number (pos 0)) 1
unfolding tokens_of encoded sequence_length unicode_ident
number_zero = refl

number_decimal : tokens_of (codes "120") ≡ only (k.Number (pos 120)) 3
unfolding tokens_of encoded sequence_length unicode_ident
number_decimal = refl

number_hexadecimal : tokens_of (codes "0XfF") ≡ only (k.Number (pos 255)) 4
unfolding tokens_of encoded sequence_length unicode_ident
number_hexadecimal = refl

number_binary : tokens_of (codes "0b101") ≡ only (k.Number (pos 5)) 5
unfolding tokens_of encoded sequence_length unicode_ident
number_binary = refl

number_greatest : tokens_of (codes "9007199254740991") ≡ only (k.Number (pos 9007199254740991)) 16
unfolding tokens_of encoded sequence_length unicode_ident
number_greatest = refl

number_too_large : tokens_of (codes "9007199254740992;") ≡ Err (NumberTooLarge 0)
unfolding tokens_of encoded sequence_length unicode_ident
number_too_large = refl

number_with_point : tokens_of (codes "1.5") ≡ Err (NumberForm 0)
unfolding tokens_of encoded sequence_length unicode_ident
number_with_point = refl

number_with_zero : tokens_of (codes "x = 08") ≡ Err (NumberForm 4)
unfolding tokens_of encoded sequence_length unicode_ident
number_with_zero = refl

number_with_exponent : tokens_of (codes "1e5") ≡ Err (NumberForm 0)
unfolding tokens_of encoded sequence_length unicode_ident
number_with_exponent = refl

number_based_point : tokens_of (codes "0x1.a") ≡ Err (NumberForm 0)
unfolding tokens_of encoded sequence_length unicode_ident
number_based_point = refl

number_without_digits : tokens_of (codes "0x") ≡ Err (NumberForm 0)
unfolding tokens_of encoded sequence_length unicode_ident
number_without_digits = refl

point_and_digit : tokens_of (codes "a.5") ≡ Err (NumberForm 1)
unfolding tokens_of encoded sequence_length unicode_ident
point_and_digit = refl

point_and_name : tokens_of (codes "a.b") ≡ Ok (token (k.Name (codes "a")) 0 ∷ token (k.Sign 8) 1 ∷ token (k.Name (codes "b")) 2 ∷ token k.End 3 ∷ [])
unfolding tokens_of encoded sequence_length unicode_ident
point_and_name = refl

form_before_size : tokens_of (codes "9007199254740992x") ≡ Err (NumberForm 0)
unfolding tokens_of encoded sequence_length unicode_ident
form_before_size = refl

string_plain : tokens_of (quoted (codes "a b")) ≡ only (k.String (codes "a b")) 5
unfolding tokens_of encoded sequence_length unicode_ident
string_plain = refl

string_escapes : tokens_of (quoted (92 ∷ codes "n" ++ 92 ∷ codes "x41" ++ 92 ∷ codes "u0042" ++ 92 ∷ codes "u{1F600}" ++ 92 ∷ codes "0" ++ 92 ∷ codes "q")) ≡ only (k.String (10 ∷ 65 ∷ 66 ∷ 0xD83D ∷ 0xDE00 ∷ 0 ∷ 113 ∷ [])) 27
unfolding tokens_of encoded sequence_length unicode_ident
string_escapes = refl

string_continued : tokens_of (quoted (codes "a" ++ 92 ∷ 13 ∷ 10 ∷ codes "b")) ≡ only (k.String (codes "ab")) 7
unfolding tokens_of encoded sequence_length unicode_ident
string_continued = refl

string_separator : tokens_of (quoted (0xE2 ∷ 0x80 ∷ 0xA8 ∷ [])) ≡ only (k.String (0x2028 ∷ [])) 5
unfolding tokens_of encoded sequence_length unicode_ident
string_separator = refl

open_string : tokens_of (34 ∷ codes "a") ≡ Err (OpenString 0)
unfolding tokens_of encoded sequence_length unicode_ident
open_string = refl

string_and_line : tokens_of (34 ∷ codes "a" ++ 10 ∷ 34 ∷ []) ≡ Err (OpenString 0)
unfolding tokens_of encoded sequence_length unicode_ident
string_and_line = refl

escape_of_digit : tokens_of (quoted (92 ∷ codes "1")) ≡ Err (BadEscape 1)
unfolding tokens_of encoded sequence_length unicode_ident
escape_of_digit = refl

escape_of_zero : tokens_of (quoted (92 ∷ codes "00")) ≡ Err (BadEscape 1)
unfolding tokens_of encoded sequence_length unicode_ident
escape_of_zero = refl

escape_cut : tokens_of (34 ∷ codes "a" ++ 92 ∷ codes "x4") ≡ Err (BadEscape 2)
unfolding tokens_of encoded sequence_length unicode_ident
escape_cut = refl

escape_too_large : tokens_of (quoted (92 ∷ codes "u{110000}")) ≡ Err (BadEscape 1)
unfolding tokens_of encoded sequence_length unicode_ident
escape_too_large = refl

template_plain : tokens_of (template (codes "a" ++ 13 ∷ 10 ∷ codes "b")) ≡ only (k.Template true true (codes "a" ++ 10 ∷ codes "b")) 6
unfolding tokens_of encoded sequence_length unicode_ident
template_plain = refl

template_pieces : tokens_of (template (codes "a${b}c")) ≡ Ok (token (k.Template true false (codes "a")) 0 ∷ token (k.Name (codes "b")) 4 ∷ token (k.Template false true (codes "c")) 5 ∷ token k.End 8 ∷ [])
unfolding tokens_of encoded sequence_length unicode_ident
template_pieces = refl

template_braces : tokens_of (template (codes "${{}}")) ≡ Ok (token (k.Template true false []) 0 ∷ token (k.Sign 0) 3 ∷ token (k.Sign 1) 4 ∷ token (k.Template false true []) 5 ∷ token k.End 7 ∷ [])
unfolding tokens_of encoded sequence_length unicode_ident
template_braces = refl

template_in_template : tokens_of (template (codes "${" ++ template (codes "x") ++ codes "}")) ≡ Ok (token (k.Template true false []) 0 ∷ token (k.Template true true (codes "x")) 3 ∷ token (k.Template false true []) 6 ∷ token k.End 8 ∷ [])
unfolding tokens_of encoded sequence_length unicode_ident
template_in_template = refl

open_template : tokens_of (96 ∷ codes "a") ≡ Err (OpenTemplate 0)
unfolding tokens_of encoded sequence_length unicode_ident
open_template = refl

open_templates : tokens_of (96 ∷ codes "${" ++ 96 ∷ codes "${{") ≡ Err (OpenTemplate 3)
unfolding tokens_of encoded sequence_length unicode_ident
open_templates = refl

fault_in_substitution : tokens_of (96 ∷ codes "${ 1.5") ≡ Err (NumberForm 4)
unfolding tokens_of encoded sequence_length unicode_ident
fault_in_substitution = refl

closing_alone : tokens_of (codes "}") ≡ only (k.Sign 1) 1
unfolding tokens_of encoded sequence_length unicode_ident
closing_alone = refl

bad_character : tokens_of (codes "a#") ≡ Err (BadCharacter 1)
unfolding tokens_of encoded sequence_length unicode_ident
bad_character = refl

backslash_outside : tokens_of (92 ∷ codes "u0061") ≡ Err (BadCharacter 0)
unfolding tokens_of encoded sequence_length unicode_ident
backslash_outside = refl

not_utf8 : tokens_of (codes "#" ++ 0xC3 ∷ 40 ∷ []) ≡ Err (NotUtf8 1)
unfolding tokens_of encoded sequence_length unicode_ident
not_utf8 = refl
