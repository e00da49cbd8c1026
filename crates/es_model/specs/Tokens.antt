-- The tokens of a text (ECMA-262, 12, without what the language leaves out).
use Rattle.std.specs.Prelude.{ℕ, zero, suc, ◌+◌, ◌-◌, ◌*◌, Bool, true, false, not, ◌&&◌, ◌||◌, ◌==◌, nat_lt, nat_le, List, [], ◌∷◌, ◌++◌, length, take, drop, take_while, map, codes, pos, Option, Some, None, Result, Ok, Err}
use Rattle.std.specs.List.{list_any, list_all, flat_map}
use Rattle.unicode_ident.specs.Ident.{is_xid_start, is_xid_continue}
use Rattle.js_value.specs.Text.{parts, sequence_length, scalar_value, utf16, encoded}
use Rattle.es_model.specs.declared.faults.LexFault.{LexFault}
use Rattle.es_model.specs.declared.faults.LexFault.TheVariants.{NotUtf8, BadCharacter, OpenString, OpenComment, OpenTemplate, BadEscape, NumberForm, NumberTooLarge}
use Rattle.es_model.specs.declared.token.Token.{Token}
use Rattle.es_model.specs.declared.token.TokenKind.{TokenKind}
use Rattle.es_model.specs.declared.token.TokenKind.TheVariants as k

-- Characters: code points of the text.

-- white space (ECMA-262, 12.2)
abbrev pub is_blank : ℕ → Bool
is_blank c = (c == 9) || (c == 11) || (c == 12) || (c == 32) || (c == 0xA0) || (c == 0xFEFF) || (c == 0x1680) || (nat_le 0x2000 c && nat_le c 0x200A) || (c == 0x202F) || (c == 0x205F) || (c == 0x3000)

-- line breaks (ECMA-262, 12.3)
abbrev pub is_line_break : ℕ → Bool
is_line_break c = (c == 10) || (c == 13) || (c == 0x2028) || (c == 0x2029)

-- what a name starts with, and goes on with (own rule: XID in place of ID)
abbrev pub is_name_start : ℕ → Bool
is_name_start c = (c == 36) || (c == 95) || is_xid_start c

abbrev pub is_name_part : ℕ → Bool
is_name_part c = (c == 36) || (c == 0x200C) || (c == 0x200D) || is_xid_continue c

abbrev pub is_digit : ℕ → Bool
is_digit c = nat_le 48 c && nat_le c 57

-- the value of a digit or a letter as a digit; 36 for any other character
abbrev pub digit_value : ℕ → ℕ
digit_value c =
    elim (is_digit c) [
      | true ↦ c - 48
      | false ↦
          elim (nat_le 97 c && nat_le c 122) [
            | true ↦ c - 87
            | false ↦
                elim (nat_le 65 c && nat_le c 90) [ true ↦ c - 55 | false ↦ 36 ]
          ]
    ]

abbrev pub is_digit_of : ℕ → ℕ → Bool
is_digit_of base c = nat_lt (digit_value c) base

-- the number that digits spell, after those that spell `before`
abbrev pub number_after : ℕ → ℕ → List ℕ → ℕ
number_after before base [] = before
number_after before base (c ∷ cs) = number_after (before * base + digit_value c) base cs

-- a text begins with the characters of another
abbrev pub begins : List ℕ → List ℕ → Bool
begins [] text = true
begins (c ∷ cs) [] = false
begins (c ∷ cs) (d ∷ text) = (c == d) && begins cs text

-- a test of a text's first character
abbrev pub first_is : (ℕ → Bool) → List ℕ → Bool
first_is test [] = false
first_is test (c ∷ cs) = test c

-- a list without its first element
abbrev pub behind : List ℕ → List ℕ
behind [] = []
behind (c ∷ cs) = cs

-- The keywords and the signs. A token's number is its place in the list, from 0.

abbrev pub keywords : List (List ℕ)
keywords =
    codes "await" ∷ codes "break" ∷ codes "case" ∷ codes "catch" ∷ codes "class" ∷ codes "const" ∷ codes "continue" ∷
    codes "debugger" ∷ codes "default" ∷ codes "delete" ∷ codes "do" ∷ codes "else" ∷ codes "enum" ∷ codes "export" ∷
    codes "extends" ∷ codes "false" ∷ codes "finally" ∷ codes "for" ∷ codes "function" ∷ codes "if" ∷
    codes "implements" ∷ codes "import" ∷ codes "in" ∷ codes "instanceof" ∷ codes "interface" ∷ codes "let" ∷
    codes "new" ∷ codes "null" ∷ codes "package" ∷ codes "private" ∷ codes "protected" ∷ codes "public" ∷
    codes "return" ∷ codes "static" ∷ codes "super" ∷ codes "switch" ∷ codes "this" ∷ codes "throw" ∷ codes "true" ∷
    codes "try" ∷ codes "typeof" ∷ codes "var" ∷ codes "void" ∷ codes "while" ∷ codes "with" ∷ codes "yield" ∷ []

abbrev pub signs : List (List ℕ)
signs =
    codes "{" ∷ codes "}" ∷ codes "(" ∷ codes ")" ∷ codes "[" ∷ codes "]" ∷ codes ";" ∷ codes "," ∷ codes "." ∷
    codes "<" ∷ codes ">" ∷ codes "<=" ∷ codes ">=" ∷ codes "==" ∷ codes "!=" ∷ codes "===" ∷ codes "!==" ∷
    codes "+" ∷ codes "-" ∷ codes "*" ∷ codes "/" ∷ codes "%" ∷ codes "**" ∷ codes "++" ∷ codes "--" ∷
    codes "<<" ∷ codes ">>" ∷ codes ">>>" ∷ codes "&" ∷ codes "|" ∷ codes "^" ∷ codes "!" ∷ codes "~" ∷ codes "&&" ∷
    codes "||" ∷ codes "??" ∷ codes "?" ∷ codes ":" ∷ codes "=" ∷ codes "+=" ∷ codes "-=" ∷ codes "*=" ∷ codes "/=" ∷
    codes "%=" ∷ codes "**=" ∷ codes "<<=" ∷ codes ">>=" ∷ codes ">>>=" ∷ codes "&=" ∷ codes "|=" ∷ codes "^=" ∷
    codes "=>" ∷ []

abbrev pub same_text : List ℕ → List ℕ → Bool
same_text [] [] = true
same_text [] (d ∷ b) = false
same_text (c ∷ a) [] = false
same_text (c ∷ a) (d ∷ b) = (c == d) && same_text a b

-- the place of a text in a list of texts, counted from `n`
abbrev pub place_from : ℕ → List (List ℕ) → List ℕ → Option ℕ
place_from n [] text = None
place_from n (row ∷ rows) text = elim (same_text row text) [ true ↦ Some n | false ↦ place_from (suc n) rows text ]

-- the keyword that a text is
abbrev pub keyword_of : List ℕ → Option ℕ
keyword_of text = place_from 0 keywords text

-- of two signs with their lengths, the longer one
abbrev longer : ℕ → ℕ → Option (ℕ × ℕ) → Option (ℕ × ℕ)
longer n size None = Some (n, size)
longer n size (Some (m, other)) = elim (nat_lt size other) [ true ↦ Some (m, other) | false ↦ Some (n, size) ]

-- the longest sign of a list, counted from `n`, that a text begins with, and its length
abbrev pub longest_from : ℕ → List (List ℕ) → List ℕ → Option (ℕ × ℕ)
longest_from n [] text = None
longest_from n (row ∷ rows) text =
    elim (begins row text) [ true ↦ longer n (length row) (longest_from (suc n) rows text) | false ↦ longest_from (suc n) rows text ]

-- Escapes (ECMA-262, 12.9.4 and 12.9.6).

-- the character that a letter after a backslash names
abbrev pub named_by : ℕ → Option ℕ
named_by c =
    elim (c == 98) [
      | true ↦ Some 8
      | false ↦
          elim (c == 116) [
            | true ↦ Some 9
            | false ↦
                elim (c == 110) [
                  | true ↦ Some 10
                  | false ↦
                      elim (c == 118) [
                        | true ↦ Some 11
                        | false ↦
                            elim (c == 102) [
                              | true ↦ Some 12
                              | false ↦
                                  elim (c == 114) [ true ↦ Some 13 | false ↦ None ]
                            ]
                      ]
                ]
          ]
    ]

-- exactly `count` hexadecimal digits stand first
abbrev pub hexadecimal : ℕ → List ℕ → Bool
hexadecimal count text = (length (take count text) == count) && list_all (is_digit_of 16) (take count text)

-- What an escape stands for, with the number of its characters, given what stands after the
-- backslash; none where it is no escape.
abbrev pub hexadecimal_escape : ℕ → List ℕ → Option (List ℕ × ℕ)
hexadecimal_escape count text =
    elim (hexadecimal count text) [ true ↦ Some (number_after 0 16 (take count text) ∷ [], suc count) | false ↦ None ]

-- `\u{H..}`, given what stands after the brace
abbrev pub code_point_escape : List ℕ → Option (List ℕ × ℕ)
code_point_escape text =
    let digits = take_while (is_digit_of 16) text in
    elim (not (length digits == 0) && nat_le (number_after 0 16 digits) 0x10FFFF && first_is (λ c. c == 125) (drop (length digits) text)
    ) [ true ↦ Some (utf16 (number_after 0 16 digits), length digits + 3) | false ↦ None ]

-- `\x` and `\u`, given what stands after the letter
abbrev pub unicode_escape : List ℕ → Option (List ℕ × ℕ)
unicode_escape text = elim (first_is (λ c. c == 123) text) [ true ↦ code_point_escape (behind text) | false ↦ hexadecimal_escape 4 text ]

-- `\0`, a line continuation, which stands for nothing, and a character that stands for itself
abbrev pub plain_escape : ℕ → List ℕ → Option (List ℕ × ℕ)
plain_escape c text =
    elim (is_digit c) [
      | true ↦ elim ((c == 48) && not (first_is is_digit text)) [ true ↦ Some (0 ∷ [], 1) | false ↦ None ]
      | false ↦
          elim ((c == 13) && first_is (λ d. d == 10) text) [
            | true ↦ Some ([], 2)
            | false ↦
                elim (is_line_break c) [ true ↦ Some ([], 1) | false ↦ Some (utf16 c, 1) ]
          ]
    ]

abbrev pub escape : List ℕ → Option (List ℕ × ℕ)
escape [] = None
escape (c ∷ text) =
    elim (c == 120) [
      | true ↦ hexadecimal_escape 2 text
      | false ↦
          elim (c == 117) [
            | true ↦ unicode_escape text
            | false ↦
                elim (named_by c) [ Some d ↦ Some (d ∷ [], 1) | None ↦ plain_escape c text ]
          ]
    ]

-- Strings and templates.

-- what a character is inside a string or a template
pub data Inside : Type 0 where
  Closes : Inside
  Substitutes : Inside
  Breaks : Inside
  Escapes : Inside
  Returns : Inside
  Stands : Inside

abbrev pub width : ℕ → ℕ
width c = length (encoded c)

-- a reading goes on after more units and characters
abbrev pub after : List ℕ → ℕ → Result (List ℕ × Bool × ℕ) LexFault → Result (List ℕ × Bool × ℕ) LexFault
after units count (Ok (rest, end, more)) = Ok (units ++ rest, end, count + more)
after units count (Err fault) = Err fault

abbrev pub in_string : ℕ → ℕ → Inside
in_string quote c =
    elim (c == quote) [
      | true ↦ Closes
      | false ↦
          elim ((c == 10) || (c == 13)) [
            | true ↦ Breaks
            | false ↦
                elim (c == 92) [ true ↦ Escapes | false ↦ Stands ]
          ]
    ]

-- The units of a string from inside it up to its closing quote, with the number of characters, the
-- quote among them: those that `StringCharacters` of Contents says, as is proved. The first `passed`
-- characters were read already; `begun` is the place of the opening quote and `at` of the next character.
abbrev pub string_from : (quote passed begun at : ℕ) → List ℕ → Result (List ℕ × Bool × ℕ) LexFault
string_from quote passed begun at [] = Err (OpenString begun)
string_from quote (suc passed) begun at (c ∷ cs) = after [] 1 (string_from quote passed begun (at + width c) cs)
string_from quote zero begun at (c ∷ cs) =
    elim (in_string quote c) [
      | Closes ↦ Ok ([], true, 1)
      | Escapes ↦ elim (escape cs) [ Some (units, count) ↦ after units 1 (string_from quote count begun (at + 1) cs) | None ↦ Err (BadEscape at) ]
      | Stands ↦ after (utf16 c) 1 (string_from quote 0 begun (at + width c) cs)
      | _ ↦ Err (OpenString begun)
    ]

abbrev pub in_template : ℕ → List ℕ → Inside
in_template c cs =
    elim (c == 96) [
      | true ↦ Closes
      | false ↦
          elim ((c == 36) && first_is (λ d. d == 123) cs) [
            | true ↦ Substitutes
            | false ↦
                elim (c == 13) [
                  | true ↦ Returns
                  | false ↦
                      elim (c == 92) [ true ↦ Escapes | false ↦ Stands ]
                ]
          ]
    ]

-- The units of a template's piece from inside it up to its backquote, or to a substitution, with
-- whether it is the last piece, and with the number of characters, those that end it among them: those
-- that `TemplateCharacters` of Contents says, as is proved. CR and CR LF read as LF. `begun` is the place
-- of the template's opening backquote.
abbrev pub template_from : (passed begun at : ℕ) → List ℕ → Result (List ℕ × Bool × ℕ) LexFault
template_from passed begun at [] = Err (OpenTemplate begun)
template_from (suc passed) begun at (c ∷ cs) = after [] 1 (template_from passed begun (at + width c) cs)
template_from zero begun at (c ∷ cs) =
    elim (in_template c cs) [
      | Closes ↦ Ok ([], true, 1)
      | Substitutes ↦ Ok ([], false, 2)
      | Returns ↦ after (10 ∷ []) 1 (template_from (elim (first_is (λ d. d == 10) cs) [ true ↦ 1 | false ↦ 0 ]) begun (at + 1) cs)
      | Escapes ↦ elim (escape cs) [ Some (units, count) ↦ after units 1 (template_from count begun (at + 1) cs) | None ↦ Err (BadEscape at) ]
      | _ ↦ after (utf16 c) 1 (template_from 0 begun (at + width c) cs)
    ]

-- What stands at a place of the text, with the number of its characters after the first: what stands
-- between tokens (and whether it has a line break), a token, or a fault.
pub data Element : Type 0 where
  Between : Bool → ℕ → Element
  Word : TokenKind → ℕ → Element
  Wrong : LexFault → Element

abbrev pub read_string : ℕ → Result (List ℕ × Bool × ℕ) LexFault → Element
read_string at (Ok (units, last, count)) = Word (k.String units) count
read_string at (Err fault) = Wrong fault

abbrev pub read_template : Bool → Result (List ℕ × Bool × ℕ) LexFault → Element
read_template first (Ok (units, last, count)) = Word (k.Template first last units) count
read_template first (Err fault) = Wrong fault

-- the name or the keyword that begins with a character
abbrev pub name_element : ℕ → List ℕ → Element
name_element c cs =
    let more = take_while is_name_part cs in
    elim (keyword_of (c ∷ more)) [
      | Some n ↦ Word (k.Keyword n) (length more)
      | None ↦ Word (k.Name (flat_map utf16 (c ∷ more))) (length more)
    ]

-- Numbers: `0`, digits without a leading zero, or digits of another base.

-- the base that a letter after `0` names; 0 where it names none
abbrev pub base_of : ℕ → ℕ
base_of c =
    elim ((c == 120) || (c == 88)) [
      | true ↦ 16
      | false ↦
          elim ((c == 111) || (c == 79)) [
            | true ↦ 8
            | false ↦
                elim ((c == 98) || (c == 66)) [ true ↦ 2 | false ↦ 0 ]
          ]
    ]

-- `0x`, `0o` and `0b`, given the letter and what stands after it: the value, with the number of
-- characters after the `0`; of a `0` alone, where no digit of the base stands there
abbrev pub based_literal : ℕ → List ℕ → ℕ × ℕ
based_literal base cs =
    let digits = take_while (is_digit_of base) cs in
    elim digits [ [] ↦ (0, 0) | d ∷ ds ↦ (number_after 0 base (d ∷ ds), suc (length (d ∷ ds))) ]

-- the longest literal that begins with a digit: its value, with the number of its characters after
-- the first
abbrev pub number_literal : ℕ → List ℕ → ℕ × ℕ
number_literal c cs =
    elim (c == 48) [
      | true ↦ elim cs [ [] ↦ (0, 0) | d ∷ ds ↦ based_literal (base_of d) ds ]
      | false ↦ (number_after 0 10 (c ∷ take_while is_digit cs), length (take_while is_digit cs))
    ]

-- what may not stand directly after a literal: a point, a digit, or a character of a name
abbrev pub goes_on : ℕ → Bool
goes_on c = (c == 46) || is_digit c || is_name_part c

abbrev pub number_element : ℕ → ℕ → List ℕ → Element
number_element at c cs =
    let (value, more) = number_literal c cs in
    elim (first_is goes_on (drop more cs)) [
      | true ↦ Wrong (NumberForm at)
      | false ↦ elim (nat_le value 9007199254740991) [ true ↦ Word (k.Number (pos value)) more | false ↦ Wrong (NumberTooLarge at) ]
    ]

-- the longest sign that a text begins with
abbrev pub sign_element : ℕ → List ℕ → Element
sign_element at text =
    elim (longest_from 0 signs text) [ Some (n, size) ↦ Word (k.Sign n) (size - 1) | None ↦ Wrong (BadCharacter at) ]

-- Comments (ECMA-262, 12.4).

-- the number of characters up to the end of a block comment
abbrev pub comment_end : List ℕ → Option ℕ
comment_end [] = None
comment_end (c ∷ cs) =
    elim (begins (codes "*/") (c ∷ cs)) [ true ↦ Some 2 | false ↦ elim (comment_end cs) [ Some n ↦ Some (suc n) | None ↦ None ] ]

-- a block comment, given what stands after its first two characters
abbrev pub block_comment : ℕ → List ℕ → Element
block_comment at cs = elim (comment_end cs) [ Some n ↦ Between (list_any is_line_break (take n cs)) (suc n) | None ↦ Wrong (OpenComment at) ]

abbrev pub line_comment : List ℕ → Element
line_comment cs = Between false (suc (length (take_while (λ c. not (is_line_break c)) cs)))

-- An open brace: a plain one, or the `${` of a template whose backquote stands at a place.
pub data Brace : Type 0 where
  Curly : Brace
  Substitution : ℕ → Brace

-- the backquote of the template of the innermost open brace, where that is a `${`
abbrev pub continued : List Brace → Option ℕ
continued [] = None
continued (Curly ∷ braces) = None
continued (Substitution at ∷ braces) = Some at

-- the backquote of the innermost template that is open
abbrev pub innermost : List Brace → Option ℕ
innermost [] = None
innermost (Curly ∷ braces) = innermost braces
innermost (Substitution at ∷ braces) = Some at

-- What stands at a place, given the braces that are open there. The tests of a first character come
-- in the order in which they decide.
abbrev pub closing_element : List Brace → ℕ → List ℕ → Element
closing_element braces at cs =
    elim (continued braces) [ Some first ↦ read_template false (template_from 0 first (at + 1) cs) | None ↦ sign_element at (125 ∷ cs) ]

abbrev pub quoted_element : List Brace → ℕ → ℕ → List ℕ → Element
quoted_element braces at c cs =
    elim ((c == 34) || (c == 39)) [
      | true ↦ read_string at (string_from c 0 at (at + 1) cs)
      | false ↦
          elim (c == 96) [
            | true ↦ read_template true (template_from 0 at (at + 1) cs)
            | false ↦
                elim (c == 125) [ true ↦ closing_element braces at cs | false ↦ sign_element at (c ∷ cs) ]
          ]
    ]

abbrev pub word_element : List Brace → ℕ → ℕ → List ℕ → Element
word_element braces at c cs =
    elim (is_name_start c) [
      | true ↦ name_element c cs
      | false ↦
          elim (is_digit c) [
            | true ↦ number_element at c cs
            | false ↦
                elim ((c == 46) && first_is is_digit cs) [ true ↦ Wrong (NumberForm at) | false ↦ quoted_element braces at c cs ]
          ]
    ]

abbrev pub element : List Brace → ℕ → ℕ → List ℕ → Element
element braces at c cs =
    elim (is_blank c) [
      | true ↦ Between false 0
      | false ↦
          elim (is_line_break c) [
            | true ↦ Between true 0
            | false ↦
                elim (begins (codes "//") (c ∷ cs)) [
                  | true ↦ line_comment (behind cs)
                  | false ↦
                      elim (begins (codes "/*") (c ∷ cs)) [ true ↦ block_comment at (behind cs) | false ↦ word_element braces at c cs ]
                ]
          ]
    ]

-- the braces that are open after a token
abbrev pub after_template : ℕ → Bool → Bool → List Brace → List Brace
after_template at true false braces = Substitution at ∷ braces
after_template at false true braces = drop 1 braces
after_template at _ _ braces = braces

abbrev pub braces_after : ℕ → TokenKind → List Brace → List Brace
braces_after at (k.Sign zero) braces = Curly ∷ braces
braces_after at (k.Sign (suc zero)) braces = drop 1 braces
braces_after at (k.Template first last units) braces = after_template at first last braces
braces_after at _ braces = braces

-- The text, cut: each part with its place and its spelling. The last is the end, or a fault with
-- what is left of the text.
pub record Part : Type 0 where
  pub at : ℕ
  pub element : Element
  pub spelling : List ℕ

abbrev pub ending : List Brace → Element
ending braces = elim (innermost braces) [ Some at ↦ Wrong (OpenTemplate at) | None ↦ Word k.End 0 ]

-- The parts of a text after its first `passed` characters, which belong to the part before.
abbrev pub parts_of : (passed : ℕ) → List Brace → (at : ℕ) → List ℕ → List Part
parts_of passed braces at [] = record { at = at; element = ending braces; spelling = [] } ∷ []
parts_of (suc passed) braces at (c ∷ cs) = parts_of passed braces (at + width c) cs
parts_of zero braces at (c ∷ cs) =
    elim (element braces at c cs) [
      | Between line more ↦ record { at = at; element = Between line more; spelling = c ∷ take more cs } ∷ parts_of more braces (at + width c) cs
      | Word kind more ↦ record { at = at; element = Word kind more; spelling = c ∷ take more cs } ∷ parts_of more (braces_after at kind braces) (at + width c) cs
      | Wrong fault ↦ record { at = at; element = Wrong fault; spelling = c ∷ cs } ∷ []
    ]

-- the tokens among parts, or the fault; `line` says that a line break stands before the first
abbrev pub before : Token → Result (List Token) LexFault → Result (List Token) LexFault
before token (Ok tokens) = Ok (token ∷ tokens)
before token (Err fault) = Err fault

abbrev pub tokens_in : Bool → List Part → Result (List Token) LexFault
tokens_in line [] = Ok []
tokens_in line (part ∷ parts) =
    elim part.element [
      | Between breaks more ↦ tokens_in (line || breaks) parts
      | Word kind more ↦ before (record { kind = kind; at = part.at; line_before = line }) (tokens_in false parts)
      | Wrong fault ↦ Err fault
    ]

-- the place of the first byte that belongs to no well-formed sequence, among sequences from `at` on
abbrev pub is_bad : List ℕ → Bool
is_bad (byte ∷ []) = nat_le 0x80 byte
is_bad _ = false

abbrev pub first_bad : ℕ → List (List ℕ) → Option ℕ
first_bad at [] = None
first_bad at (bytes ∷ rest) = elim (is_bad bytes) [ true ↦ Some at | false ↦ first_bad (at + length bytes) rest ]

-- the characters of UTF-8
abbrev pub characters_of : List ℕ → List ℕ
characters_of bytes = map scalar_value (parts sequence_length bytes)

-- The tokens of a text, End last, or the fault that is met first, NotUtf8 before all others.
unfoldable pub tokens_of : List ℕ → Result (List Token) LexFault
tokens_of bytes =
    elim (first_bad 0 (parts sequence_length bytes)) [
      | Some at ↦ Err (NotUtf8 at)
      | None ↦ tokens_in false (parts_of 0 [] 0 (characters_of bytes))
    ]
