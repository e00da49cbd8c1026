-- What a reader answers.
use Rattle.std.specs.Prelude.{◌≡◌, ◌≢◌, ◌<◌, ◌==◌, ◌&&◌, ◌+◌, ◌-◌, nat_le, ℕ, Bool, true, false, not, List, [], ◌∷◌, ◌++◌, length, take_while, take, drop, min, Option, Some, None, Result, Ok, Err}
use Rattle.std.specs.List.{list_any}
use Rattle.js_value.specs.Text.{utf16}
use Rattle.es_model.specs.declared.faults.LexFault.{LexFault}
use Rattle.es_model.specs.declared.faults.LexFault.TheVariants.{Memory, BadEscape}
use Rattle.es_model.specs.declared.token.Token.{Token}
use Rattle.es_model.specs.declared.token.TokenKind.{TokenKind}
use Rattle.es_model.specs.declared.token.TokenKind.TheVariants as k
use Rattle.es_model.specs.Tokens as s
use Rattle.es_model.specs.Tokens.{Element, Between, Word, Wrong}
use Rattle.js_lexer.specs.Left.{Left, skip}
use Rattle.js_lexer.specs.declared.escapes.Escape.{Escape}
use Rattle.js_lexer.specs.declared.escapes.Escape.TheVariants.{Continuation, CodePoint}
use Rattle.js_lexer.specs.declared.elements.Found.{Found}
use Rattle.js_lexer.specs.declared.elements.Found.TheVariants.{Gap, Token as Lexeme}

-- A reader answers what is expected, and leaves what is expected to be left; only want of memory is free.
abbrev pub Reads : {A : Type 0} → Result (A × Left) LexFault → Result A LexFault → Left → Type 0
Reads expected (Ok value) left = expected ≡ Ok (value, left)
Reads expected (Err fault) left = fault ≢ Memory → expected ≡ Err fault

-- The same of a reader that may find nothing; what is left then is free.
abbrev pub Finds : {A : Type 0} → Option (A × Left) → Option A → Left → Type 0
Finds expected None left = expected ≡ None
Finds expected (Some value) left = expected ≡ Some (value, left)

-- the whole answers what is expected; only want of memory is free
abbrev pub Answers : Result (List Token) LexFault → Result (List Token) LexFault → Type 0
Answers expected (Ok tokens) = expected ≡ Ok tokens
Answers expected (Err fault) = fault ≢ Memory → expected ≡ Err fault

-- the same of a list that is filled
abbrev pub Lists : Result (List Token) LexFault → Result Unit LexFault → List Token → Type 0
Lists expected (Ok done) tokens = expected ≡ Ok tokens
Lists expected (Err fault) tokens = fault ≢ Memory → expected ≡ Err fault

-- what a reader of an element is expected to answer, given what is left after its first character
abbrev pub found : Element → Left → Result (Found × Left) LexFault
found (Between line more) left = Ok (Gap line, skip more left)
found (Word kind more) left = Ok (Lexeme kind, skip more left)
found (Wrong fault) left = Err fault

-- what is left behind the characters that pass a test
abbrev pub behind : (ℕ → Bool) → Left → Left
behind test left = skip (length (take_while test left.text)) left

-- a block comment, after its first two characters: whether it has a line break, and what is left
abbrev pub comment : Left → Option (Bool × Left)
comment left =
    elim (s.comment_end left.text) [
      | Some n ↦ Some (list_any s.is_line_break (take n left.text), skip n left)
      | None ↦ None
    ]

-- an escape, after its backslash: its units, and what is left
abbrev pub escape : Left → Option (List ℕ × Left)
escape left = elim (s.escape left.text) [ Some (units, count) ↦ Some (units, skip count left) | None ↦ None ]

-- so many hexadecimal digits: their value, and what is left
abbrev pub hexadecimal : ℕ → Left → Option (ℕ × Left)
hexadecimal count left =
    elim (s.hexadecimal count left.text) [
      | true ↦ Some (s.number_after 0 16 (take count left.text), skip count left)
      | false ↦ None
    ]

-- `\u{H..}`, after its brace: its code point, and what is left
abbrev pub code_point : Left → Option (ℕ × Left)
code_point left =
    let digits = take_while (s.is_digit_of 16) left.text in
    elim (not (length digits == 0) && nat_le (s.number_after 0 16 digits) 0x10FFFF && s.first_is (λ c. c == 125) (drop (length digits) left.text)
    ) [ true ↦ Some (s.number_after 0 16 digits, skip (length digits + 1) left) | false ↦ None ]

-- `\u`, after the letter
abbrev pub unicode : Left → Option (ℕ × Left)
unicode left = elim (s.first_is (λ c. c == 123) left.text) [ true ↦ code_point (skip 1 left) | false ↦ hexadecimal 4 left ]

-- an escape of no letter that names something, after its first character
abbrev pub plain : ℕ → Left → Option (List ℕ × Left)
plain c left =
    elim (s.is_digit c) [
      | true ↦ elim ((c == 48) && not (s.first_is s.is_digit left.text)) [ true ↦ Some (0 ∷ [], left) | false ↦ None ]
      | false ↦
          elim ((c == 13) && s.first_is (λ d. d == 10) left.text) [
            | true ↦ Some ([], skip 1 left)
            | false ↦ elim (s.is_line_break c) [ true ↦ Some ([], left) | false ↦ Some (utf16 c, left) ]
          ]
    ]

-- the units of what an escape stands for
abbrev pub units_of : Escape → List ℕ
units_of Continuation = []
units_of (CodePoint c) = utf16 c

-- a code point of Unicode
abbrev pub IsCodePoint : Escape → Type 0
IsCodePoint Continuation = Unit {0}
IsCodePoint (CodePoint c) = c < 0x110000

-- what a text becomes by an escape that stands at a place
abbrev pub Escapes : (at : ℕ) → Option (List ℕ × Left) → List ℕ → Result Unit LexFault → List ℕ → Left → Type 0
Escapes at expected old (Ok done) new left = (units : List ℕ) × (expected ≡ Some (units, left)) × (new ≡ old ++ units)
Escapes at expected old (Err fault) new left = fault ≢ Memory → (expected ≡ None) × (fault ≡ BadEscape at)

-- the longest sign that a character and what is left begin with: its place in the list, and what is left
abbrev pub sign : ℕ → Left → Option (ℕ × Left)
sign c left =
    elim (s.longest_from 0 s.signs (c ∷ left.text)) [
      | Some (n, size) ↦ Some (n, skip (size - 1) left)
      | None ↦ None
    ]

-- a string, after its quote, whose place is `begun`
abbrev pub string_left : Left → Result (List ℕ × Bool × ℕ) LexFault → Result (List ℕ × Left) LexFault
string_left left (Ok (units, last, count)) = Ok (units, skip count left)
string_left left (Err fault) = Err fault

abbrev pub string : (quote begun : ℕ) → Left → Result (List ℕ × Left) LexFault
string quote begun left = string_left left (s.string_from quote 0 begun left.at left.text)

-- what is left after a line feed, where one is next
abbrev pub fed : Left → Left
fed left = skip (elim (s.first_is (λ d. d == 10) left.text) [ true ↦ 1 | false ↦ 0 ]) left

-- a piece of a template whose backquote stands at `begun`: its units, whether it is the last, and what is left
abbrev pub piece_left : Left → Result (List ℕ × Bool × ℕ) LexFault → Result ((List ℕ × Bool) × Left) LexFault
piece_left left (Ok (units, last, count)) = Ok ((units, last), skip count left)
piece_left left (Err fault) = Err fault

abbrev pub piece : (begun : ℕ) → Left → Result ((List ℕ × Bool) × Left) LexFault
piece begun left = piece_left left (s.template_from 0 begun left.at left.text)

-- a number, cut to the least that is too large
abbrev pub capped : ℕ → ℕ
capped n = min n 9007199254740992

-- the token of a word
abbrev pub word_of : List ℕ → TokenKind
word_of text = elim (s.keyword_of text) [ Some n ↦ k.Keyword n | None ↦ k.Name text ]
