-- Of which kind a token is, by its word; and the tests of tokens in the grammar are the machine's tests of words.
use Rattle.std.proofs.Common.{◌≡◌, ◌∙◌, sym, ap, ap₂, subst, refl, ℕ, zero, suc, ◌≤◌, ◌<◌, Bool, true, false, List, [], ◌∷◌, Option, Some, None, arith, true≢false}
use Rattle.std.specs.Prelude.{not, ◌&&◌, ◌||◌, ◌==◌, get_or, nat_lt}
use Rattle.std.proofs.lemmas.Bool.{ne_eqb, ltb-true}
use Prim.Native.String.{String}
use lib.IntN.{ℤ}
use Rattle.es_model.specs.declared.token.Token.{Token}
use Rattle.es_model.specs.declared.token.TokenKind.{TokenKind}
use Rattle.es_model.specs.declared.token.TokenKind.TheVariants as k
use Rattle.es_model.specs.Readings as g
use Rattle.es_model.specs.Readings.{word, same_kind, any_of, is}
use Rattle.es_model.specs.declared.kinds.BinaryOperator.{BinaryOperator}
use Rattle.es_model.specs.Levels.{operator_sign, assignment_sign, unary_sign}
use Rattle.js_parser.specs.declared.words.Word.{Word}
use Rattle.js_parser.specs.declared.words.Word.TheVariants as w
use Rattle.parser_forms.specs.declared.kinds.Infix.{Infix}
use Rattle.parser_forms.specs.declared.kinds.Infix.TheVariants as i
use Rattle.parser_forms.specs.declared.kinds.Prefix.{Prefix}
use Rattle.parser_forms.specs.declared.kinds.Prefix.TheVariants as p
use Rattle.js_parser.specs.Words.{keyword_words, sign_words, keyword_word, sign_word, word_of}
use Rattle.js_parser.specs.Tables as t
use Rattle.js_parser.specs.State.{the_word}

-- Words.

-- what a word says of the kind of its token
abbrev pub Is : Word → TokenKind → Type 0
Is w.Name kind = (text : List ℕ) × (kind ≡ k.Name text)
Is w.Number kind = (value : ℤ) × (kind ≡ k.Number value)
Is w.String kind = (text : List ℕ) × (kind ≡ k.String text)
Is w.Template kind = (text : List ℕ) × (first : Bool) × (last : Bool) × (kind ≡ k.Template first last text)
Is w.End kind = kind ≡ k.End
Is w.Reserved kind = Unit {0}
Is w.Unknown kind = Unit {0}
Is w.Break kind = kind ≡ word "break"
Is w.Case kind = kind ≡ word "case"
Is w.Catch kind = kind ≡ word "catch"
Is w.Class kind = kind ≡ word "class"
Is w.Const kind = kind ≡ word "const"
Is w.Continue kind = kind ≡ word "continue"
Is w.Default kind = kind ≡ word "default"
Is w.Delete kind = kind ≡ word "delete"
Is w.Do kind = kind ≡ word "do"
Is w.Else kind = kind ≡ word "else"
Is w.Export kind = kind ≡ word "export"
Is w.Extends kind = kind ≡ word "extends"
Is w.False kind = kind ≡ word "false"
Is w.Finally kind = kind ≡ word "finally"
Is w.For kind = kind ≡ word "for"
Is w.Function kind = kind ≡ word "function"
Is w.If kind = kind ≡ word "if"
Is w.Import kind = kind ≡ word "import"
Is w.In kind = kind ≡ word "in"
Is w.InstanceOf kind = kind ≡ word "instanceof"
Is w.Let kind = kind ≡ word "let"
Is w.New kind = kind ≡ word "new"
Is w.Null kind = kind ≡ word "null"
Is w.Return kind = kind ≡ word "return"
Is w.Static kind = kind ≡ word "static"
Is w.Super kind = kind ≡ word "super"
Is w.Switch kind = kind ≡ word "switch"
Is w.This kind = kind ≡ word "this"
Is w.Throw kind = kind ≡ word "throw"
Is w.True kind = kind ≡ word "true"
Is w.Try kind = kind ≡ word "try"
Is w.Typeof kind = kind ≡ word "typeof"
Is w.Void kind = kind ≡ word "void"
Is w.While kind = kind ≡ word "while"
Is w.LeftBrace kind = kind ≡ word "{"
Is w.RightBrace kind = kind ≡ word "}"
Is w.LeftParen kind = kind ≡ word "("
Is w.RightParen kind = kind ≡ word ")"
Is w.LeftBracket kind = kind ≡ word "["
Is w.RightBracket kind = kind ≡ word "]"
Is w.Semicolon kind = kind ≡ word ";"
Is w.Comma kind = kind ≡ word ","
Is w.Point kind = kind ≡ word "."
Is w.Less kind = kind ≡ word "<"
Is w.Greater kind = kind ≡ word ">"
Is w.LessOrEqual kind = kind ≡ word "<="
Is w.GreaterOrEqual kind = kind ≡ word ">="
Is w.Equal kind = kind ≡ word "=="
Is w.NotEqual kind = kind ≡ word "!="
Is w.StrictEqual kind = kind ≡ word "==="
Is w.StrictNotEqual kind = kind ≡ word "!=="
Is w.Plus kind = kind ≡ word "+"
Is w.Minus kind = kind ≡ word "-"
Is w.Star kind = kind ≡ word "*"
Is w.Slash kind = kind ≡ word "/"
Is w.Percent kind = kind ≡ word "%"
Is w.StarStar kind = kind ≡ word "**"
Is w.PlusPlus kind = kind ≡ word "++"
Is w.MinusMinus kind = kind ≡ word "--"
Is w.ShiftLeft kind = kind ≡ word "<<"
Is w.ShiftRight kind = kind ≡ word ">>"
Is w.ShiftRightUnsigned kind = kind ≡ word ">>>"
Is w.Ampersand kind = kind ≡ word "&"
Is w.Bar kind = kind ≡ word "|"
Is w.Caret kind = kind ≡ word "^"
Is w.Exclamation kind = kind ≡ word "!"
Is w.Tilde kind = kind ≡ word "~"
Is w.AndAnd kind = kind ≡ word "&&"
Is w.OrOr kind = kind ≡ word "||"
Is w.QuestionQuestion kind = kind ≡ word "??"
Is w.Question kind = kind ≡ word "?"
Is w.Colon kind = kind ≡ word ":"
Is w.Assign kind = kind ≡ word "="
Is w.PlusAssign kind = kind ≡ word "+="
Is w.MinusAssign kind = kind ≡ word "-="
Is w.StarAssign kind = kind ≡ word "*="
Is w.SlashAssign kind = kind ≡ word "/="
Is w.PercentAssign kind = kind ≡ word "%="
Is w.StarStarAssign kind = kind ≡ word "**="
Is w.ShiftLeftAssign kind = kind ≡ word "<<="
Is w.ShiftRightAssign kind = kind ≡ word ">>="
Is w.ShiftRightUnsignedAssign kind = kind ≡ word ">>>="
Is w.AndAssign kind = kind ≡ word "&="
Is w.OrAssign kind = kind ≡ word "|="
Is w.XorAssign kind = kind ≡ word "^="
Is w.Arrow kind = kind ≡ word "=>"

-- a claim of each word of a list by its place, and of the places behind it
abbrev Each : List Word → (Word → ℕ → Type 0) → Type 0
Each [] claim = (n : ℕ) → claim w.Unknown n
Each (one ∷ rest) claim = claim one 0 × Each rest (λ word n. claim word (suc n))

at_each : (words : List Word) (claim : Word → ℕ → Type 0) → Each words claim → (n : ℕ) → claim (get_or words n w.Unknown) n
at_each [] claim h n = h n
at_each (one ∷ rest) claim h zero = h.0
at_each (one ∷ rest) claim h (suc n) = at_each rest (λ word n. claim word (suc n)) h.1 n

keyword_is : (n : ℕ) → Is (keyword_word n) (k.Keyword n)
unfolding word
keyword_is = at_each keyword_words (λ word n. Is word (k.Keyword n))
    (tt, (refl, (refl, (refl, (refl, (refl, (refl, (tt, (refl, (refl, (refl, (refl, (tt, (refl, (refl, (refl, (refl, (refl, (refl, (refl, (tt, (refl, (refl, (refl, (tt, (refl, (refl, (refl, (tt, (tt, (tt, (tt, (refl, (refl, (refl, (refl, (refl, (refl, (refl, (refl, (refl, (tt, (refl, (refl, (tt, (tt, λ n. tt))))))))))))))))))))))))))))))))))))))))))))))

sign_is : (n : ℕ) → Is (sign_word n) (k.Sign n)
unfolding word
sign_is = at_each sign_words (λ word n. Is word (k.Sign n))
    (refl, (refl, (refl, (refl, (refl, (refl, (refl, (refl, (refl, (refl, (refl, (refl, (refl, (refl, (refl, (refl, (refl, (refl, (refl, (refl, (refl, (refl, (refl, (refl, (refl, (refl, (refl, (refl, (refl, (refl, (refl, (refl, (refl, (refl, (refl, (refl, (refl, (refl, (refl, (refl, (refl, (refl, (refl, (refl, (refl, (refl, (refl, (refl, (refl, (refl, (refl, (refl, λ n. tt))))))))))))))))))))))))))))))))))))))))))))))))))))

pub kind_is : (kind : TokenKind) → Is (word_of kind) kind
kind_is (k.Name text) = (text, refl)
kind_is (k.Keyword n) = keyword_is n
kind_is (k.Number value) = (value, refl)
kind_is (k.String text) = (text, refl)
kind_is (k.Template first last text) = (text, first, last, refl)
kind_is (k.Sign n) = sign_is n
kind_is k.End = refl

pub word_is : (token : Token) (word : Word) → the_word token ≡ word → Is word token.kind
word_is token word e = subst (λ u. Is u token.kind) e (kind_is token.kind)

-- Tests.

-- a claim of each kind of token, by what it says of keywords and signs
by_kind : (claim : Word → TokenKind → Type 0) → ((text : List ℕ) → claim w.Name (k.Name text)) → ((value : ℤ) → claim w.Number (k.Number value)) →
    ((text : List ℕ) → claim w.String (k.String text)) → ((text : List ℕ) (first last : Bool) → claim w.Template (k.Template first last text)) → claim w.End k.End →
    Each keyword_words (λ word n. claim word (k.Keyword n)) → Each sign_words (λ word n. claim word (k.Sign n)) → (kind : TokenKind) → claim (word_of kind) kind
by_kind claim name number string template end keywords signs (k.Name text) = name text
by_kind claim name number string template end keywords signs (k.Keyword n) = at_each keyword_words (λ word n. claim word (k.Keyword n)) keywords n
by_kind claim name number string template end keywords signs (k.Number value) = number value
by_kind claim name number string template end keywords signs (k.String text) = string text
by_kind claim name number string template end keywords signs (k.Template first last text) = template text first last
by_kind claim name number string template end keywords signs (k.Sign n) = at_each sign_words (λ word n. claim word (k.Sign n)) signs n
by_kind claim name number string template end keywords signs k.End = end

abbrev of_kind : TokenKind → Token
of_kind kind = record { kind = kind; at = 0; line_before = false }

-- a place within the lists, and places behind them: there stands no text
abbrev near : TokenKind → Bool
near (k.Keyword n) = nat_lt n 46
near (k.Sign n) = nat_lt n 52
near _ = true

abbrev Far : TokenKind → Type 0
Far (k.Keyword n) = 46 ≤ n
Far (k.Sign n) = 52 ≤ n
Far _ = ⊥

abbrev all_near : List String → Bool
all_near [] = true
all_near (text ∷ texts) = near (word text) && all_near texts

apart : (m n most : ℕ) → most ≤ m → nat_lt n most ≡ true → (m == n) ≡ false
apart m n most h e = let p : n < most = ltb-true _ _ e in ne_eqb m n (λ q. omega arith)

far_same : (one other : TokenKind) → Far one → near other ≡ true → same_kind one other ≡ false
far_same (k.Keyword m) (k.Keyword n) h e = apart m n 46 h e
far_same (k.Keyword m) (k.Name text) h e = refl
far_same (k.Keyword m) (k.Number value) h e = refl
far_same (k.Keyword m) (k.String text) h e = refl
far_same (k.Keyword m) (k.Template first last text) h e = refl
far_same (k.Keyword m) (k.Sign n) h e = refl
far_same (k.Keyword m) k.End h e = refl
far_same (k.Sign m) (k.Sign n) h e = apart m n 52 h e
far_same (k.Sign m) (k.Name text) h e = refl
far_same (k.Sign m) (k.Number value) h e = refl
far_same (k.Sign m) (k.String text) h e = refl
far_same (k.Sign m) (k.Template first last text) h e = refl
far_same (k.Sign m) (k.Keyword n) h e = refl
far_same (k.Sign m) k.End h e = refl
far_same (k.Name text) other h e = absurd h
far_same (k.Number value) other h e = absurd h
far_same (k.String text) other h e = absurd h
far_same (k.Template first last text) other h e = absurd h
far_same k.End other h e = absurd h

and_true : (a b : Bool) → (a && b) ≡ true → (a ≡ true) × (b ≡ true)
and_true true true e = (refl, refl)
and_true true false e = absurd (true≢false (sym e))
and_true false b e = absurd (true≢false (sym e))

or_false : {a b : Bool} → a ≡ false → b ≡ false → (a || b) ≡ false
or_false d e = ap₂ (λ a b. a || b) d e

far_any : (kind : TokenKind) → Far kind → (texts : List String) → all_near texts ≡ true → any_of texts (of_kind kind) ≡ false
far_any kind h [] e = refl
far_any kind h (text ∷ texts) e = let (d, c) = and_true (near (word text)) (all_near texts) e in or_false (far_same kind (word text) h d) (far_any kind h texts c)

-- the number that comes `most` behind another
abbrev behind : ℕ → ℕ → ℕ
behind zero n = n
behind (suc most) n = suc (behind most n)

ends_is_kind : (kind : TokenKind) → t.ends (word_of kind) ≡ g.ends (of_kind kind)
unfolding word
ends_is_kind = by_kind (λ word kind. t.ends (word) ≡ g.ends (of_kind kind))
    (λ text. refl) (λ value. refl) (λ text. refl) (λ text first last. refl) refl
    (refl, (refl, (refl, (refl, (refl, (refl, (refl, (refl, (refl, (refl, (refl, (refl, (refl, (refl, (refl, (refl, (refl, (refl, (refl, (refl, (refl, (refl, (refl, (refl, (refl, (refl, (refl, (refl, (refl, (refl, (refl, (refl, (refl, (refl, (refl, (refl, (refl, (refl, (refl, (refl, (refl, (refl, (refl, (refl, (refl, (refl, λ n. sym (or_false (far_same (k.Keyword (behind 46 n)) (word "}") (omega arith) refl) refl)))))))))))))))))))))))))))))))))))))))))))))))
    (refl, (refl, (refl, (refl, (refl, (refl, (refl, (refl, (refl, (refl, (refl, (refl, (refl, (refl, (refl, (refl, (refl, (refl, (refl, (refl, (refl, (refl, (refl, (refl, (refl, (refl, (refl, (refl, (refl, (refl, (refl, (refl, (refl, (refl, (refl, (refl, (refl, (refl, (refl, (refl, (refl, (refl, (refl, (refl, (refl, (refl, (refl, (refl, (refl, (refl, (refl, (refl, λ n. sym (or_false (far_same (k.Sign (behind 52 n)) (word "}") (omega arith) refl) refl)))))))))))))))))))))))))))))))))))))))))))))))))))))

pub ends_is : (token : Token) → t.ends (the_word token) ≡ g.ends (token)
ends_is token = ends_is_kind token.kind

semicolon_is_kind : (kind : TokenKind) → t.is_semicolon (word_of kind) ≡ is ";" (of_kind kind)
unfolding word
semicolon_is_kind = by_kind (λ word kind. t.is_semicolon (word) ≡ is ";" (of_kind kind))
    (λ text. refl) (λ value. refl) (λ text. refl) (λ text first last. refl) refl
    (refl, (refl, (refl, (refl, (refl, (refl, (refl, (refl, (refl, (refl, (refl, (refl, (refl, (refl, (refl, (refl, (refl, (refl, (refl, (refl, (refl, (refl, (refl, (refl, (refl, (refl, (refl, (refl, (refl, (refl, (refl, (refl, (refl, (refl, (refl, (refl, (refl, (refl, (refl, (refl, (refl, (refl, (refl, (refl, (refl, (refl, λ n. sym (far_same (k.Keyword (behind 46 n)) (word ";") (omega arith) refl)))))))))))))))))))))))))))))))))))))))))))))))
    (refl, (refl, (refl, (refl, (refl, (refl, (refl, (refl, (refl, (refl, (refl, (refl, (refl, (refl, (refl, (refl, (refl, (refl, (refl, (refl, (refl, (refl, (refl, (refl, (refl, (refl, (refl, (refl, (refl, (refl, (refl, (refl, (refl, (refl, (refl, (refl, (refl, (refl, (refl, (refl, (refl, (refl, (refl, (refl, (refl, (refl, (refl, (refl, (refl, (refl, (refl, (refl, λ n. sym (far_same (k.Sign (behind 52 n)) (word ";") (omega arith) refl)))))))))))))))))))))))))))))))))))))))))))))))))))))

pub semicolon_is : (token : Token) → t.is_semicolon (the_word token) ≡ is ";" (token)
semicolon_is token = semicolon_is_kind token.kind

goes_on_is_kind : (kind : TokenKind) → t.goes_on (word_of kind) ≡ g.continues_statement (of_kind kind)
unfolding word
goes_on_is_kind = by_kind (λ word kind. t.goes_on (word) ≡ g.continues_statement (of_kind kind))
    (λ text. refl) (λ value. refl) (λ text. refl) (λ text first last. refl) refl
    (refl, (refl, (refl, (refl, (refl, (refl, (refl, (refl, (refl, (refl, (refl, (refl, (refl, (refl, (refl, (refl, (refl, (refl, (refl, (refl, (refl, (refl, (refl, (refl, (refl, (refl, (refl, (refl, (refl, (refl, (refl, (refl, (refl, (refl, (refl, (refl, (refl, (refl, (refl, (refl, (refl, (refl, (refl, (refl, (refl, (refl, λ n. sym (or_false (or_false (far_any (k.Keyword (behind 46 n)) (omega arith) ("(" ∷ "[" ∷ "." ∷ "," ∷ "?" ∷ ":" ∷ "=>" ∷ []) refl) (far_any (k.Keyword (behind 46 n)) (omega arith) ("=" ∷ "+=" ∷ "-=" ∷ "*=" ∷ "/=" ∷ "%=" ∷ "**=" ∷ "<<=" ∷ ">>=" ∷ ">>>=" ∷ "&=" ∷ "|=" ∷ "^=" ∷ []) refl)) (far_any (k.Keyword (behind 46 n)) (omega arith) ("??" ∷ "||" ∷ "&&" ∷ "|" ∷ "^" ∷ "&" ∷ "==" ∷ "!=" ∷ "===" ∷ "!==" ∷ "<" ∷ ">" ∷ "<=" ∷ ">=" ∷ "in" ∷ "instanceof" ∷ "<<" ∷ ">>" ∷ ">>>" ∷ "+" ∷ "-" ∷ "*" ∷ "/" ∷ "%" ∷ "**" ∷ []) refl))))))))))))))))))))))))))))))))))))))))))))))))
    (refl, (refl, (refl, (refl, (refl, (refl, (refl, (refl, (refl, (refl, (refl, (refl, (refl, (refl, (refl, (refl, (refl, (refl, (refl, (refl, (refl, (refl, (refl, (refl, (refl, (refl, (refl, (refl, (refl, (refl, (refl, (refl, (refl, (refl, (refl, (refl, (refl, (refl, (refl, (refl, (refl, (refl, (refl, (refl, (refl, (refl, (refl, (refl, (refl, (refl, (refl, (refl, λ n. sym (or_false (or_false (far_any (k.Sign (behind 52 n)) (omega arith) ("(" ∷ "[" ∷ "." ∷ "," ∷ "?" ∷ ":" ∷ "=>" ∷ []) refl) (far_any (k.Sign (behind 52 n)) (omega arith) ("=" ∷ "+=" ∷ "-=" ∷ "*=" ∷ "/=" ∷ "%=" ∷ "**=" ∷ "<<=" ∷ ">>=" ∷ ">>>=" ∷ "&=" ∷ "|=" ∷ "^=" ∷ []) refl)) (far_any (k.Sign (behind 52 n)) (omega arith) ("??" ∷ "||" ∷ "&&" ∷ "|" ∷ "^" ∷ "&" ∷ "==" ∷ "!=" ∷ "===" ∷ "!==" ∷ "<" ∷ ">" ∷ "<=" ∷ ">=" ∷ "in" ∷ "instanceof" ∷ "<<" ∷ ">>" ∷ ">>>" ∷ "+" ∷ "-" ∷ "*" ∷ "/" ∷ "%" ∷ "**" ∷ []) refl))))))))))))))))))))))))))))))))))))))))))))))))))))))

pub goes_on_is : (token : Token) → t.goes_on (the_word token) ≡ g.continues_statement (token)
goes_on_is token = goes_on_is_kind token.kind

-- Where a semicolon may be missing.

pub may_miss_is : (token : Token) → t.may_miss (the_word token) token.line_before ≡ g.may_miss token
may_miss_is token = ap₂ (λ a b. a || b) (ends_is token) (ap₂ (λ a b. (token.line_before && not a) && not b) (semicolon_is token) (goes_on_is token))

pub may_miss_bare_is : (token : Token) → t.may_miss_bare (the_word token) token.line_before ≡ g.may_miss_bare token
may_miss_bare_is token = ap₂ (λ a b. a || (token.line_before && not b)) (ends_is token) (semicolon_is token)

pub may_miss_after_do_is : (token : Token) → not (t.is_semicolon (the_word token)) ≡ g.may_miss_after_do token
may_miss_after_do_is token = ap not (semicolon_is token)

-- behind the `}` of an export the name `from` is no missing semicolon
pub may_miss_after_export_is : (token : Token) → g.is_from token.kind ≡ false → t.may_miss (the_word token) token.line_before ≡ g.may_miss_after_export token
may_miss_after_export_is token e = may_miss_is token ∙ sym (and_not (g.may_miss token) (g.is_from token.kind) e)
  where
    and_not : (a b : Bool) → b ≡ false → (a && not b) ≡ a
    and_not true b e = ap not e
    and_not false b e = refl

-- The words with which an expression doesn't begin: as a statement, as a default export, and as an arrow's body.

abbrev pub begins_no_value : Word → Bool
begins_no_value w.LeftBrace = true
begins_no_value w.Function = true
begins_no_value w.Class = true
begins_no_value _ = false

abbrev pub begins_no_default : Word → Bool
begins_no_default w.Function = true
begins_no_default w.Class = true
begins_no_default _ = false

abbrev pub begins_no_body : Word → Bool
begins_no_body w.LeftBrace = true
begins_no_body _ = false

no_value_is_kind : (kind : TokenKind) → begins_no_value (word_of kind) ≡ any_of ("{" ∷ "function" ∷ "class" ∷ []) (of_kind kind)
unfolding word
no_value_is_kind = by_kind (λ word kind. begins_no_value (word) ≡ any_of ("{" ∷ "function" ∷ "class" ∷ []) (of_kind kind))
    (λ text. refl) (λ value. refl) (λ text. refl) (λ text first last. refl) refl
    (refl, (refl, (refl, (refl, (refl, (refl, (refl, (refl, (refl, (refl, (refl, (refl, (refl, (refl, (refl, (refl, (refl, (refl, (refl, (refl, (refl, (refl, (refl, (refl, (refl, (refl, (refl, (refl, (refl, (refl, (refl, (refl, (refl, (refl, (refl, (refl, (refl, (refl, (refl, (refl, (refl, (refl, (refl, (refl, (refl, (refl, λ n. sym (far_any (k.Keyword (behind 46 n)) (omega arith) ("{" ∷ "function" ∷ "class" ∷ []) refl)))))))))))))))))))))))))))))))))))))))))))))))
    (refl, (refl, (refl, (refl, (refl, (refl, (refl, (refl, (refl, (refl, (refl, (refl, (refl, (refl, (refl, (refl, (refl, (refl, (refl, (refl, (refl, (refl, (refl, (refl, (refl, (refl, (refl, (refl, (refl, (refl, (refl, (refl, (refl, (refl, (refl, (refl, (refl, (refl, (refl, (refl, (refl, (refl, (refl, (refl, (refl, (refl, (refl, (refl, (refl, (refl, (refl, (refl, λ n. sym (far_any (k.Sign (behind 52 n)) (omega arith) ("{" ∷ "function" ∷ "class" ∷ []) refl)))))))))))))))))))))))))))))))))))))))))))))))))))))

pub no_value_is : (token : Token) → begins_no_value (the_word token) ≡ any_of ("{" ∷ "function" ∷ "class" ∷ []) (token)
no_value_is token = no_value_is_kind token.kind

no_default_is_kind : (kind : TokenKind) → begins_no_default (word_of kind) ≡ any_of ("function" ∷ "class" ∷ []) (of_kind kind)
unfolding word
no_default_is_kind = by_kind (λ word kind. begins_no_default (word) ≡ any_of ("function" ∷ "class" ∷ []) (of_kind kind))
    (λ text. refl) (λ value. refl) (λ text. refl) (λ text first last. refl) refl
    (refl, (refl, (refl, (refl, (refl, (refl, (refl, (refl, (refl, (refl, (refl, (refl, (refl, (refl, (refl, (refl, (refl, (refl, (refl, (refl, (refl, (refl, (refl, (refl, (refl, (refl, (refl, (refl, (refl, (refl, (refl, (refl, (refl, (refl, (refl, (refl, (refl, (refl, (refl, (refl, (refl, (refl, (refl, (refl, (refl, (refl, λ n. sym (far_any (k.Keyword (behind 46 n)) (omega arith) ("function" ∷ "class" ∷ []) refl)))))))))))))))))))))))))))))))))))))))))))))))
    (refl, (refl, (refl, (refl, (refl, (refl, (refl, (refl, (refl, (refl, (refl, (refl, (refl, (refl, (refl, (refl, (refl, (refl, (refl, (refl, (refl, (refl, (refl, (refl, (refl, (refl, (refl, (refl, (refl, (refl, (refl, (refl, (refl, (refl, (refl, (refl, (refl, (refl, (refl, (refl, (refl, (refl, (refl, (refl, (refl, (refl, (refl, (refl, (refl, (refl, (refl, (refl, λ n. sym (far_any (k.Sign (behind 52 n)) (omega arith) ("function" ∷ "class" ∷ []) refl)))))))))))))))))))))))))))))))))))))))))))))))))))))

pub no_default_is : (token : Token) → begins_no_default (the_word token) ≡ any_of ("function" ∷ "class" ∷ []) (token)
no_default_is token = no_default_is_kind token.kind

no_body_is_kind : (kind : TokenKind) → begins_no_body (word_of kind) ≡ any_of ("{" ∷ []) (of_kind kind)
unfolding word
no_body_is_kind = by_kind (λ word kind. begins_no_body (word) ≡ any_of ("{" ∷ []) (of_kind kind))
    (λ text. refl) (λ value. refl) (λ text. refl) (λ text first last. refl) refl
    (refl, (refl, (refl, (refl, (refl, (refl, (refl, (refl, (refl, (refl, (refl, (refl, (refl, (refl, (refl, (refl, (refl, (refl, (refl, (refl, (refl, (refl, (refl, (refl, (refl, (refl, (refl, (refl, (refl, (refl, (refl, (refl, (refl, (refl, (refl, (refl, (refl, (refl, (refl, (refl, (refl, (refl, (refl, (refl, (refl, (refl, λ n. sym (far_any (k.Keyword (behind 46 n)) (omega arith) ("{" ∷ []) refl)))))))))))))))))))))))))))))))))))))))))))))))
    (refl, (refl, (refl, (refl, (refl, (refl, (refl, (refl, (refl, (refl, (refl, (refl, (refl, (refl, (refl, (refl, (refl, (refl, (refl, (refl, (refl, (refl, (refl, (refl, (refl, (refl, (refl, (refl, (refl, (refl, (refl, (refl, (refl, (refl, (refl, (refl, (refl, (refl, (refl, (refl, (refl, (refl, (refl, (refl, (refl, (refl, (refl, (refl, (refl, (refl, (refl, (refl, λ n. sym (far_any (k.Sign (behind 52 n)) (omega arith) ("{" ∷ []) refl)))))))))))))))))))))))))))))))))))))))))))))))))))))

pub no_body_is : (token : Token) → begins_no_body (the_word token) ≡ any_of ("{" ∷ []) (token)
no_body_is token = no_body_is_kind token.kind

-- Operators.

abbrev pub infix_sign : Infix → String
infix_sign (i.Binary operator) = operator_sign operator
infix_sign i.In = "in"
infix_sign i.InstanceOf = "instanceof"
infix_sign i.And = "&&"
infix_sign i.Or = "||"
infix_sign i.Nullish = "??"
infix_sign i.Comma = ","

abbrev pub prefix_sign : Prefix → String
prefix_sign (p.Unary operator) = unary_sign operator
prefix_sign p.Typeof = "typeof"
prefix_sign p.Void = "void"
prefix_sign p.Delete = "delete"

-- what a table's answer says of the kind of the token
abbrev pub IsInfix : Option Infix → TokenKind → Type 0
IsInfix (Some operator) kind = kind ≡ word (infix_sign operator)
IsInfix None kind = Unit {0}

abbrev pub IsPrefix : Option Prefix → TokenKind → Type 0
IsPrefix (Some operator) kind = kind ≡ word (prefix_sign operator)
IsPrefix None kind = Unit {0}

abbrev pub IsSign : Option String → TokenKind → Type 0
IsSign (Some sign) kind = kind ≡ word sign
IsSign None kind = ⊥

abbrev pub IsAssignment : Option (Option BinaryOperator) → TokenKind → Type 0
IsAssignment (Some operator) kind = IsSign (assignment_sign operator) kind
IsAssignment None kind = Unit {0}

pub infix_word : (word : Word) (kind : TokenKind) → Is word kind → IsInfix (t.infix_of word) kind
infix_word w.Plus kind e = e
infix_word w.Minus kind e = e
infix_word w.Star kind e = e
infix_word w.Slash kind e = e
infix_word w.Percent kind e = e
infix_word w.StarStar kind e = e
infix_word w.Ampersand kind e = e
infix_word w.Bar kind e = e
infix_word w.Caret kind e = e
infix_word w.ShiftLeft kind e = e
infix_word w.ShiftRight kind e = e
infix_word w.ShiftRightUnsigned kind e = e
infix_word w.Less kind e = e
infix_word w.Greater kind e = e
infix_word w.LessOrEqual kind e = e
infix_word w.GreaterOrEqual kind e = e
infix_word w.Equal kind e = e
infix_word w.NotEqual kind e = e
infix_word w.StrictEqual kind e = e
infix_word w.StrictNotEqual kind e = e
infix_word w.In kind e = e
infix_word w.InstanceOf kind e = e
infix_word w.AndAnd kind e = e
infix_word w.OrOr kind e = e
infix_word w.QuestionQuestion kind e = e
infix_word w.Comma kind e = e
infix_word _ kind e = tt

pub infix_is : (token : Token) → IsInfix (t.infix_of (the_word token)) token.kind
infix_is token = infix_word (the_word token) token.kind (kind_is token.kind)

pub assignment_word : (word : Word) (kind : TokenKind) → Is word kind → IsAssignment (t.assignment_of word) kind
assignment_word w.Assign kind e = e
assignment_word w.PlusAssign kind e = e
assignment_word w.MinusAssign kind e = e
assignment_word w.StarAssign kind e = e
assignment_word w.SlashAssign kind e = e
assignment_word w.PercentAssign kind e = e
assignment_word w.StarStarAssign kind e = e
assignment_word w.ShiftLeftAssign kind e = e
assignment_word w.ShiftRightAssign kind e = e
assignment_word w.ShiftRightUnsignedAssign kind e = e
assignment_word w.AndAssign kind e = e
assignment_word w.OrAssign kind e = e
assignment_word w.XorAssign kind e = e
assignment_word _ kind e = tt

pub assignment_is : (token : Token) → IsAssignment (t.assignment_of (the_word token)) token.kind
assignment_is token = assignment_word (the_word token) token.kind (kind_is token.kind)

pub prefix_word : (word : Word) (kind : TokenKind) → Is word kind → IsPrefix (t.prefix_of word) kind
prefix_word w.Exclamation kind e = e
prefix_word w.Minus kind e = e
prefix_word w.Plus kind e = e
prefix_word w.Tilde kind e = e
prefix_word w.Typeof kind e = e
prefix_word w.Void kind e = e
prefix_word w.Delete kind e = e
prefix_word _ kind e = tt

pub prefix_is : (token : Token) → IsPrefix (t.prefix_of (the_word token)) token.kind
prefix_is token = prefix_word (the_word token) token.kind (kind_is token.kind)
