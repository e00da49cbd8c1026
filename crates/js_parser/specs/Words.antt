-- The words that tokens are, in the order of the lists of keywords and signs (ECMA-262, 12.7.2 and 12.8).
use Rattle.std.specs.Prelude.{ℕ, List, [], ◌∷◌, get_or}
use Rattle.es_model.specs.declared.token.TokenKind.{TokenKind}
use Rattle.es_model.specs.declared.token.TokenKind.TheVariants as k
use Rattle.js_parser.specs.declared.words.Word.{Word}
use Rattle.js_parser.specs.declared.words.Word.TheVariants as w

abbrev pub keyword_words : List Word
keyword_words =
    w.Reserved ∷ w.Break ∷ w.Case ∷ w.Catch ∷ w.Class ∷ w.Const ∷ w.Continue ∷ w.Reserved ∷ w.Default ∷ w.Delete ∷
    w.Do ∷ w.Else ∷ w.Reserved ∷ w.Export ∷ w.Extends ∷ w.False ∷ w.Finally ∷ w.For ∷ w.Function ∷ w.If ∷
    w.Reserved ∷ w.Import ∷ w.In ∷ w.InstanceOf ∷ w.Reserved ∷ w.Let ∷ w.New ∷ w.Null ∷ w.Reserved ∷ w.Reserved ∷
    w.Reserved ∷ w.Reserved ∷ w.Return ∷ w.Static ∷ w.Super ∷ w.Switch ∷ w.This ∷ w.Throw ∷ w.True ∷ w.Try ∷
    w.Typeof ∷ w.Reserved ∷ w.Void ∷ w.While ∷ w.Reserved ∷ w.Reserved ∷ []

abbrev pub sign_words : List Word
sign_words =
    w.LeftBrace ∷ w.RightBrace ∷ w.LeftParen ∷ w.RightParen ∷ w.LeftBracket ∷ w.RightBracket ∷ w.Semicolon ∷ w.Comma ∷ w.Point ∷ w.Less ∷
    w.Greater ∷ w.LessOrEqual ∷ w.GreaterOrEqual ∷ w.Equal ∷ w.NotEqual ∷ w.StrictEqual ∷ w.StrictNotEqual ∷ w.Plus ∷ w.Minus ∷ w.Star ∷
    w.Slash ∷ w.Percent ∷ w.StarStar ∷ w.PlusPlus ∷ w.MinusMinus ∷ w.ShiftLeft ∷ w.ShiftRight ∷ w.ShiftRightUnsigned ∷ w.Ampersand ∷ w.Bar ∷
    w.Caret ∷ w.Exclamation ∷ w.Tilde ∷ w.AndAnd ∷ w.OrOr ∷ w.QuestionQuestion ∷ w.Question ∷ w.Colon ∷ w.Assign ∷ w.PlusAssign ∷
    w.MinusAssign ∷ w.StarAssign ∷ w.SlashAssign ∷ w.PercentAssign ∷ w.StarStarAssign ∷ w.ShiftLeftAssign ∷ w.ShiftRightAssign ∷ w.ShiftRightUnsignedAssign ∷ w.AndAssign ∷ w.OrAssign ∷
    w.XorAssign ∷ w.Arrow ∷ []

abbrev pub keyword_word : ℕ → Word
keyword_word place = get_or keyword_words place w.Unknown

abbrev pub sign_word : ℕ → Word
sign_word place = get_or sign_words place w.Unknown

abbrev pub word_of : TokenKind → Word
word_of (k.Name text) = w.Name
word_of (k.Keyword place) = keyword_word place
word_of (k.Number value) = w.Number
word_of (k.String text) = w.String
word_of (k.Template first last text) = w.Template
word_of (k.Sign place) = sign_word place
word_of k.End = w.End
