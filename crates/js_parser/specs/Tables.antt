-- What each word does behind and before an operand (ECMA-262, 13), as tables.
use Rattle.std.specs.Prelude.{ℕ, Bool, true, false, not, ◌&&◌, ◌||◌, Option, Some, None, List, [], ◌∷◌, nat_le}
use Rattle.es_model.specs.declared.kinds.BinaryOperator.{BinaryOperator}
use Rattle.es_model.specs.declared.kinds.BinaryOperator.TheVariants as b
use Rattle.es_model.specs.declared.kinds.UnaryOperator.TheVariants as u
use Rattle.es_model.specs.Levels.{right_level}
use Rattle.js_parser.specs.declared.words.Word.{Word}
use Rattle.js_parser.specs.declared.words.Word.TheVariants as w
use Rattle.parser_forms.specs.declared.kinds.Infix.{Infix}
use Rattle.parser_forms.specs.declared.kinds.Infix.TheVariants as i
use Rattle.parser_forms.specs.declared.kinds.Prefix.{Prefix}
use Rattle.parser_forms.specs.declared.kinds.Prefix.TheVariants as p
use Rattle.js_parser.specs.Frame.{Frame}
use Rattle.js_parser.specs.Frame as f
use Rattle.js_parser.specs.ExpressionFrame as x
use Rattle.js_parser.specs.MemberFrame as m
use Rattle.js_parser.specs.StatementFrame as s
use Rattle.js_parser.specs.ItemFrame as n
use Rattle.parser_forms.specs.Parts.{infix_level}

-- Words as operators.

abbrev pub infix_of : Word → Option Infix
infix_of w.Plus = Some (i.Binary b.Add)
infix_of w.Minus = Some (i.Binary b.Subtract)
infix_of w.Star = Some (i.Binary b.Multiply)
infix_of w.Slash = Some (i.Binary b.Divide)
infix_of w.Percent = Some (i.Binary b.Remainder)
infix_of w.StarStar = Some (i.Binary b.Power)
infix_of w.Ampersand = Some (i.Binary b.BitAnd)
infix_of w.Bar = Some (i.Binary b.BitOr)
infix_of w.Caret = Some (i.Binary b.BitXor)
infix_of w.ShiftLeft = Some (i.Binary b.ShiftLeft)
infix_of w.ShiftRight = Some (i.Binary b.ShiftRight)
infix_of w.ShiftRightUnsigned = Some (i.Binary b.ShiftRightUnsigned)
infix_of w.Less = Some (i.Binary b.Less)
infix_of w.Greater = Some (i.Binary b.Greater)
infix_of w.LessOrEqual = Some (i.Binary b.LessOrEqual)
infix_of w.GreaterOrEqual = Some (i.Binary b.GreaterOrEqual)
infix_of w.Equal = Some (i.Binary b.Equal)
infix_of w.NotEqual = Some (i.Binary b.NotEqual)
infix_of w.StrictEqual = Some (i.Binary b.StrictEqual)
infix_of w.StrictNotEqual = Some (i.Binary b.StrictNotEqual)
infix_of w.In = Some i.In
infix_of w.InstanceOf = Some i.InstanceOf
infix_of w.AndAnd = Some i.And
infix_of w.OrOr = Some i.Or
infix_of w.QuestionQuestion = Some i.Nullish
infix_of w.Comma = Some i.Comma
infix_of _ = None

-- an assignment, with the operator of a compound one
abbrev pub assignment_of : Word → Option (Option BinaryOperator)
assignment_of w.Assign = Some None
assignment_of w.PlusAssign = Some (Some b.Add)
assignment_of w.MinusAssign = Some (Some b.Subtract)
assignment_of w.StarAssign = Some (Some b.Multiply)
assignment_of w.SlashAssign = Some (Some b.Divide)
assignment_of w.PercentAssign = Some (Some b.Remainder)
assignment_of w.StarStarAssign = Some (Some b.Power)
assignment_of w.ShiftLeftAssign = Some (Some b.ShiftLeft)
assignment_of w.ShiftRightAssign = Some (Some b.ShiftRight)
assignment_of w.ShiftRightUnsignedAssign = Some (Some b.ShiftRightUnsigned)
assignment_of w.AndAssign = Some (Some b.BitAnd)
assignment_of w.OrAssign = Some (Some b.BitOr)
assignment_of w.XorAssign = Some (Some b.BitXor)
assignment_of _ = None

abbrev pub prefix_of : Word → Option Prefix
prefix_of w.Exclamation = Some (p.Unary u.Not)
prefix_of w.Minus = Some (p.Unary u.Negate)
prefix_of w.Plus = Some (p.Unary u.Plus)
prefix_of w.Tilde = Some (p.Unary u.BitNot)
prefix_of w.Typeof = Some p.Typeof
prefix_of w.Void = Some p.Void
prefix_of w.Delete = Some p.Delete
prefix_of _ = None

-- The level of the form that a word makes of an operand before it, 0 where it makes none. The callee
-- of a `new` takes `.` and `[`, and leaves `(` to the `new`: so these two give one more than their form
-- has. `line` says that a line break stands before the word: `=>`, `++` and `--` make nothing then.
abbrev pub gives_other : Word → Bool → ℕ
gives_other w.Arrow false = 2
gives_other w.Question _ = 3
gives_other w.PlusPlus false = 16
gives_other w.MinusMinus false = 16
gives_other w.LeftParen _ = 17
gives_other w.Point _ = 18
gives_other w.LeftBracket _ = 18
gives_other _ _ = 0

abbrev pub gives_by : Option Infix → Option (Option BinaryOperator) → Word → Bool → ℕ
gives_by (Some operator) assignment word line = infix_level operator
gives_by None (Some operator) word line = 2
gives_by None None word line = gives_other word line

abbrev pub gives : Word → Bool → ℕ
gives word line = gives_by (infix_of word) (assignment_of word) word line

-- the least level of its right operand
abbrev pub right_of : Infix → ℕ
right_of (i.Binary operator) = right_level operator
right_of i.In = 11
right_of i.InstanceOf = 11
right_of i.And = 6
right_of i.Or = 5
right_of i.Nullish = 6
right_of i.Comma = 2

-- The least level of the expression that an open form waits for. The callee of a `new` has 17; that
-- its slot is 18 leaves `(` to the `new`. A form that waits for no expression has 100.
abbrev pub slot_of : Frame → ℕ
slot_of (f.Expression (x.Paren _)) = 1
slot_of (f.Expression (x.Infix operator _)) = right_of operator
slot_of (f.Expression (x.Prefix _ _)) = 15
slot_of (f.Expression (x.Update _ _)) = 17
slot_of (f.Expression (x.New _)) = 18
slot_of (f.Expression (x.Index _)) = 1
slot_of (f.Expression (x.SuperIndex _)) = 1
slot_of (f.Expression (x.Template _ _ _)) = 1
slot_of (f.Expression _) = 2
slot_of (f.Member (m.Parent _ _ _)) = 17
slot_of (f.Member (m.Key _ _ _)) = 2
slot_of (f.Member (m.Value _)) = 2
slot_of (f.Member _) = 100
slot_of (f.Statement s.Value) = 1
slot_of (f.Statement (s.Initialiser _ _ _ _)) = 2
slot_of (f.Statement (s.Test _)) = 1
slot_of (f.Statement (s.DoTest _)) = 1
slot_of (f.Statement s.ForValue) = 1
slot_of (f.Statement (s.ForTest _)) = 1
slot_of (f.Statement (s.ForStep _ _)) = 1
slot_of (f.Statement (s.Return _)) = 1
slot_of (f.Statement s.Throw) = 1
slot_of (f.Statement s.CaseTest) = 1
slot_of (f.Statement _) = 100
slot_of (f.Item (n.Default _)) = 2
slot_of (f.Item _) = 100

abbrev pub slot : List Frame → ℕ
slot [] = 100
slot (frame ∷ frames) = slot_of frame

-- a form ends where the next word makes something looser than it waits for
abbrev pub goes_on_in : Frame → Word → Bool → Bool
goes_on_in frame word line = nat_le (slot_of frame) (gives word line)

-- the same of the innermost of the open forms
abbrev pub goes_on_inside : List Frame → Word → Bool → Bool
goes_on_inside [] word line = false
goes_on_inside (frame ∷ frames) word line = goes_on_in frame word line

-- Missing semicolons (own rule), by the next word and the line break before it.

abbrev pub is_semicolon : Word → Bool
is_semicolon w.Semicolon = true
is_semicolon _ = false

abbrev pub ends : Word → Bool
ends w.RightBrace = true
ends w.End = true
ends _ = false

abbrev pub is_some : {A : Type 0} → Option A → Bool
is_some (Some a) = true
is_some None = false

-- what goes on with a statement after a line break
abbrev pub goes_on_other : Word → Bool
goes_on_other w.Template = true
goes_on_other w.LeftParen = true
goes_on_other w.LeftBracket = true
goes_on_other w.Point = true
goes_on_other w.Question = true
goes_on_other w.Colon = true
goes_on_other w.Arrow = true
goes_on_other _ = false

abbrev pub goes_on : Word → Bool
goes_on word = is_some (infix_of word) || is_some (assignment_of word) || goes_on_other word

abbrev pub may_miss : Word → Bool → Bool
may_miss word line = ends word || (line && not (is_semicolon word) && not (goes_on word))

abbrev pub may_miss_bare : Word → Bool → Bool
may_miss_bare word line = ends word || (line && not (is_semicolon word))
