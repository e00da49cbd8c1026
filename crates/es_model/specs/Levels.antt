-- How tightly expressions hold together (ECMA-262, 13), and what else the grammar asks of a tree.
use Rattle.std.specs.Prelude.{ℕ, suc, Bool, true, false, codes, Option, Some, None}
use Prim.Native.String.{String}
use Rattle.es_model.specs.declared.kinds.FunctionKind.{FunctionKind}
use Rattle.es_model.specs.declared.kinds.FunctionKind.TheVariants as f
use Rattle.es_model.specs.declared.kinds.BinaryOperator.{BinaryOperator}
use Rattle.es_model.specs.declared.kinds.BinaryOperator.TheVariants as b
use Rattle.es_model.specs.declared.kinds.UnaryOperator.{UnaryOperator}
use Rattle.es_model.specs.declared.kinds.UnaryOperator.TheVariants as u
use Rattle.es_model.specs.Tokens.{same_text}
use Rattle.es_model.specs.Tree as t
use Rattle.es_model.specs.Tree.{Tree}

-- An operator's sign, its level, and the least levels of its operands. All group to the left but
-- `**`, whose left operand is an update or tighter.

abbrev pub operator_sign : BinaryOperator → String
operator_sign b.Add = "+"
operator_sign b.Subtract = "-"
operator_sign b.Multiply = "*"
operator_sign b.Divide = "/"
operator_sign b.Remainder = "%"
operator_sign b.Power = "**"
operator_sign b.BitAnd = "&"
operator_sign b.BitOr = "|"
operator_sign b.BitXor = "^"
operator_sign b.ShiftLeft = "<<"
operator_sign b.ShiftRight = ">>"
operator_sign b.ShiftRightUnsigned = ">>>"
operator_sign b.Less = "<"
operator_sign b.Greater = ">"
operator_sign b.LessOrEqual = "<="
operator_sign b.GreaterOrEqual = ">="
operator_sign b.Equal = "=="
operator_sign b.NotEqual = "!="
operator_sign b.StrictEqual = "==="
operator_sign b.StrictNotEqual = "!=="

abbrev pub operator_level : BinaryOperator → ℕ
operator_level b.Add = 12
operator_level b.Subtract = 12
operator_level b.Multiply = 13
operator_level b.Divide = 13
operator_level b.Remainder = 13
operator_level b.Power = 14
operator_level b.BitAnd = 8
operator_level b.BitOr = 6
operator_level b.BitXor = 7
operator_level b.ShiftLeft = 11
operator_level b.ShiftRight = 11
operator_level b.ShiftRightUnsigned = 11
operator_level b.Less = 10
operator_level b.Greater = 10
operator_level b.LessOrEqual = 10
operator_level b.GreaterOrEqual = 10
operator_level b.Equal = 9
operator_level b.NotEqual = 9
operator_level b.StrictEqual = 9
operator_level b.StrictNotEqual = 9

abbrev pub left_level : BinaryOperator → ℕ
left_level b.Power = 16
left_level operator = operator_level operator

abbrev pub right_level : BinaryOperator → ℕ
right_level b.Power = operator_level b.Power
right_level operator = suc (operator_level operator)

-- the sign of an assignment: `=`, or that of an operator of the levels 6 to 14 but the comparisons
abbrev pub assignment_sign : Option BinaryOperator → Option String
assignment_sign None = Some "="
assignment_sign (Some b.Add) = Some "+="
assignment_sign (Some b.Subtract) = Some "-="
assignment_sign (Some b.Multiply) = Some "*="
assignment_sign (Some b.Divide) = Some "/="
assignment_sign (Some b.Remainder) = Some "%="
assignment_sign (Some b.Power) = Some "**="
assignment_sign (Some b.BitAnd) = Some "&="
assignment_sign (Some b.BitOr) = Some "|="
assignment_sign (Some b.BitXor) = Some "^="
assignment_sign (Some b.ShiftLeft) = Some "<<="
assignment_sign (Some b.ShiftRight) = Some ">>="
assignment_sign (Some b.ShiftRightUnsigned) = Some ">>>="
assignment_sign (Some _) = None

abbrev pub unary_sign : UnaryOperator → String
unary_sign u.Not = "!"
unary_sign u.Negate = "-"
unary_sign u.Plus = "+"
unary_sign u.BitNot = "~"

-- an arrow is as loose as an assignment, any other function as tight as can be
abbrev pub function_level : FunctionKind → ℕ
function_level f.Arrow = 2
function_level _ = 18

-- The level of an expression, from 1, a comma, to 18, what holds together by itself.
abbrev pub level : Tree t.expression → ℕ
level (t.Comma _ _) = 1
level (t.Assign _ _ _ _) = 2
level (t.Function (t.FunctionOf _ _ kind _ _)) = function_level kind
level (t.Conditional _ _ _) = 3
level (t.Or _ _) = 4
level (t.Nullish _ _) = 4
level (t.And _ _) = 5
level (t.Binary operator _ _) = operator_level operator
level (t.In _ _) = 10
level (t.InstanceOf _ _) = 10
level (t.Unary _ _) = 15
level (t.Typeof _) = 15
level (t.Void _) = 15
level (t.Delete _ _) = 15
level (t.Update _ _ _ _) = 16
level (t.Dot _ _) = 17
level (t.Index _ _) = 17
level (t.SuperDot _ _) = 17
level (t.SuperIndex _ _) = 17
level (t.Call _ _) = 17
level (t.New _ _) = 17
level (t.SuperCall _ _) = 17
level _ = 18

-- Facts that the grammar asks of operands.

abbrev pub is_nullish : Tree t.expression → Bool
is_nullish (t.Nullish _ _) = true
is_nullish _ = false

-- a `new` without arguments
abbrev pub is_bare_new : Tree t.expression → Bool
is_bare_new (t.New _ t.absent) = true
is_bare_new _ = false

-- a member form with a call in it, outside parentheses, keys and arguments
abbrev pub has_call : Tree t.expression → Bool
has_call (t.Call _ _) = true
has_call (t.SuperCall _ _) = true
has_call (t.Dot of _) = has_call of
has_call (t.Index of _) = has_call of
has_call _ = false

-- what may be assigned to: names, member forms and super member forms, also in parentheses
abbrev pub is_target : Tree t.expression → Bool
is_target (t.Name _) = true
is_target (t.Dot _ _) = true
is_target (t.Index _ _) = true
is_target (t.SuperDot _ _) = true
is_target (t.SuperIndex _ _) = true
is_target (t.Paren of) = is_target of
is_target _ = false

abbrev pub is_declaration : Tree t.statement → Bool
is_declaration (t.Declare _ _ _) = true
is_declaration (t.FunctionStatement _) = true
is_declaration (t.ClassStatement _) = true
is_declaration _ = false

-- a statement ends in an If without an else
abbrev pub ends_in_short_if : Tree t.statement → Bool
ends_in_short_if (t.If _ _ t.absent) = true
ends_in_short_if (t.If _ _ (t.present other)) = ends_in_short_if other
ends_in_short_if (t.For _ _ _ body) = ends_in_short_if body
ends_in_short_if (t.While _ body) = ends_in_short_if body
ends_in_short_if _ = false

-- the number of cases of a switch that are its default
abbrev pub defaults : Tree (t.list t.case) → ℕ
defaults t.none = 0
defaults (t.more (t.CaseOf t.absent _) cases) = suc (defaults cases)
defaults (t.more (t.CaseOf (t.present _) _) cases) = defaults cases

-- each declared name has an initialiser
abbrev pub all_initialised : Tree (t.list t.declarator) → Bool
all_initialised t.none = true
all_initialised (t.more (t.DeclaratorOf _ t.absent) names) = false
all_initialised (t.more (t.DeclaratorOf _ (t.present _)) names) = all_initialised names

-- a key that is written, and not computed, as a text
abbrev pub is_constructor_key : Tree t.key → Bool
is_constructor_key (t.KeyWord text) = same_text text (codes "constructor")
is_constructor_key (t.KeyString text) = same_text text (codes "constructor")
is_constructor_key _ = false

-- Where a member stands: in an object literal, or in a class, which may have a parent.
pub data Holder : Type 0 where
  InObject : Holder
  InClass : Bool → Holder

-- `static` stands in classes alone
abbrev pub may_be_fixed : Holder → Bool → Bool
may_be_fixed InObject true = false
may_be_fixed InObject false = true
may_be_fixed (InClass derived) fixed = true

-- the kind of the function of a method: in a class the one that isn't static with the written key
-- `constructor` is the constructor
abbrev constructor_kind : Bool → Bool → FunctionKind
constructor_kind false derived = f.Method
constructor_kind true true = f.Derived
constructor_kind true false = f.Base

abbrev pub method_kind : Holder → Bool → Tree t.key → FunctionKind
method_kind InObject fixed key = f.Method
method_kind (InClass derived) true key = f.Method
method_kind (InClass derived) false key = constructor_kind (is_constructor_key key) derived
