-- What the numbers of rows and modes stand for: globals, operators, messages, members (own).
use Rattle.std.specs.Prelude.{ℕ, ◌-◌, Bool, true, false, List, [], ◌∷◌, get_or, Option, Some, None}
use Rattle.js_value.specs.Value.{Undefined, Object}
use Rattle.es_ops.specs.Intrinsics.{Intrinsic, MathObject, ObjectFunction, FunctionFunction, ErrorFunction, RangeErrorFunction, ReferenceErrorFunction, SyntaxErrorFunction, TypeErrorFunction, BooleanFunction, NumberFunction, ParseIntFunction, PromiseFunction, StringFunction, ArrayFunction}
use Rattle.es_ops.specs.Messages.{Message, NumberOutOfRange, StringTooLong, InvalidArrayLength, InvalidArgument, NotDefined, NotInitialised, EmptyArray, SuperCalledTwice, AssignmentToConstant, NotAFunction, NotAConstructor, CalledWithoutNew, NoProperties, NotWritable, NotDefinable, NotDeletable, NotAnObject, NoPrimitiveValue, PrimitiveExpected, AccessorOnIndex, PrototypeNotSettable, ResolvedWithItself, WrongReceiver, ReturnedPrimitive}
use Rattle.es_ops.specs.Operators.{BinaryOperator, Add, Numeric, Relational, Equal, NotEqual, StrictEqual, StrictNotEqual, Subtract, Multiply, Divide, Remainder, Power, BitAnd, BitOr, BitXor, ShiftLeft, ShiftRight, ShiftRightUnsigned, Less, Greater, LessOrEqual, GreaterOrEqual, UnaryOperator, Not, Negate, Plus, BitNot}
use Rattle.es_ops.specs.Making.{MemberSort, DataMember, GetterMember, SetterMember}
use Rattle.es_ops.specs.Events.{TheIntrinsic}
use Rattle.es_ops.specs.Act.{Act, Give, Ask}

-- ---- globals: `undefined`, then functions and Math

abbrev pub globals : List (Option Intrinsic)
globals =
    None ∷ Some ObjectFunction ∷ Some FunctionFunction ∷ Some ErrorFunction ∷ Some RangeErrorFunction ∷ Some ReferenceErrorFunction ∷
    Some SyntaxErrorFunction ∷ Some TypeErrorFunction ∷ Some BooleanFunction ∷ Some NumberFunction ∷ Some MathObject ∷
    Some PromiseFunction ∷ Some ParseIntFunction ∷ Some StringFunction ∷ Some ArrayFunction ∷ []

abbrev pub intrinsic_value : Option Intrinsic → Act
intrinsic_value None = Give Undefined
intrinsic_value (Some i) = Ask (TheIntrinsic i) (λ n. Give (Object n))

abbrev pub global_value : ℕ → Act
global_value row = intrinsic_value (get_or globals row None)

-- ---- operators: + - * / % ** & | ^ << >> >>> < > <= >= == != === !==, and ! - + ~

abbrev pub binary_operators : List BinaryOperator
binary_operators =
    Add ∷ Numeric Subtract ∷ Numeric Multiply ∷ Numeric Divide ∷ Numeric Remainder ∷ Numeric Power ∷
    Numeric BitAnd ∷ Numeric BitOr ∷ Numeric BitXor ∷ Numeric ShiftLeft ∷ Numeric ShiftRight ∷ Numeric ShiftRightUnsigned ∷
    Relational Less ∷ Relational Greater ∷ Relational LessOrEqual ∷ Relational GreaterOrEqual ∷
    Equal ∷ NotEqual ∷ StrictEqual ∷ StrictNotEqual ∷ []

abbrev pub binary_operator : ℕ → BinaryOperator
binary_operator row = get_or binary_operators row Add

abbrev pub unary_operators : List UnaryOperator
unary_operators = Not ∷ Negate ∷ Plus ∷ BitNot ∷ []

abbrev pub unary_operator : ℕ → UnaryOperator
unary_operator row = get_or unary_operators row Not

-- ---- messages, from number 1

abbrev pub messages : List Message
messages =
    NumberOutOfRange ∷ StringTooLong ∷ InvalidArrayLength ∷ InvalidArgument ∷ NotDefined ∷ NotInitialised ∷
    EmptyArray ∷ SuperCalledTwice ∷ AssignmentToConstant ∷ NotAFunction ∷ NotAConstructor ∷ CalledWithoutNew ∷
    NoProperties ∷ NotWritable ∷ NotDefinable ∷ NotDeletable ∷ NotAnObject ∷ NoPrimitiveValue ∷
    PrimitiveExpected ∷ AccessorOnIndex ∷ PrototypeNotSettable ∷ ResolvedWithItself ∷ WrongReceiver ∷ ReturnedPrimitive ∷ []

abbrev pub message_of : ℕ → Message
message_of number = get_or messages (number - 1) NumberOutOfRange

-- ---- members: enumerable and hidden data, getters and setters, hidden getters and setters

pub record Member : Type 0 where
  pub sort : MemberSort
  pub enumerable : Bool

abbrev pub member : MemberSort → Bool → Member
member sort enumerable = record { sort = sort; enumerable = enumerable }

abbrev pub members : List Member
members = member DataMember true ∷ member DataMember false ∷ member GetterMember true ∷ member SetterMember true ∷ member GetterMember false ∷ member SetterMember false ∷ []

abbrev pub member_of : ℕ → Member
member_of mode = get_or members mode (member DataMember true)

-- a name has no prefix, `get ` or `set `
abbrev pub naming_sorts : List MemberSort
naming_sorts = DataMember ∷ GetterMember ∷ SetterMember ∷ []

abbrev pub naming_sort : ℕ → MemberSort
naming_sort mode = get_or naming_sorts mode DataMember
