-- What forms do with the values of their operands (ECMA-262 13, 15): operators, references, members, functions and classes.
use Rattle.std.specs.Prelude.{ℕ, Bool, true, false, cond, List, [], ◌++◌, length, Option, Some, None, codes}
use Rattle.js_value.specs.Value.{Value, Undefined, String, Object}
use Rattle.js_value.specs.Store.{Class, ScriptFunction, object_in}
use Rattle.es_model.specs.declared.kinds.FunctionKind.{FunctionKind}
use Rattle.es_model.specs.declared.kinds.FunctionKind.TheVariants as f
use Rattle.es_model.specs.declared.kinds.MemberKind.{MemberKind}
use Rattle.es_model.specs.declared.kinds.MemberKind.TheVariants as m
use Rattle.es_model.specs.declared.kinds.UnaryOperator.{UnaryOperator}
use Rattle.es_model.specs.declared.kinds.UnaryOperator.TheVariants as u
use Rattle.es_model.specs.declared.kinds.BinaryOperator.{BinaryOperator}
use Rattle.es_model.specs.declared.kinds.BinaryOperator.TheVariants as b
use Rattle.es_model.specs.declared.names.Identifier.{Identifier}
use Rattle.es_model.specs.Tree as t
use Rattle.es_model.specs.Tree.{Tree, Text}
use Rattle.es_ops.specs.Operators as o
use Rattle.es_ops.specs.Messages.{SuperCalledTwice, NotAFunction}
use Rattle.es_ops.specs.Act.{Act, Give, Calls}
use Rattle.es_ops.specs.Making.{FunctionCode, make_function, make_method, make_class, make_derived_class, MemberSort, DataMember, GetterMember, SetterMember}
use Rattle.es_eval.specs.ModuleTables.{FunctionRow, row_by, is_function_at, is_generated_at}
use Rattle.es_eval.specs.Completions.{Normal, Doing, follow, pure, acts}
use Rattle.es_eval.specs.Environments.{Environment, place_of_name, initialise_place, initialised, raises, no_calls, captured_cells, this_name}

-- ---- operators

abbrev pub binary_operator : BinaryOperator → o.BinaryOperator
binary_operator b.Add = o.Add
binary_operator b.Subtract = o.Numeric o.Subtract
binary_operator b.Multiply = o.Numeric o.Multiply
binary_operator b.Divide = o.Numeric o.Divide
binary_operator b.Remainder = o.Numeric o.Remainder
binary_operator b.Power = o.Numeric o.Power
binary_operator b.BitAnd = o.Numeric o.BitAnd
binary_operator b.BitOr = o.Numeric o.BitOr
binary_operator b.BitXor = o.Numeric o.BitXor
binary_operator b.ShiftLeft = o.Numeric o.ShiftLeft
binary_operator b.ShiftRight = o.Numeric o.ShiftRight
binary_operator b.ShiftRightUnsigned = o.Numeric o.ShiftRightUnsigned
binary_operator b.Less = o.Relational o.Less
binary_operator b.Greater = o.Relational o.Greater
binary_operator b.LessOrEqual = o.Relational o.LessOrEqual
binary_operator b.GreaterOrEqual = o.Relational o.GreaterOrEqual
binary_operator b.Equal = o.Equal
binary_operator b.NotEqual = o.NotEqual
binary_operator b.StrictEqual = o.StrictEqual
binary_operator b.StrictNotEqual = o.StrictNotEqual

abbrev pub unary_operator : UnaryOperator → o.UnaryOperator
unary_operator u.Not = o.Not
unary_operator u.Negate = o.Negate
unary_operator u.Plus = o.Plus
unary_operator u.BitNot = o.BitNot

abbrev pub step_operator : (up : Bool) → o.BinaryOperator
step_operator true = o.Add
step_operator false = o.Numeric o.Subtract

-- ---- references (6.2.5)

pub data Reference : Type 0 where
  NameReference : Text → Reference
  PropertyReference : (base key : Value) → Reference
  SuperReference : (this key : Value) → (computed : Bool) → Reference
  NoReference : Value → Reference

-- `this` of a call by a reference (13.3.6.2)
abbrev pub receiver_of : Reference → Value
receiver_of (PropertyReference base key) = base
receiver_of (SuperReference this key computed) = this
receiver_of _ = Undefined

-- ---- what a member is defined on: an object of a literal, or a class's constructor and its prototype object

pub data MembersOf : Type 0 where
  OfObject : ℕ → MembersOf
  OfClass : (constructor prototype : ℕ) → MembersOf

abbrev pub object_of_member : MembersOf → (static : Bool) → ℕ
object_of_member (OfObject n) static = n
object_of_member (OfClass constructor prototype) true = constructor
object_of_member (OfClass constructor prototype) false = prototype

abbrev pub is_enumerable : MembersOf → Bool
is_enumerable (OfObject n) = true
is_enumerable (OfClass constructor prototype) = false

abbrev pub member_sort : MemberKind → MemberSort
member_sort m.Getter = GetterMember
member_sort m.Setter = SetterMember
member_sort _ = DataMember

-- the key of a member: its value, and whether it is computed
pub record MemberKey : Type 0 where
  pub key : Value
  pub computed : Bool

abbrev pub written_key : Text → MemberKey
written_key text = record { key = String text; computed = false }

abbrev pub text_of_key : MemberKey → Text
text_of_key k = text_of k.key k.computed
  where
    text_of : Value → Bool → Text
    text_of (String text) false = text
    text_of v computed = []

-- the name that a function has from a written key (10.2.9); with a computed one it is named when it is made
abbrev pub name_by_key : MemberSort → MemberKey → Text
name_by_key DataMember k = text_of_key k
name_by_key GetterMember k = cond k.computed [] (codes "get " ++ text_of_key k)
name_by_key SetterMember k = cond k.computed [] (codes "set " ++ text_of_key k)

-- IsAnonymousFunctionDefinition (8.4.3)
abbrev pub is_anonymous : Tree t.expression → Bool
is_anonymous (t.Paren form) = is_anonymous form
is_anonymous (t.Function (t.FunctionOf at None kind parameters body)) = true
is_anonymous (t.Class (t.ClassOf at None parent members)) = true
is_anonymous _ = false

-- the name that `=` gives to an anonymous function (13.15.2, step 1.c)
abbrev pub name_of_target : Tree t.expression → Text
name_of_target (t.Name name) = name.name
name_of_target _ = []

abbrev pub name_or : Option Identifier → Text → Text
name_or (Some name) other = name.name
name_or None other = other

-- ---- functions

abbrev pub function_code : Environment → FunctionRow → (name : Text) → (parameters : ℕ) → FunctionCode
function_code env row name parameters =
    record { module_number = env.module_number; function_number = row.number; name = name; parameters = parameters }

abbrev pub given_object : ℕ → Act
given_object n = Give (Object n)

abbrev pub make_by_kind : FunctionKind → FunctionCode → (home : Option ℕ) → (captured : List ℕ) → Act
make_by_kind f.Plain code home captured = make_function code captured given_object
make_by_kind f.Arrow code home captured = make_method code None captured given_object
make_by_kind kind code home captured = make_method code home captured given_object

abbrev pub made_function : Option FunctionRow → FunctionKind → (name : Text) → (parameters : ℕ) → (home : Option ℕ) → Environment → Doing Value
made_function None kind name parameters home env = raises NotAFunction
made_function (Some row) kind name parameters home env =
    acts no_calls (make_by_kind kind (function_code env row name parameters) home (captured_cells env row.free))

-- a function of the text, with the name that it is given where it has none
abbrev pub new_function : Tree t.function → (name : Text) → (home : Option ℕ) → Environment → Doing Value
new_function (t.FunctionOf at written kind parameters body) name home env =
    made_function (row_by (is_function_at at) env.table.rows) kind (name_or written name) (length parameters) home env

-- ---- classes (15.7.14): the constructor

pub record Constructor : Type 0 where
  pub row : Option FunctionRow
  pub parameters : ℕ

abbrev pub constructor_by : Environment → (at : ℕ) → Tree (t.list t.member) → Constructor
constructor_by env at t.none = record { row = row_by (is_generated_at at) env.table.rows; parameters = 0 }
constructor_by env at (t.more (t.MemberOf place fixed kind key value (t.present (t.FunctionOf begins name f.Base parameters body))) rest) =
    record { row = row_by (is_function_at begins) env.table.rows; parameters = length parameters }
constructor_by env at (t.more (t.MemberOf place fixed kind key value (t.present (t.FunctionOf begins name f.Derived parameters body))) rest) =
    record { row = row_by (is_function_at begins) env.table.rows; parameters = length parameters }
constructor_by env at (t.more member rest) = constructor_by env at rest

abbrev pub make_by_parent : Option Value → FunctionCode → (captured : List ℕ) → Act
make_by_parent None code captured = make_class code captured (λ constructor prototype. Give (Object constructor))
make_by_parent (Some parent) code captured = make_derived_class code captured parent (λ constructor prototype. Give (Object constructor))

abbrev pub made_class : Calls → Option FunctionRow → (name : Text) → (parameters : ℕ) → Option Value → Environment → Doing Value
made_class calls None name parameters parent env = raises NotAFunction
made_class calls (Some row) name parameters parent env =
    acts calls (make_by_parent parent (function_code env row name parameters) (captured_cells env row.free))

-- a constructor's home object is its prototype object
abbrev pub home_of_class : Class → Option ℕ
home_of_class (ScriptFunction module_number function_number home captured) = home
home_of_class c = None

abbrev pub members_by : Value → Option ℕ → MembersOf
members_by (Object constructor) (Some prototype) = OfClass constructor prototype
members_by v home = OfObject 0

abbrev pub object_number : Value → ℕ
object_number (Object n) = n
object_number v = 0

abbrev pub members_of_class : Value → Doing MembersOf
members_of_class v = λ h. Normal (members_by v (home_of_class (object_in h.state.world.heap.store (object_number v)).class)) h

-- ---- `this` (13.2.1): an arrow's is that of the function round it

abbrev pub own_this : Doing Value
own_this = λ h. initialised h.this h

-- ---- `super(..)` binds `this` once (9.1.1.3.1); where it is captured its cell is initialised too

abbrev pub bind_this : Option Value → Environment → Value → Doing Value
bind_this (Some this) env v = raises SuperCalledTwice
bind_this None env v = λ h. follow (initialise_place (place_of_name env this_name) v (record h { this = Some v })) (λ _. pure v)

abbrev pub bind_own_this : Environment → Value → Doing Value
bind_own_this env v = λ h. bind_this h.this env v h
