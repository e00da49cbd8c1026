-- What was read, form by form: of each the tree, if it may be kept, its nesting, and what the grammar asks of it.
use Rattle.std.specs.Prelude.{ℕ, Bool, true, false, List, [], ◌∷◌, ◌++◌, Option, None}
use Rattle.es_model.specs.declared.kinds.Semi.{Semi}
use Rattle.es_model.specs.declared.kinds.Semi.TheVariants as semi
use Rattle.es_model.specs.declared.kinds.FunctionKind.{FunctionKind}
use Rattle.es_model.specs.declared.kinds.FunctionKind.TheVariants as f
use Rattle.es_model.specs.declared.kinds.MemberKind.{MemberKind}
use Rattle.es_model.specs.declared.kinds.MemberKind.TheVariants as m
use Rattle.es_model.specs.declared.kinds.BinaryOperator.{BinaryOperator}
use Rattle.es_model.specs.declared.names.Identifier.{Identifier}
use Rattle.es_model.specs.Tree as t
use Rattle.es_model.specs.Tree.{Tree, Text}
use Rattle.es_model.specs.Levels.{operator_level, is_constructor_key}
use Rattle.parser_forms.specs.declared.parts.Part.{Part}
use Rattle.parser_forms.specs.declared.parts.Heading.{Heading}
use Rattle.parser_forms.specs.declared.parts.Heading.TheVariants as h
use Rattle.parser_forms.specs.declared.parts.Literal.{Literal}
use Rattle.parser_forms.specs.declared.parts.Literal.TheVariants as literals
use Rattle.parser_forms.specs.declared.kinds.Infix.{Infix}
use Rattle.parser_forms.specs.declared.kinds.Infix.TheVariants as i
use Rattle.parser_forms.specs.declared.kinds.Prefix.{Prefix}
use Rattle.parser_forms.specs.declared.kinds.Prefix.TheVariants as p
use Rattle.parser_forms.specs.declared.parts.KeyPart.{KeyPart}
use Rattle.parser_forms.specs.declared.kinds.Bare.{Bare}
use Rattle.parser_forms.specs.declared.kinds.Bare.TheVariants as bares
use Rattle.parser_forms.specs.Kept.{Sorted, flat, around, both, counted, optional}

-- Expressions. `plain` is one of which nothing but its level is asked, `target` one that may be assigned to.

abbrev pub plain : Sorted t.expression → ℕ → ℕ → Part
plain of at level =
    record { of = of; at = at; level = level; is_target = false; is_nullish = false; is_bare_new = false; has_call = false; heading = h.Nothing }

abbrev pub target : Sorted t.expression → ℕ → ℕ → Bool → Part
target of at level has_call =
    record { of = of; at = at; level = level; is_target = true; is_nullish = false; is_bare_new = false; has_call = has_call; heading = h.Nothing }

-- what has nothing in it
abbrev pub leaf : Tree t.expression → ℕ → Part
leaf tree at = plain (counted (flat tree)) at 18

abbrev pub literal_tree : Literal → Tree t.expression
literal_tree literals.This = t.This
literal_tree literals.Null = t.Null
literal_tree literals.True = t.True
literal_tree literals.False = t.False
literal_tree (literals.Number number) = t.Number number
literal_tree (literals.String text) = t.String text

abbrev pub literal : Literal → ℕ → Part
literal one at = leaf (literal_tree one) at

abbrev pub name : Identifier → Part
name one =
    record { of = counted (flat (t.Name one)); at = one.at; level = 18; is_target = true; is_nullish = false; is_bare_new = false; has_call = false; heading = h.Name one }

abbrev pub template : ℕ → List Text → Sorted (t.list t.expression) → Part
template at texts values = plain (counted (around (t.Template texts) values)) at 18

abbrev pub array : ℕ → Sorted (t.list t.expression) → Part
array at items = plain (counted (around t.Array items)) at 18

abbrev pub object : ℕ → Sorted (t.list t.member) → Part
object at members = plain (counted (around t.Object members)) at 18

abbrev pub function_expression : ℕ → Sorted t.function → Part
function_expression at function = plain (counted (around t.Function function)) at 18

abbrev pub arrow_expression : ℕ → Sorted t.function → Part
arrow_expression at function = plain (counted (around t.Function function)) at 2

abbrev pub class_expression : ℕ → Sorted t.class → Part
class_expression at class = plain (counted (around t.Class class)) at 18

-- the names in parentheses are an arrow's head
abbrev pub enclosed : Heading → Heading
enclosed (h.Name one) = h.Head (one ∷ [])
enclosed (h.Names names) = h.Head names
enclosed _ = h.Nothing

abbrev pub paren : ℕ → Part → Part
paren at part =
    record { of = counted (around t.Paren part.of); at = at; level = 18; is_target = part.is_target; is_nullish = false; is_bare_new = false; has_call = false; heading = enclosed part.heading }

abbrev pub dot : Part → Text → Part
dot part text = target (counted (around (λ tree. t.Dot tree text) part.of)) part.at 17 part.has_call

abbrev pub index : Part → Part → Part
index part key = target (counted (both t.Index part.of key.of)) part.at 17 part.has_call

abbrev pub super_dot : ℕ → Text → Part
super_dot at text = target (counted (flat (t.SuperDot at text))) at 17 false

abbrev pub super_index : ℕ → Part → Part
super_index at key = target (counted (around (t.SuperIndex at) key.of)) at 17 false

-- a call, and `super` with arguments: both have a call in them
abbrev pub calling : Sorted t.expression → ℕ → Part
calling of at =
    record { of = of; at = at; level = 17; is_target = false; is_nullish = false; is_bare_new = false; has_call = true; heading = h.Nothing }

abbrev pub call : Part → Sorted (t.list t.expression) → Part
call callee arguments = calling (counted (both t.Call callee.of arguments)) callee.at

abbrev pub super_call : ℕ → Sorted (t.list t.expression) → Part
super_call at arguments = calling (counted (around (t.SuperCall at) arguments)) at

abbrev pub new_call : ℕ → Part → Sorted (t.list t.expression) → Part
new_call at callee arguments = plain (counted (both (λ tree list. t.New tree (t.present list)) callee.of arguments)) at 17

abbrev pub bare_new : ℕ → Part → Part
bare_new at callee =
    record { of = counted (around (λ tree. t.New tree t.absent) callee.of); at = at; level = 17; is_target = false; is_nullish = false; is_bare_new = true; has_call = false; heading = h.Nothing }

abbrev pub update_before : ℕ → Bool → Part → Part
update_before at up part = plain (counted (around (t.Update at up true) part.of)) at 16

abbrev pub update_behind : Bool → Part → Part
update_behind up part = plain (counted (around (t.Update part.at up false) part.of)) part.at 16

abbrev pub prefix_tree : Prefix → ℕ → Tree t.expression → Tree t.expression
prefix_tree (p.Unary operator) at tree = t.Unary operator tree
prefix_tree p.Typeof at tree = t.Typeof tree
prefix_tree p.Void at tree = t.Void tree
prefix_tree p.Delete at tree = t.Delete at tree

abbrev pub prefix_form : Prefix → ℕ → Part → Part
prefix_form operator at part = plain (counted (around (prefix_tree operator at) part.of)) at 15

abbrev pub infix_tree : Infix → Tree t.expression → Tree t.expression → Tree t.expression
infix_tree (i.Binary operator) left right = t.Binary operator left right
infix_tree i.In left right = t.In left right
infix_tree i.InstanceOf left right = t.InstanceOf left right
infix_tree i.And left right = t.And left right
infix_tree i.Or left right = t.Or left right
infix_tree i.Nullish left right = t.Nullish left right
infix_tree i.Comma left right = t.Comma left right

abbrev pub infix_level : Infix → ℕ
infix_level (i.Binary operator) = operator_level operator
infix_level i.In = 10
infix_level i.InstanceOf = 10
infix_level i.And = 5
infix_level i.Or = 4
infix_level i.Nullish = 4
infix_level i.Comma = 1

-- names with a comma between are a list of names
abbrev pub listed_names : Heading → Heading → Heading
listed_names (h.Name one) (h.Name two) = h.Names (one ∷ two ∷ [])
listed_names (h.Names names) (h.Name last) = h.Names (names ++ last ∷ [])
listed_names _ _ = h.Nothing

abbrev pub infix_heading : Infix → Heading → Heading → Heading
infix_heading i.Comma left right = listed_names left right
infix_heading _ left right = h.Nothing

abbrev pub infix_nullish : Infix → Bool
infix_nullish i.Nullish = true
infix_nullish _ = false

abbrev pub operation : Infix → Part → Part → Part
operation operator left right =
    record { of = counted (both (infix_tree operator) left.of right.of); at = left.at; level = infix_level operator; is_target = false; is_nullish = infix_nullish operator; is_bare_new = false; has_call = false; heading = infix_heading operator left.heading right.heading }

abbrev pub conditional : Part → Part → Part → Part
conditional test first other = plain (counted (both (λ make tree. make tree) (both t.Conditional test.of first.of) other.of)) test.at 3

abbrev pub assign : Part → Option BinaryOperator → Part → Part
assign to operator value = plain (counted (both (λ left right. t.Assign to.at left operator right) to.of value.of)) to.at 2

-- Keys and members.

abbrev pub key : Tree t.key → KeyPart
key tree = record { of = flat tree; is_constructor = is_constructor_key tree }

abbrev pub computed_key : Part → KeyPart
computed_key part = record { of = around t.KeyComputed part.of; is_constructor = false }

abbrev pub value_member : ℕ → KeyPart → Part → Sorted t.member
value_member at of value = both (λ k v. t.MemberOf at false m.Value k (t.present v) t.absent) of.of value.of

abbrev pub short_member : Identifier → Sorted t.member
short_member one = flat (t.MemberOf one.at false m.Short (t.KeyWord one.name) t.absent t.absent)

abbrev pub function_member : ℕ → Bool → MemberKind → KeyPart → Sorted t.function → Sorted t.member
function_member at fixed kind of function = both (λ k v. t.MemberOf at fixed kind k t.absent (t.present v)) of.of function

-- Functions and classes.

-- the kind of the function of a member; `derived` says of a class that it has a parent
abbrev pub method_kind : MemberKind → Bool → Bool → Bool → FunctionKind
method_kind m.Getter fixed constructor derived = f.Getter
method_kind m.Setter fixed constructor derived = f.Setter
method_kind _ false true true = f.Derived
method_kind _ false true false = f.Base
method_kind _ _ _ _ = f.Method

abbrev pub function : ℕ → Option Identifier → FunctionKind → List Identifier → Sorted (t.list t.statement) → Sorted t.function
function at own kind parameters statements = counted (around (λ list. t.FunctionOf at own kind parameters (t.BodyStatements list)) statements)

-- an arrow whose body is an expression
abbrev pub arrow : ℕ → List Identifier → Part → Part
arrow at parameters value =
    arrow_expression at (counted (around (λ tree. t.FunctionOf at None f.Arrow parameters (t.BodyExpression tree)) value.of))

abbrev pub class : ℕ → Option Identifier → Option (Sorted t.expression) → Sorted (t.list t.member) → Sorted t.class
class at own parent members = counted (both (t.ClassOf at own) (optional parent) members)

-- Statements.

abbrev pub bare_tree : Bare → Tree t.statement
bare_tree bares.Empty = t.Empty
bare_tree (bares.Break at mark) = t.Break at mark
bare_tree (bares.Continue at mark) = t.Continue at mark

abbrev pub bare : Tree t.statement → Sorted t.statement
bare tree = counted (flat tree)

abbrev pub value : Sorted t.expression → Semi → Sorted t.statement
value of mark = counted (around (λ tree. t.Value tree mark) of)

abbrev pub declarator : Identifier → Option (Sorted t.expression) → Sorted t.declarator
declarator own initialiser = around (t.DeclaratorOf own) (optional initialiser)

abbrev pub declare : Bool → Sorted (t.list t.declarator) → Semi → Sorted t.statement
declare constant names mark = counted (around (λ list. t.Declare constant list mark) names)

abbrev pub function_statement : Sorted t.function → Sorted t.statement
function_statement of = counted (around t.FunctionStatement of)

abbrev pub class_statement : Sorted t.class → Sorted t.statement
class_statement of = counted (around t.ClassStatement of)

abbrev pub block : Sorted (t.list t.statement) → Sorted t.statement
block statements = counted (around t.Block statements)

abbrev pub choice : Sorted t.expression → Sorted t.statement → Option (Sorted t.statement) → Sorted t.statement
choice test first other = counted (both (λ make tree. make tree) (both t.If test first) (optional other))

abbrev pub for_loop : Sorted t.head → Option (Sorted t.expression) → Option (Sorted t.expression) → Sorted t.statement → Sorted t.statement
for_loop head test step body =
    counted (both (λ make tree. make tree) (both (λ make tree. make tree) (both t.For head (optional test)) (optional step)) body)

abbrev pub head_nothing : Sorted t.head
head_nothing = flat t.HeadNothing

abbrev pub head_value : Sorted t.expression → Sorted t.head
head_value of = around t.HeadValue of

abbrev pub head_declare : Bool → Sorted (t.list t.declarator) → Sorted t.head
head_declare constant names = around (t.HeadDeclare constant) names

abbrev pub while_loop : Sorted t.expression → Sorted t.statement → Sorted t.statement
while_loop test body = counted (both t.While test body)

abbrev pub do_loop : Sorted t.statement → Sorted t.expression → Semi → Sorted t.statement
do_loop body test mark = counted (both (λ one two. t.DoWhile one two mark) body test)

abbrev pub return : ℕ → Option (Sorted t.expression) → Semi → Sorted t.statement
return at of mark = counted (around (λ tree. t.Return at tree mark) (optional of))

abbrev pub throw : Sorted t.expression → Semi → Sorted t.statement
throw of mark = counted (around (λ tree. t.Throw tree mark) of)

abbrev pub guarded : Sorted (t.list t.statement) → Option Identifier → Option (Sorted (t.list t.statement)) → Option (Sorted (t.list t.statement)) → Sorted t.statement
guarded tried caught catch finally =
    counted (both (λ make tree. make tree) (both (λ one two. t.Try one caught two) tried (optional catch)) (optional finally))

abbrev pub case : Option (Sorted t.expression) → Sorted (t.list t.statement) → Sorted t.case
case test body = both t.CaseOf (optional test) body

abbrev pub switch : Sorted t.expression → Sorted (t.list t.case) → Sorted t.statement
switch of cases = counted (both t.Switch of cases)

-- Items.

abbrev pub plain_item : Sorted t.statement → Sorted t.item
plain_item statement = around t.Plain statement

abbrev pub exported_item : Sorted t.statement → Sorted t.item
exported_item statement = around t.ExportDeclaration statement

abbrev pub default_function : ℕ → Sorted t.function → Sorted t.item
default_function at of = around (λ tree. t.ExportDefault at (t.DefaultFunction tree) semi.Missing) of

abbrev pub default_class : ℕ → Sorted t.class → Sorted t.item
default_class at of = around (λ tree. t.ExportDefault at (t.DefaultClass tree) semi.Missing) of

abbrev pub default_value : ℕ → Sorted t.expression → Semi → Sorted t.item
default_value at of mark = around (λ tree. t.ExportDefault at (t.DefaultValue tree) mark) of

abbrev pub bare_item : Tree t.item → Sorted t.item
bare_item tree = flat tree
