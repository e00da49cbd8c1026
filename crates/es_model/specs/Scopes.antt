-- Scopes (ECMA-262, 8 and 9): which names are bound where, and where in a text a tree stands.
use Rattle.std.specs.Prelude.{ℕ, Bool, true, false, List, [], ◌∷◌, ◌++◌, map, codes, Option, Some, None}
use Rattle.es_model.specs.declared.kinds.FunctionKind.{FunctionKind}
use Rattle.es_model.specs.declared.names.Identifier.{Identifier}
use Rattle.es_model.specs.declared.names.Pair.{Pair}
use Rattle.es_model.specs.Tokens.{same_text}
use Rattle.es_model.specs.Tree as t
use Rattle.es_model.specs.Tree.{Tree, Text}

-- A function round a place of the text: where its text begins, and its kind.
pub record Enclosing : Type 0 where
  pub at : ℕ
  pub kind : FunctionKind

-- What a binding is: a name at a module's top, an imported name, a name of a scope within, the name
-- that a function expression or a class has inside itself, or a function's `this`. The name of a class
-- statement binds twice at one place of the text: round the class, as Top or Inner, and inside it, as Own.
pub data Role : Type 0 where
  Top : Role
  Imported : Role
  Inner : Role
  Own : Role
  Receiver : Role

-- A binding: its name, the place of its name in the text, and the functions in which it lies,
-- innermost first; of `this` the place is the function's.
pub record Binding : Type 0 where
  pub name : Text
  pub at : ℕ
  pub role : Role
  pub lies : List Enclosing

-- Where a tree stands: the bindings that it sees, innermost first, the functions round it, innermost
-- first, and whether a loop, and a loop or a switch, stands round it in its function.
pub record Setting : Type 0 where
  pub sees : List Binding
  pub round : List Enclosing
  pub in_loop : Bool
  pub in_switch : Bool

-- The names that a list of statements declares, in the text's order.

abbrev pub declarator_names : Tree (t.list t.declarator) → List Identifier
declarator_names t.none = []
declarator_names (t.more (t.DeclaratorOf name _) rest) = name ∷ declarator_names rest

abbrev pub named : Option Identifier → List Identifier
named None = []
named (Some name) = name ∷ []

abbrev pub function_name : Tree t.function → List Identifier
function_name (t.FunctionOf _ name _ _ _) = named name

abbrev pub class_name : Tree t.class → List Identifier
class_name (t.ClassOf _ name _ _) = named name

abbrev pub declared_by : Tree t.statement → List Identifier
declared_by (t.Declare _ declarators _) = declarator_names declarators
declared_by (t.FunctionStatement function) = function_name function
declared_by (t.ClassStatement class) = class_name class
declared_by _ = []

abbrev pub declared : Tree (t.list t.statement) → List Identifier
declared t.none = []
declared (t.more statement rest) = declared_by statement ++ declared rest

-- all cases of a switch are one scope
abbrev pub declared_in_cases : Tree (t.list t.case) → List Identifier
declared_in_cases t.none = []
declared_in_cases (t.more (t.CaseOf _ body) rest) = declared body ++ declared_in_cases rest

abbrev pub declared_by_head : Tree t.head → List Identifier
declared_by_head (t.HeadDeclare _ declarators) = declarator_names declarators
declared_by_head _ = []

abbrev pub declared_in : Tree (t.option (t.list t.statement)) → List Identifier
declared_in t.absent = []
declared_in (t.present statements) = declared statements

-- parameters and a body's top are one scope
abbrev pub declared_by_body : Tree t.body → List Identifier
declared_by_body (t.BodyStatements statements) = declared statements
declared_by_body (t.BodyExpression _) = []

-- a catch name and its block's top are one scope
abbrev pub declared_by_catch : Option Identifier → Tree (t.option (t.list t.statement)) → List Identifier
declared_by_catch caught t.absent = []
declared_by_catch caught (t.present statements) = named caught ++ declared statements

-- The names that a module's top binds: imports, declarations, and the name of a default function or
-- class. Any other default export binds `default`, at the word `default`, which nothing can mention.

abbrev pub given_names : List Pair → List Identifier
given_names pairs = map (λ pair. pair.given) pairs

abbrev pub default_name : ℕ → List Identifier → List Identifier
default_name at [] = record { at = at; name = codes "default" } ∷ []
default_name at names = names

abbrev pub default_names : ℕ → Tree t.default → List Identifier
default_names at (t.DefaultFunction function) = default_name at (function_name function)
default_names at (t.DefaultClass class) = default_name at (class_name class)
default_names at (t.DefaultValue _) = default_name at []

abbrev pub imported_by : Tree t.item → List Identifier
imported_by (t.Import _ pairs _) = given_names pairs
imported_by _ = []

abbrev pub top_declared_by : Tree t.item → List Identifier
top_declared_by (t.ExportDeclaration statement) = declared_by statement
top_declared_by (t.ExportDefault at value _) = default_names at value
top_declared_by (t.Plain statement) = declared_by statement
top_declared_by _ = []

-- the names that a module's top writes, in the text's order
abbrev pub default_written : Tree t.default → List Identifier
default_written (t.DefaultFunction function) = function_name function
default_written (t.DefaultClass class) = class_name class
default_written (t.DefaultValue _) = []

abbrev pub written_by : Tree t.item → List Identifier
written_by (t.Import _ pairs _) = given_names pairs
written_by (t.ExportDeclaration statement) = declared_by statement
written_by (t.ExportDefault _ value _) = default_written value
written_by (t.Plain statement) = declared_by statement
written_by _ = []

abbrev pub written : Tree (t.list t.item) → List Identifier
written t.none = []
written (t.more item items) = written_by item ++ written items

abbrev pub imports : Tree (t.list t.item) → List Identifier
imports t.none = []
imports (t.more item items) = imported_by item ++ imports items

abbrev pub top_declared : Tree (t.list t.item) → List Identifier
top_declared t.none = []
top_declared (t.more item items) = top_declared_by item ++ top_declared items

-- Bindings and settings.

abbrev pub bind : Role → List Enclosing → List Identifier → List Binding
bind role lies names = map (λ name. record { name = name.name; at = name.at; role = role; lies = lies }) names

-- the bindings of a module's top: its declarations in the text's order, then its imports
abbrev pub top_bindings : Tree (t.list t.item) → List Binding
top_bindings items = bind Top [] (top_declared items) ++ bind Imported [] (imports items)

abbrev pub top_setting : Tree (t.list t.item) → Setting
top_setting items = record { sees = top_bindings items; round = []; in_loop = false; in_switch = false }

-- more names in the scope
abbrev pub within : Role → List Identifier → Setting → Setting
within role names g = record g { sees = bind role g.round names ++ g.sees }

abbrev pub in_body_of_loop : Setting → Setting
in_body_of_loop g = record g { in_loop = true; in_switch = true }

abbrev pub in_cases : Setting → Setting
in_cases g = record g { in_switch = true }

-- inside a function, with its parameters and its body's top in the scope
abbrev pub in_function : ℕ → FunctionKind → List Identifier → Tree t.body → Setting → Setting
in_function at kind parameters body g =
    let round = record { at = at; kind = kind } ∷ g.round in
    record { sees = bind Inner round (parameters ++ declared_by_body body) ++ g.sees; round = round; in_loop = false; in_switch = false }

-- the setting of a function expression or a class, whose own name it sees
abbrev pub own_name : List Identifier → Setting → Setting
own_name names g = within Own names g

-- the binding that a name refers to: the innermost one of that name
abbrev pub find_binding : Text → List Binding → Option Binding
find_binding name [] = None
find_binding name (one ∷ rest) = elim (same_text name one.name) [ true ↦ Some one | false ↦ find_binding name rest ]

-- What holds at the nodes of a tree, gathered in the text's order: `at_node` of each node in its
-- setting, before what stands in it, and `at_catch` of each catch name, in the setting of its block.
pub record Gathers (A : Type 0) : Type 0 where
  pub at_node : (s : t.Sort) → Setting → Tree s → List A
  pub at_catch : Setting → Option Identifier → List A

unfoldable pub gather : {A : Type 0} {s : t.Sort} → Gathers A → Setting → Tree s → List A
gather w g t.This = w.at_node _ g t.This
gather w g t.Null = w.at_node _ g t.Null
gather w g t.True = w.at_node _ g t.True
gather w g t.False = w.at_node _ g t.False
gather w g (t.Name name) = w.at_node _ g (t.Name name)
gather w g (t.Number value) = w.at_node _ g (t.Number value)
gather w g (t.String text) = w.at_node _ g (t.String text)
gather w g (t.Template texts values) = w.at_node _ g (t.Template texts values) ++ gather w g values
gather w g (t.Array items) = w.at_node _ g (t.Array items) ++ gather w g items
gather w g (t.Object members) = w.at_node _ g (t.Object members) ++ gather w g members
gather w g (t.Function function) = w.at_node _ g (t.Function function) ++ gather w (own_name (function_name function) g) function
gather w g (t.Class class) = w.at_node _ g (t.Class class) ++ gather w g class
gather w g (t.Paren of) = w.at_node _ g (t.Paren of) ++ gather w g of
gather w g (t.Dot of name) = w.at_node _ g (t.Dot of name) ++ gather w g of
gather w g (t.Index of key) = w.at_node _ g (t.Index of key) ++ (gather w g of ++ gather w g key)
gather w g (t.SuperDot at name) = w.at_node _ g (t.SuperDot at name)
gather w g (t.SuperIndex at key) = w.at_node _ g (t.SuperIndex at key) ++ gather w g key
gather w g (t.Call callee arguments) = w.at_node _ g (t.Call callee arguments) ++ (gather w g callee ++ gather w g arguments)
gather w g (t.New callee arguments) = w.at_node _ g (t.New callee arguments) ++ (gather w g callee ++ gather w g arguments)
gather w g (t.SuperCall at arguments) = w.at_node _ g (t.SuperCall at arguments) ++ gather w g arguments
gather w g (t.Update at up prefix target) = w.at_node _ g (t.Update at up prefix target) ++ gather w g target
gather w g (t.Unary operator of) = w.at_node _ g (t.Unary operator of) ++ gather w g of
gather w g (t.Typeof of) = w.at_node _ g (t.Typeof of) ++ gather w g of
gather w g (t.Void of) = w.at_node _ g (t.Void of) ++ gather w g of
gather w g (t.Delete at of) = w.at_node _ g (t.Delete at of) ++ gather w g of
gather w g (t.Binary operator left right) = w.at_node _ g (t.Binary operator left right) ++ (gather w g left ++ gather w g right)
gather w g (t.In left right) = w.at_node _ g (t.In left right) ++ (gather w g left ++ gather w g right)
gather w g (t.InstanceOf left right) = w.at_node _ g (t.InstanceOf left right) ++ (gather w g left ++ gather w g right)
gather w g (t.And left right) = w.at_node _ g (t.And left right) ++ (gather w g left ++ gather w g right)
gather w g (t.Or left right) = w.at_node _ g (t.Or left right) ++ (gather w g left ++ gather w g right)
gather w g (t.Nullish left right) = w.at_node _ g (t.Nullish left right) ++ (gather w g left ++ gather w g right)
gather w g (t.Conditional test one two) = w.at_node _ g (t.Conditional test one two) ++ (gather w g test ++ (gather w g one ++ gather w g two))
gather w g (t.Assign at target operator value) = w.at_node _ g (t.Assign at target operator value) ++ (gather w g target ++ gather w g value)
gather w g (t.Comma left right) = w.at_node _ g (t.Comma left right) ++ (gather w g left ++ gather w g right)
gather w g (t.KeyWord name) = w.at_node _ g (t.KeyWord name)
gather w g (t.KeyString text) = w.at_node _ g (t.KeyString text)
gather w g (t.KeyNumber value) = w.at_node _ g (t.KeyNumber value)
gather w g (t.KeyComputed key) = w.at_node _ g (t.KeyComputed key) ++ gather w g key
gather w g (t.MemberOf at fixed kind key value function) = w.at_node _ g (t.MemberOf at fixed kind key value function) ++ (gather w g key ++ (gather w g value ++ gather w g function))
gather w g (t.FunctionOf at name kind parameters body) = w.at_node _ g (t.FunctionOf at name kind parameters body) ++ gather w (in_function at kind parameters body g) body
gather w g (t.BodyStatements statements) = w.at_node _ g (t.BodyStatements statements) ++ gather w g statements
gather w g (t.BodyExpression value) = w.at_node _ g (t.BodyExpression value) ++ gather w g value
gather w g (t.ClassOf at name parent members) = w.at_node _ g (t.ClassOf at name parent members) ++ (gather w (own_name (named name) g) parent ++ gather w (own_name (named name) g) members)
gather w g t.HeadNothing = w.at_node _ g t.HeadNothing
gather w g (t.HeadValue value) = w.at_node _ g (t.HeadValue value) ++ gather w g value
gather w g (t.HeadDeclare constant names) = w.at_node _ g (t.HeadDeclare constant names) ++ gather w g names
gather w g (t.DeclaratorOf name value) = w.at_node _ g (t.DeclaratorOf name value) ++ gather w g value
gather w g (t.CaseOf test body) = w.at_node _ g (t.CaseOf test body) ++ (gather w g test ++ gather w g body)
gather w g t.Empty = w.at_node _ g t.Empty
gather w g (t.Value value semi) = w.at_node _ g (t.Value value semi) ++ gather w g value
gather w g (t.Declare constant names semi) = w.at_node _ g (t.Declare constant names semi) ++ gather w g names
gather w g (t.FunctionStatement function) = w.at_node _ g (t.FunctionStatement function) ++ gather w g function
gather w g (t.ClassStatement class) = w.at_node _ g (t.ClassStatement class) ++ gather w g class
gather w g (t.Block statements) = w.at_node _ g (t.Block statements) ++ gather w (within Inner (declared statements) g) statements
gather w g (t.If test one other) = w.at_node _ g (t.If test one other) ++ (gather w g test ++ (gather w g one ++ gather w g other))
gather w g (t.For head test step body) =
    let h = within Inner (declared_by_head head) g in
    w.at_node _ g (t.For head test step body) ++ (gather w h head ++ (gather w h test ++ (gather w h step ++ gather w (in_body_of_loop h) body)))
gather w g (t.While test body) = w.at_node _ g (t.While test body) ++ (gather w g test ++ gather w (in_body_of_loop g) body)
gather w g (t.DoWhile body test semi) = w.at_node _ g (t.DoWhile body test semi) ++ (gather w (in_body_of_loop g) body ++ gather w g test)
gather w g (t.Break at semi) = w.at_node _ g (t.Break at semi)
gather w g (t.Continue at semi) = w.at_node _ g (t.Continue at semi)
gather w g (t.Return at value semi) = w.at_node _ g (t.Return at value semi) ++ gather w g value
gather w g (t.Throw value semi) = w.at_node _ g (t.Throw value semi) ++ gather w g value
gather w g (t.Try block caught catch finally) =
    let c = within Inner (declared_by_catch caught catch) g in
    w.at_node _ g (t.Try block caught catch finally)
    ++ (gather w (within Inner (declared block) g) block ++ (w.at_catch c caught ++ (gather w c catch ++ gather w (within Inner (declared_in finally) g) finally)))
gather w g (t.Switch value cases) = w.at_node _ g (t.Switch value cases) ++ (gather w g value ++ gather w (in_cases (within Inner (declared_in_cases cases) g)) cases)
gather w g (t.DefaultFunction function) = w.at_node _ g (t.DefaultFunction function) ++ gather w g function
gather w g (t.DefaultClass class) = w.at_node _ g (t.DefaultClass class) ++ gather w g class
gather w g (t.DefaultValue value) = w.at_node _ g (t.DefaultValue value) ++ gather w g value
gather w g (t.Import source names semi) = w.at_node _ g (t.Import source names semi)
gather w g (t.ExportFrom source names semi) = w.at_node _ g (t.ExportFrom source names semi)
gather w g (t.ExportNames names semi) = w.at_node _ g (t.ExportNames names semi)
gather w g (t.ExportDeclaration statement) = w.at_node _ g (t.ExportDeclaration statement) ++ gather w g statement
gather w g (t.ExportDefault at value semi) = w.at_node _ g (t.ExportDefault at value semi) ++ gather w g value
gather w g (t.Plain statement) = w.at_node _ g (t.Plain statement) ++ gather w g statement
gather w g t.none = []
gather w g (t.more tree trees) = gather w g tree ++ gather w g trees
gather w g t.absent = []
gather w g (t.present tree) = gather w g tree
