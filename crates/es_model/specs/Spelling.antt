-- Which tokens a tree stands for (ECMA-262, 13 to 16, with the language's own rules). A tree is
-- spelled by tokens exactly where a reading of it takes them; that it is well-formed is part of it.
use Rattle.std.specs.Prelude.{◌≡◌, ℕ, ◌≤◌, Bool, true, false, ◌&&◌, ◌||◌, nat_le, List, [], ◌∷◌, codes, Option, Some, None}
use Prim.Native.String.{String}
use Rattle.es_model.specs.declared.kinds.Semi.{Semi}
use Rattle.es_model.specs.declared.kinds.Semi.TheVariants as semi
use Rattle.es_model.specs.declared.kinds.FunctionKind.{FunctionKind}
use Rattle.es_model.specs.declared.kinds.FunctionKind.TheVariants as f
use Rattle.es_model.specs.declared.kinds.MemberKind.{MemberKind}
use Rattle.es_model.specs.declared.kinds.MemberKind.TheVariants as m
use Rattle.es_model.specs.declared.names.Identifier.{Identifier}
use Rattle.es_model.specs.declared.names.Pair.{Pair}
use Rattle.es_model.specs.declared.token.Token.{Token}
use Rattle.es_model.specs.declared.token.TokenKind.TheVariants as k
use Rattle.es_model.specs.Tree as t
use Rattle.es_model.specs.Tree.{Tree, Text}
use Rattle.es_model.specs.Levels.{operator_sign, left_level, right_level, assignment_sign, unary_sign, level, is_nullish, is_bare_new, has_call, is_target, is_declaration, ends_in_short_if, defaults, all_initialised, Holder, InObject, InClass, may_be_fixed, method_kind}
use Rattle.es_model.specs.Readings.{Tokens, Reading, nothing, never, ◌▸◌, ◌∣◌, given, One, the, name, the_name, maybe_name, property, here, same_line, not_first, semicolon, may_miss, may_miss_bare, may_miss_after_do, may_miss_after_export}

-- An operand of at least a level, and the operand of a call or a member form.

abbrev pub least : ℕ → Tree t.expression → Reading → Reading
least lowest expression reading = given (lowest ≤ level expression) reading

abbrev pub base : Tree t.expression → Reading → Reading
base expression reading = given ((17 ≤ level expression) × (is_bare_new expression ≡ false)) reading

-- the callee of a `new`: a member form without calls
abbrev pub new_callee : Tree t.expression → Reading → Reading
new_callee expression reading = given ((17 ≤ level expression) × (has_call expression ≡ false)) reading

abbrev pub target : Tree t.expression → Reading → Reading
target expression reading = given (is_target expression ≡ true) reading

-- A comma that may stand after a list.
abbrev pub maybe_comma : Reading
maybe_comma = nothing ∣ the ","

-- `++` or `--`
abbrev pub step : Bool → Reading
step true = the "++"
step false = the "--"

abbrev pub assigning : Option String → Reading
assigning None = never
assigning (Some sign) = the sign

-- Names with commas between, as in parameters: none, or some and maybe a comma.

abbrev pub names : List Identifier → Reading
names [] = nothing
names (one ∷ []) = name one ▸ maybe_comma
names (one ∷ (two ∷ rest)) = name one ▸ the "," ▸ names (two ∷ rest)

-- an arrow's parameters: in parentheses, or one name
abbrev pub arrow_names : List Identifier → Reading
arrow_names (one ∷ []) = (the "(" ▸ names (one ∷ []) ▸ the ")") ∣ name one
arrow_names identifiers = the "(" ▸ names identifiers ▸ the ")"

-- exactly one name, with no comma
abbrev pub one_name : List Identifier → Reading
one_name (one ∷ []) = name one
one_name _ = never

abbrev pub no_name : List Identifier → Reading
no_name [] = nothing
no_name _ = never

-- the parameters of a method, by the kind of its member
abbrev pub member_parameters : MemberKind → List Identifier → Reading
member_parameters m.Getter identifiers = no_name identifiers
member_parameters m.Setter identifiers = one_name identifiers
member_parameters _ identifiers = names identifiers

-- `static` before a member, where it is so
abbrev pub static_before : Bool → Reading
static_before true = the "static"
static_before false = nothing

-- the word before an accessor
abbrev pub accessor_word : MemberKind → Reading
accessor_word m.Getter = the_name "get"
accessor_word m.Setter = the_name "set"
accessor_word _ = nothing

-- the kind of the function of a member
abbrev pub member_function_kind : Holder → Bool → MemberKind → Tree t.key → FunctionKind
member_function_kind holder fixed m.Getter key = f.Getter
member_function_kind holder fixed m.Setter key = f.Setter
member_function_kind holder fixed _ key = method_kind holder fixed key

-- any number of semicolons, which stand among the members of a class and leave nothing in the tree
pub data Semicolons : Tokens → Tokens → Type 0 where
  no_more : {tokens : Tokens} → Semicolons tokens tokens
  one_more : {from mid to : Tokens} → the ";" from mid → Semicolons mid to → Semicolons from to

abbrev pub declaring_word : Bool → Reading
declaring_word true = the "const"
declaring_word false = the "let"

-- `const` has an initialiser
abbrev pub Initialised : Bool → Tree (t.list t.declarator) → Type 0
Initialised true declarators = all_initialised declarators ≡ true
Initialised false declarators = Unit {0}

-- At least one of catch and finally stands, and a catch name only with a catch.
abbrev pub GuardsAre : {s : t.Sort} → Option Identifier → Tree (t.option s) → Tree (t.option s) → Type 0
GuardsAre caught (t.present c) finally = Unit {0}
GuardsAre None t.absent (t.present b) = Unit {0}
GuardsAre (Some caught) t.absent (t.present b) = ⊥
GuardsAre caught t.absent t.absent = ⊥

abbrev pub catch_name : Option Identifier → Reading
catch_name None = nothing
catch_name (Some caught) = the "(" ▸ name caught ▸ the ")"

-- A thing that may be left out.
pub data Maybe (A : Type 1) : Type 1 where
  LeftOut : Maybe A
  There : A → Maybe A

-- A list of readings: one after the other; with commas between, and maybe one behind the last; and
-- with commas between alone, at least one.

abbrev pub sequence : List {1} Reading → Reading
sequence [] = nothing
sequence (one ∷ rest) = one ▸ sequence rest

abbrev pub separated : List {1} Reading → Reading
separated [] = nothing
separated (one ∷ []) = one ▸ maybe_comma
separated (one ∷ (two ∷ rest)) = one ▸ the "," ▸ separated (two ∷ rest)

abbrev pub joined : List {1} Reading → Reading
joined [] = never
joined (one ∷ []) = one
joined (one ∷ (two ∷ rest)) = one ▸ the "," ▸ joined (two ∷ rest)

abbrev pub maybe : Maybe Reading → Reading
maybe LeftOut = nothing
maybe (There reading) = reading

-- a template: a piece of text, and for each value the value and a piece
abbrev pub piece : Text → Bool → Bool → Reading
piece text first last = One (λ token. token.kind ≡ k.Template first last text)

abbrev pub pieces : Bool → List Text → List {1} Reading → Reading
pieces first [] values = never
pieces first (text ∷ []) [] = piece text first true
pieces first (text ∷ (other ∷ texts)) [] = never
pieces first (text ∷ texts) (value ∷ values) = piece text first false ▸ value ▸ pieces false texts values

abbrev pub braces : List {1} Reading → Reading
braces statements = the "{" ▸ sequence statements ▸ the "}"

-- a list of statements behind a word and what follows it, where it stands
abbrev pub guard : Reading → Maybe (List {1} Reading) → Reading
guard before LeftOut = nothing
guard before (There statements) = before ▸ braces statements

-- each expression of a list has at least the level of an element
abbrev pub are_elements : Tree (t.list t.expression) → Bool
are_elements t.none = true
are_elements (t.more item items) = nat_le 2 (level item) && are_elements items

-- How a function is used: as an expression, as a statement, as a default export, or in a member that
-- begins at a place, with the kind that is due there.
pub data FunctionUse : Type 0 where
  AsExpression : FunctionUse
  AsStatement : FunctionUse
  AsDefault : FunctionUse
  AsMember : ℕ → FunctionKind → MemberKind → FunctionUse

-- a function: its body's reading is told whether it is an arrow's
abbrev pub plain_function : ℕ → Reading → List Identifier → Reading → Reading
plain_function at own parameters body = here at (the "function" ▸ own ▸ the "(" ▸ names parameters ▸ the ")" ▸ body)

abbrev pub function_reading : FunctionUse → ℕ → Option Identifier → FunctionKind → List Identifier → (Bool → Reading) → Reading
function_reading AsExpression at own f.Plain parameters body = plain_function at (maybe_name own) parameters (body false)
function_reading AsExpression at None f.Arrow parameters body = here at (arrow_names parameters ▸ same_line (the "=>") ▸ body true)
function_reading AsStatement at (Some own) f.Plain parameters body = plain_function at (name own) parameters (body false)
function_reading AsDefault at own f.Plain parameters body = plain_function at (maybe_name own) parameters (body false)
function_reading (AsMember place due member) at own kind parameters body = given ((at ≡ place) × (own ≡ None) × (kind ≡ due)) (the "(" ▸ member_parameters member parameters ▸ the ")" ▸ body false)
function_reading _ _ _ _ _ _ = never

-- a class, where `named` says that it must have a name
abbrev pub class_name : Bool → Option Identifier → Reading
class_name true None = never
class_name named own = maybe_name own

-- the members of a class, with any semicolons among them
abbrev pub class_members : Bool → List {1} (Holder → Reading) → Reading
class_members derived [] = Semicolons
class_members derived (member ∷ members) = Semicolons ▸ member (InClass derived) ▸ class_members derived members

-- the members of an object literal
abbrev pub object_members : List {1} (Holder → Reading) → Reading
object_members [] = nothing
object_members (one ∷ []) = one InObject ▸ maybe_comma
object_members (one ∷ (two ∷ rest)) = one InObject ▸ the "," ▸ object_members (two ∷ rest)

-- A member: `key: value` and a name alone stand in object literals only.
abbrev pub value_member : Holder → ℕ → Bool → Reading → Reading → Reading
value_member InObject at false key value = here at (key ▸ the ":" ▸ value)
value_member _ _ _ _ _ = never

abbrev pub short_member : Holder → ℕ → Bool → Tree t.key → Reading
short_member InObject at false (t.KeyWord text) = name (record { at = at; name = text })
short_member _ _ _ _ = never

abbrev pub function_member : Holder → ℕ → Bool → MemberKind → Tree t.key → Reading → (FunctionUse → Reading) → Reading
function_member holder at fixed kind key reading function =
    given (may_be_fixed holder fixed ≡ true)
    (here at (static_before fixed ▸ accessor_word kind ▸ reading ▸ function (AsMember at (member_function_kind holder fixed kind key) kind)))

abbrev pub member_reading : Holder → ℕ → Bool → MemberKind → Tree t.key → Reading → Maybe Reading → Maybe (FunctionUse → Reading) → Reading
member_reading holder at fixed m.Value key reading (There value) LeftOut = value_member holder at fixed reading value
member_reading holder at fixed m.Short key reading LeftOut LeftOut = short_member holder at fixed key
member_reading holder at fixed m.Method key reading LeftOut (There function) = function_member holder at fixed m.Method key reading function
member_reading holder at fixed m.Getter key reading LeftOut (There function) = function_member holder at fixed m.Getter key reading function
member_reading holder at fixed m.Setter key reading LeftOut (There function) = function_member holder at fixed m.Setter key reading function
member_reading _ _ _ _ _ _ _ _ = never

-- Imports and exports.

-- the name of a thing in another module, or an exported name: a plain name, or the word `default`
abbrev pub outer_name : Identifier → Reading
outer_name identifier = name identifier ∣ given (identifier.name ≡ codes "default") (here identifier.at (the "default"))

-- a pair, with `as`, or as one name that is both
abbrev pub pair : (Identifier → Reading) → (Identifier → Reading) → (Identifier → Reading) → Pair → Reading
pair both taken given_name one = given (one.taken ≡ one.given) (both one.given) ∣ (taken one.taken ▸ the_name "as" ▸ given_name one.given)

abbrev pub imported : Pair → Reading
imported one = pair name outer_name name one

abbrev pub exported_from : Pair → Reading
exported_from one = pair outer_name outer_name outer_name one

abbrev pub exported : Pair → Reading
exported one = pair name name outer_name one

-- pairs with commas between: none, or some and maybe a comma
abbrev pub pairs : (Pair → Reading) → List Pair → Reading
pairs each [] = nothing
pairs each (one ∷ []) = each one ▸ maybe_comma
pairs each (one ∷ (two ∷ rest)) = each one ▸ the "," ▸ pairs each (two ∷ rest)

abbrev pub braced : (Pair → Reading) → List Pair → Reading
braced each list = the "{" ▸ pairs each list ▸ the "}"

-- the name before `from` that takes `default`
abbrev pub default_name : Pair → Reading
default_name one = given ((one.taken.name ≡ codes "default") × (one.taken.at ≡ one.given.at)) (name one.given)

abbrev pub default_list : List Pair → Reading
default_list [] = never
default_list (one ∷ []) = default_name one ▸ (nothing ∣ (the "," ▸ braced imported []))
default_list (one ∷ (two ∷ rest)) = default_name one ▸ the "," ▸ braced imported (two ∷ rest)

abbrev pub module_name : Text → Reading
module_name text = One (λ token. token.kind ≡ k.String text)

-- the names of an import, up to `from`; a module may be imported for no name
abbrev pub import_list : List Pair → Reading
import_list list = given (list ≡ []) nothing ∣ ((braced imported list ∣ default_list list) ▸ the_name "from")

-- the initialiser or value of a member has the level of an element
abbrev pub is_element : Tree (t.option t.expression) → Bool
is_element t.absent = true
is_element (t.present value) = nat_le 2 (level value)

-- a statement that stands in another, and not in a list: no declaration
abbrev pub inner : Tree t.statement → Reading → Reading
inner statement reading = given (is_declaration statement ≡ false) reading

-- What a tree of a sort is spelled by: a reading, which for some sorts depends on where the tree
-- stands; for a list or an option of trees those of the trees.
abbrev pub Spelled : t.Sort → Type 1
Spelled (t.list s) = List {1} (Spelled s)
Spelled (t.option s) = Maybe (Spelled s)
Spelled t.member = Holder → Reading
Spelled t.function = FunctionUse → Reading
Spelled t.class = Bool → Reading
Spelled t.body = Bool → Reading
Spelled t.default = Semi → Reading
Spelled _ = Reading

-- One case for each form.
unfoldable pub Spells : {s : t.Sort} → Tree s → Spelled s
Spells t.none = []
Spells (t.more tree trees) = Spells tree ∷ Spells trees
Spells t.absent = LeftOut
Spells (t.present tree) = There (Spells tree)
-- expressions
Spells t.This = the "this"
Spells t.Null = the "null"
Spells t.True = the "true"
Spells t.False = the "false"
Spells (t.Name identifier) = name identifier
Spells (t.Number value) = One (λ token. token.kind ≡ k.Number value)
Spells (t.String text) = One (λ token. token.kind ≡ k.String text)
Spells (t.Template texts values) = pieces true texts (Spells values)
Spells (t.Array items) = the "[" ▸ given (are_elements items ≡ true) (separated (Spells items)) ▸ the "]"
Spells (t.Object members) = the "{" ▸ object_members (Spells members) ▸ the "}"
Spells (t.Function function) = Spells function AsExpression
Spells (t.Class class) = Spells class false
Spells (t.Paren of) = the "(" ▸ Spells of ▸ the ")"
Spells (t.Dot of text) = base of (Spells of) ▸ the "." ▸ property text
Spells (t.Index of key) = base of (Spells of) ▸ the "[" ▸ Spells key ▸ the "]"
Spells (t.SuperDot at text) = here at (the "super" ▸ the "." ▸ property text)
Spells (t.SuperIndex at key) = here at (the "super" ▸ the "[" ▸ Spells key ▸ the "]")
Spells (t.Call callee arguments) = base callee (Spells callee) ▸ the "(" ▸ given (are_elements arguments ≡ true) (separated (Spells arguments)) ▸ the ")"
Spells (t.New callee t.absent) = the "new" ▸ new_callee callee (Spells callee)
Spells (t.New callee (t.present arguments)) = the "new" ▸ given (is_bare_new callee ≡ false) (new_callee callee (Spells callee)) ▸ the "(" ▸ given (are_elements arguments ≡ true) (separated (Spells arguments)) ▸ the ")"
Spells (t.SuperCall at arguments) = here at (the "super" ▸ the "(" ▸ given (are_elements arguments ≡ true) (separated (Spells arguments)) ▸ the ")")
Spells (t.Update at up true of) = here at (step up ▸ target of (Spells of))
Spells (t.Update at up false of) = here at (target of (Spells of) ▸ same_line (step up))
Spells (t.Unary operator of) = the (unary_sign operator) ▸ least 15 of (Spells of)
Spells (t.Typeof of) = the "typeof" ▸ least 15 of (Spells of)
Spells (t.Void of) = the "void" ▸ least 15 of (Spells of)
Spells (t.Delete at of) = here at (the "delete" ▸ least 15 of (Spells of))
Spells (t.Binary operator left right) = least (left_level operator) left (Spells left) ▸ the (operator_sign operator) ▸ least (right_level operator) right (Spells right)
Spells (t.In left right) = least 10 left (Spells left) ▸ the "in" ▸ least 11 right (Spells right)
Spells (t.InstanceOf left right) = least 10 left (Spells left) ▸ the "instanceof" ▸ least 11 right (Spells right)
Spells (t.And left right) = least 5 left (Spells left) ▸ the "&&" ▸ least 6 right (Spells right)
Spells (t.Or left right) = given (is_nullish left ≡ false) (least 4 left (Spells left)) ▸ the "||" ▸ least 5 right (Spells right)
Spells (t.Nullish left right) = given (is_nullish left || nat_le 6 (level left) ≡ true) (Spells left) ▸ the "??" ▸ least 6 right (Spells right)
Spells (t.Conditional test one other) = least 4 test (Spells test) ▸ the "?" ▸ least 2 one (Spells one) ▸ the ":" ▸ least 2 other (Spells other)
Spells (t.Assign at to operator value) = here at (target to (Spells to) ▸ assigning (assignment_sign operator) ▸ least 2 value (Spells value))
Spells (t.Comma left right) = Spells left ▸ the "," ▸ least 2 right (Spells right)
-- members, functions and classes
Spells (t.KeyWord text) = property text
Spells (t.KeyString text) = One (λ token. token.kind ≡ k.String text)
Spells (t.KeyNumber value) = One (λ token. token.kind ≡ k.Number value)
Spells (t.KeyComputed key) = the "[" ▸ least 2 key (Spells key) ▸ the "]"
Spells (t.MemberOf at fixed kind key value function) = λ holder. given (is_element value ≡ true) (member_reading holder at fixed kind key (Spells key) (Spells value) (Spells function))
Spells (t.FunctionOf at own kind parameters body) = λ how. function_reading how at own kind parameters (Spells body)
Spells (t.BodyStatements statements) = λ arrow. braces (Spells statements)
Spells (t.BodyExpression value) = λ arrow. given (arrow ≡ true) (not_first ("{" ∷ []) (least 2 value (Spells value)))
Spells (t.ClassOf at own t.absent members) = λ named. here at (the "class" ▸ class_name named own ▸ the "{" ▸ class_members false (Spells members) ▸ the "}")
Spells (t.ClassOf at own (t.present parent) members) = λ named. here at (the "class" ▸ class_name named own ▸ the "extends" ▸ least 17 parent (Spells parent) ▸ the "{" ▸ class_members true (Spells members) ▸ the "}")
-- statements
Spells t.Empty = the ";"
Spells (t.Value value semi) = not_first ("{" ∷ "function" ∷ "class" ∷ []) (Spells value) ▸ semicolon may_miss semi
Spells (t.Declare constant declarators semi) = given (Initialised constant declarators) (declaring_word constant ▸ joined (Spells declarators) ▸ semicolon may_miss semi)
Spells (t.DeclaratorOf identifier t.absent) = name identifier
Spells (t.DeclaratorOf identifier (t.present value)) = name identifier ▸ the "=" ▸ least 2 value (Spells value)
Spells (t.FunctionStatement function) = Spells function AsStatement
Spells (t.ClassStatement class) = Spells class true
Spells (t.Block statements) = braces (Spells statements)
Spells (t.If test one t.absent) = the "if" ▸ the "(" ▸ Spells test ▸ the ")" ▸ inner one (Spells one)
Spells (t.If test one (t.present other)) = the "if" ▸ the "(" ▸ Spells test ▸ the ")" ▸ given (ends_in_short_if one ≡ false) (inner one (Spells one)) ▸ the "else" ▸ inner other (Spells other)
Spells (t.For head test each body) = the "for" ▸ the "(" ▸ Spells head ▸ the ";" ▸ maybe (Spells test) ▸ the ";" ▸ maybe (Spells each) ▸ the ")" ▸ inner body (Spells body)
Spells t.HeadNothing = nothing
Spells (t.HeadValue value) = Spells value
Spells (t.HeadDeclare constant declarators) = given (Initialised constant declarators) (declaring_word constant ▸ joined (Spells declarators))
Spells (t.While test body) = the "while" ▸ the "(" ▸ Spells test ▸ the ")" ▸ inner body (Spells body)
Spells (t.DoWhile body test semi) = the "do" ▸ inner body (Spells body) ▸ the "while" ▸ the "(" ▸ Spells test ▸ the ")" ▸ semicolon may_miss_after_do semi
Spells (t.Break at semi) = here at (the "break" ▸ semicolon may_miss_bare semi)
Spells (t.Continue at semi) = here at (the "continue" ▸ semicolon may_miss_bare semi)
Spells (t.Return at t.absent semi) = here at (the "return" ▸ semicolon may_miss_bare semi)
Spells (t.Return at (t.present value) semi) = here at (the "return" ▸ same_line (Spells value) ▸ semicolon may_miss semi)
Spells (t.Throw value semi) = the "throw" ▸ same_line (Spells value) ▸ semicolon may_miss semi
Spells (t.Try block caught catch finally) = given (GuardsAre caught catch finally) (the "try" ▸ braces (Spells block) ▸ guard (the "catch" ▸ catch_name caught) (Spells catch) ▸ guard (the "finally") (Spells finally))
Spells (t.Switch value cases) = given (defaults cases ≤ 1) (the "switch" ▸ the "(" ▸ Spells value ▸ the ")" ▸ braces (Spells cases))
Spells (t.CaseOf t.absent body) = the "default" ▸ the ":" ▸ sequence (Spells body)
Spells (t.CaseOf (t.present test) body) = the "case" ▸ Spells test ▸ the ":" ▸ sequence (Spells body)
-- items: a default export of a function or a class has the mark Missing, which needs no condition
Spells (t.DefaultFunction function) = λ mark. given (mark ≡ semi.Missing) (Spells function AsDefault)
Spells (t.DefaultClass class) = λ mark. given (mark ≡ semi.Missing) (Spells class false)
Spells (t.DefaultValue value) = λ mark. not_first ("function" ∷ "class" ∷ []) (least 2 value (Spells value)) ▸ semicolon may_miss mark
Spells (t.Import from list semi) = the "import" ▸ import_list list ▸ module_name from ▸ semicolon may_miss semi
Spells (t.ExportFrom from list semi) = the "export" ▸ braced exported_from list ▸ the_name "from" ▸ module_name from ▸ semicolon may_miss semi
Spells (t.ExportNames list semi) = the "export" ▸ braced exported list ▸ semicolon may_miss_after_export semi
Spells (t.ExportDeclaration statement) = the "export" ▸ given (is_declaration statement ≡ true) (Spells statement)
Spells (t.ExportDefault at value semi) = the "export" ▸ here at (the "default" ▸ Spells value semi)
Spells (t.Plain statement) = Spells statement

-- A module's tree is spelled by tokens, End the last of them. A text is a module exactly where a
-- tree spells its tokens.
abbrev pub spells : Tree (t.list t.item) → Tokens → Type 0
spells items tokens = (last : Token) × (last.kind ≡ k.End) × sequence (Spells items) tokens (last ∷ [])
