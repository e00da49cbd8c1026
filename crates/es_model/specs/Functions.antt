-- The functions of a module, and their numbers (own rules).
use Rattle.std.specs.Prelude.{ℕ, zero, suc, Bool, true, false, ◌||◌, List, [], ◌∷◌, ◌++◌, length, slice_get, Option, None}
use Rattle.es_model.specs.declared.kinds.FunctionKind.{FunctionKind}
use Rattle.es_model.specs.declared.kinds.FunctionKind.TheVariants as k
use Rattle.es_model.specs.Tree as t
use Rattle.es_model.specs.Tree.{Tree}

-- a function of the text, or the constructor that a class has which writes none
pub data FunctionForm : Type 0 where
  Written : Tree t.function → FunctionForm
  Generated : Tree t.class → FunctionForm

-- a constructor, by its kind
abbrev pub constructs : FunctionKind → Bool
constructs k.Base = true
constructs k.Derived = true
constructs k.Plain = false
constructs k.Arrow = false
constructs k.Method = false
constructs k.Getter = false
constructs k.Setter = false

-- a member is its class's constructor
abbrev pub is_constructor : Tree t.member → Bool
is_constructor (t.MemberOf _ _ _ _ _ t.absent) = false
is_constructor (t.MemberOf _ _ _ _ _ (t.present (t.FunctionOf _ _ kind _ _))) = constructs kind

-- one of a class's members is its constructor
unfoldable pub writes_constructor : Tree (t.list t.member) → Bool
writes_constructor t.none = false
writes_constructor (t.more a b) = is_constructor a || writes_constructor b

-- what a class adds to the functions: its generated constructor, where it writes none
abbrev pub generated : Bool → Tree t.class → List FunctionForm
generated true c = []
generated false c = Generated c ∷ []

-- The functions in a tree, in the order in which their texts begin. A method's text begins at its
-- member, so the method comes before what its computed key holds; a generated constructor's place
-- is the word `class` (own rule).
unfoldable mutual
  pub functions : {s : t.Sort} → Tree s → List FunctionForm
  functions t.This = []
  functions t.Null = []
  functions t.True = []
  functions t.False = []
  functions (t.Name _) = []
  functions (t.Number _) = []
  functions (t.String _) = []
  functions (t.Template _ a1) = functions a1
  functions (t.Array a0) = functions a0
  functions (t.Object a0) = functions a0
  functions (t.Function a0) = functions a0
  functions (t.Class a0) = functions a0
  functions (t.Paren a0) = functions a0
  functions (t.Dot a0 _) = functions a0
  functions (t.Index a0 a1) = functions a0 ++ functions a1
  functions (t.SuperDot _ _) = []
  functions (t.SuperIndex _ a1) = functions a1
  functions (t.Call a0 a1) = functions a0 ++ functions a1
  functions (t.New a0 a1) = functions a0 ++ functions a1
  functions (t.SuperCall _ a1) = functions a1
  functions (t.Update _ _ _ a3) = functions a3
  functions (t.Unary _ a1) = functions a1
  functions (t.Typeof a0) = functions a0
  functions (t.Void a0) = functions a0
  functions (t.Delete _ a1) = functions a1
  functions (t.Binary _ a1 a2) = functions a1 ++ functions a2
  functions (t.In a0 a1) = functions a0 ++ functions a1
  functions (t.InstanceOf a0 a1) = functions a0 ++ functions a1
  functions (t.And a0 a1) = functions a0 ++ functions a1
  functions (t.Or a0 a1) = functions a0 ++ functions a1
  functions (t.Nullish a0 a1) = functions a0 ++ functions a1
  functions (t.Conditional a0 a1 a2) = functions a0 ++ (functions a1 ++ functions a2)
  functions (t.Assign _ a1 _ a3) = functions a1 ++ functions a3
  functions (t.Comma a0 a1) = functions a0 ++ functions a1
  functions (t.KeyWord _) = []
  functions (t.KeyString _) = []
  functions (t.KeyNumber _) = []
  functions (t.KeyComputed a0) = functions a0
  functions (t.MemberOf _ _ _ key value t.absent) = functions key ++ functions value
  functions (t.MemberOf _ _ _ key value (t.present f)) = Written f ∷ functions key ++ (functions value ++ inner f)
  functions (t.FunctionOf at name kind ps body) = Written (t.FunctionOf at name kind ps body) ∷ functions body
  functions (t.BodyStatements a0) = functions a0
  functions (t.BodyExpression a0) = functions a0
  functions (t.ClassOf at name parent members) = generated (writes_constructor members) (t.ClassOf at name parent members) ++ (functions parent ++ functions members)
  functions t.HeadNothing = []
  functions (t.HeadValue a0) = functions a0
  functions (t.HeadDeclare _ a1) = functions a1
  functions (t.DeclaratorOf _ a1) = functions a1
  functions (t.CaseOf a0 a1) = functions a0 ++ functions a1
  functions t.Empty = []
  functions (t.Value a0 _) = functions a0
  functions (t.Declare _ a1 _) = functions a1
  functions (t.FunctionStatement a0) = functions a0
  functions (t.ClassStatement a0) = functions a0
  functions (t.Block a0) = functions a0
  functions (t.If a0 a1 a2) = functions a0 ++ (functions a1 ++ functions a2)
  functions (t.For a0 a1 a2 a3) = functions a0 ++ (functions a1 ++ (functions a2 ++ functions a3))
  functions (t.While a0 a1) = functions a0 ++ functions a1
  functions (t.DoWhile a0 a1 _) = functions a0 ++ functions a1
  functions (t.Break _ _) = []
  functions (t.Continue _ _) = []
  functions (t.Return _ a1 _) = functions a1
  functions (t.Throw a0 _) = functions a0
  functions (t.Try a0 _ a2 a3) = functions a0 ++ (functions a2 ++ functions a3)
  functions (t.Switch a0 a1) = functions a0 ++ functions a1
  functions (t.DefaultFunction a0) = functions a0
  functions (t.DefaultClass a0) = functions a0
  functions (t.DefaultValue a0) = functions a0
  functions (t.Import _ _ _) = []
  functions (t.ExportFrom _ _ _) = []
  functions (t.ExportNames _ _) = []
  functions (t.ExportDeclaration a0) = functions a0
  functions (t.ExportDefault _ a1 _) = functions a1
  functions (t.Plain a0) = functions a0
  functions t.none = []
  functions (t.more a0 a1) = functions a0 ++ functions a1
  functions t.absent = []
  functions (t.present a0) = functions a0

  -- those in a function's body
  pub inner : Tree t.function → List FunctionForm
  inner (t.FunctionOf _ _ _ _ body) = functions body

-- The number of functions of a module: its body is number 0, and the others have the numbers from 1
-- on, in the order of `functions`.
abbrev pub function_count : Tree (t.list t.item) → ℕ
function_count items = suc (length (functions items))

-- the function of a number; none of the body, and past the last
abbrev pub function_at : Tree (t.list t.item) → ℕ → Option FunctionForm
function_at items zero = None
function_at items (suc number) = slice_get (functions items) number
