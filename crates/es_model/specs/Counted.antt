-- The two counts of a tree together (own): its nesting and the number of its functions, each 4294967295
-- where it is more. They serve the program, which computes both in one pass: no definition of the language
-- stands on them, and that they are `nesting` and `function_count` is proved.
use Rattle.std.specs.Prelude.{suc, ◌+◌, max, min, Bool, true, false}
use Rattle.es_model.specs.declared.measure.Counts.{Counts}
use Rattle.es_model.specs.Tree as t
use Rattle.es_model.specs.Tree.{Tree}
use Rattle.es_model.specs.Functions.{writes_constructor}

-- of a tree with nothing in it
abbrev pub nothing_counted : Counts
nothing_counted = record { nesting = 0; functions = 0 }

-- of two trees that stand side by side
unfoldable pub beside : Counts → Counts → Counts
beside a b = record { nesting = max a.nesting b.nesting; functions = min (a.functions + b.functions) 4294967295 }

-- of a statement, expression, function or class round what was counted
unfoldable pub inside : Counts → Counts
inside a = record { nesting = min (suc a.nesting) 4294967295; functions = a.functions }

-- with one function more
unfoldable pub and_function : Counts → Counts
and_function a = record { nesting = a.nesting; functions = min (suc a.functions) 4294967295 }

-- of a class: one that writes no constructor has a generated one
abbrev pub with_constructor : Bool → Counts → Counts
with_constructor true counts = counts
with_constructor false counts = and_function counts

unfoldable pub counted : {s : t.Sort} → Tree s → Counts
counted t.This = inside nothing_counted
counted t.Null = inside nothing_counted
counted t.True = inside nothing_counted
counted t.False = inside nothing_counted
counted (t.Name _) = inside nothing_counted
counted (t.Number _) = inside nothing_counted
counted (t.String _) = inside nothing_counted
counted (t.Template _ a1) = inside (counted a1)
counted (t.Array a0) = inside (counted a0)
counted (t.Object a0) = inside (counted a0)
counted (t.Function a0) = inside (counted a0)
counted (t.Class a0) = inside (counted a0)
counted (t.Paren a0) = inside (counted a0)
counted (t.Dot a0 _) = inside (counted a0)
counted (t.Index a0 a1) = inside (beside (counted a0) (counted a1))
counted (t.SuperDot _ _) = inside nothing_counted
counted (t.SuperIndex _ a1) = inside (counted a1)
counted (t.Call a0 a1) = inside (beside (counted a0) (counted a1))
counted (t.New a0 a1) = inside (beside (counted a0) (counted a1))
counted (t.SuperCall _ a1) = inside (counted a1)
counted (t.Update _ _ _ a3) = inside (counted a3)
counted (t.Unary _ a1) = inside (counted a1)
counted (t.Typeof a0) = inside (counted a0)
counted (t.Void a0) = inside (counted a0)
counted (t.Delete _ a1) = inside (counted a1)
counted (t.Binary _ a1 a2) = inside (beside (counted a1) (counted a2))
counted (t.In a0 a1) = inside (beside (counted a0) (counted a1))
counted (t.InstanceOf a0 a1) = inside (beside (counted a0) (counted a1))
counted (t.And a0 a1) = inside (beside (counted a0) (counted a1))
counted (t.Or a0 a1) = inside (beside (counted a0) (counted a1))
counted (t.Nullish a0 a1) = inside (beside (counted a0) (counted a1))
counted (t.Conditional a0 a1 a2) = inside (beside (counted a0) (beside (counted a1) (counted a2)))
counted (t.Assign _ a1 _ a3) = inside (beside (counted a1) (counted a3))
counted (t.Comma a0 a1) = inside (beside (counted a0) (counted a1))
counted (t.KeyWord _) = nothing_counted
counted (t.KeyString _) = nothing_counted
counted (t.KeyNumber _) = nothing_counted
counted (t.KeyComputed a0) = counted a0
counted (t.MemberOf _ _ _ a3 a4 a5) = beside (counted a3) (beside (counted a4) (counted a5))
counted (t.FunctionOf _ _ _ _ a4) = and_function (inside (counted a4))
counted (t.BodyStatements a0) = counted a0
counted (t.BodyExpression a0) = counted a0
counted (t.ClassOf _ _ a2 a3) = with_constructor (writes_constructor a3) (inside (beside (counted a2) (counted a3)))
counted t.HeadNothing = nothing_counted
counted (t.HeadValue a0) = counted a0
counted (t.HeadDeclare _ a1) = counted a1
counted (t.DeclaratorOf _ a1) = counted a1
counted (t.CaseOf a0 a1) = beside (counted a0) (counted a1)
counted t.Empty = inside nothing_counted
counted (t.Value a0 _) = inside (counted a0)
counted (t.Declare _ a1 _) = inside (counted a1)
counted (t.FunctionStatement a0) = inside (counted a0)
counted (t.ClassStatement a0) = inside (counted a0)
counted (t.Block a0) = inside (counted a0)
counted (t.If a0 a1 a2) = inside (beside (counted a0) (beside (counted a1) (counted a2)))
counted (t.For a0 a1 a2 a3) = inside (beside (counted a0) (beside (counted a1) (beside (counted a2) (counted a3))))
counted (t.While a0 a1) = inside (beside (counted a0) (counted a1))
counted (t.DoWhile a0 a1 _) = inside (beside (counted a0) (counted a1))
counted (t.Break _ _) = inside nothing_counted
counted (t.Continue _ _) = inside nothing_counted
counted (t.Return _ a1 _) = inside (counted a1)
counted (t.Throw a0 _) = inside (counted a0)
counted (t.Try a0 _ a2 a3) = inside (beside (counted a0) (beside (counted a2) (counted a3)))
counted (t.Switch a0 a1) = inside (beside (counted a0) (counted a1))
counted (t.DefaultFunction a0) = counted a0
counted (t.DefaultClass a0) = counted a0
counted (t.DefaultValue a0) = counted a0
counted (t.Import _ _ _) = nothing_counted
counted (t.ExportFrom _ _ _) = nothing_counted
counted (t.ExportNames _ _) = nothing_counted
counted (t.ExportDeclaration a0) = counted a0
counted (t.ExportDefault _ a1 _) = counted a1
counted (t.Plain a0) = counted a0
counted t.none = nothing_counted
counted (t.more a0 a1) = beside (counted a0) (counted a1)
counted t.absent = nothing_counted
counted (t.present a0) = counted a0

-- an expression that has a list, a function or a class in it, or three expressions
abbrev pub is_compound : Tree t.expression → Bool
is_compound (t.Template _ _) = true
is_compound (t.Array _) = true
is_compound (t.Object _) = true
is_compound (t.Function _) = true
is_compound (t.Class _) = true
is_compound (t.Call _ _) = true
is_compound (t.New _ _) = true
is_compound (t.SuperCall _ _) = true
is_compound (t.Conditional _ _ _) = true
is_compound _ = false

-- a loop, or a statement that has nothing in it
abbrev pub is_loop_or_bare : Tree t.statement → Bool
is_loop_or_bare (t.For _ _ _ _) = true
is_loop_or_bare (t.While _ _) = true
is_loop_or_bare (t.DoWhile _ _ _) = true
is_loop_or_bare t.Empty = true
is_loop_or_bare (t.Break _ _) = true
is_loop_or_bare (t.Continue _ _) = true
is_loop_or_bare _ = false
