-- How deep a tree is nested, in statements, expressions, functions and classes (own rule).
use Rattle.std.specs.Prelude.{ℕ, suc, max}
use Rattle.es_model.specs.Tree as t
use Rattle.es_model.specs.Tree.{Tree}

-- The longest chain of statements, expressions, functions and classes that stand in each other. A
-- function or class counts beside the expression or statement that it is, and once where it is a
-- default export; nothing else of a tree counts (own rule).
unfoldable pub nesting : {s : t.Sort} → Tree s → ℕ
nesting t.This = 1
nesting t.Null = 1
nesting t.True = 1
nesting t.False = 1
nesting (t.Name _) = 1
nesting (t.Number _) = 1
nesting (t.String _) = 1
nesting (t.Template _ a1) = suc (nesting a1)
nesting (t.Array a0) = suc (nesting a0)
nesting (t.Object a0) = suc (nesting a0)
nesting (t.Function a0) = suc (nesting a0)
nesting (t.Class a0) = suc (nesting a0)
nesting (t.Paren a0) = suc (nesting a0)
nesting (t.Dot a0 _) = suc (nesting a0)
nesting (t.Index a0 a1) = suc (max (nesting a0) (nesting a1))
nesting (t.SuperDot _ _) = 1
nesting (t.SuperIndex _ a1) = suc (nesting a1)
nesting (t.Call a0 a1) = suc (max (nesting a0) (nesting a1))
nesting (t.New a0 a1) = suc (max (nesting a0) (nesting a1))
nesting (t.SuperCall _ a1) = suc (nesting a1)
nesting (t.Update _ _ _ a3) = suc (nesting a3)
nesting (t.Unary _ a1) = suc (nesting a1)
nesting (t.Typeof a0) = suc (nesting a0)
nesting (t.Void a0) = suc (nesting a0)
nesting (t.Delete _ a1) = suc (nesting a1)
nesting (t.Binary _ a1 a2) = suc (max (nesting a1) (nesting a2))
nesting (t.In a0 a1) = suc (max (nesting a0) (nesting a1))
nesting (t.InstanceOf a0 a1) = suc (max (nesting a0) (nesting a1))
nesting (t.And a0 a1) = suc (max (nesting a0) (nesting a1))
nesting (t.Or a0 a1) = suc (max (nesting a0) (nesting a1))
nesting (t.Nullish a0 a1) = suc (max (nesting a0) (nesting a1))
nesting (t.Conditional a0 a1 a2) = suc (max (nesting a0) (max (nesting a1) (nesting a2)))
nesting (t.Assign _ a1 _ a3) = suc (max (nesting a1) (nesting a3))
nesting (t.Comma a0 a1) = suc (max (nesting a0) (nesting a1))
nesting (t.KeyWord _) = 0
nesting (t.KeyString _) = 0
nesting (t.KeyNumber _) = 0
nesting (t.KeyComputed a0) = nesting a0
nesting (t.MemberOf _ _ _ a3 a4 a5) = max (nesting a3) (max (nesting a4) (nesting a5))
nesting (t.FunctionOf _ _ _ _ a4) = suc (nesting a4)
nesting (t.BodyStatements a0) = nesting a0
nesting (t.BodyExpression a0) = nesting a0
nesting (t.ClassOf _ _ a2 a3) = suc (max (nesting a2) (nesting a3))
nesting t.HeadNothing = 0
nesting (t.HeadValue a0) = nesting a0
nesting (t.HeadDeclare _ a1) = nesting a1
nesting (t.DeclaratorOf _ a1) = nesting a1
nesting (t.CaseOf a0 a1) = max (nesting a0) (nesting a1)
nesting t.Empty = 1
nesting (t.Value a0 _) = suc (nesting a0)
nesting (t.Declare _ a1 _) = suc (nesting a1)
nesting (t.FunctionStatement a0) = suc (nesting a0)
nesting (t.ClassStatement a0) = suc (nesting a0)
nesting (t.Block a0) = suc (nesting a0)
nesting (t.If a0 a1 a2) = suc (max (nesting a0) (max (nesting a1) (nesting a2)))
nesting (t.For a0 a1 a2 a3) = suc (max (nesting a0) (max (nesting a1) (max (nesting a2) (nesting a3))))
nesting (t.While a0 a1) = suc (max (nesting a0) (nesting a1))
nesting (t.DoWhile a0 a1 _) = suc (max (nesting a0) (nesting a1))
nesting (t.Break _ _) = 1
nesting (t.Continue _ _) = 1
nesting (t.Return _ a1 _) = suc (nesting a1)
nesting (t.Throw a0 _) = suc (nesting a0)
nesting (t.Try a0 _ a2 a3) = suc (max (nesting a0) (max (nesting a2) (nesting a3)))
nesting (t.Switch a0 a1) = suc (max (nesting a0) (nesting a1))
nesting (t.DefaultFunction a0) = nesting a0
nesting (t.DefaultClass a0) = nesting a0
nesting (t.DefaultValue a0) = nesting a0
nesting (t.Import _ _ _) = 0
nesting (t.ExportFrom _ _ _) = 0
nesting (t.ExportNames _ _) = 0
nesting (t.ExportDeclaration a0) = nesting a0
nesting (t.ExportDefault _ a1 _) = nesting a1
nesting (t.Plain a0) = nesting a0
nesting t.none = 0
nesting (t.more a0 a1) = max (nesting a0) (nesting a1)
nesting t.absent = 0
nesting (t.present a0) = nesting a0
