-- Gathering looks at each node once.
use Rattle.std.proofs.Common.{◌≡◌, ℕ, suc, ◌+◌, List, [], ◌∷◌, ◌++◌, length, refl, arith, length-append}
use Rattle.es_model.specs.Tree as t
use Rattle.es_model.specs.Tree.{Tree}
use Rattle.es_model.specs.Nodes.{node_count}
use Rattle.es_model.specs.Scopes.{Setting, Gathers, gather}

-- one item for each node
pub each : Gathers (Unit {0})
each = record { at_node = λ s g tree. tt ∷ []; at_catch = λ g name. [] }

one : (x : List (Unit {0})) (k : ℕ) → length x ≡ k → suc (length x) ≡ k + 1
one x k e = omega (arith, e)

both : (x y : List (Unit {0})) (k l : ℕ) → length x ≡ k → length y ≡ l → length (x ++ y) ≡ k + l
both x y k l e f = let j = length-append x y in omega (arith, e, f, j)

two : (x y : List (Unit {0})) (k l : ℕ) → length x ≡ k → length y ≡ l → suc (length (x ++ y)) ≡ k + l + 1
two x y k l e f = let j = length-append x y in omega (arith, e, f, j)

three : (x y z : List (Unit {0})) (k l m : ℕ) → length x ≡ k → length y ≡ l → length z ≡ m → suc (length (x ++ (y ++ z))) ≡ k + l + m + 1
three x y z k l m e f h = let i = length-append y z in let j = length-append x (y ++ z) in omega (arith, e, f, h, i, j)

four : (x y z w : List (Unit {0})) (k l m n : ℕ) → length x ≡ k → length y ≡ l → length z ≡ m → length w ≡ n → suc (length (x ++ (y ++ (z ++ w)))) ≡ k + l + m + n + 1
four x y z w k l m n e f h g = let a = length-append z w in let i = length-append y (z ++ w) in let j = length-append x (y ++ (z ++ w)) in omega (arith, e, f, h, g, a, i, j)

pub gathers_each : {s : t.Sort} (g : Setting) (tree : Tree s) → length (gather each g tree) ≡ node_count tree
unfolding gather each
gathers_each g t.This = refl
gathers_each g t.Null = refl
gathers_each g t.True = refl
gathers_each g t.False = refl
gathers_each g (t.Name a0) = refl
gathers_each g (t.Number a0) = refl
gathers_each g (t.String a0) = refl
gathers_each g (t.Template a0 a1) = one _ _ (gathers_each _ a1)
gathers_each g (t.Array a0) = one _ _ (gathers_each _ a0)
gathers_each g (t.Object a0) = one _ _ (gathers_each _ a0)
gathers_each g (t.Function a0) = one _ _ (gathers_each _ a0)
gathers_each g (t.Class a0) = one _ _ (gathers_each _ a0)
gathers_each g (t.Paren a0) = one _ _ (gathers_each _ a0)
gathers_each g (t.Dot a0 a1) = one _ _ (gathers_each _ a0)
gathers_each g (t.Index a0 a1) = two _ _ _ _ (gathers_each _ a0) (gathers_each _ a1)
gathers_each g (t.SuperDot a0 a1) = refl
gathers_each g (t.SuperIndex a0 a1) = one _ _ (gathers_each _ a1)
gathers_each g (t.Call a0 a1) = two _ _ _ _ (gathers_each _ a0) (gathers_each _ a1)
gathers_each g (t.New a0 a1) = two _ _ _ _ (gathers_each _ a0) (gathers_each _ a1)
gathers_each g (t.SuperCall a0 a1) = one _ _ (gathers_each _ a1)
gathers_each g (t.Update a0 a1 a2 a3) = one _ _ (gathers_each _ a3)
gathers_each g (t.Unary a0 a1) = one _ _ (gathers_each _ a1)
gathers_each g (t.Typeof a0) = one _ _ (gathers_each _ a0)
gathers_each g (t.Void a0) = one _ _ (gathers_each _ a0)
gathers_each g (t.Delete a0 a1) = one _ _ (gathers_each _ a1)
gathers_each g (t.Binary a0 a1 a2) = two _ _ _ _ (gathers_each _ a1) (gathers_each _ a2)
gathers_each g (t.In a0 a1) = two _ _ _ _ (gathers_each _ a0) (gathers_each _ a1)
gathers_each g (t.InstanceOf a0 a1) = two _ _ _ _ (gathers_each _ a0) (gathers_each _ a1)
gathers_each g (t.And a0 a1) = two _ _ _ _ (gathers_each _ a0) (gathers_each _ a1)
gathers_each g (t.Or a0 a1) = two _ _ _ _ (gathers_each _ a0) (gathers_each _ a1)
gathers_each g (t.Nullish a0 a1) = two _ _ _ _ (gathers_each _ a0) (gathers_each _ a1)
gathers_each g (t.Conditional a0 a1 a2) = three _ _ _ _ _ _ (gathers_each _ a0) (gathers_each _ a1) (gathers_each _ a2)
gathers_each g (t.Assign a0 a1 a2 a3) = two _ _ _ _ (gathers_each _ a1) (gathers_each _ a3)
gathers_each g (t.Comma a0 a1) = two _ _ _ _ (gathers_each _ a0) (gathers_each _ a1)
gathers_each g (t.KeyWord a0) = refl
gathers_each g (t.KeyString a0) = refl
gathers_each g (t.KeyNumber a0) = refl
gathers_each g (t.KeyComputed a0) = one _ _ (gathers_each _ a0)
gathers_each g (t.MemberOf a0 a1 a2 a3 a4 a5) = three _ _ _ _ _ _ (gathers_each _ a3) (gathers_each _ a4) (gathers_each _ a5)
gathers_each g (t.FunctionOf a0 a1 a2 a3 a4) = one _ _ (gathers_each _ a4)
gathers_each g (t.BodyStatements a0) = one _ _ (gathers_each _ a0)
gathers_each g (t.BodyExpression a0) = one _ _ (gathers_each _ a0)
gathers_each g (t.ClassOf a0 a1 a2 a3) = two _ _ _ _ (gathers_each _ a2) (gathers_each _ a3)
gathers_each g t.HeadNothing = refl
gathers_each g (t.HeadValue a0) = one _ _ (gathers_each _ a0)
gathers_each g (t.HeadDeclare a0 a1) = one _ _ (gathers_each _ a1)
gathers_each g (t.DeclaratorOf a0 a1) = one _ _ (gathers_each _ a1)
gathers_each g (t.CaseOf a0 a1) = two _ _ _ _ (gathers_each _ a0) (gathers_each _ a1)
gathers_each g t.Empty = refl
gathers_each g (t.Value a0 a1) = one _ _ (gathers_each _ a0)
gathers_each g (t.Declare a0 a1 a2) = one _ _ (gathers_each _ a1)
gathers_each g (t.FunctionStatement a0) = one _ _ (gathers_each _ a0)
gathers_each g (t.ClassStatement a0) = one _ _ (gathers_each _ a0)
gathers_each g (t.Block a0) = one _ _ (gathers_each _ a0)
gathers_each g (t.If a0 a1 a2) = three _ _ _ _ _ _ (gathers_each _ a0) (gathers_each _ a1) (gathers_each _ a2)
gathers_each g (t.For a0 a1 a2 a3) = four _ _ _ _ _ _ _ _ (gathers_each _ a0) (gathers_each _ a1) (gathers_each _ a2) (gathers_each _ a3)
gathers_each g (t.While a0 a1) = two _ _ _ _ (gathers_each _ a0) (gathers_each _ a1)
gathers_each g (t.DoWhile a0 a1 a2) = two _ _ _ _ (gathers_each _ a0) (gathers_each _ a1)
gathers_each g (t.Break a0 a1) = refl
gathers_each g (t.Continue a0 a1) = refl
gathers_each g (t.Return a0 a1 a2) = one _ _ (gathers_each _ a1)
gathers_each g (t.Throw a0 a1) = one _ _ (gathers_each _ a0)
gathers_each g (t.Try a0 a1 a2 a3) = three _ _ _ _ _ _ (gathers_each _ a0) (gathers_each _ a2) (gathers_each _ a3)
gathers_each g (t.Switch a0 a1) = two _ _ _ _ (gathers_each _ a0) (gathers_each _ a1)
gathers_each g (t.DefaultFunction a0) = one _ _ (gathers_each _ a0)
gathers_each g (t.DefaultClass a0) = one _ _ (gathers_each _ a0)
gathers_each g (t.DefaultValue a0) = one _ _ (gathers_each _ a0)
gathers_each g (t.Import a0 a1 a2) = refl
gathers_each g (t.ExportFrom a0 a1 a2) = refl
gathers_each g (t.ExportNames a0 a1) = refl
gathers_each g (t.ExportDeclaration a0) = one _ _ (gathers_each _ a0)
gathers_each g (t.ExportDefault a0 a1 a2) = one _ _ (gathers_each _ a1)
gathers_each g (t.Plain a0) = one _ _ (gathers_each _ a0)
gathers_each g t.none = refl
gathers_each g (t.more a b) = both _ _ _ _ (gathers_each _ a) (gathers_each _ b)
gathers_each g t.absent = refl
gathers_each g (t.present a) = gathers_each _ a
