-- The functions of a tree are as many as its nodes that are functions, and its classes without a constructor.
use Rattle.std.proofs.Common.{◌≡◌, suc, Bool, true, false, List, [], ◌∷◌, ◌++◌, length, refl, ap, arith, length-append}
use Rattle.es_model.specs.Tree as t
use Rattle.es_model.specs.Tree.{Tree}
use Rattle.es_model.specs.Functions.{FunctionForm, functions, inner, generated, writes_constructor}
use Rattle.es_model.specs.Scopes.{Setting, Gathers, gather}

abbrev pub one_unless : Bool → List (Unit {0})
one_unless true = []
one_unless false = tt ∷ []

-- an item for each function, and for each class that writes no constructor
abbrev pub own_functions : {s : t.Sort} → Tree s → List (Unit {0})
own_functions (t.FunctionOf at name kind parameters body) = tt ∷ []
own_functions (t.ClassOf at name parent members) = one_unless (writes_constructor members)
own_functions _ = []

pub each_function : Gathers (Unit {0})
each_function = record { at_node = λ s g tree. own_functions tree; at_catch = λ g name. [] }

both : (x y : List FunctionForm) (u v : List (Unit {0})) → length x ≡ length u → length y ≡ length v → length (x ++ y) ≡ length (u ++ v)
both x y u v e f = let i = length-append x y in let j = length-append u v in omega (arith, e, f, i, j)

three : (x y z : List FunctionForm) (u v w : List (Unit {0})) → length x ≡ length u → length y ≡ length v → length z ≡ length w → length (x ++ (y ++ z)) ≡ length (u ++ (v ++ w))
three x y z u v w e f h = both x (y ++ z) u (v ++ w) e (both y z v w f h)

four : (x y z r : List FunctionForm) (u v w q : List (Unit {0})) → length x ≡ length u → length y ≡ length v → length z ≡ length w → length r ≡ length q → length (x ++ (y ++ (z ++ r))) ≡ length (u ++ (v ++ (w ++ q)))
four x y z r u v w q e f h g = both x (y ++ (z ++ r)) u (v ++ (w ++ q)) e (three y z r v w q f h g)

two_and_none : (x y : List FunctionForm) (u v : List (Unit {0})) → length x ≡ length u → length y ≡ length v → length (x ++ y) ≡ length (u ++ (v ++ []))
two_and_none x y u v e f = let i = length-append x y in let j = length-append u (v ++ []) in let k = length-append v [] in omega (arith, e, f, i, j, k)

method : (x y z : List FunctionForm) (u v w : List (Unit {0})) → length x ≡ length u → length y ≡ length v → length z ≡ length w → suc (length (x ++ (y ++ z))) ≡ length (u ++ (v ++ (tt ∷ w)))
method x y z u v w e f h =
    let a = length-append y z in let b = length-append x (y ++ z) in let c = length-append v (tt ∷ w) in let d = length-append u (v ++ (tt ∷ w)) in
    omega (arith, e, f, h, a, b, c, d)

with_generated : (b : Bool) (c : Tree t.class) (x y : List FunctionForm) (u v : List (Unit {0})) → length x ≡ length u → length y ≡ length v → length (generated b c ++ (x ++ y)) ≡ length (one_unless b ++ (u ++ v))
with_generated true c x y u v e f = both x y u v e f
with_generated false c x y u v e f = ap (λ n. suc n) (both x y u v e f)

pub counts_functions : {s : t.Sort} (g : Setting) (tree : Tree s) → length (functions tree) ≡ length (gather each_function g tree)
unfolding functions inner gather each_function
counts_functions g t.This = refl
counts_functions g t.Null = refl
counts_functions g t.True = refl
counts_functions g t.False = refl
counts_functions g (t.Name a0) = refl
counts_functions g (t.Number a0) = refl
counts_functions g (t.String a0) = refl
counts_functions g (t.Template a0 a1) = counts_functions _ a1
counts_functions g (t.Array a0) = counts_functions _ a0
counts_functions g (t.Object a0) = counts_functions _ a0
counts_functions g (t.Function a0) = counts_functions _ a0
counts_functions g (t.Class a0) = counts_functions _ a0
counts_functions g (t.Paren a0) = counts_functions _ a0
counts_functions g (t.Dot a0 a1) = counts_functions _ a0
counts_functions g (t.Index a0 a1) = both _ _ _ _ (counts_functions _ a0) (counts_functions _ a1)
counts_functions g (t.SuperDot a0 a1) = refl
counts_functions g (t.SuperIndex a0 a1) = counts_functions _ a1
counts_functions g (t.Call a0 a1) = both _ _ _ _ (counts_functions _ a0) (counts_functions _ a1)
counts_functions g (t.New a0 a1) = both _ _ _ _ (counts_functions _ a0) (counts_functions _ a1)
counts_functions g (t.SuperCall a0 a1) = counts_functions _ a1
counts_functions g (t.Update a0 a1 a2 a3) = counts_functions _ a3
counts_functions g (t.Unary a0 a1) = counts_functions _ a1
counts_functions g (t.Typeof a0) = counts_functions _ a0
counts_functions g (t.Void a0) = counts_functions _ a0
counts_functions g (t.Delete a0 a1) = counts_functions _ a1
counts_functions g (t.Binary a0 a1 a2) = both _ _ _ _ (counts_functions _ a1) (counts_functions _ a2)
counts_functions g (t.In a0 a1) = both _ _ _ _ (counts_functions _ a0) (counts_functions _ a1)
counts_functions g (t.InstanceOf a0 a1) = both _ _ _ _ (counts_functions _ a0) (counts_functions _ a1)
counts_functions g (t.And a0 a1) = both _ _ _ _ (counts_functions _ a0) (counts_functions _ a1)
counts_functions g (t.Or a0 a1) = both _ _ _ _ (counts_functions _ a0) (counts_functions _ a1)
counts_functions g (t.Nullish a0 a1) = both _ _ _ _ (counts_functions _ a0) (counts_functions _ a1)
counts_functions g (t.Conditional a0 a1 a2) = three _ _ _ _ _ _ (counts_functions _ a0) (counts_functions _ a1) (counts_functions _ a2)
counts_functions g (t.Assign a0 a1 a2 a3) = both _ _ _ _ (counts_functions _ a1) (counts_functions _ a3)
counts_functions g (t.Comma a0 a1) = both _ _ _ _ (counts_functions _ a0) (counts_functions _ a1)
counts_functions g (t.KeyWord a0) = refl
counts_functions g (t.KeyString a0) = refl
counts_functions g (t.KeyNumber a0) = refl
counts_functions g (t.KeyComputed a0) = counts_functions _ a0
counts_functions g (t.MemberOf a0 a1 a2 a3 a4 t.absent) = two_and_none _ _ _ _ (counts_functions _ a3) (counts_functions _ a4)
counts_functions g (t.MemberOf a0 a1 a2 a3 a4 (t.present (t.FunctionOf at name kind parameters body))) = method _ _ _ _ _ _ (counts_functions _ a3) (counts_functions _ a4) (counts_functions _ body)
counts_functions g (t.FunctionOf a0 a1 a2 a3 a4) = ap (λ n. suc n) (counts_functions _ a4)
counts_functions g (t.BodyStatements a0) = counts_functions _ a0
counts_functions g (t.BodyExpression a0) = counts_functions _ a0
counts_functions g (t.ClassOf a0 a1 a2 a3) = with_generated (writes_constructor a3) (t.ClassOf a0 a1 a2 a3) _ _ _ _ (counts_functions _ a2) (counts_functions _ a3)
counts_functions g t.HeadNothing = refl
counts_functions g (t.HeadValue a0) = counts_functions _ a0
counts_functions g (t.HeadDeclare a0 a1) = counts_functions _ a1
counts_functions g (t.DeclaratorOf a0 a1) = counts_functions _ a1
counts_functions g (t.CaseOf a0 a1) = both _ _ _ _ (counts_functions _ a0) (counts_functions _ a1)
counts_functions g t.Empty = refl
counts_functions g (t.Value a0 a1) = counts_functions _ a0
counts_functions g (t.Declare a0 a1 a2) = counts_functions _ a1
counts_functions g (t.FunctionStatement a0) = counts_functions _ a0
counts_functions g (t.ClassStatement a0) = counts_functions _ a0
counts_functions g (t.Block a0) = counts_functions _ a0
counts_functions g (t.If a0 a1 a2) = three _ _ _ _ _ _ (counts_functions _ a0) (counts_functions _ a1) (counts_functions _ a2)
counts_functions g (t.For a0 a1 a2 a3) = four _ _ _ _ _ _ _ _ (counts_functions _ a0) (counts_functions _ a1) (counts_functions _ a2) (counts_functions _ a3)
counts_functions g (t.While a0 a1) = both _ _ _ _ (counts_functions _ a0) (counts_functions _ a1)
counts_functions g (t.DoWhile a0 a1 a2) = both _ _ _ _ (counts_functions _ a0) (counts_functions _ a1)
counts_functions g (t.Break a0 a1) = refl
counts_functions g (t.Continue a0 a1) = refl
counts_functions g (t.Return a0 a1 a2) = counts_functions _ a1
counts_functions g (t.Throw a0 a1) = counts_functions _ a0
counts_functions g (t.Try a0 a1 a2 a3) = three _ _ _ _ _ _ (counts_functions _ a0) (counts_functions _ a2) (counts_functions _ a3)
counts_functions g (t.Switch a0 a1) = both _ _ _ _ (counts_functions _ a0) (counts_functions _ a1)
counts_functions g (t.DefaultFunction a0) = counts_functions _ a0
counts_functions g (t.DefaultClass a0) = counts_functions _ a0
counts_functions g (t.DefaultValue a0) = counts_functions _ a0
counts_functions g (t.Import a0 a1 a2) = refl
counts_functions g (t.ExportFrom a0 a1 a2) = refl
counts_functions g (t.ExportNames a0 a1) = refl
counts_functions g (t.ExportDeclaration a0) = counts_functions _ a0
counts_functions g (t.ExportDefault a0 a1 a2) = counts_functions _ a1
counts_functions g (t.Plain a0) = counts_functions _ a0
counts_functions g t.none = refl
counts_functions g (t.more a b) = both _ _ _ _ (counts_functions _ a) (counts_functions _ b)
counts_functions g t.absent = refl
counts_functions g (t.present a) = counts_functions _ a
