-- Worked rows of `nesting`.
use Rattle.std.specs.Prelude.{◌≡◌, ℕ, zero, suc, false, [], ◌∷◌, codes, pos, Some, None, refl}
use Rattle.es_model.specs.declared.kinds.Semi.TheVariants as semi
use Rattle.es_model.specs.declared.kinds.FunctionKind.TheVariants as f
use Rattle.es_model.specs.declared.kinds.MemberKind.TheVariants as m
use Rattle.es_model.specs.declared.kinds.BinaryOperator.TheVariants as b
use Rattle.es_model.specs.Tree as t
use Rattle.es_model.specs.Tree.{Tree}
use Rattle.es_model.specs.Nesting.{nesting}
use Rattle.es_model.proofs.Rows.{named_at}

-- so many parentheses round `1`
abbrev parentheses : ℕ → Tree t.expression
parentheses zero = t.Number (pos 1)
parentheses (suc n) = t.Paren (parentheses n)

abbrev alone : Tree t.expression → Tree (t.list t.item)
alone value = t.more (t.Plain (t.Value value semi.Written)) t.none

-- a statement, 62 parentheses and a number
in_62_parentheses : nesting (alone (parentheses 62)) ≡ 64
unfolding nesting
in_62_parentheses = refl

-- `a => a;` is a statement, an expression, a function and an expression
arrow : nesting (alone (t.Function (t.FunctionOf 0 None f.Arrow (named_at 0 (codes "a") ∷ []) (t.BodyExpression (t.Name (named_at 5 (codes "a"))))))) ≡ 4
unfolding nesting
arrow = refl

-- `export default function () {}`: a default export's function counts once
default_function : nesting (t.more (t.ExportDefault 7 (t.DefaultFunction (t.FunctionOf 15 None f.Plain [] (t.BodyStatements t.none))) semi.Missing) t.none) ≡ 1
unfolding nesting
default_function = refl

-- `({ a });`: a name alone holds no expression
short_member : nesting (alone (t.Paren (t.Object (t.more (t.MemberOf 3 false m.Short (t.KeyWord (codes "a")) t.absent t.absent) t.none)))) ≡ 3
unfolding nesting
short_member = refl

-- `for (let a = 1;;) ;`: the head's declaration is no statement
for_head : nesting (t.more (t.Plain (t.For (t.HeadDeclare false (t.more (t.DeclaratorOf (named_at 9 (codes "a")) (t.present (t.Number (pos 1)))) t.none)) t.absent t.absent t.Empty)) t.none) ≡ 2
unfolding nesting
for_head = refl

-- `class A { m() { return 1; } }` is a statement, a class, a function, a statement and an expression
method : nesting (t.more (t.Plain (t.ClassStatement (t.ClassOf 0 (Some (named_at 6 (codes "A"))) t.absent (t.more (t.MemberOf 10 false m.Method (t.KeyWord (codes "m")) t.absent (t.present (t.FunctionOf 10 None f.Method [] (t.BodyStatements (t.more (t.Return 16 (t.present (t.Number (pos 1))) semi.Written) t.none))))) t.none)))) t.none) ≡ 5
unfolding nesting
method = refl

-- `class A extends b.c { }`: the parent stands in the class
parent : nesting (t.more (t.Plain (t.ClassStatement (t.ClassOf 0 (Some (named_at 6 (codes "A"))) (t.present (t.Dot (t.Name (named_at 16 (codes "b"))) (codes "c"))) t.none))) t.none) ≡ 4
unfolding nesting
parent = refl

-- `switch (1) { case 2: a; }`: a case is no statement of its own
switch_case : nesting (t.more (t.Plain (t.Switch (t.Number (pos 1)) (t.more (t.CaseOf (t.present (t.Number (pos 2))) (t.more (t.Value (t.Name (named_at 21 (codes "a"))) semi.Written) t.none)) t.none))) t.none) ≡ 3
unfolding nesting
switch_case = refl

-- `switch (1) { case a.b.c: ; }`: the test stands in the switch alone
case_test : nesting (t.more (t.Plain (t.Switch (t.Number (pos 1)) (t.more (t.CaseOf (t.present (t.Dot (t.Dot (t.Name (named_at 18 (codes "a"))) (codes "b")) (codes "c"))) (t.more t.Empty t.none)) t.none))) t.none) ≡ 4
unfolding nesting
case_test = refl

-- `try { { ; } } catch { } finally { }`: the three lists stand in the try
try_block : nesting (t.more (t.Plain (t.Try (t.more (t.Block (t.more t.Empty t.none)) t.none) None (t.present t.none) (t.present t.none))) t.none) ≡ 3
unfolding nesting
try_block = refl

-- `try { } catch (e) { a; } finally { ; }`
catch_block : nesting (t.more (t.Plain (t.Try t.none (Some (named_at 15 (codes "e"))) (t.present (t.more (t.Value (t.Name (named_at 20 (codes "a"))) semi.Written) t.none)) (t.present (t.more t.Empty t.none)))) t.none) ≡ 3
unfolding nesting
catch_block = refl

-- `try { ; } catch { } finally { { a; } }`
finally_block : nesting (t.more (t.Plain (t.Try (t.more t.Empty t.none) None (t.present t.none) (t.present (t.more (t.Block (t.more (t.Value (t.Name (named_at 32 (codes "a"))) semi.Written) t.none)) t.none)))) t.none) ≡ 4
unfolding nesting
finally_block = refl

-- `({ [a + 1]: 2 });`: a key stands in its object
computed_key : nesting (t.more (t.Plain (t.Value (t.Paren (t.Object (t.more (t.MemberOf 3 false m.Value (t.KeyComputed (t.Binary b.Add (t.Name (named_at 4 (codes "a"))) (t.Number (pos 1)))) (t.present (t.Number (pos 2))) t.absent) t.none))) semi.Written)) t.none) ≡ 5
unfolding nesting
computed_key = refl

-- ``${a}${b.c}`;`: the deepest value counts
template_value : nesting (t.more (t.Plain (t.Value (t.Template ([] ∷ [] ∷ [] ∷ []) (t.more (t.Name (named_at 3 (codes "a"))) (t.more (t.Dot (t.Name (named_at 7 (codes "b"))) (codes "c")) t.none))) semi.Written)) t.none) ≡ 4
unfolding nesting
template_value = refl

-- `if (a) ; else { ; }`
else_branch : nesting (t.more (t.Plain (t.If (t.Name (named_at 4 (codes "a"))) t.Empty (t.present (t.Block (t.more t.Empty t.none))))) t.none) ≡ 3
unfolding nesting
else_branch = refl

-- `f(1, a => a);`: an arrow is an expression and a function
arrow_argument : nesting (t.more (t.Plain (t.Value (t.Call (t.Name (named_at 0 (codes "f"))) (t.more (t.Number (pos 1)) (t.more (t.Function (t.FunctionOf 5 None f.Arrow ((named_at 5 (codes "a")) ∷ []) (t.BodyExpression (t.Name (named_at 10 (codes "a")))))) t.none))) semi.Written)) t.none) ≡ 5
unfolding nesting
arrow_argument = refl

-- `export default class { m() { } }`: a default export's class counts once
default_class : nesting (t.more (t.ExportDefault 7 (t.DefaultClass (t.ClassOf 15 None t.absent (t.more (t.MemberOf 23 false m.Method (t.KeyWord (codes "m")) t.absent (t.present (t.FunctionOf 23 None f.Method [] (t.BodyStatements t.none)))) t.none))) semi.Missing) t.none) ≡ 2
unfolding nesting
default_class = refl

-- `import "m";`: an import holds none of these
import_alone : nesting (t.more (t.Import (codes "m") [] semi.Written) t.none) ≡ 0
unfolding nesting
import_alone = refl
