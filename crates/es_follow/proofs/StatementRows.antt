-- Values, loops, functions and exits, each program on both sides.
use Rattle.std.specs.Prelude.{◌≡◌, true, false, [], ◌∷◌, codes, pos, Some, None, refl}
use Rattle.es_model.specs.declared.kinds.Semi.TheVariants as semi
use Rattle.es_model.specs.declared.kinds.FunctionKind.TheVariants as f
use Rattle.es_model.specs.declared.kinds.UnaryOperator.TheVariants as u
use Rattle.es_model.specs.declared.kinds.BinaryOperator.TheVariants as b
use Rattle.es_model.specs.Tree as t
use Rattle.es_model.specs.Tree.{Tree}
use Rattle.code_gen.proofs.Rows.{named_at, pair_of}
use Rattle.es_follow.proofs.Computing.{computing}
use Rattle.es_follow.proofs.Sides.{by_machine, by_evaluation, main_alone}

-- a call of the host
-- import { print } from "host"; print("hi");
hi : Tree (t.list t.item)
hi = t.more (t.Import (codes "host") ((pair_of (named_at 9 (codes "print")) (named_at 9 (codes "print"))) ∷ []) semi.Written) (t.more (t.Plain (t.Value (t.Call (t.Name (named_at 30 (codes "print"))) (t.more (t.String (codes "hi")) t.none)) semi.Written)) t.none)

hi_same : by_machine 20 50 (main_alone hi) ≡ by_evaluation 50 (main_alone hi)
unfolding computing hi
hi_same = refl

-- bindings and expressions
-- let x = 2; const y = x * 3 + 1; x = y < 5 ? 0 : -y; export default x;
sums : Tree (t.list t.item)
sums = t.more (t.Plain (t.Declare false (t.more (t.DeclaratorOf (named_at 4 (codes "x")) (t.present (t.Number (pos 2)))) t.none) semi.Written)) (t.more (t.Plain (t.Declare true (t.more (t.DeclaratorOf (named_at 17 (codes "y")) (t.present (t.Binary b.Add (t.Binary b.Multiply (t.Name (named_at 21 (codes "x"))) (t.Number (pos 3))) (t.Number (pos 1))))) t.none) semi.Written)) (t.more (t.Plain (t.Value (t.Assign 32 (t.Name (named_at 32 (codes "x"))) None (t.Conditional (t.Binary b.Less (t.Name (named_at 36 (codes "y"))) (t.Number (pos 5))) (t.Number (pos 0)) (t.Unary u.Negate (t.Name (named_at 49 (codes "y")))))) semi.Written)) (t.more (t.ExportDefault 59 (t.DefaultValue (t.Name (named_at 67 (codes "x")))) semi.Written) t.none)))

sums_same : by_machine 200 20 (main_alone sums) ≡ by_evaluation 20 (main_alone sums)
unfolding computing sums
sums_same = refl

-- a loop whose turns have bindings of their own
-- let f; for (let i = 0; i < 2; i++) { let g = f; f = function () { return g ? g() + i : i; }; } export default f();
closures : Tree (t.list t.item)
closures = t.more (t.Plain (t.Declare false (t.more (t.DeclaratorOf (named_at 4 (codes "f")) t.absent) t.none) semi.Written)) (t.more (t.Plain (t.For (t.HeadDeclare false (t.more (t.DeclaratorOf (named_at 16 (codes "i")) (t.present (t.Number (pos 0)))) t.none)) (t.present (t.Binary b.Less (t.Name (named_at 23 (codes "i"))) (t.Number (pos 2)))) (t.present (t.Update 30 true false (t.Name (named_at 30 (codes "i"))))) (t.Block (t.more (t.Declare false (t.more (t.DeclaratorOf (named_at 41 (codes "g")) (t.present (t.Name (named_at 45 (codes "f"))))) t.none) semi.Written) (t.more (t.Value (t.Assign 48 (t.Name (named_at 48 (codes "f"))) None (t.Function (t.FunctionOf 52 None f.Plain [] (t.BodyStatements (t.more (t.Return 66 (t.present (t.Conditional (t.Name (named_at 73 (codes "g"))) (t.Binary b.Add (t.Call (t.Name (named_at 77 (codes "g"))) t.none) (t.Name (named_at 83 (codes "i")))) (t.Name (named_at 87 (codes "i"))))) semi.Written) t.none))))) semi.Written) t.none))))) (t.more (t.ExportDefault 102 (t.DefaultValue (t.Call (t.Name (named_at 110 (codes "f"))) t.none)) semi.Written) t.none))

closures_same : by_machine 400 50 (main_alone closures) ≡ by_evaluation 50 (main_alone closures)
unfolding computing closures
closures_same = refl

-- a function that calls itself
-- function f(n) { return n < 2 ? 1 : n * f(n - 1); } export default f(3);
recursion : Tree (t.list t.item)
recursion = t.more (t.Plain (t.FunctionStatement (t.FunctionOf 0 (Some (named_at 9 (codes "f"))) f.Plain ((named_at 11 (codes "n")) ∷ []) (t.BodyStatements (t.more (t.Return 16 (t.present (t.Conditional (t.Binary b.Less (t.Name (named_at 23 (codes "n"))) (t.Number (pos 2))) (t.Number (pos 1)) (t.Binary b.Multiply (t.Name (named_at 35 (codes "n"))) (t.Call (t.Name (named_at 39 (codes "f"))) (t.more (t.Binary b.Subtract (t.Name (named_at 41 (codes "n"))) (t.Number (pos 1))) t.none))))) semi.Written) t.none))))) (t.more (t.ExportDefault 58 (t.DefaultValue (t.Call (t.Name (named_at 66 (codes "f"))) (t.more (t.Number (pos 3)) t.none))) semi.Written) t.none)

recursion_same : by_machine 400 50 (main_alone recursion) ≡ by_evaluation 50 (main_alone recursion)
unfolding computing recursion
recursion_same = refl

-- an exit through `finally`, and a caught error
-- function f() { for (;;) { try { throw 1; } catch (e) { if (e) break; } finally { x = 2; } } return x; } let x = 0; export default f();
exits : Tree (t.list t.item)
exits = t.more (t.Plain (t.FunctionStatement (t.FunctionOf 0 (Some (named_at 9 (codes "f"))) f.Plain [] (t.BodyStatements (t.more (t.For t.HeadNothing t.absent t.absent (t.Block (t.more (t.Try (t.more (t.Throw (t.Number (pos 1)) semi.Written) t.none) (Some (named_at 50 (codes "e"))) (t.present (t.more (t.If (t.Name (named_at 59 (codes "e"))) (t.Break 62 semi.Written) t.absent) t.none)) (t.present (t.more (t.Value (t.Assign 81 (t.Name (named_at 81 (codes "x"))) None (t.Number (pos 2))) semi.Written) t.none))) t.none))) (t.more (t.Return 92 (t.present (t.Name (named_at 99 (codes "x")))) semi.Written) t.none)))))) (t.more (t.Plain (t.Declare false (t.more (t.DeclaratorOf (named_at 108 (codes "x")) (t.present (t.Number (pos 0)))) t.none) semi.Written)) (t.more (t.ExportDefault 122 (t.DefaultValue (t.Call (t.Name (named_at 130 (codes "f"))) t.none)) semi.Written) t.none))

exits_same : by_machine 400 50 (main_alone exits) ≡ by_evaluation 50 (main_alone exits)
unfolding computing exits
exits_same = refl

-- a switch that falls through to its default, and a template
-- let t = 1; switch (t) { case 1: t = 5; default: t = t + 1; break; case 9: t = 0; } export default `a${t}`;
cases : Tree (t.list t.item)
cases = t.more (t.Plain (t.Declare false (t.more (t.DeclaratorOf (named_at 4 (codes "t")) (t.present (t.Number (pos 1)))) t.none) semi.Written)) (t.more (t.Plain (t.Switch (t.Name (named_at 19 (codes "t"))) (t.more (t.CaseOf (t.present (t.Number (pos 1))) (t.more (t.Value (t.Assign 32 (t.Name (named_at 32 (codes "t"))) None (t.Number (pos 5))) semi.Written) t.none)) (t.more (t.CaseOf t.absent (t.more (t.Value (t.Assign 48 (t.Name (named_at 48 (codes "t"))) None (t.Binary b.Add (t.Name (named_at 52 (codes "t"))) (t.Number (pos 1)))) semi.Written) (t.more (t.Break 59 semi.Written) t.none))) (t.more (t.CaseOf (t.present (t.Number (pos 9))) (t.more (t.Value (t.Assign 74 (t.Name (named_at 74 (codes "t"))) None (t.Number (pos 0))) semi.Written) t.none)) t.none))))) (t.more (t.ExportDefault 90 (t.DefaultValue (t.Template ((codes "a") ∷ [] ∷ []) (t.more (t.Name (named_at 102 (codes "t"))) t.none))) semi.Written) t.none))

cases_same : by_machine 400 50 (main_alone cases) ≡ by_evaluation 50 (main_alone cases)
unfolding computing cases
cases_same = refl
