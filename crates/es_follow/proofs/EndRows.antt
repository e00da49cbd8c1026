-- Jobs, modules and ends, each program on both sides.
use Rattle.std.specs.Prelude.{◌≡◌, List, false, [], ◌∷◌, codes, pos, Some, None, refl}
use Rattle.es_model.specs.declared.kinds.Semi.TheVariants as semi
use Rattle.es_model.specs.declared.kinds.FunctionKind.TheVariants as f
use Rattle.es_model.specs.declared.kinds.BinaryOperator.TheVariants as b
use Rattle.es_model.specs.Tree as t
use Rattle.es_model.specs.Tree.{Tree}
use Rattle.code_gen.proofs.Rows.{named_at, pair_of}
use Rattle.es_follow.proofs.Computing.{computing}
use Rattle.es_follow.proofs.Sides.{Source, by_machine, by_evaluation, main_alone}

-- a promise and its job
-- let n = 0; Promise.resolve(5).then(function (v) { n = v; });
jobs : Tree (t.list t.item)
jobs = t.more (t.Plain (t.Declare false (t.more (t.DeclaratorOf (named_at 4 (codes "n")) (t.present (t.Number (pos 0)))) t.none) semi.Written)) (t.more (t.Plain (t.Value (t.Call (t.Dot (t.Call (t.Dot (t.Name (named_at 11 (codes "Promise"))) (codes "resolve")) (t.more (t.Number (pos 5)) t.none)) (codes "then")) (t.more (t.Function (t.FunctionOf 35 None f.Plain ((named_at 45 (codes "v")) ∷ []) (t.BodyStatements (t.more (t.Value (t.Assign 50 (t.Name (named_at 50 (codes "n"))) None (t.Name (named_at 54 (codes "v")))) semi.Written) t.none)))) t.none)) semi.Written)) t.none)

jobs_same : by_machine 400 50 (main_alone jobs) ≡ by_evaluation 50 (main_alone jobs)
unfolding computing jobs
jobs_same = refl

-- the limit of calls within calls
-- function f() { return f(); } f();
past_depth : Tree (t.list t.item)
past_depth = t.more (t.Plain (t.FunctionStatement (t.FunctionOf 0 (Some (named_at 9 (codes "f"))) f.Plain [] (t.BodyStatements (t.more (t.Return 15 (t.present (t.Call (t.Name (named_at 22 (codes "f"))) t.none)) semi.Written) t.none))))) (t.more (t.Plain (t.Value (t.Call (t.Name (named_at 29 (codes "f"))) t.none) semi.Written)) t.none)

past_depth_same : by_machine 8000 2000 (main_alone past_depth) ≡ by_evaluation 2000 (main_alone past_depth)
unfolding computing past_depth
past_depth_same = refl

-- the limit of turns
-- for (;;) {}
past_budget : Tree (t.list t.item)
past_budget = t.more (t.Plain (t.For t.HeadNothing t.absent t.absent (t.Block t.none))) t.none

past_budget_same : by_machine 400 5 (main_alone past_budget) ≡ by_evaluation 5 (main_alone past_budget)
unfolding computing past_budget
past_budget_same = refl

-- an error that nothing catches
-- null.x;
refused : Tree (t.list t.item)
refused = t.more (t.Plain (t.Value (t.Dot t.Null (codes "x")) semi.Written)) t.none

refused_same : by_machine 200 20 (main_alone refused) ≡ by_evaluation 20 (main_alone refused)
unfolding computing refused
refused_same = refl

-- a module with the binding of another
-- main: import { x, up } from "a"; up(); export default x;
-- a: export let x = 1; export function up() { x = x + 1; }
two_modules : List Source
two_modules = record { name = codes "main"; items = t.more (t.Import (codes "a") ((pair_of (named_at 9 (codes "x")) (named_at 9 (codes "x"))) ∷ (pair_of (named_at 12 (codes "up")) (named_at 12 (codes "up"))) ∷ []) semi.Written) (t.more (t.Plain (t.Value (t.Call (t.Name (named_at 27 (codes "up"))) t.none) semi.Written)) (t.more (t.ExportDefault 40 (t.DefaultValue (t.Name (named_at 48 (codes "x")))) semi.Written) t.none)) } ∷ record { name = codes "a"; items = t.more (t.ExportDeclaration (t.Declare false (t.more (t.DeclaratorOf (named_at 11 (codes "x")) (t.present (t.Number (pos 1)))) t.none) semi.Written)) (t.more (t.ExportDeclaration (t.FunctionStatement (t.FunctionOf 25 (Some (named_at 34 (codes "up"))) f.Plain [] (t.BodyStatements (t.more (t.Value (t.Assign 41 (t.Name (named_at 41 (codes "x"))) None (t.Binary b.Add (t.Name (named_at 45 (codes "x"))) (t.Number (pos 1)))) semi.Written) t.none))))) t.none) } ∷ []

two_modules_same : by_machine 400 50 two_modules ≡ by_evaluation 50 two_modules
unfolding computing two_modules
two_modules_same = refl
