-- Classes, objects and calls back, each program on both sides.
use Rattle.std.specs.Prelude.{◌≡◌, false, [], ◌∷◌, codes, pos, Some, None, refl}
use Rattle.es_model.specs.declared.kinds.Semi.TheVariants as semi
use Rattle.es_model.specs.declared.kinds.FunctionKind.TheVariants as f
use Rattle.es_model.specs.declared.kinds.MemberKind.TheVariants as m
use Rattle.es_model.specs.declared.kinds.BinaryOperator.TheVariants as b
use Rattle.es_model.specs.Tree as t
use Rattle.es_model.specs.Tree.{Tree}
use Rattle.code_gen.proofs.Rows.{named_at}
use Rattle.es_follow.proofs.Computing.{computing}
use Rattle.es_follow.proofs.Sides.{by_machine, by_evaluation, main_alone}

-- a class and one derived from it
-- class A { constructor(x) { this.x = x; } } class B extends A { constructor() { super(4); } } export default new B().x;
derived : Tree (t.list t.item)
derived = t.more (t.Plain (t.ClassStatement (t.ClassOf 0 (Some (named_at 6 (codes "A"))) t.absent (t.more (t.MemberOf 10 false m.Method (t.KeyWord (codes "constructor")) t.absent (t.present (t.FunctionOf 10 None f.Base ((named_at 22 (codes "x")) ∷ []) (t.BodyStatements (t.more (t.Value (t.Assign 27 (t.Dot t.This (codes "x")) None (t.Name (named_at 36 (codes "x")))) semi.Written) t.none))))) t.none)))) (t.more (t.Plain (t.ClassStatement (t.ClassOf 43 (Some (named_at 49 (codes "B"))) (t.present (t.Name (named_at 59 (codes "A")))) (t.more (t.MemberOf 63 false m.Method (t.KeyWord (codes "constructor")) t.absent (t.present (t.FunctionOf 63 None f.Derived [] (t.BodyStatements (t.more (t.Value (t.SuperCall 79 (t.more (t.Number (pos 4)) t.none)) semi.Written) t.none))))) t.none)))) (t.more (t.ExportDefault 100 (t.DefaultValue (t.Dot (t.New (t.Name (named_at 112 (codes "B"))) (t.present t.none)) (codes "x"))) semi.Written) t.none))

derived_same : by_machine 400 50 (main_alone derived) ≡ by_evaluation 50 (main_alone derived)
unfolding computing derived
derived_same = refl

-- an object with accessors
-- let o = { v: 1, get a() { return this.v; }, set a(w) { this.v = w; } }; o.a = 3; export default o.a;
accessors : Tree (t.list t.item)
accessors = t.more (t.Plain (t.Declare false (t.more (t.DeclaratorOf (named_at 4 (codes "o")) (t.present (t.Object (t.more (t.MemberOf 10 false m.Value (t.KeyWord (codes "v")) (t.present (t.Number (pos 1))) t.absent) (t.more (t.MemberOf 16 false m.Getter (t.KeyWord (codes "a")) t.absent (t.present (t.FunctionOf 16 None f.Getter [] (t.BodyStatements (t.more (t.Return 26 (t.present (t.Dot t.This (codes "v"))) semi.Written) t.none))))) (t.more (t.MemberOf 44 false m.Setter (t.KeyWord (codes "a")) t.absent (t.present (t.FunctionOf 44 None f.Setter ((named_at 50 (codes "w")) ∷ []) (t.BodyStatements (t.more (t.Value (t.Assign 55 (t.Dot t.This (codes "v")) None (t.Name (named_at 64 (codes "w")))) semi.Written) t.none))))) t.none)))))) t.none) semi.Written)) (t.more (t.Plain (t.Value (t.Assign 72 (t.Dot (t.Name (named_at 72 (codes "o"))) (codes "a")) None (t.Number (pos 3))) semi.Written)) (t.more (t.ExportDefault 88 (t.DefaultValue (t.Dot (t.Name (named_at 96 (codes "o"))) (codes "a"))) semi.Written) t.none))

accessors_same : by_machine 400 50 (main_alone accessors) ≡ by_evaluation 50 (main_alone accessors)
unfolding computing accessors
accessors_same = refl

-- a built-in function that calls back
-- let n = 0; [1, 2].forEach(function (x) { n = n + x; }); export default n;
callback : Tree (t.list t.item)
callback = t.more (t.Plain (t.Declare false (t.more (t.DeclaratorOf (named_at 4 (codes "n")) (t.present (t.Number (pos 0)))) t.none) semi.Written)) (t.more (t.Plain (t.Value (t.Call (t.Dot (t.Array (t.more (t.Number (pos 1)) (t.more (t.Number (pos 2)) t.none))) (codes "forEach")) (t.more (t.Function (t.FunctionOf 26 None f.Plain ((named_at 36 (codes "x")) ∷ []) (t.BodyStatements (t.more (t.Value (t.Assign 41 (t.Name (named_at 41 (codes "n"))) None (t.Binary b.Add (t.Name (named_at 45 (codes "n"))) (t.Name (named_at 49 (codes "x"))))) semi.Written) t.none)))) t.none)) semi.Written)) (t.more (t.ExportDefault 63 (t.DefaultValue (t.Name (named_at 71 (codes "n")))) semi.Written) t.none))

callback_same : by_machine 400 50 (main_alone callback) ≡ by_evaluation 50 (main_alone callback)
unfolding computing callback
callback_same = refl

-- a method that calls its parent by super
-- class A { m() { return 2; } } class B extends A { m() { return super.m() + 1; } } export default new B().m();
parents : Tree (t.list t.item)
parents = t.more (t.Plain (t.ClassStatement (t.ClassOf 0 (Some (named_at 6 (codes "A"))) t.absent (t.more (t.MemberOf 10 false m.Method (t.KeyWord (codes "m")) t.absent (t.present (t.FunctionOf 10 None f.Method [] (t.BodyStatements (t.more (t.Return 16 (t.present (t.Number (pos 2))) semi.Written) t.none))))) t.none)))) (t.more (t.Plain (t.ClassStatement (t.ClassOf 30 (Some (named_at 36 (codes "B"))) (t.present (t.Name (named_at 46 (codes "A")))) (t.more (t.MemberOf 50 false m.Method (t.KeyWord (codes "m")) t.absent (t.present (t.FunctionOf 50 None f.Method [] (t.BodyStatements (t.more (t.Return 56 (t.present (t.Binary b.Add (t.Call (t.SuperDot 63 (codes "m")) t.none) (t.Number (pos 1)))) semi.Written) t.none))))) t.none)))) (t.more (t.ExportDefault 89 (t.DefaultValue (t.Call (t.Dot (t.New (t.Name (named_at 101 (codes "B"))) (t.present t.none)) (codes "m")) t.none)) semi.Written) t.none))

parents_same : by_machine 400 50 (main_alone parents) ≡ by_evaluation 50 (main_alone parents)
unfolding computing parents
parents_same = refl
