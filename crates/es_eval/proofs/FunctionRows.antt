-- Rows of small modules: functions, classes and bindings, by what main exports as its default.
use Rattle.std.proofs.Common.{◌≡◌, true, false, [], ◌∷◌, refl, codes, Some, None}
use Rattle.js_value.specs.Value.{Undefined, Boolean}
use Rattle.es_model.specs.declared.kinds.BinaryOperator.TheVariants as b
use Rattle.es_model.specs.declared.kinds.FunctionKind.TheVariants as f
use Rattle.es_model.specs.declared.kinds.MemberKind.TheVariants as m
use Rattle.es_model.specs.declared.kinds.Semi.TheVariants as semi
use Rattle.es_model.specs.Tree as t
use Rattle.es_eval.proofs.Samples.{named, name, whole, one, two, statement, number, exports, computing}

-- export default 5;
exported_value : exports (t.ExportDefault 900 (t.DefaultValue ((whole 5))) semi.Written ∷ []) ≡ Some (number 5)
unfolding computing
exported_value = refl

-- let a = 5; export default a;
top_level_name : exports (t.Plain (t.Declare false (one (t.DeclaratorOf (named 4 (codes "a")) (t.present ((whole 5))))) semi.Written) ∷ t.ExportDefault 900 (t.DefaultValue ((name (codes "a")))) semi.Written ∷ []) ≡ Some (number 5)
unfolding computing
top_level_name = refl

-- let a = 5; { let b = 2; a = b; } export default a;
block_name : exports (t.Plain (t.Declare false (one (t.DeclaratorOf (named 4 (codes "a")) (t.present ((whole 5))))) semi.Written) ∷ t.Plain ((t.Block (t.listed (t.Declare false (one (t.DeclaratorOf (named 15 (codes "b")) (t.present ((whole 2))))) semi.Written ∷ statement (t.Assign 0 (name (codes "a")) None ((name (codes "b")))) ∷ [])))) ∷ t.ExportDefault 900 (t.DefaultValue ((name (codes "a")))) semi.Written ∷ []) ≡ Some (number 2)
unfolding computing
block_name = refl

-- let a = 5; try { throw 9; } catch (e) { a = e; } export default a;
caught_name : exports (t.Plain (t.Declare false (one (t.DeclaratorOf (named 4 (codes "a")) (t.present ((whole 5))))) semi.Written) ∷ t.Plain (t.Try (t.listed (t.Throw ((whole 9)) semi.Written ∷ [])) (Some (named 30 (codes "e"))) (t.present (t.listed (statement (t.Assign 0 (name (codes "a")) None ((name (codes "e")))) ∷ []))) t.absent) ∷ t.ExportDefault 900 (t.DefaultValue ((name (codes "a")))) semi.Written ∷ []) ≡ Some (number 9)
unfolding computing
caught_name = refl

-- export default (x => x + 1)(4);
arrow_called : exports (t.ExportDefault 900 (t.DefaultValue ((t.Call (t.Function (t.FunctionOf 16 None f.Arrow ((named 16 (codes "x")) ∷ []) (t.BodyExpression (t.Binary b.Add (name (codes "x")) (whole 1))))) (t.listed ((whole 4) ∷ []))))) semi.Written ∷ []) ≡ Some (number 5)
unfolding computing
arrow_called = refl

-- export default f(); function f() { return 3; }
function_called : exports (t.ExportDefault 900 (t.DefaultValue ((t.Call (name (codes "f")) (t.listed ([]))))) semi.Written ∷ t.Plain (t.FunctionStatement (t.FunctionOf 20 (Some (named 29 (codes "f"))) f.Plain ([]) (t.BodyStatements (t.listed (t.Return 0 (t.present ((whole 3))) semi.Written ∷ []))))) ∷ []) ≡ Some (number 3)
unfolding computing
function_called = refl

-- export default (x => x)();
absent_argument : exports (t.ExportDefault 900 (t.DefaultValue ((t.Call (t.Function (t.FunctionOf 16 None f.Arrow ((named 16 (codes "x")) ∷ []) (t.BodyExpression ((name (codes "x")))))) (t.listed ([]))))) semi.Written ∷ []) ≡ Some Undefined
unfolding computing
absent_argument = refl

-- let a = 1; (() => { a = 7; })(); export default a;
closure_writes : exports (t.Plain (t.Declare false (one (t.DeclaratorOf (named 4 (codes "a")) (t.present ((whole 1))))) semi.Written) ∷ t.Plain (statement ((t.Call (t.Function (t.FunctionOf 12 None f.Arrow ([]) (t.BodyStatements (t.listed (statement (t.Assign 0 (name (codes "a")) None ((whole 7))) ∷ []))))) (t.listed ([]))))) ∷ t.ExportDefault 900 (t.DefaultValue ((name (codes "a")))) semi.Written ∷ []) ≡ Some (number 7)
unfolding computing
closure_writes = refl

-- export default { a: 4, m() { return this.a; } }.m();
method_this : exports (t.ExportDefault 900 (t.DefaultValue ((t.Call (t.Dot (t.Object (two (t.MemberOf 17 false m.Value (t.KeyWord (codes "a")) (t.present (whole 4)) t.absent) (t.MemberOf 23 false m.Method (t.KeyWord (codes "m")) t.absent (t.present (t.FunctionOf 23 None f.Method ([]) (t.BodyStatements (t.listed (t.Return 0 (t.present (t.Dot t.This (codes "a"))) semi.Written ∷ [])))))))) (codes "m")) (t.listed ([]))))) semi.Written ∷ []) ≡ Some (number 4)
unfolding computing
method_this = refl

-- export default new (function () { this.a = 3; })().a;
constructed : exports (t.ExportDefault 900 (t.DefaultValue (t.Dot (t.New (t.Function (t.FunctionOf 20 None f.Plain ([]) (t.BodyStatements (t.listed (statement (t.Assign 30 (t.Dot t.This (codes "a")) None (whole 3)) ∷ []))))) (t.present t.none)) (codes "a"))) semi.Written ∷ []) ≡ Some (number 3)
unfolding computing
constructed = refl

-- export default new (class { m() { return 6; } })().m();
class_method : exports (t.ExportDefault 900 (t.DefaultValue ((t.Call (t.Dot (t.New (t.Class (t.ClassOf 20 None t.absent (one (t.MemberOf 28 false m.Method (t.KeyWord (codes "m")) t.absent (t.present (t.FunctionOf 28 None f.Method ([]) (t.BodyStatements (t.listed (t.Return 0 (t.present ((whole 6))) semi.Written ∷ []))))))))) (t.present t.none)) (codes "m")) (t.listed ([]))))) semi.Written ∷ []) ≡ Some (number 6)
unfolding computing
class_method = refl

-- ---- classes

-- class A { constructor(v) { this.a = v; } } export default new A(4).a;
class_statement : exports (t.Plain (t.ClassStatement (t.ClassOf 1 (Some (named 7 (codes "A"))) t.absent (t.listed ((t.MemberOf 11 false m.Method (t.KeyWord (codes "constructor")) t.absent (t.present (t.FunctionOf 11 None f.Base ((named 23 (codes "v")) ∷ []) (t.BodyStatements (t.listed (statement (t.Assign 30 (t.Dot t.This (codes "a")) None (name (codes "v"))) ∷ [])))))) ∷ [])))) ∷ t.ExportDefault 900 (t.DefaultValue (t.Dot (t.New (name (codes "A")) (t.present (one (whole 4)))) (codes "a"))) semi.Written ∷ []) ≡ Some (number 4)
unfolding computing
class_statement = refl

-- class A { constructor(v) { this.a = v; } } class B extends A {} export default new B(4).a;
generated_derived : exports (t.Plain (t.ClassStatement (t.ClassOf 1 (Some (named 7 (codes "A"))) t.absent (t.listed ((t.MemberOf 11 false m.Method (t.KeyWord (codes "constructor")) t.absent (t.present (t.FunctionOf 11 None f.Base ((named 23 (codes "v")) ∷ []) (t.BodyStatements (t.listed (statement (t.Assign 30 (t.Dot t.This (codes "a")) None (name (codes "v"))) ∷ [])))))) ∷ [])))) ∷ t.Plain (t.ClassStatement (t.ClassOf 60 (Some (named 66 (codes "B"))) (t.present (name (codes "A"))) (t.listed ([])))) ∷ t.ExportDefault 900 (t.DefaultValue (t.Dot (t.New (name (codes "B")) (t.present (one (whole 4)))) (codes "a"))) semi.Written ∷ []) ≡ Some (number 4)
unfolding computing
generated_derived = refl

-- class A { constructor(v) { this.a = v; } } class B extends A { constructor() { super(3); } } export default new B().a;
super_called : exports (t.Plain (t.ClassStatement (t.ClassOf 1 (Some (named 7 (codes "A"))) t.absent (t.listed ((t.MemberOf 11 false m.Method (t.KeyWord (codes "constructor")) t.absent (t.present (t.FunctionOf 11 None f.Base ((named 23 (codes "v")) ∷ []) (t.BodyStatements (t.listed (statement (t.Assign 30 (t.Dot t.This (codes "a")) None (name (codes "v"))) ∷ [])))))) ∷ [])))) ∷ t.Plain (t.ClassStatement (t.ClassOf 60 (Some (named 66 (codes "B"))) (t.present (name (codes "A"))) (t.listed ((t.MemberOf 80 false m.Method (t.KeyWord (codes "constructor")) t.absent (t.present (t.FunctionOf 80 None f.Derived ([]) (t.BodyStatements (t.listed (statement (t.SuperCall 96 (one (whole 3))) ∷ [])))))) ∷ [])))) ∷ t.ExportDefault 900 (t.DefaultValue (t.Dot (t.New (name (codes "B")) (t.present t.none)) (codes "a"))) semi.Written ∷ []) ≡ Some (number 3)
unfolding computing
super_called = refl

-- class A { .. } export default new A(4) instanceof A;
instance_of : exports (t.Plain (t.ClassStatement (t.ClassOf 1 (Some (named 7 (codes "A"))) t.absent (t.listed ((t.MemberOf 11 false m.Method (t.KeyWord (codes "constructor")) t.absent (t.present (t.FunctionOf 11 None f.Base ((named 23 (codes "v")) ∷ []) (t.BodyStatements (t.listed (statement (t.Assign 30 (t.Dot t.This (codes "a")) None (name (codes "v"))) ∷ [])))))) ∷ [])))) ∷ t.ExportDefault 900 (t.DefaultValue (t.InstanceOf (t.New (name (codes "A")) (t.present (one (whole 4)))) (name (codes "A")))) semi.Written ∷ []) ≡ Some (Boolean true)
unfolding computing
instance_of = refl

-- export default (class { static m() { return 6; } }).m();
static_method : exports (t.ExportDefault 900 (t.DefaultValue ((t.Call (t.Dot (t.Class (t.ClassOf 16 None t.absent (t.listed ((t.MemberOf 31 true m.Method (t.KeyWord (codes "m")) t.absent (t.present (t.FunctionOf 31 None f.Method ([]) (t.BodyStatements (t.listed (t.Return 0 (t.present ((whole 6))) semi.Written ∷ [])))))) ∷ [])))) (codes "m")) (t.listed ([]))))) semi.Written ∷ []) ≡ Some (number 6)
unfolding computing
static_method = refl

-- export default { get a() { return 6; } }.a;
getter : exports (t.ExportDefault 900 (t.DefaultValue (t.Dot (t.Object (one (t.MemberOf 17 false m.Getter (t.KeyWord (codes "a")) t.absent (t.present (t.FunctionOf 17 None f.Getter ([]) (t.BodyStatements (t.listed (t.Return 0 (t.present ((whole 6))) semi.Written ∷ [])))))))) (codes "a"))) semi.Written ∷ []) ≡ Some (number 6)
unfolding computing
getter = refl

-- let a = 1; ({ set b(v) { a = v; } }).b = 6; export default a;
setter : exports (t.Plain (t.Declare false (one (t.DeclaratorOf (named 4 (codes "a")) (t.present ((whole 1))))) semi.Written) ∷ t.Plain (statement (t.Assign 11 (t.Dot (t.Object (one (t.MemberOf 14 false m.Setter (t.KeyWord (codes "b")) t.absent (t.present (t.FunctionOf 14 None f.Setter ((named 20 (codes "v")) ∷ []) (t.BodyStatements (t.listed (statement (t.Assign 0 (name (codes "a")) None ((name (codes "v")))) ∷ [])))))))) (codes "b")) None (whole 6))) ∷ t.ExportDefault 900 (t.DefaultValue ((name (codes "a")))) semi.Written ∷ []) ≡ Some (number 6)
unfolding computing
setter = refl

-- ---- loops, and what modules export

-- let f; for (let i = 0; i < 2; i++) { if (i < 1) f = () => i; } export default f(): each turn has its own i
fresh_copies : exports (t.Plain (t.Declare false (one (t.DeclaratorOf (named 4 (codes "f")) t.absent)) semi.Written) ∷ t.Plain (t.For (t.HeadDeclare false (one (t.DeclaratorOf (named 16 (codes "i")) (t.present (whole 0))))) (t.present (t.Binary b.Less (name (codes "i")) (whole 2))) (t.present (t.Update 30 true false (name (codes "i")))) (t.Block (t.listed (t.If (t.Binary b.Less (name (codes "i")) (whole 1)) (statement (t.Assign 0 (name (codes "f")) None (t.Function (t.FunctionOf 50 None f.Arrow ([]) (t.BodyExpression ((name (codes "i")))))))) t.absent ∷ [])))) ∷ t.ExportDefault 900 (t.DefaultValue ((t.Call (name (codes "f")) (t.listed ([]))))) semi.Written ∷ []) ≡ Some (number 0)
unfolding computing
fresh_copies = refl

-- export let a = 5; export default a;
exported_declaration : exports (t.ExportDeclaration (t.Declare false (one (t.DeclaratorOf (named 11 (codes "a")) (t.present ((whole 5))))) semi.Written) ∷ t.ExportDefault 900 (t.DefaultValue ((name (codes "a")))) semi.Written ∷ []) ≡ Some (number 5)
unfolding computing
exported_declaration = refl
