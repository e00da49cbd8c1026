-- Worked rows of the code of expressions, worked out by hand.
use Rattle.std.specs.Prelude.{◌≡◌, true, false, [], ◌∷◌, codes, pos, Some, None, refl}
use Rattle.byte_code.specs.declared.instruction.Op.TheVariants as i
use Rattle.es_model.specs.declared.kinds.Semi.TheVariants as semi
use Rattle.es_model.specs.declared.kinds.FunctionKind.TheVariants as f
use Rattle.es_model.specs.declared.kinds.MemberKind.TheVariants as m
use Rattle.es_model.specs.declared.kinds.UnaryOperator.TheVariants as u
use Rattle.es_model.specs.declared.kinds.BinaryOperator.TheVariants as b
use Rattle.es_model.specs.Tree as t
use Rattle.es_model.specs.Scopes.{gather}
use Rattle.es_model.specs.Functions.{functions, writes_constructor}
use Rattle.es_model.specs.FreeNames.{mentions, free, captured, places, captures}
use Rattle.code_gen.specs.Expressions.{code}
use Rattle.code_gen.specs.Statements.{statement}
use Rattle.code_gen.proofs.Rows.{named_at, pair_of, coded}

-- null; true; false; this; 127; 128; 2147483647; 2147483648; "ab";
literals : coded (t.more (t.Plain (t.Value t.Null semi.Written)) (t.more (t.Plain (t.Value t.True semi.Written)) (t.more (t.Plain (t.Value t.False semi.Written)) (t.more (t.Plain (t.Value t.This semi.Written)) (t.more (t.Plain (t.Value (t.Number (pos 127)) semi.Written)) (t.more (t.Plain (t.Value (t.Number (pos 128)) semi.Written)) (t.more (t.Plain (t.Value (t.Number (pos 2147483647)) semi.Written)) (t.more (t.Plain (t.Value (t.Number (pos 2147483648)) semi.Written)) (t.more (t.Plain (t.Value (t.String (codes "ab")) semi.Written)) t.none))))))))) 0 ≡ Some (record {
  instructions = i.Null ∷ i.Pop ∷ i.True ∷ i.Pop ∷ i.False ∷ i.Pop ∷ i.This ∷ i.Pop ∷ i.Int (pos 127) ∷ i.Pop ∷ i.Mid (pos 128) ∷ i.Pop ∷ i.Mid (pos 2147483647) ∷ i.Pop ∷ i.Long (pos 2147483648) ∷ i.Pop ∷ i.Text 2 ∷ i.Pop ∷ i.Undefined ∷ i.Return ∷ [];
  operands = 1;
  handlers = [];
})
unfolding functions writes_constructor mentions free captured gather places captures code statement
literals = refl

-- function f(a, b) { !a; -a; +a; ~a; a * b; a !== b; a in b; a instanceof b; }
operators : coded (t.more (t.Plain (t.FunctionStatement (t.FunctionOf 0 (Some (named_at 9 (codes "f"))) f.Plain ((named_at 11 (codes "a")) ∷ (named_at 14 (codes "b")) ∷ []) (t.BodyStatements (t.more (t.Value (t.Unary u.Not (t.Name (named_at 20 (codes "a")))) semi.Written) (t.more (t.Value (t.Unary u.Negate (t.Name (named_at 24 (codes "a")))) semi.Written) (t.more (t.Value (t.Unary u.Plus (t.Name (named_at 28 (codes "a")))) semi.Written) (t.more (t.Value (t.Unary u.BitNot (t.Name (named_at 32 (codes "a")))) semi.Written) (t.more (t.Value (t.Binary b.Multiply (t.Name (named_at 35 (codes "a"))) (t.Name (named_at 39 (codes "b")))) semi.Written) (t.more (t.Value (t.Binary b.StrictNotEqual (t.Name (named_at 42 (codes "a"))) (t.Name (named_at 48 (codes "b")))) semi.Written) (t.more (t.Value (t.In (t.Name (named_at 51 (codes "a"))) (t.Name (named_at 56 (codes "b")))) semi.Written) (t.more (t.Value (t.InstanceOf (t.Name (named_at 59 (codes "a"))) (t.Name (named_at 72 (codes "b")))) semi.Written) t.none)))))))))))) t.none) 1 ≡ Some (record {
  instructions = i.LocalGet 0 ∷ i.Unary 0 ∷ i.Pop ∷ i.LocalGet 0 ∷ i.Unary 1 ∷ i.Pop ∷ i.LocalGet 0 ∷ i.Unary 2 ∷ i.Pop ∷ i.LocalGet 0 ∷ i.Unary 3 ∷ i.Pop ∷ i.LocalGet 0 ∷ i.LocalGet 1 ∷ i.Binary 2 ∷ i.Pop ∷ i.LocalGet 0 ∷ i.LocalGet 1 ∷ i.Binary 19 ∷ i.Pop ∷ i.LocalGet 0 ∷ i.LocalGet 1 ∷ i.In ∷ i.Pop ∷ i.LocalGet 0 ∷ i.LocalGet 1 ∷ i.InstanceOf ∷ i.Pop ∷ i.Undefined ∷ i.Return ∷ [];
  operands = 2;
  handlers = [];
})
unfolding functions writes_constructor mentions free captured gather places captures code statement
operators = refl

-- function f(a) { let x = a; const y = x; x = y; y = a; a = x; class C {} C = 1; function g() {} g = 2; }
own_places : coded (t.more (t.Plain (t.FunctionStatement (t.FunctionOf 0 (Some (named_at 9 (codes "f"))) f.Plain ((named_at 11 (codes "a")) ∷ []) (t.BodyStatements (t.more (t.Declare false (t.more (t.DeclaratorOf (named_at 20 (codes "x")) (t.present (t.Name (named_at 24 (codes "a"))))) t.none) semi.Written) (t.more (t.Declare true (t.more (t.DeclaratorOf (named_at 33 (codes "y")) (t.present (t.Name (named_at 37 (codes "x"))))) t.none) semi.Written) (t.more (t.Value (t.Assign 40 (t.Name (named_at 40 (codes "x"))) None (t.Name (named_at 44 (codes "y")))) semi.Written) (t.more (t.Value (t.Assign 47 (t.Name (named_at 47 (codes "y"))) None (t.Name (named_at 51 (codes "a")))) semi.Written) (t.more (t.Value (t.Assign 54 (t.Name (named_at 54 (codes "a"))) None (t.Name (named_at 58 (codes "x")))) semi.Written) (t.more (t.ClassStatement (t.ClassOf 61 (Some (named_at 67 (codes "C"))) t.absent t.none)) (t.more (t.Value (t.Assign 72 (t.Name (named_at 72 (codes "C"))) None (t.Number (pos 1))) semi.Written) (t.more (t.FunctionStatement (t.FunctionOf 79 (Some (named_at 88 (codes "g"))) f.Plain [] (t.BodyStatements t.none))) (t.more (t.Value (t.Assign 95 (t.Name (named_at 95 (codes "g"))) None (t.Number (pos 2))) semi.Written) t.none))))))))))))) t.none) 1 ≡ Some (record {
  instructions = i.LocalClear 1 ∷ i.LocalClear 2 ∷ i.LocalClear 3 ∷ i.Function 3 ∷ i.LocalPut 5 ∷ i.LocalGet 0 ∷ i.LocalPut 1 ∷ i.LocalCheck 1 ∷ i.LocalGet 1 ∷ i.LocalPut 2 ∷ i.LocalCheck 2 ∷ i.LocalGet 2 ∷ i.LocalCheck 1 ∷ i.Dup ∷ i.LocalPut 1 ∷ i.Pop ∷ i.LocalGet 0 ∷ i.LocalCheck 2 ∷ i.ThrowMessage 9 ∷ i.Pop ∷ i.Pop ∷ i.LocalCheck 1 ∷ i.LocalGet 1 ∷ i.Dup ∷ i.LocalPut 0 ∷ i.Pop ∷ i.Class 2 ∷ i.Pop ∷ i.LocalPut 3 ∷ i.Int (pos 1) ∷ i.LocalCheck 3 ∷ i.Dup ∷ i.LocalPut 3 ∷ i.Pop ∷ i.Int (pos 2) ∷ i.Dup ∷ i.LocalPut 5 ∷ i.Pop ∷ i.Undefined ∷ i.Return ∷ [];
  operands = 2;
  handlers = [];
})
unfolding functions writes_constructor mentions free captured gather places captures code statement
own_places = refl

-- function f(p) { let x; const y = 1; function g() { p; x = y; y = 2; } }
kept_in_cells : coded (t.more (t.Plain (t.FunctionStatement (t.FunctionOf 0 (Some (named_at 9 (codes "f"))) f.Plain ((named_at 11 (codes "p")) ∷ []) (t.BodyStatements (t.more (t.Declare false (t.more (t.DeclaratorOf (named_at 20 (codes "x")) t.absent) t.none) semi.Written) (t.more (t.Declare true (t.more (t.DeclaratorOf (named_at 29 (codes "y")) (t.present (t.Number (pos 1)))) t.none) semi.Written) (t.more (t.FunctionStatement (t.FunctionOf 36 (Some (named_at 45 (codes "g"))) f.Plain [] (t.BodyStatements (t.more (t.Value (t.Name (named_at 51 (codes "p"))) semi.Written) (t.more (t.Value (t.Assign 54 (t.Name (named_at 54 (codes "x"))) None (t.Name (named_at 58 (codes "y")))) semi.Written) (t.more (t.Value (t.Assign 61 (t.Name (named_at 61 (codes "y"))) None (t.Number (pos 2))) semi.Written) t.none)))))) t.none))))))) t.none) 1 ≡ Some (record {
  instructions = i.LocalGet 0 ∷ i.BoxLet 0 ∷ i.BoxInit 0 ∷ i.BoxLet 1 ∷ i.BoxConst 2 ∷ i.Function 2 ∷ i.LocalPut 3 ∷ i.Undefined ∷ i.BoxInit 1 ∷ i.Int (pos 1) ∷ i.BoxInit 2 ∷ i.Undefined ∷ i.Return ∷ [];
  operands = 1;
  handlers = [];
})
unfolding functions writes_constructor mentions free captured gather places captures code statement
kept_in_cells = refl

-- function f(p) { let x; const y = 1; function g() { p; x = y; y = 2; } }
outer_cells : coded (t.more (t.Plain (t.FunctionStatement (t.FunctionOf 0 (Some (named_at 9 (codes "f"))) f.Plain ((named_at 11 (codes "p")) ∷ []) (t.BodyStatements (t.more (t.Declare false (t.more (t.DeclaratorOf (named_at 20 (codes "x")) t.absent) t.none) semi.Written) (t.more (t.Declare true (t.more (t.DeclaratorOf (named_at 29 (codes "y")) (t.present (t.Number (pos 1)))) t.none) semi.Written) (t.more (t.FunctionStatement (t.FunctionOf 36 (Some (named_at 45 (codes "g"))) f.Plain [] (t.BodyStatements (t.more (t.Value (t.Name (named_at 51 (codes "p"))) semi.Written) (t.more (t.Value (t.Assign 54 (t.Name (named_at 54 (codes "x"))) None (t.Name (named_at 58 (codes "y")))) semi.Written) (t.more (t.Value (t.Assign 61 (t.Name (named_at 61 (codes "y"))) None (t.Number (pos 2))) semi.Written) t.none)))))) t.none))))))) t.none) 2 ≡ Some (record {
  instructions = i.OuterGet 0 ∷ i.Pop ∷ i.OuterGet 2 ∷ i.Dup ∷ i.OuterPut 1 ∷ i.Pop ∷ i.Int (pos 2) ∷ i.Dup ∷ i.OuterPut 2 ∷ i.Pop ∷ i.Undefined ∷ i.Return ∷ [];
  operands = 2;
  handlers = [];
})
unfolding functions writes_constructor mentions free captured gather places captures code statement
outer_cells = refl

-- function f() { let x = 1; x; x = 2; () => x; }
own_cells : coded (t.more (t.Plain (t.FunctionStatement (t.FunctionOf 0 (Some (named_at 9 (codes "f"))) f.Plain [] (t.BodyStatements (t.more (t.Declare false (t.more (t.DeclaratorOf (named_at 19 (codes "x")) (t.present (t.Number (pos 1)))) t.none) semi.Written) (t.more (t.Value (t.Name (named_at 26 (codes "x"))) semi.Written) (t.more (t.Value (t.Assign 29 (t.Name (named_at 29 (codes "x"))) None (t.Number (pos 2))) semi.Written) (t.more (t.Value (t.Function (t.FunctionOf 36 None f.Arrow [] (t.BodyExpression (t.Name (named_at 42 (codes "x")))))) semi.Written) t.none)))))))) t.none) 1 ≡ Some (record {
  instructions = i.BoxLet 0 ∷ i.Int (pos 1) ∷ i.BoxInit 0 ∷ i.BoxGet 0 ∷ i.Pop ∷ i.Int (pos 2) ∷ i.Dup ∷ i.BoxPut 0 ∷ i.Pop ∷ i.Function 2 ∷ i.Pop ∷ i.Undefined ∷ i.Return ∷ [];
  operands = 2;
  handlers = [];
})
unfolding functions writes_constructor mentions free captured gather places captures code statement
own_cells = refl

-- function f() { let x = 1; x; x = 2; () => x; }
arrow_of_a_value : coded (t.more (t.Plain (t.FunctionStatement (t.FunctionOf 0 (Some (named_at 9 (codes "f"))) f.Plain [] (t.BodyStatements (t.more (t.Declare false (t.more (t.DeclaratorOf (named_at 19 (codes "x")) (t.present (t.Number (pos 1)))) t.none) semi.Written) (t.more (t.Value (t.Name (named_at 26 (codes "x"))) semi.Written) (t.more (t.Value (t.Assign 29 (t.Name (named_at 29 (codes "x"))) None (t.Number (pos 2))) semi.Written) (t.more (t.Value (t.Function (t.FunctionOf 36 None f.Arrow [] (t.BodyExpression (t.Name (named_at 42 (codes "x")))))) semi.Written) t.none)))))))) t.none) 2 ≡ Some (record {
  instructions = i.OuterGet 0 ∷ i.Return ∷ [];
  operands = 1;
  handlers = [];
})
unfolding functions writes_constructor mentions free captured gather places captures code statement
arrow_of_a_value = refl

-- import { a } from "x"; a; a = 1; Math; zz; typeof zz; typeof a; typeof (zz);
imports_and_globals : coded (t.more (t.Import (codes "x") ((pair_of (named_at 9 (codes "a")) (named_at 9 (codes "a"))) ∷ []) semi.Written) (t.more (t.Plain (t.Value (t.Name (named_at 23 (codes "a"))) semi.Written)) (t.more (t.Plain (t.Value (t.Assign 26 (t.Name (named_at 26 (codes "a"))) None (t.Number (pos 1))) semi.Written)) (t.more (t.Plain (t.Value (t.Name (named_at 33 (codes "Math"))) semi.Written)) (t.more (t.Plain (t.Value (t.Name (named_at 39 (codes "zz"))) semi.Written)) (t.more (t.Plain (t.Value (t.Typeof (t.Name (named_at 50 (codes "zz")))) semi.Written)) (t.more (t.Plain (t.Value (t.Typeof (t.Name (named_at 61 (codes "a")))) semi.Written)) (t.more (t.Plain (t.Value (t.Typeof (t.Paren (t.Name (named_at 72 (codes "zz"))))) semi.Written)) t.none)))))))) 0 ≡ Some (record {
  instructions = i.OuterGet 0 ∷ i.Pop ∷ i.Int (pos 1) ∷ i.ThrowMessage 9 ∷ i.Pop ∷ i.Pop ∷ i.Global 10 ∷ i.Pop ∷ i.ThrowMessage 5 ∷ i.Pop ∷ i.Text 2 ∷ i.Pop ∷ i.OuterGet 0 ∷ i.Typeof ∷ i.Pop ∷ i.Text 2 ∷ i.Pop ∷ i.Undefined ∷ i.Return ∷ [];
  operands = 2;
  handlers = [];
})
unfolding functions writes_constructor mentions free captured gather places captures code statement
imports_and_globals = refl

-- function f(a) { this; () => this; }
this_in_a_cell : coded (t.more (t.Plain (t.FunctionStatement (t.FunctionOf 0 (Some (named_at 9 (codes "f"))) f.Plain ((named_at 11 (codes "a")) ∷ []) (t.BodyStatements (t.more (t.Value t.This semi.Written) (t.more (t.Value (t.Function (t.FunctionOf 22 None f.Arrow [] (t.BodyExpression t.This))) semi.Written) t.none)))))) t.none) 1 ≡ Some (record {
  instructions = i.BoxConst 1 ∷ i.This ∷ i.BoxInit 1 ∷ i.This ∷ i.Pop ∷ i.Function 2 ∷ i.Pop ∷ i.Undefined ∷ i.Return ∷ [];
  operands = 1;
  handlers = [];
})
unfolding functions writes_constructor mentions free captured gather places captures code statement
this_in_a_cell = refl

-- function f(a) { this; () => this; }
this_of_an_arrow : coded (t.more (t.Plain (t.FunctionStatement (t.FunctionOf 0 (Some (named_at 9 (codes "f"))) f.Plain ((named_at 11 (codes "a")) ∷ []) (t.BodyStatements (t.more (t.Value t.This semi.Written) (t.more (t.Value (t.Function (t.FunctionOf 22 None f.Arrow [] (t.BodyExpression t.This))) semi.Written) t.none)))))) t.none) 2 ≡ Some (record {
  instructions = i.OuterGet 0 ∷ i.Return ∷ [];
  operands = 1;
  handlers = [];
})
unfolding functions writes_constructor mentions free captured gather places captures code statement
this_of_an_arrow = refl

-- () => this;
this_of_a_body : coded (t.more (t.Plain (t.Value (t.Function (t.FunctionOf 0 None f.Arrow [] (t.BodyExpression t.This))) semi.Written)) t.none) 0 ≡ Some (record {
  instructions = i.BoxConst 0 ∷ i.This ∷ i.BoxInit 0 ∷ i.Function 1 ∷ i.Pop ∷ i.Undefined ∷ i.Return ∷ [];
  operands = 1;
  handlers = [];
})
unfolding functions writes_constructor mentions free captured gather places captures code statement
this_of_a_body = refl

-- `a`; `a${1}b${2}`;
templates : coded (t.more (t.Plain (t.Value (t.Template ((codes "a") ∷ []) t.none) semi.Written)) (t.more (t.Plain (t.Value (t.Template ((codes "a") ∷ (codes "b") ∷ [] ∷ []) (t.more (t.Number (pos 1)) (t.more (t.Number (pos 2)) t.none))) semi.Written)) t.none)) 0 ≡ Some (record {
  instructions = i.Text 2 ∷ i.Pop ∷ i.Text 2 ∷ i.Int (pos 1) ∷ i.ToText ∷ i.Text 3 ∷ i.Int (pos 2) ∷ i.ToText ∷ i.Text 4 ∷ i.Join 5 ∷ i.Pop ∷ i.Undefined ∷ i.Return ∷ [];
  operands = 5;
  handlers = [];
})
unfolding functions writes_constructor mentions free captured gather places captures code statement
templates = refl

-- []; [1, 2];
arrays : coded (t.more (t.Plain (t.Value (t.Array t.none) semi.Written)) (t.more (t.Plain (t.Value (t.Array (t.more (t.Number (pos 1)) (t.more (t.Number (pos 2)) t.none))) semi.Written)) t.none)) 0 ≡ Some (record {
  instructions = i.Array ∷ i.Pop ∷ i.Array ∷ i.Int (pos 1) ∷ i.Append ∷ i.Int (pos 2) ∷ i.Append ∷ i.Pop ∷ i.Undefined ∷ i.Return ∷ [];
  operands = 2;
  handlers = [];
})
unfolding functions writes_constructor mentions free captured gather places captures code statement
arrays = refl

-- let b; ({ a: 1, [2]: 3, b, "c d"() {}, 7: null, get e() {}, set [8](v) {}, [9]: () => 0, f: (function () {}), [4]: class {} });
objects : coded (t.more (t.Plain (t.Declare false (t.more (t.DeclaratorOf (named_at 4 (codes "b")) t.absent) t.none) semi.Written)) (t.more (t.Plain (t.Value (t.Paren (t.Object (t.more (t.MemberOf 10 false m.Value (t.KeyWord (codes "a")) (t.present (t.Number (pos 1))) t.absent) (t.more (t.MemberOf 16 false m.Value (t.KeyComputed (t.Number (pos 2))) (t.present (t.Number (pos 3))) t.absent) (t.more (t.MemberOf 24 false m.Short (t.KeyWord (codes "b")) t.absent t.absent) (t.more (t.MemberOf 27 false m.Method (t.KeyString (codes "c d")) t.absent (t.present (t.FunctionOf 27 None f.Method [] (t.BodyStatements t.none)))) (t.more (t.MemberOf 39 false m.Value (t.KeyNumber (pos 7)) (t.present t.Null) t.absent) (t.more (t.MemberOf 48 false m.Getter (t.KeyWord (codes "e")) t.absent (t.present (t.FunctionOf 48 None f.Getter [] (t.BodyStatements t.none)))) (t.more (t.MemberOf 60 false m.Setter (t.KeyComputed (t.Number (pos 8))) t.absent (t.present (t.FunctionOf 60 None f.Setter ((named_at 68 (codes "v")) ∷ []) (t.BodyStatements t.none)))) (t.more (t.MemberOf 75 false m.Value (t.KeyComputed (t.Number (pos 9))) (t.present (t.Function (t.FunctionOf 80 None f.Arrow [] (t.BodyExpression (t.Number (pos 0)))))) t.absent) (t.more (t.MemberOf 89 false m.Value (t.KeyWord (codes "f")) (t.present (t.Paren (t.Function (t.FunctionOf 93 None f.Plain [] (t.BodyStatements t.none))))) t.absent) (t.more (t.MemberOf 110 false m.Value (t.KeyComputed (t.Number (pos 4))) (t.present (t.Class (t.ClassOf 115 None t.absent t.none))) t.absent) t.none)))))))))))) semi.Written)) t.none)) 0 ≡ Some (record {
  instructions = i.Undefined ∷ i.OuterInit 0 ∷ i.Object ∷ i.Text 2 ∷ i.Int (pos 1) ∷ i.Define 0 ∷ i.Int (pos 2) ∷ i.ToKey ∷ i.Int (pos 3) ∷ i.Define 0 ∷ i.Text 3 ∷ i.OuterGet 0 ∷ i.Define 0 ∷ i.Text 4 ∷ i.Method 1 ∷ i.Define 0 ∷ i.Text 5 ∷ i.Null ∷ i.Define 0 ∷ i.Text 6 ∷ i.Method 2 ∷ i.Define 2 ∷ i.Int (pos 8) ∷ i.ToKey ∷ i.Method 3 ∷ i.NameIt 2 ∷ i.Define 3 ∷ i.Int (pos 9) ∷ i.ToKey ∷ i.Function 4 ∷ i.NameIt 0 ∷ i.Define 0 ∷ i.Text 7 ∷ i.Function 5 ∷ i.Define 0 ∷ i.Int (pos 4) ∷ i.ToKey ∷ i.Class 6 ∷ i.Pop ∷ i.NameIt 0 ∷ i.Define 0 ∷ i.Pop ∷ i.Undefined ∷ i.Return ∷ [];
  operands = 4;
  handlers = [];
})
unfolding functions writes_constructor mentions free captured gather places captures code statement
objects = refl

-- function f(o, k) { o.a; o[k]; f(1); o.a(1, 2); o[k](); (o.a)(); (1, o.a)(); new f; new o.a(1); }
members_and_calls : coded (t.more (t.Plain (t.FunctionStatement (t.FunctionOf 0 (Some (named_at 9 (codes "f"))) f.Plain ((named_at 11 (codes "o")) ∷ (named_at 14 (codes "k")) ∷ []) (t.BodyStatements (t.more (t.Value (t.Dot (t.Name (named_at 19 (codes "o"))) (codes "a")) semi.Written) (t.more (t.Value (t.Index (t.Name (named_at 24 (codes "o"))) (t.Name (named_at 26 (codes "k")))) semi.Written) (t.more (t.Value (t.Call (t.Name (named_at 30 (codes "f"))) (t.more (t.Number (pos 1)) t.none)) semi.Written) (t.more (t.Value (t.Call (t.Dot (t.Name (named_at 36 (codes "o"))) (codes "a")) (t.more (t.Number (pos 1)) (t.more (t.Number (pos 2)) t.none))) semi.Written) (t.more (t.Value (t.Call (t.Index (t.Name (named_at 47 (codes "o"))) (t.Name (named_at 49 (codes "k")))) t.none) semi.Written) (t.more (t.Value (t.Call (t.Paren (t.Dot (t.Name (named_at 56 (codes "o"))) (codes "a"))) t.none) semi.Written) (t.more (t.Value (t.Call (t.Paren (t.Comma (t.Number (pos 1)) (t.Dot (t.Name (named_at 68 (codes "o"))) (codes "a")))) t.none) semi.Written) (t.more (t.Value (t.New (t.Name (named_at 80 (codes "f"))) t.absent) semi.Written) (t.more (t.Value (t.New (t.Dot (t.Name (named_at 87 (codes "o"))) (codes "a")) (t.present (t.more (t.Number (pos 1)) t.none))) semi.Written) t.none))))))))))))) t.none) 1 ≡ Some (record {
  instructions = i.LocalGet 0 ∷ i.Get 3 ∷ i.Pop ∷ i.LocalGet 0 ∷ i.LocalGet 1 ∷ i.GetKey ∷ i.Pop ∷ i.Undefined ∷ i.OuterGet 0 ∷ i.Int (pos 1) ∷ i.Call 1 ∷ i.Pop ∷ i.LocalGet 0 ∷ i.Dup ∷ i.Get 3 ∷ i.Int (pos 1) ∷ i.Int (pos 2) ∷ i.Call 2 ∷ i.Pop ∷ i.LocalGet 0 ∷ i.Dup ∷ i.LocalGet 1 ∷ i.GetKey ∷ i.Call 0 ∷ i.Pop ∷ i.LocalGet 0 ∷ i.Dup ∷ i.Get 3 ∷ i.Call 0 ∷ i.Pop ∷ i.Undefined ∷ i.Int (pos 1) ∷ i.Pop ∷ i.LocalGet 0 ∷ i.Get 3 ∷ i.Call 0 ∷ i.Pop ∷ i.OuterGet 0 ∷ i.New 0 ∷ i.Pop ∷ i.LocalGet 0 ∷ i.Get 3 ∷ i.Int (pos 1) ∷ i.New 1 ∷ i.Pop ∷ i.Undefined ∷ i.Return ∷ [];
  operands = 4;
  handlers = [];
})
unfolding functions writes_constructor mentions free captured gather places captures code statement
members_and_calls = refl

-- function f(a, b) { a && b; a || b; a ?? b; a ? b : 1; a, b; void a; delete a.x; delete (a[b]); delete 1; }
choices : coded (t.more (t.Plain (t.FunctionStatement (t.FunctionOf 0 (Some (named_at 9 (codes "f"))) f.Plain ((named_at 11 (codes "a")) ∷ (named_at 14 (codes "b")) ∷ []) (t.BodyStatements (t.more (t.Value (t.And (t.Name (named_at 19 (codes "a"))) (t.Name (named_at 24 (codes "b")))) semi.Written) (t.more (t.Value (t.Or (t.Name (named_at 27 (codes "a"))) (t.Name (named_at 32 (codes "b")))) semi.Written) (t.more (t.Value (t.Nullish (t.Name (named_at 35 (codes "a"))) (t.Name (named_at 40 (codes "b")))) semi.Written) (t.more (t.Value (t.Conditional (t.Name (named_at 43 (codes "a"))) (t.Name (named_at 47 (codes "b"))) (t.Number (pos 1))) semi.Written) (t.more (t.Value (t.Comma (t.Name (named_at 54 (codes "a"))) (t.Name (named_at 57 (codes "b")))) semi.Written) (t.more (t.Value (t.Void (t.Name (named_at 65 (codes "a")))) semi.Written) (t.more (t.Value (t.Delete 68 (t.Dot (t.Name (named_at 75 (codes "a"))) (codes "x"))) semi.Written) (t.more (t.Value (t.Delete 80 (t.Paren (t.Index (t.Name (named_at 88 (codes "a"))) (t.Name (named_at 90 (codes "b")))))) semi.Written) (t.more (t.Value (t.Delete 95 (t.Number (pos 1))) semi.Written) t.none))))))))))))) t.none) 1 ≡ Some (record {
  instructions = i.LocalGet 0 ∷ i.Dup ∷ i.JumpUnless 11 ∷ i.Pop ∷ i.LocalGet 1 ∷ i.Pop ∷ i.LocalGet 0 ∷ i.Dup ∷ i.JumpIf 23 ∷ i.Pop ∷ i.LocalGet 1 ∷ i.Pop ∷ i.LocalGet 0 ∷ i.Dup ∷ i.JumpValue 35 ∷ i.Pop ∷ i.LocalGet 1 ∷ i.Pop ∷ i.LocalGet 0 ∷ i.JumpUnless 48 ∷ i.LocalGet 1 ∷ i.Jump 50 ∷ i.Int (pos 1) ∷ i.Pop ∷ i.LocalGet 0 ∷ i.Pop ∷ i.LocalGet 1 ∷ i.Pop ∷ i.LocalGet 0 ∷ i.Pop ∷ i.Undefined ∷ i.Pop ∷ i.LocalGet 0 ∷ i.Delete 3 ∷ i.Pop ∷ i.LocalGet 0 ∷ i.LocalGet 1 ∷ i.DeleteKey ∷ i.Pop ∷ i.Int (pos 1) ∷ i.Pop ∷ i.True ∷ i.Pop ∷ i.Undefined ∷ i.Return ∷ [];
  operands = 2;
  handlers = [];
})
unfolding functions writes_constructor mentions free captured gather places captures code statement
choices = refl

-- function f(o, k) { o.a = 1; o[k] = 2; o.a += 3; o[k] -= 4; o **= 5; (o.a) = 6; }
assignments : coded (t.more (t.Plain (t.FunctionStatement (t.FunctionOf 0 (Some (named_at 9 (codes "f"))) f.Plain ((named_at 11 (codes "o")) ∷ (named_at 14 (codes "k")) ∷ []) (t.BodyStatements (t.more (t.Value (t.Assign 19 (t.Dot (t.Name (named_at 19 (codes "o"))) (codes "a")) None (t.Number (pos 1))) semi.Written) (t.more (t.Value (t.Assign 28 (t.Index (t.Name (named_at 28 (codes "o"))) (t.Name (named_at 30 (codes "k")))) None (t.Number (pos 2))) semi.Written) (t.more (t.Value (t.Assign 38 (t.Dot (t.Name (named_at 38 (codes "o"))) (codes "a")) (Some b.Add) (t.Number (pos 3))) semi.Written) (t.more (t.Value (t.Assign 48 (t.Index (t.Name (named_at 48 (codes "o"))) (t.Name (named_at 50 (codes "k")))) (Some b.Subtract) (t.Number (pos 4))) semi.Written) (t.more (t.Value (t.Assign 59 (t.Name (named_at 59 (codes "o"))) (Some b.Power) (t.Number (pos 5))) semi.Written) (t.more (t.Value (t.Assign 68 (t.Paren (t.Dot (t.Name (named_at 69 (codes "o"))) (codes "a"))) None (t.Number (pos 6))) semi.Written) t.none)))))))))) t.none) 1 ≡ Some (record {
  instructions = i.LocalGet 0 ∷ i.Int (pos 1) ∷ i.Set 3 ∷ i.Pop ∷ i.LocalGet 0 ∷ i.LocalGet 1 ∷ i.Int (pos 2) ∷ i.SetKey ∷ i.Pop ∷ i.LocalGet 0 ∷ i.Dup ∷ i.Get 3 ∷ i.Int (pos 3) ∷ i.Binary 0 ∷ i.Set 3 ∷ i.Pop ∷ i.LocalGet 0 ∷ i.LocalGet 1 ∷ i.ToKey ∷ i.Dup2 ∷ i.GetKey ∷ i.Int (pos 4) ∷ i.Binary 1 ∷ i.SetKey ∷ i.Pop ∷ i.LocalGet 0 ∷ i.Int (pos 5) ∷ i.Binary 5 ∷ i.Dup ∷ i.LocalPut 0 ∷ i.Pop ∷ i.LocalGet 0 ∷ i.Int (pos 6) ∷ i.Set 3 ∷ i.Pop ∷ i.Undefined ∷ i.Return ∷ [];
  operands = 4;
  handlers = [];
})
unfolding functions writes_constructor mentions free captured gather places captures code statement
assignments = refl

-- function f(n, o, k) { ++n; --o.a; ++o[k]; n++; o.a--; o[k]++; }
updates : coded (t.more (t.Plain (t.FunctionStatement (t.FunctionOf 0 (Some (named_at 9 (codes "f"))) f.Plain ((named_at 11 (codes "n")) ∷ (named_at 14 (codes "o")) ∷ (named_at 17 (codes "k")) ∷ []) (t.BodyStatements (t.more (t.Value (t.Update 22 true true (t.Name (named_at 24 (codes "n")))) semi.Written) (t.more (t.Value (t.Update 27 false true (t.Dot (t.Name (named_at 29 (codes "o"))) (codes "a"))) semi.Written) (t.more (t.Value (t.Update 34 true true (t.Index (t.Name (named_at 36 (codes "o"))) (t.Name (named_at 38 (codes "k"))))) semi.Written) (t.more (t.Value (t.Update 42 true false (t.Name (named_at 42 (codes "n")))) semi.Written) (t.more (t.Value (t.Update 47 false false (t.Dot (t.Name (named_at 47 (codes "o"))) (codes "a"))) semi.Written) (t.more (t.Value (t.Update 54 true false (t.Index (t.Name (named_at 54 (codes "o"))) (t.Name (named_at 56 (codes "k"))))) semi.Written) t.none)))))))))) t.none) 1 ≡ Some (record {
  instructions = i.LocalGet 0 ∷ i.Unary 2 ∷ i.Int (pos 1) ∷ i.Binary 0 ∷ i.Dup ∷ i.LocalPut 0 ∷ i.Pop ∷ i.LocalGet 1 ∷ i.Dup ∷ i.Get 3 ∷ i.Unary 2 ∷ i.Int (pos 1) ∷ i.Binary 1 ∷ i.Set 3 ∷ i.Pop ∷ i.LocalGet 1 ∷ i.LocalGet 2 ∷ i.ToKey ∷ i.Dup2 ∷ i.GetKey ∷ i.Unary 2 ∷ i.Int (pos 1) ∷ i.Binary 0 ∷ i.SetKey ∷ i.Pop ∷ i.LocalGet 0 ∷ i.Unary 2 ∷ i.Dup ∷ i.Int (pos 1) ∷ i.Binary 0 ∷ i.Dup ∷ i.LocalPut 0 ∷ i.Pop ∷ i.Pop ∷ i.LocalGet 1 ∷ i.Dup ∷ i.Get 3 ∷ i.Unary 2 ∷ i.Dup ∷ i.Rot3 ∷ i.Int (pos 1) ∷ i.Binary 1 ∷ i.Set 3 ∷ i.Pop ∷ i.Pop ∷ i.LocalGet 1 ∷ i.LocalGet 2 ∷ i.ToKey ∷ i.Dup2 ∷ i.GetKey ∷ i.Unary 2 ∷ i.Dup ∷ i.Rot4 ∷ i.Int (pos 1) ∷ i.Binary 0 ∷ i.SetKey ∷ i.Pop ∷ i.Pop ∷ i.Undefined ∷ i.Return ∷ [];
  operands = 5;
  handlers = [];
})
unfolding functions writes_constructor mentions free captured gather places captures code statement
updates = refl
