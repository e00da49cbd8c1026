-- Worked rows of the code of functions and classes, worked out by hand.
use Rattle.std.specs.Prelude.{◌≡◌, true, false, [], ◌∷◌, codes, pos, Some, None, refl}
use Rattle.byte_code.specs.declared.instruction.Op.TheVariants as i
use Rattle.es_model.specs.declared.kinds.Semi.TheVariants as semi
use Rattle.es_model.specs.declared.kinds.FunctionKind.TheVariants as f
use Rattle.es_model.specs.declared.kinds.MemberKind.TheVariants as m
use Rattle.es_model.specs.declared.kinds.BinaryOperator.TheVariants as b
use Rattle.es_model.specs.Tree as t
use Rattle.es_model.specs.Scopes.{gather}
use Rattle.es_model.specs.Functions.{functions, writes_constructor}
use Rattle.es_model.specs.FreeNames.{mentions, free, captured, places, captures}
use Rattle.code_gen.specs.Expressions.{code}
use Rattle.code_gen.specs.Statements.{statement}
use Rattle.code_gen.proofs.Rows.{named_at, coded}

-- class A extends Object { go(k) { super.x; super[k]; super.x = 1; super[k] = 2; super.x += 3; super[k] += 4; super.x++; super[k]++; --super.x; super.go(5); super[k](6); } }
super_members : coded (t.more (t.Plain (t.ClassStatement (t.ClassOf 0 (Some (named_at 6 (codes "A"))) (t.present (t.Name (named_at 16 (codes "Object")))) (t.more (t.MemberOf 25 false m.Method (t.KeyWord (codes "go")) t.absent (t.present (t.FunctionOf 25 None f.Method ((named_at 28 (codes "k")) ∷ []) (t.BodyStatements (t.more (t.Value (t.SuperDot 33 (codes "x")) semi.Written) (t.more (t.Value (t.SuperIndex 42 (t.Name (named_at 48 (codes "k")))) semi.Written) (t.more (t.Value (t.Assign 52 (t.SuperDot 52 (codes "x")) None (t.Number (pos 1))) semi.Written) (t.more (t.Value (t.Assign 65 (t.SuperIndex 65 (t.Name (named_at 71 (codes "k")))) None (t.Number (pos 2))) semi.Written) (t.more (t.Value (t.Assign 79 (t.SuperDot 79 (codes "x")) (Some b.Add) (t.Number (pos 3))) semi.Written) (t.more (t.Value (t.Assign 93 (t.SuperIndex 93 (t.Name (named_at 99 (codes "k")))) (Some b.Add) (t.Number (pos 4))) semi.Written) (t.more (t.Value (t.Update 108 true false (t.SuperDot 108 (codes "x"))) semi.Written) (t.more (t.Value (t.Update 119 true false (t.SuperIndex 119 (t.Name (named_at 125 (codes "k"))))) semi.Written) (t.more (t.Value (t.Update 131 false true (t.SuperDot 133 (codes "x"))) semi.Written) (t.more (t.Value (t.Call (t.SuperDot 142 (codes "go")) (t.more (t.Number (pos 5)) t.none)) semi.Written) (t.more (t.Value (t.Call (t.SuperIndex 155 (t.Name (named_at 161 (codes "k")))) (t.more (t.Number (pos 6)) t.none)) semi.Written) t.none))))))))))))))) t.none)))) t.none) 2 ≡ Some (record {
  instructions = i.This ∷ i.SuperGet 4 ∷ i.Pop ∷ i.This ∷ i.LocalGet 0 ∷ i.SuperGetKey ∷ i.Pop ∷ i.This ∷ i.Int (pos 1) ∷ i.SuperSet 4 ∷ i.Pop ∷ i.This ∷ i.LocalGet 0 ∷ i.Int (pos 2) ∷ i.SuperSetKey ∷ i.Pop ∷ i.This ∷ i.Dup ∷ i.SuperGet 4 ∷ i.Int (pos 3) ∷ i.Binary 0 ∷ i.SuperSet 4 ∷ i.Pop ∷ i.This ∷ i.LocalGet 0 ∷ i.ToKey ∷ i.Dup2 ∷ i.SuperGetKey ∷ i.Int (pos 4) ∷ i.Binary 0 ∷ i.SuperSetKey ∷ i.Pop ∷ i.This ∷ i.Dup ∷ i.SuperGet 4 ∷ i.Unary 2 ∷ i.Dup ∷ i.Rot3 ∷ i.Int (pos 1) ∷ i.Binary 0 ∷ i.SuperSet 4 ∷ i.Pop ∷ i.Pop ∷ i.This ∷ i.LocalGet 0 ∷ i.ToKey ∷ i.Dup2 ∷ i.SuperGetKey ∷ i.Unary 2 ∷ i.Dup ∷ i.Rot4 ∷ i.Int (pos 1) ∷ i.Binary 0 ∷ i.SuperSetKey ∷ i.Pop ∷ i.Pop ∷ i.This ∷ i.Dup ∷ i.SuperGet 4 ∷ i.Unary 2 ∷ i.Int (pos 1) ∷ i.Binary 1 ∷ i.SuperSet 4 ∷ i.Pop ∷ i.This ∷ i.This ∷ i.SuperGet 2 ∷ i.Int (pos 5) ∷ i.Call 1 ∷ i.Pop ∷ i.This ∷ i.This ∷ i.LocalGet 0 ∷ i.SuperGetKey ∷ i.Int (pos 6) ∷ i.Call 1 ∷ i.Pop ∷ i.Undefined ∷ i.Return ∷ [];
  operands = 5;
  handlers = [];
})
unfolding functions writes_constructor mentions free captured gather places captures code statement
super_members = refl

-- class A extends Object { go(k) { return super.x; } }
derived_class : coded (t.more (t.Plain (t.ClassStatement (t.ClassOf 0 (Some (named_at 6 (codes "A"))) (t.present (t.Name (named_at 16 (codes "Object")))) (t.more (t.MemberOf 25 false m.Method (t.KeyWord (codes "go")) t.absent (t.present (t.FunctionOf 25 None f.Method ((named_at 28 (codes "k")) ∷ []) (t.BodyStatements (t.more (t.Return 33 (t.present (t.SuperDot 40 (codes "x"))) semi.Written) t.none))))) t.none)))) t.none) 0 ≡ Some (record {
  instructions = i.Global 1 ∷ i.ClassExtends 1 ∷ i.Text 2 ∷ i.Method 2 ∷ i.Define 1 ∷ i.Pop ∷ i.OuterInit 0 ∷ i.Undefined ∷ i.Return ∷ [];
  operands = 4;
  handlers = [];
})
unfolding functions writes_constructor mentions free captured gather places captures code statement
derived_class = refl

-- class A extends Object {}
generated_derived_constructor : coded (t.more (t.Plain (t.ClassStatement (t.ClassOf 0 (Some (named_at 6 (codes "A"))) (t.present (t.Name (named_at 16 (codes "Object")))) t.none))) t.none) 1 ≡ Some (record {
  instructions = [];
  operands = 0;
  handlers = [];
})
unfolding functions writes_constructor mentions free captured gather places captures code statement
generated_derived_constructor = refl

-- class A {}
generated_constructor : coded (t.more (t.Plain (t.ClassStatement (t.ClassOf 0 (Some (named_at 6 (codes "A"))) t.absent t.none))) t.none) 1 ≡ Some (record {
  instructions = i.Undefined ∷ i.Return ∷ [];
  operands = 1;
  handlers = [];
})
unfolding functions writes_constructor mentions free captured gather places captures code statement
generated_constructor = refl

-- (function f() { f; f = 1; });
own_name_of_a_function : coded (t.more (t.Plain (t.Value (t.Paren (t.Function (t.FunctionOf 1 (Some (named_at 10 (codes "f"))) f.Plain [] (t.BodyStatements (t.more (t.Value (t.Name (named_at 16 (codes "f"))) semi.Written) (t.more (t.Value (t.Assign 19 (t.Name (named_at 19 (codes "f"))) None (t.Number (pos 1))) semi.Written) t.none)))))) semi.Written)) t.none) 0 ≡ Some (record {
  instructions = i.BoxConst 0 ∷ i.Function 1 ∷ i.Dup ∷ i.BoxInit 0 ∷ i.Pop ∷ i.Undefined ∷ i.Return ∷ [];
  operands = 2;
  handlers = [];
})
unfolding functions writes_constructor mentions free captured gather places captures code statement
own_name_of_a_function = refl

-- (function f() { f; f = 1; });
own_name_within : coded (t.more (t.Plain (t.Value (t.Paren (t.Function (t.FunctionOf 1 (Some (named_at 10 (codes "f"))) f.Plain [] (t.BodyStatements (t.more (t.Value (t.Name (named_at 16 (codes "f"))) semi.Written) (t.more (t.Value (t.Assign 19 (t.Name (named_at 19 (codes "f"))) None (t.Number (pos 1))) semi.Written) t.none)))))) semi.Written)) t.none) 1 ≡ Some (record {
  instructions = i.OuterGet 0 ∷ i.Pop ∷ i.Int (pos 1) ∷ i.Dup ∷ i.OuterPut 0 ∷ i.Pop ∷ i.Undefined ∷ i.Return ∷ [];
  operands = 2;
  handlers = [];
})
unfolding functions writes_constructor mentions free captured gather places captures code statement
own_name_within = refl

-- (function f() {});
own_name_that_nobody_mentions : coded (t.more (t.Plain (t.Value (t.Paren (t.Function (t.FunctionOf 1 (Some (named_at 10 (codes "f"))) f.Plain [] (t.BodyStatements t.none)))) semi.Written)) t.none) 0 ≡ Some (record {
  instructions = i.Function 1 ∷ i.Pop ∷ i.Undefined ∷ i.Return ∷ [];
  operands = 1;
  handlers = [];
})
unfolding functions writes_constructor mentions free captured gather places captures code statement
own_name_that_nobody_mentions = refl

-- let k; class A extends Math.B { constructor(x) { super(x); () => this; } static s() {} get [k]() {} static set t(v) {} }
class_members : coded (t.more (t.Plain (t.Declare false (t.more (t.DeclaratorOf (named_at 4 (codes "k")) t.absent) t.none) semi.Written)) (t.more (t.Plain (t.ClassStatement (t.ClassOf 7 (Some (named_at 13 (codes "A"))) (t.present (t.Dot (t.Name (named_at 23 (codes "Math"))) (codes "B"))) (t.more (t.MemberOf 32 false m.Method (t.KeyWord (codes "constructor")) t.absent (t.present (t.FunctionOf 32 None f.Derived ((named_at 44 (codes "x")) ∷ []) (t.BodyStatements (t.more (t.Value (t.SuperCall 49 (t.more (t.Name (named_at 55 (codes "x"))) t.none)) semi.Written) (t.more (t.Value (t.Function (t.FunctionOf 59 None f.Arrow [] (t.BodyExpression t.This))) semi.Written) t.none)))))) (t.more (t.MemberOf 73 true m.Method (t.KeyWord (codes "s")) t.absent (t.present (t.FunctionOf 73 None f.Method [] (t.BodyStatements t.none)))) (t.more (t.MemberOf 87 false m.Getter (t.KeyComputed (t.Name (named_at 92 (codes "k")))) t.absent (t.present (t.FunctionOf 87 None f.Getter [] (t.BodyStatements t.none)))) (t.more (t.MemberOf 100 true m.Setter (t.KeyWord (codes "t")) t.absent (t.present (t.FunctionOf 100 None f.Setter ((named_at 113 (codes "v")) ∷ []) (t.BodyStatements t.none)))) t.none))))))) t.none)) 0 ≡ Some (record {
  instructions = i.Undefined ∷ i.OuterInit 0 ∷ i.Global 10 ∷ i.Get 2 ∷ i.ClassExtends 1 ∷ i.Swap ∷ i.Text 3 ∷ i.Method 3 ∷ i.Define 1 ∷ i.Swap ∷ i.OuterGet 0 ∷ i.ToKey ∷ i.Method 4 ∷ i.NameIt 1 ∷ i.Define 4 ∷ i.Swap ∷ i.Text 4 ∷ i.Method 5 ∷ i.Define 5 ∷ i.Swap ∷ i.Pop ∷ i.OuterInit 1 ∷ i.Undefined ∷ i.Return ∷ [];
  operands = 4;
  handlers = [];
})
unfolding functions writes_constructor mentions free captured gather places captures code statement
class_members = refl

-- let k; class A extends Math.B { constructor(x) { super(x); () => this; } static s() {} get [k]() {} static set t(v) {} }
derived_constructor_with_an_arrow : coded (t.more (t.Plain (t.Declare false (t.more (t.DeclaratorOf (named_at 4 (codes "k")) t.absent) t.none) semi.Written)) (t.more (t.Plain (t.ClassStatement (t.ClassOf 7 (Some (named_at 13 (codes "A"))) (t.present (t.Dot (t.Name (named_at 23 (codes "Math"))) (codes "B"))) (t.more (t.MemberOf 32 false m.Method (t.KeyWord (codes "constructor")) t.absent (t.present (t.FunctionOf 32 None f.Derived ((named_at 44 (codes "x")) ∷ []) (t.BodyStatements (t.more (t.Value (t.SuperCall 49 (t.more (t.Name (named_at 55 (codes "x"))) t.none)) semi.Written) (t.more (t.Value (t.Function (t.FunctionOf 59 None f.Arrow [] (t.BodyExpression t.This))) semi.Written) t.none)))))) (t.more (t.MemberOf 73 true m.Method (t.KeyWord (codes "s")) t.absent (t.present (t.FunctionOf 73 None f.Method [] (t.BodyStatements t.none)))) (t.more (t.MemberOf 87 false m.Getter (t.KeyComputed (t.Name (named_at 92 (codes "k")))) t.absent (t.present (t.FunctionOf 87 None f.Getter [] (t.BodyStatements t.none)))) (t.more (t.MemberOf 100 true m.Setter (t.KeyWord (codes "t")) t.absent (t.present (t.FunctionOf 100 None f.Setter ((named_at 113 (codes "v")) ∷ []) (t.BodyStatements t.none)))) t.none))))))) t.none)) 1 ≡ Some (record {
  instructions = i.BoxConst 1 ∷ i.LocalGet 0 ∷ i.SuperCall 1 ∷ i.BindThis ∷ i.Dup ∷ i.BoxInit 1 ∷ i.Pop ∷ i.Function 2 ∷ i.Pop ∷ i.Undefined ∷ i.Return ∷ [];
  operands = 2;
  handlers = [];
})
unfolding functions writes_constructor mentions free captured gather places captures code statement
derived_constructor_with_an_arrow = refl

-- class A extends Object { constructor() { super(); } }
derived_constructor : coded (t.more (t.Plain (t.ClassStatement (t.ClassOf 0 (Some (named_at 6 (codes "A"))) (t.present (t.Name (named_at 16 (codes "Object")))) (t.more (t.MemberOf 25 false m.Method (t.KeyWord (codes "constructor")) t.absent (t.present (t.FunctionOf 25 None f.Derived [] (t.BodyStatements (t.more (t.Value (t.SuperCall 41 t.none) semi.Written) t.none))))) t.none)))) t.none) 1 ≡ Some (record {
  instructions = i.SuperCall 0 ∷ i.BindThis ∷ i.Pop ∷ i.Undefined ∷ i.Return ∷ [];
  operands = 1;
  handlers = [];
})
unfolding functions writes_constructor mentions free captured gather places captures code statement
derived_constructor = refl

-- class A { static go() { return A; } }
own_name_of_a_class : coded (t.more (t.Plain (t.ClassStatement (t.ClassOf 0 (Some (named_at 6 (codes "A"))) t.absent (t.more (t.MemberOf 10 true m.Method (t.KeyWord (codes "go")) t.absent (t.present (t.FunctionOf 10 None f.Method [] (t.BodyStatements (t.more (t.Return 24 (t.present (t.Name (named_at 31 (codes "A")))) semi.Written) t.none))))) t.none)))) t.none) 0 ≡ Some (record {
  instructions = i.BoxConst 0 ∷ i.Class 1 ∷ i.Swap ∷ i.Text 2 ∷ i.Method 2 ∷ i.Define 1 ∷ i.Swap ∷ i.Pop ∷ i.Dup ∷ i.BoxInit 0 ∷ i.OuterInit 0 ∷ i.Undefined ∷ i.Return ∷ [];
  operands = 4;
  handlers = [];
})
unfolding functions writes_constructor mentions free captured gather places captures code statement
own_name_of_a_class = refl

-- class A { static go() { return A; } }
own_name_in_a_method : coded (t.more (t.Plain (t.ClassStatement (t.ClassOf 0 (Some (named_at 6 (codes "A"))) t.absent (t.more (t.MemberOf 10 true m.Method (t.KeyWord (codes "go")) t.absent (t.present (t.FunctionOf 10 None f.Method [] (t.BodyStatements (t.more (t.Return 24 (t.present (t.Name (named_at 31 (codes "A")))) semi.Written) t.none))))) t.none)))) t.none) 2 ≡ Some (record {
  instructions = i.OuterGet 0 ∷ i.Return ∷ i.Undefined ∷ i.Return ∷ [];
  operands = 1;
  handlers = [];
})
unfolding functions writes_constructor mentions free captured gather places captures code statement
own_name_in_a_method = refl

-- function f() { class A extends A {} }
own_name_in_extends : coded (t.more (t.Plain (t.FunctionStatement (t.FunctionOf 0 (Some (named_at 9 (codes "f"))) f.Plain [] (t.BodyStatements (t.more (t.ClassStatement (t.ClassOf 15 (Some (named_at 21 (codes "A"))) (t.present (t.Name (named_at 31 (codes "A")))) t.none)) t.none))))) t.none) 1 ≡ Some (record {
  instructions = i.LocalClear 0 ∷ i.LocalCheck 1 ∷ i.LocalGet 1 ∷ i.ClassExtends 2 ∷ i.Pop ∷ i.LocalPut 0 ∷ i.Undefined ∷ i.Return ∷ [];
  operands = 2;
  handlers = [];
})
unfolding functions writes_constructor mentions free captured gather places captures code statement
own_name_in_extends = refl

-- let A = class { constructor() { this; } };
class_expression : coded (t.more (t.Plain (t.Declare false (t.more (t.DeclaratorOf (named_at 4 (codes "A")) (t.present (t.Class (t.ClassOf 8 None t.absent (t.more (t.MemberOf 16 false m.Method (t.KeyWord (codes "constructor")) t.absent (t.present (t.FunctionOf 16 None f.Base [] (t.BodyStatements (t.more (t.Value t.This semi.Written) t.none))))) t.none))))) t.none) semi.Written)) t.none) 0 ≡ Some (record {
  instructions = i.Class 1 ∷ i.Pop ∷ i.OuterInit 0 ∷ i.Undefined ∷ i.Return ∷ [];
  operands = 2;
  handlers = [];
})
unfolding functions writes_constructor mentions free captured gather places captures code statement
class_expression = refl
