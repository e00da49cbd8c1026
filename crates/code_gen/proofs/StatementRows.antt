-- Worked rows of the code of statements, worked out by hand.
use Rattle.std.specs.Prelude.{◌≡◌, true, false, [], ◌∷◌, codes, pos, Some, None, refl}
use Rattle.byte_code.specs.declared.instruction.Op.TheVariants as i
use Rattle.es_model.specs.declared.kinds.Semi.TheVariants as semi
use Rattle.es_model.specs.declared.kinds.FunctionKind.TheVariants as f
use Rattle.es_model.specs.declared.kinds.BinaryOperator.TheVariants as b
use Rattle.es_model.specs.Tree as t
use Rattle.es_model.specs.Scopes.{gather}
use Rattle.es_model.specs.Functions.{functions, writes_constructor}
use Rattle.es_model.specs.FreeNames.{mentions, free, captured, places, captures}
use Rattle.code_gen.specs.Expressions.{code}
use Rattle.code_gen.specs.Statements.{statement}
use Rattle.code_gen.proofs.Rows.{named_at, coded}

-- function f(a) { if (a) 1; if (a) 2; else 3; }
conditions : coded (t.more (t.Plain (t.FunctionStatement (t.FunctionOf 0 (Some (named_at 9 (codes "f"))) f.Plain ((named_at 11 (codes "a")) ∷ []) (t.BodyStatements (t.more (t.If (t.Name (named_at 20 (codes "a"))) (t.Value (t.Number (pos 1)) semi.Written) t.absent) (t.more (t.If (t.Name (named_at 30 (codes "a"))) (t.Value (t.Number (pos 2)) semi.Written) (t.present (t.Value (t.Number (pos 3)) semi.Written))) t.none)))))) t.none) 1 ≡ Some (record {
  instructions = i.LocalGet 0 ∷ i.JumpUnless 9 ∷ i.Int (pos 1) ∷ i.Pop ∷ i.LocalGet 0 ∷ i.JumpUnless 21 ∷ i.Int (pos 2) ∷ i.Pop ∷ i.Jump 24 ∷ i.Int (pos 3) ∷ i.Pop ∷ i.Undefined ∷ i.Return ∷ [];
  operands = 1;
  handlers = [];
})
unfolding functions writes_constructor mentions free captured gather places captures code statement
conditions = refl

-- function f(a) { while (a) { if (a) break; continue; } }
while_loop : coded (t.more (t.Plain (t.FunctionStatement (t.FunctionOf 0 (Some (named_at 9 (codes "f"))) f.Plain ((named_at 11 (codes "a")) ∷ []) (t.BodyStatements (t.more (t.While (t.Name (named_at 23 (codes "a"))) (t.Block (t.more (t.If (t.Name (named_at 32 (codes "a"))) (t.Break 35 semi.Written) t.absent) (t.more (t.Continue 42 semi.Written) t.none)))) t.none))))) t.none) 1 ≡ Some (record {
  instructions = i.Turn ∷ i.LocalGet 0 ∷ i.JumpUnless 22 ∷ i.LocalGet 0 ∷ i.JumpUnless 16 ∷ i.Jump 22 ∷ i.Jump 0 ∷ i.Jump 0 ∷ i.Undefined ∷ i.Return ∷ [];
  operands = 1;
  handlers = [];
})
unfolding functions writes_constructor mentions free captured gather places captures code statement
while_loop = refl

-- function f(a) { do { if (a) continue; break; } while (a); }
do_loop : coded (t.more (t.Plain (t.FunctionStatement (t.FunctionOf 0 (Some (named_at 9 (codes "f"))) f.Plain ((named_at 11 (codes "a")) ∷ []) (t.BodyStatements (t.more (t.DoWhile (t.Block (t.more (t.If (t.Name (named_at 25 (codes "a"))) (t.Continue 28 semi.Written) t.absent) (t.more (t.Break 38 semi.Written) t.none))) (t.Name (named_at 54 (codes "a"))) semi.Written) t.none))))) t.none) 1 ≡ Some (record {
  instructions = i.Turn ∷ i.LocalGet 0 ∷ i.JumpUnless 10 ∷ i.Jump 13 ∷ i.Jump 19 ∷ i.LocalGet 0 ∷ i.JumpIf 0 ∷ i.Undefined ∷ i.Return ∷ [];
  operands = 1;
  handlers = [];
})
unfolding functions writes_constructor mentions free captured gather places captures code statement
do_loop = refl

-- function f(a) { for (let i = 0; i < a; i++) { () => i; } for (;;) break; for (a = 1; ; ) continue; }
for_loops : coded (t.more (t.Plain (t.FunctionStatement (t.FunctionOf 0 (Some (named_at 9 (codes "f"))) f.Plain ((named_at 11 (codes "a")) ∷ []) (t.BodyStatements (t.more (t.For (t.HeadDeclare false (t.more (t.DeclaratorOf (named_at 25 (codes "i")) (t.present (t.Number (pos 0)))) t.none)) (t.present (t.Binary b.Less (t.Name (named_at 32 (codes "i"))) (t.Name (named_at 36 (codes "a"))))) (t.present (t.Update 39 true false (t.Name (named_at 39 (codes "i"))))) (t.Block (t.more (t.Value (t.Function (t.FunctionOf 46 None f.Arrow [] (t.BodyExpression (t.Name (named_at 52 (codes "i")))))) semi.Written) t.none))) (t.more (t.For t.HeadNothing t.absent t.absent (t.Break 66 semi.Written)) (t.more (t.For (t.HeadValue (t.Assign 78 (t.Name (named_at 78 (codes "a"))) None (t.Number (pos 1)))) t.absent t.absent (t.Continue 89 semi.Written)) t.none))))))) t.none) 1 ≡ Some (record {
  instructions = i.BoxLet 1 ∷ i.Int (pos 0) ∷ i.BoxInit 1 ∷ i.BoxCopy 1 ∷ i.Turn ∷ i.BoxGet 1 ∷ i.LocalGet 0 ∷ i.Binary 12 ∷ i.JumpUnless 49 ∷ i.Function 2 ∷ i.Pop ∷ i.BoxCopy 1 ∷ i.BoxGet 1 ∷ i.Unary 2 ∷ i.Dup ∷ i.Int (pos 1) ∷ i.Binary 0 ∷ i.Dup ∷ i.BoxPut 1 ∷ i.Pop ∷ i.Pop ∷ i.Jump 11 ∷ i.Turn ∷ i.Jump 56 ∷ i.Jump 49 ∷ i.Int (pos 1) ∷ i.Dup ∷ i.LocalPut 0 ∷ i.Pop ∷ i.Turn ∷ i.Jump 67 ∷ i.Jump 63 ∷ i.Undefined ∷ i.Return ∷ [];
  operands = 3;
  handlers = [];
})
unfolding functions writes_constructor mentions free captured gather places captures code statement
for_loops = refl

-- for (const i = 0; ; ) { () => i; break; }
for_with_a_constant : coded (t.more (t.Plain (t.For (t.HeadDeclare true (t.more (t.DeclaratorOf (named_at 11 (codes "i")) (t.present (t.Number (pos 0)))) t.none)) t.absent t.absent (t.Block (t.more (t.Value (t.Function (t.FunctionOf 24 None f.Arrow [] (t.BodyExpression (t.Name (named_at 30 (codes "i")))))) semi.Written) (t.more (t.Break 33 semi.Written) t.none))))) t.none) 0 ≡ Some (record {
  instructions = i.BoxConst 0 ∷ i.Int (pos 0) ∷ i.BoxInit 0 ∷ i.Turn ∷ i.Function 1 ∷ i.Pop ∷ i.Jump 19 ∷ i.Jump 8 ∷ i.Undefined ∷ i.Return ∷ [];
  operands = 1;
  handlers = [];
})
unfolding functions writes_constructor mentions free captured gather places captures code statement
for_with_a_constant = refl

-- for (let i = 0, j; ; ) i = j;
for_in_own_places : coded (t.more (t.Plain (t.For (t.HeadDeclare false (t.more (t.DeclaratorOf (named_at 9 (codes "i")) (t.present (t.Number (pos 0)))) (t.more (t.DeclaratorOf (named_at 16 (codes "j")) t.absent) t.none))) t.absent t.absent (t.Value (t.Assign 23 (t.Name (named_at 23 (codes "i"))) None (t.Name (named_at 27 (codes "j")))) semi.Written))) t.none) 0 ≡ Some (record {
  instructions = i.LocalClear 0 ∷ i.LocalClear 1 ∷ i.Int (pos 0) ∷ i.LocalPut 0 ∷ i.Undefined ∷ i.LocalPut 1 ∷ i.Turn ∷ i.LocalCheck 1 ∷ i.LocalGet 1 ∷ i.LocalCheck 0 ∷ i.Dup ∷ i.LocalPut 0 ∷ i.Pop ∷ i.Jump 15 ∷ i.Undefined ∷ i.Return ∷ [];
  operands = 2;
  handlers = [];
})
unfolding functions writes_constructor mentions free captured gather places captures code statement
for_in_own_places = refl

-- function f(a) { switch (a) { case 1: let b; function g() {} break; default: a; case 2: b; } }
default_in_the_middle : coded (t.more (t.Plain (t.FunctionStatement (t.FunctionOf 0 (Some (named_at 9 (codes "f"))) f.Plain ((named_at 11 (codes "a")) ∷ []) (t.BodyStatements (t.more (t.Switch (t.Name (named_at 24 (codes "a"))) (t.more (t.CaseOf (t.present (t.Number (pos 1))) (t.more (t.Declare false (t.more (t.DeclaratorOf (named_at 41 (codes "b")) t.absent) t.none) semi.Written) (t.more (t.FunctionStatement (t.FunctionOf 44 (Some (named_at 53 (codes "g"))) f.Plain [] (t.BodyStatements t.none))) (t.more (t.Break 60 semi.Written) t.none)))) (t.more (t.CaseOf t.absent (t.more (t.Value (t.Name (named_at 76 (codes "a"))) semi.Written) t.none)) (t.more (t.CaseOf (t.present (t.Number (pos 2))) (t.more (t.Value (t.Name (named_at 87 (codes "b"))) semi.Written) t.none)) t.none)))) t.none))))) t.none) 1 ≡ Some (record {
  instructions = i.LocalGet 0 ∷ i.LocalPut 1 ∷ i.LocalClear 2 ∷ i.Function 2 ∷ i.LocalPut 3 ∷ i.LocalGet 1 ∷ i.Int (pos 1) ∷ i.Binary 18 ∷ i.JumpIf 38 ∷ i.LocalGet 1 ∷ i.Int (pos 2) ∷ i.Binary 18 ∷ i.JumpIf 49 ∷ i.Jump 45 ∷ i.Undefined ∷ i.LocalPut 2 ∷ i.Jump 56 ∷ i.LocalGet 0 ∷ i.Pop ∷ i.LocalCheck 2 ∷ i.LocalGet 2 ∷ i.Pop ∷ i.Undefined ∷ i.Return ∷ [];
  operands = 2;
  handlers = [];
})
unfolding functions writes_constructor mentions free captured gather places captures code statement
default_in_the_middle = refl

-- switch (1) { case 2: }
switch_without_a_default : coded (t.more (t.Plain (t.Switch (t.Number (pos 1)) (t.more (t.CaseOf (t.present (t.Number (pos 2))) t.none) t.none))) t.none) 0 ≡ Some (record {
  instructions = i.Int (pos 1) ∷ i.LocalPut 0 ∷ i.LocalGet 0 ∷ i.Int (pos 2) ∷ i.Binary 18 ∷ i.JumpIf 18 ∷ i.Jump 18 ∷ i.Undefined ∷ i.Return ∷ [];
  operands = 2;
  handlers = [];
})
unfolding functions writes_constructor mentions free captured gather places captures code statement
switch_without_a_default = refl

-- function f(a) { while (a) switch (a) { case 1: continue; } }
continue_in_a_switch : coded (t.more (t.Plain (t.FunctionStatement (t.FunctionOf 0 (Some (named_at 9 (codes "f"))) f.Plain ((named_at 11 (codes "a")) ∷ []) (t.BodyStatements (t.more (t.While (t.Name (named_at 23 (codes "a"))) (t.Switch (t.Name (named_at 34 (codes "a"))) (t.more (t.CaseOf (t.present (t.Number (pos 1))) (t.more (t.Continue 47 semi.Written) t.none)) t.none))) t.none))))) t.none) 1 ≡ Some (record {
  instructions = i.Turn ∷ i.LocalGet 0 ∷ i.JumpUnless 32 ∷ i.LocalGet 0 ∷ i.LocalPut 1 ∷ i.LocalGet 1 ∷ i.Int (pos 1) ∷ i.Binary 18 ∷ i.JumpIf 26 ∷ i.Jump 29 ∷ i.Jump 0 ∷ i.Jump 0 ∷ i.Undefined ∷ i.Return ∷ [];
  operands = 2;
  handlers = [];
})
unfolding functions writes_constructor mentions free captured gather places captures code statement
continue_in_a_switch = refl

-- function f(a) { if (a) return; return a; throw a; }
returns_and_throws : coded (t.more (t.Plain (t.FunctionStatement (t.FunctionOf 0 (Some (named_at 9 (codes "f"))) f.Plain ((named_at 11 (codes "a")) ∷ []) (t.BodyStatements (t.more (t.If (t.Name (named_at 20 (codes "a"))) (t.Return 23 t.absent semi.Written) t.absent) (t.more (t.Return 31 (t.present (t.Name (named_at 38 (codes "a")))) semi.Written) (t.more (t.Throw (t.Name (named_at 47 (codes "a"))) semi.Written) t.none))))))) t.none) 1 ≡ Some (record {
  instructions = i.LocalGet 0 ∷ i.JumpUnless 8 ∷ i.Undefined ∷ i.Return ∷ i.LocalGet 0 ∷ i.Return ∷ i.LocalGet 0 ∷ i.Throw ∷ i.Undefined ∷ i.Return ∷ [];
  operands = 1;
  handlers = [];
})
unfolding functions writes_constructor mentions free captured gather places captures code statement
returns_and_throws = refl

-- { function g() { g; } let x; const y = 1; class C {} () => { x; y; C; }; }
blocks : coded (t.more (t.Plain (t.Block (t.more (t.FunctionStatement (t.FunctionOf 2 (Some (named_at 11 (codes "g"))) f.Plain [] (t.BodyStatements (t.more (t.Value (t.Name (named_at 17 (codes "g"))) semi.Written) t.none)))) (t.more (t.Declare false (t.more (t.DeclaratorOf (named_at 26 (codes "x")) t.absent) t.none) semi.Written) (t.more (t.Declare true (t.more (t.DeclaratorOf (named_at 35 (codes "y")) (t.present (t.Number (pos 1)))) t.none) semi.Written) (t.more (t.ClassStatement (t.ClassOf 42 (Some (named_at 48 (codes "C"))) t.absent t.none)) (t.more (t.Value (t.Function (t.FunctionOf 53 None f.Arrow [] (t.BodyStatements (t.more (t.Value (t.Name (named_at 61 (codes "x"))) semi.Written) (t.more (t.Value (t.Name (named_at 64 (codes "y"))) semi.Written) (t.more (t.Value (t.Name (named_at 67 (codes "C"))) semi.Written) t.none)))))) semi.Written) t.none))))))) t.none) 0 ≡ Some (record {
  instructions = i.BoxLet 1 ∷ i.BoxConst 2 ∷ i.BoxLet 3 ∷ i.BoxLet 0 ∷ i.Function 1 ∷ i.BoxInit 0 ∷ i.Undefined ∷ i.BoxInit 1 ∷ i.Int (pos 1) ∷ i.BoxInit 2 ∷ i.Class 2 ∷ i.Pop ∷ i.BoxInit 3 ∷ i.Function 3 ∷ i.Pop ∷ i.Undefined ∷ i.Return ∷ [];
  operands = 2;
  handlers = [];
})
unfolding functions writes_constructor mentions free captured gather places captures code statement
blocks = refl

-- ;;{}
empty_statements : coded (t.more (t.Plain t.Empty) (t.more (t.Plain t.Empty) (t.more (t.Plain (t.Block t.none)) t.none))) 0 ≡ Some (record {
  instructions = i.Undefined ∷ i.Return ∷ [];
  operands = 1;
  handlers = [];
})
unfolding functions writes_constructor mentions free captured gather places captures code statement
empty_statements = refl
