-- Worked rows of the code of `try`, worked out by hand.
use Rattle.std.specs.Prelude.{◌≡◌, false, [], ◌∷◌, codes, pos, Some, None, refl}
use Rattle.byte_code.specs.declared.instruction.Op.TheVariants as i
use Rattle.es_model.specs.declared.kinds.Semi.TheVariants as semi
use Rattle.es_model.specs.declared.kinds.FunctionKind.TheVariants as f
use Rattle.es_model.specs.Tree as t
use Rattle.es_model.specs.Scopes.{gather}
use Rattle.es_model.specs.Functions.{functions, writes_constructor}
use Rattle.es_model.specs.FreeNames.{mentions, free, captured, places, captures}
use Rattle.code_gen.specs.Expressions.{code}
use Rattle.code_gen.specs.Statements.{statement}
use Rattle.code_gen.proofs.Rows.{named_at, coded, range}

-- function f(a) { try { a; } catch (e) { e; } }
catches : coded (t.more (t.Plain (t.FunctionStatement (t.FunctionOf 0 (Some (named_at 9 (codes "f"))) f.Plain ((named_at 11 (codes "a")) ∷ []) (t.BodyStatements (t.more (t.Try (t.more (t.Value (t.Name (named_at 22 (codes "a"))) semi.Written) t.none) (Some (named_at 34 (codes "e"))) (t.present (t.more (t.Value (t.Name (named_at 39 (codes "e"))) semi.Written) t.none)) t.absent) t.none))))) t.none) 1 ≡ Some (record {
  instructions = i.LocalGet 0 ∷ i.Pop ∷ i.Jump 17 ∷ i.LocalPut 1 ∷ i.LocalGet 1 ∷ i.Pop ∷ i.Jump 17 ∷ i.Undefined ∷ i.Return ∷ [];
  operands = 1;
  handlers = (range 0 4 7 ∷ []);
})
unfolding functions writes_constructor mentions free captured gather places captures code statement
catches = refl

-- try { } catch (e) { let x; () => e; }
captured_catch_name : coded (t.more (t.Plain (t.Try t.none (Some (named_at 15 (codes "e"))) (t.present (t.more (t.Declare false (t.more (t.DeclaratorOf (named_at 24 (codes "x")) t.absent) t.none) semi.Written) (t.more (t.Value (t.Function (t.FunctionOf 27 None f.Arrow [] (t.BodyExpression (t.Name (named_at 33 (codes "e")))))) semi.Written) t.none))) t.absent)) t.none) 0 ≡ Some (record {
  instructions = i.Jump 23 ∷ i.BoxLet 0 ∷ i.BoxInit 0 ∷ i.LocalClear 1 ∷ i.Undefined ∷ i.LocalPut 1 ∷ i.Function 1 ∷ i.Pop ∷ i.Jump 23 ∷ i.Undefined ∷ i.Return ∷ [];
  operands = 1;
  handlers = (range 0 0 3 ∷ []);
})
unfolding functions writes_constructor mentions free captured gather places captures code statement
captured_catch_name = refl

-- try { 1; } catch { 2; }
catch_without_a_name : coded (t.more (t.Plain (t.Try (t.more (t.Value (t.Number (pos 1)) semi.Written) t.none) None (t.present (t.more (t.Value (t.Number (pos 2)) semi.Written) t.none)) t.absent)) t.none) 0 ≡ Some (record {
  instructions = i.Int (pos 1) ∷ i.Pop ∷ i.Jump 13 ∷ i.Pop ∷ i.Int (pos 2) ∷ i.Pop ∷ i.Jump 13 ∷ i.Undefined ∷ i.Return ∷ [];
  operands = 1;
  handlers = (range 0 3 6 ∷ []);
})
unfolding functions writes_constructor mentions free captured gather places captures code statement
catch_without_a_name = refl

-- function f(a) { try { a; } finally { a; } }
finally_alone : coded (t.more (t.Plain (t.FunctionStatement (t.FunctionOf 0 (Some (named_at 9 (codes "f"))) f.Plain ((named_at 11 (codes "a")) ∷ []) (t.BodyStatements (t.more (t.Try (t.more (t.Value (t.Name (named_at 22 (codes "a"))) semi.Written) t.none) None t.absent (t.present (t.more (t.Value (t.Name (named_at 37 (codes "a"))) semi.Written) t.none))) t.none))))) t.none) 1 ≡ Some (record {
  instructions = i.LocalGet 0 ∷ i.Pop ∷ i.Int (pos 0) ∷ i.LocalPut 1 ∷ i.Jump 20 ∷ i.LocalPut 2 ∷ i.Int (pos 1) ∷ i.LocalPut 1 ∷ i.LocalGet 0 ∷ i.Pop ∷ i.LocalGet 1 ∷ i.Int (pos 1) ∷ i.Binary 18 ∷ i.JumpUnless 38 ∷ i.LocalGet 2 ∷ i.Throw ∷ i.Undefined ∷ i.Return ∷ [];
  operands = 2;
  handlers = (range 0 12 12 ∷ []);
})
unfolding functions writes_constructor mentions free captured gather places captures code statement
finally_alone = refl

-- function f(a) { try { try { return a; } finally { 1; } } finally { 2; } }
return_through_two : coded (t.more (t.Plain (t.FunctionStatement (t.FunctionOf 0 (Some (named_at 9 (codes "f"))) f.Plain ((named_at 11 (codes "a")) ∷ []) (t.BodyStatements (t.more (t.Try (t.more (t.Try (t.more (t.Return 28 (t.present (t.Name (named_at 35 (codes "a")))) semi.Written) t.none) None t.absent (t.present (t.more (t.Value (t.Number (pos 1)) semi.Written) t.none))) t.none) None t.absent (t.present (t.more (t.Value (t.Number (pos 2)) semi.Written) t.none))) t.none))))) t.none) 1 ≡ Some (record {
  instructions = i.LocalGet 0 ∷ i.LocalPut 4 ∷ i.Int (pos 2) ∷ i.LocalPut 3 ∷ i.Jump 30 ∷ i.Int (pos 0) ∷ i.LocalPut 3 ∷ i.Jump 30 ∷ i.LocalPut 4 ∷ i.Int (pos 1) ∷ i.LocalPut 3 ∷ i.Int (pos 1) ∷ i.Pop ∷ i.LocalGet 3 ∷ i.Int (pos 1) ∷ i.Binary 18 ∷ i.JumpUnless 47 ∷ i.LocalGet 4 ∷ i.Throw ∷ i.LocalGet 3 ∷ i.Int (pos 2) ∷ i.Binary 18 ∷ i.JumpUnless 71 ∷ i.LocalGet 4 ∷ i.LocalPut 2 ∷ i.Int (pos 2) ∷ i.LocalPut 1 ∷ i.Jump 87 ∷ i.Int (pos 0) ∷ i.LocalPut 1 ∷ i.Jump 87 ∷ i.LocalPut 2 ∷ i.Int (pos 1) ∷ i.LocalPut 1 ∷ i.Int (pos 2) ∷ i.Pop ∷ i.LocalGet 1 ∷ i.Int (pos 1) ∷ i.Binary 18 ∷ i.JumpUnless 104 ∷ i.LocalGet 2 ∷ i.Throw ∷ i.LocalGet 1 ∷ i.Int (pos 2) ∷ i.Binary 18 ∷ i.JumpUnless 118 ∷ i.LocalGet 2 ∷ i.Return ∷ i.Undefined ∷ i.Return ∷ [];
  operands = 2;
  handlers = (range 0 22 22 ∷ range 0 79 79 ∷ []);
})
unfolding functions writes_constructor mentions free captured gather places captures code statement
return_through_two = refl

-- function f(a) { try { try { return 1; } finally { if (a) return 2; } } finally { } }
numbers_in_order_of_the_text : coded (t.more (t.Plain (t.FunctionStatement (t.FunctionOf 0 (Some (named_at 9 (codes "f"))) f.Plain ((named_at 11 (codes "a")) ∷ []) (t.BodyStatements (t.more (t.Try (t.more (t.Try (t.more (t.Return 28 (t.present (t.Number (pos 1))) semi.Written) t.none) None t.absent (t.present (t.more (t.If (t.Name (named_at 54 (codes "a"))) (t.Return 57 (t.present (t.Number (pos 2))) semi.Written) t.absent) t.none))) t.none) None t.absent (t.present t.none)) t.none))))) t.none) 1 ≡ Some (record {
  instructions = i.Int (pos 1) ∷ i.LocalPut 4 ∷ i.Int (pos 2) ∷ i.LocalPut 3 ∷ i.Jump 29 ∷ i.Int (pos 0) ∷ i.LocalPut 3 ∷ i.Jump 29 ∷ i.LocalPut 4 ∷ i.Int (pos 1) ∷ i.LocalPut 3 ∷ i.LocalGet 0 ∷ i.JumpUnless 48 ∷ i.Int (pos 2) ∷ i.LocalPut 2 ∷ i.Int (pos 3) ∷ i.LocalPut 1 ∷ i.Jump 102 ∷ i.LocalGet 3 ∷ i.Int (pos 1) ∷ i.Binary 18 ∷ i.JumpUnless 62 ∷ i.LocalGet 4 ∷ i.Throw ∷ i.LocalGet 3 ∷ i.Int (pos 2) ∷ i.Binary 18 ∷ i.JumpUnless 86 ∷ i.LocalGet 4 ∷ i.LocalPut 2 ∷ i.Int (pos 2) ∷ i.LocalPut 1 ∷ i.Jump 102 ∷ i.Int (pos 0) ∷ i.LocalPut 1 ∷ i.Jump 102 ∷ i.LocalPut 2 ∷ i.Int (pos 1) ∷ i.LocalPut 1 ∷ i.LocalGet 1 ∷ i.Int (pos 1) ∷ i.Binary 18 ∷ i.JumpUnless 116 ∷ i.LocalGet 2 ∷ i.Throw ∷ i.LocalGet 1 ∷ i.Int (pos 2) ∷ i.Binary 18 ∷ i.JumpUnless 130 ∷ i.LocalGet 2 ∷ i.Return ∷ i.LocalGet 1 ∷ i.Int (pos 3) ∷ i.Binary 18 ∷ i.JumpUnless 144 ∷ i.LocalGet 2 ∷ i.Return ∷ i.Undefined ∷ i.Return ∷ [];
  operands = 2;
  handlers = (range 0 21 21 ∷ range 0 94 94 ∷ []);
})
unfolding functions writes_constructor mentions free captured gather places captures code statement
numbers_in_order_of_the_text = refl

-- function f(a) { while (a) { try { if (a) break; continue; } catch { return; } finally { a; } } }
all_exits : coded (t.more (t.Plain (t.FunctionStatement (t.FunctionOf 0 (Some (named_at 9 (codes "f"))) f.Plain ((named_at 11 (codes "a")) ∷ []) (t.BodyStatements (t.more (t.While (t.Name (named_at 23 (codes "a"))) (t.Block (t.more (t.Try (t.more (t.If (t.Name (named_at 38 (codes "a"))) (t.Break 41 semi.Written) t.absent) (t.more (t.Continue 48 semi.Written) t.none)) None (t.present (t.more (t.Return 68 t.absent semi.Written) t.none)) (t.present (t.more (t.Value (t.Name (named_at 88 (codes "a"))) semi.Written) t.none))) t.none))) t.none))))) t.none) 1 ≡ Some (record {
  instructions = i.Turn ∷ i.LocalGet 0 ∷ i.JumpUnless 127 ∷ i.LocalGet 0 ∷ i.JumpUnless 21 ∷ i.Int (pos 2) ∷ i.LocalPut 1 ∷ i.Jump 66 ∷ i.Int (pos 3) ∷ i.LocalPut 1 ∷ i.Jump 66 ∷ i.Int (pos 0) ∷ i.LocalPut 1 ∷ i.Jump 66 ∷ i.Pop ∷ i.Undefined ∷ i.LocalPut 2 ∷ i.Int (pos 4) ∷ i.LocalPut 1 ∷ i.Jump 66 ∷ i.Int (pos 0) ∷ i.LocalPut 1 ∷ i.Jump 66 ∷ i.LocalPut 2 ∷ i.Int (pos 1) ∷ i.LocalPut 1 ∷ i.LocalGet 0 ∷ i.Pop ∷ i.LocalGet 1 ∷ i.Int (pos 1) ∷ i.Binary 18 ∷ i.JumpUnless 84 ∷ i.LocalGet 2 ∷ i.Throw ∷ i.LocalGet 1 ∷ i.Int (pos 2) ∷ i.Binary 18 ∷ i.JumpUnless 97 ∷ i.Jump 127 ∷ i.LocalGet 1 ∷ i.Int (pos 3) ∷ i.Binary 18 ∷ i.JumpUnless 110 ∷ i.Jump 0 ∷ i.LocalGet 1 ∷ i.Int (pos 4) ∷ i.Binary 18 ∷ i.JumpUnless 124 ∷ i.LocalGet 2 ∷ i.Return ∷ i.Jump 0 ∷ i.Undefined ∷ i.Return ∷ [];
  operands = 2;
  handlers = (range 7 29 37 ∷ range 7 58 58 ∷ []);
})
unfolding functions writes_constructor mentions free captured gather places captures code statement
all_exits = refl

-- function f(a) { try { while (a) break; } finally { while (a) { break; } } }
exits_that_stay_within : coded (t.more (t.Plain (t.FunctionStatement (t.FunctionOf 0 (Some (named_at 9 (codes "f"))) f.Plain ((named_at 11 (codes "a")) ∷ []) (t.BodyStatements (t.more (t.Try (t.more (t.While (t.Name (named_at 29 (codes "a"))) (t.Break 32 semi.Written)) t.none) None t.absent (t.present (t.more (t.While (t.Name (named_at 58 (codes "a"))) (t.Block (t.more (t.Break 63 semi.Written) t.none))) t.none))) t.none))))) t.none) 1 ≡ Some (record {
  instructions = i.Turn ∷ i.LocalGet 0 ∷ i.JumpUnless 13 ∷ i.Jump 13 ∷ i.Jump 0 ∷ i.Int (pos 0) ∷ i.LocalPut 1 ∷ i.Jump 29 ∷ i.LocalPut 2 ∷ i.Int (pos 1) ∷ i.LocalPut 1 ∷ i.Turn ∷ i.LocalGet 0 ∷ i.JumpUnless 42 ∷ i.Jump 42 ∷ i.Jump 29 ∷ i.LocalGet 1 ∷ i.Int (pos 1) ∷ i.Binary 18 ∷ i.JumpUnless 56 ∷ i.LocalGet 2 ∷ i.Throw ∷ i.Undefined ∷ i.Return ∷ [];
  operands = 2;
  handlers = (range 0 21 21 ∷ []);
})
unfolding functions writes_constructor mentions free captured gather places captures code statement
exits_that_stay_within = refl

-- function f(a) { while (a) { try { try { break; } finally { 1; } } finally { 2; } } }
break_through_two : coded (t.more (t.Plain (t.FunctionStatement (t.FunctionOf 0 (Some (named_at 9 (codes "f"))) f.Plain ((named_at 11 (codes "a")) ∷ []) (t.BodyStatements (t.more (t.While (t.Name (named_at 23 (codes "a"))) (t.Block (t.more (t.Try (t.more (t.Try (t.more (t.Break 40 semi.Written) t.none) None t.absent (t.present (t.more (t.Value (t.Number (pos 1)) semi.Written) t.none))) t.none) None t.absent (t.present (t.more (t.Value (t.Number (pos 2)) semi.Written) t.none))) t.none))) t.none))))) t.none) 1 ≡ Some (record {
  instructions = i.Turn ∷ i.LocalGet 0 ∷ i.JumpUnless 115 ∷ i.Int (pos 2) ∷ i.LocalPut 3 ∷ i.Jump 31 ∷ i.Int (pos 0) ∷ i.LocalPut 3 ∷ i.Jump 31 ∷ i.LocalPut 4 ∷ i.Int (pos 1) ∷ i.LocalPut 3 ∷ i.Int (pos 1) ∷ i.Pop ∷ i.LocalGet 3 ∷ i.Int (pos 1) ∷ i.Binary 18 ∷ i.JumpUnless 48 ∷ i.LocalGet 4 ∷ i.Throw ∷ i.LocalGet 3 ∷ i.Int (pos 2) ∷ i.Binary 18 ∷ i.JumpUnless 66 ∷ i.Int (pos 2) ∷ i.LocalPut 1 ∷ i.Jump 82 ∷ i.Int (pos 0) ∷ i.LocalPut 1 ∷ i.Jump 82 ∷ i.LocalPut 2 ∷ i.Int (pos 1) ∷ i.LocalPut 1 ∷ i.Int (pos 2) ∷ i.Pop ∷ i.LocalGet 1 ∷ i.Int (pos 1) ∷ i.Binary 18 ∷ i.JumpUnless 99 ∷ i.LocalGet 2 ∷ i.Throw ∷ i.LocalGet 1 ∷ i.Int (pos 2) ∷ i.Binary 18 ∷ i.JumpUnless 112 ∷ i.Jump 115 ∷ i.Jump 0 ∷ i.Undefined ∷ i.Return ∷ [];
  operands = 2;
  handlers = (range 7 23 23 ∷ range 7 74 74 ∷ []);
})
unfolding functions writes_constructor mentions free captured gather places captures code statement
break_through_two = refl

-- try { 1; } finally { try { 2; } catch { 3; } }
try_in_a_finally : coded (t.more (t.Plain (t.Try (t.more (t.Value (t.Number (pos 1)) semi.Written) t.none) None t.absent (t.present (t.more (t.Try (t.more (t.Value (t.Number (pos 2)) semi.Written) t.none) None (t.present (t.more (t.Value (t.Number (pos 3)) semi.Written) t.none)) t.absent) t.none)))) t.none) 0 ≡ Some (record {
  instructions = i.Int (pos 1) ∷ i.Pop ∷ i.Int (pos 0) ∷ i.LocalPut 0 ∷ i.Jump 19 ∷ i.LocalPut 1 ∷ i.Int (pos 1) ∷ i.LocalPut 0 ∷ i.Int (pos 2) ∷ i.Pop ∷ i.Jump 32 ∷ i.Pop ∷ i.Int (pos 3) ∷ i.Pop ∷ i.Jump 32 ∷ i.LocalGet 0 ∷ i.Int (pos 1) ∷ i.Binary 18 ∷ i.JumpUnless 46 ∷ i.LocalGet 1 ∷ i.Throw ∷ i.Undefined ∷ i.Return ∷ [];
  operands = 2;
  handlers = (range 19 22 25 ∷ range 0 11 11 ∷ []);
})
unfolding functions writes_constructor mentions free captured gather places captures code statement
try_in_a_finally = refl
