-- Rows of statements: each form, and how each completion leaves it.
use Rattle.std.proofs.Common.{◌≡◌, true, false, [], ◌∷◌, refl, codes, Some, None}
use Rattle.js_value.specs.Value.{Undefined}
use Rattle.es_model.specs.declared.kinds.BinaryOperator.TheVariants as b
use Rattle.es_model.specs.declared.kinds.Semi.TheVariants as semi
use Rattle.es_model.specs.Tree as t
use Rattle.es_ops.specs.Ledger.{Budget}
use Rattle.es_eval.proofs.Samples.{name, whole, one, two, statement, number, returns, returns_within, Gave, Threw, Halted, computing}

-- a body that returns nothing is undefined
nothing : returns (t.Empty ∷ []) ≡ Gave Undefined
unfolding computing
nothing = refl

-- return 5;
returned : returns (t.Return 0 (t.present ((whole 5))) semi.Written ∷ []) ≡ Gave (number 5)
unfolding computing
returned = refl

-- return;
returned_nothing : returns (t.Return 0 t.absent semi.Written ∷ []) ≡ Gave Undefined
unfolding computing
returned_nothing = refl

-- x = 1; x += 2; return x;
in_order : returns (statement (t.Assign 0 (name (codes "x")) None ((whole 1))) ∷ statement (t.Assign 0 (name (codes "x")) (Some b.Add) ((whole 2))) ∷ t.Return 0 (t.present ((name (codes "x")))) semi.Written ∷ []) ≡ Gave (number 3)
unfolding computing
in_order = refl

-- return 1; z;
behind_return : returns (t.Return 0 (t.present ((whole 1))) semi.Written ∷ statement ((name (codes "z"))) ∷ []) ≡ Gave (number 1)
unfolding computing
behind_return = refl

-- throw 9;
thrown : returns (t.Throw ((whole 9)) semi.Written ∷ []) ≡ Threw (number 9)
unfolding computing
thrown = refl

-- ---- blocks and conditions

-- { x = 1; } return x;
block : returns ((t.Block (t.listed (statement (t.Assign 0 (name (codes "x")) None ((whole 1))) ∷ []))) ∷ t.Return 0 (t.present ((name (codes "x")))) semi.Written ∷ []) ≡ Gave (number 1)
unfolding computing
block = refl

-- if (x) return 1;
if_true : returns (t.If (name (codes "x")) (t.Return 0 (t.present ((whole 1))) semi.Written) t.absent ∷ t.Return 0 (t.present ((whole 2))) semi.Written ∷ []) ≡ Gave (number 1)
unfolding computing
if_true = refl

-- if (null) return 1; return 2;
if_false : returns (t.If t.Null (t.Return 0 (t.present ((whole 1))) semi.Written) t.absent ∷ t.Return 0 (t.present ((whole 2))) semi.Written ∷ []) ≡ Gave (number 2)
unfolding computing
if_false = refl

-- if (null) return 1; else return 3;
if_else : returns (t.If t.Null (t.Return 0 (t.present ((whole 1))) semi.Written) (t.present (t.Return 0 (t.present ((whole 3))) semi.Written)) ∷ []) ≡ Gave (number 3)
unfolding computing
if_else = refl

-- ---- loops

-- while (x < 8) x += 1; return x;
while_loop : returns (t.While (t.Binary b.Less (name (codes "x")) (whole 8)) (statement (t.Assign 0 (name (codes "x")) (Some b.Add) ((whole 1)))) ∷ t.Return 0 (t.present ((name (codes "x")))) semi.Written ∷ []) ≡ Gave (number 8)
unfolding computing
while_loop = refl

-- while (true) { x += 1; break; } return x;
while_broken : returns (t.While t.True (t.Block (t.listed (statement (t.Assign 0 (name (codes "x")) (Some b.Add) ((whole 1))) ∷ t.Break 0 semi.Written ∷ []))) ∷ t.Return 0 (t.present ((name (codes "x")))) semi.Written ∷ []) ≡ Gave (number 6)
unfolding computing
while_broken = refl

-- while (x < 8) { x += 1; continue; z; } return x;
while_continued : returns (t.While (t.Binary b.Less (name (codes "x")) (whole 8)) (t.Block (t.listed (statement (t.Assign 0 (name (codes "x")) (Some b.Add) ((whole 1))) ∷ t.Continue 0 semi.Written ∷ statement ((name (codes "z"))) ∷ []))) ∷ t.Return 0 (t.present ((name (codes "x")))) semi.Written ∷ []) ≡ Gave (number 8)
unfolding computing
while_continued = refl

-- while (true) return 3;
while_returned : returns (t.While t.True (t.Return 0 (t.present ((whole 3))) semi.Written) ∷ []) ≡ Gave (number 3)
unfolding computing
while_returned = refl

-- while (true) throw 9;
while_thrown : returns (t.While t.True (t.Throw ((whole 9)) semi.Written) ∷ []) ≡ Threw (number 9)
unfolding computing
while_thrown = refl

-- do x += 1; while (x < 2); return x: a turn comes before the test
do_while : returns (t.DoWhile (statement (t.Assign 0 (name (codes "x")) (Some b.Add) ((whole 1)))) (t.Binary b.Less (name (codes "x")) (whole 2)) semi.Written ∷ t.Return 0 (t.present ((name (codes "x")))) semi.Written ∷ []) ≡ Gave (number 6)
unfolding computing
do_while = refl

-- do x += 1; while (x < 8); return x;
do_while_turns : returns (t.DoWhile (statement (t.Assign 0 (name (codes "x")) (Some b.Add) ((whole 1)))) (t.Binary b.Less (name (codes "x")) (whole 8)) semi.Written ∷ t.Return 0 (t.present ((name (codes "x")))) semi.Written ∷ []) ≡ Gave (number 8)
unfolding computing
do_while_turns = refl

-- for (x = 0; x < 3; x++) {} return x;
for_loop : returns (t.For (t.HeadValue (t.Assign 0 (name (codes "x")) None (whole 0))) (t.present (t.Binary b.Less (name (codes "x")) (whole 3))) (t.present (t.Update 0 true false (name (codes "x")))) t.Empty ∷ t.Return 0 (t.present ((name (codes "x")))) semi.Written ∷ []) ≡ Gave (number 3)
unfolding computing
for_loop = refl

-- for (;;) break; return 1;
for_without_parts : returns (t.For t.HeadNothing t.absent t.absent (t.Break 0 semi.Written) ∷ t.Return 0 (t.present ((whole 1))) semi.Written ∷ []) ≡ Gave (number 1)
unfolding computing
for_without_parts = refl

-- for (; x < 8; x++) continue; return x: the step comes behind a continue
for_continued : returns (t.For t.HeadNothing (t.present (t.Binary b.Less (name (codes "x")) (whole 8))) (t.present (t.Update 0 true false (name (codes "x")))) (t.Continue 0 semi.Written) ∷ t.Return 0 (t.present ((name (codes "x")))) semi.Written ∷ []) ≡ Gave (number 8)
unfolding computing
for_continued = refl

-- ---- `try`

-- try { x = 1; } catch { x = 2; } return x;
not_thrown : returns (t.Try (t.listed (statement (t.Assign 0 (name (codes "x")) None ((whole 1))) ∷ [])) None (t.present (t.listed (statement (t.Assign 0 (name (codes "x")) None ((whole 2))) ∷ []))) t.absent ∷ t.Return 0 (t.present ((name (codes "x")))) semi.Written ∷ []) ≡ Gave (number 1)
unfolding computing
not_thrown = refl

-- try { throw 9; } catch { return 2; }
caught_throw : returns (t.Try (t.listed (t.Throw ((whole 9)) semi.Written ∷ [])) None (t.present (t.listed (t.Return 0 (t.present ((whole 2))) semi.Written ∷ []))) t.absent ∷ []) ≡ Gave (number 2)
unfolding computing
caught_throw = refl

-- try { z; } catch { return 2; }
caught_fault : returns (t.Try (t.listed (statement ((name (codes "z"))) ∷ [])) None (t.present (t.listed (t.Return 0 (t.present ((whole 2))) semi.Written ∷ []))) t.absent ∷ []) ≡ Gave (number 2)
unfolding computing
caught_fault = refl

-- try { return 1; } catch { return 2; }
return_not_caught : returns (t.Try (t.listed (t.Return 0 (t.present ((whole 1))) semi.Written ∷ [])) None (t.present (t.listed (t.Return 0 (t.present ((whole 2))) semi.Written ∷ []))) t.absent ∷ []) ≡ Gave (number 1)
unfolding computing
return_not_caught = refl

-- try { return x; } finally { x = 2; }: the value is taken before
finally_after_return : returns (t.Try (t.listed (t.Return 0 (t.present ((name (codes "x")))) semi.Written ∷ [])) None t.absent (t.present (t.listed (statement (t.Assign 0 (name (codes "x")) None ((whole 2))) ∷ []))) ∷ []) ≡ Gave (number 5)
unfolding computing
finally_after_return = refl

-- try { throw 9; } finally { return 2; }
finally_replaces : returns (t.Try (t.listed (t.Throw ((whole 9)) semi.Written ∷ [])) None t.absent (t.present (t.listed (t.Return 0 (t.present ((whole 2))) semi.Written ∷ []))) ∷ []) ≡ Gave (number 2)
unfolding computing
finally_replaces = refl

-- try { throw 9; } finally { x = 2; }
finally_rethrows : returns (t.Try (t.listed (t.Throw ((whole 9)) semi.Written ∷ [])) None t.absent (t.present (t.listed (statement (t.Assign 0 (name (codes "x")) None ((whole 2))) ∷ []))) ∷ []) ≡ Threw (number 9)
unfolding computing
finally_rethrows = refl

-- try { throw 9; } catch { throw 8; } finally { x = 2; }
finally_after_catch : returns (t.Try (t.listed (t.Throw ((whole 9)) semi.Written ∷ [])) None (t.present (t.listed (t.Throw ((whole 8)) semi.Written ∷ []))) (t.present (t.listed (statement (t.Assign 0 (name (codes "x")) None ((whole 2))) ∷ []))) ∷ []) ≡ Threw (number 8)
unfolding computing
finally_after_catch = refl

-- ---- `switch`

-- switch (x) { case 5: return 1; default: return 2; }
first_case : returns (t.Switch (name (codes "x")) (two (t.CaseOf (t.present (whole 5)) (t.listed (t.Return 0 (t.present ((whole 1))) semi.Written ∷ []))) (t.CaseOf t.absent (t.listed (t.Return 0 (t.present ((whole 2))) semi.Written ∷ [])))) ∷ []) ≡ Gave (number 1)
unfolding computing
first_case = refl

-- switch (x) { default: return 2; case 4: return 1; }: the default comes where no case does
default_case : returns (t.Switch (name (codes "x")) (two (t.CaseOf t.absent (t.listed (t.Return 0 (t.present ((whole 2))) semi.Written ∷ []))) (t.CaseOf (t.present (whole 4)) (t.listed (t.Return 0 (t.present ((whole 1))) semi.Written ∷ [])))) ∷ []) ≡ Gave (number 2)
unfolding computing
default_case = refl

-- switch (x) { case 5: x = 1; case 6: x += 2; } return x;
falls_through : returns (t.Switch (name (codes "x")) (two (t.CaseOf (t.present (whole 5)) (t.listed (statement (t.Assign 0 (name (codes "x")) None ((whole 1))) ∷ []))) (t.CaseOf (t.present (whole 6)) (t.listed (statement (t.Assign 0 (name (codes "x")) (Some b.Add) ((whole 2))) ∷ [])))) ∷ t.Return 0 (t.present ((name (codes "x")))) semi.Written ∷ []) ≡ Gave (number 3)
unfolding computing
falls_through = refl

-- switch (x) { case 5: break; default: return 2; } return 3;
switch_broken : returns (t.Switch (name (codes "x")) (two (t.CaseOf (t.present (whole 5)) (t.listed (t.Break 0 semi.Written ∷ []))) (t.CaseOf t.absent (t.listed (t.Return 0 (t.present ((whole 2))) semi.Written ∷ [])))) ∷ t.Return 0 (t.present ((whole 3))) semi.Written ∷ []) ≡ Gave (number 3)
unfolding computing
switch_broken = refl

-- switch (x) { case 4: return 1; } return 3;
no_case : returns (t.Switch (name (codes "x")) (one (t.CaseOf (t.present (whole 4)) (t.listed (t.Return 0 (t.present ((whole 1))) semi.Written ∷ [])))) ∷ t.Return 0 (t.present ((whole 3))) semi.Written ∷ []) ≡ Gave (number 3)
unfolding computing
no_case = refl

-- ---- the meter: each turn takes a unit, and its stop is caught by nothing

-- while (x < 6) x += 1; with two units, one for the last test
last_unit : returns_within 2 (t.While (t.Binary b.Less (name (codes "x")) (whole 6)) (statement (t.Assign 0 (name (codes "x")) (Some b.Add) ((whole 1)))) ∷ []) ≡ Gave Undefined
unfolding computing
last_unit = refl

no_unit : returns_within 1 (t.While (t.Binary b.Less (name (codes "x")) (whole 6)) (statement (t.Assign 0 (name (codes "x")) (Some b.Add) ((whole 1)))) ∷ []) ≡ Halted Budget
unfolding computing
no_unit = refl

-- try { while (true) {} } catch { return 1; } finally { return 2; }
stop_not_caught : returns_within 2 (t.Try (t.listed (t.While t.True t.Empty ∷ [])) None (t.present (t.listed (t.Return 0 (t.present ((whole 1))) semi.Written ∷ []))) (t.present (t.listed (t.Return 0 (t.present ((whole 2))) semi.Written ∷ []))) ∷ []) ≡ Halted Budget
unfolding computing
stop_not_caught = refl
