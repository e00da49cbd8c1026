-- Worked rows of `early`. A mark in a row's text stands where the rule fails.
use Rattle.std.specs.Prelude.{◌≡◌, true, false, [], ◌∷◌, codes, pos, Some, None, refl}
use Rattle.es_model.specs.declared.kinds.Semi.TheVariants as semi
use Rattle.es_model.specs.declared.kinds.FunctionKind.TheVariants as f
use Rattle.es_model.specs.declared.kinds.MemberKind.TheVariants as m
use Rattle.es_model.specs.declared.faults.EarlyFault.TheVariants as e
use Rattle.es_model.specs.Tree as t
use Rattle.es_model.specs.Scopes.{gather}
use Rattle.es_model.specs.EarlyRules.{early, failures}
use Rattle.es_model.proofs.Rows.{named_at, pair_of}

-- let a; let ¦a;
one_scope : early (t.more (t.Plain (t.Declare false (t.more (t.DeclaratorOf (named_at 4 (codes "a")) t.absent) t.none) semi.Written)) (t.more (t.Plain (t.Declare false (t.more (t.DeclaratorOf (named_at 11 (codes "a")) t.absent) t.none) semi.Written)) t.none)) ≡ Some (e.DuplicateName 11)
unfolding failures gather
one_scope = refl

-- let a; { let a; }
two_scopes : early (t.more (t.Plain (t.Declare false (t.more (t.DeclaratorOf (named_at 4 (codes "a")) t.absent) t.none) semi.Written)) (t.more (t.Plain (t.Block (t.more (t.Declare false (t.more (t.DeclaratorOf (named_at 13 (codes "a")) t.absent) t.none) semi.Written) t.none))) t.none)) ≡ None
unfolding failures gather
two_scopes = refl

-- (a, ¦a) => a;
parameters_twice : early (t.more (t.Plain (t.Value (t.Function (t.FunctionOf 0 None f.Arrow ((named_at 1 (codes "a")) ∷ (named_at 4 (codes "a")) ∷ []) (t.BodyExpression (t.Name (named_at 10 (codes "a")))))) semi.Written)) t.none) ≡ Some (e.DuplicateName 4)
unfolding failures gather
parameters_twice = refl

-- function f(a) { let ¦a; }
parameter_and_body : early (t.more (t.Plain (t.FunctionStatement (t.FunctionOf 0 (Some (named_at 9 (codes "f"))) f.Plain ((named_at 11 (codes "a")) ∷ []) (t.BodyStatements (t.more (t.Declare false (t.more (t.DeclaratorOf (named_at 20 (codes "a")) t.absent) t.none) semi.Written) t.none))))) t.none) ≡ Some (e.DuplicateName 20)
unfolding failures gather
parameter_and_body = refl

-- function f(a) { { let a; } }
parameter_and_block : early (t.more (t.Plain (t.FunctionStatement (t.FunctionOf 0 (Some (named_at 9 (codes "f"))) f.Plain ((named_at 11 (codes "a")) ∷ []) (t.BodyStatements (t.more (t.Block (t.more (t.Declare false (t.more (t.DeclaratorOf (named_at 22 (codes "a")) t.absent) t.none) semi.Written) t.none)) t.none))))) t.none) ≡ None
unfolding failures gather
parameter_and_block = refl

-- try { } catch (e) { let ¦e; }
catch_and_block : early (t.more (t.Plain (t.Try t.none (Some (named_at 15 (codes "e"))) (t.present (t.more (t.Declare false (t.more (t.DeclaratorOf (named_at 24 (codes "e")) t.absent) t.none) semi.Written) t.none)) t.absent)) t.none) ≡ Some (e.DuplicateName 24)
unfolding failures gather
catch_and_block = refl

-- switch (1) { case 1: let a; default: let ¦a; }
cases_are_one_scope : early (t.more (t.Plain (t.Switch (t.Number (pos 1)) (t.more (t.CaseOf (t.present (t.Number (pos 1))) (t.more (t.Declare false (t.more (t.DeclaratorOf (named_at 25 (codes "a")) t.absent) t.none) semi.Written) t.none)) (t.more (t.CaseOf t.absent (t.more (t.Declare false (t.more (t.DeclaratorOf (named_at 41 (codes "a")) t.absent) t.none) semi.Written) t.none)) t.none)))) t.none) ≡ Some (e.DuplicateName 41)
unfolding failures gather
cases_are_one_scope = refl

-- { function f() {} function ¦f() {} }
functions_twice : early (t.more (t.Plain (t.Block (t.more (t.FunctionStatement (t.FunctionOf 2 (Some (named_at 11 (codes "f"))) f.Plain [] (t.BodyStatements t.none))) (t.more (t.FunctionStatement (t.FunctionOf 18 (Some (named_at 27 (codes "f"))) f.Plain [] (t.BodyStatements t.none))) t.none)))) t.none) ≡ Some (e.DuplicateName 27)
unfolding failures gather
functions_twice = refl

-- for (let i = 0;;) { let i; }
head_and_body : early (t.more (t.Plain (t.For (t.HeadDeclare false (t.more (t.DeclaratorOf (named_at 9 (codes "i")) (t.present (t.Number (pos 0)))) t.none)) t.absent t.absent (t.Block (t.more (t.Declare false (t.more (t.DeclaratorOf (named_at 24 (codes "i")) t.absent) t.none) semi.Written) t.none)))) t.none) ≡ None
unfolding failures gather
head_and_body = refl

-- for (let a, ¦a;;) ;
head_twice : early (t.more (t.Plain (t.For (t.HeadDeclare false (t.more (t.DeclaratorOf (named_at 9 (codes "a")) t.absent) (t.more (t.DeclaratorOf (named_at 12 (codes "a")) t.absent) t.none))) t.absent t.absent t.Empty)) t.none) ≡ Some (e.DuplicateName 12)
unfolding failures gather
head_twice = refl

-- import {a} from "m"; let ¦a;
import_and_binding : early (t.more (t.Import (codes "m") ((pair_of (named_at 8 (codes "a")) (named_at 8 (codes "a"))) ∷ []) semi.Written) (t.more (t.Plain (t.Declare false (t.more (t.DeclaratorOf (named_at 25 (codes "a")) t.absent) t.none) semi.Written)) t.none)) ≡ Some (e.DuplicateName 25)
unfolding failures gather
import_and_binding = refl

-- import {a} from "m"; import {b as ¦a} from "n";
imports_twice : early (t.more (t.Import (codes "m") ((pair_of (named_at 8 (codes "a")) (named_at 8 (codes "a"))) ∷ []) semi.Written) (t.more (t.Import (codes "n") ((pair_of (named_at 29 (codes "b")) (named_at 34 (codes "a"))) ∷ []) semi.Written) t.none)) ≡ Some (e.DuplicateName 34)
unfolding failures gather
imports_twice = refl

-- let f; (function f() {});
own_name_and_binding : early (t.more (t.Plain (t.Declare false (t.more (t.DeclaratorOf (named_at 4 (codes "f")) t.absent) t.none) semi.Written)) (t.more (t.Plain (t.Value (t.Paren (t.Function (t.FunctionOf 8 (Some (named_at 17 (codes "f"))) f.Plain [] (t.BodyStatements t.none)))) semi.Written)) t.none)) ≡ None
unfolding failures gather
own_name_and_binding = refl

-- export let a; export {¦a};
exported_twice : early (t.more (t.ExportDeclaration (t.Declare false (t.more (t.DeclaratorOf (named_at 11 (codes "a")) t.absent) t.none) semi.Written)) (t.more (t.ExportNames ((pair_of (named_at 22 (codes "a")) (named_at 22 (codes "a"))) ∷ []) semi.Written) t.none)) ≡ Some (e.DuplicateExport 22)
unfolding failures gather
exported_twice = refl

-- export default 1; export ¦default 2;
defaults_twice : early (t.more (t.ExportDefault 7 (t.DefaultValue (t.Number (pos 1))) semi.Written) (t.more (t.ExportDefault 25 (t.DefaultValue (t.Number (pos 2))) semi.Written) t.none)) ≡ Some (e.DuplicateExport 25)
unfolding failures gather
defaults_twice = refl

-- let a; export default 1; export {a as ¦default};
default_and_name : early (t.more (t.Plain (t.Declare false (t.more (t.DeclaratorOf (named_at 4 (codes "a")) t.absent) t.none) semi.Written)) (t.more (t.ExportDefault 14 (t.DefaultValue (t.Number (pos 1))) semi.Written) (t.more (t.ExportNames ((pair_of (named_at 33 (codes "a")) (named_at 38 (codes "default"))) ∷ []) semi.Written) t.none))) ≡ Some (e.DuplicateExport 38)
unfolding failures gather
default_and_name = refl

-- export {a} from "m"; export {b as ¦a} from "n";
exported_from_twice : early (t.more (t.ExportFrom (codes "m") ((pair_of (named_at 8 (codes "a")) (named_at 8 (codes "a"))) ∷ []) semi.Written) (t.more (t.ExportFrom (codes "n") ((pair_of (named_at 29 (codes "b")) (named_at 34 (codes "a"))) ∷ []) semi.Written) t.none)) ≡ Some (e.DuplicateExport 34)
unfolding failures gather
exported_from_twice = refl

-- export { ¦a };
exported_undeclared : early (t.more (t.ExportNames ((pair_of (named_at 9 (codes "a")) (named_at 9 (codes "a"))) ∷ []) semi.Written) t.none) ≡ Some (e.ExportUndeclared 9)
unfolding failures gather
exported_undeclared = refl

-- export {¦a as b};
exported_undeclared_as : early (t.more (t.ExportNames ((pair_of (named_at 8 (codes "a")) (named_at 13 (codes "b"))) ∷ []) semi.Written) t.none) ≡ Some (e.ExportUndeclared 8)
unfolding failures gather
exported_undeclared_as = refl

-- { let a; } export {¦a};
exported_of_block : early (t.more (t.Plain (t.Block (t.more (t.Declare false (t.more (t.DeclaratorOf (named_at 6 (codes "a")) t.absent) t.none) semi.Written) t.none))) (t.more (t.ExportNames ((pair_of (named_at 19 (codes "a")) (named_at 19 (codes "a"))) ∷ []) semi.Written) t.none)) ≡ Some (e.ExportUndeclared 19)
unfolding failures gather
exported_of_block = refl

-- export {a} from "m";
exported_from_undeclared : early (t.more (t.ExportFrom (codes "m") ((pair_of (named_at 8 (codes "a")) (named_at 8 (codes "a"))) ∷ []) semi.Written) t.none) ≡ None
unfolding failures gather
exported_from_undeclared = refl

-- let a; export { a };
exported_declared : early (t.more (t.Plain (t.Declare false (t.more (t.DeclaratorOf (named_at 4 (codes "a")) t.absent) t.none) semi.Written)) (t.more (t.ExportNames ((pair_of (named_at 16 (codes "a")) (named_at 16 (codes "a"))) ∷ []) semi.Written) t.none)) ≡ None
unfolding failures gather
exported_declared = refl

-- import {a} from "m"; export { a };
exported_import : early (t.more (t.Import (codes "m") ((pair_of (named_at 8 (codes "a")) (named_at 8 (codes "a"))) ∷ []) semi.Written) (t.more (t.ExportNames ((pair_of (named_at 30 (codes "a")) (named_at 30 (codes "a"))) ∷ []) semi.Written) t.none)) ≡ None
unfolding failures gather
exported_import = refl

-- export { ¦eval };
exported_reserved : early (t.more (t.ExportNames ((pair_of (named_at 9 (codes "eval")) (named_at 9 (codes "eval"))) ∷ []) semi.Written) t.none) ≡ Some (e.ExportUndeclared 9)
unfolding failures gather
exported_reserved = refl

-- ¦arguments;
reserved_reference : early (t.more (t.Plain (t.Value (t.Name (named_at 0 (codes "arguments"))) semi.Written)) t.none) ≡ Some (e.ReservedName 0)
unfolding failures gather
reserved_reference = refl

-- let ¦eval;
reserved_binding : early (t.more (t.Plain (t.Declare false (t.more (t.DeclaratorOf (named_at 4 (codes "eval")) t.absent) t.none) semi.Written)) t.none) ≡ Some (e.ReservedName 4)
unfolding failures gather
reserved_binding = refl

-- (¦NaN) => 1;
reserved_parameter : early (t.more (t.Plain (t.Value (t.Function (t.FunctionOf 0 None f.Arrow ((named_at 1 (codes "NaN")) ∷ []) (t.BodyExpression (t.Number (pos 1))))) semi.Written)) t.none) ≡ Some (e.ReservedName 1)
unfolding failures gather
reserved_parameter = refl

-- try { } catch (¦Infinity) { }
reserved_catch : early (t.more (t.Plain (t.Try t.none (Some (named_at 15 (codes "Infinity"))) (t.present t.none) t.absent)) t.none) ≡ Some (e.ReservedName 15)
unfolding failures gather
reserved_catch = refl

-- import {a as ¦eval} from "m";
reserved_import : early (t.more (t.Import (codes "m") ((pair_of (named_at 8 (codes "a")) (named_at 13 (codes "eval"))) ∷ []) semi.Written) t.none) ≡ Some (e.ReservedName 13)
unfolding failures gather
reserved_import = refl

-- import {eval as a} from "m";
reserved_in_other_module : early (t.more (t.Import (codes "m") ((pair_of (named_at 8 (codes "eval")) (named_at 16 (codes "a"))) ∷ []) semi.Written) t.none) ≡ None
unfolding failures gather
reserved_in_other_module = refl

-- class ¦arguments { }
reserved_class : early (t.more (t.Plain (t.ClassStatement (t.ClassOf 0 (Some (named_at 6 (codes "arguments"))) t.absent t.none))) t.none) ≡ Some (e.ReservedName 6)
unfolding failures gather
reserved_class = refl

-- function ¦NaN() { }
reserved_function : early (t.more (t.Plain (t.FunctionStatement (t.FunctionOf 0 (Some (named_at 9 (codes "NaN"))) f.Plain [] (t.BodyStatements t.none)))) t.none) ≡ Some (e.ReservedName 9)
unfolding failures gather
reserved_function = refl

-- ({ ¦globalThis });
reserved_short : early (t.more (t.Plain (t.Value (t.Paren (t.Object (t.more (t.MemberOf 3 false m.Short (t.KeyWord (codes "globalThis")) t.absent t.absent) t.none))) semi.Written)) t.none) ≡ Some (e.ReservedName 3)
unfolding failures gather
reserved_short = refl

-- ({ eval: 1 }).eval;
reserved_key : early (t.more (t.Plain (t.Value (t.Dot (t.Paren (t.Object (t.more (t.MemberOf 3 false m.Value (t.KeyWord (codes "eval")) (t.present (t.Number (pos 1))) t.absent) t.none))) (codes "eval")) semi.Written)) t.none) ≡ None
unfolding failures gather
reserved_key = refl

-- ({ ¦__proto__: 1 });
prototype_value : early (t.more (t.Plain (t.Value (t.Paren (t.Object (t.more (t.MemberOf 3 false m.Value (t.KeyWord (codes "__proto__")) (t.present (t.Number (pos 1))) t.absent) t.none))) semi.Written)) t.none) ≡ Some (e.ReservedName 3)
unfolding failures gather
prototype_value = refl

-- ({ ¦"__proto__": 1 });
prototype_text : early (t.more (t.Plain (t.Value (t.Paren (t.Object (t.more (t.MemberOf 3 false m.Value (t.KeyString (codes "__proto__")) (t.present (t.Number (pos 1))) t.absent) t.none))) semi.Written)) t.none) ≡ Some (e.ReservedName 3)
unfolding failures gather
prototype_text = refl

-- ({ __proto__() {} });
prototype_method : early (t.more (t.Plain (t.Value (t.Paren (t.Object (t.more (t.MemberOf 3 false m.Method (t.KeyWord (codes "__proto__")) t.absent (t.present (t.FunctionOf 3 None f.Method [] (t.BodyStatements t.none)))) t.none))) semi.Written)) t.none) ≡ None
unfolding failures gather
prototype_method = refl

-- ¦x = 1;
global_assigned : early (t.more (t.Plain (t.Value (t.Assign 0 (t.Name (named_at 0 (codes "x"))) None (t.Number (pos 1))) semi.Written)) t.none) ≡ Some (e.GlobalAssigned 0)
unfolding failures gather
global_assigned = refl

-- let x; x = 1;
bound_assigned : early (t.more (t.Plain (t.Declare false (t.more (t.DeclaratorOf (named_at 4 (codes "x")) t.absent) t.none) semi.Written)) (t.more (t.Plain (t.Value (t.Assign 7 (t.Name (named_at 7 (codes "x"))) None (t.Number (pos 1))) semi.Written)) t.none)) ≡ None
unfolding failures gather
bound_assigned = refl

-- ¦(x)++;
updated_in_parentheses : early (t.more (t.Plain (t.Value (t.Update 0 true false (t.Paren (t.Name (named_at 1 (codes "x"))))) semi.Written)) t.none) ≡ Some (e.GlobalAssigned 0)
unfolding failures gather
updated_in_parentheses = refl

-- { let y; } ¦y = 1;
assigned_outside : early (t.more (t.Plain (t.Block (t.more (t.Declare false (t.more (t.DeclaratorOf (named_at 6 (codes "y")) t.absent) t.none) semi.Written) t.none))) (t.more (t.Plain (t.Value (t.Assign 11 (t.Name (named_at 11 (codes "y"))) None (t.Number (pos 1))) semi.Written)) t.none)) ≡ Some (e.GlobalAssigned 11)
unfolding failures gather
assigned_outside = refl

-- (a) => a = 1;
parameter_assigned : early (t.more (t.Plain (t.Value (t.Function (t.FunctionOf 0 None f.Arrow ((named_at 1 (codes "a")) ∷ []) (t.BodyExpression (t.Assign 7 (t.Name (named_at 7 (codes "a"))) None (t.Number (pos 1)))))) semi.Written)) t.none) ≡ None
unfolding failures gather
parameter_assigned = refl

-- ¦eval = 1;
reserved_assigned : early (t.more (t.Plain (t.Value (t.Assign 0 (t.Name (named_at 0 (codes "eval"))) None (t.Number (pos 1))) semi.Written)) t.none) ≡ Some (e.ReservedName 0)
unfolding failures gather
reserved_assigned = refl

-- ¦++eval;
reserved_updated : early (t.more (t.Plain (t.Value (t.Update 0 true true (t.Name (named_at 2 (codes "eval")))) semi.Written)) t.none) ≡ Some (e.GlobalAssigned 0)
unfolding failures gather
reserved_updated = refl

-- ¦(eval) = 1;
reserved_in_parentheses : early (t.more (t.Plain (t.Value (t.Assign 0 (t.Paren (t.Name (named_at 1 (codes "eval")))) None (t.Number (pos 1))) semi.Written)) t.none) ≡ Some (e.GlobalAssigned 0)
unfolding failures gather
reserved_in_parentheses = refl

-- ¦break;
break_outside : early (t.more (t.Plain (t.Break 0 semi.Written)) t.none) ≡ Some (e.StrayBreak 0)
unfolding failures gather
break_outside = refl

-- while (1) { break; }
break_in_loop : early (t.more (t.Plain (t.While (t.Number (pos 1)) (t.Block (t.more (t.Break 12 semi.Written) t.none)))) t.none) ≡ None
unfolding failures gather
break_in_loop = refl

-- switch (1) { default: break; }
break_in_switch : early (t.more (t.Plain (t.Switch (t.Number (pos 1)) (t.more (t.CaseOf t.absent (t.more (t.Break 22 semi.Written) t.none)) t.none))) t.none) ≡ None
unfolding failures gather
break_in_switch = refl

-- while (1) { () => { ¦break; }; }
break_in_function : early (t.more (t.Plain (t.While (t.Number (pos 1)) (t.Block (t.more (t.Value (t.Function (t.FunctionOf 12 None f.Arrow [] (t.BodyStatements (t.more (t.Break 20 semi.Written) t.none)))) semi.Written) t.none)))) t.none) ≡ Some (e.StrayBreak 20)
unfolding failures gather
break_in_function = refl

-- switch (1) { default: ¦continue; }
continue_in_switch : early (t.more (t.Plain (t.Switch (t.Number (pos 1)) (t.more (t.CaseOf t.absent (t.more (t.Continue 22 semi.Written) t.none)) t.none))) t.none) ≡ Some (e.StrayContinue 22)
unfolding failures gather
continue_in_switch = refl

-- do { if (1) continue; } while (1);
continue_in_loop : early (t.more (t.Plain (t.DoWhile (t.Block (t.more (t.If (t.Number (pos 1)) (t.Continue 12 semi.Written) t.absent) t.none)) (t.Number (pos 1)) semi.Written)) t.none) ≡ None
unfolding failures gather
continue_in_loop = refl

-- for (;;) continue;
continue_in_for : early (t.more (t.Plain (t.For t.HeadNothing t.absent t.absent (t.Continue 9 semi.Written))) t.none) ≡ None
unfolding failures gather
continue_in_for = refl

-- while (1) { () => { ¦continue; }; }
continue_in_function : early (t.more (t.Plain (t.While (t.Number (pos 1)) (t.Block (t.more (t.Value (t.Function (t.FunctionOf 12 None f.Arrow [] (t.BodyStatements (t.more (t.Continue 20 semi.Written) t.none)))) semi.Written) t.none)))) t.none) ≡ Some (e.StrayContinue 20)
unfolding failures gather
continue_in_function = refl

-- { ¦return; }
return_outside : early (t.more (t.Plain (t.Block (t.more (t.Return 2 t.absent semi.Written) t.none))) t.none) ≡ Some (e.StrayReturn 2)
unfolding failures gather
return_outside = refl

-- () => { return; };
return_inside : early (t.more (t.Plain (t.Value (t.Function (t.FunctionOf 0 None f.Arrow [] (t.BodyStatements (t.more (t.Return 8 t.absent semi.Written) t.none)))) semi.Written)) t.none) ≡ None
unfolding failures gather
return_inside = refl

-- ¦super.x;
super_outside : early (t.more (t.Plain (t.Value (t.SuperDot 0 (codes "x")) semi.Written)) t.none) ≡ Some (e.StraySuper 0)
unfolding failures gather
super_outside = refl

-- ({ m() { super.x; } });
super_in_method : early (t.more (t.Plain (t.Value (t.Paren (t.Object (t.more (t.MemberOf 3 false m.Method (t.KeyWord (codes "m")) t.absent (t.present (t.FunctionOf 3 None f.Method [] (t.BodyStatements (t.more (t.Value (t.SuperDot 9 (codes "x")) semi.Written) t.none))))) t.none))) semi.Written)) t.none) ≡ None
unfolding failures gather
super_in_method = refl

-- ({ get a() { return super.x; } });
super_in_getter : early (t.more (t.Plain (t.Value (t.Paren (t.Object (t.more (t.MemberOf 3 false m.Getter (t.KeyWord (codes "a")) t.absent (t.present (t.FunctionOf 3 None f.Getter [] (t.BodyStatements (t.more (t.Return 13 (t.present (t.SuperDot 20 (codes "x"))) semi.Written) t.none))))) t.none))) semi.Written)) t.none) ≡ None
unfolding failures gather
super_in_getter = refl

-- class A { static set a(b) { super.x; } }
super_in_setter : early (t.more (t.Plain (t.ClassStatement (t.ClassOf 0 (Some (named_at 6 (codes "A"))) t.absent (t.more (t.MemberOf 10 true m.Setter (t.KeyWord (codes "a")) t.absent (t.present (t.FunctionOf 10 None f.Setter ((named_at 23 (codes "b")) ∷ []) (t.BodyStatements (t.more (t.Value (t.SuperDot 28 (codes "x")) semi.Written) t.none))))) t.none)))) t.none) ≡ None
unfolding failures gather
super_in_setter = refl

-- ({ m() { () => ¦super.x; } });
super_in_arrow : early (t.more (t.Plain (t.Value (t.Paren (t.Object (t.more (t.MemberOf 3 false m.Method (t.KeyWord (codes "m")) t.absent (t.present (t.FunctionOf 3 None f.Method [] (t.BodyStatements (t.more (t.Value (t.Function (t.FunctionOf 9 None f.Arrow [] (t.BodyExpression (t.SuperDot 15 (codes "x"))))) semi.Written) t.none))))) t.none))) semi.Written)) t.none) ≡ Some (e.StraySuper 15)
unfolding failures gather
super_in_arrow = refl

-- function f() { ¦super.x; }
super_in_function : early (t.more (t.Plain (t.FunctionStatement (t.FunctionOf 0 (Some (named_at 9 (codes "f"))) f.Plain [] (t.BodyStatements (t.more (t.Value (t.SuperDot 15 (codes "x")) semi.Written) t.none))))) t.none) ≡ Some (e.StraySuper 15)
unfolding failures gather
super_in_function = refl

-- ({ m() { (function () { ¦super.x; }); } });
super_in_function_of_method : early (t.more (t.Plain (t.Value (t.Paren (t.Object (t.more (t.MemberOf 3 false m.Method (t.KeyWord (codes "m")) t.absent (t.present (t.FunctionOf 3 None f.Method [] (t.BodyStatements (t.more (t.Value (t.Paren (t.Function (t.FunctionOf 10 None f.Plain [] (t.BodyStatements (t.more (t.Value (t.SuperDot 24 (codes "x")) semi.Written) t.none))))) semi.Written) t.none))))) t.none))) semi.Written)) t.none) ≡ Some (e.StraySuper 24)
unfolding failures gather
super_in_function_of_method = refl

-- class A { constructor() { ¦super(); } }
super_call_in_base : early (t.more (t.Plain (t.ClassStatement (t.ClassOf 0 (Some (named_at 6 (codes "A"))) t.absent (t.more (t.MemberOf 10 false m.Method (t.KeyWord (codes "constructor")) t.absent (t.present (t.FunctionOf 10 None f.Base [] (t.BodyStatements (t.more (t.Value (t.SuperCall 26 t.none) semi.Written) t.none))))) t.none)))) t.none) ≡ Some (e.StraySuper 26)
unfolding failures gather
super_call_in_base = refl

-- class A extends Error { constructor() { super(); } }
super_call_in_derived : early (t.more (t.Plain (t.ClassStatement (t.ClassOf 0 (Some (named_at 6 (codes "A"))) (t.present (t.Name (named_at 16 (codes "Error")))) (t.more (t.MemberOf 24 false m.Method (t.KeyWord (codes "constructor")) t.absent (t.present (t.FunctionOf 24 None f.Derived [] (t.BodyStatements (t.more (t.Value (t.SuperCall 40 t.none) semi.Written) t.none))))) t.none)))) t.none) ≡ None
unfolding failures gather
super_call_in_derived = refl

-- class A extends Error { constructor() { () => ¦super(); } }
super_call_in_arrow : early (t.more (t.Plain (t.ClassStatement (t.ClassOf 0 (Some (named_at 6 (codes "A"))) (t.present (t.Name (named_at 16 (codes "Error")))) (t.more (t.MemberOf 24 false m.Method (t.KeyWord (codes "constructor")) t.absent (t.present (t.FunctionOf 24 None f.Derived [] (t.BodyStatements (t.more (t.Value (t.Function (t.FunctionOf 40 None f.Arrow [] (t.BodyExpression (t.SuperCall 46 t.none)))) semi.Written) t.none))))) t.none)))) t.none) ≡ Some (e.StraySuper 46)
unfolding failures gather
super_call_in_arrow = refl

-- class A extends Error { m() { ¦super(); } }
super_call_in_method : early (t.more (t.Plain (t.ClassStatement (t.ClassOf 0 (Some (named_at 6 (codes "A"))) (t.present (t.Name (named_at 16 (codes "Error")))) (t.more (t.MemberOf 24 false m.Method (t.KeyWord (codes "m")) t.absent (t.present (t.FunctionOf 24 None f.Method [] (t.BodyStatements (t.more (t.Value (t.SuperCall 30 t.none) semi.Written) t.none))))) t.none)))) t.none) ≡ Some (e.StraySuper 30)
unfolding failures gather
super_call_in_method = refl

-- class A { constructor() { super[0]; } }
super_in_base : early (t.more (t.Plain (t.ClassStatement (t.ClassOf 0 (Some (named_at 6 (codes "A"))) t.absent (t.more (t.MemberOf 10 false m.Method (t.KeyWord (codes "constructor")) t.absent (t.present (t.FunctionOf 10 None f.Base [] (t.BodyStatements (t.more (t.Value (t.SuperIndex 26 (t.Number (pos 0))) semi.Written) t.none))))) t.none)))) t.none) ≡ None
unfolding failures gather
super_in_base = refl

-- ¦delete a;
name_deleted : early (t.more (t.Plain (t.Value (t.Delete 0 (t.Name (named_at 7 (codes "a")))) semi.Written)) t.none) ≡ Some (e.DeleteName 0)
unfolding failures gather
name_deleted = refl

-- ¦delete (a);
name_in_parentheses_deleted : early (t.more (t.Plain (t.Value (t.Delete 0 (t.Paren (t.Name (named_at 8 (codes "a"))))) semi.Written)) t.none) ≡ Some (e.DeleteName 0)
unfolding failures gather
name_in_parentheses_deleted = refl

-- delete (a.b);
member_deleted : early (t.more (t.Plain (t.Value (t.Delete 0 (t.Paren (t.Dot (t.Name (named_at 8 (codes "a"))) (codes "b")))) semi.Written)) t.none) ≡ None
unfolding failures gather
member_deleted = refl

-- ({ m() { ¦delete super.x; } });
super_deleted : early (t.more (t.Plain (t.Value (t.Paren (t.Object (t.more (t.MemberOf 3 false m.Method (t.KeyWord (codes "m")) t.absent (t.present (t.FunctionOf 3 None f.Method [] (t.BodyStatements (t.more (t.Value (t.Delete 9 (t.SuperDot 16 (codes "x"))) semi.Written) t.none))))) t.none))) semi.Written)) t.none) ≡ Some (e.DeleteName 9)
unfolding failures gather
super_deleted = refl

-- ({ m() { ¦delete super[0]; } });
super_key_deleted : early (t.more (t.Plain (t.Value (t.Paren (t.Object (t.more (t.MemberOf 3 false m.Method (t.KeyWord (codes "m")) t.absent (t.present (t.FunctionOf 3 None f.Method [] (t.BodyStatements (t.more (t.Value (t.Delete 9 (t.SuperIndex 16 (t.Number (pos 0)))) semi.Written) t.none))))) t.none))) semi.Written)) t.none) ≡ Some (e.DeleteName 9)
unfolding failures gather
super_key_deleted = refl

-- ({ m() { delete super[0].x; } });
key_deleted : early (t.more (t.Plain (t.Value (t.Paren (t.Object (t.more (t.MemberOf 3 false m.Method (t.KeyWord (codes "m")) t.absent (t.present (t.FunctionOf 3 None f.Method [] (t.BodyStatements (t.more (t.Value (t.Delete 9 (t.Dot (t.SuperIndex 16 (t.Number (pos 0))) (codes "x"))) semi.Written) t.none))))) t.none))) semi.Written)) t.none) ≡ None
unfolding failures gather
key_deleted = refl

-- class A { constructor() {} ¦constructor() {} }
constructors : early (t.more (t.Plain (t.ClassStatement (t.ClassOf 0 (Some (named_at 6 (codes "A"))) t.absent (t.more (t.MemberOf 10 false m.Method (t.KeyWord (codes "constructor")) t.absent (t.present (t.FunctionOf 10 None f.Base [] (t.BodyStatements t.none)))) (t.more (t.MemberOf 27 false m.Method (t.KeyWord (codes "constructor")) t.absent (t.present (t.FunctionOf 27 None f.Base [] (t.BodyStatements t.none)))) t.none))))) t.none) ≡ Some (e.DuplicateConstructor 27)
unfolding failures gather
constructors = refl

-- class A { ¦get constructor() {} }
constructor_accessor : early (t.more (t.Plain (t.ClassStatement (t.ClassOf 0 (Some (named_at 6 (codes "A"))) t.absent (t.more (t.MemberOf 10 false m.Getter (t.KeyWord (codes "constructor")) t.absent (t.present (t.FunctionOf 10 None f.Getter [] (t.BodyStatements t.none)))) t.none)))) t.none) ≡ Some (e.DuplicateConstructor 10)
unfolding failures gather
constructor_accessor = refl

-- class A { ¦static prototype() {} }
static_prototype : early (t.more (t.Plain (t.ClassStatement (t.ClassOf 0 (Some (named_at 6 (codes "A"))) t.absent (t.more (t.MemberOf 10 true m.Method (t.KeyWord (codes "prototype")) t.absent (t.present (t.FunctionOf 10 None f.Method [] (t.BodyStatements t.none)))) t.none)))) t.none) ≡ Some (e.DuplicateConstructor 10)
unfolding failures gather
static_prototype = refl

-- class A { ¦static get prototype() { } }
static_prototype_getter : early (t.more (t.Plain (t.ClassStatement (t.ClassOf 0 (Some (named_at 6 (codes "A"))) t.absent (t.more (t.MemberOf 10 true m.Getter (t.KeyWord (codes "prototype")) t.absent (t.present (t.FunctionOf 10 None f.Getter [] (t.BodyStatements t.none)))) t.none)))) t.none) ≡ Some (e.DuplicateConstructor 10)
unfolding failures gather
static_prototype_getter = refl

-- class A { prototype() { } }
prototype_method_of_class : early (t.more (t.Plain (t.ClassStatement (t.ClassOf 0 (Some (named_at 6 (codes "A"))) t.absent (t.more (t.MemberOf 10 false m.Method (t.KeyWord (codes "prototype")) t.absent (t.present (t.FunctionOf 10 None f.Method [] (t.BodyStatements t.none)))) t.none)))) t.none) ≡ None
unfolding failures gather
prototype_method_of_class = refl

-- class A { static ["prototype"]() { } }
static_prototype_computed : early (t.more (t.Plain (t.ClassStatement (t.ClassOf 0 (Some (named_at 6 (codes "A"))) t.absent (t.more (t.MemberOf 10 true m.Method (t.KeyComputed (t.String (codes "prototype"))) t.absent (t.present (t.FunctionOf 10 None f.Method [] (t.BodyStatements t.none)))) t.none)))) t.none) ≡ None
unfolding failures gather
static_prototype_computed = refl

-- class A { static constructor() {} constructor() {} }
static_constructor : early (t.more (t.Plain (t.ClassStatement (t.ClassOf 0 (Some (named_at 6 (codes "A"))) t.absent (t.more (t.MemberOf 10 true m.Method (t.KeyWord (codes "constructor")) t.absent (t.present (t.FunctionOf 10 None f.Method [] (t.BodyStatements t.none)))) (t.more (t.MemberOf 34 false m.Method (t.KeyWord (codes "constructor")) t.absent (t.present (t.FunctionOf 34 None f.Base [] (t.BodyStatements t.none)))) t.none))))) t.none) ≡ None
unfolding failures gather
static_constructor = refl

-- class A { ["constructor"]() {} constructor() {} }
computed_constructor : early (t.more (t.Plain (t.ClassStatement (t.ClassOf 0 (Some (named_at 6 (codes "A"))) t.absent (t.more (t.MemberOf 10 false m.Method (t.KeyComputed (t.String (codes "constructor"))) t.absent (t.present (t.FunctionOf 10 None f.Method [] (t.BodyStatements t.none)))) (t.more (t.MemberOf 31 false m.Method (t.KeyWord (codes "constructor")) t.absent (t.present (t.FunctionOf 31 None f.Base [] (t.BodyStatements t.none)))) t.none))))) t.none) ≡ None
unfolding failures gather
computed_constructor = refl

-- ({ ¦get 0() {} });
index_accessor : early (t.more (t.Plain (t.Value (t.Paren (t.Object (t.more (t.MemberOf 3 false m.Getter (t.KeyNumber (pos 0)) t.absent (t.present (t.FunctionOf 3 None f.Getter [] (t.BodyStatements t.none)))) t.none))) semi.Written)) t.none) ≡ Some (e.IndexAccessor 3)
unfolding failures gather
index_accessor = refl

-- class A { ¦static set "4294967294"(a) {} }
index_text : early (t.more (t.Plain (t.ClassStatement (t.ClassOf 0 (Some (named_at 6 (codes "A"))) t.absent (t.more (t.MemberOf 10 true m.Setter (t.KeyString (codes "4294967294")) t.absent (t.present (t.FunctionOf 10 None f.Setter ((named_at 34 (codes "a")) ∷ []) (t.BodyStatements t.none)))) t.none)))) t.none) ≡ Some (e.IndexAccessor 10)
unfolding failures gather
index_text = refl

-- ({ get "01"() {}, get 4294967295() {}, get [0]() {} });
no_index : early (t.more (t.Plain (t.Value (t.Paren (t.Object (t.more (t.MemberOf 3 false m.Getter (t.KeyString (codes "01")) t.absent (t.present (t.FunctionOf 3 None f.Getter [] (t.BodyStatements t.none)))) (t.more (t.MemberOf 18 false m.Getter (t.KeyNumber (pos 4294967295)) t.absent (t.present (t.FunctionOf 18 None f.Getter [] (t.BodyStatements t.none)))) (t.more (t.MemberOf 39 false m.Getter (t.KeyComputed (t.Number (pos 0))) t.absent (t.present (t.FunctionOf 39 None f.Getter [] (t.BodyStatements t.none)))) t.none))))) semi.Written)) t.none) ≡ None
unfolding failures gather
no_index = refl

-- ({ 0() {} });
index_method : early (t.more (t.Plain (t.Value (t.Paren (t.Object (t.more (t.MemberOf 3 false m.Method (t.KeyNumber (pos 0)) t.absent (t.present (t.FunctionOf 3 None f.Method [] (t.BodyStatements t.none)))) t.none))) semi.Written)) t.none) ≡ None
unfolding failures gather
index_method = refl

-- ¦break; let a; let a;
least_place_first : early (t.more (t.Plain (t.Break 0 semi.Written)) (t.more (t.Plain (t.Declare false (t.more (t.DeclaratorOf (named_at 11 (codes "a")) t.absent) t.none) semi.Written)) (t.more (t.Plain (t.Declare false (t.more (t.DeclaratorOf (named_at 18 (codes "a")) t.absent) t.none) semi.Written)) t.none))) ≡ Some (e.StrayBreak 0)
unfolding failures gather
least_place_first = refl
