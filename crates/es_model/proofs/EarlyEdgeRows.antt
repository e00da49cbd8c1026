-- More worked rows of `early`, at the edges of each rule. A mark in a row's text stands where the rule fails.
use Rattle.std.specs.Prelude.{◌≡◌, false, [], ◌∷◌, codes, pos, Some, None, refl}
use Rattle.es_model.specs.declared.kinds.Semi.TheVariants as semi
use Rattle.es_model.specs.declared.kinds.FunctionKind.TheVariants as f
use Rattle.es_model.specs.declared.kinds.MemberKind.TheVariants as m
use Rattle.es_model.specs.declared.faults.EarlyFault.TheVariants as e
use Rattle.es_model.specs.Tree as t
use Rattle.es_model.specs.Scopes.{gather}
use Rattle.es_model.specs.EarlyRules.{early, failures}
use Rattle.es_model.proofs.Rows.{named_at, pair_of}

-- let a; export {a as b};
exported_under_another_name : early (t.more (t.Plain (t.Declare false (t.more (t.DeclaratorOf (named_at 4 (codes "a")) t.absent) t.none) semi.Written)) (t.more (t.ExportNames ((pair_of (named_at 15 (codes "a")) (named_at 20 (codes "b"))) ∷ []) semi.Written) t.none)) ≡ None
unfolding failures gather
exported_under_another_name = refl

-- let a; export {a, ¦b};
second_of_two_exports : early (t.more (t.Plain (t.Declare false (t.more (t.DeclaratorOf (named_at 4 (codes "a")) t.absent) t.none) semi.Written)) (t.more (t.ExportNames ((pair_of (named_at 15 (codes "a")) (named_at 15 (codes "a"))) ∷ (pair_of (named_at 18 (codes "b")) (named_at 18 (codes "b"))) ∷ []) semi.Written) t.none)) ≡ Some (e.ExportUndeclared 18)
unfolding failures gather
second_of_two_exports = refl

-- (a, ¦eval) => 1;
reserved_second_parameter : early (t.more (t.Plain (t.Value (t.Function (t.FunctionOf 0 None f.Arrow ((named_at 1 (codes "a")) ∷ (named_at 4 (codes "eval")) ∷ []) (t.BodyExpression (t.Number (pos 1))))) semi.Written)) t.none) ≡ Some (e.ReservedName 4)
unfolding failures gather
reserved_second_parameter = refl

-- x.y = 1;
assigned_property : early (t.more (t.Plain (t.Value (t.Assign 0 (t.Dot (t.Name (named_at 0 (codes "x"))) (codes "y")) None (t.Number (pos 1))) semi.Written)) t.none) ≡ None
unfolding failures gather
assigned_property = refl

-- ¦super();
super_call_at_the_top : early (t.more (t.Plain (t.Value (t.SuperCall 0 t.none) semi.Written)) t.none) ≡ Some (e.StraySuper 0)
unfolding failures gather
super_call_at_the_top = refl

-- ¦super[1];
super_index_at_the_top : early (t.more (t.Plain (t.Value (t.SuperIndex 0 (t.Number (pos 1))) semi.Written)) t.none) ≡ Some (e.StraySuper 0)
unfolding failures gather
super_index_at_the_top = refl

-- class A extends Object { constructor() { super.x; } }
super_in_a_constructor : early (t.more (t.Plain (t.ClassStatement (t.ClassOf 0 (Some (named_at 6 (codes "A"))) (t.present (t.Name (named_at 16 (codes "Object")))) (t.more (t.MemberOf 25 false m.Method (t.KeyWord (codes "constructor")) t.absent (t.present (t.FunctionOf 25 None f.Derived [] (t.BodyStatements (t.more (t.Value (t.SuperDot 41 (codes "x")) semi.Written) t.none))))) t.none)))) t.none) ≡ None
unfolding failures gather
super_in_a_constructor = refl

-- try { let a; let ¦a; } catch {}
twice_in_a_tried_block : early (t.more (t.Plain (t.Try (t.more (t.Declare false (t.more (t.DeclaratorOf (named_at 10 (codes "a")) t.absent) t.none) semi.Written) (t.more (t.Declare false (t.more (t.DeclaratorOf (named_at 17 (codes "a")) t.absent) t.none) semi.Written) t.none)) None (t.present t.none) t.absent)) t.none) ≡ Some (e.DuplicateName 17)
unfolding failures gather
twice_in_a_tried_block = refl

-- try {} finally { let a; let ¦a; }
twice_in_a_finally : early (t.more (t.Plain (t.Try t.none None t.absent (t.present (t.more (t.Declare false (t.more (t.DeclaratorOf (named_at 21 (codes "a")) t.absent) t.none) semi.Written) (t.more (t.Declare false (t.more (t.DeclaratorOf (named_at 28 (codes "a")) t.absent) t.none) semi.Written) t.none))))) t.none) ≡ Some (e.DuplicateName 28)
unfolding failures gather
twice_in_a_finally = refl

-- ({get ""(){}});
accessor_with_an_empty_key : early (t.more (t.Plain (t.Value (t.Paren (t.Object (t.more (t.MemberOf 2 false m.Getter (t.KeyString []) t.absent (t.present (t.FunctionOf 2 None f.Getter [] (t.BodyStatements t.none)))) t.none))) semi.Written)) t.none) ≡ None
unfolding failures gather
accessor_with_an_empty_key = refl

-- ({get "1a"(){}});
accessor_with_digits_and_a_letter : early (t.more (t.Plain (t.Value (t.Paren (t.Object (t.more (t.MemberOf 2 false m.Getter (t.KeyString (codes "1a")) t.absent (t.present (t.FunctionOf 2 None f.Getter [] (t.BodyStatements t.none)))) t.none))) semi.Written)) t.none) ≡ None
unfolding failures gather
accessor_with_digits_and_a_letter = refl

-- ({get "4294967295"(){}});
accessor_past_the_last_index : early (t.more (t.Plain (t.Value (t.Paren (t.Object (t.more (t.MemberOf 2 false m.Getter (t.KeyString (codes "4294967295")) t.absent (t.present (t.FunctionOf 2 None f.Getter [] (t.BodyStatements t.none)))) t.none))) semi.Written)) t.none) ≡ None
unfolding failures gather
accessor_past_the_last_index = refl

-- ({¦get 4294967294(){}});
accessor_at_the_last_index : early (t.more (t.Plain (t.Value (t.Paren (t.Object (t.more (t.MemberOf 2 false m.Getter (t.KeyNumber (pos 4294967294)) t.absent (t.present (t.FunctionOf 2 None f.Getter [] (t.BodyStatements t.none)))) t.none))) semi.Written)) t.none) ≡ Some (e.IndexAccessor 2)
unfolding failures gather
accessor_at_the_last_index = refl

-- export let a; export let ¦a;
name_before_export : early (t.more (t.ExportDeclaration (t.Declare false (t.more (t.DeclaratorOf (named_at 11 (codes "a")) t.absent) t.none) semi.Written)) (t.more (t.ExportDeclaration (t.Declare false (t.more (t.DeclaratorOf (named_at 25 (codes "a")) t.absent) t.none) semi.Written)) t.none)) ≡ Some (e.DuplicateName 25)
unfolding failures gather
name_before_export = refl

-- let y; export {y as z, ¦z};
export_before_undeclared : early (t.more (t.Plain (t.Declare false (t.more (t.DeclaratorOf (named_at 4 (codes "y")) t.absent) t.none) semi.Written)) (t.more (t.ExportNames ((pair_of (named_at 15 (codes "y")) (named_at 20 (codes "z"))) ∷ (pair_of (named_at 23 (codes "z")) (named_at 23 (codes "z"))) ∷ []) semi.Written) t.none)) ≡ Some (e.DuplicateExport 23)
unfolding failures gather
export_before_undeclared = refl
