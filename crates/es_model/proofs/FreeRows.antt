-- Worked rows of the places of mentions, of captures, of the cells of `this` and of the counts.
use Rattle.std.specs.Prelude.{◌≡◌, ℕ, suc, Bool, true, false, List, [], ◌∷◌, codes, pos, Option, Some, None, refl}
use Rattle.es_model.specs.declared.kinds.Semi.TheVariants as semi
use Rattle.es_model.specs.declared.kinds.FunctionKind.TheVariants as f
use Rattle.es_model.specs.declared.kinds.MemberKind.TheVariants as m
use Rattle.es_model.specs.declared.kinds.BinaryOperator.TheVariants as b
use Rattle.es_model.specs.declared.place.Capture.{Capture}
use Rattle.es_model.specs.declared.place.Place.{Place}
use Rattle.es_model.specs.declared.place.Place.TheVariants.{Local, Boxed, Outer, Import, Global, Unbound}
use Rattle.es_model.specs.Tree as t
use Rattle.es_model.specs.Tree.{Tree}
use Rattle.es_model.specs.Scopes.{Enclosing, Binding, Top, Inner, Receiver, gather}
use Rattle.es_model.specs.Functions.{functions, writes_constructor, function_count}
use Rattle.es_model.specs.FreeNames.{global_names, Mention, mentions, free, captured, places, place_of_mention, place_count, this_cell, captures}
use Rattle.es_model.proofs.Rows.{named_at, pair_of}

-- the places of all mentions, in order
abbrev placed_from : Tree (t.list t.item) → ℕ → List Mention → List (Option Place)
placed_from items number [] = []
placed_from items number (one ∷ rest) = place_of_mention items number ∷ placed_from items (suc number) rest

abbrev placed : Tree (t.list t.item) → List (Option Place)
placed items = placed_from items 0 (mentions items)

abbrev capture : Bool → ℕ → Capture
capture outer at = record { outer = outer; at = at }

-- let a = 1; a;
abbrev top_level_text : Tree (t.list t.item)
top_level_text = (t.more (t.Plain (t.Declare false (t.more (t.DeclaratorOf (named_at 4 (codes "a")) (t.present (t.Number (pos 1)))) t.none) semi.Written)) (t.more (t.Plain (t.Value (t.Name (named_at 11 (codes "a"))) semi.Written)) t.none))

top_level : placed top_level_text ≡ (Some (Outer 0) ∷ Some (Outer 0) ∷ [])
unfolding gather functions writes_constructor mentions free captured places place_of_mention place_count this_cell captures
top_level = refl

-- { let a = 1; a; }
abbrev in_block_text : Tree (t.list t.item)
in_block_text = (t.more (t.Plain (t.Block (t.more (t.Declare false (t.more (t.DeclaratorOf (named_at 6 (codes "a")) (t.present (t.Number (pos 1)))) t.none) semi.Written) (t.more (t.Value (t.Name (named_at 13 (codes "a"))) semi.Written) t.none)))) t.none)

in_block : placed in_block_text ≡ (Some (Local 0) ∷ Some (Local 0) ∷ [])
unfolding gather functions writes_constructor mentions free captured places place_of_mention place_count this_cell captures
in_block = refl

-- { let a = 1; () => a; }
abbrev closed_over_text : Tree (t.list t.item)
closed_over_text = (t.more (t.Plain (t.Block (t.more (t.Declare false (t.more (t.DeclaratorOf (named_at 6 (codes "a")) (t.present (t.Number (pos 1)))) t.none) semi.Written) (t.more (t.Value (t.Function (t.FunctionOf 13 None f.Arrow [] (t.BodyExpression (t.Name (named_at 19 (codes "a")))))) semi.Written) t.none)))) t.none)

closed_over : placed closed_over_text ≡ (Some (Boxed 0) ∷ Some (Outer 0) ∷ [])
unfolding gather functions writes_constructor mentions free captured places place_of_mention place_count this_cell captures
closed_over = refl

closed_over_captures_1 : captures closed_over_text 1 ≡ (capture false 0 ∷ [])
unfolding gather functions writes_constructor mentions free captured places place_of_mention place_count this_cell captures
closed_over_captures_1 = refl

-- const fs = []; for (let i = 0; i < 3; i = i + 1) fs.push(() => i); export { fs };
abbrev closures_in_loop_text : Tree (t.list t.item)
closures_in_loop_text = (t.more (t.Plain (t.Declare true (t.more (t.DeclaratorOf (named_at 6 (codes "fs")) (t.present (t.Array t.none))) t.none) semi.Written)) (t.more (t.Plain (t.For (t.HeadDeclare false (t.more (t.DeclaratorOf (named_at 24 (codes "i")) (t.present (t.Number (pos 0)))) t.none)) (t.present (t.Binary b.Less (t.Name (named_at 31 (codes "i"))) (t.Number (pos 3)))) (t.present (t.Assign 38 (t.Name (named_at 38 (codes "i"))) None (t.Binary b.Add (t.Name (named_at 42 (codes "i"))) (t.Number (pos 1))))) (t.Value (t.Call (t.Dot (t.Name (named_at 49 (codes "fs"))) (codes "push")) (t.more (t.Function (t.FunctionOf 57 None f.Arrow [] (t.BodyExpression (t.Name (named_at 63 (codes "i")))))) t.none)) semi.Written))) (t.more (t.ExportNames ((pair_of (named_at 76 (codes "fs")) (named_at 76 (codes "fs"))) ∷ []) semi.Written) t.none)))

closures_in_loop : placed closures_in_loop_text ≡ (Some (Outer 0) ∷ Some (Boxed 0) ∷ Some (Boxed 0) ∷ Some (Boxed 0) ∷ Some (Boxed 0) ∷ Some (Outer 0) ∷ Some (Outer 0) ∷ [])
unfolding gather functions writes_constructor mentions free captured places place_of_mention place_count this_cell captures
closures_in_loop = refl

closures_in_loop_captures_1 : captures closures_in_loop_text 1 ≡ (capture false 0 ∷ [])
unfolding gather functions writes_constructor mentions free captured places place_of_mention place_count this_cell captures
closures_in_loop_captures_1 = refl

-- function f(a) { () => this; }
abbrev this_of_arrow_text : Tree (t.list t.item)
this_of_arrow_text = (t.more (t.Plain (t.FunctionStatement (t.FunctionOf 0 (Some (named_at 9 (codes "f"))) f.Plain ((named_at 11 (codes "a")) ∷ []) (t.BodyStatements (t.more (t.Value (t.Function (t.FunctionOf 16 None f.Arrow [] (t.BodyExpression t.This))) semi.Written) t.none))))) t.none)

this_of_arrow : placed this_of_arrow_text ≡ (Some (Outer 0) ∷ Some (Local 0) ∷ Some (Outer 0) ∷ [])
unfolding gather functions writes_constructor mentions free captured places place_of_mention place_count this_cell captures
this_of_arrow = refl

this_of_arrow_captures_1 : captures this_of_arrow_text 1 ≡ []
unfolding gather functions writes_constructor mentions free captured places place_of_mention place_count this_cell captures
this_of_arrow_captures_1 = refl

this_of_arrow_captures_2 : captures this_of_arrow_text 2 ≡ (capture false 1 ∷ [])
unfolding gather functions writes_constructor mentions free captured places place_of_mention place_count this_cell captures
this_of_arrow_captures_2 = refl

-- () => this; this;
abbrev this_of_module_text : Tree (t.list t.item)
this_of_module_text = (t.more (t.Plain (t.Value (t.Function (t.FunctionOf 0 None f.Arrow [] (t.BodyExpression t.This))) semi.Written)) (t.more (t.Plain (t.Value t.This semi.Written)) t.none))

this_of_module : placed this_of_module_text ≡ (Some (Outer 0) ∷ [])
unfolding gather functions writes_constructor mentions free captured places place_of_mention place_count this_cell captures
this_of_module = refl

this_of_module_captures_1 : captures this_of_module_text 1 ≡ (capture false 0 ∷ [])
unfolding gather functions writes_constructor mentions free captured places place_of_mention place_count this_cell captures
this_of_module_captures_1 = refl

-- { let a; () => () => a; }
abbrev through_functions_text : Tree (t.list t.item)
through_functions_text = (t.more (t.Plain (t.Block (t.more (t.Declare false (t.more (t.DeclaratorOf (named_at 6 (codes "a")) t.absent) t.none) semi.Written) (t.more (t.Value (t.Function (t.FunctionOf 9 None f.Arrow [] (t.BodyExpression (t.Function (t.FunctionOf 15 None f.Arrow [] (t.BodyExpression (t.Name (named_at 21 (codes "a"))))))))) semi.Written) t.none)))) t.none)

through_functions : placed through_functions_text ≡ (Some (Boxed 0) ∷ Some (Outer 0) ∷ [])
unfolding gather functions writes_constructor mentions free captured places place_of_mention place_count this_cell captures
through_functions = refl

through_functions_captures_1 : captures through_functions_text 1 ≡ (capture false 0 ∷ [])
unfolding gather functions writes_constructor mentions free captured places place_of_mention place_count this_cell captures
through_functions_captures_1 = refl

through_functions_captures_2 : captures through_functions_text 2 ≡ (capture true 0 ∷ [])
unfolding gather functions writes_constructor mentions free captured places place_of_mention place_count this_cell captures
through_functions_captures_2 = refl

-- let a; let b; () => b;
abbrev top_in_function_text : Tree (t.list t.item)
top_in_function_text = (t.more (t.Plain (t.Declare false (t.more (t.DeclaratorOf (named_at 4 (codes "a")) t.absent) t.none) semi.Written)) (t.more (t.Plain (t.Declare false (t.more (t.DeclaratorOf (named_at 11 (codes "b")) t.absent) t.none) semi.Written)) (t.more (t.Plain (t.Value (t.Function (t.FunctionOf 14 None f.Arrow [] (t.BodyExpression (t.Name (named_at 20 (codes "b")))))) semi.Written)) t.none)))

top_in_function : placed top_in_function_text ≡ (Some (Outer 0) ∷ Some (Outer 1) ∷ Some (Outer 0) ∷ [])
unfolding gather functions writes_constructor mentions free captured places place_of_mention place_count this_cell captures
top_in_function = refl

top_in_function_captures_1 : captures top_in_function_text 1 ≡ (capture true 1 ∷ [])
unfolding gather functions writes_constructor mentions free captured places place_of_mention place_count this_cell captures
top_in_function_captures_1 = refl

-- let a; let b; () => { b; a; b; };
abbrev first_mention_first_text : Tree (t.list t.item)
first_mention_first_text = (t.more (t.Plain (t.Declare false (t.more (t.DeclaratorOf (named_at 4 (codes "a")) t.absent) t.none) semi.Written)) (t.more (t.Plain (t.Declare false (t.more (t.DeclaratorOf (named_at 11 (codes "b")) t.absent) t.none) semi.Written)) (t.more (t.Plain (t.Value (t.Function (t.FunctionOf 14 None f.Arrow [] (t.BodyStatements (t.more (t.Value (t.Name (named_at 22 (codes "b"))) semi.Written) (t.more (t.Value (t.Name (named_at 25 (codes "a"))) semi.Written) (t.more (t.Value (t.Name (named_at 28 (codes "b"))) semi.Written) t.none)))))) semi.Written)) t.none)))

first_mention_first : placed first_mention_first_text ≡ (Some (Outer 0) ∷ Some (Outer 1) ∷ Some (Outer 0) ∷ Some (Outer 1) ∷ Some (Outer 0) ∷ [])
unfolding gather functions writes_constructor mentions free captured places place_of_mention place_count this_cell captures
first_mention_first = refl

first_mention_first_captures_1 : captures first_mention_first_text 1 ≡ (capture true 1 ∷ capture true 0 ∷ [])
unfolding gather functions writes_constructor mentions free captured places place_of_mention place_count this_cell captures
first_mention_first_captures_1 = refl

-- import {p} from "m"; let a; p; () => p;
abbrev imported_text : Tree (t.list t.item)
imported_text = (t.more (t.Import (codes "m") ((pair_of (named_at 8 (codes "p")) (named_at 8 (codes "p"))) ∷ []) semi.Written) (t.more (t.Plain (t.Declare false (t.more (t.DeclaratorOf (named_at 25 (codes "a")) t.absent) t.none) semi.Written)) (t.more (t.Plain (t.Value (t.Name (named_at 28 (codes "p"))) semi.Written)) (t.more (t.Plain (t.Value (t.Function (t.FunctionOf 31 None f.Arrow [] (t.BodyExpression (t.Name (named_at 37 (codes "p")))))) semi.Written)) t.none))))

imported : placed imported_text ≡ (Some (Import 1) ∷ Some (Outer 0) ∷ Some (Import 1) ∷ Some (Import 0) ∷ [])
unfolding gather functions writes_constructor mentions free captured places place_of_mention place_count this_cell captures
imported = refl

imported_captures_1 : captures imported_text 1 ≡ (capture true 1 ∷ [])
unfolding gather functions writes_constructor mentions free captured places place_of_mention place_count this_cell captures
imported_captures_1 = refl

-- try { } catch (e) { e; () => e; }
abbrev catch_name_text : Tree (t.list t.item)
catch_name_text = (t.more (t.Plain (t.Try t.none (Some (named_at 15 (codes "e"))) (t.present (t.more (t.Value (t.Name (named_at 20 (codes "e"))) semi.Written) (t.more (t.Value (t.Function (t.FunctionOf 23 None f.Arrow [] (t.BodyExpression (t.Name (named_at 29 (codes "e")))))) semi.Written) t.none))) t.absent)) t.none)

catch_name : placed catch_name_text ≡ (Some (Boxed 0) ∷ Some (Boxed 0) ∷ Some (Outer 0) ∷ [])
unfolding gather functions writes_constructor mentions free captured places place_of_mention place_count this_cell captures
catch_name = refl

catch_name_captures_1 : captures catch_name_text 1 ≡ (capture false 0 ∷ [])
unfolding gather functions writes_constructor mentions free captured places place_of_mention place_count this_cell captures
catch_name_captures_1 = refl

-- try { } finally { let a; }
abbrev finally_temporaries_text : Tree (t.list t.item)
finally_temporaries_text = (t.more (t.Plain (t.Try t.none None t.absent (t.present (t.more (t.Declare false (t.more (t.DeclaratorOf (named_at 22 (codes "a")) t.absent) t.none) semi.Written) t.none)))) t.none)

finally_temporaries : placed finally_temporaries_text ≡ (Some (Local 0) ∷ Some (Local 1) ∷ Some (Local 2) ∷ [])
unfolding gather functions writes_constructor mentions free captured places place_of_mention place_count this_cell captures
finally_temporaries = refl

-- switch (1) { case 1: let a; }
abbrev switch_temporary_text : Tree (t.list t.item)
switch_temporary_text = (t.more (t.Plain (t.Switch (t.Number (pos 1)) (t.more (t.CaseOf (t.present (t.Number (pos 1))) (t.more (t.Declare false (t.more (t.DeclaratorOf (named_at 25 (codes "a")) t.absent) t.none) semi.Written) t.none)) t.none))) t.none)

switch_temporary : placed switch_temporary_text ≡ (Some (Local 0) ∷ Some (Local 1) ∷ [])
unfolding gather functions writes_constructor mentions free captured places place_of_mention place_count this_cell captures
switch_temporary = refl

-- class A { m() { A; } }
abbrev class_name_text : Tree (t.list t.item)
class_name_text = (t.more (t.Plain (t.ClassStatement (t.ClassOf 0 (Some (named_at 6 (codes "A"))) t.absent (t.more (t.MemberOf 10 false m.Method (t.KeyWord (codes "m")) t.absent (t.present (t.FunctionOf 10 None f.Method [] (t.BodyStatements (t.more (t.Value (t.Name (named_at 16 (codes "A"))) semi.Written) t.none))))) t.none)))) t.none)

class_name : placed class_name_text ≡ (Some (Outer 0) ∷ Some (Boxed 0) ∷ Some (Outer 0) ∷ [])
unfolding gather functions writes_constructor mentions free captured places place_of_mention place_count this_cell captures
class_name = refl

class_name_captures_1 : captures class_name_text 1 ≡ []
unfolding gather functions writes_constructor mentions free captured places place_of_mention place_count this_cell captures
class_name_captures_1 = refl

class_name_captures_2 : captures class_name_text 2 ≡ (capture false 0 ∷ [])
unfolding gather functions writes_constructor mentions free captured places place_of_mention place_count this_cell captures
class_name_captures_2 = refl

-- (class A { });
abbrev class_expression_name_text : Tree (t.list t.item)
class_expression_name_text = (t.more (t.Plain (t.Value (t.Paren (t.Class (t.ClassOf 1 (Some (named_at 7 (codes "A"))) t.absent t.none))) semi.Written)) t.none)

class_expression_name : placed class_expression_name_text ≡ (Some (Local 0) ∷ [])
unfolding gather functions writes_constructor mentions free captured places place_of_mention place_count this_cell captures
class_expression_name = refl

class_expression_name_captures_1 : captures class_expression_name_text 1 ≡ []
unfolding gather functions writes_constructor mentions free captured places place_of_mention place_count this_cell captures
class_expression_name_captures_1 = refl

-- (function f() { f; });
abbrev function_expression_name_text : Tree (t.list t.item)
function_expression_name_text = (t.more (t.Plain (t.Value (t.Paren (t.Function (t.FunctionOf 1 (Some (named_at 10 (codes "f"))) f.Plain [] (t.BodyStatements (t.more (t.Value (t.Name (named_at 16 (codes "f"))) semi.Written) t.none))))) semi.Written)) t.none)

function_expression_name : placed function_expression_name_text ≡ (Some (Boxed 0) ∷ Some (Outer 0) ∷ [])
unfolding gather functions writes_constructor mentions free captured places place_of_mention place_count this_cell captures
function_expression_name = refl

function_expression_name_captures_1 : captures function_expression_name_text 1 ≡ (capture false 0 ∷ [])
unfolding gather functions writes_constructor mentions free captured places place_of_mention place_count this_cell captures
function_expression_name_captures_1 = refl

-- ({ [() => a](b) { b; } });
abbrev method_before_key_text : Tree (t.list t.item)
method_before_key_text = (t.more (t.Plain (t.Value (t.Paren (t.Object (t.more (t.MemberOf 3 false m.Method (t.KeyComputed (t.Function (t.FunctionOf 4 None f.Arrow [] (t.BodyExpression (t.Name (named_at 10 (codes "a"))))))) t.absent (t.present (t.FunctionOf 3 None f.Method ((named_at 13 (codes "b")) ∷ []) (t.BodyStatements (t.more (t.Value (t.Name (named_at 18 (codes "b"))) semi.Written) t.none))))) t.none))) semi.Written)) t.none)

method_before_key : placed method_before_key_text ≡ (Some Unbound ∷ Some (Local 0) ∷ Some (Local 0) ∷ [])
unfolding gather functions writes_constructor mentions free captured places place_of_mention place_count this_cell captures
method_before_key = refl

method_before_key_captures_1 : captures method_before_key_text 1 ≡ []
unfolding gather functions writes_constructor mentions free captured places place_of_mention place_count this_cell captures
method_before_key_captures_1 = refl

method_before_key_captures_2 : captures method_before_key_text 2 ≡ []
unfolding gather functions writes_constructor mentions free captured places place_of_mention place_count this_cell captures
method_before_key_captures_2 = refl

-- undefined; Array; x; typeof x;
abbrev globals_text : Tree (t.list t.item)
globals_text = (t.more (t.Plain (t.Value (t.Name (named_at 0 (codes "undefined"))) semi.Written)) (t.more (t.Plain (t.Value (t.Name (named_at 11 (codes "Array"))) semi.Written)) (t.more (t.Plain (t.Value (t.Name (named_at 18 (codes "x"))) semi.Written)) (t.more (t.Plain (t.Value (t.Typeof (t.Name (named_at 28 (codes "x")))) semi.Written)) t.none))))

globals : placed globals_text ≡ (Some (Global 0) ∷ Some (Global 14) ∷ Some Unbound ∷ Some Unbound ∷ [])
unfolding gather functions writes_constructor mentions free captured places place_of_mention place_count this_cell captures
globals = refl

-- export default 1; let a;
abbrev default_export_text : Tree (t.list t.item)
default_export_text = (t.more (t.ExportDefault 7 (t.DefaultValue (t.Number (pos 1))) semi.Written) (t.more (t.Plain (t.Declare false (t.more (t.DeclaratorOf (named_at 22 (codes "a")) t.absent) t.none) semi.Written)) t.none))

default_export : placed default_export_text ≡ (Some (Outer 0) ∷ Some (Outer 1) ∷ [])
unfolding gather functions writes_constructor mentions free captured places place_of_mention place_count this_cell captures
default_export = refl

-- let a; ({ a, b });
abbrev short_member_text : Tree (t.list t.item)
short_member_text = (t.more (t.Plain (t.Declare false (t.more (t.DeclaratorOf (named_at 4 (codes "a")) t.absent) t.none) semi.Written)) (t.more (t.Plain (t.Value (t.Paren (t.Object (t.more (t.MemberOf 10 false m.Short (t.KeyWord (codes "a")) t.absent t.absent) (t.more (t.MemberOf 13 false m.Short (t.KeyWord (codes "b")) t.absent t.absent) t.none)))) semi.Written)) t.none))

short_member : placed short_member_text ≡ (Some (Outer 0) ∷ Some (Outer 0) ∷ Some Unbound ∷ [])
unfolding gather functions writes_constructor mentions free captured places place_of_mention place_count this_cell captures
short_member = refl

-- let a; { let a; a; } a;
abbrev hidden_text : Tree (t.list t.item)
hidden_text = (t.more (t.Plain (t.Declare false (t.more (t.DeclaratorOf (named_at 4 (codes "a")) t.absent) t.none) semi.Written)) (t.more (t.Plain (t.Block (t.more (t.Declare false (t.more (t.DeclaratorOf (named_at 13 (codes "a")) t.absent) t.none) semi.Written) (t.more (t.Value (t.Name (named_at 16 (codes "a"))) semi.Written) t.none)))) (t.more (t.Plain (t.Value (t.Name (named_at 21 (codes "a"))) semi.Written)) t.none)))

hidden : placed hidden_text ≡ (Some (Outer 0) ∷ Some (Local 0) ∷ Some (Local 0) ∷ Some (Outer 0) ∷ [])
unfolding gather functions writes_constructor mentions free captured places place_of_mention place_count this_cell captures
hidden = refl

-- f(); function f() {}
abbrev used_before_text : Tree (t.list t.item)
used_before_text = (t.more (t.Plain (t.Value (t.Call (t.Name (named_at 0 (codes "f"))) t.none) semi.Written)) (t.more (t.Plain (t.FunctionStatement (t.FunctionOf 5 (Some (named_at 14 (codes "f"))) f.Plain [] (t.BodyStatements t.none)))) t.none))

used_before : placed used_before_text ≡ (Some (Outer 0) ∷ Some (Outer 0) ∷ [])
unfolding gather functions writes_constructor mentions free captured places place_of_mention place_count this_cell captures
used_before = refl

used_before_captures_1 : captures used_before_text 1 ≡ []
unfolding gather functions writes_constructor mentions free captured places place_of_mention place_count this_cell captures
used_before_captures_1 = refl

-- function f(a) { () => a; }
abbrev captured_parameter_text : Tree (t.list t.item)
captured_parameter_text = (t.more (t.Plain (t.FunctionStatement (t.FunctionOf 0 (Some (named_at 9 (codes "f"))) f.Plain ((named_at 11 (codes "a")) ∷ []) (t.BodyStatements (t.more (t.Value (t.Function (t.FunctionOf 16 None f.Arrow [] (t.BodyExpression (t.Name (named_at 22 (codes "a")))))) semi.Written) t.none))))) t.none)

captured_parameter : placed captured_parameter_text ≡ (Some (Outer 0) ∷ Some (Boxed 0) ∷ Some (Outer 0) ∷ [])
unfolding gather functions writes_constructor mentions free captured places place_of_mention place_count this_cell captures
captured_parameter = refl

captured_parameter_captures_1 : captures captured_parameter_text 1 ≡ []
unfolding gather functions writes_constructor mentions free captured places place_of_mention place_count this_cell captures
captured_parameter_captures_1 = refl

captured_parameter_captures_2 : captures captured_parameter_text 2 ≡ (capture false 0 ∷ [])
unfolding gather functions writes_constructor mentions free captured places place_of_mention place_count this_cell captures
captured_parameter_captures_2 = refl

-- function f(a, b) { () => b; }
abbrev second_parameter_captured_text : Tree (t.list t.item)
second_parameter_captured_text = (t.more (t.Plain (t.FunctionStatement (t.FunctionOf 0 (Some (named_at 9 (codes "f"))) f.Plain ((named_at 11 (codes "a")) ∷ (named_at 14 (codes "b")) ∷ []) (t.BodyStatements (t.more (t.Value (t.Function (t.FunctionOf 19 None f.Arrow [] (t.BodyExpression (t.Name (named_at 25 (codes "b")))))) semi.Written) t.none))))) t.none)

second_parameter_captured : placed second_parameter_captured_text ≡ (Some (Outer 0) ∷ Some (Local 0) ∷ Some (Boxed 1) ∷ Some (Outer 0) ∷ [])
unfolding gather functions writes_constructor mentions free captured places place_of_mention place_count this_cell captures
second_parameter_captured = refl

second_parameter_captured_captures_2 : captures second_parameter_captured_text 2 ≡ (capture false 1 ∷ [])
unfolding gather functions writes_constructor mentions free captured places place_of_mention place_count this_cell captures
second_parameter_captured_captures_2 = refl

-- (class A extends A { });
abbrev own_name_in_parent_text : Tree (t.list t.item)
own_name_in_parent_text = (t.more (t.Plain (t.Value (t.Paren (t.Class (t.ClassOf 1 (Some (named_at 7 (codes "A"))) (t.present (t.Name (named_at 17 (codes "A")))) t.none))) semi.Written)) t.none)

own_name_in_parent : placed own_name_in_parent_text ≡ (Some (Local 0) ∷ Some (Local 0) ∷ [])
unfolding gather functions writes_constructor mentions free captured places place_of_mention place_count this_cell captures
own_name_in_parent = refl

own_name_in_parent_captures_1 : captures own_name_in_parent_text 1 ≡ []
unfolding gather functions writes_constructor mentions free captured places place_of_mention place_count this_cell captures
own_name_in_parent_captures_1 = refl

-- class A { [A]() { } }
abbrev own_name_in_key_text : Tree (t.list t.item)
own_name_in_key_text = (t.more (t.Plain (t.ClassStatement (t.ClassOf 0 (Some (named_at 6 (codes "A"))) t.absent (t.more (t.MemberOf 10 false m.Method (t.KeyComputed (t.Name (named_at 11 (codes "A")))) t.absent (t.present (t.FunctionOf 10 None f.Method [] (t.BodyStatements t.none)))) t.none)))) t.none)

own_name_in_key : placed own_name_in_key_text ≡ (Some (Outer 0) ∷ Some (Local 0) ∷ Some (Local 0) ∷ [])
unfolding gather functions writes_constructor mentions free captured places place_of_mention place_count this_cell captures
own_name_in_key = refl

own_name_in_key_captures_2 : captures own_name_in_key_text 2 ≡ []
unfolding gather functions writes_constructor mentions free captured places place_of_mention place_count this_cell captures
own_name_in_key_captures_2 = refl

-- function f() { () => () => this; }
abbrev this_through_two_arrows_text : Tree (t.list t.item)
this_through_two_arrows_text = (t.more (t.Plain (t.FunctionStatement (t.FunctionOf 0 (Some (named_at 9 (codes "f"))) f.Plain [] (t.BodyStatements (t.more (t.Value (t.Function (t.FunctionOf 15 None f.Arrow [] (t.BodyExpression (t.Function (t.FunctionOf 21 None f.Arrow [] (t.BodyExpression t.This)))))) semi.Written) t.none))))) t.none)

this_through_two_arrows : placed this_through_two_arrows_text ≡ (Some (Outer 0) ∷ Some (Outer 0) ∷ [])
unfolding gather functions writes_constructor mentions free captured places place_of_mention place_count this_cell captures
this_through_two_arrows = refl

this_through_two_arrows_captures_1 : captures this_through_two_arrows_text 1 ≡ []
unfolding gather functions writes_constructor mentions free captured places place_of_mention place_count this_cell captures
this_through_two_arrows_captures_1 = refl

this_through_two_arrows_captures_2 : captures this_through_two_arrows_text 2 ≡ (capture false 0 ∷ [])
unfolding gather functions writes_constructor mentions free captured places place_of_mention place_count this_cell captures
this_through_two_arrows_captures_2 = refl

this_through_two_arrows_captures_3 : captures this_through_two_arrows_text 3 ≡ (capture true 0 ∷ [])
unfolding gather functions writes_constructor mentions free captured places place_of_mention place_count this_cell captures
this_through_two_arrows_captures_3 = refl

this_through_two_arrows_this_cell_1 : this_cell this_through_two_arrows_text 1 ≡ Some 0
unfolding gather functions writes_constructor mentions free captured places place_of_mention place_count this_cell captures
this_through_two_arrows_this_cell_1 = refl

this_through_two_arrows_this_cell_2 : this_cell this_through_two_arrows_text 2 ≡ None
unfolding gather functions writes_constructor mentions free captured places place_of_mention place_count this_cell captures
this_through_two_arrows_this_cell_2 = refl

this_through_two_arrows_place_count_1 : place_count this_through_two_arrows_text 1 ≡ 1
unfolding gather functions writes_constructor mentions free captured places place_of_mention place_count this_cell captures
this_through_two_arrows_place_count_1 = refl

-- ({ m() { this; () => this; } });
abbrev this_in_method_text : Tree (t.list t.item)
this_in_method_text = (t.more (t.Plain (t.Value (t.Paren (t.Object (t.more (t.MemberOf 3 false m.Method (t.KeyWord (codes "m")) t.absent (t.present (t.FunctionOf 3 None f.Method [] (t.BodyStatements (t.more (t.Value t.This semi.Written) (t.more (t.Value (t.Function (t.FunctionOf 15 None f.Arrow [] (t.BodyExpression t.This))) semi.Written) t.none)))))) t.none))) semi.Written)) t.none)

this_in_method : placed this_in_method_text ≡ (Some (Outer 0) ∷ [])
unfolding gather functions writes_constructor mentions free captured places place_of_mention place_count this_cell captures
this_in_method = refl

this_in_method_captures_2 : captures this_in_method_text 2 ≡ (capture false 0 ∷ [])
unfolding gather functions writes_constructor mentions free captured places place_of_mention place_count this_cell captures
this_in_method_captures_2 = refl

this_in_method_this_cell_1 : this_cell this_in_method_text 1 ≡ Some 0
unfolding gather functions writes_constructor mentions free captured places place_of_mention place_count this_cell captures
this_in_method_this_cell_1 = refl

-- ({ m() { this; } });
abbrev this_in_method_alone_text : Tree (t.list t.item)
this_in_method_alone_text = (t.more (t.Plain (t.Value (t.Paren (t.Object (t.more (t.MemberOf 3 false m.Method (t.KeyWord (codes "m")) t.absent (t.present (t.FunctionOf 3 None f.Method [] (t.BodyStatements (t.more (t.Value t.This semi.Written) t.none))))) t.none))) semi.Written)) t.none)

this_in_method_alone_this_cell_1 : this_cell this_in_method_alone_text 1 ≡ None
unfolding gather functions writes_constructor mentions free captured places place_of_mention place_count this_cell captures
this_in_method_alone_this_cell_1 = refl

this_in_method_alone_place_count_1 : place_count this_in_method_alone_text 1 ≡ 0
unfolding gather functions writes_constructor mentions free captured places place_of_mention place_count this_cell captures
this_in_method_alone_place_count_1 = refl

-- class A extends Error { constructor() { super(); () => this; } }
abbrev this_in_derived_constructor_text : Tree (t.list t.item)
this_in_derived_constructor_text = (t.more (t.Plain (t.ClassStatement (t.ClassOf 0 (Some (named_at 6 (codes "A"))) (t.present (t.Name (named_at 16 (codes "Error")))) (t.more (t.MemberOf 24 false m.Method (t.KeyWord (codes "constructor")) t.absent (t.present (t.FunctionOf 24 None f.Derived [] (t.BodyStatements (t.more (t.Value (t.SuperCall 40 t.none) semi.Written) (t.more (t.Value (t.Function (t.FunctionOf 49 None f.Arrow [] (t.BodyExpression t.This))) semi.Written) t.none)))))) t.none)))) t.none)

this_in_derived_constructor : placed this_in_derived_constructor_text ≡ (Some (Outer 0) ∷ Some (Local 0) ∷ Some (Global 3) ∷ Some (Outer 0) ∷ [])
unfolding gather functions writes_constructor mentions free captured places place_of_mention place_count this_cell captures
this_in_derived_constructor = refl

this_in_derived_constructor_captures_1 : captures this_in_derived_constructor_text 1 ≡ []
unfolding gather functions writes_constructor mentions free captured places place_of_mention place_count this_cell captures
this_in_derived_constructor_captures_1 = refl

this_in_derived_constructor_captures_2 : captures this_in_derived_constructor_text 2 ≡ (capture false 0 ∷ [])
unfolding gather functions writes_constructor mentions free captured places place_of_mention place_count this_cell captures
this_in_derived_constructor_captures_2 = refl

this_in_derived_constructor_this_cell_1 : this_cell this_in_derived_constructor_text 1 ≡ Some 0
unfolding gather functions writes_constructor mentions free captured places place_of_mention place_count this_cell captures
this_in_derived_constructor_this_cell_1 = refl

-- export default function f() { f; }
abbrev default_function_name_text : Tree (t.list t.item)
default_function_name_text = (t.more (t.ExportDefault 7 (t.DefaultFunction (t.FunctionOf 15 (Some (named_at 24 (codes "f"))) f.Plain [] (t.BodyStatements (t.more (t.Value (t.Name (named_at 30 (codes "f"))) semi.Written) t.none)))) semi.Missing) t.none)

default_function_name : placed default_function_name_text ≡ (Some (Outer 0) ∷ Some (Outer 0) ∷ [])
unfolding gather functions writes_constructor mentions free captured places place_of_mention place_count this_cell captures
default_function_name = refl

default_function_name_captures_1 : captures default_function_name_text 1 ≡ (capture true 0 ∷ [])
unfolding gather functions writes_constructor mentions free captured places place_of_mention place_count this_cell captures
default_function_name_captures_1 = refl

-- export default class A { m() { A; } }
abbrev default_class_name_text : Tree (t.list t.item)
default_class_name_text = (t.more (t.ExportDefault 7 (t.DefaultClass (t.ClassOf 15 (Some (named_at 21 (codes "A"))) t.absent (t.more (t.MemberOf 25 false m.Method (t.KeyWord (codes "m")) t.absent (t.present (t.FunctionOf 25 None f.Method [] (t.BodyStatements (t.more (t.Value (t.Name (named_at 31 (codes "A"))) semi.Written) t.none))))) t.none))) semi.Missing) t.none)

default_class_name : placed default_class_name_text ≡ (Some (Outer 0) ∷ Some (Boxed 0) ∷ Some (Outer 0) ∷ [])
unfolding gather functions writes_constructor mentions free captured places place_of_mention place_count this_cell captures
default_class_name = refl

default_class_name_captures_1 : captures default_class_name_text 1 ≡ []
unfolding gather functions writes_constructor mentions free captured places place_of_mention place_count this_cell captures
default_class_name_captures_1 = refl

default_class_name_captures_2 : captures default_class_name_text 2 ≡ (capture false 0 ∷ [])
unfolding gather functions writes_constructor mentions free captured places place_of_mention place_count this_cell captures
default_class_name_captures_2 = refl

-- try { let a; } catch (e) { e; } finally { let b; }
abbrev catch_and_finally_text : Tree (t.list t.item)
catch_and_finally_text = (t.more (t.Plain (t.Try (t.more (t.Declare false (t.more (t.DeclaratorOf (named_at 10 (codes "a")) t.absent) t.none) semi.Written) t.none) (Some (named_at 22 (codes "e"))) (t.present (t.more (t.Value (t.Name (named_at 27 (codes "e"))) semi.Written) t.none)) (t.present (t.more (t.Declare false (t.more (t.DeclaratorOf (named_at 46 (codes "b")) t.absent) t.none) semi.Written) t.none)))) t.none)

catch_and_finally : placed catch_and_finally_text ≡ (Some (Local 0) ∷ Some (Local 1) ∷ Some (Local 2) ∷ Some (Local 3) ∷ Some (Local 3) ∷ Some (Local 4) ∷ [])
unfolding gather functions writes_constructor mentions free captured places place_of_mention place_count this_cell captures
catch_and_finally = refl

catch_and_finally_place_count_0 : place_count catch_and_finally_text 0 ≡ 5
unfolding gather functions writes_constructor mentions free captured places place_of_mention place_count this_cell captures
catch_and_finally_place_count_0 = refl

-- try { } catch (e) { () => e; } finally { }
abbrev captured_in_catch_text : Tree (t.list t.item)
captured_in_catch_text = (t.more (t.Plain (t.Try t.none (Some (named_at 15 (codes "e"))) (t.present (t.more (t.Value (t.Function (t.FunctionOf 20 None f.Arrow [] (t.BodyExpression (t.Name (named_at 26 (codes "e")))))) semi.Written) t.none)) (t.present t.none))) t.none)

captured_in_catch : placed captured_in_catch_text ≡ (Some (Local 0) ∷ Some (Local 1) ∷ Some (Boxed 2) ∷ Some (Outer 0) ∷ [])
unfolding gather functions writes_constructor mentions free captured places place_of_mention place_count this_cell captures
captured_in_catch = refl

captured_in_catch_captures_1 : captures captured_in_catch_text 1 ≡ (capture false 2 ∷ [])
unfolding gather functions writes_constructor mentions free captured places place_of_mention place_count this_cell captures
captured_in_catch_captures_1 = refl

-- a binding of a scope within, that lies in some functions
abbrev inner_binding : List ℕ → ℕ → List Enclosing → Binding
inner_binding name at lies = record { name = name; at = at; role = Inner; lies = lies }

closed_over_free : free closed_over_text 13 ≡ (inner_binding (codes "a") 6 [] ∷ [])
unfolding gather mentions free captured
closed_over_free = refl

captured_in_closure : captured closed_over_text (inner_binding (codes "a") 6 []) ≡ true
unfolding gather mentions free captured
captured_in_closure = refl

not_captured_in_block : captured in_block_text (inner_binding (codes "a") 6 []) ≡ false
unfolding gather mentions free captured
not_captured_in_block = refl

-- a binding of a module's top is captured, though no function mentions it
top_is_captured : captured top_level_text (record { name = codes "a"; at = 4; role = Top; lies = [] }) ≡ true
unfolding gather mentions free captured
top_is_captured = refl

-- what a function within has free the functions round it have free too
outer_arrow_free : free through_functions_text 9 ≡ (inner_binding (codes "a") 6 [] ∷ [])
unfolding gather mentions free captured
outer_arrow_free = refl

inner_arrow_free : free through_functions_text 15 ≡ (inner_binding (codes "a") 6 [] ∷ [])
unfolding gather mentions free captured
inner_arrow_free = refl

-- a function has its own parameters and `this` not free, and an arrow has the `this` round it
this_of_arrow_free_1 : free this_of_arrow_text 0 ≡ []
unfolding gather mentions free captured
this_of_arrow_free_1 = refl

this_of_arrow_free_2 : free this_of_arrow_text 16 ≡ (record { name = []; at = 0; role = Receiver; lies = record { at = 0; kind = f.Plain } ∷ [] } ∷ [])
unfolding gather mentions free captured
this_of_arrow_free_2 = refl

-- an unbound name is no free name
method_before_key_free : free method_before_key_text 4 ≡ []
unfolding gather mentions free captured
method_before_key_free = refl

this_of_arrow_this_cell_1 : this_cell this_of_arrow_text 1 ≡ Some 1
unfolding gather functions writes_constructor mentions free captured places place_of_mention place_count this_cell captures
this_of_arrow_this_cell_1 = refl

this_of_arrow_place_count_1 : place_count this_of_arrow_text 1 ≡ 2
unfolding gather functions writes_constructor mentions free captured places place_of_mention place_count this_cell captures
this_of_arrow_place_count_1 = refl

this_of_module_this_cell_0 : this_cell this_of_module_text 0 ≡ Some 0
unfolding gather functions writes_constructor mentions free captured places place_of_mention place_count this_cell captures
this_of_module_this_cell_0 = refl

closed_over_this_cell_1 : this_cell closed_over_text 1 ≡ None
unfolding gather functions writes_constructor mentions free captured places place_of_mention place_count this_cell captures
closed_over_this_cell_1 = refl

in_block_place_count_0 : place_count in_block_text 0 ≡ 1
unfolding gather functions writes_constructor mentions free captured places place_of_mention place_count this_cell captures
in_block_place_count_0 = refl

finally_temporaries_place_count_0 : place_count finally_temporaries_text 0 ≡ 3
unfolding gather functions writes_constructor mentions free captured places place_of_mention place_count this_cell captures
finally_temporaries_place_count_0 = refl

class_name_place_count_0 : place_count class_name_text 0 ≡ 1
unfolding gather functions writes_constructor mentions free captured places place_of_mention place_count this_cell captures
class_name_place_count_0 = refl

method_before_key_place_count_1 : place_count method_before_key_text 1 ≡ 1
unfolding gather functions writes_constructor mentions free captured places place_of_mention place_count this_cell captures
method_before_key_place_count_1 = refl

top_level_count : function_count top_level_text ≡ 1
unfolding gather functions writes_constructor mentions free captured places place_of_mention place_count this_cell captures
top_level_count = refl

class_name_count : function_count class_name_text ≡ 3
unfolding gather functions writes_constructor mentions free captured places place_of_mention place_count this_cell captures
class_name_count = refl

class_expression_name_count : function_count class_expression_name_text ≡ 2
unfolding gather functions writes_constructor mentions free captured places place_of_mention place_count this_cell captures
class_expression_name_count = refl

method_before_key_count : function_count method_before_key_text ≡ 3
unfolding gather functions writes_constructor mentions free captured places place_of_mention place_count this_cell captures
method_before_key_count = refl

through_functions_count : function_count through_functions_text ≡ 3
unfolding gather functions writes_constructor mentions free captured places place_of_mention place_count this_cell captures
through_functions_count = refl

-- a module without items: its body alone
empty_module_count : function_count t.none ≡ 1
unfolding functions writes_constructor
empty_module_count = refl

-- import "m"; export default function () { }
import_count : function_count (t.more (t.Import (codes "m") [] semi.Written) (t.more (t.ExportDefault 19 (t.DefaultFunction (t.FunctionOf 27 None f.Plain [] (t.BodyStatements t.none))) semi.Missing) t.none)) ≡ 2
unfolding functions writes_constructor
import_count = refl

-- class A extends Error { }
derived_generated_count : function_count (t.more (t.Plain (t.ClassStatement (t.ClassOf 0 (Some (named_at 6 (codes "A"))) (t.present (t.Name (named_at 16 (codes "Error")))) t.none))) t.none) ≡ 2
unfolding functions writes_constructor
derived_generated_count = refl

-- class A { constructor() { } }
written_constructor_count : function_count (t.more (t.Plain (t.ClassStatement (t.ClassOf 0 (Some (named_at 6 (codes "A"))) t.absent (t.more (t.MemberOf 10 false m.Method (t.KeyWord (codes "constructor")) t.absent (t.present (t.FunctionOf 10 None f.Base [] (t.BodyStatements t.none)))) t.none)))) t.none) ≡ 2
unfolding functions writes_constructor
written_constructor_count = refl

-- class A extends Error { constructor() { super(); } }
derived_constructor_count : function_count (t.more (t.Plain (t.ClassStatement (t.ClassOf 0 (Some (named_at 6 (codes "A"))) (t.present (t.Name (named_at 16 (codes "Error")))) (t.more (t.MemberOf 24 false m.Method (t.KeyWord (codes "constructor")) t.absent (t.present (t.FunctionOf 24 None f.Derived [] (t.BodyStatements (t.more (t.Value (t.SuperCall 40 t.none) semi.Written) t.none))))) t.none)))) t.none) ≡ 2
unfolding functions writes_constructor
derived_constructor_count = refl

-- class A { static constructor() { } }: a static member is no constructor
static_constructor_count : function_count (t.more (t.Plain (t.ClassStatement (t.ClassOf 0 (Some (named_at 6 (codes "A"))) t.absent (t.more (t.MemberOf 10 true m.Method (t.KeyWord (codes "constructor")) t.absent (t.present (t.FunctionOf 10 None f.Method [] (t.BodyStatements t.none)))) t.none)))) t.none) ≡ 3
unfolding functions writes_constructor
static_constructor_count = refl

-- ({ get a() { }, set a(b) { } });
accessors_count : function_count (t.more (t.Plain (t.Value (t.Paren (t.Object (t.more (t.MemberOf 3 false m.Getter (t.KeyWord (codes "a")) t.absent (t.present (t.FunctionOf 3 None f.Getter [] (t.BodyStatements t.none)))) (t.more (t.MemberOf 16 false m.Setter (t.KeyWord (codes "a")) t.absent (t.present (t.FunctionOf 16 None f.Setter ((named_at 22 (codes "b")) ∷ []) (t.BodyStatements t.none)))) t.none)))) semi.Written)) t.none) ≡ 3
unfolding functions writes_constructor
accessors_count = refl

-- ({ constructor() { } });
object_constructor_count : function_count (t.more (t.Plain (t.Value (t.Paren (t.Object (t.more (t.MemberOf 3 false m.Method (t.KeyWord (codes "constructor")) t.absent (t.present (t.FunctionOf 3 None f.Method [] (t.BodyStatements t.none)))) t.none))) semi.Written)) t.none) ≡ 2
unfolding functions writes_constructor
object_constructor_count = refl

-- class A { [() => 1]() { } }: the generated constructor, the method and the arrow
key_function_count : function_count (t.more (t.Plain (t.ClassStatement (t.ClassOf 0 (Some (named_at 6 (codes "A"))) t.absent (t.more (t.MemberOf 10 false m.Method (t.KeyComputed (t.Function (t.FunctionOf 11 None f.Arrow [] (t.BodyExpression (t.Number (pos 1)))))) t.absent (t.present (t.FunctionOf 10 None f.Method [] (t.BodyStatements t.none)))) t.none)))) t.none) ≡ 4
unfolding functions writes_constructor
key_function_count = refl

-- class A extends (class { }) { }
parent_class_count : function_count (t.more (t.Plain (t.ClassStatement (t.ClassOf 0 (Some (named_at 6 (codes "A"))) (t.present (t.Paren (t.Class (t.ClassOf 17 None t.absent t.none)))) t.none))) t.none) ≡ 3
unfolding functions writes_constructor
parent_class_count = refl

-- function f() { function g() { () => 1; } }
nested_functions_count : function_count (t.more (t.Plain (t.FunctionStatement (t.FunctionOf 0 (Some (named_at 9 (codes "f"))) f.Plain [] (t.BodyStatements (t.more (t.FunctionStatement (t.FunctionOf 15 (Some (named_at 24 (codes "g"))) f.Plain [] (t.BodyStatements (t.more (t.Value (t.Function (t.FunctionOf 30 None f.Arrow [] (t.BodyExpression (t.Number (pos 1))))) semi.Written) t.none)))) t.none))))) t.none) ≡ 4
unfolding functions writes_constructor
nested_functions_count = refl

-- ---- at the edges

-- {class d {}}
abbrev class_in_a_block_text : Tree (t.list t.item)
class_in_a_block_text = (t.more (t.Plain (t.Block (t.more (t.ClassStatement (t.ClassOf 1 (Some (named_at 7 (codes "d"))) t.absent t.none)) t.none))) t.none)

class_in_a_block : placed class_in_a_block_text ≡ Some (Local 0) ∷ Some (Local 1) ∷ []
unfolding gather functions writes_constructor mentions free captured places place_of_mention place_count this_cell captures
class_in_a_block = refl

-- let x; switch (x) {}
abbrev value_of_a_switch_text : Tree (t.list t.item)
value_of_a_switch_text = (t.more (t.Plain (t.Declare false (t.more (t.DeclaratorOf (named_at 4 (codes "x")) t.absent) t.none) semi.Written)) (t.more (t.Plain (t.Switch (t.Name (named_at 15 (codes "x"))) t.none)) t.none))

value_of_a_switch : placed value_of_a_switch_text ≡ Some (Outer 0) ∷ Some (Local 0) ∷ Some (Outer 0) ∷ []
unfolding gather functions writes_constructor mentions free captured places place_of_mention place_count this_cell captures
value_of_a_switch = refl

-- 1; import {p} from "m"; p;
abbrev import_behind_a_statement_text : Tree (t.list t.item)
import_behind_a_statement_text = (t.more (t.Plain (t.Value (t.Number (pos 1)) semi.Written)) (t.more (t.Import (codes "m") ((pair_of (named_at 11 (codes "p")) (named_at 11 (codes "p"))) ∷ []) semi.Written) (t.more (t.Plain (t.Value (t.Name (named_at 24 (codes "p"))) semi.Written)) t.none)))

import_behind_a_statement : placed import_behind_a_statement_text ≡ Some (Import 0) ∷ Some (Import 0) ∷ []
unfolding gather functions writes_constructor mentions free captured places place_of_mention place_count this_cell captures
import_behind_a_statement = refl

-- () => this;
abbrev this_of_an_arrow_text : Tree (t.list t.item)
this_of_an_arrow_text = (t.more (t.Plain (t.Value (t.Function (t.FunctionOf 0 None f.Arrow [] (t.BodyExpression t.This))) semi.Written)) t.none)

this_of_an_arrow : placed this_of_an_arrow_text ≡ Some (Outer 0) ∷ []
unfolding gather functions writes_constructor mentions free captured places place_of_mention place_count this_cell captures
this_of_an_arrow = refl

-- class A {}
abbrev generated_constructor_text : Tree (t.list t.item)
generated_constructor_text = (t.more (t.Plain (t.ClassStatement (t.ClassOf 0 (Some (named_at 6 (codes "A"))) t.absent t.none))) t.none)

generated_constructor : placed generated_constructor_text ≡ Some (Outer 0) ∷ Some (Local 0) ∷ []
unfolding gather functions writes_constructor mentions free captured places place_of_mention place_count this_cell captures
generated_constructor = refl

-- function f() { let a; } function g() { let b; }
abbrev sibling_functions_text : Tree (t.list t.item)
sibling_functions_text = (t.more (t.Plain (t.FunctionStatement (t.FunctionOf 0 (Some (named_at 9 (codes "f"))) f.Plain [] (t.BodyStatements (t.more (t.Declare false (t.more (t.DeclaratorOf (named_at 19 (codes "a")) t.absent) t.none) semi.Written) t.none))))) (t.more (t.Plain (t.FunctionStatement (t.FunctionOf 24 (Some (named_at 33 (codes "g"))) f.Plain [] (t.BodyStatements (t.more (t.Declare false (t.more (t.DeclaratorOf (named_at 43 (codes "b")) t.absent) t.none) semi.Written) t.none))))) t.none))

sibling_functions : placed sibling_functions_text ≡ Some (Outer 0) ∷ Some (Local 0) ∷ Some (Outer 1) ∷ Some (Local 0) ∷ []
unfolding gather functions writes_constructor mentions free captured places place_of_mention place_count this_cell captures
sibling_functions = refl

-- the places of the body, and of what is function 1
this_of_an_arrow_counts : place_count this_of_an_arrow_text 0 ∷ place_count this_of_an_arrow_text 1 ∷ [] ≡ 1 ∷ 0 ∷ []
unfolding gather functions writes_constructor mentions free captured places place_of_mention place_count this_cell captures
this_of_an_arrow_counts = refl

-- the places of the body, and of what is function 1
generated_constructor_counts : place_count generated_constructor_text 0 ∷ place_count generated_constructor_text 1 ∷ [] ≡ 1 ∷ 0 ∷ []
unfolding gather functions writes_constructor mentions free captured places place_of_mention place_count this_cell captures
generated_constructor_counts = refl

-- the places of the body, and of what is function 1
class_in_a_block_counts : place_count class_in_a_block_text 0 ∷ place_count class_in_a_block_text 1 ∷ [] ≡ 2 ∷ 0 ∷ []
unfolding gather functions writes_constructor mentions free captured places place_of_mention place_count this_cell captures
class_in_a_block_counts = refl

names_of_the_globals : global_names ≡ codes "undefined" ∷ codes "Object" ∷ codes "Function" ∷ codes "Error" ∷ codes "RangeError" ∷ codes "ReferenceError" ∷ codes "SyntaxError" ∷ codes "TypeError" ∷ codes "Boolean" ∷ codes "Number" ∷ codes "Math" ∷ codes "Promise" ∷ codes "parseInt" ∷ codes "String" ∷ codes "Array" ∷ []
names_of_the_globals = refl
