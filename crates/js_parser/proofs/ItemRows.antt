-- Imports and exports in all their forms: texts with their trees.
use Rattle.std.proofs.Common.{◌≡◌, refl, true, false, [], ◌∷◌, codes, pos, Some, None}
use Rattle.es_model.specs.declared.kinds.Semi.TheVariants as semi
use Rattle.es_model.specs.declared.kinds.FunctionKind.TheVariants as f
use Rattle.es_model.specs.declared.token.TokenKind.TheVariants as k
use Rattle.es_model.specs.Tree as t
use Rattle.js_parser.proofs.Rows.{token, lined, named_at, pair_of}
use Rattle.js_parser.specs.Machine.{answer, Parsed}

-- import "m";
import_for_nothing : answer (token (k.Keyword 21) 0 ∷ token (k.String (codes "m")) 7 ∷ token (k.Sign 6) 10 ∷ token k.End 11 ∷ []) ≡ Parsed (t.more (t.Import (codes "m") [] semi.Written) t.none)
import_for_nothing = refl

-- import {} from "m"
import_of_an_empty_list : answer (token (k.Keyword 21) 0 ∷ token (k.Sign 0) 7 ∷ token (k.Sign 1) 8 ∷ token (k.Name (codes "from")) 10 ∷ token (k.String (codes "m")) 15 ∷ token k.End 18 ∷ []) ≡ Parsed (t.more (t.Import (codes "m") [] semi.Missing) t.none)
import_of_an_empty_list = refl

-- import a from "m";
import_default : answer (token (k.Keyword 21) 0 ∷ token (k.Name (codes "a")) 7 ∷ token (k.Name (codes "from")) 9 ∷ token (k.String (codes "m")) 14 ∷ token (k.Sign 6) 17 ∷ token k.End 18 ∷ []) ≡ Parsed (t.more (t.Import (codes "m") (pair_of (named_at 7 (codes "default")) (named_at 7 (codes "a")) ∷ []) semi.Written) t.none)
import_default = refl

-- import a, {b, c as d, default as e,} from "m";
import_default_and_names : answer (token (k.Keyword 21) 0 ∷ token (k.Name (codes "a")) 7 ∷ token (k.Sign 7) 8 ∷ token (k.Sign 0) 10 ∷ token (k.Name (codes "b")) 11 ∷ token (k.Sign 7) 12 ∷ token (k.Name (codes "c")) 14 ∷ token (k.Name (codes "as")) 16 ∷ token (k.Name (codes "d")) 19 ∷ token (k.Sign 7) 20 ∷ token (k.Keyword 8) 22 ∷ token (k.Name (codes "as")) 30 ∷ token (k.Name (codes "e")) 33 ∷ token (k.Sign 7) 34 ∷ token (k.Sign 1) 35 ∷ token (k.Name (codes "from")) 37 ∷ token (k.String (codes "m")) 42 ∷ token (k.Sign 6) 45 ∷ token k.End 46 ∷ []) ≡ Parsed (t.more (t.Import (codes "m") (pair_of (named_at 7 (codes "default")) (named_at 7 (codes "a")) ∷ pair_of (named_at 11 (codes "b")) (named_at 11 (codes "b")) ∷ pair_of (named_at 14 (codes "c")) (named_at 19 (codes "d")) ∷ pair_of (named_at 22 (codes "default")) (named_at 33 (codes "e")) ∷ []) semi.Written) t.none)
import_default_and_names = refl

-- import a, {} from "m"⏎b
import_default_and_an_empty_list : answer (token (k.Keyword 21) 0 ∷ token (k.Name (codes "a")) 7 ∷ token (k.Sign 7) 8 ∷ token (k.Sign 0) 10 ∷ token (k.Sign 1) 11 ∷ token (k.Name (codes "from")) 13 ∷ token (k.String (codes "m")) 18 ∷ lined (k.Name (codes "b")) 22 ∷ token k.End 23 ∷ []) ≡ Parsed (t.more (t.Import (codes "m") (pair_of (named_at 7 (codes "default")) (named_at 7 (codes "a")) ∷ []) semi.Missing) (t.more (t.Plain (t.Value ((t.Name (named_at 22 (codes "b")))) semi.Missing)) t.none))
import_default_and_an_empty_list = refl

-- import from from "m";
import_of_from : answer (token (k.Keyword 21) 0 ∷ token (k.Name (codes "from")) 7 ∷ token (k.Name (codes "from")) 12 ∷ token (k.String (codes "m")) 17 ∷ token (k.Sign 6) 20 ∷ token k.End 21 ∷ []) ≡ Parsed (t.more (t.Import (codes "m") (pair_of (named_at 7 (codes "default")) (named_at 7 (codes "from")) ∷ []) semi.Written) t.none)
import_of_from = refl

-- import {as} from "m"; import {as as as} from "m";
import_of_as : answer (token (k.Keyword 21) 0 ∷ token (k.Sign 0) 7 ∷ token (k.Name (codes "as")) 8 ∷ token (k.Sign 1) 10 ∷ token (k.Name (codes "from")) 12 ∷ token (k.String (codes "m")) 17 ∷ token (k.Sign 6) 20 ∷ token (k.Keyword 21) 22 ∷ token (k.Sign 0) 29 ∷ token (k.Name (codes "as")) 30 ∷ token (k.Name (codes "as")) 33 ∷ token (k.Name (codes "as")) 36 ∷ token (k.Sign 1) 38 ∷ token (k.Name (codes "from")) 40 ∷ token (k.String (codes "m")) 45 ∷ token (k.Sign 6) 48 ∷ token k.End 49 ∷ []) ≡ Parsed (t.more (t.Import (codes "m") (pair_of (named_at 8 (codes "as")) (named_at 8 (codes "as")) ∷ []) semi.Written) (t.more (t.Import (codes "m") (pair_of (named_at 30 (codes "as")) (named_at 36 (codes "as")) ∷ []) semi.Written) t.none))
import_of_as = refl

-- import "m"⏎{}
import_before_a_brace_line : answer (token (k.Keyword 21) 0 ∷ token (k.String (codes "m")) 7 ∷ lined (k.Sign 0) 11 ∷ token (k.Sign 1) 12 ∷ token k.End 13 ∷ []) ≡ Parsed (t.more (t.Import (codes "m") [] semi.Missing) (t.more (t.Plain (t.Block t.none)) t.none))
import_before_a_brace_line = refl

-- export {a, b as c, d as default,};
export_of_names : answer (token (k.Keyword 13) 0 ∷ token (k.Sign 0) 7 ∷ token (k.Name (codes "a")) 8 ∷ token (k.Sign 7) 9 ∷ token (k.Name (codes "b")) 11 ∷ token (k.Name (codes "as")) 13 ∷ token (k.Name (codes "c")) 16 ∷ token (k.Sign 7) 17 ∷ token (k.Name (codes "d")) 19 ∷ token (k.Name (codes "as")) 21 ∷ token (k.Keyword 8) 24 ∷ token (k.Sign 7) 31 ∷ token (k.Sign 1) 32 ∷ token (k.Sign 6) 33 ∷ token k.End 34 ∷ []) ≡ Parsed (t.more (t.ExportNames (pair_of (named_at 8 (codes "a")) (named_at 8 (codes "a")) ∷ pair_of (named_at 11 (codes "b")) (named_at 16 (codes "c")) ∷ pair_of (named_at 19 (codes "d")) (named_at 24 (codes "default")) ∷ []) semi.Written) t.none)
export_of_names = refl

-- export {}
export_of_nothing : answer (token (k.Keyword 13) 0 ∷ token (k.Sign 0) 7 ∷ token (k.Sign 1) 8 ∷ token k.End 9 ∷ []) ≡ Parsed (t.more (t.ExportNames [] semi.Missing) t.none)
export_of_nothing = refl

-- export {a}⏎b
export_of_names_at_a_line_break : answer (token (k.Keyword 13) 0 ∷ token (k.Sign 0) 7 ∷ token (k.Name (codes "a")) 8 ∷ token (k.Sign 1) 9 ∷ lined (k.Name (codes "b")) 11 ∷ token k.End 12 ∷ []) ≡ Parsed (t.more (t.ExportNames (pair_of (named_at 8 (codes "a")) (named_at 8 (codes "a")) ∷ []) semi.Missing) (t.more (t.Plain (t.Value ((t.Name (named_at 11 (codes "b")))) semi.Missing)) t.none))
export_of_names_at_a_line_break = refl

-- export {a, default, default as b, c as default} from "m";
export_from : answer (token (k.Keyword 13) 0 ∷ token (k.Sign 0) 7 ∷ token (k.Name (codes "a")) 8 ∷ token (k.Sign 7) 9 ∷ token (k.Keyword 8) 11 ∷ token (k.Sign 7) 18 ∷ token (k.Keyword 8) 20 ∷ token (k.Name (codes "as")) 28 ∷ token (k.Name (codes "b")) 31 ∷ token (k.Sign 7) 32 ∷ token (k.Name (codes "c")) 34 ∷ token (k.Name (codes "as")) 36 ∷ token (k.Keyword 8) 39 ∷ token (k.Sign 1) 46 ∷ token (k.Name (codes "from")) 48 ∷ token (k.String (codes "m")) 53 ∷ token (k.Sign 6) 56 ∷ token k.End 57 ∷ []) ≡ Parsed (t.more (t.ExportFrom (codes "m") (pair_of (named_at 8 (codes "a")) (named_at 8 (codes "a")) ∷ pair_of (named_at 11 (codes "default")) (named_at 11 (codes "default")) ∷ pair_of (named_at 20 (codes "default")) (named_at 31 (codes "b")) ∷ pair_of (named_at 34 (codes "c")) (named_at 39 (codes "default")) ∷ []) semi.Written) t.none)
export_from = refl

-- export {}⏎from "m"
export_from_over_a_line_break : answer (token (k.Keyword 13) 0 ∷ token (k.Sign 0) 7 ∷ token (k.Sign 1) 8 ∷ lined (k.Name (codes "from")) 10 ∷ token (k.String (codes "m")) 15 ∷ token k.End 18 ∷ []) ≡ Parsed (t.more (t.ExportFrom (codes "m") [] semi.Missing) t.none)
export_from_over_a_line_break = refl

-- export let a; export const b = 1⏎export function f() {} export class A {}
export_of_declarations : answer (token (k.Keyword 13) 0 ∷ token (k.Keyword 25) 7 ∷ token (k.Name (codes "a")) 11 ∷ token (k.Sign 6) 12 ∷ token (k.Keyword 13) 14 ∷ token (k.Keyword 5) 21 ∷ token (k.Name (codes "b")) 27 ∷ token (k.Sign 38) 29 ∷ token (k.Number (pos 1)) 31 ∷ lined (k.Keyword 13) 33 ∷ token (k.Keyword 18) 40 ∷ token (k.Name (codes "f")) 49 ∷ token (k.Sign 2) 50 ∷ token (k.Sign 3) 51 ∷ token (k.Sign 0) 53 ∷ token (k.Sign 1) 54 ∷ token (k.Keyword 13) 56 ∷ token (k.Keyword 4) 63 ∷ token (k.Name (codes "A")) 69 ∷ token (k.Sign 0) 71 ∷ token (k.Sign 1) 72 ∷ token k.End 73 ∷ []) ≡ Parsed (t.more (t.ExportDeclaration (t.Declare false (t.more (t.DeclaratorOf (named_at 11 (codes "a")) t.absent) t.none) semi.Written)) (t.more (t.ExportDeclaration (t.Declare true (t.more (t.DeclaratorOf (named_at 27 (codes "b")) (t.present (t.Number (pos 1)))) t.none) semi.Missing)) (t.more (t.ExportDeclaration (t.FunctionStatement (t.FunctionOf 40 (Some (named_at 49 (codes "f"))) f.Plain [] (t.BodyStatements t.none)))) (t.more (t.ExportDeclaration (t.ClassStatement (t.ClassOf 63 (Some (named_at 69 (codes "A"))) t.absent t.none))) t.none))))
export_of_declarations = refl

-- export default a = b;
export_default_of_a_value : answer (token (k.Keyword 13) 0 ∷ token (k.Keyword 8) 7 ∷ token (k.Name (codes "a")) 15 ∷ token (k.Sign 38) 17 ∷ token (k.Name (codes "b")) 19 ∷ token (k.Sign 6) 20 ∷ token k.End 21 ∷ []) ≡ Parsed (t.more (t.ExportDefault 7 (t.DefaultValue (t.Assign 15 (t.Name (named_at 15 (codes "a"))) None (t.Name (named_at 19 (codes "b"))))) semi.Written) t.none)
export_default_of_a_value = refl

-- export default a⏎b
export_default_at_a_line_break : answer (token (k.Keyword 13) 0 ∷ token (k.Keyword 8) 7 ∷ token (k.Name (codes "a")) 15 ∷ lined (k.Name (codes "b")) 17 ∷ token k.End 18 ∷ []) ≡ Parsed (t.more (t.ExportDefault 7 (t.DefaultValue (t.Name (named_at 15 (codes "a")))) semi.Missing) (t.more (t.Plain (t.Value ((t.Name (named_at 17 (codes "b")))) semi.Missing)) t.none))
export_default_at_a_line_break = refl

-- export default {};
export_default_of_an_object : answer (token (k.Keyword 13) 0 ∷ token (k.Keyword 8) 7 ∷ token (k.Sign 0) 15 ∷ token (k.Sign 1) 16 ∷ token (k.Sign 6) 17 ∷ token k.End 18 ∷ []) ≡ Parsed (t.more (t.ExportDefault 7 (t.DefaultValue (t.Object t.none)) semi.Written) t.none)
export_default_of_an_object = refl

-- export default () => {}
export_default_of_an_arrow : answer (token (k.Keyword 13) 0 ∷ token (k.Keyword 8) 7 ∷ token (k.Sign 2) 15 ∷ token (k.Sign 3) 16 ∷ token (k.Sign 51) 18 ∷ token (k.Sign 0) 21 ∷ token (k.Sign 1) 22 ∷ token k.End 23 ∷ []) ≡ Parsed (t.more (t.ExportDefault 7 (t.DefaultValue (t.Function (t.FunctionOf 15 None f.Arrow [] (t.BodyStatements t.none)))) semi.Missing) t.none)
export_default_of_an_arrow = refl

-- export default function f() {} a;
export_default_of_a_function : answer (token (k.Keyword 13) 0 ∷ token (k.Keyword 8) 7 ∷ token (k.Keyword 18) 15 ∷ token (k.Name (codes "f")) 24 ∷ token (k.Sign 2) 25 ∷ token (k.Sign 3) 26 ∷ token (k.Sign 0) 28 ∷ token (k.Sign 1) 29 ∷ token (k.Name (codes "a")) 31 ∷ token (k.Sign 6) 32 ∷ token k.End 33 ∷ []) ≡ Parsed (t.more (t.ExportDefault 7 (t.DefaultFunction (t.FunctionOf 15 (Some (named_at 24 (codes "f"))) f.Plain [] (t.BodyStatements t.none))) semi.Missing) (t.more (t.Plain (t.Value ((t.Name (named_at 31 (codes "a")))) semi.Written)) t.none))
export_default_of_a_function = refl

-- export default function () {};
export_default_of_a_function_and_a_semicolon : answer (token (k.Keyword 13) 0 ∷ token (k.Keyword 8) 7 ∷ token (k.Keyword 18) 15 ∷ token (k.Sign 2) 24 ∷ token (k.Sign 3) 25 ∷ token (k.Sign 0) 27 ∷ token (k.Sign 1) 28 ∷ token (k.Sign 6) 29 ∷ token k.End 30 ∷ []) ≡ Parsed (t.more (t.ExportDefault 7 (t.DefaultFunction (t.FunctionOf 15 None f.Plain [] (t.BodyStatements t.none))) semi.Missing) (t.more (t.Plain t.Empty) t.none))
export_default_of_a_function_and_a_semicolon = refl

-- export default class A extends B {} a;
export_default_of_a_class : answer (token (k.Keyword 13) 0 ∷ token (k.Keyword 8) 7 ∷ token (k.Keyword 4) 15 ∷ token (k.Name (codes "A")) 21 ∷ token (k.Keyword 14) 23 ∷ token (k.Name (codes "B")) 31 ∷ token (k.Sign 0) 33 ∷ token (k.Sign 1) 34 ∷ token (k.Name (codes "a")) 36 ∷ token (k.Sign 6) 37 ∷ token k.End 38 ∷ []) ≡ Parsed (t.more (t.ExportDefault 7 (t.DefaultClass (t.ClassOf 15 (Some (named_at 21 (codes "A"))) (t.present (t.Name (named_at 31 (codes "B")))) t.none)) semi.Missing) (t.more (t.Plain (t.Value ((t.Name (named_at 36 (codes "a")))) semi.Written)) t.none))
export_default_of_a_class = refl

-- export default (class {}).a;
export_default_of_a_class_in_parentheses : answer (token (k.Keyword 13) 0 ∷ token (k.Keyword 8) 7 ∷ token (k.Sign 2) 15 ∷ token (k.Keyword 4) 16 ∷ token (k.Sign 0) 22 ∷ token (k.Sign 1) 23 ∷ token (k.Sign 3) 24 ∷ token (k.Sign 8) 25 ∷ token (k.Name (codes "a")) 26 ∷ token (k.Sign 6) 27 ∷ token k.End 28 ∷ []) ≡ Parsed (t.more (t.ExportDefault 7 (t.DefaultValue (t.Dot (t.Paren (t.Class (t.ClassOf 16 None t.absent t.none))) (codes "a"))) semi.Written) t.none)
export_default_of_a_class_in_parentheses = refl

-- from; as; get; set; of; async;
names_that_are_words_elsewhere : answer (token (k.Name (codes "from")) 0 ∷ token (k.Sign 6) 4 ∷ token (k.Name (codes "as")) 6 ∷ token (k.Sign 6) 8 ∷ token (k.Name (codes "get")) 10 ∷ token (k.Sign 6) 13 ∷ token (k.Name (codes "set")) 15 ∷ token (k.Sign 6) 18 ∷ token (k.Name (codes "of")) 20 ∷ token (k.Sign 6) 22 ∷ token (k.Name (codes "async")) 24 ∷ token (k.Sign 6) 29 ∷ token k.End 30 ∷ []) ≡ Parsed (t.more (t.Plain (t.Value ((t.Name (named_at 0 (codes "from")))) semi.Written)) (t.more (t.Plain (t.Value ((t.Name (named_at 6 (codes "as")))) semi.Written)) (t.more (t.Plain (t.Value ((t.Name (named_at 10 (codes "get")))) semi.Written)) (t.more (t.Plain (t.Value ((t.Name (named_at 15 (codes "set")))) semi.Written)) (t.more (t.Plain (t.Value ((t.Name (named_at 20 (codes "of")))) semi.Written)) (t.more (t.Plain (t.Value ((t.Name (named_at 24 (codes "async")))) semi.Written)) t.none))))))
names_that_are_words_elsewhere = refl
