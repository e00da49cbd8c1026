-- Texts that no module begins with: the place of the first token with which none does, in imports and exports.
use Rattle.std.proofs.Common.{◌≡◌, refl, [], ◌∷◌, codes, pos}
use Rattle.es_model.specs.declared.token.TokenKind.TheVariants as k
use Rattle.js_parser.proofs.Rows.{token, lined}
use Rattle.js_parser.specs.Machine.{answer, Syntax}

-- import a‸;
import_without_from : answer (token (k.Keyword 21) 0 ∷ token (k.Name (codes "a")) 7 ∷ token (k.Sign 6) 8 ∷ token k.End 9 ∷ []) ≡ Syntax 2
import_without_from = refl

-- import a, ‸b from "m";
import_of_two_defaults : answer (token (k.Keyword 21) 0 ∷ token (k.Name (codes "a")) 7 ∷ token (k.Sign 7) 8 ∷ token (k.Name (codes "b")) 10 ∷ token (k.Name (codes "from")) 12 ∷ token (k.String (codes "m")) 17 ∷ token (k.Sign 6) 20 ∷ token k.End 21 ∷ []) ≡ Syntax 3
import_of_two_defaults = refl

-- import {a ‸b} from "m";
import_without_as : answer (token (k.Keyword 21) 0 ∷ token (k.Sign 0) 7 ∷ token (k.Name (codes "a")) 8 ∷ token (k.Name (codes "b")) 10 ∷ token (k.Sign 1) 11 ∷ token (k.Name (codes "from")) 13 ∷ token (k.String (codes "m")) 18 ∷ token (k.Sign 6) 21 ∷ token k.End 22 ∷ []) ≡ Syntax 3
import_without_as = refl

-- import {default‸} from "m";
import_of_default : answer (token (k.Keyword 21) 0 ∷ token (k.Sign 0) 7 ∷ token (k.Keyword 8) 8 ∷ token (k.Sign 1) 15 ∷ token (k.Name (codes "from")) 17 ∷ token (k.String (codes "m")) 22 ∷ token (k.Sign 6) 25 ∷ token k.End 26 ∷ []) ≡ Syntax 3
import_of_default = refl

-- import {a as ‸default} from "m";
import_as_default : answer (token (k.Keyword 21) 0 ∷ token (k.Sign 0) 7 ∷ token (k.Name (codes "a")) 8 ∷ token (k.Name (codes "as")) 10 ∷ token (k.Keyword 8) 13 ∷ token (k.Sign 1) 20 ∷ token (k.Name (codes "from")) 22 ∷ token (k.String (codes "m")) 27 ∷ token (k.Sign 6) 30 ∷ token k.End 31 ∷ []) ≡ Syntax 4
import_as_default = refl

-- import {a} ‸"m";
import_list_without_from : answer (token (k.Keyword 21) 0 ∷ token (k.Sign 0) 7 ∷ token (k.Name (codes "a")) 8 ∷ token (k.Sign 1) 9 ∷ token (k.String (codes "m")) 11 ∷ token (k.Sign 6) 14 ∷ token k.End 15 ∷ []) ≡ Syntax 4
import_list_without_from = refl

-- import‸;
import_alone : answer (token (k.Keyword 21) 0 ∷ token (k.Sign 6) 6 ∷ token k.End 7 ∷ []) ≡ Syntax 1
import_alone = refl

-- import ‸* as a from "m";
import_of_everything : answer (token (k.Keyword 21) 0 ∷ token (k.Sign 19) 7 ∷ token (k.Name (codes "as")) 9 ∷ token (k.Name (codes "a")) 12 ∷ token (k.Name (codes "from")) 14 ∷ token (k.String (codes "m")) 19 ∷ token (k.Sign 6) 22 ∷ token k.End 23 ∷ []) ≡ Syntax 1
import_of_everything = refl

-- import {‸"a" as b} from "m";
import_of_a_string : answer (token (k.Keyword 21) 0 ∷ token (k.Sign 0) 7 ∷ token (k.String (codes "a")) 8 ∷ token (k.Name (codes "as")) 12 ∷ token (k.Name (codes "b")) 15 ∷ token (k.Sign 1) 16 ∷ token (k.Name (codes "from")) 18 ∷ token (k.String (codes "m")) 23 ∷ token (k.Sign 6) 26 ∷ token k.End 27 ∷ []) ≡ Syntax 2
import_of_a_string = refl

-- import "m" ‸with {};
import_with_attributes : answer (token (k.Keyword 21) 0 ∷ token (k.String (codes "m")) 7 ∷ token (k.Keyword 44) 11 ∷ token (k.Sign 0) 16 ∷ token (k.Sign 1) 17 ∷ token (k.Sign 6) 18 ∷ token k.End 19 ∷ []) ≡ Syntax 2
import_with_attributes = refl

-- import "m" ‸a;
import_and_a_name : answer (token (k.Keyword 21) 0 ∷ token (k.String (codes "m")) 7 ∷ token (k.Name (codes "a")) 11 ∷ token (k.Sign 6) 12 ∷ token k.End 13 ∷ []) ≡ Syntax 2
import_and_a_name = refl

-- import "m"⏎‸(a);
import_and_a_paren : answer (token (k.Keyword 21) 0 ∷ token (k.String (codes "m")) 7 ∷ lined (k.Sign 2) 11 ∷ token (k.Name (codes "a")) 12 ∷ token (k.Sign 3) 13 ∷ token (k.Sign 6) 14 ∷ token k.End 15 ∷ []) ≡ Syntax 2
import_and_a_paren = refl

-- import a from ‸b;
import_from_a_name : answer (token (k.Keyword 21) 0 ∷ token (k.Name (codes "a")) 7 ∷ token (k.Name (codes "from")) 9 ∷ token (k.Name (codes "b")) 14 ∷ token (k.Sign 6) 15 ∷ token k.End 16 ∷ []) ≡ Syntax 3
import_from_a_name = refl

-- import‸(a);
import_called : answer (token (k.Keyword 21) 0 ∷ token (k.Sign 2) 6 ∷ token (k.Name (codes "a")) 7 ∷ token (k.Sign 3) 8 ∷ token (k.Sign 6) 9 ∷ token k.End 10 ∷ []) ≡ Syntax 1
import_called = refl

-- import {‸if} from "m";
import_of_a_keyword : answer (token (k.Keyword 21) 0 ∷ token (k.Sign 0) 7 ∷ token (k.Keyword 19) 8 ∷ token (k.Sign 1) 10 ∷ token (k.Name (codes "from")) 12 ∷ token (k.String (codes "m")) 17 ∷ token (k.Sign 6) 20 ∷ token k.End 21 ∷ []) ≡ Syntax 2
import_of_a_keyword = refl

-- import {a,‸, b} from "m";
import_with_two_commas : answer (token (k.Keyword 21) 0 ∷ token (k.Sign 0) 7 ∷ token (k.Name (codes "a")) 8 ∷ token (k.Sign 7) 9 ∷ token (k.Sign 7) 10 ∷ token (k.Name (codes "b")) 12 ∷ token (k.Sign 1) 13 ∷ token (k.Name (codes "from")) 15 ∷ token (k.String (codes "m")) 20 ∷ token (k.Sign 6) 23 ∷ token k.End 24 ∷ []) ≡ Syntax 4
import_with_two_commas = refl

-- import {‸,} from "m";
import_of_a_comma : answer (token (k.Keyword 21) 0 ∷ token (k.Sign 0) 7 ∷ token (k.Sign 7) 8 ∷ token (k.Sign 1) 9 ∷ token (k.Name (codes "from")) 11 ∷ token (k.String (codes "m")) 16 ∷ token (k.Sign 6) 19 ∷ token k.End 20 ∷ []) ≡ Syntax 2
import_of_a_comma = refl

-- import a, ‸* as b from "m";
import_default_and_everything : answer (token (k.Keyword 21) 0 ∷ token (k.Name (codes "a")) 7 ∷ token (k.Sign 7) 8 ∷ token (k.Sign 19) 10 ∷ token (k.Name (codes "as")) 12 ∷ token (k.Name (codes "b")) 15 ∷ token (k.Name (codes "from")) 17 ∷ token (k.String (codes "m")) 22 ∷ token (k.Sign 6) 25 ∷ token k.End 26 ∷ []) ≡ Syntax 3
import_default_and_everything = refl

-- import {a‸;
import_cut_off : answer (token (k.Keyword 21) 0 ∷ token (k.Sign 0) 7 ∷ token (k.Name (codes "a")) 8 ∷ token (k.Sign 6) 9 ∷ token k.End 10 ∷ []) ≡ Syntax 3
import_cut_off = refl

-- export ‸a;
export_of_a_name : answer (token (k.Keyword 13) 0 ∷ token (k.Name (codes "a")) 7 ∷ token (k.Sign 6) 8 ∷ token k.End 9 ∷ []) ≡ Syntax 1
export_of_a_name = refl

-- export ‸* from "m";
export_of_everything : answer (token (k.Keyword 13) 0 ∷ token (k.Sign 19) 7 ∷ token (k.Name (codes "from")) 9 ∷ token (k.String (codes "m")) 14 ∷ token (k.Sign 6) 17 ∷ token k.End 18 ∷ []) ≡ Syntax 1
export_of_everything = refl

-- export {a as ‸"b"};
export_as_a_string : answer (token (k.Keyword 13) 0 ∷ token (k.Sign 0) 7 ∷ token (k.Name (codes "a")) 8 ∷ token (k.Name (codes "as")) 10 ∷ token (k.String (codes "b")) 13 ∷ token (k.Sign 1) 16 ∷ token (k.Sign 6) 17 ∷ token k.End 18 ∷ []) ≡ Syntax 4
export_as_a_string = refl

-- export {‸"a" as b} from "m";
export_of_a_string : answer (token (k.Keyword 13) 0 ∷ token (k.Sign 0) 7 ∷ token (k.String (codes "a")) 8 ∷ token (k.Name (codes "as")) 12 ∷ token (k.Name (codes "b")) 15 ∷ token (k.Sign 1) 16 ∷ token (k.Name (codes "from")) 18 ∷ token (k.String (codes "m")) 23 ∷ token (k.Sign 6) 26 ∷ token k.End 27 ∷ []) ≡ Syntax 2
export_of_a_string = refl

-- export {a} from "m" ‸with {};
export_with_attributes : answer (token (k.Keyword 13) 0 ∷ token (k.Sign 0) 7 ∷ token (k.Name (codes "a")) 8 ∷ token (k.Sign 1) 9 ∷ token (k.Name (codes "from")) 11 ∷ token (k.String (codes "m")) 16 ∷ token (k.Keyword 44) 20 ∷ token (k.Sign 0) 25 ∷ token (k.Sign 1) 26 ∷ token (k.Sign 6) 27 ∷ token k.End 28 ∷ []) ≡ Syntax 6
export_with_attributes = refl

-- export ‸* as a from "m";
export_of_everything_as_a_name : answer (token (k.Keyword 13) 0 ∷ token (k.Sign 19) 7 ∷ token (k.Name (codes "as")) 9 ∷ token (k.Name (codes "a")) 12 ∷ token (k.Name (codes "from")) 14 ∷ token (k.String (codes "m")) 19 ∷ token (k.Sign 6) 22 ∷ token k.End 23 ∷ []) ≡ Syntax 1
export_of_everything_as_a_name = refl

-- export {default}‸;
export_of_default_without_from : answer (token (k.Keyword 13) 0 ∷ token (k.Sign 0) 7 ∷ token (k.Keyword 8) 8 ∷ token (k.Sign 1) 15 ∷ token (k.Sign 6) 16 ∷ token k.End 17 ∷ []) ≡ Syntax 4
export_of_default_without_from = refl

-- export {default as a}‸;
export_of_default_as_without_from : answer (token (k.Keyword 13) 0 ∷ token (k.Sign 0) 7 ∷ token (k.Keyword 8) 8 ∷ token (k.Name (codes "as")) 16 ∷ token (k.Name (codes "a")) 19 ∷ token (k.Sign 1) 20 ∷ token (k.Sign 6) 21 ∷ token k.End 22 ∷ []) ≡ Syntax 6
export_of_default_as_without_from = refl

-- export default ‸;
export_default_of_nothing : answer (token (k.Keyword 13) 0 ∷ token (k.Keyword 8) 7 ∷ token (k.Sign 6) 15 ∷ token k.End 16 ∷ []) ≡ Syntax 2
export_default_of_nothing = refl

-- export default a‸, b;
export_default_of_a_comma : answer (token (k.Keyword 13) 0 ∷ token (k.Keyword 8) 7 ∷ token (k.Name (codes "a")) 15 ∷ token (k.Sign 7) 16 ∷ token (k.Name (codes "b")) 18 ∷ token (k.Sign 6) 19 ∷ token k.End 20 ∷ []) ≡ Syntax 3
export_default_of_a_comma = refl

-- export default a ‸b
export_default_of_two_names : answer (token (k.Keyword 13) 0 ∷ token (k.Keyword 8) 7 ∷ token (k.Name (codes "a")) 15 ∷ token (k.Name (codes "b")) 17 ∷ token k.End 18 ∷ []) ≡ Syntax 3
export_default_of_two_names = refl

-- export default ‸let a;
export_default_of_a_declaration : answer (token (k.Keyword 13) 0 ∷ token (k.Keyword 8) 7 ∷ token (k.Keyword 25) 15 ∷ token (k.Name (codes "a")) 19 ∷ token (k.Sign 6) 20 ∷ token k.End 21 ∷ []) ≡ Syntax 2
export_default_of_a_declaration = refl

-- export default ‸const a = 1;
export_default_of_const : answer (token (k.Keyword 13) 0 ∷ token (k.Keyword 8) 7 ∷ token (k.Keyword 5) 15 ∷ token (k.Name (codes "a")) 21 ∷ token (k.Sign 38) 23 ∷ token (k.Number (pos 1)) 25 ∷ token (k.Sign 6) 26 ∷ token k.End 27 ∷ []) ≡ Syntax 2
export_default_of_const = refl

-- export {‸if};
export_of_a_keyword : answer (token (k.Keyword 13) 0 ∷ token (k.Sign 0) 7 ∷ token (k.Keyword 19) 8 ∷ token (k.Sign 1) 10 ∷ token (k.Sign 6) 11 ∷ token k.End 12 ∷ []) ≡ Syntax 2
export_of_a_keyword = refl

-- export ‸if (a) ;
export_of_a_statement : answer (token (k.Keyword 13) 0 ∷ token (k.Keyword 19) 7 ∷ token (k.Sign 2) 10 ∷ token (k.Name (codes "a")) 11 ∷ token (k.Sign 3) 12 ∷ token (k.Sign 6) 14 ∷ token k.End 15 ∷ []) ≡ Syntax 1
export_of_a_statement = refl

-- export‸;
export_alone : answer (token (k.Keyword 13) 0 ∷ token (k.Sign 6) 6 ∷ token k.End 7 ∷ []) ≡ Syntax 1
export_alone = refl

-- export {a}⏎from‸;
export_list_and_from : answer (token (k.Keyword 13) 0 ∷ token (k.Sign 0) 7 ∷ token (k.Name (codes "a")) 8 ∷ token (k.Sign 1) 9 ∷ lined (k.Name (codes "from")) 11 ∷ token (k.Sign 6) 15 ∷ token k.End 16 ∷ []) ≡ Syntax 5
export_list_and_from = refl

-- export {a} ‸b;
export_list_and_a_name : answer (token (k.Keyword 13) 0 ∷ token (k.Sign 0) 7 ∷ token (k.Name (codes "a")) 8 ∷ token (k.Sign 1) 9 ∷ token (k.Name (codes "b")) 11 ∷ token (k.Sign 6) 12 ∷ token k.End 13 ∷ []) ≡ Syntax 4
export_list_and_a_name = refl

-- export {a} from "m" ‸b
export_from_and_a_name : answer (token (k.Keyword 13) 0 ∷ token (k.Sign 0) 7 ∷ token (k.Name (codes "a")) 8 ∷ token (k.Sign 1) 9 ∷ token (k.Name (codes "from")) 11 ∷ token (k.String (codes "m")) 16 ∷ token (k.Name (codes "b")) 20 ∷ token k.End 21 ∷ []) ≡ Syntax 6
export_from_and_a_name = refl

-- export {a}⏎‸(b);
export_list_and_a_paren : answer (token (k.Keyword 13) 0 ∷ token (k.Sign 0) 7 ∷ token (k.Name (codes "a")) 8 ∷ token (k.Sign 1) 9 ∷ lined (k.Sign 2) 11 ∷ token (k.Name (codes "b")) 12 ∷ token (k.Sign 3) 13 ∷ token (k.Sign 6) 14 ∷ token k.End 15 ∷ []) ≡ Syntax 4
export_list_and_a_paren = refl

-- export ‸var a;
export_of_var : answer (token (k.Keyword 13) 0 ∷ token (k.Keyword 41) 7 ∷ token (k.Name (codes "a")) 11 ∷ token (k.Sign 6) 12 ∷ token k.End 13 ∷ []) ≡ Syntax 1
export_of_var = refl

-- export default async ‸function f() {}
export_async : answer (token (k.Keyword 13) 0 ∷ token (k.Keyword 8) 7 ∷ token (k.Name (codes "async")) 15 ∷ token (k.Keyword 18) 21 ∷ token (k.Name (codes "f")) 30 ∷ token (k.Sign 2) 31 ∷ token (k.Sign 3) 32 ∷ token (k.Sign 0) 34 ∷ token (k.Sign 1) 35 ∷ token k.End 36 ∷ []) ≡ Syntax 3
export_async = refl

-- export function ‸() {}
export_function_without_a_name : answer (token (k.Keyword 13) 0 ∷ token (k.Keyword 18) 7 ∷ token (k.Sign 2) 16 ∷ token (k.Sign 3) 17 ∷ token (k.Sign 0) 19 ∷ token (k.Sign 1) 20 ∷ token k.End 21 ∷ []) ≡ Syntax 2
export_function_without_a_name = refl

-- export class ‸{}
export_class_without_a_name : answer (token (k.Keyword 13) 0 ∷ token (k.Keyword 4) 7 ∷ token (k.Sign 0) 13 ∷ token (k.Sign 1) 14 ∷ token k.End 15 ∷ []) ≡ Syntax 2
export_class_without_a_name = refl

-- export const a‸;
export_const_without_a_value : answer (token (k.Keyword 13) 0 ∷ token (k.Keyword 5) 7 ∷ token (k.Name (codes "a")) 13 ∷ token (k.Sign 6) 14 ∷ token k.End 15 ∷ []) ≡ Syntax 3
export_const_without_a_value = refl

-- export ‸export {};
export_twice : answer (token (k.Keyword 13) 0 ∷ token (k.Keyword 13) 7 ∷ token (k.Sign 0) 14 ∷ token (k.Sign 1) 15 ∷ token (k.Sign 6) 16 ∷ token k.End 17 ∷ []) ≡ Syntax 1
export_twice = refl

-- export {a as‸};
export_with_as_alone : answer (token (k.Keyword 13) 0 ∷ token (k.Sign 0) 7 ∷ token (k.Name (codes "a")) 8 ∷ token (k.Name (codes "as")) 10 ∷ token (k.Sign 1) 12 ∷ token (k.Sign 6) 13 ∷ token k.End 14 ∷ []) ≡ Syntax 4
export_with_as_alone = refl

-- export default function () {}()‸;
default_function_and_a_head : answer (token (k.Keyword 13) 0 ∷ token (k.Keyword 8) 7 ∷ token (k.Keyword 18) 15 ∷ token (k.Sign 2) 24 ∷ token (k.Sign 3) 25 ∷ token (k.Sign 0) 27 ∷ token (k.Sign 1) 28 ∷ token (k.Sign 2) 29 ∷ token (k.Sign 3) 30 ∷ token (k.Sign 6) 31 ∷ token k.End 32 ∷ []) ≡ Syntax 9
default_function_and_a_head = refl
