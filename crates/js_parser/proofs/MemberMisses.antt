-- Texts that no module begins with: the place of the first token with which none does, in functions, classes and objects.
use Rattle.std.proofs.Common.{◌≡◌, refl, [], ◌∷◌, codes, pos}
use Rattle.es_model.specs.declared.token.TokenKind.TheVariants as k
use Rattle.js_parser.proofs.Rows.{token}
use Rattle.js_parser.specs.Machine.{answer, Syntax}

-- ({a ‸b});
object_without_commas : answer (token (k.Sign 2) 0 ∷ token (k.Sign 0) 1 ∷ token (k.Name (codes "a")) 2 ∷ token (k.Name (codes "b")) 4 ∷ token (k.Sign 1) 5 ∷ token (k.Sign 3) 6 ∷ token (k.Sign 6) 7 ∷ token k.End 8 ∷ []) ≡ Syntax 3
object_without_commas = refl

-- ({a: ‸});
object_value_missing : answer (token (k.Sign 2) 0 ∷ token (k.Sign 0) 1 ∷ token (k.Name (codes "a")) 2 ∷ token (k.Sign 37) 3 ∷ token (k.Sign 1) 5 ∷ token (k.Sign 3) 6 ∷ token (k.Sign 6) 7 ∷ token k.End 8 ∷ []) ≡ Syntax 4
object_value_missing = refl

-- ({‸, a});
object_begins_with_a_comma : answer (token (k.Sign 2) 0 ∷ token (k.Sign 0) 1 ∷ token (k.Sign 7) 2 ∷ token (k.Name (codes "a")) 4 ∷ token (k.Sign 1) 5 ∷ token (k.Sign 3) 6 ∷ token (k.Sign 6) 7 ∷ token k.End 8 ∷ []) ≡ Syntax 2
object_begins_with_a_comma = refl

-- ({a,‸, b});
object_with_two_commas : answer (token (k.Sign 2) 0 ∷ token (k.Sign 0) 1 ∷ token (k.Name (codes "a")) 2 ∷ token (k.Sign 7) 3 ∷ token (k.Sign 7) 4 ∷ token (k.Name (codes "b")) 6 ∷ token (k.Sign 1) 7 ∷ token (k.Sign 3) 8 ∷ token (k.Sign 6) 9 ∷ token k.End 10 ∷ []) ≡ Syntax 4
object_with_two_commas = refl

-- ({if‸});
keyword_alone_in_an_object : answer (token (k.Sign 2) 0 ∷ token (k.Sign 0) 1 ∷ token (k.Keyword 19) 2 ∷ token (k.Sign 1) 4 ∷ token (k.Sign 3) 5 ∷ token (k.Sign 6) 6 ∷ token k.End 7 ∷ []) ≡ Syntax 3
keyword_alone_in_an_object = refl

-- ({1‸});
number_alone_in_an_object : answer (token (k.Sign 2) 0 ∷ token (k.Sign 0) 1 ∷ token (k.Number (pos 1)) 2 ∷ token (k.Sign 1) 3 ∷ token (k.Sign 3) 4 ∷ token (k.Sign 6) 5 ∷ token k.End 6 ∷ []) ≡ Syntax 3
number_alone_in_an_object = refl

-- ({"a"‸});
string_alone_in_an_object : answer (token (k.Sign 2) 0 ∷ token (k.Sign 0) 1 ∷ token (k.String (codes "a")) 2 ∷ token (k.Sign 1) 5 ∷ token (k.Sign 3) 6 ∷ token (k.Sign 6) 7 ∷ token k.End 8 ∷ []) ≡ Syntax 3
string_alone_in_an_object = refl

-- ({[a]‸});
computed_alone_in_an_object : answer (token (k.Sign 2) 0 ∷ token (k.Sign 0) 1 ∷ token (k.Sign 4) 2 ∷ token (k.Name (codes "a")) 3 ∷ token (k.Sign 5) 4 ∷ token (k.Sign 1) 5 ∷ token (k.Sign 3) 6 ∷ token (k.Sign 6) 7 ∷ token k.End 8 ∷ []) ≡ Syntax 5
computed_alone_in_an_object = refl

-- ({a ‸= 1});
object_default : answer (token (k.Sign 2) 0 ∷ token (k.Sign 0) 1 ∷ token (k.Name (codes "a")) 2 ∷ token (k.Sign 38) 4 ∷ token (k.Number (pos 1)) 6 ∷ token (k.Sign 1) 7 ∷ token (k.Sign 3) 8 ∷ token (k.Sign 6) 9 ∷ token k.End 10 ∷ []) ≡ Syntax 3
object_default = refl

-- ({a‸;
object_cut_off : answer (token (k.Sign 2) 0 ∷ token (k.Sign 0) 1 ∷ token (k.Name (codes "a")) 2 ∷ token (k.Sign 6) 3 ∷ token k.End 4 ∷ []) ≡ Syntax 3
object_cut_off = refl

-- ({get a‸: 1});
value_of_an_accessor : answer (token (k.Sign 2) 0 ∷ token (k.Sign 0) 1 ∷ token (k.Name (codes "get")) 2 ∷ token (k.Name (codes "a")) 6 ∷ token (k.Sign 37) 7 ∷ token (k.Number (pos 1)) 9 ∷ token (k.Sign 1) 10 ∷ token (k.Sign 3) 11 ∷ token (k.Sign 6) 12 ∷ token k.End 13 ∷ []) ≡ Syntax 4
value_of_an_accessor = refl

-- ({static ‸a() {}});
static_in_an_object : answer (token (k.Sign 2) 0 ∷ token (k.Sign 0) 1 ∷ token (k.Keyword 33) 2 ∷ token (k.Name (codes "a")) 9 ∷ token (k.Sign 2) 10 ∷ token (k.Sign 3) 11 ∷ token (k.Sign 0) 13 ∷ token (k.Sign 1) 14 ∷ token (k.Sign 1) 15 ∷ token (k.Sign 3) 16 ∷ token (k.Sign 6) 17 ∷ token k.End 18 ∷ []) ≡ Syntax 3
static_in_an_object = refl

-- ({get a‸});
getter_alone : answer (token (k.Sign 2) 0 ∷ token (k.Sign 0) 1 ∷ token (k.Name (codes "get")) 2 ∷ token (k.Name (codes "a")) 6 ∷ token (k.Sign 1) 7 ∷ token (k.Sign 3) 8 ∷ token (k.Sign 6) 9 ∷ token k.End 10 ∷ []) ≡ Syntax 4
getter_alone = refl

-- ({a: b, ‸, c});
comma_in_a_value : answer (token (k.Sign 2) 0 ∷ token (k.Sign 0) 1 ∷ token (k.Name (codes "a")) 2 ∷ token (k.Sign 37) 3 ∷ token (k.Name (codes "b")) 5 ∷ token (k.Sign 7) 6 ∷ token (k.Sign 7) 8 ∷ token (k.Name (codes "c")) 10 ∷ token (k.Sign 1) 11 ∷ token (k.Sign 3) 12 ∷ token (k.Sign 6) 13 ∷ token k.End 14 ∷ []) ≡ Syntax 6
comma_in_a_value = refl

-- ({[a‸, b]: c});
computed_with_a_comma : answer (token (k.Sign 2) 0 ∷ token (k.Sign 0) 1 ∷ token (k.Sign 4) 2 ∷ token (k.Name (codes "a")) 3 ∷ token (k.Sign 7) 4 ∷ token (k.Name (codes "b")) 6 ∷ token (k.Sign 5) 7 ∷ token (k.Sign 37) 8 ∷ token (k.Name (codes "c")) 10 ∷ token (k.Sign 1) 11 ∷ token (k.Sign 3) 12 ∷ token (k.Sign 6) 13 ∷ token k.End 14 ∷ []) ≡ Syntax 4
computed_with_a_comma = refl

-- ({a() {}‸; b() {}});
semicolon_in_an_object : answer (token (k.Sign 2) 0 ∷ token (k.Sign 0) 1 ∷ token (k.Name (codes "a")) 2 ∷ token (k.Sign 2) 3 ∷ token (k.Sign 3) 4 ∷ token (k.Sign 0) 6 ∷ token (k.Sign 1) 7 ∷ token (k.Sign 6) 8 ∷ token (k.Name (codes "b")) 10 ∷ token (k.Sign 2) 11 ∷ token (k.Sign 3) 12 ∷ token (k.Sign 0) 14 ∷ token (k.Sign 1) 15 ∷ token (k.Sign 1) 16 ∷ token (k.Sign 3) 17 ∷ token (k.Sign 6) 18 ∷ token k.End 19 ∷ []) ≡ Syntax 7
semicolon_in_an_object = refl

-- ({a() {} ‸b() {}});
methods_without_a_comma : answer (token (k.Sign 2) 0 ∷ token (k.Sign 0) 1 ∷ token (k.Name (codes "a")) 2 ∷ token (k.Sign 2) 3 ∷ token (k.Sign 3) 4 ∷ token (k.Sign 0) 6 ∷ token (k.Sign 1) 7 ∷ token (k.Name (codes "b")) 9 ∷ token (k.Sign 2) 10 ∷ token (k.Sign 3) 11 ∷ token (k.Sign 0) 13 ∷ token (k.Sign 1) 14 ∷ token (k.Sign 1) 15 ∷ token (k.Sign 3) 16 ∷ token (k.Sign 6) 17 ∷ token k.End 18 ∷ []) ≡ Syntax 7
methods_without_a_comma = refl

-- ({‸* a() {}});
generator_method : answer (token (k.Sign 2) 0 ∷ token (k.Sign 0) 1 ∷ token (k.Sign 19) 2 ∷ token (k.Name (codes "a")) 4 ∷ token (k.Sign 2) 5 ∷ token (k.Sign 3) 6 ∷ token (k.Sign 0) 8 ∷ token (k.Sign 1) 9 ∷ token (k.Sign 1) 10 ∷ token (k.Sign 3) 11 ∷ token (k.Sign 6) 12 ∷ token k.End 13 ∷ []) ≡ Syntax 2
generator_method = refl

-- ({async ‸a() {}});
async_method : answer (token (k.Sign 2) 0 ∷ token (k.Sign 0) 1 ∷ token (k.Name (codes "async")) 2 ∷ token (k.Name (codes "a")) 8 ∷ token (k.Sign 2) 9 ∷ token (k.Sign 3) 10 ∷ token (k.Sign 0) 12 ∷ token (k.Sign 1) 13 ∷ token (k.Sign 1) 14 ∷ token (k.Sign 3) 15 ∷ token (k.Sign 6) 16 ∷ token k.End 17 ∷ []) ≡ Syntax 3
async_method = refl

-- ({get a(‸b) {}});
getter_with_a_parameter : answer (token (k.Sign 2) 0 ∷ token (k.Sign 0) 1 ∷ token (k.Name (codes "get")) 2 ∷ token (k.Name (codes "a")) 6 ∷ token (k.Sign 2) 7 ∷ token (k.Name (codes "b")) 8 ∷ token (k.Sign 3) 9 ∷ token (k.Sign 0) 11 ∷ token (k.Sign 1) 12 ∷ token (k.Sign 1) 13 ∷ token (k.Sign 3) 14 ∷ token (k.Sign 6) 15 ∷ token k.End 16 ∷ []) ≡ Syntax 5
getter_with_a_parameter = refl

-- ({set a(‸) {}});
setter_without_a_parameter : answer (token (k.Sign 2) 0 ∷ token (k.Sign 0) 1 ∷ token (k.Name (codes "set")) 2 ∷ token (k.Name (codes "a")) 6 ∷ token (k.Sign 2) 7 ∷ token (k.Sign 3) 8 ∷ token (k.Sign 0) 10 ∷ token (k.Sign 1) 11 ∷ token (k.Sign 1) 12 ∷ token (k.Sign 3) 13 ∷ token (k.Sign 6) 14 ∷ token k.End 15 ∷ []) ≡ Syntax 5
setter_without_a_parameter = refl

-- ({set a(b‸, c) {}});
setter_with_two_parameters : answer (token (k.Sign 2) 0 ∷ token (k.Sign 0) 1 ∷ token (k.Name (codes "set")) 2 ∷ token (k.Name (codes "a")) 6 ∷ token (k.Sign 2) 7 ∷ token (k.Name (codes "b")) 8 ∷ token (k.Sign 7) 9 ∷ token (k.Name (codes "c")) 11 ∷ token (k.Sign 3) 12 ∷ token (k.Sign 0) 14 ∷ token (k.Sign 1) 15 ∷ token (k.Sign 1) 16 ∷ token (k.Sign 3) 17 ∷ token (k.Sign 6) 18 ∷ token k.End 19 ∷ []) ≡ Syntax 6
setter_with_two_parameters = refl

-- ({set a(b‸,) {}});
setter_with_a_comma : answer (token (k.Sign 2) 0 ∷ token (k.Sign 0) 1 ∷ token (k.Name (codes "set")) 2 ∷ token (k.Name (codes "a")) 6 ∷ token (k.Sign 2) 7 ∷ token (k.Name (codes "b")) 8 ∷ token (k.Sign 7) 9 ∷ token (k.Sign 3) 10 ∷ token (k.Sign 0) 12 ∷ token (k.Sign 1) 13 ∷ token (k.Sign 1) 14 ∷ token (k.Sign 3) 15 ∷ token (k.Sign 6) 16 ∷ token k.End 17 ∷ []) ≡ Syntax 6
setter_with_a_comma = refl

-- ({a()‸});
method_without_a_body : answer (token (k.Sign 2) 0 ∷ token (k.Sign 0) 1 ∷ token (k.Name (codes "a")) 2 ∷ token (k.Sign 2) 3 ∷ token (k.Sign 3) 4 ∷ token (k.Sign 1) 5 ∷ token (k.Sign 3) 6 ∷ token (k.Sign 6) 7 ∷ token k.End 8 ∷ []) ≡ Syntax 5
method_without_a_body = refl

-- function ‸() {}
function_without_a_name : answer (token (k.Keyword 18) 0 ∷ token (k.Sign 2) 9 ∷ token (k.Sign 3) 10 ∷ token (k.Sign 0) 12 ∷ token (k.Sign 1) 13 ∷ token k.End 14 ∷ []) ≡ Syntax 1
function_without_a_name = refl

-- function f ‸g() {}
function_name_twice : answer (token (k.Keyword 18) 0 ∷ token (k.Name (codes "f")) 9 ∷ token (k.Name (codes "g")) 11 ∷ token (k.Sign 2) 12 ∷ token (k.Sign 3) 13 ∷ token (k.Sign 0) 15 ∷ token (k.Sign 1) 16 ∷ token k.End 17 ∷ []) ≡ Syntax 2
function_name_twice = refl

-- function f ‸{}
function_without_parameters : answer (token (k.Keyword 18) 0 ∷ token (k.Name (codes "f")) 9 ∷ token (k.Sign 0) 11 ∷ token (k.Sign 1) 12 ∷ token k.End 13 ∷ []) ≡ Syntax 2
function_without_parameters = refl

-- function f(a ‸b) {}
parameters_without_a_comma : answer (token (k.Keyword 18) 0 ∷ token (k.Name (codes "f")) 9 ∷ token (k.Sign 2) 10 ∷ token (k.Name (codes "a")) 11 ∷ token (k.Name (codes "b")) 13 ∷ token (k.Sign 3) 14 ∷ token (k.Sign 0) 16 ∷ token (k.Sign 1) 17 ∷ token k.End 18 ∷ []) ≡ Syntax 4
parameters_without_a_comma = refl

-- function f(‸,) {}
parameters_begin_with_a_comma : answer (token (k.Keyword 18) 0 ∷ token (k.Name (codes "f")) 9 ∷ token (k.Sign 2) 10 ∷ token (k.Sign 7) 11 ∷ token (k.Sign 3) 12 ∷ token (k.Sign 0) 14 ∷ token (k.Sign 1) 15 ∷ token k.End 16 ∷ []) ≡ Syntax 3
parameters_begin_with_a_comma = refl

-- function f(a,‸, b) {}
parameters_with_two_commas : answer (token (k.Keyword 18) 0 ∷ token (k.Name (codes "f")) 9 ∷ token (k.Sign 2) 10 ∷ token (k.Name (codes "a")) 11 ∷ token (k.Sign 7) 12 ∷ token (k.Sign 7) 13 ∷ token (k.Name (codes "b")) 15 ∷ token (k.Sign 3) 16 ∷ token (k.Sign 0) 18 ∷ token (k.Sign 1) 19 ∷ token k.End 20 ∷ []) ≡ Syntax 5
parameters_with_two_commas = refl

-- function f()‸;
function_without_a_body : answer (token (k.Keyword 18) 0 ∷ token (k.Name (codes "f")) 9 ∷ token (k.Sign 2) 10 ∷ token (k.Sign 3) 11 ∷ token (k.Sign 6) 12 ∷ token k.End 13 ∷ []) ≡ Syntax 4
function_without_a_body = refl

-- function f(‸if) {}
keyword_as_a_parameter : answer (token (k.Keyword 18) 0 ∷ token (k.Name (codes "f")) 9 ∷ token (k.Sign 2) 10 ∷ token (k.Keyword 19) 11 ∷ token (k.Sign 3) 13 ∷ token (k.Sign 0) 15 ∷ token (k.Sign 1) 16 ∷ token k.End 17 ∷ []) ≡ Syntax 3
keyword_as_a_parameter = refl

-- function f(‸...a) {}
rest_parameter : answer (token (k.Keyword 18) 0 ∷ token (k.Name (codes "f")) 9 ∷ token (k.Sign 2) 10 ∷ token (k.Sign 8) 11 ∷ token (k.Sign 8) 12 ∷ token (k.Sign 8) 13 ∷ token (k.Name (codes "a")) 14 ∷ token (k.Sign 3) 15 ∷ token (k.Sign 0) 17 ∷ token (k.Sign 1) 18 ∷ token k.End 19 ∷ []) ≡ Syntax 3
rest_parameter = refl

-- function f(a ‸= 1) {}
default_parameter : answer (token (k.Keyword 18) 0 ∷ token (k.Name (codes "f")) 9 ∷ token (k.Sign 2) 10 ∷ token (k.Name (codes "a")) 11 ∷ token (k.Sign 38) 13 ∷ token (k.Number (pos 1)) 15 ∷ token (k.Sign 3) 16 ∷ token (k.Sign 0) 18 ∷ token (k.Sign 1) 19 ∷ token k.End 20 ∷ []) ≡ Syntax 4
default_parameter = refl

-- ({a(b ‸= 1) {}});
default_parameter_of_a_method : answer (token (k.Sign 2) 0 ∷ token (k.Sign 0) 1 ∷ token (k.Name (codes "a")) 2 ∷ token (k.Sign 2) 3 ∷ token (k.Name (codes "b")) 4 ∷ token (k.Sign 38) 6 ∷ token (k.Number (pos 1)) 8 ∷ token (k.Sign 3) 9 ∷ token (k.Sign 0) 11 ∷ token (k.Sign 1) 12 ∷ token (k.Sign 1) 13 ∷ token (k.Sign 3) 14 ∷ token (k.Sign 6) 15 ∷ token k.End 16 ∷ []) ≡ Syntax 5
default_parameter_of_a_method = refl

-- ({a(‸...b) {}});
rest_parameter_of_a_method : answer (token (k.Sign 2) 0 ∷ token (k.Sign 0) 1 ∷ token (k.Name (codes "a")) 2 ∷ token (k.Sign 2) 3 ∷ token (k.Sign 8) 4 ∷ token (k.Sign 8) 5 ∷ token (k.Sign 8) 6 ∷ token (k.Name (codes "b")) 7 ∷ token (k.Sign 3) 8 ∷ token (k.Sign 0) 10 ∷ token (k.Sign 1) 11 ∷ token (k.Sign 1) 12 ∷ token (k.Sign 3) 13 ∷ token (k.Sign 6) 14 ∷ token k.End 15 ∷ []) ≡ Syntax 4
rest_parameter_of_a_method = refl

-- function f(‸{a}) {}
destructured_parameter : answer (token (k.Keyword 18) 0 ∷ token (k.Name (codes "f")) 9 ∷ token (k.Sign 2) 10 ∷ token (k.Sign 0) 11 ∷ token (k.Name (codes "a")) 12 ∷ token (k.Sign 1) 13 ∷ token (k.Sign 3) 14 ∷ token (k.Sign 0) 16 ∷ token (k.Sign 1) 17 ∷ token k.End 18 ∷ []) ≡ Syntax 3
destructured_parameter = refl

-- function ‸* f() {}
generator : answer (token (k.Keyword 18) 0 ∷ token (k.Sign 19) 9 ∷ token (k.Name (codes "f")) 11 ∷ token (k.Sign 2) 12 ∷ token (k.Sign 3) 13 ∷ token (k.Sign 0) 15 ∷ token (k.Sign 1) 16 ∷ token k.End 17 ∷ []) ≡ Syntax 1
generator = refl

-- (function ‸* () {});
generator_expression : answer (token (k.Sign 2) 0 ∷ token (k.Keyword 18) 1 ∷ token (k.Sign 19) 10 ∷ token (k.Sign 2) 12 ∷ token (k.Sign 3) 13 ∷ token (k.Sign 0) 15 ∷ token (k.Sign 1) 16 ∷ token (k.Sign 3) 17 ∷ token (k.Sign 6) 18 ∷ token k.End 19 ∷ []) ≡ Syntax 2
generator_expression = refl

-- function f() {‸
function_cut_off : answer (token (k.Keyword 18) 0 ∷ token (k.Name (codes "f")) 9 ∷ token (k.Sign 2) 10 ∷ token (k.Sign 3) 11 ∷ token (k.Sign 0) 13 ∷ token k.End 14 ∷ []) ≡ Syntax 5
function_cut_off = refl

-- (function () {}‸;
function_expression_cut_off : answer (token (k.Sign 2) 0 ∷ token (k.Keyword 18) 1 ∷ token (k.Sign 2) 10 ∷ token (k.Sign 3) 11 ∷ token (k.Sign 0) 13 ∷ token (k.Sign 1) 14 ∷ token (k.Sign 6) 15 ∷ token k.End 16 ∷ []) ≡ Syntax 6
function_expression_cut_off = refl

-- function f() {}()‸;
function_statement_and_a_head : answer (token (k.Keyword 18) 0 ∷ token (k.Name (codes "f")) 9 ∷ token (k.Sign 2) 10 ∷ token (k.Sign 3) 11 ∷ token (k.Sign 0) 13 ∷ token (k.Sign 1) 14 ∷ token (k.Sign 2) 15 ∷ token (k.Sign 3) 16 ∷ token (k.Sign 6) 17 ∷ token k.End 18 ∷ []) ≡ Syntax 8
function_statement_and_a_head = refl

-- function f(‸1) {}
number_as_a_parameter : answer (token (k.Keyword 18) 0 ∷ token (k.Name (codes "f")) 9 ∷ token (k.Sign 2) 10 ∷ token (k.Number (pos 1)) 11 ∷ token (k.Sign 3) 12 ∷ token (k.Sign 0) 14 ∷ token (k.Sign 1) 15 ∷ token k.End 16 ∷ []) ≡ Syntax 3
number_as_a_parameter = refl

-- (a = 1) ‸=> a;
arrow_parameter_default : answer (token (k.Sign 2) 0 ∷ token (k.Name (codes "a")) 1 ∷ token (k.Sign 38) 3 ∷ token (k.Number (pos 1)) 5 ∷ token (k.Sign 3) 6 ∷ token (k.Sign 51) 8 ∷ token (k.Name (codes "a")) 11 ∷ token (k.Sign 6) 12 ∷ token k.End 13 ∷ []) ≡ Syntax 5
arrow_parameter_default = refl

-- ({a}) ‸=> a;
arrow_destructured : answer (token (k.Sign 2) 0 ∷ token (k.Sign 0) 1 ∷ token (k.Name (codes "a")) 2 ∷ token (k.Sign 1) 3 ∷ token (k.Sign 3) 4 ∷ token (k.Sign 51) 6 ∷ token (k.Name (codes "a")) 9 ∷ token (k.Sign 6) 10 ∷ token k.End 11 ∷ []) ≡ Syntax 5
arrow_destructured = refl

-- (‸...a) => a;
arrow_rest : answer (token (k.Sign 2) 0 ∷ token (k.Sign 8) 1 ∷ token (k.Sign 8) 2 ∷ token (k.Sign 8) 3 ∷ token (k.Name (codes "a")) 4 ∷ token (k.Sign 3) 5 ∷ token (k.Sign 51) 7 ∷ token (k.Name (codes "a")) 10 ∷ token (k.Sign 6) 11 ∷ token k.End 12 ∷ []) ≡ Syntax 1
arrow_rest = refl

-- class ‸{}
class_without_a_name : answer (token (k.Keyword 4) 0 ∷ token (k.Sign 0) 6 ∷ token (k.Sign 1) 7 ∷ token k.End 8 ∷ []) ≡ Syntax 1
class_without_a_name = refl

-- class ‸if {}
class_with_a_keyword_name : answer (token (k.Keyword 4) 0 ∷ token (k.Keyword 19) 6 ∷ token (k.Sign 0) 9 ∷ token (k.Sign 1) 10 ∷ token k.End 11 ∷ []) ≡ Syntax 1
class_with_a_keyword_name = refl

-- class A‸;
class_without_a_body : answer (token (k.Keyword 4) 0 ∷ token (k.Name (codes "A")) 6 ∷ token (k.Sign 6) 7 ∷ token k.End 8 ∷ []) ≡ Syntax 2
class_without_a_body = refl

-- class A extends ‸-a {}
class_of_a_sign : answer (token (k.Keyword 4) 0 ∷ token (k.Name (codes "A")) 6 ∷ token (k.Keyword 14) 8 ∷ token (k.Sign 18) 16 ∷ token (k.Name (codes "a")) 17 ∷ token (k.Sign 0) 19 ∷ token (k.Sign 1) 20 ∷ token k.End 21 ∷ []) ≡ Syntax 3
class_of_a_sign = refl

-- class A extends ‸++a {}
class_of_an_update : answer (token (k.Keyword 4) 0 ∷ token (k.Name (codes "A")) 6 ∷ token (k.Keyword 14) 8 ∷ token (k.Sign 23) 16 ∷ token (k.Name (codes "a")) 18 ∷ token (k.Sign 0) 20 ∷ token (k.Sign 1) 21 ∷ token k.End 22 ∷ []) ≡ Syntax 3
class_of_an_update = refl

-- class A extends a ‸=> a {}
class_of_an_arrow : answer (token (k.Keyword 4) 0 ∷ token (k.Name (codes "A")) 6 ∷ token (k.Keyword 14) 8 ∷ token (k.Name (codes "a")) 16 ∷ token (k.Sign 51) 18 ∷ token (k.Name (codes "a")) 21 ∷ token (k.Sign 0) 23 ∷ token (k.Sign 1) 24 ∷ token k.End 25 ∷ []) ≡ Syntax 4
class_of_an_arrow = refl

-- class A extends a‸, b {}
class_of_two : answer (token (k.Keyword 4) 0 ∷ token (k.Name (codes "A")) 6 ∷ token (k.Keyword 14) 8 ∷ token (k.Name (codes "a")) 16 ∷ token (k.Sign 7) 17 ∷ token (k.Name (codes "b")) 19 ∷ token (k.Sign 0) 21 ∷ token (k.Sign 1) 22 ∷ token k.End 23 ∷ []) ≡ Syntax 4
class_of_two = refl

-- class A extends a ‸+ b {}
class_of_a_sum : answer (token (k.Keyword 4) 0 ∷ token (k.Name (codes "A")) 6 ∷ token (k.Keyword 14) 8 ∷ token (k.Name (codes "a")) 16 ∷ token (k.Sign 17) 18 ∷ token (k.Name (codes "b")) 20 ∷ token (k.Sign 0) 22 ∷ token (k.Sign 1) 23 ∷ token k.End 24 ∷ []) ≡ Syntax 4
class_of_a_sum = refl

-- class A extends ‸;
class_of_nothing : answer (token (k.Keyword 4) 0 ∷ token (k.Name (codes "A")) 6 ∷ token (k.Keyword 14) 8 ∷ token (k.Sign 6) 16 ∷ token k.End 17 ∷ []) ≡ Syntax 3
class_of_nothing = refl

-- class A extends {}‸;
class_of_an_object_alone : answer (token (k.Keyword 4) 0 ∷ token (k.Name (codes "A")) 6 ∷ token (k.Keyword 14) 8 ∷ token (k.Sign 0) 16 ∷ token (k.Sign 1) 17 ∷ token (k.Sign 6) 18 ∷ token k.End 19 ∷ []) ≡ Syntax 5
class_of_an_object_alone = refl

-- class A { a() {}‸, b() {} }
class_with_commas : answer (token (k.Keyword 4) 0 ∷ token (k.Name (codes "A")) 6 ∷ token (k.Sign 0) 8 ∷ token (k.Name (codes "a")) 10 ∷ token (k.Sign 2) 11 ∷ token (k.Sign 3) 12 ∷ token (k.Sign 0) 14 ∷ token (k.Sign 1) 15 ∷ token (k.Sign 7) 16 ∷ token (k.Name (codes "b")) 18 ∷ token (k.Sign 2) 19 ∷ token (k.Sign 3) 20 ∷ token (k.Sign 0) 22 ∷ token (k.Sign 1) 23 ∷ token (k.Sign 1) 25 ∷ token k.End 26 ∷ []) ≡ Syntax 8
class_with_commas = refl

-- class A { a‸: 1 }
class_value : answer (token (k.Keyword 4) 0 ∷ token (k.Name (codes "A")) 6 ∷ token (k.Sign 0) 8 ∷ token (k.Name (codes "a")) 10 ∷ token (k.Sign 37) 11 ∷ token (k.Number (pos 1)) 13 ∷ token (k.Sign 1) 15 ∷ token k.End 16 ∷ []) ≡ Syntax 4
class_value = refl

-- class A { a ‸= 1; }
class_field : answer (token (k.Keyword 4) 0 ∷ token (k.Name (codes "A")) 6 ∷ token (k.Sign 0) 8 ∷ token (k.Name (codes "a")) 10 ∷ token (k.Sign 38) 12 ∷ token (k.Number (pos 1)) 14 ∷ token (k.Sign 6) 15 ∷ token (k.Sign 1) 17 ∷ token k.End 18 ∷ []) ≡ Syntax 4
class_field = refl

-- class A { a‸; }
class_field_alone : answer (token (k.Keyword 4) 0 ∷ token (k.Name (codes "A")) 6 ∷ token (k.Sign 0) 8 ∷ token (k.Name (codes "a")) 10 ∷ token (k.Sign 6) 11 ∷ token (k.Sign 1) 13 ∷ token k.End 14 ∷ []) ≡ Syntax 4
class_field_alone = refl

-- class A { static ‸{} }
static_block : answer (token (k.Keyword 4) 0 ∷ token (k.Name (codes "A")) 6 ∷ token (k.Sign 0) 8 ∷ token (k.Keyword 33) 10 ∷ token (k.Sign 0) 17 ∷ token (k.Sign 1) 18 ∷ token (k.Sign 1) 20 ∷ token k.End 21 ∷ []) ≡ Syntax 4
static_block = refl

-- class A { static static ‸a() {} }
static_twice : answer (token (k.Keyword 4) 0 ∷ token (k.Name (codes "A")) 6 ∷ token (k.Sign 0) 8 ∷ token (k.Keyword 33) 10 ∷ token (k.Keyword 33) 17 ∷ token (k.Name (codes "a")) 24 ∷ token (k.Sign 2) 25 ∷ token (k.Sign 3) 26 ∷ token (k.Sign 0) 28 ∷ token (k.Sign 1) 29 ∷ token (k.Sign 1) 31 ∷ token k.End 32 ∷ []) ≡ Syntax 5
static_twice = refl

-- class A { static a‸; }
static_field : answer (token (k.Keyword 4) 0 ∷ token (k.Name (codes "A")) 6 ∷ token (k.Sign 0) 8 ∷ token (k.Keyword 33) 10 ∷ token (k.Name (codes "a")) 17 ∷ token (k.Sign 6) 18 ∷ token (k.Sign 1) 20 ∷ token k.End 21 ∷ []) ≡ Syntax 5
static_field = refl

-- class A { get a(‸b) {} }
class_getter_with_a_parameter : answer (token (k.Keyword 4) 0 ∷ token (k.Name (codes "A")) 6 ∷ token (k.Sign 0) 8 ∷ token (k.Name (codes "get")) 10 ∷ token (k.Name (codes "a")) 14 ∷ token (k.Sign 2) 15 ∷ token (k.Name (codes "b")) 16 ∷ token (k.Sign 3) 17 ∷ token (k.Sign 0) 19 ∷ token (k.Sign 1) 20 ∷ token (k.Sign 1) 22 ∷ token k.End 23 ∷ []) ≡ Syntax 6
class_getter_with_a_parameter = refl

-- class A { set a(‸) {} }
class_setter_without_a_parameter : answer (token (k.Keyword 4) 0 ∷ token (k.Name (codes "A")) 6 ∷ token (k.Sign 0) 8 ∷ token (k.Name (codes "set")) 10 ∷ token (k.Name (codes "a")) 14 ∷ token (k.Sign 2) 15 ∷ token (k.Sign 3) 16 ∷ token (k.Sign 0) 18 ∷ token (k.Sign 1) 19 ∷ token (k.Sign 1) 21 ∷ token k.End 22 ∷ []) ≡ Syntax 6
class_setter_without_a_parameter = refl

-- class A {‸
class_cut_off : answer (token (k.Keyword 4) 0 ∷ token (k.Name (codes "A")) 6 ∷ token (k.Sign 0) 8 ∷ token k.End 9 ∷ []) ≡ Syntax 3
class_cut_off = refl

-- class A { ‸* a() {} }
class_generator : answer (token (k.Keyword 4) 0 ∷ token (k.Name (codes "A")) 6 ∷ token (k.Sign 0) 8 ∷ token (k.Sign 19) 10 ∷ token (k.Name (codes "a")) 12 ∷ token (k.Sign 2) 13 ∷ token (k.Sign 3) 14 ∷ token (k.Sign 0) 16 ∷ token (k.Sign 1) 17 ∷ token (k.Sign 1) 19 ∷ token k.End 20 ∷ []) ≡ Syntax 3
class_generator = refl

-- class A { async ‸a() {} }
class_async_method : answer (token (k.Keyword 4) 0 ∷ token (k.Name (codes "A")) 6 ∷ token (k.Sign 0) 8 ∷ token (k.Name (codes "async")) 10 ∷ token (k.Name (codes "a")) 16 ∷ token (k.Sign 2) 17 ∷ token (k.Sign 3) 18 ∷ token (k.Sign 0) 20 ∷ token (k.Sign 1) 21 ∷ token (k.Sign 1) 23 ∷ token k.End 24 ∷ []) ≡ Syntax 4
class_async_method = refl

-- class A { ‸...a }
class_spread : answer (token (k.Keyword 4) 0 ∷ token (k.Name (codes "A")) 6 ∷ token (k.Sign 0) 8 ∷ token (k.Sign 8) 10 ∷ token (k.Sign 8) 11 ∷ token (k.Sign 8) 12 ∷ token (k.Name (codes "a")) 13 ∷ token (k.Sign 1) 15 ∷ token k.End 16 ∷ []) ≡ Syntax 3
class_spread = refl

-- class A { get‸; }
accessor_without_a_key : answer (token (k.Keyword 4) 0 ∷ token (k.Name (codes "A")) 6 ∷ token (k.Sign 0) 8 ∷ token (k.Name (codes "get")) 10 ∷ token (k.Sign 6) 13 ∷ token (k.Sign 1) 15 ∷ token k.End 16 ∷ []) ≡ Syntax 4
accessor_without_a_key = refl

-- class A { get set ‸a() {} }
two_accessor_words : answer (token (k.Keyword 4) 0 ∷ token (k.Name (codes "A")) 6 ∷ token (k.Sign 0) 8 ∷ token (k.Name (codes "get")) 10 ∷ token (k.Name (codes "set")) 14 ∷ token (k.Name (codes "a")) 18 ∷ token (k.Sign 2) 19 ∷ token (k.Sign 3) 20 ∷ token (k.Sign 0) 22 ∷ token (k.Sign 1) 23 ∷ token (k.Sign 1) 25 ∷ token k.End 26 ∷ []) ≡ Syntax 5
two_accessor_words = refl

-- class A extends a‸
class_behind_extends_cut_off : answer (token (k.Keyword 4) 0 ∷ token (k.Name (codes "A")) 6 ∷ token (k.Keyword 14) 8 ∷ token (k.Name (codes "a")) 16 ∷ token k.End 17 ∷ []) ≡ Syntax 4
class_behind_extends_cut_off = refl

-- (class A ‸B {});
class_expression_with_two_names : answer (token (k.Sign 2) 0 ∷ token (k.Keyword 4) 1 ∷ token (k.Name (codes "A")) 7 ∷ token (k.Name (codes "B")) 9 ∷ token (k.Sign 0) 11 ∷ token (k.Sign 1) 12 ∷ token (k.Sign 3) 13 ∷ token (k.Sign 6) 14 ∷ token k.End 15 ∷ []) ≡ Syntax 3
class_expression_with_two_names = refl

-- class A { [a‸, b]() {} }
comma_in_a_computed_key_of_a_class : answer (token (k.Keyword 4) 0 ∷ token (k.Name (codes "A")) 6 ∷ token (k.Sign 0) 8 ∷ token (k.Sign 4) 10 ∷ token (k.Name (codes "a")) 11 ∷ token (k.Sign 7) 12 ∷ token (k.Name (codes "b")) 14 ∷ token (k.Sign 5) 15 ∷ token (k.Sign 2) 16 ∷ token (k.Sign 3) 17 ∷ token (k.Sign 0) 19 ∷ token (k.Sign 1) 20 ∷ token (k.Sign 1) 22 ∷ token k.End 23 ∷ []) ≡ Syntax 5
comma_in_a_computed_key_of_a_class = refl
