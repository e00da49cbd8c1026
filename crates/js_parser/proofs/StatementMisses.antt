-- Texts that no module begins with: the place of the first token with which none does, in statements.
use Rattle.std.proofs.Common.{◌≡◌, refl, true, [], ◌∷◌, codes, pos}
use Rattle.es_model.specs.declared.token.TokenKind.TheVariants as k
use Rattle.js_parser.proofs.Rows.{token, lined}
use Rattle.js_parser.specs.Machine.{answer, Syntax}

-- ‸var a;
var_statement : answer (token (k.Keyword 41) 0 ∷ token (k.Name (codes "a")) 4 ∷ token (k.Sign 6) 5 ∷ token k.End 6 ∷ []) ≡ Syntax 0
var_statement = refl

-- a‸: b;
label : answer (token (k.Name (codes "a")) 0 ∷ token (k.Sign 37) 1 ∷ token (k.Name (codes "b")) 3 ∷ token (k.Sign 6) 4 ∷ token k.End 5 ∷ []) ≡ Syntax 1
label = refl

-- for (let a ‸in b) ;
for_in_of_a_name : answer (token (k.Keyword 17) 0 ∷ token (k.Sign 2) 4 ∷ token (k.Keyword 25) 5 ∷ token (k.Name (codes "a")) 9 ∷ token (k.Keyword 22) 11 ∷ token (k.Name (codes "b")) 14 ∷ token (k.Sign 3) 15 ∷ token (k.Sign 6) 17 ∷ token k.End 18 ∷ []) ≡ Syntax 4
for_in_of_a_name = refl

-- for (a in b‸) ;
for_in_of_an_expression : answer (token (k.Keyword 17) 0 ∷ token (k.Sign 2) 4 ∷ token (k.Name (codes "a")) 5 ∷ token (k.Keyword 22) 7 ∷ token (k.Name (codes "b")) 10 ∷ token (k.Sign 3) 11 ∷ token (k.Sign 6) 13 ∷ token k.End 14 ∷ []) ≡ Syntax 5
for_in_of_an_expression = refl

-- for (const a ‸of b) ;
for_of : answer (token (k.Keyword 17) 0 ∷ token (k.Sign 2) 4 ∷ token (k.Keyword 5) 5 ∷ token (k.Name (codes "a")) 11 ∷ token (k.Name (codes "of")) 13 ∷ token (k.Name (codes "b")) 16 ∷ token (k.Sign 3) 17 ∷ token (k.Sign 6) 19 ∷ token k.End 20 ∷ []) ≡ Syntax 4
for_of = refl

-- for (a ‸of b) ;
for_of_a_name : answer (token (k.Keyword 17) 0 ∷ token (k.Sign 2) 4 ∷ token (k.Name (codes "a")) 5 ∷ token (k.Name (codes "of")) 7 ∷ token (k.Name (codes "b")) 10 ∷ token (k.Sign 3) 11 ∷ token (k.Sign 6) 13 ∷ token k.End 14 ∷ []) ≡ Syntax 3
for_of_a_name = refl

-- for ([a] ‸of b) ;
for_of_an_array : answer (token (k.Keyword 17) 0 ∷ token (k.Sign 2) 4 ∷ token (k.Sign 4) 5 ∷ token (k.Name (codes "a")) 6 ∷ token (k.Sign 5) 7 ∷ token (k.Name (codes "of")) 9 ∷ token (k.Name (codes "b")) 12 ∷ token (k.Sign 3) 13 ∷ token (k.Sign 6) 15 ∷ token k.End 16 ∷ []) ≡ Syntax 5
for_of_an_array = refl

-- for (let ‸[a] of b) ;
for_of_a_destructured_array : answer (token (k.Keyword 17) 0 ∷ token (k.Sign 2) 4 ∷ token (k.Keyword 25) 5 ∷ token (k.Sign 4) 9 ∷ token (k.Name (codes "a")) 10 ∷ token (k.Sign 5) 11 ∷ token (k.Name (codes "of")) 13 ∷ token (k.Name (codes "b")) 16 ∷ token (k.Sign 3) 17 ∷ token (k.Sign 6) 19 ∷ token k.End 20 ∷ []) ≡ Syntax 3
for_of_a_destructured_array = refl

-- for ‸await (a of b) ;
for_await : answer (token (k.Keyword 17) 0 ∷ token (k.Keyword 0) 4 ∷ token (k.Sign 2) 10 ∷ token (k.Name (codes "a")) 11 ∷ token (k.Name (codes "of")) 13 ∷ token (k.Name (codes "b")) 16 ∷ token (k.Sign 3) 17 ∷ token (k.Sign 6) 19 ∷ token k.End 20 ∷ []) ≡ Syntax 1
for_await = refl

-- let ‸{a} = b;
destructured_object : answer (token (k.Keyword 25) 0 ∷ token (k.Sign 0) 4 ∷ token (k.Name (codes "a")) 5 ∷ token (k.Sign 1) 6 ∷ token (k.Sign 38) 8 ∷ token (k.Name (codes "b")) 10 ∷ token (k.Sign 6) 11 ∷ token k.End 12 ∷ []) ≡ Syntax 1
destructured_object = refl

-- let ‸[a] = b;
destructured_array : answer (token (k.Keyword 25) 0 ∷ token (k.Sign 4) 4 ∷ token (k.Name (codes "a")) 5 ∷ token (k.Sign 5) 6 ∷ token (k.Sign 38) 8 ∷ token (k.Name (codes "b")) 10 ∷ token (k.Sign 6) 11 ∷ token k.End 12 ∷ []) ≡ Syntax 1
destructured_array = refl

-- let a ‸let b;
names_without_a_line_break : answer (token (k.Keyword 25) 0 ∷ token (k.Name (codes "a")) 4 ∷ token (k.Keyword 25) 6 ∷ token (k.Name (codes "b")) 10 ∷ token (k.Sign 6) 11 ∷ token k.End 12 ∷ []) ≡ Syntax 2
names_without_a_line_break = refl

-- break ‸a;
name_behind_break : answer (token (k.Keyword 1) 0 ∷ token (k.Name (codes "a")) 6 ∷ token (k.Sign 6) 7 ∷ token k.End 8 ∷ []) ≡ Syntax 1
name_behind_break = refl

-- continue ‸1;
number_behind_continue : answer (token (k.Keyword 6) 0 ∷ token (k.Number (pos 1)) 9 ∷ token (k.Sign 6) 10 ∷ token k.End 11 ∷ []) ≡ Syntax 1
number_behind_continue = refl

-- throw⏎‸a;
line_break_behind_throw : answer (token (k.Keyword 37) 0 ∷ lined (k.Name (codes "a")) 6 ∷ token (k.Sign 6) 7 ∷ token k.End 8 ∷ []) ≡ Syntax 1
line_break_behind_throw = refl

-- throw‸;
throw_of_nothing : answer (token (k.Keyword 37) 0 ∷ token (k.Sign 6) 5 ∷ token k.End 6 ∷ []) ≡ Syntax 1
throw_of_nothing = refl

-- return a ‸b;
name_behind_a_return : answer (token (k.Keyword 32) 0 ∷ token (k.Name (codes "a")) 7 ∷ token (k.Name (codes "b")) 9 ∷ token (k.Sign 6) 10 ∷ token k.End 11 ∷ []) ≡ Syntax 2
name_behind_a_return = refl

-- throw a ‸b
name_behind_a_throw : answer (token (k.Keyword 37) 0 ∷ token (k.Name (codes "a")) 6 ∷ token (k.Name (codes "b")) 8 ∷ token k.End 9 ∷ []) ≡ Syntax 2
name_behind_a_throw = refl

-- let a = 1 ‸b;
name_behind_a_declaration : answer (token (k.Keyword 25) 0 ∷ token (k.Name (codes "a")) 4 ∷ token (k.Sign 38) 6 ∷ token (k.Number (pos 1)) 8 ∷ token (k.Name (codes "b")) 10 ∷ token (k.Sign 6) 11 ∷ token k.End 12 ∷ []) ≡ Syntax 4
name_behind_a_declaration = refl

-- let a⏎‸(b);
paren_behind_a_declared_name : answer (token (k.Keyword 25) 0 ∷ token (k.Name (codes "a")) 4 ∷ lined (k.Sign 2) 6 ∷ token (k.Name (codes "b")) 7 ∷ token (k.Sign 3) 8 ∷ token (k.Sign 6) 9 ∷ token k.End 10 ∷ []) ≡ Syntax 2
paren_behind_a_declared_name = refl

-- let a⏎‸[b];
declared_name_and_a_bracket : answer (token (k.Keyword 25) 0 ∷ token (k.Name (codes "a")) 4 ∷ lined (k.Sign 4) 6 ∷ token (k.Name (codes "b")) 7 ∷ token (k.Sign 5) 8 ∷ token (k.Sign 6) 9 ∷ token k.End 10 ∷ []) ≡ Syntax 2
declared_name_and_a_bracket = refl

-- let a⏎‸+ b;
declared_name_and_a_sign : answer (token (k.Keyword 25) 0 ∷ token (k.Name (codes "a")) 4 ∷ lined (k.Sign 17) 6 ∷ token (k.Name (codes "b")) 8 ∷ token (k.Sign 6) 9 ∷ token k.End 10 ∷ []) ≡ Syntax 2
declared_name_and_a_sign = refl

-- let a⏎‸== b;
declared_name_and_an_equal : answer (token (k.Keyword 25) 0 ∷ token (k.Name (codes "a")) 4 ∷ lined (k.Sign 13) 6 ∷ token (k.Name (codes "b")) 9 ∷ token (k.Sign 6) 10 ∷ token k.End 11 ∷ []) ≡ Syntax 2
declared_name_and_an_equal = refl

-- let a⏎‸|| b;
declared_name_and_an_or : answer (token (k.Keyword 25) 0 ∷ token (k.Name (codes "a")) 4 ∷ lined (k.Sign 34) 6 ∷ token (k.Name (codes "b")) 9 ∷ token (k.Sign 6) 10 ∷ token k.End 11 ∷ []) ≡ Syntax 2
declared_name_and_an_or = refl

-- let a⏎‸instanceof b;
declared_name_and_an_instanceof : answer (token (k.Keyword 25) 0 ∷ token (k.Name (codes "a")) 4 ∷ lined (k.Keyword 23) 6 ∷ token (k.Name (codes "b")) 17 ∷ token (k.Sign 6) 18 ∷ token k.End 19 ∷ []) ≡ Syntax 2
declared_name_and_an_instanceof = refl

-- let a⏎‸** b;
declared_name_and_a_power : answer (token (k.Keyword 25) 0 ∷ token (k.Name (codes "a")) 4 ∷ lined (k.Sign 22) 6 ∷ token (k.Name (codes "b")) 9 ∷ token (k.Sign 6) 10 ∷ token k.End 11 ∷ []) ≡ Syntax 2
declared_name_and_a_power = refl

-- let a⏎‸+= b;
declared_name_and_an_assignment : answer (token (k.Keyword 25) 0 ∷ token (k.Name (codes "a")) 4 ∷ lined (k.Sign 39) 6 ∷ token (k.Name (codes "b")) 9 ∷ token (k.Sign 6) 10 ∷ token k.End 11 ∷ []) ≡ Syntax 2
declared_name_and_an_assignment = refl

-- let a⏎‸.b;
declared_name_and_a_point : answer (token (k.Keyword 25) 0 ∷ token (k.Name (codes "a")) 4 ∷ lined (k.Sign 8) 6 ∷ token (k.Name (codes "b")) 7 ∷ token (k.Sign 6) 8 ∷ token k.End 9 ∷ []) ≡ Syntax 2
declared_name_and_a_point = refl

-- let a⏎‸=> b;
declared_name_and_an_arrow : answer (token (k.Keyword 25) 0 ∷ token (k.Name (codes "a")) 4 ∷ lined (k.Sign 51) 6 ∷ token (k.Name (codes "b")) 9 ∷ token (k.Sign 6) 10 ∷ token k.End 11 ∷ []) ≡ Syntax 2
declared_name_and_an_arrow = refl

-- let a⏎‸`b`;
declared_name_and_a_template : answer (token (k.Keyword 25) 0 ∷ token (k.Name (codes "a")) 4 ∷ lined (k.Template true true (codes "b")) 6 ∷ token (k.Sign 6) 9 ∷ token k.End 10 ∷ []) ≡ Syntax 2
declared_name_and_a_template = refl

-- let a⏎‸: b;
declared_name_and_a_colon : answer (token (k.Keyword 25) 0 ∷ token (k.Name (codes "a")) 4 ∷ lined (k.Sign 37) 6 ∷ token (k.Name (codes "b")) 8 ∷ token (k.Sign 6) 9 ∷ token k.End 10 ∷ []) ≡ Syntax 2
declared_name_and_a_colon = refl

-- a ‸b++;
update_on_the_same_line : answer (token (k.Name (codes "a")) 0 ∷ token (k.Name (codes "b")) 2 ∷ token (k.Sign 23) 3 ∷ token (k.Sign 6) 5 ∷ token k.End 6 ∷ []) ≡ Syntax 1
update_on_the_same_line = refl

-- a ‸{}
brace_on_the_same_line : answer (token (k.Name (codes "a")) 0 ∷ token (k.Sign 0) 2 ∷ token (k.Sign 1) 3 ∷ token k.End 4 ∷ []) ≡ Syntax 1
brace_on_the_same_line = refl

-- do a ‸while (b);
value_before_do_while : answer (token (k.Keyword 10) 0 ∷ token (k.Name (codes "a")) 3 ∷ token (k.Keyword 43) 5 ∷ token (k.Sign 2) 11 ∷ token (k.Name (codes "b")) 12 ∷ token (k.Sign 3) 13 ∷ token (k.Sign 6) 14 ∷ token k.End 15 ∷ []) ≡ Syntax 2
value_before_do_while = refl

-- do a; ‸b;
statement_behind_a_do : answer (token (k.Keyword 10) 0 ∷ token (k.Name (codes "a")) 3 ∷ token (k.Sign 6) 4 ∷ token (k.Name (codes "b")) 6 ∷ token (k.Sign 6) 7 ∷ token k.End 8 ∷ []) ≡ Syntax 3
statement_behind_a_do = refl

-- do ; while ‸a;
do_without_a_condition : answer (token (k.Keyword 10) 0 ∷ token (k.Sign 6) 3 ∷ token (k.Keyword 43) 5 ∷ token (k.Name (codes "a")) 11 ∷ token (k.Sign 6) 12 ∷ token k.End 13 ∷ []) ≡ Syntax 3
do_without_a_condition = refl

-- do ; while (‸);
do_with_an_empty_condition : answer (token (k.Keyword 10) 0 ∷ token (k.Sign 6) 3 ∷ token (k.Keyword 43) 5 ∷ token (k.Sign 2) 11 ∷ token (k.Sign 3) 12 ∷ token (k.Sign 6) 13 ∷ token k.End 14 ∷ []) ≡ Syntax 4
do_with_an_empty_condition = refl

-- ‸else ;
else_alone : answer (token (k.Keyword 11) 0 ∷ token (k.Sign 6) 5 ∷ token k.End 6 ∷ []) ≡ Syntax 0
else_alone = refl

-- if (a) ; else ; ‸else ;
else_twice : answer (token (k.Keyword 19) 0 ∷ token (k.Sign 2) 3 ∷ token (k.Name (codes "a")) 4 ∷ token (k.Sign 3) 5 ∷ token (k.Sign 6) 7 ∷ token (k.Keyword 11) 9 ∷ token (k.Sign 6) 14 ∷ token (k.Keyword 11) 16 ∷ token (k.Sign 6) 21 ∷ token k.End 22 ∷ []) ≡ Syntax 7
else_twice = refl

-- if (a) b ‸else c;
value_before_else : answer (token (k.Keyword 19) 0 ∷ token (k.Sign 2) 3 ∷ token (k.Name (codes "a")) 4 ∷ token (k.Sign 3) 5 ∷ token (k.Name (codes "b")) 7 ∷ token (k.Keyword 11) 9 ∷ token (k.Name (codes "c")) 14 ∷ token (k.Sign 6) 15 ∷ token k.End 16 ∷ []) ≡ Syntax 5
value_before_else = refl

-- if ‸a ;
if_without_parentheses : answer (token (k.Keyword 19) 0 ∷ token (k.Name (codes "a")) 3 ∷ token (k.Sign 6) 5 ∷ token k.End 6 ∷ []) ≡ Syntax 1
if_without_parentheses = refl

-- if (‸) ;
if_with_an_empty_condition : answer (token (k.Keyword 19) 0 ∷ token (k.Sign 2) 3 ∷ token (k.Sign 3) 4 ∷ token (k.Sign 6) 6 ∷ token k.End 7 ∷ []) ≡ Syntax 2
if_with_an_empty_condition = refl

-- if (a) ‸else ;
if_without_a_statement : answer (token (k.Keyword 19) 0 ∷ token (k.Sign 2) 3 ∷ token (k.Name (codes "a")) 4 ∷ token (k.Sign 3) 5 ∷ token (k.Keyword 11) 7 ∷ token (k.Sign 6) 12 ∷ token k.End 13 ∷ []) ≡ Syntax 4
if_without_a_statement = refl

-- if (a) ‸let b;
declaration_in_an_if : answer (token (k.Keyword 19) 0 ∷ token (k.Sign 2) 3 ∷ token (k.Name (codes "a")) 4 ∷ token (k.Sign 3) 5 ∷ token (k.Keyword 25) 7 ∷ token (k.Name (codes "b")) 11 ∷ token (k.Sign 6) 12 ∷ token k.End 13 ∷ []) ≡ Syntax 4
declaration_in_an_if = refl

-- if (a) ; else ‸const b = 1;
const_in_an_else : answer (token (k.Keyword 19) 0 ∷ token (k.Sign 2) 3 ∷ token (k.Name (codes "a")) 4 ∷ token (k.Sign 3) 5 ∷ token (k.Sign 6) 7 ∷ token (k.Keyword 11) 9 ∷ token (k.Keyword 5) 14 ∷ token (k.Name (codes "b")) 20 ∷ token (k.Sign 38) 22 ∷ token (k.Number (pos 1)) 24 ∷ token (k.Sign 6) 25 ∷ token k.End 26 ∷ []) ≡ Syntax 6
const_in_an_else = refl

-- while (a) ‸class A {}
class_in_a_while : answer (token (k.Keyword 43) 0 ∷ token (k.Sign 2) 6 ∷ token (k.Name (codes "a")) 7 ∷ token (k.Sign 3) 8 ∷ token (k.Keyword 4) 10 ∷ token (k.Name (codes "A")) 16 ∷ token (k.Sign 0) 18 ∷ token (k.Sign 1) 19 ∷ token k.End 20 ∷ []) ≡ Syntax 4
class_in_a_while = refl

-- if (a) ‸function f() {}
function_in_an_if : answer (token (k.Keyword 19) 0 ∷ token (k.Sign 2) 3 ∷ token (k.Name (codes "a")) 4 ∷ token (k.Sign 3) 5 ∷ token (k.Keyword 18) 7 ∷ token (k.Name (codes "f")) 16 ∷ token (k.Sign 2) 17 ∷ token (k.Sign 3) 18 ∷ token (k.Sign 0) 20 ∷ token (k.Sign 1) 21 ∷ token k.End 22 ∷ []) ≡ Syntax 4
function_in_an_if = refl

-- for (;;) ‸const a = 1;
const_in_a_for : answer (token (k.Keyword 17) 0 ∷ token (k.Sign 2) 4 ∷ token (k.Sign 6) 5 ∷ token (k.Sign 6) 6 ∷ token (k.Sign 3) 7 ∷ token (k.Keyword 5) 9 ∷ token (k.Name (codes "a")) 15 ∷ token (k.Sign 38) 17 ∷ token (k.Number (pos 1)) 19 ∷ token (k.Sign 6) 20 ∷ token k.End 21 ∷ []) ≡ Syntax 5
const_in_a_for = refl

-- do ‸let a; while (b);
declaration_in_a_do : answer (token (k.Keyword 10) 0 ∷ token (k.Keyword 25) 3 ∷ token (k.Name (codes "a")) 7 ∷ token (k.Sign 6) 8 ∷ token (k.Keyword 43) 10 ∷ token (k.Sign 2) 16 ∷ token (k.Name (codes "b")) 17 ∷ token (k.Sign 3) 18 ∷ token (k.Sign 6) 19 ∷ token k.End 20 ∷ []) ≡ Syntax 1
declaration_in_a_do = refl

-- while ‸a ;
while_without_parentheses : answer (token (k.Keyword 43) 0 ∷ token (k.Name (codes "a")) 6 ∷ token (k.Sign 6) 8 ∷ token k.End 9 ∷ []) ≡ Syntax 1
while_without_parentheses = refl

-- while (a)‸
while_at_the_end : answer (token (k.Keyword 43) 0 ∷ token (k.Sign 2) 6 ∷ token (k.Name (codes "a")) 7 ∷ token (k.Sign 3) 8 ∷ token k.End 9 ∷ []) ≡ Syntax 4
while_at_the_end = refl

-- try {} ‸a;
try_without_guards : answer (token (k.Keyword 39) 0 ∷ token (k.Sign 0) 4 ∷ token (k.Sign 1) 5 ∷ token (k.Name (codes "a")) 7 ∷ token (k.Sign 6) 8 ∷ token k.End 9 ∷ []) ≡ Syntax 3
try_without_guards = refl

-- try ‸a;
try_of_a_value : answer (token (k.Keyword 39) 0 ∷ token (k.Name (codes "a")) 4 ∷ token (k.Sign 6) 5 ∷ token k.End 6 ∷ []) ≡ Syntax 1
try_of_a_value = refl

-- try {} catch (‸) {}
catch_with_empty_parentheses : answer (token (k.Keyword 39) 0 ∷ token (k.Sign 0) 4 ∷ token (k.Sign 1) 5 ∷ token (k.Keyword 3) 7 ∷ token (k.Sign 2) 13 ∷ token (k.Sign 3) 14 ∷ token (k.Sign 0) 16 ∷ token (k.Sign 1) 17 ∷ token k.End 18 ∷ []) ≡ Syntax 5
catch_with_empty_parentheses = refl

-- try {} catch (a‸, b) {}
catch_with_two_names : answer (token (k.Keyword 39) 0 ∷ token (k.Sign 0) 4 ∷ token (k.Sign 1) 5 ∷ token (k.Keyword 3) 7 ∷ token (k.Sign 2) 13 ∷ token (k.Name (codes "a")) 14 ∷ token (k.Sign 7) 15 ∷ token (k.Name (codes "b")) 17 ∷ token (k.Sign 3) 18 ∷ token (k.Sign 0) 20 ∷ token (k.Sign 1) 21 ∷ token k.End 22 ∷ []) ≡ Syntax 6
catch_with_two_names = refl

-- try {} catch ‸a;
catch_of_a_value : answer (token (k.Keyword 39) 0 ∷ token (k.Sign 0) 4 ∷ token (k.Sign 1) 5 ∷ token (k.Keyword 3) 7 ∷ token (k.Name (codes "a")) 13 ∷ token (k.Sign 6) 14 ∷ token k.End 15 ∷ []) ≡ Syntax 4
catch_of_a_value = refl

-- try {} finally {} ‸catch {}
catch_behind_finally : answer (token (k.Keyword 39) 0 ∷ token (k.Sign 0) 4 ∷ token (k.Sign 1) 5 ∷ token (k.Keyword 16) 7 ∷ token (k.Sign 0) 15 ∷ token (k.Sign 1) 16 ∷ token (k.Keyword 3) 18 ∷ token (k.Sign 0) 24 ∷ token (k.Sign 1) 25 ∷ token k.End 26 ∷ []) ≡ Syntax 6
catch_behind_finally = refl

-- try {} catch {} ‸catch {}
two_catches : answer (token (k.Keyword 39) 0 ∷ token (k.Sign 0) 4 ∷ token (k.Sign 1) 5 ∷ token (k.Keyword 3) 7 ∷ token (k.Sign 0) 13 ∷ token (k.Sign 1) 14 ∷ token (k.Keyword 3) 16 ∷ token (k.Sign 0) 22 ∷ token (k.Sign 1) 23 ∷ token k.End 24 ∷ []) ≡ Syntax 6
two_catches = refl

-- ‸finally {}
finally_alone : answer (token (k.Keyword 16) 0 ∷ token (k.Sign 0) 8 ∷ token (k.Sign 1) 9 ∷ token k.End 10 ∷ []) ≡ Syntax 0
finally_alone = refl

-- try {} catch (‸{a}) {}
catch_destructured : answer (token (k.Keyword 39) 0 ∷ token (k.Sign 0) 4 ∷ token (k.Sign 1) 5 ∷ token (k.Keyword 3) 7 ∷ token (k.Sign 2) 13 ∷ token (k.Sign 0) 14 ∷ token (k.Name (codes "a")) 15 ∷ token (k.Sign 1) 16 ∷ token (k.Sign 3) 17 ∷ token (k.Sign 0) 19 ∷ token (k.Sign 1) 20 ∷ token k.End 21 ∷ []) ≡ Syntax 5
catch_destructured = refl

-- switch (a) { default: ‸default: }
two_defaults : answer (token (k.Keyword 35) 0 ∷ token (k.Sign 2) 7 ∷ token (k.Name (codes "a")) 8 ∷ token (k.Sign 3) 9 ∷ token (k.Sign 0) 11 ∷ token (k.Keyword 8) 13 ∷ token (k.Sign 37) 20 ∷ token (k.Keyword 8) 22 ∷ token (k.Sign 37) 29 ∷ token (k.Sign 1) 31 ∷ token k.End 32 ∷ []) ≡ Syntax 7
two_defaults = refl

-- switch (a) { ‸a }
value_in_a_switch : answer (token (k.Keyword 35) 0 ∷ token (k.Sign 2) 7 ∷ token (k.Name (codes "a")) 8 ∷ token (k.Sign 3) 9 ∷ token (k.Sign 0) 11 ∷ token (k.Name (codes "a")) 13 ∷ token (k.Sign 1) 15 ∷ token k.End 16 ∷ []) ≡ Syntax 5
value_in_a_switch = refl

-- switch (a) { case ‸: }
case_without_a_value : answer (token (k.Keyword 35) 0 ∷ token (k.Sign 2) 7 ∷ token (k.Name (codes "a")) 8 ∷ token (k.Sign 3) 9 ∷ token (k.Sign 0) 11 ∷ token (k.Keyword 2) 13 ∷ token (k.Sign 37) 18 ∷ token (k.Sign 1) 20 ∷ token k.End 21 ∷ []) ≡ Syntax 6
case_without_a_value = refl

-- ‸case a:
case_outside : answer (token (k.Keyword 2) 0 ∷ token (k.Name (codes "a")) 5 ∷ token (k.Sign 37) 6 ∷ token k.End 7 ∷ []) ≡ Syntax 0
case_outside = refl

-- ‸default:
default_outside : answer (token (k.Keyword 8) 0 ∷ token (k.Sign 37) 7 ∷ token k.End 8 ∷ []) ≡ Syntax 0
default_outside = refl

-- switch (a) { case 1: { ‸case 2: } }
case_in_a_block : answer (token (k.Keyword 35) 0 ∷ token (k.Sign 2) 7 ∷ token (k.Name (codes "a")) 8 ∷ token (k.Sign 3) 9 ∷ token (k.Sign 0) 11 ∷ token (k.Keyword 2) 13 ∷ token (k.Number (pos 1)) 18 ∷ token (k.Sign 37) 19 ∷ token (k.Sign 0) 21 ∷ token (k.Keyword 2) 23 ∷ token (k.Number (pos 2)) 28 ∷ token (k.Sign 37) 29 ∷ token (k.Sign 1) 31 ∷ token (k.Sign 1) 33 ∷ token k.End 34 ∷ []) ≡ Syntax 9
case_in_a_block = refl

-- switch (a) ‸case b:
switch_without_braces : answer (token (k.Keyword 35) 0 ∷ token (k.Sign 2) 7 ∷ token (k.Name (codes "a")) 8 ∷ token (k.Sign 3) 9 ∷ token (k.Keyword 2) 11 ∷ token (k.Name (codes "b")) 16 ∷ token (k.Sign 37) 17 ∷ token k.End 18 ∷ []) ≡ Syntax 4
switch_without_braces = refl

-- switch (a) { case 1: b;‸
switch_cut_off : answer (token (k.Keyword 35) 0 ∷ token (k.Sign 2) 7 ∷ token (k.Name (codes "a")) 8 ∷ token (k.Sign 3) 9 ∷ token (k.Sign 0) 11 ∷ token (k.Keyword 2) 13 ∷ token (k.Number (pos 1)) 18 ∷ token (k.Sign 37) 19 ∷ token (k.Name (codes "b")) 21 ∷ token (k.Sign 6) 22 ∷ token k.End 23 ∷ []) ≡ Syntax 10
switch_cut_off = refl

-- switch (a) { default ‸1: }
default_with_a_value : answer (token (k.Keyword 35) 0 ∷ token (k.Sign 2) 7 ∷ token (k.Name (codes "a")) 8 ∷ token (k.Sign 3) 9 ∷ token (k.Sign 0) 11 ∷ token (k.Keyword 8) 13 ∷ token (k.Number (pos 1)) 21 ∷ token (k.Sign 37) 22 ∷ token (k.Sign 1) 24 ∷ token k.End 25 ∷ []) ≡ Syntax 6
default_with_a_value = refl

-- switch (a) { default: ; case 1: ; ‸default: }
two_defaults_apart : answer (token (k.Keyword 35) 0 ∷ token (k.Sign 2) 7 ∷ token (k.Name (codes "a")) 8 ∷ token (k.Sign 3) 9 ∷ token (k.Sign 0) 11 ∷ token (k.Keyword 8) 13 ∷ token (k.Sign 37) 20 ∷ token (k.Sign 6) 22 ∷ token (k.Keyword 2) 24 ∷ token (k.Number (pos 1)) 29 ∷ token (k.Sign 37) 30 ∷ token (k.Sign 6) 32 ∷ token (k.Keyword 8) 34 ∷ token (k.Sign 37) 41 ∷ token (k.Sign 1) 43 ∷ token k.End 44 ∷ []) ≡ Syntax 12
two_defaults_apart = refl

-- for (‸) ;
for_with_nothing : answer (token (k.Keyword 17) 0 ∷ token (k.Sign 2) 4 ∷ token (k.Sign 3) 5 ∷ token (k.Sign 6) 7 ∷ token k.End 8 ∷ []) ≡ Syntax 2
for_with_nothing = refl

-- for (;‸) ;
for_with_one_semicolon : answer (token (k.Keyword 17) 0 ∷ token (k.Sign 2) 4 ∷ token (k.Sign 6) 5 ∷ token (k.Sign 3) 6 ∷ token (k.Sign 6) 8 ∷ token k.End 9 ∷ []) ≡ Syntax 3
for_with_one_semicolon = refl

-- for (;;‸;) ;
for_with_three_semicolons : answer (token (k.Keyword 17) 0 ∷ token (k.Sign 2) 4 ∷ token (k.Sign 6) 5 ∷ token (k.Sign 6) 6 ∷ token (k.Sign 6) 7 ∷ token (k.Sign 3) 8 ∷ token (k.Sign 6) 10 ∷ token k.End 11 ∷ []) ≡ Syntax 4
for_with_three_semicolons = refl

-- for (let a‸) ;
for_of_a_name_alone : answer (token (k.Keyword 17) 0 ∷ token (k.Sign 2) 4 ∷ token (k.Keyword 25) 5 ∷ token (k.Name (codes "a")) 9 ∷ token (k.Sign 3) 10 ∷ token (k.Sign 6) 12 ∷ token k.End 13 ∷ []) ≡ Syntax 4
for_of_a_name_alone = refl

-- for (a‸) ;
for_of_a_value_alone : answer (token (k.Keyword 17) 0 ∷ token (k.Sign 2) 4 ∷ token (k.Name (codes "a")) 5 ∷ token (k.Sign 3) 6 ∷ token (k.Sign 6) 8 ∷ token k.End 9 ∷ []) ≡ Syntax 3
for_of_a_value_alone = refl

-- for (const a‸; ;) ;
for_const_without_a_value : answer (token (k.Keyword 17) 0 ∷ token (k.Sign 2) 4 ∷ token (k.Keyword 5) 5 ∷ token (k.Name (codes "a")) 11 ∷ token (k.Sign 6) 12 ∷ token (k.Sign 6) 14 ∷ token (k.Sign 3) 15 ∷ token (k.Sign 6) 17 ∷ token k.End 18 ∷ []) ≡ Syntax 4
for_const_without_a_value = refl

-- for (a⏎‸b;;) ;
for_with_a_line_break : answer (token (k.Keyword 17) 0 ∷ token (k.Sign 2) 4 ∷ token (k.Name (codes "a")) 5 ∷ lined (k.Name (codes "b")) 7 ∷ token (k.Sign 6) 8 ∷ token (k.Sign 6) 9 ∷ token (k.Sign 3) 10 ∷ token (k.Sign 6) 12 ∷ token k.End 13 ∷ []) ≡ Syntax 3
for_with_a_line_break = refl

-- for (let a⏎‸b;;) ;
for_declares_with_a_line_break : answer (token (k.Keyword 17) 0 ∷ token (k.Sign 2) 4 ∷ token (k.Keyword 25) 5 ∷ token (k.Name (codes "a")) 9 ∷ lined (k.Name (codes "b")) 11 ∷ token (k.Sign 6) 12 ∷ token (k.Sign 6) 13 ∷ token (k.Sign 3) 14 ∷ token (k.Sign 6) 16 ∷ token k.End 17 ∷ []) ≡ Syntax 4
for_declares_with_a_line_break = refl

-- for (‸var a;;) ;
for_var : answer (token (k.Keyword 17) 0 ∷ token (k.Sign 2) 4 ∷ token (k.Keyword 41) 5 ∷ token (k.Name (codes "a")) 9 ∷ token (k.Sign 6) 10 ∷ token (k.Sign 6) 11 ∷ token (k.Sign 3) 12 ∷ token (k.Sign 6) 14 ∷ token k.End 15 ∷ []) ≡ Syntax 2
for_var = refl

-- for (;;)‸
for_at_the_end : answer (token (k.Keyword 17) 0 ∷ token (k.Sign 2) 4 ∷ token (k.Sign 6) 5 ∷ token (k.Sign 6) 6 ∷ token (k.Sign 3) 7 ∷ token k.End 8 ∷ []) ≡ Syntax 5
for_at_the_end = refl

-- const a‸;
const_without_a_value : answer (token (k.Keyword 5) 0 ∷ token (k.Name (codes "a")) 6 ∷ token (k.Sign 6) 7 ∷ token k.End 8 ∷ []) ≡ Syntax 2
const_without_a_value = refl

-- const a = 1, b‸;
second_const_without_a_value : answer (token (k.Keyword 5) 0 ∷ token (k.Name (codes "a")) 6 ∷ token (k.Sign 38) 8 ∷ token (k.Number (pos 1)) 10 ∷ token (k.Sign 7) 11 ∷ token (k.Name (codes "b")) 13 ∷ token (k.Sign 6) 14 ∷ token k.End 15 ∷ []) ≡ Syntax 6
second_const_without_a_value = refl

-- const a‸, b = 1;
const_and_another : answer (token (k.Keyword 5) 0 ∷ token (k.Name (codes "a")) 6 ∷ token (k.Sign 7) 7 ∷ token (k.Name (codes "b")) 9 ∷ token (k.Sign 38) 11 ∷ token (k.Number (pos 1)) 13 ∷ token (k.Sign 6) 14 ∷ token k.End 15 ∷ []) ≡ Syntax 2
const_and_another = refl

-- let‸;
let_alone : answer (token (k.Keyword 25) 0 ∷ token (k.Sign 6) 3 ∷ token k.End 4 ∷ []) ≡ Syntax 1
let_alone = refl

-- let a,‸;
let_with_a_comma_behind : answer (token (k.Keyword 25) 0 ∷ token (k.Name (codes "a")) 4 ∷ token (k.Sign 7) 5 ∷ token (k.Sign 6) 6 ∷ token k.End 7 ∷ []) ≡ Syntax 3
let_with_a_comma_behind = refl

-- let a = ‸;
let_without_a_value : answer (token (k.Keyword 25) 0 ∷ token (k.Name (codes "a")) 4 ∷ token (k.Sign 38) 6 ∷ token (k.Sign 6) 8 ∷ token k.End 9 ∷ []) ≡ Syntax 3
let_without_a_value = refl

-- let ‸1;
let_of_a_number : answer (token (k.Keyword 25) 0 ∷ token (k.Number (pos 1)) 4 ∷ token (k.Sign 6) 5 ∷ token k.End 6 ∷ []) ≡ Syntax 1
let_of_a_number = refl

-- let ‸if;
let_of_a_keyword : answer (token (k.Keyword 25) 0 ∷ token (k.Keyword 19) 4 ∷ token (k.Sign 6) 6 ∷ token k.End 7 ∷ []) ≡ Syntax 1
let_of_a_keyword = refl

-- let a ‸+= 1;
let_with_a_sign : answer (token (k.Keyword 25) 0 ∷ token (k.Name (codes "a")) 4 ∷ token (k.Sign 39) 6 ∷ token (k.Number (pos 1)) 9 ∷ token (k.Sign 6) 10 ∷ token k.End 11 ∷ []) ≡ Syntax 2
let_with_a_sign = refl

-- {‸
block_cut_off : answer (token (k.Sign 0) 0 ∷ token k.End 1 ∷ []) ≡ Syntax 1
block_cut_off = refl

-- ‸}
brace_alone : answer (token (k.Sign 1) 0 ∷ token k.End 1 ∷ []) ≡ Syntax 0
brace_alone = refl

-- {}‸}
brace_too_many : answer (token (k.Sign 0) 0 ∷ token (k.Sign 1) 1 ∷ token (k.Sign 1) 2 ∷ token k.End 3 ∷ []) ≡ Syntax 2
brace_too_many = refl

-- ‸: a;
colon_alone : answer (token (k.Sign 37) 0 ∷ token (k.Name (codes "a")) 2 ∷ token (k.Sign 6) 3 ∷ token k.End 4 ∷ []) ≡ Syntax 0
colon_alone = refl

-- { ‸import "m"; }
import_in_a_block : answer (token (k.Sign 0) 0 ∷ token (k.Keyword 21) 2 ∷ token (k.String (codes "m")) 9 ∷ token (k.Sign 6) 12 ∷ token (k.Sign 1) 14 ∷ token k.End 15 ∷ []) ≡ Syntax 1
import_in_a_block = refl

-- { ‸export {}; }
export_in_a_block : answer (token (k.Sign 0) 0 ∷ token (k.Keyword 13) 2 ∷ token (k.Sign 0) 9 ∷ token (k.Sign 1) 10 ∷ token (k.Sign 6) 11 ∷ token (k.Sign 1) 13 ∷ token k.End 14 ∷ []) ≡ Syntax 1
export_in_a_block = refl

-- function f() { ‸export {}; }
export_in_a_function : answer (token (k.Keyword 18) 0 ∷ token (k.Name (codes "f")) 9 ∷ token (k.Sign 2) 10 ∷ token (k.Sign 3) 11 ∷ token (k.Sign 0) 13 ∷ token (k.Keyword 13) 15 ∷ token (k.Sign 0) 22 ∷ token (k.Sign 1) 23 ∷ token (k.Sign 6) 24 ∷ token (k.Sign 1) 26 ∷ token k.End 27 ∷ []) ≡ Syntax 5
export_in_a_function = refl

-- if (a) ‸import "m";
import_in_an_if : answer (token (k.Keyword 19) 0 ∷ token (k.Sign 2) 3 ∷ token (k.Name (codes "a")) 4 ∷ token (k.Sign 3) 5 ∷ token (k.Keyword 21) 7 ∷ token (k.String (codes "m")) 14 ∷ token (k.Sign 6) 17 ∷ token k.End 18 ∷ []) ≡ Syntax 4
import_in_an_if = refl

-- if (a)‸
empty_text_of_an_if : answer (token (k.Keyword 19) 0 ∷ token (k.Sign 2) 3 ∷ token (k.Name (codes "a")) 4 ∷ token (k.Sign 3) 5 ∷ token k.End 6 ∷ []) ≡ Syntax 4
empty_text_of_an_if = refl

-- a; ‸, b;
comma_in_a_statement : answer (token (k.Name (codes "a")) 0 ∷ token (k.Sign 6) 1 ∷ token (k.Sign 7) 3 ∷ token (k.Name (codes "b")) 5 ∷ token (k.Sign 6) 6 ∷ token k.End 7 ∷ []) ≡ Syntax 2
comma_in_a_statement = refl

-- while (a‸; b) ;
semicolon_in_a_condition : answer (token (k.Keyword 43) 0 ∷ token (k.Sign 2) 6 ∷ token (k.Name (codes "a")) 7 ∷ token (k.Sign 6) 8 ∷ token (k.Name (codes "b")) 10 ∷ token (k.Sign 3) 11 ∷ token (k.Sign 6) 13 ∷ token k.End 14 ∷ []) ≡ Syntax 3
semicolon_in_a_condition = refl

-- if (a) ; else ‸class B {}
class_behind_else : answer (token (k.Keyword 19) 0 ∷ token (k.Sign 2) 3 ∷ token (k.Name (codes "a")) 4 ∷ token (k.Sign 3) 5 ∷ token (k.Sign 6) 7 ∷ token (k.Keyword 11) 9 ∷ token (k.Keyword 4) 14 ∷ token (k.Name (codes "B")) 20 ∷ token (k.Sign 0) 22 ∷ token (k.Sign 1) 23 ∷ token k.End 24 ∷ []) ≡ Syntax 6
class_behind_else = refl

-- for (;;) ‸let a;
let_in_for : answer (token (k.Keyword 17) 0 ∷ token (k.Sign 2) 4 ∷ token (k.Sign 6) 5 ∷ token (k.Sign 6) 6 ∷ token (k.Sign 3) 7 ∷ token (k.Keyword 25) 9 ∷ token (k.Name (codes "a")) 13 ∷ token (k.Sign 6) 14 ∷ token k.End 15 ∷ []) ≡ Syntax 5
let_in_for = refl

-- for (const a = 1, b‸;;) ;
second_const_without_value_in_for : answer (token (k.Keyword 17) 0 ∷ token (k.Sign 2) 4 ∷ token (k.Keyword 5) 5 ∷ token (k.Name (codes "a")) 11 ∷ token (k.Sign 38) 13 ∷ token (k.Number (pos 1)) 15 ∷ token (k.Sign 7) 16 ∷ token (k.Name (codes "b")) 18 ∷ token (k.Sign 6) 19 ∷ token (k.Sign 6) 20 ∷ token (k.Sign 3) 21 ∷ token (k.Sign 6) 23 ∷ token k.End 24 ∷ []) ≡ Syntax 8
second_const_without_value_in_for = refl
