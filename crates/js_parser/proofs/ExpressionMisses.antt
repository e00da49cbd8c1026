-- Texts that no module begins with: the place of the first token with which none does, in expressions.
use Rattle.std.proofs.Common.{◌≡◌, refl, true, false, [], ◌∷◌, codes, pos}
use Rattle.es_model.specs.declared.token.TokenKind.TheVariants as k
use Rattle.js_parser.proofs.Rows.{token, lined}
use Rattle.js_parser.specs.Machine.{answer, Syntax}

-- -2 ‸** 2;
sign_of_a_power : answer (token (k.Sign 18) 0 ∷ token (k.Number (pos 2)) 1 ∷ token (k.Sign 22) 3 ∷ token (k.Number (pos 2)) 6 ∷ token (k.Sign 6) 7 ∷ token k.End 8 ∷ []) ≡ Syntax 2
sign_of_a_power = refl

-- typeof a ‸** 2;
typeof_of_a_power : answer (token (k.Keyword 40) 0 ∷ token (k.Name (codes "a")) 7 ∷ token (k.Sign 22) 9 ∷ token (k.Number (pos 2)) 12 ∷ token (k.Sign 6) 13 ∷ token k.End 14 ∷ []) ≡ Syntax 2
typeof_of_a_power = refl

-- 1 ?? 2 ‸|| 3;
or_behind_nullish : answer (token (k.Number (pos 1)) 0 ∷ token (k.Sign 35) 2 ∷ token (k.Number (pos 2)) 5 ∷ token (k.Sign 34) 7 ∷ token (k.Number (pos 3)) 10 ∷ token (k.Sign 6) 11 ∷ token k.End 12 ∷ []) ≡ Syntax 3
or_behind_nullish = refl

-- 1 || 2 ‸?? 3;
nullish_behind_or : answer (token (k.Number (pos 1)) 0 ∷ token (k.Sign 34) 2 ∷ token (k.Number (pos 2)) 5 ∷ token (k.Sign 35) 7 ∷ token (k.Number (pos 3)) 10 ∷ token (k.Sign 6) 11 ∷ token k.End 12 ∷ []) ≡ Syntax 3
nullish_behind_or = refl

-- 1 ?? 2 ‸&& 3;
and_behind_nullish : answer (token (k.Number (pos 1)) 0 ∷ token (k.Sign 35) 2 ∷ token (k.Number (pos 2)) 5 ∷ token (k.Sign 33) 7 ∷ token (k.Number (pos 3)) 10 ∷ token (k.Sign 6) 11 ∷ token k.End 12 ∷ []) ≡ Syntax 3
and_behind_nullish = refl

-- 1 && 2 ‸?? 3;
nullish_behind_and : answer (token (k.Number (pos 1)) 0 ∷ token (k.Sign 33) 2 ∷ token (k.Number (pos 2)) 5 ∷ token (k.Sign 35) 7 ∷ token (k.Number (pos 3)) 10 ∷ token (k.Sign 6) 11 ∷ token k.End 12 ∷ []) ≡ Syntax 3
nullish_behind_and = refl

-- a ? b‸;
conditional_without_colon : answer (token (k.Name (codes "a")) 0 ∷ token (k.Sign 36) 2 ∷ token (k.Name (codes "b")) 4 ∷ token (k.Sign 6) 5 ∷ token k.End 6 ∷ []) ≡ Syntax 3
conditional_without_colon = refl

-- a ? ‸: b;
conditional_without_value : answer (token (k.Name (codes "a")) 0 ∷ token (k.Sign 36) 2 ∷ token (k.Sign 37) 4 ∷ token (k.Name (codes "b")) 6 ∷ token (k.Sign 6) 7 ∷ token k.End 8 ∷ []) ≡ Syntax 2
conditional_without_value = refl

-- a + b ‸= c;
sum_assigned : answer (token (k.Name (codes "a")) 0 ∷ token (k.Sign 17) 2 ∷ token (k.Name (codes "b")) 4 ∷ token (k.Sign 38) 6 ∷ token (k.Name (codes "c")) 8 ∷ token (k.Sign 6) 9 ∷ token k.End 10 ∷ []) ≡ Syntax 3
sum_assigned = refl

-- a() ‸= 1;
call_assigned : answer (token (k.Name (codes "a")) 0 ∷ token (k.Sign 2) 1 ∷ token (k.Sign 3) 2 ∷ token (k.Sign 38) 4 ∷ token (k.Number (pos 1)) 6 ∷ token (k.Sign 6) 7 ∷ token k.End 8 ∷ []) ≡ Syntax 3
call_assigned = refl

-- 1 ‸= 2;
number_assigned : answer (token (k.Number (pos 1)) 0 ∷ token (k.Sign 38) 2 ∷ token (k.Number (pos 2)) 4 ∷ token (k.Sign 6) 5 ∷ token k.End 6 ∷ []) ≡ Syntax 1
number_assigned = refl

-- a ? b : c() ‸= d;
conditional_assigned : answer (token (k.Name (codes "a")) 0 ∷ token (k.Sign 36) 2 ∷ token (k.Name (codes "b")) 4 ∷ token (k.Sign 37) 6 ∷ token (k.Name (codes "c")) 8 ∷ token (k.Sign 2) 9 ∷ token (k.Sign 3) 10 ∷ token (k.Sign 38) 12 ∷ token (k.Name (codes "d")) 14 ∷ token (k.Sign 6) 15 ∷ token k.End 16 ∷ []) ≡ Syntax 7
conditional_assigned = refl

-- a++ ‸++;
updated_twice_behind : answer (token (k.Name (codes "a")) 0 ∷ token (k.Sign 23) 1 ∷ token (k.Sign 23) 4 ∷ token (k.Sign 6) 6 ∷ token k.End 7 ∷ []) ≡ Syntax 2
updated_twice_behind = refl

-- ++a ‸++;
updated_on_both_sides : answer (token (k.Sign 23) 0 ∷ token (k.Name (codes "a")) 2 ∷ token (k.Sign 23) 4 ∷ token (k.Sign 6) 6 ∷ token k.End 7 ∷ []) ≡ Syntax 2
updated_on_both_sides = refl

-- ++a()‸;
call_updated : answer (token (k.Sign 23) 0 ∷ token (k.Name (codes "a")) 2 ∷ token (k.Sign 2) 3 ∷ token (k.Sign 3) 4 ∷ token (k.Sign 6) 5 ∷ token k.End 6 ∷ []) ≡ Syntax 4
call_updated = refl

-- a()‸++;
call_updated_behind : answer (token (k.Name (codes "a")) 0 ∷ token (k.Sign 2) 1 ∷ token (k.Sign 3) 2 ∷ token (k.Sign 23) 3 ∷ token (k.Sign 6) 5 ∷ token k.End 6 ∷ []) ≡ Syntax 3
call_updated_behind = refl

-- ++‸-a;
unary_updated : answer (token (k.Sign 23) 0 ∷ token (k.Sign 18) 2 ∷ token (k.Name (codes "a")) 3 ∷ token (k.Sign 6) 4 ∷ token k.End 5 ∷ []) ≡ Syntax 1
unary_updated = refl

-- a ‸b;
two_names : answer (token (k.Name (codes "a")) 0 ∷ token (k.Name (codes "b")) 2 ∷ token (k.Sign 6) 3 ∷ token k.End 4 ∷ []) ≡ Syntax 1
two_names = refl

-- 1 ‸2;
two_numbers : answer (token (k.Number (pos 1)) 0 ∷ token (k.Number (pos 2)) 2 ∷ token (k.Sign 6) 3 ∷ token k.End 4 ∷ []) ≡ Syntax 1
two_numbers = refl

-- a +‸;
no_operand : answer (token (k.Name (codes "a")) 0 ∷ token (k.Sign 17) 2 ∷ token (k.Sign 6) 3 ∷ token k.End 4 ∷ []) ≡ Syntax 2
no_operand = refl

-- ‸* a;
sign_alone : answer (token (k.Sign 19) 0 ∷ token (k.Name (codes "a")) 2 ∷ token (k.Sign 6) 3 ∷ token k.End 4 ∷ []) ≡ Syntax 0
sign_alone = refl

-- ‸, a;
comma_alone : answer (token (k.Sign 7) 0 ∷ token (k.Name (codes "a")) 2 ∷ token (k.Sign 6) 3 ∷ token k.End 4 ∷ []) ≡ Syntax 0
comma_alone = refl

-- a,‸;
comma_behind : answer (token (k.Name (codes "a")) 0 ∷ token (k.Sign 7) 1 ∷ token (k.Sign 6) 2 ∷ token k.End 3 ∷ []) ≡ Syntax 2
comma_behind = refl

-- a⏎‸=> 1;
arrow_behind_a_line_break : answer (token (k.Name (codes "a")) 0 ∷ lined (k.Sign 51) 2 ∷ token (k.Number (pos 1)) 5 ∷ token (k.Sign 6) 6 ∷ token k.End 7 ∷ []) ≡ Syntax 1
arrow_behind_a_line_break = refl

-- ()⏎‸=> 1;
empty_head_and_line_break : answer (token (k.Sign 2) 0 ∷ token (k.Sign 3) 1 ∷ lined (k.Sign 51) 3 ∷ token (k.Number (pos 1)) 6 ∷ token (k.Sign 6) 7 ∷ token k.End 8 ∷ []) ≡ Syntax 2
empty_head_and_line_break = refl

-- ()‸;
empty_parentheses : answer (token (k.Sign 2) 0 ∷ token (k.Sign 3) 1 ∷ token (k.Sign 6) 2 ∷ token k.End 3 ∷ []) ≡ Syntax 2
empty_parentheses = refl

-- (a,)‸;
head_with_a_comma_alone : answer (token (k.Sign 2) 0 ∷ token (k.Name (codes "a")) 1 ∷ token (k.Sign 7) 2 ∷ token (k.Sign 3) 3 ∷ token (k.Sign 6) 4 ∷ token k.End 5 ∷ []) ≡ Syntax 4
head_with_a_comma_alone = refl

-- 1 + (‸) => a;
empty_head_in_a_sum : answer (token (k.Number (pos 1)) 0 ∷ token (k.Sign 17) 2 ∷ token (k.Sign 2) 4 ∷ token (k.Sign 3) 5 ∷ token (k.Sign 51) 7 ∷ token (k.Name (codes "a")) 10 ∷ token (k.Sign 6) 11 ∷ token k.End 12 ∷ []) ≡ Syntax 3
empty_head_in_a_sum = refl

-- (1,‸);
comma_behind_a_number : answer (token (k.Sign 2) 0 ∷ token (k.Number (pos 1)) 1 ∷ token (k.Sign 7) 2 ∷ token (k.Sign 3) 3 ∷ token (k.Sign 6) 4 ∷ token k.End 5 ∷ []) ≡ Syntax 3
comma_behind_a_number = refl

-- ((a)) ‸=> 1;
head_in_two_parentheses : answer (token (k.Sign 2) 0 ∷ token (k.Sign 2) 1 ∷ token (k.Name (codes "a")) 2 ∷ token (k.Sign 3) 3 ∷ token (k.Sign 3) 4 ∷ token (k.Sign 51) 6 ∷ token (k.Number (pos 1)) 9 ∷ token (k.Sign 6) 10 ∷ token k.End 11 ∷ []) ≡ Syntax 5
head_in_two_parentheses = refl

-- (a + b) ‸=> 1;
sum_as_a_head : answer (token (k.Sign 2) 0 ∷ token (k.Name (codes "a")) 1 ∷ token (k.Sign 17) 3 ∷ token (k.Name (codes "b")) 5 ∷ token (k.Sign 3) 6 ∷ token (k.Sign 51) 8 ∷ token (k.Number (pos 1)) 11 ∷ token (k.Sign 6) 12 ∷ token k.End 13 ∷ []) ≡ Syntax 5
sum_as_a_head = refl

-- 1 + a ‸=> 1;
arrow_in_a_sum : answer (token (k.Number (pos 1)) 0 ∷ token (k.Sign 17) 2 ∷ token (k.Name (codes "a")) 4 ∷ token (k.Sign 51) 6 ∷ token (k.Number (pos 1)) 9 ∷ token (k.Sign 6) 10 ∷ token k.End 11 ∷ []) ≡ Syntax 3
arrow_in_a_sum = refl

-- -a ‸=> 1;
arrow_under_a_sign : answer (token (k.Sign 18) 0 ∷ token (k.Name (codes "a")) 1 ∷ token (k.Sign 51) 3 ∷ token (k.Number (pos 1)) 6 ∷ token (k.Sign 6) 7 ∷ token k.End 8 ∷ []) ≡ Syntax 2
arrow_under_a_sign = refl

-- f(a) ‸=> 1;
call_as_a_head : answer (token (k.Name (codes "f")) 0 ∷ token (k.Sign 2) 1 ∷ token (k.Name (codes "a")) 2 ∷ token (k.Sign 3) 3 ∷ token (k.Sign 51) 5 ∷ token (k.Number (pos 1)) 8 ∷ token (k.Sign 6) 9 ∷ token k.End 10 ∷ []) ≡ Syntax 4
call_as_a_head = refl

-- a => {} ‸+ 1;
arrow_with_a_body_in_a_sum : answer (token (k.Name (codes "a")) 0 ∷ token (k.Sign 51) 2 ∷ token (k.Sign 0) 5 ∷ token (k.Sign 1) 6 ∷ token (k.Sign 17) 8 ∷ token (k.Number (pos 1)) 10 ∷ token (k.Sign 6) 11 ∷ token k.End 12 ∷ []) ≡ Syntax 4
arrow_with_a_body_in_a_sum = refl

-- a => {} ‸(b);
arrow_with_a_body_called : answer (token (k.Name (codes "a")) 0 ∷ token (k.Sign 51) 2 ∷ token (k.Sign 0) 5 ∷ token (k.Sign 1) 6 ∷ token (k.Sign 2) 8 ∷ token (k.Name (codes "b")) 9 ∷ token (k.Sign 3) 10 ∷ token (k.Sign 6) 11 ∷ token k.End 12 ∷ []) ≡ Syntax 4
arrow_with_a_body_called = refl

-- a => {}⏎‸(b);
arrow_with_a_body_and_a_line_break : answer (token (k.Name (codes "a")) 0 ∷ token (k.Sign 51) 2 ∷ token (k.Sign 0) 5 ∷ token (k.Sign 1) 6 ∷ lined (k.Sign 2) 8 ∷ token (k.Name (codes "b")) 9 ∷ token (k.Sign 3) 10 ∷ token (k.Sign 6) 11 ∷ token k.End 12 ∷ []) ≡ Syntax 4
arrow_with_a_body_and_a_line_break = refl

-- a => ‸;
arrow_without_a_body : answer (token (k.Name (codes "a")) 0 ∷ token (k.Sign 51) 2 ∷ token (k.Sign 6) 5 ∷ token k.End 6 ∷ []) ≡ Syntax 2
arrow_without_a_body = refl

-- a ?? b ‸=> c;
arrow_in_a_nullish : answer (token (k.Name (codes "a")) 0 ∷ token (k.Sign 35) 2 ∷ token (k.Name (codes "b")) 5 ∷ token (k.Sign 51) 7 ∷ token (k.Name (codes "c")) 10 ∷ token (k.Sign 6) 11 ∷ token k.End 12 ∷ []) ≡ Syntax 3
arrow_in_a_nullish = refl

-- a ‸b => c;
arrow_behind_a_name : answer (token (k.Name (codes "a")) 0 ∷ token (k.Name (codes "b")) 2 ∷ token (k.Sign 51) 4 ∷ token (k.Name (codes "c")) 7 ∷ token (k.Sign 6) 8 ∷ token k.End 9 ∷ []) ≡ Syntax 1
arrow_behind_a_name = refl

-- new ‸-a;
sign_behind_new : answer (token (k.Keyword 26) 0 ∷ token (k.Sign 18) 4 ∷ token (k.Name (codes "a")) 5 ∷ token (k.Sign 6) 6 ∷ token k.End 7 ∷ []) ≡ Syntax 1
sign_behind_new = refl

-- new ‸++a;
update_behind_new : answer (token (k.Keyword 26) 0 ∷ token (k.Sign 23) 4 ∷ token (k.Name (codes "a")) 6 ∷ token (k.Sign 6) 7 ∷ token k.End 8 ∷ []) ≡ Syntax 1
update_behind_new = refl

-- new super‸();
new_super_call : answer (token (k.Keyword 26) 0 ∷ token (k.Keyword 34) 4 ∷ token (k.Sign 2) 9 ∷ token (k.Sign 3) 10 ∷ token (k.Sign 6) 11 ∷ token k.End 12 ∷ []) ≡ Syntax 2
new_super_call = refl

-- super‸;
super_alone : answer (token (k.Keyword 34) 0 ∷ token (k.Sign 6) 5 ∷ token k.End 6 ∷ []) ≡ Syntax 1
super_alone = refl

-- new a(‸;
arguments_of_new_cut_off : answer (token (k.Keyword 26) 0 ∷ token (k.Name (codes "a")) 4 ∷ token (k.Sign 2) 5 ∷ token (k.Sign 6) 6 ∷ token k.End 7 ∷ []) ≡ Syntax 3
arguments_of_new_cut_off = refl

-- new‸;
new_alone : answer (token (k.Keyword 26) 0 ∷ token (k.Sign 6) 3 ∷ token k.End 4 ∷ []) ≡ Syntax 1
new_alone = refl

-- a.‸"b";
string_behind_a_point : answer (token (k.Name (codes "a")) 0 ∷ token (k.Sign 8) 1 ∷ token (k.String (codes "b")) 2 ∷ token (k.Sign 6) 5 ∷ token k.End 6 ∷ []) ≡ Syntax 2
string_behind_a_point = refl

-- a[‸];
empty_index : answer (token (k.Name (codes "a")) 0 ∷ token (k.Sign 4) 1 ∷ token (k.Sign 5) 2 ∷ token (k.Sign 6) 3 ∷ token k.End 4 ∷ []) ≡ Syntax 2
empty_index = refl

-- a[b,‸];
index_ends_in_a_comma : answer (token (k.Name (codes "a")) 0 ∷ token (k.Sign 4) 1 ∷ token (k.Name (codes "b")) 2 ∷ token (k.Sign 7) 3 ∷ token (k.Sign 5) 4 ∷ token (k.Sign 6) 5 ∷ token k.End 6 ∷ []) ≡ Syntax 4
index_ends_in_a_comma = refl

-- a[b‸;
index_cut_off : answer (token (k.Name (codes "a")) 0 ∷ token (k.Sign 4) 1 ∷ token (k.Name (codes "b")) 2 ∷ token (k.Sign 6) 3 ∷ token k.End 4 ∷ []) ≡ Syntax 3
index_cut_off = refl

-- super[‸];
super_index_empty : answer (token (k.Keyword 34) 0 ∷ token (k.Sign 4) 5 ∷ token (k.Sign 5) 6 ∷ token (k.Sign 6) 7 ∷ token k.End 8 ∷ []) ≡ Syntax 2
super_index_empty = refl

-- [‸, a];
hole_at_the_beginning : answer (token (k.Sign 4) 0 ∷ token (k.Sign 7) 1 ∷ token (k.Name (codes "a")) 3 ∷ token (k.Sign 5) 4 ∷ token (k.Sign 6) 5 ∷ token k.End 6 ∷ []) ≡ Syntax 1
hole_at_the_beginning = refl

-- [a,‸, b];
hole_in_the_middle : answer (token (k.Sign 4) 0 ∷ token (k.Name (codes "a")) 1 ∷ token (k.Sign 7) 2 ∷ token (k.Sign 7) 3 ∷ token (k.Name (codes "b")) 5 ∷ token (k.Sign 5) 6 ∷ token (k.Sign 6) 7 ∷ token k.End 8 ∷ []) ≡ Syntax 3
hole_in_the_middle = refl

-- [a,‸,];
hole_at_the_end : answer (token (k.Sign 4) 0 ∷ token (k.Name (codes "a")) 1 ∷ token (k.Sign 7) 2 ∷ token (k.Sign 7) 3 ∷ token (k.Sign 5) 4 ∷ token (k.Sign 6) 5 ∷ token k.End 6 ∷ []) ≡ Syntax 3
hole_at_the_end = refl

-- [a‸;
array_cut_off : answer (token (k.Sign 4) 0 ∷ token (k.Name (codes "a")) 1 ∷ token (k.Sign 6) 2 ∷ token k.End 3 ∷ []) ≡ Syntax 2
array_cut_off = refl

-- f(‸, a);
comma_before_arguments : answer (token (k.Name (codes "f")) 0 ∷ token (k.Sign 2) 1 ∷ token (k.Sign 7) 2 ∷ token (k.Name (codes "a")) 4 ∷ token (k.Sign 3) 5 ∷ token (k.Sign 6) 6 ∷ token k.End 7 ∷ []) ≡ Syntax 2
comma_before_arguments = refl

-- f(a,‸, b);
two_commas_in_arguments : answer (token (k.Name (codes "f")) 0 ∷ token (k.Sign 2) 1 ∷ token (k.Name (codes "a")) 2 ∷ token (k.Sign 7) 3 ∷ token (k.Sign 7) 4 ∷ token (k.Name (codes "b")) 6 ∷ token (k.Sign 3) 7 ∷ token (k.Sign 6) 8 ∷ token k.End 9 ∷ []) ≡ Syntax 4
two_commas_in_arguments = refl

-- f(a‸;
arguments_cut_off : answer (token (k.Name (codes "f")) 0 ∷ token (k.Sign 2) 1 ∷ token (k.Name (codes "a")) 2 ∷ token (k.Sign 6) 3 ∷ token k.End 4 ∷ []) ≡ Syntax 3
arguments_cut_off = refl

-- f(‸...a);
spread_in_arguments : answer (token (k.Name (codes "f")) 0 ∷ token (k.Sign 2) 1 ∷ token (k.Sign 8) 2 ∷ token (k.Sign 8) 3 ∷ token (k.Sign 8) 4 ∷ token (k.Name (codes "a")) 5 ∷ token (k.Sign 3) 6 ∷ token (k.Sign 6) 7 ∷ token k.End 8 ∷ []) ≡ Syntax 2
spread_in_arguments = refl

-- [‸...a];
spread_in_an_array : answer (token (k.Sign 4) 0 ∷ token (k.Sign 8) 1 ∷ token (k.Sign 8) 2 ∷ token (k.Sign 8) 3 ∷ token (k.Name (codes "a")) 4 ∷ token (k.Sign 5) 5 ∷ token (k.Sign 6) 6 ∷ token k.End 7 ∷ []) ≡ Syntax 1
spread_in_an_array = refl

-- ({‸...a});
spread_in_an_object : answer (token (k.Sign 2) 0 ∷ token (k.Sign 0) 1 ∷ token (k.Sign 8) 2 ∷ token (k.Sign 8) 3 ∷ token (k.Sign 8) 4 ∷ token (k.Name (codes "a")) 5 ∷ token (k.Sign 1) 6 ∷ token (k.Sign 3) 7 ∷ token (k.Sign 6) 8 ∷ token k.End 9 ∷ []) ≡ Syntax 2
spread_in_an_object = refl

-- [a] ‸= b;
array_destructured : answer (token (k.Sign 4) 0 ∷ token (k.Name (codes "a")) 1 ∷ token (k.Sign 5) 2 ∷ token (k.Sign 38) 4 ∷ token (k.Name (codes "b")) 6 ∷ token (k.Sign 6) 7 ∷ token k.End 8 ∷ []) ≡ Syntax 3
array_destructured = refl

-- [a.b, c[d]] ‸= e;
array_of_members_destructured : answer (token (k.Sign 4) 0 ∷ token (k.Name (codes "a")) 1 ∷ token (k.Sign 8) 2 ∷ token (k.Name (codes "b")) 3 ∷ token (k.Sign 7) 4 ∷ token (k.Name (codes "c")) 6 ∷ token (k.Sign 4) 7 ∷ token (k.Name (codes "d")) 8 ∷ token (k.Sign 5) 9 ∷ token (k.Sign 5) 10 ∷ token (k.Sign 38) 12 ∷ token (k.Name (codes "e")) 14 ∷ token (k.Sign 6) 15 ∷ token k.End 16 ∷ []) ≡ Syntax 10
array_of_members_destructured = refl

-- ({a}) ‸= b;
object_in_parentheses_destructured : answer (token (k.Sign 2) 0 ∷ token (k.Sign 0) 1 ∷ token (k.Name (codes "a")) 2 ∷ token (k.Sign 1) 3 ∷ token (k.Sign 3) 4 ∷ token (k.Sign 38) 6 ∷ token (k.Name (codes "b")) 8 ∷ token (k.Sign 6) 9 ∷ token k.End 10 ∷ []) ≡ Syntax 5
object_in_parentheses_destructured = refl

-- ({a} ‸= b);
object_destructured : answer (token (k.Sign 2) 0 ∷ token (k.Sign 0) 1 ∷ token (k.Name (codes "a")) 2 ∷ token (k.Sign 1) 3 ∷ token (k.Sign 38) 5 ∷ token (k.Name (codes "b")) 7 ∷ token (k.Sign 3) 8 ∷ token (k.Sign 6) 9 ∷ token k.End 10 ∷ []) ≡ Syntax 4
object_destructured = refl

-- ({a: b} ‸= c);
object_with_values_destructured : answer (token (k.Sign 2) 0 ∷ token (k.Sign 0) 1 ∷ token (k.Name (codes "a")) 2 ∷ token (k.Sign 37) 3 ∷ token (k.Name (codes "b")) 5 ∷ token (k.Sign 1) 6 ∷ token (k.Sign 38) 8 ∷ token (k.Name (codes "c")) 10 ∷ token (k.Sign 3) 11 ∷ token (k.Sign 6) 12 ∷ token k.End 13 ∷ []) ≡ Syntax 6
object_with_values_destructured = refl

-- a ? ‸.b;
optional_chaining : answer (token (k.Name (codes "a")) 0 ∷ token (k.Sign 36) 2 ∷ token (k.Sign 8) 4 ∷ token (k.Name (codes "b")) 5 ∷ token (k.Sign 6) 6 ∷ token k.End 7 ∷ []) ≡ Syntax 2
optional_chaining = refl

-- a ? ‸.[b];
optional_index : answer (token (k.Name (codes "a")) 0 ∷ token (k.Sign 36) 2 ∷ token (k.Sign 8) 4 ∷ token (k.Sign 4) 5 ∷ token (k.Name (codes "b")) 6 ∷ token (k.Sign 5) 7 ∷ token (k.Sign 6) 8 ∷ token k.End 9 ∷ []) ≡ Syntax 2
optional_index = refl

-- a ? (b)‸;
optional_call_without_a_colon : answer (token (k.Name (codes "a")) 0 ∷ token (k.Sign 36) 2 ∷ token (k.Sign 2) 4 ∷ token (k.Name (codes "b")) 5 ∷ token (k.Sign 3) 6 ∷ token (k.Sign 6) 7 ∷ token k.End 8 ∷ []) ≡ Syntax 5
optional_call_without_a_colon = refl

-- a || ‸= b;
or_assignment : answer (token (k.Name (codes "a")) 0 ∷ token (k.Sign 34) 2 ∷ token (k.Sign 38) 5 ∷ token (k.Name (codes "b")) 7 ∷ token (k.Sign 6) 8 ∷ token k.End 9 ∷ []) ≡ Syntax 2
or_assignment = refl

-- a && ‸= b;
and_assignment : answer (token (k.Name (codes "a")) 0 ∷ token (k.Sign 33) 2 ∷ token (k.Sign 38) 5 ∷ token (k.Name (codes "b")) 7 ∷ token (k.Sign 6) 8 ∷ token k.End 9 ∷ []) ≡ Syntax 2
and_assignment = refl

-- a ?? ‸= b;
nullish_assignment : answer (token (k.Name (codes "a")) 0 ∷ token (k.Sign 35) 2 ∷ token (k.Sign 38) 5 ∷ token (k.Name (codes "b")) 7 ∷ token (k.Sign 6) 8 ∷ token k.End 9 ∷ []) ≡ Syntax 2
nullish_assignment = refl

-- a ‸`b`;
tagged_template : answer (token (k.Name (codes "a")) 0 ∷ token (k.Template true true (codes "b")) 2 ∷ token (k.Sign 6) 5 ∷ token k.End 6 ∷ []) ≡ Syntax 1
tagged_template = refl

-- a.b ‸`c`;
tagged_member : answer (token (k.Name (codes "a")) 0 ∷ token (k.Sign 8) 1 ∷ token (k.Name (codes "b")) 2 ∷ token (k.Template true true (codes "c")) 4 ∷ token (k.Sign 6) 7 ∷ token k.End 8 ∷ []) ≡ Syntax 3
tagged_member = refl

-- a⏎‸`b`
template_behind_a_line_break : answer (token (k.Name (codes "a")) 0 ∷ lined (k.Template true true (codes "b")) 2 ∷ token k.End 5 ∷ []) ≡ Syntax 1
template_behind_a_line_break = refl

-- `a${b‸;
template_cut_off : answer (token (k.Template true false (codes "a")) 0 ∷ token (k.Name (codes "b")) 4 ∷ token (k.Sign 6) 5 ∷ token k.End 6 ∷ []) ≡ Syntax 2
template_cut_off = refl

-- `a${‸}b`;
template_without_a_value : answer (token (k.Template true false (codes "a")) 0 ∷ token (k.Template false true (codes "b")) 4 ∷ token (k.Sign 6) 7 ∷ token k.End 8 ∷ []) ≡ Syntax 1
template_without_a_value = refl

-- a = ‸/b/;
regular_expression : answer (token (k.Name (codes "a")) 0 ∷ token (k.Sign 38) 2 ∷ token (k.Sign 20) 4 ∷ token (k.Name (codes "b")) 5 ∷ token (k.Sign 20) 6 ∷ token (k.Sign 6) 7 ∷ token k.End 8 ∷ []) ≡ Syntax 2
regular_expression = refl

-- a = ‸import(b);
dynamic_import : answer (token (k.Name (codes "a")) 0 ∷ token (k.Sign 38) 2 ∷ token (k.Keyword 21) 4 ∷ token (k.Sign 2) 10 ∷ token (k.Name (codes "b")) 11 ∷ token (k.Sign 3) 12 ∷ token (k.Sign 6) 13 ∷ token k.End 14 ∷ []) ≡ Syntax 2
dynamic_import = refl

-- ‸await a;
await_before_a_name : answer (token (k.Keyword 0) 0 ∷ token (k.Name (codes "a")) 6 ∷ token (k.Sign 6) 7 ∷ token k.End 8 ∷ []) ≡ Syntax 0
await_before_a_name = refl

-- ‸yield a;
yield_before_a_name : answer (token (k.Keyword 45) 0 ∷ token (k.Name (codes "a")) 6 ∷ token (k.Sign 6) 7 ∷ token k.End 8 ∷ []) ≡ Syntax 0
yield_before_a_name = refl

-- async ‸function f() {}
async_function : answer (token (k.Name (codes "async")) 0 ∷ token (k.Keyword 18) 6 ∷ token (k.Name (codes "f")) 15 ∷ token (k.Sign 2) 16 ∷ token (k.Sign 3) 17 ∷ token (k.Sign 0) 19 ∷ token (k.Sign 1) 20 ∷ token k.End 21 ∷ []) ≡ Syntax 1
async_function = refl

-- async ‸a => b;
async_arrow : answer (token (k.Name (codes "async")) 0 ∷ token (k.Name (codes "a")) 6 ∷ token (k.Sign 51) 8 ∷ token (k.Name (codes "b")) 11 ∷ token (k.Sign 6) 12 ∷ token k.End 13 ∷ []) ≡ Syntax 1
async_arrow = refl

-- async () ‸=> a;
async_arrow_of_nothing : answer (token (k.Name (codes "async")) 0 ∷ token (k.Sign 2) 6 ∷ token (k.Sign 3) 7 ∷ token (k.Sign 51) 9 ∷ token (k.Name (codes "a")) 12 ∷ token (k.Sign 6) 13 ∷ token k.End 14 ∷ []) ≡ Syntax 3
async_arrow_of_nothing = refl

-- async (a) ‸=> b;
async_arrow_in_parentheses : answer (token (k.Name (codes "async")) 0 ∷ token (k.Sign 2) 6 ∷ token (k.Name (codes "a")) 7 ∷ token (k.Sign 3) 8 ∷ token (k.Sign 51) 10 ∷ token (k.Name (codes "b")) 13 ∷ token (k.Sign 6) 14 ∷ token k.End 15 ∷ []) ≡ Syntax 4
async_arrow_in_parentheses = refl

-- new‸.target;
new_target : answer (token (k.Keyword 26) 0 ∷ token (k.Sign 8) 3 ∷ token (k.Name (codes "target")) 4 ∷ token (k.Sign 6) 10 ∷ token k.End 11 ∷ []) ≡ Syntax 1
new_target = refl

-- ‸debugger;
debugger_statement : answer (token (k.Keyword 7) 0 ∷ token (k.Sign 6) 8 ∷ token k.End 9 ∷ []) ≡ Syntax 0
debugger_statement = refl

-- ‸with (a) b;
with_statement : answer (token (k.Keyword 44) 0 ∷ token (k.Sign 2) 5 ∷ token (k.Name (codes "a")) 6 ∷ token (k.Sign 3) 7 ∷ token (k.Name (codes "b")) 9 ∷ token (k.Sign 6) 10 ∷ token k.End 11 ∷ []) ≡ Syntax 0
with_statement = refl

-- ‸enum A {}
enum_word : answer (token (k.Keyword 12) 0 ∷ token (k.Name (codes "A")) 5 ∷ token (k.Sign 0) 7 ∷ token (k.Sign 1) 8 ∷ token k.End 9 ∷ []) ≡ Syntax 0
enum_word = refl

-- import‸.meta;
import_meta : answer (token (k.Keyword 21) 0 ∷ token (k.Sign 8) 6 ∷ token (k.Name (codes "meta")) 7 ∷ token (k.Sign 6) 11 ∷ token k.End 12 ∷ []) ≡ Syntax 1
import_meta = refl

-- (a‸;
paren_cut_off : answer (token (k.Sign 2) 0 ∷ token (k.Name (codes "a")) 1 ∷ token (k.Sign 6) 2 ∷ token k.End 3 ∷ []) ≡ Syntax 2
paren_cut_off = refl

-- (‸
paren_at_the_end : answer (token (k.Sign 2) 0 ∷ token k.End 1 ∷ []) ≡ Syntax 1
paren_at_the_end = refl

-- ‸);
paren_without_a_beginning : answer (token (k.Sign 3) 0 ∷ token (k.Sign 6) 1 ∷ token k.End 2 ∷ []) ≡ Syntax 0
paren_without_a_beginning = refl

-- ‸];
bracket_without_a_beginning : answer (token (k.Sign 5) 0 ∷ token (k.Sign 6) 1 ∷ token k.End 2 ∷ []) ≡ Syntax 0
bracket_without_a_beginning = refl

-- a‸);
paren_behind_a_name : answer (token (k.Name (codes "a")) 0 ∷ token (k.Sign 3) 1 ∷ token (k.Sign 6) 2 ∷ token k.End 3 ∷ []) ≡ Syntax 1
paren_behind_a_name = refl

-- (a‸];
brackets_crossed : answer (token (k.Sign 2) 0 ∷ token (k.Name (codes "a")) 1 ∷ token (k.Sign 5) 2 ∷ token (k.Sign 6) 3 ∷ token k.End 4 ∷ []) ≡ Syntax 2
brackets_crossed = refl

-- a + ‸if;
keyword_as_an_operand : answer (token (k.Name (codes "a")) 0 ∷ token (k.Sign 17) 2 ∷ token (k.Keyword 19) 4 ∷ token (k.Sign 6) 6 ∷ token k.End 7 ∷ []) ≡ Syntax 2
keyword_as_an_operand = refl

-- a + ‸package;
reserved_name : answer (token (k.Name (codes "a")) 0 ∷ token (k.Sign 17) 2 ∷ token (k.Keyword 28) 4 ∷ token (k.Sign 6) 11 ∷ token k.End 12 ∷ []) ≡ Syntax 2
reserved_name = refl

-- ‸in a;
in_without_a_left_operand : answer (token (k.Keyword 22) 0 ∷ token (k.Name (codes "a")) 3 ∷ token (k.Sign 6) 4 ∷ token k.End 5 ∷ []) ≡ Syntax 0
in_without_a_left_operand = refl

-- delete ‸;
delete_alone : answer (token (k.Keyword 9) 0 ∷ token (k.Sign 6) 7 ∷ token k.End 8 ∷ []) ≡ Syntax 1
delete_alone = refl

-- delete a.b ‸= 1;
delete_assigned : answer (token (k.Keyword 9) 0 ∷ token (k.Name (codes "a")) 7 ∷ token (k.Sign 8) 8 ∷ token (k.Name (codes "b")) 9 ∷ token (k.Sign 38) 11 ∷ token (k.Number (pos 1)) 13 ∷ token (k.Sign 6) 14 ∷ token k.End 15 ∷ []) ≡ Syntax 4
delete_assigned = refl

-- !a ‸= 1;
not_assigned : answer (token (k.Sign 31) 0 ∷ token (k.Name (codes "a")) 1 ∷ token (k.Sign 38) 3 ∷ token (k.Number (pos 1)) 5 ∷ token (k.Sign 6) 6 ∷ token k.End 7 ∷ []) ≡ Syntax 2
not_assigned = refl

-- "a" ‸= 1;
string_assigned : answer (token (k.String (codes "a")) 0 ∷ token (k.Sign 38) 4 ∷ token (k.Number (pos 1)) 6 ∷ token (k.Sign 6) 7 ∷ token k.End 8 ∷ []) ≡ Syntax 1
string_assigned = refl

-- this‸++;
this_updated : answer (token (k.Keyword 36) 0 ∷ token (k.Sign 23) 4 ∷ token (k.Sign 6) 6 ∷ token k.End 7 ∷ []) ≡ Syntax 1
this_updated = refl

-- (a + b)‸++;
sum_in_parentheses_updated : answer (token (k.Sign 2) 0 ∷ token (k.Name (codes "a")) 1 ∷ token (k.Sign 17) 3 ∷ token (k.Name (codes "b")) 5 ∷ token (k.Sign 3) 6 ∷ token (k.Sign 23) 7 ∷ token (k.Sign 6) 9 ∷ token k.End 10 ∷ []) ≡ Syntax 5
sum_in_parentheses_updated = refl

-- `a` ‸= 1;
template_assigned : answer (token (k.Template true true (codes "a")) 0 ∷ token (k.Sign 38) 4 ∷ token (k.Number (pos 1)) 6 ∷ token (k.Sign 6) 7 ∷ token k.End 8 ∷ []) ≡ Syntax 1
template_assigned = refl

-- new a ‸= 1;
new_assigned : answer (token (k.Keyword 26) 0 ∷ token (k.Name (codes "a")) 4 ∷ token (k.Sign 38) 6 ∷ token (k.Number (pos 1)) 8 ∷ token (k.Sign 6) 9 ∷ token k.End 10 ∷ []) ≡ Syntax 2
new_assigned = refl

-- new a()‸--;
new_call_updated : answer (token (k.Keyword 26) 0 ∷ token (k.Name (codes "a")) 4 ∷ token (k.Sign 2) 5 ∷ token (k.Sign 3) 6 ∷ token (k.Sign 24) 7 ∷ token (k.Sign 6) 9 ∷ token k.End 10 ∷ []) ≡ Syntax 4
new_call_updated = refl

-- (a => b) ‸= 1;
arrow_assigned : answer (token (k.Sign 2) 0 ∷ token (k.Name (codes "a")) 1 ∷ token (k.Sign 51) 3 ∷ token (k.Name (codes "b")) 6 ∷ token (k.Sign 3) 7 ∷ token (k.Sign 38) 9 ∷ token (k.Number (pos 1)) 11 ∷ token (k.Sign 6) 12 ∷ token k.End 13 ∷ []) ≡ Syntax 5
arrow_assigned = refl
