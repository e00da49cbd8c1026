-- Where a semicolon may be missing and where the text goes on, `else` after nested ifs, loops, guards and switches: texts with their trees.
use Rattle.std.proofs.Common.{◌≡◌, refl, true, false, [], ◌∷◌, codes, pos, Some, None}
use Rattle.es_model.specs.declared.kinds.Semi.TheVariants as semi
use Rattle.es_model.specs.declared.kinds.FunctionKind.TheVariants as f
use Rattle.es_model.specs.declared.kinds.BinaryOperator.TheVariants as b
use Rattle.es_model.specs.declared.kinds.UnaryOperator.TheVariants as u
use Rattle.es_model.specs.declared.token.TokenKind.TheVariants as k
use Rattle.es_model.specs.Tree as t
use Rattle.js_parser.proofs.Rows.{token, lined, named_at}
use Rattle.js_parser.specs.Machine.{answer, Parsed}

-- a
at_the_end : answer (token (k.Name (codes "a")) 0 ∷ token k.End 1 ∷ []) ≡ Parsed (t.more (t.Plain (t.Value ((t.Name (named_at 0 (codes "a")))) semi.Missing)) t.none)
at_the_end = refl

-- { a }
before_a_brace : answer (token (k.Sign 0) 0 ∷ token (k.Name (codes "a")) 2 ∷ token (k.Sign 1) 4 ∷ token k.End 5 ∷ []) ≡ Parsed (t.more (t.Plain (t.Block (t.more (t.Value (t.Name (named_at 2 (codes "a"))) semi.Missing) t.none))) t.none)
before_a_brace = refl

-- a⏎b
at_a_line_break : answer (token (k.Name (codes "a")) 0 ∷ lined (k.Name (codes "b")) 2 ∷ token k.End 3 ∷ []) ≡ Parsed (t.more (t.Plain (t.Value ((t.Name (named_at 0 (codes "a")))) semi.Missing)) (t.more (t.Plain (t.Value ((t.Name (named_at 2 (codes "b")))) semi.Missing)) t.none))
at_a_line_break = refl

-- a⏎if (b) c
at_a_line_break_before_a_keyword : answer (token (k.Name (codes "a")) 0 ∷ lined (k.Keyword 19) 2 ∷ token (k.Sign 2) 5 ∷ token (k.Name (codes "b")) 6 ∷ token (k.Sign 3) 7 ∷ token (k.Name (codes "c")) 9 ∷ token k.End 10 ∷ []) ≡ Parsed (t.more (t.Plain (t.Value ((t.Name (named_at 0 (codes "a")))) semi.Missing)) (t.more (t.Plain (t.If (t.Name (named_at 6 (codes "b"))) (t.Value (t.Name (named_at 9 (codes "c"))) semi.Missing) t.absent)) t.none))
at_a_line_break_before_a_keyword = refl

-- a⏎{}
at_a_line_break_before_a_brace : answer (token (k.Name (codes "a")) 0 ∷ lined (k.Sign 0) 2 ∷ token (k.Sign 1) 3 ∷ token k.End 4 ∷ []) ≡ Parsed (t.more (t.Plain (t.Value ((t.Name (named_at 0 (codes "a")))) semi.Missing)) (t.more (t.Plain (t.Block t.none)) t.none))
at_a_line_break_before_a_brace = refl

-- a⏎!b
at_a_line_break_before_a_unary_sign : answer (token (k.Name (codes "a")) 0 ∷ lined (k.Sign 31) 2 ∷ token (k.Name (codes "b")) 3 ∷ token k.End 4 ∷ []) ≡ Parsed (t.more (t.Plain (t.Value ((t.Name (named_at 0 (codes "a")))) semi.Missing)) (t.more (t.Plain (t.Value (t.Unary u.Not (t.Name (named_at 3 (codes "b")))) semi.Missing)) t.none))
at_a_line_break_before_a_unary_sign = refl

-- a⏎;
written_behind_a_line_break : answer (token (k.Name (codes "a")) 0 ∷ lined (k.Sign 6) 2 ∷ token k.End 3 ∷ []) ≡ Parsed (t.more (t.Plain (t.Value ((t.Name (named_at 0 (codes "a")))) semi.Written)) t.none)
written_behind_a_line_break = refl

-- a;;
written_twice : answer (token (k.Name (codes "a")) 0 ∷ token (k.Sign 6) 1 ∷ token (k.Sign 6) 2 ∷ token k.End 3 ∷ []) ≡ Parsed (t.more (t.Plain (t.Value ((t.Name (named_at 0 (codes "a")))) semi.Written)) (t.more (t.Plain (t.Empty)) t.none))
written_twice = refl

-- a⏎(b)
call_over_a_line_break : answer (token (k.Name (codes "a")) 0 ∷ lined (k.Sign 2) 2 ∷ token (k.Name (codes "b")) 3 ∷ token (k.Sign 3) 4 ∷ token k.End 5 ∷ []) ≡ Parsed (t.more (t.Plain (t.Value (t.Call (t.Name (named_at 0 (codes "a"))) (t.more (t.Name (named_at 3 (codes "b"))) t.none)) semi.Missing)) t.none)
call_over_a_line_break = refl

-- a⏎[b]
index_over_a_line_break : answer (token (k.Name (codes "a")) 0 ∷ lined (k.Sign 4) 2 ∷ token (k.Name (codes "b")) 3 ∷ token (k.Sign 5) 4 ∷ token k.End 5 ∷ []) ≡ Parsed (t.more (t.Plain (t.Value (t.Index (t.Name (named_at 0 (codes "a"))) (t.Name (named_at 3 (codes "b")))) semi.Missing)) t.none)
index_over_a_line_break = refl

-- a⏎.b
member_over_a_line_break : answer (token (k.Name (codes "a")) 0 ∷ lined (k.Sign 8) 2 ∷ token (k.Name (codes "b")) 3 ∷ token k.End 4 ∷ []) ≡ Parsed (t.more (t.Plain (t.Value (t.Dot (t.Name (named_at 0 (codes "a"))) (codes "b")) semi.Missing)) t.none)
member_over_a_line_break = refl

-- a⏎+ b⏎- c
sum_over_a_line_break : answer (token (k.Name (codes "a")) 0 ∷ lined (k.Sign 17) 2 ∷ token (k.Name (codes "b")) 4 ∷ lined (k.Sign 18) 6 ∷ token (k.Name (codes "c")) 8 ∷ token k.End 9 ∷ []) ≡ Parsed (t.more (t.Plain (t.Value (t.Binary b.Subtract (t.Binary b.Add (t.Name (named_at 0 (codes "a"))) (t.Name (named_at 4 (codes "b")))) (t.Name (named_at 8 (codes "c")))) semi.Missing)) t.none)
sum_over_a_line_break = refl

-- a⏎/ b
quotient_over_a_line_break : answer (token (k.Name (codes "a")) 0 ∷ lined (k.Sign 20) 2 ∷ token (k.Name (codes "b")) 4 ∷ token k.End 5 ∷ []) ≡ Parsed (t.more (t.Plain (t.Value (t.Binary b.Divide (t.Name (named_at 0 (codes "a"))) (t.Name (named_at 4 (codes "b")))) semi.Missing)) t.none)
quotient_over_a_line_break = refl

-- a⏎= b
assignment_over_a_line_break : answer (token (k.Name (codes "a")) 0 ∷ lined (k.Sign 38) 2 ∷ token (k.Name (codes "b")) 4 ∷ token k.End 5 ∷ []) ≡ Parsed (t.more (t.Plain (t.Value (t.Assign 0 (t.Name (named_at 0 (codes "a"))) None (t.Name (named_at 4 (codes "b")))) semi.Missing)) t.none)
assignment_over_a_line_break = refl

-- a⏎, b
comma_over_a_line_break : answer (token (k.Name (codes "a")) 0 ∷ lined (k.Sign 7) 2 ∷ token (k.Name (codes "b")) 4 ∷ token k.End 5 ∷ []) ≡ Parsed (t.more (t.Plain (t.Value (t.Comma (t.Name (named_at 0 (codes "a"))) (t.Name (named_at 4 (codes "b")))) semi.Missing)) t.none)
comma_over_a_line_break = refl

-- a⏎? b⏎: c
conditional_over_line_breaks : answer (token (k.Name (codes "a")) 0 ∷ lined (k.Sign 36) 2 ∷ token (k.Name (codes "b")) 4 ∷ lined (k.Sign 37) 6 ∷ token (k.Name (codes "c")) 8 ∷ token k.End 9 ∷ []) ≡ Parsed (t.more (t.Plain (t.Value (t.Conditional (t.Name (named_at 0 (codes "a"))) (t.Name (named_at 4 (codes "b"))) (t.Name (named_at 8 (codes "c")))) semi.Missing)) t.none)
conditional_over_line_breaks = refl

-- a⏎in b
in_over_a_line_break : answer (token (k.Name (codes "a")) 0 ∷ lined (k.Keyword 22) 2 ∷ token (k.Name (codes "b")) 5 ∷ token k.End 6 ∷ []) ≡ Parsed (t.more (t.Plain (t.Value (t.In (t.Name (named_at 0 (codes "a"))) (t.Name (named_at 5 (codes "b")))) semi.Missing)) t.none)
in_over_a_line_break = refl

-- a⏎?? b
nullish_over_a_line_break : answer (token (k.Name (codes "a")) 0 ∷ lined (k.Sign 35) 2 ∷ token (k.Name (codes "b")) 5 ∷ token k.End 6 ∷ []) ≡ Parsed (t.more (t.Plain (t.Value (t.Nullish (t.Name (named_at 0 (codes "a"))) (t.Name (named_at 5 (codes "b")))) semi.Missing)) t.none)
nullish_over_a_line_break = refl

-- a⏎|| b;
or_over_a_line_break : answer (token (k.Name (codes "a")) 0 ∷ lined (k.Sign 34) 2 ∷ token (k.Name (codes "b")) 5 ∷ token (k.Sign 6) 6 ∷ token k.End 7 ∷ []) ≡ Parsed (t.more (t.Plain (t.Value (t.Or (t.Name (named_at 0 (codes "a"))) (t.Name (named_at 5 (codes "b")))) semi.Written)) t.none)
or_over_a_line_break = refl

-- a⏎&& b
and_over_a_line_break : answer (token (k.Name (codes "a")) 0 ∷ lined (k.Sign 33) 2 ∷ token (k.Name (codes "b")) 5 ∷ token k.End 6 ∷ []) ≡ Parsed (t.more (t.Plain (t.Value (t.And (t.Name (named_at 0 (codes "a"))) (t.Name (named_at 5 (codes "b")))) semi.Missing)) t.none)
and_over_a_line_break = refl

-- a⏎| b
bit_or_over_a_line_break : answer (token (k.Name (codes "a")) 0 ∷ lined (k.Sign 29) 2 ∷ token (k.Name (codes "b")) 4 ∷ token k.End 5 ∷ []) ≡ Parsed (t.more (t.Plain (t.Value (t.Binary b.BitOr (t.Name (named_at 0 (codes "a"))) (t.Name (named_at 4 (codes "b")))) semi.Missing)) t.none)
bit_or_over_a_line_break = refl

-- a⏎^ b
bit_xor_over_a_line_break : answer (token (k.Name (codes "a")) 0 ∷ lined (k.Sign 30) 2 ∷ token (k.Name (codes "b")) 4 ∷ token k.End 5 ∷ []) ≡ Parsed (t.more (t.Plain (t.Value (t.Binary b.BitXor (t.Name (named_at 0 (codes "a"))) (t.Name (named_at 4 (codes "b")))) semi.Missing)) t.none)
bit_xor_over_a_line_break = refl

-- a⏎& b
bit_and_over_a_line_break : answer (token (k.Name (codes "a")) 0 ∷ lined (k.Sign 28) 2 ∷ token (k.Name (codes "b")) 4 ∷ token k.End 5 ∷ []) ≡ Parsed (t.more (t.Plain (t.Value (t.Binary b.BitAnd (t.Name (named_at 0 (codes "a"))) (t.Name (named_at 4 (codes "b")))) semi.Missing)) t.none)
bit_and_over_a_line_break = refl

-- a⏎== b
equal_over_a_line_break : answer (token (k.Name (codes "a")) 0 ∷ lined (k.Sign 13) 2 ∷ token (k.Name (codes "b")) 5 ∷ token k.End 6 ∷ []) ≡ Parsed (t.more (t.Plain (t.Value (t.Binary b.Equal (t.Name (named_at 0 (codes "a"))) (t.Name (named_at 5 (codes "b")))) semi.Missing)) t.none)
equal_over_a_line_break = refl

-- a⏎!= b⏎=== c⏎!== d
equalities_over_line_breaks : answer (token (k.Name (codes "a")) 0 ∷ lined (k.Sign 14) 2 ∷ token (k.Name (codes "b")) 5 ∷ lined (k.Sign 15) 7 ∷ token (k.Name (codes "c")) 11 ∷ lined (k.Sign 16) 13 ∷ token (k.Name (codes "d")) 17 ∷ token k.End 18 ∷ []) ≡ Parsed (t.more (t.Plain (t.Value (t.Binary b.StrictNotEqual (t.Binary b.StrictEqual (t.Binary b.NotEqual (t.Name (named_at 0 (codes "a"))) (t.Name (named_at 5 (codes "b")))) (t.Name (named_at 11 (codes "c")))) (t.Name (named_at 17 (codes "d")))) semi.Missing)) t.none)
equalities_over_line_breaks = refl

-- a⏎< b
less_over_a_line_break : answer (token (k.Name (codes "a")) 0 ∷ lined (k.Sign 9) 2 ∷ token (k.Name (codes "b")) 4 ∷ token k.End 5 ∷ []) ≡ Parsed (t.more (t.Plain (t.Value (t.Binary b.Less (t.Name (named_at 0 (codes "a"))) (t.Name (named_at 4 (codes "b")))) semi.Missing)) t.none)
less_over_a_line_break = refl

-- a⏎> b⏎<= c⏎>= d
comparisons_over_line_breaks : answer (token (k.Name (codes "a")) 0 ∷ lined (k.Sign 10) 2 ∷ token (k.Name (codes "b")) 4 ∷ lined (k.Sign 11) 6 ∷ token (k.Name (codes "c")) 9 ∷ lined (k.Sign 12) 11 ∷ token (k.Name (codes "d")) 14 ∷ token k.End 15 ∷ []) ≡ Parsed (t.more (t.Plain (t.Value (t.Binary b.GreaterOrEqual (t.Binary b.LessOrEqual (t.Binary b.Greater (t.Name (named_at 0 (codes "a"))) (t.Name (named_at 4 (codes "b")))) (t.Name (named_at 9 (codes "c")))) (t.Name (named_at 14 (codes "d")))) semi.Missing)) t.none)
comparisons_over_line_breaks = refl

-- a⏎instanceof b
instanceof_over_a_line_break : answer (token (k.Name (codes "a")) 0 ∷ lined (k.Keyword 23) 2 ∷ token (k.Name (codes "b")) 13 ∷ token k.End 14 ∷ []) ≡ Parsed (t.more (t.Plain (t.Value (t.InstanceOf (t.Name (named_at 0 (codes "a"))) (t.Name (named_at 13 (codes "b")))) semi.Missing)) t.none)
instanceof_over_a_line_break = refl

-- a⏎<< b
shift_left_over_a_line_break : answer (token (k.Name (codes "a")) 0 ∷ lined (k.Sign 25) 2 ∷ token (k.Name (codes "b")) 5 ∷ token k.End 6 ∷ []) ≡ Parsed (t.more (t.Plain (t.Value (t.Binary b.ShiftLeft (t.Name (named_at 0 (codes "a"))) (t.Name (named_at 5 (codes "b")))) semi.Missing)) t.none)
shift_left_over_a_line_break = refl

-- a⏎>> b⏎>>> c
shifts_right_over_line_breaks : answer (token (k.Name (codes "a")) 0 ∷ lined (k.Sign 26) 2 ∷ token (k.Name (codes "b")) 5 ∷ lined (k.Sign 27) 7 ∷ token (k.Name (codes "c")) 11 ∷ token k.End 12 ∷ []) ≡ Parsed (t.more (t.Plain (t.Value (t.Binary b.ShiftRightUnsigned (t.Binary b.ShiftRight (t.Name (named_at 0 (codes "a"))) (t.Name (named_at 5 (codes "b")))) (t.Name (named_at 11 (codes "c")))) semi.Missing)) t.none)
shifts_right_over_line_breaks = refl

-- a⏎* b
product_over_a_line_break : answer (token (k.Name (codes "a")) 0 ∷ lined (k.Sign 19) 2 ∷ token (k.Name (codes "b")) 4 ∷ token k.End 5 ∷ []) ≡ Parsed (t.more (t.Plain (t.Value (t.Binary b.Multiply (t.Name (named_at 0 (codes "a"))) (t.Name (named_at 4 (codes "b")))) semi.Missing)) t.none)
product_over_a_line_break = refl

-- a⏎% b
remainder_over_a_line_break : answer (token (k.Name (codes "a")) 0 ∷ lined (k.Sign 21) 2 ∷ token (k.Name (codes "b")) 4 ∷ token k.End 5 ∷ []) ≡ Parsed (t.more (t.Plain (t.Value (t.Binary b.Remainder (t.Name (named_at 0 (codes "a"))) (t.Name (named_at 4 (codes "b")))) semi.Missing)) t.none)
remainder_over_a_line_break = refl

-- a⏎** b
power_over_a_line_break : answer (token (k.Name (codes "a")) 0 ∷ lined (k.Sign 22) 2 ∷ token (k.Name (codes "b")) 5 ∷ token k.End 6 ∷ []) ≡ Parsed (t.more (t.Plain (t.Value (t.Binary b.Power (t.Name (named_at 0 (codes "a"))) (t.Name (named_at 5 (codes "b")))) semi.Missing)) t.none)
power_over_a_line_break = refl

-- a⏎+= b;
add_assigned_over_a_line_break : answer (token (k.Name (codes "a")) 0 ∷ lined (k.Sign 39) 2 ∷ token (k.Name (codes "b")) 5 ∷ token (k.Sign 6) 6 ∷ token k.End 7 ∷ []) ≡ Parsed (t.more (t.Plain (t.Value (t.Assign 0 (t.Name (named_at 0 (codes "a"))) (Some b.Add) (t.Name (named_at 5 (codes "b")))) semi.Written)) t.none)
add_assigned_over_a_line_break = refl

-- a⏎-= b⏎*= c⏎/= d⏎%= e⏎**= f
signs_assigned_over_line_breaks : answer (token (k.Name (codes "a")) 0 ∷ lined (k.Sign 40) 2 ∷ token (k.Name (codes "b")) 5 ∷ lined (k.Sign 41) 7 ∷ token (k.Name (codes "c")) 10 ∷ lined (k.Sign 42) 12 ∷ token (k.Name (codes "d")) 15 ∷ lined (k.Sign 43) 17 ∷ token (k.Name (codes "e")) 20 ∷ lined (k.Sign 44) 22 ∷ token (k.Name (codes "f")) 26 ∷ token k.End 27 ∷ []) ≡ Parsed (t.more (t.Plain (t.Value (t.Assign 0 (t.Name (named_at 0 (codes "a"))) (Some b.Subtract) (t.Assign 5 (t.Name (named_at 5 (codes "b"))) (Some b.Multiply) (t.Assign 10 (t.Name (named_at 10 (codes "c"))) (Some b.Divide) (t.Assign 15 (t.Name (named_at 15 (codes "d"))) (Some b.Remainder) (t.Assign 20 (t.Name (named_at 20 (codes "e"))) (Some b.Power) (t.Name (named_at 26 (codes "f")))))))) semi.Missing)) t.none)
signs_assigned_over_line_breaks = refl

-- a⏎<<= b⏎>>= c⏎>>>= d⏎&= e⏎|= f⏎^= g
bits_assigned_over_line_breaks : answer (token (k.Name (codes "a")) 0 ∷ lined (k.Sign 45) 2 ∷ token (k.Name (codes "b")) 6 ∷ lined (k.Sign 46) 8 ∷ token (k.Name (codes "c")) 12 ∷ lined (k.Sign 47) 14 ∷ token (k.Name (codes "d")) 19 ∷ lined (k.Sign 48) 21 ∷ token (k.Name (codes "e")) 24 ∷ lined (k.Sign 49) 26 ∷ token (k.Name (codes "f")) 29 ∷ lined (k.Sign 50) 31 ∷ token (k.Name (codes "g")) 34 ∷ token k.End 35 ∷ []) ≡ Parsed (t.more (t.Plain (t.Value (t.Assign 0 (t.Name (named_at 0 (codes "a"))) (Some b.ShiftLeft) (t.Assign 6 (t.Name (named_at 6 (codes "b"))) (Some b.ShiftRight) (t.Assign 12 (t.Name (named_at 12 (codes "c"))) (Some b.ShiftRightUnsigned) (t.Assign 19 (t.Name (named_at 19 (codes "d"))) (Some b.BitAnd) (t.Assign 24 (t.Name (named_at 24 (codes "e"))) (Some b.BitOr) (t.Assign 29 (t.Name (named_at 29 (codes "f"))) (Some b.BitXor) (t.Name (named_at 34 (codes "g"))))))))) semi.Missing)) t.none)
bits_assigned_over_line_breaks = refl

-- let a⏎let b = 1⏎const c = 2
let_at_a_line_break : answer (token (k.Keyword 25) 0 ∷ token (k.Name (codes "a")) 4 ∷ lined (k.Keyword 25) 6 ∷ token (k.Name (codes "b")) 10 ∷ token (k.Sign 38) 12 ∷ token (k.Number (pos 1)) 14 ∷ lined (k.Keyword 5) 16 ∷ token (k.Name (codes "c")) 22 ∷ token (k.Sign 38) 24 ∷ token (k.Number (pos 2)) 26 ∷ token k.End 27 ∷ []) ≡ Parsed (t.more (t.Plain (t.Declare false (t.more (t.DeclaratorOf (named_at 4 (codes "a")) t.absent) t.none) semi.Missing)) (t.more (t.Plain (t.Declare false (t.more (t.DeclaratorOf (named_at 10 (codes "b")) (t.present (t.Number (pos 1)))) t.none) semi.Missing)) (t.more (t.Plain (t.Declare true (t.more (t.DeclaratorOf (named_at 22 (codes "c")) (t.present (t.Number (pos 2)))) t.none) semi.Missing)) t.none)))
let_at_a_line_break = refl

-- let a, b = c, d;
let_of_several : answer (token (k.Keyword 25) 0 ∷ token (k.Name (codes "a")) 4 ∷ token (k.Sign 7) 5 ∷ token (k.Name (codes "b")) 7 ∷ token (k.Sign 38) 9 ∷ token (k.Name (codes "c")) 11 ∷ token (k.Sign 7) 12 ∷ token (k.Name (codes "d")) 14 ∷ token (k.Sign 6) 15 ∷ token k.End 16 ∷ []) ≡ Parsed (t.more (t.Plain (t.Declare false (t.more (t.DeclaratorOf (named_at 4 (codes "a")) t.absent) (t.more (t.DeclaratorOf (named_at 7 (codes "b")) (t.present (t.Name (named_at 11 (codes "c"))))) (t.more (t.DeclaratorOf (named_at 14 (codes "d")) t.absent) t.none))) semi.Written)) t.none)
let_of_several = refl

-- let a = b = c;
let_of_an_assignment : answer (token (k.Keyword 25) 0 ∷ token (k.Name (codes "a")) 4 ∷ token (k.Sign 38) 6 ∷ token (k.Name (codes "b")) 8 ∷ token (k.Sign 38) 10 ∷ token (k.Name (codes "c")) 12 ∷ token (k.Sign 6) 13 ∷ token k.End 14 ∷ []) ≡ Parsed (t.more (t.Plain (t.Declare false (t.more (t.DeclaratorOf (named_at 4 (codes "a")) (t.present (t.Assign 8 (t.Name (named_at 8 (codes "b"))) None (t.Name (named_at 12 (codes "c")))))) t.none) semi.Written)) t.none)
let_of_an_assignment = refl

-- break; continue;
jumps : answer (token (k.Keyword 1) 0 ∷ token (k.Sign 6) 5 ∷ token (k.Keyword 6) 7 ∷ token (k.Sign 6) 15 ∷ token k.End 16 ∷ []) ≡ Parsed (t.more (t.Plain (t.Break 0 semi.Written)) (t.more (t.Plain (t.Continue 7 semi.Written)) t.none))
jumps = refl

-- break⏎(a)⏎continue⏎[b]
jumps_at_line_breaks : answer (token (k.Keyword 1) 0 ∷ lined (k.Sign 2) 6 ∷ token (k.Name (codes "a")) 7 ∷ token (k.Sign 3) 8 ∷ lined (k.Keyword 6) 10 ∷ lined (k.Sign 4) 19 ∷ token (k.Name (codes "b")) 20 ∷ token (k.Sign 5) 21 ∷ token k.End 22 ∷ []) ≡ Parsed (t.more (t.Plain (t.Break 0 semi.Missing)) (t.more (t.Plain (t.Value (t.Paren (t.Name (named_at 7 (codes "a")))) semi.Missing)) (t.more (t.Plain (t.Continue 10 semi.Missing)) (t.more (t.Plain (t.Value (t.Array (t.more (t.Name (named_at 20 (codes "b"))) t.none)) semi.Missing)) t.none))))
jumps_at_line_breaks = refl

-- { break }
jump_before_a_brace : answer (token (k.Sign 0) 0 ∷ token (k.Keyword 1) 2 ∷ token (k.Sign 1) 8 ∷ token k.End 9 ∷ []) ≡ Parsed (t.more (t.Plain (t.Block (t.more (t.Break 2 semi.Missing) t.none))) t.none)
jump_before_a_brace = refl

-- { let a }
let_before_a_brace : answer (token (k.Sign 0) 0 ∷ token (k.Keyword 25) 2 ∷ token (k.Name (codes "a")) 6 ∷ token (k.Sign 1) 8 ∷ token k.End 9 ∷ []) ≡ Parsed (t.more (t.Plain (t.Block (t.more (t.Declare false (t.more (t.DeclaratorOf (named_at 6 (codes "a")) t.absent) t.none) semi.Missing) t.none))) t.none)
let_before_a_brace = refl

-- { throw a }
throw_before_a_brace : answer (token (k.Sign 0) 0 ∷ token (k.Keyword 37) 2 ∷ token (k.Name (codes "a")) 8 ∷ token (k.Sign 1) 10 ∷ token k.End 11 ∷ []) ≡ Parsed (t.more (t.Plain (t.Block (t.more (t.Throw (t.Name (named_at 8 (codes "a"))) semi.Missing) t.none))) t.none)
throw_before_a_brace = refl

-- while (a) { continue }
continue_before_a_brace : answer (token (k.Keyword 43) 0 ∷ token (k.Sign 2) 6 ∷ token (k.Name (codes "a")) 7 ∷ token (k.Sign 3) 8 ∷ token (k.Sign 0) 10 ∷ token (k.Keyword 6) 12 ∷ token (k.Sign 1) 21 ∷ token k.End 22 ∷ []) ≡ Parsed (t.more (t.Plain (t.While (t.Name (named_at 7 (codes "a"))) (t.Block (t.more (t.Continue 12 semi.Missing) t.none)))) t.none)
continue_before_a_brace = refl

-- { return }
return_before_a_brace : answer (token (k.Sign 0) 0 ∷ token (k.Keyword 32) 2 ∷ token (k.Sign 1) 9 ∷ token k.End 10 ∷ []) ≡ Parsed (t.more (t.Plain (t.Block (t.more (t.Return 2 t.absent semi.Missing) t.none))) t.none)
return_before_a_brace = refl

-- { return a }
return_of_a_value_before_a_brace : answer (token (k.Sign 0) 0 ∷ token (k.Keyword 32) 2 ∷ token (k.Name (codes "a")) 9 ∷ token (k.Sign 1) 11 ∷ token k.End 12 ∷ []) ≡ Parsed (t.more (t.Plain (t.Block (t.more (t.Return 2 (t.present (t.Name (named_at 9 (codes "a")))) semi.Missing) t.none))) t.none)
return_of_a_value_before_a_brace = refl

-- { do ; while (a) }
do_before_a_brace : answer (token (k.Sign 0) 0 ∷ token (k.Keyword 10) 2 ∷ token (k.Sign 6) 5 ∷ token (k.Keyword 43) 7 ∷ token (k.Sign 2) 13 ∷ token (k.Name (codes "a")) 14 ∷ token (k.Sign 3) 15 ∷ token (k.Sign 1) 17 ∷ token k.End 18 ∷ []) ≡ Parsed (t.more (t.Plain (t.Block (t.more (t.DoWhile t.Empty (t.Name (named_at 14 (codes "a"))) semi.Missing) t.none))) t.none)
do_before_a_brace = refl

-- continue
jump_at_the_end : answer (token (k.Keyword 6) 0 ∷ token k.End 8 ∷ []) ≡ Parsed (t.more (t.Plain (t.Continue 0 semi.Missing)) t.none)
jump_at_the_end = refl

-- return⏎a
return_and_a_line_break : answer (token (k.Keyword 32) 0 ∷ lined (k.Name (codes "a")) 7 ∷ token k.End 8 ∷ []) ≡ Parsed (t.more (t.Plain (t.Return 0 t.absent semi.Missing)) (t.more (t.Plain (t.Value ((t.Name (named_at 7 (codes "a")))) semi.Missing)) t.none))
return_and_a_line_break = refl

-- return⏎+ a;
return_and_a_sign_behind_a_line_break : answer (token (k.Keyword 32) 0 ∷ lined (k.Sign 17) 7 ∷ token (k.Name (codes "a")) 9 ∷ token (k.Sign 6) 10 ∷ token k.End 11 ∷ []) ≡ Parsed (t.more (t.Plain (t.Return 0 t.absent semi.Missing)) (t.more (t.Plain (t.Value (t.Unary u.Plus (t.Name (named_at 9 (codes "a")))) semi.Written)) t.none))
return_and_a_sign_behind_a_line_break = refl

-- return⏎;
return_and_a_semicolon_behind_a_line_break : answer (token (k.Keyword 32) 0 ∷ lined (k.Sign 6) 7 ∷ token k.End 8 ∷ []) ≡ Parsed (t.more (t.Plain (t.Return 0 t.absent semi.Written)) t.none)
return_and_a_semicolon_behind_a_line_break = refl

-- return a, b;
return_of_a_value : answer (token (k.Keyword 32) 0 ∷ token (k.Name (codes "a")) 7 ∷ token (k.Sign 7) 8 ∷ token (k.Name (codes "b")) 10 ∷ token (k.Sign 6) 11 ∷ token k.End 12 ∷ []) ≡ Parsed (t.more (t.Plain (t.Return 0 (t.present (t.Comma (t.Name (named_at 7 (codes "a"))) (t.Name (named_at 10 (codes "b"))))) semi.Written)) t.none)
return_of_a_value = refl

-- return a⏎b
return_of_a_value_at_a_line_break : answer (token (k.Keyword 32) 0 ∷ token (k.Name (codes "a")) 7 ∷ lined (k.Name (codes "b")) 9 ∷ token k.End 10 ∷ []) ≡ Parsed (t.more (t.Plain (t.Return 0 (t.present (t.Name (named_at 7 (codes "a")))) semi.Missing)) (t.more (t.Plain (t.Value ((t.Name (named_at 9 (codes "b")))) semi.Missing)) t.none))
return_of_a_value_at_a_line_break = refl

-- return {};
return_of_an_object : answer (token (k.Keyword 32) 0 ∷ token (k.Sign 0) 7 ∷ token (k.Sign 1) 8 ∷ token (k.Sign 6) 9 ∷ token k.End 10 ∷ []) ≡ Parsed (t.more (t.Plain (t.Return 0 (t.present (t.Object t.none)) semi.Written)) t.none)
return_of_an_object = refl

-- throw a⏎b
throw_at_a_line_break : answer (token (k.Keyword 37) 0 ∷ token (k.Name (codes "a")) 6 ∷ lined (k.Name (codes "b")) 8 ∷ token k.End 9 ∷ []) ≡ Parsed (t.more (t.Plain (t.Throw (t.Name (named_at 6 (codes "a"))) semi.Missing)) (t.more (t.Plain (t.Value ((t.Name (named_at 8 (codes "b")))) semi.Missing)) t.none))
throw_at_a_line_break = refl

-- do ; while (a);
do_while : answer (token (k.Keyword 10) 0 ∷ token (k.Sign 6) 3 ∷ token (k.Keyword 43) 5 ∷ token (k.Sign 2) 11 ∷ token (k.Name (codes "a")) 12 ∷ token (k.Sign 3) 13 ∷ token (k.Sign 6) 14 ∷ token k.End 15 ∷ []) ≡ Parsed (t.more (t.Plain (t.DoWhile t.Empty (t.Name (named_at 12 (codes "a"))) semi.Written)) t.none)
do_while = refl

-- do ; while (a) b; do ; while (c)⏎(d)
do_while_anywhere : answer (token (k.Keyword 10) 0 ∷ token (k.Sign 6) 3 ∷ token (k.Keyword 43) 5 ∷ token (k.Sign 2) 11 ∷ token (k.Name (codes "a")) 12 ∷ token (k.Sign 3) 13 ∷ token (k.Name (codes "b")) 15 ∷ token (k.Sign 6) 16 ∷ token (k.Keyword 10) 18 ∷ token (k.Sign 6) 21 ∷ token (k.Keyword 43) 23 ∷ token (k.Sign 2) 29 ∷ token (k.Name (codes "c")) 30 ∷ token (k.Sign 3) 31 ∷ lined (k.Sign 2) 33 ∷ token (k.Name (codes "d")) 34 ∷ token (k.Sign 3) 35 ∷ token k.End 36 ∷ []) ≡ Parsed (t.more (t.Plain (t.DoWhile t.Empty (t.Name (named_at 12 (codes "a"))) semi.Missing)) (t.more (t.Plain (t.Value ((t.Name (named_at 15 (codes "b")))) semi.Written)) (t.more (t.Plain (t.DoWhile t.Empty (t.Name (named_at 30 (codes "c"))) semi.Missing)) (t.more (t.Plain (t.Value (t.Paren (t.Name (named_at 34 (codes "d")))) semi.Missing)) t.none))))
do_while_anywhere = refl

-- do a⏎while (b)
do_of_a_value : answer (token (k.Keyword 10) 0 ∷ token (k.Name (codes "a")) 3 ∷ lined (k.Keyword 43) 5 ∷ token (k.Sign 2) 11 ∷ token (k.Name (codes "b")) 12 ∷ token (k.Sign 3) 13 ∷ token k.End 14 ∷ []) ≡ Parsed (t.more (t.Plain (t.DoWhile (t.Value (t.Name (named_at 3 (codes "a"))) semi.Missing) (t.Name (named_at 12 (codes "b"))) semi.Missing)) t.none)
do_of_a_value = refl

-- do {} while (a)
do_of_a_block : answer (token (k.Keyword 10) 0 ∷ token (k.Sign 0) 3 ∷ token (k.Sign 1) 4 ∷ token (k.Keyword 43) 6 ∷ token (k.Sign 2) 12 ∷ token (k.Name (codes "a")) 13 ∷ token (k.Sign 3) 14 ∷ token k.End 15 ∷ []) ≡ Parsed (t.more (t.Plain (t.DoWhile (t.Block t.none) (t.Name (named_at 13 (codes "a"))) semi.Missing)) t.none)
do_of_a_block = refl

-- do do ; while (a) while (b)
do_of_a_do : answer (token (k.Keyword 10) 0 ∷ token (k.Keyword 10) 3 ∷ token (k.Sign 6) 6 ∷ token (k.Keyword 43) 8 ∷ token (k.Sign 2) 14 ∷ token (k.Name (codes "a")) 15 ∷ token (k.Sign 3) 16 ∷ token (k.Keyword 43) 18 ∷ token (k.Sign 2) 24 ∷ token (k.Name (codes "b")) 25 ∷ token (k.Sign 3) 26 ∷ token k.End 27 ∷ []) ≡ Parsed (t.more (t.Plain (t.DoWhile (t.DoWhile t.Empty (t.Name (named_at 15 (codes "a"))) semi.Missing) (t.Name (named_at 25 (codes "b"))) semi.Missing)) t.none)
do_of_a_do = refl

-- if (a) if (b) c; else d;
else_of_the_inner_if : answer (token (k.Keyword 19) 0 ∷ token (k.Sign 2) 3 ∷ token (k.Name (codes "a")) 4 ∷ token (k.Sign 3) 5 ∷ token (k.Keyword 19) 7 ∷ token (k.Sign 2) 10 ∷ token (k.Name (codes "b")) 11 ∷ token (k.Sign 3) 12 ∷ token (k.Name (codes "c")) 14 ∷ token (k.Sign 6) 15 ∷ token (k.Keyword 11) 17 ∷ token (k.Name (codes "d")) 22 ∷ token (k.Sign 6) 23 ∷ token k.End 24 ∷ []) ≡ Parsed (t.more (t.Plain (t.If (t.Name (named_at 4 (codes "a"))) (t.If (t.Name (named_at 11 (codes "b"))) (t.Value (t.Name (named_at 14 (codes "c"))) semi.Written) (t.present (t.Value (t.Name (named_at 22 (codes "d"))) semi.Written))) t.absent)) t.none)
else_of_the_inner_if = refl

-- if (a) if (b) c; else d; else e;
else_of_both_ifs : answer (token (k.Keyword 19) 0 ∷ token (k.Sign 2) 3 ∷ token (k.Name (codes "a")) 4 ∷ token (k.Sign 3) 5 ∷ token (k.Keyword 19) 7 ∷ token (k.Sign 2) 10 ∷ token (k.Name (codes "b")) 11 ∷ token (k.Sign 3) 12 ∷ token (k.Name (codes "c")) 14 ∷ token (k.Sign 6) 15 ∷ token (k.Keyword 11) 17 ∷ token (k.Name (codes "d")) 22 ∷ token (k.Sign 6) 23 ∷ token (k.Keyword 11) 25 ∷ token (k.Name (codes "e")) 30 ∷ token (k.Sign 6) 31 ∷ token k.End 32 ∷ []) ≡ Parsed (t.more (t.Plain (t.If (t.Name (named_at 4 (codes "a"))) (t.If (t.Name (named_at 11 (codes "b"))) (t.Value (t.Name (named_at 14 (codes "c"))) semi.Written) (t.present (t.Value (t.Name (named_at 22 (codes "d"))) semi.Written))) (t.present (t.Value (t.Name (named_at 30 (codes "e"))) semi.Written)))) t.none)
else_of_both_ifs = refl

-- if (a) b; else if (c) d; else e;
else_in_a_chain : answer (token (k.Keyword 19) 0 ∷ token (k.Sign 2) 3 ∷ token (k.Name (codes "a")) 4 ∷ token (k.Sign 3) 5 ∷ token (k.Name (codes "b")) 7 ∷ token (k.Sign 6) 8 ∷ token (k.Keyword 11) 10 ∷ token (k.Keyword 19) 15 ∷ token (k.Sign 2) 18 ∷ token (k.Name (codes "c")) 19 ∷ token (k.Sign 3) 20 ∷ token (k.Name (codes "d")) 22 ∷ token (k.Sign 6) 23 ∷ token (k.Keyword 11) 25 ∷ token (k.Name (codes "e")) 30 ∷ token (k.Sign 6) 31 ∷ token k.End 32 ∷ []) ≡ Parsed (t.more (t.Plain (t.If (t.Name (named_at 4 (codes "a"))) (t.Value (t.Name (named_at 7 (codes "b"))) semi.Written) (t.present (t.If (t.Name (named_at 19 (codes "c"))) (t.Value (t.Name (named_at 22 (codes "d"))) semi.Written) (t.present (t.Value (t.Name (named_at 30 (codes "e"))) semi.Written)))))) t.none)
else_in_a_chain = refl

-- if (a) { if (b) c; } else d;
else_behind_a_block : answer (token (k.Keyword 19) 0 ∷ token (k.Sign 2) 3 ∷ token (k.Name (codes "a")) 4 ∷ token (k.Sign 3) 5 ∷ token (k.Sign 0) 7 ∷ token (k.Keyword 19) 9 ∷ token (k.Sign 2) 12 ∷ token (k.Name (codes "b")) 13 ∷ token (k.Sign 3) 14 ∷ token (k.Name (codes "c")) 16 ∷ token (k.Sign 6) 17 ∷ token (k.Sign 1) 19 ∷ token (k.Keyword 11) 21 ∷ token (k.Name (codes "d")) 26 ∷ token (k.Sign 6) 27 ∷ token k.End 28 ∷ []) ≡ Parsed (t.more (t.Plain (t.If (t.Name (named_at 4 (codes "a"))) (t.Block (t.more (t.If (t.Name (named_at 13 (codes "b"))) (t.Value (t.Name (named_at 16 (codes "c"))) semi.Written) t.absent) t.none)) (t.present (t.Value (t.Name (named_at 26 (codes "d"))) semi.Written)))) t.none)
else_behind_a_block = refl

-- if (a) while (b) if (c) d; else e;
else_behind_a_while : answer (token (k.Keyword 19) 0 ∷ token (k.Sign 2) 3 ∷ token (k.Name (codes "a")) 4 ∷ token (k.Sign 3) 5 ∷ token (k.Keyword 43) 7 ∷ token (k.Sign 2) 13 ∷ token (k.Name (codes "b")) 14 ∷ token (k.Sign 3) 15 ∷ token (k.Keyword 19) 17 ∷ token (k.Sign 2) 20 ∷ token (k.Name (codes "c")) 21 ∷ token (k.Sign 3) 22 ∷ token (k.Name (codes "d")) 24 ∷ token (k.Sign 6) 25 ∷ token (k.Keyword 11) 27 ∷ token (k.Name (codes "e")) 32 ∷ token (k.Sign 6) 33 ∷ token k.End 34 ∷ []) ≡ Parsed (t.more (t.Plain (t.If (t.Name (named_at 4 (codes "a"))) (t.While (t.Name (named_at 14 (codes "b"))) (t.If (t.Name (named_at 21 (codes "c"))) (t.Value (t.Name (named_at 24 (codes "d"))) semi.Written) (t.present (t.Value (t.Name (named_at 32 (codes "e"))) semi.Written)))) t.absent)) t.none)
else_behind_a_while = refl

-- if (a) for (;;) if (b) c; else d;
else_behind_a_for : answer (token (k.Keyword 19) 0 ∷ token (k.Sign 2) 3 ∷ token (k.Name (codes "a")) 4 ∷ token (k.Sign 3) 5 ∷ token (k.Keyword 17) 7 ∷ token (k.Sign 2) 11 ∷ token (k.Sign 6) 12 ∷ token (k.Sign 6) 13 ∷ token (k.Sign 3) 14 ∷ token (k.Keyword 19) 16 ∷ token (k.Sign 2) 19 ∷ token (k.Name (codes "b")) 20 ∷ token (k.Sign 3) 21 ∷ token (k.Name (codes "c")) 23 ∷ token (k.Sign 6) 24 ∷ token (k.Keyword 11) 26 ∷ token (k.Name (codes "d")) 31 ∷ token (k.Sign 6) 32 ∷ token k.End 33 ∷ []) ≡ Parsed (t.more (t.Plain (t.If (t.Name (named_at 4 (codes "a"))) (t.For t.HeadNothing t.absent t.absent (t.If (t.Name (named_at 20 (codes "b"))) (t.Value (t.Name (named_at 23 (codes "c"))) semi.Written) (t.present (t.Value (t.Name (named_at 31 (codes "d"))) semi.Written)))) t.absent)) t.none)
else_behind_a_for = refl

-- if (a) do if (b) c; while (d); else e;
else_behind_a_do : answer (token (k.Keyword 19) 0 ∷ token (k.Sign 2) 3 ∷ token (k.Name (codes "a")) 4 ∷ token (k.Sign 3) 5 ∷ token (k.Keyword 10) 7 ∷ token (k.Keyword 19) 10 ∷ token (k.Sign 2) 13 ∷ token (k.Name (codes "b")) 14 ∷ token (k.Sign 3) 15 ∷ token (k.Name (codes "c")) 17 ∷ token (k.Sign 6) 18 ∷ token (k.Keyword 43) 20 ∷ token (k.Sign 2) 26 ∷ token (k.Name (codes "d")) 27 ∷ token (k.Sign 3) 28 ∷ token (k.Sign 6) 29 ∷ token (k.Keyword 11) 31 ∷ token (k.Name (codes "e")) 36 ∷ token (k.Sign 6) 37 ∷ token k.End 38 ∷ []) ≡ Parsed (t.more (t.Plain (t.If (t.Name (named_at 4 (codes "a"))) (t.DoWhile (t.If (t.Name (named_at 14 (codes "b"))) (t.Value (t.Name (named_at 17 (codes "c"))) semi.Written) t.absent) (t.Name (named_at 27 (codes "d"))) semi.Written) (t.present (t.Value (t.Name (named_at 36 (codes "e"))) semi.Written)))) t.none)
else_behind_a_do = refl

-- if (a) if (b) c; else if (d) e; else f;
else_behind_an_else : answer (token (k.Keyword 19) 0 ∷ token (k.Sign 2) 3 ∷ token (k.Name (codes "a")) 4 ∷ token (k.Sign 3) 5 ∷ token (k.Keyword 19) 7 ∷ token (k.Sign 2) 10 ∷ token (k.Name (codes "b")) 11 ∷ token (k.Sign 3) 12 ∷ token (k.Name (codes "c")) 14 ∷ token (k.Sign 6) 15 ∷ token (k.Keyword 11) 17 ∷ token (k.Keyword 19) 22 ∷ token (k.Sign 2) 25 ∷ token (k.Name (codes "d")) 26 ∷ token (k.Sign 3) 27 ∷ token (k.Name (codes "e")) 29 ∷ token (k.Sign 6) 30 ∷ token (k.Keyword 11) 32 ∷ token (k.Name (codes "f")) 37 ∷ token (k.Sign 6) 38 ∷ token k.End 39 ∷ []) ≡ Parsed (t.more (t.Plain (t.If (t.Name (named_at 4 (codes "a"))) (t.If (t.Name (named_at 11 (codes "b"))) (t.Value (t.Name (named_at 14 (codes "c"))) semi.Written) (t.present (t.If (t.Name (named_at 26 (codes "d"))) (t.Value (t.Name (named_at 29 (codes "e"))) semi.Written) (t.present (t.Value (t.Name (named_at 37 (codes "f"))) semi.Written))))) t.absent)) t.none)
else_behind_an_else = refl

-- if (a) b⏎else c
else_behind_a_missing_semicolon : answer (token (k.Keyword 19) 0 ∷ token (k.Sign 2) 3 ∷ token (k.Name (codes "a")) 4 ∷ token (k.Sign 3) 5 ∷ token (k.Name (codes "b")) 7 ∷ lined (k.Keyword 11) 9 ∷ token (k.Name (codes "c")) 14 ∷ token k.End 15 ∷ []) ≡ Parsed (t.more (t.Plain (t.If (t.Name (named_at 4 (codes "a"))) (t.Value (t.Name (named_at 7 (codes "b"))) semi.Missing) (t.present (t.Value (t.Name (named_at 14 (codes "c"))) semi.Missing)))) t.none)
else_behind_a_missing_semicolon = refl

-- if (a) if (b) c⏎d
else_behind_two_missing_semicolons : answer (token (k.Keyword 19) 0 ∷ token (k.Sign 2) 3 ∷ token (k.Name (codes "a")) 4 ∷ token (k.Sign 3) 5 ∷ token (k.Keyword 19) 7 ∷ token (k.Sign 2) 10 ∷ token (k.Name (codes "b")) 11 ∷ token (k.Sign 3) 12 ∷ token (k.Name (codes "c")) 14 ∷ lined (k.Name (codes "d")) 16 ∷ token k.End 17 ∷ []) ≡ Parsed (t.more (t.Plain (t.If (t.Name (named_at 4 (codes "a"))) (t.If (t.Name (named_at 11 (codes "b"))) (t.Value (t.Name (named_at 14 (codes "c"))) semi.Missing) t.absent) t.absent)) (t.more (t.Plain (t.Value ((t.Name (named_at 16 (codes "d")))) semi.Missing)) t.none))
else_behind_two_missing_semicolons = refl

-- if (a) if (b) if (c) d; else e; else f; else g;
else_behind_three_ifs : answer (token (k.Keyword 19) 0 ∷ token (k.Sign 2) 3 ∷ token (k.Name (codes "a")) 4 ∷ token (k.Sign 3) 5 ∷ token (k.Keyword 19) 7 ∷ token (k.Sign 2) 10 ∷ token (k.Name (codes "b")) 11 ∷ token (k.Sign 3) 12 ∷ token (k.Keyword 19) 14 ∷ token (k.Sign 2) 17 ∷ token (k.Name (codes "c")) 18 ∷ token (k.Sign 3) 19 ∷ token (k.Name (codes "d")) 21 ∷ token (k.Sign 6) 22 ∷ token (k.Keyword 11) 24 ∷ token (k.Name (codes "e")) 29 ∷ token (k.Sign 6) 30 ∷ token (k.Keyword 11) 32 ∷ token (k.Name (codes "f")) 37 ∷ token (k.Sign 6) 38 ∷ token (k.Keyword 11) 40 ∷ token (k.Name (codes "g")) 45 ∷ token (k.Sign 6) 46 ∷ token k.End 47 ∷ []) ≡ Parsed (t.more (t.Plain (t.If (t.Name (named_at 4 (codes "a"))) (t.If (t.Name (named_at 11 (codes "b"))) (t.If (t.Name (named_at 18 (codes "c"))) (t.Value (t.Name (named_at 21 (codes "d"))) semi.Written) (t.present (t.Value (t.Name (named_at 29 (codes "e"))) semi.Written))) (t.present (t.Value (t.Name (named_at 37 (codes "f"))) semi.Written))) (t.present (t.Value (t.Name (named_at 45 (codes "g"))) semi.Written)))) t.none)
else_behind_three_ifs = refl

-- if (a) ; else ; while (b) ; for (;;) ;
empty_bodies : answer (token (k.Keyword 19) 0 ∷ token (k.Sign 2) 3 ∷ token (k.Name (codes "a")) 4 ∷ token (k.Sign 3) 5 ∷ token (k.Sign 6) 7 ∷ token (k.Keyword 11) 9 ∷ token (k.Sign 6) 14 ∷ token (k.Keyword 43) 16 ∷ token (k.Sign 2) 22 ∷ token (k.Name (codes "b")) 23 ∷ token (k.Sign 3) 24 ∷ token (k.Sign 6) 26 ∷ token (k.Keyword 17) 28 ∷ token (k.Sign 2) 32 ∷ token (k.Sign 6) 33 ∷ token (k.Sign 6) 34 ∷ token (k.Sign 3) 35 ∷ token (k.Sign 6) 37 ∷ token k.End 38 ∷ []) ≡ Parsed (t.more (t.Plain (t.If (t.Name (named_at 4 (codes "a"))) t.Empty (t.present t.Empty))) (t.more (t.Plain (t.While (t.Name (named_at 23 (codes "b"))) t.Empty)) (t.more (t.Plain (t.For t.HeadNothing t.absent t.absent t.Empty)) t.none)))
empty_bodies = refl

-- { if (a) b }
if_at_the_end_of_a_block : answer (token (k.Sign 0) 0 ∷ token (k.Keyword 19) 2 ∷ token (k.Sign 2) 5 ∷ token (k.Name (codes "a")) 6 ∷ token (k.Sign 3) 7 ∷ token (k.Name (codes "b")) 9 ∷ token (k.Sign 1) 11 ∷ token k.End 12 ∷ []) ≡ Parsed (t.more (t.Plain (t.Block (t.more (t.If (t.Name (named_at 6 (codes "a"))) (t.Value (t.Name (named_at 9 (codes "b"))) semi.Missing) t.absent) t.none))) t.none)
if_at_the_end_of_a_block = refl

-- for (a; b; c) d;
for_of_each_part : answer (token (k.Keyword 17) 0 ∷ token (k.Sign 2) 4 ∷ token (k.Name (codes "a")) 5 ∷ token (k.Sign 6) 6 ∷ token (k.Name (codes "b")) 8 ∷ token (k.Sign 6) 9 ∷ token (k.Name (codes "c")) 11 ∷ token (k.Sign 3) 12 ∷ token (k.Name (codes "d")) 14 ∷ token (k.Sign 6) 15 ∷ token k.End 16 ∷ []) ≡ Parsed (t.more (t.Plain (t.For (t.HeadValue (t.Name (named_at 5 (codes "a")))) (t.present (t.Name (named_at 8 (codes "b")))) (t.present (t.Name (named_at 11 (codes "c")))) (t.Value (t.Name (named_at 14 (codes "d"))) semi.Written))) t.none)
for_of_each_part = refl

-- for (a, b; c, d; e, f) ;
for_of_commas : answer (token (k.Keyword 17) 0 ∷ token (k.Sign 2) 4 ∷ token (k.Name (codes "a")) 5 ∷ token (k.Sign 7) 6 ∷ token (k.Name (codes "b")) 8 ∷ token (k.Sign 6) 9 ∷ token (k.Name (codes "c")) 11 ∷ token (k.Sign 7) 12 ∷ token (k.Name (codes "d")) 14 ∷ token (k.Sign 6) 15 ∷ token (k.Name (codes "e")) 17 ∷ token (k.Sign 7) 18 ∷ token (k.Name (codes "f")) 20 ∷ token (k.Sign 3) 21 ∷ token (k.Sign 6) 23 ∷ token k.End 24 ∷ []) ≡ Parsed (t.more (t.Plain (t.For (t.HeadValue (t.Comma (t.Name (named_at 5 (codes "a"))) (t.Name (named_at 8 (codes "b"))))) (t.present (t.Comma (t.Name (named_at 11 (codes "c"))) (t.Name (named_at 14 (codes "d"))))) (t.present (t.Comma (t.Name (named_at 17 (codes "e"))) (t.Name (named_at 20 (codes "f"))))) t.Empty)) t.none)
for_of_commas = refl

-- for (let a = b, c; ; ) ;
for_of_a_declaration : answer (token (k.Keyword 17) 0 ∷ token (k.Sign 2) 4 ∷ token (k.Keyword 25) 5 ∷ token (k.Name (codes "a")) 9 ∷ token (k.Sign 38) 11 ∷ token (k.Name (codes "b")) 13 ∷ token (k.Sign 7) 14 ∷ token (k.Name (codes "c")) 16 ∷ token (k.Sign 6) 17 ∷ token (k.Sign 6) 19 ∷ token (k.Sign 3) 21 ∷ token (k.Sign 6) 23 ∷ token k.End 24 ∷ []) ≡ Parsed (t.more (t.Plain (t.For (t.HeadDeclare false (t.more (t.DeclaratorOf (named_at 9 (codes "a")) (t.present (t.Name (named_at 13 (codes "b"))))) (t.more (t.DeclaratorOf (named_at 16 (codes "c")) t.absent) t.none))) t.absent t.absent t.Empty)) t.none)
for_of_a_declaration = refl

-- for (const a = b; c; ) {}
for_of_a_constant : answer (token (k.Keyword 17) 0 ∷ token (k.Sign 2) 4 ∷ token (k.Keyword 5) 5 ∷ token (k.Name (codes "a")) 11 ∷ token (k.Sign 38) 13 ∷ token (k.Name (codes "b")) 15 ∷ token (k.Sign 6) 16 ∷ token (k.Name (codes "c")) 18 ∷ token (k.Sign 6) 19 ∷ token (k.Sign 3) 21 ∷ token (k.Sign 0) 23 ∷ token (k.Sign 1) 24 ∷ token k.End 25 ∷ []) ≡ Parsed (t.more (t.Plain (t.For (t.HeadDeclare true (t.more (t.DeclaratorOf (named_at 11 (codes "a")) (t.present (t.Name (named_at 15 (codes "b"))))) t.none)) (t.present (t.Name (named_at 18 (codes "c")))) t.absent (t.Block t.none))) t.none)
for_of_a_constant = refl

-- for ({}; ; a) ;
for_of_an_object : answer (token (k.Keyword 17) 0 ∷ token (k.Sign 2) 4 ∷ token (k.Sign 0) 5 ∷ token (k.Sign 1) 6 ∷ token (k.Sign 6) 7 ∷ token (k.Sign 6) 9 ∷ token (k.Name (codes "a")) 11 ∷ token (k.Sign 3) 12 ∷ token (k.Sign 6) 14 ∷ token k.End 15 ∷ []) ≡ Parsed (t.more (t.Plain (t.For (t.HeadValue (t.Object t.none)) t.absent (t.present (t.Name (named_at 11 (codes "a")))) t.Empty)) t.none)
for_of_an_object = refl

-- for (function () {}; ; ) ;
for_of_a_function : answer (token (k.Keyword 17) 0 ∷ token (k.Sign 2) 4 ∷ token (k.Keyword 18) 5 ∷ token (k.Sign 2) 14 ∷ token (k.Sign 3) 15 ∷ token (k.Sign 0) 17 ∷ token (k.Sign 1) 18 ∷ token (k.Sign 6) 19 ∷ token (k.Sign 6) 21 ∷ token (k.Sign 3) 23 ∷ token (k.Sign 6) 25 ∷ token k.End 26 ∷ []) ≡ Parsed (t.more (t.Plain (t.For (t.HeadValue (t.Function (t.FunctionOf 5 None f.Plain [] (t.BodyStatements t.none)))) t.absent t.absent t.Empty)) t.none)
for_of_a_function = refl

-- for (a in b; ; ) ;
for_of_an_in : answer (token (k.Keyword 17) 0 ∷ token (k.Sign 2) 4 ∷ token (k.Name (codes "a")) 5 ∷ token (k.Keyword 22) 7 ∷ token (k.Name (codes "b")) 10 ∷ token (k.Sign 6) 11 ∷ token (k.Sign 6) 13 ∷ token (k.Sign 3) 15 ∷ token (k.Sign 6) 17 ∷ token k.End 18 ∷ []) ≡ Parsed (t.more (t.Plain (t.For (t.HeadValue (t.In (t.Name (named_at 5 (codes "a"))) (t.Name (named_at 10 (codes "b"))))) t.absent t.absent t.Empty)) t.none)
for_of_an_in = refl

-- for (let a = b in c;;) ;
for_of_a_value_with_in : answer (token (k.Keyword 17) 0 ∷ token (k.Sign 2) 4 ∷ token (k.Keyword 25) 5 ∷ token (k.Name (codes "a")) 9 ∷ token (k.Sign 38) 11 ∷ token (k.Name (codes "b")) 13 ∷ token (k.Keyword 22) 15 ∷ token (k.Name (codes "c")) 18 ∷ token (k.Sign 6) 19 ∷ token (k.Sign 6) 20 ∷ token (k.Sign 3) 21 ∷ token (k.Sign 6) 23 ∷ token k.End 24 ∷ []) ≡ Parsed (t.more (t.Plain (t.For (t.HeadDeclare false (t.more (t.DeclaratorOf (named_at 9 (codes "a")) (t.present (t.In (t.Name (named_at 13 (codes "b"))) (t.Name (named_at 18 (codes "c")))))) t.none)) t.absent t.absent t.Empty)) t.none)
for_of_a_value_with_in = refl

-- for (let a⏎;⏎;⏎) ;
for_with_line_breaks : answer (token (k.Keyword 17) 0 ∷ token (k.Sign 2) 4 ∷ token (k.Keyword 25) 5 ∷ token (k.Name (codes "a")) 9 ∷ lined (k.Sign 6) 11 ∷ lined (k.Sign 6) 13 ∷ lined (k.Sign 3) 15 ∷ token (k.Sign 6) 17 ∷ token k.End 18 ∷ []) ≡ Parsed (t.more (t.Plain (t.For (t.HeadDeclare false (t.more (t.DeclaratorOf (named_at 9 (codes "a")) t.absent) t.none)) t.absent t.absent t.Empty)) t.none)
for_with_line_breaks = refl

-- while (a) b⏎c
while_and_a_missing_semicolon : answer (token (k.Keyword 43) 0 ∷ token (k.Sign 2) 6 ∷ token (k.Name (codes "a")) 7 ∷ token (k.Sign 3) 8 ∷ token (k.Name (codes "b")) 10 ∷ lined (k.Name (codes "c")) 12 ∷ token k.End 13 ∷ []) ≡ Parsed (t.more (t.Plain (t.While (t.Name (named_at 7 (codes "a"))) (t.Value (t.Name (named_at 10 (codes "b"))) semi.Missing))) (t.more (t.Plain (t.Value ((t.Name (named_at 12 (codes "c")))) semi.Missing)) t.none))
while_and_a_missing_semicolon = refl

-- try { a } catch { b }
try_and_catch : answer (token (k.Keyword 39) 0 ∷ token (k.Sign 0) 4 ∷ token (k.Name (codes "a")) 6 ∷ token (k.Sign 1) 8 ∷ token (k.Keyword 3) 10 ∷ token (k.Sign 0) 16 ∷ token (k.Name (codes "b")) 18 ∷ token (k.Sign 1) 20 ∷ token k.End 21 ∷ []) ≡ Parsed (t.more (t.Plain (t.Try (t.more (t.Value (t.Name (named_at 6 (codes "a"))) semi.Missing) t.none) None (t.present (t.more (t.Value (t.Name (named_at 18 (codes "b"))) semi.Missing) t.none)) t.absent)) t.none)
try_and_catch = refl

-- try {} catch (a) {}
try_and_a_caught_name : answer (token (k.Keyword 39) 0 ∷ token (k.Sign 0) 4 ∷ token (k.Sign 1) 5 ∷ token (k.Keyword 3) 7 ∷ token (k.Sign 2) 13 ∷ token (k.Name (codes "a")) 14 ∷ token (k.Sign 3) 15 ∷ token (k.Sign 0) 17 ∷ token (k.Sign 1) 18 ∷ token k.End 19 ∷ []) ≡ Parsed (t.more (t.Plain (t.Try t.none (Some (named_at 14 (codes "a"))) (t.present t.none) t.absent)) t.none)
try_and_a_caught_name = refl

-- try {} finally { a; }
try_and_finally : answer (token (k.Keyword 39) 0 ∷ token (k.Sign 0) 4 ∷ token (k.Sign 1) 5 ∷ token (k.Keyword 16) 7 ∷ token (k.Sign 0) 15 ∷ token (k.Name (codes "a")) 17 ∷ token (k.Sign 6) 18 ∷ token (k.Sign 1) 20 ∷ token k.End 21 ∷ []) ≡ Parsed (t.more (t.Plain (t.Try t.none None t.absent (t.present (t.more (t.Value (t.Name (named_at 17 (codes "a"))) semi.Written) t.none)))) t.none)
try_and_finally = refl

-- try {} catch (a) {} finally {}
try_and_both : answer (token (k.Keyword 39) 0 ∷ token (k.Sign 0) 4 ∷ token (k.Sign 1) 5 ∷ token (k.Keyword 3) 7 ∷ token (k.Sign 2) 13 ∷ token (k.Name (codes "a")) 14 ∷ token (k.Sign 3) 15 ∷ token (k.Sign 0) 17 ∷ token (k.Sign 1) 18 ∷ token (k.Keyword 16) 20 ∷ token (k.Sign 0) 28 ∷ token (k.Sign 1) 29 ∷ token k.End 30 ∷ []) ≡ Parsed (t.more (t.Plain (t.Try t.none (Some (named_at 14 (codes "a"))) (t.present t.none) (t.present t.none))) t.none)
try_and_both = refl

-- try {} catch {} finally {} b
try_and_both_without_a_name : answer (token (k.Keyword 39) 0 ∷ token (k.Sign 0) 4 ∷ token (k.Sign 1) 5 ∷ token (k.Keyword 3) 7 ∷ token (k.Sign 0) 13 ∷ token (k.Sign 1) 14 ∷ token (k.Keyword 16) 16 ∷ token (k.Sign 0) 24 ∷ token (k.Sign 1) 25 ∷ token (k.Name (codes "b")) 27 ∷ token k.End 28 ∷ []) ≡ Parsed (t.more (t.Plain (t.Try t.none None (t.present t.none) (t.present t.none))) (t.more (t.Plain (t.Value ((t.Name (named_at 27 (codes "b")))) semi.Missing)) t.none))
try_and_both_without_a_name = refl

-- try {} catch {} a;
try_and_a_statement : answer (token (k.Keyword 39) 0 ∷ token (k.Sign 0) 4 ∷ token (k.Sign 1) 5 ∷ token (k.Keyword 3) 7 ∷ token (k.Sign 0) 13 ∷ token (k.Sign 1) 14 ∷ token (k.Name (codes "a")) 16 ∷ token (k.Sign 6) 17 ∷ token k.End 18 ∷ []) ≡ Parsed (t.more (t.Plain (t.Try t.none None (t.present t.none) t.absent)) (t.more (t.Plain (t.Value ((t.Name (named_at 16 (codes "a")))) semi.Written)) t.none))
try_and_a_statement = refl

-- if (a) try {} catch {} else b;
try_in_an_if : answer (token (k.Keyword 19) 0 ∷ token (k.Sign 2) 3 ∷ token (k.Name (codes "a")) 4 ∷ token (k.Sign 3) 5 ∷ token (k.Keyword 39) 7 ∷ token (k.Sign 0) 11 ∷ token (k.Sign 1) 12 ∷ token (k.Keyword 3) 14 ∷ token (k.Sign 0) 20 ∷ token (k.Sign 1) 21 ∷ token (k.Keyword 11) 23 ∷ token (k.Name (codes "b")) 28 ∷ token (k.Sign 6) 29 ∷ token k.End 30 ∷ []) ≡ Parsed (t.more (t.Plain (t.If (t.Name (named_at 4 (codes "a"))) (t.Try t.none None (t.present t.none) t.absent) (t.present (t.Value (t.Name (named_at 28 (codes "b"))) semi.Written)))) t.none)
try_in_an_if = refl

-- switch (a) {}
switch_of_nothing : answer (token (k.Keyword 35) 0 ∷ token (k.Sign 2) 7 ∷ token (k.Name (codes "a")) 8 ∷ token (k.Sign 3) 9 ∷ token (k.Sign 0) 11 ∷ token (k.Sign 1) 12 ∷ token k.End 13 ∷ []) ≡ Parsed (t.more (t.Plain (t.Switch (t.Name (named_at 8 (codes "a"))) t.none)) t.none)
switch_of_nothing = refl

-- switch (a) { case b: c; d; case e: default: f }
switch_of_cases : answer (token (k.Keyword 35) 0 ∷ token (k.Sign 2) 7 ∷ token (k.Name (codes "a")) 8 ∷ token (k.Sign 3) 9 ∷ token (k.Sign 0) 11 ∷ token (k.Keyword 2) 13 ∷ token (k.Name (codes "b")) 18 ∷ token (k.Sign 37) 19 ∷ token (k.Name (codes "c")) 21 ∷ token (k.Sign 6) 22 ∷ token (k.Name (codes "d")) 24 ∷ token (k.Sign 6) 25 ∷ token (k.Keyword 2) 27 ∷ token (k.Name (codes "e")) 32 ∷ token (k.Sign 37) 33 ∷ token (k.Keyword 8) 35 ∷ token (k.Sign 37) 42 ∷ token (k.Name (codes "f")) 44 ∷ token (k.Sign 1) 46 ∷ token k.End 47 ∷ []) ≡ Parsed (t.more (t.Plain (t.Switch (t.Name (named_at 8 (codes "a"))) (t.more (t.CaseOf (t.present (t.Name (named_at 18 (codes "b")))) (t.more (t.Value (t.Name (named_at 21 (codes "c"))) semi.Written) (t.more (t.Value (t.Name (named_at 24 (codes "d"))) semi.Written) t.none))) (t.more (t.CaseOf (t.present (t.Name (named_at 32 (codes "e")))) t.none) (t.more (t.CaseOf t.absent (t.more (t.Value (t.Name (named_at 44 (codes "f"))) semi.Missing) t.none)) t.none))))) t.none)
switch_of_cases = refl

-- switch (a) { default: case b: }
switch_with_the_default_first : answer (token (k.Keyword 35) 0 ∷ token (k.Sign 2) 7 ∷ token (k.Name (codes "a")) 8 ∷ token (k.Sign 3) 9 ∷ token (k.Sign 0) 11 ∷ token (k.Keyword 8) 13 ∷ token (k.Sign 37) 20 ∷ token (k.Keyword 2) 22 ∷ token (k.Name (codes "b")) 27 ∷ token (k.Sign 37) 28 ∷ token (k.Sign 1) 30 ∷ token k.End 31 ∷ []) ≡ Parsed (t.more (t.Plain (t.Switch (t.Name (named_at 8 (codes "a"))) (t.more (t.CaseOf t.absent t.none) (t.more (t.CaseOf (t.present (t.Name (named_at 27 (codes "b")))) t.none) t.none)))) t.none)
switch_with_the_default_first = refl

-- switch (a, b) { case c, d: }
switch_of_a_comma_form : answer (token (k.Keyword 35) 0 ∷ token (k.Sign 2) 7 ∷ token (k.Name (codes "a")) 8 ∷ token (k.Sign 7) 9 ∷ token (k.Name (codes "b")) 11 ∷ token (k.Sign 3) 12 ∷ token (k.Sign 0) 14 ∷ token (k.Keyword 2) 16 ∷ token (k.Name (codes "c")) 21 ∷ token (k.Sign 7) 22 ∷ token (k.Name (codes "d")) 24 ∷ token (k.Sign 37) 25 ∷ token (k.Sign 1) 27 ∷ token k.End 28 ∷ []) ≡ Parsed (t.more (t.Plain (t.Switch (t.Comma (t.Name (named_at 8 (codes "a"))) (t.Name (named_at 11 (codes "b")))) (t.more (t.CaseOf (t.present (t.Comma (t.Name (named_at 21 (codes "c"))) (t.Name (named_at 24 (codes "d"))))) t.none) t.none))) t.none)
switch_of_a_comma_form = refl

-- switch (a) { case b ? c : d: }
switch_of_a_conditional_case : answer (token (k.Keyword 35) 0 ∷ token (k.Sign 2) 7 ∷ token (k.Name (codes "a")) 8 ∷ token (k.Sign 3) 9 ∷ token (k.Sign 0) 11 ∷ token (k.Keyword 2) 13 ∷ token (k.Name (codes "b")) 18 ∷ token (k.Sign 36) 20 ∷ token (k.Name (codes "c")) 22 ∷ token (k.Sign 37) 24 ∷ token (k.Name (codes "d")) 26 ∷ token (k.Sign 37) 27 ∷ token (k.Sign 1) 29 ∷ token k.End 30 ∷ []) ≡ Parsed (t.more (t.Plain (t.Switch (t.Name (named_at 8 (codes "a"))) (t.more (t.CaseOf (t.present (t.Conditional (t.Name (named_at 18 (codes "b"))) (t.Name (named_at 22 (codes "c"))) (t.Name (named_at 26 (codes "d"))))) t.none) t.none))) t.none)
switch_of_a_conditional_case = refl

-- switch (a) { case b: let c; function f() {} }
switch_with_declarations : answer (token (k.Keyword 35) 0 ∷ token (k.Sign 2) 7 ∷ token (k.Name (codes "a")) 8 ∷ token (k.Sign 3) 9 ∷ token (k.Sign 0) 11 ∷ token (k.Keyword 2) 13 ∷ token (k.Name (codes "b")) 18 ∷ token (k.Sign 37) 19 ∷ token (k.Keyword 25) 21 ∷ token (k.Name (codes "c")) 25 ∷ token (k.Sign 6) 26 ∷ token (k.Keyword 18) 28 ∷ token (k.Name (codes "f")) 37 ∷ token (k.Sign 2) 38 ∷ token (k.Sign 3) 39 ∷ token (k.Sign 0) 41 ∷ token (k.Sign 1) 42 ∷ token (k.Sign 1) 44 ∷ token k.End 45 ∷ []) ≡ Parsed (t.more (t.Plain (t.Switch (t.Name (named_at 8 (codes "a"))) (t.more (t.CaseOf (t.present (t.Name (named_at 18 (codes "b")))) (t.more (t.Declare false (t.more (t.DeclaratorOf (named_at 25 (codes "c")) t.absent) t.none) semi.Written) (t.more (t.FunctionStatement (t.FunctionOf 28 (Some (named_at 37 (codes "f"))) f.Plain [] (t.BodyStatements t.none))) t.none))) t.none))) t.none)
switch_with_declarations = refl

-- switch (a) { case b: switch (c) { default: } default: }
switch_in_a_switch : answer (token (k.Keyword 35) 0 ∷ token (k.Sign 2) 7 ∷ token (k.Name (codes "a")) 8 ∷ token (k.Sign 3) 9 ∷ token (k.Sign 0) 11 ∷ token (k.Keyword 2) 13 ∷ token (k.Name (codes "b")) 18 ∷ token (k.Sign 37) 19 ∷ token (k.Keyword 35) 21 ∷ token (k.Sign 2) 28 ∷ token (k.Name (codes "c")) 29 ∷ token (k.Sign 3) 30 ∷ token (k.Sign 0) 32 ∷ token (k.Keyword 8) 34 ∷ token (k.Sign 37) 41 ∷ token (k.Sign 1) 43 ∷ token (k.Keyword 8) 45 ∷ token (k.Sign 37) 52 ∷ token (k.Sign 1) 54 ∷ token k.End 55 ∷ []) ≡ Parsed (t.more (t.Plain (t.Switch (t.Name (named_at 8 (codes "a"))) (t.more (t.CaseOf (t.present (t.Name (named_at 18 (codes "b")))) (t.more (t.Switch (t.Name (named_at 29 (codes "c"))) (t.more (t.CaseOf t.absent t.none) t.none)) t.none)) (t.more (t.CaseOf t.absent t.none) t.none)))) t.none)
switch_in_a_switch = refl

-- {} { {} } { a; }
blocks : answer (token (k.Sign 0) 0 ∷ token (k.Sign 1) 1 ∷ token (k.Sign 0) 3 ∷ token (k.Sign 0) 5 ∷ token (k.Sign 1) 6 ∷ token (k.Sign 1) 8 ∷ token (k.Sign 0) 10 ∷ token (k.Name (codes "a")) 12 ∷ token (k.Sign 6) 13 ∷ token (k.Sign 1) 15 ∷ token k.End 16 ∷ []) ≡ Parsed (t.more (t.Plain (t.Block t.none)) (t.more (t.Plain (t.Block (t.more (t.Block t.none) t.none))) (t.more (t.Plain (t.Block (t.more (t.Value (t.Name (named_at 12 (codes "a"))) semi.Written) t.none))) t.none)))
blocks = refl
