-- Each level against its neighbours, each operator with itself, and each assignment: texts with their trees.
use Rattle.std.proofs.Common.{◌≡◌, refl, true, false, [], ◌∷◌, codes, Some, None}
use Rattle.es_model.specs.declared.kinds.Semi.TheVariants as semi
use Rattle.es_model.specs.declared.kinds.BinaryOperator.TheVariants as b
use Rattle.es_model.specs.declared.kinds.UnaryOperator.TheVariants as u
use Rattle.es_model.specs.declared.token.TokenKind.TheVariants as k
use Rattle.es_model.specs.Tree as t
use Rattle.js_parser.proofs.Rows.{token, lined, named_at}
use Rattle.js_parser.specs.Machine.{answer, Parsed}

-- a || b && c; a && b || c;
or_against_and : answer (token (k.Name (codes "a")) 0 ∷ token (k.Sign 34) 2 ∷ token (k.Name (codes "b")) 5 ∷ token (k.Sign 33) 7 ∷ token (k.Name (codes "c")) 10 ∷ token (k.Sign 6) 11 ∷ token (k.Name (codes "a")) 13 ∷ token (k.Sign 33) 15 ∷ token (k.Name (codes "b")) 18 ∷ token (k.Sign 34) 20 ∷ token (k.Name (codes "c")) 23 ∷ token (k.Sign 6) 24 ∷ token k.End 25 ∷ []) ≡ Parsed (t.more (t.Plain (t.Value (t.Or (t.Name (named_at 0 (codes "a"))) (t.And (t.Name (named_at 5 (codes "b"))) (t.Name (named_at 10 (codes "c"))))) semi.Written)) (t.more (t.Plain (t.Value (t.Or (t.And (t.Name (named_at 13 (codes "a"))) (t.Name (named_at 18 (codes "b")))) (t.Name (named_at 23 (codes "c")))) semi.Written)) t.none))
or_against_and = refl

-- a && b | c; a | b && c;
and_against_bit_or : answer (token (k.Name (codes "a")) 0 ∷ token (k.Sign 33) 2 ∷ token (k.Name (codes "b")) 5 ∷ token (k.Sign 29) 7 ∷ token (k.Name (codes "c")) 9 ∷ token (k.Sign 6) 10 ∷ token (k.Name (codes "a")) 12 ∷ token (k.Sign 29) 14 ∷ token (k.Name (codes "b")) 16 ∷ token (k.Sign 33) 18 ∷ token (k.Name (codes "c")) 21 ∷ token (k.Sign 6) 22 ∷ token k.End 23 ∷ []) ≡ Parsed (t.more (t.Plain (t.Value (t.And (t.Name (named_at 0 (codes "a"))) (t.Binary b.BitOr (t.Name (named_at 5 (codes "b"))) (t.Name (named_at 9 (codes "c"))))) semi.Written)) (t.more (t.Plain (t.Value (t.And (t.Binary b.BitOr (t.Name (named_at 12 (codes "a"))) (t.Name (named_at 16 (codes "b")))) (t.Name (named_at 21 (codes "c")))) semi.Written)) t.none))
and_against_bit_or = refl

-- a | b ^ c; a ^ b | c;
bit_or_against_bit_xor : answer (token (k.Name (codes "a")) 0 ∷ token (k.Sign 29) 2 ∷ token (k.Name (codes "b")) 4 ∷ token (k.Sign 30) 6 ∷ token (k.Name (codes "c")) 8 ∷ token (k.Sign 6) 9 ∷ token (k.Name (codes "a")) 11 ∷ token (k.Sign 30) 13 ∷ token (k.Name (codes "b")) 15 ∷ token (k.Sign 29) 17 ∷ token (k.Name (codes "c")) 19 ∷ token (k.Sign 6) 20 ∷ token k.End 21 ∷ []) ≡ Parsed (t.more (t.Plain (t.Value (t.Binary b.BitOr (t.Name (named_at 0 (codes "a"))) (t.Binary b.BitXor (t.Name (named_at 4 (codes "b"))) (t.Name (named_at 8 (codes "c"))))) semi.Written)) (t.more (t.Plain (t.Value (t.Binary b.BitOr (t.Binary b.BitXor (t.Name (named_at 11 (codes "a"))) (t.Name (named_at 15 (codes "b")))) (t.Name (named_at 19 (codes "c")))) semi.Written)) t.none))
bit_or_against_bit_xor = refl

-- a ^ b & c; a & b ^ c;
bit_xor_against_bit_and : answer (token (k.Name (codes "a")) 0 ∷ token (k.Sign 30) 2 ∷ token (k.Name (codes "b")) 4 ∷ token (k.Sign 28) 6 ∷ token (k.Name (codes "c")) 8 ∷ token (k.Sign 6) 9 ∷ token (k.Name (codes "a")) 11 ∷ token (k.Sign 28) 13 ∷ token (k.Name (codes "b")) 15 ∷ token (k.Sign 30) 17 ∷ token (k.Name (codes "c")) 19 ∷ token (k.Sign 6) 20 ∷ token k.End 21 ∷ []) ≡ Parsed (t.more (t.Plain (t.Value (t.Binary b.BitXor (t.Name (named_at 0 (codes "a"))) (t.Binary b.BitAnd (t.Name (named_at 4 (codes "b"))) (t.Name (named_at 8 (codes "c"))))) semi.Written)) (t.more (t.Plain (t.Value (t.Binary b.BitXor (t.Binary b.BitAnd (t.Name (named_at 11 (codes "a"))) (t.Name (named_at 15 (codes "b")))) (t.Name (named_at 19 (codes "c")))) semi.Written)) t.none))
bit_xor_against_bit_and = refl

-- a & b == c; a == b & c;
bit_and_against_equal : answer (token (k.Name (codes "a")) 0 ∷ token (k.Sign 28) 2 ∷ token (k.Name (codes "b")) 4 ∷ token (k.Sign 13) 6 ∷ token (k.Name (codes "c")) 9 ∷ token (k.Sign 6) 10 ∷ token (k.Name (codes "a")) 12 ∷ token (k.Sign 13) 14 ∷ token (k.Name (codes "b")) 17 ∷ token (k.Sign 28) 19 ∷ token (k.Name (codes "c")) 21 ∷ token (k.Sign 6) 22 ∷ token k.End 23 ∷ []) ≡ Parsed (t.more (t.Plain (t.Value (t.Binary b.BitAnd (t.Name (named_at 0 (codes "a"))) (t.Binary b.Equal (t.Name (named_at 4 (codes "b"))) (t.Name (named_at 9 (codes "c"))))) semi.Written)) (t.more (t.Plain (t.Value (t.Binary b.BitAnd (t.Binary b.Equal (t.Name (named_at 12 (codes "a"))) (t.Name (named_at 17 (codes "b")))) (t.Name (named_at 21 (codes "c")))) semi.Written)) t.none))
bit_and_against_equal = refl

-- a == b < c; a < b == c;
equal_against_less : answer (token (k.Name (codes "a")) 0 ∷ token (k.Sign 13) 2 ∷ token (k.Name (codes "b")) 5 ∷ token (k.Sign 9) 7 ∷ token (k.Name (codes "c")) 9 ∷ token (k.Sign 6) 10 ∷ token (k.Name (codes "a")) 12 ∷ token (k.Sign 9) 14 ∷ token (k.Name (codes "b")) 16 ∷ token (k.Sign 13) 18 ∷ token (k.Name (codes "c")) 21 ∷ token (k.Sign 6) 22 ∷ token k.End 23 ∷ []) ≡ Parsed (t.more (t.Plain (t.Value (t.Binary b.Equal (t.Name (named_at 0 (codes "a"))) (t.Binary b.Less (t.Name (named_at 5 (codes "b"))) (t.Name (named_at 9 (codes "c"))))) semi.Written)) (t.more (t.Plain (t.Value (t.Binary b.Equal (t.Binary b.Less (t.Name (named_at 12 (codes "a"))) (t.Name (named_at 16 (codes "b")))) (t.Name (named_at 21 (codes "c")))) semi.Written)) t.none))
equal_against_less = refl

-- a < b << c; a << b < c;
less_against_shift_left : answer (token (k.Name (codes "a")) 0 ∷ token (k.Sign 9) 2 ∷ token (k.Name (codes "b")) 4 ∷ token (k.Sign 25) 6 ∷ token (k.Name (codes "c")) 9 ∷ token (k.Sign 6) 10 ∷ token (k.Name (codes "a")) 12 ∷ token (k.Sign 25) 14 ∷ token (k.Name (codes "b")) 17 ∷ token (k.Sign 9) 19 ∷ token (k.Name (codes "c")) 21 ∷ token (k.Sign 6) 22 ∷ token k.End 23 ∷ []) ≡ Parsed (t.more (t.Plain (t.Value (t.Binary b.Less (t.Name (named_at 0 (codes "a"))) (t.Binary b.ShiftLeft (t.Name (named_at 4 (codes "b"))) (t.Name (named_at 9 (codes "c"))))) semi.Written)) (t.more (t.Plain (t.Value (t.Binary b.Less (t.Binary b.ShiftLeft (t.Name (named_at 12 (codes "a"))) (t.Name (named_at 17 (codes "b")))) (t.Name (named_at 21 (codes "c")))) semi.Written)) t.none))
less_against_shift_left = refl

-- a << b in c; a in b << c;
shift_left_against_in : answer (token (k.Name (codes "a")) 0 ∷ token (k.Sign 25) 2 ∷ token (k.Name (codes "b")) 5 ∷ token (k.Keyword 22) 7 ∷ token (k.Name (codes "c")) 10 ∷ token (k.Sign 6) 11 ∷ token (k.Name (codes "a")) 13 ∷ token (k.Keyword 22) 15 ∷ token (k.Name (codes "b")) 18 ∷ token (k.Sign 25) 20 ∷ token (k.Name (codes "c")) 23 ∷ token (k.Sign 6) 24 ∷ token k.End 25 ∷ []) ≡ Parsed (t.more (t.Plain (t.Value (t.In (t.Binary b.ShiftLeft (t.Name (named_at 0 (codes "a"))) (t.Name (named_at 5 (codes "b")))) (t.Name (named_at 10 (codes "c")))) semi.Written)) (t.more (t.Plain (t.Value (t.In (t.Name (named_at 13 (codes "a"))) (t.Binary b.ShiftLeft (t.Name (named_at 18 (codes "b"))) (t.Name (named_at 23 (codes "c"))))) semi.Written)) t.none))
shift_left_against_in = refl

-- a instanceof b << c; a << b instanceof c;
shift_left_against_instanceof : answer (token (k.Name (codes "a")) 0 ∷ token (k.Keyword 23) 2 ∷ token (k.Name (codes "b")) 13 ∷ token (k.Sign 25) 15 ∷ token (k.Name (codes "c")) 18 ∷ token (k.Sign 6) 19 ∷ token (k.Name (codes "a")) 21 ∷ token (k.Sign 25) 23 ∷ token (k.Name (codes "b")) 26 ∷ token (k.Keyword 23) 28 ∷ token (k.Name (codes "c")) 39 ∷ token (k.Sign 6) 40 ∷ token k.End 41 ∷ []) ≡ Parsed (t.more (t.Plain (t.Value (t.InstanceOf (t.Name (named_at 0 (codes "a"))) (t.Binary b.ShiftLeft (t.Name (named_at 13 (codes "b"))) (t.Name (named_at 18 (codes "c"))))) semi.Written)) (t.more (t.Plain (t.Value (t.InstanceOf (t.Binary b.ShiftLeft (t.Name (named_at 21 (codes "a"))) (t.Name (named_at 26 (codes "b")))) (t.Name (named_at 39 (codes "c")))) semi.Written)) t.none))
shift_left_against_instanceof = refl

-- a << b + c; a + b << c;
shift_left_against_add : answer (token (k.Name (codes "a")) 0 ∷ token (k.Sign 25) 2 ∷ token (k.Name (codes "b")) 5 ∷ token (k.Sign 17) 7 ∷ token (k.Name (codes "c")) 9 ∷ token (k.Sign 6) 10 ∷ token (k.Name (codes "a")) 12 ∷ token (k.Sign 17) 14 ∷ token (k.Name (codes "b")) 16 ∷ token (k.Sign 25) 18 ∷ token (k.Name (codes "c")) 21 ∷ token (k.Sign 6) 22 ∷ token k.End 23 ∷ []) ≡ Parsed (t.more (t.Plain (t.Value (t.Binary b.ShiftLeft (t.Name (named_at 0 (codes "a"))) (t.Binary b.Add (t.Name (named_at 5 (codes "b"))) (t.Name (named_at 9 (codes "c"))))) semi.Written)) (t.more (t.Plain (t.Value (t.Binary b.ShiftLeft (t.Binary b.Add (t.Name (named_at 12 (codes "a"))) (t.Name (named_at 16 (codes "b")))) (t.Name (named_at 21 (codes "c")))) semi.Written)) t.none))
shift_left_against_add = refl

-- a + b * c; a * b + c;
add_against_multiply : answer (token (k.Name (codes "a")) 0 ∷ token (k.Sign 17) 2 ∷ token (k.Name (codes "b")) 4 ∷ token (k.Sign 19) 6 ∷ token (k.Name (codes "c")) 8 ∷ token (k.Sign 6) 9 ∷ token (k.Name (codes "a")) 11 ∷ token (k.Sign 19) 13 ∷ token (k.Name (codes "b")) 15 ∷ token (k.Sign 17) 17 ∷ token (k.Name (codes "c")) 19 ∷ token (k.Sign 6) 20 ∷ token k.End 21 ∷ []) ≡ Parsed (t.more (t.Plain (t.Value (t.Binary b.Add (t.Name (named_at 0 (codes "a"))) (t.Binary b.Multiply (t.Name (named_at 4 (codes "b"))) (t.Name (named_at 8 (codes "c"))))) semi.Written)) (t.more (t.Plain (t.Value (t.Binary b.Add (t.Binary b.Multiply (t.Name (named_at 11 (codes "a"))) (t.Name (named_at 15 (codes "b")))) (t.Name (named_at 19 (codes "c")))) semi.Written)) t.none))
add_against_multiply = refl

-- a * b ** c; a ** b * c;
multiply_against_power : answer (token (k.Name (codes "a")) 0 ∷ token (k.Sign 19) 2 ∷ token (k.Name (codes "b")) 4 ∷ token (k.Sign 22) 6 ∷ token (k.Name (codes "c")) 9 ∷ token (k.Sign 6) 10 ∷ token (k.Name (codes "a")) 12 ∷ token (k.Sign 22) 14 ∷ token (k.Name (codes "b")) 17 ∷ token (k.Sign 19) 19 ∷ token (k.Name (codes "c")) 21 ∷ token (k.Sign 6) 22 ∷ token k.End 23 ∷ []) ≡ Parsed (t.more (t.Plain (t.Value (t.Binary b.Multiply (t.Name (named_at 0 (codes "a"))) (t.Binary b.Power (t.Name (named_at 4 (codes "b"))) (t.Name (named_at 9 (codes "c"))))) semi.Written)) (t.more (t.Plain (t.Value (t.Binary b.Multiply (t.Binary b.Power (t.Name (named_at 12 (codes "a"))) (t.Name (named_at 17 (codes "b")))) (t.Name (named_at 21 (codes "c")))) semi.Written)) t.none))
multiply_against_power = refl

-- a + b + c;
add_groups_to_the_left : answer (token (k.Name (codes "a")) 0 ∷ token (k.Sign 17) 2 ∷ token (k.Name (codes "b")) 4 ∷ token (k.Sign 17) 6 ∷ token (k.Name (codes "c")) 8 ∷ token (k.Sign 6) 9 ∷ token k.End 10 ∷ []) ≡ Parsed (t.more (t.Plain (t.Value (t.Binary b.Add (t.Binary b.Add (t.Name (named_at 0 (codes "a"))) (t.Name (named_at 4 (codes "b")))) (t.Name (named_at 8 (codes "c")))) semi.Written)) t.none)
add_groups_to_the_left = refl

-- a - b - c;
subtract_groups_to_the_left : answer (token (k.Name (codes "a")) 0 ∷ token (k.Sign 18) 2 ∷ token (k.Name (codes "b")) 4 ∷ token (k.Sign 18) 6 ∷ token (k.Name (codes "c")) 8 ∷ token (k.Sign 6) 9 ∷ token k.End 10 ∷ []) ≡ Parsed (t.more (t.Plain (t.Value (t.Binary b.Subtract (t.Binary b.Subtract (t.Name (named_at 0 (codes "a"))) (t.Name (named_at 4 (codes "b")))) (t.Name (named_at 8 (codes "c")))) semi.Written)) t.none)
subtract_groups_to_the_left = refl

-- a * b * c;
multiply_groups_to_the_left : answer (token (k.Name (codes "a")) 0 ∷ token (k.Sign 19) 2 ∷ token (k.Name (codes "b")) 4 ∷ token (k.Sign 19) 6 ∷ token (k.Name (codes "c")) 8 ∷ token (k.Sign 6) 9 ∷ token k.End 10 ∷ []) ≡ Parsed (t.more (t.Plain (t.Value (t.Binary b.Multiply (t.Binary b.Multiply (t.Name (named_at 0 (codes "a"))) (t.Name (named_at 4 (codes "b")))) (t.Name (named_at 8 (codes "c")))) semi.Written)) t.none)
multiply_groups_to_the_left = refl

-- a / b / c;
divide_groups_to_the_left : answer (token (k.Name (codes "a")) 0 ∷ token (k.Sign 20) 2 ∷ token (k.Name (codes "b")) 4 ∷ token (k.Sign 20) 6 ∷ token (k.Name (codes "c")) 8 ∷ token (k.Sign 6) 9 ∷ token k.End 10 ∷ []) ≡ Parsed (t.more (t.Plain (t.Value (t.Binary b.Divide (t.Binary b.Divide (t.Name (named_at 0 (codes "a"))) (t.Name (named_at 4 (codes "b")))) (t.Name (named_at 8 (codes "c")))) semi.Written)) t.none)
divide_groups_to_the_left = refl

-- a % b % c;
remainder_groups_to_the_left : answer (token (k.Name (codes "a")) 0 ∷ token (k.Sign 21) 2 ∷ token (k.Name (codes "b")) 4 ∷ token (k.Sign 21) 6 ∷ token (k.Name (codes "c")) 8 ∷ token (k.Sign 6) 9 ∷ token k.End 10 ∷ []) ≡ Parsed (t.more (t.Plain (t.Value (t.Binary b.Remainder (t.Binary b.Remainder (t.Name (named_at 0 (codes "a"))) (t.Name (named_at 4 (codes "b")))) (t.Name (named_at 8 (codes "c")))) semi.Written)) t.none)
remainder_groups_to_the_left = refl

-- a & b & c;
bit_and_groups_to_the_left : answer (token (k.Name (codes "a")) 0 ∷ token (k.Sign 28) 2 ∷ token (k.Name (codes "b")) 4 ∷ token (k.Sign 28) 6 ∷ token (k.Name (codes "c")) 8 ∷ token (k.Sign 6) 9 ∷ token k.End 10 ∷ []) ≡ Parsed (t.more (t.Plain (t.Value (t.Binary b.BitAnd (t.Binary b.BitAnd (t.Name (named_at 0 (codes "a"))) (t.Name (named_at 4 (codes "b")))) (t.Name (named_at 8 (codes "c")))) semi.Written)) t.none)
bit_and_groups_to_the_left = refl

-- a | b | c;
bit_or_groups_to_the_left : answer (token (k.Name (codes "a")) 0 ∷ token (k.Sign 29) 2 ∷ token (k.Name (codes "b")) 4 ∷ token (k.Sign 29) 6 ∷ token (k.Name (codes "c")) 8 ∷ token (k.Sign 6) 9 ∷ token k.End 10 ∷ []) ≡ Parsed (t.more (t.Plain (t.Value (t.Binary b.BitOr (t.Binary b.BitOr (t.Name (named_at 0 (codes "a"))) (t.Name (named_at 4 (codes "b")))) (t.Name (named_at 8 (codes "c")))) semi.Written)) t.none)
bit_or_groups_to_the_left = refl

-- a ^ b ^ c;
bit_xor_groups_to_the_left : answer (token (k.Name (codes "a")) 0 ∷ token (k.Sign 30) 2 ∷ token (k.Name (codes "b")) 4 ∷ token (k.Sign 30) 6 ∷ token (k.Name (codes "c")) 8 ∷ token (k.Sign 6) 9 ∷ token k.End 10 ∷ []) ≡ Parsed (t.more (t.Plain (t.Value (t.Binary b.BitXor (t.Binary b.BitXor (t.Name (named_at 0 (codes "a"))) (t.Name (named_at 4 (codes "b")))) (t.Name (named_at 8 (codes "c")))) semi.Written)) t.none)
bit_xor_groups_to_the_left = refl

-- a << b << c;
shift_left_groups_to_the_left : answer (token (k.Name (codes "a")) 0 ∷ token (k.Sign 25) 2 ∷ token (k.Name (codes "b")) 5 ∷ token (k.Sign 25) 7 ∷ token (k.Name (codes "c")) 10 ∷ token (k.Sign 6) 11 ∷ token k.End 12 ∷ []) ≡ Parsed (t.more (t.Plain (t.Value (t.Binary b.ShiftLeft (t.Binary b.ShiftLeft (t.Name (named_at 0 (codes "a"))) (t.Name (named_at 5 (codes "b")))) (t.Name (named_at 10 (codes "c")))) semi.Written)) t.none)
shift_left_groups_to_the_left = refl

-- a >> b >> c;
shift_right_groups_to_the_left : answer (token (k.Name (codes "a")) 0 ∷ token (k.Sign 26) 2 ∷ token (k.Name (codes "b")) 5 ∷ token (k.Sign 26) 7 ∷ token (k.Name (codes "c")) 10 ∷ token (k.Sign 6) 11 ∷ token k.End 12 ∷ []) ≡ Parsed (t.more (t.Plain (t.Value (t.Binary b.ShiftRight (t.Binary b.ShiftRight (t.Name (named_at 0 (codes "a"))) (t.Name (named_at 5 (codes "b")))) (t.Name (named_at 10 (codes "c")))) semi.Written)) t.none)
shift_right_groups_to_the_left = refl

-- a >>> b >>> c;
shift_right_unsigned_groups_to_the_left : answer (token (k.Name (codes "a")) 0 ∷ token (k.Sign 27) 2 ∷ token (k.Name (codes "b")) 6 ∷ token (k.Sign 27) 8 ∷ token (k.Name (codes "c")) 12 ∷ token (k.Sign 6) 13 ∷ token k.End 14 ∷ []) ≡ Parsed (t.more (t.Plain (t.Value (t.Binary b.ShiftRightUnsigned (t.Binary b.ShiftRightUnsigned (t.Name (named_at 0 (codes "a"))) (t.Name (named_at 6 (codes "b")))) (t.Name (named_at 12 (codes "c")))) semi.Written)) t.none)
shift_right_unsigned_groups_to_the_left = refl

-- a < b < c;
less_groups_to_the_left : answer (token (k.Name (codes "a")) 0 ∷ token (k.Sign 9) 2 ∷ token (k.Name (codes "b")) 4 ∷ token (k.Sign 9) 6 ∷ token (k.Name (codes "c")) 8 ∷ token (k.Sign 6) 9 ∷ token k.End 10 ∷ []) ≡ Parsed (t.more (t.Plain (t.Value (t.Binary b.Less (t.Binary b.Less (t.Name (named_at 0 (codes "a"))) (t.Name (named_at 4 (codes "b")))) (t.Name (named_at 8 (codes "c")))) semi.Written)) t.none)
less_groups_to_the_left = refl

-- a > b > c;
greater_groups_to_the_left : answer (token (k.Name (codes "a")) 0 ∷ token (k.Sign 10) 2 ∷ token (k.Name (codes "b")) 4 ∷ token (k.Sign 10) 6 ∷ token (k.Name (codes "c")) 8 ∷ token (k.Sign 6) 9 ∷ token k.End 10 ∷ []) ≡ Parsed (t.more (t.Plain (t.Value (t.Binary b.Greater (t.Binary b.Greater (t.Name (named_at 0 (codes "a"))) (t.Name (named_at 4 (codes "b")))) (t.Name (named_at 8 (codes "c")))) semi.Written)) t.none)
greater_groups_to_the_left = refl

-- a <= b <= c;
less_or_equal_groups_to_the_left : answer (token (k.Name (codes "a")) 0 ∷ token (k.Sign 11) 2 ∷ token (k.Name (codes "b")) 5 ∷ token (k.Sign 11) 7 ∷ token (k.Name (codes "c")) 10 ∷ token (k.Sign 6) 11 ∷ token k.End 12 ∷ []) ≡ Parsed (t.more (t.Plain (t.Value (t.Binary b.LessOrEqual (t.Binary b.LessOrEqual (t.Name (named_at 0 (codes "a"))) (t.Name (named_at 5 (codes "b")))) (t.Name (named_at 10 (codes "c")))) semi.Written)) t.none)
less_or_equal_groups_to_the_left = refl

-- a >= b >= c;
greater_or_equal_groups_to_the_left : answer (token (k.Name (codes "a")) 0 ∷ token (k.Sign 12) 2 ∷ token (k.Name (codes "b")) 5 ∷ token (k.Sign 12) 7 ∷ token (k.Name (codes "c")) 10 ∷ token (k.Sign 6) 11 ∷ token k.End 12 ∷ []) ≡ Parsed (t.more (t.Plain (t.Value (t.Binary b.GreaterOrEqual (t.Binary b.GreaterOrEqual (t.Name (named_at 0 (codes "a"))) (t.Name (named_at 5 (codes "b")))) (t.Name (named_at 10 (codes "c")))) semi.Written)) t.none)
greater_or_equal_groups_to_the_left = refl

-- a == b == c;
equal_groups_to_the_left : answer (token (k.Name (codes "a")) 0 ∷ token (k.Sign 13) 2 ∷ token (k.Name (codes "b")) 5 ∷ token (k.Sign 13) 7 ∷ token (k.Name (codes "c")) 10 ∷ token (k.Sign 6) 11 ∷ token k.End 12 ∷ []) ≡ Parsed (t.more (t.Plain (t.Value (t.Binary b.Equal (t.Binary b.Equal (t.Name (named_at 0 (codes "a"))) (t.Name (named_at 5 (codes "b")))) (t.Name (named_at 10 (codes "c")))) semi.Written)) t.none)
equal_groups_to_the_left = refl

-- a != b != c;
not_equal_groups_to_the_left : answer (token (k.Name (codes "a")) 0 ∷ token (k.Sign 14) 2 ∷ token (k.Name (codes "b")) 5 ∷ token (k.Sign 14) 7 ∷ token (k.Name (codes "c")) 10 ∷ token (k.Sign 6) 11 ∷ token k.End 12 ∷ []) ≡ Parsed (t.more (t.Plain (t.Value (t.Binary b.NotEqual (t.Binary b.NotEqual (t.Name (named_at 0 (codes "a"))) (t.Name (named_at 5 (codes "b")))) (t.Name (named_at 10 (codes "c")))) semi.Written)) t.none)
not_equal_groups_to_the_left = refl

-- a === b === c;
strict_equal_groups_to_the_left : answer (token (k.Name (codes "a")) 0 ∷ token (k.Sign 15) 2 ∷ token (k.Name (codes "b")) 6 ∷ token (k.Sign 15) 8 ∷ token (k.Name (codes "c")) 12 ∷ token (k.Sign 6) 13 ∷ token k.End 14 ∷ []) ≡ Parsed (t.more (t.Plain (t.Value (t.Binary b.StrictEqual (t.Binary b.StrictEqual (t.Name (named_at 0 (codes "a"))) (t.Name (named_at 6 (codes "b")))) (t.Name (named_at 12 (codes "c")))) semi.Written)) t.none)
strict_equal_groups_to_the_left = refl

-- a !== b !== c;
strict_not_equal_groups_to_the_left : answer (token (k.Name (codes "a")) 0 ∷ token (k.Sign 16) 2 ∷ token (k.Name (codes "b")) 6 ∷ token (k.Sign 16) 8 ∷ token (k.Name (codes "c")) 12 ∷ token (k.Sign 6) 13 ∷ token k.End 14 ∷ []) ≡ Parsed (t.more (t.Plain (t.Value (t.Binary b.StrictNotEqual (t.Binary b.StrictNotEqual (t.Name (named_at 0 (codes "a"))) (t.Name (named_at 6 (codes "b")))) (t.Name (named_at 12 (codes "c")))) semi.Written)) t.none)
strict_not_equal_groups_to_the_left = refl

-- a ** b ** c;
power_groups_to_the_right : answer (token (k.Name (codes "a")) 0 ∷ token (k.Sign 22) 2 ∷ token (k.Name (codes "b")) 5 ∷ token (k.Sign 22) 7 ∷ token (k.Name (codes "c")) 10 ∷ token (k.Sign 6) 11 ∷ token k.End 12 ∷ []) ≡ Parsed (t.more (t.Plain (t.Value (t.Binary b.Power (t.Name (named_at 0 (codes "a"))) (t.Binary b.Power (t.Name (named_at 5 (codes "b"))) (t.Name (named_at 10 (codes "c"))))) semi.Written)) t.none)
power_groups_to_the_right = refl

-- a && b && c;
and_groups_to_the_left : answer (token (k.Name (codes "a")) 0 ∷ token (k.Sign 33) 2 ∷ token (k.Name (codes "b")) 5 ∷ token (k.Sign 33) 7 ∷ token (k.Name (codes "c")) 10 ∷ token (k.Sign 6) 11 ∷ token k.End 12 ∷ []) ≡ Parsed (t.more (t.Plain (t.Value (t.And (t.And (t.Name (named_at 0 (codes "a"))) (t.Name (named_at 5 (codes "b")))) (t.Name (named_at 10 (codes "c")))) semi.Written)) t.none)
and_groups_to_the_left = refl

-- a || b || c;
or_groups_to_the_left : answer (token (k.Name (codes "a")) 0 ∷ token (k.Sign 34) 2 ∷ token (k.Name (codes "b")) 5 ∷ token (k.Sign 34) 7 ∷ token (k.Name (codes "c")) 10 ∷ token (k.Sign 6) 11 ∷ token k.End 12 ∷ []) ≡ Parsed (t.more (t.Plain (t.Value (t.Or (t.Or (t.Name (named_at 0 (codes "a"))) (t.Name (named_at 5 (codes "b")))) (t.Name (named_at 10 (codes "c")))) semi.Written)) t.none)
or_groups_to_the_left = refl

-- a ?? b ?? c;
nullish_groups_to_the_left : answer (token (k.Name (codes "a")) 0 ∷ token (k.Sign 35) 2 ∷ token (k.Name (codes "b")) 5 ∷ token (k.Sign 35) 7 ∷ token (k.Name (codes "c")) 10 ∷ token (k.Sign 6) 11 ∷ token k.End 12 ∷ []) ≡ Parsed (t.more (t.Plain (t.Value (t.Nullish (t.Nullish (t.Name (named_at 0 (codes "a"))) (t.Name (named_at 5 (codes "b")))) (t.Name (named_at 10 (codes "c")))) semi.Written)) t.none)
nullish_groups_to_the_left = refl

-- a in b in c;
in_groups_to_the_left : answer (token (k.Name (codes "a")) 0 ∷ token (k.Keyword 22) 2 ∷ token (k.Name (codes "b")) 5 ∷ token (k.Keyword 22) 7 ∷ token (k.Name (codes "c")) 10 ∷ token (k.Sign 6) 11 ∷ token k.End 12 ∷ []) ≡ Parsed (t.more (t.Plain (t.Value (t.In (t.In (t.Name (named_at 0 (codes "a"))) (t.Name (named_at 5 (codes "b")))) (t.Name (named_at 10 (codes "c")))) semi.Written)) t.none)
in_groups_to_the_left = refl

-- a instanceof b instanceof c;
instanceof_groups_to_the_left : answer (token (k.Name (codes "a")) 0 ∷ token (k.Keyword 23) 2 ∷ token (k.Name (codes "b")) 13 ∷ token (k.Keyword 23) 15 ∷ token (k.Name (codes "c")) 26 ∷ token (k.Sign 6) 27 ∷ token k.End 28 ∷ []) ≡ Parsed (t.more (t.Plain (t.Value (t.InstanceOf (t.InstanceOf (t.Name (named_at 0 (codes "a"))) (t.Name (named_at 13 (codes "b")))) (t.Name (named_at 26 (codes "c")))) semi.Written)) t.none)
instanceof_groups_to_the_left = refl

-- a < b in c < d;
in_beside_less : answer (token (k.Name (codes "a")) 0 ∷ token (k.Sign 9) 2 ∷ token (k.Name (codes "b")) 4 ∷ token (k.Keyword 22) 6 ∷ token (k.Name (codes "c")) 9 ∷ token (k.Sign 9) 11 ∷ token (k.Name (codes "d")) 13 ∷ token (k.Sign 6) 14 ∷ token k.End 15 ∷ []) ≡ Parsed (t.more (t.Plain (t.Value (t.Binary b.Less (t.In (t.Binary b.Less (t.Name (named_at 0 (codes "a"))) (t.Name (named_at 4 (codes "b")))) (t.Name (named_at 9 (codes "c")))) (t.Name (named_at 13 (codes "d")))) semi.Written)) t.none)
in_beside_less = refl

-- a + b - c + d;
operators_of_one_level : answer (token (k.Name (codes "a")) 0 ∷ token (k.Sign 17) 2 ∷ token (k.Name (codes "b")) 4 ∷ token (k.Sign 18) 6 ∷ token (k.Name (codes "c")) 8 ∷ token (k.Sign 17) 10 ∷ token (k.Name (codes "d")) 12 ∷ token (k.Sign 6) 13 ∷ token k.End 14 ∷ []) ≡ Parsed (t.more (t.Plain (t.Value (t.Binary b.Add (t.Binary b.Subtract (t.Binary b.Add (t.Name (named_at 0 (codes "a"))) (t.Name (named_at 4 (codes "b")))) (t.Name (named_at 8 (codes "c")))) (t.Name (named_at 12 (codes "d")))) semi.Written)) t.none)
operators_of_one_level = refl

-- a | b ?? c | d;
bits_against_nullish : answer (token (k.Name (codes "a")) 0 ∷ token (k.Sign 29) 2 ∷ token (k.Name (codes "b")) 4 ∷ token (k.Sign 35) 6 ∷ token (k.Name (codes "c")) 9 ∷ token (k.Sign 29) 11 ∷ token (k.Name (codes "d")) 13 ∷ token (k.Sign 6) 14 ∷ token k.End 15 ∷ []) ≡ Parsed (t.more (t.Plain (t.Value (t.Nullish (t.Binary b.BitOr (t.Name (named_at 0 (codes "a"))) (t.Name (named_at 4 (codes "b")))) (t.Binary b.BitOr (t.Name (named_at 9 (codes "c"))) (t.Name (named_at 13 (codes "d"))))) semi.Written)) t.none)
bits_against_nullish = refl

-- a ?? (b && c);
and_in_parentheses_against_nullish : answer (token (k.Name (codes "a")) 0 ∷ token (k.Sign 35) 2 ∷ token (k.Sign 2) 5 ∷ token (k.Name (codes "b")) 6 ∷ token (k.Sign 33) 8 ∷ token (k.Name (codes "c")) 11 ∷ token (k.Sign 3) 12 ∷ token (k.Sign 6) 13 ∷ token k.End 14 ∷ []) ≡ Parsed (t.more (t.Plain (t.Value (t.Nullish (t.Name (named_at 0 (codes "a"))) (t.Paren (t.And (t.Name (named_at 6 (codes "b"))) (t.Name (named_at 11 (codes "c")))))) semi.Written)) t.none)
and_in_parentheses_against_nullish = refl

-- (a ?? b) || c;
nullish_in_parentheses_against_or : answer (token (k.Sign 2) 0 ∷ token (k.Name (codes "a")) 1 ∷ token (k.Sign 35) 3 ∷ token (k.Name (codes "b")) 6 ∷ token (k.Sign 3) 7 ∷ token (k.Sign 34) 9 ∷ token (k.Name (codes "c")) 12 ∷ token (k.Sign 6) 13 ∷ token k.End 14 ∷ []) ≡ Parsed (t.more (t.Plain (t.Value (t.Or (t.Paren (t.Nullish (t.Name (named_at 1 (codes "a"))) (t.Name (named_at 6 (codes "b"))))) (t.Name (named_at 12 (codes "c")))) semi.Written)) t.none)
nullish_in_parentheses_against_or = refl

-- a ** -b;
sign_in_a_power : answer (token (k.Name (codes "a")) 0 ∷ token (k.Sign 22) 2 ∷ token (k.Sign 18) 5 ∷ token (k.Name (codes "b")) 6 ∷ token (k.Sign 6) 7 ∷ token k.End 8 ∷ []) ≡ Parsed (t.more (t.Plain (t.Value (t.Binary b.Power (t.Name (named_at 0 (codes "a"))) (t.Unary u.Negate (t.Name (named_at 6 (codes "b"))))) semi.Written)) t.none)
sign_in_a_power = refl

-- (-a) ** b;
sign_in_parentheses_in_a_power : answer (token (k.Sign 2) 0 ∷ token (k.Sign 18) 1 ∷ token (k.Name (codes "a")) 2 ∷ token (k.Sign 3) 3 ∷ token (k.Sign 22) 5 ∷ token (k.Name (codes "b")) 8 ∷ token (k.Sign 6) 9 ∷ token k.End 10 ∷ []) ≡ Parsed (t.more (t.Plain (t.Value (t.Binary b.Power (t.Paren (t.Unary u.Negate (t.Name (named_at 2 (codes "a"))))) (t.Name (named_at 8 (codes "b")))) semi.Written)) t.none)
sign_in_parentheses_in_a_power = refl

-- a++ ** b; ++a ** b;
update_in_a_power : answer (token (k.Name (codes "a")) 0 ∷ token (k.Sign 23) 1 ∷ token (k.Sign 22) 4 ∷ token (k.Name (codes "b")) 7 ∷ token (k.Sign 6) 8 ∷ token (k.Sign 23) 10 ∷ token (k.Name (codes "a")) 12 ∷ token (k.Sign 22) 14 ∷ token (k.Name (codes "b")) 17 ∷ token (k.Sign 6) 18 ∷ token k.End 19 ∷ []) ≡ Parsed (t.more (t.Plain (t.Value (t.Binary b.Power (t.Update 0 true false (t.Name (named_at 0 (codes "a")))) (t.Name (named_at 7 (codes "b")))) semi.Written)) (t.more (t.Plain (t.Value (t.Binary b.Power (t.Update 10 true true (t.Name (named_at 12 (codes "a")))) (t.Name (named_at 17 (codes "b")))) semi.Written)) t.none))
update_in_a_power = refl

-- - -a; !!a; typeof typeof a;
signs_of_signs : answer (token (k.Sign 18) 0 ∷ token (k.Sign 18) 2 ∷ token (k.Name (codes "a")) 3 ∷ token (k.Sign 6) 4 ∷ token (k.Sign 31) 6 ∷ token (k.Sign 31) 7 ∷ token (k.Name (codes "a")) 8 ∷ token (k.Sign 6) 9 ∷ token (k.Keyword 40) 11 ∷ token (k.Keyword 40) 18 ∷ token (k.Name (codes "a")) 25 ∷ token (k.Sign 6) 26 ∷ token k.End 27 ∷ []) ≡ Parsed (t.more (t.Plain (t.Value (t.Unary u.Negate (t.Unary u.Negate (t.Name (named_at 3 (codes "a"))))) semi.Written)) (t.more (t.Plain (t.Value (t.Unary u.Not (t.Unary u.Not (t.Name (named_at 8 (codes "a"))))) semi.Written)) (t.more (t.Plain (t.Value (t.Typeof (t.Typeof (t.Name (named_at 25 (codes "a"))))) semi.Written)) t.none)))
signs_of_signs = refl

-- -a++; - --a;
sign_of_an_update : answer (token (k.Sign 18) 0 ∷ token (k.Name (codes "a")) 1 ∷ token (k.Sign 23) 2 ∷ token (k.Sign 6) 4 ∷ token (k.Sign 18) 6 ∷ token (k.Sign 24) 8 ∷ token (k.Name (codes "a")) 10 ∷ token (k.Sign 6) 11 ∷ token k.End 12 ∷ []) ≡ Parsed (t.more (t.Plain (t.Value (t.Unary u.Negate (t.Update 1 true false (t.Name (named_at 1 (codes "a"))))) semi.Written)) (t.more (t.Plain (t.Value (t.Unary u.Negate (t.Update 8 false true (t.Name (named_at 10 (codes "a"))))) semi.Written)) t.none))
sign_of_an_update = refl

-- !a.b(c); typeof a[b];
sign_of_a_call : answer (token (k.Sign 31) 0 ∷ token (k.Name (codes "a")) 1 ∷ token (k.Sign 8) 2 ∷ token (k.Name (codes "b")) 3 ∷ token (k.Sign 2) 4 ∷ token (k.Name (codes "c")) 5 ∷ token (k.Sign 3) 6 ∷ token (k.Sign 6) 7 ∷ token (k.Keyword 40) 9 ∷ token (k.Name (codes "a")) 16 ∷ token (k.Sign 4) 17 ∷ token (k.Name (codes "b")) 18 ∷ token (k.Sign 5) 19 ∷ token (k.Sign 6) 20 ∷ token k.End 21 ∷ []) ≡ Parsed (t.more (t.Plain (t.Value (t.Unary u.Not (t.Call (t.Dot (t.Name (named_at 1 (codes "a"))) (codes "b")) (t.more (t.Name (named_at 5 (codes "c"))) t.none))) semi.Written)) (t.more (t.Plain (t.Value (t.Typeof (t.Index (t.Name (named_at 16 (codes "a"))) (t.Name (named_at 18 (codes "b"))))) semi.Written)) t.none))
sign_of_a_call = refl

-- -a * +b;
sign_times_a_sign : answer (token (k.Sign 18) 0 ∷ token (k.Name (codes "a")) 1 ∷ token (k.Sign 19) 3 ∷ token (k.Sign 17) 5 ∷ token (k.Name (codes "b")) 6 ∷ token (k.Sign 6) 7 ∷ token k.End 8 ∷ []) ≡ Parsed (t.more (t.Plain (t.Value (t.Binary b.Multiply (t.Unary u.Negate (t.Name (named_at 1 (codes "a")))) (t.Unary u.Plus (t.Name (named_at 6 (codes "b"))))) semi.Written)) t.none)
sign_times_a_sign = refl

-- ++a.b; a[b]--; (a)++;
update_of_a_member : answer (token (k.Sign 23) 0 ∷ token (k.Name (codes "a")) 2 ∷ token (k.Sign 8) 3 ∷ token (k.Name (codes "b")) 4 ∷ token (k.Sign 6) 5 ∷ token (k.Name (codes "a")) 7 ∷ token (k.Sign 4) 8 ∷ token (k.Name (codes "b")) 9 ∷ token (k.Sign 5) 10 ∷ token (k.Sign 24) 11 ∷ token (k.Sign 6) 13 ∷ token (k.Sign 2) 15 ∷ token (k.Name (codes "a")) 16 ∷ token (k.Sign 3) 17 ∷ token (k.Sign 23) 18 ∷ token (k.Sign 6) 20 ∷ token k.End 21 ∷ []) ≡ Parsed (t.more (t.Plain (t.Value (t.Update 0 true true (t.Dot (t.Name (named_at 2 (codes "a"))) (codes "b"))) semi.Written)) (t.more (t.Plain (t.Value (t.Update 7 false false (t.Index (t.Name (named_at 7 (codes "a"))) (t.Name (named_at 9 (codes "b"))))) semi.Written)) (t.more (t.Plain (t.Value (t.Update 15 true false (t.Paren (t.Name (named_at 16 (codes "a"))))) semi.Written)) t.none)))
update_of_a_member = refl

-- ++a().b; a().b--;
update_of_a_member_of_a_call : answer (token (k.Sign 23) 0 ∷ token (k.Name (codes "a")) 2 ∷ token (k.Sign 2) 3 ∷ token (k.Sign 3) 4 ∷ token (k.Sign 8) 5 ∷ token (k.Name (codes "b")) 6 ∷ token (k.Sign 6) 7 ∷ token (k.Name (codes "a")) 9 ∷ token (k.Sign 2) 10 ∷ token (k.Sign 3) 11 ∷ token (k.Sign 8) 12 ∷ token (k.Name (codes "b")) 13 ∷ token (k.Sign 24) 14 ∷ token (k.Sign 6) 16 ∷ token k.End 17 ∷ []) ≡ Parsed (t.more (t.Plain (t.Value (t.Update 0 true true (t.Dot (t.Call (t.Name (named_at 2 (codes "a"))) t.none) (codes "b"))) semi.Written)) (t.more (t.Plain (t.Value (t.Update 9 false false (t.Dot (t.Call (t.Name (named_at 9 (codes "a"))) t.none) (codes "b"))) semi.Written)) t.none))
update_of_a_member_of_a_call = refl

-- a + ++b + c++;
update_of_a_sum_s_operand : answer (token (k.Name (codes "a")) 0 ∷ token (k.Sign 17) 2 ∷ token (k.Sign 23) 4 ∷ token (k.Name (codes "b")) 6 ∷ token (k.Sign 17) 8 ∷ token (k.Name (codes "c")) 10 ∷ token (k.Sign 23) 11 ∷ token (k.Sign 6) 13 ∷ token k.End 14 ∷ []) ≡ Parsed (t.more (t.Plain (t.Value (t.Binary b.Add (t.Binary b.Add (t.Name (named_at 0 (codes "a"))) (t.Update 4 true true (t.Name (named_at 6 (codes "b"))))) (t.Update 10 true false (t.Name (named_at 10 (codes "c"))))) semi.Written)) t.none)
update_of_a_sum_s_operand = refl

-- a⏎--⏎b
down_behind_a_line_break : answer (token (k.Name (codes "a")) 0 ∷ lined (k.Sign 24) 2 ∷ lined (k.Name (codes "b")) 5 ∷ token k.End 6 ∷ []) ≡ Parsed (t.more (t.Plain (t.Value ((t.Name (named_at 0 (codes "a")))) semi.Missing)) (t.more (t.Plain (t.Value (t.Update 2 false true (t.Name (named_at 5 (codes "b")))) semi.Missing)) t.none))
down_behind_a_line_break = refl

-- a || b ? c : d;
conditional_against_or : answer (token (k.Name (codes "a")) 0 ∷ token (k.Sign 34) 2 ∷ token (k.Name (codes "b")) 5 ∷ token (k.Sign 36) 7 ∷ token (k.Name (codes "c")) 9 ∷ token (k.Sign 37) 11 ∷ token (k.Name (codes "d")) 13 ∷ token (k.Sign 6) 14 ∷ token k.End 15 ∷ []) ≡ Parsed (t.more (t.Plain (t.Value (t.Conditional (t.Or (t.Name (named_at 0 (codes "a"))) (t.Name (named_at 5 (codes "b")))) (t.Name (named_at 9 (codes "c"))) (t.Name (named_at 13 (codes "d")))) semi.Written)) t.none)
conditional_against_or = refl

-- a ?? b ? c : d;
conditional_against_nullish : answer (token (k.Name (codes "a")) 0 ∷ token (k.Sign 35) 2 ∷ token (k.Name (codes "b")) 5 ∷ token (k.Sign 36) 7 ∷ token (k.Name (codes "c")) 9 ∷ token (k.Sign 37) 11 ∷ token (k.Name (codes "d")) 13 ∷ token (k.Sign 6) 14 ∷ token k.End 15 ∷ []) ≡ Parsed (t.more (t.Plain (t.Value (t.Conditional (t.Nullish (t.Name (named_at 0 (codes "a"))) (t.Name (named_at 5 (codes "b")))) (t.Name (named_at 9 (codes "c"))) (t.Name (named_at 13 (codes "d")))) semi.Written)) t.none)
conditional_against_nullish = refl

-- a ? b ? c : d : e ? f : g;
conditional_in_both_branches : answer (token (k.Name (codes "a")) 0 ∷ token (k.Sign 36) 2 ∷ token (k.Name (codes "b")) 4 ∷ token (k.Sign 36) 6 ∷ token (k.Name (codes "c")) 8 ∷ token (k.Sign 37) 10 ∷ token (k.Name (codes "d")) 12 ∷ token (k.Sign 37) 14 ∷ token (k.Name (codes "e")) 16 ∷ token (k.Sign 36) 18 ∷ token (k.Name (codes "f")) 20 ∷ token (k.Sign 37) 22 ∷ token (k.Name (codes "g")) 24 ∷ token (k.Sign 6) 25 ∷ token k.End 26 ∷ []) ≡ Parsed (t.more (t.Plain (t.Value (t.Conditional (t.Name (named_at 0 (codes "a"))) (t.Conditional (t.Name (named_at 4 (codes "b"))) (t.Name (named_at 8 (codes "c"))) (t.Name (named_at 12 (codes "d")))) (t.Conditional (t.Name (named_at 16 (codes "e"))) (t.Name (named_at 20 (codes "f"))) (t.Name (named_at 24 (codes "g"))))) semi.Written)) t.none)
conditional_in_both_branches = refl

-- a ? b = c : d = e;
conditional_with_assignments : answer (token (k.Name (codes "a")) 0 ∷ token (k.Sign 36) 2 ∷ token (k.Name (codes "b")) 4 ∷ token (k.Sign 38) 6 ∷ token (k.Name (codes "c")) 8 ∷ token (k.Sign 37) 10 ∷ token (k.Name (codes "d")) 12 ∷ token (k.Sign 38) 14 ∷ token (k.Name (codes "e")) 16 ∷ token (k.Sign 6) 17 ∷ token k.End 18 ∷ []) ≡ Parsed (t.more (t.Plain (t.Value (t.Conditional (t.Name (named_at 0 (codes "a"))) (t.Assign 4 (t.Name (named_at 4 (codes "b"))) None (t.Name (named_at 8 (codes "c")))) (t.Assign 12 (t.Name (named_at 12 (codes "d"))) None (t.Name (named_at 16 (codes "e"))))) semi.Written)) t.none)
conditional_with_assignments = refl

-- a = b ? c : d;
assignment_of_a_conditional : answer (token (k.Name (codes "a")) 0 ∷ token (k.Sign 38) 2 ∷ token (k.Name (codes "b")) 4 ∷ token (k.Sign 36) 6 ∷ token (k.Name (codes "c")) 8 ∷ token (k.Sign 37) 10 ∷ token (k.Name (codes "d")) 12 ∷ token (k.Sign 6) 13 ∷ token k.End 14 ∷ []) ≡ Parsed (t.more (t.Plain (t.Value (t.Assign 0 (t.Name (named_at 0 (codes "a"))) None (t.Conditional (t.Name (named_at 4 (codes "b"))) (t.Name (named_at 8 (codes "c"))) (t.Name (named_at 12 (codes "d"))))) semi.Written)) t.none)
assignment_of_a_conditional = refl

-- a = b = c;
assignments_group_to_the_right : answer (token (k.Name (codes "a")) 0 ∷ token (k.Sign 38) 2 ∷ token (k.Name (codes "b")) 4 ∷ token (k.Sign 38) 6 ∷ token (k.Name (codes "c")) 8 ∷ token (k.Sign 6) 9 ∷ token k.End 10 ∷ []) ≡ Parsed (t.more (t.Plain (t.Value (t.Assign 0 (t.Name (named_at 0 (codes "a"))) None (t.Assign 4 (t.Name (named_at 4 (codes "b"))) None (t.Name (named_at 8 (codes "c"))))) semi.Written)) t.none)
assignments_group_to_the_right = refl

-- a = b || c;
assignment_of_an_or : answer (token (k.Name (codes "a")) 0 ∷ token (k.Sign 38) 2 ∷ token (k.Name (codes "b")) 4 ∷ token (k.Sign 34) 6 ∷ token (k.Name (codes "c")) 9 ∷ token (k.Sign 6) 10 ∷ token k.End 11 ∷ []) ≡ Parsed (t.more (t.Plain (t.Value (t.Assign 0 (t.Name (named_at 0 (codes "a"))) None (t.Or (t.Name (named_at 4 (codes "b"))) (t.Name (named_at 9 (codes "c"))))) semi.Written)) t.none)
assignment_of_an_or = refl

-- a = b, c = d;
comma_of_assignments : answer (token (k.Name (codes "a")) 0 ∷ token (k.Sign 38) 2 ∷ token (k.Name (codes "b")) 4 ∷ token (k.Sign 7) 5 ∷ token (k.Name (codes "c")) 7 ∷ token (k.Sign 38) 9 ∷ token (k.Name (codes "d")) 11 ∷ token (k.Sign 6) 12 ∷ token k.End 13 ∷ []) ≡ Parsed (t.more (t.Plain (t.Value (t.Comma (t.Assign 0 (t.Name (named_at 0 (codes "a"))) None (t.Name (named_at 4 (codes "b")))) (t.Assign 7 (t.Name (named_at 7 (codes "c"))) None (t.Name (named_at 11 (codes "d"))))) semi.Written)) t.none)
comma_of_assignments = refl

-- a, b, c;
comma_groups_to_the_left : answer (token (k.Name (codes "a")) 0 ∷ token (k.Sign 7) 1 ∷ token (k.Name (codes "b")) 3 ∷ token (k.Sign 7) 4 ∷ token (k.Name (codes "c")) 6 ∷ token (k.Sign 6) 7 ∷ token k.End 8 ∷ []) ≡ Parsed (t.more (t.Plain (t.Value (t.Comma (t.Comma (t.Name (named_at 0 (codes "a"))) (t.Name (named_at 3 (codes "b")))) (t.Name (named_at 6 (codes "c")))) semi.Written)) t.none)
comma_groups_to_the_left = refl

-- (a = b) + c;
assignment_in_parentheses : answer (token (k.Sign 2) 0 ∷ token (k.Name (codes "a")) 1 ∷ token (k.Sign 38) 3 ∷ token (k.Name (codes "b")) 5 ∷ token (k.Sign 3) 6 ∷ token (k.Sign 17) 8 ∷ token (k.Name (codes "c")) 10 ∷ token (k.Sign 6) 11 ∷ token k.End 12 ∷ []) ≡ Parsed (t.more (t.Plain (t.Value (t.Binary b.Add (t.Paren (t.Assign 1 (t.Name (named_at 1 (codes "a"))) None (t.Name (named_at 5 (codes "b"))))) (t.Name (named_at 10 (codes "c")))) semi.Written)) t.none)
assignment_in_parentheses = refl

-- (a) = b; ((a.b)) = c;
assignment_to_parentheses : answer (token (k.Sign 2) 0 ∷ token (k.Name (codes "a")) 1 ∷ token (k.Sign 3) 2 ∷ token (k.Sign 38) 4 ∷ token (k.Name (codes "b")) 6 ∷ token (k.Sign 6) 7 ∷ token (k.Sign 2) 9 ∷ token (k.Sign 2) 10 ∷ token (k.Name (codes "a")) 11 ∷ token (k.Sign 8) 12 ∷ token (k.Name (codes "b")) 13 ∷ token (k.Sign 3) 14 ∷ token (k.Sign 3) 15 ∷ token (k.Sign 38) 17 ∷ token (k.Name (codes "c")) 19 ∷ token (k.Sign 6) 20 ∷ token k.End 21 ∷ []) ≡ Parsed (t.more (t.Plain (t.Value (t.Assign 0 (t.Paren (t.Name (named_at 1 (codes "a")))) None (t.Name (named_at 6 (codes "b")))) semi.Written)) (t.more (t.Plain (t.Value (t.Assign 9 (t.Paren (t.Paren (t.Dot (t.Name (named_at 11 (codes "a"))) (codes "b")))) None (t.Name (named_at 19 (codes "c")))) semi.Written)) t.none))
assignment_to_parentheses = refl

-- super.a = b; super[a] += b;
assignment_to_a_super_member : answer (token (k.Keyword 34) 0 ∷ token (k.Sign 8) 5 ∷ token (k.Name (codes "a")) 6 ∷ token (k.Sign 38) 8 ∷ token (k.Name (codes "b")) 10 ∷ token (k.Sign 6) 11 ∷ token (k.Keyword 34) 13 ∷ token (k.Sign 4) 18 ∷ token (k.Name (codes "a")) 19 ∷ token (k.Sign 5) 20 ∷ token (k.Sign 39) 22 ∷ token (k.Name (codes "b")) 25 ∷ token (k.Sign 6) 26 ∷ token k.End 27 ∷ []) ≡ Parsed (t.more (t.Plain (t.Value (t.Assign 0 (t.SuperDot 0 (codes "a")) None (t.Name (named_at 10 (codes "b")))) semi.Written)) (t.more (t.Plain (t.Value (t.Assign 13 (t.SuperIndex 13 (t.Name (named_at 19 (codes "a")))) (Some b.Add) (t.Name (named_at 25 (codes "b")))) semi.Written)) t.none))
assignment_to_a_super_member = refl

-- a += b;
add_assigned : answer (token (k.Name (codes "a")) 0 ∷ token (k.Sign 39) 2 ∷ token (k.Name (codes "b")) 5 ∷ token (k.Sign 6) 6 ∷ token k.End 7 ∷ []) ≡ Parsed (t.more (t.Plain (t.Value (t.Assign 0 (t.Name (named_at 0 (codes "a"))) (Some b.Add) (t.Name (named_at 5 (codes "b")))) semi.Written)) t.none)
add_assigned = refl

-- a -= b;
subtract_assigned : answer (token (k.Name (codes "a")) 0 ∷ token (k.Sign 40) 2 ∷ token (k.Name (codes "b")) 5 ∷ token (k.Sign 6) 6 ∷ token k.End 7 ∷ []) ≡ Parsed (t.more (t.Plain (t.Value (t.Assign 0 (t.Name (named_at 0 (codes "a"))) (Some b.Subtract) (t.Name (named_at 5 (codes "b")))) semi.Written)) t.none)
subtract_assigned = refl

-- a *= b;
multiply_assigned : answer (token (k.Name (codes "a")) 0 ∷ token (k.Sign 41) 2 ∷ token (k.Name (codes "b")) 5 ∷ token (k.Sign 6) 6 ∷ token k.End 7 ∷ []) ≡ Parsed (t.more (t.Plain (t.Value (t.Assign 0 (t.Name (named_at 0 (codes "a"))) (Some b.Multiply) (t.Name (named_at 5 (codes "b")))) semi.Written)) t.none)
multiply_assigned = refl

-- a /= b;
divide_assigned : answer (token (k.Name (codes "a")) 0 ∷ token (k.Sign 42) 2 ∷ token (k.Name (codes "b")) 5 ∷ token (k.Sign 6) 6 ∷ token k.End 7 ∷ []) ≡ Parsed (t.more (t.Plain (t.Value (t.Assign 0 (t.Name (named_at 0 (codes "a"))) (Some b.Divide) (t.Name (named_at 5 (codes "b")))) semi.Written)) t.none)
divide_assigned = refl

-- a %= b;
remainder_assigned : answer (token (k.Name (codes "a")) 0 ∷ token (k.Sign 43) 2 ∷ token (k.Name (codes "b")) 5 ∷ token (k.Sign 6) 6 ∷ token k.End 7 ∷ []) ≡ Parsed (t.more (t.Plain (t.Value (t.Assign 0 (t.Name (named_at 0 (codes "a"))) (Some b.Remainder) (t.Name (named_at 5 (codes "b")))) semi.Written)) t.none)
remainder_assigned = refl

-- a &= b;
bit_and_assigned : answer (token (k.Name (codes "a")) 0 ∷ token (k.Sign 48) 2 ∷ token (k.Name (codes "b")) 5 ∷ token (k.Sign 6) 6 ∷ token k.End 7 ∷ []) ≡ Parsed (t.more (t.Plain (t.Value (t.Assign 0 (t.Name (named_at 0 (codes "a"))) (Some b.BitAnd) (t.Name (named_at 5 (codes "b")))) semi.Written)) t.none)
bit_and_assigned = refl

-- a |= b;
bit_or_assigned : answer (token (k.Name (codes "a")) 0 ∷ token (k.Sign 49) 2 ∷ token (k.Name (codes "b")) 5 ∷ token (k.Sign 6) 6 ∷ token k.End 7 ∷ []) ≡ Parsed (t.more (t.Plain (t.Value (t.Assign 0 (t.Name (named_at 0 (codes "a"))) (Some b.BitOr) (t.Name (named_at 5 (codes "b")))) semi.Written)) t.none)
bit_or_assigned = refl

-- a ^= b;
bit_xor_assigned : answer (token (k.Name (codes "a")) 0 ∷ token (k.Sign 50) 2 ∷ token (k.Name (codes "b")) 5 ∷ token (k.Sign 6) 6 ∷ token k.End 7 ∷ []) ≡ Parsed (t.more (t.Plain (t.Value (t.Assign 0 (t.Name (named_at 0 (codes "a"))) (Some b.BitXor) (t.Name (named_at 5 (codes "b")))) semi.Written)) t.none)
bit_xor_assigned = refl

-- a <<= b;
shift_left_assigned : answer (token (k.Name (codes "a")) 0 ∷ token (k.Sign 45) 2 ∷ token (k.Name (codes "b")) 6 ∷ token (k.Sign 6) 7 ∷ token k.End 8 ∷ []) ≡ Parsed (t.more (t.Plain (t.Value (t.Assign 0 (t.Name (named_at 0 (codes "a"))) (Some b.ShiftLeft) (t.Name (named_at 6 (codes "b")))) semi.Written)) t.none)
shift_left_assigned = refl

-- a >>= b;
shift_right_assigned : answer (token (k.Name (codes "a")) 0 ∷ token (k.Sign 46) 2 ∷ token (k.Name (codes "b")) 6 ∷ token (k.Sign 6) 7 ∷ token k.End 8 ∷ []) ≡ Parsed (t.more (t.Plain (t.Value (t.Assign 0 (t.Name (named_at 0 (codes "a"))) (Some b.ShiftRight) (t.Name (named_at 6 (codes "b")))) semi.Written)) t.none)
shift_right_assigned = refl

-- a >>>= b;
shift_right_unsigned_assigned : answer (token (k.Name (codes "a")) 0 ∷ token (k.Sign 47) 2 ∷ token (k.Name (codes "b")) 7 ∷ token (k.Sign 6) 8 ∷ token k.End 9 ∷ []) ≡ Parsed (t.more (t.Plain (t.Value (t.Assign 0 (t.Name (named_at 0 (codes "a"))) (Some b.ShiftRightUnsigned) (t.Name (named_at 7 (codes "b")))) semi.Written)) t.none)
shift_right_unsigned_assigned = refl

-- a **= b ** c;
power_assigned : answer (token (k.Name (codes "a")) 0 ∷ token (k.Sign 44) 2 ∷ token (k.Name (codes "b")) 6 ∷ token (k.Sign 22) 8 ∷ token (k.Name (codes "c")) 11 ∷ token (k.Sign 6) 12 ∷ token k.End 13 ∷ []) ≡ Parsed (t.more (t.Plain (t.Value (t.Assign 0 (t.Name (named_at 0 (codes "a"))) (Some b.Power) (t.Binary b.Power (t.Name (named_at 6 (codes "b"))) (t.Name (named_at 11 (codes "c"))))) semi.Written)) t.none)
power_assigned = refl
