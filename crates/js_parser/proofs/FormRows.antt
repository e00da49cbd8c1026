-- The machine on the tokens of one text for each form of the grammar: it answers the tree that is known to spell them.
use Rattle.std.proofs.Common.{◌≡◌, refl, true, false, [], ◌∷◌, codes, pos, Some, None}
use Rattle.es_model.specs.declared.kinds.Semi.TheVariants as semi
use Rattle.es_model.specs.declared.kinds.FunctionKind.TheVariants as f
use Rattle.es_model.specs.declared.kinds.MemberKind.TheVariants as m
use Rattle.es_model.specs.declared.kinds.BinaryOperator.TheVariants as b
use Rattle.es_model.specs.declared.kinds.UnaryOperator.TheVariants as u
use Rattle.es_model.specs.declared.token.TokenKind.TheVariants as k
use Rattle.es_model.specs.Tree as t
use Rattle.js_parser.proofs.Rows.{token, lined, named_at, pair_of}
use Rattle.js_parser.specs.Machine.{answer, Parsed}

-- 1;
one_number : answer (token (k.Number (pos 1)) 0 ∷ token (k.Sign 6) 1 ∷ token k.End 2 ∷ []) ≡ Parsed (t.more (t.Plain (t.Value (t.Number (pos 1)) semi.Written)) t.none)
one_number = refl

-- a + b * c - d % 2 ** 3 ** 4;
operators : answer (token (k.Name (codes "a")) 0 ∷ token (k.Sign 17) 2 ∷ token (k.Name (codes "b")) 4 ∷ token (k.Sign 19) 6 ∷ token (k.Name (codes "c")) 8 ∷ token (k.Sign 18) 10 ∷ token (k.Name (codes "d")) 12 ∷ token (k.Sign 21) 14 ∷ token (k.Number (pos 2)) 16 ∷ token (k.Sign 22) 18 ∷ token (k.Number (pos 3)) 21 ∷ token (k.Sign 22) 23 ∷ token (k.Number (pos 4)) 26 ∷ token (k.Sign 6) 27 ∷ token k.End 28 ∷ []) ≡ Parsed (t.more (t.Plain (t.Value (t.Binary b.Subtract (t.Binary b.Add (t.Name (named_at 0 (codes "a"))) (t.Binary b.Multiply (t.Name (named_at 4 (codes "b"))) (t.Name (named_at 8 (codes "c"))))) (t.Binary b.Remainder (t.Name (named_at 12 (codes "d"))) (t.Binary b.Power (t.Number (pos 2)) (t.Binary b.Power (t.Number (pos 3)) (t.Number (pos 4)))))) semi.Written)) t.none)
operators = refl

-- a << 1 >> 2 >>> 3 & b | c ^ d;
shifts_and_bits : answer (token (k.Name (codes "a")) 0 ∷ token (k.Sign 25) 2 ∷ token (k.Number (pos 1)) 5 ∷ token (k.Sign 26) 7 ∷ token (k.Number (pos 2)) 10 ∷ token (k.Sign 27) 12 ∷ token (k.Number (pos 3)) 16 ∷ token (k.Sign 28) 18 ∷ token (k.Name (codes "b")) 20 ∷ token (k.Sign 29) 22 ∷ token (k.Name (codes "c")) 24 ∷ token (k.Sign 30) 26 ∷ token (k.Name (codes "d")) 28 ∷ token (k.Sign 6) 29 ∷ token k.End 30 ∷ []) ≡ Parsed (t.more (t.Plain (t.Value (t.Binary b.BitOr (t.Binary b.BitAnd (t.Binary b.ShiftRightUnsigned (t.Binary b.ShiftRight (t.Binary b.ShiftLeft (t.Name (named_at 0 (codes "a"))) (t.Number (pos 1))) (t.Number (pos 2))) (t.Number (pos 3))) (t.Name (named_at 20 (codes "b")))) (t.Binary b.BitXor (t.Name (named_at 24 (codes "c"))) (t.Name (named_at 28 (codes "d"))))) semi.Written)) t.none)
shifts_and_bits = refl

-- a < b == c >= d !== e in f instanceof g;
comparisons : answer (token (k.Name (codes "a")) 0 ∷ token (k.Sign 9) 2 ∷ token (k.Name (codes "b")) 4 ∷ token (k.Sign 13) 6 ∷ token (k.Name (codes "c")) 9 ∷ token (k.Sign 12) 11 ∷ token (k.Name (codes "d")) 14 ∷ token (k.Sign 16) 16 ∷ token (k.Name (codes "e")) 20 ∷ token (k.Keyword 22) 22 ∷ token (k.Name (codes "f")) 25 ∷ token (k.Keyword 23) 27 ∷ token (k.Name (codes "g")) 38 ∷ token (k.Sign 6) 39 ∷ token k.End 40 ∷ []) ≡ Parsed (t.more (t.Plain (t.Value (t.Binary b.StrictNotEqual (t.Binary b.Equal (t.Binary b.Less (t.Name (named_at 0 (codes "a"))) (t.Name (named_at 4 (codes "b")))) (t.Binary b.GreaterOrEqual (t.Name (named_at 9 (codes "c"))) (t.Name (named_at 14 (codes "d"))))) (t.InstanceOf (t.In (t.Name (named_at 20 (codes "e"))) (t.Name (named_at 25 (codes "f")))) (t.Name (named_at 38 (codes "g"))))) semi.Written)) t.none)
comparisons = refl

-- a && b || c ? d : e ? f : g;
chosen : answer (token (k.Name (codes "a")) 0 ∷ token (k.Sign 33) 2 ∷ token (k.Name (codes "b")) 5 ∷ token (k.Sign 34) 7 ∷ token (k.Name (codes "c")) 10 ∷ token (k.Sign 36) 12 ∷ token (k.Name (codes "d")) 14 ∷ token (k.Sign 37) 16 ∷ token (k.Name (codes "e")) 18 ∷ token (k.Sign 36) 20 ∷ token (k.Name (codes "f")) 22 ∷ token (k.Sign 37) 24 ∷ token (k.Name (codes "g")) 26 ∷ token (k.Sign 6) 27 ∷ token k.End 28 ∷ []) ≡ Parsed (t.more (t.Plain (t.Value (t.Conditional (t.Or (t.And (t.Name (named_at 0 (codes "a"))) (t.Name (named_at 5 (codes "b")))) (t.Name (named_at 10 (codes "c")))) (t.Name (named_at 14 (codes "d"))) (t.Conditional (t.Name (named_at 18 (codes "e"))) (t.Name (named_at 22 (codes "f"))) (t.Name (named_at 26 (codes "g"))))) semi.Written)) t.none)
chosen = refl

-- a ?? b | c ?? d;
nullish : answer (token (k.Name (codes "a")) 0 ∷ token (k.Sign 35) 2 ∷ token (k.Name (codes "b")) 5 ∷ token (k.Sign 29) 7 ∷ token (k.Name (codes "c")) 9 ∷ token (k.Sign 35) 11 ∷ token (k.Name (codes "d")) 14 ∷ token (k.Sign 6) 15 ∷ token k.End 16 ∷ []) ≡ Parsed (t.more (t.Plain (t.Value (t.Nullish (t.Nullish (t.Name (named_at 0 (codes "a"))) (t.Binary b.BitOr (t.Name (named_at 5 (codes "b"))) (t.Name (named_at 9 (codes "c"))))) (t.Name (named_at 14 (codes "d")))) semi.Written)) t.none)
nullish = refl

-- (a || b) ?? c;
nullish_in_parentheses : answer (token (k.Sign 2) 0 ∷ token (k.Name (codes "a")) 1 ∷ token (k.Sign 34) 3 ∷ token (k.Name (codes "b")) 6 ∷ token (k.Sign 3) 7 ∷ token (k.Sign 35) 9 ∷ token (k.Name (codes "c")) 12 ∷ token (k.Sign 6) 13 ∷ token k.End 14 ∷ []) ≡ Parsed (t.more (t.Plain (t.Value (t.Nullish (t.Paren (t.Or (t.Name (named_at 1 (codes "a"))) (t.Name (named_at 6 (codes "b"))))) (t.Name (named_at 12 (codes "c")))) semi.Written)) t.none)
nullish_in_parentheses = refl

-- ! - + ~ typeof void delete a.b;
unary_forms : answer (token (k.Sign 31) 0 ∷ token (k.Sign 18) 2 ∷ token (k.Sign 17) 4 ∷ token (k.Sign 32) 6 ∷ token (k.Keyword 40) 8 ∷ token (k.Keyword 42) 15 ∷ token (k.Keyword 9) 20 ∷ token (k.Name (codes "a")) 27 ∷ token (k.Sign 8) 28 ∷ token (k.Name (codes "b")) 29 ∷ token (k.Sign 6) 30 ∷ token k.End 31 ∷ []) ≡ Parsed (t.more (t.Plain (t.Value (t.Unary u.Not (t.Unary u.Negate (t.Unary u.Plus (t.Unary u.BitNot (t.Typeof (t.Void (t.Delete 20 (t.Dot (t.Name (named_at 27 (codes "a"))) (codes "b"))))))))) semi.Written)) t.none)
unary_forms = refl

-- ++a; a++; --a.b; (a)--;
updates : answer (token (k.Sign 23) 0 ∷ token (k.Name (codes "a")) 2 ∷ token (k.Sign 6) 3 ∷ token (k.Name (codes "a")) 5 ∷ token (k.Sign 23) 6 ∷ token (k.Sign 6) 8 ∷ token (k.Sign 24) 10 ∷ token (k.Name (codes "a")) 12 ∷ token (k.Sign 8) 13 ∷ token (k.Name (codes "b")) 14 ∷ token (k.Sign 6) 15 ∷ token (k.Sign 2) 17 ∷ token (k.Name (codes "a")) 18 ∷ token (k.Sign 3) 19 ∷ token (k.Sign 24) 20 ∷ token (k.Sign 6) 22 ∷ token k.End 23 ∷ []) ≡ Parsed (t.more (t.Plain (t.Value (t.Update 0 true true (t.Name (named_at 2 (codes "a")))) semi.Written)) (t.more (t.Plain (t.Value (t.Update 5 true false (t.Name (named_at 5 (codes "a")))) semi.Written)) (t.more (t.Plain (t.Value (t.Update 10 false true (t.Dot (t.Name (named_at 12 (codes "a"))) (codes "b"))) semi.Written)) (t.more (t.Plain (t.Value (t.Update 17 false false (t.Paren (t.Name (named_at 18 (codes "a"))))) semi.Written)) t.none))))
updates = refl

-- a ⏎ ++b
update_after_line : answer (token (k.Name (codes "a")) 0 ∷ lined (k.Sign 23) 2 ∷ token (k.Name (codes "b")) 4 ∷ token k.End 5 ∷ []) ≡ Parsed (t.more (t.Plain (t.Value (t.Name (named_at 0 (codes "a"))) semi.Missing)) (t.more (t.Plain (t.Value (t.Update 2 true true (t.Name (named_at 4 (codes "b")))) semi.Missing)) t.none))
update_after_line = refl

-- a = b += c[d] **= 2;
assigned : answer (token (k.Name (codes "a")) 0 ∷ token (k.Sign 38) 2 ∷ token (k.Name (codes "b")) 4 ∷ token (k.Sign 39) 6 ∷ token (k.Name (codes "c")) 9 ∷ token (k.Sign 4) 10 ∷ token (k.Name (codes "d")) 11 ∷ token (k.Sign 5) 12 ∷ token (k.Sign 44) 14 ∷ token (k.Number (pos 2)) 18 ∷ token (k.Sign 6) 19 ∷ token k.End 20 ∷ []) ≡ Parsed (t.more (t.Plain (t.Value (t.Assign 0 (t.Name (named_at 0 (codes "a"))) None (t.Assign 4 (t.Name (named_at 4 (codes "b"))) (Some b.Add) (t.Assign 9 (t.Index (t.Name (named_at 9 (codes "c"))) (t.Name (named_at 11 (codes "d")))) (Some b.Power) (t.Number (pos 2))))) semi.Written)) t.none)
assigned = refl

-- a, b, (c, d);
comma : answer (token (k.Name (codes "a")) 0 ∷ token (k.Sign 7) 1 ∷ token (k.Name (codes "b")) 3 ∷ token (k.Sign 7) 4 ∷ token (k.Sign 2) 6 ∷ token (k.Name (codes "c")) 7 ∷ token (k.Sign 7) 8 ∷ token (k.Name (codes "d")) 10 ∷ token (k.Sign 3) 11 ∷ token (k.Sign 6) 12 ∷ token k.End 13 ∷ []) ≡ Parsed (t.more (t.Plain (t.Value (t.Comma (t.Comma (t.Name (named_at 0 (codes "a"))) (t.Name (named_at 3 (codes "b")))) (t.Paren (t.Comma (t.Name (named_at 7 (codes "c"))) (t.Name (named_at 10 (codes "d")))))) semi.Written)) t.none)
comma = refl

-- a.b[c].d(e, f,)(g).if;
members : answer (token (k.Name (codes "a")) 0 ∷ token (k.Sign 8) 1 ∷ token (k.Name (codes "b")) 2 ∷ token (k.Sign 4) 3 ∷ token (k.Name (codes "c")) 4 ∷ token (k.Sign 5) 5 ∷ token (k.Sign 8) 6 ∷ token (k.Name (codes "d")) 7 ∷ token (k.Sign 2) 8 ∷ token (k.Name (codes "e")) 9 ∷ token (k.Sign 7) 10 ∷ token (k.Name (codes "f")) 12 ∷ token (k.Sign 7) 13 ∷ token (k.Sign 3) 14 ∷ token (k.Sign 2) 15 ∷ token (k.Name (codes "g")) 16 ∷ token (k.Sign 3) 17 ∷ token (k.Sign 8) 18 ∷ token (k.Keyword 19) 19 ∷ token (k.Sign 6) 21 ∷ token k.End 22 ∷ []) ≡ Parsed (t.more (t.Plain (t.Value (t.Dot (t.Call (t.Call (t.Dot (t.Index (t.Dot (t.Name (named_at 0 (codes "a"))) (codes "b")) (t.Name (named_at 4 (codes "c")))) (codes "d")) (t.more (t.Name (named_at 9 (codes "e"))) (t.more (t.Name (named_at 12 (codes "f"))) t.none))) (t.more (t.Name (named_at 16 (codes "g"))) t.none)) (codes "if")) semi.Written)) t.none)
members = refl

-- new a; new a.b(c); new new a(b)(c); new (a())();
news : answer (token (k.Keyword 26) 0 ∷ token (k.Name (codes "a")) 4 ∷ token (k.Sign 6) 5 ∷ token (k.Keyword 26) 7 ∷ token (k.Name (codes "a")) 11 ∷ token (k.Sign 8) 12 ∷ token (k.Name (codes "b")) 13 ∷ token (k.Sign 2) 14 ∷ token (k.Name (codes "c")) 15 ∷ token (k.Sign 3) 16 ∷ token (k.Sign 6) 17 ∷ token (k.Keyword 26) 19 ∷ token (k.Keyword 26) 23 ∷ token (k.Name (codes "a")) 27 ∷ token (k.Sign 2) 28 ∷ token (k.Name (codes "b")) 29 ∷ token (k.Sign 3) 30 ∷ token (k.Sign 2) 31 ∷ token (k.Name (codes "c")) 32 ∷ token (k.Sign 3) 33 ∷ token (k.Sign 6) 34 ∷ token (k.Keyword 26) 36 ∷ token (k.Sign 2) 40 ∷ token (k.Name (codes "a")) 41 ∷ token (k.Sign 2) 42 ∷ token (k.Sign 3) 43 ∷ token (k.Sign 3) 44 ∷ token (k.Sign 2) 45 ∷ token (k.Sign 3) 46 ∷ token (k.Sign 6) 47 ∷ token k.End 48 ∷ []) ≡ Parsed (t.more (t.Plain (t.Value (t.New (t.Name (named_at 4 (codes "a"))) t.absent) semi.Written)) (t.more (t.Plain (t.Value (t.New (t.Dot (t.Name (named_at 11 (codes "a"))) (codes "b")) (t.present (t.more (t.Name (named_at 15 (codes "c"))) t.none))) semi.Written)) (t.more (t.Plain (t.Value (t.New (t.New (t.Name (named_at 27 (codes "a"))) (t.present (t.more (t.Name (named_at 29 (codes "b"))) t.none))) (t.present (t.more (t.Name (named_at 32 (codes "c"))) t.none))) semi.Written)) (t.more (t.Plain (t.Value (t.New (t.Paren (t.Call (t.Name (named_at 41 (codes "a"))) t.none)) (t.present t.none)) semi.Written)) t.none))))
news = refl

-- []; [1]; [1, "s", null,];
arrays : answer (token (k.Sign 4) 0 ∷ token (k.Sign 5) 1 ∷ token (k.Sign 6) 2 ∷ token (k.Sign 4) 4 ∷ token (k.Number (pos 1)) 5 ∷ token (k.Sign 5) 6 ∷ token (k.Sign 6) 7 ∷ token (k.Sign 4) 9 ∷ token (k.Number (pos 1)) 10 ∷ token (k.Sign 7) 11 ∷ token (k.String (codes "s")) 13 ∷ token (k.Sign 7) 16 ∷ token (k.Keyword 27) 18 ∷ token (k.Sign 7) 22 ∷ token (k.Sign 5) 23 ∷ token (k.Sign 6) 24 ∷ token k.End 25 ∷ []) ≡ Parsed (t.more (t.Plain (t.Value (t.Array t.none) semi.Written)) (t.more (t.Plain (t.Value (t.Array (t.more (t.Number (pos 1)) t.none)) semi.Written)) (t.more (t.Plain (t.Value (t.Array (t.more (t.Number (pos 1)) (t.more (t.String (codes "s")) (t.more t.Null t.none)))) semi.Written)) t.none)))
arrays = refl

-- ({}); ({a, b: 1, "c": 2, 3: 4, [d]: 5, e() {}, get f() {}, set g(h) {},});
objects : answer (token (k.Sign 2) 0 ∷ token (k.Sign 0) 1 ∷ token (k.Sign 1) 2 ∷ token (k.Sign 3) 3 ∷ token (k.Sign 6) 4 ∷ token (k.Sign 2) 6 ∷ token (k.Sign 0) 7 ∷ token (k.Name (codes "a")) 8 ∷ token (k.Sign 7) 9 ∷ token (k.Name (codes "b")) 11 ∷ token (k.Sign 37) 12 ∷ token (k.Number (pos 1)) 14 ∷ token (k.Sign 7) 15 ∷ token (k.String (codes "c")) 17 ∷ token (k.Sign 37) 20 ∷ token (k.Number (pos 2)) 22 ∷ token (k.Sign 7) 23 ∷ token (k.Number (pos 3)) 25 ∷ token (k.Sign 37) 26 ∷ token (k.Number (pos 4)) 28 ∷ token (k.Sign 7) 29 ∷ token (k.Sign 4) 31 ∷ token (k.Name (codes "d")) 32 ∷ token (k.Sign 5) 33 ∷ token (k.Sign 37) 34 ∷ token (k.Number (pos 5)) 36 ∷ token (k.Sign 7) 37 ∷ token (k.Name (codes "e")) 39 ∷ token (k.Sign 2) 40 ∷ token (k.Sign 3) 41 ∷ token (k.Sign 0) 43 ∷ token (k.Sign 1) 44 ∷ token (k.Sign 7) 45 ∷ token (k.Name (codes "get")) 47 ∷ token (k.Name (codes "f")) 51 ∷ token (k.Sign 2) 52 ∷ token (k.Sign 3) 53 ∷ token (k.Sign 0) 55 ∷ token (k.Sign 1) 56 ∷ token (k.Sign 7) 57 ∷ token (k.Name (codes "set")) 59 ∷ token (k.Name (codes "g")) 63 ∷ token (k.Sign 2) 64 ∷ token (k.Name (codes "h")) 65 ∷ token (k.Sign 3) 66 ∷ token (k.Sign 0) 68 ∷ token (k.Sign 1) 69 ∷ token (k.Sign 7) 70 ∷ token (k.Sign 1) 71 ∷ token (k.Sign 3) 72 ∷ token (k.Sign 6) 73 ∷ token k.End 74 ∷ []) ≡ Parsed (t.more (t.Plain (t.Value (t.Paren (t.Object t.none)) semi.Written)) (t.more (t.Plain (t.Value (t.Paren (t.Object (t.more (t.MemberOf 8 false m.Short (t.KeyWord (codes "a")) t.absent t.absent) (t.more (t.MemberOf 11 false m.Value (t.KeyWord (codes "b")) (t.present (t.Number (pos 1))) t.absent) (t.more (t.MemberOf 17 false m.Value (t.KeyString (codes "c")) (t.present (t.Number (pos 2))) t.absent) (t.more (t.MemberOf 25 false m.Value (t.KeyNumber (pos 3)) (t.present (t.Number (pos 4))) t.absent) (t.more (t.MemberOf 31 false m.Value (t.KeyComputed (t.Name (named_at 32 (codes "d")))) (t.present (t.Number (pos 5))) t.absent) (t.more (t.MemberOf 39 false m.Method (t.KeyWord (codes "e")) t.absent (t.present (t.FunctionOf 39 None f.Method [] (t.BodyStatements t.none)))) (t.more (t.MemberOf 47 false m.Getter (t.KeyWord (codes "f")) t.absent (t.present (t.FunctionOf 47 None f.Getter [] (t.BodyStatements t.none)))) (t.more (t.MemberOf 59 false m.Setter (t.KeyWord (codes "g")) t.absent (t.present (t.FunctionOf 59 None f.Setter ((named_at 65 (codes "h")) ∷ []) (t.BodyStatements t.none)))) t.none)))))))))) semi.Written)) t.none))
objects = refl

-- `a`; `a${b}c${d, e}`;
templates : answer (token (k.Template true true (codes "a")) 0 ∷ token (k.Sign 6) 3 ∷ token (k.Template true false (codes "a")) 5 ∷ token (k.Name (codes "b")) 9 ∷ token (k.Template false false (codes "c")) 10 ∷ token (k.Name (codes "d")) 14 ∷ token (k.Sign 7) 15 ∷ token (k.Name (codes "e")) 17 ∷ token (k.Template false true []) 18 ∷ token (k.Sign 6) 20 ∷ token k.End 21 ∷ []) ≡ Parsed (t.more (t.Plain (t.Value (t.Template ((codes "a") ∷ []) t.none) semi.Written)) (t.more (t.Plain (t.Value (t.Template ((codes "a") ∷ (codes "c") ∷ [] ∷ []) (t.more (t.Name (named_at 9 (codes "b"))) (t.more (t.Comma (t.Name (named_at 14 (codes "d"))) (t.Name (named_at 17 (codes "e")))) t.none))) semi.Written)) t.none))
templates = refl

-- (function () {}); (function f(a, b,) { return; });
functions : answer (token (k.Sign 2) 0 ∷ token (k.Keyword 18) 1 ∷ token (k.Sign 2) 10 ∷ token (k.Sign 3) 11 ∷ token (k.Sign 0) 13 ∷ token (k.Sign 1) 14 ∷ token (k.Sign 3) 15 ∷ token (k.Sign 6) 16 ∷ token (k.Sign 2) 18 ∷ token (k.Keyword 18) 19 ∷ token (k.Name (codes "f")) 28 ∷ token (k.Sign 2) 29 ∷ token (k.Name (codes "a")) 30 ∷ token (k.Sign 7) 31 ∷ token (k.Name (codes "b")) 33 ∷ token (k.Sign 7) 34 ∷ token (k.Sign 3) 35 ∷ token (k.Sign 0) 37 ∷ token (k.Keyword 32) 39 ∷ token (k.Sign 6) 45 ∷ token (k.Sign 1) 47 ∷ token (k.Sign 3) 48 ∷ token (k.Sign 6) 49 ∷ token k.End 50 ∷ []) ≡ Parsed (t.more (t.Plain (t.Value (t.Paren (t.Function (t.FunctionOf 1 None f.Plain [] (t.BodyStatements t.none)))) semi.Written)) (t.more (t.Plain (t.Value (t.Paren (t.Function (t.FunctionOf 19 (Some (named_at 28 (codes "f"))) f.Plain ((named_at 30 (codes "a")) ∷ (named_at 33 (codes "b")) ∷ []) (t.BodyStatements (t.more (t.Return 39 t.absent semi.Written) t.none))))) semi.Written)) t.none))
functions = refl

-- a => b; () => {}; (a) => 1; (a, b,) => a;
arrows : answer (token (k.Name (codes "a")) 0 ∷ token (k.Sign 51) 2 ∷ token (k.Name (codes "b")) 5 ∷ token (k.Sign 6) 6 ∷ token (k.Sign 2) 8 ∷ token (k.Sign 3) 9 ∷ token (k.Sign 51) 11 ∷ token (k.Sign 0) 14 ∷ token (k.Sign 1) 15 ∷ token (k.Sign 6) 16 ∷ token (k.Sign 2) 18 ∷ token (k.Name (codes "a")) 19 ∷ token (k.Sign 3) 20 ∷ token (k.Sign 51) 22 ∷ token (k.Number (pos 1)) 25 ∷ token (k.Sign 6) 26 ∷ token (k.Sign 2) 28 ∷ token (k.Name (codes "a")) 29 ∷ token (k.Sign 7) 30 ∷ token (k.Name (codes "b")) 32 ∷ token (k.Sign 7) 33 ∷ token (k.Sign 3) 34 ∷ token (k.Sign 51) 36 ∷ token (k.Name (codes "a")) 39 ∷ token (k.Sign 6) 40 ∷ token k.End 41 ∷ []) ≡ Parsed (t.more (t.Plain (t.Value (t.Function (t.FunctionOf 0 None f.Arrow ((named_at 0 (codes "a")) ∷ []) (t.BodyExpression (t.Name (named_at 5 (codes "b")))))) semi.Written)) (t.more (t.Plain (t.Value (t.Function (t.FunctionOf 8 None f.Arrow [] (t.BodyStatements t.none))) semi.Written)) (t.more (t.Plain (t.Value (t.Function (t.FunctionOf 18 None f.Arrow ((named_at 19 (codes "a")) ∷ []) (t.BodyExpression (t.Number (pos 1))))) semi.Written)) (t.more (t.Plain (t.Value (t.Function (t.FunctionOf 28 None f.Arrow ((named_at 29 (codes "a")) ∷ (named_at 32 (codes "b")) ∷ []) (t.BodyExpression (t.Name (named_at 39 (codes "a")))))) semi.Written)) t.none))))
arrows = refl

-- (class {}); class A { constructor(a) {} static b() {} get c() {} ; static set d(e) {} }
classes : answer (token (k.Sign 2) 0 ∷ token (k.Keyword 4) 1 ∷ token (k.Sign 0) 7 ∷ token (k.Sign 1) 8 ∷ token (k.Sign 3) 9 ∷ token (k.Sign 6) 10 ∷ token (k.Keyword 4) 12 ∷ token (k.Name (codes "A")) 18 ∷ token (k.Sign 0) 20 ∷ token (k.Name (codes "constructor")) 22 ∷ token (k.Sign 2) 33 ∷ token (k.Name (codes "a")) 34 ∷ token (k.Sign 3) 35 ∷ token (k.Sign 0) 37 ∷ token (k.Sign 1) 38 ∷ token (k.Keyword 33) 40 ∷ token (k.Name (codes "b")) 47 ∷ token (k.Sign 2) 48 ∷ token (k.Sign 3) 49 ∷ token (k.Sign 0) 51 ∷ token (k.Sign 1) 52 ∷ token (k.Name (codes "get")) 54 ∷ token (k.Name (codes "c")) 58 ∷ token (k.Sign 2) 59 ∷ token (k.Sign 3) 60 ∷ token (k.Sign 0) 62 ∷ token (k.Sign 1) 63 ∷ token (k.Sign 6) 65 ∷ token (k.Keyword 33) 67 ∷ token (k.Name (codes "set")) 74 ∷ token (k.Name (codes "d")) 78 ∷ token (k.Sign 2) 79 ∷ token (k.Name (codes "e")) 80 ∷ token (k.Sign 3) 81 ∷ token (k.Sign 0) 83 ∷ token (k.Sign 1) 84 ∷ token (k.Sign 1) 86 ∷ token k.End 87 ∷ []) ≡ Parsed (t.more (t.Plain (t.Value (t.Paren (t.Class (t.ClassOf 1 None t.absent t.none))) semi.Written)) (t.more (t.Plain (t.ClassStatement (t.ClassOf 12 (Some (named_at 18 (codes "A"))) t.absent (t.more (t.MemberOf 22 false m.Method (t.KeyWord (codes "constructor")) t.absent (t.present (t.FunctionOf 22 None f.Base ((named_at 34 (codes "a")) ∷ []) (t.BodyStatements t.none)))) (t.more (t.MemberOf 40 true m.Method (t.KeyWord (codes "b")) t.absent (t.present (t.FunctionOf 40 None f.Method [] (t.BodyStatements t.none)))) (t.more (t.MemberOf 54 false m.Getter (t.KeyWord (codes "c")) t.absent (t.present (t.FunctionOf 54 None f.Getter [] (t.BodyStatements t.none)))) (t.more (t.MemberOf 67 true m.Setter (t.KeyWord (codes "d")) t.absent (t.present (t.FunctionOf 67 None f.Setter ((named_at 80 (codes "e")) ∷ []) (t.BodyStatements t.none)))) t.none))))))) t.none))
classes = refl

-- class A extends b.c { constructor() { super(1); super.d(); super[e] = 2; } ; ; }
derived : answer (token (k.Keyword 4) 0 ∷ token (k.Name (codes "A")) 6 ∷ token (k.Keyword 14) 8 ∷ token (k.Name (codes "b")) 16 ∷ token (k.Sign 8) 17 ∷ token (k.Name (codes "c")) 18 ∷ token (k.Sign 0) 20 ∷ token (k.Name (codes "constructor")) 22 ∷ token (k.Sign 2) 33 ∷ token (k.Sign 3) 34 ∷ token (k.Sign 0) 36 ∷ token (k.Keyword 34) 38 ∷ token (k.Sign 2) 43 ∷ token (k.Number (pos 1)) 44 ∷ token (k.Sign 3) 45 ∷ token (k.Sign 6) 46 ∷ token (k.Keyword 34) 48 ∷ token (k.Sign 8) 53 ∷ token (k.Name (codes "d")) 54 ∷ token (k.Sign 2) 55 ∷ token (k.Sign 3) 56 ∷ token (k.Sign 6) 57 ∷ token (k.Keyword 34) 59 ∷ token (k.Sign 4) 64 ∷ token (k.Name (codes "e")) 65 ∷ token (k.Sign 5) 66 ∷ token (k.Sign 38) 68 ∷ token (k.Number (pos 2)) 70 ∷ token (k.Sign 6) 71 ∷ token (k.Sign 1) 73 ∷ token (k.Sign 6) 75 ∷ token (k.Sign 6) 77 ∷ token (k.Sign 1) 79 ∷ token k.End 80 ∷ []) ≡ Parsed (t.more (t.Plain (t.ClassStatement (t.ClassOf 0 (Some (named_at 6 (codes "A"))) (t.present (t.Dot (t.Name (named_at 16 (codes "b"))) (codes "c"))) (t.more (t.MemberOf 22 false m.Method (t.KeyWord (codes "constructor")) t.absent (t.present (t.FunctionOf 22 None f.Derived [] (t.BodyStatements (t.more (t.Value (t.SuperCall 38 (t.more (t.Number (pos 1)) t.none)) semi.Written) (t.more (t.Value (t.Call (t.SuperDot 48 (codes "d")) t.none) semi.Written) (t.more (t.Value (t.Assign 59 (t.SuperIndex 59 (t.Name (named_at 65 (codes "e")))) None (t.Number (pos 2))) semi.Written) t.none))))))) t.none)))) t.none)
derived = refl

-- let a, b = 1; const c = this, d = true, e = false; function f() {}
declarations : answer (token (k.Keyword 25) 0 ∷ token (k.Name (codes "a")) 4 ∷ token (k.Sign 7) 5 ∷ token (k.Name (codes "b")) 7 ∷ token (k.Sign 38) 9 ∷ token (k.Number (pos 1)) 11 ∷ token (k.Sign 6) 12 ∷ token (k.Keyword 5) 14 ∷ token (k.Name (codes "c")) 20 ∷ token (k.Sign 38) 22 ∷ token (k.Keyword 36) 24 ∷ token (k.Sign 7) 28 ∷ token (k.Name (codes "d")) 30 ∷ token (k.Sign 38) 32 ∷ token (k.Keyword 38) 34 ∷ token (k.Sign 7) 38 ∷ token (k.Name (codes "e")) 40 ∷ token (k.Sign 38) 42 ∷ token (k.Keyword 15) 44 ∷ token (k.Sign 6) 49 ∷ token (k.Keyword 18) 51 ∷ token (k.Name (codes "f")) 60 ∷ token (k.Sign 2) 61 ∷ token (k.Sign 3) 62 ∷ token (k.Sign 0) 64 ∷ token (k.Sign 1) 65 ∷ token k.End 66 ∷ []) ≡ Parsed (t.more (t.Plain (t.Declare false (t.more (t.DeclaratorOf (named_at 4 (codes "a")) t.absent) (t.more (t.DeclaratorOf (named_at 7 (codes "b")) (t.present (t.Number (pos 1)))) t.none)) semi.Written)) (t.more (t.Plain (t.Declare true (t.more (t.DeclaratorOf (named_at 20 (codes "c")) (t.present t.This)) (t.more (t.DeclaratorOf (named_at 30 (codes "d")) (t.present t.True)) (t.more (t.DeclaratorOf (named_at 40 (codes "e")) (t.present t.False)) t.none))) semi.Written)) (t.more (t.Plain (t.FunctionStatement (t.FunctionOf 51 (Some (named_at 60 (codes "f"))) f.Plain [] (t.BodyStatements t.none)))) t.none)))
declarations = refl

-- if (a) b; if (a) b; else if (c) d; else { }
ifs : answer (token (k.Keyword 19) 0 ∷ token (k.Sign 2) 3 ∷ token (k.Name (codes "a")) 4 ∷ token (k.Sign 3) 5 ∷ token (k.Name (codes "b")) 7 ∷ token (k.Sign 6) 8 ∷ token (k.Keyword 19) 10 ∷ token (k.Sign 2) 13 ∷ token (k.Name (codes "a")) 14 ∷ token (k.Sign 3) 15 ∷ token (k.Name (codes "b")) 17 ∷ token (k.Sign 6) 18 ∷ token (k.Keyword 11) 20 ∷ token (k.Keyword 19) 25 ∷ token (k.Sign 2) 28 ∷ token (k.Name (codes "c")) 29 ∷ token (k.Sign 3) 30 ∷ token (k.Name (codes "d")) 32 ∷ token (k.Sign 6) 33 ∷ token (k.Keyword 11) 35 ∷ token (k.Sign 0) 40 ∷ token (k.Sign 1) 42 ∷ token k.End 43 ∷ []) ≡ Parsed (t.more (t.Plain (t.If (t.Name (named_at 4 (codes "a"))) (t.Value (t.Name (named_at 7 (codes "b"))) semi.Written) t.absent)) (t.more (t.Plain (t.If (t.Name (named_at 14 (codes "a"))) (t.Value (t.Name (named_at 17 (codes "b"))) semi.Written) (t.present (t.If (t.Name (named_at 29 (codes "c"))) (t.Value (t.Name (named_at 32 (codes "d"))) semi.Written) (t.present (t.Block t.none)))))) t.none))
ifs = refl

-- for (;;) break; for (let i = 0; i < 2; i++) continue; for (a; b; ) ; while (a) { } do a; while (b) c;
loops : answer (token (k.Keyword 17) 0 ∷ token (k.Sign 2) 4 ∷ token (k.Sign 6) 5 ∷ token (k.Sign 6) 6 ∷ token (k.Sign 3) 7 ∷ token (k.Keyword 1) 9 ∷ token (k.Sign 6) 14 ∷ token (k.Keyword 17) 16 ∷ token (k.Sign 2) 20 ∷ token (k.Keyword 25) 21 ∷ token (k.Name (codes "i")) 25 ∷ token (k.Sign 38) 27 ∷ token (k.Number (pos 0)) 29 ∷ token (k.Sign 6) 30 ∷ token (k.Name (codes "i")) 32 ∷ token (k.Sign 9) 34 ∷ token (k.Number (pos 2)) 36 ∷ token (k.Sign 6) 37 ∷ token (k.Name (codes "i")) 39 ∷ token (k.Sign 23) 40 ∷ token (k.Sign 3) 42 ∷ token (k.Keyword 6) 44 ∷ token (k.Sign 6) 52 ∷ token (k.Keyword 17) 54 ∷ token (k.Sign 2) 58 ∷ token (k.Name (codes "a")) 59 ∷ token (k.Sign 6) 60 ∷ token (k.Name (codes "b")) 62 ∷ token (k.Sign 6) 63 ∷ token (k.Sign 3) 65 ∷ token (k.Sign 6) 67 ∷ token (k.Keyword 43) 69 ∷ token (k.Sign 2) 75 ∷ token (k.Name (codes "a")) 76 ∷ token (k.Sign 3) 77 ∷ token (k.Sign 0) 79 ∷ token (k.Sign 1) 81 ∷ token (k.Keyword 10) 83 ∷ token (k.Name (codes "a")) 86 ∷ token (k.Sign 6) 87 ∷ token (k.Keyword 43) 89 ∷ token (k.Sign 2) 95 ∷ token (k.Name (codes "b")) 96 ∷ token (k.Sign 3) 97 ∷ token (k.Name (codes "c")) 99 ∷ token (k.Sign 6) 100 ∷ token k.End 101 ∷ []) ≡ Parsed (t.more (t.Plain (t.For t.HeadNothing t.absent t.absent (t.Break 9 semi.Written))) (t.more (t.Plain (t.For (t.HeadDeclare false (t.more (t.DeclaratorOf (named_at 25 (codes "i")) (t.present (t.Number (pos 0)))) t.none)) (t.present (t.Binary b.Less (t.Name (named_at 32 (codes "i"))) (t.Number (pos 2)))) (t.present (t.Update 39 true false (t.Name (named_at 39 (codes "i"))))) (t.Continue 44 semi.Written))) (t.more (t.Plain (t.For (t.HeadValue (t.Name (named_at 59 (codes "a")))) (t.present (t.Name (named_at 62 (codes "b")))) t.absent t.Empty)) (t.more (t.Plain (t.While (t.Name (named_at 76 (codes "a"))) (t.Block t.none))) (t.more (t.Plain (t.DoWhile (t.Value (t.Name (named_at 86 (codes "a"))) semi.Written) (t.Name (named_at 96 (codes "b"))) semi.Missing)) (t.more (t.Plain (t.Value (t.Name (named_at 99 (codes "c"))) semi.Written)) t.none))))))
loops = refl

-- try { } catch { } try { } catch (e) { throw e; } finally { } try { } finally { }
tries : answer (token (k.Keyword 39) 0 ∷ token (k.Sign 0) 4 ∷ token (k.Sign 1) 6 ∷ token (k.Keyword 3) 8 ∷ token (k.Sign 0) 14 ∷ token (k.Sign 1) 16 ∷ token (k.Keyword 39) 18 ∷ token (k.Sign 0) 22 ∷ token (k.Sign 1) 24 ∷ token (k.Keyword 3) 26 ∷ token (k.Sign 2) 32 ∷ token (k.Name (codes "e")) 33 ∷ token (k.Sign 3) 34 ∷ token (k.Sign 0) 36 ∷ token (k.Keyword 37) 38 ∷ token (k.Name (codes "e")) 44 ∷ token (k.Sign 6) 45 ∷ token (k.Sign 1) 47 ∷ token (k.Keyword 16) 49 ∷ token (k.Sign 0) 57 ∷ token (k.Sign 1) 59 ∷ token (k.Keyword 39) 61 ∷ token (k.Sign 0) 65 ∷ token (k.Sign 1) 67 ∷ token (k.Keyword 16) 69 ∷ token (k.Sign 0) 77 ∷ token (k.Sign 1) 79 ∷ token k.End 80 ∷ []) ≡ Parsed (t.more (t.Plain (t.Try t.none None (t.present t.none) t.absent)) (t.more (t.Plain (t.Try t.none (Some (named_at 33 (codes "e"))) (t.present (t.more (t.Throw (t.Name (named_at 44 (codes "e"))) semi.Written) t.none)) (t.present t.none))) (t.more (t.Plain (t.Try t.none None t.absent (t.present t.none))) t.none)))
tries = refl

-- switch (a) { case 1: case 2: b; break; default: c; }
switches : answer (token (k.Keyword 35) 0 ∷ token (k.Sign 2) 7 ∷ token (k.Name (codes "a")) 8 ∷ token (k.Sign 3) 9 ∷ token (k.Sign 0) 11 ∷ token (k.Keyword 2) 13 ∷ token (k.Number (pos 1)) 18 ∷ token (k.Sign 37) 19 ∷ token (k.Keyword 2) 21 ∷ token (k.Number (pos 2)) 26 ∷ token (k.Sign 37) 27 ∷ token (k.Name (codes "b")) 29 ∷ token (k.Sign 6) 30 ∷ token (k.Keyword 1) 32 ∷ token (k.Sign 6) 37 ∷ token (k.Keyword 8) 39 ∷ token (k.Sign 37) 46 ∷ token (k.Name (codes "c")) 48 ∷ token (k.Sign 6) 49 ∷ token (k.Sign 1) 51 ∷ token k.End 52 ∷ []) ≡ Parsed (t.more (t.Plain (t.Switch (t.Name (named_at 8 (codes "a"))) (t.more (t.CaseOf (t.present (t.Number (pos 1))) t.none) (t.more (t.CaseOf (t.present (t.Number (pos 2))) (t.more (t.Value (t.Name (named_at 29 (codes "b"))) semi.Written) (t.more (t.Break 32 semi.Written) t.none))) (t.more (t.CaseOf t.absent (t.more (t.Value (t.Name (named_at 48 (codes "c"))) semi.Written) t.none)) t.none))))) t.none)
switches = refl

-- let a ⏎ { b } ⏎ c
missing : answer (token (k.Keyword 25) 0 ∷ token (k.Name (codes "a")) 4 ∷ lined (k.Sign 0) 6 ∷ token (k.Name (codes "b")) 8 ∷ token (k.Sign 1) 10 ∷ lined (k.Name (codes "c")) 12 ∷ token k.End 13 ∷ []) ≡ Parsed (t.more (t.Plain (t.Declare false (t.more (t.DeclaratorOf (named_at 4 (codes "a")) t.absent) t.none) semi.Missing)) (t.more (t.Plain (t.Block (t.more (t.Value (t.Name (named_at 8 (codes "b"))) semi.Missing) t.none))) (t.more (t.Plain (t.Value (t.Name (named_at 12 (codes "c"))) semi.Missing)) t.none)))
missing = refl

-- function f() { return ⏎ 1; }
returned : answer (token (k.Keyword 18) 0 ∷ token (k.Name (codes "f")) 9 ∷ token (k.Sign 2) 10 ∷ token (k.Sign 3) 11 ∷ token (k.Sign 0) 13 ∷ token (k.Keyword 32) 15 ∷ lined (k.Number (pos 1)) 22 ∷ token (k.Sign 6) 23 ∷ token (k.Sign 1) 25 ∷ token k.End 26 ∷ []) ≡ Parsed (t.more (t.Plain (t.FunctionStatement (t.FunctionOf 0 (Some (named_at 9 (codes "f"))) f.Plain [] (t.BodyStatements (t.more (t.Return 15 t.absent semi.Missing) (t.more (t.Value (t.Number (pos 1)) semi.Written) t.none)))))) t.none)
returned = refl

-- import "m"; import a from "m"; import {b as c, d,} from "m"; import e, {default as f} from "m"; import g, {} from "m";
imports : answer (token (k.Keyword 21) 0 ∷ token (k.String (codes "m")) 7 ∷ token (k.Sign 6) 10 ∷ token (k.Keyword 21) 12 ∷ token (k.Name (codes "a")) 19 ∷ token (k.Name (codes "from")) 21 ∷ token (k.String (codes "m")) 26 ∷ token (k.Sign 6) 29 ∷ token (k.Keyword 21) 31 ∷ token (k.Sign 0) 38 ∷ token (k.Name (codes "b")) 39 ∷ token (k.Name (codes "as")) 41 ∷ token (k.Name (codes "c")) 44 ∷ token (k.Sign 7) 45 ∷ token (k.Name (codes "d")) 47 ∷ token (k.Sign 7) 48 ∷ token (k.Sign 1) 49 ∷ token (k.Name (codes "from")) 51 ∷ token (k.String (codes "m")) 56 ∷ token (k.Sign 6) 59 ∷ token (k.Keyword 21) 61 ∷ token (k.Name (codes "e")) 68 ∷ token (k.Sign 7) 69 ∷ token (k.Sign 0) 71 ∷ token (k.Keyword 8) 72 ∷ token (k.Name (codes "as")) 80 ∷ token (k.Name (codes "f")) 83 ∷ token (k.Sign 1) 84 ∷ token (k.Name (codes "from")) 86 ∷ token (k.String (codes "m")) 91 ∷ token (k.Sign 6) 94 ∷ token (k.Keyword 21) 96 ∷ token (k.Name (codes "g")) 103 ∷ token (k.Sign 7) 104 ∷ token (k.Sign 0) 106 ∷ token (k.Sign 1) 107 ∷ token (k.Name (codes "from")) 109 ∷ token (k.String (codes "m")) 114 ∷ token (k.Sign 6) 117 ∷ token k.End 118 ∷ []) ≡ Parsed (t.more (t.Import (codes "m") [] semi.Written) (t.more (t.Import (codes "m") ((pair_of (named_at 19 (codes "default")) (named_at 19 (codes "a"))) ∷ []) semi.Written) (t.more (t.Import (codes "m") ((pair_of (named_at 39 (codes "b")) (named_at 44 (codes "c"))) ∷ (pair_of (named_at 47 (codes "d")) (named_at 47 (codes "d"))) ∷ []) semi.Written) (t.more (t.Import (codes "m") ((pair_of (named_at 68 (codes "default")) (named_at 68 (codes "e"))) ∷ (pair_of (named_at 72 (codes "default")) (named_at 83 (codes "f"))) ∷ []) semi.Written) (t.more (t.Import (codes "m") ((pair_of (named_at 103 (codes "default")) (named_at 103 (codes "g"))) ∷ []) semi.Written) t.none)))))
imports = refl

-- export {a as b, c}; export {default as d, e} from "m"; export let f; export default 1;
exports : answer (token (k.Keyword 13) 0 ∷ token (k.Sign 0) 7 ∷ token (k.Name (codes "a")) 8 ∷ token (k.Name (codes "as")) 10 ∷ token (k.Name (codes "b")) 13 ∷ token (k.Sign 7) 14 ∷ token (k.Name (codes "c")) 16 ∷ token (k.Sign 1) 17 ∷ token (k.Sign 6) 18 ∷ token (k.Keyword 13) 20 ∷ token (k.Sign 0) 27 ∷ token (k.Keyword 8) 28 ∷ token (k.Name (codes "as")) 36 ∷ token (k.Name (codes "d")) 39 ∷ token (k.Sign 7) 40 ∷ token (k.Name (codes "e")) 42 ∷ token (k.Sign 1) 43 ∷ token (k.Name (codes "from")) 45 ∷ token (k.String (codes "m")) 50 ∷ token (k.Sign 6) 53 ∷ token (k.Keyword 13) 55 ∷ token (k.Keyword 25) 62 ∷ token (k.Name (codes "f")) 66 ∷ token (k.Sign 6) 67 ∷ token (k.Keyword 13) 69 ∷ token (k.Keyword 8) 76 ∷ token (k.Number (pos 1)) 84 ∷ token (k.Sign 6) 85 ∷ token k.End 86 ∷ []) ≡ Parsed (t.more (t.ExportNames ((pair_of (named_at 8 (codes "a")) (named_at 13 (codes "b"))) ∷ (pair_of (named_at 16 (codes "c")) (named_at 16 (codes "c"))) ∷ []) semi.Written) (t.more (t.ExportFrom (codes "m") ((pair_of (named_at 28 (codes "default")) (named_at 39 (codes "d"))) ∷ (pair_of (named_at 42 (codes "e")) (named_at 42 (codes "e"))) ∷ []) semi.Written) (t.more (t.ExportDeclaration (t.Declare false (t.more (t.DeclaratorOf (named_at 66 (codes "f")) t.absent) t.none) semi.Written)) (t.more (t.ExportDefault 76 (t.DefaultValue (t.Number (pos 1))) semi.Written) t.none))))
exports = refl

-- export default function () {} export default class {} export function f() {}
defaults : answer (token (k.Keyword 13) 0 ∷ token (k.Keyword 8) 7 ∷ token (k.Keyword 18) 15 ∷ token (k.Sign 2) 24 ∷ token (k.Sign 3) 25 ∷ token (k.Sign 0) 27 ∷ token (k.Sign 1) 28 ∷ token (k.Keyword 13) 30 ∷ token (k.Keyword 8) 37 ∷ token (k.Keyword 4) 45 ∷ token (k.Sign 0) 51 ∷ token (k.Sign 1) 52 ∷ token (k.Keyword 13) 54 ∷ token (k.Keyword 18) 61 ∷ token (k.Name (codes "f")) 70 ∷ token (k.Sign 2) 71 ∷ token (k.Sign 3) 72 ∷ token (k.Sign 0) 74 ∷ token (k.Sign 1) 75 ∷ token k.End 76 ∷ []) ≡ Parsed (t.more (t.ExportDefault 7 (t.DefaultFunction (t.FunctionOf 15 None f.Plain [] (t.BodyStatements t.none))) semi.Missing) (t.more (t.ExportDefault 37 (t.DefaultClass (t.ClassOf 45 None t.absent t.none)) semi.Missing) (t.more (t.ExportDeclaration (t.FunctionStatement (t.FunctionOf 61 (Some (named_at 70 (codes "f"))) f.Plain [] (t.BodyStatements t.none)))) t.none)))
defaults = refl

nothing : answer (token k.End 0 ∷ []) ≡ Parsed t.none
nothing = refl
