-- Arrow heads against parenthesised lists, `new` with and without arguments, members, calls, lists and templates: texts with their trees.
use Rattle.std.proofs.Common.{◌≡◌, refl, true, false, [], ◌∷◌, codes, Some, None}
use Rattle.es_model.specs.declared.kinds.Semi.TheVariants as semi
use Rattle.es_model.specs.declared.kinds.FunctionKind.TheVariants as f
use Rattle.es_model.specs.declared.kinds.BinaryOperator.TheVariants as b
use Rattle.es_model.specs.declared.kinds.UnaryOperator.TheVariants as u
use Rattle.es_model.specs.declared.token.TokenKind.TheVariants as k
use Rattle.es_model.specs.Tree as t
use Rattle.js_parser.proofs.Rows.{token, lined, named_at}
use Rattle.js_parser.specs.Machine.{answer, Parsed}

-- a => b;
arrow_of_a_name : answer (token (k.Name (codes "a")) 0 ∷ token (k.Sign 51) 2 ∷ token (k.Name (codes "b")) 5 ∷ token (k.Sign 6) 6 ∷ token k.End 7 ∷ []) ≡ Parsed (t.more (t.Plain (t.Value (t.Function (t.FunctionOf 0 None f.Arrow ((named_at 0 (codes "a")) ∷ []) (t.BodyExpression ((t.Name (named_at 5 (codes "b"))))))) semi.Written)) t.none)
arrow_of_a_name = refl

-- () => a;
arrow_of_nothing : answer (token (k.Sign 2) 0 ∷ token (k.Sign 3) 1 ∷ token (k.Sign 51) 3 ∷ token (k.Name (codes "a")) 6 ∷ token (k.Sign 6) 7 ∷ token k.End 8 ∷ []) ≡ Parsed (t.more (t.Plain (t.Value (t.Function (t.FunctionOf 0 None f.Arrow ([]) (t.BodyExpression ((t.Name (named_at 6 (codes "a"))))))) semi.Written)) t.none)
arrow_of_nothing = refl

-- (a) => b;
arrow_of_one : answer (token (k.Sign 2) 0 ∷ token (k.Name (codes "a")) 1 ∷ token (k.Sign 3) 2 ∷ token (k.Sign 51) 4 ∷ token (k.Name (codes "b")) 7 ∷ token (k.Sign 6) 8 ∷ token k.End 9 ∷ []) ≡ Parsed (t.more (t.Plain (t.Value (t.Function (t.FunctionOf 0 None f.Arrow ((named_at 1 (codes "a")) ∷ []) (t.BodyExpression ((t.Name (named_at 7 (codes "b"))))))) semi.Written)) t.none)
arrow_of_one = refl

-- (a,) => b;
arrow_of_one_and_a_comma : answer (token (k.Sign 2) 0 ∷ token (k.Name (codes "a")) 1 ∷ token (k.Sign 7) 2 ∷ token (k.Sign 3) 3 ∷ token (k.Sign 51) 5 ∷ token (k.Name (codes "b")) 8 ∷ token (k.Sign 6) 9 ∷ token k.End 10 ∷ []) ≡ Parsed (t.more (t.Plain (t.Value (t.Function (t.FunctionOf 0 None f.Arrow ((named_at 1 (codes "a")) ∷ []) (t.BodyExpression ((t.Name (named_at 8 (codes "b"))))))) semi.Written)) t.none)
arrow_of_one_and_a_comma = refl

-- (a, b) => c;
arrow_of_two : answer (token (k.Sign 2) 0 ∷ token (k.Name (codes "a")) 1 ∷ token (k.Sign 7) 2 ∷ token (k.Name (codes "b")) 4 ∷ token (k.Sign 3) 5 ∷ token (k.Sign 51) 7 ∷ token (k.Name (codes "c")) 10 ∷ token (k.Sign 6) 11 ∷ token k.End 12 ∷ []) ≡ Parsed (t.more (t.Plain (t.Value (t.Function (t.FunctionOf 0 None f.Arrow ((named_at 1 (codes "a")) ∷ (named_at 4 (codes "b")) ∷ []) (t.BodyExpression ((t.Name (named_at 10 (codes "c"))))))) semi.Written)) t.none)
arrow_of_two = refl

-- (a, b, c,) => d;
arrow_of_three_and_a_comma : answer (token (k.Sign 2) 0 ∷ token (k.Name (codes "a")) 1 ∷ token (k.Sign 7) 2 ∷ token (k.Name (codes "b")) 4 ∷ token (k.Sign 7) 5 ∷ token (k.Name (codes "c")) 7 ∷ token (k.Sign 7) 8 ∷ token (k.Sign 3) 9 ∷ token (k.Sign 51) 11 ∷ token (k.Name (codes "d")) 14 ∷ token (k.Sign 6) 15 ∷ token k.End 16 ∷ []) ≡ Parsed (t.more (t.Plain (t.Value (t.Function (t.FunctionOf 0 None f.Arrow ((named_at 1 (codes "a")) ∷ (named_at 4 (codes "b")) ∷ (named_at 7 (codes "c")) ∷ []) (t.BodyExpression ((t.Name (named_at 14 (codes "d"))))))) semi.Written)) t.none)
arrow_of_three_and_a_comma = refl

-- (a,⏎b⏎) =>⏎c;
arrow_with_line_breaks : answer (token (k.Sign 2) 0 ∷ token (k.Name (codes "a")) 1 ∷ token (k.Sign 7) 2 ∷ lined (k.Name (codes "b")) 4 ∷ lined (k.Sign 3) 6 ∷ token (k.Sign 51) 8 ∷ lined (k.Name (codes "c")) 11 ∷ token (k.Sign 6) 12 ∷ token k.End 13 ∷ []) ≡ Parsed (t.more (t.Plain (t.Value (t.Function (t.FunctionOf 0 None f.Arrow ((named_at 1 (codes "a")) ∷ (named_at 4 (codes "b")) ∷ []) (t.BodyExpression ((t.Name (named_at 11 (codes "c"))))))) semi.Written)) t.none)
arrow_with_line_breaks = refl

-- a => b => c;
arrow_of_an_arrow : answer (token (k.Name (codes "a")) 0 ∷ token (k.Sign 51) 2 ∷ token (k.Name (codes "b")) 5 ∷ token (k.Sign 51) 7 ∷ token (k.Name (codes "c")) 10 ∷ token (k.Sign 6) 11 ∷ token k.End 12 ∷ []) ≡ Parsed (t.more (t.Plain (t.Value (t.Function (t.FunctionOf 0 None f.Arrow ((named_at 0 (codes "a")) ∷ []) (t.BodyExpression (t.Function (t.FunctionOf 5 None f.Arrow ((named_at 5 (codes "b")) ∷ []) (t.BodyExpression ((t.Name (named_at 10 (codes "c")))))))))) semi.Written)) t.none)
arrow_of_an_arrow = refl

-- a => {};
arrow_with_a_block : answer (token (k.Name (codes "a")) 0 ∷ token (k.Sign 51) 2 ∷ token (k.Sign 0) 5 ∷ token (k.Sign 1) 6 ∷ token (k.Sign 6) 7 ∷ token k.End 8 ∷ []) ≡ Parsed (t.more (t.Plain (t.Value (t.Function (t.FunctionOf 0 None f.Arrow ((named_at 0 (codes "a")) ∷ []) (t.BodyStatements t.none))) semi.Written)) t.none)
arrow_with_a_block = refl

-- a => {}⏎b;
arrow_with_a_block_and_a_line_break : answer (token (k.Name (codes "a")) 0 ∷ token (k.Sign 51) 2 ∷ token (k.Sign 0) 5 ∷ token (k.Sign 1) 6 ∷ lined (k.Name (codes "b")) 8 ∷ token (k.Sign 6) 9 ∷ token k.End 10 ∷ []) ≡ Parsed (t.more (t.Plain (t.Value (t.Function (t.FunctionOf 0 None f.Arrow ((named_at 0 (codes "a")) ∷ []) (t.BodyStatements t.none))) semi.Missing)) (t.more (t.Plain (t.Value ((t.Name (named_at 8 (codes "b")))) semi.Written)) t.none))
arrow_with_a_block_and_a_line_break = refl

-- () => { return a; };
arrow_with_a_return : answer (token (k.Sign 2) 0 ∷ token (k.Sign 3) 1 ∷ token (k.Sign 51) 3 ∷ token (k.Sign 0) 6 ∷ token (k.Keyword 32) 8 ∷ token (k.Name (codes "a")) 15 ∷ token (k.Sign 6) 16 ∷ token (k.Sign 1) 18 ∷ token (k.Sign 6) 19 ∷ token k.End 20 ∷ []) ≡ Parsed (t.more (t.Plain (t.Value (t.Function (t.FunctionOf 0 None f.Arrow ([]) (t.BodyStatements (t.more (t.Return 8 (t.present (t.Name (named_at 15 (codes "a")))) semi.Written) t.none)))) semi.Written)) t.none)
arrow_with_a_return = refl

-- () => ({});
arrow_of_an_object : answer (token (k.Sign 2) 0 ∷ token (k.Sign 3) 1 ∷ token (k.Sign 51) 3 ∷ token (k.Sign 2) 6 ∷ token (k.Sign 0) 7 ∷ token (k.Sign 1) 8 ∷ token (k.Sign 3) 9 ∷ token (k.Sign 6) 10 ∷ token k.End 11 ∷ []) ≡ Parsed (t.more (t.Plain (t.Value (t.Function (t.FunctionOf 0 None f.Arrow ([]) (t.BodyExpression (t.Paren (t.Object t.none))))) semi.Written)) t.none)
arrow_of_an_object = refl

-- a => b = c;
arrow_of_an_assignment : answer (token (k.Name (codes "a")) 0 ∷ token (k.Sign 51) 2 ∷ token (k.Name (codes "b")) 5 ∷ token (k.Sign 38) 7 ∷ token (k.Name (codes "c")) 9 ∷ token (k.Sign 6) 10 ∷ token k.End 11 ∷ []) ≡ Parsed (t.more (t.Plain (t.Value (t.Function (t.FunctionOf 0 None f.Arrow ((named_at 0 (codes "a")) ∷ []) (t.BodyExpression (t.Assign 5 (t.Name (named_at 5 (codes "b"))) None (t.Name (named_at 9 (codes "c"))))))) semi.Written)) t.none)
arrow_of_an_assignment = refl

-- a => b ? c : d;
arrow_of_a_conditional : answer (token (k.Name (codes "a")) 0 ∷ token (k.Sign 51) 2 ∷ token (k.Name (codes "b")) 5 ∷ token (k.Sign 36) 7 ∷ token (k.Name (codes "c")) 9 ∷ token (k.Sign 37) 11 ∷ token (k.Name (codes "d")) 13 ∷ token (k.Sign 6) 14 ∷ token k.End 15 ∷ []) ≡ Parsed (t.more (t.Plain (t.Value (t.Function (t.FunctionOf 0 None f.Arrow ((named_at 0 (codes "a")) ∷ []) (t.BodyExpression (t.Conditional (t.Name (named_at 5 (codes "b"))) (t.Name (named_at 9 (codes "c"))) (t.Name (named_at 13 (codes "d"))))))) semi.Written)) t.none)
arrow_of_a_conditional = refl

-- a => b, c;
arrow_ends_at_a_comma : answer (token (k.Name (codes "a")) 0 ∷ token (k.Sign 51) 2 ∷ token (k.Name (codes "b")) 5 ∷ token (k.Sign 7) 6 ∷ token (k.Name (codes "c")) 8 ∷ token (k.Sign 6) 9 ∷ token k.End 10 ∷ []) ≡ Parsed (t.more (t.Plain (t.Value (t.Comma (t.Function (t.FunctionOf 0 None f.Arrow ((named_at 0 (codes "a")) ∷ []) (t.BodyExpression ((t.Name (named_at 5 (codes "b"))))))) (t.Name (named_at 8 (codes "c")))) semi.Written)) t.none)
arrow_ends_at_a_comma = refl

-- a = b => c;
arrow_assigned : answer (token (k.Name (codes "a")) 0 ∷ token (k.Sign 38) 2 ∷ token (k.Name (codes "b")) 4 ∷ token (k.Sign 51) 6 ∷ token (k.Name (codes "c")) 9 ∷ token (k.Sign 6) 10 ∷ token k.End 11 ∷ []) ≡ Parsed (t.more (t.Plain (t.Value (t.Assign 0 (t.Name (named_at 0 (codes "a"))) None (t.Function (t.FunctionOf 4 None f.Arrow ((named_at 4 (codes "b")) ∷ []) (t.BodyExpression ((t.Name (named_at 9 (codes "c")))))))) semi.Written)) t.none)
arrow_assigned = refl

-- a ? b => c : d => e;
arrow_in_a_conditional : answer (token (k.Name (codes "a")) 0 ∷ token (k.Sign 36) 2 ∷ token (k.Name (codes "b")) 4 ∷ token (k.Sign 51) 6 ∷ token (k.Name (codes "c")) 9 ∷ token (k.Sign 37) 11 ∷ token (k.Name (codes "d")) 13 ∷ token (k.Sign 51) 15 ∷ token (k.Name (codes "e")) 18 ∷ token (k.Sign 6) 19 ∷ token k.End 20 ∷ []) ≡ Parsed (t.more (t.Plain (t.Value (t.Conditional (t.Name (named_at 0 (codes "a"))) (t.Function (t.FunctionOf 4 None f.Arrow ((named_at 4 (codes "b")) ∷ []) (t.BodyExpression ((t.Name (named_at 9 (codes "c"))))))) (t.Function (t.FunctionOf 13 None f.Arrow ((named_at 13 (codes "d")) ∷ []) (t.BodyExpression ((t.Name (named_at 18 (codes "e")))))))) semi.Written)) t.none)
arrow_in_a_conditional = refl

-- f(a => b, (c) => d);
arrows_as_arguments : answer (token (k.Name (codes "f")) 0 ∷ token (k.Sign 2) 1 ∷ token (k.Name (codes "a")) 2 ∷ token (k.Sign 51) 4 ∷ token (k.Name (codes "b")) 7 ∷ token (k.Sign 7) 8 ∷ token (k.Sign 2) 10 ∷ token (k.Name (codes "c")) 11 ∷ token (k.Sign 3) 12 ∷ token (k.Sign 51) 14 ∷ token (k.Name (codes "d")) 17 ∷ token (k.Sign 3) 18 ∷ token (k.Sign 6) 19 ∷ token k.End 20 ∷ []) ≡ Parsed (t.more (t.Plain (t.Value (t.Call (t.Name (named_at 0 (codes "f"))) (t.more (t.Function (t.FunctionOf 2 None f.Arrow ((named_at 2 (codes "a")) ∷ []) (t.BodyExpression ((t.Name (named_at 7 (codes "b"))))))) (t.more (t.Function (t.FunctionOf 10 None f.Arrow ((named_at 11 (codes "c")) ∷ []) (t.BodyExpression ((t.Name (named_at 17 (codes "d"))))))) t.none))) semi.Written)) t.none)
arrows_as_arguments = refl

-- f(() => a);
empty_head_in_arguments : answer (token (k.Name (codes "f")) 0 ∷ token (k.Sign 2) 1 ∷ token (k.Sign 2) 2 ∷ token (k.Sign 3) 3 ∷ token (k.Sign 51) 5 ∷ token (k.Name (codes "a")) 8 ∷ token (k.Sign 3) 9 ∷ token (k.Sign 6) 10 ∷ token k.End 11 ∷ []) ≡ Parsed (t.more (t.Plain (t.Value (t.Call (t.Name (named_at 0 (codes "f"))) (t.more (t.Function (t.FunctionOf 2 None f.Arrow ([]) (t.BodyExpression ((t.Name (named_at 8 (codes "a"))))))) t.none)) semi.Written)) t.none)
empty_head_in_arguments = refl

-- a, () => b;
empty_head_behind_a_comma : answer (token (k.Name (codes "a")) 0 ∷ token (k.Sign 7) 1 ∷ token (k.Sign 2) 3 ∷ token (k.Sign 3) 4 ∷ token (k.Sign 51) 6 ∷ token (k.Name (codes "b")) 9 ∷ token (k.Sign 6) 10 ∷ token k.End 11 ∷ []) ≡ Parsed (t.more (t.Plain (t.Value (t.Comma (t.Name (named_at 0 (codes "a"))) (t.Function (t.FunctionOf 3 None f.Arrow ([]) (t.BodyExpression ((t.Name (named_at 9 (codes "b")))))))) semi.Written)) t.none)
empty_head_behind_a_comma = refl

-- [a => b];
arrow_in_an_array : answer (token (k.Sign 4) 0 ∷ token (k.Name (codes "a")) 1 ∷ token (k.Sign 51) 3 ∷ token (k.Name (codes "b")) 6 ∷ token (k.Sign 5) 7 ∷ token (k.Sign 6) 8 ∷ token k.End 9 ∷ []) ≡ Parsed (t.more (t.Plain (t.Value (t.Array (t.more (t.Function (t.FunctionOf 1 None f.Arrow ((named_at 1 (codes "a")) ∷ []) (t.BodyExpression ((t.Name (named_at 6 (codes "b"))))))) t.none)) semi.Written)) t.none)
arrow_in_an_array = refl

-- (a);
parenthesised_name : answer (token (k.Sign 2) 0 ∷ token (k.Name (codes "a")) 1 ∷ token (k.Sign 3) 2 ∷ token (k.Sign 6) 3 ∷ token k.End 4 ∷ []) ≡ Parsed (t.more (t.Plain (t.Value (t.Paren (t.Name (named_at 1 (codes "a")))) semi.Written)) t.none)
parenthesised_name = refl

-- (a, b);
parenthesised_names : answer (token (k.Sign 2) 0 ∷ token (k.Name (codes "a")) 1 ∷ token (k.Sign 7) 2 ∷ token (k.Name (codes "b")) 4 ∷ token (k.Sign 3) 5 ∷ token (k.Sign 6) 6 ∷ token k.End 7 ∷ []) ≡ Parsed (t.more (t.Plain (t.Value (t.Paren (t.Comma (t.Name (named_at 1 (codes "a"))) (t.Name (named_at 4 (codes "b"))))) semi.Written)) t.none)
parenthesised_names = refl

-- ((a, b));
parenthesised_twice : answer (token (k.Sign 2) 0 ∷ token (k.Sign 2) 1 ∷ token (k.Name (codes "a")) 2 ∷ token (k.Sign 7) 3 ∷ token (k.Name (codes "b")) 5 ∷ token (k.Sign 3) 6 ∷ token (k.Sign 3) 7 ∷ token (k.Sign 6) 8 ∷ token k.End 9 ∷ []) ≡ Parsed (t.more (t.Plain (t.Value (t.Paren (t.Paren (t.Comma (t.Name (named_at 2 (codes "a"))) (t.Name (named_at 5 (codes "b")))))) semi.Written)) t.none)
parenthesised_twice = refl

-- (a => b)(c);
parenthesised_arrow : answer (token (k.Sign 2) 0 ∷ token (k.Name (codes "a")) 1 ∷ token (k.Sign 51) 3 ∷ token (k.Name (codes "b")) 6 ∷ token (k.Sign 3) 7 ∷ token (k.Sign 2) 8 ∷ token (k.Name (codes "c")) 9 ∷ token (k.Sign 3) 10 ∷ token (k.Sign 6) 11 ∷ token k.End 12 ∷ []) ≡ Parsed (t.more (t.Plain (t.Value (t.Call (t.Paren (t.Function (t.FunctionOf 1 None f.Arrow ((named_at 1 (codes "a")) ∷ []) (t.BodyExpression ((t.Name (named_at 6 (codes "b")))))))) (t.more (t.Name (named_at 9 (codes "c"))) t.none)) semi.Written)) t.none)
parenthesised_arrow = refl

-- new a;
new_bare : answer (token (k.Keyword 26) 0 ∷ token (k.Name (codes "a")) 4 ∷ token (k.Sign 6) 5 ∷ token k.End 6 ∷ []) ≡ Parsed (t.more (t.Plain (t.Value (t.New (t.Name (named_at 4 (codes "a"))) t.absent) semi.Written)) t.none)
new_bare = refl

-- new a();
new_with_none : answer (token (k.Keyword 26) 0 ∷ token (k.Name (codes "a")) 4 ∷ token (k.Sign 2) 5 ∷ token (k.Sign 3) 6 ∷ token (k.Sign 6) 7 ∷ token k.End 8 ∷ []) ≡ Parsed (t.more (t.Plain (t.Value (t.New (t.Name (named_at 4 (codes "a"))) (t.present t.none)) semi.Written)) t.none)
new_with_none = refl

-- new a(b,);
new_with_one : answer (token (k.Keyword 26) 0 ∷ token (k.Name (codes "a")) 4 ∷ token (k.Sign 2) 5 ∷ token (k.Name (codes "b")) 6 ∷ token (k.Sign 7) 7 ∷ token (k.Sign 3) 8 ∷ token (k.Sign 6) 9 ∷ token k.End 10 ∷ []) ≡ Parsed (t.more (t.Plain (t.Value (t.New (t.Name (named_at 4 (codes "a"))) (t.present (t.more (t.Name (named_at 6 (codes "b"))) t.none))) semi.Written)) t.none)
new_with_one = refl

-- new a.b[c](d);
new_of_a_member : answer (token (k.Keyword 26) 0 ∷ token (k.Name (codes "a")) 4 ∷ token (k.Sign 8) 5 ∷ token (k.Name (codes "b")) 6 ∷ token (k.Sign 4) 7 ∷ token (k.Name (codes "c")) 8 ∷ token (k.Sign 5) 9 ∷ token (k.Sign 2) 10 ∷ token (k.Name (codes "d")) 11 ∷ token (k.Sign 3) 12 ∷ token (k.Sign 6) 13 ∷ token k.End 14 ∷ []) ≡ Parsed (t.more (t.Plain (t.Value (t.New (t.Index (t.Dot (t.Name (named_at 4 (codes "a"))) (codes "b")) (t.Name (named_at 8 (codes "c")))) (t.present (t.more (t.Name (named_at 11 (codes "d"))) t.none))) semi.Written)) t.none)
new_of_a_member = refl

-- new a.b;
new_of_a_member_bare : answer (token (k.Keyword 26) 0 ∷ token (k.Name (codes "a")) 4 ∷ token (k.Sign 8) 5 ∷ token (k.Name (codes "b")) 6 ∷ token (k.Sign 6) 7 ∷ token k.End 8 ∷ []) ≡ Parsed (t.more (t.Plain (t.Value (t.New (t.Dot (t.Name (named_at 4 (codes "a"))) (codes "b")) t.absent) semi.Written)) t.none)
new_of_a_member_bare = refl

-- new a().b;
member_of_a_new : answer (token (k.Keyword 26) 0 ∷ token (k.Name (codes "a")) 4 ∷ token (k.Sign 2) 5 ∷ token (k.Sign 3) 6 ∷ token (k.Sign 8) 7 ∷ token (k.Name (codes "b")) 8 ∷ token (k.Sign 6) 9 ∷ token k.End 10 ∷ []) ≡ Parsed (t.more (t.Plain (t.Value (t.Dot (t.New (t.Name (named_at 4 (codes "a"))) (t.present t.none)) (codes "b")) semi.Written)) t.none)
member_of_a_new = refl

-- new a()(b);
call_of_a_new : answer (token (k.Keyword 26) 0 ∷ token (k.Name (codes "a")) 4 ∷ token (k.Sign 2) 5 ∷ token (k.Sign 3) 6 ∷ token (k.Sign 2) 7 ∷ token (k.Name (codes "b")) 8 ∷ token (k.Sign 3) 9 ∷ token (k.Sign 6) 10 ∷ token k.End 11 ∷ []) ≡ Parsed (t.more (t.Plain (t.Value (t.Call (t.New (t.Name (named_at 4 (codes "a"))) (t.present t.none)) (t.more (t.Name (named_at 8 (codes "b"))) t.none)) semi.Written)) t.none)
call_of_a_new = refl

-- new new a;
new_of_new_bare : answer (token (k.Keyword 26) 0 ∷ token (k.Keyword 26) 4 ∷ token (k.Name (codes "a")) 8 ∷ token (k.Sign 6) 9 ∷ token k.End 10 ∷ []) ≡ Parsed (t.more (t.Plain (t.Value (t.New (t.New (t.Name (named_at 8 (codes "a"))) t.absent) t.absent) semi.Written)) t.none)
new_of_new_bare = refl

-- new new a(b);
new_of_new_with_one : answer (token (k.Keyword 26) 0 ∷ token (k.Keyword 26) 4 ∷ token (k.Name (codes "a")) 8 ∷ token (k.Sign 2) 9 ∷ token (k.Name (codes "b")) 10 ∷ token (k.Sign 3) 11 ∷ token (k.Sign 6) 12 ∷ token k.End 13 ∷ []) ≡ Parsed (t.more (t.Plain (t.Value (t.New (t.New (t.Name (named_at 8 (codes "a"))) (t.present (t.more (t.Name (named_at 10 (codes "b"))) t.none))) t.absent) semi.Written)) t.none)
new_of_new_with_one = refl

-- new new a(b)(c);
new_of_new_with_two : answer (token (k.Keyword 26) 0 ∷ token (k.Keyword 26) 4 ∷ token (k.Name (codes "a")) 8 ∷ token (k.Sign 2) 9 ∷ token (k.Name (codes "b")) 10 ∷ token (k.Sign 3) 11 ∷ token (k.Sign 2) 12 ∷ token (k.Name (codes "c")) 13 ∷ token (k.Sign 3) 14 ∷ token (k.Sign 6) 15 ∷ token k.End 16 ∷ []) ≡ Parsed (t.more (t.Plain (t.Value (t.New (t.New (t.Name (named_at 8 (codes "a"))) (t.present (t.more (t.Name (named_at 10 (codes "b"))) t.none))) (t.present (t.more (t.Name (named_at 13 (codes "c"))) t.none))) semi.Written)) t.none)
new_of_new_with_two = refl

-- new (a())(b);
new_of_a_call_in_parentheses : answer (token (k.Keyword 26) 0 ∷ token (k.Sign 2) 4 ∷ token (k.Name (codes "a")) 5 ∷ token (k.Sign 2) 6 ∷ token (k.Sign 3) 7 ∷ token (k.Sign 3) 8 ∷ token (k.Sign 2) 9 ∷ token (k.Name (codes "b")) 10 ∷ token (k.Sign 3) 11 ∷ token (k.Sign 6) 12 ∷ token k.End 13 ∷ []) ≡ Parsed (t.more (t.Plain (t.Value (t.New (t.Paren (t.Call (t.Name (named_at 5 (codes "a"))) t.none)) (t.present (t.more (t.Name (named_at 10 (codes "b"))) t.none))) semi.Written)) t.none)
new_of_a_call_in_parentheses = refl

-- new super.b(); new super[a];
new_of_a_super_member : answer (token (k.Keyword 26) 0 ∷ token (k.Keyword 34) 4 ∷ token (k.Sign 8) 9 ∷ token (k.Name (codes "b")) 10 ∷ token (k.Sign 2) 11 ∷ token (k.Sign 3) 12 ∷ token (k.Sign 6) 13 ∷ token (k.Keyword 26) 15 ∷ token (k.Keyword 34) 19 ∷ token (k.Sign 4) 24 ∷ token (k.Name (codes "a")) 25 ∷ token (k.Sign 5) 26 ∷ token (k.Sign 6) 27 ∷ token k.End 28 ∷ []) ≡ Parsed (t.more (t.Plain (t.Value (t.New (t.SuperDot 4 (codes "b")) (t.present t.none)) semi.Written)) (t.more (t.Plain (t.Value (t.New (t.SuperIndex 19 (t.Name (named_at 25 (codes "a")))) t.absent) semi.Written)) t.none))
new_of_a_super_member = refl

-- new class {}();
new_of_a_class : answer (token (k.Keyword 26) 0 ∷ token (k.Keyword 4) 4 ∷ token (k.Sign 0) 10 ∷ token (k.Sign 1) 11 ∷ token (k.Sign 2) 12 ∷ token (k.Sign 3) 13 ∷ token (k.Sign 6) 14 ∷ token k.End 15 ∷ []) ≡ Parsed (t.more (t.Plain (t.Value (t.New (t.Class (t.ClassOf 4 None t.absent t.none)) (t.present t.none)) semi.Written)) t.none)
new_of_a_class = refl

-- new function () {};
new_of_a_function : answer (token (k.Keyword 26) 0 ∷ token (k.Keyword 18) 4 ∷ token (k.Sign 2) 13 ∷ token (k.Sign 3) 14 ∷ token (k.Sign 0) 16 ∷ token (k.Sign 1) 17 ∷ token (k.Sign 6) 18 ∷ token k.End 19 ∷ []) ≡ Parsed (t.more (t.Plain (t.Value (t.New (t.Function (t.FunctionOf 4 None f.Plain [] (t.BodyStatements t.none))) t.absent) semi.Written)) t.none)
new_of_a_function = refl

-- -new a + new b;
new_under_a_sign : answer (token (k.Sign 18) 0 ∷ token (k.Keyword 26) 1 ∷ token (k.Name (codes "a")) 5 ∷ token (k.Sign 17) 7 ∷ token (k.Keyword 26) 9 ∷ token (k.Name (codes "b")) 13 ∷ token (k.Sign 6) 14 ∷ token k.End 15 ∷ []) ≡ Parsed (t.more (t.Plain (t.Value (t.Binary b.Add (t.Unary u.Negate (t.New (t.Name (named_at 5 (codes "a"))) t.absent)) (t.New (t.Name (named_at 13 (codes "b"))) t.absent)) semi.Written)) t.none)
new_under_a_sign = refl

-- new a⏎b
new_before_a_line_break : answer (token (k.Keyword 26) 0 ∷ token (k.Name (codes "a")) 4 ∷ lined (k.Name (codes "b")) 6 ∷ token k.End 7 ∷ []) ≡ Parsed (t.more (t.Plain (t.Value (t.New (t.Name (named_at 4 (codes "a"))) t.absent) semi.Missing)) (t.more (t.Plain (t.Value ((t.Name (named_at 6 (codes "b")))) semi.Missing)) t.none))
new_before_a_line_break = refl

-- new a⏎(b)
new_and_a_line_break_before_arguments : answer (token (k.Keyword 26) 0 ∷ token (k.Name (codes "a")) 4 ∷ lined (k.Sign 2) 6 ∷ token (k.Name (codes "b")) 7 ∷ token (k.Sign 3) 8 ∷ token k.End 9 ∷ []) ≡ Parsed (t.more (t.Plain (t.Value (t.New (t.Name (named_at 4 (codes "a"))) (t.present (t.more (t.Name (named_at 7 (codes "b"))) t.none))) semi.Missing)) t.none)
new_and_a_line_break_before_arguments = refl

-- (new a).b;
member_of_a_bare_new_in_parentheses : answer (token (k.Sign 2) 0 ∷ token (k.Keyword 26) 1 ∷ token (k.Name (codes "a")) 5 ∷ token (k.Sign 3) 6 ∷ token (k.Sign 8) 7 ∷ token (k.Name (codes "b")) 8 ∷ token (k.Sign 6) 9 ∷ token k.End 10 ∷ []) ≡ Parsed (t.more (t.Plain (t.Value (t.Dot (t.Paren (t.New (t.Name (named_at 5 (codes "a"))) t.absent)) (codes "b")) semi.Written)) t.none)
member_of_a_bare_new_in_parentheses = refl

-- a.new.class;
keyword_as_a_property : answer (token (k.Name (codes "a")) 0 ∷ token (k.Sign 8) 1 ∷ token (k.Keyword 26) 2 ∷ token (k.Sign 8) 5 ∷ token (k.Keyword 4) 6 ∷ token (k.Sign 6) 11 ∷ token k.End 12 ∷ []) ≡ Parsed (t.more (t.Plain (t.Value (t.Dot (t.Dot (t.Name (named_at 0 (codes "a"))) (codes "new")) (codes "class")) semi.Written)) t.none)
keyword_as_a_property = refl

-- super.if; super[a]; super(b)(c);
super_forms : answer (token (k.Keyword 34) 0 ∷ token (k.Sign 8) 5 ∷ token (k.Keyword 19) 6 ∷ token (k.Sign 6) 8 ∷ token (k.Keyword 34) 10 ∷ token (k.Sign 4) 15 ∷ token (k.Name (codes "a")) 16 ∷ token (k.Sign 5) 17 ∷ token (k.Sign 6) 18 ∷ token (k.Keyword 34) 20 ∷ token (k.Sign 2) 25 ∷ token (k.Name (codes "b")) 26 ∷ token (k.Sign 3) 27 ∷ token (k.Sign 2) 28 ∷ token (k.Name (codes "c")) 29 ∷ token (k.Sign 3) 30 ∷ token (k.Sign 6) 31 ∷ token k.End 32 ∷ []) ≡ Parsed (t.more (t.Plain (t.Value (t.SuperDot 0 (codes "if")) semi.Written)) (t.more (t.Plain (t.Value (t.SuperIndex 10 (t.Name (named_at 16 (codes "a")))) semi.Written)) (t.more (t.Plain (t.Value (t.Call (t.SuperCall 20 (t.more (t.Name (named_at 26 (codes "b"))) t.none)) (t.more (t.Name (named_at 29 (codes "c"))) t.none)) semi.Written)) t.none)))
super_forms = refl

-- a()()[b]().c;
calls_of_calls : answer (token (k.Name (codes "a")) 0 ∷ token (k.Sign 2) 1 ∷ token (k.Sign 3) 2 ∷ token (k.Sign 2) 3 ∷ token (k.Sign 3) 4 ∷ token (k.Sign 4) 5 ∷ token (k.Name (codes "b")) 6 ∷ token (k.Sign 5) 7 ∷ token (k.Sign 2) 8 ∷ token (k.Sign 3) 9 ∷ token (k.Sign 8) 10 ∷ token (k.Name (codes "c")) 11 ∷ token (k.Sign 6) 12 ∷ token k.End 13 ∷ []) ≡ Parsed (t.more (t.Plain (t.Value (t.Dot (t.Call (t.Index (t.Call (t.Call (t.Name (named_at 0 (codes "a"))) t.none) t.none) (t.Name (named_at 6 (codes "b")))) t.none) (codes "c")) semi.Written)) t.none)
calls_of_calls = refl

-- a[b, c];
index_with_a_comma_form : answer (token (k.Name (codes "a")) 0 ∷ token (k.Sign 4) 1 ∷ token (k.Name (codes "b")) 2 ∷ token (k.Sign 7) 3 ∷ token (k.Name (codes "c")) 5 ∷ token (k.Sign 5) 6 ∷ token (k.Sign 6) 7 ∷ token k.End 8 ∷ []) ≡ Parsed (t.more (t.Plain (t.Value (t.Index (t.Name (named_at 0 (codes "a"))) (t.Comma (t.Name (named_at 2 (codes "b"))) (t.Name (named_at 5 (codes "c"))))) semi.Written)) t.none)
index_with_a_comma_form = refl

-- []; [a]; [a,]; [a, b];
arrays : answer (token (k.Sign 4) 0 ∷ token (k.Sign 5) 1 ∷ token (k.Sign 6) 2 ∷ token (k.Sign 4) 4 ∷ token (k.Name (codes "a")) 5 ∷ token (k.Sign 5) 6 ∷ token (k.Sign 6) 7 ∷ token (k.Sign 4) 9 ∷ token (k.Name (codes "a")) 10 ∷ token (k.Sign 7) 11 ∷ token (k.Sign 5) 12 ∷ token (k.Sign 6) 13 ∷ token (k.Sign 4) 15 ∷ token (k.Name (codes "a")) 16 ∷ token (k.Sign 7) 17 ∷ token (k.Name (codes "b")) 19 ∷ token (k.Sign 5) 20 ∷ token (k.Sign 6) 21 ∷ token k.End 22 ∷ []) ≡ Parsed (t.more (t.Plain (t.Value (t.Array t.none) semi.Written)) (t.more (t.Plain (t.Value (t.Array (t.more (t.Name (named_at 5 (codes "a"))) t.none)) semi.Written)) (t.more (t.Plain (t.Value (t.Array (t.more (t.Name (named_at 10 (codes "a"))) t.none)) semi.Written)) (t.more (t.Plain (t.Value (t.Array (t.more (t.Name (named_at 16 (codes "a"))) (t.more (t.Name (named_at 19 (codes "b"))) t.none))) semi.Written)) t.none))))
arrays = refl

-- f(a = b, c ? d : e);
arguments_are_elements : answer (token (k.Name (codes "f")) 0 ∷ token (k.Sign 2) 1 ∷ token (k.Name (codes "a")) 2 ∷ token (k.Sign 38) 4 ∷ token (k.Name (codes "b")) 6 ∷ token (k.Sign 7) 7 ∷ token (k.Name (codes "c")) 9 ∷ token (k.Sign 36) 11 ∷ token (k.Name (codes "d")) 13 ∷ token (k.Sign 37) 15 ∷ token (k.Name (codes "e")) 17 ∷ token (k.Sign 3) 18 ∷ token (k.Sign 6) 19 ∷ token k.End 20 ∷ []) ≡ Parsed (t.more (t.Plain (t.Value (t.Call (t.Name (named_at 0 (codes "f"))) (t.more (t.Assign 2 (t.Name (named_at 2 (codes "a"))) None (t.Name (named_at 6 (codes "b")))) (t.more (t.Conditional (t.Name (named_at 9 (codes "c"))) (t.Name (named_at 13 (codes "d"))) (t.Name (named_at 17 (codes "e")))) t.none))) semi.Written)) t.none)
arguments_are_elements = refl

-- `a${`b${c}`}d`;
template_of_templates : answer (token (k.Template true false (codes "a")) 0 ∷ token (k.Template true false (codes "b")) 4 ∷ token (k.Name (codes "c")) 8 ∷ token (k.Template false true (codes "")) 9 ∷ token (k.Template false true (codes "d")) 11 ∷ token (k.Sign 6) 14 ∷ token k.End 15 ∷ []) ≡ Parsed (t.more (t.Plain (t.Value (t.Template (codes "a" ∷ codes "d" ∷ []) (t.more (t.Template (codes "b" ∷ codes "" ∷ []) (t.more (t.Name (named_at 8 (codes "c"))) t.none)) t.none)) semi.Written)) t.none)
template_of_templates = refl

-- `${a, b}`.c;
template_with_a_comma_form : answer (token (k.Template true false (codes "")) 0 ∷ token (k.Name (codes "a")) 3 ∷ token (k.Sign 7) 4 ∷ token (k.Name (codes "b")) 6 ∷ token (k.Template false true (codes "")) 7 ∷ token (k.Sign 8) 9 ∷ token (k.Name (codes "c")) 10 ∷ token (k.Sign 6) 11 ∷ token k.End 12 ∷ []) ≡ Parsed (t.more (t.Plain (t.Value (t.Dot (t.Template (codes "" ∷ codes "" ∷ []) (t.more (t.Comma (t.Name (named_at 3 (codes "a"))) (t.Name (named_at 6 (codes "b")))) t.none)) (codes "c")) semi.Written)) t.none)
template_with_a_comma_form = refl

-- `${{}}`;
template_with_an_object : answer (token (k.Template true false (codes "")) 0 ∷ token (k.Sign 0) 3 ∷ token (k.Sign 1) 4 ∷ token (k.Template false true (codes "")) 5 ∷ token (k.Sign 6) 7 ∷ token k.End 8 ∷ []) ≡ Parsed (t.more (t.Plain (t.Value (t.Template (codes "" ∷ codes "" ∷ []) (t.more (t.Object t.none) t.none)) semi.Written)) t.none)
template_with_an_object = refl

-- (function () {})(); (function f() {}());
function_expression_called : answer (token (k.Sign 2) 0 ∷ token (k.Keyword 18) 1 ∷ token (k.Sign 2) 10 ∷ token (k.Sign 3) 11 ∷ token (k.Sign 0) 13 ∷ token (k.Sign 1) 14 ∷ token (k.Sign 3) 15 ∷ token (k.Sign 2) 16 ∷ token (k.Sign 3) 17 ∷ token (k.Sign 6) 18 ∷ token (k.Sign 2) 20 ∷ token (k.Keyword 18) 21 ∷ token (k.Name (codes "f")) 30 ∷ token (k.Sign 2) 31 ∷ token (k.Sign 3) 32 ∷ token (k.Sign 0) 34 ∷ token (k.Sign 1) 35 ∷ token (k.Sign 2) 36 ∷ token (k.Sign 3) 37 ∷ token (k.Sign 3) 38 ∷ token (k.Sign 6) 39 ∷ token k.End 40 ∷ []) ≡ Parsed (t.more (t.Plain (t.Value (t.Call (t.Paren (t.Function (t.FunctionOf 1 None f.Plain [] (t.BodyStatements t.none)))) t.none) semi.Written)) (t.more (t.Plain (t.Value (t.Paren (t.Call (t.Function (t.FunctionOf 21 (Some (named_at 30 (codes "f"))) f.Plain [] (t.BodyStatements t.none))) t.none)) semi.Written)) t.none))
function_expression_called = refl

-- !function () {}();
function_behind_a_sign : answer (token (k.Sign 31) 0 ∷ token (k.Keyword 18) 1 ∷ token (k.Sign 2) 10 ∷ token (k.Sign 3) 11 ∷ token (k.Sign 0) 13 ∷ token (k.Sign 1) 14 ∷ token (k.Sign 2) 15 ∷ token (k.Sign 3) 16 ∷ token (k.Sign 6) 17 ∷ token k.End 18 ∷ []) ≡ Parsed (t.more (t.Plain (t.Value (t.Unary u.Not (t.Call (t.Function (t.FunctionOf 1 None f.Plain [] (t.BodyStatements t.none))) t.none)) semi.Written)) t.none)
function_behind_a_sign = refl
