-- Members, functions and classes: texts with their trees.
use Rattle.std.proofs.Common.{◌≡◌, refl, true, false, [], ◌∷◌, codes, pos, Some, None}
use Rattle.es_model.specs.declared.kinds.Semi.TheVariants as semi
use Rattle.es_model.specs.declared.kinds.FunctionKind.TheVariants as f
use Rattle.es_model.specs.declared.kinds.MemberKind.TheVariants as m
use Rattle.es_model.specs.declared.token.TokenKind.TheVariants as k
use Rattle.es_model.specs.Tree as t
use Rattle.js_parser.proofs.Rows.{token, named_at}
use Rattle.js_parser.specs.Machine.{answer, Parsed}

-- ({get, set});
short_accessor_words : answer (token (k.Sign 2) 0 ∷ token (k.Sign 0) 1 ∷ token (k.Name (codes "get")) 2 ∷ token (k.Sign 7) 5 ∷ token (k.Name (codes "set")) 7 ∷ token (k.Sign 1) 10 ∷ token (k.Sign 3) 11 ∷ token (k.Sign 6) 12 ∷ token k.End 13 ∷ []) ≡ Parsed (t.more (t.Plain (t.Value (t.Paren (t.Object (t.more (t.MemberOf 2 false m.Short (t.KeyWord (codes "get")) t.absent t.absent) (t.more (t.MemberOf 7 false m.Short (t.KeyWord (codes "set")) t.absent t.absent) t.none)))) semi.Written)) t.none)
short_accessor_words = refl

-- ({get() {}, set() {},});
methods_named_by_accessor_words : answer (token (k.Sign 2) 0 ∷ token (k.Sign 0) 1 ∷ token (k.Name (codes "get")) 2 ∷ token (k.Sign 2) 5 ∷ token (k.Sign 3) 6 ∷ token (k.Sign 0) 8 ∷ token (k.Sign 1) 9 ∷ token (k.Sign 7) 10 ∷ token (k.Name (codes "set")) 12 ∷ token (k.Sign 2) 15 ∷ token (k.Sign 3) 16 ∷ token (k.Sign 0) 18 ∷ token (k.Sign 1) 19 ∷ token (k.Sign 7) 20 ∷ token (k.Sign 1) 21 ∷ token (k.Sign 3) 22 ∷ token (k.Sign 6) 23 ∷ token k.End 24 ∷ []) ≡ Parsed (t.more (t.Plain (t.Value (t.Paren (t.Object (t.more (t.MemberOf 2 false m.Method (t.KeyWord (codes "get")) t.absent (t.present (t.FunctionOf 2 None f.Method ([]) (t.BodyStatements t.none)))) (t.more (t.MemberOf 12 false m.Method (t.KeyWord (codes "set")) t.absent (t.present (t.FunctionOf 12 None f.Method ([]) (t.BodyStatements t.none)))) t.none)))) semi.Written)) t.none)
methods_named_by_accessor_words = refl

-- ({get: a, set: b});
values_of_accessor_words : answer (token (k.Sign 2) 0 ∷ token (k.Sign 0) 1 ∷ token (k.Name (codes "get")) 2 ∷ token (k.Sign 37) 5 ∷ token (k.Name (codes "a")) 7 ∷ token (k.Sign 7) 8 ∷ token (k.Name (codes "set")) 10 ∷ token (k.Sign 37) 13 ∷ token (k.Name (codes "b")) 15 ∷ token (k.Sign 1) 16 ∷ token (k.Sign 3) 17 ∷ token (k.Sign 6) 18 ∷ token k.End 19 ∷ []) ≡ Parsed (t.more (t.Plain (t.Value (t.Paren (t.Object (t.more (t.MemberOf 2 false m.Value (t.KeyWord (codes "get")) (t.present ((t.Name (named_at 7 (codes "a"))))) t.absent) (t.more (t.MemberOf 10 false m.Value (t.KeyWord (codes "set")) (t.present ((t.Name (named_at 15 (codes "b"))))) t.absent) t.none)))) semi.Written)) t.none)
values_of_accessor_words = refl

-- ({get get() {}, set set(a) {}});
accessors_named_by_accessor_words : answer (token (k.Sign 2) 0 ∷ token (k.Sign 0) 1 ∷ token (k.Name (codes "get")) 2 ∷ token (k.Name (codes "get")) 6 ∷ token (k.Sign 2) 9 ∷ token (k.Sign 3) 10 ∷ token (k.Sign 0) 12 ∷ token (k.Sign 1) 13 ∷ token (k.Sign 7) 14 ∷ token (k.Name (codes "set")) 16 ∷ token (k.Name (codes "set")) 20 ∷ token (k.Sign 2) 23 ∷ token (k.Name (codes "a")) 24 ∷ token (k.Sign 3) 25 ∷ token (k.Sign 0) 27 ∷ token (k.Sign 1) 28 ∷ token (k.Sign 1) 29 ∷ token (k.Sign 3) 30 ∷ token (k.Sign 6) 31 ∷ token k.End 32 ∷ []) ≡ Parsed (t.more (t.Plain (t.Value (t.Paren (t.Object (t.more (t.MemberOf 2 false m.Getter (t.KeyWord (codes "get")) t.absent (t.present (t.FunctionOf 2 None f.Getter ([]) (t.BodyStatements t.none)))) (t.more (t.MemberOf 16 false m.Setter (t.KeyWord (codes "set")) t.absent (t.present (t.FunctionOf 16 None f.Setter ((named_at 24 (codes "a")) ∷ []) (t.BodyStatements t.none)))) t.none)))) semi.Written)) t.none)
accessors_named_by_accessor_words = refl

-- ({get "a"() {}, get 1() {}, set [b](c) {}, get if() {}});
accessors_of_other_keys : answer (token (k.Sign 2) 0 ∷ token (k.Sign 0) 1 ∷ token (k.Name (codes "get")) 2 ∷ token (k.String (codes "a")) 6 ∷ token (k.Sign 2) 9 ∷ token (k.Sign 3) 10 ∷ token (k.Sign 0) 12 ∷ token (k.Sign 1) 13 ∷ token (k.Sign 7) 14 ∷ token (k.Name (codes "get")) 16 ∷ token (k.Number (pos 1)) 20 ∷ token (k.Sign 2) 21 ∷ token (k.Sign 3) 22 ∷ token (k.Sign 0) 24 ∷ token (k.Sign 1) 25 ∷ token (k.Sign 7) 26 ∷ token (k.Name (codes "set")) 28 ∷ token (k.Sign 4) 32 ∷ token (k.Name (codes "b")) 33 ∷ token (k.Sign 5) 34 ∷ token (k.Sign 2) 35 ∷ token (k.Name (codes "c")) 36 ∷ token (k.Sign 3) 37 ∷ token (k.Sign 0) 39 ∷ token (k.Sign 1) 40 ∷ token (k.Sign 7) 41 ∷ token (k.Name (codes "get")) 43 ∷ token (k.Keyword 19) 47 ∷ token (k.Sign 2) 49 ∷ token (k.Sign 3) 50 ∷ token (k.Sign 0) 52 ∷ token (k.Sign 1) 53 ∷ token (k.Sign 1) 54 ∷ token (k.Sign 3) 55 ∷ token (k.Sign 6) 56 ∷ token k.End 57 ∷ []) ≡ Parsed (t.more (t.Plain (t.Value (t.Paren (t.Object (t.more (t.MemberOf 2 false m.Getter (t.KeyString (codes "a")) t.absent (t.present (t.FunctionOf 2 None f.Getter ([]) (t.BodyStatements t.none)))) (t.more (t.MemberOf 16 false m.Getter (t.KeyNumber (pos 1)) t.absent (t.present (t.FunctionOf 16 None f.Getter ([]) (t.BodyStatements t.none)))) (t.more (t.MemberOf 28 false m.Setter (t.KeyComputed (t.Name (named_at 33 (codes "b")))) t.absent (t.present (t.FunctionOf 28 None f.Setter ((named_at 36 (codes "c")) ∷ []) (t.BodyStatements t.none)))) (t.more (t.MemberOf 43 false m.Getter (t.KeyWord (codes "if")) t.absent (t.present (t.FunctionOf 43 None f.Getter ([]) (t.BodyStatements t.none)))) t.none)))))) semi.Written)) t.none)
accessors_of_other_keys = refl

-- ({static: a, static() {}});
static_as_a_key : answer (token (k.Sign 2) 0 ∷ token (k.Sign 0) 1 ∷ token (k.Keyword 33) 2 ∷ token (k.Sign 37) 8 ∷ token (k.Name (codes "a")) 10 ∷ token (k.Sign 7) 11 ∷ token (k.Keyword 33) 13 ∷ token (k.Sign 2) 19 ∷ token (k.Sign 3) 20 ∷ token (k.Sign 0) 22 ∷ token (k.Sign 1) 23 ∷ token (k.Sign 1) 24 ∷ token (k.Sign 3) 25 ∷ token (k.Sign 6) 26 ∷ token k.End 27 ∷ []) ≡ Parsed (t.more (t.Plain (t.Value (t.Paren (t.Object (t.more (t.MemberOf 2 false m.Value (t.KeyWord (codes "static")) (t.present ((t.Name (named_at 10 (codes "a"))))) t.absent) (t.more (t.MemberOf 13 false m.Method (t.KeyWord (codes "static")) t.absent (t.present (t.FunctionOf 13 None f.Method ([]) (t.BodyStatements t.none)))) t.none)))) semi.Written)) t.none)
static_as_a_key = refl

-- ({if: a, new() {}});
keyword_keys : answer (token (k.Sign 2) 0 ∷ token (k.Sign 0) 1 ∷ token (k.Keyword 19) 2 ∷ token (k.Sign 37) 4 ∷ token (k.Name (codes "a")) 6 ∷ token (k.Sign 7) 7 ∷ token (k.Keyword 26) 9 ∷ token (k.Sign 2) 12 ∷ token (k.Sign 3) 13 ∷ token (k.Sign 0) 15 ∷ token (k.Sign 1) 16 ∷ token (k.Sign 1) 17 ∷ token (k.Sign 3) 18 ∷ token (k.Sign 6) 19 ∷ token k.End 20 ∷ []) ≡ Parsed (t.more (t.Plain (t.Value (t.Paren (t.Object (t.more (t.MemberOf 2 false m.Value (t.KeyWord (codes "if")) (t.present ((t.Name (named_at 6 (codes "a"))))) t.absent) (t.more (t.MemberOf 9 false m.Method (t.KeyWord (codes "new")) t.absent (t.present (t.FunctionOf 9 None f.Method ([]) (t.BodyStatements t.none)))) t.none)))) semi.Written)) t.none)
keyword_keys = refl

-- ({a: b, "c": d, 1: e, [f]: g, h});
keys_of_each_form : answer (token (k.Sign 2) 0 ∷ token (k.Sign 0) 1 ∷ token (k.Name (codes "a")) 2 ∷ token (k.Sign 37) 3 ∷ token (k.Name (codes "b")) 5 ∷ token (k.Sign 7) 6 ∷ token (k.String (codes "c")) 8 ∷ token (k.Sign 37) 11 ∷ token (k.Name (codes "d")) 13 ∷ token (k.Sign 7) 14 ∷ token (k.Number (pos 1)) 16 ∷ token (k.Sign 37) 17 ∷ token (k.Name (codes "e")) 19 ∷ token (k.Sign 7) 20 ∷ token (k.Sign 4) 22 ∷ token (k.Name (codes "f")) 23 ∷ token (k.Sign 5) 24 ∷ token (k.Sign 37) 25 ∷ token (k.Name (codes "g")) 27 ∷ token (k.Sign 7) 28 ∷ token (k.Name (codes "h")) 30 ∷ token (k.Sign 1) 31 ∷ token (k.Sign 3) 32 ∷ token (k.Sign 6) 33 ∷ token k.End 34 ∷ []) ≡ Parsed (t.more (t.Plain (t.Value (t.Paren (t.Object (t.more (t.MemberOf 2 false m.Value (t.KeyWord (codes "a")) (t.present ((t.Name (named_at 5 (codes "b"))))) t.absent) (t.more (t.MemberOf 8 false m.Value (t.KeyString (codes "c")) (t.present ((t.Name (named_at 13 (codes "d"))))) t.absent) (t.more (t.MemberOf 16 false m.Value (t.KeyNumber (pos 1)) (t.present ((t.Name (named_at 19 (codes "e"))))) t.absent) (t.more (t.MemberOf 22 false m.Value (t.KeyComputed (t.Name (named_at 23 (codes "f")))) (t.present ((t.Name (named_at 27 (codes "g"))))) t.absent) (t.more (t.MemberOf 30 false m.Short (t.KeyWord (codes "h")) t.absent t.absent) t.none))))))) semi.Written)) t.none)
keys_of_each_form = refl

-- ({a: b = c, d: e ? f : g});
value_is_an_element : answer (token (k.Sign 2) 0 ∷ token (k.Sign 0) 1 ∷ token (k.Name (codes "a")) 2 ∷ token (k.Sign 37) 3 ∷ token (k.Name (codes "b")) 5 ∷ token (k.Sign 38) 7 ∷ token (k.Name (codes "c")) 9 ∷ token (k.Sign 7) 10 ∷ token (k.Name (codes "d")) 12 ∷ token (k.Sign 37) 13 ∷ token (k.Name (codes "e")) 15 ∷ token (k.Sign 36) 17 ∷ token (k.Name (codes "f")) 19 ∷ token (k.Sign 37) 21 ∷ token (k.Name (codes "g")) 23 ∷ token (k.Sign 1) 24 ∷ token (k.Sign 3) 25 ∷ token (k.Sign 6) 26 ∷ token k.End 27 ∷ []) ≡ Parsed (t.more (t.Plain (t.Value (t.Paren (t.Object (t.more (t.MemberOf 2 false m.Value (t.KeyWord (codes "a")) (t.present (t.Assign 5 (t.Name (named_at 5 (codes "b"))) None (t.Name (named_at 9 (codes "c"))))) t.absent) (t.more (t.MemberOf 12 false m.Value (t.KeyWord (codes "d")) (t.present (t.Conditional (t.Name (named_at 15 (codes "e"))) (t.Name (named_at 19 (codes "f"))) (t.Name (named_at 23 (codes "g"))))) t.absent) t.none)))) semi.Written)) t.none)
value_is_an_element = refl

-- ({a(b, c,) { return b; }});
method_with_parameters : answer (token (k.Sign 2) 0 ∷ token (k.Sign 0) 1 ∷ token (k.Name (codes "a")) 2 ∷ token (k.Sign 2) 3 ∷ token (k.Name (codes "b")) 4 ∷ token (k.Sign 7) 5 ∷ token (k.Name (codes "c")) 7 ∷ token (k.Sign 7) 8 ∷ token (k.Sign 3) 9 ∷ token (k.Sign 0) 11 ∷ token (k.Keyword 32) 13 ∷ token (k.Name (codes "b")) 20 ∷ token (k.Sign 6) 21 ∷ token (k.Sign 1) 23 ∷ token (k.Sign 1) 24 ∷ token (k.Sign 3) 25 ∷ token (k.Sign 6) 26 ∷ token k.End 27 ∷ []) ≡ Parsed (t.more (t.Plain (t.Value (t.Paren (t.Object (t.more (t.MemberOf 2 false m.Method (t.KeyWord (codes "a")) t.absent (t.present (t.FunctionOf 2 None f.Method ((named_at 4 (codes "b")) ∷ (named_at 7 (codes "c")) ∷ []) (t.BodyStatements (t.more (t.Return 13 (t.present (t.Name (named_at 20 (codes "b")))) semi.Written) t.none))))) t.none))) semi.Written)) t.none)
method_with_parameters = refl

-- ({constructor() {}});
constructor_in_an_object : answer (token (k.Sign 2) 0 ∷ token (k.Sign 0) 1 ∷ token (k.Name (codes "constructor")) 2 ∷ token (k.Sign 2) 13 ∷ token (k.Sign 3) 14 ∷ token (k.Sign 0) 16 ∷ token (k.Sign 1) 17 ∷ token (k.Sign 1) 18 ∷ token (k.Sign 3) 19 ∷ token (k.Sign 6) 20 ∷ token k.End 21 ∷ []) ≡ Parsed (t.more (t.Plain (t.Value (t.Paren (t.Object (t.more (t.MemberOf 2 false m.Method (t.KeyWord (codes "constructor")) t.absent (t.present (t.FunctionOf 2 None f.Method ([]) (t.BodyStatements t.none)))) t.none))) semi.Written)) t.none)
constructor_in_an_object = refl

-- ({}); a = {};
empty_objects : answer (token (k.Sign 2) 0 ∷ token (k.Sign 0) 1 ∷ token (k.Sign 1) 2 ∷ token (k.Sign 3) 3 ∷ token (k.Sign 6) 4 ∷ token (k.Name (codes "a")) 6 ∷ token (k.Sign 38) 8 ∷ token (k.Sign 0) 10 ∷ token (k.Sign 1) 11 ∷ token (k.Sign 6) 12 ∷ token k.End 13 ∷ []) ≡ Parsed (t.more (t.Plain (t.Value (t.Paren (t.Object t.none)) semi.Written)) (t.more (t.Plain (t.Value (t.Assign 6 (t.Name (named_at 6 (codes "a"))) None (t.Object t.none)) semi.Written)) t.none))
empty_objects = refl

-- class A { ; a() {} ; ; b() {} ; }
class_with_semicolons : answer (token (k.Keyword 4) 0 ∷ token (k.Name (codes "A")) 6 ∷ token (k.Sign 0) 8 ∷ token (k.Sign 6) 10 ∷ token (k.Name (codes "a")) 12 ∷ token (k.Sign 2) 13 ∷ token (k.Sign 3) 14 ∷ token (k.Sign 0) 16 ∷ token (k.Sign 1) 17 ∷ token (k.Sign 6) 19 ∷ token (k.Sign 6) 21 ∷ token (k.Name (codes "b")) 23 ∷ token (k.Sign 2) 24 ∷ token (k.Sign 3) 25 ∷ token (k.Sign 0) 27 ∷ token (k.Sign 1) 28 ∷ token (k.Sign 6) 30 ∷ token (k.Sign 1) 32 ∷ token k.End 33 ∷ []) ≡ Parsed (t.more (t.Plain (t.ClassStatement (t.ClassOf 0 (Some (named_at 6 (codes "A"))) t.absent (t.more (t.MemberOf 12 false m.Method (t.KeyWord (codes "a")) t.absent (t.present (t.FunctionOf 12 None f.Method ([]) (t.BodyStatements t.none)))) (t.more (t.MemberOf 23 false m.Method (t.KeyWord (codes "b")) t.absent (t.present (t.FunctionOf 23 None f.Method ([]) (t.BodyStatements t.none)))) t.none))))) t.none)
class_with_semicolons = refl

-- class A { ;; }
class_with_semicolons_alone : answer (token (k.Keyword 4) 0 ∷ token (k.Name (codes "A")) 6 ∷ token (k.Sign 0) 8 ∷ token (k.Sign 6) 10 ∷ token (k.Sign 6) 11 ∷ token (k.Sign 1) 13 ∷ token k.End 14 ∷ []) ≡ Parsed (t.more (t.Plain (t.ClassStatement (t.ClassOf 0 (Some (named_at 6 (codes "A"))) t.absent t.none))) t.none)
class_with_semicolons_alone = refl

-- class A { a() {} b() {} }
class_without_semicolons : answer (token (k.Keyword 4) 0 ∷ token (k.Name (codes "A")) 6 ∷ token (k.Sign 0) 8 ∷ token (k.Name (codes "a")) 10 ∷ token (k.Sign 2) 11 ∷ token (k.Sign 3) 12 ∷ token (k.Sign 0) 14 ∷ token (k.Sign 1) 15 ∷ token (k.Name (codes "b")) 17 ∷ token (k.Sign 2) 18 ∷ token (k.Sign 3) 19 ∷ token (k.Sign 0) 21 ∷ token (k.Sign 1) 22 ∷ token (k.Sign 1) 24 ∷ token k.End 25 ∷ []) ≡ Parsed (t.more (t.Plain (t.ClassStatement (t.ClassOf 0 (Some (named_at 6 (codes "A"))) t.absent (t.more (t.MemberOf 10 false m.Method (t.KeyWord (codes "a")) t.absent (t.present (t.FunctionOf 10 None f.Method ([]) (t.BodyStatements t.none)))) (t.more (t.MemberOf 17 false m.Method (t.KeyWord (codes "b")) t.absent (t.present (t.FunctionOf 17 None f.Method ([]) (t.BodyStatements t.none)))) t.none))))) t.none)
class_without_semicolons = refl

-- class A { constructor(a) {} }
constructor_of_a_class : answer (token (k.Keyword 4) 0 ∷ token (k.Name (codes "A")) 6 ∷ token (k.Sign 0) 8 ∷ token (k.Name (codes "constructor")) 10 ∷ token (k.Sign 2) 21 ∷ token (k.Name (codes "a")) 22 ∷ token (k.Sign 3) 23 ∷ token (k.Sign 0) 25 ∷ token (k.Sign 1) 26 ∷ token (k.Sign 1) 28 ∷ token k.End 29 ∷ []) ≡ Parsed (t.more (t.Plain (t.ClassStatement (t.ClassOf 0 (Some (named_at 6 (codes "A"))) t.absent (t.more (t.MemberOf 10 false m.Method (t.KeyWord (codes "constructor")) t.absent (t.present (t.FunctionOf 10 None f.Base ((named_at 22 (codes "a")) ∷ []) (t.BodyStatements t.none)))) t.none)))) t.none)
constructor_of_a_class = refl

-- class A extends B { "constructor"() {} }
constructor_of_a_derived_class : answer (token (k.Keyword 4) 0 ∷ token (k.Name (codes "A")) 6 ∷ token (k.Keyword 14) 8 ∷ token (k.Name (codes "B")) 16 ∷ token (k.Sign 0) 18 ∷ token (k.String (codes "constructor")) 20 ∷ token (k.Sign 2) 33 ∷ token (k.Sign 3) 34 ∷ token (k.Sign 0) 36 ∷ token (k.Sign 1) 37 ∷ token (k.Sign 1) 39 ∷ token k.End 40 ∷ []) ≡ Parsed (t.more (t.Plain (t.ClassStatement (t.ClassOf 0 (Some (named_at 6 (codes "A"))) (t.present (t.Name (named_at 16 (codes "B")))) (t.more (t.MemberOf 20 false m.Method (t.KeyString (codes "constructor")) t.absent (t.present (t.FunctionOf 20 None f.Derived ([]) (t.BodyStatements t.none)))) t.none)))) t.none)
constructor_of_a_derived_class = refl

-- class A extends B { static constructor() {} }
static_constructor : answer (token (k.Keyword 4) 0 ∷ token (k.Name (codes "A")) 6 ∷ token (k.Keyword 14) 8 ∷ token (k.Name (codes "B")) 16 ∷ token (k.Sign 0) 18 ∷ token (k.Keyword 33) 20 ∷ token (k.Name (codes "constructor")) 27 ∷ token (k.Sign 2) 38 ∷ token (k.Sign 3) 39 ∷ token (k.Sign 0) 41 ∷ token (k.Sign 1) 42 ∷ token (k.Sign 1) 44 ∷ token k.End 45 ∷ []) ≡ Parsed (t.more (t.Plain (t.ClassStatement (t.ClassOf 0 (Some (named_at 6 (codes "A"))) (t.present (t.Name (named_at 16 (codes "B")))) (t.more (t.MemberOf 20 true m.Method (t.KeyWord (codes "constructor")) t.absent (t.present (t.FunctionOf 20 None f.Method ([]) (t.BodyStatements t.none)))) t.none)))) t.none)
static_constructor = refl

-- class A { ["constructor"]() {} }
computed_constructor : answer (token (k.Keyword 4) 0 ∷ token (k.Name (codes "A")) 6 ∷ token (k.Sign 0) 8 ∷ token (k.Sign 4) 10 ∷ token (k.String (codes "constructor")) 11 ∷ token (k.Sign 5) 24 ∷ token (k.Sign 2) 25 ∷ token (k.Sign 3) 26 ∷ token (k.Sign 0) 28 ∷ token (k.Sign 1) 29 ∷ token (k.Sign 1) 31 ∷ token k.End 32 ∷ []) ≡ Parsed (t.more (t.Plain (t.ClassStatement (t.ClassOf 0 (Some (named_at 6 (codes "A"))) t.absent (t.more (t.MemberOf 10 false m.Method (t.KeyComputed (t.String (codes "constructor"))) t.absent (t.present (t.FunctionOf 10 None f.Method ([]) (t.BodyStatements t.none)))) t.none)))) t.none)
computed_constructor = refl

-- class A { get constructor() {} }
constructor_as_a_getter : answer (token (k.Keyword 4) 0 ∷ token (k.Name (codes "A")) 6 ∷ token (k.Sign 0) 8 ∷ token (k.Name (codes "get")) 10 ∷ token (k.Name (codes "constructor")) 14 ∷ token (k.Sign 2) 25 ∷ token (k.Sign 3) 26 ∷ token (k.Sign 0) 28 ∷ token (k.Sign 1) 29 ∷ token (k.Sign 1) 31 ∷ token k.End 32 ∷ []) ≡ Parsed (t.more (t.Plain (t.ClassStatement (t.ClassOf 0 (Some (named_at 6 (codes "A"))) t.absent (t.more (t.MemberOf 10 false m.Getter (t.KeyWord (codes "constructor")) t.absent (t.present (t.FunctionOf 10 None f.Getter ([]) (t.BodyStatements t.none)))) t.none)))) t.none)
constructor_as_a_getter = refl

-- class A { static() {} static static() {} }
methods_named_static : answer (token (k.Keyword 4) 0 ∷ token (k.Name (codes "A")) 6 ∷ token (k.Sign 0) 8 ∷ token (k.Keyword 33) 10 ∷ token (k.Sign 2) 16 ∷ token (k.Sign 3) 17 ∷ token (k.Sign 0) 19 ∷ token (k.Sign 1) 20 ∷ token (k.Keyword 33) 22 ∷ token (k.Keyword 33) 29 ∷ token (k.Sign 2) 35 ∷ token (k.Sign 3) 36 ∷ token (k.Sign 0) 38 ∷ token (k.Sign 1) 39 ∷ token (k.Sign 1) 41 ∷ token k.End 42 ∷ []) ≡ Parsed (t.more (t.Plain (t.ClassStatement (t.ClassOf 0 (Some (named_at 6 (codes "A"))) t.absent (t.more (t.MemberOf 10 false m.Method (t.KeyWord (codes "static")) t.absent (t.present (t.FunctionOf 10 None f.Method ([]) (t.BodyStatements t.none)))) (t.more (t.MemberOf 22 true m.Method (t.KeyWord (codes "static")) t.absent (t.present (t.FunctionOf 22 None f.Method ([]) (t.BodyStatements t.none)))) t.none))))) t.none)
methods_named_static = refl

-- class A { static get a() {} static set a(b) {} static get() {} }
static_accessors : answer (token (k.Keyword 4) 0 ∷ token (k.Name (codes "A")) 6 ∷ token (k.Sign 0) 8 ∷ token (k.Keyword 33) 10 ∷ token (k.Name (codes "get")) 17 ∷ token (k.Name (codes "a")) 21 ∷ token (k.Sign 2) 22 ∷ token (k.Sign 3) 23 ∷ token (k.Sign 0) 25 ∷ token (k.Sign 1) 26 ∷ token (k.Keyword 33) 28 ∷ token (k.Name (codes "set")) 35 ∷ token (k.Name (codes "a")) 39 ∷ token (k.Sign 2) 40 ∷ token (k.Name (codes "b")) 41 ∷ token (k.Sign 3) 42 ∷ token (k.Sign 0) 44 ∷ token (k.Sign 1) 45 ∷ token (k.Keyword 33) 47 ∷ token (k.Name (codes "get")) 54 ∷ token (k.Sign 2) 57 ∷ token (k.Sign 3) 58 ∷ token (k.Sign 0) 60 ∷ token (k.Sign 1) 61 ∷ token (k.Sign 1) 63 ∷ token k.End 64 ∷ []) ≡ Parsed (t.more (t.Plain (t.ClassStatement (t.ClassOf 0 (Some (named_at 6 (codes "A"))) t.absent (t.more (t.MemberOf 10 true m.Getter (t.KeyWord (codes "a")) t.absent (t.present (t.FunctionOf 10 None f.Getter ([]) (t.BodyStatements t.none)))) (t.more (t.MemberOf 28 true m.Setter (t.KeyWord (codes "a")) t.absent (t.present (t.FunctionOf 28 None f.Setter ((named_at 41 (codes "b")) ∷ []) (t.BodyStatements t.none)))) (t.more (t.MemberOf 47 true m.Method (t.KeyWord (codes "get")) t.absent (t.present (t.FunctionOf 47 None f.Method ([]) (t.BodyStatements t.none)))) t.none)))))) t.none)
static_accessors = refl

-- class A { "a"() {} 1() {} [b]() {} if() {} get() {} }
class_members_of_each_key : answer (token (k.Keyword 4) 0 ∷ token (k.Name (codes "A")) 6 ∷ token (k.Sign 0) 8 ∷ token (k.String (codes "a")) 10 ∷ token (k.Sign 2) 13 ∷ token (k.Sign 3) 14 ∷ token (k.Sign 0) 16 ∷ token (k.Sign 1) 17 ∷ token (k.Number (pos 1)) 19 ∷ token (k.Sign 2) 20 ∷ token (k.Sign 3) 21 ∷ token (k.Sign 0) 23 ∷ token (k.Sign 1) 24 ∷ token (k.Sign 4) 26 ∷ token (k.Name (codes "b")) 27 ∷ token (k.Sign 5) 28 ∷ token (k.Sign 2) 29 ∷ token (k.Sign 3) 30 ∷ token (k.Sign 0) 32 ∷ token (k.Sign 1) 33 ∷ token (k.Keyword 19) 35 ∷ token (k.Sign 2) 37 ∷ token (k.Sign 3) 38 ∷ token (k.Sign 0) 40 ∷ token (k.Sign 1) 41 ∷ token (k.Name (codes "get")) 43 ∷ token (k.Sign 2) 46 ∷ token (k.Sign 3) 47 ∷ token (k.Sign 0) 49 ∷ token (k.Sign 1) 50 ∷ token (k.Sign 1) 52 ∷ token k.End 53 ∷ []) ≡ Parsed (t.more (t.Plain (t.ClassStatement (t.ClassOf 0 (Some (named_at 6 (codes "A"))) t.absent (t.more (t.MemberOf 10 false m.Method (t.KeyString (codes "a")) t.absent (t.present (t.FunctionOf 10 None f.Method ([]) (t.BodyStatements t.none)))) (t.more (t.MemberOf 19 false m.Method (t.KeyNumber (pos 1)) t.absent (t.present (t.FunctionOf 19 None f.Method ([]) (t.BodyStatements t.none)))) (t.more (t.MemberOf 26 false m.Method (t.KeyComputed (t.Name (named_at 27 (codes "b")))) t.absent (t.present (t.FunctionOf 26 None f.Method ([]) (t.BodyStatements t.none)))) (t.more (t.MemberOf 35 false m.Method (t.KeyWord (codes "if")) t.absent (t.present (t.FunctionOf 35 None f.Method ([]) (t.BodyStatements t.none)))) (t.more (t.MemberOf 43 false m.Method (t.KeyWord (codes "get")) t.absent (t.present (t.FunctionOf 43 None f.Method ([]) (t.BodyStatements t.none)))) t.none)))))))) t.none)
class_members_of_each_key = refl

-- class A extends a.b(c) {}
parent_of_a_call : answer (token (k.Keyword 4) 0 ∷ token (k.Name (codes "A")) 6 ∷ token (k.Keyword 14) 8 ∷ token (k.Name (codes "a")) 16 ∷ token (k.Sign 8) 17 ∷ token (k.Name (codes "b")) 18 ∷ token (k.Sign 2) 19 ∷ token (k.Name (codes "c")) 20 ∷ token (k.Sign 3) 21 ∷ token (k.Sign 0) 23 ∷ token (k.Sign 1) 24 ∷ token k.End 25 ∷ []) ≡ Parsed (t.more (t.Plain (t.ClassStatement (t.ClassOf 0 (Some (named_at 6 (codes "A"))) (t.present (t.Call (t.Dot (t.Name (named_at 16 (codes "a"))) (codes "b")) (t.more (t.Name (named_at 20 (codes "c"))) t.none))) t.none))) t.none)
parent_of_a_call = refl

-- class A extends {} {}
parent_of_an_object : answer (token (k.Keyword 4) 0 ∷ token (k.Name (codes "A")) 6 ∷ token (k.Keyword 14) 8 ∷ token (k.Sign 0) 16 ∷ token (k.Sign 1) 17 ∷ token (k.Sign 0) 19 ∷ token (k.Sign 1) 20 ∷ token k.End 21 ∷ []) ≡ Parsed (t.more (t.Plain (t.ClassStatement (t.ClassOf 0 (Some (named_at 6 (codes "A"))) (t.present (t.Object t.none)) t.none))) t.none)
parent_of_an_object = refl

-- class A extends new B {}
parent_of_a_bare_new : answer (token (k.Keyword 4) 0 ∷ token (k.Name (codes "A")) 6 ∷ token (k.Keyword 14) 8 ∷ token (k.Keyword 26) 16 ∷ token (k.Name (codes "B")) 20 ∷ token (k.Sign 0) 22 ∷ token (k.Sign 1) 23 ∷ token k.End 24 ∷ []) ≡ Parsed (t.more (t.Plain (t.ClassStatement (t.ClassOf 0 (Some (named_at 6 (codes "A"))) (t.present (t.New (t.Name (named_at 20 (codes "B"))) t.absent)) t.none))) t.none)
parent_of_a_bare_new = refl

-- class A extends (a, b) {}
parent_in_parentheses : answer (token (k.Keyword 4) 0 ∷ token (k.Name (codes "A")) 6 ∷ token (k.Keyword 14) 8 ∷ token (k.Sign 2) 16 ∷ token (k.Name (codes "a")) 17 ∷ token (k.Sign 7) 18 ∷ token (k.Name (codes "b")) 20 ∷ token (k.Sign 3) 21 ∷ token (k.Sign 0) 23 ∷ token (k.Sign 1) 24 ∷ token k.End 25 ∷ []) ≡ Parsed (t.more (t.Plain (t.ClassStatement (t.ClassOf 0 (Some (named_at 6 (codes "A"))) (t.present (t.Paren (t.Comma (t.Name (named_at 17 (codes "a"))) (t.Name (named_at 20 (codes "b")))))) t.none))) t.none)
parent_in_parentheses = refl

-- (class {}); (class A {}); (class extends B {});
class_expressions : answer (token (k.Sign 2) 0 ∷ token (k.Keyword 4) 1 ∷ token (k.Sign 0) 7 ∷ token (k.Sign 1) 8 ∷ token (k.Sign 3) 9 ∷ token (k.Sign 6) 10 ∷ token (k.Sign 2) 12 ∷ token (k.Keyword 4) 13 ∷ token (k.Name (codes "A")) 19 ∷ token (k.Sign 0) 21 ∷ token (k.Sign 1) 22 ∷ token (k.Sign 3) 23 ∷ token (k.Sign 6) 24 ∷ token (k.Sign 2) 26 ∷ token (k.Keyword 4) 27 ∷ token (k.Keyword 14) 33 ∷ token (k.Name (codes "B")) 41 ∷ token (k.Sign 0) 43 ∷ token (k.Sign 1) 44 ∷ token (k.Sign 3) 45 ∷ token (k.Sign 6) 46 ∷ token k.End 47 ∷ []) ≡ Parsed (t.more (t.Plain (t.Value (t.Paren (t.Class (t.ClassOf 1 None t.absent t.none))) semi.Written)) (t.more (t.Plain (t.Value (t.Paren (t.Class (t.ClassOf 13 (Some (named_at 19 (codes "A"))) t.absent t.none))) semi.Written)) (t.more (t.Plain (t.Value (t.Paren (t.Class (t.ClassOf 27 None (t.present (t.Name (named_at 41 (codes "B")))) t.none))) semi.Written)) t.none)))
class_expressions = refl

-- class A {} a;
class_statement_and_a_name : answer (token (k.Keyword 4) 0 ∷ token (k.Name (codes "A")) 6 ∷ token (k.Sign 0) 8 ∷ token (k.Sign 1) 9 ∷ token (k.Name (codes "a")) 11 ∷ token (k.Sign 6) 12 ∷ token k.End 13 ∷ []) ≡ Parsed (t.more (t.Plain (t.ClassStatement (t.ClassOf 0 (Some (named_at 6 (codes "A"))) t.absent t.none))) (t.more (t.Plain (t.Value ((t.Name (named_at 11 (codes "a")))) semi.Written)) t.none))
class_statement_and_a_name = refl

-- function f() {} function g(a) {} function h(a, b,) {}
functions : answer (token (k.Keyword 18) 0 ∷ token (k.Name (codes "f")) 9 ∷ token (k.Sign 2) 10 ∷ token (k.Sign 3) 11 ∷ token (k.Sign 0) 13 ∷ token (k.Sign 1) 14 ∷ token (k.Keyword 18) 16 ∷ token (k.Name (codes "g")) 25 ∷ token (k.Sign 2) 26 ∷ token (k.Name (codes "a")) 27 ∷ token (k.Sign 3) 28 ∷ token (k.Sign 0) 30 ∷ token (k.Sign 1) 31 ∷ token (k.Keyword 18) 33 ∷ token (k.Name (codes "h")) 42 ∷ token (k.Sign 2) 43 ∷ token (k.Name (codes "a")) 44 ∷ token (k.Sign 7) 45 ∷ token (k.Name (codes "b")) 47 ∷ token (k.Sign 7) 48 ∷ token (k.Sign 3) 49 ∷ token (k.Sign 0) 51 ∷ token (k.Sign 1) 52 ∷ token k.End 53 ∷ []) ≡ Parsed (t.more (t.Plain (t.FunctionStatement (t.FunctionOf 0 (Some (named_at 9 (codes "f"))) f.Plain [] (t.BodyStatements t.none)))) (t.more (t.Plain (t.FunctionStatement (t.FunctionOf 16 (Some (named_at 25 (codes "g"))) f.Plain ((named_at 27 (codes "a")) ∷ []) (t.BodyStatements t.none)))) (t.more (t.Plain (t.FunctionStatement (t.FunctionOf 33 (Some (named_at 42 (codes "h"))) f.Plain ((named_at 44 (codes "a")) ∷ (named_at 47 (codes "b")) ∷ []) (t.BodyStatements t.none)))) t.none)))
functions = refl

-- function f() {} (a);
function_statement_and_parentheses : answer (token (k.Keyword 18) 0 ∷ token (k.Name (codes "f")) 9 ∷ token (k.Sign 2) 10 ∷ token (k.Sign 3) 11 ∷ token (k.Sign 0) 13 ∷ token (k.Sign 1) 14 ∷ token (k.Sign 2) 16 ∷ token (k.Name (codes "a")) 17 ∷ token (k.Sign 3) 18 ∷ token (k.Sign 6) 19 ∷ token k.End 20 ∷ []) ≡ Parsed (t.more (t.Plain (t.FunctionStatement (t.FunctionOf 0 (Some (named_at 9 (codes "f"))) f.Plain [] (t.BodyStatements t.none)))) (t.more (t.Plain (t.Value (t.Paren (t.Name (named_at 17 (codes "a")))) semi.Written)) t.none))
function_statement_and_parentheses = refl

-- function f() { function g() {} return g }
function_in_a_function : answer (token (k.Keyword 18) 0 ∷ token (k.Name (codes "f")) 9 ∷ token (k.Sign 2) 10 ∷ token (k.Sign 3) 11 ∷ token (k.Sign 0) 13 ∷ token (k.Keyword 18) 15 ∷ token (k.Name (codes "g")) 24 ∷ token (k.Sign 2) 25 ∷ token (k.Sign 3) 26 ∷ token (k.Sign 0) 28 ∷ token (k.Sign 1) 29 ∷ token (k.Keyword 32) 31 ∷ token (k.Name (codes "g")) 38 ∷ token (k.Sign 1) 40 ∷ token k.End 41 ∷ []) ≡ Parsed (t.more (t.Plain (t.FunctionStatement (t.FunctionOf 0 (Some (named_at 9 (codes "f"))) f.Plain [] (t.BodyStatements (t.more (t.FunctionStatement (t.FunctionOf 15 (Some (named_at 24 (codes "g"))) f.Plain [] (t.BodyStatements t.none))) (t.more (t.Return 31 (t.present (t.Name (named_at 38 (codes "g")))) semi.Missing) t.none)))))) t.none)
function_in_a_function = refl
