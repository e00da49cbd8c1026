-- Rows of expressions: each form once, in a body with a few bindings.
use Rattle.std.proofs.Common.{◌≡◌, true, false, [], ◌∷◌, refl, pos, codes, Some, None}
use Rattle.js_value.specs.Value.{Undefined, Null, Boolean, String, Object}
use Rattle.es_model.specs.declared.kinds.BinaryOperator.TheVariants as b
use Rattle.es_model.specs.declared.kinds.MemberKind.TheVariants as m
use Rattle.es_model.specs.declared.kinds.UnaryOperator.TheVariants as u
use Rattle.es_model.specs.Tree as t
use Rattle.es_ops.specs.Messages.{text_of_message, NotDefined, NotInitialised, AssignmentToConstant, NotAFunction, NotAConstructor}
use Rattle.es_eval.proofs.Samples.{name, whole, one, two, number, gives, Gave, ThrewError, computing}

-- ---- primary expressions

-- this
this_value : gives (t.This) ≡ Gave (Object 13)
unfolding computing
this_value = refl

null_value : gives (t.Null) ≡ Gave Null
unfolding computing
null_value = refl

true_value : gives (t.True) ≡ Gave (Boolean true)
unfolding computing
true_value = refl

false_value : gives (t.False) ≡ Gave (Boolean false)
unfolding computing
false_value = refl

number_value : gives ((whole 5)) ≡ Gave (number 5)
unfolding computing
number_value = refl

string_value : gives ((t.String (codes "ab"))) ≡ Gave (String (codes "ab"))
unfolding computing
string_value = refl

in_parentheses : gives (t.Paren (whole 5)) ≡ Gave (number 5)
unfolding computing
in_parentheses = refl

-- `a${x}b`
template_value : gives (t.Template (codes "a" ∷ codes "b" ∷ []) (one (name (codes "x")))) ≡ Gave (String (codes "a5b"))
unfolding computing
template_value = refl

-- `a`
template_without_values : gives (t.Template (codes "a" ∷ []) t.none) ≡ Gave (String (codes "a"))
unfolding computing
template_without_values = refl

-- ---- names

own_name : gives ((name (codes "x"))) ≡ Gave (number 5)
unfolding computing
own_name = refl

uninitialised_name : gives ((name (codes "u"))) ≡ ThrewError (text_of_message NotInitialised)
unfolding computing
uninitialised_name = refl

kept_name : gives ((name (codes "k"))) ≡ Gave (number 6)
unfolding computing
kept_name = refl

uninitialised_cell : gives ((name (codes "n"))) ≡ ThrewError (text_of_message NotInitialised)
unfolding computing
uninitialised_cell = refl

imported_name : gives ((name (codes "i"))) ≡ Gave (number 6)
unfolding computing
imported_name = refl

undefined_is_global : gives ((name (codes "undefined"))) ≡ Gave Undefined
unfolding computing
undefined_is_global = refl

unknown_name : gives ((name (codes "z"))) ≡ ThrewError (text_of_message NotDefined)
unfolding computing
unknown_name = refl

-- ---- members

-- o.a
dot_member : gives (t.Dot (name (codes "o")) (codes "a")) ≡ Gave (number 1)
unfolding computing
dot_member = refl

-- p.a
inherited_member : gives (t.Dot (name (codes "p")) (codes "a")) ≡ Gave (number 1)
unfolding computing
inherited_member = refl

-- o["a"]
index_member : gives (t.Index (name (codes "o")) (t.String (codes "a"))) ≡ Gave (number 1)
unfolding computing
index_member = refl

-- super.a, of the prototype of the home object
super_member : gives (t.SuperDot 0 (codes "a")) ≡ Gave (number 1)
unfolding computing
super_member = refl

-- super["a"]
super_index : gives (t.SuperIndex 0 (t.String (codes "a"))) ≡ Gave (number 1)
unfolding computing
super_index = refl

-- [x, 6][1]
element : gives (t.Index (t.Array (two (name (codes "x")) (whole 6))) (whole 1)) ≡ Gave (number 6)
unfolding computing
element = refl

-- { a: 1, b: x }.b
property : gives (t.Dot (t.Object (two (t.MemberOf 0 false m.Value (t.KeyWord (codes "a")) (t.present (whole 1)) t.absent) (t.MemberOf 0 false m.Value (t.KeyString (codes "b")) (t.present (name (codes "x"))) t.absent))) (codes "b")) ≡ Gave (number 5)
unfolding computing
property = refl

-- { x }.x
short_property : gives (t.Dot (t.Object (one (t.MemberOf 0 false m.Short (t.KeyWord (codes "x")) t.absent t.absent))) (codes "x")) ≡ Gave (number 5)
unfolding computing
short_property = refl

-- { 1: 2 }["1"]
number_key : gives (t.Index (t.Object (one (t.MemberOf 0 false m.Value (t.KeyNumber (pos 1)) (t.present (whole 2)) t.absent))) (t.String (codes "1"))) ≡ Gave (number 2)
unfolding computing
number_key = refl

-- { ["a" + "b"]: 2 }.ab
computed_key : gives (t.Dot (t.Object (one (t.MemberOf 0 false m.Value (t.KeyComputed (t.Binary b.Add (t.String (codes "a")) (t.String (codes "b")))) (t.present (whole 2)) t.absent))) (codes "ab")) ≡ Gave (number 2)
unfolding computing
computed_key = refl

-- ---- operators

-- x + 2
sum_of_numbers : gives (t.Binary b.Add (name (codes "x")) (whole 2)) ≡ Gave (number 7)
unfolding computing
sum_of_numbers = refl

-- x < 2
less : gives (t.Binary b.Less (name (codes "x")) (whole 2)) ≡ Gave (Boolean false)
unfolding computing
less = refl

-- !null
negated : gives (t.Unary u.Not t.Null) ≡ Gave (Boolean true)
unfolding computing
negated = refl

-- typeof x
type_of_value : gives (t.Typeof (name (codes "x"))) ≡ Gave (String (codes "number"))
unfolding computing
type_of_value = refl

-- typeof z, of a name that is not defined
type_of_unknown : gives (t.Typeof (name (codes "z"))) ≡ Gave (String (codes "undefined"))
unfolding computing
type_of_unknown = refl

-- typeof u
type_of_uninitialised : gives (t.Typeof (name (codes "u"))) ≡ ThrewError (text_of_message NotInitialised)
unfolding computing
type_of_uninitialised = refl

-- void x
void_value : gives (t.Void (name (codes "x"))) ≡ Gave Undefined
unfolding computing
void_value = refl

-- (delete o.a, o.a)
deleted_member : gives (t.Comma (t.Delete 0 (t.Dot (name (codes "o")) (codes "a"))) (t.Dot (name (codes "o")) (codes "a"))) ≡ Gave Undefined
unfolding computing
deleted_member = refl

-- delete 1
delete_of_value : gives (t.Delete 0 (whole 1)) ≡ Gave (Boolean true)
unfolding computing
delete_of_value = refl

-- "a" in p
in_object : gives (t.In (t.String (codes "a")) (name (codes "p"))) ≡ Gave (Boolean true)
unfolding computing
in_object = refl

-- null && z: the second operand is not evaluated
and_short : gives (t.And t.Null (name (codes "z"))) ≡ Gave Null
unfolding computing
and_short = refl

-- x && 1
and_long : gives (t.And (name (codes "x")) (whole 1)) ≡ Gave (number 1)
unfolding computing
and_long = refl

-- x || z
or_short : gives (t.Or (name (codes "x")) (name (codes "z"))) ≡ Gave (number 5)
unfolding computing
or_short = refl

-- null || 1
or_long : gives (t.Or t.Null (whole 1)) ≡ Gave (number 1)
unfolding computing
or_long = refl

-- false ?? z
nullish_short : gives (t.Nullish t.False (name (codes "z"))) ≡ Gave (Boolean false)
unfolding computing
nullish_short = refl

-- null ?? 1
nullish_long : gives (t.Nullish t.Null (whole 1)) ≡ Gave (number 1)
unfolding computing
nullish_long = refl

-- x ? 1 : z
conditional_true : gives (t.Conditional (name (codes "x")) (whole 1) (name (codes "z"))) ≡ Gave (number 1)
unfolding computing
conditional_true = refl

-- null ? z : 2
conditional_false : gives (t.Conditional t.Null (name (codes "z")) (whole 2)) ≡ Gave (number 2)
unfolding computing
conditional_false = refl

-- ---- assignments

-- (x = 8, x)
assigned : gives (t.Comma (t.Assign 0 (name (codes "x")) None (whole 8)) (name (codes "x"))) ≡ Gave (number 8)
unfolding computing
assigned = refl

-- x = 8
assignment_value : gives (t.Assign 0 (name (codes "x")) None (whole 8)) ≡ Gave (number 8)
unfolding computing
assignment_value = refl

-- c = 8
assigned_const : gives (t.Assign 0 (name (codes "c")) None (whole 8)) ≡ ThrewError (text_of_message AssignmentToConstant)
unfolding computing
assigned_const = refl

-- u = 8
assigned_uninitialised : gives (t.Assign 0 (name (codes "u")) None (whole 8)) ≡ ThrewError (text_of_message NotInitialised)
unfolding computing
assigned_uninitialised = refl

-- k = 8
assigned_const_cell : gives (t.Assign 0 (name (codes "k")) None (whole 8)) ≡ ThrewError (text_of_message AssignmentToConstant)
unfolding computing
assigned_const_cell = refl

-- i = 8
assigned_import : gives (t.Assign 0 (name (codes "i")) None (whole 8)) ≡ ThrewError (text_of_message AssignmentToConstant)
unfolding computing
assigned_import = refl

-- z = 8
assigned_unknown : gives (t.Assign 0 (name (codes "z")) None (whole 8)) ≡ ThrewError (text_of_message NotDefined)
unfolding computing
assigned_unknown = refl

-- c = z: the value comes before the fault of the name
value_before_fault : gives (t.Assign 0 (name (codes "c")) None (name (codes "z"))) ≡ ThrewError (text_of_message NotDefined)
unfolding computing
value_before_fault = refl

-- x += 2
added : gives (t.Assign 0 (name (codes "x")) (Some b.Add) (whole 2)) ≡ Gave (number 7)
unfolding computing
added = refl

-- (o.a = 8, o["a"])
assigned_member : gives (t.Comma (t.Assign 0 (t.Dot (name (codes "o")) (codes "a")) None (whole 8)) (t.Index (name (codes "o")) (t.String (codes "a")))) ≡ Gave (number 8)
unfolding computing
assigned_member = refl

-- (o.a += 8, o.a)
added_member : gives (t.Comma (t.Assign 0 (t.Dot (name (codes "o")) (codes "a")) (Some b.Add) (whole 8)) (t.Dot (name (codes "o")) (codes "a"))) ≡ Gave (number 9)
unfolding computing
added_member = refl

-- ((x) = 8, x)
assigned_in_parentheses : gives (t.Comma (t.Assign 0 (t.Paren (name (codes "x"))) None (whole 8)) (name (codes "x"))) ≡ Gave (number 8)
unfolding computing
assigned_in_parentheses = refl

-- (super.a = 8, this.a): it is the property of `this` that changes
assigned_super : gives (t.Comma (t.Assign 0 (t.SuperDot 0 (codes "a")) None (whole 8)) (t.Dot t.This (codes "a"))) ≡ Gave (number 8)
unfolding computing
assigned_super = refl

-- ++x
prefix_up : gives (t.Update 0 true true (name (codes "x"))) ≡ Gave (number 6)
unfolding computing
prefix_up = refl

-- x++
postfix_up : gives (t.Update 0 true false (name (codes "x"))) ≡ Gave (number 5)
unfolding computing
postfix_up = refl

-- (x++, x)
postfix_up_then : gives (t.Comma (t.Update 0 true false (name (codes "x"))) (name (codes "x"))) ≡ Gave (number 6)
unfolding computing
postfix_up_then = refl

-- (o.a--, o.a)
postfix_down_then : gives (t.Comma (t.Update 0 false false (t.Dot (name (codes "o")) (codes "a"))) (t.Dot (name (codes "o")) (codes "a"))) ≡ Gave (number 0)
unfolding computing
postfix_down_then = refl

-- ---- calls of what is no function

-- x(): a TypeError
call_of_number : gives (t.Call (name (codes "x")) t.none) ≡ ThrewError (text_of_message NotAFunction)
unfolding computing
call_of_number = refl

-- x(z): the arguments come before the fault of the callee
arguments_before_fault : gives (t.Call (name (codes "x")) (one (name (codes "z")))) ≡ ThrewError (text_of_message NotDefined)
unfolding computing
arguments_before_fault = refl

-- new x
new_of_number : gives (t.New (name (codes "x")) t.absent) ≡ ThrewError (text_of_message NotAConstructor)
unfolding computing
new_of_number = refl
