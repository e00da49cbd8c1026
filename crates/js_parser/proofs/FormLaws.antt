-- To build a form from what is held of its parts is to build the tree, and to hold that.
use Rattle.std.proofs.Common.{◌≡◌, ◌∙◌, ap, ap₂, refl, ℕ, suc, max, Bool, true, false, List, arith, ℤ, Option, None}
use Rattle.es_model.specs.declared.kinds.Semi.{Semi}
use Rattle.es_model.specs.declared.kinds.Semi.TheVariants as semi
use Rattle.es_model.specs.declared.kinds.FunctionKind.{FunctionKind}
use Rattle.es_model.specs.declared.kinds.FunctionKind.TheVariants as f
use Rattle.es_model.specs.declared.kinds.MemberKind.{MemberKind}
use Rattle.es_model.specs.declared.kinds.MemberKind.TheVariants as m
use Rattle.es_model.specs.declared.kinds.BinaryOperator.{BinaryOperator}
use Rattle.es_model.specs.declared.kinds.UnaryOperator.{UnaryOperator}
use Rattle.es_model.specs.declared.names.Identifier.{Identifier}
use Rattle.es_model.specs.declared.names.Pair.{Pair}
use Rattle.es_model.specs.Tree as t
use Rattle.es_model.specs.Tree.{Tree, Text}
use Rattle.es_model.specs.Nesting.{nesting}
use Rattle.parser_forms.specs.declared.parts.Part.{Part}
use Rattle.parser_forms.specs.declared.kinds.Infix.TheVariants as i
use Rattle.parser_forms.specs.declared.kinds.Prefix.TheVariants as prefix
use Rattle.parser_forms.specs.Kept.{Sorted, around, both, counted, optional}
use Rattle.js_parser.specs.Cut.{kept_at, cut}
use Rattle.parser_forms.specs.Parts as p
use Rattle.js_parser.proofs.Laws.{around_law, both_law, counted_law, one_law, two_law, cut_absent, cut_present}
use Rattle.js_parser.specs.Summary.{part_of, key_of, option_of}

-- a part with another tree
abbrev holding : Part → Sorted t.expression → Part
holding part of =
    record { of = of; at = part.at; level = part.level; is_target = part.is_target; is_nullish = part.is_nullish; is_bare_new = part.is_bare_new; has_call = part.has_call; heading = part.heading }

-- a form round three things, the first two of them first
three_law : {A B C D : Type 0} (l m n : ℕ) (make : A → B → C → D) (a : A) (b : B) (c : C) →
    both (λ form tree. form tree) (both make (kept_at l a) (kept_at m b)) (kept_at n c) ≡ kept_at (max l (max m n)) (make a b c)
three_law l m n make a b c =
    ap (λ first. both (λ form tree. form tree) first (kept_at n c)) (both_law l m make a b)
    ∙ both_law (max l m) n (λ form tree. form tree) (make a b) c
    ∙ ap (λ k. kept_at k (make a b c)) (omega arith)

counted_three : {A B C D : Type 0} (l m n : ℕ) (make : A → B → C → D) (a : A) (b : B) (c : C) →
    counted (both (λ form tree. form tree) (both make (kept_at l a) (kept_at m b)) (kept_at n c)) ≡ kept_at (suc (max l (max m n))) (make a b c)
counted_three l m n make a b c = ap counted (three_law l m n make a b c) ∙ counted_law (max l (max m n)) (make a b c)

-- a thing that may be left out
pub optional_is : {s : t.Sort} (tree : Tree (t.option s)) → optional (option_of tree) ≡ cut tree
optional_is t.absent = cut_absent
optional_is (t.present tree) = cut_present tree

-- Expressions.

pub this_is : (at : ℕ) → p.leaf t.This at ≡ part_of at t.This
unfolding nesting
this_is at = refl

pub null_is : (at : ℕ) → p.leaf t.Null at ≡ part_of at t.Null
unfolding nesting
null_is at = refl

pub true_is : (at : ℕ) → p.leaf t.True at ≡ part_of at t.True
unfolding nesting
true_is at = refl

pub false_is : (at : ℕ) → p.leaf t.False at ≡ part_of at t.False
unfolding nesting
false_is at = refl

pub number_is : (at : ℕ) (number : ℤ) → p.leaf (t.Number number) at ≡ part_of at (t.Number number)
unfolding nesting
number_is at number = refl

pub string_is : (at : ℕ) (text : Text) → p.leaf (t.String text) at ≡ part_of at (t.String text)
unfolding nesting
string_is at text = refl

pub name_is : (one : Identifier) → p.name one ≡ part_of one.at (t.Name one)
unfolding nesting
name_is one = refl

pub template_is : (at : ℕ) (texts : List Text) (values : Tree (t.list t.expression)) → p.template at texts (cut values) ≡ part_of at (t.Template texts values)
unfolding nesting
template_is at texts values = ap (holding (part_of at (t.Template texts values))) (one_law (nesting values) (t.Template texts) values)

pub array_is : (at : ℕ) (items : Tree (t.list t.expression)) → p.array at (cut items) ≡ part_of at (t.Array items)
unfolding nesting
array_is at items = ap (holding (part_of at (t.Array items))) (one_law (nesting items) t.Array items)

pub object_is : (at : ℕ) (members : Tree (t.list t.member)) → p.object at (cut members) ≡ part_of at (t.Object members)
unfolding nesting
object_is at members = ap (holding (part_of at (t.Object members))) (one_law (nesting members) t.Object members)

pub class_expression_is : (at : ℕ) (class : Tree t.class) → p.class_expression at (cut class) ≡ part_of at (t.Class class)
unfolding nesting
class_expression_is at class = ap (holding (part_of at (t.Class class))) (one_law (nesting class) t.Class class)

pub paren_is : (at place : ℕ) (e : Tree t.expression) → p.paren at (part_of place e) ≡ part_of at (t.Paren e)
unfolding nesting
paren_is at place e = ap (holding (part_of at (t.Paren e))) (one_law (nesting e) t.Paren e)

pub dot_is : (place : ℕ) (e : Tree t.expression) (text : Text) → p.dot (part_of place e) text ≡ part_of place (t.Dot e text)
unfolding nesting
dot_is place e text = ap (holding (part_of place (t.Dot e text))) (one_law (nesting e) (λ tree. t.Dot tree text) e)

pub index_is : (place at : ℕ) (e key : Tree t.expression) → p.index (part_of place e) (part_of at key) ≡ part_of place (t.Index e key)
unfolding nesting
index_is place at e key = ap (holding (part_of place (t.Index e key))) (two_law (nesting e) (nesting key) t.Index e key)

pub super_dot_is : (at : ℕ) (text : Text) → p.super_dot at text ≡ part_of at (t.SuperDot at text)
unfolding nesting
super_dot_is at text = refl

pub super_index_is : (at place : ℕ) (key : Tree t.expression) → p.super_index at (part_of place key) ≡ part_of at (t.SuperIndex at key)
unfolding nesting
super_index_is at place key = ap (holding (part_of at (t.SuperIndex at key))) (one_law (nesting key) (t.SuperIndex at) key)

pub call_is : (place : ℕ) (e : Tree t.expression) (arguments : Tree (t.list t.expression)) → p.call (part_of place e) (cut arguments) ≡ part_of place (t.Call e arguments)
unfolding nesting
call_is place e arguments = ap (holding (part_of place (t.Call e arguments))) (two_law (nesting e) (nesting arguments) t.Call e arguments)

pub super_call_is : (at : ℕ) (arguments : Tree (t.list t.expression)) → p.super_call at (cut arguments) ≡ part_of at (t.SuperCall at arguments)
unfolding nesting
super_call_is at arguments = ap (holding (part_of at (t.SuperCall at arguments))) (one_law (nesting arguments) (t.SuperCall at) arguments)

pub new_call_is : (at place : ℕ) (e : Tree t.expression) (arguments : Tree (t.list t.expression)) → p.new_call at (part_of place e) (cut arguments) ≡ part_of at (t.New e (t.present arguments))
unfolding nesting
new_call_is at place e arguments = ap (holding (part_of at (t.New e (t.present arguments)))) (two_law (nesting e) (nesting arguments) (λ tree list. t.New tree (t.present list)) e arguments)

pub bare_new_is : (at place : ℕ) (e : Tree t.expression) → p.bare_new at (part_of place e) ≡ part_of at (t.New e t.absent)
unfolding nesting
bare_new_is at place e =
    ap (holding (part_of at (t.New e t.absent))) (one_law (nesting e) (λ tree. t.New tree t.absent) e ∙ ap (λ n. kept_at n (t.New e t.absent)) (omega arith))

pub update_before_is : (at place : ℕ) (up : Bool) (e : Tree t.expression) → p.update_before at up (part_of place e) ≡ part_of at (t.Update at up true e)
unfolding nesting
update_before_is at place up e = ap (holding (part_of at (t.Update at up true e))) (one_law (nesting e) (t.Update at up true) e)

pub update_behind_is : (place : ℕ) (up : Bool) (e : Tree t.expression) → p.update_behind up (part_of place e) ≡ part_of place (t.Update place up false e)
unfolding nesting
update_behind_is place up e = ap (holding (part_of place (t.Update place up false e))) (one_law (nesting e) (t.Update place up false) e)

pub unary_is : (operator : UnaryOperator) (at place : ℕ) (e : Tree t.expression) → p.prefix_form (prefix.Unary operator) at (part_of place e) ≡ part_of at (t.Unary operator e)
unfolding nesting
unary_is operator at place e = ap (holding (part_of at (t.Unary operator e))) (one_law (nesting e) (t.Unary operator) e)

pub typeof_is : (at place : ℕ) (e : Tree t.expression) → p.prefix_form prefix.Typeof at (part_of place e) ≡ part_of at (t.Typeof e)
unfolding nesting
typeof_is at place e = ap (holding (part_of at (t.Typeof e))) (one_law (nesting e) t.Typeof e)

pub void_is : (at place : ℕ) (e : Tree t.expression) → p.prefix_form prefix.Void at (part_of place e) ≡ part_of at (t.Void e)
unfolding nesting
void_is at place e = ap (holding (part_of at (t.Void e))) (one_law (nesting e) t.Void e)

pub delete_is : (at place : ℕ) (e : Tree t.expression) → p.prefix_form prefix.Delete at (part_of place e) ≡ part_of at (t.Delete at e)
unfolding nesting
delete_is at place e = ap (holding (part_of at (t.Delete at e))) (one_law (nesting e) (t.Delete at) e)

pub binary_is : (operator : BinaryOperator) (place at : ℕ) (l r : Tree t.expression) → p.operation (i.Binary operator) (part_of place l) (part_of at r) ≡ part_of place (t.Binary operator l r)
unfolding nesting
binary_is operator place at l r = ap (holding (part_of place (t.Binary operator l r))) (two_law (nesting l) (nesting r) (t.Binary operator) l r)

pub in_is : (place at : ℕ) (l r : Tree t.expression) → p.operation i.In (part_of place l) (part_of at r) ≡ part_of place (t.In l r)
unfolding nesting
in_is place at l r = ap (holding (part_of place (t.In l r))) (two_law (nesting l) (nesting r) t.In l r)

pub instance_of_is : (place at : ℕ) (l r : Tree t.expression) → p.operation i.InstanceOf (part_of place l) (part_of at r) ≡ part_of place (t.InstanceOf l r)
unfolding nesting
instance_of_is place at l r = ap (holding (part_of place (t.InstanceOf l r))) (two_law (nesting l) (nesting r) t.InstanceOf l r)

pub and_is : (place at : ℕ) (l r : Tree t.expression) → p.operation i.And (part_of place l) (part_of at r) ≡ part_of place (t.And l r)
unfolding nesting
and_is place at l r = ap (holding (part_of place (t.And l r))) (two_law (nesting l) (nesting r) t.And l r)

pub or_is : (place at : ℕ) (l r : Tree t.expression) → p.operation i.Or (part_of place l) (part_of at r) ≡ part_of place (t.Or l r)
unfolding nesting
or_is place at l r = ap (holding (part_of place (t.Or l r))) (two_law (nesting l) (nesting r) t.Or l r)

pub nullish_is : (place at : ℕ) (l r : Tree t.expression) → p.operation i.Nullish (part_of place l) (part_of at r) ≡ part_of place (t.Nullish l r)
unfolding nesting
nullish_is place at l r = ap (holding (part_of place (t.Nullish l r))) (two_law (nesting l) (nesting r) t.Nullish l r)

pub comma_is : (place at : ℕ) (l r : Tree t.expression) → p.operation i.Comma (part_of place l) (part_of at r) ≡ part_of place (t.Comma l r)
unfolding nesting
comma_is place at l r = ap (holding (part_of place (t.Comma l r))) (two_law (nesting l) (nesting r) t.Comma l r)

pub conditional_is : (place at there : ℕ) (test one other : Tree t.expression) → p.conditional (part_of place test) (part_of at one) (part_of there other) ≡ part_of place (t.Conditional test one other)
unfolding nesting
conditional_is place at there test one other =
    ap (holding (part_of place (t.Conditional test one other))) (counted_three (nesting test) (nesting one) (nesting other) t.Conditional test one other)

pub assign_is : (place at : ℕ) (to : Tree t.expression) (operator : Option BinaryOperator) (e : Tree t.expression) → p.assign (part_of place to) operator (part_of at e) ≡ part_of place (t.Assign place to operator e)
unfolding nesting
assign_is place at to operator e =
    ap (holding (part_of place (t.Assign place to operator e))) (two_law (nesting to) (nesting e) (λ left right. t.Assign place left operator right) to e)

-- Functions and classes.

pub function_is : (at : ℕ) (own : Option Identifier) (kind : FunctionKind) (parameters : List Identifier) (statements : Tree (t.list t.statement)) →
    p.function at own kind parameters (cut statements) ≡ cut (t.FunctionOf at own kind parameters (t.BodyStatements statements))
unfolding nesting
function_is at own kind parameters statements = one_law (nesting statements) (λ list. t.FunctionOf at own kind parameters (t.BodyStatements list)) statements

pub function_expression_is : (place at : ℕ) (own : Option Identifier) (parameters : List Identifier) (statements : Tree (t.list t.statement)) →
    p.function_expression place (p.function at own f.Plain parameters (cut statements)) ≡ part_of place (t.Function (t.FunctionOf at own f.Plain parameters (t.BodyStatements statements)))
unfolding nesting
function_expression_is place at own parameters statements =
    let function : Tree t.function = t.FunctionOf at own f.Plain parameters (t.BodyStatements statements) in
    ap (p.function_expression place) (function_is at own f.Plain parameters statements)
    ∙ ap (holding (part_of place (t.Function function))) (one_law (nesting function) t.Function function)

-- an arrow whose body is a list of statements, and one whose body is an expression
pub arrow_statements_is : (place at : ℕ) (parameters : List Identifier) (statements : Tree (t.list t.statement)) →
    p.arrow_expression place (p.function at None f.Arrow parameters (cut statements)) ≡ part_of place (t.Function (t.FunctionOf at None f.Arrow parameters (t.BodyStatements statements)))
unfolding nesting
arrow_statements_is place at parameters statements =
    let function : Tree t.function = t.FunctionOf at None f.Arrow parameters (t.BodyStatements statements) in
    ap (p.arrow_expression place) (function_is at None f.Arrow parameters statements)
    ∙ ap (holding (part_of place (t.Function function))) (one_law (nesting function) t.Function function)

pub arrow_is : (at place : ℕ) (parameters : List Identifier) (e : Tree t.expression) →
    p.arrow at parameters (part_of place e) ≡ part_of at (t.Function (t.FunctionOf at None f.Arrow parameters (t.BodyExpression e)))
unfolding nesting
arrow_is at place parameters e =
    let function : Tree t.function = t.FunctionOf at None f.Arrow parameters (t.BodyExpression e) in
    ap (p.arrow_expression at) (one_law (nesting e) (λ tree. t.FunctionOf at None f.Arrow parameters (t.BodyExpression tree)) e)
    ∙ ap (holding (part_of at (t.Function function))) (one_law (nesting function) t.Function function)

pub class_is : (at : ℕ) (own : Option Identifier) (parent : Tree (t.option t.expression)) (members : Tree (t.list t.member)) →
    p.class at own (option_of parent) (cut members) ≡ cut (t.ClassOf at own parent members)
unfolding nesting
class_is at own parent members =
    ap (λ one. counted (both (t.ClassOf at own) one (cut members))) (optional_is parent) ∙ two_law (nesting parent) (nesting members) (t.ClassOf at own) parent members

-- Keys and members.

pub key_word_is : (text : Text) → p.key (t.KeyWord text) ≡ key_of (t.KeyWord text)
unfolding nesting
key_word_is text = refl

pub key_string_is : (text : Text) → p.key (t.KeyString text) ≡ key_of (t.KeyString text)
unfolding nesting
key_string_is text = refl

pub key_number_is : (number : ℤ) → p.key (t.KeyNumber number) ≡ key_of (t.KeyNumber number)
unfolding nesting
key_number_is number = refl

pub computed_key_is : (place : ℕ) (e : Tree t.expression) → p.computed_key (part_of place e) ≡ key_of (t.KeyComputed e)
unfolding nesting
computed_key_is place e = ap (λ of. record { of = of; is_constructor = false }) (around_law (nesting e) t.KeyComputed e)

pub value_member_is : (at place : ℕ) (key : Tree t.key) (e : Tree t.expression) → p.value_member at (key_of key) (part_of place e) ≡ cut (t.MemberOf at false m.Value key (t.present e) t.absent)
unfolding nesting
value_member_is at place key e =
    both_law (nesting key) (nesting e) (λ k v. t.MemberOf at false m.Value k (t.present v) t.absent) key e
    ∙ ap (λ n. kept_at n (t.MemberOf at false m.Value key (t.present e) t.absent)) (omega arith)

pub short_member_is : (one : Identifier) → p.short_member one ≡ cut (t.MemberOf one.at false m.Short (t.KeyWord one.name) t.absent t.absent)
unfolding nesting
short_member_is one = refl

pub function_member_is : (at : ℕ) (fixed : Bool) (kind : MemberKind) (key : Tree t.key) (function : Tree t.function) →
    p.function_member at fixed kind (key_of key) (cut function) ≡ cut (t.MemberOf at fixed kind key t.absent (t.present function))
unfolding nesting
function_member_is at fixed kind key function =
    both_law (nesting key) (nesting function) (λ k v. t.MemberOf at fixed kind k t.absent (t.present v)) key function
    ∙ ap (λ n. kept_at n (t.MemberOf at fixed kind key t.absent (t.present function))) (omega arith)

-- Statements.

pub empty_is : p.bare t.Empty ≡ cut t.Empty
unfolding nesting
empty_is = refl

pub break_is : (at : ℕ) (mark : Semi) → p.bare (t.Break at mark) ≡ cut (t.Break at mark)
unfolding nesting
break_is at mark = refl

pub continue_is : (at : ℕ) (mark : Semi) → p.bare (t.Continue at mark) ≡ cut (t.Continue at mark)
unfolding nesting
continue_is at mark = refl

pub value_is : (e : Tree t.expression) (mark : Semi) → p.value (cut e) mark ≡ cut (t.Value e mark)
unfolding nesting
value_is e mark = one_law (nesting e) (λ tree. t.Value tree mark) e

pub declarator_is : (own : Identifier) (initialiser : Tree (t.option t.expression)) → p.declarator own (option_of initialiser) ≡ cut (t.DeclaratorOf own initialiser)
unfolding nesting
declarator_is own initialiser = ap (around (t.DeclaratorOf own)) (optional_is initialiser) ∙ around_law (nesting initialiser) (t.DeclaratorOf own) initialiser

pub declare_is : (constant : Bool) (names : Tree (t.list t.declarator)) (mark : Semi) → p.declare constant (cut names) mark ≡ cut (t.Declare constant names mark)
unfolding nesting
declare_is constant names mark = one_law (nesting names) (λ list. t.Declare constant list mark) names

pub function_statement_is : (function : Tree t.function) → p.function_statement (cut function) ≡ cut (t.FunctionStatement function)
unfolding nesting
function_statement_is function = one_law (nesting function) t.FunctionStatement function

pub class_statement_is : (class : Tree t.class) → p.class_statement (cut class) ≡ cut (t.ClassStatement class)
unfolding nesting
class_statement_is class = one_law (nesting class) t.ClassStatement class

pub block_is : (statements : Tree (t.list t.statement)) → p.block (cut statements) ≡ cut (t.Block statements)
unfolding nesting
block_is statements = one_law (nesting statements) t.Block statements

pub choice_is : (test : Tree t.expression) (first : Tree t.statement) (other : Tree (t.option t.statement)) → p.choice (cut test) (cut first) (option_of other) ≡ cut (t.If test first other)
unfolding nesting
choice_is test first other =
    ap (λ last. counted (both (λ form tree. form tree) (both t.If (cut test) (cut first)) last)) (optional_is other)
    ∙ counted_three (nesting test) (nesting first) (nesting other) t.If test first other

pub for_loop_is : (head : Tree t.head) (test each : Tree (t.option t.expression)) (body : Tree t.statement) →
    p.for_loop (cut head) (option_of test) (option_of each) (cut body) ≡ cut (t.For head test each body)
unfolding nesting
for_loop_is head test each body =
    ap₂ (λ one two. counted (both (λ form tree. form tree) (both (λ form tree. form tree) (both t.For (cut head) one) two) (cut body))) (optional_is test) (optional_is each)
    ∙ ap (λ first. counted (both (λ form tree. form tree) first (cut body))) (three_law (nesting head) (nesting test) (nesting each) t.For head test each)
    ∙ two_law (max (nesting head) (max (nesting test) (nesting each))) (nesting body) (λ form tree. form tree) (t.For head test each) body
    ∙ ap (λ n. kept_at n (t.For head test each body)) (omega arith)

pub head_nothing_is : p.head_nothing ≡ cut t.HeadNothing
unfolding nesting
head_nothing_is = refl

pub head_value_is : (e : Tree t.expression) → p.head_value (cut e) ≡ cut (t.HeadValue e)
unfolding nesting
head_value_is e = around_law (nesting e) t.HeadValue e

pub head_declare_is : (constant : Bool) (names : Tree (t.list t.declarator)) → p.head_declare constant (cut names) ≡ cut (t.HeadDeclare constant names)
unfolding nesting
head_declare_is constant names = around_law (nesting names) (t.HeadDeclare constant) names

pub while_is : (test : Tree t.expression) (body : Tree t.statement) → p.while_loop (cut test) (cut body) ≡ cut (t.While test body)
unfolding nesting
while_is test body = two_law (nesting test) (nesting body) t.While test body

pub do_is : (body : Tree t.statement) (test : Tree t.expression) (mark : Semi) → p.do_loop (cut body) (cut test) mark ≡ cut (t.DoWhile body test mark)
unfolding nesting
do_is body test mark = two_law (nesting body) (nesting test) (λ one two. t.DoWhile one two mark) body test

pub return_is : (at : ℕ) (value : Tree (t.option t.expression)) (mark : Semi) → p.return at (option_of value) mark ≡ cut (t.Return at value mark)
unfolding nesting
return_is at value mark =
    ap (λ of. counted (around (λ tree. t.Return at tree mark) of)) (optional_is value) ∙ one_law (nesting value) (λ tree. t.Return at tree mark) value

pub throw_is : (e : Tree t.expression) (mark : Semi) → p.throw (cut e) mark ≡ cut (t.Throw e mark)
unfolding nesting
throw_is e mark = one_law (nesting e) (λ tree. t.Throw tree mark) e

pub guarded_is : (tried : Tree (t.list t.statement)) (caught : Option Identifier) (catch finally : Tree (t.option (t.list t.statement))) →
    p.guarded (cut tried) caught (option_of catch) (option_of finally) ≡ cut (t.Try tried caught catch finally)
unfolding nesting
guarded_is tried caught catch finally =
    ap₂ (λ one two. counted (both (λ form tree. form tree) (both (λ a b. t.Try a caught b) (cut tried) one) two)) (optional_is catch) (optional_is finally)
    ∙ counted_three (nesting tried) (nesting catch) (nesting finally) (λ a b. t.Try a caught b) tried catch finally

pub case_is : (test : Tree (t.option t.expression)) (body : Tree (t.list t.statement)) → p.case (option_of test) (cut body) ≡ cut (t.CaseOf test body)
unfolding nesting
case_is test body = ap (λ one. both t.CaseOf one (cut body)) (optional_is test) ∙ both_law (nesting test) (nesting body) t.CaseOf test body

pub switch_is : (e : Tree t.expression) (cases : Tree (t.list t.case)) → p.switch (cut e) (cut cases) ≡ cut (t.Switch e cases)
unfolding nesting
switch_is e cases = two_law (nesting e) (nesting cases) t.Switch e cases

-- Items.

pub plain_item_is : (statement : Tree t.statement) → p.plain_item (cut statement) ≡ cut (t.Plain statement)
unfolding nesting
plain_item_is statement = around_law (nesting statement) t.Plain statement

pub exported_item_is : (statement : Tree t.statement) → p.exported_item (cut statement) ≡ cut (t.ExportDeclaration statement)
unfolding nesting
exported_item_is statement = around_law (nesting statement) t.ExportDeclaration statement

pub default_function_is : (at : ℕ) (function : Tree t.function) → p.default_function at (cut function) ≡ cut (t.ExportDefault at (t.DefaultFunction function) semi.Missing)
unfolding nesting
default_function_is at function = around_law (nesting function) (λ tree. t.ExportDefault at (t.DefaultFunction tree) semi.Missing) function

pub default_class_is : (at : ℕ) (class : Tree t.class) → p.default_class at (cut class) ≡ cut (t.ExportDefault at (t.DefaultClass class) semi.Missing)
unfolding nesting
default_class_is at class = around_law (nesting class) (λ tree. t.ExportDefault at (t.DefaultClass tree) semi.Missing) class

pub default_value_is : (at : ℕ) (e : Tree t.expression) (mark : Semi) → p.default_value at (cut e) mark ≡ cut (t.ExportDefault at (t.DefaultValue e) mark)
unfolding nesting
default_value_is at e mark = around_law (nesting e) (λ tree. t.ExportDefault at (t.DefaultValue tree) mark) e

pub import_is : (from : Text) (list : List Pair) (mark : Semi) → p.bare_item (t.Import from list mark) ≡ cut (t.Import from list mark)
unfolding nesting
import_is from list mark = refl

pub export_from_is : (from : Text) (list : List Pair) (mark : Semi) → p.bare_item (t.ExportFrom from list mark) ≡ cut (t.ExportFrom from list mark)
unfolding nesting
export_from_is from list mark = refl

pub export_names_is : (list : List Pair) (mark : Semi) → p.bare_item (t.ExportNames list mark) ≡ cut (t.ExportNames list mark)
unfolding nesting
export_names_is list mark = refl
