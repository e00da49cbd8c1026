-- What each form takes, as `SpellingParts` puts it: at least one token, as many closing signs as opening
-- ones, no End, and the places of its functions within those of its tokens, in their order.
use Rattle.std.proofs.Common.{ℕ, ◌<◌, Bool, true, false, List, length, Option, refl, sym, append-nil, arith}
use lib.IntN.{ℤ}
use Rattle.es_model.specs.declared.kinds.Semi.{Semi}
use Rattle.es_model.specs.declared.kinds.FunctionKind.{FunctionKind}
use Rattle.es_model.specs.declared.kinds.MemberKind.{MemberKind}
use Rattle.es_model.specs.declared.kinds.BinaryOperator.{BinaryOperator}
use Rattle.es_model.specs.declared.kinds.UnaryOperator.{UnaryOperator}
use Rattle.es_model.specs.declared.names.Identifier.{Identifier}
use Rattle.es_model.specs.declared.names.Pair.{Pair}
use Rattle.es_model.specs.declared.token.TokenKind.TheVariants as k
use Rattle.es_model.specs.Tree as t
use Rattle.es_model.specs.Tree.{Tree, Text}
use Rattle.es_model.specs.Functions.{Written, functions, inner, writes_constructor}
use Rattle.es_model.specs.Levels.{operator_sign, unary_sign}
use Rattle.es_model.specs.Readings.{Tokens, may_miss, may_miss_bare, may_miss_after_do, may_miss_after_export}
use Rattle.es_model.specs.Spelling as s
use Rattle.es_model.specs.Spelling.{Spells}
use Rattle.es_model.proofs.SpellingParts.{along, seq, behind, loose, once, under, nothing_reads, one_reads, one_starts, the_name_reads, name_reads, number_weighs, string_weighs, plain, comma, opening_parenthesis, closing_parenthesis, in_parentheses, in_brackets, in_braces, then_in_parentheses, operator_weighs, unary_weighs, assigning_reads, step_reads, declaring_word_reads, written_reads, semicolon_reads, class_name_reads, catch_name_reads, separated_read, joined_reads, maybe_reads, pieces_read, braces_read, guard_reads, object_members_read, class_members_read, expression_function_reads, statement_function_reads, default_function_reads, class_reads, exported_from_reads, exported_reads, braced_reads, import_list_reads, module_name_reads, property_reads, property_starts, arguments_read, bare_member_reads, with_function_reads, computed_reads, word_this, word_null, word_true, word_false, word_point, word_super, word_new, word_typeof, word_void, word_delete, word_in, word_instanceof, word_and, word_or, word_nullish, word_question, word_colon, word_extends, word_equals, word_if, word_else, word_for, word_while, word_do, word_break, word_continue, word_return, word_throw, word_try, word_catch, word_finally, word_switch, word_default, word_case, word_import, word_export}
pub use Rattle.es_model.proofs.SpellingParts.{Within, Read, Reads, Starts, Weighs, kind_weighs, Each, Takes, sequence_reads, Claim}

abbrev IsRead : {s : t.Sort} → Tree s → Type 0
IsRead {s} tree = Claim s (functions tree) (Spells tree)

-- One lemma for each form, from those of its parts, so that each is checked once and alone.

number_form : (value : ℤ) → IsRead (t.Number value)
unfolding Spells functions inner
number_form value = one_reads _ 0 0 (λ token e. kind_weighs 0 0 token.kind (k.Number value) (number_weighs value) e)

string_form : (text : Text) → IsRead (t.String text)
unfolding Spells functions inner
string_form text = one_reads _ 0 0 (λ token e. kind_weighs 0 0 token.kind (k.String text) (string_weighs text) e)

template_form : (texts : List Text) (values : Tree (t.list t.expression)) → IsRead values → IsRead (t.Template texts values)
unfolding Spells functions inner
template_form texts values values_reads = pieces_read true texts (functions values) (Spells values) values_reads

array_form : (items : Tree (t.list t.expression)) → IsRead items → IsRead (t.Array items)
unfolding Spells functions inner
array_form items items_reads = in_brackets (under _ (separated_read (functions items) (Spells items) items_reads))

object_form : (members : Tree (t.list t.member)) → IsRead members → IsRead (t.Object members)
unfolding Spells functions inner
object_form members members_reads = in_braces (object_members_read (functions members) (Spells members) members_reads)

dot_form : (of : Tree t.expression) (text : Text) → IsRead of → IsRead (t.Dot of text)
unfolding Spells functions inner
dot_form of text of_reads = once (behind (under _ of_reads) (seq word_point (property_reads text)))

index_form : (of key : Tree t.expression) → IsRead of → IsRead key → IsRead (t.Index of key)
unfolding Spells functions inner
index_form of key of_reads key_reads = once (seq (under _ of_reads) (in_brackets key_reads))

super_dot_form : (at : ℕ) (text : Text) → IsRead (t.SuperDot at text)
unfolding Spells functions inner
super_dot_form at text = under _ (once (seq word_super (seq word_point (property_reads text))))

super_index_form : (at : ℕ) (key : Tree t.expression) → IsRead key → IsRead (t.SuperIndex at key)
unfolding Spells functions inner
super_index_form at key key_reads = under _ (once (seq word_super (in_brackets key_reads)))

call_form : (callee : Tree t.expression) (arguments : Tree (t.list t.expression)) → IsRead callee → IsRead arguments → IsRead (t.Call callee arguments)
unfolding Spells functions inner
call_form callee arguments callee_reads arguments_reads = once (seq (under _ callee_reads) (arguments_read _ (functions arguments) (Spells arguments) arguments_reads))

bare_new_form : (callee : Tree t.expression) → IsRead callee → IsRead (t.New callee t.absent)
unfolding Spells functions inner
bare_new_form callee callee_reads = along (sym (append-nil (functions callee))) (once (seq word_new (under _ callee_reads)))

new_form : (callee : Tree t.expression) (arguments : Tree (t.list t.expression)) → IsRead callee → IsRead arguments → IsRead (t.New callee (t.present arguments))
unfolding Spells functions inner
new_form callee arguments callee_reads arguments_reads = once (seq word_new (seq (under _ (under _ callee_reads)) (arguments_read _ (functions arguments) (Spells arguments) arguments_reads)))

super_call_form : (at : ℕ) (arguments : Tree (t.list t.expression)) → IsRead arguments → IsRead (t.SuperCall at arguments)
unfolding Spells functions inner
super_call_form at arguments arguments_reads = under _ (once (seq word_super (arguments_read _ (functions arguments) (Spells arguments) arguments_reads)))

update_form : (at : ℕ) (up : Bool) (of : Tree t.expression) → IsRead of → IsRead (t.Update at up true of)
unfolding Spells functions inner
update_form at up of of_reads = under _ (once (seq (step_reads up) (under _ of_reads)))

postfix_update_form : (at : ℕ) (up : Bool) (of : Tree t.expression) → IsRead of → IsRead (t.Update at up false of)
unfolding Spells functions inner
postfix_update_form at up of of_reads = under _ (once (behind (under _ of_reads) (under _ (step_reads up))))

unary_form : (operator : UnaryOperator) (of : Tree t.expression) → IsRead of → IsRead (t.Unary operator of)
unfolding Spells functions inner
unary_form operator of of_reads = once (seq (plain (unary_sign operator) (unary_weighs operator)) (under _ of_reads))

typeof_form : (of : Tree t.expression) → IsRead of → IsRead (t.Typeof of)
unfolding Spells functions inner
typeof_form of of_reads = once (seq word_typeof (under _ of_reads))

void_form : (of : Tree t.expression) → IsRead of → IsRead (t.Void of)
unfolding Spells functions inner
void_form of of_reads = once (seq word_void (under _ of_reads))

delete_form : (at : ℕ) (of : Tree t.expression) → IsRead of → IsRead (t.Delete at of)
unfolding Spells functions inner
delete_form at of of_reads = under _ (once (seq word_delete (under _ of_reads)))

binary_form : (operator : BinaryOperator) (left right : Tree t.expression) → IsRead left → IsRead right → IsRead (t.Binary operator left right)
unfolding Spells functions inner
binary_form operator left right left_reads right_reads = once (seq (under _ left_reads) (seq (plain (operator_sign operator) (operator_weighs operator)) (under _ right_reads)))

in_form : (left right : Tree t.expression) → IsRead left → IsRead right → IsRead (t.In left right)
unfolding Spells functions inner
in_form left right left_reads right_reads = once (seq (under _ left_reads) (seq word_in (under _ right_reads)))

instance_of_form : (left right : Tree t.expression) → IsRead left → IsRead right → IsRead (t.InstanceOf left right)
unfolding Spells functions inner
instance_of_form left right left_reads right_reads = once (seq (under _ left_reads) (seq word_instanceof (under _ right_reads)))

and_form : (left right : Tree t.expression) → IsRead left → IsRead right → IsRead (t.And left right)
unfolding Spells functions inner
and_form left right left_reads right_reads = once (seq (under _ left_reads) (seq word_and (under _ right_reads)))

or_form : (left right : Tree t.expression) → IsRead left → IsRead right → IsRead (t.Or left right)
unfolding Spells functions inner
or_form left right left_reads right_reads = once (seq (under _ (under _ left_reads)) (seq word_or (under _ right_reads)))

nullish_form : (left right : Tree t.expression) → IsRead left → IsRead right → IsRead (t.Nullish left right)
unfolding Spells functions inner
nullish_form left right left_reads right_reads = once (seq (under _ left_reads) (seq word_nullish (under _ right_reads)))

conditional_form : (test one other : Tree t.expression) → IsRead test → IsRead one → IsRead other → IsRead (t.Conditional test one other)
unfolding Spells functions inner
conditional_form test one other test_reads one_reads other_reads = once (seq (under _ test_reads) (seq word_question (seq (under _ one_reads) (seq word_colon (under _ other_reads)))))

assign_form : (at : ℕ) (to : Tree t.expression) (operator : Option BinaryOperator) (value : Tree t.expression) → IsRead to → IsRead value → IsRead (t.Assign at to operator value)
unfolding Spells functions inner
assign_form at to operator value to_reads value_reads = under _ (once (seq (under _ to_reads) (seq (assigning_reads operator) (under _ value_reads))))

comma_form : (left right : Tree t.expression) → IsRead left → IsRead right → IsRead (t.Comma left right)
unfolding Spells functions inner
comma_form left right left_reads right_reads = once (seq left_reads (seq comma (under _ right_reads)))

key_string_form : (text : Text) → IsRead (t.KeyString text)
unfolding Spells functions inner
key_string_form text = (one_reads _ 0 0 (λ token e. kind_weighs 0 0 token.kind (k.String text) (string_weighs text) e), one_starts _ 0 0 (λ token e. kind_weighs 0 0 token.kind (k.String text) (string_weighs text) e))

key_number_form : (value : ℤ) → IsRead (t.KeyNumber value)
unfolding Spells functions inner
key_number_form value = (one_reads _ 0 0 (λ token e. kind_weighs 0 0 token.kind (k.Number value) (number_weighs value) e), one_starts _ 0 0 (λ token e. kind_weighs 0 0 token.kind (k.Number value) (number_weighs value) e))

key_computed_form : (key : Tree t.expression) → IsRead key → IsRead (t.KeyComputed key)
unfolding Spells functions inner
key_computed_form key key_reads = computed_reads (under _ key_reads)

bare_member_of_form : (at : ℕ) (fixed : Bool) (kind : MemberKind) (key : Tree t.key) (value : Tree (t.option t.expression)) → IsRead key → IsRead value → IsRead (t.MemberOf at fixed kind key value t.absent)
unfolding Spells functions inner
bare_member_of_form at fixed kind key value key_reads value_reads = λ holder. under _ (bare_member_reads holder at fixed kind key (functions value) (Spells key) (Spells value) key_reads value_reads)

member_of_form : (at : ℕ) (fixed : Bool) (kind : MemberKind) (key : Tree t.key) (value : Tree (t.option t.expression)) (place : ℕ) (own : Option Identifier) (due : FunctionKind) (parameters : List Identifier) (body : Tree t.body) → IsRead key → IsRead value → IsRead body → IsRead (t.MemberOf at fixed kind key value (t.present (t.FunctionOf place own due parameters body)))
unfolding Spells functions inner
member_of_form at fixed kind key value place own due parameters body key_reads value_reads body_reads = λ holder. under _ (with_function_reads (Written (t.FunctionOf place own due parameters body)) holder at fixed kind key (functions value) (Spells key) (Spells value) own due parameters (Spells body) key_reads value_reads (body_reads false))

function_of_form : (at : ℕ) (own : Option Identifier) (kind : FunctionKind) (parameters : List Identifier) (body : Tree t.body) → IsRead body → IsRead (t.FunctionOf at own kind parameters body)
unfolding Spells functions inner
function_of_form at own kind parameters body body_reads = let form = Written (t.FunctionOf at own kind parameters body) in (expression_function_reads form own kind parameters (Spells body) body_reads, statement_function_reads form own kind parameters (Spells body) body_reads, default_function_reads form own kind parameters (Spells body) body_reads)

body_statements_form : (statements : Tree (t.list t.statement)) → IsRead statements → IsRead (t.BodyStatements statements)
unfolding Spells functions inner
body_statements_form statements statements_reads = λ arrow. braces_read (functions statements) (Spells statements) statements_reads

body_expression_form : (value : Tree t.expression) → IsRead value → IsRead (t.BodyExpression value)
unfolding Spells functions inner
body_expression_form value value_reads = λ arrow. under _ (under _ (under _ value_reads))

bare_class_of_form : (at : ℕ) (own : Option Identifier) (members : Tree (t.list t.member)) → IsRead members → IsRead (t.ClassOf at own t.absent members)
unfolding Spells functions inner
bare_class_of_form at own members members_reads = λ named. class_reads (writes_constructor members) (t.ClassOf at own t.absent members) (loose (seq (class_name_reads named own) (in_braces (class_members_read false (functions members) (Spells members) members_reads))))

class_of_form : (at : ℕ) (own : Option Identifier) (parent : Tree t.expression) (members : Tree (t.list t.member)) → IsRead parent → IsRead members → IsRead (t.ClassOf at own (t.present parent) members)
unfolding Spells functions inner
class_of_form at own parent members parent_reads members_reads = λ named. class_reads (writes_constructor members) (t.ClassOf at own (t.present parent) members) (loose (seq (class_name_reads named own) (seq word_extends (seq (under _ parent_reads) (in_braces (class_members_read true (functions members) (Spells members) members_reads))))))

value_form : (value : Tree t.expression) (semi : Semi) → IsRead value → IsRead (t.Value value semi)
unfolding Spells functions inner
value_form value semi value_reads = once (behind (under _ value_reads) (semicolon_reads may_miss semi))

declare_form : (constant : Bool) (declarators : Tree (t.list t.declarator)) (semi : Semi) → IsRead declarators → IsRead (t.Declare constant declarators semi)
unfolding Spells functions inner
declare_form constant declarators semi declarators_reads = under _ (once (seq (declaring_word_reads constant) (behind (joined_reads (functions declarators) (Spells declarators) declarators_reads) (semicolon_reads may_miss semi))))

declarator_of_form : (identifier : Identifier) (value : Tree t.expression) → IsRead value → IsRead (t.DeclaratorOf identifier (t.present value))
unfolding Spells functions inner
declarator_of_form identifier value value_reads = once (seq (name_reads identifier) (seq word_equals (under _ value_reads)))

block_form : (statements : Tree (t.list t.statement)) → IsRead statements → IsRead (t.Block statements)
unfolding Spells functions inner
block_form statements statements_reads = braces_read (functions statements) (Spells statements) statements_reads

bare_if_form : (test : Tree t.expression) (one : Tree t.statement) → IsRead test → IsRead one → IsRead (t.If test one t.absent)
unfolding Spells functions inner
bare_if_form test one test_reads one_reads = once (seq word_if (then_in_parentheses test_reads (along (sym (append-nil (functions one))) (under _ one_reads))))

if_form : (test : Tree t.expression) (one other : Tree t.statement) → IsRead test → IsRead one → IsRead other → IsRead (t.If test one (t.present other))
unfolding Spells functions inner
if_form test one other test_reads one_reads other_reads = once (seq word_if (then_in_parentheses test_reads (seq (under _ (under _ one_reads)) (seq word_else (under _ other_reads)))))

for_form : (head : Tree t.head) (test each : Tree (t.option t.expression)) (body : Tree t.statement) → IsRead head → IsRead test → IsRead each → IsRead body → IsRead (t.For head test each body)
unfolding Spells functions inner
for_form head test each body head_reads test_reads each_reads body_reads = once (seq word_for (seq opening_parenthesis (seq head_reads (seq written_reads (seq (maybe_reads (functions test) (Spells test) test_reads) (seq written_reads (seq (maybe_reads (functions each) (Spells each) each_reads) (seq closing_parenthesis (under _ body_reads)))))))))

head_declare_form : (constant : Bool) (declarators : Tree (t.list t.declarator)) → IsRead declarators → IsRead (t.HeadDeclare constant declarators)
unfolding Spells functions inner
head_declare_form constant declarators declarators_reads = loose (under _ (seq (declaring_word_reads constant) (joined_reads (functions declarators) (Spells declarators) declarators_reads)))

while_form : (test : Tree t.expression) (body : Tree t.statement) → IsRead test → IsRead body → IsRead (t.While test body)
unfolding Spells functions inner
while_form test body test_reads body_reads = once (seq word_while (then_in_parentheses test_reads (under _ body_reads)))

do_while_form : (body : Tree t.statement) (test : Tree t.expression) (semi : Semi) → IsRead body → IsRead test → IsRead (t.DoWhile body test semi)
unfolding Spells functions inner
do_while_form body test semi body_reads test_reads = once (seq word_do (seq (under _ body_reads) (seq word_while (along (append-nil (functions test)) (then_in_parentheses test_reads (semicolon_reads may_miss_after_do semi))))))

break_form : (at : ℕ) (semi : Semi) → IsRead (t.Break at semi)
unfolding Spells functions inner
break_form at semi = under _ (once (seq word_break (semicolon_reads may_miss_bare semi)))

continue_form : (at : ℕ) (semi : Semi) → IsRead (t.Continue at semi)
unfolding Spells functions inner
continue_form at semi = under _ (once (seq word_continue (semicolon_reads may_miss_bare semi)))

bare_return_form : (at : ℕ) (semi : Semi) → IsRead (t.Return at t.absent semi)
unfolding Spells functions inner
bare_return_form at semi = under _ (once (seq word_return (semicolon_reads may_miss_bare semi)))

return_form : (at : ℕ) (value : Tree t.expression) (semi : Semi) → IsRead value → IsRead (t.Return at (t.present value) semi)
unfolding Spells functions inner
return_form at value semi value_reads = under _ (once (seq word_return (behind (under _ value_reads) (semicolon_reads may_miss semi))))

throw_form : (value : Tree t.expression) (semi : Semi) → IsRead value → IsRead (t.Throw value semi)
unfolding Spells functions inner
throw_form value semi value_reads = once (seq word_throw (behind (under _ value_reads) (semicolon_reads may_miss semi)))

try_form : (block : Tree (t.list t.statement)) (caught : Option Identifier) (catch finally : Tree (t.option (t.list t.statement))) → IsRead block → IsRead catch → IsRead finally → IsRead (t.Try block caught catch finally)
unfolding Spells functions inner
try_form block caught catch finally block_reads catch_reads finally_reads = under _ (once (seq word_try (seq (braces_read (functions block) (Spells block) block_reads) (seq (guard_reads (loose (seq word_catch (catch_name_reads caught))) (functions catch) (Spells catch) catch_reads) (guard_reads (loose word_finally) (functions finally) (Spells finally) finally_reads)))))

switch_form : (value : Tree t.expression) (cases : Tree (t.list t.case)) → IsRead value → IsRead cases → IsRead (t.Switch value cases)
unfolding Spells functions inner
switch_form value cases value_reads cases_reads = under _ (once (seq word_switch (then_in_parentheses value_reads (braces_read (functions cases) (Spells cases) cases_reads))))

bare_case_of_form : (body : Tree (t.list t.statement)) → IsRead body → IsRead (t.CaseOf t.absent body)
unfolding Spells functions inner
bare_case_of_form body body_reads = once (seq word_default (seq word_colon (sequence_reads (functions body) (Spells body) body_reads)))

case_of_form : (test : Tree t.expression) (body : Tree (t.list t.statement)) → IsRead test → IsRead body → IsRead (t.CaseOf (t.present test) body)
unfolding Spells functions inner
case_of_form test body test_reads body_reads = once (seq word_case (seq test_reads (seq word_colon (sequence_reads (functions body) (Spells body) body_reads))))

default_function_form : (function : Tree t.function) → IsRead function → IsRead (t.DefaultFunction function)
unfolding Spells functions inner
default_function_form function function_reads = λ mark. under _ function_reads.2

default_class_form : (class : Tree t.class) → IsRead class → IsRead (t.DefaultClass class)
unfolding Spells functions inner
default_class_form class class_reads = λ mark. under _ (class_reads false)

default_value_form : (value : Tree t.expression) → IsRead value → IsRead (t.DefaultValue value)
unfolding Spells functions inner
default_value_form value value_reads = λ mark. once (behind (under _ (under _ value_reads)) (semicolon_reads may_miss mark))

import_form : (from : Text) (list : List Pair) (semi : Semi) → IsRead (t.Import from list semi)
unfolding Spells functions inner
import_form from list semi = once (seq word_import (seq (import_list_reads list) (seq (module_name_reads from) (semicolon_reads may_miss semi))))

export_from_form : (from : Text) (list : List Pair) (semi : Semi) → IsRead (t.ExportFrom from list semi)
unfolding Spells functions inner
export_from_form from list semi = once (seq word_export (seq (braced_reads s.exported_from exported_from_reads list) (seq (the_name_reads "from") (seq (module_name_reads from) (semicolon_reads may_miss semi)))))

export_names_form : (list : List Pair) (semi : Semi) → IsRead (t.ExportNames list semi)
unfolding Spells functions inner
export_names_form list semi = once (seq word_export (seq (braced_reads s.exported exported_reads list) (semicolon_reads may_miss_after_export semi)))

export_declaration_form : (statement : Tree t.statement) → IsRead statement → IsRead (t.ExportDeclaration statement)
unfolding Spells functions inner
export_declaration_form statement statement_reads = once (seq word_export (under _ statement_reads))

export_default_form : (at : ℕ) (value : Tree t.default) (semi : Semi) → IsRead value → IsRead (t.ExportDefault at value semi)
unfolding Spells functions inner
export_default_form at value semi value_reads = once (seq word_export (under _ (seq word_default (value_reads semi))))

pub reads : {s : t.Sort} → (tree : Tree s) → Claim s (functions tree) (Spells tree)
unfolding Spells functions inner
reads t.none = refl
reads (t.more tree trees) = (functions tree, functions trees, refl, reads tree, reads trees)
reads t.absent = refl
reads (t.present tree) = reads tree
reads t.This = word_this
reads t.Null = word_null
reads t.True = word_true
reads t.False = word_false
reads (t.Name identifier) = name_reads identifier
reads (t.Number value) = number_form value
reads (t.String text) = string_form text
reads (t.Template texts values) = template_form texts values (reads values)
reads (t.Array items) = array_form items (reads items)
reads (t.Object members) = object_form members (reads members)
reads (t.Function function) = (reads function).0
reads (t.Class class) = reads class false
reads (t.Paren of) = in_parentheses (reads of)
reads (t.Dot of text) = dot_form of text (reads of)
reads (t.Index of key) = index_form of key (reads of) (reads key)
reads (t.SuperDot at text) = super_dot_form at text
reads (t.SuperIndex at key) = super_index_form at key (reads key)
reads (t.Call callee arguments) = call_form callee arguments (reads callee) (reads arguments)
reads (t.New callee t.absent) = bare_new_form callee (reads callee)
reads (t.New callee (t.present arguments)) = new_form callee arguments (reads callee) (reads arguments)
reads (t.SuperCall at arguments) = super_call_form at arguments (reads arguments)
reads (t.Update at up true of) = update_form at up of (reads of)
reads (t.Update at up false of) = postfix_update_form at up of (reads of)
reads (t.Unary operator of) = unary_form operator of (reads of)
reads (t.Typeof of) = typeof_form of (reads of)
reads (t.Void of) = void_form of (reads of)
reads (t.Delete at of) = delete_form at of (reads of)
reads (t.Binary operator left right) = binary_form operator left right (reads left) (reads right)
reads (t.In left right) = in_form left right (reads left) (reads right)
reads (t.InstanceOf left right) = instance_of_form left right (reads left) (reads right)
reads (t.And left right) = and_form left right (reads left) (reads right)
reads (t.Or left right) = or_form left right (reads left) (reads right)
reads (t.Nullish left right) = nullish_form left right (reads left) (reads right)
reads (t.Conditional test one other) = conditional_form test one other (reads test) (reads one) (reads other)
reads (t.Assign at to operator value) = assign_form at to operator value (reads to) (reads value)
reads (t.Comma left right) = comma_form left right (reads left) (reads right)
reads (t.KeyWord text) = (property_reads text, property_starts text)
reads (t.KeyString text) = key_string_form text
reads (t.KeyNumber value) = key_number_form value
reads (t.KeyComputed key) = key_computed_form key (reads key)
reads (t.MemberOf at fixed kind key value t.absent) = bare_member_of_form at fixed kind key value (reads key) (reads value)
reads (t.MemberOf at fixed kind key value (t.present (t.FunctionOf place own due parameters body))) = member_of_form at fixed kind key value place own due parameters body (reads key) (reads value) (reads body)
reads (t.FunctionOf at own kind parameters body) = function_of_form at own kind parameters body (reads body)
reads (t.BodyStatements statements) = body_statements_form statements (reads statements)
reads (t.BodyExpression value) = body_expression_form value (reads value)
reads (t.ClassOf at own t.absent members) = bare_class_of_form at own members (reads members)
reads (t.ClassOf at own (t.present parent) members) = class_of_form at own parent members (reads parent) (reads members)
reads t.Empty = written_reads
reads (t.Value value semi) = value_form value semi (reads value)
reads (t.Declare constant declarators semi) = declare_form constant declarators semi (reads declarators)
reads (t.DeclaratorOf identifier t.absent) = name_reads identifier
reads (t.DeclaratorOf identifier (t.present value)) = declarator_of_form identifier value (reads value)
reads (t.FunctionStatement function) = (reads function).1
reads (t.ClassStatement class) = reads class true
reads (t.Block statements) = block_form statements (reads statements)
reads (t.If test one t.absent) = bare_if_form test one (reads test) (reads one)
reads (t.If test one (t.present other)) = if_form test one other (reads test) (reads one) (reads other)
reads (t.For head test each body) = for_form head test each body (reads head) (reads test) (reads each) (reads body)
reads t.HeadNothing = nothing_reads
reads (t.HeadValue value) = loose (reads value)
reads (t.HeadDeclare constant declarators) = head_declare_form constant declarators (reads declarators)
reads (t.While test body) = while_form test body (reads test) (reads body)
reads (t.DoWhile body test semi) = do_while_form body test semi (reads body) (reads test)
reads (t.Break at semi) = break_form at semi
reads (t.Continue at semi) = continue_form at semi
reads (t.Return at t.absent semi) = bare_return_form at semi
reads (t.Return at (t.present value) semi) = return_form at value semi (reads value)
reads (t.Throw value semi) = throw_form value semi (reads value)
reads (t.Try block caught catch finally) = try_form block caught catch finally (reads block) (reads catch) (reads finally)
reads (t.Switch value cases) = switch_form value cases (reads value) (reads cases)
reads (t.CaseOf t.absent body) = bare_case_of_form body (reads body)
reads (t.CaseOf (t.present test) body) = case_of_form test body (reads test) (reads body)
reads (t.DefaultFunction function) = default_function_form function (reads function)
reads (t.DefaultClass class) = default_class_form class (reads class)
reads (t.DefaultValue value) = default_value_form value (reads value)
reads (t.Import from list semi) = import_form from list semi
reads (t.ExportFrom from list semi) = export_from_form from list semi
reads (t.ExportNames list semi) = export_names_form list semi
reads (t.ExportDeclaration statement) = export_declaration_form statement (reads statement)
reads (t.ExportDefault at value semi) = export_default_form at value semi (reads value)
reads (t.Plain statement) = reads statement

-- a statement, and so each item of a module, takes at least one token
pub statement_takes : (statement : Tree t.statement) (from to : Tokens) → Spells statement from to → length to < length from
statement_takes statement from to h = omega (arith, (reads statement from to h).fewer)

pub expression_takes : (expression : Tree t.expression) (from to : Tokens) → Spells expression from to → length to < length from
expression_takes expression from to h = omega (arith, (reads expression from to h).fewer)
