-- Each child of an expression or a statement is smaller than it, by `tree_size` (own).
use Rattle.std.specs.Prelude.{ℕ, ◌+◌, ◌≤◌, Bool, List, [], ◌∷◌, map, Option, Some, None, Box}
use Rattle.std.specs.declared.alloc.Global.{Global}
use Rattle.std.proofs.Common.{arith}
use denote.Param.Weighed.{most}
use Rattle.es_model.specs.declared.kinds.MemberKind.{MemberKind}
use Rattle.es_model.specs.declared.names.Identifier.{Identifier}
use Rattle.es_model.specs.declared.tree.ExpressionForm.{ExpressionForm}
use Rattle.es_model.specs.declared.tree.StatementForm.{StatementForm}
use Rattle.es_model.specs.declared.tree.ExpressionForm.TheVariants as e
use Rattle.es_model.specs.declared.tree.StatementForm.TheVariants as s
use Rattle.es_model.specs.declared.tree.Key.{Key}
use Rattle.es_model.specs.declared.tree.Key.TheVariants as k
use Rattle.es_model.specs.declared.tree.FunctionBody.{FunctionBody}
use Rattle.es_model.specs.declared.tree.FunctionBody.TheVariants as b
use Rattle.es_model.specs.declared.tree.Head.{Head}
use Rattle.es_model.specs.declared.tree.Head.TheVariants as h
use Rattle.es_model.specs.declared.tree.Function.{Function}
use Rattle.es_model.specs.declared.tree.Member.{Member}
use Rattle.es_model.specs.declared.tree.Declarator.{Declarator}
use Rattle.es_model.specs.declared.tree.Case.{Case}
use Rattle.es_model.specs.declared.tree.Expression.TheDeep.{deep-ExpressionForm, deep-StatementForm, deep-Key, deep-FunctionBody, deep-Head, deep-Function, deep-Class, deep-Member, deep-Declarator, deep-Case}
use Rattle.es_model.specs.Tree as t
use Rattle.es_model.specs.Tree.{Tree, listed, tree_size}
use Rattle.es_model.specs.View.{expression_of, statement_of, key_of, body_of, head_of, function_of, class_of, member_of, declarator_of, case_of}

most_listed : {s : t.Sort} → (l : List (Tree s)) → most (λ a. tree_size a + 1) l ≤ tree_size (listed l)
most_listed [] = omega arith
most_listed (a ∷ l) = omega (arith, most_listed l)

key_falls : (a : Key) → deep-Key a ≤ tree_size (key_of a)
key_falls (k.Word a) = omega arith
key_falls (k.String a) = omega arith
key_falls (k.Number a) = omega arith
key_falls (k.Computed a) = omega arith

body_falls : (a : FunctionBody) → deep-FunctionBody a ≤ tree_size (body_of a)
body_falls (b.Statements a) = omega (arith, most_listed a)
body_falls (b.Expression a) = omega arith

function_falls : (a : Function) → deep-Function a ≤ tree_size (function_of a)
function_falls a = omega (arith, body_falls a.body)

member_parts : (at : ℕ) (fixed : Bool) (kind : MemberKind) (key : Key) (value : Option (Box (Tree t.expression) Global)) (function : Option (Box Function Global)) → deep-Member (record { at = at; fixed = fixed; kind = kind; key = key; value = value; function = function }) ≤ tree_size (member_of (record { at = at; fixed = fixed; kind = kind; key = key; value = value; function = function }))
member_parts at fixed kind key None None = omega (arith, key_falls key)
member_parts at fixed kind key None (Some f) = omega (arith, key_falls key, function_falls f.value)
member_parts at fixed kind key (Some a) None = omega (arith, key_falls key)
member_parts at fixed kind key (Some a) (Some f) = omega (arith, key_falls key, function_falls f.value)

members_fall : (l : List Member) → most (λ a. deep-Member a) l ≤ tree_size (listed (map member_of l))
members_fall [] = omega arith
members_fall (a ∷ l) = omega (arith, members_fall l, member_parts a.at a.fixed a.kind a.key a.value a.function)

class_parts : (at : ℕ) (name : Option Identifier) (parent : Option (Box (Tree t.expression) Global)) (members : List Member) → deep-Class (record { at = at; name = name; parent = parent; members = members }) ≤ tree_size (class_of (record { at = at; name = name; parent = parent; members = members }))
class_parts at name None members = omega (arith, members_fall members)
class_parts at name (Some a) members = omega (arith, members_fall members)

declarator_parts : (name : Identifier) (value : Option (Box (Tree t.expression) Global)) → deep-Declarator (record { name = name; value = value }) ≤ tree_size (declarator_of (record { name = name; value = value }))
declarator_parts name None = omega arith
declarator_parts name (Some a) = omega arith

declarators_fall : (l : List Declarator) → most (λ a. deep-Declarator a) l ≤ tree_size (listed (map declarator_of l))
declarators_fall [] = omega arith
declarators_fall (a ∷ l) = omega (arith, declarators_fall l, declarator_parts a.name a.value)

case_parts : (test : Option (Box (Tree t.expression) Global)) (body : List (Tree t.statement)) → deep-Case (record { test = test; body = body }) ≤ tree_size (case_of (record { test = test; body = body }))
case_parts None body = omega (arith, most_listed body)
case_parts (Some a) body = omega (arith, most_listed body)

cases_fall : (l : List Case) → most (λ a. deep-Case a) l ≤ tree_size (listed (map case_of l))
cases_fall [] = omega arith
cases_fall (a ∷ l) = omega (arith, cases_fall l, case_parts a.test a.body)

head_falls : (a : Head) → deep-Head a ≤ tree_size (head_of a)
head_falls h.Nothing = omega arith
head_falls (h.Value a) = omega arith
head_falls (h.Declare c a) = omega (arith, declarators_fall a)

pub expression_falls : (f : ExpressionForm) → deep-ExpressionForm f ≤ tree_size (expression_of f)
expression_falls (e.Template a l) = omega (arith, most_listed l)
expression_falls (e.Array l) = omega (arith, most_listed l)
expression_falls (e.Object a) = omega (arith, members_fall a)
expression_falls (e.Function a) = omega (arith, function_falls a.value)
expression_falls (e.Class a) = omega (arith, class_parts a.value.at a.value.name a.value.parent a.value.members)
expression_falls (e.Call a l) = omega (arith, most_listed l)
expression_falls (e.New a None) = omega arith
expression_falls (e.New a (Some l)) = omega (arith, most_listed l)
expression_falls (e.SuperCall a l) = omega (arith, most_listed l)
expression_falls _ = omega arith

pub statement_falls : (f : StatementForm) → deep-StatementForm f ≤ tree_size (statement_of f)
statement_falls (s.Declare c l x) = omega (arith, declarators_fall l)
statement_falls (s.Function a) = omega (arith, function_falls a.value)
statement_falls (s.Class a) = omega (arith, class_parts a.value.at a.value.name a.value.parent a.value.members)
statement_falls (s.Block l) = omega (arith, most_listed l)
statement_falls (s.If a x None) = omega arith
statement_falls (s.If a x (Some y)) = omega arith
statement_falls (s.For a None None x) = omega (arith, head_falls a.value)
statement_falls (s.For a None (Some c) x) = omega (arith, head_falls a.value)
statement_falls (s.For a (Some c) None x) = omega (arith, head_falls a.value)
statement_falls (s.For a (Some c) (Some d) x) = omega (arith, head_falls a.value)
statement_falls (s.Return a None x) = omega arith
statement_falls (s.Return a (Some b) x) = omega arith
statement_falls (s.Try l n None None) = omega (arith, most_listed l)
statement_falls (s.Try l n None (Some c)) = omega (arith, most_listed l, most_listed c)
statement_falls (s.Try l n (Some c) None) = omega (arith, most_listed l, most_listed c)
statement_falls (s.Try l n (Some c) (Some d)) = omega (arith, most_listed l, most_listed c, most_listed d)
statement_falls (s.Switch a l) = omega (arith, cases_fall l)
statement_falls _ = omega arith
