-- The early rules (ECMA-262, 13 to 16, with the language's own rules). Each rule is a list of the
-- places where it fails; a module's fault is the one with the least place, then the least rule.
use Rattle.std.specs.Prelude.{ℕ, Bool, true, false, not, ◌&&◌, ◌||◌, ◌==◌, nat_lt, nat_le, List, [], ◌∷◌, ◌++◌, map, codes, ℤ, pos, negsuc, Option, Some, None}
use Rattle.std.specs.List.{list_any, list_all}
use Rattle.es_model.specs.declared.faults.EarlyFault.{EarlyFault}
use Rattle.es_model.specs.declared.faults.EarlyFault.TheVariants.{DuplicateName, DuplicateExport, ExportUndeclared, ReservedName, GlobalAssigned, StrayBreak, StrayContinue, StrayReturn, StraySuper, DeleteName, DuplicateConstructor, IndexAccessor}
use Rattle.es_model.specs.declared.kinds.FunctionKind.{FunctionKind}
use Rattle.es_model.specs.declared.kinds.FunctionKind.TheVariants as f
use Rattle.es_model.specs.declared.kinds.MemberKind.{MemberKind}
use Rattle.es_model.specs.declared.kinds.MemberKind.TheVariants as m
use Rattle.es_model.specs.declared.names.Identifier.{Identifier}
use Rattle.es_model.specs.declared.names.Pair.{Pair}
use Rattle.es_model.specs.Tokens.{same_text, is_digit, number_after}
use Rattle.es_model.specs.Tree as t
use Rattle.es_model.specs.Tree.{Tree, Text}
use Rattle.es_model.specs.Scopes.{Enclosing, Binding, Setting, gather, find_binding, named, declared, declared_by, declared_in, declared_in_cases, declared_by_head, declared_by_body, declared_by_catch, given_names, written, top_declared, imports, top_setting}

abbrev pub Places : Type 0
Places = List ℕ

abbrev where_true : Bool → ℕ → Places
where_true true at = at ∷ []
where_true false at = []

abbrev is_among : Text → List Identifier → Bool
is_among name names = list_any (λ one. same_text name one.name) names

-- the places of the names of a list that stand in it before, or among some names
abbrev repeated_after : List Identifier → List Identifier → Places
repeated_after before [] = []
repeated_after before (one ∷ names) = where_true (is_among one.name before) one.at ++ repeated_after (one ∷ before) names

abbrev pub repeated : List Identifier → Places
repeated names = repeated_after [] names

-- E1: two bindings of one name in one scope.
abbrev pub duplicate_names : {s : t.Sort} → Setting → Tree s → Places
duplicate_names g (t.FunctionOf at name kind parameters body) = repeated (parameters ++ declared_by_body body)
duplicate_names g (t.Block statements) = repeated (declared statements)
duplicate_names g (t.For head test step body) = repeated (declared_by_head head)
duplicate_names g (t.Try block caught catch finally) = repeated (declared block) ++ (repeated (declared_by_catch caught catch) ++ repeated (declared_in finally))
duplicate_names g (t.Switch value cases) = repeated (declared_in_cases cases)
duplicate_names g _ = []

-- The names that a module exports, with their places; of a default export the word `default`.
abbrev pub exported_by : Tree t.item → List Identifier
exported_by (t.ExportFrom source pairs semi) = given_names pairs
exported_by (t.ExportNames pairs semi) = given_names pairs
exported_by (t.ExportDeclaration statement) = declared_by statement
exported_by (t.ExportDefault at value semi) = record { at = at; name = codes "default" } ∷ []
exported_by _ = []

abbrev pub exports : Tree (t.list t.item) → List Identifier
exports t.none = []
exports (t.more item items) = exported_by item ++ exports items

-- E2: one exported name twice.
abbrev pub duplicate_exports : Tree (t.list t.item) → Places
duplicate_exports items = repeated (exports items)

-- E3: `export {a}` without a binding or an import of a at the top.
abbrev unbound_in : List Identifier → List Pair → Places
unbound_in bound [] = []
unbound_in bound (pair ∷ pairs) = where_true (not (is_among pair.taken.name bound)) pair.taken.at ++ unbound_in bound pairs

abbrev undeclared_by : List Identifier → Tree t.item → Places
undeclared_by bound (t.ExportNames pairs semi) = unbound_in bound pairs
undeclared_by bound _ = []

abbrev undeclared_after : List Identifier → Tree (t.list t.item) → Places
undeclared_after bound t.none = []
undeclared_after bound (t.more item items) = undeclared_by bound item ++ undeclared_after bound items

abbrev pub undeclared_exports : Tree (t.list t.item) → Places
undeclared_exports items = undeclared_after (top_declared items ++ imports items) items

-- E4: a binding of, or a reference to, one of five names; `__proto__: value` in an object literal.
abbrev pub is_reserved : Text → Bool
is_reserved name = list_any (same_text name) (codes "eval" ∷ codes "arguments" ∷ codes "globalThis" ∷ codes "NaN" ∷ codes "Infinity" ∷ [])

abbrev pub reserved : List Identifier → Places
reserved [] = []
reserved (one ∷ names) = where_true (is_reserved one.name) one.at ++ reserved names

abbrev pub is_written : Text → Tree t.key → Bool
is_written name (t.KeyWord text) = same_text text name
is_written name (t.KeyString text) = same_text text name
is_written name _ = false

abbrev reserved_member : MemberKind → ℕ → Tree t.key → Places
reserved_member m.Value at key = where_true (is_written (codes "__proto__") key) at
reserved_member m.Short at (t.KeyWord name) = where_true (is_reserved name) at
reserved_member _ at key = []

abbrev pub reserved_names : {s : t.Sort} → Setting → Tree s → Places
reserved_names g (t.Name name) = reserved (name ∷ [])
reserved_names g (t.MemberOf at fixed kind key value function) = reserved_member kind at key
reserved_names g (t.FunctionOf at name kind parameters body) = reserved (named name ++ parameters)
reserved_names g (t.ClassOf at name parent members) = reserved (named name)
reserved_names g (t.DeclaratorOf name value) = reserved (name ∷ [])
reserved_names g (t.Import source pairs semi) = reserved (given_names pairs)
reserved_names g _ = []

-- E5: an assignment to, or an update of, a name that isn't bound there.
abbrev is_unbound : Option Binding → Bool
is_unbound None = true
is_unbound (Some binding) = false

abbrev pub assigns_global : Setting → Tree t.expression → Bool
assigns_global g (t.Name name) = is_unbound (find_binding name.name g.sees)
assigns_global g (t.Paren of) = assigns_global g of
assigns_global g _ = false

abbrev pub globals_assigned : {s : t.Sort} → Setting → Tree s → Places
globals_assigned g (t.Assign at target operator value) = where_true (assigns_global g target) at
globals_assigned g (t.Update at up prefix target) = where_true (assigns_global g target) at
globals_assigned g _ = []

-- E6, E7 and E8: `break` outside loops and switches, `continue` outside loops, each within its
-- function, and `return` outside functions.
abbrev pub stray_breaks : {s : t.Sort} → Setting → Tree s → Places
stray_breaks g (t.Break at semi) = where_true (not g.in_switch) at
stray_breaks g _ = []

abbrev pub stray_continues : {s : t.Sort} → Setting → Tree s → Places
stray_continues g (t.Continue at semi) = where_true (not g.in_loop) at
stray_continues g _ = []

abbrev is_outside : List Enclosing → Bool
is_outside [] = true
is_outside (one ∷ rest) = false

abbrev pub stray_returns : {s : t.Sort} → Setting → Tree s → Places
stray_returns g (t.Return at value semi) = where_true (is_outside g.round) at
stray_returns g _ = []

-- E9: `super.x` outside methods, accessors and constructors of classes, or `super(..)` outside
-- derived constructors; both in arrows.
abbrev kind_has_super : FunctionKind → Bool
kind_has_super f.Method = true
kind_has_super f.Getter = true
kind_has_super f.Setter = true
kind_has_super f.Base = true
kind_has_super f.Derived = true
kind_has_super f.Plain = false
kind_has_super f.Arrow = false

abbrev has_super : List Enclosing → Bool
has_super [] = false
has_super (one ∷ rest) = kind_has_super one.kind

abbrev kind_calls_super : FunctionKind → Bool
kind_calls_super f.Derived = true
kind_calls_super _ = false

abbrev calls_super : List Enclosing → Bool
calls_super [] = false
calls_super (one ∷ rest) = kind_calls_super one.kind

abbrev pub stray_supers : {s : t.Sort} → Setting → Tree s → Places
stray_supers g (t.SuperDot at name) = where_true (not (has_super g.round)) at
stray_supers g (t.SuperIndex at key) = where_true (not (has_super g.round)) at
stray_supers g (t.SuperCall at arguments) = where_true (not (calls_super g.round)) at
stray_supers g _ = []

-- E10: `delete` of a name or a super member, also in parentheses.
abbrev pub is_undeletable : Tree t.expression → Bool
is_undeletable (t.Name name) = true
is_undeletable (t.SuperDot at name) = true
is_undeletable (t.SuperIndex at key) = true
is_undeletable (t.Paren of) = is_undeletable of
is_undeletable _ = false

abbrev pub names_deleted : {s : t.Sort} → Setting → Tree s → Places
names_deleted g (t.Delete at of) = where_true (is_undeletable of) at
names_deleted g _ = []

-- E11: in a class, a second constructor, an accessor named `constructor` that isn't static, a static
-- member named `prototype`.
abbrev is_accessor : MemberKind → Bool
is_accessor m.Getter = true
is_accessor m.Setter = true
is_accessor _ = false

-- a member written as its class's constructor
abbrev pub is_written_constructor : Tree t.member → Bool
is_written_constructor (t.MemberOf at fixed kind key value function) = not fixed && not (is_accessor kind) && is_written (codes "constructor") key

abbrev is_misnamed : Bool → MemberKind → Tree t.key → Bool
is_misnamed true kind key = is_written (codes "prototype") key
is_misnamed false kind key = is_accessor kind && is_written (codes "constructor") key

abbrev misnamed : Tree t.member → Places
misnamed (t.MemberOf at fixed kind key value function) = where_true (is_misnamed fixed kind key) at

abbrev place_of_member : Tree t.member → ℕ
place_of_member (t.MemberOf at fixed kind key value function) = at

-- among the members of a class; `seen` says that a constructor came before
abbrev constructors_after : Bool → Tree (t.list t.member) → Places
constructors_after seen t.none = []
constructors_after seen (t.more member members) =
    (where_true (seen && is_written_constructor member) (place_of_member member) ++ misnamed member) ++ constructors_after (seen || is_written_constructor member) members

abbrev pub duplicate_constructors : {s : t.Sort} → Setting → Tree s → Places
duplicate_constructors g (t.ClassOf at name parent members) = constructors_after false members
duplicate_constructors g _ = []

-- E12: an accessor whose written key is an array index, a canonical numeric text of 0 to 4294967294.
abbrev pub is_index_text : Text → Bool
is_index_text [] = false
is_index_text (c ∷ []) = is_digit c
is_index_text (c ∷ (d ∷ rest)) = not (c == 48) && list_all is_digit (c ∷ d ∷ rest) && nat_le (number_after 0 10 (c ∷ d ∷ rest)) 4294967294

abbrev is_index_number : ℤ → Bool
is_index_number (pos n) = nat_le n 4294967294
is_index_number (negsuc n) = false

abbrev pub is_index_key : Tree t.key → Bool
is_index_key (t.KeyWord text) = is_index_text text
is_index_key (t.KeyString text) = is_index_text text
is_index_key (t.KeyNumber value) = is_index_number value
is_index_key (t.KeyComputed key) = false

abbrev pub index_accessors : {s : t.Sort} → Setting → Tree s → Places
index_accessors g (t.MemberOf at fixed kind key value function) = where_true (is_accessor kind && is_index_key key) at
index_accessors g _ = []

-- All places where rules fail, with the rules' numbers, from 1.

pub record Failure : Type 0 where
  pub at : ℕ
  pub rule : ℕ
  pub fault : EarlyFault

abbrev pub numbered : ℕ → (ℕ → EarlyFault) → Places → List Failure
numbered rule fault places = map (λ at. record { at = at; rule = rule; fault = fault at }) places

-- the places where a rule fails at the nodes of a module
abbrev pub at_nodes : ((s : t.Sort) → Setting → Tree s → Places) → Tree (t.list t.item) → Places
at_nodes rule items = gather (record { at_node = rule; at_catch = λ g name. [] }) (top_setting items) items

-- the same of reserved names, which a catch may bind too
abbrev pub all_reserved_names : Tree (t.list t.item) → Places
all_reserved_names items = gather (record { at_node = λ s g tree. reserved_names {s = s} g tree; at_catch = λ g name. reserved (named name) }) (top_setting items) items

unfoldable pub failures : Tree (t.list t.item) → List Failure
failures items =
    numbered 1 DuplicateName (repeated (written items) ++ at_nodes (λ s g tree. duplicate_names {s = s} g tree) items)
    ++ numbered 2 DuplicateExport (duplicate_exports items)
    ++ numbered 3 ExportUndeclared (undeclared_exports items)
    ++ numbered 4 ReservedName (all_reserved_names items)
    ++ numbered 5 GlobalAssigned (at_nodes (λ s g tree. globals_assigned {s = s} g tree) items)
    ++ numbered 6 StrayBreak (at_nodes (λ s g tree. stray_breaks {s = s} g tree) items)
    ++ numbered 7 StrayContinue (at_nodes (λ s g tree. stray_continues {s = s} g tree) items)
    ++ numbered 8 StrayReturn (at_nodes (λ s g tree. stray_returns {s = s} g tree) items)
    ++ numbered 9 StraySuper (at_nodes (λ s g tree. stray_supers {s = s} g tree) items)
    ++ numbered 10 DeleteName (at_nodes (λ s g tree. names_deleted {s = s} g tree) items)
    ++ numbered 11 DuplicateConstructor (at_nodes (λ s g tree. duplicate_constructors {s = s} g tree) items)
    ++ numbered 12 IndexAccessor (at_nodes (λ s g tree. index_accessors {s = s} g tree) items)

-- the least place, then the least rule
abbrev pub is_before : Failure → Failure → Bool
is_before one other = nat_lt one.at other.at || ((one.at == other.at) && nat_lt one.rule other.rule)

abbrev pub least_of : Failure → List Failure → Failure
least_of one [] = one
least_of one (other ∷ rest) = elim (is_before other one) [ true ↦ least_of other rest | false ↦ least_of one rest ]

abbrev pub first_of : List Failure → Option EarlyFault
first_of [] = None
first_of (one ∷ rest) = Some (least_of one rest).fault

-- The early rule that a module breaks first, if any: the failing rule with the least place, then the
-- least number.
abbrev pub early : Tree (t.list t.item) → Option EarlyFault
early items = first_of (failures items)
