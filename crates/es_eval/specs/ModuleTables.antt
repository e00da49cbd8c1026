-- What evaluation knows of a module beside its trees: its functions by number, which bindings are captured, its top-level
-- bindings, and its record in the graph (ECMA-262 16.2.1.6). All of it is said by es_model; here it stands side by side.
use Rattle.std.specs.Prelude.{ℕ, suc, ◌==◌, ◌&&◌, Bool, true, false, not, cond, List, [], ◌∷◌, ◌++◌, map, length, Option, Some, None, codes}
use Rattle.std.specs.List.{list_any}
use Rattle.js_value.specs.Value.{same_text}
use Rattle.es_model.specs.declared.kinds.FunctionKind.{FunctionKind}
use Rattle.es_model.specs.declared.kinds.FunctionKind.TheVariants as f
use Rattle.es_model.specs.declared.names.Identifier.{Identifier}
use Rattle.es_model.specs.declared.names.Pair.{Pair}
use Rattle.es_model.specs.Tree as t
use Rattle.es_model.specs.Tree.{Tree, Text}
use Rattle.es_model.specs.Functions.{FunctionForm, Written, Generated, functions}
use Rattle.es_model.specs.Scopes.{Enclosing, Binding, top_bindings, find_binding, declared_by, default_names}
use Rattle.es_model.specs.FreeNames.{Mention, mentions, outside, distinct_after, receiver, in_arrow, same_binding, meant, index_of, round_of, Held, places, captured}
use Rattle.es_ops.specs.State.{FunctionSort, OnlyCalled, CalledAndConstructed, OnlyConstructed}
use Rattle.es_ops.specs.ModuleGraph.{ModuleRecord, ModuleImport, ModuleExport, LocalExport, IndirectExport}

-- ---- functions

-- A function of a module: its form, the functions round its own text with itself, innermost first, its free names, what its
-- places hold, and whether it has a `this` of its own that is captured. The body is number 0, and has no form.
pub record FunctionRow : Type 0 where
  pub form : Option FunctionForm
  pub number : ℕ
  pub round : List Enclosing
  pub free : List Binding
  pub held : List Held
  pub keeps_this : Bool

-- ---- captured bindings: those that a function within their own mentions

abbrev pub captured_by : List Mention → List Binding
captured_by [] = []
captured_by (one ∷ rest) = elim (meant one.what) [
  | Some binding ↦ cond (length one.round == length binding.lies) (captured_by rest) (binding ∷ captured_by rest)
  | None ↦ captured_by rest
]

abbrev pub is_among : Binding → List Binding → Bool
is_among binding bindings = list_any (same_binding binding) bindings

-- ---- the rows of functions

abbrev pub free_in : List Mention → List Enclosing → List Binding
free_in all [] = []
free_in all (one ∷ round) = distinct_after [] (outside one.at all)

abbrev pub row_in : Tree (t.list t.item) → List Mention → (captured : List Binding) → (number : ℕ) → Option FunctionForm → List Enclosing → FunctionRow
row_in items all captured number form round = record {
  form = form;
  number = number;
  round = round;
  free = free_in all round;
  held = places items round;
  keeps_this = not (in_arrow round) && is_among (receiver round) captured;
}

abbrev pub round_or_none : Option (List Enclosing) → List Enclosing
round_or_none None = []
round_or_none (Some round) = round

abbrev pub rows_from : Tree (t.list t.item) → List Mention → (captured : List Binding) → (number : ℕ) → List FunctionForm → List FunctionRow
rows_from items all captured number [] = []
rows_from items all captured number (form ∷ forms) =
    row_in items all captured number (Some form) (round_or_none (round_of items number)) ∷ rows_from items all captured (suc number) forms

-- ---- requests, imports and exports

abbrev pub request : Tree t.item → List Text
request (t.Import source pairs semi) = source ∷ []
request (t.ExportFrom source pairs semi) = source ∷ []
request _ = []

abbrev pub requests : Tree (t.list t.item) → List Text
requests t.none = []
requests (t.more item items) = request item ++ requests items

-- each text once, at its first place
abbrev pub distinct_texts : (before : List Text) → List Text → List Text
distinct_texts before [] = []
distinct_texts before (text ∷ texts) =
    cond (list_any (same_text text) before) (distinct_texts before texts) (text ∷ distinct_texts (text ∷ before) texts)

abbrev pub import_of : Text → Pair → ModuleImport
import_of source pair = record { request = source; name = pair.taken.name }

abbrev pub imports_by : Tree t.item → List ModuleImport
imports_by (t.Import source pairs semi) = map (import_of source) pairs
imports_by _ = []

abbrev pub module_imports : Tree (t.list t.item) → List ModuleImport
module_imports t.none = []
module_imports (t.more item items) = imports_by item ++ module_imports items

-- the number of a name among the top-level bindings
abbrev pub top_number : List Binding → Text → ℕ
top_number tops name = elim (find_binding name tops) [ Some binding ↦ index_of binding tops | None ↦ 0 ]

abbrev pub own_export : List Binding → Identifier → ModuleExport
own_export tops name = LocalExport name.name (top_number tops name.name)

-- the import that binds a name
abbrev pub first_import : Option ModuleImport → Option ModuleImport → Option ModuleImport
first_import (Some one) other = Some one
first_import None other = other

abbrev pub import_among : Text → (source : Text) → List Pair → Option ModuleImport
import_among name source [] = None
import_among name source (pair ∷ pairs) = cond (same_text pair.given.name name) (Some (import_of source pair)) (import_among name source pairs)

abbrev pub import_named : Text → Tree (t.list t.item) → Option ModuleImport
import_named name t.none = None
import_named name (t.more (t.Import source pairs semi) items) = first_import (import_among name source pairs) (import_named name items)
import_named name (t.more item items) = import_named name items

-- an exported import is what its module exports (16.2.1.7.1, step 11)
abbrev pub export_by : List Binding → Pair → Option ModuleImport → ModuleExport
export_by tops pair None = LocalExport pair.given.name (top_number tops pair.taken.name)
export_by tops pair (Some one) = IndirectExport pair.given.name one.request one.name

abbrev pub exports_by : Tree (t.list t.item) → List Binding → Tree t.item → List ModuleExport
exports_by all tops (t.ExportFrom source pairs semi) = map (λ pair. IndirectExport pair.given.name source pair.taken.name) pairs
exports_by all tops (t.ExportNames pairs semi) = map (λ pair. export_by tops pair (import_named pair.taken.name all)) pairs
exports_by all tops (t.ExportDeclaration statement) = map (own_export tops) (declared_by statement)
exports_by all tops (t.ExportDefault at value semi) = map (λ name. LocalExport (codes "default") (top_number tops name.name)) (default_names at value)
exports_by all tops _ = []

abbrev pub exports_among : Tree (t.list t.item) → List Binding → Tree (t.list t.item) → List ModuleExport
exports_among all tops t.none = []
exports_among all tops (t.more item items) = exports_by all tops item ++ exports_among all tops items

abbrev pub module_record : (name : Text) → Tree (t.list t.item) → ModuleRecord
module_record name items = record {
  name = name;
  is_new = true;
  requests = distinct_texts [] (requests items);
  imports = module_imports items;
  exports = exports_among items (top_bindings items) items;
}

-- ---- top-level bindings: true for a const one. A default export that has no name of its own is one.

abbrev pub constants_of_declarators : Bool → Tree (t.list t.declarator) → List Bool
constants_of_declarators constant t.none = []
constants_of_declarators constant (t.more one rest) = constant ∷ constants_of_declarators constant rest

abbrev pub constants_by_statement : Tree t.statement → List Bool
constants_by_statement (t.Declare constant declarators semi) = constants_of_declarators constant declarators
constants_by_statement (t.FunctionStatement function) = false ∷ []
constants_by_statement (t.ClassStatement class) = false ∷ []
constants_by_statement _ = []

abbrev pub constant_by_default : Tree t.default → Bool
constant_by_default (t.DefaultFunction (t.FunctionOf at (Some name) kind parameters body)) = false
constant_by_default (t.DefaultClass (t.ClassOf at (Some name) parent members)) = false
constant_by_default _ = true

abbrev pub constants_by : Tree t.item → List Bool
constants_by (t.ExportDeclaration statement) = constants_by_statement statement
constants_by (t.ExportDefault at value semi) = constant_by_default value ∷ []
constants_by (t.Plain statement) = constants_by_statement statement
constants_by _ = []

abbrev pub constants : Tree (t.list t.item) → List Bool
constants t.none = []
constants (t.more item items) = constants_by item ++ constants items

-- ---- a module

pub record ModuleTable : Type 0 where
  pub name : Text
  pub items : Tree (t.list t.item)
  pub graph : ModuleRecord
  pub rows : List FunctionRow  -- by number
  pub captured : List Binding
  pub tops : List Binding  -- its declarations, then its imports
  pub constants : List Bool  -- of its declarations

abbrev pub table_with : (name : Text) → Tree (t.list t.item) → List Mention → (captured : List Binding) → ModuleTable
table_with name items all captured = record {
  name = name;
  items = items;
  graph = module_record name items;
  rows = row_in items all captured 0 None [] ∷ rows_from items all captured 1 (functions items);
  captured = captured;
  tops = top_bindings items;
  constants = constants items;
}

abbrev pub table_by : (name : Text) → Tree (t.list t.item) → List Mention → ModuleTable
table_by name items all = table_with name items all (captured_by all)

unfoldable pub module_table : (name : Text) → Tree (t.list t.item) → ModuleTable
module_table name items = table_by name items (mentions items)

-- ---- what kind a function is

abbrev pub kind_of_class : Tree t.class → FunctionKind
kind_of_class (t.ClassOf at name t.absent members) = f.Base
kind_of_class (t.ClassOf at name (t.present parent) members) = f.Derived

abbrev pub kind_of_form : FunctionForm → FunctionKind
kind_of_form (Written (t.FunctionOf at name kind parameters body)) = kind
kind_of_form (Generated class) = kind_of_class class

abbrev pub sort_of_kind : FunctionKind → FunctionSort
sort_of_kind f.Plain = CalledAndConstructed
sort_of_kind f.Base = OnlyConstructed
sort_of_kind f.Derived = OnlyConstructed
sort_of_kind _ = OnlyCalled

abbrev pub sort_of_row : FunctionRow → FunctionSort
sort_of_row row = elim row.form [ None ↦ OnlyCalled | Some form ↦ sort_of_kind (kind_of_form form) ]

abbrev pub sorts : List ModuleTable → List (List FunctionSort)
sorts tables = map (λ m. map sort_of_row m.rows) tables

-- ---- the row of a function of the text, by where its text begins, and of a class that writes no constructor

abbrev pub is_function_at : ℕ → Option FunctionForm → Bool
is_function_at at (Some (Written (t.FunctionOf place name kind parameters body))) = at == place
is_function_at at _ = false

abbrev pub is_generated_at : ℕ → Option FunctionForm → Bool
is_generated_at at (Some (Generated (t.ClassOf place name parent members))) = at == place
is_generated_at at _ = false

abbrev pub row_by : (Option FunctionForm → Bool) → List FunctionRow → Option FunctionRow
row_by is [] = None
row_by is (row ∷ rows) = cond (is row.form) (Some row) (row_by is rows)
