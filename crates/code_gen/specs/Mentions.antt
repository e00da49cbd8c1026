-- The code of a mention: how a name is read, written and initialised where it is held.
use Rattle.std.specs.Prelude.{ℕ, zero, suc, Bool, true, false, not, ◌&&◌, ◌||◌, ◌==◌, List, [], ◌∷◌, map, length, Option, Some, None}
use Rattle.std.specs.List.{list_any}
use Rattle.byte_code.specs.declared.instruction.Op.TheVariants as i
use Rattle.es_model.specs.declared.names.Identifier.{Identifier}
use Rattle.es_model.specs.declared.place.Place.{Place}
use Rattle.es_model.specs.declared.place.Place.TheVariants.{Local, Boxed, Outer, Import, Global, Unbound}
use Rattle.es_model.specs.Tokens.{place_from}
use Rattle.es_model.specs.Tree as t
use Rattle.es_model.specs.Tree.{Tree, Text}
use Rattle.es_model.specs.Functions.{FunctionForm, functions}
use Rattle.es_model.specs.Scopes.{Enclosing, Binding, Setting, class_name, find_binding, gather, top_setting}
use Rattle.es_model.specs.FreeNames.{Mention, mentions, meant, same_binding, Held, HoldsBinding, HoldsTemporary, global_names, global_place, outer_list, places, index_of, place_of_binding, own_place, same_round, is_top, role_number, receiver, in_arrow}
use Rattle.code_gen.specs.Steps.{Coding, none, op, ◌▸◌}

-- What a binding allows at a place of its function (ECMA-262, 9.1.1.1): a parameter, a function or a
-- catch name is always initialised; a `let` or a class may be read and written from then on; a `const`
-- may be read.
pub data Binds : Type 0 where
  Variable : Binds
  Lexical : Binds
  Constant : Binds

-- the bindings of declarations that aren't initialised at entry, each known by the place of its name
pub record Declared : Type 0 where
  pub at : ℕ
  pub binds : Binds

abbrev pub declaring : Bool → Binds
declaring true = Constant
declaring false = Lexical

abbrev declared_at : Binds → Identifier → Declared
declared_at binds name = record { at = name.at; binds = binds }

abbrev declarators_at : Binds → Tree (t.list t.declarator) → List Declared
declarators_at binds t.none = []
declarators_at binds (t.more (t.DeclaratorOf name value) rest) = declared_at binds name ∷ declarators_at binds rest

abbrev declares : {s : t.Sort} → Setting → Tree s → List Declared
declares g (t.Declare constant declarators semi) = declarators_at (declaring constant) declarators
declares g (t.HeadDeclare constant declarators) = declarators_at (declaring constant) declarators
declares g (t.ClassStatement class) = map (declared_at Lexical) (class_name class)
declares g _ = []

abbrev pub declarations : Tree (t.list t.item) → List Declared
declarations items = gather (record { at_node = λ s g tree. declares {s = s} g tree; at_catch = λ g name. [] }) (top_setting items) items

-- what a binding within a function allows; the own name of a class is a constant
abbrev binds_at : ℕ → List Declared → Binds
binds_at at [] = Variable
binds_at at (one ∷ rest) = elim (one.at == at) [ true ↦ one.binds | false ↦ binds_at at rest ]

abbrev pub binds_of : List Declared → Binding → Binds
binds_of declarations binding = elim (role_number binding.role == 3) [ true ↦ Constant | false ↦ binds_at binding.at declarations ]

-- A function as its code sees it: the functions round it, with itself, innermost first; what its places
-- and its outer list hold; which bindings are captured; and the module's declarations and functions.
pub record Frame : Type 0 where
  pub round : List Enclosing
  pub places : List Held
  pub outers : List Binding
  pub captured : Binding → Bool
  pub declarations : List Declared
  pub functions : List FunctionForm

-- a binding is captured where a function within its own mentions it: `captured`, of mentions that are
-- gathered once
abbrev mentioned_within : Binding → Mention → Bool
mentioned_within binding one =
    elim (meant one.what) [ Some other ↦ same_binding binding other && not (length one.round == length binding.lies) | None ↦ false ]

abbrev pub captured_among : List Mention → Binding → Bool
captured_among all binding = is_top binding || list_any (mentioned_within binding) all

abbrev pub frame_of : Tree (t.list t.item) → List Enclosing → Frame
frame_of items round = record {
  round = round;
  places = places items round;
  outers = outer_list items round;
  captured = captured_among (mentions items);
  declarations = declarations items;
  functions = functions items;
}

-- the place of a binding that is mentioned in the function
abbrev pub place_in : Frame → Binding → Place
place_in f binding =
    elim (role_number binding.role == 1) [
      | true ↦ Import (index_of binding f.outers)
      | false ↦
          elim (is_top binding || not (same_round f.round binding.lies)) [
            | true ↦ Outer (index_of binding f.outers)
            | false ↦ own_place (f.captured binding) (place_of_binding binding f.places)
          ]
    ]

-- the place of a temporary, by its number in its function
abbrev pub place_of_temporary : ℕ → List Held → ℕ
place_of_temporary number [] = 0
place_of_temporary number (HoldsBinding binding ∷ rest) = suc (place_of_temporary number rest)
place_of_temporary zero (HoldsTemporary mention ∷ rest) = 0
place_of_temporary (suc number) (HoldsTemporary mention ∷ rest) = suc (place_of_temporary number rest)

-- Reading, writing and initialising. A write leaves the value on the stack.

abbrev pub read_local : Binds → ℕ → Coding
read_local Variable p = op (i.LocalGet p)
read_local _ p = op (i.LocalCheck p) ▸ op (i.LocalGet p)

abbrev pub read : Binds → Place → Coding
read binds (Local p) = read_local binds p
read binds (Boxed p) = op (i.BoxGet p)
read binds (Outer q) = op (i.OuterGet q)
read binds (Import q) = op (i.OuterGet q)
read binds (Global row) = op (i.Global row)
read binds Unbound = op (i.ThrowMessage 5)

abbrev pub write_local : Binds → ℕ → Coding
write_local Variable p = op i.Dup ▸ op (i.LocalPut p)
write_local Lexical p = op (i.LocalCheck p) ▸ op i.Dup ▸ op (i.LocalPut p)
write_local Constant p = op (i.LocalCheck p) ▸ op (i.ThrowMessage 9) ▸ op i.Pop

abbrev pub write : Binds → Place → Coding
write binds (Local p) = write_local binds p
write binds (Boxed p) = op i.Dup ▸ op (i.BoxPut p)
write binds (Outer q) = op i.Dup ▸ op (i.OuterPut q)
write binds (Import q) = op (i.ThrowMessage 9) ▸ op i.Pop
write binds _ = none

abbrev pub initialise : Place → Coding
initialise (Local p) = op (i.LocalPut p)
initialise (Boxed p) = op (i.BoxInit p)
initialise (Outer q) = op (i.OuterInit q)
initialise _ = none

-- Names, where they are mentioned.

abbrev by_binding : {A : Type 0} → (Binds → Place → A) → Frame → Option Binding → Text → A
by_binding k f (Some binding) name = k (binds_of f.declarations binding) (place_in f binding)
by_binding k f None name = k Variable (global_place (place_from 0 global_names name))

abbrev pub at_name : (Binds → Place → Coding) → Frame → Setting → Identifier → Coding
at_name k f g name = by_binding k f (find_binding name.name g.sees) name.name

abbrev pub read_name : Frame → Setting → Text → Coding
read_name f g name = by_binding read f (find_binding name g.sees) name

abbrev pub write_name : Frame → Setting → Text → Coding
write_name f g name = by_binding write f (find_binding name g.sees) name

-- a name that nothing binds
abbrev is_unbound_place : Binds → Place → Bool
is_unbound_place binds Unbound = true
is_unbound_place binds _ = false

abbrev pub is_unbound : Frame → Setting → Text → Bool
is_unbound f g name = by_binding is_unbound_place f (find_binding name g.sees) name

-- `this`, which an arrow reads from the cell of the function round it
abbrev pub read_this : Frame → Setting → Coding
read_this f g = elim (in_arrow g.round) [ true ↦ read Constant (place_in f (receiver g.round)) | false ↦ op i.This ]
