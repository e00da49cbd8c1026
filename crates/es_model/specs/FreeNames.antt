-- What a module's functions mention, and where it is held (own rules on places, numbers and lists).
use Rattle.std.specs.Prelude.{ℕ, zero, suc, Bool, true, false, not, ◌&&◌, ◌||◌, ◌==◌, List, [], ◌∷◌, ◌++◌, map, length, take, drop, codes, slice_get, Option, Some, None}
use Rattle.std.specs.List.{list_any}
use Rattle.es_model.specs.declared.kinds.FunctionKind.{FunctionKind}
use Rattle.es_model.specs.declared.kinds.FunctionKind.TheVariants as f
use Rattle.es_model.specs.declared.kinds.MemberKind.TheVariants as m
use Rattle.es_model.specs.declared.names.Identifier.{Identifier}
use Rattle.es_model.specs.declared.place.Capture.{Capture}
use Rattle.es_model.specs.declared.place.Place.{Place}
use Rattle.es_model.specs.declared.place.Place.TheVariants.{Local, Boxed, Outer, Import, Global, Unbound}
use Rattle.es_model.specs.Tokens.{place_from}
use Rattle.es_model.specs.Tree as t
use Rattle.es_model.specs.Tree.{Tree, Text}
use Rattle.es_model.specs.Functions.{FunctionForm, Written, Generated, functions}
use Rattle.es_model.specs.Scopes.{Enclosing, Role, Top, Imported, Inner, Own, Receiver, Binding, Setting, gather, find_binding, top_bindings, top_setting, in_function, own_name, named, function_name, class_name, given_names, default_names}

-- What a mention is: a binding where it is bound, or where it is referred to, a name that nothing
-- binds, or a temporary of a statement.
pub data Mentioned : Type 0 where
  Binds : Binding → Mentioned
  Refers : Binding → Mentioned
  Free : Text → Mentioned
  Temporary : Mentioned

-- a mention, with the functions round it, innermost first
pub record Mention : Type 0 where
  pub round : List Enclosing
  pub what : Mentioned

abbrev pub mention : Setting → Mentioned → List Mention
mention g what = record { round = g.round; what = what } ∷ []

abbrev pub binds : Setting → List Identifier → List Mention
binds g [] = []
binds g (one ∷ names) = elim (find_binding one.name g.sees) [ Some binding ↦ mention g (Binds binding) ++ binds g names | None ↦ binds g names ]

abbrev pub refers : Setting → Text → List Mention
refers g name = elim (find_binding name g.sees) [ Some binding ↦ mention g (Refers binding) | None ↦ mention g (Free name) ]

-- The `this` of a place: that of the innermost function that is no arrow, or of the module.
abbrev pub receiver : List Enclosing → Binding
receiver [] = record { name = []; at = 0; role = Receiver; lies = [] }
receiver (one ∷ rest) = receiver_of one.kind (record { name = []; at = one.at; role = Receiver; lies = one ∷ rest }) (receiver rest)
  where
    receiver_of : FunctionKind → Binding → Binding → Binding
    receiver_of f.Arrow own outer = outer
    receiver_of _ own outer = own

abbrev pub in_arrow : List Enclosing → Bool
in_arrow [] = false
in_arrow (one ∷ rest) = is_arrow one.kind
  where
    is_arrow : FunctionKind → Bool
    is_arrow f.Arrow = true
    is_arrow _ = false

-- The mentions at a node, before those in what stands in it: names that it binds, a name that it
-- refers to, an arrow's `this`, and temporaries: one of a switch, two of a try with `finally`.
abbrev pub mentions_at : {s : t.Sort} → Setting → Tree s → List Mention
mentions_at g t.This = elim (in_arrow g.round) [ true ↦ mention g (Refers (receiver g.round)) | false ↦ [] ]
mentions_at g (t.Name name) = refers g name.name
mentions_at g (t.Function function) = binds (own_name (function_name function) g) (function_name function)
mentions_at g (t.FunctionOf at name kind parameters body) = binds (in_function at kind parameters body g) parameters
mentions_at g (t.ClassOf at name parent members) = binds (own_name (named name) g) (named name)
mentions_at g (t.MemberOf at fixed m.Short (t.KeyWord name) value function) = refers g name
mentions_at g (t.DeclaratorOf name value) = binds g (name ∷ [])
mentions_at g (t.FunctionStatement function) = binds g (function_name function)
mentions_at g (t.ClassStatement class) = binds g (class_name class)
mentions_at g (t.Try block caught catch (t.present finally)) = mention g Temporary ++ mention g Temporary
mentions_at g (t.Switch value cases) = mention g Temporary
mentions_at g (t.Import source pairs semi) = binds g (given_names pairs)
mentions_at g (t.ExportDefault at value semi) = binds g (default_names at value)
mentions_at g _ = []

-- The mentions of a module in the text's order. A mention's number is its place in the list, from 0.
unfoldable pub mentions : Tree (t.list t.item) → List Mention
mentions items = gather (record { at_node = λ s g tree. mentions_at {s = s} g tree; at_catch = λ g name. binds g (named name) }) (top_setting items) items

-- One binding is another: by what it is, where its name stands, and how deep it lies.

abbrev pub role_number : Role → ℕ
role_number Top = 0
role_number Imported = 1
role_number Inner = 2
role_number Own = 3
role_number Receiver = 4

abbrev pub same_binding : Binding → Binding → Bool
same_binding a b = (role_number a.role == role_number b.role) && (a.at == b.at) && (length a.lies == length b.lies)

abbrev pub is_top : Binding → Bool
is_top binding = (role_number binding.role == 0) || (role_number binding.role == 1)

-- a function round a place, named by where its text begins
abbrev pub stands_in : ℕ → List Enclosing → Bool
stands_in at round = list_any (λ one. one.at == at) round

-- the binding that a mention binds or refers to
abbrev pub meant : Mentioned → Option Binding
meant (Binds binding) = Some binding
meant (Refers binding) = Some binding
meant (Free name) = None
meant Temporary = None

-- the bindings that mentions mean, each at its first mention
abbrev pub not_among : Binding → List Binding → Bool
not_among binding [] = true
not_among binding (one ∷ rest) = not (same_binding binding one) && not_among binding rest

-- the bindings outside the function at a place that mentions in it mean
abbrev pub outside : ℕ → List Mention → List Binding
outside at [] = []
outside at (one ∷ rest) =
    elim (meant one.what) [
      | Some binding ↦ elim (stands_in at one.round && not (stands_in at binding.lies)) [ true ↦ binding ∷ outside at rest | false ↦ outside at rest ]
      | None ↦ outside at rest
    ]

abbrev pub distinct_after : List Binding → List Binding → List Binding
distinct_after before [] = []
distinct_after before (one ∷ rest) = elim (not_among one before) [ true ↦ one ∷ distinct_after (one ∷ before) rest | false ↦ distinct_after before rest ]

-- The free names of the function whose text begins at a place: the outer bindings that it mentions,
-- an arrow's `this` among them, in the order of first mention.
unfoldable pub free : Tree (t.list t.item) → ℕ → List Binding
free items at = distinct_after [] (outside at (mentions items))

-- A binding is captured where a function within its own mentions it, and at a module's top always.
abbrev mentioned_within : Binding → Mention → Bool
mentioned_within binding one =
    elim (meant one.what) [ Some other ↦ same_binding binding other && not (length one.round == length binding.lies) | None ↦ false ]

unfoldable pub captured : Tree (t.list t.item) → Binding → Bool
captured items binding = is_top binding || list_any (mentioned_within binding) (mentions items)

-- The outer list of a function: of the body its top-level bindings in the text's order, then its
-- imports; of any other its free names.
abbrev pub outer_list : Tree (t.list t.item) → List Enclosing → List Binding
outer_list items [] = top_bindings items
outer_list items (one ∷ rest) = free items one.at

-- The places of a function: its parameters, the cell of its `this` where that is captured, then its
-- bindings and temporaries in the text's order. The parameters come first since they are the first that
-- a function mentions: what it holds, in the text's order, begins with as many as it has parameters. A
-- place is known by what it holds: a binding, or the temporary of a mention's number.

pub data Held : Type 0 where
  HoldsBinding : Binding → Held
  HoldsTemporary : ℕ → Held

abbrev pub same_round : List Enclosing → List Enclosing → Bool
same_round [] [] = true
same_round (a ∷ rest) (b ∷ others) = (a.at == b.at) && (length rest == length others)
same_round _ _ = false

abbrev pub held_by : ℕ → Mentioned → List Held
held_by number (Binds binding) = elim (is_top binding) [ true ↦ [] | false ↦ HoldsBinding binding ∷ [] ]
held_by number (Refers binding) = []
held_by number (Free name) = []
held_by number Temporary = HoldsTemporary number ∷ []

-- what the function round a place holds, of mentions that are numbered from `number`
abbrev pub held_from : ℕ → List Enclosing → List Mention → List Held
held_from number round [] = []
held_from number round (one ∷ rest) =
    elim (same_round round one.round) [ true ↦ held_by number one.what ++ held_from (suc number) round rest | false ↦ held_from (suc number) round rest ]

-- the number of parameters of the function whose text begins at a place
abbrev parameters_at : ℕ → List FunctionForm → ℕ
parameters_at at [] = 0
parameters_at at (Generated class ∷ rest) = parameters_at at rest
parameters_at at (Written (t.FunctionOf place name kind parameters body) ∷ rest) = elim (place == at) [ true ↦ length parameters | false ↦ parameters_at at rest ]

abbrev pub parameter_count : Tree (t.list t.item) → List Enclosing → ℕ
parameter_count items [] = 0
parameter_count items (one ∷ rest) = parameters_at one.at (functions items)

-- the function round a place has a `this` of its own that is captured
abbrev pub this_captured : Tree (t.list t.item) → List Enclosing → Bool
this_captured items round = not (in_arrow round) && captured items (receiver round)

abbrev pub this_cell_of : Bool → List Enclosing → List Held
this_cell_of true round = HoldsBinding (receiver round) ∷ []
this_cell_of false round = []

unfoldable pub places : Tree (t.list t.item) → List Enclosing → List Held
places items round =
    let held = held_from 0 round (mentions items) in
    let count = parameter_count items round in
    take count held ++ (this_cell_of (this_captured items round) round ++ drop count held)

-- the place of a binding in lists, from 0
abbrev pub index_of : Binding → List Binding → ℕ
index_of binding [] = 0
index_of binding (one ∷ rest) = elim (same_binding binding one) [ true ↦ 0 | false ↦ suc (index_of binding rest) ]

abbrev pub place_of_binding : Binding → List Held → ℕ
place_of_binding binding [] = 0
place_of_binding binding (HoldsBinding one ∷ rest) = elim (same_binding binding one) [ true ↦ 0 | false ↦ suc (place_of_binding binding rest) ]
place_of_binding binding (HoldsTemporary number ∷ rest) = suc (place_of_binding binding rest)

abbrev pub place_of_temporary : ℕ → List Held → ℕ
place_of_temporary number [] = 0
place_of_temporary number (HoldsBinding one ∷ rest) = suc (place_of_temporary number rest)
place_of_temporary number (HoldsTemporary other ∷ rest) = elim (number == other) [ true ↦ 0 | false ↦ suc (place_of_temporary number rest) ]

-- the global names, by row
abbrev pub global_names : List Text
global_names =
    codes "undefined" ∷ codes "Object" ∷ codes "Function" ∷ codes "Error" ∷ codes "RangeError" ∷ codes "ReferenceError" ∷
    codes "SyntaxError" ∷ codes "TypeError" ∷ codes "Boolean" ∷ codes "Number" ∷ codes "Math" ∷ codes "Promise" ∷
    codes "parseInt" ∷ codes "String" ∷ codes "Array" ∷ []

abbrev pub global_place : Option ℕ → Place
global_place None = Unbound
global_place (Some row) = Global row

-- the place that a binding of a function has there
abbrev pub own_place : Bool → ℕ → Place
own_place true place = Boxed place
own_place false place = Local place

-- the place of a binding that is mentioned in the function round a place
abbrev pub bound_place : Tree (t.list t.item) → List Enclosing → Binding → Place
bound_place items round binding =
    elim (role_number binding.role == 1) [
      | true ↦ Import (index_of binding (outer_list items round))
      | false ↦
          elim (is_top binding || not (same_round round binding.lies)) [
            | true ↦ Outer (index_of binding (outer_list items round))
            | false ↦
                own_place (captured items binding) (place_of_binding binding (places items round))
          ]
    ]

abbrev pub mentioned_place : Tree (t.list t.item) → ℕ → List Enclosing → Mentioned → Place
mentioned_place items number round (Binds binding) = bound_place items round binding
mentioned_place items number round (Refers binding) = bound_place items round binding
mentioned_place items number round (Free name) = global_place (place_from 0 global_names name)
mentioned_place items number round Temporary = Local (place_of_temporary number (places items round))

-- the place of the mention of a number; none past the last
unfoldable pub place_of_mention : Tree (t.list t.item) → ℕ → Option Place
place_of_mention items number = elim (slice_get (mentions items) number) [ Some one ↦ Some (mentioned_place items number one.round one.what) | None ↦ None ]

-- Functions by number: the functions that stand round a function's text, with itself, innermost
-- first; of the body none. A generated constructor has no text of its own.

abbrev rounds_at : {s : t.Sort} → Setting → Tree s → List (List Enclosing)
rounds_at g (t.FunctionOf at name kind parameters body) = (record { at = at; kind = kind } ∷ g.round) ∷ []
rounds_at g _ = []

abbrev rounds : Tree (t.list t.item) → List (List Enclosing)
rounds items = gather (record { at_node = λ s g tree. rounds_at {s = s} g tree; at_catch = λ g name. [] }) (top_setting items) items

abbrev begins_at : ℕ → List Enclosing → Bool
begins_at at [] = false
begins_at at (one ∷ rest) = one.at == at

abbrev round_at : ℕ → List (List Enclosing) → Option (List Enclosing)
round_at at [] = None
round_at at (one ∷ rest) = elim (begins_at at one) [ true ↦ Some one | false ↦ round_at at rest ]

abbrev round_of_form : Tree (t.list t.item) → FunctionForm → Option (List Enclosing)
round_of_form items (Generated class) = None
round_of_form items (Written (t.FunctionOf at name kind parameters body)) = round_at at (rounds items)

abbrev pub round_of : Tree (t.list t.item) → ℕ → Option (List Enclosing)
round_of items zero = Some []
round_of items (suc number) = elim (slice_get (functions items) number) [ Some form ↦ round_of_form items form | None ↦ None ]

-- the number of places of a function
unfoldable pub place_count : Tree (t.list t.item) → ℕ → ℕ
place_count items number = elim (round_of items number) [ Some round ↦ length (places items round) | None ↦ 0 ]

-- the place of the cell of a function's `this`; none where that isn't captured
unfoldable pub this_cell : Tree (t.list t.item) → ℕ → Option ℕ
this_cell items number =
    elim (round_of items number) [
      | Some round ↦ elim (this_captured items round) [ true ↦ Some (parameter_count items round) | false ↦ None ]
      | None ↦ None
    ]

-- The captures of a function: how it gets each of its free names from the function round it, which
-- holds the name in a box, or has it in its own outer list.
abbrev capture : Tree (t.list t.item) → List Enclosing → Binding → Capture
capture items round binding =
    elim (is_top binding || not (same_round round binding.lies)) [
      | true ↦ record { outer = true; at = index_of binding (outer_list items round) }
      | false ↦ record { outer = false; at = place_of_binding binding (places items round) }
    ]

abbrev captures_in : Tree (t.list t.item) → Option (List Enclosing) → List Capture
captures_in items None = []
captures_in items (Some []) = []
captures_in items (Some (one ∷ round)) = map (capture items round) (free items one.at)

unfoldable pub captures : Tree (t.list t.item) → ℕ → List Capture
captures items number = captures_in items (round_of items number)
