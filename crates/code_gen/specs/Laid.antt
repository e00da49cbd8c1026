-- The code of a form as a relation over a code that stands: `Laid` says that a form's instructions are
-- fetched one after another from an offset to another, and which handler is in force at each. It has the
-- same line for each form as `code` and `statement`; but a label is some offset, and a number of an exit
-- or of a temporary is some number, so no form counts another.
use Rattle.std.specs.Prelude.{◌≡◌, ◌≤◌, ℕ, suc, ◌+◌, Bool, true, false, pos, List, [], ◌∷◌, length, codes, slice_get, Option, Some, None}
use Rattle.byte_code.specs.declared.instruction.Op.{Op}
use Rattle.byte_code.specs.declared.instruction.Op.TheVariants as i
use Rattle.js_value.specs.NumberText.{text_of_number}
use Rattle.es_model.specs.declared.kinds.FunctionKind.TheVariants as f
use Rattle.es_model.specs.declared.kinds.MemberKind.{MemberKind}
use Rattle.es_model.specs.declared.kinds.MemberKind.TheVariants as m
use Rattle.es_model.specs.declared.kinds.BinaryOperator.{BinaryOperator}
use Rattle.es_model.specs.Tree as t
use Rattle.es_model.specs.Tree.{Tree, Text}
use Rattle.es_model.specs.Functions.{is_constructor}
use Rattle.es_model.specs.Scopes.{Setting, named as names_of, function_name, class_name, own_name, declared, declared_in_cases, declared_by_head, declared_in, declared_by_catch, default_names, within, Inner, in_body_of_loop, in_cases}
use Rattle.es_model.specs.FreeNames.{receiver}
use Rattle.code_gen.specs.Steps.{Coding, Step, Instruction, Leaving, Breaking, Continuing, Returning}
use Rattle.code_gen.specs.Mentions.{Frame, place_in, place_of_temporary, read_name, write_name, is_unbound, read_this}
use Rattle.code_gen.specs.Expressions.{binary_row, unary_row, integer, function_number, place_of_function, place_of_constructor, is_anonymous_value, define_mode, prefix_of, cells_of_own_names, set_own_names, set_this}
use Rattle.code_gen.specs.Statements.{functions_of, functions_of_cases, entry, initialised, caught, copies}
use Rattle.code_gen.specs.Functions.{steps_of, beginning}

-- ---- what stands round a form

-- as `Around`, with offsets; of a `try` the exits by their numbers, less 2
pub data Outside : Type 0 where
  Loop : (end next : ℕ) → Outside
  Cases : (end : ℕ) → Outside
  Guarded : (kind held start : ℕ) → (exits : List Leaving) → Outside

-- The function, the names that are seen, what stands round, and a number that the temporaries of what
-- stands round are below.
pub record Where : Type 0 where
  pub frame : Frame
  pub sees : Setting
  pub round : List Outside
  pub next : ℕ

abbrev pub seeing : Where → Setting → Where
seeing x g = record x { sees = g }

abbrev pub inside : Where → Outside → Where
inside x one = record x { round = one ∷ x.round }

-- what an expression is as a target, also through parentheses
pub data Shape : Type 0 where
  Named : Text → Shape
  Property : Text → Shape
  Element : Shape
  SuperProperty : Text → Shape
  SuperElement : Shape
  Other : Shape

abbrev pub shape : Tree t.expression → Shape
shape (t.Name name) = Named name.name
shape (t.Dot of name) = Property name
shape (t.Index of by) = Element
shape (t.SuperDot at name) = SuperProperty name
shape (t.SuperIndex at by) = SuperElement
shape (t.Paren of) = shape of
shape _ = Other

abbrev count : {s : t.Sort} → Tree (t.list s) → ℕ
count t.none = 0
count (t.more one rest) = suc (count rest)

abbrev count_maybe : {s : t.Sort} → Tree (t.option (t.list s)) → ℕ
count_maybe t.absent = 0
count_maybe (t.present list) = count list

abbrev functions_in : Tree (t.option (t.list t.statement)) → List (Tree t.function)
functions_in t.absent = []
functions_in (t.present list) = functions_of list

abbrev rest_of : List Text → List Text
rest_of [] = []
rest_of (text ∷ texts) = texts

-- as what the code of a tree stands: for its value, for the operands of a target, for a callee with its
-- receiver, or as the elements, substitutions or members of a list
pub data As : Type 0 where
  Value : As
  Operands : As
  Callee : As
  Elements : As
  Substitutions : List Text → As
  InObject : As
  InClass : As

-- a statement as a whole; or of the cases of a switch, the tests with the value's place, or the lists
pub data Part : Type 0 where
  Whole : Part
  Tests : (held : ℕ) → List ℕ → Part
  Lists : List ℕ → Part

module _ (numbering : Text → ℕ) (fetch : ℕ → Option (Op × ℕ)) (catches : ℕ → Option ℕ) where
  -- by the handler in force, from an offset to another
  abbrev pub Laying : Type 1
  Laying = Option ℕ → ℕ → ℕ → Type 0

  abbrev nothing : Laying
  nothing handler pc exit = pc ≡ exit

  abbrev pub op : Op → Laying
  op one handler pc exit = (fetch pc ≡ Some (one, exit)) × (catches pc ≡ handler)

  abbrev named : (ℕ → Op) → Text → Laying
  named one text = op (one (numbering text))

  infixr 20 ◌▸◌
  abbrev pub ◌▸◌ : Laying → Laying → Laying
  (first ▸ second) handler pc exit = (mid : ℕ) × first handler pc mid × second handler mid exit

  abbrev mark : ℕ → Laying
  mark place handler pc exit = (place ≡ pc) × (pc ≡ exit)

  abbrev some : (ℕ → Laying) → Laying
  some f handler pc exit = (n : ℕ) × f n handler pc exit

  abbrev given : Type 0 → Laying → Laying
  given fact l handler pc exit = fact × l handler pc exit

  -- with another handler in force
  abbrev under : ℕ → Laying → Laying
  under target l handler pc exit = l (Some target) pc exit

  -- what stands for a code without names and labels: of a mention, an entry to a scope, an exit's number
  abbrev steps : List Step → Laying
  steps [] = nothing
  steps (Instruction one ∷ rest) = op one ▸ steps rest
  steps (_ ∷ rest) = λ handler pc exit. ⊥

  abbrev plain : Coding → Laying
  plain c = steps (steps_of c)

  -- ---- expressions

  abbrev assign : Shape → Where → (operands value : Laying) → Laying
  assign (Named name) y operands value = value ▸ plain (write_name y.frame y.sees name)
  assign (Property k) y operands value = operands ▸ value ▸ named i.Set k
  assign Element y operands value = operands ▸ value ▸ op i.SetKey
  assign (SuperProperty k) y operands value = operands ▸ value ▸ named i.SuperSet k
  assign SuperElement y operands value = operands ▸ value ▸ op i.SuperSetKey
  assign Other y operands value = nothing

  -- `sink` is what a postfix form puts beneath: nothing, rot3 or rot4
  abbrev change : Shape → Where → (operands : Laying) → (new : Laying → Laying) → Laying
  change (Named name) y operands new = plain (read_name y.frame y.sees name) ▸ new nothing ▸ plain (write_name y.frame y.sees name)
  change (Property k) y operands new = operands ▸ op i.Dup ▸ named i.Get k ▸ new (op i.Rot3) ▸ named i.Set k
  change Element y operands new = operands ▸ op i.ToKey ▸ op i.Dup2 ▸ op i.GetKey ▸ new (op i.Rot4) ▸ op i.SetKey
  change (SuperProperty k) y operands new = operands ▸ op i.Dup ▸ named i.SuperGet k ▸ new (op i.Rot3) ▸ named i.SuperSet k
  change SuperElement y operands new = operands ▸ op i.ToKey ▸ op i.Dup2 ▸ op i.SuperGetKey ▸ new (op i.Rot4) ▸ op i.SuperSetKey
  change Other y operands new = nothing

  abbrev assigned : Option BinaryOperator → Shape → Where → (operands value : Laying) → Laying
  assigned None to y operands value = assign to y operands value
  assigned (Some operator) to y operands value = change to y operands (λ sink. value ▸ op (i.Binary (binary_row operator)))

  abbrev one_on : Bool → Laying
  one_on true = op (i.Int (pos 1)) ▸ op (i.Binary 0)
  one_on false = op (i.Int (pos 1)) ▸ op (i.Binary 1)

  abbrev updated : (up prefix : Bool) → Shape → Where → (operands : Laying) → Laying
  updated up true to y operands = change to y operands (λ sink. op (i.Unary 2) ▸ one_on up)
  updated up false to y operands = change to y operands (λ sink. op (i.Unary 2) ▸ op i.Dup ▸ sink ▸ one_on up) ▸ op i.Pop

  abbrev called : Shape → (callee value : Laying) → Laying
  called (Named name) callee value = op i.Undefined ▸ value
  called Other callee value = op i.Undefined ▸ value
  called _ callee value = callee

  abbrev deleted : Shape → (operands value : Laying) → Laying
  deleted (Property k) operands value = operands ▸ named i.Delete k
  deleted Element operands value = operands ▸ op i.DeleteKey
  deleted _ operands value = value ▸ op i.Pop ▸ op i.True

  abbrev typed : Bool → Laying → Laying
  typed true value = named i.Text (codes "undefined")
  typed false value = value ▸ op i.Typeof

  abbrev typed_by : Shape → Where → Laying → Laying
  typed_by (Named name) y value = typed (is_unbound y.frame y.sees name) value
  typed_by _ y value = value ▸ op i.Typeof

  abbrev jump_where : (ℕ → Op) → (a b : Laying) → Laying
  jump_where jump a b = some (λ end. a ▸ op i.Dup ▸ op (jump end) ▸ op i.Pop ▸ b ▸ mark end)

  abbrev chosen : (test one other : Laying) → Laying
  chosen test one other = some (λ to_other. some (λ end. test ▸ op (i.JumpUnless to_other) ▸ one ▸ op (i.Jump end) ▸ mark to_other ▸ other ▸ mark end))

  abbrev template : List Text → Tree (t.list t.expression) → Laying → Laying
  template [] values parts = nothing
  template (text ∷ texts) t.none parts = named i.Text text
  template (text ∷ texts) (t.more value values) parts = named i.Text text ▸ parts ▸ op (i.Join (suc (length texts + suc (count values))))

  abbrev is_computed : Tree t.key → Bool
  is_computed (t.KeyComputed by) = true
  is_computed _ = false

  abbrev name_by : Bool → Bool → ℕ → Laying
  name_by true true prefix = op (i.NameIt prefix)
  name_by _ _ prefix = nothing

  abbrev short_value : Where → Tree t.key → Laying
  short_value y (t.KeyWord name) = plain (read_name y.frame y.sees name)
  short_value y _ = nothing

  abbrev method_value : Where → MemberKind → Tree t.key → Tree (t.option t.function) → Laying
  method_value y kind by t.absent = nothing
  method_value y kind by (t.present function) = op (i.Method (function_number (place_of_function function) y.frame.functions)) ▸ name_by (is_computed by) true (prefix_of kind)

  abbrev member_value : Where → MemberKind → Tree t.key → Tree (t.option t.expression) → Laying → Tree (t.option t.function) → Laying
  member_value y m.Value by of value function = value ▸ name_by (is_computed by) (is_anonymous_value of) 0
  member_value y m.Short by of value function = short_value y by
  member_value y kind by of value function = method_value y kind by function

  abbrev class_member : (constructor fixed : Bool) → Laying → Laying
  class_member true fixed l = nothing
  class_member false true l = op i.Swap ▸ l ▸ op i.Swap
  class_member false false l = l

  abbrev parent_by : Tree (t.option t.expression) → ℕ → Laying → Laying
  parent_by t.absent number parent = op (i.Class number)
  parent_by (t.present of) number parent = parent ▸ op (i.ClassExtends number)

  -- `y` is where the form stands: the function, and the names that it sees
  unfoldable pub LaidExpression : {s : t.Sort} → Where → As → Tree s → Laying
  LaidExpression y Value t.This = plain (read_this y.frame y.sees)
  LaidExpression y Value t.Null = op i.Null
  LaidExpression y Value t.True = op i.True
  LaidExpression y Value t.False = op i.False
  LaidExpression y Value (t.Name name) = plain (read_name y.frame y.sees name.name)
  LaidExpression y Value (t.Number value) = op (integer value)
  LaidExpression y Value (t.String text) = named i.Text text
  LaidExpression y Value (t.Template texts values) = template texts values (LaidExpression y (Substitutions (rest_of texts)) values)
  LaidExpression y Value (t.Array items) = op i.Array ▸ LaidExpression y Elements items
  LaidExpression y Value (t.Object members) = op i.Object ▸ LaidExpression y InObject members
  LaidExpression y Value (t.Function function) =
      plain (cells_of_own_names y.frame y.sees (function_name function)) ▸ op (i.Function (function_number (place_of_function function) y.frame.functions)) ▸ plain (set_own_names y.frame y.sees (function_name function))
  LaidExpression y Value (t.Class class) = LaidExpression y Value class
  LaidExpression y role (t.Paren of) = LaidExpression y role of
  LaidExpression y Value (t.Dot of name) = LaidExpression y Value of ▸ named i.Get name
  LaidExpression y Operands (t.Dot of name) = LaidExpression y Value of
  LaidExpression y Callee (t.Dot of name) = LaidExpression y Value of ▸ op i.Dup ▸ named i.Get name
  LaidExpression y Value (t.Index of by) = LaidExpression y Value of ▸ LaidExpression y Value by ▸ op i.GetKey
  LaidExpression y Operands (t.Index of by) = LaidExpression y Value of ▸ LaidExpression y Value by
  LaidExpression y Callee (t.Index of by) = LaidExpression y Value of ▸ op i.Dup ▸ LaidExpression y Value by ▸ op i.GetKey
  LaidExpression y Value (t.SuperDot at name) = op i.This ▸ named i.SuperGet name
  LaidExpression y Operands (t.SuperDot at name) = op i.This
  LaidExpression y Callee (t.SuperDot at name) = op i.This ▸ op i.This ▸ named i.SuperGet name
  LaidExpression y Value (t.SuperIndex at by) = op i.This ▸ LaidExpression y Value by ▸ op i.SuperGetKey
  LaidExpression y Operands (t.SuperIndex at by) = op i.This ▸ LaidExpression y Value by
  LaidExpression y Callee (t.SuperIndex at by) = op i.This ▸ op i.This ▸ LaidExpression y Value by ▸ op i.SuperGetKey
  LaidExpression y Value (t.Call callee arguments) =
      called (shape callee) (LaidExpression y Callee callee) (LaidExpression y Value callee) ▸ LaidExpression y Value arguments ▸ op (i.Call (count arguments))
  LaidExpression y Value (t.New callee arguments) = LaidExpression y Value callee ▸ LaidExpression y Value arguments ▸ op (i.New (count_maybe arguments))
  LaidExpression y Value (t.SuperCall at arguments) =
      LaidExpression y Value arguments ▸ op (i.SuperCall (count arguments)) ▸ op i.BindThis ▸ plain (set_this (place_in y.frame (receiver y.sees.round)))
  LaidExpression y Value (t.Update at up prefix target) = updated up prefix (shape target) y (LaidExpression y Operands target)
  LaidExpression y Value (t.Unary operator of) = LaidExpression y Value of ▸ op (i.Unary (unary_row operator))
  LaidExpression y Value (t.Typeof of) = typed_by (shape of) y (LaidExpression y Value of)
  LaidExpression y Value (t.Void of) = LaidExpression y Value of ▸ op i.Pop ▸ op i.Undefined
  LaidExpression y Value (t.Delete at of) = deleted (shape of) (LaidExpression y Operands of) (LaidExpression y Value of)
  LaidExpression y Value (t.Binary operator left right) = LaidExpression y Value left ▸ LaidExpression y Value right ▸ op (i.Binary (binary_row operator))
  LaidExpression y Value (t.In left right) = LaidExpression y Value left ▸ LaidExpression y Value right ▸ op i.In
  LaidExpression y Value (t.InstanceOf left right) = LaidExpression y Value left ▸ LaidExpression y Value right ▸ op i.InstanceOf
  LaidExpression y Value (t.And left right) = jump_where i.JumpUnless (LaidExpression y Value left) (LaidExpression y Value right)
  LaidExpression y Value (t.Or left right) = jump_where i.JumpIf (LaidExpression y Value left) (LaidExpression y Value right)
  LaidExpression y Value (t.Nullish left right) = jump_where i.JumpValue (LaidExpression y Value left) (LaidExpression y Value right)
  LaidExpression y Value (t.Conditional test one other) = chosen (LaidExpression y Value test) (LaidExpression y Value one) (LaidExpression y Value other)
  LaidExpression y Value (t.Assign at target operator value) = assigned operator (shape target) y (LaidExpression y Operands target) (LaidExpression y Value value)
  LaidExpression y Value (t.Comma left right) = LaidExpression y Value left ▸ op i.Pop ▸ LaidExpression y Value right
  LaidExpression y Value (t.KeyWord name) = named i.Text name
  LaidExpression y Value (t.KeyString text) = named i.Text text
  LaidExpression y Value (t.KeyNumber value) = named i.Text (text_of_number value)
  LaidExpression y Value (t.KeyComputed by) = LaidExpression y Value by ▸ op i.ToKey
  LaidExpression y InObject (t.MemberOf at fixed kind by value function) =
      LaidExpression y Value by ▸ member_value y kind by value (LaidExpression y Value value) function ▸ op (i.Define (define_mode kind false))
  LaidExpression y InClass (t.MemberOf at fixed kind by value function) =
      class_member (is_constructor (t.MemberOf at fixed kind by value function)) fixed
      (LaidExpression y Value by ▸ member_value y kind by value (LaidExpression y Value value) function ▸ op (i.Define (define_mode kind true)))
  LaidExpression y Value (t.ClassOf at name parent members) =
      let z = seeing y (own_name (names_of name) y.sees) in
      let number = function_number (place_of_constructor (t.ClassOf at name parent members)) y.frame.functions in
      plain (cells_of_own_names y.frame y.sees (names_of name)) ▸ parent_by parent number (LaidExpression z Value parent) ▸ LaidExpression z InClass members ▸ op i.Pop ▸ plain (set_own_names y.frame y.sees (names_of name))
  LaidExpression y Elements (t.more one rest) = LaidExpression y Value one ▸ op i.Append ▸ LaidExpression y Elements rest
  LaidExpression y (Substitutions (text ∷ texts)) (t.more one rest) = LaidExpression y Value one ▸ op i.ToText ▸ named i.Text text ▸ LaidExpression y (Substitutions texts) rest
  LaidExpression y role (t.more one rest) = LaidExpression y role one ▸ LaidExpression y role rest
  LaidExpression y role (t.present one) = LaidExpression y role one
  LaidExpression y role _ = nothing

  -- ---- statements

  abbrev value_of : Tree (t.option t.expression) → Laying → Laying
  value_of t.absent value = op i.Undefined
  value_of (t.present of) value = value

  -- exits
  abbrev hold : Leaving → ℕ → Laying
  hold Returning held = op (i.LocalPut held)
  hold _ held = nothing

  abbrev into_finally : (kind number : ℕ) → ℕ → Laying
  into_finally kind number start = op (integer (pos number)) ▸ op (i.LocalPut kind) ▸ op (i.Jump start)

  abbrev pub leave : Leaving → List Outside → Laying
  leave by (Guarded kind held start exits ∷ outer) = some (λ k. given (slice_get exits k ≡ Some by) (hold by held ▸ into_finally kind (k + 2) start))
  leave Returning (Loop end next ∷ outer) = leave Returning outer
  leave Returning (Cases end ∷ outer) = leave Returning outer
  leave Returning [] = op i.Return
  leave Continuing (Loop end next ∷ outer) = op (i.Jump next)
  leave Continuing (Cases end ∷ outer) = leave Continuing outer
  leave Continuing [] = nothing
  leave Breaking (Loop end next ∷ outer) = op (i.Jump end)
  leave Breaking (Cases end ∷ outer) = op (i.Jump end)
  leave Breaking [] = nothing

  -- dispatch behind a `finally`
  abbrev where_kind : ℕ → ℕ → Laying → Laying
  where_kind kind number l = some (λ other. op (i.LocalGet kind) ▸ op (integer (pos number)) ▸ op (i.Binary 18) ▸ op (i.JumpUnless other) ▸ l ▸ mark other)

  abbrev resumed : Leaving → ℕ → Laying
  resumed Returning held = op (i.LocalGet held)
  resumed _ held = nothing

  abbrev dispatched : (kind held number : ℕ) → List Outside → List Leaving → Laying
  dispatched kind held number outer [] = nothing
  dispatched kind held number outer (by ∷ rest) = where_kind kind number (resumed by held ▸ leave by outer) ▸ dispatched kind held (suc number) outer rest

  abbrev dispatch : (kind held : ℕ) → List Outside → List Leaving → Laying
  dispatch kind held outer exits = where_kind kind 1 (op (i.LocalGet held) ▸ op i.Throw) ▸ dispatched kind held 2 outer exits

  -- the three forms of `try`
  abbrev catch_code : (block catch : Laying) → Laying
  catch_code block catch = some (λ target. some (λ out. under target block ▸ op (i.Jump out) ▸ mark target ▸ catch ▸ op (i.Jump out) ▸ mark out))

  abbrev guarded : Bool → (thrown : ℕ) → (block done catch : Laying) → Laying
  guarded true thrown block done catch = under thrown (some (λ target. under target block ▸ done ▸ mark target ▸ catch ▸ done))
  guarded false thrown block done catch = under thrown (block ▸ done)

  abbrev finally_code : Where → Bool → (block catch : Where → Laying) → Laying → Laying
  finally_code y catches_too block catch finally handler pc exit =
      (exits : List Leaving) × some (λ k. given (y.next ≤ k) (some (λ thrown. some (λ last.
      let kind = place_of_temporary k y.frame.places in
      let held = place_of_temporary (suc k) y.frame.places in
      let z = record (inside y (Guarded kind held last exits)) { next = k + 2 } in
      guarded catches_too thrown (block z) (into_finally kind 0 last) (catch z) ▸ mark thrown ▸ op (i.LocalPut held) ▸ op (i.Int (pos 1)) ▸ op (i.LocalPut kind) ▸ mark last ▸ finally ▸ dispatch kind held y.round exits)))) handler pc exit

  abbrev is_there : {s : t.Sort} → Tree (t.option s) → Bool
  is_there t.absent = false
  is_there (t.present of) = true

  abbrev try_code : Where → Bool → Bool → (block catch finally : Where → Laying) → Laying
  try_code y catches_too true block catch finally = finally_code y catches_too block catch (finally y)
  try_code y catches_too false block catch finally = catch_code (block y) (catch y)

  -- loops
  abbrev unless : Tree (t.option t.expression) → Laying → ℕ → Laying
  unless t.absent test end = nothing
  unless (t.present of) test end = test ▸ op (i.JumpUnless end)

  abbrev dropped : Tree (t.option t.expression) → Laying → Laying
  dropped t.absent step = nothing
  dropped (t.present of) step = step ▸ op i.Pop

  abbrev while_code : Where → (test : Laying) → (body : Where → Laying) → Laying
  while_code y test body = some (λ start. some (λ end. mark start ▸ op i.Turn ▸ test ▸ op (i.JumpUnless end) ▸ body (inside y (Loop end start)) ▸ op (i.Jump start) ▸ mark end))

  abbrev do_code : Where → (test : Laying) → (body : Where → Laying) → Laying
  do_code y test body = some (λ start. some (λ next. some (λ end. mark start ▸ op i.Turn ▸ body (inside y (Loop end next)) ▸ mark next ▸ test ▸ op (i.JumpIf start) ▸ mark end)))

  abbrev for_code : Where → (head copies : Laying) → (test : ℕ → Laying) → (step : Laying) → (body : Where → Laying) → Laying
  for_code y head copies test step body =
      some (λ start. some (λ next. some (λ end.
      head ▸ copies ▸ mark start ▸ op i.Turn ▸ test end ▸ body (inside y (Loop end next)) ▸ mark next ▸ copies ▸ step ▸ op (i.Jump start) ▸ mark end)))

  -- a switch, by the labels of its cases
  abbrev or_default : ℕ → Tree (t.option t.expression) → ℕ → ℕ
  or_default label t.absent end = label
  or_default label (t.present test) end = end

  abbrev default_label : List ℕ → Tree (t.list t.case) → ℕ → ℕ
  default_label (label ∷ labels) (t.more (t.CaseOf test list) rest) end = or_default label test (default_label labels rest end)
  default_label _ _ end = end

  abbrev switch_code : Where → Tree (t.list t.case) → (value entry : Laying) → (tests : ℕ → List ℕ → Laying) → (lists : Where → List ℕ → Laying) → Laying
  switch_code y cases value entry tests lists handler pc exit =
      (labels : List ℕ) × some (λ k. given (y.next ≤ k) (some (λ end.
      let held = place_of_temporary k y.frame.places in
      let z = record (inside y (Cases end)) { next = suc k } in
      value ▸ op (i.LocalPut held) ▸ entry ▸ tests held labels ▸ op (i.Jump (default_label labels cases end)) ▸ lists z labels ▸ mark end))) handler pc exit

  abbrev test_code : ℕ → List ℕ → Tree (t.option t.expression) → Laying → Laying
  test_code held (label ∷ labels) (t.present of) test = op (i.LocalGet held) ▸ test ▸ op (i.Binary 18) ▸ op (i.JumpIf label)
  test_code held _ _ test = nothing

  abbrev if_code : Tree (t.option t.statement) → (test one other : Laying) → Laying
  if_code t.absent test one other = some (λ end. test ▸ op (i.JumpUnless end) ▸ one ▸ mark end)
  if_code (t.present of) test one other = chosen test one other

  unfoldable pub LaidStatement : {s : t.Sort} → Where → Part → Tree s → Laying
  LaidStatement y Whole (t.DeclaratorOf name value) = value_of value (LaidExpression y Value value) ▸ plain (initialised y.frame y.sees (name ∷ []))
  LaidStatement y Whole (t.HeadValue value) = LaidExpression y Value value ▸ op i.Pop
  LaidStatement y Whole (t.HeadDeclare constant declarators) = LaidStatement y Whole declarators
  LaidStatement y (Tests held labels) (t.CaseOf test list) = test_code held labels test (LaidExpression y Value test)
  LaidStatement y (Lists (label ∷ labels)) (t.CaseOf test list) = mark label ▸ LaidStatement y Whole list
  LaidStatement y Whole (t.Value value semi) = LaidExpression y Value value ▸ op i.Pop
  LaidStatement y Whole (t.Declare constant declarators semi) = LaidStatement y Whole declarators
  LaidStatement y Whole (t.ClassStatement class) = LaidExpression y Value class ▸ plain (initialised y.frame y.sees (class_name class))
  LaidStatement y Whole (t.Block list) =
      let g = within Inner (declared list) y.sees in
      plain (entry y.frame g (declared list) (functions_of list)) ▸ LaidStatement (seeing y g) Whole list
  LaidStatement y Whole (t.If test one other) = if_code other (LaidExpression y Value test) (LaidStatement y Whole one) (LaidStatement y Whole other)
  LaidStatement y Whole (t.For head test step body) =
      let g = within Inner (declared_by_head head) y.sees in
      let z = seeing y g in
      for_code z
      (plain (entry y.frame g (declared_by_head head) []) ▸ LaidStatement z Whole head)
      (plain (copies y.frame g (declared_by_head head)))
      (unless test (LaidExpression z Value test))
      (dropped step (LaidExpression z Value step))
      (λ w. LaidStatement (seeing w (in_body_of_loop g)) Whole body)
  LaidStatement y Whole (t.While test body) = while_code y (LaidExpression y Value test) (λ w. LaidStatement (seeing w (in_body_of_loop y.sees)) Whole body)
  LaidStatement y Whole (t.DoWhile body test semi) = do_code y (LaidExpression y Value test) (λ w. LaidStatement (seeing w (in_body_of_loop y.sees)) Whole body)
  LaidStatement y Whole (t.Break at semi) = leave Breaking y.round
  LaidStatement y Whole (t.Continue at semi) = leave Continuing y.round
  LaidStatement y Whole (t.Return at value semi) = value_of value (LaidExpression y Value value) ▸ leave Returning y.round
  LaidStatement y Whole (t.Throw value semi) = LaidExpression y Value value ▸ op i.Throw
  LaidStatement y Whole (t.Try block name catch finally) =
      let b = within Inner (declared block) y.sees in
      let c = within Inner (declared_by_catch name catch) y.sees in
      let f = within Inner (declared_in finally) y.sees in
      try_code y (is_there catch) (is_there finally)
      (λ w. plain (entry y.frame b (declared block) (functions_of block)) ▸ LaidStatement (seeing w b) Whole block)
      (λ w. plain (caught y.frame c name) ▸ plain (entry y.frame c (declared_in catch) (functions_in catch)) ▸ LaidStatement (seeing w c) Whole catch)
      (λ w. plain (entry y.frame f (declared_in finally) (functions_in finally)) ▸ LaidStatement (seeing w f) Whole finally)
  LaidStatement y Whole (t.Switch value cases) =
      let g = in_cases (within Inner (declared_in_cases cases) y.sees) in
      let z = seeing y g in
      switch_code y cases (LaidExpression y Value value)
      (plain (entry y.frame g (declared_in_cases cases) (functions_of_cases cases)))
      (λ held labels. LaidStatement z (Tests held labels) cases)
      (λ w labels. LaidStatement (seeing w g) (Lists labels) cases)
  LaidStatement y Whole (t.DefaultClass class) = LaidExpression y Value class
  LaidStatement y Whole (t.DefaultValue value) = LaidExpression y Value value
  LaidStatement y Whole (t.ExportDeclaration of) = LaidStatement y Whole of
  LaidStatement y Whole (t.ExportDefault at (t.DefaultFunction function) semi) = nothing
  LaidStatement y Whole (t.ExportDefault at value semi) = LaidStatement y Whole value ▸ plain (initialised y.frame y.sees (default_names at value))
  LaidStatement y Whole (t.Plain of) = LaidStatement y Whole of
  LaidStatement y (Tests held (label ∷ labels)) (t.more one rest) = LaidStatement y (Tests held (label ∷ [])) one ▸ LaidStatement y (Tests held labels) rest
  LaidStatement y (Lists (label ∷ labels)) (t.more one rest) = LaidStatement y (Lists (label ∷ [])) one ▸ LaidStatement y (Lists labels) rest
  LaidStatement y Whole (t.more one rest) = LaidStatement y Whole one ▸ LaidStatement y Whole rest
  LaidStatement y Whole (t.present one) = LaidStatement y Whole one
  LaidStatement y part _ = nothing

  -- ---- functions, from offset 0 to the end of their code; no handler is in force round them

  abbrev at_end : Laying
  at_end = op i.Undefined ▸ op i.Return

  abbrev laid_body : Where → Tree t.body → Laying
  laid_body y (t.BodyStatements list) = plain (entry y.frame y.sees (declared list) (functions_of list)) ▸ LaidStatement y Whole list ▸ at_end
  laid_body y (t.BodyExpression value) = LaidExpression y Value value ▸ op i.Return

  abbrev at_start : Frame → Setting → Where
  at_start x g = record { frame = x; sees = g; round = []; next = 0 }

  -- the code of a function that sees, within, what the setting says
  abbrev pub LaidFunction : Frame → Setting → Tree t.function → ℕ → Type 0
  LaidFunction x g (t.FunctionOf at name kind parameters body) end = (plain (beginning x g kind parameters) ▸ laid_body (at_start x g) body) None 0 end

  -- the code of a module's body
  abbrev pub LaidModule : Frame → Setting → Tree (t.list t.item) → ℕ → Type 0
  LaidModule x g items end = (plain (beginning x g f.Plain []) ▸ LaidStatement (at_start x g) Whole items ▸ at_end) None 0 end
