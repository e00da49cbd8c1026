-- The instructions, one case for each: a move of the frame, or an act for whose value the frame waits.
use Rattle.std.specs.Prelude.{ℕ, zero, suc, Bool, true, false, List, [], ◌∷◌, Option, Some, None, slice_get, not}
use Rattle.byte_code.specs.declared.instruction.Op.{Op}
use Rattle.byte_code.specs.declared.instruction.Op.TheVariants as i
use Rattle.js_value.specs.Value.{Value, Undefined, Null, Boolean, Number, String, Object}
use Rattle.js_value.specs.Store.{Class, ScriptFunction}
use Rattle.es_ops.specs.State.{World, State}
use Rattle.es_ops.specs.Ledger.{Budget}
use Rattle.es_ops.specs.Events.{TheClass, reply}
use Rattle.es_ops.specs.Act.{Act, Give, Halts}
use Rattle.es_ops.specs.Errors.{raise}
use Rattle.es_ops.specs.Messages.{NotInitialised, SuperCalledTwice, NotAnObject, NotAFunction}
use Rattle.es_ops.specs.Conversions.{to_boolean}
use Rattle.es_ops.specs.Bindings.{make_cell, initialize_cell, read_cell, write_cell, copy_cell}
use Rattle.es_ops.specs.References.{super_get, super_set}
use Rattle.es_ops.specs.Calling.{super_call, this_or_raise, base_result, derived_result, or_null}
use Rattle.es_ops.specs.Making.{FunctionCode, make_function, make_method, make_class, make_derived_class}
use Rattle.es_ops.specs.Operate.{ValueOperation, ApplyBinary, ApplyUnary, TakeType, TestIn, TestInstance, ConvertText, ConvertKey, GetProperty, PutProperty, DeleteProperty, MakeObject, MakeArray, AppendElement, DefineMember, NameFunction, JoinTexts, CallFunction, Construct, operate}
use Rattle.byte_code.specs.declared.records.FunctionCode as code
use Rattle.byte_code.specs.declared.records.Modules.{Modules}
use Rattle.es_machine.specs.Tables as t
use Rattle.es_machine.specs.Tables.{name_in, function_in, kind_of}
use Rattle.es_machine.specs.Rows.{global_value, binary_operator, unary_operator, message_of, member_of, naming_sort}
use Rattle.es_machine.specs.Frames.{Content, Uninitialised, Holds, Pointer, place_at, with_place, Frame, Below, Instructed, Config, Running, Performing, Throwing, Finished, Stuck, taken, cell_of, captured_cells}

-- ---- what a value does to the frame that waits for it

abbrev pub pushed : Value → Frame → Frame
pushed v f = record f { stack = v ∷ f.stack }

-- a cell that was made is given as the value that names it
abbrev pub pointed : ℕ → Value → Frame → Frame
pointed x (Object c) f = record f { places = with_place f.places x (Pointer c) }
pointed x v f = f

-- a class's prototype object is its constructor's home object
abbrev pub home_of : Class → Option ℕ
home_of (ScriptFunction module_number function_number home captured) = home
home_of c = None

abbrev pub home_value : World → Value → Value
home_value w (Object n) = or_null (home_of (reply (TheClass n) w))
home_value w v = Null

abbrev pub class_pushed : World → Value → Frame → Frame
class_pushed w c f = pushed (home_value w c) (pushed c f)

abbrev pub received : Op → Value → World → Frame → Frame
received (i.BoxLet x) v w f = pointed x v f
received (i.BoxConst x) v w f = pointed x v f
received (i.BoxCopy x) v w f = pointed x v f
received (i.BoxInit x) v w f = f
received (i.BoxPut x) v w f = f
received (i.OuterInit q) v w f = f
received (i.OuterPut q) v w f = f
received (i.Class n) v w f = class_pushed w v f
received (i.ClassExtends n) v w f = class_pushed w v f
received op v w f = pushed v f

-- ---- parts of instructions

abbrev pub value_in_place : Content → Value
value_in_place (Holds v) = v
value_in_place content = Undefined

abbrev pub is_nullish : Value → Bool
is_nullish Undefined = true
is_nullish Null = true
is_nullish v = false

-- with the cell that a place or an outer number names
abbrev pub with_cell : Option ℕ → (ℕ → Act) → Act
with_cell None act = raise NotInitialised
with_cell (Some c) act = act c

-- a function's code as what makes it asks for it
abbrev pub made_of : Modules → (module_number function_number : ℕ) → code.FunctionCode → FunctionCode
made_of table module_number function_number code = record {
  module_number = module_number;
  function_number = function_number;
  name = name_in table code.name;
  parameters = code.parameters;
}

abbrev pub by_cells : Option (List ℕ) → (List ℕ → Act) → Act
by_cells None act = raise NotInitialised
by_cells (Some cells) act = act cells

-- With the code and the cells of a function of the frame's module. Own: a function that isn't there is no function.
abbrev pub with_code : Modules → Frame → ℕ → Option code.FunctionCode → (t.FunctionKind → FunctionCode → List ℕ → Act) → Act
with_code table f n None act = raise NotAFunction
with_code table f n (Some code) act = by_cells (captured_cells f code.captures) (act (kind_of code) (made_of table f.module_number n code))

abbrev pub with_function : Modules → Frame → ℕ → (t.FunctionKind → FunctionCode → List ℕ → Act) → Act
with_function table f n act = with_code table f n (function_in table f.module_number n) act

abbrev pub function_act : t.FunctionKind → FunctionCode → List ℕ → Act
function_act t.Arrow code cells = make_method code None cells (λ n. Give (Object n))
function_act kind code cells = make_function code cells (λ n. Give (Object n))

-- own: the object is tested before the cells
abbrev pub method_act : Modules → Frame → ℕ → (home : Value) → Act
method_act table f n (Object home) = with_function table f n (λ kind code cells. make_method code (Some home) cells (λ n. Give (Object n)))
method_act table f n home = raise NotAnObject

abbrev pub class_act : t.FunctionKind → FunctionCode → List ℕ → Act
class_act kind code cells = make_class code cells (λ c p. Give (Object c))

abbrev pub derived_class_act : Value → t.FunctionKind → FunctionCode → List ℕ → Act
derived_class_act parent kind code cells = make_derived_class code cells parent (λ c p. Give (Object c))

-- what a call ends with, by the function's kind (ECMA-262 10.2.1, 10.2.2)
abbrev pub constructed_or : Option Value → (this : Option Value) → (returned : Value) → Act
constructed_or None this v = Give v
constructed_or (Some target) this v = this_or_raise this (λ this. base_result this v Give)

abbrev pub result_of : t.FunctionKind → Frame → (returned : Value) → Act
result_of t.Derived f v = derived_result f.this v Give
result_of kind f v = constructed_or f.target f.this v

-- ---- the instructions

module _ (table : Modules) (f : Frame) (next : ℕ) (below : List Below) (s : State) where
  abbrev pub continues : List Value → Config
  continues stack = Running (record f { at = next; stack = stack }) below s

  abbrev pub jumps : Bool → ℕ → List Value → Config
  jumps true to stack = Running (record f { at = to; stack = stack }) below s
  jumps false to stack = continues stack

  -- an act, whose value or throw comes to this instruction
  abbrev pub performs : Act → (rest : List Value) → Config
  performs act rest = Performing act (Instructed (record f { stack = rest }) ∷ below) s

  abbrev pub applies : ValueOperation → List Value → (rest : List Value) → Config
  applies operation vs rest = performs (operate operation vs) rest

  abbrev pub puts : ℕ → Content → List Value → Config
  puts x content stack = Running (record f { at = next; stack = stack; places = with_place f.places x content }) below s

  abbrev pub checks : Content → List Value → Config
  checks Uninitialised stack = performs (raise NotInitialised) stack
  checks content stack = continues stack

  abbrev pub turns : (meter : ℕ) → List Value → Config
  turns zero stack = Finished (Halts Budget s)
  turns (suc n) stack = Running (record f { at = next; stack = stack }) below (record s { meter = n })

  -- own: outside a derived constructor `this` is bound already
  abbrev pub binds : t.FunctionKind → (this : Option Value) → Value → List Value → Config
  binds t.Derived None (Object n) stack = Running (record f { at = next; stack = Object n ∷ stack; this = Some (Object n) }) below s
  binds t.Derived None v stack = performs (raise NotAnObject) stack
  binds kind this v stack = performs (raise SuperCalledTwice) stack

  -- the values of a call stand on `this` and the function, of a construction on the function
  abbrev pub calls : Option (List Value × List Value) → Config
  calls (Some (arguments, (g ∷ this ∷ stack))) = applies CallFunction (this ∷ g ∷ arguments) stack
  calls other = Stuck

  abbrev pub constructs : Option (List Value × List Value) → Config
  constructs (Some (arguments, (g ∷ stack))) = applies Construct (g ∷ arguments) stack
  constructs other = Stuck

  abbrev pub constructs_parent : Option (List Value × List Value) → Config
  constructs_parent (Some (arguments, stack)) = performs (super_call f.function f.target arguments Give) stack
  constructs_parent None = Stuck

  abbrev pub joins : Option (List Value × List Value) → Config
  joins (Some (vs, stack)) = applies JoinTexts vs stack
  joins None = Stuck

  abbrev pub name_value : ℕ → Value
  name_value n = String (name_in table n)

  unfoldable pub execute : Op → (stack : List Value) → Config
  execute i.Undefined stack = continues (Undefined ∷ stack)
  execute i.Null stack = continues (Null ∷ stack)
  execute i.True stack = continues (Boolean true ∷ stack)
  execute i.False stack = continues (Boolean false ∷ stack)
  execute (i.Int n) stack = continues (Number n ∷ stack)
  execute (i.Mid n) stack = continues (Number n ∷ stack)
  execute (i.Long n) stack = continues (Number n ∷ stack)
  execute (i.Text n) stack = continues (name_value n ∷ stack)
  execute i.This stack = performs (this_or_raise f.this Give) stack
  execute i.Pop (a ∷ stack) = continues stack
  execute i.Dup (a ∷ stack) = continues (a ∷ a ∷ stack)
  execute i.Dup2 (b ∷ a ∷ stack) = continues (b ∷ a ∷ b ∷ a ∷ stack)
  execute i.Swap (b ∷ a ∷ stack) = continues (a ∷ b ∷ stack)
  execute i.Rot3 (c ∷ b ∷ a ∷ stack) = continues (b ∷ a ∷ c ∷ stack)
  execute i.Rot4 (d ∷ c ∷ b ∷ a ∷ stack) = continues (c ∷ b ∷ a ∷ d ∷ stack)
  execute (i.LocalGet x) stack = continues (value_in_place (place_at f.places x) ∷ stack)
  execute (i.LocalPut x) (v ∷ stack) = puts x (Holds v) stack
  execute (i.LocalCheck x) stack = checks (place_at f.places x) stack
  execute (i.LocalClear x) stack = puts x Uninitialised stack
  execute (i.BoxLet x) stack = performs (make_cell false (λ c. Give (Object c))) stack
  execute (i.BoxConst x) stack = performs (make_cell true (λ c. Give (Object c))) stack
  execute (i.BoxGet x) stack = performs (with_cell (cell_of (place_at f.places x)) (λ c. read_cell c Give)) stack
  execute (i.BoxInit x) (v ∷ stack) = performs (with_cell (cell_of (place_at f.places x)) (λ c. initialize_cell c v (Give v))) stack
  execute (i.BoxPut x) (v ∷ stack) = performs (with_cell (cell_of (place_at f.places x)) (λ c. write_cell c v (Give v))) stack
  execute (i.BoxCopy x) stack = performs (with_cell (cell_of (place_at f.places x)) (λ c. copy_cell c (λ d. Give (Object d)))) stack
  execute (i.OuterGet q) stack = performs (with_cell (slice_get f.outer q) (λ c. read_cell c Give)) stack
  execute (i.OuterInit q) (v ∷ stack) = performs (with_cell (slice_get f.outer q) (λ c. initialize_cell c v (Give v))) stack
  execute (i.OuterPut q) (v ∷ stack) = performs (with_cell (slice_get f.outer q) (λ c. write_cell c v (Give v))) stack
  execute (i.Global row) stack = performs (global_value row) stack
  execute (i.Get n) (o ∷ stack) = applies GetProperty (o ∷ name_value n ∷ []) stack
  execute i.GetKey (k ∷ o ∷ stack) = applies GetProperty (o ∷ k ∷ []) stack
  execute (i.Set n) (v ∷ o ∷ stack) = applies PutProperty (o ∷ name_value n ∷ v ∷ []) stack
  execute i.SetKey (v ∷ k ∷ o ∷ stack) = applies PutProperty (o ∷ k ∷ v ∷ []) stack
  execute (i.Delete n) (o ∷ stack) = applies DeleteProperty (o ∷ name_value n ∷ []) stack
  execute i.DeleteKey (k ∷ o ∷ stack) = applies DeleteProperty (o ∷ k ∷ []) stack
  execute (i.SuperGet n) (t ∷ stack) = performs (super_get f.home t (name_value n) Give) stack
  execute i.SuperGetKey (k ∷ t ∷ stack) = performs (super_get f.home t k Give) stack
  execute (i.SuperSet n) (v ∷ t ∷ stack) = performs (super_set f.home t (name_value n) v (Give v)) stack
  execute i.SuperSetKey (v ∷ k ∷ t ∷ stack) = performs (super_set f.home t k v (Give v)) stack
  execute i.In (o ∷ k ∷ stack) = applies TestIn (k ∷ o ∷ []) stack
  execute i.InstanceOf (g ∷ o ∷ stack) = applies TestInstance (o ∷ g ∷ []) stack
  execute (i.Binary row) (b ∷ a ∷ stack) = applies (ApplyBinary (binary_operator row)) (a ∷ b ∷ []) stack
  execute (i.Unary row) (a ∷ stack) = applies (ApplyUnary (unary_operator row)) (a ∷ []) stack
  execute i.Typeof (a ∷ stack) = applies TakeType (a ∷ []) stack
  execute i.ToText (a ∷ stack) = applies ConvertText (a ∷ []) stack
  execute (i.Join count) stack = joins (taken count stack)
  execute i.ToKey (k ∷ o ∷ stack) = applies ConvertKey (o ∷ k ∷ []) (o ∷ stack)
  execute (i.Jump to) stack = jumps true to stack
  execute (i.JumpIf to) (a ∷ stack) = jumps (to_boolean a) to stack
  execute (i.JumpUnless to) (a ∷ stack) = jumps (not (to_boolean a)) to stack
  execute (i.JumpValue to) (a ∷ stack) = jumps (not (is_nullish a)) to stack
  execute i.Turn stack = turns s.meter stack
  execute (i.Call count) stack = calls (taken count stack)
  execute (i.New count) stack = constructs (taken count stack)
  execute (i.SuperCall count) stack = constructs_parent (taken count stack)
  execute i.BindThis (v ∷ stack) = binds (kind_of f.code) f.this v stack
  execute i.Return (v ∷ stack) = Performing (result_of (kind_of f.code) f v) below s
  execute i.Throw (v ∷ stack) = Throwing v (Instructed f ∷ below) s
  execute (i.ThrowMessage number) stack = performs (raise (message_of number)) stack
  execute (i.Function n) stack = performs (with_function table f n function_act) stack
  execute (i.Method n) (k ∷ o ∷ stack) = performs (method_act table f n o) (k ∷ o ∷ stack)
  execute (i.Class n) stack = performs (with_function table f n class_act) stack
  execute (i.ClassExtends n) (parent ∷ stack) = performs (with_function table f n (derived_class_act parent)) stack
  execute i.Object stack = applies MakeObject [] stack
  execute i.Array stack = applies MakeArray [] stack
  execute i.Append (v ∷ a ∷ stack) = applies AppendElement (a ∷ v ∷ []) stack
  execute (i.Define mode) (v ∷ k ∷ o ∷ stack) = applies (DefineMember (member_of mode).sort (member_of mode).enumerable) (o ∷ k ∷ v ∷ []) stack
  execute (i.NameIt mode) (g ∷ k ∷ stack) = applies (NameFunction (naming_sort mode)) (k ∷ g ∷ []) (k ∷ stack)
  execute op stack = Stuck
