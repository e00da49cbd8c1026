-- Evaluation of trees (ECMA-262, sections 13 to 16), one case for each form. A form that this definition
-- doesn't have yet ends with Unbuilt.
use Rattle.std.specs.Prelude.{ℕ, zero, suc, ◌+◌, Bool, true, false, List, [], ◌∷◌, ◌++◌, Option, Some, None, nat_lt, codes}
use Rattle.std.specs.Str.{bytes_eq}
use Rattle.es_model.specs.Tree.{Text}
use Rattle.es_ops.specs.Calling.{most_depth}
use Rattle.es_ops.specs.State.{TraceEvent}
use Rattle.es_ops.specs.Host.{line_events}
use Rattle.es_model.specs.Tree as t
use Rattle.es_model.specs.Tree.{Tree}

-- ---- values, state, completions

-- the functions of the module `host`
pub data HostFunction : Type 0 where
  Print : HostFunction
  Read : HostFunction

pub data Value : Type 0 where
  Undefined : Value
  String : Text → Value
  Function : HostFunction → Value

-- what stops a run
pub data Limit : Type 0 where
  Budget : Limit
  Depth : Limit

-- The meter holds the units that are left, the depth the calls that are open.
pub record State : Type 0 where
  pub meter : ℕ
  pub depth : ℕ
  pub trace : List TraceEvent

-- Why a form did not complete normally (6.2.4, the abrupt completions). Stop is own: no script catches it.
pub data Abrupt : Type 0 where
  Return : Value → Abrupt
  Break : Abrupt
  Continue : Abrupt
  Throw : Value → Abrupt
  Stop : Limit → Abrupt
  Unbuilt : Abrupt

-- the completion of a form, and the state after it
pub data Completed (A : Type 0) : Type 0 where
  Normal : A → State → Completed A
  Ended : Abrupt → State → Completed A

abbrev pub Doing : Type 0 → Type 0
Doing A = State → Completed A

abbrev pub follow : {A B : Type 0} → Completed A → (A → Doing B) → Completed B
follow (Normal a s) next = next a s
follow (Ended e s) next = Ended e s

infixl 10 ◌>>=◌
abbrev pub ◌>>=◌ : {A B : Type 0} → Doing A → (A → Doing B) → Doing B
p >>= next = λ s. follow (p s) next

abbrev pub pure : {A : Type 0} → A → Doing A
pure a = λ s. Normal a s

abbrev pub ends : {A : Type 0} → Abrupt → Doing A
ends e = λ s. Ended e s

infixl 10 ◌>>◌
abbrev pub ◌>>◌ : {A B : Type 0} → Doing A → Doing B → Doing B
p >> q = p >>= (λ _. q)

-- ---- bindings

-- Where a binding's value stands. Each function of the host has a constant cell of its own.
pub data Cell : Type 0 where
  HostCell : HostFunction → Cell

abbrev pub Environment : Type 0
Environment = List (Text × Cell)

abbrev pub found_by : Bool → Cell → Option Cell → Option Cell
found_by true cell other = Some cell
found_by false cell other = other

-- the cell of the innermost binding of the name
unfoldable pub find : Environment → Text → Option Cell
find [] name = None
find (binding ∷ outer) name = found_by (bytes_eq binding.0 name) binding.1 (find outer name)

-- GetValue of a reference (6.2.5.5)
abbrev pub get_value : Option Cell → Doing Value
get_value (Some (HostCell function)) = pure (Function function)
get_value None = ends Unbuilt

-- ---- calls

-- A unit of the meter is taken before each call, or the run stops (own).
abbrev pub with_meter : ℕ → State → State
with_meter units s = record s { meter = units }

abbrev pub taken : ℕ → State → Completed (Unit {0})
taken zero s = Ended (Stop Budget) s
taken (suc units) s = Normal tt (with_meter units s)

abbrev pub take_unit : Doing (Unit {0})
take_unit = λ s. taken s.meter s

abbrev pub with_depth : ℕ → State → State
with_depth calls s = record s { depth = calls }

-- One call more is open, or the run stops (own).
abbrev pub entered : Bool → State → Completed (Unit {0})
entered true s = Normal tt (with_depth (s.depth + 1) s)
entered false s = Ended (Stop Depth) s

abbrev pub enter : Doing (Unit {0})
enter = λ s. entered (nat_lt s.depth most_depth) s

-- what a call completed with, the depth being what it was before
abbrev pub left : {A : Type 0} → ℕ → Completed A → Completed A
left calls (Normal a s) = Normal a (with_depth calls s)
left calls (Ended e s) = Ended e (with_depth calls s)

abbrev pub within_call : {A : Type 0} → Doing A → Doing A
within_call p = λ s. left s.depth (follow (enter s) (λ _. p))

abbrev pub print : Text → Doing Value
print text = λ s. Normal Undefined (record s { trace = s.trace ++ line_events text })

-- print(x) writes the text of a primitive and a line feed (own)
abbrev pub print_value : Value → Doing Value
print_value Undefined = print (codes "undefined")
print_value (String text) = print text
print_value (Function function) = ends Unbuilt

abbrev pub first : List Value → Value
first [] = Undefined
first (value ∷ values) = value

abbrev pub host_function : HostFunction → List Value → Doing Value
host_function Print arguments = print_value (first arguments)
host_function Read arguments = ends Unbuilt

-- Call (7.3.13)
abbrev pub call : Value → List Value → Doing Value
call (Function function) arguments = take_unit >> within_call (host_function function arguments)
call Undefined arguments = ends Unbuilt
call (String text) arguments = ends Unbuilt

-- ---- forms

abbrev pub Meaning : t.Sort → Type 0
Meaning t.expression = Environment → Doing Value
Meaning (t.list t.expression) = Environment → Doing (List Value)
Meaning t.statement = Environment → Doing (Unit {0})
Meaning t.item = Environment → Doing (Unit {0})
Meaning (t.list t.item) = Environment → Doing (Unit {0})
Meaning _ = Unit {0}

-- a form of a sort that has no meaning of its own, or that this definition doesn't have yet
abbrev pub unbuilt : (s : t.Sort) → Meaning s
unbuilt t.expression = λ env. ends Unbuilt
unbuilt (t.list t.expression) = λ env. ends Unbuilt
unbuilt t.statement = λ env. ends Unbuilt
unbuilt t.item = λ env. ends Unbuilt
unbuilt (t.list t.item) = λ env. ends Unbuilt
unbuilt _ = tt

-- What is run with one unit of the meter less: the body of a call, the next turn of a loop.
abbrev pub Run : Type 0
Run = Tree t.statement → Environment → Doing (Unit {0})

module _ (smaller : Run) where
  -- the meaning of a form, in an environment
  unfoldable pub meaning : {s : t.Sort} → Tree s → Meaning s
  -- an identifier reference (13.1.3)
  meaning (t.Name identifier) = λ env. get_value (find env identifier.name)
  -- a string literal (13.2.3)
  meaning (t.String text) = λ env. pure (String text)
  -- a call (13.3.6.1): the callee, then the arguments (13.3.8.1), then the call
  meaning (t.Call callee arguments) = λ env. do
    function ← meaning callee env
    values ← meaning arguments env
    call function values
  meaning (t.none {s = t.expression}) = λ env. pure []
  meaning (t.more {s = t.expression} form forms) = λ env. do
    value ← meaning form env
    values ← meaning forms env
    pure (value ∷ values)
  -- an expression statement (14.5.1)
  meaning (t.Value form semi) = λ env. meaning form env >> pure tt
  -- An import has no evaluation of its own (16.2.1.12): its bindings are made before any body runs.
  meaning (t.Import from names semi) = λ env. pure tt
  meaning (t.Plain form) = λ env. meaning form env
  meaning (t.none {s = t.item}) = λ env. pure tt
  meaning (t.more {s = t.item} form forms) = λ env. meaning form env >> meaning forms env
  meaning {s} _ = unbuilt s

-- What runs where no unit is left: nothing in it can take one, so that no smaller meter is asked.
abbrev pub stopped : Run
stopped form env = ends (Stop Budget)

-- evaluation with so many units of the meter
unfoldable pub evaluator : ℕ → Run
evaluator zero = λ form env. meaning stopped form env
evaluator (suc units) = λ form env. meaning (evaluator units) form env
