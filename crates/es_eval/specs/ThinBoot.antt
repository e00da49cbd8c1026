-- Booting one module, and what a run tells of itself. Own rules, over the evaluation of modules (16.2.1).
use Rattle.std.specs.Prelude.{ℕ, Bool, true, false, List, [], ◌∷◌, ◌++◌, Option, Some, None, codes, if◌then◌else◌}
use Rattle.std.specs.Str.{bytes_eq}
use Rattle.es_model.specs.Tree.{Text}
use Rattle.es_model.specs.declared.names.Pair.{Pair}
use Rattle.es_ops.specs.Host.{written, line_events}
use Rattle.es_model.specs.Tree as t
use Rattle.es_model.specs.Tree.{Tree}
use Rattle.es_eval.specs.ThinEvaluation.{Value, Undefined, String, Function, HostFunction, Print, Read, Limit, Budget, Depth, State, Throw, Stop, Unbuilt, Completed, Normal, Ended, Environment, HostCell, meaning, evaluator}

-- ---- imports of the module `host`

abbrev pub host_export : Text → Option HostFunction
host_export name =
    if bytes_eq name (codes "print") then Some Print
    else if bytes_eq name (codes "read") then Some Read
    else None

abbrev pub bound_by : Option HostFunction → Text → Option Environment → Option Environment
bound_by (Some function) name (Some env) = Some ((name, HostCell function) ∷ env)
bound_by _ name _ = None

-- the bindings of an import list, or None where the host has no such export
abbrev pub bindings : List Pair → Option Environment → Option Environment
bindings [] env = env
bindings (pair ∷ pairs) env = bound_by (host_export pair.taken.name) pair.given.name (bindings pairs env)

abbrev pub imports : Bool → List Pair → Option Environment → Option Environment
imports true names env = bindings names env
imports false names env = None

-- the environment of a module's top level, or None where an import has no export
unfoldable pub top_level : Tree (t.list t.item) → Option Environment
top_level (t.more (t.Import from names semi) items) = imports (bytes_eq from (codes "host")) names (top_level items)
top_level (t.more item items) = top_level items
top_level t.none = Some []

-- ---- the run

-- With a budget: no call is open and nothing is written.
abbrev pub start : ℕ → State
start budget = record { meter = budget; depth = 0; trace = [] }

abbrev pub run_in : ℕ → Tree (t.list t.item) → Option Environment → Completed (Unit {0})
run_in budget items (Some env) = meaning (evaluator budget) items env (start budget)
run_in budget items None = Ended Unbuilt (start budget)

-- the evaluation of a module's items as the one module of a boot
unfoldable pub run : ℕ → Tree (t.list t.item) → Completed (Unit {0})
run budget items = run_in budget items (top_level items)

-- ---- what is told of it

pub record Told : Type 0 where
  pub status : ℕ
  pub bytes : List ℕ

-- the text of a value that nothing caught; of a function it is its name
abbrev pub text_of : Value → Text
text_of Undefined = codes "undefined"
text_of (String text) = text
text_of (Function Print) = codes "print"
text_of (Function Read) = codes "read"

abbrev pub name_of : Limit → Text
name_of Budget = codes "budget"
name_of Depth = codes "depth"

-- the bytes of the trace and of one line more
abbrev pub with_line : ℕ → State → Text → Told
with_line status s text = record { status = status; bytes = written (s.trace ++ line_events text) }

-- The end of a run: its bytes and its status. An abrupt completion other than a throw or a stop reaches
-- no module body, so that the last case never comes.
abbrev pub told : Completed (Unit {0}) → Told
told (Normal done s) = record { status = 0; bytes = written s.trace }
told (Ended (Throw value) s) = with_line 1 s (codes "uncaught: " ++ text_of value)
told (Ended (Stop limit) s) = with_line 5 s (codes "stopped: " ++ name_of limit)
told (Ended _ s) = record { status = 3; bytes = written s.trace }
