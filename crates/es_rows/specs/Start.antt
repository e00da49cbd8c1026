-- The state in which a run begins that no image gives: the realm, and modules of which none is evaluated.
use Rattle.std.specs.Prelude.{ℕ, List, [], map, None}
use Rattle.js_value.specs.Value.{Text}
use Rattle.es_ops.specs.State.{FunctionSort, State, Limits, NotEvaluated, nothing, room_of, costs_at_start}
use Rattle.es_rows.specs.Realm.{realm_store, realm_places}

-- `functions` tells for each module what its functions are, and `names` the texts that are names from the start.
abbrev pub start : (functions : List (List FunctionSort)) → (names : List Text) → Limits → State
start functions names limits = record {
  meter = limits.budget;
  depth = 0;
  world = record {
    heap = record {
      store = realm_store;
      realm = realm_places;
      names = names;
      ledger = record { used = nothing; room = room_of limits names; first_costs = costs_at_start limits.first_writes realm_store };
      jobs = [];
    };
    rejections = [];
    modules = map (λ sorts. NotEvaluated) functions;
    functions = functions;
    trace = [];
    input = None;
  };
}
