-- A set of modules on both sides: evaluation on its trees, and the byte machine on its code. Each side gives the whole end of a
-- boot: the outcome with its state, which holds the store, the meter, the counts, the queue of jobs and the trace.
use Rattle.std.specs.Prelude.{ℕ, false, List, [], ◌∷◌, map, codes, None}
use Rattle.std.specs.List.{flat_map}
use Rattle.byte_code.specs.declared.records.Modules.{Modules}
use Rattle.js_value.specs.Value.{Text}
use Rattle.es_model.specs.Tree as t
use Rattle.es_model.specs.Tree.{Tree}
use Rattle.es_ops.specs.State.{State, Limits}
use Rattle.es_ops.specs.ModuleGraph.{GraphFault}
use Rattle.es_ops.specs.Boot.{Engine, Outcome, Started, Starts, NoPlan, started, gone, for_main}
use Rattle.es_rows.specs.BuiltIns.{row}
use Rattle.es_rows.specs.Start.{start}
use Rattle.es_rows.specs.Realm.{realm_names, with_texts}
use Rattle.code_gen.specs.Modules.{names, number_among, code_of}
use Rattle.es_eval.specs.ModuleTables.{ModuleTable, module_table, sorts}
use Rattle.es_eval.specs.Boot.{engine as evaluation}
use Rattle.es_machine.specs.Tables.{sorts_in}
use Rattle.es_machine.specs.Bodies.{engine as machine}

-- ---- a set of modules

pub record Source : Type 0 where
  pub name : Text
  pub items : Tree (t.list t.item)

-- the names of the realm, then those of the modules' code, each once
abbrev pub names_of : List Source → List Text
names_of sources = with_texts realm_names (flat_map (λ s. names s.items s.name) sources)

abbrev pub code_by : List Text → List Source → Modules
code_by texts sources = record { names = texts; modules = map (λ s. code_of s.items s.name (number_among texts)) sources }

abbrev pub tables_of : List Source → List ModuleTable
tables_of sources = map (λ s. module_table s.name s.items) sources

-- ---- the end of main and its jobs

pub data End : Type 0 where
  Comes : Outcome → End
  Faults : GraphFault → End

abbrev pub end_of : Engine → Started → End
end_of engine (Starts outcome) = Comes (gone engine None outcome)
end_of engine (NoPlan fault) = Faults fault

abbrev pub main_from : Engine → State → End
main_from engine s = end_of engine (started engine (codes "main") s)

abbrev pub limits_of : (budget : ℕ) → Limits
limits_of budget = record { budget = budget; slots = 1048576; units = 4194304; first_writes = false }

-- with at most so many steps for a body and for a job
abbrev pub by_machine : (steps budget : ℕ) → List Source → End
by_machine steps budget sources =
    let code = code_by (names_of sources) sources in
    main_from (machine code row steps) (for_main (limits_of budget) [] (start (sorts_in code) code.names (limits_of budget)))

abbrev pub by_evaluation : (budget : ℕ) → List Source → End
by_evaluation budget sources =
    let tables = tables_of sources in
    main_from (evaluation tables) (for_main (limits_of budget) [] (start (sorts tables) (names_of sources) (limits_of budget)))

-- main as the only module
abbrev pub main_alone : Tree (t.list t.item) → List Source
main_alone items = record { name = codes "main"; items = items } ∷ []
