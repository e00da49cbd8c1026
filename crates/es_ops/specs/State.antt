-- What a run holds. Operations see and change the world: what its heap holds, and the rest. The meter and the depth belong
-- to calls.
use Rattle.std.specs.Prelude.{ℕ, ◌+◌, ◌-◌, ◌*◌, Bool, true, false, List, [], length, map, sum_by, Option}
use Rattle.js_value.specs.Value.{Text}
use Rattle.js_value.specs.Store.{Store, size}
use Rattle.js_value.specs.Job.{Job}
use Rattle.js_value.specs.declared.counts.Room.{Room}

-- ---- modules

-- A module that isn't evaluated, one whose top-level bindings are made, and one whose body has run or was run before the
-- image was written, which keeps the cells of its exports alone.
pub data ModuleState : Type 0 where
  NotEvaluated : ModuleState
  SetUp : (cells : List ℕ) → ModuleState
  Evaluated : (exports : List ℕ) → ModuleState
  Preloaded : (exports : List ℕ) → ModuleState

abbrev pub cells_of : ModuleState → List ℕ
cells_of NotEvaluated = []
cells_of (SetUp cells) = cells
cells_of (Evaluated exports) = exports
cells_of (Preloaded exports) = exports

-- ---- functions

-- What a script function is, by its code: an arrow, a method or an accessor has no [[Construct]] (ECMA-262 10.2), a plain
-- function has both, and a class's constructor is not called without `new`.
pub data FunctionSort : Type 0 where
  OnlyCalled : FunctionSort
  CalledAndConstructed : FunctionSort
  OnlyConstructed : FunctionSort

-- ---- the outside

-- what was written, and the lines that were taken from the input
pub data TraceEvent : Type 0 where
  Wrote : List ℕ → TraceEvent
  Took : Text → TraceEvent

-- ---- the ledger's counts (own)

abbrev pub nothing : Room
nothing = record { slots = 0; units = 0; names = 0 }

abbrev pub some_slots : ℕ → Room
some_slots n = record { slots = n; units = 0; names = 0 }

abbrev pub some_units : ℕ → Room
some_units n = record { slots = 0; units = n; names = 0 }

abbrev pub plus : Room → Room → Room
plus a b = record { slots = a.slots + b.slots; units = a.units + b.units; names = a.names + b.names }

-- first writes are counted by `run` and `resume`, and not by `link`, `boot` and `eval`
pub record Limits : Type 0 where
  pub budget : ℕ
  pub slots : ℕ
  pub units : ℕ
  pub first_writes : Bool

-- all names together, those known at the start among them
abbrev pub most_names : ℕ
most_names = 65535

abbrev pub room_of : Limits → (known : List Text) → Room
room_of limits known = record { slots = limits.slots; units = limits.units; names = most_names - length known }

-- the ledger: what was used, the limits, and for each thing what its next write costs first: its size at the start
-- until it is written, then 0, and 0 for things that were made since (or for all, where first writes aren't counted)
pub record Ledger : Type 0 where
  pub used : Room
  pub room : Room
  pub first_costs : List ℕ

-- ---- the world

-- the things with all that property operations and the steps of built-in functions see and change
pub record Heap : Type 0 where
  pub store : Store
  pub realm : List ℕ  -- the number of each thing of the realm, in the realm's order
  pub names : List Text  -- the texts that are names, in the order in which they became so
  pub ledger : Ledger
  pub jobs : List Job  -- the first one runs first

pub record World : Type 0 where
  pub heap : Heap
  pub rejections : List ℕ  -- promises that were rejected while they had no reaction
  pub modules : List ModuleState
  pub functions : List (List FunctionSort)  -- by module and function number; no operation changes it
  pub trace : List TraceEvent
  pub input : Option (List ℕ)  -- the bytes that are left; none where there is no host

pub record State : Type 0 where
  pub world : World
  pub meter : ℕ
  pub depth : ℕ

-- the costs of first writes when a run starts on a store of preloaded things
abbrev pub costs_at_start : Bool → Store → List ℕ
costs_at_start true s = map size s
costs_at_start false s = []

-- the counts with which `resume` starts: the snapshot's slots and four for each job, its units with those of its names, its names
abbrev pub counts_at_resume : (slots units : ℕ) → (names : List Text) → List Job → Room
counts_at_resume slots units names jobs = record { slots = slots + 4 * length jobs; units = units + sum_by length names; names = length names }
