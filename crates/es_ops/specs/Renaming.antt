-- Two worlds that are the same but for the numbers of things, and what two runs over them come to. The numbers of the
-- things that both have stand in pairs, and each thing that is made adds one.
use Rattle.std.specs.Prelude.{◌≡◌, ℕ, ◌<◌, ◌≤◌, List, [], ◌∷◌, length, Option, get_or, slice_get, ◌⊎◌}
use Rattle.js_value.specs.Value.{Value}
use Rattle.es_ops.specs.Intrinsics.{Intrinsic, place_of}
use Rattle.es_ops.specs.State.{Heap, World, State, ModuleState, NotEvaluated, SetUp, Evaluated, Preloaded}
use Rattle.es_ops.specs.Ledger.{Event, Happens, Stops}
use Rattle.es_ops.specs.Act.{Act, Ran, Ends, Halts, Calls}
use Rattle.es_ops.specs.Laws.{IsWorldWellFormed}
use Rattle.es_ops.specs.Related.{Naming, BothOption, BothList, BothValue, BothThing, BothJob, BothCompletion, Related, IsOneToOne}

abbrev pub Pairs : Type 0
Pairs = List (ℕ × ℕ)

abbrev pub named : Pairs → Naming
named [] m n = ⊥
named (p ∷ ps) m n = ((m ≡ p.0) × (n ≡ p.1)) ⊎ named ps m n

abbrev pub Extends : Pairs → Pairs → Type 0
Extends ps qs = (m n : ℕ) → named ps m n → named qs m n

-- two acts that are related, and stay so whatever things are made
abbrev pub Kept : Pairs → Act → Act → Type 0
Kept ps a b = (qs : Pairs) → Extends ps qs → IsOneToOne (named qs) → Related (named qs) a b

pub data BothModule (R : Naming) : ModuleState → ModuleState → Type 0 where
  BothNotEvaluated : BothModule R NotEvaluated NotEvaluated
  BothSetUp : {cs ds : List ℕ} → BothList R cs ds → BothModule R (SetUp cs) (SetUp ds)
  BothEvaluated : {cs ds : List ℕ} → BothList R cs ds → BothModule R (Evaluated cs) (Evaluated ds)
  BothPreloaded : {cs ds : List ℕ} → BothList R cs ds → BothModule R (Preloaded cs) (Preloaded ds)

pub record BothHeap (ps : Pairs) (h g : Heap) : Type 0 where
  pub one_to_one : IsOneToOne (named ps)
  pub stand : (m n : ℕ) → named ps m n → (m < length h.store) × (n < length g.store)
  pub things : (m n : ℕ) → named ps m n → BothOption (BothThing (named ps)) (slice_get h.store m) (slice_get g.store n)
  pub realm : (i : Intrinsic) → named ps (get_or h.realm (place_of i) 0) (get_or g.realm (place_of i) 0)
  pub names : h.names ≡ g.names
  pub used : h.ledger.used ≡ g.ledger.used
  pub room : h.ledger.room ≡ g.ledger.room
  pub costs : (m n : ℕ) → named ps m n → get_or h.ledger.first_costs m 0 ≡ get_or g.ledger.first_costs n 0
  pub costs_left : length h.ledger.first_costs ≤ length h.store
  pub costs_right : length g.ledger.first_costs ≤ length g.store
  pub jobs : BothList (BothJob (named ps)) h.jobs g.jobs

pub record BothWorld (ps : Pairs) (w v : World) : Type 0 where
  pub heap : BothHeap ps w.heap v.heap
  pub rejections : BothList (named ps) w.rejections v.rejections
  pub modules : BothList (BothModule (named ps)) w.modules v.modules
  pub functions : w.functions ≡ v.functions
  pub trace : w.trace ≡ v.trace
  pub input : w.input ≡ v.input

pub record BothSides (ps : Pairs) (s t : State) : Type 0 where
  pub world : BothWorld ps s.world t.world
  pub well : IsWorldWellFormed s.world
  pub meter : s.meter ≡ t.meter
  pub depth : s.depth ≡ t.depth

-- both events happen, and their answers are related, or both stop alike
abbrev pub BothEvent : {W A B : Type 0} → (Both : Pairs → W → W → Type 0) → Pairs → (Naming → A → B → Type 0) → Event W A → Event W B → Type 0
BothEvent Both ps Answers (Happens a w) (Happens b v) = (qs : Pairs) × Extends ps qs × Both qs w v × Answers (named qs) a b
BothEvent Both ps Answers (Stops f) (Stops g) = f ≡ g
BothEvent Both ps Answers _ _ = ⊥

abbrev pub BothRan : Pairs → Ran → Ran → Type 0
BothRan ps (Ends c s) (Ends d t) = (qs : Pairs) × Extends ps qs × BothSides qs s t × BothCompletion (named qs) c d
BothRan ps (Halts x s) (Halts y t) = (x ≡ y) × ((qs : Pairs) × Extends ps qs × BothSides qs s t)
BothRan ps _ _ = ⊥

abbrev pub BothCalling : Calls → Calls → Type 0
BothCalling c d = (ps : Pairs) (f g this that : Value) (vs ws : List Value) (x y : Option Value) (s t : State)
    → BothValue (named ps) f g → BothValue (named ps) this that → BothList (BothValue (named ps)) vs ws → BothOption (BothValue (named ps)) x y → BothSides ps s t
    → BothRan ps (c f this vs x s) (d g that ws y t)
