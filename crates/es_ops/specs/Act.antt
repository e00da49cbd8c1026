-- Acts: operations as data. An act may ask and do what events allow, take a turn, throw, stop, and call a function and
-- go on with what it returned. It sees neither meter nor depth, and it runs over any way of calling.
use Rattle.std.specs.Prelude.{ℕ, zero, suc, List, Option}
use Rattle.js_value.specs.Value.{Value}
use Rattle.es_ops.specs.State.{World, State}
use Rattle.es_ops.specs.Ledger.{Event, Happens, Stops, Stop, Budget, OutOf}
use Rattle.es_ops.specs.Events.{Question, Reply, reply, Deed, Answer, perform}

-- completions (ECMA-262 6.2.4) of a call
pub data Completion : Type 0 where
  NormalCompletion : Value → Completion
  ThrowCompletion : Value → Completion

-- Each definition of an act takes what comes after it. `target` is the new target of a construction.
pub data Act : Type 0 where
  Give : Value → Act
  Throw : Value → Act
  Halt : Stop → Act
  Turn : Act → Act  -- takes a unit of the meter first
  Ask : (q : Question) → (Reply q → Act) → Act
  Do : (d : Deed) → (Answer d → Act) → Act
  Call : (function this : Value) → (arguments : List Value) → (target : Option Value) → (Value → Act) → Act  -- what it throws goes out
  Try : (function this : Value) → (arguments : List Value) → (target : Option Value) → (Completion → Act) → Act

-- one act after another
infixl 10 ◌>>=◌
abbrev pub ◌>>=◌ : Act → (Value → Act) → Act
Give v >>= f = f v
Throw v >>= f = Throw v
Halt stop >>= f = Halt stop
Turn p >>= f = Turn (p >>= f)
Ask q k >>= f = Ask q (λ r. k r >>= f)
Do d k >>= f = Do d (λ r. k r >>= f)
Call g t vs n k >>= f = Call g t vs n (λ v. k v >>= f)
Try g t vs n k >>= f = Try g t vs n (λ c. k c >>= f)

-- one act after another, with what it throws too
abbrev pub by_completion : (Value → Act) → (Completion → Act) → Completion → Act
by_completion next f (NormalCompletion v) = next v
by_completion next f (ThrowCompletion v) = f (ThrowCompletion v)

abbrev pub completed : Act → (Completion → Act) → Act
completed (Give v) f = f (NormalCompletion v)
completed (Throw v) f = f (ThrowCompletion v)
completed (Halt stop) f = Halt stop
completed (Turn p) f = Turn (completed p f)
completed (Ask q k) f = Ask q (λ r. completed (k r) f)
completed (Do d k) f = Do d (λ r. completed (k r) f)
completed (Call g t vs n k) f = Try g t vs n (by_completion (λ v. completed (k v) f) f)
completed (Try g t vs n k) f = Try g t vs n (λ c. completed (k c) f)

-- ---- runs

pub data Ran : Type 0 where
  Ends : Completion → State → Ran
  Halts : Stop → State → Ran

abbrev pub Calls : Type 0
Calls = (function this : Value) → (arguments : List Value) → (target : Option Value) → State → Ran

abbrev pub with_world : State → World → State
with_world s w = record s { world = w }

-- takes a unit of the meter
abbrev pub spent : ℕ → State → (State → Ran) → Ran
spent zero s f = Halts Budget s
spent (suc n) s f = f (record s { meter = n })

abbrev pub happened : {A : Type 0} → Event World A → State → (A → State → Ran) → Ran
happened (Happens a w) s f = f a (with_world s w)
happened (Stops full) s f = Halts (OutOf full) s

abbrev pub returned : Ran → (Value → State → Ran) → Ran
returned (Ends (NormalCompletion v) s) f = f v s
returned (Ends (ThrowCompletion v) s) f = Ends (ThrowCompletion v) s
returned (Halts stop s) f = Halts stop s

abbrev pub ended : Ran → (Completion → State → Ran) → Ran
ended (Ends c s) f = f c s
ended (Halts stop s) f = Halts stop s

unfoldable pub run : Calls → Act → State → Ran
run calls (Give v) s = Ends (NormalCompletion v) s
run calls (Throw v) s = Ends (ThrowCompletion v) s
run calls (Halt stop) s = Halts stop s
run calls (Turn p) s = spent s.meter s (run calls p)
run calls (Ask q k) s = run calls (k (reply q s.world)) s
run calls (Do d k) s = happened (perform d s.world) s (λ a. run calls (k a))
run calls (Call g t vs n k) s = returned (calls g t vs n s) (λ v. run calls (k v))
run calls (Try g t vs n k) s = ended (calls g t vs n s) (λ c. run calls (k c))
