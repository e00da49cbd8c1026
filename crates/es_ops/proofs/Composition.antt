-- A composed act runs as its parts do, one after the other.
use Rattle.std.proofs.Common.{◌≡◌, ℕ, zero, suc, refl}
use Rattle.js_value.specs.Value.{Value}
use Rattle.es_ops.specs.State.{World, State}
use Rattle.es_ops.specs.Ledger.{Event, Happens, Stops}
use Rattle.es_ops.specs.Events.{reply, perform}
use Rattle.es_ops.specs.Act.{Act, Give, Throw, Halt, Turn, Ask, Do, Call, Try, ◌>>=◌, completed, by_completion, Completion, NormalCompletion, ThrowCompletion, Ran, Ends, Halts, Calls, with_world, spent, happened, returned, ended, run}

module _ (calls : Calls) where
  happened_then : {A : Type 0} (e : Event World A) (s : State) (f h : A → State → Ran) (g : Value → State → Ran) → ((a : A) (s : State) → h a s ≡ returned (f a s) g) → happened e s h ≡ returned (happened e s f) g
  happened_then (Happens a w) s f h g same = same a (with_world s w)
  happened_then (Stops full) s f h g same = refl

  spent_then : (n : ℕ) (s : State) (f h : State → Ran) (g : Value → State → Ran) → ((s : State) → h s ≡ returned (f s) g) → spent n s h ≡ returned (spent n s f) g
  spent_then zero s f h g same = refl
  spent_then (suc n) s f h g same = same (record s { meter = n })

  returned_then : (x : Ran) (f h : Value → State → Ran) (g : Value → State → Ran) → ((v : Value) (s : State) → h v s ≡ returned (f v s) g) → returned x h ≡ returned (returned x f) g
  returned_then (Ends (NormalCompletion v) s) f h g same = same v s
  returned_then (Ends (ThrowCompletion v) s) f h g same = refl
  returned_then (Halts stop s) f h g same = refl

  ended_then : (x : Ran) (f h : Completion → State → Ran) (g : Value → State → Ran) → ((c : Completion) (s : State) → h c s ≡ returned (f c s) g) → ended x h ≡ returned (ended x f) g
  ended_then (Ends c s) f h g same = same c s
  ended_then (Halts stop s) f h g same = refl

  pub run-bind : (p : Act) (f : Value → Act) (s : State) → run calls (p >>= f) s ≡ returned (run calls p s) (λ v. run calls (f v))
  unfolding run
  run-bind (Give v) f s = refl
  run-bind (Throw v) f s = refl
  run-bind (Halt stop) f s = refl
  run-bind (Turn p) f s = spent_then s.meter s (run calls p) (run calls (p >>= f)) _ (run-bind p f)
  run-bind (Ask q k) f s = run-bind (k (reply q s.world)) f s
  run-bind (Do d k) f s = happened_then (perform d s.world) s (λ a. run calls (k a)) (λ a. run calls (k a >>= f)) _ (λ a. run-bind (k a) f)
  run-bind (Call g t vs n k) f s = returned_then (calls g t vs n s) (λ v. run calls (k v)) (λ v. run calls (k v >>= f)) _ (λ v. run-bind (k v) f)
  run-bind (Try g t vs n k) f s = ended_then (calls g t vs n s) (λ c. run calls (k c)) (λ c. run calls (k c >>= f)) _ (λ c. run-bind (k c) f)

  -- ---- with what it throws

  happened_end : {A : Type 0} (e : Event World A) (s : State) (f h : A → State → Ran) (g : Completion → State → Ran) → ((a : A) (s : State) → h a s ≡ ended (f a s) g) → happened e s h ≡ ended (happened e s f) g
  happened_end (Happens a w) s f h g same = same a (with_world s w)
  happened_end (Stops full) s f h g same = refl

  spent_end : (n : ℕ) (s : State) (f h : State → Ran) (g : Completion → State → Ran) → ((s : State) → h s ≡ ended (f s) g) → spent n s h ≡ ended (spent n s f) g
  spent_end zero s f h g same = refl
  spent_end (suc n) s f h g same = same (record s { meter = n })

  ended_end : (x : Ran) (f h : Completion → State → Ran) (g : Completion → State → Ran) → ((c : Completion) (s : State) → h c s ≡ ended (f c s) g) → ended x h ≡ ended (ended x f) g
  ended_end (Ends c s) f h g same = same c s
  ended_end (Halts stop s) f h g same = refl

  call_end : (x : Ran) (f : Value → State → Ran) (h g : Completion → State → Ran) → ((v : Value) (s : State) → h (NormalCompletion v) s ≡ ended (f v s) g) → ((v : Value) (s : State) → h (ThrowCompletion v) s ≡ g (ThrowCompletion v) s) → ended x h ≡ ended (returned x f) g
  call_end (Ends (NormalCompletion v) s) f h g same thrown = same v s
  call_end (Ends (ThrowCompletion v) s) f h g same thrown = thrown v s
  call_end (Halts stop s) f h g same thrown = refl

  pub run-completed : (p : Act) (f : Completion → Act) (s : State) → run calls (completed p f) s ≡ ended (run calls p s) (λ c. run calls (f c))
  unfolding run
  run-completed (Give v) f s = refl
  run-completed (Throw v) f s = refl
  run-completed (Halt stop) f s = refl
  run-completed (Turn p) f s = spent_end s.meter s (run calls p) (run calls (completed p f)) _ (run-completed p f)
  run-completed (Ask q k) f s = run-completed (k (reply q s.world)) f s
  run-completed (Do d k) f s = happened_end (perform d s.world) s (λ a. run calls (k a)) (λ a. run calls (completed (k a) f)) _ (λ a. run-completed (k a) f)
  run-completed (Call g t vs n k) f s = call_end (calls g t vs n s) (λ v. run calls (k v)) (λ c. run calls (by_completion (λ v. completed (k v) f) f c)) _ (λ v. run-completed (k v) f) (λ v s. refl)
  run-completed (Try g t vs n k) f s = ended_end (calls g t vs n s) (λ c. run calls (k c)) (λ c. run calls (completed (k c) f)) _ (λ c. run-completed (k c) f)
