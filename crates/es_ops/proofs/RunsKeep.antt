-- What every deed keeps, every run keeps.
use Rattle.std.proofs.Common.{ℕ, zero, suc, List, Option}
use Rattle.js_value.specs.Value.{Value}
use Rattle.es_ops.specs.State.{World, State}
use Rattle.es_ops.specs.Ledger.{Event, Happens, Stops}
use Rattle.es_ops.specs.Events.{reply, Deed, perform}
use Rattle.es_ops.specs.Act.{Act, Give, Throw, Halt, Turn, Ask, Do, Call, Try, Completion, NormalCompletion, ThrowCompletion, Ran, Ends, Halts, Calls, with_world, spent, happened, returned, ended, run}
use Rattle.es_ops.specs.Laws.{IfHappens, state_of}

module _ (P : World → Type 0) where
  abbrev pub Keeps : Ran → Type 0
  Keeps x = P (state_of x).world

  abbrev pub CallsKeep : Calls → Type 0
  CallsKeep c = (f this : Value) (arguments : List Value) (target : Option Value) (s : State) → P s.world → Keeps (c f this arguments target s)

  happened_keeps : {A : Type 0} (e : Event World A) (s : State) (f : A → State → Ran) → P s.world → IfHappens e (λ a v. P v) → ((a : A) (t : State) → P t.world → Keeps (f a t)) → Keeps (happened e s f)
  happened_keeps (Happens a v) s f p h next = next a (with_world s v) h
  happened_keeps (Stops full) s f p h next = p

  pub spent_keeps : (n : ℕ) (s : State) (f : State → Ran) → P s.world → ((t : State) → P t.world → Keeps (f t)) → Keeps (spent n s f)
  spent_keeps zero s f p next = p
  spent_keeps (suc n) s f p next = next (record s { meter = n }) p

  pub returned_keeps : (x : Ran) (f : Value → State → Ran) → Keeps x → ((v : Value) (t : State) → P t.world → Keeps (f v t)) → Keeps (returned x f)
  returned_keeps (Ends (NormalCompletion v) s) f p next = next v s p
  returned_keeps (Ends (ThrowCompletion v) s) f p next = p
  returned_keeps (Halts stop s) f p next = p

  ended_keeps : (x : Ran) (f : Completion → State → Ran) → Keeps x → ((c : Completion) (t : State) → P t.world → Keeps (f c t)) → Keeps (ended x f)
  ended_keeps (Ends c s) f p next = next c s p
  ended_keeps (Halts stop s) f p next = p

  pub run_keeps : ((d : Deed) (w : World) → P w → IfHappens (perform d w) (λ a v. P v)) → (c : Calls) → CallsKeep c → (p : Act) (s : State) → P s.world → Keeps (run c p s)
  unfolding run
  run_keeps deeds c keep (Give v) s h = h
  run_keeps deeds c keep (Throw v) s h = h
  run_keeps deeds c keep (Halt stop) s h = h
  run_keeps deeds c keep (Turn p) s h = spent_keeps s.meter s (run c p) h (run_keeps deeds c keep p)
  run_keeps deeds c keep (Ask q k) s h = run_keeps deeds c keep (k (reply q s.world)) s h
  run_keeps deeds c keep (Do d k) s h = happened_keeps (perform d s.world) s (λ a. run c (k a)) h (deeds d s.world h) (λ a. run_keeps deeds c keep (k a))
  run_keeps deeds c keep (Call f this vs n k) s h = returned_keeps (c f this vs n s) (λ v. run c (k v)) (keep f this vs n s h) (λ v. run_keeps deeds c keep (k v))
  run_keeps deeds c keep (Try f this vs n k) s h = ended_keeps (c f this vs n s) (λ v. run c (k v)) (keep f this vs n s h) (λ v. run_keeps deeds c keep (k v))
