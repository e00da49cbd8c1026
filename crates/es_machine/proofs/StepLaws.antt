-- Steps one after another, and the run of an act by the machine.
use Rattle.std.proofs.Common.{◌≡◌, ◌≤◌, ℕ, zero, suc, [], List, refl, sym, subst, arith}
use Rattle.byte_code.specs.declared.records.Modules.{Modules}
use Rattle.js_value.specs.Value.{Value}
use Rattle.es_ops.specs.State.{World, State}
use Rattle.es_ops.specs.Ledger.{Event, Happens, Stops, Stop}
use Rattle.es_ops.specs.Events as event
use Rattle.es_ops.specs.Events.{reply}
use Rattle.es_ops.specs.Act.{Act, Give, Throw, Halt, Turn, Ask, Do, Call, Try, Completion, NormalCompletion, ThrowCompletion, Calls, Ran, Ends, Halts, run, spent, happened, returned, ended, with_world}
use Rattle.es_machine.specs.Frames.{Below, Config, Running, Performing, Returning, Throwing, Finished, Stuck}
use Rattle.es_machine.specs.ByteMachine.{BuiltIns, step, steps, turned, happens, passing}
use Rattle.es_machine.specs.Follows.{Comes, EndsWith, GoesOn, CallsFollow}

module _ (table : Modules) (rows : BuiltIns) where
  -- what has ended stays as it is
  pub finished_stays : (n : ℕ) (ran : Ran) → steps table rows n (Finished ran) ≡ Finished ran
  unfolding steps
  finished_stays zero ran = refl
  finished_stays (suc n) ran = refl

  pub stuck_stays : (n : ℕ) → steps table rows n Stuck ≡ Stuck
  unfolding steps
  stuck_stays zero = refl
  stuck_stays (suc n) = refl

  -- more steps change no end
  pub more_steps : (m n : ℕ) (c : Config) (ran : Ran) → m ≤ n → steps table rows m c ≡ Finished ran → steps table rows n c ≡ Finished ran
  unfolding steps
  more_steps zero n c ran le eq = subst (λ x. steps table rows n x ≡ Finished ran) (sym eq) (finished_stays n ran)
  more_steps (suc m) zero c ran le eq = absurd (omega (arith, le))
  more_steps (suc m) (suc n) (Finished other) ran le eq = eq
  more_steps (suc m) (suc n) Stuck ran le eq = eq
  more_steps (suc m) (suc n) (Running f below s) ran le eq = more_steps m n (step table rows (Running f below s)) ran (omega (arith, le)) eq
  more_steps (suc m) (suc n) (Performing act below s) ran le eq = more_steps m n (step table rows (Performing act below s)) ran (omega (arith, le)) eq
  more_steps (suc m) (suc n) (Returning v below s) ran le eq = more_steps m n (step table rows (Returning v below s)) ran (omega (arith, le)) eq
  more_steps (suc m) (suc n) (Throwing v below s) ran le eq = more_steps m n (step table rows (Throwing v below s)) ran (omega (arith, le)) eq

  pub one : (c : Config) → Comes table rows c (step table rows c)
  unfolding step steps
  one (Running f below s) = (1, refl)
  one (Performing act below s) = (1, refl)
  one (Returning v below s) = (1, refl)
  one (Throwing v below s) = (1, refl)
  one (Finished ran) = (0, refl)
  one Stuck = (0, refl)

  comes_by : (n : ℕ) (c d e : Config) → steps table rows n c ≡ d → Comes table rows d e → Comes table rows c e
  unfolding step steps
  comes_by zero c d e eq r = subst (λ x. Comes table rows x e) (sym eq) r
  comes_by (suc n) (Finished ran) d e eq r = subst (λ x. Comes table rows x e) (sym eq) r
  comes_by (suc n) Stuck d e eq r = subst (λ x. Comes table rows x e) (sym eq) r
  comes_by (suc n) (Running f below s) d e eq r = let q = comes_by n (step table rows (Running f below s)) d e eq r in (suc q.0, q.1)
  comes_by (suc n) (Performing act below s) d e eq r = let q = comes_by n (step table rows (Performing act below s)) d e eq r in (suc q.0, q.1)
  comes_by (suc n) (Returning v below s) d e eq r = let q = comes_by n (step table rows (Returning v below s)) d e eq r in (suc q.0, q.1)
  comes_by (suc n) (Throwing v below s) d e eq r = let q = comes_by n (step table rows (Throwing v below s)) d e eq r in (suc q.0, q.1)

  pub and_then : (c d e : Config) → Comes table rows c d → Comes table rows d e → Comes table rows c e
  and_then c d e h r = comes_by h.0 c d e h.1 r

  pub ends_after : (b : ℕ) (below : List Below) (c d : Config) (ran : Ran) → Comes table rows c d → EndsWith table rows b below d ran → EndsWith table rows b below c ran
  ends_after b below c d (Ends (NormalCompletion v) s) h f = (f.0, and_then c d _ h f.1)
  ends_after b below c d (Ends (ThrowCompletion v) s) h f = (f.0, and_then c d _ h f.1)
  ends_after b below c d (Halts stop s) h f = and_then c d _ h f

  -- ---- the run of an act

  -- so much of an act is run
  abbrev Acts : ℕ → Calls → List Below → Act → Type 0
  Acts b calls below p = (s : State) → s.meter ≤ b → EndsWith table rows b below (Performing p below s) (run calls p s)

  turn_follows : (b : ℕ) (calls : Calls) (below : List Below) (p : Act) (s : State) (meter : ℕ) → meter ≤ b → Acts b calls below p → EndsWith table rows b below (turned meter s (Performing p below)) (spent meter s (run calls p))
  turn_follows b calls below p s zero le rest = (0, finished_stays 0 _)
  turn_follows b calls below p s (suc n) le rest = rest (record s { meter = n }) (omega (arith, le))

  deed_follows : (b : ℕ) (calls : Calls) (below : List Below) {A : Type 0} (e : Event World A) (k : A → Act) (s : State) → s.meter ≤ b → ((a : A) → Acts b calls below (k a)) → EndsWith table rows b below (happens e s (λ a. Performing (k a) below)) (happened e s (λ a. run calls (k a)))
  deed_follows b calls below (Happens a w) k s le rest = rest a (with_world s w) le
  deed_follows b calls below (Stops full) k s le rest = (0, finished_stays 0 _)

  try_follows : (b : ℕ) (calls : Calls) (below : List Below) (k : Completion → Act) (c : Config) (ran : Ran) → GoesOn table rows b k below c ran → ((completion : Completion) → Acts b calls below (k completion)) → EndsWith table rows b below c (ended ran (λ completion. run calls (k completion)))
  try_follows b calls below k c (Ends completion s) h rest = ends_after b below c (Performing (k completion) below s) (run calls (k completion) s) h.1 (rest completion s h.0)
  try_follows b calls below k c (Halts stop s) h rest = h

  call_follows : (b : ℕ) (calls : Calls) (below : List Below) (k : Value → Act) (c : Config) (ran : Ran) → GoesOn table rows b (passing k) below c ran → ((v : Value) → Acts b calls below (k v)) → EndsWith table rows b below c (returned ran (λ v. run calls (k v)))
  unfolding step
  call_follows b calls below k c (Ends (NormalCompletion v) s) h rest = ends_after b below c (Performing (k v) below s) (run calls (k v) s) h.1 (rest v s h.0)
  call_follows b calls below k c (Ends (ThrowCompletion v) s) h rest = (h.0, and_then c (Performing (Throw v) below s) _ h.1 (one (Performing (Throw v) below s)))
  call_follows b calls below k c (Halts stop s) h rest = h

  -- an act's run is the same for both ways of calling
  pub acts_follow : (b : ℕ) (calls : Calls) → CallsFollow table rows b calls → (p : Act) (below : List Below) → Acts b calls below p
  unfolding run step
  acts_follow b calls h (Give v) below = λ s le. (le, one (Performing (Give v) below s))
  acts_follow b calls h (Throw v) below = λ s le. (le, one (Performing (Throw v) below s))
  acts_follow b calls h (Halt stop) below = λ s le. one (Performing (Halt stop) below s)
  acts_follow b calls h (Turn p) below = λ s le. ends_after b below _ _ (spent s.meter s (run calls p)) (one (Performing (Turn p) below s)) (turn_follows b calls below p s s.meter le (acts_follow b calls h p below))
  acts_follow b calls h (Ask q k) below = λ s le. ends_after b below _ _ (run calls (k (reply q s.world)) s) (one (Performing (Ask q k) below s)) (acts_follow b calls h (k (reply q s.world)) below s le)
  acts_follow b calls h (Do d k) below = λ s le. ends_after b below _ _ (happened (event.perform d s.world) s (λ a. run calls (k a))) (one (Performing (Do d k) below s)) (deed_follows b calls below (event.perform d s.world) k s le (λ a. acts_follow b calls h (k a) below))
  acts_follow b calls h (Call f this arguments target k) below = λ s le. ends_after b below _ _ (returned (calls f this arguments target s) (λ v. run calls (k v))) (one (Performing (Call f this arguments target k) below s)) (call_follows b calls below k _ (calls f this arguments target s) (h f this arguments target (passing k) below s le) (λ v. acts_follow b calls h (k v) below))
  acts_follow b calls h (Try f this arguments target k) below = λ s le. ends_after b below _ _ (ended (calls f this arguments target s) (λ completion. run calls (k completion))) (one (Performing (Try f this arguments target k) below s)) (try_follows b calls below k _ (calls f this arguments target s) (h f this arguments target k below s le) (λ completion. acts_follow b calls h (k completion) below))

  to_end : (b : ℕ) (c : Config) (ran : Ran) → EndsWith table rows b [] c ran → Comes table rows c (Finished ran)
  unfolding step
  to_end b c (Ends (NormalCompletion v) s) h = and_then c (Returning v [] s) _ h.1 (one (Returning v [] s))
  to_end b c (Ends (ThrowCompletion v) s) h = and_then c (Throwing v [] s) _ h.1 (one (Throwing v [] s))
  to_end b c (Halts stop s) h = h

  -- an act with nothing below, a job's for one, ends with its run
  pub act_ends : (b : ℕ) (calls : Calls) → CallsFollow table rows b calls → (p : Act) (s : State) → s.meter ≤ b → Comes table rows (Performing p [] s) (Finished (run calls p s))
  act_ends b calls h p s le = to_end b (Performing p [] s) (run calls p s) (acts_follow b calls h p [] s le)

  -- a stop is caught by nothing
  pub stop_ends : (stop : Stop) (below : List Below) (s : State) → Comes table rows (Performing (Halt stop) below s) (Finished (Halts stop s))
  unfolding step
  stop_ends stop below s = one (Performing (Halt stop) below s)
