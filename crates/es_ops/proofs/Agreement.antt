-- Ways of calling that agree give runs that agree, for every act.
use Rattle.std.proofs.Common.{◌≡◌, ℕ, zero, suc, refl, sym, subst}
use Rattle.js_value.specs.Value.{Value}
use Rattle.es_ops.specs.State.{World, State}
use Rattle.es_ops.specs.Ledger.{Event, Happens, Stops}
use Rattle.es_ops.specs.Events.{reply, perform}
use Rattle.es_ops.specs.Act.{Act, Give, Throw, Halt, Turn, Ask, Do, Call, Try, Completion, NormalCompletion, ThrowCompletion, Ran, Ends, Halts, Calls, with_world, spent, happened, returned, ended, run}
use Rattle.es_ops.specs.Laws.{IsHidden, EndAlike, CallAlike}

module _ (R : State → State → Type 0) (hidden : IsHidden R) where
  happened_alike : {A : Type 0} (e : Event World A) (s t : State) (f g : A → State → Ran) → R s t → ((a : A) (s t : State) → R s t → EndAlike R (f a s) (g a t)) → EndAlike R (happened e s f) (happened e t g)
  happened_alike (Happens a w) s t f g r next = next a (with_world s w) (with_world t w) (hidden.changes s t w r)
  happened_alike (Stops full) s t f g r next = (refl, r)

  spent_alike : (n m : ℕ) (s t : State) (f g : State → Ran) → s.meter ≡ n → m ≡ n → R s t → ((s t : State) → R s t → EndAlike R (f s) (g t)) → EndAlike R (spent n s f) (spent m t g)
  spent_alike zero m s t f g e q r next = rw q (refl, r)
  spent_alike (suc n) m s t f g e q r next = rw q (next (record s { meter = n }) (record t { meter = n }) (hidden.spends s t n e r))

  returned_alike : (x y : Ran) (f g : Value → State → Ran) → EndAlike R x y → ((v : Value) (s t : State) → R s t → EndAlike R (f v s) (g v t)) → EndAlike R (returned x f) (returned y g)
  returned_alike (Ends (NormalCompletion v) s) (Ends d t) f g e next = rw (sym e.0) (next v s t e.1)
  returned_alike (Ends (ThrowCompletion v) s) (Ends d t) f g e next = rw (sym e.0) (refl, e.1)
  returned_alike (Halts x s) (Halts y t) f g e next = e
  returned_alike (Ends c s) (Halts y t) f g e next = absurd e
  returned_alike (Halts x s) (Ends d t) f g e next = absurd e

  ended_alike : (x y : Ran) (f g : Completion → State → Ran) → EndAlike R x y → ((c : Completion) (s t : State) → R s t → EndAlike R (f c s) (g c t)) → EndAlike R (ended x f) (ended y g)
  ended_alike (Ends c s) (Ends d t) f g e next = rw (sym e.0) (next c s t e.1)
  ended_alike (Halts x s) (Halts y t) f g e next = e
  ended_alike (Ends c s) (Halts y t) f g e next = absurd e
  ended_alike (Halts x s) (Ends d t) f g e next = absurd e

  pub runs_alike : (c d : Calls) → CallAlike R c d → (p : Act) (s t : State) → R s t → EndAlike R (run c p s) (run d p t)
  unfolding run
  runs_alike c d same (Give v) s t r = (refl, r)
  runs_alike c d same (Throw v) s t r = (refl, r)
  runs_alike c d same (Halt stop) s t r = (refl, r)
  runs_alike c d same (Turn p) s t r = spent_alike s.meter t.meter s t (run c p) (run d p) refl (hidden.meters s t r) r (runs_alike c d same p)
  runs_alike c d same (Ask q k) s t r =
      subst (λ w. EndAlike R (run c (k (reply q s.world)) s) (run d (k (reply q w)) t)) (sym (hidden.worlds s t r)) (runs_alike c d same (k (reply q s.world)) s t r)
  runs_alike c d same (Do x k) s t r =
      subst (λ w. EndAlike R (run c (Do x k) s) (happened (perform x w) t (λ a. run d (k a)))) (sym (hidden.worlds s t r))
      (happened_alike (perform x s.world) s t (λ a. run c (k a)) (λ a. run d (k a)) r (λ a. runs_alike c d same (k a)))
  runs_alike c d same (Call f this vs n k) s t r =
      returned_alike (c f this vs n s) (d f this vs n t) (λ v. run c (k v)) (λ v. run d (k v)) (same f this vs n s t r) (λ v. runs_alike c d same (k v))
  runs_alike c d same (Try f this vs n k) s t r =
      ended_alike (c f this vs n s) (d f this vs n t) (λ v. run c (k v)) (λ v. run d (k v)) (same f this vs n s t r) (λ v. runs_alike c d same (k v))
