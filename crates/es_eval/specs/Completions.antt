-- Completions (ECMA-262 6.2.4), and what the evaluation of a form does to the state. A stop is a completion that no script
-- catches (own).
use Rattle.std.specs.Prelude.{ℕ, zero, suc, List, Option}
use Rattle.js_value.specs.Value.{Value, Undefined}
use Rattle.es_ops.specs.State.{State, World}
use Rattle.es_ops.specs.Ledger.{Event, Happens, Stops, Stop, Budget, OutOf}
use Rattle.es_ops.specs.Events.{Deed, Answer, perform}
use Rattle.es_ops.specs.Act.{Act, Calls, NormalCompletion, ThrowCompletion, Ran, Ends, Halts, run, with_world}

-- Where a body stands: its `this`, where it has one yet, the cells of its own bindings, by their places, and the state that
-- all bodies share.
pub record Here : Type 0 where
  pub this : Option Value
  pub cells : List (Option Value)
  pub state : State

abbrev pub with_state : Here → State → Here
with_state h s = record h { state = s }

-- why a form did not complete normally
pub data Abrupt : Type 0 where
  Return : Value → Abrupt
  Break : Abrupt
  Continue : Abrupt
  Throw : Value → Abrupt
  Stopped : Stop → Abrupt

pub data Completed (A : Type 0) : Type 0 where
  Normal : A → Here → Completed A
  Ended : Abrupt → Here → Completed A

abbrev pub Doing : Type 0 → Type 0
Doing A = Here → Completed A

abbrev pub follow : {A B : Type 0} → Completed A → (A → Doing B) → Completed B
follow (Normal a h) next = next a h
follow (Ended e h) next = Ended e h

infixl 10 ◌>>=◌
abbrev pub ◌>>=◌ : {A B : Type 0} → Doing A → (A → Doing B) → Doing B
p >>= next = λ h. follow (p h) next

infixl 10 ◌>>◌
abbrev pub ◌>>◌ : {A B : Type 0} → Doing A → Doing B → Doing B
p >> q = p >>= (λ _. q)

abbrev pub pure : {A : Type 0} → A → Doing A
pure a = λ h. Normal a h

abbrev pub ends : {A : Type 0} → Abrupt → Doing A
ends e = λ h. Ended e h

abbrev pub done : Doing (Unit {0})
done = pure tt

-- ---- operations

abbrev pub after_run : Here → Ran → Completed Value
after_run h (Ends (NormalCompletion v) s) = Normal v (with_state h s)
after_run h (Ends (ThrowCompletion v) s) = Ended (Throw v) (with_state h s)
after_run h (Halts stop s) = Ended (Stopped stop) (with_state h s)

-- an act, by a way of calling
abbrev pub acts : Calls → Act → Doing Value
acts calls act = λ h. after_run h (run calls act h.state)

abbrev pub after_event : {A : Type 0} → Here → Event World A → Completed A
after_event h (Happens a w) = Normal a (with_state h (with_world h.state w))
after_event h (Stops full) = Ended (Stopped (OutOf full)) h

abbrev pub does : (d : Deed) → Doing (Answer d)
does d = λ h. after_event h (perform d h.state.world)

-- takes a unit of the meter
abbrev pub taken : ℕ → Here → Completed (Unit {0})
taken zero h = Ended (Stopped Budget) h
taken (suc units) h = Normal tt (with_state h (record h.state { meter = units }))

abbrev pub take_unit : Doing (Unit {0})
take_unit = λ h. taken h.state.meter h

-- ---- what a body's completion is to its caller: what isn't returned is undefined (10.2.1.3)

abbrev pub body_value : Completed (Unit {0}) → Completed Value
body_value (Normal _ h) = Normal Undefined h
body_value (Ended (Return v) h) = Normal v h
body_value (Ended e h) = Ended e h

-- A break or continue leaves no body: the early rules refuse such a module.

abbrev pub as_ran : Completed Value → Ran
as_ran (Normal v h) = Ends (NormalCompletion v) h.state
as_ran (Ended (Return v) h) = Ends (NormalCompletion v) h.state
as_ran (Ended (Throw v) h) = Ends (ThrowCompletion v) h.state
as_ran (Ended (Stopped stop) h) = Halts stop h.state
as_ran (Ended _ h) = Ends (NormalCompletion Undefined) h.state

-- ---- loops (14.7.1.1, LoopContinues), `try` (14.15.3)

-- what a turn's body completed with, before the next turn
abbrev pub after_turn : Completed (Unit {0}) → Doing (Unit {0}) → Completed (Unit {0})
after_turn (Normal _ h) next = next h
after_turn (Ended Continue h) next = next h
after_turn (Ended Break h) next = Normal tt h
after_turn (Ended e h) next = Ended e h

-- a switch is left by a break
abbrev pub unbroken : Completed (Unit {0}) → Completed (Unit {0})
unbroken (Ended Break h) = Normal tt h
unbroken c = c

abbrev pub caught : Completed (Unit {0}) → (Value → Doing (Unit {0})) → Completed (Unit {0})
caught (Ended (Throw v) h) catch = catch v h
caught c catch = c

-- an abrupt completion of `finally` replaces that of what stands before it; behind a stop nothing runs
abbrev pub after_finally : Completed (Unit {0}) → (Here → Completed (Unit {0})) → Completed (Unit {0})
after_finally (Normal _ h) before = before h
after_finally c before = c

abbrev pub finally_done : Completed (Unit {0}) → Doing (Unit {0}) → Completed (Unit {0})
finally_done (Normal _ h) finally = finally h
finally_done (Ended (Stopped stop) h) finally = Ended (Stopped stop) h
finally_done (Ended e h) finally = after_finally (finally h) (λ h. Ended e h)
