-- A stop is caught by nothing, and with no unit left the next turn or call stops.
use Rattle.std.proofs.Common.{◌≡◌, List, refl, ap, Option}
use Rattle.js_value.specs.Value.{Value, Text}
use Rattle.es_model.specs.declared.names.Identifier.{Identifier}
use Rattle.es_model.specs.declared.kinds.Semi.{Semi}
use Rattle.es_model.specs.Tree as t
use Rattle.es_model.specs.Tree.{Tree}
use Rattle.es_ops.specs.Ledger.{Stop, Budget}
use Rattle.es_ops.specs.Act.{Calls, NormalCompletion, Ends, Halts, run, returned, spent as use_unit}
use Rattle.es_ops.specs.Calling.{may_be_called, entered, left, body_of, by_rules}
use Rattle.es_ops.specs.State.{State}
use Rattle.es_eval.specs.Completions.{Here, Ended, Stopped, Doing, follow, body_value, as_ran, after_turn, unbroken, caught, finally_done}
use Rattle.es_eval.specs.Environments.{Environment}
use Rattle.es_eval.specs.Evaluation.{Smaller, meaning, in_block, catching, for_turn}

-- ---- what stands behind a stop is not evaluated

not_followed : {A B : Type 0} → (stop : Stop) → (h : Here) → (next : A → Doing B) → follow (Ended (Stopped stop) h) next ≡ Ended (Stopped stop) h
not_followed stop h next = refl

leaves_turn : (stop : Stop) → (h : Here) → (next : Doing (Unit {0})) → after_turn (Ended (Stopped stop) h) next ≡ Ended (Stopped stop) h
leaves_turn stop h next = refl

leaves_switch : (stop : Stop) → (h : Here) → unbroken (Ended (Stopped stop) h) ≡ Ended (Stopped stop) h
leaves_switch stop h = refl

not_caught : (stop : Stop) → (h : Here) → (catch : Value → Doing (Unit {0})) → caught (Ended (Stopped stop) h) catch ≡ Ended (Stopped stop) h
not_caught stop h catch = refl

no_finally : (stop : Stop) → (h : Here) → (finally : Doing (Unit {0})) → finally_done (Ended (Stopped stop) h) finally ≡ Ended (Stopped stop) h
no_finally stop h finally = refl

-- a body that stops halts its call, with the state as it stood
halts_call : (stop : Stop) → (h : Here) → as_ran (body_value (Ended (Stopped stop) h)) ≡ Halts stop h.state
halts_call stop h = refl

-- ---- `try`: where its block stops, it stops there

catch_stops : (smaller : Smaller) → (block catch : Tree (t.list t.statement)) → (name : Option Identifier) → (env : Environment) → (stop : Stop) → (h k : Here) →
    in_block block (meaning smaller block) env h ≡ Ended (Stopped stop) k → meaning smaller (t.Try block name (t.present catch) t.absent) env h ≡ Ended (Stopped stop) k
unfolding meaning
catch_stops smaller block catch name env stop h k stopped = ap (λ c. caught c (catching name catch (meaning smaller catch) env)) stopped

finally_stops : (smaller : Smaller) → (block finally : Tree (t.list t.statement)) → (name : Option Identifier) → (env : Environment) → (stop : Stop) → (h k : Here) →
    in_block block (meaning smaller block) env h ≡ Ended (Stopped stop) k → meaning smaller (t.Try block name t.absent (t.present finally)) env h ≡ Ended (Stopped stop) k
unfolding meaning
finally_stops smaller block finally name env stop h k stopped = ap (λ c. finally_done c (in_block finally (meaning smaller finally) env)) stopped

catch_finally_stops : (smaller : Smaller) → (block catch finally : Tree (t.list t.statement)) → (name : Option Identifier) → (env : Environment) → (stop : Stop) → (h k : Here) →
    in_block block (meaning smaller block) env h ≡ Ended (Stopped stop) k → meaning smaller (t.Try block name (t.present catch) (t.present finally)) env h ≡ Ended (Stopped stop) k
unfolding meaning
catch_finally_stops smaller block catch finally name env stop h k stopped =
    ap (λ c. finally_done (caught c (catching name catch (meaning smaller catch) env)) (in_block finally (meaning smaller finally) env)) stopped

-- ---- with no unit left

abbrev spent : Here → Here
spent h = record h { state = record h.state { meter = 0 } }

while_stops : (smaller : Smaller) → (test : Tree t.expression) → (body : Tree t.statement) → (env : Environment) → (h : Here) → meaning smaller (t.While test body) env (spent h) ≡ Ended (Stopped Budget) (spent h)
unfolding meaning
while_stops smaller test body env h = refl

do_while_stops : (smaller : Smaller) → (body : Tree t.statement) → (test : Tree t.expression) → (semi : Semi) → (env : Environment) → (h : Here) → meaning smaller (t.DoWhile body test semi) env (spent h) ≡ Ended (Stopped Budget) (spent h)
unfolding meaning
do_while_stops smaller body test semi env h = refl

for_turn_stops : (copied : List Text) → (test step : Text → Environment → Doing (Option Value)) → (body again : Environment → Doing (Unit {0})) → (env : Environment) → (h : Here) →
    for_turn copied test step body again env (spent h) ≡ Ended (Stopped Budget) (spent h)
for_turn_stops copied test step body again env h = refl

-- a call that is allowed takes its unit before its body
call_stops : (all : Calls) → (f this : Value) → (arguments : List Value) → (target : Option Value) → (v : Value) → (s k : State) →
    run all (may_be_called f target) s ≡ Ends (NormalCompletion v) (record k { meter = 0 }) → by_rules all f this arguments target s ≡ Halts Budget (record k { meter = 0 })
unfolding by_rules
call_stops all f this arguments target v s k allowed =
    ap (λ r. returned r (λ _ s. use_unit s.meter s (λ s. left s.depth (entered s (body_of all f this arguments target))))) allowed
