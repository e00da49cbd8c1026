-- The jobs that wait (ECMA-262 9.5).
use Rattle.std.specs.Prelude.{ℕ}
use Rattle.js_value.specs.Value.{Value}

-- NewPromiseReactionJob (27.2.2.1) for a promise that was fulfilled or rejected, and NewPromiseResolveThenableJob (27.2.2.2)
pub data Job : Type 0 where
  FulfilJob : (handler : Value) → (derived : ℕ) → (argument : Value) → Job
  RejectJob : (handler : Value) → (derived : ℕ) → (argument : Value) → Job
  ThenableJob : (promise : ℕ) → (thenable next : Value) → Job
