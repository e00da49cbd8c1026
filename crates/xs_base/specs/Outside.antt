-- What calls on the outside leave: counts of faults, and what a sink has received.
use Rattle.std.specs.Prelude.{◌≡◌, ◌≤◌, ◌+◌, ◌-◌, ◌^◌, ℕ, min, List, ◌++◌, Result, Option, MatchResult, OnOk, OnErr}
use Rattle.std.specs.Io.KnownBytes.{Appends}

-- A count has risen. One that stands at the last value of a `u64` counts as one that rose.
abbrev pub Rose : ℕ → ℕ → Type 0
Rose before now = min (before + 1) (2 ^ 64 - 1) ≤ now

-- No fault is passed over, and none is made up.
pub record HasCause {T E : Type 0} (before now : ℕ) (result : Result T E) : Type 0 where
  pub later : before ≤ now
  pub kept : OnOk result (now ≡ before)
  pub failed : OnErr result (Rose before now)

-- A front of the bytes is received, and the rest is not.
pub record Sent (old new : Option (List ℕ)) (bytes rest : List ℕ) : Type 0 where
  pub front : List ℕ
  pub whole : bytes ≡ front ++ rest
  pub received : Appends old new front

-- Some front of the bytes is received, all of them and none included.
abbrev pub SentInPart : Option (List ℕ) → Option (List ℕ) → List ℕ → Type 0
SentInPart old new bytes = (rest : List ℕ) × Sent old new bytes rest

-- All of the bytes at `Ok`, and a front of them at `Err`.
abbrev pub Receives : {T E : Type 0} → Option (List ℕ) → Option (List ℕ) → Result T E → List ℕ → Type 0
Receives old new result bytes = MatchResult result (λ _. Appends old new bytes) (λ _. SentInPart old new bytes)
