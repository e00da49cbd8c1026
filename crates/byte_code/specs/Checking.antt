-- What the one pass over a code keeps: a height for each instruction that it has passed, and for each
-- later one to which a passed instruction jumps.
use Rattle.std.specs.Prelude.{◌≡◌, ◌<◌, ◌≤◌, ℕ, ◌+◌, ◌==◌, if◌then◌else◌, Bool, true, false, List, length, Option, Some, None, IsSome, slice_index, slice_index_or, slice_set, ◌*◌}
use Rattle.byte_code.specs.declared.instruction.Op.{Op}
use Rattle.byte_code.specs.Instructions.{parts}
use Rattle.byte_code.specs.Effects.{effect}
use Rattle.byte_code.specs.ValidCode.{Bounds, IsStart, At, Way, IsHandler, FollowsEnd, IsJumpedTo, IsInBounds, range_start, range_end, handler_target, target, goes_on, end_of, height_after}

-- the height that is known at p
abbrev pub known : List (Option ℕ) → ℕ → Option ℕ
known heights p = slice_index_or heights p None

-- what is known, if anything, is this height
abbrev pub Agrees : Option ℕ → ℕ → Type 0
Agrees o h = (g : ℕ) → o ≡ Some g → g ≡ h

-- The height at an instruction, by whether it is a handler's target, the height of the instruction
-- before if that goes on, and the height of earlier jumps. None where these don't fit.
abbrev pub entry : Bool → Option ℕ → Option ℕ → Option ℕ
entry true None None = Some 1
entry true (Some _) _ = None
entry true None (Some _) = None
entry false None None = Some 0
entry false (Some h) None = Some h
entry false None (Some g) = Some g
entry false (Some h) (Some g) = if h == g then Some h else None

-- an instruction goes on to p
pub record IsFallenTo (code : List ℕ) (p : ℕ) : Type 0 where
  pub from : ℕ
  pub op : Op
  pub at : At code from op
  pub goes : goes_on op ≡ true
  pub end : p ≡ end_of from op

-- how the pass came to a place
pub data Came (code handlers : List ℕ) (at : ℕ) (before : Option ℕ) : Type 0 where
  Began : at ≡ 0 → before ≡ Some 0 → Came code handlers at before
  Fell : (p h : ℕ) (op : Op) → At code p op → goes_on op ≡ true → at ≡ end_of p op → Way code handlers p h → before ≡ Some (height_after op h) → Came code handlers at before
  Ended : FollowsEnd code at → before ≡ None → Came code handlers at before

-- what is known of an instruction that was passed
pub record Passed (code : List ℕ) (b : Bounds) (heights : List (Option ℕ)) (at : ℕ) (before : Option ℕ) (p : ℕ) (op : Op) : Type 0 where
  pub height : ℕ
  pub is : known heights p ≡ Some height
  pub first : p ≡ 0 → height ≡ 0
  pub handled : IsHandler b.handlers p → (height ≡ 1) × (IsJumpedTo code p → ⊥) × (IsFallenTo code p → ⊥)
  pub behind : FollowsEnd code p → (IsJumpedTo code p → ⊥) → (IsHandler b.handlers p → ⊥) → height ≡ 0
  pub operand : IsInBounds b (parts op).1
  pub finds : (effect op).pops ≤ height
  pub falls : goes_on op ≡ true → end_of p op < at → known heights (end_of p op) ≡ Some (height_after op height)
  pub last : goes_on op ≡ true → end_of p op ≡ at → before ≡ Some (height_after op height)
  pub jumps : (to : ℕ) → target op ≡ Some to → (known heights to ≡ Some (height_after op height)) × (to < length code)
  pub back : (to : ℕ) → target op ≡ Some to → to ≤ p → (height_after op height ≡ 0) × (slice_index code to ≡ 51)

-- the pass stands at `at`, and `before` is the height of the instruction before if that goes on
pub record Pass (code : List ℕ) (b : Bounds) (heights : List (Option ℕ)) (at : ℕ) (before : Option ℕ) : Type 0 where
  pub start : IsStart code at
  pub size : length code ≤ length heights
  pub ways : (q g : ℕ) → known heights q ≡ Some g → Way code b.handlers q g
  pub room : (q g : ℕ) → known heights q ≡ Some g → g ≤ b.operands
  pub inside : (q g : ℕ) → known heights q ≡ Some g → q < length code
  pub starts : (q g : ℕ) → known heights q ≡ Some g → q < at → IsStart code q
  pub ahead : (q g : ℕ) → known heights q ≡ Some g → at ≤ q → IsJumpedTo code q
  pub came : Came code b.handlers at before
  pub each : (p : ℕ) (op : Op) → At code p op → p < at → Passed code b heights at before p op

-- what a jump from `at` to `to` with height g leaves
pub data Marks (code : List ℕ) (old new : List (Option ℕ)) (at to g : ℕ) : Type 0 where
  Back : to ≤ at → g ≡ 0 → known old to ≡ Some 0 → slice_index code to ≡ 51 → new ≡ old → Marks code old new at to g
  Ahead : at < to → to < length code → Agrees (known old to) g → new ≡ slice_set old to (Some g) → Marks code old new at to g

-- why a jump is refused
pub data Refuses (code : List ℕ) (old : List (Option ℕ)) (at to g : ℕ) : Type 0 where
  NoTurn : to ≤ at → (g ≡ 0 → known old to ≡ Some 0 → slice_index code to ≡ 51 → ⊥) → Refuses code old at to g
  NoPlace : at < to → (to < length code → Agrees (known old to) g → ⊥) → Refuses code old at to g

-- the same for an instruction that jumps, or doesn't
abbrev pub Takes : List ℕ → List (Option ℕ) → List (Option ℕ) → ℕ → Option ℕ → ℕ → Type 0
Takes code old new at None g = new ≡ old
Takes code old new at (Some to) g = Marks code old new at to g

abbrev pub RefusesAny : List ℕ → List (Option ℕ) → ℕ → Option ℕ → ℕ → Type 0
RefusesAny code old at None g = ⊥
RefusesAny code old at (Some to) g = Refuses code old at to g

-- what is asked of a handler once all instructions have a height
pub record HandlerFits (heights : List (Option ℕ)) (size : ℕ) (handlers : List ℕ) (k : ℕ) : Type 0 where
  pub after_start : range_start handlers k < handler_target handlers k
  pub after_end : range_end handlers k ≤ handler_target handlers k
  pub inside : handler_target handlers k < size
  pub start : IsSome (known heights (range_start handlers k))
  pub end : IsSome (known heights (range_end handlers k))
  pub target : IsSome (known heights (handler_target handlers k))

pub record HandlersFit (heights : List (Option ℕ)) (size : ℕ) (handlers : List ℕ) : Type 0 where
  pub whole : (n : ℕ) × (length handlers ≡ 6 * n)
  pub each : (k : ℕ) → 6 * k + 6 ≤ length handlers → HandlerFits heights size handlers k
