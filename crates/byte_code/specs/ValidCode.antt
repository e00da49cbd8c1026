-- Valid code: code on which a machine is never stuck, and whose every way back passes a `turn`.
use Rattle.std.specs.Prelude.{◌≡◌, ◌<◌, ◌≤◌, ℤ, pos, negsuc, ℕ, ◌+◌, ◌-◌, ◌*◌, Bool, true, false, List, length, drop, Option, Some, None}
use Rattle.byteorder.specs.Endian.{big_number}
use Rattle.byte_code.specs.declared.operand.Operand.{Operand}
use Rattle.byte_code.specs.declared.operand.Operand.TheVariants as operand
use Rattle.byte_code.specs.declared.instruction.Op.{Op}
use Rattle.byte_code.specs.declared.instruction.Op.TheVariants.{Jump, JumpIf, JumpUnless, JumpValue, Turn, Return, Throw}
use Rattle.byte_code.specs.Instructions.{parts, spelling, IsInstruction, Begins}
use Rattle.byte_code.specs.Effects.{effect}

-- The counts that bound a code's operands, and its handlers: for each, innermost first, the start
-- and the end of its range and its target, two bytes each.
pub record Bounds : Type 0 where
  pub places : ℕ
  pub operands : ℕ
  pub outers : ℕ
  pub functions : ℕ
  pub names : ℕ
  pub handlers : List ℕ

-- An instruction starts at 0 and after an instruction.
pub data IsStart (code : List ℕ) : ℕ → Type 0 where
  First : IsStart code 0
  After : (p q : ℕ) (op : Op) → IsStart code p → IsInstruction op → Begins (drop p code) op → q ≡ p + length (spelling op) → IsStart code q

-- the instruction op stands at p
pub record At (code : List ℕ) (p : ℕ) (op : Op) : Type 0 where
  pub start : IsStart code p
  pub instruction : IsInstruction op
  pub begins : Begins (drop p code) op

-- some instruction stands at p
pub record Stands (code : List ℕ) (p : ℕ) : Type 0 where
  pub op : Op
  pub at : At code p op

-- where an instruction jumps to
abbrev pub target : Op → Option ℕ
target (Jump to) = Some to
target (JumpIf to) = Some to
target (JumpUnless to) = Some to
target (JumpValue to) = Some to
target _ = None

-- whether an instruction goes on to the one after it
abbrev pub goes_on : Op → Bool
goes_on (Jump _) = false
goes_on Return = false
goes_on Throw = false
goes_on _ = true

-- where the instruction at p ends
abbrev pub end_of : ℕ → Op → ℕ
end_of p op = p + length (spelling op)

-- the height of the stack after an instruction that found height h
abbrev pub height_after : Op → ℕ → ℕ
height_after op h = h - (effect op).pops + (effect op).pushes

-- an integer of 53 bits and a sign
abbrev pub IsNumber : ℤ → Type 0
IsNumber (pos n) = n ≤ 9007199254740991
IsNumber (negsuc n) = n < 9007199254740991

-- the operand names something that the frame or the tables of rows have; jumps are not bounded here
abbrev pub IsInBounds : Bounds → Operand → Type 0
IsInBounds b (operand.Int64 n) = IsNumber n
IsInBounds b (operand.Name n) = (1 ≤ n) × (n ≤ b.names)
IsInBounds b (operand.Place n) = n < b.places
IsInBounds b (operand.Outer n) = n < b.outers
IsInBounds b (operand.Function n) = (1 ≤ n) × (n < b.functions)
IsInBounds b (operand.Global n) = n < 15
IsInBounds b (operand.BinaryRow n) = n < 20
IsInBounds b (operand.UnaryRow n) = n < 4
IsInBounds b (operand.Message n) = (1 ≤ n) × (n ≤ 24)
IsInBounds b (operand.DefineMode n) = n < 6
IsInBounds b (operand.NameMode n) = n < 3
IsInBounds b _ = Unit {0}

-- the handler at a place of the list: a range of the code, and where a throw in it leads
abbrev pub range_start : List ℕ → ℕ → ℕ
range_start handlers k = big_number 2 (drop (6 * k) handlers)

abbrev pub range_end : List ℕ → ℕ → ℕ
range_end handlers k = big_number 2 (drop (6 * k + 2) handlers)

abbrev pub handler_target : List ℕ → ℕ → ℕ
handler_target handlers k = big_number 2 (drop (6 * k + 4) handlers)

-- p is the target of a handler
pub record IsHandler (handlers : List ℕ) (p : ℕ) : Type 0 where
  pub place : ℕ
  pub within : 6 * place + 6 ≤ length handlers
  pub leads : handler_target handlers place ≡ p

-- an instruction before p jumps to p
pub record IsJumpedTo (code : List ℕ) (p : ℕ) : Type 0 where
  pub from : ℕ
  pub op : Op
  pub at : At code from op
  pub before : from < p
  pub leads : target op ≡ Some p

-- the instruction that ends at p doesn't go on to p
pub record FollowsEnd (code : List ℕ) (p : ℕ) : Type 0 where
  pub from : ℕ
  pub op : Op
  pub at : At code from op
  pub ends : goes_on op ≡ false
  pub end : p ≡ end_of from op

-- A way leads to p with height h: from the start of the code, from one instruction to the next, along
-- a jump, or from a throw to a handler. Code behind an instruction that doesn't go on, to which no
-- earlier jump leads, has height 0.
pub data Way (code : List ℕ) (handlers : List ℕ) : ℕ → ℕ → Type 0 where
  Begin : Way code handlers 0 0
  Next : (p q h g : ℕ) (op : Op) → Way code handlers p h → At code p op → goes_on op ≡ true → q ≡ end_of p op → g ≡ height_after op h → Way code handlers q g
  Along : (p q h g : ℕ) (op : Op) → Way code handlers p h → At code p op → target op ≡ Some q → g ≡ height_after op h → Way code handlers q g
  Thrown : (q : ℕ) → IsHandler handlers q → Way code handlers q 1
  Behind : (q : ℕ) → FollowsEnd code q → q < length code → (IsJumpedTo code q → ⊥) → (IsHandler handlers q → ⊥) → Way code handlers q 0

-- The code is not empty, and its last instruction is a jump, a return or a throw.
abbrev pub IsEnded : List ℕ → Type 0
IsEnded code = FollowsEnd code (length code)

-- valid code
pub record IsValid (code : List ℕ) (b : Bounds) : Type 0 where
  -- the bytes are instructions one after the other, and the last one doesn't go on
  pub instructions : IsStart code (length code)
  pub ended : IsEnded code
  -- operands are in the ranges of the frame and of the tables
  pub operands : (p : ℕ) (op : Op) → At code p op → IsInBounds b (parts op).1
  -- jumps and handlers lead to instructions
  pub targets : (p q : ℕ) (op : Op) → At code p op → target op ≡ Some q → Stands code q
  pub whole : (n : ℕ) × (length b.handlers ≡ 6 * n)
  pub starts : (k : ℕ) → 6 * k + 6 ≤ length b.handlers → Stands code (range_start b.handlers k)
  pub ends : (k : ℕ) → 6 * k + 6 ≤ length b.handlers → IsStart code (range_end b.handlers k) × (range_end b.handlers k ≤ length code)
  pub handled : (k : ℕ) → 6 * k + 6 ≤ length b.handlers → Stands code (handler_target b.handlers k)
  -- a handler's target lies after its start and not before its end
  pub forward : (k : ℕ) → 6 * k + 6 ≤ length b.handlers → (range_start b.handlers k < handler_target b.handlers k) × (range_end b.handlers k ≤ handler_target b.handlers k)
  -- nothing but its handlers leads to a handler's target
  pub apart : (p q : ℕ) (op : Op) → At code p op → IsHandler b.handlers q → ((goes_on op ≡ true) × (q ≡ end_of p op) → ⊥) × (target op ≡ Some q → ⊥)
  -- one height on all ways, within the frame's operands
  pub one_height : (p h g : ℕ) → Way code b.handlers p h → Way code b.handlers p g → h ≡ g
  pub room : (p h : ℕ) → Way code b.handlers p h → h ≤ b.operands
  -- each instruction finds what it takes
  pub finds : (p h : ℕ) (op : Op) → At code p op → Way code b.handlers p h → (effect op).pops ≤ h
  -- a jump to itself or backward leaves height 0, and leads to a `turn`
  pub back : (p q h : ℕ) (op : Op) → At code p op → Way code b.handlers p h → target op ≡ Some q → q ≤ p → (height_after op h ≡ 0) × At code q Turn

-- A run goes from p to q: to the next instruction, along a jump, or from a throw in the range of a
-- handler to its target.
pub data Leads (code : List ℕ) (handlers : List ℕ) (p q : ℕ) : Type 0 where
  Onward : (op : Op) → At code p op → goes_on op ≡ true → q ≡ end_of p op → Leads code handlers p q
  Jumps : (op : Op) → At code p op → target op ≡ Some q → Leads code handlers p q
  Throws : (k : ℕ) → 6 * k + 6 ≤ length handlers → range_start handlers k ≤ p → p < range_end handlers k → handler_target handlers k ≡ q → Leads code handlers p q

-- A run goes from p to q over one or more instructions and enters no `turn`.
pub data Turnless (code : List ℕ) (handlers : List ℕ) (p : ℕ) : ℕ → Type 0 where
  Once : (q : ℕ) → Leads code handlers p q → (At code q Turn → ⊥) → Turnless code handlers p q
  Again : (q r : ℕ) → Turnless code handlers p q → Leads code handlers q r → (At code r Turn → ⊥) → Turnless code handlers p r
