-- What a machine relies on: where a run of valid code comes, an instruction stands, with one height; it
-- finds what it takes and stays within the frame; and no run comes back to an instruction without a
-- `turn`.
use Rattle.std.proofs.Common.{◌≡◌, ◌<◌, ◌≤◌, ℕ, List, length, true, false, inl, inr, refl, sym, ap, subst, ◌∙◌, arith}
use Rattle.std.proofs.lemmas.Bool.{cases_lt}
use Rattle.byte_code.specs.declared.instruction.Op.{Op}
use Rattle.byte_code.specs.declared.instruction.Op.TheVariants.{Turn}
use Rattle.byte_code.specs.Instructions.{parts}
use Rattle.byte_code.specs.Effects.{effect}
use Rattle.byte_code.specs.ValidCode.{Bounds, IsStart, First, After, At, Stands, Way, Begin, Next, Along, Thrown, Behind, IsInBounds, IsValid, goes_on, end_of, height_after, Leads, Onward, Jumps, Throws, Turnless, Once, Again}
use Rattle.byte_code.proofs.Starts.{one_op, same_end, stands_before, ends_inside}

-- an instruction that goes on isn't the last
not_last : (code : List ℕ) (b : Bounds) → IsValid code b → (p : ℕ) (op : Op) → At code p op → goes_on op ≡ true → end_of p op < length code
not_last code b v p op s goes = elim (cases_lt (end_of p op) (length code)) [
  | inl less ↦ less
  | inr more ↦
      let inside : end_of p op ≤ length code = ends_inside code p op s.begins in
      let same : p ≡ v.ended.from = same_end code p v.ended.from op v.ended.op s v.ended.at (omega (arith, v.ended.end)) in
      let one : op ≡ v.ended.op = one_op code v.ended.from op v.ended.op (subst (λ x. At code x op) same s) v.ended.at in
      let goes2 : goes_on v.ended.op ≡ true = sym (ap goes_on one) ∙ goes in
      let stops : goes_on v.ended.op ≡ false = v.ended.ends in
      cc
]

-- an instruction stands where a way leads
pub way_stands : (code : List ℕ) (b : Bounds) → IsValid code b → (q g : ℕ) → Way code b.handlers q g → Stands code q
way_stands code b v q g Begin = stands_before code 0 (length code) First v.instructions (omega (arith, v.ended.end))
way_stands code b v q g (Next p r h k op w s goes e is) =
    let start : IsStart code q = After p q op s.start s.instruction s.begins e in
    stands_before code q (length code) start v.instructions (omega (arith, not_last code b v p op s goes))
way_stands code b v q g (Along p r h k op w s t is) = v.targets p q op s t
way_stands code b v q g (Thrown r h) = subst (Stands code) h.leads (v.handled h.place h.within)
way_stands code b v q g (Behind r f inside no_jumps no_handler) =
    stands_before code q (length code) (After f.from q f.op f.at.start f.at.instruction f.at.begins f.end) v.instructions inside

-- what holds at an instruction to which a way leads
pub record RunsWell (code : List ℕ) (b : Bounds) (p h : ℕ) (op : Op) : Type 0 where
  pub one_height : (g : ℕ) → Way code b.handlers p g → g ≡ h
  pub finds : (effect op).pops ≤ h
  pub room : h ≤ b.operands
  pub after_room : goes_on op ≡ true → height_after op h ≤ b.operands
  pub in_bounds : IsInBounds b (parts op).1

pub runs_well : (code : List ℕ) (b : Bounds) → IsValid code b → (p h : ℕ) (op : Op) → Way code b.handlers p h → At code p op → RunsWell code b p h op
runs_well code b v p h op w s = record {
  one_height = λ g x. v.one_height p g h x w;
  finds = v.finds p h op s w;
  room = v.room p h w;
  after_room = λ goes. v.room (end_of p op) (height_after op h) (Next p (end_of p op) h (height_after op h) op w s goes refl refl);
  in_bounds = v.operands p op s;
}

-- a run stays on ways
pub leads_way : (code : List ℕ) (b : Bounds) → (p q h : ℕ) → Way code b.handlers p h → Leads code b.handlers p q → (g : ℕ) × Way code b.handlers q g
leads_way code b p q h w (Onward op s goes e) = (height_after op h, Next p q h (height_after op h) op w s goes e refl)
leads_way code b p q h w (Jumps op s t) = (height_after op h, Along p q h (height_after op h) op w s t refl)
leads_way code b p q h w (Throws k within low high e) = (1, Thrown q (record { place = k; within = within; leads = e }))

-- a step of a run leads forward or to a turn
pub leads_on : (code : List ℕ) (b : Bounds) → IsValid code b → (p q h : ℕ) → Way code b.handlers p h → Leads code b.handlers p q → (At code q Turn → ⊥) → p < q
leads_on code b v p q h w (Onward op s goes e) other = omega (arith, e)
leads_on code b v p q h w (Jumps op s t) other = elim (cases_lt p q) [
  | inl less ↦ less
  | inr back ↦ absurd (other (v.back p q h op s w t back).1)
]
leads_on code b v p q h w (Throws k within low high e) other = omega (arith, (v.forward k within).1, e)

pub turnless_on : (code : List ℕ) (b : Bounds) → IsValid code b → (p q h : ℕ) → Way code b.handlers p h → Turnless code b.handlers p q → (p < q) × ((g : ℕ) × Way code b.handlers q g)
turnless_on code b v p q h w (Once r l other) = (leads_on code b v p q h w l other, leads_way code b p q h w l)
turnless_on code b v p q h w (Again m r t l other) =
    let first : (p < m) × ((g : ℕ) × Way code b.handlers m g) = turnless_on code b v p m h w t in
    let less : m < q = leads_on code b v m q first.1.0 first.1.1 l other in
    (omega (arith, first.0, less), leads_way code b m q first.1.0 first.1.1 l)

-- no run of valid code comes back to an instruction without a turn
pub comes_back_by_turn : (code : List ℕ) (b : Bounds) → IsValid code b → (p h : ℕ) → Way code b.handlers p h → Turnless code b.handlers p p → ⊥
comes_back_by_turn code b v p h w t = omega (arith, (turnless_on code b v p p h w t).0)
