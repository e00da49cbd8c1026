-- Why each refusal of the pass is right: valid code would have passed.
use Rattle.std.proofs.Common.{◌≡◌, ◌<◌, ◌≤◌, ℕ, List, length, drop, Bool, true, false, Option, Some, None, inl, inr, refl, sym, ap, subst, ◌∙◌, arith, get_or, set, nat_eq, eq-eqb, cond}
use Rattle.std.proofs.lemmas.List.{get_or-set_other}
use Rattle.std.proofs.lemmas.Bool.{cases_eq}
use Rattle.byte_code.specs.declared.instruction.Op.{Op}
use Rattle.byte_code.specs.declared.instruction.Op.TheVariants.{Turn}
use Rattle.byte_code.specs.Instructions.{IsInstruction, Begins}
use Rattle.byte_code.specs.Effects.{effect}
use Rattle.byte_code.specs.ValidCode.{Bounds, At, Stands, Way, Next, Along, IsHandler, IsJumpedTo, IsValid, target, goes_on, end_of, height_after, handler_target, range_start}
use Rattle.byte_code.specs.Checking.{known, entry, Began, Fell, Ended, Passed, Pass, NoTurn, NoPlace, RefusesAny}
use Rattle.byte_code.proofs.Starts.{one_op, same_end, order, stands_before, at_inside}
use Rattle.byte_code.proofs.Entering.{Entering, came_way, enter_way, first_byte, quiet}

-- no instruction begins where the pass stands
pub no_instruction : (code : List ℕ) (b : Bounds) (heights : List (Option ℕ)) (at : ℕ) (before : Option ℕ) → Pass code b heights at before → at < length code → ((op : Op) → IsInstruction op → Begins (drop at code) op → ⊥) → IsValid code b → ⊥
no_instruction code b heights at before pass within none v =
    let s : Stands code at = stands_before code at (length code) pass.start v.instructions within in
    none s.op s.at.instruction s.at.begins

-- the heights of what leads there don't fit
pub no_entry : (code : List ℕ) (b : Bounds) (heights : List (Option ℕ)) (at : ℕ) (before : Option ℕ) (handler : Bool) → Pass code b heights at before → (handler ≡ true → IsHandler b.handlers at) → entry handler before (known heights at) ≡ None → IsValid code b → ⊥
no_entry code b heights at before handler pass tells e v =
    by handler before (known heights at) refl refl refl e
  where
    fallen : (h : ℕ) → IsHandler b.handlers at → before ≡ Some h → ⊥
    fallen h k q = elim pass.came [
      | Began z x ↦ let f : (range_start b.handlers k.place < handler_target b.handlers k.place) × _ = v.forward k.place k.within in absurd (omega (arith, f.0, k.leads))
      | Fell p g o s goes end w is ↦ (v.apart p at o s k).0 (goes, end)
      | Ended f x ↦ cc
    ]

    by : (t : Bool) (x y : Option ℕ) → handler ≡ t → before ≡ x → known heights at ≡ y → entry t x y ≡ None → ⊥
    by true None None p q r n = cc
    by true (Some h) y p q r n = fallen h (tells p) q
    by true None (Some g) p q r n =
        let j : IsJumpedTo code at = pass.ahead at g r (omega arith) in
        (v.apart j.from at j.op j.at (tells p)).1 j.leads
    by false None None p q r n = cc
    by false (Some h) None p q r n = cc
    by false None (Some g) p q r n = cc
    by false (Some h) (Some g) p q r n =
        let same : h ≡ g = v.one_height at h g (came_way code b.handlers at h before pass.came q) (pass.ways at g r) in
        let kept : cond (nat_eq h g) (Some h) None ≡ Some h = ap (λ t. cond t (Some h) None) (eq-eqb h g same) in
        cc

-- the instruction doesn't find what it takes, or leaves too much
pub no_room : (code : List ℕ) (b : Bounds) (heights : List (Option ℕ)) (at : ℕ) (before : Option ℕ) (handler : Bool) (op : Op) (height : ℕ) → Entering code b heights at before handler op height → ((effect op).pops ≤ height → height ≤ b.operands → height_after op height ≤ b.operands → ⊥) → IsValid code b → ⊥
no_room code b heights at before handler op height e none v =
    let way : Way code b.handlers at height = enter_way code b heights at before handler op height e in
    let room : height ≤ b.operands = v.room at height way in
    none (v.finds at height op e.here way) room (by (goes_on op) refl way room)
  where
    by : (t : Bool) → goes_on op ≡ t → Way code b.handlers at height → height ≤ b.operands → height_after op height ≤ b.operands
    by true goes way room = v.room (end_of at op) (height_after op height) (Next at (end_of at op) height (height_after op height) op way e.here goes refl refl)
    by false ends way room = omega (arith, quiet op ends)

-- an earlier jump leads into the instruction
pub no_inner : (code : List ℕ) (at q : ℕ) (op : Op) (b : Bounds) → At code at op → at < q → q < end_of at op → IsJumpedTo code q → IsValid code b → ⊥
no_inner code at q op b here after inner j v =
    let s : Stands code q = v.targets j.from q j.op j.at j.leads in
    let l : end_of at op ≤ q = order code at q op here s.at.start after in
    omega arith

-- the jump doesn't lead where it may
pub no_target : (code : List ℕ) (b : Bounds) (heights : List (Option ℕ)) (at : ℕ) (before : Option ℕ) (handler : Bool) (op : Op) (height : ℕ) → Entering code b heights at before handler op height → (jump : Option ℕ) → jump ≡ target op → RefusesAny code (set heights at (Some height)) at jump (height_after op height) → IsValid code b → ⊥
no_target code b heights at before handler op height e None j r v = r
no_target code b heights at before handler op height e (Some to) j (NoTurn back none) v =
    let way : Way code b.handlers at height = enter_way code b heights at before handler op height e in
    let right : (height_after op height ≡ 0) × At code to Turn = v.back at to height op e.here way (sym j) back in
    let leads : Way code b.handlers to 0 = Along at to height 0 op way e.here (sym j) (sym right.0) in
    let byte : get_or code to 0 ≡ 51 = first_byte code to Turn right.1.begins in
    none right.0 (elim (cases_eq to at) [
      | inl same ↦
          let one : op ≡ Turn = one_op code at op Turn e.here (subst (λ x. At code x Turn) same right.1) in
          let no : target op ≡ None = ap target one in
          cc
      | inr other ↦
          let p : Passed code b heights at before to Turn = e.pass.each to Turn right.1 (omega arith) in
          let zero_height : p.height ≡ 0 = v.one_height to p.height 0 (e.pass.ways to p.height p.is) leads in
          get_or-set_other heights at to (Some height) None other ∙ p.is ∙ ap Some zero_height
    ]) byte
no_target code b heights at before handler op height e (Some to) j (NoPlace ahead none) v =
    let way : Way code b.handlers at height = enter_way code b heights at before handler op height e in
    let leads : Way code b.handlers to (height_after op height) = Along at to height (height_after op height) op way e.here (sym j) refl in
    let s : Stands code to = v.targets at to op e.here (sym j) in
    let other : to ≡ at → ⊥ = λ q. omega arith in
    none (at_inside code to s.op s.at)
    (λ g q. v.one_height to g (height_after op height) (e.pass.ways to g (sym (get_or-set_other heights at to (Some height) None other) ∙ q)) leads)

-- the code ends with an instruction that goes on, or is empty
pub no_end : (code : List ℕ) (b : Bounds) (heights : List (Option ℕ)) (h : ℕ) → Pass code b heights (length code) (Some h) → IsValid code b → ⊥
no_end code b heights h pass v = elim pass.came [
  | Began z x ↦ omega (arith, v.ended.end)
  | Fell p g op s goes end w is ↦
      let same : p ≡ v.ended.from = same_end code p v.ended.from op v.ended.op s v.ended.at (sym end ∙ v.ended.end) in
      let one : op ≡ v.ended.op = one_op code v.ended.from op v.ended.op (subst (λ x. At code x op) same s) v.ended.at in
      let goes2 : goes_on v.ended.op ≡ true = sym (ap goes_on one) ∙ goes in
      let stops : goes_on v.ended.op ≡ false = v.ended.ends in
      cc
  | Ended f x ↦ cc
]
