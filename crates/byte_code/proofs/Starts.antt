-- Starts of instructions: they don't stand inside one another, and one instruction stands at each.
use Rattle.std.proofs.Common.{◌≡◌, ◌<◌, ◌≤◌, ℕ, zero, suc, ◌+◌, List, length, drop, inl, inr, sym, ap, subst, ◌∙◌, arith, length-append}
use Rattle.std.proofs.lemmas.List.{length-drop}
use Rattle.std.proofs.lemmas.Bool.{cases_order}
use Rattle.byte_code.specs.declared.instruction.Op.{Op}
use Rattle.byte_code.specs.Instructions.{spelling, Begins}
use Rattle.byte_code.specs.ValidCode.{IsStart, First, After, At, Stands, end_of}
use Rattle.byte_code.proofs.Laws.{one_spelling}

-- one instruction begins at a place
pub one_op : (code : List ℕ) (p : ℕ) (a b : Op) → At code p a → At code p b → a ≡ b
one_op code p a b s t = (one_spelling a b s.begins.rest t.begins.rest s.instruction t.instruction (sym s.begins.split ∙ t.begins.split)).0

-- an instruction lies in the code
pub ends_inside : (code : List ℕ) (p : ℕ) (op : Op) → Begins (drop p code) op → end_of p op ≤ length code
ends_inside code p op b = omega (arith, ap length b.split, length-drop p code, length-append (spelling op) b.rest)

pub start_inside : (code : List ℕ) (p : ℕ) → IsStart code p → p ≤ length code
start_inside code p First = omega arith
start_inside code p (After r q op s i b e) = let h : end_of r op ≤ length code = ends_inside code r op b in omega arith

-- what is known of places up to n: an instruction that starts before a start ends before it
abbrev Ordered : ℕ → Type 0
Ordered n = (code : List ℕ) (p a : ℕ) (op : Op) → p ≤ n → a ≤ n → At code p op → IsStart code a → p < a → end_of p op ≤ a

order_by : (n : ℕ) → Ordered n
order_by n code p a op pn an s First h = absurd (omega arith)
order_by zero code p a op pn an s (After r q o t i b e) h = absurd (omega arith)
order_by (suc n) code p a op pn an s (After r q o t i b e) h =
    let here : At code r o = record { start = t; instruction = i; begins = b } in
    elim (cases_order p r) [
      | inl same ↦
          let e2 : op ≡ o = one_op code r op o (subst (λ x. At code x op) same s) here in
          let l : length (spelling op) ≡ length (spelling o) = ap (λ x. length (spelling x)) e2 in
          omega arith
      | inr (inl before) ↦
          let l : end_of p op ≤ r = order_by n code p r op (omega arith) (omega arith) s t before in
          omega arith
      | inr (inr behind) ↦
          let l : end_of r o ≤ p = order_by n code r p o (omega arith) (omega arith) here s.start behind in
          absurd (omega arith)
    ]

pub order : (code : List ℕ) (p a : ℕ) (op : Op) → At code p op → IsStart code a → p < a → end_of p op ≤ a
order code p a op s t h = order_by (p + a) code p a op (omega arith) (omega arith) s t h

-- two instructions that end at one place are one
pub same_end : (code : List ℕ) (p q : ℕ) (a b : Op) → At code p a → At code q b → end_of p a ≡ end_of q b → p ≡ q
same_end code p q a b s t e =
    elim (cases_order p q) [
      | inl same ↦ same
      | inr (inl before) ↦ let l : end_of p a ≤ q = order code p q a s t.start before in absurd (omega arith)
      | inr (inr behind) ↦ let l : end_of q b ≤ p = order code q p b t s.start behind in absurd (omega arith)
    ]

-- at a start before another start an instruction stands
pub stands_before : (code : List ℕ) (p q : ℕ) → IsStart code p → IsStart code q → p < q → Stands code p
stands_before code p q s First h = absurd (omega arith)
stands_before code p q s (After r q2 op t i b e) h =
    let here : At code r op = record { start = t; instruction = i; begins = b } in
    elim (cases_order p r) [
      | inl same ↦ subst (Stands code) (sym same) (record { op = op; at = here })
      | inr (inl before) ↦ stands_before code p r s t before
      | inr (inr behind) ↦ let l : end_of r op ≤ p = order code r p op here s behind in absurd (omega arith)
    ]

-- an instruction starts inside the code
pub at_inside : (code : List ℕ) (p : ℕ) (op : Op) → At code p op → p < length code
at_inside code p op s = let h : end_of p op ≤ length code = ends_inside code p op s.begins in omega arith
