-- What the pass keeps over an instruction.
use Rattle.std.proofs.Common.{◌≡◌, ◌<◌, ◌≤◌, ◌⊎◌, ℕ, List, length, Option, Some, None, inl, inr, sym, ap, ◌∙◌, arith, get_or, set}
use Rattle.std.proofs.lemmas.List.{get_or-set_same, get_or-set_other, length-set}
use Rattle.std.proofs.lemmas.Bool.{cases_eq}
use Rattle.byte_code.specs.declared.instruction.Op.{Op}
use Rattle.byte_code.specs.ValidCode.{target}
use Rattle.byte_code.specs.Checking.{known, Agrees, Takes, Back, Ahead}

-- The heights after an instruction: its own is known, what was known stays, and what is new is the
-- height at its jump.
pub record Writes (code : List ℕ) (old new : List (Option ℕ)) (at : ℕ) (op : Op) (height after : ℕ) : Type 0 where
  pub size : length new ≡ length old
  pub put : known new at ≡ Some height
  pub grows : (q g : ℕ) → known old q ≡ Some g → known new q ≡ Some g
  pub only : (q g : ℕ) → known new q ≡ Some g → ((q ≡ at) × (g ≡ height)) ⊎ (((at < q) × (target op ≡ Some q) × (g ≡ after) × (q < length code)) ⊎ (known old q ≡ Some g))
  pub jump : (to : ℕ) → target op ≡ Some to → (known new to ≡ Some after) × (to < length code)
  pub back : (to : ℕ) → target op ≡ Some to → to ≤ at → (after ≡ 0) × (get_or code to 0 ≡ 51)

-- a height is put where none or the same was known
put_keeps : (old : List (Option ℕ)) (at v : ℕ) → at < length old → Agrees (known old at) v → (q g : ℕ) → known old q ≡ Some g → known (set old at (Some v)) q ≡ Some g
put_keeps old at v within agrees q g e = elim (cases_eq q at) [
  | inl same ↦
      let here : known old at ≡ Some g = ap (λ x. known old x) (sym same) ∙ e in
      let value : g ≡ v = agrees g here in
      ap (λ x. known (set old at (Some v)) x) same ∙ get_or-set_same old at (Some v) None within ∙ ap Some (sym value)
  | inr other ↦ get_or-set_other old at q (Some v) None other ∙ e
]

put_only : (old : List (Option ℕ)) (at v : ℕ) → at < length old → (q g : ℕ) → known (set old at (Some v)) q ≡ Some g → ((q ≡ at) × (g ≡ v)) ⊎ (known old q ≡ Some g)
put_only old at v within q g e = elim (cases_eq q at) [
  | inl same ↦
      let here : known (set old at (Some v)) q ≡ Some v = ap (λ x. known (set old at (Some v)) x) same ∙ get_or-set_same old at (Some v) None within in
      let value : g ≡ v = cc in
      inl (same, value)
  | inr other ↦ inr (sym (get_or-set_other old at q (Some v) None other) ∙ e)
]

pub writes : (code : List ℕ) (old new : List (Option ℕ)) (at : ℕ) (op : Op) (height after : ℕ) (jump : Option ℕ) → at < length code → length code ≤ length old → Agrees (known old at) height → jump ≡ target op → Takes code (set old at (Some height)) new at jump after → Writes code old new at op height after
writes code old new at op height after None within room agrees j t =
    let same : new ≡ set old at (Some height) = t in
    record {
      size = ap length same ∙ length-set old at (Some height);
      put = ap (λ h. known h at) same ∙ get_or-set_same old at (Some height) None (omega arith);
      grows = λ q g e. ap (λ h. known h q) same ∙ put_keeps old at height (omega arith) agrees q g e;
      only = λ q g e. elim (put_only old at height (omega arith) q g (sym (ap (λ h. known h q) same) ∙ e)) [ inl h ↦ inl h | inr h ↦ inr (inr h) ];
      jump = λ to e. cc;
      back = λ to e b. cc;
    }
writes code old new at op height after (Some to) within room agrees j (Back b z k byte same) =
    record {
      size = ap length same ∙ length-set old at (Some height);
      put = ap (λ h. known h at) same ∙ get_or-set_same old at (Some height) None (omega arith);
      grows = λ q g e. ap (λ h. known h q) same ∙ put_keeps old at height (omega arith) agrees q g e;
      only = λ q g e. elim (put_only old at height (omega arith) q g (sym (ap (λ h. known h q) same) ∙ e)) [ inl h ↦ inl h | inr h ↦ inr (inr h) ];
      jump = λ x e. let here : x ≡ to = cc in (ap (λ h. known h x) same ∙ ap (λ i. known (set old at (Some height)) i) here ∙ k ∙ ap Some (sym z), omega arith);
      back = λ x e h. let here : x ≡ to = cc in (z, ap (λ i. get_or code i 0) here ∙ byte);
    }
writes code old new at op height after (Some to) within room agrees j (Ahead a inside fits same) =
    let mid : List (Option ℕ) = set old at (Some height) in
    let long : to < length mid = omega (arith, length-set old at (Some height)) in
    record {
      size = ap length same ∙ length-set mid to (Some after) ∙ length-set old at (Some height);
      put = ap (λ h. known h at) same ∙ put_keeps mid to after long fits at height (get_or-set_same old at (Some height) None (omega arith));
      grows = λ q g e. ap (λ h. known h q) same ∙ put_keeps mid to after long fits q g (put_keeps old at height (omega arith) agrees q g e);
      only = λ q g e. elim (put_only mid to after long q g (sym (ap (λ h. known h q) same) ∙ e)) [
        | inl h ↦ let less : at < q = omega (arith, h.0) in inr (inl (less, sym j ∙ ap Some (sym h.0), h.1, omega (arith, h.0)))
        | inr h ↦ elim (put_only old at height (omega arith) q g h) [ inl k ↦ inl k | inr k ↦ inr (inr k) ]
      ];
      jump = λ x e. let here : x ≡ to = cc in (ap (λ h. known h x) same ∙ ap (λ i. known (set mid to (Some after)) i) here ∙ get_or-set_same mid to (Some after) None long, omega arith);
      back = λ x e h. let here : x ≡ to = cc in absurd (omega arith);
    }
