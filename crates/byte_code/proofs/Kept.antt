-- The pass stands at the next instruction.
use Rattle.std.proofs.Common.{◌≡◌, ◌<◌, ◌≤◌, ℕ, ◌+◌, List, length, Bool, true, false, Option, Some, None, inl, inr, refl, sym, ap, subst, ◌∙◌, arith}
use Rattle.std.proofs.lemmas.Bool.{cases_order}
use Rattle.byte_code.specs.declared.instruction.Op.{Op}
use Rattle.byte_code.specs.Instructions.{parts}
use Rattle.byte_code.specs.Effects.{effect}
use Rattle.byte_code.specs.ValidCode.{Bounds, IsStart, After, At, Way, Along, IsHandler, FollowsEnd, IsJumpedTo, IsInBounds, goes_on, end_of, height_after}
use Rattle.byte_code.specs.Checking.{known, entry, Came, Began, Fell, Ended, Passed, Pass}
use Rattle.byte_code.proofs.Starts.{one_op, order, same_end, at_inside}
use Rattle.byte_code.proofs.Entering.{Entering, enter_way, entry_before, entry_handler, no_jump, no_fall}
use Rattle.byte_code.proofs.Keeping.{Writes}

-- what the pass finds of an instruction besides its heights
pub record Finds (code : List ℕ) (b : Bounds) (new : List (Option ℕ)) (at : ℕ) (op : Op) (height after : ℕ) : Type 0 where
  pub operand : IsInBounds b (parts op).1
  pub pops : (effect op).pops ≤ height
  pub room : height ≤ b.operands
  pub after_room : after ≤ b.operands
  pub after_is : after ≡ height_after op height
  pub free : (q : ℕ) → at + 1 ≤ q → q < end_of at op → known new q ≡ None

-- the height of an instruction to which nothing leads
behind_height : (code : List ℕ) (b : Bounds) (heights : List (Option ℕ)) (at : ℕ) (before : Option ℕ) (handler : Bool) (op : Op) (height : ℕ) → Entering code b heights at before handler op height → FollowsEnd code at → (IsJumpedTo code at → ⊥) → (IsHandler b.handlers at → ⊥) → height ≡ 0
behind_height code b heights at before handler op height e f no_jumps no_handler =
    by handler before (known heights at) refl refl refl e.entered
  where
    fallen : (h : ℕ) → before ≡ Some h → ⊥
    fallen h q = elim e.pass.came [
      | Began z x ↦ omega (arith, f.end)
      | Fell p g o s goes end w is ↦
          let same : p ≡ f.from = same_end code p f.from o f.op s f.at (sym end ∙ f.end) in
          let one : o ≡ f.op = one_op code f.from o f.op (subst (λ x. At code x o) same s) f.at in
          let goes2 : goes_on f.op ≡ true = sym (ap goes_on one) ∙ goes in
          let stops : goes_on f.op ≡ false = f.ends in
          cc
      | Ended g x ↦ cc
    ]

    by : (t : Bool) (x y : Option ℕ) → handler ≡ t → before ≡ x → known heights at ≡ y → entry t x y ≡ Some height → height ≡ 0
    by true x y p q r n = absurd (no_handler (e.yes p))
    by false (Some h) y p q r n = absurd (fallen h q)
    by false None (Some g) p q r n = absurd (no_jumps (e.pass.ahead at g r (omega arith)))
    by false None None p q r n = cc

-- the height of the first instruction
first_height : (code : List ℕ) (b : Bounds) (heights : List (Option ℕ)) (at : ℕ) (before : Option ℕ) (handler : Bool) (op : Op) (height : ℕ) → Entering code b heights at before handler op height → at ≡ 0 → height ≡ 0
first_height code b heights at before handler op height e z = elim e.pass.came [
  | Began y x ↦ sym (entry_before handler before (known heights at) height 0 e.entered x)
  | Fell p g o s goes end w is ↦ absurd (omega (arith, end))
  | Ended f x ↦ absurd (omega (arith, f.end))
]

-- the instruction that is passed now
this : (code : List ℕ) (b : Bounds) (old new : List (Option ℕ)) (at : ℕ) (before : Option ℕ) (handler : Bool) (op : Op) (height after : ℕ) (next : Option ℕ) → Entering code b old at before handler op height → Writes code old new at op height after → Finds code b new at op height after → (goes_on op ≡ true → next ≡ Some after) → Passed code b new (end_of at op) next at op
this code b old new at before handler op height after next e w f n = record {
  height = height;
  is = w.put;
  first = first_height code b old at before handler op height e;
  handled = λ h.
      let alone : (before ≡ None) × (known old at ≡ None) × (height ≡ 1) =
      entry_handler before (known old at) height (subst (λ t. entry t before (known old at) ≡ Some height) (e.no h) e.entered) in
      (alone.2, no_jump code b old at before e.pass alone.1, no_fall code b old at before e.pass alone.0);
  behind = behind_height code b old at before handler op height e;
  operand = f.operand;
  finds = f.pops;
  falls = λ goes less. absurd (omega arith);
  last = λ goes same. n goes ∙ ap Some f.after_is;
  jumps = λ to t. ((w.jump to t).0 ∙ ap Some f.after_is, (w.jump to t).1);
  back = λ to t less. (sym f.after_is ∙ (w.back to t less).0, (w.back to t less).1);
}

-- an instruction that was passed before
earlier : (code : List ℕ) (b : Bounds) (old new : List (Option ℕ)) (at : ℕ) (before : Option ℕ) (handler : Bool) (op : Op) (height after : ℕ) (next : Option ℕ) → Entering code b old at before handler op height → Writes code old new at op height after → (p : ℕ) (o : Op) → At code p o → p < at → Passed code b new (end_of at op) next p o
earlier code b old new at before handler op height after next e w p o s less =
    let was : Passed code b old at before p o = e.pass.each p o s less in
    let ordered : end_of p o ≤ at = order code p at o s e.pass.start less in
    record {
      height = was.height;
      is = w.grows p was.height was.is;
      first = was.first;
      handled = was.handled;
      behind = was.behind;
      operand = was.operand;
      finds = was.finds;
      falls = λ goes inside. elim (cases_order (end_of p o) at) [
        | inl same ↦
            let h : height_after o was.height ≡ height = entry_before handler before (known old at) height (height_after o was.height) e.entered (was.last goes same) in
            ap (λ x. known new x) same ∙ w.put ∙ ap Some (sym h)
        | inr (inl sooner) ↦ w.grows (end_of p o) (height_after o was.height) (was.falls goes sooner)
        | inr (inr later) ↦ absurd (omega arith)
      ];
      last = λ goes same. absurd (omega arith);
      jumps = λ to t. (w.grows to (height_after o was.height) (was.jumps to t).0, (was.jumps to t).1);
      back = was.back;
    }

-- how the pass came to the next instruction
came_next : (code : List ℕ) (b : Bounds) (at : ℕ) (op : Op) (height after : ℕ) (next : Option ℕ) → At code at op → Way code b.handlers at height → after ≡ height_after op height → (goes_on op ≡ true → next ≡ Some after) → (goes_on op ≡ false → next ≡ None) → Came code b.handlers (end_of at op) next
came_next code b at op height after next here way is goes stops = by (goes_on op) refl
  where
    by : (t : Bool) → goes_on op ≡ t → Came code b.handlers (end_of at op) next
    by true t = Fell at height op here t refl way (goes t ∙ ap Some is)
    by false t = Ended (record { from = at; op = op; at = here; ends = t; end = refl }) (stops t)

pub kept : (code : List ℕ) (b : Bounds) (old new : List (Option ℕ)) (at : ℕ) (before : Option ℕ) (handler : Bool) (op : Op) (height after : ℕ) (next : Option ℕ) → Entering code b old at before handler op height → Writes code old new at op height after → Finds code b new at op height after → (goes_on op ≡ true → next ≡ Some after) → (goes_on op ≡ false → next ≡ None) → Pass code b new (end_of at op) next
kept code b old new at before handler op height after next e w f goes stops =
    let way : Way code b.handlers at height = enter_way code b old at before handler op height e in
    let within : at < length code = at_inside code at op e.here in
    record {
      start = After at (end_of at op) op e.here.start e.here.instruction e.here.begins refl;
      size = omega (arith, w.size, e.pass.size);
      ways = λ q g k. elim (w.only q g k) [
        | inl h ↦ subst (λ x. Way code b.handlers x g) (sym h.0) (subst (λ x. Way code b.handlers at x) (sym h.1) way)
        | inr (inl h) ↦ Along at q height g op way e.here h.1 (h.2 ∙ f.after_is)
        | inr (inr h) ↦ e.pass.ways q g h
      ];
      room = λ q g k. elim (w.only q g k) [
        | inl h ↦ omega (arith, h.1, f.room)
        | inr (inl h) ↦ omega (arith, h.2, f.after_room)
        | inr (inr h) ↦ e.pass.room q g h
      ];
      inside = λ q g k. elim (w.only q g k) [
        | inl h ↦ omega (arith, h.0)
        | inr (inl h) ↦ h.3
        | inr (inr h) ↦ e.pass.inside q g h
      ];
      starts = λ q g k less. elim (cases_order q at) [
        | inl same ↦ subst (λ x. IsStart code x) (sym same) e.pass.start
        | inr (inl sooner) ↦ elim (w.only q g k) [
          | inl h ↦ absurd (omega (arith, h.0))
          | inr (inl h) ↦ absurd (omega (arith, h.0))
          | inr (inr h) ↦ e.pass.starts q g h sooner
        ]
        | inr (inr later) ↦ let none : known new q ≡ None = f.free q (omega arith) less in cc
      ];
      ahead = λ q g k less. elim (w.only q g k) [
        | inl h ↦ absurd (omega (arith, h.0))
        | inr (inl h) ↦ record { from = at; op = op; at = e.here; before = h.0; leads = h.1 }
        | inr (inr h) ↦ e.pass.ahead q g h (omega arith)
      ];
      came = came_next code b at op height after next e.here way f.after_is goes stops;
      each = λ p o s less. elim (cases_order p at) [
        | inl same ↦
            let there : At code at o = subst (λ x. At code x o) same s in
            let one : op ≡ o = one_op code at op o e.here there in
            subst (λ x. Passed code b new (end_of at op) next x o) (sym same) (subst (λ x. Passed code b new (end_of at op) next at x) one (this code b old new at before handler op height after next e w f goes))
        | inr (inl sooner) ↦ earlier code b old new at before handler op height after next e w p o s sooner
        | inr (inr later) ↦ let l : end_of at op ≤ p = order code at p op e.here s.start later in absurd (omega arith)
      ];
    }

-- a height that is known inside the instruction is that of a jump into it
pub jumped_inside : (code : List ℕ) (b : Bounds) (old new : List (Option ℕ)) (at : ℕ) (before : Option ℕ) (handler : Bool) (op : Op) (height after : ℕ) → Entering code b old at before handler op height → Writes code old new at op height after → (q : ℕ) → (IsJumpedTo code q → ⊥) → at + 1 ≤ q → known new q ≡ None
jumped_inside code b old new at before handler op height after e w q none less = by (known new q) refl
  where
    by : (o : Option ℕ) → known new q ≡ o → o ≡ None
    by None k = refl
    by (Some g) k = absurd (elim (w.only q g k) [
      | inl h ↦ omega (arith, h.0)
      | inr (inl h) ↦ none (record { from = at; op = op; at = e.here; before = h.0; leads = h.1 })
      | inr (inr h) ↦ none (e.pass.ahead q g h (omega arith))
    ])
