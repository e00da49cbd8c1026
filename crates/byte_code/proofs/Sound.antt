-- A code that the pass has passed is valid, and a valid code's handlers fit its heights.
use Rattle.std.proofs.Common.{◌≡◌, ◌<◌, ◌≤◌, ℕ, ◌+◌, List, ◌∷◌, length, drop, true, Option, Some, None, IsSome, inl, inr, refl, sym, ap, subst, ◌∙◌, arith, get_or}
use Rattle.std.proofs.lemmas.Bool.{cases_lt}
use Rattle.std.proofs.lemmas.List.{drop_more}
use Rattle.byte_code.specs.declared.instruction.Op.{Op}
use Rattle.byte_code.specs.declared.instruction.Op.TheVariants.{Turn}
use Rattle.byte_code.specs.Effects.{effect}
use Rattle.byte_code.specs.ValidCode.{Bounds, IsStart, First, After, At, Stands, Way, Begin, Next, Along, Thrown, Behind, IsHandler, FollowsEnd, IsValid, target, goes_on, end_of, height_after, range_start, range_end, handler_target}
use Rattle.byte_code.specs.Checking.{known, Began, Fell, Ended, Passed, Pass, HandlerFits, HandlersFit}
use Rattle.byte_code.proofs.Starts.{stands_before, ends_inside, at_inside}

-- all is passed, the last instruction doesn't go on, and the handlers fit
pub record Checked (code : List ℕ) (b : Bounds) (heights : List (Option ℕ)) : Type 0 where
  pub pass : Pass code b heights (length code) None
  pub handlers : HandlersFit heights (length code) b.handlers

ended : (code : List ℕ) (b : Bounds) (heights : List (Option ℕ)) → Pass code b heights (length code) None → FollowsEnd code (length code)
ended code b heights pass = elim pass.came [ Began z x ↦ cc | Fell p h op s goes end w is ↦ cc | Ended f x ↦ f ]

-- where a height is known an instruction stands
known_stands : (code : List ℕ) (b : Bounds) (heights : List (Option ℕ)) (q g : ℕ) → Pass code b heights (length code) None → known heights q ≡ Some g → Stands code q
known_stands code b heights q g pass e =
    let inside : q < length code = pass.inside q g e in
    stands_before code q (length code) (pass.starts q g e inside) pass.start inside

some_known : {A : Type 0} (o : Option A) → IsSome o → (g : A) × (o ≡ Some g)
some_known (Some g) h = (g, refl)
some_known None h = cc

-- the height of a handler's target
target_known : (code : List ℕ) (b : Bounds) (heights : List (Option ℕ)) → Checked code b heights → (q : ℕ) → IsHandler b.handlers q → Stands code q
target_known code b heights c q h =
    let f : HandlerFits heights (length code) b.handlers h.place = c.handlers.each h.place h.within in
    let k : (g : ℕ) × (known heights (handler_target b.handlers h.place) ≡ Some g) = some_known _ f.target in
    subst (Stands code) h.leads (known_stands code b heights (handler_target b.handlers h.place) k.0 c.pass k.1)

-- every way has the height that the pass knows
pub way_known : (code : List ℕ) (b : Bounds) (heights : List (Option ℕ)) → Checked code b heights → (q g : ℕ) → Way code b.handlers q g → known heights q ≡ Some g
way_known code b heights c q g Begin =
    let f : FollowsEnd code (length code) = ended code b heights c.pass in
    let inside : 0 < length code = omega (arith, f.end) in
    let s : Stands code 0 = stands_before code 0 (length code) First c.pass.start inside in
    let p : Passed code b heights (length code) None 0 s.op = c.pass.each 0 s.op s.at inside in
    p.is ∙ ap Some (p.first refl)
way_known code b heights c q g (Next p r h k op w s goes e is) =
    let at_p : known heights p ≡ Some h = way_known code b heights c p h w in
    let x : Passed code b heights (length code) None p op = c.pass.each p op s (at_inside code p op s) in
    let same : x.height ≡ h = cc in
    let value : height_after op x.height ≡ g = ap (height_after op) same ∙ sym is in
    let le : end_of p op ≤ length code = ends_inside code p op s.begins in
    elim (cases_lt (end_of p op) (length code)) [
      | inl less ↦ ap (known heights) e ∙ x.falls goes less ∙ ap Some value
      | inr more ↦ let none : None ≡ Some (height_after op x.height) = x.last goes (omega arith) in cc
    ]
way_known code b heights c q g (Along p r h k op w s t is) =
    let at_p : known heights p ≡ Some h = way_known code b heights c p h w in
    let x : Passed code b heights (length code) None p op = c.pass.each p op s (at_inside code p op s) in
    let same : x.height ≡ h = cc in
    let value : height_after op x.height ≡ g = ap (height_after op) same ∙ sym is in
    (x.jumps q t).0 ∙ ap Some value
way_known code b heights c q g (Thrown r h) =
    let s : Stands code q = target_known code b heights c q h in
    let p : Passed code b heights (length code) None q s.op = c.pass.each q s.op s.at (at_inside code q s.op s.at) in
    p.is ∙ ap Some (p.handled h).0
way_known code b heights c q g (Behind r f inside no_jumps no_handler) =
    let start : IsStart code q = After f.from q f.op f.at.start f.at.instruction f.at.begins f.end in
    let s : Stands code q = stands_before code q (length code) start c.pass.start inside in
    let p : Passed code b heights (length code) None q s.op = c.pass.each q s.op s.at inside in
    p.is ∙ ap Some (p.behind f no_jumps no_handler)

-- a byte 51 at a start is a turn
turn_at : (code : List ℕ) (q : ℕ) → IsStart code q → q < length code → get_or code q 0 ≡ 51 → At code q Turn
turn_at code q start inside byte = record {
  start = start;
  instruction = record { fits = tt; shortest = tt };
  begins = record { rest = drop (q + 1) code; split = drop_more code q 0 inside ∙ ap (λ n. n ∷ drop (q + 1) code) byte };
}

-- an instruction that was passed, of a way
passed_way : (code : List ℕ) (b : Bounds) (heights : List (Option ℕ)) → Checked code b heights → (p h : ℕ) (op : Op) → At code p op → Way code b.handlers p h → (x : Passed code b heights (length code) None p op) × (x.height ≡ h)
passed_way code b heights c p h op s w =
    let x : Passed code b heights (length code) None p op = c.pass.each p op s (at_inside code p op s) in
    let k : known heights p ≡ Some h = way_known code b heights c p h w in
    let is : known heights p ≡ Some x.height = x.is in
    let same : x.height ≡ h = cc in
    (x, same)

-- nothing but its handlers leads to a handler's target
apart : (code : List ℕ) (b : Bounds) (heights : List (Option ℕ)) → Checked code b heights → (p q : ℕ) (op : Op) → At code p op → IsHandler b.handlers q → ((goes_on op ≡ true) × (q ≡ end_of p op) → ⊥) × (target op ≡ Some q → ⊥)
apart code b heights c p q op s h =
    let there : Stands code q = target_known code b heights c q h in
    let y : Passed code b heights (length code) None q there.op = c.pass.each q there.op there.at (at_inside code q there.op there.at) in
    let x : Passed code b heights (length code) None p op = c.pass.each p op s (at_inside code p op s) in (
      (λ (goes, end). (y.handled h).2 (record { from = p; op = op; at = s; goes = goes; end = end })),
      (λ t. elim (cases_lt p q) [
        | inl less ↦ (y.handled h).1 (record { from = p; op = op; at = s; before = less; leads = t })
        | inr back ↦
            let k : known heights q ≡ Some (height_after op x.height) = (x.jumps q t).0 in
            let z : height_after op x.height ≡ 0 = (x.back q t back).0 in
            let one : y.height ≡ 1 = (y.handled h).0 in
            let is : known heights q ≡ Some y.height = y.is in
            let wrong : ◌≡◌ {A = ℕ} 0 1 = cc in
            omega arith
      ]),
    )

pub is_valid : (code : List ℕ) (b : Bounds) (heights : List (Option ℕ)) → Checked code b heights → IsValid code b
is_valid code b heights c = record {
  instructions = c.pass.start;
  ended = ended code b heights c.pass;
  operands = λ p op s. (c.pass.each p op s (at_inside code p op s)).operand;
  targets = λ p q op s t. known_stands code b heights q _ c.pass ((c.pass.each p op s (at_inside code p op s)).jumps q t).0;
  whole = c.handlers.whole;
  starts = λ k w. let g : (x : ℕ) × (known heights (range_start b.handlers k) ≡ Some x) = some_known _ (c.handlers.each k w).start in known_stands code b heights (range_start b.handlers k) g.0 c.pass g.1;
  ends = λ k w.
      let g : (x : ℕ) × (known heights (range_end b.handlers k) ≡ Some x) = some_known _ (c.handlers.each k w).end in
      let s : Stands code (range_end b.handlers k) = known_stands code b heights (range_end b.handlers k) g.0 c.pass g.1 in
      (s.at.start, omega (arith, at_inside code (range_end b.handlers k) s.op s.at));
  handled = λ k w. let g : (x : ℕ) × (known heights (handler_target b.handlers k) ≡ Some x) = some_known _ (c.handlers.each k w).target in known_stands code b heights (handler_target b.handlers k) g.0 c.pass g.1;
  forward = λ k w. ((c.handlers.each k w).after_start, (c.handlers.each k w).after_end);
  apart = apart code b heights c;
  one_height = λ p h g v w.
      let x : known heights p ≡ Some h = way_known code b heights c p h v in
      let y : known heights p ≡ Some g = way_known code b heights c p g w in
      cc;
  room = λ p h w. c.pass.room p h (way_known code b heights c p h w);
  finds = λ p h op s w.
      let x : (y : Passed code b heights (length code) None p op) × (y.height ≡ h) = passed_way code b heights c p h op s w in
      subst (λ n. (effect op).pops ≤ n) x.1 x.0.finds;
  back = λ p q h op s w t less.
      let x : (y : Passed code b heights (length code) None p op) × (y.height ≡ h) = passed_way code b heights c p h op s w in
      let z : (height_after op x.0.height ≡ 0) × (get_or code q 0 ≡ 51) = x.0.back q t less in
      let there : Stands code q = known_stands code b heights q _ c.pass (x.0.jumps q t).0 in
      (ap (height_after op) (sym x.1) ∙ z.0, turn_at code q there.at.start (at_inside code q there.op there.at) z.1);
}

-- the height of an instruction is known
stands_known : (code : List ℕ) (b : Bounds) (heights : List (Option ℕ)) → Pass code b heights (length code) None → (q : ℕ) → Stands code q → IsSome (known heights q)
stands_known code b heights pass q s =
    let x : Passed code b heights (length code) None q s.op = pass.each q s.op s.at (at_inside code q s.op s.at) in
    subst IsSome (sym x.is) refl

-- a valid code's handlers fit its heights
pub handlers_fit : (code : List ℕ) (b : Bounds) (heights : List (Option ℕ)) → Pass code b heights (length code) None → IsValid code b → HandlersFit heights (length code) b.handlers
handlers_fit code b heights pass v = record {
  whole = v.whole;
  each = λ k w.
      let t : Stands code (handler_target b.handlers k) = v.handled k w in
      let inside : handler_target b.handlers k < length code = at_inside code _ t.op t.at in
      let less : range_end b.handlers k ≤ handler_target b.handlers k = (v.forward k w).1 in
      record {
        after_start = (v.forward k w).0;
        after_end = less;
        inside = inside;
        start = stands_known code b heights pass (range_start b.handlers k) (v.starts k w);
        end = stands_known code b heights pass (range_end b.handlers k) (stands_before code (range_end b.handlers k) (length code) (v.ends k w).0 v.instructions (omega arith));
        target = stands_known code b heights pass (handler_target b.handlers k) t;
      };
}
