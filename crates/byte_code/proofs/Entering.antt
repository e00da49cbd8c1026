-- The height with which the pass enters an instruction, and why a refusal is right.
use Rattle.std.proofs.Common.{◌≡◌, ℕ, ◌+◌, List, drop, Bool, true, false, Option, Some, None, refl, sym, ap, subst, ◌∙◌, arith, get_or, nat_eq, cond}
use Rattle.std.proofs.lemmas.List.{get_or-drop}
use Rattle.std.proofs.lemmas.Bool.{eqb-true}
use Rattle.byte_code.specs.declared.instruction.Op.{Op}
use Rattle.byte_code.specs.declared.instruction.Op.TheVariants.{Jump, Return, Throw}
use Rattle.byte_code.specs.Instructions.{parts, Begins}
use Rattle.byte_code.specs.Effects.{effect}
use Rattle.byte_code.specs.ValidCode.{Bounds, At, Way, Begin, Next, Thrown, Behind, IsHandler, IsJumpedTo, goes_on, height_after}
use Rattle.byte_code.specs.Checking.{known, entry, Came, Began, Fell, Ended, Pass, IsFallenTo}
use Rattle.byte_code.proofs.Starts.{at_inside}

-- The pass enters the instruction at `at` with a height.
pub record Entering (code : List ℕ) (b : Bounds) (heights : List (Option ℕ)) (at : ℕ) (before : Option ℕ) (handler : Bool) (op : Op) (height : ℕ) : Type 0 where
  pub pass : Pass code b heights at before
  pub here : At code at op
  pub yes : handler ≡ true → IsHandler b.handlers at
  pub no : IsHandler b.handlers at → handler ≡ true
  pub entered : entry handler before (known heights at) ≡ Some height

-- how the pass came to a place is a way to it
pub came_way : (code handlers : List ℕ) (at h : ℕ) (before : Option ℕ) → Came code handlers at before → before ≡ Some h → Way code handlers at h
came_way code hs at h before (Began z e) q =
    let zero_h : 0 ≡ h = cc in
    subst (λ a. Way code hs a h) (sym z) (subst (λ x. Way code hs 0 x) zero_h Begin)
came_way code hs at h before (Fell p g op s goes e w is) q =
    let same : h ≡ height_after op g = cc in
    Next p at g h op w s goes e same
came_way code hs at h before (Ended f is) q = cc

-- where no height is known no earlier jump leads
pub no_jump : (code : List ℕ) (b : Bounds) (heights : List (Option ℕ)) (at : ℕ) (before : Option ℕ) → Pass code b heights at before → known heights at ≡ None → IsJumpedTo code at → ⊥
no_jump code b heights at before pass none j =
    let e : known heights at ≡ Some _ = ((pass.each j.from j.op j.at j.before).jumps at j.leads).0 in
    cc

-- where the instruction before doesn't go on none does
pub no_fall : (code : List ℕ) (b : Bounds) (heights : List (Option ℕ)) (at : ℕ) (before : Option ℕ) → Pass code b heights at before → before ≡ None → IsFallenTo code at → ⊥
no_fall code b heights at before pass none f =
    let e : before ≡ Some _ = (pass.each f.from f.op f.at (omega (arith, f.end))).last f.goes (sym f.end) in
    cc

-- what an entry says of what came before and of earlier jumps
pub entry_before : (handler : Bool) (before pending : Option ℕ) (h g : ℕ) → entry handler before pending ≡ Some h → before ≡ Some g → g ≡ h
entry_before true None None h g e q = cc
entry_before true None (Some x) h g e q = cc
entry_before true (Some y) pending h g e q = cc
entry_before false None None h g e q = cc
entry_before false None (Some x) h g e q = cc
entry_before false (Some y) None h g e q = cc
entry_before false (Some y) (Some x) h g e q = both (nat_eq y x) y h g e q
  where
    both : (t : Bool) (y h g : ℕ) → cond t (Some y) None ≡ Some h → Some y ≡ Some g → g ≡ h
    both true y h g e q = cc
    both false y h g e q = cc

pub entry_pending : (handler : Bool) (before pending : Option ℕ) (h g : ℕ) → entry handler before pending ≡ Some h → pending ≡ Some g → g ≡ h
entry_pending true None None h g e q = cc
entry_pending true None (Some x) h g e q = cc
entry_pending true (Some y) pending h g e q = cc
entry_pending false None None h g e q = cc
entry_pending false None (Some x) h g e q = cc
entry_pending false (Some y) None h g e q = cc
entry_pending false (Some y) (Some x) h g e q = both (nat_eq y x) refl
  where
    both : (t : Bool) → nat_eq y x ≡ t → g ≡ h
    both true n =
        let same : y ≡ x = eqb-true y x n in
        let kept : cond (nat_eq y x) (Some y) None ≡ Some y = ap (λ b. cond b (Some y) None) n in
        cc
    both false n =
        let none : cond (nat_eq y x) (Some y) None ≡ None = ap (λ b. cond b (Some y) None) n in
        cc

pub entry_handler : (before pending : Option ℕ) (h : ℕ) → entry true before pending ≡ Some h → (before ≡ None) × (pending ≡ None) × (h ≡ 1)
entry_handler None None h e = let q : h ≡ 1 = cc in (refl, refl, q)
entry_handler None (Some x) h e = cc
entry_handler (Some y) pending h e = cc

pub entry_none : (h : ℕ) → entry false None None ≡ Some h → h ≡ 0
entry_none h e = cc

pub quiet : (op : Op) → goes_on op ≡ false → (effect op).pushes ≡ 0
quiet (Jump to) h = refl
quiet Return h = refl
quiet Throw h = refl
quiet _ h = cc

-- the height with which the pass enters an instruction is that of a way to it
pub enter_way : (code : List ℕ) (b : Bounds) (heights : List (Option ℕ)) (at : ℕ) (before : Option ℕ) (handler : Bool) (op : Op) (height : ℕ) → Entering code b heights at before handler op height → Way code b.handlers at height
enter_way code b heights at before handler op height e =
    by handler before (known heights at) refl refl refl e.entered
  where
    by : (t : Bool) (x y : Option ℕ) → handler ≡ t → before ≡ x → known heights at ≡ y → entry t x y ≡ Some height → Way code b.handlers at height
    by true None None p q r n =
        let one : 1 ≡ height = cc in
        subst (λ v. Way code b.handlers at v) one (Thrown at (e.yes p))
    by true None (Some g) p q r n = cc
    by true (Some h) y p q r n = cc
    by false (Some h) y p q r n =
        let same : h ≡ height = entry_before false (Some h) y height h n refl in
        came_way code b.handlers at height before e.pass.came (q ∙ ap Some same)
    by false None (Some g) p q r n =
        let same : g ≡ height = entry_pending false None (Some g) height g n refl in
        e.pass.ways at height (r ∙ ap Some same)
    by false None None p q r n =
        let none : 0 ≡ height = cc in
        let no : IsHandler b.handlers at → ⊥ = λ h. let y : handler ≡ true = e.no h in cc in
        elim e.pass.came [
          | Began z x ↦ cc
          | Fell r2 h o s goes end w is ↦ cc
          | Ended f x ↦ subst (λ v. Way code b.handlers at v) none (Behind at f (at_inside code at op e.here) (no_jump code b heights at before e.pass r) no)
        ]

-- an instruction's first byte is its number
pub first_byte : (code : List ℕ) (p : ℕ) (op : Op) → Begins (drop p code) op → get_or code p 0 ≡ (parts op).0
first_byte code p op b =
    let at_zero : get_or (drop p code) 0 0 ≡ get_or code (p + 0) 0 = get_or-drop p code 0 0 in
    let number : get_or (drop p code) 0 0 ≡ (parts op).0 = ap (λ xs. get_or xs 0 0) b.split in
    let same : p + 0 ≡ p = omega arith in
    let moved : get_or code (p + 0) 0 ≡ get_or code p 0 = ap (λ i. get_or code i 0) same in
    cc
