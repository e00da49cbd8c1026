-- A renamed code: the same instructions but for names, and valid for the new number of names.
use Rattle.std.proofs.Common.{◌≡◌, ◌<◌, ◌≤◌, ℕ, ◌+◌, ◌-◌, ◌^◌, List, ◌++◌, length, take, drop, true, Some, refl, sym, ap, subst, ◌∙◌, arith, get_or, length-drop}
use Rattle.std.proofs.lemmas.List.{take-append-drop, length-take-le, get_or-take, get_or-drop}
use Rattle.std.proofs.lemmas.Grind.{same_number_lists}
use Rattle.byte_code.specs.declared.instruction.Op.{Op}
use Rattle.byte_code.specs.declared.instruction.Op.TheVariants.{Text, Get, Set, Delete, SuperGet, SuperSet, Turn}
use Rattle.byte_code.specs.Instructions.{parts, spelling, IsInstruction, Begins}
use Rattle.byte_code.specs.Effects.{Effect, effect}
use Rattle.byte_code.specs.ValidCode.{Bounds, IsStart, First, After, At, Stands, Way, Begin, Next, Along, Thrown, Behind, FollowsEnd, IsJumpedTo, IsInBounds, IsValid, target, goes_on, end_of, height_after, handler_target, range_start, range_end}
use Rattle.byte_code.specs.Renaming.{new_name, renamed, MapsInto, with_names}
use Rattle.byte_code.proofs.Starts.{one_op, stands_before, ends_inside, at_inside}
use Rattle.byte_code.proofs.Renames.{Progress, length-renamed}

-- renaming changes nothing that ways and heights depend on
target-renamed : (map : List ℕ) (op : Op) → target (renamed map op) ≡ target op
target-renamed map (Text m) = refl
target-renamed map (Get m) = refl
target-renamed map (Set m) = refl
target-renamed map (Delete m) = refl
target-renamed map (SuperGet m) = refl
target-renamed map (SuperSet m) = refl
target-renamed map _ = refl

goes_on-renamed : (map : List ℕ) (op : Op) → goes_on (renamed map op) ≡ goes_on op
goes_on-renamed map (Text m) = refl
goes_on-renamed map (Get m) = refl
goes_on-renamed map (Set m) = refl
goes_on-renamed map (Delete m) = refl
goes_on-renamed map (SuperGet m) = refl
goes_on-renamed map (SuperSet m) = refl
goes_on-renamed map _ = refl

effect-renamed : (map : List ℕ) (op : Op) → effect (renamed map op) ≡ effect op
effect-renamed map (Text m) = refl
effect-renamed map (Get m) = refl
effect-renamed map (Set m) = refl
effect-renamed map (Delete m) = refl
effect-renamed map (SuperGet m) = refl
effect-renamed map (SuperSet m) = refl
effect-renamed map _ = refl

fits-renamed : (map : List ℕ) (op : Op) → ((n : ℕ) → new_name map n < 2 ^ 16) → IsInstruction op → IsInstruction (renamed map op)
fits-renamed map (Text m) small i = record { fits = small m; shortest = tt }
fits-renamed map (Get m) small i = record { fits = small m; shortest = tt }
fits-renamed map (Set m) small i = record { fits = small m; shortest = tt }
fits-renamed map (Delete m) small i = record { fits = small m; shortest = tt }
fits-renamed map (SuperGet m) small i = record { fits = small m; shortest = tt }
fits-renamed map (SuperSet m) small i = record { fits = small m; shortest = tt }
fits-renamed map _ small i = i

bounds-renamed : (map : List ℕ) (op : Op) (b : Bounds) (names : ℕ) → MapsInto map b.names names → IsInBounds b (parts op).1 → IsInBounds (with_names b names) (parts (renamed map op)).1
bounds-renamed map (Text m) b names into h = into m h.0 h.1
bounds-renamed map (Get m) b names into h = into m h.0 h.1
bounds-renamed map (Set m) b names into h = into m h.0 h.1
bounds-renamed map (Delete m) b names into h = into m h.0 h.1
bounds-renamed map (SuperGet m) b names into h = into m h.0 h.1
bounds-renamed map (SuperSet m) b names into h = into m h.0 h.1
bounds-renamed map _ b names into h = h

-- the whole code is renamed
pub record Mirrors (old map new : List ℕ) : Type 0 where
  pub size : length new ≡ length old
  pub there : (p : ℕ) (op : Op) → At old p op → At new p (renamed map op)
  pub back : (p : ℕ) (op : Op) → At new p op → (o : Op) × (At old p o × (op ≡ renamed map o))
  pub starts : (p : ℕ) → IsStart old p → IsStart new p

begins_new : (old map new : List ℕ) → Progress old map new (length old) → (p : ℕ) (op : Op) → At old p op → Begins (drop p new) (renamed map op)
begins_new old map new g p op s =
    let inside : end_of p op ≤ length old = ends_inside old p op s.begins in
    let text : List ℕ = spelling (renamed map op) in
    let long : length text ≡ length (spelling op) = length-renamed map op in
    let left : length (drop p new) ≡ length old - p = length-drop p new ∙ ap (λ n. n - p) g.size in
    let cut : length (take (length text) (drop p new)) ≡ length text = length-take-le (length text) (drop p new) (omega arith) in
    let same : take (length text) (drop p new) ≡ text =
    same_number_lists (take (length text) (drop p new)) text cut (λ k h.
    get_or-take (length text) (drop p new) k 0 (omega arith) ∙ get_or-drop p new k 0
    ∙ g.done p k op s (at_inside old p op s) (omega arith)) in
    record {
      rest = drop (length text) (drop p new);
      split = sym (take-append-drop (length text) (drop p new)) ∙ ap (λ xs. xs ++ drop (length text) (drop p new)) same;
    }

start_new : (old map new : List ℕ) → ((n : ℕ) → new_name map n < 2 ^ 16) → Progress old map new (length old) → (p : ℕ) → IsStart old p → IsStart new p
start_new old map new small g p First = First
start_new old map new small g p (After r q op s i b e) =
    After r p (renamed map op) (start_new old map new small g r s) (fits-renamed map op small i)
    (begins_new old map new g r op (record { start = s; instruction = i; begins = b })) (e ∙ ap (λ n. r + n) (sym (length-renamed map op)))

at_new : (old map new : List ℕ) → ((n : ℕ) → new_name map n < 2 ^ 16) → Progress old map new (length old) → (p : ℕ) (op : Op) → At old p op → At new p (renamed map op)
at_new old map new small g p op s = record {
  start = start_new old map new small g p s.start;
  instruction = fits-renamed map op small s.instruction;
  begins = begins_new old map new g p op s;
}

at_old : (old map new : List ℕ) → ((n : ℕ) → new_name map n < 2 ^ 16) → Progress old map new (length old) → (p : ℕ) (op : Op) → IsStart old p → At new p op → (o : Op) × (At old p o × (op ≡ renamed map o))
at_old old map new small g p op start s =
    let there : Stands old p = stands_before old p (length old) start g.start (omega (arith, at_inside new p op s, g.size)) in
    (there.op, (there.at, one_op new p op (renamed map there.op) s (at_new old map new small g p there.op there.at)))

start_old : (old map new : List ℕ) → ((n : ℕ) → new_name map n < 2 ^ 16) → Progress old map new (length old) → (p : ℕ) → IsStart new p → IsStart old p
start_old old map new small g p First = First
start_old old map new small g p (After r q op s i b e) =
    let o : (o : Op) × (At old r o × (op ≡ renamed map o)) = at_old old map new small g r op (start_old old map new small g r s) (record { start = s; instruction = i; begins = b }) in
    After r p o.0 o.1.0.start o.1.0.instruction o.1.0.begins (e ∙ ap (λ x. r + length (spelling x)) o.1.1 ∙ ap (λ n. r + n) (length-renamed map o.0))

pub mirrors : (old map new : List ℕ) → ((n : ℕ) → new_name map n < 2 ^ 16) → Progress old map new (length old) → Mirrors old map new
mirrors old map new small g = record {
  size = g.size;
  there = at_new old map new small g;
  back = λ p op s. at_old old map new small g p op (start_old old map new small g p s.start) s;
  starts = start_new old map new small g;
}

-- what leads to a place in the new code leads there in the old one
follows_old : (old map new : List ℕ) → Mirrors old map new → (q : ℕ) → FollowsEnd new q → FollowsEnd old q
follows_old old map new m q f =
    let o : (o : Op) × (At old f.from o × (f.op ≡ renamed map o)) = m.back f.from f.op f.at in
    record {
      from = f.from;
      op = o.0;
      at = o.1.0;
      ends = sym (goes_on-renamed map o.0) ∙ ap goes_on (sym o.1.1) ∙ f.ends;
      end = f.end ∙ ap (λ x. end_of f.from x) o.1.1 ∙ ap (λ n. f.from + n) (length-renamed map o.0);
    }

jumped_new : (old map new : List ℕ) → Mirrors old map new → (q : ℕ) → IsJumpedTo old q → IsJumpedTo new q
jumped_new old map new m q j = record { from = j.from; op = renamed map j.op; at = m.there j.from j.op j.at; before = j.before; leads = target-renamed map j.op ∙ j.leads }

way_old : (old map new handlers : List ℕ) → Mirrors old map new → (q g : ℕ) → Way new handlers q g → Way old handlers q g
way_old old map new hs m q g Begin = Begin
way_old old map new hs m q g (Next p r h k op w s goes e is) =
    let o : (o : Op) × (At old p o × (op ≡ renamed map o)) = m.back p op s in
    Next p q h g o.0 (way_old old map new hs m p h w) o.1.0
    (sym (goes_on-renamed map o.0) ∙ ap goes_on (sym o.1.1) ∙ goes)
    (e ∙ ap (λ x. end_of p x) o.1.1 ∙ ap (λ n. p + n) (length-renamed map o.0))
    (is ∙ ap (λ x. height_after x h) o.1.1 ∙ ap (λ (x : Effect). h - x.pops + x.pushes) (effect-renamed map o.0))
way_old old map new hs m q g (Along p r h k op w s t is) =
    let o : (o : Op) × (At old p o × (op ≡ renamed map o)) = m.back p op s in
    Along p q h g o.0 (way_old old map new hs m p h w) o.1.0
    (sym (target-renamed map o.0) ∙ ap target (sym o.1.1) ∙ t)
    (is ∙ ap (λ x. height_after x h) o.1.1 ∙ ap (λ (x : Effect). h - x.pops + x.pushes) (effect-renamed map o.0))
way_old old map new hs m q g (Thrown r h) = Thrown q h
way_old old map new hs m q g (Behind r f inside no_jumps no_handler) =
    Behind q (follows_old old map new m q f) (omega (arith, m.size)) (λ j. no_jumps (jumped_new old map new m q j)) no_handler

stands_new : (old map new : List ℕ) → Mirrors old map new → (q : ℕ) → Stands old q → Stands new q
stands_new old map new m q s = record { op = renamed map s.op; at = m.there q s.op s.at }

pub valid_new : (old map new : List ℕ) → Mirrors old map new → (b : Bounds) (names : ℕ) → IsValid old b → MapsInto map b.names names → IsValid new (with_names b names)
valid_new old map new m b names v into = record {
  instructions = subst (λ n. IsStart new n) (sym m.size) (m.starts (length old) v.instructions);
  ended = record {
    from = v.ended.from;
    op = renamed map v.ended.op;
    at = m.there v.ended.from v.ended.op v.ended.at;
    ends = goes_on-renamed map v.ended.op ∙ v.ended.ends;
    end = m.size ∙ v.ended.end ∙ ap (λ n. v.ended.from + n) (sym (length-renamed map v.ended.op));
  };
  operands = λ p op s.
      let o : (o : Op) × (At old p o × (op ≡ renamed map o)) = m.back p op s in
      subst (λ x. IsInBounds (with_names b names) (parts x).1) (sym o.1.1) (bounds-renamed map o.0 b names into (v.operands p o.0 o.1.0));
  targets = λ p q op s t.
      let o : (o : Op) × (At old p o × (op ≡ renamed map o)) = m.back p op s in
      stands_new old map new m q (v.targets p q o.0 o.1.0 (sym (target-renamed map o.0) ∙ ap target (sym o.1.1) ∙ t));
  whole = v.whole;
  starts = λ k w. stands_new old map new m (range_start b.handlers k) (v.starts k w);
  ends = λ k w. (m.starts (range_end b.handlers k) (v.ends k w).0, omega (arith, (v.ends k w).1, m.size));
  handled = λ k w. stands_new old map new m (handler_target b.handlers k) (v.handled k w);
  forward = v.forward;
  apart = λ p q op s h.
      let o : (o : Op) × (At old p o × (op ≡ renamed map o)) = m.back p op s in
      let a : ((goes_on o.0 ≡ true) × (q ≡ end_of p o.0) → ⊥) × (target o.0 ≡ Some q → ⊥) = v.apart p q o.0 o.1.0 h in (
        (λ (goes, e). a.0 (sym (goes_on-renamed map o.0) ∙ ap goes_on (sym o.1.1) ∙ goes, e ∙ ap (λ x. end_of p x) o.1.1 ∙ ap (λ n. p + n) (length-renamed map o.0))),
        (λ t. a.1 (sym (target-renamed map o.0) ∙ ap target (sym o.1.1) ∙ t)),
      );
  one_height = λ p h g x y. v.one_height p h g (way_old old map new b.handlers m p h x) (way_old old map new b.handlers m p g y);
  room = λ p h w. v.room p h (way_old old map new b.handlers m p h w);
  finds = λ p h op s w.
      let o : (o : Op) × (At old p o × (op ≡ renamed map o)) = m.back p op s in
      let f : (effect o.0).pops ≤ h = v.finds p h o.0 o.1.0 (way_old old map new b.handlers m p h w) in
      subst (λ x. (effect x).pops ≤ h) (sym o.1.1) (subst (λ (x : Effect). x.pops ≤ h) (sym (effect-renamed map o.0)) f);
  back = λ p q h op s w t less.
      let o : (o : Op) × (At old p o × (op ≡ renamed map o)) = m.back p op s in
      let r : (height_after o.0 h ≡ 0) × At old q Turn = v.back p q h o.0 o.1.0 (way_old old map new b.handlers m p h w) (sym (target-renamed map o.0) ∙ ap target (sym o.1.1) ∙ t) less in
      (ap (λ x. height_after x h) o.1.1 ∙ ap (λ (x : Effect). h - x.pops + x.pushes) (effect-renamed map o.0) ∙ r.0, m.there q Turn r.1);
}

-- where the pass ends the whole code is renamed
pub ends : (old map new : List ℕ) (at : ℕ) → at ≡ length old → ((i : ℕ) → get_or map i 0 < 2 ^ 16) → Progress old map new at → Mirrors old map new
ends old map new at e small g = mirrors old map new (λ n. small (n - 1)) (subst (λ n. Progress old map new n) e g)
