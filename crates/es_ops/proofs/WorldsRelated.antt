-- Events keep what two heaps hold the same but for the numbers of things.
use Rattle.std.proofs.Common.{◌≡◌, ℕ, zero, suc, ◌+◌, ◌*◌, ◌<◌, ◌≤◌, inl, inr, Bool, true, false, cond, not, ◌&&◌, List, [], ◌∷◌, ◌++◌, length, set, get_or, arith, refl, sym, ap, ap₂, ◌∙◌, subst, Option, Some, None, slice_get, length-set}
use Rattle.std.proofs.lemmas.Bool.{cases_eq}
use Rattle.std.proofs.lemmas.List.{get_or-set_other}
use Rattle.js_value.specs.Value.{Value}
use Rattle.js_value.specs.Store.{Thing, Property, Content, Class, ObjectRecord, frozen, is_frozen, is_fixed, is_fixed_content, are_fixed, is_pending, length_entry, length_property, size, object_size, internals, is_initialised}
use Rattle.js_value.specs.declared.counts.Room.{Room}
use Rattle.es_ops.specs.State.{Heap, plus, some_slots}
use Rattle.js_value.specs.declared.counts.Full.{Full}
use Rattle.es_ops.specs.Ledger.{Happens, passed, charged, charged_unless, written, with_thing, first_cost}
use Rattle.es_ops.proofs.Others.{get-set_other}
use Rattle.es_ops.specs.Related.{Naming, BothOption, BothNone, BothSome, BothList, BothEmpty, BothCons, BothValue, BothContent, BothData, BothAccessor, BothEntry, BothPending, BothFulfilled, BothRejected, BothClass, BothOrdinary, BothArray, BothScript, BothBuiltIn, BothResolve, BothReject, BothError, BothPromise, BothRecord, BothThing, BothAnObject, BothACell, BothAMark}
use Rattle.es_ops.specs.Renaming.{Pairs, named, Extends, BothHeap, BothEvent}

-- ---- what is the same of related things

pub lengths_same : {A : Type 0} {B : A → A → Type 0} {xs ys : List A} → BothList B xs ys → length xs ≡ length ys
lengths_same BothEmpty = refl
lengths_same (BothCons h hs) = ap (λ n. suc n) (lengths_same hs)

module _ (R : Naming) where
  fixed_content_same : {c d : Content} → BothContent R c d → is_fixed_content c ≡ is_fixed_content d
  fixed_content_same (BothData h) = refl
  fixed_content_same (BothAccessor g s) = refl

  all_fixed_same : {K : Type 0} {es ds : List (K × Property)} → BothList (BothEntry R) es ds → are_fixed es ≡ are_fixed ds
  all_fixed_same BothEmpty = refl
  all_fixed_same (BothCons h hs) = rw (h.property.configurable, fixed_content_same h.property.content, all_fixed_same hs) refl

  pending_same : {c d : Class} → BothClass R c d → is_pending c ≡ is_pending d
  pending_same BothOrdinary = refl
  pending_same BothArray = refl
  pending_same (BothScript x y) = refl
  pending_same BothBuiltIn = refl
  pending_same (BothResolve x y) = refl
  pending_same (BothReject x y) = refl
  pending_same BothError = refl
  pending_same (BothPromise BothPending y) = refl
  pending_same (BothPromise (BothFulfilled x) y) = refl
  pending_same (BothPromise (BothRejected x) y) = refl

  initialised_same : {x y : Option Value} → BothOption (BothValue R) x y → is_initialised x ≡ is_initialised y
  initialised_same BothNone = refl
  initialised_same (BothSome h) = refl

  and_same : (a b c d : Bool) → a ≡ b → c ≡ d → (a && c) ≡ (b && d)
  and_same a b c d e f = rw (e, f) refl

  strings_fixed : (o p : ObjectRecord) → BothRecord R o p → (c d : Class) → BothClass R c d → are_fixed (length_entry c ++ o.named) ≡ are_fixed (length_entry d ++ p.named)
  strings_fixed o p h c d BothOrdinary = all_fixed_same h.named
  strings_fixed o p h c d (BothArray {n = n} {b = b}) = ap (λ x. is_fixed (length_property n b) && x) (all_fixed_same h.named)
  strings_fixed o p h c d (BothScript x y) = all_fixed_same h.named
  strings_fixed o p h c d BothBuiltIn = all_fixed_same h.named
  strings_fixed o p h c d (BothResolve x y) = all_fixed_same h.named
  strings_fixed o p h c d (BothReject x y) = all_fixed_same h.named
  strings_fixed o p h c d BothError = all_fixed_same h.named
  strings_fixed o p h c d (BothPromise x y) = all_fixed_same h.named

  pub frozen_same : {t u : Thing} → BothThing R t u → frozen t ≡ frozen u
  unfolding is_frozen
  frozen_same (BothAnObject {o = o} {p = p} h) = and_same _ _ _ _ (and_same _ _ _ _ (and_same _ _ _ _ (ap not h.extensible) (all_fixed_same h.indexed)) (strings_fixed o p h o.class p.class h.class)) (ap not (pending_same h.class))
  frozen_same (BothACell h) = and_same _ _ _ _ h.const (initialised_same h.value)
  frozen_same BothAMark = refl

  internals_same : {c d : Class} → BothClass R c d → internals c ≡ internals d
  internals_same BothOrdinary = refl
  internals_same BothArray = refl
  internals_same (BothScript x y) = ap (λ n. 1 + n) (lengths_same y)
  internals_same BothBuiltIn = refl
  internals_same (BothResolve x y) = refl
  internals_same (BothReject x y) = refl
  internals_same BothError = refl
  internals_same (BothPromise x y) = ap (λ n. 1 + 3 * n) (lengths_same y)

  pub object_size_same : {o p : ObjectRecord} → BothRecord R o p → object_size o ≡ object_size p
  object_size_same h = let i = internals_same h.class in let j = lengths_same h.indexed in let k = lengths_same h.named in omega (arith, i, j, k)

  pub size_same : {t u : Thing} → BothThing R t u → size t ≡ size u
  size_same (BothAnObject h) = object_size_same h
  size_same (BothACell h) = refl
  size_same BothAMark = refl

-- ---- lists

pub set_here : {X : Type 0} (xs : List X) (i : ℕ) (x : X) → i < length xs → slice_get (set xs i x) i ≡ Some x
set_here [] i x l = absurd (omega arith)
set_here (y ∷ xs) zero x l = refl
set_here (y ∷ xs) (suc i) x l = set_here xs i x (omega arith)

cost_here : (xs : List ℕ) (i : ℕ) → get_or (set xs i 0) i 0 ≡ 0
cost_here [] zero = refl
cost_here [] (suc i) = refl
cost_here (y ∷ xs) zero = refl
cost_here (y ∷ xs) (suc i) = cost_here xs i

pub cost_past : (xs : List ℕ) (i : ℕ) → length xs ≤ i → get_or xs i 0 ≡ 0
cost_past [] i l = refl
cost_past (y ∷ xs) zero l = absurd (omega arith)
cost_past (y ∷ xs) (suc i) l = cost_past xs i (omega arith)

-- ---- heaps

module _ (ps : Pairs) (w v : Heap) (b : BothHeap ps w v) where
  apart : (m n i j : ℕ) → named ps m n → named ps i j → (m ≡ i → ⊥) → n ≡ j → ⊥
  apart m n i j r s d e = d (b.one_to_one.back m i j (subst (λ x. named ps m x) e r) s)

  together : (m n i j : ℕ) → named ps m n → named ps i j → m ≡ i → n ≡ j
  together m n i j r s e = b.one_to_one.forth i n j (subst (λ x. named ps x n) e r) s

  -- with the same thing written on both sides
  pub set_both : (m n : ℕ) (t u : Thing) (x y : Room) → named ps m n → BothThing (named ps) t u → x ≡ y
      → BothHeap ps (record w { store = set w.store m t; ledger = record w.ledger { used = x; first_costs = set w.ledger.first_costs m 0 } }) (record v { store = set v.store n u; ledger = record v.ledger { used = y; first_costs = set v.ledger.first_costs n 0 } })
  set_both m n t u x y r h e = record {
    one_to_one = b.one_to_one;
    stand = λ i j s. let k = b.stand i j s in let l = length-set w.store m t in let o = length-set v.store n u in (omega (arith, k.0, l), omega (arith, k.1, o));
    things = λ i j s. elim (cases_eq m i) [
      | inl q ↦ let z = together m n i j r s q in rw (sym q, sym z, set_here w.store m t (b.stand m n r).0, set_here v.store n u (b.stand m n r).1) (BothSome h)
      | inr d ↦ rw (get-set_other w.store m i t d, get-set_other v.store n j u (apart m n i j r s d)) (b.things i j s)
    ];
    realm = b.realm;
    names = b.names;
    used = e;
    room = b.room;
    costs = λ i j s. elim (cases_eq m i) [
      | inl q ↦ let z = together m n i j r s q in rw (sym q, sym z, cost_here w.ledger.first_costs m) (sym (cost_here v.ledger.first_costs n))
      | inr d ↦ get_or-set_other w.ledger.first_costs m i 0 0 (λ q. d (sym q)) ∙ b.costs i j s ∙ sym (get_or-set_other v.ledger.first_costs n j 0 0 (λ q. apart m n i j r s d (sym q)))
    ];
    costs_left = let k = b.costs_left in let l = length-set w.store m t in let o = length-set w.ledger.first_costs m 0 in omega (arith, k, l, o);
    costs_right = let k = b.costs_right in let l = length-set v.store n u in let o = length-set v.ledger.first_costs n 0 in omega (arith, k, l, o);
    jobs = b.jobs;
  }

  -- and where it costs nothing
  pub put_both : (m n : ℕ) (t u : Thing) → named ps m n → BothThing (named ps) t u → BothHeap ps (record w { store = set w.store m t }) (record v { store = set v.store n u })
  put_both m n t u r h =
      let x = set_both m n t u w.ledger.used v.ledger.used r h b.used in
      record {
        one_to_one = b.one_to_one;
        stand = x.stand;
        things = x.things;
        realm = b.realm;
        names = b.names;
        used = b.used;
        room = b.room;
        costs = b.costs;
        costs_left = let k = b.costs_left in let l = length-set w.store m t in omega (arith, k, l);
        costs_right = let k = b.costs_right in let l = length-set v.store n u in omega (arith, k, l);
        jobs = b.jobs;
      }

  passed_same : (p q : Room) → p ≡ q → passed (plus w.ledger.used p) w.ledger.room ≡ passed (plus v.ledger.used q) v.ledger.room
  passed_same p q e = ap₂ passed (ap₂ plus b.used e) b.room

  -- an event that costs the same on both sides, by the heaps that it leaves
  pub unless_both : {A B : Type 0} (Answers : Naming → A → B → Type 0) (qs : Pairs) (p q : Room) (x : A) (y : B) (i j : Heap) → Extends ps qs → p ≡ q → BothHeap qs i j → Answers (named qs) x y
      → BothEvent BothHeap ps Answers (charged_unless (passed (plus w.ledger.used p) w.ledger.room) x i) (charged_unless (passed (plus v.ledger.used q) v.ledger.room) y j)
  unless_both Answers qs p q x y i j l e h g = by_stop (passed (plus w.ledger.used p) w.ledger.room) (passed (plus v.ledger.used q) v.ledger.room) (passed_same p q e)
    where
      by_stop : (f z : Option Full) → f ≡ z → BothEvent BothHeap ps Answers (charged_unless f x i) (charged_unless z y j)
      by_stop f z e = rw e (at z)
        where
          at : (z : Option Full) → BothEvent BothHeap ps Answers (charged_unless z x i) (charged_unless z y j)
          at None = (qs, l, h, g)
          at (Some full) = refl

  pub written_both : {A B : Type 0} (Answers : Naming → A → B → Type 0) (m n : ℕ) (s t s' t' : Thing) (p q : Room) (x : A) (y : B) → named ps m n → BothThing (named ps) s t → BothThing (named ps) s' t' → p ≡ q → Answers (named ps) x y
      → BothEvent BothHeap ps Answers (written w m s s' p x) (written v n t t' q y)
  unfolding written
  written_both Answers m n s t s' t' p q x y r h g e a = by_frozen (frozen s) (frozen t) (frozen_same (named ps) h)
    where
      price : plus (first_cost w m) p ≡ plus (first_cost v n) q
      price = ap₂ plus (ap some_slots (b.costs m n r)) e

      at : (f : Bool) → BothEvent BothHeap ps Answers (cond f (Happens x w) (charged (plus (first_cost w m) p) x (with_thing w m s'))) (cond f (Happens y v) (charged (plus (first_cost v n) q) y (with_thing v n t')))
      at true = (ps, λ i j z. z, b, a)
      at false = unless_both Answers ps (plus (first_cost w m) p) (plus (first_cost v n) q) x y _ _ (λ i j z. z) price (set_both m n s' t' _ _ r g (ap₂ plus b.used price)) a

      by_frozen : (f z : Bool) → f ≡ z → BothEvent BothHeap ps Answers (cond f (Happens x w) (charged (plus (first_cost w m) p) x (with_thing w m s'))) (cond z (Happens y v) (charged (plus (first_cost v n) q) y (with_thing v n t')))
      by_frozen f z e = rw e (at z)
