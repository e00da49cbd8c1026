-- The methods of Array.prototype that call a function for each item are the same but for the numbers of things.
use Rattle.std.proofs.Common.{◌≡◌, ℕ, suc, ◌+◌, ◌-◌, ◌≤◌, Bool, true, false, cond, List, ◌∷◌, pos, negsuc, refl, arith, lit≤}
use Rattle.js_value.specs.Number.{greatest}
use Rattle.js_value.specs.Value.{Value, Undefined, Number}
use Rattle.es_ops.specs.Messages.{EmptyArray}
use Rattle.es_ops.specs.Conversions.{to_boolean}
use Rattle.es_ops.specs.Act.{Act}
use Rattle.es_ops.specs.Related.{Naming, BothList, BothEmpty, BothCons, BothNone, BothValue, BothUndefined, BothNull, BothBoolean, BothNumber, BothString, BothObject, Related, BothGive, BothCall, Then}
use Rattle.es_ops.proofs.Parts.{cond_related}
use Rattle.es_ops.proofs.ReadsRelated.{raise_related}
use Rattle.es_rows.specs.ArrayLikes.{create_index}
use Rattle.es_rows.specs.ArrayCallbacks.{Visitor, visit, visiting, every, some, for_each, keep, filter, map, find_via_predicate, find, find_index, reduce_from, reduce_from_first, reduce_by, reduce}
use Rattle.es_rows.proofs.ArgumentsRelated.{argument_related, callable_expected_related, BuiltInRelated}
use Rattle.es_rows.proofs.PositionsRelated.{natural}
use Rattle.es_rows.proofs.ArrayLikesRelated.{array_like_related, get_index_related, create_index_related, each_related, each_present_related, each_present_with_related, result_array_related}

record BothVisitor (R : Naming) (f g : Visitor) : Type 0 where
  callback : BothValue R f.callback g.callback
  this : BothValue R f.this g.this
  object : R f.object g.object

visit_related : {R : Naming} (f g : Visitor) (at : ℕ) (v w : Value) (k l : Value → Act) → BothVisitor R f g → at ≤ greatest → BothValue R v w → Then R (BothValue R) k l → Related R (visit f at v k) (visit g at w l)
visit_related f g at v w k l b i c h = BothCall b.callback b.this (BothCons c (BothCons (BothNumber (natural at i)) (BothCons (BothObject b.object) BothEmpty))) BothNone h

visiting_related : {R : Naming} (this that : Value) (vs ws : List Value) (k l : Visitor → (size : ℕ) → Act) → BothValue R this that → BothList (BothValue R) vs ws → ((f g : Visitor) (size : ℕ) → BothVisitor R f g → size ≤ greatest → Related R (k f size) (l g size)) → Related R (visiting this vs k) (visiting that ws l)
visiting_related this that vs ws k l b c h =
    array_like_related this that _ _ b (λ m n size r i.
    callable_expected_related _ _ _ _ (argument_related vs ws 0 c) (h _ _ size (record { callback = argument_related vs ws 0 c; this = argument_related vs ws 1 c; object = r }) i))

boolean_same : {R : Naming} {v w : Value} → BothValue R v w → to_boolean v ≡ to_boolean w
boolean_same BothUndefined = refl
boolean_same BothNull = refl
boolean_same BothBoolean = refl
boolean_same (BothNumber i) = refl
boolean_same (BothString i) = refl
boolean_same (BothObject r) = refl

-- what a test decides
test_related : {R : Naming} (v w : Value) (a b c d : Act) → BothValue R v w → Related R a c → Related R b d → Related R (cond (to_boolean v) a b) (cond (to_boolean w) c d)
test_related v w a b c d e h i = rw (boolean_same e) (cond_related (to_boolean w) _ _ _ _ h i)

pub every_related : {R : Naming} → BuiltInRelated R every every
unfolding every
every_related this that vs ws b c = visiting_related this that vs ws _ _ b c (λ f g size p i.
    each_present_related f.object g.object greatest _ _ _ _ p.object (λ at v w k l j d u. visit_related f g at v w _ _ p (omega (arith, j)) d (λ x y e. test_related x y _ _ _ _ e (u tt) (BothGive (BothBoolean {b = false}))))
    (λ u. BothGive (BothBoolean {b = true})) size 0 (omega (arith, i)))

pub some_related : {R : Naming} → BuiltInRelated R some some
unfolding some
some_related this that vs ws b c = visiting_related this that vs ws _ _ b c (λ f g size p i.
    each_present_related f.object g.object greatest _ _ _ _ p.object (λ at v w k l j d u. visit_related f g at v w _ _ p (omega (arith, j)) d (λ x y e. test_related x y _ _ _ _ e (BothGive (BothBoolean {b = true})) (u tt)))
    (λ u. BothGive (BothBoolean {b = false})) size 0 (omega (arith, i)))

pub for_each_related : {R : Naming} → BuiltInRelated R for_each for_each
unfolding for_each
for_each_related this that vs ws b c = visiting_related this that vs ws _ _ b c (λ f g size p i.
    each_present_related f.object g.object greatest _ _ _ _ p.object (λ at v w k l j d u. visit_related f g at v w (λ x. k tt) (λ x. l tt) p (omega (arith, j)) d (λ x y e. u tt))
    (λ u. BothGive BothUndefined) size 0 (omega (arith, i)))

-- an index of the result that has room for those that are left
abbrev pub Leaves : ℕ → ℕ → ℕ → Type 0
Leaves count x y = (x ≡ y) × (y + count ≤ greatest)

keep_related : {R : Naming} (m n : ℕ) (count x y : ℕ) (v w : Value) (selected : Bool) (k l : ℕ → Act) → R m n → Leaves (suc count) x y → BothValue R v w → Then R (Leaves count) k l → Related R (keep m x v selected k) (keep n y w selected l)
keep_related m n count x y v w selected k l r b c h = let bound = b.1 in rw b.0 (cond_related selected _ _ _ _
    (create_index_related m n y v w (λ _. k (suc y)) (λ _. l (suc y)) r (omega (arith, bound)) c (λ u. h (suc y) (suc y) (refl, omega (arith, bound))))
    (h y y (refl, omega (arith, bound))))

pub filter_related : {R : Naming} → BuiltInRelated R filter filter
unfolding filter
filter_related this that vs ws b c = visiting_related this that vs ws _ _ b c (λ f g size p i.
    result_array_related 0 _ _ (λ m n r.
    each_present_with_related Leaves f.object g.object greatest _ _ _ _ p.object (λ count x y e. let bound = e.1 in (e.0, omega (arith, bound)))
    (λ count at v w x y k l j d e u. visit_related f g at v w (λ test. keep m x v (to_boolean test) k) (λ test. keep n y w (to_boolean test) l) p (omega (arith, j)) d (λ z t q. rw (boolean_same q) (keep_related m n count x y v w (to_boolean t) k l r e d u)))
    (λ x y e. BothGive (BothObject r)) size 0 0 0 (omega (arith, i)) (refl, omega (arith, i))))

pub map_related : {R : Naming} → BuiltInRelated R map map
unfolding map
map_related this that vs ws b c = visiting_related this that vs ws _ _ b c (λ f g size p i.
    result_array_related size _ _ (λ m n r.
    each_present_related f.object g.object greatest _ _ _ _ p.object (λ at v w k l j d u. visit_related f g at v w (λ x. create_index m at x k) (λ x. create_index n at x l) p (omega (arith, j)) d (λ x y e. create_index_related m n at x y k l r (omega (arith, j)) e u))
    (λ u. BothGive (BothObject r)) size 0 (omega (arith, i))))

find_via_related : {R : Naming} (found : ℕ → Value → Value) (otherwise : Value) → ((at : ℕ) (v w : Value) → at ≤ greatest → BothValue R v w → BothValue R (found at v) (found at w)) → BothValue R otherwise otherwise → (this that : Value) (vs ws : List Value) → BothValue R this that → BothList (BothValue R) vs ws → Related R (find_via_predicate this vs found otherwise) (find_via_predicate that ws found otherwise)
find_via_related found otherwise h o this that vs ws b c = visiting_related this that vs ws _ _ b c (λ f g size p i.
    each_related greatest _ _ _ _ (λ at k l j u. get_index_related f.object g.object at _ _ p.object (λ v w d. visit_related f g at v w _ _ p (omega (arith, j)) d (λ x y e. test_related x y _ _ _ _ e (BothGive (h at v w (omega (arith, j)) d)) (u tt))))
    (λ u. BothGive o) size 0 (omega (arith, i)) tt)

pub find_related : {R : Naming} → BuiltInRelated R find find
unfolding find
find_related this that vs ws b c = find_via_related (λ at v. v) Undefined (λ at v w i d. d) BothUndefined this that vs ws b c

pub find_index_related : {R : Naming} → BuiltInRelated R find_index find_index
unfolding find_index
find_index_related this that vs ws b c = find_via_related (λ at v. Number (pos at)) (Number (negsuc 0)) (λ at v w i d. BothNumber (natural at i)) (BothNumber (record { bound = lit≤ tt })) this that vs ws b c

-- ---- reduce

reduce_from_related : {R : Naming} (f g : Value) (m n count at : ℕ) (x y : Value) → BothValue R f g → R m n → count + at ≤ greatest → BothValue R x y → Related R (reduce_from f m count at x) (reduce_from g n count at y)
reduce_from_related {R} f g m n count at x y b r i c =
    each_present_with_related (λ left z t. BothValue R z t) m n greatest _ _ _ _ r (λ left z t e. e)
    (λ left j v w z t k l q d e u. BothCall b BothUndefined (BothCons e (BothCons d (BothCons (BothNumber (natural j (omega (arith, q)))) (BothCons (BothObject r) BothEmpty)))) BothNone u)
    (λ z t e. BothGive e) count at x y i c

reduce_first_related : {R : Naming} (f g : Value) (m n size : ℕ) → BothValue R f g → R m n → size ≤ greatest → Related R (reduce_from_first f m size) (reduce_from_first g n size)
reduce_first_related f g m n size b r i =
    each_present_related m n size _ _ _ _ r (λ j v w k l q d u. reduce_from_related f g m n (size - suc j) (suc j) v w b r (omega (arith, q, i)) d) (λ u. raise_related EmptyArray) size 0 (omega arith)

reduce_by_related : {R : Naming} (vs ws : List Value) (m n size : ℕ) → BothList (BothValue R) vs ws → R m n → size ≤ greatest → Related R (reduce_by vs m size) (reduce_by ws n size)
reduce_by_related vs ws m n size BothEmpty r i = reduce_first_related Undefined Undefined m n size BothUndefined r i
reduce_by_related (v ∷ vs) (w ∷ ws) m n size (BothCons c BothEmpty) r i = reduce_first_related v w m n size c r i
reduce_by_related (v ∷ x ∷ vs) (w ∷ y ∷ ws) m n size (BothCons c (BothCons d ds)) r i = reduce_from_related v w m n size 0 x y c r (omega (arith, i)) d

pub reduce_related : {R : Naming} → BuiltInRelated R reduce reduce
unfolding reduce
reduce_related this that vs ws b c =
    array_like_related this that _ _ b (λ m n size r i. callable_expected_related _ _ _ _ (argument_related vs ws 0 c) (reduce_by_related vs ws m n size c r i))
