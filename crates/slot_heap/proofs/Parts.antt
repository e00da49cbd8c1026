-- The parts of a thing: what the cells of one sort say, in order, and how they change with the cells.
use Rattle.std.proofs.Common.{◌≡◌, ℕ, suc, zero, Bool, true, false, cond, List, [], ◌∷◌, replicate, set, refl, ap, ◌∙◌, Some}
use Rattle.std.specs.List.{slice_get, insert, remove}
use Rattle.std.specs.Prelude.{IsTrue, ◌==◌}
use Rattle.slot_heap.specs.declared.slot.Slot.{Slot}
use Rattle.slot_heap.specs.Slot.{value_in}
use Rattle.slot_heap.specs.Reading.{Reading, word_in, is_indexed, property_in, put_if, named_in, indexed_in, number_by, captured_in, parts_in}
use Rattle.slot_heap.specs.Standing.{has_name}
use Rattle.js_value.specs.Store.{Property}

-- what the cells that pass a test say
unfoldable pub part_of : {X : Type 0} → (Slot → Bool) → (Slot → X) → List Slot → List X
part_of t f [] = []
part_of t f (c ∷ cs) = put_if (t c) (f c) (part_of t f cs)

-- how many of the first k cells pass
unfoldable pub count : (Slot → Bool) → ℕ → List Slot → ℕ
count t zero cs = 0
count t (suc k) [] = 0
count t (suc k) (c ∷ cs) = cond (t c) (suc (count t k cs)) (count t k cs)

insert_if : {X : Type 0} (b : Bool) (x y : X) (xs : List X) (k : ℕ) → put_if b x (insert xs k y) ≡ insert (put_if b x xs) (cond b (suc k) k) y
insert_if true x y xs k = refl
insert_if false x y xs k = refl

pub part_in : {X : Type 0} (t : Slot → Bool) (f : Slot → X) (cs : List Slot) (k : ℕ) (c : Slot) → IsTrue (t c) → part_of t f (insert cs k c) ≡ insert (part_of t f cs) (count t k cs) (f c)
unfolding part_of count
part_in t f [] zero c h = rw h refl
part_in t f [] (suc k) c h = rw h refl
part_in t f (d ∷ cs) zero c h = rw h refl
part_in t f (d ∷ cs) (suc k) c h = ap (put_if (t d) (f d)) (part_in t f cs k c h) ∙ insert_if (t d) (f d) (f c) (part_of t f cs) (count t k cs)

pub part_out : {X : Type 0} (t : Slot → Bool) (f : Slot → X) (cs : List Slot) (k : ℕ) (c : Slot) → t c ≡ false → part_of t f (insert cs k c) ≡ part_of t f cs
unfolding part_of
part_out t f [] zero c h = rw h refl
part_out t f [] (suc k) c h = rw h refl
part_out t f (d ∷ cs) zero c h = rw h refl
part_out t f (d ∷ cs) (suc k) c h = ap (put_if (t d) (f d)) (part_out t f cs k c h)

set_if : {X : Type 0} (b : Bool) (x y : X) (xs : List X) (k : ℕ) → put_if b x (set xs k y) ≡ set (put_if b x xs) (cond b (suc k) k) y
set_if true x y xs k = refl
set_if false x y xs k = refl

pub part_set : {X : Type 0} (t : Slot → Bool) (f : Slot → X) (cs : List Slot) (k : ℕ) (d c : Slot) → slice_get cs k ≡ Some d → IsTrue (t d) → IsTrue (t c) → part_of t f (set cs k c) ≡ set (part_of t f cs) (count t k cs) (f c)
unfolding part_of count
part_set t f [] k d c e g h = absurd (cc)
part_set t f (x ∷ cs) zero d c e g h = let q : x ≡ d = cc in let p : t x ≡ true = ap t q ∙ g in rw (p, h) refl
part_set t f (x ∷ cs) (suc k) d c e g h = ap (put_if (t x) (f x)) (part_set t f cs k d c e g h) ∙ set_if (t x) (f x) (f c) (part_of t f cs) (count t k cs)

pub part_set_out : {X : Type 0} (t : Slot → Bool) (f : Slot → X) (cs : List Slot) (k : ℕ) (d c : Slot) → slice_get cs k ≡ Some d → t d ≡ false → t c ≡ false → part_of t f (set cs k c) ≡ part_of t f cs
unfolding part_of
part_set_out t f [] k d c e g h = absurd (cc)
part_set_out t f (x ∷ cs) zero d c e g h = let q : x ≡ d = cc in let p : t x ≡ false = ap t q ∙ g in rw (p, h) refl
part_set_out t f (x ∷ cs) (suc k) d c e g h = ap (put_if (t x) (f x)) (part_set_out t f cs k d c e g h)

remove_if : {X : Type 0} (b : Bool) (x : X) (xs : List X) (k : ℕ) → put_if b x (remove xs k) ≡ remove (put_if b x xs) (cond b (suc k) k)
remove_if true x xs k = refl
remove_if false x xs k = refl

pub part_remove : {X : Type 0} (t : Slot → Bool) (f : Slot → X) (cs : List Slot) (k : ℕ) (d : Slot) → slice_get cs k ≡ Some d → IsTrue (t d) → part_of t f (remove cs k) ≡ remove (part_of t f cs) (count t k cs)
unfolding part_of count
part_remove t f [] k d e g = absurd (cc)
part_remove t f (x ∷ cs) zero d e g = let q : x ≡ d = cc in let p : t x ≡ true = ap t q ∙ g in rw p refl
part_remove t f (x ∷ cs) (suc k) d e g = ap (put_if (t x) (f x)) (part_remove t f cs k d e g) ∙ remove_if (t x) (f x) (part_of t f cs) (count t k cs)

pub part_remove_out : {X : Type 0} (t : Slot → Bool) (f : Slot → X) (cs : List Slot) (k : ℕ) (d : Slot) → slice_get cs k ≡ Some d → t d ≡ false → part_of t f (remove cs k) ≡ part_of t f cs
unfolding part_of
part_remove_out t f [] k d e g = absurd (cc)
part_remove_out t f (x ∷ cs) zero d e g = let q : x ≡ d = cc in let p : t x ≡ false = ap t q ∙ g in rw p refl
part_remove_out t f (x ∷ cs) (suc k) d e g = ap (put_if (t x) (f x)) (part_remove_out t f cs k d e g)

pub part_none : {X : Type 0} (t : Slot → Bool) (f : Slot → X) (n : ℕ) (c : Slot) → t c ≡ false → part_of t f (replicate n c) ≡ []
unfolding part_of
part_none t f zero c h = refl
part_none t f (suc n) c h = rw h (part_none t f n c h)

-- ---- the four sorts

abbrev pub is_captured : Slot → Bool
is_captured c = c.kind == 34

abbrev pub is_part : Slot → Bool
is_part c = c.kind == 37

abbrev pub named_entry : Reading → Slot → List ℕ × Property
named_entry r c = (word_in r c.key, property_in r c)

abbrev pub indexed_entry : Reading → Slot → ℕ × Property
indexed_entry r c = (c.last, property_in r c)

pub named_is : (r : Reading) (cs : List Slot) → named_in r cs ≡ part_of has_name (named_entry r) cs
unfolding part_of
named_is r [] = refl
named_is r (c ∷ cs) = ap (put_if (has_name c) (named_entry r c)) (named_is r cs)

pub indexed_is : (r : Reading) (cs : List Slot) → indexed_in r cs ≡ part_of is_indexed (indexed_entry r) cs
unfolding part_of
indexed_is r [] = refl
indexed_is r (c ∷ cs) = ap (put_if (is_indexed c) (indexed_entry r c)) (indexed_is r cs)

pub captured_is : (r : Reading) (cs : List Slot) → captured_in r cs ≡ part_of is_captured (λ c. number_by r (value_in c)) cs
unfolding part_of
captured_is r [] = refl
captured_is r (c ∷ cs) = ap (put_if (is_captured c) (number_by r (value_in c))) (captured_is r cs)

pub parts_are : (cs : List Slot) → parts_in cs ≡ part_of is_part (λ c. c) cs
unfolding part_of
parts_are [] = refl
parts_are (c ∷ cs) = ap (put_if (is_part c) c) (parts_are cs)
