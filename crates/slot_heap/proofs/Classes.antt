-- What an internal says of its object's class.
use Rattle.std.proofs.Common.{◌≡◌, ℕ, true, false, cond, List, [], ◌∷◌, ◌++◌, get_or, set, refl, ap, ap₂, sym, ◌∙◌, Some}
use Rattle.std.specs.List.{slice_get}
use Rattle.std.specs.Prelude.{◌==◌}
use Rattle.slot_heap.specs.declared.slot.Slot.{Slot}
use Rattle.slot_heap.specs.Slot.{blank, value_in}
use Rattle.slot_heap.specs.Chains.{cell}
use Rattle.slot_heap.specs.Steps.{Replaced}
use Rattle.slot_heap.specs.Held.{Held}
use Rattle.slot_heap.specs.Reading.{Reading, bit, is_indexed, captured_in, parts_in, reaction_in, reactions_in, state_in, class_by, class_in}
use Rattle.slot_heap.specs.Flat.{reading, number_of, flat}
use Rattle.slot_heap.specs.Standing.{has_name}
use Rattle.slot_heap.proofs.Flat.{SameWords}
use Rattle.slot_heap.proofs.Parts.{part_set_out, is_part, parts_are}
use Rattle.slot_heap.proofs.Stores.{with_object, with_class, IsObject, class_put}
use Rattle.js_value.specs.Store.{Array, Promise}

-- a slot of an array's length or of a promise's state is no property
no_name : (c : Slot) (k : ℕ) → c.kind ≡ k → cond (k == 16) true (k == 17) ≡ false → has_name c ≡ false
no_name c k e f = ap (λ n. cond (n == 16) true (n == 17)) e ∙ f

no_index : (c : Slot) (k : ℕ) → c.kind ≡ k → (k == 18) ≡ false → is_indexed c ≡ false
no_index c k e f = ap (λ n. n == 18) e ∙ f

no_part : (c : Slot) (k : ℕ) → c.kind ≡ k → (k == 37) ≡ false → is_part c ≡ false
no_part c k e f = ap (λ n. n == 37) e ∙ f

first_cell : (cs : List Slot) (d c : Slot) → slice_get cs 0 ≡ Some d → get_or (set cs 0 c) 0 blank ≡ c
first_cell [] d c e = absurd (cc)
first_cell (x ∷ cs) d c e = refl

-- ---- an array's length

array_is : (r : Reading) (kind : ℕ) (d c : Slot) (cs : List Slot) → kind ≡ 2 → slice_get cs 0 ≡ Some d → class_in r kind (set cs 0 (cell c)) ≡ Array c.value (bit c.flags 1)
unfolding class_in cell
array_is r kind d c cs e f =
    ap (λ k. class_by r k (get_or (set cs 0 (cell c)) 0 blank) (captured_in r (set cs 0 (cell c))) (parts_in (set cs 0 (cell c)))) e ∙ ap (λ (x : Slot). Array x.value (bit x.flags 1)) (first_cell cs d (cell c) f)

pub length_put : (h h' : Held) (r : ℕ) (c d head : Slot) (cs : List Slot) → SameWords h h' → IsObject h r head cs → head.kind ≡ 2 → slice_get cs 0 ≡ Some d → d.kind ≡ 32 → c.kind ≡ 32 → Replaced h.slots r 1 c h'.slots → flat h' ≡ with_object (flat h) (number_of h r) (with_class (Array c.value (bit c.flags 1)))
length_put h h' r c d head cs w o e f dk ck a =
    class_put h h' r 0 c d head cs w o f (no_name d 32 dk refl) (no_index d 32 dk refl) (no_name c 32 ck refl) (no_index c 32 ck refl) a ∙ ap (λ x. with_object (flat h) (number_of h r) (with_class x)) (array_is (reading h) head.kind d c cs e f)

-- ---- a promise's state and reactions

promise_is : (r : Reading) (kind : ℕ) (d c : Slot) (cs : List Slot) → kind ≡ 6 → slice_get cs 0 ≡ Some d → is_part d ≡ false → is_part c ≡ false → class_in r kind (set cs 0 (cell c)) ≡ Promise (state_in r c) (reactions_in r (parts_in cs))
unfolding class_in cell value_in
promise_is r kind d c cs e f dp cp =
    let ps = parts_are (set cs 0 (cell c)) ∙ part_set_out is_part _ cs 0 d (cell c) f dp cp ∙ sym (parts_are cs) in
    ap (λ k. class_by r k (get_or (set cs 0 (cell c)) 0 blank) (captured_in r (set cs 0 (cell c))) (parts_in (set cs 0 (cell c)))) e ∙ ap₂ (λ (x : Slot) qs. Promise (state_in r x) (reactions_in r qs)) (first_cell cs d (cell c) f) ps

pub state_put : (h h' : Held) (r : ℕ) (c d head : Slot) (cs : List Slot) → SameWords h h' → IsObject h r head cs → head.kind ≡ 6 → slice_get cs 0 ≡ Some d → d.kind ≡ 36 → c.kind ≡ 36 → Replaced h.slots r 1 c h'.slots → flat h' ≡ with_object (flat h) (number_of h r) (with_class (Promise (state_in (reading h) c) (reactions_in (reading h) (parts_in cs))))
state_put h h' r c d head cs w o e f dk ck a =
    class_put h h' r 0 c d head cs w o f (no_name d 36 dk refl) (no_index d 36 dk refl) (no_name c 36 ck refl) (no_index c 36 ck refl) a ∙ ap (λ x. with_object (flat h) (number_of h r) (with_class x)) (promise_is (reading h) head.kind d c cs e f (no_part d 36 dk refl) (no_part c 36 ck refl))

-- the parts come in threes
pub data AreThrees : List Slot → Type 0 where
  NoThree : AreThrees []
  Three : (a b c : Slot) (cs : List Slot) → AreThrees cs → AreThrees (a ∷ b ∷ c ∷ cs)

-- one reaction more
pub reaction_more : (r : Reading) (ps : List Slot) (a b c : Slot) → AreThrees ps → reactions_in r (ps ++ a ∷ b ∷ c ∷ []) ≡ reactions_in r ps ++ reaction_in r a b c ∷ []
reaction_more r _ a b c NoThree = refl
reaction_more r _ a b c (Three x y z ps t) = ap (λ rs. reaction_in r x y z ∷ rs) (reaction_more r ps a b c t)
