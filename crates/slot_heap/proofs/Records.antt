-- The record of an object when a cell of it changes: each edit changes one field.
use Rattle.std.proofs.Common.{◌≡◌, ℕ, suc, zero, ◌+◌, ◌*◌, ◌/◌, ◌%◌, ◌<◌, ◌≤◌, ◌⊎◌, inl, inr, Bool, true, false, cond, List, [], ◌∷◌, length, get_or, set, refl, ap, ap₂, sym, ◌∙◌, arith, Some}
use Rattle.std.specs.List.{slice_get, insert, remove}
use Rattle.std.specs.Prelude.{IsTrue, ◌==◌}
use Rattle.std.proofs.lemmas.Bool.{eqb-true}
use Rattle.slot_heap.specs.declared.slot.Slot.{Slot}
use Rattle.slot_heap.specs.Slot.{blank, four_bytes, is_object_kind, stored}
use Rattle.slot_heap.specs.Chains.{cell}
use Rattle.slot_heap.specs.Reading.{Reading, number_in, bit, upper, is_data, is_accessor, is_indexed, named_in, indexed_in, captured_in, parts_in, class_by, class_in, object_record}
use Rattle.slot_heap.specs.Standing.{has_name}
use Rattle.slot_heap.proofs.Parts.{count, part_in, part_out, part_set, part_set_out, part_remove, part_remove_out, is_captured, is_part, named_entry, indexed_entry, named_is, indexed_is, captured_is, parts_are}
use Rattle.js_value.specs.Store.{Property, Class, ObjectRecord}

-- ---- sorts of cells

-- no part of a thing but the list of one test has the cell
pub record NoInternal (c : Slot) : Type 0 where
  pub no_captured : is_captured c ≡ false
  pub no_part : is_part c ≡ false

by_kind : (c : Slot) (k : ℕ) → c.kind ≡ k → (j : ℕ) (b : Bool) → (k == j) ≡ b → (c.kind == j) ≡ b
by_kind c k e j b f = ap (λ m. m == j) e ∙ f

named_kind : (c : Slot) → IsTrue (has_name c) → (c.kind ≡ 16) ⊎ (c.kind ≡ 17)
named_kind c t = by (is_data c) refl t
  where
    by : (b : Bool) → is_data c ≡ b → cond b true (is_accessor c) ≡ true → (c.kind ≡ 16) ⊎ (c.kind ≡ 17)
    by true e t = inl (eqb-true c.kind 16 e)
    by false e t = inr (eqb-true c.kind 17 t)

pub named_apart : (c : Slot) → IsTrue (has_name c) → (is_indexed c ≡ false) × NoInternal c
named_apart c t = elim (named_kind c t) [
  | inl e ↦ (by_kind c 16 e 18 false refl, record { no_captured = by_kind c 16 e 34 false refl; no_part = by_kind c 16 e 37 false refl })
  | inr e ↦ (by_kind c 17 e 18 false refl, record { no_captured = by_kind c 17 e 34 false refl; no_part = by_kind c 17 e 37 false refl })
]

pub indexed_apart : (c : Slot) → IsTrue (is_indexed c) → (has_name c ≡ false) × NoInternal c
indexed_apart c t =
    let e = eqb-true c.kind 18 t in
    (ap₂ (λ a b. cond a true b) (by_kind c 18 e 16 false refl) (by_kind c 18 e 17 false refl), record { no_captured = by_kind c 18 e 34 false refl; no_part = by_kind c 18 e 37 false refl })

-- ---- the class stays where the first internal, the captured cells and the parts do

-- a thing without internals, or a place behind the first of them
abbrev pub Behind : (kind place : ℕ) → Type 0
Behind kind place = (kind ≡ 1) ⊎ (kind ≡ 5) ⊎ (0 < place)

class_first : (r : Reading) (kind place : ℕ) (c d : Slot) (xs : List ℕ) (ps : List Slot) → Behind kind place → (0 < place → c ≡ d) → class_by r kind c xs ps ≡ class_by r kind d xs ps
class_first r kind place c d xs ps (inl e) f = rw e refl
class_first r kind place c d xs ps (inr (inl e)) f = rw e refl
class_first r kind place c d xs ps (inr (inr l)) f = ap (λ x. class_by r kind x xs ps) (f l)

class_same : (r : Reading) (kind place : ℕ) (cs ds : List Slot) → Behind kind place → (0 < place → get_or ds 0 blank ≡ get_or cs 0 blank) → captured_in r ds ≡ captured_in r cs → parts_in ds ≡ parts_in cs → class_in r kind ds ≡ class_in r kind cs
unfolding class_in
class_same r kind place cs ds b f x p =
    ap₂ (λ xs ps. class_by r kind (get_or ds 0 blank) xs ps) x p ∙ class_first r kind place (get_or ds 0 blank) (get_or cs 0 blank) (captured_in r cs) (parts_in cs) b f

abbrev built : Reading → Slot → Class → List (ℕ × Property) → List (List ℕ × Property) → ObjectRecord
built r h c i n = record { class = c; prototype = number_in r (upper h); extensible = bit h.flags 1; indexed = i; named = n }

same_built : (r : Reading) (h : Slot) (c d : Class) (i j : List (ℕ × Property)) (n m : List (List ℕ × Property)) → c ≡ d → i ≡ j → n ≡ m → built r h c i n ≡ built r h d j m
same_built r h c d i j n m e f g = rw (e, f, g) refl

-- ---- a cell is added

module _ (r : Reading) (h c : Slot) (cs : List Slot) (k : ℕ) (behind : Behind h.kind k) (within : k ≤ length cs) where
  first_added : 0 < k → get_or (insert cs k c) 0 blank ≡ get_or cs 0 blank
  first_added l = at cs k l within
    where
      at : (cs : List Slot) (k : ℕ) → 0 < k → k ≤ length cs → get_or (insert cs k c) 0 blank ≡ get_or cs 0 blank
      at cs zero l w = absurd (omega arith)
      at [] (suc k) l w = absurd (omega arith)
      at (x ∷ cs) (suc k) l w = refl

  class_added : NoInternal c → class_in r h.kind (insert cs k c) ≡ class_in r h.kind cs
  class_added n =
      class_same r h.kind k cs (insert cs k c) behind first_added (captured_is r (insert cs k c) ∙ part_out is_captured _ cs k c n.no_captured ∙ sym (captured_is r cs)) (parts_are (insert cs k c) ∙ part_out is_part _ cs k c n.no_part ∙ sym (parts_are cs))

  pub named_added : IsTrue (has_name c) → object_record r h (insert cs k c) ≡ record (object_record r h cs) { named = insert (named_in r cs) (count has_name k cs) (named_entry r c) }
  named_added t =
      let a = named_apart c t in
      same_built r h _ _ _ _ _ _ (class_added a.1) (indexed_is r (insert cs k c) ∙ part_out is_indexed _ cs k c a.0 ∙ sym (indexed_is r cs)) (named_is r (insert cs k c) ∙ part_in has_name _ cs k c t ∙ ap (λ xs. insert xs (count has_name k cs) (named_entry r c)) (sym (named_is r cs)))

  pub indexed_added : IsTrue (is_indexed c) → object_record r h (insert cs k c) ≡ record (object_record r h cs) { indexed = insert (indexed_in r cs) (count is_indexed k cs) (indexed_entry r c) }
  indexed_added t =
      let a = indexed_apart c t in
      same_built r h _ _ _ _ _ _ (class_added a.1) (indexed_is r (insert cs k c) ∙ part_in is_indexed _ cs k c t ∙ ap (λ xs. insert xs (count is_indexed k cs) (indexed_entry r c)) (sym (indexed_is r cs))) (named_is r (insert cs k c) ∙ part_out has_name _ cs k c a.0 ∙ sym (named_is r cs))

-- ---- a cell is replaced

module _ (r : Reading) (h d c : Slot) (cs : List Slot) (k : ℕ) (behind : Behind h.kind k) (at_k : slice_get cs k ≡ Some d) where
  first_set : 0 < k → get_or (set cs k c) 0 blank ≡ get_or cs 0 blank
  first_set l = at cs k l
    where
      at : (cs : List Slot) (k : ℕ) → 0 < k → get_or (set cs k c) 0 blank ≡ get_or cs 0 blank
      at cs zero l = absurd (omega arith)
      at [] (suc k) l = refl
      at (x ∷ cs) (suc k) l = refl

  class_set : NoInternal d → NoInternal c → class_in r h.kind (set cs k c) ≡ class_in r h.kind cs
  class_set m n =
      class_same r h.kind k cs (set cs k c) behind first_set (captured_is r (set cs k c) ∙ part_set_out is_captured _ cs k d c at_k m.no_captured n.no_captured ∙ sym (captured_is r cs)) (parts_are (set cs k c) ∙ part_set_out is_part _ cs k d c at_k m.no_part n.no_part ∙ sym (parts_are cs))

  pub named_put : IsTrue (has_name d) → IsTrue (has_name c) → object_record r h (set cs k c) ≡ record (object_record r h cs) { named = set (named_in r cs) (count has_name k cs) (named_entry r c) }
  named_put s t =
      let a = named_apart d s in
      let b = named_apart c t in
      same_built r h _ _ _ _ _ _ (class_set a.1 b.1) (indexed_is r (set cs k c) ∙ part_set_out is_indexed _ cs k d c at_k a.0 b.0 ∙ sym (indexed_is r cs)) (named_is r (set cs k c) ∙ part_set has_name _ cs k d c at_k s t ∙ ap (λ xs. set xs (count has_name k cs) (named_entry r c)) (sym (named_is r cs)))

  pub indexed_put : IsTrue (is_indexed d) → IsTrue (is_indexed c) → object_record r h (set cs k c) ≡ record (object_record r h cs) { indexed = set (indexed_in r cs) (count is_indexed k cs) (indexed_entry r c) }
  indexed_put s t =
      let a = indexed_apart d s in
      let b = indexed_apart c t in
      same_built r h _ _ _ _ _ _ (class_set a.1 b.1) (indexed_is r (set cs k c) ∙ part_set is_indexed _ cs k d c at_k s t ∙ ap (λ xs. set xs (count is_indexed k cs) (indexed_entry r c)) (sym (indexed_is r cs))) (named_is r (set cs k c) ∙ part_set_out has_name _ cs k d c at_k a.0 b.0 ∙ sym (named_is r cs))

-- an internal: neither the old cell nor the new one is a property
pub internal_put : (r : Reading) (h d c : Slot) (cs : List Slot) (k : ℕ) → slice_get cs k ≡ Some d → has_name d ≡ false → is_indexed d ≡ false → has_name c ≡ false → is_indexed c ≡ false → object_record r h (set cs k c) ≡ record (object_record r h cs) { class = class_in r h.kind (set cs k c) }
internal_put r h d c cs k e nd xd nc xc =
    same_built r h _ _ _ _ _ _ refl (indexed_is r (set cs k c) ∙ part_set_out is_indexed _ cs k d c e xd xc ∙ sym (indexed_is r cs)) (named_is r (set cs k c) ∙ part_set_out has_name _ cs k d c e nd nc ∙ sym (named_is r cs))

pub internal_added : (r : Reading) (h c : Slot) (cs : List Slot) (k : ℕ) → has_name c ≡ false → is_indexed c ≡ false → object_record r h (insert cs k c) ≡ record (object_record r h cs) { class = class_in r h.kind (insert cs k c) }
internal_added r h c cs k nc xc =
    same_built r h _ _ _ _ _ _ refl (indexed_is r (insert cs k c) ∙ part_out is_indexed _ cs k c xc ∙ sym (indexed_is r cs)) (named_is r (insert cs k c) ∙ part_out has_name _ cs k c nc ∙ sym (named_is r cs))

pub internal_cut : (r : Reading) (h d : Slot) (cs : List Slot) (k : ℕ) → slice_get cs k ≡ Some d → has_name d ≡ false → is_indexed d ≡ false → object_record r h (remove cs k) ≡ record (object_record r h cs) { class = class_in r h.kind (remove cs k) }
internal_cut r h d cs k e nd xd =
    same_built r h _ _ _ _ _ _ refl (indexed_is r (remove cs k) ∙ part_remove_out is_indexed _ cs k d e xd ∙ sym (indexed_is r cs)) (named_is r (remove cs k) ∙ part_remove_out has_name _ cs k d e nd ∙ sym (named_is r cs))

-- ---- a cell is cut

module _ (r : Reading) (h d : Slot) (cs : List Slot) (k : ℕ) (behind : Behind h.kind k) (at_k : slice_get cs k ≡ Some d) where
  first_cut : 0 < k → get_or (remove cs k) 0 blank ≡ get_or cs 0 blank
  first_cut l = at cs k l
    where
      at : (cs : List Slot) (k : ℕ) → 0 < k → get_or (remove cs k) 0 blank ≡ get_or cs 0 blank
      at cs zero l = absurd (omega arith)
      at [] (suc k) l = refl
      at (x ∷ cs) (suc k) l = refl

  class_cut : NoInternal d → class_in r h.kind (remove cs k) ≡ class_in r h.kind cs
  class_cut n =
      class_same r h.kind k cs (remove cs k) behind first_cut (captured_is r (remove cs k) ∙ part_remove_out is_captured _ cs k d at_k n.no_captured ∙ sym (captured_is r cs)) (parts_are (remove cs k) ∙ part_remove_out is_part _ cs k d at_k n.no_part ∙ sym (parts_are cs))

  pub named_cut : IsTrue (has_name d) → object_record r h (remove cs k) ≡ record (object_record r h cs) { named = remove (named_in r cs) (count has_name k cs) }
  named_cut t =
      let a = named_apart d t in
      same_built r h _ _ _ _ _ _ (class_cut a.1) (indexed_is r (remove cs k) ∙ part_remove_out is_indexed _ cs k d at_k a.0 ∙ sym (indexed_is r cs)) (named_is r (remove cs k) ∙ part_remove has_name _ cs k d at_k t ∙ ap (λ xs. remove xs (count has_name k cs)) (sym (named_is r cs)))

  pub indexed_cut : IsTrue (is_indexed d) → object_record r h (remove cs k) ≡ record (object_record r h cs) { indexed = remove (indexed_in r cs) (count is_indexed k cs) }
  indexed_cut t =
      let a = indexed_apart d t in
      same_built r h _ _ _ _ _ _ (class_cut a.1) (indexed_is r (remove cs k) ∙ part_remove is_indexed _ cs k d at_k t ∙ ap (λ xs. remove xs (count is_indexed k cs)) (sym (indexed_is r cs))) (named_is r (remove cs k) ∙ part_remove_out has_name _ cs k d at_k a.0 ∙ sym (named_is r cs))

-- ---- a head is replaced

abbrev with_head : Reading → Slot → ObjectRecord → ObjectRecord
with_head r c o = record o { prototype = number_in r (upper c); extensible = bit c.flags 1 }

kept_upper : (v o : ℕ) → (v / four_bytes * four_bytes + o % four_bytes) / four_bytes ≡ v / four_bytes
kept_upper v o = omega arith

pub head_put : (r : Reading) (h c : Slot) (cs : List Slot) → IsTrue (is_object_kind h.kind) → c.kind ≡ h.kind → object_record r (cell (stored true h c)) cs ≡ with_head r c (object_record r h cs)
unfolding cell
head_put r h c cs o e =
    let v : upper (cell (stored true h c)) ≡ upper c = ap (λ b. cond b (c.value / four_bytes * four_bytes + h.value % four_bytes) c.value / four_bytes) o ∙ kept_upper c.value h.value in
    ap₂ (λ k a. let x : ObjectRecord = record { class = class_in r k cs; prototype = number_in r a; extensible = bit c.flags 1; indexed = indexed_in r cs; named = named_in r cs } in x) e v
