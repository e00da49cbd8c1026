-- What is read stays when units, names and things are added behind.
use Rattle.std.proofs.Common.{◌≡◌, ℕ, suc, zero, ◌<◌, Bool, true, false, cond, List, [], ◌∷◌, length, get_or, refl, ap, ap₂, ◌∙◌, Some, None}
use Rattle.std.specs.List.{All}
use Rattle.std.specs.Prelude.{◌==◌}
use Rattle.std.proofs.lemmas.List.{get_or_append_left}
use Rattle.std.proofs.lemmas.List.Elements.{All-head, All-tail, All-get_or, All-cons}
use Rattle.slot_heap.specs.declared.slot.Slot.{Slot}
use Rattle.slot_heap.specs.declared.slot.Value.{Value as Low_Value}
use Rattle.slot_heap.specs.declared.slot.Value.TheVariants as low
use Rattle.slot_heap.specs.Slot.{blank, is_object_kind, value_in}
use Rattle.slot_heap.specs.Texts.{text_of, Within}
use Rattle.slot_heap.specs.Held.{Held}
use Rattle.slot_heap.specs.Reading.{Reading, place_in, number_in, word_in, object_or, value_of, bit, upper, lower, is_accessor, is_indexed, property_in, put_if, named_in, indexed_in, or_zero, number_by, captured_in, parts_in, reaction_in, reactions_in, class_by, class_in, object_record, thing_of}
use Rattle.slot_heap.specs.Flat.{reading, Grows}
use Rattle.slot_heap.specs.Standing.{RefStands, ValueStands, has_name, CellStands}
use Rattle.slot_heap.proofs.Grown.{text_grown}
use Rattle.slot_heap.proofs.Ranks.{place_append}
use Rattle.slot_heap.proofs.Flat.{has_head}
use Rattle.js_value.specs.Value.{Undefined, Null, String}
use Rattle.js_value.specs.Store.{Content, Data, Accessor, Property, Thing, AnObject, ACell, AMark}

pub parts_stand : (h : Held) (cs : List Slot) → All (CellStands h) cs → All (CellStands h) (parts_in cs)
parts_stand h [] s = s
parts_stand h (c ∷ cs) s = put (c.kind == 37) (parts_stand h cs (All-tail (CellStands h) c cs s))
  where
    put : (b : Bool) → All (CellStands h) (parts_in cs) → All (CellStands h) (put_if b c (parts_in cs))
    put true t = All-cons (CellStands h) c (parts_in cs) (All-head (CellStands h) c cs s) t
    put false t = t

pub blank_stands : (h : Held) → CellStands h blank
unfolding value_in
blank_stands h = record { prototype = λ e. absurd (cc); tag = λ e. absurd (cc); key = λ e. absurd (cc); getter = λ e. absurd (cc); last = λ e. absurd (cc); value = tt }

pub one_stands : (h : Held) (cs : List Slot) (k : ℕ) → All (CellStands h) cs → CellStands h (get_or cs k blank)
one_stands h [] k s = blank_stands h
one_stands h (c ∷ cs) zero s = All-head (CellStands h) c cs s
one_stands h (c ∷ cs) (suc k) s = one_stands h cs k (All-tail (CellStands h) c cs s)

module _ (h : Held) (r' : Reading) (g : Grows (reading h) r') (named : All (Within h.words.units) h.words.names) where
  abbrev r : Reading
  r = reading h

  units_are : r.units ≡ h.words.units
  unfolding reading
  units_are = refl

  names_are : r.names ≡ h.words.names
  unfolding reading
  names_are = refl

  pub text_grows : (p : ℕ × ℕ) → Within h.words.units p → text_of r'.units p ≡ text_of r.units p
  unfolding reading
  text_grows p w = rw g.units.1 (text_grown h.words.units g.units.0 p w)

  pub word_grows : (n : ℕ) → n < length h.words.names → word_in r' n ≡ word_in r n
  unfolding reading
  word_grows n l =
      let same : get_or r'.names n (0, 0) ≡ get_or h.words.names n (0, 0) = rw g.names.1 (get_or_append_left h.words.names g.names.0 (0, 0) n l) in
      ap (text_of r'.units) same ∙ text_grows (get_or h.words.names n (0, 0)) (All-get_or (Within h.words.units) h.words.names n (0, 0) l named)

  pub number_grows : (a : ℕ) → RefStands h a → number_in r' a ≡ number_in r a
  number_grows zero s = refl
  number_grows (suc i) s = ap Some (ap (place_in (suc i)) g.heads.1 ∙ place_append r.heads g.heads.0 (suc i) (has_head h (suc i) s))

  pub value_grows : (v : Low_Value) → ValueStands h v → value_of r' v ≡ value_of r v
  unfolding value_of
  value_grows low.Undefined s = refl
  value_grows low.Null s = refl
  value_grows (low.Bool b) s = refl
  value_grows (low.Number n) s = refl
  value_grows (low.Name n) s = ap String (word_grows n s)
  value_grows (low.Text at count) s = ap String (text_grows (at, count) s)
  value_grows (low.Thing a) s = ap (object_or Null) (number_grows a.0 s)

  by_grows : (v : Low_Value) → ValueStands h v → number_by r' v ≡ number_by r v
  by_grows low.Undefined s = refl
  by_grows low.Null s = refl
  by_grows (low.Bool b) s = refl
  by_grows (low.Number n) s = refl
  by_grows (low.Name n) s = refl
  by_grows (low.Text at count) s = refl
  by_grows (low.Thing a) s = ap or_zero (number_grows a.0 s)

  content_one : (b : Bool) (c : Slot) → is_accessor c ≡ b → CellStands h c → cond b (Accessor (object_or Undefined (number_in r' (lower c))) (object_or Undefined (number_in r' c.last))) (Data (value_of r' (value_in c)) (bit c.flags 1)) ≡ cond b (Accessor (object_or Undefined (number_in r (lower c))) (object_or Undefined (number_in r c.last))) (Data (value_of r (value_in c)) (bit c.flags 1))
  content_one true c e s =
      ap₂ (λ x y. Accessor (object_or Undefined x) (object_or Undefined y)) (number_grows (lower c) (s.getter e)) (number_grows c.last (s.last (ap (λ b. cond b true (c.kind == 33)) e)))
  content_one false c e s = ap (λ v. Data v (bit c.flags 1)) (value_grows (value_in c) s.value)

  pub property_grows : (c : Slot) → CellStands h c → property_in r' c ≡ property_in r c
  unfolding property_in
  property_grows c s = ap (λ (t : Content). let p : Property = record { content = t; enumerable = bit c.flags 2; configurable = bit c.flags 4 } in p) (content_one (is_accessor c) c refl s)

  indexed_grows : (cs : List Slot) → All (CellStands h) cs → indexed_in r' cs ≡ indexed_in r cs
  indexed_grows [] s = refl
  indexed_grows (c ∷ cs) s =
      ap₂ (λ (p : Property) (t : List (ℕ × Property)). put_if (is_indexed c) (c.last, p) t) (property_grows c (All-head (CellStands h) c cs s)) (indexed_grows cs (All-tail (CellStands h) c cs s))

  named_one : (b : Bool) (c : Slot) (xs : List (List ℕ × Property)) → has_name c ≡ b → CellStands h c → put_if b (word_in r' c.key, property_in r' c) xs ≡ put_if b (word_in r c.key, property_in r c) xs
  named_one true c xs e s =
      ap₂ (λ (w : List ℕ) (p : Property). let q : List ℕ × Property = (w, p) in q ∷ xs) (word_grows c.key (s.key e)) (property_grows c s)
  named_one false c xs e s = refl

  named_grows : (cs : List Slot) → All (CellStands h) cs → named_in r' cs ≡ named_in r cs
  named_grows [] s = refl
  named_grows (c ∷ cs) s =
      named_one (has_name c) c (named_in r' cs) refl (All-head (CellStands h) c cs s) ∙ ap (put_if (has_name c) (word_in r c.key, property_in r c)) (named_grows cs (All-tail (CellStands h) c cs s))

  captured_grows : (cs : List Slot) → All (CellStands h) cs → captured_in r' cs ≡ captured_in r cs
  captured_grows [] s = refl
  captured_grows (c ∷ cs) s =
      ap₂ (λ n ns. put_if (c.kind == 34) n ns) (by_grows (value_in c) (All-head (CellStands h) c cs s).value) (captured_grows cs (All-tail (CellStands h) c cs s))

  reactions_grow : (cs : List Slot) → All (CellStands h) cs → reactions_in r' cs ≡ reactions_in r cs
  reactions_grow [] s = refl
  reactions_grow (a ∷ []) s = refl
  reactions_grow (a ∷ b ∷ []) s = refl
  reactions_grow (a ∷ b ∷ c ∷ cs) s =
      let s1 = All-tail (CellStands h) a (b ∷ c ∷ cs) s in
      let s2 = All-tail (CellStands h) b (c ∷ cs) s1 in
      let x = by_grows (value_in a) (All-head (CellStands h) a (b ∷ c ∷ cs) s).value in
      let y = value_grows (value_in b) (All-head (CellStands h) b (c ∷ cs) s1).value in
      let z = value_grows (value_in c) (All-head (CellStands h) c cs s2).value in
      rw (x, y, z) (ap (λ t. reaction_in r a b c ∷ t) (reactions_grow cs (All-tail (CellStands h) c cs s2)))

  home_one : (b : Bool) (c : Slot) → (c.kind == 33) ≡ b → CellStands h c → cond b (number_in r' c.last) None ≡ cond b (number_in r c.last) None
  home_one true c e s = number_grows c.last (s.last (by (is_accessor c) (c.kind == 33) e))
    where
      by : (a b : Bool) → b ≡ true → cond a true b ≡ true
      by true b e = refl
      by false b e = e
  home_one false c e s = refl

  class_one : (kind : ℕ) (c : Slot) (captured : List ℕ) (parts : List Slot) → CellStands h c → All (CellStands h) parts → class_by r' kind c captured parts ≡ class_by r kind c captured parts
  class_one kind c captured parts s p =
      let a = by_grows (value_in (get_or parts 0 blank)) (one_stands h parts 0 p).value in
      let b = by_grows (value_in (get_or parts 1 blank)) (one_stands h parts 1 p).value in
      let v = value_grows (value_in c) s.value in
      let q = reactions_grow parts p in
      let l = home_one (c.kind == 33) c refl s in
      rw (a, b, v, q, l) refl

  class_grows : (kind : ℕ) (cs : List Slot) → All (CellStands h) cs → class_in r' kind cs ≡ class_in r kind cs
  unfolding class_in
  class_grows kind cs s =
      ap (λ ns. class_by r' kind (get_or cs 0 blank) ns (parts_in cs)) (captured_grows cs s) ∙ class_one kind (get_or cs 0 blank) (captured_in r cs) (parts_in cs) (one_stands h cs 0 s) (parts_stand h cs s)

  object_one : (b : Bool) (c : Slot) (cs : List Slot) (t : Thing) → is_object_kind c.kind ≡ b → CellStands h c → All (CellStands h) cs → cond b (AnObject (object_record r' c cs)) t ≡ cond b (AnObject (object_record r c cs)) t
  object_one true c cs t e s a =
      rw (class_grows c.kind cs a, number_grows (upper c) (s.prototype e), indexed_grows cs a, named_grows cs a) refl
  object_one false c cs t e s a = refl

  pub thing_grows : (cs : List Slot) → All (CellStands h) cs → thing_of r' cs ≡ thing_of r cs
  unfolding thing_of
  thing_grows [] s = refl
  thing_grows (c ∷ cs) s =
      let here = All-head (CellStands h) c cs s in
      object_one (is_object_kind c.kind) c cs _ refl here (All-tail (CellStands h) c cs s) ∙ ap (λ v. cond (is_object_kind c.kind) (AnObject (object_record r c cs)) (cond (c.kind == 7) (ACell (record { value = cond (bit c.flags 2) (Some v) None; const = bit c.flags 1 })) (AMark (bit c.flags 1)))) (value_grows (value_in c) here.value)
