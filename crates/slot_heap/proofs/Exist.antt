-- Where all that is spoken of stands and units have 16 bits, the store's values are of the language, and it speaks of
-- things alone that are in it.
use Rattle.std.proofs.Common.{◌≡◌, ℕ, suc, zero, ◌<◌, Bool, true, false, cond, List, [], ◌∷◌, length, get_or, take, drop, map, refl, ap, arith, Option, Some, None}
use Rattle.std.specs.List.{All, slice_get}
use Rattle.std.specs.Prelude.{IsTrue, ◌==◌}
use Rattle.std.proofs.lemmas.List.{length-map, length-take, length-drop}
use Rattle.std.proofs.lemmas.List.Elements.{All-head, All-tail, All-nil, All-cons}
use Rattle.slot_heap.specs.declared.slot.Slot.{Slot}
use Rattle.slot_heap.specs.declared.slot.Value.{Value as Low_Value}
use Rattle.slot_heap.specs.declared.slot.Value.TheVariants as low
use Rattle.slot_heap.specs.Slot.{blank, is_object_kind, value_in}
use Rattle.slot_heap.specs.Shown.{shown}
use Rattle.slot_heap.specs.Held.{Held}
use Rattle.slot_heap.specs.Texts.{text_of}
use Rattle.slot_heap.specs.Reading.{Reading, number_in, word_in, object_or, value_of, bit, upper, lower, is_accessor, is_indexed, content_in, property_in, put_if, named_in, indexed_in, or_zero, number_by, captured_in, parts_in, reactions_in, state_in, built_in, home_in, class_in, object_record, initialised, thing_of}
use Rattle.slot_heap.specs.Flat.{reading, flat}
use Rattle.slot_heap.specs.Standing.{RefStands, ValueStands, has_name, CellStands, Standing}
use Rattle.slot_heap.proofs.Ranks.{place_below}
use Rattle.slot_heap.proofs.Flat.{has_head}
use Rattle.slot_heap.proofs.Growth.{parts_stand, one_stands}
use Rattle.slot_heap.proofs.Things.{shown_stands, flat_length}
use Rattle.js_value.specs.Value.{Value, Undefined, Null}
use Rattle.js_value.specs.Store.{Store, Data, Accessor, Property, Pending, Fulfilled, Rejected, Class, Thing, AnObject, ACell, AMark, as_object, as_cell, object_in, cell_in}
use Rattle.js_value.specs.Order.{AreUnits, IsString}
use Rattle.js_value.specs.WellFormed.{IsValueBelow, IfValueBelow, IfNumberBelow, AreNumbersBelow, IsContentBelow, ArePropertiesBelow, IsStateBelow, AreReactionsBelow, IsClassBelow, IsObjectBelow, IsThingBelow}

-- ---- a text of units that have 16 bits is a String

units_drop : (n : ℕ) (us : List ℕ) → AreUnits us → AreUnits (drop n us)
units_drop zero us u = u
units_drop (suc n) [] u = tt
units_drop (suc n) (x ∷ us) u = units_drop n us u.1

units_take : (n : ℕ) (us : List ℕ) → AreUnits us → AreUnits (take n us)
units_take zero us u = tt
units_take (suc n) [] u = tt
units_take (suc n) (x ∷ us) u = (u.0, units_take n us u.1)

text_is_string : (us : List ℕ) → IsString us → (p : ℕ × ℕ) → IsString (text_of us p)
unfolding text_of
text_is_string us s p = record {
  units = units_take p.1 (drop p.0 us) (units_drop p.0 us s.units);
  bound = omega (arith, s.bound, length-take p.1 (drop p.0 us), length-drop p.0 us);
}

module _ (h : Held) (words : IsString h.words.units) (m : ℕ) (many : m ≡ length (reading h).heads) (some : 0 < m) where
  abbrev r : Reading
  r = reading h

  number_below : (a : ℕ) → RefStands h a → IfNumberBelow m (number_in r a)
  number_below zero s = tt
  number_below (suc i) s = let l = place_below r.heads (suc i) (has_head h (suc i) s) in omega arith

  object_below : (v : Value) (n : Option ℕ) → IsValueBelow m v → IfNumberBelow m n → IsValueBelow m (object_or v n)
  object_below v None b c = b
  object_below v (Some n) b c = c

  value_below : (v : Low_Value) → ValueStands h v → IsValueBelow m (value_of r v)
  unfolding value_of reading
  value_below low.Undefined s = tt
  value_below low.Null s = tt
  value_below (low.Bool b) s = tt
  value_below (low.Number n) s = s
  value_below (low.Name n) s = text_is_string h.words.units words (get_or h.words.names n (0, 0))
  value_below (low.Text at count) s = text_is_string h.words.units words (at, count)
  value_below (low.Thing a) s = object_below Null (number_in r a.0) tt (number_below a.0 s)

  zero_below : (n : Option ℕ) → IfNumberBelow m n → or_zero n < m
  zero_below None b = some
  zero_below (Some n) b = b

  by_below : (v : Low_Value) → ValueStands h v → number_by r v < m
  by_below low.Undefined s = some
  by_below low.Null s = some
  by_below (low.Bool b) s = some
  by_below (low.Number n) s = some
  by_below (low.Name n) s = some
  by_below (low.Text at count) s = some
  by_below (low.Thing a) s = zero_below (number_in r a.0) (number_below a.0 s)

  content_below : (c : Slot) → CellStands h c → IsContentBelow m (content_in r c)
  content_below c s = by (is_accessor c) refl
    where
      by : (b : Bool) → is_accessor c ≡ b → IsContentBelow m (cond b (Accessor (object_or Undefined (number_in r (lower c))) (object_or Undefined (number_in r c.last))) (Data (value_of r (value_in c)) (bit c.flags 1)))
      by true e = (object_below Undefined (number_in r (lower c)) tt (number_below (lower c) (s.getter e)), object_below Undefined (number_in r c.last) tt (number_below c.last (s.last (ap (λ b. cond b true (c.kind == 33)) e))))
      by false e = value_below (value_in c) s.value

  property_below : (c : Slot) → CellStands h c → IsContentBelow m (property_in r c).content
  unfolding property_in
  property_below c s = content_below c s

  put_below : {K : Type 0} (b : Bool) (e : K × Property) (es : List (K × Property)) → IsContentBelow m e.1.content → ArePropertiesBelow m es → ArePropertiesBelow m (put_if b e es)
  put_below true e es p q = (p, q)
  put_below false e es p q = q

  named_below : (cs : List Slot) → All (CellStands h) cs → ArePropertiesBelow m (named_in r cs)
  named_below [] s = tt
  named_below (c ∷ cs) s = put_below (has_name c) (word_in r c.key, property_in r c) (named_in r cs) (property_below c (All-head (CellStands h) c cs s)) (named_below cs (All-tail (CellStands h) c cs s))

  indexed_below : (cs : List Slot) → All (CellStands h) cs → ArePropertiesBelow m (indexed_in r cs)
  indexed_below [] s = tt
  indexed_below (c ∷ cs) s = put_below (is_indexed c) (c.last, property_in r c) (indexed_in r cs) (property_below c (All-head (CellStands h) c cs s)) (indexed_below cs (All-tail (CellStands h) c cs s))

  captured_below : (cs : List Slot) → All (CellStands h) cs → AreNumbersBelow m (captured_in r cs)
  captured_below [] s = tt
  captured_below (c ∷ cs) s = put (c.kind == 34) (by_below (value_in c) (All-head (CellStands h) c cs s).value) (captured_below cs (All-tail (CellStands h) c cs s))
    where
      put : (b : Bool) → number_by r (value_in c) < m → AreNumbersBelow m (captured_in r cs) → AreNumbersBelow m (put_if b (number_by r (value_in c)) (captured_in r cs))
      put true p q = (p, q)
      put false p q = q

  reactions_below : (cs : List Slot) → All (CellStands h) cs → AreReactionsBelow m (reactions_in r cs)
  reactions_below [] s = tt
  reactions_below (a ∷ []) s = tt
  reactions_below (a ∷ b ∷ []) s = tt
  reactions_below (a ∷ b ∷ c ∷ cs) s =
      let s1 = All-tail (CellStands h) a (b ∷ c ∷ cs) s in
      let s2 = All-tail (CellStands h) b (c ∷ cs) s1 in
      (record { derived = by_below (value_in a) (All-head (CellStands h) a (b ∷ c ∷ cs) s).value; on_fulfilled = value_below (value_in b) (All-head (CellStands h) b (c ∷ cs) s1).value; on_rejected = value_below (value_in c) (All-head (CellStands h) c cs s2).value }, reactions_below cs (All-tail (CellStands h) c cs s2))

  state_below : (c : Slot) → CellStands h c → IsStateBelow m (state_in r c)
  state_below c s = by (bit c.flags 1) (bit c.flags 2)
    where
      by : (a b : Bool) → IsStateBelow m (cond a (Fulfilled (value_of r (value_in c))) (cond b (Rejected (value_of r (value_in c))) Pending))
      by true b = value_below (value_in c) s.value
      by false true = value_below (value_in c) s.value
      by false false = tt

  either_class : (b : Bool) (x y : Class) → IsClassBelow m x → IsClassBelow m y → IsClassBelow m (cond b x y)
  either_class true x y p q = p
  either_class false x y p q = q

  home_below : (c : Slot) → CellStands h c → IfNumberBelow m (home_in r c)
  home_below c s = by (c.kind == 33) refl
    where
      last_of : (a b : Bool) → b ≡ true → cond a true b ≡ true
      last_of true b e = refl
      last_of false b e = e

      by : (b : Bool) → (c.kind == 33) ≡ b → IfNumberBelow m (cond b (number_in r c.last) None)
      by true e = number_below c.last (s.last (last_of (is_accessor c) (c.kind == 33) e))
      by false e = tt

  built_below : (row p q : ℕ) → p < m → q < m → IsClassBelow m (built_in row p q)
  built_below row p q a b = either_class (row == 49) _ _ (a, b) (either_class (row == 50) _ _ (a, b) tt)

  class_below : (kind : ℕ) (cs : List Slot) → All (CellStands h) cs → IsClassBelow m (class_in r kind cs)
  unfolding class_in
  class_below kind cs s =
      let first = one_stands h cs 0 s in
      let parts = parts_stand h cs s in
      let c = get_or cs 0 blank in
      let ps = parts_in cs in
      either_class (kind == 2) _ _ tt (either_class (kind == 3) _ _ (home_below c first, captured_below cs s) (either_class (kind == 4) _ _ (built_below (lower c) _ _ (by_below (value_in (get_or ps 0 blank)) (one_stands h ps 0 parts).value) (by_below (value_in (get_or ps 1 blank)) (one_stands h ps 1 parts).value)) (either_class (kind == 5) _ _ tt (either_class (kind == 6) _ _ (state_below c first, reactions_below ps parts) tt))))

  record_below : (c : Slot) (cs : List Slot) → IsTrue (is_object_kind c.kind) → CellStands h c → All (CellStands h) cs → IsObjectBelow m (object_record r c cs)
  record_below c cs o s all = record { class = class_below c.kind cs all; prototype = number_below (upper c) (s.prototype o); indexed = indexed_below cs all; named = named_below cs all }

  initialised_below : (c : Slot) → CellStands h c → IfValueBelow m (initialised r c)
  initialised_below c s = by (bit c.flags 2)
    where
      by : (b : Bool) → IfValueBelow m (cond b (Some (value_of r (value_in c))) None)
      by true = value_below (value_in c) s.value
      by false = tt

  pub thing_below : (cs : List Slot) → All (CellStands h) cs → IsThingBelow m (thing_of r cs)
  unfolding thing_of
  thing_below [] s = tt
  thing_below (c ∷ cs) s = by (is_object_kind c.kind) refl
    where
      cell_or : (b : Bool) → IsThingBelow m (cond b (ACell (record { value = initialised r c; const = bit c.flags 1 })) (AMark (bit c.flags 1)))
      cell_or true = initialised_below c (All-head (CellStands h) c cs s)
      cell_or false = tt

      by : (b : Bool) → is_object_kind c.kind ≡ b → IsThingBelow m (cond b (AnObject (object_record r c cs)) (cond (c.kind == 7) (ACell (record { value = initialised r c; const = bit c.flags 1 })) (AMark (bit c.flags 1))))
      by true e = record_below c cs e (All-head (CellStands h) c cs s) (All-tail (CellStands h) c cs s)
      by false e = cell_or (c.kind == 7)

things_below : (h : Held) → IsString h.words.units → (m : ℕ) → m ≡ length (reading h).heads → (ps : List (ℕ × List Slot)) → (0 < length ps → 0 < m) → All (λ p. All (CellStands h) p.1) ps → All (IsThingBelow m) (map (λ p. thing_of (reading h) p.1) ps)
things_below h w m e [] l s = All-nil _
things_below h w m e (p ∷ ps) l s =
    All-cons (IsThingBelow m) _ _ (thing_below h w m e (l (omega arith)) p.1 (All-head (λ q. All (CellStands h) q.1) p ps s)) (things_below h w m e ps (λ k. l (omega arith)) (All-tail (λ q. All (CellStands h) q.1) p ps s))

pub all_below : (h : Held) → IsString h.words.units → Standing h → All (IsThingBelow (length (flat h))) (flat h)
unfolding flat
all_below h w s =
    let n = length-map (shown h.slots) (λ p. thing_of (reading h) p.1) in
    things_below h w (length (flat h)) (flat_length h) (shown h.slots) (λ l. omega arith) (shown_stands h s)

get_below : (s : Store) (m n : ℕ) → All (IsThingBelow m) s → IsObjectBelow m (as_object (slice_get s n)) × IfValueBelow m (as_cell (slice_get s n)).value
get_below [] m n a = (record { class = tt; prototype = tt; indexed = tt; named = tt }, tt)
get_below (t ∷ s) m zero a = of t (All-head (IsThingBelow m) t s a)
  where
    of : (t : Thing) → IsThingBelow m t → IsObjectBelow m (as_object (Some t)) × IfValueBelow m (as_cell (Some t)).value
    of (AnObject o) b = (b, tt)
    of (ACell c) b = (record { class = tt; prototype = tt; indexed = tt; named = tt }, b)
    of (AMark b) p = (record { class = tt; prototype = tt; indexed = tt; named = tt }, tt)
get_below (t ∷ s) m (suc n) a = get_below s m n (All-tail (IsThingBelow m) t s a)

-- each thing that an object or a cell of the store speaks of is in the store
pub objects_exist : (h : Held) → IsString h.words.units → Standing h → (n : ℕ) → IsObjectBelow (length (flat h)) (object_in (flat h) n)
unfolding object_in
objects_exist h w s n = (get_below (flat h) (length (flat h)) n (all_below h w s)).0

pub values_exist : (h : Held) → IsString h.words.units → Standing h → (n : ℕ) → IfValueBelow (length (flat h)) (cell_in (flat h) n).value
unfolding cell_in
values_exist h w s n = (get_below (flat h) (length (flat h)) n (all_below h w s)).1
