-- What is read of related things is related.
use Rattle.std.proofs.Common.{◌≡◌, Bool, true, false, cond, List, ◌++◌, nat_eq, arith, refl, ap, ap₂, ◌∷◌, map, Option}
use Rattle.js_value.specs.NumberText.{text_of_number}
use Rattle.js_value.specs.Value.{same_text, Key, Index, Named, Numeral}
use Rattle.js_value.specs.Store.{Thing, Property, Class, ObjectRecord, as_object, as_cell, as_mark, found, strings, length_entry, own_property, own_keys}
use Rattle.js_value.specs.Order.{FitsLength, IsOrderly}
use Rattle.es_ops.specs.Related.{Naming, BothOption, BothNone, BothSome, BothList, BothEmpty, BothCons, BothUndefined, BothNumber, BothData, BothProperty, BothEntry, BothClass, BothOrdinary, BothArray, BothScript, BothBuiltIn, BothResolve, BothReject, BothError, BothPromise, BothRecord, BothCellRecord, BothThing, BothAnObject, BothACell, BothAMark}

module _ (R : Naming) where
  pub as_object_both : {x y : Option Thing} → BothOption (BothThing R) x y → BothRecord R (as_object x) (as_object y)
  as_object_both BothNone = record { class = BothOrdinary; prototype = BothNone; extensible = refl; indexed = BothEmpty; named = BothEmpty }
  as_object_both (BothSome (BothAnObject h)) = h
  as_object_both (BothSome (BothACell h)) = record { class = BothOrdinary; prototype = BothNone; extensible = refl; indexed = BothEmpty; named = BothEmpty }
  as_object_both (BothSome BothAMark) = record { class = BothOrdinary; prototype = BothNone; extensible = refl; indexed = BothEmpty; named = BothEmpty }

  pub as_cell_both : {x y : Option Thing} → BothOption (BothThing R) x y → BothCellRecord R (as_cell x) (as_cell y)
  as_cell_both BothNone = record { value = BothSome BothUndefined; const = refl }
  as_cell_both (BothSome (BothAnObject h)) = record { value = BothSome BothUndefined; const = refl }
  as_cell_both (BothSome (BothACell h)) = h
  as_cell_both (BothSome BothAMark) = record { value = BothSome BothUndefined; const = refl }

  pub as_mark_same : {x y : Option Thing} → BothOption (BothThing R) x y → as_mark x ≡ as_mark y
  as_mark_same BothNone = refl
  as_mark_same (BothSome (BothAnObject h)) = refl
  as_mark_same (BothSome (BothACell h)) = refl
  as_mark_same (BothSome BothAMark) = refl

  choice_both : (a b : Bool) → a ≡ b → {x y z w : Option Property} → BothOption (BothProperty R) x y → BothOption (BothProperty R) z w → BothOption (BothProperty R) (cond a x z) (cond b y w)
  choice_both a b e {x} {y} {z} {w} h g = rw e (at b)
    where
      at : (b : Bool) → BothOption (BothProperty R) (cond b x z) (cond b y w)
      at true = h
      at false = g

  pub found_both : {K : Type 0} (is : K → Bool) (es ds : List (K × Property)) → BothList (BothEntry R) es ds → BothOption (BothProperty R) (found is es) (found is ds)
  found_both is es ds BothEmpty = BothNone
  found_both is es ds (BothCons h hs) = choice_both _ _ (ap is h.key) (BothSome h.property) (found_both is _ _ hs)

  pub strings_both : (o p : ObjectRecord) → BothRecord R o p → (c d : Class) → FitsLength c o.indexed → BothClass R c d → BothList (BothEntry R) (length_entry c ++ o.named) (length_entry d ++ p.named)
  strings_both o p h c d f BothOrdinary = h.named
  strings_both o p h c d f (BothArray {n = n} {b = b}) = BothCons (record { key = refl; property = record { content = BothData (BothNumber (record { bound = omega (arith, f.0) })); enumerable = refl; configurable = refl } }) h.named
  strings_both o p h c d f (BothScript x y) = h.named
  strings_both o p h c d f BothBuiltIn = h.named
  strings_both o p h c d f (BothResolve x y) = h.named
  strings_both o p h c d f (BothReject x y) = h.named
  strings_both o p h c d f BothError = h.named
  strings_both o p h c d f (BothPromise x y) = h.named

  pub own_property_both : (o p : ObjectRecord) (key : Key) → IsOrderly o → BothRecord R o p → BothOption (BothProperty R) (own_property o key) (own_property p key)
  unfolding own_property
  own_property_both o p (Index i) f h = found_both (nat_eq i) o.indexed p.indexed h.indexed
  own_property_both o p (Named t) f h = found_both (same_text t) (strings o) (strings p) (strings_both o p h o.class p.class f.length h.class)
  own_property_both o p (Numeral n) f h = found_both (same_text (text_of_number n)) (strings o) (strings p) (strings_both o p h o.class p.class f.length h.class)

  keys_same : {K : Type 0} (f : K → Key) {es ds : List (K × Property)} → BothList (BothEntry R) es ds → map (λ e. f e.0) es ≡ map (λ e. f e.0) ds
  keys_same f BothEmpty = refl
  keys_same f (BothCons h hs) = ap₂ (λ k ks. f k ∷ ks) h.key (keys_same f hs)

  pub own_keys_same : (o p : ObjectRecord) → IsOrderly o → BothRecord R o p → own_keys o ≡ own_keys p
  own_keys_same o p f h = ap₂ (λ is ns. is ++ ns) (keys_same (λ i. Index i) h.indexed) (keys_same (λ t. Named t) (strings_both o p h o.class p.class f.length h.class))
