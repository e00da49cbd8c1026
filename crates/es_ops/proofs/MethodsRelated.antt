-- Internal methods on related objects answer alike and leave related objects.
use Rattle.std.proofs.Common.{◌≡◌, ℕ, suc, Bool, true, false, cond, not, ◌&&◌, ◌||◌, ◌==◌, List, pos, negsuc, nat_lt, nat_le, nat_eq, refl, ap, ap₂, Option, Some, None, is_some}
use Rattle.std.specs.Prelude.{option_map, unwrap_or}
use Rattle.std.specs.Option.{option_map_or}
use Rattle.js_value.specs.NumberText.{text_of_number}
use Rattle.js_value.specs.Value.{Value, Text, same_text, Key, Index, Named, Numeral, is_index}
use Rattle.js_value.specs.Store.{Property, Content, Data, Class, ObjectRecord, length_name, with_property, with_string, with_length, without_property, put_index, put_name, removed}
use Rattle.js_value.specs.Order.{IsOrderly}
use Rattle.es_ops.specs.Equality.{same_bool}
use Rattle.es_ops.specs.InternalMethods.{PropertyDescriptor, Outcome, refused, unchanged, wrote, is_accessor_descriptor, is_data_descriptor, is_generic_descriptor, has_fields, is_accessor, differs, differs_value, forbidden_content, forbidden, new_content, new_property, applied_content, applied, validate_and_apply_property_descriptor, ordinary_define_own_property, length_of_value, lowest_length, elements_below, lowered, set_length_to, length_set_by, raised, array_define_index, array_define_own_property, define_by_class, define_own_property, ordinary_delete, delete_own_property, prevent_extensions, freeze, all_fixed, fixed_content, fixed_class}
use Rattle.es_ops.specs.Related.{Naming, BothOption, BothNone, BothSome, BothList, BothEmpty, BothCons, BothValue, BothUndefined, BothNull, BothBoolean, BothNumber, BothString, BothObject, BothContent, BothData, BothAccessor, BothProperty, BothEntry, BothClass, BothOrdinary, BothArray, BothScript, BothBuiltIn, BothResolve, BothReject, BothError, BothPromise, BothRecord, BothDescriptor, IsOneToOne}
use Rattle.es_ops.proofs.WritesRelated.{same_value_related, is_some_same, length_same}
use Rattle.es_ops.proofs.RecordsRelated.{own_property_both}

pub record BothOutcome (R : Naming) (x y : Outcome) : Type 0 where
  pub answer : x.answer ≡ y.answer
  pub written : BothOption (BothRecord R) x.written y.written

module _ (R : Naming) (one : IsOneToOne R) where
  -- choices
  choose : {A : Type 0} (B : A → A → Type 0) (a b : Bool) → a ≡ b → {x y z w : A} → B x y → B z w → B (cond a x z) (cond b y w)
  choose {A} B a b e {x} {y} {z} {w} h g = rw e (at b)
    where
      at : (b : Bool) → B (cond b x z) (cond b y w)
      at true = h
      at false = g

  refuse : BothOutcome R refused refused
  refuse = record { answer = refl; written = BothNone }

  keep : BothOutcome R unchanged unchanged
  keep = record { answer = refl; written = BothNone }

  write : {o p : ObjectRecord} → BothRecord R o p → BothOutcome R (wrote o) (wrote p)
  write h = record { answer = refl; written = BothSome h }

  -- lists of properties
  put_index_both : (i : ℕ) (x y : Property) {es ds : List (ℕ × Property)} → BothProperty R x y → BothList (BothEntry R) es ds → BothList (BothEntry R) (put_index i x es) (put_index i y ds)
  put_index_both i x y h BothEmpty = BothCons (record { key = refl; property = h }) BothEmpty
  put_index_both i x y h (BothCons e es) = choose (BothList (BothEntry R)) _ _ (ap (nat_lt i) e.key) (BothCons (record { key = refl; property = h }) (BothCons e es)) (choose (BothList (BothEntry R)) _ _ (ap (λ k. i == k) e.key) (BothCons (record { key = refl; property = h }) es) (BothCons e (put_index_both i x y h es)))

  put_name_both : (t : Text) (x y : Property) {es ds : List (Text × Property)} → BothProperty R x y → BothList (BothEntry R) es ds → BothList (BothEntry R) (put_name t x es) (put_name t y ds)
  put_name_both t x y h BothEmpty = BothCons (record { key = refl; property = h }) BothEmpty
  put_name_both t x y h (BothCons e es) = choose (BothList (BothEntry R)) _ _ (ap (same_text t) e.key) (BothCons (record { key = refl; property = h }) es) (BothCons e (put_name_both t x y h es))

  removed_both : {K : Type 0} (is : K → Bool) {es ds : List (K × Property)} → BothList (BothEntry R) es ds → BothList (BothEntry R) (removed is es) (removed is ds)
  removed_both is BothEmpty = BothEmpty
  removed_both is (BothCons e es) = choose (BothList (BothEntry R)) _ _ (ap is e.key) es (BothCons e (removed_both is es))

  with_length_both : (o p : ObjectRecord) {c d : Content} → BothRecord R o p → BothContent R c d → BothRecord R (with_length o c) (with_length p d)
  with_length_both o p h (BothData (BothNumber {n = pos n} x)) = record { class = BothArray; prototype = h.prototype; extensible = h.extensible; indexed = h.indexed; named = h.named }
  with_length_both o p h (BothData (BothNumber {n = negsuc n} x)) = h
  with_length_both o p h (BothData BothUndefined) = h
  with_length_both o p h (BothData BothNull) = h
  with_length_both o p h (BothData BothBoolean) = h
  with_length_both o p h (BothData (BothString x)) = h
  with_length_both o p h (BothData (BothObject x)) = h
  with_length_both o p h (BothAccessor g s) = h

  with_string_both : (o p : ObjectRecord) (t : Text) (x y : Property) → BothRecord R o p → BothProperty R x y → BothRecord R (with_string o t x) (with_string p t y)
  with_string_both o p t x y h g = choose (BothRecord R) _ _ (length_same t h.class) (with_length_both o p h g.content) (record { class = h.class; prototype = h.prototype; extensible = h.extensible; indexed = h.indexed; named = put_name_both t x y g h.named })

  pub with_property_both : (o p : ObjectRecord) (key : Key) (x y : Property) → BothRecord R o p → BothProperty R x y → BothRecord R (with_property o key x) (with_property p key y)
  unfolding with_property
  with_property_both o p (Index i) x y h g = record { class = h.class; prototype = h.prototype; extensible = h.extensible; indexed = put_index_both i x y g h.indexed; named = h.named }
  with_property_both o p (Named t) x y h g = with_string_both o p t x y h g
  with_property_both o p (Numeral n) x y h g = with_string_both o p (text_of_number n) x y h g

  without_property_both : (o p : ObjectRecord) (key : Key) → BothRecord R o p → BothRecord R (without_property o key) (without_property p key)
  unfolding without_property
  without_property_both o p (Index i) h = record { class = h.class; prototype = h.prototype; extensible = h.extensible; indexed = removed_both (nat_eq i) h.indexed; named = h.named }
  without_property_both o p (Named t) h = record { class = h.class; prototype = h.prototype; extensible = h.extensible; indexed = h.indexed; named = removed_both (same_text t) h.named }
  without_property_both o p (Numeral n) h = record { class = h.class; prototype = h.prototype; extensible = h.extensible; indexed = h.indexed; named = removed_both (same_text (text_of_number n)) h.named }

  -- descriptors
  accessor_same : (d e : PropertyDescriptor) → BothDescriptor R d e → is_accessor_descriptor d ≡ is_accessor_descriptor e
  accessor_same d e b = ap₂ (λ x y. x || y) (is_some_same b.get) (is_some_same b.set)

  data_same : (d e : PropertyDescriptor) → BothDescriptor R d e → is_data_descriptor d ≡ is_data_descriptor e
  data_same d e b = ap₂ (λ x y. x || y) (is_some_same b.value) (ap is_some b.writable)

  generic_same : (d e : PropertyDescriptor) → BothDescriptor R d e → is_generic_descriptor d ≡ is_generic_descriptor e
  generic_same d e b = ap₂ (λ x y. not x && not y) (accessor_same d e b) (data_same d e b)

  fields_same : (d e : PropertyDescriptor) → BothDescriptor R d e → has_fields d ≡ has_fields e
  fields_same d e b = ap₂ (λ x y. x || y) (ap₂ (λ x y. not x || y) (generic_same d e b) (ap is_some b.enumerable)) (ap is_some b.configurable)

  differs_same : {x y : Option Value} {v w : Value} → BothOption (BothValue R) x y → BothValue R v w → differs_value x v ≡ differs_value y w
  differs_same BothNone h = refl
  differs_same (BothSome g) h = ap not (same_value_related one g h)

  forbidden_content_same : {c k : Content} (d e : PropertyDescriptor) → BothContent R c k → BothDescriptor R d e → forbidden_content c d ≡ forbidden_content k e
  forbidden_content_same d e (BothAccessor g s) b = ap₂ (λ x y. x || y) (differs_same b.get g) (differs_same b.set s)
  forbidden_content_same d e (BothData {b = true} h) b = refl
  forbidden_content_same d e (BothData {b = false} h) b = ap₂ (λ x y. x || y) (ap (λ x. differs x false) b.writable) (differs_same b.value h)

  is_accessor_same : {c d : Content} → BothContent R c d → is_accessor c ≡ is_accessor d
  is_accessor_same (BothAccessor g s) = refl
  is_accessor_same (BothData h) = refl

  forbidden_same : (c k : Property) (d e : PropertyDescriptor) → BothProperty R c k → BothDescriptor R d e → forbidden c d ≡ forbidden k e
  forbidden_same c k d e h b = ap₂ (λ x y. x || y) (ap₂ (λ x y. x || y) (ap₂ (λ x y. x || y) (ap (λ x. differs x false) b.configurable) (ap₂ differs b.enumerable h.enumerable)) (ap₂ (λ x y. not x && not y) (generic_same d e b) (ap₂ same_bool (accessor_same d e b) (is_accessor_same h.content)))) (forbidden_content_same d e h.content b)

  or_value : {x y : Option Value} {v w : Value} → BothOption (BothValue R) x y → BothValue R v w → BothValue R (unwrap_or x v) (unwrap_or y w)
  or_value BothNone h = h
  or_value (BothSome g) h = g

  data_with : {v w : Value} (a b : Bool) → a ≡ b → BothValue R v w → BothContent R (Data v a) (Data w b)
  data_with a b e h = rw e (BothData h)

  new_content_both : (d e : PropertyDescriptor) → BothDescriptor R d e → BothContent R (new_content d) (new_content e)
  new_content_both d e b = choose (BothContent R) _ _ (accessor_same d e b) (BothAccessor (or_value b.get BothUndefined) (or_value b.set BothUndefined)) (data_with _ _ (ap (λ x. unwrap_or x false) b.writable) (or_value b.value BothUndefined))

  new_property_both : (d e : PropertyDescriptor) → BothDescriptor R d e → BothProperty R (new_property d) (new_property e)
  new_property_both d e b = record { content = new_content_both d e b; enumerable = ap (λ x. unwrap_or x false) b.enumerable; configurable = ap (λ x. unwrap_or x false) b.configurable }

  applied_content_both : {c k : Content} (d e : PropertyDescriptor) → BothContent R c k → BothDescriptor R d e → BothContent R (applied_content c d) (applied_content k e)
  applied_content_both d e (BothData {b = a} h) b = choose (BothContent R) _ _ (accessor_same d e b) (new_content_both d e b) (data_with _ _ (ap (λ x. unwrap_or x a) b.writable) (or_value b.value h))
  applied_content_both d e (BothAccessor g s) b = choose (BothContent R) _ _ (data_same d e b) (new_content_both d e b) (BothAccessor (or_value b.get g) (or_value b.set s))

  applied_both : (c k : Property) (d e : PropertyDescriptor) → BothProperty R c k → BothDescriptor R d e → BothProperty R (applied c d) (applied k e)
  applied_both c k d e h b = record { content = applied_content_both d e h.content b; enumerable = ap₂ unwrap_or b.enumerable h.enumerable; configurable = ap₂ unwrap_or b.configurable h.configurable }

  -- [[DefineOwnProperty]]
  validate_both : (o p : ObjectRecord) (key : Key) (d e : PropertyDescriptor) {x y : Option Property} → BothRecord R o p → BothDescriptor R d e → BothOption (BothProperty R) x y → BothOutcome R (validate_and_apply_property_descriptor o key d x) (validate_and_apply_property_descriptor p key e y)
  unfolding validate_and_apply_property_descriptor
  validate_both o p key d e h b BothNone = choose (BothOutcome R) _ _ h.extensible (write (with_property_both o p key _ _ h (new_property_both d e b))) refuse
  validate_both o p key d e h b (BothSome {x = c} {y = k} g) = choose (BothOutcome R) _ _ (fields_same d e b) (choose (BothOutcome R) _ _ (ap₂ (λ x y. not x && y) g.configurable (forbidden_same c k d e g b)) refuse (write (with_property_both o p key _ _ h (applied_both c k d e g b)))) keep

  ordinary_both : (o p : ObjectRecord) (key : Key) (d e : PropertyDescriptor) → IsOrderly o → BothRecord R o p → BothDescriptor R d e → BothOutcome R (ordinary_define_own_property o key d) (ordinary_define_own_property p key e)
  ordinary_both o p key d e f h b = validate_both o p key d e h b (own_property_both R o p key f h)

  -- arrays
  raise_same : (a b : Bool) (i j m n : ℕ) → a ≡ b → i ≡ j → m ≡ n → cond (not a && nat_le m i) (suc i) m ≡ cond (not b && nat_le n j) (suc j) n
  raise_same a b i j m n e f g = rw (e, f, g) refl

  lowest_same : {es ds : List (ℕ × Property)} → BothList (BothEntry R) es ds → (m n : ℕ) → m ≡ n → lowest_length m es ≡ lowest_length n ds
  lowest_same BothEmpty m n e = e
  lowest_same (BothCons h hs) m n e = lowest_same hs _ _ (raise_same _ _ _ _ m n h.property.configurable h.key e)

  below_both : (n : ℕ) {es ds : List (ℕ × Property)} → BothList (BothEntry R) es ds → BothList (BothEntry R) (elements_below n es) (elements_below n ds)
  below_both n BothEmpty = BothEmpty
  below_both n (BothCons h hs) = choose (BothList (BothEntry R)) _ _ (ap (λ k. nat_lt k n) h.key) (BothCons h (below_both n hs)) (below_both n hs)

  lowered_both : (o p : ObjectRecord) (old new r s : ℕ) (a b : Bool) → r ≡ s → a ≡ b → BothRecord R o p → BothOutcome R (lowered o old new r a) (lowered p old new s b)
  lowered_both o p old new r s a b e f h = rw (e, f) (record { answer = refl; written = choose (BothOption (BothRecord R)) (s == old && b) (s == old && b) refl BothNone (BothSome (record { class = BothArray; prototype = h.prototype; extensible = h.extensible; indexed = below_both s h.indexed; named = h.named })) })

  set_length_both : (o p : ObjectRecord) (old : ℕ) (a : Bool) (d e : PropertyDescriptor) (new : ℕ) → IsOrderly o → BothRecord R o p → BothDescriptor R d e → BothOutcome R (set_length_to o old a d new) (set_length_to p old a e new)
  set_length_both o p old a d e new f h b =
      let x = ordinary_both o p (Named length_name) d e f h b in
      choose (BothOutcome R) (nat_le old new) (nat_le old new) refl x (choose (BothOutcome R) _ _ (ap (λ y. a && y) x.answer) (lowered_both o p old new _ _ _ _ (lowest_same h.indexed new new refl) (ap (λ y. unwrap_or y true) b.writable) h) refuse)

  length_value_same : {v w : Value} → BothValue R v w → length_of_value v ≡ length_of_value w
  length_value_same BothUndefined = refl
  length_value_same BothNull = refl
  length_value_same BothBoolean = refl
  length_value_same (BothNumber h) = refl
  length_value_same (BothString h) = refl
  length_value_same (BothObject h) = refl

  length_set_both : (o p : ObjectRecord) (old : ℕ) (a : Bool) (d e : PropertyDescriptor) {x y : Option Value} → IsOrderly o → BothRecord R o p → BothDescriptor R d e → BothOption (BothValue R) x y → BothOutcome R (length_set_by o old a d x) (length_set_by p old a e y)
  length_set_both o p old a d e f h b BothNone = ordinary_both o p (Named length_name) d e f h b
  length_set_both o p old a d e f h b (BothSome {y = w} g) = rw (length_value_same g) (by_length (length_of_value w))
    where
      by_length : (n : Option ℕ) → BothOutcome R (option_map_or (set_length_to o old a d) n refused) (option_map_or (set_length_to p old a e) n refused)
      by_length None = refuse
      by_length (Some n) = set_length_both o p old a d e n f h b

  raised_both : (i : ℕ) {c k : Class} (o p : ObjectRecord) → BothClass R c k → BothRecord R o p → BothRecord R (raised i c o) (raised i k p)
  raised_both i o p (BothArray {n = n}) h = choose (BothRecord R) (nat_lt i n) (nat_lt i n) refl h (record { class = BothArray; prototype = h.prototype; extensible = h.extensible; indexed = h.indexed; named = h.named })
  raised_both i o p BothOrdinary h = h
  raised_both i o p (BothScript x y) h = h
  raised_both i o p BothBuiltIn h = h
  raised_both i o p (BothResolve x y) h = h
  raised_both i o p (BothReject x y) h = h
  raised_both i o p BothError h = h
  raised_both i o p (BothPromise x y) h = h

  define_index_both : (o p : ObjectRecord) (n : ℕ) (a : Bool) (i : ℕ) (d e : PropertyDescriptor) → IsOrderly o → BothRecord R o p → BothDescriptor R d e → BothOutcome R (array_define_index o n a i d) (array_define_index p n a i e)
  define_index_both o p n a i d e f h b =
      let x = ordinary_both o p (Index i) d e f h b in
      choose (BothOutcome R) (nat_le n i && not a) (nat_le n i && not a) refl refuse (record { answer = x.answer; written = mapped x.written })
    where
      mapped : {x y : Option ObjectRecord} → BothOption (BothRecord R) x y → BothOption (BothRecord R) (option_map (raised i o.class) x) (option_map (raised i p.class) y)
      mapped BothNone = BothNone
      mapped (BothSome g) = BothSome (raised_both i _ _ h.class g)

  array_both : (o p : ObjectRecord) (n : ℕ) (a : Bool) (key : Key) (d e : PropertyDescriptor) → IsOrderly o → BothRecord R o p → BothDescriptor R d e → BothOutcome R (array_define_own_property o n a key d) (array_define_own_property p n a key e)
  array_both o p n a (Index i) d e f h b = define_index_both o p n a i d e f h b
  array_both o p n a (Named t) d e f h b = choose (BothOutcome R) (same_text t length_name) (same_text t length_name) refl (length_set_both o p n a d e f h b b.value) (ordinary_both o p (Named t) d e f h b)
  array_both o p n a (Numeral t) d e f h b = choose (BothOutcome R) (same_text (text_of_number t) length_name) (same_text (text_of_number t) length_name) refl (length_set_both o p n a d e f h b b.value) (ordinary_both o p (Numeral t) d e f h b)

  by_class_both : {c k : Class} (o p : ObjectRecord) (key : Key) (d e : PropertyDescriptor) → BothClass R c k → IsOrderly o → BothRecord R o p → BothDescriptor R d e → BothOutcome R (define_by_class c o key d) (define_by_class k p key e)
  by_class_both o p key d e (BothArray {n = n} {b = a}) f h b = array_both o p n a key d e f h b
  by_class_both o p key d e BothOrdinary f h b = ordinary_both o p key d e f h b
  by_class_both o p key d e (BothScript x y) f h b = ordinary_both o p key d e f h b
  by_class_both o p key d e BothBuiltIn f h b = ordinary_both o p key d e f h b
  by_class_both o p key d e (BothResolve x y) f h b = ordinary_both o p key d e f h b
  by_class_both o p key d e (BothReject x y) f h b = ordinary_both o p key d e f h b
  by_class_both o p key d e BothError f h b = ordinary_both o p key d e f h b
  by_class_both o p key d e (BothPromise x y) f h b = ordinary_both o p key d e f h b

  pub define_both : (o p : ObjectRecord) (key : Key) (d e : PropertyDescriptor) → IsOrderly o → BothRecord R o p → BothDescriptor R d e → BothOutcome R (define_own_property o key d) (define_own_property p key e)
  unfolding define_own_property
  define_both o p key d e f h b = choose (BothOutcome R) _ _ (ap₂ (λ x y. x && (is_index key || y)) (accessor_same d e b) (data_same d e b)) refuse (by_class_both o p key d e h.class f h b)

  -- the others
  pub delete_both : (o p : ObjectRecord) (key : Key) → IsOrderly o → BothRecord R o p → BothOutcome R (delete_own_property o key) (delete_own_property p key)
  unfolding delete_own_property
  delete_both o p key f h = by_own (own_property_both R o p key f h)
    where
      by_own : {x y : Option Property} → BothOption (BothProperty R) x y → BothOutcome R (ordinary_delete o key x) (ordinary_delete p key y)
      by_own BothNone = keep
      by_own (BothSome g) = choose (BothOutcome R) _ _ g.configurable (write (without_property_both o p key h)) refuse

  pub prevent_both : (o p : ObjectRecord) → BothRecord R o p → BothOutcome R (prevent_extensions o) (prevent_extensions p)
  unfolding prevent_extensions
  prevent_both o p h = write (record { class = h.class; prototype = h.prototype; extensible = refl; indexed = h.indexed; named = h.named })

  all_fixed_both : {K : Type 0} {es ds : List (K × Property)} → BothList (BothEntry R) es ds → BothList (BothEntry R) (all_fixed es) (all_fixed ds)
  all_fixed_both BothEmpty = BothEmpty
  all_fixed_both (BothCons h hs) = BothCons (record { key = h.key; property = record { content = by_content h.property.content; enumerable = h.property.enumerable; configurable = refl } }) (all_fixed_both hs)
    where
      by_content : {c d : Content} → BothContent R c d → BothContent R (fixed_content c) (fixed_content d)
      by_content (BothData g) = BothData g
      by_content (BothAccessor g s) = BothAccessor g s

  fixed_class_both : {c d : Class} → BothClass R c d → BothClass R (fixed_class c) (fixed_class d)
  fixed_class_both BothArray = BothArray
  fixed_class_both BothOrdinary = BothOrdinary
  fixed_class_both (BothScript x y) = BothScript x y
  fixed_class_both BothBuiltIn = BothBuiltIn
  fixed_class_both (BothResolve x y) = BothResolve x y
  fixed_class_both (BothReject x y) = BothReject x y
  fixed_class_both BothError = BothError
  fixed_class_both (BothPromise x y) = BothPromise x y

  pub freeze_both : (o p : ObjectRecord) → BothRecord R o p → BothOutcome R (freeze o) (freeze p)
  unfolding freeze
  freeze_both o p h = write (record { class = fixed_class_both h.class; prototype = h.prototype; extensible = refl; indexed = all_fixed_both h.indexed; named = all_fixed_both h.named })
