-- Own keys are distinct and in order, and every method keeps them so.
use Rattle.std.proofs.Common.{◌≡◌, ℕ, suc, ◌<◌, ◌≤◌, Bool, true, false, cond, not, ◌&&◌, ◌||◌, nat_eq, List, [], ◌∷◌, ◌++◌, nat_lt, nat_le, ◌==◌, ℤ, pos, negsuc, arith, refl, sym, ap, ◌∙◌, subst, Option, Some, None, IfSome, option_map, unwrap_or}
use Rattle.std.specs.Option.{option_map_or}
use Rattle.std.proofs.lemmas.Bool.Decides.{nat_tests}
use Rattle.js_value.specs.NumberText.{text_of_number}
use Rattle.js_value.specs.Value.{Value, Undefined, Null, Boolean, Number, String, Object, Text, same_text, Key, Index, Named, Numeral}
use Rattle.js_value.specs.Store.{Store, Property, Data, Class, Array, ObjectRecord, own_property, with_property, without_property, with_string, with_length, is_length_of, put_name, put_index, removed, found, length_name, length_property, length_entry, strings}
use Rattle.js_value.specs.Order.{IsName, IsKey, AllAbove, AllBelow, Ascending, Distinct, AreNames, NoLength, IsOrderly}
use Rattle.js_value.proofs.Entries.{put_name_distinct, put_name_names, found-put_name, removed_none, removed_distinct, removed_names, all_below_more, put_index_below, put_index_ascending, removed_below, removed_ascending, same_text_sym}
use Rattle.es_ops.specs.Equality.{same_bool}
use Rattle.es_ops.specs.InternalMethods.{PropertyDescriptor, Outcome, refused, unchanged, wrote, validate_and_apply_property_descriptor, ordinary_define_own_property, new_property, new_content, applied, differs, forbidden_content, forbidden, has_fields, is_accessor_descriptor, is_data_descriptor, lowest_length, elements_below, lowered, set_length_to, length_set_by, array_set_length, raised, array_define_own_property, define_by_class, is_refused, define_own_property, ordinary_delete, delete_own_property, prevent_extensions, fixed_property, all_fixed, fixed_class, freeze, set_prototype_of, same_prototype, on_chain, longest, Method, DefineOwnProperty, Delete, PreventExtensions, SetPrototypeOf, Freeze, apply_method}

abbrev Written : (ObjectRecord → Type 0) → Outcome → Type 0
Written P out = IfSome out.written P

cond_written : (P : ObjectRecord → Type 0) (b : Bool) (x y : Outcome) → Written P x → Written P y → Written P (cond b x y)
cond_written P true x y p q = p
cond_written P false x y p q = q

-- a define writes one property
validated : (P : ObjectRecord → Type 0) (o : ObjectRecord) (key : Key) (d : PropertyDescriptor) (current : Option Property) → ((p : Property) → P (with_property o key p)) → Written P (validate_and_apply_property_descriptor o key d current)
unfolding validate_and_apply_property_descriptor
validated P o key d None h = cond_written P o.extensible (wrote (with_property o key (new_property d))) refused (h (new_property d)) tt
validated P o key d (Some current) h =
    cond_written P (has_fields d) (cond (not current.configurable && forbidden current d) refused (wrote (with_property o key (applied current d)))) unchanged
    (cond_written P (not current.configurable && forbidden current d) refused (wrote (with_property o key (applied current d))) tt (h (applied current d))) tt

-- ---- by class: an object of these parts

abbrev of_parts : Class → Option ℕ → Bool → List (ℕ × Property) → List (Text × Property) → ObjectRecord
of_parts c prototype extensible indexed named = record { class = c; prototype = prototype; extensible = extensible; indexed = indexed; named = named }

module _ (prototype : Option ℕ) (extensible : Bool) (is : List (ℕ × Property)) (ns : List (Text × Property)) where
  abbrev this : Class → ObjectRecord
  this c = of_parts c prototype extensible is ns

  -- a new index, with the length that it raises
  raised_orderly : (c : Class) (i : ℕ) (p : Property) → i < 4294967295 → IsOrderly (this c) → IsOrderly (raised i c (with_property (this c) (Index i) p))
  unfolding with_property
  raised_orderly (Array n w) i p l h = by_test (nat_lt i n) refl
    where
      by_test : (b : Bool) → nat_lt i n ≡ b → IsOrderly (cond b (of_parts (Array n w) prototype extensible (put_index i p is) ns) (of_parts (Array (suc i) w) prototype extensible (put_index i p is) ns))
      by_test true e = record {
        indices = put_index_ascending i p is h.indices;
        range = put_index_below 4294967295 i p is l h.range;
        length = (h.length.0, put_index_below n i p is (grind (arith, nat_tests)) h.length.1);
        distinct = h.distinct;
        names = h.names;
        no_length = h.no_length;
      }
      by_test false e =
          let past : n ≤ i = grind (arith, nat_tests) in
          record {
            indices = put_index_ascending i p is h.indices;
            range = put_index_below 4294967295 i p is l h.range;
            length = (omega arith, put_index_below (suc i) i p is (omega arith) (all_below_more n (suc i) is (omega arith) h.length.1));
            distinct = h.distinct;
            names = h.names;
            no_length = h.no_length;
          }
  raised_orderly c i p l h = record {
    indices = put_index_ascending i p is h.indices;
    range = put_index_below 4294967295 i p is l h.range;
    length = tt;
    distinct = h.distinct;
    names = h.names;
    no_length = tt;
  }

  -- a string that is no array's `length`
  named_orderly : (c : Class) (t : Text) (p : Property) → IsName t → is_length_of c t ≡ false → IsOrderly (this c) → IsOrderly (of_parts c prototype extensible is (put_name t p ns))
  named_orderly (Array n w) t p k e h = record {
    indices = h.indices;
    range = h.range;
    length = h.length;
    distinct = put_name_distinct t p ns h.distinct;
    names = put_name_names t p ns k h.names;
    no_length = found-put_name length_name t p ns ∙ ap (λ b. cond b (Some p) (found (same_text length_name) ns)) (same_text_sym length_name t ∙ e) ∙ h.no_length;
  }
  named_orderly c t p k e h = record {
    indices = h.indices;
    range = h.range;
    length = tt;
    distinct = put_name_distinct t p ns h.distinct;
    names = put_name_names t p ns k h.names;
    no_length = tt;
  }

  string_orderly : (c : Class) (t : Text) (p : Property) → IsName t → is_length_of c t ≡ false → IsOrderly (this c) → IsOrderly (with_string (this c) t p)
  string_orderly c t p k e h =
      subst (λ b. IsOrderly (cond b (with_length (this c) p.content) (of_parts c prototype extensible is (put_name t p ns)))) (sym e) (named_orderly c t p k e h)

  -- ---- an array's `length`

  -- another length that all indices are below
  length_orderly : (n m : ℕ) (w v : Bool) → m < 4294967296 → AllBelow m is → IsOrderly (this (Array n w)) → IsOrderly (this (Array m v))
  length_orderly n m w v l b h = record {
    indices = h.indices;
    range = h.range;
    length = (l, b);
    distinct = h.distinct;
    names = h.names;
    no_length = h.no_length;
  }

  -- a value for `length` that is no lower one
  abbrev NoLower : ℕ → Option Value → Type 0
  NoLower n None = Unit {0}
  NoLower n (Some v) = (m : ℕ) × (v ≡ Number (pos m)) × (n ≤ m) × (m < 4294967296)

  any_of : (x y z a g : Bool) → a ≡ true → (((x || y) || (not (not a && not g) && not (same_bool a false))) || z) ≡ true
  any_of true y z a g e = refl
  any_of false true z a g e = refl
  any_of false false z true g e = refl
  any_of false false z false g e = absurd (cc)

  -- `length` takes no accessor
  accessor_forbidden : (n : ℕ) (w : Bool) (d : PropertyDescriptor) → is_accessor_descriptor d ≡ true → forbidden (length_property n w) d ≡ true
  accessor_forbidden n w d e =
      any_of (differs d.configurable false) (differs d.enumerable false) (forbidden_content (Data (Number (pos n)) w) d) (is_accessor_descriptor d) (is_data_descriptor d) e

  length_written : (n : ℕ) (w : Bool) (d : PropertyDescriptor) (value : Option Value) → NoLower n value → IsOrderly (this (Array n w)) → IsOrderly (with_length (this (Array n w)) (Data (unwrap_or value (Number (pos n))) (unwrap_or d.writable w)))
  length_written n w d None l h = length_orderly n n w (unwrap_or d.writable w) h.length.0 h.length.1 h
  length_written n w d (Some v) l h =
      subst (λ v. IsOrderly (with_length (this (Array n w)) (Data v (unwrap_or d.writable w)))) (sym l.1)
      (length_orderly n l.0 w (unwrap_or d.writable w) l.3 (all_below_more n l.0 is l.2 h.length.1) h)

  length_defined : (n : ℕ) (w : Bool) (d : PropertyDescriptor) → NoLower n d.value → IsOrderly (this (Array n w)) → Written IsOrderly (ordinary_define_own_property (this (Array n w)) (Named length_name) d)
  unfolding validate_and_apply_property_descriptor own_property with_property
  length_defined n w d l h = cond_written IsOrderly (has_fields d) (cond (forbidden (length_property n w) d) refused (wrote (after (is_accessor_descriptor d)))) unchanged (by_kind (is_accessor_descriptor d) refl) tt
    where
      after : Bool → ObjectRecord
      after b = with_length (this (Array n w)) (cond b (new_content d) (Data (unwrap_or d.value (Number (pos n))) (unwrap_or d.writable w)))

      by_kind : (b : Bool) → is_accessor_descriptor d ≡ b → Written IsOrderly (cond (forbidden (length_property n w) d) refused (wrote (after b)))
      by_kind true e = subst (λ f. Written IsOrderly (cond f refused (wrote (after true)))) (sym (accessor_forbidden n w d e)) tt
      by_kind false e = cond_written IsOrderly (forbidden (length_property n w) d) refused (wrote (after false)) tt (length_written n w d d.value l h)

  -- ---- lowering it

  elements_above : (n j : ℕ) (es : List (ℕ × Property)) → AllAbove j es → AllAbove j (elements_below n es)
  elements_above n j [] a = tt
  elements_above n j (e ∷ es) a = by_test (nat_lt e.0 n) (elements_above n j es a.1)
    where
      by_test : (b : Bool) → AllAbove j (elements_below n es) → AllAbove j (cond b (e ∷ elements_below n es) (elements_below n es))
      by_test true rest = (a.0, rest)
      by_test false rest = rest

  elements_ascending : (n : ℕ) (es : List (ℕ × Property)) → Ascending es → Ascending (elements_below n es)
  elements_ascending n [] a = tt
  elements_ascending n (e ∷ es) a = by_test (nat_lt e.0 n) (elements_ascending n es a.1)
    where
      by_test : (b : Bool) → Ascending (elements_below n es) → Ascending (cond b (e ∷ elements_below n es) (elements_below n es))
      by_test true rest = (elements_above n e.0 es a.0, rest)
      by_test false rest = rest

  elements_range : (n m : ℕ) (es : List (ℕ × Property)) → AllBelow m es → AllBelow m (elements_below n es)
  elements_range n m [] a = tt
  elements_range n m (e ∷ es) a = by_test (nat_lt e.0 n) (elements_range n m es a.1)
    where
      by_test : (b : Bool) → AllBelow m (elements_below n es) → AllBelow m (cond b (e ∷ elements_below n es) (elements_below n es))
      by_test true rest = (a.0, rest)
      by_test false rest = rest

  elements_all_below : (n : ℕ) (es : List (ℕ × Property)) → AllBelow n (elements_below n es)
  elements_all_below n [] = tt
  elements_all_below n (e ∷ es) = by_test (nat_lt e.0 n) refl (elements_all_below n es)
    where
      by_test : (b : Bool) → nat_lt e.0 n ≡ b → AllBelow n (elements_below n es) → AllBelow n (cond b (e ∷ elements_below n es) (elements_below n es))
      by_test true q rest = (grind (arith, nat_tests), rest)
      by_test false q rest = rest

  lowest_fits : (new : ℕ) (es : List (ℕ × Property)) → new < 4294967296 → AllBelow 4294967295 es → lowest_length new es < 4294967296
  lowest_fits new [] l a = l
  lowest_fits new (e ∷ es) l a = lowest_fits (cond (not e.1.configurable && nat_le new e.0) (suc e.0) new) es (by_test (not e.1.configurable && nat_le new e.0)) a.1
    where
      by_test : (b : Bool) → cond b (suc e.0) new < 4294967296
      by_test true = omega (arith, a.0)
      by_test false = l

  reached_orderly : (n reached : ℕ) (w v : Bool) → reached < 4294967296 → IsOrderly (this (Array n w)) → IsOrderly (of_parts (Array reached v) prototype extensible (elements_below reached is) ns)
  reached_orderly n reached w v l h = record {
    indices = elements_ascending reached is h.indices;
    range = elements_range reached 4294967295 is h.range;
    length = (l, elements_all_below reached is);
    distinct = h.distinct;
    names = h.names;
    no_length = h.no_length;
  }

  lowered_orderly : (n new reached : ℕ) (w v : Bool) → reached < 4294967296 → IsOrderly (this (Array n w)) → Written IsOrderly (lowered (this (Array n w)) n new reached v)
  lowered_orderly n new reached w v l h = by_test (reached == n && v)
    where
      by_test : (b : Bool) → IfSome (cond b None (Some (of_parts (Array reached v) prototype extensible (elements_below reached is) ns))) IsOrderly
      by_test true = tt
      by_test false = reached_orderly n reached w v l h

  set_length_orderly : (n new : ℕ) (w : Bool) (d : PropertyDescriptor) → d.value ≡ Some (Number (pos new)) → new < 4294967296 → IsOrderly (this (Array n w)) → Written IsOrderly (set_length_to (this (Array n w)) n w d new)
  set_length_orderly n new w d e l h = by_order (nat_le n new) refl
    where
      lower : Outcome
      lower = cond (w && (ordinary_define_own_property (this (Array n w)) (Named length_name) d).answer) (lowered (this (Array n w)) n new (lowest_length new is) (unwrap_or d.writable true)) refused

      by_order : (b : Bool) → nat_le n new ≡ b → Written IsOrderly (cond b (ordinary_define_own_property (this (Array n w)) (Named length_name) d) lower)
      by_order true q = length_defined n w d (subst (λ o. NoLower n o) (sym e) (new, refl, grind (arith, nat_tests), l)) h
      by_order false q = cond_written IsOrderly (w && (ordinary_define_own_property (this (Array n w)) (Named length_name) d).answer) (lowered (this (Array n w)) n new (lowest_length new is) (unwrap_or d.writable true)) refused (lowered_orderly n new (lowest_length new is) w (unwrap_or d.writable true) (lowest_fits new is l h.range) h) tt

  -- ---- [[DefineOwnProperty]]

  length_set_orderly : (n : ℕ) (w : Bool) (d : PropertyDescriptor) (o : Option Value) → d.value ≡ o → IsOrderly (this (Array n w)) → Written IsOrderly (length_set_by (this (Array n w)) n w d o)
  length_set_orderly n w d None e h = length_defined n w d (subst (λ o. NoLower n o) (sym e) tt) h
  length_set_orderly n w d (Some (Number (pos m))) e h = by_test (nat_lt m 4294967296) refl
    where
      by_test : (b : Bool) → nat_lt m 4294967296 ≡ b → Written IsOrderly (option_map_or (set_length_to (this (Array n w)) n w d) (cond b (Some m) None) refused)
      by_test true q = set_length_orderly n m w d e (grind (arith, nat_tests)) h
      by_test false q = tt
  length_set_orderly n w d (Some (Number (negsuc m))) e h = tt
  length_set_orderly n w d (Some Undefined) e h = tt
  length_set_orderly n w d (Some Null) e h = tt
  length_set_orderly n w d (Some (Boolean b)) e h = tt
  length_set_orderly n w d (Some (String t)) e h = tt
  length_set_orderly n w d (Some (Object k)) e h = tt

  mapped : (f : ObjectRecord → ObjectRecord) (o : Option ObjectRecord) → IfSome o (λ x. IsOrderly (f x)) → IfSome (option_map f o) IsOrderly
  mapped f None h = tt
  mapped f (Some x) h = h

  index_orderly : (c : Class) (i : ℕ) (d : PropertyDescriptor) → i < 4294967295 → IsOrderly (this c) → IfSome (option_map (raised i c) (ordinary_define_own_property (this c) (Index i) d).written) IsOrderly
  index_orderly c i d l h =
      mapped (raised i c) (ordinary_define_own_property (this c) (Index i) d).written
      (validated (λ o. IsOrderly (raised i c o)) (this c) (Index i) d (own_property (this c) (Index i)) (λ p. raised_orderly c i p l h))

  name_defined : (c : Class) (t : Text) (d : PropertyDescriptor) → IsName t → is_length_of c t ≡ false → IsOrderly (this c) → Written IsOrderly (ordinary_define_own_property (this c) (Named t) d)
  unfolding with_property
  name_defined c t d k e h = validated IsOrderly (this c) (Named t) d (own_property (this c) (Named t)) (λ p. string_orderly c t p k e h)

  numeral_defined : (c : Class) (z : ℤ) (d : PropertyDescriptor) → IsName (text_of_number z) → is_length_of c (text_of_number z) ≡ false → IsOrderly (this c) → Written IsOrderly (ordinary_define_own_property (this c) (Numeral z) d)
  unfolding with_property
  numeral_defined c z d k e h = validated IsOrderly (this c) (Numeral z) d (own_property (this c) (Numeral z)) (λ p. string_orderly c (text_of_number z) p k e h)

  array_orderly : (n : ℕ) (w : Bool) (key : Key) (d : PropertyDescriptor) → IsKey key → IsOrderly (this (Array n w)) → Written IsOrderly (array_define_own_property (this (Array n w)) n w key d)
  array_orderly n w (Index i) d k h = by_test (nat_le n i && not w)
    where
      by_test : (b : Bool) → Written IsOrderly (cond b refused (record { answer = (ordinary_define_own_property (this (Array n w)) (Index i) d).answer; written = option_map (raised i (Array n w)) (ordinary_define_own_property (this (Array n w)) (Index i) d).written }))
      by_test true = tt
      by_test false = index_orderly (Array n w) i d k h
  array_orderly n w (Named t) d k h = by_test (same_text t length_name) refl
    where
      by_test : (b : Bool) → same_text t length_name ≡ b → Written IsOrderly (cond b (array_set_length (this (Array n w)) n w d) (ordinary_define_own_property (this (Array n w)) (Named t) d))
      by_test true e = length_set_orderly n w d d.value refl h
      by_test false e = name_defined (Array n w) t d k e h
  array_orderly n w (Numeral z) d k h = by_test (same_text (text_of_number z) length_name) refl
    where
      by_test : (b : Bool) → same_text (text_of_number z) length_name ≡ b → Written IsOrderly (cond b (array_set_length (this (Array n w)) n w d) (ordinary_define_own_property (this (Array n w)) (Numeral z) d))
      by_test true e = length_set_orderly n w d d.value refl h
      by_test false e = numeral_defined (Array n w) z d k e h

  other_orderly : (c : Class) (key : Key) (d : PropertyDescriptor) → ((i : ℕ) (o : ObjectRecord) → raised i c o ≡ o) → ((t : Text) → is_length_of c t ≡ false) → IsKey key → IsOrderly (this c) → Written IsOrderly (ordinary_define_own_property (this c) key d)
  other_orderly c (Index i) d flat named k h = validated IsOrderly (this c) (Index i) d (own_property (this c) (Index i)) (λ p. subst IsOrderly (flat i (with_property (this c) (Index i) p)) (raised_orderly c i p k h))
  other_orderly c (Named t) d flat named k h = name_defined c t d k (named t) h
  other_orderly c (Numeral z) d flat named k h = numeral_defined c z d k (named (text_of_number z)) h

  class_orderly : (c : Class) (key : Key) (d : PropertyDescriptor) → IsKey key → IsOrderly (this c) → Written IsOrderly (define_by_class c (this c) key d)
  class_orderly (Array n w) key d k h = array_orderly n w key d k h
  class_orderly c key d k h = other_orderly c key d (λ i o. refl) (λ t. refl) k h

  -- ---- freezing

  fixed_above : (j : ℕ) (es : List (ℕ × Property)) → AllAbove j es → AllAbove j (all_fixed es)
  fixed_above j [] a = tt
  fixed_above j (e ∷ es) a = (a.0, fixed_above j es a.1)

  fixed_below : (n : ℕ) (es : List (ℕ × Property)) → AllBelow n es → AllBelow n (all_fixed es)
  fixed_below n [] a = tt
  fixed_below n (e ∷ es) a = (a.0, fixed_below n es a.1)

  fixed_ascending : (es : List (ℕ × Property)) → Ascending es → Ascending (all_fixed es)
  fixed_ascending [] a = tt
  fixed_ascending (e ∷ es) a = (fixed_above e.0 es a.0, fixed_ascending es a.1)

  fixed_none : (k : Text) (es : List (Text × Property)) → found (same_text k) es ≡ None → found (same_text k) (all_fixed es) ≡ None
  fixed_none k [] n = refl
  fixed_none k (e ∷ es) n = by_test (same_text k e.0) n (fixed_none k es)
    where
      by_test : (b : Bool) → cond b (Some e.1) (found (same_text k) es) ≡ None → (found (same_text k) es ≡ None → found (same_text k) (all_fixed es) ≡ None) → cond b (Some (fixed_property e.1)) (found (same_text k) (all_fixed es)) ≡ None
      by_test true m rest = absurd (cc)
      by_test false m rest = rest m

  fixed_distinct : (es : List (Text × Property)) → Distinct es → Distinct (all_fixed es)
  fixed_distinct [] d = tt
  fixed_distinct (e ∷ es) d = (fixed_none e.0 es d.0, fixed_distinct es d.1)

  fixed_names : (es : List (Text × Property)) → AreNames es → AreNames (all_fixed es)
  fixed_names [] d = tt
  fixed_names (e ∷ es) d = (d.0, fixed_names es d.1)

  frozen_orderly : (c : Class) → IsOrderly (this c) → IsOrderly (of_parts (fixed_class c) prototype false (all_fixed is) (all_fixed ns))
  frozen_orderly (Array n w) h = record {
    indices = fixed_ascending is h.indices;
    range = fixed_below 4294967295 is h.range;
    length = (h.length.0, fixed_below n is h.length.1);
    distinct = fixed_distinct ns h.distinct;
    names = fixed_names ns h.names;
    no_length = fixed_none length_name ns h.no_length;
  }
  frozen_orderly c h = record {
    indices = fixed_ascending is h.indices;
    range = fixed_below 4294967295 is h.range;
    length = tt;
    distinct = fixed_distinct ns h.distinct;
    names = fixed_names ns h.names;
    no_length = tt;
  }

  -- ---- [[Delete]]

  unindexed_orderly : (c : Class) (test : ℕ → Bool) → IsOrderly (this c) → IsOrderly (of_parts c prototype extensible (removed test is) ns)
  unindexed_orderly (Array n w) test h = record {
    indices = removed_ascending test is h.indices;
    range = removed_below 4294967295 test is h.range;
    length = (h.length.0, removed_below n test is h.length.1);
    distinct = h.distinct;
    names = h.names;
    no_length = h.no_length;
  }
  unindexed_orderly c test h = record {
    indices = removed_ascending test is h.indices;
    range = removed_below 4294967295 test is h.range;
    length = tt;
    distinct = h.distinct;
    names = h.names;
    no_length = tt;
  }

  unnamed_orderly : (c : Class) (test : Text → Bool) → IsOrderly (this c) → IsOrderly (of_parts c prototype extensible is (removed test ns))
  unnamed_orderly (Array n w) test h = record {
    indices = h.indices;
    range = h.range;
    length = h.length;
    distinct = removed_distinct test ns h.distinct;
    names = removed_names test ns h.names;
    no_length = removed_none length_name test ns h.no_length;
  }
  unnamed_orderly c test h = record {
    indices = h.indices;
    range = h.range;
    length = tt;
    distinct = removed_distinct test ns h.distinct;
    names = removed_names test ns h.names;
    no_length = tt;
  }

  without_orderly : (c : Class) (key : Key) → IsOrderly (this c) → IsOrderly (without_property (this c) key)
  unfolding without_property
  without_orderly c (Index i) h = unindexed_orderly c (nat_eq i) h
  without_orderly c (Named t) h = unnamed_orderly c (same_text t) h
  without_orderly c (Numeral z) h = unnamed_orderly c (same_text (text_of_number z)) h

-- an object keeps its order where its class and its properties stay
parts_orderly : (o : ObjectRecord) (prototype : Option ℕ) (extensible : Bool) → IsOrderly o → IsOrderly (of_parts o.class prototype extensible o.indexed o.named)
parts_orderly o prototype extensible h = record {
  indices = h.indices;
  range = h.range;
  length = h.length;
  distinct = h.distinct;
  names = h.names;
  no_length = h.no_length;
}

define_orderly : (o : ObjectRecord) (key : Key) (d : PropertyDescriptor) → IsKey key → IsOrderly o → Written IsOrderly (define_own_property o key d)
unfolding define_own_property
define_orderly o key d k h =
    cond_written IsOrderly (is_refused key d) refused (define_by_class o.class o key d) tt
    (class_orderly o.prototype o.extensible o.indexed o.named o.class key d k h)

delete_orderly : (o : ObjectRecord) (key : Key) (p : Option Property) → IsOrderly o → Written IsOrderly (ordinary_delete o key p)
delete_orderly o key None h = tt
delete_orderly o key (Some p) h =
    cond_written IsOrderly p.configurable (wrote (without_property o key)) refused (without_orderly o.prototype o.extensible o.indexed o.named o.class key h) tt

prototype_orderly : (s : Store) (n : ℕ) (v : Option ℕ) (o : ObjectRecord) → IsOrderly o → Written IsOrderly (set_prototype_of s n v o)
unfolding set_prototype_of
prototype_orderly s n v o h =
    cond_written IsOrderly (same_prototype v o.prototype) unchanged (cond (not o.extensible || on_chain longest s n v) refused (wrote (record o { prototype = v }))) tt
    (cond_written IsOrderly (not o.extensible || on_chain longest s n v) refused (wrote (record o { prototype = v })) tt (parts_orderly o v o.extensible h))

-- the key of a define is a key
abbrev pub HasKey : Method → Type 0
HasKey (DefineOwnProperty key d) = IsKey key
HasKey _ = Unit {0}

pub method_orderly : (m : Method) (s : Store) (n : ℕ) (o : ObjectRecord) → HasKey m → IsOrderly o → IfSome (apply_method m s n o).written IsOrderly
unfolding apply_method delete_own_property prevent_extensions freeze
method_orderly (DefineOwnProperty key d) s n o k h = define_orderly o key d k h
method_orderly (Delete key) s n o k h = delete_orderly o key (own_property o key) h
method_orderly PreventExtensions s n o k h = parts_orderly o o.prototype false h
method_orderly (SetPrototypeOf v) s n o k h = prototype_orderly s n v o h
method_orderly Freeze s n o k h = frozen_orderly o.prototype o.extensible o.indexed o.named o.class h

-- another value for a property that the object has: no `length` of an array
pub with_property_orderly : (o : ObjectRecord) (t : Text) (p : Property) → IsName t → is_length_of o.class t ≡ false → IsOrderly o → IsOrderly (with_property o (Named t) p)
unfolding with_property
with_property_orderly o t p k e h = string_orderly o.prototype o.extensible o.indexed o.named o.class t p k e h

-- ---- own keys are distinct

pub strings_distinct : (o : ObjectRecord) → IsOrderly o → Distinct (strings o)
strings_distinct o h = by_class o.class h.no_length
  where
    by_class : (c : Class) → NoLength c o.named → Distinct (length_entry c ++ o.named)
    by_class (Array n w) l = (l, h.distinct)
    by_class c l = h.distinct
