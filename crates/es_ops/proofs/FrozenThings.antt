-- Whatever a frozen object accepts leaves it as it is: it never needs a write.
use Rattle.std.proofs.Common.{◌≡◌, ℕ, suc, ◌<◌, Bool, true, false, cond, not, ◌&&◌, ◌||◌, List, [], ◌∷◌, ◌++◌, nat_lt, nat_le, nat_eq, ◌==◌, arith, refl, sym, ap, ◌∙◌, subst, Option, Some, None, IfSome, option_map, unwrap_or, int_eq, inl, inr, ◌⊎◌, ap₂}
use Rattle.std.specs.Option.{option_map_or}
use Rattle.std.proofs.lemmas.Bool.Decides.{nat_tests, Decides-int_eq}
use Rattle.js_value.specs.NumberText.{text_of_number}
use Rattle.js_value.specs.Value.{Value, Undefined, Null, Boolean, Number, String, Object, Text, same_text, Key, Index, Named, Numeral, is_index}
use Rattle.js_value.specs.Store.{Store, Property, Content, Data, Accessor, Class, Array, ObjectRecord, own_property, with_property, without_property, with_string, with_length, is_length_of, put_name, put_index, found, length_name, length_property, length_entry, strings, is_frozen, are_fixed, is_fixed, is_fixed_content}
use Rattle.js_value.specs.Order.{IsOrderly, Ascending, AllAbove, AllBelow, FitsLength}
use Rattle.js_value.proofs.Entries.{same_text_is}
use Rattle.es_ops.specs.Equality.{same_value, same_bool}
use Rattle.es_ops.specs.InternalMethods.{PropertyDescriptor, Outcome, refused, unchanged, wrote, differs, differs_value, is_accessor, forbidden_content, forbidden, new_property, new_content, applied, applied_content, has_fields, is_accessor_descriptor, is_data_descriptor, is_generic_descriptor, validate_and_apply_property_descriptor, ordinary_define_own_property, length_of_value, lowest_length, lowered, set_length_to, length_set_by, array_set_length, raised, array_define_own_property, define_by_class, is_refused, define_own_property, ordinary_delete, delete_own_property, prevent_extensions, fixed_content, all_fixed, fixed_class, freeze, set_prototype_of, same_prototype, on_chain, longest, Method, DefineOwnProperty, Delete, PreventExtensions, SetPrototypeOf, Freeze, apply_method}

-- ---- tests

both_true : (a b : Bool) → (a && b) ≡ true → (a ≡ true) × (b ≡ true)
both_true true b e = (refl, e)
both_true false b e = absurd (cc)

both_false : (a b : Bool) → (a || b) ≡ false → (a ≡ false) × (b ≡ false)
both_false false b e = (refl, e)
both_false true b e = absurd (cc)

not_true : (a : Bool) → not a ≡ true → a ≡ false
not_true false e = refl
not_true true e = absurd (cc)

same_bool_is : (a b : Bool) → not (same_bool a b) ≡ false → a ≡ b
same_bool_is true true e = refl
same_bool_is false false e = refl
same_bool_is true false e = absurd (cc)
same_bool_is false true e = absurd (cc)

not_false : (a : Bool) → not a ≡ false → a ≡ true
not_false true e = refl
not_false false e = absurd (cc)

equal : (i j : ℕ) → (i == j) ≡ true → i ≡ j
equal i j e = grind (arith, nat_tests)

no_difference : (o : Option Bool) (b : Bool) → differs o b ≡ false → unwrap_or o b ≡ b
no_difference None b e = refl
no_difference (Some a) b e = same_bool_is a b e

same_value_is : (x y : Value) → not (same_value x y) ≡ false → x ≡ y
same_value_is Undefined Undefined e = refl
same_value_is Null Null e = refl
same_value_is (Boolean a) (Boolean b) e = ap Boolean (same_bool_is a b e)
same_value_is (Number a) (Number b) e = ap Number ((Decides-int_eq a b).0 (not_false (int_eq a b) e))
same_value_is (String a) (String b) e = ap String (same_text_is a b (not_false (same_text a b) e))
same_value_is (Object a) (Object b) e = ap Object (equal a b (not_false (a == b) e))
same_value_is Undefined _ e = absurd (cc)
same_value_is Null _ e = absurd (cc)
same_value_is (Boolean a) _ e = absurd (cc)
same_value_is (Number a) _ e = absurd (cc)
same_value_is (String a) _ e = absurd (cc)
same_value_is (Object a) _ e = absurd (cc)

no_other_value : (o : Option Value) (v : Value) → differs_value o v ≡ false → unwrap_or o v ≡ v
no_other_value None v e = refl
no_other_value (Some w) v e = same_value_is w v e

-- ---- a property that is fixed and takes a descriptor is as it was

-- a descriptor of one kind alone, which is generic or of the property's kind
same_kind : (accessor plain is_accessor : Bool) → (accessor && plain) ≡ false → (not (not accessor && not plain) && not (same_bool accessor is_accessor)) ≡ false → (accessor ≡ is_accessor) ⊎ ((accessor ≡ false) × (plain ≡ false))
same_kind true true k m e = absurd (cc)
same_kind true false true m e = inl refl
same_kind true false false m e = absurd (cc)
same_kind false true true m e = absurd (cc)
same_kind false true false m e = inl refl
same_kind false false k m e = inr (refl, refl)

content_same : (c : Content) (d : PropertyDescriptor) → is_fixed_content c ≡ true → (is_accessor_descriptor d && is_data_descriptor d) ≡ false
    → (not (is_generic_descriptor d) && not (same_bool (is_accessor_descriptor d) (is_accessor c))) ≡ false → forbidden_content c d ≡ false → applied_content c d ≡ c
content_same (Data v true) d f m k e = absurd (cc)
content_same (Data v false) d f m k e =
    let parts : (differs d.writable false ≡ false) × (differs_value d.value v ≡ false) = both_false (differs d.writable false) (differs_value d.value v) e in
    by_kind (same_kind (is_accessor_descriptor d) (is_data_descriptor d) false m k)
    (ap₂ Data (no_other_value d.value v parts.1) (no_difference d.writable false parts.0))
  where
    new : Content
    new = Data (unwrap_or d.value v) (unwrap_or d.writable false)

    by_kind : ((is_accessor_descriptor d ≡ false) ⊎ ((is_accessor_descriptor d ≡ false) × (is_data_descriptor d ≡ false))) → Data (unwrap_or d.value v) (unwrap_or d.writable false) ≡ Data v false → cond (is_accessor_descriptor d) (new_content d) (Data (unwrap_or d.value v) (unwrap_or d.writable false)) ≡ Data v false
    by_kind (inl a) same = ap (λ b. cond b (new_content d) (Data (unwrap_or d.value v) (unwrap_or d.writable false))) a ∙ same
    by_kind (inr a) same = ap (λ b. cond b (new_content d) (Data (unwrap_or d.value v) (unwrap_or d.writable false))) a.0 ∙ same
content_same (Accessor g s) d f m k e =
    let parts : (differs_value d.get g ≡ false) × (differs_value d.set s ≡ false) = both_false (differs_value d.get g) (differs_value d.set s) e in
    by_kind (same_kind (is_accessor_descriptor d) (is_data_descriptor d) true m k)
    (ap₂ Accessor (no_other_value d.get g parts.0) (no_other_value d.set s parts.1))
  where
    no_data : is_accessor_descriptor d ≡ true → is_data_descriptor d ≡ false
    no_data a = ap (λ b. b && is_data_descriptor d) (sym a) ∙ m

    by_kind : ((is_accessor_descriptor d ≡ true) ⊎ ((is_accessor_descriptor d ≡ false) × (is_data_descriptor d ≡ false))) → Accessor (unwrap_or d.get g) (unwrap_or d.set s) ≡ Accessor g s → cond (is_data_descriptor d) (new_content d) (Accessor (unwrap_or d.get g) (unwrap_or d.set s)) ≡ Accessor g s
    by_kind (inl a) same = ap (λ b. cond b (new_content d) (Accessor (unwrap_or d.get g) (unwrap_or d.set s))) (no_data a) ∙ same
    by_kind (inr a) same = ap (λ b. cond b (new_content d) (Accessor (unwrap_or d.get g) (unwrap_or d.set s))) a.1 ∙ same

applied_same : (p : Property) (d : PropertyDescriptor) → is_fixed p ≡ true → (is_accessor_descriptor d && is_data_descriptor d) ≡ false → forbidden p d ≡ false → applied p d ≡ p
applied_same p d f m e =
    let fixed : (not p.configurable ≡ true) × (is_fixed_content p.content ≡ true) = both_true (not p.configurable) (is_fixed_content p.content) f in
    let kind : Bool = not (is_generic_descriptor d) && not (same_bool (is_accessor_descriptor d) (is_accessor p.content)) in
    let first = both_false ((differs d.configurable false || differs d.enumerable p.enumerable) || kind) (forbidden_content p.content d) e in
    let second = both_false (differs d.configurable false || differs d.enumerable p.enumerable) kind first.0 in
    let third = both_false (differs d.configurable false) (differs d.enumerable p.enumerable) second.0 in
    let off : p.configurable ≡ false = not_true p.configurable fixed.0 in
    let content : applied_content p.content d ≡ p.content = content_same p.content d fixed.1 m second.1 first.1 in
    let enumerable : unwrap_or d.enumerable p.enumerable ≡ p.enumerable = no_difference d.enumerable p.enumerable third.1 in
    let configurable : unwrap_or d.configurable p.configurable ≡ p.configurable = ap (unwrap_or d.configurable) off ∙ no_difference d.configurable false third.0 ∙ sym off in
    λ i. record { content = content i; enumerable = enumerable i; configurable = configurable i }

-- ---- putting a property where it is

found_fixed : {K : Type 0} (is : K → Bool) (es : List (K × Property)) (p : Property) → are_fixed es ≡ true → found is es ≡ Some p → is_fixed p ≡ true
found_fixed is [] p f e = absurd (cc)
found_fixed is (x ∷ es) p f e =
    let parts : (is_fixed x.1 ≡ true) × (are_fixed es ≡ true) = both_true (is_fixed x.1) (are_fixed es) f in
    by_test (is x.0) e parts.0 (found_fixed is es p parts.1)
  where
    by_test : (b : Bool) → cond b (Some x.1) (found is es) ≡ Some p → is_fixed x.1 ≡ true → (found is es ≡ Some p → is_fixed p ≡ true) → is_fixed p ≡ true
    by_test true q f rest = let here : x.1 ≡ p = cc in ap is_fixed (sym here) ∙ f
    by_test false q f rest = rest q

name_same : (t : Text) (p : Property) (es : List (Text × Property)) → found (same_text t) es ≡ Some p → put_name t p es ≡ es
name_same t p [] e = absurd (cc)
name_same t p (x ∷ es) e = by_test (same_text t x.0) refl e (name_same t p es)
  where
    by_test : (b : Bool) → same_text t x.0 ≡ b → cond b (Some x.1) (found (same_text t) es) ≡ Some p → (found (same_text t) es ≡ Some p → put_name t p es ≡ es) → cond b ((t, p) ∷ es) (x ∷ put_name t p es) ≡ x ∷ es
    by_test true q f rest =
        let value : p ≡ x.1 = cc in
        let name : t ≡ x.0 = same_text_is t x.0 q in
        λ i. (name i, value i) ∷ es
    by_test false q f rest = ap (λ l. x ∷ l) (rest f)

not_above : (i : ℕ) (p : Property) (es : List (ℕ × Property)) → AllAbove i es → found (nat_eq i) es ≡ Some p → ⊥
not_above i p [] a e = absurd (cc)
not_above i p (x ∷ es) a e = by_test (nat_eq i x.0) refl e (not_above i p es a.1)
  where
    by_test : (b : Bool) → nat_eq i x.0 ≡ b → cond b (Some x.1) (found (nat_eq i) es) ≡ Some p → (found (nat_eq i) es ≡ Some p → ⊥) → ⊥
    by_test true q f rest = let same : i ≡ x.0 = equal i x.0 q in absurd (omega (arith, a.0))
    by_test false q f rest = rest f

index_same : (i : ℕ) (p : Property) (es : List (ℕ × Property)) → Ascending es → found (nat_eq i) es ≡ Some p → put_index i p es ≡ es
index_same i p [] a e = absurd (cc)
index_same i p (x ∷ es) a e = by_test (nat_lt i x.0) (i == x.0) refl refl e (index_same i p es a.1)
  where
    above_less : (j k : ℕ) (l : List (ℕ × Property)) → j < k → AllAbove k l → AllAbove j l
    above_less j k [] lt h = tt
    above_less j k (y ∷ l) lt h = (omega (arith, h.0), above_less j k l lt h.1)

    by_test : (b c : Bool) → nat_lt i x.0 ≡ b → (i == x.0) ≡ c → cond c (Some x.1) (found (nat_eq i) es) ≡ Some p → (found (nat_eq i) es ≡ Some p → put_index i p es ≡ es) → cond b ((i, p) ∷ x ∷ es) (cond c ((i, p) ∷ es) (x ∷ put_index i p es)) ≡ x ∷ es
    by_test true true q r f rest = absurd (grind (arith, nat_tests))
    by_test true false q r f rest = absurd (not_above i p es (above_less i x.0 es (grind (arith, nat_tests)) a.0) f)
    by_test false true q r f rest =
        let value : p ≡ x.1 = cc in
        let place : i ≡ x.0 = equal i x.0 r in
        λ k. (place k, value k) ∷ es
    by_test false false q r f rest = ap (λ l. x ∷ l) (rest f)

-- a string that an object has
string_same : (o : ObjectRecord) (t : Text) (p : Property) → found (same_text t) (strings o) ≡ Some p → with_string o t p ≡ o
string_same o t p e = by_class o.class refl e
  where
    by_class : (c : Class) → o.class ≡ c → found (same_text t) (length_entry c ++ o.named) ≡ Some p → cond (is_length_of c t) (with_length o p.content) (record o { named = put_name t p o.named }) ≡ o
    by_class (Array n w) q f = by_test (same_text t length_name) f
      where
        by_test : (b : Bool) → cond b (Some (length_property n w)) (found (same_text t) o.named) ≡ Some p → cond b (with_length o p.content) (record o { named = put_name t p o.named }) ≡ o
        by_test true g =
            let here : p ≡ length_property n w = cc in
            ap (λ (x : Property). with_length o x.content) here ∙ ap (λ c. record o { class = c }) (sym q)
        by_test false g = ap (λ l. record o { named = l }) (name_same t p o.named g)
    by_class c q f = ap (λ l. record o { named = l }) (name_same t p o.named f)

property_same : (o : ObjectRecord) (key : Key) (p : Property) → IsOrderly o → own_property o key ≡ Some p → with_property o key p ≡ o
unfolding own_property with_property
property_same o (Index i) p h e = ap (λ l. record o { indexed = l }) (index_same i p o.indexed h.indices e)
property_same o (Named t) p h e = string_same o t p e
property_same o (Numeral z) p h e = string_same o (text_of_number z) p e

-- ---- a frozen object

below_found : (i n : ℕ) (p : Property) (es : List (ℕ × Property)) → AllBelow n es → found (nat_eq i) es ≡ Some p → i < n
below_found i n p [] a e = absurd (cc)
below_found i n p (x ∷ es) a e = by_test (nat_eq i x.0) refl e (below_found i n p es a.1)
  where
    by_test : (b : Bool) → nat_eq i x.0 ≡ b → cond b (Some x.1) (found (nat_eq i) es) ≡ Some p → (found (nat_eq i) es ≡ Some p → i < n) → i < n
    by_test true q f rest = let same : i ≡ x.0 = equal i x.0 q in omega (arith, a.0)
    by_test false q f rest = rest f

fixed_append : {K : Type 0} (es fs : List (K × Property)) → are_fixed (es ++ fs) ≡ true → are_fixed fs ≡ true
fixed_append [] fs f = f
fixed_append (e ∷ es) fs f = fixed_append es fs (both_true (is_fixed e.1) (are_fixed (es ++ fs)) f).1

fixed_same : {K : Type 0} (es : List (K × Property)) → are_fixed es ≡ true → all_fixed es ≡ es
fixed_same [] f = refl
fixed_same (e ∷ es) f =
    let parts : (is_fixed e.1 ≡ true) × (are_fixed es ≡ true) = both_true (is_fixed e.1) (are_fixed es) f in
    let fixed : (not e.1.configurable ≡ true) × (is_fixed_content e.1.content ≡ true) = both_true (not e.1.configurable) (is_fixed_content e.1.content) parts.0 in
    let content : fixed_content e.1.content ≡ e.1.content = by_content e.1.content fixed.1 in
    let off : false ≡ e.1.configurable = sym (not_true e.1.configurable fixed.0) in
    ap₂ (λ p l. (e.0, p) ∷ l) (λ i. record { content = content i; enumerable = e.1.enumerable; configurable = off i }) (fixed_same es parts.1)
  where
    by_content : (c : Content) → is_fixed_content c ≡ true → fixed_content c ≡ c
    by_content (Data v w) g = ap (Data v) (sym (not_true w g))
    by_content (Accessor g s) h = refl

module _ (o : ObjectRecord) (h : IsOrderly o) (f : is_frozen o ≡ true) where
  parts : (not o.extensible && are_fixed o.indexed ≡ true) × (are_fixed (strings o) ≡ true)
  unfolding is_frozen
  parts = both_true (not o.extensible && are_fixed o.indexed) (are_fixed (strings o)) f

  shut : o.extensible ≡ false
  shut = not_true o.extensible (both_true (not o.extensible) (are_fixed o.indexed) parts.0).0

  indexed_fixed : are_fixed o.indexed ≡ true
  indexed_fixed = (both_true (not o.extensible) (are_fixed o.indexed) parts.0).1

  own_fixed : (key : Key) (p : Property) → own_property o key ≡ Some p → is_fixed p ≡ true
  unfolding own_property
  own_fixed (Index i) p e = found_fixed (nat_eq i) o.indexed p indexed_fixed e
  own_fixed (Named t) p e = found_fixed (same_text t) (strings o) p parts.1 e
  own_fixed (Numeral z) p e = found_fixed (same_text (text_of_number z)) (strings o) p parts.1 e

  -- what is written is the object itself
  abbrev Leaves : Outcome → Type 0
  Leaves out = IfSome out.written (λ x. x ≡ o)

  cond_leaves : (b : Bool) (x y : Outcome) → Leaves x → Leaves y → Leaves (cond b x y)
  cond_leaves true x y p q = p
  cond_leaves false x y p q = q

  abbrev IsOfOneKind : PropertyDescriptor → Type 0
  IsOfOneKind d = (is_accessor_descriptor d && is_data_descriptor d) ≡ false

  validated_frozen : (key : Key) (d : PropertyDescriptor) (current : Option Property) → own_property o key ≡ current → IsOfOneKind d → Leaves (validate_and_apply_property_descriptor o key d current)
  unfolding validate_and_apply_property_descriptor
  validated_frozen key d None e m = subst (λ b. Leaves (cond b (wrote (with_property o key (new_property d))) refused)) (sym shut) tt
  validated_frozen key d (Some p) e m = cond_leaves (has_fields d) (cond (not p.configurable && forbidden p d) refused (wrote (with_property o key (applied p d)))) unchanged (by_test (not p.configurable && forbidden p d) refl) tt
    where
      fixed : is_fixed p ≡ true
      fixed = own_fixed key p e

      off : p.configurable ≡ false
      off = not_true p.configurable (both_true (not p.configurable) (is_fixed_content p.content) fixed).0

      by_test : (b : Bool) → (not p.configurable && forbidden p d) ≡ b → Leaves (cond b refused (wrote (with_property o key (applied p d))))
      by_test true q = tt
      by_test false q = ap (with_property o key) (applied_same p d fixed m (ap (λ c. not c && forbidden p d) (sym off) ∙ q)) ∙ property_same o key p h e

  ordinary_frozen : (key : Key) (d : PropertyDescriptor) → IsOfOneKind d → Leaves (ordinary_define_own_property o key d)
  ordinary_frozen key d m = validated_frozen key d (own_property o key) refl m

  -- ---- arrays

  length_fixed : (n : ℕ) (w : Bool) → o.class ≡ Array n w → w ≡ false
  length_fixed n w e =
      let all : are_fixed ((length_name, length_property n w) ∷ o.named) ≡ true = ap (λ c. are_fixed (length_entry c ++ o.named)) (sym e) ∙ parts.1 in
      not_true w (both_true (is_fixed (length_property n w)) (are_fixed o.named) all).0

  set_length_frozen : (n : ℕ) (w : Bool) (d : PropertyDescriptor) (new : ℕ) → w ≡ false → IsOfOneKind d → Leaves (set_length_to o n w d new)
  set_length_frozen n w d new e m =
      cond_leaves (nat_le n new) (ordinary_define_own_property o (Named length_name) d) _ (ordinary_frozen (Named length_name) d m)
      (subst (λ b. Leaves (cond (b && (ordinary_define_own_property o (Named length_name) d).answer) (lowered o n new (lowest_length new o.indexed) (unwrap_or d.writable true)) refused)) (sym e) tt)

  length_set_frozen : (n : ℕ) (w : Bool) (d : PropertyDescriptor) (v : Option Value) → w ≡ false → IsOfOneKind d → Leaves (length_set_by o n w d v)
  length_set_frozen n w d None e m = ordinary_frozen (Named length_name) d m
  length_set_frozen n w d (Some v) e m = by_length (length_of_value v)
    where
      by_length : (k : Option ℕ) → Leaves (option_map_or (set_length_to o n w d) k refused)
      by_length None = tt
      by_length (Some k) = set_length_frozen n w d k e m

  raised_same : (i n : ℕ) (w : Bool) → i < n → raised i (Array n w) o ≡ o
  raised_same i n w l = by_test (nat_lt i n) refl
    where
      by_test : (b : Bool) → nat_lt i n ≡ b → cond b o (record o { class = Array (suc i) w }) ≡ o
      by_test true q = refl
      by_test false q = absurd (grind (arith, nat_tests))

  index_frozen : (i n : ℕ) (w : Bool) (d : PropertyDescriptor) → o.class ≡ Array n w → IsOfOneKind d → IfSome (option_map (raised i (Array n w)) (ordinary_define_own_property o (Index i) d).written) (λ x. x ≡ o)
  unfolding own_property
  index_frozen i n w d e m = by_own (found (nat_eq i) o.indexed) refl
    where
      outcome : Option Property → Outcome
      outcome current = validate_and_apply_property_descriptor o (Index i) d current

      none_written : (b : Bool) → b ≡ false → IfSome (option_map (raised i (Array n w)) (cond b (wrote (with_property o (Index i) (new_property d))) refused).written) (λ x. x ≡ o)
      none_written b q = subst (λ b. IfSome (option_map (raised i (Array n w)) (cond b (wrote (with_property o (Index i) (new_property d))) refused).written) (λ x. x ≡ o)) (sym q) tt

      below : (p : Property) → found (nat_eq i) o.indexed ≡ Some p → i < n
      below p q = below_found i n p o.indexed (subst (λ c. FitsLength c o.indexed) e h.length).1 q

      mapped : (x : Option ObjectRecord) → i < n → IfSome x (λ y. y ≡ o) → IfSome (option_map (raised i (Array n w)) x) (λ y. y ≡ o)
      mapped None l g = tt
      mapped (Some y) l g = ap (raised i (Array n w)) g ∙ raised_same i n w l

      by_own : (current : Option Property) → found (nat_eq i) o.indexed ≡ current → IfSome (option_map (raised i (Array n w)) (validate_and_apply_property_descriptor o (Index i) d current).written) (λ x. x ≡ o)
      by_own None q = unfold validate_and_apply_property_descriptor in none_written o.extensible shut
      by_own (Some p) q = mapped (validate_and_apply_property_descriptor o (Index i) d (Some p)).written (below p q) (validated_frozen (Index i) d (Some p) q m)

  array_frozen : (n : ℕ) (w : Bool) (key : Key) (d : PropertyDescriptor) → o.class ≡ Array n w → IsOfOneKind d → Leaves (array_define_own_property o n w key d)
  array_frozen n w (Index i) d e m =
      cond_leaves (nat_le n i && not w) refused _ tt (subst (λ c. IfSome (option_map (raised i c) (ordinary_define_own_property o (Index i) d).written) (λ x. x ≡ o)) (sym e) (index_frozen i n w d e m))
  array_frozen n w (Named t) d e m = cond_leaves (same_text t length_name) (array_set_length o n w d) (ordinary_define_own_property o (Named t) d) (length_set_frozen n w d d.value (length_fixed n w e) m) (ordinary_frozen (Named t) d m)
  array_frozen n w (Numeral z) d e m = cond_leaves (same_text (text_of_number z) length_name) (array_set_length o n w d) (ordinary_define_own_property o (Numeral z) d) (length_set_frozen n w d d.value (length_fixed n w e) m) (ordinary_frozen (Numeral z) d m)

  class_frozen : (c : Class) (key : Key) (d : PropertyDescriptor) → o.class ≡ c → IsOfOneKind d → Leaves (define_by_class c o key d)
  class_frozen (Array n w) key d e m = array_frozen n w key d e m
  class_frozen c key d e m = ordinary_frozen key d m

  -- ---- the methods

  one_kind : (a b c : Bool) → (a && (b || c)) ≡ false → (a && c) ≡ false
  one_kind true true c q = absurd (cc)
  one_kind true false c q = q
  one_kind false b c q = refl

  define_frozen : (key : Key) (d : PropertyDescriptor) → Leaves (define_own_property o key d)
  unfolding define_own_property
  define_frozen key d = by_test (is_refused key d) refl
    where
      by_test : (b : Bool) → is_refused key d ≡ b → Leaves (cond b refused (define_by_class o.class o key d))
      by_test true q = tt
      by_test false q = class_frozen o.class key d refl (one_kind (is_accessor_descriptor d) (is_index key) (is_data_descriptor d) q)

  delete_frozen : (key : Key) (p : Option Property) → own_property o key ≡ p → Leaves (ordinary_delete o key p)
  delete_frozen key None e = tt
  delete_frozen key (Some p) e =
      let off : p.configurable ≡ false = not_true p.configurable (both_true (not p.configurable) (is_fixed_content p.content) (own_fixed key p e)).0 in
      subst (λ b. Leaves (cond b (wrote (without_property o key)) refused)) (sym off) tt

  class_same : (c : Class) → o.class ≡ c → fixed_class c ≡ c
  class_same (Array n w) e = ap (Array n) (sym (length_fixed n w e))
  class_same c e = refl

  pub frozen_stays : (m : Method) (s : Store) (n : ℕ) → IfSome (apply_method m s n o).written (λ x. x ≡ o)
  unfolding apply_method delete_own_property prevent_extensions set_prototype_of freeze
  frozen_stays (DefineOwnProperty key d) s n = define_frozen key d
  frozen_stays (Delete key) s n = delete_frozen key (own_property o key) refl
  frozen_stays PreventExtensions s n = ap (λ b. record o { extensible = b }) (sym shut)
  frozen_stays (SetPrototypeOf v) s n =
      cond_leaves (same_prototype v o.prototype) unchanged _ tt
      (subst (λ b. Leaves (cond (not b || on_chain longest s n v) refused (wrote (record o { prototype = v })))) (sym shut) tt)
  frozen_stays Freeze s n =
      let class : fixed_class o.class ≡ o.class = class_same o.class refl in
      let open_ : false ≡ o.extensible = sym shut in
      let indexed : all_fixed o.indexed ≡ o.indexed = fixed_same o.indexed indexed_fixed in
      let named : all_fixed o.named ≡ o.named = fixed_same o.named (fixed_append (length_entry o.class) o.named parts.1) in
      λ i. record { class = class i; prototype = o.prototype; extensible = open_ i; indexed = indexed i; named = named i }
