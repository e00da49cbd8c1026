-- [[DefineOwnProperty]] and [[Delete]] change an object's properties and an array's length, and so keep whatever these
-- changes keep.
use Rattle.std.proofs.Common.{◌≡◌, ℕ, suc, Bool, true, false, cond, not, ◌&&◌, nat_lt, nat_le, ◌==◌, pos, negsuc, refl, sym, ap, nat_eq, List, Option, Some, None, IfSome, option_map, unwrap_or}
use Rattle.std.specs.Option.{option_map_or}
use Rattle.js_value.specs.NumberText.{text_of_number}
use Rattle.js_value.specs.Value.{Value, Undefined, Null, Boolean, Number, String, Object, Text, same_text, Key, Index, Named, Numeral}
use Rattle.js_value.specs.Store.{Property, Content, Data, Accessor, Class, Ordinary, Array, ScriptFunction, BuiltInFunction, ResolveFunction, RejectFunction, Error, Promise, is_array, put_index, removed, ObjectRecord, own_property, with_property, without_property, with_string, with_length, is_length_of, put_name, length_name}
use Rattle.es_ops.specs.InternalMethods.{PropertyDescriptor, Outcome, refused, unchanged, wrote, validate_and_apply_property_descriptor, ordinary_define_own_property, new_property, applied, forbidden, has_fields, length_of_value, lowest_length, elements_below, lowered, set_length_to, length_set_by, array_set_length, raised, array_define_own_property, define_by_class, is_refused, define_own_property, ordinary_delete, delete_own_property}

module _ (Has : ObjectRecord → Type 0) (IsOfArray : Type 0) (known : (o : ObjectRecord) → is_array o.class ≡ true → Has o → IsOfArray)
    (elements : (o : ObjectRecord) (es : List (ℕ × Property)) → Has o → Has (record o { indexed = es }))
    (names : (o : ObjectRecord) (es : List (Text × Property)) → Has o → Has (record o { named = es }))
    (lengths : (o : ObjectRecord) (n : ℕ) (w : Bool) → IsOfArray → Has o → Has (record o { class = Array n w })) where
  abbrev Leaves : Outcome → Type 0
  Leaves out = IfSome out.written Has

  cond_leaves : (b : Bool) (x y : Outcome) → Leaves x → Leaves y → Leaves (cond b x y)
  cond_leaves true x y p q = p
  cond_leaves false x y p q = q

  length_keeps : (o : ObjectRecord) (c : Content) → IsOfArray → Has o → Has (with_length o c)
  length_keeps o (Data (Number (pos n)) w) a h = lengths o n w a h
  length_keeps o (Data (Number (negsuc n)) w) a h = h
  length_keeps o (Data Undefined w) a h = h
  length_keeps o (Data Null w) a h = h
  length_keeps o (Data (Boolean b) w) a h = h
  length_keeps o (Data (String t) w) a h = h
  length_keeps o (Data (Object k) w) a h = h
  length_keeps o (Accessor g s) a h = h

  array_of_length : (c : Class) (t : Text) → is_length_of c t ≡ true → is_array c ≡ true
  array_of_length (Array n w) t e = refl
  array_of_length Ordinary t e = absurd (cc)
  array_of_length (ScriptFunction m f home captured) t e = absurd (cc)
  array_of_length (BuiltInFunction row) t e = absurd (cc)
  array_of_length (ResolveFunction p m) t e = absurd (cc)
  array_of_length (RejectFunction p m) t e = absurd (cc)
  array_of_length Error t e = absurd (cc)
  array_of_length (Promise state reactions) t e = absurd (cc)

  string_keeps : (o : ObjectRecord) (t : Text) (p : Property) → Has o → Has (with_string o t p)
  string_keeps o t p h = by_test (is_length_of o.class t) refl
    where
      by_test : (b : Bool) → is_length_of o.class t ≡ b → Has (cond b (with_length o p.content) (record o { named = put_name t p o.named }))
      by_test true e = length_keeps o p.content (known o (array_of_length o.class t e) h) h
      by_test false e = names o (put_name t p o.named) h

  pub property_keeps : (o : ObjectRecord) (key : Key) (p : Property) → Has o → Has (with_property o key p)
  unfolding with_property
  property_keeps o (Index i) p h = elements o (put_index i p o.indexed) h
  property_keeps o (Named t) p h = string_keeps o t p h
  property_keeps o (Numeral z) p h = string_keeps o (text_of_number z) p h

  validated_keeps : (o : ObjectRecord) (key : Key) (d : PropertyDescriptor) (current : Option Property) → Has o → Leaves (validate_and_apply_property_descriptor o key d current)
  unfolding validate_and_apply_property_descriptor
  validated_keeps o key d None h = cond_leaves o.extensible (wrote (with_property o key (new_property d))) refused (property_keeps o key (new_property d) h) tt
  validated_keeps o key d (Some current) h =
      cond_leaves (has_fields d) (cond (not current.configurable && forbidden current d) refused (wrote (with_property o key (applied current d)))) unchanged
      (cond_leaves (not current.configurable && forbidden current d) refused (wrote (with_property o key (applied current d))) tt (property_keeps o key (applied current d) h)) tt

  ordinary_keeps : (o : ObjectRecord) (key : Key) (d : PropertyDescriptor) → Has o → Leaves (ordinary_define_own_property o key d)
  ordinary_keeps o key d h = validated_keeps o key d (own_property o key) h

  lowered_keeps : (o : ObjectRecord) (old new reached : ℕ) (w : Bool) → IsOfArray → Has o → Leaves (lowered o old new reached w)
  lowered_keeps o old new reached w a h = by_test (reached == old && w)
    where
      by_test : (b : Bool) → IfSome (cond b None (Some (record o { class = Array reached w; indexed = elements_below reached o.indexed }))) Has
      by_test true = tt
      by_test false = elements (record o { class = Array reached w }) (elements_below reached o.indexed) (lengths o reached w a h)

  set_length_keeps : (o : ObjectRecord) (old : ℕ) (w : Bool) (d : PropertyDescriptor) (new : ℕ) → IsOfArray → Has o → Leaves (set_length_to o old w d new)
  set_length_keeps o old w d new a h =
      cond_leaves (nat_le old new) (ordinary_define_own_property o (Named length_name) d) _ (ordinary_keeps o (Named length_name) d h)
      (cond_leaves (w && (ordinary_define_own_property o (Named length_name) d).answer) (lowered o old new (lowest_length new o.indexed) (unwrap_or d.writable true)) refused (lowered_keeps o old new (lowest_length new o.indexed) (unwrap_or d.writable true) a h) tt)

  length_set_keeps : (o : ObjectRecord) (old : ℕ) (w : Bool) (d : PropertyDescriptor) (v : Option Value) → IsOfArray → Has o → Leaves (length_set_by o old w d v)
  length_set_keeps o old w d None a h = ordinary_keeps o (Named length_name) d h
  length_set_keeps o old w d (Some v) a h = by_length (length_of_value v)
    where
      by_length : (n : Option ℕ) → Leaves (option_map_or (set_length_to o old w d) n refused)
      by_length None = tt
      by_length (Some n) = set_length_keeps o old w d n a h

  raised_keeps : (i : ℕ) (c : Class) (o : ObjectRecord) → IsOfArray → Has o → Has (raised i c o)
  raised_keeps i (Array n w) o a h = by_test (nat_lt i n)
    where
      by_test : (b : Bool) → Has (cond b o (record o { class = Array (suc i) w }))
      by_test true = h
      by_test false = lengths o (suc i) w a h
  raised_keeps i c o a h = h

  mapped_keeps : (f : ObjectRecord → ObjectRecord) (o : Option ObjectRecord) → ((x : ObjectRecord) → Has x → Has (f x)) → IfSome o Has → IfSome (option_map f o) Has
  mapped_keeps f None g h = tt
  mapped_keeps f (Some x) g h = g x h

  array_keeps : (o : ObjectRecord) (n : ℕ) (w : Bool) (key : Key) (d : PropertyDescriptor) → IsOfArray → Has o → Leaves (array_define_own_property o n w key d)
  array_keeps o n w (Index i) d a h =
      cond_leaves (nat_le n i && not w) refused _ tt
      (mapped_keeps (raised i o.class) (ordinary_define_own_property o (Index i) d).written (λ x k. raised_keeps i o.class x a k) (ordinary_keeps o (Index i) d h))
  array_keeps o n w (Named t) d a h = cond_leaves (same_text t length_name) (array_set_length o n w d) (ordinary_define_own_property o (Named t) d) (length_set_keeps o n w d d.value a h) (ordinary_keeps o (Named t) d h)
  array_keeps o n w (Numeral z) d a h = cond_leaves (same_text (text_of_number z) length_name) (array_set_length o n w d) (ordinary_define_own_property o (Numeral z) d) (length_set_keeps o n w d d.value a h) (ordinary_keeps o (Numeral z) d h)

  define_keeps : (c : Class) (o : ObjectRecord) (key : Key) (d : PropertyDescriptor) → c ≡ o.class → Has o → Leaves (define_by_class c o key d)
  define_keeps (Array n w) o key d e h = array_keeps o n w key d (known o (ap is_array (sym e)) h) h
  define_keeps c o key d e h = ordinary_keeps o key d h

  without_keeps : (o : ObjectRecord) (key : Key) → Has o → Has (without_property o key)
  unfolding without_property
  without_keeps o (Index i) h = elements o (removed (nat_eq i) o.indexed) h
  without_keeps o (Named t) h = names o (removed (same_text t) o.named) h
  without_keeps o (Numeral z) h = names o (removed (same_text (text_of_number z)) o.named) h

  delete_keeps : (o : ObjectRecord) (key : Key) (p : Option Property) → Has o → Leaves (ordinary_delete o key p)
  delete_keeps o key None h = tt
  delete_keeps o key (Some p) h = cond_leaves p.configurable (wrote (without_property o key)) refused (without_keeps o key h) tt

  pub defined_keeps : (o : ObjectRecord) (key : Key) (d : PropertyDescriptor) → Has o → Leaves (define_own_property o key d)
  unfolding define_own_property
  defined_keeps o key d h = cond_leaves (is_refused key d) refused (define_by_class o.class o key d) tt (define_keeps o.class o key d refl h)

  pub deleted_keeps : (o : ObjectRecord) (key : Key) → Has o → Leaves (delete_own_property o key)
  unfolding delete_own_property
  deleted_keeps o key h = delete_keeps o key (own_property o key) h
