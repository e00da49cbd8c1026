-- A method that holds things of the right kinds leaves an object of such things.
use Rattle.std.proofs.Common.{◌≡◌, ℕ, suc, Bool, true, false, cond, not, ◌&&◌, ◌||◌, nat_lt, nat_le, ◌==◌, pos, negsuc, nat_eq, List, [], ◌∷◌, ◌++◌, Option, Some, None, IfSome, option_map, unwrap_or}
use Rattle.std.specs.Option.{option_map_or}
use Rattle.js_value.specs.NumberText.{text_of_number}
use Rattle.js_value.specs.Value.{Value, Undefined, Null, Boolean, Number, String, Object, Text, same_text, Key, Index, Named, Numeral}
use Rattle.js_value.specs.Store.{Store, Property, Content, Data, Accessor, Class, Ordinary, Array, ScriptFunction, BuiltInFunction, ResolveFunction, RejectFunction, Error, Promise, found, put_index, put_name, removed, ObjectRecord, own_property, strings, length_entry, with_property, without_property, with_string, with_length, is_length_of, length_name}
use Rattle.es_ops.specs.InternalMethods.{PropertyDescriptor, is_accessor_descriptor, is_data_descriptor, Outcome, refused, unchanged, wrote, validate_and_apply_property_descriptor, ordinary_define_own_property, new_content, new_property, applied_content, applied, forbidden, has_fields, length_of_value, lowest_length, elements_below, lowered, set_length_to, length_set_by, array_set_length, raised, array_define_own_property, define_by_class, is_refused, define_own_property, ordinary_delete, delete_own_property, prevent_extensions, freeze, fixed_class, fixed_content, all_fixed, Method, DefineOwnProperty, Delete, PreventExtensions, SetPrototypeOf, Freeze, apply_method, set_prototype_of, same_prototype, on_chain, longest}
use Rattle.es_ops.specs.Kinded.{Kinds, IsValueKinded, IsFunctionKinded, IfValueKinded, IfFunctionKinded, IsContentKinded, IfContentKinded, ArePropertiesKinded, IsClassKinded, IfObject, IsObjectKinded, IsDescriptorKinded, IsMethodKinded}

module _ (kinds : Kinds) where
  -- ---- property lists

  put_index_kinded : (i : ℕ) (p : Property) (es : List (ℕ × Property)) → IsContentKinded kinds p.content → ArePropertiesKinded kinds es → ArePropertiesKinded kinds (put_index i p es)
  put_index_kinded i p [] c h = (c, tt)
  put_index_kinded i p (e ∷ es) c h = by_test (nat_lt i e.0) (i == e.0) (put_index_kinded i p es c h.1)
    where
      by_test : (a b : Bool) → ArePropertiesKinded kinds (put_index i p es) → ArePropertiesKinded kinds (cond a ((i, p) ∷ e ∷ es) (cond b ((i, p) ∷ es) (e ∷ put_index i p es)))
      by_test true b rest = (c, (h.0, h.1))
      by_test false true rest = (c, h.1)
      by_test false false rest = (h.0, rest)

  put_name_kinded : (t : Text) (p : Property) (es : List (Text × Property)) → IsContentKinded kinds p.content → ArePropertiesKinded kinds es → ArePropertiesKinded kinds (put_name t p es)
  put_name_kinded t p [] c h = (c, tt)
  put_name_kinded t p (e ∷ es) c h = by_test (same_text t e.0) (put_name_kinded t p es c h.1)
    where
      by_test : (b : Bool) → ArePropertiesKinded kinds (put_name t p es) → ArePropertiesKinded kinds (cond b ((t, p) ∷ es) (e ∷ put_name t p es))
      by_test true rest = (c, h.1)
      by_test false rest = (h.0, rest)

  removed_kinded : {K : Type 0} (is : K → Bool) (es : List (K × Property)) → ArePropertiesKinded kinds es → ArePropertiesKinded kinds (removed is es)
  removed_kinded is [] h = tt
  removed_kinded is (e ∷ es) h = by_test (is e.0) (removed_kinded is es h.1)
    where
      by_test : (b : Bool) → ArePropertiesKinded kinds (removed is es) → ArePropertiesKinded kinds (cond b es (e ∷ removed is es))
      by_test true rest = h.1
      by_test false rest = (h.0, rest)

  found_kinded : {K : Type 0} (is : K → Bool) (es : List (K × Property)) → ArePropertiesKinded kinds es → IfContentKinded kinds (found is es)
  found_kinded is [] h = tt
  found_kinded is (e ∷ es) h = by_test (is e.0) (found_kinded is es h.1)
    where
      by_test : (b : Bool) → IfContentKinded kinds (found is es) → IfContentKinded kinds (cond b (Some e.1) (found is es))
      by_test true rest = h.0
      by_test false rest = rest

  elements_below_kinded : (n : ℕ) (es : List (ℕ × Property)) → ArePropertiesKinded kinds es → ArePropertiesKinded kinds (elements_below n es)
  elements_below_kinded n [] h = tt
  elements_below_kinded n (e ∷ es) h = by_test (nat_lt e.0 n) (elements_below_kinded n es h.1)
    where
      by_test : (b : Bool) → ArePropertiesKinded kinds (elements_below n es) → ArePropertiesKinded kinds (cond b (e ∷ elements_below n es) (elements_below n es))
      by_test true rest = (h.0, rest)
      by_test false rest = rest

  fixed_content_kinded : (c : Content) → IsContentKinded kinds c → IsContentKinded kinds (fixed_content c)
  fixed_content_kinded (Data v w) h = h
  fixed_content_kinded (Accessor g s) h = h

  all_fixed_kinded : {K : Type 0} (es : List (K × Property)) → ArePropertiesKinded kinds es → ArePropertiesKinded kinds (all_fixed es)
  all_fixed_kinded [] h = tt
  all_fixed_kinded (e ∷ es) h = (fixed_content_kinded e.1.content h.0, all_fixed_kinded es h.1)

  -- ---- own properties

  strings_kinded : (c : Class) (es : List (Text × Property)) → ArePropertiesKinded kinds es → ArePropertiesKinded kinds (length_entry c ++ es)
  strings_kinded (Array n w) es h = (tt, h)
  strings_kinded Ordinary es h = h
  strings_kinded (ScriptFunction m f home captured) es h = h
  strings_kinded (BuiltInFunction row) es h = h
  strings_kinded (ResolveFunction p m) es h = h
  strings_kinded (RejectFunction p m) es h = h
  strings_kinded Error es h = h
  strings_kinded (Promise state reactions) es h = h

  pub own_property_kinded : (o : ObjectRecord) (key : Key) → IsObjectKinded kinds o → IfContentKinded kinds (own_property o key)
  unfolding own_property
  own_property_kinded o (Index i) h = found_kinded (nat_eq i) o.indexed h.indexed
  own_property_kinded o (Named t) h = found_kinded (same_text t) (strings o) (strings_kinded o.class o.named h.named)
  own_property_kinded o (Numeral z) h = found_kinded (same_text (text_of_number z)) (strings o) (strings_kinded o.class o.named h.named)

  array_kinded : (o : ObjectRecord) (n : ℕ) (w : Bool) → IsObjectKinded kinds o → IsObjectKinded kinds (record o { class = Array n w })
  array_kinded o n w h = record { class = tt; prototype = h.prototype; indexed = h.indexed; named = h.named }

  length_kinded : (o : ObjectRecord) (c : Content) → IsObjectKinded kinds o → IsObjectKinded kinds (with_length o c)
  length_kinded o (Data (Number (pos n)) w) h = array_kinded o n w h
  length_kinded o (Data (Number (negsuc n)) w) h = h
  length_kinded o (Data Undefined w) h = h
  length_kinded o (Data Null w) h = h
  length_kinded o (Data (Boolean b) w) h = h
  length_kinded o (Data (String t) w) h = h
  length_kinded o (Data (Object k) w) h = h
  length_kinded o (Accessor g s) h = h

  string_kinded : (o : ObjectRecord) (t : Text) (p : Property) → IsContentKinded kinds p.content → IsObjectKinded kinds o → IsObjectKinded kinds (with_string o t p)
  string_kinded o t p c h = by_test (is_length_of o.class t)
    where
      by_test : (b : Bool) → IsObjectKinded kinds (cond b (with_length o p.content) (record o { named = put_name t p o.named }))
      by_test true = length_kinded o p.content h
      by_test false = record { class = h.class; prototype = h.prototype; indexed = h.indexed; named = put_name_kinded t p o.named c h.named }

  pub with_property_kinded : (o : ObjectRecord) (key : Key) (p : Property) → IsContentKinded kinds p.content → IsObjectKinded kinds o → IsObjectKinded kinds (with_property o key p)
  unfolding with_property
  with_property_kinded o (Index i) p c h = record { class = h.class; prototype = h.prototype; indexed = put_index_kinded i p o.indexed c h.indexed; named = h.named }
  with_property_kinded o (Named t) p c h = string_kinded o t p c h
  with_property_kinded o (Numeral z) p c h = string_kinded o (text_of_number z) p c h

  without_kinded : (o : ObjectRecord) (key : Key) → IsObjectKinded kinds o → IsObjectKinded kinds (without_property o key)
  unfolding without_property
  without_kinded o (Index i) h = record { class = h.class; prototype = h.prototype; indexed = removed_kinded (nat_eq i) o.indexed h.indexed; named = h.named }
  without_kinded o (Named t) h = record { class = h.class; prototype = h.prototype; indexed = h.indexed; named = removed_kinded (same_text t) o.named h.named }
  without_kinded o (Numeral z) h = record { class = h.class; prototype = h.prototype; indexed = h.indexed; named = removed_kinded (same_text (text_of_number z)) o.named h.named }

  -- ---- descriptors

  value_or : (v : Option Value) (w : Value) → IfValueKinded kinds v → IsValueKinded kinds w → IsValueKinded kinds (unwrap_or v w)
  value_or None w a b = b
  value_or (Some v) w a b = a

  function_or : (v : Option Value) (w : Value) → IfFunctionKinded kinds v → IsFunctionKinded kinds w → IsFunctionKinded kinds (unwrap_or v w)
  function_or None w a b = b
  function_or (Some v) w a b = a

  cond_content : (b : Bool) (x y : Content) → IsContentKinded kinds x → IsContentKinded kinds y → IsContentKinded kinds (cond b x y)
  cond_content true x y p q = p
  cond_content false x y p q = q

  new_kinded : (d : PropertyDescriptor) → IsDescriptorKinded kinds d → IsContentKinded kinds (new_content d)
  new_kinded d h = cond_content (is_accessor_descriptor d) (Accessor (unwrap_or d.get Undefined) (unwrap_or d.set Undefined)) (Data (unwrap_or d.value Undefined) (unwrap_or d.writable false))
      (function_or d.get Undefined h.get tt, function_or d.set Undefined h.set tt) (value_or d.value Undefined h.value tt)

  applied_kinded : (c : Content) (d : PropertyDescriptor) → IsDescriptorKinded kinds d → IsContentKinded kinds c → IsContentKinded kinds (applied_content c d)
  applied_kinded (Data v w) d h c = cond_content (is_accessor_descriptor d) (new_content d) (Data (unwrap_or d.value v) (unwrap_or d.writable w)) (new_kinded d h) (value_or d.value v h.value c)
  applied_kinded (Accessor g s) d h c = cond_content (is_data_descriptor d) (new_content d) (Accessor (unwrap_or d.get g) (unwrap_or d.set s)) (new_kinded d h) (function_or d.get g h.get c.0, function_or d.set s h.set c.1)

  -- ---- [[DefineOwnProperty]]

  abbrev Leaves : Outcome → Type 0
  Leaves out = IfSome out.written (IsObjectKinded kinds)

  cond_leaves : (b : Bool) (x y : Outcome) → Leaves x → Leaves y → Leaves (cond b x y)
  cond_leaves true x y p q = p
  cond_leaves false x y p q = q

  module _ (d : PropertyDescriptor) (of_d : IsDescriptorKinded kinds d) where
    validated_kinded : (o : ObjectRecord) (key : Key) (current : Option Property) → IfContentKinded kinds current → IsObjectKinded kinds o → Leaves (validate_and_apply_property_descriptor o key d current)
    unfolding validate_and_apply_property_descriptor
    validated_kinded o key None c h = cond_leaves o.extensible (wrote (with_property o key (new_property d))) refused (with_property_kinded o key (new_property d) (new_kinded d of_d) h) tt
    validated_kinded o key (Some current) c h =
        cond_leaves (has_fields d) (cond (not current.configurable && forbidden current d) refused (wrote (with_property o key (applied current d)))) unchanged
        (cond_leaves (not current.configurable && forbidden current d) refused (wrote (with_property o key (applied current d))) tt (with_property_kinded o key (applied current d) (applied_kinded current.content d of_d c) h)) tt

    ordinary_kinded : (o : ObjectRecord) (key : Key) → IsObjectKinded kinds o → Leaves (ordinary_define_own_property o key d)
    ordinary_kinded o key h = validated_kinded o key (own_property o key) (own_property_kinded o key h) h

    lowered_kinded : (o : ObjectRecord) (old new reached : ℕ) (w : Bool) → IsObjectKinded kinds o → Leaves (lowered o old new reached w)
    lowered_kinded o old new reached w h = by_test (reached == old && w)
      where
        by_test : (b : Bool) → IfSome (cond b None (Some (record o { class = Array reached w; indexed = elements_below reached o.indexed }))) (IsObjectKinded kinds)
        by_test true = tt
        by_test false = record { class = tt; prototype = h.prototype; indexed = elements_below_kinded reached o.indexed h.indexed; named = h.named }

    set_length_kinded : (o : ObjectRecord) (old : ℕ) (w : Bool) (new : ℕ) → IsObjectKinded kinds o → Leaves (set_length_to o old w d new)
    set_length_kinded o old w new h =
        cond_leaves (nat_le old new) (ordinary_define_own_property o (Named length_name) d) _ (ordinary_kinded o (Named length_name) h)
        (cond_leaves (w && (ordinary_define_own_property o (Named length_name) d).answer) (lowered o old new (lowest_length new o.indexed) (unwrap_or d.writable true)) refused (lowered_kinded o old new (lowest_length new o.indexed) (unwrap_or d.writable true) h) tt)

    length_set_kinded : (o : ObjectRecord) (old : ℕ) (w : Bool) (v : Option Value) → IsObjectKinded kinds o → Leaves (length_set_by o old w d v)
    length_set_kinded o old w None h = ordinary_kinded o (Named length_name) h
    length_set_kinded o old w (Some v) h = by_length (length_of_value v)
      where
        by_length : (n : Option ℕ) → Leaves (option_map_or (set_length_to o old w d) n refused)
        by_length None = tt
        by_length (Some n) = set_length_kinded o old w n h

    raised_kinded : (i : ℕ) (c : Class) (o : ObjectRecord) → IsObjectKinded kinds o → IsObjectKinded kinds (raised i c o)
    raised_kinded i (Array n w) o h = by_test (nat_lt i n)
      where
        by_test : (b : Bool) → IsObjectKinded kinds (cond b o (record o { class = Array (suc i) w }))
        by_test true = h
        by_test false = array_kinded o (suc i) w h
    raised_kinded i c o h = h

    mapped_kinded : (f : ObjectRecord → ObjectRecord) (o : Option ObjectRecord) → ((x : ObjectRecord) → IsObjectKinded kinds x → IsObjectKinded kinds (f x)) → IfSome o (IsObjectKinded kinds) → IfSome (option_map f o) (IsObjectKinded kinds)
    mapped_kinded f None g h = tt
    mapped_kinded f (Some x) g h = g x h

    define_array_kinded : (o : ObjectRecord) (n : ℕ) (w : Bool) (key : Key) → IsObjectKinded kinds o → Leaves (array_define_own_property o n w key d)
    define_array_kinded o n w (Index i) h =
        cond_leaves (nat_le n i && not w) refused _ tt
        (mapped_kinded (raised i o.class) (ordinary_define_own_property o (Index i) d).written (raised_kinded i o.class) (ordinary_kinded o (Index i) h))
    define_array_kinded o n w (Named t) h = cond_leaves (same_text t length_name) (array_set_length o n w d) (ordinary_define_own_property o (Named t) d) (length_set_kinded o n w d.value h) (ordinary_kinded o (Named t) h)
    define_array_kinded o n w (Numeral z) h = cond_leaves (same_text (text_of_number z) length_name) (array_set_length o n w d) (ordinary_define_own_property o (Numeral z) d) (length_set_kinded o n w d.value h) (ordinary_kinded o (Numeral z) h)

    by_class_kinded : (c : Class) (o : ObjectRecord) (key : Key) → IsObjectKinded kinds o → Leaves (define_by_class c o key d)
    by_class_kinded (Array n w) o key h = define_array_kinded o n w key h
    by_class_kinded c o key h = ordinary_kinded o key h

    define_kinded : (o : ObjectRecord) (key : Key) → IsObjectKinded kinds o → Leaves (define_own_property o key d)
    unfolding define_own_property
    define_kinded o key h = cond_leaves (is_refused key d) refused (define_by_class o.class o key d) tt (by_class_kinded o.class o key h)

  -- ---- all methods

  delete_kinded : (o : ObjectRecord) (key : Key) (p : Option Property) → IsObjectKinded kinds o → Leaves (ordinary_delete o key p)
  delete_kinded o key None h = tt
  delete_kinded o key (Some p) h = cond_leaves p.configurable (wrote (without_property o key)) refused (without_kinded o key h) tt

  fixed_class_kinded : (c : Class) → IsClassKinded kinds c → IsClassKinded kinds (fixed_class c)
  fixed_class_kinded (Array n w) h = h
  fixed_class_kinded Ordinary h = h
  fixed_class_kinded (ScriptFunction m f home captured) h = h
  fixed_class_kinded (BuiltInFunction row) h = h
  fixed_class_kinded (ResolveFunction p m) h = h
  fixed_class_kinded (RejectFunction p m) h = h
  fixed_class_kinded Error h = h
  fixed_class_kinded (Promise state reactions) h = h

  pub method_kinded : (m : Method) (s : Store) (n : ℕ) (o : ObjectRecord) → IsMethodKinded kinds m → IsObjectKinded kinds o → Leaves (apply_method m s n o)
  unfolding apply_method prevent_extensions freeze set_prototype_of delete_own_property
  method_kinded (DefineOwnProperty key d) s n o b h = define_kinded d b o key h
  method_kinded (Delete key) s n o b h = delete_kinded o key (own_property o key) h
  method_kinded PreventExtensions s n o b h = record { class = h.class; prototype = h.prototype; indexed = h.indexed; named = h.named }
  method_kinded (SetPrototypeOf v) s n o b h =
      cond_leaves (same_prototype v o.prototype) unchanged _ tt
      (cond_leaves (not o.extensible || on_chain longest s n v) refused (wrote (record o { prototype = v })) tt (record { class = h.class; prototype = b; indexed = h.indexed; named = h.named }))
  method_kinded Freeze s n o b h = record { class = fixed_class_kinded o.class h.class; prototype = h.prototype; indexed = all_fixed_kinded o.indexed h.indexed; named = all_fixed_kinded o.named h.named }
