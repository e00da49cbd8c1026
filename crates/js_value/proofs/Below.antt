-- What holds only values of things below m holds only values of things below any k past it; edits of property lists add nothing else.
use Rattle.std.proofs.Common.{ℕ, ◌≤◌, Bool, true, false, cond, List, [], ◌∷◌, ◌++◌, nat_lt, ◌==◌, arith, Option, Some, None, IfSome}
use Rattle.js_value.specs.Value.{Value, Undefined, Null, Boolean, Number, String, Object, Text, same_text}
use Rattle.js_value.specs.Store.{Content, Data, Accessor, Property, PromiseState, Pending, Fulfilled, Rejected, Reaction, Class, Ordinary, Array, ScriptFunction, BuiltInFunction, ResolveFunction, RejectFunction, Error, Promise, ObjectRecord, Thing, AnObject, ACell, AMark, found, removed, put_name, put_index}
use Rattle.js_value.specs.WellFormed.{IsValueBelow, IfValueBelow, IfNumberBelow, AreNumbersBelow, AreValuesBelow, IsContentBelow, ArePropertiesBelow, IsStateBelow, IsReactionBelow, AreReactionsBelow, IsClassBelow, IsObjectBelow, IsThingBelow}

module _ (m k : ℕ) (le : m ≤ k) where
  pub value_more : (v : Value) → IsValueBelow m v → IsValueBelow k v
  value_more (Object n) h = omega arith
  value_more Undefined h = tt
  value_more Null h = tt
  value_more (Boolean b) h = tt
  value_more (Number n) h = h
  value_more (String t) h = h

  pub if_value_more : (v : Option Value) → IfValueBelow m v → IfValueBelow k v
  if_value_more None h = tt
  if_value_more (Some v) h = value_more v h

  pub if_number_more : (n : Option ℕ) → IfNumberBelow m n → IfNumberBelow k n
  if_number_more None h = tt
  if_number_more (Some n) h = omega arith

  pub numbers_more : (ns : List ℕ) → AreNumbersBelow m ns → AreNumbersBelow k ns
  numbers_more [] h = tt
  numbers_more (n ∷ ns) h = (omega (arith, h.0), numbers_more ns h.1)

  pub values_more : (vs : List Value) → AreValuesBelow m vs → AreValuesBelow k vs
  values_more [] h = tt
  values_more (v ∷ vs) h = (value_more v h.0, values_more vs h.1)

  pub content_more : (c : Content) → IsContentBelow m c → IsContentBelow k c
  content_more (Data v w) h = value_more v h
  content_more (Accessor g s) h = (value_more g h.0, value_more s h.1)

  pub properties_more : {K : Type 0} (es : List (K × Property)) → ArePropertiesBelow m es → ArePropertiesBelow k es
  properties_more [] h = tt
  properties_more (e ∷ es) h = (content_more e.1.content h.0, properties_more es h.1)

  pub state_more : (s : PromiseState) → IsStateBelow m s → IsStateBelow k s
  state_more Pending h = tt
  state_more (Fulfilled v) h = value_more v h
  state_more (Rejected v) h = value_more v h

  pub reaction_more : (r : Reaction) → IsReactionBelow m r → IsReactionBelow k r
  reaction_more r h = record { derived = omega (arith, h.derived); on_fulfilled = value_more r.on_fulfilled h.on_fulfilled; on_rejected = value_more r.on_rejected h.on_rejected }

  pub reactions_more : (rs : List Reaction) → AreReactionsBelow m rs → AreReactionsBelow k rs
  reactions_more [] h = tt
  reactions_more (r ∷ rs) h = (reaction_more r h.0, reactions_more rs h.1)

  pub class_more : (c : Class) → IsClassBelow m c → IsClassBelow k c
  class_more (ScriptFunction a b home captured) h = (if_number_more home h.0, numbers_more captured h.1)
  class_more (ResolveFunction p q) h = (omega (arith, h.0), omega (arith, h.1))
  class_more (RejectFunction p q) h = (omega (arith, h.0), omega (arith, h.1))
  class_more (Promise s rs) h = (state_more s h.0, reactions_more rs h.1)
  class_more Ordinary h = tt
  class_more (Array n w) h = tt
  class_more (BuiltInFunction row) h = tt
  class_more Error h = tt

  pub object_more : (o : ObjectRecord) → IsObjectBelow m o → IsObjectBelow k o
  object_more o h = record {
    class = class_more o.class h.class;
    prototype = if_number_more o.prototype h.prototype;
    indexed = properties_more o.indexed h.indexed;
    named = properties_more o.named h.named;
  }

  pub thing_more : (t : Thing) → IsThingBelow m t → IsThingBelow k t
  thing_more (AnObject o) h = object_more o h
  thing_more (ACell c) h = if_value_more c.value h
  thing_more (AMark b) h = tt

-- ---- edits

module _ (m : ℕ) where
  pub put_index_properties : (i : ℕ) (p : Property) (es : List (ℕ × Property)) → IsContentBelow m p.content → ArePropertiesBelow m es → ArePropertiesBelow m (put_index i p es)
  put_index_properties i p [] c h = (c, tt)
  put_index_properties i p (e ∷ es) c h = by_test (nat_lt i e.0) (i == e.0) (put_index_properties i p es c h.1)
    where
      by_test : (a b : Bool) → ArePropertiesBelow m (put_index i p es) → ArePropertiesBelow m (cond a ((i, p) ∷ e ∷ es) (cond b ((i, p) ∷ es) (e ∷ put_index i p es)))
      by_test true b rest = (c, (h.0, h.1))
      by_test false true rest = (c, h.1)
      by_test false false rest = (h.0, rest)

  pub put_name_properties : (t : Text) (p : Property) (es : List (Text × Property)) → IsContentBelow m p.content → ArePropertiesBelow m es → ArePropertiesBelow m (put_name t p es)
  put_name_properties t p [] c h = (c, tt)
  put_name_properties t p (e ∷ es) c h = by_test (same_text t e.0) (put_name_properties t p es c h.1)
    where
      by_test : (b : Bool) → ArePropertiesBelow m (put_name t p es) → ArePropertiesBelow m (cond b ((t, p) ∷ es) (e ∷ put_name t p es))
      by_test true rest = (c, h.1)
      by_test false rest = (h.0, rest)

  pub removed_properties : {K : Type 0} (is : K → Bool) (es : List (K × Property)) → ArePropertiesBelow m es → ArePropertiesBelow m (removed is es)
  removed_properties is [] h = tt
  removed_properties is (e ∷ es) h = by_test (is e.0) (removed_properties is es h.1)
    where
      by_test : (b : Bool) → ArePropertiesBelow m (removed is es) → ArePropertiesBelow m (cond b es (e ∷ removed is es))
      by_test true rest = h.1
      by_test false rest = (h.0, rest)

  pub found_properties : {K : Type 0} (is : K → Bool) (es : List (K × Property)) → ArePropertiesBelow m es → IfSome (found is es) (λ p. IsContentBelow m p.content)
  found_properties is [] h = tt
  found_properties is (e ∷ es) h = by_test (is e.0) (found_properties is es h.1)
    where
      by_test : (b : Bool) → IfSome (found is es) (λ p. IsContentBelow m p.content) → IfSome (cond b (Some e.1) (found is es)) (λ p. IsContentBelow m p.content)
      by_test true rest = h.0
      by_test false rest = rest

  pub append_properties : {K : Type 0} (es fs : List (K × Property)) → ArePropertiesBelow m es → ArePropertiesBelow m fs → ArePropertiesBelow m (es ++ fs)
  append_properties [] fs h g = g
  append_properties (e ∷ es) fs h g = (h.0, append_properties es fs h.1 g)
