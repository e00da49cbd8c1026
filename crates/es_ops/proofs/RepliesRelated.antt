-- Related questions have related answers.
use Rattle.std.proofs.Common.{◌≡◌, ℕ, zero, suc, true, false, refl, ap₂, ◌||◌, slice_get, Option, Some}
use Rattle.js_value.specs.Value.{Value, Key}
use Rattle.js_value.specs.Store.{Property, Content, object_in, cell_in, mark_in}
use Rattle.es_ops.specs.State.{Heap}
use Rattle.es_ops.specs.Laws.{IsHeapWellFormed}
use Rattle.es_ops.specs.InternalMethods.{on_chain, property_from, find_property, longest, or_later, set_step, set_content, set_by_setter, set_data, set_own, set_own_content}
use Rattle.es_ops.specs.Events.{TheClass, ThePrototype, IsExtensible, TheOwnProperty, TheOwnKey, IsOnChain, TheSort, TheCell, TheMark, TheProperty, TheSetStep, TheIntrinsic, TheInput, reply}
use Rattle.es_ops.specs.Related.{BothOption, BothNone, BothSome, BothValue, BothUndefined, BothNull, BothBoolean, BothNumber, BothString, BothObject, BothContent, BothData, BothAccessor, BothProperty, BothRecord, BothSetStep, BothRefuses, BothCalls, BothDefines}
use Rattle.es_ops.specs.Renaming.{Pairs, named, BothHeap}
use Rattle.es_ops.proofs.RecordsRelated.{as_object_both, as_cell_both, as_mark_same, own_property_both, own_keys_same}
use Rattle.es_ops.proofs.Parts.{same_number}
use Rattle.es_ops.proofs.OwnKeys.{own_key_is_key}
use Rattle.es_ops.proofs.RunsRelated.{Replies}

module _ (ps : Pairs) (w v : Heap) (b : BothHeap ps w v) where
  pub object_both : (m n : ℕ) → named ps m n → BothRecord (named ps) (object_in w.store m) (object_in v.store n)
  unfolding object_in
  object_both m n r = as_object_both (named ps) (b.things m n r)

  pub chain_same : (fuel m n : ℕ) {x y : Option ℕ} → named ps m n → BothOption (named ps) x y → on_chain fuel w.store m x ≡ on_chain fuel v.store n y
  unfolding on_chain
  chain_same fuel m n r BothNone = refl
  chain_same zero m n r (BothSome s) = refl
  chain_same (suc fuel) m n r (BothSome {x = x} {y = y} s) = ap₂ (λ a c. a || c) (same_number b.one_to_one x y m n s r) (chain_same fuel m n r (object_both x y s).prototype)

module _ (ps : Pairs) (w v : Heap) (b : BothHeap ps w v) (well : IsHeapWellFormed w) where
  property_both : (fuel : ℕ) (key : Key) (m n : Option ℕ) → BothOption (named ps) m n → BothOption (BothProperty (named ps)) (property_from fuel w.store key m) (property_from fuel v.store key n)
  unfolding property_from
  property_both zero key m n h = BothNone
  property_both (suc fuel) key m n BothNone = BothNone
  property_both (suc fuel) key _ _ (BothSome {x = m} {y = n} r) =
      let o = object_both ps w v b m n r in
      or_later_both (own_property_both (named ps) (object_in w.store m) (object_in v.store n) key (well.store.orderly m) o) (property_both fuel key _ _ o.prototype)
    where
      or_later_both : {x y z u : Option Property} → BothOption (BothProperty (named ps)) x y → BothOption (BothProperty (named ps)) z u → BothOption (BothProperty (named ps)) (or_later x z) (or_later y u)
      or_later_both BothNone g = g
      or_later_both (BothSome h) g = BothSome h

  data_both : (key : Key) (x y t u : Value) → BothValue (named ps) x y → BothValue (named ps) t u → BothSetStep (named ps) (set_data w.store key x t) (set_data v.store key y u)
  data_both key x y t u h (BothObject {m = m} {n = n} r) = by_own _ _ (own_property_both (named ps) (object_in w.store m) (object_in v.store n) key (well.store.orderly m) (object_both ps w v b m n r))
    where
      by_content : (c d : Content) → BothContent (named ps) c d → BothSetStep (named ps) (set_own_content m c x) (set_own_content n d y)
      by_content c d (BothAccessor g s) = BothRefuses
      by_content c d (BothData {b = true} g) = BothDefines r (record { value = BothSome h; writable = refl; get = BothNone; set = BothNone; enumerable = refl; configurable = refl })
      by_content c d (BothData {b = false} g) = BothRefuses

      by_own : (p q : Option Property) → BothOption (BothProperty (named ps)) p q → BothSetStep (named ps) (set_own m p x) (set_own n q y)
      by_own p q BothNone = BothDefines r (record { value = BothSome h; writable = refl; get = BothNone; set = BothNone; enumerable = refl; configurable = refl })
      by_own p q (BothSome e) = by_content _ _ e.content
  data_both key x y t u h BothUndefined = BothRefuses
  data_both key x y t u h BothNull = BothRefuses
  data_both key x y t u h BothBoolean = BothRefuses
  data_both key x y t u h (BothNumber z) = BothRefuses
  data_both key x y t u h (BothString z) = BothRefuses

  setter_both : (x y : Value) → BothValue (named ps) x y → BothSetStep (named ps) (set_by_setter x) (set_by_setter y)
  setter_both x y BothUndefined = BothRefuses
  setter_both x y BothNull = BothCalls BothNull
  setter_both x y BothBoolean = BothCalls BothBoolean
  setter_both x y (BothNumber h) = BothCalls (BothNumber h)
  setter_both x y (BothString h) = BothCalls (BothString h)
  setter_both x y (BothObject h) = BothCalls (BothObject h)

  step_both : (key : Key) (x y t u : Value) (p q : Option Property) → BothValue (named ps) x y → BothValue (named ps) t u → BothOption (BothProperty (named ps)) p q → BothSetStep (named ps) (set_step w.store key x t p) (set_step v.store key y u q)
  unfolding set_step
  step_both key x y t u p q h r BothNone = data_both key x y t u h r
  step_both key x y t u p q h r (BothSome e) = by_content _ _ e.content
    where
      by_content : (c d : Content) → BothContent (named ps) c d → BothSetStep (named ps) (set_content w.store key x t c) (set_content v.store key y u d)
      by_content c d (BothAccessor g s) = setter_both _ _ s
      by_content c d (BothData {b = true} g) = data_both key x y t u h r
      by_content c d (BothData {b = false} g) = BothRefuses

pub reply_related : Replies
unfolding reply object_in cell_in mark_in find_property
reply_related ps (TheClass m) (TheClass n) w v h b well = (object_both ps w.heap v.heap b.heap m n h).class
reply_related ps (ThePrototype m) (ThePrototype n) w v h b well = (object_both ps w.heap v.heap b.heap m n h).prototype
reply_related ps (IsExtensible m) (IsExtensible n) w v h b well = (object_both ps w.heap v.heap b.heap m n h).extensible
reply_related ps (TheOwnProperty key m) (TheOwnProperty other n) w v h b well = rw h.0 (own_property_both (named ps) _ _ other (well.heap.store.orderly m) (object_both ps w.heap v.heap b.heap m n h.1))
reply_related ps (TheOwnKey at m) (TheOwnKey place n) w v h b well = (ap₂ (λ (i : ℕ) keys. slice_get keys i) h.0 (own_keys_same (named ps) _ _ (well.heap.store.orderly m) (object_both ps w.heap v.heap b.heap m n h.1)), own_key_is_key _ at (well.heap.store.orderly m))
reply_related ps (IsOnChain p m) (IsOnChain q n) w v h b well = chain_same ps w.heap v.heap b.heap longest p q h.0 (object_both ps w.heap v.heap b.heap m n h.1).prototype
reply_related ps (TheCell m) (TheCell n) w v h b well = as_cell_both (named ps) (b.heap.things m n h)
reply_related ps (TheMark m) (TheMark n) w v h b well = as_mark_same (named ps) (b.heap.things m n h)
reply_related ps (TheProperty key m) (TheProperty other n) w v h b well = rw h.0 (property_both ps w.heap v.heap b.heap well.heap longest other (Some m) (Some n) (BothSome h.1))
reply_related ps (TheSetStep key x t p) (TheSetStep other y u q) w v h b well = rw h.0 (step_both ps w.heap v.heap b.heap well.heap other x y t u p q h.1 h.2 h.3)
reply_related ps (TheIntrinsic i) (TheIntrinsic j) w v h b well = rw h (b.heap.realm j)
reply_related ps (TheSort x f) (TheSort y g) w v h b well = rw (h.0, h.1, b.functions) refl
reply_related ps TheInput TheInput w v h b well = b.input
reply_related ps _ _ w v h b well = absurd h
