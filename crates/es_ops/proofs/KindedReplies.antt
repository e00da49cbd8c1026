-- What a question answers in a kinded world is kinded.
use Rattle.std.proofs.Common.{ℕ, zero, suc, Bool, true, false, cond, Option, Some, None}
use Rattle.js_value.specs.Value.{Value, Undefined, Null, Boolean, Number, String, Object, Key}
use Rattle.js_value.specs.Store.{Store, Content, Data, Accessor, Property, object_in, own_property}
use Rattle.es_ops.specs.State.{Heap, World}
use Rattle.es_ops.specs.InternalMethods.{or_later, property_from, find_property, longest, SetStep, RefusesSet, DefinesOn, set_step, set_content, set_by_setter, set_data, set_own, set_own_content, value_descriptor, data_descriptor}
use Rattle.es_ops.specs.Events.{Question, reply, TheClass, ThePrototype, IsExtensible, TheOwnProperty, TheOwnKey, IsOnChain, TheCell, TheMark, TheProperty, TheSetStep, TheIntrinsic, TheSort, TheInput}
use Rattle.es_ops.specs.Kinded.{Kinds, IsValueKinded, IsFunctionKinded, IfObject, IsContentKinded, IfContentKinded, IsObjectKinded, IsHeapKinded, IsWorldKinded, IsObject, IsQuestionKinded, IsStepKinded, IsReplyKinded}
use Rattle.es_ops.proofs.KindedObjects.{own_property_kinded}
use Rattle.es_ops.proofs.KindedDeeds.{object_in_kinded, cell_in_kinded}

module _ (kinds : Kinds) where
  -- ---- along the prototype chain

  or_later_kinded : (p later : Option Property) → IfContentKinded kinds p → IfContentKinded kinds later → IfContentKinded kinds (or_later p later)
  or_later_kinded (Some p) later h l = h
  or_later_kinded None later h l = l

  property_from_kinded : (fuel : ℕ) (h : Heap) (key : Key) (n : Option ℕ) → IsHeapKinded kinds h → IfContentKinded kinds (property_from fuel h.store key n)
  unfolding property_from
  property_from_kinded zero h key n k = tt
  property_from_kinded (suc fuel) h key None k = tt
  property_from_kinded (suc fuel) h key (Some n) k =
      or_later_kinded (own_property (object_in h.store n) key) (property_from fuel h.store key (object_in h.store n).prototype)
      (own_property_kinded kinds (object_in h.store n) key (object_in_kinded kinds h n k)) (property_from_kinded fuel h key (object_in h.store n).prototype k)

  -- ---- [[Set]]

  cond_step : (b : Bool) (s : SetStep) → IsStepKinded kinds s → IsStepKinded kinds (cond b s RefusesSet)
  cond_step true s h = h
  cond_step false s h = tt

  set_own_kinded : (receiver : ℕ) (own : Option Property) (v : Value) → IsObject (kinds receiver) → IsValueKinded kinds v → IsStepKinded kinds (set_own receiver own v)
  set_own_kinded receiver None v r h = (r, record { value = h; get = tt; set = tt })
  set_own_kinded receiver (Some p) v r h = by_content p.content
    where
      by_content : (c : Content) → IsStepKinded kinds (set_own_content receiver c v)
      by_content (Accessor get set) = tt
      by_content (Data old writable) = cond_step writable (DefinesOn receiver (value_descriptor v)) (r, record { value = h; get = tt; set = tt })

  set_data_kinded : (s : Store) (key : Key) (v receiver : Value) → IsValueKinded kinds v → IsValueKinded kinds receiver → IsStepKinded kinds (set_data s key v receiver)
  set_data_kinded s key v (Object r) h k = set_own_kinded r (own_property (object_in s r) key) v k h
  set_data_kinded s key v Undefined h k = tt
  set_data_kinded s key v Null h k = tt
  set_data_kinded s key v (Boolean b) h k = tt
  set_data_kinded s key v (Number n) h k = tt
  set_data_kinded s key v (String t) h k = tt

  setter_kinded : (f : Value) → IsFunctionKinded kinds f → IsStepKinded kinds (set_by_setter f)
  setter_kinded Undefined h = tt
  setter_kinded Null h = h
  setter_kinded (Boolean b) h = h
  setter_kinded (Number n) h = h
  setter_kinded (String t) h = h
  setter_kinded (Object n) h = h

  set_content_kinded : (s : Store) (key : Key) (v receiver : Value) (c : Content) → IsValueKinded kinds v → IsValueKinded kinds receiver → IsContentKinded kinds c → IsStepKinded kinds (set_content s key v receiver c)
  set_content_kinded s key v receiver (Data old writable) h k c = cond_step writable (set_data s key v receiver) (set_data_kinded s key v receiver h k)
  set_content_kinded s key v receiver (Accessor get set) h k c = setter_kinded set c.1

  set_step_kinded : (s : Store) (key : Key) (v receiver : Value) (found : Option Property) → IsValueKinded kinds v → IsValueKinded kinds receiver → IfContentKinded kinds found → IsStepKinded kinds (set_step s key v receiver found)
  unfolding set_step
  set_step_kinded s key v receiver None h k c = set_data_kinded s key v receiver h k
  set_step_kinded s key v receiver (Some p) h k c = set_content_kinded s key v receiver p.content h k c

  -- ---- all questions

  pub reply_kinded : (q : Question) (w : World) → IsWorldKinded kinds w → IsQuestionKinded kinds q → IsReplyKinded kinds q (reply q w)
  unfolding reply find_property
  reply_kinded (TheClass n) w k b = (object_in_kinded kinds w.heap n k.heap).class
  reply_kinded (ThePrototype n) w k b = (object_in_kinded kinds w.heap n k.heap).prototype
  reply_kinded (IsExtensible n) w k b = tt
  reply_kinded (TheOwnProperty key n) w k b = own_property_kinded kinds (object_in w.heap.store n) key (object_in_kinded kinds w.heap n k.heap)
  reply_kinded (TheOwnKey place n) w k b = tt
  reply_kinded (IsOnChain p n) w k b = tt
  reply_kinded (TheCell n) w k b = cell_in_kinded kinds w.heap n k.heap
  reply_kinded (TheMark n) w k b = tt
  reply_kinded (TheProperty key n) w k b = property_from_kinded longest w.heap key (Some n) k.heap
  reply_kinded (TheSetStep key v receiver found) w k b = set_step_kinded w.heap.store key v receiver found b.0 b.1 b.2
  reply_kinded (TheIntrinsic i) w k b = k.heap.realm i
  reply_kinded (TheSort module_number function_number) w k b = tt
  reply_kinded TheInput w k b = tt
