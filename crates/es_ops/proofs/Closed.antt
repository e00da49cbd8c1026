-- A method on an object that holds only values of the profile and of things below m leaves one that does: the diagonal of
-- what is said of related objects.
use Rattle.std.proofs.Common.{ℕ, Bool, true, false, cond, not, ◌||◌, le_refl, sym, ◌∙◌, Option, IfSome}
use Rattle.js_value.specs.Value.{Key}
use Rattle.js_value.specs.Store.{Store, Property, ObjectRecord, own_property, with_property}
use Rattle.js_value.specs.Order.{IsOrderly}
use Rattle.js_value.specs.WellFormed.{IsContentBelow, IsObjectBelow}
use Rattle.es_ops.specs.InternalMethods.{Outcome, refused, unchanged, wrote, Method, DefineOwnProperty, Delete, PreventExtensions, SetPrototypeOf, Freeze, apply_method, set_prototype_of, same_prototype, on_chain, longest}
use Rattle.es_ops.specs.Laws.{IsMethodBelow}
use Rattle.es_ops.specs.Related.{BothOption, BothNone, BothSome, BothRecord, IsOneToOne}
use Rattle.es_ops.specs.Standing.{Below}
use Rattle.es_ops.proofs.Diagonal.{if_property_left, record_left, property_both, record_both, descriptor_both}
use Rattle.es_ops.proofs.RecordsRelated.{own_property_both}
use Rattle.es_ops.proofs.MethodsRelated.{BothOutcome, with_property_both, define_both, delete_both, prevent_both, freeze_both}

below_one : (m : ℕ) → IsOneToOne (Below m)
below_one m = record { forth = λ a b c r s. sym r.0 ∙ s.0; back = λ a b c r s. r.0 ∙ sym s.0 }

module _ (m : ℕ) where
  abbrev itself : (o : ObjectRecord) → IsObjectBelow m o → BothRecord (Below m) o o
  itself o h = record_both m m (le_refl m) o h

  pub with_property_below : (o : ObjectRecord) (key : Key) (p : Property) → IsContentBelow m p.content → IsObjectBelow m o → IsObjectBelow m (with_property o key p)
  with_property_below o key p c h = record_left (Below m) m (λ a b r. r.1) _ _ (with_property_both (Below m) (below_one m) o o key p p (itself o h) (property_both m m (le_refl m) p c))

  pub own_property_below : (o : ObjectRecord) (key : Key) → IsOrderly o → IsObjectBelow m o → IfSome (own_property o key) (λ p. IsContentBelow m p.content)
  own_property_below o key r h = if_property_left (Below m) m (λ a b r. r.1) _ _ (own_property_both (Below m) o o key r (itself o h))

  abbrev Leaves : Outcome → Type 0
  Leaves out = IfSome out.written (IsObjectBelow m)

  written_left : (x y : Option ObjectRecord) → BothOption (BothRecord (Below m)) x y → IfSome x (IsObjectBelow m)
  written_left x y BothNone = tt
  written_left x y (BothSome h) = record_left (Below m) m (λ a b r. r.1) _ _ h

  leaves : {x y : Outcome} → BothOutcome (Below m) x y → Leaves x
  leaves h = written_left _ _ h.written

  cond_leaves : (b : Bool) (x y : Outcome) → Leaves x → Leaves y → Leaves (cond b x y)
  cond_leaves true x y p q = p
  cond_leaves false x y p q = q

  pub method_below : (method : Method) (s : Store) (n : ℕ) (o : ObjectRecord) → IsMethodBelow m method → IsOrderly o → IsObjectBelow m o → Leaves (apply_method method s n o)
  unfolding apply_method set_prototype_of
  method_below (DefineOwnProperty key d) s n o b r h = leaves (define_both (Below m) (below_one m) o o key d d r (itself o h) (descriptor_both m m (le_refl m) d b.1))
  method_below (Delete key) s n o b r h = leaves (delete_both (Below m) (below_one m) o o key r (itself o h))
  method_below PreventExtensions s n o b r h = leaves (prevent_both (Below m) (below_one m) o o (itself o h))
  method_below (SetPrototypeOf v) s n o b r h =
      cond_leaves (same_prototype v o.prototype) unchanged _ tt
      (cond_leaves (not o.extensible || on_chain longest s n v) refused (wrote (record o { prototype = v })) tt (record { class = h.class; prototype = b; indexed = h.indexed; named = h.named }))
  method_below Freeze s n o b r h = leaves (freeze_both (Below m) (below_one m) o o (itself o h))
