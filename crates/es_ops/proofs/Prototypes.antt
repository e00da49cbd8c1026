-- All methods but [[SetPrototypeOf]] keep an object's prototype.
use Rattle.std.proofs.Common.{◌≡◌, ℕ, Option, IfSome, refl}
use Rattle.js_value.specs.Value.{Key}
use Rattle.js_value.specs.Store.{Property, ObjectRecord, with_property}
use Rattle.es_ops.specs.InternalMethods.{PropertyDescriptor, define_own_property, delete_own_property}
use Rattle.es_ops.proofs.PropertiesKeep.{property_keeps, defined_keeps, deleted_keeps}

abbrev Has : Option ℕ → ObjectRecord → Type 0
Has prototype o = o.prototype ≡ prototype

pub define_prototype : (o : ObjectRecord) (key : Key) (d : PropertyDescriptor) → IfSome (define_own_property o key d).written (λ after. after.prototype ≡ o.prototype)
define_prototype o key d = defined_keeps (Has o.prototype) (Unit {0}) (λ o a h. tt) (λ o es h. h) (λ o es h. h) (λ o n w a h. h) o key d refl

pub delete_prototype : (o : ObjectRecord) (key : Key) → IfSome (delete_own_property o key).written (λ after. after.prototype ≡ o.prototype)
delete_prototype o key = deleted_keeps (Has o.prototype) (Unit {0}) (λ o a h. tt) (λ o es h. h) (λ o es h. h) (λ o n w a h. h) o key refl

pub with_property_prototype : (o : ObjectRecord) (key : Key) (p : Property) → (with_property o key p).prototype ≡ o.prototype
with_property_prototype o key p = property_keeps (Has o.prototype) (Unit {0}) (λ o a h. tt) (λ o es h. h) (λ o es h. h) (λ o n w a h. h) o key p refl
