-- A define that changes one field alone, and freezing.
use Rattle.std.proofs.Common.{◌≡◌, Bool, true, false, [], ◌∷◌, map, refl, Some, None, pos, codes}
use Rattle.js_value.specs.Value.{Value, Undefined, Number, Named}
use Rattle.js_value.specs.Store.{ObjectRecord, Property, Data, Accessor, is_frozen}
use Rattle.es_ops.specs.InternalMethods.{PropertyDescriptor, no_fields, value_descriptor, Outcome, refused, unchanged, wrote, define_own_property, freeze}
use Rattle.es_ops.proofs.Samples.{ordinary, array_of, plain, computing}

one : Value
one = Number (pos 1)

two : Value
two = Number (pos 2)

-- the descriptors with one field
with_value : Value → PropertyDescriptor
with_value v = value_descriptor v

with_writable : Bool → PropertyDescriptor
with_writable b = record no_fields { writable = Some b }

with_get : Value → PropertyDescriptor
with_get f = record no_fields { get = Some f }

with_set : Value → PropertyDescriptor
with_set f = record no_fields { set = Some f }

with_enumerable : Bool → PropertyDescriptor
with_enumerable b = record no_fields { enumerable = Some b }

with_configurable : Bool → PropertyDescriptor
with_configurable b = record no_fields { configurable = Some b }

-- an object with one property `a`, and what a define of `a` leaves
holder : Property → ObjectRecord
holder p = ordinary None ((codes "a", p) ∷ [])

defined : Property → PropertyDescriptor → Outcome
defined p d = define_own_property (holder p) (Named (codes "a")) d

leaves : Property → Outcome
leaves p = wrote (holder p)

data_of : Value → (writable enumerable configurable : Bool) → Property
data_of v writable enumerable configurable = record { content = Data v writable; enumerable = enumerable; configurable = configurable }

accessor_of : (get set : Value) → (enumerable configurable : Bool) → Property
accessor_of get set enumerable configurable = record { content = Accessor get set; enumerable = enumerable; configurable = configurable }

-- a configurable property takes each field
open_data : map (defined (data_of one true true true)) (with_value two ∷ with_writable false ∷ with_get one ∷ with_set two ∷ with_enumerable false ∷ with_configurable false ∷ no_fields ∷ [])
    ≡ leaves (data_of two true true true) ∷ leaves (data_of one false true true) ∷ leaves (accessor_of one Undefined true true) ∷ leaves (accessor_of Undefined two true true)
    ∷ leaves (data_of one true false true) ∷ leaves (data_of one true true false) ∷ unchanged ∷ []
unfolding computing one two with_value with_writable with_get with_set with_enumerable with_configurable holder defined leaves data_of accessor_of
open_data = refl

open_accessor : map (defined (accessor_of one two true true)) (with_value two ∷ with_writable true ∷ with_get two ∷ with_set one ∷ with_enumerable false ∷ with_configurable false ∷ [])
    ≡ leaves (data_of two false true true) ∷ leaves (data_of Undefined true true true) ∷ leaves (accessor_of two two true true) ∷ leaves (accessor_of one one true true)
    ∷ leaves (accessor_of one two false true) ∷ leaves (accessor_of one two true false) ∷ []
unfolding computing one two with_value with_writable with_get with_set with_enumerable with_configurable holder defined leaves data_of accessor_of
open_accessor = refl

-- one that is writable and not configurable takes a value, and gives up being writable
writable_data : map (defined (data_of one true true false)) (with_value two ∷ with_writable true ∷ with_writable false ∷ with_get one ∷ with_set one ∷ with_enumerable true ∷ with_enumerable false ∷ with_configurable false ∷ with_configurable true ∷ [])
    ≡ leaves (data_of two true true false) ∷ leaves (data_of one true true false) ∷ leaves (data_of one false true false) ∷ refused ∷ refused
    ∷ leaves (data_of one true true false) ∷ refused ∷ leaves (data_of one true true false) ∷ refused ∷ []
unfolding computing one two with_value with_writable with_get with_set with_enumerable with_configurable holder defined leaves data_of accessor_of
writable_data = refl

-- a fixed one takes what it has
fixed_data : map (defined (data_of one false true false)) (with_value one ∷ with_value two ∷ with_writable false ∷ with_writable true ∷ with_get one ∷ with_enumerable true ∷ with_enumerable false ∷ with_configurable true ∷ no_fields ∷ [])
    ≡ leaves (data_of one false true false) ∷ refused ∷ leaves (data_of one false true false) ∷ refused ∷ refused ∷ leaves (data_of one false true false) ∷ refused ∷ refused ∷ unchanged ∷ []
unfolding computing one two with_value with_writable with_get with_set with_enumerable with_configurable holder defined leaves data_of accessor_of
fixed_data = refl

fixed_accessor : map (defined (accessor_of one two true false)) (with_get one ∷ with_get two ∷ with_set two ∷ with_set one ∷ with_value one ∷ with_writable false ∷ [])
    ≡ leaves (accessor_of one two true false) ∷ refused ∷ leaves (accessor_of one two true false) ∷ refused ∷ refused ∷ refused ∷ []
unfolding computing one two with_value with_writable with_get with_set with_enumerable with_configurable holder defined leaves data_of accessor_of
fixed_accessor = refl

-- a new one: absent fields are false or undefined; an object that isn't extensible takes none
new_ones : map (define_own_property (ordinary None []) (Named (codes "a"))) (with_value two ∷ with_get one ∷ no_fields ∷ [])
    ≡ leaves (data_of two false false false) ∷ leaves (accessor_of one Undefined false false) ∷ leaves (data_of Undefined false false false) ∷ []
unfolding computing one two with_value with_writable with_get with_set with_enumerable with_configurable holder defined leaves data_of accessor_of
new_ones = refl

not_extensible : define_own_property (record (ordinary None []) { extensible = false }) (Named (codes "a")) (with_value two) ≡ refused
unfolding computing two with_value
not_extensible = refl

-- freezing an array fixes its elements and its length
frozen_array : freeze (array_of ((0, plain one) ∷ []) 1 true)
    ≡ wrote (record (array_of ((0, data_of one false true false) ∷ []) 1 false) { extensible = false })
unfolding computing one data_of
frozen_array = refl

-- with a writable length it is not frozen
nearly : ObjectRecord
nearly = record (array_of ((0, data_of one false true false) ∷ []) 1 true) { extensible = false }

nearly_frozen : is_frozen nearly ∷ is_frozen (record (array_of ((0, data_of one false true false) ∷ []) 1 false) { extensible = false }) ∷ is_frozen (record (ordinary None []) { extensible = false }) ∷ is_frozen (ordinary None []) ∷ []
    ≡ false ∷ true ∷ true ∷ false ∷ []
unfolding computing one data_of nearly
nearly_frozen = refl

-- a descriptor of both kinds is refused
mixed : defined (data_of one true true true) (record (with_get one) { value = Some one }) ≡ refused
unfolding computing one with_get holder defined data_of
mixed = refl
