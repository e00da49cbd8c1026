-- Texts as numbers and as keys, and the order of own keys, by computing.
use Rattle.std.proofs.Common.{◌≡◌, pos, negsuc, true, [], ◌∷◌, refl, Some, None, codes}
use Rattle.js_value.specs.Literal.{literal_number, digits_number}
use Rattle.js_value.specs.Numeral.{is_white_space}
use Rattle.js_value.specs.NumberText.{number_of_text}
use Rattle.js_value.specs.Value.{Value, Undefined, Index, Named, Numeral, key_of_text, key_of_number}
use Rattle.js_value.specs.Store.{ObjectRecord, Array, Property, Data, own_keys, with_property, object_size}

numbers : number_of_text (codes " 0x1F") ∷ number_of_text (codes "-12 ") ∷ number_of_text (codes "") ∷ number_of_text (codes "-0") ∷ number_of_text (codes "1e3") ∷ number_of_text (codes "9007199254740992") ∷ number_of_text (codes "007") ∷ []
    ≡ Some (pos 31) ∷ Some (negsuc 11) ∷ Some (pos 0) ∷ None ∷ None ∷ None ∷ Some (pos 7) ∷ []
unfolding literal_number is_white_space digits_number
numbers = refl

keys : key_of_text (codes "0") ∷ key_of_text (codes "4294967294") ∷ key_of_text (codes "4294967295") ∷ key_of_text (codes "01") ∷ key_of_number (pos 7) ∷ key_of_number (negsuc 0) ∷ []
    ≡ Index 0 ∷ Index 4294967294 ∷ Named (codes "4294967295") ∷ Named (codes "01") ∷ Index 7 ∷ Numeral (negsuc 0) ∷ []
unfolding digits_number
keys = refl

plain : Value → Property
plain v = record { content = Data v true; enumerable = true; configurable = true }

empty : ObjectRecord
empty = record { class = Array 3 true; prototype = None; extensible = true; indexed = []; named = [] }

filled : ObjectRecord
filled = with_property (with_property (with_property (with_property empty (Named (codes "b")) (plain Undefined)) (Index 2) (plain Undefined)) (Named (codes "a")) (plain Undefined)) (Index 0) (plain Undefined)

-- indices ascending, then strings in order of creation, an array's `length` first
key_order : own_keys filled ≡ Index 0 ∷ Index 2 ∷ Named (codes "length") ∷ Named (codes "b") ∷ Named (codes "a") ∷ []
unfolding filled with_property empty plain
key_order = refl

-- an array, its length, and four properties
filled_size : object_size filled ≡ 6
unfolding filled with_property empty plain
filled_size = refl
