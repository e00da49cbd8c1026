-- The realm, looked at in places.
use Rattle.std.proofs.Common.{◌≡◌, true, List, [], ◌∷◌, length, map, refl, pos, negsuc, Option, Some, None, slice_get, codes}
use Rattle.js_value.specs.Value.{Value, Number, String, Object, Text, Named}
use Rattle.js_value.specs.Store.{Class, Ordinary, Array, BuiltInFunction, Property, object_in, cell_in, own_property}
use Rattle.es_ops.specs.Intrinsics.{Intrinsic, place_of, ObjectPrototype, FunctionPrototype, ErrorPrototype, RangeErrorPrototype, ReferenceErrorPrototype, SyntaxErrorPrototype, TypeErrorPrototype, BooleanPrototype, NumberPrototype, MathObject, PromisePrototype, StringPrototype, ArrayPrototype, ObjectFunction, FunctionFunction, ErrorFunction, RangeErrorFunction, ReferenceErrorFunction, SyntaxErrorFunction, TypeErrorFunction, BooleanFunction, NumberFunction, ParseIntFunction, PromiseFunction, StringFunction, ArrayFunction, PrintCell, ReadCell}
use Rattle.es_ops.specs.Errors.{hidden}
use Rattle.es_ops.specs.Jobs.{fixed_data}
use Rattle.es_rows.specs.Realm.{realm_store, realm_places, realm_names, constant, named_rows, place_of_row}

abbrev class_at : Intrinsic → Class
class_at i = (object_in realm_store (place_of i)).class

abbrev property_at : Intrinsic → Text → Option Property
property_at i name = own_property (object_in realm_store (place_of i)) (Named name)

abbrev keys_at : Intrinsic → List Text
keys_at i = map (λ e. e.0) (object_in realm_store (place_of i)).named

abbrev points_to : Intrinsic → Value
points_to i = Object (place_of i)

-- thirteen things, the functions of 89 rows, two cells
things : length realm_store ∷ length named_rows ∷ length realm_places ∷ length realm_names ∷ [] ≡ 104 ∷ 89 ∷ 104 ∷ 139 ∷ []
unfolding realm_store realm_places realm_names
things = refl

-- the functions that operations and global names speak of stand at their places
functions_stand : map class_at (ObjectFunction ∷ FunctionFunction ∷ ErrorFunction ∷ RangeErrorFunction ∷ ReferenceErrorFunction ∷ SyntaxErrorFunction ∷ TypeErrorFunction ∷ BooleanFunction ∷ NumberFunction ∷ ParseIntFunction ∷ PromiseFunction ∷ StringFunction ∷ ArrayFunction ∷ FunctionPrototype ∷ [])
    ≡ map BuiltInFunction (1 ∷ 21 ∷ 25 ∷ 26 ∷ 27 ∷ 28 ∷ 29 ∷ 31 ∷ 33 ∷ 36 ∷ 44 ∷ 53 ∷ 70 ∷ 22 ∷ [])
unfolding realm_store object_in
functions_stand = refl

others_stand : map class_at (ObjectPrototype ∷ ErrorPrototype ∷ RangeErrorPrototype ∷ ReferenceErrorPrototype ∷ SyntaxErrorPrototype ∷ TypeErrorPrototype ∷ BooleanPrototype ∷ NumberPrototype ∷ MathObject ∷ PromisePrototype ∷ StringPrototype ∷ ArrayPrototype ∷ [])
    ≡ Ordinary ∷ Ordinary ∷ Ordinary ∷ Ordinary ∷ Ordinary ∷ Ordinary ∷ Ordinary ∷ Ordinary ∷ Ordinary ∷ Ordinary ∷ Ordinary ∷ Array 0 true ∷ []
unfolding realm_store object_in
others_stand = refl

-- each row's function stands at its place
rows_stand : map (λ r. (object_in realm_store (place_of_row r.row)).class) named_rows ≡ map (λ r. BuiltInFunction r.row) named_rows
unfolding realm_store object_in
rows_stand = refl

-- each function of a prototype points to it, and it points back
prototypes_pointed : map (λ i. property_at i (codes "prototype")) (ObjectFunction ∷ FunctionFunction ∷ ErrorFunction ∷ RangeErrorFunction ∷ ReferenceErrorFunction ∷ SyntaxErrorFunction ∷ TypeErrorFunction ∷ BooleanFunction ∷ NumberFunction ∷ PromiseFunction ∷ StringFunction ∷ ArrayFunction ∷ [])
    ≡ map (λ i. Some (constant (points_to i))) (ObjectPrototype ∷ FunctionPrototype ∷ ErrorPrototype ∷ RangeErrorPrototype ∷ ReferenceErrorPrototype ∷ SyntaxErrorPrototype ∷ TypeErrorPrototype ∷ BooleanPrototype ∷ NumberPrototype ∷ PromisePrototype ∷ StringPrototype ∷ ArrayPrototype ∷ [])
unfolding realm_store object_in own_property
prototypes_pointed = refl

constructors_pointed : map (λ i. property_at i (codes "constructor")) (ObjectPrototype ∷ FunctionPrototype ∷ ErrorPrototype ∷ RangeErrorPrototype ∷ ReferenceErrorPrototype ∷ SyntaxErrorPrototype ∷ TypeErrorPrototype ∷ BooleanPrototype ∷ NumberPrototype ∷ PromisePrototype ∷ StringPrototype ∷ ArrayPrototype ∷ [])
    ≡ map (λ i. Some (hidden (points_to i))) (ObjectFunction ∷ FunctionFunction ∷ ErrorFunction ∷ RangeErrorFunction ∷ ReferenceErrorFunction ∷ SyntaxErrorFunction ∷ TypeErrorFunction ∷ BooleanFunction ∷ NumberFunction ∷ PromiseFunction ∷ StringFunction ∷ ArrayFunction ∷ [])
unfolding realm_store object_in own_property
constructors_pointed = refl

-- whose prototype is what
parents : map (λ i. (object_in realm_store (place_of i)).prototype) (ObjectPrototype ∷ FunctionPrototype ∷ ErrorPrototype ∷ TypeErrorPrototype ∷ ArrayPrototype ∷ MathObject ∷ ErrorFunction ∷ TypeErrorFunction ∷ ParseIntFunction ∷ [])
    ≡ None ∷ Some 0 ∷ Some 0 ∷ Some 2 ∷ Some 0 ∷ Some 0 ∷ Some 1 ∷ Some 36 ∷ Some 1 ∷ []
unfolding realm_store object_in
parents = refl

-- the order of properties
number_keys : keys_at NumberFunction ≡ codes "length" ∷ codes "name" ∷ codes "prototype" ∷ codes "isInteger" ∷ codes "isSafeInteger" ∷ codes "parseInt" ∷ codes "MAX_SAFE_INTEGER" ∷ codes "MIN_SAFE_INTEGER" ∷ []
unfolding realm_store object_in
number_keys = refl

error_keys : keys_at ErrorPrototype ∷ keys_at TypeErrorPrototype ∷ [] ≡ (codes "constructor" ∷ codes "name" ∷ codes "message" ∷ codes "toString" ∷ []) ∷ (codes "constructor" ∷ codes "name" ∷ codes "message" ∷ []) ∷ []
unfolding realm_store object_in
error_keys = refl

function_keys : keys_at FunctionPrototype ∷ keys_at MathObject ∷ [] ≡ (codes "length" ∷ codes "name" ∷ codes "constructor" ∷ codes "call" ∷ codes "apply" ∷ []) ∷ (codes "abs" ∷ codes "clz32" ∷ codes "imul" ∷ codes "max" ∷ codes "min" ∷ codes "sign" ∷ []) ∷ []
unfolding realm_store object_in
function_keys = refl

parse_int_known : property_at ParseIntFunction (codes "length") ∷ property_at ParseIntFunction (codes "name") ∷ property_at NumberFunction (codes "parseInt") ∷ property_at NumberFunction (codes "MIN_SAFE_INTEGER") ∷ []
    ≡ Some (fixed_data (Number (pos 2))) ∷ Some (fixed_data (String (codes "parseInt"))) ∷ Some (hidden (points_to ParseIntFunction)) ∷ Some (constant (Number (negsuc 9007199254740990))) ∷ []
unfolding realm_store object_in own_property
parse_int_known = refl

host_cells : (cell_in realm_store (place_of PrintCell)).value ∷ (cell_in realm_store (place_of ReadCell)).value ∷ [] ≡ Some (Object (place_of_row 51)) ∷ Some (Object (place_of_row 52)) ∷ []
unfolding realm_store cell_in
host_cells = refl

-- names, the first one being the empty text, then after 24 words, 9 tags and 24 messages those of functions
some_names : slice_get realm_names 0 ∷ slice_get realm_names 23 ∷ slice_get realm_names 24 ∷ slice_get realm_names 33 ∷ slice_get realm_names 56 ∷ slice_get realm_names 57 ∷ slice_get realm_names 138 ∷ []
    ≡ Some [] ∷ Some (codes "host") ∷ Some (codes "[object Undefined]") ∷ Some (codes "number out of range") ∷ Some (codes "constructor returned a primitive") ∷ Some (codes "Object") ∷ Some (codes "MIN_SAFE_INTEGER") ∷ []
unfolding realm_names
some_names = refl
