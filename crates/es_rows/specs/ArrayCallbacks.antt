-- The methods of Array.prototype that call a function for each item (ECMA-262 23.1.3), and reduce.
use Rattle.std.specs.Prelude.{ℕ, suc, ◌-◌, Bool, true, false, cond, List, [], ◌∷◌, pos, negsuc, None}
use Rattle.js_value.specs.Value.{Value, Undefined, Boolean, Number, Object}
use Rattle.es_ops.specs.Messages.{EmptyArray}
use Rattle.es_ops.specs.Act.{Act, Give, Call}
use Rattle.es_ops.specs.Errors.{raise}
use Rattle.es_ops.specs.Conversions.{to_boolean}
use Rattle.es_rows.specs.Arguments.{first, second, callable_expected}
use Rattle.es_rows.specs.ArrayLikes.{array_like, get_index, create_index, each, each_present, each_present_with, result_array}

-- A visit calls the function with a value, its index and the object, with the `this` that was given for it.
pub record Visitor : Type 0 where
  pub callback : Value
  pub this : Value
  pub object : ℕ

abbrev pub visit : Visitor → (at : ℕ) → Value → (Value → Act) → Act
visit f at v k = Call f.callback f.this (v ∷ Number (pos at) ∷ Object f.object ∷ []) None k

-- what these methods begin with: the receiver, its length, the callback
abbrev pub visiting : Value → List Value → (Visitor → (size : ℕ) → Act) → Act
visiting this arguments k =
    array_like this (λ o size.
    callable_expected (first arguments) (k (record { callback = first arguments; this = second arguments; object = o }) size))

-- 73, every (23.1.3.6)
unfoldable pub every : Value → List Value → Act
every this arguments = visiting this arguments (λ f size.
    each_present f.object (λ at v next. visit f at v (λ test. cond (to_boolean test) (next tt) (Give (Boolean false))))
    (λ _. Give (Boolean true)) size 0 tt)

-- 89, some (23.1.3.29)
unfoldable pub some : Value → List Value → Act
some this arguments = visiting this arguments (λ f size.
    each_present f.object (λ at v next. visit f at v (λ test. cond (to_boolean test) (Give (Boolean true)) (next tt)))
    (λ _. Give (Boolean false)) size 0 tt)

-- 78, forEach (23.1.3.15)
unfoldable pub for_each : Value → List Value → Act
for_each this arguments = visiting this arguments (λ f size.
    each_present f.object (λ at v next. visit f at v (λ _. next tt)) (λ _. Give Undefined) size 0 tt)

-- 75, filter (23.1.3.8): the state is the next index of the result
abbrev pub keep : (result to : ℕ) → Value → (selected : Bool) → (ℕ → Act) → Act
keep a to v selected next = cond selected (create_index a to v (λ _. next (suc to))) (next to)

unfoldable pub filter : Value → List Value → Act
filter this arguments = visiting this arguments (λ f size.
    result_array 0 (λ a.
    each_present_with f.object (λ at v to next. visit f at v (λ test. keep a to v (to_boolean test) next)) (λ _. Give (Object a)) size 0 0))

-- 82, map (23.1.3.21)
unfoldable pub map : Value → List Value → Act
map this arguments = visiting this arguments (λ f size.
    result_array size (λ a.
    each_present f.object (λ at v next. visit f at v (λ mapped. create_index a at mapped next)) (λ _. Give (Object a)) size 0 tt))

-- FindViaPredicate (23.1.3.12.1), by what is given for the item that is found; an absent index is visited as undefined
abbrev pub find_via_predicate : Value → List Value → (found : ℕ → Value → Value) → (otherwise : Value) → Act
find_via_predicate this arguments found otherwise = visiting this arguments (λ f size.
    each (λ at next. get_index f.object at (λ v. visit f at v (λ test. cond (to_boolean test) (Give (found at v)) (next tt))))
    (λ _. Give otherwise) size 0 tt)

-- 76, find (23.1.3.9)
unfoldable pub find : Value → List Value → Act
find this arguments = find_via_predicate this arguments (λ at v. v) Undefined

-- 77, findIndex (23.1.3.10)
unfoldable pub find_index : Value → List Value → Act
find_index this arguments = find_via_predicate this arguments (λ at v. Number (pos at)) (Number (negsuc 0))

-- 85, reduce (23.1.3.24): step 9, from an index on with what is accumulated
abbrev pub reduce_from : (callback : Value) → (object : ℕ) → (count at : ℕ) → (accumulator : Value) → Act
reduce_from callback o count at accumulator =
    each_present_with o (λ i v x next. Call callback Undefined (x ∷ v ∷ Number (pos i) ∷ Object o ∷ []) None next) Give count at accumulator

-- step 8: the first value that is there is what is accumulated, behind it
abbrev pub reduce_from_first : (callback : Value) → (object size : ℕ) → Act
reduce_from_first callback o size =
    each_present o (λ i v next. reduce_from callback o (size - suc i) (suc i) v) (λ _. raise EmptyArray) size 0 tt

abbrev pub reduce_by : List Value → (object size : ℕ) → Act
reduce_by (callback ∷ initial ∷ arguments) o size = reduce_from callback o size 0 initial
reduce_by arguments o size = reduce_from_first (first arguments) o size

unfoldable pub reduce : Value → List Value → Act
reduce this arguments = array_like this (λ o size. callable_expected (first arguments) (reduce_by arguments o size))
