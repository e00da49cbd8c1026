-- The methods of Array.prototype that read the receiver are the same but for the numbers of things.
use Rattle.std.proofs.Common.{◌≡◌, ℕ, zero, suc, ◌+◌, ◌-◌, ◌≤◌, Bool, true, false, cond, nat_eq, List, [], ◌∷◌, ◌++◌, pos, negsuc, refl, arith, lit≤, codes}
use Rattle.js_value.specs.Number.{greatest}
use Rattle.js_value.specs.Value.{Value, Boolean, Number, Text}
use Rattle.js_value.specs.Order.{AreUnits, IsString}
use Rattle.js_value.proofs.Profile.{string_tested}
use Rattle.es_ops.specs.Equality.{same_value_zero, is_strictly_equal}
use Rattle.es_ops.specs.Act.{Act, Give, Turn}
use Rattle.es_ops.specs.Related.{Naming, BothList, BothEmpty, BothCons, BothValue, BothUndefined, BothNull, BothBoolean, BothNumber, BothString, BothObject, Related, BothGive, BothTurn, Then, ThenSame, IsOneToOne}
use Rattle.es_ops.proofs.Parts.{cond_related}
use Rattle.es_ops.proofs.ReadsRelated.{made_text_related, units_joined, text_expected_related}
use Rattle.es_ops.proofs.WritesRelated.{same_value_related}
use Rattle.es_rows.specs.ArrayLikes.{Next, create_index, if_present}
use Rattle.es_rows.specs.ArrayReads.{spread, concat_item, concat_items, concat, includes_from, searched, includes, index_of_from, index_of, separator_expected, item_text, separated, join_from, join, copy_range, slice}
use Rattle.es_rows.proofs.ArgumentsRelated.{argument_related, object_expected_related, BuiltInRelated}
use Rattle.es_rows.proofs.PositionsRelated.{natural, relative_position_related}
use Rattle.es_rows.proofs.ArrayLikesRelated.{ThenNext, array_like_related, length_in_range_related, get_index_related, if_present_related, set_length_related, create_index_related, each_related, each_with_related, each_present_related, result_array_related, is_array_value_related}
use Rattle.es_rows.proofs.ArrayCallbacksRelated.{Leaves}

-- ---- concat

-- an index of the result
abbrev pub InRange : ℕ → ℕ → Type 0
InRange x y = (x ≡ y) × (y ≤ greatest)

spread_related : {R : Naming} (m n o p size to : ℕ) (k l : ℕ → Act) → R m n → R o p → size ≤ greatest → to + size ≤ greatest → Then R InRange k l → Related R (spread m o size k to) (spread n p size l to)
spread_related m n o p size to k l r q i j h =
    each_with_related Leaves greatest (λ at x next. if_present o at (λ v. create_index m x v (λ _. next (suc x))) (λ _. next (suc x))) (λ at x next. if_present p at (λ v. create_index n x v (λ _. next (suc x))) (λ _. next (suc x))) k l
    (λ count at x y f g b c u. let bound = c.1 in rw c.0 (if_present_related o p at _ _ (λ _. f (suc y)) (λ _. g (suc y)) q
    (λ v w d. create_index_related m n y v w (λ _. f (suc y)) (λ _. g (suc y)) r (omega (arith, bound)) d (λ _. u (suc y) (suc y) (refl, omega (arith, bound))))
    (λ _. u (suc y) (suc y) (refl, omega (arith, bound)))))
    (λ x y e. let bound = e.1 in h x y (e.0, omega (arith, bound))) size 0 to to (omega (arith, i)) (refl, j)

concat_item_related : {R : Naming} (m n to : ℕ) (v w : Value) (is_array : Bool) (k l : ℕ → Act) → R m n → BothValue R v w → Then R InRange k l → Related R (concat_item m v is_array k to) (concat_item n w is_array l to)
concat_item_related m n to v w true k l r b h = array_like_related v w _ _ b (λ o p size q i. length_in_range_related (to + size) _ _ (λ j u. spread_related m n o p size to k l r q i j h))
concat_item_related m n to v w false k l r b h = length_in_range_related (suc to) (λ _. Turn (create_index m to v (λ _. k (suc to)))) (λ _. Turn (create_index n to w (λ _. l (suc to)))) (λ j u. BothTurn (create_index_related m n to v w (λ _. k (suc to)) (λ _. l (suc to)) r (omega (arith, j)) b (λ _. h (suc to) (suc to) (refl, j))))

concat_items_related : {R : Naming} (m n to : ℕ) (vs ws : List Value) → R m n → to ≤ greatest → BothList (BothValue R) vs ws → Related R (concat_items m vs to) (concat_items n ws to)
concat_items_related m n to vs ws r i BothEmpty = set_length_related m n to _ _ r i (λ _. BothGive (BothObject r))
concat_items_related m n to (v ∷ vs) (w ∷ ws) r i (BothCons c cs) = is_array_value_related v w _ _ c (λ is. concat_item_related m n to v w is (concat_items m vs) (concat_items n ws) r c (λ x y e. rw e.0 (concat_items_related m n y vs ws r e.1 cs)))

pub concat_related : {R : Naming} → BuiltInRelated R concat concat
unfolding concat
concat_related this that vs ws b c = object_expected_related this that _ _ b (λ o p q. result_array_related 0 _ _ (λ m n r. concat_items_related m n 0 (this ∷ vs) (that ∷ ws) r (lit≤ tt) (BothCons b c)))

-- ---- searches

includes_from_related : {R : Naming} → IsOneToOne R → (m n : ℕ) (v w : Value) (count at : ℕ) → R m n → BothValue R v w → count + at ≤ greatest → Related R (includes_from m v count at) (includes_from n w count at)
includes_from_related one m n v w count at r b i =
    each_related greatest _ _ _ _ (λ j k l q u. get_index_related m n j (λ x. cond (same_value_zero x v) (Give (Boolean true)) (k tt)) (λ x. cond (same_value_zero x w) (Give (Boolean true)) (l tt)) r (λ x y e. rw (same_value_related one e b) (cond_related (same_value_zero y w) _ _ _ _ (BothGive BothBoolean) (u tt))))
    (λ _. BothGive (BothBoolean {b = false})) count at i tt

index_of_from_related : {R : Naming} → IsOneToOne R → (m n : ℕ) (v w : Value) (count at : ℕ) → R m n → BothValue R v w → count + at ≤ greatest → Related R (index_of_from m v count at) (index_of_from n w count at)
index_of_from_related one m n v w count at r b i =
    each_present_related m n greatest (λ j x next. cond (is_strictly_equal x v) (Give (Number (pos j))) (next tt)) (λ j x next. cond (is_strictly_equal x w) (Give (Number (pos j))) (next tt)) _ _ r
    (λ j x y k l q e u. rw (same_value_related one e b) (cond_related (is_strictly_equal y w) _ _ _ _ (BothGive (BothNumber (natural j (omega (arith, q))))) (u tt)))
    (λ _. BothGive (BothNumber {n = negsuc 0} (record { bound = lit≤ tt }))) count at i

searched_related : {R : Naming} (this that : Value) (vs ws : List Value) (otherwise : Value) (k l : (object : ℕ) → (sought : Value) → (count at : ℕ) → Act) → BothValue R this that → BothList (BothValue R) vs ws → BothValue R otherwise otherwise → ((m n : ℕ) (v w : Value) (count at : ℕ) → R m n → BothValue R v w → count + at ≤ greatest → Related R (k m v count at) (l n w count at)) → Related R (searched this vs otherwise k) (searched that ws otherwise l)
searched_related this that vs ws otherwise k l b c o h =
    array_like_related this that _ _ b (λ m n size r i.
    cond_related (nat_eq size 0) _ _ _ _ (BothGive o)
    (relative_position_related 0 _ _ size _ _ (lit≤ tt) (argument_related vs ws 1 c) (λ at j. h m n _ _ (size - at) at r (argument_related vs ws 0 c) (omega (arith, i, j)))))

pub includes_related : {R : Naming} → IsOneToOne R → BuiltInRelated R includes includes
unfolding includes
includes_related one this that vs ws b c = searched_related this that vs ws (Boolean false) _ _ b c BothBoolean (includes_from_related one)

pub index_of_related : {R : Naming} → IsOneToOne R → BuiltInRelated R index_of index_of
unfolding index_of
index_of_related one this that vs ws b c = searched_related this that vs ws (Number (negsuc 0)) _ _ b c (BothNumber (record { bound = lit≤ tt })) (index_of_from_related one)

-- ---- join

separator_related : {R : Naming} (v w : Value) (k l : Text → Act) → BothValue R v w → ThenSame R IsString k l → Related R (separator_expected v k) (separator_expected w l)
separator_related v w k l BothUndefined h = h (codes ",") (string_tested (codes ",") refl)
separator_related v w k l BothNull h = text_expected_related _ _ k l BothNull h
separator_related v w k l BothBoolean h = text_expected_related _ _ k l BothBoolean h
separator_related v w k l (BothNumber i) h = text_expected_related _ _ k l (BothNumber i) h
separator_related v w k l (BothString i) h = text_expected_related _ _ k l (BothString i) h
separator_related v w k l (BothObject r) h = text_expected_related _ _ k l (BothObject r) h

item_related : {R : Naming} (v w : Value) (k l : Text → Act) → BothValue R v w → ThenSame R IsString k l → Related R (item_text v k) (item_text w l)
item_related v w k l BothUndefined h = h [] (string_tested [] refl)
item_related v w k l BothNull h = h [] (string_tested [] refl)
item_related v w k l BothBoolean h = text_expected_related _ _ k l BothBoolean h
item_related v w k l (BothNumber i) h = text_expected_related _ _ k l (BothNumber i) h
item_related v w k l (BothString i) h = text_expected_related _ _ k l (BothString i) h
item_related v w k l (BothObject r) h = text_expected_related _ _ k l (BothObject r) h

units_separated : (separator : Text) (at : ℕ) (before item : Text) → AreUnits separator → AreUnits before → AreUnits item → AreUnits (separated separator at before item)
units_separated separator zero before item h g f = f
units_separated separator (suc at) before item h g f = units_joined (before ++ separator) item (units_joined before separator g h) f

-- what is joined so far
abbrev pub Joined : ℕ → Text → Text → Type 0
Joined count s t = (s ≡ t) × AreUnits t

join_from_related : {R : Naming} (m n size : ℕ) (separator : Text) → R m n → size ≤ greatest → AreUnits separator → Related R (join_from m size separator) (join_from n size separator)
join_from_related m n size separator r i a =
    each_with_related Joined greatest _ _ _ _
    (λ count at s t k l q e u. get_index_related m n at (λ v. item_text v (λ item. k (separated separator at s item))) (λ v. item_text v (λ item. l (separated separator at t item))) r (λ v w b. item_related v w _ _ b (λ item j. rw e.0 (u _ _ (refl, units_separated separator at t item a e.1 j.units)))))
    (λ s t e. rw e.0 (made_text_related t Give Give e.1 (λ v w b. BothGive b))) size 0 [] [] (omega (arith, i)) (refl, tt)

pub join_related : {R : Naming} → BuiltInRelated R join join
unfolding join
join_related this that vs ws b c = array_like_related this that _ _ b (λ m n size r i. separator_related _ _ _ _ (argument_related vs ws 0 c) (λ separator j. join_from_related m n size separator r i j.units))

-- ---- slice

pub copy_range_related : {R : Naming} (m n o p count at : ℕ) (e d : Next) → R m n → R o p → count ≤ greatest → ThenNext R e d → Related R (copy_range m o count at e) (copy_range n p count at d)
copy_range_related m n o p count at e d r q i h =
    each_related count _ _ e d (λ j k l b u. if_present_related o p (at + j) _ _ k l q (λ v w c. create_index_related m n j v w k l r (omega (arith, b, i)) c u) u) h count 0 (omega arith) tt

pub slice_related : {R : Naming} → BuiltInRelated R slice slice
unfolding slice
slice_related this that vs ws b c =
    array_like_related this that _ _ b (λ o p size q i.
    relative_position_related 0 _ _ size _ _ (lit≤ tt) (argument_related vs ws 0 c) (λ from f.
    relative_position_related size _ _ size _ _ i (argument_related vs ws 1 c) (λ to g.
    result_array_related (to - from) _ _ (λ m n r. copy_range_related m n o p (to - from) from _ _ r q (omega (arith, g, i)) (λ _. set_length_related m n (to - from) _ _ r (omega (arith, g, i)) (λ _. BothGive (BothObject r)))))))
