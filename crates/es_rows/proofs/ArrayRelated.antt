-- The functions of Array are the same but for the numbers of things.
use Rattle.std.proofs.Common.{◌≡◌, ℕ, suc, ◌+◌, ◌≤◌, List, [], ◌∷◌, length, pos, negsuc, Option, None, arith, codes}
use Rattle.js_value.specs.Number.{greatest}
use Rattle.js_value.specs.Value.{Value, Named}
use Rattle.es_ops.specs.Intrinsics.{ArrayPrototype}
use Rattle.es_ops.specs.Messages.{InvalidArrayLength}
use Rattle.es_ops.specs.Related.{Naming, BothOption, BothNone, BothSome, BothList, BothEmpty, BothCons, BothValue, BothUndefined, BothNull, BothBoolean, BothNumber, BothString, BothObject, Related, BothGive, BothCall, IsOneToOne}
use Rattle.es_ops.proofs.Parts.{cond_related}
use Rattle.es_ops.proofs.ReadsRelated.{raise_related, is_callable_related, get_related}
use Rattle.es_ops.proofs.CallingRelated.{prototype_from_related}
use Rattle.es_rows.specs.Array.{target_or, create_items, array_of, array_with, array, is_array, to_string, array_row}
use Rattle.es_rows.proofs.ArgumentsRelated.{argument_related, object_expected_related, BuiltInRelated, BothRow, BothEnd, call_row_related}
use Rattle.es_rows.proofs.ObjectsRelated.{object_row_related}
use Rattle.es_rows.proofs.ArrayLikesRelated.{array_create_related, create_index_related, is_array_value_related}
use Rattle.es_rows.proofs.ArrayCallbacksRelated.{every_related, some_related, for_each_related, filter_related, map_related, find_related, find_index_related, reduce_related}
use Rattle.es_rows.proofs.ArrayReadsRelated.{concat_related, includes_related, index_of_related, join_related, slice_related}
use Rattle.es_rows.proofs.ArrayWritesRelated.{both_length, fill_related, pop_related, push_related, reverse_related, shift_related, splice_related, unshift_related}

-- ---- the constructor

create_items_related : {R : Naming} (m n at : ℕ) (vs ws : List Value) → R m n → length vs + at ≤ greatest → BothList (BothValue R) vs ws → Related R (create_items m at vs) (create_items n at ws)
create_items_related m n at vs ws r i BothEmpty = BothGive (BothObject r)
create_items_related m n at (v ∷ vs) (w ∷ ws) r i (BothCons c cs) = create_index_related m n at v w _ _ r (omega (arith, i)) c (λ _. create_items_related m n (suc at) vs ws r (omega (arith, i)) cs)

array_of_related : {R : Naming} (count other p q : ℕ) (vs ws : List Value) → count ≡ other → R p q → length vs ≤ other → BothList (BothValue R) vs ws → Related R (array_of count vs p) (array_of other ws q)
array_of_related count other p q vs ws e r l c = rw e (array_create_related other p q _ _ r (λ i m n t. create_items_related m n 0 vs ws t (omega (arith, i, l)) c))

items_related : {R : Naming} (p q : ℕ) (vs ws : List Value) → R p q → BothList (BothValue R) vs ws → Related R (array_of (length vs) vs p) (array_of (length ws) ws q)
items_related p q vs ws r c = let e = both_length c in array_of_related (length vs) (length ws) p q vs ws e r (omega (arith, e)) c

array_with_related : {R : Naming} (vs ws : List Value) (p q : ℕ) → BothList (BothValue R) vs ws → R p q → Related R (array_with vs p) (array_with ws q)
array_with_related vs ws p q BothEmpty r = array_create_related 0 p q _ _ r (λ i m n t. BothGive (BothObject t))
array_with_related (v ∷ vs) (w ∷ ws) p q (BothCons (BothNumber {n = pos n} i) BothEmpty) r = array_create_related n p q _ _ r (λ i m n t. BothGive (BothObject t))
array_with_related (v ∷ vs) (w ∷ ws) p q (BothCons (BothNumber {n = negsuc n} i) BothEmpty) r = raise_related InvalidArrayLength
array_with_related (v ∷ vs) (w ∷ ws) p q (BothCons BothUndefined BothEmpty) r = items_related p q _ _ r (BothCons BothUndefined BothEmpty)
array_with_related (v ∷ vs) (w ∷ ws) p q (BothCons BothNull BothEmpty) r = items_related p q _ _ r (BothCons BothNull BothEmpty)
array_with_related (v ∷ vs) (w ∷ ws) p q (BothCons BothBoolean BothEmpty) r = items_related p q _ _ r (BothCons BothBoolean BothEmpty)
array_with_related (v ∷ vs) (w ∷ ws) p q (BothCons (BothString i) BothEmpty) r = items_related p q _ _ r (BothCons (BothString i) BothEmpty)
array_with_related (v ∷ vs) (w ∷ ws) p q (BothCons (BothObject t) BothEmpty) r = items_related p q _ _ r (BothCons (BothObject t) BothEmpty)
array_with_related (v ∷ x ∷ vs) (w ∷ y ∷ ws) p q (BothCons (BothNumber {n = pos n} i) (BothCons d ds)) r = items_related p q _ _ r (BothCons (BothNumber i) (BothCons d ds))
array_with_related (v ∷ x ∷ vs) (w ∷ y ∷ ws) p q (BothCons (BothNumber {n = negsuc n} i) (BothCons d ds)) r = items_related p q _ _ r (BothCons (BothNumber i) (BothCons d ds))
array_with_related (v ∷ x ∷ vs) (w ∷ y ∷ ws) p q (BothCons BothUndefined (BothCons d ds)) r = items_related p q _ _ r (BothCons BothUndefined (BothCons d ds))
array_with_related (v ∷ x ∷ vs) (w ∷ y ∷ ws) p q (BothCons BothNull (BothCons d ds)) r = items_related p q _ _ r (BothCons BothNull (BothCons d ds))
array_with_related (v ∷ x ∷ vs) (w ∷ y ∷ ws) p q (BothCons BothBoolean (BothCons d ds)) r = items_related p q _ _ r (BothCons BothBoolean (BothCons d ds))
array_with_related (v ∷ x ∷ vs) (w ∷ y ∷ ws) p q (BothCons (BothString i) (BothCons d ds)) r = items_related p q _ _ r (BothCons (BothString i) (BothCons d ds))
array_with_related (v ∷ x ∷ vs) (w ∷ y ∷ ws) p q (BothCons (BothObject t) (BothCons d ds)) r = items_related p q _ _ r (BothCons (BothObject t) (BothCons d ds))

target_related : {R : Naming} (s t : Option Value) (f g : ℕ) → R f g → BothOption (BothValue R) s t → BothValue R (target_or s f) (target_or t g)
target_related s t f g r BothNone = BothObject r
target_related s t f g r (BothSome b) = b

pub array_related : {R : Naming} (f g : ℕ) (s t : Option Value) → R f g → BothOption (BothValue R) s t → BuiltInRelated R (λ this arguments. array f s arguments) (λ this arguments. array g t arguments)
unfolding array
array_related f g s t r h this that vs ws b c = prototype_from_related ArrayPrototype _ _ (target_related s t f g r h) (λ p q e. array_with_related vs ws p q c e)

pub is_array_related : {R : Naming} → BuiltInRelated R is_array is_array
unfolding is_array
is_array_related this that vs ws b c = is_array_value_related _ _ _ _ (argument_related vs ws 0 c) (λ is. BothGive BothBoolean)

pub to_string_related : {R : Naming} → IsOneToOne R → BuiltInRelated R to_string to_string
unfolding to_string
to_string_related one this that vs ws b c =
    object_expected_related this that _ _ b (λ m n r.
    get_related m n (Named (codes "join")) _ _ r (λ v w d.
    is_callable_related _ _ d (λ callable. cond_related callable _ _ _ _ (BothCall d b BothEmpty BothNone (λ x y e. BothGive e)) (object_row_related one 19 m n None None r BothNone this that [] [] b BothEmpty))))

-- ---- the rows

pub array_row_related : {R : Naming} → IsOneToOne R → (n f g : ℕ) (s t : Option Value) → R f g → BothOption (BothValue R) s t → BuiltInRelated R (array_row n f s) (array_row n g t)
unfolding array_row
array_row_related one n f g s t r h = call_row_related
    (BothRow (array_related f g s t r h) (BothRow is_array_related (BothRow concat_related (BothRow every_related
    (BothRow fill_related (BothRow filter_related (BothRow find_related (BothRow find_index_related (BothRow for_each_related
    (BothRow (includes_related one) (BothRow (index_of_related one) (BothRow join_related (BothRow map_related
    (BothRow pop_related (BothRow push_related (BothRow reduce_related (BothRow reverse_related (BothRow shift_related
    (BothRow slice_related (BothRow some_related (BothRow splice_related (BothRow (to_string_related one)
    (BothRow unshift_related BothEnd))))))))))))))))))))))) n
