-- Every built-in function is the same but for the numbers of things, and both laws of runs follow.
use Rattle.std.proofs.Common.{ℕ, ◌<◌, ◌≤◌, nat_lt, List, [], ◌∷◌, length, Option, refl, arith}
use Rattle.js_value.specs.Value.{Value}
use Rattle.js_value.specs.WellFormed.{IsValueBelow, IfValueBelow, AreValuesBelow}
use Rattle.es_ops.specs.State.{State}
use Rattle.es_ops.specs.Act.{Calls, run}
use Rattle.es_ops.specs.Laws.{IsWorldWellFormed, IsRanWellFormed, CallsWell}
use Rattle.es_ops.specs.Related.{Naming, BothOption, BothList, BothEmpty, BothCons, BothValue, IsOneToOne}
use Rattle.es_ops.specs.Standing.{Below}
use Rattle.es_ops.specs.Renaming.{Pairs, named, BothSides, BothRan, BothCalling}
use Rattle.es_ops.proofs.Parts.{cond_related}
use Rattle.es_ops.proofs.Diagonal.{value_both, if_value_both}
use Rattle.es_ops.proofs.MoreNames.{value_more, list_more, option_more}
use Rattle.es_ops.proofs.Stand.{stands_well}
use Rattle.es_ops.proofs.AppliesRelated.{runs_related}
use Rattle.es_ops.proofs.OperationsRelated.{below_one}
use Rattle.es_rows.specs.BuiltIns.{row}
use Rattle.es_rows.proofs.ArgumentsRelated.{BuiltInRelated}
use Rattle.es_rows.proofs.ObjectsRelated.{object_row_related}
use Rattle.es_rows.proofs.FunctionsRelated.{function_row_related, error_row_related, boolean_row_related, host_row_related}
use Rattle.es_rows.proofs.NumbersRelated.{number_row_related, math_row_related}
use Rattle.es_rows.proofs.PromisesRelated.{promise_row_related}
use Rattle.es_rows.proofs.StringRelated.{string_row_related}
use Rattle.es_rows.proofs.ArrayRelated.{array_row_related}

pub row_related : {R : Naming} → IsOneToOne R → (n f g : ℕ) (s t : Option Value) → R f g → BothOption (BothValue R) s t → BuiltInRelated R (row n f s) (row n g t)
unfolding row
row_related one n f g s t r e a x vs ws p q =
    cond_related (nat_lt n 21) _ _ _ _ (object_row_related one n f g s t r e a x vs ws p q)
    (cond_related (nat_lt n 25) _ _ _ _ (function_row_related n f g s t a x vs ws p q)
    (cond_related (nat_lt n 31) _ _ _ _ (error_row_related n f g s t r e a x vs ws p q)
    (cond_related (nat_lt n 33) _ _ _ _ (boolean_row_related n f g s t a x vs ws p q)
    (cond_related (nat_lt n 38) _ _ _ _ (number_row_related n f g s t a x vs ws p q)
    (cond_related (nat_lt n 44) _ _ _ _ (math_row_related n f g s t a x vs ws p q)
    (cond_related (nat_lt n 51) _ _ _ _ (promise_row_related one n f g s t r e a x vs ws p q)
    (cond_related (nat_lt n 53) _ _ _ _ (host_row_related n f g s t a x vs ws p q)
    (cond_related (nat_lt n 70) _ _ _ _ (string_row_related n f g s t a x vs ws p q)
    (array_row_related one n f g s t r e a x vs ws p q)))))))))

values_both : (k n : ℕ) → k ≤ n → (vs : List Value) → AreValuesBelow k vs → BothList (BothValue (Below n)) vs vs
values_both k n le [] h = BothEmpty
values_both k n le (v ∷ vs) h = BothCons (value_both k n le v h.0) (values_both k n le vs h.1)

-- (a) it leaves a well-formed world of no fewer things, and ends with a value of the profile and of that world
pub row_stands : (c : Calls) → CallsWell c → (r f : ℕ) (target : Option Value) (this : Value) (arguments : List Value) (s : State) → IsWorldWellFormed s.world
    → f < length s.world.heap.store → IfValueBelow (length s.world.heap.store) target → IsValueBelow (length s.world.heap.store) this → AreValuesBelow (length s.world.heap.store) arguments
    → IsRanWellFormed (length s.world.heap.store) (run c (row r f target this arguments) s)
row_stands c well r f target this vs s h i j k l = stands_well c well (row r f target this vs) s h (λ n le. row_related (below_one n) r f f target target (refl, omega (arith, i, le)) (if_value_both (length s.world.heap.store) n le target j) this this vs vs (value_both (length s.world.heap.store) n le this k) (values_both (length s.world.heap.store) n le vs l))

-- (b) it comes to the same over two worlds, but for the numbers of things
pub row_renamed : (c d : Calls) → BothCalling c d → (ps : Pairs) (r f g : ℕ) (x y : Option Value) (this that : Value) (vs ws : List Value) (s t : State)
    → named ps f g → BothOption (BothValue (named ps)) x y → BothValue (named ps) this that → BothList (BothValue (named ps)) vs ws → BothSides ps s t
    → BothRan ps (run c (row r f x this vs) s) (run d (row r g y that ws) t)
row_renamed c d calls ps r f g x y this that vs ws s t i j k l h = runs_related c d calls ps (row r f x this vs) (row r g y that ws) s t (λ qs e one.
    row_related one r f g x y (e f g i) (option_more (BothValue (named ps)) (BothValue (named qs)) (value_more (named ps) (named qs) e) j) this that vs ws (value_more (named ps) (named qs) e this that k) (list_more (BothValue (named ps)) (BothValue (named qs)) (value_more (named ps) (named qs) e) l)) h
