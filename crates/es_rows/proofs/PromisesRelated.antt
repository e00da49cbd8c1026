-- The functions of Promise and of Promise.prototype, and resolving functions, are the same but for the numbers of things.
use Rattle.std.proofs.Common.{ℕ, List, refl, Option, codes}
use Rattle.js_value.specs.Value.{Value, Named}
use Rattle.js_value.specs.Store.{Class}
use Rattle.js_value.specs.Order.{IsOrderly}
use Rattle.es_ops.specs.Intrinsics.{PromisePrototype}
use Rattle.es_ops.specs.Messages.{CalledWithoutNew, WrongReceiver}
use Rattle.es_ops.specs.Act.{Completion, Give}
use Rattle.es_ops.specs.Jobs.{promise_record}
use Rattle.es_ops.specs.Related.{Naming, BothOption, BothNone, BothSome, BothList, BothEmpty, BothCons, BothValue, BothUndefined, BothNull, BothBoolean, BothNumber, BothString, BothObject, BothPending, BothClass, BothOrdinary, BothArray, BothScript, BothBuiltIn, BothResolve, BothReject, BothError, BothPromise, BothAnObject, BothCompletion, BothNormal, BothThrow, Related, BothGive, BothCall, BothTry, Then, IsOneToOne}
use Rattle.es_ops.proofs.Acting.{ask_class, do_make}
use Rattle.es_ops.proofs.ReadsRelated.{raise_related, get_v_related}
use Rattle.es_ops.proofs.JobsRelated.{reject_related, resolve_related, create_functions_related, first_call_related, call_resolve_related, call_reject_related, make_promise_related, promise_then_related}
use Rattle.es_ops.proofs.CallingRelated.{prototype_from_related}
use Rattle.es_rows.specs.Promise.{executed, execute, promise_for, promise_by, promise, promise_with, promise_by_class, resolved, resolve, reject, then_by_class, then_function, catch_function, resolve_by_class, resolve_function, reject_by_class, reject_function, promise_row}
use Rattle.es_rows.proofs.ArgumentsRelated.{first_related, second_related, callable_expected_related, BuiltInRelated, BothEnd, BothRow, call_row_related}

given : {R : Naming} → Then R (BothValue R) Give Give
given v w b = BothGive b

-- ---- the constructor

executed_related : {R : Naming} (p q m n : ℕ) {c d : Completion} → R p q → R m n → BothCompletion R c d → Related R (executed p m c) (executed q n d)
executed_related p q m n r s (BothNormal b) = BothGive (BothObject r)
executed_related p q m n r s (BothThrow b) = first_call_related m n _ _ _ _ s (reject_related p q _ _ _ _ r b (BothGive (BothObject r))) (BothGive (BothObject r))

execute_related : {R : Naming} (p q : ℕ) {f g : Value} → BothValue R f g → R p q → Related R (execute f p) (execute g q)
execute_related p q b r = create_functions_related p q _ _ r (λ m resolve reject n next other s t u. BothTry b BothUndefined (BothCons (BothObject t) (BothCons (BothObject u) BothEmpty)) BothNone (λ c d e. executed_related p q m n r s e))

promise_orderly : (p : ℕ) → IsOrderly (promise_record p)
promise_orderly p = record { indices = tt; range = tt; length = tt; names = tt; distinct = tt; no_length = tt }

promise_for_related : {R : Naming} {s t f g : Value} → BothValue R s t → BothValue R f g → Related R (promise_for s f) (promise_for t g)
promise_for_related e b = callable_expected_related _ _ _ _ b (prototype_from_related PromisePrototype _ _ e (λ m n o. do_make (BothAnObject (record { class = BothPromise BothPending BothEmpty; prototype = BothSome o; extensible = refl; indexed = BothEmpty; named = BothEmpty })) (promise_orderly m) (λ p q r. execute_related p q b r)))

promise_by_related : {R : Naming} {s t : Option Value} {f g : Value} → BothOption (BothValue R) s t → BothValue R f g → Related R (promise_by s f) (promise_by t g)
promise_by_related BothNone b = raise_related CalledWithoutNew
promise_by_related (BothSome e) b = promise_for_related e b

promise_related : {R : Naming} (s t : Option Value) → BothOption (BothValue R) s t → BuiltInRelated R (promise s) (promise t)
unfolding promise
promise_related s t e a x vs ws p q = promise_by_related e (first_related q)

-- ---- its functions

promise_with_related : {R : Naming} → IsOneToOne R → {v w : Value} → BothValue R v w → Related R (promise_with v) (promise_with w)
promise_with_related one b = make_promise_related _ _ (λ p q r. resolve_related one p q _ _ _ _ r b (BothGive (BothObject r)))

promise_by_class_related : {R : Naming} → IsOneToOne R → (m n : ℕ) {c d : Class} → R m n → BothClass R c d → Related R (promise_by_class m c) (promise_by_class n d)
promise_by_class_related one m n r (BothPromise s rs) = BothGive (BothObject r)
promise_by_class_related one m n r BothOrdinary = promise_with_related one (BothObject r)
promise_by_class_related one m n r BothArray = promise_with_related one (BothObject r)
promise_by_class_related one m n r (BothScript x y) = promise_with_related one (BothObject r)
promise_by_class_related one m n r BothBuiltIn = promise_with_related one (BothObject r)
promise_by_class_related one m n r (BothResolve x y) = promise_with_related one (BothObject r)
promise_by_class_related one m n r (BothReject x y) = promise_with_related one (BothObject r)
promise_by_class_related one m n r BothError = promise_with_related one (BothObject r)

resolved_related : {R : Naming} → IsOneToOne R → {v w : Value} → BothValue R v w → Related R (resolved v) (resolved w)
resolved_related one (BothObject {m = m} {n = n} r) = ask_class r (λ c d e. promise_by_class_related one m n r e)
resolved_related one BothUndefined = promise_with_related one BothUndefined
resolved_related one BothNull = promise_with_related one BothNull
resolved_related one (BothBoolean {b = b}) = promise_with_related one (BothBoolean {b = b})
resolved_related one (BothNumber i) = promise_with_related one (BothNumber i)
resolved_related one (BothString i) = promise_with_related one (BothString i)

resolve_function_of_promise : {R : Naming} → IsOneToOne R → BuiltInRelated R resolve resolve
unfolding resolve
resolve_function_of_promise one a x vs ws p q = resolved_related one (first_related q)

reject_function_of_promise : {R : Naming} → BuiltInRelated R reject reject
unfolding reject
reject_function_of_promise a x vs ws p q = make_promise_related _ _ (λ m n r. reject_related m n _ _ _ _ r (first_related q) (BothGive (BothObject r)))

-- ---- Promise.prototype

then_by_class_related : {R : Naming} (m n : ℕ) {vs ws : List Value} {c d : Class} → R m n → BothList (BothValue R) vs ws → BothClass R c d → Related R (then_by_class m vs c) (then_by_class n ws d)
then_by_class_related m n r q (BothPromise s rs) = promise_then_related m n _ _ _ _ _ _ r (first_related q) (second_related q) (λ c d e. BothGive (BothObject e))
then_by_class_related m n r q BothOrdinary = raise_related WrongReceiver
then_by_class_related m n r q BothArray = raise_related WrongReceiver
then_by_class_related m n r q (BothScript x y) = raise_related WrongReceiver
then_by_class_related m n r q BothBuiltIn = raise_related WrongReceiver
then_by_class_related m n r q (BothResolve x y) = raise_related WrongReceiver
then_by_class_related m n r q (BothReject x y) = raise_related WrongReceiver
then_by_class_related m n r q BothError = raise_related WrongReceiver

then_function_related : {R : Naming} → BuiltInRelated R then_function then_function
unfolding then_function
then_function_related a x vs ws (BothObject {m = m} {n = n} r) q = ask_class r (λ c d e. then_by_class_related m n r q e)
then_function_related a x vs ws BothUndefined q = raise_related WrongReceiver
then_function_related a x vs ws BothNull q = raise_related WrongReceiver
then_function_related a x vs ws BothBoolean q = raise_related WrongReceiver
then_function_related a x vs ws (BothNumber i) q = raise_related WrongReceiver
then_function_related a x vs ws (BothString i) q = raise_related WrongReceiver

catch_function_related : {R : Naming} → BuiltInRelated R catch_function catch_function
unfolding catch_function
catch_function_related a x vs ws p q = get_v_related a x (Named (codes "then")) _ _ p (λ f g b. BothCall b p (BothCons BothUndefined (BothCons (first_related q) BothEmpty)) BothNone given)

-- ---- resolving functions

resolve_by_class_related : {R : Naming} → IsOneToOne R → {v w : Value} {c d : Class} → BothValue R v w → BothClass R c d → Related R (resolve_by_class v c) (resolve_by_class w d)
resolve_by_class_related one b (BothResolve r s) = call_resolve_related one _ _ _ _ _ _ r s b
resolve_by_class_related one b BothOrdinary = BothGive BothUndefined
resolve_by_class_related one b BothArray = BothGive BothUndefined
resolve_by_class_related one b (BothScript x y) = BothGive BothUndefined
resolve_by_class_related one b BothBuiltIn = BothGive BothUndefined
resolve_by_class_related one b (BothReject x y) = BothGive BothUndefined
resolve_by_class_related one b BothError = BothGive BothUndefined
resolve_by_class_related one b (BothPromise s rs) = BothGive BothUndefined

resolve_function_related : {R : Naming} → IsOneToOne R → (f g : ℕ) → R f g → BuiltInRelated R (resolve_function f) (resolve_function g)
unfolding resolve_function
resolve_function_related one f g r a x vs ws p q = ask_class r (λ c d e. resolve_by_class_related one (first_related q) e)

reject_by_class_related : {R : Naming} {v w : Value} {c d : Class} → BothValue R v w → BothClass R c d → Related R (reject_by_class v c) (reject_by_class w d)
reject_by_class_related b (BothReject r s) = call_reject_related _ _ _ _ _ _ r s b
reject_by_class_related b BothOrdinary = BothGive BothUndefined
reject_by_class_related b BothArray = BothGive BothUndefined
reject_by_class_related b (BothScript x y) = BothGive BothUndefined
reject_by_class_related b BothBuiltIn = BothGive BothUndefined
reject_by_class_related b (BothResolve x y) = BothGive BothUndefined
reject_by_class_related b BothError = BothGive BothUndefined
reject_by_class_related b (BothPromise s rs) = BothGive BothUndefined

reject_function_related : {R : Naming} (f g : ℕ) → R f g → BuiltInRelated R (reject_function f) (reject_function g)
unfolding reject_function
reject_function_related f g r a x vs ws p q = ask_class r (λ c d e. reject_by_class_related (first_related q) e)

pub promise_row_related : {R : Naming} → IsOneToOne R → (n f g : ℕ) (s t : Option Value) → R f g → BothOption (BothValue R) s t → BuiltInRelated R (promise_row n f s) (promise_row n g t)
unfolding promise_row
promise_row_related one n f g s t r e = call_row_related
    (BothRow (promise_related s t e) (BothRow (resolve_function_of_promise one) (BothRow reject_function_of_promise
    (BothRow then_function_related (BothRow catch_function_related (BothRow (resolve_function_related one f g r)
    (BothRow (reject_function_related f g r) BothEnd))))))) n
