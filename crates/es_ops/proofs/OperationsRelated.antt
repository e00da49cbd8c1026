-- Every operation is the same but for the numbers of things, and both laws of runs follow.
use Rattle.std.proofs.Common.{ℕ, ◌≤◌, length, sym, ◌∙◌}
use Rattle.es_ops.specs.State.{State}
use Rattle.es_ops.specs.Act.{Calls, run}
use Rattle.es_ops.specs.Laws.{IsWorldWellFormed, IsRanWellFormed, CallsWell}
use Rattle.es_ops.specs.Operations.{Operation, act_of}
use Rattle.es_ops.specs.Related.{Naming, Related, IsOneToOne}
use Rattle.es_ops.specs.Standing.{Below}
use Rattle.es_ops.specs.Renaming.{Pairs, named, Extends, BothSides, BothRan, BothCalling}
use Rattle.es_ops.specs.Handed.{BothOperation, BothRaiseHanded, BothMakeErrorHanded, BothMakeStringHanded, BothToPrimitiveHanded, BothToNumberHanded, BothToStringHanded, BothToPropertyKeyHanded, BothNumberExpectedHanded, BothTextExpectedHanded, BothKeyExpectedHanded, BothIsLooselyEqualHanded, BothIsCallableHanded, BothPropertyValueHanded, BothGetHanded, BothHasPropertyHanded, BothGetVHanded, BothDefinePropertyHanded, BothDefinePropertyOrThrowHanded, BothCreateDataPropertyHanded, BothCreateDataPropertyOrThrowHanded, BothOrdinarySetHanded, BothSetVHanded, BothSetOrThrowHanded, BothPutValueHanded, BothDeletePropertyOrThrowHanded, BothDeleteVHanded, BothMakeCellHanded, BothInitializeCellHanded, BothReadCellHanded, BothWriteCellHanded, BothCopyCellHanded, BothFulfilPromiseHanded, BothRejectPromiseHanded, BothResolvePromiseHanded, BothCreateResolvingFunctionsHanded, BothCallResolveFunctionHanded, BothCallRejectFunctionHanded, BothMakePromiseHanded, BothPerformPromiseThenHanded, BothPromiseThenHanded, BothRunJobHanded, BothRunFirstJobHanded, BothRequireObjectCoercibleHanded, BothGetByValueHanded, BothPutByValueHanded, BothDeleteByValueHanded, BothKeyByValueHanded, BothOrdinaryGetHanded, BothSuperGetHanded, BothSuperSetHanded, BothBinaryHanded, BothUnaryHanded, BothTypeOfHanded, BothHasPropertyInHanded, BothInstanceOfHanded, BothToTextHanded, BothJoinHanded, BothIsConstructorHanded, BothMayBeCalledHanded, BothMayBeEnteredHanded, BothConstructHanded, BothSuperCallHanded, BothCreateFromConstructorHanded, BothBaseResultHanded, BothDerivedResultHanded, BothMakeMethodHanded, BothMakeFunctionHanded, BothMakeClassHanded, BothMakeDerivedClassHanded, BothMakeObjectHanded, BothMakeArrayHanded, BothAppendHanded, BothDefineMemberHanded, BothNameFunctionHanded, BothPrintHanded, BothReadHanded}
use Rattle.es_ops.proofs.ReadsRelated.{raise_related, make_error_related, make_text_related, to_primitive_related, to_number_related, to_string_related, to_property_key_related, number_expected_related, text_expected_related, key_expected_related, is_callable_related, property_value_related, get_related, has_property_related, get_v_related}
use Rattle.es_ops.proofs.WritesRelated.{make_cell_related, initialize_cell_related, read_cell_related, write_cell_related, copy_cell_related, define_related, define_or_throw_related, create_related, create_or_throw_related, ordinary_set_related, set_v_related, set_or_throw_related, put_value_related, delete_or_throw_related, delete_v_related, loosely_equal_related}
use Rattle.es_ops.proofs.JobsRelated.{fulfil_related, reject_related, resolve_related, create_functions_related, call_resolve_related, call_reject_related, make_promise_related, perform_then_related, promise_then_related, run_job_related, run_first_job_related}
use Rattle.es_ops.proofs.MakingRelated.{append_related, define_member_related, make_array_related, make_class_related, make_derived_related, make_function_related, make_method_related, make_object_related, name_function_related}
use Rattle.es_ops.proofs.CallingRelated.{base_result_related, construct_related, create_from_related, derived_result_related, is_constructor_related, may_be_called_related, may_be_entered_related, super_call_related}
use Rattle.es_ops.proofs.OperatorsRelated.{binary_related, has_property_in_related, instance_of_related, join_related, to_text_related, type_of_related, unary_related}
use Rattle.es_ops.proofs.ReferencesRelated.{delete_by_value_related, get_by_value_related, key_by_value_related, ordinary_get_related, put_by_value_related, require_related, super_get_related, super_set_related}
use Rattle.es_ops.proofs.HostRelated.{print_related, read_related}
use Rattle.es_ops.proofs.Stand.{stands_well}
use Rattle.es_ops.proofs.AppliesRelated.{runs_related}

pub operation_related : (R : Naming) → IsOneToOne R → {o p : Operation} → BothOperation R o p → Related R (act_of o) (act_of p)
operation_related R one BothRaiseHanded = raise_related _
operation_related R one (BothMakeErrorHanded h) = make_error_related _ _ _ h
operation_related R one (BothMakeStringHanded h i) = make_text_related _ _ _ h i
operation_related R one (BothToPrimitiveHanded h i) = to_primitive_related _ _ _ _ _ h i
operation_related R one (BothToNumberHanded h i) = to_number_related _ _ _ _ h i
operation_related R one (BothToStringHanded h i) = to_string_related _ _ _ _ h i
operation_related R one (BothToPropertyKeyHanded h i) = to_property_key_related _ _ _ _ h i
operation_related R one (BothNumberExpectedHanded h i) = number_expected_related _ _ _ _ h i
operation_related R one (BothTextExpectedHanded h i) = text_expected_related _ _ _ _ h i
operation_related R one (BothKeyExpectedHanded h i) = key_expected_related _ _ _ _ h i
operation_related R one (BothIsLooselyEqualHanded h i j) = loosely_equal_related one _ _ _ _ _ _ h i j
operation_related R one (BothIsCallableHanded h i) = is_callable_related _ _ h i
operation_related R one (BothPropertyValueHanded h i j) = property_value_related _ _ h i j
operation_related R one (BothGetHanded h i) = get_related _ _ _ _ _ h i
operation_related R one (BothHasPropertyHanded h i) = has_property_related _ _ _ _ _ h i
operation_related R one (BothGetVHanded h i) = get_v_related _ _ _ _ _ h i
operation_related R one (BothDefinePropertyHanded h i j x y) = define_related _ h _ _ _ _ _ _ _ i j x y
operation_related R one (BothDefinePropertyOrThrowHanded h i j x y) = define_or_throw_related _ h _ _ _ _ _ _ _ i j x y
operation_related R one (BothCreateDataPropertyHanded h i j x) = create_related _ _ _ _ _ _ _ h i j x
operation_related R one (BothCreateDataPropertyOrThrowHanded h i j x) = create_or_throw_related _ _ _ _ _ _ _ h i j x
operation_related R one (BothOrdinarySetHanded h i j x y z) = ordinary_set_related _ h _ _ _ _ _ _ _ _ _ i j x y z
operation_related R one (BothSetVHanded h i j x y) = set_v_related _ h _ _ _ _ _ _ _ i j x y
operation_related R one (BothSetOrThrowHanded h i j x y) = set_or_throw_related _ h _ _ _ _ _ _ _ i j x y
operation_related R one (BothPutValueHanded h i j x) = put_value_related _ _ _ _ _ _ _ h i j x
operation_related R one (BothDeletePropertyOrThrowHanded h i) = delete_or_throw_related _ _ _ _ _ h i
operation_related R one (BothDeleteVHanded h i) = delete_v_related _ _ _ _ _ h i
operation_related R one (BothMakeCellHanded h) = make_cell_related _ _ _ h
operation_related R one (BothInitializeCellHanded h i j) = initialize_cell_related _ _ _ _ _ _ h i j
operation_related R one (BothReadCellHanded h i) = read_cell_related _ _ _ _ h i
operation_related R one (BothWriteCellHanded h i j) = write_cell_related _ _ _ _ _ _ h i j
operation_related R one (BothCopyCellHanded h i) = copy_cell_related _ _ _ _ h i
operation_related R one (BothFulfilPromiseHanded h i j) = fulfil_related _ _ _ _ _ _ h i j
operation_related R one (BothRejectPromiseHanded h i j) = reject_related _ _ _ _ _ _ h i j
operation_related R one (BothResolvePromiseHanded h i j) = resolve_related one _ _ _ _ _ _ h i j
operation_related R one (BothCreateResolvingFunctionsHanded h i) = create_functions_related _ _ _ _ h i
operation_related R one (BothCallResolveFunctionHanded h i j) = call_resolve_related one _ _ _ _ _ _ h i j
operation_related R one (BothCallRejectFunctionHanded h i j) = call_reject_related _ _ _ _ _ _ h i j
operation_related R one (BothMakePromiseHanded h) = make_promise_related _ _ h
operation_related R one (BothPerformPromiseThenHanded h i j x y) = perform_then_related _ _ _ _ _ _ _ _ _ _ h i j x y
operation_related R one (BothPromiseThenHanded h i j x) = promise_then_related _ _ _ _ _ _ _ _ h i j x
operation_related R one (BothRunJobHanded h) = run_job_related one _ _ h
operation_related R one BothRunFirstJobHanded = run_first_job_related one
operation_related R one (BothRequireObjectCoercibleHanded h i) = require_related _ _ _ _ h i
operation_related R one (BothGetByValueHanded h i j) = get_by_value_related _ _ _ _ _ _ h i j
operation_related R one (BothPutByValueHanded h i j x) = put_by_value_related _ _ _ _ _ _ _ _ h i j x
operation_related R one (BothDeleteByValueHanded h i j) = delete_by_value_related _ _ _ _ _ _ h i j
operation_related R one (BothKeyByValueHanded h i j) = key_by_value_related _ _ _ _ _ _ h i j
operation_related R one (BothOrdinaryGetHanded h i j) = ordinary_get_related _ _ _ _ _ _ _ h i j
operation_related R one (BothSuperGetHanded h i j x) = super_get_related _ _ _ _ _ _ _ _ h i j x
operation_related R one (BothSuperSetHanded h i j x y) = super_set_related _ _ _ _ _ _ _ _ _ _ h i j x y
operation_related R one (BothBinaryHanded h i j) = binary_related one _ _ _ _ _ _ _ h i j
operation_related R one (BothUnaryHanded h i) = unary_related _ _ _ _ _ h i
operation_related R one (BothTypeOfHanded h i) = type_of_related _ _ _ _ h i
operation_related R one (BothHasPropertyInHanded h i j) = has_property_in_related _ _ _ _ _ _ h i j
operation_related R one (BothInstanceOfHanded h i j) = instance_of_related _ _ _ _ _ _ h i j
operation_related R one (BothToTextHanded h i) = to_text_related _ _ _ _ h i
operation_related R one (BothJoinHanded h i) = join_related _ _ _ _ h i
operation_related R one (BothIsConstructorHanded h i) = is_constructor_related _ _ h i
operation_related R one (BothMayBeCalledHanded h i) = may_be_called_related _ _ _ _ h i
operation_related R one (BothMayBeEnteredHanded h i) = may_be_entered_related _ _ _ _ h i
operation_related R one (BothConstructHanded h i j x) = construct_related _ _ _ _ _ _ _ _ h i j x
operation_related R one (BothSuperCallHanded h i j x) = super_call_related _ _ _ _ _ _ _ _ h i j x
operation_related R one (BothCreateFromConstructorHanded h i) = create_from_related _ _ _ _ _ h i
operation_related R one (BothBaseResultHanded h i j) = base_result_related _ _ _ _ _ _ h i j
operation_related R one (BothDerivedResultHanded h i j) = derived_result_related _ _ _ _ _ _ h i j
operation_related R one (BothMakeMethodHanded h i j x) = make_method_related _ _ _ _ _ _ _ h i j x
operation_related R one (BothMakeFunctionHanded h i j) = make_function_related _ _ _ _ _ h i j
operation_related R one (BothMakeClassHanded h i j) = make_class_related _ _ _ _ _ h i j
operation_related R one (BothMakeDerivedClassHanded h i j x) = make_derived_related _ _ _ _ _ _ _ h i j x
operation_related R one (BothMakeObjectHanded h) = make_object_related _ _ h
operation_related R one (BothMakeArrayHanded h) = make_array_related _ _ h
operation_related R one (BothAppendHanded h i j) = append_related _ _ _ _ _ _ h i j
operation_related R one (BothDefineMemberHanded h i j x) = define_member_related _ _ _ _ _ _ _ _ _ _ h i j x
operation_related R one (BothNameFunctionHanded h i j) = name_function_related _ _ _ _ _ _ _ h i j
operation_related R one (BothPrintHanded h i) = print_related _ _ _ _ h i
operation_related R one (BothReadHanded h) = read_related _ _ h

-- the things below a number are one to one
pub below_one : (n : ℕ) → IsOneToOne (Below n)
below_one n = record { forth = λ a b c r s. sym r.0 ∙ s.0; back = λ a b c r s. r.0 ∙ sym s.0 }

-- (a) it leaves a well-formed world of no fewer things, and ends with a value of the profile and of that world
pub operation_stands : (c : Calls) → CallsWell c → (o : Operation) (s : State) → IsWorldWellFormed s.world → ((n : ℕ) → length s.world.heap.store ≤ n → BothOperation (Below n) o o) → IsRanWellFormed (length s.world.heap.store) (run c (act_of o) s)
operation_stands c well o s h k = stands_well c well (act_of o) s h (λ n le. operation_related (Below n) (below_one n) (k n le))

-- (b) it comes to the same over two worlds, but for the numbers of things
pub operation_renamed : (c d : Calls) → BothCalling c d → (ps : Pairs) (o p : Operation) (s t : State) → ((qs : Pairs) → Extends ps qs → IsOneToOne (named qs) → BothOperation (named qs) o p) → BothSides ps s t → BothRan ps (run c (act_of o) s) (run d (act_of p) t)
operation_renamed c d calls ps o p s t k h = runs_related c d calls ps (act_of o) (act_of p) s t (λ qs e one. operation_related (named qs) one (k qs e one)) h
