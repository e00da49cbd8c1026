-- Rows that name this compute through all definitions of both sides.
use Rattle.js_value.specs.Literal.{digits_number, literal_number}
use Rattle.js_value.specs.Numeral.{number_text, is_white_space}
use Rattle.js_value.specs.Store.{object_in, cell_in, mark_in, own_property, with_property, without_property, is_frozen}
use Rattle.js_value.specs.Text.{sequence_length, units, character_length, encoded, utf8, piece}
use Rattle.es_model.specs.FreeNames.{mentions, free, captured, places, place_of_mention, place_count, this_cell, captures}
use Rattle.es_model.specs.Functions.{writes_constructor, functions, inner}
use Rattle.es_model.specs.Scopes.{gather}
use Rattle.es_ops.specs.Act.{run}
use Rattle.es_ops.specs.Bindings.{make_cell, initialize_cell, read_cell, write_cell, copy_cell}
use Rattle.es_ops.specs.Boot.{set_up, evaluate, preloaded, started, gone}
use Rattle.es_ops.specs.Calling.{is_constructor, may_be_called, may_be_entered, by_rules, construct, super_call, create_from_constructor, base_result, derived_result}
use Rattle.es_ops.specs.Conversions.{to_primitive, to_number, to_string, to_property_key, number_expected, text_expected, key_expected, loosely_equal_within, is_loosely_equal}
use Rattle.es_ops.specs.Errors.{make_error, raise, make_text}
use Rattle.es_ops.specs.Events.{reply, perform}
use Rattle.es_ops.specs.Host.{cut}
use Rattle.es_ops.specs.HostCalls.{print, read}
use Rattle.es_ops.specs.InternalMethods.{validate_and_apply_property_descriptor, define_own_property, delete_own_property, prevent_extensions, freeze, longest, property_from, find_property, on_chain, set_prototype_of, set_step, apply_method}
use Rattle.es_ops.specs.Jobs.{fulfil_promise, reject_promise, resolve_promise, create_resolving_functions, call_resolve_function, call_reject_function, make_promise, perform_promise_then, promise_then, run_job, run_first_job}
use Rattle.es_ops.specs.Ledger.{written}
use Rattle.es_ops.specs.Making.{make_method, make_function, make_class, make_derived_class, make_object, make_array, append, define_member, name_function}
use Rattle.es_ops.specs.Operate.{operate}
use Rattle.es_ops.specs.Operators.{apply_numeric, add, compare, binary, unary, type_of, has_property_in, instance_of, to_text, join}
use Rattle.es_ops.specs.PropertyReads.{is_callable, property_value, get, has_property, get_v}
use Rattle.es_ops.specs.PropertyWrites.{define_own_property as property_writes_define_own_property, define_property_or_throw, create_data_property, create_data_property_or_throw, ordinary_set, set_v, set_or_throw, put_value, delete_property_or_throw, delete_v}
use Rattle.es_ops.specs.References.{require_object_coercible, get_by_value, put_by_value, delete_by_value, key_by_value, ordinary_get, super_get, super_set}
use Rattle.es_rows.specs.Array.{array, is_array, to_string as array_to_string, array_row}
use Rattle.es_rows.specs.ArrayCallbacks.{every, some, for_each, filter, map, find, find_index, reduce}
use Rattle.es_rows.specs.ArrayLikes.{length_of_array_like, length_in_range, array_create, is_array_value}
use Rattle.es_rows.specs.ArrayReads.{concat, includes, index_of, join as array_reads_join, slice}
use Rattle.es_rows.specs.ArrayWrites.{fill, pop, push, reverse, shift, unshift, splice}
use Rattle.es_rows.specs.Boolean.{boolean, to_string as boolean_to_string, boolean_row}
use Rattle.es_rows.specs.BuiltIns.{host_row, row}
use Rattle.es_rows.specs.Descriptors.{to_property_descriptor, from_property}
use Rattle.es_rows.specs.Error.{error, to_string as error_to_string, error_row}
use Rattle.es_rows.specs.Function.{function_constructor, function_prototype, call, apply, function_row}
use Rattle.es_rows.specs.Keys.{each_key_from}
use Rattle.es_rows.specs.Math.{abs, clz32, imul, max, min, sign, math_row}
use Rattle.es_rows.specs.Number.{number, is_integer, is_safe_integer, parse_int, to_string as number_to_string, number_row}
use Rattle.es_rows.specs.Object.{object, create, get_prototype_of, set_prototype_of as object_set_prototype_of, define_property, get_own_property_descriptor, has_own, receiver_has_own, get_own_property_names, keys, values, entries, assign, freeze as object_freeze, is_frozen as object_is_frozen, prevent_extensions as object_prevent_extensions, is_extensible, same, to_string as object_to_string, value_of, object_row}
use Rattle.es_rows.specs.Positions.{clamped_position, relative_position, count_expected}
use Rattle.es_rows.specs.Promise.{promise, resolve, reject, then_function, catch_function, resolve_function, reject_function, promise_row}
use Rattle.es_rows.specs.Realm.{realm_store, realm_places, realm_names}
use Rattle.es_rows.specs.String.{string, from_char_code, this_text, char_at, char_code_at, code_point_at, ends_with, includes as string_includes, index_of as string_index_of, starts_with, pad_end, pad_start, repeat, slice as string_slice, substring_between, split, trim, to_string as string_to_string, string_row}
use Rattle.es_eval.specs.Boot.{outer_calls}
use Rattle.es_eval.specs.Evaluation.{turns, bodies, evaluator, meaning, reference, substitutions, elements_of}
use Rattle.es_eval.specs.ModuleTables.{module_table}
use Rattle.code_gen.specs.Expressions.{code}
use Rattle.code_gen.specs.Statements.{statement}
use Rattle.es_machine.specs.Bodies.{body, calls, job}
use Rattle.es_machine.specs.ByteMachine.{step, steps}
use Rattle.es_machine.specs.Decoding.{fetch}
use Rattle.es_machine.specs.Instructions.{execute}

unfoldable pub computing : Unit {0}
unfolding digits_number literal_number number_text is_white_space object_in cell_in mark_in own_property with_property without_property is_frozen sequence_length units character_length encoded utf8 piece mentions free captured places place_of_mention place_count this_cell captures writes_constructor functions inner gather run make_cell initialize_cell read_cell write_cell copy_cell set_up evaluate preloaded started gone is_constructor may_be_called may_be_entered by_rules construct super_call create_from_constructor base_result derived_result to_primitive to_number to_string to_property_key number_expected text_expected key_expected loosely_equal_within is_loosely_equal make_error raise make_text reply perform cut print read validate_and_apply_property_descriptor define_own_property delete_own_property prevent_extensions freeze longest property_from find_property on_chain set_prototype_of set_step apply_method fulfil_promise reject_promise resolve_promise create_resolving_functions call_resolve_function call_reject_function make_promise perform_promise_then promise_then run_job run_first_job written make_method make_function make_class make_derived_class make_object make_array append define_member name_function operate apply_numeric add compare binary unary type_of has_property_in instance_of to_text join is_callable property_value get has_property get_v property_writes_define_own_property define_property_or_throw create_data_property create_data_property_or_throw ordinary_set set_v set_or_throw put_value delete_property_or_throw delete_v require_object_coercible get_by_value put_by_value delete_by_value key_by_value ordinary_get super_get super_set array is_array array_to_string array_row every some for_each filter map find find_index reduce length_of_array_like length_in_range array_create is_array_value concat includes index_of array_reads_join slice fill pop push reverse shift unshift splice boolean boolean_to_string boolean_row host_row row to_property_descriptor from_property error error_to_string error_row function_constructor function_prototype call apply function_row each_key_from abs clz32 imul max min sign math_row number is_integer is_safe_integer parse_int number_to_string number_row object create get_prototype_of object_set_prototype_of define_property get_own_property_descriptor has_own receiver_has_own get_own_property_names keys values entries assign object_freeze object_is_frozen object_prevent_extensions is_extensible same object_to_string value_of object_row clamped_position relative_position count_expected promise resolve reject then_function catch_function resolve_function reject_function promise_row realm_store realm_places realm_names string from_char_code this_text char_at char_code_at code_point_at ends_with string_includes string_index_of starts_with pad_end pad_start repeat string_slice substring_between split trim string_to_string string_row outer_calls turns bodies evaluator meaning reference substitutions elements_of module_table code statement body calls job step steps fetch execute
computing = tt
