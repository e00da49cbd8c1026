-- All operations that are acts.
use Rattle.std.specs.Prelude.{ℕ, Bool, ℤ, List, Option}
use Rattle.js_value.specs.Value.{Value, Text, Key}
use Rattle.js_value.specs.Store.{Property}
use Rattle.js_value.specs.Job.{Job}
use Rattle.es_ops.specs.InternalMethods.{PropertyDescriptor}
use Rattle.es_ops.specs.Messages.{Message}
use Rattle.es_ops.specs.Act.{Act}
use Rattle.es_ops.specs.Errors.{make_error, raise, make_text}
use Rattle.es_ops.specs.PropertyReads.{is_callable, property_value, get, has_property, get_v}
use Rattle.es_ops.specs.Conversions.{Hint, to_primitive, to_number, to_string, to_property_key, number_expected, text_expected, key_expected, is_loosely_equal}
use Rattle.es_ops.specs.PropertyWrites.{NumberConversion, define_own_property, define_property_or_throw, create_data_property, create_data_property_or_throw, ordinary_set, set_v, set_or_throw, put_value, delete_property_or_throw, delete_v}
use Rattle.es_ops.specs.Bindings.{make_cell, initialize_cell, read_cell, write_cell, copy_cell}
use Rattle.es_ops.specs.Jobs.{fulfil_promise, reject_promise, resolve_promise, create_resolving_functions, call_resolve_function, call_reject_function, make_promise, perform_promise_then, promise_then, run_job, run_first_job}
use Rattle.es_ops.specs.References.{require_object_coercible, get_by_value, put_by_value, delete_by_value, key_by_value, ordinary_get, super_get, super_set}
use Rattle.es_ops.specs.Operators.{BinaryOperator, binary, UnaryOperator, unary, type_of, has_property_in, instance_of, to_text, join}
use Rattle.es_ops.specs.Calling.{is_constructor, may_be_called, may_be_entered, construct, super_call, create_from_constructor, base_result, derived_result}
use Rattle.es_ops.specs.Making.{FunctionCode, make_method, make_function, make_class, make_derived_class, make_object, make_array, append, MemberSort, define_member, name_function}
use Rattle.es_ops.specs.HostCalls.{print, read}
use Rattle.es_ops.specs.Intrinsics.{Intrinsic}

-- each with what comes after it
pub data Operation : Type 0 where
  -- errors and made texts
  Raise : Message → Operation
  MakeError : Message → (ℕ → Act) → Operation
  MakeString : Text → (Value → Act) → Operation
  -- conversions and equality
  ToPrimitive : Hint → Value → (Value → Act) → Operation
  ToNumber : Value → (ℤ → Act) → Operation
  ToString : Value → (Text → Act) → Operation
  ToPropertyKey : Value → (Key → Act) → Operation
  NumberExpected : Value → (ℤ → Act) → Operation
  TextExpected : Value → (Text → Act) → Operation
  KeyExpected : Value → (Key → Act) → Operation
  IsLooselyEqual : (x y : Value) → (Bool → Act) → Operation
  -- reads
  IsCallable : Value → (Bool → Act) → Operation
  PropertyValue : Option Property → (receiver : Value) → (Value → Act) → Operation
  Get : ℕ → Key → (Value → Act) → Operation
  HasProperty : ℕ → Key → (Bool → Act) → Operation
  GetV : Value → Key → (Value → Act) → Operation
  -- writes
  DefineProperty : NumberConversion → ℕ → Key → PropertyDescriptor → (Bool → Act) → Operation
  DefinePropertyOrThrow : NumberConversion → ℕ → Key → PropertyDescriptor → Act → Operation
  CreateDataProperty : ℕ → Key → Value → (Bool → Act) → Operation
  CreateDataPropertyOrThrow : ℕ → Key → Value → Act → Operation
  OrdinarySet : NumberConversion → ℕ → Key → Value → (receiver : Value) → (Bool → Act) → Operation
  SetV : NumberConversion → (base : Value) → Key → Value → (Bool → Act) → Operation
  SetOrThrow : NumberConversion → ℕ → Key → Value → Act → Operation
  PutValue : (base : Value) → Key → Value → Act → Operation
  DeletePropertyOrThrow : ℕ → Key → Act → Operation
  DeleteV : (base : Value) → Key → Act → Operation
  -- cells
  MakeCell : (const : Bool) → (ℕ → Act) → Operation
  InitializeCell : ℕ → Value → Act → Operation
  ReadCell : ℕ → (Value → Act) → Operation
  WriteCell : ℕ → Value → Act → Operation
  CopyCell : ℕ → (ℕ → Act) → Operation
  -- promises and jobs
  FulfilPromise : ℕ → Value → Act → Operation
  RejectPromise : ℕ → Value → Act → Operation
  ResolvePromise : ℕ → Value → Act → Operation
  CreateResolvingFunctions : ℕ → ((mark resolve reject : ℕ) → Act) → Operation
  CallResolveFunction : (promise mark : ℕ) → Value → Operation
  CallRejectFunction : (promise mark : ℕ) → Value → Operation
  MakePromise : (ℕ → Act) → Operation
  PerformPromiseThen : ℕ → (on_fulfilled on_rejected : Value) → (derived : ℕ) → Act → Operation
  PromiseThen : ℕ → (on_fulfilled on_rejected : Value) → (ℕ → Act) → Operation
  RunJob : Job → Operation
  RunFirstJob : Operation
  -- references by values
  RequireObjectCoercible : Value → Act → Operation
  GetByValue : (base key : Value) → (Value → Act) → Operation
  PutByValue : (base key v : Value) → Act → Operation
  DeleteByValue : (base key : Value) → Act → Operation
  KeyByValue : (base key : Value) → (Value → Act) → Operation
  OrdinaryGet : ℕ → Key → (receiver : Value) → (Value → Act) → Operation
  SuperGet : (home : Option ℕ) → (receiver key : Value) → (Value → Act) → Operation
  SuperSet : (home : Option ℕ) → (receiver key v : Value) → Act → Operation
  -- operators
  Binary : BinaryOperator → (a b : Value) → (Value → Act) → Operation
  Unary : UnaryOperator → Value → (Value → Act) → Operation
  TypeOf : Value → (Value → Act) → Operation
  HasPropertyIn : (key object : Value) → (Value → Act) → Operation
  InstanceOf : (value function : Value) → (Value → Act) → Operation
  ToText : Value → (Value → Act) → Operation
  Join : List Value → (Value → Act) → Operation
  -- calls and constructions
  IsConstructor : Value → (Bool → Act) → Operation
  MayBeCalled : Value → (target : Option Value) → Operation
  MayBeEntered : Value → (target : Option Value) → Operation
  Construct : Value → (arguments : List Value) → (target : Value) → (Value → Act) → Operation
  SuperCall : (active : ℕ) → (target : Option Value) → (arguments : List Value) → (Value → Act) → Operation
  CreateFromConstructor : (target : Value) → Intrinsic → (ℕ → Act) → Operation
  BaseResult : (this returned : Value) → (Value → Act) → Operation
  DerivedResult : (this : Option Value) → (returned : Value) → (Value → Act) → Operation
  -- functions, classes, objects and arrays
  MakeMethod : FunctionCode → (home : Option ℕ) → (captured : List ℕ) → (ℕ → Act) → Operation
  MakeFunction : FunctionCode → (captured : List ℕ) → (ℕ → Act) → Operation
  MakeClass : FunctionCode → (captured : List ℕ) → ((constructor prototype : ℕ) → Act) → Operation
  MakeDerivedClass : FunctionCode → (captured : List ℕ) → (parent : Value) → ((constructor prototype : ℕ) → Act) → Operation
  MakeObject : (ℕ → Act) → Operation
  MakeArray : (ℕ → Act) → Operation
  Append : (array v : Value) → Act → Operation
  DefineMember : MemberSort → (enumerable : Bool) → (object key v : Value) → Act → Operation
  NameFunction : MemberSort → (key f : Value) → Act → Operation
  -- the functions of the host
  Print : Value → (Value → Act) → Operation
  Read : (Value → Act) → Operation

abbrev pub act_of : Operation → Act
act_of (Raise m) = raise m
act_of (MakeError m k) = make_error m k
act_of (MakeString t k) = make_text t k
act_of (ToPrimitive hint v k) = to_primitive hint v k
act_of (ToNumber v k) = to_number v k
act_of (ToString v k) = to_string v k
act_of (ToPropertyKey v k) = to_property_key v k
act_of (NumberExpected v k) = number_expected v k
act_of (TextExpected v k) = text_expected v k
act_of (KeyExpected v k) = key_expected v k
act_of (IsLooselyEqual x y k) = is_loosely_equal x y k
act_of (IsCallable v k) = is_callable v k
act_of (PropertyValue p receiver k) = property_value p receiver k
act_of (Get n key k) = get n key k
act_of (HasProperty n key k) = has_property n key k
act_of (GetV v key k) = get_v v key k
act_of (DefineProperty convert n key d k) = define_own_property convert n key d k
act_of (DefinePropertyOrThrow convert n key d k) = define_property_or_throw convert n key d k
act_of (CreateDataProperty n key v k) = create_data_property n key v k
act_of (CreateDataPropertyOrThrow n key v k) = create_data_property_or_throw n key v k
act_of (OrdinarySet convert n key v receiver k) = ordinary_set convert n key v receiver k
act_of (SetV convert base key v k) = set_v convert base key v k
act_of (SetOrThrow convert n key v k) = set_or_throw convert n key v k
act_of (PutValue base key v k) = put_value base key v k
act_of (DeletePropertyOrThrow n key k) = delete_property_or_throw n key k
act_of (DeleteV base key k) = delete_v base key k
act_of (MakeCell const k) = make_cell const k
act_of (InitializeCell c v k) = initialize_cell c v k
act_of (ReadCell c k) = read_cell c k
act_of (WriteCell c v k) = write_cell c v k
act_of (CopyCell c k) = copy_cell c k
act_of (FulfilPromise p v k) = fulfil_promise p v k
act_of (RejectPromise p v k) = reject_promise p v k
act_of (ResolvePromise p v k) = resolve_promise p v k
act_of (CreateResolvingFunctions p k) = create_resolving_functions p k
act_of (CallResolveFunction p mark v) = call_resolve_function p mark v
act_of (CallRejectFunction p mark v) = call_reject_function p mark v
act_of (MakePromise k) = make_promise k
act_of (PerformPromiseThen p f r derived k) = perform_promise_then p f r derived k
act_of (PromiseThen p f r k) = promise_then p f r k
act_of (RunJob job) = run_job job
act_of RunFirstJob = run_first_job
act_of (RequireObjectCoercible a k) = require_object_coercible a k
act_of (GetByValue a b k) = get_by_value a b k
act_of (PutByValue a b v k) = put_by_value a b v k
act_of (DeleteByValue a b k) = delete_by_value a b k
act_of (KeyByValue a b k) = key_by_value a b k
act_of (OrdinaryGet m key a k) = ordinary_get m key a k
act_of (SuperGet m a b k) = super_get m a b k
act_of (SuperSet m a b v k) = super_set m a b v k
act_of (Binary i a b k) = binary i a b k
act_of (Unary i a k) = unary i a k
act_of (TypeOf a k) = type_of a k
act_of (HasPropertyIn a b k) = has_property_in a b k
act_of (InstanceOf a b k) = instance_of a b k
act_of (ToText a k) = to_text a k
act_of (Join vs k) = join vs k
act_of (IsConstructor a k) = is_constructor a k
act_of (MayBeCalled a s) = may_be_called a s
act_of (MayBeEntered a s) = may_be_entered a s
act_of (Construct a vs s k) = construct a vs s k
act_of (SuperCall m s vs k) = super_call m s vs k
act_of (CreateFromConstructor a i k) = create_from_constructor a i k
act_of (BaseResult a b k) = base_result a b k
act_of (DerivedResult s b k) = derived_result s b k
act_of (MakeMethod c m cs k) = make_method c m cs k
act_of (MakeFunction c cs k) = make_function c cs k
act_of (MakeClass c cs k) = make_class c cs k
act_of (MakeDerivedClass c cs a k) = make_derived_class c cs a k
act_of (MakeObject k) = make_object k
act_of (MakeArray k) = make_array k
act_of (Append a b k) = append a b k
act_of (DefineMember i e o a v k) = define_member i e o a v k
act_of (NameFunction i a f k) = name_function i a f k
act_of (Print a k) = print a k
act_of (Read k) = read k
