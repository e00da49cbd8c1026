-- What the instructions of the byte machine and the forms of evaluation share: values in, and a value out.
use Rattle.std.specs.Prelude.{Bool, true, List, [], ◌∷◌, None}
use Rattle.js_value.specs.Value.{Value, Undefined, Boolean, Object}
use Rattle.es_ops.specs.Act.{Act, Give, Call}
use Rattle.es_ops.specs.References.{get_by_value, put_by_value, delete_by_value, key_by_value}
use Rattle.es_ops.specs.Operators.{BinaryOperator, binary, UnaryOperator, unary, type_of, has_property_in, instance_of, to_text, join}
use Rattle.es_ops.specs.Calling.{construct}
use Rattle.es_ops.specs.Making.{make_object, make_array, append, MemberSort, define_member, name_function}
use Rattle.es_ops.specs.HostCalls.{print, read}

pub data ValueOperation : Type 0 where
  ApplyBinary : BinaryOperator → ValueOperation
  ApplyUnary : UnaryOperator → ValueOperation
  TakeType : ValueOperation
  TestIn : ValueOperation
  TestInstance : ValueOperation
  ConvertText : ValueOperation
  ConvertKey : ValueOperation
  GetProperty : ValueOperation
  PutProperty : ValueOperation
  DeleteProperty : ValueOperation
  MakeObject : ValueOperation
  MakeArray : ValueOperation
  AppendElement : ValueOperation
  DefineMember : MemberSort → (enumerable : Bool) → ValueOperation
  NameFunction : MemberSort → ValueOperation
  Print : ValueOperation
  ReadLine : ValueOperation
  JoinTexts : ValueOperation
  CallFunction : ValueOperation
  Construct : ValueOperation

-- The values stand in the order in which they are evaluated: an object before its key, `this` before the function and its
-- arguments. Own: another number of values, which no form or instruction hands on, gives undefined.
unfoldable pub operate : ValueOperation → List Value → Act
operate (ApplyBinary op) (a ∷ b ∷ []) = binary op a b Give
operate (ApplyUnary op) (a ∷ []) = unary op a Give
operate TakeType (a ∷ []) = type_of a Give
operate TestIn (key ∷ o ∷ []) = has_property_in key o Give
operate TestInstance (v ∷ f ∷ []) = instance_of v f Give
operate ConvertText (a ∷ []) = to_text a Give
operate ConvertKey (o ∷ key ∷ []) = key_by_value o key Give
operate GetProperty (o ∷ key ∷ []) = get_by_value o key Give
operate PutProperty (o ∷ key ∷ v ∷ []) = put_by_value o key v (Give v)
operate DeleteProperty (o ∷ key ∷ []) = delete_by_value o key (Give (Boolean true))
operate MakeObject [] = make_object (λ o. Give (Object o))
operate MakeArray [] = make_array (λ a. Give (Object a))
operate AppendElement (array ∷ v ∷ []) = append array v (Give array)
operate (DefineMember sort enumerable) (o ∷ key ∷ v ∷ []) = define_member sort enumerable o key v (Give o)
operate (NameFunction sort) (key ∷ f ∷ []) = name_function sort key f (Give f)
operate Print (v ∷ []) = print v Give
operate ReadLine [] = read Give
operate JoinTexts vs = join vs Give
operate CallFunction (this ∷ f ∷ arguments) = Call f this arguments None Give
operate Construct (f ∷ arguments) = construct f arguments f Give
operate operation vs = Give Undefined
