-- Operations on values are the same but for the numbers of things.
use Rattle.std.proofs.Common.{List}
use Rattle.js_value.specs.Value.{Value}
use Rattle.es_ops.specs.Act.{Give}
use Rattle.es_ops.specs.Operate.{ValueOperation, ApplyBinary, ApplyUnary, TakeType, TestIn, TestInstance, ConvertText, ConvertKey, GetProperty, PutProperty, DeleteProperty, MakeObject, MakeArray, AppendElement, DefineMember, NameFunction, Print, ReadLine, JoinTexts, CallFunction, Construct, operate}
use Rattle.es_ops.specs.Related.{Naming, BothNone, BothList, BothEmpty, BothCons, BothValue, BothUndefined, BothBoolean, BothObject, Related, BothGive, BothCall, Then, IsOneToOne}
use Rattle.es_ops.proofs.OperatorsRelated.{binary_related, unary_related, type_of_related, has_property_in_related, instance_of_related, to_text_related, join_related}
use Rattle.es_ops.proofs.ReferencesRelated.{get_by_value_related, put_by_value_related, delete_by_value_related, key_by_value_related}
use Rattle.es_ops.proofs.CallingRelated.{construct_related}
use Rattle.es_ops.proofs.MakingRelated.{make_object_related, make_array_related, append_related, define_member_related, name_function_related}
use Rattle.es_ops.proofs.HostRelated.{print_related, read_related}

given : {R : Naming} → Then R (BothValue R) Give Give
given v w h = BothGive h

pub operate_related : {R : Naming} → IsOneToOne R → (o : ValueOperation) (vs ws : List Value) → BothList (BothValue R) vs ws → Related R (operate o vs) (operate o ws)
unfolding operate given
operate_related one (ApplyBinary op) vs ws BothEmpty = BothGive BothUndefined
operate_related one (ApplyBinary op) vs ws (BothCons a BothEmpty) = BothGive BothUndefined
operate_related one (ApplyBinary op) vs ws (BothCons a (BothCons b BothEmpty)) = binary_related one op _ _ _ _ Give Give a b given
operate_related one (ApplyBinary op) vs ws (BothCons a (BothCons b (BothCons x xs))) = BothGive BothUndefined
operate_related one (ApplyUnary op) vs ws BothEmpty = BothGive BothUndefined
operate_related one (ApplyUnary op) vs ws (BothCons a BothEmpty) = unary_related op _ _ Give Give a given
operate_related one (ApplyUnary op) vs ws (BothCons a (BothCons x xs)) = BothGive BothUndefined
operate_related one TakeType vs ws BothEmpty = BothGive BothUndefined
operate_related one TakeType vs ws (BothCons a BothEmpty) = type_of_related _ _ Give Give a given
operate_related one TakeType vs ws (BothCons a (BothCons x xs)) = BothGive BothUndefined
operate_related one TestIn vs ws BothEmpty = BothGive BothUndefined
operate_related one TestIn vs ws (BothCons a BothEmpty) = BothGive BothUndefined
operate_related one TestIn vs ws (BothCons a (BothCons b BothEmpty)) = has_property_in_related _ _ _ _ Give Give a b given
operate_related one TestIn vs ws (BothCons a (BothCons b (BothCons x xs))) = BothGive BothUndefined
operate_related one TestInstance vs ws BothEmpty = BothGive BothUndefined
operate_related one TestInstance vs ws (BothCons a BothEmpty) = BothGive BothUndefined
operate_related one TestInstance vs ws (BothCons a (BothCons b BothEmpty)) = instance_of_related _ _ _ _ Give Give a b given
operate_related one TestInstance vs ws (BothCons a (BothCons b (BothCons x xs))) = BothGive BothUndefined
operate_related one ConvertText vs ws BothEmpty = BothGive BothUndefined
operate_related one ConvertText vs ws (BothCons a BothEmpty) = to_text_related _ _ Give Give a given
operate_related one ConvertText vs ws (BothCons a (BothCons x xs)) = BothGive BothUndefined
operate_related one ConvertKey vs ws BothEmpty = BothGive BothUndefined
operate_related one ConvertKey vs ws (BothCons a BothEmpty) = BothGive BothUndefined
operate_related one ConvertKey vs ws (BothCons a (BothCons b BothEmpty)) = key_by_value_related _ _ _ _ Give Give a b given
operate_related one ConvertKey vs ws (BothCons a (BothCons b (BothCons x xs))) = BothGive BothUndefined
operate_related one GetProperty vs ws BothEmpty = BothGive BothUndefined
operate_related one GetProperty vs ws (BothCons a BothEmpty) = BothGive BothUndefined
operate_related one GetProperty vs ws (BothCons a (BothCons b BothEmpty)) = get_by_value_related _ _ _ _ Give Give a b given
operate_related one GetProperty vs ws (BothCons a (BothCons b (BothCons x xs))) = BothGive BothUndefined
operate_related one PutProperty vs ws BothEmpty = BothGive BothUndefined
operate_related one PutProperty vs ws (BothCons a BothEmpty) = BothGive BothUndefined
operate_related one PutProperty vs ws (BothCons a (BothCons b BothEmpty)) = BothGive BothUndefined
operate_related one PutProperty vs ws (BothCons a (BothCons b (BothCons c BothEmpty))) = put_by_value_related _ _ _ _ _ _ _ _ a b c (BothGive c)
operate_related one PutProperty vs ws (BothCons a (BothCons b (BothCons c (BothCons x xs)))) = BothGive BothUndefined
operate_related one DeleteProperty vs ws BothEmpty = BothGive BothUndefined
operate_related one DeleteProperty vs ws (BothCons a BothEmpty) = BothGive BothUndefined
operate_related one DeleteProperty vs ws (BothCons a (BothCons b BothEmpty)) = delete_by_value_related _ _ _ _ _ _ a b (BothGive BothBoolean)
operate_related one DeleteProperty vs ws (BothCons a (BothCons b (BothCons x xs))) = BothGive BothUndefined
operate_related one MakeObject vs ws BothEmpty = make_object_related _ _ (λ m n r. BothGive (BothObject r))
operate_related one MakeObject vs ws (BothCons x xs) = BothGive BothUndefined
operate_related one MakeArray vs ws BothEmpty = make_array_related _ _ (λ m n r. BothGive (BothObject r))
operate_related one MakeArray vs ws (BothCons x xs) = BothGive BothUndefined
operate_related one AppendElement vs ws BothEmpty = BothGive BothUndefined
operate_related one AppendElement vs ws (BothCons a BothEmpty) = BothGive BothUndefined
operate_related one AppendElement vs ws (BothCons a (BothCons b BothEmpty)) = append_related _ _ _ _ _ _ a b (BothGive a)
operate_related one AppendElement vs ws (BothCons a (BothCons b (BothCons x xs))) = BothGive BothUndefined
operate_related one (DefineMember sort enumerable) vs ws BothEmpty = BothGive BothUndefined
operate_related one (DefineMember sort enumerable) vs ws (BothCons a BothEmpty) = BothGive BothUndefined
operate_related one (DefineMember sort enumerable) vs ws (BothCons a (BothCons b BothEmpty)) = BothGive BothUndefined
operate_related one (DefineMember sort enumerable) vs ws (BothCons a (BothCons b (BothCons c BothEmpty))) = define_member_related sort enumerable _ _ _ _ _ _ _ _ a b c (BothGive a)
operate_related one (DefineMember sort enumerable) vs ws (BothCons a (BothCons b (BothCons c (BothCons x xs)))) = BothGive BothUndefined
operate_related one (NameFunction sort) vs ws BothEmpty = BothGive BothUndefined
operate_related one (NameFunction sort) vs ws (BothCons a BothEmpty) = BothGive BothUndefined
operate_related one (NameFunction sort) vs ws (BothCons a (BothCons b BothEmpty)) = name_function_related sort _ _ _ _ _ _ a b (BothGive b)
operate_related one (NameFunction sort) vs ws (BothCons a (BothCons b (BothCons x xs))) = BothGive BothUndefined
operate_related one Print vs ws BothEmpty = BothGive BothUndefined
operate_related one Print vs ws (BothCons a BothEmpty) = print_related _ _ Give Give a given
operate_related one Print vs ws (BothCons a (BothCons x xs)) = BothGive BothUndefined
operate_related one ReadLine vs ws BothEmpty = read_related Give Give given
operate_related one ReadLine vs ws (BothCons x xs) = BothGive BothUndefined
operate_related one JoinTexts vs ws h = join_related vs ws Give Give h given
operate_related one CallFunction vs ws BothEmpty = BothGive BothUndefined
operate_related one CallFunction vs ws (BothCons a BothEmpty) = BothGive BothUndefined
operate_related one CallFunction vs ws (BothCons a (BothCons f xs)) = BothCall f a xs BothNone given
operate_related one Construct vs ws BothEmpty = BothGive BothUndefined
operate_related one Construct vs ws (BothCons f xs) = construct_related _ _ _ _ _ _ Give Give f xs f given
