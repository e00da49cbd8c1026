-- All messages with their texts, kinds and numbers, the places of the intrinsic objects, and the limits that are numbers.
use Rattle.std.proofs.Common.{◌≡◌, List, [], ◌∷◌, map, refl, codes}
use Rattle.es_ops.specs.Messages.{Message, NumberOutOfRange, StringTooLong, InvalidArrayLength, InvalidArgument, NotDefined, NotInitialised, EmptyArray, SuperCalledTwice, AssignmentToConstant, NotAFunction, NotAConstructor, CalledWithoutNew, NoProperties, NotWritable, NotDefinable, NotDeletable, NotAnObject, NoPrimitiveValue, PrimitiveExpected, AccessorOnIndex, PrototypeNotSettable, ResolvedWithItself, WrongReceiver, ReturnedPrimitive, RangeError, ReferenceError, TypeError, message_number, kind_of_message, text_of_message}
use Rattle.es_ops.specs.Intrinsics.{ObjectPrototype, FunctionPrototype, ErrorPrototype, RangeErrorPrototype, ReferenceErrorPrototype, SyntaxErrorPrototype, TypeErrorPrototype, BooleanPrototype, NumberPrototype, MathObject, PromisePrototype, StringPrototype, ArrayPrototype, ObjectFunction, FunctionFunction, ErrorFunction, RangeErrorFunction, ReferenceErrorFunction, SyntaxErrorFunction, TypeErrorFunction, BooleanFunction, NumberFunction, ParseIntFunction, PromiseFunction, StringFunction, ArrayFunction, PrintCell, ReadCell, place_of, error_prototype}
use Rattle.es_ops.specs.State.{most_names}
use Rattle.es_ops.specs.Errors.{longest_text}
use Rattle.es_ops.specs.Calling.{most_depth, constructor_rows}
use Rattle.es_ops.specs.HostCalls.{longest_line}

messages : List Message
messages = NumberOutOfRange ∷ StringTooLong ∷ InvalidArrayLength ∷ InvalidArgument ∷ NotDefined ∷ NotInitialised ∷ EmptyArray ∷ SuperCalledTwice ∷ AssignmentToConstant ∷ NotAFunction ∷ NotAConstructor ∷ CalledWithoutNew ∷ NoProperties ∷ NotWritable ∷ NotDefinable ∷ NotDeletable ∷ NotAnObject ∷ NoPrimitiveValue ∷ PrimitiveExpected ∷ AccessorOnIndex ∷ PrototypeNotSettable ∷ ResolvedWithItself ∷ WrongReceiver ∷ ReturnedPrimitive ∷ []

numbers_of_messages : map message_number messages ≡ 1 ∷ 2 ∷ 3 ∷ 4 ∷ 5 ∷ 6 ∷ 7 ∷ 8 ∷ 9 ∷ 10 ∷ 11 ∷ 12 ∷ 13 ∷ 14 ∷ 15 ∷ 16 ∷ 17 ∷ 18 ∷ 19 ∷ 20 ∷ 21 ∷ 22 ∷ 23 ∷ 24 ∷ []
unfolding messages
numbers_of_messages = refl

kinds_of_messages : map kind_of_message messages ≡ RangeError ∷ RangeError ∷ RangeError ∷ RangeError ∷ ReferenceError ∷ ReferenceError ∷ TypeError ∷ ReferenceError ∷ TypeError ∷ TypeError ∷ TypeError ∷ TypeError ∷ TypeError ∷ TypeError ∷ TypeError ∷ TypeError ∷ TypeError ∷ TypeError ∷ TypeError ∷ TypeError ∷ TypeError ∷ TypeError ∷ TypeError ∷ TypeError ∷ []
unfolding messages
kinds_of_messages = refl

texts_of_messages : map text_of_message messages ≡ codes "number out of range" ∷ codes "string too long" ∷ codes "invalid array length" ∷ codes "invalid argument" ∷ codes "not defined" ∷ codes "not initialised" ∷ codes "empty array without initial value" ∷ codes "super called twice" ∷ codes "assignment to a constant" ∷ codes "not a function" ∷ codes "not a constructor" ∷ codes "constructor called without new" ∷ codes "no properties of undefined or null" ∷ codes "property is not writable" ∷ codes "property cannot be defined" ∷ codes "property cannot be deleted" ∷ codes "not an object" ∷ codes "no primitive value" ∷ codes "primitive expected" ∷ codes "accessor on an index" ∷ codes "prototype cannot be set" ∷ codes "promise resolved with itself" ∷ codes "wrong receiver" ∷ codes "constructor returned a primitive" ∷ []
unfolding messages
texts_of_messages = refl

prototypes_of_errors : map error_prototype (RangeError ∷ ReferenceError ∷ TypeError ∷ []) ≡ RangeErrorPrototype ∷ ReferenceErrorPrototype ∷ TypeErrorPrototype ∷ []
prototypes_of_errors = refl

places_of_intrinsics : map place_of (ObjectPrototype ∷ FunctionPrototype ∷ ErrorPrototype ∷ RangeErrorPrototype ∷ ReferenceErrorPrototype ∷ SyntaxErrorPrototype ∷ TypeErrorPrototype ∷ BooleanPrototype ∷ NumberPrototype ∷ MathObject ∷ PromisePrototype ∷ StringPrototype ∷ ArrayPrototype ∷ ObjectFunction ∷ FunctionFunction ∷ ErrorFunction ∷ RangeErrorFunction ∷ ReferenceErrorFunction ∷ SyntaxErrorFunction ∷ TypeErrorFunction ∷ BooleanFunction ∷ NumberFunction ∷ ParseIntFunction ∷ PromiseFunction ∷ StringFunction ∷ ArrayFunction ∷ PrintCell ∷ ReadCell ∷ []) ≡ 0 ∷ 1 ∷ 2 ∷ 3 ∷ 4 ∷ 5 ∷ 6 ∷ 7 ∷ 8 ∷ 9 ∷ 10 ∷ 11 ∷ 12 ∷ 13 ∷ 33 ∷ 36 ∷ 37 ∷ 38 ∷ 39 ∷ 40 ∷ 42 ∷ 44 ∷ 47 ∷ 55 ∷ 62 ∷ 79 ∷ 102 ∷ 103 ∷ []
places_of_intrinsics = refl

limits : longest_text ∷ most_names ∷ most_depth ∷ longest_line ∷ [] ≡ 1048576 ∷ 65535 ∷ 128 ∷ 65535 ∷ []
limits = refl

built_in_constructors : constructor_rows ≡ 1 ∷ 21 ∷ 25 ∷ 26 ∷ 27 ∷ 28 ∷ 29 ∷ 44 ∷ 70 ∷ []
built_in_constructors = refl
