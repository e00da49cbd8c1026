-- The errors that the engine throws: their numbers, kinds and texts (own rule; ECMA-262 leaves the texts open).
use Rattle.std.specs.Prelude.{ℕ, codes}
use Rattle.js_value.specs.Value.{Text}

pub data ErrorKind : Type 0 where
  RangeError : ErrorKind
  ReferenceError : ErrorKind
  TypeError : ErrorKind

pub data Message : Type 0 where
  NumberOutOfRange : Message
  StringTooLong : Message
  InvalidArrayLength : Message
  InvalidArgument : Message
  NotDefined : Message
  NotInitialised : Message
  EmptyArray : Message
  SuperCalledTwice : Message
  AssignmentToConstant : Message
  NotAFunction : Message
  NotAConstructor : Message
  CalledWithoutNew : Message
  NoProperties : Message
  NotWritable : Message
  NotDefinable : Message
  NotDeletable : Message
  NotAnObject : Message
  NoPrimitiveValue : Message
  PrimitiveExpected : Message
  AccessorOnIndex : Message
  PrototypeNotSettable : Message
  ResolvedWithItself : Message
  WrongReceiver : Message
  ReturnedPrimitive : Message

abbrev pub message_number : Message → ℕ
message_number NumberOutOfRange = 1
message_number StringTooLong = 2
message_number InvalidArrayLength = 3
message_number InvalidArgument = 4
message_number NotDefined = 5
message_number NotInitialised = 6
message_number EmptyArray = 7
message_number SuperCalledTwice = 8
message_number AssignmentToConstant = 9
message_number NotAFunction = 10
message_number NotAConstructor = 11
message_number CalledWithoutNew = 12
message_number NoProperties = 13
message_number NotWritable = 14
message_number NotDefinable = 15
message_number NotDeletable = 16
message_number NotAnObject = 17
message_number NoPrimitiveValue = 18
message_number PrimitiveExpected = 19
message_number AccessorOnIndex = 20
message_number PrototypeNotSettable = 21
message_number ResolvedWithItself = 22
message_number WrongReceiver = 23
message_number ReturnedPrimitive = 24

abbrev pub kind_of_message : Message → ErrorKind
kind_of_message NumberOutOfRange = RangeError
kind_of_message StringTooLong = RangeError
kind_of_message InvalidArrayLength = RangeError
kind_of_message InvalidArgument = RangeError
kind_of_message NotDefined = ReferenceError
kind_of_message NotInitialised = ReferenceError
kind_of_message SuperCalledTwice = ReferenceError
kind_of_message _ = TypeError

abbrev pub text_of_message : Message → Text
text_of_message NumberOutOfRange = codes "number out of range"
text_of_message StringTooLong = codes "string too long"
text_of_message InvalidArrayLength = codes "invalid array length"
text_of_message InvalidArgument = codes "invalid argument"
text_of_message NotDefined = codes "not defined"
text_of_message NotInitialised = codes "not initialised"
text_of_message EmptyArray = codes "empty array without initial value"
text_of_message SuperCalledTwice = codes "super called twice"
text_of_message AssignmentToConstant = codes "assignment to a constant"
text_of_message NotAFunction = codes "not a function"
text_of_message NotAConstructor = codes "not a constructor"
text_of_message CalledWithoutNew = codes "constructor called without new"
text_of_message NoProperties = codes "no properties of undefined or null"
text_of_message NotWritable = codes "property is not writable"
text_of_message NotDefinable = codes "property cannot be defined"
text_of_message NotDeletable = codes "property cannot be deleted"
text_of_message NotAnObject = codes "not an object"
text_of_message NoPrimitiveValue = codes "no primitive value"
text_of_message PrimitiveExpected = codes "primitive expected"
text_of_message AccessorOnIndex = codes "accessor on an index"
text_of_message PrototypeNotSettable = codes "prototype cannot be set"
text_of_message ResolvedWithItself = codes "promise resolved with itself"
text_of_message WrongReceiver = codes "wrong receiver"
text_of_message ReturnedPrimitive = codes "constructor returned a primitive"
