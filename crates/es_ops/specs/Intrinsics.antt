-- The intrinsic objects (ECMA-262 6.1.7.4) that operations and global names speak of, and their places in the realm (own).
use Rattle.std.specs.Prelude.{ℕ}
use Rattle.es_ops.specs.Messages.{ErrorKind, RangeError, ReferenceError, TypeError}

pub data Intrinsic : Type 0 where
  ObjectPrototype : Intrinsic
  FunctionPrototype : Intrinsic
  ErrorPrototype : Intrinsic
  RangeErrorPrototype : Intrinsic
  ReferenceErrorPrototype : Intrinsic
  SyntaxErrorPrototype : Intrinsic
  TypeErrorPrototype : Intrinsic
  BooleanPrototype : Intrinsic
  NumberPrototype : Intrinsic
  MathObject : Intrinsic
  PromisePrototype : Intrinsic
  StringPrototype : Intrinsic
  ArrayPrototype : Intrinsic
  ObjectFunction : Intrinsic
  FunctionFunction : Intrinsic
  ErrorFunction : Intrinsic
  RangeErrorFunction : Intrinsic
  ReferenceErrorFunction : Intrinsic
  SyntaxErrorFunction : Intrinsic
  TypeErrorFunction : Intrinsic
  BooleanFunction : Intrinsic
  NumberFunction : Intrinsic
  ParseIntFunction : Intrinsic
  PromiseFunction : Intrinsic
  StringFunction : Intrinsic
  ArrayFunction : Intrinsic
  PrintCell : Intrinsic
  ReadCell : Intrinsic

-- in the order of the realm: prototypes and Math, the functions by their rows, the two cells of the module `host`
abbrev pub place_of : Intrinsic → ℕ
place_of ObjectPrototype = 0
place_of FunctionPrototype = 1
place_of ErrorPrototype = 2
place_of RangeErrorPrototype = 3
place_of ReferenceErrorPrototype = 4
place_of SyntaxErrorPrototype = 5
place_of TypeErrorPrototype = 6
place_of BooleanPrototype = 7
place_of NumberPrototype = 8
place_of MathObject = 9
place_of PromisePrototype = 10
place_of StringPrototype = 11
place_of ArrayPrototype = 12
place_of ObjectFunction = 13
place_of FunctionFunction = 33
place_of ErrorFunction = 36
place_of RangeErrorFunction = 37
place_of ReferenceErrorFunction = 38
place_of SyntaxErrorFunction = 39
place_of TypeErrorFunction = 40
place_of BooleanFunction = 42
place_of NumberFunction = 44
place_of ParseIntFunction = 47
place_of PromiseFunction = 55
place_of StringFunction = 62
place_of ArrayFunction = 79
place_of PrintCell = 102
place_of ReadCell = 103

abbrev pub error_prototype : ErrorKind → Intrinsic
error_prototype RangeError = RangeErrorPrototype
error_prototype ReferenceError = ReferenceErrorPrototype
error_prototype TypeError = TypeErrorPrototype
