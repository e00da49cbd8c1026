-- What each instruction takes from the stack and puts there.
use Rattle.std.specs.Prelude.{ℕ, ◌+◌}
use Rattle.byte_code.specs.declared.instruction.Op.{Op}
use Rattle.byte_code.specs.declared.instruction.Op.TheVariants.{Undefined, Null, True, False, Int, Mid, Long, Text, This, Pop, Dup, Dup2, Swap, Rot3, Rot4, LocalGet, LocalPut, LocalCheck, LocalClear, BoxLet, BoxConst, BoxGet, BoxInit, BoxPut, BoxCopy, OuterGet, OuterInit, OuterPut, Global, Get, GetKey, Set, SetKey, Delete, DeleteKey, SuperGet, SuperGetKey, SuperSet, SuperSetKey, In, InstanceOf, Binary, Unary, Typeof, ToText, Join, ToKey, Jump, JumpIf, JumpUnless, JumpValue, Turn, Call, New, SuperCall, BindThis, Return, Throw, ThrowMessage, Function, Method, Class, ClassExtends, Object, Array, Append, Define, NameIt}

-- so many values are taken from the top, and so many are put there
pub record Effect : Type 0 where
  pub pops : ℕ
  pub pushes : ℕ

abbrev pub takes : ℕ → ℕ → Effect
takes n m = record { pops = n; pushes = m }

abbrev pub effect : Op → Effect
effect Undefined = takes 0 1
effect Null = takes 0 1
effect True = takes 0 1
effect False = takes 0 1
effect (Int number) = takes 0 1
effect (Mid number) = takes 0 1
effect (Long number) = takes 0 1
effect (Text name) = takes 0 1
effect This = takes 0 1
effect Pop = takes 1 0
effect Dup = takes 1 2
effect Dup2 = takes 2 4
effect Swap = takes 2 2
effect Rot3 = takes 3 3
effect Rot4 = takes 4 4
effect (LocalGet place) = takes 0 1
effect (LocalPut place) = takes 1 0
effect (LocalCheck place) = takes 0 0
effect (LocalClear place) = takes 0 0
effect (BoxLet place) = takes 0 0
effect (BoxConst place) = takes 0 0
effect (BoxGet place) = takes 0 1
effect (BoxInit place) = takes 1 0
effect (BoxPut place) = takes 1 0
effect (BoxCopy place) = takes 0 0
effect (OuterGet outer) = takes 0 1
effect (OuterInit outer) = takes 1 0
effect (OuterPut outer) = takes 1 0
effect (Global row) = takes 0 1
effect (Get name) = takes 1 1
effect GetKey = takes 2 1
effect (Set name) = takes 2 1
effect SetKey = takes 3 1
effect (Delete name) = takes 1 1
effect DeleteKey = takes 2 1
effect (SuperGet name) = takes 1 1
effect SuperGetKey = takes 2 1
effect (SuperSet name) = takes 2 1
effect SuperSetKey = takes 3 1
effect In = takes 2 1
effect InstanceOf = takes 2 1
effect (Binary row) = takes 2 1
effect (Unary row) = takes 1 1
effect Typeof = takes 1 1
effect ToText = takes 1 1
effect (Join count) = takes count 1
effect ToKey = takes 2 2
effect (Jump target) = takes 0 0
effect (JumpIf target) = takes 1 0
effect (JumpUnless target) = takes 1 0
effect (JumpValue target) = takes 1 0
effect Turn = takes 0 0
effect (Call count) = takes (count + 2) 1
effect (New count) = takes (count + 1) 1
effect (SuperCall count) = takes count 1
effect BindThis = takes 1 1
effect Return = takes 1 0
effect Throw = takes 1 0
effect (ThrowMessage message) = takes 0 1
effect (Function function) = takes 0 1
effect (Method function) = takes 2 3
effect (Class function) = takes 0 2
effect (ClassExtends function) = takes 1 2
effect Object = takes 0 1
effect Array = takes 0 1
effect Append = takes 2 1
effect (Define mode) = takes 3 1
effect (NameIt mode) = takes 2 2
