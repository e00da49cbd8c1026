-- Worked rows of the spellings, effects and handlers, computed.
use Rattle.std.proofs.Common.{◌≡◌, [], ◌∷◌, ◌++◌, refl, pos, negsuc}
use Rattle.byte_code.specs.declared.instruction.Op.TheVariants.{Dup2, ClassExtends, Define, Get, Undefined, Int, Mid, Long, OuterGet, Binary, Call, Pop, Return, Jump}
use Rattle.byte_code.specs.Instructions.{spelling}
use Rattle.byte_code.specs.Effects.{effect, takes}
use Rattle.byte_code.specs.ValidCode.{height_after, handler_target}
use Rattle.byte_code.specs.Renaming.{renamed}

-- the body of `import { print } from "host"; print(1 + 2);`
body : spelling Undefined ++ spelling (OuterGet 0) ++ spelling (Int (pos 1)) ++ spelling (Int (pos 2)) ++ spelling (Binary 0) ++ spelling (Call 1) ++ spelling Pop ++ spelling Undefined ++ spelling Return
    ≡ 0x00 ∷ 0x19 ∷ 0x00 ∷ 0x00 ∷ 0x04 ∷ 0x01 ∷ 0x04 ∷ 0x02 ∷ 0x29 ∷ 0x00 ∷ 0x34 ∷ 0x01 ∷ 0x09 ∷ 0x00 ∷ 0x38 ∷ []
body = refl

jump : spelling (Jump 0x0102) ≡ 0x2F ∷ 0x01 ∷ 0x02 ∷ []
jump = refl

minus_one : spelling (Int (negsuc 0)) ≡ 0x04 ∷ 0xFF ∷ []
minus_one = refl

minus_129 : spelling (Mid (negsuc 128)) ≡ 0x05 ∷ 0xFF ∷ 0xFF ∷ 0xFF ∷ 0x7F ∷ []
minus_129 = refl

greatest : spelling (Long (pos 9007199254740991)) ≡ 0x06 ∷ 0x00 ∷ 0x1F ∷ 0xFF ∷ 0xFF ∷ 0xFF ∷ 0xFF ∷ 0xFF ∷ 0xFF ∷ []
greatest = refl

-- `t f argument` to the call's value, `a b` to `a b a b`, `parent` to `c p`, and `o k v` to `o`
call : effect (Call 1) ≡ takes 3 1
call = refl

dup2 : effect Dup2 ≡ takes 2 4
dup2 = refl

class-extends : effect (ClassExtends 1) ≡ takes 1 2
class-extends = refl

define : effect (Define 0) ≡ takes 3 1
define = refl

-- from height 5, a call with one argument leaves 3
call_height : height_after (Call 1) 5 ≡ 3
call_height = refl

-- the second of two handlers, (0, 2, 10) and (0, 19, 258)
second_handler : handler_target (0 ∷ 0 ∷ 0 ∷ 2 ∷ 0 ∷ 10 ∷ 0 ∷ 0 ∷ 0 ∷ 19 ∷ 1 ∷ 2 ∷ []) 1 ≡ 258
second_handler = refl

renamed_get : renamed (7 ∷ 9 ∷ []) (Get 2) ≡ Get 9
renamed_get = refl
