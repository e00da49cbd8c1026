-- Each instruction of a frame's stack, places, cells, properties and operators. What is expected is worked out from the
-- table of instructions.
use Rattle.std.proofs.Common.{◌≡◌, [], ◌∷◌, true, false, refl, pos, neg_ℤ, codes}
use Rattle.byte_code.specs.declared.instruction.Op.TheVariants as i
use Rattle.js_value.specs.Value.{Undefined, Null, Boolean, Number, String, Object}
use Rattle.es_ops.specs.Ledger.{Budget}
use Rattle.es_machine.proofs.Samples.{number, Gave, Threw, ThrewError, Halted, gives, computing}

constants : gives (i.Undefined ∷ []) ∷ gives (i.Null ∷ []) ∷ gives (i.True ∷ []) ∷ gives (i.False ∷ []) ∷ gives (i.Int (neg_ℤ (pos 3)) ∷ []) ∷ gives (i.Mid (pos 70000) ∷ []) ∷ gives (i.Long (pos 5000000000) ∷ []) ∷ gives (i.Text 1 ∷ []) ∷ gives (i.This ∷ []) ∷ []
    ≡ Gave Undefined ∷ Gave Null ∷ Gave (Boolean true) ∷ Gave (Boolean false) ∷ Gave (Number (neg_ℤ (pos 3))) ∷ Gave (number 70000) ∷ Gave (number 5000000000) ∷ Gave (String (codes "a")) ∷ Gave (Object 13) ∷ []
unfolding computing
constants = refl

-- a difference tells which of two values is on top
stack : gives (i.Int (pos 1) ∷ i.Int (pos 2) ∷ i.Pop ∷ []) ∷ gives (i.Int (pos 3) ∷ i.Dup ∷ i.Binary 2 ∷ []) ∷ gives (i.Int (pos 9) ∷ i.Int (pos 2) ∷ i.Dup2 ∷ i.Binary 1 ∷ i.Binary 2 ∷ i.Binary 1 ∷ []) ∷ gives (i.Int (pos 9) ∷ i.Int (pos 2) ∷ i.Swap ∷ i.Binary 1 ∷ []) ∷ gives (i.Int (pos 1) ∷ i.Int (pos 20) ∷ i.Int (pos 7) ∷ i.Rot3 ∷ i.Binary 1 ∷ i.Binary 1 ∷ []) ∷ gives (i.Int (pos 1) ∷ i.Int (pos 20) ∷ i.Int (pos 7) ∷ i.Int (pos 40) ∷ i.Rot4 ∷ i.Binary 1 ∷ i.Binary 1 ∷ i.Binary 1 ∷ []) ∷ []
    ≡ Gave (number 1) ∷ Gave (number 9) ∷ Gave (Number (neg_ℤ (pos 5))) ∷ Gave (Number (neg_ℤ (pos 7))) ∷ Gave (number 26) ∷ Gave (number 52) ∷ []
unfolding computing
stack = refl

-- 8 is an uninitialised place; place 5 points to a cell that holds 5
places : gives (i.LocalGet 0 ∷ []) ∷ gives (i.Int (pos 1) ∷ i.LocalPut 8 ∷ i.LocalGet 8 ∷ []) ∷ gives (i.LocalCheck 0 ∷ i.True ∷ []) ∷ gives (i.LocalCheck 8 ∷ i.True ∷ []) ∷ gives (i.LocalClear 0 ∷ i.LocalCheck 0 ∷ i.True ∷ []) ∷ []
    ≡ Gave (Object 13) ∷ Gave (number 1) ∷ Gave (Boolean true) ∷ ThrewError (codes "not initialised") ∷ ThrewError (codes "not initialised") ∷ []
unfolding computing
places = refl

-- place 6 points to a const cell that isn't initialised, 7 to one that holds 6
cells : gives (i.BoxLet 8 ∷ i.BoxGet 8 ∷ []) ∷ gives (i.BoxConst 8 ∷ i.Int (pos 1) ∷ i.BoxInit 8 ∷ i.BoxGet 8 ∷ []) ∷ gives (i.BoxConst 8 ∷ i.Int (pos 1) ∷ i.BoxInit 8 ∷ i.Int (pos 2) ∷ i.BoxPut 8 ∷ i.BoxGet 8 ∷ []) ∷ gives (i.BoxGet 5 ∷ []) ∷ gives (i.Int (pos 2) ∷ i.BoxPut 5 ∷ i.BoxGet 5 ∷ []) ∷ gives (i.Int (pos 2) ∷ i.BoxPut 6 ∷ i.BoxGet 6 ∷ []) ∷ gives (i.BoxCopy 5 ∷ i.Int (pos 2) ∷ i.BoxPut 5 ∷ i.BoxGet 5 ∷ i.OuterGet 0 ∷ i.Binary 1 ∷ []) ∷ []
    ≡ ThrewError (codes "not initialised") ∷ Gave (number 1) ∷ ThrewError (codes "assignment to a constant") ∷ Gave (number 5) ∷ Gave (number 2) ∷ ThrewError (codes "not initialised") ∷ Gave (Number (neg_ℤ (pos 3))) ∷ []
unfolding computing
cells = refl

outer_cells : gives (i.OuterGet 0 ∷ []) ∷ gives (i.OuterGet 1 ∷ []) ∷ gives (i.Int (pos 1) ∷ i.OuterInit 1 ∷ i.OuterGet 1 ∷ []) ∷ gives (i.Int (pos 2) ∷ i.OuterPut 0 ∷ i.OuterGet 0 ∷ []) ∷ gives (i.Int (pos 2) ∷ i.OuterPut 2 ∷ i.OuterGet 2 ∷ []) ∷ []
    ≡ Gave (number 5) ∷ ThrewError (codes "not initialised") ∷ Gave (number 1) ∷ Gave (number 2) ∷ ThrewError (codes "assignment to a constant") ∷ []
unfolding computing
outer_cells = refl

globals : gives (i.Global 0 ∷ []) ∷ gives (i.Global 1 ∷ []) ∷ []
    ≡ Gave Undefined ∷ Gave (Object 13) ∷ []
unfolding computing
globals = refl

-- 13 has the property a, 14 inherits it
reads : gives (i.LocalGet 0 ∷ i.Get 1 ∷ []) ∷ gives (i.Null ∷ i.Get 1 ∷ []) ∷ gives (i.LocalGet 1 ∷ i.Text 1 ∷ i.GetKey ∷ []) ∷ gives (i.Undefined ∷ i.Text 1 ∷ i.GetKey ∷ []) ∷ gives (i.LocalGet 4 ∷ i.SuperGet 1 ∷ []) ∷ gives (i.LocalGet 4 ∷ i.Text 1 ∷ i.SuperGetKey ∷ []) ∷ []
    ≡ Gave (number 1) ∷ ThrewError (codes "no properties of undefined or null") ∷ Gave (number 1) ∷ ThrewError (codes "no properties of undefined or null") ∷ Gave (number 1) ∷ Gave (number 1) ∷ []
unfolding computing
reads = refl

writes : gives (i.LocalGet 1 ∷ i.Int (pos 2) ∷ i.Set 1 ∷ i.LocalGet 1 ∷ i.Get 1 ∷ i.Binary 0 ∷ []) ∷ gives (i.LocalGet 1 ∷ i.Text 2 ∷ i.Int (pos 2) ∷ i.SetKey ∷ i.LocalGet 1 ∷ i.Get 2 ∷ i.Binary 0 ∷ []) ∷ gives (i.LocalGet 0 ∷ i.Delete 1 ∷ i.Pop ∷ i.LocalGet 0 ∷ i.Get 1 ∷ []) ∷ gives (i.LocalGet 0 ∷ i.Text 1 ∷ i.DeleteKey ∷ []) ∷ gives (i.LocalGet 0 ∷ i.Int (pos 2) ∷ i.SuperSet 2 ∷ i.LocalGet 0 ∷ i.Get 2 ∷ i.Binary 0 ∷ []) ∷ gives (i.LocalGet 0 ∷ i.Text 2 ∷ i.Int (pos 2) ∷ i.SuperSetKey ∷ i.LocalGet 0 ∷ i.Get 2 ∷ i.Binary 0 ∷ []) ∷ []
    ≡ Gave (number 4) ∷ Gave (number 4) ∷ Gave Undefined ∷ Gave (Boolean true) ∷ Gave (number 4) ∷ Gave (number 4) ∷ []
unfolding computing
writes = refl

operators : gives (i.Text 1 ∷ i.LocalGet 0 ∷ i.In ∷ []) ∷ gives (i.LocalGet 1 ∷ i.LocalGet 2 ∷ i.InstanceOf ∷ []) ∷ gives (i.Int (pos 1) ∷ i.Unary 1 ∷ []) ∷ gives (i.Int (pos 1) ∷ i.Typeof ∷ []) ∷ gives (i.Int (pos 1) ∷ i.ToText ∷ []) ∷ gives (i.Int (pos 1) ∷ i.Text 1 ∷ i.Null ∷ i.Join 3 ∷ []) ∷ gives (i.LocalGet 0 ∷ i.Int (pos 1) ∷ i.ToKey ∷ []) ∷ gives (i.Null ∷ i.Int (pos 1) ∷ i.ToKey ∷ []) ∷ []
    ≡ Gave (Boolean true) ∷ ThrewError (codes "not an object") ∷ Gave (Number (neg_ℤ (pos 1))) ∷ Gave (String (codes "number")) ∷ Gave (number 1) ∷ Gave (String (codes "1anull")) ∷ Gave (number 1) ∷ ThrewError (codes "no properties of undefined or null") ∷ []
unfolding computing
operators = refl

-- a jump over an int 1 of two bytes leaves what is there; a backward one goes to a turn, until no unit is left
jumps : gives (i.Int (pos 7) ∷ i.Jump 7 ∷ i.Int (pos 1) ∷ []) ∷ gives (i.Int (pos 7) ∷ i.True ∷ i.JumpIf 8 ∷ i.Int (pos 1) ∷ []) ∷ gives (i.Int (pos 7) ∷ i.False ∷ i.JumpIf 8 ∷ i.Int (pos 1) ∷ []) ∷ gives (i.Int (pos 7) ∷ i.False ∷ i.JumpUnless 8 ∷ i.Int (pos 1) ∷ []) ∷ gives (i.Int (pos 7) ∷ i.Null ∷ i.JumpValue 8 ∷ i.Int (pos 1) ∷ []) ∷ gives (i.Int (pos 7) ∷ i.False ∷ i.JumpValue 8 ∷ i.Int (pos 1) ∷ []) ∷ gives (i.Turn ∷ i.Jump 0 ∷ []) ∷ []
    ≡ Gave (number 7) ∷ Gave (number 7) ∷ Gave (number 1) ∷ Gave (number 7) ∷ Gave (number 1) ∷ Gave (number 7) ∷ Halted Budget ∷ []
unfolding computing
jumps = refl

-- 15 gives its receiver and constructs nothing, 16 throws 9
calls : gives (i.Int (pos 4) ∷ i.LocalGet 2 ∷ i.Null ∷ i.Call 1 ∷ []) ∷ gives (i.Int (pos 4) ∷ i.LocalGet 3 ∷ i.Call 0 ∷ []) ∷ gives (i.Int (pos 4) ∷ i.Null ∷ i.Call 0 ∷ []) ∷ gives (i.LocalGet 3 ∷ i.New 0 ∷ []) ∷ gives (i.Int (pos 4) ∷ i.Throw ∷ []) ∷ gives (i.ThrowMessage 16 ∷ []) ∷ []
    ≡ Gave (number 4) ∷ Threw (number 9) ∷ ThrewError (codes "not a function") ∷ ThrewError (codes "not a constructor") ∷ Threw (number 4) ∷ ThrewError (codes "property cannot be deleted") ∷ []
unfolding computing
calls = refl

made : gives (i.Object ∷ []) ∷ gives (i.Array ∷ i.Int (pos 7) ∷ i.Append ∷ i.Int (pos 0) ∷ i.GetKey ∷ []) ∷ gives (i.Object ∷ i.Text 2 ∷ i.Int (pos 7) ∷ i.Define 0 ∷ i.Get 2 ∷ []) ∷ gives (i.Object ∷ i.Text 2 ∷ i.LocalGet 2 ∷ i.Define 2 ∷ i.Get 2 ∷ []) ∷ []
    ≡ Gave (Object 22) ∷ Gave (number 7) ∷ Gave (number 7) ∷ Gave (Object 22) ∷ []
unfolding computing
made = refl
