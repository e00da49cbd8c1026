-- Reading an instruction back: one number and one operand for each, and the operand's bytes.
use Rattle.std.proofs.Common.{◌≡◌, ◌<◌, List, [], ◌∷◌, Some, slice_get, refl, sym, ap, ◌∙◌, lit<}
use Rattle.byte_code.specs.declared.operand.Following.{Following}
use Rattle.byte_code.specs.declared.instruction.Op.{Op}
use Rattle.byte_code.specs.declared.instruction.Op.TheVariants.{Undefined, Null, True, False, Int, Mid, Long, Text, This, Pop, Dup, Dup2, Swap, Rot3, Rot4, LocalGet, LocalPut, LocalCheck, LocalClear, BoxLet, BoxConst, BoxGet, BoxInit, BoxPut, BoxCopy, OuterGet, OuterInit, OuterPut, Global, Get, GetKey, Set, SetKey, Delete, DeleteKey, SuperGet, SuperGetKey, SuperSet, SuperSetKey, In, InstanceOf, Binary, Unary, Typeof, ToText, Join, ToKey, Jump, JumpIf, JumpUnless, JumpValue, Turn, Call, New, SuperCall, BindThis, Return, Throw, ThrowMessage, Function, Method, Class, ClassExtends, Object, Array, Append, Define, NameIt}
use Rattle.byte_code.specs.Operands.{IsRead}
use Rattle.byte_code.specs.Instructions.{parts}

-- the instructions with the operands that f holds, in the order of their numbers
rows : Following → List Op
rows f =
    Undefined ∷ Null ∷ True ∷ False ∷ Int f.int8 ∷ Mid f.int32 ∷ Long f.int64 ∷ Text f.name ∷ This ∷
    Pop ∷ Dup ∷ Dup2 ∷ Swap ∷ Rot3 ∷ Rot4 ∷ LocalGet f.pair ∷ LocalPut f.pair ∷ LocalCheck f.pair ∷
    LocalClear f.pair ∷ BoxLet f.pair ∷ BoxConst f.pair ∷ BoxGet f.pair ∷ BoxInit f.pair ∷
    BoxPut f.pair ∷ BoxCopy f.pair ∷ OuterGet f.pair ∷ OuterInit f.pair ∷ OuterPut f.pair ∷
    Global f.byte ∷ Get f.name ∷ GetKey ∷ Set f.name ∷ SetKey ∷ Delete f.name ∷ DeleteKey ∷
    SuperGet f.name ∷ SuperGetKey ∷ SuperSet f.name ∷ SuperSetKey ∷ In ∷ InstanceOf ∷
    Binary f.byte ∷ Unary f.byte ∷ Typeof ∷ ToText ∷ Join f.byte ∷ ToKey ∷ Jump f.jump ∷
    JumpIf f.jump ∷ JumpUnless f.jump ∷ JumpValue f.jump ∷ Turn ∷ Call f.byte ∷ New f.byte ∷
    SuperCall f.byte ∷ BindThis ∷ Return ∷ Throw ∷ ThrowMessage f.byte ∷ Function f.pair ∷
    Method f.pair ∷ Class f.pair ∷ ClassExtends f.pair ∷ Object ∷ Array ∷ Append ∷ Define f.byte ∷
    NameIt f.byte ∷ []

row-at : (f : Following) (op : Op) → IsRead f (parts op).1 → slice_get (rows f) (parts op).0 ≡ Some op
unfolding rows
row-at f Undefined h = refl
row-at f Null h = refl
row-at f True h = refl
row-at f False h = refl
row-at f (Int n) h = ap (λ m. Some (Int m)) (sym h)
row-at f (Mid n) h = ap (λ m. Some (Mid m)) (sym h)
row-at f (Long n) h = ap (λ m. Some (Long m)) (sym h)
row-at f (Text n) h = ap (λ m. Some (Text m)) (sym h)
row-at f This h = refl
row-at f Pop h = refl
row-at f Dup h = refl
row-at f Dup2 h = refl
row-at f Swap h = refl
row-at f Rot3 h = refl
row-at f Rot4 h = refl
row-at f (LocalGet n) h = ap (λ m. Some (LocalGet m)) (sym h)
row-at f (LocalPut n) h = ap (λ m. Some (LocalPut m)) (sym h)
row-at f (LocalCheck n) h = ap (λ m. Some (LocalCheck m)) (sym h)
row-at f (LocalClear n) h = ap (λ m. Some (LocalClear m)) (sym h)
row-at f (BoxLet n) h = ap (λ m. Some (BoxLet m)) (sym h)
row-at f (BoxConst n) h = ap (λ m. Some (BoxConst m)) (sym h)
row-at f (BoxGet n) h = ap (λ m. Some (BoxGet m)) (sym h)
row-at f (BoxInit n) h = ap (λ m. Some (BoxInit m)) (sym h)
row-at f (BoxPut n) h = ap (λ m. Some (BoxPut m)) (sym h)
row-at f (BoxCopy n) h = ap (λ m. Some (BoxCopy m)) (sym h)
row-at f (OuterGet n) h = ap (λ m. Some (OuterGet m)) (sym h)
row-at f (OuterInit n) h = ap (λ m. Some (OuterInit m)) (sym h)
row-at f (OuterPut n) h = ap (λ m. Some (OuterPut m)) (sym h)
row-at f (Global n) h = ap (λ m. Some (Global m)) (sym h)
row-at f (Get n) h = ap (λ m. Some (Get m)) (sym h)
row-at f GetKey h = refl
row-at f (Set n) h = ap (λ m. Some (Set m)) (sym h)
row-at f SetKey h = refl
row-at f (Delete n) h = ap (λ m. Some (Delete m)) (sym h)
row-at f DeleteKey h = refl
row-at f (SuperGet n) h = ap (λ m. Some (SuperGet m)) (sym h)
row-at f SuperGetKey h = refl
row-at f (SuperSet n) h = ap (λ m. Some (SuperSet m)) (sym h)
row-at f SuperSetKey h = refl
row-at f In h = refl
row-at f InstanceOf h = refl
row-at f (Binary n) h = ap (λ m. Some (Binary m)) (sym h)
row-at f (Unary n) h = ap (λ m. Some (Unary m)) (sym h)
row-at f Typeof h = refl
row-at f ToText h = refl
row-at f (Join n) h = ap (λ m. Some (Join m)) (sym h)
row-at f ToKey h = refl
row-at f (Jump n) h = ap (λ m. Some (Jump m)) (sym h)
row-at f (JumpIf n) h = ap (λ m. Some (JumpIf m)) (sym h)
row-at f (JumpUnless n) h = ap (λ m. Some (JumpUnless m)) (sym h)
row-at f (JumpValue n) h = ap (λ m. Some (JumpValue m)) (sym h)
row-at f Turn h = refl
row-at f (Call n) h = ap (λ m. Some (Call m)) (sym h)
row-at f (New n) h = ap (λ m. Some (New m)) (sym h)
row-at f (SuperCall n) h = ap (λ m. Some (SuperCall m)) (sym h)
row-at f BindThis h = refl
row-at f Return h = refl
row-at f Throw h = refl
row-at f (ThrowMessage n) h = ap (λ m. Some (ThrowMessage m)) (sym h)
row-at f (Function n) h = ap (λ m. Some (Function m)) (sym h)
row-at f (Method n) h = ap (λ m. Some (Method m)) (sym h)
row-at f (Class n) h = ap (λ m. Some (Class m)) (sym h)
row-at f (ClassExtends n) h = ap (λ m. Some (ClassExtends m)) (sym h)
row-at f Object h = refl
row-at f Array h = refl
row-at f Append h = refl
row-at f (Define n) h = ap (λ m. Some (Define m)) (sym h)
row-at f (NameIt n) h = ap (λ m. Some (NameIt m)) (sym h)

-- two instructions of one number and with the operand that f holds are the same
pub same_op : (f : Following) (a b : Op) → (parts a).0 ≡ (parts b).0 → IsRead f (parts a).1 → IsRead f (parts b).1 → a ≡ b
same_op f a b e ha hb =
    let p : slice_get (rows f) (parts a).0 ≡ Some a = row-at f a ha in
    let q : slice_get (rows f) (parts b).0 ≡ Some b = row-at f b hb in
    let r : slice_get (rows f) (parts a).0 ≡ slice_get (rows f) (parts b).0 = ap (λ n. slice_get (rows f) n) e in
    let s : Some a ≡ Some b = sym p ∙ r ∙ q in
    cc

-- 68 numbers
pub parts-below : (op : Op) → (parts op).0 < 68
parts-below Undefined = lit< tt
parts-below Null = lit< tt
parts-below True = lit< tt
parts-below False = lit< tt
parts-below (Int n) = lit< tt
parts-below (Mid n) = lit< tt
parts-below (Long n) = lit< tt
parts-below (Text n) = lit< tt
parts-below This = lit< tt
parts-below Pop = lit< tt
parts-below Dup = lit< tt
parts-below Dup2 = lit< tt
parts-below Swap = lit< tt
parts-below Rot3 = lit< tt
parts-below Rot4 = lit< tt
parts-below (LocalGet n) = lit< tt
parts-below (LocalPut n) = lit< tt
parts-below (LocalCheck n) = lit< tt
parts-below (LocalClear n) = lit< tt
parts-below (BoxLet n) = lit< tt
parts-below (BoxConst n) = lit< tt
parts-below (BoxGet n) = lit< tt
parts-below (BoxInit n) = lit< tt
parts-below (BoxPut n) = lit< tt
parts-below (BoxCopy n) = lit< tt
parts-below (OuterGet n) = lit< tt
parts-below (OuterInit n) = lit< tt
parts-below (OuterPut n) = lit< tt
parts-below (Global n) = lit< tt
parts-below (Get n) = lit< tt
parts-below GetKey = lit< tt
parts-below (Set n) = lit< tt
parts-below SetKey = lit< tt
parts-below (Delete n) = lit< tt
parts-below DeleteKey = lit< tt
parts-below (SuperGet n) = lit< tt
parts-below SuperGetKey = lit< tt
parts-below (SuperSet n) = lit< tt
parts-below SuperSetKey = lit< tt
parts-below In = lit< tt
parts-below InstanceOf = lit< tt
parts-below (Binary n) = lit< tt
parts-below (Unary n) = lit< tt
parts-below Typeof = lit< tt
parts-below ToText = lit< tt
parts-below (Join n) = lit< tt
parts-below ToKey = lit< tt
parts-below (Jump n) = lit< tt
parts-below (JumpIf n) = lit< tt
parts-below (JumpUnless n) = lit< tt
parts-below (JumpValue n) = lit< tt
parts-below Turn = lit< tt
parts-below (Call n) = lit< tt
parts-below (New n) = lit< tt
parts-below (SuperCall n) = lit< tt
parts-below BindThis = lit< tt
parts-below Return = lit< tt
parts-below Throw = lit< tt
parts-below (ThrowMessage n) = lit< tt
parts-below (Function n) = lit< tt
parts-below (Method n) = lit< tt
parts-below (Class n) = lit< tt
parts-below (ClassExtends n) = lit< tt
parts-below Object = lit< tt
parts-below Array = lit< tt
parts-below Append = lit< tt
parts-below (Define n) = lit< tt
parts-below (NameIt n) = lit< tt
