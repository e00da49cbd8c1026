-- Two operations that are handed the same but for the numbers of things.
use Rattle.std.specs.Prelude.{ℕ, Bool, ℤ, List, Option}
use Rattle.js_value.specs.Number.{IsNumber}
use Rattle.js_value.specs.Value.{Value, Text, Key}
use Rattle.js_value.specs.Store.{Property}
use Rattle.js_value.specs.Order.{IsString, IsKey}
use Rattle.js_value.specs.Job.{Job}
use Rattle.es_ops.specs.InternalMethods.{PropertyDescriptor}
use Rattle.es_ops.specs.Messages.{Message}
use Rattle.es_ops.specs.Act.{Act}
use Rattle.es_ops.specs.Conversions.{Hint}
use Rattle.es_ops.specs.PropertyWrites.{NumberConversion}
use Rattle.es_ops.specs.Intrinsics.{Intrinsic}
use Rattle.es_ops.specs.Operators.{BinaryOperator, UnaryOperator}
use Rattle.es_ops.specs.Making.{FunctionCode, IsFunctionCode, MemberSort}
use Rattle.es_ops.specs.Operations as op
use Rattle.es_ops.specs.Operations.{Operation}
use Rattle.es_ops.specs.Related.{Naming, BothOption, BothList, BothValue, BothProperty, BothDescriptor, BothJob, Related, Then, ThenSame}

-- a conversion of an array's length asks for a value and gives a Number
abbrev pub Converts : Naming → NumberConversion → Type 0
Converts R convert = (v w : Value) (k l : ℤ → Act) → BothValue R v w → ThenSame R IsNumber k l → Related R (convert v k) (convert w l)

pub data BothOperation (R : Naming) : Operation → Operation → Type 0 where
  BothRaiseHanded : {e : Message} → BothOperation R (op.Raise e) (op.Raise e)
  BothMakeErrorHanded : {e : Message} {k l : ℕ → Act} → Then R R k l → BothOperation R (op.MakeError e k) (op.MakeError e l)
  BothMakeStringHanded : {t : Text} {k l : Value → Act} → IsString t → Then R (BothValue R) k l → BothOperation R (op.MakeString t k) (op.MakeString t l)
  BothToPrimitiveHanded : {i : Hint} {v w : Value} {k l : Value → Act} → BothValue R v w → Then R (BothValue R) k l → BothOperation R (op.ToPrimitive i v k) (op.ToPrimitive i w l)
  BothToNumberHanded : {v w : Value} {k l : ℤ → Act} → BothValue R v w → ThenSame R IsNumber k l → BothOperation R (op.ToNumber v k) (op.ToNumber w l)
  BothToStringHanded : {v w : Value} {k l : Text → Act} → BothValue R v w → ThenSame R IsString k l → BothOperation R (op.ToString v k) (op.ToString w l)
  BothToPropertyKeyHanded : {v w : Value} {k l : Key → Act} → BothValue R v w → ThenSame R IsKey k l → BothOperation R (op.ToPropertyKey v k) (op.ToPropertyKey w l)
  BothNumberExpectedHanded : {v w : Value} {k l : ℤ → Act} → BothValue R v w → ThenSame R IsNumber k l → BothOperation R (op.NumberExpected v k) (op.NumberExpected w l)
  BothTextExpectedHanded : {v w : Value} {k l : Text → Act} → BothValue R v w → ThenSame R IsString k l → BothOperation R (op.TextExpected v k) (op.TextExpected w l)
  BothKeyExpectedHanded : {v w : Value} {k l : Key → Act} → BothValue R v w → ThenSame R IsKey k l → BothOperation R (op.KeyExpected v k) (op.KeyExpected w l)
  BothIsLooselyEqualHanded : {v w x y : Value} {k l : Bool → Act} → BothValue R v w → BothValue R x y → ((b : Bool) → Related R (k b) (l b)) → BothOperation R (op.IsLooselyEqual v x k) (op.IsLooselyEqual w y l)
  BothIsCallableHanded : {v w : Value} {k l : Bool → Act} → BothValue R v w → ((b : Bool) → Related R (k b) (l b)) → BothOperation R (op.IsCallable v k) (op.IsCallable w l)
  BothPropertyValueHanded : {p q : Option Property} {v w : Value} {k l : Value → Act} → BothOption (BothProperty R) p q → BothValue R v w → Then R (BothValue R) k l → BothOperation R (op.PropertyValue p v k) (op.PropertyValue q w l)
  BothGetHanded : {m n : ℕ} {key : Key} {k l : Value → Act} → R m n → Then R (BothValue R) k l → BothOperation R (op.Get m key k) (op.Get n key l)
  BothHasPropertyHanded : {m n : ℕ} {key : Key} {k l : Bool → Act} → R m n → ((b : Bool) → Related R (k b) (l b)) → BothOperation R (op.HasProperty m key k) (op.HasProperty n key l)
  BothGetVHanded : {v w : Value} {key : Key} {k l : Value → Act} → BothValue R v w → Then R (BothValue R) k l → BothOperation R (op.GetV v key k) (op.GetV w key l)
  BothDefinePropertyHanded : {c : NumberConversion} {m n : ℕ} {key : Key} {d e : PropertyDescriptor} {k l : Bool → Act} → Converts R c → R m n → IsKey key → BothDescriptor R d e → ((b : Bool) → Related R (k b) (l b)) → BothOperation R (op.DefineProperty c m key d k) (op.DefineProperty c n key e l)
  BothDefinePropertyOrThrowHanded : {c : NumberConversion} {m n : ℕ} {key : Key} {d e : PropertyDescriptor} {k l : Act} → Converts R c → R m n → IsKey key → BothDescriptor R d e → Related R k l → BothOperation R (op.DefinePropertyOrThrow c m key d k) (op.DefinePropertyOrThrow c n key e l)
  BothCreateDataPropertyHanded : {m n : ℕ} {key : Key} {v w : Value} {k l : Bool → Act} → R m n → IsKey key → BothValue R v w → ((b : Bool) → Related R (k b) (l b)) → BothOperation R (op.CreateDataProperty m key v k) (op.CreateDataProperty n key w l)
  BothCreateDataPropertyOrThrowHanded : {m n : ℕ} {key : Key} {v w : Value} {k l : Act} → R m n → IsKey key → BothValue R v w → Related R k l → BothOperation R (op.CreateDataPropertyOrThrow m key v k) (op.CreateDataPropertyOrThrow n key w l)
  BothOrdinarySetHanded : {c : NumberConversion} {m n : ℕ} {key : Key} {v w t u : Value} {k l : Bool → Act} → Converts R c → R m n → IsKey key → BothValue R v w → BothValue R t u → ((b : Bool) → Related R (k b) (l b)) → BothOperation R (op.OrdinarySet c m key v t k) (op.OrdinarySet c n key w u l)
  BothSetVHanded : {c : NumberConversion} {x y : Value} {key : Key} {v w : Value} {k l : Bool → Act} → Converts R c → BothValue R x y → IsKey key → BothValue R v w → ((b : Bool) → Related R (k b) (l b)) → BothOperation R (op.SetV c x key v k) (op.SetV c y key w l)
  BothSetOrThrowHanded : {c : NumberConversion} {m n : ℕ} {key : Key} {v w : Value} {k l : Act} → Converts R c → R m n → IsKey key → BothValue R v w → Related R k l → BothOperation R (op.SetOrThrow c m key v k) (op.SetOrThrow c n key w l)
  BothPutValueHanded : {x y : Value} {key : Key} {v w : Value} {k l : Act} → BothValue R x y → IsKey key → BothValue R v w → Related R k l → BothOperation R (op.PutValue x key v k) (op.PutValue y key w l)
  BothDeletePropertyOrThrowHanded : {m n : ℕ} {key : Key} {k l : Act} → R m n → Related R k l → BothOperation R (op.DeletePropertyOrThrow m key k) (op.DeletePropertyOrThrow n key l)
  BothDeleteVHanded : {x y : Value} {key : Key} {k l : Act} → BothValue R x y → Related R k l → BothOperation R (op.DeleteV x key k) (op.DeleteV y key l)
  BothMakeCellHanded : {c : Bool} {k l : ℕ → Act} → Then R R k l → BothOperation R (op.MakeCell c k) (op.MakeCell c l)
  BothInitializeCellHanded : {c d : ℕ} {v w : Value} {k l : Act} → R c d → BothValue R v w → Related R k l → BothOperation R (op.InitializeCell c v k) (op.InitializeCell d w l)
  BothReadCellHanded : {c d : ℕ} {k l : Value → Act} → R c d → Then R (BothValue R) k l → BothOperation R (op.ReadCell c k) (op.ReadCell d l)
  BothWriteCellHanded : {c d : ℕ} {v w : Value} {k l : Act} → R c d → BothValue R v w → Related R k l → BothOperation R (op.WriteCell c v k) (op.WriteCell d w l)
  BothCopyCellHanded : {c d : ℕ} {k l : ℕ → Act} → R c d → Then R R k l → BothOperation R (op.CopyCell c k) (op.CopyCell d l)
  BothFulfilPromiseHanded : {p q : ℕ} {v w : Value} {k l : Act} → R p q → BothValue R v w → Related R k l → BothOperation R (op.FulfilPromise p v k) (op.FulfilPromise q w l)
  BothRejectPromiseHanded : {p q : ℕ} {v w : Value} {k l : Act} → R p q → BothValue R v w → Related R k l → BothOperation R (op.RejectPromise p v k) (op.RejectPromise q w l)
  BothResolvePromiseHanded : {p q : ℕ} {v w : Value} {k l : Act} → R p q → BothValue R v w → Related R k l → BothOperation R (op.ResolvePromise p v k) (op.ResolvePromise q w l)
  BothCreateResolvingFunctionsHanded : {p q : ℕ} {k l : (mark resolve reject : ℕ) → Act} → R p q → ((a b c x y z : ℕ) → R a x → R b y → R c z → Related R (k a b c) (l x y z)) → BothOperation R (op.CreateResolvingFunctions p k) (op.CreateResolvingFunctions q l)
  BothCallResolveFunctionHanded : {p q m n : ℕ} {v w : Value} → R p q → R m n → BothValue R v w → BothOperation R (op.CallResolveFunction p m v) (op.CallResolveFunction q n w)
  BothCallRejectFunctionHanded : {p q m n : ℕ} {v w : Value} → R p q → R m n → BothValue R v w → BothOperation R (op.CallRejectFunction p m v) (op.CallRejectFunction q n w)
  BothMakePromiseHanded : {k l : ℕ → Act} → Then R R k l → BothOperation R (op.MakePromise k) (op.MakePromise l)
  BothPerformPromiseThenHanded : {p q : ℕ} {f g r s : Value} {m n : ℕ} {k l : Act} → R p q → BothValue R f g → BothValue R r s → R m n → Related R k l → BothOperation R (op.PerformPromiseThen p f r m k) (op.PerformPromiseThen q g s n l)
  BothPromiseThenHanded : {p q : ℕ} {f g r s : Value} {k l : ℕ → Act} → R p q → BothValue R f g → BothValue R r s → Then R R k l → BothOperation R (op.PromiseThen p f r k) (op.PromiseThen q g s l)
  BothRunJobHanded : {i j : Job} → BothJob R i j → BothOperation R (op.RunJob i) (op.RunJob j)
  BothRunFirstJobHanded : BothOperation R op.RunFirstJob op.RunFirstJob
  BothRequireObjectCoercibleHanded : {a x : Value} {k l : Act} → BothValue R a x → Related R k l → BothOperation R (op.RequireObjectCoercible a k) (op.RequireObjectCoercible x l)
  BothGetByValueHanded : {a b x y : Value} {k l : Value → Act} → BothValue R a x → BothValue R b y → Then R (BothValue R) k l → BothOperation R (op.GetByValue a b k) (op.GetByValue x y l)
  BothPutByValueHanded : {a b v x y w : Value} {k l : Act} → BothValue R a x → BothValue R b y → BothValue R v w → Related R k l → BothOperation R (op.PutByValue a b v k) (op.PutByValue x y w l)
  BothDeleteByValueHanded : {a b x y : Value} {k l : Act} → BothValue R a x → BothValue R b y → Related R k l → BothOperation R (op.DeleteByValue a b k) (op.DeleteByValue x y l)
  BothKeyByValueHanded : {a b x y : Value} {k l : Value → Act} → BothValue R a x → BothValue R b y → Then R (BothValue R) k l → BothOperation R (op.KeyByValue a b k) (op.KeyByValue x y l)
  BothOrdinaryGetHanded : {m n : ℕ} {key : Key} {a x : Value} {k l : Value → Act} → R m n → BothValue R a x → Then R (BothValue R) k l → BothOperation R (op.OrdinaryGet m key a k) (op.OrdinaryGet n key x l)
  BothSuperGetHanded : {m n : Option ℕ} {a b x y : Value} {k l : Value → Act} → BothOption R m n → BothValue R a x → BothValue R b y → Then R (BothValue R) k l → BothOperation R (op.SuperGet m a b k) (op.SuperGet n x y l)
  BothSuperSetHanded : {m n : Option ℕ} {a b v x y w : Value} {k l : Act} → BothOption R m n → BothValue R a x → BothValue R b y → BothValue R v w → Related R k l → BothOperation R (op.SuperSet m a b v k) (op.SuperSet n x y w l)
  BothBinaryHanded : {i : BinaryOperator} {a b x y : Value} {k l : Value → Act} → BothValue R a x → BothValue R b y → Then R (BothValue R) k l → BothOperation R (op.Binary i a b k) (op.Binary i x y l)
  BothUnaryHanded : {i : UnaryOperator} {a x : Value} {k l : Value → Act} → BothValue R a x → Then R (BothValue R) k l → BothOperation R (op.Unary i a k) (op.Unary i x l)
  BothTypeOfHanded : {a x : Value} {k l : Value → Act} → BothValue R a x → Then R (BothValue R) k l → BothOperation R (op.TypeOf a k) (op.TypeOf x l)
  BothHasPropertyInHanded : {a b x y : Value} {k l : Value → Act} → BothValue R a x → BothValue R b y → Then R (BothValue R) k l → BothOperation R (op.HasPropertyIn a b k) (op.HasPropertyIn x y l)
  BothInstanceOfHanded : {a b x y : Value} {k l : Value → Act} → BothValue R a x → BothValue R b y → Then R (BothValue R) k l → BothOperation R (op.InstanceOf a b k) (op.InstanceOf x y l)
  BothToTextHanded : {a x : Value} {k l : Value → Act} → BothValue R a x → Then R (BothValue R) k l → BothOperation R (op.ToText a k) (op.ToText x l)
  BothJoinHanded : {vs ws : List Value} {k l : Value → Act} → BothList (BothValue R) vs ws → Then R (BothValue R) k l → BothOperation R (op.Join vs k) (op.Join ws l)
  BothIsConstructorHanded : {a x : Value} {k l : Bool → Act} → BothValue R a x → ((b : Bool) → Related R (k b) (l b)) → BothOperation R (op.IsConstructor a k) (op.IsConstructor x l)
  BothMayBeCalledHanded : {a x : Value} {s t : Option Value} → BothValue R a x → BothOption (BothValue R) s t → BothOperation R (op.MayBeCalled a s) (op.MayBeCalled x t)
  BothMayBeEnteredHanded : {a x : Value} {s t : Option Value} → BothValue R a x → BothOption (BothValue R) s t → BothOperation R (op.MayBeEntered a s) (op.MayBeEntered x t)
  BothConstructHanded : {a x : Value} {vs ws : List Value} {s t : Value} {k l : Value → Act} → BothValue R a x → BothList (BothValue R) vs ws → BothValue R s t → Then R (BothValue R) k l → BothOperation R (op.Construct a vs s k) (op.Construct x ws t l)
  BothSuperCallHanded : {m n : ℕ} {s t : Option Value} {vs ws : List Value} {k l : Value → Act} → R m n → BothOption (BothValue R) s t → BothList (BothValue R) vs ws → Then R (BothValue R) k l → BothOperation R (op.SuperCall m s vs k) (op.SuperCall n t ws l)
  BothCreateFromConstructorHanded : {a x : Value} {i : Intrinsic} {k l : ℕ → Act} → BothValue R a x → Then R R k l → BothOperation R (op.CreateFromConstructor a i k) (op.CreateFromConstructor x i l)
  BothBaseResultHanded : {a b x y : Value} {k l : Value → Act} → BothValue R a x → BothValue R b y → Then R (BothValue R) k l → BothOperation R (op.BaseResult a b k) (op.BaseResult x y l)
  BothDerivedResultHanded : {s t : Option Value} {b y : Value} {k l : Value → Act} → BothOption (BothValue R) s t → BothValue R b y → Then R (BothValue R) k l → BothOperation R (op.DerivedResult s b k) (op.DerivedResult t y l)
  BothMakeMethodHanded : {c : FunctionCode} {m n : Option ℕ} {cs ds : List ℕ} {k l : ℕ → Act} → IsFunctionCode c → BothOption R m n → BothList R cs ds → Then R R k l → BothOperation R (op.MakeMethod c m cs k) (op.MakeMethod c n ds l)
  BothMakeFunctionHanded : {c : FunctionCode} {cs ds : List ℕ} {k l : ℕ → Act} → IsFunctionCode c → BothList R cs ds → Then R R k l → BothOperation R (op.MakeFunction c cs k) (op.MakeFunction c ds l)
  BothMakeClassHanded : {c : FunctionCode} {cs ds : List ℕ} {k l : (constructor prototype : ℕ) → Act} → IsFunctionCode c → BothList R cs ds → ((a b x y : ℕ) → R a x → R b y → Related R (k a b) (l x y)) → BothOperation R (op.MakeClass c cs k) (op.MakeClass c ds l)
  BothMakeDerivedClassHanded : {c : FunctionCode} {cs ds : List ℕ} {a x : Value} {k l : (constructor prototype : ℕ) → Act} → IsFunctionCode c → BothList R cs ds → BothValue R a x → ((a b x y : ℕ) → R a x → R b y → Related R (k a b) (l x y)) → BothOperation R (op.MakeDerivedClass c cs a k) (op.MakeDerivedClass c ds x l)
  BothMakeObjectHanded : {k l : ℕ → Act} → Then R R k l → BothOperation R (op.MakeObject k) (op.MakeObject l)
  BothMakeArrayHanded : {k l : ℕ → Act} → Then R R k l → BothOperation R (op.MakeArray k) (op.MakeArray l)
  BothAppendHanded : {a b x y : Value} {k l : Act} → BothValue R a x → BothValue R b y → Related R k l → BothOperation R (op.Append a b k) (op.Append x y l)
  BothDefineMemberHanded : {i : MemberSort} {e : Bool} {o u a x v w : Value} {k l : Act} → BothValue R o u → BothValue R a x → BothValue R v w → Related R k l → BothOperation R (op.DefineMember i e o a v k) (op.DefineMember i e u x w l)
  BothNameFunctionHanded : {i : MemberSort} {a f x g : Value} {k l : Act} → BothValue R a x → BothValue R f g → Related R k l → BothOperation R (op.NameFunction i a f k) (op.NameFunction i x g l)
  BothPrintHanded : {a x : Value} {k l : Value → Act} → BothValue R a x → Then R (BothValue R) k l → BothOperation R (op.Print a k) (op.Print x l)
  BothReadHanded : {k l : Value → Act} → Then R (BothValue R) k l → BothOperation R (op.Read k) (op.Read l)
