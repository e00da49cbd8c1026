-- Well-formed stores: values are of the profile, the things that are spoken of exist, own keys are in order, and
-- prototype chains end.
use Rattle.std.specs.Prelude.{ℕ, ◌<◌, List, [], ◌∷◌, length, Option, Some, None}
use Rattle.js_value.specs.Number.{IsNumber}
use Rattle.js_value.specs.Value.{Value, Number, String, Object}
use Rattle.js_value.specs.Store.{Content, Data, Accessor, Property, PromiseState, Pending, Fulfilled, Rejected, Reaction, Class, ScriptFunction, ResolveFunction, RejectFunction, Promise, ObjectRecord, Thing, AnObject, ACell, AMark, Store, object_in, cell_in}
use Rattle.js_value.specs.Order.{IsString, IsOrderly}

-- ---- values of the profile that speak only of things below m, and what holds such values alone

abbrev pub IsValueBelow : ℕ → Value → Type 0
IsValueBelow m (Number n) = IsNumber n
IsValueBelow m (String t) = IsString t
IsValueBelow m (Object n) = n < m
IsValueBelow m _ = Unit {0}

abbrev pub IfValueBelow : ℕ → Option Value → Type 0
IfValueBelow m None = Unit {0}
IfValueBelow m (Some v) = IsValueBelow m v

abbrev pub IfNumberBelow : ℕ → Option ℕ → Type 0
IfNumberBelow m None = Unit {0}
IfNumberBelow m (Some n) = n < m

abbrev pub AreNumbersBelow : ℕ → List ℕ → Type 0
AreNumbersBelow m [] = Unit {0}
AreNumbersBelow m (n ∷ ns) = (n < m) × AreNumbersBelow m ns

abbrev pub AreValuesBelow : ℕ → List Value → Type 0
AreValuesBelow m [] = Unit {0}
AreValuesBelow m (v ∷ vs) = IsValueBelow m v × AreValuesBelow m vs

abbrev pub IsContentBelow : ℕ → Content → Type 0
IsContentBelow m (Data value writable) = IsValueBelow m value
IsContentBelow m (Accessor get set) = IsValueBelow m get × IsValueBelow m set

abbrev pub ArePropertiesBelow : {K : Type 0} → ℕ → List (K × Property) → Type 0
ArePropertiesBelow m [] = Unit {0}
ArePropertiesBelow m (e ∷ es) = IsContentBelow m e.1.content × ArePropertiesBelow m es

abbrev pub IsStateBelow : ℕ → PromiseState → Type 0
IsStateBelow m Pending = Unit {0}
IsStateBelow m (Fulfilled v) = IsValueBelow m v
IsStateBelow m (Rejected v) = IsValueBelow m v

pub record IsReactionBelow (m : ℕ) (r : Reaction) : Type 0 where
  pub derived : r.derived < m
  pub on_fulfilled : IsValueBelow m r.on_fulfilled
  pub on_rejected : IsValueBelow m r.on_rejected

abbrev pub AreReactionsBelow : ℕ → List Reaction → Type 0
AreReactionsBelow m [] = Unit {0}
AreReactionsBelow m (r ∷ rs) = IsReactionBelow m r × AreReactionsBelow m rs

abbrev pub IsClassBelow : ℕ → Class → Type 0
IsClassBelow m (ScriptFunction module_number function_number home captured) = IfNumberBelow m home × AreNumbersBelow m captured
IsClassBelow m (ResolveFunction promise mark) = (promise < m) × (mark < m)
IsClassBelow m (RejectFunction promise mark) = (promise < m) × (mark < m)
IsClassBelow m (Promise state reactions) = IsStateBelow m state × AreReactionsBelow m reactions
IsClassBelow m _ = Unit {0}

pub record IsObjectBelow (m : ℕ) (o : ObjectRecord) : Type 0 where
  pub class : IsClassBelow m o.class
  pub prototype : IfNumberBelow m o.prototype
  pub indexed : ArePropertiesBelow m o.indexed
  pub named : ArePropertiesBelow m o.named

abbrev pub IsThingBelow : ℕ → Thing → Type 0
IsThingBelow m (AnObject o) = IsObjectBelow m o
IsThingBelow m (ACell c) = IfValueBelow m c.value
IsThingBelow m (AMark is_set) = Unit {0}

-- ---- chains

pub data ChainEnds (s : Store) : Option ℕ → Type 0 where
  Ended : ChainEnds s None
  Next : (n : ℕ) → ChainEnds s (object_in s n).prototype → ChainEnds s (Some n)

-- ---- stores

abbrev pub IsThingOrderly : Thing → Type 0
IsThingOrderly (AnObject o) = IsOrderly o
IsThingOrderly _ = Unit {0}

pub record IsWellFormed (s : Store) : Type 0 where
  pub orderly : (n : ℕ) → IsOrderly (object_in s n)
  pub objects : (n : ℕ) → IsObjectBelow (length s) (object_in s n)
  pub cells : (n : ℕ) → IfValueBelow (length s) (cell_in s n).value
  pub chains : (n : ℕ) → ChainEnds s (Some n)
