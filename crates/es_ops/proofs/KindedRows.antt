-- A world that is kinded, and fields that aren't.
use Rattle.std.proofs.Common.{◌≡◌, ℕ, zero, suc, true, false, List, [], ◌∷◌, ◌++◌, refl, Option, Some, None, IfSome, slice_get, get_or, codes}
use Rattle.js_value.specs.Value.{Undefined, Null, Object, Text}
use Rattle.js_value.specs.Store.{Store, Thing, AnObject, ACell, AMark, Property, Accessor, ScriptFunction, ResolveFunction, Promise, Pending}
use Rattle.js_value.specs.Job.{FulfilJob, ThenableJob}
use Rattle.es_ops.specs.Intrinsics.{Intrinsic, place_of, ObjectPrototype, FunctionPrototype, ErrorPrototype, RangeErrorPrototype, ReferenceErrorPrototype, SyntaxErrorPrototype, TypeErrorPrototype, BooleanPrototype, NumberPrototype, MathObject, PromisePrototype, StringPrototype, ArrayPrototype, ObjectFunction, FunctionFunction, ErrorFunction, RangeErrorFunction, ReferenceErrorFunction, SyntaxErrorFunction, TypeErrorFunction, BooleanFunction, NumberFunction, ParseIntFunction, PromiseFunction, StringFunction, ArrayFunction, PrintCell, ReadCell}
use Rattle.es_ops.specs.State.{World, Heap, SetUp}
use Rattle.es_ops.specs.Kinds.{kind_at}
use Rattle.es_ops.specs.Kinded.{Kinds, IsThingKinded, IsKinded, IsReactionKinded, IsObjectKinded, IsIntrinsicKinded}
use Rattle.es_ops.proofs.Samples.{ordinary, blank, realm_of, world_of}

-- ---- thing by thing

abbrev AreThingsKinded : Kinds → Store → Type 0
AreThingsKinded kinds [] = Unit {0}
AreThingsKinded kinds (t ∷ ts) = IsThingKinded kinds t × AreThingsKinded kinds ts

thing_at : (kinds : Kinds) (s : Store) → AreThingsKinded kinds s → (n : ℕ) → IfSome (slice_get s n) (IsThingKinded kinds)
thing_at kinds [] h n = tt
thing_at kinds (t ∷ ts) h zero = h.0
thing_at kinds (t ∷ ts) h (suc n) = thing_at kinds ts h.1 n

-- ---- the world of the rows, with things of each kind

abbrev firsts : ℕ → List ℕ
firsts zero = []
firsts (suc n) = 0 ∷ firsts n

-- a cell at 13, a function at 14 that captured it, a promise at 15, its mark and resolving function, an object with a getter
abbrev things : List Thing
things =
    ACell (record { value = Some (Object 14); const = false })
    ∷ AnObject (record (ordinary (Some 1) []) { class = ScriptFunction 0 0 (Some 0) (13 ∷ []) })
    ∷ AnObject (record (ordinary (Some 10) []) { class = Promise Pending (record { derived = 15; on_fulfilled = Object 14; on_rejected = Undefined } ∷ []) })
    ∷ AMark false
    ∷ AnObject (record (ordinary (Some 1) []) { class = ResolveFunction 15 16 })
    ∷ AnObject (ordinary (Some 0) ((codes "a", record { content = Accessor (Object 17) Undefined; enumerable = true; configurable = true }) ∷ []))
    ∷ []

abbrev world : World
world =
    let w : World = world_of things in
    record w {
      heap = record w.heap { realm = firsts 102 ++ 13 ∷ 13 ∷ []; jobs = FulfilJob (Object 14) 15 Null ∷ ThenableJob 15 (Object 18) (Object 17) ∷ [] };
      rejections = 15 ∷ [];
      modules = SetUp (13 ∷ []) ∷ [];
    }

abbrev kinds : Kinds
kinds = kind_at (realm_of things)

blank_kinded : IsThingKinded kinds blank
blank_kinded = record { class = tt; prototype = tt; indexed = tt; named = tt }

reaction_kinded : IsReactionKinded kinds (record { derived = 15; on_fulfilled = Object 14; on_rejected = Undefined })
reaction_kinded = record { derived = tt; on_fulfilled = refl; on_rejected = tt }

things_kinded : AreThingsKinded kinds things
things_kinded = (tt, (record { class = (tt, (tt, tt)); prototype = tt; indexed = tt; named = tt }, (record { class = (tt, (reaction_kinded, tt)); prototype = tt; indexed = tt; named = tt }, (tt, (record { class = (tt, tt); prototype = tt; indexed = tt; named = tt }, (record { class = tt; prototype = tt; indexed = tt; named = ((refl, tt), tt) }, tt))))))

store_kinded : AreThingsKinded kinds (realm_of things)
store_kinded =
    let b : IsThingKinded kinds blank = blank_kinded in
    (b, (b, (b, (b, (b, (b, (b, (b, (b, (b, (b, (b, (b, things_kinded)))))))))))))

world_kinded : IsKinded world
world_kinded = record {
  heap = record { things = thing_at kinds (realm_of things) store_kinded; jobs = ((refl, tt, tt), ((tt, tt, refl), tt)); realm = intrinsic };
  rejections = (tt, tt);
  modules = ((tt, tt), tt);
}
  where
    intrinsic : (i : Intrinsic) → IsIntrinsicKinded i (kinds (get_or world.heap.realm (place_of i) 0))
    intrinsic ObjectPrototype = tt
    intrinsic FunctionPrototype = tt
    intrinsic ErrorPrototype = tt
    intrinsic RangeErrorPrototype = tt
    intrinsic ReferenceErrorPrototype = tt
    intrinsic SyntaxErrorPrototype = tt
    intrinsic TypeErrorPrototype = tt
    intrinsic BooleanPrototype = tt
    intrinsic NumberPrototype = tt
    intrinsic MathObject = tt
    intrinsic PromisePrototype = tt
    intrinsic StringPrototype = tt
    intrinsic ArrayPrototype = tt
    intrinsic ObjectFunction = tt
    intrinsic FunctionFunction = tt
    intrinsic ErrorFunction = tt
    intrinsic RangeErrorFunction = tt
    intrinsic ReferenceErrorFunction = tt
    intrinsic SyntaxErrorFunction = tt
    intrinsic TypeErrorFunction = tt
    intrinsic BooleanFunction = tt
    intrinsic NumberFunction = tt
    intrinsic ParseIntFunction = tt
    intrinsic PromiseFunction = tt
    intrinsic StringFunction = tt
    intrinsic ArrayFunction = tt
    intrinsic PrintCell = tt
    intrinsic ReadCell = tt

-- ---- what isn't kinded: a value that names a cell, a getter that is no function, a derived number of no promise

value_of_a_cell : IsThingKinded kinds (ACell (record { value = Some (Object 13); const = true })) → ⊥
value_of_a_cell h = h

getter_that_is_no_function : IsThingKinded kinds (AnObject (ordinary None ((codes "a", record { content = Accessor (Object 0) Undefined; enumerable = true; configurable = true }) ∷ []))) → ⊥
getter_that_is_no_function h = let e = h.named.0.0 in absurd (cc)

derived_of_no_promise : IsReactionKinded kinds (record { derived = 14; on_fulfilled = Undefined; on_rejected = Undefined }) → ⊥
derived_of_no_promise h = h.derived
