-- A world that is well-formed, and what things are.
use Rattle.std.proofs.Common.{◌≡◌, ℕ, true, false, [], ◌∷◌, ◌++◌, map, length, refl, lit≤, Some, None, codes}
use Rattle.js_value.specs.Value.{Null}
use Rattle.js_value.specs.Store.{Store, AnObject, ACell, AMark, Array, ScriptFunction, Promise, Pending, Fulfilled}
use Rattle.js_value.specs.WellFormed.{AreNumbersBelow, IsThingBelow, IsThingOrderly, IsWellFormed}
use Rattle.es_ops.specs.Laws.{AreDistinct, IsWorldWellFormed}
use Rattle.es_ops.specs.Kinds.{kind_of, ObjectKind, CellKind, MarkKind}
use Rattle.es_ops.proofs.Samples.{ordinary, array_of, blank, realm_of, places, world_of}
use Rattle.es_ops.proofs.WellFormedStores.{empty_well, append_well}

-- ---- the realm of the rows, thing by thing

blank_orderly : IsThingOrderly blank
blank_orderly = record { indices = tt; range = tt; length = tt; names = tt; distinct = tt; no_length = tt }

blank_below : (m : ℕ) → IsThingBelow m blank
blank_below m = record { class = tt; prototype = tt; indexed = tt; named = tt }

more : {s : Store} → IsWellFormed s → IsWellFormed (s ++ blank ∷ [])
more {s} h = append_well s blank h blank_orderly (blank_below (length s))

realm_well : IsWellFormed (realm_of [])
realm_well = more (more (more (more (more (more (more (more (more (more (more (more (more empty_well))))))))))))

places_below : AreNumbersBelow 13 places
places_below = (lit≤ tt, (lit≤ tt, (lit≤ tt, (lit≤ tt, (lit≤ tt, (lit≤ tt, (lit≤ tt, (lit≤ tt, (lit≤ tt, (lit≤ tt, (lit≤ tt, (lit≤ tt, (lit≤ tt, tt)))))))))))))

world_well : IsWorldWellFormed (world_of [])
world_well = record { heap = record { store = realm_well; jobs = tt; realm = places_below; not_empty = lit≤ tt }; rejections = tt; modules = tt }

names_distinct : AreDistinct (world_of []).heap.names
names_distinct = (refl, (refl, (refl, (refl, tt))))

twice : AreDistinct (codes "a" ∷ codes "b" ∷ codes "a" ∷ []) → ⊥
twice d = let e = d.0 in absurd (cc)

-- ---- kinds

kinds : map kind_of (AnObject (array_of [] 7 false) ∷ AnObject (record (ordinary None []) { class = ScriptFunction 1 2 (Some 3) (4 ∷ []) }) ∷ AnObject (record (ordinary None []) { class = Promise (Fulfilled Null) [] }) ∷ ACell (record { value = None; const = true }) ∷ AMark true ∷ [])
    ≡ ObjectKind (Array 0 true) ∷ ObjectKind (ScriptFunction 1 2 None (4 ∷ [])) ∷ ObjectKind (Promise Pending []) ∷ CellKind true ∷ MarkKind ∷ []
kinds = refl
