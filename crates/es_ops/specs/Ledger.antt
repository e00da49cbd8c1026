-- The ledger: what each event costs, and the events. An event that would pass a limit counts nothing and stops.
use Rattle.std.specs.Prelude.{ℕ, ◌-◌, Bool, cond, [], ◌∷◌, ◌++◌, length, nat_lt, Option, Some, None, get_or, set}
use Rattle.std.specs.List.{list_any}
use Rattle.js_value.specs.Value.{Text, Key, Index, Numeral, same_text, text_of_key}
use Rattle.js_value.specs.Store.{Thing, ObjectRecord, object_size, frozen}
use Rattle.js_value.specs.declared.counts.Room.{Room}
use Rattle.js_value.specs.declared.counts.Full.{Full}
use Rattle.js_value.specs.declared.counts.Full.TheVariants.{Slots, Units, Names}
use Rattle.es_ops.specs.State.{Heap, plus, nothing, some_slots}
use Rattle.es_ops.specs.InternalMethods.{Method, DefineOwnProperty}

-- ---- what stops a run

pub data Stop : Type 0 where
  Budget : Stop
  Depth : Stop
  OutOf : Full → Stop
  NoHost : Stop  -- a host function was called where there is no host

-- ---- an event: it happens and answers, or it stops the run

-- W is what it changes: a heap or a world.
pub data Event (W A : Type 0) : Type 0 where
  Happens : A → W → Event W A
  Stops : Full → Event W A

-- the limit that these counts pass; units are tested first, then names, then slots
abbrev pub passed : (used room : Room) → Option Full
passed used room =
    cond (nat_lt room.units used.units) (Some Units)
    (cond (nat_lt room.names used.names) (Some Names)
    (cond (nat_lt room.slots used.slots) (Some Slots) None))

abbrev pub charged_unless : {A : Type 0} → Option Full → A → Heap → Event Heap A
charged_unless None a h = Happens a h
charged_unless (Some full) a h = Stops full

-- an event that costs a price and leaves a heap
abbrev pub charged : {A : Type 0} → Room → A → Heap → Event Heap A
charged price a h =
    let used = plus h.ledger.used price in
    charged_unless (passed used h.ledger.room) a (record h { ledger = record h.ledger { used = used } })

-- ---- writes

-- A write of a thing costs what its first write costs, then what it adds, and leaves the thing. A frozen thing has no
-- write: whatever it accepts leaves it as it is.
abbrev pub with_thing : Heap → ℕ → Thing → Heap
with_thing h n t = record h { store = set h.store n t; ledger = record h.ledger { first_costs = set h.ledger.first_costs n 0 } }

abbrev pub first_cost : Heap → ℕ → Room
first_cost h n = some_slots (get_or h.ledger.first_costs n 0)

unfoldable pub written : {A : Type 0} → Heap → ℕ → (before after : Thing) → (added : Room) → A → Event Heap A
written h n before after added a = cond (frozen before) (Happens a h)
    (charged (plus (first_cost h n) added) a (with_thing h n after))

-- ---- properties

abbrev pub is_name : Heap → Text → Bool
is_name h t = list_any (same_text t) h.names

-- A property that is created with a string key adds a name where the key is none yet; a number's text costs its units then.
abbrev pub new_name : Heap → Key → Option Text
new_name h (Index i) = None
new_name h key = cond (is_name h (text_of_key key)) None (Some (text_of_key key))

abbrev pub name_price : Key → Option Text → Room
name_price key None = nothing
name_price (Numeral n) (Some t) = record { slots = 0; units = length t; names = 1 }
name_price key (Some t) = record { slots = 0; units = 0; names = 1 }

abbrev pub with_name : Option Text → Heap → Heap
with_name None h = h
with_name (Some t) h = record h { names = h.names ++ t ∷ [] }

abbrev pub created : (before after : ObjectRecord) → Bool
created before after = nat_lt (length before.named) (length after.named)

-- the name that a method adds
abbrev pub name_added : Heap → Method → (before after : ObjectRecord) → Option Text
name_added h (DefineOwnProperty key d) before after = cond (created before after) (new_name h key) None
name_added h m before after = None

abbrev pub name_cost : Method → Option Text → Room
name_cost (DefineOwnProperty key d) t = name_price key t
name_cost m t = nothing

-- the slots that an object grows by
abbrev pub growth : (before after : ObjectRecord) → Room
growth before after = some_slots (object_size after - object_size before)
