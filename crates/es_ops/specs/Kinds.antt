-- What a thing is, which no event changes (own).
use Rattle.std.specs.Prelude.{ℕ, Bool, true, [], Option, None, option_map, slice_get}
use Rattle.js_value.specs.Store.{Class, Array, ScriptFunction, Promise, Pending, Thing, AnObject, ACell, AMark, Store}

-- a class without what may change of it: an array's length, the home object of a function that is being made, a
-- promise's state and reactions
abbrev pub lasting : Class → Class
lasting (Array length writable) = Array 0 true
lasting (ScriptFunction module_number function_number home captured) = ScriptFunction module_number function_number None captured
lasting (Promise state reactions) = Promise Pending []
lasting c = c

pub data Kind : Type 0 where
  ObjectKind : (class : Class) → Kind
  CellKind : (const : Bool) → Kind
  MarkKind : Kind

abbrev pub kind_of : Thing → Kind
kind_of (AnObject o) = ObjectKind (lasting o.class)
kind_of (ACell c) = CellKind c.const
kind_of (AMark is_set) = MarkKind

abbrev pub kind_at : Store → ℕ → Option Kind
kind_at s n = option_map kind_of (slice_get s n)
