-- Worked programs over preloaded things, each as the acts that it comes to: what it prints, and what it counts.
use Rattle.std.proofs.Common.{◌≡◌, ℕ, true, false, List, [], ◌∷◌, ◌++◌, set, refl, Some, None, pos, codes}
use Rattle.js_value.specs.Number.{num, sum}
use Rattle.js_value.specs.Text.{utf8, encoded, character_length}
use Rattle.js_value.specs.Value.{Value, Undefined, Number, String, Object, Text, Key, Named, key_of_number}
use Rattle.js_value.specs.Store.{Thing, AnObject, ACell, Property, Data, Array}
use Rattle.js_value.specs.declared.counts.Room.{Room}
use Rattle.es_ops.specs.State.{State, nothing, some_slots, costs_at_start, TraceEvent, Wrote}
use Rattle.js_value.specs.declared.counts.Full.TheVariants.{Slots, Units}
use Rattle.es_ops.specs.Ledger.{OutOf}
use Rattle.es_ops.specs.InternalMethods.{Freeze}
use Rattle.es_ops.specs.Events.{Write, Apply}
use Rattle.es_ops.specs.Act.{Act, Give, Turn, Do, Completion, NormalCompletion, ThrowCompletion, completed, run, Ran, Ends, Halts}
use Rattle.es_ops.specs.Errors.{make_text}
use Rattle.es_ops.specs.Bindings.{make_cell, initialize_cell, read_cell, write_cell}
use Rattle.es_ops.specs.Conversions.{to_number, to_string, number_or_raise, number_expected, text_expected}
use Rattle.es_ops.specs.PropertyReads.{get, get_v}
use Rattle.es_ops.specs.PropertyWrites.{put_value, set_or_throw}
use Rattle.es_ops.proofs.Samples.{plain, ordinary, realm_of, ample, world_with, with_store, state_in, calls, came, Came, Gave, Stopped, thing_after, computing}

-- ---- runs whose first writes count, and what is told of one

record Tally : Type 0 where
  came : Came
  trace : List TraceEvent
  used : Room
  meter : ℕ

abbrev left_by : Came → State → Tally
left_by c s = record { came = c; trace = s.world.trace; used = s.world.heap.ledger.used; meter = s.meter }

abbrev tally : Ran → Tally
tally (Ends c s) = left_by (came (Ends c s)) s
tally (Halts stop s) = left_by (came (Halts stop s)) s

-- with 100 units of the meter; TypeError's prototype has its `name`
abbrev type_error : Thing
type_error = AnObject (ordinary None ((codes "name", plain (String (codes "TypeError"))) ∷ []))

abbrev over : List Thing → Room → Act → Ran
over things room p = run calls p (state_in (with_store (world_with room things (costs_at_start true (realm_of things))) (set (realm_of things) 6 type_error)))

abbrev slots_of : ℕ → Room
slots_of n = record ample { slots = n }

abbrev units_of : ℕ → Room
units_of n = record ample { units = n }

-- each call takes a unit first
abbrev print : Value → Act → Act
print v k = Turn (text_expected v (λ t. Do (Write (utf8 (t ++ 10 ∷ []))) (λ _. k)))

abbrev line : Text → TraceEvent
line t = Wrote (t ++ 10 ∷ [])

-- ---- a preloaded module has `let n = 0` and a function `inc`, which does `n = n + 1; return n`

counter : List Thing
counter = ACell (record { value = Some (Number (pos 0)); const = false }) ∷ []

inc : (Value → Act) → Act
inc k = Turn (read_cell 13 (λ v. to_number v (λ n. number_or_raise (num (sum n (pos 1))) (λ m. write_cell 13 (Number m) (read_cell 13 k)))))

-- print(inc()); print(inc());
print_twice : Act
print_twice = inc (λ v. print v (inc (λ w. print w (Give Undefined))))

-- the first write copies the cell, for one slot, and the second costs nothing
counted_twice : tally (over counter (slots_of 1) print_twice) ≡ record { came = Gave Undefined; trace = line (codes "1") ∷ line (codes "2") ∷ []; used = some_slots 1; meter = 96 }
unfolding computing utf8 encoded character_length read_cell write_cell counter inc print_twice
counted_twice = refl

not_counted : tally (over counter (slots_of 0) print_twice) ≡ record { came = Stopped (OutOf Slots); trace = []; used = nothing; meter = 99 }
unfolding computing utf8 encoded character_length read_cell write_cell counter inc print_twice
not_counted = refl

-- ---- a preloaded module has `const o = { a: 1 }`

preloaded : List Thing
preloaded = AnObject (ordinary None ((codes "a", plain (Number (pos 1))) ∷ [])) ∷ ACell (record { value = Some (Object 13); const = true }) ∷ []

-- o.a = 2;
assignment : Act
assignment = read_cell 14 (λ o. put_value o (Named (codes "a")) (Number (pos 2)) (Give Undefined))

-- the first write copies the object, for itself and its property
assigned : tally (over preloaded (slots_of 2) assignment) ≡ record { came = Gave Undefined; trace = []; used = some_slots 2; meter = 100 }
unfolding computing utf8 encoded character_length read_cell preloaded assignment
assigned = refl

assigned_leaves : thing_after (over preloaded (slots_of 2) assignment) 13 ≡ Some (AnObject (ordinary None ((codes "a", plain (Number (pos 2))) ∷ [])))
unfolding computing utf8 encoded character_length read_cell preloaded assignment
assigned_leaves = refl

not_assigned : tally (over preloaded (slots_of 1) assignment) ≡ record { came = Stopped (OutOf Slots); trace = []; used = nothing; meter = 100 }
unfolding computing utf8 encoded character_length read_cell preloaded assignment
not_assigned = refl

-- freezing a preloaded object is its first write, too
freezing : Act
freezing = Do (Apply 13 Freeze) (λ b. Give Undefined)

frozen : tally (over preloaded (slots_of 2) freezing) ≡ record { came = Gave Undefined; trace = []; used = some_slots 2; meter = 100 }
unfolding computing utf8 encoded character_length preloaded freezing
frozen = refl

not_frozen : tally (over preloaded (slots_of 1) freezing) ≡ record { came = Stopped (OutOf Slots); trace = []; used = nothing; meter = 100 }
unfolding computing utf8 encoded character_length preloaded freezing
not_frozen = refl

-- ---- a preloaded module has `const f = Object.freeze([1, 2])`

fixed : Value → Property
fixed v = record { content = Data v false; enumerable = true; configurable = false }

frozen_pair : List Thing
frozen_pair =
    AnObject (record { class = Array 2 false; prototype = Some 12; extensible = false; indexed = (0, fixed (Number (pos 1))) ∷ (1, fixed (Number (pos 2))) ∷ []; named = [] })
    ∷ ACell (record { value = Some (Object 13); const = true }) ∷ []

length_key : Key
length_key = Named (codes "length")

-- one item: it takes a unit for itself
push : ℕ → Value → Act
push o item = Turn (get o length_key (λ l. number_expected l (λ n. Turn (set_or_throw number_expected o (key_of_number n) item (set_or_throw number_expected o length_key (Number (pos 3)) (Give (Number (pos 3))))))))

-- what stands in `catch (e)`: print(e.name)
print_name : Completion → Act
print_name (NormalCompletion v) = Give Undefined
print_name (ThrowCompletion e) = get_v e (Named (codes "name")) (λ name. print name (Give Undefined))

-- try { f.push(3); } catch (e) { print(e.name); }
caught : Act
caught = completed (push 13 (Number (pos 3))) print_name

-- the refused write copies nothing; the error is two slots
refused_push : tally (over frozen_pair (slots_of 2) caught) ≡ record { came = Gave Undefined; trace = line (codes "TypeError") ∷ []; used = some_slots 2; meter = 97 }
unfolding computing utf8 encoded character_length frozen_pair fixed push length_key print_name caught
refused_push = refl

no_room_for_the_error : tally (over frozen_pair (slots_of 1) caught) ≡ record { came = Stopped (OutOf Slots); trace = []; used = nothing; meter = 98 }
unfolding computing utf8 encoded character_length frozen_pair fixed push length_key print_name caught
no_room_for_the_error = refl

-- ---- const s = "ab"; print(s + "cd");

joined : Act
joined = make_cell true (λ c. initialize_cell c (String (codes "ab")) (read_cell c (λ s. to_string s (λ t. make_text (t ++ codes "cd") (λ r. print r (Give Undefined))))))

-- the binding's cell is a slot, the text four units
text_made : tally (over [] (units_of 4) joined) ≡ record { came = Gave Undefined; trace = line (codes "abcd") ∷ []; used = record { slots = 1; units = 4; names = 0 }; meter = 99 }
unfolding computing utf8 encoded character_length make_cell initialize_cell read_cell joined
text_made = refl

no_units : tally (over [] (units_of 3) joined) ≡ record { came = Stopped (OutOf Units); trace = []; used = some_slots 1; meter = 100 }
unfolding computing utf8 encoded character_length make_cell initialize_cell read_cell joined
no_units = refl
