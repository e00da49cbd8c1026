-- What operations may ask of the world and do to it. Each deed is one event of the ledger.
use Rattle.std.specs.Prelude.{ℕ, Bool, true, not, List, [], ◌∷◌, ◌++◌, length, ◌==◌, Option, Some, None, get_or, set, slice_get, filter, codes}
use Rattle.js_value.specs.Value.{Value, Object, Text, Key, Named}
use Rattle.js_value.specs.Store.{Store, Thing, AnObject, ACell, AMark, ObjectRecord, CellRecord, Property, Content, Data, Accessor, Class, ScriptFunction, Promise, PromiseState, Pending, Reaction, object_in, cell_in, mark_in, own_property, own_keys, with_property, size}
use Rattle.js_value.specs.Job.{Job}
use Rattle.es_ops.specs.Intrinsics.{Intrinsic, place_of}
use Rattle.es_ops.specs.State.{FunctionSort, OnlyCalled, Heap, World, nothing, some_slots, some_units, plus, Wrote, Took}
use Rattle.es_ops.specs.InternalMethods.{Method, apply_method, longest, on_chain, find_property, SetStep, set_step}
use Rattle.es_ops.specs.Ledger.{Event, Happens, Stops, charged, written, with_name, name_added, name_cost, growth}

-- ---- questions

pub data Question : Type 0 where
  TheClass : ℕ → Question
  ThePrototype : ℕ → Question
  IsExtensible : ℕ → Question
  TheOwnProperty : Key → ℕ → Question
  TheOwnKey : (place : ℕ) → ℕ → Question  -- in the order of own keys, from 0
  IsOnChain : (prototype : ℕ) → ℕ → Question  -- among the object's prototypes
  TheCell : ℕ → Question
  TheMark : ℕ → Question
  TheProperty : Key → ℕ → Question  -- on the object or along its prototype chain
  TheSetStep : Key → Value → (receiver : Value) → (found : Option Property) → Question
  TheIntrinsic : Intrinsic → Question
  TheSort : (module_number function_number : ℕ) → Question  -- what a script function is
  TheInput : Question  -- the bytes that are left, where there is a host

abbrev pub Reply : Question → Type 0
Reply (TheClass n) = Class
Reply (ThePrototype n) = Option ℕ
Reply (IsExtensible n) = Bool
Reply (TheOwnProperty key n) = Option Property
Reply (TheOwnKey place n) = Option Key
Reply (IsOnChain p n) = Bool
Reply (TheCell n) = CellRecord
Reply (TheMark n) = Bool
Reply (TheProperty key n) = Option Property
Reply (TheSetStep key v receiver found) = SetStep
Reply (TheIntrinsic i) = ℕ
Reply (TheSort module_number function_number) = FunctionSort
Reply TheInput = Option (List ℕ)

-- a function that the table doesn't have is only called
abbrev pub sort_in : List (List FunctionSort) → (module_number function_number : ℕ) → FunctionSort
sort_in sorts module_number function_number = get_or (get_or sorts module_number []) function_number OnlyCalled

unfoldable pub reply : (q : Question) → World → Reply q
reply (TheClass n) w = (object_in w.heap.store n).class
reply (ThePrototype n) w = (object_in w.heap.store n).prototype
reply (IsExtensible n) w = (object_in w.heap.store n).extensible
reply (TheOwnProperty key n) w = own_property (object_in w.heap.store n) key
reply (TheOwnKey place n) w = slice_get (own_keys (object_in w.heap.store n)) place
reply (IsOnChain p n) w = on_chain longest w.heap.store p (object_in w.heap.store n).prototype
reply (TheCell n) w = cell_in w.heap.store n
reply (TheMark n) w = mark_in w.heap.store n
reply (TheProperty key n) w = find_property w.heap.store key n
reply (TheSetStep key v receiver found) w = set_step w.heap.store key v receiver found
reply (TheIntrinsic i) w = get_or w.heap.realm (place_of i) 0
reply (TheSort module_number function_number) w = sort_in w.functions module_number function_number
reply TheInput w = w.input

-- ---- deeds

pub data Deed : Type 0 where
  Make : Thing → Deed  -- a new thing
  Apply : ℕ → Method → Deed  -- an internal method on an object
  Attach : (function prototype : ℕ) → (is_home : Bool) → Deed  -- gives a function that is being made its `prototype`
  SetCell : ℕ → Value → Deed
  SetMark : ℕ → Deed
  Settle : ℕ → PromiseState → Deed  -- a promise that is pending
  TakeReaction : ℕ → Deed  -- the first one of a promise that was settled in the same operation
  AddReaction : ℕ → Reaction → Deed  -- to a promise that is pending
  Enqueue : Job → Deed
  Dequeue : Deed
  AddRejection : ℕ → Deed
  RemoveRejection : ℕ → Deed
  MakeText : (units : ℕ) → Deed
  Write : List ℕ → Deed
  Take : (line : Text) → (left : List ℕ) → Deed

abbrev pub Answer : Deed → Type 0
Answer (Make t) = ℕ
Answer (Apply n m) = Bool
Answer (Settle n state) = Option ℕ
Answer (TakeReaction n) = Option Reaction
Answer Dequeue = Option Job
Answer _ = Unit {0}

-- ---- things and methods

-- a new thing is named by the next place
abbrev pub make : Thing → Heap → Event Heap ℕ
make t h = charged (some_slots (size t)) (length h.store) (record h { store = h.store ++ t ∷ [] })

-- an internal method: where it writes, it costs the object's growth and a new name
abbrev pub apply_outcome : Heap → ℕ → Method → (before : ObjectRecord) → (answer : Bool) → Option ObjectRecord → Event Heap Bool
apply_outcome h n m before answer None = Happens answer h
apply_outcome h n m before answer (Some after) =
    let name = name_added h m before after in
    written (with_name name h) n (AnObject before) (AnObject after) (plus (growth before after) (name_cost m name)) answer

abbrev pub apply : ℕ → Method → Heap → Event Heap Bool
apply n m h =
    let before = object_in h.store n in
    let outcome = apply_method m h.store n before in
    apply_outcome h n m before outcome.answer outcome.written

-- ---- functions that are being made

-- MakeConstructor (10.2.5), step 6, and for a class MakeMethod (10.2.7), whose home object is the prototype. It is no
-- write, and asks for a function that the same operation made and that nobody has seen.
abbrev pub prototype_name : Text
prototype_name = codes "prototype"

abbrev pub pointing_to : ℕ → Content → Content
pointing_to p (Data v writable) = Data (Object p) writable
pointing_to p (Accessor get set) = Accessor get set

abbrev pub with_prototype : ℕ → ObjectRecord → Option Property → ObjectRecord
with_prototype p o None = o
with_prototype p o (Some q) = with_property o (Named prototype_name) (record q { content = pointing_to p q.content })

abbrev pub at_home : ℕ → Bool → Class → Class
at_home p true (ScriptFunction module_number function_number home captured) = ScriptFunction module_number function_number (Some p) captured
at_home p is_home c = c

abbrev pub with_home : ℕ → Bool → ObjectRecord → ObjectRecord
with_home p is_home o = record o { class = at_home p is_home o.class }

abbrev pub attached : (prototype : ℕ) → (is_home : Bool) → Option Thing → Store → (function : ℕ) → Store
attached p is_home (Some (AnObject o)) s f = set s f (AnObject (with_home p is_home (with_prototype p o (own_property o (Named prototype_name)))))
attached p is_home _ s f = s

abbrev pub attach : (function prototype : ℕ) → (is_home : Bool) → Heap → Event Heap (Unit {0})
attach f p is_home h = Happens tt (record h { store = attached p is_home (slice_get h.store f) h.store f })

-- ---- cells and marks

abbrev pub set_cell : ℕ → Value → Heap → Event Heap (Unit {0})
set_cell n v h =
    let before = cell_in h.store n in
    written h n (ACell before) (ACell (record { value = Some v; const = before.const })) nothing tt

abbrev pub set_mark : ℕ → Heap → Event Heap (Unit {0})
set_mark n h = written h n (AMark (mark_in h.store n)) (AMark true) nothing tt

-- ---- promises

-- A promise that isn't pending stays as it is, and the answer is none; else it is the number of its reactions.
abbrev pub settle_class : Heap → ℕ → PromiseState → ObjectRecord → Class → Event Heap (Option ℕ)
settle_class h n state o (Promise Pending reactions) = written h n (AnObject o) (AnObject (record o { class = Promise state reactions })) nothing (Some (length reactions))
settle_class h n state o c = Happens None h

abbrev pub settle : ℕ → PromiseState → Heap → Event Heap (Option ℕ)
settle n state h = settle_class h n state (object_in h.store n) (object_in h.store n).class

-- The promise was written when it was settled, so that this costs nothing.
abbrev pub take_reaction_class : Heap → ℕ → ObjectRecord → Class → Event Heap (Option Reaction)
take_reaction_class h n o (Promise state (r ∷ rs)) = Happens (Some r) (record h { store = set h.store n (AnObject (record o { class = Promise state rs })) })
take_reaction_class h n o c = Happens None h

abbrev pub take_reaction : ℕ → Heap → Event Heap (Option Reaction)
take_reaction n h = take_reaction_class h n (object_in h.store n) (object_in h.store n).class

abbrev pub react_class : Heap → ℕ → Reaction → ObjectRecord → Class → Event Heap (Unit {0})
react_class h n r o (Promise Pending reactions) =
    let after = record o { class = Promise Pending (reactions ++ r ∷ []) } in
    written h n (AnObject o) (AnObject after) (growth o after) tt
react_class h n r o c = Happens tt h

abbrev pub add_reaction : ℕ → Reaction → Heap → Event Heap (Unit {0})
add_reaction n r h = react_class h n r (object_in h.store n) (object_in h.store n).class

-- ---- jobs

abbrev pub enqueue : Job → Heap → Event Heap (Unit {0})
enqueue job h = charged (some_slots 4) tt (record h { jobs = h.jobs ++ job ∷ [] })

abbrev pub dequeue_from : List Job → Heap → Event Heap (Option Job)
dequeue_from [] h = Happens None h
dequeue_from (job ∷ jobs) h = Happens (Some job) (record h { jobs = jobs })

abbrev pub dequeue : Heap → Event Heap (Option Job)
dequeue h = dequeue_from h.jobs h

-- ---- the world

-- a deed on what the heap holds leaves the rest
abbrev pub with_rest : {A : Type 0} → World → Event Heap A → Event World A
with_rest w (Happens a h) = Happens a (record w { heap = h })
with_rest w (Stops full) = Stops full

abbrev pub on_heap : {A : Type 0} → (Heap → Event Heap A) → World → Event World A
on_heap deed w = with_rest w (deed w.heap)

unfoldable pub perform : (d : Deed) → World → Event World (Answer d)
perform (Make t) w = on_heap (make t) w
perform (Apply n m) w = on_heap (apply n m) w
perform (Attach f p is_home) w = on_heap (attach f p is_home) w
perform (SetCell n v) w = on_heap (set_cell n v) w
perform (SetMark n) w = on_heap (set_mark n) w
perform (Settle n state) w = on_heap (settle n state) w
perform (TakeReaction n) w = on_heap (take_reaction n) w
perform (AddReaction n r) w = on_heap (add_reaction n r) w
perform (Enqueue job) w = on_heap (enqueue job) w
perform Dequeue w = on_heap dequeue w
perform (AddRejection n) w = Happens tt (record w { rejections = w.rejections ++ n ∷ [] })
perform (RemoveRejection n) w = Happens tt (record w { rejections = filter (λ m. not (m == n)) w.rejections })
perform (MakeText units) w = on_heap (charged (some_units units) tt) w
perform (Write bytes) w = Happens tt (record w { trace = w.trace ++ Wrote bytes ∷ [] })
perform (Take line left) w = Happens tt (record w { trace = w.trace ++ Took line ∷ []; input = Some left })
