-- What is seen of two runs is the same; and two worlds of other numbers, so that the law says something.
use Rattle.std.proofs.Common.{◌≡◌, ℕ, zero, suc, ◌<◌, inl, inr, true, false, List, [], ◌∷◌, length, get_or, arith, refl, sym, ◌∙◌, None, slice_get, lit≤}
use Rattle.js_value.specs.Value.{Object, Index}
use Rattle.js_value.specs.Store.{Store, AnObject, AMark, Ordinary, ObjectRecord}
use Rattle.js_value.specs.declared.counts.Room.{Room}
use Rattle.es_ops.specs.Intrinsics.{Intrinsic, place_of, ObjectPrototype, FunctionPrototype, ErrorPrototype, RangeErrorPrototype, ReferenceErrorPrototype, SyntaxErrorPrototype, TypeErrorPrototype, BooleanPrototype, NumberPrototype, MathObject, PromisePrototype, StringPrototype, ArrayPrototype, ObjectFunction, FunctionFunction, ErrorFunction, RangeErrorFunction, ReferenceErrorFunction, SyntaxErrorFunction, TypeErrorFunction, BooleanFunction, NumberFunction, ParseIntFunction, PromiseFunction, StringFunction, ArrayFunction, PrintCell, ReadCell}
use Rattle.es_ops.specs.State.{World, State}
use Rattle.es_ops.specs.Act.{Give, Calls, run, Ran, Ends, Halts}
use Rattle.es_ops.specs.Laws.{IsWorldWellFormed, state_of}
use Rattle.es_ops.specs.Operations as op
use Rattle.es_ops.specs.Operations.{act_of}
use Rattle.es_ops.proofs.WellFormedStores.{empty_well, append_well}
use Rattle.es_ops.specs.Related.{BothOption, BothThing, BothNone, BothSome, BothEmpty, BothObject, BothOrdinary, BothAnObject, BothGive}
use Rattle.es_ops.specs.Renaming.{Pairs, named, BothSides, BothRan, BothCalling}
use Rattle.es_ops.specs.Handed.{BothPutValueHanded}
use Rattle.es_ops.proofs.OperationsRelated.{operation_renamed}

pub same_trace : (ps : Pairs) (x y : Ran) → BothRan ps x y → (state_of x).world.trace ≡ (state_of y).world.trace
same_trace ps (Ends c s) (Ends d t) h = h.2.world.trace
same_trace ps (Halts x s) (Halts y t) h = h.1.2.world.trace
same_trace ps (Ends c s) (Halts y t) h = absurd h
same_trace ps (Halts x s) (Ends d t) h = absurd h

-- ---- an object at 0, and the same object at 1 behind a mark that nobody names

object : ObjectRecord
object = record { class = Ordinary; prototype = None; extensible = true; indexed = []; named = [] }

plenty : Room
plenty = record { slots = 100; units = 100; names = 100 }

zero_counts : Room
zero_counts = record { slots = 0; units = 0; names = 0 }

world_of : Store → List ℕ → World
world_of s realm = record { heap = record { store = s; realm = realm; names = []; ledger = record { used = zero_counts; room = plenty; first_costs = [] }; jobs = [] }; rejections = []; modules = []; functions = []; trace = []; input = None }

left : State
left = record { world = world_of (AnObject object ∷ []) []; meter = 5; depth = 0 }

ones : ℕ → List ℕ
ones zero = []
ones (suc n) = 1 ∷ ones n

one_at : (n at : ℕ) → at < n → get_or (ones n) at 0 ≡ 1
unfolding ones
one_at zero at l = absurd (omega arith)
one_at (suc n) zero l = refl
one_at (suc n) (suc at) l = one_at n at (omega arith)

-- every intrinsic has its place in the realm
in_realm : (i : Intrinsic) → place_of i < 104
in_realm ObjectPrototype = lit≤ tt
in_realm FunctionPrototype = lit≤ tt
in_realm ErrorPrototype = lit≤ tt
in_realm RangeErrorPrototype = lit≤ tt
in_realm ReferenceErrorPrototype = lit≤ tt
in_realm SyntaxErrorPrototype = lit≤ tt
in_realm TypeErrorPrototype = lit≤ tt
in_realm BooleanPrototype = lit≤ tt
in_realm NumberPrototype = lit≤ tt
in_realm MathObject = lit≤ tt
in_realm PromisePrototype = lit≤ tt
in_realm StringPrototype = lit≤ tt
in_realm ArrayPrototype = lit≤ tt
in_realm ObjectFunction = lit≤ tt
in_realm FunctionFunction = lit≤ tt
in_realm ErrorFunction = lit≤ tt
in_realm RangeErrorFunction = lit≤ tt
in_realm ReferenceErrorFunction = lit≤ tt
in_realm SyntaxErrorFunction = lit≤ tt
in_realm TypeErrorFunction = lit≤ tt
in_realm BooleanFunction = lit≤ tt
in_realm NumberFunction = lit≤ tt
in_realm ParseIntFunction = lit≤ tt
in_realm PromiseFunction = lit≤ tt
in_realm StringFunction = lit≤ tt
in_realm ArrayFunction = lit≤ tt
in_realm PrintCell = lit≤ tt
in_realm ReadCell = lit≤ tt

right : State
right = record { world = world_of (AMark false ∷ AnObject object ∷ []) (ones 104); meter = 5; depth = 0 }

start : Pairs
start = (0, 1) ∷ []

left_well : IsWorldWellFormed left.world
unfolding left world_of object
left_well = record {
  heap = record {
    store = append_well [] (AnObject object) empty_well (record { indices = tt; range = tt; length = tt; names = tt; distinct = tt; no_length = tt }) (record { class = tt; prototype = tt; indexed = tt; named = tt });
    jobs = tt;
    realm = tt;
    not_empty = lit≤ tt;
  };
  rejections = tt;
  modules = tt;
}

sides : BothSides start left right
unfolding left right world_of object start
sides = record {
  world = record {
    heap = record {
      one_to_one = record { forth = λ m n o r s. by_forth m n o r s; back = λ m n o r s. by_back m n o r s };
      stand = λ m n r. by_stand m n r;
      things = λ m n r. by_thing m n r;
      realm = λ i. inl (refl, one_at 104 (place_of i) (in_realm i));
      names = refl;
      used = refl;
      room = refl;
      costs = λ m n r. refl;
      costs_left = lit≤ tt;
      costs_right = lit≤ tt;
      jobs = BothEmpty;
    };
    rejections = BothEmpty;
    modules = BothEmpty;
    functions = refl;
    trace = refl;
    input = refl;
  };
  well = left_well;
  meter = refl;
  depth = refl;
}
  where
    by_forth : (m n o : ℕ) → named start m n → named start m o → n ≡ o
    by_forth m n o (inl r) (inl s) = r.1 ∙ sym s.1
    by_forth m n o (inl r) (inr s) = absurd s
    by_forth m n o (inr r) s = absurd r

    by_back : (m n o : ℕ) → named start m o → named start n o → m ≡ n
    by_back m n o (inl r) (inl s) = r.0 ∙ sym s.0
    by_back m n o (inl r) (inr s) = absurd s
    by_back m n o (inr r) s = absurd r

    by_stand : (m n : ℕ) → named start m n → (m < length left.world.heap.store) × (n < length right.world.heap.store)
    by_stand m n (inl r) = rw (r.0, r.1) (lit≤ tt, lit≤ tt)
    by_stand m n (inr r) = absurd r

    by_thing : (m n : ℕ) → named start m n → BothOption (BothThing (named start)) (slice_get left.world.heap.store m) (slice_get right.world.heap.store n)
    by_thing m n (inl r) = rw (r.0, r.1) (BothSome (BothAnObject (record { class = BothOrdinary; prototype = BothNone; extensible = refl; indexed = BothEmpty; named = BothEmpty })))
    by_thing m n (inr r) = absurd r

-- a write of the object on either side, over any two ways of calling that are the same but for numbers
written_alike : (c d : Calls) → BothCalling c d → BothRan start (run c (act_of (op.PutValue (Object 0) (Index 3) (Object 0) (Give (Object 0)))) left) (run d (act_of (op.PutValue (Object 1) (Index 3) (Object 1) (Give (Object 1)))) right)
unfolding start
written_alike c d calls = operation_renamed c d calls start (op.PutValue (Object 0) (Index 3) (Object 0) (Give (Object 0))) (op.PutValue (Object 1) (Index 3) (Object 1) (Give (Object 1))) left right (λ qs e one. let r = BothObject (e 0 1 (inl (refl, refl))) in BothPutValueHanded r (lit≤ tt) r (BothGive r)) sides
