-- Acts that are related run alike over worlds that are the same but for the numbers of things.
use Rattle.std.proofs.Common.{◌≡◌, ℕ, zero, suc, length, refl, ap}
use Rattle.js_value.specs.Value.{Value}
use Rattle.es_ops.specs.State.{World, State}
use Rattle.es_ops.specs.Ledger.{Event, Happens, Stops, OutOf}
use Rattle.es_ops.specs.Events.{Question, reply, Deed, Answer, perform}
use Rattle.es_ops.specs.Act.{Act, Give, Throw, Halt, Turn, Ask, Do, Call, Try, Completion, Ran, Ends, Halts, Calls, run, spent, happened, returned, ended, with_world}
use Rattle.es_ops.specs.Laws.{IfHappens, IsWorldWellFormed, IsAnswerBelow}
use Rattle.es_ops.proofs.WellFormedStores.{perform_well}
use Rattle.es_ops.specs.Related.{Naming, BothValue, BothNormal, BothThrow, BothCompletion, BothQuestion, BothReply, BothDeed, BothAnswer}
use Rattle.es_ops.specs.Renaming.{Pairs, named, Extends, Kept, BothWorld, BothSides, BothEvent, BothRan, BothCalling}
use Rattle.es_ops.proofs.Parts.{shape_of}
use Rattle.es_ops.proofs.Diagonal.{deed_left}
use Rattle.es_ops.proofs.MoreNames.{value_more, reply_more, answer_more, completion_more}

abbrev pub Replies : Type 0
Replies = (ps : Pairs) (q p : Question) (w v : World) → BothQuestion (named ps) q p → BothWorld ps w v → IsWorldWellFormed w → BothReply (named ps) q p (reply q w) (reply p v)

abbrev pub Performs : Type 0
Performs = (ps : Pairs) (d e : Deed) (w v : World) → BothDeed (named ps) d e → BothWorld ps w v → IsWorldWellFormed w → BothEvent BothWorld ps (λ R. BothAnswer R d e) (perform d w) (perform e v)

same : (ps : Pairs) → Extends ps ps
same ps m n h = h

pub further : (ps qs : Pairs) (x y : Ran) → Extends ps qs → BothRan qs x y → BothRan ps x y
further ps qs (Ends c s) (Ends d t) e h = (h.0, λ m n r. h.1 m n (e m n r), h.2, h.3)
further ps qs (Halts x s) (Halts y t) e h = (h.0, (h.1.0, λ m n r. h.1.1 m n (e m n r), h.1.2))
further ps qs (Ends c s) (Halts y t) e h = h
further ps qs (Halts x s) (Ends d t) e h = h

pub spent_both : (ps : Pairs) (m n : ℕ) (s t : State) (f g : State → Ran) → m ≡ n → BothSides ps s t → ((k : ℕ) → BothRan ps (f (record s { meter = k })) (g (record t { meter = k }))) → BothRan ps (spent m s f) (spent n t g)
spent_both ps m n s t f g e h next = rw e (by_meter n)
  where
    by_meter : (n : ℕ) → BothRan ps (spent n s f) (spent n t g)
    by_meter zero = (refl, (ps, same ps, h))
    by_meter (suc k) = next k

happened_both : {A B : Type 0} (ps : Pairs) (Answers : Naming → A → B → Type 0) (x : Event World A) (y : Event World B) (s t : State) (f : A → State → Ran) (g : B → State → Ran) → BothEvent BothWorld ps Answers x y → IfHappens x (λ a w. IsWorldWellFormed w) → BothSides ps s t
    → ((qs : Pairs) (a : A) (b : B) (w v : World) → Extends ps qs → Answers (named qs) a b → BothWorld qs w v → IsWorldWellFormed w → BothRan qs (f a (with_world s w)) (g b (with_world t v))) → BothRan ps (happened x s f) (happened y t g)
happened_both ps Answers (Happens a w) (Happens b v) s t f g h i k next = further ps h.0 (f a (with_world s w)) (g b (with_world t v)) h.1 (next h.0 a b w v h.1 h.3 h.2 i)
happened_both ps Answers (Stops x) (Stops y) s t f g h i k next = (ap OutOf h, (ps, same ps, k))
happened_both ps Answers (Happens a w) (Stops y) s t f g h i k next = absurd h
happened_both ps Answers (Stops x) (Happens b v) s t f g h i k next = absurd h

ended_both : (ps : Pairs) (x y : Ran) (f g : Completion → State → Ran) → BothRan ps x y → ((qs : Pairs) (c d : Completion) (s t : State) → Extends ps qs → BothCompletion (named qs) c d → BothSides qs s t → BothRan qs (f c s) (g d t)) → BothRan ps (ended x f) (ended y g)
ended_both ps (Ends c s) (Ends d t) f g h next = further ps h.0 (f c s) (g d t) h.1 (next h.0 c d s t h.1 h.3 h.2)
ended_both ps (Halts x s) (Halts y t) f g h next = h
ended_both ps (Ends c s) (Halts y t) f g h next = absurd h
ended_both ps (Halts x s) (Ends d t) f g h next = absurd h

pub returned_both : (ps : Pairs) (x y : Ran) (f g : Value → State → Ran) → BothRan ps x y → ((qs : Pairs) (v w : Value) (s t : State) → Extends ps qs → BothValue (named qs) v w → BothSides qs s t → BothRan qs (f v s) (g w t)) → BothRan ps (returned x f) (returned y g)
returned_both ps (Ends c s) (Ends d t) f g h next = by_completion c d h.3
  where
    by_completion : (c d : Completion) → BothCompletion (named h.0) c d → BothRan ps (returned (Ends c s) f) (returned (Ends d t) g)
    by_completion c d (BothNormal {v = v} {w = w} b) = further ps h.0 (f v s) (g w t) h.1 (next h.0 v w s t h.1 b h.2)
    by_completion c d (BothThrow b) = (h.0, h.1, h.2, BothThrow b)
returned_both ps (Halts x s) (Halts y t) f g h next = h
returned_both ps (Ends c s) (Halts y t) f g h next = absurd h
returned_both ps (Halts x s) (Ends d t) f g h next = absurd h

performed_well : (ps : Pairs) (d e : Deed) (w v : World) → BothDeed (named ps) d e → BothWorld ps w v → IsWorldWellFormed w → IfHappens (perform d w) (λ a u. IsWorldWellFormed u)
performed_well ps d e w v h b well = by_event (perform d w) (perform_well d w well (deed_left (named ps) (length w.heap.store) (λ m n r. (b.heap.stand m n r).0) d e h))
  where
    by_event : (x : Event World (Answer d)) → IfHappens x (λ a u. IsWorldWellFormed u × IsAnswerBelow (length u.heap.store) d a) → IfHappens x (λ a u. IsWorldWellFormed u)
    by_event (Happens a u) h = h.0
    by_event (Stops full) h = tt

pub run_related : Replies → Performs → (c d : Calls) → BothCalling c d → (ps : Pairs) (a b : Act) (s t : State) → Kept ps a b → BothSides ps s t → BothRan ps (run c a s) (run d b t)
unfolding run
run_related rs es c d calls ps (Give v) (Give w) s t k h = (ps, same ps, h, BothNormal (shape_of (k ps (same ps) h.world.heap.one_to_one)))
run_related rs es c d calls ps (Throw v) (Throw w) s t k h = (ps, same ps, h, BothThrow (shape_of (k ps (same ps) h.world.heap.one_to_one)))
run_related rs es c d calls ps (Halt x) (Halt y) s t k h = (shape_of (k ps (same ps) h.world.heap.one_to_one), (ps, same ps, h))
run_related rs es c d calls ps (Turn a) (Turn b) s t k h =
    spent_both ps s.meter t.meter s t (run c a) (run d b) h.meter h (λ n. run_related rs es c d calls ps a b (record s { meter = n }) (record t { meter = n }) (λ qs e o. shape_of (k qs e o)) (record { world = h.world; well = h.well; meter = refl; depth = h.depth }))
run_related rs es c d calls ps (Ask q f) (Ask p g) s t k h =
    let e = rs ps q p s.world t.world (shape_of (k ps (same ps) h.world.heap.one_to_one)).0 h.world h.well in
    run_related rs es c d calls ps (f (reply q s.world)) (g (reply p t.world)) s t (λ qs x o. (shape_of (k qs x o)).1 _ _ (reply_more (named ps) (named qs) x q p _ _ e)) h
run_related rs es c d calls ps (Do x f) (Do y g) s t k h =
    happened_both ps (λ R. BothAnswer R x y) (perform x s.world) (perform y t.world) s t (λ a. run c (f a)) (λ b. run d (g b)) (es ps x y s.world t.world (shape_of (k ps (same ps) h.world.heap.one_to_one)).0 h.world h.well) (performed_well ps x y s.world t.world (shape_of (k ps (same ps) h.world.heap.one_to_one)).0 h.world h.well) h
    (λ qs a b w v e r u i. run_related rs es c d calls qs (f a) (g b) (with_world s w) (with_world t v) (λ os l o. (shape_of (k os (λ m n z. l m n (e m n z)) o)).1 a b (answer_more (named qs) (named os) l x y a b r)) (record { world = u; well = i; meter = h.meter; depth = h.depth }))
run_related rs es c d calls ps (Call f i vs x a) (Call g j ws y b) s t k h =
    let o = shape_of (k ps (same ps) h.world.heap.one_to_one) in
    returned_both ps (c f i vs x s) (d g j ws y t) (λ v. run c (a v)) (λ w. run d (b w)) (calls ps f g i j vs ws x y s t o.0 o.1 o.2 o.3 h)
    (λ qs v w s t e r u. run_related rs es c d calls qs (a v) (b w) s t (λ os l o. (shape_of (k os (λ m n z. l m n (e m n z)) o)).4 v w (value_more (named qs) (named os) l v w r)) u)
run_related rs es c d calls ps (Try f i vs x a) (Try g j ws y b) s t k h =
    let o = shape_of (k ps (same ps) h.world.heap.one_to_one) in
    ended_both ps (c f i vs x s) (d g j ws y t) (λ v. run c (a v)) (λ w. run d (b w)) (calls ps f g i j vs ws x y s t o.0 o.1 o.2 o.3 h)
    (λ qs v w s t e r u. run_related rs es c d calls qs (a v) (b w) s t (λ os l o. (shape_of (k os (λ m n z. l m n (e m n z)) o)).4 v w (completion_more (named qs) (named os) l v w r)) u)
run_related rs es c d calls ps _ _ s t k h = absurd (shape_of (k ps (same ps) h.world.heap.one_to_one))
