-- Every act that holds only values of the profile and of things that stand keeps the world well-formed.
use Rattle.std.proofs.Common.{ℕ, zero, suc, ◌<◌, ◌≤◌, Bool, true, false, cond, List, [], ◌∷◌, length, arith, Option, Some, None, IfSome, get_or, le_refl}
use Rattle.js_value.specs.Value.{Value, Undefined, Null, Boolean, Number, String, Object, Key}
use Rattle.js_value.specs.Store.{Store, Property, Content, Data, Accessor, object_in, own_property}
use Rattle.js_value.specs.WellFormed.{IsValueBelow, AreNumbersBelow, IsContentBelow, IsWellFormed}
use Rattle.es_ops.specs.State.{World, State}
use Rattle.es_ops.specs.Ledger.{Event, Happens, Stops}
use Rattle.es_ops.specs.InternalMethods.{property_from, find_property, longest, or_later, SetStep, RefusesSet, DefinesOn, set_own, set_own_content, set_data, set_by_setter, set_content, set_step, value_descriptor, data_descriptor}
use Rattle.es_ops.specs.Events.{Question, reply, TheClass, ThePrototype, IsExtensible, TheOwnProperty, TheOwnKey, IsOnChain, TheSort, TheCell, TheMark, TheProperty, TheSetStep, TheIntrinsic, TheInput, perform}
use Rattle.es_ops.specs.Act.{Act, Give, Throw, Halt, Turn, Ask, Do, Call, Try, Completion, NormalCompletion, ThrowCompletion, Ran, Ends, Halts, Calls, with_world, spent, happened, returned, ended, run}
use Rattle.es_ops.specs.Laws.{IfHappens, Grows, IsReplyBelow, IsQuestionBelow, IsStepBelow, IsDescriptorBelow, IsAnswerBelow, IsActBelow, IsCompletionBelow, IsWorldWellFormed, IsRanWellFormed, CallsWell}
use Rattle.es_ops.proofs.Closed.{own_property_below}
use Rattle.es_ops.specs.Intrinsics.{place_of}
use Rattle.es_ops.proofs.OwnKeys.{own_key_is_key}
use Rattle.es_ops.proofs.Growth.{perform_grows}
use Rattle.es_ops.proofs.WellFormedStores.{perform_well}

-- ---- answers to questions

later_below : (m : ℕ) (p q : Option Property) → IfSome p (λ r. IsContentBelow m r.content) → IfSome q (λ r. IsContentBelow m r.content) → IfSome (or_later p q) (λ r. IsContentBelow m r.content)
later_below m None q a b = b
later_below m (Some p) q a b = a

property_below : (fuel : ℕ) (s : Store) (key : Key) (n : Option ℕ) → IsWellFormed s → IfSome (property_from fuel s key n) (λ r. IsContentBelow (length s) r.content)
unfolding property_from
property_below zero s key n h = tt
property_below (suc fuel) s key None h = tt
property_below (suc fuel) s key (Some n) h =
    later_below (length s) (own_property (object_in s n) key) (property_from fuel s key (object_in s n).prototype)
    (own_property_below (length s) (object_in s n) key (h.orderly n) (h.objects n)) (property_below fuel s key (object_in s n).prototype h)

value_descriptor_below : (m : ℕ) (v : Value) → IsValueBelow m v → IsDescriptorBelow m (value_descriptor v)
value_descriptor_below m v h = record { value = h; get = tt; set = tt }

data_descriptor_below : (m : ℕ) (v : Value) → IsValueBelow m v → IsDescriptorBelow m (data_descriptor v)
data_descriptor_below m v h = record { value = h; get = tt; set = tt }

cond_step : (m : ℕ) (b : Bool) (x y : SetStep) → IsStepBelow m x → IsStepBelow m y → IsStepBelow m (cond b x y)
cond_step m true x y p q = p
cond_step m false x y p q = q

own_content_below : (m r : ℕ) (c : Content) (v : Value) → r < m → IsValueBelow m v → IsStepBelow m (set_own_content r c v)
own_content_below m r (Accessor g s) v l h = tt
own_content_below m r (Data old w) v l h = cond_step m w (DefinesOn r (value_descriptor v)) RefusesSet (l, value_descriptor_below m v h) tt

own_below : (m r : ℕ) (p : Option Property) (v : Value) → r < m → IsValueBelow m v → IsStepBelow m (set_own r p v)
own_below m r None v l h = (l, data_descriptor_below m v h)
own_below m r (Some p) v l h = own_content_below m r p.content v l h

data_below : (s : Store) (key : Key) (v receiver : Value) (m : ℕ) → IsValueBelow m v → IsValueBelow m receiver → IsStepBelow m (set_data s key v receiver)
data_below s key v (Object r) m h l = own_below m r (own_property (object_in s r) key) v l h
data_below s key v Undefined m h l = tt
data_below s key v Null m h l = tt
data_below s key v (Boolean b) m h l = tt
data_below s key v (Number n) m h l = tt
data_below s key v (String t) m h l = tt

setter_below : (m : ℕ) (f : Value) → IsValueBelow m f → IsStepBelow m (set_by_setter f)
setter_below m Undefined h = tt
setter_below m Null h = tt
setter_below m (Boolean b) h = tt
setter_below m (Number n) h = h
setter_below m (String t) h = h
setter_below m (Object n) h = h

step_below : (s : Store) (key : Key) (v receiver : Value) (found : Option Property) (m : ℕ) → IsValueBelow m v → IsValueBelow m receiver → IfSome found (λ r. IsContentBelow m r.content) → IsStepBelow m (set_step s key v receiver found)
unfolding set_step
step_below s key v receiver None m h l c = data_below s key v receiver m h l
step_below s key v receiver (Some p) m h l c = by_content p.content c
  where
    by_content : (d : Content) → IsContentBelow m d → IsStepBelow m (set_content s key v receiver d)
    by_content (Data old w) c = cond_step m w (set_data s key v receiver) RefusesSet (data_below s key v receiver m h l) tt
    by_content (Accessor g f) c = setter_below m f c.1

intrinsic_below : (m at : ℕ) (ns : List ℕ) → 0 < m → AreNumbersBelow m ns → get_or ns at 0 < m
intrinsic_below m at [] l h = l
intrinsic_below m zero (n ∷ ns) l h = h.0
intrinsic_below m (suc at) (n ∷ ns) l h = intrinsic_below m at ns l h.1

pub reply_well : (q : Question) (w : World) → IsWorldWellFormed w → IsQuestionBelow (length w.heap.store) q → IsReplyBelow (length w.heap.store) q (reply q w)
unfolding reply find_property
reply_well (TheClass n) w h b = (h.heap.store.objects n).class
reply_well (ThePrototype n) w h b = (h.heap.store.objects n).prototype
reply_well (IsExtensible n) w h b = tt
reply_well (TheOwnProperty key n) w h b = own_property_below (length w.heap.store) (object_in w.heap.store n) key (h.heap.store.orderly n) (h.heap.store.objects n)
reply_well (TheOwnKey place n) w h b = own_key_is_key (object_in w.heap.store n) place (h.heap.store.orderly n)
reply_well (IsOnChain p n) w h b = tt
reply_well (TheCell n) w h b = h.heap.store.cells n
reply_well (TheMark n) w h b = tt
reply_well (TheProperty key n) w h b = property_below longest w.heap.store key (Some n) h.heap.store
reply_well (TheSetStep key v receiver found) w h b = step_below w.heap.store key v receiver found (length w.heap.store) b.0 b.1 b.2
reply_well (TheSort x f) w h b = tt
reply_well (TheIntrinsic i) w h b = intrinsic_below (length w.heap.store) (place_of i) w.heap.realm h.heap.not_empty h.heap.realm
reply_well TheInput w h b = tt

-- ---- runs

pub ran_more : (m k : ℕ) (r : Ran) → m ≤ k → IsRanWellFormed k r → IsRanWellFormed m r
ran_more m k (Ends c s) l h = (h.0, omega (arith, h.1), h.2)
ran_more m k (Halts stop s) l h = h

pub spent_well : (n : ℕ) (s : State) (f : State → Ran) → IsWorldWellFormed s.world → ((n : ℕ) → IsRanWellFormed (length s.world.heap.store) (f (record s { meter = n }))) → IsRanWellFormed (length s.world.heap.store) (spent n s f)
spent_well zero s f h next = h
spent_well (suc n) s f h next = next n

happened_well : {A : Type 0} (e : Event World A) (s : State) (f : A → State → Ran) (B : ℕ → A → Type 0) → IsWorldWellFormed s.world → IfHappens e (λ a v. Grows s.world.heap v.heap) → IfHappens e (λ a v. IsWorldWellFormed v × B (length v.heap.store) a)
    → ((a : A) (v : World) → IsWorldWellFormed v → length s.world.heap.store ≤ length v.heap.store → B (length v.heap.store) a → IsRanWellFormed (length v.heap.store) (f a (with_world s v))) → IsRanWellFormed (length s.world.heap.store) (happened e s f)
happened_well (Happens a v) s f B h g w next = ran_more (length s.world.heap.store) (length v.heap.store) (f a (with_world s v)) g.things (next a v w.0 g.things w.1)
happened_well (Stops full) s f B h g w next = h

pub returned_well : (m : ℕ) (x : Ran) (f : Value → State → Ran) → IsRanWellFormed m x → ((v : Value) (t : State) → IsWorldWellFormed t.world → m ≤ length t.world.heap.store → IsValueBelow (length t.world.heap.store) v → IsRanWellFormed (length t.world.heap.store) (f v t)) → IsRanWellFormed m (returned x f)
returned_well m (Ends (NormalCompletion v) s) f h next = ran_more m (length s.world.heap.store) (f v s) h.1 (next v s h.0 h.1 h.2)
returned_well m (Ends (ThrowCompletion v) s) f h next = h
returned_well m (Halts stop s) f h next = h

ended_well : (m : ℕ) (x : Ran) (f : Completion → State → Ran) → IsRanWellFormed m x → ((c : Completion) (t : State) → IsWorldWellFormed t.world → m ≤ length t.world.heap.store → IsCompletionBelow (length t.world.heap.store) c → IsRanWellFormed (length t.world.heap.store) (f c t)) → IsRanWellFormed m (ended x f)
ended_well m (Ends c s) f h next = ran_more m (length s.world.heap.store) (f c s) h.1 (next c s h.0 h.1 h.2)
ended_well m (Halts stop s) f h next = h

pub run_well : (c : Calls) → CallsWell c → (p : Act) (s : State) → IsWorldWellFormed s.world → IsActBelow (length s.world.heap.store) p → IsRanWellFormed (length s.world.heap.store) (run c p s)
unfolding run
run_well c well (Give v) s h b = (h, le_refl (length s.world.heap.store), b)
run_well c well (Throw v) s h b = (h, le_refl (length s.world.heap.store), b)
run_well c well (Halt stop) s h b = h
run_well c well (Turn p) s h b = spent_well s.meter s (run c p) h (λ n. run_well c well p (record s { meter = n }) h b)
run_well c well (Ask q k) s h b = run_well c well (k (reply q s.world)) s h (b.1 (length s.world.heap.store) (le_refl (length s.world.heap.store)) (reply q s.world) (reply_well q s.world h b.0))
run_well c well (Do d k) s h b =
    happened_well (perform d s.world) s (λ a. run c (k a)) (λ n a. IsAnswerBelow n d a) h (perform_grows d s.world) (perform_well d s.world h b.0)
    (λ a v w l y. run_well c well (k a) (with_world s v) w (b.1 (length v.heap.store) l a y))
run_well c well (Call f this vs target k) s h b =
    returned_well (length s.world.heap.store) (c f this vs target s) (λ v. run c (k v)) (well f this vs target s h b.0 b.1 b.2 b.3)
    (λ v t w l y. run_well c well (k v) t w (b.4 (length t.world.heap.store) l v y))
run_well c well (Try f this vs target k) s h b =
    ended_well (length s.world.heap.store) (c f this vs target s) (λ v. run c (k v)) (well f this vs target s h b.0 b.1 b.2 b.3)
    (λ v t w l y. run_well c well (k v) t w (b.4 (length t.world.heap.store) l v y))
