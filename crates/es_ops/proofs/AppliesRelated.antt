-- Internal methods, and the attachment of a prototype, over two heaps; and the whole law.
use Rattle.std.proofs.Common.{◌≡◌, ℕ, ◌-◌, Bool, true, false, cond, not, ◌||◌, [], ◌∷◌, ◌++◌, nat_lt, refl, ap, ap₂, Option, Some, None, slice_get}
use Rattle.js_value.specs.Value.{Text, Key, Index, Named, Numeral}
use Rattle.js_value.specs.Store.{Thing, AnObject, ObjectRecord, Property, Content, Class, as_object, object_in}
use Rattle.js_value.specs.Order.{IsOrderly}
use Rattle.es_ops.specs.State.{Heap, State, plus, some_slots}
use Rattle.es_ops.specs.Ledger.{written, growth, new_name, name_price, name_added, name_cost, with_name}
use Rattle.es_ops.specs.InternalMethods.{Method, DefineOwnProperty, Delete, PreventExtensions, SetPrototypeOf, Freeze, apply_method, refused, unchanged, wrote, set_prototype_of, same_prototype, longest}
use Rattle.es_ops.specs.Events.{apply_outcome, attached, at_home, with_home, with_prototype, pointing_to, prototype_name}
use Rattle.es_ops.specs.Act.{Act, Calls, run}
use Rattle.es_ops.specs.Related.{BothOption, BothNone, BothSome, BothObject, BothContent, BothData, BothAccessor, BothProperty, BothClass, BothOrdinary, BothArray, BothScript, BothBuiltIn, BothResolve, BothReject, BothError, BothPromise, BothRecord, BothThing, BothAnObject, BothACell, BothAMark, BothMethod}
use Rattle.es_ops.specs.Renaming.{Pairs, named, Kept, BothHeap, BothSides, BothEvent, BothRan, BothCalling}
use Rattle.es_ops.proofs.Parts.{same_number}
use Rattle.es_ops.proofs.RunsRelated.{run_related}
use Rattle.es_ops.proofs.RecordsRelated.{own_property_both}
use Rattle.es_ops.proofs.RepliesRelated.{chain_same, object_both, reply_related}
use Rattle.es_ops.proofs.WorldsRelated.{lengths_same, object_size_same, put_both, written_both}
use Rattle.es_ops.proofs.DeedsRelated.{Applies, Attaches, perform_related}
use Rattle.es_ops.proofs.MethodsRelated.{BothOutcome, with_property_both, define_both, delete_both, prevent_both, freeze_both}

-- ---- [[SetPrototypeOf]]

module _ (ps : Pairs) (w v : Heap) (b : BothHeap ps w v) where
  same_prototype_same : {x y z u : Option ℕ} → BothOption (named ps) x y → BothOption (named ps) z u → same_prototype x z ≡ same_prototype y u
  same_prototype_same BothNone BothNone = refl
  same_prototype_same BothNone (BothSome s) = refl
  same_prototype_same (BothSome r) BothNone = refl
  same_prototype_same (BothSome r) (BothSome s) = same_number b.one_to_one _ _ _ _ r s

  set_prototype_both : (m n : ℕ) (x y : Option ℕ) (o p : ObjectRecord) → named ps m n → BothOption (named ps) x y → BothRecord (named ps) o p → BothOutcome (named ps) (set_prototype_of w.store m x o) (set_prototype_of v.store n y p)
  unfolding set_prototype_of
  set_prototype_both m n x y o p r h g = by_tests _ _ _ _ (same_prototype_same h g.prototype) (ap₂ (λ a c. not a || c) g.extensible (chain_same ps w v b longest m n r h))
    where
      at : (c d : Bool) → BothOutcome (named ps) (cond c unchanged (cond d refused (wrote (record o { prototype = x })))) (cond c unchanged (cond d refused (wrote (record p { prototype = y }))))
      at true d = record { answer = refl; written = BothNone }
      at false true = record { answer = refl; written = BothNone }
      at false false = record { answer = refl; written = BothSome (record { class = g.class; prototype = h; extensible = g.extensible; indexed = g.indexed; named = g.named }) }

      by_tests : (a c d e : Bool) → a ≡ c → d ≡ e → BothOutcome (named ps) (cond a unchanged (cond d refused (wrote (record o { prototype = x })))) (cond c unchanged (cond e refused (wrote (record p { prototype = y }))))
      by_tests a c d e i j = rw (i, j) (at c e)

  method_both : (m n : ℕ) (f g : Method) (o p : ObjectRecord) → named ps m n → BothMethod (named ps) f g → IsOrderly o → BothRecord (named ps) o p → BothOutcome (named ps) (apply_method f w.store m o) (apply_method g v.store n p)
  unfolding apply_method
  method_both m n (DefineOwnProperty key d) (DefineOwnProperty other e) o p r h f i = rw h.0 (define_both (named ps) b.one_to_one o p other d e f i h.2)
  method_both m n (Delete key) (Delete other) o p r h f i = rw h (delete_both (named ps) b.one_to_one o p other f i)
  method_both m n PreventExtensions PreventExtensions o p r h f i = prevent_both (named ps) b.one_to_one o p i
  method_both m n (SetPrototypeOf x) (SetPrototypeOf y) o p r h f i = set_prototype_both m n x y o p r h i
  method_both m n Freeze Freeze o p r h f i = freeze_both (named ps) b.one_to_one o p i
  method_both m n _ _ o p r h f i = absurd h

  -- ---- names

  new_name_same : (key : Key) → new_name w key ≡ new_name v key
  new_name_same (Index i) = refl
  new_name_same (Named t) = rw b.names refl
  new_name_same (Numeral n) = rw b.names refl

  added_same : (f g : Method) {o p x y : ObjectRecord} → BothMethod (named ps) f g → BothRecord (named ps) o p → BothRecord (named ps) x y → name_added w f o x ≡ name_added v g p y
  added_same (DefineOwnProperty key d) (DefineOwnProperty other e) h i j = rw h.0 (ap₂ (λ c t. cond c t None) (ap₂ nat_lt (lengths_same i.named) (lengths_same j.named)) (new_name_same other))
  added_same (Delete key) (Delete other) h i j = refl
  added_same PreventExtensions PreventExtensions h i j = refl
  added_same (SetPrototypeOf x) (SetPrototypeOf y) h i j = refl
  added_same Freeze Freeze h i j = refl
  added_same _ _ h i j = absurd h

  cost_same : (f g : Method) (t : Option Text) → BothMethod (named ps) f g → name_cost f t ≡ name_cost g t
  cost_same (DefineOwnProperty key d) (DefineOwnProperty other e) t h = ap (λ k. name_price k t) h.0
  cost_same (Delete key) (Delete other) t h = refl
  cost_same PreventExtensions PreventExtensions t h = refl
  cost_same (SetPrototypeOf x) (SetPrototypeOf y) t h = refl
  cost_same Freeze Freeze t h = refl
  cost_same _ _ t h = absurd h

  with_name_both : (t : Option Text) → BothHeap ps (with_name t w) (with_name t v)
  with_name_both None = b
  with_name_both (Some t) = record { one_to_one = b.one_to_one; stand = b.stand; things = b.things; realm = b.realm; names = ap (λ ns. ns ++ t ∷ []) b.names; used = b.used; room = b.room; costs = b.costs; costs_left = b.costs_left; costs_right = b.costs_right; jobs = b.jobs }

  outcome_both : (m n : ℕ) (f g : Method) (o p : ObjectRecord) (x y : Bool) {i j : Option ObjectRecord} → named ps m n → BothMethod (named ps) f g → BothRecord (named ps) o p → x ≡ y → BothOption (BothRecord (named ps)) i j → BothEvent BothHeap ps (λ R a b. a ≡ b) (apply_outcome w m f o x i) (apply_outcome v n g p y j)
  outcome_both m n f g o p x y r h i e BothNone = (ps, λ i j z. z, b, e)
  outcome_both m n f g o p x y r h i e (BothSome {x = k} {y = l} j) = by_name (name_added w f o k) (name_added v g p l) (added_same f g h i j)
    where
      at : (t : Option Text) → BothEvent BothHeap ps (λ R a b. a ≡ b) (written (with_name t w) m (AnObject o) (AnObject k) (plus (growth o k) (name_cost f t)) x) (written (with_name t v) n (AnObject p) (AnObject l) (plus (growth p l) (name_cost g t)) y)
      at t = written_both ps (with_name t w) (with_name t v) (with_name_both t) (λ R a b. a ≡ b) m n _ _ _ _ _ _ x y r (BothAnObject i) (BothAnObject j) (ap₂ plus (ap some_slots (ap₂ (λ a c. a - c) (object_size_same (named ps) j) (object_size_same (named ps) i))) (cost_same f g t h)) e

      by_name : (t u : Option Text) → t ≡ u → BothEvent BothHeap ps (λ R a b. a ≡ b) (written (with_name t w) m (AnObject o) (AnObject k) (plus (growth o k) (name_cost f t)) x) (written (with_name u v) n (AnObject p) (AnObject l) (plus (growth p l) (name_cost g u)) y)
      by_name t u q = rw q (at u)

pub apply_related : Applies
apply_related ps m n f g w v r h b well =
    let o = object_both ps w v b m n r in
    let x = method_both ps w v b m n f g _ _ r h (well.store.orderly m) o in
    outcome_both ps w v b m n f g _ _ _ _ r h o x.answer x.written

-- ---- a function that is being made

pub attach_related : Attaches
unfolding object_in
attach_related ps f g p q c w v r s b well = by_thing (slice_get w.store f) (slice_get v.store g) (b.things f g r) (well.store.orderly f)
  where
    Attached : Option Thing → Option Thing → Type 0
    Attached x y = BothHeap ps (record w { store = attached p c x w.store f }) (record v { store = attached q c y v.store g })

    with_both : (o u : ObjectRecord) {x y : Option Property} → BothRecord (named ps) o u → BothOption (BothProperty (named ps)) x y → BothRecord (named ps) (with_prototype p o x) (with_prototype q u y)
    with_both o u h BothNone = h
    with_both o u h (BothSome k) = with_property_both (named ps) b.one_to_one o u (Named prototype_name) _ _ h (record { content = pointing k.content; enumerable = k.enumerable; configurable = k.configurable })
      where
        pointing : {c d : Content} → BothContent (named ps) c d → BothContent (named ps) (pointing_to p c) (pointing_to q d)
        pointing (BothData j) = BothData (BothObject s)
        pointing (BothAccessor j k) = BothAccessor j k

    home_both : (c : Bool) {d e : Class} → BothClass (named ps) d e → BothClass (named ps) (at_home p c d) (at_home q c e)
    home_both true BothOrdinary = BothOrdinary
    home_both true BothArray = BothArray
    home_both true (BothScript h cs) = BothScript (BothSome s) cs
    home_both true BothBuiltIn = BothBuiltIn
    home_both true (BothResolve h i) = BothResolve h i
    home_both true (BothReject h i) = BothReject h i
    home_both true BothError = BothError
    home_both true (BothPromise h rs) = BothPromise h rs
    home_both false h = h

    at_home_both : (o u : ObjectRecord) → BothRecord (named ps) o u → BothRecord (named ps) (with_home p c o) (with_home q c u)
    at_home_both o u h = record { class = home_both c h.class; prototype = h.prototype; extensible = h.extensible; indexed = h.indexed; named = h.named }

    by_thing : (x y : Option Thing) → BothOption (BothThing (named ps)) x y → IsOrderly (as_object x) → Attached x y
    by_thing x y BothNone o = b
    by_thing x y (BothSome (BothAnObject {o = i} {p = j} h)) o = put_both ps w v b f g _ _ r (BothAnObject (at_home_both _ _ (with_both i j h (own_property_both (named ps) i j (Named prototype_name) o h))))
    by_thing x y (BothSome (BothACell h)) o = b
    by_thing x y (BothSome BothAMark) o = b

-- ---- the law of runs

pub runs_related : (c d : Calls) → BothCalling c d → (ps : Pairs) (a b : Act) (s t : State) → Kept ps a b → BothSides ps s t → BothRan ps (run c a s) (run d b t)
runs_related c d calls ps a b s t k h = run_related reply_related (perform_related apply_related attach_related) c d calls ps a b s t k h
