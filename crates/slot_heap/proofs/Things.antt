-- The store of a heap when words grow, or a thing is made.
use Rattle.std.proofs.Common.{◌≡◌, ℕ, suc, zero, Bool, true, false, cond, List, [], ◌∷◌, ◌++◌, length, map, refl, ap, ap₂, sym, ◌∙◌, Option, Some, None}
use Rattle.std.specs.List.{All}
use Rattle.std.specs.Prelude.{IsTrue}
use Rattle.std.proofs.lemmas.List.{map-append, length-map, append-nil}
use Rattle.std.proofs.lemmas.List.Elements.{All-head, All-tail, All-nil, All-cons, All-append}
use Rattle.slot_heap.specs.declared.slot.Slot.{Slot}
use Rattle.slot_heap.specs.Walk.{Has}
use Rattle.slot_heap.specs.Chains.{entry, table, thing_in, shown_in, cells_at}
use Rattle.slot_heap.specs.Shown.{all, thing, home, is_thing, cells, shown}
use Rattle.slot_heap.specs.Steps.{Made}
use Rattle.slot_heap.specs.Texts.{Within}
use Rattle.slot_heap.specs.Held.{Held}
use Rattle.slot_heap.specs.Reading.{Reading, place_in, thing_of}
use Rattle.slot_heap.specs.Flat.{heads_of, reading, number_of, flat, Grows}
use Rattle.slot_heap.specs.Standing.{CellStands, Standing}
use Rattle.slot_heap.proofs.Ranks.{place_new, place_append}
use Rattle.slot_heap.proofs.Flat.{has_head, SameWords}
use Rattle.slot_heap.proofs.Growth.{thing_grows}

table_all : {X : Type 0} (P : X → Type 0) (f : ℕ → Option X) (n : ℕ) → ((i : ℕ) (x : X) → f i ≡ Some x → P x) → All (λ p. P p.1) (table f n)
table_all P f zero h = All-nil _
table_all {X = X} P f (suc n) h = All-append (λ (p : ℕ × X). P p.1) (table f n) (entry (suc n) (f n)) (table_all P f n h) (one (f n) (λ x e. h n x e))
  where
    one : (o : Option X) → ((x : X) → o ≡ Some x → P x) → All (λ (p : ℕ × X). P p.1) (entry (suc n) o)
    one None g = All-nil _
    one (Some x) g = All-cons (λ (p : ℕ × X). P p.1) (suc n, x) [] (g x refl) (All-nil _)

-- every shown cell stands
pub shown_stands : (h : Held) → Standing h → All (λ p. All (CellStands h) p.1) (shown h.slots)
unfolding shown shown_in thing_in
shown_stands h s = table_all (All (CellStands h)) (thing_in (thing h.slots) (home h.slots) (all h.slots)) (length (all h.slots)) (λ i x e. one i (thing h.slots i) refl x e)
  where
    one : (i : ℕ) (b : Bool) → thing h.slots i ≡ b → (x : List Slot) → cond b (Some (cells_at (all h.slots) (home h.slots i))) None ≡ Some x → All (CellStands h) x
    one i true t x e = let q : cells h.slots (suc i) ≡ x = cc in rw (sym q) (s.cells (suc i) t)
    one i false t x e = absurd (cc)

reread : (h : Held) (r' : Reading) → Grows (reading h) r' → All (Within h.words.units) h.words.names → (ps : List (ℕ × List Slot)) → All (λ p. All (CellStands h) p.1) ps → map (λ p. thing_of r' p.1) ps ≡ map (λ p. thing_of (reading h) p.1) ps
reread h r' g n [] s = refl
reread h r' g n (p ∷ ps) s =
    ap₂ ◌∷◌ (thing_grows h r' g n p.1 (All-head (λ q. All (CellStands h) q.1) p ps s)) (reread h r' g n ps (All-tail (λ q. All (CellStands h) q.1) p ps s))

-- units and names are added, and no slot changes
pub grows_words : (h h' : Held) → ((more : List ℕ) × (h'.words.units ≡ h.words.units ++ more)) → ((more : List (ℕ × ℕ)) × (h'.words.names ≡ h.words.names ++ more)) → h'.slots ≡ h.slots → Grows (reading h) (reading h')
unfolding reading
grows_words h h' u n e = record { units = u; names = n; heads = ([], ap (λ s. heads_of (shown s)) e ∙ sym (append-nil _)) }

pub flat_words : (h h' : Held) → Standing h → Grows (reading h) (reading h') → h'.slots ≡ h.slots → flat h' ≡ flat h
unfolding flat
flat_words h h' s g e =
    ap (λ t. map (λ p. thing_of (reading h') p.1) (shown t)) e ∙ reread h (reading h') g s.named (shown h.slots) (shown_stands h s)

-- a thing is made
heads_made : (h h' : Held) (r : ℕ) (cs : List Slot) → Made h.slots r cs h'.slots → (reading h').heads ≡ (reading h).heads ++ r ∷ []
unfolding reading
heads_made h h' r cs m = ap heads_of m.things ∙ map-append _ (shown h.slots) ((r, cs) ∷ [])

same_units : (h h' : Held) → SameWords h h' → (reading h').units ≡ (reading h).units
unfolding reading
same_units h h' w = w.0

same_names : (h h' : Held) → SameWords h h' → (reading h').names ≡ (reading h).names
unfolding reading
same_names h h' w = w.1

pub grows_made : (h h' : Held) (r : ℕ) (cs : List Slot) → SameWords h h' → Made h.slots r cs h'.slots → Grows (reading h) (reading h')
grows_made h h' r cs w m = record { units = ([], same_units h h' w ∙ sym (append-nil _)); names = ([], same_names h h' w ∙ sym (append-nil _)); heads = (r ∷ [], heads_made h h' r cs m) }

pub flat_made : (h h' : Held) (r : ℕ) (cs : List Slot) → Standing h → SameWords h h' → Made h.slots r cs h'.slots → flat h' ≡ flat h ++ thing_of (reading h') cs ∷ []
unfolding flat
flat_made h h' r cs s w m =
    ap (map (λ (p : ℕ × List Slot). thing_of (reading h') p.1)) m.things ∙ map-append _ (shown h.slots) ((r, cs) ∷ []) ∙ ap (λ t. t ++ thing_of (reading h') cs ∷ []) (reread h (reading h') (grows_made h h' r cs w m) s.named (shown h.slots) (shown_stands h s))

pub flat_length : (h : Held) → length (flat h) ≡ length (reading h).heads
unfolding flat reading
flat_length h = length-map _ _ ∙ sym (length-map _ _)

pub number_made : (h h' : Held) (r : ℕ) (cs : List Slot) → Made h.slots r cs h'.slots → (Has (reading h).heads r → ⊥) → number_of h' r ≡ length (flat h)
unfolding number_of
number_made h h' r cs m new = ap (place_in r) (heads_made h h' r cs m) ∙ place_new (reading h).heads r new ∙ sym (flat_length h)

-- an old thing keeps its number
pub number_kept : (h h' : Held) (a : ℕ) → Grows (reading h) (reading h') → IsTrue (is_thing h.slots a) → number_of h' a ≡ number_of h a
unfolding number_of
number_kept h h' a g t = ap (place_in a) g.heads.1 ∙ place_append (reading h).heads g.heads.0 a (has_head h a t)
