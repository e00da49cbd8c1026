-- The entries of a table, by their place among themselves.
use Rattle.std.proofs.Common.{◌≡◌, ℕ, suc, zero, ◌<◌, ◌≤◌, ◌⊎◌, inl, inr, Bool, true, false, cond, List, [], ◌∷◌, ◌++◌, length, map, set, refl, ap, ap₂, sym, ◌∙◌, arith, Option, Some, None}
use Rattle.std.specs.List.{slice_get}
use Rattle.std.specs.Prelude.{◌==◌}
use Rattle.std.proofs.lemmas.Bool.{cases_eq, eq-eqb, ne_eqb}
use Rattle.std.proofs.lemmas.List.{map-append, append-nil}
use Rattle.slot_heap.specs.Walk.{Has}
use Rattle.slot_heap.specs.Chains.{find, update, table, entry}
use Rattle.slot_heap.specs.Reading.{place_in}

abbrev pub keys : {X : Type 0} → List (ℕ × X) → List ℕ
keys ps = map (λ p. p.0) ps

-- no key comes twice
abbrev pub Apart : List ℕ → Type 0
Apart [] = Unit {0}
Apart (x ∷ xs) = (Has xs x → ⊥) × Apart xs

-- ---- lists of addresses

pub has_append : (xs ys : List ℕ) (a : ℕ) → Has xs a → Has (xs ++ ys) a
has_append [] ys a h = absurd h
has_append (x ∷ xs) ys a (inl e) = inl e
has_append (x ∷ xs) ys a (inr h) = inr (has_append xs ys a h)

has_snoc : (xs : List ℕ) (y a : ℕ) → Has (xs ++ y ∷ []) a → Has xs a ⊎ (y ≡ a)
has_snoc [] y a (inl e) = inr e
has_snoc [] y a (inr h) = absurd h
has_snoc (x ∷ xs) y a (inl e) = inl (inl e)
has_snoc (x ∷ xs) y a (inr h) = elim (has_snoc xs y a h) [ inl h ↦ inl (inr h) | inr e ↦ inr e ]

apart_snoc : (xs : List ℕ) (y : ℕ) → Apart xs → (Has xs y → ⊥) → Apart (xs ++ y ∷ [])
apart_snoc [] y u h = (λ z. z, tt)
apart_snoc (x ∷ xs) y u h =
    (λ z. elim (has_snoc xs y x z) [ inl p ↦ u.0 p | inr e ↦ h (inl (sym e)) ], apart_snoc xs y u.1 (λ z. h (inr z)))

-- an old address keeps its place, and a new one gets the next
pub place_append : (xs ys : List ℕ) (a : ℕ) → Has xs a → place_in a (xs ++ ys) ≡ place_in a xs
place_append [] ys a h = absurd h
place_append (x ∷ xs) ys a (inl e) = rw (eq-eqb x a e) refl
place_append (x ∷ xs) ys a (inr h) = ap (λ n. cond (x == a) 0 (suc n)) (place_append xs ys a h)

pub place_new : (xs : List ℕ) (a : ℕ) → (Has xs a → ⊥) → place_in a (xs ++ a ∷ []) ≡ length xs
place_new [] a h = rw (eq-eqb a a refl) refl
place_new (x ∷ xs) a h = rw (ne_eqb x a (λ e. h (inl e))) (ap (λ n. suc n) (place_new xs a (λ p. h (inr p))))

pub place_below : (xs : List ℕ) (a : ℕ) → Has xs a → place_in a xs < length xs
place_below [] a h = absurd h
place_below (x ∷ xs) a h = elim (cases_eq x a) [
  | inl e ↦ rw (eq-eqb x a e) (omega arith)
  | inr d ↦ rw (ne_eqb x a d) (let l = place_below xs a (elim h [ inl e ↦ absurd (d e) | inr p ↦ p ]) in omega arith)
]

-- one number, one address
pub place_one : (xs : List ℕ) (a b : ℕ) → Has xs a → Has xs b → place_in a xs ≡ place_in b xs → a ≡ b
place_one [] a b h k e = absurd h
place_one (x ∷ xs) a b h k e = elim (cases_eq x a) [
  | inl p ↦ elim (cases_eq x b) [
    | inl q ↦ sym p ∙ q
    | inr q ↦ absurd (let f = rw (eq-eqb x a p, ne_eqb x b q) at e in omega arith)
  ]
  | inr p ↦ elim (cases_eq x b) [
    | inl q ↦ absurd (let f = rw (ne_eqb x a p, eq-eqb x b q) at e in omega arith)
    | inr q ↦ place_one xs a b (elim h [ inl e ↦ absurd (p e) | inr y ↦ y ]) (elim k [ inl e ↦ absurd (q e) | inr y ↦ y ]) (let f = rw (ne_eqb x a p, ne_eqb x b q) at e in omega arith)
  ]
]

-- ---- entries by their place

module _ {X Y : Type 0} (f : X → Y) where
  abbrev pub ranked : List (ℕ × X) → List Y
  ranked ps = map (λ p. f p.1) ps

  pub get_ranked : (ps : List (ℕ × X)) (a : ℕ) (x : X) → find a ps ≡ Some x → slice_get (ranked ps) (place_in a (keys ps)) ≡ Some (f x)
  get_ranked [] a x e = absurd (cc)
  get_ranked (p ∷ ps) a x e = elim (cases_eq p.0 a) [
    | inl q ↦
        let same : p.1 ≡ x = let g = rw (eq-eqb p.0 a q) at e in cc in
        rw (eq-eqb p.0 a q) (ap (λ z. Some (f z)) same)
    | inr d ↦ rw (ne_eqb p.0 a d) (get_ranked ps a x (rw (ne_eqb p.0 a d) at e))
  ]

  -- a key that isn't there changes nothing
  update_none : (ps : List (ℕ × X)) (a : ℕ) (x : X) → (Has (keys ps) a → ⊥) → update a x ps ≡ ps
  update_none [] a x h = refl
  update_none (p ∷ ps) a x h = rw (ne_eqb p.0 a (λ e. h (inl e))) (ap (λ t. p ∷ t) (update_none ps a x (λ q. h (inr q))))

  pub update_ranked : (ps : List (ℕ × X)) (a : ℕ) (x x' : X) → Apart (keys ps) → find a ps ≡ Some x → ranked (update a x' ps) ≡ set (ranked ps) (place_in a (keys ps)) (f x')
  update_ranked [] a x x' u e = absurd (cc)
  update_ranked (p ∷ ps) a x x' u e = elim (cases_eq p.0 a) [
    | inl q ↦
        let none : update a x' ps ≡ ps = update_none ps a x' (λ h. u.0 (rw q h)) in
        rw (none, eq-eqb p.0 a q) refl
    | inr d ↦ rw (ne_eqb p.0 a d) (ap (λ t. f p.1 ∷ t) (update_ranked ps a x x' u.1 (rw (ne_eqb p.0 a d) at e)))
  ]

cond_key : {X : Type 0} (b : Bool) (p : ℕ × X) (x : X) → (cond b (p.0, x) p).0 ≡ p.0
cond_key true p x = refl
cond_key false p x = refl

pub keys_update : {X : Type 0} (ps : List (ℕ × X)) (a : ℕ) (x : X) → keys (update a x ps) ≡ keys ps
keys_update [] a x = refl
keys_update (p ∷ ps) a x = ap₂ ◌∷◌ (cond_key (p.0 == a) p x) (keys_update ps a x)

-- ---- tables

table_keys : {X : Type 0} (g : ℕ → Option X) (n a : ℕ) → Has (keys (table g n)) a → a ≤ n
table_keys {X = X} g zero a h = absurd h
table_keys {X = X} g (suc n) a h = last (g n) (rw (map-append (λ p. p.0) (table g n) (entry (suc n) (g n))) at h) (table_keys g n a)
  where
    last : (o : Option X) → Has (keys (table g n) ++ keys (entry (suc n) o)) a → (Has (keys (table g n)) a → a ≤ n) → a ≤ suc n
    last None h r = let l = r (rw (append-nil (keys (table g n))) at h) in omega arith
    last (Some x) h r = elim (has_snoc (keys (table g n)) (suc n) a h) [ inl q ↦ let l = r q in omega arith | inr e ↦ omega arith ]

pub table_apart : {X : Type 0} (g : ℕ → Option X) (n : ℕ) → Apart (keys (table g n))
table_apart {X = X} g zero = tt
table_apart {X = X} g (suc n) = rw (map-append (λ p. p.0) (table g n) (entry (suc n) (g n))) (last (g n) (table_apart g n))
  where
    last : (o : Option X) → Apart (keys (table g n)) → Apart (keys (table g n) ++ keys (entry (suc n) o))
    last None d = rw (append-nil (keys (table g n))) d
    last (Some x) d = apart_snoc (keys (table g n)) (suc n) d (λ h. let l = table_keys g n (suc n) h in absurd (omega arith))

abbrev or_else : {X : Type 0} → Option X → Option X → Option X
or_else None y = y
or_else (Some x) y = Some x

or_else_cond : {X : Type 0} (b : Bool) (x : X) (o q : Option X) → cond b (Some x) (or_else o q) ≡ or_else (cond b (Some x) o) q
or_else_cond true x o q = refl
or_else_cond false x o q = refl

find_append : {X : Type 0} (at : ℕ) (ps qs : List (ℕ × X)) → find at (ps ++ qs) ≡ or_else (find at ps) (find at qs)
find_append at [] qs = refl
find_append at (p ∷ ps) qs =
    ap (λ t. cond (p.0 == at) (Some p.1) t) (find_append at ps qs) ∙ or_else_cond (p.0 == at) p.1 (find at ps) (find at qs)

find_entry_other : {X : Type 0} (n i : ℕ) (o : Option X) → (n ≡ i → ⊥) → find (suc i) (entry (suc n) o) ≡ None
find_entry_other n i None d = refl
find_entry_other n i (Some x) d = rw (ne_eqb (suc n) (suc i) (λ e. d (omega arith))) refl

find_entry_zero : {X : Type 0} (n : ℕ) (o : Option X) → find 0 (entry (suc n) o) ≡ None
find_entry_zero n None = refl
find_entry_zero n (Some x) = rw (ne_eqb (suc n) 0 (λ e. absurd (omega arith))) refl

find_entry_same : {X : Type 0} (i : ℕ) (o : Option X) → find (suc i) (entry (suc i) o) ≡ o
find_entry_same i None = refl
find_entry_same i (Some x) = rw (eq-eqb (suc i) (suc i) refl) refl

pub find_past : {X : Type 0} (f : ℕ → Option X) (n i : ℕ) → n ≤ i → find (suc i) (table f n) ≡ None
find_past f zero i l = refl
find_past f (suc n) i l =
    find_append (suc i) (table f n) (entry (suc n) (f n)) ∙ ap₂ or_else (find_past f n i (omega arith)) (find_entry_other n i (f n) (omega arith))

or_none : {X : Type 0} (o : Option X) → or_else o None ≡ o
or_none None = refl
or_none (Some x) = refl

pub find_table : {X : Type 0} (f : ℕ → Option X) (n i : ℕ) → i < n → find (suc i) (table f n) ≡ f i
find_table f zero i l = absurd (omega arith)
find_table f (suc n) i l = find_append (suc i) (table f n) (entry (suc n) (f n)) ∙ elim (cases_eq n i) [
  | inl e ↦ rw e (ap₂ or_else (find_past f i i (omega arith)) (find_entry_same i (f i)))
  | inr d ↦ ap₂ or_else (find_table f n i (omega arith)) (find_entry_other n i (f n) d) ∙ or_none (f i)
]

pub find_zero : {X : Type 0} (f : ℕ → Option X) (n : ℕ) → find 0 (table f n) ≡ None
find_zero f zero = refl
find_zero f (suc n) = find_append 0 (table f n) (entry (suc n) (f n)) ∙ ap₂ or_else (find_zero f n) (find_entry_zero n (f n))

pub has_key : {X : Type 0} (ps : List (ℕ × X)) (a : ℕ) (x : X) → find a ps ≡ Some x → Has (keys ps) a
has_key [] a x e = absurd (cc)
has_key (p ∷ ps) a x e = elim (cases_eq p.0 a) [
  | inl q ↦ inl q
  | inr d ↦ inr (has_key ps a x (rw (ne_eqb p.0 a d) at e))
]
