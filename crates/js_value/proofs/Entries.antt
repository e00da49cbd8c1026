-- Edits of property lists keep their keys distinct and in order.
use Rattle.std.proofs.Common.{◌≡◌, ℕ, ◌<◌, ◌≤◌, Bool, true, false, cond, List, [], ◌∷◌, nat_lt, ◌==◌, arith, refl, sym, ap, ◌∙◌, subst, Some, None}
use Rattle.std.proofs.lemmas.Bool.Decides.{nat_tests}
use Rattle.std.proofs.lemmas.Slice.Eq.{bytes_eq-Decides}
use Rattle.js_value.specs.Value.{Text, same_text}
use Rattle.js_value.specs.Store.{found, removed, put_name, put_index}
use Rattle.js_value.specs.Order.{AllAbove, AllBelow, Ascending, Distinct, IsName, AreNames}

-- ---- texts

pub same_text_is : (a b : Text) → same_text a b ≡ true → a ≡ b
same_text_is a b e = (bytes_eq-Decides a b).0 e

pub same_text_refl : (a : Text) → same_text a a ≡ true
same_text_refl a = (bytes_eq-Decides a a).1 refl

pub same_text_sym : (a b : Text) → same_text a b ≡ same_text b a
same_text_sym a b = both (same_text a b) (same_text b a) (λ e. rw (same_text_is a b e) (same_text_refl b)) (λ e. rw (same_text_is b a e) (same_text_refl a))
  where
    both : (x y : Bool) → (x ≡ true → y ≡ true) → (y ≡ true → x ≡ true) → x ≡ y
    both true true f g = refl
    both false false f g = refl
    both true false f g = sym (f refl)
    both false true f g = g refl

-- ---- names

found_cons : {X : Type 0} (k : Text) (e : Text × X) (es : List (Text × X)) (b : Bool) → same_text k e.0 ≡ b → found (same_text k) (e ∷ es) ≡ cond b (Some e.1) (found (same_text k) es)
found_cons k e es b q = ap (λ c. cond c (Some e.1) (found (same_text k) es)) q

pub found-put_name : {X : Type 0} (k t : Text) (x : X) (es : List (Text × X)) → found (same_text k) (put_name t x es) ≡ cond (same_text k t) (Some x) (found (same_text k) es)
found-put_name k t x [] = refl
found-put_name {X} k t x (e ∷ es) = by_test (same_text t e.0) refl (found-put_name k t x es)
  where
    by_key : (b : Bool) → same_text k e.0 ≡ b → same_text t e.0 ≡ false → found (same_text k) (put_name t x es) ≡ cond (same_text k t) (Some x) (found (same_text k) es)
        → cond b (Some e.1) (found (same_text k) (put_name t x es)) ≡ cond (same_text k t) (Some x) (cond b (Some e.1) (found (same_text k) es))
    by_key false q d rest = rest
    by_key true q d rest =
        let f : same_text k t ≡ false = ap (λ w. same_text w t) (same_text_is k e.0 q) ∙ same_text_sym e.0 t ∙ d in
        sym (ap (λ b. cond b (Some x) (Some e.1)) f)

    by_same : (b : Bool) → same_text k t ≡ b → same_text t e.0 ≡ true → cond b (Some x) (found (same_text k) es) ≡ cond b (Some x) (cond (same_text k e.0) (Some e.1) (found (same_text k) es))
    by_same true q s = refl
    by_same false q s =
        let f : same_text k e.0 ≡ false = ap (same_text k) (sym (same_text_is t e.0 s)) ∙ q in
        sym (ap (λ b. cond b (Some e.1) (found (same_text k) es)) f)

    by_test : (b : Bool) → same_text t e.0 ≡ b → found (same_text k) (put_name t x es) ≡ cond (same_text k t) (Some x) (found (same_text k) es)
        → found (same_text k) (cond b ((t, x) ∷ es) (e ∷ put_name t x es)) ≡ cond (same_text k t) (Some x) (cond (same_text k e.0) (Some e.1) (found (same_text k) es))
    by_test true q rest = by_same (same_text k t) refl q
    by_test false q rest = by_key (same_text k e.0) refl q rest

pub put_name_distinct : {X : Type 0} (t : Text) (x : X) (es : List (Text × X)) → Distinct es → Distinct (put_name t x es)
put_name_distinct t x [] d = (refl, tt)
put_name_distinct {X} t x (e ∷ es) d = by_test (same_text t e.0) refl (put_name_distinct t x es d.1)
  where
    by_test : (b : Bool) → same_text t e.0 ≡ b → Distinct (put_name t x es) → Distinct (cond b ((t, x) ∷ es) (e ∷ put_name t x es))
    by_test true q rest = (ap (λ w. found (same_text w) es) (same_text_is t e.0 q) ∙ d.0, d.1)
    by_test false q rest =
        let f : same_text e.0 t ≡ false = same_text_sym e.0 t ∙ q in
        (found-put_name e.0 t x es ∙ ap (λ b. cond b (Some x) (found (same_text e.0) es)) f ∙ d.0, rest)

pub put_name_names : {X : Type 0} (t : Text) (x : X) (es : List (Text × X)) → IsName t → AreNames es → AreNames (put_name t x es)
put_name_names t x [] n d = (n, tt)
put_name_names {X} t x (e ∷ es) n d = by_test (same_text t e.0) (put_name_names t x es n d.1)
  where
    by_test : (b : Bool) → AreNames (put_name t x es) → AreNames (cond b ((t, x) ∷ es) (e ∷ put_name t x es))
    by_test true rest = (n, d.1)
    by_test false rest = (d.0, rest)

none_kept : {X : Type 0} (k : Text) (is : Text → Bool) (es : List (Text × X)) → found (same_text k) es ≡ None → found (same_text k) (removed is es) ≡ None
none_kept k is [] n = n
none_kept {X} k is (e ∷ es) n = by_test (is e.0) (same_text k e.0) refl n (none_kept k is es)
  where
    by_test : (b c : Bool) → same_text k e.0 ≡ c → cond c (Some e.1) (found (same_text k) es) ≡ None → (found (same_text k) es ≡ None → found (same_text k) (removed is es) ≡ None) → found (same_text k) (cond b es (e ∷ removed is es)) ≡ None
    by_test b true q m rest = absurd (cc)
    by_test true false q m rest = m
    by_test false false q m rest = ap (λ w. cond w (Some e.1) (found (same_text k) (removed is es))) q ∙ rest m

pub removed_none : {X : Type 0} (k : Text) (is : Text → Bool) (es : List (Text × X)) → found (same_text k) es ≡ None → found (same_text k) (removed is es) ≡ None
removed_none k is es n = none_kept k is es n

pub removed_distinct : {X : Type 0} (is : Text → Bool) (es : List (Text × X)) → Distinct es → Distinct (removed is es)
removed_distinct is [] d = tt
removed_distinct {X} is (e ∷ es) d = by_test (is e.0) (removed_distinct is es d.1)
  where
    by_test : (b : Bool) → Distinct (removed is es) → Distinct (cond b es (e ∷ removed is es))
    by_test true rest = d.1
    by_test false rest = (none_kept e.0 is es d.0, rest)

pub removed_names : {X : Type 0} (is : Text → Bool) (es : List (Text × X)) → AreNames es → AreNames (removed is es)
removed_names is [] d = tt
removed_names {X} is (e ∷ es) d = by_test (is e.0) (removed_names is es d.1)
  where
    by_test : (b : Bool) → AreNames (removed is es) → AreNames (cond b es (e ∷ removed is es))
    by_test true rest = d.1
    by_test false rest = (d.0, rest)

-- ---- indices

above_more : {X : Type 0} (i j : ℕ) (es : List (ℕ × X)) → i < j → AllAbove j es → AllAbove i es
above_more i j [] l a = tt
above_more i j (e ∷ es) l a = (omega (arith, a.0), above_more i j es l a.1)

below_more : {X : Type 0} (n m : ℕ) (es : List (ℕ × X)) → n ≤ m → AllBelow n es → AllBelow m es
below_more n m [] l a = tt
below_more n m (e ∷ es) l a = (omega (arith, a.0), below_more n m es l a.1)

pub all_below_more : {X : Type 0} (n m : ℕ) (es : List (ℕ × X)) → n ≤ m → AllBelow n es → AllBelow m es
all_below_more n m es l a = below_more n m es l a

pub put_index_above : {X : Type 0} (j i : ℕ) (x : X) (es : List (ℕ × X)) → j < i → AllAbove j es → AllAbove j (put_index i x es)
put_index_above j i x [] l a = (l, tt)
put_index_above {X} j i x (e ∷ es) l a = by_test (nat_lt i e.0) (i == e.0) (put_index_above j i x es l a.1)
  where
    by_test : (b c : Bool) → AllAbove j (put_index i x es) → AllAbove j (cond b ((i, x) ∷ e ∷ es) (cond c ((i, x) ∷ es) (e ∷ put_index i x es)))
    by_test true c rest = (l, (a.0, a.1))
    by_test false true rest = (l, a.1)
    by_test false false rest = (a.0, rest)

pub put_index_below : {X : Type 0} (n i : ℕ) (x : X) (es : List (ℕ × X)) → i < n → AllBelow n es → AllBelow n (put_index i x es)
put_index_below n i x [] l a = (l, tt)
put_index_below {X} n i x (e ∷ es) l a = by_test (nat_lt i e.0) (i == e.0) (put_index_below n i x es l a.1)
  where
    by_test : (b c : Bool) → AllBelow n (put_index i x es) → AllBelow n (cond b ((i, x) ∷ e ∷ es) (cond c ((i, x) ∷ es) (e ∷ put_index i x es)))
    by_test true c rest = (l, (a.0, a.1))
    by_test false true rest = (l, a.1)
    by_test false false rest = (a.0, rest)

less : (i j : ℕ) → nat_lt i j ≡ true → i < j
less i j e = grind (arith, nat_tests)

equal : (i j : ℕ) → (i == j) ≡ true → i ≡ j
equal i j e = grind (arith, nat_tests)

greater : (i j : ℕ) → nat_lt i j ≡ false → (i == j) ≡ false → j < i
greater i j e f = grind (arith, nat_tests)

pub put_index_ascending : {X : Type 0} (i : ℕ) (x : X) (es : List (ℕ × X)) → Ascending es → Ascending (put_index i x es)
put_index_ascending i x [] a = (tt, tt)
put_index_ascending {X} i x (e ∷ es) a = by_test (nat_lt i e.0) (i == e.0) refl refl (put_index_ascending i x es a.1)
  where
    by_test : (b c : Bool) → nat_lt i e.0 ≡ b → (i == e.0) ≡ c → Ascending (put_index i x es) → Ascending (cond b ((i, x) ∷ e ∷ es) (cond c ((i, x) ∷ es) (e ∷ put_index i x es)))
    by_test true c q r rest = let l = less i e.0 q in ((l, above_more i e.0 es l a.0), (a.0, a.1))
    by_test false true q r rest = (subst (λ k. AllAbove k es) (sym (equal i e.0 r)) a.0, a.1)
    by_test false false q r rest = (put_index_above e.0 i x es (greater i e.0 q r) a.0, rest)

removed_above : {X : Type 0} (j : ℕ) (is : ℕ → Bool) (es : List (ℕ × X)) → AllAbove j es → AllAbove j (removed is es)
removed_above j is [] a = tt
removed_above {X} j is (e ∷ es) a = by_test (is e.0) (removed_above j is es a.1)
  where
    by_test : (b : Bool) → AllAbove j (removed is es) → AllAbove j (cond b es (e ∷ removed is es))
    by_test true rest = a.1
    by_test false rest = (a.0, rest)

pub removed_below : {X : Type 0} (n : ℕ) (is : ℕ → Bool) (es : List (ℕ × X)) → AllBelow n es → AllBelow n (removed is es)
removed_below n is [] a = tt
removed_below {X} n is (e ∷ es) a = by_test (is e.0) (removed_below n is es a.1)
  where
    by_test : (b : Bool) → AllBelow n (removed is es) → AllBelow n (cond b es (e ∷ removed is es))
    by_test true rest = a.1
    by_test false rest = (a.0, rest)

pub removed_ascending : {X : Type 0} (is : ℕ → Bool) (es : List (ℕ × X)) → Ascending es → Ascending (removed is es)
removed_ascending is [] a = tt
removed_ascending {X} is (e ∷ es) a = by_test (is e.0) (removed_ascending is es a.1)
  where
    by_test : (b : Bool) → Ascending (removed is es) → Ascending (cond b es (e ∷ removed is es))
    by_test true rest = a.1
    by_test false rest = (removed_above e.0 is es a.0, rest)
