-- To cut the parts of a form and then to build it is to build it and then to cut it.
use Rattle.std.proofs.Common.{◌≡◌, ◌∙◌, sym, ap, ap₂, refl, ℕ, suc, ◌+◌, ◌<◌, ◌≤◌, min, max, Bool, true, false, arith, Some, None}
use Rattle.std.specs.Prelude.{nat_le, nat_lt, if◌then◌else◌}
use Rattle.std.proofs.lemmas.Bool.{le-leb, lt-leb, leb-true, leb-false, ltb-true, ltb-false}
use Rattle.es_model.specs.Tree as t
use Rattle.es_model.specs.Tree.{Tree}
use Rattle.es_model.specs.Nesting.{nesting}
use Rattle.es_model.specs.declared.kinds.BinaryOperator.{BinaryOperator}
use Rattle.parser_forms.specs.Kept.{around, both, counted, raised, dropped, join_trees, optional, followed, none, and_then}
use Rattle.js_parser.specs.Cut.{kept_at, cut}

pub raised_law : (n : ℕ) → raised (min n 65) ≡ min (suc n) 65
raised_law n = by (nat_lt (min n 65) 65) refl
  where
    by : (b : Bool) → nat_lt (min n 65) 65 ≡ b → (if b then min n 65 + 1 else 65) ≡ min (suc n) 65
    by true e = let h : min n 65 < 65 = ltb-true _ _ e in omega arith
    by false e = let h : 65 ≤ min n 65 = ltb-false _ _ e in omega arith

-- a form round one thing, which doesn't count
pub around_law : {A B : Type 0} (n : ℕ) (f : A → B) (a : A) → around f (kept_at n a) ≡ kept_at n (f a)
around_law n f a = by (nat_le n 64)
  where
    by : (b : Bool) → around f (record { tree = if b then Some a else None; nesting = min n 65 }) ≡ record { tree = if b then Some (f a) else None; nesting = min n 65 }
    by true = refl
    by false = refl

-- two things side by side
both_trees : {A B C : Type 0} (m n : ℕ) (f : A → B → C) (a : A) (b : B) →
    join_trees f (if nat_le m 64 then Some a else None) (if nat_le n 64 then Some b else None) ≡ (if nat_le (max m n) 64 then Some (f a b) else None)
both_trees m n f a b = by (nat_le m 64) refl (nat_le n 64) refl
  where
    by : (x : Bool) → nat_le m 64 ≡ x → (y : Bool) → nat_le n 64 ≡ y →
        join_trees f (if x then Some a else None) (if y then Some b else None) ≡ (if nat_le (max m n) 64 then Some (f a b) else None)
    by true e true d = let p : m ≤ 64 = leb-true _ _ e in let q : n ≤ 64 = leb-true _ _ d in rw (le-leb (max m n) 64 (omega arith)) refl
    by true e false d = let q : 64 < n = leb-false _ _ d in rw (lt-leb (max m n) 64 (omega arith)) refl
    by false e true d = let p : 64 < m = leb-false _ _ e in rw (lt-leb (max m n) 64 (omega arith)) refl
    by false e false d = let p : 64 < m = leb-false _ _ e in rw (lt-leb (max m n) 64 (omega arith)) refl

least_of : (m n : ℕ) → max (min m 65) (min n 65) ≡ min (max m n) 65
least_of m n = omega arith

pub both_law : {A B C : Type 0} (m n : ℕ) (f : A → B → C) (a : A) (b : B) → both f (kept_at m a) (kept_at n b) ≡ kept_at (max m n) (f a b)
both_law m n f a b = ap₂ (λ tree nesting. record { tree = tree; nesting = nesting }) (both_trees m n f a b) (least_of m n)

-- one level more
counted_tree : {A : Type 0} (n : ℕ) (a : A) → dropped (min (suc n) 65) (if nat_le n 64 then Some a else None) ≡ (if nat_le (suc n) 64 then Some a else None)
counted_tree n a = by (nat_le n 64) refl (nat_le (suc n) 64) refl
  where
    by : (x : Bool) → nat_le n 64 ≡ x → (y : Bool) → nat_le (suc n) 64 ≡ y → dropped (min (suc n) 65) (if x then Some a else None) ≡ (if y then Some a else None)
    by true e true d = let q : suc n ≤ 64 = leb-true _ _ d in rw (le-leb (min (suc n) 65) 64 (omega arith)) refl
    by true e false d = let q : 64 < suc n = leb-false _ _ d in rw (lt-leb (min (suc n) 65) 64 (omega arith)) refl
    by false e true d = let p : 64 < n = leb-false _ _ e in let q : suc n ≤ 64 = leb-true _ _ d in absurd (omega arith)
    by false e false d = let q : 64 < suc n = leb-false _ _ d in rw (lt-leb (min (suc n) 65) 64 (omega arith)) refl

pub counted_law : {A : Type 0} (n : ℕ) (a : A) → counted (kept_at n a) ≡ kept_at (suc n) a
counted_law n a =
    ap (λ k. record { tree = dropped k (if nat_le n 64 then Some a else None); nesting = k }) (raised_law n)
    ∙ ap (λ tree. record { tree = tree; nesting = min (suc n) 65 }) (counted_tree n a)

-- the two together
pub one_law : {A B : Type 0} (n : ℕ) (f : A → B) (a : A) → counted (around f (kept_at n a)) ≡ kept_at (suc n) (f a)
one_law n f a = ap counted (around_law n f a) ∙ counted_law n (f a)

pub two_law : {A B C : Type 0} (m n : ℕ) (f : A → B → C) (a : A) (b : B) → counted (both f (kept_at m a) (kept_at n b)) ≡ kept_at (suc (max m n)) (f a b)
two_law m n f a b = ap counted (both_law m n f a b) ∙ counted_law (max m n) (f a b)

-- Forms, by these: a form that counts is one more than the greatest of its parts.

pub cut_paren : (e : Tree t.expression) → counted (around t.Paren (cut e)) ≡ cut (t.Paren e)
unfolding nesting
cut_paren e = one_law (nesting e) t.Paren e

pub cut_index : (e key : Tree t.expression) → counted (both t.Index (cut e) (cut key)) ≡ cut (t.Index e key)
unfolding nesting
cut_index e key = two_law (nesting e) (nesting key) t.Index e key

pub cut_binary : (o : BinaryOperator) (l r : Tree t.expression) → counted (both (t.Binary o) (cut l) (cut r)) ≡ cut (t.Binary o l r)
unfolding nesting
cut_binary o l r = two_law (nesting l) (nesting r) (t.Binary o) l r

pub cut_call : (e : Tree t.expression) (list : Tree (t.list t.expression)) → counted (both t.Call (cut e) (cut list)) ≡ cut (t.Call e list)
unfolding nesting
cut_call e list = two_law (nesting e) (nesting list) t.Call e list

-- a thing that may be left out
pub cut_absent : {s : t.Sort} → optional {s = s} None ≡ cut t.absent
unfolding nesting
cut_absent = refl

pub cut_present : {s : t.Sort} (a : Tree s) → optional (Some (cut a)) ≡ cut (t.present a)
unfolding nesting
cut_present a = around_law (nesting a) t.present a

-- lists
pub cut_none : {s : t.Sort} → none {s = s} ≡ cut t.none
unfolding nesting
cut_none = refl

pub followed_nesting : {s : t.Sort} (list : Tree (t.list s)) (a : Tree s) → nesting (followed list a) ≡ max (nesting list) (nesting a)
unfolding nesting
followed_nesting t.none a = omega arith
followed_nesting (t.more one rest) a = let e : nesting (followed rest a) ≡ max (nesting rest) (nesting a) = followed_nesting rest a in omega arith

pub cut_and_then : {s : t.Sort} (list : Tree (t.list s)) (a : Tree s) → and_then (cut list) (cut a) ≡ cut (followed list a)
cut_and_then list a = both_law (nesting list) (nesting a) followed list a ∙ ap (λ n. kept_at n (followed list a)) (sym (followed_nesting list a))
