-- How many bytes names and contents have together, as a name is put.
use Rattle.std.proofs.Common.{◌≡◌, ◌≤◌, ◌+◌, ◌&&◌, ◌∙◌, ℕ, Bool, true, false, cond, is_some, T, List, [], ◌∷◌, length, take, sum_by, Option, Some, None, ap, sym, refl, arith}
use Rattle.std.specs.declared.cmp.Ordering.{Ordering}
use Rattle.std.specs.declared.cmp.Ordering.TheVariants.{Less, Equal, Greater}
use Rattle.std.specs.Ordering.{nat_cmp, is_eq}
use Rattle.std.specs.Cmp.Lexicographic.{slice_cmp, nat_list_cmp_total}
use Rattle.std.specs.FinMap as map
use Rattle.std.specs.FinMap.Entries.{length-put, by_order}
use Rattle.std.proofs.lemmas.List.{length-take}
use Rattle.std.proofs.lemmas.List.Sums.{sum_by-cons}
use Rattle.xs_base.specs.Held.{Contents, held}
use Rattle.xs_base.specs.Table.{total}

abbrev Entry : Type 0
Entry = List ℕ × List ℕ

abbrev order : List ℕ → List ℕ → Ordering
order = slice_cmp nat_cmp

abbrev weight : Entry → ℕ
weight entry = length entry.0 + length entry.1

abbrev put : List ℕ → List ℕ → List Entry → List Entry
put k v es = map.put order k v es

abbrev sum_of : List Entry → ℕ
sum_of es = sum_by weight es

sum_of-cons : (e : Entry) (es : List Entry) → sum_of (e ∷ es) ≡ weight e + sum_of es
sum_of-cons e es = sum_by-cons weight e es

-- ---- a name that is new

abbrev NewGrows : List ℕ → List ℕ → List Entry → List Entry → Option (List ℕ) → Type 0
NewGrows k v es now found = found ≡ None → sum_of now ≡ sum_of es + (length k + length v)

new_by : (r : Ordering) (k v : List ℕ) (e : Entry) (es : List Entry) → NewGrows k v es (put k v es) (map.find order k es) → NewGrows k v (e ∷ es) (by_order r ((k, v) ∷ e ∷ es) ((e.0, v) ∷ es) (e ∷ put k v es)) (cond (is_eq r) (Some e.1) (map.find order k es))
new_by Less k v e es ih none = omega (arith, sum_of-cons (k, v) (e ∷ es))
new_by Equal k v e es ih none = absurd (cc)
new_by Greater k v e es ih none = omega (arith, ih none, sum_of-cons e (put k v es), sum_of-cons e es)

sum_of-put_new : (k v : List ℕ) (es : List Entry) → NewGrows k v es (put k v es) (map.find order k es)
sum_of-put_new k v [] none = omega (arith, sum_of-cons (k, v) [])
sum_of-put_new k v (e ∷ es) none = new_by (order k e.0) k v e es (sum_of-put_new k v es) none

-- ---- a name that stands

tail_sorted : (a b : Bool) → T (a && b) → T b
tail_sorted true b h = h
tail_sorted false b h = absurd h

abbrev OldChanges : List ℕ → List ℕ → List ℕ → List Entry → List Entry → Option (List ℕ) → Type 0
OldChanges k v old es now found = found ≡ Some old → sum_of now + length old ≡ sum_of es + length v

-- the list does not grow, so the name is not put before the first entry
old_by : (r : Ordering) (k v old : List ℕ) (e : Entry) (es : List Entry) → OldChanges k v old es (put k v es) (map.find order k es)
    → length (by_order r ((k, v) ∷ e ∷ es) ((e.0, v) ∷ es) (e ∷ put k v es)) ≡ cond (is_some (cond (is_eq r) (Some e.1) (map.find order k es))) (length (e ∷ es)) (length (e ∷ es) + 1)
    → OldChanges k v old (e ∷ es) (by_order r ((k, v) ∷ e ∷ es) ((e.0, v) ∷ es) (e ∷ put k v es)) (cond (is_eq r) (Some e.1) (map.find order k es))
old_by Less k v old e es ih n found = let grown : length ((k, v) ∷ e ∷ es) ≡ length (e ∷ es) = n ∙ ap (λ o. cond (is_some o) (length (e ∷ es)) (length (e ∷ es) + 1)) found in absurd (omega arith)
old_by Equal k v old e es ih n found = let same : e.1 ≡ old = cc in let lengths : length e.1 ≡ length old = ap length same in omega (arith, sum_of-cons (e.0, v) es, sum_of-cons e es)
old_by Greater k v old e es ih n found = omega (arith, ih found, sum_of-cons e (put k v es), sum_of-cons e es)

sum_of-put_old : (k v old : List ℕ) (es : List Entry) → T (map.is_sorted order es) → OldChanges k v old es (put k v es) (map.find order k es)
sum_of-put_old k v old [] h found = absurd (cc)
sum_of-put_old k v old (e ∷ es) h found = old_by (order k e.0) k v old e es (sum_of-put_old k v old es (tail_sorted _ _ h)) (length-put order nat_list_cmp_total k v (e ∷ es) h) found

-- ---- maps

pub total-insert_new : (c : Contents) (k v : List ℕ) → held c k ≡ None → total (map.insert c k v) ≡ total c + (length k + length v)
total-insert_new c k v none = ap sum_of (map.entries-insert nat_list_cmp_total c k v) ∙ sum_of-put_new k v (map.entries c) (sym (map.get-entries c k) ∙ none)

pub total-insert_old : (c : Contents) (k v old : List ℕ) → held c k ≡ Some old → total (map.insert c k v) + length old ≡ total c + length v
total-insert_old c k v old found = ap (λ es. sum_of es + length old) (map.entries-insert nat_list_cmp_total c k v) ∙ sum_of-put_old k v old (map.entries c) (map.entries_sorted c) (sym (map.get-entries c k) ∙ found)

pub len-insert_new : (c : Contents) (k v : List ℕ) → held c k ≡ None → map.len (map.insert c k v) ≡ map.len c + 1
len-insert_new c k v none = map.len-insert nat_list_cmp_total c k v ∙ ap (λ o. cond (is_some o) (map.len c) (map.len c + 1)) none

pub len-insert_old : (c : Contents) (k v old : List ℕ) → held c k ≡ Some old → map.len (map.insert c k v) ≡ map.len c
len-insert_old c k v old found = map.len-insert nat_list_cmp_total c k v ∙ ap (λ o. cond (is_some o) (map.len c) (map.len c + 1)) found

-- ---- a part takes no more than the whole

part_by : (c : Contents) (k v : List ℕ) (n : ℕ) (found : Option (List ℕ)) → held c k ≡ found → (total (map.insert c k (take n v)) ≤ total (map.insert c k v)) × (map.len (map.insert c k (take n v)) ≡ map.len (map.insert c k v))
part_by c k v n None e = (omega (arith, total-insert_new c k v e, total-insert_new c k (take n v) e, length-take n v), len-insert_new c k (take n v) e ∙ sym (len-insert_new c k v e))
part_by c k v n (Some old) e = (omega (arith, total-insert_old c k v old e, total-insert_old c k (take n v) old e, length-take n v), len-insert_old c k (take n v) old e ∙ sym (len-insert_old c k v old e))

pub total-insert_part : (c : Contents) (k v : List ℕ) (n : ℕ) → total (map.insert c k (take n v)) ≤ total (map.insert c k v)
total-insert_part c k v n = (part_by c k v n (held c k) refl).0

pub len-insert_part : (c : Contents) (k v : List ℕ) (n : ℕ) → map.len (map.insert c k (take n v)) ≡ map.len (map.insert c k v)
len-insert_part c k v n = (part_by c k v n (held c k) refl).1
