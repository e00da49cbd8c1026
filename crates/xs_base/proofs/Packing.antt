-- Files one after another in one run of bytes, seen as a map from names to contents.
use Rattle.std.proofs.Common.{◌≡◌, ◌↔◌, IsTrue, nat_le, nat_lt, ◌≤◌, ◌<◌, ◌&&◌, ◌+◌, ◌-◌, ◌++◌, ◌∙◌, ℕ, Bool, true, false, cond, List, [], ◌∷◌, length, take, drop, sum_by, Option, Some, None, slice_index_or, ap, ap₂, sym, refl, subst, append_assoc, append-nil, length-append, take-append-drop, arith}
use Rattle.std.specs.Str.{bytes_eq}
use Rattle.std.specs.Bool.{one_answer}
use Rattle.std.specs.Ordering.{nat_cmp}
use Rattle.std.specs.Cmp.Lexicographic.{slice_cmp, nat_list_cmp_total}
use Rattle.std.specs.FinMap as map
use Rattle.std.specs.FinMap.{slice_cmp-IsAntisymmetric, nat_cmp-IsAntisymmetric}
use Rattle.std.proofs.Math.ListN.{set}
use Rattle.std.proofs.lemmas.Bool.Decides.{nat_tests}
use Rattle.std.proofs.lemmas.Map.Text.{is_eq-slice_cmp}
use Rattle.std.proofs.lemmas.Slice.Eq.{bytes_eq-Decides}
use Rattle.std.proofs.lemmas.List.{length-take-le, length-drop, length-set, take_at, take_all, take_more, take-take, take-append-le, drop_at, drop-drop, drop-append-le, drop_more, set_at, get_or_at}
use Rattle.std.proofs.lemmas.List.Sums.{sum_by-cons, sum_by-append, sum_by_push, sum_by_more_le}
use Rattle.xs_base.specs.Held.{Contents, held}
use Rattle.xs_base.specs.Packed.{size, entries_of, contents_of, look, IsPacked, IsPlace}
use Rattle.xs_base.specs.Table.{Table, total, fits}
use Rattle.xs_base.specs.declared.extent.Extent.{Extent}
use Rattle.xs_base.specs.declared.extent.Place.{Place}
use Rattle.std.specs.Option.{option_map}
use Rattle.xs_base.specs.MemFiles.{standing}
use Rattle.xs_base.specs.declared.fails.Fail.{Fail}
use Rattle.xs_base.proofs.Totals.{total-insert_new, total-insert_old, total-insert_part, len-insert_new, len-insert_old, len-insert_part}

abbrev Entries : Type 0
Entries = List (List ℕ × List ℕ)

-- ---- entries and the map of them

bytes_eq-sym : (a b : List ℕ) → bytes_eq a b ≡ bytes_eq b a
bytes_eq-sym a b = one_answer (bytes_eq a b) (bytes_eq b a) (bytes_eq-Decides a b) (λ t. sym ((bytes_eq-Decides b a).0 t), λ e. (bytes_eq-Decides b a).1 (sym e))

find-look : (es : Entries) (q : List ℕ) → map.find (slice_cmp nat_cmp) q es ≡ look q es
find-look [] q = refl
find-look (e ∷ es) q = ap₂ (λ b o. cond b (Some e.1) o) (is_eq-slice_cmp q e.0 ∙ bytes_eq-sym q e.0) (find-look es q)

-- what a map of entries holds is what a scan from the front finds
held-entries : (es : Entries) (q : List ℕ) → held (map.from_entries es) q ≡ look q es
held-entries es q = map.get-from_entries nat_list_cmp_total es q ∙ find-look es q

inserted : (m : Contents) (k v q : List ℕ) → held (map.insert m k v) q ≡ cond (bytes_eq k q) (Some v) (held m q)
inserted m k v q = map.get-insert nat_list_cmp_total m k v q ∙ ap (λ b. cond b (Some v) (held m q)) (is_eq-slice_cmp q k ∙ bytes_eq-sym q k)

-- the first answer, or else the second
abbrev first_of_two : Option (List ℕ) → Option (List ℕ) → Option (List ℕ)
first_of_two None b = b
first_of_two (Some v) b = Some v

look-append : (q : List ℕ) (xs ys : Entries) → look q (xs ++ ys) ≡ first_of_two (look q xs) (look q ys)
look-append q [] ys = refl
look-append q (x ∷ xs) ys = elim (bytes_eq x.0 q) as (λ b. cond b (Some x.1) (look q (xs ++ ys)) ≡ first_of_two (cond b (Some x.1) (look q xs)) (look q ys)) [ true ↦ refl | false ↦ look-append q xs ys ]

other_value : (b : Bool) (v old : List ℕ) (first rest : Option (List ℕ)) → (b ≡ true → first ≡ None) → first_of_two first (cond b (Some v) rest) ≡ cond b (Some v) (first_of_two first (cond b (Some old) rest))
other_value true v old None rest h = refl
other_value true v old (Some x) rest h = let bad : Some x ≡ None = h refl in absurd (cc)
other_value false v old first rest h = refl

-- another content at the first entry of a name
put_middle : (k v old : List ℕ) (xs ys : Entries) → look k xs ≡ None → map.from_entries {R = slice_cmp nat_cmp} (xs ++ (k, v) ∷ ys) ≡ map.insert (map.from_entries (xs ++ (k, old) ∷ ys)) k v
put_middle k v old xs ys none = map.same_map nat_list_cmp_total (slice_cmp-IsAntisymmetric nat_cmp-IsAntisymmetric) _ _ (λ q.
    held-entries (xs ++ (k, v) ∷ ys) q
    ∙ look-append q xs ((k, v) ∷ ys)
    ∙ other_value (bytes_eq k q) v old (look q xs) (look q ys) (λ t. subst (λ p. look p xs ≡ None) ((bytes_eq-Decides k q).0 t) none)
    ∙ sym (inserted (map.from_entries (xs ++ (k, old) ∷ ys)) k v q ∙ ap (λ o. cond (bytes_eq k q) (Some v) o) (held-entries (xs ++ (k, old) ∷ ys) q ∙ look-append q xs ((k, old) ∷ ys))))

-- a new name, last
put_last : (k v : List ℕ) (es : Entries) → look k es ≡ None → map.from_entries {R = slice_cmp nat_cmp} (es ++ (k, v) ∷ []) ≡ map.insert (map.from_entries es) k v
put_last k v es none = map.from_entries_push nat_list_cmp_total (slice_cmp-IsAntisymmetric nat_cmp-IsAntisymmetric) es k v (find-look es k ∙ none)

-- ---- entries of a run of bytes

entries_of-append : (xs ys : List Extent) (h t : List ℕ) → sum_by size xs ≡ length h → entries_of (xs ++ ys) (h ++ t) ≡ entries_of xs h ++ entries_of ys t
entries_of-append [] ys [] t e = refl
entries_of-append [] ys (b ∷ h) t e = absurd (omega arith)
entries_of-append (x ∷ xs) ys h t e =
    let sizes : x.name + x.content + sum_by size xs ≡ length h = sym (sum_by-cons size x xs) ∙ e in
    let name : take x.name (h ++ t) ≡ take x.name h = take-append-le x.name h t (omega arith) in
    let behind : drop x.name (h ++ t) ≡ drop x.name h ++ t = drop-append-le x.name h t (omega arith) in
    let content : take x.content (drop x.name (h ++ t)) ≡ take x.content (drop x.name h) = ap (take x.content) behind ∙ take-append-le x.content (drop x.name h) t (omega (arith, length-drop x.name h)) in
    let rest : drop (x.name + x.content) (h ++ t) ≡ drop (x.name + x.content) h ++ t = drop-append-le (x.name + x.content) h t (omega arith) in
    ap₂ (λ (entry : List ℕ × List ℕ) (es : Entries). entry ∷ es) (ap₂ (λ (a b : List ℕ). (a, b)) name content) (ap (entries_of (xs ++ ys)) rest ∙ entries_of-append xs ys (drop (x.name + x.content) h) t (omega (arith, length-drop (x.name + x.content) h)))

entries_of-cons : (x : Extent) (xs : List Extent) (k v t : List ℕ) → length k ≡ x.name → length v ≡ x.content → entries_of (x ∷ xs) (k ++ (v ++ t)) ≡ (k, v) ∷ entries_of xs t
entries_of-cons x xs k v t a b =
    let content : take x.content (drop x.name (k ++ (v ++ t))) ≡ v = ap (take x.content) (drop_at k (v ++ t) x.name a) ∙ take_at v t x.content b in
    let rest : drop (x.name + x.content) (k ++ (v ++ t)) ≡ t = ap (drop (x.name + x.content)) (sym (append_assoc k v t)) ∙ drop_at (k ++ v) t (x.name + x.content) (length-append k v ∙ ap₂ (λ m n. m + n) a b) in
    ap₂ (λ (entry : List ℕ × List ℕ) (es : Entries). entry ∷ es) (ap₂ (λ (c d : List ℕ). (c, d)) (take_at k (v ++ t) x.name a) content) (ap (entries_of xs) rest)

entries_of-around : (xs ys : List Extent) (x : Extent) (h k v t : List ℕ) → sum_by size xs ≡ length h → length k ≡ x.name → length v ≡ x.content → entries_of (xs ++ x ∷ ys) (h ++ (k ++ (v ++ t))) ≡ entries_of xs h ++ (k, v) ∷ entries_of ys t
entries_of-around xs ys x h k v t e a b = entries_of-append xs (x ∷ ys) h (k ++ (v ++ t)) e ∙ ap (λ es. entries_of xs h ++ es) (entries_of-cons x ys k v t a b)

entries_of-last : (xs : List Extent) (x : Extent) (h k v : List ℕ) → sum_by size xs ≡ length h → length k ≡ x.name → length v ≡ x.content → entries_of (xs ++ x ∷ []) (h ++ (k ++ v)) ≡ entries_of xs h ++ (k, v) ∷ []
entries_of-last xs x h k v e a b = ap (λ (w : List ℕ). entries_of (xs ++ x ∷ []) (h ++ (k ++ w))) (sym (append-nil v)) ∙ entries_of-around xs [] x h k v [] e a b

-- ---- a place

abbrev pub extent_of : List ℕ → List ℕ → Extent
extent_of name content = record { name = length name; content = length content }

entries_at : (es : List Extent) (bytes name : List ℕ) (place : Place) (p : IsPlace es bytes name place) → entries_of es bytes ≡ entries_of p.before p.head ++ (name, p.content) ∷ entries_of p.after p.tail
entries_at es bytes name place p = ap₂ entries_of p.extents_are p.bytes_are ∙ entries_of-around p.before p.after (extent_of name p.content) p.head name p.content p.tail p.head_size refl refl

found_here : (name content : List ℕ) (es : Entries) (first : Option (List ℕ)) → first ≡ None → first_of_two first (look name ((name, content) ∷ es)) ≡ Some content
found_here name content es None e = ap (λ b. cond b (Some content) (look name es)) ((bytes_eq-Decides name name).1 refl)
found_here name content es (Some x) e = absurd (cc)

pub held_at : (es : List Extent) (bytes name : List ℕ) (place : Place) (p : IsPlace es bytes name place) → held (contents_of es bytes) name ≡ Some p.content
held_at es bytes name place p = held-entries (entries_of es bytes) name ∙ ap (look name) (entries_at es bytes name place p) ∙ look-append name (entries_of p.before p.head) ((name, p.content) ∷ entries_of p.after p.tail) ∙ found_here name p.content (entries_of p.after p.tail) (look name (entries_of p.before p.head)) p.unseen

-- the bytes in four parts, joined from the left
joined : (h k v t : List ℕ) → h ++ (k ++ (v ++ t)) ≡ ((h ++ k) ++ v) ++ t
joined h k v t = sym (append_assoc h k (v ++ t)) ∙ sym (append_assoc (h ++ k) v t)

length-three : (h k v : List ℕ) → length ((h ++ k) ++ v) ≡ length h + length k + length v
length-three h k v = length-append (h ++ k) v ∙ ap (λ n. n + length v) (length-append h k)

to_end : (es : List Extent) (bytes name : List ℕ) (place : Place) (p : IsPlace es bytes name place) → take place.end bytes ≡ (p.head ++ name) ++ p.content
to_end es bytes name place p = ap (take place.end) (p.bytes_are ∙ joined p.head name p.content p.tail) ∙ take_at ((p.head ++ name) ++ p.content) p.tail place.end (length-three p.head name p.content ∙ sym p.end)

from_end : (es : List Extent) (bytes name : List ℕ) (place : Place) (p : IsPlace es bytes name place) → drop place.end bytes ≡ p.tail
from_end es bytes name place p = ap (drop place.end) (p.bytes_are ∙ joined p.head name p.content p.tail) ∙ drop_at ((p.head ++ name) ++ p.content) p.tail place.end (length-three p.head name p.content ∙ sym p.end)

to_start : (es : List Extent) (bytes name : List ℕ) (place : Place) (p : IsPlace es bytes name place) → take place.start bytes ≡ p.head ++ name
to_start es bytes name place p = ap (take place.start) (p.bytes_are ∙ sym (append_assoc p.head name (p.content ++ p.tail))) ∙ take_at (p.head ++ name) (p.content ++ p.tail) place.start (length-append p.head name ∙ sym p.start)

-- where the content of a place lies
pub content_at : (es : List Extent) (bytes name : List ℕ) (place : Place) (p : IsPlace es bytes name place) → drop place.start (take place.end bytes) ≡ p.content
content_at es bytes name place p = ap (drop place.start) (to_end es bytes name place p) ∙ drop_at (p.head ++ name) p.content place.start (length-append p.head name ∙ sym p.start)

length_at : (es : List Extent) (bytes name : List ℕ) (place : Place) (p : IsPlace es bytes name place) → length bytes ≡ place.end + length p.tail
length_at es bytes name place p = ap length (p.bytes_are ∙ joined p.head name p.content p.tail) ∙ length-append ((p.head ++ name) ++ p.content) p.tail ∙ ap (λ n. n + length p.tail) (length-three p.head name p.content ∙ sym p.end)

-- the numbers of a place
pub record InOrder (es : List Extent) (bytes : List ℕ) (place : Place) (size : ℕ) : Type 0 where
  pub at : place.at < length es
  pub end : place.end ≡ place.start + size
  pub within : place.end ≤ length bytes

pub in_order : (es : List Extent) (bytes name : List ℕ) (place : Place) (p : IsPlace es bytes name place) → InOrder es bytes place (length p.content)
in_order es bytes name place p = record {
  at = omega (arith, p.at, ap length p.extents_are, length-append p.before (extent_of name p.content ∷ p.after));
  end = omega (arith, p.start, p.end);
  within = omega (arith, length_at es bytes name place p);
}

-- the name of the file at a place
named_at : (es : List Extent) (bytes name : List ℕ) (place : Place) (p : IsPlace es bytes name place) (d : Extent) → (slice_index_or es place.at d).name ≡ length name
named_at es bytes name place p d = ap (λ xs. (slice_index_or xs place.at d).name) p.extents_are ∙ ap (λ (x : Extent). x.name) (get_or_at p.before (extent_of name p.content) p.after d place.at (sym p.at))

-- ---- another content at a place

-- other bytes at the place of a name
pub record Exchanged (es new_es : List Extent) (bytes new_bytes name v : List ℕ) (place : Place) : Type 0 where
  pub extent : Extent
  pub named : extent.name ≡ length name
  pub filled : extent.content ≡ length v
  pub extents_are : new_es ≡ set es place.at extent
  pub bytes_are : new_bytes ≡ take place.start bytes ++ (v ++ drop place.end bytes)

set_here : (es : List Extent) (bytes name : List ℕ) (place : Place) (p : IsPlace es bytes name place) (y : Extent) → set es place.at y ≡ p.before ++ y ∷ p.after
set_here es bytes name place p y = ap (λ xs. set xs place.at y) p.extents_are ∙ set_at p.before (extent_of name p.content) p.after y place.at (sym p.at)

bytes_here : (es : List Extent) (bytes name v : List ℕ) (place : Place) (p : IsPlace es bytes name place) → take place.start bytes ++ (v ++ drop place.end bytes) ≡ p.head ++ (name ++ (v ++ p.tail))
bytes_here es bytes name v place p = ap₂ (λ a b. a ++ (v ++ b)) (to_start es bytes name place p) (from_end es bytes name place p) ∙ append_assoc p.head name (v ++ p.tail)

-- as `put` has it
pub is_exchanged : (es : List Extent) (bytes new_bytes name v : List ℕ) (place : Place) (old : Extent) → IsPlace es bytes name place → old ≡ slice_index_or es place.at old → new_bytes ≡ take place.start bytes ++ (v ++ drop place.end bytes) → Exchanged es (set es place.at (record { name = old.name; content = length v })) bytes new_bytes name v place
is_exchanged es bytes new_bytes name v place old p is b = record {
  extent = record { name = old.name; content = length v };
  named = ap (λ (x : Extent). x.name) is ∙ named_at es bytes name place p old;
  filled = refl;
  extents_are = refl;
  bytes_are = b;
}

pub contents-exchanged : (es new_es : List Extent) (bytes new_bytes name v : List ℕ) (place : Place) → IsPlace es bytes name place → Exchanged es new_es bytes new_bytes name v place → contents_of new_es new_bytes ≡ map.insert (contents_of es bytes) name v
contents-exchanged es new_es bytes new_bytes name v place p x =
    ap map.from_entries (ap₂ entries_of (x.extents_are ∙ set_here es bytes name place p x.extent) (x.bytes_are ∙ bytes_here es bytes name v place p) ∙ entries_of-around p.before p.after x.extent p.head name v p.tail p.head_size (sym x.named) (sym x.filled))
    ∙ put_middle name v p.content (entries_of p.before p.head) (entries_of p.after p.tail) p.unseen
    ∙ ap (λ (entries : Entries). map.insert (map.from_entries entries) name v) (sym (entries_at es bytes name place p))

length-exchanged : (es : List Extent) (bytes name v : List ℕ) (place : Place) (p : IsPlace es bytes name place) → length (take place.start bytes ++ (v ++ drop place.end bytes)) + length p.content ≡ length bytes + length v
length-exchanged es bytes name v place p =
    let new : length (take place.start bytes ++ (v ++ drop place.end bytes)) ≡ length p.head + (length name + (length v + length p.tail)) = ap length (bytes_here es bytes name v place p) ∙ length-append p.head (name ++ (v ++ p.tail)) ∙ ap (λ n. length p.head + n) (length-append name (v ++ p.tail) ∙ ap (λ n. length name + n) (length-append v p.tail)) in
    omega (arith, new, length_at es bytes name place p, p.end)

sizes-exchanged : (es : List Extent) (bytes name : List ℕ) (place : Place) (p : IsPlace es bytes name place) (y : Extent) → y.name ≡ length name → sum_by size (set es place.at y) + length p.content ≡ sum_by size es + y.content
sizes-exchanged es bytes name place p y n =
    let old : sum_by size es ≡ sum_by size p.before + (length name + length p.content + sum_by size p.after) = ap (sum_by size) p.extents_are ∙ sum_by-append size p.before (extent_of name p.content ∷ p.after) ∙ ap (λ m. sum_by size p.before + m) (sum_by-cons size (extent_of name p.content) p.after) in
    let new : sum_by size (set es place.at y) ≡ sum_by size p.before + (y.name + y.content + sum_by size p.after) = ap (sum_by size) (set_here es bytes name place p y) ∙ sum_by-append size p.before (y ∷ p.after) ∙ ap (λ m. sum_by size p.before + m) (sum_by-cons size y p.after) in
    omega arith

pub packed-exchanged : (es new_es : List Extent) (bytes new_bytes name v : List ℕ) (place : Place) → IsPacked es bytes → IsPlace es bytes name place → Exchanged es new_es bytes new_bytes name v place → IsPacked new_es new_bytes
packed-exchanged es new_es bytes new_bytes name v place k p x =
    let c : Contents = contents_of es bytes in
    let found : held (contents_of es bytes) name ≡ Some p.content = held_at es bytes name place p in
    let is : contents_of new_es new_bytes ≡ map.insert (contents_of es bytes) name v = contents-exchanged es new_es bytes new_bytes name v place p x in
    let long : length new_bytes + length p.content ≡ length bytes + length v = ap (λ b. length b + length p.content) x.bytes_are ∙ length-exchanged es bytes name v place p in
    record {
      sizes = omega (arith, long, k.sizes, ap (sum_by size) x.extents_are, sizes-exchanged es bytes name place p x.extent x.named, x.filled);
      total = rw is (omega (arith, long, k.total, total-insert_old (contents_of es bytes) name v p.content found));
      count = rw is (len-insert_old (contents_of es bytes) name v p.content found ∙ k.count ∙ sym (ap length x.extents_are ∙ length-set es place.at x.extent));
    }

-- ---- a new name, last

pub record Added (es new_es : List Extent) (bytes new_bytes name v : List ℕ) : Type 0 where
  pub extents_are : new_es ≡ es ++ extent_of name v ∷ []
  pub bytes_are : new_bytes ≡ (bytes ++ name) ++ v

-- as `put` has it
pub is_added : (es new_es : List Extent) (bytes new_bytes name v : List ℕ) → new_es ≡ es ++ extent_of name v ∷ [] → new_bytes ≡ (bytes ++ name) ++ v → Added es new_es bytes new_bytes name v
is_added es new_es bytes new_bytes name v e b = record { extents_are = e; bytes_are = b }

pub contents-added : (es new_es : List Extent) (bytes new_bytes name v : List ℕ) → IsPacked es bytes → held (contents_of es bytes) name ≡ None → Added es new_es bytes new_bytes name v → contents_of new_es new_bytes ≡ map.insert (contents_of es bytes) name v
contents-added es new_es bytes new_bytes name v k none x =
    ap map.from_entries (ap₂ entries_of x.extents_are (x.bytes_are ∙ append_assoc bytes name v) ∙ entries_of-last es (extent_of name v) bytes name v k.sizes refl refl)
    ∙ put_last name v (entries_of es bytes) (sym (held-entries (entries_of es bytes) name) ∙ none)

pub packed-added : (es new_es : List Extent) (bytes new_bytes name v : List ℕ) → IsPacked es bytes → held (contents_of es bytes) name ≡ None → Added es new_es bytes new_bytes name v → IsPacked new_es new_bytes
packed-added es new_es bytes new_bytes name v k none x =
    let is : contents_of new_es new_bytes ≡ map.insert (contents_of es bytes) name v = contents-added es new_es bytes new_bytes name v k none x in
    let long : length new_bytes ≡ length bytes + length name + length v = ap length x.bytes_are ∙ length-three bytes name v in
    record {
      sizes = omega (arith, long, k.sizes, ap (sum_by size) x.extents_are, sum_by_push size es (extent_of name v));
      total = rw is (omega (arith, long, k.total, total-insert_new (contents_of es bytes) name v none));
      count = rw is (len-insert_new (contents_of es bytes) name v none ∙ ap (λ n. n + 1) k.count ∙ sym (ap length x.extents_are ∙ length-append es (extent_of name v ∷ [])));
    }

-- ---- a scan from the front

pub record Scanned (es : List Extent) (bytes name : List ℕ) (at start : ℕ) : Type 0 where
  pub start_is : start ≡ sum_by size (take at es)
  pub unseen : look name (entries_of (take at es) (take start bytes)) ≡ None

pub Scanned-start : (es : List Extent) (bytes name : List ℕ) → Scanned es bytes name 0 0
Scanned-start es bytes name = record { start_is = refl; unseen = refl }

-- how far the bytes reach
pub scanned_within : (es : List Extent) (bytes name : List ℕ) (at start : ℕ) (e d : Extent) → IsPacked es bytes → Scanned es bytes name at start → at < length es → e ≡ slice_index_or es at d → start + e.name + e.content ≤ length bytes
scanned_within es bytes name at start e d k s h is = omega (arith, k.sizes, s.start_is, sum_by_more_le size es at d h, ap size is)

abbrev name_at : List ℕ → ℕ → Extent → List ℕ
name_at bytes start e = take e.name (drop start bytes)

abbrev content_from : List ℕ → ℕ → Extent → List ℕ
content_from bytes start e = take e.content (drop (start + e.name) bytes)

parts : (bytes : List ℕ) (start : ℕ) (e : Extent) → bytes ≡ take start bytes ++ (name_at bytes start e ++ (content_from bytes start e ++ drop (start + e.name + e.content) bytes))
parts bytes start e =
    sym (take-append-drop start bytes)
    ∙ ap (λ r. take start bytes ++ r) (
    sym (take-append-drop e.name (drop start bytes))
    ∙ ap (λ r. name_at bytes start e ++ r) (
    drop-drop e.name start bytes
    ∙ sym (take-append-drop e.content (drop (start + e.name) bytes))
    ∙ ap (λ r. content_from bytes start e ++ r) (drop-drop e.content (start + e.name) bytes)))

-- the numbers of a file that lies within the bytes
record Fit (bytes : List ℕ) (start : ℕ) (e : Extent) : Type 0 where
  head : length (take start bytes) ≡ start
  name : length (name_at bytes start e) ≡ e.name
  content : length (content_from bytes start e) ≡ e.content

fit : (bytes : List ℕ) (start : ℕ) (e : Extent) → start + e.name + e.content ≤ length bytes → Fit bytes start e
fit bytes start e h = record {
  head = length-take-le start bytes (omega arith);
  name = length-take-le e.name (drop start bytes) (omega (arith, length-drop start bytes));
  content = length-take-le e.content (drop (start + e.name) bytes) (omega (arith, length-drop (start + e.name) bytes));
}

not_here : (name found content : List ℕ) (first : Option (List ℕ)) → first ≡ None → bytes_eq found name ≡ false → first_of_two first (look name ((found, content) ∷ [])) ≡ None
not_here name found content None e f = ap (λ b. cond b (Some content) None) f
not_here name found content (Some x) e f = absurd (cc)

pub Scanned-next : (es : List Extent) (bytes name : List ℕ) (at start : ℕ) (e d : Extent) → IsPacked es bytes → Scanned es bytes name at start → at < length es → e ≡ slice_index_or es at d → bytes_eq (name_at bytes start e) name ≡ false → Scanned es bytes name (at + 1) (start + e.name + e.content)
Scanned-next es bytes name at start e d k s h is f =
    let within : start + e.name + e.content ≤ length bytes = scanned_within es bytes name at start e d k s h is in
    let fits : Fit bytes start e = fit bytes start e within in
    let more : take (at + 1) es ≡ take at es ++ e ∷ [] = take_more es at d h ∙ ap (λ x. take at es ++ x ∷ []) (sym is) in
    let front : take (start + e.name + e.content) bytes ≡ take start bytes ++ (name_at bytes start e ++ content_from bytes start e) = ap (take (start + e.name + e.content)) (parts bytes start e ∙ joined (take start bytes) (name_at bytes start e) (content_from bytes start e) (drop (start + e.name + e.content) bytes)) ∙ take_at ((take start bytes ++ name_at bytes start e) ++ content_from bytes start e) (drop (start + e.name + e.content) bytes) (start + e.name + e.content) (omega (arith, length-three (take start bytes) (name_at bytes start e) (content_from bytes start e), fits.head, fits.name, fits.content)) ∙ append_assoc (take start bytes) (name_at bytes start e) (content_from bytes start e) in
    record {
      start_is = omega (arith, s.start_is, ap (sum_by size) more, sum_by_push size (take at es) e);
      unseen = ap (look name) (ap₂ entries_of more front ∙ entries_of-last (take at es) e (take start bytes) (name_at bytes start e) (content_from bytes start e) (sym s.start_is ∙ sym fits.head) fits.name fits.content) ∙ look-append name (entries_of (take at es) (take start bytes)) ((name_at bytes start e, content_from bytes start e) ∷ []) ∙ not_here name (name_at bytes start e) (content_from bytes start e) (look name (entries_of (take at es) (take start bytes))) s.unseen f;
    }

-- a name that is found
pub Scanned-place : (es : List Extent) (bytes name : List ℕ) (at start : ℕ) (e d : Extent) → IsPacked es bytes → Scanned es bytes name at start → at < length es → e ≡ slice_index_or es at d → bytes_eq (name_at bytes start e) name ≡ true → IsPlace es bytes name (record { at = at; start = start + e.name; end = start + e.name + e.content })
Scanned-place es bytes name at start e d k s h is t =
    let within : start + e.name + e.content ≤ length bytes = scanned_within es bytes name at start e d k s h is in
    let fits : Fit bytes start e = fit bytes start e within in
    let same : name_at bytes start e ≡ name = (bytes_eq-Decides (name_at bytes start e) name).0 t in
    let long : e.name ≡ length name = sym fits.name ∙ ap length same in
    let extent : e ≡ extent_of name (content_from bytes start e) = ap₂ (λ (a b : ℕ). let x : Extent = record { name = a; content = b } in x) long (sym fits.content) in
    record {
      before = take at es;
      after = drop (at + 1) es;
      head = take start bytes;
      content = content_from bytes start e;
      tail = drop (start + e.name + e.content) bytes;
      extents_are = sym (take-append-drop at es) ∙ ap (λ r. take at es ++ r) (drop_more es at d h ∙ ap (λ x. x ∷ drop (at + 1) es) (sym is ∙ extent));
      bytes_are = parts bytes start e ∙ ap (λ r. take start bytes ++ (r ++ (content_from bytes start e ++ drop (start + e.name + e.content) bytes))) same;
      head_size = sym s.start_is ∙ sym fits.head;
      unseen = s.unseen;
      at = sym (length-take-le at es (omega arith));
      start = ap₂ (λ m n. m + n) (sym fits.head) long;
      end = ap₂ (λ m n. m + n) (ap₂ (λ m n. m + n) (sym fits.head) long) (sym fits.content);
    }

-- a name that is nowhere
pub Scanned-none : (es : List Extent) (bytes name : List ℕ) (at start : ℕ) → IsPacked es bytes → Scanned es bytes name at start → length es ≤ at → held (contents_of es bytes) name ≡ None
Scanned-none es bytes name at start k s h =
    let whole : take at es ≡ es = take_all at es h in
    let all : start ≡ length bytes = s.start_is ∙ ap (sum_by size) whole ∙ k.sizes in
    held-entries (entries_of es bytes) name ∙ sym (ap (look name) (ap₂ entries_of whole (take_all start bytes (omega arith)))) ∙ s.unseen

-- ---- the turns by which bytes are exchanged in place

pub exchanged : (bytes new turned short long back : List ℕ) (start end behind : ℕ) → start ≤ end → end ≤ length bytes → behind ≡ length bytes - end
    → turned ≡ drop end bytes ++ take end bytes → short ≡ take (behind + start) turned → long ≡ short ++ new → back ≡ drop behind long ++ take behind long
    → back ≡ take start bytes ++ (new ++ drop end bytes)
exchanged bytes new turned short long back start end behind o w b t s l r =
    let last : length (drop end bytes) ≡ behind = length-drop end bytes ∙ sym b in
    let first : take start (take end bytes) ≡ take start bytes = take-take start end bytes o in
    let three : turned ≡ (drop end bytes ++ take start bytes) ++ drop start (take end bytes) = t ∙ ap (λ x. drop end bytes ++ x) (sym (take-append-drop start (take end bytes)) ∙ ap (λ x. x ++ drop start (take end bytes)) first) ∙ sym (append_assoc (drop end bytes) (take start bytes) (drop start (take end bytes))) in
    let two : short ≡ drop end bytes ++ take start bytes = s ∙ ap (take (behind + start)) three ∙ take_at (drop end bytes ++ take start bytes) (drop start (take end bytes)) (behind + start) (length-append (drop end bytes) (take start bytes) ∙ ap₂ (λ m n. m + n) last (length-take-le start bytes (omega arith))) in
    let all : long ≡ drop end bytes ++ (take start bytes ++ new) = l ∙ ap (λ x. x ++ new) two ∙ append_assoc (drop end bytes) (take start bytes) new in
    r ∙ ap₂ (λ x y. x ++ y) (ap (drop behind) all ∙ drop_at (drop end bytes) (take start bytes ++ new) behind last) (ap (take behind) all ∙ take_at (drop end bytes) (take start bytes ++ new) behind last) ∙ append_assoc (take start bytes) new (drop end bytes)

-- ---- whether a file fits

-- the one thing to show of a content at its place: it takes no more than what is spare and what goes
abbrev pub FitsIn : List Extent → List ℕ → List ℕ → List ℕ → ℕ → ℕ → Type 0
FitsIn es bytes name v room names = (total (map.insert (contents_of es bytes) name v) ≤ room) × (map.len (map.insert (contents_of es bytes) name v) ≤ names)

le_from : (a b : ℕ) → IsTrue (nat_le a b) → a ≤ b
le_from a b t = grind (arith, nat_tests)

le_test : (a b : ℕ) → a ≤ b → IsTrue (nat_le a b)
le_test a b h = grind (arith, nat_tests)

same_by : (r x y : Bool) → (IsTrue r → IsTrue x × IsTrue y) → (IsTrue x → IsTrue y → IsTrue r) → r ≡ (x && y)
same_by true true true f g = refl
same_by true true false f g = sym (f refl).1
same_by true false y f g = sym (f refl).0
same_by false true true f g = g refl refl
same_by false true false f g = refl
same_by false false y f g = refl

-- a test that holds exactly where the two bounds do
pub same_test : (r : Bool) (a b c d : ℕ) → IsTrue r ↔ ((a ≤ b) × (c ≤ d)) → r ≡ (nat_le a b && nat_le c d)
same_test r a b c d h = same_by r (nat_le a b) (nat_le c d) (λ t. let bounds : (a ≤ b) × (c ≤ d) = h.0 t in (le_test a b bounds.0, le_test c d bounds.1)) (λ x y. h.1 (le_from a b x, le_from c d y))

both : (x y : Bool) → IsTrue (x && y) → IsTrue x × IsTrue y
both true true h = (refl, refl)
both true false h = absurd (cc)
both false y h = absurd (cc)

abbrev pub table_of : List Extent → List ℕ → ℕ → ℕ → Table
table_of es bytes room names = record { contents = contents_of es bytes; room = room; names = names }

pub fits_facts : (es : List Extent) (bytes name v : List ℕ) (room names : ℕ) → IsTrue (fits (table_of es bytes room names) name v) → FitsIn es bytes name v room names
fits_facts es bytes name v room names h = let two = both _ _ h in (le_from _ _ two.0, le_from _ _ two.1)

lt_from : (a b : ℕ) → IsTrue (nat_lt a b) → a < b
lt_from a b t = grind (arith, nat_tests)

pub fits_old : (es : List Extent) (bytes name v : List ℕ) (place : Place) (room names size : ℕ) → IsPacked es bytes → IsPlace es bytes name place → size ≡ length bytes → size ≤ room → length es ≤ names → IsTrue (nat_le (length v) (room - size + (place.end - place.start))) ↔ FitsIn es bytes name v room names
fits_old es bytes name v place room names size k p e w n =
    let order : InOrder es bytes place (length p.content) = in_order es bytes name place p in
    let found : held (contents_of es bytes) name ≡ Some p.content = held_at es bytes name place p in
    let grown : total (map.insert (contents_of es bytes) name v) + length p.content ≡ total (contents_of es bytes) + length v = total-insert_old (contents_of es bytes) name v p.content found in
    let count : map.len (map.insert (contents_of es bytes) name v) ≡ map.len (contents_of es bytes) = len-insert_old (contents_of es bytes) name v p.content found in (
      λ t. let small : length v ≤ room - size + (place.end - place.start) = le_from _ _ t in (omega (arith, k.total, order.end, order.within), omega (arith, k.count)),
      λ fits. le_test _ _ (omega (arith, k.total, order.end, order.within, fits.0)),
    )

pub fits_new : (es : List Extent) (bytes name v : List ℕ) (room names size : ℕ) → IsPacked es bytes → held (contents_of es bytes) name ≡ None → size ≡ length bytes → size ≤ room → length es < names → IsTrue (nat_le (length name + length v) (room - size)) ↔ FitsIn es bytes name v room names
fits_new es bytes name v room names size k none e w n =
    let grown : total (map.insert (contents_of es bytes) name v) ≡ total (contents_of es bytes) + (length name + length v) = total-insert_new (contents_of es bytes) name v none in
    let count : map.len (map.insert (contents_of es bytes) name v) ≡ map.len (contents_of es bytes) + 1 = len-insert_new (contents_of es bytes) name v none in (
      λ t. let small : length name + length v ≤ room - size = le_from _ _ t in (omega (arith, k.total), omega (arith, k.count)),
      λ fits. le_test _ _ (omega (arith, k.total, fits.0)),
    )

pub fits_no_more : (es : List Extent) (bytes name v : List ℕ) (room names count : ℕ) → IsPacked es bytes → held (contents_of es bytes) name ≡ None → count ≡ length es → names ≤ count → IsTrue (nat_lt count names) ↔ FitsIn es bytes name v room names
fits_no_more es bytes name v room names count k none e n =
    let more : map.len (map.insert (contents_of es bytes) name v) ≡ map.len (contents_of es bytes) + 1 = len-insert_new (contents_of es bytes) name v none in
    (λ t. let less : count < names = lt_from _ _ t in absurd (omega arith), λ fits. absurd (omega (arith, k.count, fits.1)))

-- what is left to take off and to put on at a place stays within the room
pub room_old : (es : List Extent) (bytes name v : List ℕ) (place : Place) (room : ℕ) → IsPacked es bytes → IsPlace es bytes name place → total (map.insert (contents_of es bytes) name v) ≤ room → length bytes - (place.end - place.start) + length v ≤ room
room_old es bytes name v place room k p h =
    let order : InOrder es bytes place (length p.content) = in_order es bytes name place p in
    let grown : total (map.insert (contents_of es bytes) name v) + length p.content ≡ total (contents_of es bytes) + length v = total-insert_old (contents_of es bytes) name v p.content (held_at es bytes name place p) in
    omega (arith, k.total, order.end, order.within)

pub record RoomNew (es : List Extent) (bytes name v : List ℕ) (room names : ℕ) : Type 0 where
  pub bytes_fit : length bytes + length name + length v ≤ room
  pub names_fit : length es < names

pub room_new : (es : List Extent) (bytes name v : List ℕ) (room names : ℕ) → IsPacked es bytes → held (contents_of es bytes) name ≡ None → total (map.insert (contents_of es bytes) name v) ≤ room → map.len (map.insert (contents_of es bytes) name v) ≤ names → RoomNew es bytes name v room names
room_new es bytes name v room names k none h n = record {
  bytes_fit = omega (arith, k.total, total-insert_new (contents_of es bytes) name v none);
  names_fit = omega (arith, k.count, len-insert_new (contents_of es bytes) name v none);
}

-- ---- the limits

pub record Bounded (es : List Extent) (bytes : List ℕ) (room names : ℕ) : Type 0 where
  pub bytes_fit : length bytes ≤ room
  pub names_fit : length es ≤ names

pub bounded : (es : List Extent) (bytes : List ℕ) (c : Contents) (room names : ℕ) → IsPacked es bytes → contents_of es bytes ≡ c → total c ≤ room → map.len c ≤ names → Bounded es bytes room names
bounded es bytes c room names k e t n = record {
  bytes_fit = omega (arith, k.total, ap total e);
  names_fit = omega (arith, k.count, ap map.len e);
}

none_sum : (es : Entries) → length es ≡ 0 → sum_by (λ entry. length entry.0 + length entry.1) es ≡ 0
none_sum [] e = refl
none_sum (x ∷ es) e = absurd (omega arith)

pub packed-empty : (es : List Extent) (bytes : List ℕ) → es ≡ [] → bytes ≡ [] → IsPacked es bytes
packed-empty es bytes e b =
    let none : contents_of es bytes ≡ map.empty = ap (λ xs. contents_of xs bytes) e in
    let count : map.len (contents_of es bytes) ≡ 0 = ap map.len none ∙ map.len-empty (slice_cmp nat_cmp) (List ℕ) in
    record {
      sizes = ap (sum_by size) e ∙ sym (ap length b);
      total = none_sum (map.entries (contents_of es bytes)) (sym (map.len-entries (contents_of es bytes)) ∙ count) ∙ sym (ap length b);
      count = count ∙ sym (ap length e);
    }

-- ---- a part fits where the whole does

both_test : (x y : Bool) → IsTrue x → IsTrue y → IsTrue (x && y)
both_test true true p q = refl
both_test true false p q = q
both_test false y p q = absurd (cc)

part_fits : (table : Table) (name v : List ℕ) (n : ℕ) → IsTrue (fits table name v) → IsTrue (fits table name (take n v))
part_fits table name v n h =
    let two : IsTrue (nat_le (total (map.insert table.contents name v)) table.room) × IsTrue (nat_le (map.len (map.insert table.contents name v)) table.names) = both _ _ h in
    let bytes : total (map.insert table.contents name v) ≤ table.room = le_from _ _ two.0 in
    let count : map.len (map.insert table.contents name v) ≤ table.names = le_from _ _ two.1 in
    let part_bytes : total (map.insert table.contents name (take n v)) ≤ table.room = omega (arith, total-insert_part table.contents name v n) in
    let part_count : map.len (map.insert table.contents name (take n v)) ≤ table.names = omega (arith, len-insert_part table.contents name v n) in
    both_test _ _ (le_test _ _ part_bytes) (le_test _ _ part_count)

some_part : (table : Table) (name v part : List ℕ) (stands : Option ℕ) → Some part ≡ option_map (λ n. take n v) stands → IsTrue (fits table name v) → IsTrue (fits table name part)
some_part table name v part None e h = absurd (cc)
some_part table name v part (Some n) e h = let same : part ≡ take n v = cc in subst (λ p. IsTrue (fits table name p)) (sym same) (part_fits table name v n h)

pub standing_fits : (table : Table) (name v part : List ℕ) (fail : Option Fail) → Some part ≡ standing fail v → IsTrue (fits table name v) → IsTrue (fits table name part)
standing_fits table name v part None e h = let same : part ≡ v = cc in subst (λ p. IsTrue (fits table name p)) (sym same) h
standing_fits table name v part (Some fail) e h = some_part table name v part fail.stands e h
