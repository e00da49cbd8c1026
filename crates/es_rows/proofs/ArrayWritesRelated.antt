-- The methods of Array.prototype that change the receiver are the same but for the numbers of things.
use Rattle.std.proofs.Common.{◌≡◌, ℕ, zero, suc, ◌+◌, ◌-◌, ◌/◌, ◌≤◌, min, nat_lt, List, ◌∷◌, length, drop, refl, ap, arith, lit≤}
use Rattle.js_value.specs.Number.{greatest}
use Rattle.js_value.specs.Value.{Value}
use Rattle.es_ops.specs.Act.{Act, Give}
use Rattle.es_ops.specs.Related.{Naming, BothList, BothEmpty, BothCons, BothValue, BothUndefined, BothNumber, BothObject, Related, BothGive}
use Rattle.es_ops.proofs.Parts.{cond_related}
use Rattle.es_rows.specs.ArrayLikes.{Next, delete_index, set_length}
use Rattle.es_rows.specs.ArrayWrites.{fill, pop_of, pop, give_length, push_items, push, swap_present, swap_absent, swap, reverse, shift_of, shift, move_up_all, unshift_items, unshift_of, unshift, Splicing, place_items, drop_end, move_down, move_up, move_rest, splice_by, delete_count, splice_of, splice}
use Rattle.es_rows.proofs.ArgumentsRelated.{argument_related, BuiltInRelated}
use Rattle.es_rows.proofs.PositionsRelated.{natural, relative_position_related, count_expected_related}
use Rattle.es_rows.proofs.ArrayLikesRelated.{ThenNext, array_like_related, length_in_range_related, get_index_related, if_present_related, set_index_related, set_length_related, delete_index_related, move_index_related, each_related, each_down_related, set_items_related, result_array_related}
use Rattle.es_rows.proofs.ArrayReadsRelated.{copy_range_related}

pub both_length : {R : Naming} {vs ws : List Value} → BothList (BothValue R) vs ws → length vs ≡ length ws
both_length BothEmpty = refl
both_length (BothCons c cs) = ap suc (both_length cs)

pub both_dropped : {R : Naming} (n : ℕ) (vs ws : List Value) → BothList (BothValue R) vs ws → BothList (BothValue R) (drop n vs) (drop n ws)
both_dropped zero vs ws BothEmpty = BothEmpty
both_dropped zero (v ∷ vs) (w ∷ ws) (BothCons c cs) = BothCons c cs
both_dropped (suc n) vs ws BothEmpty = BothEmpty
both_dropped (suc n) (v ∷ vs) (w ∷ ws) (BothCons c cs) = both_dropped n vs ws cs

-- ---- fill, pop, push

pub fill_related : {R : Naming} → BuiltInRelated R fill fill
unfolding fill
fill_related this that vs ws b c =
    array_like_related this that _ _ b (λ m n size r i.
    relative_position_related 0 _ _ size _ _ (lit≤ tt) (argument_related vs ws 1 c) (λ from f.
    relative_position_related size _ _ size _ _ i (argument_related vs ws 2 c) (λ to g.
    each_related size _ _ _ _ (λ at k l j u. set_index_related m n at _ _ k l r (omega (arith, i, j)) (argument_related vs ws 0 c) u) (λ _. BothGive (BothObject r)) (to - from) from (omega (arith, f, g)) tt)))

pop_of_related : {R : Naming} (m n size : ℕ) → R m n → size ≤ greatest → Related R (pop_of m size) (pop_of n size)
pop_of_related m n zero r i = set_length_related m n 0 _ _ r i (λ _. BothGive BothUndefined)
pop_of_related m n (suc last) r i = get_index_related m n last _ _ r (λ v w b. delete_index_related m n last _ _ r (λ _. set_length_related m n last (λ _. Give v) (λ _. Give w) r (omega (arith, i)) (λ _. BothGive b)))

pub pop_related : {R : Naming} → BuiltInRelated R pop pop
unfolding pop
pop_related this that vs ws b c = array_like_related this that _ _ b (λ m n size r i. pop_of_related m n size r i)

give_length_related : {R : Naming} (m n size : ℕ) → R m n → size ≤ greatest → Related R (give_length m size) (give_length n size)
give_length_related m n size r i = set_length_related m n size _ _ r i (λ _. BothGive (BothNumber (natural size i)))

push_items_related : {R : Naming} (m n size count : ℕ) (vs ws : List Value) → R m n → length vs ≤ count → BothList (BothValue R) vs ws → Related R (push_items m size count vs) (push_items n size count ws)
push_items_related m n size count vs ws r l c = length_in_range_related (size + count) _ _ (λ j. set_items_related m n size vs ws _ _ r (omega (arith, j, l)) c (λ _. give_length_related m n (size + count) r j))

pub push_related : {R : Naming} → BuiltInRelated R push push
unfolding push
push_related this that vs ws b c = array_like_related this that _ _ b (λ m n size r i. rw (both_length c) (push_items_related m n size (length ws) vs ws r (let e = both_length c in omega (arith, e)) c))

-- ---- reverse

swap_present_related : {R : Naming} (m n lower upper : ℕ) (v w : Value) (k l : Next) → R m n → lower ≤ greatest → upper ≤ greatest → BothValue R v w → ThenNext R k l → Related R (swap_present m lower upper v k) (swap_present n lower upper w l)
swap_present_related m n lower upper v w k l r i j b h =
    if_present_related m n upper _ _ _ _ r
    (λ x y c. set_index_related m n lower x y _ _ r i c (λ _. set_index_related m n upper v w k l r j b h))
    (λ _. delete_index_related m n lower _ _ r (λ _. set_index_related m n upper v w k l r j b h))

swap_absent_related : {R : Naming} (m n lower upper : ℕ) (k l : Next) → R m n → lower ≤ greatest → ThenNext R k l → Related R (swap_absent m lower upper k) (swap_absent n lower upper l)
swap_absent_related m n lower upper k l r i h = if_present_related m n upper _ _ k l r (λ x y c. set_index_related m n lower x y _ _ r i c (λ _. delete_index_related m n upper k l r h)) h

swap_related : {R : Naming} (m n lower upper : ℕ) (k l : Next) → R m n → lower ≤ greatest → upper ≤ greatest → ThenNext R k l → Related R (swap m lower upper k) (swap n lower upper l)
swap_related m n lower upper k l r i j h = if_present_related m n lower _ _ _ _ r (λ v w b. swap_present_related m n lower upper v w k l r i j b h) (λ _. swap_absent_related m n lower upper k l r i h)

pub reverse_related : {R : Naming} → BuiltInRelated R reverse reverse
unfolding reverse
reverse_related this that vs ws b c =
    array_like_related this that _ _ b (λ m n size r i.
    each_related size _ _ _ _ (λ at k l j u. swap_related m n at (size - suc at) k l r (omega (arith, i, j)) (omega (arith, i, j)) u) (λ _. BothGive (BothObject r)) (size / 2) 0 (omega arith) tt)

-- ---- shift and unshift

shift_of_related : {R : Naming} (m n size : ℕ) → R m n → size ≤ greatest → Related R (shift_of m size) (shift_of n size)
shift_of_related m n zero r i = set_length_related m n 0 _ _ r i (λ _. BothGive BothUndefined)
shift_of_related m n (suc last) r i =
    get_index_related m n 0 _ _ r (λ v w b.
    each_related last _ _ (λ _. delete_last m v) (λ _. delete_last n w) (λ at k l j u. move_index_related m n (suc at) at k l r (omega (arith, i, j)) u)
    (λ _. delete_index_related m n last _ _ r (λ _. set_length_related m n last (λ _. Give v) (λ _. Give w) r (omega (arith, i)) (λ _. BothGive b)))
    last 0 (omega arith) tt)
  where
    delete_last : ℕ → Value → Act
    delete_last o v = delete_index o last (λ _. set_length o last (λ _. Give v))

pub shift_related : {R : Naming} → BuiltInRelated R shift shift
unfolding shift
shift_related this that vs ws b c = array_like_related this that _ _ b (λ m n size r i. shift_of_related m n size r i)

move_up_related : {R : Naming} (m n size count : ℕ) (vs ws : List Value) → R m n → size + count ≤ greatest → length vs ≤ count → BothList (BothValue R) vs ws → Related R (move_up_all m size count vs) (move_up_all n size count ws)
move_up_related m n size count vs ws r i l c =
    each_down_related size _ _ _ _ (λ at k f j u. move_index_related m n at (at + count) k f r (omega (arith, i, j)) u)
    (λ _. set_items_related m n 0 vs ws _ _ r (omega (arith, i, l)) c (λ _. give_length_related m n (size + count) r i) tt) size 0 (omega arith) tt

unshift_items_related : {R : Naming} (m n size count : ℕ) (vs ws : List Value) → R m n → length vs ≤ count → BothList (BothValue R) vs ws → Related R (unshift_items m size count vs) (unshift_items n size count ws)
unshift_items_related m n size count vs ws r l c = length_in_range_related (size + count) _ _ (λ j u. move_up_related m n size count vs ws r j l c)

unshift_of_related : {R : Naming} (vs ws : List Value) (m n size : ℕ) → BothList (BothValue R) vs ws → R m n → size ≤ greatest → Related R (unshift_of vs m size) (unshift_of ws n size)
unshift_of_related vs ws m n size BothEmpty r i = give_length_related m n size r i
unshift_of_related (v ∷ vs) (w ∷ ws) m n size (BothCons c cs) r i = rw (both_length (BothCons c cs)) (unshift_items_related m n size (length (w ∷ ws)) (v ∷ vs) (w ∷ ws) r (let e = both_length cs in omega (arith, e)) (BothCons c cs))

pub unshift_related : {R : Naming} → BuiltInRelated R unshift unshift
unfolding unshift
unshift_related this that vs ws b c = array_like_related this that _ _ b (λ m n size r i. unshift_of_related vs ws m n size c r i)

-- ---- splice

abbrev splicing : (object size start deleted added : ℕ) → List Value → Splicing
splicing object size start deleted added items = record { object = object; size = size; start = start; deleted = deleted; added = added; items = items }

-- the work is within the length, and so is what comes of it
record IsWithin (size start deleted added : ℕ) (items : List Value) : Type 0 where
  part : start + deleted ≤ size
  bound : size ≤ greatest
  after : size - deleted + added ≤ greatest
  all : length items ≤ added

place_items_related : {R : Naming} (m n p q size start deleted added : ℕ) (vs ws : List Value) → R m n → R p q → IsWithin size start deleted added vs → BothList (BothValue R) vs ws → Related R (place_items (splicing m size start deleted added vs) p) (place_items (splicing n size start deleted added ws) q)
place_items_related m n p q size start deleted added vs ws r t i c =
    let part = i.part in let after = i.after in let all = i.all in
    set_items_related m n start vs ws _ _ r (omega (arith, part, after, all)) c (λ _. set_length_related m n (size - deleted + added) _ _ r after (λ _. BothGive (BothObject t))) tt

drop_end_related : {R : Naming} (m n p q size start deleted added : ℕ) (vs ws : List Value) → R m n → R p q → IsWithin size start deleted added vs → BothList (BothValue R) vs ws → Related R (drop_end (splicing m size start deleted added vs) p) (drop_end (splicing n size start deleted added ws) q)
drop_end_related m n p q size start deleted added vs ws r t i c =
    each_down_related (deleted - added + (size - deleted + added)) _ _ _ _ (λ at k l j u. delete_index_related m n at k l r u) (λ _. place_items_related m n p q size start deleted added vs ws r t i c)
    (deleted - added) (size - deleted + added) (omega arith) tt

move_down_related : {R : Naming} (m n p q size start deleted added : ℕ) (vs ws : List Value) → R m n → R p q → IsWithin size start deleted added vs → BothList (BothValue R) vs ws → Related R (move_down (splicing m size start deleted added vs) p) (move_down (splicing n size start deleted added ws) q)
move_down_related m n p q size start deleted added vs ws r t i c =
    let part = i.part in let after = i.after in
    each_related (size - deleted) _ _ _ _ (λ at k l j u. move_index_related m n (at + deleted) (at + added) k l r (omega (arith, after, j)) u) (λ _. drop_end_related m n p q size start deleted added vs ws r t i c)
    (size - deleted - start) start (omega (arith, part)) tt

move_rest_up_related : {R : Naming} (m n p q size start deleted added : ℕ) (vs ws : List Value) → R m n → R p q → IsWithin size start deleted added vs → BothList (BothValue R) vs ws → Related R (move_up (splicing m size start deleted added vs) p) (move_up (splicing n size start deleted added ws) q)
move_rest_up_related m n p q size start deleted added vs ws r t i c =
    let part = i.part in let after = i.after in
    each_down_related (size - deleted) _ _ _ _ (λ at k l j u. move_index_related m n (at + deleted) (at + added) k l r (omega (arith, after, j)) u) (λ _. place_items_related m n p q size start deleted added vs ws r t i c)
    (size - deleted - start) start (omega (arith, part)) tt

move_rest_related : {R : Naming} (m n p q size start deleted added : ℕ) (vs ws : List Value) → R m n → R p q → IsWithin size start deleted added vs → BothList (BothValue R) vs ws → Related R (move_rest (splicing m size start deleted added vs) p) (move_rest (splicing n size start deleted added ws) q)
move_rest_related m n p q size start deleted added vs ws r t i c =
    cond_related (nat_lt added deleted) _ _ _ _ (move_down_related m n p q size start deleted added vs ws r t i c)
    (cond_related (nat_lt deleted added) _ _ _ _ (move_rest_up_related m n p q size start deleted added vs ws r t i c) (place_items_related m n p q size start deleted added vs ws r t i c))

splice_by_related : {R : Naming} (m n size start deleted added other : ℕ) (vs ws : List Value) → added ≡ other → R m n → start + deleted ≤ size → size ≤ greatest → length vs ≤ other → BothList (BothValue R) vs ws → Related R (splice_by (splicing m size start deleted added vs)) (splice_by (splicing n size start deleted other ws))
splice_by_related m n size start deleted added other vs ws e r part bound all c = rw e
    (length_in_range_related (size - deleted + other) _ _ (λ after u. result_array_related deleted _ _ (λ p q t.
    copy_range_related p q m n deleted start _ _ t r (omega (arith, part, bound)) (λ _.
    set_length_related p q deleted _ _ t (omega (arith, part, bound)) (λ _.
    move_rest_related m n p q size start deleted other vs ws r t (record { part = part; bound = bound; after = after; all = all }) c)))))

delete_count_related : {R : Naming} (vs ws : List Value) (behind : ℕ) (k l : ℕ → Act) → BothList (BothValue R) vs ws → ((n : ℕ) → n ≤ behind → Related R (k n) (l n)) → Related R (delete_count vs behind k) (delete_count ws behind l)
delete_count_related vs ws behind k l BothEmpty h = h 0 (omega arith)
delete_count_related (v ∷ vs) (w ∷ ws) behind k l (BothCons c BothEmpty) h = h behind (omega arith)
delete_count_related (v ∷ x ∷ vs) (w ∷ y ∷ ws) behind k l (BothCons c (BothCons d ds)) h = count_expected_related x y _ _ d (λ n i. h (min n behind) (omega arith))

splice_of_related : {R : Naming} (vs ws : List Value) (m n size : ℕ) → BothList (BothValue R) vs ws → R m n → size ≤ greatest → Related R (splice_of vs m size) (splice_of ws n size)
splice_of_related vs ws m n size c r i =
    relative_position_related 0 _ _ size _ _ (lit≤ tt) (argument_related vs ws 0 c) (λ start f.
    delete_count_related vs ws (size - start) _ _ c (λ deleted g.
    let items = both_dropped 2 vs ws c in let e = both_length items in
    splice_by_related m n size start deleted (length (drop 2 vs)) (length (drop 2 ws)) (drop 2 vs) (drop 2 ws) e r (omega (arith, f, g)) i (omega (arith, e)) items))

pub splice_related : {R : Naming} → BuiltInRelated R splice splice
unfolding splice
splice_related this that vs ws b c = array_like_related this that _ _ b (λ m n size r i. splice_of_related vs ws m n size c r i)
