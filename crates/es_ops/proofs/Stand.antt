-- An act that stands is one that holds only values of the profile and of things that stand, so its runs leave well-formed worlds.
use Rattle.std.proofs.Common.{ℕ, length, le_refl, le_trans}
use Rattle.es_ops.specs.State.{State}
use Rattle.es_ops.specs.Act.{Act, Give, Throw, Halt, Turn, Ask, Do, Call, Try, Calls, run}
use Rattle.es_ops.specs.Laws.{IsActBelow, IsWorldWellFormed, IsRanWellFormed, CallsWell}
use Rattle.es_ops.proofs.WellFormedRuns.{run_well}
use Rattle.es_ops.specs.Standing.{Below, Stands}
use Rattle.es_ops.proofs.Diagonal.{value_left, values_left, if_value_left, question_left, deed_left, value_both, reply_both, answer_both, completion_both}
use Rattle.es_ops.proofs.Parts.{shape_of}

pub stands_below : (m : ℕ) (a : Act) → Stands m a → IsActBelow m a
stands_below m (Give v) h = value_left (Below m) m (λ a b r. r.1) v v (shape_of (h m (le_refl m)))
stands_below m (Throw v) h = value_left (Below m) m (λ a b r. r.1) v v (shape_of (h m (le_refl m)))
stands_below m (Halt stop) h = tt
stands_below m (Turn p) h = stands_below m p (λ n le. shape_of (h n le))
stands_below m (Ask q k) h = (question_left (Below m) m (λ a b r. r.1) q q (shape_of (h m (le_refl m))).0, λ n le r b. stands_below n (k r) (λ i l. (shape_of (h i (le_trans le l))).1 r r (reply_both n i l q r b)))
stands_below m (Do d k) h = (deed_left (Below m) m (λ a b r. r.1) d d (shape_of (h m (le_refl m))).0, λ n le a b. stands_below n (k a) (λ i l. (shape_of (h i (le_trans le l))).1 a a (answer_both n i l d a b)))
stands_below m (Call f t vs x k) h =
    let s = shape_of (h m (le_refl m)) in
    (value_left (Below m) m (λ a b r. r.1) f f s.0, value_left (Below m) m (λ a b r. r.1) t t s.1, values_left (Below m) m (λ a b r. r.1) vs vs s.2, if_value_left (Below m) m (λ a b r. r.1) x x s.3, λ n le v b. stands_below n (k v) (λ i l. (shape_of (h i (le_trans le l))).4 v v (value_both n i l v b)))
stands_below m (Try f t vs x k) h =
    let s = shape_of (h m (le_refl m)) in
    (value_left (Below m) m (λ a b r. r.1) f f s.0, value_left (Below m) m (λ a b r. r.1) t t s.1, values_left (Below m) m (λ a b r. r.1) vs vs s.2, if_value_left (Below m) m (λ a b r. r.1) x x s.3, λ n le c b. stands_below n (k c) (λ i l. (shape_of (h i (le_trans le l))).4 c c (completion_both n i l c b)))

pub stands_well : (c : Calls) → CallsWell c → (a : Act) (s : State) → IsWorldWellFormed s.world → Stands (length s.world.heap.store) a → IsRanWellFormed (length s.world.heap.store) (run c a s)
stands_well c well a s h b = run_well c well a s h (stands_below (length s.world.heap.store) a b)
