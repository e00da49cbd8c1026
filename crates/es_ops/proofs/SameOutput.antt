-- Two runs over worlds of other numbers and other ledgers write the same, where neither is stopped by a limit of its ledger.
use Rattle.std.proofs.Common.{◌≡◌, ℕ, ◌<◌, inl, inr, List, [], ◌∷◌, length, set, get_or, replicate, arith, refl, sym, ap, ◌∙◌, subst, length-set}
use Rattle.std.proofs.lemmas.Bool.{cases_eq}
use Rattle.std.proofs.lemmas.List.{get_or-set_same, get_or-set_other, length-replicate}
use Rattle.es_ops.specs.State.{State}
use Rattle.es_ops.specs.Ledger.{Stop, Budget, Depth, OutOf, NoHost}
use Rattle.es_ops.specs.Act.{Act, Calls, run, Ran, Ends, Halts}
use Rattle.es_ops.specs.Laws.{state_of, IsAlikeState, EndAlikeUnlessFull}
use Rattle.es_ops.proofs.TwoLedgers.{CallAlikeUnlessFull, ledgers_alike}
use Rattle.es_ops.specs.Related.{IsOneToOne}
use Rattle.es_ops.specs.Renaming.{Pairs, named, Kept, BothSides, BothRan, BothCalling}
use Rattle.es_ops.proofs.AppliesRelated.{runs_related}

-- ---- the costs of first writes, carried over to the other numbers

abbrev pub costs_for : Pairs → List ℕ → ℕ → List ℕ
costs_for [] cs n = replicate n 0
costs_for (p ∷ ps) cs n = set (costs_for ps cs n) p.1 (get_or cs p.0 0)

costs_length : (ps : Pairs) (cs : List ℕ) (n : ℕ) → length (costs_for ps cs n) ≡ n
costs_length [] cs n = length-replicate n 0
costs_length (p ∷ ps) cs n = length-set (costs_for ps cs n) p.1 (get_or cs p.0 0) ∙ costs_length ps cs n

head_carried : (x y : ℕ) (ps : Pairs) (cs : List ℕ) (l m n : ℕ) → y < l → m ≡ x → n ≡ y → get_or cs m 0 ≡ get_or (costs_for ((x, y) ∷ ps) cs l) n 0
head_carried x y ps cs l m n b i j = let e = costs_length ps cs l in rw (i, j) (sym (get_or-set_same (costs_for ps cs l) y (get_or cs x 0) 0 (omega (arith, e, b))))

costs_carried : (ps : Pairs) (cs : List ℕ) (l : ℕ) → IsOneToOne (named ps) → ((m n : ℕ) → named ps m n → n < l) → (m n : ℕ) → named ps m n → get_or cs m 0 ≡ get_or (costs_for ps cs l) n 0
costs_carried [] cs l one stand m n h = absurd h
costs_carried (p ∷ ps) cs l one stand m n (inl h) = head_carried p.0 p.1 ps cs l m n (stand p.0 p.1 (inl (refl, refl))) h.0 h.1
costs_carried (p ∷ ps) cs l one stand m n (inr h) = elim (cases_eq n p.1) [
  | inl e ↦ head_carried p.0 p.1 ps cs l m n (stand p.0 p.1 (inl (refl, refl))) (one.back m p.0 n (inr h) (subst (λ x. named (p ∷ ps) p.0 x) (sym e) (inl (refl, refl)))) e
  | inr d ↦ costs_carried ps cs l tail (λ i j x. stand i j (inr x)) m n h ∙ sym (get_or-set_other (costs_for ps cs l) p.1 n (get_or cs p.0 0) 0 d)
]
  where
    tail : IsOneToOne (named ps)
    tail = record { forth = λ i j k x y. one.forth i j k (inr x) (inr y); back = λ i j k x y. one.back i j k (inr x) (inr y) }

-- ---- the same trace

abbrev pub TraceUnlessFull : Ran → Ran → Type 0
TraceUnlessFull (Halts (OutOf full) s) y = Unit {0}
TraceUnlessFull x (Halts (OutOf full) t) = Unit {0}
TraceUnlessFull x y = (state_of x).world.trace ≡ (state_of y).world.trace

trace_of : (s t u : State) → s.world.trace ≡ t.world.trace → IsAlikeState t u → s.world.trace ≡ u.world.trace
trace_of s t u e h = e ∙ sym (ap (λ w. w.trace) h.worlds)

halted : (s t : State) (z : Stop) (y : Ran) → s.world.trace ≡ t.world.trace → EndAlikeUnlessFull (Halts z t) y → TraceUnlessFull (Halts z s) y
halted s t (OutOf full) y e g = tt
halted s t Budget (Ends c u) e g = absurd g
halted s t Budget (Halts (OutOf full) u) e g = tt
halted s t Budget (Halts Budget u) e g = trace_of s t u e g.1
halted s t Budget (Halts Depth u) e g = trace_of s t u e g.1
halted s t Budget (Halts NoHost u) e g = trace_of s t u e g.1
halted s t Depth (Ends c u) e g = absurd g
halted s t Depth (Halts (OutOf full) u) e g = tt
halted s t Depth (Halts Budget u) e g = trace_of s t u e g.1
halted s t Depth (Halts Depth u) e g = trace_of s t u e g.1
halted s t Depth (Halts NoHost u) e g = trace_of s t u e g.1
halted s t NoHost (Ends c u) e g = absurd g
halted s t NoHost (Halts (OutOf full) u) e g = tt
halted s t NoHost (Halts Budget u) e g = trace_of s t u e g.1
halted s t NoHost (Halts Depth u) e g = trace_of s t u e g.1
halted s t NoHost (Halts NoHost u) e g = trace_of s t u e g.1

joined : (ps : Pairs) (x z y : Ran) → BothRan ps x z → EndAlikeUnlessFull z y → TraceUnlessFull x y
joined ps (Ends c s) (Ends d t) (Ends e u) h g = trace_of s t u h.2.world.trace g.1
joined ps (Ends c s) (Ends d t) (Halts (OutOf full) u) h g = tt
joined ps (Ends c s) (Ends d t) (Halts Budget u) h g = absurd g
joined ps (Ends c s) (Ends d t) (Halts Depth u) h g = absurd g
joined ps (Ends c s) (Ends d t) (Halts NoHost u) h g = absurd g
joined ps (Halts x s) (Halts z t) y h g = rw h.0 (halted s t z y h.1.2.world.trace g)
joined ps (Ends c s) (Halts z t) y h g = absurd h
joined ps (Halts x s) (Ends d t) y h g = absurd h

-- the other world with the ledger of the first, carried over
abbrev pub under : Pairs → State → State → State
under ps s t = record t { world = record t.world { heap = record t.world.heap { ledger = record { used = s.world.heap.ledger.used; room = s.world.heap.ledger.room; first_costs = costs_for ps s.world.heap.ledger.first_costs (length t.world.heap.store) } } } }

-- two states that are the same but for numbers and ledgers
abbrev pub BothButLedgers : Pairs → State → State → Type 0
BothButLedgers ps s t = BothSides ps s (under ps s t)

-- The runs of an act, whose things have other numbers and whose first writes cost something else, write the same.
pub same_output : (c d : Calls) → BothCalling c d → CallAlikeUnlessFull d d → (ps : Pairs) (a b : Act) (s t : State) → Kept ps a b → BothButLedgers ps s t → TraceUnlessFull (run c a s) (run d b t)
same_output c d calls alike ps a b s t k h = joined ps (run c a s) (run d b (under ps s t)) (run d b t) (runs_related c d calls ps a b s (under ps s t) k h) (ledgers_alike d d alike b (under ps s t) t (record { worlds = refl; meter = refl; depth = refl }))
