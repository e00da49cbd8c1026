use Rattle.std.proofs.Common.{◌≡◌, ℕ, ◌+◌, ◌-◌, List, take, drop, ap, arith}
use Rattle.std.proofs.lemmas.Slice.Eq.{slice_eq-Decides}
use Rattle.std.proofs.lemmas.Bool.Decides.{Decides-eqb}
use Rattle.slot_heap.specs.Texts.{text_of}
use Rattle.slot_heap.proofs.texts.same.Goals as goal

span : (units : List ℕ) (p : ℕ × ℕ) → take (p.0 + p.1 - p.0) (drop p.0 units) ≡ text_of units p
unfolding text_of
span units p = ap (λ n. take n (drop p.0 units)) (omega arith)

pub returns : goal.returns
returns c = slice_eq-Decides Decides-eqb _ _ _ (rw (span _ c.args.a, span _ c.args.b) at c.eq.ensures)
