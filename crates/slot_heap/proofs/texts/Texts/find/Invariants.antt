use Rattle.std.specs.Prelude.{◌≢◌, ℕ, ◌-◌, ◌<◌, ◌≤◌, length}
use Rattle.slot_heap.specs.Texts.{word_of, text_of}
use Rattle.slot_heap.proofs.texts.Texts.find.Given as goal

abbrev pub invariant-loop-at : goal.invariant-loop-at
invariant-loop-at l = (l.at ≤ length l.self.names) × ((n : ℕ) → n < l.at → word_of l.self n ≢ text_of l.self.units l.span)

abbrev pub decreases-loop-at : goal.decreases-loop-at
decreases-loop-at l = length l.self.names - l.at
