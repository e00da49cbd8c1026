use Rattle.std.proofs.Common.{◌≡◌, ◌+◌, ◌≤◌, length}
use Rattle.slot_heap.proofs.Makes.{Filling}
use Rattle.slot_heap.proofs.Written.{Sound}
use Rattle.slot_heap.proofs.slots.Slots.make.Given as goal

abbrev pub invariant-loop-i : goal.invariant-loop-i
invariant-loop-i l = record {
  filling : Filling l.fn.self l.r.0 l.fn.kind l.fn.prototype.0 l._i l.last.0 l.self;
  sound : Sound l.fn.self;
  same_reserved : l.self.reserved ≡ l.fn.self.reserved;
  room : length l.fn.self.ram + (1 + l.internals) ≤ l.fn.self.reserved;
}
