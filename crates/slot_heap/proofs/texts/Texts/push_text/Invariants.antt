use Rattle.std.proofs.Common.{◌≡◌, ◌+◌, ◌-◌, ◌≤◌, ◌++◌, true, length, take, drop}
use Rattle.slot_heap.specs.Texts.{Words, text_of, Within}
use Rattle.slot_heap.proofs.texts.Texts.push_text.Given as goal

abbrev pub invariant-loop-at : goal.invariant-loop-at
invariant-loop-at l = record {
  units : l.self.units ≡ l.fn.self.units ++ take (l.at - l.fn.from) (drop l.fn.from (text_of l.fn.self.units l.fn.span));
  count : length l.self.units ≡ length l.fn.self.units + (l.at - l.fn.from);
  rest : ◌≡◌ {A = Words} l.self (record l.fn.self { units = l.self.units });
  stands : Within l.fn.self.units l.fn.span;
  within : l.fn.to ≤ l.fn.span.1;
  room : length l.fn.self.units + (l.fn.to - l.fn.from) ≤ l.fn.self.end;
  is_open : l.fn.self.is_open ≡ true;
}
