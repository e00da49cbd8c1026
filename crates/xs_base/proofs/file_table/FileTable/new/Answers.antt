use Rattle.std.proofs.Common.{arith}
use Rattle.xs_base.proofs.Packing.{packed-empty}
use Rattle.xs_base.proofs.file_table.FileTable.new.Goals as goal

pub invariant_of-result : goal.invariant_of-result
invariant_of-result c = record {
  packed = packed-empty _ _ c.in_ok-with_capacity.ensures.items c.in_ok-with_capacity-2.ensures.items;
  bytes_fit = omega (arith, c.in_ok-with_capacity-2.ensures.len);
  names_fit = omega (arith, c.in_ok-with_capacity.ensures.len);
  bytes_reserved = c.in_ok-with_capacity-2.ensures.capacity;
  names_reserved = c.in_ok-with_capacity.ensures.capacity;
}
