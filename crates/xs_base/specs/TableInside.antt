-- How a table keeps its files.
use Rattle.std.specs.Prelude.{◌≤◌, vec_len, vec_capacity}
use Rattle.xs_base.specs.Packed.{IsPacked}
use Rattle.xs_base.specs.declared.file_table.FileTable.TheInside.{Inside}

-- The limits are kept, and so much is reserved.
pub record IsTable (a : Inside) : Type 0 where
  pub packed : IsPacked a.extents.items a.bytes.items
  pub bytes_fit : vec_len a.bytes ≤ a.room
  pub names_fit : vec_len a.extents ≤ a.names
  pub bytes_reserved : a.room ≤ vec_capacity a.bytes
  pub names_reserved : a.names ≤ vec_capacity a.extents
