use Rattle.xs_base.proofs.Packing.{standing_fits}
use Rattle.xs_base.proofs.mem_files.put_standing.Goals as goal

pub put-requires : goal.put-requires
put-requires c = standing_fits _ _ _ _ _ c.in-Some.ensures.part c.requires
