use Rattle.std.proofs.Common.{◌≡◌, ◌++◌, rules, arith}
use Rattle.xs_base.proofs.Packing.{exchanged}
use Rattle.xs_base.proofs.packed.exchange.Goals as goal

pub returns-clause-items : goal.returns-clause-items
returns-clause-items c =
    let long : c.extend_from_slice.new.self.items ≡ c.truncate.new.self.items ++ c.args.new.now = search rules in
    exchanged c.args.bytes.now.items c.args.new.now c.rotate_left.new.self.items c.truncate.new.self.items c.extend_from_slice.new.self.items c.rotate_left-2.new.self.items c.args.start c.args.end _ c.requires.order (omega arith) (omega arith) c.rotate_left.ensures.items c.truncate.ensures.items long c.rotate_left-2.ensures.items
