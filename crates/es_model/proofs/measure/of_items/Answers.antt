use Rattle.std.proofs.Common.{sym}
use Rattle.es_model.specs.ModuleView.{item_of}
use Rattle.es_model.proofs.Counts.{counted_mapped}
use Rattle.es_model.proofs.measure.of_items.Goals as goal

pub loop-item-preserved : goal.loop-item-preserved
loop-item-preserved c = rw (c.beside-counts.ensures, c.of_item.ensures, c.loop-item.invariant) (sym (counted_mapped item_of c.args.items.now c.loop-item.item-index c.item-item.result c.item-item.is c.loop-item-test.true))
