use Rattle.std.proofs.Common.{◌≡◌, map, take}
use Rattle.es_model.specs.Tree.{listed}
use Rattle.es_model.specs.Counted.{counted}
use Rattle.es_model.specs.ModuleView.{item_of}
use Rattle.es_model.proofs.measure.of_items.Given as goal

abbrev pub invariant-loop-item : goal.invariant-loop-item
invariant-loop-item l = l.counts ≡ counted (listed (map item_of (take l.item-index l.items)))
