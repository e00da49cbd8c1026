-- Booting a set of modules by the byte machine.
use Rattle.std.specs.Prelude.{ℕ, List}
use Rattle.byte_code.specs.declared.records.Modules.{Modules}
use Rattle.js_value.specs.Value.{Text}
use Rattle.es_ops.specs.State.{Limits}
use Rattle.es_ops.specs.Boot.{Ending, boot as boot_by}
use Rattle.es_rows.specs.BuiltIns.{row}
use Rattle.es_rows.specs.Start.{start}
use Rattle.es_machine.specs.Tables.{sorts_in}
use Rattle.es_machine.specs.Bodies.{engine}

-- from the realm on, with at most so many steps for each body and each call from outside
unfoldable pub boot : Modules → (most : ℕ) → (preloads : List Text) → (of_preloads : Limits) → (main : Text) → (input : List ℕ) → Limits → Ending
boot table most preloads of_preloads main input limits =
    boot_by (engine table row most) preloads (start (sorts_in table) table.names of_preloads) main input limits
