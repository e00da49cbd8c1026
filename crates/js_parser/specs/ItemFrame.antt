-- A module and what is open in it alone.
use Rattle.std.specs.Prelude.{ℕ}
use Rattle.es_model.specs.Tree as t
use Rattle.parser_forms.specs.Kept.{Sorted}

pub data ItemFrame : Type 0 where
  Module : Sorted (t.list t.item) → ItemFrame
  -- Behind `export`, where a declaration stands.
  Export : ItemFrame
  -- Behind `export default`, where a value stands; `at` is the place of `default`.
  Default : ℕ → ItemFrame
