-- What is due in an item.
use Rattle.std.specs.Prelude.{ℕ, Bool, List}
use Rattle.es_model.specs.Tree.{Text}
use Rattle.es_model.specs.declared.names.Identifier.{Identifier}
use Rattle.es_model.specs.declared.names.Pair as one
use Rattle.js_parser.specs.declared.frame.PairRole.{PairRole}

pub data ItemDue : Type 0 where
  -- Behind `import`.
  Import : ItemDue
  -- Behind `import` and a name.
  ImportNext : List one.Pair → ItemDue
  -- Behind `import`, a name and a comma: `{`.
  ImportBrace : List one.Pair → ItemDue
  -- A pair, or the end of the list.
  Pair : PairRole → List one.Pair → ItemDue
  -- Behind the first name of a pair; `outer` says that it is the word `default`.
  PairAs : PairRole → List one.Pair → Identifier → Bool → ItemDue
  -- Behind the `as` of a pair.
  PairGiven : PairRole → List one.Pair → Identifier → Bool → ItemDue
  -- Behind a pair with `as`.
  PairNext : PairRole → List one.Pair → ItemDue
  -- The word `from` of an import.
  From : List one.Pair → ItemDue
  -- The name of the other module.
  Other : PairRole → List one.Pair → ItemDue
  -- Behind the name of the other module.
  OtherEnd : PairRole → List one.Pair → Text → ItemDue
  -- Behind the list of an export.
  ExportNext : Bool → List one.Pair → ItemDue
  -- Behind `export`.
  Export : ItemDue
  -- Behind `default`, which begins at a place.
  Default : ℕ → ItemDue
