-- What the worked rows compute: a function of a module's text with its instructions, by the module's own
-- numbers of names; the module is named `m`.
use Rattle.std.specs.Prelude.{ℕ, List, [], ◌∷◌, codes, slice_get, Option, Some, None}
use Rattle.byte_code.specs.declared.instruction.Op.{Op}
use Rattle.es_model.specs.declared.names.Identifier.{Identifier}
use Rattle.es_model.specs.declared.names.Pair.{Pair}
use Rattle.es_model.specs.Tree as t
use Rattle.es_model.specs.Tree.{Tree, Text}
use Rattle.es_model.specs.Functions.{functions}
use Rattle.code_gen.specs.Steps.{Step, Handler}
use Rattle.code_gen.specs.Assembly.{Known, instructions, greatest_height, places_from, place_of_label}
use Rattle.code_gen.specs.Functions.{Function, all_functions}
use Rattle.code_gen.specs.Modules.{number_among, distinct, mentioned_names}

abbrev pub named_at : ℕ → Text → Identifier
named_at at name = record { at = at; name = name }

abbrev pub pair_of : Identifier → Identifier → Pair
pair_of taken given = record { taken = taken; given = given }

pub record Range : Type 0 where
  pub from : ℕ
  pub end : ℕ
  pub target : ℕ

abbrev pub range : ℕ → ℕ → ℕ → Range
range from end target = record { from = from; end = end; target = target }

pub record Body : Type 0 where
  pub instructions : List Op
  pub operands : ℕ
  pub handlers : List Range

abbrev ranges : List Known → List Step → List Range
ranges places [] = []
ranges places (Handler from end target ∷ rest) = range (place_of_label places from) (place_of_label places end) (place_of_label places target) ∷ ranges places rest
ranges places (_ ∷ rest) = ranges places rest

abbrev body_of : List Text → Option Function → Option Body
body_of names None = None
body_of names (Some one) = Some (record {
  instructions = instructions (number_among names) one.steps;
  operands = greatest_height one.steps;
  handlers = ranges (places_from 0 one.steps) one.steps;
})

abbrev coded_in : Tree (t.list t.item) → List Function → ℕ → Option Body
coded_in items all number = body_of (distinct (mentioned_names items (codes "m") all)) (slice_get all number)

-- the code of the function of a number
abbrev pub coded : Tree (t.list t.item) → ℕ → Option Body
coded items number = coded_in items (all_functions items (codes "m") (functions items)) number
