-- What is held where is es_model's; and a module's own numbering is that of `code_of`.
use Rattle.std.specs.Prelude.{◌≡◌, List, refl}
use Rattle.es_model.specs.Tree as t
use Rattle.es_model.specs.Tree.{Tree, Text}
use Rattle.es_model.specs.Scopes.{Enclosing, Binding}
use Rattle.es_model.specs.FreeNames.{mentions, captured, bound_place}
use Rattle.code_gen.specs.Mentions.{captured_among, frame_of, place_in}
use Rattle.code_gen.specs.Modules.{code_of, own_numbering, compiled}

-- which bindings are captured
pub captured_agrees : (items : Tree (t.list t.item)) (binding : Binding) → captured_among (mentions items) binding ≡ captured items binding
unfolding captured
captured_agrees items binding = refl

-- the place of a binding that a function mentions
pub place_agrees : (items : Tree (t.list t.item)) (round : List Enclosing) (binding : Binding) → place_in (frame_of items round) binding ≡ bound_place items round binding
unfolding captured
place_agrees items round binding = refl

-- the code with a module's own numbers of names
pub compiled_agrees : (items : Tree (t.list t.item)) (name : Text) → compiled items name ≡ code_of items name (own_numbering items name)
compiled_agrees items name = refl
