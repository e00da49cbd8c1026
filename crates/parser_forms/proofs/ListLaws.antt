-- A list of the code with one more behind it, as a tree.
use Rattle.std.proofs.Common.{◌≡◌, ap, refl, List, [], ◌∷◌, ◌++◌}
use Rattle.std.specs.Prelude.{map}
use Rattle.es_model.specs.Tree as t
use Rattle.es_model.specs.Tree.{Tree, listed}
use Rattle.parser_forms.specs.Kept.{followed}

-- of trees that contracts see as they are
pub listed_last : {s : t.Sort} (list : List (Tree s)) (last : Tree s) → listed (list ++ last ∷ []) ≡ followed (listed list) last
listed_last [] last = refl
listed_last (one ∷ list) last = ap (t.more one) (listed_last list last)

-- of trees that contracts see by a function
pub mapped_last : {s : t.Sort} {A : Type 0} (f : A → Tree s) (list : List A) (last : A) → listed (map f (list ++ last ∷ [])) ≡ followed (listed (map f list)) (f last)
mapped_last f [] last = refl
mapped_last f (one ∷ list) last = ap (t.more (f one)) (mapped_last f list last)
