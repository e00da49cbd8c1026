-- Worked rows of the faults, on each side of a limit. The limits of code, places, functions and names are
-- past what is computed here.
use Rattle.std.specs.Prelude.{◌≡◌, ℕ, zero, suc, List, [], ◌∷◌, codes, Some, None, refl}
use Rattle.es_model.specs.declared.kinds.Semi.TheVariants as semi
use Rattle.es_model.specs.Tree as t
use Rattle.es_model.specs.Tree.{Tree, Text}
use Rattle.es_model.specs.Scopes.{gather}
use Rattle.es_model.specs.Functions.{functions, writes_constructor}
use Rattle.es_model.specs.FreeNames.{mentions, free, captured, places, captures}
use Rattle.code_gen.specs.Expressions.{code}
use Rattle.code_gen.specs.Statements.{statement}
use Rattle.code_gen.specs.Faults.{fault, TooManyArguments}

abbrev nulls : ℕ → Tree (t.list t.expression)
nulls zero = t.none
nulls (suc n) = t.more t.Null (nulls n)

-- a call with so many arguments
abbrev calling : ℕ → Tree (t.list t.item)
calling n = t.more (t.Plain (t.Value (t.Call t.Null (nulls n)) semi.Written)) t.none

arguments_255 : fault (calling 255) (codes "m") ≡ None
unfolding functions writes_constructor mentions free captured gather places captures code statement
arguments_255 = refl

arguments_256 : fault (calling 256) (codes "m") ≡ Some TooManyArguments
unfolding functions writes_constructor mentions free captured gather places captures code statement
arguments_256 = refl

abbrev texts : ℕ → List Text
texts zero = [] ∷ []
texts (suc n) = [] ∷ texts n

-- a template with so many values, and one text more
abbrev joining : ℕ → Tree (t.list t.item)
joining n = t.more (t.Plain (t.Value (t.Template (texts n) (nulls n)) semi.Written)) t.none

parts_255 : fault (joining 127) (codes "m") ≡ None
unfolding functions writes_constructor mentions free captured gather places captures code statement
parts_255 = refl

parts_257 : fault (joining 128) (codes "m") ≡ Some TooManyArguments
unfolding functions writes_constructor mentions free captured gather places captures code statement
parts_257 = refl
