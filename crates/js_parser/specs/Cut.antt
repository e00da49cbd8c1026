-- What is kept of a tree of any nesting: this is what the machine holds, where the whole tree is what was spelled.
use Rattle.std.specs.Prelude.{ℕ, min, Some, None, nat_le, if◌then◌else◌}
use Rattle.es_model.specs.Tree as t
use Rattle.es_model.specs.Tree.{Tree}
use Rattle.es_model.specs.Nesting.{nesting}
use Rattle.parser_forms.specs.declared.parts.Kept.{Kept}
use Rattle.parser_forms.specs.Kept.{Sorted}

-- a thing of a given nesting
abbrev pub kept_at : {A : Type 0} → ℕ → A → Kept A
kept_at n a = record { tree = if nat_le n 64 then Some a else None; nesting = min n 65 }

abbrev pub cut : {s : t.Sort} → Tree s → Sorted s
cut tree = kept_at (nesting tree) tree
