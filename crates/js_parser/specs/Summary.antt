-- What the machine holds of a tree that was read, as functions of the tree.
use Rattle.std.specs.Prelude.{ℕ, Option, Some, None}
use Rattle.es_model.specs.Tree as t
use Rattle.es_model.specs.Tree.{Tree}
use Rattle.es_model.specs.Levels.{level, is_target, is_nullish, is_bare_new, has_call, is_constructor_key}
use Rattle.parser_forms.specs.declared.parts.Part.{Part}
use Rattle.parser_forms.specs.declared.parts.Heading.{Heading}
use Rattle.parser_forms.specs.declared.parts.Heading.TheVariants as h
use Rattle.parser_forms.specs.declared.parts.KeyPart.{KeyPart}
use Rattle.parser_forms.specs.Kept.{Sorted}
use Rattle.js_parser.specs.Cut.{cut}
use Rattle.parser_forms.specs.Parts.{listed_names, enclosed}

-- what an expression is as the head of an arrow
abbrev pub heading : Tree t.expression → Heading
heading (t.Name one) = h.Name one
heading (t.Comma left right) = listed_names (heading left) (heading right)
heading (t.Paren of) = enclosed (heading of)
heading _ = h.Nothing

-- an expression that begins at a place
abbrev pub part_of : ℕ → Tree t.expression → Part
part_of place tree =
    record { of = cut tree; at = place; level = level tree; is_target = is_target tree; is_nullish = is_nullish tree; is_bare_new = is_bare_new tree; has_call = has_call tree; heading = heading tree }

abbrev pub key_of : Tree t.key → KeyPart
key_of key = record { of = cut key; is_constructor = is_constructor_key key }

-- a thing that may be left out
abbrev pub option_of : {s : t.Sort} → Tree (t.option s) → Option (Sorted s)
option_of t.absent = None
option_of (t.present tree) = Some (cut tree)
