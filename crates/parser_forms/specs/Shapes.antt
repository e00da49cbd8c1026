-- Forms that are made alike: each with what tells it from its like.
use Rattle.std.specs.Prelude.{ℕ, Bool, true, false, List, Option, Some, None}
use Rattle.es_model.specs.declared.kinds.Semi.{Semi}
use Rattle.es_model.specs.declared.names.Pair.{Pair}
use Rattle.es_model.specs.declared.kinds.FunctionKind.{FunctionKind}
use Rattle.es_model.specs.declared.kinds.MemberKind.{MemberKind}
use Rattle.es_model.specs.Tree as t
use Rattle.es_model.specs.Tree.{Tree}
use Rattle.parser_forms.specs.declared.kinds.Infix.{Infix}
use Rattle.parser_forms.specs.declared.parts.Part.{Part}
use Rattle.parser_forms.specs.declared.parts.Heading.TheVariants as h
use Rattle.parser_forms.specs.declared.pieces.Piece.{Piece}
use Rattle.parser_forms.specs.declared.pieces.Piece.TheVariants as v
use Rattle.parser_forms.specs.declared.shapes.Standing.{Standing}
use Rattle.parser_forms.specs.declared.shapes.Empty.{Empty}
use Rattle.parser_forms.specs.declared.shapes.Empty.TheVariants as empties
use Rattle.parser_forms.specs.declared.shapes.Wrapping.{Wrapping}
use Rattle.parser_forms.specs.declared.shapes.Wrapping.TheVariants as w
use Rattle.parser_forms.specs.declared.shapes.Joining.{Joining}
use Rattle.parser_forms.specs.declared.shapes.Joining.TheVariants as j
use Rattle.parser_forms.specs.declared.shapes.Valued.{Valued}
use Rattle.parser_forms.specs.declared.shapes.Valued.TheVariants as values
use Rattle.parser_forms.specs.declared.shapes.Bodied.{Bodied}
use Rattle.parser_forms.specs.declared.shapes.Bodied.TheVariants as bodies
use Rattle.parser_forms.specs.declared.shapes.Stated.{Stated}
use Rattle.parser_forms.specs.declared.shapes.Stated.TheVariants as statements
use Rattle.parser_forms.specs.declared.shapes.Paired.{Paired}
use Rattle.parser_forms.specs.declared.shapes.Paired.TheVariants as pairs
use Rattle.parser_forms.specs.Kept.{Sorted, none}
use Rattle.parser_forms.specs.Parts as p

-- an expression of which nothing is kept as an arrow's head
abbrev pub standing : Sorted t.expression → Standing → Part
standing of known = record { of = of; at = known.at; level = known.level; is_target = known.is_target; is_nullish = known.is_nullish; is_bare_new = known.is_bare_new; has_call = known.has_call; heading = h.Nothing }

-- what has nothing in it
abbrev pub empty : Empty → Piece
empty empties.Nothing = v.Nothing
empty empties.Expressions = v.Expressions none
empty empties.Statements = v.Statements none
empty empties.Members = v.Members none
empty empties.Declarators = v.Declarators none
empty empties.Cases = v.Cases none
empty empties.Head = v.Head p.head_nothing

-- expressions round one, and round two
abbrev pub wrapped : Wrapping → Tree t.expression → Tree t.expression
wrapped (w.SuperIndex at) tree = t.SuperIndex at tree
wrapped w.BareNew tree = t.New tree t.absent
wrapped (w.Update at up prefix) tree = t.Update at up prefix tree
wrapped (w.Before operator at) tree = p.prefix_tree operator at tree

abbrev pub joined : Joining → Tree t.expression → Tree t.expression → Tree t.expression
joined j.Index left right = t.Index left right
joined (j.Operation operator) left right = p.infix_tree operator left right
joined (j.Assign at operator) left right = t.Assign at left operator right

-- statements round an expression, and round an expression and a statement
abbrev pub valued : Valued → Tree t.expression → Tree t.statement
valued (values.Value mark) tree = t.Value tree mark
valued (values.Return at mark) tree = t.Return at (t.present tree) mark
valued (values.Throw mark) tree = t.Throw tree mark

abbrev pub bodied : Bodied → Tree t.expression → Tree t.statement → Tree t.statement
bodied bodies.While test body = t.While test body
bodied bodies.If test body = t.If test body t.absent

-- items of a statement, and of pairs of names
abbrev pub stated : Stated → Tree t.statement → Tree t.item
stated statements.Plain tree = t.Plain tree
stated statements.Exported tree = t.ExportDeclaration tree

abbrev pub paired : Paired → List Pair → Semi → Tree t.item
paired (pairs.Import from) names mark = t.Import from names mark
paired (pairs.ExportFrom from) names mark = t.ExportFrom from names mark
paired pairs.ExportNames names mark = t.ExportNames names mark

-- the kind of a method; in a class it is said whether that has a parent
abbrev pub own_kind : MemberKind → Bool → Option Bool → Bool → FunctionKind
own_kind kind fixed None constructor = p.method_kind kind true false false
own_kind kind fixed (Some derived) constructor = p.method_kind kind fixed constructor derived
