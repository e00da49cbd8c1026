-- The store of what was read: a list of values, the last one that was read first.
use Rattle.std.specs.Prelude.{◌≡◌, ℕ, Bool, true, false, List, [], ◌∷◌, Option, Some, None}
use Rattle.es_model.specs.declared.names.Identifier.{Identifier}
use Rattle.es_model.specs.declared.names.Pair.{Pair}
use Rattle.es_model.specs.Tree as t
use Rattle.es_model.specs.Tree.{Tree, Text}
use Rattle.parser_forms.specs.declared.parts.Part.{Part}
use Rattle.parser_forms.specs.declared.parts.KeyPart.{KeyPart}
use Rattle.parser_forms.specs.declared.parts.Heading.TheVariants as h
use Rattle.parser_forms.specs.declared.pieces.Piece.{Piece}
use Rattle.parser_forms.specs.declared.pieces.Piece.TheVariants as v
use Rattle.parser_forms.specs.Kept.{Sorted}
use Rattle.parser_forms.specs.Parts as p

abbrev pub Pieces : Type 0
Pieces = List Piece

abbrev pub first : Pieces → Piece
first [] = v.Nothing
first (one ∷ more) = one

abbrev pub rest : Pieces → Pieces
rest [] = []
rest (one ∷ more) = more

abbrev pub second : Pieces → Piece
second values = first (rest values)

abbrev pub third : Pieces → Piece
third values = first (rest (rest values))

abbrev pub fourth : Pieces → Piece
fourth values = first (rest (rest (rest values)))

abbrev pub fifth : Pieces → Piece
fifth values = first (rest (rest (rest (rest values))))

-- Each value as one of a kind; one of another kind is read as a thing without a tree, as nothing, or as an empty list.

abbrev pub lost : {s : t.Sort} → Sorted s
lost = record { tree = None; nesting = 0 }

abbrev pub part_in : Piece → Part
part_in (v.Part part) = part
part_in _ = p.plain lost 0 0

abbrev pub expressions_in : Piece → Sorted (t.list t.expression)
expressions_in (v.Expressions list) = list
expressions_in _ = lost

abbrev pub statement_in : Piece → Sorted t.statement
statement_in (v.Statement one) = one
statement_in _ = lost

abbrev pub statements_in : Piece → Sorted (t.list t.statement)
statements_in (v.Statements list) = list
statements_in _ = lost

abbrev pub members_in : Piece → Sorted (t.list t.member)
members_in (v.Members list) = list
members_in _ = lost

abbrev pub declarators_in : Piece → Sorted (t.list t.declarator)
declarators_in (v.Declarators list) = list
declarators_in _ = lost

abbrev pub cases_in : Piece → Sorted (t.list t.case)
cases_in (v.Cases list) = list
cases_in _ = lost

abbrev pub items_in : Piece → Sorted (t.list t.item)
items_in (v.Items list) = list
items_in _ = lost

abbrev pub head_in : Piece → Sorted t.head
head_in (v.Head head) = head
head_in _ = lost

abbrev pub key_in : Piece → KeyPart
key_in (v.Key key) = key
key_in _ = record { of = lost; is_constructor = false }

abbrev pub name_in : Piece → Identifier
name_in (v.Name one) = one
name_in _ = record { at = 0; name = [] }

abbrev pub names_in : Piece → List Identifier
names_in (v.Names list) = list
names_in _ = []

abbrev pub text_in : Piece → Text
text_in (v.Text text) = text
text_in _ = []

abbrev pub texts_in : Piece → List Text
texts_in (v.Texts list) = list
texts_in _ = []

abbrev pub pairs_in : Piece → List Pair
pairs_in (v.Pairs list) = list
pairs_in _ = []

-- What may be left out.

abbrev pub given_expression : Piece → Option (Sorted t.expression)
given_expression (v.Part part) = Some part.of
given_expression _ = None

abbrev pub given_statements : Piece → Option (Sorted (t.list t.statement))
given_statements (v.Statements list) = Some list
given_statements _ = None

abbrev pub given_name : Piece → Option Identifier
given_name (v.Name one) = Some one
given_name _ = None

-- the parent of a class, which a derived one has, and the values under it
abbrev pub parent_in : Bool → Pieces → Option (Sorted t.expression)
parent_in true values = Some (part_in (first values)).of
parent_in false values = None

abbrev pub under_parent : Bool → Pieces → Pieces
under_parent true values = rest values
under_parent false values = values

-- names were found, and are the first value in the place of the expression that listed them; or there are none, and the expression is dropped
abbrev pub Finds : Bool → Option (List Identifier) → Pieces → Pieces → Type 0
Finds true names old new = (list : List Identifier) × ((names ≡ Some list) × (new ≡ v.Names list ∷ rest old))
Finds false names old new = (names ≡ None) × (new ≡ rest old)
