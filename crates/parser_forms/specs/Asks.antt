-- What the grammar asks of an expression that stands in a form (ECMA-262, 13).
use Rattle.std.specs.Prelude.{ℕ, Bool, List, [], ◌∷◌, Option, Some, None, not, nat_le, ◌&&◌, ◌||◌}
use Rattle.es_model.specs.declared.names.Identifier.{Identifier}
use Rattle.es_model.specs.Levels.{left_level}
use Rattle.parser_forms.specs.declared.kinds.Infix.{Infix}
use Rattle.parser_forms.specs.declared.kinds.Infix.TheVariants as i
use Rattle.parser_forms.specs.declared.parts.Part.{Part}
use Rattle.parser_forms.specs.declared.parts.Heading.{Heading}
use Rattle.parser_forms.specs.declared.parts.Heading.TheVariants as h

-- what an operator's left operand has to be
abbrev pub is_left_of : Infix → Part → Bool
is_left_of (i.Binary operator) left = nat_le (left_level operator) left.level
is_left_of i.In left = nat_le 10 left.level
is_left_of i.InstanceOf left = nat_le 10 left.level
is_left_of i.And left = nat_le 5 left.level
is_left_of i.Or left = nat_le 4 left.level && not left.is_nullish
is_left_of i.Nullish left = left.is_nullish || nat_le 6 left.level
is_left_of i.Comma left = nat_le 1 left.level

-- what a call or a member form is made of, and the callee of a `new`
abbrev pub is_base : Part → Bool
is_base part = nat_le 17 part.level && not part.is_bare_new

abbrev pub is_new_callee : Part → Bool
is_new_callee part = nat_le 17 part.level && not part.has_call

-- the names that a part has as an arrow's head, and those that it lists
abbrev pub head_of : Heading → Option (List Identifier)
head_of (h.Name one) = Some (one ∷ [])
head_of (h.Head names) = Some names
head_of _ = None

abbrev pub list_of : Heading → Option (List Identifier)
list_of (h.Name one) = Some (one ∷ [])
list_of (h.Names names) = Some names
list_of _ = None
