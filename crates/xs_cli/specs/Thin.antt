-- The texts that the program runs today, and their trees. A thin text is blank, or it imports print from
-- the host and then prints strings, one after another. Own rule, for as long as there is no parser.
use Rattle.std.specs.Prelude.{ℕ, ◌==◌, ◌||◌, ◌&&◌, ◌++◌, Bool, true, false, not, List, [], ◌∷◌, length, Option, Some, None, option_map, codes, nat_le, if◌then◌else◌}
use Rattle.std.specs.List.{list_all}
use Rattle.std.specs.Str.{bytes_eq}
use Rattle.js_value.specs.Text.{units}
use Rattle.es_model.specs.Tree.{Text}
use Rattle.es_model.specs.Tree as t
use Rattle.es_model.specs.Tree.{Tree}
use Rattle.es_model.specs.declared.names.Identifier.{Identifier}
use Rattle.es_model.specs.declared.kinds.Semi.TheVariants.{Written}

abbrev pub is_quote : ℕ → Bool
is_quote byte = byte == 0x22

-- a space or a line feed
abbrev pub is_blank : ℕ → Bool
is_blank byte = byte == 0x20 || byte == 0x0A

-- from 0x20 to 0x7E, and no backslash. (No quote is ever asked about.)
abbrev pub is_plain : ℕ → Bool
is_plain byte = nat_le 0x20 byte && nat_le byte 0x7E && not (byte == 0x5C)

-- ---- a text cut at its double quotes

abbrev pub joined : ℕ → List (List ℕ) → List (List ℕ)
joined byte [] = (byte ∷ []) ∷ []
joined byte (part ∷ parts) = (byte ∷ part) ∷ parts

abbrev pub cut_by : Bool → ℕ → List (List ℕ) → List (List ℕ)
cut_by true byte parts = [] ∷ parts
cut_by false byte parts = joined byte parts

-- the parts before, between and behind the quotes
unfoldable pub parts : List ℕ → List (List ℕ)
parts [] = [] ∷ []
parts (byte ∷ bytes) = cut_by (is_quote byte) byte (parts bytes)

-- ---- tokens with blanks between them

-- The bytes behind the first blanks.
unfoldable pub unblanked : List ℕ → List ℕ
unblanked [] = []
unblanked (byte ∷ bytes) = if is_blank byte then unblanked bytes else byte ∷ bytes

abbrev pub same_first : ℕ → List ℕ → (List ℕ → Bool) → Bool
same_first byte [] rest = false
same_first byte (first ∷ bytes) rest = byte == first && rest bytes

-- A part spells the tokens where it is their text with, in the place of each space, any number of blanks,
-- also none, and any number of them at the end.
unfoldable pub spells : List ℕ → List ℕ → Bool
spells [] part = list_all is_blank part
spells (byte ∷ tokens) part =
    if byte == 0x20 then spells tokens (unblanked part) else same_first byte part (spells tokens)

-- ---- the forms

abbrev pub import_tokens : List ℕ
import_tokens = codes " import { print } from"

-- what ends the import, or a call
abbrev pub end_tokens : Bool → List ℕ
end_tokens false = codes " ;"
end_tokens true = codes " ) ;"

abbrev pub print_tokens : List ℕ
print_tokens = codes " print ("

-- The strings that the rest of a text prints: what stands before the next string ends the import, or the call
-- before, and begins a call.
unfoldable pub strings : (called : Bool) → List (List ℕ) → Option (List Text)
strings called [] = None
strings called (end ∷ []) = if spells (end_tokens called) end then Some [] else None
strings called (between ∷ argument ∷ rest) =
    if spells (end_tokens called ++ print_tokens) between && list_all is_plain argument
    then option_map (λ texts. units argument ∷ texts) (strings true rest)
    else None

-- ---- the trees. An identifier's place is 0 here: no meaning asks for it.

abbrev pub identifier : Text → Identifier
identifier name = record { at = 0; name = name }

abbrev pub host_import : Tree t.item
host_import = t.Import (codes "host") (record { taken = identifier (codes "print"); given = identifier (codes "print") } ∷ []) Written

abbrev pub print_call : Text → Tree t.item
print_call text = t.Plain (t.Value (t.Call (t.Name (identifier (codes "print"))) (t.more (t.String text) t.none)) Written)

unfoldable pub printing : List Text → Tree (t.list t.item)
printing [] = t.none
printing (text ∷ texts) = t.more (print_call text) (printing texts)

abbrev pub module_of : List Text → Tree (t.list t.item)
module_of texts = t.more host_import (printing texts)

-- ---- the whole

-- what a thin text is
pub data Thin : Type 0 where
  Blank : Thin
  Prints : List Text → Thin

abbrev pub whole : List (List ℕ) → Option Thin
whole [] = None
whole (part ∷ []) = if list_all is_blank part then Some Blank else None
whole (head ∷ from ∷ rest) =
    if spells import_tokens head && bytes_eq from (codes "host") then option_map Prints (strings false rest) else None

abbrev pub most_bytes : ℕ
most_bytes = 16000

-- None where the text isn't thin
abbrev pub thin : List ℕ → Option Thin
thin text = if nat_le (length text) most_bytes then whole (parts text) else None

abbrev pub tree_of : Thin → Tree (t.list t.item)
tree_of Blank = t.none
tree_of (Prints texts) = module_of texts

abbrev pub texts_of : Thin → List Text
texts_of Blank = []
texts_of (Prints texts) = texts
