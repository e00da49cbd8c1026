-- What a token makes of a state in which a part of an item is due (ECMA-262, 16.2).

use Rattle.std.specs.Prelude.{ℕ, Bool, true, false, ◌||◌, List, [], ◌∷◌, ◌++◌, codes, if◌then◌else◌}
use Rattle.es_model.specs.declared.kinds.Semi.{Semi}
use Rattle.es_model.specs.declared.names.Identifier.{Identifier}
use Rattle.es_model.specs.declared.names.Pair.{Pair}
use Rattle.es_model.specs.declared.token.Token.{Token}
use Rattle.es_model.specs.declared.token.TokenKind.{TokenKind}
use Rattle.es_model.specs.declared.token.TokenKind.TheVariants as k
use Rattle.es_model.specs.Tokens.{same_text}
use Rattle.es_model.specs.Tree as t
use Rattle.es_model.specs.Tree.{Text}
use Rattle.js_parser.specs.declared.words.Word.{Word}
use Rattle.js_parser.specs.declared.words.Word.TheVariants as w
use Rattle.js_parser.specs.Frame as f
use Rattle.js_parser.specs.declared.frame.Role.TheVariants as role
use Rattle.js_parser.specs.ItemFrame as n
use Rattle.js_parser.specs.declared.frame.PairRole.{PairRole}
use Rattle.js_parser.specs.declared.frame.PairRole.TheVariants as pr
use Rattle.js_parser.specs.MemberDue as md
use Rattle.js_parser.specs.ItemDue.{ItemDue}
use Rattle.js_parser.specs.ItemDue as nd
use Rattle.parser_forms.specs.Kept.{Sorted}
use Rattle.parser_forms.specs.Parts as p
use Rattle.js_parser.specs.State.{Frames, State, fail, member_part, item_part, the_word}
use Rattle.js_parser.specs.Begins.{operand, declaration}
use Rattle.js_parser.specs.Settle.{item_end, may}

-- the word `default` as a name, and the word `from` or `as`, which is a name to the tokens
abbrev pub ident : ℕ → Text → Identifier
ident at text = record { at = at; name = text }

abbrev pub default_at : ℕ → Identifier
default_at at = ident at (codes "default")

abbrev pub is_name : Text → TokenKind → Bool
is_name text (k.Name other) = same_text other text
is_name text _ = false

abbrev pub at_name : Text → State → State → TokenKind → State
at_name text then_this otherwise kind = if is_name text kind then then_this else otherwise

-- Imports.

abbrev pub import_word : Frames → Word → State
import_word frames w.LeftBrace = item_part (nd.Pair pr.Import []) frames
import_word frames _ = fail

abbrev pub import_due : Frames → TokenKind → ℕ → Word → State
import_due frames (k.String text) at word = item_part (nd.OtherEnd pr.Import [] text) frames
import_due frames (k.Name text) at word = item_part (nd.ImportNext (record { taken = default_at at; given = ident at text } ∷ [])) frames
import_due frames _ at word = import_word frames word

abbrev pub import_next : Frames → List Pair → TokenKind → Word → State
import_next frames pairs kind w.Comma = item_part (nd.ImportBrace pairs) frames
import_next frames pairs kind _ = at_name (codes "from") (item_part (nd.Other pr.Import pairs) frames) fail kind

abbrev pub import_brace : Frames → List Pair → Word → State
import_brace frames pairs w.LeftBrace = item_part (nd.Pair pr.Import pairs) frames
import_brace frames pairs _ = fail

-- Pairs of names.

abbrev pub pairs_end : Frames → PairRole → List Pair → State
pairs_end frames pr.Import pairs = item_part (nd.From pairs) frames
pairs_end frames (pr.Export from) pairs = item_part (nd.ExportNext from pairs) frames

-- a taken name that is the word `default` is a name of another module
abbrev pub and_outer : PairRole → Bool → PairRole
and_outer pr.Import outer = pr.Import
and_outer (pr.Export from) outer = pr.Export (from || outer)

abbrev pub pair_word : Frames → PairRole → List Pair → ℕ → Word → State
pair_word frames stands pairs at w.RightBrace = pairs_end frames stands pairs
pair_word frames stands pairs at w.Default = item_part (nd.PairAs stands pairs (default_at at) true) frames
pair_word frames stands pairs at _ = fail

abbrev pub pair_due : Frames → PairRole → List Pair → TokenKind → ℕ → Word → State
pair_due frames stands pairs (k.Name text) at word = item_part (nd.PairAs stands pairs (ident at text) false) frames
pair_due frames stands pairs _ at word = pair_word frames stands pairs at word

abbrev pub pair_next : Frames → PairRole → List Pair → Word → State
pair_next frames stands pairs w.Comma = item_part (nd.Pair stands pairs) frames
pair_next frames stands pairs w.RightBrace = pairs_end frames stands pairs
pair_next frames stands pairs _ = fail

-- one name that is both: an import has no name for what is called `default` there
abbrev pub both_names : Frames → PairRole → List Pair → Identifier → Bool → Word → State
both_names frames pr.Import pairs taken true word = fail
both_names frames stands pairs taken outer word = pair_next frames (and_outer stands outer) (pairs ++ record { taken = taken; given = taken } ∷ []) word

abbrev pub given_word : Frames → PairRole → List Pair → Identifier → Bool → ℕ → Word → State
given_word frames (pr.Export from) pairs taken outer at w.Default =
    item_part (nd.PairNext (and_outer (pr.Export from) outer) (pairs ++ record { taken = taken; given = default_at at } ∷ [])) frames
given_word frames _ pairs taken outer at _ = fail

abbrev pub pair_given : Frames → PairRole → List Pair → Identifier → Bool → TokenKind → ℕ → Word → State
pair_given frames stands pairs taken outer (k.Name text) at word =
    item_part (nd.PairNext (and_outer stands outer) (pairs ++ record { taken = taken; given = ident at text } ∷ [])) frames
pair_given frames stands pairs taken outer _ at word = given_word frames stands pairs taken outer at word

-- The other module.

abbrev pub other_due : Frames → PairRole → List Pair → TokenKind → State
other_due frames stands pairs (k.String text) = item_part (nd.OtherEnd stands pairs text) frames
other_due frames stands pairs _ = fail

abbrev pub from_other : PairRole → List Pair → Text → Semi → Sorted t.item
from_other pr.Import pairs from mark = p.bare_item (t.Import from pairs mark)
from_other (pr.Export named) pairs from mark = p.bare_item (t.ExportFrom from pairs mark)

-- Exports.

abbrev pub export_names : Frames → Bool → List Pair → Token → State
export_names frames true pairs token = fail
export_names frames false pairs token = item_end frames (λ mark. p.bare_item (t.ExportNames pairs mark)) (may token) token (the_word token)

abbrev pub export_next : Frames → Bool → List Pair → Token → State
export_next frames from pairs token =
    at_name (codes "from") (item_part (nd.Other (pr.Export from) pairs) frames) (export_names frames from pairs token) token.kind

abbrev pub export_due : Frames → ℕ → Word → State
export_due frames at w.LeftBrace = item_part (nd.Pair (pr.Export false) []) frames
export_due frames at w.Default = item_part (nd.Default at) frames
export_due frames at word = declaration (f.Item n.Export ∷ frames) word at

abbrev pub default_due : Frames → ℕ → Token → Word → State
default_due frames at token w.Function = member_part (md.FunctionName token.at (role.Default at)) frames
default_due frames at token w.Class = member_part (md.ClassName token.at (role.Default at)) frames
default_due frames at token _ = operand (f.Item (n.Default at) ∷ frames) token

abbrev pub item_step : ItemDue → Frames → Token → State
item_step nd.Import frames token = import_due frames token.kind token.at (the_word token)
item_step (nd.ImportNext pairs) frames token = import_next frames pairs token.kind (the_word token)
item_step (nd.ImportBrace pairs) frames token = import_brace frames pairs (the_word token)
item_step (nd.Pair stands pairs) frames token = pair_due frames stands pairs token.kind token.at (the_word token)
item_step (nd.PairAs stands pairs taken outer) frames token =
    at_name (codes "as") (item_part (nd.PairGiven stands pairs taken outer) frames) (both_names frames stands pairs taken outer (the_word token)) token.kind
item_step (nd.PairGiven stands pairs taken outer) frames token = pair_given frames stands pairs taken outer token.kind token.at (the_word token)
item_step (nd.PairNext stands pairs) frames token = pair_next frames stands pairs (the_word token)
item_step (nd.From pairs) frames token = at_name (codes "from") (item_part (nd.Other pr.Import pairs) frames) fail token.kind
item_step (nd.Other stands pairs) frames token = other_due frames stands pairs token.kind
item_step (nd.OtherEnd stands pairs from) frames token = item_end frames (from_other stands pairs from) (may token) token (the_word token)
item_step (nd.ExportNext from pairs) frames token = export_next frames from pairs token
item_step nd.Export frames token = export_due frames token.at (the_word token)
item_step (nd.Default at) frames token = default_due frames at token (the_word token)
