-- Where a part of an import or an export is due: what was taken still stands for the tokens.
use Rattle.std.proofs.Common.{◌≡◌, ◌∙◌, sym, ap, refl, ℕ, Bool, true, false, List, [], ◌∷◌, ◌++◌, inl, inr, arith, true≢false}
use Rattle.std.specs.Prelude.{◌||◌, codes}
use Rattle.es_model.specs.declared.names.Identifier.{Identifier}
use Rattle.es_model.specs.declared.names.Pair.{Pair}
use Rattle.es_model.specs.declared.token.Token.{Token}
use Rattle.es_model.specs.declared.token.TokenKind.{TokenKind}
use Rattle.es_model.specs.declared.token.TokenKind.TheVariants as k
use Rattle.es_model.specs.Tree as t
use Rattle.es_model.specs.Tree.{Text}
use Rattle.es_model.specs.Readings as reading
use Rattle.es_model.specs.Readings.{Tokens, Reading, the, name, the_name, is_from}
use Rattle.es_model.specs.Spelling as spelling
use Rattle.es_model.specs.Spelling.{outer_name, imported, exported, exported_from, default_list}
use Rattle.js_parser.specs.declared.words.Word.{Word}
use Rattle.js_parser.specs.declared.words.Word.TheVariants as w
use Rattle.js_parser.specs.Frame as f
use Rattle.js_parser.specs.ItemFrame as n
use Rattle.js_parser.specs.declared.frame.PairRole.{PairRole}
use Rattle.js_parser.specs.declared.frame.PairRole.TheVariants as pr
use Rattle.js_parser.specs.ItemDue.{ItemDue}
use Rattle.js_parser.specs.ItemDue as nd
use Rattle.parser_forms.specs.Parts as p
use Rattle.js_parser.specs.State.{Frames, State, the_word}
use Rattle.js_parser.specs.Settle.{may}
use Rattle.js_parser.specs.ItemSteps.{ident, default_at, is_name, at_name, import_word, import_due, import_next, import_brace, pairs_end, and_outer, pair_word, pair_due, pair_next, both_names, given_word, pair_given, other_due, from_other, export_names, export_due, default_due, item_step}
use Rattle.js_parser.proofs.WordLaws.{Is, kind_is, may_miss_is, may_miss_after_export_is, begins_no_default, no_default_is}
use Rattle.js_parser.proofs.SoundLists.{each_commaed, each_joined, each_last, each_comma, commaed_as, pairs_joined, pairs_commaed}
use Rattle.js_parser.proofs.SoundStates.{Opened, Holds, DueHolds, ItemTaken, PairsTaken, BehindDefault, DefaultTaken, NameTaken, exports}
use Rattle.js_parser.proofs.SoundStatementForms.{read_other, read_export_names}
use Rattle.js_parser.proofs.SoundEnds.{split}
use Rattle.js_parser.proofs.SoundBegins.{operand_holds, declaration_holds}
use Rattle.js_parser.proofs.SoundSettle.{item_end_holds}
use Rattle.js_parser.proofs.SoundMembers.{same_text_is}

-- Words that are names to the tokens.

named_is : (text : Text) (what : TokenKind) → is_name text what ≡ true → what ≡ k.Name text
named_is text (k.Name other) e = ap k.Name (same_text_is other text e)
named_is text (k.Keyword number) e = absurd (true≢false (sym e))
named_is text (k.Number value) e = absurd (true≢false (sym e))
named_is text (k.String other) e = absurd (true≢false (sym e))
named_is text (k.Template first last other) e = absurd (true≢false (sym e))
named_is text (k.Sign number) e = absurd (true≢false (sym e))
named_is text k.End e = absurd (true≢false (sym e))

from_is : (what : TokenKind) → is_name (codes "from") what ≡ is_from what
from_is (k.Name other) = refl
from_is (k.Keyword number) = refl
from_is (k.Number value) = refl
from_is (k.String other) = refl
from_is (k.Template first last other) = refl
from_is (k.Sign number) = refl
from_is k.End = refl

name_by : (P : State → Type 0) (text : Text) (what : TokenKind) (one other : State) → (what ≡ k.Name text → P one) → (is_name text what ≡ false → P other) → P (at_name text one other what)
name_by P text what one other f g = split P (is_name text what) one other (λ e. f (named_is text what e)) g

-- Pairs of names.

abbrev each_of : PairRole → Pair → Reading
each_of pr.Import = imported
each_of (pr.Export from) = exports from

wider : (one : Pair) (from to : Tokens) → exported one from to → exported_from one from to
wider one from to (inl (e, r)) = inl (e, inl r)
wider one from to (inr (mid, r, rest)) = inr (mid, inl r, rest)

exports_as : (from outer : Bool) (one : Pair) (before to : Tokens) → exports from one before to → exports (from || outer) one before to
exports_as true outer one before to r = r
exports_as false true one before to r = wider one before to r
exports_as false false one before to r = r

exports_from : (from : Bool) (one : Pair) (before to : Tokens) → exports from one before to → exported_from one before to
exports_from true one before to r = r
exports_from false one before to r = wider one before to r

pairs_as : (each other : Pair → Reading) → ((one : Pair) (from to : Tokens) → each one from to → other one from to) → (list : List Pair) (from to : Tokens) → spelling.pairs each list from to → spelling.pairs other list from to
pairs_as each other change [] from to h = h
pairs_as each other change (one ∷ []) from to (a, r, rest) = (a, change one from a r, rest)
pairs_as each other change (one ∷ (two ∷ rest)) from to (a, r, (b, c, more)) = (a, change one from a r, (b, c, pairs_as each other change (two ∷ rest) b to more))

-- a pair by one name, and with `as`
one_name_pair : (stands : PairRole) (outer : Bool) (taken : Identifier) (from to : Tokens) → (stands ≡ pr.Import → outer ≡ false) → NameTaken outer taken from to →
    each_of (and_outer stands outer) (record { taken = taken; given = taken }) from to
one_name_pair pr.Import false taken from to h r = inl (refl, r)
one_name_pair pr.Import true taken from to h r = absurd (true≢false (h refl))
one_name_pair (pr.Export true) false taken from to h r = inl (refl, inl r)
one_name_pair (pr.Export true) true taken from to h r = inl (refl, inr r)
one_name_pair (pr.Export false) false taken from to h r = inl (refl, r)
one_name_pair (pr.Export false) true taken from to h r = inl (refl, inr r)

abbrev GivenName : PairRole → Identifier → Reading
GivenName pr.Import one = name one
GivenName (pr.Export from) one = outer_name one

as_pair : (stands : PairRole) (outer : Bool) (taken given_name : Identifier) (from a b to : Tokens) → NameTaken outer taken from a → the_name "as" a b → GivenName stands given_name b to →
    each_of (and_outer stands outer) (record { taken = taken; given = given_name }) from to
as_pair pr.Import false taken given_name from a b to r o g = inr (a, inl r, (b, o, g))
as_pair pr.Import true taken given_name from a b to r o g = inr (a, inr r, (b, o, g))
as_pair (pr.Export true) false taken given_name from a b to r o g = inr (a, inl r, (b, o, g))
as_pair (pr.Export true) true taken given_name from a b to r o g = inr (a, inr r, (b, o, g))
as_pair (pr.Export false) false taken given_name from a b to r o g = inr (a, r, (b, o, g))
as_pair (pr.Export false) true taken given_name from a b to r o g = inr (a, inr r, (b, o, g))

-- one pair more
pairs_more : (stands : PairRole) (outer : Bool) (pairs : List Pair) (one : Pair) (from a to : Tokens) → PairsTaken stands each_commaed pairs from a → each_of (and_outer stands outer) one a to →
    PairsTaken (and_outer stands outer) each_joined (pairs ++ one ∷ []) from to
pairs_more pr.Import outer pairs one from a to (b, begins, inl (c, brace, list)) r = (b, begins, inl (c, brace, each_last imported pairs one c a to list r))
pairs_more pr.Import outer [] one from a to (b, begins, inr h) r = absurd h
pairs_more pr.Import outer (first ∷ rest) one from a to (b, begins, inr (c, before, list)) r = (b, begins, inr (c, before, each_last imported rest one c a to list r))
pairs_more (pr.Export named) outer pairs one from a to (b, begins, (c, brace, list)) r =
    (b, begins, (c, brace, each_last (exports (named || outer)) pairs one c a to (commaed_as (exports named) (exports (named || outer)) (exports_as named outer) pairs c a list) r))

pairs_comma : (stands : PairRole) (pairs : List Pair) (from a to : Tokens) → PairsTaken stands each_joined pairs from a → the "," a to → PairsTaken stands each_commaed pairs from to
pairs_comma pr.Import pairs from a to (b, begins, inl (c, brace, list)) o = (b, begins, inl (c, brace, each_comma imported pairs c a to list o))
pairs_comma pr.Import [] from a to (b, begins, inr h) o = absurd h
pairs_comma pr.Import (first ∷ rest) from a to (b, begins, inr (c, before, list)) o = (b, begins, inr (c, before, each_comma imported rest c a to list o))
pairs_comma (pr.Export named) pairs from a to (b, begins, (c, brace, list)) o = (b, begins, (c, brace, each_comma (exports named) pairs c a to list o))

-- the default name of an import, alone and before a list
default_alone : (pairs : List Pair) (from to : Tokens) → DefaultTaken pairs from to → default_list pairs from to
default_alone [] from to h = absurd h
default_alone (one ∷ []) from to h = (to, h, inl refl)
default_alone (one ∷ (two ∷ rest)) from to h = absurd h

default_before : (pairs : List Pair) (from a b to : Tokens) → DefaultTaken pairs from a → the "," a b → the "{" b to → BehindDefault (each_commaed imported) pairs from to
default_before [] from a b to h c o = absurd h
default_before (one ∷ []) from a b to h c o = (to, (b, (a, h, c), o), refl)
default_before (one ∷ (two ∷ rest)) from a b to h c o = absurd h

default_closed : (list : (Pair → Reading) → List Pair → Reading) → ((each : Pair → Reading) (pairs : List Pair) (from to : Tokens) → list each pairs from to → spelling.pairs each pairs from to) →
    (pairs : List Pair) (from a to : Tokens) → BehindDefault (list imported) pairs from a → the "}" a to → default_list pairs from to
default_closed list change [] from a to h c = absurd h
default_closed list change (one ∷ []) from a to (e, (d, (b, named, comma), brace), r) c = (b, named, inr (d, comma, (e, brace, (a, change imported [] e a r, c))))
default_closed list change (one ∷ (two ∷ rest)) from a to (e, (d, (b, named, comma), brace), r) c = (b, named, (d, comma, (e, brace, (a, change imported (two ∷ rest) e a r, c))))

module _ (whole : Tokens) where
  pairs_end_holds : (list : (Pair → Reading) → List Pair → Reading) → ((each : Pair → Reading) (pairs : List Pair) (from to : Tokens) → list each pairs from to → spelling.pairs each pairs from to) →
      (frames : Frames) (stands : PairRole) (pairs : List Pair) (from a now : Tokens) → Opened whole frames from → PairsTaken stands list pairs from a → the "}" a now → Holds whole (pairs_end frames stands pairs) now
  pairs_end_holds list change frames pr.Import pairs from a now h (b, begins, inl (d, brace, r)) c = (from, h, tt, (b, begins, inl (d, brace, (a, change imported pairs d a r, c))))
  pairs_end_holds list change frames pr.Import pairs from a now h (b, begins, inr r) c = (from, h, tt, (b, begins, inr (default_closed list change pairs b a now r c)))
  pairs_end_holds list change frames (pr.Export named) pairs from a now h (b, begins, (d, brace, r)) c = (from, h, tt, (b, begins, (d, brace, (a, change (exports named) pairs d a r, c))))

  pair_next_holds : (frames : Frames) (stands : PairRole) (pairs : List Pair) (token : Token) (from now : Tokens) (one : Word) → Opened whole frames from → PairsTaken stands each_joined pairs from (token ∷ now) → Is one token.kind →
      Holds whole (pair_next frames stands pairs one) now
  pair_next_holds frames stands pairs token from now w.Comma h taken e = (from, h, tt, pairs_comma stands pairs from (token ∷ now) now taken (e, refl))
  pair_next_holds frames stands pairs token from now w.RightBrace h taken e = pairs_end_holds each_joined pairs_joined frames stands pairs from (token ∷ now) now h taken (e, refl)
  pair_next_holds frames stands pairs token from now _ h taken e = tt

  pair_word_holds : (frames : Frames) (stands : PairRole) (pairs : List Pair) (token : Token) (from now : Tokens) (one : Word) → Opened whole frames from → PairsTaken stands each_commaed pairs from (token ∷ now) → Is one token.kind →
      Holds whole (pair_word frames stands pairs token.at one) now
  pair_word_holds frames stands pairs token from now w.RightBrace h taken e = pairs_end_holds each_commaed pairs_commaed frames stands pairs from (token ∷ now) now h taken (e, refl)
  pair_word_holds frames stands pairs token from now w.Default h taken e = (from, h, tt, (token ∷ now, taken, (refl, (refl, (e, refl)))))
  pair_word_holds frames stands pairs token from now _ h taken e = tt

  pair_due_holds : (frames : Frames) (stands : PairRole) (pairs : List Pair) (token : Token) (from now : Tokens) (what : TokenKind) (one : Word) → Opened whole frames from → PairsTaken stands each_commaed pairs from (token ∷ now) →
      token.kind ≡ what → Is one token.kind → Holds whole (pair_due frames stands pairs what token.at one) now
  pair_due_holds frames stands pairs token from now (k.Name text) one h taken q e = (from, h, tt, (token ∷ now, taken, ((q, refl), refl)))
  pair_due_holds frames stands pairs token from now _ one h taken q e = pair_word_holds frames stands pairs token from now one h taken e

  both_names_hold : (frames : Frames) (stands : PairRole) (pairs : List Pair) (taken : Identifier) (outer : Bool) (token : Token) (from now : Tokens) (one : Word) → Opened whole frames from →
      ItemTaken (nd.PairAs stands pairs taken outer) from (token ∷ now) → Is one token.kind → Holds whole (both_names frames stands pairs taken outer one) now
  both_names_hold frames pr.Import pairs taken true token from now one h r e = tt
  both_names_hold frames pr.Import pairs taken false token from now one h (a, before, named) e =
      pair_next_holds frames pr.Import (pairs ++ record { taken = taken; given = taken } ∷ []) token from now one h
      (pairs_more pr.Import false pairs (record { taken = taken; given = taken }) from a (token ∷ now) before (one_name_pair pr.Import false taken a (token ∷ now) (λ q. refl) named)) e
  both_names_hold frames (pr.Export other) pairs taken outer token from now one h (a, before, named) e =
      pair_next_holds frames (and_outer (pr.Export other) outer) (pairs ++ record { taken = taken; given = taken } ∷ []) token from now one h
      (pairs_more (pr.Export other) outer pairs (record { taken = taken; given = taken }) from a (token ∷ now) before (one_name_pair (pr.Export other) outer taken a (token ∷ now) (λ q. absurd (no_import q)) named)) e
    where
      no_import : {from : Bool} → pr.Export from ≡ pr.Import → ⊥
      no_import e = grind arith

  given_word_holds : (frames : Frames) (stands : PairRole) (pairs : List Pair) (taken : Identifier) (outer : Bool) (token : Token) (from now : Tokens) (one : Word) → Opened whole frames from →
      ItemTaken (nd.PairGiven stands pairs taken outer) from (token ∷ now) → Is one token.kind → Holds whole (given_word frames stands pairs taken outer token.at one) now
  given_word_holds frames (pr.Export other) pairs taken outer token from now w.Default h (b, (a, before, named), sign) e = (
    from,
    h,
    tt,
    pairs_more (pr.Export other) outer pairs (record { taken = taken; given = default_at token.at }) from a now before
        (as_pair (pr.Export other) outer taken (default_at token.at) a b (token ∷ now) now named sign (inr (refl, (refl, (e, refl))))),
  )
  given_word_holds frames _ pairs taken outer token from now _ h r e = tt

  given_name : (stands : PairRole) (token : Token) (text : Text) (now : Tokens) → token.kind ≡ k.Name text → GivenName stands (ident token.at text) (token ∷ now) now
  given_name pr.Import token text now e = ((e, refl), refl)
  given_name (pr.Export from) token text now e = inl ((e, refl), refl)

  pair_given_holds : (frames : Frames) (stands : PairRole) (pairs : List Pair) (taken : Identifier) (outer : Bool) (token : Token) (from now : Tokens) (what : TokenKind) (one : Word) → Opened whole frames from →
      ItemTaken (nd.PairGiven stands pairs taken outer) from (token ∷ now) → token.kind ≡ what → Is one token.kind → Holds whole (pair_given frames stands pairs taken outer what token.at one) now
  pair_given_holds frames stands pairs taken outer token from now (k.Name text) one h (b, (a, before, named), sign) q e = (
    from,
    h,
    tt,
    pairs_more stands outer pairs (record { taken = taken; given = ident token.at text }) from a now before
        (as_pair stands outer taken (ident token.at text) a b (token ∷ now) now named sign (given_name stands token text now q)),
  )
  pair_given_holds frames stands pairs taken outer token from now _ one h r q e = given_word_holds frames stands pairs taken outer token from now one h r e

  -- Imports.

  import_word_holds : (frames : Frames) (token : Token) (from now : Tokens) (one : Word) → Opened whole frames from → the "import" from (token ∷ now) → Is one token.kind → Holds whole (import_word frames one) now
  import_word_holds frames token from now w.LeftBrace h taken e = (from, h, tt, (token ∷ now, taken, inl (now, (e, refl), refl)))
  import_word_holds frames token from now _ h taken e = tt

  import_due_holds : (frames : Frames) (token : Token) (from now : Tokens) (what : TokenKind) (one : Word) → Opened whole frames from → the "import" from (token ∷ now) → token.kind ≡ what → Is one token.kind →
      Holds whole (import_due frames what token.at one) now
  import_due_holds frames token from now (k.String text) one h taken q e = (from, h, tt, (token ∷ now, (token ∷ now, taken, inl (refl, refl)), (q, refl)))
  import_due_holds frames token from now (k.Name text) one h taken q e = (from, h, tt, (token ∷ now, taken, ((refl, refl), ((q, refl), refl))))
  import_due_holds frames token from now _ one h taken q e = import_word_holds frames token from now one h taken e

  import_next_holds : (frames : Frames) (pairs : List Pair) (token : Token) (from now : Tokens) (one : Word) → Opened whole frames from → ItemTaken (nd.ImportNext pairs) from (token ∷ now) → Is one token.kind →
      Holds whole (import_next frames pairs token.kind one) now
  import_next_holds frames pairs token from now w.Comma h taken e = (from, h, tt, (token ∷ now, taken, (e, refl)))
  import_next_holds frames pairs token from now _ h (a, begins, named) e =
      name_by (λ st. Holds whole st now) (codes "from") token.kind _ _ (λ q. (from, h, tt, (token ∷ now, (a, begins, inr (default_alone pairs a (token ∷ now) named)), (q, refl)))) (λ q. tt)

  import_brace_holds : (frames : Frames) (pairs : List Pair) (token : Token) (from now : Tokens) (one : Word) → Opened whole frames from → ItemTaken (nd.ImportBrace pairs) from (token ∷ now) → Is one token.kind → Holds whole (import_brace frames pairs one) now
  import_brace_holds frames pairs token from now w.LeftBrace h (b, (a, begins, named), comma) e = (from, h, tt, (a, begins, inr (default_before pairs a b (token ∷ now) now named comma (e, refl))))
  import_brace_holds frames pairs token from now _ h taken e = tt

  other_due_holds : (frames : Frames) (stands : PairRole) (pairs : List Pair) (token : Token) (from now : Tokens) (what : TokenKind) → Opened whole frames from → ItemTaken (nd.Other stands pairs) from (token ∷ now) → token.kind ≡ what →
      Holds whole (other_due frames stands pairs what) now
  other_due_holds frames pr.Import pairs token from now (k.String text) h (b, (a, begins, list), sign) q = (from, h, tt, (token ∷ now, (a, begins, inr (b, list, sign)), (q, refl)))
  other_due_holds frames (pr.Export named) pairs token from now (k.String text) h taken q = (from, h, tt, (token ∷ now, taken, (q, refl)))
  other_due_holds frames stands pairs token from now _ h taken q = tt

  -- Exports.

  export_names_hold : (frames : Frames) (named : Bool) (pairs : List Pair) (token : Token) (from now : Tokens) → Opened whole frames from → ItemTaken (nd.ExportNext named pairs) from (token ∷ now) → is_name (codes "from") token.kind ≡ false →
      Holds whole (export_names frames named pairs token) now
  export_names_hold frames true pairs token from now h taken q = tt
  export_names_hold frames false pairs token from now h taken q =
      item_end_holds whole frames (λ mark. p.bare_item (t.ExportNames pairs mark)) (may token) reading.may_miss_after_export token from now (the_word token) (kind_is token.kind) h
      (λ c. sym (may_miss_after_export_is token (sym (from_is token.kind) ∙ q)) ∙ c) (λ mark to c. read_export_names pairs mark from (token ∷ now) to taken c)

  export_due_holds : (frames : Frames) (token : Token) (from now : Tokens) (one : Word) → Opened whole frames from → the "export" from (token ∷ now) → Is one token.kind → Holds whole (export_due frames token.at one) now
  export_due_holds frames token from now w.LeftBrace h taken e = (from, h, tt, (token ∷ now, taken, (now, (e, refl), refl)))
  export_due_holds frames token from now w.Default h taken e = (from, h, tt, (token ∷ now, taken, (refl, (e, refl))))
  export_due_holds frames token from now one h taken e = declaration_holds whole (f.Item n.Export ∷ frames) token now one refl (from, h, tt, taken) e

  default_due_holds : (frames : Frames) (at : ℕ) (token : Token) (from now : Tokens) (one : Word) → Opened whole frames from → ItemTaken (nd.Default at) from (token ∷ now) → the_word token ≡ one → Is one token.kind →
      Holds whole (default_due frames at token one) now
  default_due_holds frames at token from now w.Function h taken q e = (from, h, tt, (token ∷ now, taken, (refl, (e, refl))))
  default_due_holds frames at token from now w.Class h taken q e = (from, h, tt, (token ∷ now, taken, (refl, (e, refl))))
  default_due_holds frames at token from now _ h taken q e =
      operand_holds whole (f.Item (n.Default at) ∷ frames) token now (omega arith) (from, h, tt, (taken, sym (no_default_is token) ∙ ap begins_no_default q))

  pub item_step_holds : (due : ItemDue) (frames : Frames) (token : Token) (now : Tokens) → DueHolds whole frames (Unit {0}) (ItemTaken due) (token ∷ now) → Holds whole (item_step due frames token) now
  item_step_holds nd.Import frames token now (from, h, fits, taken) = import_due_holds frames token from now token.kind (the_word token) h taken refl (kind_is token.kind)
  item_step_holds (nd.ImportNext pairs) frames token now (from, h, fits, taken) = import_next_holds frames pairs token from now (the_word token) h taken (kind_is token.kind)
  item_step_holds (nd.ImportBrace pairs) frames token now (from, h, fits, taken) = import_brace_holds frames pairs token from now (the_word token) h taken (kind_is token.kind)
  item_step_holds (nd.Pair stands pairs) frames token now (from, h, fits, taken) = pair_due_holds frames stands pairs token from now token.kind (the_word token) h taken refl (kind_is token.kind)
  item_step_holds (nd.PairAs stands pairs one outer) frames token now (from, h, fits, taken) =
      name_by (λ st. Holds whole st now) (codes "as") token.kind _ _ (λ q. (from, h, tt, (token ∷ now, taken, (q, refl)))) (λ q. both_names_hold frames stands pairs one outer token from now (the_word token) h taken (kind_is token.kind))
  item_step_holds (nd.PairGiven stands pairs one outer) frames token now (from, h, fits, taken) = pair_given_holds frames stands pairs one outer token from now token.kind (the_word token) h taken refl (kind_is token.kind)
  item_step_holds (nd.PairNext stands pairs) frames token now (from, h, fits, taken) = pair_next_holds frames stands pairs token from now (the_word token) h taken (kind_is token.kind)
  item_step_holds (nd.From pairs) frames token now (from, h, fits, taken) = name_by (λ st. Holds whole st now) (codes "from") token.kind _ _ (λ q. (from, h, tt, (token ∷ now, taken, (q, refl)))) (λ q. tt)
  item_step_holds (nd.Other stands pairs) frames token now (from, h, fits, taken) = other_due_holds frames stands pairs token from now token.kind h taken refl
  item_step_holds (nd.OtherEnd stands pairs other) frames token now (from, h, fits, taken) =
      item_end_holds whole frames (from_other stands pairs other) (may token) reading.may_miss token from now (the_word token) (kind_is token.kind) h (λ q. sym (may_miss_is token) ∙ q)
      (λ mark to c. read_other stands pairs other mark from (token ∷ now) to taken c)
  item_step_holds (nd.ExportNext named pairs) frames token now (from, h, fits, (a, begins, (b, brace, (c, list, close)))) =
      name_by (λ st. Holds whole st now) (codes "from") token.kind _ _
      (λ q. (from, h, tt, (token ∷ now, (a, begins, (b, brace, (c, pairs_as (exports named) exported_from (exports_from named) pairs b c list, close))), (q, refl))))
      (λ q. export_names_hold frames named pairs token from now h (a, begins, (b, brace, (c, list, close))) q)
  item_step_holds nd.Export frames token now (from, h, fits, taken) = export_due_holds frames token from now (the_word token) h taken (kind_is token.kind)
  item_step_holds (nd.Default at) frames token now (from, h, fits, taken) = default_due_holds frames at token from now (the_word token) h taken refl (kind_is token.kind)
