-- The tokens of imports, exports and other items of a module are read as them.
use Rattle.std.proofs.Common.{◌≡◌, ◌∙◌, sym, ap, refl, ℕ, Bool, true, false, List, [], ◌∷◌, ◌++◌, codes, arith, zero-le, true≢false, ◌⊎◌, inl, inr}
use Rattle.std.specs.Prelude.{not}
use Rattle.std.proofs.lemmas.Bool.{and_parts}
use Rattle.es_model.specs.declared.kinds.Semi.{Semi}
use Rattle.es_model.specs.declared.names.Pair.{Pair}
use Rattle.es_model.specs.declared.token.Token.{Token}
use Rattle.es_model.specs.declared.token.TokenKind.{TokenKind}
use Rattle.es_model.specs.declared.token.TokenKind.TheVariants as k
use Rattle.es_model.specs.Tree as t
use Rattle.es_model.specs.Tree.{Tree, Text}
use Rattle.es_model.specs.Levels.{is_declaration, ends_in_short_if}
use Rattle.es_model.specs.Readings as readings
use Rattle.es_model.specs.Readings.{Tokens, First, the, the_name, any_of, is_from, word, semicolon, ◌▸◌}
use Rattle.es_model.specs.Spelling.{Spells, braced, imported, default_name, default_list, import_list, module_name, declaring_word}
use Rattle.js_parser.specs.declared.words.Word.{Word}
use Rattle.js_parser.specs.declared.words.Word.TheVariants as w
use Rattle.parser_forms.specs.declared.parts.Part.{Part}
use Rattle.js_parser.specs.Frame.{Frame}
use Rattle.js_parser.specs.Frame as f
use Rattle.js_parser.specs.ItemFrame as n
use Rattle.js_parser.specs.declared.frame.DeclareRole.TheVariants as declaring
use Rattle.js_parser.specs.declared.frame.PairRole.{PairRole}
use Rattle.js_parser.specs.declared.frame.PairRole.TheVariants as pr
use Rattle.js_parser.specs.ItemDue as nd
use Rattle.js_parser.specs.StatementDue as sd
use Rattle.parser_forms.specs.Kept.{Sorted, none, and_then, followed}
use Rattle.js_parser.specs.Cut.{cut}
use Rattle.js_parser.specs.State.{Frames, State, operand_due, read, statement_due, statement_part, item_part, the_word}
use Rattle.js_parser.specs.Ends.{put_item}
use Rattle.js_parser.specs.Begins.{operand}
use Rattle.js_parser.specs.Settle.{may}
use Rattle.js_parser.specs.ItemSteps.{is_name, pairs_end, from_other, default_due}
use Rattle.parser_forms.specs.Parts as p
use Rattle.js_parser.specs.Machine.{run, step}
use Rattle.js_parser.proofs.Laws.{cut_and_then}
use Rattle.js_parser.proofs.CompleteBase.{takes, takes_name, here_at, follow_least, place, line, Each, reach, grips, if_false}
use Rattle.js_parser.proofs.CompleteClaims.{Behind, behind_any, ReadsStatement, ReadsFunction, ReadsClass, ReadsDeclarator, ReadsDefault}
use Rattle.js_parser.proofs.CompleteEnds.{ItemEnding, item_ends_with, missing_item_end, miss_is_none, miss_needs, semicolon_follows, ended_by}
use Rattle.js_parser.proofs.CompleteStatements.{none_there}
use Rattle.js_parser.proofs.CompleteFunctions.{reads_declared_function, reads_default_function}
use Rattle.js_parser.proofs.CompleteClasses.{reads_declared_class, reads_default_class}
use Rattle.js_parser.proofs.CompleteLoops.{reads_declaration}
use Rattle.js_parser.proofs.CompletePairs.{default_is, Imports, Exports, ExportsFrom, reads_imports, reads_exports, reads_exports_from}
use Rattle.js_parser.proofs.WordLaws.{may_miss_is, begins_no_default, no_default_is}
use Rattle.js_parser.proofs.FormLaws.{plain_item_is, exported_item_is, default_function_is, default_class_is, default_value_is, function_statement_is, class_statement_is, import_is, export_from_is, export_names_is}
use Rattle.js_parser.specs.Summary.{part_of}

-- items in their module
abbrev pub module_of : Tree (t.list t.item) → Frames → Frames
module_of items frames = f.Item (n.Module (cut items)) ∷ frames

abbrev pub ReadsItem : Tree t.item → Type 0
ReadsItem one =
    (from to : Tokens) → Spells one from to → Behind true to → (sofar : Tree (t.list t.item)) (frames : Frames) →
    run (statement_due (module_of sofar frames)) from ≡ run (statement_due (module_of (followed sofar one) frames)) to

-- an item is put down in its module
put_there : (one : Tree t.item) (made : Sorted t.item) → made ≡ cut one → (sofar : Tree (t.list t.item)) (frames : Frames) (to : Tokens) →
    run (put_item (module_of sofar frames) made) to ≡ run (statement_due (module_of (followed sofar one) frames)) to
put_there one made e sofar frames to = ap (λ items. run (statement_due (f.Item (n.Module items) ∷ frames)) to) (ap (and_then (cut sofar)) e ∙ cut_and_then sofar one)

pub reads_plain : (one : Tree t.statement) → ReadsStatement one → ReadsItem (t.Plain one)
unfolding Spells
reads_plain one reads from to d behind sofar frames =
    reads from to d (module_of sofar frames) (λ e. refl) (behind_any (ends_in_short_if one) to behind)
    ∙ put_there (t.Plain one) (p.plain_item (cut one)) (plain_item_is one) sofar frames to

-- Declarations that are exported.

exports : (from to : Tokens) → the "export" from to → (sofar : Tree (t.list t.item)) (frames : Frames) →
    run (statement_due (module_of sofar frames)) from ≡ run (item_part nd.Export (module_of sofar frames)) to
unfolding word
exports from to d sofar frames = takes _ from to d (statement_due (module_of sofar frames))

declaring_export : (constant : Bool) (from to : Tokens) → declaring_word constant from to → (frames : Frames) →
    run (item_part nd.Export frames) from ≡ run (statement_part (sd.Name constant none declaring.Statement) (f.Item n.Export ∷ frames)) to
unfolding word
declaring_export true from to d frames = takes _ from to d (item_part nd.Export frames)
declaring_export false from to d frames = takes _ from to d (item_part nd.Export frames)

pub reads_export_declare : (constant : Bool) (list : Tree (t.list t.declarator)) (mark : Semi) → Each ReadsDeclarator list → ReadsItem (t.ExportDeclaration (t.Declare constant list mark))
unfolding Spells
reads_export_declare constant list mark reads from to d behind sofar frames =
    let c = d.2.1 in
    let one : Tree t.statement = t.Declare constant list mark in
    exports from d.0 d.1 sofar frames
    ∙ declaring_export constant d.0 c.1.0 c.1.1 (module_of sofar frames)
    ∙ reads_declaration constant list mark reads (f.Item n.Export ∷ module_of sofar frames) c.1.0 to c.0 c.1.2
    ∙ put_there (t.ExportDeclaration one) (p.exported_item (cut one)) (exported_item_is one) sofar frames to

pub reads_export_function : (function : Tree t.function) → ReadsFunction function → ReadsItem (t.ExportDeclaration (t.FunctionStatement function))
unfolding Spells word
reads_export_function function reads from to d behind sofar frames =
    let found = reads_declared_function function reads d.0 to d.2.1 in
    exports from d.0 d.1 sofar frames
    ∙ takes _ d.0 found.0 found.1 (item_part nd.Export (module_of sofar frames))
    ∙ found.2 (f.Item n.Export ∷ module_of sofar frames)
    ∙ put_there (t.ExportDeclaration (t.FunctionStatement function)) (p.exported_item (p.function_statement (cut function)))
    (ap p.exported_item (function_statement_is function) ∙ exported_item_is (t.FunctionStatement function)) sofar frames to

pub reads_export_class : (class : Tree t.class) → ReadsClass class → ReadsItem (t.ExportDeclaration (t.ClassStatement class))
unfolding Spells word
reads_export_class class reads from to d behind sofar frames =
    let found = reads_declared_class class reads d.0 to d.2.1 in
    exports from d.0 d.1 sofar frames
    ∙ takes _ d.0 found.0 found.1 (item_part nd.Export (module_of sofar frames))
    ∙ found.2 (f.Item n.Export ∷ module_of sofar frames)
    ∙ put_there (t.ExportDeclaration (t.ClassStatement class)) (p.exported_item (p.class_statement (cut class)))
    (ap p.exported_item (class_statement_is class) ∙ exported_item_is (t.ClassStatement class)) sofar frames to

-- nothing else is
pub reads_no_export : (one : Tree t.statement) → is_declaration one ≡ false → ReadsItem (t.ExportDeclaration one)
unfolding Spells
reads_no_export one h from to d = absurd (true≢false (sym d.2.0 ∙ h))

-- The default export.

-- an expression that is one
default_word : (frames : Frames) (at : ℕ) (token : Token) (word : Word) → begins_no_default word ≡ false → default_due frames at token word ≡ operand (f.Item (n.Default at) ∷ frames) token
default_word frames at token w.Function h = absurd (true≢false h)
default_word frames at token w.Class h = absurd (true≢false h)
default_word frames at token _ h = refl

default_begins : (at : ℕ) (frames : Frames) (from : Tokens) → First (λ token. any_of ("function" ∷ "class" ∷ []) token ≡ false) from →
    run (item_part (nd.Default at) frames) from ≡ run (operand_due (f.Item (n.Default at) ∷ frames)) from
default_begins at frames [] d = absurd d
default_begins at frames (token ∷ rest) d = ap (λ st. run st rest) (default_word frames at token (the_word token) (no_default_is token ∙ d))

default_ending : (at : ℕ) (frames : Frames) (part : Part) → ItemEnding frames (p.default_value at part.of) readings.may_miss (read part (f.Item (n.Default at) ∷ frames))
unfolding word
default_ending at frames part =
    record {
      written = λ place broken. refl;
      missing = λ token h.
          let m : may token ≡ true = may_miss_is token ∙ h in
          ended_by (f.Item (n.Default at)) frames part token (miss_needs (the_word token) token.line_before m) (omega arith)
          ∙ missing_item_end frames (p.default_value at part.of) token (may token) m (miss_is_none (the_word token) token.line_before m);
    }

reads_default : (of : Tree t.default) → ReadsDefault of → (at : ℕ) (mark : Semi) (from to : Tokens) → Spells of mark from to → (sofar : Tree (t.list t.item)) (frames : Frames) →
    run (item_part (nd.Default at) (module_of sofar frames)) from ≡ run (statement_due (module_of (followed sofar (t.ExportDefault at of mark)) frames)) to
unfolding Spells word
reads_default (t.DefaultFunction function) reads at mark from to d sofar frames =
    let found = reads_default_function function reads from to d.1 in
    takes _ from found.0 found.1 (item_part (nd.Default at) (module_of sofar frames))
    ∙ found.2 (module_of sofar frames) at
    ∙ put_there (t.ExportDefault at (t.DefaultFunction function) mark) (p.default_function at (cut function))
    (default_function_is at function ∙ ap (λ mark. cut (t.ExportDefault at (t.DefaultFunction function) mark)) (sym d.0)) sofar frames to
reads_default (t.DefaultClass class) reads at mark from to d sofar frames =
    let found = reads_default_class class reads at from to d.1 in
    takes _ from found.0 found.1 (item_part (nd.Default at) (module_of sofar frames))
    ∙ found.2 (module_of sofar frames)
    ∙ put_there (t.ExportDefault at (t.DefaultClass class) mark) (p.default_class at (cut class))
    (default_class_is at class ∙ ap (λ mark. cut (t.ExportDefault at (t.DefaultClass class) mark)) (sym d.0)) sofar frames to
reads_default (t.DefaultValue value) reads at mark from to d sofar frames =
    let part : Part = part_of (place from) value in
    let frame : Frame = f.Item (n.Default at) in
    default_begins at (module_of sofar frames) from d.1.0
    ∙ reads from d.0 d.1.1.1 (frame ∷ module_of sofar frames) (grips value 2 d.1.1.0) (follow_least 0 (reach value) d.0 zero-le (semicolon_follows mark d.0 to d.2))
    ∙ item_ends_with (module_of sofar frames) (p.default_value at (cut value)) readings.may_miss (read part (frame ∷ module_of sofar frames)) (default_ending at (module_of sofar frames) part) mark d.0 to d.2
    ∙ put_there (t.ExportDefault at (t.DefaultValue value) mark) (p.default_value at (cut value) mark) (default_value_is at value mark) sofar frames to

pub reads_export_default : (at : ℕ) (of : Tree t.default) (mark : Semi) → ReadsDefault of → ReadsItem (t.ExportDefault at of mark)
unfolding Spells word
reads_export_default at of mark reads from to d behind sofar frames =
    let c = d.2.1 in
    exports from d.0 d.1 sofar frames
    ∙ takes _ d.0 c.0 c.1 (item_part nd.Export (module_of sofar frames))
    ∙ ap (λ a. run (item_part (nd.Default a) (module_of sofar frames)) c.0) (here_at at d.0 d.2.0)
    ∙ reads_default of reads at mark c.0 to c.2 sofar frames

-- Names of other modules.

other_ending : (stands : PairRole) (list : List Pair) (other : Text) (frames : Frames) → ItemEnding frames (from_other stands list other) readings.may_miss (item_part (nd.OtherEnd stands list other) frames)
unfolding word
other_ending stands list other frames =
    record {
      written = λ place broken. refl;
      missing = λ token h.
          let m : may token ≡ true = may_miss_is token ∙ h in
          missing_item_end frames (from_other stands list other) token (may token) m (miss_is_none (the_word token) token.line_before m);
    }

-- behind the name of the other module
imports_end : (list : List Pair) (other : Text) (mark : Semi) (from to : Tokens) → semicolon readings.may_miss mark from to → (sofar : Tree (t.list t.item)) (frames : Frames) →
    run (item_part (nd.OtherEnd pr.Import list other) (module_of sofar frames)) from ≡ run (statement_due (module_of (followed sofar (t.Import other list mark)) frames)) to
imports_end list other mark from to d sofar frames =
    item_ends_with (module_of sofar frames) (from_other pr.Import list other) readings.may_miss (item_part (nd.OtherEnd pr.Import list other) (module_of sofar frames)) (other_ending pr.Import list other (module_of sofar frames)) mark from to d
    ∙ put_there (t.Import other list mark) (p.bare_item (t.Import other list mark)) (import_is other list mark) sofar frames to

exports_end : (flag : Bool) (list : List Pair) (other : Text) (mark : Semi) (from to : Tokens) → semicolon readings.may_miss mark from to → (sofar : Tree (t.list t.item)) (frames : Frames) →
    run (item_part (nd.OtherEnd (pr.Export flag) list other) (module_of sofar frames)) from ≡ run (statement_due (module_of (followed sofar (t.ExportFrom other list mark)) frames)) to
exports_end flag list other mark from to d sofar frames =
    item_ends_with (module_of sofar frames) (from_other (pr.Export flag) list other) readings.may_miss (item_part (nd.OtherEnd (pr.Export flag) list other) (module_of sofar frames)) (other_ending (pr.Export flag) list other (module_of sofar frames)) mark from to d
    ∙ put_there (t.ExportFrom other list mark) (p.bare_item (t.ExportFrom other list mark)) (export_from_is other list mark) sofar frames to

-- `from` and the name
from_end : (stands : PairRole) (list : List Pair) (other : Text) (frames : Frames) (from to : Tokens) → module_name other from to →
    run (item_part (nd.Other stands list) frames) from ≡ run (item_part (nd.OtherEnd stands list other) frames) to
from_end stands list other frames from to d = takes _ from to d (item_part (nd.Other stands list) frames)

imports_role : (frames : Frames) (stands : PairRole) (list : List Pair) → Imports stands → pairs_end frames stands list ≡ item_part (nd.From list) frames
imports_role frames pr.Import list ok = refl
imports_role frames (pr.Export flag) list ok = absurd ok

-- the names in braces, and the word `from` behind them
imports_in_braces : (list before : List Pair) (frames : Frames) (from mid to : Tokens) → braced imported list from mid → the_name "from" mid to → (st : State) →
    ((at : ℕ) (broken : Bool) → step st (record { kind = word "{"; at = at; line_before = broken }) ≡ item_part (nd.Pair pr.Import before) frames) →
    run st from ≡ run (item_part (nd.Other pr.Import (before ++ list)) frames) to
unfolding word
imports_in_braces list before frames from mid to d c st opens =
    let found = reads_imports list before frames d.0 d.2.0 mid d.2.1 d.2.2 in
    takes _ from d.0 d.1 st
    ∙ ap (λ one. run one d.0) (opens (place from) (line from))
    ∙ found.reading
    ∙ ap (λ one. run one mid) (imports_role frames found.role (before ++ list) found.stays)
    ∙ takes _ mid to c (item_part (nd.From (before ++ list)) frames)

-- the name that takes `default`
default_first : (one : Pair) (frames : Frames) (from to : Tokens) → default_name one from to → run (item_part nd.Import frames) from ≡ run (item_part (nd.ImportNext (one ∷ [])) frames) to
default_first one frames from to d =
    takes_name one.given from to d.1 (item_part nd.Import frames)
    ∙ ap (λ taken. run (item_part (nd.ImportNext (record { taken = taken; given = one.given } ∷ [])) frames) to) (default_is one.taken one.given.at (sym d.0.1) d.0.0)

reads_default_list : (list : List Pair) (frames : Frames) (from mid to : Tokens) → default_list list from mid → the_name "from" mid to →
    run (item_part nd.Import frames) from ≡ run (item_part (nd.Other pr.Import list) frames) to
unfolding word
reads_default_list [] frames from mid to d c = absurd d
reads_default_list (one ∷ []) frames from mid to d c = default_first one frames from d.0 d.1 ∙ by d.2
  where
    by : (d.0 ≡ mid) ⊎ (the "," ▸ braced imported []) d.0 mid → run (item_part (nd.ImportNext (one ∷ [])) frames) d.0 ≡ run (item_part (nd.Other pr.Import (one ∷ [])) frames) to
    by (inl same) = ap (run (item_part (nd.ImportNext (one ∷ [])) frames)) same ∙ takes _ mid to c (item_part (nd.ImportNext (one ∷ [])) frames)
    by (inr e) =
        takes _ d.0 e.0 e.1 (item_part (nd.ImportNext (one ∷ [])) frames)
        ∙ imports_in_braces [] (one ∷ []) frames e.0 mid to e.2 c (item_part (nd.ImportBrace (one ∷ [])) frames) (λ at broken. refl)
reads_default_list (one ∷ other ∷ rest) frames from mid to d c =
    default_first one frames from d.0 d.1
    ∙ takes _ d.0 d.2.0 d.2.1 (item_part (nd.ImportNext (one ∷ [])) frames)
    ∙ imports_in_braces (other ∷ rest) (one ∷ []) frames d.2.0 mid to d.2.2 c (item_part (nd.ImportBrace (one ∷ [])) frames) (λ at broken. refl)

reads_import_list : (list : List Pair) (other : Text) (frames : Frames) (from mid to : Tokens) → import_list list from mid → module_name other mid to →
    run (item_part nd.Import frames) from ≡ run (item_part (nd.OtherEnd pr.Import list other) frames) to
unfolding word
reads_import_list list other frames from mid to (inl d) c =
    ap (run (item_part nd.Import frames)) d.1
    ∙ takes _ mid to c (item_part nd.Import frames)
    ∙ ap (λ list. run (item_part (nd.OtherEnd pr.Import list other) frames) to) (sym d.0)
reads_import_list list other frames from mid to (inr d) c = by d.1 ∙ from_end pr.Import list other frames mid to c
  where
    by : (braced imported list from d.0) ⊎ (default_list list from d.0) → run (item_part nd.Import frames) from ≡ run (item_part (nd.Other pr.Import list) frames) mid
    by (inl e) = imports_in_braces list [] frames from d.0 mid e d.2 (item_part nd.Import frames) (λ at broken. refl)
    by (inr e) = reads_default_list list frames from d.0 mid e d.2

pub reads_import : (other : Text) (list : List Pair) (mark : Semi) → ReadsItem (t.Import other list mark)
unfolding Spells word
reads_import other list mark from to d behind sofar frames =
    let c = d.2.2 in
    takes _ from d.0 d.1 (statement_due (module_of sofar frames))
    ∙ reads_import_list list other (module_of sofar frames) d.0 d.2.0 c.0 d.2.1 c.1
    ∙ imports_end list other mark c.0 to c.2 sofar frames

-- Names that are exported.

exports_from_role : (frames : Frames) (stands : PairRole) (list : List Pair) → ExportsFrom stands → (other : Text) (from mid to : Tokens) → the_name "from" from mid → module_name other mid to →
    (flag : Bool) × (run (pairs_end frames stands list) from ≡ run (item_part (nd.OtherEnd (pr.Export flag) list other) frames) to)
exports_from_role frames pr.Import list ok other from mid to d c = absurd ok
exports_from_role frames (pr.Export flag) list ok other from mid to d c =
    (flag, takes _ from mid d (item_part (nd.ExportNext flag list) frames) ∙ from_end (pr.Export flag) list other frames mid to c)

pub reads_export_from : (other : Text) (list : List Pair) (mark : Semi) → ReadsItem (t.ExportFrom other list mark)
unfolding Spells word
reads_export_from other list mark from to d behind sofar frames =
    let b = d.2.1 in
    let c = d.2.2 in
    let all : Frames = module_of sofar frames in
    let found = reads_exports_from list all b.0 b.2.0 d.2.0 b.2.1 b.2.2 in
    let last = exports_from_role all found.role list found.stays other d.2.0 c.0 c.2.0 c.1 c.2.1 in
    exports from d.0 d.1 sofar frames
    ∙ takes _ d.0 b.0 b.1 (item_part nd.Export all)
    ∙ found.reading
    ∙ last.1
    ∙ exports_end last.0 list other mark c.2.0 to c.2.2 sofar frames

is_from_name : (kind : TokenKind) → is_name (codes "from") kind ≡ is_from kind
is_from_name (k.Name text) = refl
is_from_name _ = refl

names_ending : (list : List Pair) (frames : Frames) → ItemEnding frames (λ mark. p.bare_item (t.ExportNames list mark)) readings.may_miss_after_export (item_part (nd.ExportNext false list) frames)
unfolding word
names_ending list frames =
    record {
      written = λ place broken. refl;
      missing = λ token h.
          let parts : (readings.may_miss token ≡ true) × (not (is_from token.kind) ≡ true) = and_parts _ _ h in
          let m : may token ≡ true = may_miss_is token ∙ parts.0 in
          if_false _ _ (is_from_name token.kind ∙ none_there (is_from token.kind) parts.1)
          ∙ missing_item_end frames (λ mark. p.bare_item (t.ExportNames list mark)) token (may token) m (miss_is_none (the_word token) token.line_before m);
    }

exports_role : (frames : Frames) (stands : PairRole) (list : List Pair) → Exports stands → pairs_end frames stands list ≡ item_part (nd.ExportNext false list) frames
exports_role frames pr.Import list ok = absurd ok
exports_role frames (pr.Export true) list ok = absurd ok
exports_role frames (pr.Export false) list ok = refl

pub reads_export_names : (list : List Pair) (mark : Semi) → ReadsItem (t.ExportNames list mark)
unfolding Spells word
reads_export_names list mark from to d behind sofar frames =
    let b = d.2.1 in
    let all : Frames = module_of sofar frames in
    let found = reads_exports list all b.0 b.2.0 d.2.0 b.2.1 b.2.2 in
    exports from d.0 d.1 sofar frames
    ∙ takes _ d.0 b.0 b.1 (item_part nd.Export all)
    ∙ found.reading
    ∙ ap (λ one. run one d.2.0) (exports_role all found.role list found.stays)
    ∙ item_ends_with all (λ mark. p.bare_item (t.ExportNames list mark)) readings.may_miss_after_export (item_part (nd.ExportNext false list) all) (names_ending list all) mark d.2.0 to d.2.2
    ∙ put_there (t.ExportNames list mark) (p.bare_item (t.ExportNames list mark)) (export_names_is list mark) sofar frames to
