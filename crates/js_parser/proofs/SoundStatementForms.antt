-- What statements and items were read from.
use Rattle.std.proofs.Common.{◌≡◌, ◌∙◌, sym, ap, ap₂, subst, refl, ℕ, suc, ◌≤◌, Bool, true, false, List, ◌∷◌, Option, Some, None, arith}
use Rattle.es_model.specs.declared.kinds.Semi.{Semi}
use Rattle.es_model.specs.declared.names.Identifier.{Identifier}
use Rattle.es_model.specs.declared.names.Pair.{Pair}
use Rattle.es_model.specs.declared.token.Token.{Token}
use Rattle.es_model.specs.Tree as t
use Rattle.es_model.specs.Tree.{Tree, Text}
use Rattle.es_model.specs.Levels.{defaults}
use Rattle.es_model.specs.Readings.{Tokens, Reading, word, the, name, here, semicolon, may_miss, may_miss_bare, may_miss_after_do, may_miss_after_export}
use Rattle.es_model.specs.Spelling.{Spells, joined, declaring_word, Initialised, exported, braced}
use Rattle.parser_forms.specs.declared.parts.Part.{Part}
use Rattle.js_parser.specs.declared.frame.Opening.TheVariants as o
use Rattle.js_parser.specs.declared.frame.Jump.{Jump}
use Rattle.js_parser.specs.declared.frame.Jump.TheVariants as j
use Rattle.js_parser.specs.ListRole as l
use Rattle.js_parser.specs.declared.frame.PairRole.{PairRole}
use Rattle.js_parser.specs.declared.frame.PairRole.TheVariants as pr
use Rattle.js_parser.specs.StatementFrame as s
use Rattle.js_parser.specs.ItemFrame as n
use Rattle.js_parser.specs.StatementDue as sd
use Rattle.js_parser.specs.ItemDue as nd
use Rattle.parser_forms.specs.Kept.{Sorted, none, and_then, followed}
use Rattle.js_parser.specs.Cut.{cut}
use Rattle.parser_forms.specs.Parts as p
use Rattle.js_parser.specs.StatementSteps.{jump}
use Rattle.js_parser.specs.ItemSteps.{from_other}
use Rattle.js_parser.proofs.Laws.{cut_none, cut_and_then}
use Rattle.js_parser.specs.Summary.{option_of}
use Rattle.js_parser.proofs.FormLaws as laws
use Rattle.js_parser.proofs.SoundLists.{grown, commaed_more, joined_last, sequence_more, initialised_more, defaults_default, defaults_case}
use Rattle.js_parser.proofs.SoundStates.{Read, ReadOption, ReadStatements, ReadLine, ReadInner, ReadDeclarators, ReadHead, ReadCases, ReadItem, ReadItems, ReadBraces, CaseBefore, ListBefore, TestTaken, StatementOpen, ItemOpen, StatementTaken, ItemTaken, jump_word, defaults_of, is_on_line, next, ◌⊳◌}

-- Lists of statements, and things that may be left out.

pub read_no_statements : (now : Tokens) → ReadStatements none now now
unfolding Spells
read_no_statements now = (t.none, sym cut_none, refl)

pub read_statements_more : (declares short : Bool) (list : Sorted (t.list t.statement)) (line : Sorted t.statement) (from a to : Tokens) → ReadStatements list from a → ReadLine declares short line a to → ReadStatements (and_then list line) from to
read_statements_more declares short list line from a to (tree, q, r) (last, u, d, i, h) =
    (followed tree last, sym (cut_and_then tree last) ∙ ap₂ and_then q u, sequence_more {last = Spells last} (grown tree last) from a to r h)

pub read_left_out : (now : Tokens) → ReadOption None now now
unfolding Spells
read_left_out now = (t.absent, refl, refl)

pub read_there : (part : Part) (from to : Tokens) → Read part from to → ReadOption (Some part.of) from to
unfolding Spells
read_there part from to (e, q, w, r) = (t.present e, ap (λ u. Some u.of) q, r)

pub read_inner : (short : Bool) (line : Sorted t.statement) (from to : Tokens) → ReadLine false short line from to → ReadInner line from to
read_inner short line from to (tree, q, d, i, r) = (tree, q, d, r)

-- Statements of one word, blocks and expressions.

pub read_empty : (token : Token) (now : Tokens) → token.kind ≡ word ";" → ReadLine false false (p.bare t.Empty) (token ∷ now) now
unfolding Spells
read_empty token now e = (t.Empty, sym laws.empty_is, refl, refl, (e, refl))

pub read_block : (list : Sorted (t.list t.statement)) (from to : Tokens) → ReadBraces list from to → ReadLine false false (p.block list) from to
unfolding Spells
read_block list from to (b, (a, brace, (tree, q, r)), close) = (t.Block tree, sym (laws.block_is tree) ∙ ap p.block q, refl, refl, (a, brace, (b, r, close)))

pub read_value : (part : Part) (mark : Semi) (from a b to : Tokens) → StatementOpen s.Value from a → Read part a b → semicolon may_miss mark b to → ReadLine false false (p.value part.of mark) from to
unfolding Spells
read_value part mark from a b to (same, test) (e, q, w, r) c = (
  t.Value e mark,
  sym (laws.value_is e mark) ∙ ap (λ u. p.value u.of mark) q,
  refl,
  refl,
  subst (λ u. Spells (t.Value e mark) u to) (sym same) (b, (test, r), c),
)

pub read_jump : (which : Jump) (at : ℕ) (mark : Semi) (from a to : Tokens) → here at (the (jump_word which)) from a → semicolon may_miss_bare mark a to → ReadLine false false (jump which at mark) from to
unfolding Spells
read_jump j.Break at mark from a to (place, o) c = (t.Break at mark, sym (laws.break_is at mark), refl, refl, (place, (a, o, c)))
read_jump j.Continue at mark from a to (place, o) c = (t.Continue at mark, sym (laws.continue_is at mark), refl, refl, (place, (a, o, c)))

pub read_bare_return : (at : ℕ) (mark : Semi) (from a to : Tokens) → here at (the "return") from a → semicolon may_miss_bare mark a to → ReadLine false false (p.return at None mark) from to
unfolding Spells
read_bare_return at mark from a to (place, o) c = (t.Return at t.absent mark, sym (laws.return_is at t.absent mark), refl, refl, (place, (a, o, c)))

pub read_return : (at : ℕ) (part : Part) (mark : Semi) (from a b to : Tokens) → next is_on_line (here at (the "return")) from a → Read part a b → semicolon may_miss mark b to → ReadLine false false (p.return at (Some part.of) mark) from to
unfolding Spells
read_return at part mark from a b to ((place, o), line) (e, q, w, r) c =
    (t.Return at (t.present e) mark, sym (laws.return_is at (t.present e) mark) ∙ ap (λ u. p.return at (Some u.of) mark) q, refl, refl, (place, (a, o, (b, (line, r), c))))

pub read_throw : (part : Part) (mark : Semi) (from a b to : Tokens) → next is_on_line (the "throw") from a → Read part a b → semicolon may_miss mark b to → ReadLine false false (p.throw part.of mark) from to
unfolding Spells
read_throw part mark from a b to (o, line) (e, q, w, r) c =
    (t.Throw e mark, sym (laws.throw_is e mark) ∙ ap (λ u. p.throw u.of mark) q, refl, refl, (a, o, (b, (line, r), c)))

-- Declared names.

-- all names of a declaration
abbrev pub ReadDeclared : Bool → Sorted (t.list t.declarator) → Reading
ReadDeclared constant of from to = (list : Tree (t.list t.declarator)) × (cut list ≡ of) × Initialised constant list × joined (Spells list) from to

pub read_no_names : (constant : Bool) (now : Tokens) → ReadDeclarators constant none now now
unfolding Spells
read_no_names true now = (t.none, sym cut_none, refl, refl)
read_no_names false now = (t.none, sym cut_none, tt, refl)

pub read_name_comma : (own : Identifier) (names : Sorted (t.list t.declarator)) (from a b to : Tokens) → ReadDeclarators false names from a → name own a b → the "," b to →
    ReadDeclarators false (and_then names (p.declarator own None)) from to
unfolding Spells
read_name_comma own names from a b to (list, q, h, r) d c = (
  followed list (t.DeclaratorOf own t.absent),
  sym (cut_and_then list (t.DeclaratorOf own t.absent)) ∙ ap₂ and_then q (sym (laws.declarator_is own t.absent)),
  tt,
  commaed_more (grown list (t.DeclaratorOf own t.absent)) from a b to r d c,
)

pub read_name_last : (own : Identifier) (names : Sorted (t.list t.declarator)) (from a to : Tokens) → ReadDeclarators false names from a → name own a to → ReadDeclared false (and_then names (p.declarator own None)) from to
unfolding Spells
read_name_last own names from a to (list, q, h, r) d = (
  followed list (t.DeclaratorOf own t.absent),
  sym (cut_and_then list (t.DeclaratorOf own t.absent)) ∙ ap₂ and_then q (sym (laws.declarator_is own t.absent)),
  tt,
  joined_last {last = name own} (grown list (t.DeclaratorOf own t.absent)) from a to r d,
)

pub read_initialised_comma : (constant : Bool) (own : Identifier) (names : Sorted (t.list t.declarator)) (part : Part) (from a b c d to : Tokens) → ReadDeclarators constant names from a → name own a b → the "=" b c →
    Read part c d → 2 ≤ part.level → the "," d to → ReadDeclarators constant (and_then names (p.declarator own (Some part.of))) from to
unfolding Spells
read_initialised_comma constant own names part from a b c d to (list, q, h, r) n o (e, u, w, x) i z =
    let one : Tree t.declarator = t.DeclaratorOf own (t.present e) in (
      followed list one,
      sym (cut_and_then list one) ∙ ap₂ and_then q (sym (laws.declarator_is own (t.present e)) ∙ ap (λ v. p.declarator own (Some v.of)) u),
      initialised_more constant list own e h,
      commaed_more (grown list one) from a d to r (b, n, (c, o, (subst (λ v. 2 ≤ v.level) (sym u) i, x))) z,
    )

pub read_initialised_last : (constant : Bool) (own : Identifier) (names : Sorted (t.list t.declarator)) (part : Part) (from a b c to : Tokens) → ReadDeclarators constant names from a → name own a b → the "=" b c →
    Read part c to → 2 ≤ part.level → ReadDeclared constant (and_then names (p.declarator own (Some part.of))) from to
unfolding Spells
read_initialised_last constant own names part from a b c to (list, q, h, r) n o (e, u, w, x) i =
    let one : Tree t.declarator = t.DeclaratorOf own (t.present e) in (
      followed list one,
      sym (cut_and_then list one) ∙ ap₂ and_then q (sym (laws.declarator_is own (t.present e)) ∙ ap (λ v. p.declarator own (Some v.of)) u),
      initialised_more constant list own e h,
      joined_last {last = Spells one} (grown list one) from a to r (b, n, (c, o, (subst (λ v. 2 ≤ v.level) (sym u) i, x))),
    )

pub read_declare : (constant : Bool) (names : Sorted (t.list t.declarator)) (mark : Semi) (from a b to : Tokens) → declaring_word constant from a → ReadDeclared constant names a b → semicolon may_miss mark b to →
    ReadLine true false (p.declare constant names mark) from to
unfolding Spells
read_declare constant names mark from a b to o (list, q, h, r) c = (t.Declare constant list mark, sym (laws.declare_is constant list mark) ∙ ap (λ u. p.declare constant u mark) q, refl, refl, (h, (a, o, (b, r, c))))

-- Conditions and loops.

pub read_short_if : (short : Bool) (test : Sorted t.expression) (first : Sorted t.statement) (from a to : Tokens) → TestTaken o.If test from a → ReadLine false short first a to → ReadLine false true (p.choice test first None) from to
unfolding Spells
read_short_if short test first from a to (d, (c, (b, begins, o), (e, q, r)), z) (line, u, declares, i, h) =
    (t.If e line t.absent, sym (laws.choice_is e line t.absent) ∙ ap₂ (λ one two. p.choice one two None) q u, refl, refl, (b, begins, (c, o, (d, r, (a, z, (declares, h))))))

pub read_if : (short : Bool) (test : Sorted t.expression) (first other : Sorted t.statement) (from a to : Tokens) → StatementOpen (s.No test first) from a → ReadLine false short other a to →
    ReadLine false short (p.choice test first (Some other)) from to
unfolding Spells
read_if short test first other from a to (g, (f, (d, (c, (b, begins, o), (e, q, r)), z), (line, u, declares, i, h)), last) (second, v, declare, y, x) = (
  t.If e line (t.present second),
  sym (laws.choice_is e line (t.present second)) ∙ ap₂ (λ one two. p.choice one two (Some (cut second))) q u ∙ ap (λ three. p.choice test first (Some three)) v,
  refl,
  y,
  (b, begins, (c, o, (d, r, (f, z, (g, (i, (declares, h)), (a, last, (declare, x))))))),
)

pub read_while : (short : Bool) (test : Sorted t.expression) (body : Sorted t.statement) (from a to : Tokens) → TestTaken o.While test from a → ReadLine false short body a to → ReadLine false short (p.while_loop test body) from to
unfolding Spells
read_while short test body from a to (d, (c, (b, begins, o), (e, q, r)), z) (line, u, declares, i, h) =
    (t.While e line, sym (laws.while_is e line) ∙ ap₂ p.while_loop q u, refl, i, (b, begins, (c, o, (d, r, (a, z, (declares, h))))))

pub read_for : (short : Bool) (head : Sorted t.head) (test each : Option (Sorted t.expression)) (body : Sorted t.statement) (from a to : Tokens) → StatementOpen (s.For head test each) from a → ReadLine false short body a to →
    ReadLine false short (p.for_loop head test each body) from to
unfolding Spells
read_for short head test each body from a to (z, (i, (h, (g, (d, (c, (b, begins, o), (top, q, r)), one), (second, u, x)), two), (third, v, y)), close) (line, w, declares, ending, inside) = (
  t.For top second third line,
  sym (laws.for_loop_is top second third line) ∙ ap₂ (λ m n. p.for_loop m n (option_of third) (cut line)) q u ∙ ap₂ (p.for_loop head test) v w,
  refl,
  ending,
  (b, begins, (c, o, (d, r, (g, one, (h, x, (i, two, (z, y, (a, close, (declares, inside))))))))),
)

pub read_head_nothing : (now : Tokens) → ReadHead p.head_nothing now now
unfolding Spells
read_head_nothing now = (t.HeadNothing, sym laws.head_nothing_is, refl)

pub read_head_value : (part : Part) (from to : Tokens) → Read part from to → ReadHead (p.head_value part.of) from to
unfolding Spells
read_head_value part from to (e, q, w, r) = (t.HeadValue e, sym (laws.head_value_is e) ∙ ap (λ u. p.head_value u.of) q, r)

pub read_head_declare : (constant : Bool) (names : Sorted (t.list t.declarator)) (from a to : Tokens) → declaring_word constant from a → ReadDeclared constant names a to → ReadHead (p.head_declare constant names) from to
unfolding Spells
read_head_declare constant names from a to o (list, q, h, r) = (t.HeadDeclare constant list, sym (laws.head_declare_is constant list) ∙ ap (p.head_declare constant) q, (h, (a, o, r)))

pub read_do : (body : Sorted t.statement) (test : Sorted t.expression) (mark : Semi) (from a to : Tokens) → StatementTaken (sd.DoEnd body test) from a → semicolon may_miss_after_do mark a to → ReadLine false false (p.do_loop body test mark) from to
unfolding Spells
read_do body test mark from a to (g, (f, (d, (c, (b, begins, (line, u, declares, h)), loop), o), (e, q, r)), z) end =
    (t.DoWhile line e mark, sym (laws.do_is line e mark) ∙ ap₂ (λ one two. p.do_loop one two mark) u q, refl, refl, (b, begins, (c, (declares, h), (d, loop, (f, o, (g, r, (a, z, end)))))))

-- Try.

pub read_try_catch : (block : Sorted (t.list t.statement)) (own : Option Identifier) (catch : Sorted (t.list t.statement)) (from to : Tokens) → StatementTaken (sd.Finally block own catch) from to →
    ReadLine false false (p.guarded block own (Some catch) None) from to
unfolding Spells
read_try_catch block own catch from to (d, (a, begins, (c, (b, brace, (list, q, r)), close)), (f, (e, guard, named), (i, (h, start, (second, u, s)), end))) = (
  t.Try list own (t.present second) t.absent,
  sym (laws.guarded_is list own (t.present second) t.absent) ∙ ap₂ (λ one two. p.guarded one own (Some two) None) q u,
  refl,
  refl,
  (tt, (a, begins, (d, (b, brace, (c, r, close)), (to, (f, (e, guard, named), (h, start, (i, s, end))), refl)))),
)

pub read_try_finally : (block : Sorted (t.list t.statement)) (own : Option Identifier) (catch : Option (Sorted (t.list t.statement))) (list : Sorted (t.list t.statement)) (from a to : Tokens) →
    ListBefore (l.Finally block own catch) from a → ReadBraces list a to → ReadLine false false (p.guarded block own catch (Some list)) from to
unfolding Spells
read_try_finally block None None list from a to (g, (d, (c, begins, (x, (b, brace, (tried, q, r)), close)), same), last) (i, (h, start, (second, u, s)), end) = (
  t.Try tried None t.absent (t.present second),
  sym (laws.guarded_is tried None t.absent (t.present second)) ∙ ap₂ (λ one two. p.guarded one None None (Some two)) q u,
  refl,
  refl,
  (tt, (c, begins, (d, (b, brace, (x, r, close)), (d, refl, (a, subst (λ v. the "finally" v a) (sym same) last, (h, start, (i, s, end))))))),
)
read_try_finally block (Some own) None list from a to (g, (d, before, never), last) read = absurd never
read_try_finally block own (Some catch) list from a to (g, (d, (c, begins, (x, (b, brace, (tried, q, r)), close)), (n, (m, guard, named), (y, (z, opens, (caught, v, w)), closes))), last) (i, (h, start, (second, u, s)), end) = (
  t.Try tried own (t.present caught) (t.present second),
  sym (laws.guarded_is tried own (t.present caught) (t.present second)) ∙ ap₂ (λ one two. p.guarded one own (Some two) (Some (cut second))) q v ∙ ap (λ three. p.guarded block own (Some catch) (Some three)) u,
  refl,
  refl,
  (tt, (c, begins, (d, (b, brace, (x, r, close)), (g, (n, (m, guard, named), (z, opens, (y, w, closes))), (a, last, (h, start, (i, s, end))))))),
)

-- Switches.

pub read_no_cases : (now : Tokens) → ReadCases false none now now
unfolding Spells
read_no_cases now = (t.none, sym cut_none, refl, refl)

pub read_default_more : (cases : Sorted (t.list t.case)) (body : Sorted (t.list t.statement)) (from a b to : Tokens) → ReadCases false cases from a → CaseBefore None a b → (the ":" ⊳ ReadStatements body) b to →
    ReadCases true (and_then cases (p.case None body)) from to
unfolding Spells
read_default_more cases body from a b to (list, q, d, r) begins (c, colon, (inner, u, s)) =
    let one : Tree t.case = t.CaseOf t.absent inner in (
      followed list one,
      sym (cut_and_then list one) ∙ ap₂ and_then q (sym (laws.case_is t.absent inner) ∙ ap (p.case None) u),
      defaults_default list inner ∙ ap suc d,
      sequence_more {last = Spells one} (grown list one) from a to r (b, begins, (c, colon, s)),
    )

pub read_case_more : (has_default : Bool) (cases : Sorted (t.list t.case)) (test : Sorted t.expression) (body : Sorted (t.list t.statement)) (from a b to : Tokens) → ReadCases has_default cases from a → CaseBefore (Some test) a b →
    (the ":" ⊳ ReadStatements body) b to → ReadCases has_default (and_then cases (p.case (Some test) body)) from to
unfolding Spells
read_case_more has_default cases test body from a b to (list, q, d, r) (z, begins, (e, v, x)) (c, colon, (inner, u, s)) =
    let one : Tree t.case = t.CaseOf (t.present e) inner in (
      followed list one,
      sym (cut_and_then list one) ∙ ap₂ and_then q (sym (laws.case_is (t.present e) inner) ∙ ap₂ (λ m n. p.case (Some m) n) v u),
      defaults_case list e inner ∙ d,
      sequence_more {last = Spells one} (grown list one) from a to r (z, begins, (b, x, (c, colon, s))),
    )

pub read_switch : (of : Sorted t.expression) (cases : Sorted (t.list t.case)) (has_default : Bool) (from a to : Tokens) → StatementOpen (s.Switch of cases has_default) from a → the "}" a to → ReadLine false false (p.switch of cases) from to
unfolding Spells
read_switch of cases has_default from a to (g, (f, (d, (c, (b, begins, o), (e, q, r)), z), brace), (list, u, count, s)) close = (
  t.Switch e list,
  sym (laws.switch_is e list) ∙ ap₂ p.switch q u,
  refl,
  refl,
  (most has_default count, (b, begins, (c, o, (d, r, (f, z, (g, brace, (a, s, close))))))),
)
  where
    most : (one : Bool) → defaults list ≡ defaults_of one → defaults list ≤ 1
    most true h = omega arith
    most false h = omega arith

-- Items.

pub read_no_items : (now : Tokens) → ReadItems none now now
unfolding Spells
read_no_items now = (t.none, sym cut_none, refl)

pub read_items_more : (items : Sorted (t.list t.item)) (one : Sorted t.item) (from a to : Tokens) → ReadItems items from a → ReadItem one a to → ReadItems (and_then items one) from to
read_items_more items one from a to (tree, q, r) (last, u, h) =
    (followed tree last, sym (cut_and_then tree last) ∙ ap₂ and_then q u, sequence_more {last = Spells last} (grown tree last) from a to r h)

pub read_plain_item : (declares short : Bool) (line : Sorted t.statement) (from to : Tokens) → ReadLine declares short line from to → ReadItem (p.plain_item line) from to
unfolding Spells
read_plain_item declares short line from to (tree, q, d, i, r) = (t.Plain tree, sym (laws.plain_item_is tree) ∙ ap p.plain_item q, r)

pub read_exported_item : (short : Bool) (line : Sorted t.statement) (from a to : Tokens) → the "export" from a → ReadLine true short line a to → ReadItem (p.exported_item line) from to
unfolding Spells
read_exported_item short line from a to o (tree, q, d, i, r) = (t.ExportDeclaration tree, sym (laws.exported_item_is tree) ∙ ap p.exported_item q, (a, o, (d, r)))

pub read_default_value : (at : ℕ) (part : Part) (mark : Semi) (from a b to : Tokens) → ItemOpen (n.Default at) from a → Read part a b → 2 ≤ part.level → semicolon may_miss mark b to → ReadItem (p.default_value at part.of mark) from to
unfolding Spells
read_default_value at part mark from a b to ((d, word_of_export, (place, default)), test) (e, q, w, r) h c = (
  t.ExportDefault at (t.DefaultValue e) mark,
  sym (laws.default_value_is at e mark) ∙ ap (λ u. p.default_value at u.of mark) q,
  (d, word_of_export, (place, (a, default, (b, (test, (subst (λ u. 2 ≤ u.level) (sym q) h, r)), c)))),
)

pub read_other : (stands : PairRole) (pairs : List Pair) (from : Text) (mark : Semi) (before a to : Tokens) → ItemTaken (nd.OtherEnd stands pairs from) before a → semicolon may_miss mark a to → ReadItem (from_other stands pairs from mark) before to
unfolding Spells
read_other pr.Import pairs from mark before a to (c, (b, begins, list), given_by) d = (t.Import from pairs mark, sym (laws.import_is from pairs mark), (b, begins, (c, list, (a, given_by, d))))
read_other (pr.Export named) pairs from mark before a to (c, (f, (b, begins, list), last), given_by) d = (t.ExportFrom from pairs mark, sym (laws.export_from_is from pairs mark), (b, begins, (f, list, (c, last, (a, given_by, d)))))

pub read_export_names : (pairs : List Pair) (mark : Semi) (from a to : Tokens) → (the "export" ⊳ braced exported pairs) from a → semicolon may_miss_after_export mark a to → ReadItem (p.bare_item (t.ExportNames pairs mark)) from to
unfolding Spells
read_export_names pairs mark from a to (b, begins, list) d = (t.ExportNames pairs mark, sym (laws.export_names_is pairs mark), (b, begins, (a, list, d)))
