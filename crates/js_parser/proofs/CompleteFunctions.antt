-- The tokens of functions are read as them: the heads of arrows, parameters and bodies.
use Rattle.std.proofs.Common.{◌≡◌, ◌∙◌, sym, ap, subst, refl, ℕ, ◌≤◌, false, List, [], ◌∷◌, ◌++◌, arith, Option, Some, None, zero-le, true≢false, inl, inr}
use Rattle.std.proofs.lemmas.Bool.{le-leb}
use Rattle.std.proofs.lemmas.List.{append_assoc, append-nil}
use Rattle.es_model.specs.declared.kinds.FunctionKind.TheVariants as kind
use Rattle.es_model.specs.declared.names.Identifier.{Identifier}
use Rattle.es_model.specs.declared.token.Token.{Token}
use Rattle.es_model.specs.Tree as t
use Rattle.es_model.specs.Tree.{Tree}
use Rattle.es_model.specs.Readings.{Tokens, First, the, name, maybe_name, same_line, any_of, word, ◌▸◌}
use Rattle.es_model.specs.Spelling.{Spells, braces, names, arrow_names, maybe_comma, AsStatement, AsDefault}
use Rattle.js_parser.specs.declared.words.Word.{Word}
use Rattle.js_parser.specs.declared.words.Word.TheVariants as w
use Rattle.parser_forms.specs.declared.parts.Part.{Part}
use Rattle.parser_forms.specs.declared.parts.Heading.{Heading}
use Rattle.parser_forms.specs.declared.parts.Heading.TheVariants as h
use Rattle.js_parser.specs.Frame.{Frame}
use Rattle.js_parser.specs.Frame as f
use Rattle.parser_forms.specs.declared.kinds.Infix.TheVariants as i
use Rattle.js_parser.specs.ExpressionFrame as x
use Rattle.js_parser.specs.ExpressionDue as xd
use Rattle.js_parser.specs.ListRole as l
use Rattle.js_parser.specs.MemberDue as md
use Rattle.js_parser.specs.Signature.{Signature}
use Rattle.js_parser.specs.Signature as g
use Rattle.js_parser.specs.declared.frame.Role.{Role}
use Rattle.js_parser.specs.declared.frame.Role.TheVariants as role
use Rattle.js_parser.specs.Cut.{cut}
use Rattle.js_parser.specs.Tables.{slot, gives}
use Rattle.parser_forms.specs.Asks.{list_of, head_of}
use Rattle.js_parser.specs.State.{Frames, operand_due, read, expression_part, member_part, the_word}
use Rattle.js_parser.specs.Begins.{operand, head_where}
use Rattle.js_parser.specs.Settle.{arrow_where}
use Rattle.js_parser.specs.Ends.{function_end, put, put_item}
use Rattle.js_parser.specs.MemberSteps.{is_setter_of, is_getter_of, arrow_body}
use Rattle.parser_forms.specs.Parts as p
use Rattle.parser_forms.specs.Parts.{listed_names, enclosed}
use Rattle.js_parser.specs.Machine.{run, step}
use Rattle.js_parser.proofs.CompleteBase.{takes, takes_name, name_at, here_at, on_line, follows, place, Follow, Reads, reach, grips, reaches, follow_least, if_true, if_false, goes_on_at, closes}
use Rattle.js_parser.proofs.CompleteOperators.{assign_ends}
use Rattle.js_parser.proofs.CompleteClaims.{ReadsStatement, ReadsBody, ReadsFunction, reads_braces}
use Rattle.js_parser.proofs.CompleteBase.{Each}
use Rattle.js_parser.proofs.WordLaws.{begins_no_body, no_body_is}
use Rattle.js_parser.proofs.FormLaws.{function_is, function_expression_is, arrow_statements_is, arrow_is}
use Rattle.js_parser.specs.Summary.{part_of}

-- The head of an arrow.

-- an expression that is a name, or names with commas between
record Lists (heading : Heading) (found : List Identifier) : Type 0 where
  list : list_of heading ≡ Some found
  head : head_of (enclosed heading) ≡ Some found
  more : (one : Identifier) → listed_names heading (h.Name one) ≡ h.Names (found ++ one ∷ [])

lists_name : (one : Identifier) → Lists (h.Name one) (one ∷ [])
lists_name one = record { list = refl; head = refl; more = λ other. refl }

lists_names : (found : List Identifier) → Lists (h.Names found) found
lists_names found = record { list = refl; head = refl; more = λ other. refl }

-- what is left of the names behind one
abbrev names_behind : List Identifier → Tokens → Tokens → Type 0
names_behind [] = maybe_comma
names_behind (one ∷ rest) = the "," ▸ names (one ∷ rest)

split_names : (one : Identifier) (rest : List Identifier) (from to : Tokens) → names (one ∷ rest) from to → (name one ▸ names_behind rest) from to
split_names one [] from to d = d
split_names one (other ∷ rest) from to d = d

-- the `)` and the `=>` behind the names
abbrev Arrow : Tokens → Tokens → Type 0
Arrow = the ")" ▸ same_line (the "=>")

behind_follows : (rest : List Identifier) (from mid to : Tokens) → names_behind rest from mid → Arrow mid to → Follow 1 from
unfolding word
behind_follows [] from mid to (inl same) c = subst (Follow 1) (sym same) (follows _ mid c.0 c.1 1 (λ line. zero-le))
behind_follows [] from mid to (inr comma) c = follows _ from mid comma 1 (λ line. omega arith)
behind_follows (one ∷ rest) from mid to d c = follows _ from d.0 d.1 1 (λ line. omega arith)

-- `=>` behind a head that is no expression
arrow_due : (at : ℕ) (found : List Identifier) (frames : Frames) (from to : Tokens) → same_line (the "=>") from to →
    run (expression_part (xd.Arrow at found) frames) from ≡ run (expression_part (xd.ArrowBody at found) frames) to
unfolding word
arrow_due at found frames from to d =
    takes _ from to d.1 (expression_part (xd.Arrow at found) frames)
    ∙ ap (λ broken. run (step (expression_part (xd.Arrow at found) frames) (record { kind = word "=>"; at = place from; line_before = broken })) to) (on_line from d.0)

head_there : (frames : Frames) (at : ℕ) (found : List Identifier) (made : Option (List Identifier)) → made ≡ Some found → slot frames ≤ 2 → head_where frames at made ≡ expression_part (xd.Arrow at found) frames
head_there frames at found made e fits = ap (head_where frames at) e ∙ if_true _ _ (le-leb _ _ fits)

-- `=>` behind one that is
arrow_there : (part : Part) (found : List Identifier) → head_of part.heading ≡ Some found → (frames : Frames) → slot frames ≤ 2 → (from to : Tokens) → same_line (the "=>") from to →
    run (read part frames) from ≡ run (expression_part (xd.ArrowBody part.at found) frames) to
unfolding word
arrow_there part found e frames fits from to d =
    goes_on_at _ from to d.1 frames part (subst (λ broken. slot frames ≤ gives w.Arrow broken) (sym (on_line from d.0)) fits)
    ∙ ap (λ made. run (arrow_where frames part.at made) to) e

-- behind a name of the head
more_names : (rest : List Identifier) (part : Part) (found : List Identifier) → Lists part.heading found → 1 ≤ part.level → (at : ℕ) (frames : Frames) → slot frames ≤ 2 →
    (from mid to : Tokens) → names_behind rest from mid → Arrow mid to →
    run (read part (f.Expression (x.Paren at) ∷ frames)) from ≡ run (expression_part (xd.ArrowBody at (found ++ rest)) frames) to
unfolding word
more_names [] part found lists h at frames fits from mid to (inl same) c =
    ap (run (read part (f.Expression (x.Paren at) ∷ frames))) same
    ∙ takes _ mid c.0 c.1 (read part (f.Expression (x.Paren at) ∷ frames))
    ∙ arrow_there (p.paren at part) found lists.head frames fits c.0 to c.2
    ∙ ap (λ list. run (expression_part (xd.ArrowBody at list) frames) to) (sym (append-nil found))
more_names [] part found lists h at frames fits from mid to (inr comma) c =
    goes_on_at _ from mid comma (f.Expression (x.Paren at) ∷ frames) part (omega arith)
    ∙ ap (λ st. run st mid) (if_true _ _ (le-leb _ _ h))
    ∙ takes _ mid c.0 c.1 (operand_due (f.Expression (x.Infix i.Comma part) ∷ f.Expression (x.Paren at) ∷ frames))
    ∙ ap (λ st. run st c.0) (head_there frames at found (list_of part.heading) lists.list fits)
    ∙ arrow_due at found frames c.0 to c.2
    ∙ ap (λ list. run (expression_part (xd.ArrowBody at list) frames) to) (sym (append-nil found))
more_names (one ∷ rest) part found lists h at frames fits from mid to d c =
    let n : (name one ▸ names_behind rest) d.0 mid = split_names one rest d.0 mid d.2 in
    let frame : Frame = f.Expression (x.Infix i.Comma part) in
    goes_on_at _ from d.0 d.1 (f.Expression (x.Paren at) ∷ frames) part (omega arith)
    ∙ ap (λ st. run st d.0) (if_true _ _ (le-leb _ _ h))
    ∙ takes_name one d.0 n.0 n.1 (operand_due (frame ∷ f.Expression (x.Paren at) ∷ frames))
    ∙ closes frame (f.Expression (x.Paren at) ∷ frames) (p.name one) (p.operation i.Comma part (p.name one)) 1 n.0 (behind_follows rest n.0 mid to n.2 c) (assign_ends 1 (omega arith)) (λ again token h. refl)
    ∙ more_names rest (p.operation i.Comma part (p.name one)) (found ++ one ∷ []) (subst (λ heading. Lists heading (found ++ one ∷ [])) (sym (lists.more one)) (lists_names (found ++ one ∷ [])))
    (omega arith) at frames fits n.0 mid to n.2 c
    ∙ ap (λ list. run (expression_part (xd.ArrowBody at list) frames) to) (append_assoc found (one ∷ []) rest)

in_parens : (parameters : List Identifier) (frames : Frames) → slot frames ≤ 2 → (from mid to : Tokens) → (the "(" ▸ names parameters ▸ the ")") from mid → same_line (the "=>") mid to →
    run (operand_due frames) from ≡ run (expression_part (xd.ArrowBody (place from) parameters) frames) to
unfolding word
in_parens [] frames fits from mid to d c =
    takes _ from d.0 d.1 (operand_due frames)
    ∙ ap (run (operand_due (f.Expression (x.Paren (place from)) ∷ frames))) d.2.1
    ∙ takes _ d.2.0 mid d.2.2 (operand_due (f.Expression (x.Paren (place from)) ∷ frames))
    ∙ ap (λ st. run st mid) (head_there frames (place from) [] (Some []) refl fits)
    ∙ arrow_due (place from) [] frames mid to c
in_parens (one ∷ rest) frames fits from mid to d c =
    let n : (name one ▸ names_behind rest) d.0 d.2.0 = split_names one rest d.0 d.2.0 d.2.1 in
    takes _ from d.0 d.1 (operand_due frames)
    ∙ takes_name one d.0 n.0 n.1 (operand_due (f.Expression (x.Paren (place from)) ∷ frames))
    ∙ more_names rest (p.name one) (one ∷ []) (lists_name one) (omega arith) (place from) frames fits n.0 d.2.0 to n.2 (mid, d.2.2, c)

reads_head : (parameters : List Identifier) (frames : Frames) → slot frames ≤ 2 → (from mid to : Tokens) → arrow_names parameters from mid → same_line (the "=>") mid to →
    run (operand_due frames) from ≡ run (expression_part (xd.ArrowBody (place from) parameters) frames) to
reads_head [] frames fits from mid to d c = in_parens [] frames fits from mid to d c
reads_head (one ∷ []) frames fits from mid to (inl d) c = in_parens (one ∷ []) frames fits from mid to d c
reads_head (one ∷ []) frames fits from mid to (inr d) c =
    takes_name one from mid d (operand_due frames)
    ∙ arrow_there (p.name one) (one ∷ []) refl frames fits mid to c
    ∙ ap (λ at. run (expression_part (xd.ArrowBody at (one ∷ [])) frames) to) (sym (name_at one from mid d))
reads_head (one ∷ other ∷ rest) frames fits from mid to d c = in_parens (one ∷ other ∷ rest) frames fits from mid to d c

-- the body of an arrow, where it is an expression
body_word : (frames : Frames) (at : ℕ) (parameters : List Identifier) (token : Token) (word : Word) → begins_no_body word ≡ false → arrow_body frames at parameters token word ≡ operand (f.Expression (x.Arrow at parameters) ∷ frames) token
body_word frames at parameters token w.LeftBrace h = absurd (true≢false h)
body_word frames at parameters token _ h = refl

body_due : (frames : Frames) (at : ℕ) (parameters : List Identifier) (from : Tokens) → First (λ token. any_of ("{" ∷ []) token ≡ false) from →
    run (expression_part (xd.ArrowBody at parameters) frames) from ≡ run (operand_due (f.Expression (x.Arrow at parameters) ∷ frames)) from
body_due frames at parameters [] d = absurd d
body_due frames at parameters (token ∷ tokens) d = ap (λ st. run st tokens) (body_word frames at parameters token (the_word token) (no_body_is token ∙ d))

reads_arrow : (at : ℕ) (parameters : List Identifier) (body : Tree t.body) → ReadsBody body → Reads (t.Function (t.FunctionOf at None kind.Arrow parameters body))
unfolding Spells word
reads_arrow at parameters (t.BodyStatements list) reads from to d frames fits follow =
    let e : place from ≡ at = here_at at from d.0 in
    reads_head parameters frames fits from d.1.0 d.1.2.0 d.1.1 d.1.2.1
    ∙ reads_braces list reads (l.Arrow (place from) parameters) frames (expression_part (xd.ArrowBody (place from) parameters) frames) d.1.2.0 to d.1.2.2 (λ at line_before. refl)
    ∙ ap (λ part. run (read part frames) to)
    (ap (λ a. p.arrow_expression a (p.function a None kind.Arrow parameters (cut list))) e ∙ arrow_statements_is at at parameters list
    ∙ ap (λ a. part_of a (t.Function (t.FunctionOf at None kind.Arrow parameters (t.BodyStatements list)))) (sym e))
reads_arrow at parameters (t.BodyExpression value) reads from to d frames fits follow =
    let e : place from ≡ at = here_at at from d.0 in
    let frame : Frame = f.Expression (x.Arrow (place from) parameters) in
    let part : Part = part_of (place d.1.2.0) value in
    reads_head parameters frames fits from d.1.0 d.1.2.0 d.1.1 d.1.2.1
    ∙ body_due frames (place from) parameters d.1.2.0 d.1.2.2.1.0
    ∙ reads d.1.2.0 to d.1.2.2.1.1.1 (frame ∷ frames) (grips value 2 d.1.2.2.1.1.0) (follow_least 2 (reach value) to (reaches value 2 d.1.2.2.1.1.0 (omega arith)) follow)
    ∙ closes frame frames part (p.arrow (place from) parameters part) 2 to follow (assign_ends 2 (omega arith)) (λ again token h. refl)
    ∙ ap (λ one. run (read one frames) to)
    (ap (λ a. p.arrow a parameters part) e ∙ arrow_is at (place d.1.2.0) parameters value ∙ ap (λ a. part_of a (t.Function (t.FunctionOf at None kind.Arrow parameters (t.BodyExpression value)))) (sym e))

-- Parameters and bodies.

-- behind a name, where the signature is no accessor's
reads_names_behind : (rest before : List Identifier) (signature : Signature) → is_getter_of signature ≡ false → is_setter_of signature ≡ false → (frames : Frames) (from mid to : Tokens) →
    names_behind rest from mid → the ")" mid to → run (member_part (md.ParameterNext signature before) frames) from ≡ run (member_part (md.Body signature (before ++ rest)) frames) to
unfolding word
reads_names_behind [] before signature getter setter frames from mid to (inl same) c =
    ap (run (member_part (md.ParameterNext signature before) frames)) same
    ∙ takes _ mid to c (member_part (md.ParameterNext signature before) frames)
    ∙ ap (λ list. run (member_part (md.Body signature list) frames) to) (sym (append-nil before))
reads_names_behind [] before signature getter setter frames from mid to (inr comma) c =
    takes _ from mid comma (member_part (md.ParameterNext signature before) frames)
    ∙ ap (λ st. run st mid) (if_false _ _ setter)
    ∙ takes _ mid to c (member_part (md.Parameter signature before) frames)
    ∙ ap (λ st. run st to) (if_false _ _ setter)
    ∙ ap (λ list. run (member_part (md.Body signature list) frames) to) (sym (append-nil before))
reads_names_behind (one ∷ rest) before signature getter setter frames from mid to d c =
    let n : (name one ▸ names_behind rest) d.0 mid = split_names one rest d.0 mid d.2 in
    takes _ from d.0 d.1 (member_part (md.ParameterNext signature before) frames)
    ∙ ap (λ st. run st d.0) (if_false _ _ setter)
    ∙ takes_name one d.0 n.0 n.1 (member_part (md.Parameter signature before) frames)
    ∙ ap (λ st. run st n.0) (if_false _ _ getter)
    ∙ reads_names_behind rest (before ++ one ∷ []) signature getter setter frames n.0 mid to n.2 c
    ∙ ap (λ list. run (member_part (md.Body signature list) frames) to) (append_assoc before (one ∷ []) rest)

pub reads_names : (list : List Identifier) (signature : Signature) → is_getter_of signature ≡ false → is_setter_of signature ≡ false → (frames : Frames) (from mid to : Tokens) →
    names list from mid → the ")" mid to → run (member_part (md.Parameter signature []) frames) from ≡ run (member_part (md.Body signature list) frames) to
unfolding word
reads_names [] signature getter setter frames from mid to d c =
    ap (run (member_part (md.Parameter signature []) frames)) d
    ∙ takes _ mid to c (member_part (md.Parameter signature []) frames)
    ∙ ap (λ st. run st to) (if_false _ _ setter)
reads_names (one ∷ rest) signature getter setter frames from mid to d c =
    let n : (name one ▸ names_behind rest) from mid = split_names one rest from mid d in
    takes_name one from n.0 n.1 (member_part (md.Parameter signature []) frames)
    ∙ ap (λ st. run st n.0) (if_false _ _ getter)
    ∙ reads_names_behind rest (one ∷ []) signature getter setter frames n.0 mid to n.2 c

-- Functions that begin with the word `function`, behind it.

abbrev pub Named : Role → Option Identifier → Type 0
Named role.Statement None = ⊥
Named _ own = Unit {0}

reads_own : (own : Option Identifier) (stands : Role) → Named stands own → (at : ℕ) (frames : Frames) (from mid to : Tokens) → maybe_name own from mid → the "(" mid to →
    run (member_part (md.FunctionName at stands) frames) from ≡ run (member_part (md.Parameter (g.Function at own stands) []) frames) to
unfolding word
reads_own (Some own) stands n at frames from mid to d c =
    takes_name own from mid d (member_part (md.FunctionName at stands) frames)
    ∙ takes _ mid to c (member_part (md.Parameters (g.Function at (Some own) stands)) frames)
reads_own None role.Statement n at frames from mid to d c = absurd n
reads_own None role.Expression n at frames from mid to d c =
    ap (run (member_part (md.FunctionName at role.Expression) frames)) d ∙ takes _ mid to c (member_part (md.FunctionName at role.Expression) frames)
reads_own None (role.Default place) n at frames from mid to d c =
    ap (run (member_part (md.FunctionName at (role.Default place)) frames)) d ∙ takes _ mid to c (member_part (md.FunctionName at (role.Default place)) frames)

-- a body of statements
pub reads_body : (list : Tree (t.list t.statement)) → Each ReadsStatement list → (signature : Signature) (parameters : List Identifier) (frames : Frames) (from to : Tokens) → braces (Spells list) from to →
    run (member_part (md.Body signature parameters) frames) from ≡ run (function_end frames signature parameters (cut list)) to
unfolding word
reads_body list reads signature parameters frames from to d =
    reads_braces list reads (l.Function signature parameters) frames (member_part (md.Body signature parameters) frames) from to d (λ at line_before. refl)

reads_function : (own : Option Identifier) (parameters : List Identifier) (list : Tree (t.list t.statement)) → Each ReadsStatement list → (stands : Role) → Named stands own → (at : ℕ) (frames : Frames) (from to : Tokens) →
    (maybe_name own ▸ the "(" ▸ names parameters ▸ the ")" ▸ braces (Spells list)) from to →
    run (member_part (md.FunctionName at stands) frames) from ≡ run (function_end frames (g.Function at own stands) parameters (cut list)) to
reads_function own parameters list reads stands n at frames from to d =
    let signature : Signature = g.Function at own stands in
    reads_own own stands n at frames from d.0 d.2.0 d.1 d.2.1
    ∙ reads_names parameters signature refl refl frames d.2.0 d.2.2.0 d.2.2.2.0 d.2.2.1 d.2.2.2.1
    ∙ reads_body list reads signature parameters frames d.2.2.2.0 to d.2.2.2.2

-- a function as an expression
pub reads_function_expression : (function : Tree t.function) → ReadsFunction function → Reads (t.Function function)
unfolding Spells word
reads_function_expression (t.FunctionOf at own kind.Plain parameters (t.BodyStatements list)) reads from to d frames fits follow =
    let e : place from ≡ at = here_at at from d.0 in
    takes _ from d.1.0 d.1.1 (operand_due frames)
    ∙ reads_function own parameters list reads role.Expression tt (place from) frames d.1.0 to d.1.2
    ∙ ap (λ part. run (read part frames) to)
    (ap (λ a. p.function_expression a (p.function a own kind.Plain parameters (cut list))) e ∙ function_expression_is at at own parameters list
    ∙ ap (λ a. part_of a (t.Function (t.FunctionOf at own kind.Plain parameters (t.BodyStatements list)))) (sym e))
reads_function_expression (t.FunctionOf at own kind.Plain parameters (t.BodyExpression value)) reads from to d frames fits follow = absurd (true≢false (sym d.1.2.2.2.2.2.0))
reads_function_expression (t.FunctionOf at None kind.Arrow parameters body) reads from to d frames fits follow = reads_arrow at parameters body reads from to d frames fits follow
reads_function_expression (t.FunctionOf at (Some own) kind.Arrow parameters body) reads from to d frames fits follow = absurd d
reads_function_expression (t.FunctionOf at own _ parameters body) reads from to d frames fits follow = absurd d

-- as a statement, and as a default export: behind the word `function`

pub reads_declared_function : (function : Tree t.function) → ReadsFunction function → (from to : Tokens) → Spells function AsStatement from to →
    (mid : Tokens) × the "function" from mid × ((frames : Frames) →
    run (member_part (md.FunctionName (place from) role.Statement) frames) mid ≡ run (put frames (p.function_statement (cut function))) to)
unfolding Spells
reads_declared_function (t.FunctionOf at (Some own) kind.Plain parameters (t.BodyStatements list)) reads from to d =
    let e : place from ≡ at = here_at at from d.0 in (
      d.1.0,
      d.1.1,
      λ frames.
          reads_function (Some own) parameters list reads role.Statement tt (place from) frames d.1.0 to d.1.2
          ∙ ap (λ one. run (put frames (p.function_statement one)) to) (ap (λ a. p.function a (Some own) kind.Plain parameters (cut list)) e ∙ function_is at (Some own) kind.Plain parameters list),
    )
reads_declared_function (t.FunctionOf at (Some own) kind.Plain parameters (t.BodyExpression value)) reads from to d = absurd (true≢false (sym d.1.2.2.2.2.2.0))
reads_declared_function (t.FunctionOf at None kind.Plain parameters body) reads from to d = absurd d
reads_declared_function (t.FunctionOf at own _ parameters body) reads from to d = absurd d

pub reads_default_function : (function : Tree t.function) → ReadsFunction function → (from to : Tokens) → Spells function AsDefault from to →
    (mid : Tokens) × the "function" from mid × ((frames : Frames) (default : ℕ) →
    run (member_part (md.FunctionName (place from) (role.Default default)) frames) mid ≡ run (put_item frames (p.default_function default (cut function))) to)
unfolding Spells
reads_default_function (t.FunctionOf at own kind.Plain parameters (t.BodyStatements list)) reads from to d =
    let e : place from ≡ at = here_at at from d.0 in (
      d.1.0,
      d.1.1,
      λ frames default.
          reads_function own parameters list reads (role.Default default) tt (place from) frames d.1.0 to d.1.2
          ∙ ap (λ one. run (put_item frames (p.default_function default one)) to) (ap (λ a. p.function a own kind.Plain parameters (cut list)) e ∙ function_is at own kind.Plain parameters list),
    )
reads_default_function (t.FunctionOf at own kind.Plain parameters (t.BodyExpression value)) reads from to d = absurd (true≢false (sym d.1.2.2.2.2.2.0))
reads_default_function (t.FunctionOf at own _ parameters body) reads from to d = absurd d
