-- What functions, members and classes were read from.
use Rattle.std.proofs.Common.{◌≡◌, ◌∙◌, sym, ap, ap₂, subst, refl, ℕ, ◌≤◌, Bool, true, false, List, Option, Some, None, true≢false}
use Rattle.std.proofs.lemmas.Bool.{le-leb}
use Rattle.es_model.specs.declared.kinds.Semi.TheVariants as semi
use Rattle.es_model.specs.declared.kinds.FunctionKind.{FunctionKind}
use Rattle.es_model.specs.declared.kinds.FunctionKind.TheVariants as f
use Rattle.es_model.specs.declared.kinds.MemberKind.{MemberKind}
use Rattle.es_model.specs.declared.kinds.MemberKind.TheVariants as kind
use Rattle.es_model.specs.declared.names.Identifier.{Identifier}
use Rattle.es_model.specs.Tree as t
use Rattle.es_model.specs.Tree.{Tree}
use Rattle.es_model.specs.Levels.{level, Holder, InObject, InClass, is_constructor_key, may_be_fixed}
use Rattle.es_model.specs.Readings.{Tokens, Reading, the, name, maybe_name, here}
use Rattle.es_model.specs.Spelling.{Spells, LeftOut, There, sequence, names, static_before, accessor_word, member_function_kind, plain_function, function_member, member_reading, braces, class_name, no_more, FunctionUse}
use Rattle.parser_forms.specs.Parts.{method_kind}
use Rattle.parser_forms.specs.declared.parts.Part.{Part}
use Rattle.js_parser.specs.declared.frame.Role.TheVariants as role
use Rattle.js_parser.specs.MemberStart.{MemberStart}
use Rattle.js_parser.specs.Signature as g
use Rattle.js_parser.specs.MemberFrame as m
use Rattle.parser_forms.specs.Kept.{Sorted, none, and_then, followed}
use Rattle.parser_forms.specs.Parts as p
use Rattle.js_parser.specs.Ends as ends
use Rattle.js_parser.proofs.Laws.{cut_none, cut_and_then}
use Rattle.js_parser.specs.Summary.{key_of}
use Rattle.js_parser.proofs.FormLaws as laws
use Rattle.js_parser.proofs.SoundLists.{grown, members_last, members_comma, class_semicolon, class_more}
use Rattle.js_parser.proofs.SoundStates.{Read, ReadKey, ReadMembers, ReadJoined, ReadInClass, ReadMember, ReadClass, ReadParent, ReadLine, ReadItem, ReadBraces, StartTaken, ParametersTaken, MemberOpen, IsOfFunction, ◌⊳◌}

-- Functions.

plain_body : (at : ℕ) (own : Option Identifier) (list : List Identifier) (body : Tree (t.list t.statement)) (from a b c d e h i to : Tokens) →
    here at (the "function") from a → maybe_name own a b → the "(" b c → names list c d → the ")" d e → the "{" e h → sequence (Spells body) h i → the "}" i to →
    plain_function at (maybe_name own) list (braces (Spells body)) from to
plain_body at own list body from a b c d e h i to (place, word) named o inside z brace inner close = (place, (a, word, (b, named, (c, o, (d, inside, (e, z, (h, brace, (i, inner, close))))))))

pub read_function_expression : (at : ℕ) (own : Option Identifier) (list : List Identifier) (body : Sorted (t.list t.statement)) (from a to : Tokens) →
    ParametersTaken (g.Function at own role.Expression) list from a → ReadBraces body a to → Read (p.function_expression at (p.function at own f.Plain list body)) from to
unfolding Spells
read_function_expression at own list body from a to (e, (d, (c, (ok, (b, word, named)), o), inside), z) (i, (h, brace, (tree, q, r)), close) = (
  t.Function (t.FunctionOf at own f.Plain list (t.BodyStatements tree)),
  sym (laws.function_expression_is at at own list tree) ∙ ap (λ u. p.function_expression at (p.function at own f.Plain list u)) q,
  word.0,
  plain_body at own list tree from b c d e a h i to word named o inside z brace r close,
)

pub read_function_statement : (at : ℕ) (own : Option Identifier) (list : List Identifier) (body : Sorted (t.list t.statement)) (from a to : Tokens) →
    ParametersTaken (g.Function at own role.Statement) list from a → ReadBraces body a to → ReadLine true false (p.function_statement (p.function at own f.Plain list body)) from to
unfolding Spells
read_function_statement at None list body from a to (e, (d, (c, (ok, (b, word, named)), o), inside), z) inner = absurd ok
read_function_statement at (Some own) list body from a to (e, (d, (c, (ok, (b, word, named)), o), inside), z) (i, (h, brace, (tree, q, r)), close) =
    let function : Tree t.function = t.FunctionOf at (Some own) f.Plain list (t.BodyStatements tree) in (
      t.FunctionStatement function,
      sym (laws.function_statement_is function) ∙ ap p.function_statement (sym (laws.function_is at (Some own) f.Plain list tree) ∙ ap (p.function at (Some own) f.Plain list) q),
      refl,
      refl,
      plain_body at (Some own) list tree from b c d e a h i to word named o inside z brace r close,
    )

pub read_function_default : (at : ℕ) (own : Option Identifier) (place : ℕ) (list : List Identifier) (body : Sorted (t.list t.statement)) (from a to : Tokens) →
    ParametersTaken (g.Function at own (role.Default place)) list from a → ReadBraces body a to → ReadItem (p.default_function place (p.function at own f.Plain list body)) from to
unfolding Spells
read_function_default at own place list body from a to (e, (d, (c, (ok, (b, (n, (l, export, (there, default)), word), named)), o), inside), z) (i, (h, brace, (tree, q, r)), close) =
    let function : Tree t.function = t.FunctionOf at own f.Plain list (t.BodyStatements tree) in (
      t.ExportDefault place (t.DefaultFunction function) semi.Missing,
      sym (laws.default_function_is place function) ∙ ap (p.default_function place) (sym (laws.function_is at own f.Plain list tree) ∙ ap (p.function at own f.Plain list) q),
      (l, export, (there, (n, default, (refl, plain_body at own list tree n b c d e a h i to word named o inside z brace r close)))),
    )

-- Members.

due_in_object : (kinded : MemberKind) (fixed : Bool) (key : Tree t.key) → IsOfFunction kinded → method_kind kinded true false false ≡ member_function_kind InObject fixed kinded key
due_in_object kind.Method fixed key h = refl
due_in_object kind.Getter fixed key h = refl
due_in_object kind.Setter fixed key h = refl
due_in_object kind.Value fixed key h = absurd h
due_in_object kind.Short fixed key h = absurd h

due_in_class : (kinded : MemberKind) (fixed derived : Bool) (key : Tree t.key) → IsOfFunction kinded → method_kind kinded fixed (is_constructor_key key) derived ≡ member_function_kind (InClass derived) fixed kinded key
due_in_class kind.Getter fixed derived key h = refl
due_in_class kind.Setter fixed derived key h = refl
due_in_class kind.Value fixed derived key h = absurd h
due_in_class kind.Short fixed derived key h = absurd h
due_in_class kind.Method true derived key h = refl
due_in_class kind.Method false derived key h = by (is_constructor_key key) refl derived
  where
    by : (b : Bool) → is_constructor_key key ≡ b → (derived : Bool) → method_kind kind.Method false (is_constructor_key key) derived ≡ member_function_kind (InClass derived) false kind.Method key
    by true e true = rw e refl
    by true e false = rw e refl
    by false e true = rw e refl
    by false e false = rw e refl

-- a method or an accessor, where its function has the kind that is due
method_read : (holder : Holder) (start : MemberStart) (due : FunctionKind) (list : List Identifier) (body : Sorted (t.list t.statement)) (from a to : Tokens) → IsOfFunction start.kind →
    may_be_fixed holder start.fixed ≡ true → ((key : Tree t.key) → key_of key ≡ start.key → due ≡ member_function_kind holder start.fixed start.kind key) →
    ParametersTaken (g.Method start) list from a → ReadBraces body a to → ReadMember holder (ends.method start due list body) from to
unfolding Spells
method_read holder start due list body from a to ok may is_due (e, (d, (c, (place, (l, static, (n, accessor, (key, u, r)))), o), inside), z) (i, (h, brace, (tree, q, s)), close) =
    let function : Tree t.function = t.FunctionOf start.at None due list (t.BodyStatements tree) in (
      t.MemberOf start.at start.fixed start.kind key t.absent (t.present function),
      sym (laws.function_member_is start.at start.fixed start.kind key function)
          ∙ ap₂ (p.function_member start.at start.fixed start.kind) u (sym (laws.function_is start.at None due list tree) ∙ ap (p.function start.at None due list) q),
      (
        refl,
        by key (Spells key) (Spells function) start.kind ok
            (may, (place, (l, static, (n, accessor, (c, r, ((refl, refl, is_due key u), (d, o, (e, inside, (a, z, (h, brace, (i, s, close))))))))))),
      ),
    )
  where
    by : (key : Tree t.key) (reading : Reading) (function : FunctionUse → Reading) (kinded : MemberKind) → IsOfFunction kinded →
        function_member holder start.at start.fixed kinded key reading function from to → member_reading holder start.at start.fixed kinded key reading LeftOut (There function) from to
    by key reading function kind.Method h r = r
    by key reading function kind.Getter h r = r
    by key reading function kind.Setter h r = r
    by key reading function kind.Value h r = absurd h
    by key reading function kind.Short h r = absurd h

pub read_object_method : (start : MemberStart) (list : List Identifier) (body : Sorted (t.list t.statement)) (from a to : Tokens) → IsOfFunction start.kind → start.fixed ≡ false →
    ParametersTaken (g.Method start) list from a → ReadBraces body a to → ReadMember InObject (ends.method start (method_kind start.kind true false false) list body) from to
read_object_method start list body from a to ok free taken read =
    method_read InObject start (method_kind start.kind true false false) list body from a to ok (subst (λ b. may_be_fixed InObject b ≡ true) (sym free) refl) (λ key q. due_in_object start.kind start.fixed key ok) taken read

pub read_class_method : (derived : Bool) (start : MemberStart) (list : List Identifier) (body : Sorted (t.list t.statement)) (from a to : Tokens) → IsOfFunction start.kind →
    ParametersTaken (g.Method start) list from a → ReadBraces body a to → ReadMember (InClass derived) (ends.method start (method_kind start.kind start.fixed start.key.is_constructor derived) list body) from to
read_class_method derived start list body from a to ok taken read =
    method_read (InClass derived) start (method_kind start.kind start.fixed start.key.is_constructor derived) list body from a to ok refl
    (λ key q. ap (λ u. method_kind start.kind start.fixed u.is_constructor derived) (sym q) ∙ due_in_class start.kind start.fixed derived key ok) taken read

pub read_computed_key : (part : Part) (from a b to : Tokens) → the "[" from a → Read part a b → 2 ≤ part.level → the "]" b to → ReadKey (p.computed_key part) from to
unfolding Spells
read_computed_key part from a b to o (e, q, w, r) h c =
    (t.KeyComputed e, sym (laws.computed_key_is part.at e) ∙ ap p.computed_key q, (a, o, (b, (subst (λ v. 2 ≤ v.level) (sym q) h, r), c)))

no_static : (fixed : Bool) (from to : Tokens) → fixed ≡ false → static_before fixed from to → from ≡ to
no_static false from to e h = h
no_static true from to e h = absurd (true≢false e)

no_accessor : (kinded : MemberKind) (from to : Tokens) → kinded ≡ kind.Method → accessor_word kinded from to → from ≡ to
no_accessor kinded from to e h = subst (λ u. accessor_word u from to) e h

pub read_value_member : (start : MemberStart) (part : Part) (from a to : Tokens) → (start.fixed ≡ false) × (start.kind ≡ kind.Method) → (StartTaken start ⊳ the ":") from a → Read part a to → 2 ≤ part.level →
    ReadMember InObject (p.value_member start.at start.key part) from to
unfolding Spells
read_value_member start part from a to (free, plain) (c, (place, (l, static, (n, accessor, (key, u, r)))), colon) (e, q, w, s) h =
    let same : from ≡ n = no_static start.fixed from l free static ∙ no_accessor start.kind l n plain accessor in (
      t.MemberOf start.at false kind.Value key (t.present e) t.absent,
      sym (laws.value_member_is start.at part.at key e) ∙ ap₂ (p.value_member start.at) u q,
      (le-leb 2 (level e) (subst (λ v. 2 ≤ v.level) (sym q) h), (place, (c, subst (λ v. Spells key v c) (sym same) r, (a, colon, s)))),
    )

pub read_short_member : (one : Identifier) (from to : Tokens) → name one from to → ReadMember InObject (p.short_member one) from to
unfolding Spells
read_short_member one from to h = (t.MemberOf one.at false kind.Short (t.KeyWord one.name) t.absent t.absent, sym (laws.short_member_is one), (refl, h))

pub read_no_members : (now : Tokens) → ReadMembers none now now
unfolding Spells
read_no_members now = (t.none, sym cut_none, refl)

pub read_members_comma : (list : Sorted (t.list t.member)) (from a to : Tokens) → ReadJoined list from a → the "," a to → ReadMembers list from to
read_members_comma list from a to (tree, q, r) c = (tree, q, members_comma (Spells tree) from a to r c)

pub read_members_last : (list : Sorted (t.list t.member)) (one : Sorted t.member) (from a to : Tokens) → ReadMembers list from a → ReadMember InObject one a to → ReadJoined (and_then list one) from to
read_members_last list one from a to (tree, q, r) (last, u, s) =
    (followed tree last, sym (cut_and_then tree last) ∙ ap₂ and_then q u, members_last {last = Spells last} (grown tree last) from a to r s)

-- Classes.

pub read_no_class_members : (derived : Bool) (now : Tokens) → ReadInClass derived none now now
unfolding Spells
read_no_class_members derived now = (t.none, sym cut_none, no_more)

pub read_class_semicolon : (derived : Bool) (list : Sorted (t.list t.member)) (from a to : Tokens) → ReadInClass derived list from a → the ";" a to → ReadInClass derived list from to
read_class_semicolon derived list from a to (tree, q, r) c = (tree, q, class_semicolon derived (Spells tree) from a to r c)

pub read_class_more : (derived : Bool) (list : Sorted (t.list t.member)) (one : Sorted t.member) (from a to : Tokens) → ReadInClass derived list from a → ReadMember (InClass derived) one a to → ReadInClass derived (and_then list one) from to
read_class_more derived list one from a to (tree, q, r) (last, u, s) =
    (followed tree last, sym (cut_and_then tree last) ∙ ap₂ and_then q u, class_more derived {last = Spells last} (grown tree last) from a to r s)

class_read : (named : Bool) (at : ℕ) (own : Option Identifier) (parent : Option (Sorted t.expression)) (members : Sorted (t.list t.member)) (from a b c d e to : Tokens) →
    here at (the "class") from a → class_name named own a b → ReadParent parent b c → the "{" c d → ReadInClass (elim parent [ None ↦ false | Some of ↦ true ]) members d e → the "}" e to → ReadClass named (p.class at own parent members) from to
unfolding Spells
class_read named at own None members from a b c d e to (place, word) name_is none_is brace (list, q, r) close =
    (t.ClassOf at own t.absent list, sym (laws.class_is at own t.absent list) ∙ ap (p.class at own None) q, (place, (a, word, (b, name_is, (d, subst (λ u. the "{" u d) (sym none_is) brace, (e, r, close))))))
class_read named at own (Some of) members from a b c d e to (place, word) name_is (h, extends, (parent, u, l, s)) brace (list, q, r) close = (
  t.ClassOf at own (t.present parent) list,
  sym (laws.class_is at own (t.present parent) list) ∙ ap₂ (λ v. p.class at own (Some v)) u q,
  (place, (a, word, (b, name_is, (h, extends, (c, (l, s), (d, brace, (e, r, close))))))),
)

pub read_class_expression : (at : ℕ) (own : Option Identifier) (parent : Option (Sorted t.expression)) (members : Sorted (t.list t.member)) (from a to : Tokens) →
    MemberOpen (m.Class (record { at = at; name = own; role = role.Expression; parent = parent }) members) from a → the "}" a to → Read (p.class_expression at (p.class at own parent members)) from to
unfolding Spells
read_class_expression at own parent members from a to (d, (c, (b, (ok, (h, word, named)), behind), brace), inner) close =
    let (tree, q, r) = class_read false at own parent members from h b c d a to word named behind brace inner close in
    (t.Class tree, sym (laws.class_expression_is at tree) ∙ ap (p.class_expression at) q, word.0, r)

pub read_class_statement : (at : ℕ) (own : Option Identifier) (parent : Option (Sorted t.expression)) (members : Sorted (t.list t.member)) (from a to : Tokens) →
    MemberOpen (m.Class (record { at = at; name = own; role = role.Statement; parent = parent }) members) from a → the "}" a to → ReadLine true false (p.class_statement (p.class at own parent members)) from to
unfolding Spells
read_class_statement at None parent members from a to (d, (c, (b, (ok, (h, word, named)), behind), brace), inner) close = absurd ok
read_class_statement at (Some own) parent members from a to (d, (c, (b, (ok, (h, word, named)), behind), brace), inner) close =
    let (tree, q, r) = class_read true at (Some own) parent members from h b c d a to word named behind brace inner close in
    (t.ClassStatement tree, sym (laws.class_statement_is tree) ∙ ap p.class_statement q, refl, refl, r)

pub read_class_default : (at place : ℕ) (own : Option Identifier) (parent : Option (Sorted t.expression)) (members : Sorted (t.list t.member)) (from a to : Tokens) →
    MemberOpen (m.Class (record { at = at; name = own; role = role.Default place; parent = parent }) members) from a → the "}" a to → ReadItem (p.default_class place (p.class at own parent members)) from to
unfolding Spells
read_class_default at place own parent members from a to (d, (c, (b, (ok, (h, (n, (l, export, (there, default)), word), named)), behind), brace), inner) close =
    let (tree, q, r) = class_read false at own parent members n h b c d a to word named behind brace inner close in
    (t.ExportDefault place (t.DefaultClass tree) semi.Missing, sym (laws.default_class_is place tree) ∙ ap (p.default_class place) q, (l, export, (there, (n, default, (refl, r)))))
