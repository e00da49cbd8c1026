-- The tokens of classes are read as them.
use Rattle.std.proofs.Common.{◌≡◌, ◌∙◌, sym, ap, subst, refl, ℕ, Bool, true, false, [], ◌∷◌, codes, Option, Some, None, zero-le, true≢false}
use Rattle.es_model.specs.declared.kinds.FunctionKind.{FunctionKind}
use Rattle.es_model.specs.declared.kinds.MemberKind.{MemberKind}
use Rattle.es_model.specs.declared.kinds.MemberKind.TheVariants as m
use Rattle.es_model.specs.declared.names.Identifier.{Identifier}
use Rattle.es_model.specs.declared.token.Token.{Token}
use Rattle.es_model.specs.declared.token.TokenKind.{TokenKind}
use Rattle.es_model.specs.Tree as t
use Rattle.es_model.specs.Tree.{Tree}
use Rattle.es_model.specs.Levels.{InClass, is_constructor_key}
use Rattle.es_model.specs.Readings.{Tokens, One, the, maybe_name, word, ◌▸◌}
use Rattle.es_model.specs.Spelling.{Spells, member_function_kind, AsMember, class_members, Semicolons, no_more, one_more, class_name}
use Rattle.js_parser.specs.declared.words.Word.{Word}
use Rattle.js_parser.specs.declared.words.Word.TheVariants as w
use Rattle.js_parser.specs.Frame as f
use Rattle.js_parser.specs.MemberFrame as mf
use Rattle.js_parser.specs.MemberDue as md
use Rattle.js_parser.specs.ClassStart.{ClassStart}
use Rattle.js_parser.specs.declared.frame.Role.{Role}
use Rattle.js_parser.specs.declared.frame.Role.TheVariants as role
use Rattle.js_parser.specs.Words.{word_of}
use Rattle.parser_forms.specs.Kept.{Sorted, none, and_then, followed}
use Rattle.js_parser.specs.Cut.{cut}
use Rattle.js_parser.specs.State.{Frames, State, operand_due, read, member_part, the_word}
use Rattle.js_parser.specs.Ends.{put, put_item, class_end_as, is_derived}
use Rattle.parser_forms.specs.Parts.{method_kind}
use Rattle.js_parser.specs.MemberSteps.{start_of, member_start, class_member, fixed_member, class_next, class_name as own_name}
use Rattle.parser_forms.specs.Parts as p
use Rattle.js_parser.specs.Machine.{run}
use Rattle.js_parser.proofs.Laws.{cut_none, cut_and_then}
use Rattle.js_parser.proofs.CompleteBase.{takes, takes_name, here_at, follows, place, Reads, Each, appended, appended_none, reach, grips}
use Rattle.js_parser.proofs.CompleteClaims.{ReadsFunction, ReadsKey, ReadsMember, ReadsClass}
use Rattle.js_parser.proofs.CompleteKeys.{Keyed, IsFunction, is_key_start, is_static, starts_start, no_start, static_key}
use Rattle.js_parser.proofs.CompleteFunctions.{Named}
use Rattle.js_parser.proofs.CompleteMembers.{MethodRead, method_reading, behind_nothing, behind_key, reads_member}
use Rattle.js_parser.proofs.FormLaws.{function_is, function_member_is, key_word_is, class_is, class_expression_is}
use Rattle.js_parser.specs.Summary.{part_of, key_of}

abbrev InTheClass : Tree t.member → Tokens → Tokens → ClassStart → Tree (t.list t.member) → Frames → Type 0
InTheClass one from to start sofar frames =
    run (member_part md.Member (f.Member (mf.Class start (cut sofar)) ∷ frames)) from ≡ run (member_part md.Member (f.Member (mf.Class start (cut (followed sofar one))) ∷ frames)) to

-- the kind of the function of a member of a class
class_due : (kind : MemberKind) → IsFunction kind → (fixed : Bool) (key : Tree t.key) (derived : Bool) → method_kind kind fixed (is_constructor_key key) derived ≡ member_function_kind (InClass derived) fixed kind key
class_due m.Getter ok fixed key derived = refl
class_due m.Setter ok fixed key derived = refl
class_due m.Method ok true key derived = refl
class_due m.Method ok false key derived = by (is_constructor_key key) refl derived
  where
    by : (x : Bool) → is_constructor_key key ≡ x → (derived : Bool) → method_kind m.Method false (is_constructor_key key) derived ≡ member_function_kind (InClass derived) false m.Method key
    by true e true = rw e refl
    by true e false = rw e refl
    by false e derived = rw e refl
class_due _ ok fixed key derived = absurd ok

-- what a method of a class leaves
class_end_of : (kind : MemberKind) → IsFunction kind → (fixed : Bool) (key : Tree t.key) (derived : Bool) (function : Tree t.function) (at : ℕ) (start : ClassStart) → is_derived start ≡ derived →
    (sofar : Tree (t.list t.member)) (frames : Frames) (st : State) (rest to : Tokens) →
    MethodRead st rest (f.Member (mf.Class start (cut sofar)) ∷ frames) at fixed kind key function (member_function_kind (InClass derived) fixed kind key) to →
    run st rest ≡ run (member_part md.Member (f.Member (mf.Class start (cut (followed sofar (t.MemberOf at fixed kind key t.absent (t.present function))))) ∷ frames)) to
class_end_of kind ok fixed key derived function at start e sofar frames st rest to found =
    found.reading
    ∙ ap (λ members. run (member_part md.Member (f.Member (mf.Class start members) ∷ frames)) to)
    (ap (and_then (cut sofar))
    (ap (λ due. p.function_member at fixed kind (key_of key) (p.function at None due found.parameters (cut found.statements))) (ap (method_kind kind fixed (is_constructor_key key)) e ∙ class_due kind ok fixed key derived)
    ∙ ap (p.function_member at fixed kind (key_of key)) (function_is at None (member_function_kind (InClass derived) fixed kind key) found.parameters found.statements ∙ ap cut found.whole)
    ∙ function_member_is at fixed kind key function)
    ∙ cut_and_then sofar (t.MemberOf at fixed kind key t.absent (t.present function)))

class_starts : (frames : Frames) (start : ClassStart) (members : Sorted (t.list t.member)) (token : Token) (word : Word) → is_key_start word ≡ true → is_static word ≡ false →
    class_member frames start members token word ≡ member_start (f.Member (mf.Class start members) ∷ frames) token.at false token
class_starts frames start members token w.RightBrace h c = absurd (true≢false (sym h))
class_starts frames start members token w.Semicolon h c = absurd (true≢false (sym h))
class_starts frames start members token w.Static h c = absurd (true≢false c)
class_starts frames start members token _ h c = refl

class_static : (frames : Frames) (start : ClassStart) (members : Sorted (t.list t.member)) (token : Token) (word : Word) → is_static word ≡ true →
    class_member frames start members token word ≡ member_part (md.Fixed token.at) (f.Member (mf.Class start members) ∷ frames)
class_static frames start members token w.Static c = refl
class_static frames start members token _ c = absurd (true≢false (sym c))

fixed_starts : (frames : Frames) (at : ℕ) (token : Token) (word : Word) → is_key_start word ≡ true → fixed_member frames at token word ≡ member_start frames at true token
fixed_starts frames at token w.LeftParen h = absurd (true≢false (sym h))
fixed_starts frames at token _ h = refl

-- `static` was the key
static_keyed : (frames : Frames) (at : ℕ) (function : Tree t.function) (due : FunctionKind) (kind : MemberKind) (mid to : Tokens) → Spells function (AsMember at due kind) mid to →
    Keyed (member_part (md.Fixed at) frames) mid frames at false m.Method (t.KeyWord (codes "static")) mid
unfolding Spells word
static_keyed frames at (t.FunctionOf made_at own made parameters body) due kind mid to d = (
  None,
  takes _ mid d.1.0 d.1.1 (member_part (md.Fixed at) frames)
      ∙ sym (takes _ mid d.1.0 d.1.1 (member_part (md.Key (start_of at false m.Method (p.key (t.KeyWord (codes "static")))) None) frames))
      ∙ ap (λ key. run (member_part (md.Key (start_of at false m.Method key) None) frames) mid) (key_word_is (codes "static")),
)

function_in_class : (kind : MemberKind) → IsFunction kind → (key : Tree t.key) (function : Tree t.function) → ReadsKey key → ReadsFunction function → (derived : Bool) (at : ℕ) (from to : Tokens) → place from ≡ at →
    method_reading at kind key function (member_function_kind (InClass derived) false kind key) from to → (start : ClassStart) → is_derived start ≡ derived → (sofar : Tree (t.list t.member)) (frames : Frames) →
    InTheClass (t.MemberOf at false kind key t.absent (t.present function)) from to start sofar frames
function_in_class kind ok key function reads_key reads derived at [] to e d start h sofar frames = absurd (no_start kind ok key d.2.0 (d.0, d.1, d.2.1))
function_in_class kind ok key function reads_key reads derived at (token ∷ rest) to e d start h sofar frames = by (is_static (the_word token)) refl
  where
    all : Frames
    all = f.Member (mf.Class start (cut sofar)) ∷ frames

    due : FunctionKind
    due = member_function_kind (InClass derived) false kind key

    by : (x : Bool) → is_static (the_word token) ≡ x → InTheClass (t.MemberOf at false kind key t.absent (t.present function)) (token ∷ rest) to start sofar frames
    by false s =
        ap (λ st. run st rest) (class_starts frames start (cut sofar) token (the_word token) (starts_start kind ok key token rest d.2.0 (d.0, d.1, d.2.1)) s)
        ∙ ap (λ a. run (member_start all a false token) rest) e
        ∙ class_end_of kind ok false key derived function at start h sofar frames (member_start all at false token) rest to (reads_member kind ok key reads_key function reads due at false all token rest to d)
    by true s =
        let static = static_key kind ok key token rest d.2.0 (d.0, d.1, d.2.1) s in
        let keyed : Keyed (member_part (md.Fixed at) all) rest all at false kind key d.2.0 =
        subst (λ kind. Keyed (member_part (md.Fixed at) all) rest all at false kind key d.2.0) (sym static.0)
        (subst (λ key. Keyed (member_part (md.Fixed at) all) rest all at false m.Method key d.2.0) (sym static.1)
        (subst (λ tokens. Keyed (member_part (md.Fixed at) all) tokens all at false m.Method (t.KeyWord (codes "static")) d.2.0) (sym static.2) (static_keyed all at function due kind d.2.0 to d.2.2))) in
        ap (λ st. run st rest) (class_static frames start (cut sofar) token (the_word token) s)
        ∙ ap (λ a. run (member_part (md.Fixed a) all) rest) e
        ∙ class_end_of kind ok false key derived function at start h sofar frames (member_part (md.Fixed at) all) rest to (behind_key function reads kind ok key due at false all (member_part (md.Fixed at) all) rest d.2.0 to keyed d.2.2)

fixed_in_class : (kind : MemberKind) → IsFunction kind → (key : Tree t.key) (function : Tree t.function) → ReadsKey key → ReadsFunction function → (derived : Bool) (at : ℕ) (from to : Tokens) → place from ≡ at →
    (the "static" ▸ method_reading at kind key function (member_function_kind (InClass derived) true kind key)) from to → (start : ClassStart) → is_derived start ≡ derived → (sofar : Tree (t.list t.member)) (frames : Frames) →
    InTheClass (t.MemberOf at true kind key t.absent (t.present function)) from to start sofar frames
unfolding word
fixed_in_class kind ok key function reads_key reads derived at from to e d start h sofar frames =
    takes _ from d.0 d.1 (member_part md.Member all)
    ∙ ap (λ a. run (member_part (md.Fixed a) all) d.0) e
    ∙ by d.0 d.2
  where
    all : Frames
    all = f.Member (mf.Class start (cut sofar)) ∷ frames

    due : FunctionKind
    due = member_function_kind (InClass derived) true kind key

    by : (from : Tokens) → method_reading at kind key function due from to →
        run (member_part (md.Fixed at) all) from ≡ run (member_part md.Member (f.Member (mf.Class start (cut (followed sofar (t.MemberOf at true kind key t.absent (t.present function))))) ∷ frames)) to
    by [] d = absurd (no_start kind ok key d.2.0 (d.0, d.1, d.2.1))
    by (token ∷ rest) d =
        ap (λ st. run st rest) (fixed_starts all at token (the_word token) (starts_start kind ok key token rest d.2.0 (d.0, d.1, d.2.1)))
        ∙ class_end_of kind ok true key derived function at start h sofar frames (member_start all at true token) rest to (reads_member kind ok key reads_key function reads due at true all token rest to d)

in_class : (one : Tree t.member) → ReadsMember one → (derived : Bool) (from to : Tokens) → Spells one (InClass derived) from to → (start : ClassStart) → is_derived start ≡ derived →
    (sofar : Tree (t.list t.member)) (frames : Frames) → InTheClass one from to start sofar frames
unfolding Spells
in_class (t.MemberOf at false m.Method key t.absent (t.present function)) reads derived from to d =
    function_in_class m.Method tt key function reads.0 reads.2 derived at from to (here_at at from d.1.1.0) (behind_nothing (method_reading at m.Method key function (member_function_kind (InClass derived) false m.Method key)) from to d.1.1.1)
in_class (t.MemberOf at false m.Getter key t.absent (t.present function)) reads derived from to d =
    function_in_class m.Getter tt key function reads.0 reads.2 derived at from to (here_at at from d.1.1.0) (behind_nothing (method_reading at m.Getter key function (member_function_kind (InClass derived) false m.Getter key)) from to d.1.1.1)
in_class (t.MemberOf at false m.Setter key t.absent (t.present function)) reads derived from to d =
    function_in_class m.Setter tt key function reads.0 reads.2 derived at from to (here_at at from d.1.1.0) (behind_nothing (method_reading at m.Setter key function (member_function_kind (InClass derived) false m.Setter key)) from to d.1.1.1)
in_class (t.MemberOf at true m.Method key t.absent (t.present function)) reads derived from to d = fixed_in_class m.Method tt key function reads.0 reads.2 derived at from to (here_at at from d.1.1.0) d.1.1.1
in_class (t.MemberOf at true m.Getter key t.absent (t.present function)) reads derived from to d = fixed_in_class m.Getter tt key function reads.0 reads.2 derived at from to (here_at at from d.1.1.0) d.1.1.1
in_class (t.MemberOf at true m.Setter key t.absent (t.present function)) reads derived from to d = fixed_in_class m.Setter tt key function reads.0 reads.2 derived at from to (here_at at from d.1.1.0) d.1.1.1
in_class (t.MemberOf at fixed m.Value key (t.present value) t.absent) reads derived from to d = absurd d.1
in_class (t.MemberOf at fixed m.Short key t.absent t.absent) reads derived from to d = absurd d.1
in_class (t.MemberOf at fixed kind key value function) reads derived from to d = absurd d.1

-- The members, and the semicolons among them.

reads_semicolons : (frames : Frames) (start : ClassStart) (members : Sorted (t.list t.member)) {from to : Tokens} → Semicolons from to →
    run (member_part md.Member (f.Member (mf.Class start members) ∷ frames)) from ≡ run (member_part md.Member (f.Member (mf.Class start members) ∷ frames)) to
unfolding word
reads_semicolons frames start members no_more = refl
reads_semicolons frames start members (one_more {from = from} {mid = mid} {to = to} d rest) = takes _ from mid d (member_part md.Member (f.Member (mf.Class start members) ∷ frames)) ∙ reads_semicolons frames start members rest

members_of : (list : Tree (t.list t.member)) → Each ReadsMember list → (derived : Bool) (start : ClassStart) → is_derived start ≡ derived → (sofar : Tree (t.list t.member)) (frames : Frames) (from to : Tokens) →
    class_members derived (Spells list) from to →
    run (member_part md.Member (f.Member (mf.Class start (cut sofar)) ∷ frames)) from ≡ run (member_part md.Member (f.Member (mf.Class start (cut (appended sofar list))) ∷ frames)) to
unfolding Spells
members_of t.none reads derived start h sofar frames from to d = reads_semicolons frames start (cut sofar) d
members_of (t.more one rest) reads derived start h sofar frames from to d =
    reads_semicolons frames start (cut sofar) d.1
    ∙ in_class one reads.0 derived d.0 d.2.0 d.2.1 start h sofar frames
    ∙ members_of rest reads.1 derived start h (followed sofar one) frames d.2.0 to d.2.2

-- The name, and the parent.

-- a token of a kind that is no name, behind `class` where there is no name
abbrev NoName : TokenKind → Type 0
NoName kind = (stands : Role) → Named stands None → (frames : Frames) (at where_at : ℕ) → own_name frames at stands kind where_at (word_of kind) ≡ class_next frames at None stands (word_of kind)

no_name_extends : NoName (word "extends")
unfolding word
no_name_extends role.Statement n frames at where_at = absurd n
no_name_extends role.Expression n frames at where_at = refl
no_name_extends (role.Default place) n frames at where_at = refl

no_name_brace : NoName (word "{")
unfolding word
no_name_brace role.Statement n frames at where_at = absurd n
no_name_brace role.Expression n frames at where_at = refl
no_name_brace (role.Default place) n frames at where_at = refl

reads_own : (own : Option Identifier) (stands : Role) → Named stands own → (kind : TokenKind) → NoName kind → (at : ℕ) (frames : Frames) (from mid to : Tokens) → maybe_name own from mid → One (λ token. token.kind ≡ kind) mid to →
    run (member_part (md.ClassName at stands) frames) from ≡ run (class_next frames at own stands (word_of kind)) to
reads_own (Some own) stands n kind free at frames from mid to d c =
    takes_name own from mid d (member_part (md.ClassName at stands) frames)
    ∙ takes kind mid to c (member_part (md.ClassNext at (Some own) stands) frames)
reads_own None stands n kind free at frames from mid to d c =
    ap (run (member_part (md.ClassName at stands) frames)) d
    ∙ takes kind mid to c (member_part (md.ClassName at stands) frames)
    ∙ ap (λ st. run st to) (free stands n frames at (place mid))

-- the name of a class, where there must be one
name_there : (named : Bool) (own : Option Identifier) (from to : Tokens) → class_name named own from to → maybe_name own from to
name_there true None from to d = absurd d
name_there true (Some own) from to d = d
name_there false own from to d = d

abbrev start_class : ℕ → Option Identifier → Role → Option (Sorted t.expression) → ClassStart
start_class at own stands parent = record { at = at; name = own; role = stands; parent = parent }

-- the members in their braces
class_body : (start : ClassStart) (derived : Bool) → is_derived start ≡ derived → (members : Tree (t.list t.member)) → Each ReadsMember members → (frames : Frames) (from mid to : Tokens) → class_members derived (Spells members) from mid → the "}" mid to →
    run (member_part md.Member (f.Member (mf.Class start none) ∷ frames)) from ≡ run (class_end_as frames start.role start.at (p.class start.at start.name start.parent (cut members))) to
unfolding word
class_body start derived h members reads frames from mid to d c =
    ap (λ list. run (member_part md.Member (f.Member (mf.Class start list) ∷ frames)) from) cut_none
    ∙ members_of members reads derived start h t.none frames from mid d
    ∙ ap (λ list. run (member_part md.Member (f.Member (mf.Class start (cut list)) ∷ frames)) mid) (appended_none members)
    ∙ takes _ mid to c (member_part md.Member (f.Member (mf.Class start (cut members)) ∷ frames))

-- behind the word `class`
pub class_behind : (own : Option Identifier) (parent : Tree (t.option t.expression)) (members : Tree (t.list t.member)) → ReadsClass (t.ClassOf 0 own parent members) → (named : Bool) (at : ℕ) (from to : Tokens) →
    Spells (t.ClassOf at own parent members) named from to → (stands : Role) → Named stands own →
    (mid : Tokens) × the "class" from mid × ((frames : Frames) → run (member_part (md.ClassName at stands) frames) mid ≡ run (class_end_as frames stands at (cut (t.ClassOf at own parent members))) to)
unfolding Spells word
class_behind own t.absent members reads named at from to d stands n = (
  d.1.0,
  d.1.1,
  λ frames.
      let c = d.1.2 in
      let start : ClassStart = start_class at own stands None in
      reads_own own stands n (word "{") no_name_brace at frames d.1.0 c.0 c.2.0 (name_there named own d.1.0 c.0 c.1) c.2.1
      ∙ class_body start false refl members reads.1 frames c.2.0 c.2.2.0 to c.2.2.1 c.2.2.2
      ∙ ap (λ class. run (class_end_as frames stands at class) to) (class_is at own t.absent members),
)
class_behind own (t.present parent) members reads named at from to d stands n = (
  d.1.0,
  d.1.1,
  λ frames.
      let c = d.1.2 in
      let start : ClassStart = start_class at own stands (Some (cut parent)) in
      reads_own own stands n (word "extends") no_name_extends at frames d.1.0 c.0 c.2.0 (name_there named own d.1.0 c.0 c.1) c.2.1
      ∙ reads.0 c.2.0 c.2.2.0 c.2.2.1.1 (f.Member (mf.Parent at own stands) ∷ frames) (grips parent 17 c.2.2.1.0) (follows _ c.2.2.0 c.2.2.2.0 c.2.2.2.1 (reach parent) (λ line. zero-le))
      ∙ takes _ c.2.2.0 c.2.2.2.0 c.2.2.2.1 (read (part_of (place c.2.0) parent) (f.Member (mf.Parent at own stands) ∷ frames))
      ∙ class_body start true refl members reads.1 frames c.2.2.2.0 c.2.2.2.2.0 to c.2.2.2.2.1 c.2.2.2.2.2
      ∙ ap (λ class. run (class_end_as frames stands at class) to) (class_is at own (t.present parent) members),
)

class_at : (at : ℕ) (own : Option Identifier) (parent : Tree (t.option t.expression)) (members : Tree (t.list t.member)) (named : Bool) (from to : Tokens) → Spells (t.ClassOf at own parent members) named from to → place from ≡ at
unfolding Spells
class_at at own t.absent members named from to d = here_at at from d.0
class_at at own (t.present parent) members named from to d = here_at at from d.0

nameless : (at : ℕ) (parent : Tree (t.option t.expression)) (members : Tree (t.list t.member)) (from to : Tokens) → Spells (t.ClassOf at None parent members) true from to → ⊥
unfolding Spells
nameless at t.absent members from to d = d.1.2.1
nameless at (t.present parent) members from to d = d.1.2.1

-- as an expression
pub reads_class_expression : (class : Tree t.class) → ReadsClass class → Reads (t.Class class)
unfolding Spells word
reads_class_expression (t.ClassOf at own parent members) reads from to d frames fits follow =
    let e : place from ≡ at = class_at at own parent members false from to d in
    let found = class_behind own parent members reads false at from to d role.Expression tt in
    takes _ from found.0 found.1 (operand_due frames)
    ∙ ap (λ a. run (member_part (md.ClassName a role.Expression) frames) found.0) e
    ∙ found.2 frames
    ∙ ap (λ part. run (read part frames) to) (class_expression_is at (t.ClassOf at own parent members) ∙ ap (λ a. part_of a (t.Class (t.ClassOf at own parent members))) (sym e))

-- as a statement, and as a default export: behind the word `class`

pub reads_declared_class : (class : Tree t.class) → ReadsClass class → (from to : Tokens) → Spells class true from to →
    (mid : Tokens) × the "class" from mid × ((frames : Frames) → run (member_part (md.ClassName (place from) role.Statement) frames) mid ≡ run (put frames (p.class_statement (cut class))) to)
reads_declared_class (t.ClassOf at None parent members) reads from to d = absurd (nameless at parent members from to d)
reads_declared_class (t.ClassOf at (Some own) parent members) reads from to d =
    let e : place from ≡ at = class_at at (Some own) parent members true from to d in
    let found = class_behind (Some own) parent members reads true at from to d role.Statement tt in
    (found.0, found.1, λ frames. ap (λ a. run (member_part (md.ClassName a role.Statement) frames) found.0) e ∙ found.2 frames)

pub reads_default_class : (class : Tree t.class) → ReadsClass class → (default : ℕ) (from to : Tokens) → Spells class false from to →
    (mid : Tokens) × the "class" from mid × ((frames : Frames) → run (member_part (md.ClassName (place from) (role.Default default)) frames) mid ≡ run (put_item frames (p.default_class default (cut class))) to)
reads_default_class (t.ClassOf at own parent members) reads default from to d =
    let e : place from ≡ at = class_at at own parent members false from to d in
    let found = class_behind own parent members reads false at from to d (role.Default default) tt in
    (found.0, found.1, λ frames. ap (λ a. run (member_part (md.ClassName a (role.Default default)) frames) found.0) e ∙ found.2 frames)
