-- The tokens of the members of object literals and classes are read as them, and those of these.
use Rattle.std.proofs.Common.{◌≡◌, ◌∙◌, sym, ap, subst, refl, ℕ, ◌≤◌, Bool, true, false, List, [], ◌∷◌, arith, Option, Some, None, true≢false, ◌⊎◌, inl, inr}
use Rattle.std.proofs.lemmas.Bool.{lt-leb, leb-true}
use Rattle.es_model.specs.declared.kinds.FunctionKind.{FunctionKind}
use Rattle.es_model.specs.declared.kinds.MemberKind.{MemberKind}
use Rattle.es_model.specs.declared.kinds.MemberKind.TheVariants as m
use Rattle.es_model.specs.declared.names.Identifier.{Identifier}
use Rattle.es_model.specs.declared.token.Token.{Token}
use Rattle.es_model.specs.Tree as t
use Rattle.es_model.specs.Tree.{Tree}
use Rattle.es_model.specs.Levels.{level, InObject}
use Rattle.es_model.specs.Readings.{Tokens, Reading, the, name, nothing, word, ◌▸◌}
use Rattle.es_model.specs.Spelling.{Spells, braces, member_parameters, member_function_kind, accessor_word, AsMember, object_members}
use Rattle.js_parser.specs.declared.words.Word.{Word}
use Rattle.js_parser.specs.declared.words.Word.TheVariants as w
use Rattle.js_parser.specs.Frame as f
use Rattle.js_parser.specs.MemberFrame as mf
use Rattle.js_parser.specs.MemberDue as md
use Rattle.js_parser.specs.MemberStart.{MemberStart}
use Rattle.parser_forms.specs.declared.parts.KeyPart.{KeyPart}
use Rattle.js_parser.specs.Signature as g
use Rattle.parser_forms.specs.Kept.{Sorted, and_then, followed}
use Rattle.js_parser.specs.Cut.{cut}
use Rattle.js_parser.specs.Tables.{gives}
use Rattle.js_parser.specs.State.{Frames, State, operand_due, read, member_part, the_word}
use Rattle.js_parser.specs.Settle.{object_next}
use Rattle.js_parser.specs.Ends.{method_end}
use Rattle.parser_forms.specs.Parts.{method_kind}
use Rattle.js_parser.specs.MemberSteps.{start_of, member_start, key_next, parameters_of, object_member, member_next}
use Rattle.parser_forms.specs.Parts as p
use Rattle.js_parser.specs.Machine.{run}
use Rattle.js_parser.proofs.Laws.{cut_none, cut_and_then}
use Rattle.js_parser.proofs.CompleteBase.{takes, takes_name, here_at, place, line, needs, Follow, Reads, Each, appended, appended_none, reach, grips, reaches, follow_least, if_false, gives_comma}
use Rattle.js_parser.proofs.CompleteFirst.{Starts, starts_at, starts_more}
use Rattle.js_parser.proofs.CompleteClaims.{ReadsStatement, ReadsFunction, ReadsKey, ReadsMember}
use Rattle.js_parser.proofs.CompleteKeys.{Keyed, IsFunction, is_key_end, is_key_start, reads_name_key, plain_start, reads_start, starts_start, no_start, key_starts, no_key}
use Rattle.js_parser.proofs.CompleteFunctions.{reads_names, reads_body}
use Rattle.js_parser.proofs.FormLaws.{function_is, function_member_is, short_member_is, value_member_is, object_is}
use Rattle.js_parser.specs.Summary.{part_of, key_of}

-- The parameters and the body of a member that is a function.

reads_parameters : (kind : MemberKind) → IsFunction kind → (list : List Identifier) (at : ℕ) (fixed : Bool) (key : KeyPart) (frames : Frames) (from mid to : Tokens) → member_parameters kind list from mid → the ")" mid to →
    run (member_part (md.Parameter (g.Method (start_of at fixed kind key)) []) frames) from ≡ run (member_part (md.Body (g.Method (start_of at fixed kind key)) list) frames) to
unfolding word
reads_parameters m.Getter ok [] at fixed key frames from mid to d c =
    ap (run (member_part (md.Parameter (g.Method (start_of at fixed m.Getter key)) []) frames)) d
    ∙ takes _ mid to c (member_part (md.Parameter (g.Method (start_of at fixed m.Getter key)) []) frames)
reads_parameters m.Getter ok (one ∷ rest) at fixed key frames from mid to d c = absurd d
reads_parameters m.Setter ok [] at fixed key frames from mid to d c = absurd d
reads_parameters m.Setter ok (one ∷ []) at fixed key frames from mid to d c =
    takes_name one from mid d (member_part (md.Parameter (g.Method (start_of at fixed m.Setter key)) []) frames)
    ∙ takes _ mid to c (member_part (md.ParameterNext (g.Method (start_of at fixed m.Setter key)) (one ∷ [])) frames)
reads_parameters m.Setter ok (one ∷ other ∷ rest) at fixed key frames from mid to d c = absurd d
reads_parameters m.Method ok list at fixed key frames from mid to d c = reads_names list (g.Method (start_of at fixed m.Method key)) refl refl frames from mid to d c
reads_parameters _ ok list at fixed key frames from mid to d c = absurd ok

opens_parameters : (frames : Frames) (start : MemberStart) (short : Option Identifier) → key_next frames start short w.LeftParen ≡ parameters_of start frames
opens_parameters [] start short = refl
opens_parameters (f.Member (mf.Object at members) ∷ frames) start short = refl
opens_parameters (_ ∷ frames) start short = refl

reads_method : (kind : MemberKind) → IsFunction kind → (parameters : List Identifier) (list : Tree (t.list t.statement)) → Each ReadsStatement list →
    (at : ℕ) (fixed : Bool) (key : KeyPart) (short : Option Identifier) (frames : Frames) (from to : Tokens) →
    (the "(" ▸ member_parameters kind parameters ▸ the ")" ▸ braces (Spells list)) from to →
    run (member_part (md.Key (start_of at fixed kind key) short) frames) from ≡ run (method_end frames (start_of at fixed kind key) parameters (cut list)) to
unfolding word
reads_method kind ok parameters list reads at fixed key short frames from to d =
    let start : MemberStart = start_of at fixed kind key in
    takes _ from d.0 d.1 (member_part (md.Key start short) frames)
    ∙ ap (λ st. run st d.0) (opens_parameters frames start short)
    ∙ reads_parameters kind ok parameters at fixed key frames d.0 d.2.0 d.2.2.0 d.2.1 d.2.2.1
    ∙ reads_body list reads (g.Method start) parameters frames d.2.2.0 to d.2.2.2

-- a member that is a function, from its key or the word before it on
pub record MethodRead (st : State) (rest : Tokens) (frames : Frames) (at : ℕ) (fixed : Bool) (kind : MemberKind) (key : Tree t.key) (function : Tree t.function) (due : FunctionKind) (to : Tokens) : Type 0 where
  pub parameters : List Identifier
  pub statements : Tree (t.list t.statement)
  pub whole : t.FunctionOf at None due parameters (t.BodyStatements statements) ≡ function
  pub reading : run st rest ≡ run (method_end frames (start_of at fixed kind (key_of key)) parameters (cut statements)) to

pub key_end : (function : Tree t.function) (at : ℕ) (due : FunctionKind) (kind : MemberKind) (from to : Tokens) → Spells function (AsMember at due kind) from to → Starts is_key_end from
unfolding Spells word
key_end (t.FunctionOf at own made parameters body) place_of due kind from to d = starts_at is_key_end _ refl from d.1.0 d.1.1

pub behind_key : (function : Tree t.function) → ReadsFunction function → (kind : MemberKind) → IsFunction kind → (key : Tree t.key) (due : FunctionKind) (at : ℕ) (fixed : Bool) (frames : Frames)
    (st : State) (rest mid to : Tokens) → Keyed st rest frames at fixed kind key mid → Spells function (AsMember at due kind) mid to → MethodRead st rest frames at fixed kind key function due to
unfolding Spells
behind_key (t.FunctionOf at own made parameters (t.BodyStatements list)) reads kind ok key due place_of fixed frames st rest mid to keyed d =
    record {
      parameters = parameters;
      statements = list;
      whole = ap (λ made. t.FunctionOf place_of None made parameters (t.BodyStatements list)) (sym d.0.2)
          ∙ ap (λ own. t.FunctionOf place_of own made parameters (t.BodyStatements list)) (sym d.0.1)
          ∙ ap (λ at. t.FunctionOf at own made parameters (t.BodyStatements list)) (sym d.0.0);
      reading = keyed.1 ∙ reads_method kind ok parameters list reads place_of fixed (key_of key) keyed.0 frames mid to d.1;
    }
behind_key (t.FunctionOf at own made parameters (t.BodyExpression value)) reads kind ok key due place_of fixed frames st rest mid to keyed d = absurd (true≢false (sym d.1.2.2.2.0))

pub reads_member : (kind : MemberKind) → IsFunction kind → (key : Tree t.key) → ReadsKey key → (function : Tree t.function) → ReadsFunction function → (due : FunctionKind) (at : ℕ) (fixed : Bool) (frames : Frames)
    (token : Token) (rest to : Tokens) → (accessor_word kind ▸ Spells key ▸ Spells function (AsMember at due kind)) (token ∷ rest) to →
    MethodRead (member_start frames at fixed token) rest frames at fixed kind key function due to
reads_member kind ok key reads_key function reads due at fixed frames token rest to d =
    behind_key function reads kind ok key due at fixed frames (member_start frames at fixed token) rest d.2.0 to
    (reads_start kind ok key reads_key token rest d.2.0 (d.0, d.1, d.2.1) (key_end function at due kind d.2.0 to d.2.2) frames at fixed) d.2.2

-- Object literals.

-- the word behind a member of one
abbrev is_member_end : Word → Bool
is_member_end w.Comma = true
is_member_end w.RightBrace = true
is_member_end _ = false

end_is_end : (word : Word) → is_member_end word ≡ true → is_key_end word ≡ true
end_is_end w.Comma h = refl
end_is_end w.RightBrace h = refl
end_is_end _ h = absurd (true≢false (sym h))

end_needs : (word : Word) (line : Bool) → is_member_end word ≡ true → needs word line ≤ 1
end_needs w.Comma line h = omega arith
end_needs w.RightBrace line h = omega arith
end_needs _ line h = absurd (true≢false (sym h))

end_follows : (to : Tokens) → Starts is_member_end to → Follow 1 to
end_follows [] d = d
end_follows (token ∷ tokens) d = end_needs (the_word token) token.line_before d

-- a member with its `,` or `}` is taken as one that stands behind the members
next_member : (frames : Frames) (at : ℕ) (members : Sorted (t.list t.member)) (one : Sorted t.member) (word : Word) → is_member_end word ≡ true →
    object_next (f.Member (mf.Object at members) ∷ frames) one word ≡ member_next (f.Member (mf.Object at (and_then members one)) ∷ frames) word
next_member frames at members one w.Comma h = refl
next_member frames at members one w.RightBrace h = refl
next_member frames at members one _ h = absurd (true≢false (sym h))

object_starts : (frames : Frames) (at : ℕ) (members : Sorted (t.list t.member)) (token : Token) (word : Word) → is_key_start word ≡ true →
    object_member frames at members token word ≡ member_start (f.Member (mf.Object at members) ∷ frames) token.at false token
object_starts frames at members token w.RightBrace h = absurd (true≢false (sym h))
object_starts frames at members token _ h = refl

abbrev InLiteral : Tree t.member → Tokens → Tokens → ℕ → Tree (t.list t.member) → Frames → Type 0
InLiteral one from to at sofar frames =
    run (member_part md.Member (f.Member (mf.Object at (cut sofar)) ∷ frames)) from ≡ run (member_part md.Next (f.Member (mf.Object at (cut (followed sofar one))) ∷ frames)) to

-- behind the value of a member
behind_value : (key : Tree t.key) (place_of at : ℕ) (value : Tree t.expression) (made_at : ℕ) (sofar : Tree (t.list t.member)) (frames : Frames) (to : Tokens) → Starts is_member_end to →
    run (read (part_of place_of value) (f.Member (mf.Value (start_of at false m.Method (key_of key))) ∷ f.Member (mf.Object made_at (cut sofar)) ∷ frames)) to
    ≡ run (member_part md.Next (f.Member (mf.Object made_at (cut (followed sofar (t.MemberOf at false m.Value key (t.present value) t.absent)))) ∷ frames)) to
behind_value key place_of at value made_at sofar frames [] d = absurd d
behind_value key place_of at value made_at sofar frames (token ∷ tokens) d =
    let low : gives (the_word token) token.line_before ≤ 1 = gives_comma (the_word token) token.line_before (le_more (end_needs (the_word token) token.line_before d)) in
    ap (λ st. run st tokens)
    (if_false _ _ (lt-leb 2 (gives (the_word token) token.line_before) (omega arith))
    ∙ next_member frames made_at (cut sofar) (p.value_member at (key_of key) (part_of place_of value)) (the_word token) d
    ∙ ap (λ members. member_next (f.Member (mf.Object made_at members) ∷ frames) (the_word token))
    (ap (and_then (cut sofar)) (value_member_is at place_of key value) ∙ cut_and_then sofar (t.MemberOf at false m.Value key (t.present value) t.absent)))
  where
    le_more : needs (the_word token) token.line_before ≤ 1 → needs (the_word token) token.line_before ≤ 3
    le_more h = omega arith

value_in_object : (at : ℕ) (key : Tree t.key) (value : Tree t.expression) → ReadsKey key → Reads value → 2 ≤ level value → (from to : Tokens) → place from ≡ at → (Spells key ▸ the ":" ▸ Spells value) from to → Starts is_member_end to →
    (made_at : ℕ) (sofar : Tree (t.list t.member)) (frames : Frames) → InLiteral (t.MemberOf at false m.Value key (t.present value) t.absent) from to made_at sofar frames
unfolding word
value_in_object at key value reads_key reads h [] to e d ends made_at sofar frames = absurd (no_key key d.0 d.1)
value_in_object at key value reads_key reads h (token ∷ rest) to e d ends made_at sofar frames =
    let object : Frames = f.Member (mf.Object made_at (cut sofar)) ∷ frames in
    let keyed : Keyed (member_start object token.at false token) rest object token.at false m.Method key d.0 =
    plain_start key reads_key token.kind token.at token.line_before rest d.0 d.1 (starts_at is_key_end _ refl d.0 d.2.0 d.2.1) object token.at false in
    ap (λ st. run st rest) (object_starts frames made_at (cut sofar) token (the_word token) (key_starts key token.kind token.at token.line_before rest d.0 d.1))
    ∙ keyed.1
    ∙ takes _ d.0 d.2.0 d.2.1 (member_part (md.Key (start_of token.at false m.Method (key_of key)) keyed.0) object)
    ∙ reads d.2.0 to d.2.2 (f.Member (mf.Value (start_of token.at false m.Method (key_of key))) ∷ object) (grips value 2 h) (follow_least 1 (reach value) to (reaches value 1 (omega arith) (omega arith)) (end_follows to ends))
    ∙ ap (λ a. run (read (part_of (place d.2.0) value) (f.Member (mf.Value (start_of a false m.Method (key_of key))) ∷ object)) to) e
    ∙ behind_value key (place d.2.0) at value made_at sofar frames to ends

name_in_object : (one : Identifier) (from to : Tokens) → name one from to → Starts is_member_end to → (made_at : ℕ) (sofar : Tree (t.list t.member)) (frames : Frames) →
    InLiteral (t.MemberOf one.at false m.Short (t.KeyWord one.name) t.absent t.absent) from to made_at sofar frames
name_in_object one from to d ends made_at sofar frames =
    let object : Frames = f.Member (mf.Object made_at (cut sofar)) ∷ frames in
    takes_name one from to d (member_part md.Member object)
    ∙ reads_name_key object one.at false one.at one.name to (starts_more is_member_end is_key_end end_is_end to ends)
    ∙ by to ends
  where
    object_word : (word : Word) → is_member_end word ≡ true →
        key_next (f.Member (mf.Object made_at (cut sofar)) ∷ frames) (start_of one.at false m.Method (key_of (t.KeyWord one.name))) (Some one) word ≡ object_next (f.Member (mf.Object made_at (cut sofar)) ∷ frames) (p.short_member one) word
    object_word w.Comma h = refl
    object_word w.RightBrace h = refl
    object_word _ h = absurd (true≢false (sym h))

    by : (to : Tokens) → Starts is_member_end to →
        run (member_part (md.Key (start_of one.at false m.Method (key_of (t.KeyWord one.name))) (Some one)) (f.Member (mf.Object made_at (cut sofar)) ∷ frames)) to
        ≡ run (member_part md.Next (f.Member (mf.Object made_at (cut (followed sofar (t.MemberOf one.at false m.Short (t.KeyWord one.name) t.absent t.absent)))) ∷ frames)) to
    by [] d = absurd d
    by (token ∷ tokens) d =
        ap (λ st. run st tokens)
        (object_word (the_word token) d
        ∙ next_member frames made_at (cut sofar) (p.short_member one) (the_word token) d
        ∙ ap (λ members. member_next (f.Member (mf.Object made_at members) ∷ frames) (the_word token))
        (ap (and_then (cut sofar)) (short_member_is one) ∙ cut_and_then sofar (t.MemberOf one.at false m.Short (t.KeyWord one.name) t.absent t.absent)))

-- the kind of a method of an object literal
object_due : (kind : MemberKind) (key : Tree t.key) → method_kind kind true false false ≡ member_function_kind InObject false kind key
object_due m.Getter key = refl
object_due _ key = refl

function_in_object : (at : ℕ) (kind : MemberKind) → IsFunction kind → (key : Tree t.key) (function : Tree t.function) → ReadsKey key → ReadsFunction function → (from to : Tokens) → place from ≡ at →
    (accessor_word kind ▸ Spells key ▸ Spells function (AsMember at (member_function_kind InObject false kind key) kind)) from to → (made_at : ℕ) (sofar : Tree (t.list t.member)) (frames : Frames) →
    InLiteral (t.MemberOf at false kind key t.absent (t.present function)) from to made_at sofar frames
function_in_object at kind ok key function reads_key reads [] to e d made_at sofar frames = absurd (no_start kind ok key d.2.0 (d.0, d.1, d.2.1))
function_in_object at kind ok key function reads_key reads (token ∷ rest) to e d made_at sofar frames =
    let object : Frames = f.Member (mf.Object made_at (cut sofar)) ∷ frames in
    let due : FunctionKind = member_function_kind InObject false kind key in
    let found : MethodRead (member_start object at false token) rest object at false kind key function due to = reads_member kind ok key reads_key function reads due at false object token rest to d in
    ap (λ st. run st rest) (object_starts frames made_at (cut sofar) token (the_word token) (starts_start kind ok key token rest d.2.0 (d.0, d.1, d.2.1)))
    ∙ ap (λ a. run (member_start object a false token) rest) e
    ∙ found.reading
    ∙ ap (λ members. run (member_part md.Next (f.Member (mf.Object made_at members) ∷ frames)) to)
    (ap (and_then (cut sofar))
    (ap (λ due. p.function_member at false kind (key_of key) (p.function at None due found.parameters (cut found.statements))) (object_due kind key)
    ∙ ap (p.function_member at false kind (key_of key)) (function_is at None due found.parameters found.statements ∙ ap cut found.whole)
    ∙ function_member_is at false kind key function)
    ∙ cut_and_then sofar (t.MemberOf at false kind key t.absent (t.present function)))

abbrev pub method_reading : ℕ → MemberKind → Tree t.key → Tree t.function → FunctionKind → Reading
method_reading at kind key function due = accessor_word kind ▸ Spells key ▸ Spells function (AsMember at due kind)

-- nothing and then a reading
pub behind_nothing : (reading : Reading) (from to : Tokens) → (nothing ▸ reading) from to → reading from to
behind_nothing reading from to d = subst (λ tokens. reading tokens to) (sym d.1) d.2

in_object : (one : Tree t.member) → ReadsMember one → (from to : Tokens) → Spells one InObject from to → Starts is_member_end to → (made_at : ℕ) (sofar : Tree (t.list t.member)) (frames : Frames) →
    InLiteral one from to made_at sofar frames
unfolding Spells
in_object (t.MemberOf at false m.Value key (t.present value) t.absent) reads from to d ends =
    value_in_object at key value reads.0 reads.1 (leb-true _ _ d.0) from to (here_at at from d.1.0) d.1.1 ends
in_object (t.MemberOf at false m.Short (t.KeyWord text) t.absent t.absent) reads from to d ends = name_in_object (record { at = at; name = text }) from to d.1 ends
in_object (t.MemberOf at false m.Method key t.absent (t.present function)) reads from to d ends =
    function_in_object at m.Method tt key function reads.0 reads.2 from to (here_at at from d.1.1.0) (behind_nothing (method_reading at m.Method key function (member_function_kind InObject false m.Method key)) from to d.1.1.1)
in_object (t.MemberOf at false m.Getter key t.absent (t.present function)) reads from to d ends =
    function_in_object at m.Getter tt key function reads.0 reads.2 from to (here_at at from d.1.1.0) (behind_nothing (method_reading at m.Getter key function (member_function_kind InObject false m.Getter key)) from to d.1.1.1)
in_object (t.MemberOf at false m.Setter key t.absent (t.present function)) reads from to d ends =
    function_in_object at m.Setter tt key function reads.0 reads.2 from to (here_at at from d.1.1.0) (behind_nothing (method_reading at m.Setter key function (member_function_kind InObject false m.Setter key)) from to d.1.1.1)
in_object (t.MemberOf at true m.Method key t.absent (t.present function)) reads from to d ends = absurd (true≢false (sym d.1.0))
in_object (t.MemberOf at true m.Getter key t.absent (t.present function)) reads from to d ends = absurd (true≢false (sym d.1.0))
in_object (t.MemberOf at true m.Setter key t.absent (t.present function)) reads from to d ends = absurd (true≢false (sym d.1.0))
in_object (t.MemberOf at true m.Value key (t.present value) t.absent) reads from to d ends = absurd d.1
in_object (t.MemberOf at fixed m.Short key t.absent t.absent) reads from to d ends = absurd d.1
in_object (t.MemberOf at fixed kind key value function) reads from to d ends = absurd d.1

-- the members, up to the `}`
members_of : (list : Tree (t.list t.member)) → Each ReadsMember list → (at : ℕ) (sofar : Tree (t.list t.member)) (frames : Frames) (from mid to : Tokens) →
    object_members (Spells list) from mid → the "}" mid to →
    run (member_part md.Member (f.Member (mf.Object at (cut sofar)) ∷ frames)) from ≡ run (read (p.object at (cut (appended sofar list))) frames) to
unfolding Spells word
members_of t.none reads at sofar frames from mid to d c =
    ap (run (member_part md.Member (f.Member (mf.Object at (cut sofar)) ∷ frames))) d
    ∙ takes _ mid to c (member_part md.Member (f.Member (mf.Object at (cut sofar)) ∷ frames))
members_of (t.more one t.none) reads at sofar frames from mid to d c = by d.2
  where
    by : (d.0 ≡ mid) ⊎ the "," d.0 mid → run (member_part md.Member (f.Member (mf.Object at (cut sofar)) ∷ frames)) from ≡ run (read (p.object at (cut (followed sofar one))) frames) to
    by (inl same) =
        in_object one reads.0 from d.0 d.1 (subst (Starts is_member_end) (sym same) (starts_at is_member_end _ refl mid to c)) at sofar frames
        ∙ ap (run (member_part md.Next (f.Member (mf.Object at (cut (followed sofar one))) ∷ frames))) same
        ∙ takes _ mid to c (member_part md.Next (f.Member (mf.Object at (cut (followed sofar one))) ∷ frames))
    by (inr comma) =
        in_object one reads.0 from d.0 d.1 (starts_at is_member_end _ refl d.0 mid comma) at sofar frames
        ∙ takes _ d.0 mid comma (member_part md.Next (f.Member (mf.Object at (cut (followed sofar one))) ∷ frames))
        ∙ takes _ mid to c (member_part md.Member (f.Member (mf.Object at (cut (followed sofar one))) ∷ frames))
members_of (t.more one (t.more other rest)) reads at sofar frames from mid to d c =
    in_object one reads.0 from d.0 d.1 (starts_at is_member_end _ refl d.0 d.2.0 d.2.1) at sofar frames
    ∙ takes _ d.0 d.2.0 d.2.1 (member_part md.Next (f.Member (mf.Object at (cut (followed sofar one))) ∷ frames))
    ∙ members_of (t.more other rest) reads.1 at (followed sofar one) frames d.2.0 mid to d.2.2 c

pub reads_object : (members : Tree (t.list t.member)) → Each ReadsMember members → Reads (t.Object members)
unfolding Spells word
reads_object members reads from to d frames fits follow =
    takes _ from d.0 d.1 (operand_due frames)
    ∙ ap (λ list. run (member_part md.Member (f.Member (mf.Object (place from) list) ∷ frames)) d.0) cut_none
    ∙ members_of members reads (place from) t.none frames d.0 d.2.0 to d.2.1 d.2.2
    ∙ ap (λ part. run (read part frames) to) (ap (λ list. p.object (place from) (cut list)) (appended_none members) ∙ object_is (place from) members)
