-- What the next token may be behind an expression, and how tokens are taken.
use Rattle.std.proofs.Common.{◌≡◌, ◌∙◌, sym, ap, ap₂, subst, refl, ℕ, ◌<◌, ◌≤◌, Bool, true, false, [], ◌∷◌, arith, Option, Some, None}
use Rattle.std.specs.Prelude.{nat_le, if◌then◌else◌}
use Rattle.std.proofs.lemmas.Bool.{le-leb, lt-leb}
use Rattle.es_model.specs.declared.kinds.BinaryOperator.{BinaryOperator}
use Rattle.es_model.specs.declared.kinds.BinaryOperator.TheVariants as b
use Rattle.es_model.specs.declared.kinds.FunctionKind.TheVariants as f
use Rattle.es_model.specs.declared.token.Token.{Token}
use Rattle.es_model.specs.declared.token.TokenKind.{TokenKind}
use Rattle.es_model.specs.declared.token.TokenKind.TheVariants as k
use Rattle.es_model.specs.Tree as t
use Rattle.es_model.specs.Tree.{Tree, Text}
use Rattle.es_model.specs.Levels.{left_level, operator_level, level, is_bare_new, has_call}
use Rattle.es_model.specs.declared.names.Identifier.{Identifier}
use Rattle.es_model.specs.Readings.{Tokens, One, First, word, name, property, plain_name}
use Rattle.js_parser.specs.declared.words.Word.{Word}
use Rattle.js_parser.specs.declared.words.Word.TheVariants as w
use Rattle.parser_forms.specs.declared.kinds.Infix.{Infix}
use Rattle.parser_forms.specs.declared.kinds.Infix.TheVariants as i
use Rattle.js_parser.specs.Frame.{Frame}
use Rattle.parser_forms.specs.declared.parts.Part.{Part}
use Rattle.js_parser.specs.Words.{word_of}
use Rattle.js_parser.specs.Tables.{infix_of, assignment_of, gives, slot, slot_of}
use Rattle.js_parser.specs.State.{Frames, State, operand_due, read, the_word}
use Rattle.js_parser.specs.Settle.{settle, taken, closed}
use Rattle.js_parser.specs.MemberSteps.{property as with_property}
use Rattle.parser_forms.specs.Kept.{followed}
use Rattle.js_parser.specs.Machine.{run, step}
use Rattle.es_model.specs.Spelling.{Spells}
use Rattle.js_parser.specs.Summary.{part_of}

-- The least level that a word needs of an expression before it, 0 where it makes none of it.

abbrev pub left_needs : Infix → ℕ
left_needs (i.Binary operator) = left_level operator
left_needs i.In = 10
left_needs i.InstanceOf = 10
left_needs i.And = 5
left_needs i.Or = 4
left_needs i.Nullish = 4
left_needs i.Comma = 1

abbrev other_needs : Word → Bool → ℕ
other_needs w.Arrow false = 18
other_needs w.Question _ = 4
other_needs w.PlusPlus false = 17
other_needs w.MinusMinus false = 17
other_needs w.LeftParen _ = 17
other_needs w.Point _ = 17
other_needs w.LeftBracket _ = 17
other_needs _ _ = 0

abbrev pub needs_by : Option Infix → Option (Option BinaryOperator) → Word → Bool → ℕ
needs_by (Some operator) assignment word line = left_needs operator
needs_by None (Some operator) word line = 17
needs_by None None word line = other_needs word line

abbrev pub needs : Word → Bool → ℕ
needs word line = needs_by (infix_of word) (assignment_of word) word line

-- What a word makes is no tighter than what it needs, but for `.` and `[`, which need 17; and what needs
-- at most a conditional makes a comma.

pub gives_most : (word : Word) (line : Bool) → gives word line ≤ 18
gives_most w.Arrow true = omega arith
gives_most w.Arrow false = omega arith
gives_most w.PlusPlus true = omega arith
gives_most w.PlusPlus false = omega arith
gives_most w.MinusMinus true = omega arith
gives_most w.MinusMinus false = omega arith
gives_most _ line = omega arith

pub gives_needs : (word : Word) (line : Bool) → needs word line ≤ 16 → gives word line ≤ needs word line
gives_needs w.Arrow true h = omega arith
gives_needs w.Arrow false h = omega arith
gives_needs w.PlusPlus true h = omega arith
gives_needs w.PlusPlus false h = omega arith
gives_needs w.MinusMinus true h = omega arith
gives_needs w.MinusMinus false h = omega arith
gives_needs _ line h = omega arith

pub gives_comma : (word : Word) (line : Bool) → needs word line ≤ 3 → gives word line ≤ 1
gives_comma w.Arrow true h = omega arith
gives_comma w.Arrow false h = omega arith
gives_comma w.PlusPlus true h = omega arith
gives_comma w.PlusPlus false h = omega arith
gives_comma w.MinusMinus true h = omega arith
gives_comma w.MinusMinus false h = omega arith
gives_comma _ line h = omega arith

pub needs_comma : (word : Word) (line : Bool) → needs word line ≤ 3 → needs word line ≤ 1
needs_comma w.Arrow true h = omega arith
needs_comma w.Arrow false h = omega arith
needs_comma w.PlusPlus true h = omega arith
needs_comma w.PlusPlus false h = omega arith
needs_comma w.MinusMinus true h = omega arith
needs_comma w.MinusMinus false h = omega arith
needs_comma _ line h = omega arith

pub gives_product : (word : Word) (line : Bool) → needs word line ≤ 15 → gives word line ≤ 13
gives_product w.Arrow true h = omega arith
gives_product w.Arrow false h = omega arith
gives_product w.PlusPlus true h = omega arith
gives_product w.PlusPlus false h = omega arith
gives_product w.MinusMinus true h = omega arith
gives_product w.MinusMinus false h = omega arith
gives_product _ line h = omega arith

-- the tokens' first place and line break
abbrev pub place : Tokens → ℕ
place [] = 0
place (token ∷ tokens) = token.at

abbrev pub line : Tokens → Bool
line [] = false
line (token ∷ tokens) = token.line_before

abbrev pub as_kind : Tokens → TokenKind → Token
as_kind from kind = record { kind = kind; at = place from; line_before = line from }

-- one token of a kind is taken
pub takes : (kind : TokenKind) (from to : Tokens) → One (λ token. token.kind ≡ kind) from to → (st : State) → run st from ≡ run (step st (as_kind from kind)) to
takes kind [] to d st = absurd d
takes kind (token ∷ tokens) to d st =
    ap₂ (λ one rest. run (step st one) rest) (ap (λ other. record { kind = other; at = token.at; line_before = token.line_before }) d.0) d.1

abbrev pub Follow : ℕ → Tokens → Type 0
Follow n [] = ⊥
Follow n (token ∷ tokens) = needs (the_word token) token.line_before ≤ n

pub follows : (kind : TokenKind) (from to : Tokens) → One (λ token. token.kind ≡ kind) from to → (n : ℕ) → ((line : Bool) → needs (word_of kind) line ≤ n) → Follow n from
follows kind [] to d n h = absurd d
follows kind (token ∷ tokens) to d n h = subst (λ other. needs (word_of other) token.line_before ≤ n) (sym d.0) (h token.line_before)

-- how tight an expression holds on its left, and on its right
abbrev pub grip_by : Bool → Bool → ℕ → ℕ
grip_by true false n = 18
grip_by true true n = n
grip_by false call n = n

abbrev pub grip : Tree t.expression → ℕ
grip e = grip_by (nat_le 17 (level e)) (has_call e) (level e)

abbrev reach_by : Bool → ℕ → ℕ
reach_by true n = 16
reach_by false n = n

abbrev pub reach : Tree t.expression → ℕ
reach e = reach_by (is_bare_new e) (level e)

-- what the levels of expressions give

pub positive : (e : Tree t.expression) → 1 ≤ level e
positive (t.Function (t.FunctionOf at own f.Arrow parameters body)) = omega arith
positive (t.Function (t.FunctionOf at own _ parameters body)) = omega arith
positive (t.Binary operator l r) = by operator
  where
    by : (o : BinaryOperator) → 1 ≤ operator_level o
    by b.Power = omega arith
    by _ = omega arith
positive _ = omega arith

most : (e : Tree t.expression) → level e ≤ 18
most (t.Function (t.FunctionOf at own f.Arrow parameters body)) = omega arith
most (t.Function (t.FunctionOf at own _ parameters body)) = omega arith
most (t.Binary operator l r) = by operator
  where
    by : (o : BinaryOperator) → operator_level o ≤ 18
    by b.Power = omega arith
    by _ = omega arith
most _ = omega arith

grip_by_least : (x y : Bool) (n : ℕ) → n ≤ 18 → n ≤ grip_by x y n
grip_by_least true false n h = h
grip_by_least true true n h = omega arith
grip_by_least false y n h = omega arith

pub grips : (e : Tree t.expression) (n : ℕ) → n ≤ level e → n ≤ grip e
grips e n h = let least : level e ≤ grip e = grip_by_least (nat_le 17 (level e)) (has_call e) (level e) (most e) in omega arith

grip_by_most : (x y : Bool) (n : ℕ) → n ≤ 18 → grip_by x y n ≤ 18
grip_by_most true false n h = omega arith
grip_by_most true true n h = h
grip_by_most false y n h = h

pub grip_most : (e : Tree t.expression) → grip e ≤ 18
grip_most e = grip_by_most (nat_le 17 (level e)) (has_call e) (level e) (most e)

pub grips_one : (e : Tree t.expression) → 1 ≤ grip e
grips_one e = grips e 1 (positive e)

-- a member form without calls
pub grips_callee : (e : Tree t.expression) → 17 ≤ level e → has_call e ≡ false → 18 ≤ grip e
grips_callee e h c = subst (λ x. 18 ≤ grip_by x (has_call e) (level e)) (sym (le-leb _ _ h)) (subst (λ y. 18 ≤ grip_by true y (level e)) (sym c) (omega arith))

reach_by_least : (x : Bool) (n m : ℕ) → m ≤ n → m ≤ 16 → m ≤ reach_by x n
reach_by_least true n m h l = l
reach_by_least false n m h l = h

pub reaches : (e : Tree t.expression) (n : ℕ) → n ≤ level e → n ≤ 16 → n ≤ reach e
reaches e n h l = reach_by_least (is_bare_new e) (level e) n h l

pub reaches_base : (e : Tree t.expression) → 17 ≤ level e → is_bare_new e ≡ false → 17 ≤ reach e
reaches_base e h c = subst (λ x. 17 ≤ reach_by x (level e)) (sym c) h

-- behind a looser form there may be less
pub follow_least : (m n : ℕ) (to : Tokens) → m ≤ n → Follow m to → Follow n to
follow_least m n [] h f = f
follow_least m n (token ∷ tokens) h f = omega arith

pub follow_comma : (to : Tokens) → Follow 3 to → Follow 1 to
follow_comma [] f = f
follow_comma (token ∷ tokens) f = needs_comma (the_word token) token.line_before f

-- An expression in open forms, and a token behind it.

pub if_true : {A : Type 0} {x : Bool} (a b : A) → x ≡ true → (if x then a else b) ≡ a
if_true a b e = rw e refl

pub if_false : {A : Type 0} {x : Bool} (a b : A) → x ≡ false → (if x then a else b) ≡ b
if_false a b e = rw e refl

pub goes_on : (frames : Frames) (part : Part) (token : Token) → slot frames ≤ gives (the_word token) token.line_before → settle frames part token ≡ taken part frames token
goes_on [] part token h = let low : gives (the_word token) token.line_before ≤ 18 = gives_most (the_word token) token.line_before in absurd (omega arith)
goes_on (frame ∷ frames) part token h = if_true _ _ (le-leb _ _ h)

-- an expression is the last of a form, which ends
pub closes : (frame : Frame) (frames : Frames) (part next : Part) (n : ℕ) (to : Tokens) → Follow n to →
    ((word : Word) (line : Bool) → needs word line ≤ n → gives word line < slot_of frame) →
    ((again : Part → State) (token : Token) → needs (the_word token) token.line_before ≤ n → closed frame again frames part token ≡ again next) →
    run (read part (frame ∷ frames)) to ≡ run (read next frames) to
closes frame frames part next n [] follow low ends = absurd follow
closes frame frames part next n (token ∷ tokens) follow low ends =
    ap (λ st. run st tokens)
    (if_false _ _ (lt-leb _ _ (low (the_word token) token.line_before follow)) ∙ ends (λ one. settle frames one token) token follow)

-- a token of a kind goes on with an expression
pub goes_on_at : (kind : TokenKind) (from to : Tokens) → One (λ token. token.kind ≡ kind) from to → (frames : Frames) (part : Part) →
    slot frames ≤ gives (word_of kind) (line from) → run (read part frames) from ≡ run (taken part frames (as_kind from kind)) to
goes_on_at kind from to d frames part h = takes kind from to d (read part frames) ∙ ap (λ st. run st to) (goes_on frames part (as_kind from kind) h)

abbrev pub Reads : Tree t.expression → Type 0
Reads e = (from to : Tokens) → Spells e from to → (frames : Frames) → slot frames ≤ grip e → Follow (reach e) to → run (operand_due frames) from ≡ run (read (part_of (place from) e) frames) to

-- a name that is no keyword, and a name behind a point

pub takes_name : (one : Identifier) (from to : Tokens) → name one from to → (st : State) →
    run st from ≡ run (step st (record { kind = k.Name one.name; at = one.at; line_before = line from })) to
takes_name one [] to d st = absurd d
takes_name one (token ∷ tokens) to d st =
    ap₂ (λ next rest. run (step st next) rest) (ap₂ (λ kind at. record { kind = kind; at = at; line_before = token.line_before }) d.0.0 d.0.1) d.1

pub name_at : (one : Identifier) (from to : Tokens) → name one from to → place from ≡ one.at
name_at one [] to d = absurd d
name_at one (token ∷ tokens) to d = d.0.1

pub here_at : (at : ℕ) (from : Tokens) → First (λ token. token.at ≡ at) from → place from ≡ at
here_at at [] d = absurd d
here_at at (token ∷ tokens) d = d

pub on_line : (from : Tokens) → First (λ token. token.line_before ≡ false) from → line from ≡ false
on_line [] d = absurd d
on_line (token ∷ tokens) d = d

pub takes_property : (text : Text) (from to : Tokens) → property text from to → (st : State) (make : Text → State) →
    ((token : Token) → step st token ≡ with_property (plain_name token.kind) make) → run st from ≡ run (make text) to
takes_property text [] to d st make h = absurd d
takes_property text (token ∷ tokens) to d st make h = ap (λ one. run one tokens) (h token ∙ ap (λ one. with_property one make) d.0) ∙ ap (run (make text)) d.1

-- Lists: one more at the end at a time, as the machine does it.

abbrev pub appended : {s : t.Sort} → Tree (t.list s) → Tree (t.list s) → Tree (t.list s)
appended first t.none = first
appended first (t.more one rest) = appended (followed first one) rest

abbrev joined : {s : t.Sort} → Tree (t.list s) → Tree (t.list s) → Tree (t.list s)
joined t.none second = second
joined (t.more one rest) second = t.more one (joined rest second)

joined_followed : {s : t.Sort} (first : Tree (t.list s)) (one : Tree s) (rest : Tree (t.list s)) → joined (followed first one) rest ≡ joined first (t.more one rest)
joined_followed t.none one rest = refl
joined_followed (t.more a first) one rest = ap (t.more a) (joined_followed first one rest)

joined_none : {s : t.Sort} (first : Tree (t.list s)) → joined first t.none ≡ first
joined_none t.none = refl
joined_none (t.more a first) = ap (t.more a) (joined_none first)

appended_joined : {s : t.Sort} (first second : Tree (t.list s)) → appended first second ≡ joined first second
appended_joined first t.none = sym (joined_none first)
appended_joined first (t.more one rest) = appended_joined (followed first one) rest ∙ joined_followed first one rest

pub appended_none : {s : t.Sort} (list : Tree (t.list s)) → appended t.none list ≡ list
appended_none list = appended_joined t.none list

-- what holds of each of a list, and of a thing that may be left out

abbrev pub Each : {s : t.Sort} → (Tree s → Type 0) → Tree (t.list s) → Type 0
Each holds t.none = Unit {0}
Each holds (t.more one rest) = holds one × Each holds rest

abbrev pub Maybe : {s : t.Sort} → (Tree s → Type 0) → Tree (t.option s) → Type 0
Maybe holds t.absent = Unit {0}
Maybe holds (t.present one) = holds one
