-- The tokens of the keys of members are read as them, also where they look like the words of accessors.
use Rattle.std.proofs.Common.{◌≡◌, ◌∙◌, sym, ap, ap₂, subst, refl, ℕ, Bool, true, false, [], ◌∷◌, codes, Option, Some, None, zero-le, true≢false}
use Rattle.std.specs.Prelude.{if◌then◌else◌}
use Rattle.std.proofs.lemmas.Option.{none-some}
use Rattle.es_model.specs.declared.kinds.MemberKind.{MemberKind}
use Rattle.es_model.specs.declared.kinds.MemberKind.TheVariants as m
use Rattle.es_model.specs.declared.names.Identifier.{Identifier}
use Rattle.es_model.specs.declared.token.Token.{Token}
use Rattle.es_model.specs.declared.token.TokenKind.{TokenKind}
use Rattle.es_model.specs.declared.token.TokenKind.TheVariants as k
use Rattle.es_model.specs.Tokens.{same_text}
use Rattle.es_model.specs.Tree as t
use Rattle.es_model.specs.Tree.{Tree, Text}
use Rattle.es_model.specs.Readings.{Tokens, word, plain_name, ◌▸◌}
use Rattle.es_model.specs.Spelling.{Spells, accessor_word}
use Rattle.js_parser.specs.declared.words.Word.{Word}
use Rattle.js_parser.specs.declared.words.Word.TheVariants as w
use Rattle.js_parser.specs.Frame as f
use Rattle.js_parser.specs.MemberFrame as mf
use Rattle.js_parser.specs.MemberDue as md
use Rattle.js_parser.specs.Words.{keyword_word, word_of}
use Rattle.js_parser.specs.State.{Frames, State, read, member_part, the_word}
use Rattle.js_parser.specs.MemberSteps.{ident, start_of, keyed, keyword_key, key_kind, name_start, member_kind, member_start, key_next, accessor}
use Rattle.parser_forms.specs.Parts as p
use Rattle.js_parser.specs.Machine.{run}
use Rattle.js_parser.proofs.CompleteBase.{takes, follows, place, reach, grips}
use Rattle.js_parser.proofs.CompleteFirst.{Starts}
use Rattle.js_parser.proofs.CompleteClaims.{ReadsKey}
use Rattle.js_parser.proofs.WordLaws.{Is, kind_is}
use Rattle.js_parser.proofs.FormLaws.{key_word_is, key_string_is, key_number_is, computed_key_is}
use Rattle.js_parser.specs.Summary.{part_of, key_of}

-- what the state is behind a key, with the name that it may stand for
abbrev pub Keyed : State → Tokens → Frames → ℕ → Bool → MemberKind → Tree t.key → Tokens → Type 0
Keyed st rest frames at fixed kind key mid =
    (short : Option Identifier) × (run st rest ≡ run (member_part (md.Key (start_of at fixed kind (key_of key)) short) frames) mid)

abbrev text_in : Option Text → Text
text_in (Some text) = text
text_in None = []

some_same : (one other : Text) → Some one ≡ Some other → one ≡ other
some_same one other e = ap text_in e

-- a name or a keyword
word_key : (kind : TokenKind) (text : Text) → plain_name kind ≡ Some text → (frames : Frames) (at : ℕ) (fixed : Bool) (made : MemberKind) (where_at : ℕ) →
    (short : Option Identifier) × (key_kind frames at fixed made where_at kind ≡ keyed frames at fixed made (t.KeyWord text) short)
word_key (k.Name other) text e frames at fixed made where_at =
    (Some (ident where_at other), ap (λ name. keyed frames at fixed made (t.KeyWord name) (Some (ident where_at other))) (some_same other text e))
word_key (k.Keyword n) text e frames at fixed made where_at = (None, ap (keyword_key frames at fixed made) e)
word_key _ text e frames at fixed made where_at = absurd (none-some text e)

-- a key, where a key and nothing else is due
pub reads_key : (key : Tree t.key) → ReadsKey key → (kind : TokenKind) (where_at : ℕ) (broken : Bool) (rest mid : Tokens) →
    Spells key (record { kind = kind; at = where_at; line_before = broken } ∷ rest) mid → (frames : Frames) (at : ℕ) (fixed : Bool) (made : MemberKind) →
    Keyed (key_kind frames at fixed made where_at kind) rest frames at fixed made key mid
unfolding Spells word
reads_key (t.KeyWord text) reads kind where_at broken rest mid d frames at fixed made =
    let found = word_key kind text d.0 frames at fixed made where_at in (
      found.0,
      ap₂ run found.1 d.1 ∙ ap (λ key. run (member_part (md.Key (start_of at fixed made key) found.0) frames) mid) (key_word_is text),
    )
reads_key (t.KeyString text) reads kind where_at broken rest mid d frames at fixed made = (
  None,
  ap₂ (λ one tokens. run (key_kind frames at fixed made where_at one) tokens) d.0 d.1
      ∙ ap (λ key. run (member_part (md.Key (start_of at fixed made key) None) frames) mid) (key_string_is text),
)
reads_key (t.KeyNumber value) reads kind where_at broken rest mid d frames at fixed made = (
  None,
  ap₂ (λ one tokens. run (key_kind frames at fixed made where_at one) tokens) d.0 d.1
      ∙ ap (λ key. run (member_part (md.Key (start_of at fixed made key) None) frames) mid) (key_number_is value),
)
reads_key (t.KeyComputed value) reads kind where_at broken rest mid d frames at fixed made = (
  None,
  ap₂ (λ one tokens. run (key_kind frames at fixed made where_at one) tokens) d.1.0 d.1.1
      ∙ reads d.0 d.2.0 d.2.1.1 (f.Member (mf.Key at fixed made) ∷ frames) (grips value 2 d.2.1.0) (follows _ d.2.0 mid d.2.2 (reach value) (λ line. zero-le))
      ∙ takes _ d.2.0 mid d.2.2 (read (part_of (place d.0) value) (f.Member (mf.Key at fixed made) ∷ frames))
      ∙ ap (λ key. run (member_part (md.Key (start_of at fixed made key) None) frames) mid) (computed_key_is (place d.0) value),
)

-- the word behind a key that begins a member's value or its parameters
abbrev pub is_key_end : Word → Bool
is_key_end w.LeftParen = true
is_key_end w.Colon = true
is_key_end w.Comma = true
is_key_end w.RightBrace = true
is_key_end _ = false

-- `get` or `set` was a key
accessor_ends : (frames : Frames) (at : ℕ) (fixed : Bool) (kind : MemberKind) (one : Identifier) (mid : Tokens) → Starts is_key_end mid →
    run (member_part (md.Accessor at fixed kind one) frames) mid ≡ run (member_part (md.Key (start_of at fixed m.Method (p.key (t.KeyWord one.name))) (Some one)) frames) mid
accessor_ends frames at fixed kind one [] d = absurd d
accessor_ends frames at fixed kind one (token ∷ tokens) d = ap (λ st. run st tokens) (by (the_word token) d)
  where
    by : (word : Word) → is_key_end word ≡ true → accessor frames at fixed kind one token word ≡ key_next frames (start_of at fixed m.Method (p.key (t.KeyWord one.name))) (Some one) word
    by w.LeftParen h = refl
    by w.Colon h = refl
    by w.Comma h = refl
    by w.RightBrace h = refl
    by _ h = absurd (true≢false (sym h))

-- a name as a key, also `get` and `set`
pub reads_name_key : (frames : Frames) (at : ℕ) (fixed : Bool) (where_at : ℕ) (text : Text) (mid : Tokens) → Starts is_key_end mid →
    run (name_start frames at fixed where_at text) mid ≡ run (member_part (md.Key (start_of at fixed m.Method (key_of (t.KeyWord text))) (Some (ident where_at text))) frames) mid
reads_name_key frames at fixed where_at text mid d = by (same_text text (codes "get")) (same_text text (codes "set")) ∙ ap (λ key. run (member_part (md.Key (start_of at fixed m.Method key) (Some (ident where_at text))) frames) mid) (key_word_is text)
  where
    by : (getter setter : Bool) →
        run (if getter then member_part (md.Accessor at fixed m.Getter (ident where_at text)) frames else (if setter then member_part (md.Accessor at fixed m.Setter (ident where_at text)) frames else key_kind frames at fixed m.Method where_at (k.Name text))) mid
        ≡ run (member_part (md.Key (start_of at fixed m.Method (p.key (t.KeyWord text))) (Some (ident where_at text))) frames) mid
    by true setter = accessor_ends frames at fixed m.Getter (ident where_at text) mid d
    by false true = accessor_ends frames at fixed m.Setter (ident where_at text) mid d
    by false false = refl

abbrev is_name : TokenKind → Bool
is_name (k.Name text) = true
is_name _ = false

name_no_other : (kind : TokenKind) (text : Text) → is_name kind ≡ false → k.Name text ≡ kind → ⊥
name_no_other kind text none e = true≢false (ap is_name e ∙ none)

-- a key, where the word of an accessor may stand too
pub plain_start : (key : Tree t.key) → ReadsKey key → (kind : TokenKind) (where_at : ℕ) (broken : Bool) (rest mid : Tokens) →
    Spells key (record { kind = kind; at = where_at; line_before = broken } ∷ rest) mid → Starts is_key_end mid → (frames : Frames) (at : ℕ) (fixed : Bool) →
    Keyed (member_kind frames at fixed where_at kind) rest frames at fixed m.Method key mid
unfolding Spells word
plain_start (t.KeyWord text) reads (k.Name other) where_at broken rest mid d ends frames at fixed = (
  Some (ident where_at other),
  ap (run (name_start frames at fixed where_at other)) d.1 ∙ reads_name_key frames at fixed where_at other mid ends
      ∙ ap (λ name. run (member_part (md.Key (start_of at fixed m.Method (key_of (t.KeyWord name))) (Some (ident where_at other))) frames) mid) (some_same other text d.0),
)
plain_start (t.KeyString text) reads (k.Name other) where_at broken rest mid d ends frames at fixed = absurd (name_no_other (k.String text) other refl d.0)
plain_start (t.KeyNumber value) reads (k.Name other) where_at broken rest mid d ends frames at fixed = absurd (name_no_other (k.Number value) other refl d.0)
plain_start (t.KeyComputed value) reads (k.Name other) where_at broken rest mid d ends frames at fixed = absurd (name_no_other (word "[") other refl d.1.0)
plain_start key reads kind where_at broken rest mid d ends frames at fixed = reads_key key reads kind where_at broken rest mid d frames at fixed m.Method

-- The words with which a key, and a member, may begin.

abbrev pub is_key_start : Word → Bool
is_key_start w.RightBrace = false
is_key_start w.Semicolon = false
is_key_start w.LeftParen = false
is_key_start w.Colon = false
is_key_start w.Comma = false
is_key_start _ = true

abbrev is_sign : TokenKind → Bool
is_sign (k.Sign place) = true
is_sign _ = false

keyword_no_sign : (n : ℕ) → is_key_start (keyword_word n) ≡ true
unfolding word
keyword_no_sign n = by (keyword_word n) (kind_is (k.Keyword n))
  where
    no : (place : ℕ) → k.Keyword n ≡ k.Sign place → ⊥
    no place e = true≢false (sym (ap is_sign e))

    by : (one : Word) → Is one (k.Keyword n) → is_key_start one ≡ true
    by w.RightBrace e = absurd (no 1 e)
    by w.Semicolon e = absurd (no 6 e)
    by w.LeftParen e = absurd (no 2 e)
    by w.Colon e = absurd (no 37 e)
    by w.Comma e = absurd (no 7 e)
    by _ e = refl

pub key_starts : (key : Tree t.key) (kind : TokenKind) (where_at : ℕ) (broken : Bool) (rest mid : Tokens) →
    Spells key (record { kind = kind; at = where_at; line_before = broken } ∷ rest) mid → is_key_start (word_of kind) ≡ true
unfolding Spells word
key_starts (t.KeyWord text) (k.Name other) where_at broken rest mid d = refl
key_starts (t.KeyWord text) (k.Keyword n) where_at broken rest mid d = keyword_no_sign n
key_starts (t.KeyWord text) _ where_at broken rest mid d = absurd (none-some text d.0)
key_starts (t.KeyString text) kind where_at broken rest mid d = ap (λ one. is_key_start (word_of one)) d.0
key_starts (t.KeyNumber value) kind where_at broken rest mid d = ap (λ one. is_key_start (word_of one)) d.0
key_starts (t.KeyComputed value) kind where_at broken rest mid d = ap (λ one. is_key_start (word_of one)) d.1.0

pub no_key : (key : Tree t.key) (mid : Tokens) → Spells key [] mid → ⊥
unfolding Spells
no_key (t.KeyWord text) mid d = d
no_key (t.KeyString text) mid d = d
no_key (t.KeyNumber value) mid d = d
no_key (t.KeyComputed value) mid d = d.1

-- Behind the word of an accessor.

accessor_starts : (frames : Frames) (at : ℕ) (fixed : Bool) (kind : MemberKind) (one : Identifier) (token : Token) (word : Word) → is_key_start word ≡ true →
    accessor frames at fixed kind one token word ≡ key_kind frames at fixed kind token.at token.kind
accessor_starts frames at fixed kind one token w.LeftParen h = absurd (true≢false (sym h))
accessor_starts frames at fixed kind one token w.Colon h = absurd (true≢false (sym h))
accessor_starts frames at fixed kind one token w.Comma h = absurd (true≢false (sym h))
accessor_starts frames at fixed kind one token w.RightBrace h = absurd (true≢false (sym h))
accessor_starts frames at fixed kind one token _ h = refl

accessor_key : (key : Tree t.key) → ReadsKey key → (from mid : Tokens) → Spells key from mid → (frames : Frames) (at : ℕ) (fixed : Bool) (kind : MemberKind) (one : Identifier) →
    Keyed (member_part (md.Accessor at fixed kind one) frames) from frames at fixed kind key mid
accessor_key key reads [] mid d frames at fixed kind one = absurd (no_key key mid d)
accessor_key key reads (token ∷ rest) mid d frames at fixed kind one =
    let found = reads_key key reads token.kind token.at token.line_before rest mid d frames at fixed kind in
    (found.0, ap (λ st. run st rest) (accessor_starts frames at fixed kind one token (the_word token) (key_starts key token.kind token.at token.line_before rest mid d)) ∙ found.1)

-- the kinds of members that are functions
abbrev pub IsFunction : MemberKind → Type 0
IsFunction m.Method = Unit {0}
IsFunction m.Getter = Unit {0}
IsFunction m.Setter = Unit {0}
IsFunction _ = ⊥

-- a member up to its key
pub reads_start : (kind : MemberKind) → IsFunction kind → (key : Tree t.key) → ReadsKey key → (token : Token) (rest mid : Tokens) →
    (accessor_word kind ▸ Spells key) (token ∷ rest) mid → Starts is_key_end mid → (frames : Frames) (at : ℕ) (fixed : Bool) →
    Keyed (member_start frames at fixed token) rest frames at fixed kind key mid
reads_start m.Method ok key reads token rest mid d ends frames at fixed =
    plain_start key reads token.kind token.at token.line_before rest mid (subst (λ tokens. Spells key tokens mid) (sym d.1) d.2) ends frames at fixed
reads_start m.Getter ok key reads token rest mid d ends frames at fixed =
    let found = accessor_key key reads d.0 mid d.2 frames at fixed m.Getter (ident token.at (codes "get")) in
    (found.0, ap₂ (λ kind tokens. run (member_kind frames at fixed token.at kind) tokens) d.1.0 d.1.1 ∙ found.1)
reads_start m.Setter ok key reads token rest mid d ends frames at fixed =
    let found = accessor_key key reads d.0 mid d.2 frames at fixed m.Setter (ident token.at (codes "set")) in
    (found.0, ap₂ (λ kind tokens. run (member_kind frames at fixed token.at kind) tokens) d.1.0 d.1.1 ∙ found.1)
reads_start _ ok key reads token rest mid d ends frames at fixed = absurd ok

pub starts_start : (kind : MemberKind) → IsFunction kind → (key : Tree t.key) (token : Token) (rest mid : Tokens) → (accessor_word kind ▸ Spells key) (token ∷ rest) mid → is_key_start (the_word token) ≡ true
starts_start m.Method ok key token rest mid d = key_starts key token.kind token.at token.line_before rest mid (subst (λ tokens. Spells key tokens mid) (sym d.1) d.2)
starts_start m.Getter ok key token rest mid d = ap (λ one. is_key_start (word_of one)) d.1.0
starts_start m.Setter ok key token rest mid d = ap (λ one. is_key_start (word_of one)) d.1.0
starts_start _ ok key token rest mid d = absurd ok

pub no_start : (kind : MemberKind) → IsFunction kind → (key : Tree t.key) (mid : Tokens) → (accessor_word kind ▸ Spells key) [] mid → ⊥
no_start m.Method ok key mid d = no_key key mid (subst (λ tokens. Spells key tokens mid) (sym d.1) d.2)
no_start m.Getter ok key mid d = d.1
no_start m.Setter ok key mid d = d.1
no_start _ ok key mid d = ok

-- In a class `static` may be a key.

abbrev pub is_static : Word → Bool
is_static w.Static = true
is_static _ = false

static_is : (kind : TokenKind) → is_static (word_of kind) ≡ true → kind ≡ word "static"
static_is kind h = by (word_of kind) (kind_is kind) h
  where
    by : (one : Word) → Is one kind → is_static one ≡ true → kind ≡ word "static"
    by w.Static e h = e
    by _ e h = absurd (true≢false (sym h))

abbrev is_keyword : TokenKind → Bool
is_keyword (k.Keyword n) = true
is_keyword _ = false

static_word : (key : Tree t.key) (token : Token) (rest mid : Tokens) → Spells key (token ∷ rest) mid → token.kind ≡ word "static" → (key ≡ t.KeyWord (codes "static")) × (rest ≡ mid)
unfolding Spells word
static_word (t.KeyWord text) token rest mid d e = (ap t.KeyWord (sym (some_same (codes "static") text (ap plain_name (sym e) ∙ d.0))), d.1)
static_word (t.KeyString text) token rest mid d e = absurd (true≢false (ap is_keyword (sym e ∙ d.0)))
static_word (t.KeyNumber value) token rest mid d e = absurd (true≢false (ap is_keyword (sym e ∙ d.0)))
static_word (t.KeyComputed value) token rest mid d e = absurd (true≢false (ap is_keyword (sym e ∙ d.1.0)))

-- the name `static` is the key, of a method
pub static_key : (kind : MemberKind) → IsFunction kind → (key : Tree t.key) (token : Token) (rest mid : Tokens) → (accessor_word kind ▸ Spells key) (token ∷ rest) mid →
    is_static (the_word token) ≡ true → (kind ≡ m.Method) × (key ≡ t.KeyWord (codes "static")) × (rest ≡ mid)
unfolding word
static_key m.Method ok key token rest mid d h =
    let found = static_word key token rest mid (subst (λ tokens. Spells key tokens mid) (sym d.1) d.2) (static_is token.kind h) in
    (refl, found.0, found.1)
static_key m.Getter ok key token rest mid d h = absurd (true≢false (sym h ∙ ap (λ one. is_static (word_of one)) d.1.0))
static_key m.Setter ok key token rest mid d h = absurd (true≢false (sym h ∙ ap (λ one. is_static (word_of one)) d.1.0))
static_key _ ok key token rest mid d h = absurd ok
