-- Places don't decide what is spelled: what a reading takes of tokens, it takes of tokens of the same kinds and
-- line breaks, with the places that these have.
use Rattle.std.proofs.Common.{◌≡◌, ℕ, Bool, true, List, [], ◌∷◌, Some, refl, ap, sym, ◌∙◌, subst, codes, inl, inr}
use Prim.Native.String.{String}
use lib.IntN.{ℤ}
use Rattle.es_model.specs.declared.kinds.Semi.{Semi}
use Rattle.es_model.specs.declared.kinds.Semi.TheVariants as semi
use Rattle.es_model.specs.declared.names.Identifier.{Identifier}
use Rattle.es_model.specs.declared.token.Token.{Token}
use Rattle.es_model.specs.declared.token.TokenKind.{TokenKind}
use Rattle.es_model.specs.declared.token.TokenKind.TheVariants as k
use Rattle.es_model.specs.Tree.{Text}
use Rattle.es_model.specs.Readings.{Tokens, Reading, First, nothing, never, ◌▸◌, ◌∣◌, given, One, word, plain_name, the, name, the_name, property, here, same_line, any_of, not_first, semicolon}
use Rattle.es_model.specs.Spelling as s
use Rattle.js_parser.specs.Parsed.{Shape, shape}

-- tokens of the same kinds and line breaks
abbrev pub Alike : Tokens → Tokens → Type 0
Alike [] [] = Unit {0}
Alike (token ∷ tokens) (other ∷ others) = (shape token ≡ shape other) × Alike tokens others
Alike _ _ = ⊥

pub same_kind : (token other : Token) → shape token ≡ shape other → token.kind ≡ other.kind
same_kind token other e = ap (λ (x : Shape). x.kind) e

same_break : (token other : Token) → shape token ≡ shape other → token.line_before ≡ other.line_before
same_break token other e = ap (λ (x : Shape). x.line_before) e

-- What a reading takes, one of some readings takes of tokens that are alike.
abbrev pub Moves : {A : Type 0} → (A → Reading) → Reading → Type 0
Moves {A} others reading = (from to moved : Tokens) → Alike from moved → reading from to → (a : A) × (rest : Tokens) × Alike to rest × others a moved rest

-- the same reading takes it
abbrev pub Stays : Reading → Type 0
Stays reading = Moves {A = Unit {0}} (λ _. reading) reading

-- Putting them together.

pub seq : {A B : Type 0} {R : A → Reading} {Q : B → Reading} {r q : Reading} → Moves R r → Moves Q q → Moves {A = A × B} (λ p. R p.0 ▸ Q p.1) (r ▸ q)
seq one other from to moved alike h =
    let x = one from h.0 moved alike h.1 in
    let y = other h.0 to x.1 x.2 h.2 in
    ((x.0, y.0), y.1, y.2, (x.1, x.3, y.3))

pub into : {A B : Type 0} {R : A → Reading} (Q : B → Reading) {r : Reading} (f : A → B) → ((a : A) (from to : Tokens) → R a from to → Q (f a) from to) → Moves R r → Moves Q r
into Q f each moves from to moved alike h = let x = moves from to moved alike h in (f x.0, x.1, x.2, each x.0 moved x.1 x.3)

pub under : {A : Type 0} {R : A → Reading} {r : Reading} {fact : Type 0} (facts : A → Type 0) → ((a : A) → fact → facts a) → Moves R r → Moves (λ a. given (facts a) (R a)) (given fact r)
under facts each moves from to moved alike h = let x = moves from to moved alike h.1 in (x.0, x.1, x.2, (each x.0 h.0, x.3))

pub either : {A : Type 0} {R Q : A → Reading} {r q : Reading} → Moves R r → Moves Q q → Moves (λ a. R a ∣ Q a) (r ∣ q)
either one other from to moved alike (inl h) = let x = one from to moved alike h in (x.0, x.1, x.2, inl x.3)
either one other from to moved alike (inr h) = let x = other from to moved alike h in (x.0, x.1, x.2, inr x.3)

pub impossible : {A : Type 0} (R : A → Reading) → Moves R never
impossible R from to moved alike h = absurd h

pub nothing_stays : Stays nothing
nothing_stays from to moved alike h = (tt, moved, subst (λ l. Alike l moved) h alike, refl)

-- one token
pub one_moves : {A : Type 0} {test : Token → Type 0} (others : A → Token → Type 0) → ((token other : Token) → token.kind ≡ other.kind → test token → (a : A) × others a other) → Moves (λ a. One (others a)) (One test)
one_moves others each [] to moved alike h = absurd h
one_moves others each (token ∷ tokens) to [] alike h = absurd alike
one_moves others each (token ∷ tokens) to (other ∷ rest) alike h =
    let x = each token other (same_kind token other alike.0) h.0 in
    (x.0, rest, subst (λ l. Alike l rest) h.1 alike.1, (x.1, refl))

kind_stays : (kind : TokenKind) → Stays (One (λ token. token.kind ≡ kind))
kind_stays kind = one_moves (λ _ token. token.kind ≡ kind) (λ token other e h. (tt, sym e ∙ h))

pub the_stays : (text : String) → Stays (the text)
the_stays text = kind_stays (word text)

pub the_name_stays : (text : String) → Stays (the_name text)
the_name_stays text = kind_stays (k.Name (codes text))

pub number_stays : (value : ℤ) → Stays (One (λ token. token.kind ≡ k.Number value))
number_stays value = kind_stays (k.Number value)

pub string_stays : (text : Text) → Stays (One (λ token. token.kind ≡ k.String text))
string_stays text = kind_stays (k.String text)

pub piece_stays : (text : Text) (first last : Bool) → Stays (s.piece text first last)
piece_stays text first last = kind_stays (k.Template first last text)

pub property_stays : (text : Text) → Stays (property text)
property_stays text = one_moves (λ _ token. plain_name token.kind ≡ Some text) (λ token other e h. (tt, ap plain_name (sym e) ∙ h))

-- a name at another place
abbrev pub named : Text → ℕ → Identifier
named text at = record { at = at; name = text }

pub name_moves : (one : Identifier) → Moves (λ at. name (named one.name at)) (name one)
name_moves one = one_moves (λ at token. (token.kind ≡ k.Name one.name) × (token.at ≡ at)) (λ token other e h. (other.at, (sym e ∙ h.0, refl)))

-- a reading that begins at a place
pub here_moves : {A : Type 0} {R : ℕ → A → Reading} {r : Reading} (at : ℕ) → ((place : ℕ) → Moves (R place) r) → Moves {A = ℕ × A} (λ p. here p.0 (R p.0 p.1)) (here at r)
here_moves at moves [] to moved alike h = absurd h.0
here_moves at moves (token ∷ tokens) to [] alike h = absurd alike
here_moves at moves (token ∷ tokens) to (other ∷ others) alike h =
    let x = moves other.at (token ∷ tokens) to (other ∷ others) alike h.1 in
    ((other.at, x.0), x.1, x.2, (refl, x.3))

pub same_line_moves : {A : Type 0} {R : A → Reading} {r : Reading} → Moves R r → Moves (λ a. same_line (R a)) (same_line r)
same_line_moves moves [] to moved alike h = absurd h.0
same_line_moves moves (token ∷ tokens) to [] alike h = absurd alike
same_line_moves moves (token ∷ tokens) to (other ∷ others) alike h =
    let x = moves (token ∷ tokens) to (other ∷ others) alike h.1 in
    (x.0, x.1, x.2, (sym (same_break token other alike.0) ∙ h.0, x.3))

-- what is tested of a token by its kind and its line break is so of one that is alike
abbrev pub ByShape : (Token → Bool) → Type 0
ByShape test = (token other : Token) → shape token ≡ shape other → test token ≡ test other

pub by_shape : (test : Token → Bool) → ((token : Token) (at : ℕ) → test token ≡ test (record { kind = token.kind; at = at; line_before = token.line_before })) → ByShape test
by_shape test each token other e =
    each token other.at
    ∙ ap (λ kind. test (record { kind = kind; at = other.at; line_before = token.line_before })) (same_kind token other e)
    ∙ ap (λ line. test (record { kind = other.kind; at = other.at; line_before = line })) (same_break token other e)

pub not_first_moves : {A : Type 0} {R : A → Reading} {r : Reading} (words : List String) → Moves R r → Moves (λ a. not_first words (R a)) (not_first words r)
not_first_moves words moves [] to moved alike h = absurd h.0
not_first_moves words moves (token ∷ tokens) to [] alike h = absurd alike
not_first_moves words moves (token ∷ tokens) to (other ∷ others) alike h =
    let x = moves (token ∷ tokens) to (other ∷ others) alike h.1 in
    (x.0, x.1, x.2, (sym (by_shape (any_of words) (λ t at. refl) token other alike.0) ∙ h.0, x.3))

pub semicolon_stays : (may : Token → Bool) → ByShape may → (mark : Semi) → Stays (semicolon may mark)
semicolon_stays may same semi.Written = the_stays ";"
semicolon_stays may same semi.Missing = missing
  where
    at_next : (to rest : Tokens) → Alike to rest → First (λ token. may token ≡ true) to → First (λ token. may token ≡ true) rest
    at_next [] rest alike h = absurd h
    at_next (token ∷ tokens) [] alike h = absurd alike
    at_next (token ∷ tokens) (other ∷ others) alike h = sym (same token other alike.0) ∙ h

    missing : Stays (semicolon may semi.Missing)
    missing from to moved alike h =
        let now : Alike to moved = subst (λ l. Alike l moved) h.0 alike in
        (tt, moved, now, (refl, at_next to moved now h.1))
