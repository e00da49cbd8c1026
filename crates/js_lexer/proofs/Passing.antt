-- The pass over a text, an element at a time.
use Rattle.std.proofs.Common.{◌≡◌, ℕ, zero, suc, ◌+◌, ◌≤◌, Bool, false, ◌||◌, List, [], ◌∷◌, ◌++◌, length, take, Option, Some, None, Result, Ok, Err, refl, sym, ◌∙◌, ap, subst, arith, append_assoc}
use Rattle.std.proofs.lemmas.List.{length-drop}
use Rattle.js_value.specs.Text.{parts, sequence_length}
use Rattle.es_model.specs.declared.faults.LexFault.{LexFault}
use Rattle.es_model.specs.declared.faults.LexFault.TheVariants.{OpenTemplate, NotUtf8}
use Rattle.es_model.specs.declared.token.Token.{Token}
use Rattle.es_model.specs.declared.token.TokenKind.{TokenKind}
use Rattle.es_model.specs.declared.token.TokenKind.TheVariants as k
use Rattle.es_model.specs.Tokens as s
use Rattle.es_model.specs.Tokens.{Element, Between, Word, Wrong, Brace, Part, parts_of, tokens_in, before, element, braces_after, innermost, width}
use Rattle.js_lexer.specs.declared.elements.Found.{Found}
use Rattle.js_lexer.specs.declared.elements.Found.TheVariants.{Gap, Token as Lexeme}
use Rattle.js_lexer.specs.Left.{Left, skip, skipped, first_of}
use Rattle.js_lexer.specs.Reads.{found}
use Rattle.js_lexer.proofs.Escaped.{skip-text}

-- a list of tokens, of which some were read
abbrev pub joined : List Token → Result (List Token) LexFault → Result (List Token) LexFault
joined front (Ok later) = Ok (front ++ later)
joined front (Err fault) = Err fault

pub joined-nil : (r : Result (List Token) LexFault) → r ≡ joined [] r
joined-nil (Ok later) = refl
joined-nil (Err fault) = refl

pub joined-more : (front : List Token) (token : Token) (r : Result (List Token) LexFault) → joined front (before token r) ≡ joined (front ++ token ∷ []) r
joined-more front token (Ok later) = ap (λ l. Ok l) (sym (append_assoc front (token ∷ []) later))
joined-more front token (Err fault) = refl

-- the tokens of what is left
abbrev pub tokens_left : Bool → List Brace → Left → Result (List Token) LexFault
tokens_left line braces left = tokens_in line (parts_of 0 braces left.at left.text)

parts_passed : (n : ℕ) (braces : List Brace) (at : ℕ) (text : List ℕ) → parts_of n braces at text ≡ parts_of 0 braces (skipped n at text).at (skipped n at text).text
parts_passed zero braces at text = refl
parts_passed (suc n) braces at [] = refl
parts_passed (suc n) braces at (c ∷ cs) = parts_passed n braces (at + width c) cs

-- the parts of a text that begins with an element
abbrev part_by : List Brace → ℕ → ℕ → List ℕ → Element → List Part
part_by braces at c cs e =
    elim e [
      | Between line more ↦ record { at = at; element = Between line more; spelling = c ∷ take more cs } ∷ parts_of more braces (at + width c) cs
      | Word kind more ↦ record { at = at; element = Word kind more; spelling = c ∷ take more cs } ∷ parts_of more (braces_after at kind braces) (at + width c) cs
      | Wrong fault ↦ record { at = at; element = Wrong fault; spelling = c ∷ cs } ∷ []
    ]

-- a claim about what is left, by its first character
by_first : (P : Left → Left → Type 0) (c : ℕ) → ((at : ℕ) (cs : List ℕ) → P (record { at = at; text = c ∷ cs }) (record { at = at + width c; text = cs })) → (left : Left) → Some c ≡ first_of left.text → P left (skip 1 left)
by_first P c each left h = by_text left.at left.text h
  where
    by_text : (at : ℕ) (text : List ℕ) → Some c ≡ first_of text → P (record { at = at; text = text }) (skipped 1 at text)
    by_text at [] h = absurd (cc h)
    by_text at (d ∷ cs) h =
        let same : c ≡ d = cc h in
        let Q : ℕ → Type 0 = λ v. P (record { at = at; text = v ∷ cs }) (record { at = at + width v; text = cs }) in
        subst Q same (each at cs)

pub place_after : (left new : Left) (c : ℕ) → Some c ≡ first_of left.text → new ≡ skip 1 left → new.at ≡ left.at + width c
place_after left new c h n = ap (λ l. l.at) n ∙ by_first (λ old new. new.at ≡ old.at + width c) c (λ at cs. refl) left h

ok_same : (a b : Found × Left) → ◌≡◌ {A = Result (Found × Left) LexFault} (Ok a) (Ok b) → a ≡ b
ok_same a b e = cc e

err_same : (a b : LexFault) → ◌≡◌ {A = Result (Found × Left) LexFault} (Err a) (Err b) → a ≡ b
err_same a b e = cc e

gap_same : (a b : Bool) → Gap a ≡ Gap b → a ≡ b
gap_same a b e = cc e

kind_same : (a b : TokenKind) → Lexeme a ≡ Lexeme b → a ≡ b
kind_same a b e = cc e

pub found-shorter : (e : Element) (left new : Left) (it : Found) → found e left ≡ Ok (it, new) → length new.text ≤ length left.text
found-shorter (Between line more) left new it h =
    let is : skip more left ≡ new = ap (λ p. p.1) (ok_same (Gap line, skip more left) (it, new) h) in
    omega (arith, ap (λ l. length l.text) (sym is), ap length (skip-text more left), length-drop more left.text)
found-shorter (Word kind more) left new it h =
    let is : skip more left ≡ new = ap (λ p. p.1) (ok_same (Lexeme kind, skip more left) (it, new) h) in
    omega (arith, ap (λ l. length l.text) (sym is), ap length (skip-text more left), length-drop more left.text)
found-shorter (Wrong fault) left new it h = absurd (cc h)

abbrev GapClaim : ℕ → List Brace → Bool → Bool → Left → Left → Left → Type 0
GapClaim c braces line more new old next = found (element braces old.at c next.text) next ≡ Ok (Gap more, new) → tokens_left line braces old ≡ tokens_left (line || more) braces new

gap_at : (c : ℕ) (braces : List Brace) (line more : Bool) (new : Left) (at : ℕ) (cs : List ℕ) → GapClaim c braces line more new (record { at = at; text = c ∷ cs }) (record { at = at + width c; text = cs })
gap_at c braces line more new at cs = by_element (element braces at c cs)
  where
    by_element : (e : Element) → found e (record { at = at + width c; text = cs }) ≡ Ok (Gap more, new) → tokens_in line (part_by braces at c cs e) ≡ tokens_left (line || more) braces new
    by_element (Between l n) h =
        let both = ok_same (Gap l, skipped n (at + width c) cs) (Gap more, new) h in
        ap (tokens_in (line || l)) (parts_passed n braces (at + width c) cs)
        ∙ ap (λ b. tokens_left (line || b) braces (skipped n (at + width c) cs)) (gap_same l more (ap (λ p. p.0) both))
        ∙ ap (tokens_left (line || more) braces) (ap (λ p. p.1) both)
    by_element (Word kind n) h =
        let both = ok_same (Lexeme kind, skipped n (at + width c) cs) (Gap more, new) h in
        let never : Lexeme kind ≡ Gap more = ap (λ p. p.0) both in absurd (cc never)
    by_element (Wrong fault) h = absurd (cc h)

pub gap_read : (c : ℕ) (braces : List Brace) (line more : Bool) (left next new : Left) → Some c ≡ first_of left.text → next ≡ skip 1 left → found (element braces left.at c next.text) next ≡ Ok (Gap more, new) → tokens_left line braces left ≡ tokens_left (line || more) braces new
gap_read c braces line more left next new h n e =
    by_first (GapClaim c braces line more new) c (gap_at c braces line more new) left h (ap (λ l. found (element braces left.at c l.text) l) (sym n) ∙ e)

abbrev TokenClaim : ℕ → List Brace → Bool → TokenKind → Left → Left → Left → Type 0
TokenClaim c braces line kind new old next = found (element braces old.at c next.text) next ≡ Ok (Lexeme kind, new) → tokens_left line braces old ≡ before (record { kind = kind; at = old.at; line_before = line }) (tokens_left false (braces_after old.at kind braces) new)

token_at : (c : ℕ) (braces : List Brace) (line : Bool) (kind : TokenKind) (new : Left) (at : ℕ) (cs : List ℕ) → TokenClaim c braces line kind new (record { at = at; text = c ∷ cs }) (record { at = at + width c; text = cs })
token_at c braces line kind new at cs = by_element (element braces at c cs)
  where
    by_element : (e : Element) → found e (record { at = at + width c; text = cs }) ≡ Ok (Lexeme kind, new) → tokens_in line (part_by braces at c cs e) ≡ before (record { kind = kind; at = at; line_before = line }) (tokens_left false (braces_after at kind braces) new)
    by_element (Between l n) h =
        let both = ok_same (Gap l, skipped n (at + width c) cs) (Lexeme kind, new) h in
        let never : Gap l ≡ Lexeme kind = ap (λ p. p.0) both in absurd (cc never)
    by_element (Word other n) h =
        let both = ok_same (Lexeme other, skipped n (at + width c) cs) (Lexeme kind, new) h in
        ap (λ parts. before (record { kind = other; at = at; line_before = line }) (tokens_in false parts)) (parts_passed n (braces_after at other braces) (at + width c) cs)
        ∙ ap (λ x. before (record { kind = x; at = at; line_before = line }) (tokens_left false (braces_after at x braces) (skipped n (at + width c) cs))) (kind_same other kind (ap (λ p. p.0) both))
        ∙ ap (λ l. before (record { kind = kind; at = at; line_before = line }) (tokens_left false (braces_after at kind braces) l)) (ap (λ p. p.1) both)
    by_element (Wrong fault) h = absurd (cc h)

pub token_read : (c : ℕ) (braces : List Brace) (line : Bool) (kind : TokenKind) (left next new : Left) → Some c ≡ first_of left.text → next ≡ skip 1 left → found (element braces left.at c next.text) next ≡ Ok (Lexeme kind, new) → tokens_left line braces left ≡ before (record { kind = kind; at = left.at; line_before = line }) (tokens_left false (braces_after left.at kind braces) new)
token_read c braces line kind left next new h n e =
    by_first (TokenClaim c braces line kind new) c (token_at c braces line kind new) left h (ap (λ l. found (element braces left.at c l.text) l) (sym n) ∙ e)

abbrev FaultClaim : ℕ → List Brace → Bool → LexFault → Left → Left → Type 0
FaultClaim c braces line fault old next = found (element braces old.at c next.text) next ≡ Err fault → tokens_left line braces old ≡ Err fault

fault_at : (c : ℕ) (braces : List Brace) (line : Bool) (fault : LexFault) (at : ℕ) (cs : List ℕ) → FaultClaim c braces line fault (record { at = at; text = c ∷ cs }) (record { at = at + width c; text = cs })
fault_at c braces line fault at cs = by_element (element braces at c cs)
  where
    by_element : (e : Element) → found e (record { at = at + width c; text = cs }) ≡ Err fault → tokens_in line (part_by braces at c cs e) ≡ Err fault
    by_element (Between l n) h = absurd (cc h)
    by_element (Word other n) h = absurd (cc h)
    by_element (Wrong other) h = ap (λ f. Err f) (err_same other fault h)

pub fault_read : (c : ℕ) (braces : List Brace) (line : Bool) (fault : LexFault) (left next : Left) → Some c ≡ first_of left.text → next ≡ skip 1 left → found (element braces left.at c next.text) next ≡ Err fault → tokens_left line braces left ≡ Err fault
fault_read c braces line fault left next h n e =
    by_first (FaultClaim c braces line fault) c (fault_at c braces line fault) left h (ap (λ l. found (element braces left.at c l.text) l) (sym n) ∙ e)

abbrev ended : Bool → ℕ → Option ℕ → Result (List Token) LexFault
ended line at begun = elim begun [ Some place ↦ Err (OpenTemplate place) | None ↦ Ok (record { kind = k.End; at = at; line_before = line } ∷ []) ]

pub end_read : (braces : List Brace) (line : Bool) (left : Left) → None ≡ first_of left.text → tokens_left line braces left ≡ ended line left.at (innermost braces)
end_read braces line left h = by_text left.at left.text h
  where
    by_innermost : (at : ℕ) (o : Option ℕ) → tokens_in line (record { at = at; element = elim o [ Some place ↦ Wrong (OpenTemplate place) | None ↦ Word k.End 0 ]; spelling = [] } ∷ []) ≡ ended line at o
    by_innermost at None = refl
    by_innermost at (Some place) = refl

    by_text : (at : ℕ) (text : List ℕ) → None ≡ first_of text → tokens_left line braces (record { at = at; text = text }) ≡ ended line at (innermost braces)
    by_text at [] h = by_innermost at (innermost braces)
    by_text at (c ∷ cs) h = absurd (cc h)

pub open_read : (braces : List Brace) (line : Bool) (left : Left) (begun : ℕ) → None ≡ first_of left.text → Some begun ≡ innermost braces → tokens_left line braces left ≡ Err (OpenTemplate begun)
open_read braces line left begun h e = end_read braces line left h ∙ ap (ended line left.at) (sym e)

pub last_read : (braces : List Brace) (line : Bool) (left : Left) → None ≡ first_of left.text → None ≡ innermost braces → tokens_left line braces left ≡ Ok (record { kind = k.End; at = left.at; line_before = line } ∷ [])
last_read braces line left h e = end_read braces line left h ∙ ap (ended line left.at) (sym e)

-- the whole

pub tokens-bad : (bytes : List ℕ) (at : ℕ) → Some at ≡ s.first_bad 0 (parts sequence_length bytes) → s.tokens_of bytes ≡ Err (NotUtf8 at)
unfolding s.tokens_of
tokens-bad bytes at h = ap (λ o. elim o as (λ _. Result (List Token) LexFault) [ Some at ↦ Err (NotUtf8 at) | None ↦ tokens_in false (parts_of 0 [] 0 (s.characters_of bytes)) ]) (sym h)

pub tokens-good : (bytes : List ℕ) → None ≡ s.first_bad 0 (parts sequence_length bytes) → s.tokens_of bytes ≡ tokens_left false [] (record { at = 0; text = s.characters_of bytes })
unfolding s.tokens_of
tokens-good bytes h = ap (λ o. elim o as (λ _. Result (List Token) LexFault) [ Some at ↦ Err (NotUtf8 at) | None ↦ tokens_in false (parts_of 0 [] 0 (s.characters_of bytes)) ]) (sym h)
