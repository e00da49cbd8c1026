-- Block comments, a character at a time.
use Rattle.std.proofs.Common.{◌≡◌, ◌≢◌, ℕ, suc, ◌+◌, ◌==◌, Bool, true, false, ◌&&◌, ◌||◌, List, [], ◌∷◌, take, codes, Option, Some, None, option_map, refl, sym, ◌∙◌, ap, subst, arith}
use Rattle.std.specs.List.{list_any}
use Rattle.std.proofs.lemmas.Bool.Decides.{nat_tests}
use Rattle.js_value.proofs.Sequences.{and_false}
use Rattle.es_model.specs.Tokens as s
use Rattle.es_model.specs.Tokens.{width}
use Rattle.js_lexer.specs.Left.{Left, skip, skipped, first_of}
use Rattle.js_lexer.specs.Reads.{comment}

-- a comment, of which a part was read
abbrev pub lined : Bool → Bool × Left → Bool × Left
lined line found = (line || found.0, found.1)

abbrev pub ends_here : ℕ → Left → Bool
ends_here c left = (c == 42) && s.first_is (λ d. d == 47) left.text

abbrev ended : Bool → Option ℕ → Option ℕ
ended begins end = elim begins [ true ↦ Some 2 | false ↦ elim end [ Some n ↦ Some (suc n) | None ↦ None ] ]

abbrev commented : ℕ → List ℕ → Option ℕ → Option (Bool × Left)
commented at text end = elim end [ Some n ↦ Some (list_any s.is_line_break (take n text), skipped n at text) | None ↦ None ]

pub lined-lined : (a b : Bool) (found : Option (Bool × Left)) → option_map (lined a) (option_map (lined b) found) ≡ option_map (lined (a || b)) found
lined-lined a b None = refl
lined-lined true b (Some found) = refl
lined-lined false b (Some found) = refl

pub nothing_read : (found : Option (Bool × Left)) → found ≡ option_map (lined false) found
nothing_read None = refl
nothing_read (Some found) = refl

pub comment-end : (left : Left) → None ≡ first_of left.text → comment left ≡ None
comment-end left h = by_text left.at left.text h
  where
    by_text : (at : ℕ) (text : List ℕ) → None ≡ first_of text → comment (record { at = at; text = text }) ≡ None
    by_text at [] h = refl
    by_text at (d ∷ cs) h = absurd (cc h)

tested : (c : ℕ) (cs : List ℕ) → s.begins (codes "*/") (c ∷ cs) ≡ ((c == 42) && s.first_is (λ d. d == 47) cs)
tested c [] = grind (arith, nat_tests)
tested c (d ∷ cs) = grind (arith, nat_tests)

pub comment-closes : (left : Left) (c : ℕ) → Some c ≡ first_of left.text → ends_here c (skip 1 left) ≡ true → comment left ≡ Some (false, skip 1 (skip 1 left))
comment-closes left c h e = by_text left.at left.text h e
  where
    by_text : (at : ℕ) (text : List ℕ) → Some c ≡ first_of text → ends_here c (skip 1 (record { at = at; text = text })) ≡ true → comment (record { at = at; text = text }) ≡ Some (false, skip 1 (skip 1 (record { at = at; text = text })))
    by_text at [] h e = absurd (cc h)
    by_text at (x ∷ []) h e = let none : ((c == 42) && false) ≡ true = e in absurd (grind (arith, nat_tests))
    by_text at (x ∷ y ∷ cs) h e =
        let same : x ≡ c = cc h in
        let begins : s.begins (codes "*/") (x ∷ y ∷ cs) ≡ true = tested x (y ∷ cs) ∙ ap (λ v. (v == 42) && (y == 47)) same ∙ e in
        let star : x ≡ 42 = grind (arith, nat_tests) in
        let slash : y ≡ 47 = grind (arith, nat_tests) in
        ap (λ b. commented at (x ∷ y ∷ cs) (ended b (s.comment_end (y ∷ cs)))) begins ∙ rw (star, slash) refl

pub comment-more : (left : Left) (c : ℕ) → Some c ≡ first_of left.text → ends_here c (skip 1 left) ≡ false → comment left ≡ option_map (lined (s.is_line_break c)) (comment (skip 1 left))
comment-more left c h e = by_text left.at left.text h e
  where
    by_end : (at : ℕ) (cs : List ℕ) (end : Option ℕ) → commented at (c ∷ cs) (ended false end) ≡ option_map (lined (s.is_line_break c)) (commented (at + width c) cs end)
    by_end at cs None = refl
    by_end at cs (Some n) = refl

    by_text : (at : ℕ) (text : List ℕ) → Some c ≡ first_of text → ends_here c (skip 1 (record { at = at; text = text })) ≡ false → comment (record { at = at; text = text }) ≡ option_map (lined (s.is_line_break c)) (comment (skip 1 (record { at = at; text = text })))
    by_text at [] h e = absurd (cc h)
    by_text at (x ∷ cs) h e =
        let same : c ≡ x = cc h in
        let begins : s.begins (codes "*/") (c ∷ cs) ≡ false = tested c cs ∙ e in
        let P : ℕ → Type 0 = λ v. comment (record { at = at; text = v ∷ cs }) ≡ option_map (lined (s.is_line_break c)) (comment (record { at = at + width v; text = cs })) in
        subst P same (ap (λ b. commented at (c ∷ cs) (ended b (s.comment_end cs))) begins ∙ by_end at cs (s.comment_end cs))

-- a step of the loop
pub not_at : (c : ℕ) (left : Left) → false ≡ s.first_is (λ d. d == 47) left.text → ends_here c left ≡ false
not_at c left h = ap (λ b. (c == 42) && b) (sym h) ∙ and_false (c == 42)

pub not_star : (c : ℕ) (left : Left) → c ≢ 42 → ends_here c left ≡ false
not_star c left h = let test : (c == 42) ≡ false = grind (arith, nat_tests) in ap (λ b. b && s.first_is (λ d. d == 47) left.text) test

pub goes_on : (whole : Option (Bool × Left)) (line : Bool) (left new : Left) (c : ℕ) → whole ≡ option_map (lined line) (comment left) → Some c ≡ first_of left.text → new ≡ skip 1 left → ends_here c new ≡ false → whole ≡ option_map (lined (line || s.is_line_break c)) (comment new)
goes_on whole line left new c w h n e =
    w ∙ ap (option_map (lined line)) (comment-more left c h (ap (ends_here c) (sym n) ∙ e))
    ∙ lined-lined line (s.is_line_break c) (comment (skip 1 left))
    ∙ ap (λ l. option_map (lined (line || s.is_line_break c)) (comment l)) (sym n)
