-- Strings and pieces of templates, a character or an escape at a time.
use Rattle.std.proofs.Common.{◌≡◌, ◌≢◌, ℕ, zero, suc, ◌+◌, ◌==◌, Bool, true, false, ◌&&◌, ◌||◌, List, [], ◌∷◌, ◌++◌, Option, Some, None, Result, Ok, Err, refl, sym, ◌∙◌, ap, subst, arith, append_assoc}
use Rattle.std.proofs.lemmas.Bool.Decides.{nat_tests}
use Rattle.js_value.specs.Text.{utf16}
use Rattle.js_value.proofs.Sequences.{and_false}
use Rattle.es_model.specs.declared.faults.LexFault.{LexFault}
use Rattle.es_model.specs.declared.faults.LexFault.TheVariants.{OpenString, BadEscape}
use Rattle.es_model.specs.Tokens as s
use Rattle.es_model.specs.Tokens.{Inside, Closes, Substitutes, Breaks, Escapes, Returns, Stands, width, in_string, in_template}
use Rattle.js_lexer.specs.Left.{Left, skip, skipped, first_of}
use Rattle.js_lexer.specs.Reads.{string, string_left, piece, piece_left, escape, fed}
use Rattle.js_lexer.proofs.Utf8.{width-1}
use Rattle.js_lexer.proofs.Lefts.{skip-skip}

-- Strings.

-- a string, of which some units were read
abbrev pub put : List ℕ → Result (List ℕ × Left) LexFault → Result (List ℕ × Left) LexFault
put units (Ok (rest, left)) = Ok (units ++ rest, left)
put units (Err fault) = Err fault

pub put-nil : (r : Result (List ℕ × Left) LexFault) → r ≡ put [] r
put-nil (Ok (rest, left)) = refl
put-nil (Err fault) = refl

pub put-put : (a b : List ℕ) (r : Result (List ℕ × Left) LexFault) → put a (put b r) ≡ put (a ++ b) r
put-put a b (Ok (rest, left)) = ap (λ l. Ok (l, left)) (sym (append_assoc a b rest))
put-put a b (Err fault) = refl

string_left-after : (n : ℕ) (units : List ℕ) (left : Left) (r : Result (List ℕ × Bool × ℕ) LexFault) → string_left left (s.after units n r) ≡ put units (string_left (skip n left) r)
string_left-after n units left (Ok (rest, end, more)) = ap (λ l. Ok (units ++ rest, l)) (sym (skip-skip n more left))
string_left-after n units left (Err fault) = refl

string_passed : (quote begun n at : ℕ) (text : List ℕ) → string_left (record { at = at; text = text }) (s.string_from quote n begun at text) ≡ string quote begun (skipped n at text)
string_passed quote begun zero at text = refl
string_passed quote begun (suc n) at [] = refl
string_passed quote begun (suc n) at (c ∷ cs) =
    string_left-after 1 [] (record { at = at; text = c ∷ cs }) (s.string_from quote n begun (at + width c) cs)
    ∙ sym (put-nil (string_left (record { at = at + width c; text = cs }) (s.string_from quote n begun (at + width c) cs)))
    ∙ string_passed quote begun n (at + width c) cs

abbrev string_step : (quote begun at c : ℕ) → List ℕ → Inside → Result (List ℕ × Left) LexFault
string_step quote begun at c cs inside =
    string_left (record { at = at; text = c ∷ cs }) (elim inside [
      | Closes ↦ Ok ([], true, 1)
      | Escapes ↦ elim (s.escape cs) [ Some (units, count) ↦ s.after units 1 (s.string_from quote count begun (at + 1) cs) | None ↦ Err (BadEscape at) ]
      | Stands ↦ s.after (utf16 c) 1 (s.string_from quote 0 begun (at + width c) cs)
      | _ ↦ Err (OpenString begun)
    ])

-- what a string is by its next character
string_by : (quote begun : ℕ) (left : Left) (c : ℕ) (inside : Inside) → Some c ≡ first_of left.text → in_string quote c ≡ inside → string quote begun left ≡ string_step quote begun left.at c (skip 1 left).text inside
string_by quote begun left c inside h is = by_text left.at left.text h
  where
    by_text : (at : ℕ) (text : List ℕ) → Some c ≡ first_of text → string quote begun (record { at = at; text = text }) ≡ string_step quote begun at c (skipped 1 at text).text inside
    by_text at [] h = absurd (cc h)
    by_text at (d ∷ cs) h =
        let same : c ≡ d = cc h in
        let P : ℕ → Type 0 = λ v. string quote begun (record { at = at; text = v ∷ cs }) ≡ string_step quote begun at c cs inside in
        subst P same (ap (string_step quote begun at c cs) is)

-- what is left after the next character
next_left : (left : Left) (c : ℕ) → Some c ≡ first_of left.text → skip 1 left ≡ record { at = left.at + width c; text = (skip 1 left).text }
next_left left c h = by_text left.at left.text h
  where
    by_text : (at : ℕ) (text : List ℕ) → Some c ≡ first_of text → skipped 1 at text ≡ record { at = at + width c; text = (skipped 1 at text).text }
    by_text at [] h = absurd (cc h)
    by_text at (d ∷ cs) h = let same : d ≡ c = cc h in ap (λ v. record { at = at + width v; text = cs }) same

abbrev inside_by : (quote breaks back : Bool) → Inside
inside_by quote breaks back = elim quote [ true ↦ Closes | false ↦ elim breaks [ true ↦ Breaks | false ↦ elim back [ true ↦ Escapes | false ↦ Stands ] ] ]

is_escape : (quote c : ℕ) → c ≢ quote → c ≡ 92 → in_string quote c ≡ Escapes
is_escape quote c e b =
    let test : (c == quote) ≡ false = grind (arith, nat_tests) in
    let breaks : ((c == 10) || (c == 13)) ≡ false = grind (arith, nat_tests) in
    let back : (c == 92) ≡ true = grind (arith, nat_tests) in
    ap (λ t. inside_by t ((c == 10) || (c == 13)) (c == 92)) test ∙ ap (λ t. inside_by false t (c == 92)) breaks ∙ ap (λ t. inside_by false false t) back

abbrev escaped : Left → Option (List ℕ × ℕ) → Option (List ℕ × Left)
escaped left found = elim found [ Some (units, count) ↦ Some (units, skip count left) | None ↦ None ]

pair_same : (a b : List ℕ × Left) → Some a ≡ Some b → a ≡ b
pair_same a b e = cc e

pub string-escapes : (quote begun : ℕ) (left : Left) (c : ℕ) (units : List ℕ) (new : Left) → Some c ≡ first_of left.text → c ≢ quote → c ≡ 92 → escape (skip 1 left) ≡ Some (units, new) → string quote begun left ≡ put units (string quote begun new)
string-escapes quote begun left c units new h e b is =
    string_by quote begun left c Escapes h (is_escape quote c e b)
    ∙ by_escape (s.escape (skip 1 left).text) (sym (ap (λ l. escaped l (s.escape (skip 1 left).text)) (next_left left c h)) ∙ is)
  where
    one : width c ≡ 1
    one = width-1 c (omega arith)

    by_escape : (found : Option (List ℕ × ℕ)) → escaped (record { at = left.at + width c; text = (skip 1 left).text }) found ≡ Some (units, new) → string_left (record { at = left.at; text = c ∷ (skip 1 left).text }) (elim found [ Some (units, count) ↦ s.after units 1 (s.string_from quote count begun (left.at + 1) (skip 1 left).text) | None ↦ Err (BadEscape left.at) ]) ≡ put units (string quote begun new)
    by_escape None e = absurd (cc e)
    by_escape (Some (u, count)) e =
        let pair : (u, skipped count (left.at + width c) (skip 1 left).text) ≡ (units, new) = pair_same _ _ e in
        string_left-after 1 u (record { at = left.at; text = c ∷ (skip 1 left).text }) (s.string_from quote count begun (left.at + 1) (skip 1 left).text)
        ∙ ap (λ w. put u (string_left (record { at = left.at + width c; text = (skip 1 left).text }) (s.string_from quote count begun (left.at + w) (skip 1 left).text))) (sym one)
        ∙ ap (put u) (string_passed quote begun count (left.at + width c) (skip 1 left).text)
        ∙ ap (λ p. put p.0 (string quote begun p.1)) pair

pub string-bad : (quote begun : ℕ) (left : Left) (c : ℕ) → Some c ≡ first_of left.text → c ≢ quote → c ≡ 92 → escape (skip 1 left) ≡ None → string quote begun left ≡ Err (BadEscape left.at)
string-bad quote begun left c h e b none =
    string_by quote begun left c Escapes h (is_escape quote c e b)
    ∙ by_escape (s.escape (skip 1 left).text) none
  where
    by_escape : (found : Option (List ℕ × ℕ)) → escaped (skip 1 left) found ≡ None → string_left (record { at = left.at; text = c ∷ (skip 1 left).text }) (elim found [ Some (units, count) ↦ s.after units 1 (s.string_from quote count begun (left.at + 1) (skip 1 left).text) | None ↦ Err (BadEscape left.at) ]) ≡ Err (BadEscape left.at)
    by_escape None e = refl
    by_escape (Some (u, count)) e = absurd (cc e)

-- Pieces of templates.

abbrev pub put_piece : List ℕ → Result ((List ℕ × Bool) × Left) LexFault → Result ((List ℕ × Bool) × Left) LexFault
put_piece units (Ok (found, left)) = Ok ((units ++ found.0, found.1), left)
put_piece units (Err fault) = Err fault

pub put_piece-nil : (r : Result ((List ℕ × Bool) × Left) LexFault) → r ≡ put_piece [] r
put_piece-nil (Ok (found, left)) = refl
put_piece-nil (Err fault) = refl

pub put_piece-put : (a b : List ℕ) (r : Result ((List ℕ × Bool) × Left) LexFault) → put_piece a (put_piece b r) ≡ put_piece (a ++ b) r
put_piece-put a b (Ok (found, left)) = ap (λ l. Ok ((l, found.1), left)) (sym (append_assoc a b found.0))
put_piece-put a b (Err fault) = refl

piece_left-after : (n : ℕ) (units : List ℕ) (left : Left) (r : Result (List ℕ × Bool × ℕ) LexFault) → piece_left left (s.after units n r) ≡ put_piece units (piece_left (skip n left) r)
piece_left-after n units left (Ok (rest, end, more)) = ap (λ l. Ok ((units ++ rest, end), l)) (sym (skip-skip n more left))
piece_left-after n units left (Err fault) = refl

piece_passed : (begun n at : ℕ) (text : List ℕ) → piece_left (record { at = at; text = text }) (s.template_from n begun at text) ≡ piece begun (skipped n at text)
piece_passed begun zero at text = refl
piece_passed begun (suc n) at [] = refl
piece_passed begun (suc n) at (c ∷ cs) =
    piece_left-after 1 [] (record { at = at; text = c ∷ cs }) (s.template_from n begun (at + width c) cs)
    ∙ sym (put_piece-nil (piece_left (record { at = at + width c; text = cs }) (s.template_from n begun (at + width c) cs)))
    ∙ piece_passed begun n (at + width c) cs

abbrev template_by : (closes substitutes returns back : Bool) → Inside
template_by closes substitutes returns back = elim closes [ true ↦ Closes | false ↦ elim substitutes [ true ↦ Substitutes | false ↦ elim returns [ true ↦ Returns | false ↦ elim back [ true ↦ Escapes | false ↦ Stands ] ] ] ]

template_is : (c : ℕ) (cs : List ℕ) (substitutes returns back : Bool) → (c == 96) ≡ false → ((c == 36) && s.first_is (λ d. d == 123) cs) ≡ substitutes → (c == 13) ≡ returns → (c == 92) ≡ back → in_template c cs ≡ template_by false substitutes returns back
template_is c cs substitutes returns back a b d e =
    ap (λ t. template_by t ((c == 36) && s.first_is (λ d. d == 123) cs) (c == 13) (c == 92)) a
    ∙ ap (λ t. template_by false t (c == 13) (c == 92)) b
    ∙ ap (λ t. template_by false substitutes t (c == 92)) d
    ∙ ap (λ t. template_by false substitutes returns t) e

not_dollar : (c : ℕ) (b : Bool) → (c == 36) ≡ false → ((c == 36) && b) ≡ false
not_dollar c b e = ap (λ t. t && b) e

abbrev piece_step : (begun at c : ℕ) → List ℕ → Inside → Result ((List ℕ × Bool) × Left) LexFault
piece_step begun at c cs inside =
    piece_left (record { at = at; text = c ∷ cs }) (elim inside [
      | Closes ↦ Ok ([], true, 1)
      | Substitutes ↦ Ok ([], false, 2)
      | Returns ↦ s.after (10 ∷ []) 1 (s.template_from (elim (s.first_is (λ d. d == 10) cs) [ true ↦ 1 | false ↦ 0 ]) begun (at + 1) cs)
      | Escapes ↦ elim (s.escape cs) [ Some (units, count) ↦ s.after units 1 (s.template_from count begun (at + 1) cs) | None ↦ Err (BadEscape at) ]
      | _ ↦ s.after (utf16 c) 1 (s.template_from 0 begun (at + width c) cs)
    ])

-- what a piece is by its next character
piece_by : (begun : ℕ) (left : Left) (c : ℕ) (inside : Inside) → Some c ≡ first_of left.text → in_template c (skip 1 left).text ≡ inside → piece begun left ≡ piece_step begun left.at c (skip 1 left).text inside
piece_by begun left c inside h is = by_text left.at left.text h is
  where
    by_text : (at : ℕ) (text : List ℕ) → Some c ≡ first_of text → in_template c (skipped 1 at text).text ≡ inside → piece begun (record { at = at; text = text }) ≡ piece_step begun at c (skipped 1 at text).text inside
    by_text at [] h is = absurd (cc h)
    by_text at (d ∷ cs) h is =
        let same : c ≡ d = cc h in
        let P : ℕ → Type 0 = λ v. piece begun (record { at = at; text = v ∷ cs }) ≡ piece_step begun at c cs inside in
        subst P same (ap (piece_step begun at c cs) is)

abbrev pub substitutes : ℕ → Left → Bool
substitutes c left = (c == 36) && s.first_is (λ d. d == 123) left.text

pub not_open : (c : ℕ) (left new : Left) → new ≡ skip 1 left → false ≡ s.first_is (λ d. d == 123) new.text → substitutes c (skip 1 left) ≡ false
not_open c left new n h = ap (λ l. substitutes c l) (sym n) ∙ ap (λ b. (c == 36) && b) (sym h) ∙ and_false (c == 36)

pub no_dollar : (c : ℕ) (left : Left) → c ≢ 36 → substitutes c left ≡ false
no_dollar c left h = let test : (c == 36) ≡ false = grind (arith, nat_tests) in not_dollar c (s.first_is (λ d. d == 123) left.text) test

pub piece-returns : (begun : ℕ) (left : Left) (c : ℕ) → Some c ≡ first_of left.text → c ≡ 13 → piece begun left ≡ put_piece (10 ∷ []) (piece begun (fed (skip 1 left)))
piece-returns begun left c h e =
    let other : (c == 96) ≡ false = grind (arith, nat_tests) in
    let test : (c == 36) ≡ false = grind (arith, nat_tests) in
    let returns : (c == 13) ≡ true = grind (arith, nat_tests) in
    let back : (c == 92) ≡ false = grind (arith, nat_tests) in
    let inside : in_template c (skip 1 left).text ≡ Returns = template_is c (skip 1 left).text false true false other (not_dollar c (s.first_is (λ d. d == 123) (skip 1 left).text) test) returns back in
    let one : width c ≡ 1 = width-1 c (omega arith) in
    piece_by begun left c Returns h inside
    ∙ piece_left-after 1 (10 ∷ []) (record { at = left.at; text = c ∷ (skip 1 left).text }) (s.template_from (elim (s.first_is (λ d. d == 10) (skip 1 left).text) [ true ↦ 1 | false ↦ 0 ]) begun (left.at + 1) (skip 1 left).text)
    ∙ ap (λ w. put_piece (10 ∷ []) (piece_left (record { at = left.at + width c; text = (skip 1 left).text }) (s.template_from (elim (s.first_is (λ d. d == 10) (skip 1 left).text) [ true ↦ 1 | false ↦ 0 ]) begun (left.at + w) (skip 1 left).text))) (sym one)
    ∙ ap (put_piece (10 ∷ [])) (piece_passed begun (elim (s.first_is (λ d. d == 10) (skip 1 left).text) [ true ↦ 1 | false ↦ 0 ]) (left.at + width c) (skip 1 left).text)
    ∙ ap (λ l. put_piece (10 ∷ []) (piece begun (fed l))) (sym (next_left left c h))

pub piece-stands : (begun : ℕ) (left : Left) (c : ℕ) → Some c ≡ first_of left.text → c ≢ 96 → substitutes c (skip 1 left) ≡ false → c ≢ 13 → c ≢ 92 → piece begun left ≡ put_piece (utf16 c) (piece begun (skip 1 left))
piece-stands begun left c h e plain line back =
    let closing : (c == 96) ≡ false = grind (arith, nat_tests) in
    let returns : (c == 13) ≡ false = grind (arith, nat_tests) in
    let other : (c == 92) ≡ false = grind (arith, nat_tests) in
    let inside : in_template c (skip 1 left).text ≡ Stands = template_is c (skip 1 left).text false false false closing plain returns other in
    piece_by begun left c Stands h inside
    ∙ piece_left-after 1 (utf16 c) (record { at = left.at; text = c ∷ (skip 1 left).text }) (s.template_from 0 begun (left.at + width c) (skip 1 left).text)
    ∙ ap (λ l. put_piece (utf16 c) (piece begun l)) (sym (next_left left c h))

piece_escape : (c : ℕ) (cs : List ℕ) → c ≡ 92 → in_template c cs ≡ Escapes
piece_escape c cs b =
    let closing : (c == 96) ≡ false = grind (arith, nat_tests) in
    let dollar : (c == 36) ≡ false = grind (arith, nat_tests) in
    let returns : (c == 13) ≡ false = grind (arith, nat_tests) in
    let back : (c == 92) ≡ true = grind (arith, nat_tests) in
    template_is c cs false false true closing (not_dollar c (s.first_is (λ d. d == 123) cs) dollar) returns back

pub piece-escapes : (begun : ℕ) (left : Left) (c : ℕ) (units : List ℕ) (new : Left) → Some c ≡ first_of left.text → c ≡ 92 → escape (skip 1 left) ≡ Some (units, new) → piece begun left ≡ put_piece units (piece begun new)
piece-escapes begun left c units new h b is =
    piece_by begun left c Escapes h (piece_escape c (skip 1 left).text b)
    ∙ by_escape (s.escape (skip 1 left).text) (sym (ap (λ l. escaped l (s.escape (skip 1 left).text)) (next_left left c h)) ∙ is)
  where
    one : width c ≡ 1
    one = width-1 c (omega arith)

    by_escape : (found : Option (List ℕ × ℕ)) → escaped (record { at = left.at + width c; text = (skip 1 left).text }) found ≡ Some (units, new) → piece_left (record { at = left.at; text = c ∷ (skip 1 left).text }) (elim found [ Some (units, count) ↦ s.after units 1 (s.template_from count begun (left.at + 1) (skip 1 left).text) | None ↦ Err (BadEscape left.at) ]) ≡ put_piece units (piece begun new)
    by_escape None e = absurd (cc e)
    by_escape (Some (u, count)) e =
        let pair : (u, skipped count (left.at + width c) (skip 1 left).text) ≡ (units, new) = pair_same _ _ e in
        piece_left-after 1 u (record { at = left.at; text = c ∷ (skip 1 left).text }) (s.template_from count begun (left.at + 1) (skip 1 left).text)
        ∙ ap (λ w. put_piece u (piece_left (record { at = left.at + width c; text = (skip 1 left).text }) (s.template_from count begun (left.at + w) (skip 1 left).text))) (sym one)
        ∙ ap (put_piece u) (piece_passed begun count (left.at + width c) (skip 1 left).text)
        ∙ ap (λ p. put_piece p.0 (piece begun p.1)) pair

pub piece-bad : (begun : ℕ) (left : Left) (c : ℕ) → Some c ≡ first_of left.text → c ≡ 92 → escape (skip 1 left) ≡ None → piece begun left ≡ Err (BadEscape left.at)
piece-bad begun left c h b none =
    piece_by begun left c Escapes h (piece_escape c (skip 1 left).text b)
    ∙ by_escape (s.escape (skip 1 left).text) none
  where
    by_escape : (found : Option (List ℕ × ℕ)) → escaped (skip 1 left) found ≡ None → piece_left (record { at = left.at; text = c ∷ (skip 1 left).text }) (elim found [ Some (units, count) ↦ s.after units 1 (s.template_from count begun (left.at + 1) (skip 1 left).text) | None ↦ Err (BadEscape left.at) ]) ≡ Err (BadEscape left.at)
    by_escape None e = refl
    by_escape (Some (u, count)) e = absurd (cc e)
