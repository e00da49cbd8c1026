-- The content of strings and of templates is what the productions say.
use Rattle.std.proofs.Common.{◌≡◌, ℕ, zero, suc, ◌+◌, Bool, true, false, not, ◌&&◌, ◌||◌, ◌==◌, List, [], ◌∷◌, ◌++◌, drop, Option, Some, None, Result, Ok, Err, refl, sym, ap, ◌∙◌, subst, arith}
use Rattle.std.proofs.lemmas.Bool.Decides.{nat_tests}
use Rattle.js_value.specs.Text.{utf16}
use Rattle.es_model.specs.declared.faults.LexFault.{LexFault}
use Rattle.es_model.specs.declared.faults.LexFault.TheVariants.{OpenString, BadEscape}
use Rattle.es_model.specs.Tokens as s
use Rattle.es_model.specs.Tokens.{Inside, Closes, Substitutes, Breaks, Escapes, Returns, Stands, width, after, string_from, template_from, escape}
use Rattle.es_model.specs.Contents.{StringCharacters, NoCharacter, Character, EscapeSequence, TemplateCharacters, NoTemplateCharacter, TemplateCharacter, ReturnAndFeed, ReturnAlone, TemplateEscape, template_end}

abbrev pub Read : Type 0
Read = Result (List ℕ × Bool × ℕ) LexFault

same : (c d : ℕ) → (c == d) ≡ true → c ≡ d
same c d h = grind (arith, nat_tests)

self : (c : ℕ) → (c == c) ≡ true
self c = grind (arith, nat_tests)

drop_one : (n c : ℕ) (cs : List ℕ) → drop (1 + n) (c ∷ cs) ≡ drop n cs
drop_one n c cs = let e : 1 + n ≡ suc n = omega arith in rw e refl

ap₃ : {A : Type 0} (f : Bool → Bool → Bool → A) {a b c d e g : Bool} → a ≡ b → c ≡ d → e ≡ g → f a c e ≡ f b d g
ap₃ f p q r = rw (p, q, r) refl

-- A reading, given what its characters say of the units and of the text behind them.

abbrev Says : (List ℕ → Bool → List ℕ → Type 0) → List ℕ → Read → Type 0
Says P text (Ok (units, last, count)) = P units last (drop count text)
Says P text (Err fault) = Unit {0}

says_after : (P Q : List ℕ → Bool → List ℕ → Type 0) (a : List ℕ) (c : ℕ) (cs : List ℕ) (r : Read) → ((units : List ℕ) (last : Bool) (rest : List ℕ) → P units last rest → Q (a ++ units) last rest) → Says P cs r → Says Q (c ∷ cs) (after a 1 r)
says_after P Q a c cs (Ok (units, last, count)) more h = subst (Q (a ++ units) last) (sym (drop_one count c cs)) (more units last (drop count cs) h)
says_after P Q a c cs (Err fault) more h = tt

abbrev InString : ℕ → List ℕ → List ℕ → Bool → List ℕ → Type 0
InString quote text units last rest = (last ≡ true) × StringCharacters quote text units (quote ∷ rest)

-- what a character is, by the tests of it
abbrev in_string_by : (quote break backslash : Bool) → Inside
in_string_by quote break backslash =
    elim quote [
      | true ↦ Closes
      | false ↦
          elim break [
            | true ↦ Breaks
            | false ↦
                elim backslash [ true ↦ Escapes | false ↦ Stands ]
          ]
    ]

string_says : (quote passed begun at : ℕ) (text : List ℕ) → Says (InString quote (drop passed text)) text (string_from quote passed begun at text)
string_says quote passed begun at [] = tt
string_says quote (suc passed) begun at (c ∷ cs) = says_after (InString quote (drop passed cs)) (InString quote (drop passed cs)) [] c cs _ (λ units last rest h. h) (string_says quote passed begun (at + width c) cs)
string_says quote zero begun at (c ∷ cs) =
    by (c == quote) ((c == 10) || (c == 13)) (c == 92) (escape cs) refl refl refl refl (λ count. string_says quote count begun (at + 1) cs) (string_says quote 0 begun (at + width c) cs)
  where
    by : (q b e : Bool) (o : Option (List ℕ × ℕ)) → (c == quote) ≡ q → ((c == 10) || (c == 13)) ≡ b → (c == 92) ≡ e → escape cs ≡ o →
        ((count : ℕ) → Says (InString quote (drop count cs)) cs (string_from quote count begun (at + 1) cs)) → Says (InString quote cs) cs (string_from quote 0 begun (at + width c) cs) →
        Says (InString quote (c ∷ cs)) (c ∷ cs) (elim (in_string_by q b e) [
          | Closes ↦ Ok ([], true, 1)
          | Escapes ↦ elim o [ Some (units, count) ↦ after units 1 (string_from quote count begun (at + 1) cs) | None ↦ Err (BadEscape at) ]
          | Stands ↦ after (utf16 c) 1 (string_from quote 0 begun (at + width c) cs)
          | _ ↦ Err (OpenString begun)
        ])
    by true b e o hq hb he ho escaped stands = (refl, subst (λ d. StringCharacters quote (c ∷ cs) [] (d ∷ cs)) (same c quote hq) (NoCharacter quote (c ∷ cs)))
    by false true e o hq hb he ho escaped stands = tt
    by false false true (Some (one, count)) hq hb he ho escaped stands =
        says_after (InString quote (drop count cs)) (InString quote (c ∷ cs)) one c cs _
        (λ units last rest h. (h.0, subst (λ d. StringCharacters quote (d ∷ cs) (one ++ units) (quote ∷ rest)) (sym (same c 92 he)) (EscapeSequence quote count cs one units (quote ∷ rest) ho h.1)))
        (escaped count)
    by false false true None hq hb he ho escaped stands = tt
    by false false false o hq hb he ho escaped stands =
        says_after (InString quote cs) (InString quote (c ∷ cs)) (utf16 c) c cs _
        (λ units last rest h. (h.0, Character quote c cs units (quote ∷ rest) (ap₃ (λ x y z. not x && not y && not z) hq hb he) h.1))
        stands

-- A string that is read is one of the productions', and ends in its quote.
pub string_is : (quote begun at : ℕ) (text units : List ℕ) (last : Bool) (count : ℕ) → string_from quote 0 begun at text ≡ Ok (units, last, count) → (last ≡ true) × StringCharacters quote text units (quote ∷ drop count text)
string_is quote begun at text units last count e = subst (Says (InString quote text) text) e (string_says quote 0 begun at text)

-- And one of the productions' is read.

drop_both : (count n : ℕ) (text : List ℕ) → drop (count + n) text ≡ drop n (drop count text)
drop_both zero n text = let e : 0 + n ≡ n = omega arith in rw e refl
drop_both (suc count) n [] = drop_nothing (suc count + n) ∙ sym (drop_nothing n)
  where
    drop_nothing : (m : ℕ) → drop {A = ℕ} m [] ≡ []
    drop_nothing zero = refl
    drop_nothing (suc m) = refl
drop_both (suc count) n (c ∷ cs) = let e : suc count + n ≡ suc (count + n) = omega arith in rw e (drop_both count n cs)

-- the place behind some characters
abbrev place_behind : ℕ → ℕ → List ℕ → ℕ
place_behind at zero text = at
place_behind at (suc count) [] = at
place_behind at (suc count) (c ∷ cs) = place_behind (at + width c) count cs

string_passes : (quote begun count at : ℕ) (text units : List ℕ) (n : ℕ) → string_from quote 0 begun (place_behind at count text) (drop count text) ≡ Ok (units, true, n) → string_from quote count begun at text ≡ Ok (units, true, count + n)
string_passes quote begun zero at text units n e = e ∙ ap (λ m. Ok (units, true, m)) (omega arith)
string_passes quote begun (suc count) at [] units n e = absurd (cc e)
string_passes quote begun (suc count) at (c ∷ cs) units n e = ap (after [] 1) (string_passes quote begun count (at + width c) cs units n e) ∙ ap (λ m. Ok (units, true, m)) (omega arith)

abbrev string_by : Inside → (escaped stands : Read) → ℕ → Read
string_by inside escaped stands begun = elim inside [ Closes ↦ Ok ([], true, 1) | Escapes ↦ escaped | Stands ↦ stands | _ ↦ Err (OpenString begun) ]

abbrev string_escaped : (quote begun at : ℕ) (cs : List ℕ) → Option (List ℕ × ℕ) → Read
string_escaped quote begun at cs o = elim o [ Some (units, count) ↦ after units 1 (string_from quote count begun (at + 1) cs) | None ↦ Err (BadEscape at) ]

string_step : (quote begun at c : ℕ) (cs : List ℕ) (inside : Inside) → s.in_string quote c ≡ inside →
    string_from quote 0 begun at (c ∷ cs) ≡ string_by inside (string_escaped quote begun at cs (escape cs)) (after (utf16 c) 1 (string_from quote 0 begun (at + width c) cs)) begun
string_step quote begun at c cs inside e = ap (λ i. string_by i (string_escaped quote begun at cs (escape cs)) (after (utf16 c) 1 (string_from quote 0 begun (at + width c) cs)) begun) e

string_stands : (a b c : Bool) → (not a && not b && not c) ≡ true → in_string_by a b c ≡ Stands
string_stands true b c h = absurd (cc h)
string_stands false true c h = absurd (cc h)
string_stands false false true h = absurd (cc h)
string_stands false false false h = refl

abbrev StringReads : (quote begun at : ℕ) → (text units rest : List ℕ) → Type 0
StringReads quote begun at text units rest = (n : ℕ) × (string_from quote 0 begun at text ≡ Ok (units, true, n)) × (drop n text ≡ rest)

string_back : (quote begun : ℕ) → (92 == quote) ≡ false → (text units tail : List ℕ) → StringCharacters quote text units tail → (rest : List ℕ) → tail ≡ quote ∷ rest → (at : ℕ) → StringReads quote begun at text units rest
string_back quote begun other _ _ _ (NoCharacter _ text) rest e at =
    subst (λ t. StringReads quote begun at t [] rest) (sym e)
    (1, string_step quote begun at quote rest Closes (ap (λ b. in_string_by b ((quote == 10) || (quote == 13)) (quote == 92)) (self quote)), refl)
string_back quote begun other _ _ _ (Character _ c text units tail stands more) rest e at =
    let h : StringReads quote begun (at + width c) text units rest = string_back quote begun other text units tail more rest e (at + width c) in
    (1 + h.0, string_step quote begun at c text Stands (string_stands (c == quote) ((c == 10) || (c == 13)) (c == 92) stands) ∙ ap (after (utf16 c) 1) h.1, drop_one h.0 c text ∙ h.2)
string_back quote begun other _ _ _ (EscapeSequence _ count text one units tail escaped more) rest e at =
    let h : StringReads quote begun (place_behind (at + 1) count text) (drop count text) units rest = string_back quote begun other (drop count text) units tail more rest e (place_behind (at + 1) count text) in (
      1 + (count + h.0),
      string_step quote begun at 92 text Escapes (ap (λ b. in_string_by b false true) other)
          ∙ ap (string_escaped quote begun at text) escaped
          ∙ ap (after one 1) (string_passes quote begun count (at + 1) text units h.0 h.1),
      drop_one (count + h.0) 92 text ∙ drop_both count h.0 text ∙ h.2,
    )

-- A string of the productions, with a quote behind it, is read up to that quote; no quote is a backslash.
pub string_reads : (quote begun at : ℕ) (text units rest : List ℕ) → (92 == quote) ≡ false → StringCharacters quote text units (quote ∷ rest) →
    (count : ℕ) × (string_from quote 0 begun at text ≡ Ok (units, true, count)) × (drop count text ≡ rest)
string_reads quote begun at text units rest other h = string_back quote begun other text units (quote ∷ rest) h rest refl at

-- The same of a template's piece.

abbrev InTemplate : List ℕ → List ℕ → Bool → List ℕ → Type 0
InTemplate text units last rest = TemplateCharacters text units (template_end last rest)

-- what a character of a template is, by the tests of it
abbrev pub in_template_by : (quote substitution return backslash : Bool) → Inside
in_template_by quote substitution return backslash =
    elim quote [
      | true ↦ Closes
      | false ↦
          elim substitution [
            | true ↦ Substitutes
            | false ↦
                elim return [
                  | true ↦ Returns
                  | false ↦
                      elim backslash [ true ↦ Escapes | false ↦ Stands ]
                ]
          ]
    ]

and_true : (a b : Bool) → (a && b) ≡ true → (a ≡ true) × (b ≡ true)
and_true true b h = (refl, h)
and_true false b h = absurd (cc h)

substitution_begins : (c : ℕ) (cs : List ℕ) → ((c == 36) && s.first_is (λ d. d == 123) cs) ≡ true → TemplateCharacters (c ∷ cs) [] (36 ∷ 123 ∷ drop 2 (c ∷ cs))
substitution_begins c [] h = absurd (cc ((and_true (c == 36) false h).1))
substitution_begins c (d ∷ cs) h =
    let both : ((c == 36) ≡ true) × ((d == 123) ≡ true) = and_true (c == 36) (d == 123) h in
    subst (λ x. TemplateCharacters (c ∷ d ∷ cs) [] (36 ∷ x ∷ cs)) (same d 123 both.1)
    (subst (λ x. TemplateCharacters (c ∷ d ∷ cs) [] (x ∷ d ∷ cs)) (same c 36 both.0) (NoTemplateCharacter (c ∷ d ∷ cs)))

feed : (c : ℕ) (cs units rest : List ℕ) → (c == 13) ≡ true → s.first_is (λ d. d == 10) cs ≡ true → TemplateCharacters (drop 1 cs) units rest → TemplateCharacters (c ∷ cs) (10 ∷ units) rest
feed c [] units rest r e h = absurd (cc e)
feed c (d ∷ cs) units rest r e h =
    subst (λ x. TemplateCharacters (x ∷ d ∷ cs) (10 ∷ units) rest) (sym (same c 13 r))
    (subst (λ x. TemplateCharacters (13 ∷ x ∷ cs) (10 ∷ units) rest) (sym (same d 10 e)) (ReturnAndFeed cs units rest h))

line_ends : (begun at c : ℕ) (cs : List ℕ) (b : Bool) → s.first_is (λ d. d == 10) cs ≡ b → (c == 13) ≡ true → ((count : ℕ) → Says (InTemplate (drop count cs)) cs (template_from count begun (at + 1) cs)) →
    Says (InTemplate (c ∷ cs)) (c ∷ cs) (after (10 ∷ []) 1 (template_from (elim b [ true ↦ 1 | false ↦ 0 ]) begun (at + 1) cs))
line_ends begun at c cs true e r says = says_after (InTemplate (drop 1 cs)) (InTemplate (c ∷ cs)) (10 ∷ []) c cs _ (λ units last rest h. feed c cs units (template_end last rest) r e h) (says 1)
line_ends begun at c cs false e r says =
    says_after (InTemplate cs) (InTemplate (c ∷ cs)) (10 ∷ []) c cs _
    (λ units last rest h. subst (λ x. TemplateCharacters (x ∷ cs) (10 ∷ units) (template_end last rest)) (sym (same c 13 r)) (ReturnAlone cs units (template_end last rest) e h))
    (says 0)

template_says : (passed begun at : ℕ) (text : List ℕ) → Says (InTemplate (drop passed text)) text (template_from passed begun at text)
template_says passed begun at [] = tt
template_says (suc passed) begun at (c ∷ cs) = says_after (InTemplate (drop passed cs)) (InTemplate (drop passed cs)) [] c cs _ (λ units last rest h. h) (template_says passed begun (at + width c) cs)
template_says zero begun at (c ∷ cs) =
    by (c == 96) ((c == 36) && s.first_is (λ d. d == 123) cs) (c == 13) (c == 92) (escape cs) refl refl refl refl refl (λ count. template_says count begun (at + 1) cs) (template_says 0 begun (at + width c) cs)
  where
    by : (q u r e : Bool) (o : Option (List ℕ × ℕ)) → (c == 96) ≡ q → ((c == 36) && s.first_is (λ d. d == 123) cs) ≡ u → (c == 13) ≡ r → (c == 92) ≡ e → escape cs ≡ o →
        ((count : ℕ) → Says (InTemplate (drop count cs)) cs (template_from count begun (at + 1) cs)) → Says (InTemplate cs) cs (template_from 0 begun (at + width c) cs) →
        Says (InTemplate (c ∷ cs)) (c ∷ cs) (elim (in_template_by q u r e) [
          | Closes ↦ Ok ([], true, 1)
          | Substitutes ↦ Ok ([], false, 2)
          | Returns ↦ after (10 ∷ []) 1 (template_from (elim (s.first_is (λ d. d == 10) cs) [ true ↦ 1 | false ↦ 0 ]) begun (at + 1) cs)
          | Escapes ↦ elim o [ Some (units, count) ↦ after units 1 (template_from count begun (at + 1) cs) | None ↦ Err (BadEscape at) ]
          | _ ↦ after (utf16 c) 1 (template_from 0 begun (at + width c) cs)
        ])
    by true u r e o hq hu hr he ho escaped stands = subst (λ d. TemplateCharacters (c ∷ cs) [] (d ∷ cs)) (same c 96 hq) (NoTemplateCharacter (c ∷ cs))
    by false true r e o hq hu hr he ho escaped stands = substitution_begins c cs hu
    by false false true e o hq hu hr he ho escaped stands = line_ends begun at c cs (s.first_is (λ d. d == 10) cs) refl hr escaped
    by false false false true (Some (one, count)) hq hu hr he ho escaped stands =
        says_after (InTemplate (drop count cs)) (InTemplate (c ∷ cs)) one c cs _
        (λ units last rest h. subst (λ d. TemplateCharacters (d ∷ cs) (one ++ units) (template_end last rest)) (sym (same c 92 he)) (TemplateEscape count cs one units (template_end last rest) ho h))
        (escaped count)
    by false false false true None hq hu hr he ho escaped stands = tt
    by false false false false o hq hu hr he ho escaped stands =
        says_after (InTemplate cs) (InTemplate (c ∷ cs)) (utf16 c) c cs _
        (λ units last rest h. TemplateCharacter c cs units (template_end last rest) (rw (hq, hu, hr, he) refl) h)
        stands

-- A template's piece that is read is one of the productions', and ends in its backquote, or in `${`.
pub template_is : (begun at : ℕ) (text units : List ℕ) (last : Bool) (count : ℕ) → template_from 0 begun at text ≡ Ok (units, last, count) → TemplateCharacters text units (template_end last (drop count text))
template_is begun at text units last count e = subst (Says (InTemplate text) text) e (template_says 0 begun at text)

template_passes : (begun count at : ℕ) (text units : List ℕ) (last : Bool) (n : ℕ) → template_from 0 begun (place_behind at count text) (drop count text) ≡ Ok (units, last, n) → template_from count begun at text ≡ Ok (units, last, count + n)
template_passes begun zero at text units last n e = e ∙ ap (λ m. Ok (units, last, m)) (omega arith)
template_passes begun (suc count) at [] units last n e = absurd (cc e)
template_passes begun (suc count) at (c ∷ cs) units last n e = ap (after [] 1) (template_passes begun count (at + width c) cs units last n e) ∙ ap (λ m. Ok (units, last, m)) (omega arith)

abbrev template_by : Inside → (returns escaped stands : Read) → Read
template_by inside returns escaped stands = elim inside [ Closes ↦ Ok ([], true, 1) | Substitutes ↦ Ok ([], false, 2) | Returns ↦ returns | Escapes ↦ escaped | _ ↦ stands ]

abbrev template_returns : (begun at : ℕ) (cs : List ℕ) → Bool → Read
template_returns begun at cs b = after (10 ∷ []) 1 (template_from (elim b [ true ↦ 1 | false ↦ 0 ]) begun (at + 1) cs)

abbrev template_escaped : (begun at : ℕ) (cs : List ℕ) → Option (List ℕ × ℕ) → Read
template_escaped begun at cs o = elim o [ Some (units, count) ↦ after units 1 (template_from count begun (at + 1) cs) | None ↦ Err (BadEscape at) ]

template_step : (begun at c : ℕ) (cs : List ℕ) (inside : Inside) → s.in_template c cs ≡ inside →
    template_from 0 begun at (c ∷ cs) ≡ template_by inside (template_returns begun at cs (s.first_is (λ d. d == 10) cs)) (template_escaped begun at cs (escape cs)) (after (utf16 c) 1 (template_from 0 begun (at + width c) cs))
template_step begun at c cs inside e = ap (λ i. template_by i (template_returns begun at cs (s.first_is (λ d. d == 10) cs)) (template_escaped begun at cs (escape cs)) (after (utf16 c) 1 (template_from 0 begun (at + width c) cs))) e

template_stands : (a b c d : Bool) → (not a && not b && not c && not d) ≡ true → in_template_by a b c d ≡ Stands
template_stands true b c d h = absurd (cc h)
template_stands false true c d h = absurd (cc h)
template_stands false false true d h = absurd (cc h)
template_stands false false false true h = absurd (cc h)
template_stands false false false false h = refl

abbrev TemplateReads : (begun at : ℕ) → (text units : List ℕ) → Bool → List ℕ → Type 0
TemplateReads begun at text units last rest = (n : ℕ) × (template_from 0 begun at text ≡ Ok (units, last, n)) × (drop n text ≡ rest)

ending_read : (begun at : ℕ) (last : Bool) (rest : List ℕ) → TemplateReads begun at (template_end last rest) [] last rest
ending_read begun at true rest = (1, refl, refl)
ending_read begun at false rest = (2, refl, refl)

template_back : (begun : ℕ) (text units tail : List ℕ) → TemplateCharacters text units tail → (last : Bool) (rest : List ℕ) → tail ≡ template_end last rest → (at : ℕ) → TemplateReads begun at text units last rest
template_back begun _ _ _ (NoTemplateCharacter text) last rest e at = subst (λ t. TemplateReads begun at t [] last rest) (sym e) (ending_read begun at last rest)
template_back begun _ _ _ (TemplateCharacter c text units tail stands more) last rest e at =
    let h : TemplateReads begun (at + width c) text units last rest = template_back begun text units tail more last rest e (at + width c) in (
      1 + h.0,
      template_step begun at c text Stands (template_stands (c == 96) ((c == 36) && s.first_is (λ d. d == 123) text) (c == 13) (c == 92) stands) ∙ ap (after (utf16 c) 1) h.1,
      drop_one h.0 c text ∙ h.2,
    )
template_back begun _ _ _ (ReturnAndFeed text units tail more) last rest e at =
    let h : TemplateReads begun (at + 1 + width 10) text units last rest = template_back begun text units tail more last rest e (at + 1 + width 10) in
    (1 + (1 + h.0), ap (λ r. after (10 ∷ []) 1 (after [] 1 r)) h.1, drop_one (1 + h.0) 13 (10 ∷ text) ∙ drop_one h.0 10 text ∙ h.2)
template_back begun _ _ _ (ReturnAlone text units tail alone more) last rest e at =
    let h : TemplateReads begun (at + 1) text units last rest = template_back begun text units tail more last rest e (at + 1) in
    (1 + h.0, ap (template_returns begun at text) alone ∙ ap (after (10 ∷ []) 1) h.1, drop_one h.0 13 text ∙ h.2)
template_back begun _ _ _ (TemplateEscape count text one units tail escaped more) last rest e at =
    let h : TemplateReads begun (place_behind (at + 1) count text) (drop count text) units last rest = template_back begun (drop count text) units tail more last rest e (place_behind (at + 1) count text) in (
      1 + (count + h.0),
      template_step begun at 92 text Escapes refl
          ∙ ap (template_escaped begun at text) escaped
          ∙ ap (after one 1) (template_passes begun count (at + 1) text units last h.0 h.1),
      drop_one (count + h.0) 92 text ∙ drop_both count h.0 text ∙ h.2,
    )

-- A piece of the productions, with what it ends with behind it, is read up to that.
pub template_reads : (begun at : ℕ) (text units : List ℕ) (last : Bool) (rest : List ℕ) → TemplateCharacters text units (template_end last rest) →
    (count : ℕ) × (template_from 0 begun at text ≡ Ok (units, last, count)) × (drop count text ≡ rest)
template_reads begun at text units last rest h = template_back begun text units (template_end last rest) h last rest refl at
