-- Each token is the longest that begins there: a longer front of what is left of a text is no token.
use Rattle.std.proofs.Common.{◌≡◌, ℕ, zero, suc, ◌+◌, ◌-◌, ◌≤◌, nat_lt, nat_le, cond, Bool, true, false, not, ◌&&◌, ◌||◌, ◌==◌, List, [], ◌∷◌, ◌++◌, length, take, drop, take_while, codes, pos, Option, Some, None, Ok, Err, refl, sym, ap, ◌∙◌, subst, arith}
use Rattle.std.specs.List.{list_any, prefix_len}
use Rattle.std.proofs.lemmas.Bool.Decides.{nat_tests}
use Rattle.std.proofs.lemmas.List.Folds.{length-prefix_len}
use Rattle.js_value.specs.Text.{utf16}
use Rattle.es_model.specs.declared.faults.LexFault.{LexFault}
use Rattle.es_model.specs.declared.faults.LexFault.TheVariants.{BadCharacter, OpenString, OpenComment, OpenTemplate, BadEscape, NumberForm, NumberTooLarge}
use Rattle.es_model.specs.declared.token.TokenKind.{TokenKind}
use Rattle.es_model.specs.declared.token.TokenKind.TheVariants as k
use Rattle.es_model.specs.SyntaxLaws.{IsLongest, LongestIn, EachLongest}
use Rattle.es_model.specs.Tokens as s
use Rattle.es_model.specs.Tokens.{Element, Between, Word, Wrong, Brace, Inside, Closes, Substitutes, Breaks, Escapes, Returns, Stands, width, after, string_from, template_from, element, parts_of, braces_after}
use Rattle.es_model.proofs.ContentLaws.{Read, in_template_by}
use Rattle.es_model.proofs.TokenLaws.{joins, joined_after}

-- Characters that pass a test: as many of a front as of the whole text, at most.

more_pass : (test : ℕ → Bool) (front rest : List ℕ) → prefix_len test front ≤ prefix_len test (front ++ rest)
more_pass test [] rest = omega arith
more_pass test (c ∷ cs) rest = by (test c) (more_pass test cs rest)
  where
    by : (b : Bool) → prefix_len test cs ≤ prefix_len test (cs ++ rest) → cond b (1 + prefix_len test cs) 0 ≤ cond b (1 + prefix_len test (cs ++ rest)) 0
    by true h = omega (arith, h)
    by false h = omega arith

taken : (test : ℕ → Bool) (front rest : List ℕ) → length (take_while test front) ≤ length (take_while test (front ++ rest))
taken test front rest = omega (arith, length-prefix_len test front, length-prefix_len test (front ++ rest), more_pass test front rest)

-- where something stands behind those of the front, they are those of the whole
drop_more : (n : ℕ) (c : ℕ) (cs : List ℕ) → drop (1 + n) (c ∷ cs) ≡ drop n cs
drop_more n c cs = let e : 1 + n ≡ suc n = omega arith in rw e refl

same_pass : (test next : ℕ → Bool) (front rest : List ℕ) → s.first_is next (drop (prefix_len test front) front) ≡ true → prefix_len test (front ++ rest) ≡ prefix_len test front
same_pass test next [] rest h = absurd (cc h)
same_pass test next (c ∷ cs) rest h = by (test c) (same_pass test next cs rest) h
  where
    by : (b : Bool) → (s.first_is next (drop (prefix_len test cs) cs) ≡ true → prefix_len test (cs ++ rest) ≡ prefix_len test cs) → s.first_is next (drop (cond b (1 + prefix_len test cs) 0) (c ∷ cs)) ≡ true → cond b (1 + prefix_len test (cs ++ rest)) 0 ≡ cond b (1 + prefix_len test cs) 0
    by true more h = ap (λ n. 1 + n) (more (ap (s.first_is next) (sym (drop_more (prefix_len test cs) c cs)) ∙ h))
    by false more h = refl

same_taken : (test next : ℕ → Bool) (front rest : List ℕ) → s.first_is next (drop (length (take_while test front)) front) ≡ true → length (take_while test (front ++ rest)) ≡ length (take_while test front)
same_taken test next front rest h =
    length-prefix_len test (front ++ rest)
    ∙ same_pass test next front rest (ap (λ n. s.first_is next (drop n front)) (sym (length-prefix_len test front)) ∙ h)
    ∙ sym (length-prefix_len test front)

-- An escape at the front is that of the whole, or takes all of the front.

abbrev Escape : Type 0
Escape = Option (List ℕ × ℕ)

data Agrees : ℕ → Escape → Escape → Type 0 where
  none_in_front : {n : ℕ} {o : Escape} → Agrees n None o
  none_in_whole : {n : ℕ} {o : Escape} → Agrees n o None
  same_count : {n : ℕ} (a b : List ℕ) (count other : ℕ) → count ≡ other → Agrees n (Some (a, count)) (Some (b, other))
  all_taken : {n : ℕ} (a b : List ℕ) (count other : ℕ) → n ≤ count → Agrees n (Some (a, count)) (Some (b, other))

agree_if : {n : ℕ} (b : Bool) (x y z w : Escape) → Agrees n x z → Agrees n y w → Agrees n (elim b [ true ↦ x | false ↦ y ]) (elim b [ true ↦ z | false ↦ w ])
agree_if true x y z w one other = one
agree_if false x y z w one other = other

agree_ok : {n : ℕ} (b c : Bool) (x z : List ℕ) (count other : ℕ) → (b ≡ true → count ≡ other) → Agrees n (elim b [ true ↦ Some (x, count) | false ↦ None ]) (elim c [ true ↦ Some (z, other) | false ↦ None ])
agree_ok true true x z count other h = same_count _ _ count other (h refl)
agree_ok true false x z count other h = none_in_whole
agree_ok false c x z count other h = none_in_front

hexadecimal_agrees : {n : ℕ} (count : ℕ) (front rest : List ℕ) → Agrees n (s.hexadecimal_escape count front) (s.hexadecimal_escape count (front ++ rest))
hexadecimal_agrees count front rest = agree_ok _ _ _ _ (suc count) (suc count) (λ e. refl)

and_last : (a b c : Bool) → (a && b && c) ≡ true → c ≡ true
and_last true true c h = h
and_last true false c h = absurd (cc h)
and_last false b c h = absurd (cc h)

code_point_agrees : {n : ℕ} (front rest : List ℕ) → Agrees n (s.code_point_escape front) (s.code_point_escape (front ++ rest))
code_point_agrees front rest =
    agree_ok _ _ _ _ _ _ (λ e. ap (λ m. m + 3) (sym (same_taken (s.is_digit_of 16) (λ c. c == 125) front rest (and_last (not (length (take_while (s.is_digit_of 16) front) == 0)) (nat_le (s.number_after 0 16 (take_while (s.is_digit_of 16) front)) 0x10FFFF) _ e))))

unicode_agrees : {n : ℕ} (front rest : List ℕ) → Agrees n (s.unicode_escape front) (s.unicode_escape (front ++ rest))
unicode_agrees [] rest = none_in_front
unicode_agrees (d ∷ front) rest = agree_if (d == 123) _ _ _ _ (code_point_agrees front rest) (hexadecimal_agrees 4 (d ∷ front) rest)

last_agrees : {n : ℕ} (c : ℕ) → Agrees n (elim (s.is_line_break c) [ true ↦ Some ([], 1) | false ↦ Some (utf16 c, 1) ]) (elim (s.is_line_break c) [ true ↦ Some ([], 1) | false ↦ Some (utf16 c, 1) ])
last_agrees c = agree_if (s.is_line_break c) _ _ _ _ (same_count _ _ 1 1 refl) (same_count _ _ 1 1 refl)

ending_agrees : (a line next : Bool) (c : ℕ) → Agrees 1 (elim (a && false) [ true ↦ Some ([], 2) | false ↦ elim line [ true ↦ Some ([], 1) | false ↦ Some (utf16 c, 1) ] ]) (elim (a && next) [ true ↦ Some ([], 2) | false ↦ elim line [ true ↦ Some ([], 1) | false ↦ Some (utf16 c, 1) ] ])
ending_agrees true true true c = all_taken _ _ 1 2 (omega arith)
ending_agrees true true false c = same_count _ _ 1 1 refl
ending_agrees true false true c = all_taken _ _ 1 2 (omega arith)
ending_agrees true false false c = same_count _ _ 1 1 refl
ending_agrees false true next c = same_count _ _ 1 1 refl
ending_agrees false false next c = same_count _ _ 1 1 refl

plain_agrees : (c : ℕ) (front rest : List ℕ) → Agrees (length (c ∷ front)) (s.plain_escape c front) (s.plain_escape c (front ++ rest))
plain_agrees c [] rest = agree_if (s.is_digit c) _ _ _ _ (agree_ok _ _ _ _ 1 1 (λ e. refl)) (ending_agrees (c == 13) (s.is_line_break c) (s.first_is (λ d. d == 10) rest) c)
plain_agrees c (d ∷ front) rest = agree_if (s.is_digit c) _ _ _ _ (agree_ok _ _ _ _ 1 1 (λ e. refl)) (agree_if ((c == 13) && (d == 10)) _ _ _ _ (same_count _ _ 2 2 refl) (last_agrees c))

named_agrees : {n : ℕ} (o : Option ℕ) (x z : Escape) → Agrees n x z → Agrees n (elim o [ Some d ↦ Some (d ∷ [], 1) | None ↦ x ]) (elim o [ Some d ↦ Some (d ∷ [], 1) | None ↦ z ])
named_agrees (Some d) x z h = same_count _ _ 1 1 refl
named_agrees None x z h = h

escape_agrees : (front rest : List ℕ) → Agrees (length front) (s.escape front) (s.escape (front ++ rest))
escape_agrees [] rest = none_in_front
escape_agrees (c ∷ front) rest =
    agree_if (c == 120) _ _ _ _ (hexadecimal_agrees 2 front rest)
    (agree_if (c == 117) _ _ _ _ (unicode_agrees front rest) (named_agrees (s.named_by c) _ _ (plain_agrees c front rest)))

-- Strings and the pieces of templates: one that takes all of the front is no longer than that of the whole.

data Ends : ℕ → Read → Read → Type 0 where
  front_fails : {n : ℕ} {fault : LexFault} {r : Read} → Ends n (Err fault) r
  whole_fails : {n : ℕ} {fault : LexFault} {r : Read} → Ends n r (Err fault)
  both_read : {a b : List ℕ} {last other : Bool} (n count more : ℕ) → (count ≡ n → n ≤ more) → Ends n (Ok (a, last, count)) (Ok (b, other, more))

after_ends : {n : ℕ} (a b : List ℕ) (r w : Read) → Ends n r w → Ends (suc n) (after a 1 r) (after b 1 w)
after_ends a b r w front_fails = front_fails
after_ends a b r w whole_fails = whole_fails
after_ends a b r w (both_read n count more h) = both_read (suc n) (1 + count) (1 + more) (λ e. let c : count ≡ n = omega (arith, e) in let l : n ≤ more = h c in omega (arith, l))

after_fault : (a : List ℕ) (count : ℕ) (fault : LexFault) (r : Read) → r ≡ Err fault → after a count r ≡ Err fault
after_fault a count fault r e = ap (after a count) e

-- Nothing is left behind what was passed.
string_short : (quote passed begun at : ℕ) (text : List ℕ) → length text ≤ passed → string_from quote passed begun at text ≡ Err (OpenString begun)
string_short quote passed begun at [] h = refl
string_short quote (suc passed) begun at (c ∷ cs) h = after_fault [] 1 (OpenString begun) _ (string_short quote passed begun (at + width c) cs (omega (arith, h)))
string_short quote zero begun at (c ∷ cs) h = absurd (omega (arith, h))

template_short : (passed begun at : ℕ) (text : List ℕ) → length text ≤ passed → template_from passed begun at text ≡ Err (OpenTemplate begun)
template_short passed begun at [] h = refl
template_short (suc passed) begun at (c ∷ cs) h = after_fault [] 1 (OpenTemplate begun) _ (template_short passed begun (at + width c) cs (omega (arith, h)))
template_short zero begun at (c ∷ cs) h = absurd (omega (arith, h))

-- what follows an escape, of the front and of the whole, given how each goes on
escaped_ends : (n at : ℕ) (fault : LexFault) (one other : Escape) (r w : ℕ → Read) → Agrees n one other → ((count : ℕ) → Ends n (r count) (w count)) → ((count : ℕ) → n ≤ count → r count ≡ Err fault) →
    Ends (suc n) (elim one [ Some (units, count) ↦ after units 1 (r count) | None ↦ Err (BadEscape at) ]) (elim other [ Some (units, count) ↦ after units 1 (w count) | None ↦ Err (BadEscape at) ])
escaped_ends n at fault one other r w none_in_front goes short = front_fails
escaped_ends n at fault one other r w none_in_whole goes short = whole_fails
escaped_ends n at fault one other r w (same_count a b count more e) goes short = after_ends a b (r count) (w more) (subst (λ m. Ends n (r count) (w m)) e (goes count))
escaped_ends n at fault one other r w (all_taken a b count more h) goes short = subst (λ x. Ends (suc n) x (after b 1 (w more))) (sym (after_fault a 1 fault (r count) (short count h))) front_fails

one_read : {a b : List ℕ} {last other : Bool} (n count : ℕ) → Ends n (Ok (a, last, count)) (Ok (b, other, count))
one_read n count = both_read n count count (λ e. omega (arith, e))

string_ends : (quote passed begun at : ℕ) (front rest : List ℕ) → Ends (length front) (string_from quote passed begun at front) (string_from quote passed begun at (front ++ rest))
string_ends quote passed begun at [] rest = front_fails
string_ends quote (suc passed) begun at (c ∷ cs) rest = after_ends [] [] _ _ (string_ends quote passed begun (at + width c) cs rest)
string_ends quote zero begun at (c ∷ cs) rest =
    by (s.in_string quote c) (escaped_ends (length cs) at (OpenString begun) (s.escape cs) (s.escape (cs ++ rest)) (λ count. string_from quote count begun (at + 1) cs) (λ count. string_from quote count begun (at + 1) (cs ++ rest)) (escape_agrees cs rest) (λ count. string_ends quote count begun (at + 1) cs rest) (λ count h. string_short quote count begun (at + 1) cs h))
    (after_ends (utf16 c) (utf16 c) _ _ (string_ends quote 0 begun (at + width c) cs rest))
  where
    by : {x y z w : Read} (inside : Inside) → Ends (suc (length cs)) x y → Ends (suc (length cs)) z w →
        Ends (suc (length cs)) (elim inside [ Closes ↦ Ok ([], true, 1) | Escapes ↦ x | Stands ↦ z | _ ↦ Err (OpenString begun) ]) (elim inside [ Closes ↦ Ok ([], true, 1) | Escapes ↦ y | Stands ↦ w | _ ↦ Err (OpenString begun) ])
    by Closes escapes stands = one_read (suc (length cs)) 1
    by Escapes escapes stands = escapes
    by Stands escapes stands = stands
    by Substitutes escapes stands = front_fails
    by Breaks escapes stands = front_fails
    by Returns escapes stands = front_fails

-- how the reading of a template goes on
abbrev read_by : Inside → (returns escapes stands : Read) → Read
read_by inside returns escapes stands = elim inside [ Closes ↦ Ok ([], true, 1) | Substitutes ↦ Ok ([], false, 2) | Returns ↦ returns | Escapes ↦ escapes | _ ↦ stands ]

-- a front of one character: it closes the template, or leaves it open
template_alone : (begun at c : ℕ) (rest : List ℕ) → Ends 1 (template_from 0 begun at (c ∷ [])) (template_from 0 begun at (c ∷ rest))
template_alone begun at c rest = by _ _ _ (c == 96) (c == 36) (c == 13) (c == 92)
  where
    by : (x y z : Read) (quote dollar return backslash : Bool) →
        Ends 1 (read_by (in_template_by quote (dollar && false) return backslash) (Err (OpenTemplate begun)) (Err (BadEscape at)) (Err (OpenTemplate begun)))
        (read_by (in_template_by quote (dollar && s.first_is (λ d. d == 123) rest) return backslash) x y z)
    by x y z true dollar return backslash = one_read 1 1
    by x y z false true true backslash = front_fails
    by x y z false true false true = front_fails
    by x y z false true false false = front_fails
    by x y z false false true backslash = front_fails
    by x y z false false false true = front_fails
    by x y z false false false false = front_fails

template_ends : (passed begun at : ℕ) (front rest : List ℕ) → Ends (length front) (template_from passed begun at front) (template_from passed begun at (front ++ rest))
template_ends passed begun at [] rest = front_fails
template_ends (suc passed) begun at (c ∷ cs) rest = after_ends [] [] _ _ (template_ends passed begun (at + width c) cs rest)
template_ends zero begun at (c ∷ []) rest = template_alone begun at c rest
template_ends zero begun at (c ∷ (d ∷ cs)) rest =
    by (s.in_template c (d ∷ cs))
    (after_ends (10 ∷ []) (10 ∷ []) _ _ (template_ends (elim (d == 10) [ true ↦ 1 | false ↦ 0 ]) begun (at + 1) (d ∷ cs) rest))
    (escaped_ends (length (d ∷ cs)) at (OpenTemplate begun) (s.escape (d ∷ cs)) (s.escape (d ∷ cs ++ rest)) (λ count. template_from count begun (at + 1) (d ∷ cs)) (λ count. template_from count begun (at + 1) (d ∷ cs ++ rest)) (escape_agrees (d ∷ cs) rest) (λ count. template_ends count begun (at + 1) (d ∷ cs) rest) (λ count h. template_short count begun (at + 1) (d ∷ cs) h))
    (after_ends (utf16 c) (utf16 c) _ _ (template_ends 0 begun (at + width c) (d ∷ cs) rest))
  where
    by : {x y z w u v : Read} (inside : Inside) → Ends (suc (suc (length cs))) x y → Ends (suc (suc (length cs))) z w → Ends (suc (suc (length cs))) u v →
        Ends (suc (suc (length cs))) (read_by inside x z u) (read_by inside y w v)
    by Closes returns escapes stands = one_read (suc (suc (length cs))) 1
    by Substitutes returns escapes stands = one_read (suc (suc (length cs))) 2
    by Returns returns escapes stands = returns
    by Escapes returns escapes stands = escapes
    by Stands returns escapes stands = stands
    by Breaks returns escapes stands = stands

-- Signs: the longest that a front begins with is no longer than that of the whole.

abbrev longer : ℕ → ℕ → Option (ℕ × ℕ) → Option (ℕ × ℕ)
longer n size None = Some (n, size)
longer n size (Some (m, other)) = elim (nat_lt size other) [ true ↦ Some (m, other) | false ↦ Some (n, size) ]

-- a sign that is found is found in the whole too, at least as long
data Finds : Option (ℕ × ℕ) → Option (ℕ × ℕ) → Type 0 where
  not_found : {o : Option (ℕ × ℕ)} → Finds None o
  found : (n m size other : ℕ) → size ≤ other → Finds (Some (n, size)) (Some (m, other))

begins_more : (row text rest : List ℕ) → s.begins row text ≡ true → s.begins row (text ++ rest) ≡ true
begins_more [] text rest h = refl
begins_more (c ∷ row) [] rest h = absurd (cc h)
begins_more (c ∷ row) (d ∷ text) rest h = by (c == d) (begins_more row text rest) h
  where
    by : (b : Bool) → (s.begins row text ≡ true → s.begins row (text ++ rest) ≡ true) → (b && s.begins row text) ≡ true → (b && s.begins row (text ++ rest)) ≡ true
    by true more h = more h
    by false more h = absurd (cc h)

lt_true : (a b : ℕ) → nat_lt a b ≡ true → a ≤ b
lt_true a b h = grind (arith, nat_tests)

lt_false : (a b : ℕ) → nat_lt a b ≡ false → b ≤ a
lt_false a b h = grind (arith, nat_tests)

longer_finds : (n size : ℕ) (o w : Option (ℕ × ℕ)) → Finds o w → Finds (longer n size o) (longer n size w)
longer_finds n size None None not_found = found n n size size (omega arith)
longer_finds n size None (Some (m, other)) not_found = by (nat_lt size other) refl
  where
    by : (b : Bool) → nat_lt size other ≡ b → Finds (Some (n, size)) (elim b [ true ↦ Some (m, other) | false ↦ Some (n, size) ])
    by true e = found n m size other (lt_true size other e)
    by false e = found n n size size (omega arith)
longer_finds n size o w (found one m short long le) = by (nat_lt size short) (nat_lt size long) refl refl
  where
    by : (b c : Bool) → nat_lt size short ≡ b → nat_lt size long ≡ c → Finds (elim b [ true ↦ Some (one, short) | false ↦ Some (n, size) ]) (elim c [ true ↦ Some (m, long) | false ↦ Some (n, size) ])
    by true true e f = found one m short long le
    by true false e f = found one n short size (omega (arith, le, lt_false size long f))
    by false true e f = found n m size long (lt_true size long f)
    by false false e f = found n n size size (omega arith)

later_finds : (n size : ℕ) (o w : Option (ℕ × ℕ)) → Finds o w → Finds o (longer n size w)
later_finds n size None w not_found = not_found
later_finds n size o w (found one m short long le) = by (nat_lt size long) refl
  where
    by : (c : Bool) → nat_lt size long ≡ c → Finds (Some (one, short)) (elim c [ true ↦ Some (m, long) | false ↦ Some (n, size) ])
    by true f = found one m short long le
    by false f = found one n short size (omega (arith, le, lt_false size long f))

signs_found : (n : ℕ) (rows : List (List ℕ)) (text rest : List ℕ) → Finds (s.longest_from n rows text) (s.longest_from n rows (text ++ rest))
signs_found n [] text rest = not_found
signs_found n (row ∷ rows) text rest = by (s.begins row text) (s.begins row (text ++ rest)) (begins_more row text rest) (signs_found (suc n) rows text rest)
  where
    by : {o w : Option (ℕ × ℕ)} (b c : Bool) → (b ≡ true → c ≡ true) → Finds o w → Finds (elim b [ true ↦ longer n (length row) o | false ↦ o ]) (elim c [ true ↦ longer n (length row) w | false ↦ w ])
    by true true more h = longer_finds n (length row) _ _ h
    by true false more h = absurd (cc (more refl))
    by false true more h = later_finds n (length row) _ _ h
    by false false more h = h

-- Elements: a token that takes all of a front is no longer than the token of the whole.

data Within : ℕ → Element → Element → Type 0 where
  no_token : {n more : ℕ} {line : Bool} {whole : Element} → Within n (Between line more) whole
  wrong_front : {n : ℕ} {fault : LexFault} {whole : Element} → Within n (Wrong fault) whole
  wrong_whole : {n : ℕ} {fault : LexFault} {front : Element} → Within n front (Wrong fault)
  tokens : (kind other : TokenKind) (n count more : ℕ) → (count ≡ n → n ≤ more) → Within n (Word kind count) (Word other more)

within_if : {n : ℕ} (b : Bool) (x y z w : Element) → Within n x z → Within n y w → Within n (elim b [ true ↦ x | false ↦ y ]) (elim b [ true ↦ z | false ↦ w ])
within_if true x y z w one other = one
within_if false x y z w one other = other

sign_within : (at : ℕ) (n : ℕ) (text rest : List ℕ) → Within n (s.sign_element at text) (s.sign_element at (text ++ rest))
sign_within at n text rest = by (s.longest_from 0 s.signs text) (s.longest_from 0 s.signs (text ++ rest)) (signs_found 0 s.signs text rest)
  where
    by : (o w : Option (ℕ × ℕ)) → Finds o w → Within n (elim o [ Some (m, size) ↦ Word (k.Sign m) (size - 1) | None ↦ Wrong (BadCharacter at) ]) (elim w [ Some (m, size) ↦ Word (k.Sign m) (size - 1) | None ↦ Wrong (BadCharacter at) ])
    by o w not_found = wrong_front
    by o w (found m other size long le) = tokens (k.Sign m) (k.Sign other) n (size - 1) (long - 1) (λ e. omega (arith, e, le))

name_within : (n c : ℕ) (front rest : List ℕ) → Within n (s.name_element c front) (s.name_element c (front ++ rest))
name_within n c front rest = by (s.keyword_of (c ∷ take_while s.is_name_part front)) (s.keyword_of (c ∷ take_while s.is_name_part (front ++ rest))) _ _ _ _ (taken s.is_name_part front rest)
  where
    by : (o w : Option ℕ) (a b : List ℕ) (count more : ℕ) → count ≤ more → Within n (elim o [ Some m ↦ Word (k.Keyword m) count | None ↦ Word (k.Name a) count ]) (elim w [ Some m ↦ Word (k.Keyword m) more | None ↦ Word (k.Name b) more ])
    by (Some m) (Some l) a b count more le = tokens _ _ n count more (λ e. omega (arith, e, le))
    by (Some m) None a b count more le = tokens _ _ n count more (λ e. omega (arith, e, le))
    by None (Some l) a b count more le = tokens _ _ n count more (λ e. omega (arith, e, le))
    by None None a b count more le = tokens _ _ n count more (λ e. omega (arith, e, le))

abbrev based : ℕ → List ℕ → ℕ × ℕ
based base digits = elim digits [ [] ↦ (0, 0) | d ∷ ds ↦ (s.number_after 0 base (d ∷ ds), suc (length (d ∷ ds))) ]

based_more : (base n : ℕ) (a b : List ℕ) → length a ≤ length b → (based base a).1 ≡ n → n ≤ (based base b).1
based_more base n [] b le e = omega (arith, e)
based_more base n (x ∷ a) [] le e = absurd (omega (arith, le))
based_more base n (x ∷ a) (y ∷ b) le e = omega (arith, le, e)

literal_more : (c : ℕ) (front rest : List ℕ) → (s.number_literal c front).1 ≡ length front → length front ≤ (s.number_literal c (front ++ rest)).1
literal_more c [] rest e = omega arith
literal_more c (d ∷ front) rest e = by (c == 48) e
  where
    by : (b : Bool) →
        (elim b as (λ x. ℕ × ℕ) [ true ↦ s.based_literal (s.base_of d) front | false ↦ (s.number_after 0 10 (c ∷ take_while s.is_digit (d ∷ front)), length (take_while s.is_digit (d ∷ front))) ]).1 ≡ suc (length front) →
        suc (length front) ≤ (elim b as (λ x. ℕ × ℕ) [ true ↦ s.based_literal (s.base_of d) (front ++ rest) | false ↦ (s.number_after 0 10 (c ∷ take_while s.is_digit (d ∷ front ++ rest)), length (take_while s.is_digit (d ∷ front ++ rest))) ]).1
    by true h = based_more (s.base_of d) (suc (length front)) (take_while (s.is_digit_of (s.base_of d)) front) (take_while (s.is_digit_of (s.base_of d)) (front ++ rest)) (taken (s.is_digit_of (s.base_of d)) front rest) h
    by false h = omega (arith, h, taken s.is_digit (d ∷ front) rest)

number_within : (at c : ℕ) (front rest : List ℕ) → Within (length front) (s.number_element at c front) (s.number_element at c (front ++ rest))
number_within at c front rest = by _ _ _ _ _ _ _ _ (literal_more c front rest)
  where
    by : (goes small follows least : Bool) (value other : ℕ) (count more : ℕ) → (count ≡ length front → length front ≤ more) →
        Within (length front)
        (elim goes [ true ↦ Wrong (NumberForm at) | false ↦ elim small [ true ↦ Word (k.Number (pos value)) count | false ↦ Wrong (NumberTooLarge at) ] ])
        (elim follows [ true ↦ Wrong (NumberForm at) | false ↦ elim least [ true ↦ Word (k.Number (pos other)) more | false ↦ Wrong (NumberTooLarge at) ] ])
    by true small follows least value other count more h = wrong_front
    by false false follows least value other count more h = wrong_front
    by false true true least value other count more h = wrong_whole
    by false true false false value other count more h = wrong_whole
    by false true false true value other count more h = tokens _ _ (length front) count more h

string_within : (n at : ℕ) (r w : Read) → Ends n r w → Within n (s.read_string at r) (s.read_string at w)
string_within n at r w front_fails = wrong_front
string_within n at r w whole_fails = wrong_whole
string_within n at r w (both_read m count more h) = tokens _ _ m count more h

template_within : (n : ℕ) (first : Bool) (r w : Read) → Ends n r w → Within n (s.read_template first r) (s.read_template first w)
template_within n first r w front_fails = wrong_front
template_within n first r w whole_fails = wrong_whole
template_within n first r w (both_read m count more h) = tokens _ _ m count more h

closing_within : (braces : List Brace) (at d : ℕ) (front rest : List ℕ) → Within (length (d ∷ front)) (s.closing_element braces at (d ∷ front)) (s.closing_element braces at (d ∷ front ++ rest))
closing_within braces at d front rest = by (s.continued braces)
  where
    by : (o : Option ℕ) → Within (length (d ∷ front))
        (elim o [ Some first ↦ s.read_template false (template_from 0 first (at + 1) (d ∷ front)) | None ↦ s.sign_element at (125 ∷ d ∷ front) ])
        (elim o [ Some first ↦ s.read_template false (template_from 0 first (at + 1) (d ∷ front ++ rest)) | None ↦ s.sign_element at (125 ∷ d ∷ front ++ rest) ])
    by (Some first) = template_within _ false _ _ (template_ends 0 first (at + 1) (d ∷ front) rest)
    by None = sign_within at _ (125 ∷ d ∷ front) rest

quoted_within : (braces : List Brace) (at c d : ℕ) (front rest : List ℕ) → Within (length (d ∷ front)) (s.quoted_element braces at c (d ∷ front)) (s.quoted_element braces at c (d ∷ front ++ rest))
quoted_within braces at c d front rest =
    within_if ((c == 34) || (c == 39)) _ _ _ _ (string_within _ at _ _ (string_ends c 0 at (at + 1) (d ∷ front) rest))
    (within_if (c == 96) _ _ _ _ (template_within _ true _ _ (template_ends 0 at (at + 1) (d ∷ front) rest))
    (within_if (c == 125) _ _ _ _ (closing_within braces at d front rest) (sign_within at _ (c ∷ d ∷ front) rest)))

word_within : (braces : List Brace) (at c d : ℕ) (front rest : List ℕ) → Within (length (d ∷ front)) (s.word_element braces at c (d ∷ front)) (s.word_element braces at c (d ∷ front ++ rest))
word_within braces at c d front rest =
    within_if (s.is_name_start c) _ _ _ _ (name_within _ c (d ∷ front) rest)
    (within_if (s.is_digit c) _ _ _ _ (number_within at c (d ∷ front) rest)
    (within_if ((c == 46) && s.is_digit d) _ _ _ _ wrong_front (quoted_within braces at c d front rest)))

block_within : (n at : ℕ) (front : List ℕ) (whole : Element) → Within n (s.block_comment at front) whole
block_within n at front whole = by (s.comment_end front)
  where
    by : (o : Option ℕ) → Within n (elim o [ Some m ↦ Between (list_any s.is_line_break (take m front)) (suc m) | None ↦ Wrong (OpenComment at) ]) whole
    by (Some m) = no_token
    by None = wrong_front

element_within : (braces : List Brace) (at c d : ℕ) (front rest : List ℕ) → Within (length (d ∷ front)) (element braces at c (d ∷ front)) (element braces at c (d ∷ front ++ rest))
element_within braces at c d front rest =
    within_if (s.is_blank c) _ _ _ _ no_token
    (within_if (s.is_line_break c) _ _ _ _ no_token
    (within_if (s.begins (codes "//") (c ∷ d ∷ front)) _ _ _ _ no_token
    (within_if (s.begins (codes "/*") (c ∷ d ∷ front)) _ _ _ _ (block_within _ at front _) (word_within braces at c d front rest))))

no_longer : (n : ℕ) (front whole : Element) (kind other : TokenKind) (more : ℕ) → Within n front whole → front ≡ Word kind n → whole ≡ Word other more → n ≤ more
no_longer n front whole kind other more no_token e f = absurd (cc e)
no_longer n front whole kind other more wrong_front e f = absurd (cc e)
no_longer n front whole kind other more wrong_whole e f = absurd (cc f)
no_longer n front whole kind other more (tokens _ _ m count size h) e f =
    let a : count ≡ m = cc e in
    let b : size ≡ more = cc f in
    let c : m ≤ size = h a in
    omega (arith, b, c)

-- a token is the longest that begins at its place
pub is_longest : (braces : List Brace) (at c : ℕ) (cs : List ℕ) (kind : TokenKind) (more : ℕ) → element braces at c cs ≡ Word kind more → IsLongest braces at c cs more
is_longest braces at c cs kind more e [] rest same one = omega arith
is_longest braces at c cs kind more e (d ∷ front) rest same one =
    no_longer (length (d ∷ front)) (element braces at c (d ∷ front)) (element braces at c (d ∷ front ++ rest)) one.0 kind more (element_within braces at c d front rest) one.1 (ap (element braces at c) same ∙ e)

-- each token among the parts of a text is

longest_after : (passed : ℕ) (braces : List Brace) (at : ℕ) (text : List ℕ) → EachLongest braces (parts_of passed braces at text)
longest_after passed braces at [] = ending_longest (s.innermost braces)
  where
    ending_longest : (o : Option ℕ) → EachLongest braces (record { at = at; element = elim o [ Some begun ↦ Wrong (OpenTemplate begun) | None ↦ Word k.End 0 ]; spelling = [] } ∷ [])
    ending_longest (Some begun) = tt
    ending_longest None = (tt, tt)
longest_after (suc passed) braces at (c ∷ cs) = longest_after passed braces (at + width c) cs
longest_after zero braces at (c ∷ cs) =
    by (element braces at c cs) refl
    (λ more. longest_after more braces (at + width c) cs)
    (λ kind more. longest_after more (braces_after at kind braces) (at + width c) cs)
  where
    by : (e : Element) → element braces at c cs ≡ e → ((more : ℕ) → EachLongest braces (parts_of more braces (at + width c) cs)) → ((kind : TokenKind) (more : ℕ) → EachLongest (braces_after at kind braces) (parts_of more (braces_after at kind braces) (at + width c) cs)) →
        EachLongest braces (elim e [
          | Between line more ↦ record { at = at; element = Between line more; spelling = c ∷ take more cs } ∷ parts_of more braces (at + width c) cs
          | Word kind more ↦ record { at = at; element = Word kind more; spelling = c ∷ take more cs } ∷ parts_of more (braces_after at kind braces) (at + width c) cs
          | Wrong fault ↦ record { at = at; element = Wrong fault; spelling = c ∷ cs } ∷ []
        ])
    by (Between line more) e gap word = gap more
    by (Word kind more) e gap word =
        (subst (λ text. LongestIn braces at text more) (sym (joins c cs more _ (joined_after more (braces_after at kind braces) (at + width c) cs))) (is_longest braces at c cs kind more e), word kind more)
    by (Wrong fault) e gap word = tt

-- each token of a text is the longest that begins at its place
pub each_longest : (text : List ℕ) → EachLongest [] (parts_of 0 [] 0 text)
each_longest text = longest_after 0 [] 0 text
