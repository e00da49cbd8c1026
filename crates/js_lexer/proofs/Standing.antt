-- The element that stands at a place, by its first characters.
use Rattle.std.proofs.Common.{◌≡◌, ◌≢◌, ℕ, suc, ◌+◌, ◌==◌, Bool, true, false, ◌&&◌, ◌||◌, not, List, [], ◌∷◌, take, codes, Option, Some, None, Result, Ok, Err, refl, sym, ◌∙◌, ap, subst, arith, ◌⊎◌, inl, inr}
use Rattle.std.specs.List.{list_any}
use Rattle.std.proofs.lemmas.Bool.Decides.{nat_tests}
use Rattle.js_value.proofs.Sequences.{and_false}
use Rattle.es_model.specs.declared.faults.LexFault.{LexFault}
use Rattle.es_model.specs.declared.faults.LexFault.TheVariants.{OpenComment, NumberForm}
use Rattle.es_model.specs.declared.token.TokenKind.TheVariants as k
use Rattle.es_model.specs.Tokens as s
use Rattle.es_model.specs.Tokens.{Element, Between, Word, Wrong, Brace, element, word_element, quoted_element, closing_element, width}
use Rattle.js_lexer.specs.declared.elements.Found.{Found}
use Rattle.js_lexer.specs.declared.elements.Found.TheVariants.{Gap, Token}
use Rattle.js_lexer.specs.Left.{Left, skip, skipped}
use Rattle.js_lexer.specs.Reads.{Reads, found, behind, comment, string, string_left, piece_left}
use Rattle.js_lexer.proofs.Utf8.{width-1}

-- what is read of an element is read of the same element
pub reads_same : (e f : Element) (left : Left) (r : Result Found LexFault) (new : Left) → e ≡ f → Reads (found f left) r new → Reads (found e left) r new
reads_same e f left r new same h = let P : Element → Type 0 = λ x. Reads (found x left) r new in subst P (sym same) h

two_begin : (x y c : ℕ) (cs : List ℕ) → s.begins (x ∷ y ∷ []) (c ∷ cs) ≡ ((c == x) && s.first_is (λ d. d == y) cs)
two_begin x y c [] = grind (arith, nat_tests)
two_begin x y c (d ∷ cs) = grind (arith, nat_tests)

both_true : (x y c : ℕ) (cs : List ℕ) → c ≡ x → true ≡ s.first_is (λ d. d == y) cs → ((c == x) && s.first_is (λ d. d == y) cs) ≡ true
both_true x y c cs h e = let test : (c == x) ≡ true = grind (arith, nat_tests) in ap (λ t. t && s.first_is (λ d. d == y) cs) test ∙ sym e

pub not_first : (x y c : ℕ) (cs : List ℕ) → c ≢ x → ((c == x) && s.first_is (λ d. d == y) cs) ≡ false
not_first x y c cs h = let test : (c == x) ≡ false = grind (arith, nat_tests) in ap (λ t. t && s.first_is (λ d. d == y) cs) test

pub not_second : (x y c : ℕ) (cs : List ℕ) → false ≡ s.first_is (λ d. d == y) cs → ((c == x) && s.first_is (λ d. d == y) cs) ≡ false
not_second x y c cs e = ap (λ t. (c == x) && t) (sym e) ∙ and_false (c == x)

abbrev element_by : (blank breaks line block : Bool) → List Brace → ℕ → ℕ → List ℕ → Element
element_by blank breaks line block braces at c cs =
    elim blank [
      | true ↦ Between false 0
      | false ↦ elim breaks [ true ↦ Between true 0 | false ↦ elim line [ true ↦ s.line_comment (s.behind cs) | false ↦ elim block [ true ↦ s.block_comment at (s.behind cs) | false ↦ word_element braces at c cs ] ] ]
    ]

pub is_gap : (braces : List Brace) (at c : ℕ) (left : Left) → true ≡ s.is_blank c → found (element braces at c left.text) left ≡ Ok (Gap false, left)
is_gap braces at c left h = ap (λ b. found (element_by b (s.is_line_break c) (s.begins (codes "//") (c ∷ left.text)) (s.begins (codes "/*") (c ∷ left.text)) braces at c left.text) left) (sym h)

pub is_break : (braces : List Brace) (at c : ℕ) (left : Left) → false ≡ s.is_blank c → true ≡ s.is_line_break c → found (element braces at c left.text) left ≡ Ok (Gap true, left)
is_break braces at c left b h =
    ap (λ t. found (element_by t (s.is_line_break c) (s.begins (codes "//") (c ∷ left.text)) (s.begins (codes "/*") (c ∷ left.text)) braces at c left.text) left) (sym b)
    ∙ ap (λ t. found (element_by false t (s.begins (codes "//") (c ∷ left.text)) (s.begins (codes "/*") (c ∷ left.text)) braces at c left.text) left) (sym h)

past_gaps : (braces : List Brace) (at c : ℕ) (cs : List ℕ) (line block : Bool) → false ≡ s.is_blank c → false ≡ s.is_line_break c → ((c == 47) && s.first_is (λ d. d == 47) cs) ≡ line → ((c == 47) && s.first_is (λ d. d == 42) cs) ≡ block → element braces at c cs ≡ element_by false false line block braces at c cs
past_gaps braces at c cs line block b l x y =
    ap (λ t. element_by t (s.is_line_break c) (s.begins (codes "//") (c ∷ cs)) (s.begins (codes "/*") (c ∷ cs)) braces at c cs) (sym b)
    ∙ ap (λ t. element_by false t (s.begins (codes "//") (c ∷ cs)) (s.begins (codes "/*") (c ∷ cs)) braces at c cs) (sym l)
    ∙ ap (λ t. element_by false false t (s.begins (codes "/*") (c ∷ cs)) braces at c cs) (two_begin 47 47 c cs ∙ x)
    ∙ ap (λ t. element_by false false line t braces at c cs) (two_begin 47 42 c cs ∙ y)

line_found : (left : Left) → true ≡ s.first_is (λ d. d == 47) left.text → found (s.line_comment (s.behind left.text)) left ≡ Ok (Gap false, behind (λ c. not (s.is_line_break c)) (skip 1 left))
line_found left h = by_text left.at left.text h
  where
    by_text : (at : ℕ) (text : List ℕ) → true ≡ s.first_is (λ d. d == 47) text → found (s.line_comment (s.behind text)) (record { at = at; text = text }) ≡ Ok (Gap false, behind (λ c. not (s.is_line_break c)) (skipped 1 at text))
    by_text at [] h = absurd (cc h)
    by_text at (c ∷ cs) h = refl

pub is_line : (braces : List Brace) (at c : ℕ) (left next new : Left) → false ≡ s.is_blank c → false ≡ s.is_line_break c → c ≡ 47 → true ≡ s.first_is (λ d. d == 47) left.text → next ≡ skip 1 left → new ≡ behind (λ d. not (s.is_line_break d)) next → found (element braces at c left.text) left ≡ Ok (Gap false, new)
is_line braces at c left next new b l e h n r =
    ap (λ x. found x left) (past_gaps braces at c left.text true ((c == 47) && s.first_is (λ d. d == 42) left.text) b l (both_true 47 47 c left.text e h) refl)
    ∙ line_found left h ∙ ap (λ x. Ok (Gap false, x)) (sym (r ∙ ap (behind (λ d. not (s.is_line_break d))) n))

abbrev commented : ℕ → List ℕ → Option ℕ → Element
commented at cs end = elim end [ Some n ↦ Between (list_any s.is_line_break (take n cs)) (suc n) | None ↦ Wrong (OpenComment at) ]

abbrev comment_by : ℕ → List ℕ → Option ℕ → Option (Bool × Left)
comment_by at cs end = elim end [ Some n ↦ Some (list_any s.is_line_break (take n cs), skipped n at cs) | None ↦ None ]

comment_same : (a b : Bool × Left) → Some a ≡ Some b → a ≡ b
comment_same a b e = cc e

block_found : (at : ℕ) (left new : Left) (line : Bool) → true ≡ s.first_is (λ d. d == 42) left.text → comment (skip 1 left) ≡ Some (line, new) → found (s.block_comment at (s.behind left.text)) left ≡ Ok (Gap line, new)
block_found at left new line h e = by_text left.at left.text h e
  where
    by_end : (place c : ℕ) (cs : List ℕ) (end : Option ℕ) → comment_by (place + width c) cs end ≡ Some (line, new) → found (commented at cs end) (record { at = place; text = c ∷ cs }) ≡ Ok (Gap line, new)
    by_end place c cs None e = absurd (cc e)
    by_end place c cs (Some n) e = ap (λ p. Ok (Gap p.0, p.1)) (comment_same (list_any s.is_line_break (take n cs), skipped n (place + width c) cs) (line, new) e)

    by_text : (place : ℕ) (text : List ℕ) → true ≡ s.first_is (λ d. d == 42) text → comment (skipped 1 place text) ≡ Some (line, new) → found (s.block_comment at (s.behind text)) (record { at = place; text = text }) ≡ Ok (Gap line, new)
    by_text place [] h e = absurd (cc h)
    by_text place (c ∷ cs) h e = by_end place c cs (s.comment_end cs) e

block_open : (at : ℕ) (left : Left) → true ≡ s.first_is (λ d. d == 42) left.text → comment (skip 1 left) ≡ None → found (s.block_comment at (s.behind left.text)) left ≡ Err (OpenComment at)
block_open at left h e = by_text left.at left.text h e
  where
    by_end : (place c : ℕ) (cs : List ℕ) (end : Option ℕ) → comment_by (place + width c) cs end ≡ None → found (commented at cs end) (record { at = place; text = c ∷ cs }) ≡ Err (OpenComment at)
    by_end place c cs None e = refl
    by_end place c cs (Some n) e = absurd (cc e)

    by_text : (place : ℕ) (text : List ℕ) → true ≡ s.first_is (λ d. d == 42) text → comment (skipped 1 place text) ≡ None → found (s.block_comment at (s.behind text)) (record { at = place; text = text }) ≡ Err (OpenComment at)
    by_text place [] h e = absurd (cc h)
    by_text place (c ∷ cs) h e = by_end place c cs (s.comment_end cs) e

pub is_block : (braces : List Brace) (at c : ℕ) (left next new : Left) (line : Bool) → false ≡ s.is_blank c → false ≡ s.is_line_break c → ((c == 47) && s.first_is (λ d. d == 47) left.text) ≡ false → c ≡ 47 → true ≡ s.first_is (λ d. d == 42) left.text → next ≡ skip 1 left → comment next ≡ Some (line, new) → found (element braces at c left.text) left ≡ Ok (Gap line, new)
is_block braces at c left next new line b l x e h n r =
    ap (λ y. found y left) (past_gaps braces at c left.text false true b l x (both_true 47 42 c left.text e h))
    ∙ block_found at left new line h (ap comment (sym n) ∙ r)

pub is_open : (braces : List Brace) (at c : ℕ) (left next : Left) → false ≡ s.is_blank c → false ≡ s.is_line_break c → ((c == 47) && s.first_is (λ d. d == 47) left.text) ≡ false → c ≡ 47 → true ≡ s.first_is (λ d. d == 42) left.text → next ≡ skip 1 left → comment next ≡ None → found (element braces at c left.text) left ≡ Err (OpenComment at)
is_open braces at c left next b l x e h n r =
    ap (λ y. found y left) (past_gaps braces at c left.text false true b l x (both_true 47 42 c left.text e h))
    ∙ block_open at left h (ap comment (sym n) ∙ r)

pub is_word : (braces : List Brace) (at c : ℕ) (cs : List ℕ) → false ≡ s.is_blank c → false ≡ s.is_line_break c → ((c == 47) && s.first_is (λ d. d == 47) cs) ≡ false → ((c == 47) && s.first_is (λ d. d == 42) cs) ≡ false → element braces at c cs ≡ word_element braces at c cs
is_word braces at c cs b l x y = past_gaps braces at c cs false false b l x y

-- words

abbrev word_by : (name digit point : Bool) → List Brace → ℕ → ℕ → List ℕ → Element
word_by name digit point braces at c cs =
    elim name [ true ↦ s.name_element c cs | false ↦ elim digit [ true ↦ s.number_element at c cs | false ↦ elim point [ true ↦ Wrong (NumberForm at) | false ↦ quoted_element braces at c cs ] ] ]

pub is_name : (braces : List Brace) (at c : ℕ) (cs : List ℕ) → true ≡ s.is_name_start c → word_element braces at c cs ≡ s.name_element c cs
is_name braces at c cs h = ap (λ t. word_by t (s.is_digit c) ((c == 46) && s.first_is s.is_digit cs) braces at c cs) (sym h)

pub is_number : (braces : List Brace) (at c : ℕ) (cs : List ℕ) → false ≡ s.is_name_start c → true ≡ s.is_digit c → word_element braces at c cs ≡ s.number_element at c cs
is_number braces at c cs n h =
    ap (λ t. word_by t (s.is_digit c) ((c == 46) && s.first_is s.is_digit cs) braces at c cs) (sym n)
    ∙ ap (λ t. word_by false t ((c == 46) && s.first_is s.is_digit cs) braces at c cs) (sym h)

other_word : (braces : List Brace) (at c : ℕ) (cs : List ℕ) (point : Bool) → false ≡ s.is_name_start c → false ≡ s.is_digit c → ((c == 46) && s.first_is s.is_digit cs) ≡ point → word_element braces at c cs ≡ word_by false false point braces at c cs
other_word braces at c cs point n d p =
    ap (λ t. word_by t (s.is_digit c) ((c == 46) && s.first_is s.is_digit cs) braces at c cs) (sym n)
    ∙ ap (λ t. word_by false t ((c == 46) && s.first_is s.is_digit cs) braces at c cs) (sym d)
    ∙ ap (λ t. word_by false false t braces at c cs) p

pub is_point : (braces : List Brace) (at c : ℕ) (left : Left) → false ≡ s.is_name_start c → false ≡ s.is_digit c → c ≡ 46 → true ≡ s.first_is s.is_digit left.text → found (word_element braces at c left.text) left ≡ Err (NumberForm at)
is_point braces at c left n d e h =
    let test : (c == 46) ≡ true = grind (arith, nat_tests) in
    ap (λ x. found x left) (other_word braces at c left.text true n d (ap (λ t. t && s.first_is s.is_digit left.text) test ∙ sym h))

pub no_point : (c : ℕ) (cs : List ℕ) → c ≢ 46 → ((c == 46) && s.first_is s.is_digit cs) ≡ false
no_point c cs h = let test : (c == 46) ≡ false = grind (arith, nat_tests) in ap (λ t. t && s.first_is s.is_digit cs) test

pub no_digit : (c : ℕ) (cs : List ℕ) → false ≡ s.first_is s.is_digit cs → ((c == 46) && s.first_is s.is_digit cs) ≡ false
no_digit c cs h = ap (λ t. (c == 46) && t) (sym h) ∙ and_false (c == 46)

pub is_quoted : (braces : List Brace) (at c : ℕ) (cs : List ℕ) → false ≡ s.is_name_start c → false ≡ s.is_digit c → ((c == 46) && s.first_is s.is_digit cs) ≡ false → word_element braces at c cs ≡ quoted_element braces at c cs
is_quoted braces at c cs n d p = other_word braces at c cs false n d p

-- strings, templates and signs

abbrev quoted_by : (quote back closing : Bool) → List Brace → ℕ → ℕ → List ℕ → Element
quoted_by quote back closing braces at c cs =
    elim quote [
      | true ↦ s.read_string at (s.string_from c 0 at (at + 1) cs)
      | false ↦ elim back [ true ↦ s.read_template true (s.template_from 0 at (at + 1) cs) | false ↦ elim closing [ true ↦ closing_element braces at cs | false ↦ s.sign_element at (c ∷ cs) ] ]
    ]

quoted_is : (braces : List Brace) (at c : ℕ) (cs : List ℕ) (quote back closing : Bool) → ((c == 34) || (c == 39)) ≡ quote → (c == 96) ≡ back → (c == 125) ≡ closing → quoted_element braces at c cs ≡ quoted_by quote back closing braces at c cs
quoted_is braces at c cs quote back closing q b e =
    ap (λ t. quoted_by t (c == 96) (c == 125) braces at c cs) q ∙ ap (λ t. quoted_by quote t (c == 125) braces at c cs) b ∙ ap (λ t. quoted_by quote back t braces at c cs) e

string_found : (at : ℕ) (left : Left) (r : Result (List ℕ × Bool × ℕ) LexFault) (units : List ℕ) (new : Left) → string_left left r ≡ Ok (units, new) → found (s.read_string at r) left ≡ Ok (Token (k.String units), new)
string_found at left (Ok (u, last, count)) units new e = let pair : (u, skip count left) ≡ (units, new) = pair_of (u, skip count left) (units, new) e in ap (λ p. Ok (Token (k.String p.0), p.1)) pair
  where
    pair_of : (a b : List ℕ × Left) → ◌≡◌ {A = Result (List ℕ × Left) LexFault} (Ok a) (Ok b) → a ≡ b
    pair_of a b e = cc e
string_found at left (Err fault) units new e = absurd (cc e)

string_fault : (at : ℕ) (left : Left) (r : Result (List ℕ × Bool × ℕ) LexFault) (fault : LexFault) → string_left left r ≡ Err fault → found (s.read_string at r) left ≡ Err fault
string_fault at left (Ok (u, last, count)) fault e = absurd (cc e)
string_fault at left (Err other) fault e = let same : other ≡ fault = fault_of other fault e in ap (λ f. Err f) same
  where
    fault_of : (a b : LexFault) → ◌≡◌ {A = Result (List ℕ × Left) LexFault} (Err a) (Err b) → a ≡ b
    fault_of a b e = cc e

quote_test : (c : ℕ) → (c ≡ 34) ⊎ (c ≡ 39) → ((c == 34) || (c == 39)) ≡ true
quote_test c (inl e) = grind (arith, nat_tests)
quote_test c (inr e) = grind (arith, nat_tests)

quote_width : (c : ℕ) → (c ≡ 34) ⊎ (c ≡ 39) → width c ≡ 1
quote_width c (inl e) = width-1 c (omega arith)
quote_width c (inr e) = width-1 c (omega arith)

string_is : (braces : List Brace) (at c : ℕ) (left : Left) → (c ≡ 34) ⊎ (c ≡ 39) → left.at ≡ at + width c → found (quoted_element braces at c left.text) left ≡ found (s.read_string at (s.string_from c 0 at left.at left.text)) left
string_is braces at c left q place =
    ap (λ x. found x left) (quoted_is braces at c left.text true _ _ (quote_test c q) refl refl)
    ∙ ap (λ p. found (s.read_string at (s.string_from c 0 at p left.text)) left) (sym (place ∙ ap (λ w. at + w) (quote_width c q)))

pub is_string : (braces : List Brace) (at c : ℕ) (left new : Left) (units : List ℕ) → (c ≡ 34) ⊎ (c ≡ 39) → left.at ≡ at + width c → string c at left ≡ Ok (units, new) → found (quoted_element braces at c left.text) left ≡ Ok (Token (k.String units), new)
is_string braces at c left new units q place e = string_is braces at c left q place ∙ string_found at left (s.string_from c 0 at left.at left.text) units new e

pub is_bad_string : (braces : List Brace) (at c : ℕ) (left : Left) (fault : LexFault) → (c ≡ 34) ⊎ (c ≡ 39) → left.at ≡ at + width c → string c at left ≡ Err fault → found (quoted_element braces at c left.text) left ≡ Err fault
is_bad_string braces at c left fault q place e = string_is braces at c left q place ∙ string_fault at left (s.string_from c 0 at left.at left.text) fault e

pub is_template : (braces : List Brace) (at c : ℕ) (left : Left) → c ≡ 96 → left.at ≡ at + width c → quoted_element braces at c left.text ≡ s.read_template true (s.template_from 0 at left.at left.text)
is_template braces at c left q place =
    let quote : ((c == 34) || (c == 39)) ≡ false = grind (arith, nat_tests) in
    let back : (c == 96) ≡ true = grind (arith, nat_tests) in
    quoted_is braces at c left.text false true _ quote back refl
    ∙ ap (λ p. s.read_template true (s.template_from 0 at p left.text)) (sym (place ∙ ap (λ w. at + w) (width-1 c (omega arith))))

pub is_closing : (braces : List Brace) (at c : ℕ) (cs : List ℕ) → c ≡ 125 → quoted_element braces at c cs ≡ closing_element braces at cs
is_closing braces at c cs q =
    let quote : ((c == 34) || (c == 39)) ≡ false = grind (arith, nat_tests) in
    let back : (c == 96) ≡ false = grind (arith, nat_tests) in
    let closing : (c == 125) ≡ true = grind (arith, nat_tests) in
    quoted_is braces at c cs false false true quote back closing

pub is_sign : (braces : List Brace) (at c : ℕ) (cs : List ℕ) → c ≢ 34 → c ≢ 39 → c ≢ 96 → c ≢ 125 → quoted_element braces at c cs ≡ s.sign_element at (c ∷ cs)
is_sign braces at c cs a b d e =
    let quote : ((c == 34) || (c == 39)) ≡ false = grind (arith, nat_tests) in
    let back : (c == 96) ≡ false = grind (arith, nat_tests) in
    let closing : (c == 125) ≡ false = grind (arith, nat_tests) in
    quoted_is braces at c cs false false false quote back closing

abbrev closing_by : ℕ → List ℕ → Option ℕ → Element
closing_by at cs begun = elim begun [ Some first ↦ s.read_template false (s.template_from 0 first (at + 1) cs) | None ↦ s.sign_element at (125 ∷ cs) ]

pub is_continued : (braces : List Brace) (at begun : ℕ) (left : Left) → Some begun ≡ s.continued braces → left.at ≡ at + 1 → closing_element braces at left.text ≡ s.read_template false (s.template_from 0 begun left.at left.text)
is_continued braces at begun left h place =
    ap (closing_by at left.text) (sym h) ∙ ap (λ p. s.read_template false (s.template_from 0 begun p left.text)) (sym place)

pub is_brace : (braces : List Brace) (at : ℕ) (cs : List ℕ) → None ≡ s.continued braces → closing_element braces at cs ≡ s.sign_element at (125 ∷ cs)
is_brace braces at cs h = ap (closing_by at cs) (sym h)

pub template_found : (first : Bool) (left new : Left) (r : Result (List ℕ × Bool × ℕ) LexFault) (units : List ℕ) (last : Bool) → piece_left left r ≡ Ok ((units, last), new) → found (s.read_template first r) left ≡ Ok (Token (k.Template first last units), new)
template_found first left new (Ok (u, end, count)) units last e = let pair : ((u, end), skip count left) ≡ ((units, last), new) = pair_of ((u, end), skip count left) ((units, last), new) e in ap (λ p. Ok (Token (k.Template first p.0.1 p.0.0), p.1)) pair
  where
    pair_of : (a b : (List ℕ × Bool) × Left) → ◌≡◌ {A = Result ((List ℕ × Bool) × Left) LexFault} (Ok a) (Ok b) → a ≡ b
    pair_of a b e = cc e
template_found first left new (Err fault) units last e = absurd (cc e)

pub template_fault : (first : Bool) (left : Left) (r : Result (List ℕ × Bool × ℕ) LexFault) (fault : LexFault) → piece_left left r ≡ Err fault → found (s.read_template first r) left ≡ Err fault
template_fault first left (Ok (u, end, count)) fault e = absurd (cc e)
template_fault first left (Err other) fault e = let same : other ≡ fault = fault_of other fault e in ap (λ f. Err f) same
  where
    fault_of : (a b : LexFault) → ◌≡◌ {A = Result ((List ℕ × Bool) × Left) LexFault} (Err a) (Err b) → a ≡ b
    fault_of a b e = cc e
