-- Laws of `tokens_of`: its parts, joined, are the text; an accepted list has one End, its last, and the
-- places of its tokens ascend strictly.
use Rattle.std.proofs.Common.{◌≡◌, ℕ, zero, suc, ◌+◌, ◌-◌, ◌/◌, ◌%◌, ◌≤◌, nat_lt, cond, Bool, true, false, ◌&&◌, ◌||◌, ◌==◌, List, [], ◌∷◌, ◌++◌, length, take, drop, take_while, codes, Option, Some, None, Result, Ok, Err, refl, ap, ◌∙◌, take-append-drop, append-nil, subst, arith}
use Rattle.std.specs.List.{flat_map, list_any}
use Rattle.std.proofs.lemmas.List.{length-map}
use Rattle.js_value.specs.Text.{parts, parts_after, scalar_value, sequence_length, utf16, encoded}
use Rattle.es_model.specs.declared.faults.LexFault.{LexFault}
use Rattle.es_model.specs.declared.faults.LexFault.TheVariants.{NotUtf8, BadCharacter, OpenComment, OpenTemplate, NumberForm}
use Rattle.es_model.specs.declared.token.Token.{Token}
use Rattle.es_model.specs.declared.token.TokenKind.{TokenKind}
use Rattle.es_model.specs.declared.token.TokenKind.TheVariants as k
use Rattle.es_model.specs.Readings.{same_kind, is_end}
use Rattle.es_model.specs.SyntaxLaws.{AscendFrom}
pub use Rattle.es_model.specs.SyntaxLaws.{EndsOnce, joined}
use Rattle.es_model.specs.Tokens as s
use Rattle.es_model.specs.Tokens.{Element, Between, Word, Wrong, Brace, Part, parts_of, element, braces_after, width}

pub joins : (c : ℕ) (cs : List ℕ) (more : ℕ) (rest : List ℕ) → rest ≡ drop more cs → (c ∷ take more cs) ++ rest ≡ c ∷ cs
joins c cs more rest e = ap (λ l. c ∷ take more cs ++ l) e ∙ ap (λ l. c ∷ l) (take-append-drop more cs)

drop_nothing : (n : ℕ) → [] ≡ drop {A = ℕ} n []
drop_nothing zero = refl
drop_nothing (suc n) = refl

pub joined_after : (passed : ℕ) (braces : List Brace) (at : ℕ) (text : List ℕ) → joined (parts_of passed braces at text) ≡ drop passed text
joined_after passed braces at [] = drop_nothing passed
joined_after (suc passed) braces at (c ∷ cs) = joined_after passed braces (at + width c) cs
joined_after zero braces at (c ∷ cs) =
    elim (element braces at c cs) as (λ e. joined (elim e [
      | Between line more ↦ record { at = at; element = Between line more; spelling = c ∷ take more cs } ∷ parts_of more braces (at + width c) cs
      | Word kind more ↦ record { at = at; element = Word kind more; spelling = c ∷ take more cs } ∷ parts_of more (braces_after at kind braces) (at + width c) cs
      | Wrong fault ↦ record { at = at; element = Wrong fault; spelling = c ∷ cs } ∷ []
    ]) ≡ c ∷ cs) [
      | Between line more ↦ joins c cs more _ (joined_after more braces (at + width c) cs)
      | Word kind more ↦ joins c cs more _ (joined_after more (braces_after at kind braces) (at + width c) cs)
      | Wrong fault ↦ append-nil (c ∷ cs)
    ]

-- the parts of a text, joined, are the text
pub parts_joined : (text : List ℕ) → joined (parts_of 0 [] 0 text) ≡ text
parts_joined text = joined_after 0 [] 0 text

-- An accepted list has one End, its last: no token of the text is End, and the list ends in one.

data Fine : Element → Type 0 where
  between : {line : Bool} {more : ℕ} → Fine (Between line more)
  word : {kind : TokenKind} {more : ℕ} → same_kind kind k.End ≡ false → Fine (Word kind more)
  wrong : {fault : LexFault} → Fine (Wrong fault)

fine_if : (b : Bool) (x y : Element) → Fine x → Fine y → Fine (elim b [ true ↦ x | false ↦ y ])
fine_if true x y one other = one
fine_if false x y one other = other

name_fine : (c : ℕ) (cs : List ℕ) → Fine (s.name_element c cs)
name_fine c cs = elim (s.keyword_of (c ∷ take_while s.is_name_part cs)) as (λ o. Fine (elim o [ Some n ↦ Word (k.Keyword n) (length (take_while s.is_name_part cs)) | None ↦ Word (k.Name (flat_map utf16 (c ∷ take_while s.is_name_part cs))) (length (take_while s.is_name_part cs)) ])) [ Some n ↦ word refl | None ↦ word refl ]

number_fine : (at c : ℕ) (cs : List ℕ) → Fine (s.number_element at c cs)
number_fine at c cs = fine_if _ _ _ wrong (fine_if _ _ _ (word refl) wrong)

sign_fine : (at : ℕ) (text : List ℕ) → Fine (s.sign_element at text)
sign_fine at text = elim (s.longest_from 0 s.signs text) as (λ o. Fine (elim o [ Some (n, size) ↦ Word (k.Sign n) (size - 1) | None ↦ Wrong (BadCharacter at) ])) [ Some (n, size) ↦ word refl | None ↦ wrong ]

string_fine : (at : ℕ) (r : Result (List ℕ × Bool × ℕ) LexFault) → Fine (s.read_string at r)
string_fine at (Ok (units, last, count)) = word refl
string_fine at (Err fault) = wrong

template_fine : (first : Bool) (r : Result (List ℕ × Bool × ℕ) LexFault) → Fine (s.read_template first r)
template_fine first (Ok (units, last, count)) = word refl
template_fine first (Err fault) = wrong

closing_fine : (braces : List Brace) (at : ℕ) (cs : List ℕ) → Fine (s.closing_element braces at cs)
closing_fine braces at cs = elim (s.continued braces) as (λ o. Fine (elim o [ Some first ↦ s.read_template false (s.template_from 0 first (at + 1) cs) | None ↦ s.sign_element at (125 ∷ cs) ])) [ Some first ↦ template_fine false (s.template_from 0 first (at + 1) cs) | None ↦ sign_fine at (125 ∷ cs) ]

quoted_fine : (braces : List Brace) (at c : ℕ) (cs : List ℕ) → Fine (s.quoted_element braces at c cs)
quoted_fine braces at c cs = fine_if ((c == 34) || (c == 39)) _ _ (string_fine at (s.string_from c 0 at (at + 1) cs)) (fine_if (c == 96) _ _ (template_fine true (s.template_from 0 at (at + 1) cs)) (fine_if (c == 125) _ _ (closing_fine braces at cs) (sign_fine at (c ∷ cs))))

word_fine : (braces : List Brace) (at c : ℕ) (cs : List ℕ) → Fine (s.word_element braces at c cs)
word_fine braces at c cs = fine_if (s.is_name_start c) _ _ (name_fine c cs) (fine_if (s.is_digit c) _ _ (number_fine at c cs) (fine_if ((c == 46) && s.first_is s.is_digit cs) _ _ (wrong {fault = NumberForm at}) (quoted_fine braces at c cs)))

block_fine : (at : ℕ) (cs : List ℕ) → Fine (s.block_comment at cs)
block_fine at cs = elim (s.comment_end cs) as (λ o. Fine (elim o [ Some n ↦ Between (list_any s.is_line_break (take n cs)) (suc n) | None ↦ Wrong (OpenComment at) ])) [ Some n ↦ between | None ↦ wrong ]

element_fine : (braces : List Brace) (at c : ℕ) (cs : List ℕ) → Fine (element braces at c cs)
element_fine braces at c cs =
    fine_if (s.is_blank c) (Between false 0) _ between (fine_if (s.is_line_break c) (Between true 0) _ between
    (fine_if (s.begins (codes "//") (c ∷ cs)) (s.line_comment (s.behind cs)) _ between
    (fine_if (s.begins (codes "/*") (c ∷ cs)) _ _ (block_fine at (s.behind cs)) (word_fine braces at c cs))))

abbrev Good : Result (List Token) LexFault → Type 0
Good (Ok tokens) = EndsOnce tokens
Good (Err fault) = Unit {0}

no_end : {kind : TokenKind} {more : ℕ} → Fine (Word kind more) → same_kind kind k.End ≡ false
no_end (word e) = e

-- no End before a list with one End, its last
pub one_more_ends : (token : Token) (tokens : List Token) → is_end token ≡ false → EndsOnce tokens → EndsOnce (token ∷ tokens)
one_more_ends token tokens e h = ended (is_end token) e
  where
    ended : (b : Bool) → b ≡ false → elim b as (λ c. Type 0) [ true ↦ tokens ≡ [] | false ↦ EndsOnce tokens ]
    ended true e = absurd (cc e)
    ended false e = h

before_good : (token : Token) (r : Result (List Token) LexFault) → is_end token ≡ false → Good r → Good (s.before token r)
before_good token (Ok tokens) e h = one_more_ends token tokens e h
before_good token (Err fault) e h = tt

ending_good : (at : ℕ) (line : Bool) (o : Option ℕ) → Good (s.tokens_in line (record { at = at; element = elim o [ Some begun ↦ Wrong (OpenTemplate begun) | None ↦ Word k.End 0 ]; spelling = [] } ∷ []))
ending_good at line (Some begun) = tt
ending_good at line None = refl

good_after : (passed : ℕ) (braces : List Brace) (at : ℕ) (text : List ℕ) (line : Bool) → Good (s.tokens_in line (parts_of passed braces at text))
good_after passed braces at [] line = ending_good at line (s.innermost braces)
good_after (suc passed) braces at (c ∷ cs) line = good_after passed braces (at + width c) cs line
good_after zero braces at (c ∷ cs) line =
    elim (element braces at c cs) as (λ e. Fine e → Good (s.tokens_in line (elim e [
      | Between breaks more ↦ record { at = at; element = Between breaks more; spelling = c ∷ take more cs } ∷ parts_of more braces (at + width c) cs
      | Word kind more ↦ record { at = at; element = Word kind more; spelling = c ∷ take more cs } ∷ parts_of more (braces_after at kind braces) (at + width c) cs
      | Wrong fault ↦ record { at = at; element = Wrong fault; spelling = c ∷ cs } ∷ []
    ]))) [
      | Between breaks more ↦ λ h. good_after more braces (at + width c) cs (line || breaks)
      | Word kind more ↦ λ h. before_good _ (s.tokens_in false (parts_of more (braces_after at kind braces) (at + width c) cs)) (no_end h) (good_after more (braces_after at kind braces) (at + width c) cs false)
      | Wrong fault ↦ λ h. tt
    ] (element_fine braces at c cs)

good_at : (bytes : List ℕ) (o : Option ℕ) → Good (elim o [ Some at ↦ Err (NotUtf8 at) | None ↦ s.tokens_in false (parts_of 0 [] 0 (s.characters_of bytes)) ])
good_at bytes (Some at) = tt
good_at bytes None = good_after 0 [] 0 (s.characters_of bytes) false

-- the tokens of a text have one End, their last
pub ends_once : (bytes : List ℕ) (tokens : List Token) → s.tokens_of bytes ≡ Ok tokens → EndsOnce tokens
unfolding s.tokens_of
ends_once bytes tokens e = subst Good e (good_at bytes (s.first_bad 0 (parts sequence_length bytes)))

-- The places of an accepted list ascend strictly, since each character has a byte.

wide : (c : ℕ) → 1 ≤ width c
unfolding encoded
wide c = by (nat_lt c 0x80) (nat_lt c 0x800) (nat_lt c 0x10000)
  where
    by : (one two three : Bool) → 1 ≤ length (cond one (c ∷ []) (cond two ((0xC0 + c / 64) ∷ (0x80 + c % 64) ∷ []) (cond three ((0xE0 + c / 4096) ∷ (0x80 + c / 64 % 64) ∷ (0x80 + c % 64) ∷ []) ((0xF0 + c / 262144) ∷ (0x80 + c / 4096 % 64) ∷ (0x80 + c / 64 % 64) ∷ (0x80 + c % 64) ∷ []))))
    by true two three = omega arith
    by false true three = omega arith
    by false false true = omega arith
    by false false false = omega arith

abbrev Ascending : ℕ → Result (List Token) LexFault → Type 0
Ascending low (Ok tokens) = AscendFrom low tokens
Ascending low (Err fault) = Unit {0}

before_ascending : (low : ℕ) (token : Token) (r : Result (List Token) LexFault) → low ≤ token.at → Ascending (suc token.at) r → Ascending low (s.before token r)
before_ascending low token (Ok tokens) le h = (le, h)
before_ascending low token (Err fault) le h = tt

ending_ascending : (low at : ℕ) (line : Bool) (o : Option ℕ) → low ≤ at → Ascending low (s.tokens_in line (record { at = at; element = elim o [ Some begun ↦ Wrong (OpenTemplate begun) | None ↦ Word k.End 0 ]; spelling = [] } ∷ []))
ending_ascending low at line (Some begun) le = tt
ending_ascending low at line None le = (le, tt)

ascending_after : (low passed : ℕ) (braces : List Brace) (at : ℕ) (text : List ℕ) (line : Bool) → low ≤ at → Ascending low (s.tokens_in line (parts_of passed braces at text))
ascending_after low passed braces at [] line le = ending_ascending low at line (s.innermost braces) le
ascending_after low (suc passed) braces at (c ∷ cs) line le = ascending_after low passed braces (at + width c) cs line (omega (arith, le))
ascending_after low zero braces at (c ∷ cs) line le =
    elim (element braces at c cs) as (λ e. Ascending low (s.tokens_in line (elim e [
      | Between breaks more ↦ record { at = at; element = Between breaks more; spelling = c ∷ take more cs } ∷ parts_of more braces (at + width c) cs
      | Word kind more ↦ record { at = at; element = Word kind more; spelling = c ∷ take more cs } ∷ parts_of more (braces_after at kind braces) (at + width c) cs
      | Wrong fault ↦ record { at = at; element = Wrong fault; spelling = c ∷ cs } ∷ []
    ]))) [
      | Between breaks more ↦ ascending_after low more braces (at + width c) cs (line || breaks) (omega (arith, le))
      | Word kind more ↦ before_ascending low _ (s.tokens_in false (parts_of more (braces_after at kind braces) (at + width c) cs)) le (ascending_after (suc at) more (braces_after at kind braces) (at + width c) cs false (omega (arith, wide c)))
      | Wrong fault ↦ tt
    ]

ascending_at : (bytes : List ℕ) (o : Option ℕ) → Ascending 0 (elim o [ Some at ↦ Err (NotUtf8 at) | None ↦ s.tokens_in false (parts_of 0 [] 0 (s.characters_of bytes)) ])
ascending_at bytes (Some at) = tt
ascending_at bytes None = ascending_after 0 0 [] 0 (s.characters_of bytes) false (omega arith)

-- the places of a text's tokens ascend strictly
pub places_ascend : (bytes : List ℕ) (tokens : List Token) → s.tokens_of bytes ≡ Ok tokens → AscendFrom 0 tokens
unfolding s.tokens_of
places_ascend bytes tokens e = subst (Ascending 0) e (ascending_at bytes (s.first_bad 0 (parts sequence_length bytes)))

-- There are at most as many tokens as bytes, and the end, since each token but the end has a character.

abbrev Few : ℕ → Result (List Token) LexFault → Type 0
Few most (Ok tokens) = length tokens ≤ most
Few most (Err fault) = Unit {0}

more_few : (low high : ℕ) (r : Result (List Token) LexFault) → low ≤ high → Few low r → Few high r
more_few low high (Ok tokens) le h = omega (arith, le, h)
more_few low high (Err fault) le h = tt

before_few : (most : ℕ) (token : Token) (r : Result (List Token) LexFault) → Few most r → Few (suc most) (s.before token r)
before_few most token (Ok tokens) h = omega (arith, h)
before_few most token (Err fault) h = tt

ending_few : (at : ℕ) (line : Bool) (o : Option ℕ) → Few 1 (s.tokens_in line (record { at = at; element = elim o [ Some begun ↦ Wrong (OpenTemplate begun) | None ↦ Word k.End 0 ]; spelling = [] } ∷ []))
ending_few at line (Some begun) = tt
ending_few at line None = omega arith

few_after : (passed : ℕ) (braces : List Brace) (at : ℕ) (text : List ℕ) (line : Bool) → Few (suc (length text)) (s.tokens_in line (parts_of passed braces at text))
few_after passed braces at [] line = ending_few at line (s.innermost braces)
few_after (suc passed) braces at (c ∷ cs) line = more_few (suc (length cs)) (suc (suc (length cs))) _ (omega arith) (few_after passed braces (at + width c) cs line)
few_after zero braces at (c ∷ cs) line =
    elim (element braces at c cs) as (λ e. Few (suc (suc (length cs))) (s.tokens_in line (elim e [
      | Between breaks more ↦ record { at = at; element = Between breaks more; spelling = c ∷ take more cs } ∷ parts_of more braces (at + width c) cs
      | Word kind more ↦ record { at = at; element = Word kind more; spelling = c ∷ take more cs } ∷ parts_of more (braces_after at kind braces) (at + width c) cs
      | Wrong fault ↦ record { at = at; element = Wrong fault; spelling = c ∷ cs } ∷ []
    ]))) [
      | Between breaks more ↦ more_few (suc (length cs)) (suc (suc (length cs))) _ (omega arith) (few_after more braces (at + width c) cs (line || breaks))
      | Word kind more ↦ before_few (suc (length cs)) _ (s.tokens_in false (parts_of more (braces_after at kind braces) (at + width c) cs)) (few_after more (braces_after at kind braces) (at + width c) cs false)
      | Wrong fault ↦ tt
    ]

parts_few : (size : List ℕ → ℕ) (passed : ℕ) (list : List ℕ) → length (parts_after size passed list) ≤ length list
parts_few size passed [] = omega arith
parts_few size (suc passed) (first ∷ rest) = let h = parts_few size passed rest in omega (arith, h)
parts_few size zero (first ∷ rest) = let h = parts_few size (size (first ∷ rest) - 1) rest in omega (arith, h)

few_at : (bytes : List ℕ) (o : Option ℕ) → Few (suc (length bytes)) (elim o [ Some at ↦ Err (NotUtf8 at) | None ↦ s.tokens_in false (parts_of 0 [] 0 (s.characters_of bytes)) ])
few_at bytes (Some at) = tt
few_at bytes None =
    let characters : length (s.characters_of bytes) ≤ length bytes = omega (arith, length-map (parts sequence_length bytes) scalar_value, parts_few sequence_length 0 bytes) in
    more_few (suc (length (s.characters_of bytes))) (suc (length bytes)) _ (omega (arith, characters)) (few_after 0 [] 0 (s.characters_of bytes) false)

-- a text has at most one token more than bytes
pub tokens_few : (bytes : List ℕ) (tokens : List Token) → s.tokens_of bytes ≡ Ok tokens → length tokens ≤ suc (length bytes)
unfolding s.tokens_of
tokens_few bytes tokens e = subst (Few (suc (length bytes))) e (few_at bytes (s.first_bad 0 (parts sequence_length bytes)))
