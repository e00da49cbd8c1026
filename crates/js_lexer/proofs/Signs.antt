-- The sign that stands at a place.
use Rattle.std.proofs.Common.{◌≡◌, ℕ, zero, suc, ◌+◌, ◌-◌, ◌<◌, ◌≤◌, List, [], ◌∷◌, ◌++◌, length, take, drop, set, Option, Some, None, Ok, Err, refl, sym, ◌∙◌, ap, arith}
use Rattle.es_model.specs.declared.faults.LexFault.TheVariants.{BadCharacter}
use Rattle.es_model.specs.declared.token.TokenKind.TheVariants as k
use Rattle.es_model.specs.Tokens.{Element, Word, Wrong, longest_from, place_from, signs, sign_element}
use Rattle.js_lexer.specs.declared.elements.Found.TheVariants.{Token}
use Rattle.js_lexer.specs.Left.{Left, skip, first_of}
use Rattle.js_lexer.specs.Reads.{found, sign}
use Rattle.std.proofs.lemmas.List.{length-take-le, take_more_set}
use Rattle.js_lexer.proofs.Lefts.{skip-skip}
use Rattle.js_lexer.proofs.Escaped.{skip-text}
use Rattle.js_lexer.proofs.Longest.{longest_is, no_sign, not_short, not_ascii}

abbrev signed : Left → Option (ℕ × ℕ) → Option (ℕ × Left)
signed left longest = elim longest [ Some (n, size) ↦ Some (n, skip (size - 1) left) | None ↦ None ]

abbrev element_by : ℕ → Option (ℕ × ℕ) → Element
element_by at longest = elim longest [ Some (n, size) ↦ Word (k.Sign n) (size - 1) | None ↦ Wrong (BadCharacter at) ]

same : (a b : ℕ × Left) → Some a ≡ Some b → a ≡ b
same a b e = cc e

read_by : (at n : ℕ) (left new : Left) (longest : Option (ℕ × ℕ)) → signed left longest ≡ Some (n, new) → found (element_by at longest) left ≡ Ok (Token (k.Sign n), new)
read_by at n left new None h = absurd (cc h)
read_by at n left new (Some (m, size)) h = ap (λ p. Ok (Token (k.Sign p.0), p.1)) (same (m, skip (size - 1) left) (n, new) h)

none_by : (at : ℕ) (left : Left) (longest : Option (ℕ × ℕ)) → signed left longest ≡ None → found (element_by at longest) left ≡ Err (BadCharacter at)
none_by at left None h = refl
none_by at left (Some (m, size)) h = absurd (cc h)

pub sign_read : (at c n : ℕ) (left new : Left) → sign c left ≡ Some (n, new) → found (sign_element at (c ∷ left.text)) left ≡ Ok (Token (k.Sign n), new)
sign_read at c n left new h = read_by at n left new (longest_from 0 signs (c ∷ left.text)) h

pub sign_none : (at c : ℕ) (left : Left) → sign c left ≡ None → found (sign_element at (c ∷ left.text)) left ≡ Err (BadCharacter at)
sign_none at c left h = none_by at left (longest_from 0 signs (c ∷ left.text)) h

pub not_one : (c : ℕ) (left : Left) → place_from 0 signs (c ∷ []) ≡ None → sign c left ≡ None
not_one c left h = ap (signed left) (no_sign c left.text h)

pub is_longest : (c size n : ℕ) (left new : Left) → 1 ≤ size → size ≤ length (c ∷ left.text) → place_from 0 signs (take size (c ∷ left.text)) ≡ Some n → (size < length (c ∷ left.text) → place_from 0 signs (take (size + 1) (c ∷ left.text)) ≡ None) → new ≡ skip (size - 1) left → sign c left ≡ Some (n, new)
is_longest c size n left new some within is next rest =
    ap (signed left) (longest_is (c ∷ left.text) size n some within is next) ∙ ap (λ l. Some (n, l)) (sym rest)

-- The growth of a front, a character at a time.

take_next : (m : ℕ) (text : List ℕ) (next : ℕ) → Some next ≡ first_of (drop m text) → (take (suc m) text ≡ take m text ++ next ∷ []) × (m < length text)
take_next zero [] next h = absurd (cc h)
take_next zero (c ∷ cs) next h = let is : c ≡ next = cc h in (ap (λ x. x ∷ []) is, omega arith)
take_next (suc m) [] next h = absurd (cc h)
take_next (suc m) (c ∷ cs) next h = let later = take_next m cs next h in let some : m < length cs = later.1 in (ap (λ l. c ∷ l) later.0, omega arith)

drop_none : (m : ℕ) (text : List ℕ) → None ≡ first_of (drop m text) → length text ≤ m
drop_none zero [] h = omega arith
drop_none zero (c ∷ cs) h = absurd (cc h)
drop_none (suc m) [] h = omega arith
drop_none (suc m) (c ∷ cs) h = let later = drop_none m cs h in omega arith

left_text : (first size : ℕ) (left now : Left) → 1 ≤ size → now ≡ skip (size - 1) left → now.text ≡ drop size (first ∷ left.text)
left_text first zero left now some rest = absurd (omega arith)
left_text first (suc m) left now some rest =
    let less : suc m - 1 ≡ m = omega arith in
    ap (λ l. l.text) rest ∙ skip-text (suc m - 1) left ∙ ap (λ k. drop k left.text) less

pub record Grows (first size next : ℕ) (left : Left) : Type 0 where
  pub within : size + 1 ≤ length (first ∷ left.text)
  pub front : take (size + 1) (first ∷ left.text) ≡ take size (first ∷ left.text) ++ next ∷ []

pub grows : (first size next : ℕ) (left now : Left) → 1 ≤ size → now ≡ skip (size - 1) left → Some next ≡ first_of now.text → Grows first size next left
grows first size next left now some rest h =
    let both = take_next size (first ∷ left.text) next (h ∙ ap first_of (left_text first size left now some rest)) in
    let below : size < length (first ∷ left.text) = both.1 in
    let more : size + 1 ≡ suc size = omega arith in
    record { within = omega arith; front = ap (λ n. take n (first ∷ left.text)) more ∙ both.0 }

pub units_grow : (first size next unit : ℕ) (units : List ℕ) (left : Left) → size < length units → take size units ≡ take size (first ∷ left.text) → Grows first size next left → unit ≡ next → take (size + 1) (set units size unit) ≡ take (size + 1) (first ∷ left.text)
units_grow first size next unit units left room front more is =
    take_more_set units size unit room ∙ ap (λ l. l ++ unit ∷ []) front ∙ ap (λ u. take size (first ∷ left.text) ++ u ∷ []) is ∙ sym more.front

pub skip_more : (size : ℕ) (left now : Left) → 1 ≤ size → now ≡ skip (size - 1) left → skip 1 now ≡ skip (size + 1 - 1) left
skip_more size left now some rest =
    ap (skip 1) rest ∙ skip-skip (size - 1) 1 left ∙ ap (λ n. skip n left) (let e : size - 1 + 1 ≡ size + 1 - 1 = omega arith in e)

-- where the growth ends

pub at_end : (first size n : ℕ) (left now : Left) → 1 ≤ size → size ≤ length (first ∷ left.text) → place_from 0 signs (take size (first ∷ left.text)) ≡ Some n → now ≡ skip (size - 1) left → None ≡ first_of now.text → sign first left ≡ Some (n, now)
at_end first size n left now some within is rest h =
    let all : length (first ∷ left.text) ≤ size = drop_none size (first ∷ left.text) (h ∙ ap first_of (left_text first size left now some rest)) in
    is_longest first size n left now some within is (λ l. absurd (omega arith)) rest

pub at_four : (first size n : ℕ) (left now : Left) → 1 ≤ size → size ≤ length (first ∷ left.text) → place_from 0 signs (take size (first ∷ left.text)) ≡ Some n → now ≡ skip (size - 1) left → 4 ≤ size → sign first left ≡ Some (n, now)
at_four first size n left now some within is rest four =
    is_longest first size n left now some within is
    (λ l. not_short (take (size + 1) (first ∷ left.text)) (let e : length (take (size + 1) (first ∷ left.text)) ≡ size + 1 = length-take-le (size + 1) (first ∷ left.text) (omega arith) in omega arith))
    rest

pub at_other : (first size n next : ℕ) (left now : Left) → 1 ≤ size → size ≤ length (first ∷ left.text) → place_from 0 signs (take size (first ∷ left.text)) ≡ Some n → now ≡ skip (size - 1) left → Some next ≡ first_of now.text → 128 ≤ next → sign first left ≡ Some (n, now)
at_other first size n next left now some within is rest h wide =
    is_longest first size n left now some within is
    (λ l. ap (place_from 0 signs) (grows first size next left now some rest h).front ∙ not_ascii (take size (first ∷ left.text)) next wide)
    rest
