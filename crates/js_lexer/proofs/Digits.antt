-- Numbers, a digit at a time, cut to the least that is too large.
use Rattle.std.proofs.Common.{◌≡◌, ◌≢◌, ◌==◌, pos, Ok, Err, ℕ, zero, suc, ◌+◌, ◌-◌, ◌*◌, ◌&&◌, ◌<◌, ◌≤◌, Bool, true, false, List, [], ◌∷◌, length, take_while, nat_lt, nat_le, refl, sym, ◌∙◌, ap, arith, ⊎_elim}
use Rattle.std.proofs.lemmas.Bool.{cases_lt}
use Rattle.std.proofs.lemmas.Bool.Decides.{nat_tests}
use Rattle.es_model.specs.Tokens.{number_after, digit_value, is_digit, is_digit_of}
use Rattle.es_model.specs.declared.faults.LexFault.TheVariants.{NumberForm, NumberTooLarge}
use Rattle.es_model.specs.declared.token.TokenKind.TheVariants as k
use Rattle.es_model.specs.Tokens as s
use Rattle.es_model.specs.Tokens.{Element, Word, Wrong}
use Rattle.js_lexer.specs.declared.elements.Found.TheVariants.{Token}
use Rattle.js_lexer.specs.Left.{Left, skip}
use Rattle.js_lexer.specs.Reads.{capped, found}
use Rattle.js_lexer.proofs.Escaped.{skip-text}
use Rattle.js_lexer.proofs.Lefts.{take_while-true, take_while-false}

grows : (base before d : ℕ) → 1 ≤ base → before ≤ before * base + d
grows (suc base) before d h = grind arith
grows zero before d h = absurd (omega arith)

at_least : (base before : ℕ) (digits : List ℕ) → 1 ≤ base → before ≤ number_after before base digits
at_least base before [] h = omega arith
at_least base before (c ∷ cs) h = omega (arith, grows base before (digit_value c) h, at_least base (before * base + digit_value c) cs h)

-- cutting what was read changes nothing of what is cut at the end
pub capped-after : (base before : ℕ) (digits : List ℕ) → 1 ≤ base → capped (number_after (capped before) base digits) ≡ capped (number_after before base digits)
capped-after base before digits h =
    ⊎_elim
    (λ (small : before < 9007199254740992). let same : capped before ≡ before = omega arith in ap (λ n. capped (number_after n base digits)) same)
    (λ (large : 9007199254740992 ≤ before).
    let cut : capped before ≡ 9007199254740992 = omega arith in
    let one : 9007199254740992 ≤ number_after (capped before) base digits = omega (arith, at_least base (capped before) digits h) in
    let other : 9007199254740992 ≤ number_after before base digits = omega (arith, at_least base before digits h) in
    omega arith)
    (cases_lt before 9007199254740992)

pub capped-small : (n : ℕ) → n ≤ 9007199254740992 → capped n ≡ n
capped-small n h = omega arith

-- decimal digits are the digits of base 10
digit_ten : (c : ℕ) → is_digit c ≡ is_digit_of 10 c
digit_ten c = by_test (is_digit c) (nat_le 97 c && nat_le c 122) (nat_le 65 c && nat_le c 90) refl refl refl
  where
    by_test : (digit lower upper : Bool) → is_digit c ≡ digit → (nat_le 97 c && nat_le c 122) ≡ lower → (nat_le 65 c && nat_le c 90) ≡ upper → digit ≡ nat_lt (elim digit [ true ↦ c - 48 | false ↦ elim lower [ true ↦ c - 87 | false ↦ elim upper [ true ↦ c - 55 | false ↦ 36 ] ] ]) 10
    by_test true lower upper d l u = grind (arith, nat_tests)
    by_test false true upper d l u = grind (arith, nat_tests)
    by_test false false true d l u = grind (arith, nat_tests)
    by_test false false false d l u = refl

pub decimal : (text : List ℕ) → take_while is_digit text ≡ take_while (is_digit_of 10) text
decimal [] = refl
decimal (c ∷ cs) = by_test (is_digit c) refl (decimal cs)
  where
    by_test : (b : Bool) → is_digit c ≡ b → take_while is_digit cs ≡ take_while (is_digit_of 10) cs → take_while is_digit (c ∷ cs) ≡ take_while (is_digit_of 10) (c ∷ cs)
    by_test true e h = take_while-true is_digit c cs e ∙ ap (λ l. c ∷ l) h ∙ sym (take_while-true (is_digit_of 10) c cs (sym (digit_ten c) ∙ e))
    by_test false e h = take_while-false is_digit c cs e ∙ sym (take_while-false (is_digit_of 10) c cs (sym (digit_ten c) ∙ e))

-- one digit more
pub one_more : (base value c new : ℕ) (rest more : List ℕ) → 1 ≤ base → rest ≡ c ∷ more → new ≡ capped (value * base + digit_value c) → capped (number_after value base rest) ≡ capped (number_after new base more)
one_more base value c new rest more some is cut =
    ap (λ l. capped (number_after value base l)) is
    ∙ sym (capped-after base (value * base + digit_value c) more some)
    ∙ ap (λ n. capped (number_after n base more)) (sym cut)

uncut : (n value : ℕ) → value ≡ capped n → value < 9007199254740992 → n ≡ value
uncut n value cut small = omega arith

beyond_cap : (n value : ℕ) → value ≡ capped n → 9007199254740992 ≤ value → nat_le n 9007199254740991 ≡ false
beyond_cap n value cut large = let most : 9007199254740992 ≤ n = omega arith in grind (arith, nat_tests)

within_cap : (n value : ℕ) → value ≡ capped n → value < 9007199254740992 → nat_le n 9007199254740991 ≡ true
within_cap n value cut small = let most : n ≤ 9007199254740991 = omega arith in grind (arith, nat_tests)

-- Literals.

abbrev literal_by : Bool → ℕ → List ℕ → ℕ × ℕ
literal_by zeroed c cs =
    elim zeroed [
      | true ↦ elim cs [ [] ↦ (0, 0) | d ∷ ds ↦ s.based_literal (s.base_of d) ds ]
      | false ↦ (number_after 0 10 (c ∷ take_while is_digit cs), length (take_while is_digit cs))
    ]

pub literal_digits : (c : ℕ) (cs : List ℕ) → c ≢ 48 → s.number_literal c cs ≡ (number_after (digit_value c) 10 (take_while (is_digit_of 10) cs), length (take_while (is_digit_of 10) cs))
literal_digits c cs h =
    let test : (c == 48) ≡ false = grind (arith, nat_tests) in
    ap (λ t. literal_by t c cs) test
    ∙ ap (λ n. (number_after n 10 (take_while is_digit cs), length (take_while is_digit cs))) (let e : 0 * 10 + digit_value c ≡ digit_value c = omega arith in e)
    ∙ ap (λ l. (number_after (digit_value c) 10 l, length l)) (decimal cs)

abbrev numbered : ℕ → Bool → Bool → ℕ → ℕ → Element
numbered at goes small value more = elim goes [ true ↦ Wrong (NumberForm at) | false ↦ elim small [ true ↦ Word (k.Number (pos value)) more | false ↦ Wrong (NumberTooLarge at) ] ]

number_by : (at c : ℕ) (left new : Left) (goes small : Bool) → new ≡ skip (s.number_literal c left.text).1 left → s.first_is s.goes_on new.text ≡ goes → nat_le (s.number_literal c left.text).0 9007199254740991 ≡ small → s.number_element at c left.text ≡ numbered at goes small (s.number_literal c left.text).0 (s.number_literal c left.text).1
number_by at c left new goes small n g e =
    ap (λ t. numbered at t (nat_le (s.number_literal c left.text).0 9007199254740991) (s.number_literal c left.text).0 (s.number_literal c left.text).1) (ap (s.first_is s.goes_on) (sym (skip-text (s.number_literal c left.text).1 left) ∙ ap (λ l. l.text) (sym n)) ∙ g)
    ∙ ap (λ t. numbered at goes t (s.number_literal c left.text).0 (s.number_literal c left.text).1) e

pub number_followed : (at c : ℕ) (left new : Left) → new ≡ skip (s.number_literal c left.text).1 left → true ≡ s.first_is s.goes_on new.text → found (s.number_element at c left.text) left ≡ Err (NumberForm at)
number_followed at c left new n g = ap (λ e. found e left) (number_by at c left new true _ n (sym g) refl)

pub number_large : (at c value : ℕ) (left new : Left) → new ≡ skip (s.number_literal c left.text).1 left → false ≡ s.first_is s.goes_on new.text → value ≡ capped (s.number_literal c left.text).0 → 9007199254740992 ≤ value → found (s.number_element at c left.text) left ≡ Err (NumberTooLarge at)
number_large at c value left new n g cut large =
    let beyond : nat_le (s.number_literal c left.text).0 9007199254740991 ≡ false = beyond_cap (s.number_literal c left.text).0 value cut large in
    ap (λ e. found e left) (number_by at c left new false false n (sym g) beyond)

pub number_read : (at c value : ℕ) (left new : Left) → new ≡ skip (s.number_literal c left.text).1 left → false ≡ s.first_is s.goes_on new.text → value ≡ capped (s.number_literal c left.text).0 → value < 9007199254740992 → found (s.number_element at c left.text) left ≡ Ok (Token (k.Number (pos value)), new)
number_read at c value left new n g cut small =
    let within : nat_le (s.number_literal c left.text).0 9007199254740991 ≡ true = within_cap (s.number_literal c left.text).0 value cut small in
    ap (λ e. found e left) (number_by at c left new false true n (sym g) within)
    ∙ ap (λ v. Ok (Token (k.Number (pos v)), skip (s.number_literal c left.text).1 left)) (uncut (s.number_literal c left.text).0 value cut small)
    ∙ ap (λ l. Ok (Token (k.Number (pos value)), l)) (sym n)
