-- The longest sign that a text begins with.
use Rattle.std.proofs.Common.{◌≡◌, ℕ, zero, suc, ◌+◌, ◌-◌, ◌<◌, ◌≤◌, ◌⊎◌, inl, inr, Bool, true, false, ◌&&◌, ◌||◌, ◌==◌, nat_lt, nat_le, List, [], ◌∷◌, ◌++◌, length, take, Option, Some, None, refl, sym, ◌∙◌, ap, arith, ⊎_elim}
use Rattle.std.specs.List.{list_all}
use Rattle.std.specs.Option.{is_some}
use Rattle.std.proofs.lemmas.Bool.{cases_lt}
use Rattle.std.proofs.lemmas.Bool.Decides.{nat_tests}
use Rattle.std.proofs.lemmas.List.{length-take-le, take-take}
use Rattle.js_value.proofs.Sequences.{and_false}
use Rattle.es_model.specs.Tokens.{begins, same_text, place_from, longest_from, signs}

abbrev placed : Bool → ℕ → Option ℕ → Option ℕ
placed is n later = elim is [ true ↦ Some n | false ↦ later ]

abbrev longer : ℕ → ℕ → Option (ℕ × ℕ) → Option (ℕ × ℕ)
longer n size None = Some (n, size)
longer n size (Some (m, other)) = elim (nat_lt size other) [ true ↦ Some (m, other) | false ↦ Some (n, size) ]

abbrev chosen : Bool → ℕ → ℕ → Option (ℕ × ℕ) → Option (ℕ × ℕ)
chosen begins n size later = elim begins [ true ↦ longer n size later | false ↦ later ]

and_true : (a b : Bool) → (a && b) ≡ true → (a ≡ true) × (b ≡ true)
and_true true b h = (refl, h)
and_true false b h = absurd (cc h)

same_nat : (c d : ℕ) → (c == d) ≡ true → c ≡ d
same_nat c d h = grind (arith, nat_tests)

self_nat : (c : ℕ) → (c == c) ≡ true
self_nat c = grind (arith, nat_tests)

same_true : (a b : List ℕ) → same_text a b ≡ true → a ≡ b
same_true [] [] h = refl
same_true [] (d ∷ b) h = absurd (cc h)
same_true (c ∷ a) [] h = absurd (cc h)
same_true (c ∷ a) (d ∷ b) h =
    let both = and_true (c == d) (same_text a b) h in
    ap (λ x. x ∷ a) (same_nat c d both.0) ∙ ap (λ l. d ∷ l) (same_true a b both.1)

same_self : (a : List ℕ) → same_text a a ≡ true
same_self [] = refl
same_self (c ∷ a) = ap (λ t. t && same_text a a) (self_nat c) ∙ same_self a

begins_take : (row text : List ℕ) → begins row text ≡ true → (take (length row) text ≡ row) × (length row ≤ length text)
begins_take [] text h = (refl, omega arith)
begins_take (c ∷ row) [] h = absurd (cc h)
begins_take (c ∷ row) (d ∷ text) h =
    let both = and_true (c == d) (begins row text) h in
    let rest = begins_take row text both.1 in
    let short : length row ≤ length text = rest.1 in
    (ap (λ l. d ∷ l) rest.0 ∙ ap (λ x. x ∷ row) (sym (same_nat c d both.0)), omega arith)

begins_front : (m : ℕ) (text : List ℕ) → begins (take m text) text ≡ true
begins_front zero text = refl
begins_front (suc m) [] = refl
begins_front (suc m) (c ∷ cs) = ap (λ t. t && begins (take m cs) cs) (self_nat c) ∙ begins_front m cs

-- what holds of each row holds of a text that is one
pub held : (p : List ℕ → Bool) (n : ℕ) (rows : List (List ℕ)) (text : List ℕ) (k : ℕ) → list_all p rows ≡ true → place_from n rows text ≡ Some k → p text ≡ true
held p n [] text k all is = absurd (cc is)
held p n (row ∷ rows) text k all is =
    let both = and_true (p row) (list_all p rows) all in
    by_test (same_text row text) both.0 (held p (suc n) rows text k both.1) refl is
  where
    by_test : (b : Bool) → p row ≡ true → (place_from (suc n) rows text ≡ Some k → p text ≡ true) → same_text row text ≡ b → placed b n (place_from (suc n) rows text) ≡ Some k → p text ≡ true
    by_test true holds later same is = ap p (sym (same_true row text same)) ∙ holds
    by_test false holds later same is = later is

abbrev Found : ℕ → List (List ℕ) → List ℕ → Type 0
Found n rows text = is_some (place_from n rows text) ≡ true

found_later : (n : ℕ) (row : List ℕ) (rows : List (List ℕ)) (text : List ℕ) → Found (suc n) rows text → Found n (row ∷ rows) text
found_later n row rows text h = by_test (same_text row text)
  where
    by_test : (b : Bool) → is_some (placed b n (place_from (suc n) rows text)) ≡ true
    by_test true = refl
    by_test false = h

found_here : (n : ℕ) (row : List ℕ) (rows : List (List ℕ)) (text : List ℕ) → row ≡ text → place_from n (row ∷ rows) text ≡ Some n
found_here n row rows text is = ap (λ b. placed b n (place_from (suc n) rows text)) (ap (same_text row) (sym is) ∙ same_self row)

-- what `longest_from` gives is a front of the text that is a row
pub record IsFound (n : ℕ) (rows : List (List ℕ)) (text : List ℕ) (size : ℕ) : Type 0 where
  pub row : Found n rows (take size text)
  pub within : size ≤ length text

same_pair : (a b : ℕ × ℕ) → Some a ≡ Some b → a ≡ b
same_pair a b e = cc e

same_size : (n size k s : ℕ) → ◌≡◌ {A = Option (ℕ × ℕ)} (Some (n, size)) (Some (k, s)) → size ≡ s
same_size n size k s e = ap (λ p. p.1) (same_pair (n, size) (k, s) e)

longest_found : (n : ℕ) (rows : List (List ℕ)) (text : List ℕ) (k size : ℕ) → longest_from n rows text ≡ Some (k, size) → IsFound n rows text size
longest_found n [] text k size h = absurd (cc h)
longest_found n (row ∷ rows) text k size h = by_test (begins row text) (longest_found (suc n) rows text k size) refl h
  where
    past : IsFound (suc n) rows text size → IsFound n (row ∷ rows) text size
    past f = record { row = found_later n row rows (take size text) f.row; within = f.within }

    here : begins row text ≡ true → length row ≡ size → IsFound n (row ∷ rows) text size
    here b e =
        let front = begins_take row text b in
        record {
          row = ap is_some (found_here n row rows (take size text) (sym (ap (λ m. take m text) (sym e) ∙ front.0)));
          within = omega (arith, front.1);
        }

    by_size : (b : Bool) (m other : ℕ) → (longest_from (suc n) rows text ≡ Some (k, size) → IsFound (suc n) rows text size) → begins row text ≡ true → longest_from (suc n) rows text ≡ Some (m, other) → elim b as (λ _. Option (ℕ × ℕ)) [ true ↦ Some (m, other) | false ↦ Some (n, length row) ] ≡ Some (k, size) → IsFound n (row ∷ rows) text size
    by_size true m other later is r e = past (later (r ∙ e))
    by_size false m other later is r e = here is (same_size n (length row) k size e)

    by_rest : (r : Option (ℕ × ℕ)) → (longest_from (suc n) rows text ≡ Some (k, size) → IsFound (suc n) rows text size) → begins row text ≡ true → longest_from (suc n) rows text ≡ r → longer n (length row) r ≡ Some (k, size) → IsFound n (row ∷ rows) text size
    by_rest None later is r e = here is (same_size n (length row) k size e)
    by_rest (Some (m, other)) later is r e = by_size (nat_lt (length row) other) m other later is r e

    by_test : (b : Bool) → (longest_from (suc n) rows text ≡ Some (k, size) → IsFound (suc n) rows text size) → begins row text ≡ b → chosen b n (length row) (longest_from (suc n) rows text) ≡ Some (k, size) → IsFound n (row ∷ rows) text size
    by_test true later is e = by_rest (longest_from (suc n) rows text) later is refl e
    by_test false later is e = past (later e)

-- no longer front is a row
abbrev NoLonger : ℕ → List (List ℕ) → List ℕ → ℕ → Type 0
NoLonger n rows text m = (j : ℕ) → m < j → j ≤ length text → place_from n rows (take j text) ≡ None

later_none : (b : Bool) (n : ℕ) (later : Option ℕ) → placed b n later ≡ None → later ≡ None
later_none true n later e = absurd (cc e)
later_none false n later e = e

none_later : (n : ℕ) (row : List ℕ) (rows : List (List ℕ)) (text : List ℕ) (m : ℕ) → NoLonger n (row ∷ rows) text m → NoLonger (suc n) rows text m
none_later n row rows text m none j l h = later_none (same_text row (take j text)) n (place_from (suc n) rows (take j text)) (none j l h)

not_longer : (n : ℕ) (rows : List (List ℕ)) (text : List ℕ) (m size : ℕ) → NoLonger n rows text m → IsFound n rows text size → size ≤ m
not_longer n rows text m size none f =
    ⊎_elim
    (λ (l : m < size). let no : is_some (place_from n rows (take size text)) ≡ false = ap is_some (none size l f.within) in let never : false ≡ true = sym no ∙ f.row in absurd (cc never))
    (λ (h : size ≤ m). h)
    (cases_lt m size)

none_longest : (n : ℕ) (rows : List (List ℕ)) (text : List ℕ) → NoLonger n rows text 0 → place_from n rows [] ≡ None → longest_from n rows text ≡ None
none_longest n rows text none empty = by_result (longest_from n rows text) refl
  where
    by_found : (size : ℕ) → IsFound n rows text size → ⊥
    by_found zero f = let no : is_some (place_from n rows []) ≡ false = ap is_some empty in let never : false ≡ true = sym no ∙ f.row in absurd (cc never)
    by_found (suc size) f = let no : is_some (place_from n rows (take (suc size) text)) ≡ false = ap is_some (none (suc size) (omega arith) f.within) in let never : false ≡ true = sym no ∙ f.row in absurd (cc never)

    by_result : (r : Option (ℕ × ℕ)) → longest_from n rows text ≡ r → longest_from n rows text ≡ None
    by_result None e = e
    by_result (Some (k, size)) e = absurd (by_found size (longest_found n rows text k size e))

longest_from_is : (n : ℕ) (rows : List (List ℕ)) (text : List ℕ) (m k : ℕ) → m ≤ length text → place_from n rows (take m text) ≡ Some k → NoLonger n rows text m → longest_from n rows text ≡ Some (k, m)
longest_from_is n [] text m k short is none = absurd (cc is)
longest_from_is n (row ∷ rows) text m k short is none = by_test (begins row text) (λ e. longest_from_is (suc n) rows text m k short e (none_later n row rows text m none)) refl
  where
    not_this : same_text row (take m text) ≡ false → place_from (suc n) rows (take m text) ≡ Some k
    not_this e = sym (ap (λ b. placed b n (place_from (suc n) rows (take m text))) e) ∙ is

    other_row : (b : Bool) → same_text row (take m text) ≡ b → (same_text row (take m text) ≡ true → ⊥) → same_text row (take m text) ≡ false
    other_row true e never = absurd (never e)
    other_row false e never = e

    by_size : (r : Option (ℕ × ℕ)) → longest_from (suc n) rows text ≡ r → length row ≡ m → n ≡ k → longer n (length row) r ≡ Some (k, m)
    by_size None e size place = ap (λ p. Some p) (ap (λ a. (a, length row)) place ∙ ap (λ a. (k, a)) size)
    by_size (Some (a, other)) e size place =
        let most : other ≤ m = not_longer (suc n) rows text m other (none_later n row rows text m none) (longest_found (suc n) rows text a other e) in
        let test : nat_lt (length row) other ≡ false = grind (arith, nat_tests) in
        ap (λ b. elim b as (λ _. Option (ℕ × ℕ)) [ true ↦ Some (a, other) | false ↦ Some (n, length row) ]) test
        ∙ ap (λ p. Some p) (ap (λ x. (x, length row)) place ∙ ap (λ x. (k, x)) size)

    begun : (place_from (suc n) rows (take m text) ≡ Some k → longest_from (suc n) rows text ≡ Some (k, m)) → begins row text ≡ true → longer n (length row) (longest_from (suc n) rows text) ≡ Some (k, m)
    begun later b =
        let front = begins_take row text b in
        ⊎_elim
        (λ (l : length row < m).
        let differs : same_text row (take m text) ≡ false = other_row (same_text row (take m text)) refl (λ e. let size : length row ≡ m = ap length (same_true row (take m text) e) ∙ length-take-le m text short in absurd (omega arith)) in
        let test : nat_lt (length row) m ≡ true = grind (arith, nat_tests) in
        ap (longer n (length row)) (later (not_this differs))
        ∙ ap (λ b. elim b as (λ _. Option (ℕ × ℕ)) [ true ↦ Some (k, m) | false ↦ Some (n, length row) ]) test)
        (λ (h : m ≤ length row).
        ⊎_elim
        (λ (l : m < length row).
        let no : place_from n (row ∷ rows) (take (length row) text) ≡ None = none (length row) l front.1 in
        let yes : place_from n (row ∷ rows) (take (length row) text) ≡ Some n = found_here n row rows (take (length row) text) (sym front.0) in
        let never : None ≡ Some n = sym no ∙ yes in absurd (cc never))
        (λ (h' : length row ≤ m).
        let size : length row ≡ m = omega arith in
        let here : place_from n (row ∷ rows) (take m text) ≡ Some n = found_here n row rows (take m text) (sym (ap (λ a. take a text) (sym size) ∙ front.0)) in
        let place : n ≡ k = let e : Some n ≡ Some k = sym here ∙ is in cc e in
        by_size (longest_from (suc n) rows text) refl size place)
        (cases_lt m (length row)))
        (cases_lt (length row) m)

    by_test : (b : Bool) → (place_from (suc n) rows (take m text) ≡ Some k → longest_from (suc n) rows text ≡ Some (k, m)) → begins row text ≡ b → chosen b n (length row) (longest_from (suc n) rows text) ≡ Some (k, m)
    by_test true later e = begun later e
    by_test false later e = later (not_this (other_row (same_text row (take m text)) refl (λ same. let never : true ≡ false = sym (ap (λ l. begins l text) (same_true row (take m text) same) ∙ begins_front m text) ∙ e in absurd (cc never))))

-- The table of signs: each front of a sign is a sign, no sign has more than four characters, and all are ASCII.

abbrev is_front_closed : List ℕ → Bool
is_front_closed row = nat_le (length row) 1 || is_some (place_from 0 signs (take (length row - 1) row))

abbrev is_short : List ℕ → Bool
is_short row = nat_le (length row) 4

abbrev is_ascii : List ℕ → Bool
is_ascii row = list_all (λ c. nat_lt c 128) row

fronts_closed : list_all is_front_closed signs ≡ true
fronts_closed = refl

all_short : list_all is_short signs ≡ true
all_short = refl

all_ascii : list_all is_ascii signs ≡ true
all_ascii = refl

beyond_one : (n : ℕ) → 2 ≤ n → nat_le n 1 ≡ false
beyond_one n h = grind (arith, nat_tests)

beyond_four : (n : ℕ) → 4 < n → nat_le n 4 ≡ false
beyond_four n h = grind (arith, nat_tests)

-- no front is a sign from one on that is none
no_longer : (text : List ℕ) (m : ℕ) → 1 ≤ m → place_from 0 signs (take m text) ≡ None → (j : ℕ) → m ≤ j → j ≤ length text → place_from 0 signs (take j text) ≡ None
no_longer text m some none zero l h = absurd (omega arith)
no_longer text m some none (suc j) l h =
    ⊎_elim
    (λ (e : m ≡ suc j). rw (← e) none)
    (λ (more : m ≤ j).
    let before : place_from 0 signs (take j text) ≡ None = no_longer text m some none j more (omega arith) in
    by_sign (place_from 0 signs (take (suc j) text)) (omega arith) refl before)
    (eq_or_le m j l)
  where
    eq_or_le : (m j : ℕ) → m ≤ suc j → (m ≡ suc j) ⊎ (m ≤ j)
    eq_or_le m j l = ⊎_elim (λ (a : j < m). inl (omega arith)) (λ (b : m ≤ j). inr b) (cases_lt j m)

    by_sign : (r : Option ℕ) → 1 ≤ j → place_from 0 signs (take (suc j) text) ≡ r → place_from 0 signs (take j text) ≡ None → place_from 0 signs (take (suc j) text) ≡ None
    by_sign None two e before = e
    by_sign (Some k) two e before =
        let closed : is_front_closed (take (suc j) text) ≡ true = held is_front_closed 0 signs (take (suc j) text) k fronts_closed e in
        let size : length (take (suc j) text) ≡ suc j = length-take-le (suc j) text h in
        let long : nat_le (length (take (suc j) text)) 1 ≡ false = beyond_one (length (take (suc j) text)) (omega arith) in
        let front : take (length (take (suc j) text) - 1) (take (suc j) text) ≡ take j text = ap (λ n. take n (take (suc j) text)) (let s : length (take (suc j) text) - 1 ≡ j = omega arith in s) ∙ take-take j (suc j) text (omega arith) in
        let one : is_some (place_from 0 signs (take (length (take (suc j) text) - 1) (take (suc j) text))) ≡ true = sym (ap (λ b. b || is_some (place_from 0 signs (take (length (take (suc j) text) - 1) (take (suc j) text)))) long) ∙ closed in
        let never : false ≡ true = sym (ap is_some (ap (place_from 0 signs) front ∙ before)) ∙ one in
        absurd (cc never)

-- the longest sign, where its front grew as long as it was a sign
pub longest_is : (text : List ℕ) (m k : ℕ) → 1 ≤ m → m ≤ length text → place_from 0 signs (take m text) ≡ Some k → (m < length text → place_from 0 signs (take (m + 1) text) ≡ None) → longest_from 0 signs text ≡ Some (k, m)
longest_is text m k some short is next =
    longest_from_is 0 signs text m k short is (λ j l h. no_longer text (m + 1) (omega arith) (next (omega arith)) j (omega arith) h)

pub no_sign : (c : ℕ) (text : List ℕ) → place_from 0 signs (c ∷ []) ≡ None → longest_from 0 signs (c ∷ text) ≡ None
no_sign c text none = none_longest 0 signs (c ∷ text) (λ j l h. no_longer (c ∷ text) 1 (omega arith) none j l h) refl

-- a text that is too long, or has a character that isn't ASCII, is no sign
pub not_short : (text : List ℕ) → 4 < length text → place_from 0 signs text ≡ None
not_short text long = by_sign (place_from 0 signs text) refl
  where
    by_sign : (r : Option ℕ) → place_from 0 signs text ≡ r → place_from 0 signs text ≡ None
    by_sign None e = e
    by_sign (Some k) e = let never : false ≡ true = sym (beyond_four (length text) long) ∙ held is_short 0 signs text k all_short e in absurd (cc never)

last_fails : (front : List ℕ) (c : ℕ) → 128 ≤ c → is_ascii (front ++ c ∷ []) ≡ false
last_fails [] c h = let test : nat_lt c 128 ≡ false = grind (arith, nat_tests) in ap (λ b. b && true) test
last_fails (d ∷ front) c h = ap (λ b. nat_lt d 128 && b) (last_fails front c h) ∙ and_false (nat_lt d 128)

pub not_ascii : (front : List ℕ) (c : ℕ) → 128 ≤ c → place_from 0 signs (front ++ c ∷ []) ≡ None
not_ascii front c h = by_sign (place_from 0 signs (front ++ c ∷ [])) refl
  where
    by_sign : (r : Option ℕ) → place_from 0 signs (front ++ c ∷ []) ≡ r → place_from 0 signs (front ++ c ∷ []) ≡ None
    by_sign None e = e
    by_sign (Some k) e = let never : false ≡ true = sym (last_fails front c h) ∙ held is_ascii 0 signs (front ++ c ∷ []) k all_ascii e in absurd (cc never)
