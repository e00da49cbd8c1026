-- The names of a module, and their numbers.
use Rattle.std.proofs.Common.{◌≡◌, ◌≤◌, ◌<◌, ◌∙◌, ◌++◌, ◌+◌, ℕ, Bool, true, false, cond, nat_lt, List, [], ◌∷◌, length, Some, None, unwrap_or, if◌then◌else◌, length-append, get_or, drop, not, refl, ap, sym, arith}
use Rattle.std.specs.List.{position, position_or_len}
use Rattle.std.specs.Str.{bytes_eq}
use borrow.Author.Tests.{ltb-false}
use Rattle.std.proofs.lemmas.List.Sums.{prefix_len-le-length}
use Rattle.std.proofs.lemmas.List.{at_drop_more, at_drop_all}
use Rattle.xs_cli.specs.Code.{has_name, with_name, with_names, names_of}

pub with_name_old : (names : List (List ℕ)) (text : List ℕ) → has_name names text ≡ true → with_name names text ≡ names
with_name_old names text h = rw h refl

pub with_name_new : (names : List (List ℕ)) (text : List ℕ) → has_name names text ≡ false → with_name names text ≡ names ++ text ∷ []
with_name_new names text h = rw h refl

abbrev pub place_of : List (List ℕ) → List ℕ → ℕ
place_of names text = position_or_len (λ name. bytes_eq name text) names

place_by : (names : List (List ℕ)) (text : List ℕ) (b : Bool) → nat_lt (place_of names text) (length names) ≡ b → unwrap_or (cond b (Some (place_of names text)) None) (length names) ≡ place_of names text
place_by names text true t = refl
place_by names text false t = let few = prefix_len-le-length (λ name. not (bytes_eq name text)) names in let many : length names ≤ place_of names text = ltb-false _ _ t in omega (arith, few, many)

pub place_or_length : (names : List (List ℕ)) (text : List ℕ) → unwrap_or (position (λ name. bytes_eq name text) names) (length names) ≡ place_of names text
place_or_length names text = place_by names text (nat_lt (place_of names text) (length names)) refl

-- ---- the names of all texts

pub names_more : (texts names next : List (List ℕ)) (i : ℕ) (item : List ℕ) → names_of texts ≡ with_names names (drop i texts) → i < length texts → item ≡ get_or texts i item → next ≡ with_name names item → names_of texts ≡ with_names next (drop (i + 1) texts)
unfolding with_names
names_more texts names next i item inv h e n =
    inv ∙ at_drop_more (λ rest. with_names names rest) texts i item h
    ∙ ap (λ t. with_names (with_name names t) (drop (i + 1) texts)) (sym e)
    ∙ ap (λ all. with_names all (drop (i + 1) texts)) (sym n)

pub names_end : (texts names : List (List ℕ)) (i : ℕ) → names_of texts ≡ with_names names (drop i texts) → length texts ≤ i → names ≡ names_of texts
unfolding with_names
names_end texts names i inv h = sym (inv ∙ at_drop_all (λ rest. with_names names rest) texts i h)

length_by : (b : Bool) (names : List (List ℕ)) (text : List ℕ) → length (if b then names else names ++ text ∷ []) ≤ length names + 1
length_by true names text = omega arith
length_by false names text = omega (arith, length-append names (text ∷ []))

length_more : (names texts : List (List ℕ)) → length (with_names names texts) ≤ length names + length texts
unfolding with_names
length_more names [] = omega arith
length_more names (text ∷ texts) = omega (arith, length_more (with_name names text) texts, length_by (has_name names text) names text)

pub length-names_of : (texts : List (List ℕ)) → length (names_of texts) ≤ 1 + length texts
length-names_of texts = length_more _ texts
