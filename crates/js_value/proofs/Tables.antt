-- Ascending lists of texts: what a search by halves finds in them.
use Rattle.std.proofs.Common.{◌≡◌, ◌↔◌, ℕ, zero, suc, ◌+◌, ◌<◌, Bool, true, false, List, [], ◌∷◌, ◌++◌, length, map, Some, None, Result, Ok, Err, get_or, slice_get, IsSorted, HoldsAt, ⊎_elim, refl, sym, ◌∙◌, ap, ap₂, arith, nat_lt, take, drop}
use Rattle.std.specs.Cmp.{first_so, second_so}
use Rattle.std.specs.Cmp.Lexicographic.{slice_cmp}
use Rattle.std.specs.List.{list_all}
use Rattle.std.specs.List.Sorted.{IsBinarySearchResult, IsSearchInRange, IsPartitionPoint}
use Rattle.std.specs.Option.{option_map}
use Rattle.std.specs.Ordering.{nat_cmp, is_lt, ordering_reverse, ordering_then}
use Rattle.std.specs.Result.{result_ok}
use Rattle.std.specs.declared.cmp.Ordering.{Ordering}
use Rattle.std.specs.declared.cmp.Ordering.TheVariants.{Less, Equal, Greater}
use Rattle.std.proofs.lemmas.Cmp.{nat_cmp_total, nat_list_cmp_total, tied_itself}
use Rattle.std.proofs.lemmas.List.Sorted.{searchable_from_sorted}
use Rattle.std.proofs.lemmas.Map.Lookups.{exact_bytes}
use Rattle.std.proofs.lemmas.Option.{slice_get-map, slice_get-get_or, slice_get_cases}
use Rattle.std.proofs.lemmas.Bool.{cases_lt}
use Rattle.std.proofs.lemmas.Bool.Decides.{nat_tests}
use Rattle.js_value.specs.Text.{scalar_value, sequence_length, units, utf16}
use Rattle.js_value.specs.Case.{IsDecided, comes_before, are_ascending, are_keys, texts}
use Rattle.js_value.proofs.Sequences.{units-split}
use Rattle.js_value.proofs.Ascii.{units-none, units-ascii_cons}

abbrev compared : List ℕ → List ℕ → Ordering
compared a b = slice_cmp nat_cmp a b

-- equal fronts decide nothing
pub same_front : (front a b : List ℕ) → compared (front ++ a) (front ++ b) ≡ compared a b
same_front [] a b = refl
same_front (x ∷ front) a b = ap (λ o. ordering_then o (compared (front ++ a) (front ++ b))) (tied_itself nat_cmp_total x) ∙ same_front front a b

pub decided_behind : (x : ℕ) (front text : List ℕ) (order : Ordering) → IsDecided front text order → IsDecided (x ∷ front) (x ∷ text) order
decided_behind x front text order h rest = same_front (x ∷ []) (front ++ rest) text ∙ h rest

pub decided_by_first : (x : ℕ) (front text : List ℕ) (order : Ordering) → IsDecided (x ∷ []) text order → IsDecided (x ∷ front) text order
decided_by_first x front text order h rest = h (front ++ rest)

-- a key that is read a sequence at a time

module _ (bytes : List ℕ) (n : ℕ) (some : 0 < length bytes) (cut : sequence_length bytes ≡ n) where
  pub cut_same : (text rest : List ℕ) → text ≡ utf16 (scalar_value (take n bytes)) ++ rest → compared (units (drop n bytes)) rest ≡ compared (units bytes) text
  cut_same text rest e =
      sym (same_front (utf16 (scalar_value (take n bytes))) (units (drop n bytes)) rest)
      ∙ ap₂ compared (sym (units-split bytes n some cut)) (sym e)

  pub cut_decided : (text : List ℕ) (order : Ordering) → IsDecided (utf16 (scalar_value (take n bytes))) text order → order ≡ compared (units bytes) text
  cut_decided text order h = sym (h (units (drop n bytes))) ∙ ap (λ t. compared t text) (sym (units-split bytes n some cut))

-- the same where the first byte is a unit

pub ascii_same : (bytes : List ℕ) → 0 < length bytes → get_or bytes 0 0 < 128 → (text rest : List ℕ) → text ≡ get_or bytes 0 0 ∷ rest → compared (units (drop 1 bytes)) rest ≡ compared (units bytes) text
ascii_same [] some low text rest e = absurd (omega arith)
ascii_same (x ∷ after) some low text rest e =
    sym (same_front (x ∷ []) (units after) rest) ∙ ap₂ compared (sym (units-ascii_cons x after low)) (sym e)

pub ascii_decided : (bytes : List ℕ) → 0 < length bytes → get_or bytes 0 0 < 128 → (text : List ℕ) (order : Ordering) → IsDecided (get_or bytes 0 0 ∷ []) text order → order ≡ compared (units bytes) text
ascii_decided [] some low text order h = absurd (omega arith)
ascii_decided (x ∷ after) some low text order h = sym (h (units after)) ∙ ap (λ t. compared t text) (sym (units-ascii_cons x after low))

pub key_ended : (text : List ℕ) → nat_cmp 0 (length text) ≡ compared (units []) text
key_ended [] = ap (λ t. compared t []) (sym units-none)
key_ended (x ∷ text) =
    let low : nat_lt 0 (length (x ∷ text)) ≡ true = grind (arith, nat_tests) in
    rw low (ap (λ t. compared t (x ∷ text)) (sym units-none))

less : (o : Ordering) → is_lt o ≡ true → o ≡ Less
less Less h = refl
less Equal h = cc
less Greater h = cc

-- a text comes before each of those behind it
before_later : (a : List ℕ) (rest : List (List ℕ)) (j : ℕ) (b : List ℕ) → are_ascending (a ∷ rest) ≡ true → slice_get rest j ≡ Some b → compared a b ≡ Less
before_later a [] j b h e = cc
before_later a (c ∷ rest) zero b h e =
    let same : c ≡ b = cc in
    ap (compared a) (sym same) ∙ less _ (first_so _ _ h)
before_later a (c ∷ rest) (suc j) b h e =
    nat_list_cmp_total.trans a c b (less _ (first_so _ _ h)) (before_later c rest j b (second_so (comes_before a c) _ h) e)

behind_ascends : (a : List ℕ) (rest : List (List ℕ)) → are_ascending (a ∷ rest) ≡ true → are_ascending rest ≡ true
behind_ascends a [] h = refl
behind_ascends a (c ∷ rest) h = second_so (comes_before a c) _ h

-- of two rows the earlier one's text comes before the later one's
pub rows_rise : (texts : List (List ℕ)) (i j : ℕ) (a b : List ℕ) → are_ascending texts ≡ true → i < j → slice_get texts i ≡ Some a → slice_get texts j ≡ Some b → compared a b ≡ Less
rows_rise [] i j a b h less d e = cc
rows_rise (x ∷ rest) zero zero a b h less d e = absurd (omega arith)
rows_rise (x ∷ rest) zero (suc j) a b h less d e =
    let same : x ≡ a = cc in
    ap (λ t. compared t b) (sym same) ∙ before_later x rest j b h e
rows_rise (x ∷ rest) (suc i) zero a b h less d e = absurd (omega arith)
rows_rise (x ∷ rest) (suc i) (suc j) a b h less d e = rows_rise rest i j a b (behind_ascends x rest h) (omega arith) d e

never_before_itself : (a : List ℕ) → compared a a ≡ Less → ⊥
never_before_itself a h = let same = tied_itself nat_list_cmp_total a in cc

-- no text stands in two rows
pub rows_differ : (texts : List (List ℕ)) (i j : ℕ) (a : List ℕ) → are_ascending texts ≡ true → slice_get texts i ≡ Some a → slice_get texts j ≡ Some a → i ≡ j
rows_differ texts i j a h d e =
    ⊎_elim
    (λ below. absurd (never_before_itself a (rows_rise texts i j a a h below d e)))
    (λ upto. ⊎_elim
    (λ below. absurd (never_before_itself a (rows_rise texts j i a a h below e d)))
    (λ back. omega arith)
    (cases_lt j i))
    (cases_lt i j)

module _ {X : Type 0} (text : X → List ℕ) where
  text_at : (keys : List X) (row : ℕ) (d : X) → row < length keys → slice_get (map text keys) row ≡ Some (text (get_or keys row d))
  text_at keys row d h = slice_get-map text keys row ∙ ap (option_map text) (slice_get-get_or keys row d h)

  not_back : (o r : Ordering) → o ≡ ordering_reverse r → r ≡ Less → is_lt o ≡ false
  not_back o r e h = ap is_lt (e ∙ ap ordering_reverse h)

  sorted : (keys : List X) → are_ascending (map text keys) ≡ true → IsSorted (λ a b. compared (text a) (text b)) keys
  sorted keys h k d low high =
      let a = text (get_or keys k d) in
      let b = text (get_or keys (k + 1) d) in
      not_back (compared b a) (compared a b) (nat_list_cmp_total.antisymm b a)
      (rows_rise (map text keys) k (k + 1) a b h (omega arith) (text_at keys k d (omega arith)) (text_at keys (k + 1) d high))

  -- the text of a key that a row has
  text_in : (keys : List X) (row : ℕ) (key : X) → slice_get keys row ≡ Some key → slice_get (map text keys) row ≡ Some (text key)
  text_in keys row key h = slice_get-map text keys row ∙ ap (option_map text) h

  beyond : (keys : List X) (row : ℕ) (units : List ℕ) → slice_get keys row ≡ None → slice_get (map text keys) row ≡ Some units → ⊥
  beyond keys row units h e = let none = slice_get-map text keys row ∙ ap (option_map text) h in cc

  -- a search that ends between two keys: the text is before the one and behind the other
  absent : (keys : List X) (units : List ℕ) (i row : ℕ) → IsPartitionPoint (λ key. compared (text key) units ≡ Less) (λ key. compared (text key) units ≡ Greater) keys i
      → slice_get (map text keys) row ≡ Some units → ⊥
  absent keys units i row parted e =
      ⊎_elim
      (λ w. let same : text w.0 ≡ units = let at = text_in keys row w.0 w.2 in cc in
      let read = ap (λ key. compared (text key) units) w.3 in
      let itself = tied_itself nat_list_cmp_total units in
      let own = ap (λ t. compared t units) same in
      ⊎_elim
      (λ below. let o = parted.0 row w.0 (omega arith) below in cc)
      (λ upto. let o = parted.1 row w.0 upto w.1 in cc)
      (cases_lt row i))
      (λ past. beyond keys row units past.1 e)
      (slice_get_cases keys row).1

  present : (keys : List X) (units : List ℕ) (i : ℕ) → i < length keys → HoldsAt (λ key. compared (text key) units ≡ Equal) keys i → slice_get (map text keys) i ≡ Some units
  present keys units i range found =
      ⊎_elim
      (λ w. text_at keys i w.0 range ∙ ap (λ t. Some t) (exact_bytes _ _ (found w.0)))
      (λ past. absurd (omega (arith, past.0)))
      (slice_get_cases keys i).1

  -- what a search by halves answers: the row of the text, where it stands in one
  pub row_from_search : (keys : List X) (units : List ℕ) (r : Result ℕ ℕ) → are_ascending (map text keys) ≡ true → IsSearchInRange r (length keys)
      → IsBinarySearchResult (λ key. compared (text key) units) keys r
      → (row : ℕ) → (result_ok r ≡ Some row) ↔ (slice_get (map text keys) row ≡ Some units)
  row_from_search keys units (Ok i) h range found row =
      let here = present keys units i range found in (
        λ e. let same : i ≡ row = cc in ap (slice_get (map text keys)) (sym same) ∙ here,
        λ e. ap (λ k. Some k) (rows_differ (map text keys) i row units h here e),
      )
  row_from_search keys units (Err i) h range parted row =
      (λ e. cc, λ e. absurd (absent keys units i row (parted (searchable_from_sorted nat_list_cmp_total text keys units (sorted keys h))) e))

-- keys that are ASCII: their bytes are the units of their texts

abbrev pub is_ascii : List ℕ → Bool
is_ascii key = list_all (λ byte. nat_lt byte 0x80) key

key_text : (key : List ℕ) → is_ascii key ≡ true → units key ≡ key
key_text [] h = units-none
key_text (byte ∷ key) h =
    let test : nat_lt byte 0x80 ≡ true = first_so _ _ h in
    let low : byte < 128 = grind (arith, nat_tests) in
    units-ascii_cons byte key low ∙ ap (λ s. byte ∷ s) (key_text key (second_so (nat_lt byte 0x80) _ h))

pub texts-ascii : (keys : List (List ℕ)) → list_all is_ascii keys ≡ true → texts keys ≡ keys
texts-ascii [] h = refl
texts-ascii (key ∷ keys) h = λ i. key_text key (first_so (is_ascii key) _ h) i ∷ texts-ascii keys (second_so (is_ascii key) _ h) i

pub keys_when_ascii : (keys : List (List ℕ)) → list_all is_ascii keys ≡ true → are_ascending keys ≡ true → are_keys keys ≡ true
keys_when_ascii keys h ascending = ap are_ascending (texts-ascii keys h) ∙ ascending

-- the texts of keys, read from the keys' own type
pub texts_of : {X : Type 0} (text : X → List ℕ) (keys : List X) → texts (map text keys) ≡ map (λ key. units (text key)) keys
texts_of text [] = refl
texts_of text (key ∷ keys) = ap (λ rest. units (text key) ∷ rest) (texts_of text keys)
