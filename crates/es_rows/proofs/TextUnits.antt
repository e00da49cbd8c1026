-- Parts and joins of texts have units of 16 bits, where the texts have, and what is read from a text is a Number.
use Rattle.std.proofs.Common.{ℕ, zero, suc, ◌+◌, ◌-◌, ◌*◌, ◌≤◌, ◌<◌, Bool, true, false, cond, if◌then◌else◌, ◌&&◌, List, [], ◌∷◌, length, take, drop, ℤ, pos, negsuc, Option, Some, None, IfSome, arith}
use Rattle.js_value.specs.Value.{Text}
use Rattle.js_value.specs.Number.{greatest}
use Rattle.js_value.specs.Order.{AreUnits}
use Rattle.js_value.specs.Word.{residue}
use Rattle.js_value.specs.Text.{is_leading_surrogate, is_trailing_surrogate, code_point}
use Rattle.js_value.specs.Numeral.{is_white_space}
use Rattle.js_value.specs.Literal.{trim_start, trim_end, is_empty}
use Rattle.es_ops.proofs.ReadsRelated.{units_joined}
use Rattle.es_rows.specs.Texts.{substring, begins_with, index_from, string_index_of, first_code_point, copies, filled, cut_at, pieces_between, units_as_texts, pieces_of}

pub units_taken : (n : ℕ) (t : Text) → AreUnits t → AreUnits (take n t)
units_taken zero [] h = tt
units_taken zero (u ∷ us) h = tt
units_taken (suc n) [] h = tt
units_taken (suc n) (u ∷ us) h = (h.0, units_taken n us h.1)

pub units_dropped : (n : ℕ) (t : Text) → AreUnits t → AreUnits (drop n t)
units_dropped zero [] h = tt
units_dropped zero (u ∷ us) h = h
units_dropped (suc n) [] h = tt
units_dropped (suc n) (u ∷ us) h = units_dropped n us h.1

pub units_of_part : (t : Text) (from to : ℕ) → AreUnits t → AreUnits (substring t from to)
units_of_part t from to h = units_dropped from (take to t) (units_taken to t h)

pub units_copied : (n : ℕ) (t : Text) → AreUnits t → AreUnits (copies n t)
units_copied zero t h = tt
units_copied (suc n) t h = units_joined t (copies n t) h (units_copied n t h)

pub units_filled : (n : ℕ) (t : Text) → AreUnits t → AreUnits (filled n t)
units_filled n t h = units_taken n (copies n t) (units_copied n t h)

-- ---- white space

pub units_from_start : (t : Text) → AreUnits t → AreUnits (trim_start t)
units_from_start [] h = tt
units_from_start (u ∷ us) h = by_test (is_white_space u) (units_from_start us h.1)
  where
    by_test : (b : Bool) → AreUnits (trim_start us) → AreUnits (if b then trim_start us else u ∷ us)
    by_test true later = later
    by_test false later = h

pub units_to_end : (t : Text) → AreUnits t → AreUnits (trim_end t)
units_to_end [] h = tt
units_to_end (u ∷ us) h = by_test (is_white_space u && is_empty (trim_end us)) (units_to_end us h.1)
  where
    by_test : (b : Bool) → AreUnits (trim_end us) → AreUnits (if b then [] else u ∷ trim_end us)
    by_test true later = tt
    by_test false later = (h.0, later)

-- ---- lists of texts

abbrev pub AreTexts : List Text → Type 0
AreTexts [] = Unit {0}
AreTexts (t ∷ ts) = AreUnits t × AreTexts ts

pub texts_taken : (n : ℕ) (ts : List Text) → AreTexts ts → AreTexts (take n ts)
texts_taken zero [] h = tt
texts_taken zero (t ∷ ts) h = tt
texts_taken (suc n) [] h = tt
texts_taken (suc n) (t ∷ ts) h = (h.0, texts_taken n ts h.1)

units_alone : (t : Text) → AreUnits t → AreTexts (units_as_texts t)
units_alone [] h = tt
units_alone (u ∷ us) h = ((h.0, tt), units_alone us h.1)

texts_cut : (turns : ℕ) (t separator : Text) (o : Option ℕ) (next : Text → List Text) → AreUnits t → ((t : Text) → AreUnits t → AreTexts (next t)) → AreTexts (cut_at turns t separator o next)
texts_cut turns t separator None next h k = (h, tt)
texts_cut turns t separator (Some j) next h k = (units_of_part t 0 j h, k _ (units_dropped (j + length separator) t h))

texts_between : (turns : ℕ) (separator t : Text) → AreUnits t → AreTexts (pieces_between turns separator t)
texts_between zero separator t h = (h, tt)
texts_between (suc turns) separator t h = texts_cut turns t separator (string_index_of t separator 0) (pieces_between turns separator) h (texts_between turns separator)

pub texts_of_pieces : (separator t : Text) → AreUnits t → AreTexts (pieces_of separator t)
texts_of_pieces [] t h = units_alone t h
texts_of_pieces (u ∷ us) [] h = (tt, tt)
texts_of_pieces (u ∷ us) (x ∷ xs) h = texts_between (length (x ∷ xs)) (u ∷ us) (x ∷ xs) h

-- ---- numbers

pub unit_of_number : (z : ℤ) → residue z 65536 < 65536
unit_of_number (pos n) = omega arith
unit_of_number (negsuc n) = omega arith

-- a text stands no later than at the other's end
index_bound : (at : ℕ) (sought t : Text) → IfSome (index_from at sought t) (λ i. i ≤ length t + at)
index_bound at sought [] = by_test (begins_with sought [])
  where
    by_test : (b : Bool) → IfSome (cond b (Some at) None) (λ i. i ≤ 0 + at)
    by_test true = omega arith
    by_test false = tt
index_bound at sought (u ∷ us) = by_test (begins_with sought (u ∷ us)) (index_bound (suc at) sought us)
  where
    later : (o : Option ℕ) → IfSome o (λ i. i ≤ length us + suc at) → IfSome o (λ i. i ≤ suc (length us) + at)
    later None h = tt
    later (Some i) h = omega (arith, h)

    by_test : (b : Bool) → IfSome (index_from (suc at) sought us) (λ i. i ≤ length us + suc at) → IfSome (cond b (Some at) (index_from (suc at) sought us)) (λ i. i ≤ suc (length us) + at)
    by_test true h = omega arith
    by_test false h = later (index_from (suc at) sought us) h

dropped_bound : (n : ℕ) (t : Text) → n ≤ length t → length (drop n t) + n ≤ length t
dropped_bound zero [] h = omega arith
dropped_bound zero (u ∷ us) h = omega arith
dropped_bound (suc n) [] h = omega (arith, h)
dropped_bound (suc n) (u ∷ us) h = let d = dropped_bound n us (omega (arith, h)) in omega (arith, d)

pub string_index_bound : (t sought : Text) (from : ℕ) → from ≤ length t → IfSome (string_index_of t sought from) (λ i. i ≤ length t)
string_index_bound t sought from h = within (index_from from sought (drop from t)) (index_bound from sought (drop from t))
  where
    within : (o : Option ℕ) → IfSome o (λ i. i ≤ length (drop from t) + from) → IfSome o (λ i. i ≤ length t)
    within None g = tt
    within (Some i) g = let d = dropped_bound from t h in omega (arith, g, d)

pair_bound : (a b : ℕ) → a < 65536 → b < 65536 → code_point (a ∷ b ∷ []) ≤ greatest
pair_bound a b h g = by_test (is_leading_surrogate a && is_trailing_surrogate b)
  where
    by_test : (t : Bool) → (if t then (a - 0xD800) * 0x400 + (b - 0xDC00) + 0x10000 else 0xFFFD) ≤ greatest
    by_test true = omega (arith, h, g)
    by_test false = omega arith

pub code_point_bound : (t : Text) → AreUnits t → IfSome (first_code_point t) (λ n. n ≤ greatest)
code_point_bound [] h = tt
code_point_bound (a ∷ []) h = let g = h.0 in omega (arith, g)
code_point_bound (a ∷ b ∷ us) h = by_test (is_leading_surrogate a && is_trailing_surrogate b)
  where
    by_test : (t : Bool) → cond t (code_point (a ∷ b ∷ [])) a ≤ greatest
    by_test true = pair_bound a b h.0 h.1.0
    by_test false = let g = h.0 in omega (arith, g)
