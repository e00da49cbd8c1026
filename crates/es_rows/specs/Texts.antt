-- What the rows of String say of texts (ECMA-262 6.1.4, 11.1.4, 22.1.3).
use Rattle.std.specs.Prelude.{ℕ, zero, suc, ◌+◌, Bool, cond, ◌&&◌, List, [], ◌∷◌, ◌++◌, length, take, drop, Option, Some, None}
use Rattle.js_value.specs.Value.{Text, same_text}
use Rattle.js_value.specs.Text.{is_leading_surrogate, is_trailing_surrogate, code_point}

-- the substring from one index to another, empty where the second is no greater
abbrev pub substring : Text → (from to : ℕ) → Text
substring t from to = drop from (take to t)

-- the text begins with the other one
abbrev pub begins_with : (search t : Text) → Bool
begins_with search t = same_text (take (length search) t) search

-- StringIndexOf (6.1.4.1): the least index, from the index of the text's first unit on, at which the other one stands
abbrev pub index_from : (at : ℕ) → (search t : Text) → Option ℕ
index_from at search [] = cond (begins_with search []) (Some at) None
index_from at search (u ∷ us) = cond (begins_with search (u ∷ us)) (Some at) (index_from (suc at) search us)

abbrev pub string_index_of : (t search : Text) → (from : ℕ) → Option ℕ
string_index_of t search from = index_from from search (drop from t)

-- CodePointAt (11.1.4) of the first unit: a pair of surrogates is one code point, and a lone one stands for itself
abbrev pub first_code_point : Text → Option ℕ
first_code_point [] = None
first_code_point (a ∷ []) = Some a
first_code_point (a ∷ b ∷ us) = Some (cond (is_leading_surrogate a && is_trailing_surrogate b) (code_point (a ∷ b ∷ [])) a)

-- so many copies of the text
abbrev pub copies : ℕ → Text → Text
copies zero t = []
copies (suc n) t = t ++ copies n t

-- the text again and again, cut to a length; the text isn't empty
abbrev pub filled : (size : ℕ) → Text → Text
filled size t = take size (copies size t)

-- String.prototype.split (22.1.3.23), steps 11 to 17: the substrings between the places of a separator that isn't empty.
-- Each turn leaves a shorter text.
abbrev pub cut_at : (turns : ℕ) → (t separator : Text) → Option ℕ → (next : Text → List Text) → List Text
cut_at turns t separator None next = t ∷ []
cut_at turns t separator (Some j) next = substring t 0 j ∷ next (drop (j + length separator) t)

abbrev pub pieces_between : (turns : ℕ) → (separator t : Text) → List Text
pieces_between zero separator t = t ∷ []
pieces_between (suc turns) separator t = cut_at turns t separator (string_index_of t separator 0) (pieces_between turns separator)

-- step 9: the units, each a text
abbrev pub units_as_texts : Text → List Text
units_as_texts [] = []
units_as_texts (u ∷ us) = (u ∷ []) ∷ units_as_texts us

-- steps 9 to 17
abbrev pub pieces_of : (separator t : Text) → List Text
pieces_of [] t = units_as_texts t
pieces_of (u ∷ us) [] = [] ∷ []
pieces_of (u ∷ us) t = pieces_between (length t) (u ∷ us) t
