-- A string's key is a key, and so is a Number's.
use Rattle.std.proofs.Common.{◌≡◌, ℕ, ◌<◌, Bool, true, false, cond, ◌&&◌, ℤ, pos, negsuc, nat_lt, bytes_eq, arith, refl, ap, zero-lt-suc, lit≤, ◌∙◌, ◌≤◌, Option, Some, None}
use Rattle.std.proofs.lemmas.Bool.Decides.{nat_tests}
use Rattle.std.specs.Fmt.{decimal, digits}
use Rattle.std.specs.Str.Parse.{digits_value}
use Rattle.std.proofs.lemmas.Fmt.{decimal_is_IsNumeral}
use Rattle.js_value.specs.Number.{IsNumber, greatest}
use Rattle.js_value.specs.NumberText.{index_of_text, index_in_range, text_of_number}
use Rattle.js_value.specs.Literal.{digits_number}
use Rattle.js_value.specs.Value.{Text, Index, Numeral, key_by, key_of_text, key_of_number}
use Rattle.js_value.specs.Order.{IsString, IsName, IsKey}
use Rattle.js_value.proofs.Reading.{number_none_other, number_some}
use Rattle.js_value.proofs.Profile.{text_of_number_is_string}

range_of : (us : Text) (o : Option ℕ) (i : ℕ) → index_in_range us o ≡ Some i → i < 4294967295
range_of us None i e = absurd (cc)
range_of us (Some n) i e = by_tests (nat_lt n 4294967295) (bytes_eq (text_of_number (pos n)) us) refl e
  where
    by_tests : (a b : Bool) → nat_lt n 4294967295 ≡ a → cond (a && b) (Some n) None ≡ Some i → i < 4294967295
    by_tests true true q f = let same : n ≡ i = cc in grind (arith, nat_tests)
    by_tests true false q f = absurd (cc)
    by_tests false b q f = absurd (cc)

pub key_of_text_is_key : (t : Text) → IsString t → IsKey (key_of_text t)
key_of_text_is_key t h = by_index (index_of_text t) refl
  where
    by_index : (o : Option ℕ) → index_of_text t ≡ o → IsKey (key_by t o)
    by_index None e = record { text = h; no_index = e }
    by_index (Some i) e = range_of t (digits_number 10 t) i e

numeral_is_name : (z : ℤ) → index_of_text (text_of_number z) ≡ None → IsName (text_of_number z)
numeral_is_name z e = record { text = text_of_number_is_string z; no_index = e }

key_of_negative_is_key : (n : ℕ) → IsKey (key_of_number (negsuc n))
key_of_negative_is_key n = numeral_is_name (negsuc n) (ap (index_in_range (text_of_number (negsuc n))) (number_none_other 10 (text_of_number (negsuc n)) 0 (zero-lt-suc _) (lit≤ tt)))

-- a Number past the indices is read back from its text, and so its text is no index
numeral_is_no_index : (n : ℕ) → IsNumber (pos n) → nat_lt n 4294967295 ≡ false → index_of_text (text_of_number (pos n)) ≡ None
unfolding digits
numeral_is_no_index n h e =
    let b : n ≤ greatest = h.bound in
    let numeral = decimal_is_IsNumeral n (omega arith) in
    let value : digits_value 10 (decimal n) ≡ n = numeral.1 in
    let read : digits_number 10 (decimal n) ≡ Some n = number_some 10 (decimal n) numeral.0 (rw value b) ∙ ap (λ m. Some m) value in
    ap (index_in_range (decimal n)) read ∙ ap (λ b. cond (b && bytes_eq (text_of_number (pos n)) (decimal n)) (Some n) None) e

pub key_of_number_is_key : (z : ℤ) → IsNumber z → IsKey (key_of_number z)
key_of_number_is_key (negsuc n) h = key_of_negative_is_key n
key_of_number_is_key (pos n) h = by_test (nat_lt n 4294967295) refl
  where
    by_test : (b : Bool) → nat_lt n 4294967295 ≡ b → IsKey (cond b (Index n) (Numeral (pos n)))
    by_test true q = limit n q
      where
        limit : (k : ℕ) → nat_lt k 4294967295 ≡ true → k < 4294967295
        limit k r = grind (arith, nat_tests)
    by_test false q = numeral_is_name (pos n) (numeral_is_no_index n h q)
